-- The index of a log that grows.
use Rattle.std.proofs.Common.{◌≡◌, ℕ, suc, ◌+◌, List, [], ◌∷◌, ◌++◌, length, Bool, true, false, cond, ◌&&◌, Option, Some, None, refl, sym, ap, ◌∙◌, arith, bytes_eq, nat_eq}
use Rattle.std.proofs.lemmas.Bool.{eqb-true}
use Rattle.std.proofs.lemmas.Slice.Eq.{bytes_eq-Decides}
use Rattle.std.specs.Option.{option_map}
use Rattle.sdb_oplog.specs.Plain.{PlainEntry}
use Rattle.sdb_oplog.specs.Snap.{stored_at, has_identifier}
use Rattle.sdb_oplog.specs.IndexModel.{indexed_version}
use Rattle.sdb_oplog.specs.declared.index.Index.{Index}
use Rattle.sdb_oplog.proofs.LogGrowth.{none_more}

prefix_step : (b : Bool) (o p : Option ℕ) (i : ℕ) → cond b (Some 0) (option_map (λ k. k + 1) o) ≡ Some i → ((j : ℕ) → o ≡ Some j → p ≡ Some j) → cond b (Some 0) (option_map (λ k. k + 1) p) ≡ Some i
prefix_step true o p i e h = e
prefix_step false None p i e h = cc
prefix_step false (Some j) p i e h = ap (option_map (λ k. k + 1)) (h j refl) ∙ e

-- an entry that is found stays at its version
found_prefix : (es : List PlainEntry) (s : List ℕ) (n i : ℕ) (e : PlainEntry) → stored_at s n es ≡ Some i → stored_at s n (es ++ e ∷ []) ≡ Some i
found_prefix [] s n i e h = cc
found_prefix (x ∷ es) s n i e h = prefix_step (has_identifier s n x) (stored_at s n es) (stored_at s n (es ++ e ∷ [])) i h (λ j k. found_prefix es s n j e k)

last_step : (b : Bool) (o p : Option ℕ) (k : ℕ) → cond b (Some 0) (option_map (λ j. j + 1) o) ≡ None → (o ≡ None → p ≡ Some k) → cond b (Some 0) (option_map (λ j. j + 1) p) ≡ Some (suc k)
last_step true o p k e h = cc
last_step false None p k e h = ap (option_map (λ j. j + 1)) (h refl) ∙ ap Some (omega arith)
last_step false (Some j) p k e h = cc

-- an entry that wasn't found is found at the end
found_last : (es : List PlainEntry) (s : List ℕ) (n : ℕ) (e : PlainEntry) → stored_at s n es ≡ None → has_identifier s n e ≡ true → stored_at s n (es ++ e ∷ []) ≡ Some (length es)
found_last [] s n e h here = rw here refl
found_last (x ∷ es) s n e h here = last_step (has_identifier s n x) (stored_at s n es) (stored_at s n (es ++ e ∷ [])) (length es) h (λ k. found_last es s n e k here)

and_elim : (b c : Bool) → (b && c) ≡ true → (b ≡ true) × (c ≡ true)
and_elim true c e = (refl, e)
and_elim false c e = cc

-- the source and seq of an entry are those of its submission
from_one : (s : List ℕ) (n : ℕ) (e : PlainEntry) (es : List PlainEntry) → has_identifier s n e ≡ true → stored_at s n es ≡ stored_at e.arrived.src e.arrived.seq es
from_one s n e es h =
    let b = and_elim (nat_eq e.arrived.seq n) (bytes_eq e.arrived.src s) h in
    let m : e.arrived.seq ≡ n = eqb-true e.arrived.seq n b.0 in
    let t : e.arrived.src ≡ s = (bytes_eq-Decides e.arrived.src s).0 b.1 in
    sym (ap (λ k. stored_at e.arrived.src k es) m ∙ ap (λ x. stored_at x n es) t)

stored_at_other : (o : Option ℕ) (es : List PlainEntry) (s : List ℕ) (n : ℕ) (e : PlainEntry) → stored_at s n es ≡ o → has_identifier s n e ≡ false → stored_at s n (es ++ e ∷ []) ≡ o
stored_at_other None es s n e h isnt = none_more es s n e h isnt
stored_at_other (Some i) es s n e h isnt = found_prefix es s n i e h

index_of_append_cond : (b : Bool) (es : List PlainEntry) (s : List ℕ) (n : ℕ) (e : PlainEntry) (o p : Option ℕ) → has_identifier s n e ≡ b → stored_at e.arrived.src e.arrived.seq es ≡ None → o ≡ stored_at s n es
    → p ≡ cond b (Some (length es)) o → p ≡ stored_at s n (es ++ e ∷ [])
index_of_append_cond true es s n e o p is first old new = new ∙ sym (found_last es s n e (from_one s n e es is ∙ first) is)
index_of_append_cond false es s n e o p is first old new = new ∙ old ∙ sym (stored_at_other (stored_at s n es) es s n e refl is)

-- the index after one more entry
pub one_more_placed : (x y : Index) (es : List PlainEntry) (e : PlainEntry) → stored_at e.arrived.src e.arrived.seq es ≡ None → ((s : List ℕ) (n : ℕ) → indexed_version x s n ≡ stored_at s n es)
    → ((s : List ℕ) (n : ℕ) → indexed_version y s n ≡ cond (nat_eq e.arrived.seq n && bytes_eq e.arrived.src s) (Some (length es)) (indexed_version x s n))
    → (s : List ℕ) (n : ℕ) → indexed_version y s n ≡ stored_at s n (es ++ e ∷ [])
one_more_placed x y es e first old new s n = index_of_append_cond (has_identifier s n e) es s n e (indexed_version x s n) (indexed_version y s n) refl first (old s n) (new s n)
