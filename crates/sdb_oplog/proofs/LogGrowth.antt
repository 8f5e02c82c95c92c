-- Logs that grow.
use Rattle.std.proofs.Common.{◌≡◌, ℕ, zero, suc, ◌+◌, ◌<◌, List, [], ◌∷◌, ◌++◌, take, length, get_or, Bool, true, false, cond, ◌&&◌, Option, Some, None, Err, refl, sym, ap, ◌∙◌, append_assoc}
use Rattle.std.proofs.lemmas.List.{take_more}
use Rattle.std.specs.Option.{option_and_then, option_map, is_some, is_none}
use Rattle.std.specs.Result.{result_ok}
use Rattle.sdb_value.specs.Value.{Value}
use Rattle.sdb_oplog.specs.declared.codes.Code.{Code}
use Rattle.sdb_oplog.specs.Plain.{PlainEntry}
use Rattle.sdb_oplog.specs.Snap.{apply_content, snap_from, snap, stored_at, has_identifier, are_identifiers_new}
use Rattle.sdb_oplog.specs.laws.LogLaws.{snap_one}

-- ---- snapshots

pub snap_taken : (es : List PlainEntry) (i : ℕ) (e : PlainEntry) (m : Option Value) → i < length es → e ≡ get_or es i e → snap (take i es) ≡ Some m → snap (take (i + 1) es) ≡ result_ok (apply_content e.content m)
snap_taken es i e m h is done = ap snap (take_more es i e h ∙ ap (λ x. take i es ++ x ∷ []) (sym is)) ∙ snap_one (take i es) e None m done

lives_step : (o : Option (Option Value)) (f g : Option Value → Option (Option Value)) → ((n : Option Value) → is_some (f n) ≡ true → is_some (g n) ≡ true)
    → is_some (option_and_then f o) ≡ true → is_some (option_and_then g o) ≡ true
lives_step None f g h e = e
lives_step (Some n) f g h e = h n e

-- a prefix of a log has a document too
pub lives_prefix : (es : List PlainEntry) (n : ℕ) (d : Option Value) → is_some (snap_from d es) ≡ true → is_some (snap_from d (take n es)) ≡ true
lives_prefix [] zero d h = h
lives_prefix [] (suc n) d h = h
lives_prefix (e ∷ es) zero d h = refl
lives_prefix (e ∷ es) (suc n) d h = lives_step (result_ok (apply_content e.content d)) (λ m. snap_from m es) (λ m. snap_from m (take n es)) (λ m. lives_prefix es n m) h

-- an entry of a log applies at its version
pub no_refusal : (es : List PlainEntry) (i : ℕ) (e : PlainEntry) (m : Option Value) (c : Code) → i < length es → e ≡ get_or es i e → snap (take i es) ≡ Some m → is_some (snap es) ≡ true → apply_content e.content m ≡ Err c → ⊥
no_refusal es i e m c h is done lives isnt =
    let none : snap (take (i + 1) es) ≡ None = snap_taken es i e m h is done ∙ ap result_ok isnt in
    let some : is_some (snap (take (i + 1) es)) ≡ true = lives_prefix es (i + 1) None lives in
    let never : false ≡ true = sym (ap is_some none) ∙ some in
    cc

-- ---- versions

none_step : (b : Bool) (o p : Option ℕ) → cond b (Some 0) (option_map (λ k. k + 1) o) ≡ None → (o ≡ None → p ≡ None) → cond b (Some 0) (option_map (λ k. k + 1) p) ≡ None
none_step true o p e h = cc
none_step false None p e h = ap (option_map (λ k. k + 1)) (h refl)
none_step false (Some k) p e h = cc

pub none_more : (es : List PlainEntry) (s : List ℕ) (n : ℕ) (e : PlainEntry) → stored_at s n es ≡ None → has_identifier s n e ≡ false → stored_at s n (es ++ e ∷ []) ≡ None
none_more [] s n e h isnt = rw isnt
none_more (x ∷ es) s n e h isnt = none_step (has_identifier s n x) (stored_at s n es) _ h (λ k. none_more es s n e k isnt)

and_step : (p q r : Bool) → (p && q) ≡ true → (q ≡ true → r ≡ true) → (p && r) ≡ true
and_step true q r e h = h e
and_step false q r e h = e

pub append_none : (es : List PlainEntry) → es ++ [] ≡ es
append_none [] = refl
append_none (e ∷ es) = ap (λ l. e ∷ l) (append_none es)

pub first_more : (before es : List PlainEntry) (e : PlainEntry) → are_identifiers_new before es ≡ true → stored_at e.arrived.src e.arrived.seq (before ++ es) ≡ None → are_identifiers_new before (es ++ e ∷ []) ≡ true
first_more before [] e h isnt = let k : stored_at e.arrived.src e.arrived.seq before ≡ None = ap (stored_at e.arrived.src e.arrived.seq) (sym (append_none before)) ∙ isnt in rw k
first_more before (x ∷ es) e h isnt = and_step (is_none (stored_at x.arrived.src x.arrived.seq before)) _ _ h (λ k. first_more (before ++ x ∷ []) es e k (ap (stored_at e.arrived.src e.arrived.seq) (append_assoc before (x ∷ []) es) ∙ isnt))
