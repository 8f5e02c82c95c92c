-- An index that changes at one source.
use Rattle.std.proofs.Common.{◌≡◌, ℕ, List, [], Bool, true, false, cond, ◌&&◌, Option, Some, None, bytes_eq, nat_eq, refl, sym, ap, ◌∙◌, arith}
use Rattle.std.proofs.lemmas.Bool.{eq-eqb}
use Rattle.std.proofs.lemmas.Grind.{common_steps}
use Rattle.std.proofs.lemmas.Slice.Eq.{bytes_eq-Decides}
use Rattle.std.specs.BTreeMap.{BTreeMap, get, is_at}
use Rattle.std.specs.Map.{update, lookup}
use Rattle.std.specs.Option.{option_and_then, is_some}
use Rattle.std.specs.Ordering.{nat_cmp}

-- the versions of one source by seq
abbrev pub VersionsBySeq : Type 0
VersionsBySeq = BTreeMap ℕ ℕ

-- the versions of each source
abbrev pub VersionsBySource : Type 0
VersionsBySource = List ℕ → Option VersionsBySeq

abbrev pub version_in : VersionsBySource → List ℕ → ℕ → Option ℕ
version_in f s n = option_and_then (λ m. get nat_cmp m n) (f s)

pub is_at_nat : (k n : ℕ) → is_at (nat_cmp k) n ≡ nat_eq k n
is_at_nat k n = grind (arith, common_steps)

-- a map without entries has no version
pub none_in : (m : VersionsBySeq) (n : ℕ) → m.entries ≡ [] → get nat_cmp m n ≡ None
none_in m n e = ap (lookup (is_at (nat_cmp n))) e

-- the versions of one source after an insertion
pub get_insert : (old new : VersionsBySeq) (k at : ℕ) → ((n : ℕ) → get nat_cmp new n ≡ cond (is_at (nat_cmp k) n) (Some at) (get nat_cmp old n))
    → (n : ℕ) → get nat_cmp new n ≡ cond (nat_eq k n) (Some at) (get nat_cmp old n)
get_insert old new k at h n = h n ∙ ap (λ b. cond b (Some at) (get nat_cmp old n)) (is_at_nat k n)

put_at : (b c : Bool) (at : ℕ) (here there other : Option ℕ) → here ≡ cond c (Some at) there → (b ≡ true → there ≡ other) → cond b here other ≡ cond (c && b) (Some at) other
put_at true true at here there other e same = e
put_at true false at here there other e same = e ∙ same refl
put_at false true at here there other e same = refl
put_at false false at here there other e same = refl

version_cond : (b : Bool) (o p : Option VersionsBySeq) (n : ℕ) → option_and_then (λ m. get nat_cmp m n) (cond b o p) ≡ cond b (option_and_then (λ m. get nat_cmp m n) o) (option_and_then (λ m. get nat_cmp m n) p)
version_cond true o p n = refl
version_cond false o p n = refl

same_cond : (b : Bool) (here other : Option ℕ) → (b ≡ true → here ≡ other) → cond b here other ≡ other
same_cond true here other h = h refl
same_cond false here other h = refl

module _ (f g : VersionsBySource) (bs : List ℕ) (w : VersionsBySeq) (h : (cs : List ℕ) → g cs ≡ update bytes_eq f bs (Some w) cs) where
  version_is : (s : List ℕ) (n : ℕ) → version_in g s n ≡ cond (bytes_eq bs s) (get nat_cmp w n) (version_in f s n)
  version_is s n = ap (option_and_then (λ m. get nat_cmp m n)) (h s) ∙ version_cond (bytes_eq bs s) (Some w) (f s) n

  version_here : (s : List ℕ) (n : ℕ) → bytes_eq bs s ≡ true → version_in f bs n ≡ version_in f s n
  version_here s n is = ap (λ x. version_in f x n) ((bytes_eq-Decides bs s).0 is)

  -- a source with one more seq
  pub version_inserted : (k at : ℕ) → ((n : ℕ) → get nat_cmp w n ≡ cond (nat_eq k n) (Some at) (version_in f bs n)) → (s : List ℕ) (n : ℕ) → version_in g s n ≡ cond (nat_eq k n && bytes_eq bs s) (Some at) (version_in f s n)
  version_inserted k at e s n = version_is s n ∙ put_at (bytes_eq bs s) (nat_eq k n) at (get nat_cmp w n) (version_in f bs n) (version_in f s n) (e n) (version_here s n)

  -- a source with equal versions
  pub version_unchanged : ((n : ℕ) → get nat_cmp w n ≡ version_in f bs n) → (s : List ℕ) (n : ℕ) → version_in g s n ≡ version_in f s n
  version_unchanged e s n = version_is s n ∙ same_cond (bytes_eq bs s) (get nat_cmp w n) (version_in f s n) (λ is. e n ∙ version_here s n is)

  has_cond : (b : Bool) (s : List ℕ) → g s ≡ cond b (Some w) (f s) → (n : ℕ) × (is_some (get nat_cmp w n) ≡ true)
      → (is_some (f s) ≡ true → (n : ℕ) × (is_some (version_in f s n) ≡ true)) → is_some (g s) ≡ true → (n : ℕ) × (is_some (version_in g s n) ≡ true)
  has_cond true s e here others there = (here.0, ap (λ o. is_some (option_and_then (λ m. get nat_cmp m here.0) o)) e ∙ here.1)
  has_cond false s e here others there =
      let u = others (sym (ap is_some e) ∙ there) in
      (u.0, ap (λ o. is_some (option_and_then (λ m. get nat_cmp m u.0) o)) e ∙ u.1)

  -- each source has a seq, if the changed one has
  pub sources_have_entries : (n : ℕ) × (is_some (get nat_cmp w n) ≡ true) → ((s : List ℕ) → is_some (f s) ≡ true → (n : ℕ) × (is_some (version_in f s n) ≡ true))
      → (s : List ℕ) → is_some (g s) ≡ true → (n : ℕ) × (is_some (version_in g s n) ≡ true)
  sources_have_entries here all s = has_cond (bytes_eq bs s) s (h s) here (all s)

-- the seq that was inserted is there
pub inserted_is_some : (w : VersionsBySeq) (k at : ℕ) (o : Option ℕ) → get nat_cmp w k ≡ cond (nat_eq k k) (Some at) o → is_some (get nat_cmp w k) ≡ true
inserted_is_some w k at o e = ap is_some (e ∙ ap (λ b. cond b (Some at) o) (eq-eqb k k refl))
