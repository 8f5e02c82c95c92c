-- Fields, and paths that begin with them.
use Rattle.std.proofs.Common.{◌≡◌, ℕ, ◌<◌, List, [], ◌∷◌, ◌++◌, ◌||◌, map, length, get_or, String, Global, string_bytes, nat_cmp, refl, ap, ◌∙◌, arith}
use Rattle.std.specs.BTreeMap.{is_at}
use Rattle.std.specs.Cmp.Lexicographic.{slice_cmp}
use Rattle.std.specs.List.{list_any}
use Rattle.sdb_value.specs.Value.{PlainStep, key, index, texts_equal}
use Rattle.sdb_value.specs.View.{plain_step, plain_path}
use Rattle.sdb_value.specs.declared.path.Step.{Step}
use Rattle.sdb_projection.specs.ProjectionModel.{path_starts_at_field}

pub any_field : (k : List ℕ) (ks : List (String Global)) → list_any (is_at (λ s. slice_cmp nat_cmp k (string_bytes s))) ks ≡ list_any (texts_equal k) (map string_bytes ks)
any_field k [] = refl
any_field k (s ∷ ks) = ap (λ b. texts_equal k (string_bytes s) || b) (any_field k ks)

first_alone : (fields : List (List ℕ)) (w : PlainStep) (p q : List PlainStep) → path_starts_at_field fields (w ∷ p) ≡ path_starts_at_field fields (w ∷ q)
first_alone fields (key k) p q = refl
first_alone fields (index i) p q = refl

-- only the first step matters
pub first_step : (fields : List (List ℕ)) (ps : List Step) (x : Step) (q : List PlainStep) → 0 < length ps → x ≡ get_or ps 0 x → path_starts_at_field fields (plain_step x ∷ []) ≡ path_starts_at_field fields (plain_path ps ++ q)
first_step fields [] x q h is = absurd (omega arith)
first_step fields (y ∷ ps) x q h is = ap (λ z. path_starts_at_field fields (plain_step z ∷ [])) is ∙ first_alone fields (plain_step y) [] (plain_path ps ++ q)
