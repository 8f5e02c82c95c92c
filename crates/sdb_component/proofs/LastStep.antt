-- The last step of a path.
use Rattle.std.proofs.Common.{◌≡◌, ℕ, List, [], ◌∷◌, ◌++◌, Some, None, string_bytes, String, Global, refl, ap}
use Rattle.std.specs.Option.{option_map}
use Rattle.sdb_value.specs.View.{plain_step, plain_path}
use Rattle.sdb_value.specs.declared.path.Step.{Step}
use Rattle.sdb_value.specs.declared.path.Step.TheVariants.{Key, Index}
use Rattle.sdb_component.specs.FromJson.{split_last_index, split_last_key}

pub index_at_end : (q : List Step) (i : ℕ) → split_last_index (plain_path (q ++ Index i ∷ [])) ≡ Some (plain_path q, i)
index_at_end [] i = refl
index_at_end (s ∷ []) i = refl
index_at_end (s ∷ t ∷ q) i = ap (option_map (λ l. (plain_step s ∷ l.0, l.1))) (index_at_end (t ∷ q) i)

pub no_index_at_end : (q : List Step) (k : String Global) → split_last_index (plain_path (q ++ Key k ∷ [])) ≡ None
no_index_at_end [] k = refl
no_index_at_end (s ∷ []) k = refl
no_index_at_end (s ∷ t ∷ q) k = ap (option_map (λ l. (plain_step s ∷ l.0, l.1))) (no_index_at_end (t ∷ q) k)

pub key_at_end : (q : List Step) (k : String Global) → split_last_key (plain_path (q ++ Key k ∷ [])) ≡ Some (plain_path q, string_bytes k)
key_at_end [] k = refl
key_at_end (s ∷ []) k = refl
key_at_end (s ∷ t ∷ q) k = ap (option_map (λ l. (plain_step s ∷ l.0, l.1))) (key_at_end (t ∷ q) k)

pub no_key_at_end : (q : List Step) (i : ℕ) → split_last_key (plain_path (q ++ Index i ∷ [])) ≡ None
no_key_at_end [] i = refl
no_key_at_end (s ∷ []) i = refl
no_key_at_end (s ∷ t ∷ q) i = ap (option_map (λ l. (plain_step s ∷ l.0, l.1))) (no_key_at_end (t ∷ q) i)
