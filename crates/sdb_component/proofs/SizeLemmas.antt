-- The length of a list, and the step of a value.
use Rattle.std.proofs.Common.{◌≡◌, ◌≤◌, suc, true, List, [], ◌∷◌, ℕ, length, map, Option, Some, None, option_map, refl, ap}
use Rattle.std.proofs.lemmas.Bool.{le-ltb}
use Rattle.serde_json.specs.Data as raw
use Rattle.serde_json.specs.Data.{Data}
use Rattle.serde_json.specs.Find.{as_str}
use Rattle.serde_json.specs.View.{items_of}
use Rattle.sdb_value.specs.Value.{key, index}
use Rattle.sdb_value.specs.FromJson.{count_of}
use Rattle.sdb_component.specs.FromJson.{data_item_count, path_step_of, items_allocate}

pub view_size : {D : Type 0} (f : D → Data) (vs : List D) → data_item_count (items_of (map f vs)) ≡ length vs
view_size f [] = refl
view_size f (v ∷ vs) = ap suc (view_size f vs)

pub key_step : (d : Data) (s : List ℕ) → Some s ≡ as_str d → path_step_of d ≡ Some (key s)
key_step raw.null s e = absurd (cc)
key_step (raw.boolean b) s e = absurd (cc)
key_step (raw.number n) s e = absurd (cc)
key_step (raw.string t) s e = cc
key_step (raw.array ds) s e = absurd (cc)
key_step (raw.object ms) s e = absurd (cc)

pub index_step : (d : Data) → None ≡ as_str d → path_step_of d ≡ option_map index (count_of d)
index_step raw.null e = refl
index_step (raw.boolean b) e = refl
index_step (raw.number n) e = refl
index_step (raw.string t) e = absurd (cc)
index_step (raw.array ds) e = refl
index_step (raw.object ms) e = refl

-- several items, or none, that are no more than 256 are read with an allocation
pub many_allocate : {D : Type 0} (f : D → Data) (vs : List D) → length vs ≤ 256 → (length vs ≡ 1 → ⊥) → items_allocate (items_of (map f vs)) ≡ true
many_allocate f [] within several = refl
many_allocate f (v ∷ []) within several = absurd (several refl)
many_allocate f (v ∷ w ∷ vs) within several = rw (view_size f vs, le-ltb 256 (suc (suc (length vs))) within)
