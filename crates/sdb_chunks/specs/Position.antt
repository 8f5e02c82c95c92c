-- The position of an item among parts with a view s of their items: chunks, or groups of chunks.
use Rattle.std.specs.Prelude.{◌≡◌, ℕ, ◌≤◌, ◌<◌, ◌+◌, List, length, take, slice_index_or}
use Rattle.std.specs.List.{flat_map}

-- the index is position i of part k, at most its end
pub record IsInsertPosition {X S : Type 0} (s : X → List S) (ps : List X) (index k i : ℕ) : Type 0 where
  pub index_in_range : k < length ps
  pub offset_is_sum : length (flat_map s (take k ps)) + i ≡ index
  pub within : (p : X) → i ≤ length (s (slice_index_or ps k p))

-- the index is item i of part k
pub record IsItemPosition {X S : Type 0} (s : X → List S) (ps : List X) (index k i : ℕ) : Type 0 where
  pub index_in_range : k < length ps
  pub offset_is_sum : length (flat_map s (take k ps)) + i ≡ index
  pub within : (p : X) → i < length (s (slice_index_or ps k p))
