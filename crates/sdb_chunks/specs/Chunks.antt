-- The contents and the uniqueness of a list of chunks.
use Rattle.std.specs.Prelude.{ℕ, suc, ◌-◌, max, List, [], ◌∷◌, map, length, Bool, true, false, cond, nat_lt, nat_le, if◌then◌else◌}
use Rattle.std.specs.List.{flat_map}
use Rattle.sdb_chunks.specs.Chunk.{items_of, is_chunk_unique, is_chunk_shared}
use Rattle.sdb_chunks.specs.declared.chunk.Chunk.{Chunk}

-- the views f of the items of a chunk
abbrev pub chunk_models : {X S : Type 0} → (X → S) → Chunk X → List S
chunk_models f b = map f (items_of b)

-- the views of the items of all chunks in order
abbrev pub flatten_models : {X S : Type 0} → (X → S) → List (Chunk X) → List S
flatten_models f bs = flat_map (chunk_models f) bs

-- the views of a chunk's items, and its uniqueness
abbrev pub chunk_model : {X S : Type 0} → (X → S) → Chunk X → List S × Bool
chunk_model f b = (chunk_models f b, is_chunk_unique b)

abbrev pub all_unique : {X : Type 0} → List (Chunk X) → Bool
all_unique [] = true
all_unique (b ∷ bs) = cond (is_chunk_unique b) (all_unique bs) false

-- the chunk of item i is unique, or there is no such item
abbrev pub is_unique_at : {X : Type 0} → List (Chunk X) → ℕ → Bool
is_unique_at [] i = true
is_unique_at (b ∷ bs) i = if nat_lt i (length (items_of b)) then is_chunk_unique b else is_unique_at bs (i - length (items_of b))

abbrev pub all_shared : {X : Type 0} → List (Chunk X) → Bool
all_shared [] = true
all_shared (b ∷ bs) = cond (is_chunk_shared b) (all_shared bs) false

-- the greatest length of a chunk
abbrev pub max_chunk_length : {X : Type 0} → List (Chunk X) → ℕ
max_chunk_length [] = 0
max_chunk_length (b ∷ bs) = max (length (items_of b)) (max_chunk_length bs)

-- the chunk into which an item is inserted at i: the first that contains or ends at i
abbrev pub insert_chunk_index : {X : Type 0} → List (Chunk X) → ℕ → ℕ
insert_chunk_index [] i = 0
insert_chunk_index (b ∷ bs) i = if nat_le i (length (items_of b)) then 0 else suc (insert_chunk_index bs (i - length (items_of b)))

-- the length of that chunk
abbrev pub chunk_length_at : {X : Type 0} → List (Chunk X) → ℕ → ℕ
chunk_length_at [] i = 0
chunk_length_at (b ∷ bs) i = if nat_le i (length (items_of b)) then length (items_of b) else chunk_length_at bs (i - length (items_of b))
