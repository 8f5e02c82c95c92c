-- The chunks of a text as lists of bytes, and positions in them.
use Rattle.std.specs.Prelude.{All, ◌≡◌, ◌<◌, ◌≤◌, ◌+◌, ℕ, zero, suc, List, [], ◌∷◌, ◌++◌, Some, length, take, drop, slice_index_or}
use Rattle.std.specs.List.{concat}
use Rattle.std.specs.String.Boundary.{IsSplitPoint}
use Rattle.sdb_rope.specs.Utf16.{units, cut_at}

-- chunk k
abbrev pub chunk_text : List (List ℕ) → ℕ → List ℕ
chunk_text ts k = slice_index_or ts k []

-- a chunk of at most 4,096 bytes
abbrev pub IsBounded : List ℕ → Type 0
IsBounded t = length t ≤ 4096

abbrev pub AreBounded : List (List ℕ) → Type 0
AreBounded ts = All IsBounded ts

-- the bytes before byte i of chunk k, and those from there on
abbrev pub bytes_before : List (List ℕ) → ℕ → ℕ → List ℕ
bytes_before [] k i = []
bytes_before (t ∷ ts) zero i = take i t
bytes_before (t ∷ ts) (suc k) i = t ++ bytes_before ts k i

abbrev pub bytes_after : List (List ℕ) → ℕ → ℕ → List ℕ
bytes_after [] k i = []
bytes_after (t ∷ ts) zero i = drop i t ++ concat ts
bytes_after (t ∷ ts) (suc k) i = bytes_after ts k i

-- code unit i of chunk k is at the offset
pub record IsUnitPosition (ts : List (List ℕ)) (offset k i : ℕ) : Type 0 where
  pub index_in_range : k < length ts
  pub offset_is_sum : units (concat (take k ts)) + i ≡ offset
  pub within : i < units (chunk_text ts k)

-- the offset is byte i of chunk k, a character boundary
pub record IsBytePosition (ts : List (List ℕ)) (offset k i : ℕ) : Type 0 where
  pub index_in_range : k < length ts
  pub at_char_boundary : IsSplitPoint (chunk_text ts k) i
  pub offset_is_length_before : cut_at (concat ts) offset ≡ Some (length (bytes_before ts k i))

-- the text s is the range from byte i of chunk k to byte j of chunk m
pub record IsEndPosition (ts : List (List ℕ)) (k i : ℕ) (s : List ℕ) (m j : ℕ) : Type 0 where
  pub chunks_ordered : k ≤ m
  pub index_in_range : m < length ts
  pub byte_in_chunk : j ≤ length (chunk_text ts m)
  pub bytes_ordered : k ≡ m → i ≤ j
  pub text_between : bytes_after ts k i ≡ s ++ bytes_after ts m j

-- the range from byte i of chunk k to byte j of chunk m, at character boundaries
pub record IsByteRange (ts : List (List ℕ)) (k i m j : ℕ) : Type 0 where
  pub chunks_ordered : k ≤ m
  pub index_in_range : m < length ts
  pub start_at_boundary : IsSplitPoint (chunk_text ts k) i
  pub end_at_boundary : IsSplitPoint (chunk_text ts m) j
  pub bytes_ordered : k ≡ m → i ≤ j
