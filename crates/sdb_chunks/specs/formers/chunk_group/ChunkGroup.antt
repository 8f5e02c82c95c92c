-- `ChunkGroup` as a container of a type that may contain it: its chunks, and a number of items that depends on their
-- lengths only.
use Rattle.std.specs.Prelude.{◌≡◌, ℕ, suc, List, [], ◌∷◌, ◌++◌, ◌+◌, map, length}
use Rattle.std.specs.List.{flat_map}
use mathlib.Core.Path.{refl, sym, ap, ◌∙◌}
use mathlib.Core.Logic.{◌⊎◌, inl, inr}
use mathlib.Core.Former.{Former, this, const, pair, or, via, such}
use native.Mathlib.Nat.{ℕ_set}
use native.Mathlib.Omega.{arith}
use base.Fml.{ftrue}
use base.Stored.{gnil}
use denote.Memory.{part_of}
use denote.RattleType.{RattleType}
use denote.Sharing.{nothing}
use denote.HoleLaws.{Alike}
use denote.HolePlaces.{Recodes, struct_places, struct_Codes, enum_places, enum_codes, eachs, laid, one_value}
use denote.Param.Weighed.{Weighed, w_or, w_via}
use Rattle.std.specs.formers.vec.Vec as vec
use Rattle.std.specs.declared.alloc.Global.{Global}
use Rattle.std.specs.declared.sync.Arc.{Arc}
use Rattle.std.specs.declared.vec.Vec.{Vec}
use Rattle.std.specs.contracts.alloc.Global as heap
use Rattle.std.specs.contracts.impls.GlobalAllocator.TheImpl.{ghosts}
use Rattle.std.specs.contracts.sync.Arc as arc
use Rattle.std.specs.contracts.vec.Vec as vector
use Rattle.sdb_chunks.specs.Chunk.{items_of}
use Rattle.sdb_chunks.specs.contracts.chunk.Chunk as chunk
use Rattle.sdb_chunks.specs.contracts.chunk_group.ChunkGroup as C
use Rattle.sdb_chunks.specs.declared.chunk.Chunk.{Chunk}
use Rattle.sdb_chunks.specs.declared.chunk.Chunk.TheVariants.{Unique, Shared}
use Rattle.sdb_chunks.specs.declared.chunk_group.ChunkGroup.{ChunkGroup}

-- ---- a pointer to a vector
module _ (g : Former {0}) where
  abbrev vectors : Former {0}
  vectors = vec.the_former g Global

  abbrev pointers : Former {0}
  pointers = record {
    Of = λ X. let V : Type 0 = vectors.Of X in Arc V Global;
    Shape = let V : Type 0 = vectors.Shape in Arc V Global;
    count = λ d. vectors.count d.value;
    shape = λ X d. record { ptr = d.ptr; value = vectors.shape X d.value };
    put = λ X d. vectors.put X d.value;
    get = λ X d n v. (record { ptr = d.ptr; value = (vectors.get X d.value n v).0 }, (vectors.get X d.value n v).1);
    map = λ X Y h d. record { ptr = d.ptr; value = vectors.map X Y h d.value };
    get-put = λ X d n t i. (record { ptr = d.ptr; value = (vectors.get-put X d.value n t i).0 }, (vectors.get-put X d.value n t i).1);
    put-get = λ X d n v i. (record { ptr = d.ptr; value = (vectors.put-get X d.value n v i).0 }, (vectors.put-get X d.value n v i).1);
    get-map = λ X Y h d n v i. (record { ptr = d.ptr; value = (vectors.get-map X Y h d.value n v i).0 }, (vectors.get-map X Y h d.value n v i).1);
  }

-- ---- a chunk
abbrev split : (X : Type 0) → Chunk X → Vec X Global ⊎ Arc (Vec X Global) Global
split X (Unique v) = inl v
split X (Shared a) = inr a

abbrev join : (X : Type 0) → Vec X Global ⊎ Arc (Vec X Global) Global → Chunk X
join X (inl v) = Unique v
join X (inr a) = Shared a

pub join-split : (X : Type 0) (b : Chunk X) → join X (split X b) ≡ b
join-split X (Unique v) = refl
join-split X (Shared a) = refl

pub split-join : (X : Type 0) (c : Vec X Global ⊎ Arc (Vec X Global) Global) → split X (join X c) ≡ c
split-join X (inl v) = refl
split-join X (inr a) = refl

abbrev pub chunks : Former {0} → Former {0}
chunks g = via (or (vectors g) (pointers g)) (λ X. Chunk (g.Of X)) (λ X. split (g.Of X)) (λ X. join (g.Of X)) (λ X. join-split (g.Of X)) (λ X. split-join (g.Of X))

module _ {g : Former {0}} (w : Weighed g) where
  abbrev vectors_weighed : Weighed (vectors g)
  vectors_weighed = vec.the_weighed w Global

  abbrev pointers_weighed : Weighed (pointers g)
  pointers_weighed = record { weight = λ X μ d. vectors_weighed.weight X μ d.value; puts = λ X μ d. vectors_weighed.puts X μ d.value }

  abbrev pub chunks_weighed : Weighed (chunks g)
  chunks_weighed = w_via (w_or vectors_weighed pointers_weighed) (λ X. Chunk (g.Of X)) (λ X. split (g.Of X)) (λ X. join (g.Of X)) (λ X. join-split (g.Of X)) (λ X. split-join (g.Of X))

abbrev vector_of : RattleType → RattleType
vector_of R = vector.the_row R heap.the_row ghosts

abbrev pointer_of : RattleType → RattleType
pointer_of R = arc.the_row (vector_of R) heap.the_row ghosts

-- ---- ownership and borrows of a chunk are those of its items
module _ (R S : RattleType) (h : R.Denot → S.Denot) where
  abbrev on_vector : Vec R.Denot Global → Vec S.Denot Global
  on_vector = vec.mapped h

  abbrev on_pointer : Arc (Vec R.Denot Global) Global → Arc (Vec S.Denot Global) Global
  on_pointer d = record { ptr = d.ptr; value = on_vector d.value }

  abbrev pub on_chunk : Chunk R.Denot → Chunk S.Denot
  on_chunk = (chunks this).map R.Denot S.Denot h

  vector_places : Alike R S h → Alike (vector_of R) (vector_of S) on_vector
  vector_places a = vec.the_places heap.the_row ghosts R S h a

  vector_codes : Recodes R S h → Recodes (vector_of R) (vector_of S) on_vector
  vector_codes c = vec.the_codes_placed heap.the_row ghosts R S h c

  pointer_places : Alike R S h → Alike (pointer_of R) (pointer_of S) on_pointer
  unfolding part_of
  pointer_places a =
      let v = vector_places a in
      record {
        mir_same = λ i. (arc.the_row (one_value (vector_of R) (v.mir_same i) (λ _. ftrue) (λ _ _. nothing) gnil) heap.the_row ghosts).mir;
        own_same = λ d i. (arc.the_row (one_value (vector_of R) (v.mir_same i) (v.own_same d.value i) (v.shr_same d.value i) gnil) heap.the_row ghosts).own_val record { ptr = d.ptr; value = tt };
        shr_same = λ d i. (arc.the_row (one_value (vector_of R) (v.mir_same i) (v.own_same d.value i) (v.shr_same d.value i) gnil) heap.the_row ghosts).shr_at record { ptr = d.ptr; value = tt };
      }

  pointer_codes : Recodes R S h → Recodes (pointer_of R) (pointer_of S) on_pointer
  unfolding part_of
  pointer_codes c = λ d i. (arc.the_row (one_value (vector_of R) (vector_of R).mir (λ _. ftrue) (λ _ _. nothing) (vector_codes c d.value i)) heap.the_row ghosts).coded.code record { ptr = d.ptr; value = tt }

  by_variant : (d : Chunk R.Denot) → chunk.as_values S (on_chunk d) ≡ eachs (chunk.the_parts R) (chunk.the_parts S) ((on_vector, tt), ((on_pointer, tt), tt)) (chunk.as_values R d)
  by_variant (Unique v) = refl
  by_variant (Shared a) = refl

  pub chunk_places : Alike R S h → Alike (chunk.the_row R) (chunk.the_row S) on_chunk
  unfolding part_of
  chunk_places a = enum_places (chunk.enum R) (chunk.enum S) ((on_vector, tt), ((on_pointer, tt), tt)) on_chunk by_variant refl
      ((laid _ _ _ (vector_places a), tt), ((laid _ _ _ (pointer_places a), tt), tt))

  pub chunk_codes : Recodes R S h → Recodes (chunk.the_row R) (chunk.the_row S) on_chunk
  unfolding part_of
  chunk_codes c = enum_codes (chunk.enum R) (chunk.enum S) ((on_vector, tt), ((on_pointer, tt), tt)) on_chunk by_variant
      ((vector_codes c, tt), ((pointer_codes c, tt), tt))

-- ---- chunks of chunks, and the number of their items
abbrev number : {X : Type 0} → Chunk (Chunk X) → ℕ
number bs = length (flat_map items_of (items_of bs))

length-append : {X : Type 0} (xs ys : List X) → length (xs ++ ys) ≡ length xs + length ys
length-append [] ys = omega arith
length-append (x ∷ xs) ys = let e = length-append xs ys in omega (arith, e)

length-map : {X Y : Type 0} (f : X → Y) (xs : List X) → length (map f xs) ≡ length xs
length-map f [] = refl
length-map f (x ∷ xs) = ap suc (length-map f xs)

-- the shape of a chunk
abbrev pub Shape : Type 0 → Type 0
Shape X = Vec X Global ⊎ Arc (Vec X Global) Global

abbrev pub shape_items : {X : Type 0} → Shape X → List X
shape_items (inl v) = v.items
shape_items (inr a) = a.value.items

abbrev shape_number : {X : Type 0} → Shape (Shape X) → ℕ
shape_number bs = length (flat_map shape_items (shape_items bs))

pub items_shaped : (g : Former {0}) (X : Type 0) (b : Chunk (g.Of X)) → length (shape_items ((chunks g).shape X b)) ≡ length (items_of b)
items_shaped g X (Unique v) = length-map (g.shape X) v.items
items_shaped g X (Shared a) = length-map (g.shape X) a.value.items

pub all_shaped : (g : Former {0}) (X : Type 0) (bs : List (Chunk (g.Of X))) → length (flat_map shape_items (map ((chunks g).shape X) bs)) ≡ length (flat_map items_of bs)
all_shaped g X [] = refl
all_shaped g X (b ∷ bs) =
    let e = length-append (shape_items ((chunks g).shape X b)) (flat_map shape_items (map ((chunks g).shape X) bs)) in
    let f = length-append (items_of b) (flat_map items_of bs) in
    let h = items_shaped g X b in
    let k = all_shaped g X bs in
    omega (arith, e, f, h, k)

pub number_shaped : (g : Former {0}) (X : Type 0) (bs : Chunk (Chunk (g.Of X))) → shape_number ((chunks (chunks g)).shape X bs) ≡ number bs
number_shaped g X (Unique v) = all_shaped g X v.items
number_shaped g X (Shared a) = all_shaped g X a.value.items

abbrev counted : Former {0} → Former {0}
counted g = such (pair (const ℕ) (chunks (chunks g))) (λ X d. d.0 ≡ number d.1) (λ a. a.0 ≡ shape_number a.1) (λ X d. ℕ_set _ _) (λ a. ℕ_set _ _)
    (λ X d e. e ∙ sym (number_shaped g X d.1)) (λ X d e. e ∙ number_shaped g X d.1)

abbrev pub the_former : Former {0} → Former {0}
the_former g = via (counted g) (λ X. ChunkGroup (g.Of X)) (λ X d. ((d.count, d.chunks), d.count_is_sum)) (λ X c. record { count = c.0.0; chunks = c.0.1; count_is_sum = c.1 }) (λ X d. refl) (λ X c. refl)

abbrev pub the_weighed : {g : Former {0}} → Weighed g → Weighed (the_former g)
the_weighed w = let v = chunks_weighed (chunks_weighed w) in record { weight = λ X μ d. v.weight X μ d.chunks; puts = λ X μ d. v.puts X μ d.chunks }

module _ (R S : RattleType) (h : R.Denot → S.Denot) where
  abbrev on_chunks : Chunk (Chunk R.Denot) → Chunk (Chunk S.Denot)
  on_chunks = (chunks (chunks this)).map R.Denot S.Denot h

  pub the_places : Alike R S h → Alike (C.the_row R) (C.the_row S) ((the_former this).map R.Denot S.Denot h)
  unfolding part_of
  the_places a = struct_places (C.the_type R) (C.the_type S) ((λ n. n), (on_chunks, tt)) ((the_former this).map R.Denot S.Denot h) (λ d. refl) refl
      ((refl, (λ n. refl, λ n. refl)), (laid _ _ _ (chunk_places (chunk.the_row R) (chunk.the_row S) (on_chunk R S h) (chunk_places R S h a)), tt))

  pub the_codes_placed : Recodes R S h → Recodes (C.the_row R) (C.the_row S) ((the_former this).map R.Denot S.Denot h)
  unfolding part_of
  the_codes_placed c = struct_Codes (C.the_type R) (C.the_type S) ((λ n. n), (on_chunks, tt)) ((the_former this).map R.Denot S.Denot h) (λ d. refl)
      ((λ n. refl), (chunk_codes (chunk.the_row R) (chunk.the_row S) (on_chunk R S h) (chunk_codes R S h c), tt))
