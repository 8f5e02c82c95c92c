-- `SortedMap` as a container of a type that may contain it: its chunks, and keys that depend on its shape only.
use Rattle.std.specs.Prelude.{◌≡◌, ℕ, ◌<◌, ◌^◌, List, [], ◌∷◌, ◌++◌, map, length}
use Rattle.std.specs.List.{flat_map}
use Rattle.std.specs.List.Sorted.{IsStrictlySortedBy-prop}
use mathlib.Core.Path.{refl, sym, ap, subst, ◌∙◌}
use mathlib.Core.Logic.{◌⊎◌, inl, inr}
use mathlib.Core.HLevel.{×_prop}
use mathlib.Core.Former.{Former, this, const, pair, or, via, such}
use native.Mathlib.Bridge.{le_prop}
use native.Mathlib.Nat.{ℕ_set}
use denote.Memory.{part_of}
use denote.RattleType.{RattleType}
use denote.HoleLaws.{Alike}
use denote.HolePlaces.{Recodes, struct_places, struct_Codes, enum_places, enum_codes, eachs, laid}
use denote.Param.Weighed.{Weighed, w_or, w_via}
use Rattle.std.specs.formers.vec.Vec as vec
use Rattle.sdb_chunks.specs.Chunk.{items_of}
use Rattle.sdb_chunks.specs.ChunkGroup.{group_models}
use Rattle.sdb_chunks.specs.ChunkedVec.{flatten_models, chunk_models}
use Rattle.sdb_chunks.specs.contracts.chunk.Chunk as chunk
use Rattle.sdb_chunks.specs.contracts.chunk_group.ChunkGroup as group
use Rattle.sdb_chunks.specs.contracts.chunked_vec.Repr as repr
use Rattle.sdb_chunks.specs.contracts.chunked_vec.ChunkedVec as chunked_vec
use Rattle.sdb_chunks.specs.declared.chunk.Chunk.{Chunk}
use Rattle.sdb_chunks.specs.declared.chunk.Chunk.TheVariants.{Unique, Shared}
use Rattle.sdb_chunks.specs.declared.chunk_group.ChunkGroup.{ChunkGroup}
use Rattle.sdb_chunks.specs.declared.chunked_vec.Repr.{Repr}
use Rattle.sdb_chunks.specs.declared.chunked_vec.Repr.TheVariants.{Flat, Chunks, Groups}
use Rattle.sdb_chunks.specs.declared.chunked_vec.ChunkedVec.{ChunkedVec}
use Rattle.sdb_chunks.specs.formers.chunk_group.ChunkGroup.{Shape, chunks, chunks_weighed, shape_items, on_chunk, chunk_places, chunk_codes}
use Rattle.sdb_chunks.specs.formers.chunk_group.ChunkGroup as groups
use Rattle.sdb_sorted_map.specs.MapKey.{key_bytes}
use Rattle.sdb_sorted_map.specs.MapEntry.{entry_key}
use Rattle.sdb_sorted_map.specs.KeyOrder.{compare_bytes, IsAscending}
use Rattle.sdb_sorted_map.specs.SearchModel.{vec_keys}
use Rattle.sdb_sorted_map.specs.contracts.map_entry.MapEntry as M
use Rattle.sdb_sorted_map.specs.contracts.sorted_map.SortedMap as C
use Rattle.sdb_sorted_map.specs.declared.map_key.MapKey.{MapKey}
use Rattle.sdb_sorted_map.specs.declared.map_entry.MapEntry.{MapEntry}
use Rattle.sdb_sorted_map.specs.declared.sorted_map.SortedMap.{SortedMap}

-- ---- an entry
abbrev pub member_former : Former {0} → Former {0}
member_former g = via (pair (const MapKey) g) (λ X. MapEntry (g.Of X)) (λ X d. (d.key, d.value)) (λ X p. record { key = p.0; value = p.1 }) (λ X d. refl) (λ X p. refl)

abbrev pub member_weighed : {g : Former {0}} → Weighed g → Weighed (member_former g)
member_weighed w = record { weight = λ X μ d. w.weight X μ d.value; puts = λ X μ d. w.puts X μ d.value }

-- ---- a chunked list
module _ (X : Type 0) where
  abbrev Forms : Type 0
  Forms = Chunk X ⊎ (Chunk (Chunk X) ⊎ Chunk (ChunkGroup X))

  abbrev split : Repr X → Forms
  split (Flat b) = inl b
  split (Chunks bs) = inr (inl bs)
  split (Groups gs) = inr (inr gs)

  abbrev join : Forms → Repr X
  join (inl b) = Flat b
  join (inr (inl bs)) = Chunks bs
  join (inr (inr gs)) = Groups gs

  pub join-split : (w : Repr X) → join (split w) ≡ w
  join-split (Flat b) = refl
  join-split (Chunks bs) = refl
  join-split (Groups gs) = refl

  pub split-join : (c : Forms) → split (join c) ≡ c
  split-join (inl b) = refl
  split-join (inr (inl bs)) = refl
  split-join (inr (inr gs)) = refl

abbrev forms : Former {0} → Former {0}
forms g = or (chunks g) (or (chunks (chunks g)) (chunks (groups.the_former g)))

abbrev pub repr_former : Former {0} → Former {0}
repr_former g = via (forms g) (λ X. Repr (g.Of X)) (λ X. split (g.Of X)) (λ X. join (g.Of X)) (λ X. join-split (g.Of X)) (λ X. split-join (g.Of X))

abbrev pub chunked_vec_former : Former {0} → Former {0}
chunked_vec_former g = via (repr_former g) (λ X. ChunkedVec (g.Of X)) (λ X d. d.repr) (λ X w. record { repr = w }) (λ X d. refl) (λ X w. refl)

module _ {g : Former {0}} (w : Weighed g) where
  abbrev reprs_weighed : Weighed (forms g)
  reprs_weighed = w_or (chunks_weighed w) (w_or (chunks_weighed (chunks_weighed w)) (chunks_weighed (groups.the_weighed w)))

  abbrev pub repr_weighed : Weighed (repr_former g)
  repr_weighed = w_via reprs_weighed (λ X. Repr (g.Of X)) (λ X. split (g.Of X)) (λ X. join (g.Of X)) (λ X. join-split (g.Of X)) (λ X. split-join (g.Of X))

  abbrev pub chunked_vec_weighed : Weighed (chunked_vec_former g)
  chunked_vec_weighed = record { weight = λ X μ d. repr_weighed.weight X μ d.repr; puts = λ X μ d. repr_weighed.puts X μ d.repr }

-- ---- the keys of a list's shape
abbrev chunk_names : {X : Type 0} → Shape (MapKey × X) → List (List ℕ)
chunk_names b = map (λ p. key_bytes p.0) (shape_items b)

abbrev joined_names : {X : Type 0} → Shape (Shape (MapKey × X)) → List (List ℕ)
joined_names bs = flat_map chunk_names (shape_items bs)

abbrev shape_names : (g : Former {0}) → (repr_former (member_former g)).Shape → List (List ℕ)
shape_names g (inl b) = chunk_names b
shape_names g (inr (inl bs)) = joined_names bs
shape_names g (inr (inr gs)) = flat_map (λ s. joined_names s.0.1) (shape_items gs)

-- ---- the keys of a list's shape are those of the list
map_map : {X Y Z : Type 0} (f : Y → Z) (s : X → Y) (xs : List X) → map f (map s xs) ≡ map (λ x. f (s x)) xs
map_map f s [] = refl
map_map f s (x ∷ xs) = ap (λ l. f (s x) ∷ l) (map_map f s xs)

flat_shaped : {X Y Z : Type 0} (f : X → List Z) (f' : Y → List Z) (s : X → Y) → ((x : X) → f' (s x) ≡ f x) → (xs : List X) → flat_map f' (map s xs) ≡ flat_map f xs
flat_shaped f f' s e [] = refl
flat_shaped f f' s e (x ∷ xs) = ap (λ l. l ++ flat_map f' (map s xs)) (e x) ∙ ap (λ l. f x ++ l) (flat_shaped f f' s e xs)

module _ (g : Former {0}) (X : Type 0) where
  abbrev m : Former {0}
  m = member_former g

  pub chunk_shaped : (b : Chunk (m.Of X)) → chunk_names ((chunks m).shape X b) ≡ chunk_models entry_key b
  chunk_shaped (Unique v) = map_map _ _ v.items
  chunk_shaped (Shared a) = map_map _ _ a.value.items

  pub joined_shaped : (bs : Chunk (Chunk (m.Of X))) → joined_names ((chunks (chunks m)).shape X bs) ≡ flatten_models entry_key (items_of bs)
  joined_shaped (Unique v) = flat_shaped _ _ _ chunk_shaped v.items
  joined_shaped (Shared a) = flat_shaped _ _ _ chunk_shaped a.value.items

  group_shaped : (d : ChunkGroup (m.Of X)) → joined_names ((groups.the_former m).shape X d).0.1 ≡ group_models entry_key d
  group_shaped d = joined_shaped d.chunks

  pub names_shaped : (w : Repr (m.Of X)) → shape_names g ((repr_former m).shape X w) ≡ vec_keys (record { repr = w })
  names_shaped (Flat b) = chunk_shaped b
  names_shaped (Chunks bs) = joined_shaped bs
  names_shaped (Groups (Unique v)) = flat_shaped _ _ _ group_shaped v.items
  names_shaped (Groups (Shared a)) = flat_shaped _ _ _ group_shaped a.value.items

-- a bounded number of sorted keys
abbrev AreNames : List (List ℕ) → Type 0
AreNames ts = (length ts < 2 ^ 64) × IsAscending ts

pub AreNames-prop : (ts : List (List ℕ)) → IsProp (AreNames ts)
AreNames-prop ts = ×_prop le_prop (IsStrictlySortedBy-prop compare_bytes ts)

abbrev named : Former {0} → Former {0}
named g = such (chunked_vec_former (member_former g)) (λ X d. AreNames (vec_keys d)) (λ a. AreNames (shape_names g a)) (λ X d. AreNames-prop (vec_keys d)) (λ a. AreNames-prop (shape_names g a))
    (λ X d. subst AreNames (sym (names_shaped g X d.repr))) (λ X d. subst AreNames (names_shaped g X d.repr))

abbrev pub the_former : Former {0} → Former {0}
the_former g = via (named g) (λ X. SortedMap (g.Of X)) (λ X d. (d.entries, (d.small, d.keys_ascending))) (λ X c. record { entries = c.0; small = c.1.0; keys_ascending = c.1.1 }) (λ X d. refl) (λ X c. refl)

abbrev pub the_weighed : {g : Former {0}} → Weighed g → Weighed (the_former g)
the_weighed w = let v = chunked_vec_weighed (member_weighed w) in record { weight = λ X μ d. v.weight X μ d.entries; puts = λ X μ d. v.puts X μ d.entries }

-- ---- ownership and borrows of entries are those of their values
module _ (R S : RattleType) (h : R.Denot → S.Denot) where
  abbrev on_member : MapEntry R.Denot → MapEntry S.Denot
  on_member = (member_former this).map R.Denot S.Denot h

  pub member_places : Alike R S h → Alike (M.the_row R) (M.the_row S) on_member
  unfolding part_of
  member_places a = struct_places (M.the_type R) (M.the_type S) ((λ k. k), (h, tt)) on_member (λ d. refl) refl
      ((refl, (λ k. refl, λ k. refl)), (laid _ _ _ a, tt))

  pub member_codes : Recodes R S h → Recodes (M.the_row R) (M.the_row S) on_member
  unfolding part_of
  member_codes c = struct_Codes (M.the_type R) (M.the_type S) ((λ k. k), (h, tt)) on_member (λ d. refl) ((λ k. refl), (c, tt))

-- ---- those of a list are those of its items
module _ (R S : RattleType) (h : R.Denot → S.Denot) where
  abbrev on_chunks : Chunk (Chunk R.Denot) → Chunk (Chunk S.Denot)
  on_chunks = on_chunk (chunk.the_row R) (chunk.the_row S) (on_chunk R S h)

  abbrev on_groups : Chunk (ChunkGroup R.Denot) → Chunk (ChunkGroup S.Denot)
  on_groups = on_chunk (group.the_row R) (group.the_row S) ((groups.the_former this).map R.Denot S.Denot h)

  abbrev on_repr : Repr R.Denot → Repr S.Denot
  on_repr = (repr_former this).map R.Denot S.Denot h

  abbrev on_pieces : ChunkedVec R.Denot → ChunkedVec S.Denot
  on_pieces = (chunked_vec_former this).map R.Denot S.Denot h

  by_variant : (w : Repr R.Denot)
      → repr.as_values S (on_repr w) ≡ eachs (repr.the_parts R) (repr.the_parts S) ((on_chunk R S h, tt), ((on_chunks, tt), ((on_groups, tt), tt))) (repr.as_values R w)
  by_variant (Flat b) = refl
  by_variant (Chunks bs) = refl
  by_variant (Groups gs) = refl

  repr_places : Alike R S h → Alike (repr.the_row R) (repr.the_row S) on_repr
  unfolding part_of
  repr_places a =
      let b = chunk_places R S h a in
      enum_places (repr.enum R) (repr.enum S) ((on_chunk R S h, tt), ((on_chunks, tt), ((on_groups, tt), tt))) on_repr by_variant refl (
        (laid _ _ _ b, tt),
        (
          (laid _ _ _ (chunk_places (chunk.the_row R) (chunk.the_row S) (on_chunk R S h) b), tt),
          ((laid _ _ _ (chunk_places (group.the_row R) (group.the_row S) _ (groups.the_places R S h a)), tt), tt),
        ),
      )

  repr_codes : Recodes R S h → Recodes (repr.the_row R) (repr.the_row S) on_repr
  unfolding part_of
  repr_codes c =
      let b = chunk_codes R S h c in
      enum_codes (repr.enum R) (repr.enum S) ((on_chunk R S h, tt), ((on_chunks, tt), ((on_groups, tt), tt))) on_repr by_variant (
        (b, tt),
        (
          (chunk_codes (chunk.the_row R) (chunk.the_row S) (on_chunk R S h) b, tt),
          ((chunk_codes (group.the_row R) (group.the_row S) _ (groups.the_codes_placed R S h c), tt), tt),
        ),
      )

  pub chunked_vec_places : Alike R S h → Alike (chunked_vec.the_row R) (chunked_vec.the_row S) on_pieces
  unfolding part_of
  chunked_vec_places a = struct_places (chunked_vec.the_type R) (chunked_vec.the_type S) (on_repr, tt) on_pieces (λ d. refl) refl (laid _ _ _ (repr_places a), tt)

  pub chunked_vec_codes : Recodes R S h → Recodes (chunked_vec.the_row R) (chunked_vec.the_row S) on_pieces
  unfolding part_of
  chunked_vec_codes c = struct_Codes (chunked_vec.the_type R) (chunked_vec.the_type S) (on_repr, tt) on_pieces (λ d. refl) (repr_codes c, tt)

-- mapping a list of entries is mapping its items, except for the proof of a group's count
module _ (g : Former {0}) (X Y : Type 0) (h : X → Y) where
  abbrev inner : g.Of X → g.Of Y
  inner = g.map X Y h

  group_along : (d : ChunkGroup (g.Of X)) → (groups.the_former g).map X Y h d ≡ (groups.the_former this).map _ _ inner d
  group_along d = λ i. record {
    count = d.count;
    chunks = (chunks (chunks g)).map X Y h d.chunks;
    count_is_sum = ℕ_set _ _ ((groups.the_former g).map X Y h d).count_is_sum ((groups.the_former this).map _ _ inner d).count_is_sum i;
  }

  repr_along : (w : Repr (g.Of X)) → (repr_former g).map X Y h w ≡ (repr_former this).map _ _ inner w
  repr_along (Flat b) = refl
  repr_along (Chunks bs) = refl
  repr_along (Groups (Unique v)) = λ i. Groups (Unique (vec.mapped (λ d. group_along d i) v))
  repr_along (Groups (Shared a)) = λ i. Groups (Shared (record { ptr = a.ptr; value = vec.mapped (λ d. group_along d i) a.value }))

  pub chunked_vec_along : (l : ChunkedVec (g.Of X)) → (chunked_vec_former g).map X Y h l ≡ (chunked_vec_former this).map _ _ inner l
  chunked_vec_along l = λ i. record { repr = repr_along l.repr i }

module _ (R S : RattleType) (h : R.Denot → S.Denot) where
  abbrev on_entries : ChunkedVec (MapEntry R.Denot) → ChunkedVec (MapEntry S.Denot)
  on_entries = on_pieces (M.the_row R) (M.the_row S) (on_member R S h)

  pub the_places : Alike R S h → Alike (C.the_row R) (C.the_row S) ((the_former this).map R.Denot S.Denot h)
  unfolding part_of
  the_places a = struct_places (C.the_type R) (C.the_type S) (on_entries, tt) ((the_former this).map R.Denot S.Denot h)
      (λ d i. (chunked_vec_along (member_former this) R.Denot S.Denot h d.entries i, tt)) refl
      (laid _ _ _ (chunked_vec_places (M.the_row R) (M.the_row S) (on_member R S h) (member_places R S h a)), tt)

  pub the_codes_placed : Recodes R S h → Recodes (C.the_row R) (C.the_row S) ((the_former this).map R.Denot S.Denot h)
  unfolding part_of
  the_codes_placed c = struct_Codes (C.the_type R) (C.the_type S) (on_entries, tt) ((the_former this).map R.Denot S.Denot h)
      (λ d i. (chunked_vec_along (member_former this) R.Denot S.Denot h d.entries i, tt))
      (chunked_vec_codes (M.the_row R) (M.the_row S) (on_member R S h) (member_codes R S h c), tt)
