-- Clones in the three modes.
use Rattle.std.proofs.Common.{◌≡◌, ℕ, ◌<◌, ◌^◌, length, subst, List, [], ◌∷◌, ◌++◌, map, Option, Some, None, Bool, true, false, cond, Result, Ok, Err, IfOk, true≢false, refl, sym, ap, ◌∙◌, append_assoc}
use Rattle.std.specs.List.{flat_map}
use Rattle.std.specs.Option.{is_some, IfSome, IfNone}
use Rattle.sdb_chunks.specs.Chunk.{items_of, is_chunk_unique, is_chunk_shared}
use Rattle.sdb_chunks.specs.ChunkedVec.{all_unique, all_shared, vec_chunks, vec_items, vec_chunk_items, is_grouped, is_unique_repr, is_unique_vec, is_shared_repr, is_shared_vec}
use Rattle.sdb_chunks.specs.laws.ChunkLaws.{vec_models_of_items}
use Rattle.sdb_sorted_map.specs.MapEntry.{entry_key}
use Rattle.sdb_sorted_map.specs.SortedMap.{map_entries, is_shared_map}
use Rattle.sdb_sorted_map.specs.KeyOrder.{IsAscending}
use Rattle.sdb_sorted_map.specs.SearchModel.{entry_key_bytes, vec_keys}
use Rattle.sdb_sorted_map.specs.declared.map_entry.MapEntry.{MapEntry}
use Rattle.sdb_sorted_map.specs.declared.sorted_map.SortedMap.{SortedMap}
use Rattle.sdb_chunks.specs.declared.chunk.Chunk.{Chunk}
use Rattle.sdb_chunks.specs.declared.chunk.Chunk.TheVariants.{Unique, Shared}
use Rattle.sdb_chunks.specs.declared.chunked_vec.Repr.{Repr}
use Rattle.sdb_chunks.specs.declared.chunked_vec.Repr.TheVariants.{Flat, Chunks, Groups}
use Rattle.sdb_chunks.specs.declared.chunked_vec.ChunkedVec.{ChunkedVec}
use Rattle.sdb_value.specs.CloneModes.{HasUniquenessOfMode}
use Rattle.sdb_value.specs.Uniqueness.{all_true, is_unique, is_frozen, items_unique, list_unique, object_unique}
use Rattle.sdb_value.specs.View.{value_of, entries_value, items_value, list_value, members_value, object_value}
use Rattle.sdb_value.specs.Value.{list, object, item, append_items, Members, no_members, member}
use Rattle.sdb_value.specs.declared.clone_modes.CloneMode.{CloneMode}
use Rattle.sdb_value.specs.declared.clone_modes.CloneMode.TheVariants as mode
use Rattle.sdb_value.specs.declared.value.Json.{Json}
use Rattle.sdb_value.specs.declared.value.Json as json
use Rattle.sdb_value.proofs.UniquenessLemmas.{items_parts, unique_list, unique_object, pointer_list, pointer_object}
use Rattle.sdb_value.proofs.ViewLemmas.{seen_list, seen_object}

-- ---- a pointer

copied_pointer : (m : CloneMode) (was now pointer : Bool) → (m ≡ mode.Unique → ⊥) → was ≡ false → now ≡ false → pointer ≡ true → HasUniquenessOfMode m was now pointer
copied_pointer mode.Preserve was now pointer h w n p = n ∙ sym w
copied_pointer mode.Unique was now pointer h w n p = absurd (h refl)
copied_pointer mode.Frozen was now pointer h w n p = p

-- the value of an option
pub if_some_at : {A : Type 0} (P : A → Type 0) (o : Option A) (x : A) → o ≡ Some x → IfSome o P → P x
if_some_at P o x e h = subst (λ p. IfSome p P) e h

-- the value of an option in a result
pub some_of : {A E : Type 0} {P Q : A → Type 0} (r : Result (Option A) E) → ((x : A) → P x → Q x) → IfOk r (λ o. IfSome o P) → IfOk r (λ o. IfSome o Q)
some_of (Ok (Some x)) h p = h x p
some_of (Ok None) h p = tt
some_of (Err e) h p = tt

pub found_of : {A E : Type 0} {P Q : A → Type 0} (r : Result (Option A) E) (b : Bool) → ((x : A) → b ≡ true → P x → Q x) → IfOk r (λ o. is_some o ≡ b) → IfOk r (λ o. IfSome o P)
    → IfOk r (λ o. IfSome o Q)
found_of (Ok (Some x)) b h f p = h x (sym f) p
found_of (Ok None) b h f p = tt
found_of (Err e) b h f p = tt

pub none_of : {A E : Type 0} {P : Type 0} (r : Result (Option A) E) (b : Bool) → IfOk r (λ o. is_some o ≡ b) → (b ≡ false → P) → IfOk r (λ o. IfNone o P)
none_of (Ok (Some x)) b f h = tt
none_of (Ok None) b f h = h (sym f)
none_of (Err e) b f h = tt

shared_repr_not_unique : {X : Type 0} (w : Repr X) → is_shared_repr w ≡ true → is_unique_repr w ≡ false
shared_repr_not_unique (Flat (Unique v)) h = absurd (true≢false (sym h))
shared_repr_not_unique (Flat (Shared a)) h = refl
shared_repr_not_unique (Chunks (Unique v)) h = absurd (true≢false (sym h))
shared_repr_not_unique (Chunks (Shared a)) h = refl
shared_repr_not_unique (Groups gs) h = refl

pub list_again : (l new : ChunkedVec Json) → vec_chunk_items new ≡ vec_chunk_items l → list_value new ≡ list_value l
list_again l new e = ap items_value (items_parts new ∙ ap (flat_map (λ xs. xs)) e ∙ sym (items_parts l))

-- for items whose uniqueness q decides
module _ {X : Type 0} (q : X → Bool) where
  abbrev list_all_unique : ChunkedVec X → Bool
  list_all_unique l = cond (is_unique_vec l) (all_true (map q (vec_items l))) false

  abbrev each_unique : Chunk X → Bool
  each_unique b = cond (is_chunk_unique b) (all_true (map q (items_of b))) false

  pub shared_list_unique : (l : ChunkedVec X) → is_shared_vec l ≡ true → list_all_unique l ≡ false
  shared_list_unique l h = ap (λ b. cond b (all_true (map q (vec_items l))) false) (shared_repr_not_unique l.repr h)

  pub list_pointed : (m : CloneMode) (l new : ChunkedVec X) → (m ≡ mode.Unique → ⊥) → is_shared_vec l ≡ true → is_shared_vec new ≡ true
      → HasUniquenessOfMode m (list_all_unique l) (list_all_unique new) (is_shared_vec new)
  list_pointed m l new h was now = copied_pointer m (list_all_unique l) (list_all_unique new) (is_shared_vec new) h (shared_list_unique l was) (shared_list_unique new now) now

  shared_chunk_unique : (b : Chunk X) → is_chunk_shared b ≡ true → each_unique b ≡ false
  shared_chunk_unique (Unique v) h = absurd (true≢false (sym h))
  shared_chunk_unique (Shared a) h = refl

  pub chunk_pointed : (m : CloneMode) (b new : Chunk X) → (m ≡ mode.Unique → ⊥) → is_chunk_shared b ≡ true → is_chunk_shared new ≡ true
      → HasUniquenessOfMode m (each_unique b) (each_unique new) (is_chunk_shared new)
  chunk_pointed m b new h was now = copied_pointer m (each_unique b) (each_unique new) (is_chunk_shared new) h (shared_chunk_unique b was) (shared_chunk_unique new now) now

pub not_shared_unique : {X : Type 0} (b : Chunk X) → is_chunk_shared b ≡ false → is_chunk_unique b ≡ true
not_shared_unique (Unique v) h = refl
not_shared_unique (Shared a) h = absurd (true≢false h)

-- ---- one more of several

and_both : (a b c d : Bool) → a ≡ c → b ≡ d → cond a b false ≡ cond c d false
and_both a b c d h k = ap (λ x. cond x b false) h ∙ ap (λ x. cond c x false) k

pub copied_more : (m : CloneMode) (a b p c d q : Bool) → HasUniquenessOfMode m a b p → HasUniquenessOfMode m c d q → HasUniquenessOfMode m (cond a c false) (cond b d false) (cond p q false)
copied_more mode.Preserve a b p c d q h k = and_both b d a c h k
copied_more mode.Unique a b p c d q h k = and_both b d true true h k
copied_more mode.Frozen a b p c d q h k = and_both p q true true h k

and_assoc : (a b c : Bool) → cond a (cond b c false) false ≡ cond (cond a b false) c false
and_assoc true b c = refl
and_assoc false b c = refl

both_of : (m : CloneMode) (a b c d x y p : Bool) → x ≡ cond a c false → y ≡ cond b d false → HasUniquenessOfMode m a b true → HasUniquenessOfMode m c d p → HasUniquenessOfMode m x y true
both_of mode.Preserve a b c d x y p e f h k = f ∙ and_both b d a c h k ∙ sym e
both_of mode.Unique a b c d x y p e f h k = f ∙ and_both b d true true h k
both_of mode.Frozen a b c d x y p e f h k = refl

pub all_more : (bs : List Bool) (b : Bool) → all_true (bs ++ b ∷ []) ≡ cond (all_true bs) b false
all_more [] true = refl
all_more [] false = refl
all_more (c ∷ bs) b = ap (λ x. cond c x false) (all_more bs b) ∙ and_assoc c (all_true bs) b

pub shared_more : {X : Type 0} (bs : List (Chunk X)) (b : Chunk X) → all_shared (bs ++ b ∷ []) ≡ cond (all_shared bs) (is_chunk_shared b) false
shared_more [] (Unique v) = refl
shared_more [] (Shared a) = refl
shared_more (c ∷ bs) b = ap (λ x. cond (is_chunk_shared c) x false) (shared_more bs b) ∙ and_assoc (is_chunk_shared c) (all_shared bs) (is_chunk_shared b)

-- ---- a list of chunks

map_append : {A B : Type 0} (f : A → B) (xs ys : List A) → map f (xs ++ ys) ≡ map f xs ++ map f ys
map_append f [] ys = refl
map_append f (x ∷ xs) ys = ap (λ l. f x ∷ l) (map_append f xs ys)

all_append : (bs cs : List Bool) → all_true (bs ++ cs) ≡ cond (all_true bs) (all_true cs) false
all_append [] cs = refl
all_append (b ∷ bs) cs = ap (λ x. cond b x false) (all_append bs cs) ∙ and_assoc b (all_true bs) (all_true cs)

swap_and : (a b c d : Bool) → cond (cond a b false) (cond c d false) false ≡ cond (cond a c false) (cond b d false) false
swap_and true true c d = refl
swap_and true false true d = refl
swap_and true false false d = refl
swap_and false b c d = refl

one_unique : (b : Bool) → b ≡ cond b true false
one_unique true = refl
one_unique false = refl

unshared_repr : {X : Type 0} (w : Repr X) → is_grouped w ≡ false → is_shared_repr w ≡ false → is_unique_repr w ≡ all_unique (vec_chunks (record { repr = w }))
unshared_repr (Flat b) g h = one_unique (is_chunk_unique b)
unshared_repr (Chunks (Unique v)) g h = refl
unshared_repr (Chunks (Shared a)) g h = absurd (true≢false h)
unshared_repr (Groups gs) g h = absurd (true≢false g)

grouped_unique : {X : Type 0} (w : Repr X) → is_grouped w ≡ true → is_unique_repr w ≡ false
grouped_unique (Flat b) h = absurd (true≢false (sym h))
grouped_unique (Chunks bs) h = absurd (true≢false (sym h))
grouped_unique (Groups gs) h = refl

module _ {X : Type 0} (q : X → Bool) where
  abbrev chunks_each : List (Chunk X) → Bool
  chunks_each bs = all_true (map (each_unique q) bs)

  chunks_unique : (bs : List (Chunk X)) → cond (all_unique bs) (all_true (map q (flat_map items_of bs))) false ≡ chunks_each bs
  chunks_unique [] = refl
  chunks_unique (b ∷ bs) =
      ap (λ x. cond (cond (is_chunk_unique b) (all_unique bs) false) x false)
      (ap all_true (map_append q (items_of b) (flat_map items_of bs)) ∙ all_append (map q (items_of b)) (map q (flat_map items_of bs)))
      ∙ swap_and (is_chunk_unique b) (all_unique bs) (all_true (map q (items_of b))) (all_true (map q (flat_map items_of bs)))
      ∙ ap (λ x. cond (each_unique q b) x false) (chunks_unique bs)

  -- a list whose chunks decide its uniqueness
  list_of_chunks : (l : ChunkedVec X) (bs : List (Chunk X)) → vec_chunks l ≡ bs → is_unique_vec l ≡ all_unique bs → list_all_unique q l ≡ chunks_each bs
  list_of_chunks l bs e o =
      ap (λ x. cond x (all_true (map q (vec_items l))) false) o ∙ ap (λ x. cond (all_unique bs) (all_true (map q (flat_map items_of x))) false) e ∙ chunks_unique bs

  unshared_list : (l : ChunkedVec X) → is_grouped l.repr ≡ false → is_shared_vec l ≡ false → list_all_unique q l ≡ chunks_each (vec_chunks l)
  unshared_list l g h = list_of_chunks l (vec_chunks l) refl (unshared_repr l.repr g h)

  -- a list in groups isn't unique
  pub in_groups_unique : (l : ChunkedVec X) → is_grouped l.repr ≡ true → list_all_unique q l ≡ false
  in_groups_unique l h = ap (λ b. cond b (all_true (map q (vec_items l))) false) (grouped_unique l.repr h)

  -- a list made of cloned chunks
  pub made_of_chunks : (m : CloneMode) (l new : ChunkedVec X) (bs : List (Chunk X)) → (m ≡ mode.Frozen → ⊥) → (m ≡ mode.Preserve → is_grouped l.repr ≡ false)
      → (m ≡ mode.Preserve → is_shared_vec l ≡ false) → vec_chunks new ≡ bs → is_unique_vec new ≡ all_unique bs
      → HasUniquenessOfMode m (chunks_each (vec_chunks l)) (chunks_each bs) (all_shared bs) → HasUniquenessOfMode m (list_all_unique q l) (list_all_unique q new) (is_shared_vec new)
  made_of_chunks mode.Preserve l new bs h g k e o c = list_of_chunks new bs e o ∙ c ∙ sym (unshared_list l (g refl) (k refl))
  made_of_chunks mode.Unique l new bs h g k e o c = list_of_chunks new bs e o ∙ c
  made_of_chunks mode.Frozen l new bs h g k e o c = absurd (h refl)

-- a clone in chunks, which is shared if the list is in groups
pub by_mode : (inner m : CloneMode) (groups was now pointer : Bool) → ((was now pointer : Bool) → (groups ≡ true → was ≡ false) → (pointer ≡ true → now ≡ false)
    → HasUniquenessOfMode inner was now pointer → HasUniquenessOfMode m was now pointer) → (groups ≡ true → was ≡ false) → (pointer ≡ true → now ≡ false) → HasUniquenessOfMode inner was now pointer → HasUniquenessOfMode m was now pointer
by_mode inner m groups was now pointer h g p c = h was now pointer g p c

pub copied_by : (m : CloneMode) (a b p c d q : Bool) → c ≡ a → d ≡ b → q ≡ p → HasUniquenessOfMode m a b p → HasUniquenessOfMode m c d q
copied_by mode.Preserve a b p c d q e f g h = f ∙ h ∙ sym e
copied_by mode.Unique a b p c d q e f g h = f ∙ h
copied_by mode.Frozen a b p c d q e f g h = g ∙ h

-- a value that is a list, or an object
pub value_list : (v : Json) (l new : ChunkedVec Json) → v ≡ json.List l → list_value new ≡ list_value l → value_of (json.List new) ≡ value_of v
value_list v l new is e = seen_list new ∙ ap list e ∙ sym (ap value_of is ∙ seen_list l)

pub copied_list : (m : CloneMode) (v : Json) (l new : ChunkedVec Json) → v ≡ json.List l → HasUniquenessOfMode m (list_unique l) (list_unique new) (is_shared_vec new)
    → HasUniquenessOfMode m (is_unique v) (is_unique (json.List new)) (is_frozen (json.List new))
copied_list m v l new is h =
    copied_by m (list_unique l) (list_unique new) (is_shared_vec new) (is_unique v) (is_unique (json.List new)) (is_frozen (json.List new))
    (ap is_unique is ∙ unique_list l) (unique_list new) (pointer_list new) h

pub value_object : (v : Json) (s new : SortedMap Json) → v ≡ json.Object s → object_value new ≡ object_value s → value_of (json.Object new) ≡ value_of v
value_object v s new is e = seen_object new ∙ ap object e ∙ sym (ap value_of is ∙ seen_object s)

pub copied_object : (m : CloneMode) (v : Json) (s new : SortedMap Json) → v ≡ json.Object s
    → HasUniquenessOfMode m (object_unique s) (object_unique new) (is_shared_map new) → HasUniquenessOfMode m (is_unique v) (is_unique (json.Object new)) (is_frozen (json.Object new))
copied_object m v s new is h =
    copied_by m (object_unique s) (object_unique new) (is_shared_map new) (is_unique v) (is_unique (json.Object new)) (is_frozen (json.Object new))
    (ap is_unique is ∙ unique_object s) (unique_object new) (pointer_object new) h

pub made_view : (l new : ChunkedVec Json) (bs : List (Chunk Json)) → vec_chunks new ≡ bs → items_value (flat_map items_of bs) ≡ list_value l → list_value new ≡ list_value l
made_view l new bs e h = ap (λ b. items_value (flat_map items_of b)) e ∙ h

-- ---- one more chunk, one more item

pub join_view : (xs ys : List Json) → items_value (xs ++ ys) ≡ append_items (items_value xs) (items_value ys)
join_view [] ys = refl
join_view (x ∷ xs) ys = ap (item (value_of x)) (join_view xs ys)

abbrev pub join_members : Members → Members → Members
join_members no_members ns = ns
join_members (member k d ms) ns = member k d (join_members ms ns)

pub join_entries : (ms ns : List (MapEntry Json)) → entries_value (ms ++ ns) ≡ join_members (entries_value ms) (entries_value ns)
join_entries [] ns = refl
join_entries (m ∷ ms) ns = ap (member (entry_key m) (value_of m.value)) (join_entries ms ns)

append_none : {A : Type 0} (xs : List A) → xs ++ [] ≡ xs
append_none [] = refl
append_none (x ∷ xs) = ap (λ l. x ∷ l) (append_none xs)

flat_more : {X : Type 0} (bs : List (Chunk X)) (b : Chunk X) → flat_map items_of (bs ++ b ∷ []) ≡ flat_map items_of bs ++ items_of b
flat_more [] b = append_none (items_of b)
flat_more (c ∷ bs) b = ap (λ l. items_of c ++ l) (flat_more bs b) ∙ sym (append_assoc (items_of c) (flat_map items_of bs) (items_of b))

-- for a view V of lists and its concatenation J
module _ {X M : Type 0} (V : List X → M) (J : M → M → M) (join_of : (xs ys : List X) → V (xs ++ ys) ≡ J (V xs) (V ys)) where
  pub chunks_more : (bs cs : List (Chunk X)) (b c : Chunk X) → V (flat_map items_of cs) ≡ V (flat_map items_of bs)
      → V (items_of c) ≡ V (items_of b) → V (flat_map items_of (cs ++ c ∷ [])) ≡ V (flat_map items_of (bs ++ b ∷ []))
  chunks_more bs cs b c e h =
      ap V (flat_more cs c) ∙ join_of (flat_map items_of cs) (items_of c) ∙ ap (λ d. J d (V (items_of c))) e
      ∙ ap (J (V (flat_map items_of bs))) h ∙ sym (ap V (flat_more bs b) ∙ join_of (flat_map items_of bs) (items_of b))

  pub one_more : (xs ys : List X) (x y : X) → V ys ≡ V xs → V (y ∷ []) ≡ V (x ∷ []) → V (ys ++ y ∷ []) ≡ V (xs ++ x ∷ [])
  one_more xs ys x y e h = join_of ys (y ∷ []) ∙ ap (λ d. J d (V (y ∷ []))) e ∙ ap (J (V xs)) h ∙ sym (join_of xs (x ∷ []))

pub items_more : (bs cs : List (Chunk Json)) (b c : Chunk Json) → items_value (flat_map items_of cs) ≡ items_value (flat_map items_of bs)
    → items_value (items_of c) ≡ items_value (items_of b) → items_value (flat_map items_of (cs ++ c ∷ [])) ≡ items_value (flat_map items_of (bs ++ b ∷ []))
items_more = chunks_more items_value append_items join_view

pub entries_more : (bs cs : List (Chunk (MapEntry Json))) (b c : Chunk (MapEntry Json)) → entries_value (flat_map items_of cs) ≡ entries_value (flat_map items_of bs)
    → entries_value (items_of c) ≡ entries_value (items_of b) → entries_value (flat_map items_of (cs ++ c ∷ [])) ≡ entries_value (flat_map items_of (bs ++ b ∷ []))
entries_more = chunks_more entries_value join_members join_entries

pub entry_more : (ms cs : List (MapEntry Json)) (m c : MapEntry Json) → entries_value cs ≡ entries_value ms → entries_value (c ∷ []) ≡ entries_value (m ∷ []) → entries_value (cs ++ c ∷ []) ≡ entries_value (ms ++ m ∷ [])
entry_more = one_more entries_value join_members join_entries

pub same_member : (m c : MapEntry Json) → entry_key c ≡ entry_key m → value_of c.value ≡ value_of m.value → entries_value (c ∷ []) ≡ entries_value (m ∷ [])
same_member m c e f = ap (λ t. member t (value_of c.value) no_members) e ∙ ap (λ d. member (entry_key m) d no_members) f

module _ {X : Type 0} (q : X → Bool) where
  pub chunks_copied_more : (m : CloneMode) (bs cs : List (Chunk X)) (b c : Chunk X) → HasUniquenessOfMode m (chunks_each q bs) (chunks_each q cs) (all_shared cs)
      → HasUniquenessOfMode m (each_unique q b) (each_unique q c) (is_chunk_shared c)
      → HasUniquenessOfMode m (chunks_each q (bs ++ b ∷ [])) (chunks_each q (cs ++ c ∷ [])) (all_shared (cs ++ c ∷ []))
  chunks_copied_more m bs cs b c h k =
      copied_by m (cond (chunks_each q bs) (each_unique q b) false) (cond (chunks_each q cs) (each_unique q c) false) (cond (all_shared cs) (is_chunk_shared c) false)
      (chunks_each q (bs ++ b ∷ [])) (chunks_each q (cs ++ c ∷ [])) (all_shared (cs ++ c ∷ []))
      (ap all_true (map_append (each_unique q) bs (b ∷ [])) ∙ all_more (map (each_unique q) bs) (each_unique q b))
      (ap all_true (map_append (each_unique q) cs (c ∷ [])) ∙ all_more (map (each_unique q) cs) (each_unique q c)) (shared_more cs c)
      (copied_more m (chunks_each q bs) (chunks_each q cs) (all_shared cs) (each_unique q b) (each_unique q c) (is_chunk_shared c) h k)

  pub items_copied_more : (m : CloneMode) (vs cs : List X) (v c : X) (p : Bool) → HasUniquenessOfMode m (all_true (map q vs)) (all_true (map q cs)) true → HasUniquenessOfMode m (q v) (q c) p
      → HasUniquenessOfMode m (all_true (map q (vs ++ v ∷ []))) (all_true (map q (cs ++ c ∷ []))) true
  items_copied_more m vs cs v c p h k =
      both_of m (all_true (map q vs)) (all_true (map q cs)) (q v) (q c) (all_true (map q (vs ++ v ∷ []))) (all_true (map q (cs ++ c ∷ []))) p
      (ap all_true (map_append q vs (v ∷ [])) ∙ all_more (map q vs) (q v)) (ap all_true (map_append q cs (c ∷ [])) ∙ all_more (map q cs) (q c)) h k

-- the keys of members, by their view
abbrev member_keys : Members → List (List ℕ)
member_keys no_members = []
member_keys (member k d ms) = k ∷ member_keys ms

entries_keys : (ms : List (MapEntry Json)) → member_keys (entries_value ms) ≡ entry_key_bytes ms
entries_keys [] = refl
entries_keys (m ∷ ms) = ap (λ l. entry_key m ∷ l) (entries_keys ms)

pub texts_viewed : (l m : ChunkedVec (MapEntry Json)) → entries_value (vec_items m) ≡ entries_value (vec_items l) → vec_keys m ≡ vec_keys l
texts_viewed l m e =
    vec_models_of_items entry_key m ∙ sym (entries_keys (vec_items m)) ∙ ap member_keys e ∙ entries_keys (vec_items l) ∙ sym (vec_models_of_items entry_key l)

pub small_viewed : (l m : ChunkedVec (MapEntry Json)) → entries_value (vec_items m) ≡ entries_value (vec_items l) → length (vec_keys l) < 2 ^ 64 → length (vec_keys m) < 2 ^ 64
small_viewed l m e h = subst (λ ts. length ts < 2 ^ 64) (sym (texts_viewed l m e)) h

pub ascending_viewed : (l m : ChunkedVec (MapEntry Json)) → entries_value (vec_items m) ≡ entries_value (vec_items l) → IsAscending (vec_keys l) → IsAscending (vec_keys m)
ascending_viewed l m e h = subst IsAscending (sym (texts_viewed l m e)) h

abbrev pub value_own : MapEntry Json → Bool
value_own m = is_unique m.value

pub members_again : (m new : SortedMap Json) → map_entries new ≡ map_entries m → object_value new ≡ object_value m
members_again m new e = ap members_value e

pub view_more : (cs vs : List Json) (c v : Json) → map value_of cs ≡ map value_of vs → value_of c ≡ value_of v → map value_of (cs ++ c ∷ []) ≡ map value_of (vs ++ v ∷ [])
view_more cs vs c v h e = map_append value_of cs (c ∷ []) ∙ ap (λ l. l ++ value_of c ∷ []) h ∙ ap (λ d. map value_of vs ++ d ∷ []) e ∙ sym (map_append value_of vs (v ∷ []))

pub not_found : {A P : Type 0} (o : Option A) → ((x : A) → o ≡ Some x → ⊥) → IfNone o P → P
not_found (Some x) h p = absurd (h x refl)
not_found None h p = p

unique_both : (a b : Bool) → a ≡ true → b ≡ true → cond a b false ≡ true
unique_both true b h e = e
unique_both false b h e = h

pub unique_push : (vs : List Json) (v : Json) → items_unique vs ≡ true → is_unique v ≡ true → items_unique (vs ++ v ∷ []) ≡ true
unique_push vs v h own = ap all_true (map_append is_unique vs (v ∷ [])) ∙ all_more (map is_unique vs) (is_unique v) ∙ unique_both (items_unique vs) (is_unique v) h own
