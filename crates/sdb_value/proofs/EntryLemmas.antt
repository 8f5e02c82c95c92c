-- An object as its keys and the list of its values.
use Rattle.std.proofs.Common.{◌≡◌, ℕ, zero, suc, List, [], ◌∷◌, map, take, drop, Option, Some, None, refl, sym, ap, ◌∙◌, subst, slice_get, cond, Bool, true, false, Result, Ok, Err, IfOk}
use Rattle.std.specs.Option.{option_and_then, option_map_or, MatchOption}
use Rattle.std.specs.Ordering.{is_eq}
use Rattle.sdb_chunks.specs.laws.ChunkLaws.{vec_models_of_items}
use Rattle.sdb_chunks.specs.ChunkedVec.{vec_items}
use Rattle.sdb_sorted_map.specs.MapEntry.{entry_key}
use Rattle.sdb_sorted_map.specs.SortedMap.{map_keys, map_chunks}
use Rattle.sdb_sorted_map.specs.SearchModel.{entry_key_bytes, vec_keys}
use Rattle.sdb_sorted_map.specs.declared.map_entry.MapEntry.{MapEntry}
use Rattle.sdb_chunks.specs.declared.chunked_vec.ChunkedVec.{ChunkedVec}
use Rattle.sdb_sorted_map.specs.laws.SortedMapLaws.{compare_equal}
use Rattle.sdb_sorted_map.specs.KeyOrder.{IsAboveAll, IsBelowAll, IsKeyIndex, IsInsertIndex}
use Rattle.sdb_sorted_map.specs.declared.sorted_map.SortedMap.{SortedMap}
use Rattle.sdb_value.specs.Change.{ReplacedAt, AbsentAt}
use Rattle.sdb_value.specs.Value.{Value, list, object, Items, no_items, item, Members, no_members, member, PlainStep, key, index, item_at, member_at, set_item, set_member, value_at, with_value_at}
use Rattle.sdb_value.specs.View.{value_of, entries_value, items_from_list, object_value, values_of_entries}
use Rattle.sdb_value.specs.declared.value.Json.{Json}

abbrev pub members_of_pairs : List (List ℕ) → Items → Members
members_of_pairs [] ds = no_members
members_of_pairs (t ∷ ts) no_items = no_members
members_of_pairs (t ∷ ts) (item d ds) = member t d (members_of_pairs ts ds)

paired_view : (ms : List (MapEntry Json)) → entries_value ms ≡ members_of_pairs (entry_key_bytes ms) (items_from_list (map (λ m. value_of m.value) ms))
paired_view [] = refl
paired_view (m ∷ ms) = ap (member (entry_key m) (value_of m.value)) (paired_view ms)

pub object_pairs : (m : SortedMap Json) → object_value m ≡ members_of_pairs (map_keys m) (values_of_entries (map_chunks m))
object_pairs m = paired_view (vec_items (map_chunks m)) ∙ ap (λ ts. members_of_pairs ts (values_of_entries (map_chunks m))) (sym (vec_models_of_items entry_key (map_chunks m)))

module _ (k : List ℕ) where
  member_in : (ts : List (List ℕ)) (ds : Items) (i : ℕ) → slice_get ts i ≡ Some k → IsAboveAll k (take i ts) → member_at k (members_of_pairs ts ds) ≡ item_at i ds
  member_in [] ds i e a = cc
  member_in (t ∷ ts) no_items i e a = refl
  member_in (t ∷ ts) (item d ds) zero e a = let is : t ≡ k = cc in ap (λ o. cond (is_eq o) (Some d) (member_at k (members_of_pairs ts ds))) (compare_equal k t is)
  member_in (t ∷ ts) (item d ds) (suc i) e a = ap (λ o. cond (is_eq o) (Some d) (member_at k (members_of_pairs ts ds))) a.0 ∙ member_in ts ds i e a.1

  -- the value of a key is the item at its index
  pub member_found : (ts : List (List ℕ)) (ds : Items) (i : ℕ) → IsKeyIndex ts k i → member_at k (members_of_pairs ts ds) ≡ item_at i ds
  member_found ts ds i f = member_in ts ds i f.key_at_index f.above_all_before

  set_in : (ts : List (List ℕ)) (ds : Items) (i : ℕ) (u : Value) → slice_get ts i ≡ Some k → IsAboveAll k (take i ts)
      → set_member k (members_of_pairs ts ds) u ≡ members_of_pairs ts (set_item i ds u)
  set_in [] ds i u e a = cc
  set_in (t ∷ ts) no_items i u e a = refl
  set_in (t ∷ ts) (item d ds) zero u e a = let is : t ≡ k = cc in
      ap (λ o. cond (is_eq o) (member t u (members_of_pairs ts ds)) (member t d (set_member k (members_of_pairs ts ds) u))) (compare_equal k t is)
  set_in (t ∷ ts) (item d ds) (suc i) u e a =
      ap (λ o. cond (is_eq o) (member t u (members_of_pairs ts ds)) (member t d (set_member k (members_of_pairs ts ds) u))) a.0 ∙ ap (member t d) (set_in ts ds i u e a.1)

  pub set_found : (ts : List (List ℕ)) (ds : Items) (i : ℕ) (u : Value) → IsKeyIndex ts k i → set_member k (members_of_pairs ts ds) u ≡ members_of_pairs ts (set_item i ds u)
  set_found ts ds i u f = set_in ts ds i u f.key_at_index f.above_all_before

  -- a key that is absent
  none_below : (ts : List (List ℕ)) (ds : Items) → IsBelowAll k ts → member_at k (members_of_pairs ts ds) ≡ None
  none_below [] ds b = refl
  none_below (t ∷ ts) no_items b = refl
  none_below (t ∷ ts) (item d ds) b = ap (λ o. cond (is_eq o) (Some d) (member_at k (members_of_pairs ts ds))) b.0 ∙ none_below ts ds b.1

  none_in : (ts : List (List ℕ)) (ds : Items) (i : ℕ) → IsAboveAll k (take i ts) → IsBelowAll k (drop i ts) → member_at k (members_of_pairs ts ds) ≡ None
  none_in [] ds i a b = refl
  none_in (t ∷ ts) no_items i a b = refl
  none_in (t ∷ ts) (item d ds) zero a b = none_below (t ∷ ts) (item d ds) b
  none_in (t ∷ ts) (item d ds) (suc i) a b = ap (λ o. cond (is_eq o) (Some d) (member_at k (members_of_pairs ts ds))) a.0 ∙ none_in ts ds i a.1 b

  pub member_missing : (ts : List (List ℕ)) (ds : Items) (i : ℕ) → IsInsertIndex ts k i → member_at k (members_of_pairs ts ds) ≡ None
  member_missing ts ds i g = none_in ts ds i g.above_all_before g.below

  -- a write at an index of the values is a write at the key of the object
  placed_in : (o : Option Value) (ts : List (List ℕ)) (ds es : Items) (i : ℕ) (p : List PlainStep) (u : Value) → IsKeyIndex ts k i
      → list es ≡ option_map_or (λ c. list (set_item i ds (with_value_at c p u))) o (list ds)
      → object (members_of_pairs ts es) ≡ option_map_or (λ c. object (set_member k (members_of_pairs ts ds) (with_value_at c p u))) o (object (members_of_pairs ts ds))
  placed_in None ts ds es i p u f e = let is : es ≡ ds = cc in ap (λ l. object (members_of_pairs ts l)) is
  placed_in (Some c) ts ds es i p u f e =
      let is : es ≡ set_item i ds (with_value_at c p u) = cc in
      ap (λ l. object (members_of_pairs ts l)) is ∙ ap object (sym (set_found ts ds i (with_value_at c p u) f))

  pub changed_in : (R : Value → Value → Type 0) (ts : List (List ℕ)) (ds es : Items) (i : ℕ) (p : List PlainStep) → IsKeyIndex ts k i
      → ReplacedAt R (list ds) (index i ∷ p) (list es) → ReplacedAt R (object (members_of_pairs ts ds)) (key k ∷ p) (object (members_of_pairs ts es))
  changed_in R ts ds es i p f c = record {
    before = c.before;
    after = c.after;
    found = ap (option_and_then (λ d. value_at d p)) (member_found ts ds i f) ∙ c.found;
    related = c.related;
    placed = placed_in (item_at i ds) ts ds es i p c.after f c.placed
        ∙ ap (λ o. option_map_or (λ d. object (set_member k (members_of_pairs ts ds) (with_value_at d p c.after))) o (object (members_of_pairs ts ds))) (sym (member_found ts ds i f));
  }

  pub nothing_in : (ts : List (List ℕ)) (ds es : Items) (i : ℕ) (p : List PlainStep) → IsKeyIndex ts k i
      → AbsentAt (list ds) (index i ∷ p) (list es) → AbsentAt (object (members_of_pairs ts ds)) (key k ∷ p) (object (members_of_pairs ts es))
  nothing_in ts ds es i p f n =
      let is : es ≡ ds = let e = n.same in cc in
      record {
        absent = ap (option_and_then (λ d. value_at d p)) (member_found ts ds i f) ∙ n.absent;
        same = ap (λ l. object (members_of_pairs ts l)) is;
      }

  pub nothing_there : (ts : List (List ℕ)) (ds : Items) (i : ℕ) (p : List PlainStep) → IsInsertIndex ts k i
      → AbsentAt (object (members_of_pairs ts ds)) (key k ∷ p) (object (members_of_pairs ts ds))
  nothing_there ts ds i p g = record { absent = ap (option_and_then (λ d. value_at d p)) (member_missing ts ds i g); same = refl }

-- ---- for an object in a value

module _ {O E : Type 0} (r : Result (Option O) E) (R : O → Value → Value → Type 0) (k : List ℕ) (i : ℕ) (p : List PlainStep) where
  set_in_pairs : (ts : List (List ℕ)) (ds es : Items) → IsKeyIndex ts k i
      → IfOk r (λ o. MatchOption o (AbsentAt (list ds) (index i ∷ p) (list es)) (λ x. ReplacedAt (R x) (list ds) (index i ∷ p) (list es)))
      → IfOk r (λ o. MatchOption o (AbsentAt (object (members_of_pairs ts ds)) (key k ∷ p) (object (members_of_pairs ts es)))
      (λ x. ReplacedAt (R x) (object (members_of_pairs ts ds)) (key k ∷ p) (object (members_of_pairs ts es))))
  set_in_pairs ts ds es f h = result_cases r h
    where
      result_cases : (q : Result (Option O) E)
          → IfOk q (λ o. MatchOption o (AbsentAt (list ds) (index i ∷ p) (list es)) (λ x. ReplacedAt (R x) (list ds) (index i ∷ p) (list es)))
          → IfOk q (λ o. MatchOption o (AbsentAt (object (members_of_pairs ts ds)) (key k ∷ p) (object (members_of_pairs ts es)))
          (λ x. ReplacedAt (R x) (object (members_of_pairs ts ds)) (key k ∷ p) (object (members_of_pairs ts es))))
      result_cases (Ok None) h = nothing_in k ts ds es i p f h
      result_cases (Ok (Some x)) h = changed_in k (R x) ts ds es i p f h
      result_cases (Err e) h = tt

  view_pairs : (s new : SortedMap Json) → map_keys new ≡ map_keys s → IsKeyIndex (map_keys s) k i
      → IfOk r (λ o. MatchOption o (AbsentAt (list (values_of_entries (map_chunks s))) (index i ∷ p) (list (values_of_entries (map_chunks new))))
      (λ x. ReplacedAt (R x) (list (values_of_entries (map_chunks s))) (index i ∷ p) (list (values_of_entries (map_chunks new)))))
      → IfOk r (λ o. MatchOption o (AbsentAt (object (object_value s)) (key k ∷ p) (object (object_value new)))
      (λ x. ReplacedAt (R x) (object (object_value s)) (key k ∷ p) (object (object_value new))))
  view_pairs s new e f h =
      let P : Members → Members → Type 0 = λ ms ns. IfOk r (λ o. MatchOption o (AbsentAt (object ms) (key k ∷ p) (object ns)) (λ x. ReplacedAt (R x) (object ms) (key k ∷ p) (object ns))) in
      let ts = map_keys s in
      let ds = values_of_entries (map_chunks s) in
      let es = values_of_entries (map_chunks new) in
      let after : object_value new ≡ members_of_pairs ts es = object_pairs new ∙ ap (λ us. members_of_pairs us es) e in
      subst (λ ms. P ms (object_value new)) (sym (object_pairs s)) (subst (P (members_of_pairs ts ds)) (sym after) (set_in_pairs ts ds es f h))

  -- for lists of members that were taken out and put back
  abbrev PairsUpdated : ChunkedVec (MapEntry Json) → ChunkedVec (MapEntry Json) → Type 0
  PairsUpdated l n = IfOk r (λ o. MatchOption o (AbsentAt (list (values_of_entries l)) (index i ∷ p) (list (values_of_entries n)))
      (λ x. ReplacedAt (R x) (list (values_of_entries l)) (index i ∷ p) (list (values_of_entries n))))

  pub view_members : (s new : SortedMap Json) (l n : ChunkedVec (MapEntry Json)) → l ≡ map_chunks s → map_chunks new ≡ n → vec_keys n ≡ vec_keys l → IsKeyIndex (map_keys s) k i
      → PairsUpdated l n → IfOk r (λ o. MatchOption o (AbsentAt (object (object_value s)) (key k ∷ p) (object (object_value new)))
      (λ x. ReplacedAt (R x) (object (object_value s)) (key k ∷ p) (object (object_value new))))
  view_members s new l n a b e f h =
      view_pairs s new (ap vec_keys b ∙ e ∙ ap vec_keys a) f (subst (λ x. PairsUpdated x (map_chunks new)) a (subst (PairsUpdated l) (sym b) h))

pub key_missing : (s : SortedMap Json) (k : List ℕ) (i : ℕ) (p : List PlainStep) → IsInsertIndex (map_keys s) k i
    → AbsentAt (object (object_value s)) (key k ∷ p) (object (object_value s))
key_missing s k i p g =
    subst (λ ms. AbsentAt (object ms) (key k ∷ p) (object ms)) (sym (object_pairs s)) (nothing_there k (map_keys s) (values_of_entries (map_chunks s)) i p g)

pub same_object : (s new : SortedMap Json) → map_keys new ≡ map_keys s → values_of_entries (map_chunks new) ≡ values_of_entries (map_chunks s) → object_value new ≡ object_value s
same_object s new k v =
    object_pairs new ∙ ap (λ ts. members_of_pairs ts (values_of_entries (map_chunks new))) k ∙ ap (members_of_pairs (map_keys s)) v ∙ sym (object_pairs s)
