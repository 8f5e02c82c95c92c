-- The output for a list or an object.
use Rattle.std.proofs.Common.{◌≡◌, List, [], ◌∷◌, ◌++◌, ℕ, map, Less, Greater, Result, Ok, Err, OnOk, OnErr, refl, sym, ap, ◌∙◌, append_assoc}
use Rattle.std.proofs.lemmas.Cmp.{nat_list_cmp_total}
use Rattle.std.specs.Ordering.{ordering_reverse}
use Rattle.serde_json.specs.Data as raw
use Rattle.serde_json.specs.View as data-view
use Rattle.serde_json.specs.declared.value.Value as raw-value
use Rattle.sdb_value.specs.FromJson.{data_of_value, data_of_items, data_of_members}
use Rattle.sdb_value.specs.View.{value_of, items_value, list_value, members_value, object_value}
use Rattle.sdb_value.specs.declared.value.Json.{Json}
use Rattle.json.specs.Token.{Token, begin_array, begin_object}
use Rattle.json.specs.Written.{WritesFront}
use Rattle.sdb_chunks.specs.declared.chunked_vec.ChunkedVec.{ChunkedVec}
use Rattle.sdb_sorted_map.specs.SortedMap.{entry_keys}
use Rattle.sdb_sorted_map.specs.KeyOrder.{compare_bytes, IsAscending}
use Rattle.sdb_sorted_map.specs.declared.sorted_map.SortedMap.{SortedMap}
use Rattle.sdb_value.specs.laws.PrefixLaws.{writes_prefix_after}
use Rattle.sdb_value.specs.ToJson.{array_tail_tokens, data_tokens, object_tail_tokens}
use Rattle.sdb_value.specs.declared.value.Json as json
use Rattle.sdb_value.proofs.KeyOrderLemmas.{NamedEntry, IsBelowAllNames, first_is_least}
use Rattle.sdb_value.proofs.ViewLemmas.{is_list, is_object}

pub to_items-map : (vs : List Json) → data-view.items_of (map (λ j. data_of_value (value_of j)) vs) ≡ data_of_items (items_value vs)
to_items-map [] = refl
to_items-map (v ∷ vs) = ap (raw.item (data_of_value (value_of v))) (to_items-map vs)

below_middle : (k : List ℕ) (es : List NamedEntry) (e : NamedEntry) (more : List NamedEntry) → IsBelowAllNames k (es ++ e ∷ more) → compare_bytes k e.0 ≡ Less
below_middle k [] e more h = h.0
below_middle k (x ∷ es) e more h = below_middle k es e more h.1

-- the greatest key goes last
pub put_last_data : (done : List NamedEntry) (e : NamedEntry) (more : List NamedEntry) → IsAscending (entry_keys (done ++ e ∷ more))
    → raw.put e.0 (data_of_value (value_of e.1)) (data_of_members (members_value done)) ≡ data_of_members (members_value (done ++ e ∷ []))
put_last_data [] e more h = refl
put_last_data (x ∷ done) e more h =
    let split = first_is_least x (done ++ e ∷ more) h in
    let above : compare_bytes e.0 x.0 ≡ Greater = nat_list_cmp_total.antisymm e.0 x.0 ∙ ap ordering_reverse (below_middle x.0 done e more split.below) in
    rw above (ap (raw.member x.0 (data_of_value (value_of x.1))) (put_last_data done e more split.rest))

map_append : {A B : Type 0} (f : A → B) (xs ys : List A) → map f (xs ++ ys) ≡ map f xs ++ map f ys
map_append f [] ys = refl
map_append f (x ∷ xs) ys = ap (λ l. f x ∷ l) (map_append f xs ys)

-- one more item
pub made_more : (ms : List raw-value.Value) (done : List Json) (m : raw-value.Value) (v : Json) → map data-view.view ms ≡ map (λ j. data_of_value (value_of j)) done
    → data-view.view m ≡ data_of_value (value_of v) → map data-view.view (ms ++ m ∷ []) ≡ map (λ j. data_of_value (value_of j)) (done ++ v ∷ [])
made_more ms done m v h e =
    map_append data-view.view ms (m ∷ []) ∙ ap (λ l. l ++ data-view.view m ∷ []) h ∙ ap (λ d. map (λ j. data_of_value (value_of j)) done ++ d ∷ []) e
    ∙ sym (map_append (λ j. data_of_value (value_of j)) done (v ∷ []))

-- a list or an object after its opening bracket
pub array_written : {A E : Type 0} (r : Result A E) (v : Json) (l : ChunkedVec Json) (old mid new : List Token) → v ≡ json.List l → mid ≡ old ++ begin_array ∷ []
    → OnOk r (new ≡ mid ++ array_tail_tokens (data_of_items (list_value l))) → OnOk r (new ≡ old ++ data_tokens (data_of_value (value_of v)))
array_written (Err e) v l old mid new is first_is_least h = tt
array_written (Ok x) v l old mid new is first_is_least h =
    let rest : List Token = array_tail_tokens (data_of_items (list_value l)) in
    h ∙ ap (λ ts. ts ++ rest) first_is_least ∙ append_assoc old (begin_array ∷ []) rest ∙ ap (λ d. old ++ data_tokens (data_of_value d)) (sym (is_list v l is))

pub array_prefix : {A E : Type 0} (r : Result A E) (v : Json) (l : ChunkedVec Json) (old mid new : List Token) → v ≡ json.List l → mid ≡ old ++ begin_array ∷ []
    → OnErr r (WritesFront mid new (array_tail_tokens (data_of_items (list_value l)))) → OnErr r (WritesFront old new (data_tokens (data_of_value (value_of v))))
array_prefix (Ok x) v l old mid new is first_is_least h = tt
array_prefix (Err e) v l old mid new is first_is_least h =
    writes_prefix_after old mid new (begin_array ∷ []) (array_tail_tokens (data_of_items (list_value l))) (data_tokens (data_of_value (value_of v))) first_is_least
    (ap (λ d. data_tokens (data_of_value d)) (is_list v l is)) h

pub object_written : {A E : Type 0} (r : Result A E) (v : Json) (o : SortedMap Json) (old mid new : List Token) → v ≡ json.Object o → mid ≡ old ++ begin_object ∷ []
    → OnOk r (new ≡ mid ++ object_tail_tokens (data_of_members (object_value o))) → OnOk r (new ≡ old ++ data_tokens (data_of_value (value_of v)))
object_written (Err e) v o old mid new is first_is_least h = tt
object_written (Ok x) v o old mid new is first_is_least h =
    let rest : List Token = object_tail_tokens (data_of_members (object_value o)) in
    h ∙ ap (λ ts. ts ++ rest) first_is_least ∙ append_assoc old (begin_object ∷ []) rest ∙ ap (λ d. old ++ data_tokens (data_of_value d)) (sym (is_object v o is))

pub object_prefix : {A E : Type 0} (r : Result A E) (v : Json) (o : SortedMap Json) (old mid new : List Token) → v ≡ json.Object o → mid ≡ old ++ begin_object ∷ []
    → OnErr r (WritesFront mid new (object_tail_tokens (data_of_members (object_value o)))) → OnErr r (WritesFront old new (data_tokens (data_of_value (value_of v))))
object_prefix (Ok x) v o old mid new is first_is_least h = tt
object_prefix (Err e) v o old mid new is first_is_least h =
    writes_prefix_after old mid new (begin_object ∷ []) (object_tail_tokens (data_of_members (object_value o))) (data_tokens (data_of_value (value_of v))) first_is_least
    (ap (λ d. data_tokens (data_of_value d)) (is_object v o is)) h
