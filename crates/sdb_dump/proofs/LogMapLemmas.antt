-- The logs in a checker's map.
use Rattle.std.proofs.Common.{◌≡◌, ◌≢◌, ℕ, List, [], ◌∷◌, Bool, true, false, ◌||◌, cond, map, length, Option, Some, Ordering, Less, Equal, Greater, unwrap_or, refl, sym, ap, ◌∙◌}
use Rattle.std.specs.BTreeMap.{insert_entry, is_at}
use Rattle.std.specs.List.{AllByRecursion, list_any}
use Rattle.std.specs.List.Sorted.{IsStrictlySortedBy}
use Rattle.std.specs.Map.{keys_of, lookup}
use Rattle.std.specs.Ordering.{match_ordering}
use Rattle.std.proofs.lemmas.List.{length-map}
use Rattle.sdb_desk.specs.Machine.{is_nonempty}
use Rattle.sdb_oplog.specs.Keys.{PlainKey, compare_keys, keys_equal, plain_key}
use Rattle.sdb_oplog.specs.Plain.{PlainEntry}
use Rattle.sdb_oplog.specs.declared.keys.Key.{Key}
use Rattle.sdb_dump.specs.CheckerModel.{AreNotEmpty, logs_of_map, HasDocumentCount}

abbrev LogEntries : Type 0
LogEntries = List (Key × List PlainEntry)

abbrev compare_keys_of : Key → Key → Ordering
compare_keys_of a b = compare_keys (plain_key a) (plain_key b)

insert_or : (o : Ordering) (e : Key × List PlainEntry) (es rest : LogEntries) (k : Key) (v : List PlainEntry) → AreNotEmpty (e ∷ es) → v ≢ [] → AreNotEmpty rest
    → AreNotEmpty (match_ordering o ((k, v) ∷ e ∷ es) ((e.0, v) ∷ es) (e ∷ rest))
insert_or Less e es rest k v h n r = (n, h)
insert_or Equal e es rest k v h n r = (n, h.1)
insert_or Greater e es rest k v h n r = (h.0, r)

pub filled_insert : (es : LogEntries) (k : Key) (v : List PlainEntry) → AreNotEmpty es → v ≢ [] → AreNotEmpty (insert_entry compare_keys_of es k v)
filled_insert [] k v h n = (n, tt)
filled_insert (e ∷ es) k v h n = insert_or (compare_keys_of k e.0) e es (insert_entry compare_keys_of es k v) k v h n (filled_insert es k v h.1 n)

-- ---- the keys with entries

all_below_key : (a : PlainKey) (es : LogEntries) → AllByRecursion (λ y. compare_keys a (plain_key y) ≡ Less) (keys_of es) → AllByRecursion (λ y. compare_keys a y ≡ Less) (map plain_key (keys_of es))
all_below_key a [] h = tt
all_below_key a (e ∷ es) h = (h.0, all_below_key a es h.1)

in_order : (es : LogEntries) → IsStrictlySortedBy compare_keys_of (keys_of es) → IsStrictlySortedBy compare_keys (map plain_key (keys_of es))
unfolding IsStrictlySortedBy
in_order [] h = tt
in_order (e ∷ es) h = (all_below_key (plain_key e.0) es h.0, in_order es h.1)

is_not_empty : (v : List PlainEntry) → v ≢ [] → true ≡ is_nonempty v
is_not_empty [] h = absurd (h refl)
is_not_empty (x ∷ v) h = refl

whole_or : (b c : Bool) (v : List PlainEntry) (o : Option (List PlainEntry)) → v ≢ [] → c ≡ is_nonempty (unwrap_or o [])
    → (b || c) ≡ is_nonempty (unwrap_or (cond b (Some v) o) [])
whole_or true c v o n h = is_not_empty v n
whole_or false c v o n h = h

nonempty_keys_complete : (es : LogEntries) → AreNotEmpty es → (k : PlainKey) → list_any (keys_equal k) (map plain_key (keys_of es)) ≡ is_nonempty (logs_of_map es k)
nonempty_keys_complete [] h k = refl
nonempty_keys_complete (e ∷ es) h k =
    whole_or (keys_equal k (plain_key e.0)) (list_any (keys_equal k) (map plain_key (keys_of es))) e.1 (lookup (is_at (λ s. compare_keys k (plain_key s))) es) h.0 (nonempty_keys_complete es h.1 k)

length_keys : (es : LogEntries) → length es ≡ length (keys_of es)
length_keys [] = refl
length_keys (e ∷ es) = ap (λ n. ℕ.suc n) (length_keys es)

pub documents_of : (es : LogEntries) (n : ℕ) → IsStrictlySortedBy compare_keys_of (keys_of es) → AreNotEmpty es → n ≡ length es → HasDocumentCount (logs_of_map es) n
documents_of es n o h e =
    (map plain_key (keys_of es), record { in_order = in_order es o; whole = nonempty_keys_complete es h }, e ∙ length_keys es ∙ sym (length-map (keys_of es) plain_key))
