-- The keys of documents with entries, from the entries of a map.
use Rattle.std.proofs.Common.{◌≡◌, List, [], ◌∷◌, Bool, true, false, cond, Some, unwrap_or, Less, refl, sym, subst, ◌∙◌}
use Rattle.std.specs.BTreeMap.{is_at}
use Rattle.std.specs.List.{AllByRecursion, list_any}
use Rattle.std.specs.List.Sorted.{IsStrictlySortedBy}
use Rattle.std.specs.Map.{keys_of, lookup}
use Rattle.sdb_oplog.specs.Keys.{PlainKey, compare_keys, keys_equal, plain_key}
use Rattle.sdb_oplog.specs.declared.keys.Key.{Key}
use Rattle.sdb_desk.specs.MapModel.{value_at_key}
use Rattle.sdb_desk.specs.laws.KeyLaws.{eq_of_keys_equal}
use Rattle.sdb_desk.specs.StoredKeys.{IsKeyList}
use Rattle.sdb_desk.specs.SlotModel.{PlainSlot, empty_slot}
use Rattle.sdb_desk.specs.Machine.{is_nonempty}

-- the keys of the slots whose log isn't empty
abbrev pub nonempty_keys : List (Key × PlainSlot) → List PlainKey
nonempty_keys [] = []
nonempty_keys (e ∷ es) = cond (is_nonempty e.1.document.log) (plain_key e.0 ∷ nonempty_keys es) (nonempty_keys es)

below_or : (filled : Bool) (a : PlainKey) (e : Key × PlainSlot) (es : List (Key × PlainSlot)) → compare_keys a (plain_key e.0) ≡ Less → AllByRecursion (λ y. compare_keys a y ≡ Less) (nonempty_keys es) → AllByRecursion (λ y. compare_keys a y ≡ Less) (cond filled (plain_key e.0 ∷ nonempty_keys es) (nonempty_keys es))
below_or true a e es one rest = (one, rest)
below_or false a e es one rest = rest

all_below_key : (a : PlainKey) (es : List (Key × PlainSlot)) → AllByRecursion (λ y. compare_keys a (plain_key y) ≡ Less) (keys_of es) → AllByRecursion (λ y. compare_keys a y ≡ Less) (nonempty_keys es)
all_below_key a [] all = tt
all_below_key a (e ∷ es) all = below_or (is_nonempty e.1.document.log) a e es all.0 (all_below_key a es all.1)

abbrev KeysAscend : List (Key × PlainSlot) → Type 0
KeysAscend es = IsStrictlySortedBy (λ a b. compare_keys (plain_key a) (plain_key b)) (keys_of es)

in_order_or : (filled : Bool) (e : Key × PlainSlot) (es : List (Key × PlainSlot)) → AllByRecursion (λ y. compare_keys (plain_key e.0) (plain_key y) ≡ Less) (keys_of es) → IsStrictlySortedBy compare_keys (nonempty_keys es) → IsStrictlySortedBy compare_keys (cond filled (plain_key e.0 ∷ nonempty_keys es) (nonempty_keys es))
unfolding IsStrictlySortedBy
in_order_or true e es all rest = (all_below_key (plain_key e.0) es all, rest)
in_order_or false e es all rest = rest

in_order : (es : List (Key × PlainSlot)) → KeysAscend es → IsStrictlySortedBy compare_keys (nonempty_keys es)
unfolding IsStrictlySortedBy
in_order [] ordered = tt
in_order (e ∷ es) ordered = in_order_or (is_nonempty e.1.document.log) e es ordered.0 (in_order es ordered.1)

-- a is none of these keys
none_equal : (a : PlainKey) (ks : List PlainKey) → AllByRecursion (λ y. compare_keys a y ≡ Less) ks → list_any (keys_equal a) ks ≡ false
none_equal a [] all = refl
none_equal a (k ∷ ks) all = rw (all.0) (none_equal a ks all.1)

member_at_head : (filled : Bool) (k : PlainKey) (e : Key × PlainSlot) (es : List (Key × PlainSlot)) → is_nonempty e.1.document.log ≡ filled → keys_equal k (plain_key e.0) ≡ true → AllByRecursion (λ y. compare_keys k y ≡ Less) (nonempty_keys es)
    → list_any (keys_equal k) (cond filled (plain_key e.0 ∷ nonempty_keys es) (nonempty_keys es)) ≡ is_nonempty e.1.document.log
member_at_head true k e es is same all = rw (same, is) refl
member_at_head false k e es is same all = none_equal k (nonempty_keys es) all ∙ sym is

member_in_tail : (filled : Bool) (k : PlainKey) (e : Key × PlainSlot) (es : List (Key × PlainSlot)) → keys_equal k (plain_key e.0) ≡ false
    → list_any (keys_equal k) (cond filled (plain_key e.0 ∷ nonempty_keys es) (nonempty_keys es)) ≡ list_any (keys_equal k) (nonempty_keys es)
member_in_tail true k e es apart = rw apart refl
member_in_tail false k e es apart = refl

found_or : (same : Bool) (e : Key × PlainSlot) (es : List (Key × PlainSlot)) (k : PlainKey) → keys_equal k (plain_key e.0) ≡ same → AllByRecursion (λ y. compare_keys (plain_key e.0) (plain_key y) ≡ Less) (keys_of es)
    → list_any (keys_equal k) (nonempty_keys es) ≡ is_nonempty (value_at_key empty_slot es k).document.log → list_any (keys_equal k) (nonempty_keys (e ∷ es)) ≡ is_nonempty (unwrap_or (cond same (Some e.1) (lookup (is_at (λ s. compare_keys k (plain_key s))) es)) empty_slot).document.log
found_or true e es k is all rest =
    member_at_head (is_nonempty e.1.document.log) k e es refl is (all_below_key k es (subst (λ a. AllByRecursion (λ y. compare_keys a (plain_key y) ≡ Less) (keys_of es)) (sym (eq_of_keys_equal k (plain_key e.0) is)) all))
found_or false e es k is all rest = member_in_tail (is_nonempty e.1.document.log) k e es is ∙ rest

member_of_nonempty_keys : (es : List (Key × PlainSlot)) → KeysAscend es → (k : PlainKey) → list_any (keys_equal k) (nonempty_keys es) ≡ is_nonempty (value_at_key empty_slot es k).document.log
unfolding IsStrictlySortedBy
member_of_nonempty_keys [] ordered k = refl
member_of_nonempty_keys (e ∷ es) ordered k = found_or (keys_equal k (plain_key e.0)) e es k refl ordered.0 (member_of_nonempty_keys es ordered.1 k)

-- the nonempty keys of a sorted map are the key list
pub nonempty_keys_are_key_list : (es : List (Key × PlainSlot)) → KeysAscend es → IsKeyList (λ k. (value_at_key empty_slot es k).document.log) (nonempty_keys es)
nonempty_keys_are_key_list es ordered = record { in_order = in_order es ordered; whole = member_of_nonempty_keys es ordered }
