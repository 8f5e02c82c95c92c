-- Laws of the value of a map at each key, after an update, an insert and a removal.
use Rattle.std.proofs.Common.{◌≡◌, List, [], ◌∷◌, Bool, true, false, cond, Option, Some, None, unwrap_or, Ordering, Less, Equal, Greater, is_eq, refl, sym, ap, ◌∙◌}
use Rattle.std.specs.Ordering.{match_ordering}
use Rattle.std.specs.Map.{lookup, set_value, remove_entry}
use Rattle.std.specs.BTreeMap.{is_at, insert_entry}
use Rattle.std.specs.Option.{is_some}
use Rattle.std.proofs.lemmas.Map.Steps.{set_value_same}
use Rattle.sdb_oplog.specs.Keys.{PlainKey, compare_keys, keys_equal, plain_key}
use Rattle.sdb_desk.specs.MapModel.{value_at_key}
use Rattle.sdb_oplog.specs.Keys.{with_value_at_key}
use Rattle.sdb_desk.specs.laws.KeyLaws.{eq_of_keys_equal, keys_equal_refl}
use Rattle.sdb_oplog.specs.declared.keys.Key.{Key}

bool_ext : (p q : Bool) → (p ≡ true → q ≡ true) → (q ≡ true → p ≡ true) → p ≡ q
bool_ext true true f g = refl
bool_ext false false f g = refl
bool_ext true false f g = sym (f refl)
bool_ext false true f g = g refl

keys_equal_symm : (a b : PlainKey) → keys_equal a b ≡ true → keys_equal b a ≡ true
keys_equal_symm a b e = ap (keys_equal b) (eq_of_keys_equal a b e) ∙ keys_equal_refl b

pub keys_equal_comm : (a b : PlainKey) → keys_equal a b ≡ keys_equal b a
keys_equal_comm a b = bool_ext (keys_equal a b) (keys_equal b a) (keys_equal_symm a b) (keys_equal_symm b a)

module _ {A : Type 0} (none : A) where
  -- w is the first value, for key k
  value_of_head : (b c : Bool) (w : A) (o : Option A) (old : A) → b ≡ c → (c ≡ false → old ≡ unwrap_or o none)
      → unwrap_or (cond b (Some w) o) none ≡ cond c w old
  value_of_head true true w o old e h = refl
  value_of_head false false w o old e h = sym (h refl)
  value_of_head true false w o old e h = cc
  value_of_head false true w o old e h = cc

  -- the first entry has another key
  value_of_tail : (b c : Bool) (v w : A) (o p : Option A) → (b ≡ true → c ≡ false)
      → unwrap_or o none ≡ cond c w (unwrap_or p none)
      → unwrap_or (cond b (Some v) o) none ≡ cond c w (unwrap_or (cond b (Some v) p) none)
  value_of_tail true true v w o p f e = let x : true ≡ false = f refl in cc
  value_of_tail true false v w o p f e = refl
  value_of_tail false c v w o p f e = e

  unwrap_cond_false : (b : Bool) (v : A) (o : Option A) → b ≡ false → unwrap_or (cond b (Some v) o) none ≡ unwrap_or o none
  unwrap_cond_false true v o e = cc
  unwrap_cond_false false v o e = refl

  value_at_set_head : (e : Key × A) (es : List (Key × A)) (k q : PlainKey) (w : A) → keys_equal k (plain_key e.0) ≡ true
      → value_at_key none ((e.0, w) ∷ es) q ≡ cond (keys_equal k q) w (value_at_key none (e ∷ es) q)
  value_at_set_head e es k q w is =
      let x : k ≡ plain_key e.0 = eq_of_keys_equal k (plain_key e.0) is in
      let b : keys_equal q (plain_key e.0) ≡ keys_equal k q =
      keys_equal_comm q (plain_key e.0) ∙ ap (λ y. keys_equal y q) (sym x) in
      value_of_head (keys_equal q (plain_key e.0)) (keys_equal k q) w (lookup (is_at (λ s. compare_keys q (plain_key s))) es)
      (value_at_key none (e ∷ es) q) b (λ n. unwrap_cond_false (keys_equal q (plain_key e.0)) e.1 _ (b ∙ n))

  value_at_set_tail : (e : Key × A) (es rest : List (Key × A)) (k q : PlainKey) (w : A) → keys_equal k (plain_key e.0) ≡ false
      → value_at_key none rest q ≡ cond (keys_equal k q) w (value_at_key none es q)
      → value_at_key none (e ∷ rest) q ≡ cond (keys_equal k q) w (value_at_key none (e ∷ es) q)
  value_at_set_tail e es rest k q w apart h =
      value_of_tail (keys_equal q (plain_key e.0)) (keys_equal k q) e.1 w _ _
      (λ t. ap (keys_equal k) (eq_of_keys_equal q (plain_key e.0) t) ∙ apart) h

  value_at_set_cond : (b : Bool) (e : Key × A) (es rest : List (Key × A)) (k q : PlainKey) (w : A) → keys_equal k (plain_key e.0) ≡ b
      → (b ≡ false → value_at_key none rest q ≡ cond (keys_equal k q) w (value_at_key none es q))
      → value_at_key none (cond b ((e.0, w) ∷ es) (e ∷ rest)) q ≡ cond (keys_equal k q) w (value_at_key none (e ∷ es) q)
  value_at_set_cond true e es rest k q w is h = value_at_set_head e es k q w is
  value_at_set_cond false e es rest k q w is h = value_at_set_tail e es rest k q w is (h refl)

  is_some_cond_false : (b : Bool) (v : A) (o : Option A) → b ≡ false → is_some (cond b (Some v) o) ≡ true → is_some o ≡ true
  is_some_cond_false true v o e h = cc
  is_some_cond_false false v o e h = h

  -- after an update of the value at k
  pub value_at_set : (es : List (Key × A)) (k q : PlainKey) (w : A)
      → is_some (lookup (is_at (λ s. compare_keys k (plain_key s))) es) ≡ true
      → value_at_key none (set_value (is_at (λ s. compare_keys k (plain_key s))) es w) q ≡ cond (keys_equal k q) w (value_at_key none es q)
  value_at_set [] k q w h = cc
  value_at_set (e ∷ es) k q w h =
      value_at_set_cond (keys_equal k (plain_key e.0)) e es _ k q w refl
      (λ n. value_at_set es k q w (is_some_cond_false (keys_equal k (plain_key e.0)) e.1 _ n h))

  value_at_insert_cond : (o : Ordering) (s : Key) (e : Key × A) (es rest : List (Key × A)) (q : PlainKey) (w : A)
      → compare_keys (plain_key s) (plain_key e.0) ≡ o
      → value_at_key none rest q ≡ cond (keys_equal (plain_key s) q) w (value_at_key none es q)
      → value_at_key none (match_ordering o ((s, w) ∷ e ∷ es) ((e.0, w) ∷ es) (e ∷ rest)) q
      ≡ cond (keys_equal (plain_key s) q) w (value_at_key none (e ∷ es) q)
  value_at_insert_cond Less s e es rest q w is h =
      value_of_head (keys_equal q (plain_key s)) (keys_equal (plain_key s) q) w
      (lookup (is_at (λ s. compare_keys q (plain_key s))) (e ∷ es)) (value_at_key none (e ∷ es) q) (keys_equal_comm q (plain_key s))
      (λ n. refl)
  value_at_insert_cond Equal s e es rest q w is h = value_at_set_head e es (plain_key s) q w (ap is_eq is)
  value_at_insert_cond Greater s e es rest q w is h = value_at_set_tail e es rest (plain_key s) q w (ap is_eq is) h

  -- after an insert
  pub value_at_insert : (es : List (Key × A)) (s : Key) (q : PlainKey) (w : A)
      → value_at_key none (insert_entry (λ a b. compare_keys (plain_key a) (plain_key b)) es s w) q
      ≡ cond (keys_equal (plain_key s) q) w (value_at_key none es q)
  value_at_insert [] s q w =
      value_of_head (keys_equal q (plain_key s)) (keys_equal (plain_key s) q) w None none (keys_equal_comm q (plain_key s)) (λ n. refl)
  value_at_insert (e ∷ es) s q w =
      value_at_insert_cond (compare_keys (plain_key s) (plain_key e.0)) s e es _ q w refl (value_at_insert es s q w)

  pub updated_of_write : (es ns : List (Key × A)) (s : Key) (old w : A)
      → Some old ≡ lookup (is_at (λ x. compare_keys (plain_key s) (plain_key x))) es
      → ns ≡ set_value (is_at (λ x. compare_keys (plain_key s) (plain_key x))) es w
      → value_at_key none ns ≡ with_value_at_key (value_at_key none es) (plain_key s) w
  updated_of_write es ns s old w found e =
      λ i q. (ap (λ n. value_at_key none n q) e ∙ value_at_set es (plain_key s) q w (ap is_some (sym found))) i

  pub updated_of_reinsert : (es ns : List (Key × A)) (s : Key) (old w : A)
      → Some old ≡ lookup (is_at (λ x. compare_keys (plain_key s) (plain_key x))) es
      → ns ≡ set_value (is_at (λ x. compare_keys (plain_key s) (plain_key x))) es w → w ≡ old
      → value_at_key none ns ≡ value_at_key none es
  updated_of_reinsert es ns s old w found e same =
      let test = is_at (λ x. compare_keys (plain_key s) (plain_key x)) in
      ap (value_at_key none) (e ∙ ap (set_value test es) same ∙ set_value_same test es old (sym found))

  pub updated_of_insert : (es ns : List (Key × A)) (s : Key) (w : A)
      → ns ≡ insert_entry (λ a b. compare_keys (plain_key a) (plain_key b)) es s w
      → value_at_key none ns ≡ with_value_at_key (value_at_key none es) (plain_key s) w
  updated_of_insert es ns s w e = λ i q. (ap (λ n. value_at_key none n q) e ∙ value_at_insert es s q w) i

  unwrap_cond_cong : (b : Bool) (v : A) (o p : Option A) → unwrap_or o none ≡ unwrap_or p none
      → unwrap_or (cond b (Some v) o) none ≡ unwrap_or (cond b (Some v) p) none
  unwrap_cond_cong true v o p h = refl
  unwrap_cond_cong false v o p h = h

  value_at_remove_cond : (b : Bool) (e : Key × A) (es rest : List (Key × A)) (k q : PlainKey) → keys_equal k (plain_key e.0) ≡ b
      → keys_equal k q ≡ false → value_at_key none rest q ≡ value_at_key none es q
      → value_at_key none (cond b es (e ∷ rest)) q ≡ value_at_key none (e ∷ es) q
  value_at_remove_cond true e es rest k q is apart h =
      let x : k ≡ plain_key e.0 = eq_of_keys_equal k (plain_key e.0) is in
      let y : keys_equal q (plain_key e.0) ≡ false =
      keys_equal_comm q (plain_key e.0) ∙ ap (λ z. keys_equal z q) (sym x) ∙ apart in
      sym (unwrap_cond_false (keys_equal q (plain_key e.0)) e.1 _ y)
  value_at_remove_cond false e es rest k q is apart h = unwrap_cond_cong (keys_equal q (plain_key e.0)) e.1 _ _ h

  -- a removal leaves the values of other keys unchanged
  value_at_remove_other : (es : List (Key × A)) (k q : PlainKey) → keys_equal k q ≡ false
      → value_at_key none (remove_entry (is_at (λ s. compare_keys k (plain_key s))) es) q ≡ value_at_key none es q
  value_at_remove_other [] k q apart = refl
  value_at_remove_other (e ∷ es) k q apart =
      value_at_remove_cond (keys_equal k (plain_key e.0)) e es _ k q refl apart (value_at_remove_other es k q apart)

  updated_of_removed_cond : (b : Bool) (f g : PlainKey → A) (k q : PlainKey) → keys_equal k q ≡ b → f k ≡ none → (b ≡ false → f q ≡ g q)
      → f q ≡ cond b none (g q)
  updated_of_removed_cond true f g k q is gone h = ap f (sym (eq_of_keys_equal k q is)) ∙ gone
  updated_of_removed_cond false f g k q is gone h = h refl

  -- after a removal of the only entry of k
  pub updated_of_remove : (es ns : List (Key × A)) (s : Key)
      → ns ≡ remove_entry (is_at (λ x. compare_keys (plain_key s) (plain_key x))) es
      → lookup (is_at (λ x. compare_keys (plain_key s) (plain_key x))) ns ≡ None
      → value_at_key none ns ≡ with_value_at_key (value_at_key none es) (plain_key s) none
  updated_of_remove es ns s e gone =
      λ i q. updated_of_removed_cond (keys_equal (plain_key s) q) (value_at_key none ns) (value_at_key none es) (plain_key s) q refl
      (ap (λ o. unwrap_or o none) gone) (λ n. ap (λ l. value_at_key none l q) e ∙ value_at_remove_other es (plain_key s) q n) i

  pub value_at_lookup_some : (es : List (Key × A)) (s : Key) (old : A)
      → Some old ≡ lookup (is_at (λ x. compare_keys (plain_key s) (plain_key x))) es → old ≡ value_at_key none es (plain_key s)
  value_at_lookup_some es s old found = ap (λ o. unwrap_or o none) found

  pub value_at_lookup_none : (es : List (Key × A)) (s : Key) → None ≡ lookup (is_at (λ x. compare_keys (plain_key s) (plain_key x))) es
      → none ≡ value_at_key none es (plain_key s)
  value_at_lookup_none es s found = ap (λ o. unwrap_or o none) found

pub cond_same : {A : Type 0} (b : Bool) (l m : A) → (b ≡ true → l ≡ m) → l ≡ cond b m l
cond_same true l m h = h refl
cond_same false l m h = refl

-- an update of k with its own value
pub updated_at_same : {A : Type 0} (f : PlainKey → A) (k : PlainKey) (w : A) → w ≡ f k → f ≡ with_value_at_key f k w
updated_at_same f k w e = λ i q. cond_same (keys_equal k q) (f q) w (λ h. ap f (sym (eq_of_keys_equal k q h)) ∙ sym e) i

-- after no update
pub updated_at_unchanged : {A : Type 0} (f g : PlainKey → A) (k : PlainKey) → g ≡ f → g ≡ with_value_at_key f k (g k)
updated_at_unchanged f g k e = e ∙ updated_at_same f k (g k) (ap (λ h. h k) e)

with_at_here : {A : Type 0} (f : PlainKey → A) (k : PlainKey) (w : A) → with_value_at_key f k w k ≡ w
with_at_here f k w = ap (λ b. cond b w (f k)) (keys_equal_refl k)

-- the value at k after an update of it
pub value_of_updated : {A : Type 0} (f g : PlainKey → A) (k : PlainKey) (w : A) → g ≡ with_value_at_key f k w → g k ≡ w
value_of_updated f g k w e = ap (λ h. h k) e ∙ with_at_here f k w

-- no other key was updated
pub updated_of_write_at : {A : Type 0} (f g : PlainKey → A) (k : PlainKey) (w : A) → g ≡ with_value_at_key f k w → g ≡ with_value_at_key f k (g k)
updated_of_write_at f g k w e = e ∙ ap (with_value_at_key f k) (sym (value_of_updated f g k w e))
