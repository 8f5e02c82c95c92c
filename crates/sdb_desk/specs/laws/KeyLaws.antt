-- Laws of keys, and of queues by key.
use Rattle.std.proofs.Common.{◌≡◌, ℕ, List, Bool, true, false, cond, ◌&&◌, Ordering, Less, Equal, Greater, nat_cmp, is_eq, refl, sym, ap, ◌∙◌}
use Rattle.std.proofs.lemmas.Cmp.{nat_list_cmp_total, tied_itself}
use Rattle.std.proofs.lemmas.Map.Text.{is_eq-slice_cmp}
use Rattle.std.proofs.lemmas.Slice.Eq.{bytes_eq-Decides}
use Rattle.std.specs.Cmp.Lexicographic.{slice_cmp}
use Rattle.std.specs.Ordering.{ordering_then}
use Rattle.sdb_oplog.specs.Keys.{PlainKey, keys_equal}
use Rattle.sdb_desk.specs.Machine.{QueuesByKey, with_queues}

ordering_then_eq : (o p : Ordering) → is_eq (ordering_then o p) ≡ (is_eq o && is_eq p)
ordering_then_eq Less p = refl
ordering_then_eq Equal p = refl
ordering_then_eq Greater p = refl

and_elim : (b c : Bool) → (b && c) ≡ true → (b ≡ true) × (c ≡ true)
and_elim true c e = (refl, e)
and_elim false c e = cc

eq_of_text_cmp : (xs ys : List ℕ) → is_eq (slice_cmp nat_cmp xs ys) ≡ true → xs ≡ ys
eq_of_text_cmp xs ys e = (bytes_eq-Decides xs ys).0 (sym (is_eq-slice_cmp xs ys) ∙ e)

-- keys that compare equal are equal
pub eq_of_keys_equal : (a b : PlainKey) → keys_equal a b ≡ true → a ≡ b
eq_of_keys_equal a b e =
    let h = and_elim (is_eq (slice_cmp nat_cmp a.collection b.collection)) (is_eq (slice_cmp nat_cmp a.id b.id))
    (sym (ordering_then_eq (slice_cmp nat_cmp a.collection b.collection) (slice_cmp nat_cmp a.id b.id)) ∙ e) in
    let c : a.collection ≡ b.collection = eq_of_text_cmp a.collection b.collection h.0 in
    let i : a.id ≡ b.id = eq_of_text_cmp a.id b.id h.1 in
    λ j. record { collection = c j; id = i j }

pub keys_equal_refl : (a : PlainKey) → keys_equal a a ≡ true
keys_equal_refl a = rw (tied_itself nat_list_cmp_total a.collection, tied_itself nat_list_cmp_total a.id)

cond_same : {A : Type 0} (b : Bool) (x y : A) → (b ≡ true → x ≡ y) → cond b x y ≡ y
cond_same true x y h = h refl
cond_same false x y h = refl

-- an update of a key with its own queues changes nothing
pub with_queues_same : (f : QueuesByKey) (k : PlainKey) → with_queues f k (f k) ≡ f
with_queues_same f k = λ i q. cond_same (keys_equal k q) (f k) (f q) (λ h. ap f (eq_of_keys_equal k q h)) i
