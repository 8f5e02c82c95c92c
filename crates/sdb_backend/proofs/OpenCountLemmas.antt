-- The open queues of shards, counted one by one up to a bound.
use Rattle.std.proofs.Common.{◌≡◌, ℕ, ◌+◌, min, nat_lt, Bool, true, false, List, [], ◌∷◌, refl, sym, ap, subst, ◌∙◌, arith}
use Rattle.std.proofs.Math.Nat.{min-eq_left, min-eq_right, min-le_right}
use Rattle.std.proofs.lemmas.Bool.{ltb-true, ltb-false}
use Rattle.sdb_desk.specs.OpenQueues.{IsOpenCount}
use Rattle.sdb_desk.specs.ShardView.{queues_of}
use Rattle.sdb_backend.specs.OpenQueueCount.{IsOpenCountIn}
use Rattle.sdb_backend.specs.declared.shard_value.Held.{Held}

bound_left : (b : Bool) (m c x : ℕ) → nat_lt m x ≡ b → min (c + min x m) m ≡ min (c + x) m
bound_left true m c x is =
    let lt = ltb-true m x is in
    let e : min x m ≡ m = min-eq_right (omega (arith, lt)) in
    ap (λ y. min (c + y) m) e ∙ min-eq_right (omega arith) ∙ sym (min-eq_right (omega (arith, lt)))
bound_left false m c x is =
    let le = ltb-false m x is in
    ap (λ y. min (c + y) m) (min-eq_left le)

min_add_assoc : (m c a b : ℕ) → min (c + min (a + b) m) m ≡ min (min (c + a) m + b) m
min_add_assoc m c a b =
    let one : c + (a + b) ≡ b + (c + a) = omega arith in
    let two : b + min (c + a) m ≡ min (c + a) m + b = omega arith in
    bound_left (nat_lt m (a + b)) m c (a + b) refl ∙ ap (λ y. min y m) one
    ∙ sym (bound_left (nat_lt m (c + a)) m b (c + a) refl) ∙ ap (λ y. min y m) two

min_idem : (m x : ℕ) → min (min x m) m ≡ min x m
min_idem m x = min-eq_left (min-le_right x m)

-- a count of the shards before the rest
pub record IsCountSoFar (all rest : List Held) (count : ℕ) : Type 0 where
  pub small : min count 18446744073709551615 ≡ count
  pub whole : (b : ℕ) → IsOpenCountIn rest b → IsOpenCountIn all (min (count + b) 18446744073709551615)

small_sum : (hs : List Held) (b : ℕ) → IsOpenCountIn hs b → min b 18446744073709551615 ≡ b
small_sum [] b h = rw h refl
small_sum (h ∷ hs) b o = rw (o.4) (min_idem 18446744073709551615 (o.0 + o.1))

pub count_so_far_nil : (all : List Held) → IsCountSoFar all all 0
count_so_far_nil all =
    record {
      small = refl;
      whole = λ b h.
          let plain : b ≡ 0 + b = omega arith in
          subst (IsOpenCountIn all) (sym (small_sum all b h) ∙ ap (λ n. min n 18446744073709551615) plain) h;
    }

pub count_so_far_cons : (all hs : List Held) (h : Held) (count a new : ℕ) → IsCountSoFar all (h ∷ hs) count → IsOpenCount (queues_of h.shard) a → new ≡ min (count + a) 18446744073709551615 → IsCountSoFar all hs new
count_so_far_cons all hs h count a new so are e =
    record {
      small = rw e (min_idem 18446744073709551615 (count + a));
      whole = λ b rest.
          subst (IsOpenCountIn all) (min_add_assoc 18446744073709551615 count a b ∙ ap (λ y. min (y + b) 18446744073709551615) (sym e))
          (so.whole (min (a + b) 18446744073709551615) (a, b, are, rest, refl));
    }

pub count_so_far_all : (all : List Held) (count : ℕ) → IsCountSoFar all [] count → IsOpenCountIn all count
count_so_far_all all count so =
    let plain : count + 0 ≡ count = omega arith in
    subst (IsOpenCountIn all) (ap (λ y. min y 18446744073709551615) plain ∙ so.small) (so.whole 0 refl)
