-- The entries of the map of queues.
use Rattle.std.proofs.Common.{◌≡◌, ℕ, ◌+◌, ◌⊎◌, inl, inr, Bool, true, false, cond, List, [], ◌∷◌, ◌++◌, Option, Some, option_map, nat_eq, Less, Equal, Greater, refl, sym, ap, ◌∙◌, subst, arith}
use Rattle.std.specs.declared.cmp.Ordering.{Ordering}
use Rattle.std.specs.Ordering.{nat_cmp, is_eq, match_ordering}
use Rattle.std.specs.Cmp.{nat_cmp_is}
use Rattle.std.specs.FinMap.{nat_cmp-IsAntisymmetric}
use Rattle.std.specs.List.{IsDistinct}
use Rattle.std.specs.List.Sorted.{IsStrictlySortedBy}
use Rattle.std.proofs.lemmas.Map.Keys.{IsDistinct-from_sorted}
use Rattle.std.proofs.lemmas.Bool.{eqb-true}
use Rattle.std.proofs.lemmas.Bool.Decides.{eqb_tells}
use Rattle.std.specs.BTreeMap.{is_at, insert_entry}
use Rattle.std.specs.Map.{keys_of, lookup, remove_entry, set_value}
use Rattle.sdb_subscribe.specs.Queue.{PlainQueue, queue_at, replace_queue, remove_queue, queue_ids, AreBelowNext}
use Rattle.sdb_subscribe.specs.Ring.{RingedQueue, queues_without_rings}

abbrev pub QueueEntry : Type 0
QueueEntry = ℕ × RingedQueue

-- ---- the comparison of numbers

nat_cmp_not_eq : (o : Ordering) (n k : ℕ) → nat_cmp n k ≡ o → (n ≡ k → ⊥) → is_eq o ≡ false
nat_cmp_not_eq Less n k is h = refl
nat_cmp_not_eq Equal n k is h = absurd (h (nat_cmp-IsAntisymmetric n k is))
nat_cmp_not_eq Greater n k is h = refl

is_eq_of_nat_eq : (n k : ℕ) → ((nat_eq n k ≡ true) × (n ≡ k)) ⊎ ((nat_eq n k ≡ false) × (n ≡ k → ⊥)) → is_eq (nat_cmp n k) ≡ nat_eq n k
is_eq_of_nat_eq n k (inl t) = ap is_eq (sym (nat_cmp_is n k Equal t.1)) ∙ sym t.0
is_eq_of_nat_eq n k (inr f) = nat_cmp_not_eq (nat_cmp n k) n k refl f.1 ∙ sym f.0

pub same_test : (n : ℕ) → is_at (nat_cmp n) ≡ nat_eq n
same_test n = λ i k. is_eq_of_nat_eq n k (eqb_tells n k) i

pub lookup_by_cmp : (n : ℕ) (es : List QueueEntry) → lookup (is_at (nat_cmp n)) es ≡ lookup (nat_eq n) es
lookup_by_cmp n es = ap (λ t. lookup t es) (same_test n)

pub set_by_cmp : (n : ℕ) (w : RingedQueue) (es : List QueueEntry) → set_value (is_at (nat_cmp n)) es w ≡ set_value (nat_eq n) es w
set_by_cmp n w es = ap (λ t. set_value t es w) (same_test n)

pub remove_by_cmp : (n : ℕ) (es : List QueueEntry) → remove_entry (is_at (nat_cmp n)) es ≡ remove_entry (nat_eq n) es
remove_by_cmp n es = ap (λ t. remove_entry t es) (same_test n)

-- a new number goes last
pub insert_new_last : (n : ℕ) (w : RingedQueue) (es : List QueueEntry) → AreBelowNext n (keys_of es) → insert_entry nat_cmp es n w ≡ es ++ (n, w) ∷ []
insert_new_last n w [] h = refl
insert_new_last n w (e ∷ es) h = ap (λ o. match_ordering o ((n, w) ∷ e ∷ es) ((e.0, w) ∷ es) (e ∷ insert_entry nat_cmp es n w)) (sym (nat_cmp_is n e.0 Greater h.0)) ∙ ap (λ l. e ∷ l) (insert_new_last n w es h.1)

-- ---- the queues without their ring buffers

at_or : (b : Bool) (q : RingedQueue) (x : Option PlainQueue) (y : Option RingedQueue) → x ≡ option_map (λ w. w.queue) y → cond b (Some q.queue) x ≡ option_map (λ w. w.queue) (cond b (Some q) y)
at_or true q x y h = refl
at_or false q x y h = h

pub at_bare : (n : ℕ) (es : List QueueEntry) → queue_at n (queues_without_rings es) ≡ option_map (λ w. w.queue) (lookup (nat_eq n) es)
at_bare n [] = refl
at_bare n (e ∷ es) = at_or (nat_eq n e.0) e.1 (queue_at n (queues_without_rings es)) (lookup (nat_eq n) es) (at_bare n es)

set_or : (b : Bool) (e : QueueEntry) (w : RingedQueue) (es rest : List QueueEntry) (x : List (ℕ × PlainQueue)) → queues_without_rings rest ≡ x → queues_without_rings (cond b ((e.0, w) ∷ es) (e ∷ rest)) ≡ cond b ((e.0, w.queue) ∷ queues_without_rings es) ((e.0, e.1.queue) ∷ x)
set_or true e w es rest x h = refl
set_or false e w es rest x h = ap (λ l. (e.0, e.1.queue) ∷ l) h

pub set_bare : (n : ℕ) (w : RingedQueue) (es : List QueueEntry) → queues_without_rings (set_value (nat_eq n) es w) ≡ replace_queue n w.queue (queues_without_rings es)
set_bare n w [] = refl
set_bare n w (e ∷ es) = set_or (nat_eq n e.0) e w es (set_value (nat_eq n) es w) (replace_queue n w.queue (queues_without_rings es)) (set_bare n w es)

removed_or : (b : Bool) (e : QueueEntry) (es rest : List QueueEntry) (x : List (ℕ × PlainQueue)) → queues_without_rings rest ≡ x → queues_without_rings (cond b es (e ∷ rest)) ≡ cond b (queues_without_rings es) ((e.0, e.1.queue) ∷ x)
removed_or true e es rest x h = refl
removed_or false e es rest x h = ap (λ l. (e.0, e.1.queue) ∷ l) h

pub removed_bare : (n : ℕ) (es : List QueueEntry) → queues_without_rings (remove_entry (nat_eq n) es) ≡ remove_queue n (queues_without_rings es)
removed_bare n [] = refl
removed_bare n (e ∷ es) = removed_or (nat_eq n e.0) e es (remove_entry (nat_eq n) es) (remove_queue n (queues_without_rings es)) (removed_bare n es)

pub added_bare : (n : ℕ) (w : RingedQueue) (es : List QueueEntry) → queues_without_rings (es ++ (n, w) ∷ []) ≡ queues_without_rings es ++ (n, w.queue) ∷ []
added_bare n w [] = refl
added_bare n w (e ∷ es) = ap (λ l. (e.0, e.1.queue) ∷ l) (added_bare n w es)

-- ---- the numbers

pub numbers_bare : (es : List QueueEntry) → keys_of es ≡ queue_ids (queues_without_rings es)
numbers_bare [] = refl
numbers_bare (e ∷ es) = ap (λ l. e.0 ∷ l) (numbers_bare es)

pub assigned_bare : (next : ℕ) (es : List QueueEntry) → AreBelowNext next (keys_of es) → AreBelowNext next (queue_ids (queues_without_rings es))
assigned_bare next es h = subst (AreBelowNext next) (numbers_bare es) h

pub ids_distinct : (es : List QueueEntry) → IsStrictlySortedBy nat_cmp (keys_of es) → IsDistinct nat_eq (queue_ids (queues_without_rings es))
ids_distinct es h =
    let E : (ℕ → ℕ → Bool) → Type 0 = λ e. IsDistinct e (keys_of es) in
    subst (IsDistinct nat_eq) (numbers_bare es) (subst E (λ i n k. same_test n i k) (IsDistinct-from_sorted nat_cmp (keys_of es) h))

pub assigned_added : (n : ℕ) (w : RingedQueue) (es : List QueueEntry) → AreBelowNext n (keys_of es) → AreBelowNext (n + 1) (keys_of (es ++ (n, w) ∷ []))
assigned_added n w [] h = (omega arith, tt)
assigned_added n w (e ∷ es) h = let b = h.0 in (omega (arith, b), assigned_added n w es h.1)

pub assigned_without : (n next : ℕ) (es : List QueueEntry) → AreBelowNext next (keys_of es) → AreBelowNext next (keys_of (remove_entry (nat_eq n) es))
assigned_without n next [] h = tt
assigned_without n next (e ∷ es) h = elim (nat_eq n e.0) as (λ b. AreBelowNext next (keys_of (cond b es (e ∷ remove_entry (nat_eq n) es)))) [
  | true ↦ h.1
  | false ↦ (h.0, assigned_without n next es h.1)
]

other_or : {A : Type 0} (b : Bool) (n k : ℕ) (x y : A) → nat_eq n k ≡ b → (n ≡ k → ⊥) → cond b x y ≡ y
other_or true n k x y is h = absurd (h (eqb-true n k is))
other_or false n k x y is h = refl

pub other_than : {A : Type 0} (n k : ℕ) (x y : A) → (n ≡ k → ⊥) → cond (nat_eq n k) x y ≡ y
other_than n k x y h = other_or (nat_eq n k) n k x y refl h
