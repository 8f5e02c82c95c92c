-- Laws of batches: two consecutive reads of a queue equal one of both sizes.
use Rattle.std.proofs.Common.{◌≡◌, ℕ, ◌+◌, Bool, true, false, cond, List, [], ◌∷◌, ◌++◌, take, drop, length, min, nat_eq, Option, Some, None, option_map, unwrap_or, refl, sym, ap, ◌∙◌, arith}
use Rattle.std.proofs.lemmas.List.{drop_min, length-append, length-take}
use Rattle.std.proofs.Math.Seq.{take-add}
use Rattle.std.specs.Option.{option_map_or}
use Rattle.sdb_oplog.specs.Plain.{PlainEntry}
use Rattle.sdb_subscribe.specs.laws.QueueLaws.{queue_at_replaced}
use Rattle.sdb_subscribe.specs.Queue.{PlainQueue, queue_at, replace_queue, pending_entries, advance, take_result_by, queues_after_take_by, is_queue_of}
use Rattle.sdb_submit.specs.laws.SubmitLaws.{drop_drop}

abbrev Queues : Type 0
Queues = List (ℕ × PlainQueue)

abbrev taken : List PlainEntry → ℕ → ℕ → ℕ → Queues → List PlainEntry
taken log by n max qs = unwrap_or (take_result_by log by n max qs) []

take_none : (l : List PlainEntry) → take 0 l ≡ []
take_none [] = refl
take_none (e ∷ l) = refl

-- ---- one queue

-- a read of no entries
waiting_none : (log : List PlainEntry) (w : PlainQueue) → pending_entries log 0 w ≡ []
waiting_none log w = take_none (drop (w.start + w.taken) log)

moved_none : (log : List PlainEntry) (w : PlainQueue) → advance log 0 w ≡ w
moved_none log w =
    let n : w.taken + length (pending_entries log 0 w) ≡ w.taken =
    ap (λ (l : List PlainEntry). w.taken + length l) (waiting_none log w) ∙ omega arith in
    λ i. record { start = w.start; taken = n i; by = w.by }

-- a read that follows another
waiting_after : (log : List PlainEntry) (a b : ℕ) (w : PlainQueue)
    → pending_entries log (a + b) w ≡ pending_entries log a w ++ pending_entries log b (advance log a w)
waiting_after log a b w =
    let from = w.start + w.taken in
    let rest = drop from log in
    let first = take a rest in
    let long : length first ≡ min a (length rest) = length-take a rest in
    let sum : from + length first ≡ w.start + (w.taken + length first) = omega arith in
    let on : drop a rest ≡ drop (w.start + (w.taken + length first)) log =
    sym (drop_min a rest) ∙ ap (λ n. drop n rest) (sym long) ∙ sym (drop_drop from (length first) log)
    ∙ ap (λ n. drop n log) sum in
    take-add a b rest ∙ ap (λ l. first ++ take b l) on

moved_after : (log : List PlainEntry) (a b : ℕ) (w : PlainQueue) → advance log (a + b) w ≡ advance log b (advance log a w)
moved_after log a b w =
    let x = pending_entries log a w in
    let y = pending_entries log b (advance log a w) in
    let n : w.taken + length (pending_entries log (a + b) w) ≡ w.taken + length x + length y =
    let all = length-append x y in
    ap (λ l. w.taken + length l) (waiting_after log a b w) ∙ omega (arith, all) in
    λ i. record { start = w.start; taken = n i; by = w.by }

-- ---- the queues

with_same : (n : ℕ) (w : PlainQueue) (qs : Queues) → queue_at n qs ≡ Some w → replace_queue n w qs ≡ qs
with_same n w [] h = refl
with_same n w (q ∷ qs) h = by_case (nat_eq n q.0) h (with_same n w qs) where
  by_case : (b : Bool) → cond b (Some q.1) (queue_at n qs) ≡ Some w → (queue_at n qs ≡ Some w → replace_queue n w qs ≡ qs)
      → cond b ((q.0, w) ∷ qs) (q ∷ replace_queue n w qs) ≡ q ∷ qs
  by_case true e below = let is : w ≡ q.1 = cc in ap (λ (x : PlainQueue). (q.0, x) ∷ qs) is
  by_case false e below = ap (λ l. q ∷ l) (below e)

with_twice : (n : ℕ) (v w : PlainQueue) (qs : Queues) → replace_queue n v (replace_queue n w qs) ≡ replace_queue n v qs
with_twice n v w [] = refl
with_twice n v w (q ∷ qs) = by_case (nat_eq n q.0) refl (with_twice n v w qs) where
  by_case : (b : Bool) → nat_eq n q.0 ≡ b → replace_queue n v (replace_queue n w qs) ≡ replace_queue n v qs
      → replace_queue n v (cond b ((q.0, w) ∷ qs) (q ∷ replace_queue n w qs)) ≡ cond b ((q.0, v) ∷ qs) (q ∷ replace_queue n v qs)
  by_case true is below = ap (λ b. cond b ((q.0, v) ∷ qs) ((q.0, w) ∷ replace_queue n v qs)) is
  by_case false is below =
      ap (λ b. cond b ((q.0, v) ∷ replace_queue n w qs) (q ∷ replace_queue n v (replace_queue n w qs))) is ∙ ap (λ l. q ∷ l) below

abbrev assigned_of : List PlainEntry → ℕ → ℕ → Option PlainQueue → List PlainEntry
assigned_of log by max o = unwrap_or (cond (is_queue_of by o) (option_map (pending_entries log max) o) None) []

abbrev left_of : List PlainEntry → ℕ → ℕ → ℕ → Queues → Option PlainQueue → Queues
left_of log by n max qs o =
    cond (is_queue_of by o) (option_map_or (λ w. replace_queue n (advance log max w) qs) o qs) qs

-- a read of no entries returns none and changes nothing
pub taken_none : (log : List PlainEntry) (by n : ℕ) (qs : Queues) → taken log by n 0 qs ≡ []
taken_none log by n qs = at_queue (queue_at n qs) where
  owned : (b : Bool) (w : PlainQueue) → unwrap_or (cond b (Some (pending_entries log 0 w)) None) [] ≡ []
  owned true w = waiting_none log w
  owned false w = refl

  at_queue : (o : Option PlainQueue) → assigned_of log by 0 o ≡ []
  at_queue None = refl
  at_queue (Some w) = owned (nat_eq w.by by) w

pub after_none : (log : List PlainEntry) (by n : ℕ) (qs : Queues) → queues_after_take_by log by n 0 qs ≡ qs
after_none log by n qs = at_queue (queue_at n qs) refl where
  owned : (b : Bool) (w : PlainQueue) → queue_at n qs ≡ Some w → cond b (replace_queue n (advance log 0 w) qs) qs ≡ qs
  owned true w e = ap (λ (x : PlainQueue). replace_queue n x qs) (moved_none log w) ∙ with_same n w qs e
  owned false w e = refl

  at_queue : (o : Option PlainQueue) → queue_at n qs ≡ o → left_of log by n 0 qs o ≡ qs
  at_queue None e = refl
  at_queue (Some w) e = owned (nat_eq w.by by) w e

-- two consecutive reads equal one
module _ (log : List PlainEntry) (by n a b : ℕ) (qs : Queues) where
  abbrev between_takes : Queues
  between_takes = queues_after_take_by log by n a qs

  abbrev Both : Queues → Type 0
  Both rest =
      (taken log by n (a + b) qs ≡ taken log by n a qs ++ taken log by n b rest)
      × (queues_after_take_by log by n (a + b) qs ≡ queues_after_take_by log by n b rest)

  unknown : queue_at n qs ≡ None → Both qs
  unknown e = (
    ap (assigned_of log by (a + b)) e ∙ ap (λ o. assigned_of log by a o ++ assigned_of log by b o) (sym e),
    ap (left_of log by n (a + b) qs) e ∙ ap (left_of log by n b qs) (sym e),
  )

  others : (w : PlainQueue) → queue_at n qs ≡ Some w → nat_eq w.by by ≡ false → Both qs
  others w e isnt =
      let none : (max : ℕ) → assigned_of log by max (queue_at n qs) ≡ [] =
      λ max. ap (assigned_of log by max) e ∙ ap (λ c. unwrap_or (cond c (Some (pending_entries log max w)) None) []) isnt in
      let stay : (max : ℕ) → left_of log by n max qs (queue_at n qs) ≡ qs =
      λ max. ap (left_of log by n max qs) e ∙ ap (λ c. cond c (replace_queue n (advance log max w) qs) qs) isnt in (
        none (a + b) ∙ (λ i. sym (none a) i ++ sym (none b) i),
        stay (a + b) ∙ sym (stay b),
      )

  owns : (w : PlainQueue) → queue_at n qs ≡ Some w → nat_eq w.by by ≡ true → Both (replace_queue n (advance log a w) qs)
  owns w e is =
      let x = advance log a w in
      let rest = replace_queue n x qs in
      let at : queue_at n rest ≡ Some x = queue_at_replaced n x w qs e in
      let given : (max : ℕ) (v : PlainQueue) (l : Queues) → queue_at n l ≡ Some v → nat_eq v.by by ≡ true
      → assigned_of log by max (queue_at n l) ≡ pending_entries log max v =
      λ max v l h mine.
      ap (assigned_of log by max) h ∙ ap (λ c. unwrap_or (cond c (Some (pending_entries log max v)) None) []) mine in
      let left : (max : ℕ) (v : PlainQueue) (l : Queues) → queue_at n l ≡ Some v → nat_eq v.by by ≡ true
      → left_of log by n max l (queue_at n l) ≡ replace_queue n (advance log max v) l =
      λ max v l h mine.
      ap (left_of log by n max l) h ∙ ap (λ c. cond c (replace_queue n (advance log max v) l) l) mine in (
        given (a + b) w qs e is ∙ waiting_after log a b w
            ∙ (λ i. sym (given a w qs e is) i ++ sym (given b x rest at is) i),
        left (a + b) w qs e is ∙ ap (λ (v : PlainQueue). replace_queue n v qs) (moved_after log a b w)
            ∙ sym (with_twice n (advance log b x) x qs) ∙ sym (left b x rest at is),
      )

  pub takes_are_one : Both between_takes
  takes_are_one = at_queue (queue_at n qs) refl where
    mine : (c : Bool) (w : PlainQueue) → queue_at n qs ≡ Some w → nat_eq w.by by ≡ c
        → Both (cond c (replace_queue n (advance log a w) qs) qs)
    mine true w e is = owns w e is
    mine false w e isnt = others w e isnt

    at_queue : (o : Option PlainQueue) → queue_at n qs ≡ o → Both (left_of log by n a qs o)
    at_queue None e = unknown e
    at_queue (Some w) e = mine (nat_eq w.by by) w e refl
