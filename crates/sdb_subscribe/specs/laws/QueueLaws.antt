-- Laws of queues: the frame of each call, and consecutive takes.
use Rattle.std.proofs.Common.{◌≡◌, ℕ, zero, suc, ◌+◌, ◌≤◌, Bool, true, false, cond, List, [], ◌∷◌, ◌++◌, take, drop, length, Option, Some, None, nat_eq, refl, sym, ap, ◌∙◌, arith, drop-drop}
use Rattle.std.specs.List.{IsDistinct, AllByRecursion}
use Rattle.std.specs.Option.{option_map_or}
use Rattle.std.proofs.lemmas.Bool.{eqb-true, eq-eqb}
use Rattle.sdb_oplog.specs.Plain.{PlainEntry}
use Rattle.sdb_subscribe.specs.Queue.{PlainQueue, queue, queue_at, replace_queue, remove_queue, pending_entries, advance, queues_after_take, queue_ids, AreBelowNext}

cond_of_distinct : {A : Type 0} (b : Bool) (n k : ℕ) (x y : A) → nat_eq n k ≡ b → (n ≡ k → ⊥) → cond b x y ≡ y
cond_of_distinct true n k x y is h = absurd (h (eqb-true n k is))
cond_of_distinct false n k x y is h = refl

cond_of_equal : {A : Type 0} (n : ℕ) (x y : A) → cond (nat_eq n n) x y ≡ x
cond_of_equal n x y = ap (λ b. cond b x y) (eq-eqb n n refl)

-- ---- a queue that is opened

-- no number from the next one on is open
pub queue_at_unissued : (n next : ℕ) (qs : List (ℕ × PlainQueue)) → AreBelowNext next (queue_ids qs) → next ≤ n → queue_at n qs ≡ None
queue_at_unissued n next [] h le = refl
queue_at_unissued n next (q ∷ qs) h le =
    let b = h.0 in
    cond_of_distinct (nat_eq n q.0) n q.0 (Some q.1) (queue_at n qs) refl (λ e. omega (arith, b, e)) ∙ queue_at_unissued n next qs h.1 le

pub queue_at_opened : (n : ℕ) (w : PlainQueue) (qs : List (ℕ × PlainQueue)) → AreBelowNext n (queue_ids qs)
    → queue_at n (qs ++ (n, w) ∷ []) ≡ Some w
queue_at_opened n w [] h = cond_of_equal n (Some w) None
queue_at_opened n w (q ∷ qs) h =
    let b = h.0 in
    cond_of_distinct (nat_eq n q.0) n q.0 (Some q.1) (queue_at n (qs ++ (n, w) ∷ [])) refl (λ e. omega (arith, b, e))
    ∙ queue_at_opened n w qs h.1

pub queue_at_opened_other : (k n : ℕ) (w : PlainQueue) (qs : List (ℕ × PlainQueue)) → (k ≡ n → ⊥)
    → queue_at k (qs ++ (n, w) ∷ []) ≡ queue_at k qs
queue_at_opened_other k n w [] h = cond_of_distinct (nat_eq k n) k n (Some w) None refl h
queue_at_opened_other k n w (q ∷ qs) h = ap (cond (nat_eq k q.0) (Some q.1)) (queue_at_opened_other k n w qs h)

-- ---- a queue that advances

replace_found : (b : Bool) (n : ℕ) (q : ℕ × PlainQueue) (w : PlainQueue) (x : PlainQueue) (qs rest : List (ℕ × PlainQueue))
    → nat_eq n q.0 ≡ b → cond b (Some q.1) (queue_at n qs) ≡ Some x
    → (queue_at n qs ≡ Some x → queue_at n rest ≡ Some w)
    → queue_at n (cond b ((q.0, w) ∷ qs) (q ∷ rest)) ≡ Some w
replace_found true n q w x qs rest is h below = ap (λ b. cond b (Some w) (queue_at n qs)) is
replace_found false n q w x qs rest is h below = ap (λ b. cond b (Some q.1) (queue_at n rest)) is ∙ below h

pub queue_at_replaced : (n : ℕ) (w x : PlainQueue) (qs : List (ℕ × PlainQueue)) → queue_at n qs ≡ Some x
    → queue_at n (replace_queue n w qs) ≡ Some w
queue_at_replaced n w x [] h = cc
queue_at_replaced n w x (q ∷ qs) h =
    replace_found (nat_eq n q.0) n q w x qs (replace_queue n w qs) refl h (queue_at_replaced n w x qs)

replace_skipped : (b : Bool) (k n : ℕ) (q : ℕ × PlainQueue) (w : PlainQueue) (qs rest : List (ℕ × PlainQueue))
    → nat_eq n q.0 ≡ b → (k ≡ n → ⊥) → queue_at k rest ≡ queue_at k qs
    → queue_at k (cond b ((q.0, w) ∷ qs) (q ∷ rest)) ≡ cond (nat_eq k q.0) (Some q.1) (queue_at k qs)
replace_skipped true k n q w qs rest is h below =
    let other : k ≡ q.0 → ⊥ = λ e. h (e ∙ sym (eqb-true n q.0 is)) in
    cond_of_distinct (nat_eq k q.0) k q.0 (Some w) (queue_at k qs) refl other
    ∙ sym (cond_of_distinct (nat_eq k q.0) k q.0 (Some q.1) (queue_at k qs) refl other)
replace_skipped false k n q w qs rest is h below = ap (cond (nat_eq k q.0) (Some q.1)) below

pub queue_at_replaced_other : (k n : ℕ) (w : PlainQueue) (qs : List (ℕ × PlainQueue)) → (k ≡ n → ⊥)
    → queue_at k (replace_queue n w qs) ≡ queue_at k qs
queue_at_replaced_other k n w [] h = refl
queue_at_replaced_other k n w (q ∷ qs) h =
    replace_skipped (nat_eq n q.0) k n q w qs (replace_queue n w qs) refl h (queue_at_replaced_other k n w qs h)

pub queue_at_taken : (log : List PlainEntry) (n max : ℕ) (w : PlainQueue) (qs : List (ℕ × PlainQueue))
    → queue_at n qs ≡ Some w → queue_at n (queues_after_take log n max qs) ≡ Some (advance log max w)
queue_at_taken log n max w qs h =
    ap (λ o. queue_at n (option_map_or (λ x. replace_queue n (advance log max x) qs) o qs)) h
    ∙ queue_at_replaced n (advance log max w) w qs h

queue_at_taken_cond : (log : List PlainEntry) (k n max : ℕ) (qs : List (ℕ × PlainQueue)) (o : Option PlainQueue) → (k ≡ n → ⊥)
    → queue_at k (option_map_or (λ x. replace_queue n (advance log max x) qs) o qs) ≡ queue_at k qs
queue_at_taken_cond log k n max qs None h = refl
queue_at_taken_cond log k n max qs (Some w) h = queue_at_replaced_other k n (advance log max w) qs h

pub queue_at_taken_other : (log : List PlainEntry) (k n max : ℕ) (qs : List (ℕ × PlainQueue)) → (k ≡ n → ⊥)
    → queue_at k (queues_after_take log n max qs) ≡ queue_at k qs
queue_at_taken_other log k n max qs h = queue_at_taken_cond log k n max qs (queue_at n qs) h

-- ---- a queue that is closed

remove_skipped : (b : Bool) (k n : ℕ) (q : ℕ × PlainQueue) (qs rest : List (ℕ × PlainQueue)) → nat_eq n q.0 ≡ b
    → (k ≡ n → ⊥) → queue_at k rest ≡ queue_at k qs
    → queue_at k (cond b qs (q ∷ rest)) ≡ cond (nat_eq k q.0) (Some q.1) (queue_at k qs)
remove_skipped true k n q qs rest is h below =
    sym (cond_of_distinct (nat_eq k q.0) k q.0 (Some q.1) (queue_at k qs) refl (λ e. h (e ∙ sym (eqb-true n q.0 is))))
remove_skipped false k n q qs rest is h below = ap (cond (nat_eq k q.0) (Some q.1)) below

pub queue_at_removed_other : (k n : ℕ) (qs : List (ℕ × PlainQueue)) → (k ≡ n → ⊥) → queue_at k (remove_queue n qs) ≡ queue_at k qs
queue_at_removed_other k n [] h = refl
queue_at_removed_other k n (q ∷ qs) h = remove_skipped (nat_eq n q.0) k n q qs (remove_queue n qs) refl h (queue_at_removed_other k n qs h)

queue_at_none : (n : ℕ) (qs : List (ℕ × PlainQueue)) → AllByRecursion (λ m. nat_eq n m ≡ false) (queue_ids qs)
    → queue_at n qs ≡ None
queue_at_none n [] h = refl
queue_at_none n (q ∷ qs) h = ap (λ b. cond b (Some q.1) (queue_at n qs)) h.0 ∙ queue_at_none n qs h.1

remove_found : (b : Bool) (n : ℕ) (q : ℕ × PlainQueue) (qs rest : List (ℕ × PlainQueue)) → nat_eq n q.0 ≡ b
    → (n ≡ q.0 → queue_at n qs ≡ None) → queue_at n rest ≡ None → queue_at n (cond b qs (q ∷ rest)) ≡ None
remove_found true n q qs rest is gone below = gone (eqb-true n q.0 is)
remove_found false n q qs rest is gone below = ap (λ b. cond b (Some q.1) (queue_at n rest)) is ∙ below

pub queue_at_removed : (n : ℕ) (qs : List (ℕ × PlainQueue)) → IsDistinct nat_eq (queue_ids qs)
    → queue_at n (remove_queue n qs) ≡ None
unfolding IsDistinct
queue_at_removed n [] h = refl
queue_at_removed n (q ∷ qs) h =
    remove_found (nat_eq n q.0) n q qs (remove_queue n qs) refl (λ e. ap (λ k. queue_at k qs) e ∙ queue_at_none q.0 qs h.0)
    (queue_at_removed n qs h.1)

-- ---- consecutive takes

take_of_nil : (n : ℕ) → let es : List PlainEntry = [] in take n es ≡ []
take_of_nil zero = refl
take_of_nil (suc n) = refl

take_append_drop : (a b : ℕ) (es : List PlainEntry) → take a es ++ take b (drop (length (take a es)) es) ≡ take (a + b) es
take_append_drop zero b es = let e : zero + b ≡ b = omega arith in ap (λ n. take n es) (sym e)
take_append_drop (suc a) b [] = take_of_nil b ∙ sym (take_of_nil (suc a + b))
take_append_drop (suc a) b (e ∷ es) =
    let long : length (e ∷ take a es) ≡ suc (length (take a es)) = omega arith in
    let both : suc a + b ≡ suc (a + b) = omega arith in
    ap (λ n. e ∷ (take a es ++ take b (drop n (e ∷ es)))) long ∙ ap (λ l. e ∷ l) (take_append_drop a b es)
    ∙ ap (λ n. take n (e ∷ es)) (sym both)

-- two consecutive takes return what one take of both sizes returns
pub takes_append : (log : List PlainEntry) (a b : ℕ) (w : PlainQueue)
    → pending_entries log a w ++ pending_entries log b (advance log a w) ≡ pending_entries log (a + b) w
takes_append log a b w =
    let at = w.start + w.taken in
    let k = length (queue log at a) in
    let more : w.start + (w.taken + k) ≡ at + k = omega arith in
    ap (λ n. queue log at a ++ take b (drop n log)) more
    ∙ ap (λ l. queue log at a ++ take b l) (sym (drop-drop k at log)) ∙ take_append_drop a b (drop at log)
