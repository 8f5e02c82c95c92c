-- Laws of the machine's queues, for a session that is alone with it.
use Rattle.std.proofs.Common.{◌≡◌, ℕ, List, [], ◌∷◌, length, Bool, true, false, cond, nat_lt, ◌+◌, ◌++◌, nat_eq, Option, Some, None, unwrap_or, Result, Ok, Err, ◌⊎◌, inl, inr, refl, sym, ap, ◌∙◌, arith}
use Rattle.std.proofs.lemmas.Bool.Decides.{nat_tests}
use Rattle.std.specs.Result.{is_ok}
use Rattle.sdb_oplog.specs.declared.codes.Code.{Code}
use Rattle.sdb_oplog.specs.declared.codes.Code.TheVariants.{E4, E10, E11}
use Rattle.sdb_oplog.specs.Plain.{PlainEntry}
use Rattle.sdb_oplog.specs.Keys.{PlainKey, keys_equal}
use Rattle.sdb_oplog.specs.Snap.{document_of}
use Rattle.sdb_subscribe.specs.Queue.{PlainQueues, open_queue, take_result_by, queues_after_take_by}
use Rattle.sdb_desk.specs.laws.KeyLaws.{with_queues_same, keys_equal_refl}
use Rattle.sdb_desk.specs.Machine.{Machine, QueuesByKey, PlainSubscribeResult, queue_start, subscribe_step, subscribe_from_start, subscribe_opened, with_queues}
use Rattle.sdb_submit.specs.Calls.{MachineStep, take_next, unsubscribe as unsubscribe_call, subscribe as subscribe_call}
use Rattle.sdb_submit.specs.SubmitLoop.{taken_or_empty}
use Rattle.sdb_session.specs.Sessions.{QueueId, PlainSession}
use Rattle.sdb_session.specs.laws.BatchLaws.{taken_none, after_none, takes_are_one}
use Rattle.sdb_session.specs.Dialogue.{pass_zero, State, subscribe_step_at, machine_after_open, next_entries, machine_after_take, machine_after_close, with_machine_queues, limit_code_at}

-- ---- machines

pub same_machine : (m n : Machine) → n.logs ≡ m.logs → n.queues ≡ m.queues → n ≡ m
same_machine m n l q = λ i. record { logs = l i; queues = q i }

pub same_state : (m n : Machine) (s t : PlainSession) → n ≡ m → t ≡ s
    → ◌≡◌ {A = State} (record { machine = n; session = t }) (record { machine = m; session = s })
same_state m n s t a b = λ i. record { machine = a i; session = b i }

cond_over : {A : Type 0} (b : Bool) (x y z : A) → cond b x (cond b y z) ≡ cond b x z
cond_over true x y z = refl
cond_over false x y z = refl

written_twice : (f : QueuesByKey) (k : PlainKey) (v w : PlainQueues)
    → with_queues (with_queues f k v) k w ≡ with_queues f k w
written_twice f k v w = λ i q. cond_over (keys_equal k q) w v (f q) i

written_here : (f : QueuesByKey) (k : PlainKey) (v : PlainQueues) → with_queues f k v k ≡ v
written_here f k v = ap (λ b. cond b v (f k)) (keys_equal_refl k)

-- an update at a key is determined by the value read there
written : (f g : QueuesByKey) (k : PlainKey) (v : PlainQueues) → g ≡ with_queues f k (g k) → g k ≡ v → g ≡ with_queues f k v
written f g k v others here = others ∙ ap (with_queues f k) here

-- ---- queues of the machine

-- a subscribe that succeeds uses the next number
next_if : (b : Bool) (log : List PlainEntry) (v : ℕ) (q w : PlainQueues) (o : PlainSubscribeResult)
    → (subscribe_opened log v q (cond b (Err E11) (Ok w))).answer ≡ Ok o → o.id ≡ q.next
next_if true log v q w o h = cc
next_if false log v q w o h =
    let e : record { id = q.next; start = v; version = length log; snapshot = document_of log } ≡ o = cc in
    ap (λ x. x.id) (sym e)

started_if : (b : Bool) (log : List PlainEntry) (v : ℕ) (q : PlainQueues) (o : PlainSubscribeResult)
    → (subscribe_from_start log pass_zero q (cond b (Err E4) (Ok v))).answer ≡ Ok o → (subscribe_opened log v q (open_queue pass_zero v q)).answer ≡ Ok o
started_if true log v q o h = cc
started_if false log v q o h = h

pub next_number : (log : List PlainEntry) (v : Option ℕ) (q : PlainQueues) (o : PlainSubscribeResult)
    → (subscribe_step log pass_zero v q).answer ≡ Ok o → o.id ≡ q.next
next_number log v q o h =
    let n = unwrap_or v (length log) in
    let w : PlainQueues =
    record { next = q.next + 1; queues = q.queues ++ (q.next, record { start = n; taken = 0; by = pass_zero }) ∷ [] } in
    next_if (nat_eq q.next 18446744073709551615) log n q w o (started_if (nat_lt (length log) n) log n q o h)

-- a subscribe that is refused leaves the queues unchanged
open_preserves : (r : Result PlainQueues Code) (log : List PlainEntry) (v : ℕ) (q : PlainQueues) (code : Code)
    → (subscribe_opened log v q r).answer ≡ Err code → (subscribe_opened log v q r).queues ≡ q
open_preserves (Ok w) log v q code h = cc
open_preserves (Err c) log v q code h = refl

start_preserves : (r : Result ℕ Code) (log : List PlainEntry) (q : PlainQueues) (code : Code)
    → (subscribe_from_start log pass_zero q r).answer ≡ Err code → (subscribe_from_start log pass_zero q r).queues ≡ q
start_preserves (Ok v) log q code h = open_preserves (open_queue pass_zero v q) log v q code h
start_preserves (Err c) log q code h = refl

abbrev pub Opens : Machine → PlainKey → Option ℕ → Result PlainSubscribeResult Code → Machine → Type 0
Opens m b v r n = MachineStep pass_zero m b (subscribe_call v) r n

pub opens_ok : (m n : Machine) (b : PlainKey) (v : Option ℕ) (o : PlainSubscribeResult) → Opens m b v (Ok o) n
    → ((subscribe_step_at m b v).answer ≡ Ok o) × (n ≡ machine_after_open m b v)
opens_ok m n b v o (inl h, others, logs) = let x = h.0 in cc
opens_ok m n b v o (inr h, others, logs) = (
  sym h.0,
  same_machine (machine_after_open m b v) n logs
      (written m.queues n.queues b (subscribe_step_at m b v).queues others h.1),
)

pub opens_err : (m n : Machine) (b : PlainKey) (v : Option ℕ) (code : Code) → Opens m b v (Err code) n
    → ((((code ≡ E10) × (is_ok (subscribe_step_at m b v).answer ≡ true)) ⊎ ((subscribe_step_at m b v).answer ≡ Err code)) × (n ≡ m))
opens_err m n b v code (inl h, others, logs) =
    let e : code ≡ E10 = (let x = h.0 in cc) in
    (inl (e, h.2), same_machine m n logs (written m.queues n.queues b (m.queues b) others h.1 ∙ with_queues_same m.queues b))
opens_err m n b v code (inr h, others, logs) =
    let q = m.queues b in
    let here : n.queues b ≡ q = h.1 ∙ start_preserves (queue_start (m.logs b) v) (m.logs b) q code (sym h.0) in
    (inr (sym h.0), same_machine m n logs (written m.queues n.queues b q others here ∙ with_queues_same m.queues b))

came_is : (r : Option (List PlainEntry)) → taken_or_empty (Some r) ≡ Some (unwrap_or r [])
came_is None = refl
came_is (Some es) = refl

-- a read returns the next entries
pub takes_some : (m n : Machine) (q : QueueId) (max : ℕ) (a : Option (Option (List PlainEntry))) (es : List PlainEntry)
    → MachineStep pass_zero m q.base (take_next q.id max) a n → taken_or_empty a ≡ Some es → (es ≡ next_entries m q max) × (n ≡ machine_after_take m q max)
takes_some m n q max None es h is = cc
takes_some m n q max (Some r) es (h, others, logs) is =
    let due : next_entries m q max ≡ unwrap_or r [] = ap (λ x. unwrap_or x []) (sym h.0) in
    let e : Some es ≡ Some (unwrap_or r []) = sym is ∙ came_is r in
    let f : es ≡ unwrap_or r [] = cc in
    (f ∙ sym due, same_machine (machine_after_take m q max) n logs (written m.queues n.queues q.base _ others h.1))

-- a read of no entries returns none and leaves the machine unchanged
pub next_none : (m : Machine) (q : QueueId) → (next_entries m q 0 ≡ []) × (machine_after_take m q 0 ≡ m)
next_none m q =
    let log = m.logs q.base in
    let w = m.queues q.base in
    let here : ◌≡◌ {A = PlainQueues} (record { next = w.next; queues = queues_after_take_by log pass_zero q.id 0 w.queues }) w =
    λ i. record { next = w.next; queues = after_none log pass_zero q.id w.queues i } in (
      taken_none log pass_zero q.id w.queues,
      ap (λ (x : PlainQueues). with_machine_queues m (with_queues m.queues q.base x)) here
          ∙ ap (with_machine_queues m) (with_queues_same m.queues q.base),
    )

-- two consecutive reads equal one of both sizes
pub next_after : (m : Machine) (q : QueueId) (a b : ℕ)
    → (next_entries m q (a + b) ≡ next_entries m q a ++ next_entries (machine_after_take m q a) q b)
    × (machine_after_take m q (a + b) ≡ machine_after_take (machine_after_take m q a) q b)
next_after m q a b =
    let log = m.logs q.base in
    let w = m.queues q.base in
    let x : PlainQueues = record { next = w.next; queues = queues_after_take_by log pass_zero q.id a w.queues } in
    let there : (machine_after_take m q a).queues q.base ≡ x = written_here m.queues q.base x in
    let both = takes_are_one log pass_zero q.id a b w.queues in
    let last : QueuesByKey → Machine =
    λ f.
    with_machine_queues m
    (with_queues f q.base (record { next = (f q.base).next; queues = queues_after_take_by log pass_zero q.id b (f q.base).queues })) in
    let y : PlainQueues = record { next = w.next; queues = queues_after_take_by log pass_zero q.id b x.queues } in (
      both.0
          ∙ ap (λ (z : PlainQueues). next_entries m q a ++ unwrap_or (take_result_by log pass_zero q.id b z.queues) []) (sym there),
      ap (λ qs. with_machine_queues m (with_queues m.queues q.base (record { next = w.next; queues = qs }))) both.1
          ∙ ap (with_machine_queues m) (sym (written_twice m.queues q.base x y))
          ∙ ap (λ (z : PlainQueues). with_machine_queues m
          (with_queues (machine_after_take m q a).queues q.base
          (record { next = z.next; queues = queues_after_take_by log pass_zero q.id b z.queues }))) (sym there),
    )

-- a read that fails to allocate leaves the machine unchanged
pub takes_none : (m n : Machine) (b : PlainKey) (id max : ℕ) → MachineStep pass_zero m b (take_next id max) None n → n ≡ m
takes_none m n b id max (h, others, logs) =
    same_machine m n logs (written m.queues n.queues b (m.queues b) others h.0 ∙ with_queues_same m.queues b)

pub closes_one : (m n : Machine) (q : QueueId) → MachineStep pass_zero m q.base (unsubscribe_call q.id) tt n → n ≡ machine_after_close (Some q) m
closes_one m n q (h, gone, logs) = same_machine (machine_after_close (Some q) m) n logs h

-- the current version is not above itself
pub present_code : (log : List PlainEntry) → limit_code_at (queue_start log None) ≡ E11
present_code log =
    let n = length log in
    let b : nat_lt n n ≡ false = grind (arith, nat_tests) in
    ap (λ x. limit_code_at (cond x (Err E4) (Ok n))) b

pub code_if : (b : Bool) (v : ℕ) → limit_code_at (cond b (Err E4) (Ok v)) ≡ cond b E4 E11
code_if true v = refl
code_if false v = refl
