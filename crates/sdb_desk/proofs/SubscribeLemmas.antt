-- A subscribe that is refused, and one that opens a queue.
use Rattle.std.proofs.Common.{◌≡◌, ◌+◌, ℕ, List, [], ◌∷◌, ◌++◌, length, Bool, true, false, nat_eq, cond, nat_lt, Option, unwrap_or, Ok, Err, ◌⊎◌, inl, inr, refl, sym, ap, ◌∙◌, subst}
use Rattle.std.specs.Result.{is_ok}
use Rattle.sdb_oplog.specs.Plain.{PlainEntry}
use Rattle.sdb_oplog.specs.declared.codes.Code.{Code}
use Rattle.sdb_oplog.specs.declared.codes.Code.TheVariants.{E4, E10, E11}
use Rattle.sdb_oplog.specs.Refusal.{IsRefusalOrOutOfMemory}
use Rattle.sdb_oplog.specs.laws.LogLaws.{out_of_memory_or_refusal}
use Rattle.sdb_subscribe.specs.Queue.{PlainQueue, PlainQueues, open_queue}
use Rattle.sdb_subscribe.specs.Ring.{RingedQueues, queues_without_rings, without_rings, open_ringed_queue}
use Rattle.sdb_subscribe.proofs.QueueMapLemmas.{added_bare}
use Rattle.sdb_value.specs.Value.{Value}
use Rattle.sdb_desk.specs.Machine.{PlainFetchResult, queue_start, subscribe_opened, subscribe_step, subscribe_from_start, fetch_result, read_has_document, ReadOrOutOfMemory, SubscribesOrOutOfMemory}

-- the answer is the machine's, or the allocation of a new queue failed
subscribes_or : (log : List PlainEntry) (by : ℕ) (v : Option ℕ) (q new : PlainQueues) (code : Code) → nat_lt (length log) (unwrap_or v (length log)) ≡ false → nat_eq q.next 18446744073709551615 ≡ false → new ≡ q → (code ≡ E10) ⊎ (open_queue by (unwrap_or v (length log)) q ≡ Err code)
    → SubscribesOrOutOfMemory log by v q (Err code) new
subscribes_or log by v q new code seen free same (inl e) =
    let s = unwrap_or v (length log) in
    let due : is_ok (subscribe_step log by v q).answer ≡ true =
    ap (λ b. is_ok (subscribe_from_start log by q (cond b (Err E4) (Ok s))).answer) seen ∙ ap (λ b. is_ok (subscribe_opened log s q (cond b (Err E11) (Ok (record { next = q.next + 1; queues = q.queues ++ (q.next, record { start = s; taken = 0; by = by }) ∷ [] })))).answer) free in
    inl (ap Err e, same, due)
subscribes_or log by v q new code seen free same (inr e) =
    let s = unwrap_or v (length log) in
    let due : subscribe_step log by v q ≡ record { answer = Err code; queues = q } = ap (λ b. subscribe_from_start log by q (cond b (Err E4) (Ok s))) seen ∙ ap (subscribe_opened log s q) e in
    inr (sym (ap (λ x. x.answer) due), same ∙ sym (ap (λ x. x.queues) due))

start_seen : (log : List PlainEntry) (v : Option ℕ) (b : Bool) (s : ℕ) → nat_lt (length log) (unwrap_or v (length log)) ≡ b → queue_start log v ≡ Ok s → b ≡ false
start_seen log v true s e is = let c : queue_start log v ≡ Err E4 = ap (λ x. cond x (Err E4) (Ok (unwrap_or v (length log)))) e in let never : Err E4 ≡ Ok s = sym c ∙ is in cc
start_seen log v false s e is = refl

start_is : (log : List PlainEntry) (v : Option ℕ) (b : Bool) (s : ℕ) → nat_lt (length log) (unwrap_or v (length log)) ≡ b → queue_start log v ≡ Ok s → s ≡ unwrap_or v (length log)
start_is log v true s e is = let c : queue_start log v ≡ Err E4 = ap (λ x. cond x (Err E4) (Ok (unwrap_or v (length log)))) e in let never : Err E4 ≡ Ok s = sym c ∙ is in cc
start_is log v false s e is =
    let c : queue_start log v ≡ Ok (unwrap_or v (length log)) = ap (λ x. cond x (Err E4) (Ok (unwrap_or v (length log)))) e in
    let same : Ok s ≡ Ok (unwrap_or v (length log)) = sym is ∙ c in
    cc

-- a queue that may be opened: a number is left, and its start exists
pub subscribe_refused : (log : List PlainEntry) (by : ℕ) (v : Option ℕ) (s : ℕ) (q new : PlainQueues) (code : Code) → queue_start log v ≡ Ok s → nat_eq q.next 18446744073709551615 ≡ false
    → IsRefusalOrOutOfMemory (open_queue by s q) code → new ≡ q → SubscribesOrOutOfMemory log by v q (Err code) new
subscribe_refused log by v s q new code is free h same =
    let test = nat_lt (length log) (unwrap_or v (length log)) in
    let at : s ≡ unwrap_or v (length log) = start_is log v test s refl is in
    subscribes_or log by v q new code (start_seen log v test s refl is) free same
    (out_of_memory_or_refusal (open_queue by (unwrap_or v (length log)) q) code (subst (λ m. IsRefusalOrOutOfMemory (open_queue by m q) code) at h))

-- the allocation of the document failed
pub read_out_of_memory : {A : Type 0} (takes : A → Bool) (code : Code) (x : A) → ReadOrOutOfMemory takes (Err code) (Ok x) → code ≡ E10
read_out_of_memory takes code x (inl h) = let w = h.0 in cc
read_out_of_memory takes code x (inr h) = cc

pub subscribe_out_of_memory : (log : List PlainEntry) (by : ℕ) (v : Option ℕ) (s : ℕ) (q new : PlainQueues) (code : Code) → queue_start log v ≡ Ok s → nat_eq q.next 18446744073709551615 ≡ false → code ≡ E10 → new ≡ q
    → SubscribesOrOutOfMemory log by v q (Err code) new
subscribe_out_of_memory log by v s q new code is free e same =
    let test = nat_lt (length log) (unwrap_or v (length log)) in
    subscribes_or log by v q new code (start_seen log v test s refl is) free same (inl e)

-- a queue is opened and the document is returned
pub subscribe_done : (log : List PlainEntry) (by : ℕ) (v : Option ℕ) (s id n : ℕ) (q new : PlainQueues) (d : Option Value) → queue_start log v ≡ Ok s → id ≡ q.next → open_queue by s q ≡ Ok new
    → ReadOrOutOfMemory read_has_document (Ok (record { version = n; snapshot = d })) (Ok (fetch_result log)) → SubscribesOrOutOfMemory log by v q (Ok (record { id = id; start = s; version = n; snapshot = d })) new
subscribe_done log by v s id n q new d is at made (inl h) = let w = h.0 in cc
subscribe_done log by v s id n q new d is at made (inr h) =
    let shown : ◌≡◌ {A = PlainFetchResult} (record { version = n; snapshot = d }) (fetch_result log) = cc in
    let due : subscribe_step log by v q ≡ subscribe_opened log s q (Ok new) = ap (subscribe_from_start log by q) is ∙ ap (subscribe_opened log s q) made in
    inr (
      (λ i. Ok (record { id = at i; start = s; version = (shown i).version; snapshot = (shown i).snapshot })) ∙ sym (ap (λ x. x.answer) due),
      sym (ap (λ x. x.queues) due),
    )

-- ---- the queue with its ring buffer

pub open_of_ringed : (by start : ℕ) (q : RingedQueues) → nat_eq q.next 18446744073709551615 ≡ false
    → open_queue by start (without_rings q) ≡ Ok (without_rings (open_ringed_queue by start q))
open_of_ringed by start q free =
    let w : PlainQueue = record { start = start; taken = 0; by = by } in
    ap (λ b. cond b (Err E11) (Ok (record { next = q.next + 1; queues = queues_without_rings q.queues ++ (q.next, w) ∷ [] }))) free
    ∙ ap (λ l. Ok (record { next = q.next + 1; queues = l })) (sym (added_bare q.next (record { queue = w; ring = [] }) q.queues))
