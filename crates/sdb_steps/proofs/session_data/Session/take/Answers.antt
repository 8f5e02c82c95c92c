use Rattle.std.proofs.Common.{◌≡◌, [], cond, Some, None, option_map, unwrap_or, refl, ap, sym, ◌∙◌}
use Rattle.sdb_oplog.specs.Keys.{plain_key}
use Rattle.sdb_desk.specs.laws.StateLaws.{take_step}
use Rattle.sdb_desk.specs.ShardView.{state_of, logs_of, queues_of}
use Rattle.sdb_subscribe.specs.Queue.{pending_entries, take_result}
use Rattle.sdb_desk.specs.Machine.{TakesOrOutOfMemory, is_nonempty}
use Rattle.sdb_desk.specs.View.{taken_view}
use Rattle.sdb_steps.specs.StateView.{plain_open_attempt, queue_slots_of}
use Rattle.sdb_steps.proofs.QueueStepLemmas.{TakeFacts, stands_of, taken_turn, taken_leaves, take_out_of_memory, leaves_all, unchanged_queues}
use Rattle.sdb_steps.proofs.session_data.Session.take.Goals as goal

pub returns-in-Ok-Some-clause-dispatches : goal.returns-in-Ok-Some-clause-dispatches
returns-in-Ok-Some-clause-dispatches c =
    let q0 = queues_of c.args.shard.now in
    let q1 = queues_of c.take.new.self in
    let l0 = logs_of c.args.shard.now in
    let l1 = logs_of c.take.new.self in
    let k = plain_key c.args.key.now in
    let s = queue_slots_of c.args.self.now in
    let n = c.in-Some.id in
    let a = option_map plain_open_attempt c.args.self.now.attempt in
    let at : s k ≡ Some n = sym c.queue_of.ensures ∙ c.in-Some.is in
    let w = stands_of c.args.by _ (c.requires k n at).1 in
    let told = take_step k c.args.by n c.args.max (Some (option_map (λ v. v.items) c.in-Ok-Some.field-0)) (state_of c.args.shard.now) (state_of c.take.new.self) c.in-Ok-Some.ensures in
    let takes : TakesOrOutOfMemory (l0 k) c.args.by n c.args.max (q0 k) (Some (Some c.in-Ok-Some.entries.items)) (q1 k) = (ap (option_map (λ v. v.items)) (sym c.in-Ok-Some.field-0-is) ∙ told.takes.0, told.takes.1) in
    let h : TakeFacts c.args.by q0 q1 l0 l1 s s k n w.0 a = record { all = c.requires; at = at; stands = w.1; others = told.others_unchanged; next = ap (λ z. z.next) told.takes.1; logs = told.logs_unchanged } in
    taken_turn c.args.by q0 q1 l0 l1 s s k n w.0 a h c.args.max c.in-Ok-Some.entries.items takes refl

pub returns-in-Ok-Some-clause-other_queues_unchanged : goal.returns-in-Ok-Some-clause-other_queues_unchanged
returns-in-Ok-Some-clause-other_queues_unchanged c =
    let q0 = queues_of c.args.shard.now in
    let q1 = queues_of c.take.new.self in
    let l0 = logs_of c.args.shard.now in
    let l1 = logs_of c.take.new.self in
    let k = plain_key c.args.key.now in
    let s = queue_slots_of c.args.self.now in
    let n = c.in-Some.id in
    let a = option_map plain_open_attempt c.args.self.now.attempt in
    let at : s k ≡ Some n = sym c.queue_of.ensures ∙ c.in-Some.is in
    let w = stands_of c.args.by _ (c.requires k n at).1 in
    let told = take_step k c.args.by n c.args.max (Some (option_map (λ v. v.items) c.in-Ok-Some.field-0)) (state_of c.args.shard.now) (state_of c.take.new.self) c.in-Ok-Some.ensures in
    let takes : TakesOrOutOfMemory (l0 k) c.args.by n c.args.max (q0 k) (Some (Some c.in-Ok-Some.entries.items)) (q1 k) = (ap (option_map (λ v. v.items)) (sym c.in-Ok-Some.field-0-is) ∙ told.takes.0, told.takes.1) in
    let h : TakeFacts c.args.by q0 q1 l0 l1 s s k n w.0 a = record { all = c.requires; at = at; stands = w.1; others = told.others_unchanged; next = ap (λ z. z.next) told.takes.1; logs = told.logs_unchanged } in
    taken_leaves c.args.by q0 q1 l0 l1 s s k n w.0 a h c.args.max c.in-Ok-Some.entries.items takes refl

pub returns-in-Err-clause-dispatches : goal.returns-in-Err-clause-dispatches
returns-in-Err-clause-dispatches c =
    let q0 = queues_of c.args.shard.now in
    let q1 = queues_of c.take.new.self in
    let l0 = logs_of c.args.shard.now in
    let l1 = logs_of c.take.new.self in
    let k = plain_key c.args.key.now in
    let s = queue_slots_of c.args.self.now in
    let n = c.in-Some.id in
    let a = option_map plain_open_attempt c.args.self.now.attempt in
    let at : s k ≡ Some n = sym c.queue_of.ensures ∙ c.in-Some.is in
    let w = stands_of c.args.by _ (c.requires k n at).1 in
    let told = take_step k c.args.by c.in-Some.id c.args.max None (state_of c.args.shard.now) (state_of c.take.new.self) c.in-Err.ensures in
    let h : TakeFacts c.args.by q0 q1 l0 l1 s s k n w.0 a = record { all = c.requires; at = at; stands = w.1; others = told.others_unchanged; next = ap (λ z. z.next) told.takes.0; logs = told.logs_unchanged } in
    let some =
    sym (ap (λ b. is_nonempty (unwrap_or (cond b (take_result (l0 k) n c.args.max (q0 k).queues) None) [])) (c.requires k n at).1 ∙ ap (λ o. is_nonempty (unwrap_or (option_map (pending_entries (l0 k) c.args.max) o) [])) w.1)
    ∙ told.takes.1 in
    take_out_of_memory c.args.by q0 q1 l0 l1 s s k n w.0 a h c.args.max some refl (unchanged_queues q0 q1 k told.others_unchanged told.takes.0)

pub returns-in-Err-clause-other_queues_unchanged : goal.returns-in-Err-clause-other_queues_unchanged
returns-in-Err-clause-other_queues_unchanged c =
    let q0 = queues_of c.args.shard.now in
    let q1 = queues_of c.take.new.self in
    let k = plain_key c.args.key.now in
    let s = queue_slots_of c.args.self.now in
    let told = take_step k c.args.by c.in-Some.id c.args.max None (state_of c.args.shard.now) (state_of c.take.new.self) c.in-Err.ensures in
    leaves_all c.args.by q0 q1 s s c.requires (unchanged_queues q0 q1 k told.others_unchanged told.takes.0) refl

pub returns-in-Ok-Some-clause-logs_unchanged : goal.returns-in-Ok-Some-clause-logs_unchanged
returns-in-Ok-Some-clause-logs_unchanged c =
    (take_step (plain_key c.args.key.now) c.args.by c.in-Some.id c.args.max (taken_view c.take.result) (state_of c.args.shard.now) (state_of c.take.new.self) c.take.ensures).logs_unchanged

pub returns-in-Ok-Some-clause-caches_unchanged : goal.returns-in-Ok-Some-clause-caches_unchanged
returns-in-Ok-Some-clause-caches_unchanged c =
    (take_step (plain_key c.args.key.now) c.args.by c.in-Some.id c.args.max (taken_view c.take.result) (state_of c.args.shard.now) (state_of c.take.new.self) c.take.ensures).caches_unchanged

pub returns-in-Ok-None-clause-logs_unchanged : goal.returns-in-Ok-None-clause-logs_unchanged
returns-in-Ok-None-clause-logs_unchanged c =
    (take_step (plain_key c.args.key.now) c.args.by c.in-Some.id c.args.max (taken_view c.take.result) (state_of c.args.shard.now) (state_of c.take.new.self) c.take.ensures).logs_unchanged

pub returns-in-Ok-None-clause-caches_unchanged : goal.returns-in-Ok-None-clause-caches_unchanged
returns-in-Ok-None-clause-caches_unchanged c =
    (take_step (plain_key c.args.key.now) c.args.by c.in-Some.id c.args.max (taken_view c.take.result) (state_of c.args.shard.now) (state_of c.take.new.self) c.take.ensures).caches_unchanged

pub returns-in-Err-clause-logs_unchanged : goal.returns-in-Err-clause-logs_unchanged
returns-in-Err-clause-logs_unchanged c =
    (take_step (plain_key c.args.key.now) c.args.by c.in-Some.id c.args.max (taken_view c.take.result) (state_of c.args.shard.now) (state_of c.take.new.self) c.take.ensures).logs_unchanged

pub returns-in-Err-clause-caches_unchanged : goal.returns-in-Err-clause-caches_unchanged
returns-in-Err-clause-caches_unchanged c =
    (take_step (plain_key c.args.key.now) c.args.by c.in-Some.id c.args.max (taken_view c.take.result) (state_of c.args.shard.now) (state_of c.take.new.self) c.take.ensures).caches_unchanged
