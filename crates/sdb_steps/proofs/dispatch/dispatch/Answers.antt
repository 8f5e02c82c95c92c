use Rattle.std.proofs.Common.{◌≡◌, [], option_map, None, refl, sym, ap, subst, string_bytes}
use Rattle.sdb_oplog.specs.Keys.{plain_key}
use Rattle.sdb_desk.specs.ShardState.{ShardState, plain_queues}
use Rattle.sdb_desk.specs.ShardView.{state_of, logs_of, caches_of, queues_of}
use Rattle.sdb_desk.specs.laws.StateLaws.{machine_with_cache}
use Rattle.sdb_desk.specs.Machine.{QueuesByKey}
use Rattle.sdb_steps.specs.Caches.{CachesAfterAct}
use Rattle.sdb_steps.specs.Picks as plain
use Rattle.sdb_steps.specs.Dispatch.{DispatchesAct, FollowsEffect}
use Rattle.sdb_steps.specs.StateView.{one_step_of_shard, session_state_of, plain_open_attempt, queue_slots_of}
use Rattle.sdb_steps.specs.LookInvariant.{HasLookAt}
use Rattle.sdb_steps.specs.Slots.{SlotsOpen, OtherQueuesUnchanged}
use Rattle.sdb_steps.specs.View.{plain_session_step, plain_step_answer}
use Rattle.sdb_steps.specs.declared.step.Step.{Step}
use Rattle.sdb_steps.proofs.CommitLemmas.{same_core, none_of}
use Rattle.sdb_steps.proofs.QueueStepLemmas.{leaves_all, begin_turn, begins_with, session_unchanged}
use Rattle.sdb_steps.proofs.dispatch.dispatch.Goals as goal

pub returns-else-is_some-clause-dispatches : goal.returns-else-is_some-clause-dispatches
returns-else-is_some-clause-dispatches c =
    let m = one_step_of_shard c.args.shard.now in
    let q = queues_of c.args.shard.now in
    let x = session_state_of q c.args.session.now in
    let y = session_state_of q c.begin.new.session in
    let b = c.in-Begin in
    let k = plain_key b.key in
    let s = plain.submission_of_begin b.number.number k (string_bytes b.src) b.seq b.version b.content in
    let a = plain_step_answer c.begin.result in
    let o = option_map plain_open_attempt c.begin.new.session.attempt in
    let none : x.attempt ≡ None = ap (option_map plain_open_attempt) (sym (none_of c.args.session.now.attempt (sym c.if-is_some.ensures))) in
    let h = begins_with m k s c.submission_of-submission.result a o c.submission_of-submission.ensures c.begin.ensures.begun c.begin.ensures.memory in
    let put : plain.with_attempt x o ≡ y = session_unchanged o q q (queue_slots_of c.begin.new.session) (queue_slots_of c.args.session.now) refl (sym c.begin.ensures.slots_unchanged) in
    subst (λ (z : Step). DispatchesAct (plain_session_step z).session m x (plain_session_step z).act a m y) (sym b.is)
    (subst (λ w. DispatchesAct b.number.number m x (plain.begin k (string_bytes b.src) b.seq b.version b.content) a m w) put (begin_turn b.number.number m x k (string_bytes b.src) b.seq b.version b.content a o none h))

pub returns-else-is_some-clause-other_queues_unchanged : goal.returns-else-is_some-clause-other_queues_unchanged
returns-else-is_some-clause-other_queues_unchanged c = let q = queues_of c.args.shard.now in leaves_all (plain_session_step c.args.step.now).session q q (queue_slots_of c.args.session.now) _ c.requires.queues refl c.begin.ensures.slots_unchanged

pub returns-in-Work-clause-other_queues_unchanged : goal.returns-in-Work-clause-other_queues_unchanged
returns-in-Work-clause-other_queues_unchanged c = let q = queues_of c.args.shard.now in leaves_all (plain_session_step c.args.step.now).session q q (queue_slots_of c.args.session.now) _ c.requires.queues refl c.work.ensures.slots_unchanged

pub returns-in-Commit-clause-other_queues_unchanged : goal.returns-in-Commit-clause-other_queues_unchanged
returns-in-Commit-clause-other_queues_unchanged c = leaves_all (plain_session_step c.args.step.now).session (queues_of c.args.shard.now) _ (queue_slots_of c.args.session.now) _ c.requires.queues c.commit.ensures.queues_unchanged c.commit.ensures.slots_unchanged

pub returns-in-Fetch-clause-other_queues_unchanged : goal.returns-in-Fetch-clause-other_queues_unchanged
returns-in-Fetch-clause-other_queues_unchanged c = let s = queue_slots_of c.args.session.now in leaves_all (plain_session_step c.args.step.now).session (queues_of c.args.shard.now) _ s s c.requires.queues (ap plain_queues c.fetch.ensures.unchanged) refl

pub returns-in-Snapshot-clause-other_queues_unchanged : goal.returns-in-Snapshot-clause-other_queues_unchanged
returns-in-Snapshot-clause-other_queues_unchanged c = let s = queue_slots_of c.args.session.now in leaves_all (plain_session_step c.args.step.now).session (queues_of c.args.shard.now) _ s s c.requires.queues (ap plain_queues c.snapshot.ensures.cache.1) refl

pub returns-in-SnapshotAtTime-clause-other_queues_unchanged : goal.returns-in-SnapshotAtTime-clause-other_queues_unchanged
returns-in-SnapshotAtTime-clause-other_queues_unchanged c = let s = queue_slots_of c.args.session.now in leaves_all (plain_session_step c.args.step.now).session (queues_of c.args.shard.now) _ s s c.requires.queues (ap plain_queues c.snapshot_at_time.ensures.cache.1) refl

pub returns-in-Forget-clause-dispatches : goal.returns-in-Forget-clause-dispatches
returns-in-Forget-clause-dispatches c =
    let m = one_step_of_shard c.args.shard.now in
    let n = one_step_of_shard c.forget.new.self in
    let q = queues_of c.args.shard.now in
    let r = queues_of c.forget.new.self in
    let s = queue_slots_of c.args.session.now in
    let x = session_state_of q c.args.session.now in
    let y = session_state_of r c.args.session.now in
    let same = machine_with_cache (plain_key c.in-Forget.key) [] (state_of c.args.shard.now) (state_of c.forget.new.self) c.forget.ensures in
    subst (λ (z : Step). FollowsEffect m (plain.effect m (plain_session_step z).session x (plain_session_step z).act) (plain.notice_answer plain.forgotten) n y) (sym c.in-Forget.is)
    (refl, same_core c.args.shard.now c.forget.new.self same.0 same.1, session_unchanged (option_map plain_open_attempt c.args.session.now.attempt) q r s s same.1 refl)

pub returns-in-Forget-clause-other_queues_unchanged : goal.returns-in-Forget-clause-other_queues_unchanged
returns-in-Forget-clause-other_queues_unchanged c = let s = queue_slots_of c.args.session.now in leaves_all (plain_session_step c.args.step.now).session (queues_of c.args.shard.now) _ s s c.requires.queues (machine_with_cache (plain_key c.in-Forget.key) [] (state_of c.args.shard.now) (state_of c.forget.new.self) c.forget.ensures).1 refl

pub subscribe-requires : goal.subscribe-requires
subscribe-requires c = subst (λ (z : Step). SlotsOpen (plain_session_step z).session (queues_of c.args.shard.now) (queue_slots_of c.args.session.now)) c.in-Subscribe.is c.requires.queues

pub take-requires : goal.take-requires
take-requires c = subst (λ (z : Step). SlotsOpen (plain_session_step z).session (queues_of c.args.shard.now) (queue_slots_of c.args.session.now)) c.in-Take.is c.requires.queues

pub unsubscribe-requires : goal.unsubscribe-requires
unsubscribe-requires c = subst (λ (z : Step). SlotsOpen (plain_session_step z).session (queues_of c.args.shard.now) (queue_slots_of c.args.session.now)) c.in-Unsubscribe.is c.requires.queues

pub returns-in-Work-clause-has_look : goal.returns-in-Work-clause-has_look
returns-in-Work-clause-has_look c = c.work.ensures.has_look (logs_of c.args.shard.now) c.requires.has_look

pub returns-in-Snapshot-clause-caches : goal.returns-in-Snapshot-clause-caches
returns-in-Snapshot-clause-caches c =
    subst (λ (z : Step). CachesAfterAct (logs_of c.args.shard.now) (plain_session_step z).act (plain_step_answer c.snapshot.result) (caches_of c.args.shard.now) (caches_of c.snapshot.new.shard)) (sym c.in-Snapshot.is) (c.snapshot.ensures.cache.0, ap (λ s. s.caches) c.snapshot.ensures.cache.1)

pub returns-in-SnapshotAtTime-clause-caches : goal.returns-in-SnapshotAtTime-clause-caches
returns-in-SnapshotAtTime-clause-caches c =
    subst (λ (z : Step). CachesAfterAct (logs_of c.args.shard.now) (plain_session_step z).act (plain_step_answer c.snapshot_at_time.result) (caches_of c.args.shard.now) (caches_of c.snapshot_at_time.new.shard)) (sym c.in-SnapshotAtTime.is) (c.snapshot_at_time.ensures.cache.0, ap (λ s. s.caches) c.snapshot_at_time.ensures.cache.1)

pub returns-in-Work-clause-dispatches : goal.returns-in-Work-clause-dispatches
returns-in-Work-clause-dispatches c =
    let i = (plain_session_step c.args.step.now).session in
    let m = one_step_of_shard c.args.shard.now in
    let n = one_step_of_shard c.args.shard.now in
    let q = queues_of c.args.shard.now in
    let x = session_state_of q c.args.session.now in
    let y = session_state_of (queues_of c.args.shard.now) c.work.new.self in
    subst (λ (z : Step). DispatchesAct i m x (plain_session_step z).act (plain_step_answer c.work.result) n y) (sym c.in-Work.is)
    (c.work.ensures.dispatches i m q c.requires.has_look)

pub returns-in-Commit-clause-dispatches : goal.returns-in-Commit-clause-dispatches
returns-in-Commit-clause-dispatches c =
    let i = (plain_session_step c.args.step.now).session in
    let m = one_step_of_shard c.args.shard.now in
    let n = one_step_of_shard c.commit.new.shard in
    let q = queues_of c.args.shard.now in
    let x = session_state_of q c.args.session.now in
    let y = session_state_of (queues_of c.commit.new.shard) c.commit.new.self in
    subst (λ (z : Step). DispatchesAct i m x (plain_session_step z).act (plain_step_answer c.commit.result) n y) (sym c.in-Commit.is)
    (subst (λ (r : QueuesByKey). DispatchesAct i m x (plain.commit c.in-Commit.now) (plain_step_answer c.commit.result) n (session_state_of r c.commit.new.self)) (sym c.commit.ensures.queues_unchanged) (c.commit.ensures.dispatches i q))

pub returns-in-Fetch-clause-dispatches : goal.returns-in-Fetch-clause-dispatches
returns-in-Fetch-clause-dispatches c =
    let i = (plain_session_step c.args.step.now).session in
    let m = one_step_of_shard c.args.shard.now in
    let n = one_step_of_shard c.fetch.new.shard in
    let q = queues_of c.args.shard.now in
    let x = session_state_of q c.args.session.now in
    let y = session_state_of (queues_of c.fetch.new.shard) c.args.session.now in
    subst (λ (z : Step). DispatchesAct i m x (plain_session_step z).act (plain_step_answer c.fetch.result) n y) (sym c.in-Fetch.is)
    (subst (λ (r : QueuesByKey). DispatchesAct i m x (plain.fetch (plain_key c.in-Fetch.key)) (plain_step_answer c.fetch.result) n (session_state_of r c.args.session.now)) (sym (ap plain_queues c.fetch.ensures.unchanged)) (c.fetch.ensures.dispatches i x))

pub returns-in-Snapshot-clause-dispatches : goal.returns-in-Snapshot-clause-dispatches
returns-in-Snapshot-clause-dispatches c =
    let i = (plain_session_step c.args.step.now).session in
    let m = one_step_of_shard c.args.shard.now in
    let n = one_step_of_shard c.snapshot.new.shard in
    let q = queues_of c.args.shard.now in
    let x = session_state_of q c.args.session.now in
    let y = session_state_of (queues_of c.snapshot.new.shard) c.args.session.now in
    subst (λ (z : Step). DispatchesAct i m x (plain_session_step z).act (plain_step_answer c.snapshot.result) n y) (sym c.in-Snapshot.is)
    (subst (λ (r : QueuesByKey). DispatchesAct i m x (plain.snapshot (plain_key c.in-Snapshot.key) c.in-Snapshot.version) (plain_step_answer c.snapshot.result) n (session_state_of r c.args.session.now)) (sym (ap plain_queues c.snapshot.ensures.cache.1)) (c.snapshot.ensures.dispatches i x))

pub returns-in-SnapshotAtTime-clause-dispatches : goal.returns-in-SnapshotAtTime-clause-dispatches
returns-in-SnapshotAtTime-clause-dispatches c =
    let i = (plain_session_step c.args.step.now).session in
    let m = one_step_of_shard c.args.shard.now in
    let n = one_step_of_shard c.snapshot_at_time.new.shard in
    let q = queues_of c.args.shard.now in
    let x = session_state_of q c.args.session.now in
    let y = session_state_of (queues_of c.snapshot_at_time.new.shard) c.args.session.now in
    subst (λ (z : Step). DispatchesAct i m x (plain_session_step z).act (plain_step_answer c.snapshot_at_time.result) n y) (sym c.in-SnapshotAtTime.is)
    (subst (λ (r : QueuesByKey). DispatchesAct i m x (plain.snapshot_at_time (plain_key c.in-SnapshotAtTime.key) c.in-SnapshotAtTime.moment) (plain_step_answer c.snapshot_at_time.result) n (session_state_of r c.args.session.now)) (sym (ap plain_queues c.snapshot_at_time.ensures.cache.1)) (c.snapshot_at_time.ensures.dispatches i x))

pub returns-in-Subscribe-clause-has_look : goal.returns-in-Subscribe-clause-has_look
returns-in-Subscribe-clause-has_look c = subst (λ l. HasLookAt l c.subscribe.new.self.attempt) (sym c.subscribe.ensures.logs_unchanged) (subst (HasLookAt (logs_of c.args.shard.now)) (sym c.subscribe.ensures.attempt_unchanged) c.requires.has_look)

pub returns-in-Subscribe-clause-other_queues_unchanged : goal.returns-in-Subscribe-clause-other_queues_unchanged
returns-in-Subscribe-clause-other_queues_unchanged c =
    let q = queues_of c.args.shard.now in
    let s = queue_slots_of c.args.session.now in
    subst (λ (z : Step). OtherQueuesUnchanged (plain_session_step z).session q s (queues_of c.subscribe.new.shard) (queue_slots_of c.subscribe.new.self)) (sym c.in-Subscribe.is) c.subscribe.ensures.other_queues_unchanged

pub returns-in-Subscribe-clause-caches : goal.returns-in-Subscribe-clause-caches
returns-in-Subscribe-clause-caches c =
    subst (λ (z : Step). CachesAfterAct (logs_of c.args.shard.now) (plain_session_step z).act (plain_step_answer c.subscribe.result) (caches_of c.args.shard.now) (caches_of c.subscribe.new.shard)) (sym c.in-Subscribe.is) c.subscribe.ensures.caches_unchanged

pub returns-in-Take-clause-has_look : goal.returns-in-Take-clause-has_look
returns-in-Take-clause-has_look c = subst (λ l. HasLookAt l c.take.new.self.attempt) (sym c.take.ensures.logs_unchanged) (subst (HasLookAt (logs_of c.args.shard.now)) (sym c.take.ensures.attempt_unchanged) c.requires.has_look)

pub returns-in-Take-clause-other_queues_unchanged : goal.returns-in-Take-clause-other_queues_unchanged
returns-in-Take-clause-other_queues_unchanged c =
    let q = queues_of c.args.shard.now in
    let s = queue_slots_of c.args.session.now in
    subst (λ (z : Step). OtherQueuesUnchanged (plain_session_step z).session q s (queues_of c.take.new.shard) (queue_slots_of c.take.new.self)) (sym c.in-Take.is) c.take.ensures.other_queues_unchanged

pub returns-in-Take-clause-caches : goal.returns-in-Take-clause-caches
returns-in-Take-clause-caches c =
    subst (λ (z : Step). CachesAfterAct (logs_of c.args.shard.now) (plain_session_step z).act (plain_step_answer c.take.result) (caches_of c.args.shard.now) (caches_of c.take.new.shard)) (sym c.in-Take.is) c.take.ensures.caches_unchanged

pub returns-in-Unsubscribe-clause-has_look : goal.returns-in-Unsubscribe-clause-has_look
returns-in-Unsubscribe-clause-has_look c = subst (λ l. HasLookAt l c.unsubscribe.new.self.attempt) (sym c.unsubscribe.ensures.logs_unchanged) (subst (HasLookAt (logs_of c.args.shard.now)) (sym c.unsubscribe.ensures.attempt_unchanged) c.requires.has_look)

pub returns-in-Unsubscribe-clause-other_queues_unchanged : goal.returns-in-Unsubscribe-clause-other_queues_unchanged
returns-in-Unsubscribe-clause-other_queues_unchanged c =
    let q = queues_of c.args.shard.now in
    let s = queue_slots_of c.args.session.now in
    subst (λ (z : Step). OtherQueuesUnchanged (plain_session_step z).session q s (queues_of c.unsubscribe.new.shard) (queue_slots_of c.unsubscribe.new.self)) (sym c.in-Unsubscribe.is) c.unsubscribe.ensures.other_queues_unchanged

pub returns-in-Unsubscribe-clause-caches : goal.returns-in-Unsubscribe-clause-caches
returns-in-Unsubscribe-clause-caches c =
    subst (λ (z : Step). CachesAfterAct (logs_of c.args.shard.now) (plain_session_step z).act (plain_step_answer c.unsubscribe.result) (caches_of c.args.shard.now) (caches_of c.unsubscribe.new.shard)) (sym c.in-Unsubscribe.is) c.unsubscribe.ensures.caches_unchanged

pub returns-in-Fetch-clause-has_look : goal.returns-in-Fetch-clause-has_look
returns-in-Fetch-clause-has_look c = subst (λ (s : ShardState). HasLookAt s.logs c.args.session.now.attempt) (sym c.fetch.ensures.unchanged) c.requires.has_look

pub returns-in-Fetch-clause-caches : goal.returns-in-Fetch-clause-caches
returns-in-Fetch-clause-caches c =
    subst (λ (z : Step). CachesAfterAct (logs_of c.args.shard.now) (plain_session_step z).act (plain_step_answer c.fetch.result) (caches_of c.args.shard.now) (caches_of c.fetch.new.shard)) (sym c.in-Fetch.is) (ap (λ s. s.caches) c.fetch.ensures.unchanged)

pub returns-in-Snapshot-clause-has_look : goal.returns-in-Snapshot-clause-has_look
returns-in-Snapshot-clause-has_look c = subst (λ (s : ShardState). HasLookAt s.logs c.args.session.now.attempt) (sym c.snapshot.ensures.cache.1) c.requires.has_look

pub returns-in-SnapshotAtTime-clause-has_look : goal.returns-in-SnapshotAtTime-clause-has_look
returns-in-SnapshotAtTime-clause-has_look c = subst (λ (s : ShardState). HasLookAt s.logs c.args.session.now.attempt) (sym c.snapshot_at_time.ensures.cache.1) c.requires.has_look
