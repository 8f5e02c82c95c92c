use Rattle.std.proofs.Common.{◌≡◌, Ok, Err, option_map, subst, sym, ap, ◌∙◌}
use Rattle.std.proofs.lemmas.Result.{err_from_is_err_and}
use Rattle.sdb_value.specs.View.{value_of}
use Rattle.sdb_oplog.specs.Keys.{plain_key}
use Rattle.sdb_oplog.specs.Refusal.{IsRefusalOrOutOfMemory}
use Rattle.sdb_subscribe.specs.Queue.{open_queue}
use Rattle.sdb_subscribe.specs.Ring.{without_rings, open_ringed_queue}
use Rattle.sdb_desk.specs.Machine.{SubscribesOrOutOfMemory, fetch_result, read_has_document}
use Rattle.sdb_desk.specs.ShardState.{with_ringed_queues}
use Rattle.sdb_desk.specs.ShardView.{logs_of, queues_of, state_of}
use Rattle.sdb_desk.specs.View.{subscribe_result_view}
use Rattle.sdb_desk.specs.laws.MapLaws.{value_of_updated}
use Rattle.sdb_desk.proofs.SubscribeLemmas.{read_out_of_memory, subscribe_done, subscribe_refused, subscribe_out_of_memory, open_of_ringed}
use Rattle.sdb_desk.proofs.shard.Shard.subscribe.Goals as goal

pub returns-clause-state : goal.returns-clause-state
returns-clause-state c =
    let k = plain_key c.args.key.now in
    subst (λ s. state_of c.open.new.self ≡ with_ringed_queues s k (open_ringed_queue c.args.by c.in_ok-start.start (s.queues k))) c.fetch.ensures.unchanged c.in_ok-id.ensures.ok

pub returns-in_err-version-clause-subscribes : goal.returns-in_err-version-clause-subscribes
returns-in_err-version-clause-subscribes c =
    let k = plain_key c.args.key.now in
    let log = logs_of c.args.self.now k in
    let q = queues_of c.args.self.now k in
    let new = queues_of c.fetch.new.self k in
    let p = err_from_is_err_and c.from_residual-in_err-version.result c.from_residual-in_err-version.ensures.1 in
    let wanting = read_out_of_memory read_has_document c.in_err-version.field-0.0 (fetch_result log) c.in_err-version.ensures.fetched in
    subst (λ r. SubscribesOrOutOfMemory log c.args.by c.args.version q (subscribe_result_view r) new) (sym (p.1 ∙ ap Err p.2))
    (subscribe_out_of_memory log c.args.by c.args.version c.in_ok-start.start q new c.in_err-version.field-0.0 (sym c.in_ok-start.ensures) (sym c.ids_exhausted.ensures ∙ c.if-ids_exhausted.false) wanting
    (ap (λ s. without_rings (s.queues k)) c.fetch.ensures.unchanged))

pub returns-in_err-id-clause-subscribes : goal.returns-in_err-id-clause-subscribes
returns-in_err-id-clause-subscribes c =
    let k = plain_key c.args.key.now in
    let log = logs_of c.args.self.now k in
    let q = queues_of c.args.self.now k in
    let new = queues_of c.open.new.self k in
    let is : queues_of c.fetch.new.self k ≡ q = ap (λ s. without_rings (s.queues k)) c.fetch.ensures.unchanged in
    let p = err_from_is_err_and c.from_residual-in_err-id.result c.from_residual-in_err-id.ensures.1 in
    subst (λ r. SubscribesOrOutOfMemory log c.args.by c.args.version q (subscribe_result_view r) new) (sym (p.1 ∙ ap Err p.2))
    (subscribe_refused log c.args.by c.args.version c.in_ok-start.start q new c.in_err-id.field-0.0 (sym c.in_ok-start.ensures) (sym c.ids_exhausted.ensures ∙ c.if-ids_exhausted.false)
    (subst (λ w. IsRefusalOrOutOfMemory (open_queue c.args.by c.in_ok-start.start w) c.in_err-id.field-0.0) is c.in_err-id.ensures.err) (ap (λ s. without_rings (s.queues k)) c.in_err-id.ensures.unchanged_on_err ∙ is))

pub returns-clause-subscribes : goal.returns-clause-subscribes
returns-clause-subscribes c =
    let k = plain_key c.args.key.now in
    let log = logs_of c.args.self.now k in
    let old = state_of c.args.self.now in
    let between = state_of c.fetch.new.self in
    let q = without_rings (old.queues k) in
    let new = queues_of c.open.new.self k in
    let start = c.in_ok-start.start in
    let told = c.in_ok-version.field-0 in
    let is : without_rings (between.queues k) ≡ q = ap (λ s. without_rings (s.queues k)) c.fetch.ensures.unchanged in
    let opened : new ≡ without_rings (open_ringed_queue c.args.by start (between.queues k)) =
    ap without_rings (value_of_updated between.queues (state_of c.open.new.self).queues k (open_ringed_queue c.args.by start (between.queues k)) (ap (λ s. s.queues) c.in_ok-id.ensures.ok)) in
    let free = sym c.ids_exhausted.ensures ∙ c.if-ids_exhausted.false in
    subscribe_done log c.args.by c.args.version start c.in_ok-id.id told.version q new (option_map value_of told.snapshot) (sym c.in_ok-start.ensures)
    (c.in_ok-id.ensures.id ∙ ap (λ w. w.next) is)
    (open_of_ringed c.args.by start (old.queues k) free ∙ ap (λ s. Ok (without_rings (open_ringed_queue c.args.by start (s.queues k)))) (sym c.fetch.ensures.unchanged) ∙ ap Ok (sym opened)) c.in_ok-version.ensures.fetched
