use Rattle.std.proofs.Common.{ap}
use Rattle.sdb_subscribe.proofs.TakeLemmas.{entries_taken, queues_taken, queues_kept, some_waiting, none_taken, none_moved, fits_found}
use Rattle.sdb_subscribe.proofs.queues.take_from_queue.Goals as goal

pub take-requires : goal.take-requires
take-requires c = fits_found c.args.log.now c.args.number c.args.max c.args.queues.now.entries c.in-Some.queue.now c.requires c.in-Some.ensures.value

pub returns-in-Ok-clause-entries : goal.returns-in-Ok-clause-entries
returns-in-Ok-clause-entries c = entries_taken c.args.log.now c.args.number c.args.max c.args.queues.now.entries c.in-Some.queue.now c.in-Ok.entries.items c.in-Some.ensures.value c.in-Ok.ensures.entries

pub returns-in-Ok-clause-rings : goal.returns-in-Ok-clause-rings
returns-in-Ok-clause-rings c =
    let new = c.take.new.self in
    queues_taken c.args.log.now c.args.number c.args.max c.args.queues.now.entries c.in-Some.queue.now new _ c.in-Some.ensures.value (c.get_mut.follows.holds new).0 c.in-Ok.ensures.moved

pub returns-in-Err-clause-err : goal.returns-in-Err-clause-err
returns-in-Err-clause-err c =
    let new = c.take.new.self in
    queues_kept c.args.log.now c.args.number c.args.max c.args.queues.now.entries c.in-Some.queue.now new _ c.in-Some.ensures.value (c.get_mut.follows.holds new).0 c.in-Err.ensures.err

pub returns-in-Err-clause-memory : goal.returns-in-Err-clause-memory
returns-in-Err-clause-memory c = some_waiting c.args.log.now c.args.number c.args.max c.args.queues.now.entries c.in-Some.queue.now c.in-Some.ensures.value c.in-Err.ensures.memory

pub returns-in-None-clause-entries : goal.returns-in-None-clause-entries
returns-in-None-clause-entries c = none_taken c.args.log.now c.args.number c.args.max c.args.queues.now.entries c.in-None.ensures.value

pub returns-in-None-clause-rings : goal.returns-in-None-clause-rings
returns-in-None-clause-rings c =
    none_moved c.args.log.now c.args.number c.args.max c.args.queues.now.entries _ c.in-None.ensures.value (ap (λ m. m.entries) c.get_mut.follows.holds-at-none)
