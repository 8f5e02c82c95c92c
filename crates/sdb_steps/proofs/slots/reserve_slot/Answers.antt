use Rattle.std.proofs.Common.{None, sym, ap, ◌∙◌}
use Rattle.sdb_oplog.specs.Keys.{plain_key}
use Rattle.sdb_oplog.specs.Keys.{with_value_at_key}
use Rattle.sdb_desk.specs.laws.MapLaws.{updated_of_insert, updated_at_same, value_at_lookup_none}
use Rattle.sdb_steps.specs.StateView.{queue_slots_in}
use Rattle.sdb_steps.proofs.slots.reserve_slot.Goals as goal

pub returns-in_ok-insert-in-None-clause-unchanged : goal.returns-in_ok-insert-in-None-clause-unchanged
returns-in_ok-insert-in-None-clause-unchanged c =
    let es = c.args.slots.now.entries in
    let k = plain_key c.args.key.now in
    updated_of_insert None es _ c.in_ok-try_clone-in-None.field-0 None c.in_ok-insert-in-None.ensures.entries
    ∙ ap (λ q. with_value_at_key (queue_slots_in es) q None) c.in_ok-try_clone-in-None.ensures
    ∙ sym (updated_at_same (queue_slots_in es) k None (value_at_lookup_none None es c.args.key.now c.in-None.ensures.value))
