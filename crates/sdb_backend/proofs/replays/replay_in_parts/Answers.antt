use Rattle.std.proofs.Common.{◌≡◌, ◌+◌, ◌-◌, min, option_map, sym, subst}
use Rattle.sdb_value.specs.View.{value_of}
use Rattle.sdb_oplog.specs.Keys.{plain_key}
use Rattle.sdb_desk.specs.View.{plain_replay_base}
use Rattle.sdb_backend.proofs.ReplayLemmas.{base_leads_to_version}
use Rattle.sdb_backend.proofs.ReplayPartLemmas.{IsPartSeenBy, only_read_refl, only_read_run, part_of_base, part_before, next_reaches, next_base, part_of_next}
use Rattle.sdb_backend.proofs.replays.replay_in_parts.Goals as goal

pub returns-in_err-snapshot-clause-read : goal.returns-in_err-snapshot-clause-read
returns-in_err-snapshot-clause-read g c = only_read_refl (plain_key c.args.key.now) c.args.pass.now

pub loop-at-init : goal.loop-at-init
loop-at-init g c =
    let k = plain_key c.args.key.now in
    let p = c.args.pass.now in
    let v = c.args.version in
    let l = plain_replay_base c.args.base in
    let d = option_map value_of c.in_ok-snapshot.snapshot in
    let count : c.min.result ≡ min (v - l.version) 8192 = c.min.ensures in
    let known = c.requires.base in
    record {
      belongs = c.requires.pass;
      read = only_read_refl k p;
      part = subst (λ n. IsPartSeenBy k p v (l.version + n) d) (sym count) (part_of_base k p v 8192 l d known c.in_ok-snapshot.ensures.ok);
      before = part_before k l.version v 8192 c.min.result count known.2.before;
    }

pub returns-in_err-entries-clause-read : goal.returns-in_err-entries-clause-read
returns-in_err-entries-clause-read g c =
    let d = c.in_err-entries.ensures.copied in
    only_read_run (plain_key c.args.key.now) c.args.pass.now c.loop-at.pass c.entries_between.new.pass d d.ran.0.1 d.ran.1 c.loop-at.invariant.read

pub replay-requires-in-loop-at : goal.replay-requires-in-loop-at
replay-requires-in-loop-at g c =
    let k = plain_key c.args.key.now in
    let i = c.loop-at.invariant in
    let d = c.in_ok-entries.ensures.copied in
    let at = c.loop-at.at in
    let to = at + c.min-in-loop-at.result in
    let reach = next_reaches k at c.args.version 8192 c.min-in-loop-at.result c.min-in-loop-at.ensures i.before in
    base_leads_to_version _ to _ (next_base k c.loop-at.pass c.entries_between.new.pass c.args.version at to (option_map value_of c.loop-at.snapshot) c.in_ok-entries.entries.items d i.part reach.0 reach.1)

pub returns-in_err-snapshot-2-clause-read : goal.returns-in_err-snapshot-2-clause-read
returns-in_err-snapshot-2-clause-read g c =
    let d = c.in_ok-entries.ensures.copied in
    only_read_run (plain_key c.args.key.now) c.args.pass.now c.loop-at.pass c.entries_between.new.pass d d.ran.0.1 d.ran.1 c.loop-at.invariant.read

pub loop-at-preserved : goal.loop-at-preserved
loop-at-preserved g c =
    let k = plain_key c.args.key.now in
    let i = c.loop-at.invariant in
    let d = c.in_ok-entries.ensures.copied in
    let at = c.loop-at.at in
    let to = at + c.min-in-loop-at.result in
    let reach = next_reaches k at c.args.version 8192 c.min-in-loop-at.result c.min-in-loop-at.ensures i.before in
    record {
      belongs = c.in_ok-entries.ensures.pass;
      read = only_read_run k c.args.pass.now c.loop-at.pass c.entries_between.new.pass d d.ran.0.1 d.ran.1 i.read;
      part = part_of_next k c.loop-at.pass c.entries_between.new.pass c.args.version at to (option_map value_of c.loop-at.snapshot) (option_map value_of c.in_ok-snapshot-2.snapshot) c.in_ok-entries.entries.items d i.part reach.0 reach.1 c.in_ok-snapshot-2.ensures.ok;
      before = reach.1;
    }
