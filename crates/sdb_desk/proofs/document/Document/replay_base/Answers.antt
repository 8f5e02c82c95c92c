use Rattle.std.proofs.Common.{◌≡◌, ◌+◌, true, drop, take, length, min, option_map, sym, ap, ◌∙◌}
use Rattle.std.specs.Option.{is_some}
use Rattle.sdb_value.specs.View.{value_of}
use Rattle.sdb_oplog.specs.Snap.{snap}
use Rattle.sdb_desk.proofs.ReplayLemmas.{replays_from, count_up_to, reached_within, reached_from}
use Rattle.sdb_desk.proofs.document.Document.replay_base.Goals as goal

pub returns-clause-replay_base : goal.returns-clause-replay_base
returns-clause-replay_base c =
    let log = c.args.self.now.log in
    let v = c.args.version in
    let max = c.args.max in
    let w = c.in_ok-from.from in
    let lives : is_some (snap log) ≡ true = ap (λ l. is_some (snap l)) (sym c.log.ensures.log) ∙ c.len.ensures.alive in
    let after : c.entries_from.result.now ≡ drop w log =
    c.entries_from.ensures ∙ ap (drop w) (c.log-2.ensures.log ∙ c.nearest.ensures.log) in
    record {
      within = c.requires;
      before = c.in_ok-from.ensures.bound;
      base = replays_from log (min (w + max) v) w (option_map value_of c.in_ok-from.snapshot) c.in_ok-entries.entries.items lives
          (reached_within w max v (length log) c.requires) (reached_from w max v c.in_ok-from.ensures.bound)
          c.in_ok-from.ensures.snap (c.in_ok-entries.ensures.copies ∙ ap (take c.min-count.result) after ∙ ap (λ n. take n (drop w log)) (c.min-count.ensures ∙ count_up_to w max v c.in_ok-from.ensures.bound));
    }
