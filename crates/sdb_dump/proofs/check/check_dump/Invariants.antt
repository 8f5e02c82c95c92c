use Rattle.std.proofs.Common.{◌≡◌, ◌+◌, ◌-◌, ◌*◌, ◌^◌, ◌≤◌, length, min}
use Rattle.sdb_dump.proofs.CheckProgress.{CheckRun}
use Rattle.sdb_dump.proofs.check.check_dump.Given as goal

abbrev pub invariant-loop-turn : goal.invariant-loop-turn
invariant-loop-turn g l = record {
  room : length l.buffer ≡ 65536;
  few : l.checker.entries ≤ 65536 * l._turn;
  calls : min (g.R.Source.calls l.fn.reader + l._turn) (2 ^ 64 - 1) ≤ g.R.Source.calls l.reader;
  at_most : g.R.Source.calls l.reader ≤ g.R.Source.calls l.fn.reader + l._turn;
  reads : g.R.Source.failures l.reader ≡ g.R.Source.failures l.fn.reader;
  went : CheckRun (g.R.Source.remaining_input l.fn.reader) (g.R.Source.remaining_input l.reader) l.checker l.partial.items;
}
