use Rattle.std.proofs.Common.{bytes_eq, sym, ap, ◌∙◌}
use Rattle.sdb_dump.proofs.StageLemmas.{header_is}
use Rattle.sdb_dump.proofs.checker.is_header.Goals as goal

pub returns : goal.returns
returns c = c.eq.ensures ∙ ap (bytes_eq c.args.line.now) (c.as_slice.ensures ∙ sym header_is)
