use Rattle.std.proofs.Common.{arith}
use Rattle.sdb_lines.proofs.ChunkLemmas.{hold-more, on_ok-if}
use Rattle.sdb_lines.proofs.line_reader.append_partial.Goals as goal

pub returns-clause-items : goal.returns-clause-items
returns-clause-items c =
    let partial = c.args.partial.now in
    let n = c.min-taken.result in
    on_ok-if _ _ _ _ _ c.extend_from_slice.ensures.items (hold-more partial.items c.args.input.now n (omega (arith, partial.ok.0)) (omega arith))
