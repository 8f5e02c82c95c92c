use Rattle.std.proofs.Common.{◌∙◌, ap, ◌++◌}
use Rattle.sdb_transform.proofs.StackLemmas.{top_pieces}
use Rattle.sdb_transform.specs.CrossStack.{from_top}
use Rattle.sdb_transform.proofs.cross_stack.push_split.Goals as goal

pub returns-clause-ok : goal.returns-clause-ok
returns-clause-ok c =
    ap from_top c.in_ok-append.ensures.items ∙ ap (λ q. from_top (c.args.waiting.now.items ++ q)) c.reverse.ensures.items ∙ top_pieces c.args.pieces.items c.args.waiting.now.items
