use Rattle.std.proofs.Common.{[], sym, ◌∙◌}
use Rattle.std.proofs.lemmas.List.{append-nil}
use Rattle.sdb_rope.proofs.compare.chunks_equal_str.Goals as goal

pub returns-else-advance-clause-on_false : goal.returns-else-advance-clause-on_false
returns-else-advance-clause-on_false c = λ f e. c.advance.ensures.no f [] (c.new-left.ensures ∙ e ∙ sym (append-nil c.args.text.now))
