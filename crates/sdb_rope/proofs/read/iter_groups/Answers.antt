use Rattle.std.proofs.Common.{ap, ◌∙◌}
use Rattle.sdb_rope.specs.GroupModel.{texts_of_groups}
use Rattle.sdb_rope.specs.RopeChunk.{chunk_list_texts}
use Rattle.sdb_rope.proofs.GroupLemmas.{texts_flat}
use Rattle.sdb_rope.proofs.read.iter_groups.Goals as goal

pub returns : goal.returns
returns c = ap chunk_list_texts c.new.ensures ∙ texts_flat c.items.result.now ∙ ap texts_of_groups c.items.ensures
