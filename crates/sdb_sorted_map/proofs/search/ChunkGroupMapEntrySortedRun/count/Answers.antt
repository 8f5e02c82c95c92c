use Rattle.std.proofs.Common.{sym, ◌∙◌}
use Rattle.sdb_chunks.specs.ChunkGroup.{group_chunks}
use Rattle.sdb_sorted_map.proofs.EditLemmas.{count_texts}
use Rattle.sdb_sorted_map.proofs.search.ChunkGroupMapEntrySortedRun.count.Goals as goal

pub returns : goal.returns
returns g c = c.len.ensures ∙ sym (count_texts (group_chunks c.args.self.now))
