use Rattle.sdb_rope.proofs.ChunkListLemmas.{all_unique_is}
use Rattle.sdb_rope.proofs.rope.Rope.insert.Goals as goal

pub returns-in_ok-chunks-in-Flat-clause-unique : goal.returns-in_ok-chunks-in-Flat-clause-unique
returns-in_ok-chunks-in-Flat-clause-unique c = λ _. all_unique_is c.in_ok-chunks-in-Flat.chunks.items c.in_ok-chunks-in-Flat.ensures.unique
