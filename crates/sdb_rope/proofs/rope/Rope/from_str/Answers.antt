use Rattle.sdb_rope.proofs.ChunkListLemmas.{all_unique_is}
use Rattle.sdb_rope.proofs.rope.Rope.from_str.Goals as goal

pub returns-then-text-gt-MAX_CHUNK_LEN-clause-unique : goal.returns-then-text-gt-MAX_CHUNK_LEN-clause-unique
returns-then-text-gt-MAX_CHUNK_LEN-clause-unique c = all_unique_is c.in_ok-chunks.chunks.items c.in_ok-chunks.ensures.unique
