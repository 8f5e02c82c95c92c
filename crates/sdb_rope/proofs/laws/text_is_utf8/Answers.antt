use Rattle.std.proofs.Common.{[]}
use Rattle.std.specs.List.{concat}
use Rattle.std.specs.Str.{IsUtf8}
use Rattle.std.proofs.lemmas.Str.{IsUtf8-append, IsUtf8-nil}
use Rattle.sdb_chunks.specs.Chunk.{items_of}
use Rattle.sdb_rope.specs.SharedStr.{str_bytes}
use Rattle.sdb_rope.specs.ChunkModel.{chunk_texts}
use Rattle.sdb_rope.specs.Rope.{repr_texts}
use Rattle.sdb_rope.specs.declared.rope.RopeRepr.{RopeRepr}
use Rattle.sdb_rope.specs.declared.rope.RopeRepr.TheVariants.{Flat, Chunks, Groups}
use Rattle.sdb_rope.proofs.GroupLemmas.{group_utf8}
use Rattle.sdb_rope.proofs.PositionLemmas.{concat_utf8}
use Rattle.sdb_rope.proofs.ChunkListLemmas.{chars_utf8, chunks_utf8}
use Rattle.sdb_rope.proofs.laws.text_is_utf8.Goals as goal

repr_utf8 : (f : RopeRepr) → IsUtf8 (concat (repr_texts f))
repr_utf8 (Flat c) = IsUtf8-append (str_bytes c) [] (chars_utf8 c) IsUtf8-nil
repr_utf8 (Chunks b) = concat_utf8 (chunk_texts b) (chunks_utf8 (items_of b))
repr_utf8 (Groups b) = group_utf8 (items_of b)

pub returns : goal.returns
returns c = repr_utf8 c.args._text.now.repr
