use Rattle.std.proofs.Common.{List, ap, sym, ◌∙◌, subst}
use Rattle.std.specs.List.{concat}
use Rattle.sdb_rope.specs.Utf16.{insert_text}
use Rattle.sdb_rope.specs.RopeChunk.{chunk_list_texts}
use Rattle.sdb_rope.specs.Position.{bytes_before, bytes_after, IsBytePosition}
use Rattle.sdb_rope.specs.declared.rope_chunk.RopeChunk.{RopeChunk}
use Rattle.sdb_rope.proofs.ChunkEdits.{insert_text_is}
use Rattle.sdb_rope.proofs.PositionLemmas.{concat_before_after}
use Rattle.sdb_rope.proofs.insert.insert.Goals as goal

pub returns-clause-ok : goal.returns-clause-ok
returns-clause-ok c =
    let ts = chunk_list_texts c.ensure_chunk.new.chunks.items in
    let at = c.in-Some.at in
    let byte = c.in-Some.byte in
    let cut = subst (λ (l : List RopeChunk). IsBytePosition (chunk_list_texts l) c.args.offset at byte) c.deref.ensures.value c.in-Some.ensures.some in
    ap (insert_text c.args.offset c.args.new.now) (sym c.in_ok-ensure_chunk.ensures.unchanged)
    ∙ insert_text_is (concat ts) (bytes_before ts at byte) (bytes_after ts at byte) c.args.new.now _ c.args.offset (concat_before_after ts at byte cut.index_in_range) cut.offset_is_length_before c.in_ok-insert_in_chunk.ensures.ok
