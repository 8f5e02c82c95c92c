use Rattle.std.specs.List.{concat}
use Rattle.sdb_rope.specs.RopeChunk.{chunk_list_texts}
use Rattle.sdb_rope.specs.Position.{bytes_before, bytes_after}
use Rattle.sdb_rope.proofs.ChunkEdits.{not_removed}
use Rattle.sdb_rope.proofs.PositionLemmas.{concat_before_after, end_boundary}
use Rattle.sdb_rope.proofs.ChunkListLemmas.{chunks_utf8}
use Rattle.sdb_rope.proofs.position.find_span.Goals as goal

pub returns-in_default-end_position-clause-none : goal.returns-in_default-end_position-clause-none
returns-in_default-end_position-clause-none c =
    let ts = chunk_list_texts c.args.chunks.now in
    let cut = c.in-Some.ensures.some in
    not_removed (concat ts) (bytes_before ts c.in-Some.first c.in-Some.from) (bytes_after ts c.in-Some.first c.in-Some.from) c.args.old.now c.args.offset (concat_before_after ts c.in-Some.first c.in-Some.from cut.index_in_range) cut.offset_is_length_before c.in_default-end_position.ensures.none

pub returns-clause-range : goal.returns-clause-range
returns-clause-range c =
    let ts = chunk_list_texts c.args.chunks.now in
    let cut = c.in-Some.ensures.some in
    let end = c.in-Some-end_position.ensures.some in
    record {
      chunks_ordered = end.chunks_ordered;
      index_in_range = end.index_in_range;
      start_at_boundary = cut.at_char_boundary;
      end_at_boundary = end_boundary ts c.args.old.now c.in-Some.first c.in-Some.from c.in-Some-end_position.last c.in-Some-end_position.to (chunks_utf8 c.args.chunks.now) c.utf8.old cut.at_char_boundary end;
      bytes_ordered = end.bytes_ordered;
    }
