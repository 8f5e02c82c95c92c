use Rattle.std.proofs.Common.{◌≡◌, ◌+◌, ◌-◌, ◌<◌, suc, length, sym, ◌∙◌, arith}
use Rattle.std.specs.List.{concat}
use Rattle.sdb_rope.specs.Utf16.{units}
use Rattle.sdb_rope.specs.RopeChunk.{chunk_list_texts}
use Rattle.sdb_rope.proofs.ChunkEdits.{after_end}
use Rattle.sdb_rope.proofs.PositionLemmas.{cut_chunk, cut_none, cut_last}
use Rattle.sdb_rope.proofs.ChunkListLemmas.{length_of_texts, text_at}
use Rattle.sdb_rope.proofs.position.byte_position.Goals as goal

pub returns-then-left-ne0-clause-none : goal.returns-then-left-ne0-clause-none
returns-then-left-ne0-clause-none c = after_end (concat (chunk_list_texts c.args.chunks.now)) c.args.offset c.in-Err.left c.in-Err.ensures.err c.if-left-ne0.true

pub returns-in-Some-clause-some : goal.returns-in-Some-clause-some
returns-in-Some-clause-some c =
    let ps = c.args.chunks.now in
    let at : c.in-Ok.at < length ps = omega (arith, c.in-Ok.ensures.ok.index_in_range, length_of_texts ps) in
    cut_chunk (chunk_list_texts ps) c.as_str.result.now c.args.offset c.in-Ok.at c.in-Ok.left c.in-Some.byte c.in-Ok.ensures.ok (c.as_str.ensures ∙ sym (text_at ps c.in-Ok.at c.index-chunks-at.result at c.index-chunks-at.is)) c.in-Some.ensures.position

pub returns-in-None-clause-none : goal.returns-in-None-clause-none
returns-in-None-clause-none c =
    let ps = c.args.chunks.now in
    let at : c.in-Ok.at < length ps = omega (arith, c.in-Ok.ensures.ok.index_in_range, length_of_texts ps) in
    cut_none (chunk_list_texts ps) c.as_str.result.now c.args.offset c.in-Ok.at c.in-Ok.left c.in-Ok.ensures.ok (c.as_str.ensures ∙ sym (text_at ps c.in-Ok.at c.index-chunks-at.result at c.index-chunks-at.is)) c.in-None.ensures.position

pub returns-else-left-ne0-clause-some : goal.returns-else-left-ne0-clause-some
returns-else-left-ne0-clause-some c =
    let ps = c.args.chunks.now in
    let last : length ps - 1 < length ps = omega (arith, c.requires) in
    let next : suc (length ps - 1) ≡ length (chunk_list_texts ps) = omega (arith, c.requires, length_of_texts ps) in
    let sum : units (concat (chunk_list_texts ps)) + 0 ≡ c.args.offset = omega (arith, c.in-Err.ensures.err, c.if-left-ne0.false) in
    cut_last (chunk_list_texts ps) c.as_str-in-Err.result.now c.args.offset (length ps - 1) next (c.as_str-in-Err.ensures ∙ sym (text_at ps (length ps - 1) c.index-chunks-last.result last c.index-chunks-last.is)) sum
