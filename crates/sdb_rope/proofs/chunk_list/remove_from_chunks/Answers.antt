use Rattle.std.proofs.Common.{◌≡◌, ◌++◌, List, ℕ, ap, sym, ◌∙◌, subst}
use Rattle.std.specs.List.{concat}
use Rattle.sdb_chunks.specs.Chunk.{items_of, is_chunk_unique}
use Rattle.sdb_rope.specs.RopeChunk.{chunk_list_texts}
use Rattle.sdb_rope.specs.Position.{bytes_before, bytes_after, IsBytePosition, IsByteRange, AreBounded}
use Rattle.sdb_rope.specs.ChunkModel.{chunk_texts, all_rope_chunks_unique}
use Rattle.sdb_rope.proofs.ChunkEdits.{remove_text_is}
use Rattle.sdb_rope.proofs.PositionLemmas.{concat_before_after}
use Rattle.sdb_rope.proofs.ChunkListLemmas.{same_seen, unique_all, all_unique_is, none_unique}
use Rattle.sdb_rope.proofs.ChunkLemmas.{on_err, both_true, one_false}
use Rattle.sdb_rope.proofs.chunk_list.remove_from_chunks.Goals as goal

pub returns-in_err-make_unique-clause-err : goal.returns-in_err-make_unique-clause-err
returns-in_err-make_unique-clause-err c = on_err c.from_residual.result (ap concat (same_seen (items_of c.make_unique.new.self) (items_of c.args.chunk_list.now) c.make_unique.ensures.unchanged).0)

pub remove_span-requires : goal.remove_span-requires
remove_span-requires c =
    let s = same_seen (items_of c.make_unique.new.self) (items_of c.args.chunk_list.now) c.make_unique.ensures.unchanged in
    let span = c.in-Some.span in
    subst (λ (x : List (List ℕ)). IsByteRange x span.first span.from span.last span.to) (ap chunk_list_texts c.items-2.ensures ∙ sym (sym (ap chunk_texts c.in-Unique.is) ∙ s.0)) c.in-Some.ensures.range

pub returns-in_err-remove_span-in-Unique-clause-err : goal.returns-in_err-remove_span-in-Unique-clause-err
returns-in_err-remove_span-in-Unique-clause-err c =
    let s = same_seen (items_of c.make_unique.new.self) (items_of c.args.chunk_list.now) c.make_unique.ensures.unchanged in
    on_err c.from_residual-in_err-remove_span-in-Unique.result (c.in_err-remove_span-in-Unique.ensures.err ∙ ap concat (sym (ap chunk_texts c.in-Unique.is) ∙ s.0))

pub returns-in_err-remove_span-in-Unique-clause-unique : goal.returns-in_err-remove_span-in-Unique-clause-unique
returns-in_err-remove_span-in-Unique-clause-unique c =
    let s = same_seen (items_of c.make_unique.new.self) (items_of c.args.chunk_list.now) c.make_unique.ensures.unchanged in
    λ own. all_unique_is c.remove_span.new.chunks.items (c.remove_span.ensures.unique (unique_all c.in-Unique.chunks.items (sym (ap (λ b. all_rope_chunks_unique (items_of b)) c.in-Unique.is) ∙ s.1 ∙ both_true (is_chunk_unique c.args.chunk_list.now) (all_rope_chunks_unique (items_of c.args.chunk_list.now)) own)))

pub returns-in_err-remove_span-in-Unique-clause-shared_on_err : goal.returns-in_err-remove_span-in-Unique-clause-shared_on_err
returns-in_err-remove_span-in-Unique-clause-shared_on_err c =
    let s = same_seen (items_of c.make_unique.new.self) (items_of c.args.chunk_list.now) c.make_unique.ensures.unchanged in
    on_err c.from_residual-in_err-remove_span-in-Unique.result (one_false (is_chunk_unique c.args.chunk_list.now) (all_rope_chunks_unique (items_of c.args.chunk_list.now))
    (sym s.1 ∙ ap (λ b. all_rope_chunks_unique (items_of b)) c.in-Unique.is ∙ none_unique c.in-Unique.chunks.items c.in_err-remove_span-in-Unique.ensures.shared_on_err))

pub returns-clause-ok : goal.returns-clause-ok
returns-clause-ok c =
    let s = same_seen (items_of c.make_unique.new.self) (items_of c.args.chunk_list.now) c.make_unique.ensures.unchanged in
    let span = c.in-Some.span in
    let ts = chunk_texts c.args.chunk_list.now in
    let here : chunk_list_texts c.items-2.result.now ≡ ts = ap chunk_list_texts c.items-2.ensures in
    let cut = subst (λ (x : List (List ℕ)). IsBytePosition x c.args.offset span.first span.from) here c.in-Some.ensures.position in
    let text = subst (λ (x : List (List ℕ)). bytes_after x span.first span.from ≡ c.args.old.now ++ bytes_after x span.last span.to) here c.in-Some.ensures.text in
    remove_text_is (concat ts) (bytes_before ts span.first span.from) (bytes_after ts span.first span.from) c.args.old.now (bytes_after ts span.last span.to) _ c.args.offset
    (concat_before_after ts span.first span.from cut.index_in_range) cut.offset_is_length_before text
    (c.in_ok-remove_span-in-Unique.ensures.ok ∙ ap (λ x. bytes_before x span.first span.from ++ bytes_after x span.last span.to) (sym (ap chunk_texts c.in-Unique.is) ∙ s.0))

pub returns-clause-unique : goal.returns-clause-unique
returns-clause-unique c =
    let s = same_seen (items_of c.make_unique.new.self) (items_of c.args.chunk_list.now) c.make_unique.ensures.unchanged in
    λ own. all_unique_is c.remove_span.new.chunks.items (c.remove_span.ensures.unique (unique_all c.in-Unique.chunks.items (sym (ap (λ b. all_rope_chunks_unique (items_of b)) c.in-Unique.is) ∙ s.1 ∙ both_true (is_chunk_unique c.args.chunk_list.now) (all_rope_chunks_unique (items_of c.args.chunk_list.now)) own)))

pub returns-in_err-make_unique-clause-chunks_bounded : goal.returns-in_err-make_unique-clause-chunks_bounded
returns-in_err-make_unique-clause-chunks_bounded c = λ a. subst AreBounded (sym (same_seen (items_of c.make_unique.new.self) (items_of c.args.chunk_list.now) c.make_unique.ensures.unchanged).0) a

pub returns-in_err-remove_span-in-Unique-clause-chunks_bounded : goal.returns-in_err-remove_span-in-Unique-clause-chunks_bounded
returns-in_err-remove_span-in-Unique-clause-chunks_bounded c =
    let s = same_seen (items_of c.make_unique.new.self) (items_of c.args.chunk_list.now) c.make_unique.ensures.unchanged in
    λ a. c.remove_span.ensures.chunks_bounded (subst AreBounded (sym (sym (ap chunk_texts c.in-Unique.is) ∙ s.0)) a)

pub returns-clause-chunks_bounded : goal.returns-clause-chunks_bounded
returns-clause-chunks_bounded c =
    let s = same_seen (items_of c.make_unique.new.self) (items_of c.args.chunk_list.now) c.make_unique.ensures.unchanged in
    λ a. c.remove_span.ensures.chunks_bounded (subst AreBounded (sym (sym (ap chunk_texts c.in-Unique.is) ∙ s.0)) a)
