use Rattle.std.proofs.Common.{List, ℕ, ap, sym, ◌∙◌, subst}
use Rattle.std.specs.List.{concat}
use Rattle.sdb_chunks.specs.Chunk.{items_of, is_chunk_unique}
use Rattle.sdb_rope.specs.Utf16.{insert_text}
use Rattle.sdb_rope.specs.EditOutcome.{EditOutcome}
use Rattle.sdb_rope.specs.RopeChunk.{chunk_list_texts}
use Rattle.sdb_rope.specs.ChunkModel.{chunk_texts, all_rope_chunks_unique}
use Rattle.sdb_rope.specs.Position.{AreBounded}
use Rattle.sdb_rope.proofs.ChunkListLemmas.{same_seen, unique_all, all_unique_is}
use Rattle.sdb_rope.proofs.ChunkLemmas.{on_err, both_true}
use Rattle.sdb_rope.proofs.chunk_list.insert_into_chunks.Goals as goal

pub returns-in_err-make_unique-clause-err : goal.returns-in_err-make_unique-clause-err
returns-in_err-make_unique-clause-err c = on_err c.from_residual.result (ap concat (same_seen (items_of c.make_unique.new.self) (items_of c.args.chunk_list.now) c.make_unique.ensures.unchanged).0)

pub returns-in_err-done-in-Unique-clause-err : goal.returns-in_err-done-in-Unique-clause-err
returns-in_err-done-in-Unique-clause-err c =
    let s = same_seen (items_of c.make_unique.new.self) (items_of c.args.chunk_list.now) c.make_unique.ensures.unchanged in
    on_err c.from_residual-in_err-done-in-Unique.result (c.in_err-done-in-Unique.ensures.err ∙ ap concat (sym (ap chunk_texts c.in-Unique.is) ∙ s.0))

pub returns-in_err-done-in-Unique-clause-unique : goal.returns-in_err-done-in-Unique-clause-unique
returns-in_err-done-in-Unique-clause-unique c =
    let s = same_seen (items_of c.make_unique.new.self) (items_of c.args.chunk_list.now) c.make_unique.ensures.unchanged in
    λ own. all_unique_is c.insert.new.chunks.items (c.insert.ensures.unique (unique_all c.in-Unique.chunks.items (sym (ap (λ b. all_rope_chunks_unique (items_of b)) c.in-Unique.is) ∙ s.1 ∙ both_true (is_chunk_unique c.args.chunk_list.now) (all_rope_chunks_unique (items_of c.args.chunk_list.now)) own)))

pub returns-clause-ok : goal.returns-clause-ok
returns-clause-ok c =
    let s = same_seen (items_of c.make_unique.new.self) (items_of c.args.chunk_list.now) c.make_unique.ensures.unchanged in
    subst (λ (x : List (List ℕ)). EditOutcome c.in_ok-done-in-Unique.done (insert_text c.args.offset c.args.new.now (concat x)) (concat x) (concat (chunk_list_texts c.insert.new.chunks.items)))
    (sym (ap chunk_texts c.in-Unique.is) ∙ s.0) c.in_ok-done-in-Unique.ensures.ok

pub returns-clause-unique : goal.returns-clause-unique
returns-clause-unique c =
    let s = same_seen (items_of c.make_unique.new.self) (items_of c.args.chunk_list.now) c.make_unique.ensures.unchanged in
    λ own. all_unique_is c.insert.new.chunks.items (c.insert.ensures.unique (unique_all c.in-Unique.chunks.items (sym (ap (λ b. all_rope_chunks_unique (items_of b)) c.in-Unique.is) ∙ s.1 ∙ both_true (is_chunk_unique c.args.chunk_list.now) (all_rope_chunks_unique (items_of c.args.chunk_list.now)) own)))

pub returns-in_err-make_unique-clause-chunks_bounded : goal.returns-in_err-make_unique-clause-chunks_bounded
returns-in_err-make_unique-clause-chunks_bounded c = λ a. subst AreBounded (sym (same_seen (items_of c.make_unique.new.self) (items_of c.args.chunk_list.now) c.make_unique.ensures.unchanged).0) a

pub returns-in_err-done-in-Unique-clause-chunks_bounded : goal.returns-in_err-done-in-Unique-clause-chunks_bounded
returns-in_err-done-in-Unique-clause-chunks_bounded c =
    let s = same_seen (items_of c.make_unique.new.self) (items_of c.args.chunk_list.now) c.make_unique.ensures.unchanged in
    λ a. c.insert.ensures.chunks_bounded (subst AreBounded (sym (sym (ap chunk_texts c.in-Unique.is) ∙ s.0)) a)

pub returns-clause-chunks_bounded : goal.returns-clause-chunks_bounded
returns-clause-chunks_bounded c =
    let s = same_seen (items_of c.make_unique.new.self) (items_of c.args.chunk_list.now) c.make_unique.ensures.unchanged in
    λ a. c.insert.ensures.chunks_bounded (subst AreBounded (sym (sym (ap chunk_texts c.in-Unique.is) ∙ s.0)) a)
