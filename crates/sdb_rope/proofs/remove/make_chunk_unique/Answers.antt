use Rattle.std.proofs.Common.{sym, ◌∙◌, subst}
use Rattle.sdb_rope.specs.Position.{AreBounded}
use Rattle.sdb_rope.proofs.ChunkListLemmas.{text_at, same_set}
use Rattle.sdb_rope.proofs.remove.make_chunk_unique.Goals as goal

pub returns-in_err-done-clause-unchanged : goal.returns-in_err-done-clause-unchanged
returns-in_err-done-clause-unchanged c =
    let ps = c.args.chunks.now.items in
    same_set ps c.args.at c.make_unique.new.self (c.make_unique.ensures.unchanged ∙ sym (text_at ps c.args.at c.index_mut.result.now c.requires c.index_mut.ensures.value))

pub returns-clause-unchanged : goal.returns-clause-unchanged
returns-clause-unchanged c =
    let ps = c.args.chunks.now.items in
    same_set ps c.args.at c.make_unique.new.self (c.make_unique.ensures.unchanged ∙ sym (text_at ps c.args.at c.index_mut.result.now c.requires c.index_mut.ensures.value))

pub returns-in_err-done-clause-chunks_bounded : goal.returns-in_err-done-clause-chunks_bounded
returns-in_err-done-clause-chunks_bounded c =
    let ps = c.args.chunks.now.items in
    λ a. subst AreBounded (sym (same_set ps c.args.at c.make_unique.new.self (c.make_unique.ensures.unchanged ∙ sym (text_at ps c.args.at c.index_mut.result.now c.requires c.index_mut.ensures.value)))) a

pub returns-clause-chunks_bounded : goal.returns-clause-chunks_bounded
returns-clause-chunks_bounded c =
    let ps = c.args.chunks.now.items in
    λ a. subst AreBounded (sym (same_set ps c.args.at c.make_unique.new.self (c.make_unique.ensures.unchanged ∙ sym (text_at ps c.args.at c.index_mut.result.now c.requires c.index_mut.ensures.value)))) a
