use Rattle.std.proofs.Common.{ap, sym, ◌∙◌, subst}
use Rattle.std.specs.List.{concat}
use Rattle.sdb_chunks.specs.Chunk.{items_of}
use Rattle.sdb_rope.specs.GroupModel.{texts_of_groups}
use Rattle.sdb_rope.specs.Position.{AreBounded}
use Rattle.sdb_rope.specs.Utf16.{remove_text}
use Rattle.sdb_rope.proofs.ChunkLemmas.{on_err}
use Rattle.sdb_rope.proofs.GroupLemmas.{same_groups}
use Rattle.sdb_rope.proofs.group_list.remove_from_groups.Goals as goal

pub returns-in_err-make_unique-clause-err : goal.returns-in_err-make_unique-clause-err
returns-in_err-make_unique-clause-err c = on_err c.from_residual.result (ap concat (same_groups (items_of c.make_unique.new.self) (items_of c.args.groups.now) c.make_unique.ensures.unchanged))

pub returns-in_err-make_unique-clause-chunks_bounded : goal.returns-in_err-make_unique-clause-chunks_bounded
returns-in_err-make_unique-clause-chunks_bounded c = λ a. subst AreBounded (sym (same_groups (items_of c.make_unique.new.self) (items_of c.args.groups.now) c.make_unique.ensures.unchanged)) a

pub returns-in_err-done-in-Unique-clause-err : goal.returns-in_err-done-in-Unique-clause-err
returns-in_err-done-in-Unique-clause-err c =
    let here = sym (ap (λ b. texts_of_groups (items_of b)) c.in-Unique.is) ∙ same_groups (items_of c.make_unique.new.self) (items_of c.args.groups.now) c.make_unique.ensures.unchanged in
    on_err c.from_residual-in_err-done-in-Unique.result (c.in_err-done-in-Unique.ensures.err ∙ ap concat here)

pub returns-in_err-done-in-Unique-clause-chunks_bounded : goal.returns-in_err-done-in-Unique-clause-chunks_bounded
returns-in_err-done-in-Unique-clause-chunks_bounded c =
    let here = sym (ap (λ b. texts_of_groups (items_of b)) c.in-Unique.is) ∙ same_groups (items_of c.make_unique.new.self) (items_of c.args.groups.now) c.make_unique.ensures.unchanged in
    λ a. c.remove_in_group_list.ensures.chunks_bounded (subst AreBounded (sym here) a)

pub returns-clause-removed : goal.returns-clause-removed
returns-clause-removed c =
    let here = sym (ap (λ b. texts_of_groups (items_of b)) c.in-Unique.is) ∙ same_groups (items_of c.make_unique.new.self) (items_of c.args.groups.now) c.make_unique.ensures.unchanged in
    λ e. ap (λ l. remove_text c.args.offset c.args.old.now (concat l)) (sym here) ∙ c.in_ok-done-in-Unique.ensures.removed e

pub returns-clause-equal : goal.returns-clause-equal
returns-clause-equal c =
    let here = sym (ap (λ b. texts_of_groups (items_of b)) c.in-Unique.is) ∙ same_groups (items_of c.make_unique.new.self) (items_of c.args.groups.now) c.make_unique.ensures.unchanged in
    λ e. c.in_ok-done-in-Unique.ensures.equal e ∙ ap concat here

pub returns-clause-chunks_bounded : goal.returns-clause-chunks_bounded
returns-clause-chunks_bounded c =
    let here = sym (ap (λ b. texts_of_groups (items_of b)) c.in-Unique.is) ∙ same_groups (items_of c.make_unique.new.self) (items_of c.args.groups.now) c.make_unique.ensures.unchanged in
    λ a. c.remove_in_group_list.ensures.chunks_bounded (subst AreBounded (sym here) a)
