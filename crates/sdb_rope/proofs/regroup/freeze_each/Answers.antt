use Rattle.std.proofs.Common.{◌≡◌, ◌<◌, length, map, set, ap, ◌∙◌, arith}
use Rattle.std.proofs.lemmas.List.{length-map}
use Rattle.sdb_rope.specs.ChunkModel.{chunk_texts}
use Rattle.sdb_rope.proofs.GroupLemmas.{texts_of_same, same_group_set}
use Rattle.sdb_rope.proofs.regroup.freeze_each.Goals as goal

pub returns-in_err-freeze_group : goal.returns-in_err-freeze_group
returns-in_err-freeze_group c =
    let gs = c.loop-at.groups.items in
    let start = c.args.groups.now.items in
    let lengths : length (map chunk_texts gs) ≡ length (map chunk_texts start) = ap length c.loop-at.invariant in
    let inside : c.loop-at.at < length gs = omega (arith, c.loop-at-test.true, c.len-at-end.ensures, lengths, length-map gs chunk_texts, length-map start chunk_texts) in
    texts_of_same (set gs c.loop-at.at c.freeze_group.new.group) start
    (same_group_set gs c.loop-at.at c.freeze_group.new.group c.index_mut.result.now inside c.index_mut.ensures.value c.freeze_group.ensures ∙ c.loop-at.invariant)

pub loop-at-preserved : goal.loop-at-preserved
loop-at-preserved c =
    let gs = c.loop-at.groups.items in
    let start = c.args.groups.now.items in
    let lengths : length (map chunk_texts gs) ≡ length (map chunk_texts start) = ap length c.loop-at.invariant in
    let inside : c.loop-at.at < length gs = omega (arith, c.loop-at-test.true, c.len-at-end.ensures, lengths, length-map gs chunk_texts, length-map start chunk_texts) in
    same_group_set gs c.loop-at.at c.freeze_group.new.group c.index_mut.result.now inside c.index_mut.ensures.value c.freeze_group.ensures ∙ c.loop-at.invariant

pub returns : goal.returns
returns c = texts_of_same c.loop-at.groups.items c.args.groups.now.items c.loop-at.invariant
