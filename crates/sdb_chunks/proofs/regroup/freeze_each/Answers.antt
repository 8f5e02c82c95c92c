use Rattle.std.proofs.Common.{◌≡◌, ◌<◌, length, length-set, get_or, ap, ◌∙◌, arith}
use Rattle.sdb_chunks.specs.ChunkGroup.{group_models, group_chunks}
use Rattle.sdb_chunks.specs.ChunkedVec.{flatten_models}
use Rattle.sdb_chunks.proofs.FlattenLemmas.{joined_same}
use Rattle.sdb_chunks.specs.Chunks.{max_chunk_length}
use Rattle.sdb_chunks.proofs.regroup.freeze_each.Goals as goal

pub returns-in_err-freeze-clause-unchanged : goal.returns-in_err-freeze-clause-unchanged
returns-in_err-freeze-clause-unchanged g c =
    let f = g.T.TryClone.model in
    let s = group_models f in
    let gs = c.loop-at.groups.items in
    let k = c.loop-at.at in
    let d = c.index_mut.result.now in
    let was : d ≡ get_or gs k d = c.index_mut.ensures.value in
    let h : k < length gs = omega (arith, c.loop-at-test.true, c.loop-at.invariant.many) in
    let same = joined_same s gs k c.freeze.new.self d h (ap (flatten_models f) c.freeze.ensures ∙ ap s was) in
    same ∙ c.loop-at.invariant.same

pub loop-at-preserved : goal.loop-at-preserved
loop-at-preserved g c =
    let f = g.T.TryClone.model in
    let s = group_models f in
    let gs = c.loop-at.groups.items in
    let k = c.loop-at.at in
    let d = c.index_mut.result.now in
    let was : d ≡ get_or gs k d = c.index_mut.ensures.value in
    let h : k < length gs = omega (arith, c.loop-at-test.true, c.loop-at.invariant.many) in
    let same = joined_same s gs k c.freeze.new.self d h (ap (flatten_models f) c.freeze.ensures ∙ ap s was) in
    record {
      same = same ∙ c.loop-at.invariant.same;
      short = ap max_chunk_length (joined_same group_chunks gs k c.freeze.new.self d h (c.freeze.ensures ∙ ap group_chunks was)) ∙ c.loop-at.invariant.short;
      many = length-set gs k c.freeze.new.self ∙ c.loop-at.invariant.many;
    }

pub returns-in_err-freeze-clause-bound : goal.returns-in_err-freeze-clause-bound
returns-in_err-freeze-clause-bound g c =
    let gs = c.loop-at.groups.items in
    let k = c.loop-at.at in
    let d = c.index_mut.result.now in
    let was : d ≡ get_or gs k d = c.index_mut.ensures.value in
    let h : k < length gs = omega (arith, c.loop-at-test.true, c.loop-at.invariant.many) in
    ap max_chunk_length (joined_same group_chunks gs k c.freeze.new.self d h (c.freeze.ensures ∙ ap group_chunks was)) ∙ c.loop-at.invariant.short
