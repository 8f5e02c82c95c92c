use Rattle.std.proofs.Common.{refl, ap, ◌∙◌, arith}
use Rattle.sdb_chunks.specs.ChunkedVec.{all_unique}
use Rattle.sdb_chunks.specs.declared.chunk.Chunk.TheVariants.{Unique}
use Rattle.sdb_chunks.proofs.FlattenLemmas.{unique_more, unique_reverse, cut_off}
use Rattle.sdb_chunks.specs.Chunks.{max_chunk_length}
use Rattle.sdb_chunks.proofs.ChunkBounds.{longest_push, longest_reverse, cut_short, no_more}
use Rattle.sdb_chunks.proofs.chunk_split.split_into_chunks.Goals as goal

pub loop-left-preserved : goal.loop-left-preserved
loop-left-preserved g c =
    let xs = c.loop-left.left.items in
    let bs = c.loop-left.chunks.items in
    record {
      whole = cut_off xs c.split_off.new.self.items bs c.push.new.self.items (Unique c.in_ok-last.last) _
          c.in_ok-last.ensures.items c.in_ok-last.ensures.tail c.in_ok-push.ensures.items ∙ c.loop-left.invariant.whole;
      own = ap all_unique c.in_ok-push.ensures.items ∙ unique_more bs (Unique c.in_ok-last.last) c.loop-left.invariant.own refl;
      short = cut_short bs c.push.new.self.items xs (Unique c.in_ok-last.last) _ c.args.most c.in_ok-push.ensures.items c.in_ok-last.ensures.tail c.loop-left.invariant.short
          (omega (arith, c.len-in-loop-left.ensures, c.loop-left-test.true));
    }

pub returns-clause-unique : goal.returns-clause-unique
returns-clause-unique g c =
    let bs = c.loop-left.chunks.items in
    ap all_unique c.reverse.ensures.items ∙ unique_reverse c.push-2.new.self.items (ap all_unique c.in_ok-push-2.ensures.items ∙ unique_more bs _ c.loop-left.invariant.own refl)

pub returns-clause-bound : goal.returns-clause-bound
returns-clause-bound g c =
    let bs = c.loop-left.chunks.items in
    let all = c.push-2.new.self.items in
    let e = ap max_chunk_length c.reverse.ensures.items in
    let r = longest_reverse all in
    let l = longest_push bs all _ c.args.most c.in_ok-push-2.ensures.items c.loop-left.invariant.short
    (no_more _ _ c.args.most c.shrink_to_fit.ensures.items (omega (arith, c.len-in-loop-left.ensures, c.loop-left-test.false))) in
    omega (arith, e, r, l)
