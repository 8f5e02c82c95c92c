use Rattle.std.proofs.Common.{◌++◌, ◌/◌, length, ap, sym, ◌∙◌, arith}
use Rattle.sdb_chunks.specs.Chunk.{items_of}
use Rattle.sdb_chunks.specs.ChunkGroup.{group_chunks}
use Rattle.sdb_chunks.specs.ChunkedVec.{flatten_models}
use Rattle.sdb_chunks.proofs.FlattenLemmas.{joined_alike, on_err}
use Rattle.sdb_chunks.proofs.GroupLemmas.{same_number, in_halves}
use Rattle.sdb_chunks.specs.Chunks.{max_chunk_length}
use Rattle.sdb_chunks.proofs.ChunkBounds.{longest_alike, longest_first, longest_last}
use Rattle.sdb_chunks.proofs.chunk_group.ChunkGroup.split_off_half.Goals as goal

pub invariant_of-self : goal.invariant_of-self
invariant_of-self g c =
    let f = g.T.TryClone.model in
    let old = group_chunks c.args.self.now in
    let new = items_of c.split_off_half.new.chunk in
    record { count_is_sum = c.args.self.now.count_is_sum ∙ same_number f old new (sym (joined_alike f new old c.in_err-high.ensures.err)) }

pub returns-in_err-high-clause-err : goal.returns-in_err-high-clause-err
returns-in_err-high-clause-err g c =
    on_err c.from_residual.result (joined_alike g.T.TryClone.model (items_of c.split_off_half.new.chunk) (group_chunks c.args.self.now) c.in_err-high.ensures.err)

pub returns-clause-ok : goal.returns-clause-ok
returns-clause-ok g c =
    let f = g.T.TryClone.model in
    let old = group_chunks c.args.self.now in
    let low = items_of c.split_off_half.new.chunk in
    ap (λ b. flatten_models f low ++ flatten_models f (items_of b)) c.new.ensures
    ∙ in_halves f low (items_of c.in_ok-high.high) old (length old / 2) c.in_ok-high.ensures.lower_half c.in_ok-high.ensures.upper_half

pub returns-in_err-high-clause-bound : goal.returns-in_err-high-clause-bound
returns-in_err-high-clause-bound g c =
    let e = longest_alike g.T.TryClone.model (items_of c.split_off_half.new.chunk) (group_chunks c.args.self.now) c.in_err-high.ensures.err in
    omega (arith, e)

pub returns-clause-bound : goal.returns-clause-bound
returns-clause-bound g c =
    let old = group_chunks c.args.self.now in
    longest_first g.T.TryClone.model (items_of c.split_off_half.new.chunk) old (length old / 2) c.in_ok-high.ensures.lower_half

pub returns-clause-upper_bound : goal.returns-clause-upper_bound
returns-clause-upper_bound g c =
    let old = group_chunks c.args.self.now in
    let e = ap (λ b. max_chunk_length (items_of b)) c.new.ensures in
    let l = longest_last g.T.TryClone.model (items_of c.in_ok-high.high) old (length old / 2) c.in_ok-high.ensures.upper_half in
    omega (arith, e, l)
