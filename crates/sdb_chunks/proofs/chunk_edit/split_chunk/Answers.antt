use Rattle.std.proofs.Common.{◌≡◌, ◌+◌, ◌/◌, length, take, drop, map, set, get_or, ap, ◌∙◌, refl, sym, arith}
use Rattle.std.specs.List.{insert}
use Rattle.sdb_chunks.specs.Chunk.{items_of}
use Rattle.sdb_chunks.specs.ChunkedVec.{flatten_models, all_unique, chunk_models}
use Rattle.sdb_chunks.specs.declared.chunk.Chunk.TheVariants.{Unique}
use Rattle.sdb_chunks.proofs.FlattenLemmas.{joined_split, joined_spare, unique_inserted, unique_set, get_before}
use Rattle.sdb_chunks.specs.Chunks.{max_chunk_length, chunk_length_at}
use Rattle.sdb_chunks.proofs.ChunkBounds.{same_count, halves_count, items_here, half_at, longest_at, longest_set, longest_insert, longest_halves}
use Rattle.sdb_chunks.proofs.chunk_edit.split_chunk.Goals as goal

pub returns-in_err-high-clause-unchanged : goal.returns-in_err-high-clause-unchanged
returns-in_err-high-clause-unchanged g c =
    let f = g.T.TryClone.model in
    let bs = c.args.chunks.now.items in
    let k = c.args.at in
    let e = Unique c.new.result in
    let d = c.index_mut.result.now in
    let put : c.insert.new.self.items ≡ insert bs (k + 1) e = c.in_ok-insert.ensures.items in
    let is : d ≡ get_or bs k d = c.index_mut.ensures.value ∙ ap (λ l. get_or l k d) put ∙ get_before bs k e d c.requires in
    let a = c.split_off_half.new.chunk in
    ap (λ l. flatten_models f (set l k a)) put ∙ joined_spare (chunk_models f) bs k a d e c.requires (ap (map f) c.new.ensures.items) (c.in_err-high.ensures.err ∙ ap (chunk_models f) is)

pub returns-in_err-high-clause-unique : goal.returns-in_err-high-clause-unique
returns-in_err-high-clause-unique g c =
    let f = g.T.TryClone.model in
    let bs = c.args.chunks.now.items in
    let k = c.args.at in
    let e = Unique c.new.result in
    let d = c.index_mut.result.now in
    let put : c.insert.new.self.items ≡ insert bs (k + 1) e = c.in_ok-insert.ensures.items in
    let is : d ≡ get_or bs k d = c.index_mut.ensures.value ∙ ap (λ l. get_or l k d) put ∙ get_before bs k e d c.requires in
    let a = c.split_off_half.new.chunk in
    λ all. ap (λ l. all_unique (set l k a)) put ∙ unique_inserted bs k a e d c.requires refl is c.in_err-high.ensures.unique all

pub returns-clause-unchanged : goal.returns-clause-unchanged
returns-clause-unchanged g c =
    let f = g.T.TryClone.model in
    let bs = c.args.chunks.now.items in
    let k = c.args.at in
    let e = Unique c.new.result in
    let d = c.index_mut.result.now in
    let put : c.insert.new.self.items ≡ insert bs (k + 1) e = c.in_ok-insert.ensures.items in
    let is : d ≡ get_or bs k d = c.index_mut.ensures.value ∙ ap (λ l. get_or l k d) put ∙ get_before bs k e d c.requires in
    let a = c.split_off_half.new.chunk in
    let b = c.in_ok-high.high in
    let m = length (items_of d) / 2 in
    ap (λ l. flatten_models f (set (set l k a) (k + 1) b)) put
    ∙ joined_split (chunk_models f) bs k m a b d e c.requires (c.in_ok-high.ensures.lower_half ∙ ap (λ x. take m (chunk_models f x)) is) (c.in_ok-high.ensures.upper_half ∙ ap (λ x. drop m (chunk_models f x)) is)

pub returns-clause-unique : goal.returns-clause-unique
returns-clause-unique g c =
    let f = g.T.TryClone.model in
    let bs = c.args.chunks.now.items in
    let k = c.args.at in
    let e = Unique c.new.result in
    let d = c.index_mut.result.now in
    let put : c.insert.new.self.items ≡ insert bs (k + 1) e = c.in_ok-insert.ensures.items in
    let is : d ≡ get_or bs k d = c.index_mut.ensures.value ∙ ap (λ l. get_or l k d) put ∙ get_before bs k e d c.requires in
    let a = c.split_off_half.new.chunk in
    let b = c.in_ok-high.high in
    λ all. ap (λ l. all_unique (set (set l k a) (k + 1) b)) put
    ∙ unique_set (set (insert bs (k + 1) e) k a) (k + 1) b c.in_ok-high.ensures.new_unique (unique_inserted bs k a e d c.requires refl is c.in_ok-high.ensures.unique all)

pub returns-in_err-high-clause-bound : goal.returns-in_err-high-clause-bound
returns-in_err-high-clause-bound g c =
    let f = g.T.TryClone.model in
    let bs = c.args.chunks.now.items in
    let k = c.args.at in
    let e = Unique c.new.result in
    let d = c.index_mut.result.now in
    let put : c.insert.new.self.items ≡ insert bs (k + 1) e = c.in_ok-insert.ensures.items in
    let is : d ≡ get_or bs k d = c.index_mut.ensures.value ∙ ap (λ l. get_or l k d) put ∙ get_before bs k e d c.requires in
    let a = c.split_off_half.new.chunk in
    let n = max_chunk_length bs in
    let m = ap (λ l. max_chunk_length (set l k a)) put in
    let none = ap length c.new.ensures.items in
    let same = same_count f (items_of a) (items_of d) c.in_err-high.ensures.err in
    let was = ap (λ b. length (items_of b)) is in
    let w = longest_at bs k d c.requires in
    let l = longest_set (insert bs (k + 1) e) k a n (longest_insert bs (k + 1) e n (omega arith) (omega (arith, none))) (omega (arith, same, was, w)) in
    omega (arith, m, l)

pub returns-clause-bound : goal.returns-clause-bound
returns-clause-bound g c =
    let f = g.T.TryClone.model in
    let bs = c.args.chunks.now.items in
    let k = c.args.at in
    let e = Unique c.new.result in
    let d = c.index_mut.result.now in
    let put : c.insert.new.self.items ≡ insert bs (k + 1) e = c.in_ok-insert.ensures.items in
    let is : d ≡ get_or bs k d = c.index_mut.ensures.value ∙ ap (λ l. get_or l k d) put ∙ get_before bs k e d c.requires in
    let a = c.split_off_half.new.chunk in
    let b = c.in_ok-high.high in
    let n = max_chunk_length bs in
    let m = ap (λ l. max_chunk_length (set (set l k a) (k + 1) b)) put in
    let none = ap length c.new.ensures.items in
    let both = halves_count f (items_of a) (items_of b) (items_of d) c.in_ok-high.ensures.lower_half c.in_ok-high.ensures.upper_half in
    let was = ap (λ b. length (items_of b)) is in
    let w = longest_at bs k d c.requires in
    let l = longest_halves bs k a b e n (omega arith) (omega (arith, both.0, was, w)) (omega (arith, both.0, was, w)) (omega (arith, none)) in
    omega (arith, m, l)

pub returns-clause-half : goal.returns-clause-half
returns-clause-half g c =
    let f = g.T.TryClone.model in
    let bs = c.args.chunks.now.items in
    let k = c.args.at in
    let e = Unique c.new.result in
    let d = c.index_mut.result.now in
    let put : c.insert.new.self.items ≡ insert bs (k + 1) e = c.in_ok-insert.ensures.items in
    let is : d ≡ get_or bs k d = c.index_mut.ensures.value ∙ ap (λ l. get_or l k d) put ∙ get_before bs k e d c.requires in
    let a = c.split_off_half.new.chunk in
    let b = c.in_ok-high.high in
    let both = halves_count f (items_of a) (items_of b) (items_of d) c.in_ok-high.ensures.lower_half c.in_ok-high.ensures.upper_half in
    let was = ap (λ b. length (items_of b)) is in
    λ i w.
    let m = ap (λ l. chunk_length_at (set (set l k a) (k + 1) b) i) put in
    let here = items_here bs i k d c.requires (sym w) in
    let l = half_at bs i k (length (items_of b)) a b e d c.requires w (omega (arith, both.0, was)) (omega (arith, both.1)) (omega arith) in
    omega (arith, m, here, was, both.0, both.2, l)
