use Rattle.std.proofs.Common.{◌≡◌, ◌<◌, ◌++◌, [], ℕ, List, Bool, false, eqb, length, ap, arith, length-append}
use Rattle.std.specs.List.{concat}
use Rattle.std.proofs.lemmas.Bool.Decides.{nat_tests}
use Rattle.sdb_chunks.specs.Iter.{remaining_items}
use Rattle.sdb_rope.specs.RopeChunk.{chunk_list_texts}
use Rattle.sdb_rope.proofs.compare.ChunkCursor.is_end.Goals as goal

some_first : (xs ys : List ℕ) (r : Bool) → r ≡ eqb (length xs) 0 → r ≡ false → xs ++ ys ≡ [] → ⊥
some_first xs ys r e f none =
    let some : 0 < length xs = grind (arith, nat_tests) in
    omega (arith, some, ap length none, length-append xs ys)

pub returns-then-not-is_empty-clause-no : goal.returns-then-not-is_empty-clause-no
returns-then-not-is_empty-clause-no c = λ _ e. some_first c.args.self.current.now (concat (chunk_list_texts (remaining_items c.args.self.rest))) c.is_empty.result c.is_empty.ensures c.if-not-is_empty.true e
