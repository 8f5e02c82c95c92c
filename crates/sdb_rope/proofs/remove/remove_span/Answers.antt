use Rattle.std.proofs.Common.{Result, Ok, Err, OnErr}
use Rattle.sdb_rope.proofs.remove.remove_span.Goals as goal

on_err : {A E P : Type 0} (r : Result A E) → P → OnErr r P
on_err (Ok x) p = tt
on_err (Err e) p = p

pub returns-in_err-make_chunk_unique-2-clause-shared_on_err : goal.returns-in_err-make_chunk_unique-2-clause-shared_on_err
returns-in_err-make_chunk_unique-2-clause-shared_on_err c =
    on_err c.from_residual-in_err-make_chunk_unique-2.result (λ own. c.in_err-make_chunk_unique-2.ensures.shared_on_err (c.make_chunk_unique.ensures.unique own))

pub returns-then-span-clause-unique : goal.returns-then-span-clause-unique
returns-then-span-clause-unique c = λ own. c.remove_within_chunk.ensures.unique (c.make_chunk_unique-2.ensures.unique (c.make_chunk_unique.ensures.unique own))

pub returns-else-span-clause-unique : goal.returns-else-span-clause-unique
returns-else-span-clause-unique c = λ own. c.remove_across_chunks.ensures.unique (c.make_chunk_unique-2.ensures.unique (c.make_chunk_unique.ensures.unique own))
