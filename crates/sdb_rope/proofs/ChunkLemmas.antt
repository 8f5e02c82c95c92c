-- Chunks in a list that is unique or shared.
use Rattle.std.proofs.Common.{◌≡◌, Bool, true, false, ◌&&◌, List, ℕ, map, Result, Ok, Err, OnErr, refl, ap, ◌∙◌}
use Rattle.std.specs.List.{concat}
use Rattle.sdb_chunks.specs.Chunk.{items_of, is_chunk_unique}
use Rattle.sdb_chunks.specs.declared.chunk.Chunk.{Chunk}
use Rattle.sdb_rope.specs.ChunkModel.{chunk_texts, is_unique_chunk, all_rope_chunks_unique}
use Rattle.sdb_rope.specs.declared.rope_chunk.RopeChunk.{RopeChunk}
use Rattle.sdb_rope.proofs.ChunkListLemmas.{seen_of, same_seen}

pub on_err : {A E P : Type 0} (r : Result A E) → P → OnErr r P
on_err (Ok x) p = tt
on_err (Err e) p = p

pub both_true : (a b : Bool) → (a && b) ≡ true → b ≡ true
both_true true b e = e
both_true false b e = cc

pub one_false : (a b : Bool) → b ≡ false → (a && b) ≡ false
one_false true b e = e
one_false false b e = refl

pub same_chunk : (b d : Chunk RopeChunk) → ◌≡◌ {A = List (List ℕ × Bool) × Bool} (map seen_of (items_of b), is_chunk_unique b) (map seen_of (items_of d), is_chunk_unique d)
    → ◌≡◌ {A = List ℕ × Bool} (concat (chunk_texts b), is_unique_chunk b) (concat (chunk_texts d), is_unique_chunk d)
same_chunk b d e =
    let s = same_seen (items_of b) (items_of d) (ap (λ x. x.0) e) in
    let o : is_chunk_unique b ≡ is_chunk_unique d = ap (λ x. x.1) e in
    let w : is_unique_chunk b ≡ is_unique_chunk d = ap (λ x. x && all_rope_chunks_unique (items_of b)) o ∙ ap (λ x. is_chunk_unique d && x) s.1 in
    let f : List (List ℕ) → List ℕ × Bool = λ x. (concat x, is_unique_chunk b) in
    let g : Bool → List ℕ × Bool = λ x. (concat (chunk_texts d), x) in
    ap f s.0 ∙ ap g w
