use Rattle.std.proofs.Common.{List, ℕ, Bool, false, ap, sym, ◌∙◌}
use Rattle.std.specs.List.{concat}
use Rattle.sdb_rope.specs.declared.rope.RopeRepr.{RopeRepr}
use Rattle.sdb_rope.specs.Rope.{repr_texts, is_unique_rope_repr}
use Rattle.sdb_chunks.specs.Chunk.{items_of}
use Rattle.sdb_rope.proofs.ChunkLemmas.{same_chunk}
use Rattle.sdb_rope.proofs.GroupLemmas.{same_groups}
use Rattle.sdb_rope.proofs.rope.RopeTryClone.try_clone.Goals as goal

pub returns-in_ok-copy-in-Chunks : goal.returns-in_ok-copy-in-Chunks
returns-in_ok-copy-in-Chunks c =
    let seen : RopeRepr → List ℕ × Bool = λ f. (concat (repr_texts f), is_unique_rope_repr f) in
    same_chunk c.in_ok-copy-in-Chunks.copy c.in-Chunks.chunks c.in_ok-copy-in-Chunks.ensures ∙ ap seen (sym c.in-Chunks.is)

pub returns-in_ok-copy-in-Groups : goal.returns-in_ok-copy-in-Groups
returns-in_ok-copy-in-Groups c =
    let seen : RopeRepr → List ℕ × Bool = λ f. (concat (repr_texts f), is_unique_rope_repr f) in
    let bytes : List (List ℕ) → List ℕ × Bool = λ x. (concat x, false) in
    ap bytes (same_groups (items_of c.in_ok-copy-in-Groups.copy) (items_of c.in-Groups.groups) (ap (λ x. x.0) c.in_ok-copy-in-Groups.ensures)) ∙ ap seen (sym c.in-Groups.is)
