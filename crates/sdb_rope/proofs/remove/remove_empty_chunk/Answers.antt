use Rattle.std.proofs.Common.{◌≡◌, [], Bool, true, List, ℕ, length, eqb, ap, sym, ◌∙◌, take, drop, suc}
use Rattle.std.specs.List.{concat}
use Rattle.std.proofs.lemmas.List.{nil_from_length}
use Rattle.std.proofs.lemmas.Bool.Decides.{Decides-eqb}
use Rattle.sdb_rope.specs.RopeChunk.{chunk_list_texts}
use Rattle.sdb_rope.specs.Position.{chunk_text}
use Rattle.sdb_rope.proofs.ChunkListLemmas.{text_at, empty_chunk_out, short_append, short_take, short_drop}
use Rattle.sdb_rope.proofs.remove.remove_empty_chunk.Goals as goal

nothing : (xs : List ℕ) (r : Bool) → r ≡ eqb (length xs) 0 → r ≡ true → xs ≡ []
nothing xs r e f = nil_from_length xs ((Decides-eqb (length xs) 0).0 (sym e ∙ f))

pub returns-then-is_empty-clause-unchanged : goal.returns-then-is_empty-clause-unchanged
returns-then-is_empty-clause-unchanged c =
    let ps = c.args.chunks.now.items in
    let empty : chunk_text (chunk_list_texts ps) c.args.at ≡ [] = text_at ps c.args.at c.index.result.now c.requires c.index.ensures ∙ sym c.as_str.ensures ∙ nothing c.as_str.result.now c.is_empty.result c.is_empty.ensures c.if-is_empty.true in
    ap (λ l. concat (chunk_list_texts l)) c.remove-removed_units.ensures.items ∙ empty_chunk_out ps c.args.at c.requires empty

pub returns-then-is_empty-clause-chunks_bounded : goal.returns-then-is_empty-clause-chunks_bounded
returns-then-is_empty-clause-chunks_bounded c =
    let ps = c.args.chunks.now.items in
    λ a. rw c.remove-removed_units.ensures.items (short_append (take c.args.at ps) (drop (suc c.args.at) ps) (short_take ps c.args.at a) (short_drop ps (suc c.args.at) a))
