use Rattle.std.proofs.Common.{◌≡◌, ◌++◌, sym, ap, ◌∙◌}
use Rattle.std.specs.List.{concat}
use Rattle.std.proofs.lemmas.List.{append_cancel_left}
use Rattle.sdb_chunks.specs.Iter.{remaining_items}
use Rattle.sdb_rope.specs.Cursor.{remaining_bytes}
use Rattle.sdb_rope.specs.RopeChunk.{chunk_list_texts}
use Rattle.sdb_rope.proofs.compare.chunks_equal.Goals as goal

pub loop-other-preserved : goal.loop-other-preserved
loop-other-preserved c =
    let other = c.as_str.result.now in
    let behind = concat (chunk_list_texts (remaining_items c.next.new.self)) in
    let taken : remaining_bytes c.loop-other.left ≡ other ++ remaining_bytes c.advance.new.self = c.advance.ensures.yes c.if-not-advance.false in
    let others : concat (chunk_list_texts (remaining_items c.loop-other.other-iterator)) ≡ other ++ behind = ap (λ l. concat (chunk_list_texts l)) c.in-Some.ensures.steps ∙ ap (λ l. l ++ behind) (sym c.as_str.ensures) in
    record {
      same = λ e. c.loop-other.invariant.same (taken ∙ ap (λ l. other ++ l) e ∙ sym others);
      other = λ e. append_cancel_left other (remaining_bytes c.advance.new.self) behind (sym taken ∙ c.loop-other.invariant.other e ∙ others);
    }
