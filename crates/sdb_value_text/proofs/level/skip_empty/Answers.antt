use Rattle.std.proofs.Common.{◌≡◌, [], Some, sym, ap, ◌∙◌}
use Rattle.sdb_rope.specs.Rope.{rope_texts}
use Rattle.sdb_value_text.specs.Level.{string_text}
use Rattle.sdb_value_text.proofs.TextLemmas.{chunk_text}
use Rattle.sdb_value_text.proofs.HasTextLemmas.{empty_of_test}
use Rattle.sdb_value_text.proofs.level.skip_empty.Goals as goal

pub loop-chunk-preserved : goal.loop-chunk-preserved
loop-chunk-preserved c =
    let ts = rope_texts c.args.text.now in
    let i = c.loop-chunk.at in
    let empty : c.in-Some.chunk.now ≡ [] = empty_of_test c.in-Some.chunk.now (sym c.if-not-is_empty.ensures) in
    ap (string_text ts) c.in_ok-at.ensures ∙ sym (chunk_text ts i [] (sym c.in-Some.ensures ∙ ap Some empty)) ∙ c.loop-chunk.invariant
