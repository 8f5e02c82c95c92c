use Rattle.std.proofs.Common.{ap, sym, ◌∙◌, ◌++◌, slice_get, option_map}
use Rattle.std.specs.List.{flat_map}
use Rattle.sdb_sorted_map.specs.SearchModel.{chunk_keys}
use Rattle.sdb_sorted_map.proofs.RunLemmas.{first_keys_append, first_text, no_text}
use Rattle.sdb_sorted_map.proofs.search.ChunkGroupMapEntrySortedRun.first_key.Goals as goal

pub returns-in-Some : goal.returns-in-Some
returns-in-Some g c =
    let bs = c.chunks-chunk-items.result.now in
    sym (ap (λ l. slice_get (flat_map chunk_keys l) 0) (sym c.chunks-chunk-items.ensures)
    ∙ first_text chunk_keys bs c.loop-chunk.chunk-index c.chunk-item.result c.in-Some.first.now c.loop-chunk-test.true c.chunk-item.is
    c.loop-chunk.invariant (sym c.in-Some.ensures))

pub loop-chunk-preserved : goal.loop-chunk-preserved
loop-chunk-preserved g c =
    let bs = c.chunks-chunk-items.result.now in
    let none = no_text (chunk_keys c.chunk-item.result) (sym c.first_key.ensures ∙ ap (option_map (λ t. t.now)) c.in_default.is) in
    first_keys_append chunk_keys bs c.loop-chunk.chunk-index c.chunk-item.result c.loop-chunk-test.true c.chunk-item.is
    ∙ ap (λ l. l ++ chunk_keys c.chunk-item.result) c.loop-chunk.invariant ∙ none
