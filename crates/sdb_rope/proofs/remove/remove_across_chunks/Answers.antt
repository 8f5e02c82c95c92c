use Rattle.std.proofs.Common.{◌≡◌, ◌≢◌, ◌<◌, ◌+◌, ◌++◌, ℕ, List, All, length, get_or, take, drop, set, ap, sym, ◌∙◌, arith, add-one, [], ◌≤◌, length-take, length-drop}
use Rattle.std.specs.List.{concat, remove_range}
use Rattle.std.proofs.lemmas.List.{drop_all, append-nil, get_or-set_other}
use Rattle.std.proofs.lemmas.List.Elements.{All-append, All-take, All-drop, All-set}
use Rattle.sdb_rope.specs.RopeChunk.{IsUniqueChunk, chunk_bytes, chunk_list_texts}
use Rattle.sdb_rope.specs.Position.{chunk_text, AreBounded}
use Rattle.sdb_rope.specs.declared.rope_chunk.RopeChunk.{RopeChunk}
use Rattle.sdb_rope.proofs.ChunkListLemmas.{length_of_texts, text_at, cut_chunks_out, short_append, short_take, short_drop, short_set}
use Rattle.sdb_rope.proofs.remove.remove_across_chunks.Goals as goal

front : (q : List ℕ) (i n : ℕ) → n ≡ length q → remove_range q i n ≡ take i q
front q i n e = ap (λ l. take i q ++ l) (drop_all n q (omega (arith, e))) ∙ append-nil (take i q)

-- the later chunk, read after a change of the earlier one
read_later : (ps : List RopeChunk) (p q : RopeChunk) (k m : ℕ) → k < m → m < length ps → q ≡ get_or (set ps k p) m q → chunk_text (chunk_list_texts ps) m ≡ chunk_bytes q
read_later ps p q k m h l e = let apart : m ≢ k = omega (arith, h) in text_at ps m q l (e ∙ get_or-set_other ps k m p q apart)

pub returns-clause-bytes : goal.returns-clause-bytes
returns-clause-bytes c =
    let ps = c.args.chunks.now.items in
    let k = c.args.span.first in
    let m = c.args.span.last in
    let last : m < length ps = omega (arith, c.requires.range.index_in_range, length_of_texts ps) in
    let first : k < length ps = omega (arith, last, c.requires.distinct_chunks) in
    let a : chunk_bytes c.remove.new.self ≡ take c.args.span.from (chunk_text (chunk_list_texts ps) k) =
    c.remove.ensures.bytes ∙ ap (λ l. remove_range l c.args.span.from (length c.as_str-len.result.now)) (sym (text_at ps k c.index_mut.result.now first c.index_mut.ensures.value))
    ∙ front (chunk_text (chunk_list_texts ps) k) c.args.span.from (length c.as_str-len.result.now) (ap length (c.as_str-len.ensures ∙ sym (text_at ps k c.index.result.now first c.index.ensures))) in
    let b : chunk_bytes c.remove-2.new.self ≡ drop c.args.span.to (chunk_text (chunk_list_texts ps) m) = c.remove-2.ensures.bytes ∙ ap (drop c.args.span.to) (sym (read_later ps c.remove.new.self c.index_mut-2.result.now k m c.requires.distinct_chunks last c.index_mut-2.ensures.value)) in
    c.remove_empty_chunk-2.ensures.unchanged ∙ c.remove_empty_chunk.ensures.unchanged ∙ ap (λ l. concat (chunk_list_texts l)) c.remove_chunks_between.ensures
    ∙ cut_chunks_out ps c.remove.new.self c.remove-2.new.self k m (k + 1) c.args.span.from c.args.span.to c.requires.distinct_chunks last (add-one k) a b

pub returns-clause-unique : goal.returns-clause-unique
returns-clause-unique c =
    let ps = c.args.chunks.now.items in
    let k = c.args.span.first in
    let m = c.args.span.last in
    let all = set (set ps k c.remove.new.self) m c.remove-2.new.self in
    λ own.
    let set_own : All IsUniqueChunk all = All-set IsUniqueChunk (set ps k c.remove.new.self) m c.remove-2.new.self c.remove-2.ensures.unique (All-set IsUniqueChunk ps k c.remove.new.self c.remove.ensures.unique own) in
    c.remove_empty_chunk-2.ensures.unique (c.remove_empty_chunk.ensures.unique (rw c.remove_chunks_between.ensures (All-append IsUniqueChunk (take (k + 1) all) (drop m all) (All-take IsUniqueChunk (k + 1) all set_own) (All-drop IsUniqueChunk m all set_own))))

pub returns-clause-chunks_bounded : goal.returns-clause-chunks_bounded
returns-clause-chunks_bounded c =
    let ps = c.args.chunks.now.items in
    let k = c.args.span.first in
    let m = c.args.span.last in
    let last : m < length ps = omega (arith, c.requires.range.index_in_range, length_of_texts ps) in
    let first : k < length ps = omega (arith, last, c.requires.distinct_chunks) in
    let a : chunk_bytes c.remove.new.self ≡ take c.args.span.from (chunk_text (chunk_list_texts ps) k) =
    c.remove.ensures.bytes ∙ ap (λ l. remove_range l c.args.span.from (length c.as_str-len.result.now)) (sym (text_at ps k c.index_mut.result.now first c.index_mut.ensures.value))
    ∙ front (chunk_text (chunk_list_texts ps) k) c.args.span.from (length c.as_str-len.result.now) (ap length (c.as_str-len.ensures ∙ sym (text_at ps k c.index.result.now first c.index.ensures))) in
    let b : chunk_bytes c.remove-2.new.self ≡ drop c.args.span.to (chunk_text (chunk_list_texts ps) m) = c.remove-2.ensures.bytes ∙ ap (drop c.args.span.to) (sym (read_later ps c.remove.new.self c.index_mut-2.result.now k m c.requires.distinct_chunks last c.index_mut-2.ensures.value)) in
    let all = set (set ps k c.remove.new.self) m c.remove-2.new.self in
    λ own.
    let one : length (chunk_bytes c.remove.new.self) ≤ 4096 = omega (arith, ap length a, length-take c.args.span.from (chunk_text (chunk_list_texts ps) k), own k [] (omega (arith, first, length_of_texts ps))) in
    let two : length (chunk_bytes c.remove-2.new.self) ≤ 4096 = omega (arith, ap length b, length-drop c.args.span.to (chunk_text (chunk_list_texts ps) m), own m [] (omega (arith, last, length_of_texts ps))) in
    let short : AreBounded (chunk_list_texts all) = short_set (set ps k c.remove.new.self) m c.remove-2.new.self two (short_set ps k c.remove.new.self one own) in
    c.remove_empty_chunk-2.ensures.chunks_bounded (c.remove_empty_chunk.ensures.chunks_bounded (rw c.remove_chunks_between.ensures (short_append (take (k + 1) all) (drop m all) (short_take all (k + 1) short) (short_drop all m short))))
