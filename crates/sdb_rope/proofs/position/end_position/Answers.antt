use Rattle.std.proofs.Common.{◌≡◌, ◌+◌, ◌-◌, ◌<◌, ◌≤◌, ℕ, List, length, take, drop, true, false, nat_eq, sym, ap, ◌∙◌, subst, arith, length-drop, add-one}
use Rattle.std.specs.List.{starts_with}
use Rattle.std.proofs.lemmas.List.{drop-drop}
use Rattle.sdb_rope.specs.RopeChunk.{chunk_list_texts}
use Rattle.sdb_rope.specs.Position.{chunk_text, bytes_after, IsEndPosition}
use Rattle.sdb_rope.proofs.BoundaryLemmas.{to_end}
use Rattle.sdb_rope.proofs.PositionLemmas.{end_here, none_here, none_longer, none_past, ends_next, same_next}
use Rattle.sdb_rope.proofs.ChunkListLemmas.{length_of_texts, text_at}
use Rattle.sdb_rope.proofs.position.end_position.Goals as goal

both : (H R x y : List ℕ) (r : _) → H ≡ x → R ≡ y → starts_with nat_eq H R ≡ r → starts_with nat_eq x y ≡ r
both H R x y r h e s = subst (λ (z : List ℕ). starts_with nat_eq z y ≡ r) h (subst (λ (z : List ℕ). starts_with nat_eq H z ≡ r) e s)

longer : (H R x y : List ℕ) → H ≡ x → R ≡ y → length H ≤ length R → length x ≤ length y
longer H R x y h e s = omega (arith, ap length h, ap length e, s)

pub returns-then-starts_with-clause-some : goal.returns-then-starts_with-clause-some
returns-then-starts_with-clause-some c =
    let ps = c.args.chunks.now in
    let bytes = c.as_bytes.result.now in
    let text = c.as_bytes-text.result.now in
    let at = c.loop-at.at in
    let start = c.loop-at.start in
    let inside : at < length (chunk_list_texts ps) = omega (arith, length_of_texts ps, c.loop-at-test.true) in
    let q : bytes ≡ chunk_text (chunk_list_texts ps) at = c.as_bytes.ensures.value ∙ c.as_str.ensures ∙ sym (text_at ps at c.index-chunks-at.result c.loop-at-test.true c.index-chunks-at.is) in
    let here = to_end bytes start ∙ ap (drop start) q in
    let rest = to_end text c.loop-at.done in
    let n : length (take (length text - c.loop-at.done) (drop c.loop-at.done text)) ≡ length (drop c.loop-at.done text) = ap length rest in
    let end = c.loop-at.invariant.ends at (start + length (drop c.loop-at.done text))
    (end_here (chunk_list_texts ps) (drop c.loop-at.done text) at start inside (c.loop-at.invariant.within c.loop-at-test.true)
    (longer _ _ _ _ rest here c.if-rest-here.true) (both _ _ _ _ true here rest (sym c.starts_with.ensures.value ∙ c.if-starts_with.true))) in
    subst (λ (k : ℕ). IsEndPosition (chunk_list_texts ps) c.args.first c.args.from c.args.old.now at (start + k)) (sym n)
    (subst (λ (t : List ℕ). IsEndPosition (chunk_list_texts ps) c.args.first c.args.from t at (start + length (drop c.loop-at.done text))) c.as_bytes-text.ensures.value end)

pub returns-else-starts_with-clause-none : goal.returns-else-starts_with-clause-none
returns-else-starts_with-clause-none c =
    let ps = c.args.chunks.now in
    let bytes = c.as_bytes.result.now in
    let text = c.as_bytes-text.result.now in
    let at = c.loop-at.at in
    let start = c.loop-at.start in
    let inside : at < length (chunk_list_texts ps) = omega (arith, length_of_texts ps, c.loop-at-test.true) in
    let q : bytes ≡ chunk_text (chunk_list_texts ps) at = c.as_bytes.ensures.value ∙ c.as_str.ensures ∙ sym (text_at ps at c.index-chunks-at.result c.loop-at-test.true c.index-chunks-at.is) in
    let here = to_end bytes start ∙ ap (drop start) q in
    let rest = to_end text c.loop-at.done in
    ap (starts_with nat_eq (bytes_after (chunk_list_texts ps) c.args.first c.args.from)) (sym c.as_bytes-text.ensures.value) ∙ sym c.loop-at.invariant.same
    ∙ none_here (chunk_list_texts ps) (drop c.loop-at.done text) at start inside (longer _ _ _ _ rest here c.if-rest-here.true) (both _ _ _ _ false here rest (sym c.starts_with.ensures.value ∙ c.if-starts_with.false))

pub returns-then-not-starts_with-clause-none : goal.returns-then-not-starts_with-clause-none
returns-then-not-starts_with-clause-none c =
    let ps = c.args.chunks.now in
    let bytes = c.as_bytes.result.now in
    let text = c.as_bytes-text.result.now in
    let at = c.loop-at.at in
    let start = c.loop-at.start in
    let inside : at < length (chunk_list_texts ps) = omega (arith, length_of_texts ps, c.loop-at-test.true) in
    let q : bytes ≡ chunk_text (chunk_list_texts ps) at = c.as_bytes.ensures.value ∙ c.as_str.ensures ∙ sym (text_at ps at c.index-chunks-at.result c.loop-at-test.true c.index-chunks-at.is) in
    let here = to_end bytes start ∙ ap (drop start) q in
    let rest = to_end text c.loop-at.done in
    let less : length (drop start (chunk_text (chunk_list_texts ps) at)) < length (drop c.loop-at.done text) = omega (arith, ap length here, ap length rest, c.if-rest-here.false) in
    ap (starts_with nat_eq (bytes_after (chunk_list_texts ps) c.args.first c.args.from)) (sym c.as_bytes-text.ensures.value) ∙ sym c.loop-at.invariant.same
    ∙ none_longer (chunk_list_texts ps) (drop c.loop-at.done text) at start inside less (both _ _ _ _ false rest here (sym c.starts_with-in-loop-at.ensures.value ∙ c.if-not-starts_with.true))

pub loop-at-preserved : goal.loop-at-preserved
loop-at-preserved c =
    let ps = c.args.chunks.now in
    let ts = chunk_list_texts ps in
    let bytes = c.as_bytes.result.now in
    let text = c.as_bytes-text.result.now in
    let at = c.loop-at.at in
    let start = c.loop-at.start in
    let done = c.loop-at.done in
    let H = take (length bytes - start) (drop start bytes) in
    let inside : at < length ts = omega (arith, length_of_texts ps, c.loop-at-test.true) in
    let q : bytes ≡ chunk_text ts at = c.as_bytes.ensures.value ∙ c.as_str.ensures ∙ sym (text_at ps at c.index-chunks-at.result c.loop-at-test.true c.index-chunks-at.is) in
    let here = to_end bytes start ∙ ap (drop start) q in
    let rest = to_end text done in
    let e : starts_with nat_eq (drop done text) (drop start (chunk_text ts at)) ≡ true = both _ _ _ _ true rest here (sym c.starts_with-in-loop-at.ensures.value ∙ c.if-not-starts_with.false) in
    let d : drop (length (drop start (chunk_text ts at))) (drop done text) ≡ drop (done + length H) text = drop-drop (length (drop start (chunk_text ts at))) done text ∙ ap (λ k. drop (done + k) text) (sym (ap length here)) in
    let less : done + length H < length text = omega (arith, c.if-rest-here.false, length-drop done text, ap length rest) in
    record {
      within = λ _. omega arith;
      known = omega (arith, less);
      more = λ _. less;
      ends = λ m j end. c.loop-at.invariant.ends m j (ends_next ts (drop done text) at (at + 1) start inside (add-one at) e m j (subst (λ (t : List ℕ). IsEndPosition ts (at + 1) 0 t m j) (sym d) end));
      same = ap (starts_with nat_eq (bytes_after ts (at + 1) 0)) (sym d) ∙ same_next ts (drop done text) at (at + 1) start inside (add-one at) e ∙ c.loop-at.invariant.same;
    }

pub returns-clause-none : goal.returns-clause-none
returns-clause-none c =
    let ps = c.args.chunks.now in
    let ts = chunk_list_texts ps in
    let text = c.as_bytes-text.result.now in
    let past : length ts ≤ c.loop-at.at = omega (arith, length_of_texts ps, c.loop-at-test.false) in
    let left : 0 < length (drop c.loop-at.done text) = omega (arith, c.loop-at.invariant.more c.loop-at-test.false, length-drop c.loop-at.done text) in
    ap (starts_with nat_eq (bytes_after ts c.args.first c.args.from)) (sym c.as_bytes-text.ensures.value) ∙ sym c.loop-at.invariant.same ∙ none_past ts (drop c.loop-at.done text) c.loop-at.at c.loop-at.start past left
