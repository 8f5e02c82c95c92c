use Rattle.std.proofs.Common.{◌≡◌, ◌++◌, ◌≤◌, List, ℕ, Some, None, length, take, drop, refl, sym, ap, ◌∙◌, arith, append_assoc}
use Rattle.std.specs.List.{concat}
use Rattle.std.proofs.lemmas.List.{take-append-drop, take-append-le, take_at, append_cancel_left}
use Rattle.std.proofs.lemmas.Bool.Decides.{Decides-eqb}
use Rattle.std.proofs.lemmas.Slice.Eq.{strip_prefix_is}
use Rattle.sdb_chunks.specs.Iter.{remaining_items}
use Rattle.sdb_rope.specs.Cursor.{remaining_bytes}
use Rattle.sdb_rope.specs.RopeChunk.{chunk_list_texts}
use Rattle.sdb_rope.proofs.compare.ChunkCursor.advance.Goals as goal

-- of two prefixes of one list, the shorter is a prefix of the longer
front : (h R w more : List ℕ) → h ++ R ≡ w ++ more → length h ≤ length w → w ≡ h ++ drop (length h) w
front h R w more e l =
    let f : take (length h) w ≡ h = sym (take-append-le (length h) w more l) ∙ ap (take (length h)) (sym e) ∙ take_at h R (length h) refl in
    sym (take-append-drop (length h) w) ∙ ap (λ x. x ++ drop (length h) w) f

pub returns-in_default-clause-no : goal.returns-in_default-clause-no
returns-in_default-clause-no c =
    let here = c.loop-self.self.current.now in
    let wanted = c.loop-self.wanted.now in
    let behind = concat (chunk_list_texts (remaining_items c.loop-self.self.rest)) in
    let l : length here ≤ length wanted = omega (arith, c.loop-self-test.true) in
    let none = strip_prefix_is Decides-eqb wanted here None c.in_default.ensures.cases in
    λ _ more e. none (drop (length here) wanted) (front here behind wanted more (c.loop-self.invariant.other more e) l)

pub loop-self-preserved : goal.loop-self-preserved
loop-self-preserved c =
    let here = c.loop-self.self.current.now in
    let wanted = c.loop-self.wanted.now in
    let others = c.in-Some.others.now in
    let next = remaining_bytes (record { current = c.as_bytes-self.result; rest = c.next.new.self }) in
    let cut : wanted ≡ here ++ others = strip_prefix_is Decides-eqb wanted here (Some c.in-Some.others) c.in-Some.ensures.cases in
    let all : remaining_bytes c.loop-self.self ≡ here ++ next =
    ap (λ l. here ++ concat (chunk_list_texts l)) c.in-Some-next.ensures.steps
    ∙ ap (λ l. here ++ (l ++ concat (chunk_list_texts (remaining_items c.next.new.self)))) (sym (c.as_bytes-self.ensures.value ∙ c.as_str.ensures)) in
    record {
      same = λ more e. c.loop-self.invariant.same more (all ∙ ap (λ l. here ++ l) e ∙ sym (append_assoc here others more) ∙ ap (λ l. l ++ more) (sym cut));
      other = λ more e. append_cancel_left here next (others ++ more) (sym all ∙ c.loop-self.invariant.other more e ∙ ap (λ l. l ++ more) cut ∙ append_assoc here others more);
    }

pub returns-in_default-strip_prefix-clause-no : goal.returns-in_default-strip_prefix-clause-no
returns-in_default-strip_prefix-clause-no c =
    let here = c.loop-self.self.current.now in
    let wanted = c.loop-self.wanted.now in
    let behind = concat (chunk_list_texts (remaining_items c.loop-self.self.rest)) in
    let l : length wanted ≤ length here = omega (arith, c.loop-self-test.false) in
    let none = strip_prefix_is Decides-eqb here wanted None c.in_default-strip_prefix.ensures.cases in
    λ _ more e. none (drop (length wanted) here) (front wanted more here behind (sym (c.loop-self.invariant.other more e)) l)

pub returns-clause-yes : goal.returns-clause-yes
returns-clause-yes c =
    let here = c.loop-self.self.current.now in
    let wanted = c.loop-self.wanted.now in
    let others = c.in-Some-strip_prefix.others.now in
    let behind = concat (chunk_list_texts (remaining_items c.loop-self.self.rest)) in
    let cut : here ≡ wanted ++ others = strip_prefix_is Decides-eqb here wanted (Some c.in-Some-strip_prefix.others) c.in-Some-strip_prefix.ensures.cases in
    λ _. c.loop-self.invariant.same (others ++ behind) (ap (λ l. l ++ behind) cut ∙ append_assoc wanted others behind)
