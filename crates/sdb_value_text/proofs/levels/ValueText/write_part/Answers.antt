use Rattle.std.proofs.Common.{◌==◌, ◌+◌, ◌≤◌, length, sym, ap, ◌∙◌, subst, arith}
use Rattle.std.proofs.lemmas.Bool.Decides.{nat_tests}
use Rattle.std.specs.Vec.{vec_len}
use Rattle.sdb_value_text.specs.Level.{level_text, levels_text, opened_text}
use Rattle.sdb_value_text.specs.Remaining.{remaining_text}
use Rattle.sdb_value_text.specs.declared.levels.ValueText.{ValueText}
use Rattle.sdb_value_text.proofs.HasTextLemmas.{empty_of_test, none_of_no_text, left_of_part}
use Rattle.sdb_value_text.proofs.TextLemmas.{levels_push, levels_replaced}
use Rattle.sdb_value_text.proofs.levels.ValueText.write_part.Goals.{else-loop-test, then-loop-test+then-len-end, then-loop-test+else-len-end+in_default}
use Rattle.sdb_value_text.proofs.levels.ValueText.write_part.Goals as goal

pub loop-preserved : goal.loop-preserved
loop-preserved c =
    let outer = c.pop.new.self.items in
    let level = c.in-Some.level in
    let rest = c.in_ok-rest.rest in (
      levels_replaced c.write_piece.new.out.items c.loop.out.items (opened_text rest.inner) (opened_text rest.own) (levels_text outer) (level_text level)
          _ _ _ c.in_ok-push_some.ensures.text c.in_ok-push_some-2.ensures.text c.in_ok-rest.ensures.text (ap levels_text c.in-Some.ensures.items ∙ levels_push outer level)
          ∙ c.loop.invariant.0,
      omega (arith, c.in_ok-rest.ensures.longer, c.loop.invariant.1),
    )

pub returns-clause-end : goal.returns-clause-end
returns-clause-end c =
    let v = c.loop-test.self.levels in (
      λ e. ap levels_text (empty_of_test v.items (ap (λ n. n == 0) (sym v.ok.0) ∙ sym c.is_empty.ensures ∙ e)),
      λ e. c.is_empty.ensures ∙ ap (λ n. n == 0) (v.ok.0 ∙ ap length (none_of_no_text v.items c.loop-test.self.has_text e)),
    )

pub returns-clause-progress : goal.returns-clause-progress
returns-clause-progress c more =
    let left = left_of_part c.loop.out.items c.args.out.now.items (remaining_text c.loop.self) (remaining_text c.args.self.now) c.args.limit c.loop.invariant.0 in
    elim c.loop-test.branch [
      | else-loop-test w ↦ subst (λ (s : ValueText). length (remaining_text s) + c.args.limit ≤ length (remaining_text c.args.self.now)) (sym w.self-is) (left (omega (arith, w.loop-test.false, c.loop.invariant.1)))
      | then-loop-test+then-len-end w ↦ subst (λ (s : ValueText). length (remaining_text s) + c.args.limit ≤ length (remaining_text c.args.self.now)) (sym w.self-is)
          (left (omega (arith, w.if-len-end.true, w.len-in-loop.ensures, c.saturating_add-end.ensures, c.len.ensures, c.loop.out.small, c.loop.out.ok.0, c.loop.out.ok.1, c.args.out.now.ok.0)))
      | then-loop-test+else-len-end+in_default w ↦ let tested = c.is_empty.ensures ∙ ap (λ (s : ValueText). vec_len s.levels == 0) w.self-is in absurd (grind (arith, nat_tests, tested, more, w.in_default.ensures.variant, w.in_default.ensures.len))
    ]
