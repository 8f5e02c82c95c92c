use Rattle.std.proofs.Common.{◌∷◌, [], ◌++◌, All, ap, sym, ◌∙◌, subst}
use Rattle.sdb_value.specs.View.{value_of}
use Rattle.sdb_value_text.specs.Level.{HasText}
use Rattle.sdb_value_text.specs.declared.level.Level.TheVariants.{Whole}
use Rattle.sdb_value_text.proofs.HasTextLemmas.{value_has_text, pushed_have_text, none_have_text}
use Rattle.sdb_value_text.proofs.levels.ValueText.new.Goals as goal

pub invariant_of-result : goal.invariant_of-result
invariant_of-result c =
    let v = c.in_ok-frozen_clone.field-0 in
    record { has_text = subst (All HasText) (sym (c.in_ok-push.ensures.items ∙ ap (λ ls. ls ++ Whole v ∷ []) c.new-levels.ensures.items)) (pushed_have_text [] (Whole v) none_have_text (value_has_text (value_of v))) }
