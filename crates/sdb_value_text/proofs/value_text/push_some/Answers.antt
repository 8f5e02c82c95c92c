use Rattle.std.proofs.Common.{◌++◌, All, IfSome, ap, sym, ◌∙◌, subst}
use Rattle.sdb_value_text.specs.Level.{HasText, levels_text, opened_text}
use Rattle.sdb_value_text.proofs.TextLemmas.{levels_push}
use Rattle.sdb_value_text.proofs.HasTextLemmas.{pushed_have_text}
use Rattle.sdb_value_text.proofs.value_text.push_some.Goals as goal

pub returns-in_ok-push-in-Some-clause-text : goal.returns-in_ok-push-in-Some-clause-text
returns-in_ok-push-in-Some-clause-text c =
    let ls = c.args.levels.now.items in
    ap levels_text c.in_ok-push-in-Some.ensures.items ∙ levels_push ls c.in-Some.level ∙ ap (λ o. opened_text o ++ levels_text ls) (sym c.in-Some.is)

pub returns-in_ok-push-in-Some-clause-have_text : goal.returns-in_ok-push-in-Some-clause-have_text
returns-in_ok-push-in-Some-clause-have_text c =
    subst (All HasText) (sym c.in_ok-push-in-Some.ensures.items) (pushed_have_text c.args.levels.now.items c.in-Some.level c.requires.have_text (subst (λ o. IfSome o HasText) c.in-Some.is c.requires.has_text))
