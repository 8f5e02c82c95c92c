use Rattle.std.proofs.Common.{◌<◌, [], ◌∷◌, length, ap, sym, ◌∙◌, arith}
use Rattle.std.proofs.lemmas.List.{length-map}
use Rattle.sdb_value.specs.View.{plain_step, plain_path}
use Rattle.sdb_transform.proofs.UnchangedLemmas.{paths_diverge_at, step_at, false_of_not}
use Rattle.sdb_transform.proofs.commutes.paths_diverge.Goals as goal

pub returns-clause-not_prefix : goal.returns-clause-not_prefix
returns-clause-not_prefix c parts =
    let a = c.args.path.now in
    let b = c.args.other.now in
    let k = c.in-Some.last in
    let x = c.index-path-last.result in
    let y = c.index-other-last.result in
    let inside : k < length a = omega (arith, c.in-Some.ensures, c.min.ensures) in
    let within : k < length b = omega (arith, c.in-Some.ensures, c.min.ensures) in
    paths_diverge_at (plain_path a) (plain_path b) k (plain_step x) (plain_step y) (omega (arith, inside, length-map a plain_step)) (omega (arith, within, length-map b plain_step))
    (step_at a k x inside c.index-path-last.is) (step_at b k y within c.index-other-last.is)
    (λ same. c.paths_equal.ensures.on_false (false_of_not c.paths_equal.result parts)
    (ap plain_path c.from_ref.ensures.value ∙ ap (λ s. s ∷ []) same ∙ sym (ap plain_path c.from_ref-2.ensures.value)))

pub returns-clause-not_extension : goal.returns-clause-not_extension
returns-clause-not_extension c parts =
    let a = c.args.path.now in
    let b = c.args.other.now in
    let k = c.in-Some.last in
    let x = c.index-path-last.result in
    let y = c.index-other-last.result in
    let inside : k < length a = omega (arith, c.in-Some.ensures, c.min.ensures) in
    let within : k < length b = omega (arith, c.in-Some.ensures, c.min.ensures) in
    paths_diverge_at (plain_path b) (plain_path a) k (plain_step y) (plain_step x) (omega (arith, within, length-map b plain_step)) (omega (arith, inside, length-map a plain_step))
    (step_at b k y within c.index-other-last.is) (step_at a k x inside c.index-path-last.is)
    (λ same. c.paths_equal.ensures.on_false (false_of_not c.paths_equal.result parts)
    (ap plain_path c.from_ref.ensures.value ∙ ap (λ s. s ∷ []) (sym same) ∙ sym (ap plain_path c.from_ref-2.ensures.value)))
