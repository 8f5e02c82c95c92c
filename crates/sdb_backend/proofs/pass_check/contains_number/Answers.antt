use Rattle.std.proofs.Common.{rules, map}
use Rattle.std.proofs.lemmas.List.Sorted.{answers_always}
use Rattle.sdb_backend.specs.PassModel.{pass_number}
use Rattle.sdb_backend.proofs.SearchLemmas.{binary_search_found, binary_search_not_found, binary_search_of_map}
use Rattle.sdb_backend.proofs.pass_check.contains_number.Goals as goal

pub returns-clause-on_true : goal.returns-clause-on_true
returns-clause-on_true c is =
    let b = c.binary_search_by_key in
    let p = b.ensures.position pass_number (answers_always _ _ _ (λ f a r q k. search rules)) in
    binary_search_found (map pass_number c.args.passes.now) c.args.number b.result c.requires (binary_search_of_map pass_number c.args.number c.args.passes.now b.result b.ensures.bound p) (search rules)

pub returns-clause-on_false : goal.returns-clause-on_false
returns-clause-on_false c not =
    let b = c.binary_search_by_key in
    let p = b.ensures.position pass_number (answers_always _ _ _ (λ f a r q k. search rules)) in
    binary_search_not_found (map pass_number c.args.passes.now) c.args.number b.result c.requires (binary_search_of_map pass_number c.args.number c.args.passes.now b.result b.ensures.bound p) (search rules)
