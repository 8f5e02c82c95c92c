use Rattle.std.proofs.Common.{rules, List, map, Contains, subst, sym}
use Rattle.std.proofs.lemmas.List.Sorted.{Contains-permutation, IsPermutation-sym, IsPermutation-map, IsNonDecreasingBy-from_sort_by_key}
use Rattle.std.specs.List.Sorted.{IsNonDecreasing}
use Rattle.sdb_backend.specs.PassModel.{pass_number}
use Rattle.sdb_backend.specs.declared.pass.Pass.{Pass}
use Rattle.sdb_backend.proofs.SearchLemmas.{nondecreasing_map}
use Rattle.sdb_backend.proofs.pass.Host.has_every_pass.Goals as goal

pub find_every_pass-requires : goal.find_every_pass-requires
find_every_pass-requires c =
    subst (λ (ps : List Pass). IsNonDecreasing (map pass_number ps)) (sym c.as_slice.ensures.value)
    (nondecreasing_map pass_number 0 c.sort_unstable_by_key.new.self.items (IsNonDecreasingBy-from_sort_by_key pass_number _ c.sort_unstable_by_key.ensures.sorted (λ a r q k. search rules)))

pub returns-clause-all : goal.returns-clause-all
returns-clause-all c is k some up =
    let old = c.args.passes.now.items in
    let new = c.sort_unstable_by_key.new.self.items in
    Contains-permutation (map pass_number new) (map pass_number old) k (IsPermutation-map pass_number new old (IsPermutation-sym _ _ c.sort_unstable_by_key.ensures.permutation))
    (subst (λ (ps : List Pass). Contains (map pass_number ps) k) c.as_slice.ensures.value (c.find_every_pass.ensures.all is k some up))

pub returns-clause-missing : goal.returns-clause-missing
returns-clause-missing c is all =
    let old = c.args.passes.now.items in
    let new = c.sort_unstable_by_key.new.self.items in
    c.find_every_pass.ensures.missing is
    (λ k some up. subst (λ (ps : List Pass). Contains (map pass_number ps) k) (sym c.as_slice.ensures.value)
    (Contains-permutation (map pass_number old) (map pass_number new) k (IsPermutation-map pass_number old new c.sort_unstable_by_key.ensures.permutation) (all k some up)))
