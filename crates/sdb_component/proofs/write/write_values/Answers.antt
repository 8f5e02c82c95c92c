use Rattle.std.specs.Arc.{arc_value}
use Rattle.std.proofs.Common.{◌∷◌, codes, rules}
use Rattle.std.proofs.lemmas.Result.{on_err_weaker}
use Rattle.json.specs.Token.{key}
use Rattle.serde_json.specs.Data.{Members, member, number}
use Rattle.serde_json.specs.Find.{of_integer}
use Rattle.sdb_value.specs.ToJson.{data_tokens, object_tail_tokens}
use Rattle.sdb_value.specs.FromJson.{data_of_value}
use Rattle.sdb_value.specs.View.{value_of}
use Rattle.sdb_value.specs.laws.PrefixLaws.{on_any_err, writes_prefix_refl, writes_prefix_append, member_prefix, member_value_prefix, next_member_prefix}
use Rattle.sdb_component.proofs.write.write_values.Goals as goal

pub returns-in-Li-clause-err : goal.returns-in-Li-clause-err
returns-in-Li-clause-err c = rw c.in-Li.is (search (rules, member_prefix))

pub returns-in-Ld-clause-err : goal.returns-in-Ld-clause-err
returns-in-Ld-clause-err c = rw c.in-Ld.is (search (rules, member_prefix))

pub returns-in-Oi-clause-err : goal.returns-in-Oi-clause-err
returns-in-Oi-clause-err c = rw c.in-Oi.is (search (rules, member_prefix))

pub returns-in-Od-clause-err : goal.returns-in-Od-clause-err
returns-in-Od-clause-err c = rw c.in-Od.is (search (rules, member_prefix))

pub returns-in_err-write_member-in-Lr-clause-err : goal.returns-in_err-write_member-in-Lr-clause-err
returns-in_err-write_member-in-Lr-clause-err c =
    let front = λ (rest : Members). writes_prefix_append _ _ (key (codes "ld") ∷ data_tokens (data_of_value (value_of (arc_value c.in-Lr.old)))) (object_tail_tokens (member (codes "li") (data_of_value (value_of (arc_value c.in-Lr.new))) rest)) c.in_err-write_member-in-Lr.ensures.err in
    rw c.in-Lr.is (on_any_err _ front)

pub returns-in_err-write_member-in-Or-clause-err : goal.returns-in_err-write_member-in-Or-clause-err
returns-in_err-write_member-in-Or-clause-err c =
    let front = λ (rest : Members). writes_prefix_append _ _ (key (codes "od") ∷ data_tokens (data_of_value (value_of (arc_value c.in-Or.old)))) (object_tail_tokens (member (codes "oi") (data_of_value (value_of (arc_value c.in-Or.new))) rest)) c.in_err-write_member-in-Or.ensures.err in
    rw c.in-Or.is (on_any_err _ front)

pub returns-in_ok-key-in-Na-clause-err : goal.returns-in_ok-key-in-Na-clause-err
returns-in_ok-key-in-Na-clause-err c = rw c.in-Na.is (member_value_prefix _ _ _ _ (codes "na") (number (of_integer c.in-Na.amount)) c.in_ok-key-in-Na.ensures.ok (on_err_weaker _ (writes_prefix_refl _ _ _) c.i64.ensures.err))

pub returns-in_ok-write_member-in-Lr-clause-err : goal.returns-in_ok-write_member-in-Lr-clause-err
returns-in_ok-write_member-in-Lr-clause-err c = rw c.in-Lr.is (next_member_prefix _ _ _ _ _ _ _ _ c.in_ok-write_member-in-Lr.ensures.tokens c.write_member-in-Lr-2.ensures.err)

pub returns-in_ok-write_member-in-Or-clause-err : goal.returns-in_ok-write_member-in-Or-clause-err
returns-in_ok-write_member-in-Or-clause-err c = rw c.in-Or.is (next_member_prefix _ _ _ _ _ _ _ _ c.in_ok-write_member-in-Or.ensures.tokens c.write_member-in-Or-2.ensures.err)
