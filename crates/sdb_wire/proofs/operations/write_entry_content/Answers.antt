use Rattle.std.proofs.Common.{◌≡◌, ◌∷◌, [], true, codes, refl, sym, ap, ◌∙◌}
use Rattle.std.proofs.lemmas.Result.{on_err_weaker}
use Rattle.json.specs.Token.{key, boolean}
use Rattle.sdb_component.specs.ToJson.{op_data}
use Rattle.sdb_oplog.specs.Plain.{create, delete, edit}
use Rattle.sdb_oplog.specs.View.{plain_kind}
use Rattle.sdb_value.specs.ToJson.{data_tokens, object_tail_tokens}
use Rattle.sdb_value.specs.View.{value_of}
use Rattle.sdb_value.specs.laws.PrefixLaws.{token_refused_prefix, writes_prefix_after_append}
use Rattle.sdb_wire.specs.Answers.{create_data, op_tail}
use Rattle.sdb_wire.proofs.operations.write_entry_content.Goals as goal

pub returns-in_ok-key-in-Create-clause-err : goal.returns-in_ok-key-in-Create-clause-err
returns-in_ok-key-in-Create-clause-err c =
    let e = c.args.entry.now in
    let d = create_data (value_of c.deref.result.now) in
    let is_create : e.content ≡ create (value_of c.deref.result.now) = sym c.content.ensures ∙ sym c.kind.ensures ∙ ap plain_kind c.in-Create.is ∙ ap (λ v. create (value_of v)) (sym c.deref.ensures) in
    rw is_create (on_err_weaker _ (writes_prefix_after_append _ _ _ (key (codes "create") ∷ []) (data_tokens d) (object_tail_tokens (op_tail e)) _ c.in_ok-key-in-Create.ensures.ok refl) c.write_create.ensures.err)

pub returns-in_ok-key-in-Delete-clause-err : goal.returns-in_ok-key-in-Delete-clause-err
returns-in_ok-key-in-Delete-clause-err c =
    let e = c.args.entry.now in
    let is_delete : e.content ≡ delete = sym c.content.ensures ∙ sym c.kind.ensures ∙ ap plain_kind c.in-Delete.is in
    rw is_delete (token_refused_prefix _ _ _ _ (key (codes "del") ∷ []) (boolean true ∷ object_tail_tokens (op_tail e)) c.in_ok-key-in-Delete.ensures.ok c.boolean.ensures.err)

pub returns-in_ok-key-in-Edit-clause-err : goal.returns-in_ok-key-in-Edit-clause-err
returns-in_ok-key-in-Edit-clause-err c =
    let e = c.args.entry.now in
    let is_edit : e.content ≡ edit c.deref-in-Edit.result.now = sym c.content.ensures ∙ sym c.kind.ensures ∙ ap plain_kind c.in-Edit.is ∙ ap edit (sym c.deref-in-Edit.ensures) in
    rw is_edit (on_err_weaker _ (writes_prefix_after_append _ _ _ (key (codes "op") ∷ []) (data_tokens (op_data c.deref-in-Edit.result.now)) (object_tail_tokens (op_tail e)) _ c.in_ok-key-in-Edit.ensures.ok refl) c.write_op.ensures.err)
