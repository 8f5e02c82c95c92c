use Rattle.std.proofs.Common.{◌≡◌, ◌≤◌, ◌∷◌, [], ◌++◌, length, ap, ◌∙◌, append_assoc, arith, rules}
use Rattle.std.proofs.lemmas.List.{length-append}
use Rattle.std.proofs.lemmas.Result.{on_err_weaker}
use Rattle.json.specs.Token.{begin_object}
use Rattle.sdb_component.specs.ToJson.{op_data}
use Rattle.sdb_oplog.specs.Plain.{PlainContent, PlainEntry, create, delete, edit}
use Rattle.sdb_value.specs.ToJson.{data_tokens, object_tail_tokens}
use Rattle.sdb_value.specs.laws.PrefixLaws.{writes_prefix_of_rest}
use Rattle.sdb_wire.specs.Answers.{create_data, entry_members, op_tail}
use Rattle.sdb_wire.proofs.operations.write_entry.Goals as goal

-- the content is before the tail
content_adds : (e : PlainEntry) (m : PlainContent) → length (object_tail_tokens (op_tail e)) ≤ length (begin_object ∷ object_tail_tokens (entry_members e m))
content_adds e (create v) = omega (arith, length-append (data_tokens (create_data v)) (object_tail_tokens (op_tail e)))
content_adds e delete = omega arith
content_adds e (edit op) = omega (arith, length-append (data_tokens (op_data op)) (object_tail_tokens (op_tail e)))

pub returns-clause-err : goal.returns-clause-err
returns-clause-err c =
    let e = c.args.entry.now in
    let members = object_tail_tokens (entry_members e e.content) in
    let opened : c.begin_object.new.self.tokens ≡ c.args.out.now.tokens ++ begin_object ∷ [] = search rules in
    let put = c.in_ok-write_entry_content.ensures.tokens ∙ ap (λ ts. ts ++ members) opened ∙ append_assoc c.args.out.now.tokens (begin_object ∷ []) members in
    on_err_weaker c.write_tail.result (writes_prefix_of_rest _ c.write_entry_content.new.out.tokens _ (object_tail_tokens (op_tail e)) (begin_object ∷ members) put (content_adds e e.content)) c.write_tail.ensures.err
