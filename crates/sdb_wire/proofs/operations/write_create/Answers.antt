use Rattle.std.proofs.Common.{◌≡◌, ◌∷◌, [], ◌++◌, codes, refl, ◌∙◌, rules, append_assoc}
use Rattle.std.proofs.lemmas.Result.{on_err_weaker, on_ok_weaker}
use Rattle.json.specs.Token.{begin_object, key}
use Rattle.serde_json.specs.Data.{member, no_members}
use Rattle.sdb_value.specs.ToJson.{data_tokens, object_tail_tokens}
use Rattle.sdb_value.specs.FromJson.{data_of_value}
use Rattle.sdb_value.specs.View.{value_of}
use Rattle.sdb_value.specs.laws.PrefixLaws.{on_any_err, writes_prefix_after_append, writes_prefix_after}
use Rattle.sdb_wire.specs.Answers.{type_data}
use Rattle.sdb_wire.proofs.operations.write_create.Goals as goal

pub returns-clause-tokens : goal.returns-clause-tokens
returns-clause-tokens c =
    let opened : c.begin_object.new.self.tokens ≡ c.args.out.now.tokens ++ begin_object ∷ [] = search rules in
    let named : c.key.new.self.tokens ≡ c.begin_object.new.self.tokens ++ key (codes "data") ∷ [] = search rules in
    on_ok_weaker c.end_object.result (λ e. e ∙ rw (c.in_ok-write_text.ensures.tokens, c.in_ok-write_value.ensures.tokens, named, opened) (simp append_assoc refl)) c.end_object.ensures.ok

pub returns-in_err-write_value-clause-err : goal.returns-in_err-write_value-clause-err
returns-in_err-write_value-clause-err c =
    let opened : c.begin_object.new.self.tokens ≡ c.args.out.now.tokens ++ begin_object ∷ [] = search rules in
    let named : c.key.new.self.tokens ≡ c.begin_object.new.self.tokens ++ key (codes "data") ∷ [] = search rules in
    let done = begin_object ∷ key (codes "data") ∷ [] in
    let so_far : c.key.new.self.tokens ≡ c.args.out.now.tokens ++ done = rw (named, opened) (simp append_assoc refl) in
    let rest = object_tail_tokens (member (codes "type") type_data no_members) in
    on_any_err _ (writes_prefix_after_append _ c.key.new.self.tokens _ done (data_tokens (data_of_value (value_of c.args.value.now))) rest _ so_far refl c.in_err-write_value.ensures.err)

pub returns-in_err-write_text-clause-err : goal.returns-in_err-write_text-clause-err
returns-in_err-write_text-clause-err c =
    let opened : c.begin_object.new.self.tokens ≡ c.args.out.now.tokens ++ begin_object ∷ [] = search rules in
    let named : c.key.new.self.tokens ≡ c.begin_object.new.self.tokens ++ key (codes "data") ∷ [] = search rules in
    let done = begin_object ∷ key (codes "data") ∷ data_tokens (data_of_value (value_of c.args.value.now)) in
    let so_far : c.write_value.new.out.tokens ≡ c.args.out.now.tokens ++ done = rw (c.in_ok-write_value.ensures.tokens, named, opened) (simp append_assoc refl) in
    on_any_err _ (writes_prefix_after_append _ c.write_value.new.out.tokens _ done (key (codes "type") ∷ data_tokens type_data) (object_tail_tokens no_members) _ so_far refl c.in_err-write_text.ensures.err)

pub returns-clause-err : goal.returns-clause-err
returns-clause-err c =
    let opened : c.begin_object.new.self.tokens ≡ c.args.out.now.tokens ++ begin_object ∷ [] = search rules in
    let named : c.key.new.self.tokens ≡ c.begin_object.new.self.tokens ++ key (codes "data") ∷ [] = search rules in
    let done = begin_object ∷ key (codes "data") ∷ data_tokens (data_of_value (value_of c.args.value.now)) in
    let so_far : c.write_value.new.out.tokens ≡ c.args.out.now.tokens ++ done = rw (c.in_ok-write_value.ensures.tokens, named, opened) (simp append_assoc refl) in
    let typed = key (codes "type") ∷ data_tokens type_data in
    on_err_weaker c.end_object.result (λ e. writes_prefix_after c.args.out.now.tokens c.write_value.new.out.tokens c.end_object.new.self.tokens done (typed ++ object_tail_tokens no_members) _ so_far refl
    (typed, object_tail_tokens no_members, refl, e ∙ c.in_ok-write_text.ensures.tokens)) c.end_object.ensures.err
