use Rattle.std.proofs.Common.{◌≡◌, ◌∷◌, [], ◌++◌, codes, refl, ap, ◌∙◌, append_assoc, rules}
use Rattle.std.proofs.lemmas.Result.{on_err_weaker, on_ok_weaker}
use Rattle.json.specs.Token.{begin_object, key}
use Rattle.sdb_component.specs.ToJson.{path_data, full_path}
use Rattle.sdb_component.specs.Write.{members_before_path, members_after_path}
use Rattle.sdb_value.specs.ToJson.{data_tokens, object_tail_tokens}
use Rattle.sdb_value.specs.laws.PrefixLaws.{on_any_err, writes_prefix_refl, writes_prefix_after_append, writes_prefix_after, writes_prefix_of_rest}
use Rattle.serde_json.specs.Data.{Members, no_members}
use Rattle.sdb_component.proofs.WriteLemmas.{after_path_ends, prefix_after_values, prefix_of_values, put_together}
use Rattle.sdb_component.proofs.write.write_component.Goals as goal

pub returns-clause-tokens : goal.returns-clause-tokens
returns-clause-tokens c =
    let a = c.args.component.now.act in
    let p = path_data (full_path c.args.component.now.path a) in
    let opened : c.begin_object.new.self.tokens ≡ c.args.out.now.tokens ++ begin_object ∷ [] = search rules in
    let named : c.key.new.self.tokens ≡ c.write_values.new.out.tokens ++ key (codes "p") ∷ [] = search rules in
    on_ok_weaker c.end_object.result (λ e. put_together a p c.args.out.now.tokens c.write_values.new.out.tokens c.write_path.new.out.tokens c.end_object.new.self.tokens
    (λ rest. c.in_ok-write_values.ensures.tokens rest ∙ ap (λ b. c.begin_object.new.self.tokens ++ object_tail_tokens (members_before_path b rest)) c.act.ensures ∙ ap (λ ts. ts ++ object_tail_tokens (members_before_path a rest)) opened)
    (c.in_ok-write_path.ensures.tokens ∙ ap (λ ts. ts ++ data_tokens p) named)
    (e ∙ c.in_ok-write_text.ensures.tokens ∙ ap (λ b. c.write_path.new.out.tokens ++ object_tail_tokens (members_after_path b)) c.act-2.ensures)) c.end_object.ensures.ok

pub returns-in_err-write_values-clause-err : goal.returns-in_err-write_values-clause-err
returns-in_err-write_values-clause-err c =
    let a = c.args.component.now.act in
    let p = path_data (full_path c.args.component.now.path a) in
    let opened : c.begin_object.new.self.tokens ≡ c.args.out.now.tokens ++ begin_object ∷ [] = search rules in
    on_any_err _ (prefix_of_values a p _ c.begin_object.new.self.tokens _ opened (rw c.act.ensures at c.in_err-write_values.ensures.err))

pub returns-in_err-key-clause-err : goal.returns-in_err-key-clause-err
returns-in_err-key-clause-err c =
    let a = c.args.component.now.act in
    let p = path_data (full_path c.args.component.now.path a) in
    let opened : c.begin_object.new.self.tokens ≡ c.args.out.now.tokens ++ begin_object ∷ [] = search rules in
    let values = λ (rest : Members). c.in_ok-write_values.ensures.tokens rest ∙ ap (λ b. c.begin_object.new.self.tokens ++ object_tail_tokens (members_before_path b rest)) c.act.ensures ∙ ap (λ ts. ts ++ object_tail_tokens (members_before_path a rest)) opened in
    on_any_err _ (prefix_after_values a p _ c.write_values.new.out.tokens _ values (writes_prefix_refl _ _ _ c.in_err-key.ensures.err))

pub returns-in_err-write_path-clause-err : goal.returns-in_err-write_path-clause-err
returns-in_err-write_path-clause-err c =
    let a = c.args.component.now.act in
    let p = path_data (full_path c.args.component.now.path a) in
    let opened : c.begin_object.new.self.tokens ≡ c.args.out.now.tokens ++ begin_object ∷ [] = search rules in
    let named : c.key.new.self.tokens ≡ c.write_values.new.out.tokens ++ key (codes "p") ∷ [] = search rules in
    let values = λ (rest : Members). c.in_ok-write_values.ensures.tokens rest ∙ ap (λ b. c.begin_object.new.self.tokens ++ object_tail_tokens (members_before_path b rest)) c.act.ensures ∙ ap (λ ts. ts ++ object_tail_tokens (members_before_path a rest)) opened in
    on_any_err _ (prefix_after_values a p _ c.write_values.new.out.tokens _ values
    (writes_prefix_after_append _ c.key.new.self.tokens _ (key (codes "p") ∷ []) (data_tokens p) (object_tail_tokens (members_after_path a)) _ named refl c.in_err-write_path.ensures.err))

pub returns-in_err-write_text-clause-err : goal.returns-in_err-write_text-clause-err
returns-in_err-write_text-clause-err c =
    let a = c.args.component.now.act in
    let p = path_data (full_path c.args.component.now.path a) in
    let opened : c.begin_object.new.self.tokens ≡ c.args.out.now.tokens ++ begin_object ∷ [] = search rules in
    let named : c.key.new.self.tokens ≡ c.write_values.new.out.tokens ++ key (codes "p") ∷ [] = search rules in
    let values = λ (rest : Members). c.in_ok-write_values.ensures.tokens rest ∙ ap (λ b. c.begin_object.new.self.tokens ++ object_tail_tokens (members_before_path b rest)) c.act.ensures ∙ ap (λ ts. ts ++ object_tail_tokens (members_before_path a rest)) opened in
    let path = c.in_ok-write_path.ensures.tokens ∙ ap (λ ts. ts ++ data_tokens p) named ∙ append_assoc c.write_values.new.out.tokens (key (codes "p") ∷ []) (data_tokens p) in
    on_any_err _ (prefix_after_values a p _ c.write_values.new.out.tokens _ values
    (writes_prefix_after _ c.write_path.new.out.tokens _ (key (codes "p") ∷ data_tokens p) (object_tail_tokens (members_after_path a)) _ path refl (rw c.act-2.ensures at c.in_err-write_text.ensures.err)))

pub returns-clause-err : goal.returns-clause-err
returns-clause-err c =
    let a = c.args.component.now.act in
    let p = path_data (full_path c.args.component.now.path a) in
    let opened : c.begin_object.new.self.tokens ≡ c.args.out.now.tokens ++ begin_object ∷ [] = search rules in
    let named : c.key.new.self.tokens ≡ c.write_values.new.out.tokens ++ key (codes "p") ∷ [] = search rules in
    let values = λ (rest : Members). c.in_ok-write_values.ensures.tokens rest ∙ ap (λ b. c.begin_object.new.self.tokens ++ object_tail_tokens (members_before_path b rest)) c.act.ensures ∙ ap (λ ts. ts ++ object_tail_tokens (members_before_path a rest)) opened in
    let path = c.in_ok-write_path.ensures.tokens ∙ ap (λ ts. ts ++ data_tokens p) named ∙ append_assoc c.write_values.new.out.tokens (key (codes "p") ∷ []) (data_tokens p) in
    let put = c.in_ok-write_text.ensures.tokens ∙ ap (λ b. c.write_path.new.out.tokens ++ object_tail_tokens (members_after_path b)) c.act-2.ensures in
    on_err_weaker c.end_object.result (λ e. prefix_after_values a p c.args.out.now.tokens c.write_values.new.out.tokens c.end_object.new.self.tokens values
    (writes_prefix_after _ c.write_path.new.out.tokens _ (key (codes "p") ∷ data_tokens p) (object_tail_tokens (members_after_path a)) _ path refl
    (writes_prefix_of_rest _ c.write_text.new.out.tokens _ (object_tail_tokens no_members) _ put (after_path_ends a) (writes_prefix_refl _ _ _ e)))) c.end_object.ensures.err
