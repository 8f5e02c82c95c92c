use Rattle.std.proofs.Common.{◌≡◌, ◌∷◌, [], ◌++◌, codes, option_map, refl, ◌∙◌, rules, append_assoc}
use Rattle.std.proofs.lemmas.Result.{on_ok_weaker}
use Rattle.json.specs.Token.{begin_object, key}
use Rattle.serde_json.specs.Data.{member, no_members}
use Rattle.sdb_value.specs.ToJson.{object_tail_tokens}
use Rattle.sdb_wire.specs.Answers.{error_data, push_member}
use Rattle.sdb_wire.specs.View.{plain_echo_value}
use Rattle.sdb_wire.proofs.write.write_error_answer.Goals as goal

pub returns-clause-tokens : goal.returns-clause-tokens
returns-clause-tokens c =
    let s = c.args.echo.now in
    let from_src = push_member (codes "src") (option_map plain_echo_value s.src) no_members in
    let from_seq = push_member (codes "seq") (option_map plain_echo_value s.seq) from_src in
    let from_id = push_member (codes "id") (option_map plain_echo_value s.id) from_seq in
    let from_error = member (codes "error") (error_data c.args.code) from_id in
    let from_d = push_member (codes "d") (option_map plain_echo_value s.d) from_error in
    let from_c = push_member (codes "c") (option_map plain_echo_value s.c) from_d in
    let from_a = push_member (codes "a") (option_map plain_echo_value s.a) from_c in
    let opened : c.begin_object.new.self.tokens ≡ c.args.out.now.tokens ++ begin_object ∷ [] = search rules in
    let named : c.key.new.self.tokens ≡ c.write_echo_value-3.new.out.tokens ++ key (codes "error") ∷ [] = search rules in
    let error : c.write_error.new.out.tokens ++ object_tail_tokens from_id ≡ c.write_echo_value-3.new.out.tokens ++ object_tail_tokens from_error =
    rw (c.in_ok-write_error.ensures.tokens, named) (simp append_assoc refl) in
    let begun : c.begin_object.new.self.tokens ++ object_tail_tokens from_a ≡ c.args.out.now.tokens ++ begin_object ∷ object_tail_tokens from_a = rw opened (simp append_assoc refl) in
    on_ok_weaker c.end_object.result (λ e. e ∙ c.in_ok-write_echo_value-6.ensures.tokens no_members ∙ c.in_ok-write_echo_value-5.ensures.tokens from_src ∙ c.in_ok-write_echo_value-4.ensures.tokens from_seq
    ∙ error ∙ c.in_ok-write_echo_value-3.ensures.tokens from_error ∙ c.in_ok-write_echo_value-2.ensures.tokens from_d ∙ c.in_ok-write_echo_value.ensures.tokens from_c ∙ begun) c.end_object.ensures.ok
