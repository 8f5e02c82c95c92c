use Rattle.std.proofs.Common.{◌≡◌, ◌∷◌, [], ◌++◌, codes, decimal, ap, ◌∙◌, rules}
use Rattle.std.proofs.lemmas.Result.{on_ok_weaker}
use Rattle.json.specs.Token.{begin_object, key, number}
use Rattle.sdb_value.specs.FromJson.{data_of_value}
use Rattle.sdb_value.specs.ToJson.{data_tokens}
use Rattle.sdb_client_model.specs.Client.{shown_document}
use Rattle.sdb_client.specs.View.{client_of}
use Rattle.sdb_client_main.specs.Answers.{operations_data, sent_data, shown_data}
use Rattle.sdb_client_main.proofs.ClientTokens.{written_client}
use Rattle.sdb_client_main.proofs.write_answer.write_client.Goals as goal

pub returns-clause-tokens : goal.returns-clause-tokens
returns-clause-tokens c =
    let d = client_of c.args.client.now in
    let opened : c.begin_object.new.self.tokens ≡ c.args.out.now.tokens ++ begin_object ∷ [] = search rules in
    let data_key : c.key.new.self.tokens ≡ c.begin_object.new.self.tokens ++ key (codes "data") ∷ [] = search rules in
    let document : c.write_value.new.out.tokens ≡ c.key.new.self.tokens ++ data_tokens (data_of_value d.document) =
    c.in_ok-write_value.ensures.tokens ∙ ap (λ v. c.key.new.self.tokens ++ data_tokens (data_of_value v)) c.document.ensures in
    let pending_key : c.key-2.new.self.tokens ≡ c.write_value.new.out.tokens ++ key (codes "pending") ∷ [] = search rules in
    let pending : c.write_operations.new.out.tokens ≡ c.key-2.new.self.tokens ++ data_tokens (operations_data d.pending) =
    c.in_ok-write_operations.ensures.tokens ∙ ap (λ ops. c.key-2.new.self.tokens ++ data_tokens (operations_data ops)) c.pending.ensures in
    let seq : c.write_count.new.out.tokens ≡ c.write_operations.new.out.tokens ++ key (codes "seq") ∷ number (decimal d.next_seq) ∷ [] =
    c.in_ok-write_count.ensures.tokens ∙ ap (λ n. c.write_operations.new.out.tokens ++ key (codes "seq") ∷ number (decimal n) ∷ []) c.next_seq.ensures in
    let sent_key : c.key-3.new.self.tokens ≡ c.write_count.new.out.tokens ++ key (codes "sent") ∷ [] = search rules in
    let sent : c.write_sent.new.out.tokens ≡ c.key-3.new.self.tokens ++ data_tokens (sent_data d.sent) =
    c.in_ok-write_sent.ensures.tokens ∙ ap (λ t. c.key-3.new.self.tokens ++ data_tokens (sent_data t)) c.sent.ensures in
    let shown_key : c.key-4.new.self.tokens ≡ c.write_sent.new.out.tokens ++ key (codes "shown") ∷ [] = search rules in
    let shown : c.write_shown.new.out.tokens ≡ c.key-4.new.self.tokens ++ data_tokens (shown_data (shown_document d)) =
    c.in_ok-write_shown.ensures.tokens in
    let version : c.write_count-2.new.out.tokens ≡ c.write_shown.new.out.tokens ++ key (codes "v") ∷ number (decimal d.version) ∷ [] =
    c.in_ok-write_count-2.ensures.tokens ∙ ap (λ n. c.write_shown.new.out.tokens ++ key (codes "v") ∷ number (decimal n) ∷ []) c.version.ensures in
    on_ok_weaker c.end_object.result (λ e. e ∙ rw (version, shown, shown_key, sent, sent_key, seq, pending, pending_key, document, data_key, opened) (written_client c.args.out.now.tokens d)) c.end_object.ensures.ok
