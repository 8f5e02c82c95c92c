-- The tokens of a client, in the order in which they are written.
use Rattle.std.proofs.Common.{◌≡◌, ◌∷◌, [], ◌++◌, List, codes, decimal, refl, append_assoc}
use Rattle.json.specs.Token.{Token, begin_object, end_object, key, number}
use Rattle.sdb_value.specs.FromJson.{data_of_value}
use Rattle.sdb_value.specs.ToJson.{data_tokens}
use Rattle.sdb_client_model.specs.Client.{Client, shown_document}
use Rattle.sdb_client_main.specs.Answers.{client_data, operations_data, sent_data, shown_data}

nested : (out a b d e f g h i j k l m : List Token) →
    ((((((((((((out ++ a) ++ b) ++ d) ++ e) ++ f) ++ g) ++ h) ++ i) ++ j) ++ k) ++ l) ++ m)
    ≡ out ++ (a ++ (b ++ (d ++ (e ++ (f ++ (g ++ (h ++ (i ++ (j ++ (k ++ (l ++ m)))))))))))
nested out a b d e f g h i j k l m = simp append_assoc refl

pub written_client : (out : List Token) (c : Client) →
    ((((((((((((out
    ++ (begin_object ∷ []))
    ++ (key (codes "data") ∷ []))
    ++ (data_tokens (data_of_value c.document)))
    ++ (key (codes "pending") ∷ []))
    ++ (data_tokens (operations_data c.pending)))
    ++ (key (codes "seq") ∷ number (decimal c.next_seq) ∷ []))
    ++ (key (codes "sent") ∷ []))
    ++ (data_tokens (sent_data c.sent)))
    ++ (key (codes "shown") ∷ []))
    ++ (data_tokens (shown_data (shown_document c))))
    ++ (key (codes "v") ∷ number (decimal c.version) ∷ []))
    ++ (end_object ∷ []))
    ≡ out ++ data_tokens (client_data c)
written_client out c =
    nested out
    (begin_object ∷ [])
    (key (codes "data") ∷ [])
    (data_tokens (data_of_value c.document))
    (key (codes "pending") ∷ [])
    (data_tokens (operations_data c.pending))
    (key (codes "seq") ∷ number (decimal c.next_seq) ∷ [])
    (key (codes "sent") ∷ [])
    (data_tokens (sent_data c.sent))
    (key (codes "shown") ∷ [])
    (data_tokens (shown_data (shown_document c)))
    (key (codes "v") ∷ number (decimal c.version) ∷ [])
    (end_object ∷ [])
