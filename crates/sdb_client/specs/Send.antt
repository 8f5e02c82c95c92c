-- What a client sends.
use Rattle.std.specs.Prelude.{List, [], ◌∷◌, Option, Some, None, option_map}
use Rattle.std.specs.Option.{option_map_or}
use Rattle.sdb_component.specs.Plain.{PlainComponent}
use Rattle.sdb_client_model.specs.Client.{SentEdit, Client, next_sent, after_send}

-- the first pending operation, if no edit is sent
abbrev pub first_unsent :
    Option SentEdit → List (List PlainComponent) → Option (List PlainComponent)
first_unsent (Some t) ops = None
first_unsent None [] = None
first_unsent None (op ∷ ops) = Some op

abbrev pub sendable_operation : Client → Option (List PlainComponent)
sendable_operation c = first_unsent c.sent c.pending

-- the edit that the client can send
abbrev pub sendable_edit : Client → Option SentEdit
sendable_edit c = option_map (next_sent c) (sendable_operation c)

-- the client after it is sent; unchanged if there is none
abbrev pub client_after_send : Client → Client
client_after_send c = option_map_or (λ op. after_send op c) (sendable_operation c) c
