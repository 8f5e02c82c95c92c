-- A client of one document that shows its edits at once, as in `docs/CLIENT_ALGORITHM.md`. As a client of Jupiter or
-- ShareDB it has at most one edit that is sent and not acknowledged. It transforms its pending edits against each edit
-- of another client that it processes, as the left operations.
use Rattle.std.specs.Prelude.{ℕ, ◌+◌, List, [], ◌∷◌, ◌++◌, Bool, false, if◌then◌else◌, Option, Some, None, option_map, option_and_then}
use Rattle.sdb_value.specs.Value.{Value}
use Rattle.sdb_component.specs.Plain.{PlainComponent}
use Rattle.sdb_apply.specs.Apply.{apply}
use Rattle.sdb_transform.specs.Cross.{and_then, cross_ops}
use Rattle.sdb_oplog.specs.Plain.{PlainContent, create, delete, edit, PlainEntry}
use Rattle.sdb_oplog.specs.Snap.{has_identifier}

-- an edit that is sent: its seq, its base version, and its operation as it was sent
pub record SentEdit : Type 0 where
  pub seq : ℕ
  pub base : ℕ
  pub operation : List PlainComponent

pub record Client : Type 0 where
  -- the number of entries that the client has processed, and the document after them
  pub version : ℕ
  pub document : Value
  -- its edits that aren't acknowledged, each made on the result of the one before. If an edit is sent, the first one
  -- is that edit, transformed; the other ones are the queue.
  pub pending : List (List PlainComponent)
  pub sent : Option SentEdit
  pub next_seq : ℕ

-- the value after the operations in sequence
abbrev pub apply_all : List (List PlainComponent) → Value → Option Value
apply_all [] d = Some d
apply_all (op ∷ ops) d = option_and_then (apply_all ops) (apply op d)

-- the document with the pending edits: what the client's user sees
abbrev pub shown_document : Client → Option Value
shown_document c = apply_all c.pending c.document

-- the pending edits that aren't sent
abbrev pub queue_after : Option SentEdit → List (List PlainComponent) → List (List PlainComponent)
queue_after None ops = ops
queue_after (Some t) [] = []
queue_after (Some t) (op ∷ ops) = ops

abbrev pub queued_edits : Client → List (List PlainComponent)
queued_edits c = queue_after c.sent c.pending

-- ---- an own edit

abbrev pub after_edit : List PlainComponent → Client → Client
after_edit op c =
    record {
      version = c.version;
      document = c.document;
      pending = c.pending ++ op ∷ [];
      sent = c.sent;
      next_seq = c.next_seq;
    }

-- the submission of the first pending edit
abbrev pub next_sent : Client → List PlainComponent → SentEdit
next_sent c op = record { seq = c.next_seq; base = c.version; operation = op }

abbrev pub after_send : List PlainComponent → Client → Client
after_send op c =
    record {
      version = c.version;
      document = c.document;
      pending = c.pending;
      sent = Some (next_sent c op);
      next_seq = c.next_seq + 1;
    }

-- ---- an entry

-- pending operations transformed against a received one, and the received one against them
pub record PendingCrossing : Type 0 where
  pub pending : List (List PlainComponent)
  pub received : List PlainComponent

-- X(P1, R) = (P1', Ra), X(P2, Ra) = (P2', Rb), ..: pending is left and received is right, as in the server's rebase
abbrev pub cross_pending : List (List PlainComponent) → List PlainComponent → Option PendingCrossing
cross_pending [] received = Some (record { pending = []; received = received })
cross_pending (op ∷ ops) received =
    and_then (cross_ops op received) (λ x.
    and_then (cross_pending ops x.right) (λ y.
    Some (record { pending = x.left ∷ y.pending; received = y.received })))

-- whether the entry is the sent edit
abbrev pub is_sent_edit : List ℕ → Option SentEdit → PlainEntry → Bool
is_sent_edit source None e = false
is_sent_edit source (Some t) e = has_identifier source t.seq e

-- after the acknowledgement of the sent edit: the first pending operation is applied to the document
abbrev pub after_acknowledgement : Client → List (List PlainComponent) → Option Client
after_acknowledgement c [] = None
after_acknowledgement c (op ∷ ops) =
    option_map
    (λ d. record { version = c.version + 1; document = d; pending = ops; sent = None; next_seq = c.next_seq })
    (apply op c.document)

-- after another one's edit: it is applied to the document, and what is pending is transformed against it
abbrev pub after_received : Client → List PlainComponent → Option Client
after_received c received =
    and_then (apply received c.document) (λ d.
    and_then (cross_pending c.pending received) (λ x.
    Some (record { version = c.version + 1; document = d; pending = x.pending; sent = c.sent; next_seq = c.next_seq })))

-- after the content of another one's entry; this model has no create and no delete
abbrev pub after_content : Client → PlainContent → Option Client
after_content c (create v) = None
after_content c delete = None
after_content c (edit op) = after_received c op

-- after the entry at its version
abbrev pub after_entry : List ℕ → PlainEntry → Client → Option Client
after_entry source e c =
    if is_sent_edit source c.sent e then after_acknowledgement c c.pending else after_content c e.content
