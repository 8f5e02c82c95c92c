-- The messages of the machine are those of a session of `sdb_session`, for a document without projection.
use Rattle.std.specs.Prelude.{◌≡◌, ℕ, List, [], ◌∷◌, map, drop, Option, Some, None, ⊤}
use Rattle.sdb_oplog.specs.Plain.{PlainEntry}
use Rattle.sdb_oplog.specs.Keys.{PlainKey}
use Rattle.sdb_oplog.specs.Decide.{PlainReply, stored, repeated, refused}
use Rattle.sdb_oplog.specs.declared.codes.Code.{Code}
use Rattle.sdb_wire.specs.Wire.{PlainEcho}
use Rattle.sdb_wire.specs.Answers as wire
use Rattle.sdb_wire.specs.Answers.{PlainAnswer}
use Rattle.sdb_session.specs.Responses as session
use Rattle.sdb_session.specs.Responses.{PlainSubscribeReply, entry_answers}
use Rattle.sdb_session.specs.PumpModel as pump
use Rattle.sdb_client_model.specs.Messages.{ServerMessage, op_message, caught_up, acknowledged, failed, subscribe_answers, submit_answers, subscription_messages}

-- the answer of a session that is this message of the machine; a refusal has an echo and a code
abbrev pub answer_of : PlainKey → List ℕ → PlainEcho → Code → ServerMessage → PlainAnswer
answer_of k source e code (op_message x) = wire.op_message k x
answer_of k source e code caught_up = wire.caught_up k
answer_of k source e code (acknowledged seq v) = wire.acknowledged k source seq v
answer_of k source e code (failed seq) = wire.failed e code

-- the reply is no refusal with another code
abbrev pub RefusesOnlyWith : Code → PlainReply → Type 0
RefusesOnlyWith code (stored v missed) = ⊤
RefusesOnlyWith code (repeated v) = ⊤
RefusesOnlyWith code (refused other) = other ≡ code

-- the answers to a submission
abbrev pub SubmissionsAreAnsweredAlike : Type 0
SubmissionsAreAnsweredAlike =
    (k : PlainKey) (source : List ℕ) (e : PlainEcho) (code : Code) (seq : ℕ) (r : PlainReply) → RefusesOnlyWith code r
    → session.submit_answers e None k source seq r ≡ map (answer_of k source e code) (submit_answers seq r)

-- the answers to `s` with a version, whose entries are those from there on
abbrev pub SubscriptionsAreAnsweredAlike : Type 0
SubscriptionsAreAnsweredAlike =
    (k : PlainKey) (source : List ℕ) (e : PlainEcho) (code : Code) (log : List PlainEntry) (v : ℕ)
    (j : PlainSubscribeReply) → j.first ≡ drop v log
    → session.subscribe_answers None k (Some v) j ≡ map (answer_of k source e code) (subscribe_answers log v)

-- what a pump writes for an entry of a subscription
abbrev pub EntriesArePumpedAlike : Type 0
EntriesArePumpedAlike =
    (k : PlainKey) (source : List ℕ) (e : PlainEcho) (code : Code) (by : ℕ) (x : PlainEntry)
    → entry_answers None k (pump.entries_of_others by source k (x ∷ []))
    ≡ map (answer_of k source e code) (subscription_messages by source k.collection x)
