-- The views of sessions and answers.
use Rattle.std.specs.Prelude.{◌≡◌, ◌++◌, ⊤, ℕ, Bool, true, List, map, Option, Some, None, option_map, Result, Ok, Err, string_bytes, Vec}
use Rattle.std.specs.Borrow.{Bor}
use Rattle.std.specs.Option.{is_some}
use Rattle.std.specs.declared.alloc.AllocError.{AllocError}
use Rattle.std.specs.declared.alloc.Global.{Global}
use Rattle.json.specs.declared.value.Value.{Value}
use Rattle.sdb_oplog.specs.Plain.{PlainEntry}
use Rattle.sdb_oplog.specs.Keys.{plain_key}
use Rattle.sdb_oplog.specs.declared.keys.Key.{Key}
use Rattle.sdb_desk.specs.Machine.{PlainSubscribeResult}
use Rattle.sdb_desk.specs.declared.shard.SubscribeResult.{SubscribeResult}
use Rattle.sdb_value.specs.View.{value_of}
use Rattle.sdb_projection.specs.Table.{PlainProjection}
use Rattle.sdb_projection.specs.View.{plain_projection}
use Rattle.sdb_projection.specs.declared.projection.Projection.{Projection}
use Rattle.sdb_wire.specs.Wire.{PlainEcho}
use Rattle.sdb_wire.specs.Answers.{PlainAnswer}
use Rattle.sdb_wire.specs.View.{echo_or_empty}
use Rattle.sdb_session.specs.Sessions.{QueueId, PlainSubscription, PlainSession}
use Rattle.sdb_session.specs.Output.{answer_items}
use Rattle.sdb_session.specs.declared.pump.Pumped.{Pumped}
use Rattle.sdb_session.specs.declared.session.Session.{Session}
use Rattle.sdb_session.specs.declared.subscriptions.Subscription.{Subscription}

abbrev pub queue_id_of : Subscription → QueueId
queue_id_of s = record { base = plain_key s.base; id = s.id }

abbrev pub plain_subscription : Key × Subscription → PlainSubscription
plain_subscription e = record { key = plain_key e.0; queue = queue_id_of e.1 }

abbrev pub plain_session : Session → PlainSession
plain_session s = record { source = string_bytes s.source; subs = map plain_subscription s.subscriptions.entries }

-- whether the session has ended
abbrev pub has_ended : Session → Bool
has_ended s = is_some s.ended

-- a call ends the session if and only if it fails. After the end each call fails, calls nothing and changes nothing
pub record EndsOnError {P : Type 0} (failed : Bool) (old : Session) (p : P) (new : Session) (q : P) : Type 0 where
  pub ended : has_ended new ≡ failed
  pub stays_ended : has_ended old ≡ true → failed ≡ true
  pub unchanged_after_end : has_ended old ≡ true → (q ≡ p) × (plain_session new ≡ plain_session old)

-- the echo of a message, as an error repeats it
abbrev pub echo_of_message : Option (Bor (Value Global)) → PlainEcho
echo_of_message m = echo_or_empty (option_map (λ v. v.now) m)

abbrev pub plain_projection_option : Option (Bor Projection) → Option PlainProjection
plain_projection_option o = option_map (λ p. plain_projection p.now) o

abbrev pub plain_opened : SubscribeResult → PlainSubscribeResult
plain_opened s = record { id = s.id; start = s.start; version = s.version; snapshot = option_map value_of s.snapshot }

-- the entries that were read; `None` means that an allocation failed
abbrev pub taken_entries_view : Result (Vec PlainEntry Global) AllocError → Option (List PlainEntry)
taken_entries_view (Ok v) = Some v.items
taken_entries_view (Err e) = None

-- the number of entries that a pump read
abbrev pub pumped_count : {E : Type 0} → Result Pumped E → Result ℕ E
pumped_count (Ok r) = Ok r.taken
pumped_count (Err e) = Err e

-- these answers were appended
abbrev pub WroteAnswers : {A : Type 0} → (PlainAnswer → List A) → List A → List A → List PlainAnswer → Type 0
WroteAnswers f old new answers = new ≡ old ++ answer_items f answers

-- the answers are written, unless the call failed
abbrev pub OutputUnlessFailed : {A E : Type 0} → Result A E → (List PlainAnswer → Type 0) → List PlainAnswer → Type 0
OutputUnlessFailed (Ok x) said answers = said answers
OutputUnlessFailed (Err e) said answers = ⊤
