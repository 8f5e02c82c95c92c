-- Pumps: one read of each queue, and the answers for the entries read.
use Rattle.std.specs.Prelude.{◌≡◌, ℕ, ◌+◌, ◌⊎◌, List, [], ◌∷◌, ◌++◌, length, map, filter, Bool, nat_eq, not, ◌&&◌, Option, Some, Result, Ok, Err, bytes_eq, slice_get, option_to_list}
use Rattle.sdb_oplog.specs.Plain.{PlainEntry}
use Rattle.sdb_oplog.specs.Keys.{PlainKey}
use Rattle.sdb_projection.specs.Table.{PlainProjection}
use Rattle.sdb_submit.specs.Calls.{take_next, unsubscribe}
use Rattle.sdb_submit.specs.SubmitLoop.{CallRelation, taken_or_empty}
use Rattle.sdb_wire.specs.Answers.{PlainAnswer}
use Rattle.sdb_session.specs.ProjectionModel.{projection_of_key}
use Rattle.sdb_session.specs.Sessions.{QueueId, PlainSubscription, PlainSession}
use Rattle.sdb_session.specs.Responses.{entry_answers}

-- a subscription and the entries read from its queue
pub record PlainTake : Type 0 where
  pub sub : PlainSubscription
  pub entries : List PlainEntry

-- whether the session of this pass number and source submitted the entry through this collection name
abbrev pub is_own_entry : ℕ → List ℕ → PlainKey → PlainEntry → Bool
is_own_entry by source k e = nat_eq e.arrived.by by && (bytes_eq e.arrived.src source && bytes_eq e.arrived.via k.collection)

abbrev pub entries_of_others : ℕ → List ℕ → PlainKey → List PlainEntry → List PlainEntry
entries_of_others by source k = filter (λ e. not (is_own_entry by source k e))

abbrev pub take_answers : List PlainProjection → ℕ → List ℕ → PlainTake → List PlainAnswer
take_answers t by source x =
    entry_answers (projection_of_key t x.sub.key) x.sub.key (entries_of_others by source x.sub.key x.entries)

abbrev pub pump_answers : List PlainProjection → ℕ → List ℕ → List PlainTake → List PlainAnswer
pump_answers t by source [] = []
pump_answers t by source (x ∷ xs) = take_answers t by source x ++ pump_answers t by source xs

abbrev pub pump_count : List PlainTake → ℕ
pump_count [] = 0
pump_count (x ∷ xs) = length x.entries + pump_count xs

-- the session with only its subscription at this position, or with none if there is no such subscription
abbrev pub only_sub_at : ℕ → PlainSession → PlainSession
only_sub_at n s = record s { subs = option_to_list (slice_get s.subs n) }

module _ {P : Type 0} (acts : PlainKey → CallRelation P) (max : ℕ) where
  abbrev pub TakeCall : QueueId → P → Option (List PlainEntry) → P → Type 0
  TakeCall s p o q = (a : Option (Option (List PlainEntry))) × (acts s.base (take_next s.id max) p a q × (taken_or_empty a ≡ o))

  -- one read of each queue, in order
  unfoldable pub TakeCalls : List PlainTake → P → P → Type 0
  TakeCalls [] p q = q ≡ p
  TakeCalls (x ∷ xs) p q = (m : P) × (TakeCall x.sub.queue p (Some x.entries) m × TakeCalls xs m q)

  -- each queue is read, in the order of the subscriptions, and the answers for its entries are written
  pub record PumpRelation (t : List PlainProjection) (by : ℕ) (s : PlainSession) (p : P) (count : ℕ)
      (says : List PlainAnswer → Type 0) (q : P) : Type 0 where
    pub takes : List PlainTake
    pub subs_are : map (λ x. x.sub) takes ≡ s.subs
    pub calls : TakeCalls takes p q
    pub count_is : count ≡ pump_count takes
    pub said : says (pump_answers t by s.source takes)

  -- some of the queues were read, in order, and perhaps one more read was made
  pub record PumpInterrupted (s : PlainSession) (p q : P) : Type 0 where
    pub takes : List PlainTake
    pub subs_left : List PlainSubscription
    pub between : P
    pub subs_are : map (λ x. x.sub) takes ++ subs_left ≡ s.subs
    pub calls : TakeCalls takes p between
    pub last : (q ≡ between) ⊎ ((x : QueueId) × ((o : Option (List PlainEntry)) × TakeCall x between o q))

  -- all queues are read, or some of them if an allocation fails
  abbrev pub PumpOutcome : {E : Type 0} → List PlainProjection → ℕ → PlainSession → P → Result ℕ E → (List PlainAnswer → Type 0) → P
      → Type 0
  PumpOutcome t by s p (Ok count) says q = PumpRelation t by s p count says q
  PumpOutcome t by s p (Err e) says q = PumpInterrupted s p q

module _ {P : Type 0} (acts : PlainKey → CallRelation P) where
  -- each queue is closed, in order
  unfoldable pub CloseAllCalls : List PlainSubscription → P → P → Type 0
  CloseAllCalls [] p q = q ≡ p
  CloseAllCalls (s ∷ subs) p q = (m : P) × (acts s.queue.base (unsubscribe s.queue.id) p tt m × CloseAllCalls subs m q)
