-- The handling of one message: the session's calls of a desk, and the answers to the replies.
use Rattle.std.specs.Prelude.{◌≡◌, ⊤, ℕ, ◌-◌, ◌⊎◌, List, [], ◌∷◌, ◌++◌, map, if◌then◌else◌, nat_lt, Bool, true, false, Option, Some, None, option_map, unwrap_or, Result, Ok, Err}
use Rattle.sdb_oplog.specs.declared.codes.Code.{Code}
use Rattle.sdb_oplog.specs.declared.codes.Code.TheVariants.{E4, E9, E10, E11}
use Rattle.sdb_oplog.specs.Plain.{PlainContent, PlainSubmission, PlainEntry}
use Rattle.sdb_oplog.specs.Keys.{PlainKey}
use Rattle.sdb_oplog.specs.Decide.{PlainReply, stored, repeated, refused}
use Rattle.sdb_desk.specs.Machine.{PlainFetchResult, PlainSubscribeResult}
use Rattle.sdb_projection.specs.Table.{PlainProjection}
use Rattle.sdb_submit.specs.Calls.{current_version, fetch as fetch_call, snapshot as snapshot_call, snapshot_at_time as at_time_call, subscribe as subscribe_call, take_next, unsubscribe as unsubscribe_call}
use Rattle.sdb_submit.specs.SubmitLoop.{CallRelation, SubmitRelation, PlainBatch, total_size, entries_of, TakesBatches, TakesBatchPrefix, ListsAll, ListsPrefix}
use Rattle.sdb_wire.specs.Wire.{PlainEcho, parse_message, PlainRequest, hello, fetch, subscribe, unsubscribe, submit, snapshot, snapshot_at_time}
use Rattle.sdb_wire.specs.Answers.{PlainAnswer, hello_ack, fetched, list_end, subscribed, caught_up, unsubscribed, snapshot as snapshot_answer, snapshot_at_time as at_time_answer, op_message, acknowledged, failed}
use Rattle.sdb_session.specs.PolicyModel.{PlainPolicy, may_submit}
use Rattle.sdb_session.specs.ProjectionModel.{projected_entry, projected_value, projection_of_key, base_key}
use Rattle.sdb_session.specs.Sessions.{QueueId, PlainSession, queue_of, is_subscription_full, with_source, with_subscription, without_subscription}

-- ---- replies of a desk to one message

-- a new queue and its first entries, up to the version at its opening
pub record PlainSubscribeReply : Type 0 where
  pub opened : PlainSubscribeResult
  pub first : List PlainEntry

-- the current document, or the entries from a version on
abbrev pub ReadResult : Option ℕ → Type 0
ReadResult None = Result PlainFetchResult Code
ReadResult (Some v) = Result (List PlainEntry) Code

abbrev pub RequestResult : PlainRequest → Type 0
RequestResult (hello n) = Unit {0}
RequestResult (fetch k v) = ReadResult v
RequestResult (submit k v n src m) = PlainReply
RequestResult (snapshot k v n) = Result PlainFetchResult Code
RequestResult (snapshot_at_time k t n) = Result PlainFetchResult Code
RequestResult (subscribe k v) = Result PlainSubscribeReply Code
RequestResult (unsubscribe k) = Unit {0}

-- the submission of a message; without a source it has the session's
abbrev pub submission_of : PlainSession → PlainKey → Option ℕ → ℕ → Option (List ℕ) → PlainContent → ℕ → PlainSubmission
submission_of s k v n src m by =
    record { src = unwrap_or src s.source; seq = n; version = v; content = m; via = k.collection; by = by }

-- the number of entries from the requested version to the current one
abbrev pub first_batch_len : Option ℕ → ℕ → ℕ
first_batch_len None last = 0
first_batch_len (Some v) last = last - v

-- the code with which a full session refuses a key: its version is too new, or the limit is reached
abbrev pub limit_code : ℕ → ℕ → Code
limit_code v last = if nat_lt last v then E4 else E11

-- ---- the calls at one key
module _ {P : Type 0} (acts : CallRelation P) where
  abbrev pub FetchCalls : (v : Option ℕ) → P → ReadResult v → P → Type 0
  FetchCalls None p r q = acts fetch_call p r q
  FetchCalls (Some v) p r q = ListsAll acts v p r q

  -- a submission at a moment, if it is permitted
  abbrev pub SubmitCalls : Bool → PlainSubmission → ℕ → P → PlainReply → P → Type 0
  SubmitCalls true s now p r q = SubmitRelation acts s now p r q
  SubmitCalls false s now p r q = (r ≡ refused E9) × (q ≡ p)

  -- a full session refuses a new key after reading the current version
  pub record RefusesVersion (v : ℕ) (p : P) (r : Result PlainSubscribeReply Code) (q : P) : Type 0 where
    pub last : ℕ
    pub reads : acts current_version p last q
    pub is_refused : r ≡ Err (limit_code v last)

  -- the refusal of a new key by a full session
  abbrev pub RefuseCalls : Option ℕ → P → Result PlainSubscribeReply Code → P → Type 0
  RefuseCalls None p r q = (r ≡ Err E11) × (q ≡ p)
  RefuseCalls (Some v) p r q = RefusesVersion v p r q

module _ {P : Type 0} (acts : PlainKey → CallRelation P) where
  -- the given queue, if any, is closed
  abbrev pub CloseCalls : Option QueueId → P → P → Type 0
  CloseCalls None p q = q ≡ p
  CloseCalls (Some s) p q = acts s.base (unsubscribe_call s.id) p tt q

  -- the first entries of a new queue are read in batches
  pub record TakesFirst (b : PlainKey) (v : Option ℕ) (o : PlainSubscribeResult) (p : P) (es : List PlainEntry) (q : P)
      : Type 0 where
    pub batches : List PlainBatch
    pub takes : TakesBatches (acts b) o.id batches p q
    pub all : total_size batches ≡ first_batch_len v o.version
    pub entries_are : es ≡ entries_of batches

  -- an allocation fails for the first batch
  abbrev pub FailsToTake : PlainKey → PlainSubscribeResult → P → P → Type 0
  FailsToTake b o p q = (n : ℕ) × acts b (take_next o.id n) p None q

  -- a queue was opened, some of its first entries were read, and it was closed again
  pub record SubscribeInterrupted (b : PlainKey) (v : Option ℕ) (p q : P) : Type 0 where
    pub opened : PlainSubscribeResult
    pub after_open : P
    pub after_takes : P
    pub opens : acts b (subscribe_call v) p (Ok opened) after_open
    pub takes : TakesBatchPrefix (acts b) opened.id after_open after_takes
    pub closes : acts b (unsubscribe_call opened.id) after_takes tt q

  -- a queue is opened, and closed again after an allocation failure
  pub record OpensAndCloses (b : PlainKey) (v : Option ℕ) (p : P) (fails : PlainSubscribeResult → P → P → Type 0)
      (code : Code) (q : P) : Type 0 where
    pub opened : PlainSubscribeResult
    pub after_open : P
    pub after_failure : P
    pub opens : acts b (subscribe_call v) p (Ok opened) after_open
    pub fails_after : fails opened after_open after_failure
    pub closes : acts b (unsubscribe_call opened.id) after_failure tt q
    pub is_memory : code ≡ E10

  -- a queue is opened, its first entries are read, and the old queue is closed
  pub record OpensAndTakes (b : PlainKey) (v : Option ℕ) (old : Option QueueId) (p : P) (j : PlainSubscribeReply) (q : P)
      : Type 0 where
    pub after_open : P
    pub after_takes : P
    pub opens : acts b (subscribe_call v) p (Ok j.opened) after_open
    pub takes : TakesFirst b v j.opened after_open j.first after_takes
    pub closes : CloseCalls old after_takes q

  -- a queue is opened and its first entries are read; if an allocation fails, the new queue is closed again
  abbrev pub OpenAndTakeCalls : PlainKey → Option ℕ → Option QueueId → P → Result PlainSubscribeReply Code → P → Type 0
  OpenAndTakeCalls b v old p (Ok j) q = OpensAndTakes b v old p j q
  OpenAndTakeCalls b v old p (Err code) q =
      acts b (subscribe_call v) p (Err code) q ⊎ OpensAndCloses b v p (FailsToTake b) code q

  abbrev pub SubscribeCalls : Bool → PlainKey → Option ℕ → Option QueueId → P → Result PlainSubscribeReply Code → P → Type 0
  SubscribeCalls true b v old p r q = RefuseCalls (acts b) v p r q
  SubscribeCalls false b v old p r q = OpenAndTakeCalls b v old p r q

  -- the calls of the desk for one message, under a policy; `by` is the pass number, `now` the moment of the message
  abbrev pub RequestCalls : PlainPolicy → ℕ → ℕ → PlainSession → (r : PlainRequest) → P → RequestResult r → P → Type 0
  RequestCalls pol by now s (hello n) p r q = q ≡ p
  RequestCalls pol by now s (fetch k v) p r q = FetchCalls (acts (base_key pol.projections k)) v p r q
  RequestCalls pol by now s (submit k v n src m) p r q =
      SubmitCalls (acts (base_key pol.projections k)) (may_submit pol (unwrap_or src s.source) k m)
      (submission_of s k v n src m by) now p r q
  RequestCalls pol by now s (snapshot k v n) p r q = acts (base_key pol.projections k) (snapshot_call v) p r q
  RequestCalls pol by now s (snapshot_at_time k m n) p r q = acts (base_key pol.projections k) (at_time_call m) p r q
  RequestCalls pol by now s (subscribe k v) p r q =
      SubscribeCalls (is_subscription_full k s.subs) (base_key pol.projections k) v (queue_of k s.subs) p r q
  RequestCalls pol by now s (unsubscribe k) p r q = CloseCalls (queue_of k s.subs) p q

-- ---- answers to the reply

-- the answers, and the session after them
pub record Response : Type 0 where
  pub answers : List PlainAnswer
  pub session : PlainSession

abbrev pub entry_answers : Option PlainProjection → PlainKey → List PlainEntry → List PlainAnswer
entry_answers o k = map (λ e. op_message k (projected_entry o e))

abbrev pub fetch_answers : PlainEcho → Option PlainProjection → PlainKey → Result PlainFetchResult Code → List PlainAnswer
fetch_answers e o k (Ok f) = fetched k f.version (option_map (projected_value o) f.snapshot) ∷ []
fetch_answers e o k (Err code) = failed e code ∷ []

abbrev pub list_answers : PlainEcho → Option PlainProjection → PlainKey → Result (List PlainEntry) Code
    → List PlainAnswer
list_answers e o k (Ok es) = entry_answers o k es ++ list_end k ∷ []
list_answers e o k (Err code) = failed e code ∷ []

abbrev pub read_answers : PlainEcho → Option PlainProjection → PlainKey → (v : Option ℕ) → ReadResult v → List PlainAnswer
read_answers e o k None r = fetch_answers e o k r
read_answers e o k (Some v) r = list_answers e o k r

abbrev pub submit_answers : PlainEcho → Option PlainProjection → PlainKey → List ℕ → ℕ → PlainReply → List PlainAnswer
submit_answers e o k src seq (stored v missed) = entry_answers o k missed ++ acknowledged k src seq v ∷ []
submit_answers e o k src seq (repeated v) = acknowledged k src seq v ∷ []
submit_answers e o k src seq (refused code) = failed e code ∷ []

abbrev pub snapshot_answers : PlainEcho → Option PlainProjection → ℕ → Result PlainFetchResult Code → List PlainAnswer
snapshot_answers e o n (Ok f) = snapshot_answer n f.version (option_map (projected_value o) f.snapshot) ∷ []
snapshot_answers e o n (Err code) = failed e code ∷ []

abbrev pub moment_answers : PlainEcho → Option PlainProjection → ℕ → Result PlainFetchResult Code → List PlainAnswer
moment_answers e o n (Ok f) = at_time_answer n f.version (option_map (projected_value o) f.snapshot) ∷ []
moment_answers e o n (Err code) = failed e code ∷ []

-- the document, or the entries from the requested version on
abbrev pub subscribe_answers : Option PlainProjection → PlainKey → Option ℕ → PlainSubscribeReply → List PlainAnswer
subscribe_answers o k None j = subscribed k j.opened.version (option_map (projected_value o) j.opened.snapshot) ∷ []
subscribe_answers o k (Some v) j = entry_answers o k j.first ++ caught_up k ∷ []

abbrev pub subscribe_response : PlainEcho → List PlainProjection → PlainSession → PlainKey → Option ℕ → Result PlainSubscribeReply Code
    → Response
subscribe_response e t s k v (Ok j) =
    record {
      answers = subscribe_answers (projection_of_key t k) k v j;
      session = with_subscription s k (record { base = base_key t k; id = j.opened.id });
    }
subscribe_response e t s k v (Err code) = record { answers = failed e code ∷ []; session = s }

abbrev pub response_of : PlainEcho → List PlainProjection → PlainSession → (r : PlainRequest) → RequestResult r → Response
response_of e t s (hello n) r = record { answers = hello_ack (with_source s n).source ∷ []; session = with_source s n }
response_of e t s (fetch k v) r = record { answers = read_answers e (projection_of_key t k) k v r; session = s }
response_of e t s (submit k v n src m) r =
    record { answers = submit_answers e (projection_of_key t k) k (unwrap_or src s.source) n r; session = s }
response_of e t s (snapshot k v n) r = record { answers = snapshot_answers e (projection_of_key t k) n r; session = s }
response_of e t s (snapshot_at_time k m n) r = record { answers = moment_answers e (projection_of_key t k) n r; session = s }
response_of e t s (subscribe k v) r = subscribe_response e t s k v r
response_of e t s (unsubscribe k) r = record { answers = unsubscribed k ∷ []; session = without_subscription s k }

-- ---- one message at a moment: the desk gives a reply, and the session's response follows from it
module _ {P : Type 0} (acts : PlainKey → CallRelation P) where
  pub record RequestOutcome (e : PlainEcho) (pol : PlainPolicy) (by now : ℕ) (s : PlainSession) (r : PlainRequest) (p : P)
      (says : List PlainAnswer → Type 0) (new : PlainSession) (q : P) : Type 0 where
    pub reply : RequestResult r
    pub calls : RequestCalls acts pol by now s r p reply q
    pub session_is : new ≡ (response_of e pol.projections s r reply).session
    pub said : says (response_of e pol.projections s r reply).answers

  -- a message without a request is refused, and nothing changes
  abbrev pub MessageOutcome : PlainEcho → Result PlainRequest Code → PlainPolicy → ℕ → ℕ → PlainSession → P
      → (List PlainAnswer → Type 0) → PlainSession → P → Type 0
  MessageOutcome e (Ok r) pol by now s p says new q = RequestOutcome e pol by now s r p says new q
  MessageOutcome e (Err code) pol by now s p says new q = (q ≡ p) × (new ≡ s) × says (failed e code ∷ [])

  -- the outcome of one text
  abbrev pub TextOutcome : List ℕ → PlainPolicy → ℕ → ℕ → PlainSession → P → (List PlainAnswer → Type 0) → PlainSession
      → P → Type 0
  TextOutcome text pol by now s p says new q =
      MessageOutcome (parse_message text).echo (parse_message text).request pol by now s p says new q

module _ {P : Type 0} (acts : PlainKey → CallRelation P) where
  -- an interrupted request has listed some entries, or has opened a queue and closed it again
  abbrev pub RequestInterrupted : List PlainProjection → PlainRequest → P → P → Type 0
  RequestInterrupted t (fetch k (Some v)) p q = ListsPrefix (acts (base_key t k)) v p q
  RequestInterrupted t (subscribe k v) p q = SubscribeInterrupted acts (base_key t k) v p q
  RequestInterrupted t r p q = ⊥

  abbrev pub MessageInterrupted : List PlainProjection → Result PlainRequest Code → P → P → Type 0
  MessageInterrupted t (Ok r) p q = RequestInterrupted t r p q
  MessageInterrupted t (Err code) p q = ⊥

  abbrev pub TextInterrupted : List ℕ → List PlainProjection → P → P → Type 0
  TextInterrupted text t p q = MessageInterrupted t (parse_message text).request p q

-- the outcome of a call; after an allocation failure nothing was called, or the calls were interrupted, or all were
-- made and not all answers were written
abbrev pub OutcomeOrInterrupted : {R E S P : Type 0} → Result R E → ((List PlainAnswer → Type 0) → S → P → Type 0) → (P → P → Type 0)
    → (List PlainAnswer → Type 0) → S → P → S → P → Type 0
OutcomeOrInterrupted (Ok x) done breaks says s p new q = done says new q
OutcomeOrInterrupted (Err e) done breaks says s p new q =
    ((new ≡ s) × ((q ≡ p) ⊎ breaks p q)) ⊎ done (λ answers. ⊤) new q
