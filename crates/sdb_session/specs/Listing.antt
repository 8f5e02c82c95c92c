-- Listings, which are written in parts: the entries of a log from a version on, or the first ones of a new queue.
use Rattle.std.specs.Prelude.{◌≡◌, ⊤, ℕ, ◌+◌, ◌-◌, ◌<◌, ◌≤◌, ◌⊎◌, List, [], ◌∷◌, ◌++◌, false, Option, Some, None, Result, Ok, Err}
use Rattle.sdb_oplog.specs.Keys.{PlainKey}
use Rattle.sdb_desk.specs.Machine.{PlainSubscribeResult}
use Rattle.sdb_projection.specs.Table.{PlainProjection}
use Rattle.sdb_submit.specs.Calls.{current_version, ops_between, subscribe as subscribe_call, take_next, unsubscribe as unsubscribe_call}
use Rattle.sdb_submit.specs.SubmitLoop.{CallRelation, PlainBatch, total_size, entries_of, ReadsBatches, TakesBatches}
use Rattle.sdb_wire.specs.Wire.{PlainEcho, parse_message, PlainRequest, fetch, subscribe}
use Rattle.sdb_wire.specs.Answers.{PlainAnswer, list_end, caught_up}
use Rattle.sdb_session.specs.PolicyModel.{PlainPolicy}
use Rattle.sdb_session.specs.ProjectionModel.{projection_of_key, base_key}
use Rattle.sdb_session.specs.Responses.{entry_answers, CloseCalls, RequestOutcome, RequestInterrupted, TextOutcome, TextInterrupted}
use Rattle.sdb_session.specs.Sessions.{PlainSession, queue_of, is_subscription_full, with_subscription}
use Rattle.sdb_oplog.specs.declared.codes.Code.{Code}

-- what is left of a listing
pub record PlainListing : Type 0 where
  -- the client's key, and the base document's
  pub key : PlainKey
  pub base : PlainKey
  -- the version of the next entry, and the one at which the listing ends
  pub next : ℕ
  pub end : ℕ
  -- the new queue that delivers the entries, if the client subscribes
  pub queue : Option ℕ

abbrev pub entries_left : PlainListing → ℕ
entries_left l = l.end - l.next

-- the answer that follows the entries
abbrev pub end_answer : Option ℕ → PlainKey → PlainAnswer
end_answer None k = list_end k
end_answer (Some n) k = caught_up k

-- ---- the calls
module _ {P : Type 0} (acts : PlainKey → CallRelation P) where
  -- entries are read from a version on, in consecutive batches
  abbrev pub ReadsFrom : Option ℕ → PlainKey → ℕ → List PlainBatch → P → P → Type 0
  ReadsFrom None b v xs p q = ReadsBatches (acts b) v xs p q
  ReadsFrom (Some n) b v xs p q = TakesBatches (acts b) n xs p q

  -- an allocation fails for a batch
  abbrev pub FailsToRead : Option ℕ → PlainKey → ℕ → ℕ → P → P → Type 0
  FailsToRead None b v end p q = (n : ℕ) × (acts b (ops_between v n) p None q × (n ≤ end))
  FailsToRead (Some i) b v end p q = (n : ℕ) × acts b (take_next i n) p None q

  -- the new queue, if any, is closed
  abbrev pub ClosesNewQueue : Option ℕ → PlainKey → P → P → Type 0
  ClosesNewQueue None b p q = q ≡ p
  ClosesNewQueue (Some i) b p q = acts b (unsubscribe_call i) p tt q

  -- the new queue, if any, replaces the old one of the key
  abbrev pub ReplacesQueue : Option ℕ → PlainKey → PlainKey → PlainSession → P → PlainSession → P → Type 0
  ReplacesQueue None k b s p new q = (q ≡ p) × (new ≡ s)
  ReplacesQueue (Some i) k b s p new q =
      CloseCalls acts (queue_of k s.subs) p q × (new ≡ with_subscription s k (record { base = b; id = i }))

  -- the listing of a log is opened
  pub record LogListingOpens (b k : PlainKey) (v : ℕ) (p : P) (l : PlainListing) (q : P) : Type 0 where
    pub end : ℕ
    pub reads : acts b current_version p end q
    pub within : v ≤ end
    pub listing_is : l ≡ record { key = k; base = b; next = v; end = end; queue = None }

  -- the listing of the first entries of a new queue is opened
  pub record QueueListingOpens (s : PlainSession) (b k : PlainKey) (v : ℕ) (p : P) (l : PlainListing) (q : P) : Type 0 where
    pub opened : PlainSubscribeResult
    pub not_full : is_subscription_full k s.subs ≡ false
    pub opens : acts b (subscribe_call (Some v)) p (Ok opened) q
    pub listing_is : l ≡ record { key = k; base = b; next = v; end = opened.version; queue = Some opened.id }

  -- a listing without written entries is opened for a request
  abbrev pub ListingOpens : List PlainProjection → PlainSession → PlainRequest → P → PlainListing → P → Type 0
  ListingOpens t s (fetch k (Some v)) p l q = LogListingOpens (base_key t k) k v p l q
  ListingOpens t s (subscribe k (Some v)) p l q = QueueListingOpens s (base_key t k) k v p l q
  ListingOpens t s r p l q = ⊥

  -- some entries are read and written, and others are left
  pub record ListingContinues (t : List PlainProjection) (l : PlainListing) (p : P) (rest : PlainListing)
      (says : List PlainAnswer → Type 0) (q : P) : Type 0 where
    pub batches : List PlainBatch
    pub reads : ReadsFrom l.queue l.base l.next batches p q
    pub advances : rest ≡ record l { next = l.next + total_size batches }
    pub some_left : 0 < entries_left rest
    pub said : says (entry_answers (projection_of_key t l.key) l.key (entries_of batches))

  -- the last entries are read and written, and the answer that follows them
  pub record ListingFinishes (t : List PlainProjection) (l : PlainListing) (s : PlainSession) (p : P)
      (says : List PlainAnswer → Type 0) (new : PlainSession) (q : P) : Type 0 where
    pub batches : List PlainBatch
    pub between : P
    pub reads : ReadsFrom l.queue l.base l.next batches p between
    pub all : total_size batches ≡ entries_left l
    pub replaces : ReplacesQueue l.queue l.key l.base s between new q
    pub said : says (entry_answers (projection_of_key t l.key) l.key (entries_of batches) ++ end_answer l.queue l.key ∷ [])

  -- some entries are read, perhaps an allocation fails, and the new queue is closed
  pub record ListingInterrupted (l : PlainListing) (p q : P) : Type 0 where
    pub batches : List PlainBatch
    pub between : P
    pub last : P
    pub reads : ReadsFrom l.queue l.base l.next batches p between
    pub fails : (last ≡ between) ⊎ FailsToRead l.queue l.base (l.next + total_size batches) l.end between last
    pub closes : ClosesNewQueue l.queue l.base last q

  -- the request has opened a listing, of which entries are left
  pub record ListingBegins (t : List PlainProjection) (s : PlainSession) (r : PlainRequest) (p : P) (rest : PlainListing)
      (says : List PlainAnswer → Type 0) (q : P) : Type 0 where
    pub opened : PlainListing
    pub between : P
    pub opens : ListingOpens t s r p opened between
    pub continues : ListingContinues t opened between rest says q

  abbrev pub MessageBegins : Result PlainRequest Code → List PlainProjection → PlainSession → P → PlainListing
      → (List PlainAnswer → Type 0) → P → Type 0
  MessageBegins (Ok r) t s p rest says q = ListingBegins t s r p rest says q
  MessageBegins (Err code) t s p rest says q = ⊥

  -- the text has opened a listing, of which entries are left
  abbrev pub TextBegins : List ℕ → List PlainProjection → PlainSession → P → PlainListing → (List PlainAnswer → Type 0) → P
      → Type 0
  TextBegins text t s p rest says q = MessageBegins (parse_message text).request t s p rest says q

-- ---- the outcomes

-- all is done, or a listing is left and the session is unchanged; after an allocation failure it has stopped
abbrev pub PartOutcome : {E S P : Type 0} → Result (Option PlainListing) E → ((List PlainAnswer → Type 0) → S → P → Type 0)
    → (PlainListing → (List PlainAnswer → Type 0) → P → Type 0) → (S → P → Type 0) → (List PlainAnswer → Type 0) → S → S → P
    → Type 0
PartOutcome (Ok None) done continues stops says s new q = done says new q
PartOutcome (Ok (Some rest)) done continues stops says s new q = continues rest says q × (new ≡ s)
PartOutcome (Err e) done continues stops says s new q = stops new q

-- after an allocation failure nothing was called, or the calls were interrupted, or all were made and not all answers
-- were written
abbrev pub StopsOrDone : {S P : Type 0} → ((List PlainAnswer → Type 0) → S → P → Type 0) → (P → P → Type 0) → S → P → S → P
    → Type 0
StopsOrDone done breaks s p new q = ((new ≡ s) × ((q ≡ p) ⊎ breaks p q)) ⊎ done (λ answers. ⊤) new q

-- after an allocation failure a listing was interrupted, or the last answer was not written
abbrev pub InterruptsOrDone : {S P : Type 0} → ((List PlainAnswer → Type 0) → S → P → Type 0) → (P → P → Type 0) → S → P → S → P
    → Type 0
InterruptsOrDone done breaks s p new q = ((new ≡ s) × breaks p q) ⊎ done (λ answers. ⊤) new q

module _ {P : Type 0} (acts : PlainKey → CallRelation P) {E : Type 0} where
  -- the outcome of a request, of which a listing may be left
  abbrev pub RequestPart : PlainEcho → PlainPolicy → ℕ → ℕ → PlainSession → PlainRequest → P → Result (Option PlainListing) E
      → (List PlainAnswer → Type 0) → PlainSession → P → Type 0
  RequestPart e pol by now s r p result says new q =
      PartOutcome result (RequestOutcome acts e pol by now s r p) (ListingBegins acts pol.projections s r p)
      (StopsOrDone (RequestOutcome acts e pol by now s r p) (RequestInterrupted acts pol.projections r) s p) says s new q

  -- the outcome of a text, of which a listing may be left
  abbrev pub TextPart : List ℕ → PlainPolicy → ℕ → ℕ → PlainSession → P → Result (Option PlainListing) E
      → (List PlainAnswer → Type 0) → PlainSession → P → Type 0
  TextPart text pol by now s p result says new q =
      PartOutcome result (TextOutcome acts text pol by now s p) (TextBegins acts text pol.projections s p)
      (StopsOrDone (TextOutcome acts text pol by now s p) (TextInterrupted acts text pol.projections) s p) says s new q

  -- the outcome of the next part of a listing
  abbrev pub ListingPart : List PlainProjection → PlainListing → PlainSession → P → Result (Option PlainListing) E
      → (List PlainAnswer → Type 0) → PlainSession → P → Type 0
  ListingPart t l s p result says new q =
      PartOutcome result (ListingFinishes acts t l s p) (ListingContinues acts t l p)
      (InterruptsOrDone (ListingFinishes acts t l s p) (ListingInterrupted acts l) s p) says s new q
