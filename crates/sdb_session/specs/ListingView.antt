-- The views of listings, and the outcome of one batch.
use Rattle.std.specs.Prelude.{◌≡◌, ℕ, ◌+◌, min, List, [], ◌∷◌, Option, Some, None, option_map, Result, Ok, Err}
use Rattle.sdb_oplog.specs.Keys.{PlainKey, plain_key}
use Rattle.sdb_projection.specs.Table.{PlainProjection}
use Rattle.sdb_submit.specs.SubmitLoop.{CallRelation, PlainBatch, total_size, entries_of}
use Rattle.sdb_wire.specs.Answers.{PlainAnswer}
use Rattle.sdb_session.specs.Listing.{PlainListing, entries_left, ReadsFrom, FailsToRead, ClosesNewQueue, ListingContinues, ListingFinishes, ListingInterrupted, InterruptsOrDone}
use Rattle.sdb_session.specs.Sessions.{PlainSession}
use Rattle.sdb_session.specs.Responses.{entry_answers}
use Rattle.sdb_session.specs.declared.listing.BatchFault.{BatchFault}
use Rattle.sdb_session.specs.declared.listing.BatchFault.TheVariants.{NotRead, NotWritten}
use Rattle.sdb_session.specs.declared.listing.Listing.{Listing}

abbrev pub plain_listing : Listing → PlainListing
plain_listing l = record { key = plain_key l.key; base = plain_key l.base; next = l.next; end = l.end; queue = l.queue }

abbrev pub listing_result : {E : Type 0} → Result (Option Listing) E → Result (Option PlainListing) E
listing_result (Ok rest) = Ok (option_map plain_listing rest)
listing_result (Err e) = Err e

-- the result of a request that no listing answers
abbrev pub done_result : {A E : Type 0} → Result A E → Result (Option PlainListing) E
done_result (Ok x) = Ok None
done_result (Err e) = Err e

module _ {P : Type 0} (acts : PlainKey → CallRelation P) where
  -- a batch is read and written, at most `limit` entries
  pub record BatchWritten (o : Option PlainProjection) (limit : ℕ) (l : PlainListing) (p : P) (says : List PlainAnswer → Type 0)
      (new : PlainListing) (q : P) : Type 0 where
    pub batches : List PlainBatch
    pub reads : ReadsFrom acts l.queue l.base l.next batches p q
    pub size_is : total_size batches ≡ min (entries_left l) limit
    pub advances : new ≡ record l { next = l.next + total_size batches }
    pub said : says (entry_answers o l.key (entries_of batches))

  -- a batch is read, and not wholly written
  pub record BatchUnwritten (l : PlainListing) (p : P) (new : PlainListing) (q : P) : Type 0 where
    pub batch : PlainBatch
    pub reads : ReadsFrom acts l.queue l.base l.next (batch ∷ []) p q
    pub unchanged : new ≡ l

  -- a batch is read and written; or it isn't read, or is read and not wholly written
  abbrev pub BatchOutcome : {A : Type 0} → Option PlainProjection → ℕ → PlainListing → P → Result A BatchFault
      → (List PlainAnswer → Type 0) → PlainListing → P → Type 0
  BatchOutcome o limit l p (Ok x) says new q = BatchWritten o limit l p says new q
  BatchOutcome o limit l p (Err (NotRead e)) says new q =
      FailsToRead acts l.queue l.base l.next l.end p q × says [] × (new ≡ l)
  BatchOutcome o limit l p (Err (NotWritten e)) says new q = BatchUnwritten l p new q

  -- nothing was read or written, and the listing is abandoned
  pub record ListingUnread (l : PlainListing) (s : PlainSession) (p : P) (says : List PlainAnswer → Type 0) (new : PlainSession)
      (q : P) : Type 0 where
    pub after_failure : P
    pub fails : FailsToRead acts l.queue l.base l.next l.end p after_failure
    pub closes : ClosesNewQueue acts l.queue l.base after_failure q
    pub said : says []
    pub unchanged : new ≡ s

  -- a part of a listing is written; or nothing was and the listing is abandoned, or an answer isn't written
  abbrev pub PartOrFault : List PlainProjection → PlainListing → PlainSession → P → Result (Option Listing) BatchFault
      → (List PlainAnswer → Type 0) → PlainSession → P → Type 0
  PartOrFault t l s p (Ok None) says new q = ListingFinishes acts t l s p says new q
  PartOrFault t l s p (Ok (Some rest)) says new q = ListingContinues acts t l p (plain_listing rest) says q × (new ≡ s)
  PartOrFault t l s p (Err (NotRead e)) says new q = ListingUnread l s p says new q
  PartOrFault t l s p (Err (NotWritten e)) says new q = InterruptsOrDone (ListingFinishes acts t l s p) (ListingInterrupted acts l) s p new q
