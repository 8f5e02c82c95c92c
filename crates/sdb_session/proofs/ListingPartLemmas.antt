-- One part of a listing: its batch, its faults, and the outcome of the calls that write it.
use Rattle.std.proofs.Common.{◌≡◌, ℕ, ◌+◌, List, [], ◌∷◌, ◌++◌, Option, Some, None, option_map, Result, Ok, Err, refl, sym, subst, inl, inr, arith}
use Rattle.std.specs.Result.{IsErr}
use Rattle.std.specs.Prelude.{⊤}
use Rattle.std.specs.declared.alloc.AllocError.{AllocError}
use Rattle.sdb_oplog.specs.declared.codes.Code.TheVariants.{E10}
use Rattle.sdb_oplog.specs.Keys.{PlainKey}
use Rattle.sdb_projection.specs.Table.{PlainProjection}
use Rattle.sdb_submit.specs.SubmitLoop.{CallRelation}
use Rattle.sdb_wire.specs.Wire.{PlainEcho, PlainRequest, parse_message}
use Rattle.sdb_wire.specs.Answers.{PlainAnswer, failed}
use Rattle.sdb_session.specs.Listing.{PlainListing, entries_left, FailsToRead, ClosesNewQueue, ListingOpens, ListingFinishes, ListingInterrupted, ListingBegins, TextBegins, ListingPart, TextPart, PartOutcome, StopsOrDone, InterruptsOrDone}
use Rattle.sdb_session.specs.ListingView.{plain_listing, listing_result, PartOrFault}
use Rattle.sdb_session.specs.PolicyModel.{PlainPolicy}
use Rattle.sdb_session.specs.Responses.{OutcomeOrInterrupted, RequestOutcome, RequestInterrupted, TextOutcome, TextInterrupted}
use Rattle.sdb_session.specs.Sessions.{PlainSession}
use Rattle.sdb_session.specs.View.{OutputUnlessFailed, WroteAnswers}
use Rattle.sdb_session.specs.declared.listing.BatchFault.{BatchFault}
use Rattle.sdb_session.specs.declared.listing.BatchFault.TheVariants.{NotRead, NotWritten}
use Rattle.sdb_session.specs.declared.listing.Listing.{Listing}
use Rattle.sdb_session.specs.laws.ListingLaws.{reads_from_none, finished_outcome, opened_interrupted, unread_outcome, message_continues, message_stops}
use Rattle.sdb_session.proofs.PumpLemmas.{pieces_more}

-- a measure of what is left of a listing
abbrev pub left_to_write : Option Listing → ℕ
left_to_write None = 0
left_to_write (Some l) = 1 + entries_left (plain_listing l)

module _ {P : Type 0} (acts : PlainKey → CallRelation P) (t : List PlainProjection) where
  -- ---- a part as a call of the session

  pub part_stops : (l : PlainListing) (s new : PlainSession) (p q : P) (fault : BatchFault) (says : List PlainAnswer → Type 0)
      → PartOrFault acts t l s p (Err fault) says new q → InterruptsOrDone (ListingFinishes acts t l s p) (ListingInterrupted acts l) s p new q
  part_stops l s new p q (NotRead e) says h =
      let n : l.next ≡ l.next + 0 = omega arith in
      inl (
        h.unchanged,
        record {
          batches = [];
          between = p;
          last = h.after_failure;
          reads = reads_from_none acts l.queue l.base l.next p;
          fails = inr (subst (λ i. FailsToRead acts l.queue l.base i l.end p h.after_failure) n h.fails);
          closes = h.closes;
        },
      )
  part_stops l s new p q (NotWritten e) says h = h

  -- a listing of which nothing more is read
  pub abandoned_part : (l : PlainListing) (s : PlainSession) (p q : P) → ClosesNewQueue acts l.queue l.base p q
      → InterruptsOrDone (ListingFinishes acts t l s p) (ListingInterrupted acts l) s p s q
  abandoned_part l s p q closes = inl (
    refl,
    record {
      batches = [];
      between = p;
      last = p;
      reads = reads_from_none acts l.queue l.base l.next p;
      fails = inl refl;
      closes = closes;
    },
  )

module _ {P : Type 0} (acts : PlainKey → CallRelation P) (pol : PlainPolicy) where
  -- ---- a part as the beginning of a request

  module _ (s : PlainSession) (r : PlainRequest) (start : P) (l : PlainListing) (p : P) (opens : ListingOpens acts pol.projections s r start l p) (e : PlainEcho) (by now : ℕ) where
    pub part_begins : (E : Type 0) (x : Option Listing) (new : PlainSession) (q : P) (says : List PlainAnswer → Type 0) (stops : PlainSession → P → Type 0)
        → PartOrFault acts pol.projections l s p (Ok x) says new q
        → PartOutcome {E = E} (listing_result (Ok x)) (RequestOutcome acts e pol by now s r start) (ListingBegins acts pol.projections s r start) stops says s new q
    part_begins E None new q says stops h = finished_outcome acts pol s e by now r start l p says new q opens h
    part_begins E (Some rest) new q says stops h = (record { opened = l; between = p; opens = opens; continues = h.0 }, h.1)

    -- the message is refused
    pub part_refused : (x : AllocError) (new : PlainSession) (q : P) (before after both : List PlainAnswer → Type 0) (join : (a b : List PlainAnswer) → before a → after b → both (a ++ b))
        → PartOrFault acts pol.projections l s p (Err (NotRead x)) before new q → after (failed e E10 ∷ []) → RequestOutcome acts e pol by now s r start both new q
    part_refused x new q before after both join h said =
        subst (λ (y : PlainSession). RequestOutcome acts e pol by now s r start both y q) (sym h.unchanged)
        (unread_outcome acts pol s e by now r start l p h.after_failure q both opens h.fails h.closes (join [] (failed e E10 ∷ []) h.said said))

    pub part_breaks : (x : AllocError) (new : PlainSession) (q : P) (says : List PlainAnswer → Type 0) → PartOrFault acts pol.projections l s p (Err (NotWritten x)) says new q
        → StopsOrDone (RequestOutcome acts e pol by now s r start) (RequestInterrupted acts pol.projections r) s start new q
    part_breaks x new q says (inl (same, stop)) = inl (same, inr (opened_interrupted acts pol s r start l p q opens stop))
    part_breaks x new q says (inr done) = inr (finished_outcome acts pol s e by now r start l p (λ answers. ⊤) new q opens done)

-- answers appended to earlier ones
pub wrote_join : {A : Type 0} (f : PlainAnswer → List A) (old mid new : List A) (a b : List PlainAnswer) → WroteAnswers f old mid a → WroteAnswers f mid new b
    → WroteAnswers f old new (a ++ b)
wrote_join f old mid new a b first last = pieces_more f old mid new a b first last

-- answers that are appended to earlier ones, unless that fails
pub output_join : {A B E : Type 0} (r : Result B E) (f : PlainAnswer → List A) (old mid new : List A) (a b : List PlainAnswer) → WroteAnswers f old mid a → OutputUnlessFailed r (WroteAnswers f mid new) b
    → OutputUnlessFailed r (WroteAnswers f old new) (a ++ b)
output_join (Ok x) f old mid new a b first last = wrote_join f old mid new a b first last
output_join (Err x) f old mid new a b first last = tt

pub stopped_outcome : {A E S P : Type 0} (x : Result A E) (done : (List PlainAnswer → Type 0) → S → P → Type 0) (breaks : P → P → Type 0)
    (says : List PlainAnswer → Type 0) (s : S) (p : P) (new : S) (q : P) → IsErr x → StopsOrDone done breaks s p new q
    → OutcomeOrInterrupted x done breaks says s p new q
stopped_outcome (Ok x) done breaks says s p new q is h = cc
stopped_outcome (Err e) done breaks says s p new q is h = h

-- ---- the text of which a listing is left

module _ {P : Type 0} (acts : PlainKey → CallRelation P) (text : List ℕ) (pol : PlainPolicy) (by now : ℕ) (s : PlainSession) (p : P) (E : Type 0)
    (x : Option Listing) (l : Listing) (is : x ≡ Some l) (mid : PlainSession) (m : P) (before : List PlainAnswer → Type 0)
    (begun : TextPart acts {E = E} text pol by now s p (Ok (option_map plain_listing x)) before mid m) where
  text_begins : TextBegins acts text pol.projections s p (plain_listing l) before m × (mid ≡ s)
  text_begins = subst (λ y. TextPart acts {E = E} text pol by now s p (Ok (option_map plain_listing y)) before mid m) is begun

  pub text_continues : (F : Type 0) (after both : List PlainAnswer → Type 0) (join : (a b : List PlainAnswer) → before a → after b → both (a ++ b)) (rest : Option PlainListing) (new : PlainSession) (q : P)
      → ListingPart acts {E = F} pol.projections (plain_listing l) mid m (Ok rest) after new q → TextPart acts {E = E} text pol by now s p (Ok rest) both new q
  text_continues F after both join rest new q part =
      message_continues acts pol s (parse_message text).echo by now p F E (parse_message text).request (plain_listing l) m before after both join _ _ rest new q text_begins.0
      (subst (λ (y : PlainSession). ListingPart acts {E = F} pol.projections (plain_listing l) y m (Ok rest) after new q) text_begins.1 part)

  pub text_stops : (new : PlainSession) (q : P) → InterruptsOrDone (ListingFinishes acts pol.projections (plain_listing l) mid m) (ListingInterrupted acts (plain_listing l)) mid m new q
      → StopsOrDone (TextOutcome acts text pol by now s p) (TextInterrupted acts text pol.projections) s p new q
  text_stops new q stop =
      message_stops acts pol s (parse_message text).echo by now p (parse_message text).request (plain_listing l) m before new q text_begins.0
      (subst (λ (y : PlainSession). InterruptsOrDone (ListingFinishes acts pol.projections (plain_listing l) y m) (ListingInterrupted acts (plain_listing l)) y m new q) text_begins.1 stop)
