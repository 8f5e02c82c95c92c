-- Laws of listings: their parts compose, and a listing that is continued to its end answers its request.
use Rattle.std.proofs.Common.{◌≡◌, ℕ, ◌+◌, ◌-◌, ◌<◌, ◌⊎◌, List, [], ◌∷◌, ◌++◌, Option, Some, None, Result, Ok, Err, refl, sym, ap, ◌∙◌, subst, append_assoc, inl, inr, arith}
use Rattle.std.proofs.lemmas.List.{map-append}
use Rattle.std.specs.Prelude.{⊤}
use Rattle.sdb_oplog.specs.declared.codes.Code.{Code}
use Rattle.sdb_oplog.specs.declared.codes.Code.TheVariants.{E10}
use Rattle.sdb_oplog.specs.Keys.{PlainKey}
use Rattle.sdb_projection.specs.Table.{PlainProjection}
use Rattle.sdb_submit.specs.Calls.{current_version, ops_between, take_next}
use Rattle.sdb_submit.specs.SubmitLoop.{CallRelation, PlainBatch, total_size, entries_of, ReadsBatches, TakesBatches}
use Rattle.sdb_wire.specs.Wire.{PlainEcho, PlainRequest, hello, fetch, subscribe, unsubscribe, submit, snapshot, snapshot_at_time}
use Rattle.sdb_wire.specs.Answers.{PlainAnswer, failed}
use Rattle.sdb_session.specs.Listing.{PlainListing, entries_left, end_answer, ReadsFrom, FailsToRead, ClosesNewQueue, ListingOpens, ListingContinues, ListingFinishes, ListingInterrupted, MessageBegins, PartOutcome, StopsOrDone, InterruptsOrDone}
use Rattle.sdb_session.specs.PolicyModel.{PlainPolicy}
use Rattle.sdb_session.specs.ProjectionModel.{projection_of_key, base_key}
use Rattle.sdb_session.specs.Responses.{PlainSubscribeReply, entry_answers, FailsToTake, OpensAndTakes, OpensAndCloses, SubscribeCalls, RequestOutcome, RequestInterrupted, MessageOutcome, MessageInterrupted}
use Rattle.sdb_session.specs.Sessions.{PlainSession, queue_of}

-- ---- batches

total_append : (xs ys : List PlainBatch) → total_size (xs ++ ys) ≡ total_size xs + total_size ys
total_append [] ys = omega arith
total_append (x ∷ xs) ys = let h = total_append xs ys in omega (arith, h)

entries_append : (xs ys : List PlainBatch) → entries_of (xs ++ ys) ≡ entries_of xs ++ entries_of ys
entries_append [] ys = refl
entries_append (x ∷ xs) ys =
    ap (λ l. x.entries ++ l) (entries_append xs ys) ∙ sym (append_assoc x.entries (entries_of xs) (entries_of ys))

answers_append : (o : Option PlainProjection) (k : PlainKey) (xs ys : List PlainBatch)
    → entry_answers o k (entries_of xs) ++ entry_answers o k (entries_of ys) ≡ entry_answers o k (entries_of (xs ++ ys))
answers_append o k xs ys =
    sym (map-append _ (entries_of xs) (entries_of ys)) ∙ ap (entry_answers o k) (sym (entries_append xs ys))

module _ {P : Type 0} (acts : CallRelation P) where
  reads_none : (v : ℕ) (p : P) → ReadsBatches acts v [] p p
  unfolding ReadsBatches
  reads_none v p = refl

  takes_none : (n : ℕ) (p : P) → TakesBatches acts n [] p p
  unfolding TakesBatches
  takes_none n p = refl

  reads_append : (v : ℕ) (xs ys : List PlainBatch) (p m q : P) → ReadsBatches acts v xs p m
      → ReadsBatches acts (v + total_size xs) ys m q → ReadsBatches acts v (xs ++ ys) p q
  unfolding ReadsBatches
  reads_append v [] ys p m q h r =
      let n : v + 0 ≡ v = omega arith in
      subst (λ y. ReadsBatches acts v ys y q) h (subst (λ i. ReadsBatches acts i ys m q) n r)
  reads_append v (x ∷ xs) ys p m q (o, (first, more)) r =
      let n : v + (x.size + total_size xs) ≡ v + x.size + total_size xs = omega arith in
      (o, (first, reads_append (v + x.size) xs ys o m q more (subst (λ i. ReadsBatches acts i ys m q) n r)))

  takes_append : (n : ℕ) (xs ys : List PlainBatch) (p m q : P) → TakesBatches acts n xs p m → TakesBatches acts n ys m q
      → TakesBatches acts n (xs ++ ys) p q
  unfolding TakesBatches
  takes_append n [] ys p m q h r = subst (λ y. TakesBatches acts n ys y q) h r
  takes_append n (x ∷ xs) ys p m q (a, (o, (first, came, more))) r =
      (a, (o, (first, came, takes_append n xs ys o m q more r)))

module _ {P : Type 0} (acts : PlainKey → CallRelation P) where
  pub reads_from_none : (o : Option ℕ) (b : PlainKey) (v : ℕ) (p : P) → ReadsFrom acts o b v [] p p
  reads_from_none None b v p = reads_none (acts b) v p
  reads_from_none (Some n) b v p = takes_none (acts b) n p

  reads_from_append : (o : Option ℕ) (b : PlainKey) (v : ℕ) (xs ys : List PlainBatch) (p m q : P) → ReadsFrom acts o b v xs p m
      → ReadsFrom acts o b (v + total_size xs) ys m q → ReadsFrom acts o b v (xs ++ ys) p q
  reads_from_append None b v xs ys p m q h r = reads_append (acts b) v xs ys p m q h r
  reads_from_append (Some n) b v xs ys p m q h r = takes_append (acts b) n xs ys p m q h r

  -- ---- two parts

  module _ (t : List PlainProjection) (before after both : List PlainAnswer → Type 0)
      (join : (a b : List PlainAnswer) → before a → after b → both (a ++ b)) where
    pub continues_twice : (l rest last : PlainListing) (p m q : P) → ListingContinues acts t l p rest before m
        → ListingContinues acts t rest m last after q → ListingContinues acts t l p last both q
    continues_twice l rest last p m q a c =
        let b = subst (λ (x : PlainListing). ListingContinues acts t x m last after q) a.advances c in
        let o = projection_of_key t l.key in
        let sum : l.next + total_size a.batches + total_size b.batches ≡ l.next + total_size (a.batches ++ b.batches) =
        (let n = total_append a.batches b.batches in omega (arith, n)) in
        record {
          batches = a.batches ++ b.batches;
          reads = reads_from_append l.queue l.base l.next a.batches b.batches p m q a.reads b.reads;
          advances = b.advances ∙ ap (λ n. record l { next = n }) sum;
          some_left = b.some_left;
          said = subst both (answers_append o l.key a.batches b.batches) (join _ _ a.said b.said);
        }

    pub continues_finishes : (l rest : PlainListing) (s new : PlainSession) (p m q : P) → ListingContinues acts t l p rest before m
        → ListingFinishes acts t rest s m after new q → ListingFinishes acts t l s p both new q
    continues_finishes l rest s new p m q a c =
        let b = subst (λ (x : PlainListing). ListingFinishes acts t x s m after new q) a.advances c in
        let some : 0 < l.end - (l.next + total_size a.batches) = subst (λ (x : PlainListing). 0 < entries_left x) a.advances a.some_left in
        let o = projection_of_key t l.key in
        let e = end_answer l.queue l.key in
        let xs = entry_answers o l.key (entries_of a.batches) in
        let ys = entry_answers o l.key (entries_of b.batches) in
        let sum : total_size (a.batches ++ b.batches) ≡ l.end - l.next =
        (let n = total_append a.batches b.batches in let rest_is = b.all in omega (arith, n, rest_is, some)) in
        record {
          batches = a.batches ++ b.batches;
          between = b.between;
          reads = reads_from_append l.queue l.base l.next a.batches b.batches p m b.between a.reads b.reads;
          all = sum;
          replaces = b.replaces;
          said = subst both (sym (append_assoc xs ys (e ∷ [])) ∙ ap (λ z. z ++ e ∷ []) (answers_append o l.key a.batches b.batches)) (join _ _ a.said b.said);
        }

  pub continues_interrupted : (t : List PlainProjection) (says : List PlainAnswer → Type 0) (l rest : PlainListing) (p m q : P)
      → ListingContinues acts t l p rest says m → ListingInterrupted acts rest m q → ListingInterrupted acts l p q
  continues_interrupted t says l rest p m q a c =
      let b = subst (λ (x : PlainListing). ListingInterrupted acts x m q) a.advances c in
      let sum : l.next + total_size a.batches + total_size b.batches ≡ l.next + total_size (a.batches ++ b.batches) =
      (let n = total_append a.batches b.batches in omega (arith, n)) in
      record {
        batches = a.batches ++ b.batches;
        between = b.between;
        last = b.last;
        reads = reads_from_append l.queue l.base l.next a.batches b.batches p m b.between a.reads b.reads;
        fails = subst (λ n. (b.last ≡ b.between) ⊎ FailsToRead acts l.queue l.base n l.end b.between b.last) sum b.fails;
        closes = b.closes;
      }

  -- ---- the request that a listing answers

  module _ (pol : PlainPolicy) (s : PlainSession) where
    abbrev t : List PlainProjection
    t = pol.projections

    -- all entries are written
    pub finished_outcome : (e : PlainEcho) (by now : ℕ) (r : PlainRequest) (p : P) (l : PlainListing) (m : P) (says : List PlainAnswer → Type 0) (new : PlainSession) (q : P)
        → ListingOpens acts t s r p l m → ListingFinishes acts t l s m says new q → RequestOutcome acts e pol by now s r p says new q
    finished_outcome e by now (fetch k (Some v)) p l m says new q o fin =
        let a = subst (λ (x : PlainListing). ListingFinishes acts t x s m says new q) o.listing_is fin in
        let b = base_key t k in
        let total = a.all in
        let within = o.within in
        let n : o.end ≡ v + total_size a.batches = omega (arith, total, within) in
        record {
          reply = Ok (entries_of a.batches);
          calls = (a.batches, (m, (subst (λ i. acts b current_version p i m) n o.reads, subst (λ y. ReadsBatches (acts b) v a.batches m y) (sym a.replaces.0) a.reads, refl)));
          session_is = a.replaces.1;
          said = a.said;
        }
    finished_outcome e by now (fetch k None) p l m says new q h fin = absurd h
    finished_outcome e by now (subscribe k (Some v)) p l m says new q o fin =
        let a = subst (λ (x : PlainListing). ListingFinishes acts t x s m says new q) o.listing_is fin in
        let b = base_key t k in
        let j : PlainSubscribeReply = record { opened = o.opened; first = entries_of a.batches } in
        let takes : OpensAndTakes acts b (Some v) (queue_of k s.subs) p j q = record {
          after_open = m;
          after_takes = a.between;
          opens = o.opens;
          takes = record { batches = a.batches; takes = a.reads; all = a.all; entries_are = refl };
          closes = a.replaces.0;
        } in
        record {
          reply = Ok j;
          calls = subst (λ x. SubscribeCalls acts x b (Some v) (queue_of k s.subs) p (Ok j) q) (sym o.not_full) takes;
          session_is = a.replaces.1;
          said = a.said;
        }
    finished_outcome e by now (subscribe k None) p l m says new q h fin = absurd h
    finished_outcome e by now (hello n) p l m says new q h fin = absurd h
    finished_outcome e by now (unsubscribe k) p l m says new q h fin = absurd h
    finished_outcome e by now (submit k v n src c) p l m says new q h fin = absurd h
    finished_outcome e by now (snapshot k v n) p l m says new q h fin = absurd h
    finished_outcome e by now (snapshot_at_time k v n) p l m says new q h fin = absurd h

    log_fault : (b : PlainKey) (v n : ℕ) (between last q : P) → (last ≡ between) ⊎ FailsToRead acts None b v n between last → q ≡ last
        → (q ≡ between) ⊎ ((i : ℕ) × acts b (ops_between v i) between None q)
    log_fault b v n between last q (inl e) c = inl (c ∙ e)
    log_fault b v n between last q (inr (i, (fails, few))) c = inr (i, subst (λ y. acts b (ops_between v i) between None y) (sym c) fails)

    queue_fault : (b : PlainKey) (v n i : ℕ) (between last : P) → (last ≡ between) ⊎ FailsToRead acts (Some i) b v n between last
        → (last ≡ between) ⊎ ((j : ℕ) × acts b (take_next i j) between None last)
    queue_fault b v n i between last (inl e) = inl e
    queue_fault b v n i between last (inr f) = inr f

    -- the listing is interrupted
    pub opened_interrupted : (r : PlainRequest) (p : P) (l : PlainListing) (m q : P) → ListingOpens acts t s r p l m → ListingInterrupted acts l m q
        → RequestInterrupted acts t r p q
    opened_interrupted (fetch k (Some v)) p l m q o stop =
        let a = subst (λ (x : PlainListing). ListingInterrupted acts x m q) o.listing_is stop in
        (o.end, (a.batches, (m, (a.between, (o.reads, a.reads, log_fault (base_key t k) (v + total_size a.batches) o.end a.between a.last q a.fails a.closes)))))
    opened_interrupted (fetch k None) p l m q h stop = absurd h
    opened_interrupted (subscribe k (Some v)) p l m q o stop =
        let a = subst (λ (x : PlainListing). ListingInterrupted acts x m q) o.listing_is stop in
        let n = v + total_size a.batches in
        record {
          opened = o.opened;
          after_open = m;
          after_takes = a.last;
          opens = o.opens;
          takes = (a.batches, (a.between, (a.reads, queue_fault (base_key t k) n o.opened.version o.opened.id a.between a.last a.fails)));
          closes = a.closes;
        }
    opened_interrupted (subscribe k None) p l m q h stop = absurd h
    opened_interrupted (hello n) p l m q h stop = absurd h
    opened_interrupted (unsubscribe k) p l m q h stop = absurd h
    opened_interrupted (submit k v n src c) p l m q h stop = absurd h
    opened_interrupted (snapshot k v n) p l m q h stop = absurd h
    opened_interrupted (snapshot_at_time k v n) p l m q h stop = absurd h

    -- an allocation fails before the first entry
    pub unread_outcome : (e : PlainEcho) (by now : ℕ) (r : PlainRequest) (p : P) (l : PlainListing) (m n q : P) (says : List PlainAnswer → Type 0)
        → ListingOpens acts t s r p l m → FailsToRead acts l.queue l.base l.next l.end m n → ClosesNewQueue acts l.queue l.base n q → says (failed e E10 ∷ [])
        → RequestOutcome acts e pol by now s r p says s q
    unread_outcome e by now (fetch k (Some v)) p l m n q says o fails closes said =
        let b = base_key t k in
        let f = subst (λ (x : PlainListing). FailsToRead acts x.queue x.base x.next x.end m n) o.listing_is fails in
        let c = subst (λ (x : PlainListing). ClosesNewQueue acts x.queue x.base n q) o.listing_is closes in
        record {
          reply = Err E10;
          calls = inr (o.end, (f.0, (m, (o.reads, subst (λ y. acts b (ops_between v f.0) m None y) (sym c) f.1.0, f.1.1, refl))));
          session_is = refl;
          said = said;
        }
    unread_outcome e by now (fetch k None) p l m n q says h fails closes said = absurd h
    unread_outcome e by now (subscribe k (Some v)) p l m n q says o fails closes said =
        let b = base_key t k in
        let f = subst (λ (x : PlainListing). FailsToRead acts x.queue x.base x.next x.end m n) o.listing_is fails in
        let c = subst (λ (x : PlainListing). ClosesNewQueue acts x.queue x.base n q) o.listing_is closes in
        let closed : OpensAndCloses acts b (Some v) p (FailsToTake acts b) E10 q = record {
          opened = o.opened;
          after_open = m;
          after_failure = n;
          opens = o.opens;
          fails_after = f;
          closes = c;
          is_memory = refl;
        } in
        record {
          reply = Err E10;
          calls = subst (λ x. SubscribeCalls acts x b (Some v) (queue_of k s.subs) p (Err E10) q) (sym o.not_full) (inr closed);
          session_is = refl;
          said = said;
        }
    unread_outcome e by now (subscribe k None) p l m n q says h fails closes said = absurd h
    unread_outcome e by now (hello i) p l m n q says h fails closes said = absurd h
    unread_outcome e by now (unsubscribe k) p l m n q says h fails closes said = absurd h
    unread_outcome e by now (submit k v i src c) p l m n q says h fails closes said = absurd h
    unread_outcome e by now (snapshot k v i) p l m n q says h fails closes said = absurd h
    unread_outcome e by now (snapshot_at_time k v i) p l m n q says h fails closes said = absurd h

    -- ---- the message that a listing answers

    module _ (e : PlainEcho) (by now : ℕ) (p : P) where
      -- the rest of the listing is written, or a part of it
      pub message_continues : (E F : Type 0) (request : Result PlainRequest Code) (l : PlainListing) (m : P) (before after both : List PlainAnswer → Type 0)
          (join : (a b : List PlainAnswer) → before a → after b → both (a ++ b)) (stops stops' : PlainSession → P → Type 0) (rest : Option PlainListing) (new : PlainSession) (q : P)
          → MessageBegins acts request t s p l before m
          → PartOutcome {E = E} (Ok rest) (ListingFinishes acts t l s m) (ListingContinues acts t l m) stops after s new q
          → PartOutcome {E = F} (Ok rest) (MessageOutcome acts e request pol by now s p) (MessageBegins acts request t s p) stops' both s new q
      message_continues E F (Ok r) l m before after both join stops stops' None new q a b =
          finished_outcome e by now r p a.opened a.between both new q a.opens (continues_finishes t before after both join a.opened l s new a.between m q a.continues b)
      message_continues E F (Ok r) l m before after both join stops stops' (Some rest) new q a b =
          (record { opened = a.opened; between = a.between; opens = a.opens; continues = continues_twice t before after both join a.opened l rest a.between m q a.continues b.0 }, b.1)
      message_continues E F (Err code) l m before after both join stops stops' rest new q a b = absurd a

      -- an allocation fails for the rest of the listing
      pub message_stops : (request : Result PlainRequest Code) (l : PlainListing) (m : P) (before : List PlainAnswer → Type 0) (new : PlainSession) (q : P)
          → MessageBegins acts request t s p l before m → InterruptsOrDone (ListingFinishes acts t l s m) (ListingInterrupted acts l) s m new q
          → StopsOrDone (MessageOutcome acts e request pol by now s p) (MessageInterrupted acts t request) s p new q
      message_stops (Ok r) l m before new q a (inl (same, stop)) =
          inl (same, inr (opened_interrupted r p a.opened a.between q a.opens (continues_interrupted t before a.opened l a.between m q a.continues stop)))
      message_stops (Ok r) l m before new q a (inr done) =
          inr (finished_outcome e by now r p a.opened a.between (λ answers. ⊤) new q a.opens (continues_finishes t before (λ answers. ⊤) (λ answers. ⊤) (λ x y f g. tt) a.opened l s new a.between m q a.continues done))
      message_stops (Err code) l m before new q a h = absurd a
