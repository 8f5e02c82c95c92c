-- The outcome of a request, from the desk's calls and the answers to its reply.
use Rattle.std.proofs.Common.{◌≡◌, ℕ, ◌<◌, List, [], ◌∷◌, ◌++◌, map, Bool, true, false, ◌&&◌, Option, Some, None, option_map, unwrap_or, Result, Ok, Err, OnOk, inl, inr, refl, sym, ap, ◌∙◌, subst}
use Rattle.sdb_oplog.specs.declared.codes.Code.{Code}
use Rattle.sdb_oplog.specs.declared.codes.Code.TheVariants.{E4, E9}
use Rattle.sdb_oplog.specs.Plain.{PlainContent, PlainSubmission}
use Rattle.sdb_oplog.specs.Keys.{PlainKey}
use Rattle.sdb_oplog.specs.Decide.{PlainReply, refused}
use Rattle.sdb_desk.specs.Machine.{PlainFetchResult, PlainSubscribeResult}
use Rattle.sdb_projection.specs.Table.{PlainProjection}
use Rattle.sdb_submit.specs.Calls.{current_version, fetch as fetch_call, snapshot as snapshot_call, snapshot_at_time as at_time_call, subscribe as subscribe_call}
use Rattle.sdb_submit.specs.SubmitLoop.{CallRelation, SubmitRelation}
use Rattle.sdb_session.specs.laws.ListingLaws.{reads_from_none}
use Rattle.sdb_session.specs.Documents.{ReadsDocument, document_at, document_request}
use Rattle.sdb_session.specs.Listing.{PlainListing, RequestPart}
use Rattle.sdb_session.specs.ListingView.{done_result}
use Rattle.sdb_session.specs.Output.{answer_items, answer_texts}
use Rattle.sdb_wire.specs.Wire.{PlainEcho, parse_message, PlainRequest, fetch, submit, subscribe}
use Rattle.sdb_wire.specs.Answers.{PlainAnswer, answer_text, failed}
use Rattle.sdb_session.specs.PolicyModel.{PlainPolicy, may_submit}
use Rattle.sdb_session.specs.ProjectionModel.{base_of, base_key, projected_value, projection_of_key, is_permitted}
use Rattle.sdb_session.specs.Sessions.{PlainSession, queue_of, is_subscription_full, with_subscription}
use Rattle.sdb_session.specs.View.{OutputUnlessFailed}
use Rattle.sdb_session.specs.Responses.{PlainSubscribeReply, SubmitCalls, RefuseCalls, CloseCalls, OpensAndTakes, OpenAndTakeCalls, SubscribeCalls, first_batch_len, submission_of, fetch_answers, submit_answers, snapshot_answers, moment_answers, subscribe_answers, RequestOutcome, MessageOutcome, TextOutcome}
use Rattle.sdb_session.specs.declared.documents.ReadPoint.{ReadPoint}
use Rattle.sdb_session.specs.declared.documents.ReadPoint.TheVariants.{Current, Version, Moment}

pub on_output : {A E : Type 0} (r : Result A E) (f : List PlainAnswer → Type 0) (a : List PlainAnswer) → OnOk r (f a) → OutputUnlessFailed r f a
on_output (Ok x) f a h = h
on_output (Err x) f a h = tt

-- the answers of a request for a document
abbrev pub document_answers : PlainEcho → Option PlainProjection → PlainKey → ReadPoint → Result PlainFetchResult Code → List PlainAnswer
document_answers e o k point (Ok f) = document_at k point f.version (option_map (projected_value o) f.snapshot) ∷ []
document_answers e o k point (Err code) = failed e code ∷ []

module _ {P : Type 0} (acts : PlainKey → CallRelation P) (e : PlainEcho) (pol : PlainPolicy) (by now : ℕ) (s : PlainSession) (p : P) (says : List PlainAnswer → Type 0) (new : PlainSession) (q : P) where
  -- a request that no listing answers; after an allocation failure no answers are stated
  pub answered : {A E : Type 0} (r : PlainRequest) (w : Result A E) → RequestOutcome acts e pol by now s r p (OutputUnlessFailed w says) new q
      → RequestPart acts e pol by now s r p (done_result w) says new q
  answered r (Ok x) h = record { reply = h.reply; calls = h.calls; session_is = h.session_is; said = h.said }
  answered r (Err x) h = inr (record { reply = h.reply; calls = h.calls; session_is = h.session_is; said = tt })

  -- the outcome of an equal request with an equal result
  pub equal_part : {E : Type 0} (r other : PlainRequest) (x y : Result (Option PlainListing) E) → r ≡ other → x ≡ y
      → RequestPart acts e pol by now s other p y says new q → RequestPart acts e pol by now s r p x says new q
  equal_part r other x y same is h =
      subst (λ z. RequestPart acts e pol by now s z p x says new q) (sym same) (subst (λ z. RequestPart acts e pol by now s other p z says new q) (sym is) h)

-- the base document's key, through the projection found in the table
base_key_of_projection : (t : List PlainProjection) (k : PlainKey) (o : Option PlainProjection) → o ≡ projection_of_key t k → (b : PlainKey) → b ≡ base_of o k → b ≡ base_key t k
base_key_of_projection t k o seen b is = is ∙ ap (λ x. base_of x k) seen

module _ {P : Type 0} (acts : PlainKey → CallRelation P) (v : Option ℕ) (p q : P) where
  subscribe_of_open : (s : PlainSession) (k : PlainKey) (b base : PlainKey) (r : Result PlainSubscribeReply Code) → is_subscription_full k s.subs ≡ false → b ≡ base
      → OpenAndTakeCalls acts b v (queue_of k s.subs) p r q → SubscribeCalls acts (is_subscription_full k s.subs) base v (queue_of k s.subs) p r q
  subscribe_of_open s k b base r full same h =
      subst (λ x. SubscribeCalls acts x base v (queue_of k s.subs) p r q) (sym full) (subst (λ x. OpenAndTakeCalls acts x v (queue_of k s.subs) p r q) same h)

-- the policy allows the submission, and this projection permits its content
abbrev is_allowed : PlainPolicy → PlainSession → PlainKey → Option (List ℕ) → PlainContent → Option PlainProjection → Bool
is_allowed pol s k src m x = pol.allows (unwrap_or src s.source) k m && is_permitted x m

module _ {P : Type 0} {acts : PlainKey → CallRelation P} {e : PlainEcho} {by now : ℕ} {s : PlainSession} {p q : P} {says : List PlainAnswer → Type 0} (pol : PlainPolicy) (k : PlainKey) {o : Option PlainProjection}
    (seen : o ≡ projection_of_key pol.projections k) where
  pub document_outcome : (point : ReadPoint) (b : PlainKey) (r : Result PlainFetchResult Code) → b ≡ base_of o k → ReadsDocument (acts b) point p r q
      → says (document_answers e o k point r) → RequestOutcome acts e pol by now s (document_request k point) p says s q
  document_outcome Current b (Ok f) base h said = record {
    reply = Ok f;
    calls = subst (λ x. acts x fetch_call p (Ok f) q) (base_key_of_projection pol.projections k o seen b base) h;
    session_is = refl;
    said = subst (λ x. says (fetch_answers e x k (Ok f))) seen said;
  }
  document_outcome Current b (Err code) base h said =
      record { reply = Err code; calls = subst (λ x. acts x fetch_call p (Err code) q) (base_key_of_projection pol.projections k o seen b base) h; session_is = refl; said = said }
  document_outcome (Version v n) b (Ok f) base h said = record {
    reply = Ok f;
    calls = subst (λ x. acts x (snapshot_call v) p (Ok f) q) (base_key_of_projection pol.projections k o seen b base) h;
    session_is = refl;
    said = subst (λ x. says (snapshot_answers e x n (Ok f))) seen said;
  }
  document_outcome (Version v n) b (Err code) base h said =
      record { reply = Err code; calls = subst (λ x. acts x (snapshot_call v) p (Err code) q) (base_key_of_projection pol.projections k o seen b base) h; session_is = refl; said = said }
  document_outcome (Moment m n) b (Ok f) base h said = record {
    reply = Ok f;
    calls = subst (λ x. acts x (at_time_call m) p (Ok f) q) (base_key_of_projection pol.projections k o seen b base) h;
    session_is = refl;
    said = subst (λ x. says (moment_answers e x n (Ok f))) seen said;
  }
  document_outcome (Moment m n) b (Err code) base h said =
      record { reply = Err code; calls = subst (λ x. acts x (at_time_call m) p (Err code) q) (base_key_of_projection pol.projections k o seen b base) h; session_is = refl; said = said }

  -- the version is above the current one
  pub newer_outcome : (from last : ℕ) (b : PlainKey) → b ≡ base_of o k → acts b current_version p last q → last < from → says (failed e E4 ∷ [])
      → RequestOutcome acts e pol by now s (fetch k (Some from)) p says s q
  newer_outcome from last b base at above said = record {
    reply = Err E4;
    calls = inl (last, (subst (λ x. acts x current_version p last q) (base_key_of_projection pol.projections k o seen b base) at, above, refl));
    session_is = refl;
    said = said;
  }

  -- ---- submissions

  pub refused_outcome : (v : Option ℕ) (n : ℕ) (src : Option (List ℕ)) (m : PlainContent) → is_allowed pol s k src m o ≡ false → q ≡ p → says (failed e E9 ∷ [])
      → RequestOutcome acts e pol by now s (submit k v n src m) p says s q
  refused_outcome v n src m denied same said =
      let u = submission_of s k v n src m by in
      let not_allowed : may_submit pol (unwrap_or src s.source) k m ≡ false = ap (is_allowed pol s k src m) (sym seen) ∙ denied in
      record {
        reply = refused E9;
        calls = subst (λ b. SubmitCalls (acts (base_key pol.projections k)) b u now p (refused E9) q) (sym not_allowed) (refl, same);
        session_is = refl;
        said = said;
      }

  pub sent_outcome : {new : PlainSession} (v : Option ℕ) (n : ℕ) (src : Option (List ℕ)) (m : PlainContent) (b : PlainKey) (u : PlainSubmission) (r : PlainReply) → is_allowed pol s k src m o ≡ true → b ≡ base_of o k
      → u ≡ submission_of s k v n src m by → SubmitRelation (acts b) u now p r q → new ≡ s → says (submit_answers e o k u.src u.seq r) → RequestOutcome acts e pol by now s (submit k v n src m) p says new q
  sent_outcome v n src m b u r given base is h same said =
      let w = submission_of s k v n src m by in
      let allowed : may_submit pol (unwrap_or src s.source) k m ≡ true = ap (is_allowed pol s k src m) (sym seen) ∙ given in
      let there : SubmitRelation (acts (base_key pol.projections k)) w now p r q = subst (λ x. SubmitRelation (acts x) w now p r q) (base_key_of_projection pol.projections k o seen b base) (subst (λ x. SubmitRelation (acts b) x now p r q) is h) in
      let due : says (submit_answers e (projection_of_key pol.projections k) k w.src w.seq r) = subst (λ x. says (submit_answers e x k w.src w.seq r)) seen (subst (λ (x : PlainSubmission). says (submit_answers e o k x.src x.seq r)) is said) in
      record { reply = r; calls = subst (λ x. SubmitCalls (acts (base_key pol.projections k)) x w now p r q) (sym allowed) there; session_is = same; said = due }

  -- ---- subscriptions

  pub full_outcome : (v : Option ℕ) (b : PlainKey) (code : Code) → is_subscription_full k s.subs ≡ true → b ≡ base_of o k → RefuseCalls (acts b) v p (Err code) q → says (failed e code ∷ [])
      → RequestOutcome acts e pol by now s (subscribe k v) p says s q
  full_outcome v b code full base h said =
      let r : Result PlainSubscribeReply Code = Err code in
      let there : RefuseCalls (acts (base_key pol.projections k)) v p r q = subst (λ x. RefuseCalls (acts x) v p r q) (base_key_of_projection pol.projections k o seen b base) h in
      record { reply = r; calls = subst (λ x. SubscribeCalls acts x (base_key pol.projections k) v (queue_of k s.subs) p r q) (sym full) there; session_is = refl; said = said }

  module _ (v : Option ℕ) (b : PlainKey) (full : is_subscription_full k s.subs ≡ false) (base : b ≡ base_of o k) where
    pub not_opened_outcome : {new : PlainSession} (code : Code) → new ≡ s → acts b (subscribe_call v) p (Err code) q → says (failed e code ∷ []) → RequestOutcome acts e pol by now s (subscribe k v) p says new q
    not_opened_outcome code same h said = record { reply = Err code; calls = subscribe_of_open acts v p q s k b (base_key pol.projections k) (Err code) full (base_key_of_projection pol.projections k o seen b base) (inl h); session_is = same; said = said }

    -- a subscription without a version
    pub opened_outcome : {new : PlainSession} (opened : PlainSubscribeResult) (mid : PlainSession) (m : P) → v ≡ None → acts b (subscribe_call v) p (Ok opened) m → mid ≡ s
        → CloseCalls acts (queue_of k mid.subs) m q → new ≡ with_subscription mid k (record { base = b; id = opened.id }) → says (subscribe_answers o k None (record { opened = opened; first = [] }))
        → RequestOutcome acts e pol by now s (subscribe k v) p says new q
    opened_outcome opened mid m none opens same closes is said =
        let j : PlainSubscribeReply = record { opened = opened; first = [] } in
        let count : 0 ≡ first_batch_len v opened.version = ap (λ w. first_batch_len w opened.version) (sym none) in
        let takes : OpensAndTakes acts b v (queue_of k s.subs) p j q = record {
          after_open = m;
          after_takes = m;
          opens = opens;
          takes = record { batches = []; takes = reads_from_none acts (Some opened.id) b 0 m; all = count; entries_are = refl };
          closes = subst (λ (x : PlainSession). CloseCalls acts (queue_of k x.subs) m q) same closes;
        } in
        record {
          reply = Ok j;
          calls = subscribe_of_open acts v p q s k b (base_key pol.projections k) (Ok j) full (base_key_of_projection pol.projections k o seen b base) takes;
          session_is =
              is
              ∙ ap (λ x. with_subscription x k (record { base = b; id = opened.id })) same
              ∙ ap (λ x. with_subscription s k (record { base = x; id = opened.id })) (base_key_of_projection pol.projections k o seen b base);
          said = subst (λ x. says (subscribe_answers x k v j)) seen (subst (λ w. says (subscribe_answers o k w j)) (sym none) said);
        }

-- ---- equal answers

module _ {P : Type 0} (acts : PlainKey → CallRelation P) (pol : PlainPolicy) (by now : ℕ) (s : PlainSession) (p : P) (new : PlainSession) (q : P) (f g : List PlainAnswer → Type 0) (other : (a : List PlainAnswer) → f a → g a) where
  responds_other : (e : PlainEcho) (r : Result PlainRequest Code) → MessageOutcome acts e r pol by now s p f new q → MessageOutcome acts e r pol by now s p g new q
  responds_other e (Ok r) h = record { reply = h.reply; calls = h.calls; session_is = h.session_is; said = other _ h.said }
  responds_other e (Err code) (same, is, said) = (same, is, other _ said)

  pub answers_other : (text : List ℕ) → TextOutcome acts text pol by now s p f new q → TextOutcome acts text pol by now s p g new q
  answers_other text h = responds_other (parse_message text).echo (parse_message text).request h

pub pieces_are_texts : (a : List PlainAnswer) → answer_items answer_texts a ≡ map answer_text a
pieces_are_texts [] = refl
pieces_are_texts (x ∷ a) = ap (λ l. answer_text x ∷ l) (pieces_are_texts a)

-- texts appended to an empty list
pub texts_are : (old new : List (List ℕ)) (a : List PlainAnswer) → old ≡ [] → new ≡ old ++ answer_items answer_texts a → new ≡ map answer_text a
texts_are old new a none e = e ∙ ap (λ l. l ++ answer_items answer_texts a) none ∙ pieces_are_texts a
