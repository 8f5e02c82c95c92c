-- Reads of queues in sequence.
use Rattle.std.proofs.Common.{◌≡◌, ℕ, ◌+◌, List, [], ◌∷◌, ◌++◌, length, map, Some, Result, Ok, Err, IsErr, refl, sym, ap, ◌∙◌, subst, append_assoc, inl, arith}
use Rattle.std.proofs.lemmas.List.{append-nil, map-append}
use Rattle.sdb_oplog.specs.Keys.{PlainKey}
use Rattle.sdb_projection.specs.Table.{PlainProjection}
use Rattle.sdb_submit.specs.Calls.{unsubscribe}
use Rattle.sdb_submit.specs.SubmitLoop.{CallRelation}
use Rattle.sdb_wire.specs.Answers.{PlainAnswer}
use Rattle.sdb_session.specs.laws.SessionLaws.{pieces_append}
use Rattle.sdb_session.specs.Sessions.{PlainSubscription, PlainSession}
use Rattle.sdb_session.specs.Output.{answer_items}
use Rattle.sdb_session.specs.PumpModel.{PumpInterrupted, PumpOutcome, PlainTake, TakeCall, TakeCalls, CloseAllCalls, take_answers, pump_answers, pump_count}

module _ {P : Type 0} (acts : PlainKey → CallRelation P) (max : ℕ) where
  pub takes_more : (xs : List PlainTake) (x : PlainTake) (p m q : P) → TakeCalls acts max xs p m → TakeCall acts max x.sub.queue m (Some x.entries) q → TakeCalls acts max (xs ++ x ∷ []) p q
  unfolding TakeCalls
  takes_more [] x p m q h one = let T : P → Type 0 = λ y. TakeCall acts max x.sub.queue y (Some x.entries) q in (q, (subst T h one, refl))
  takes_more (y ∷ xs) x p m q h one = (h.0, (h.1.0, takes_more xs x h.0 m q h.1.1 one))

  -- the queues of the first subscriptions were read, and these are left
  pub record PumpedSoFar (t : List PlainProjection) (by : ℕ) (s : PlainSession) (p : P) (count : ℕ) (left : List PlainSubscription)
      (says : List PlainAnswer → Type 0) (q : P) : Type 0 where
    pub takes : List PlainTake
    pub subs_are : map (λ x. x.sub) takes ++ left ≡ s.subs
    pub calls : TakeCalls acts max takes p q
    pub count_is : count ≡ pump_count takes
    pub said : says (pump_answers t by s.source takes)

  pub takes_none : (p : P) → TakeCalls acts max [] p p
  unfolding TakeCalls
  takes_none p = refl

module _ {P : Type 0} (acts : PlainKey → CallRelation P) where
  pub closed_more : (xs : List PlainSubscription) (x : PlainSubscription) (p m q : P) → CloseAllCalls acts xs p m → acts x.queue.base (unsubscribe x.queue.id) m tt q → CloseAllCalls acts (xs ++ x ∷ []) p q
  unfolding CloseAllCalls
  closed_more [] x p m q h one = let T : P → Type 0 = λ y. acts x.queue.base (unsubscribe x.queue.id) y tt q in (q, (subst T h one, refl))
  closed_more (y ∷ xs) x p m q h one = (h.0, (h.1.0, closed_more xs x h.0 m q h.1.1 one))

  pub closed_none : (p : P) → CloseAllCalls acts [] p p
  unfolding CloseAllCalls
  closed_none p = refl

pub output_more : (t : List PlainProjection) (by : ℕ) (source : List ℕ) (xs : List PlainTake) (x : PlainTake)
    → pump_answers t by source (xs ++ x ∷ []) ≡ pump_answers t by source xs ++ take_answers t by source x
output_more t by source [] x = append-nil (take_answers t by source x)
output_more t by source (y ∷ xs) x =
    ap (λ l. take_answers t by source y ++ l) (output_more t by source xs x)
    ∙ sym (append_assoc (take_answers t by source y) (pump_answers t by source xs) (take_answers t by source x))

pub counts_more : (xs : List PlainTake) (x : PlainTake) → pump_count (xs ++ x ∷ []) ≡ pump_count xs + length x.entries
counts_more [] x = omega arith
counts_more (y ∷ xs) x = omega (arith, counts_more xs x)

-- items appended to items
pub pieces_more : {A : Type 0} (f : PlainAnswer → List A) (old mid new : List A) (a b : List PlainAnswer) → mid ≡ old ++ answer_items f a → new ≡ mid ++ answer_items f b → new ≡ old ++ answer_items f (a ++ b)
pieces_more f old mid new a b e g =
    g ∙ ap (λ l. l ++ answer_items f b) e ∙ append_assoc old (answer_items f a) (answer_items f b) ∙ ap (λ l. old ++ l) (sym (pieces_append f a b))

-- one more queue is read
pub taken_sub : {A : Type 0} (f : A → PlainSubscription) (ts : List PlainTake) (t : PlainTake) (x : A) (left rest : List A) (all : List PlainSubscription) → left ≡ x ∷ rest → t.sub ≡ f x → map (λ t. t.sub) ts ++ map f left ≡ all
    → map (λ t. t.sub) (ts ++ t ∷ []) ++ map f rest ≡ all
taken_sub f ts t x left rest all is of before =
    ap (λ l. l ++ map f rest) (map-append (λ (t : PlainTake). t.sub) ts (t ∷ []))
    ∙ append_assoc (map (λ t. t.sub) ts) (t.sub ∷ []) (map f rest)
    ∙ ap (λ s. map (λ t. t.sub) ts ++ s ∷ map f rest) of
    ∙ ap (λ l. map (λ t. t.sub) ts ++ map f l) (sym is)
    ∙ before

-- no queue was read
pub stops_at_once : {P : Type 0} (acts : PlainKey → CallRelation P) (max : ℕ) (s : PlainSession) (p : P) → PumpInterrupted acts max s p p
stops_at_once acts max s p = record { takes = []; subs_left = s.subs; between = p; subs_are = refl; calls = takes_none acts max p; last = inl refl }

-- an allocation failed
pub pump_stopped : {P E : Type 0} (acts : PlainKey → CallRelation P) (max : ℕ) (t : List PlainProjection) (by : ℕ) (s : PlainSession) (p : P)
    (r : Result ℕ E) (says : List PlainAnswer → Type 0) (q : P) → IsErr r → PumpInterrupted acts max s p q
    → PumpOutcome acts max t by s p r says q
pump_stopped acts max t by s p (Ok count) says q is h = cc
pump_stopped acts max t by s p (Err e) says q is h = h
