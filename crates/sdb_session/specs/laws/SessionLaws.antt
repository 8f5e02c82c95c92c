-- Laws of sessions: alone with the machine, the answers of a session's calls are its dialogue.
use Rattle.std.proofs.Common.{◌≡◌, ℕ, List, [], ◌∷◌, length, false, cond, nat_lt, ◌+◌, ◌-◌, ◌<◌, ◌≤◌, ◌++◌, take, drop, take-append-drop, map, Option, Some, None, Result, Ok, Err, refl, sym, ap, ◌∙◌, subst, append_assoc, arith}
use Rattle.std.proofs.lemmas.Bool.Decides.{nat_tests}
use Rattle.std.proofs.lemmas.List.{map-append}
use Rattle.sdb_oplog.specs.declared.codes.Code.{Code}
use Rattle.sdb_oplog.specs.declared.codes.Code.TheVariants.{E4}
use Rattle.sdb_oplog.specs.Plain.{PlainEntry}
use Rattle.sdb_oplog.specs.Keys.{PlainKey, Logs}
use Rattle.sdb_desk.specs.Machine.{Machine, PlainSubscribeResult, operations_from}
use Rattle.sdb_projection.specs.Table.{PlainProjection}
use Rattle.sdb_submit.specs.Calls.{current_version, subscribe as subscribe_call}
use Rattle.sdb_submit.specs.SubmitLoop.{total_size, entries_of}
use Rattle.sdb_submit.specs.laws.SubmitLaws.{reads_batches_append}
use Rattle.sdb_wire.specs.Wire.{PlainEcho, parse_message, PlainRequest, hello, fetch, subscribe, unsubscribe, submit, snapshot, snapshot_at_time}
use Rattle.sdb_wire.specs.Answers.{PlainAnswer, list_end, caught_up}
use Rattle.sdb_session.specs.ProjectionModel.{base_key, projection_of_key}
use Rattle.sdb_session.specs.Sessions.{QueueId, PlainSubscription, PlainSession, queue_of, is_subscription_full}
use Rattle.sdb_session.specs.Listing.{PlainListing, entries_left, ListingBegins, ListingContinues, MessageBegins, TextBegins}
use Rattle.sdb_session.specs.Output.{answer_items}
use Rattle.sdb_session.specs.Responses.{entry_answers, list_answers, subscribe_response}
use Rattle.sdb_session.specs.laws.MachineLaws.{same_state, opens_ok, takes_some, next_after}
use Rattle.sdb_session.specs.PumpModel.{PlainTake, TakeCalls, PumpRelation, pump_answers}
use Rattle.sdb_session.specs.Dialogue.{pass_zero, ok, machine_after_open, next_entries, machine_after_take, subscribe_result, subscribe_or_refuse, transition_of_request, transition_of_message, transition_of_line, pump_takes, machine_after_pump, pump_transition}
use Rattle.sdb_session.specs.laws.RequestLaws.{batches_taken}
pub use Rattle.sdb_session.specs.laws.RequestLaws.{MachineActs, state_at, IsTransition, answers_output}

-- ---- parts

pub pieces_append : {A : Type 0} (f : PlainAnswer → List A) (a b : List PlainAnswer)
    → answer_items f (a ++ b) ≡ answer_items f a ++ answer_items f b
pieces_append f [] b = refl
pieces_append f (x ∷ a) b =
    ap (λ l. f x ++ l) (pieces_append f a b) ∙ sym (append_assoc (f x) (answer_items f a) (answer_items f b))

-- the answers so far, and those that the machine adds
pub record AnswersSplit (all : List PlainAnswer) (says : List PlainAnswer → Type 0) : Type 0 where
  pub front : List PlainAnswer
  pub more : List PlainAnswer
  pub said : says front
  pub split : all ≡ front ++ more

-- ---- a session and the machine

module _ {P : Type 0} (machine : P → Machine) where
  -- ---- listings

  -- a part of a list comes first in it
  answers_split : (o : Option PlainProjection) (k : PlainKey) (n : ℕ) (es : List PlainEntry) (last : PlainAnswer)
      → entry_answers o k es ++ last ∷ [] ≡ entry_answers o k (take n es) ++ (entry_answers o k (drop n es) ++ last ∷ [])
  answers_split o k n es last =
      ap (λ l. entry_answers o k l ++ last ∷ []) (sym (take-append-drop n es))
      ∙ ap (λ l. l ++ last ∷ []) (map-append _ (take n es) (drop n es))
      ∙ append_assoc (entry_answers o k (take n es)) (entry_answers o k (drop n es)) (last ∷ [])

  module _ (t : List PlainProjection) (e : PlainEcho) (now : ℕ) (s : PlainSession) (p : P) (rest : PlainListing)
      (says : List PlainAnswer → Type 0) (q : P) where
    abbrev answers_at : PlainRequest → List PlainAnswer
    answers_at r = (transition_of_request t e (state_at machine p s) now r).answers

    -- the listing of a log
    listing_split : (k : PlainKey) (v end : ℕ) (m : P) → (MachineActs machine) (base_key t k) current_version p end m → v ≤ end
        → ListingContinues (MachineActs machine) t (record { key = k; base = base_key t k; next = v; end = end; queue = None }) m rest says q
        → AnswersSplit (answers_at (fetch k (Some v))) says
    listing_split k v end m (is, (logs, queues)) within a =
        let b = base_key t k in
        let o = projection_of_key t k in
        let log = (machine p).logs b in
        let n = total_size a.batches in
        let read = (reads_batches_append machine pass_zero b v a.batches m q a.reads).0 in
        let front : entries_of a.batches ≡ take n (drop v log) = read ∙ ap (λ (f : Logs). take n (drop v (f b))) logs in
        let reached : nat_lt (length log) v ≡ false = grind (arith, nat_tests, is, within) in
        let all : operations_from log v ≡ Ok (drop v log) = ap (λ x. cond x (Err E4) (Ok (drop v log))) reached in
        record {
          front = entry_answers o k (take n (drop v log));
          more = entry_answers o k (drop n (drop v log)) ++ list_end k ∷ [];
          said = subst (λ es. says (entry_answers o k es)) front a.said;
          split = ap (list_answers e o k) all ∙ answers_split o k n (drop v log) (list_end k);
        }

    -- the first entries of a new queue
    subscription_split : (k : PlainKey) (v : ℕ) (opened : PlainSubscribeResult) (m : P) → is_subscription_full k s.subs ≡ false
        → (MachineActs machine) (base_key t k) (subscribe_call (Some v)) p (Ok opened) m
        → ListingContinues (MachineActs machine) t
        (record { key = k; base = base_key t k; next = v; end = opened.version; queue = Some opened.id }) m rest says q
        → AnswersSplit (answers_at (subscribe k (Some v))) says
    subscription_split k v opened m full opens a =
        let b = base_key t k in
        let o = projection_of_key t k in
        let x : QueueId = record { base = b; id = opened.id } in
        let old = queue_of k s.subs in
        let n = total_size a.batches in
        let at = opens_ok (machine p) (machine m) b (Some v) opened opens in
        let after = machine_after_open (machine p) b (Some v) in
        let left = opened.version - (v + n) in
        let some : 0 < left = subst (λ (y : PlainListing). 0 < entries_left y) a.advances a.some_left in
        let sum : opened.version - v ≡ n + left = omega (arith, some) in
        let first = next_entries after x n in
        let later = next_entries (machine_after_take after x n) x left in
        let read : entries_of a.batches ≡ first =
        (batches_taken machine x a.batches m q a.reads).0 ∙ ap (λ (z : Machine). next_entries z x n) at.1 in
        let whole : next_entries after x (opened.version - v) ≡ first ++ later =
        ap (next_entries after x) sum ∙ (next_after after x n left).0 in
        let due : answers_at (subscribe k (Some v)) ≡ entry_answers o k (next_entries after x (opened.version - v)) ++ caught_up k ∷ [] =
        ap (λ f. (subscribe_response e t s k (Some v) (subscribe_or_refuse f (machine p) b (Some v) old).0).answers) full
        ∙ ap (λ r. (subscribe_response e t s k (Some v) (subscribe_result (machine p) b (Some v) old r).0).answers) at.0 in
        record {
          front = entry_answers o k first;
          more = entry_answers o k later ++ caught_up k ∷ [];
          said = subst (λ es. says (entry_answers o k es)) read a.said;
          split =
              due
              ∙ ap (λ es. entry_answers o k es ++ caught_up k ∷ []) whole
              ∙ ap (λ l. l ++ caught_up k ∷ []) (map-append _ first later)
              ∙ append_assoc (entry_answers o k first) (entry_answers o k later) (caught_up k ∷ []);
        }

    request_split : (r : PlainRequest) → ListingBegins (MachineActs machine) t s r p rest says q → AnswersSplit (answers_at r) says
    request_split (fetch k (Some v)) a =
        let o = a.opens in
        listing_split k v o.end a.between o.reads o.within (subst (λ (x : PlainListing). ListingContinues (MachineActs machine) t x a.between rest says q) o.listing_is a.continues)
    request_split (subscribe k (Some v)) a =
        let o = a.opens in
        subscription_split k v o.opened a.between o.not_full o.opens (subst (λ (x : PlainListing). ListingContinues (MachineActs machine) t x a.between rest says q) o.listing_is a.continues)
    request_split (fetch k None) a = absurd a.opens
    request_split (subscribe k None) a = absurd a.opens
    request_split (hello n) a = absurd a.opens
    request_split (unsubscribe k) a = absurd a.opens
    request_split (submit k v n src c) a = absurd a.opens
    request_split (snapshot k v n) a = absurd a.opens
    request_split (snapshot_at_time k v n) a = absurd a.opens

    message_split : (r : Result PlainRequest Code) → MessageBegins (MachineActs machine) r t s p rest says q
        → AnswersSplit (transition_of_message t (state_at machine p s) now ok e r).answers says
    message_split (Ok r) a = request_split r a
    message_split (Err code) a = absurd a

  -- what a listing has written so far are the first answers of the dialogue, if no allocation fails
  pub begun_output : (text : List ℕ) (t : List PlainProjection) (now : ℕ) (s : PlainSession) (p : P) (rest : PlainListing)
      (says : List PlainAnswer → Type 0) (q : P) → TextBegins (MachineActs machine) text t s p rest says q
      → AnswersSplit (transition_of_line t (state_at machine p s) now ok (Some text)).answers says
  begun_output text t now s p rest says q h =
      message_split t (parse_message text).echo now s p rest says q (parse_message text).request h

  -- ---- pumps

  takings_are : (xs : List PlainTake) (p q : P) → TakeCalls (MachineActs machine) 64 xs p q
      → (xs ≡ pump_takes (map (λ x. x.sub) xs) (machine p)) × (machine q ≡ machine_after_pump (map (λ x. x.sub) xs) (machine p))
  unfolding TakeCalls
  takings_are [] p q h = (refl, ap machine h)
  takings_are (x ∷ xs) p q (m, ((a, (acts, is)), rest)) =
      let subs : List PlainSubscription = map (λ x. x.sub) xs in
      let y = takes_some (machine p) (machine m) x.sub.queue 64 a x.entries acts is in
      let below = takings_are xs m q rest in
      let z : PlainTake = record { sub = x.sub; entries = next_entries (machine p) x.sub.queue 64 } in (
        ap (λ es. record { sub = x.sub; entries = es } ∷ xs) y.0
            ∙ ap (λ l. z ∷ l) (below.0 ∙ ap (pump_takes subs) y.1),
        below.1 ∙ ap (machine_after_pump subs) y.1,
      )

  -- a pump writes the entries that wait
  pub pumps_output : (t : List PlainProjection) (s : PlainSession) (p : P) (count : ℕ) (says : List PlainAnswer → Type 0)
      (q : P) → PumpRelation (MachineActs machine) 64 t pass_zero s p count says q
      → IsTransition machine (pump_transition t (state_at machine p s)) says s q
  pumps_output t s p count says q h =
      let xs = h.takes in
      let subs = h.subs_are in
      let all = takings_are xs p q h.calls in
      let xs_are : xs ≡ pump_takes s.subs (machine p) = all.0 ∙ ap (λ l. pump_takes l (machine p)) subs in
      let after : machine q ≡ machine_after_pump s.subs (machine p) = all.1 ∙ ap (λ l. machine_after_pump l (machine p)) subs in (
        subst (λ l. says (pump_answers t pass_zero s.source l)) xs_are h.said,
        same_state (machine_after_pump s.subs (machine p))
            (machine q) s s after refl,
      )
