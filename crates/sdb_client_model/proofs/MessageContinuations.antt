-- Runs without edits that continue a small run: what is known of their states.
use Rattle.std.proofs.Common.{◌≡◌, ℕ, List, [], ◌∷◌, ◌++◌, slice_get, Bool, true, false, cond, Some, Contains, refl, sym, ap, ◌∙◌, subst, append_assoc, bytes_eq}
use Rattle.sdb_oplog.specs.Plain.{PlainEntry}
use Rattle.sdb_oplog.specs.Decide.{refused, decide}
use Rattle.sdb_oplog.specs.declared.codes.Code.{Code}
use Rattle.sdb_client_model.specs.Client.{Client, is_sent_edit, after_acknowledgement, after_content}
use Rattle.sdb_client_model.specs.Machine.{SubmittedEdit, ClientStep, submission_of}
use Rattle.sdb_client_model.specs.MadeEdits.{IsProcessed}
use Rattle.sdb_client_model.specs.SmallRuns.{IsReachedBySmallRun}
use Rattle.sdb_client_model.specs.MessageMachine.{MessageState, source_client, MessageStep, with_value, IsMessageStep, IsMessageRun}
use Rattle.sdb_client_model.specs.MessageLaws.{edit_steps_of}
use Rattle.sdb_client_model.specs.SmallMessageRuns.{AreMessageStepsMade, IsReachedBySmallMessageRun}
use Rattle.sdb_client_model.proofs.AppendLemmas.{same_source}
use Rattle.sdb_client_model.proofs.ClientRuns.{entries_are_processed, none_refused}
use Rattle.sdb_client_model.proofs.SmallRunLemmas.{small_runs_are_in_range, next_decisions_are_in_range, next_entries_are_in_range}
use Rattle.sdb_client_model.proofs.MessageLogs.{drop_of_slice_get, stored_entry}
use Rattle.sdb_client_model.proofs.MessageRuns.{edit_steps_of_first, step_is_refined}
use Rattle.sdb_client_model.proofs.MessageServerSteps.{same_bytes}
use Rattle.sdb_client_model.proofs.MessageCompleteRuns.{HoldsAfterRun, holds_after, holds}
use Rattle.sdb_client_model.proofs.SmallMessageLemmas.{small_continued, small_message_runs_are_small_runs}

-- ---- values at one source

pub value_at : {A : Type 0} (f : List ℕ → A) (source : List ℕ) (x : A) → with_value f source x source ≡ x
value_at f source x = ap (λ b. cond b x (f source)) (same_bytes source)

value_by : {A : Type 0} (source other : List ℕ) (b : Bool) (x y : A) → bytes_eq source other ≡ b → (source ≡ other → ⊥)
    → cond b x y ≡ y
value_by source other true x y is ne = absurd (ne (same_source source other is))
value_by source other false x y is ne = refl

pub value_at_other : {A : Type 0} (f : List ℕ → A) (source other : List ℕ) (x : A) → (source ≡ other → ⊥)
    → with_value f source x other ≡ f other
value_at_other f source other x ne = value_by source other (bytes_eq source other) x (f other) refl ne

-- ---- one more step

-- a run, and that its edits are made
pub record MadeMessageRun (steps : List MessageStep) (old new : MessageState) : Type 0 where
  pub run : IsMessageRun steps old new
  pub made : AreMessageStepsMade steps old new run

pub made_append : (xs ys : List MessageStep) (old mid new : MessageState) → MadeMessageRun xs old mid
    → MadeMessageRun ys mid new → MadeMessageRun (xs ++ ys) old new
made_append [] ys old mid new x y = subst (λ m. MadeMessageRun ys m new) x.run y
made_append (step ∷ xs) ys old mid new x y =
    let rest = made_append xs ys x.run.0 mid new (record { run = x.run.2; made = x.made.1 }) y in
    record { run = (x.run.0, x.run.1, rest.run); made = (x.made.0, rest.made) }

edit_steps_of_append : (xs ys : List MessageStep) → edit_steps_of (xs ++ ys) ≡ edit_steps_of xs ++ edit_steps_of ys
edit_steps_of_append [] ys = refl
edit_steps_of_append (x ∷ xs) ys =
    sym (edit_steps_of_first x (xs ++ ys))
    ∙ ap (λ l. edit_steps_of (x ∷ []) ++ l) (edit_steps_of_append xs ys)
    ∙ sym (append_assoc (edit_steps_of (x ∷ [])) (edit_steps_of xs) (edit_steps_of ys))
    ∙ ap (λ l. l ++ edit_steps_of ys) (edit_steps_of_first x xs)

-- a step that makes no edit
abbrev pub HasNoEdit : MessageStep → Type 0
HasNoEdit step = edit_steps_of (step ∷ []) ≡ []

-- s is reached by a small run without messages, and its messages are of the log and complete
pub record IsSmallState (start s : MessageState) : Type 0 where
  pub client_steps : List ClientStep
  pub reached : IsReachedBySmallRun client_steps start.shared s.shared
  pub holds : HoldsAfterRun s

pub small_state : (steps : List MessageStep) (start s : MessageState) → IsReachedBySmallMessageRun steps start s
    → IsSmallState start s
small_state steps start s r =
    let m = small_message_runs_are_small_runs steps start s r in
    record { client_steps = m.client_steps; reached = m.reached; holds = holds steps start s r.reached }

small_next : (start s later : MessageState) → IsSmallState start s → (step : MessageStep) → HasNoEdit step
    → IsMessageStep step s later → IsSmallState start later
small_next start s later h step none is =
    let r = step_is_refined step s later h.holds.consistent h.holds.of_log is in
    record {
      client_steps = h.client_steps ++ r.client_steps;
      reached = small_continued h.client_steps r.client_steps start.shared s.shared later.shared h.reached r.run
          (r.edits ∙ none);
      holds = holds_after (step ∷ []) s later h.holds (later, is, refl);
    }

-- ---- a run that continues s

pub record Continues (start s later : MessageState) : Type 0 where
  pub steps : List MessageStep
  pub run : IsMessageRun steps s later
  pub none_edited : edit_steps_of steps ≡ []
  pub small : IsSmallState start later

pub continues_none : (start s : MessageState) → IsSmallState start s → Continues start s s
continues_none start s h = record { steps = []; run = refl; none_edited = refl; small = h }

pub continues_one : (start s later : MessageState) → IsSmallState start s → (step : MessageStep) → HasNoEdit step
    → IsMessageStep step s later → Continues start s later
continues_one start s later h step none is =
    record {
      steps = step ∷ [];
      run = (later, is, refl);
      none_edited = none;
      small = small_next start s later h step
          none is;
    }

run_append : (xs ys : List MessageStep) (old mid new : MessageState) → IsMessageRun xs old mid → IsMessageRun ys mid new
    → IsMessageRun (xs ++ ys) old new
run_append [] ys old mid new x y = subst (λ m. IsMessageRun ys m new) x y
run_append (step ∷ xs) ys old mid new x y = (x.0, x.1, run_append xs ys x.0 mid new x.2 y)

pub continues_then : (start s mid later : MessageState) → Continues start s mid → Continues start mid later
    → Continues start s later
continues_then start s mid later a b = record {
  steps = a.steps ++ b.steps;
  run = run_append a.steps b.steps s mid later a.run b.run;
  none_edited = edit_steps_of_append a.steps b.steps ∙ ap (λ l. l ++ edit_steps_of b.steps) a.none_edited
      ∙ b.none_edited;
  small = b.small;
}

-- ---- what is known of a small state

module _ (start s : MessageState) (h : IsSmallState start s) where
  pub known : HoldsAfterRun s
  known = h.holds

  -- a client can process the entry at its version
  pub next_processed : (source : List ℕ) (e : PlainEntry)
      → slice_get s.shared.log (source_client s source).version ≡ Some e
      → IsProcessed source e (source_client s source)
  next_processed source e at =
      entries_are_processed h.client_steps start.shared s.shared source e _
      (small_runs_are_in_range h.client_steps start.shared s.shared h.reached)
      (drop_of_slice_get s.shared.log (source_client s source).version e at)
      (next_entries_are_in_range h.client_steps start.shared s.shared source h.reached)

  -- the server refuses no edit that was sent
  pub next_not_refused : (m : SubmittedEdit) (via : List ℕ) (by now : ℕ) (code : Code) → Contains s.shared.submitted m
      → (decide s.shared.log (submission_of m via by) now).reply ≡ refused code → ⊥
  next_not_refused m via by now code has is =
      none_refused h.client_steps start.shared s.shared m via by now code
      (small_runs_are_in_range h.client_steps start.shared s.shared h.reached) has
      (next_decisions_are_in_range h.client_steps start.shared s.shared m via by now h.reached has) is

  -- `ack` is the client's version: the entry there is its sent edit
  pub own_entry : (source : List ℕ) → (s.received source).ack ≡ Some (source_client s source).version
      → (e : PlainEntry) × (slice_get s.shared.log (source_client s source).version ≡ Some e)
      × (is_sent_edit source (source_client s source).sent e ≡ true)
  own_entry source ack =
      let a = (known.of_log.clients source).received.ack (source_client s source).version ack in
      let e = stored_entry s.shared.log source a.0.seq (source_client s source).version a.2 in
      (e.entry, e.is, ap (λ o. is_sent_edit source o e.entry) a.1 ∙ e.identifier)

  -- the client after the entry at its version
  pub processed_client : (source : List ℕ) (e : PlainEntry) (own : Bool)
      → slice_get s.shared.log (source_client s source).version ≡ Some e
      → is_sent_edit source (source_client s source).sent e ≡ own
      → (x : Client)
      × (cond own (after_acknowledgement (source_client s source) (source_client s source).pending)
      (after_content (source_client s source) e.content) ≡ Some x)
  processed_client source e own at is =
      let c = source_client s source in
      let p = next_processed source e at in (
        p.client,
        ap (λ b. cond b (after_acknowledgement c c.pending) (after_content c e.content)) (sym is) ∙ p.client_is,
      )
