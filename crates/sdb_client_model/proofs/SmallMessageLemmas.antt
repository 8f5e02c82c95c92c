-- A small run with messages is a small run without them.
use Rattle.std.proofs.Common.{◌≡◌, ◌+◌, List, [], ◌∷◌, ◌++◌, length, ◌⊎◌, refl, sym, ap, ◌∙◌, subst, append-nil}
use Rattle.std.specs.Prelude.{max}
use Rattle.std.specs.Option.{option_map_or}
use Rattle.sdb_transform.specs.Convergence.{IsSafeInteger}
use Rattle.sdb_transform.specs.OperationConvergence.{total_inserted_size}
use Rattle.sdb_oplog.specs.Snap.{document_of}
use Rattle.sdb_client_model.specs.Machine.{SharedDocument, ClientStep, make_edit, send_edit, decide_edit, process_entry, IsClientRun}
use Rattle.sdb_client_model.specs.Invariant.{IsConsistent}
use Rattle.sdb_client_model.specs.SmallRuns.{largest_number, longest_part, largest_inserted, total_added_amount, made_components, count_made, IsSmallRun, AreStepsMade, IsReachedBySmallRun}
use Rattle.sdb_client_model.specs.MessageMachine.{MessageState, MessageStep, client_edits, client_sends, client_resends, client_receives, client_advances, server_handles, server_refuses, server_handles_unread, server_pumps, client_connects, client_subscribes, connection_ends, IsMessageStep, IsMessageRun}
use Rattle.sdb_client_model.specs.MessageLaws.{edit_steps, edit_steps_of}
use Rattle.sdb_client_model.specs.SmallMessageRuns.{IsMessageStepMade, AreMessageStepsMade, SmallMessageRunsAreSmallRuns}
use Rattle.sdb_client_model.proofs.ClientRuns.{consistent_start}
use Rattle.sdb_client_model.proofs.MessageInvariant.{AreMessagesOfLog}
use Rattle.sdb_client_model.proofs.MessageRuns.{IsRefined, step_is_refined, refined_step, step_of_log, start_of_log, edit_steps_append, edit_steps_of_first}

-- ---- the steps without messages

-- a run and that its edits are made
pub record MadeRun (steps : List ClientStep) (old new : SharedDocument) : Type 0 where
  pub run : IsClientRun steps old new
  pub made : AreStepsMade steps old new run

pub made_append : (xs ys : List ClientStep) (old mid new : SharedDocument) → MadeRun xs old mid → MadeRun ys mid new
    → MadeRun (xs ++ ys) old new
made_append [] ys old mid new x y = subst (λ m. MadeRun ys m new) x.run y
made_append (step ∷ xs) ys old mid new x y =
    let rest = made_append xs ys x.run.0 mid new (record { run = x.run.2; made = x.made.1 }) y in
    record { run = (x.run.0, x.run.1, rest.run); made = (x.made.0, rest.made) }

-- no edit among the steps
pub steps_made : (steps : List ClientStep) (old new : SharedDocument) (run : IsClientRun steps old new)
    → edit_steps steps ≡ [] → AreStepsMade steps old new run
steps_made [] old new run none = tt
steps_made (make_edit source op ∷ steps) old new run none = cc
steps_made (send_edit source ∷ steps) old new run none = (tt, steps_made steps run.0 new run.2 none)
steps_made (decide_edit m via by now ∷ steps) old new run none = (tt, steps_made steps run.0 new run.2 none)
steps_made (process_entry source ∷ steps) old new run none = (tt, steps_made steps run.0 new run.2 none)

record MadeRefined (step : MessageStep) (old new : MessageState) : Type 0 where
  pub client_steps : List ClientStep
  pub run : MadeRun client_steps old.shared new.shared
  pub edits : edit_steps client_steps ≡ edit_steps_of (step ∷ [])

no_edit_made : (step : MessageStep) (old new : MessageState) → edit_steps_of (step ∷ []) ≡ [] → IsRefined step old new
    → MadeRefined step old new
no_edit_made step old new none r = record {
  client_steps = r.client_steps;
  run = record { run = r.run; made = steps_made r.client_steps old.shared new.shared r.run (r.edits ∙ none) };
  edits = r.edits;
}

made_refined : (step : MessageStep) (old new : MessageState) → IsMessageStepMade step old → IsMessageStep step old new
    → IsRefined step old new → MadeRefined step old new
made_refined (client_edits source op) old new made is r = record {
  client_steps = make_edit source op ∷ [];
  run = record { run = (new.shared, ap (λ (s : MessageState). s.shared) is, refl); made = (made, tt) };
  edits = refl;
}
made_refined (client_sends source) old new made is r = no_edit_made (client_sends source) old new refl r
made_refined (client_resends source) old new made is r = no_edit_made (client_resends source) old new refl r
made_refined (client_receives source) old new made is r = no_edit_made (client_receives source) old new refl r
made_refined (client_advances source) old new made is r = no_edit_made (client_advances source) old new refl r
made_refined (server_handles source now) old new made is r = no_edit_made (server_handles source now) old new refl r
made_refined (server_refuses source) old new made is r = no_edit_made (server_refuses source) old new refl r
made_refined (server_handles_unread m now) old new made is r = no_edit_made (server_handles_unread m now) old new refl r
made_refined (server_pumps source) old new made is r = no_edit_made (server_pumps source) old new refl r
made_refined (client_connects source via) old new made is r = no_edit_made (client_connects source via) old new refl r
made_refined (client_subscribes source) old new made is r = no_edit_made (client_subscribes source) old new refl r
made_refined (connection_ends source) old new made is r = no_edit_made (connection_ends source) old new refl r

record MadeRefinedRun (steps : List MessageStep) (old new : MessageState) : Type 0 where
  pub client_steps : List ClientStep
  pub run : MadeRun client_steps old.shared new.shared
  pub edits : edit_steps client_steps ≡ edit_steps_of steps

no_step_made : (old new : MessageState) → new.shared ≡ old.shared → MadeRefinedRun [] old new
no_step_made old new same = record { client_steps = []; run = record { run = same; made = tt }; edits = refl }

made_refined_run : (steps : List MessageStep) (old new : MessageState) → IsConsistent old.shared → AreMessagesOfLog old
    → (run : IsMessageRun steps old new) → AreMessageStepsMade steps old new run
    → MadeRefinedRun steps old new
made_refined_run [] old new c h run made = no_step_made old new (ap (λ (s : MessageState). s.shared) run)
made_refined_run (step ∷ steps) old new c h run made =
    let a = made_refined step old run.0 made.0 run.1 (step_is_refined step old run.0 c h run.1) in
    let b = made_refined_run steps run.0 new (refined_step step old run.0 c h run.1)
    (step_of_log step old run.0 c h run.1) run.2 made.1 in
    record {
      client_steps = a.client_steps ++ b.client_steps;
      run = made_append a.client_steps b.client_steps old.shared run.0.shared new.shared a.run b.run;
      edits =
          edit_steps_append a.client_steps b.client_steps
          ∙ ap (λ l. l ++ edit_steps b.client_steps) a.edits
          ∙ ap (λ l. edit_steps_of (step ∷ []) ++ l) b.edits
          ∙ edit_steps_of_first step steps;
    }

-- ---- the sums of the edits

pub components_of_edits : (steps : List ClientStep) → made_components (edit_steps steps) ≡ made_components steps
components_of_edits [] = refl
components_of_edits (make_edit source op ∷ steps) = ap (λ l. op ++ l) (components_of_edits steps)
components_of_edits (send_edit source ∷ steps) = components_of_edits steps
components_of_edits (decide_edit m via by now ∷ steps) = components_of_edits steps
components_of_edits (process_entry source ∷ steps) = components_of_edits steps

pub count_of_edits : (steps : List ClientStep) → count_made (edit_steps steps) ≡ count_made steps
count_of_edits [] = refl
count_of_edits (make_edit source op ∷ steps) = ap (λ n. 1 + n) (count_of_edits steps)
count_of_edits (send_edit source ∷ steps) = count_of_edits steps
count_of_edits (decide_edit m via by now ∷ steps) = count_of_edits steps
count_of_edits (process_entry source ∷ steps) = count_of_edits steps

pub small_of_same : (xs ys : List ClientStep) (start : SharedDocument) → made_components xs ≡ made_components ys
    → count_made xs ≡ count_made ys → IsSmallRun xs start → IsSmallRun ys start
small_of_same xs ys start components count h = record {
  amounts =
      subst
      (λ cs. (total_added_amount cs ≡ 0)
      ⊎ IsSafeInteger
      (max (option_map_or largest_number (document_of start.log) 0)
      (largest_inserted largest_number cs) + total_added_amount cs)) components h.amounts;
  texts =
      subst
      (λ cs. IsSafeInteger
      (max (option_map_or longest_part (document_of start.log) 0)
      (largest_inserted longest_part cs) + total_inserted_size cs)) components h.texts;
  entries = subst (λ n. IsSafeInteger (length start.log + n)) count h.entries;
}

-- a small run goes on without edits
pub small_continued : (xs ys : List ClientStep) (start mid new : SharedDocument) → IsReachedBySmallRun xs start mid
    → IsClientRun ys mid new → edit_steps ys ≡ [] → IsReachedBySmallRun (xs ++ ys) start new
small_continued xs ys start mid new r run none =
    let m = made_append xs ys start mid new (record { run = r.reached.run; made = r.made })
    (record { run = run; made = steps_made ys mid new run none }) in
    let same : edit_steps (xs ++ ys) ≡ edit_steps xs =
    edit_steps_append xs ys ∙ ap (λ l. edit_steps xs ++ l) none ∙ append-nil (edit_steps xs) in
    record {
      reached = record { starts = r.reached.starts; run = m.run };
      well_formed = r.well_formed;
      made = m.made;
      small =
          small_of_same xs (xs ++ ys) start
          (sym (components_of_edits xs) ∙ ap made_components (sym same) ∙ components_of_edits (xs ++ ys))
          (sym (count_of_edits xs) ∙ ap count_made (sym same) ∙ count_of_edits (xs ++ ys)) r.small;
    }

pub small_message_runs_are_small_runs : SmallMessageRunsAreSmallRuns
small_message_runs_are_small_runs steps start s r =
    let m = made_refined_run steps start s (consistent_start start.shared r.reached.starts.shared)
    (start_of_log start r.reached.starts) r.reached.run r.made in
    record {
      client_steps = m.client_steps;
      reached = record {
        reached = record { starts = r.reached.starts.shared; run = m.run.run };
        well_formed = r.well_formed;
        made = m.run.made;
        small =
            small_of_same (edit_steps_of steps) m.client_steps start.shared
            (ap made_components (sym m.edits) ∙ components_of_edits m.client_steps)
            (ap count_made (sym m.edits) ∙ count_of_edits m.client_steps) r.small;
      };
      edits = m.edits;
    }
