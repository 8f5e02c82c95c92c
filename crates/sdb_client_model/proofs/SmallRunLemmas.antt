-- No position and no sum leaves the range in the states of a small run.
use Rattle.std.proofs.Common.{◌≡◌, ℕ, zero, suc, ◌+◌, ◌≤◌, List, [], ◌∷◌, ◌++◌, take, drop, length, true, false, Option, Some, None, Result, Ok, Err, ◌⊎◌, inl, inr, unwrap_or, nat_eq, ℤ, unsigned_abs, refl, sym, ap, ◌∙◌, subst, arith, append_assoc, length-append, length-take, take-append-drop}
use Rattle.std.proofs.lemmas.Int.{ints}
use Rattle.std.proofs.lemmas.List.{take_all}
use Rattle.std.proofs.Math.Seq.{take-append_seam}
use Rattle.std.proofs.lemmas.Bool.{and_from, eq-eqb}
use Rattle.std.proofs.lemmas.Bool.Decides.{nat_tests}
use Rattle.std.proofs.lemmas.Slice.Eq.{bytes_eq-Decides}
use Rattle.std.specs.Prelude.{bytes_eq, Contains, ⊤, option_and_then}
use Rattle.std.specs.Option.{option_map_or}
use Rattle.std.specs.Result.{result_ok}
use Rattle.sdb_value.specs.Value.{Value, null, truth, whole, text, list, object, Items, no_items, item, Members, no_members, member}
use Rattle.sdb_value.specs.WellFormed.{IsInRange, IsWellFormed, AreWellFormed, MembersWellFormed}
use Rattle.sdb_component.specs.Plain.{PlainAct, na, si, sd, li, ld, lr, oi, od, or, PlainComponent}
use Rattle.sdb_component.specs.Weight.{component_weight}
use Rattle.sdb_apply.specs.Apply.{apply}
use Rattle.sdb_transform.specs.Cross.{Crossing, sum_weight, cross, cross_ops}
use Rattle.sdb_transform.specs.Convergence.{IsSafeInteger}
use Rattle.sdb_transform.specs.OperationConvergence.{HaveValidParts, InsertsWellFormedValue, total_inserted_size, AllStayInRange}
use Rattle.sdb_transform.proofs.FormedValues.{IsFormed}
use Rattle.sdb_transform.proofs.OperationRuns.{OperationRun, run_of, run_formed}
use Rattle.sdb_transform.proofs.OperationLemmas.{CrossingRuns, cross_runs}
use Rattle.sdb_transform.proofs.RaisedPositions.{size_append}
use Rattle.sdb_oplog.specs.declared.codes.Code.{Code}
use Rattle.sdb_oplog.specs.declared.codes.Code.TheVariants.{E8}
use Rattle.sdb_oplog.specs.Plain.{PlainContent, create, delete, edit, PlainSubmission, PlainEntry}
use Rattle.sdb_oplog.specs.Refusal.{result_and_then}
use Rattle.sdb_oplog.specs.Rebase.{rebase}
use Rattle.sdb_oplog.specs.Snap.{apply_content, snap_from, snap, document_of, stored_at, has_identifier}
use Rattle.sdb_oplog.specs.Decide.{decide, rebased_content, new_entry, is_log_full, is_version_too_new, missed_entries}
use Rattle.sdb_oplog.specs.RebasedContents.{IsContentMadeFor, AreEntriesMadeFor, IsWellFormedDocument, RebasedSumLeavesRange, PositionLeavesRangeAmong, base_document}
use Rattle.sdb_oplog.specs.laws.LogLaws.{decides_repeat, decides_settled, rebase_append, snap_one, some_of_is_some}
use Rattle.sdb_oplog.specs.laws.DecidedLogLaws.{applied_if_settled, alive_of_made}
use Rattle.sdb_client_model.specs.Client.{SentEdit, Client, shown_document, after_edit, after_send}
use Rattle.sdb_client_model.specs.Machine.{SubmittedEdit, SharedDocument, ClientStep, make_edit, send_edit, decide_edit, process_entry, with_changed_client, after_sending, submission_of, after_decision, IsClientStep, IsClientRun}
use Rattle.sdb_client_model.specs.Invariant.{AreEdits, IsConsistent}
use Rattle.sdb_client_model.specs.Convergence.{IsNewClient, IsStart}
use Rattle.sdb_client_model.specs.RunPremises.{IsMadeForShown, CrossesInRange, PendingCrossesInRange, IsRebasedInRange, ProcessesInRange, IsStepInRange, AreStepsInRange}
use Rattle.sdb_client_model.specs.MadeEdits.{ArePendingMade, IsSentMade, AreEditsMade}
use Rattle.sdb_client_model.specs.SmallRuns.{largest_number, largest_in_items, largest_in_members, longest_part, inserted_measure, largest_inserted, total_added_amount, made_components, count_made, largest_held, IsStepMade, AreStepsMade, IsReachedBySmallRun, SmallRunsAreInRange, NextDecisionsAreInRange, NextEntriesAreInRange}
use Rattle.sdb_client_model.proofs.PendingLemmas.{same_some, run_to}
use Rattle.sdb_client_model.proofs.EntryLemmas.{same_ok, same_operation, edit_of, edit_of_rebase, made_after, made_entry}
use Rattle.sdb_client_model.proofs.StoredEdits.{snap_at, snap_since, snap_append, rebased_run}
use Rattle.sdb_client_model.proofs.DecisionLemmas.{sent_by_client, sent_edit}
use Rattle.sdb_client_model.proofs.MadeEdits.{StartsFormed, made_since}
use Rattle.sdb_client_model.proofs.ClientRuns.{consistent_start, consistent_step, runs_are_consistent, starts_formed, made_start, made_step}
use Rattle.sdb_client_model.proofs.Reductions.{IsReduced, crossing_reduced, largest_append, amount_append}
use Rattle.sdb_client_model.proofs.NumberBounds.{applied_largest, sums_stay}
use Rattle.sdb_client_model.proofs.LengthBounds.{run_longest, applied_longest}
use Rattle.sdb_client_model.proofs.Accounts.{content_weight, log_weight, ops_weight, sum_over, unstored_weight, IsWithin, Lessens, log_append, within_changed, within_appended, unstored_edit, unstored_send, unstored_processed, processed_of, entry_and_pending, log_and_sent}
use Rattle.sdb_client_model.proofs.RunBounds.{Bounds, IsBoundedOp, AreBoundedOps, IsBoundedEntry, AreBoundedEntries, IsBoundedVersion, IsBoundedClient, IsBounded, whole_log, entries_since, rebased_first, rebase_reduced, bounded_changed, bounded_edit, bounded_send, bounded_processed, bounded_appended}

-- ---- a small state

abbrev one_each : List PlainComponent → ℕ
one_each op = 1

-- all edits insert at most i and add at most a, and with the entries they are at most n
record IsSmall (b : Bounds) (i a n : ℕ) (s : SharedDocument) : Type 0 where
  pub bounded : IsBounded b s
  pub sizes : IsWithin total_inserted_size i s
  pub amounts : IsWithin total_added_amount a s
  pub count : IsWithin one_each n s

record HasRoom (b : Bounds) (i a n : ℕ) : Type 0 where
  pub lengths : b.length + i ≤ 9007199254740991 + b.size
  pub numbers : b.number + a ≤ 9007199254740991 + b.amount
  pub entries : n ≤ 9007199254740991

sizes_lessen : Lessens total_inserted_size
sizes_lessen a b r = r.size

amounts_lessen : Lessens total_added_amount
amounts_lessen a b r = r.amount

counts_lessen : Lessens one_each
counts_lessen a b r = omega arith

length_weight : (log : List PlainEntry) → log_weight one_each log ≡ length log
length_weight [] = refl
length_weight (e ∷ es) = omega (arith, one_of e.arrived.content, length_weight es)
  where
    one_of : (m : PlainContent) → content_weight one_each m ≡ 1
    one_of (create v) = refl
    one_of delete = refl
    one_of (edit op) = refl

-- ---- an entry that is processed

one_crosses : (b : Bounds) (op received : List PlainComponent) (d : Value) (z : ℕ) → AllStayInRange op received → AllStayInRange received op → IsBoundedOp b op → IsBoundedOp b received
    → largest_number d + b.amount ≤ z → b.number + b.amount ≤ z → z + total_added_amount received + total_added_amount op ≤ 9007199254740991 + b.amount → CrossesInRange op received d
one_crosses b op received d z left right ops others values numbers room = record {
  positions = λ none out. out left right;
  left_sums = λ x e crossed applied.
      let r = (crossing_reduced op received x crossed).left in
      sums_stay x.left e (omega (arith, r.number, r.amount, ops.number, others.number, values, numbers, room, applied_largest received d e applied));
  right_sums = λ x e crossed applied.
      let r = (crossing_reduced op received x crossed).right in
      sums_stay x.right e (omega (arith, r.number, r.amount, ops.number, others.number, values, numbers, room, applied_largest op d e applied));
}

both_run : (op received : List PlainComponent) (x : Crossing PlainComponent) (d e f : Value) → cross_ops op received ≡ Some x → IsFormed d → OperationRun op d e → OperationRun received d f → CrossingRuns e f x
unfolding cross
both_run op received x d e f crossed w l r = cross_runs (sum_weight component_weight op + sum_weight component_weight received) op received x crossed d e f w l r

-- y bounds the lengths of the document, and z its numbers
pending_crosses : (b : Bounds) (y z : ℕ) (ops : List (List PlainComponent)) (received : List PlainComponent) (d f : Value) → IsFormed d → ArePendingMade ops d → OperationRun received d f
    → AreBoundedOps b ops → IsBoundedOp b received → longest_part d + b.size ≤ y → b.length + b.size ≤ y → y + total_inserted_size received + ops_weight total_inserted_size ops ≤ 9007199254740991 + b.size
    → largest_number d + b.amount ≤ z → b.number + b.amount ≤ z → z + total_added_amount received + ops_weight total_added_amount ops ≤ 9007199254740991 + b.amount → PendingCrossesInRange ops received d
pending_crosses b y z [] received d f w made run h others texts lengths space values numbers room = tt
pending_crosses b y z (op ∷ ops) received d f w made run h others texts lengths space values numbers room =
    let own = run_of op d made.0 in
    let here = run_longest op d own.result own.run in
    let there = run_longest received d f run in (
      one_crosses b op received d z (omega (arith, here.position, h.0.length, texts, lengths, space)) (omega (arith, there.position, others.length, texts, lengths, space)) h.0 others values numbers (omega (arith, room)),
      λ x e crossed applied.
          let r = (crossing_reduced op received x crossed).right in
          let op_run = run_to op d e made.0 applied in
          let c = both_run op received x d e f crossed w op_run run in
          let same = same_some made.1 e (sym made.2 ∙ applied) in
          pending_crosses b (y + total_inserted_size op) (z + total_added_amount op) ops x.right e c.result (run_formed op d e w op_run) (subst (ArePendingMade ops) same made.3) c.right_run h.1
          (record { number = omega (arith, r.number, others.number); length = omega (arith, r.length, others.length) })
          (omega (arith, applied_longest op d e applied, h.0.length, texts, lengths)) (omega (arith, lengths)) (omega (arith, space, r.size))
          (omega (arith, applied_largest op d e applied, h.0.number, values, numbers)) (omega (arith, numbers)) (omega (arith, room, r.amount)),
    )

edits_prefix : (xs ys : List PlainEntry) → AreEdits (xs ++ ys) → AreEdits xs
edits_prefix [] ys h = tt
edits_prefix (x ∷ xs) ys h = (h.0, edits_prefix xs ys h.1)

made_prefix : (xs ys : List PlainEntry) (d : Option Value) → AreEntriesMadeFor (xs ++ ys) d → AreEntriesMadeFor xs d
made_prefix [] ys d h = tt
made_prefix (x ∷ xs) ys d h = (h.0, h.1, h.2, made_prefix xs ys h.1 h.3)

bounded_prefix : (b : Bounds) (xs : List PlainEntry) (y : PlainEntry) (zs : List PlainEntry) → AreBoundedEntries b (xs ++ y ∷ zs) → IsBoundedEntry b y
bounded_prefix b [] y zs e = e.0
bounded_prefix b (x ∷ xs) y zs e = bounded_prefix b xs y zs e.1

-- an edit that is rebased is transformed against each entry
always_crossed : (op k : List PlainComponent) (d : Option Value) (es : List PlainEntry) → rebase (edit op) es ≡ Ok (edit k) → PositionLeavesRangeAmong (edit op) d es → ⊥
always_crossed op k d es rebased q =
    let first = q.after_first.operation in
    let rest = sym (ap (result_and_then (λ m. rebase m (q.next ∷ q.rest))) q.after_first.rebased) ∙ sym (rebase_append q.first (q.next ∷ q.rest) (edit op)) ∙ sym (ap (rebase (edit op)) q.parts) ∙ rebased in
    let f = rebased_first q.next.content first q.rest (edit k) rest in
    let other = same_operation f.other q.other (sym f.is ∙ q.edits) in
    let bad : Some f.crossing ≡ None = sym f.crossed ∙ ap (cross_ops first) other ∙ q.no_crossing in
    cc

module _ (start : SharedDocument) (b : Bounds) (i a n : ℕ) (s : SharedDocument) (from : StartsFormed start) (h : IsConsistent s) (made : AreEditsMade start s) (k : IsSmall b i a n s) (room : HasRoom b i a n) where
  processes : (source : List ℕ) (es : List PlainEntry) → drop (s.clients source).version s.log ≡ es → ProcessesInRange source (s.clients source) es
  processes source [] is = tt
  processes source (e ∷ later) is = λ op other content.
      let c = s.clients source in
      let f = h.clients source in
      let own = made.clients source in
      let bound = k.bounded.clients source in
      let entry = k.bounded.entries c.version e later bound.start_reached is in
      let version = k.bounded.versions c.version bound.start_reached bound.version_reached in
      let value = version.document c.document (ap (λ o. unwrap_or o None) f.document) in
      let same = same_operation entry.operation op (sym entry.content ∙ content) in
      let at = made_entry s.log c.version e later c.document (made_since start s c.version (Some c.document) from made own.start_reached f.document) f.document is (subst AreEdits is f.edits).0 in
      let run = run_of at.at.operation c.document at.made in
      let op_run = subst (λ x. OperationRun x c.document run.result) (same_operation at.at.operation op (sym at.at.is ∙ content)) run.run in
      let sizes = entry_and_pending total_inserted_size i s source h k.sizes (λ t sent r. (rebase_reduced (drop t.base (take c.version s.log)) t.operation r.operation r.rebased).size) e later is other in
      let amounts = entry_and_pending total_added_amount a s source h k.amounts (λ t sent r. (rebase_reduced (drop t.base (take c.version s.log)) t.operation r.operation r.rebased).amount) e later is other in
      let size_is = ap total_inserted_size same in
      let amount_is = ap total_added_amount same in
      let p = log_weight total_inserted_size (take c.version s.log) in
      let q = log_weight total_added_amount (take c.version s.log) in
      pending_crosses b (b.length + p) (b.number + q) c.pending op c.document run.result at.formed own.pending op_run bound.pending (subst (IsBoundedOp b) same entry.bounded)
      value.length (omega (arith, version.size)) (omega (arith, sizes, size_is, entry.size, room.lengths))
      value.number (omega (arith, version.amount)) (omega (arith, amounts, amount_is, entry.amount, room.numbers))

  -- ---- a decision

  module _ (m : SubmittedEdit) (has : Contains s.submitted m) (via : List ℕ) (by now : ℕ) where
    abbrev submission : PlainSubmission
    submission = submission_of m via by

    abbrev before : List PlainEntry
    before = take m.sent.base s.log

    abbrev missed : List PlainEntry
    missed = drop m.sent.base s.log

    module _ (new : stored_at m.source m.sent.seq s.log ≡ None) where
      sent : (s.clients m.source).sent ≡ Some m.sent
      sent = sent_by_client s h m has via by now new

      bound : IsBoundedOp b m.sent.operation
      bound = ((k.bounded.clients m.source).sent m.sent sent).operation

      start_reached : b.start ≤ m.sent.base
      start_reached = ((k.bounded.clients m.source).sent m.sent sent).start_reached

      base_reached : m.sent.base ≤ length s.log
      base_reached = ((k.bounded.clients m.source).sent m.sent sent).base_reached

      all_missed : AreBoundedEntries b missed
      all_missed = entries_since b s missed m.sent.base k.bounded start_reached refl

      sizes : log_weight total_inserted_size s.log + total_inserted_size m.sent.operation ≤ i
      sizes = log_and_sent total_inserted_size i s m.source m.sent sent new k.sizes

      amounts : log_weight total_added_amount s.log + total_added_amount m.sent.operation ≤ a
      amounts = log_and_sent total_added_amount a s m.source m.sent sent new k.amounts

      count : log_weight one_each s.log + 1 ≤ n
      count = log_and_sent one_each n s m.source m.sent sent new k.count

      not_full : (l : ℕ) → l + 1 ≤ 9007199254740991 → nat_eq l 9007199254740991 ≡ false
      not_full l below = grind (arith, nat_tests)

      has_room : is_log_full s.log ≡ false
      has_room = not_full (length s.log) (omega (arith, count, length_weight s.log, room.entries))

      sent_made : IsSentMade (length start.log) s.log (Some m.sent)
      sent_made = subst (IsSentMade (length start.log) s.log) sent (made.clients m.source).sent

      positions_at : (o : Option Value) → document_of before ≡ o → IsContentMadeFor (edit m.sent.operation) o → PositionLeavesRangeAmong submission.content o missed → ⊥
      positions_at None is content p = absurd content
      positions_at (Some d) is content p =
          let at = snap_at s.log m.sent.base h.log_is_made ∙ ap Some is in
          let rest = made_since start s m.sent.base (Some d) from made sent_made.0 at in
          let parts_made = subst (λ l. AreEntriesMadeFor l (Some d)) p.parts rest.made in
          let edits = edits_prefix p.first (p.next ∷ p.rest) (subst AreEdits p.parts (sent_edit s h m has via by now new).edits) in
          let op = p.after_first.operation in
          let own = run_of m.sent.operation d content in
          let r = rebased_run p.first m.sent.operation d own.result rest.formed own.run edits (made_prefix p.first (p.next ∷ p.rest) (Some d) parts_made) (always_crossed m.sent.operation op (Some d) p.first p.after_first.rebased) in
          let document = r.after.document in
          let same = same_operation r.after.operation op (same_ok (edit r.after.operation) (edit op) (sym r.after.rebased ∙ p.after_first.rebased)) in
          let here = run_longest op document r.result (subst (λ x. OperationRun x document r.result) same r.run) in
          let next_made = (made_after p.first (p.next ∷ p.rest) (Some d) (Some document) rest.formed parts_made r.after.replayed).made.0 in
          let next_run = run_of p.other document (subst (λ c. IsContentMadeFor c (Some document)) p.edits next_made) in
          let there = run_longest p.other document next_run.result next_run.run in
          let entry = bounded_prefix b p.first p.next p.rest (subst (AreBoundedEntries b) p.parts all_missed) in
          let other = same_operation p.other entry.operation (sym p.edits ∙ entry.content) in
          let reduced = rebase_reduced p.first m.sent.operation op p.after_first.rebased in
          let prefix = before ++ p.first in
          let split : s.log ≡ prefix ++ p.next ∷ p.rest = sym (take-append-drop m.sent.base s.log) ∙ ap (λ l. before ++ l) p.parts ∙ sym (append_assoc before p.first (p.next ∷ p.rest)) in
          let taken : take (length prefix) s.log ≡ prefix = ap (take (length prefix)) split ∙ take-append_seam prefix (p.next ∷ p.rest) in
          let long = ap length split ∙ length-append prefix (p.next ∷ p.rest) in
          let version = subst (IsBoundedVersion b) taken (k.bounded.versions (length prefix) (omega (arith, start_reached, base_reached, length-append before p.first, length-take m.sent.base s.log)) (omega (arith, long))) in
          let snapped : snap prefix ≡ Some (Some document) = snap_append before p.first None ∙ ap (option_and_then (λ m. snap_from m p.first)) at ∙ r.after.replayed in
          let value = version.document document (ap (λ o. unwrap_or o None) snapped) in
          let weight = ap (log_weight total_inserted_size) split ∙ log_append total_inserted_size prefix (p.next ∷ p.rest) in
          let other_size = ap total_inserted_size other in
          let other_length = ap (largest_inserted longest_part) other in
          p.not_in_range
          (omega (arith, here.position, reduced.length, reduced.size, bound.length, value.length, version.size, other_size, entry.size, weight, sizes, room.lengths))
          (omega (arith, there.position, other_length, entry.bounded.length, reduced.size, value.length, version.size, other_size, entry.size, weight, sizes, room.lengths))

      positions_stay : PositionLeavesRangeAmong submission.content (base_document s.log submission) (missed_entries s.log submission) → ⊥
      positions_stay = positions_at (document_of before) refl sent_made.1

      sums_in_range : RebasedSumLeavesRange submission.content (base_document s.log submission) (missed_entries s.log submission) → ⊥
      sums_in_range r =
          let reduced = rebase_reduced missed m.sent.operation r.after.operation r.after.rebased in
          let document = same_some (document_of s.log) (Some r.after.document) (sym (snap_since s.log m.sent.base (document_of before) h.log_is_made (snap_at s.log m.sent.base h.log_is_made)) ∙ r.after.replayed) in
          let version = whole_log b s k.bounded in
          let value = version.document r.after.document document in
          sums_stay r.after.operation r.after.document
          (omega (arith, value.number, reduced.number, reduced.amount, bound.number, amounts, room.numbers, version.amount)) r.sum

      rebased_in_range : IsRebasedInRange s.log submission
      rebased_in_range = record { room = has_room; positions = positions_stay; sums = sums_in_range }

      -- ---- what it stores

      module _ (content : PlainContent) (op : List PlainComponent) (content_is : content ≡ edit op) (rebased : rebase (edit m.sent.operation) missed ≡ Ok content)
          (after : Option Value) (applied : apply_content content (document_of s.log) ≡ Ok after) where
        abbrev entry : PlainEntry
        entry = new_entry s.log submission now content

        reduced : IsReduced m.sent.operation op
        reduced = rebase_reduced missed m.sent.operation op (rebased ∙ ap Ok content_is)

        entry_bounded : IsBoundedEntry b entry
        entry_bounded = record {
          operation = op;
          content = content_is;
          bounded = record { number = omega (arith, reduced.number, bound.number); length = omega (arith, reduced.length, bound.length) };
          size = reduced.size;
          amount = reduced.amount;
        }

        edit_applied : (o : Option Value) (d : Value) → apply_content (edit op) o ≡ Ok (Some d) → (before : Value) × (o ≡ Some before) × (apply op before ≡ Some d)
        edit_applied None d e = cc
        edit_applied (Some before) d e = (before, refl, applied_at (apply op before) d e)
          where
            applied_at : (o : Option Value) (d : Value) → result_and_then (λ f. Ok (Some f)) (option_map_or (λ f. Ok f) o (Err E8)) ≡ Ok (Some d) → o ≡ Some d
            applied_at None d e = cc
            applied_at (Some f) d e = cc

        abbrev longer : List PlainEntry
        longer = s.log ++ entry ∷ []

        version_bounded : IsBoundedVersion b longer
        version_bounded =
            let version = whole_log b s k.bounded in
            record {
              amount = omega (arith, version.amount, log_append total_added_amount s.log (entry ∷ []));
              size = omega (arith, version.size, log_append total_inserted_size s.log (entry ∷ []));
              document = λ d is.
                  let last = snap_one s.log entry None (document_of s.log) (some_of_is_some (snap s.log) (alive_of_made s.log h.log_is_made)) ∙ ap result_ok applied in
                  let after_is : after ≡ Some d = sym (ap (λ o. unwrap_or o None) last) ∙ is in
                  let e = edit_applied (document_of s.log) d (sym (ap (λ c. apply_content c (document_of s.log)) content_is) ∙ applied ∙ ap Ok after_is) in
                  let value = version.document e.0 e.1 in
                  record {
                    number = omega (arith, value.number, applied_largest op e.0 d e.2, reduced.number, reduced.amount, bound.number, version.amount, log_append total_added_amount s.log (entry ∷ []));
                    length = omega (arith, value.length, applied_longest op e.0 d e.2, reduced.length, reduced.size, bound.length, version.size, log_append total_inserted_size s.log (entry ∷ []));
                  };
            }

        own : has_identifier m.source m.sent.seq entry ≡ true
        own = and_from (nat_eq m.sent.seq m.sent.seq) (bytes_eq m.source m.source) (eq-eqb m.sent.seq m.sent.seq refl) ((bytes_eq-Decides m.source m.source).1 refl)

        small_stored : IsSmall b i a n (record { log = s.log ++ entry ∷ []; clients = s.clients; submitted = s.submitted })
        small_stored = record {
          bounded = bounded_appended b s k.bounded entry s.submitted entry_bounded version_bounded;
          sizes = within_appended total_inserted_size i s m.source m.sent entry sent new own refl k.sizes;
          amounts = within_appended total_added_amount a s m.source m.sent entry sent new own refl k.amounts;
          count = within_appended one_each n s m.source m.sent entry sent new own refl k.count;
        }

    same_log : (log : List PlainEntry) → log ≡ s.log → IsSmall b i a n (record { log = log; clients = s.clients; submitted = s.submitted })
    same_log log same = subst (λ l. IsSmall b i a n (record { log = l; clients = s.clients; submitted = s.submitted })) (sym same) k

    small_settled : (r : Result PlainContent Code) → stored_at m.source m.sent.seq s.log ≡ None → rebased_content s.log submission ≡ r → IsSmall b i a n (after_decision s submission now)
    small_settled (Err code) new is = same_log (decide s.log submission now).log (ap (λ d. d.log) (decides_settled s.log submission now (Err code) new is))
    small_settled (Ok content) new is =
        let log_is = ap (λ d. d.log) (decides_settled s.log submission now (Ok content) new is) in
        let z = applied_if_settled (is_log_full s.log) (is_version_too_new s.log submission) (rebase submission.content (missed_entries s.log submission)) (document_of s.log) content is in
        let op = edit_of content (edit_of_rebase missed m.sent.operation content z.1) in
        subst (λ l. IsSmall b i a n (record { log = l; clients = s.clients; submitted = s.submitted })) (sym log_is) (small_stored new content op.0 op.1 z.1 z.0 z.2)

    small_at : (o : Option ℕ) → stored_at m.source m.sent.seq s.log ≡ o → IsSmall b i a n (after_decision s submission now)
    small_at None new = small_settled (rebased_content s.log submission) new refl
    small_at (Some v) is = same_log (decide s.log submission now).log (ap (λ d. d.log) (decides_repeat s.log submission now v is))

    small_decision : IsSmall b i a n (after_decision s submission now)
    small_decision = small_at (stored_at m.source m.sent.seq s.log) refl

-- ---- steps

abbrev step_weight : (List PlainComponent → ℕ) → ClientStep → ℕ
step_weight w (make_edit source op) = w op
step_weight w (send_edit source) = 0
step_weight w (decide_edit m via by now) = 0
step_weight w (process_entry source) = 0

abbrev IsBoundedStep : Bounds → ClientStep → Type 0
IsBoundedStep b (make_edit source op) = IsBoundedOp b op
IsBoundedStep b (send_edit source) = ⊤
IsBoundedStep b (decide_edit m via by now) = ⊤
IsBoundedStep b (process_entry source) = ⊤

small_more : (b : Bounds) (i a n i' a' n' : ℕ) (s : SharedDocument) → i ≤ i' → a ≤ a' → n ≤ n' → IsSmall b i a n s → IsSmall b i' a' n' s
small_more b i a n i' a' n' s x y z k = record {
  bounded = k.bounded;
  sizes = λ sources d. omega (arith, x, k.sizes sources d);
  amounts = λ sources d. omega (arith, y, k.amounts sources d);
  count = λ sources d. omega (arith, z, k.count sources d);
}

small_step : (start : SharedDocument) (b : Bounds) (i a n : ℕ) (step : ClientStep) (old new : SharedDocument) → StartsFormed start → IsConsistent old → AreEditsMade start old → IsSmall b i a n old → HasRoom b i a n → IsBoundedStep b step → IsClientStep step old new
    → IsSmall b (i + step_weight total_inserted_size step) (a + step_weight total_added_amount step) (n + step_weight one_each step) new
small_step start b i a n (make_edit source op) old new from h made k room bounded step =
    let c = after_edit op (old.clients source) in
    subst (IsSmall b (i + total_inserted_size op) (a + total_added_amount op) (n + 1)) (sym step)
    (record {
      bounded = bounded_changed b old source c old.submitted k.bounded (bounded_edit b old.log (old.clients source) op bounded (k.bounded.clients source));
      sizes = within_changed total_inserted_size i (total_inserted_size op) old (with_changed_client old source c) source c refl refl (unstored_edit total_inserted_size old.log source (old.clients source) op) k.sizes;
      amounts = within_changed total_added_amount a (total_added_amount op) old (with_changed_client old source c) source c refl refl (unstored_edit total_added_amount old.log source (old.clients source) op) k.amounts;
      count = within_changed one_each n 1 old (with_changed_client old source c) source c refl refl (unstored_edit one_each old.log source (old.clients source) op) k.count;
    })
small_step start b i a n (send_edit source) old new from h made k room bounded step =
    let op = step.operation in
    let c = after_send op (old.clients source) in
    let after = after_sending old source op in
    subst (IsSmall b (i + 0) (a + 0) (n + 0)) (sym step.new_is)
    (record {
      bounded = bounded_changed b old source c after.submitted k.bounded (bounded_send b old.log (old.clients source) op step.rest step.first (k.bounded.clients source));
      sizes = within_changed total_inserted_size i 0 old after source c refl refl (unstored_send total_inserted_size old.log source (old.clients source) op step.rest step.none_sent step.first) k.sizes;
      amounts = within_changed total_added_amount a 0 old after source c refl refl (unstored_send total_added_amount old.log source (old.clients source) op step.rest step.none_sent step.first) k.amounts;
      count = within_changed one_each n 0 old after source c refl refl (unstored_send one_each old.log source (old.clients source) op step.rest step.none_sent step.first) k.count;
    })
small_step start b i a n (decide_edit m via by now) old new from h made k room bounded step =
    small_more b i a n (i + 0) (a + 0) (n + 0) new (omega arith) (omega arith) (omega arith)
    (subst (IsSmall b i a n) (sym step.1) (small_decision start b i a n old from h made k room m step.0 via by now))
small_step start b i a n (process_entry source) old new from h made k room bounded step =
    let c = step.client in
    let p = processed_of source step.entry (old.clients source) c step.client_is in
    let after = with_changed_client old source c in
    subst (IsSmall b (i + 0) (a + 0) (n + 0)) (sym step.new_is)
    (record {
      bounded = bounded_changed b old source c old.submitted k.bounded (bounded_processed b old.log source step.entry step.later (old.clients source) c (k.bounded.clients source) step.entry_is p);
      sizes = within_changed total_inserted_size i 0 old after source c refl refl (unstored_processed total_inserted_size old.log source step.entry (old.clients source) c sizes_lessen p) k.sizes;
      amounts = within_changed total_added_amount a 0 old after source c refl refl (unstored_processed total_added_amount old.log source step.entry (old.clients source) c amounts_lessen p) k.amounts;
      count = within_changed one_each n 0 old after source c refl refl (unstored_processed one_each old.log source step.entry (old.clients source) c counts_lessen p) k.count;
    })

-- ---- runs

-- what is left of a run: its edits are bounded, and there is room for them
record Rest (b : Bounds) (i a n : ℕ) (steps : List ClientStep) : Type 0 where
  pub bounded : IsBoundedOp b (made_components steps)
  pub room : HasRoom b (i + total_inserted_size (made_components steps)) (a + total_added_amount (made_components steps)) (n + count_made steps)

room_now : (b : Bounds) (i a n : ℕ) (steps : List ClientStep) → Rest b i a n steps → HasRoom b i a n
room_now b i a n steps r =
    let room = r.room in
    record { lengths = omega (arith, room.lengths); numbers = omega (arith, room.numbers); entries = omega (arith, room.entries) }

first_of_rest : (b : Bounds) (i a n : ℕ) (step : ClientStep) (steps : List ClientStep) → Rest b i a n (step ∷ steps)
    → IsBoundedStep b step × Rest b (i + step_weight total_inserted_size step) (a + step_weight total_added_amount step) (n + step_weight one_each step) steps
first_of_rest b i a n (make_edit source op) steps r =
    let room = r.room in
    let more = made_components steps in
    let numbers = largest_append largest_number op more in
    let lengths = largest_append longest_part op more in
    let size = size_append op more in
    let amount = amount_append op more in (
      record { number = omega (arith, numbers, r.bounded.number); length = omega (arith, lengths, r.bounded.length) },
      record {
        bounded = record { number = omega (arith, numbers, r.bounded.number); length = omega (arith, lengths, r.bounded.length) };
        room = record { lengths = omega (arith, size, room.lengths); numbers = omega (arith, amount, room.numbers); entries = omega (arith, room.entries) };
      },
    )
first_of_rest b i a n (send_edit source) steps r =
    let room = r.room in (
      tt,
      record {
        bounded = r.bounded;
        room = record { lengths = omega (arith, room.lengths); numbers = omega (arith, room.numbers); entries = omega (arith, room.entries) };
      },
    )
first_of_rest b i a n (decide_edit m via by now) steps r =
    let room = r.room in (
      tt,
      record {
        bounded = r.bounded;
        room = record { lengths = omega (arith, room.lengths); numbers = omega (arith, room.numbers); entries = omega (arith, room.entries) };
      },
    )
first_of_rest b i a n (process_entry source) steps r =
    let room = r.room in (
      tt,
      record {
        bounded = r.bounded;
        room = record { lengths = omega (arith, room.lengths); numbers = omega (arith, room.numbers); entries = omega (arith, room.entries) };
      },
    )

step_in_range : (start : SharedDocument) (b : Bounds) (i a n : ℕ) (step : ClientStep) (old mid : SharedDocument) → StartsFormed start → IsConsistent old → AreEditsMade start old → IsSmall b i a n old → HasRoom b i a n → IsClientStep step old mid → IsStepMade step old
    → IsStepInRange step old
step_in_range start b i a n (make_edit source op) old mid from h edits k room step made = made
step_in_range start b i a n (send_edit source) old mid from h edits k room step made = tt
step_in_range start b i a n (decide_edit m via by now) old mid from h edits k room step made = λ none. rebased_in_range start b i a n old from h edits k room m step.0 via by now none
step_in_range start b i a n (process_entry source) old mid from h edits k room step made = processes start b i a n old from h edits k room source (drop (old.clients source).version old.log) refl

-- the steps are in range, and the last state is small
record RunInRange (start : SharedDocument) (b : Bounds) (steps : List ClientStep) (old new : SharedDocument) (run : IsClientRun steps old new) : Type 0 where
  pub steps_in_range : AreStepsInRange steps old new run
  pub size : ℕ
  pub amount : ℕ
  pub count : ℕ
  pub made : AreEditsMade start new
  pub small : IsSmall b size amount count new
  pub room : HasRoom b size amount count

run_in_range : (start : SharedDocument) (b : Bounds) (i a n : ℕ) (steps : List ClientStep) (old new : SharedDocument) → StartsFormed start → IsConsistent old → AreEditsMade start old → IsSmall b i a n old
    → Rest b i a n steps → (run : IsClientRun steps old new) → AreStepsMade steps old new run → RunInRange start b steps old new run
run_in_range start b i a n [] old new from h edits k rest run made = record {
  steps_in_range = tt;
  size = i;
  amount = a;
  count = n;
  made = subst (AreEditsMade start) (sym run) edits;
  small = subst (IsSmall b i a n) (sym run) k;
  room = room_now b i a n [] rest;
}
run_in_range start b i a n (step ∷ steps) old new from h edits k rest run made =
    let room = room_now b i a n (step ∷ steps) rest in
    let parts = first_of_rest b i a n step steps rest in
    let i' = i + step_weight total_inserted_size step in
    let a' = a + step_weight total_added_amount step in
    let n' = n + step_weight one_each step in
    let range = step_in_range start b i a n step old run.0 from h edits k room run.1 made.0 in
    let next = made_step start from step old run.0 h edits range run.1 in
    let below = run_in_range start b i' a' n' steps run.0 new from (consistent_step step old run.0 h run.1) next (small_step start b i a n step old run.0 from h edits k room parts.0 run.1) parts.1 run.2 made.1 in
    record {
      steps_in_range = (range, below.steps_in_range);
      size = below.size;
      amount = below.amount;
      count = below.count;
      made = below.made;
      small = below.small;
      room = below.room;
    }

-- ---- the start

module _ (start : SharedDocument) (h : IsStart start) (largest longest : ℕ) (numbers : option_map_or largest_number (document_of start.log) 0 ≤ largest) (lengths : option_map_or longest_part (document_of start.log) 0 ≤ longest) where
  abbrev start_bounds : Bounds
  start_bounds = record {
    number = largest;
    length = longest;
    start = length start.log;
    amount = log_weight total_added_amount start.log;
    size = log_weight total_inserted_size start.log;
  }

  measured : (f : Value → ℕ) (d : Value) (l : ℕ) → document_of start.log ≡ Some d → option_map_or f (document_of start.log) 0 ≤ l → f d ≤ l
  measured f d l is h = omega (arith, h, ap (λ o. option_map_or f o 0) is)

  none_left : {G : Type 0} (v : ℕ) (l : List PlainEntry) (e : PlainEntry) (later : List PlainEntry) → length l ≤ v → drop v l ≡ e ∷ later → G
  none_left zero [] e later n is = cc
  none_left zero (x ∷ l) e later n is = absurd (omega (arith, n))
  none_left (suc v) [] e later n is = cc
  none_left (suc v) (x ∷ l) e later n is = none_left v l e later (omega (arith, n)) is

  never_sent : {G : Type 0} (c : Client) (t : SentEdit) → c.sent ≡ None → c.sent ≡ Some t → G
  never_sent c t none some = let bad : None ≡ Some t = sym none ∙ some in cc

  new_bounded : (source : List ℕ) (c : Client) → IsNewClient start.log source c → IsBoundedClient start_bounds start.log c
  new_bounded source c n =
      let version = n.version in
      record {
        start_reached = omega (arith, version);
        version_reached = omega (arith, version);
        pending = subst (AreBoundedOps start_bounds) (sym n.pending) tt;
        sent = λ t some. never_sent c t n.sent some;
      }

  start_version : IsBoundedVersion start_bounds start.log
  start_version = record {
    amount = omega arith;
    size = omega arith;
    document = λ d is. record { number = omega (arith, measured largest_number d largest is numbers); length = omega (arith, measured longest_part d longest is lengths) };
  }

  start_bounded : IsBounded start_bounds start
  start_bounded = record {
    start_reached = omega arith;
    entries = λ v e later k is. none_left v start.log e later k is;
    versions = λ v k reached. subst (IsBoundedVersion start_bounds) (sym (take_all v start.log k)) start_version;
    clients = λ source. new_bounded source (start.clients source) (h.clients source);
  }

  none_unstored : (w : List PlainComponent → ℕ) (sources : List (List ℕ)) → sum_over (λ x. unstored_weight w start.log x (start.clients x)) sources ≡ 0
  none_unstored w [] = refl
  none_unstored w (x ∷ sources) =
      let c = h.clients x in
      omega (arith, none_unstored w sources, none_of (start.clients x) c.sent c.pending)
    where
      none_of : (c : Client) → c.sent ≡ None → c.pending ≡ [] → unstored_weight w start.log x c ≡ 0
      none_of c sent pending =
          ap (λ o. unstored_weight w start.log x (record { version = c.version; document = c.document; pending = c.pending; sent = o; next_seq = c.next_seq })) sent
          ∙ ap (λ ops. unstored_weight w start.log x (record { version = c.version; document = c.document; pending = ops; sent = None; next_seq = c.next_seq })) pending

  start_within : (w : List PlainComponent → ℕ) → IsWithin w (log_weight w start.log) start
  start_within w sources d = omega (arith, none_unstored w sources)

  start_small : IsSmall start_bounds (log_weight total_inserted_size start.log) (log_weight total_added_amount start.log) (log_weight one_each start.log) start
  start_small = record { bounded = start_bounded; sizes = start_within total_inserted_size; amounts = start_within total_added_amount; count = start_within one_each }

-- ---- numbers of well-formed values

in_range : (z : ℤ) → IsInRange z → unsigned_abs z ≤ 9007199254740991
in_range z h = grind (arith, ints)

mutual
  formed_number : (d : Value) → IsWellFormed d → largest_number d ≤ 9007199254740991
  formed_number null h = omega arith
  formed_number (truth t) h = omega arith
  formed_number (whole z) h = in_range z h
  formed_number (text t) h = omega arith
  formed_number (list ds) h = formed_items ds h
  formed_number (object ms) h = formed_members ms h

  formed_items : (ds : Items) → AreWellFormed ds → largest_in_items ds ≤ 9007199254740991
  formed_items no_items h = omega arith
  formed_items (item d ds) h = omega (arith, formed_number d h.0, formed_items ds h.1)

  formed_members : (ms : Members) → MembersWellFormed ms → largest_in_members ms ≤ 9007199254740991
  formed_members no_members h = omega arith
  formed_members (member k d ms) h = omega (arith, formed_number d h.1, formed_members ms h.3)

formed_document_number : (o : Option Value) → IsWellFormedDocument o → option_map_or largest_number o 0 ≤ 9007199254740991
formed_document_number None h = omega arith
formed_document_number (Some d) h = formed_number d h

act_number : (x : PlainAct) → InsertsWellFormedValue x → inserted_measure largest_number x ≤ 9007199254740991
act_number (li i v) h = formed_number v h
act_number (lr i u v) h = formed_number v h
act_number (oi k v) h = formed_number v h
act_number (or k u v) h = formed_number v h
act_number (na x) h = omega arith
act_number (si p s) h = omega arith
act_number (sd p s) h = omega arith
act_number (ld i v) h = omega arith
act_number (od k v) h = omega arith

parts_number : (op : List PlainComponent) → HaveValidParts op → largest_inserted largest_number op ≤ 9007199254740991
parts_number [] h = omega arith
parts_number (c ∷ cs) h = omega (arith, act_number c.act h.0.1, parts_number cs h.1)

made_number : (op : List PlainComponent) (o : Option Value) → IsMadeForShown op o → largest_inserted largest_number op ≤ 9007199254740991
made_number op None h = absurd h
made_number op (Some d) h = parts_number op h.1

run_number : (steps : List ClientStep) (old new : SharedDocument) (run : IsClientRun steps old new) → AreStepsMade steps old new run → largest_inserted largest_number (made_components steps) ≤ 9007199254740991
run_number [] old new run made = omega arith
run_number (make_edit source op ∷ steps) old new run made =
    omega (arith, largest_append largest_number op (made_components steps), made_number op (shown_document (old.clients source)) made.0, run_number steps run.0 new run.2 made.1)
run_number (send_edit source ∷ steps) old new run made = run_number steps run.0 new run.2 made.1
run_number (decide_edit m via by now ∷ steps) old new run made = run_number steps run.0 new run.2 made.1
run_number (process_entry source ∷ steps) old new run made = run_number steps run.0 new run.2 made.1

-- ---- small runs

-- with a bound of the numbers
record LargestNumber (steps : List ClientStep) (start : SharedDocument) : Type 0 where
  pub largest : ℕ
  pub document : option_map_or largest_number (document_of start.log) 0 ≤ largest
  pub inserted : largest_inserted largest_number (made_components steps) ≤ largest
  pub room : largest + total_added_amount (made_components steps) ≤ 9007199254740991

largest_of : (steps : List ClientStep) (start s : SharedDocument) → IsReachedBySmallRun steps start s → LargestNumber steps start
largest_of steps start s r = at r.small.amounts
  where
    at : (total_added_amount (made_components steps) ≡ 0) ⊎ IsSafeInteger (largest_held largest_number steps start + total_added_amount (made_components steps)) → LargestNumber steps start
    at (inl none) = record {
      largest = 9007199254740991;
      document = formed_document_number (document_of start.log) r.well_formed;
      inserted = run_number steps start s r.reached.run r.made;
      room = omega (arith, none);
    }
    at (inr h) = record {
      largest = largest_held largest_number steps start;
      document = omega arith;
      inserted = omega arith;
      room = h;
    }

longest_of : (steps : List ClientStep) (start : SharedDocument) → option_map_or longest_part (document_of start.log) 0 ≤ largest_held longest_part steps start
longest_of steps start = omega arith

abbrev bounds_of : (steps : List ClientStep) (start s : SharedDocument) → IsReachedBySmallRun steps start s → Bounds
bounds_of steps start s r =
    let l = largest_of steps start s r in
    start_bounds start r.reached.starts l.largest (largest_held longest_part steps start) l.document (longest_of steps start)

from_start : (steps : List ClientStep) (start s : SharedDocument) → IsReachedBySmallRun steps start s → StartsFormed start
from_start steps start s r = starts_formed start r.reached.starts r.well_formed

small_run : (steps : List ClientStep) (start s : SharedDocument) (r : IsReachedBySmallRun steps start s) → RunInRange start (bounds_of steps start s r) steps start s r.reached.run
small_run steps start s r =
    let l = largest_of steps start s r in
    let small = r.small in
    run_in_range start (bounds_of steps start s r) (log_weight total_inserted_size start.log) (log_weight total_added_amount start.log) (log_weight one_each start.log) steps start s
    (from_start steps start s r) (consistent_start start r.reached.starts) (made_start start r.reached.starts)
    (start_small start r.reached.starts l.largest (largest_held longest_part steps start) l.document (longest_of steps start))
    (record {
      bounded = record { number = l.inserted; length = omega arith };
      room = record {
        lengths = omega (arith, small.texts);
        numbers = omega (arith, l.room);
        entries = omega (arith, length_weight start.log, small.entries);
      };
    })
    r.reached.run r.made

pub small_runs_are_in_range : SmallRunsAreInRange
small_runs_are_in_range steps start s r = record { reached = r.reached; well_formed = r.well_formed; steps_in_range = (small_run steps start s r).steps_in_range }

pub next_decisions_are_in_range : NextDecisionsAreInRange
next_decisions_are_in_range steps start s m via by now r has new =
    let k = small_run steps start s r in
    rebased_in_range start (bounds_of steps start s r) k.size k.amount k.count s (from_start steps start s r) (runs_are_consistent steps start s r.reached) k.made k.small k.room m has via by now new

pub next_entries_are_in_range : NextEntriesAreInRange
next_entries_are_in_range steps start s source r =
    let k = small_run steps start s r in
    processes start (bounds_of steps start s r) k.size k.amount k.count s (from_start steps start s r) (runs_are_consistent steps start s r.reached) k.made k.small k.room source (drop (s.clients source).version s.log) refl
