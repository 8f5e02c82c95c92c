-- An example: a run of two clients that insert an item at index 0 of one list at the same time.
use Rattle.std.specs.Prelude.{◌≡◌, ℕ, ℤ, List, [], ◌∷◌, ◌++◌, true, false, Option, Some, None, Result, Ok, codes, refl}
use Rattle.std.proofs.Common.{inl, sym, ap, ◌∙◌, subst, arith}
use Rattle.sdb_value.specs.Value.{Value, null, truth, list, Items, no_items, item}
use Rattle.sdb_value.specs.WellFormed.{IsWellFormed}
use Rattle.sdb_component.specs.Plain.{na, li, PlainComponent}
use Rattle.sdb_apply.specs.Apply.{apply_one}
use Rattle.sdb_transform.specs.Transform.{component_at}
use Rattle.sdb_transform.specs.Cross.{Crossing, cross, cross_in, cross_ops}
use Rattle.sdb_transform.specs.OperationConvergence.{AreMadeFor, SomeSumLeavesRange}
use Rattle.sdb_oplog.specs.declared.codes.Code.{Code}
use Rattle.sdb_oplog.specs.Plain.{PlainContent, create, edit, PlainSubmission, PlainEntry}
use Rattle.sdb_oplog.specs.Rebase.{rebase}
use Rattle.sdb_oplog.specs.Snap.{document_of}
use Rattle.sdb_oplog.specs.Decide.{missed_entries, is_log_full}
use Rattle.sdb_oplog.specs.RebasedContents.{base_document, PositionLeavesRangeAmong}
use Rattle.sdb_client_model.specs.Client.{SentEdit, Client, shown_document, after_edit}
use Rattle.sdb_client_model.specs.Machine.{SubmittedEdit, SharedDocument, ClientStep, make_edit, send_edit, decide_edit, process_entry, with_changed_client, submission_of, after_sending, after_decision, IsClientStep, IsClientRun}
use Rattle.sdb_client_model.specs.Convergence.{IsStart}
use Rattle.sdb_client_model.specs.RunPremises.{CrossesInRange, PendingCrossesInRange, IsRebasedInRange, AreStepsInRange, IsStepInRange}
use Rattle.sdb_client_model.specs.MadeEdits.{IsReachedInRange}
use Rattle.sdb_client_model.specs.SmallRuns.{IsStepMade, AreStepsMade, IsReachedBySmallRun}

-- ---- the start: a list without items

abbrev created : PlainEntry
created = record {
  version = 0;
  moment = 0;
  content = create (list no_items);
  arrived = record { src = codes "creator"; seq = 1; version = Some 0; content = create (list no_items); via = codes "c"; by = 0 };
}

abbrev pub start : SharedDocument
start = record {
  log = created ∷ [];
  clients = λ source. record { version = 1; document = list no_items; pending = []; sent = None; next_seq = 2 };
  submitted = [];
}

pub row_start : IsStart start
row_start = record {
  log_is_made = (refl, tt);
  clients = λ source. record { version = refl; document = refl; pending = refl; sent = refl; seqs = ((λ is. omega arith), tt) };
  submitted = refl;
}

-- ---- the steps: both insert an item at index 0 and send it; the second one inserts another one behind its own

abbrev pub a : List ℕ
a = codes "a"

abbrev pub b : List ℕ
b = codes "b"

abbrev insert : ℕ → Value → List PlainComponent
insert i v = component_at [] (li i v) ∷ []

abbrev pub first_of_a : List PlainComponent
first_of_a = insert 0 (truth true)

abbrev pub first_of_b : List PlainComponent
first_of_b = insert 0 (truth false)

abbrev second_of_b : List PlainComponent
second_of_b = insert 1 null

abbrev message : List ℕ → ℕ → ℕ → List PlainComponent → SubmittedEdit
message source seq base op = record { source = source; sent = record { seq = seq; base = base; operation = op } }

abbrev from_a : SubmittedEdit
from_a = message a 2 1 first_of_a

abbrev from_b : SubmittedEdit
from_b = message b 2 1 first_of_b

abbrev later_from_b : SubmittedEdit
later_from_b = message b 3 3 second_of_b

abbrev decided : SubmittedEdit → ClientStep
decided m = decide_edit m (codes "c") 0 0

abbrev after_decided : SharedDocument → SubmittedEdit → SharedDocument
after_decided s m = after_decision s (submission_of m (codes "c") 0) 0

abbrev steps : List ClientStep
steps =
    make_edit a first_of_a
    ∷ make_edit b first_of_b
    ∷ send_edit a
    ∷ send_edit b
    ∷ make_edit b second_of_b
    ∷ decided from_a
    ∷ decided from_b
    ∷ process_entry a
    ∷ process_entry a
    ∷ process_entry b
    ∷ process_entry b
    ∷ send_edit b
    ∷ decided from_b
    ∷ decided later_from_b
    ∷ process_entry b
    ∷ process_entry a
    ∷ []

-- ---- the states after them

abbrev client : ℕ → Items → List (List PlainComponent) → Option SentEdit → ℕ → Client
client v ds ops t n = record { version = v; document = list ds; pending = ops; sent = t; next_seq = n }

abbrev edited : SharedDocument → List ℕ → List PlainComponent → SharedDocument
edited s source op = with_changed_client s source (after_edit op (s.clients source))

abbrev s1 : SharedDocument
s1 = edited start a first_of_a

abbrev s2 : SharedDocument
s2 = edited s1 b first_of_b

abbrev s3 : SharedDocument
s3 = after_sending s2 a first_of_a

abbrev s4 : SharedDocument
s4 = after_sending s3 b first_of_b

abbrev s5 : SharedDocument
s5 = edited s4 b second_of_b

abbrev s6 : SharedDocument
s6 = after_decided s5 from_a

abbrev s7 : SharedDocument
s7 = after_decided s6 from_b

-- a's edit is acknowledged; then it processes b's edit, which wins the tie
abbrev s8 : SharedDocument
s8 = with_changed_client s7 a (client 2 (item (truth true) no_items) [] None 3)

abbrev s9 : SharedDocument
s9 = with_changed_client s8 a (client 3 (item (truth false) (item (truth true) no_items)) [] None 3)

-- b processes a's edit while it has two pending ones; then its first one is acknowledged
abbrev s10 : SharedDocument
s10 = with_changed_client s9 b (client 2 (item (truth true) no_items) (first_of_b ∷ second_of_b ∷ []) (Some from_b.sent) 3)

abbrev s11 : SharedDocument
s11 = with_changed_client s10 b (client 3 (item (truth false) (item (truth true) no_items)) (second_of_b ∷ []) None 3)

-- the queue's edit is sent; a duplicate of the first one arrives too
abbrev s12 : SharedDocument
s12 = after_sending s11 b second_of_b

abbrev s13 : SharedDocument
s13 = after_decided s12 from_b

abbrev s14 : SharedDocument
s14 = after_decided s13 later_from_b

abbrev last_items : Items
last_items = item (truth false) (item null (item (truth true) no_items))

abbrev s15 : SharedDocument
s15 = with_changed_client s14 b (client 4 last_items [] None 4)

abbrev s16 : SharedDocument
s16 = with_changed_client s15 a (client 4 last_items [] None 3)

-- ---- the premises

abbrev AreNoAdditions : List PlainComponent → Type 0
AreNoAdditions [] = Unit {0}
AreNoAdditions (c ∷ cs) = ((x : ℤ) → c.act ≡ na x → ⊥) × AreNoAdditions cs

no_addition_among : (prefix : List PlainComponent) (c : PlainComponent) (rest : List PlainComponent) (x : ℤ) → AreNoAdditions (prefix ++ c ∷ rest) → c.act ≡ na x → ⊥
no_addition_among [] c rest x h e = h.0 x e
no_addition_among (p ∷ prefix) c rest x h e = no_addition_among prefix c rest x h.1 e

no_sum : (cs : List PlainComponent) (d : Value) → AreNoAdditions cs → SomeSumLeavesRange cs d → ⊥
no_sum cs d h s = no_addition_among s.prefix s.component s.rest s.sum.x (subst AreNoAdditions s.parts h) s.sum.adds

same_edit : (x y : List PlainComponent) → ◌≡◌ {A = Result PlainContent Code} (Ok (edit x)) (Ok (edit y)) → x ≡ y
same_edit x y e = cc

module _ (log : List PlainEntry) (submission : PlainSubmission) (op : List PlainComponent) (room : is_log_full log ≡ false) (is : submission.content ≡ edit op) where
  -- a submission at the current version
  nothing_missed : missed_entries log submission ≡ [] → AreNoAdditions op → IsRebasedInRange log submission
  nothing_missed none numbers = record {
    room = room;
    positions = λ p. no_part p.first p.next p.rest (sym none ∙ p.parts);
    sums = λ r.
        let same = same_edit op r.after.operation (sym (ap (rebase submission.content) none ∙ ap Ok is) ∙ r.after.rebased) in
        no_sum r.after.operation r.after.document (subst AreNoAdditions same numbers) r.sum;
  }
    where
      no_part : (first : List PlainEntry) (next : PlainEntry) (rest : List PlainEntry) → [] ≡ first ++ next ∷ rest → ⊥
      no_part [] next rest h = cc
      no_part (x ∷ first) next rest h = cc

  -- a submission with one missed entry
  module _ (e : PlainEntry) (other : List PlainComponent) (x : Crossing PlainComponent) (missed : missed_entries log submission ≡ e ∷ []) (edits : e.content ≡ edit other) (crossed : cross_ops op other ≡ Some x) where
    first_part : (first : List PlainEntry) (next : PlainEntry) (rest : List PlainEntry) → e ∷ [] ≡ first ++ next ∷ rest → (first ≡ []) × (e ≡ next)
    first_part [] next rest h = (refl, cc)
    first_part (y ∷ []) next rest h = cc
    first_part (y ∷ z ∷ first) next rest h = cc

    same_other : (x y : List PlainComponent) → edit x ≡ edit y → x ≡ y
    same_other x y h = cc

    crossing_exists : (p : PositionLeavesRangeAmong submission.content (base_document log submission) (missed_entries log submission)) → ⊥
    crossing_exists p =
        let parts = first_part p.first p.next p.rest (sym missed ∙ p.parts) in
        let op_is = same_edit op p.after_first.operation (sym (ap (rebase submission.content) parts.0 ∙ ap Ok is) ∙ p.after_first.rebased) in
        let other_is = same_other other p.other (sym edits ∙ ap (λ (y : PlainEntry). y.content) parts.1 ∙ p.edits) in
        let none = ap (λ o. cross_ops o p.other) op_is ∙ p.no_crossing in
        let bad : Some x ≡ None = sym crossed ∙ ap (cross_ops op) other_is ∙ none in
        cc

    one_missed : rebase (edit op) (e ∷ []) ≡ Ok (edit x.left) → AreNoAdditions x.left → IsRebasedInRange log submission
    one_missed rebased numbers = record {
      room = room;
      positions = crossing_exists;
      sums = λ r.
          let same = same_edit x.left r.after.operation (sym (ap (λ m. rebase m (missed_entries log submission)) is ∙ ap (rebase (edit op)) missed ∙ rebased) ∙ r.after.rebased) in
          no_sum r.after.operation r.after.document (subst AreNoAdditions same numbers) r.sum;
    }

no_insert_adds : (i : ℕ) (v : Value) → AreNoAdditions (insert i v)
no_insert_adds i v = ((λ x h. cc), tt)

pub insert_made : (i : ℕ) (v : Value) (ds es : Items) → IsWellFormed v → apply_one (component_at [] (li i v)) (list ds) ≡ Some (list es) → AreMadeFor (insert i v) (list ds)
insert_made i v ds es w h = ((record { position = list ds; result = list es; found = refl; accepted = h; key = tt }, tt), ((tt, w), tt))

never_none : {G A : Type 0} (x : A) → Some x ≡ None → G
never_none x h = cc

same_crossing : (x y : Crossing PlainComponent) → Some x ≡ Some y → x ≡ y
same_crossing x y h = cc

module _ (op received : List PlainComponent) (d : Value) (x : Crossing PlainComponent) (crossed : cross_ops op received ≡ Some x) where
  same_right : (y : Crossing PlainComponent) → cross_ops op received ≡ Some y → x ≡ y
  same_right y h = same_crossing x y (sym crossed ∙ h)

  inserts_cross : AreNoAdditions x.left → AreNoAdditions x.right → CrossesInRange op received d
  inserts_cross l r = record {
    positions = λ none range. never_none x (sym crossed ∙ none);
    left_sums = λ y e h k. no_sum y.left e (subst (λ (z : Crossing PlainComponent). AreNoAdditions z.left) (same_right y h) l);
    right_sums = λ y e h k. no_sum y.right e (subst (λ (z : Crossing PlainComponent). AreNoAdditions z.right) (same_right y h) r);
  }

abbrev crossing : List PlainComponent → List PlainComponent → Crossing PlainComponent
crossing l r = record { left = l; right = r; pairs = 1 }

abbrev first_crossing : Crossing PlainComponent
first_crossing = crossing first_of_b (insert 1 (truth true))

abbrev second_crossing : Crossing PlainComponent
second_crossing = crossing second_of_b (insert 2 (truth true))

row_first : cross_ops first_of_b first_of_a ≡ Some first_crossing
unfolding cross cross_in
row_first = refl

row_second : cross_ops second_of_b (insert 1 (truth true)) ≡ Some second_crossing
unfolding cross cross_in
row_second = refl

-- b's edits stay where they are, and a's edit is moved behind both
row_crossed : PendingCrossesInRange (first_of_b ∷ second_of_b ∷ []) first_of_a (list no_items)
row_crossed = (
  inserts_cross first_of_b first_of_a (list no_items) first_crossing row_first (no_insert_adds 0 (truth false)) (no_insert_adds 1 (truth true)),
  λ x e h k.
      subst (λ (y : Crossing PlainComponent). PendingCrossesInRange (second_of_b ∷ []) y.right e) (same_right first_of_b first_of_a (list no_items) first_crossing row_first x h) (
        inserts_cross second_of_b (insert 1 (truth true)) e second_crossing row_second (no_insert_adds 1 null) (no_insert_adds 2 (truth true)),
        λ y f l m. tt,
      ),
)

never : {G : Type 0} → true ≡ false → G
never h = cc

-- ---- the run

record Step (s : ClientStep) (old new : SharedDocument) : Type 0 where
  pub range : IsStepInRange s old
  pub step : IsClientStep s old new

step1 : Step (make_edit a first_of_a) start s1
step1 = record { range = insert_made 0 (truth true) no_items (item (truth true) no_items) tt refl; step = refl }

step2 : Step (make_edit b first_of_b) s1 s2
step2 = record { range = insert_made 0 (truth false) no_items (item (truth false) no_items) tt refl; step = refl }

step3 : Step (send_edit a) s2 s3
step3 = record { range = tt; step = record { operation = first_of_a; rest = []; none_sent = refl; first = refl; new_is = refl } }

step4 : Step (send_edit b) s3 s4
step4 = record { range = tt; step = record { operation = first_of_b; rest = []; none_sent = refl; first = refl; new_is = refl } }

step5 : Step (make_edit b second_of_b) s4 s5
step5 = record { range = insert_made 1 null (item (truth false) no_items) (item (truth false) (item null no_items)) tt refl; step = refl }

step6 : Step (decided from_a) s5 s6
step6 = record {
  range = λ new. nothing_missed s5.log (submission_of from_a (codes "c") 0) first_of_a refl refl refl (no_insert_adds 0 (truth true));
  step = ((0, omega arith, refl), refl);
}

abbrev stored : ℕ → List PlainComponent → SubmittedEdit → PlainEntry
stored v op m = record { version = v; moment = 0; content = edit op; arrived = submission_of m (codes "c") 0 }

step7 : Step (decided from_b) s6 s7
unfolding cross cross_in
step7 = record {
  range = λ new.
      one_missed s6.log (submission_of from_b (codes "c") 0) first_of_b refl refl (stored 1 first_of_a from_a) first_of_a
      first_crossing refl refl row_first refl (no_insert_adds 0 (truth false));
  step = ((1, omega arith, refl), refl);
}

step8 : Step (process_entry a) s7 s8
unfolding cross cross_in
step8 = record {
  range = λ op other is. never other;
  step = record {
    entry = stored 1 first_of_a from_a;
    later = stored 2 first_of_b from_b ∷ [];
    entry_is = refl;
    client = client 2 (item (truth true) no_items) [] None 3;
    client_is = refl;
    new_is = refl;
  };
}

step9 : Step (process_entry a) s8 s9
unfolding cross cross_in
step9 = record {
  range = λ op other is. tt;
  step = record {
    entry = stored 2 first_of_b from_b;
    later = [];
    entry_is = refl;
    client = client 3 (item (truth false) (item (truth true) no_items)) [] None 3;
    client_is = refl;
    new_is = refl;
  };
}

same_operation : (x y : List PlainComponent) → edit x ≡ edit y → x ≡ y
same_operation x y h = cc

step10 : Step (process_entry b) s9 s10
unfolding cross cross_in
step10 = record {
  range = λ op other is. subst (λ o. PendingCrossesInRange (first_of_b ∷ second_of_b ∷ []) o (list no_items)) (same_operation first_of_a op is) row_crossed;
  step = record {
    entry = stored 1 first_of_a from_a;
    later = stored 2 first_of_b from_b ∷ [];
    entry_is = refl;
    client = client 2 (item (truth true) no_items) (first_of_b ∷ second_of_b ∷ []) (Some from_b.sent) 3;
    client_is = refl;
    new_is = refl;
  };
}

step11 : Step (process_entry b) s10 s11
unfolding cross cross_in
step11 = record {
  range = λ op other is. never other;
  step = record {
    entry = stored 2 first_of_b from_b;
    later = [];
    entry_is = refl;
    client = client 3 (item (truth false) (item (truth true) no_items)) (second_of_b ∷ []) None 3;
    client_is = refl;
    new_is = refl;
  };
}

step12 : Step (send_edit b) s11 s12
step12 = record { range = tt; step = record { operation = second_of_b; rest = []; none_sent = refl; first = refl; new_is = refl } }

step13 : Step (decided from_b) s12 s13
unfolding cross cross_in
step13 = record { range = λ new. never_none {A = ℕ} 2 new; step = ((1, omega arith, refl), refl) }

step14 : Step (decided later_from_b) s13 s14
unfolding cross cross_in
step14 = record {
  range = λ new. nothing_missed s13.log (submission_of later_from_b (codes "c") 0) second_of_b refl refl refl (no_insert_adds 1 null);
  step = ((2, omega arith, refl), refl);
}

step15 : Step (process_entry b) s14 s15
unfolding cross cross_in
step15 = record {
  range = λ op other is. never other;
  step = record {
    entry = stored 3 second_of_b later_from_b;
    later = [];
    entry_is = refl;
    client = client 4 last_items [] None 4;
    client_is = refl;
    new_is = refl;
  };
}

step16 : Step (process_entry a) s15 s16
unfolding cross cross_in
step16 = record {
  range = λ op other is. tt;
  step = record {
    entry = stored 3 second_of_b later_from_b;
    later = [];
    entry_is = refl;
    client = client 4 last_items [] None 3;
    client_is = refl;
    new_is = refl;
  };
}

-- its steps, each from the state before it
data Run : List ClientStep → SharedDocument → SharedDocument → Type 0 where
  end : (s : SharedDocument) → Run [] s s
  then : {s : ClientStep} {rest : List ClientStep} {old mid new : SharedDocument} → Step s old mid → Run rest mid new → Run (s ∷ rest) old new

run_of : (rest : List ClientStep) (old new : SharedDocument) → Run rest old new → IsClientRun rest old new
run_of _ _ _ (end s) = refl
run_of _ _ _ (then {rest} {old} {mid} {new} step run) = (mid, step.step, run_of rest mid new run)

range_of : (rest : List ClientStep) (old new : SharedDocument) (run : Run rest old new) → AreStepsInRange rest old new (run_of rest old new run)
unfolding run_of
range_of _ _ _ (end s) = tt
range_of _ _ _ (then {rest} {old} {mid} {new} step run) = (step.range, range_of rest mid new run)

row_steps : Run steps start s16
row_steps =
    then step1 (then step2 (then step3 (then step4 (then step5 (then step6 (then step7 (then step8
    (then step9 (then step10 (then step11 (then step12 (then step13 (then step14 (then step15 (then step16 (end s16))))))))))))))))

pub row_run : IsReachedInRange steps start s16
row_run = record {
  reached = record { starts = row_start; run = run_of steps start s16 row_steps };
  well_formed = tt;
  steps_in_range = range_of steps start s16 row_steps;
}

-- the run is small: its edits add nothing, the list is empty at the start, and they insert three items
step_made : (s : ClientStep) (old : SharedDocument) → IsStepInRange s old → IsStepMade s old
step_made (make_edit source op) old h = h
step_made (send_edit source) old h = tt
step_made (decide_edit m via by now) old h = tt
step_made (process_entry source) old h = tt

made_of : (rest : List ClientStep) (old new : SharedDocument) (run : Run rest old new) → AreStepsMade rest old new (run_of rest old new run)
unfolding run_of
made_of _ _ _ (end s) = tt
made_of _ _ _ (then {s} {rest} {old} {mid} {new} step run) = (step_made s old step.range, made_of rest mid new run)

pub row_small_run : IsReachedBySmallRun steps start s16
row_small_run = record {
  reached = record { starts = row_start; run = run_of steps start s16 row_steps };
  well_formed = tt;
  made = made_of steps start s16 row_steps;
  small = record { amounts = inl refl; texts = omega arith; entries = omega arith };
}

-- before b processes a's edit, and at the end
pub row_shown_before : shown_document (s9.clients b) ≡ Some (list (item (truth false) (item null no_items)))
row_shown_before = refl

pub row_shown_after : shown_document (s10.clients b) ≡ Some (list last_items)
row_shown_after = refl

pub row_log : document_of s16.log ≡ Some (list last_items)
unfolding cross cross_in
row_log = refl
