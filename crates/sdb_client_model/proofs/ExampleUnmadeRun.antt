-- An example: a run of two clients that set a present key at the same time without removing its value. Neither edit is
-- made for what its client shows, nor was the last one of the start for its document, and both clients converge.
use Rattle.std.specs.Prelude.{◌≡◌, ℕ, List, [], ◌∷◌, true, false, Option, Some, None, codes, refl}
use Rattle.std.proofs.Common.{sym, subst, arith}
use Rattle.sdb_value.specs.Value.{Value, null, truth, object, no_members, member}
use Rattle.sdb_component.specs.Plain.{oi, or, PlainComponent}
use Rattle.sdb_transform.specs.Convergence.{HasExpectedKey}
use Rattle.sdb_transform.specs.Transform.{component_at}
use Rattle.sdb_transform.specs.OperationConvergence.{AreMadeFor}
use Rattle.sdb_transform.specs.Cross.{cross, cross_in}
use Rattle.sdb_oplog.specs.Plain.{PlainContent, create, edit, PlainEntry}
use Rattle.sdb_oplog.specs.Snap.{document_of}
use Rattle.sdb_oplog.specs.RebasedContents.{AreMadeAtBase}
use Rattle.sdb_client_model.specs.Client.{SentEdit, Client, after_edit}
use Rattle.sdb_client_model.specs.Machine.{SubmittedEdit, SharedDocument, ClientStep, make_edit, send_edit, decide_edit, process_entry, with_changed_client, submission_of, after_sending, after_decision, IsClientStep}
use Rattle.sdb_client_model.specs.Convergence.{IsStart, IsReached, IsQuiet}
use Rattle.sdb_client_model.specs.MadeEdits.{IsReachedInRange}
use Rattle.sdb_client_model.specs.RunPremises.{IsMadeForShown, IsStepInRange}
use Rattle.sdb_client_model.proofs.PendingLemmas.{same_some}

-- ---- the start: an object whose key was set twice, the second time without removing the first value

abbrev k : List ℕ
k = codes "k"

abbrev set : Value → List PlainComponent
set v = component_at [] (oi k v) ∷ []

abbrev with_key : Value → Value
with_key v = object (member k v no_members)

abbrev stored : ℕ → PlainContent → List ℕ → ℕ → ℕ → PlainContent → PlainEntry
stored v content source seq base sent = record {
  version = v;
  moment = 0;
  content = content;
  arrived = record { src = source; seq = seq; version = Some base; content = sent; via = codes "c"; by = 0 };
}

abbrev created : PlainEntry
created = stored 0 (create (with_key null)) (codes "creator") 1 0 (create (with_key null))

abbrev replaced : PlainEntry
replaced = stored 1 (edit (set (truth true))) (codes "creator") 2 1 (edit (set (truth true)))

abbrev client : ℕ → Value → List (List PlainComponent) → Option SentEdit → ℕ → Client
client v d ops t n = record { version = v; document = d; pending = ops; sent = t; next_seq = n }

abbrev start : SharedDocument
start = record {
  log = created ∷ replaced ∷ [];
  clients = λ source. client 2 (with_key (truth true)) [] None 3;
  submitted = [];
}

row_start : IsStart start
row_start = record {
  log_is_made = (refl, (refl, tt));
  clients = λ source. record { version = refl; document = refl; pending = refl; sent = refl; seqs = ((λ is. omega arith), ((λ is. omega arith), tt)) };
  submitted = refl;
}

-- the key is present
is_present : (v : Value) → Some (with_key null) ≡ Some v → HasExpectedKey (oi k (truth true)) v → ⊥
is_present v is h = let absent = subst (HasExpectedKey (oi k (truth true))) (sym (same_some (with_key null) v is)) h in cc

pub not_made_before : AreMadeAtBase start.log → ⊥
not_made_before made = let w = made.1.0.0.0 in is_present w.position w.found w.key

-- ---- the steps: both set the key and send that; b processes a's edit while its own one is pending

abbrev a : List ℕ
a = codes "a"

abbrev b : List ℕ
b = codes "b"

abbrev message : List ℕ → Value → SubmittedEdit
message source v = record { source = source; sent = record { seq = 3; base = 2; operation = set v } }

abbrev from_a : SubmittedEdit
from_a = message a (truth false)

abbrev from_b : SubmittedEdit
from_b = message b null

abbrev decided : SubmittedEdit → ClientStep
decided m = decide_edit m (codes "c") 0 0

abbrev steps : List ClientStep
steps =
    make_edit a (set (truth false))
    ∷ make_edit b (set null)
    ∷ send_edit a
    ∷ send_edit b
    ∷ decided from_a
    ∷ decided from_b
    ∷ process_entry b
    ∷ process_entry b
    ∷ process_entry a
    ∷ process_entry a
    ∷ []

-- ---- the states after them

abbrev edited : SharedDocument → List ℕ → Value → SharedDocument
edited s source v = with_changed_client s source (after_edit (set v) (s.clients source))

abbrev after_decided : SharedDocument → SubmittedEdit → SharedDocument
after_decided s m = after_decision s (submission_of m (codes "c") 0) 0

-- b's edit wins the tie: it replaces a's value
abbrev replacement : List PlainComponent
replacement = component_at [] (or k (truth false) null) ∷ []

abbrev entry_of_a : PlainEntry
entry_of_a = stored 2 (edit (set (truth false))) a 3 2 (edit (set (truth false)))

abbrev entry_of_b : PlainEntry
entry_of_b = stored 3 (edit replacement) b 3 2 (edit (set null))

abbrev s1 : SharedDocument
s1 = edited start a (truth false)

abbrev s2 : SharedDocument
s2 = edited s1 b null

abbrev s3 : SharedDocument
s3 = after_sending s2 a (set (truth false))

abbrev s4 : SharedDocument
s4 = after_sending s3 b (set null)

abbrev s5 : SharedDocument
s5 = after_decided s4 from_a

abbrev s6 : SharedDocument
s6 = after_decided s5 from_b

abbrev s7 : SharedDocument
s7 = with_changed_client s6 b (client 3 (with_key (truth false)) (replacement ∷ []) (Some from_b.sent) 4)

abbrev s8 : SharedDocument
s8 = with_changed_client s7 b (client 4 (with_key null) [] None 4)

abbrev s9 : SharedDocument
s9 = with_changed_client s8 a (client 3 (with_key (truth false)) [] None 4)

abbrev s10 : SharedDocument
s10 = with_changed_client s9 a (client 4 (with_key null) [] None 4)

-- neither edit is made for what its client shows
not_made_now : (v : Value) → IsMadeForShown (set v) (Some (with_key (truth true))) → ⊥
not_made_now v made =
    let w = made.0.0 in
    let absent = subst (HasExpectedKey (oi k v)) (sym (same_some (with_key (truth true)) w.position w.found)) w.key in
    cc

pub not_in_range_of_a : IsStepInRange (make_edit a (set (truth false))) start → ⊥
not_in_range_of_a h = not_made_now (truth false) h

pub not_in_range_of_b : IsStepInRange (make_edit b (set null)) s1 → ⊥
not_in_range_of_b h = not_made_now null h

-- ---- the run

step3 : IsClientStep (send_edit a) s2 s3
step3 = record { operation = set (truth false); rest = []; none_sent = refl; first = refl; new_is = refl }

step4 : IsClientStep (send_edit b) s3 s4
step4 = record { operation = set null; rest = []; none_sent = refl; first = refl; new_is = refl }

step5 : IsClientStep (decided from_a) s4 s5
step5 = ((0, omega arith, refl), refl)

step6 : IsClientStep (decided from_b) s5 s6
step6 = ((1, omega arith, refl), refl)

step7 : IsClientStep (process_entry b) s6 s7
unfolding cross cross_in
step7 = record {
  entry = entry_of_a;
  later = entry_of_b ∷ [];
  entry_is = refl;
  client = client 3 (with_key (truth false)) (replacement ∷ []) (Some from_b.sent) 4;
  client_is = refl;
  new_is = refl;
}

step8 : IsClientStep (process_entry b) s7 s8
unfolding cross cross_in
step8 = record {
  entry = entry_of_b;
  later = [];
  entry_is = refl;
  client = client 4 (with_key null) [] None 4;
  client_is = refl;
  new_is = refl;
}

step9 : IsClientStep (process_entry a) s8 s9
unfolding cross cross_in
step9 = record {
  entry = entry_of_a;
  later = entry_of_b ∷ [];
  entry_is = refl;
  client = client 3 (with_key (truth false)) [] None 4;
  client_is = refl;
  new_is = refl;
}

step10 : IsClientStep (process_entry a) s9 s10
unfolding cross cross_in
step10 = record {
  entry = entry_of_b;
  later = [];
  entry_is = refl;
  client = client 4 (with_key null) [] None 4;
  client_is = refl;
  new_is = refl;
}

pub row_run : IsReached steps start s10
row_run = record {
  starts = row_start;
  run = (
    s1,
    refl,
    (
      s2,
      refl,
      (
        s3,
        step3,
        (
          s4,
          step4,
          (
            s5,
            step5,
            (s6, step6, (s7, step7, (s8, step8, (s9, step9, (s10, step10, refl))))),
          ),
        ),
      ),
    ),
  );
}

-- at the end
pub row_quiet : IsQuiet s10.log (s10.clients a) × IsQuiet s10.log (s10.clients b)
unfolding cross cross_in
row_quiet = (record { all_processed = refl; none_pending = refl }, record { all_processed = refl; none_pending = refl })

pub row_log : document_of s10.log ≡ Some (with_key null)
unfolding cross cross_in
row_log = refl

-- ---- a run in range from the same start: a replaces the present value

abbrev replace : List PlainComponent
replace = component_at [] (or k (truth true) null) ∷ []

abbrev s11 : SharedDocument
s11 = with_changed_client start a (after_edit replace (start.clients a))

replace_made : AreMadeFor replace (with_key (truth true))
replace_made = ((record { position = with_key (truth true); result = with_key null; found = refl; accepted = refl; key = refl }, tt), ((tt, tt), tt))

pub row_in_range : IsReachedInRange (make_edit a replace ∷ []) start s11
unfolding lib.Utf8.encode
row_in_range = record {
  reached = record { starts = row_start; run = (s11, refl, refl) };
  well_formed = ((107 ∷ [], (refl, refl)), tt, tt, tt);
  steps_in_range = (replace_made, tt);
}
