-- An edit that is made for the document at its base version is stored, and its entry is made, if no position and no sum
-- leaves the range while it is rebased on made edits.
use Rattle.std.proofs.Common.{◌≡◌, ℕ, zero, suc, ◌+◌, ◌≤◌, List, [], ◌∷◌, ◌++◌, take, drop, length, false, cond, Option, Some, None, option_map, option_and_then, Ok, Err, inl, inr, refl, sym, ap, ◌∙◌, subst, arith, take-append-drop}
use Rattle.std.proofs.lemmas.Bool.Decides.{nat_tests}
use Rattle.std.specs.Option.{option_map_or}
use Rattle.std.specs.Result.{result_ok}
use Rattle.sdb_value.specs.Value.{Value}
use Rattle.sdb_component.specs.Plain.{PlainComponent}
use Rattle.sdb_component.specs.Weight.{component_weight}
use Rattle.sdb_apply.specs.Apply.{apply}
use Rattle.sdb_transform.specs.Cross.{Crossing, sum_weight, cross, cross_ops}
use Rattle.sdb_transform.specs.OperationConvergence.{AreMadeFor, SomeSumLeavesRange}
use Rattle.sdb_transform.proofs.FormedValues.{IsFormed}
use Rattle.sdb_transform.proofs.OperationRuns.{OperationRun, MadeResult, MadeOrOverflows, MadeRun, run_of, run_formed, made_or_overflows}
use Rattle.sdb_transform.proofs.CrossingExistence.{crossing_of_runs}
use Rattle.sdb_transform.proofs.OperationLemmas.{CrossingRuns, cross_runs}
use Rattle.sdb_oplog.specs.declared.codes.Code.TheVariants.{E4, E8, E11}
use Rattle.sdb_oplog.specs.Plain.{PlainContent, edit, PlainSubmission, PlainEntry}
use Rattle.sdb_oplog.specs.Refusal.{result_and_then}
use Rattle.sdb_oplog.specs.Rebase.{over, rebase}
use Rattle.sdb_oplog.specs.Snap.{apply_content, snap_from, snap, document_of, stored_at}
use Rattle.sdb_oplog.specs.Decide.{decide, append_decided, rebased_content, base_version, missed_entries, is_log_full, is_version_too_new, IsMade}
use Rattle.sdb_oplog.specs.RebasedContents.{IsContentMadeFor, AreEntriesMadeFor, RebasedEdit, RebasedSumLeavesRange, PositionLeavesRangeAmong}
use Rattle.sdb_oplog.specs.laws.LogLaws.{some_of_is_some, decides_settled}
use Rattle.sdb_oplog.specs.laws.DecidedLogLaws.{alive_of_made}
use Rattle.sdb_oplog.proofs.LogGrowth.{lives_prefix}
use Rattle.sdb_client_model.specs.Invariant.{AreEdits}
use Rattle.sdb_client_model.proofs.PendingLemmas.{same_some, not_none}
use Rattle.sdb_client_model.proofs.EntryLemmas.{same_ok, IsFormedDocument, RestMade, made_after, apply_edit, edit_of}

-- ---- the document at a version

snap_append_at : (o : Option (Option Value)) (xs ys : List PlainEntry) → ((n : Option Value) → snap_from n (xs ++ ys) ≡ option_and_then (λ m. snap_from m ys) (snap_from n xs))
    → option_and_then (λ n. snap_from n (xs ++ ys)) o ≡ option_and_then (λ m. snap_from m ys) (option_and_then (λ n. snap_from n xs) o)
snap_append_at None xs ys below = refl
snap_append_at (Some n) xs ys below = below n

pub snap_append : (xs ys : List PlainEntry) (d : Option Value) → snap_from d (xs ++ ys) ≡ option_and_then (λ m. snap_from m ys) (snap_from d xs)
snap_append [] ys d = refl
snap_append (x ∷ xs) ys d = snap_append_at (result_ok (apply_content x.content d)) xs ys (λ n. snap_append xs ys n)

-- each prefix of a made log has a document, which the entries after it turn into the log's
pub snap_at : (log : List PlainEntry) (v : ℕ) → IsMade log → snap (take v log) ≡ Some (document_of (take v log))
snap_at log v made = some_of_is_some (snap (take v log)) (lives_prefix log v None (alive_of_made log made))

pub snap_since : (log : List PlainEntry) (v : ℕ) (d : Option Value) → IsMade log → snap (take v log) ≡ Some d → snap_from d (drop v log) ≡ Some (document_of log)
snap_since log v d made s =
    sym (ap (option_and_then (λ m. snap_from m (drop v log))) s)
    ∙ sym (snap_append (take v log) (drop v log) None)
    ∙ ap snap (take-append-drop v log)
    ∙ some_of_is_some (snap log) (alive_of_made log made)

-- ---- entries since a start

-- a version of a log that isn't before its start: the entries of the start, those before the version, those since it
record SplitLog (start entries : List PlainEntry) (v : ℕ) : Type 0 where
  pub before : List PlainEntry
  pub since : List PlainEntry
  pub parts : entries ≡ before ++ since
  pub taken : take v (start ++ entries) ≡ start ++ before
  pub dropped : drop v (start ++ entries) ≡ since

split_log : (start entries : List PlainEntry) (v : ℕ) → length start ≤ v → SplitLog start entries v
split_log [] entries v h = record { before = take v entries; since = drop v entries; parts = sym (take-append-drop v entries); taken = refl; dropped = refl }
split_log (x ∷ start) entries zero h = absurd (omega (arith, h))
split_log (x ∷ start) entries (suc v) h =
    let r = split_log start entries v (omega (arith, h)) in
    record { before = r.before; since = r.since; parts = r.parts; taken = ap (λ l. x ∷ l) r.taken; dropped = r.dropped }

-- the entries since a version are made, and its document is formed
pub rest_made : (start entries : List PlainEntry) (v : ℕ) (d n : Option Value) → IsFormedDocument d → AreEntriesMadeFor entries d → snap start ≡ Some d → length start ≤ v
    → snap (take v (start ++ entries)) ≡ Some n → RestMade (drop v (start ++ entries)) n
rest_made start entries v d n formed made s reached at =
    let r = split_log start entries v reached in
    let before : snap_from d r.before ≡ Some n = sym (ap (option_and_then (λ m. snap_from m r.before)) s) ∙ sym (snap_append start r.before None) ∙ ap snap (sym r.taken) ∙ at in
    subst (λ l. RestMade l n) (sym r.dropped) (made_after r.before r.since d n formed (subst (λ l. AreEntriesMadeFor l d) r.parts made) before)

-- one more made entry
pub made_append : (es : List PlainEntry) (e : PlainEntry) (d n k : Option Value) → AreEntriesMadeFor es d → snap_from d es ≡ Some n → IsContentMadeFor e.content n → apply_content e.content n ≡ Ok k
    → AreEntriesMadeFor (es ++ e ∷ []) d
made_append [] e d n k h s a b =
    let is = sym (same_some d n s) in
    (subst (IsContentMadeFor e.content) is a, k, subst (λ m. apply_content e.content m ≡ Ok k) is b, tt)
made_append (x ∷ es) e d n k h s a b =
    (h.0, h.1, h.2, made_append es e h.1 n k h.3 (sym (ap (λ r. option_and_then (λ m. snap_from m es) (result_ok r)) h.2) ∙ s) a b)

-- ---- an edit rebased on made edits

-- the rebased edit, which is made for the document after the entries apart from the range of sums
pub record RebasedRun (m : PlainContent) (d : Option Value) (es : List PlainEntry) : Type 0 where
  pub after : RebasedEdit m d es
  pub result : Value
  pub run : OperationRun after.operation after.document result

module _ (x : PlainEntry) (es : List PlainEntry) (op other : List PlainComponent) (d e : Value) (formed : IsFormed d) (run : OperationRun op d e) (is : x.content ≡ edit other) (made : AreMadeFor other d)
    (in_range : PositionLeavesRangeAmong (edit op) (Some d) (x ∷ es) → ⊥) where
  abbrev next : MadeRun other d
  next = run_of other d made

  crossing_at : (o : Option (Crossing PlainComponent)) → cross_ops op other ≡ o → (y : Crossing PlainComponent) × (cross_ops op other ≡ Some y)
  crossing_at (Some y) some = (y, some)
  crossing_at None none =
      absurd
      (in_range
      (record {
        first = [];
        next = x;
        rest = es;
        other = other;
        parts = refl;
        edits = is;
        after_first = record { operation = op; document = d; rebased = refl; replayed = refl };
        no_crossing = none;
        not_in_range = λ i j. not_none op other none (crossing_of_runs d e next.result op other formed run next.run i j);
      }))

  crossing : (y : Crossing PlainComponent) × (cross_ops op other ≡ Some y)
  crossing = crossing_at (cross_ops op other) refl

  abbrev left : List PlainComponent
  left = crossing.0.left

  crossed : CrossingRuns e next.result crossing.0
  unfolding cross
  crossed = cross_runs (sum_weight component_weight op + sum_weight component_weight other) op other crossing.0 crossing.1 d e next.result formed run next.run

  over_is : over (edit op) x.content ≡ Ok (edit left)
  over_is = ap (over (edit op)) is ∙ ap (λ o. option_map_or (λ c. Ok (edit c)) (option_map (λ (y : Crossing PlainComponent). y.left) o) (Err E8)) crossing.1

  applied : apply_content x.content (Some d) ≡ Ok (Some next.result)
  applied = ap (λ c. apply_content c (Some d)) is ∙ apply_edit other d next.result next.applied

  abbrev edit_after : (ys : List PlainEntry) → RebasedEdit (edit left) (Some next.result) ys → RebasedEdit (edit op) (Some d) (x ∷ ys)
  edit_after ys r = record {
    operation = r.operation;
    document = r.document;
    rebased = ap (result_and_then (λ k. rebase k ys)) over_is ∙ r.rebased;
    replayed = ap (λ r. option_and_then (λ m. snap_from m ys) (result_ok r)) applied ∙ r.replayed;
  }

  in_range_after : PositionLeavesRangeAmong (edit left) (Some next.result) es → ⊥
  in_range_after p =
      in_range
      (record {
        first = x ∷ p.first;
        next = p.next;
        rest = p.rest;
        other = p.other;
        parts = ap (λ l. x ∷ l) p.parts;
        edits = p.edits;
        after_first = edit_after p.first p.after_first;
        no_crossing = p.no_crossing;
        not_in_range = p.not_in_range;
      })

  made_next : (n : Option Value) → apply_content x.content (Some d) ≡ Ok n → AreEntriesMadeFor es n → AreEntriesMadeFor es (Some next.result)
  made_next n a rest = subst (AreEntriesMadeFor es) (same_ok n (Some next.result) (sym a ∙ applied)) rest

pub rebased_run : (es : List PlainEntry) (op : List PlainComponent) (d e : Value) → IsFormed d → OperationRun op d e → AreEdits es → AreEntriesMadeFor es (Some d)
    → (PositionLeavesRangeAmong (edit op) (Some d) es → ⊥) → RebasedRun (edit op) (Some d) es
rebased_run [] op d e formed run edits made in_range = record { after = record { operation = op; document = d; rebased = refl; replayed = refl }; result = e; run = run }
rebased_run (x ∷ es) op d e formed run edits made in_range =
    let o = edit_of x.content edits.0 in
    let here = subst (λ m. IsContentMadeFor m (Some d)) o.1 made.0 in
    let n = next x es op o.0 d e formed run o.1 here in_range in
    let c = crossed x es op o.0 d e formed run o.1 here in_range in
    let rest = rebased_run es (left x es op o.0 d e formed run o.1 here in_range) n.result c.result (run_formed o.0 d n.result formed n.run) c.left_run edits.1
    (made_next x es op o.0 d e formed run o.1 here in_range made.1 made.2 made.3) (in_range_after x es op o.0 d e formed run o.1 here in_range) in
    record { after = edit_after x es op o.0 d e formed run o.1 here in_range es rest.after; result = rest.result; run = rest.run }

-- ---- a submission

-- the edit that is stored for a submission, made for the log's document
pub record StoredEdit (log : List PlainEntry) (s : PlainSubmission) : Type 0 where
  pub operation : List PlainComponent
  pub document : Value
  pub after : Value
  pub document_is : document_of log ≡ Some document
  pub made : AreMadeFor operation document
  pub applied : apply operation document ≡ Some after
  pub decided : (now : ℕ) → stored_at s.src s.seq log ≡ None → decide log s now ≡ append_decided log s now (Ok (edit operation))

sums_in_range : (cs : List PlainComponent) (d e : Value) → MadeOrOverflows cs d e → (SomeSumLeavesRange cs d → ⊥) → MadeResult cs d e
sums_in_range cs d e (inl m) h = m
sums_in_range cs d e (inr o) h = absurd (h o)

module _ (log : List PlainEntry) (s : PlainSubmission) (room : is_log_full log ≡ false) (reached : base_version log s ≤ length log) where
  not_too_new : is_version_too_new log s ≡ false
  not_too_new = grind (arith, nat_tests)

  settled : (m : PlainContent) (n : Option Value) → rebase s.content (missed_entries log s) ≡ Ok m → apply_content m (document_of log) ≡ Ok n → rebased_content log s ≡ Ok m
  settled m n rebased applied =
      ap (λ b. cond b (Err E11) (cond (is_version_too_new log s) (Err E4)
      (result_and_then (λ k. result_and_then (λ d. Ok k) (apply_content k (document_of log))) (rebase s.content (missed_entries log s))))) room
      ∙ ap (λ b. cond b (Err E4)
      (result_and_then (λ k. result_and_then (λ d. Ok k) (apply_content k (document_of log))) (rebase s.content (missed_entries log s)))) not_too_new
      ∙ ap (result_and_then (λ k. result_and_then (λ d. Ok k) (apply_content k (document_of log)))) rebased
      ∙ ap (result_and_then (λ d. Ok m)) applied

  pub stored_edit : (op : List PlainComponent) (d : Value) → IsMade log → s.content ≡ edit op → snap (take (base_version log s) log) ≡ Some (Some d) → AreMadeFor op d
      → RestMade (missed_entries log s) (Some d) → AreEdits (missed_entries log s) → (PositionLeavesRangeAmong (edit op) (Some d) (missed_entries log s) → ⊥)
      → (RebasedSumLeavesRange (edit op) (Some d) (missed_entries log s) → ⊥) → StoredEdit log s
  stored_edit op d log_is_made content at made rest edits positions sums =
      let r = run_of op d made in
      let k = rebased_run (missed_entries log s) op d r.result rest.formed r.run edits rest.made positions in
      let m = sums_in_range k.after.operation k.after.document k.result (made_or_overflows k.after.operation k.after.document k.result k.run) (λ o. sums (record { after = k.after; sum = o })) in
      let document = same_some (document_of log) (Some k.after.document) (sym (snap_since log (base_version log s) (Some d) log_is_made at) ∙ k.after.replayed) in
      let rebased = ap (λ c. rebase c (missed_entries log s)) content ∙ k.after.rebased in
      let applies = ap (apply_content (edit k.after.operation)) document ∙ apply_edit k.after.operation k.after.document k.result m.applied in
      record {
        operation = k.after.operation;
        document = k.after.document;
        after = k.result;
        document_is = document;
        made = m.made;
        applied = m.applied;
        decided = λ now new. decides_settled log s now (Ok (edit k.after.operation)) new (settled (edit k.after.operation) (Some k.result) rebased applies);
      }
