-- How large the numbers and how long the texts become in the states of a run.
use Rattle.std.proofs.Common.{◌≡◌, ℕ, zero, suc, ◌+◌, ◌≤◌, List, [], ◌∷◌, ◌++◌, take, drop, length, Option, Some, None, Ok, Err, ◌⊎◌, inl, inr, option_map, refl, sym, ap, ◌∙◌, subst, arith, length-append}
use Rattle.std.proofs.lemmas.List.{take-append-le, drop-append-le, take_all}
use Rattle.std.specs.Prelude.{⊤}
use Rattle.std.specs.Option.{option_map_or}
use Rattle.sdb_value.specs.Value.{Value}
use Rattle.sdb_component.specs.Plain.{PlainComponent}
use Rattle.sdb_transform.specs.Cross.{Crossing, cross_ops}
use Rattle.sdb_transform.specs.OperationConvergence.{total_inserted_size}
use Rattle.sdb_oplog.specs.declared.codes.Code.TheVariants.{E8}
use Rattle.sdb_oplog.specs.Plain.{PlainContent, create, delete, edit, PlainEntry}
use Rattle.sdb_oplog.specs.Refusal.{result_and_then}
use Rattle.sdb_oplog.specs.Rebase.{over, rebase}
use Rattle.sdb_oplog.specs.Snap.{document_of}
use Rattle.sdb_client_model.specs.Client.{SentEdit, Client, after_edit, after_send}
use Rattle.sdb_client_model.specs.Machine.{SubmittedEdit, SharedDocument, with_client}
use Rattle.sdb_client_model.specs.SmallRuns.{largest_number, longest_part, largest_inserted, total_added_amount}
use Rattle.sdb_client_model.proofs.EntryLemmas.{same_ok, same_operation, drop_next, below_length}
use Rattle.sdb_client_model.proofs.ClientSteps.{client_at}
use Rattle.sdb_client_model.proofs.Reductions.{IsReduced, reduced_refl, reduced_trans, crossing_reduced}
use Rattle.sdb_client_model.proofs.Accounts.{AreReduced, ProcessedOwn, ProcessedOther, content_weight, log_weight}

pub record Bounds : Type 0 where
  -- the largest number and the greatest length of the start's document and of the inserted values
  pub number : ℕ
  pub length : ℕ
  -- the number of the start's entries, what they add and what they insert
  pub start : ℕ
  pub amount : ℕ
  pub size : ℕ

pub record IsBoundedOp (b : Bounds) (op : List PlainComponent) : Type 0 where
  pub number : largest_inserted largest_number op ≤ b.number
  pub length : largest_inserted longest_part op ≤ b.length

abbrev pub AreBoundedOps : Bounds → List (List PlainComponent) → Type 0
AreBoundedOps b [] = ⊤
AreBoundedOps b (op ∷ ops) = IsBoundedOp b op × AreBoundedOps b ops

-- the stored operation is bounded, and adds and inserts no more than the submitted one
pub record IsBoundedEntry (b : Bounds) (e : PlainEntry) : Type 0 where
  pub operation : List PlainComponent
  pub content : e.content ≡ edit operation
  pub bounded : IsBoundedOp b operation
  pub size : total_inserted_size operation ≤ content_weight total_inserted_size e.arrived.content
  pub amount : total_added_amount operation ≤ content_weight total_added_amount e.arrived.content

abbrev pub AreBoundedEntries : Bounds → List PlainEntry → Type 0
AreBoundedEntries b [] = ⊤
AreBoundedEntries b (e ∷ es) = IsBoundedEntry b e × AreBoundedEntries b es

-- the document after entries that add q and insert p
pub record IsBoundedValue (b : Bounds) (p q : ℕ) (d : Value) : Type 0 where
  pub number : largest_number d + b.amount ≤ b.number + q
  pub length : longest_part d + b.size ≤ b.length + p

-- of a prefix of the log
pub record IsBoundedVersion (b : Bounds) (log : List PlainEntry) : Type 0 where
  pub amount : b.amount ≤ log_weight total_added_amount log
  pub size : b.size ≤ log_weight total_inserted_size log
  pub document : (d : Value) → document_of log ≡ Some d → IsBoundedValue b (log_weight total_inserted_size log) (log_weight total_added_amount log) d

pub record IsBoundedSent (b : Bounds) (log : List PlainEntry) (t : SentEdit) : Type 0 where
  pub start_reached : b.start ≤ t.base
  pub base_reached : t.base ≤ length log
  pub operation : IsBoundedOp b t.operation

pub record IsBoundedClient (b : Bounds) (log : List PlainEntry) (c : Client) : Type 0 where
  pub start_reached : b.start ≤ c.version
  pub version_reached : c.version ≤ length log
  pub pending : AreBoundedOps b c.pending
  pub sent : (t : SentEdit) → c.sent ≡ Some t → IsBoundedSent b log t

pub record IsBounded (b : Bounds) (s : SharedDocument) : Type 0 where
  pub start_reached : b.start ≤ length s.log
  pub entries : (v : ℕ) (e : PlainEntry) (later : List PlainEntry) → b.start ≤ v → drop v s.log ≡ e ∷ later → IsBoundedEntry b e
  pub versions : (v : ℕ) → b.start ≤ v → v ≤ length s.log → IsBoundedVersion b (take v s.log)
  pub clients : (source : List ℕ) → IsBoundedClient b s.log (s.clients source)

pub whole_log : (b : Bounds) (s : SharedDocument) → IsBounded b s → IsBoundedVersion b s.log
whole_log b s h = subst (IsBoundedVersion b) (take_all (length s.log) s.log (omega arith)) (h.versions (length s.log) h.start_reached (omega arith))

-- ---- entries

pub entries_since : (b : Bounds) (s : SharedDocument) (es : List PlainEntry) (v : ℕ) → IsBounded b s → b.start ≤ v → drop v s.log ≡ es → AreBoundedEntries b es
entries_since b s [] v h k is = tt
entries_since b s (e ∷ es) v h k is = (h.entries v e es k is, entries_since b s es (suc v) h (omega arith) (drop_next s.log v e es is))

-- the first of the entries, and the rest
pub record RebasedFirst (c : PlainContent) (op : List PlainComponent) (es : List PlainEntry) (k : PlainContent) : Type 0 where
  pub other : List PlainComponent
  pub is : c ≡ edit other
  pub crossing : Crossing PlainComponent
  pub crossed : cross_ops op other ≡ Some crossing
  pub rest : rebase (edit crossing.left) es ≡ Ok k

crossing_first : (o : Option (Crossing PlainComponent)) (op other : List PlainComponent) (es : List PlainEntry) (k : PlainContent) → cross_ops op other ≡ o
    → result_and_then (λ m. rebase m es) (option_map_or (λ c. Ok (edit c)) (option_map (λ (y : Crossing PlainComponent). y.left) o) (Err E8)) ≡ Ok k → RebasedFirst (edit other) op es k
crossing_first None op other es k is h = cc
crossing_first (Some y) op other es k is h = record { other = other; is = refl; crossing = y; crossed = is; rest = h }

pub rebased_first : (c : PlainContent) (op : List PlainComponent) (es : List PlainEntry) (k : PlainContent) → result_and_then (λ m. rebase m es) (over (edit op) c) ≡ Ok k → RebasedFirst c op es k
rebased_first (create v) op es k h = cc
rebased_first delete op es k h = cc
rebased_first (edit other) op es k h = crossing_first (cross_ops op other) op other es k refl h

-- what a rebase keeps
pub rebase_reduced : (es : List PlainEntry) (op k : List PlainComponent) → rebase (edit op) es ≡ Ok (edit k) → IsReduced op k
rebase_reduced [] op k r = subst (IsReduced op) (same_operation op k (same_ok (edit op) (edit k) r)) (reduced_refl op)
rebase_reduced (e ∷ es) op k r =
    let f = rebased_first e.content op es (edit k) r in
    reduced_trans op f.crossing.left k (crossing_reduced op f.other f.crossing f.crossed).left (rebase_reduced es f.crossing.left k f.rest)

-- ---- one client is changed

pub bounded_changed : (b : Bounds) (s : SharedDocument) (source : List ℕ) (c : Client) (submitted : List SubmittedEdit) → IsBounded b s → IsBoundedClient b s.log c
    → IsBounded b (record { log = s.log; clients = with_client s.clients source c; submitted = submitted })
bounded_changed b s source c submitted h k = record {
  start_reached = h.start_reached;
  entries = h.entries;
  versions = h.versions;
  clients = λ other. client_at (IsBoundedClient b s.log) s.clients source other c (h.clients other) (λ e. k);
}

ops_push : (b : Bounds) (ops : List (List PlainComponent)) (op : List PlainComponent) → AreBoundedOps b ops → IsBoundedOp b op → AreBoundedOps b (ops ++ op ∷ [])
ops_push b [] op h k = (k, tt)
ops_push b (x ∷ ops) op h k = (h.0, ops_push b ops op h.1 k)

pub bounded_edit : (b : Bounds) (log : List PlainEntry) (c : Client) (op : List PlainComponent) → IsBoundedOp b op → IsBoundedClient b log c → IsBoundedClient b log (after_edit op c)
bounded_edit b log c op bounded h = record {
  start_reached = h.start_reached;
  version_reached = h.version_reached;
  pending = ops_push b c.pending op h.pending bounded;
  sent = h.sent;
}

pub bounded_send : (b : Bounds) (log : List PlainEntry) (c : Client) (op : List PlainComponent) (rest : List (List PlainComponent)) → c.pending ≡ op ∷ rest → IsBoundedClient b log c
    → IsBoundedClient b log (after_send op c)
bounded_send b log c op rest first h = record {
  start_reached = h.start_reached;
  version_reached = h.version_reached;
  pending = h.pending;
  sent = λ t is.
      subst (IsBoundedSent b log) (is_same t is)
      (record { start_reached = h.start_reached; base_reached = h.version_reached; operation = (subst (AreBoundedOps b) first h.pending).0 });
}
  where
    is_same : (t : SentEdit) → (after_send op c).sent ≡ Some t → record { seq = c.next_seq; base = c.version; operation = op } ≡ t
    is_same t is = cc

-- ---- an entry is processed

ops_reduced : (b : Bounds) (xs ys : List (List PlainComponent)) → AreBoundedOps b xs → AreReduced xs ys → AreBoundedOps b ys
ops_reduced b [] [] k r = tt
ops_reduced b [] (y ∷ ys) k r = absurd r
ops_reduced b (x ∷ xs) [] k r = absurd r
ops_reduced b (x ∷ xs) (y ∷ ys) k r = (record { number = omega (arith, k.0.number, r.0.number); length = omega (arith, k.0.length, r.0.length) }, ops_reduced b xs ys k.1 r.1)

pub bounded_processed : (b : Bounds) (log : List PlainEntry) (source : List ℕ) (e : PlainEntry) (later : List PlainEntry) (old c : Client) → IsBoundedClient b log old → drop old.version log ≡ e ∷ later
    → ProcessedOwn source e old c ⊎ ProcessedOther e old c → IsBoundedClient b log c
bounded_processed b log source e later old c k is (inl p) = record {
  start_reached = omega (arith, p.version, k.start_reached);
  version_reached = omega (arith, p.version, below_length log old.version e later is);
  pending = subst (AreBoundedOps b) (sym p.pending) (subst (AreBoundedOps b) p.first k.pending).1;
  sent = λ t some. never_sent t (sym p.sent ∙ some);
}
  where
    never_sent : {G : Type 0} (t : SentEdit) → None ≡ Some t → G
    never_sent t bad = cc
bounded_processed b log source e later old c k is (inr p) = record {
  start_reached = omega (arith, p.version, k.start_reached);
  version_reached = omega (arith, p.version, below_length log old.version e later is);
  pending = ops_reduced b old.pending c.pending k.pending p.pending;
  sent = λ t some. k.sent t (sym p.sent ∙ some);
}

-- ---- an entry is appended

none_left : (v : ℕ) (l : List PlainEntry) → drop v l ≡ [] → length l ≤ v
none_left zero [] n = omega arith
none_left zero (y ∷ l) n = cc
none_left (suc v) [] n = omega arith
none_left (suc v) (y ∷ l) n = omega (arith, none_left v l n)

first_same : (x y : PlainEntry) (xs ys : List PlainEntry) → x ∷ xs ≡ y ∷ ys → x ≡ y
first_same x y xs ys is = cc

module _ (b : Bounds) (s : SharedDocument) (h : IsBounded b s) (e : PlainEntry) where
  abbrev longer : List PlainEntry
  longer = s.log ++ e ∷ []

  client_kept : (c : Client) → IsBoundedClient b s.log c → IsBoundedClient b longer c
  client_kept c k = record {
    start_reached = k.start_reached;
    version_reached = omega (arith, k.version_reached, length-append s.log (e ∷ []));
    pending = k.pending;
    sent = λ t is.
        let r = k.sent t is in
        record { start_reached = r.start_reached; base_reached = omega (arith, r.base_reached, length-append s.log (e ∷ [])); operation = r.operation };
  }

  entry_at : (v : ℕ) (x : PlainEntry) (later rest : List PlainEntry) → b.start ≤ v → drop v s.log ≡ rest → drop v longer ≡ x ∷ later → IsBoundedEntry b e → IsBoundedEntry b x
  entry_at v x later (y ∷ rest) k is here last =
      let reached = below_length s.log v y rest is in
      subst (IsBoundedEntry b) (first_same y x (rest ++ e ∷ []) later (sym (ap (λ l. l ++ e ∷ []) is) ∙ sym (drop-append-le v s.log (e ∷ []) (omega (arith, reached))) ∙ here)) (h.entries v y rest k is)
  entry_at v x later [] k none here last =
      let reached = none_left v s.log none in
      let below = below_length longer v x later here in
      let within : v ≤ length s.log = omega (arith, reached, below, length-append s.log (e ∷ [])) in
      subst (IsBoundedEntry b) (first_same e x [] later (sym (drop-append-le v s.log (e ∷ []) within ∙ ap (λ l. l ++ e ∷ []) none) ∙ here)) last

  version_at : (v : ℕ) → b.start ≤ v → v ≤ length longer → (v ≤ length s.log) ⊎ (length longer ≤ v) → IsBoundedVersion b longer → IsBoundedVersion b (take v longer)
  version_at v k reached (inl old) last = subst (IsBoundedVersion b) (sym (take-append-le v s.log (e ∷ []) old)) (h.versions v k old)
  version_at v k reached (inr new) last = subst (IsBoundedVersion b) (sym (take_all v longer new)) last

  old_or_new : (v n m : ℕ) → m ≡ n + 1 → (v ≤ n) ⊎ (m ≤ v)
  old_or_new zero n m is = inl (omega arith)
  old_or_new (suc v) zero m is = inr (omega (arith, is))
  old_or_new (suc v) (suc n) zero is = inr (omega arith)
  old_or_new (suc v) (suc n) (suc m) is = later (old_or_new v n m (omega (arith, is)))
    where
      later : (v ≤ n) ⊎ (m ≤ v) → (suc v ≤ suc n) ⊎ (suc m ≤ suc v)
      later (inl a) = inl (omega (arith, a))
      later (inr a) = inr (omega (arith, a))

  pub bounded_appended : (submitted : List SubmittedEdit) → IsBoundedEntry b e → IsBoundedVersion b longer → IsBounded b (record { log = longer; clients = s.clients; submitted = submitted })
  bounded_appended submitted entry last = record {
    start_reached = omega (arith, h.start_reached, length-append s.log (e ∷ []));
    entries = λ v x later k is. entry_at v x later (drop v s.log) k refl is entry;
    versions = λ v k reached. version_at v k reached (old_or_new v (length s.log) (length longer) (omega (arith, length-append s.log (e ∷ [])))) last;
    clients = λ source. client_kept (s.clients source) (h.clients source);
  }
