-- Each step of a server that saves its documents preserves what holds of it.
use Rattle.std.proofs.Common.{◌≡◌, ℕ, List, [], ◌∷◌, ◌++◌, map, Bool, true, false, cond, inl, inr, refl, sym, ap, ap₂, ◌∙◌, subst, append_assoc, append-nil}
use Rattle.std.specs.Prelude.{not, nat_eq}
use Rattle.std.proofs.lemmas.Bool.{cases_Bool}
use Rattle.sdb_desk.specs.laws.KeyLaws.{eq_of_keys_equal, keys_equal_refl}
use Rattle.sdb_desk.specs.laws.MapLaws.{keys_equal_comm}
use Rattle.sdb_oplog.specs.Plain.{PlainEntry, PlainSubmission}
use Rattle.sdb_oplog.specs.Decide.{decide, IsMade, IsMadeFrom}
use Rattle.sdb_oplog.specs.Keys.{PlainKey, keys_equal, with_log, shard_of}
use Rattle.sdb_oplog.specs.laws.LogLaws.{made_of_decide}
use Rattle.sdb_dump.specs.DumpText.{PlainLine, log_of_lines}
use Rattle.sdb_dump.proofs.AcceptLemmas.{log_append, log_more}
use Rattle.sdb_dump.specs.JournalText.{journal_entry, number_block, entries_of, logs_of_items}
use Rattle.sdb_dump.specs.StoreMachine.{IsIn, StoreState, StoreStep, submit, save, reserve, send, restart, new_store, with_entry, after_save, after_reserve, after_send, after_restart, IsStoreStep, IsStoreRun, of_shard, of_other_shards}
use Rattle.sdb_dump.specs.StoreMachineLaws.{IsDurable, RunsAreDurable, RestartsKeepSent}
use Rattle.sdb_dump.proofs.JournalLemmas.{entries_append}

-- ---- lists

in_append : {A : Type 0} (x : A) (xs ys : List A) → IsIn x xs → IsIn x (xs ++ ys)
in_append x [] ys h = absurd h
in_append x (y ∷ xs) ys (inl e) = inl e
in_append x (y ∷ xs) ys (inr h) = inr (in_append x xs ys h)

made_prefix : (before xs ys : List PlainEntry) → IsMadeFrom before (xs ++ ys) → IsMadeFrom before xs
made_prefix before [] ys h = tt
made_prefix before (x ∷ xs) ys h = (h.0, made_prefix (before ++ x ∷ []) xs ys h.1)

entries_of_saved : (xs : List PlainLine) → entries_of (map journal_entry xs) ≡ xs
entries_of_saved [] = refl
entries_of_saved (x ∷ xs) = ap (λ ys. x ∷ ys) (entries_of_saved xs)

-- ---- the lines of a shard

not_true : (b : Bool) → (b ≡ true → false ≡ true) → b ≡ false
not_true true h = sym (h refl)
not_true false h = refl

module _ (x : PlainLine) (k : PlainKey) where
  kept_more : (t : Bool) (ys xs : List PlainLine) → (keys_equal k x.key ≡ true → t ≡ true) → log_of_lines ys k ≡ log_of_lines xs k
      → log_of_lines (cond t (x ∷ ys) ys) k ≡ log_of_lines (x ∷ xs) k
  kept_more true ys xs has e = ap (λ l. cond (keys_equal k x.key) (x.entry ∷ l) l) e
  kept_more false ys xs has e =
      e ∙ sym (ap (λ b. cond b (x.entry ∷ log_of_lines xs k) (log_of_lines xs k)) (not_true (keys_equal k x.key) has))

  dropped_more : (t : Bool) (ys : List PlainLine) → (keys_equal k x.key ≡ true → t ≡ true) → log_of_lines ys k ≡ []
      → log_of_lines (cond t ys (x ∷ ys)) k ≡ []
  dropped_more true ys has e = e
  dropped_more false ys has e = ap (λ b. cond b (x.entry ∷ log_of_lines ys k) (log_of_lines ys k)) (not_true (keys_equal k x.key) has) ∙ e

  cond_not : {A : Type 0} (t : Bool) (a b : A) → cond (not t) a b ≡ cond t b a
  cond_not true a b = refl
  cond_not false a b = refl

  not_of_false : (t : Bool) → (keys_equal k x.key ≡ true → t ≡ false) → keys_equal k x.key ≡ true → not t ≡ true
  not_of_false t h e = ap not (h e)

at_shard : (i : ℕ) (b : Bool) (k : PlainKey) (x : PlainLine) → nat_eq (shard_of k) i ≡ b → keys_equal k x.key ≡ true → nat_eq (shard_of x.key) i ≡ b
at_shard i b k x own e = subst (λ q. nat_eq (shard_of q) i ≡ b) (eq_of_keys_equal k x.key e) own

module _ (i : ℕ) (k : PlainKey) where
  own_kept : (xs : List PlainLine) → nat_eq (shard_of k) i ≡ true → log_of_lines (of_shard i xs) k ≡ log_of_lines xs k
  own_kept [] own = refl
  own_kept (x ∷ xs) own = kept_more x k (nat_eq (shard_of x.key) i) (of_shard i xs) xs (at_shard i true k x own) (own_kept xs own)

  own_dropped : (xs : List PlainLine) → nat_eq (shard_of k) i ≡ true → log_of_lines (of_other_shards i xs) k ≡ []
  own_dropped [] own = refl
  own_dropped (x ∷ xs) own = dropped_more x k (nat_eq (shard_of x.key) i) (of_other_shards i xs) (at_shard i true k x own) (own_dropped xs own)

  other_kept : (xs : List PlainLine) → nat_eq (shard_of k) i ≡ false → log_of_lines (of_other_shards i xs) k ≡ log_of_lines xs k
  other_kept [] own = refl
  other_kept (x ∷ xs) own =
      let t = nat_eq (shard_of x.key) i in
      let ys = of_other_shards i xs in
      ap (λ l. log_of_lines l k) (sym (cond_not x k t (x ∷ ys) ys))
      ∙ kept_more x k (not t) ys xs (not_of_false x k t (at_shard i false k x own)) (other_kept xs own)

  other_dropped : (xs : List PlainLine) → nat_eq (shard_of k) i ≡ false → log_of_lines (of_shard i xs) k ≡ []
  other_dropped [] own = refl
  other_dropped (x ∷ xs) own =
      let t = nat_eq (shard_of x.key) i in
      let ys = of_shard i xs in
      ap (λ l. log_of_lines l k) (sym (cond_not x k t ys (x ∷ ys)))
      ∙ dropped_more x k (not t) ys (not_of_false x k t (at_shard i false k x own)) (other_dropped xs own)

  log_by_shard : (xs : List PlainLine) → log_of_lines (of_shard i xs) k ++ log_of_lines (of_other_shards i xs) k ≡ log_of_lines xs k
  log_by_shard xs = elim (cases_Bool (nat_eq (shard_of k) i)) [
    | inl own ↦ ap₂ (λ a b. a ++ b) (own_kept xs own) (own_dropped xs own) ∙ append-nil (log_of_lines xs k)
    | inr own ↦ ap₂ (λ a b. a ++ b) (other_dropped xs own) (other_kept xs own)
  ]

-- the file after a save has the saved entries too
entries_after_save : (n : ℕ) (s : StoreState) → entries_of (after_save n s).file ≡ entries_of s.file ++ of_shard n s.unsaved
entries_after_save n s = entries_append s.file (map journal_entry (of_shard n s.unsaved)) ∙ ap (λ xs. entries_of s.file ++ xs) (entries_of_saved (of_shard n s.unsaved))

entries_after_reserve : (n : ℕ) (s : StoreState) → entries_of (after_reserve n s).file ≡ entries_of s.file
entries_after_reserve n s = entries_append s.file (number_block n ∷ []) ∙ append-nil (entries_of s.file)

-- an entry of the lines is in the log of its key
in_log : (xs : List PlainLine) (x : PlainLine) → IsIn x xs → IsIn x.entry (log_of_lines xs x.key)
in_log [] x h = absurd h
in_log (y ∷ xs) x (inl e) =
    subst (λ z. IsIn x.entry (cond (keys_equal x.key z.key) (z.entry ∷ log_of_lines xs x.key) (log_of_lines xs x.key))) e
    (subst (λ b. IsIn x.entry (cond b (x.entry ∷ log_of_lines xs x.key) (log_of_lines xs x.key))) (sym (keys_equal_refl x.key)) (inl refl))
in_log (y ∷ xs) x (inr h) = in_log_rest (keys_equal x.key y.key) x.entry y.entry (log_of_lines xs x.key) (in_log xs x h)
  where
    in_log_rest : (b : Bool) (e f : PlainEntry) (es : List PlainEntry) → IsIn e es → IsIn e (cond b (f ∷ es) es)
    in_log_rest true e f es h = inr h
    in_log_rest false e f es h = h

-- ---- steps

module _ (s : StoreState) (d : IsDurable s) where
  log_after_entry : (k : PlainKey) (e : PlainEntry) (q : PlainKey)
      → with_log s.logs k (s.logs k ++ e ∷ []) q ≡ logs_of_items s.file q ++ log_of_lines (s.unsaved ++ record { key = k; entry = e } ∷ []) q
  log_after_entry k e q =
      let x : PlainLine = record { key = k; entry = e } in
      let more = log_more s.unsaved x q in
      let file = logs_of_items s.file in
      let old = log_of_lines s.unsaved in
      elim (cases_Bool (keys_equal k q)) [
        | inl t ↦
            (let same : k ≡ q = eq_of_keys_equal k q t in
            let back : keys_equal q k ≡ true = keys_equal_comm q k ∙ t in
            ap (λ b. cond b (s.logs k ++ e ∷ []) (s.logs q)) t
            ∙ ap (λ p. s.logs p ++ e ∷ []) same
            ∙ ap (λ l. l ++ e ∷ []) (d.log q)
            ∙ append_assoc (file q) (old q) (e ∷ [])
            ∙ ap (λ l. file q ++ l) (sym (more ∙ ap (λ b. old q ++ cond b (e ∷ []) []) back)))
        | inr n ↦
            ap (λ b. cond b (s.logs k ++ e ∷ []) (s.logs q)) n
            ∙ d.log q
            ∙ ap (λ l. file q ++ l) (sym (more ∙ ap (λ b. old q ++ cond b (e ∷ []) []) (keys_equal_comm q k ∙ n) ∙ append-nil (old q)))
      ]

  made_after_entry : (k : PlainKey) (e : PlainEntry) (t : PlainSubmission) (now : ℕ) → (decide (s.logs k) t now).log ≡ s.logs k ++ e ∷ []
      → (q : PlainKey) → IsMade (with_log s.logs k (s.logs k ++ e ∷ []) q)
  made_after_entry k e t now stored q =
      made_cond (keys_equal k q) (s.logs k ++ e ∷ []) (s.logs q) (subst IsMade stored (made_of_decide (s.logs k) t now (d.log_is_made k))) (d.log_is_made q)
    where
      made_cond : (b : Bool) (xs ys : List PlainEntry) → IsMade xs → IsMade ys → IsMade (cond b xs ys)
      made_cond true xs ys h g = h
      made_cond false xs ys h g = g

  durable_entry : (k : PlainKey) (e : PlainEntry) (t : PlainSubmission) (now : ℕ) → (decide (s.logs k) t now).log ≡ s.logs k ++ e ∷ []
      → IsDurable (with_entry s (record { key = k; entry = e }))
  durable_entry k e t now stored = record {
    sent_is_saved = d.sent_is_saved;
    log = log_after_entry k e;
    log_is_made = made_after_entry k e t now stored;
  }

  durable_save : (n : ℕ) → IsDurable (after_save n s)
  durable_save n =
      let file = entries_of s.file in
      let first = of_shard n s.unsaved in
      let rest = of_other_shards n s.unsaved in
      record {
        sent_is_saved = λ x h. subst (IsIn x) (sym (entries_after_save n s)) (in_append x file first (d.sent_is_saved x h));
        log = λ k.
            d.log k
            ∙ ap (λ l. log_of_lines file k ++ l) (sym (log_by_shard n k s.unsaved))
            ∙ sym (append_assoc (log_of_lines file k) (log_of_lines first k) (log_of_lines rest k))
            ∙ ap (λ l. l ++ log_of_lines rest k) (sym (log_append file first k))
            ∙ ap (λ xs. log_of_lines xs k ++ log_of_lines rest k) (sym (entries_after_save n s));
        log_is_made = d.log_is_made;
      }

  durable_reserve : (n : ℕ) → IsDurable (after_reserve n s)
  durable_reserve n =
      let same = entries_after_reserve n s in
      record {
        sent_is_saved = λ x h. subst (IsIn x) (sym same) (d.sent_is_saved x h);
        log = λ k. d.log k ∙ ap (λ xs. log_of_lines xs k ++ log_of_lines s.unsaved k) (sym same);
        log_is_made = d.log_is_made;
      }

  durable_send : (x : PlainLine) → IsIn x (entries_of s.file) → IsDurable (after_send x s)
  durable_send x has = record {
    sent_is_saved = λ y h. sent y h;
    log = d.log;
    log_is_made = d.log_is_made;
  }
    where
      sent : (y : PlainLine) → IsIn y (x ∷ s.sent) → IsIn y (entries_of s.file)
      sent y (inl e) = subst (λ z. IsIn z (entries_of s.file)) (sym e) has
      sent y (inr h) = d.sent_is_saved y h

  durable_restart : IsDurable (after_restart s)
  durable_restart = record {
    sent_is_saved = d.sent_is_saved;
    log = λ k. sym (append-nil (logs_of_items s.file k));
    log_is_made = λ k. made_prefix [] (logs_of_items s.file k) (log_of_lines s.unsaved k) (subst IsMade (d.log k) (d.log_is_made k));
  }

durable_step : (step : StoreStep) (old new : StoreState) → IsDurable old → IsStoreStep step old new → IsDurable new
durable_step (submit k t now) old new d (inl h) = subst IsDurable (sym h.2) (durable_entry old d k h.0 t now h.1)
durable_step (submit k t now) old new d (inr h) = subst IsDurable (sym h.1) d
durable_step (save n) old new d h = subst IsDurable (sym h) (durable_save old d n)
durable_step (reserve n) old new d h = subst IsDurable (sym h) (durable_reserve old d n)
durable_step (send x) old new d h = subst IsDurable (sym h.1) (durable_send old d x h.0)
durable_step restart old new d h = subst IsDurable (sym h) (durable_restart old d)

durable_run : (steps : List StoreStep) (old new : StoreState) → IsDurable old → IsStoreRun steps old new → IsDurable new
durable_run [] old new d h = subst IsDurable (sym h) d
durable_run (step ∷ steps) old new d h = durable_run steps h.0 new (durable_step step old h.0 d h.1) h.2

durable_new : IsDurable new_store
durable_new = record { sent_is_saved = λ x h. absurd h; log = λ k. refl; log_is_made = λ k. tt }

pub runs_are_durable : RunsAreDurable
runs_are_durable steps s h = durable_run steps new_store s durable_new h

pub restarts_keep_sent : RestartsKeepSent
restarts_keep_sent steps s x h sent = in_log (entries_of s.file) x ((runs_are_durable steps s h).sent_is_saved x sent)
