-- The logs of shards of which one is replaced.
use Rattle.std.proofs.Common.{◌≡◌, ◌≢◌, ℕ, ◌<◌, ◌⊎◌, inl, inr, Bool, true, false, cond, List, [], ◌++◌, length, slice_index_or, slice_set, slice_get, option_map, Option, Some, None, refl, sym, ap, subst, ◌∙◌, append-nil}
use Rattle.std.specs.Prelude.{unwrap_or, nat_eq}
use Rattle.std.proofs.lemmas.Bool.Decides.{eqb_tells}
use Rattle.sdb_oplog.specs.Decide.{PlainReply, decide, decide_allocates}
use Rattle.sdb_oplog.specs.Keys.{PlainKey, keys_equal, shard_of, with_log}
use Rattle.sdb_oplog.specs.Plain.{PlainEntry, PlainSubmission}
use Rattle.sdb_desk.specs.Machine.{DecidesOrOutOfMemory}
use Rattle.sdb_desk.specs.ShardState.{empty_state}
use Rattle.sdb_desk.specs.ShardView.{state_of, logs_of, machine_of}
use Rattle.sdb_desk.specs.laws.KeyLaws.{eq_of_keys_equal}
use Rattle.sdb_backend.specs.AuditModel.{logs_of_shards}
use Rattle.sdb_backend.specs.HistoryOrder.{IsExtension, share_of}
use Rattle.sdb_backend.specs.declared.shard_value.Held.{Held}
use Rattle.sdb_backend.proofs.ReplacedItem.{replaced_item, item_here, item_elsewhere}

some_injective : {A : Type 0} (x y : A) → Some x ≡ Some y → x ≡ y
some_injective x y e = cc

-- the log of a key in its shard
pub log_of_item : (shards : List Held) (i : ℕ) (h : Held) → slice_get shards i ≡ Some h → (q : PlainKey) → shard_of q ≡ i → logs_of_shards shards q ≡ logs_of h.shard q
log_of_item shards i h is q at = ap (λ (o : Option Held). unwrap_or (option_map (λ h. logs_of h.shard q) o) []) (ap (slice_get shards) at ∙ is)

empty_log_at : (o : Option Held) (k : PlainKey) → ((h : Held) → o ≡ Some h → state_of h.shard ≡ empty_state) → unwrap_or (option_map (λ h. logs_of h.shard k) o) [] ≡ []
empty_log_at None k h = refl
empty_log_at (Some x) k h = ap (λ s. s.logs k) (h x refl)

-- shards without entries
pub logs_of_empty : (shards : List Held) → ((i : ℕ) (h : Held) → slice_get shards i ≡ Some h → state_of h.shard ≡ empty_state) → (k : PlainKey) → logs_of_shards shards k ≡ []
logs_of_empty shards h k = empty_log_at (slice_get shards (shard_of k)) k (h (shard_of k))

module _ (shards : List Held) (k : PlainKey) (o t : Held) (lt : shard_of k < length shards) (is : o ≡ slice_index_or shards (shard_of k) o) where
  abbrev after : List Held
  after = slice_set shards (shard_of k) t

  log_before : (q : PlainKey) → shard_of q ≡ shard_of k → logs_of_shards shards q ≡ logs_of o.shard q
  log_before q at = log_of_item shards (shard_of k) o (replaced_item shards (shard_of k) o t lt is) q at

  log_here : (q : PlainKey) → shard_of q ≡ shard_of k → logs_of_shards after q ≡ logs_of t.shard q
  log_here q at = log_of_item after (shard_of k) t (item_here shards (shard_of k) o t lt is) q at

  log_elsewhere : (q : PlainKey) → shard_of q ≢ shard_of k → logs_of_shards after q ≡ logs_of_shards shards q
  log_elsewhere q ne = ap (λ (o : Option Held). unwrap_or (option_map (λ h. logs_of h.shard q) o) []) (item_elsewhere shards (shard_of k) o t lt is (shard_of q) ne)

  unchanged_at : logs_of t.shard ≡ logs_of o.shard → (q : PlainKey) → ((nat_eq (shard_of q) (shard_of k) ≡ true) × (shard_of q ≡ shard_of k)) ⊎ ((nat_eq (shard_of q) (shard_of k) ≡ false) × (shard_of q ≢ shard_of k))
      → logs_of_shards after q ≡ logs_of_shards shards q
  unchanged_at e q (inl at) = log_here q at.1 ∙ ap (λ f. f q) e ∙ sym (log_before q at.1)
  unchanged_at e q (inr at) = log_elsewhere q at.1

  pub logs_unchanged : logs_of t.shard ≡ logs_of o.shard → logs_of_shards after ≡ logs_of_shards shards
  logs_unchanged e = λ i q. unchanged_at e q (eqb_tells (shard_of q) (shard_of k)) i

  not_written : (b : Bool) (q : PlainKey) (l : List PlainEntry) → keys_equal k q ≡ b → shard_of q ≢ shard_of k → logs_of_shards shards q ≡ cond b l (logs_of_shards shards q)
  not_written true q l e ne = absurd (ne (ap shard_of (sym (eq_of_keys_equal k q e))))
  not_written false q l e ne = refl

  written_at : (l : List PlainEntry) → logs_of t.shard ≡ with_log (logs_of o.shard) k l → (q : PlainKey)
      → ((nat_eq (shard_of q) (shard_of k) ≡ true) × (shard_of q ≡ shard_of k)) ⊎ ((nat_eq (shard_of q) (shard_of k) ≡ false) × (shard_of q ≢ shard_of k))
      → logs_of_shards after q ≡ with_log (logs_of_shards shards) k l q
  written_at l e q (inl at) = log_here q at.1 ∙ ap (λ f. f q) e ∙ ap (cond (keys_equal k q) l) (sym (log_before q at.1))
  written_at l e q (inr at) = log_elsewhere q at.1 ∙ not_written (keys_equal k q) q l refl at.1

  pub log_written : (l : List PlainEntry) → logs_of t.shard ≡ with_log (logs_of o.shard) k l → logs_of_shards after ≡ with_log (logs_of_shards shards) k l
  log_written l e = λ i q. written_at l e q (eqb_tells (shard_of q) (shard_of k)) i

  extended_at : ((q : PlainKey) → IsExtension (logs_of t.shard q) (logs_of o.shard q)) → (q : PlainKey)
      → ((nat_eq (shard_of q) (shard_of k) ≡ true) × (shard_of q ≡ shard_of k)) ⊎ ((nat_eq (shard_of q) (shard_of k) ≡ false) × (shard_of q ≢ shard_of k))
      → IsExtension (logs_of_shards after q) (logs_of_shards shards q)
  extended_at h q (inl at) = let x = h q in (x.0, log_here q at.1 ∙ x.1 ∙ ap (λ l. l ++ x.0) (sym (log_before q at.1)))
  extended_at h q (inr at) = ([], log_elsewhere q at.1 ∙ sym (append-nil (logs_of_shards shards q)))

  pub logs_extended : ((q : PlainKey) → IsExtension (logs_of t.shard q) (logs_of o.shard q)) → (q : PlainKey) → IsExtension (logs_of_shards after q) (logs_of_shards shards q)
  logs_extended h q = extended_at h q (eqb_tells (shard_of q) (shard_of k))

  -- ---- a submission that is decided in the shard

  pub logs_decided : (s : PlainSubmission) (now : ℕ) (r : PlainReply) → DecidesOrOutOfMemory (logs_of o.shard) k s now r (logs_of t.shard)
      → DecidesOrOutOfMemory (logs_of_shards shards) k s now r (logs_of_shards after)
  logs_decided s now r (inl h) = inl (h.0, logs_unchanged h.1, subst (λ (l : List PlainEntry). decide_allocates l s ≡ true) (sym (log_before k refl)) h.2)
  logs_decided s now r (inr h) = inr (
    h.0 ∙ ap (λ (l : List PlainEntry). (decide l s now).reply) (sym (log_before k refl)),
    log_written (decide (logs_of o.shard k) s now).log h.1 ∙ ap (λ (l : List PlainEntry). with_log (logs_of_shards shards) k (decide l s now).log) (sym (log_before k refl)),
  )

  same_share_at : (n : ℕ) → share_of n (machine_of o.shard) ≡ share_of n (machine_of t.shard) → (i : ℕ) (h : Held) → slice_get after i ≡ Some h
      → ((nat_eq i (shard_of k) ≡ true) × (i ≡ shard_of k)) ⊎ ((nat_eq i (shard_of k) ≡ false) × (i ≢ shard_of k))
      → (g : Held) × (slice_get shards i ≡ Some g) × (share_of n (machine_of g.shard) ≡ share_of n (machine_of h.shard))
  same_share_at n same i h got (inl at) =
      let here : slice_get after i ≡ Some t = ap (slice_get after) at.1 ∙ item_here shards (shard_of k) o t lt is in
      let e : t ≡ h = some_injective t h (sym here ∙ got) in
      (o, ap (slice_get shards) at.1 ∙ replaced_item shards (shard_of k) o t lt is, same ∙ ap (λ (x : Held). share_of n (machine_of x.shard)) e)
  same_share_at n same i h got (inr at) = (h, sym (item_elsewhere shards (shard_of k) o t lt is i at.1) ∙ got, refl)

  -- the share of each shard is unchanged if it is in the replaced one
  pub same_share : (n : ℕ) → share_of n (machine_of o.shard) ≡ share_of n (machine_of t.shard) → (i : ℕ) (h : Held) → slice_get after i ≡ Some h
      → (g : Held) × (slice_get shards i ≡ Some g) × (share_of n (machine_of g.shard) ≡ share_of n (machine_of h.shard))
  same_share n same i h got = same_share_at n same i h got (eqb_tells i (shard_of k))
