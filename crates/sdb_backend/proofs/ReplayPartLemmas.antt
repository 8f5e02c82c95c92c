-- Replays in parts: what a pass knows after each part, and the answer after the last one.
use Rattle.std.proofs.Common.{◌≡◌, ◌⊎◌, inl, inr, Bool, true, false, nat_eq, Err, Ok, ℕ, ◌+◌, ◌-◌, ◌<◌, ◌≤◌, min, List, length, Option, Some, refl, sym, ap, subst, arith, length-append}
use Rattle.std.proofs.lemmas.Bool.{eqb-true}
use Rattle.std.proofs.lemmas.Bool.Decides.{nat_tests}
use Rattle.sdb_value.specs.Value.{Value}
use Rattle.sdb_oplog.specs.Decide.{IsMade}
use Rattle.sdb_oplog.specs.Keys.{Logs, PlainKey, shard_of}
use Rattle.sdb_oplog.specs.Plain.{PlainEntry}
use Rattle.sdb_oplog.specs.Moments.{version_at}
use Rattle.sdb_oplog.specs.Snap.{snap_from}
use Rattle.sdb_oplog.specs.declared.codes.Code.TheVariants.{E10}
use Rattle.sdb_desk.specs.Machine.{IsUnchanged}
use Rattle.sdb_desk.specs.Reads.{PlainReplayBase, IsReplayBase}
use Rattle.sdb_desk.specs.ShardView.{machine_of, logs_of}
use Rattle.sdb_desk.proofs.ReplayLemmas.{base_from_document}
use Rattle.sdb_submit.specs.Calls.{forget, snapshot, snapshot_at_time}
use Rattle.sdb_striped_lock.specs.laws.SeatLaws.{have_seen_unique}
use Rattle.sdb_backend.specs.CallAnswers.{RunsAtExtension, AnsweredAtExtension}
use Rattle.sdb_backend.specs.HistoryOrder.{IsExtension}
use Rattle.sdb_backend.specs.HistoryOrderLaws.{is_extension_refl, is_extension_trans}
use Rattle.sdb_backend.specs.PassModel.{pass_number, PassHasSeen}
use Rattle.sdb_backend.specs.ReplayBases.{IsDocumentAt}
use Rattle.sdb_backend.specs.ReplaysInParts.{RunsUnchanged, HasOnlyRead, IsMadeLogSeenBy, CopiedAtExtension, IsReplayBaseSeenBy, IsDocumentSeenBy, IsSnapshotSeenBy}
use Rattle.sdb_backend.specs.declared.shard_value.Held.{Held}
use Rattle.sdb_backend.specs.declared.pass.Pass.{Pass}
use Rattle.sdb_backend.proofs.ReplayLemmas.{borrowed_at, at_later, read_at, read_then, then_later, out_of_memory_read, out_of_memory_replayed}
use Rattle.sdb_backend.proofs.StepLemmas.{run_at_same_history, answered_after_unchanged}

module _ (k : PlainKey) where
  -- ---- runs that change nothing

  -- no run at all
  pub only_read_refl : (p : Pass) → HasOnlyRead k p p
  only_read_refl p = record {
    unchanged = λ q h. h;
    extends = λ x y saw see.
        let one : x ≡ y = have_seen_unique p.seats (shard_of k) x y saw see in
        subst (λ (z : Held). IsExtension (logs_of z.shard k) (logs_of x.shard k)) one (is_extension_refl (logs_of x.shard k));
    made = inl refl;
  }

  -- the log that the pass has observed after a run that changed nothing
  pub log_after_run : {runs : Held → Held → Type 0} (p q : Pass) (d : RunsAtExtension k runs p q) (P : List PlainEntry → Type 0)
      → IsUnchanged (machine_of d.history.shard) (machine_of d.next.shard) → (y : Held) → PassHasSeen q k y → P (logs_of d.history.shard k) → P (logs_of y.shard k)
  log_after_run p q d P same y see at =
      let one : d.next ≡ y = have_seen_unique q.seats (shard_of k) d.next y d.seen_after see in
      subst (λ (z : Held). P (logs_of z.shard k)) one (subst (λ (f : Logs). P (f k)) (sym same.0) at)

  -- one more run, at a made log
  pub only_read_run : {runs : Held → Held → Type 0} (p o q : Pass) (d : RunsAtExtension k runs o q)
      → IsUnchanged (machine_of d.history.shard) (machine_of d.next.shard) → IsMade (logs_of d.history.shard k) → HasOnlyRead k p o → HasOnlyRead k p q
  only_read_run p o q d same made before = record {
    unchanged = λ r h.
        let first : RunsUnchanged k r o = before.unchanged r h in
        answered_after_unchanged k forget forget tt tt r o q first first.ran (run_at_same_history d same);
    extends = λ x y saw see.
        let seen = before.extends x d.observed saw d.seen_before in
        let longer = is_extension_trans (logs_of x.shard k) (logs_of d.observed.shard k) (logs_of d.history.shard k) (d.extends.logs k) seen in
        log_after_run o q d (λ l. IsExtension l (logs_of x.shard k)) same y see longer;
    made = inr (λ y see. log_after_run o q d IsMade same y see made);
  }

  -- the version is still in the log
  pub within_later : (log new : List PlainEntry) (v : ℕ) → IsExtension new log → v ≤ length log → v ≤ length new
  within_later log new v ext le =
      let n = ap length ext.1 in
      let m = length-append log ext.0 in
      omega (arith, le, n, m)

  -- ---- parts

  -- the pass has observed a log that has version v, and this document at an earlier version
  abbrev pub IsPartSeenBy : Pass → ℕ → ℕ → Option Value → Type 0
  IsPartSeenBy p v at d = (x : Held) × PassHasSeen p k x × (v ≤ length (logs_of x.shard k)) × IsDocumentAt (logs_of x.shard k) at d

  -- the version that a replay base reaches
  pub reached_is : (w max v : ℕ) → w ≤ v → min (w + max) v ≡ w + min (v - w) max
  reached_is w max v le = grind (arith, le)

  pub part_before : (w v max n : ℕ) → n ≡ min (v - w) max → w ≤ v → w + n ≤ v
  part_before w v max n e le = grind (arith, e, le)

  -- the next part ends up to the version
  pub next_reaches : (at v max n : ℕ) → n ≡ min (v - at) max → at ≤ v → (at ≤ at + n) × (at + n ≤ v)
  next_reaches at v max n e le = (omega arith, part_before at v max n e le)

  -- the first part is the replay base
  pub part_of_base : (p : Pass) (v max : ℕ) (l : PlainReplayBase) (d : Option Value) → IsReplayBaseSeenBy p k v max l → snap_from l.snapshot l.entries ≡ Some d
      → IsPartSeenBy p v (l.version + min (v - l.version) max) d
  part_of_base p v max l d h is =
      let x = h.0 in
      let log = logs_of x.shard k in
      let at : IsDocumentAt log (min (l.version + max) v) d = borrowed_at log (min (l.version + max) v) l d h.2.base is in
      (x, h.1, h.2.within, subst (λ n. IsDocumentAt log n d) (reached_is l.version max v h.2.before) at)

  -- the entries of the next part with the document are a replay base at its history
  pub next_base : (p q : Pass) (v at to : ℕ) (d : Option Value) (es : List PlainEntry) (c : CopiedAtExtension k at to p (Some es) q) → IsPartSeenBy p v at d → at ≤ to → to ≤ v
      → IsReplayBase (logs_of c.history.shard k) to (record { version = at; snapshot = d; entries = es })
  next_base p q v at to d es c h le within =
      let x = h.0 in
      let log = logs_of x.shard k in
      let one : c.observed ≡ x = have_seen_unique p.seats (shard_of k) c.observed x c.seen_before h.1 in
      let ext : IsExtension (logs_of c.history.shard k) log = subst (λ (z : Held). IsExtension (logs_of c.history.shard k) (logs_of z.shard k)) one (c.extends.logs k) in
      let there = at_later log (logs_of c.history.shard k) at d ext h.3 in
      let has = within_later log (logs_of c.history.shard k) v ext h.2 in
      base_from_document (logs_of c.history.shard k) to at d es c.ran.1 (omega (arith, has, within)) le there.1 c.ran.0.0

  -- the next part
  pub part_of_next : (p q : Pass) (v at to : ℕ) (d e : Option Value) (es : List PlainEntry) (c : CopiedAtExtension k at to p (Some es) q) → IsPartSeenBy p v at d → at ≤ to → to ≤ v
      → snap_from d es ≡ Some e → IsPartSeenBy q v to e
  part_of_next p q v at to d e es c h le within is =
      let x = h.0 in
      let log = logs_of x.shard k in
      let one : c.observed ≡ x = have_seen_unique p.seats (shard_of k) c.observed x c.seen_before h.1 in
      let ext : IsExtension (logs_of c.history.shard k) log = subst (λ (z : Held). IsExtension (logs_of c.history.shard k) (logs_of z.shard k)) one (c.extends.logs k) in
      let base = next_base p q v at to d es c h le within in
      let doc = borrowed_at (logs_of c.history.shard k) to (record { version = at; snapshot = d; entries = es }) e base is in
      let has = within_later log (logs_of c.history.shard k) v ext h.2 in (
        c.next,
        c.seen_after,
        log_after_run p q c (λ l. v ≤ length l) c.ran.0.1 c.next c.seen_after has,
        log_after_run p q c (λ l. IsDocumentAt l to e) c.ran.0.1 c.next c.seen_after doc,
      )

  -- ---- the answer

  -- the log at the history of a run that changed nothing, by what the pass has observed after it
  pub log_at_history : (p q : Pass) (d : RunsUnchanged k p q) (P : List PlainEntry → Type 0) → (y : Held) → PassHasSeen q k y → P (logs_of y.shard k) → P (logs_of d.history.shard k)
  log_at_history p q d P y see at =
      let one : y ≡ d.next = have_seen_unique q.seats (shard_of k) y d.next see d.seen_after in
      subst (λ (f : Logs). P (f k)) d.ran.0 (subst (λ (z : Held). P (logs_of z.shard k)) one at)

  -- the log that the pass has observed first is a prefix of it
  pub extends_observed : (p o q : Pass) (d : RunsUnchanged k p q) → HasOnlyRead k o q → (x : Held) → PassHasSeen o k x → IsExtension (logs_of d.history.shard k) (logs_of x.shard k)
  extends_observed p o q d read x saw =
      log_at_history p q d (λ l. IsExtension l (logs_of x.shard k)) d.next d.seen_after (read.extends x d.next saw d.seen_after)

  -- ---- a read at a version

  -- the document that a replay has reached
  pub read_answered : (p o q : Pass) (d : RunsUnchanged k p o) (v : ℕ) (s : Option Value) → HasOnlyRead k o q → IsDocumentSeenBy q k v s
      → AnsweredAtExtension k (snapshot (Some v)) p (Ok (record { version = v; snapshot = s })) q
  read_answered p o q d v s read doc =
      let e = read.unchanged p d in
      let at = log_at_history p q e (λ l. IsDocumentAt l v s) doc.0 doc.1 doc.2 in
      run_at_same_history e (read_at (pass_number p) (machine_of e.history.shard) (machine_of e.next.shard) k v s at e.ran)

  above_base : (w v : ℕ) → w ≤ v → (w ≡ v → ⊥) → 0 < v
  above_base w v le other = by_case (nat_eq w v) refl where
    by_case : (b : Bool) → nat_eq w v ≡ b → 0 < v
    by_case true e = absurd (other (eqb-true w v e))
    by_case false e = grind (arith, nat_tests)

  -- an allocation failure of a replay
  pub read_failed : (p o q : Pass) (d : RunsUnchanged k p o) (v max : ℕ) (l : PlainReplayBase) → IsReplayBaseSeenBy o k v max l → (l.version ≡ v → ⊥) → HasOnlyRead k o q
      → AnsweredAtExtension k (snapshot (Some v)) p (Err E10) q
  read_failed p o q d v max l base other read =
      let e = read.unchanged p d in
      let ext = extends_observed p o q e read base.0 base.1 in
      let within = within_later (logs_of base.0.shard k) (logs_of e.history.shard k) v ext base.2.within in
      run_at_same_history e
      (out_of_memory_read (pass_number p) (machine_of e.history.shard) (machine_of e.next.shard) k v within (above_base l.version v base.2.before other) e.ran)

  -- ---- a read at a moment

  -- a base that isn't at its version has an earlier version than the current one
  pub below_current : (v n w : ℕ) → v ≤ n → (v ≡ n → w ≡ v) → (w ≡ v → ⊥) → v < n
  below_current v n w le current other = by_case (nat_eq v n) refl where
    by_case : (b : Bool) → nat_eq v n ≡ b → v < n
    by_case true e = absurd (other (current (eqb-true v n e)))
    by_case false e = grind (arith, nat_tests)

  module _ (p o q : Pass) (d : RunsUnchanged k p o) (v t : ℕ) (x : Held) (saw : PassHasSeen o k x) (is : v ≡ version_at (logs_of x.shard k) t) (below : v < length (logs_of x.shard k))
      (read : HasOnlyRead k o q) where
    -- the version at the moment is the same at the later history
    still_at : (e : RunsUnchanged k p q) → IsMadeLogSeenBy q k → v ≡ version_at (logs_of e.history.shard k) t
    still_at e made =
        let ext = extends_observed p o q e read x saw in
        then_later (logs_of x.shard k) (logs_of e.history.shard k) v t ext (log_at_history p q e IsMade e.next e.seen_after (made e.next e.seen_after)) is below

    pub moment_answered : (s : Option Value) → IsSnapshotSeenBy q k v s → AnsweredAtExtension k (snapshot_at_time (Some t)) p (Ok (record { version = v; snapshot = s })) q
    moment_answered s snap =
        let e = read.unchanged p d in
        let at = log_at_history p q e (λ l. IsDocumentAt l v s) snap.0.0 snap.0.1 snap.0.2 in
        run_at_same_history e (read_then (pass_number p) (machine_of e.history.shard) (machine_of e.next.shard) k v t s (still_at e snap.1) at e.ran)

    pub moment_failed : (w : ℕ) → w ≤ v → (w ≡ v → ⊥) → AnsweredAtExtension k (snapshot_at_time (Some t)) p (Err E10) q
    moment_failed w le other = by_case read.made where
      by_case : (q ≡ o) ⊎ IsMadeLogSeenBy q k → AnsweredAtExtension k (snapshot_at_time (Some t)) p (Err E10) q
      by_case (inl same) =
          let here = log_at_history p o d (λ l. v ≡ version_at l t) x saw is in
          let within = log_at_history p o d (λ l. v ≤ length l) x saw (omega (arith, below)) in
          subst (λ (r : Pass). AnsweredAtExtension k (snapshot_at_time (Some t)) p (Err E10) r) (sym same)
          (run_at_same_history d (out_of_memory_replayed (pass_number p) (machine_of d.history.shard) (machine_of d.next.shard) k v t here within (above_base w v le other) d.ran))
      by_case (inr made) =
          let e = read.unchanged p d in
          let ext = extends_observed p o q e read x saw in
          let within = within_later (logs_of x.shard k) (logs_of e.history.shard k) v ext (omega (arith, below)) in
          run_at_same_history e
          (out_of_memory_replayed (pass_number p) (machine_of e.history.shard) (machine_of e.next.shard) k v t (still_at e made) within (above_base w v le other) e.ran)
