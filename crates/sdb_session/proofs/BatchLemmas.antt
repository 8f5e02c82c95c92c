-- One batch of a listing, from the desk's answer.
use Rattle.std.proofs.Common.{◌≡◌, ℕ, ◌+◌, [], ◌∷◌, Some, None, Result, Ok, Err, IfOk, Vec, refl, subst}
use Rattle.std.specs.declared.alloc.AllocError.{AllocError}
use Rattle.std.specs.declared.alloc.Global.{Global}
use Rattle.sdb_oplog.specs.Plain.{PlainEntry}
use Rattle.sdb_oplog.specs.Keys.{PlainKey}
use Rattle.sdb_submit.specs.Calls.{ops_between, copied_entries_view}
use Rattle.sdb_submit.specs.SubmitLoop.{CallRelation, ReadsBatches, TakesBatches}
use Rattle.sdb_session.specs.Listing.{ReadsFrom}
use Rattle.sdb_session.specs.PumpModel.{TakeCall}
use Rattle.sdb_session.specs.View.{taken_entries_view}

module _ {P : Type 0} (acts : PlainKey → CallRelation P) (b : PlainKey) (v end size : ℕ) (p q : P) (r : Result (Vec PlainEntry Global) AllocError) where
  -- entries are read from the log
  pub log_read : (w : ℕ) → w ≡ v + size → acts b (ops_between v w) p (copied_entries_view r) q
      → IfOk r (λ entries. ReadsFrom acts None b v (record { size = size; entries = entries.items } ∷ []) p q)
  unfolding ReadsBatches
  log_read w e h = by_result r h where
    by_result : (r : Result (Vec PlainEntry Global) AllocError) → acts b (ops_between v w) p (copied_entries_view r) q
        → IfOk r (λ entries. ReadsFrom acts None b v (record { size = size; entries = entries.items } ∷ []) p q)
    by_result (Ok es) h = (q, (subst (λ n. acts b (ops_between v n) p (Some es.items) q) e h, refl))
    by_result (Err x) h = tt

  -- entries are taken from a queue
  pub queue_read : (id : ℕ) → TakeCall acts size (record { base = b; id = id }) p (taken_entries_view r) q
      → IfOk r (λ entries. ReadsFrom acts (Some id) b v (record { size = size; entries = entries.items } ∷ []) p q)
  unfolding TakesBatches
  queue_read id h = by_result r h where
    by_result : (r : Result (Vec PlainEntry Global) AllocError) → TakeCall acts size (record { base = b; id = id }) p (taken_entries_view r) q
        → IfOk r (λ entries. ReadsFrom acts (Some id) b v (record { size = size; entries = entries.items } ∷ []) p q)
    by_result (Ok es) (a, (h, is)) = (a, (q, (h, is, refl)))
    by_result (Err x) h = tt
