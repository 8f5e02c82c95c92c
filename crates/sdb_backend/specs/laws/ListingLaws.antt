-- Laws of listings: the entries are those of one history, however many calls the listing makes.
use Rattle.std.proofs.Common.{◌≡◌, ℕ, ◌+◌, ◌-◌, ◌≤◌, List, [], ◌∷◌, ◌++◌, length, take, drop, true, false, None, Some, Result, Ok, Err, inl, inr, refl, sym, ap, ◌∙◌, subst, arith}
use Rattle.std.proofs.lemmas.List.{drop-take, length-drop, take-append-le, take_rest}
use Rattle.std.proofs.Math.Seq.{take-add}
use Rattle.std.specs.Option.{option_map_or}
use Rattle.std.specs.Result.{result_ok}
use Rattle.sdb_oplog.specs.Plain.{PlainEntry}
use Rattle.sdb_oplog.specs.Keys.{PlainKey, shard_of}
use Rattle.sdb_oplog.specs.declared.codes.Code.{Code}
use Rattle.sdb_desk.specs.Machine.{Machine, IsUnchanged, ReadOrOutOfMemory, is_nonempty, operations_between, operations_from}
use Rattle.sdb_desk.specs.ShardView.{machine_of}
use Rattle.sdb_submit.specs.Calls.{PlainCall, CallAnswer, current_version, ops_between}
use Rattle.sdb_submit.specs.SubmitLoop.{PlainBatch, total_size, entries_of, ReadsBatches, ListsAll}
use Rattle.sdb_submit.specs.laws.SubmitLaws.{drop_drop, length_of_not_empty, between_not_empty, operations_reached, operations_too_new}
use Rattle.sdb_striped_lock.specs.laws.SeatLaws.{have_seen_unique}
use Rattle.sdb_backend.specs.CallAnswers.{AnsweredAtExtension, PassCalls, ListedAtExtension}
use Rattle.sdb_backend.specs.HistoryOrder.{IsExtension, Extends, share_of}
use Rattle.sdb_backend.specs.HistoryOrderLaws.{extends_refl, extends_trans}
use Rattle.sdb_backend.specs.PassModel.{pass_number, PassHasSeen}
use Rattle.sdb_backend.specs.declared.shard_value.Held.{Held}
use Rattle.sdb_backend.specs.declared.pass.Pass.{Pass}

-- entries before a version are unchanged in an extension
between_of_extension : (log new : List PlainEntry) (v w : ℕ) → w ≤ length log → IsExtension new log → operations_between new v w ≡ operations_between log v w
between_of_extension log new v w within h = ap (λ l. operations_between l v w) h.1 ∙ ap (drop v) (take-append-le w log h.0 within)

machine_of_unchanged : (m new : Machine) → IsUnchanged m new → new ≡ m
machine_of_unchanged m new h = λ i. record { logs = h.0 i; queues = h.1 i }

module _ (k : PlainKey) where
  -- the pass has observed an extension of this history with the same share of number n
  abbrev HasSeenExtension : ℕ → Machine → Pass → Type 0
  HasSeenExtension n m p =
      (w : Held) × PassHasSeen p k w × Extends (machine_of w.shard) m × (share_of n m ≡ share_of n (machine_of w.shard))
      × (pass_number p ≡ n)

  -- one more call without a change is answered at an extension of the history
  has_seen_extension_step : (n : ℕ) (m : Machine) (c : PlainCall) (a : CallAnswer c) (p o : Pass) → HasSeenExtension n m p
      → (d : AnsweredAtExtension k c p a o) → IsUnchanged (machine_of d.history.shard) (machine_of d.next.shard)
      → Extends (machine_of d.history.shard) m × HasSeenExtension n m o
  has_seen_extension_step n m c a p o h d same =
      let w = machine_of h.0.shard in
      let at = machine_of d.history.shard in
      let left = machine_of d.next.shard in
      let one : d.observed ≡ h.0 = have_seen_unique p.seats (shard_of k) d.observed h.0 d.seen_before h.1 in
      let ext : Extends at w = subst (λ (y : Held). Extends at (machine_of y.shard)) one d.extends in
      let kept : share_of n w ≡ share_of n at =
      subst (λ (i : ℕ). share_of i w ≡ share_of i at) h.4
      (subst (λ (y : Held). share_of (pass_number p) (machine_of y.shard) ≡ share_of (pass_number p) at) one d.share_unchanged) in
      let is : left ≡ at = machine_of_unchanged at left same in
      let further : Extends at m = extends_trans m w at ext h.2 in (
        further,
        (
          d.next,
          d.seen_after,
          subst (λ (y : Machine). Extends y m) (sym is) further,
          h.3 ∙ kept ∙ ap (share_of n) (sym is),
          d.number_unchanged ∙ h.4,
        ),
      )

  -- batches that are read are entries of that history, as far as it reaches
  batches_are_prefix : (n : ℕ) (m : Machine) (v : ℕ) (xs : List PlainBatch) (p q : Pass) → HasSeenExtension n m p
      → v + total_size xs ≤ length (m.logs k) → ReadsBatches (PassCalls k) v xs p q
      → (entries_of xs ≡ take (total_size xs) (drop v (m.logs k))) × HasSeenExtension n m q
  unfolding ReadsBatches
  batches_are_prefix n m v [] p q h within e = (take_none (drop v (m.logs k)), subst (HasSeenExtension n m) (sym e) h) where
    take_none : (l : List PlainEntry) → [] ≡ take 0 l
    take_none [] = refl
    take_none (e ∷ l) = refl
  batches_are_prefix n m v (x ∷ xs) p q h within (o, (d, more)) =
      let log = m.logs k in
      let at = machine_of d.history.shard in
      let next = has_seen_extension_step n m (ops_between v (v + x.size)) (Some x.entries) p o h d d.ran.1 in
      let below = batches_are_prefix n m (v + x.size) xs o q next.1 (omega (arith, within)) more in
      let here : x.entries ≡ take x.size (drop v log) =
      d.ran.0 ∙ between_of_extension log (at.logs k) v (v + x.size) (omega (arith, within)) (next.0.logs k)
      ∙ drop-take v x.size log in
      let there : entries_of xs ≡ take (total_size xs) (drop x.size (drop v log)) =
      below.0 ∙ ap (take (total_size xs)) (drop_drop v x.size log) in
      ((λ i. here i ++ there i) ∙ sym (take-add x.size (total_size xs) (drop v log)), below.1)

  -- the history at which the current version was read
  start_of_listing : (p o : Pass) (n : ℕ) → (d : AnsweredAtExtension k current_version p n o) → HasSeenExtension (pass_number p) (machine_of d.history.shard) o
  start_of_listing p o n d =
      let at = machine_of d.history.shard in
      let left = machine_of d.next.shard in
      let is : left ≡ at = machine_of_unchanged at left d.ran.1 in (
        d.next,
        d.seen_after,
        subst (λ (y : Machine). Extends y at) (sym is) (extends_refl at),
        ap (share_of (pass_number p)) (sym is),
        d.number_unchanged,
      )

  end_of_listing : (v : ℕ) (p o q : Pass) (last : ℕ) (r : Result (List PlainEntry) Code) (d : AnsweredAtExtension k current_version p last o)
      → ReadOrOutOfMemory is_nonempty r (operations_from ((machine_of d.history.shard).logs k) v)
      → HasSeenExtension (pass_number p) (machine_of d.history.shard) q → ListedAtExtension k v p r q
  end_of_listing v p o q last r d reads h =
      record {
        observed = d.observed;
        history = d.history;
        next = h.0;
        seen_before = d.seen_before;
        extends = d.extends;
        share_unchanged = d.share_unchanged;
        listed = reads;
        seen_after = h.1;
        extends_after = h.2;
        share_unchanged_after = h.3;
      }

  -- a listing consists of entries of one history
  pub listed_at_one_history : (v : ℕ) (p q : Pass) (r : Result (List PlainEntry) Code) → ListsAll (PassCalls k) v p r q
      → ListedAtExtension k v p r q
  listed_at_one_history v p q (Ok es) (xs, (o, (d, reads, all))) =
      let m = machine_of d.history.shard in
      let log = m.logs k in
      let last : v + total_size xs ≡ length log = d.ran.0 in
      let below = batches_are_prefix (pass_number p) m v xs o q (start_of_listing p o (v + total_size xs) d) (omega (arith, last)) reads in
      let rest : total_size xs ≡ length log - v = omega (arith, last) in
      let entries : es ≡ drop v log =
      all ∙ below.0 ∙ ap (λ n. take n (drop v log)) rest ∙ take_rest log v in
      end_of_listing v p o q (v + total_size xs) (Ok es) d
      (inr (ap Ok entries ∙ sym (operations_reached log v (omega (arith, last))))) below.1
  listed_at_one_history v p q (Err code) (inl (last, (d, ahead, due))) =
      let log = (machine_of d.history.shard).logs k in
      let is : last ≡ length log = d.ran.0 in
      end_of_listing v p q q last (Err code) d
      (inr (ap Err due ∙ sym (operations_too_new log v (omega (arith, is, ahead))))) (start_of_listing p q last d)
  listed_at_one_history v p q (Err code) (inr (last, (n, (o, (d, e, within, due))))) =
      let m = machine_of d.history.shard in
      let log = m.logs k in
      let at = machine_of e.history.shard in
      let is : last ≡ length log = d.ran.0 in
      let next = has_seen_extension_step (pass_number p) m (ops_between v n) None o q (start_of_listing p o last d) e e.ran.1 in
      let same = between_of_extension log (at.logs k) v n (omega (arith, is, within)) (next.0.logs k) in
      let some : is_nonempty (drop v log) ≡ true = between_not_empty log v n (ap is_nonempty (sym same) ∙ e.ran.0) in
      let long = length_of_not_empty (drop v log) some in
      let all = length-drop v log in
      let reached = operations_reached log v (omega (arith, long, all)) in
      end_of_listing v p o q last (Err code) d
      (inl (ap Err due, ap (λ r. option_map_or is_nonempty (result_ok r) false) reached ∙ some)) next.1
