-- A take from a queue.
use Rattle.std.proofs.Common.{◌≡◌, ℕ, ◌<◌, List, [], length, Option, Some, None, option_map, unwrap_or, Result, Ok, Err, OnOk, OnErr, nat_eq, refl, sym, ap, ◌∙◌, subst}
use Rattle.std.specs.Ordering.{nat_cmp}
use Rattle.std.specs.Option.{option_map_or}
use Rattle.std.specs.BTreeMap.{is_at}
use Rattle.std.specs.Map.{lookup, set_value}
use Rattle.std.proofs.lemmas.Map.Steps.{set_value_same}
use Rattle.sdb_oplog.specs.Plain.{PlainEntry}
use Rattle.sdb_subscribe.specs.Queue.{PlainQueue, queue_at, replace_queue, pending_entries, advance, take_result, queues_after_take}
use Rattle.sdb_subscribe.specs.Ring.{RingedQueue, queues_without_rings, IsRingOfLog, AreRingsOfLog, advance_ringed_queue, ringed_queues_after_take}
use Rattle.sdb_subscribe.proofs.QueueMapLemmas.{QueueEntry, lookup_by_cmp, set_by_cmp, at_bare, set_bare}
use Rattle.sdb_subscribe.proofs.RingLemmas.{fit_at, fit_set, fits_moved}

pub on_ok : {A E P Q : Type 0} (r : Result A E) → (P → Q) → OnOk r P → OnOk r Q
on_ok (Ok x) f p = f p
on_ok (Err e) f p = tt

module _ (log : List PlainEntry) (n max : ℕ) (es : List QueueEntry) where
  -- the queue that was found, without its ring buffer
  queue_found : (o : Option RingedQueue) → o ≡ lookup (is_at (nat_cmp n)) es → option_map (λ q. q.queue) o ≡ queue_at n (queues_without_rings es)
  queue_found o h = ap (option_map (λ q. q.queue)) (h ∙ lookup_by_cmp n es) ∙ sym (at_bare n es)

  pub entries_taken : (q : RingedQueue) (vs : List PlainEntry) → Some q ≡ lookup (is_at (nat_cmp n)) es → vs ≡ pending_entries log max q.queue → Some vs ≡ take_result log n max (queues_without_rings es)
  entries_taken q vs h e = ap Some e ∙ ap (option_map (pending_entries log max)) (queue_found (Some q) h)

  pub queues_taken : (q new : RingedQueue) (ns : List QueueEntry) → Some q ≡ lookup (is_at (nat_cmp n)) es → ns ≡ set_value (is_at (nat_cmp n)) es new → new ≡ advance_ringed_queue log max q → ns ≡ ringed_queues_after_take log n max es
  queues_taken q new ns h is e =
      is ∙ set_by_cmp n new es ∙ ap (λ x. set_value (nat_eq n) es x) e ∙ ap (λ o. option_map_or (λ x. set_value (nat_eq n) es (advance_ringed_queue log max x)) o es) (h ∙ lookup_by_cmp n es)

  pub queues_kept : (q new : RingedQueue) (ns : List QueueEntry) → Some q ≡ lookup (is_at (nat_cmp n)) es → ns ≡ set_value (is_at (nat_cmp n)) es new → new ≡ q → ns ≡ es
  queues_kept q new ns h is e = is ∙ ap (set_value (is_at (nat_cmp n)) es) e ∙ set_value_same (is_at (nat_cmp n)) es q (sym h)

  pub some_waiting : (q : RingedQueue) → Some q ≡ lookup (is_at (nat_cmp n)) es → 0 < length (pending_entries log max q.queue) → 0 < length (unwrap_or (take_result log n max (queues_without_rings es)) [])
  some_waiting q h some = let P : Option PlainQueue → Type 0 = λ o. 0 < length (unwrap_or (option_map (pending_entries log max) o) []) in subst P (queue_found (Some q) h) some

  pub none_taken : None ≡ lookup (is_at (nat_cmp n)) es → None ≡ take_result log n max (queues_without_rings es)
  none_taken h = ap (option_map (pending_entries log max)) (queue_found None h)

  pub none_moved : (ns : List QueueEntry) → None ≡ lookup (is_at (nat_cmp n)) es → ns ≡ es → ns ≡ ringed_queues_after_take log n max es
  none_moved ns h is = is ∙ ap (λ o. option_map_or (λ x. set_value (nat_eq n) es (advance_ringed_queue log max x)) o es) (h ∙ lookup_by_cmp n es)

  pub fits_found : (q : RingedQueue) → AreRingsOfLog log es → Some q ≡ lookup (is_at (nat_cmp n)) es → IsRingOfLog log q
  fits_found q f h = fit_at log n es q f (sym (h ∙ lookup_by_cmp n es))

  -- the queues after a take, without their ring buffers
  bare_or : (o : Option RingedQueue) → queues_without_rings (option_map_or (λ q. set_value (nat_eq n) es (advance_ringed_queue log max q)) o es) ≡ option_map_or (λ w. replace_queue n (advance log max w) (queues_without_rings es)) (option_map (λ q. q.queue) o) (queues_without_rings es)
  bare_or None = refl
  bare_or (Some q) = set_bare n (advance_ringed_queue log max q) es

  pub bare_taken : queues_without_rings (ringed_queues_after_take log n max es) ≡ queues_after_take log n max (queues_without_rings es)
  bare_taken = bare_or (lookup (nat_eq n) es) ∙ ap (λ o. option_map_or (λ w. replace_queue n (advance log max w) (queues_without_rings es)) o (queues_without_rings es)) (sym (at_bare n es))

  fit_or : (o : Option RingedQueue) → lookup (nat_eq n) es ≡ o → AreRingsOfLog log es → AreRingsOfLog log (option_map_or (λ q. set_value (nat_eq n) es (advance_ringed_queue log max q)) o es)
  fit_or None h f = f
  fit_or (Some q) h f = fit_set log n es (advance_ringed_queue log max q) f (fits_moved log max q (fit_at log n es q f h))

  pub fit_taken : AreRingsOfLog log es → AreRingsOfLog log (ringed_queues_after_take log n max es)
  fit_taken f = fit_or (lookup (nat_eq n) es) refl f

  -- the ring buffers after a take whose allocation may have failed
  pub fit_after : {A E : Type 0} (ns : List QueueEntry) (r : Result A E) → OnOk r (ns ≡ ringed_queues_after_take log n max es) → OnErr r (ns ≡ es) → AreRingsOfLog log es → AreRingsOfLog log ns
  fit_after ns (Ok x) ok err f = subst (AreRingsOfLog log) (sym ok) (fit_taken f)
  fit_after ns (Err e) ok err f = subst (AreRingsOfLog log) (sym err) f
