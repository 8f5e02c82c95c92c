-- The state after a write of one slot.
use Rattle.std.proofs.Common.{◌≡◌, ◌<◌, ℕ, List, ◌∷◌, [], ◌++◌, length, Bool, true, false, cond, Option, Some, option_map, unwrap_or, Result, Ok, Err, IfOk, OnOk, OnErr, Vec, refl, sym, ap, ◌∙◌, subst, arith, length-append}
use Rattle.std.specs.declared.alloc.AllocError.{AllocError}
use Rattle.std.specs.declared.alloc.Global.{Global}
use Rattle.std.specs.BTreeMap.{is_at}
use Rattle.std.specs.Map.{lookup, set_value}
use Rattle.sdb_oplog.specs.Decide.{decide, stored, missed_entries}
use Rattle.sdb_oplog.specs.Keys.{PlainKey, compare_keys, keys_equal, plain_key, with_log, with_value_at_key}
use Rattle.sdb_oplog.specs.Plain.{PlainEntry, PlainSubmission}
use Rattle.sdb_oplog.specs.declared.keys.Key.{Key}
use Rattle.sdb_snapcache.specs.CacheModel.{Snapshot}
use Rattle.sdb_subscribe.specs.Queue.{take_result_by}
use Rattle.sdb_subscribe.specs.Ring.{RingedQueue, RingedQueues, without_rings, ringed_queues_after_take_by}
use Rattle.sdb_desk.specs.MapModel.{value_at_key}
use Rattle.sdb_desk.specs.Machine.{is_nonempty}
use Rattle.sdb_desk.specs.ShardState.{ShardState, with_cache, with_ringed_queues, with_open_queues, state_of_slots}
use Rattle.sdb_desk.specs.SlotModel.{PlainSlot, empty_slot, slot_with_cache, slot_with_open_queues}
use Rattle.sdb_desk.specs.StateChanges.{OnlyCacheChanges, OnlySlotCacheChanges, SlotAfterStore, RingsAfterAppend, QueuesFollowLogs, StateAfterStore, StateAfterTake}
use Rattle.sdb_desk.specs.View.{taken_view}
use Rattle.sdb_desk.specs.laws.KeyLaws.{eq_of_keys_equal}
use Rattle.sdb_desk.specs.laws.MapLaws.{updated_at_same, value_of_updated, updated_of_write, value_at_lookup_some}

-- ---- a state that doesn't change

pub with_cache_same : (s : ShardState) (k : PlainKey) (cache : List Snapshot) → cache ≡ s.caches k → s ≡ with_cache s k cache
with_cache_same s k cache e = λ i. record { logs = s.logs; caches = updated_at_same s.caches k cache e i; queues = s.queues }

pub with_open_queues_same : (s : ShardState) (k : PlainKey) (qs : List (ℕ × RingedQueue)) → qs ≡ (s.queues k).queues → s ≡ with_open_queues s k qs
with_open_queues_same s k qs e =
    let q : RingedQueues = record { next = (s.queues k).next; queues = qs } in
    let same : q ≡ s.queues k = λ i. record { next = (s.queues k).next; queues = e i } in
    λ i. record { logs = s.logs; caches = s.caches; queues = updated_at_same s.queues k q same i }

pub only_cache_of_unchanged : (C : List Snapshot → List Snapshot → Type 0) (k : PlainKey) (old new : ShardState) → new ≡ old
    → C (old.caches k) (old.caches k) → OnlyCacheChanges k C old new
only_cache_of_unchanged C k old new e h =
    let here = ap (λ s. s.caches k) e in
    (subst (C (old.caches k)) (sym here) h, e ∙ with_cache_same old k (new.caches k) here)

append_not_equal : (log : List PlainEntry) (e : PlainEntry) → log ≡ log ++ e ∷ [] → ⊥
append_not_equal log e is = let l = length-append log (e ∷ []) in omega (arith, ap length is, l)

rings_of_unchanged : (log : List PlainEntry) (qs : List (ℕ × RingedQueue)) → RingsAfterAppend log log qs qs
rings_of_unchanged log qs = record { unchanged_if_log_unchanged = λ _. refl; pushed_if_log_grows = λ e more. absurd (append_not_equal log e more) }

pub follow_of_unchanged : (old new : ShardState) → new ≡ old → QueuesFollowLogs old new
follow_of_unchanged old new e =
    subst (QueuesFollowLogs old) (sym e) (record { caches_unchanged = refl; queues_unchanged = refl; rings = λ k. rings_of_unchanged (old.logs k) (old.queues k).queues })

-- ---- a state with one other slot

part_or : {A : Type 0} (p : PlainSlot → A) (b : Bool) (x y : PlainSlot) → p (cond b x y) ≡ cond b (p x) (p y)
part_or p true x y = refl
part_or p false x y = refl

rings_or : (b : Bool) (old w : PlainSlot) → (b ≡ true → RingsAfterAppend old.document.log w.document.log old.queues.queues w.queues.queues)
    → RingsAfterAppend old.document.log (cond b w old).document.log old.queues.queues (cond b w old).queues.queues
rings_or true old w h = h refl
rings_or false old w h = rings_of_unchanged old.document.log old.queues.queues

module _ (f g : PlainKey → PlainSlot) (k : PlainKey) (old w : PlainSlot) (found : old ≡ f k) (wrote : g ≡ with_value_at_key f k w) where
  part_written : {A : Type 0} (p : PlainSlot → A) → ◌≡◌ {A = PlainKey → A} (λ q. p (g q)) (with_value_at_key (λ q. p (f q)) k (p w))
  part_written p = λ i q. (ap (λ h. p (h q)) wrote ∙ part_or p (keys_equal k q) w (f q)) i

  part_unchanged : {A : Type 0} (p : PlainSlot → A) → p w ≡ p old → ◌≡◌ {A = PlainKey → A} (λ q. p (g q)) (λ q. p (f q))
  part_unchanged {A} p e = part_written p ∙ (let before : PlainKey → A = λ q. p (f q) in sym (updated_at_same before k (p w) (e ∙ ap p found)))

  pub slot_unchanged : w ≡ old → state_of_slots g ≡ state_of_slots f
  slot_unchanged e = ap state_of_slots (wrote ∙ sym (updated_at_same f k w (e ∙ found)))

  pub cache_written : (cache : List Snapshot) → w ≡ slot_with_cache old cache → state_of_slots g ≡ with_cache (state_of_slots f) k cache
  cache_written cache e =
      λ i. record { logs = part_unchanged (λ t. t.document.log) (ap (λ t. t.document.log) e) i; caches = (part_written (λ t. t.document.cache) ∙ ap (with_value_at_key (λ q. (f q).document.cache) k) (ap (λ t. t.document.cache) e)) i; queues = part_unchanged (λ t. t.queues) (ap (λ t. t.queues) e) i }

  pub only_cache_written : (R : List PlainEntry → List Snapshot → List Snapshot → Type 0) → OnlySlotCacheChanges (R old.document.log) old w
      → OnlyCacheChanges k (R (f k).document.log) (state_of_slots f) (state_of_slots g)
  only_cache_written R h =
      let here : w.document.cache ≡ (g k).document.cache = ap (λ t. t.document.cache) (sym (value_of_updated f g k w wrote)) in (
        subst (R (f k).document.log (f k).document.cache) here (subst (λ (t : PlainSlot). R t.document.log t.document.cache w.document.cache) found h.0),
        cache_written w.document.cache h.1 ∙ ap (with_cache (state_of_slots f) k) here,
      )

  pub queues_written : w.document ≡ old.document → state_of_slots g ≡ with_ringed_queues (state_of_slots f) k w.queues
  queues_written e =
      λ i. record { logs = part_unchanged (λ t. t.document.log) (ap (λ d. d.log) e) i; caches = part_unchanged (λ t. t.document.cache) (ap (λ d. d.cache) e) i; queues = part_written (λ t. t.queues) i }

  -- the queues without their ring buffers
  pub plain_queues_at : without_rings (g k).queues ≡ without_rings w.queues
  plain_queues_at = ap (λ t. without_rings t.queues) (value_of_updated f g k w wrote)

  pub store_written : (s : PlainSubmission) (now : ℕ) → SlotAfterStore s now old w → StateAfterStore k s now (state_of_slots f) (state_of_slots g)
  store_written s now h =
      let d = h.document.document in record {
        reply = subst (λ (t : PlainSlot). (decide t.document.log s now).reply ≡ stored (length t.document.log) (missed_entries t.document.log s)) found h.document.reply;
        logs = part_written (λ t. t.document.log) ∙ ap (with_log (λ q. (f q).document.log) k) (ap (λ x. x.log) d ∙ ap (λ t. (decide t.document.log s now).log) found);
        others = record {
          caches_unchanged = part_unchanged (λ t. t.document.cache) (ap (λ x. x.cache) d);
          queues_unchanged = part_unchanged (λ t. without_rings t.queues) h.queues_unchanged;
          rings = λ q.
              subst (λ (m : PlainKey → PlainSlot). RingsAfterAppend (f q).document.log (m q).document.log (f q).queues.queues (m q).queues.queues) (sym wrote)
              (rings_or (keys_equal k q) (f q) w (λ is. subst (λ (t : PlainSlot). RingsAfterAppend t.document.log w.document.log t.queues.queues w.queues.queues) (found ∙ ap f (eq_of_keys_equal k q is)) h.rings));
        };
      }

-- ---- a write by `get_mut`

nonempty_of_length : (es : List PlainEntry) → 0 < length es → is_nonempty es ≡ true
nonempty_of_length [] h = absurd (omega (arith, h))
nonempty_of_length (e ∷ es) h = refl

abbrev pub state_of_entries : List (Key × PlainSlot) → ShardState
state_of_entries es = state_of_slots (value_at_key empty_slot es)

module _ (es ns : List (Key × PlainSlot)) (s : Key) (old w : PlainSlot) (found : Some old ≡ lookup (is_at (λ x. compare_keys (plain_key s) (plain_key x))) es)
    (wrote : ns ≡ set_value (is_at (λ x. compare_keys (plain_key s) (plain_key x))) es w) where
  abbrev before : PlainKey → PlainSlot
  before = value_at_key empty_slot es

  abbrev after : PlainKey → PlainSlot
  after = value_at_key empty_slot ns

  slot_found : old ≡ before (plain_key s)
  slot_found = value_at_lookup_some empty_slot es s old found

  slot_written : after ≡ with_value_at_key before (plain_key s) w
  slot_written = updated_of_write empty_slot es ns s old w found wrote

  pub unchanged_of_write : w ≡ old → state_of_entries ns ≡ state_of_entries es
  unchanged_of_write = slot_unchanged before after (plain_key s) old w slot_found slot_written

  pub cache_of_write : (cache : List Snapshot) → w ≡ slot_with_cache old cache → state_of_entries ns ≡ with_cache (state_of_entries es) (plain_key s) cache
  cache_of_write = cache_written before after (plain_key s) old w slot_found slot_written

  pub only_cache_of_write : (R : List PlainEntry → List Snapshot → List Snapshot → Type 0) → OnlySlotCacheChanges (R old.document.log) old w
      → OnlyCacheChanges (plain_key s) (R (before (plain_key s)).document.log) (state_of_entries es) (state_of_entries ns)
  only_cache_of_write = only_cache_written before after (plain_key s) old w slot_found slot_written

  pub queues_of_write : w.document ≡ old.document → state_of_entries ns ≡ with_ringed_queues (state_of_entries es) (plain_key s) w.queues
  queues_of_write = queues_written before after (plain_key s) old w slot_found slot_written

  pub open_queues_of_write : (h : PlainSlot → List (ℕ × RingedQueue)) → w ≡ slot_with_open_queues old (h old)
      → state_of_entries ns ≡ with_open_queues (state_of_entries es) (plain_key s) (h (before (plain_key s)))
  open_queues_of_write h e =
      let q : PlainSlot → RingedQueues = λ t. record { next = t.queues.next; queues = h t } in
      queues_of_write (ap (λ t. t.document) e) ∙ ap (with_ringed_queues (state_of_entries es) (plain_key s)) (ap (λ t. t.queues) e ∙ ap q slot_found)

  pub take_of_write : (by n max : ℕ) (r : Result (Option (Vec PlainEntry Global)) AllocError) → let due = take_result_by old.document.log by n max (without_rings old.queues).queues in
      IfOk r (λ v. option_map (λ es. es.items) v ≡ due)
      → OnOk r (w ≡ slot_with_open_queues old (ringed_queues_after_take_by old.document.log by n max old.queues.queues)) → OnErr r (w ≡ old) → OnErr r (0 < length (unwrap_or due []))
      → StateAfterTake (plain_key s) by n max (taken_view r) (state_of_entries es) (state_of_entries ns)
  take_of_write by n max (Ok v) entries ok err memory = (
    entries ∙ ap (λ t. take_result_by t.document.log by n max (without_rings t.queues).queues) slot_found,
    open_queues_of_write (λ t. ringed_queues_after_take_by t.document.log by n max t.queues.queues) ok,
  )
  take_of_write by n max (Err e) entries ok err memory = (
    ap (λ t. is_nonempty (unwrap_or (take_result_by t.document.log by n max (without_rings t.queues).queues) [])) (sym slot_found) ∙ nonempty_of_length _ memory,
    unchanged_of_write err,
  )

  pub store_of_write : (p : PlainSubmission) (now : ℕ) → SlotAfterStore p now old w → StateAfterStore (plain_key s) p now (state_of_entries es) (state_of_entries ns)
  store_of_write = store_written before after (plain_key s) old w slot_found slot_written
