-- Properties of a made log.
use Rattle.std.proofs.Common.{◌≡◌, ℕ, zero, suc, ◌+◌, List, [], ◌∷◌, ◌++◌, length, take, Bool, true, false, cond, ◌&&◌, Option, Some, None, Result, Ok, Err, option_map, nat_eq, nat_lt, refl, sym, ap, ◌∙◌, append_assoc, length-append, arith}
use Rattle.std.proofs.lemmas.Bool.{eq-eqb}
use Rattle.std.proofs.lemmas.Slice.Eq.{bytes_eq-Decides}
use Rattle.std.specs.Option.{is_some, is_none, option_map_or, unwrap_or}
use Rattle.std.specs.Result.{result_ok}
use Rattle.sdb_value.specs.Value.{Value}
use Rattle.sdb_oplog.specs.Plain.{PlainEntry, PlainContent, PlainSubmission}
use Rattle.sdb_oplog.specs.Refusal.{result_and_then}
use Rattle.sdb_oplog.specs.Rebase.{rebase}
use Rattle.sdb_oplog.specs.Snap.{apply_content, snap, document_of, stored_at, has_identifier, are_identifiers_new}
use Rattle.sdb_oplog.specs.Decide.{decide, Decision, stored, repeated, rebased_content, append_decided, base_version, missed_entries, new_entry, IsMadeFrom, IsMade}
use Rattle.sdb_oplog.specs.declared.codes.Code.{Code}
use Rattle.sdb_oplog.specs.declared.codes.Code.TheVariants.{E4, E11}
use Rattle.sdb_oplog.specs.laws.LogLaws.{snap_one, decides_repeat}
use Rattle.sdb_steps.proofs.RunLemmas.{append_nil}

-- ---- stored once

append_not_equal : (log : List PlainEntry) (e : PlainEntry) → log ≡ log ++ e ∷ [] → ⊥
append_not_equal log e h = omega (arith, ap length h, length-append log (e ∷ []))

log_extends_of_decide : (log : List PlainEntry) (e : PlainEntry) (o : Option ℕ) (d : Decision) → (option_map_or (λ i. record { reply = repeated i; log = log }) o d).log ≡ log ++ e ∷ [] → (o ≡ None) × (d.log ≡ log ++ e ∷ [])
log_extends_of_decide log e None d h = (refl, h)
log_extends_of_decide log e (Some i) d h = absurd (append_not_equal log e h)

not_stored_before : (log : List PlainEntry) (e : PlainEntry) → (decide log e.arrived e.moment).log ≡ log ++ e ∷ [] → stored_at e.arrived.src e.arrived.seq log ≡ None
not_stored_before log e h = (log_extends_of_decide log e (stored_at e.arrived.src e.arrived.seq log) (append_decided log e.arrived e.moment (rebased_content log e.arrived)) h).0

identifiers_unique_of_made : (before es : List PlainEntry) → IsMadeFrom before es → are_identifiers_new before es ≡ true
identifiers_unique_of_made before [] h = refl
identifiers_unique_of_made before (e ∷ es) h = ap (λ (o : Option ℕ). is_none o && are_identifiers_new (before ++ e ∷ []) es) (not_stored_before before e h.0) ∙ identifiers_unique_of_made (before ++ e ∷ []) es h.1

pub once_all : (log : List PlainEntry) → IsMade log → are_identifiers_new [] log ≡ true
once_all log h = identifiers_unique_of_made [] log h

-- ---- snapshots

snap_of_append : (k : PlainContent) (r : Result (Option Value) Code) (f : PlainContent → Result (Option Value) Code) (m : PlainContent) → f k ≡ r → result_and_then (λ d. Ok k) r ≡ Ok m → is_some (result_ok (f m)) ≡ true
snap_of_append k (Ok d) f m is e = let same : k ≡ m = cc in ap (λ x. is_some (result_ok (f x))) (sym same) ∙ ap (λ x. is_some (result_ok x)) is
snap_of_append k (Err c) f m is e = cc

snap_of_decide : (r : Result PlainContent Code) (f : PlainContent → Result (Option Value) Code) (m : PlainContent) → result_and_then (λ k. result_and_then (λ d. Ok k) (f k)) r ≡ Ok m → is_some (result_ok (f m)) ≡ true
snap_of_decide (Err c) f m e = cc
snap_of_decide (Ok k) f m e = snap_of_append k (f k) f m refl e

snap_of_decide_cond : (a b : Bool) (r : Result PlainContent Code) (m : PlainContent) → cond a (Err E11) (cond b (Err E4) r) ≡ Ok m → r ≡ Ok m
snap_of_decide_cond true b r m e = cc
snap_of_decide_cond false true r m e = cc
snap_of_decide_cond false false r m e = e

-- a rebased content that is accepted applies
applies_of_rebased : (log : List PlainEntry) (s : PlainSubmission) (m : PlainContent) → rebased_content log s ≡ Ok m → is_some (result_ok (apply_content m (document_of log))) ≡ true
applies_of_rebased log s m e =
    snap_of_decide (rebase s.content (missed_entries log s)) (λ k. apply_content k (document_of log)) m
    (snap_of_decide_cond (nat_eq (length log) 9007199254740991) (nat_lt (length log) (base_version log s)) (result_and_then (λ k. result_and_then (λ d. Ok k) (apply_content k (document_of log))) (rebase s.content (missed_entries log s))) m e)

is_document : (o : Option (Option Value)) → is_some o ≡ true → o ≡ Some (unwrap_or o None)
is_document None h = cc
is_document (Some d) h = refl

-- a log with a document still has one after an append
lives_more : (log : List PlainEntry) (s : PlainSubmission) (m : PlainContent) (e : PlainEntry) → rebased_content log s ≡ Ok m → is_some (snap log) ≡ true → e.content ≡ m → is_some (snap (log ++ e ∷ [])) ≡ true
lives_more log s m e h lives is =
    ap is_some (snap_one log e None (document_of log) (is_document (snap log) lives)) ∙ ap (λ x. is_some (result_ok (apply_content x (document_of log)))) is ∙ applies_of_rebased log s m h

last_same : (xs : List PlainEntry) (a b : PlainEntry) → xs ++ a ∷ [] ≡ xs ++ b ∷ [] → a ≡ b
last_same [] a b h = cc
last_same (x ∷ xs) a b h = let k : xs ++ a ∷ [] ≡ xs ++ b ∷ [] = cc in last_same xs a b k

lives_stored : (log : List PlainEntry) (s : PlainSubmission) (now : ℕ) (e : PlainEntry) (r : Result PlainContent Code) → rebased_content log s ≡ r → (append_decided log s now r).log ≡ log ++ e ∷ [] → is_some (snap log) ≡ true → is_some (snap (log ++ e ∷ [])) ≡ true
lives_stored log s now e (Err c) is h lives = absurd (append_not_equal log e h)
lives_stored log s now e (Ok m) is h lives = lives_more log s m e is lives (ap (λ (x : PlainEntry). x.content) (sym (last_same log (new_entry log s now m) e h)))

lives_on : (log : List PlainEntry) (e : PlainEntry) → (decide log e.arrived e.moment).log ≡ log ++ e ∷ [] → is_some (snap log) ≡ true → is_some (snap (log ++ e ∷ [])) ≡ true
lives_on log e h lives = lives_stored log e.arrived e.moment e (rebased_content log e.arrived) refl (log_extends_of_decide log e (stored_at e.arrived.src e.arrived.seq log) (append_decided log e.arrived e.moment (rebased_content log e.arrived)) h).1 lives

lives_from : (before es : List PlainEntry) (v : ℕ) → IsMadeFrom before es → is_some (snap before) ≡ true → is_some (snap (before ++ take v es)) ≡ true
lives_from before [] zero h lives = ap (λ (l : List PlainEntry). is_some (snap l)) (append_nil before) ∙ lives
lives_from before [] (suc v) h lives = ap (λ (l : List PlainEntry). is_some (snap l)) (append_nil before) ∙ lives
lives_from before (e ∷ es) zero h lives = ap (λ (l : List PlainEntry). is_some (snap l)) (append_nil before) ∙ lives
lives_from before (e ∷ es) (suc v) h lives =
    ap (λ (l : List PlainEntry). is_some (snap l)) (sym (append_assoc before (e ∷ []) (take v es))) ∙ lives_from (before ++ e ∷ []) es v h.1 (lives_on before e h.0 lives)

pub lives_all : (log : List PlainEntry) (v : ℕ) → IsMade log → is_some (snap (take v log)) ≡ true
lives_all log v h = lives_from [] log v h refl

-- ---- resent operations

stored_at_of_tail : (b : Bool) (o p : Option ℕ) (i : ℕ) → cond b (Some 0) (option_map (λ k. k + 1) o) ≡ None → (o ≡ None → p ≡ Some i) → cond b (Some 0) (option_map (λ k. k + 1) p) ≡ Some (suc i)
stored_at_of_tail true o p i e h = cc
stored_at_of_tail false None p i e h = ap (option_map (λ k. k + 1)) (h refl) ∙ ap Some (omega arith)
stored_at_of_tail false (Some k) p i e h = cc

found_later : (s : List ℕ) (n : ℕ) (log more : List PlainEntry) (e : PlainEntry) → stored_at s n log ≡ None → has_identifier s n e ≡ true → stored_at s n (log ++ e ∷ more) ≡ Some (length log)
found_later s n [] more e none is = ap (λ (b : Bool). cond b (Some 0) (option_map (λ i. i + 1) (stored_at s n more))) is
found_later s n (x ∷ log) more e none is = stored_at_of_tail (has_identifier s n x) (stored_at s n log) (stored_at s n (log ++ e ∷ more)) (length log) none (λ k. found_later s n log more e k is)

has_own_identifier : (e : PlainEntry) → has_identifier e.arrived.src e.arrived.seq e ≡ true
has_own_identifier e = rw (eq-eqb e.arrived.seq e.arrived.seq refl, (bytes_eq-Decides e.arrived.src e.arrived.src).1 refl)

-- the first entry of its source and seq answers each duplicate
repeat_of : (before later : List PlainEntry) (e : PlainEntry) (again : PlainSubmission) (now : ℕ) → stored_at e.arrived.src e.arrived.seq before ≡ None → again.src ≡ e.arrived.src → again.seq ≡ e.arrived.seq
    → decide (before ++ e ∷ later) again now ≡ record { reply = repeated (length before); log = before ++ e ∷ later }
repeat_of before later e again now none src seq =
    let there : stored_at again.src again.seq (before ++ e ∷ later) ≡ Some (length before) =
    ap (λ (x : List ℕ). stored_at x again.seq (before ++ e ∷ later)) src ∙ ap (λ (n : ℕ). stored_at e.arrived.src n (before ++ e ∷ later)) seq ∙ found_later e.arrived.src e.arrived.seq before later e none (has_own_identifier e) in
    decides_repeat (before ++ e ∷ later) again now (length before) there

made_entry : (past before later : List PlainEntry) (e : PlainEntry) → IsMadeFrom past (before ++ e ∷ later) → (decide (past ++ before) e.arrived e.moment).log ≡ (past ++ before) ++ e ∷ []
made_entry past [] later e h = ap (λ (l : List PlainEntry). (decide l e.arrived e.moment).log) (append_nil past) ∙ h.0 ∙ ap (λ (l : List PlainEntry). l ++ e ∷ []) (sym (append_nil past))
made_entry past (x ∷ before) later e h =
    ap (λ (l : List PlainEntry). (decide l e.arrived e.moment).log) (sym (append_assoc past (x ∷ []) before)) ∙ made_entry (past ++ x ∷ []) before later e h.1 ∙ ap (λ (l : List PlainEntry). l ++ e ∷ []) (append_assoc past (x ∷ []) before)

pub repeats_all : (before later : List PlainEntry) (e : PlainEntry) (again : PlainSubmission) (now : ℕ) → IsMade (before ++ e ∷ later) → again.src ≡ e.arrived.src → again.seq ≡ e.arrived.seq
    → decide (before ++ e ∷ later) again now ≡ record { reply = repeated (length before); log = before ++ e ∷ later }
repeats_all before later e again now h src seq = repeat_of before later e again now (not_stored_before before e (made_entry [] before later e h)) src seq

-- the stored entry and its version
record IsStoredAt (log : List PlainEntry) (s : PlainSubmission) (v : ℕ) (d : Decision) : Type 0 where
  pub none : stored_at s.src s.seq log ≡ None
  pub at_end : v ≡ length log
  pub entry : PlainEntry
  pub more : d.log ≡ log ++ entry ∷ []
  pub from : entry.arrived ≡ s

stores_by : (log not_seen : List PlainEntry) (s : PlainSubmission) (now v : ℕ) (o : Option ℕ) (r : Result PlainContent Code) → stored_at s.src s.seq log ≡ o
    → (option_map_or (λ i. record { reply = repeated i; log = log }) o (append_decided log s now r)).reply ≡ stored v not_seen → IsStoredAt log s v (option_map_or (λ i. record { reply = repeated i; log = log }) o (append_decided log s now r))
stores_by log not_seen s now v (Some i) r is h = absurd (cc)
stores_by log not_seen s now v None (Err c) is h = absurd (cc)
stores_by log not_seen s now v None (Ok m) is h = let k : v ≡ length log = cc in record { none = is; at_end = k; entry = new_entry log s now m; more = refl; from = refl }

stored_at_of_reply : (log not_seen : List PlainEntry) (s : PlainSubmission) (now v : ℕ) → (decide log s now).reply ≡ stored v not_seen → IsStoredAt log s v (decide log s now)
stored_at_of_reply log not_seen s now v h = stores_by log not_seen s now v (stored_at s.src s.seq log) (rebased_content log s) refl h

pub resent_all : (log not_seen more : List PlainEntry) (s again : PlainSubmission) (now later v : ℕ) → (decide log s now).reply ≡ stored v not_seen → again.src ≡ s.src → again.seq ≡ s.seq
    → decide ((decide log s now).log ++ more) again later ≡ record { reply = repeated v; log = (decide log s now).log ++ more }
resent_all log not_seen more s again now later v h src seq =
    let t = stored_at_of_reply log not_seen s now v h in
    let e = t.entry in
    let whole : (decide log s now).log ++ more ≡ log ++ e ∷ more = ap (λ (l : List PlainEntry). l ++ more) t.more ∙ append_assoc log (e ∷ []) more in
    let none : stored_at e.arrived.src e.arrived.seq log ≡ None = ap (λ (x : PlainSubmission). stored_at x.src x.seq log) t.from ∙ t.none in
    let first : decide (log ++ e ∷ more) again later ≡ record { reply = repeated (length log); log = log ++ e ∷ more } =
    repeat_of log more e again later none (src ∙ sym (ap (λ (x : PlainSubmission). x.src) t.from)) (seq ∙ sym (ap (λ (x : PlainSubmission). x.seq) t.from)) in
    ap (λ (l : List PlainEntry). decide l again later) whole ∙ first ∙ ap (λ (n : ℕ). record { reply = repeated n; log = log ++ e ∷ more }) (sym t.at_end) ∙ ap (λ (l : List PlainEntry). record { reply = repeated v; log = l }) (sym whole)
