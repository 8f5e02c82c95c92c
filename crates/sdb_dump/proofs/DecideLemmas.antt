-- The entry that a decision stores.
use Rattle.std.proofs.Common.{◌≡◌, ℕ, ◌<◌, List, [], ◌∷◌, ◌++◌, length, Option, Some, None, Ok, Err, refl, sym, ap, ◌∙◌, arith, length-append}
use Rattle.std.specs.Prelude.{Result}
use Rattle.std.specs.List.{slice_get}
use Rattle.std.specs.Option.{option_map_or}
use Rattle.std.proofs.Math.Seq.{get_or-append_seam}
use Rattle.std.proofs.lemmas.Option.{slice_get-get_or}
use Rattle.sdb_oplog.specs.Plain.{PlainContent, PlainSubmission, PlainEntry}
use Rattle.sdb_oplog.specs.Snap.{stored_at}
use Rattle.sdb_oplog.specs.Decide.{Decision, decide, append_decided, rebased_content, new_entry, repeated}
use Rattle.sdb_oplog.specs.declared.codes.Code.{Code}
use Rattle.sdb_dump.specs.DumpText.{decided_entry}

last_entry : (log : List PlainEntry) (e : PlainEntry) → slice_get (log ++ e ∷ []) (length log) ≡ Some e
last_entry log e =
    let within : length log < length (log ++ e ∷ []) = omega (arith, length-append log (e ∷ [])) in
    slice_get-get_or (log ++ e ∷ []) (length log) e within ∙ ap Some (get_or-append_seam log e [] e)

no_entry : (log : List PlainEntry) → slice_get log (length log) ≡ None
no_entry [] = refl
no_entry (e ∷ log) = no_entry log

-- a log with one more entry got this one
pub stored_from : (log : List PlainEntry) (s : PlainSubmission) (now : ℕ) (e : PlainEntry)
    → (decide log s now).log ≡ log ++ e ∷ [] → decided_entry log s now ≡ Some e
stored_from log s now e h = ap (λ l. slice_get l (length log)) h ∙ last_entry log e

abbrev from_parts : Option ℕ → List PlainEntry → PlainSubmission → ℕ → Result PlainContent Code → Decision
from_parts o log s now r = option_map_or (λ i. record { reply = repeated i; log = log }) o (append_decided log s now r)

pub record StoredDecision (log : List PlainEntry) (s : PlainSubmission) (now : ℕ) (r : Result PlainContent Code) (d : Decision) (e : PlainEntry) : Type 0 where
  pub content : PlainContent
  pub settles : r ≡ Ok content
  pub entry : e ≡ new_entry log s now content
  pub grows : d.log ≡ log ++ e ∷ []

none_stored : (log : List PlainEntry) (e : PlainEntry) → slice_get log (length log) ≡ Some e → ⊥
none_stored log e h = let never : ◌≡◌ {A = Option PlainEntry} None (Some e) = sym (no_entry log) ∙ h in cc

parts_by : (o : Option ℕ) (log : List PlainEntry) (s : PlainSubmission) (now : ℕ) (r : Result PlainContent Code) (e : PlainEntry)
    → slice_get (from_parts o log s now r).log (length log) ≡ Some e → StoredDecision log s now r (from_parts o log s now r) e
parts_by (Some i) log s now r e h = absurd (none_stored log e h)
parts_by None log s now (Err c) e h = absurd (none_stored log e h)
parts_by None log s now (Ok m) e h =
    let same : ◌≡◌ {A = Option PlainEntry} (Some (new_entry log s now m)) (Some e) = sym (last_entry log (new_entry log s now m)) ∙ h in
    let g : e ≡ new_entry log s now m = cc in
    record { content = m; settles = refl; entry = g; grows = ap (λ x. log ++ x ∷ []) (sym g) }

pub stored_is : (log : List PlainEntry) (s : PlainSubmission) (now : ℕ) (e : PlainEntry) → decided_entry log s now ≡ Some e
    → StoredDecision log s now (rebased_content log s) (decide log s now) e
stored_is log s now e h = parts_by (stored_at s.src s.seq log) log s now (rebased_content log s) e h
