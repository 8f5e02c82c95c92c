-- A log with one more entry is one that decides.
use Rattle.std.proofs.Common.{◌≡◌, ℕ, List, [], ◌∷◌, ◌++◌, length, max, Option, Some, option_map, unwrap_or, sym, ap, ◌∙◌, subst, arith}
use Rattle.std.specs.Option.{is_some}
use Rattle.sdb_value.specs.Value.{Value}
use Rattle.sdb_value.specs.View.{value_of}
use Rattle.sdb_value.specs.declared.value.Json.{Json}
use Rattle.sdb_oplog.specs.Plain.{PlainContent, PlainEntry, PlainSubmission}
use Rattle.sdb_oplog.specs.LogInvariant.{CanAppend}
use Rattle.sdb_oplog.specs.Moments.{last_moment}
use Rattle.sdb_oplog.specs.Snap.{apply_content, snap}
use Rattle.sdb_oplog.specs.Decide.{decide, missed_entries, new_entry, stored, IsMade}
use Rattle.sdb_oplog.specs.DecidedLog.{IsDecidedLog, WillStore}
use Rattle.sdb_oplog.specs.laws.LogLaws.{decides_stored, document_of_snap, document_of_append, made_of_decide}

-- the entry of the submission, stored now with this content or with the submitted one
abbrev pub stored_entry : List PlainEntry → PlainSubmission → ℕ → Option PlainContent → PlainEntry
stored_entry log s now content = new_entry log s now (unwrap_or content s.content)

-- an entry with these parts
pub stored_entry_is : (log : List PlainEntry) (s : PlainSubmission) (now : ℕ) (content : Option PlainContent) (e : PlainEntry) (v m : ℕ) → e ≡ record { version = v; moment = m; content = unwrap_or content s.content; arrived = s }
    → v ≡ length log → m ≡ max now (last_moment log) → e ≡ stored_entry log s now content
stored_entry_is log s now content e v m is version moment =
    let entry : ℕ → ℕ → PlainEntry = λ v m. record { version = v; moment = m; content = unwrap_or content s.content; arrived = s } in
    is ∙ ap (λ n. entry n m) version ∙ ap (entry (length log)) moment

pub decided_stored : (log : List PlainEntry) (s : PlainSubmission) (now : ℕ) (content : Option PlainContent) (made : Option Value) → WillStore log s content made
    → decide log s now ≡ record { reply = stored (length log) (missed_entries log s); log = log ++ stored_entry log s now content ∷ [] }
decided_stored log s now content made w = decides_stored log s now (unwrap_or content s.content) made w.new.is_new w.new.has_room w.new.version_reached w.rebased_is w.makes

module _ (log : List PlainEntry) (s : PlainSubmission) (now : ℕ) (content : Option PlainContent) (old : Option Json) (keeps : IsDecidedLog log old) where
  replay_stored : (made : Option Value) → WillStore log s content made → snap (log ++ stored_entry log s now content ∷ []) ≡ Some made
  replay_stored made w =
      document_of_append log (stored_entry log s now content) (option_map value_of old) made keeps.replay
      (ap (apply_content (unwrap_or content s.content)) (sym (document_of_snap log (option_map value_of old) keeps.replay)) ∙ w.makes)

  can_append : (made : Option Value) → WillStore log s content made → CanAppend log (stored_entry log s now content)
  can_append made w = record {
    is_new = w.new.is_new;
    entry_applies = ap is_some (replay_stored made w);
    moment_ordered = omega arith;
    has_room = w.new.has_room;
  }

  -- the entry can be appended
  pub can_append_stored : (e : PlainEntry) (made : Option Value) → e ≡ stored_entry log s now content → WillStore log s content made → CanAppend log e
  can_append_stored e made is w = subst (CanAppend log) (sym is) (can_append made w)

  pub decided_log_stored : (r : List PlainEntry) (made : Option Json) → r ≡ log ++ stored_entry log s now content ∷ [] → WillStore log s content (option_map value_of made) → IsDecidedLog r made
  decided_log_stored r made e w = record {
    replay = ap snap e ∙ replay_stored (option_map value_of made) w;
    made = subst IsMade (sym (e ∙ sym (ap (λ d. d.log) (decided_stored log s now content (option_map value_of made) w)))) (made_of_decide log s now keeps.made);
  }

-- an equal log with an equal document
pub decided_log_same : (log new : List PlainEntry) (old other : Option Json) → new ≡ log → option_map value_of other ≡ option_map value_of old → IsDecidedLog log old → IsDecidedLog new other
decided_log_same log new old other is same keeps = record {
  replay = ap snap is ∙ keeps.replay ∙ ap Some (sym same);
  made = subst IsMade (sym is) keeps.made;
}
