-- What holds of each state of a server with a file.
use Rattle.std.proofs.Common.{◌≡◌, ℕ, ◌≤◌, List, ◌++◌, map, take, drop, length, All, sym, subst, arith, length-append, take-append-drop, take_all}
use Rattle.std.proofs.lemmas.List.{take-append-le}
use Rattle.std.proofs.lemmas.List.Elements.{All-weaker, All-map}
use Rattle.sdb_oplog.specs.Plain.{PlainEntry}
use Rattle.sdb_client_model.specs.Invariant.{IsConsistent}
use Rattle.sdb_client_model.specs.Messages.{ServerMessage}
use Rattle.sdb_client_model.specs.MessageMachine.{MessageState, with_shared}
use Rattle.sdb_client_model.specs.MessageLaws.{IsOfLog}
use Rattle.sdb_client_model.specs.SavingMachine.{HeldMessage, held_message, SavingState, saved_document}
use Rattle.sdb_client_model.proofs.MessageInvariant.{AreMessagesOfLog, of_log_append}
use Rattle.sdb_client_model.proofs.MessageCompleteRuns.{HoldsAfterRun}
use Rattle.sdb_client_model.proofs.SavedDecisions.{IsOfSubmitted}
use Rattle.sdb_client_model.proofs.SentViews.{sent_view, HoldsForOpen}

-- the state with the saved entries as its log
abbrev pub saved_view : SavingState → MessageState
saved_view s = with_shared s.current (saved_document s)

-- a held message is of the log as it was when the message was written
pub record IsHeldOf (source : List ℕ) (log : List PlainEntry) (h : HeldMessage) : Type 0 where
  pub reached : h.log_length ≤ length log
  pub of_log : IsOfLog source (take h.log_length log) h.message

pub record HoldsWithFile (s : SavingState) : Type 0 where
  pub unsaved : List PlainEntry
  pub log_is : s.current.shared.log ≡ s.file ++ unsaved
  pub submitted : All (IsOfSubmitted s.current.shared.submitted) unsaved
  -- what holds of the saved entries, and of what was sent
  pub saved : IsConsistent (saved_document s)
  pub saved_of_log : AreMessagesOfLog (saved_view s)
  -- what holds as if all that is held had been sent
  pub view : HoldsAfterRun (sent_view s)
  pub held : (source : List ℕ) → All (IsHeldOf source s.current.shared.log) (s.held source)
  pub none_held : HoldsForOpen s

-- ---- held messages

held_append : (source : List ℕ) (log es : List PlainEntry) (h : HeldMessage) → IsHeldOf source log h
    → IsHeldOf source (log ++ es) h
held_append source log es h is =
    let reached = is.reached in
    record {
      reached = omega (arith, length-append log es);
      of_log = subst (λ l. IsOfLog source l h.message) (sym (take-append-le h.log_length log es reached)) is.of_log;
    }

pub all_held_append : (source : List ℕ) (log es : List PlainEntry) (hs : List HeldMessage)
    → All (IsHeldOf source log) hs → All (IsHeldOf source (log ++ es)) hs
all_held_append source log es hs all =
    All-weaker (IsHeldOf source log) (IsHeldOf source (log ++ es)) (held_append source log es) hs all

held_now : (source : List ℕ) (log : List PlainEntry) (m : ServerMessage) → IsOfLog source log m
    → IsHeldOf source log (held_message (length log) m)
held_now source log m is = record {
  reached = omega arith;
  of_log = subst (λ l. IsOfLog source l m) (sym (take_all (length log) log (omega arith))) is;
}

-- what is written now
pub all_held_now : (source : List ℕ) (log : List PlainEntry) (ms : List ServerMessage) → All (IsOfLog source log) ms
    → All (IsHeldOf source log) (map (held_message (length log)) ms)
all_held_now source log ms all =
    All-map (IsHeldOf source log) (held_message (length log)) ms
    (All-weaker (IsOfLog source log) (λ m. IsHeldOf source log (held_message (length log) m)) (held_now source log) ms
    all)

-- a message whose entries are saved is of the saved log
pub released_of_file : (source : List ℕ) (file unsaved : List PlainEntry) (h : HeldMessage)
    → IsHeldOf source (file ++ unsaved) h → h.log_length ≤ length file → IsOfLog source file h.message
released_of_file source file unsaved h is reached =
    subst (λ l. IsOfLog source l h.message) (take-append-drop h.log_length file)
    (of_log_append source (take h.log_length file) (drop h.log_length file) h.message
    (subst (λ l. IsOfLog source l h.message) (take-append-le h.log_length file unsaved reached) is.of_log))
