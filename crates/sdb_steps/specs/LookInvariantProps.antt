-- Facts of looks are propositions: each has at most one proof.
use Rattle.std.specs.Prelude.{◌≡◌, ℕ, List, Option, Some, None, slice_get}
use Rattle.std.specs.Coded.{Coded-set, Π_prop, Unit-prop, le_prop}
use Rattle.sdb_oplog.specs.Keys.{Logs, plain_key}
use Rattle.sdb_oplog.specs.Plain.{PlainEntry}
use Rattle.sdb_desk.specs.Coding.{look_code}
use Rattle.sdb_desk.specs.Looks.{IsLook}
use Rattle.sdb_desk.specs.Machine.{PlainAttempt}
use Rattle.sdb_steps.specs.LookInvariant.{attempt_in, HasLookAt, SessionHasLookAt, AllHaveLookAt}
use Rattle.sdb_steps.specs.declared.session_data.OpenAttempt.{OpenAttempt}
use Rattle.sdb_steps.specs.declared.session_data.Session.{Session}

IsLook-prop : (log : List PlainEntry) (a : PlainAttempt) → IsProp (IsLook log a)
IsLook-prop log a x y = λ i. record {
  within = le_prop x.within y.within i;
  is = Coded-set look_code _ _ x.is y.is i;
}

IsLooked-prop : (logs : Logs) (o : Option OpenAttempt) → IsProp (HasLookAt logs o)
IsLooked-prop logs None = Unit-prop
IsLooked-prop logs (Some t) = IsLook-prop (logs (plain_key t.key)) (attempt_in t.phase)

IsLookedIn-prop : (logs : Logs) (o : Option Session) → IsProp (SessionHasLookAt logs o)
IsLookedIn-prop logs None = Unit-prop
IsLookedIn-prop logs (Some x) = IsLooked-prop logs x.attempt

pub AllLooked-prop : (logs : Logs) (sessions : List Session) → IsProp (AllHaveLookAt logs sessions)
AllLooked-prop logs sessions = Π_prop λ i. IsLookedIn-prop logs (slice_get sessions i)
