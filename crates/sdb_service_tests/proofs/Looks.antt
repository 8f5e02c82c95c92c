-- Looks stay valid while logs grow.
use Rattle.std.proofs.Common.{◌≡◌, ℕ, List, inl, inr, sym, ◌∙◌, subst}
use Rattle.sdb_oplog.specs.Plain.{PlainEntry, PlainSubmission}
use Rattle.sdb_oplog.specs.Keys.{PlainKey, Logs, with_log}
use Rattle.sdb_oplog.specs.Decide.{PlainReply, decide}
use Rattle.sdb_oplog.specs.laws.LogLaws.{decide_extends}
use Rattle.sdb_desk.specs.Looks.{IsLook}
use Rattle.sdb_desk.specs.laws.LookLaws.{is_look_now, is_look_extended}
use Rattle.sdb_desk.specs.Machine.{PlainAttempt, PlainLook, look_at, decided, CommitsOrOutOfMemory, DecidesOrOutOfMemory}
use Rattle.sdb_desk.specs.laws.MapLaws.{value_of_updated}

pub same_stays : (logs new : Logs) (k : PlainKey) (a : PlainAttempt) → new ≡ logs → IsLook (logs k) a → IsLook (new k) a
same_stays logs new k a e h = subst (λ (f : Logs). IsLook (f k) a) (sym e) h

pub grown_stays : (logs new : Logs) (k : PlainKey) (s : PlainSubmission) (now : ℕ) (a : PlainAttempt)
    → new ≡ with_log logs k (decide (logs k) s now).log → IsLook (logs k) a → IsLook (new k) a
grown_stays logs new k s now a e h =
    let g = decide_extends (logs k) s now in
    subst (λ (l : List PlainEntry). IsLook l a) (sym (value_of_updated logs new k (decide (logs k) s now).log e ∙ g.1))
    (is_look_extended (logs k) g.0 a h)

-- a decision extends a log or leaves it unchanged
pub decided_stays : (logs new : Logs) (k : PlainKey) (s : PlainSubmission) (now : ℕ) (r : PlainReply) (a : PlainAttempt)
    → DecidesOrOutOfMemory logs k s now r new → IsLook (logs k) a → IsLook (new k) a
decided_stays logs new k s now r a (inl d) h = same_stays logs new k a d.1 h
decided_stays logs new k s now r a (inr d) h = grown_stays logs new k s now a d.1 h

-- a commit that decides also keeps looks valid, and the work is unchanged
pub committed_stays : (logs new : Logs) (k : PlainKey) (a w : PlainAttempt) (now : ℕ) (r : PlainReply)
    → CommitsOrOutOfMemory logs k a now (decided r) new → w ≡ a → IsLook (logs k) a → IsLook (new k) w
committed_stays logs new k a w now r (inl d) e h =
    subst (λ (x : PlainAttempt). IsLook (new k) x) (sym e) (same_stays logs new k a d.1 h)
committed_stays logs new k a w now r (inr d) e h =
    subst (λ (x : PlainAttempt). IsLook (new k) x) (sym e) (grown_stays logs new k a.submission now a d.2 h)

-- a look at the current log is valid
pub seen_now : (log : List PlainEntry) (s : PlainSubmission) (l : PlainLook) → l ≡ look_at log s
    → IsLook log (record { submission = s; look = l })
seen_now log s l e = subst (λ (x : PlainLook). IsLook log (record { submission = s; look = x })) (sym e) (is_look_now log s)
