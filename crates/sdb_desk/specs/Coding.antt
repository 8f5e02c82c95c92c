-- Codes of attempts, documents and slots, which decide their equality.
use Rattle.std.specs.Prelude.{ℕ, List, Option, refl}
use Rattle.std.specs.Coded.{Coded, code_by, coded×, coded_ℕ, coded_option}
use Rattle.sdb_oplog.specs.Plain.{PlainEntry, PlainSubmission}
use Rattle.sdb_oplog.specs.Coding.{submission_code, log_code}
use Rattle.sdb_value.specs.Coding.{value_code}
use Rattle.sdb_value.specs.Value.{Value}
use Rattle.sdb_snapcache.specs.CacheModel.{Snapshot}
use Rattle.sdb_snapcache.specs.View.{snapshots_code}
use Rattle.sdb_desk.specs.DocumentModel.{PlainDocument}
use Rattle.sdb_subscribe.specs.Coding.{ringed_queues_code}
use Rattle.sdb_subscribe.specs.Ring.{RingedQueues}
use Rattle.sdb_desk.specs.Machine.{PlainLook, PlainAttempt}
use Rattle.sdb_desk.specs.SlotModel.{PlainSlot}

-- version, duplicate, missed entries, snapshot
abbrev Look : Type 0
Look = (ℕ × Option ℕ) × (List PlainEntry × Option Value)

abbrev pub look_code : Coded PlainLook
look_code =
    code_by Look
    (coded× (coded× coded_ℕ (coded_option coded_ℕ)) (coded× log_code (coded_option value_code)))
    (λ l. ((l.version, l.repeat), (l.missed, l.snapshot)))
    (λ p. record { version = p.0.0; repeat = p.0.1; missed = p.1.0; snapshot = p.1.1 }) (λ _. refl)

abbrev pub attempt_code : Coded PlainAttempt
attempt_code =
    code_by (PlainSubmission × PlainLook) (coded× submission_code look_code) (λ a. (a.submission, a.look))
    (λ p. record { submission = p.0; look = p.1 }) (λ _. refl)

abbrev pub document_code : Coded PlainDocument
document_code =
    code_by (List PlainEntry × List Snapshot) (coded× log_code snapshots_code) (λ d. (d.log, d.cache))
    (λ p. record { log = p.0; cache = p.1 }) (λ _. refl)

abbrev pub slot_code : Coded PlainSlot
slot_code =
    code_by (PlainDocument × RingedQueues) (coded× document_code ringed_queues_code) (λ t. (t.document, t.queues))
    (λ p. record { document = p.0; queues = p.1 }) (λ _. refl)
