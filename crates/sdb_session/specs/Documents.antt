-- Requests for a document: what is read, and the answer.
use Rattle.std.specs.Prelude.{ℕ, Option, None, Result}
use Rattle.sdb_value.specs.Value.{Value}
use Rattle.sdb_oplog.specs.Keys.{PlainKey}
use Rattle.sdb_oplog.specs.declared.codes.Code.{Code}
use Rattle.sdb_desk.specs.Machine.{PlainFetchResult}
use Rattle.sdb_submit.specs.Calls.{fetch as fetch_call, snapshot as snapshot_call, snapshot_at_time as at_time_call}
use Rattle.sdb_submit.specs.SubmitLoop.{CallRelation}
use Rattle.sdb_wire.specs.Wire.{PlainRequest, fetch, snapshot, snapshot_at_time}
use Rattle.sdb_wire.specs.Answers.{PlainAnswer, fetched, snapshot as snapshot_answer, snapshot_at_time as at_time_answer}
use Rattle.sdb_session.specs.declared.documents.ReadPoint.{ReadPoint}
use Rattle.sdb_session.specs.declared.documents.ReadPoint.TheVariants.{Current, Version, Moment}

abbrev pub document_request : PlainKey → ReadPoint → PlainRequest
document_request k Current = fetch k None
document_request k (Version v n) = snapshot k v n
document_request k (Moment m n) = snapshot_at_time k m n

-- the answer that has a document
abbrev pub document_at : PlainKey → ReadPoint → ℕ → Option Value → PlainAnswer
document_at k Current v d = fetched k v d
document_at k (Version w n) v d = snapshot_answer n v d
document_at k (Moment m n) v d = at_time_answer n v d

-- the desk reads the document
abbrev pub ReadsDocument : {P : Type 0} → CallRelation P → ReadPoint → P → Result PlainFetchResult Code → P → Type 0
ReadsDocument acts Current p r q = acts fetch_call p r q
ReadsDocument acts (Version v n) p r q = acts (snapshot_call v) p r q
ReadsDocument acts (Moment m n) p r q = acts (at_time_call m) p r q
