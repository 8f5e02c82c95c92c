-- The line of an entry, and the submission to which a line parses. A line is compact JSON (RFC 8259).
use Rattle.std.specs.Prelude.{ℕ, List, true, if◌then◌else◌, Option, Some, None, codes, option_and_then}
use Rattle.std.specs.Result.{result_ok}
use Rattle.std.specs.Str.{is_utf8}
use Rattle.serde_json.specs.Data.{Data, null, boolean, number, unsigned, string, object, Members, no_members, member}
use Rattle.serde_json.specs.Find.{get}
use Rattle.serde_json.specs.Read.{read}
use Rattle.sdb_component.specs.ToJson.{op_data}
use Rattle.sdb_oplog.specs.Keys.{PlainKey}
use Rattle.sdb_oplog.specs.Plain.{PlainContent, create, delete, edit, PlainSubmission, PlainEntry}
use Rattle.sdb_value.specs.FromJson.{count_of}
use Rattle.sdb_wire.specs.Answers.{create_data}
use Rattle.sdb_wire.specs.Wire.{key_of, name_member, count_member, read_optional, present_member, content_of}

-- ---- writing: members in byte order

abbrev pub optional_version_data : Option ℕ → Data
optional_version_data None = null
optional_version_data (Some n) = number (unsigned n)

-- the submitted content and the base version
abbrev pub arrived_members : PlainContent → Data → Members
arrived_members (create v) w = member (codes "create") (create_data v) (member (codes "v") w no_members)
arrived_members delete w = member (codes "del") (boolean true) (member (codes "v") w no_members)
arrived_members (edit op) w = member (codes "op") (op_data op) (member (codes "v") w no_members)

abbrev pub arrived_data : PlainSubmission → Data
arrived_data s = object (arrived_members s.content (optional_version_data s.version))

-- the key, the stored content and the moment
abbrev pub content_members_with_moment : PlainKey → PlainContent → ℕ → Members → Members
content_members_with_moment k (create v) m ms =
    member (codes "c") (string k.collection)
    (member (codes "create") (create_data v)
    (member (codes "d") (string k.id)
    (member (codes "m") (number (unsigned m)) ms)))
content_members_with_moment k delete m ms =
    member (codes "c") (string k.collection)
    (member (codes "d") (string k.id)
    (member (codes "del") (boolean true)
    (member (codes "m") (number (unsigned m)) ms)))
content_members_with_moment k (edit op) m ms =
    member (codes "c") (string k.collection)
    (member (codes "d") (string k.id)
    (member (codes "m") (number (unsigned m))
    (member (codes "op") (op_data op) ms)))

abbrev pub line_tail : PlainEntry → Members
line_tail e =
    member (codes "seq") (number (unsigned e.arrived.seq))
    (member (codes "src") (string e.arrived.src)
    (member (codes "v") (number (unsigned e.version))
    (member (codes "via") (string e.arrived.via) no_members)))

abbrev pub line_data : PlainKey → PlainEntry → Data
line_data k e = object (
    member (codes "arrived") (arrived_data e.arrived)
    (member (codes "by") (number (unsigned e.arrived.by))
    (content_members_with_moment k e.content e.moment (line_tail e))))

-- ---- parsing

-- the submitted content and the base version
abbrev pub arrived_of_data : Data → Option (PlainContent × Option ℕ)
arrived_of_data d =
    option_and_then (λ m. option_and_then (λ v. Some (m, v)) (result_ok (read_optional count_of (present_member (codes "v") d)))) (result_ok (content_of d))

-- the source, the collection name and the pass number
abbrev pub sent_of_data : Data → PlainContent × Option ℕ → ℕ → Option PlainSubmission
sent_of_data d a n =
    option_and_then (λ s. option_and_then (λ w. option_and_then (λ b.
    Some (record { src = s; seq = n; version = a.1; content = a.0; via = w; by = b }))
    (count_member (codes "by") d))
    (name_member (codes "via") d))
    (name_member (codes "src") d)

abbrev pub submission_of_data : Data → Option PlainSubmission
submission_of_data d =
    option_and_then (λ a. option_and_then (sent_of_data d a) (count_member (codes "seq") d)) (option_and_then arrived_of_data (get (codes "arrived") d))

-- the content of a line: a submission of a key, and the moment at which it was stored
pub record PlainLineContent : Type 0 where
  pub key : PlainKey
  pub submission : PlainSubmission
  pub moment : ℕ

abbrev pub line_of_data : Data → Option PlainLineContent
line_of_data d =
    option_and_then (λ k. option_and_then (λ s. option_and_then (λ m. Some (record { key = k; submission = s; moment = m }))
    (count_member (codes "m") d))
    (submission_of_data d))
    (result_ok (key_of d))

-- the value of a line's data; a line that isn't UTF-8 or JSON has none
abbrev pub value_of_line : {A : Type 0} → (Data → Option A) → List ℕ → Option A
value_of_line f line = if is_utf8 line then option_and_then f (read line) else None

-- the content of a line
abbrev pub read_line : List ℕ → Option PlainLineContent
read_line = value_of_line line_of_data
