-- The lines of steps and of their answers. A step is a JSON object (RFC 8259) with the session number `s` and the
-- step's name `do`.
--
-- The other members are, by step:
--
-- - `begin`: the names `c`, `d` and `src`, the number `seq`, a content, and optionally the version `v`
-- - `commit`: optionally the moment `ms`
-- - `fetch`, `unsubscribe`, `forget`: `c` and `d`
-- - `snapshot`, `subscribe`: `c`, `d`, and optionally the version `v`
-- - `at`: `c`, `d`, and optionally the moment `ts`
-- - `take`: `c`, `d` and the number `max`
-- - `work`: none
--
-- Members are read as those of a message, and unknown ones are ignored. A line that is no step is answered with its
-- code alone.
use Rattle.std.specs.Prelude.{ℕ, List, [], ◌∷◌, ◌++◌, Bool, if◌then◌else◌, nat_lt, bytes_eq, Option, Some, None, Result, Ok, Err, option_and_then, codes}
use Rattle.std.specs.Option.{option_map_or, ok_or}
use Rattle.std.specs.Result.{is_ok}
use Rattle.serde_json.specs.Data.{Data, null, number, unsigned, string, array, object, Items, no_items, item, no_members, member}
use Rattle.serde_json.specs.Find.{get, as_str}
use Rattle.serde_json.specs.Written.{compact_text}
use Rattle.sdb_value.specs.FromJson.{count_of, data_of_value}
use Rattle.sdb_value.specs.Value.{Value}
use Rattle.sdb_oplog.specs.Decide.{PlainReply, stored, repeated, refused}
use Rattle.sdb_oplog.specs.Plain.{PlainEntry}
use Rattle.sdb_oplog.specs.Refusal.{result_and_then}
use Rattle.sdb_oplog.specs.declared.codes.Code.{Code}
use Rattle.sdb_oplog.specs.declared.codes.Code.TheVariants.{E1, E2, E3, E4, E5, E6, E7, E8, E9, E10, E11}
use Rattle.sdb_wire.specs.Wire.{count_member, name_member, present_member, read_optional, key_of, content_of, parse_data}
use Rattle.sdb_wire.specs.Answers.{entry_data}
use Rattle.sdb_steps.specs.OneStep.{EventReply, decided, fetched, snapshot_fetched, moment_fetched, subscribed, taken}
use Rattle.sdb_steps.specs.Picks as plain
use Rattle.sdb_steps.specs.Picks.{StepKind, PlainSessionStep, Notice, PlainStepAnswer}

-- ---- reading

-- the number of a session: an integer from 0 to 63
abbrev pub session_of : Data → Option ℕ
session_of d = option_and_then (λ n. if nat_lt n 64 then Some n else None) (count_member (codes "s") d)

-- the step of session n with this act
abbrev pub step_of_session : ℕ → StepKind → PlainSessionStep
step_of_session n a = record { session = n; act = a }

-- a submission; key, version, seq, source and content are read in this order
abbrev pub begin_step_of : ℕ → Data → Result PlainSessionStep Code
begin_step_of n d =
    result_and_then
    (λ k. result_and_then
    (λ v. result_and_then (λ seq. result_and_then (λ src. result_and_then (λ m. Ok (step_of_session n (plain.begin k src seq v m)))
    (content_of d))
    (ok_or (name_member (codes "src") d) E1))
    (ok_or (count_member (codes "seq") d) E1))
    (read_optional count_of (present_member (codes "v") d)))
    (key_of d)

-- the moment of a commit: the number `ms`, or the first moment if it is absent
abbrev pub now_of : Data → Result ℕ Code
now_of d = option_map_or (λ m. ok_or (count_of m) E1) (get (codes "ms") d) (Ok 0)

-- a commit at that moment
abbrev pub commit_step_of : ℕ → Data → Result PlainSessionStep Code
commit_step_of n d = result_and_then (λ now. Ok (step_of_session n (plain.commit now))) (now_of d)

-- a fetch of the current document
abbrev pub fetch_step_of : ℕ → Data → Result PlainSessionStep Code
fetch_step_of n d = result_and_then (λ k. Ok (step_of_session n (plain.fetch k))) (key_of d)

-- the document at version `v`, or the current one
abbrev pub snapshot_step_of : ℕ → Data → Result PlainSessionStep Code
snapshot_step_of n d =
    result_and_then (λ k. result_and_then (λ v. Ok (step_of_session n (plain.snapshot k v))) (read_optional count_of (present_member (codes "v") d)))
    (key_of d)

-- the document at moment `ts`, or the current one
abbrev pub snapshot_at_time_step_of : ℕ → Data → Result PlainSessionStep Code
snapshot_at_time_step_of n d =
    result_and_then (λ k. result_and_then (λ t. Ok (step_of_session n (plain.snapshot_at_time k t))) (read_optional count_of (present_member (codes "ts") d)))
    (key_of d)

-- a queue from version `v` on, or from the current one
abbrev pub subscribe_step_of : ℕ → Data → Result PlainSessionStep Code
subscribe_step_of n d =
    result_and_then (λ k. result_and_then (λ v. Ok (step_of_session n (plain.subscribe k v))) (read_optional count_of (present_member (codes "v") d)))
    (key_of d)

-- a read of at most `max` entries; `max` is required
abbrev pub take_step_of : ℕ → Data → Result PlainSessionStep Code
take_step_of n d =
    result_and_then (λ k. result_and_then (λ max. Ok (step_of_session n (plain.take k max))) (ok_or (count_member (codes "max") d) E1))
    (key_of d)

-- the closing of the queue
abbrev pub unsubscribe_step_of : ℕ → Data → Result PlainSessionStep Code
unsubscribe_step_of n d = result_and_then (λ k. Ok (step_of_session n (plain.unsubscribe k))) (key_of d)

-- the removal of the key's cached snapshots
abbrev pub forget_step_of : ℕ → Data → Result PlainSessionStep Code
forget_step_of n d = result_and_then (λ k. Ok (step_of_session n (plain.forget k))) (key_of d)

-- the step that the text `do` names
abbrev pub act_of : ℕ → Data → Result PlainSessionStep Code
act_of n d =
    option_map_or
    (λ a. if bytes_eq a (codes "begin") then begin_step_of n d
    else (if bytes_eq a (codes "work") then Ok (step_of_session n plain.work)
    else (if bytes_eq a (codes "commit") then commit_step_of n d
    else (if bytes_eq a (codes "fetch") then fetch_step_of n d
    else (if bytes_eq a (codes "snapshot") then snapshot_step_of n d
    else (if bytes_eq a (codes "at") then snapshot_at_time_step_of n d
    else (if bytes_eq a (codes "subscribe") then subscribe_step_of n d
    else (if bytes_eq a (codes "take") then take_step_of n d
    else (if bytes_eq a (codes "unsubscribe") then unsubscribe_step_of n d
    else (if bytes_eq a (codes "forget") then forget_step_of n d else Err E1))))))))))
    (option_and_then as_str (get (codes "do") d)) (Err E1)

-- the step, or the first code that applies
abbrev pub step_of : Data → Result PlainSessionStep Code
step_of d = option_map_or (λ n. act_of n d) (session_of d) (Err E1)

-- the step of a line; one that is too long or doesn't parse is E1
abbrev pub read_step : List ℕ → Result PlainSessionStep Code
read_step line = option_map_or step_of (parse_data line) (Err E1)

-- ---- answers: compact JSON with members in byte order

-- the short name of a code
abbrev pub short_name : Code → List ℕ
short_name E1 = codes "E1"
short_name E2 = codes "E2"
short_name E3 = codes "E3"
short_name E4 = codes "E4"
short_name E5 = codes "E5"
short_name E6 = codes "E6"
short_name E7 = codes "E7"
short_name E8 = codes "E8"
short_name E9 = codes "E9"
short_name E10 = codes "E10"
short_name E11 = codes "E11"

-- the answer to a line that is no step, and to a step that failed to allocate
abbrev pub refusal_data : Code → Data
refusal_data code = object (member (codes "error") (string (short_name code)) no_members)

-- the answer with the name of session n's step
abbrev pub notice_data : List ℕ → ℕ → Data
notice_data a n = object (member (codes "do") (string a) (member (codes "s") (number (unsigned n)) no_members))

-- the refusal of a step
abbrev pub refused_data : List ℕ → ℕ → Code → Data
refused_data a n code = object (
    member (codes "do") (string a)
    (member (codes "error") (string (short_name code))
    (member (codes "s") (number (unsigned n)) no_members)))

-- entries, each without its key
abbrev pub entry_items : List PlainEntry → Items
entry_items [] = no_items
entry_items (e ∷ es) = item (entry_data e) (entry_items es)

-- entries as an array
abbrev pub entries_data : List PlainEntry → Data
entries_data es = array (entry_items es)

-- an operation stored at version v, with the missed entries
abbrev pub stored_data : ℕ → ℕ → List PlainEntry → Data
stored_data n v missed = object (
    member (codes "do") (string (codes "commit"))
    (member (codes "missed") (entries_data missed)
    (member (codes "s") (number (unsigned n))
    (member (codes "v") (number (unsigned v)) no_members))))

-- the answer to a decision; a duplicate has no missed entries
abbrev pub decided_data : ℕ → PlainReply → Data
decided_data n (stored v missed) = stored_data n v missed
decided_data n (repeated v) = stored_data n v []
decided_data n (refused code) = refused_data (codes "commit") n code

-- the document at version v, or its absence
abbrev pub step_document_data : List ℕ → ℕ → ℕ → Option Value → Data
step_document_data a n v (Some j) = object (
    member (codes "data") (data_of_value j)
    (member (codes "do") (string a)
    (member (codes "s") (number (unsigned n))
    (member (codes "v") (number (unsigned v)) no_members))))
step_document_data a n v None = object (
    member (codes "do") (string a)
    (member (codes "s") (number (unsigned n))
    (member (codes "type") null
    (member (codes "v") (number (unsigned v)) no_members))))

-- the version at which a queue starts
abbrev pub started_data : ℕ → ℕ → Data
started_data n v = object (
    member (codes "do") (string (codes "subscribe"))
    (member (codes "s") (number (unsigned n))
    (member (codes "v") (number (unsigned v)) no_members)))

-- the entries that a take returned
abbrev pub taken_data : ℕ → List PlainEntry → Data
taken_data n es = object (
    member (codes "do") (string (codes "take"))
    (member (codes "ops") (entries_data es)
    (member (codes "s") (number (unsigned n)) no_members)))

-- the machine's reply to session n
abbrev pub reply_data : ℕ → EventReply → Data
reply_data n (decided r) = decided_data n r
reply_data n (fetched f) = step_document_data (codes "fetch") n f.version f.snapshot
reply_data n (snapshot_fetched (Ok f)) = step_document_data (codes "snapshot") n f.version f.snapshot
reply_data n (snapshot_fetched (Err code)) = refused_data (codes "snapshot") n code
reply_data n (moment_fetched f) = step_document_data (codes "at") n f.version f.snapshot
reply_data n (subscribed (Ok v)) = started_data n v
reply_data n (subscribed (Err code)) = refused_data (codes "subscribe") n code
reply_data n (taken es) = taken_data n es

-- the answer to a step of session n that is no event
abbrev pub notice_answer_data : ℕ → Notice → Data
notice_answer_data n plain.began = notice_data (codes "begin") n
notice_answer_data n plain.worked = notice_data (codes "work") n
notice_answer_data n plain.moved = notice_data (codes "moved") n
notice_answer_data n plain.unsubscribed = notice_data (codes "unsubscribe") n
notice_answer_data n plain.forgotten = notice_data (codes "forget") n
notice_answer_data n plain.idle = notice_data (codes "idle") n
notice_answer_data n plain.full = refused_data (codes "subscribe") n E11

-- the answer to a step of session n
abbrev pub step_answer_data : ℕ → PlainStepAnswer → Data
step_answer_data n (plain.reply_answer r) = reply_data n r
step_answer_data n (plain.notice_answer a) = notice_answer_data n a
step_answer_data n plain.out_of_memory = refusal_data E10

-- the answer line of a step of session n
abbrev pub step_answer_text : ℕ → PlainStepAnswer → List ℕ
step_answer_text n a = compact_text (step_answer_data n a)

-- the answer line of a line that is no step
abbrev pub step_refusal_text : Code → List ℕ
step_refusal_text code = compact_text (refusal_data code)

-- ---- lines

-- the step of a line, or the code that refuses it; `None` is a line that is too long or not UTF-8
abbrev pub reading_step : Option (List ℕ) → Result PlainSessionStep Code
reading_step None = Err E1
reading_step (Some line) = read_step line

abbrev pub is_step : List ℕ → Bool
is_step line = is_ok (read_step line)

abbrev pub line_of : List ℕ → List ℕ
line_of text = text ++ 10 ∷ []

-- the readings that are steps
abbrev pub steps_in : List (Result PlainSessionStep Code) → List PlainSessionStep
steps_in [] = []
steps_in (Ok s ∷ readings) = s ∷ steps_in readings
steps_in (Err code ∷ readings) = steps_in readings

-- one line for each reading: the answers to the steps in order, and the codes of the others
abbrev pub lines_text : List (Result PlainSessionStep Code) → List PlainStepAnswer → List ℕ
lines_text [] answers = []
lines_text (Err code ∷ readings) answers = line_of (step_refusal_text code) ++ lines_text readings answers
lines_text (Ok s ∷ readings) [] = []
lines_text (Ok s ∷ readings) (a ∷ answers) = line_of (step_answer_text s.session a) ++ lines_text readings answers
