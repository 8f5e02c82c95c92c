-- The lines that are commands. A command is a JSON object (RFC 8259) with the command's name `a`.
--
-- The other members are, by command:
--
-- - `start`: the numbers `v` and `seq`, the name `src`, and a create
-- - `edit`: an operation
-- - `send`: none
-- - `op`: the number `seq`, the name `src`, and a content, as in the server's message
--
-- Members are read as those of a message, and other ones are ignored.
use Rattle.std.specs.Prelude.{ℕ, List, Bool, if◌then◌else◌, bytes_eq, Option, Some, None, Result, Ok, Err, option_and_then, codes}
use Rattle.std.specs.Option.{option_map_or, ok_or}
use Rattle.std.specs.Result.{is_ok}
use Rattle.serde_json.specs.Data.{Data}
use Rattle.serde_json.specs.Find.{get, as_str}
use Rattle.sdb_oplog.specs.Plain.{PlainContent, create, delete, edit}
use Rattle.sdb_oplog.specs.Refusal.{result_and_then}
use Rattle.sdb_oplog.specs.declared.codes.Code.{Code}
use Rattle.sdb_oplog.specs.declared.codes.Code.TheVariants.{E1}
use Rattle.sdb_wire.specs.Wire.{count_member, name_member, content_of, parse_data}
use Rattle.sdb_client_main.specs.Commands.{ClientCommand, start, make_edit, send_edit, process_entry}

abbrev pub started_by : ℕ → ℕ → List ℕ → PlainContent → Result ClientCommand Code
started_by version seq source (create document) = Ok (start source version seq document)
started_by version seq source delete = Err E1
started_by version seq source (edit op) = Err E1

abbrev pub start_of : Data → Result ClientCommand Code
start_of d =
    result_and_then (λ version. result_and_then (λ seq. result_and_then (λ source. result_and_then (started_by version seq source)
    (content_of d))
    (ok_or (name_member (codes "src") d) E1))
    (ok_or (count_member (codes "seq") d) E1))
    (ok_or (count_member (codes "v") d) E1)

abbrev pub made_by : PlainContent → Result ClientCommand Code
made_by (create document) = Err E1
made_by delete = Err E1
made_by (edit op) = Ok (make_edit op)

abbrev pub edit_of : Data → Result ClientCommand Code
edit_of d = result_and_then made_by (content_of d)

abbrev pub entry_command_of : Data → Result ClientCommand Code
entry_command_of d =
    result_and_then (λ seq. result_and_then (λ source. result_and_then (λ content. Ok (process_entry source seq content))
    (content_of d))
    (ok_or (name_member (codes "src") d) E1))
    (ok_or (count_member (codes "seq") d) E1)

-- the command that the text `a` names
abbrev pub command_of : Data → Result ClientCommand Code
command_of d =
    option_map_or
    (λ a. if bytes_eq a (codes "start") then start_of d
    else (if bytes_eq a (codes "edit") then edit_of d
    else (if bytes_eq a (codes "send") then Ok send_edit
    else (if bytes_eq a (codes "op") then entry_command_of d else Err E1))))
    (option_and_then as_str (get (codes "a") d)) (Err E1)

-- the command of a line; one that is too long or doesn't parse is E1
abbrev pub read_command : List ℕ → Result ClientCommand Code
read_command line = option_map_or command_of (parse_data line) (Err E1)

-- the same, where `None` is a line that is too long or not UTF-8
abbrev pub reading_command : Option (List ℕ) → Result ClientCommand Code
reading_command None = Err E1
reading_command (Some line) = read_command line

abbrev pub is_command : List ℕ → Bool
is_command line = is_ok (read_command line)
