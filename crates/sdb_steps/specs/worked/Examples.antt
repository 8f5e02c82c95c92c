-- Examples: small lines with their steps and answers.
use Rattle.std.specs.Prelude.{◌≡◌, ℕ, pos, List, [], ◌∷◌, Some, None, Ok, Err, codes, refl}
use Rattle.std.specs.Fmt.{digits}
use Rattle.serde_json.proofs.OnLiterals.{serde_json_on_literals}
use Rattle.sdb_value.specs.Value.{whole}
use Rattle.sdb_component.specs.Plain.{na}
use Rattle.sdb_oplog.specs.Decide.{stored, repeated, refused}
use Rattle.sdb_oplog.specs.Keys.{PlainKey}
use Rattle.sdb_oplog.specs.Plain.{PlainContent, create, delete, edit, PlainEntry}
use Rattle.sdb_oplog.specs.declared.codes.Code.TheVariants.{E1, E2, E3, E4, E8}
use Rattle.sdb_steps.specs.Lines.{step_of_session, read_step, step_answer_text, step_refusal_text}
use Rattle.sdb_steps.specs.OneStep.{decided, fetched, snapshot_fetched, moment_fetched, subscribed, taken}
use Rattle.sdb_steps.specs.Picks as plain
use Rattle.sdb_steps.specs.Picks.{reply_answer, notice_answer, out_of_memory}

abbrev here : PlainKey
here = record { collection = codes "c"; id = codes "d" }

-- an entry stored at version v, from source a
abbrev at : ℕ → PlainContent → PlainEntry
at v m =
    record {
      version = v;
      moment = 0;
      content = m;
      arrived = record { src = codes "a"; seq = 1; version = None; content = m; via = codes "c"; by = 0 };
    }

-- ---- lines that are steps

pub row_begin : read_step
    (codes "{\"s\":0,\"do\":\"begin\",\"c\":\"c\",\"d\":\"d\",\"src\":\"a\",\"seq\":1,\"del\":true}")
    ≡ Ok (step_of_session 0 (plain.begin here (codes "a") 1 None delete))
unfolding serde_json_on_literals
row_begin = refl

pub row_begin_at : read_step
    (codes "{\"s\":0,\"do\":\"begin\",\"c\":\"c\",\"d\":\"d\",\"src\":\"a\",\"seq\":1,\"v\":2,\"op\":[{\"p\":[],\"na\":1}]}") ≡ Ok (step_of_session 0 (plain.begin here (codes "a") 1 (Some 2) (edit (record { path = []; act = na (pos 1) } ∷ []))))
unfolding serde_json_on_literals
row_begin_at = refl

pub row_work : read_step (codes "{\"do\":\"work\",\"s\":63}") ≡ Ok (step_of_session 63 plain.work)
unfolding serde_json_on_literals
row_work = refl

pub row_commit : read_step (codes "{\"s\":1,\"do\":\"commit\",\"other\":[]}") ≡ Ok (step_of_session 1 (plain.commit 0))
unfolding serde_json_on_literals
row_commit = refl

pub row_commit_at : read_step (codes "{\"s\":1,\"do\":\"commit\",\"ms\":100}") ≡ Ok (step_of_session 1 (plain.commit 100))
unfolding serde_json_on_literals
row_commit_at = refl

pub row_fetch : read_step (codes "{\"s\":1,\"do\":\"fetch\",\"c\":\"c\",\"d\":\"d\"}") ≡ Ok (step_of_session 1 (plain.fetch here))
unfolding serde_json_on_literals
row_fetch = refl

pub row_snapshot : read_step (codes "{\"s\":1,\"do\":\"snapshot\",\"c\":\"c\",\"d\":\"d\",\"v\":7}")
    ≡ Ok (step_of_session 1 (plain.snapshot here (Some 7)))
unfolding serde_json_on_literals
row_snapshot = refl

pub row_at : read_step (codes "{\"s\":1,\"do\":\"at\",\"c\":\"c\",\"d\":\"d\",\"ts\":150}")
    ≡ Ok (step_of_session 1 (plain.snapshot_at_time here (Some 150)))
unfolding serde_json_on_literals
row_at = refl

pub row_at_present : read_step (codes "{\"s\":1,\"do\":\"at\",\"c\":\"c\",\"d\":\"d\",\"ts\":null}")
    ≡ Ok (step_of_session 1 (plain.snapshot_at_time here None))
unfolding serde_json_on_literals
row_at_present = refl

pub row_subscribe : read_step (codes "{\"s\":1,\"do\":\"subscribe\",\"c\":\"c\",\"d\":\"d\",\"v\":null}")
    ≡ Ok (step_of_session 1 (plain.subscribe here None))
unfolding serde_json_on_literals
row_subscribe = refl

pub row_take : read_step (codes "{\"s\":1,\"do\":\"take\",\"c\":\"c\",\"d\":\"d\",\"max\":3}")
    ≡ Ok (step_of_session 1 (plain.take here 3))
unfolding serde_json_on_literals
row_take = refl

pub row_unsubscribe : read_step (codes "{\"s\":1,\"do\":\"unsubscribe\",\"c\":\"c\",\"d\":\"d\"}")
    ≡ Ok (step_of_session 1 (plain.unsubscribe here))
unfolding serde_json_on_literals
row_unsubscribe = refl

pub row_forget : read_step (codes "{\"s\":1,\"do\":\"forget\",\"c\":\"c\",\"d\":\"d\"}")
    ≡ Ok (step_of_session 1 (plain.forget here))
unfolding serde_json_on_literals
row_forget = refl

-- ---- lines that are no steps

pub row_no_json : read_step (codes "work") ≡ Err E1
unfolding serde_json_on_literals
row_no_json = refl

pub row_after_sessions : read_step (codes "{\"do\":\"work\",\"s\":64}") ≡ Err E1
unfolding serde_json_on_literals
row_after_sessions = refl

pub row_no_such_step : read_step (codes "{\"do\":\"rest\",\"s\":0}") ≡ Err E1
unfolding serde_json_on_literals
row_no_such_step = refl

pub row_no_max : read_step (codes "{\"s\":1,\"do\":\"take\",\"c\":\"c\",\"d\":\"d\"}") ≡ Err E1
unfolding serde_json_on_literals
row_no_max = refl

pub row_no_moment : read_step (codes "{\"s\":1,\"do\":\"at\",\"c\":\"c\",\"d\":\"d\",\"ts\":\"1\"}") ≡ Err E1
unfolding serde_json_on_literals
row_no_moment = refl

pub row_null_moment : read_step (codes "{\"s\":1,\"do\":\"commit\",\"ms\":null}") ≡ Err E1
unfolding serde_json_on_literals
row_null_moment = refl

pub row_after_moments : read_step (codes "{\"s\":1,\"do\":\"commit\",\"ms\":9007199254740992}") ≡ Err E1
unfolding serde_json_on_literals
row_after_moments = refl

pub row_no_src : read_step (codes "{\"s\":0,\"do\":\"begin\",\"c\":\"c\",\"d\":\"d\",\"seq\":1,\"del\":true}") ≡ Err E1
unfolding serde_json_on_literals
row_no_src = refl

pub row_no_type : read_step
    (codes "{\"s\":0,\"do\":\"begin\",\"c\":\"c\",\"d\":\"d\",\"src\":\"a\",\"seq\":1,\"create\":{\"type\":\"text\"}}") ≡ Err E2
unfolding serde_json_on_literals
row_no_type = refl

pub row_no_op : read_step (codes "{\"s\":0,\"do\":\"begin\",\"c\":\"c\",\"d\":\"d\",\"src\":\"a\",\"seq\":1,\"op\":1}")
    ≡ Err E3
unfolding serde_json_on_literals
row_no_op = refl

-- ---- answers

-- a delete at version 0, and then a create of 1
abbrev two : List PlainEntry
two = at 0 delete ∷ at 1 (create (whole (pos 1))) ∷ []

pub row_began : step_answer_text 3 (notice_answer plain.began) ≡ codes "{\"do\":\"begin\",\"s\":3}"
unfolding serde_json_on_literals digits
row_began = refl

pub row_worked : step_answer_text 3 (notice_answer plain.worked) ≡ codes "{\"do\":\"work\",\"s\":3}"
unfolding serde_json_on_literals digits
row_worked = refl

pub row_moved : step_answer_text 3 (notice_answer plain.moved) ≡ codes "{\"do\":\"moved\",\"s\":3}"
unfolding serde_json_on_literals digits
row_moved = refl

pub row_idle : step_answer_text 3 (notice_answer plain.idle) ≡ codes "{\"do\":\"idle\",\"s\":3}"
unfolding serde_json_on_literals digits
row_idle = refl

pub row_unsubscribed : step_answer_text 3 (notice_answer plain.unsubscribed) ≡ codes "{\"do\":\"unsubscribe\",\"s\":3}"
unfolding serde_json_on_literals digits
row_unsubscribed = refl

pub row_forgotten : step_answer_text 3 (notice_answer plain.forgotten) ≡ codes "{\"do\":\"forget\",\"s\":3}"
unfolding serde_json_on_literals digits
row_forgotten = refl

pub row_full : step_answer_text 3 (notice_answer plain.full) ≡ codes "{\"do\":\"subscribe\",\"error\":\"E11\",\"s\":3}"
unfolding serde_json_on_literals digits
row_full = refl

pub row_stored : step_answer_text 3 (reply_answer (decided (stored 5 (at 4 delete ∷ []))))
    ≡ codes "{\"do\":\"commit\",\"missed\":[{\"del\":true,\"seq\":1,\"src\":\"a\",\"v\":4}],\"s\":3,\"v\":5}"
unfolding serde_json_on_literals digits
row_stored = refl

pub row_repeated : step_answer_text 3 (reply_answer (decided (repeated 5)))
    ≡ codes "{\"do\":\"commit\",\"missed\":[],\"s\":3,\"v\":5}"
unfolding serde_json_on_literals digits
row_repeated = refl

pub row_refused : step_answer_text 3 (reply_answer (decided (refused E8))) ≡ codes "{\"do\":\"commit\",\"error\":\"E8\",\"s\":3}"
unfolding serde_json_on_literals digits
row_refused = refl

pub row_fetched : step_answer_text 3 (reply_answer (fetched (record { version = 5; snapshot = Some (whole (pos 1)) })))
    ≡ codes "{\"data\":1,\"do\":\"fetch\",\"s\":3,\"v\":5}"
unfolding serde_json_on_literals digits
row_fetched = refl

pub row_nothing : step_answer_text 3 (reply_answer (snapshot_fetched (Ok (record { version = 0; snapshot = None }))))
    ≡ codes "{\"do\":\"snapshot\",\"s\":3,\"type\":null,\"v\":0}"
unfolding serde_json_on_literals digits
row_nothing = refl

pub row_not_come : step_answer_text 3 (reply_answer (snapshot_fetched (Err E4))) ≡ codes "{\"do\":\"snapshot\",\"error\":\"E4\",\"s\":3}"
unfolding serde_json_on_literals digits
row_not_come = refl

pub row_timed : step_answer_text 3 (reply_answer (moment_fetched (record { version = 2; snapshot = Some (whole (pos 1)) })))
    ≡ codes "{\"data\":1,\"do\":\"at\",\"s\":3,\"v\":2}"
unfolding serde_json_on_literals digits
row_timed = refl

pub row_too_early : step_answer_text 3 (reply_answer (moment_fetched (record { version = 0; snapshot = None })))
    ≡ codes "{\"do\":\"at\",\"s\":3,\"type\":null,\"v\":0}"
unfolding serde_json_on_literals digits
row_too_early = refl

pub row_started : step_answer_text 3 (reply_answer (subscribed (Ok 5))) ≡ codes "{\"do\":\"subscribe\",\"s\":3,\"v\":5}"
unfolding serde_json_on_literals digits
row_started = refl

pub row_not_started : step_answer_text 3 (reply_answer (subscribed (Err E4)))
    ≡ codes "{\"do\":\"subscribe\",\"error\":\"E4\",\"s\":3}"
unfolding serde_json_on_literals digits
row_not_started = refl

pub row_taken : step_answer_text 3 (reply_answer (taken two))
    ≡ codes "{\"do\":\"take\",\"ops\":[{\"del\":true,\"seq\":1,\"src\":\"a\",\"v\":0},{\"create\":{\"data\":1,\"type\":\"http://sharejs.org/types/JSONv0\"},\"seq\":1,\"src\":\"a\",\"v\":1}],\"s\":3}"
unfolding serde_json_on_literals digits
row_taken = refl

pub row_no_memory : step_answer_text 3 out_of_memory ≡ codes "{\"error\":\"E10\"}"
unfolding serde_json_on_literals
row_no_memory = refl

pub row_no_step : step_refusal_text E1 ≡ codes "{\"error\":\"E1\"}"
unfolding serde_json_on_literals
row_no_step = refl
