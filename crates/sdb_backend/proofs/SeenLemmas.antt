-- The observed history of a pass, and looks at it.
use Rattle.std.proofs.Common.{◌≡◌, List, Result, Ok, Err, IfOk, sym, subst}
use Rattle.std.specs.declared.alloc.AllocError.{AllocError}
use Rattle.sdb_oplog.specs.Plain.{PlainEntry, PlainSubmission}
use Rattle.sdb_desk.specs.Machine.{PlainLook, PlainAttempt, PlainOutcome, decided, moved}
use Rattle.sdb_desk.specs.View.{plain_look}
use Rattle.sdb_desk.specs.Looks.{IsLook}
use Rattle.sdb_desk.specs.laws.LookLaws.{is_look_now, is_look_extended}
use Rattle.sdb_desk.specs.declared.work.Look.{Look}
use Rattle.sdb_submit.specs.Calls.{LooksOrOutOfMemory, look_view, OnMoved}
use Rattle.sdb_backend.specs.HistoryOrder.{IsExtension}

pub is_look_of_extension : (log new : List PlainEntry) (a : PlainAttempt) → IsExtension new log → IsLook log a → IsLook new a
is_look_of_extension log new a h look = subst (λ (l : List PlainEntry). IsLook l a) (sym h.1) (is_look_extended log h.0 a look)

-- the result of a look is a look at the log
pub look_result_is_look : (log new : List PlainEntry) (s : PlainSubmission) (r : Result Look AllocError) → LooksOrOutOfMemory log s (look_view r) → new ≡ log
    → IfOk r (λ l. IsLook new (record { submission = s; look = plain_look l }))
look_result_is_look log new s (Ok l) h e =
    subst (λ (x : List PlainEntry). IsLook x (record { submission = s; look = plain_look l })) (sym e)
    (subst (λ (x : PlainLook). IsLook log (record { submission = s; look = x })) (sym h) (is_look_now log s))
look_result_is_look log new s (Err e) h same = tt

pub map_ok : {A E : Type 0} {P Q : A → Type 0} (r : Result A E) → ((x : A) → P x → Q x) → IfOk r P → IfOk r Q
map_ok (Ok x) f p = f x p
map_ok (Err e) f p = tt

pub map_moved : {P Q : PlainLook → Type 0} (o : PlainOutcome) → ((x : PlainLook) → P x → Q x) → OnMoved o P → OnMoved o Q
map_moved (decided r) f p = tt
map_moved (moved l) f p = f l p
