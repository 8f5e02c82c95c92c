use Rattle.std.proofs.Common.{◌≡◌, Option, Some, None, Result, Ok, Err, IfOk, sym, ◌∙◌, subst}
use Rattle.std.specs.declared.alloc.AllocError.{AllocError}
use Rattle.sdb_oplog.specs.declared.codes.Code.{Code}
use Rattle.sdb_dump.specs.View.{IsNoneIfRefused}
use Rattle.sdb_oplog.specs.Keys.{plain_key}
use Rattle.sdb_oplog.specs.declared.keys.Key.{Key}
use Rattle.sdb_wire.specs.Wire.{key_of}
use Rattle.sdb_dump.proofs.LimitLemmas.{submission_fits, key_fits}
use Rattle.sdb_dump.proofs.dump_line.read_line_data.Goals as goal

-- the value of a call that didn't refuse has its property
made_of : {A : Type 0} (P : A → Type 0) (r : Result A Code) (q : Result (Option A) AllocError) (o : Option A) (x : A)
    → IsNoneIfRefused r q → q ≡ Ok o → o ≡ Some x → IfOk r P → P x
made_of P (Ok y) (Ok p) o x m e f h = let g : y ≡ x = cc in subst P g h
made_of P (Ok y) (Err z) o x m e f h = absurd m
made_of P (Err c) (Ok p) o x m e f h = let n : p ≡ None = m.0 in cc
made_of P (Err c) (Err z) o x m e f h = cc

pub returns-clause-in_limits : goal.returns-clause-in_limits
returns-clause-in_limits g c =
    let d = g.D.JsonData.json c.args.value.now in
    let key = made_of (λ (k : Key). key_of d ≡ Ok (plain_key k)) c.read_key.result c.none_if_refused.result c.in_ok-key.field-0 c.in-Some.key c.none_if_refused.ensures c.in_ok-key.was c.in-Some.is c.read_key.ensures.ok in (
      key_fits d (plain_key c.in-Some.key) key c.key_texts.ensures,
      submission_fits c.read_keeps_limits.ensures d c.in-Some-2.submission (sym c.in_ok-submission.ensures ∙ c.in-Some-2.is) c.submission_texts.ensures,
    )
