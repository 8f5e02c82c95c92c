use Rattle.std.proofs.Common.{◌≡◌, ◌++◌, List, length, Result, rules, sym, ap, subst}
use Rattle.std.proofs.lemmas.Result.{err_from_is_err_and}
use Rattle.std.specs.declared.alloc.AllocError.{AllocError}
use Rattle.sdb_oplog.specs.Keys.{plain_key}
use Rattle.sdb_oplog.specs.Plain.{PlainEntry}
use Rattle.sdb_desk.specs.Looks.{IsLookPart}
use Rattle.sdb_desk.specs.ShardView.{logs_of}
use Rattle.sdb_desk.specs.View.{plain_look}
use Rattle.sdb_desk.specs.declared.work.Look.{Look}
use Rattle.sdb_desk.specs.declared.work.LookPart.{LookPart}
use Rattle.sdb_desk.specs.declared.work.LookPart.TheVariants.{Entries}
use Rattle.sdb_desk.specs.laws.LookLaws.{first_missed_with_part, look_allocates_for_first}
use Rattle.sdb_submit.specs.Calls.{look, look_view}
use Rattle.sdb_backend.specs.CallAnswers.{AnsweredAtExtension}
use Rattle.sdb_backend.specs.LooksInParts.{KnowsFirstMissed}
use Rattle.sdb_backend.proofs.LookPartLemmas.{continues_after_run, first_missed_at_history, knows_after_run, look_allocates_if_more, if_err_from_some, look_of_last, look_failed, look_answered, look_seen}
use Rattle.sdb_backend.proofs.SeenLemmas.{look_result_is_look, map_ok}
use Rattle.sdb_backend.proofs.backend.Backend.look_from.Goals as goal

pub returns-in_err-look-clause-answered : goal.returns-in_err-look-clause-answered
returns-in_err-look-clause-answered g c =
    let k = plain_key c.args.key.now in
    let s = c.args.submission.now in
    let d = c.in_err-look.ensures.ran in
    let r = err_from_is_err_and c.from_residual.result c.from_residual.ensures.1 in
    subst (λ (x : Result Look AllocError). AnsweredAtExtension k (look s) c.args.pass.now (look_view x) c.run.new.pass) (sym r.1)
    (look_failed k s c.args.pass.now c.loop.pass c.run.new.pass d d.ran.1 d.ran.0 c.loop.invariant.continues)

pub returns-in-Last-clause-seen : goal.returns-in-Last-clause-seen
returns-in-Last-clause-seen g c =
    let k = plain_key c.args.key.now in
    let s = c.args.submission.now in
    let first = c.loop.missed.items in
    let d = c.in_ok-look.ensures.ran in
    let log = logs_of d.history.shard k in
    let n : c.len.result ≡ length first = search rules in
    let last = subst (λ (x : LookPart). IsLookPart log s c.len.result 1024 x) c.in-Last.is d.ran.0 in
    let at = first_missed_at_history k s first _ c.loop.pass c.run.new.pass d c.loop.invariant.knows in
    map_ok c.look_before.result (λ l is. look_seen k s c.args.pass.now c.loop.pass c.run.new.pass d d.ran.1 (plain_look l) (look_of_last log s first c.len.result (plain_look c.in-Last.look) (plain_look l) at n last.1 is)) c.look_before.ensures.ok

pub returns-in-Last-clause-answered : goal.returns-in-Last-clause-answered
returns-in-Last-clause-answered g c =
    let k = plain_key c.args.key.now in
    let s = c.args.submission.now in
    let first = c.loop.missed.items in
    let d = c.in_ok-look.ensures.ran in
    let log = logs_of d.history.shard k in
    let n : c.len.result ≡ length first = search rules in
    let last = subst (λ (x : LookPart). IsLookPart log s c.len.result 1024 x) c.in-Last.is d.ran.0 in
    let at = first_missed_at_history k s first _ c.loop.pass c.run.new.pass d c.loop.invariant.knows in
    look_answered k s c.args.pass.now c.loop.pass c.run.new.pass d d.ran.1 c.look_before.result
    (map_ok c.look_before.result (λ l is. look_of_last log s first c.len.result (plain_look c.in-Last.look) (plain_look l) at n last.1 is) c.look_before.ensures.ok)
    (if_err_from_some c.look_before.result (look_allocates_for_first log s first at) c.look_before.ensures.memory) c.loop.invariant.continues

pub returns-in_err-append-in-Entries-clause-answered : goal.returns-in_err-append-in-Entries-clause-answered
returns-in_err-append-in-Entries-clause-answered g c =
    let k = plain_key c.args.key.now in
    let s = c.args.submission.now in
    let d = c.in_ok-look.ensures.ran in
    let log = logs_of d.history.shard k in
    let part = subst (λ (x : LookPart). IsLookPart log s c.len.result 1024 x) c.in-Entries.is d.ran.0 in
    let r = err_from_is_err_and c.from_residual-in_err-append-in-Entries.result c.from_residual-in_err-append-in-Entries.ensures.1 in
    subst (λ (x : Result Look AllocError). AnsweredAtExtension k (look s) c.args.pass.now (look_view x) c.run.new.pass) (sym r.1)
    (look_failed k s c.args.pass.now c.loop.pass c.run.new.pass d d.ran.1 (look_allocates_if_more log s c.len.result 1024 part.0) c.loop.invariant.continues)

pub loop-preserved : goal.loop-preserved
loop-preserved g c =
    let k = plain_key c.args.key.now in
    let s = c.args.submission.now in
    let first = c.loop.missed.items in
    let d = c.in_ok-look.ensures.ran in
    let log = logs_of d.history.shard k in
    let n : c.len.result ≡ length first = search rules in
    let part = subst (λ (x : LookPart). IsLookPart log s c.len.result 1024 x) c.in-Entries.is d.ran.0 in
    let next = c.in-Entries.entries.items in
    let at = first_missed_at_history k s first _ c.loop.pass c.run.new.pass d c.loop.invariant.knows in
    let joined : c.append.new.self.items ≡ first ++ next = search rules in
    let more = subst (λ m. IsLookPart log s m 1024 (Entries c.in-Entries.entries)) n part in
    record {
      belongs = c.run.ensures.pass;
      knows = subst (λ (es : List PlainEntry). KnowsFirstMissed c.run.new.pass k s es) (sym joined)
          (knows_after_run k s (first ++ next) _ c.loop.pass c.run.new.pass d d.ran.1 (first_missed_with_part log s first 1024 next at more.1));
      continues = continues_after_run k _ c.args.pass.now c.loop.pass c.run.new.pass d d.ran.1 c.loop.invariant.continues;
    }

pub returns-clause-seen : goal.returns-clause-seen
returns-clause-seen g c =
    let d = c.run-2.ensures.ran in
    let k = plain_key c.args.key.now in
    map_ok c.run-2.result (λ l h. (d.next, d.seen_after, h)) (look_result_is_look (logs_of d.history.shard k) (logs_of d.next.shard k) c.args.submission.now c.run-2.result d.ran.0 (ap (λ f. f k) d.ran.1.0))
