use Rattle.std.proofs.Common.{◌≡◌, ◌⊎◌, inl, inr, List, [], Some, None, sym, refl, subst}
use Rattle.sdb_oplog.specs.Decide.{refused}
use Rattle.sdb_oplog.specs.Keys.{PlainKey, plain_key}
use Rattle.sdb_oplog.specs.Plain.{PlainEntry, PlainSubmission}
use Rattle.sdb_oplog.specs.declared.codes.Code.{Code}
use Rattle.sdb_desk.specs.Machine.{PlainAttempt, decided}
use Rattle.sdb_desk.specs.View.{plain_look}
use Rattle.sdb_submit.specs.Calls.{look, commit}
use Rattle.sdb_backend.specs.CallAnswers.{AnsweredAtExtension}
use Rattle.sdb_backend.specs.LooksInParts.{KnowsFirstMissed, IsLookOutdatedFor}
use Rattle.sdb_backend.specs.declared.pass.Pass.{Pass}
use Rattle.sdb_backend.proofs.LookPartLemmas.{knows_of_outdated, moved_by_look, refused_by_look}
use Rattle.sdb_backend.proofs.backend.Backend.look_again.Goals as goal

knows_clones : (p : Pass) (k : PlainKey) (a : PlainAttempt) (s : PlainSubmission) (es : List PlainEntry) → s ≡ a.submission → IsLookOutdatedFor p k a
    → (es ≡ a.look.missed) ⊎ (es ≡ []) → KnowsFirstMissed p k s es
knows_clones p k a s es same old (inl e) = subst (λ (x : PlainSubmission). KnowsFirstMissed p k x es) (sym same) (subst (λ (l : List PlainEntry). KnowsFirstMissed p k a.submission l) (sym e) (knows_of_outdated p k a old))
knows_clones p k a s es same old (inr e) = subst (λ (l : List PlainEntry). KnowsFirstMissed p k s l) (sym e) (λ x saw. (_, refl))

pub look_from-requires-clause-missed : goal.look_from-requires-clause-missed
look_from-requires-clause-missed g c =
    knows_clones c.args.pass.now (plain_key c.args.key.now) c.args.work.now c.submission.result.now c.clone_or_none-missed.result.items c.submission.ensures c.requires.outdated
    (subst (λ (es : List PlainEntry). (c.clone_or_none-missed.result.items ≡ es) ⊎ (c.clone_or_none-missed.result.items ≡ [])) c.missed.ensures c.clone_or_none-missed.ensures)

pub returns-in-Ok-clause-answered : goal.returns-in-Ok-clause-answered
returns-in-Ok-clause-answered g c =
    λ now.
    let k = plain_key c.args.key.now in
    let a = c.args.work.now in
    let q = c.look_from.new.pass in
    let l = plain_look c.in-Ok.look in
    let d = subst (λ (s : PlainSubmission). AnsweredAtExtension k (look s) c.args.pass.now (Some l) q) c.submission.ensures c.in-Ok.ensures.answered in
    moved_by_look k a now c.args.pass.now q l d c.requires.outdated

pub returns-in-Err-clause-answered : goal.returns-in-Err-clause-answered
returns-in-Err-clause-answered g c =
    λ now.
    let k = plain_key c.args.key.now in
    let a = c.args.work.now in
    let q = c.look_from.new.pass in
    let d = subst (λ (s : PlainSubmission). AnsweredAtExtension k (look s) c.args.pass.now None q) c.submission.ensures c.in-Err.ensures.answered in
    subst (λ (code : Code). AnsweredAtExtension k (commit a now) c.args.pass.now (decided (refused code)) q) (sym c.from.ensures) (refused_by_look k a now c.args.pass.now q d c.requires.outdated)
