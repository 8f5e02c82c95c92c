use Rattle.std.proofs.Common.{◌≡◌, ◌++◌, rules, sym, ap, ◌∙◌}
use Rattle.sdb_oplog.specs.Rebase.{rebase}
use Rattle.sdb_oplog.specs.Refusal.{result_and_then}
use Rattle.sdb_oplog.specs.laws.LogLaws.{rebase_append}
use Rattle.sdb_desk.specs.View.{rebased_content_of}
use Rattle.sdb_desk.proofs.work.Work.extend.Goals as goal

pub from_content-requires : goal.from_content-requires
from_content-requires c =
    let a = c.into_parts-submission.result.0 in
    let w = c.into_parts-submission.result.1 in
    let m = c.args.self.submission.content in
    let old = c.args.self.look.missed in
    let fresh = c.args.newer.missed.items in
    let same : a.submission.content ≡ m = ap (λ x. x.submission.content) c.into_parts-submission.ensures.attempt in
    let missed : a.look.missed.items ≡ old = ap (λ x. x.look.missed) c.into_parts-submission.ensures.attempt in
    let joined : c.append.new.self.items ≡ a.look.missed.items ++ fresh = search rules in
    ap (λ k. rebased_content_of k c.in-Some.worked) (sym c.content.ensures)
    ∙ c.in-Some.ensures.rebased
    ∙ ap (λ k. result_and_then (λ j. rebase j c.as_slice.result.now) (rebased_content_of k w)) (c.content.ensures ∙ same)
    ∙ ap (λ es. result_and_then (λ j. rebase j es) (rebased_content_of m w)) c.as_slice.ensures.value
    ∙ ap (result_and_then (λ j. rebase j fresh)) c.into_parts-submission.ensures.worked
    ∙ sym (rebase_append old fresh m)
    ∙ ap (λ k. rebase k (old ++ fresh)) (sym same)
    ∙ ap (λ es. rebase a.submission.content (es ++ fresh)) (sym missed)
    ∙ ap (rebase a.submission.content) (sym joined)
