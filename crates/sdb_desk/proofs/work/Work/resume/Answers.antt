use Rattle.std.proofs.Common.{◌≡◌, ◌||◌, ◌++◌, true, length, take, drop, option_map, refl, sym, ap, ◌∙◌}
use Rattle.std.proofs.lemmas.List.{take-append-drop}
use Rattle.sdb_value.specs.View.{value_of}
use Rattle.sdb_oplog.specs.Decide.{apply_rebased_allocates}
use Rattle.sdb_oplog.specs.Rebase.{rebase, rebase_allocates}
use Rattle.sdb_oplog.specs.Refusal.{result_and_then}
use Rattle.sdb_desk.specs.View.{rebased_content_of}
use Rattle.sdb_desk.proofs.ResumeLemmas.{went_on}
use Rattle.sdb_desk.proofs.work.Work.resume.Goals as goal

pub from_content-requires : goal.from_content-requires
from_content-requires c =
    let old = c.args.self.look.missed in
    let new = c.args.look.missed.items in
    let n = c.len-known.result in
    let w = c.into_parts-attempt.result.1 in
    let m = c.args.self.submission.content in
    let same : c.into_parts-attempt.result.0.submission.content ≡ m = ap (λ a. a.submission.content) c.into_parts-attempt.ensures.attempt in
    let is_old : c.as_slice.result.now ≡ old = c.as_slice.ensures.value ∙ ap (λ a. a.look.missed) c.into_parts-attempt.ensures.attempt in
    let long : length c.as_slice.result.now ≡ n = c.as_slice.ensures.len ∙ sym c.len-known.ensures in
    let front : old ≡ take n new =
    sym is_old ∙ c.if-not-is_front.ensures.on_true refl ∙ ap (λ k. take k c.as_slice-2.result.now) long ∙ ap (take n) c.as_slice-2.ensures.value in
    ap (λ k. rebased_content_of k c.in-Some.worked) (sym c.content.ensures)
    ∙ c.in-Some.ensures.rebased
    ∙ ap (λ k. result_and_then (λ j. rebase j c.entries_after-fresh.result.now) (rebased_content_of k w)) (c.content.ensures ∙ same)
    ∙ ap (λ es. result_and_then (λ j. rebase j es) (rebased_content_of m w)) (c.entries_after-fresh.ensures ∙ ap (drop n) c.as_slice-3.ensures.value)
    ∙ went_on m old new n (rebased_content_of m w) c.into_parts-attempt.ensures.worked front
    ∙ ap (λ k. rebase k new) (sym same)

pub returns-clause-memory : goal.returns-clause-memory
returns-clause-memory c =
    let old = c.args.self.look.missed in
    let new = c.args.look.missed.items in
    let n = c.len-known.result in
    let w = c.into_parts-attempt.result.1 in
    let m = c.args.self.submission.content in
    let fresh = c.entries_after-fresh.result.now in
    let is_content : c.content.result.now ≡ m = c.content.ensures ∙ ap (λ a. a.submission.content) c.into_parts-attempt.ensures.attempt in
    let is_old : c.as_slice.result.now ≡ old = c.as_slice.ensures.value ∙ ap (λ a. a.look.missed) c.into_parts-attempt.ensures.attempt in
    let long : length c.as_slice.result.now ≡ n = c.as_slice.ensures.len ∙ sym c.len-known.ensures in
    let front : old ≡ take n new =
    sym is_old ∙ c.if-not-is_front.ensures.on_true refl ∙ ap (λ k. take k c.as_slice-2.result.now) long ∙ ap (take n) c.as_slice-2.ensures.value in
    let rest : fresh ≡ drop n new = c.entries_after-fresh.ensures ∙ ap (drop n) c.as_slice-3.ensures.value in
    let all : old ++ fresh ≡ new = ap (λ l. l ++ fresh) front ∙ ap (λ l. take n new ++ l) rest ∙ take-append-drop n new in
    let reached : rebased_content_of c.content.result.now w ≡ rebase c.content.result.now old =
    ap (λ k. rebased_content_of k w) is_content ∙ c.into_parts-attempt.ensures.worked ∙ ap (λ k. rebase k old) (sym is_content) in
    let wants : rebase_allocates m new ≡ true =
    sym (ap (λ l. rebase_allocates m l) all) ∙ sym (ap (λ k. rebase_allocates k (old ++ fresh)) is_content) ∙ c.in-None.ensures.memory old reached in
    ap (λ b. b || apply_rebased_allocates (rebase m new) (option_map value_of c.args.look.snapshot)) wants
