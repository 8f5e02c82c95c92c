use Rattle.std.proofs.Common.{◌+◌, ◌∷◌, [], ◌++◌, ap, ◌∙◌}
use Rattle.sdb_store.specs.SaverModel.{lines_of, unwritten_lines, places_left}
use Rattle.sdb_store.specs.declared.saver.Saver.{Saver}
use Rattle.sdb_store.proofs.AddsLemmas.{adds_none, adds_line}
use Rattle.sdb_store.proofs.saver.Saver.add_next_line.Goals as goal

pub returns-in_err-line-clause-added : goal.returns-in_err-line-clause-added
returns-in_err-line-clause-added g c =
    let others = c.next_line.ensures.others_unchanged in
    adds_none c.args.backend.now c.args.self.now _ (ap unwritten_lines others) (ap places_left others)
    (ap (λ (s : Saver). s.reserved) others) (ap (λ (s : Saver). s.group_reserved) others)

pub returns-in_err-push_line-clause-added : goal.returns-in_err-push_line-clause-added
returns-in_err-push_line-clause-added g c =
    let others = c.next_line.ensures.others_unchanged in
    adds_none c.args.backend.now c.args.self.now _
    (ap lines_of c.in_err-push_line.ensures.unchanged_on_err ∙ ap unwritten_lines others) (ap places_left others)
    (ap (λ (s : Saver). s.reserved) others) (ap (λ (s : Saver). s.group_reserved) others)

pub returns-clause-added : goal.returns-clause-added
returns-clause-added g c =
    let others = c.next_line.ensures.others_unchanged in
    let line = c.in_ok-line.line.items in
    let at = c.in_ok-line.ensures.line in
    adds_line c.args.backend.now c.args.self.now _ at.0 line
    (c.in_ok-push_line.ensures.added ∙ ap (λ (s : Saver). lines_of s.group.items ++ line ∷ []) others)
    at.1 at.2 (ap (λ (s : Saver). s.taken) others) (ap (λ (s : Saver). s.position + 1) others)
    (ap (λ (s : Saver). s.reserved) others) (ap (λ (s : Saver). s.group_reserved) others)
