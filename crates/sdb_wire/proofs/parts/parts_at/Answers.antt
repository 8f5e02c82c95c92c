use Rattle.std.proofs.Common.{◌++◌, ap, ◌∙◌}
use Rattle.json.specs.Print.{print}
use Rattle.sdb_value.specs.View.{value_of}
use Rattle.sdb_value_text.specs.Remaining.{remaining_text}
use Rattle.sdb_value_text.specs.ValueText.{value_text}
use Rattle.sdb_wire.specs.DocumentParts.{version_prefix}
use Rattle.sdb_wire.proofs.PartsLemmas.{version_text}
use Rattle.sdb_wire.proofs.parts.parts_at.Goals as goal

pub returns : goal.returns
returns c =
    let start = print (version_prefix c.args.word.now) in
    let text = value_text (value_of c.args.document.now) in
    ap (λ xs. xs ++ (remaining_text c.in_ok-document.document ++ c.in_ok-suffix.suffix.items)) c.in_ok-prefix.ensures
    ∙ ap (λ xs. start ++ (xs ++ c.in_ok-suffix.suffix.items)) c.in_ok-document.ensures
    ∙ ap (λ xs. start ++ (text ++ xs)) c.in_ok-suffix.ensures ∙ version_text c.args.word.now c.args.id c.args.version (value_of c.args.document.now)
