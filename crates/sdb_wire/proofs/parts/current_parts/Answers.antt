use Rattle.std.proofs.Common.{◌++◌, ap, ◌∙◌}
use Rattle.json.specs.Print.{print}
use Rattle.sdb_oplog.specs.Keys.{plain_key}
use Rattle.sdb_value.specs.View.{value_of}
use Rattle.sdb_value_text.specs.Remaining.{remaining_text}
use Rattle.sdb_value_text.specs.ValueText.{value_text}
use Rattle.sdb_wire.specs.DocumentParts.{current_prefix}
use Rattle.sdb_wire.proofs.PartsLemmas.{current_text}
use Rattle.sdb_wire.proofs.parts.current_parts.Goals as goal

pub returns : goal.returns
returns c =
    let k = plain_key c.args.key.now in
    let start = print (current_prefix c.args.kind.now k) in
    let text = value_text (value_of c.args.document.now) in
    ap (λ xs. xs ++ (remaining_text c.in_ok-document.document ++ c.in_ok-suffix.suffix.items)) c.in_ok-prefix.ensures
    ∙ ap (λ xs. start ++ (xs ++ c.in_ok-suffix.suffix.items)) c.in_ok-document.ensures
    ∙ ap (λ xs. start ++ (text ++ xs)) c.in_ok-suffix.ensures ∙ current_text c.args.kind.now k c.args.version (value_of c.args.document.now)
