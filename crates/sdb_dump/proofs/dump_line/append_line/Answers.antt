use Rattle.std.proofs.Common.{◌≡◌, ◌++◌, ap, ◌∙◌}
use Rattle.json.specs.Print.{print}
use Rattle.serde_json.proofs.Texts.{print-outline}
use Rattle.sdb_oplog.specs.Keys.{plain_key}
use Rattle.sdb_value.specs.ToJson.{data_tokens}
use Rattle.sdb_dump.specs.DumpLine.{line_data}
use Rattle.sdb_dump.proofs.dump_line.append_line.Goals as goal

pub returns : goal.returns
returns c =
    let d = line_data (plain_key c.args.key.now) c.args.entry.now in
    let before : c.write_line.new.out.before ≡ c.args.out.now.items = c.in_ok-write_line.ensures.before_unchanged ∙ c.new-writer.ensures.before ∙ ap (λ v. v.items) c.replace.ensures.value in
    c.into_inner.ensures.items ∙ ap (λ b. b ++ print c.write_line.new.out.tokens) before
    ∙ ap (λ text. c.args.out.now.items ++ text) (ap print (c.in_ok-write_line.ensures.tokens ∙ ap (λ ts. ts ++ data_tokens d) c.new-writer.ensures.tokens) ∙ print-outline d)
