use Rattle.std.proofs.Common.{◌∷◌, [], ◌++◌, drop, suc, sym, ap, ◌∙◌}
use Rattle.std.specs.List.{concat}
use Rattle.json.specs.Print.{escape}
use Rattle.sdb_rope.specs.Rope.{rope_texts}
use Rattle.sdb_value_text.specs.Level.{string_text}
use Rattle.sdb_value_text.proofs.HasTextLemmas.{appended_longer, ended_longer, escape_has_text, chunk_nonempty}
use Rattle.sdb_value_text.proofs.TextLemmas.{appended, chunk_text, string_end_text}
use Rattle.sdb_value_text.proofs.level.write_chunk.Goals as goal

pub returns-in_default-clause-text : goal.returns-in_default-clause-text
returns-in_default-clause-text c =
    let ts = rope_texts c.args.text in
    let i = c.in_ok-index.index in
    appended c.push.new.self.items c.args.out.now.items (34 ∷ []) [] (string_text ts c.args.index) c.in_ok-push.ensures.items (sym c.in_ok-index.ensures.text ∙ string_end_text ts i (sym c.in_default.ensures))

pub returns-clause-text : goal.returns-clause-text
returns-clause-text c =
    let ts = rope_texts c.args.text in
    let i = c.in_ok-index.index in
    let new = c.append_escaped.new.out.items in
    let s = c.in-Some.chunk.now in
    ap (λ n. new ++ string_text ts n) c.in_ok-next.ensures
    ∙ appended new c.args.out.now.items (escape s) (string_text ts (suc i)) (string_text ts c.args.index) c.in_ok-append_escaped.ensures (sym c.in_ok-index.ensures.text ∙ chunk_text ts i s (sym c.in-Some.ensures))

pub returns-clause-longer : goal.returns-clause-longer
returns-clause-longer c =
    let s = c.in-Some.chunk.now in
    appended_longer c.append_escaped.new.out.items c.args.out.now.items (escape s) c.in_ok-append_escaped.ensures
    (escape_has_text s (chunk_nonempty (rope_texts c.args.text) c.in_ok-index.index s c.in_ok-index.ensures.chunk (sym c.in-Some.ensures)))

pub returns-clause-has_text : goal.returns-clause-has_text
returns-clause-has_text c = ended_longer (escape (concat (drop c.in_ok-next.next (rope_texts c.args.text)))) 34
