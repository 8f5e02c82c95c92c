use Rattle.std.proofs.Common.{◌≡◌, ℕ, List, [], Option, Some, None, MatchOption, is_some, option_and_then, true, false, sym, ap, ◌∙◌}
use Rattle.json.specs.Json as json
use Rattle.json.specs.Lex.{tokens}
use Rattle.json.specs.Token.{Token}
use Rattle.json.specs.Value.{value_view}
use Rattle.serde_json.specs.Read.{of_json, read}
use Rattle.sdb_json.specs.TreeData.{data_of, tree_data}
use Rattle.sdb_json.proofs.DataLemmas.{reads-data}
use Rattle.sdb_json.proofs.parse.parse_json.Goals as goal

none_case : {T : Type 0} (o : Option T) (P : Type 0) (Q : T → Type 0) → is_some o ≡ false → MatchOption o P Q → P
none_case None P Q e h = h
none_case (Some t) P Q e h = absurd (cc)

whole : (text : List ℕ) (j : json.Json) (rest : List Token) → json.value 127 (tokens text) ≡ Some (j, rest) → rest ≡ [] → is_some (of_json j) ≡ true → read text ≡ Some (data_of j)
whole text j rest is last within = rw (is, last) (reads-data j within)

pub returns-clause-ok : goal.returns-clause-ok
returns-clause-ok c =
    let tree = c.in-Ok.tree in
    let last = (none_case c.next.result _ _ (sym c.is_some.ensures ∙ c.if-is_some.false) c.next.ensures.value).0 in
    let within = sym c.has_numbers_in_range.ensures ∙ c.if-not-has_numbers_in_range.false in
    sym (whole c.args.text.now (value_view tree) _ (ap (json.value 127) (sym c.in_ok-reader.ensures.ok) ∙ c.in-Ok.ensures.ok) last within)
