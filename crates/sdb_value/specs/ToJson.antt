-- The tokens of data in JSON (RFC 8259, section 2); without space between them they are the compact text.
use Rattle.std.specs.Prelude.{List}
use Rattle.json.specs.Token.{Token}
use Rattle.json.specs.Tree.{json_tokens, items_tokens, members_tokens}
use Rattle.serde_json.specs.Data as raw
use Rattle.serde_json.specs.Written.{outline, items_outline, members_outline}

abbrev pub data_tokens : raw.Data → List Token
data_tokens d = json_tokens (outline d)

-- the tokens of the items and the closing bracket
abbrev pub array_tail_tokens : raw.Items → List Token
array_tail_tokens ds = items_tokens (items_outline ds)

-- the tokens of the members and the closing brace
abbrev pub object_tail_tokens : raw.Members → List Token
object_tail_tokens ms = members_tokens (members_outline ms)
