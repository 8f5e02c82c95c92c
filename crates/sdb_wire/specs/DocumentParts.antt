-- The text of an answer with a document, in parts.
use Rattle.std.specs.Prelude.{ℕ, List, [], ◌∷◌, ◌++◌, codes, decimal}
use Rattle.json.specs.Token.{Token, begin_object, end_object, key, string, number}
use Rattle.sdb_oplog.specs.Keys.{PlainKey}
use Rattle.sdb_value_text.specs.Remaining.{remaining_text}
use Rattle.sdb_wire.specs.declared.parts.DocumentParts.{DocumentParts}

abbrev pub parts_text : DocumentParts → List ℕ
parts_text p = p.prefix.items ++ (remaining_text p.document ++ p.suffix.items)

-- the tokens around the current document
abbrev pub current_prefix : List ℕ → PlainKey → List Token
current_prefix kind k =
    begin_object ∷ key (codes "a") ∷ string kind ∷ key (codes "c") ∷ string k.collection ∷ key (codes "d") ∷ string k.id
    ∷ key (codes "data") ∷ begin_object ∷ key (codes "data") ∷ []

abbrev pub current_suffix : ℕ → List Token
current_suffix v = key (codes "v") ∷ number (decimal v) ∷ end_object ∷ end_object ∷ []

-- the tokens around the document at a version
abbrev pub version_prefix : List ℕ → List Token
version_prefix word = begin_object ∷ key (codes "a") ∷ string word ∷ key (codes "data") ∷ []

abbrev pub version_suffix : ℕ → ℕ → List Token
version_suffix n v =
    key (codes "id") ∷ number (decimal n) ∷ key (codes "type") ∷ string (codes "http://sharejs.org/types/JSONv0")
    ∷ key (codes "v") ∷ number (decimal v) ∷ end_object ∷ []
