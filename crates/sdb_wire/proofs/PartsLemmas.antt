-- The parts of an answer with a document are its text.
use Rattle.std.proofs.Common.{◌≡◌, ℕ, List, ◌∷◌, ◌++◌, Some, append_assoc}
use Rattle.json.specs.Print.{print, print_from}
use Rattle.serde_json.specs.Written.{compact_text}
use Rattle.sdb_oplog.specs.Keys.{PlainKey}
use Rattle.sdb_value.specs.Value.{Value}
use Rattle.sdb_value_text.specs.ValueText.{value_text}
use Rattle.sdb_wire.specs.Answers.{document_data, version_data}
use Rattle.sdb_wire.specs.DocumentParts.{current_prefix, current_suffix, version_prefix, version_suffix}

pub current_text : (kind : List ℕ) (k : PlainKey) (v : ℕ) (d : Value)
    → print (current_prefix kind k) ++ (value_text d ++ 44 ∷ print (current_suffix v)) ≡ compact_text (document_data kind k v (Some d))
unfolding print_from
current_text kind k v d = simp append_assoc

pub version_text : (word : List ℕ) (n v : ℕ) (d : Value)
    → print (version_prefix word) ++ (value_text d ++ 44 ∷ print (version_suffix n v)) ≡ compact_text (version_data word n v (Some d))
unfolding print_from
version_text word n v d = simp append_assoc
