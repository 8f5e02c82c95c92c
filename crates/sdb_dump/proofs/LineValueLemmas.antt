-- The value of a line, from the tree to which it was parsed.
use Rattle.std.proofs.Common.{◌≡◌, ℕ, List, Option, option_map, Some, None, inl, inr, sym, ap, ◌∙◌, IsUtf8}
use Rattle.std.specs.Prelude.{if◌then◌else◌, option_and_then}
use Rattle.std.specs.Str.{is_utf8}
use Rattle.std.specs.declared.alloc.Global.{Global}
use Rattle.std.proofs.lemmas.Bool.{cases_Bool}
use Rattle.std.proofs.lemmas.Str.{is_utf8-from_IsUtf8, IsUtf8-from_is_utf8}
use Rattle.json.specs.declared.value.Value.{Value}
use Rattle.serde_json.specs.Data.{Data}
use Rattle.serde_json.specs.Read.{read}
use Rattle.sdb_json.specs.TreeData.{tree_data}
use Rattle.sdb_dump.specs.DumpLine.{value_of_line}

module _ {A : Type 0} (f : Data → Option A) (line : List ℕ) where
  -- a line that isn't UTF-8 has no value
  pub no_value : (IsUtf8 line → ⊥) → value_of_line f line ≡ None
  no_value h = elim (cases_Bool (is_utf8 line)) [
    | inl e ↦ absurd (h (IsUtf8-from_is_utf8 line e))
    | inr e ↦ ap (λ b. if b then option_and_then f (read line) else None) e
  ]

  -- the value of a tree that was parsed
  pub value_of_tree : (text : List ℕ) (parsed : Option (Value Global)) (tree : Value Global) → IsUtf8 line → text ≡ line → option_map tree_data parsed ≡ read text → parsed ≡ Some tree
      → value_of_line f line ≡ f (tree_data tree)
  value_of_tree text parsed tree utf8 same of_text is =
      ap (λ b. if b then option_and_then f (read line) else None) (is_utf8-from_IsUtf8 line utf8)
      ∙ ap (option_and_then f) (ap read (sym same) ∙ sym of_text ∙ ap (option_map tree_data) is)
