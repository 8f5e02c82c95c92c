-- The text that is left of one level of a value.
use Rattle.std.specs.Prelude.{ℕ, zero, suc, ◌<◌, List, [], ◌∷◌, ◌++◌, length, drop, nat_lt, Option, Some, None, IfSome, ⊤}
use Rattle.std.specs.List.{concat}
use Rattle.json.specs.Print.{escape}
use Rattle.serde_json.specs.Written.{items_text, members_text}
use Rattle.sdb_rope.specs.Rope.{rope_texts}
use Rattle.sdb_value.specs.FromJson.{data_of_items, data_of_members}
use Rattle.sdb_value.specs.Value.{Value, null, truth, whole, text, list, object, Items, drop_items, Members, no_members, member}
use Rattle.sdb_value.specs.View.{value_of}
use Rattle.sdb_value_text.specs.ValueText.{value_text}
use Rattle.sdb_value_text.specs.declared.level.Level.{Level}
use Rattle.sdb_value_text.specs.declared.level.Level.TheVariants.{Whole, Inside, Text}
use Rattle.sdb_value_text.specs.declared.level.Next.{Next}
use Rattle.sdb_value_text.specs.declared.level.Next.TheVariants.{End, Inner}

abbrev pub drop_members : ℕ → Members → Members
drop_members zero ms = ms
drop_members (suc i) no_members = no_members
drop_members (suc i) (member k d ms) = drop_members i ms

-- the items from index i on, and the closing bracket
abbrev pub list_text : Items → ℕ → List ℕ
list_text ds i = items_text (nat_lt 0 i) (data_of_items (drop_items i ds))

-- the members from index i on, and the closing brace
abbrev pub object_text : Members → ℕ → List ℕ
object_text ms i = members_text (nat_lt 0 i) (data_of_members (drop_members i ms))

-- the rest of a list or an object from index i on
abbrev pub inside_text : Value → ℕ → List ℕ
inside_text null i = []
inside_text (truth b) i = []
inside_text (whole z) i = []
inside_text (text s) i = []
inside_text (list ds) i = list_text ds i
inside_text (object ms) i = object_text ms i

-- the chunks from index i on, and the closing quote
abbrev pub string_text : List (List ℕ) → ℕ → List ℕ
string_text ts i = escape (concat (drop i ts)) ++ 34 ∷ []

abbrev pub level_text : Level → List ℕ
level_text (Whole v) = value_text (value_of v)
level_text (Inside v i) = inside_text (value_of v) i
level_text (Text t i) = string_text (rope_texts t) i

-- the text of a level, if there is one
abbrev pub opened_text : Option Level → List ℕ
opened_text None = []
opened_text (Some l) = level_text l

-- the text after an appended piece, if `rest` is that of the items or members after it
abbrev pub next_text : Next → List ℕ → List ℕ
next_text End rest = []
next_text (Inner l) rest = opened_text l ++ rest

-- some text of the level is left
abbrev pub HasText : Level → Type 0
HasText l = 0 < length (level_text l)

-- likewise of an item or member that was only begun
abbrev pub NextHasText : Next → Type 0
NextHasText End = ⊤
NextHasText (Inner l) = IfSome l HasText

-- the last level is the innermost one
abbrev pub levels_text : List Level → List ℕ
levels_text [] = []
levels_text (l ∷ ls) = levels_text ls ++ level_text l
