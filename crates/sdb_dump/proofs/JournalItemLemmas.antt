-- The items that lines are accepted as.
use Rattle.std.proofs.Common.{◌≡◌, ℕ, ◌<◌, List, Bool, true, false, Option, Some, None, bytes_eq, refl, sym, ap, ap₂, ◌∙◌, subst, arith}
use Rattle.std.specs.Prelude.{if◌then◌else◌, ◌^◌, codes, option_map, option_and_then}
use Rattle.std.specs.Option.{option_map_or}
use Rattle.std.specs.Str.{is_utf8}
use Rattle.std.proofs.lemmas.Str.{is_utf8-from_IsUtf8}
use Rattle.json.proofs.Printed.Utf8.{IsUtf8-are_ascii}
use Rattle.serde_json.specs.Data.{Data, number, unsigned, object, no_members, member}
use Rattle.serde_json.specs.Read.{read as read_text}
use Rattle.sdb_wire.specs.Wire.{count_member}
use Rattle.sdb_dump.specs.laws.SoundData.{IsSoundData}
use Rattle.sdb_dump.specs.ValueLimits.{IsSafeInteger}
use Rattle.sdb_dump.specs.DumpLine.{PlainLineContent, line_of_data, read_line}
use Rattle.sdb_dump.specs.DumpText.{entry_line, entry_of_read}
use Rattle.sdb_dump.specs.JournalText.{JournalItem, journal_entry, number_block, number_line, item_line, entries_of, logs_of_items, number_if_line, number_of_data, read_number, accepted_item}
use Rattle.sdb_dump.specs.JournalLaws.{IsNextItem}
use Rattle.sdb_dump.proofs.NextEntryLemmas.{same_bytes, equal_bytes, entry_found, entry_is_next, entry_accepted}
use Rattle.sdb_dump.proofs.ReadBackData.{read_compact}
use Rattle.sdb_dump.proofs.ReadBackComponents.{count_back}
use Rattle.sdb_dump.proofs.CompactText.{utf8_compact}

-- ---- blocks of numbers

abbrev number_data : ℕ → Data
number_data n = object (member (codes "given") (number (unsigned n)) no_members)

number_sound : (n : ℕ) → IsSafeInteger n → IsSoundData (number_data n)
number_sound n h = let low : n < 2 ^ 64 = omega (arith, h) in (IsUtf8-are_ascii (codes "given") refl, low, tt, tt)

number_read : (n : ℕ) → IsSafeInteger n → read_text (number_line n) ≡ Some (number_data n)
number_read n h = read_compact (number_data n) (number_sound n h) (omega arith)

number_utf8 : (n : ℕ) → IsSafeInteger n → is_utf8 (number_line n) ≡ true
number_utf8 n h = is_utf8-from_IsUtf8 (number_line n) (utf8_compact (number_data n) (number_sound n h))

pub number_next : (n : ℕ) → IsSafeInteger n → (read_line (number_line n) ≡ None) × (read_number (number_line n) ≡ Some n)
number_next n h =
    let line = number_line n in
    let utf8 = number_utf8 n h in
    let parsed = number_read n h in (
      ap₂ (λ b d. if b then option_and_then line_of_data d else None) utf8 parsed,
      ap₂ (λ b d. if b then option_and_then (number_of_data line) d else None) utf8 parsed
          ∙ ap (option_and_then (number_if_line line)) (count_back n h)
          ∙ ap (λ b. if b then Some n else None) (same_bytes line),
    )

number_if_is : (line : List ℕ) (m n : ℕ) (b : Bool) → bytes_eq (number_line m) line ≡ b → (if b then Some m else None) ≡ Some n → line ≡ number_line n
number_if_is line m n true same e = let g : m ≡ n = cc in sym (equal_bytes (number_line m) line same) ∙ ap number_line g
number_if_is line m n false same e = cc

number_in : (line : List ℕ) (n : ℕ) (o : Option ℕ) → option_and_then (number_if_line line) o ≡ Some n → line ≡ number_line n
number_in line n None e = cc
number_in line n (Some m) e = number_if_is line m n (bytes_eq (number_line m) line) refl e

number_of : (line : List ℕ) (n : ℕ) (b : Bool) (o : Option Data) → (if b then option_and_then (number_of_data line) o else None) ≡ Some n → line ≡ number_line n
number_of line n false o e = cc
number_of line n true None e = cc
number_of line n true (Some d) e = number_in line n (count_member (codes "given") d) e

-- ---- items

mapped : {A B : Type 0} (f : A → B) (o : Option A) (y : B) → option_map f o ≡ Some y → (x : A) × (o ≡ Some x) × (f x ≡ y)
mapped f None y e = cc
mapped f (Some x) y e = let g : f x ≡ y = cc in (x, refl, g)

accepted_by : (before : List JournalItem) (line : List ℕ) (x : JournalItem) (o : Option PlainLineContent) → read_line line ≡ o
    → option_map_or (λ r. option_map journal_entry (entry_of_read (logs_of_items before r.key) line r)) o (option_map number_block (read_number line)) ≡ Some x
    → (line ≡ item_line x) × IsNextItem before x
accepted_by before line x None read e =
    let m = mapped number_block (read_number line) x e in
    let text : line ≡ number_line m.0 = number_of line m.0 (is_utf8 line) (read_text line) m.1 in
    subst (λ y. (line ≡ item_line y) × IsNextItem before y) m.2 (text, (ap read_line (sym text) ∙ read, ap read_number (sym text) ∙ m.1))
accepted_by before line x (Some r) read e =
    let log = logs_of_items before r.key in
    let m = mapped journal_entry (entry_of_read log line r) x e in
    let f = entry_found log line r m.0 m.1 in
    subst (λ y. (line ≡ item_line y) × IsNextItem before y) m.2 (f.text, entry_is_next (entries_of before) line r m.0 read f)

pub accepted_next : (before : List JournalItem) (line : List ℕ) (x : JournalItem) → accepted_item before line ≡ Some x → (line ≡ item_line x) × IsNextItem before x
accepted_next before line x e = accepted_by before line x (read_line line) refl e

pub next_accepted : (before : List JournalItem) (x : JournalItem) → IsNextItem before x → accepted_item before (item_line x) ≡ Some x
next_accepted before (journal_entry x) h =
    ap (λ o. option_map_or (λ r. option_map journal_entry (entry_of_read (logs_of_items before r.key) (entry_line x) r)) o (option_map number_block (read_number (entry_line x)))) h.read
    ∙ ap (option_map journal_entry) (entry_accepted (entries_of before) x h)
next_accepted before (number_block n) h =
    ap (λ o. option_map_or (λ r. option_map journal_entry (entry_of_read (logs_of_items before r.key) (number_line n) r)) o (option_map number_block (read_number (number_line n)))) h.0
    ∙ ap (option_map number_block) h.1
