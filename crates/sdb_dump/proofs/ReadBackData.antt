-- The compact text of sound data parses to those data.
use Rattle.std.proofs.Common.{◌≡◌, ℕ, suc, ◌≤◌, pos, negsuc, List, [], Some, option_and_then, option_map, Less, Greater, nat_cmp, refl, sym, ap, ◌∙◌, arith, append-nil}
use Rattle.std.specs.Prelude.{⊤}
use Rattle.std.specs.Ordering.{ordering_reverse}
use Rattle.std.specs.Cmp.Lexicographic.{slice_cmp}
use Rattle.std.proofs.lemmas.Cmp.{nat_list_cmp_total}
use Rattle.json.specs.Lex.{tokens}
use Rattle.json.specs.Json as json
use Rattle.json.specs.Print.{IsNumber}
use Rattle.json.specs.Tree as tree
use Rattle.json.proofs.Printed.Tokens.{tokens-print}
use Rattle.json.proofs.Printed.Trees.{value-json_tokens, ArePrintable-json_tokens}
use Rattle.json.proofs.Printed.Decimals.{IsNumber-decimal, IsNumber-signed_decimal}
use Rattle.serde_json.specs.Data.{Num, unsigned, negative, float, Data, null, boolean, number, string, array, object, Items, no_items, item, Members, no_members, member, put, depth, items_depth, members_depth}
use Rattle.serde_json.specs.Read.{number_of, of_json, of_items, of_members, read, max_depth}
use Rattle.serde_json.specs.Written.{number_text, outline, items_outline, members_outline, compact_text}
use Rattle.serde_json.proofs.Numbers.{number_of-decimal, number_of-negative}
use Rattle.serde_json.proofs.Texts.{print-outline}
use Rattle.sdb_dump.specs.laws.SoundData.{IsSafeNumber, IsKeyBelowAll, IsSoundData, AreSound, MembersSound}

-- ---- the outline has numbers and the depth of the data

number_is : (n : Num) → IsSafeNumber n → IsNumber (number_text n)
number_is (unsigned n) h = IsNumber-decimal n h
number_is (negative (pos n)) h = absurd h
number_is (negative (negsuc n)) h = IsNumber-signed_decimal (negsuc n) (omega arith)
number_is (float x) h = absurd h

mutual
  sound_has_numbers : (d : Data) → IsSoundData d → tree.HasNumbers (outline d)
  sound_has_numbers null h = tt
  sound_has_numbers (boolean b) h = tt
  sound_has_numbers (number n) h = number_is n h
  sound_has_numbers (string s) h = tt
  sound_has_numbers (array ds) h = items_numbers ds h
  sound_has_numbers (object ms) h = members_numbers ms h

  items_numbers : (ds : Items) → AreSound ds → tree.ItemsHaveNumbers (items_outline ds)
  items_numbers no_items h = tt
  items_numbers (item d ds) h = (sound_has_numbers d h.0, items_numbers ds h.1)

  members_numbers : (ms : Members) → MembersSound ms → tree.MembersHaveNumbers (members_outline ms)
  members_numbers no_members h = tt
  members_numbers (member k d ms) h = (sound_has_numbers d h.1, members_numbers ms h.3)

mutual
  as_deep : (d : Data) → tree.depth (outline d) ≡ depth d
  as_deep null = refl
  as_deep (boolean b) = refl
  as_deep (number n) = refl
  as_deep (string s) = refl
  as_deep (array ds) = ap suc (items_as_deep ds)
  as_deep (object ms) = ap suc (members_as_deep ms)

  items_as_deep : (ds : Items) → tree.items_depth (items_outline ds) ≡ items_depth ds
  items_as_deep no_items = refl
  items_as_deep (item d ds) = rw (as_deep d, items_as_deep ds) refl

  members_as_deep : (ms : Members) → tree.members_depth (members_outline ms) ≡ members_depth ms
  members_as_deep no_members = refl
  members_as_deep (member k d ms) = rw (as_deep d, members_as_deep ms) refl

-- ---- it parses to the data

abbrev append_members : Members → Members → Members
append_members no_members ns = ns
append_members (member k d ms) ns = member k d (append_members ms ns)

join_nothing : (ms : Members) → append_members ms no_members ≡ ms
join_nothing no_members = refl
join_nothing (member k d ms) = ap (member k d) (join_nothing ms)

join_one : (ms : Members) (k : List ℕ) (d : Data) (ns : Members) → append_members (append_members ms (member k d no_members)) ns ≡ append_members ms (member k d ns)
join_one no_members k d ns = refl
join_one (member l e ms) k d ns = ap (member l e) (join_one ms k d ns)

-- each key of the members is less than this one
abbrev AllKeysBelow : Members → List ℕ → Type 0
AllKeysBelow no_members l = ⊤
AllKeysBelow (member k d ms) l = (slice_cmp nat_cmp k l ≡ Less) × AllKeysBelow ms l

-- each key of the first members is less than each of the second
abbrev AllKeysBefore : Members → Members → Type 0
AllKeysBefore ms no_members = ⊤
AllKeysBefore ms (member l d ns) = AllKeysBelow ms l × AllKeysBefore ms ns

slice_cmp_flip : (k l : List ℕ) → slice_cmp nat_cmp k l ≡ Less → slice_cmp nat_cmp l k ≡ Greater
slice_cmp_flip k l h = nat_list_cmp_total.antisymm l k ∙ ap ordering_reverse h

put_last : (ms : Members) (l : List ℕ) (d : Data) → AllKeysBelow ms l → put l d ms ≡ append_members ms (member l d no_members)
put_last no_members l d h = refl
put_last (member k e ms) l d h = rw (slice_cmp_flip k l h.0) (ap (member k e) (put_last ms l d h.1))

below_more : (ms : Members) (k : List ℕ) (d : Data) (l : List ℕ) → AllKeysBelow ms l → slice_cmp nat_cmp k l ≡ Less → AllKeysBelow (append_members ms (member k d no_members)) l
below_more no_members k d l h e = (e, tt)
below_more (member j b ms) k d l h e = (h.0, below_more ms k d l h.1 e)

before_more : (ms : Members) (k : List ℕ) (d : Data) (ns : Members) → AllKeysBefore ms ns → IsKeyBelowAll k ns → AllKeysBefore (append_members ms (member k d no_members)) ns
before_more ms k d no_members h e = tt
before_more ms k d (member l b ns) h e = (below_more ms k d l h.0 e.0, before_more ms k d ns h.1 e.1)

none_before : (ns : Members) → AllKeysBefore no_members ns
none_before no_members = tt
none_before (member l d ns) = (tt, none_before ns)

number_back : (n : Num) → IsSafeNumber n → number_of (number_text n) ≡ Some n
number_back (unsigned n) h = number_of-decimal n h
number_back (negative (pos n)) h = absurd h
number_back (negative (negsuc n)) h = number_of-negative n h
number_back (float x) h = absurd h

mutual
  read_back_of_sound : (d : Data) → IsSoundData d → of_json (outline d) ≡ Some d
  read_back_of_sound null h = refl
  read_back_of_sound (boolean b) h = refl
  read_back_of_sound (number n) h = ap (option_map number) (number_back n h)
  read_back_of_sound (string s) h = refl
  read_back_of_sound (array ds) h = ap (option_map array) (items_back ds h)
  read_back_of_sound (object ms) h = ap (option_map object) (members_back ms no_members h (none_before ms))

  items_back : (ds : Items) → AreSound ds → of_items (items_outline ds) ≡ Some ds
  items_back no_items h = refl
  items_back (item d ds) h = rw (read_back_of_sound d h.0, items_back ds h.1) refl

  members_back : (ms found : Members) → MembersSound ms → AllKeysBefore found ms → of_members (members_outline ms) found ≡ Some (append_members found ms)
  members_back no_members found h b = ap Some (sym (join_nothing found))
  members_back (member k d ms) found h b =
      let more = append_members found (member k d no_members) in
      ap (option_and_then (λ e. of_members (members_outline ms) (put k e found))) (read_back_of_sound d h.1)
      ∙ ap (of_members (members_outline ms)) (put_last found k d b.0)
      ∙ members_back ms more h.3 (before_more found k d ms b.1 h.2)
      ∙ ap Some (join_one found k d ms)

-- ---- the text

pub read_compact : (d : Data) → IsSoundData d → depth d ≤ max_depth → read (compact_text d) ≡ Some d
read_compact d h shallow =
    let ts = tree.json_tokens (outline d) in
    let lexed : tokens (compact_text d) ≡ ts = ap tokens (sym (print-outline d)) ∙ tokens-print ts (ArePrintable-json_tokens (outline d) (sound_has_numbers d h)) in
    let parsed : json.value max_depth (tokens (compact_text d)) ≡ Some (outline d, []) =
    ap (json.value max_depth) (lexed ∙ sym (append-nil ts)) ∙ value-json_tokens (outline d) max_depth [] (omega (arith, as_deep d)) in
    ap (λ o. option_and_then of_json (option_and_then (λ p. json.if_last p.0 p.1) o)) parsed ∙ read_back_of_sound d h
