-- Codes of values and paths, which decide their equality; an `impl Model` names one.
use Rattle.std.specs.Prelude.{◌≡◌, ℕ, zero, suc, ℤ, List, [], ◌∷◌, ◌⊎◌, refl}
use Rattle.std.specs.Coded.{Coded, code_by, coded⊎, coded_ℕ, coded_list}
use Rattle.std.proofs.Common.{inl, inr, sym, ap, ◌∙◌, Bool, true, false, pos, negsuc}
use base.Stored.{Gv, gnil, gnum, gcons}
use Rattle.sdb_value.specs.Value.{Value, null, truth, whole, text, list, object, Items, no_items, item, Members, no_members, member, PlainStep, key, index}

abbrev bit_of : Bool → Gv
bit_of true = gnum 1
bit_of false = gnum 0

abbrev to_bit : Gv → Bool
to_bit (gnum (suc n)) = true
to_bit _ = false

abbrev int_of : ℤ → Gv
int_of (pos n) = gcons gnil (gnum n)
int_of (negsuc n) = gnum n

abbrev to_int : Gv → ℤ
to_int (gcons a (gnum n)) = pos n
to_int (gnum n) = negsuc n
to_int _ = pos 0

abbrev text_of : List ℕ → Gv
text_of [] = gnil
text_of (x ∷ xs) = gcons (gnum x) (text_of xs)

abbrev to_text : Gv → List ℕ
to_text (gcons (gnum x) g) = x ∷ to_text g
to_text _ = []

abbrev mutual
  value_of : Value → Gv
  value_of null = gnil
  value_of (truth b) = gcons (gnum 0) (bit_of b)
  value_of (whole z) = gcons (gnum 1) (int_of z)
  value_of (text s) = gcons (gnum 2) (text_of s)
  value_of (list ds) = gcons (gnum 3) (items_of ds)
  value_of (object ms) = gcons (gnum 4) (members_of ms)

  items_of : Items → Gv
  items_of no_items = gnil
  items_of (item d ds) = gcons (value_of d) (items_of ds)

  members_of : Members → Gv
  members_of no_members = gnil
  members_of (member k d ms) = gcons (text_of k) (gcons (value_of d) (members_of ms))

abbrev mutual
  to_value : Gv → Value
  to_value (gcons (gnum zero) g) = truth (to_bit g)
  to_value (gcons (gnum (suc zero)) g) = whole (to_int g)
  to_value (gcons (gnum (suc (suc zero))) g) = text (to_text g)
  to_value (gcons (gnum (suc (suc (suc zero)))) g) = list (to_items g)
  to_value (gcons (gnum (suc (suc (suc (suc zero))))) g) = object (to_members g)
  to_value _ = null

  to_items : Gv → Items
  to_items (gcons a g) = item (to_value a) (to_items g)
  to_items _ = no_items

  to_members : Gv → Members
  to_members (gcons k (gcons a g)) = member (to_text k) (to_value a) (to_members g)
  to_members _ = no_members

back_bit : (b : Bool) → to_bit (bit_of b) ≡ b
back_bit true = refl
back_bit false = refl

back_int : (z : ℤ) → to_int (int_of z) ≡ z
back_int (pos n) = refl
back_int (negsuc n) = refl

back_text : (s : List ℕ) → to_text (text_of s) ≡ s
back_text [] = refl
back_text (x ∷ xs) = ap (λ s. x ∷ s) (back_text xs)

mutual
  pub back_value : (d : Value) → to_value (value_of d) ≡ d
  back_value null = refl
  back_value (truth b) = ap truth (back_bit b)
  back_value (whole z) = ap whole (back_int z)
  back_value (text s) = ap text (back_text s)
  back_value (list ds) = ap list (back_items ds)
  back_value (object ms) = ap object (back_members ms)

  back_items : (ds : Items) → to_items (items_of ds) ≡ ds
  back_items no_items = refl
  back_items (item d ds) = rw (back_value d, back_items ds)

  back_members : (ms : Members) → to_members (members_of ms) ≡ ms
  back_members no_members = refl
  back_members (member k d ms) = rw (back_text k, back_value d, back_members ms)

abbrev pub value_code : Coded Value
value_code = record { code = value_of; inj = λ x y p. sym (back_value x) ∙ ap to_value p ∙ back_value y }

abbrev step_cases : PlainStep → List ℕ ⊎ ℕ
step_cases (key k) = inl k
step_cases (index i) = inr i

abbrev step_from : List ℕ ⊎ ℕ → PlainStep
step_from (inl k) = key k
step_from (inr i) = index i

pub step_back : (w : PlainStep) → step_from (step_cases w) ≡ w
step_back (key k) = refl
step_back (index i) = refl

abbrev pub text_code : Coded (List ℕ)
text_code = coded_list coded_ℕ

abbrev pub step_code : Coded PlainStep
step_code = code_by (List ℕ ⊎ ℕ) (coded⊎ text_code coded_ℕ) step_cases step_from step_back

abbrev pub path_code : Coded (List PlainStep)
path_code = coded_list step_code
