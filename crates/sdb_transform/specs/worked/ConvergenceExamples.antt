-- Examples: concurrent components and the values that both orders make.
use Rattle.std.specs.Prelude.{◌≡◌, ℕ, ◌≤◌, ⊤, [], ◌∷◌, codes, pos, Option, Some, None, option_and_then, refl}
use Rattle.sdb_value.specs.Value.{Value, text, list, object, whole, no_items, item, no_members, member, index, key}
use Rattle.sdb_component.specs.Plain.{na, si, sd, li, ld, lr, od, or, PlainComponent}
use Rattle.sdb_apply.specs.Apply.{apply}
use Rattle.sdb_transform.specs.declared.side.Side.TheVariants.{Left, Right}
use Rattle.sdb_transform.specs.Transform.{transform, component_at}
use Rattle.sdb_transform.specs.Convergence.{WellMade, StaysInRange}

-- a and then b transformed against it, and the other order
abbrev pub apply_a_first : Value → PlainComponent → PlainComponent → Option Value
apply_a_first d a b = option_and_then (λ right. apply (a ∷ right) d) (transform Right b a)

abbrev pub apply_b_first : Value → PlainComponent → PlainComponent → Option Value
apply_b_first d a b = option_and_then (λ left. apply (b ∷ left) d) (transform Left a b)

pub record ConvergenceExample (d : Value) (a b : PlainComponent) (e : Option Value) : Type 0 where
  pub one_way : apply_a_first d a b ≡ e
  pub other_way : apply_b_first d a b ≡ e

abbrev int : ℕ → Value
int n = whole (pos n)

abbrev letter : ℕ → Value
letter n = text (n ∷ [])

abbrev one_item : Value → Value
one_item v = list (item v no_items)

abbrev keyed : Value → Value
keyed v = object (member (codes "k") v no_members)

-- A goes before B, which the right one inserts at the same index
pub row_inserts : ConvergenceExample (one_item (letter 120)) (component_at [] (li 0 (letter 65))) (component_at [] (li 0 (letter 66)))
    (Some (list (item (letter 65) (item (letter 66) (item (letter 120) no_items)))))
row_inserts = record { one_way = refl; other_way = refl }

pub row_replaced : ConvergenceExample (one_item (int 5)) (component_at [] (lr 0 (int 5) (int 6))) (component_at [] (ld 0 (int 5)))
    (Some (one_item (int 6)))
row_replaced = record { one_way = refl; other_way = refl }

pub row_left_wins : ConvergenceExample (keyed (int 1)) (component_at [] (or (codes "k") (int 1) (int 2)))
    (component_at [] (or (codes "k") (int 1) (int 3))) (Some (keyed (int 2)))
row_left_wins = record { one_way = refl; other_way = refl }

pub row_unchanged : ConvergenceExample (keyed (int 1)) (component_at [] (od (codes "k") (int 1)))
    (component_at [] (or (codes "k") (int 1) (int 3))) (Some (keyed (int 3)))
row_unchanged = record { one_way = refl; other_way = refl }

pub row_inside : ConvergenceExample (text (codes "abcdef")) (component_at [] (sd 1 (codes "bcde"))) (component_at [] (si 3 (codes "XYZ")))
    (Some (text (codes "aXYZf")))
row_inside = record { one_way = refl; other_way = refl }

pub row_overlap : ConvergenceExample (text (codes "abcdef")) (component_at [] (sd 1 (codes "bcd"))) (component_at [] (sd 2 (codes "cde")))
    (Some (text (codes "af")))
row_overlap = record { one_way = refl; other_way = refl }

abbrev with_n : Value
with_n = object (member (codes "n") (int 1) no_members)

pub row_lost : ConvergenceExample (one_item with_n) (component_at [] (ld 0 with_n))
    (component_at (index 0 ∷ key (codes "n") ∷ []) (na (pos 1))) (Some (list no_items))
row_lost = record { one_way = refl; other_way = refl }

pub row_shifted : ConvergenceExample (one_item (int 7)) (component_at [] (li 0 (letter 65))) (component_at (index 0 ∷ []) (na (pos 1)))
    (Some (list (item (letter 65) (item (int 8) no_items))))
row_shifted = record { one_way = refl; other_way = refl }

-- each sum is in range, and both together leave it
pub row_sums : ConvergenceExample (int 9007199254740990) (component_at [] (na (pos 1))) (component_at [] (na (pos 1))) None
row_sums = record { one_way = refl; other_way = refl }

-- ---- the premises

pub row_made : WellMade (component_at [] (od (codes "k") (int 9))) (keyed (int 1))
row_made = record { position = keyed (int 1); result = object no_members; found = refl; accepted = refl; key = refl }

-- the right one is transformed to offset 5
pub row_bound : StaysInRange Right (component_at [] (si 3 (codes "x"))) (component_at [] (si 3 (codes "yz")))
    ≡ (3 ≤ 3 → 5 ≤ 9007199254740991)
row_bound = refl

-- disjoint components raise nothing
pub row_no_bound : StaysInRange Left (component_at (index 0 ∷ []) (na (pos 1))) (component_at (index 1 ∷ []) (na (pos 1))) ≡ ⊤
row_no_bound = refl
