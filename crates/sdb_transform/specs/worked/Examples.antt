-- Examples: transforms of components and of operations.
use Rattle.std.specs.Prelude.{◌≡◌, [], ◌∷◌, Some, None, codes, pos, refl}
use Rattle.sdb_value.specs.Value.{whole, text}
use Rattle.sdb_component.specs.Plain.{PlainAct, PlainComponent, si, sd, li, ld, lr}
use Rattle.sdb_transform.specs.declared.side.Side.{Side}
use Rattle.sdb_transform.specs.declared.side.Side.TheVariants.{Left, Right}
use Rattle.sdb_transform.specs.Cross.{cross, cross_in, cross_ops}
use Rattle.sdb_transform.specs.Transform.{transform}

abbrev at_root : PlainAct → PlainComponent
at_root a = record { path = []; act = a }

-- ---- one component against another

pub row_split : (side : Side)
    → transform side (at_root (sd 1 (codes "bcde"))) (at_root (si 3 (codes "XYZ")))
    ≡ Some (at_root (sd 1 (codes "bc")) ∷ at_root (sd 4 (codes "de")) ∷ [])
row_split side = refl

-- in "a" and U+1F600 the second character has two code units
pub row_pair : (side : Side)
    → transform side (at_root (sd 0 (97 ∷ 240 ∷ 159 ∷ 152 ∷ 128 ∷ []))) (at_root (si 2 (codes "x"))) ≡ None
row_pair side = refl

pub row_overlap : (side : Side)
    → transform side (at_root (sd 2 (codes "cde"))) (at_root (sd 1 (codes "bcd")))
    ≡ Some (at_root (sd 1 (codes "e")) ∷ [])
row_overlap side = refl

pub row_tie_left : transform Left (at_root (si 3 (codes "x"))) (at_root (si 3 (codes "yz")))
    ≡ Some (at_root (si 3 (codes "x")) ∷ [])
row_tie_left = refl

pub row_tie_right : transform Right (at_root (si 3 (codes "x"))) (at_root (si 3 (codes "yz")))
    ≡ Some (at_root (si 5 (codes "x")) ∷ [])
row_tie_right = refl

pub row_replaced : (side : Side)
    → transform side (at_root (lr 0 (whole (pos 1)) (whole (pos 2)))) (at_root (ld 0 (whole (pos 1))))
    ≡ Some (at_root (li 0 (whole (pos 2))) ∷ [])
row_replaced side = refl

-- ---- operations against each other

pub row_lists : cross_ops (at_root (li 0 (text (codes "B"))) ∷ []) (at_root (li 0 (text (codes "A"))) ∷ []) ≡
    Some (record {
      left = at_root (li 0 (text (codes "B"))) ∷ [];
      right = at_root (li 1 (text (codes "A"))) ∷ [];
      pairs = 1;
    })
unfolding cross cross_in
row_lists = refl

pub row_splits : cross_ops (at_root (sd 0 (codes "abcdef")) ∷ [])
    (at_root (si 5 (codes "x")) ∷ at_root (si 3 (codes "y")) ∷ at_root (si 1 (codes "z")) ∷ []) ≡
    Some (record {
      left = at_root (sd 0 (codes "a")) ∷ at_root (sd 1 (codes "bc")) ∷ at_root (sd 2 (codes "de")) ∷ at_root
          (sd 3 (codes "f")) ∷ [];
      right = at_root (si 0 (codes "x")) ∷ at_root (si 0 (codes "y")) ∷ at_root (si 0 (codes "z")) ∷ [];
      pairs = 6;
    })
unfolding cross cross_in
row_splits = refl
