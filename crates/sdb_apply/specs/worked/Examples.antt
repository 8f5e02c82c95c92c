-- Examples: the nine shapes and operations of several components on small values.
use Rattle.std.specs.Prelude.{◌≡◌, ℕ, pos, negsuc, List, [], ◌∷◌, Some, None, codes, refl}
use Rattle.sdb_value.specs.Value.{Value, whole, text, list, object, Items, no_items, item, no_members, member, key, index}
use Rattle.sdb_component.specs.Plain.{PlainAct, na, si, sd, li, ld, lr, oi, od, or, PlainComponent}
use Rattle.sdb_apply.specs.Apply.{apply_one, apply}

abbrev int : ℕ → Value
int n = whole (pos n)

abbrev one_two : Items
one_two = item (int 1) (item (int 2) no_items)

abbrev keyed : Value → Value
keyed v = object (member (codes "k") v no_members)

-- a😀b, and the surrogate pair alone
abbrev smile : Value
smile = text (97 ∷ 240 ∷ 159 ∷ 152 ∷ 128 ∷ 98 ∷ [])

abbrev pair : List ℕ
pair = 240 ∷ 159 ∷ 152 ∷ 128 ∷ []

-- at the root
abbrev here : PlainAct → PlainComponent
here a = record { path = []; act = a }

-- ---- numbers

pub row_na : apply_one (here (na (pos 1))) (int 5) ≡ Some (int 6)
row_na = refl

pub row_na_down : apply_one (here (na (negsuc 6))) (int 5) ≡ Some (whole (negsuc 1))
row_na_down = refl

pub row_na_after : apply_one (here (na (pos 1))) (int 9007199254740991) ≡ None
row_na_after = refl

pub row_na_of_text : apply_one (here (na (pos 1))) smile ≡ None
row_na_of_text = refl

-- ---- texts

pub row_si : apply_one (here (si 3 (codes "x"))) smile ≡ Some (text (97 ∷ 240 ∷ 159 ∷ 152 ∷ 128 ∷ 120 ∷ 98 ∷ []))
row_si = refl

pub row_si_inside_pair : apply_one (here (si 2 (codes "x"))) smile ≡ None
row_si_inside_pair = refl

pub row_sd : apply_one (here (sd 1 pair)) smile ≡ Some (text (codes "ab"))
row_sd = refl

pub row_sd_other : apply_one (here (sd 1 (codes "x"))) (text (codes "ab")) ≡ None
row_sd_other = refl

-- ---- lists

pub row_li : apply_one (here (li 2 (int 3))) (list one_two)
    ≡ Some (list (item (int 1) (item (int 2) (item (int 3) no_items))))
row_li = refl

pub row_li_after : apply_one (here (li 3 (int 3))) (list one_two) ≡ None
row_li_after = refl

pub row_ld_uncompared : apply_one (here (ld 0 (int 99))) (list one_two) ≡ Some (list (item (int 2) no_items))
row_ld_uncompared = refl

pub row_ld_after : apply_one (here (ld 2 (int 2))) (list one_two) ≡ None
row_ld_after = refl

pub row_lr : apply_one (here (lr 1 (int 9) smile)) (list one_two) ≡ Some (list (item (int 1) (item smile no_items)))
row_lr = refl

pub row_lr_after : apply_one (here (lr 2 (int 9) smile)) (list one_two) ≡ None
row_lr_after = refl

-- ---- objects

pub row_oi : apply_one (here (oi (codes "k") (int 1))) (object no_members) ≡ Some (keyed (int 1))
row_oi = refl

pub row_oi_again : apply_one (here (oi (codes "k") (int 2))) (keyed (int 1)) ≡ Some (keyed (int 2))
row_oi_again = refl

pub row_od : apply_one (here (od (codes "k") (int 9))) (keyed (int 1)) ≡ Some (object no_members)
row_od = refl

pub row_od_absent : apply_one (here (od (codes "j") (int 9))) (keyed (int 1)) ≡ Some (keyed (int 1))
row_od_absent = refl

pub row_or : apply_one (here (or (codes "k") (int 9) (int 2))) (keyed (int 1)) ≡ Some (keyed (int 2))
row_or = refl

pub row_or_absent : apply_one (here (or (codes "k") (int 1) (int 2))) (object no_members) ≡ Some (keyed (int 2))
row_or_absent = refl

pub row_or_of_list : apply_one (here (or (codes "k") (int 1) (int 2))) (list no_items) ≡ None
row_or_of_list = refl

-- ---- paths, and operations of several components

pub row_deep : apply_one (record { path = key (codes "k") ∷ index 1 ∷ []; act = na (pos 1) }) (keyed (list one_two))
    ≡ Some (keyed (list (item (int 1) (item (int 3) no_items))))
row_deep = refl

pub row_no_place : apply_one (record { path = key (codes "j") ∷ []; act = na (pos 1) }) (keyed (int 1)) ≡ None
row_no_place = refl

pub row_nothing : apply [] (int 5) ≡ Some (int 5)
row_nothing = refl

-- the second inserts into the result of the first
pub row_in_turn : apply
    (here (oi (codes "k") (list no_items)) ∷ record { path = key (codes "k") ∷ []; act = li 0 (int 1) } ∷ [])
    (object no_members) ≡ Some (keyed (list (item (int 1) no_items)))
row_in_turn = refl

pub row_stopped : apply (here (na (pos 1)) ∷ here (si 0 (codes "x")) ∷ here (na (pos 1)) ∷ []) (int 5) ≡ None
row_stopped = refl
