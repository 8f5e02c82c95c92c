-- Examples: concurrent operations, their crossing and the values that both orders make.
use Rattle.std.specs.Prelude.{◌≡◌, ℕ, List, [], ◌∷◌, ◌++◌, codes, pos, negsuc, Option, Some, None, option_and_then, refl}
use Rattle.sdb_value.specs.Value.{Value, text, list, whole, no_items, item, index}
use Rattle.sdb_component.specs.Plain.{na, si, sd, li, ld, lr, PlainComponent}
use Rattle.sdb_apply.specs.Apply.{apply}
use Rattle.sdb_transform.specs.Transform.{component_at}
use Rattle.sdb_transform.specs.Cross.{cross, cross_in, cross_ops}
use Rattle.sdb_transform.specs.OperationConvergence.{AreWellMade, SomeSumLeavesRange, highest_position, total_inserted_size}

abbrev Components : Type 0
Components = List PlainComponent

-- L and then R transformed against it, and the other order
abbrev pub apply_left_first : Value → Components → Components → Option Value
apply_left_first d L R = option_and_then (λ x. apply (L ++ x.right) d) (cross_ops L R)

abbrev pub apply_right_first : Value → Components → Components → Option Value
apply_right_first d L R = option_and_then (λ x. apply (R ++ x.left) d) (cross_ops L R)

pub record OperationExample (d : Value) (L R : Components) (e : Option Value) : Type 0 where
  pub one_way : apply_left_first d L R ≡ e
  pub other_way : apply_right_first d L R ≡ e

abbrev int : ℕ → Value
int n = whole (pos n)

-- "abc": L inserts two texts after a, and R deletes b and then c
abbrev two_inserts : Components
two_inserts = component_at [] (si 1 (codes "x")) ∷ component_at [] (si 2 (codes "y")) ∷ []

abbrev two_deletions : Components
two_deletions = component_at [] (sd 1 (codes "b")) ∷ component_at [] (sd 1 (codes "c")) ∷ []

pub row_texts : OperationExample (text (codes "abc")) two_inserts two_deletions (Some (text (codes "axy")))
unfolding cross cross_in
row_texts = record { one_way = refl; other_way = refl }

pub row_made : AreWellMade two_inserts (text (codes "abc"))
row_made = (
  record { position = text (codes "abc"); result = text (codes "axbc"); found = refl; accepted = refl; key = tt },
  (record { position = text (codes "axbc"); result = text (codes "axybc"); found = refl; accepted = refl; key = tt }, tt),
)

-- an item that L replaces twice, and R removes after it inserted another one before it
abbrev two_replacements : Components
two_replacements = component_at [] (lr 0 (int 1) (int 2)) ∷ component_at [] (lr 0 (int 2) (int 3)) ∷ []

abbrev insert_and_removal : Components
insert_and_removal = component_at [] (li 0 (int 8)) ∷ component_at [] (ld 1 (int 1)) ∷ []

pub row_lists : OperationExample (list (item (int 1) no_items)) two_replacements insert_and_removal (Some (list (item (int 8) (item (int 3) no_items))))
unfolding cross cross_in
row_lists = record { one_way = refl; other_way = refl }

-- both add 1 to 9007199254740990 and then subtract it; no order makes the sum of both first additions
abbrev plus_and_minus : Components
plus_and_minus = component_at [] (na (pos 1)) ∷ component_at [] (na (negsuc 0)) ∷ []

pub row_sums : OperationExample (int 9007199254740990) plus_and_minus plus_and_minus (Some (int 9007199254740990))
unfolding cross cross_in
row_sums = record { one_way = refl; other_way = refl }

-- one order applies, and a sum leaves the range in the other one
abbrev plus_one : Components
plus_one = component_at [] (na (pos 1)) ∷ []

pub row_one_order : apply_left_first (int 9007199254740990) plus_and_minus plus_one ≡ Some (int 9007199254740991)
unfolding cross cross_in
row_one_order = refl

pub row_other_order : apply_right_first (int 9007199254740990) plus_and_minus plus_one ≡ None
unfolding cross cross_in
row_other_order = refl

pub row_leaves : SomeSumLeavesRange plus_and_minus (int 9007199254740991)
row_leaves = record {
  prefix = [];
  component = component_at [] (na (pos 1));
  rest = component_at [] (na (negsuc 0)) ∷ [];
  before = int 9007199254740991;
  parts = refl;
  applied = refl;
  sum = record { number = pos 9007199254740991; x = pos 1; adds = refl; found = refl; leaves = refl };
}

-- ---- positions

pub row_highest : highest_position (component_at (index 7 ∷ []) (si 3 (codes "x")) ∷ component_at [] (ld 9 (int 1)) ∷ []) ≡ 9
row_highest = refl

pub row_inserted : total_inserted_size (component_at [] (si 3 (codes "xyz")) ∷ component_at [] (li 9 (int 1)) ∷ []) ≡ 4
row_inserted = refl
