-- Examples: a projection to `title`, and a table.
use Rattle.std.specs.Prelude.{◌≡◌, ℕ, List, [], ◌∷◌, true, false, Some, None, codes, refl, pos}
use Rattle.std.specs.Option.{option_map}
use Rattle.sdb_value.specs.Value.{Value, null, whole, text, object, no_members, member, list, no_items, key}
use Rattle.sdb_component.specs.Plain.{PlainComponent, na, si, oi, li}
use Rattle.sdb_oplog.specs.Plain.{create, delete, edit}
use Rattle.sdb_apply.specs.Apply.{apply}
use Rattle.sdb_projection.specs.ProjectionModel.{proj, proj_op, allowed}
use Rattle.sdb_projection.specs.Table.{PlainProjection, projection_of, table_fault}
use Rattle.sdb_projection.specs.declared.table.TableFault.TheVariants.{DuplicateName, NameOfBase, BaseIsProjection, NoField}

abbrev title : List (List ℕ)
title = codes "title" ∷ []

abbrev of_two : Value → Value → Value
of_two n t = object (member (codes "n") n (member (codes "title") t no_members))

abbrev of_title : Value → Value
of_title t = object (member (codes "title") t no_members)

-- an object is projected to its title, a list to null
pub row_object : proj title (of_two (whole (pos 1)) (text (codes "a"))) ≡ of_title (text (codes "a"))
row_object = refl

pub row_list : proj title (list no_items) ≡ null
row_list = refl

-- an edit of the number isn't visible; one in the title is, as is one that replaces it
abbrev counts : PlainComponent
counts = record { path = key (codes "n") ∷ []; act = na (pos 1) }

abbrev types : PlainComponent
types = record { path = key (codes "title") ∷ []; act = si 1 (codes "b") }

abbrev renames : PlainComponent
renames = record { path = []; act = oi (codes "title") (text (codes "c")) }

pub row_op : proj_op title (counts ∷ types ∷ renames ∷ []) ≡ types ∷ renames ∷ []
row_op = refl

pub row_applied : apply (counts ∷ types ∷ []) (of_two (whole (pos 1)) (text (codes "a")))
    ≡ Some (of_two (whole (pos 2)) (text (codes "ab")))
row_applied = refl

pub row_shown : apply (types ∷ []) (of_title (text (codes "a"))) ≡ Some (of_title (text (codes "ab")))
row_shown = refl

-- permitted contents
pub row_create : allowed title (create (of_title null)) ≡ true
row_create = refl

pub row_create_null : allowed title (create null) ≡ true
row_create_null = refl

pub row_create_other : allowed title (create (of_two null null)) ≡ false
row_create_other = refl

pub row_create_number : allowed title (create (whole (pos 1))) ≡ false
row_create_number = refl

pub row_delete : allowed title delete ≡ true
row_delete = refl

pub row_edit : allowed title (edit (types ∷ renames ∷ [])) ≡ true
row_edit = refl

pub row_edit_other : allowed title (edit (types ∷ counts ∷ [])) ≡ false
row_edit_other = refl

-- the empty path, and an item of the root
pub row_root : allowed title (edit (record { path = []; act = na (pos 1) } ∷ [])) ≡ false
row_root = refl

pub row_item : allowed title (edit (record { path = []; act = li 0 null } ∷ [])) ≡ false
row_item = refl

-- ---- a table with projection t of base b

abbrev of : List ℕ → List ℕ → List (List ℕ) → PlainProjection
of n b fields = record { name = n; base = b; fields = fields }

abbrev table : List PlainProjection
table = of (codes "t") (codes "b") title ∷ []

pub row_taken : table_fault (of (codes "t") (codes "b") title) [] ≡ None
row_taken = refl

pub row_second : table_fault (of (codes "t") (codes "c") title) table ≡ Some DuplicateName
row_second = refl

pub row_own : table_fault (of (codes "x") (codes "x") title) table ≡ Some NameOfBase
row_own = refl

pub row_of_projection : table_fault (of (codes "u") (codes "t") title) table ≡ Some BaseIsProjection
row_of_projection = refl

pub row_of_base : table_fault (of (codes "b") (codes "c") title) table ≡ Some BaseIsProjection
row_of_base = refl

pub row_no_field : table_fault (of (codes "y") (codes "b") []) table ≡ Some NoField
row_no_field = refl

pub row_found : option_map (λ p. p.base) (projection_of (codes "t") table) ≡ Some (codes "b")
row_found = refl
