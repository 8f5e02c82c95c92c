-- The projection of values and operations to a set of top-level fields.
use Rattle.std.specs.Prelude.{ℕ, List, ◌∷◌, Bool, true, false, ◌&&◌, cond}
use Rattle.std.specs.List.{filter, list_all, list_any}
use Rattle.sdb_value.specs.Value.{Value, null, object, Members, no_members, member, PlainStep, key, texts_equal}
use Rattle.sdb_component.specs.Plain.{PlainComponent}
use Rattle.sdb_component.specs.ToJson.{full_path}
use Rattle.sdb_oplog.specs.Plain.{PlainContent, create, delete, edit}

-- whether the key is one of the fields
abbrev pub is_field : List (List ℕ) → List ℕ → Bool
is_field fields k = list_any (texts_equal k) fields

-- the members whose keys are fields
abbrev pub project_members : List (List ℕ) → Members → Members
project_members fields no_members = no_members
project_members fields (member k d ms) = cond (is_field fields k) (member k d (project_members fields ms)) (project_members fields ms)

-- an object with these members only; any other value is projected to null
abbrev pub proj : List (List ℕ) → Value → Value
proj fields (object ms) = object (project_members fields ms)
proj fields _ = null

-- whether the path begins with a key that is a field
abbrev pub path_starts_at_field : List (List ℕ) → List PlainStep → Bool
path_starts_at_field fields (key k ∷ p) = is_field fields k
path_starts_at_field fields _ = false

-- whether the component's path, with the act's last step, begins with a field
abbrev pub is_visible_component : List (List ℕ) → PlainComponent → Bool
is_visible_component fields c = path_starts_at_field fields (full_path c.path c.act)

-- the components whose first path step is a field
abbrev pub proj_op : List (List ℕ) → List PlainComponent → List PlainComponent
proj_op fields = filter (is_visible_component fields)

abbrev pub proj_content : List (List ℕ) → PlainContent → PlainContent
proj_content fields (create d) = create (proj fields d)
proj_content fields delete = delete
proj_content fields (edit op) = edit (proj_op fields op)

-- ---- permitted contents

-- each member is a field
abbrev pub has_only_fields : List (List ℕ) → Members → Bool
has_only_fields fields no_members = true
has_only_fields fields (member k d ms) = is_field fields k && has_only_fields fields ms

-- null, or an object with only fields
abbrev pub allowed_data : List (List ℕ) → Value → Bool
allowed_data fields null = true
allowed_data fields (object ms) = has_only_fields fields ms
allowed_data fields _ = false

-- a create of such data, a delete, or an edit whose components are all visible
abbrev pub allowed : List (List ℕ) → PlainContent → Bool
allowed fields (create d) = allowed_data fields d
allowed fields delete = true
allowed fields (edit op) = list_all (is_visible_component fields) op
