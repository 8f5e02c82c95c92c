-- Examples: texts with their operations, and texts without one.
use Rattle.std.specs.Prelude.{◌≡◌, ℕ, List, [], ◌∷◌, Option, Some, None, option_and_then, codes, pos, refl}
use Rattle.serde_json.specs.Read.{read}
use Rattle.serde_json.proofs.OnLiterals.{serde_json_on_literals}
use Rattle.sdb_value.specs.Value.{whole, text, key}
use Rattle.sdb_component.specs.Plain.{PlainComponent, na, lr, oi}
use Rattle.sdb_component.specs.ToJson.{op_data}
use Rattle.sdb_component.specs.FromJson.{op_of}

abbrev op_in : List ℕ → Option (List PlainComponent)
op_in t = option_and_then op_of (read t)

pub row_replaced : op_in (codes "[{\"p\":[1],\"ld\":9,\"li\":\"q\"}]")
    ≡ Some (record { path = []; act = lr 1 (whole (pos 9)) (text (codes "q")) } ∷ [])
unfolding serde_json_on_literals
row_replaced = refl

pub row_empty : op_in (codes "[{\"p\":[9],\"sd\":\"\"}]") ≡ Some []
unfolding serde_json_on_literals
row_empty = refl

pub row_root : op_in (codes "[{\"p\":[],\"na\":1}]") ≡ Some (record { path = []; act = na (pos 1) } ∷ [])
unfolding serde_json_on_literals
row_root = refl

pub row_no_key : op_in (codes "[{\"p\":[],\"oi\":1}]") ≡ None
unfolding serde_json_on_literals
row_no_key = refl

pub row_key_for_index : op_in (codes "[{\"p\":[\"k\"],\"li\":1}]") ≡ None
unfolding serde_json_on_literals
row_key_for_index = refl

pub row_move : op_in (codes "[{\"p\":[0],\"lm\":1}]") ≡ None
unfolding serde_json_on_literals
row_move = refl

pub row_move_disjoint : op_in (codes "[{\"p\":[0],\"li\":1,\"lm\":1}]") ≡ None
unfolding serde_json_on_literals
row_move_disjoint = refl

pub row_mixed : op_in (codes "[{\"p\":[\"k\"],\"oi\":1,\"li\":2}]") ≡ None
unfolding serde_json_on_literals
row_mixed = refl

pub row_printed : Some (op_data (record { path = key (codes "a") ∷ []; act = oi (codes "k") (whole (pos 1)) } ∷ []))
    ≡ read (codes "[{\"oi\":1,\"p\":[\"a\",\"k\"]}]")
unfolding serde_json_on_literals
row_printed = refl
