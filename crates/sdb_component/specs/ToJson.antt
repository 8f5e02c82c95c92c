-- The JSON value of an operation, with members in byte order.
use Rattle.std.specs.Prelude.{ℕ, List, [], ◌∷◌, ◌++◌, codes}
use Rattle.serde_json.specs.Data as raw
use Rattle.serde_json.specs.Data.{Data}
use Rattle.serde_json.specs.Find.{of_integer}
use Rattle.sdb_value.specs.Value.{PlainStep, key, index}
use Rattle.sdb_value.specs.FromJson.{data_of_value}
use Rattle.sdb_component.specs.Plain.{PlainAct, na, si, sd, li, ld, lr, oi, od, or, PlainComponent}

abbrev pub step_data : PlainStep → Data
step_data (key k) = raw.string k
step_data (index i) = raw.number (raw.unsigned i)

abbrev pub path_items : List PlainStep → raw.Items
path_items [] = raw.no_items
path_items (s ∷ p) = raw.item (step_data s) (path_items p)

abbrev pub path_data : List PlainStep → Data
path_data p = raw.array (path_items p)

-- the last step of the path, if the act has one
abbrev pub last_step : PlainAct → List PlainStep
last_step (na x) = []
last_step (si p s) = index p ∷ []
last_step (sd p s) = index p ∷ []
last_step (li i v) = index i ∷ []
last_step (ld i x) = index i ∷ []
last_step (lr i x y) = index i ∷ []
last_step (oi k v) = key k ∷ []
last_step (od k x) = key k ∷ []
last_step (or k x y) = key k ∷ []

-- the container's path followed by the last step
abbrev pub full_path : List PlainStep → PlainAct → List PlainStep
full_path q a = q ++ last_step a

abbrev pub single_member : List ℕ → Data → raw.Members
single_member k d = raw.member k d raw.no_members

abbrev pub act_members : PlainAct → Data → raw.Members
act_members (na x) p = raw.member (codes "na") (raw.number (of_integer x)) (single_member (codes "p") p)
act_members (si i s) p = raw.member (codes "p") p (single_member (codes "si") (raw.string s))
act_members (sd i s) p = raw.member (codes "p") p (single_member (codes "sd") (raw.string s))
act_members (li i v) p = raw.member (codes "li") (data_of_value v) (single_member (codes "p") p)
act_members (ld i x) p = raw.member (codes "ld") (data_of_value x) (single_member (codes "p") p)
act_members (lr i x y) p =
    raw.member (codes "ld") (data_of_value x) (raw.member (codes "li") (data_of_value y) (single_member (codes "p") p))
act_members (oi k v) p = raw.member (codes "oi") (data_of_value v) (single_member (codes "p") p)
act_members (od k x) p = raw.member (codes "od") (data_of_value x) (single_member (codes "p") p)
act_members (or k x y) p =
    raw.member (codes "od") (data_of_value x) (raw.member (codes "oi") (data_of_value y) (single_member (codes "p") p))

abbrev pub component_data : PlainComponent → Data
component_data c = raw.object (act_members c.act (path_data (full_path c.path c.act)))

abbrev pub component_items : List PlainComponent → raw.Items
component_items [] = raw.no_items
component_items (c ∷ cs) = raw.item (component_data c) (component_items cs)

abbrev pub op_data : List PlainComponent → Data
op_data cs = raw.array (component_items cs)
