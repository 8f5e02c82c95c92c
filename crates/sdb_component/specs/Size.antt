-- The size of a component: the steps of its path, the bytes of its keys and texts, and the sizes of its values.
use Rattle.std.specs.Prelude.{ℕ, suc, ◌+◌, List, [], ◌∷◌, length}
use Rattle.sdb_value.specs.Size.{size}
use Rattle.sdb_value.specs.Value.{PlainStep, key, index}
use Rattle.sdb_component.specs.Plain.{PlainAct, na, si, sd, li, ld, lr, oi, od, or, PlainComponent}

abbrev pub step_size : PlainStep → ℕ
step_size (key k) = suc (length k)
step_size (index i) = 1

abbrev pub path_size : List PlainStep → ℕ
path_size [] = 0
path_size (s ∷ p) = step_size s + path_size p

abbrev pub act_size : PlainAct → ℕ
act_size (na x) = 0
act_size (si p s) = length s
act_size (sd p d) = length d
act_size (li i v) = size v
act_size (ld i x) = size x
act_size (lr i x y) = size x + size y
act_size (oi k v) = length k + size v
act_size (od k x) = length k + size x
act_size (or k x y) = length k + (size x + size y)

abbrev pub component_size : PlainComponent → ℕ
component_size c = path_size c.path + act_size c.act
