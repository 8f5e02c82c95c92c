-- The views of acts and components.
use Rattle.std.specs.Arc.{arc_value}
use Rattle.std.specs.declared.alloc.Global.{Global}
use Rattle.std.specs.declared.sync.Arc.{Arc}
use Rattle.std.specs.Prelude.{List, [], ◌∷◌, string_bytes}
use Rattle.sdb_value.specs.Value.{Value}
use Rattle.sdb_value.specs.View.{value_of}
use Rattle.sdb_value.specs.declared.value.Json.{Json}
use Rattle.sdb_component.specs.Plain.{PlainAct, PlainComponent, na, si, sd, li, ld, lr, oi, od, or}
use Rattle.sdb_component.specs.declared.component.Act.{Act}
use Rattle.sdb_component.specs.declared.component.Act.TheVariants.{Na, Si, Sd, Li, Ld, Lr, Oi, Od, Or}
use Rattle.sdb_component.specs.declared.operation.Components.{Components}
use Rattle.sdb_component.specs.declared.operation.Components.TheVariants.{One, Many}

-- the value that clones of an act share
abbrev pub arc_json_value : Arc Json Global → Value
arc_json_value v = value_of (arc_value v)

abbrev pub plain_act : Act → PlainAct
plain_act (Na x) = na x
plain_act (Si p s) = si p s
plain_act (Sd p d) = sd p d
plain_act (Li i v) = li i (value_of (arc_value v))
plain_act (Ld i x) = ld i (value_of (arc_value x))
plain_act (Lr i x y) = lr i (value_of (arc_value x)) (value_of (arc_value y))
plain_act (Oi k v) = oi (string_bytes k) (value_of (arc_value v))
plain_act (Od k x) = od (string_bytes k) (value_of (arc_value x))
plain_act (Or k x y) = or (string_bytes k) (value_of (arc_value x)) (value_of (arc_value y))

abbrev pub plain_components : Components → List PlainComponent
plain_components (One c) = c ∷ []
plain_components (Many v) = v.items
