use Rattle.std.proofs.Common.{◌≡◌, List, ◌∷◌, ◌++◌, drop}
use Rattle.json.specs.Token.{Token, begin_array}
use Rattle.sdb_value.specs.ToJson.{array_tail_tokens}
use Rattle.sdb_component.specs.ToJson.{component_items}
use Rattle.sdb_component.proofs.write.write_op.Given as goal

-- the written part and the rest are the whole
abbrev pub invariant-loop-component : goal.invariant-loop-component
invariant-loop-component l = record {
  before : l.out.before ≡ l.fn.out.before;
  whole : l.out.tokens ++ array_tail_tokens (component_items (drop l.component-index l.component-items)) ≡ l.fn.out.tokens ++ begin_array ∷ array_tail_tokens (component_items l.component-items);
  done : List Token;
  split : begin_array ∷ array_tail_tokens (component_items l.component-items) ≡ done ++ array_tail_tokens (component_items (drop l.component-index l.component-items));
  written : l.out.tokens ≡ l.fn.out.tokens ++ done;
}
