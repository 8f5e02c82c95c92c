use Rattle.std.proofs.Common.{◌≡◌, List, ◌∷◌, ◌++◌, drop}
use Rattle.json.specs.Token.{Token, begin_array}
use Rattle.sdb_value.specs.ToJson.{array_tail_tokens}
use Rattle.sdb_value.specs.View.{plain_path}
use Rattle.sdb_component.specs.ToJson.{last_step, path_items}
use Rattle.sdb_component.proofs.write.write_path.Given as goal

abbrev pub invariant-loop-step : goal.invariant-loop-step
invariant-loop-step l = record {
  before : l.out.before ≡ l.fn.out.before;
  whole : l.out.tokens ++ array_tail_tokens (path_items (plain_path (drop l.step-index l.step-items) ++ last_step l.component.act)) ≡ l.fn.out.tokens ++ begin_array ∷ array_tail_tokens (path_items (plain_path l.step-items ++ last_step l.component.act));
  done : List Token;
  split : begin_array ∷ array_tail_tokens (path_items (plain_path l.step-items ++ last_step l.component.act)) ≡ done ++ array_tail_tokens (path_items (plain_path (drop l.step-index l.step-items) ++ last_step l.component.act));
  written : l.out.tokens ≡ l.fn.out.tokens ++ done;
}
