use Rattle.std.proofs.Common.{◌≡◌, ◌∷◌, ◌++◌, drop}
use Rattle.json.specs.Token.{begin_array}
use Rattle.sdb_value.specs.ToJson.{array_tail_tokens}
use Rattle.sdb_client_main.specs.Answers.{operation_items}
use Rattle.sdb_client_main.proofs.write_answer.write_operations.Given as goal

-- the written operations and the rest are all operations
abbrev pub invariant-loop-op : goal.invariant-loop-op
invariant-loop-op l = record {
  before : l.out.before ≡ l.fn.out.before;
  whole : l.out.tokens ++ array_tail_tokens (operation_items (drop l.op-index l.operations)) ≡ l.fn.out.tokens ++ begin_array ∷ array_tail_tokens (operation_items l.operations);
}
