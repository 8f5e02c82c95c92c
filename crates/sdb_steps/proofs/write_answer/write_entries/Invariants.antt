use Rattle.std.proofs.Common.{◌≡◌, ◌∷◌, ◌++◌, drop}
use Rattle.json.specs.Token.{begin_array}
use Rattle.sdb_value.specs.ToJson.{array_tail_tokens}
use Rattle.sdb_steps.specs.Lines.{entry_items}
use Rattle.sdb_steps.proofs.write_answer.write_entries.Given as goal

-- the written entries and the rest are all entries
abbrev pub invariant-loop-entry : goal.invariant-loop-entry
invariant-loop-entry l = record {
  before : l.out.before ≡ l.fn.out.before;
  whole : l.out.tokens ++ array_tail_tokens (entry_items (drop l.entry-index l.entries)) ≡ l.fn.out.tokens ++ begin_array ∷ array_tail_tokens (entry_items l.entries);
}
