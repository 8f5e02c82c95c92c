use Rattle.std.proofs.Common.{drop}
use Rattle.sdb_dump.specs.Utf8Facts.{AreTextComponents}
use Rattle.sdb_dump.proofs.utf8_facts.component_texts.Given as goal

abbrev pub invariant-loop-component : goal.invariant-loop-component
invariant-loop-component l = AreTextComponents (drop l.component-index l.components) → AreTextComponents l.components
