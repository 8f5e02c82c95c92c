use Rattle.std.proofs.Common.{◌≡◌, ◌-◌, length}
use Rattle.sdb_rope.specs.Rope.{rope_texts}
use Rattle.sdb_value_text.specs.Level.{string_text}
use Rattle.sdb_value_text.proofs.level.skip_empty.Given as goal

abbrev pub invariant-loop-chunk : goal.invariant-loop-chunk
invariant-loop-chunk l = string_text (rope_texts l.text) l.at ≡ string_text (rope_texts l.text) l.initial.index

abbrev pub decreases-loop-chunk : goal.decreases-loop-chunk
decreases-loop-chunk l = length (rope_texts l.text) - l.at
