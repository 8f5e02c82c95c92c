use Rattle.std.proofs.Common.{◌≡◌, ℕ, ◌<◌, []}
use Rattle.sdb_backend.specs.PassModel.{IsPassOfBackend}
use Rattle.sdb_store.specs.SaverModel.{saver_pass, unwritten_lines, places_left, AddsLines, TakesWithLines}
use Rattle.sdb_store.proofs.saver.Saver.add_entries.Given as goal

abbrev pub invariant-loop-shard : goal.invariant-loop-shard
invariant-loop-shard g l = record {
  pass : IsPassOfBackend (saver_pass l.self) l.backend;
  added : AddsLines l.backend l.initial.self l.self;
  none_left : places_left l.self ≡ [];
  taken : (i : ℕ) → i < l.shard → TakesWithLines l.backend (unwritten_lines l.self) i;
}
