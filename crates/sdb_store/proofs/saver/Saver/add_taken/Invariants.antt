use Rattle.std.proofs.Common.{◌-◌, length}
use Rattle.sdb_backend.specs.PassModel.{IsPassOfBackend}
use Rattle.sdb_store.specs.SaverModel.{saver_pass, AddsLines}
use Rattle.sdb_store.proofs.saver.Saver.add_taken.Given as goal

abbrev pub invariant-loop-self : goal.invariant-loop-self
invariant-loop-self g l =
    IsPassOfBackend (saver_pass l.self) l.backend × AddsLines l.backend l.initial.self l.self

abbrev pub decreases-loop-self : goal.decreases-loop-self
decreases-loop-self g l = length l.self.taken.items - l.self.position
