use Rattle.sdb_oplog.specs.Keys.{plain_key}
use Rattle.sdb_backend.specs.PassModel.{IsPassOfBackend}
use Rattle.sdb_backend.specs.LooksInParts.{KnowsFirstMissed}
use Rattle.sdb_backend.proofs.LookPartLemmas.{ContinuesAs}
use Rattle.sdb_backend.proofs.backend.Backend.look_from.Given as goal

abbrev pub invariant-loop : goal.invariant-loop
invariant-loop g l =
    let k = plain_key l.key in
    record {
      belongs : IsPassOfBackend l.pass l.self;
      knows : KnowsFirstMissed l.pass k l.submission l.missed.items;
      continues : ContinuesAs k l.fn.pass l.pass;
    }
