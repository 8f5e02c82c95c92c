use Rattle.sdb_model_tests.proofs.Tallies.{occurrences_of_others}
use Rattle.sdb_model_tests.proofs.growlock.AddNumberJobTally.run.Goals as goal

pub returns-clause-others_unchanged : goal.returns-clause-others_unchanged
returns-clause-others_unchanged c = λ k ne. occurrences_of_others k c.args.number _ c.args.tally.now.numbers.items c.push.new.self.items c.push.ensures.items ne
