use Rattle.sdb_backend.proofs.PassRunLemmas.{has_taken_queue}
use Rattle.sdb_backend.proofs.laws.takes_are_queue.Goals as goal

pub returns : goal.returns
returns c = λ k id calls p q new answered. has_taken_queue k id calls p q new answered
