use Rattle.std.proofs.Common.{refl}
use Rattle.sdb_store.proofs.AddsLemmas.{adds_none, adds_both}
use Rattle.sdb_store.proofs.saver.Saver.add_taken.Goals as goal

pub loop-self-init : goal.loop-self-init
loop-self-init g c = (c.requires, adds_none c.args.backend.now c.args.self.now _ refl refl refl refl)

pub loop-self-preserved : goal.loop-self-preserved
loop-self-preserved g c = (
  c.add_next_line.ensures.pass,
  adds_both c.args.backend.now c.args.self.now c.loop-self.self c.add_next_line.new.self c.loop-self.invariant.1
      c.add_next_line.ensures.added,
)

pub returns-in_err-add_next_line-clause-added : goal.returns-in_err-add_next_line-clause-added
returns-in_err-add_next_line-clause-added g c =
    adds_both c.args.backend.now c.args.self.now c.loop-self.self c.add_next_line.new.self c.loop-self.invariant.1
    c.add_next_line.ensures.added
