use Rattle.std.proofs.Common.{◌≤◌, refl, ap, arith}
use Rattle.sdb_store.specs.SaverModel.{lines_of}
use Rattle.sdb_store.proofs.AddsLemmas.{adds_none, adds_block}
use Rattle.sdb_store.proofs.saver.Saver.add_block.Goals as goal

pub returns-then-number-self-clause-added : goal.returns-then-number-self-clause-added
returns-then-number-self-clause-added g c = adds_none c.args.backend.now c.args.self.now _ refl refl refl refl

pub returns-then-number-gt-MAX-clause-added : goal.returns-then-number-gt-MAX-clause-added
returns-then-number-gt-MAX-clause-added g c = adds_none c.args.backend.now c.args.self.now _ refl refl refl refl

pub returns-in_err-line-clause-added : goal.returns-in_err-line-clause-added
returns-in_err-line-clause-added g c = adds_none c.args.backend.now c.args.self.now _ refl refl refl refl

pub returns-in_err-push_line-clause-added : goal.returns-in_err-push_line-clause-added
returns-in_err-push_line-clause-added g c =
    adds_none c.args.backend.now c.args.self.now _ (ap lines_of c.in_err-push_line.ensures.unchanged_on_err) refl refl refl

pub returns-clause-added : goal.returns-clause-added
returns-clause-added g c =
    let safe : c.min-reserved.result ≤ 9007199254740991 = omega (arith, c.min-reserved.ensures) in
    adds_block c.args.backend.now c.args.self.now _ c.in_ok-line.line.items c.in_ok-push_line.ensures.added c.in_ok-line.ensures safe refl refl
