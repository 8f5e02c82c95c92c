use Rattle.std.proofs.Common.{◌≡◌, inl, inr, ℕ, List, ◌++◌, true, arith, rules, subst, IsTrue, OnOk, OnErr, refl}
use Rattle.sqlite.specs.State.{HasCleanDisk, KeepsCommit}
use Rattle.sqlite.specs.Held.{Held, state}
use Rattle.sdb_linefile.specs.Lines.{lines_of}
use Rattle.sdb_linefile.specs.LineTable.{Added}
use Rattle.sdb_linefile.specs.LineFile.{StoresLines}
use Rattle.sdb_linefile.proofs.Adding.{fails_back, stores_group, stores_back, err_then, ok_after, on_err}
use Rattle.sdb_linefile.proofs.Statements.{contains_now}
use Rattle.sdb_linefile.proofs.storing.commit_group.Goals as goal

pub returns-in_err-insert_each-clause-err : goal.returns-in_err-insert_each-clause-err
returns-in_err-insert_each-clause-err g c clean is_open =
    let old = state g.S.Store (record c.args.conn.now { in_transaction = true }) in
    let mid = state g.S.Store c.insert_each.new.transaction.conn.now in
    let end = c.drop-transaction.new.self.0 in
    let same : end ≡ c.conn-1.given.0 = search rules in
    let late : HasCleanDisk (state g.S.Store end) = rw same clean in
    let still : IsTrue (state g.S.Store end).is_open = rw same is_open in
    let early : HasCleanDisk mid = omega (arith, c.drop-transaction.ensures.survives.clean, late) in
    let single : IsTrue c.is_autocommit-settled.result = rw (c.is_autocommit-settled.ensures.value, c.requires.autocommit) refl in
    let kept : KeepsCommit old mid = rw c.transaction-transaction.ensures.begun at (c.insert_each.ensures.kept early) in
    subst (λ (h : Held _). OnErr c.from_residual.result ((before : List (List ℕ)) → StoresLines before (state g.S.Store c.args.conn.now) → StoresLines before (state g.S.Store h))) same
    (on_err c.from_residual.result (λ before has.
    stores_back before (state g.S.Store c.args.conn.now) mid (state g.S.Store end) (c.is_autocommit-settled.ensures.settled single) kept (c.drop-transaction.ensures.undone late) still
    (c.schema-live.ensures.live has.is_open).0 (λ db may. g.met.S.Store.settled end.store db still may) has))

pub returns-clause-ok : goal.returns-clause-ok
returns-clause-ok g c clean =
    let old = state g.S.Store (record c.args.conn.now { in_transaction = true }) in
    let mid = state g.S.Store c.insert_each.new.transaction.conn.now in
    let end = c.commit.new.self.0 in
    let xs = lines_of c.args.group.now in
    let same : end ≡ c.conn-2-1.given.0 = search rules in
    let late : HasCleanDisk (state g.S.Store end) = rw same clean in
    let early : HasCleanDisk mid = omega (arith, c.commit.ensures.survives.clean, late) in
    let added : Added xs old mid = rw c.transaction-transaction.ensures.begun at (c.in_ok-insert_each.ensures.added early) in
    subst (λ (h : Held _). OnOk c.commit.result ((before : List (List ℕ)) → StoresLines before (state g.S.Store c.args.conn.now) → StoresLines (before ++ xs) (state g.S.Store h))) same
    (ok_after c.commit.result
    (λ done before has. stores_group xs before (state g.S.Store c.args.conn.now) mid (state g.S.Store end) added done.1 (c.schema-live.ensures.live has.is_open).0
    (λ db may. g.met.S.Store.settled end.store db done.1.is_open may) has)
    (c.commit.ensures.ok late))

pub returns-clause-crash : goal.returns-clause-crash
returns-clause-crash g c clean before has db may =
    let old = state g.S.Store (record c.args.conn.now { in_transaction = true }) in
    let mid = state g.S.Store c.insert_each.new.transaction.conn.now in
    let end = c.commit.new.self.0 in
    let xs = lines_of c.args.group.now in
    let same : end ≡ c.conn-2-1.given.0 = search rules in
    let late : HasCleanDisk (state g.S.Store end) = rw same clean in
    let early : HasCleanDisk mid = omega (arith, c.commit.ensures.survives.clean, late) in
    let added : Added xs old mid = rw c.transaction-transaction.ensures.begun at (c.in_ok-insert_each.ensures.added early) in
    let left : g.S.Store.recovers end.store db = rw same may in
    elim (c.commit.ensures.survives.crash late db left) [
      | inl first ↦ elim ((rw c.transaction-transaction.ensures.begun at (c.insert_each.ensures.survives.crash early db)) first) [
        | inl was ↦ inl (has.crash db was)
        | inr none ↦ absurd none
      ]
      | inr is ↦ inr (contains_now (before ++ xs) mid.now db (added.now before has.now) (added.sound before has.now (c.schema-live.ensures.live has.is_open).0) is)
    ]

pub returns-clause-err : goal.returns-clause-err
returns-clause-err g c clean is_open =
    let old = state g.S.Store (record c.args.conn.now { in_transaction = true }) in
    let mid = state g.S.Store c.insert_each.new.transaction.conn.now in
    let end = c.commit.new.self.0 in
    let xs = lines_of c.args.group.now in
    let same : end ≡ c.conn-2-1.given.0 = search rules in
    let late : HasCleanDisk (state g.S.Store end) = rw same clean in
    let still : IsTrue (state g.S.Store end).is_open = rw same is_open in
    let early : HasCleanDisk mid = omega (arith, c.commit.ensures.survives.clean, late) in
    let added : Added xs old mid = rw c.transaction-transaction.ensures.begun at (c.in_ok-insert_each.ensures.added early) in
    let kept : KeepsCommit old mid = rw c.transaction-transaction.ensures.begun at (c.insert_each.ensures.kept early) in
    let single : IsTrue c.is_autocommit-settled.result = rw (c.is_autocommit-settled.ensures.value, c.requires.autocommit) refl in
    subst (λ (h : Held _). OnErr c.commit.result ((before : List (List ℕ)) → StoresLines before (state g.S.Store c.args.conn.now) → StoresLines before (state g.S.Store h))) same
    (err_then c.commit.result
    (λ e failed before has. stores_back before (state g.S.Store c.args.conn.now) mid (state g.S.Store end) (c.is_autocommit-settled.ensures.settled single) kept
    (fails_back xs old mid (state g.S.Store end) e added failed) still (c.schema-live.ensures.live has.is_open).0 (λ db may. g.met.S.Store.settled end.store db still may) has)
    (c.commit.ensures.err late))
