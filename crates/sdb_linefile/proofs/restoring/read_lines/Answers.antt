use Rattle.std.proofs.Common.{◌≡◌, ◌∙◌, [], length, IsTrue, refl, sym, subst, rules, arith}
use Rattle.sqlite.specs.State.{HasCleanDisk, IsUnchanged}
use Rattle.sqlite.specs.Listing.{understood}
use Rattle.sqlite.specs.Held.{Held, state}
use Rattle.sqlite.proofs.Callers.{IsPlain, begun_plain}
use Rattle.sqlite.proofs.StateLemmas.{survives_then}
use Rattle.sdb_linefile.specs.Lines.{AcceptsAll}
use Rattle.sdb_linefile.specs.LineFile.{StoresLines}
use Rattle.sdb_linefile.proofs.Reading.{select_text, select_plain, commits_nothing, leaves_still, read_none, read_one, read_all}
use Rattle.sdb_linefile.proofs.restoring.read_lines.Goals as goal

pub rows-init : goal.rows-init
rows-init g c =
    let made = c.in_ok-rows.ensures in
    let plain : IsPlain (understood c.args.conn.now.schema select_text) = subst (λ s. IsPlain (understood s select_text)) (sym c.requires.table) select_plain in (
      refl,
      made.mode c.requires.autocommit,
      commits_nothing (state g.S.Store c.args.conn.now) (state g.S.Store c.in_ok-rows.rows.conn.now) c.requires.table made.survives,
      λ clean. read_none g.S.Store g.K.LineSink.accepts c.args.conn.now c.in_ok-rows.rows.conn.now c.args.sink.now (begun_plain g.S.Store select_text [] c.args.conn.now _ plain (made.begun clean)),
      c.requires.holds,
    )

pub rows-preserved : goal.rows-preserved
rows-preserved g c =
    let moved = c.next.follows.holds-at-none in
    let now = c.next.follows.lender-at-none.conn.now in
    let was = c.rows.invariant in (
      moved.same_reference ∙ was.0,
      moved.mode was.1,
      survives_then (state g.S.Store c.args.conn.now) (state g.S.Store c.rows.rows.conn.now) (state g.S.Store now) _ _ (λ _. ⊥) (λ _ db none. none) (λ _ db none. none) was.2 moved.survives,
      λ clean.
          let early : HasCleanDisk (state g.S.Store c.rows.rows.conn.now) = omega (arith, clean, moved.survives.clean) in
          let taken : IsTrue c.receive.result = search rules in
          let same : IsUnchanged (state g.S.Store c.rows.rows.conn.now) (state g.S.Store now) = rw c.in_ok-row.was at (moved.same clean) in
          let advances = rw (c.in_ok-row.was, c.in-Some.is) at (moved.ok clean) in
          read_one g.S.Store g.K.LineSink.accepts c.args.conn.now c.rows.rows.conn.now now c.args.sink.now c.rows.sink c.receive.new.self c.rows.count c.in-Some.row.now c.in_ok-line.line.now
          (was.3 early) (λ given. advances select_text [] given) same c.in_ok-line.ensures (c.receive.ensures.accepted taken),
      c.receive.ensures.holds,
    )

pub returns-in_default-clause-ok : goal.returns-in_default-clause-ok
returns-in_default-clause-ok g c clean lines has =
    let moved = c.next.follows.holds-at-none in
    let now = c.next.follows.lender-at-none.conn.now in
    let is : now ≡ c.conn-in_default-1.given.0 = search rules in
    let late : HasCleanDisk (state g.S.Store now) = rw is clean in
    let was = c.rows.invariant in
    let early : HasCleanDisk (state g.S.Store c.rows.rows.conn.now) = omega (arith, late, moved.survives.clean) in
    let same : IsUnchanged (state g.S.Store c.rows.rows.conn.now) (state g.S.Store now) = rw c.in_ok-row.was at (moved.same late) in
    let ends = rw (c.in_ok-row.was, c.in_default.is) at (moved.ok late) in
    let whole = survives_then (state g.S.Store c.args.conn.now) (state g.S.Store c.rows.rows.conn.now) (state g.S.Store now) _ _ (λ _. ⊥) (λ _ db none. none) (λ _ db none. none) was.2 moved.survives in
    let read = read_all g.S.Store g.K.LineSink.accepts c.args.conn.now c.rows.rows.conn.now now c.args.sink.now c.rows.sink c.rows.count (was.3 early) (λ given. ends select_text [] given) same
    (leaves_still (state g.S.Store c.args.conn.now) (state g.S.Store now) whole late) lines has in
    subst (λ (h : Held _). StoresLines lines (state g.S.Store h) × (c.rows.count ≡ length lines) × AcceptsAll g.K.LineSink.accepts lines c.args.sink.now c.rows.sink) is read
