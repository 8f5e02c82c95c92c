use Rattle.std.proofs.Common.{◌≡◌, ◌⊎◌, ⊎_elim, ℕ, ◌<◌, map, refl, sym, subst, arith}
use Rattle.sdb_backend.specs.UnsavedEntries.{plain_places, plain_entry_at, TakesUnsaved}
use Rattle.sdb_store.specs.SaverModel.{unwritten_lines, TakesWithLines}
use Rattle.sdb_store.proofs.AddsLemmas.{adds_none, adds_places, adds_both, takes_more, lines_of_left}
use Rattle.sdb_store.proofs.BetweenLemmas.{below_or_last}
use Rattle.sdb_store.proofs.saver.Saver.add_entries.Goals as goal

pub loop-shard-init : goal.loop-shard-init
loop-shard-init g c =
    record {
      pass = c.add_taken.ensures.pass;
      added = adds_none c.args.backend.now c.add_taken.new.self _ refl refl refl refl;
      none_left = c.in_ok-add_taken.ensures.none_left;
      taken = λ i lt. absurd (omega (arith, lt));
    }

pub returns-in_default-clause-added : goal.returns-in_default-clause-added
returns-in_default-clause-added g c =
    let b = c.args.backend.now in
    let s = c.args.self.now in
    let t = c.add_taken.new.self in
    let m = c.loop-shard.self in
    adds_both b s t _ c.add_taken.ensures.added
    (adds_both b t m _ c.loop-shard.invariant.added (adds_none b m _ refl refl refl refl))

pub returns-in_err-add_taken-2-clause-added : goal.returns-in_err-add_taken-2-clause-added
returns-in_err-add_taken-2-clause-added g c =
    let b = c.args.backend.now in
    let s = c.args.self.now in
    let t = c.add_taken.new.self in
    let m = c.loop-shard.self in
    adds_both b s t _ c.add_taken.ensures.added
    (adds_both b t m _ c.loop-shard.invariant.added
    (adds_both b m _ _ (adds_places b m _ c.loop-shard.invariant.none_left refl refl refl) c.add_taken-in-loop-shard.ensures.added))

pub loop-shard-preserved : goal.loop-shard-preserved
loop-shard-preserved g c =
    let b = c.args.backend.now in
    let t = c.add_taken.new.self in
    let m = c.loop-shard.self in
    let new = c.add_taken-in-loop-shard.new.self in
    let after = c.add_taken-in-loop-shard.ensures.added in
    let begun = adds_places b m _ c.loop-shard.invariant.none_left refl refl refl in
    let step = adds_both b m _ new begun after in
    let none = c.in_ok-add_taken-2.ensures.none_left in
    let shard = c.loop-shard.shard in
    let last : TakesWithLines b (unwritten_lines new) shard = record {
      before = m.pass;
      after = c.take_unsaved.new.pass;
      is_own = c.loop-shard.invariant.pass;
      places = map plain_entry_at c.in-Some.taken.items;
      takes = subst (λ r. TakesUnsaved shard m.pass (plain_places r) c.take_unsaved.new.pass) c.in-Some.is c.take_unsaved.ensures.taken;
      lines_at = λ e i. lines_of_left b _ new after none e i;
    } in
    let each : (i : ℕ) → (i < shard) ⊎ (i ≡ shard) → TakesWithLines b (unwritten_lines new) i =
    λ i h. ⊎_elim (λ lt. takes_more b m new step i (c.loop-shard.invariant.taken i lt))
    (λ e. subst (TakesWithLines b (unwritten_lines new)) (sym e) last) h in
    record {
      pass = c.add_taken-in-loop-shard.ensures.pass;
      added = adds_both b t m new c.loop-shard.invariant.added step;
      none_left = none;
      taken = λ i lt. each i (below_or_last shard i lt);
    }

pub returns-clause-added : goal.returns-clause-added
returns-clause-added g c =
    adds_both c.args.backend.now c.args.self.now c.add_taken.new.self c.loop-shard.self c.add_taken.ensures.added
    c.loop-shard.invariant.added
