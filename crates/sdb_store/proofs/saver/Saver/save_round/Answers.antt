use Rattle.std.proofs.Common.{sym, subst}
use Rattle.sdb_backend.specs.PassModel.{IsPassOfBackend}
use Rattle.sdb_store.specs.SaverModel.{AddsLines}
use Rattle.sdb_store.proofs.AddsLemmas.{adds_both, commits_round}
use Rattle.sdb_store.proofs.BetweenLemmas.{map_on_ok, map_on_err, on_err_of, on_ok_both}
use Rattle.sdb_store.proofs.saver.Saver.save_round.Goals as goal

pub returns-clause-pass : goal.returns-clause-pass
returns-clause-pass g c =
    subst (λ p. IsPassOfBackend p c.args.backend.now) (sym c.write_group.ensures.pass) c.add_entries.ensures.pass

pub returns-clause-committed : goal.returns-clause-committed
returns-clause-committed g c trusts =
    let b = c.args.backend.now in
    let s = c.args.self.now in
    let t = c.add_entries.new.self in
    let added = adds_both b s c.add_block.new.self t c.add_block.ensures.added c.add_entries.ensures.added in
    let wrote = c.write_group.ensures in
    let r = c.write_group.result in
    map_on_ok r
    (λ h. commits_round g.W.LineWriter.has_lines b s t c.write_group.new.self c.args.writer.now c.write_group.new.writer
    added c.in_ok-add_entries.ensures.none_left c.in_ok-add_entries.ensures.taken h.0 h.1.0 wrote.places_unchanged h.1.1)
    (on_ok_both _ _ r (wrote.committed trusts) (on_ok_both _ _ r wrote.none_left wrote.block))

pub returns-clause-kept_on_err : goal.returns-clause-kept_on_err
returns-clause-kept_on_err g c =
    let b = c.args.backend.now in
    let s = c.args.self.now in
    let t = c.add_entries.new.self in
    let added = adds_both b s c.add_block.new.self t c.add_block.ensures.added c.add_entries.ensures.added in
    map_on_err c.write_group.result (λ e. subst (AddsLines b s) (sym e) added) c.write_group.ensures.unchanged_on_err

pub returns-in_err-add_entries-clause-kept_on_err : goal.returns-in_err-add_entries-clause-kept_on_err
returns-in_err-add_entries-clause-kept_on_err g c =
    on_err_of c.from_residual-in_err-add_entries.result
    (adds_both c.args.backend.now c.args.self.now c.add_block.new.self c.add_entries.new.self c.add_block.ensures.added
    c.add_entries.ensures.added)
