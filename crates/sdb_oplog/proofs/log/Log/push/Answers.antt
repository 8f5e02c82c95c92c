use Rattle.std.proofs.Common.{◌≡◌, ◌++◌, ◌∷◌, ◌&&◌, [], length, cond, Some, bytes_eq, nat_eq, sym, subst, ap, ◌∙◌}
use Rattle.sdb_oplog.specs.IndexModel.{indexed_version}
use Rattle.sdb_oplog.specs.LogInvariant.{CanAppend}
use Rattle.sdb_oplog.proofs.AppendLemmas.{one_more}
use Rattle.sdb_oplog.proofs.log.Log.push.Goals as goal

pub invariant_of-self-2 : goal.invariant_of-self-2
invariant_of-self-2 c =
    let es = c.self.inside.entries.items in
    let x = c.self.inside.index in
    let e = c.args.entry in
    let src : c.src.result.now ≡ e.arrived.src = c.src.ensures ∙ ap (λ a. a.src) c.arrived-arrived.ensures in
    let seq : c.seq.result ≡ e.arrived.seq = c.seq.ensures ∙ ap (λ a. a.seq) c.arrived-arrived.ensures in
    let at : c.len-at.result ≡ length es = c.len-at.ensures.len ∙ ap length (sym c.self.view_is) in (
      one_more es c.push.new.self.items e x c.insert.new.self (c.in-Ok.ensures.items ∙ ap (λ l. l ++ e ∷ []) c.reserve.ensures.items) c.self.invariant.0
          (subst (λ l. CanAppend l e) (sym c.self.view_is) c.requires)
          (λ s n. c.in_ok-insert.ensures.ok s n ∙ ap (λ t. cond (nat_eq c.seq.result n && bytes_eq t s) (Some c.len-at.result) (indexed_version x s n)) src
          ∙ ap (λ k. cond (nat_eq k n && bytes_eq e.arrived.src s) (Some c.len-at.result) (indexed_version x s n)) seq
          ∙ ap (λ v. cond (nat_eq e.arrived.seq n && bytes_eq e.arrived.src s) (Some v) (indexed_version x s n)) at),
      c.in_ok-insert.ensures.has_entries c.self.invariant.1,
    )
