use Rattle.std.proofs.Common.{◌++◌, [], ◌∷◌, None, length, map, refl, sym, ap, ◌∙◌, inl, inr, arith}
use Rattle.std.proofs.lemmas.List.{append-nil}
use Rattle.sdb_oplog.specs.Keys.{plain_key}
use Rattle.sdb_session.specs.PumpModel.{PlainTake, entries_of_others, take_answers, pump_answers}
use Rattle.sdb_oplog.specs.declared.keys.Key.{Key}
use Rattle.sdb_session.specs.ProjectionModel.{projection_of_key}
use Rattle.sdb_session.specs.Output.{answer_items}
use Rattle.sdb_session.specs.Responses.{entry_answers}
use Rattle.sdb_session.specs.declared.subscriptions.Subscription.{Subscription}
use Rattle.sdb_session.specs.View.{plain_subscription, queue_id_of, plain_session}
use Rattle.sdb_session.proofs.PassLemmas.{next_pass_trans}
use Rattle.sdb_session.proofs.PumpLemmas.{takes_more, takes_none, output_more, counts_more, pieces_more, taken_sub, pump_stopped}
use Rattle.sdb_session.proofs.session.Session.take_from_each.Goals as goal

pub loop-key-init : goal.loop-key-init
loop-key-init g c = record {
  pass = record { accepted = c.requires.accepted; number_unchanged = refl };
  small = omega (arith, ap length c.into_iter-key-iterator.ensures.into_iter_gives, ap length c.iter-key-items.ensures.rest);
  so_far = record {
    takes = [];
    subs_are = ap (map plain_subscription) (c.into_iter-key-iterator.ensures.into_iter_gives ∙ c.iter-key-items.ensures.rest);
    calls = takes_none (g.D.Desk.step c.args.desk.now) c.args.max c.args.pass.now;
    count_is = refl;
    said = sym (append-nil (g.O.AnswerSink.contents c.args.out.now));
  };
}

pub returns-in_err-entries-clause-pumped : goal.returns-in_err-entries-clause-pumped
returns-in_err-entries-clause-pumped g c =
    let far = c.loop-key.invariant.so_far in
    pump_stopped _ _ _ _ _ _ c.from_residual.result _ _ c.from_residual.ensures.0 (record {
      takes = far.takes;
      subs_left = map plain_subscription c.loop-key.key-iterator;
      between = c.loop-key.pass;
      subs_are = far.subs_are;
      calls = far.calls;
      last = inr (queue_id_of c.in-Some.queue.now, (None, c.in_err-entries.ensures.takes_one));
    })

pub returns-in_err-write_entries_of_others-clause-pumped : goal.returns-in_err-write_entries_of_others-clause-pumped
returns-in_err-write_entries_of_others-clause-pumped g c =
    let far = c.loop-key.invariant.so_far in
    let e : Key × Subscription = (c.in-Some.key.now, c.in-Some.queue.now) in
    let x : PlainTake = record { sub = plain_subscription e; entries = c.in_ok-entries.entries.items } in
    let rest = c.next.new.self in
    pump_stopped _ _ _ _ _ _ c.from_residual-in_err-write_entries_of_others.result _ _ c.from_residual-in_err-write_entries_of_others.ensures.0 (record {
      takes = far.takes ++ x ∷ [];
      subs_left = map plain_subscription rest;
      between = c.take_entries.new.pass;
      subs_are = taken_sub plain_subscription far.takes x e c.loop-key.key-iterator rest (plain_session c.args.self.now).subs c.in-Some.ensures.steps refl far.subs_are;
      calls = takes_more (g.D.Desk.step c.args.desk.now) c.args.max far.takes x c.args.pass.now c.loop-key.pass c.take_entries.new.pass far.calls c.in_ok-entries.ensures.takes_one;
      last = inl refl;
    })

pub loop-key-preserved : goal.loop-key-preserved
loop-key-preserved g c =
    let far = c.loop-key.invariant.so_far in
    let e : Key × Subscription = (c.in-Some.key.now, c.in-Some.queue.now) in
    let x : PlainTake = record { sub = plain_subscription e; entries = c.in_ok-entries.entries.items } in
    let rest = c.next.new.self in
    let source = (plain_session c.args.self.now).source in
    let t = c.args.table.now in
    let by = g.D.Desk.pass_number c.args.desk.now c.args.pass.now in
    let k = plain_key c.in-Some.key.now in
    record {
      pass = next_pass_trans c.loop-key.invariant.pass c.take_entries.ensures.pass;
      small = omega (arith, c.loop-key.invariant.small, ap length c.in-Some.ensures.steps, c.len.type_inv);
      so_far = record {
        takes = far.takes ++ x ∷ [];
        subs_are = taken_sub plain_subscription far.takes x e c.loop-key.key-iterator rest (plain_session c.args.self.now).subs c.in-Some.ensures.steps refl far.subs_are;
        calls = takes_more (g.D.Desk.step c.args.desk.now) c.args.max far.takes x c.args.pass.now c.loop-key.pass c.take_entries.new.pass far.calls c.in_ok-entries.ensures.takes_one;
        count_is = (let before = far.count_is in omega (arith, counts_more far.takes x, before, c.len.ensures));
        said =
            pieces_more g.O.AnswerSink.items (g.O.AnswerSink.contents c.args.out.now) (g.O.AnswerSink.contents c.loop-key.out) (g.O.AnswerSink.contents c.write_entries_of_others.new.out) (pump_answers t by source far.takes) (take_answers t by source x) far.said
            (c.in_ok-write_entries_of_others.ensures
            ∙ ap (λ b. g.O.AnswerSink.contents c.loop-key.out ++ answer_items g.O.AnswerSink.items (entry_answers (projection_of_key t k) k (entries_of_others b source k c.as_slice.result.now))) c.by-by.ensures
            ∙ ap (λ es. g.O.AnswerSink.contents c.loop-key.out ++ answer_items g.O.AnswerSink.items (entry_answers (projection_of_key t k) k (entries_of_others by source k es))) c.as_slice.ensures.value)
            ∙ ap (λ a. g.O.AnswerSink.contents c.args.out.now ++ answer_items g.O.AnswerSink.items a) (sym (output_more t by source far.takes x));
      };
    }
