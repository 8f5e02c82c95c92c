use Rattle.std.proofs.Common.{◌≡◌, ◌++◌, [], ◌∷◌, ℕ, List, None, Some, Option, option_map, option_to_list, slice_get, map, refl, sym, ap, ◌∙◌, inl, inr, arith}
use Rattle.std.proofs.lemmas.List.{append-nil}
use Rattle.std.proofs.lemmas.Option.{slice_get-map}
use Rattle.sdb_oplog.specs.Keys.{plain_key}
use Rattle.sdb_oplog.specs.declared.keys.Key.{Key}
use Rattle.sdb_session.specs.PumpModel.{PlainTake, entries_of_others, only_sub_at, take_answers}
use Rattle.sdb_session.specs.ProjectionModel.{projection_of_key}
use Rattle.sdb_session.specs.Output.{answer_items}
use Rattle.sdb_session.specs.Responses.{entry_answers}
use Rattle.sdb_session.specs.declared.subscriptions.Subscription.{Subscription}
use Rattle.sdb_session.specs.View.{plain_subscription, queue_id_of, plain_session}
use Rattle.sdb_session.proofs.PumpLemmas.{takes_more, takes_none, pump_stopped}
use Rattle.sdb_session.proofs.session.Session.take_from_one.Goals as goal

-- the subscriptions at a position
only_sub : (entries : List (Key × Subscription)) (n : ℕ) (found : Option (Key × Subscription)) → found ≡ slice_get entries n
    → option_to_list (option_map plain_subscription found) ≡ option_to_list (slice_get (map plain_subscription entries) n)
only_sub entries n found is = ap option_to_list (ap (option_map plain_subscription) is ∙ sym (slice_get-map plain_subscription entries n))

pub returns-in_default-clause-pumped : goal.returns-in_default-clause-pumped
returns-in_default-clause-pumped g c = record {
  takes = [];
  subs_are = only_sub c.args.self.now.subscriptions.entries c.args.position None c.in_default.ensures.entry;
  calls = takes_none (g.D.Desk.step c.args.desk.now) c.args.max c.args.pass.now;
  count_is = refl;
  said = sym (append-nil (g.O.AnswerSink.contents c.args.out.now));
}

pub returns-in_err-entries-clause-pumped : goal.returns-in_err-entries-clause-pumped
returns-in_err-entries-clause-pumped g c =
    pump_stopped _ _ _ _ _ _ c.from_residual.result _ _ c.from_residual.ensures.0 (record {
      takes = [];
      subs_left = (only_sub_at c.args.position (plain_session c.args.self.now)).subs;
      between = c.args.pass.now;
      subs_are = refl;
      calls = takes_none (g.D.Desk.step c.args.desk.now) c.args.max c.args.pass.now;
      last = inr (queue_id_of c.in-Some.queue.now, (None, c.in_err-entries.ensures.takes_one));
    })

pub returns-in_err-write_entries_of_others-clause-pumped : goal.returns-in_err-write_entries_of_others-clause-pumped
returns-in_err-write_entries_of_others-clause-pumped g c =
    let e : Key × Subscription = (c.in-Some.key.now, c.in-Some.queue.now) in
    let x : PlainTake = record { sub = plain_subscription e; entries = c.in_ok-entries.entries.items } in
    let acts = g.D.Desk.step c.args.desk.now in
    let p = c.args.pass.now in
    pump_stopped _ _ _ _ _ _ c.from_residual-in_err-write_entries_of_others.result _ _ c.from_residual-in_err-write_entries_of_others.ensures.0 (record {
      takes = x ∷ [];
      subs_left = [];
      between = c.take_entries.new.pass;
      subs_are = only_sub c.args.self.now.subscriptions.entries c.args.position (Some e) c.in-Some.ensures.entry;
      calls = takes_more acts c.args.max [] x p p c.take_entries.new.pass (takes_none acts c.args.max p) c.in_ok-entries.ensures.takes_one;
      last = inl refl;
    })

pub returns-clause-pumped : goal.returns-clause-pumped
returns-clause-pumped g c =
    let e : Key × Subscription = (c.in-Some.key.now, c.in-Some.queue.now) in
    let x : PlainTake = record { sub = plain_subscription e; entries = c.in_ok-entries.entries.items } in
    let acts = g.D.Desk.step c.args.desk.now in
    let p = c.args.pass.now in
    let source = (plain_session c.args.self.now).source in
    let t = c.args.table.now in
    let by = g.D.Desk.pass_number c.args.desk.now c.args.pass.now in
    let k = plain_key c.in-Some.key.now in
    let old = g.O.AnswerSink.contents c.args.out.now in
    record {
      takes = x ∷ [];
      subs_are = only_sub c.args.self.now.subscriptions.entries c.args.position (Some e) c.in-Some.ensures.entry;
      calls = takes_more acts c.args.max [] x p p c.take_entries.new.pass (takes_none acts c.args.max p) c.in_ok-entries.ensures.takes_one;
      count_is = omega (arith, c.len.ensures);
      said =
          c.in_ok-write_entries_of_others.ensures
          ∙ ap (λ b. old ++ answer_items g.O.AnswerSink.items (entry_answers (projection_of_key t k) k (entries_of_others b source k c.as_slice.result.now))) c.by-by.ensures
          ∙ ap (λ es. old ++ answer_items g.O.AnswerSink.items (entry_answers (projection_of_key t k) k (entries_of_others by source k es))) c.as_slice.ensures.value
          ∙ ap (λ a. old ++ answer_items g.O.AnswerSink.items a) (sym (append-nil (take_answers t by source x)));
    }
