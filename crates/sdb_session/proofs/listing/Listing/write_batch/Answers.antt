use Rattle.std.proofs.Common.{◌∷◌, [], ◌++◌, arith, ap, sym, ◌∙◌}
use Rattle.std.proofs.lemmas.List.{append-nil}
use Rattle.sdb_session.specs.ListingView.{plain_listing}
use Rattle.sdb_session.specs.Output.{answer_items}
use Rattle.sdb_session.specs.Responses.{entry_answers}
use Rattle.sdb_session.specs.View.{plain_projection_option}
use Rattle.sdb_session.specs.laws.ListingLaws.{reads_from_none}
use Rattle.sdb_session.proofs.listing.Listing.write_batch.Goals as goal

pub returns-then-size-eq0-clause-batch : goal.returns-then-size-eq0-clause-batch
returns-then-size-eq0-clause-batch g c =
    let l = plain_listing c.args.self.now in
    let left = c.entries_left.ensures in
    let least = c.min-size.ensures in
    record {
      batches = [];
      reads = reads_from_none (g.D.Desk.step c.args.desk.now) l.queue l.base l.next c.args.pass.now;
      size_is = omega (arith, left, least, c.if-size-eq0.true);
      advances = ap (λ n. record l { next = n }) (omega arith);
      said = sym (append-nil (g.O.AnswerSink.contents c.args.out.now));
    }

pub returns-clause-batch : goal.returns-clause-batch
returns-clause-batch g c =
    let l = plain_listing c.args.self.now in
    let left = c.entries_left.ensures in
    let least = c.min-size.ensures in
    let o = plain_projection_option c.args.projection in
    record {
      batches = record { size = c.min-size.result; entries = c.in-Ok.entries.items } ∷ [];
      reads = c.in-Ok.ensures.read;
      size_is = omega (arith, left, least);
      advances = ap (λ n. record l { next = n }) (c.version_after-self.ensures ∙ omega arith);
      said =
          c.in_ok-write_entries.ensures ∙ ap (λ es. g.O.AnswerSink.contents c.args.out.now ++ answer_items g.O.AnswerSink.items (entry_answers o l.key es)) (c.as_slice.ensures.value ∙ sym (append-nil c.in-Ok.entries.items));
    }
