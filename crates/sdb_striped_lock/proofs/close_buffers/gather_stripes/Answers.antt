use Rattle.std.proofs.Common.{◌≡◌, ℕ, ◌+◌, ◌<◌, ◌++◌, ◌∷◌, [], List, length, length-append, slice_index_or, Vec, vec_len, sym, ap, ◌∙◌, arith}
use Rattle.std.specs.Global.{Global}
use Rattle.std.proofs.lemmas.List.{nil_from_length, map-append}
use Rattle.sdb_growlock.specs.declared.grow_lock.Seat.{Seat}
use Rattle.sdb_striped_lock.specs.declared.striped_lock.SeatSet.{SeatSet}
use Rattle.sdb_striped_lock.specs.laws.SeatLaws.{element_at}
use Rattle.sdb_striped_lock.proofs.close_buffers.gather_stripes.Goals as goal

pub loop-caller-init : goal.loop-caller-init
loop-caller-init g c =
    let old = c.args.columns.now.items in
    let new = c.gather_stripe.new.columns.items in
    let seats = c.args.first.seats.items in
    let s = element_at seats 8 c.args.first.has_every_stripe (omega arith) in
    let one : (i : ℕ) (d : Vec (Seat g.row.T.Denot) Global) (s : Seat g.row.T.Denot) → i < 8 → (slice_index_or new i d).items ≡ slice_index_or seats i s ∷ [] = λ i d s lt.
    c.gather_stripe.ensures.columns i d s lt ∙ ap (λ (l : List (Seat g.row.T.Denot)). l ++ slice_index_or c.into_seats.result.items i s ∷ []) (nil_from_length (slice_index_or old i d).items (sym (slice_index_or old i d).ok.0 ∙ (c.requires.capacity.1 i d lt).0))
    ∙ ap (λ (v : Vec (Seat g.row.T.Denot) Global). slice_index_or v.items i s ∷ []) c.into_seats.ensures in
    record {
      eight = c.gather_stripe.ensures.length;
      room = λ i d lt.
          let long : vec_len (slice_index_or new i d) ≡ 1 = (slice_index_or new i d).ok.0 ∙ ap length (one i d s lt) in
          let some = (c.requires.capacity.1 i d lt).1 in
          let same = c.gather_stripe.ensures.capacity i d lt in
          (long, omega (arith, some, same));
      each = one;
    }

pub loop-caller-preserved : goal.loop-caller-preserved
loop-caller-preserved g c =
    let inv = c.loop-caller.invariant in
    let old = c.loop-caller.columns.items in
    let new = c.gather_stripe-in-loop-caller.new.columns.items in
    let seats = c.in-Some.caller.seats.items in
    let done = c.loop-caller.yielded in
    let s = element_at seats 8 c.in-Some.caller.has_every_stripe (omega arith) in
    let more : (i : ℕ) (d : Vec (Seat g.row.T.Denot) Global) (s : Seat g.row.T.Denot) → i < 8 → (slice_index_or new i d).items ≡ (slice_index_or old i d).items ++ slice_index_or seats i s ∷ [] = λ i d s lt.
    c.gather_stripe-in-loop-caller.ensures.columns i d s lt ∙ ap (λ (v : Vec (Seat g.row.T.Denot) Global). (slice_index_or old i d).items ++ slice_index_or v.items i s ∷ []) c.into_seats-in-loop-caller.ensures in
    record {
      eight = c.gather_stripe-in-loop-caller.ensures.length;
      room = λ i d lt.
          let long : vec_len (slice_index_or new i d) ≡ vec_len (slice_index_or old i d) + 1 =
          (slice_index_or new i d).ok.0 ∙ ap length (more i d s lt) ∙ length-append (slice_index_or old i d).items (slice_index_or seats i s ∷ []) ∙ ap (λ (n : ℕ). n + 1) (sym (slice_index_or old i d).ok.0) in
          let h = (inv.room i d lt).0 in
          let some = (inv.room i d lt).1 in
          let same = c.gather_stripe-in-loop-caller.ensures.capacity i d lt in
          let yielded : length (done ++ c.in-Some.caller ∷ []) ≡ length done + 1 = length-append done (c.in-Some.caller ∷ []) in
          (omega (arith, long, h, yielded), omega (arith, some, same));
      each = λ i d s lt.
          let f : SeatSet g.row.T.Denot → Seat g.row.T.Denot = λ c. slice_index_or c.seats.items i s in
          more i d s lt ∙ ap (λ (l : List (Seat g.row.T.Denot)). l ++ slice_index_or seats i s ∷ []) (inv.each i d s lt)
          ∙ ap (λ (l : List (Seat g.row.T.Denot)). slice_index_or c.args.first.seats.items i s ∷ l) (sym (map-append f done (c.in-Some.caller ∷ [])));
    }
