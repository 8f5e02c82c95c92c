use Rattle.std.proofs.Common.{◌≡◌, ℕ, ◌<◌, List, length, slice_index_or, slice_get, refl, sym, ap, ◌∙◌, subst}
use Rattle.sdb_growlock.specs.LockRule.{ForEach}
use Rattle.sdb_striped_lock.specs.CloseModel.{IsCloseResult}
use Rattle.sdb_striped_lock.specs.Capacity.{HasCapacity}
use Rattle.sdb_striped_lock.specs.SeatSetModel.{SeatSetBelongsTo, AreRootSeatsOf, HasNumber}
use Rattle.sdb_striped_lock.specs.declared.striped_lock.SeatSet.{SeatSet}
use Rattle.sdb_striped_lock.specs.declared.striped_lock.RootSeats.{RootSeats}
use Rattle.sdb_backend.specs.PassModel.{next_pass_number, HasSeatsOf}
use Rattle.sdb_backend.specs.declared.shard_value.Held.{Held}
use Rattle.sdb_backend.specs.declared.backend.CloseError.TheVariants.{OutOfMemory, MissingPass}
use Rattle.sdb_backend.proofs.CloseLemmas.{AreAllClosed, KeepsAtEach, ExtendsHeld, SameHeld, BlankHeld, each_permuted, for_each_of_all, all_of, numbers_there, length_seats, seen_by, nothing_else, seats_of, all_permuted, none_permuted}
use Rattle.sdb_backend.proofs.backend.Backend.close.Goals as goal

pub close-shards-requires-clause-first : goal.close-shards-requires-clause-first
close-shards-requires-clause-first g c = subst (λ (f : RootSeats Held). AreRootSeatsOf f c.args.self.locks) (sym c.into_seats.ensures) c.requires.host.0

pub close-shards-requires-clause-callers : goal.close-shards-requires-clause-callers
close-shards-requires-clause-callers g c =
    let l = c.args.self.locks in
    let ps = c.args.passes.items in
    let qs = c.has_every_pass.new.passes.items in
    subst (λ (cs : List (SeatSet Held)). ForEach (λ s. SeatSetBelongsTo s l) cs) (sym c.seat_sets_of.ensures)
    (all_of l qs (each_permuted (λ p. HasSeatsOf p l) ps qs c.has_every_pass.ensures.equal c.requires.passes))

pub close-shards-requires-clause-all : goal.close-shards-requires-clause-all
close-shards-requires-clause-all g c =
    λ k some lt.
    subst (λ (cs : List (SeatSet Held)). HasNumber k cs) (sym c.seat_sets_of.ensures)
    (numbers_there (next_pass_number c.args.host) c.args.passes.items c.has_every_pass.new.passes.items c.has_every_pass.ensures.equal (c.if-not-has_every_pass.ensures.all refl) k some
    (subst (λ (f : RootSeats Held). k < f.next) c.into_seats.ensures lt))

pub close-shards-requires-clause-bound : goal.close-shards-requires-clause-bound
close-shards-requires-clause-bound g c =
    let qs = c.has_every_pass.new.passes in
    subst (λ (n : ℕ). HasCapacity n c.in-Ok.places) (c.len.ensures ∙ qs.ok.0 ∙ sym (ap length c.seat_sets_of.ensures ∙ length_seats qs.items)) c.in-Ok.ensures.places

pub returns-in-Ok-clause-ok : goal.returns-in-Ok-clause-ok
returns-in-Ok-clause-ok g c =
    let l = c.args.self.locks in
    let host = c.args.host in
    let ps = c.args.passes.items in
    let qs = c.has_every_pass.new.passes.items in
    let perm = c.has_every_pass.ensures.equal in
    let all = c.if-not-has_every_pass.ensures.all refl in
    let shards = c.close-shards.result.items in
    let there : c.new.result.shards.items ≡ shards = ap (λ v. v.items) c.new.ensures in
    let closed : AreAllClosed host qs shards = (
      c.close-shards.ensures.length,
      λ i d lt.
          subst (λ (f : RootSeats Held). IsCloseResult ExtendsHeld SameHeld BlankHeld f (seats_of qs) i (slice_index_or shards i d)) c.into_seats.ensures
          (subst (λ (cs : List (SeatSet Held)). IsCloseResult ExtendsHeld SameHeld BlankHeld c.into_seats.result cs i (slice_index_or shards i d)) c.seat_sets_of.ensures
          (c.close-shards.ensures.each i d lt)),
    ) in (
      all,
      record {
        extends_seen = subst (λ (vs : List Held). ForEach (KeepsAtEach vs) ps) (sym there) (for_each_of_all (KeepsAtEach shards) ps qs perm (seen_by host qs shards closed));
        others = λ n i v is none.
            nothing_else host l qs shards c.requires.host (all_permuted (next_pass_number host) ps qs perm all) closed n i v
            (ap (λ (vs : List Held). slice_get vs i) (sym there) ∙ is) (none_permuted n ps qs perm none);
      },
    )

pub returns-then-not-has_every_pass-clause-err : goal.returns-then-not-has_every_pass-clause-err
returns-then-not-has_every_pass-clause-err g c =
    let perm = c.has_every_pass.ensures.equal in
    record {
      backend_unchanged = refl;
      host_unchanged = refl;
      passes_permuted = perm;
      passes_belong = each_permuted (λ p. HasSeatsOf p c.args.self.locks) c.args.passes.items c.has_every_pass.new.passes.items perm c.requires.passes;
      missing = λ _ all. c.if-not-has_every_pass.ensures.missing refl all;
      memory = λ e. let no : MissingPass ≡ OutOfMemory = e in cc;
    }

pub returns-in-Err-clause-err : goal.returns-in-Err-clause-err
returns-in-Err-clause-err g c =
    let perm = c.has_every_pass.ensures.equal in
    record {
      backend_unchanged = refl;
      host_unchanged = refl;
      passes_permuted = perm;
      passes_belong = each_permuted (λ p. HasSeatsOf p c.args.self.locks) c.args.passes.items c.has_every_pass.new.passes.items perm c.requires.passes;
      missing = λ e all. let no : OutOfMemory ≡ MissingPass = e in cc;
      memory = λ _. c.if-not-has_every_pass.ensures.all refl;
    }
