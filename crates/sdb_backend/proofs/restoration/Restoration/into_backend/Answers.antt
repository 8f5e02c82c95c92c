use Rattle.std.proofs.Common.{refl, sym, subst, arith}
use Rattle.std.proofs.lemmas.Option.{slice_get_within, get_or_from_slice_get}
use Rattle.sdb_oplog.specs.Keys.{shard_of}
use Rattle.sdb_striped_lock.specs.SeatSetModel.{RootSeatsHaveSeen}
use Rattle.sdb_backend.proofs.ReplacedItem.{for_each_item, item_below}
use Rattle.sdb_backend.specs.laws.RestorationLaws.{shard_below}
use Rattle.sdb_backend.proofs.RestoredLogs.{log_of_item}
use Rattle.sdb_backend.proofs.restoration.Restoration.into_backend.Goals as goal

pub restored-requires-clause-blank : goal.restored-requires-clause-blank
restored-requires-clause-blank g c = for_each_item _ c.args.self.shards.items (λ i h is n from. c.requires.no_share n from i h is)

pub returns : goal.returns
returns g c =
    let shards = c.args.self.shards.items in
    let locks = c.in_ok-locks.ensures in
    record {
      host = (
        locks.belongs.0,
        λ i lt.
            let x = item_below shards i 8 c.args.self.has_every_shard lt in
            (x.0, subst (RootSeatsHaveSeen c.in_ok-locks.seats i) x.2 (locks.seen i x.0 lt), c.requires.no_root_share i x.0 x.1),
      );
      has_next = locks.belongs.1;
      seen = λ i h is.
          let lt = slice_get_within shards i h is in
          let eight = c.args.self.has_every_shard in
          subst (RootSeatsHaveSeen c.in_ok-locks.seats i) (get_or_from_slice_get shards i h h is) (locks.seen i h (omega (arith, lt, eight)));
      logs = λ k.
          let x = item_below shards (shard_of k) 8 c.args.self.has_every_shard (shard_below k) in
          (x.0, subst (RootSeatsHaveSeen c.in_ok-locks.seats (shard_of k)) x.2 (locks.seen (shard_of k) x.0 (shard_below k)), sym (log_of_item shards (shard_of k) x.0 x.1 k refl));
    }
