use Rattle.std.proofs.Common.{◌∙◌}
use Rattle.sdb_oplog.specs.Keys.{plain_key}
use Rattle.sdb_desk.specs.ShardView.{slots_of}
use Rattle.sdb_desk.proofs.StateLemmas.{store_written}
use Rattle.sdb_desk.proofs.shard.Shard.append_first.Goals as goal

pub returns-clause-ok : goal.returns-clause-ok
returns-clause-ok c =
    store_written (slots_of c.args.self.now) (slots_of c.insert_slot.new.self) (plain_key c.args.key.now) c.new-slot.result c.append.new.self (c.new-slot.ensures ∙ c.requires.nothing)
    c.in_ok-insert_slot.ensures.ok c.args.submission c.args.now c.in_ok-append.ensures.ok
