use Rattle.sdb_linefile.proofs.opening.settle.Goals as goal

pub returns : goal.returns
returns g c = λ is_open db may. g.met.S.Store.settled c.args.conn.now.store db is_open may
