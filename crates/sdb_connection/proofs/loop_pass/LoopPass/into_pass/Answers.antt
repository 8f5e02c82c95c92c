use Rattle.sdb_connection.proofs.loop_pass.LoopPass.into_pass.Goals as goal

pub returns-clause-pass : goal.returns-clause-pass
returns-clause-pass g c = c.args.context.now.names_backend.0 c.args.self.pass c.args.self.belongs
