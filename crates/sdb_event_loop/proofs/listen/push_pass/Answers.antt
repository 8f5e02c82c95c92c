use Rattle.std.specs.Result.{is_ok}
use Rattle.sdb_backend.specs.PassModel.{IsPassOfBackend}
use Rattle.sdb_event_loop.proofs.ListLemmas.{each_of_push}
use Rattle.sdb_event_loop.proofs.listen.push_pass.Goals as goal

pub returns : goal.returns
returns g c =
    each_of_push (λ p. IsPassOfBackend p c.args.context.now.state.value.backend) (is_ok c.push.result) _ _ _ c.push.ensures.items c.requires c.into_pass.ensures.pass
