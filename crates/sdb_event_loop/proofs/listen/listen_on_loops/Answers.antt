use Rattle.sdb_event_loop.proofs.listen.listen_on_loops.Goals as goal

pub listen_as-requires-clause-brand : goal.listen_as-requires-clause-brand
listen_as-requires-clause-brand g c κs within = (λ p h. h, λ p h. h)
