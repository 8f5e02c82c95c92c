use Rattle.sdb_server_tests.proofs.connections.serve_clients.Goals as goal

pub listen_on_loops-requires-after_bounds : goal.listen_on_loops-requires-after_bounds
listen_on_loops-requires-after_bounds g c κs within = c.in_ok-state.ensures c.in_ok-backend.host c.in_ok-backend.ensures.host
