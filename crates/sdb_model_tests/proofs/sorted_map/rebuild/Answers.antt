use Rattle.std.proofs.Common.{◌≡◌, map, sym, subst}
use Rattle.std.specs.Prelude.{IfOk}
use Rattle.sdb_chunks.specs.ChunkedVec.{vec_models}
use Rattle.sdb_sorted_map.specs.MapEntry.{entry_model}
use Rattle.sdb_sorted_map.specs.KeyOrder.{IsAscending}
use Rattle.sdb_model_tests.specs.declared.chunks.Number.{Number}
use Rattle.sdb_model_tests.proofs.Keys.{vector_texts}
use Rattle.sdb_model_tests.proofs.sorted_map.rebuild.Goals as goal

pub from_sorted-requires : goal.from_sorted-requires
from_sorted-requires g c =
    let seen = entry_model (λ (n : Number). n.0) in
    let same = subst (λ r. IfOk r (λ v. map seen v.items ≡ vec_models seen c.into_chunks.result)) c.expect.ensures c.into_vec-entries.ensures.items in
    subst IsAscending (sym (vector_texts (λ (n : Number). n.0) c.into_chunks.result c.expect.result.items same)) c.into_chunks.ensures.ascending
