use Rattle.std.proofs.Common.{◌<◌, length, sym, subst}
use Rattle.sdb_sorted_map.specs.KeyOrder.{IsAscending}
use Rattle.sdb_model_tests.specs.declared.chunks.Number.{Number}
use Rattle.sdb_model_tests.proofs.Keys.{form_texts}
use Rattle.sdb_model_tests.proofs.sorted_map.freeze_map.Goals as goal

pub from_entries-requires-clause-bound : goal.from_entries-requires-clause-bound
from_entries-requires-clause-bound g c =
    subst (λ ts. length ts < 18446744073709551616)
    (sym (form_texts (λ (n : Number). n.0) c.into_chunks.result c.from_repr.result _ _ c.into_repr-repr.ensures c.freeze.ensures.unchanged c.from_repr.ensures))
    c.into_chunks.ensures.bound

pub from_entries-requires-clause-ascending : goal.from_entries-requires-clause-ascending
from_entries-requires-clause-ascending g c =
    subst IsAscending
    (sym (form_texts (λ (n : Number). n.0) c.into_chunks.result c.from_repr.result _ _ c.into_repr-repr.ensures c.freeze.ensures.unchanged c.from_repr.ensures))
    c.into_chunks.ensures.ascending
