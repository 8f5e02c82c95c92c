use Rattle.std.proofs.Common.{◌<◌, ◌^◌, length, sym, ap, ◌∙◌, subst, arith}
use Rattle.std.proofs.Math.ListN.{length-map}
use Rattle.sdb_chunks.specs.laws.ChunkLaws.{vec_models_of_items}
use Rattle.sdb_sorted_map.specs.MapEntry.{entry_key}
use Rattle.sdb_sorted_map.specs.KeyOrder.{IsAscending}
use Rattle.sdb_sorted_map.specs.SearchModel.{entry_key_bytes}
use Rattle.sdb_sorted_map.proofs.sorted_map.SortedMap.from_sorted.Goals as goal

pub invariant_of-result : goal.invariant_of-result
invariant_of-result g c =
    let e = vec_models_of_items entry_key c.in_ok-from_vec_chunked.field-0 ∙ ap entry_key_bytes c.in_ok-from_vec_chunked.ensures.items in
    record {
      small = subst (λ ts. length ts < 2 ^ 64) (sym e) (omega (arith, length-map c.args.entries.items entry_key, c.args.entries.ok.0, c.args.entries.small));
      keys_ascending = subst IsAscending (sym e) c.requires;
    }
