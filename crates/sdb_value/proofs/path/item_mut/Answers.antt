use Rattle.sdb_value.proofs.ListLemmas.{found_view, shared_view, found_unique, unique_in_chunks, unique_place}
use Rattle.sdb_value.proofs.path.item_mut.Goals as goal

pub returns : goal.returns
returns c =
    let l = c.args.items.now in
    let i = c.args.number in
    record {
      value = λ own. found_view c.get_mut.result (λ x. x.now) l i (c.get_mut.ensures.value (unique_place l i own) (unique_in_chunks l own));
      unique = λ own. found_unique c.get_mut.result (λ x. x.now) l i (c.get_mut.ensures.value (unique_place l i own) (unique_in_chunks l own)) own;
      found = shared_view c.get_mut.result (λ x. x.now) l i c.get_mut.ensures.item;
    }
