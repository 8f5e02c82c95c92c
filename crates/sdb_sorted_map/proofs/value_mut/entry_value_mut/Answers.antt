use Rattle.std.proofs.Common.{refl, subst, IfSome, ◌≡◌, Some, option_map, slice_get, ap, sym, ◌∙◌, MutBor}
use Rattle.std.specs.Option.{ghost_name_of}
use Rattle.sdb_chunks.specs.ChunkedVec.{vec_models}
use Rattle.sdb_sorted_map.specs.MapEntry.{entry_model}
use Rattle.sdb_sorted_map.specs.declared.map_entry.MapEntry.{MapEntry}
use Rattle.sdb_sorted_map.proofs.EditLemmas.{at_borrowed, texts_borrowed, texts_same}
use Rattle.sdb_sorted_map.proofs.value_mut.entry_value_mut.Goals as goal

pub returns-in_err-member : goal.returns-in_err-member
returns-in_err-member g c =
    let f = g.V.TryClone.model in
    let l = c.args.entries.now in
    let none = c.from_residual.ensures in (
      (
        sym (ap ghost_name_of none),
        λ w. refl,
        texts_same f l c.get_mut.follows.lender-at-none c.get_mut.follows.holds-at-none,
      ),
      record {
        writes_back = tt;
        value = λ own flat. ap (option_map (λ (v : MutBor g.row.V.Denot). f v.now)) none
            ∙ ap (option_map (λ e. e.1)) (ap (option_map (λ (x : MutBor (MapEntry g.row.V.Denot)). entry_model f x.now)) (sym c.in_err-member.was) ∙ c.get_mut.ensures.value own flat);
        found = subst (λ o. IfSome o (λ (v : MutBor g.row.V.Denot). option_map (λ e. e.1) (slice_get (vec_models (entry_model f) l) c.args.index) ≡ Some (f v.now))) (sym none) tt;
      },
    )

pub returns : goal.returns
returns g c =
    let f = g.V.TryClone.model in
    let l = c.args.entries.now in
    let at = at_borrowed f l c.args.index c.get_mut.result c.in_ok-member.member c.in_ok-member.was c.get_mut.ensures.item in (
      (
        refl,
        λ w. texts_borrowed f l (c.get_mut.follows.lender (record { key = c.in_ok-member.member.now.key; value = w })) c.args.index c.get_mut.result c.in_ok-member.member w c.in_ok-member.was at
            (c.get_mut.follows.holds (record { key = c.in_ok-member.member.now.key; value = w })),
        refl,
      ),
      record { writes_back = tt; value = λ own flat. sym (ap (option_map (λ e. e.1)) at); found = ap (option_map (λ e. e.1)) at },
    )
