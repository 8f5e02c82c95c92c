use Rattle.std.proofs.Common.{◌≡◌, true, false, Some, ap, sym, ◌∙◌}
use Rattle.std.specs.Option.{option_map_or}
use Rattle.sdb_component.specs.FromJson.{items_allocate}
use Rattle.sdb_component.proofs.SizeLemmas.{many_allocate}
use Rattle.sdb_component.proofs.from_json.read_op.Goals as goal

pub returns-in_err-components_of-clause-memory : goal.returns-in_err-components_of-clause-memory
returns-in_err-components_of-clause-memory g c = λ _.
    ap (λ o. option_map_or items_allocate o false) (sym c.in-Some.ensures)
    ∙ many_allocate g.D.JsonData.json c.in-Some.items.now c.if-items-gt256.false c.if-items-eq1.false
