use Rattle.std.proofs.Common.{sym, ◌∙◌}
use Rattle.std.proofs.lemmas.Map.Text.{is_eq-slice_cmp}
use Rattle.sdb_transform.proofs.classify_path.keys_equal.Goals as goal

pub returns : goal.returns
returns c = c.eq.ensures ∙ sym (is_eq-slice_cmp c.args.key.now c.args.other.now)
