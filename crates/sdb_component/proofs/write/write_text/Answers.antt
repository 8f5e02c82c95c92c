use Rattle.std.proofs.Common.{◌∷◌, [], codes}
use Rattle.json.specs.Token.{key}
use Rattle.sdb_value.specs.laws.PrefixLaws.{token_refused_prefix}
use Rattle.sdb_component.proofs.write.write_text.Goals as goal

pub returns-in_ok-key-in-Si-clause-err : goal.returns-in_ok-key-in-Si-clause-err
returns-in_ok-key-in-Si-clause-err c = rw c.in-Si.is (token_refused_prefix _ _ _ _ (key (codes "si") ∷ []) _ c.in_ok-key-in-Si.ensures.ok c.string.ensures.err)

pub returns-in_ok-key-in-Sd-clause-err : goal.returns-in_ok-key-in-Sd-clause-err
returns-in_ok-key-in-Sd-clause-err c = rw c.in-Sd.is (token_refused_prefix _ _ _ _ (key (codes "sd") ∷ []) _ c.in_ok-key-in-Sd.ensures.ok c.string-in-Sd.ensures.err)
