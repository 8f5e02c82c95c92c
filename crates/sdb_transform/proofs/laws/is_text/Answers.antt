use Rattle.sdb_transform.proofs.laws.is_text.Goals as goal

pub returns : goal.returns
returns c = c.utf8._text
