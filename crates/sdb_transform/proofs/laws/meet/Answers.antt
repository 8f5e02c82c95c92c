use Rattle.sdb_value.specs.View.{value_of}
use Rattle.sdb_transform.proofs.ConvergenceLemmas.{all_meet}
use Rattle.sdb_transform.proofs.laws.meet.Goals as goal

pub returns : goal.returns
returns c =
    all_meet (value_of c.args.document.now) c.args.a.now c.args.b.now
    (record {
      formed = c.well_formed-2.ensures;
      a_texts = c.has_texts.ensures;
      b_texts = c.has_texts-2.ensures;
      a_made = c.requires.a_well_made;
      b_made = c.requires.b_well_made;
      a_fits = c.requires.a_in_range;
      b_fits = c.requires.b_in_range;
    })
