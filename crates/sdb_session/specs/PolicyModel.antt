-- What a server permits: its projections, and which submissions its policy allows.
use Rattle.std.specs.Prelude.{ℕ, List, Bool, true, ◌&&◌}
use Rattle.sdb_oplog.specs.Plain.{PlainContent}
use Rattle.sdb_oplog.specs.Keys.{PlainKey}
use Rattle.sdb_projection.specs.Table.{PlainProjection}
use Rattle.sdb_session.specs.ProjectionModel.{projection_of_key, is_permitted}

-- whether a source may submit a content at a client's key
abbrev pub SubmissionRule : Type 0
SubmissionRule = List ℕ → PlainKey → PlainContent → Bool

pub record PlainPolicy : Type 0 where
  pub projections : List PlainProjection
  pub allows : SubmissionRule

-- the policy of a table of projections, which allows every submission
abbrev pub table_policy : List PlainProjection → PlainPolicy
table_policy t = record { projections = t; allows = λ source k m. true }

-- the policy allows the submission, and the key's projection permits its content
abbrev pub may_submit : PlainPolicy → List ℕ → PlainKey → PlainContent → Bool
may_submit pol source k m = pol.allows source k m && is_permitted (projection_of_key pol.projections k) m
