-- The contents of a log as plain data.
use Rattle.std.specs.Prelude.{ℕ, List, Option}
use Rattle.sdb_value.specs.Value.{Value}
use Rattle.sdb_component.specs.Plain.{PlainComponent}

pub data PlainContent : Type 0 where
  create : Value → PlainContent
  delete : PlainContent
  edit : List PlainComponent → PlainContent

pub record PlainSubmission : Type 0 where
  pub src : List ℕ
  pub seq : ℕ
  pub version : Option ℕ
  pub content : PlainContent
  pub via : List ℕ
  pub by : ℕ

-- an entry; its source, seq, via and by are those of its submission
pub record PlainEntry : Type 0 where
  pub version : ℕ
  -- the moment at which it was stored, in milliseconds
  pub moment : ℕ
  pub content : PlainContent
  pub arrived : PlainSubmission
