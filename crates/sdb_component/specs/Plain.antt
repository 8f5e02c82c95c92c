-- Components as plain data: the nine shapes of json0 (its README, "Summary of operations").
use Rattle.std.specs.Prelude.{ℕ, ℤ, List}
use Rattle.sdb_value.specs.Value.{Value, PlainStep}

-- the nine shapes, each with the last step of its path. An offset or index is a number, a key a text;
-- of lr and or the first value is removed, the second put. The text of si and sd isn't empty.
pub data PlainAct : Type 0 where
  na : ℤ → PlainAct
  si : ℕ → List ℕ → PlainAct
  sd : ℕ → List ℕ → PlainAct
  li : ℕ → Value → PlainAct
  ld : ℕ → Value → PlainAct
  lr : ℕ → Value → Value → PlainAct
  oi : List ℕ → Value → PlainAct
  od : List ℕ → Value → PlainAct
  or : List ℕ → Value → Value → PlainAct

-- the container's path and the act
pub record PlainComponent : Type 0 where
  pub path : List PlainStep
  pub act : PlainAct
