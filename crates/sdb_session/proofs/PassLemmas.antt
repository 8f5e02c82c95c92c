-- Passes of a desk after several calls.
use Rattle.std.proofs.Common.{ℕ, ◌∙◌}
use Rattle.sdb_submit.specs.PassModel.{IsNextPass}

module _ {D P : Type 0} {accepts : D → P → Type 0} {number : D → P → ℕ} {desk : D} {p m q : P} where
  pub next_pass_trans : IsNextPass accepts number desk p m → IsNextPass accepts number desk m q → IsNextPass accepts number desk p q
  next_pass_trans first second = record { accepted = second.accepted; number_unchanged = second.number_unchanged ∙ first.number_unchanged }
