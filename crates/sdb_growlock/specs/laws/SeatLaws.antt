-- A seat has always observed one value.
use Rattle.std.proofs.Common.{◌≡◌, ℕ, List, [], ◌∷◌, map, length, sym, ap, ◌∙◌, arith}
use Rattle.sdb_growlock.specs.declared.view.Observation.{Observation}
use Rattle.sdb_growlock.specs.declared.grow_lock.Seat.{Seat}
use Rattle.sdb_growlock.specs.LockRule.{observation, number_of}
use Rattle.sdb_growlock.specs.SeatModel.{HasSeen}

module _ {T : Type 0} where
  abbrev first_value_or : T → List (Observation T) → T
  first_value_or d [] = d
  first_value_or d (p ∷ l) = p.value

  -- a seat has observed at most one value
  pub observation_unique : (s : Seat T) (x y : T) → HasSeen s x → HasSeen s y → x ≡ y
  observation_unique s x y h k = ap (first_value_or x) (sym h ∙ k)

  -- a list of one number has one observation
  pub single_observation : (l : List (Observation T)) (n : ℕ) → map number_of l ≡ n ∷ [] → (x : T) × (l ≡ observation n x ∷ [])
  single_observation [] n e = absurd (cc)
  single_observation (p ∷ []) n e = let h : p.number ≡ n = cc in (p.value, λ i. observation (h i) p.value ∷ [])
  single_observation (p ∷ q ∷ l) n e = absurd (omega (arith, ap length e))

  -- a seat has observed a value
  pub observation_exists : (s : Seat T) → (x : T) × HasSeen s x
  observation_exists s = single_observation s.inner.me.0.seen s.number s.is_idle.1
