-- Lines as plain data, and a sink that accepts them in order.
use Rattle.std.specs.Prelude.{◌≡◌, ℕ, List, [], ◌∷◌, map, Vec}
use Rattle.std.specs.Global.{Global}

-- the lines of a group
abbrev pub lines_of : List (Vec ℕ Global) → List (List ℕ)
lines_of = map (λ (line : Vec ℕ Global). line.items)

-- the sink accepts these lines in order
abbrev pub AcceptsAll : {A : Type 0} → (A → List ℕ → A → Type 0) → List (List ℕ) → A → A → Type 0
AcceptsAll accepts [] old new = new ≡ old
AcceptsAll {A} accepts (line ∷ lines) old new = (mid : A) × accepts old line mid × AcceptsAll accepts lines mid new
