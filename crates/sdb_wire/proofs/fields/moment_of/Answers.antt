use Rattle.std.proofs.Common.{◌≡◌, ℕ, Bool, true, false, cond, nat_lt, Option, Some, None, option_and_then, refl, sym, ap, ◌∙◌}

abbrev within : ℕ → Option ℕ
within n = cond (nat_lt 9007199254740991 n) None (Some n)

by_case : (b : Bool) (m n : ℕ) → nat_lt 9007199254740991 m ≡ b → cond b None (Some m) ≡ Some n → within n ≡ Some n
by_case true m n e h = cc
by_case false m n e h =
    let s : m ≡ n = cc in
    ap within (sym s) ∙ ap (λ b. cond b None (Some m)) e ∙ ap Some s

-- a number that passed the bound passes it again
again : (o : Option ℕ) (n : ℕ) → option_and_then within o ≡ Some n → within n ≡ Some n
again None n h = cc
again (Some m) n h = by_case (nat_lt 9007199254740991 m) m n refl h
