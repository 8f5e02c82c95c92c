-- Codes of the plain components, which decide their equality.
use Rattle.std.specs.Prelude.{◌≡◌, ℕ, ℤ, List, ◌⊎◌, refl}
use Rattle.std.specs.Coded.{Coded, code_by, coded×, coded⊎, coded_ℕ, coded_ℤ, coded_list}
use Rattle.std.proofs.Common.{inl, inr}
use Rattle.sdb_value.specs.Value.{Value, PlainStep}
use Rattle.sdb_value.specs.Coding.{value_code, text_code, path_code}
use Rattle.sdb_component.specs.Plain.{PlainAct, na, si, sd, li, ld, lr, oi, od, or, PlainComponent}

-- a number; a text at an offset; a value at an index; two values at an index; a value at a key; two values at a key
abbrev AtOffset : Type 0
AtOffset = ℕ × List ℕ

abbrev AtIndex : Type 0
AtIndex = ℕ × Value

abbrev AtKey : Type 0
AtKey = List ℕ × Value

abbrev Sum : Type 0
Sum = ℤ ⊎ (AtOffset ⊎ (AtOffset ⊎ (AtIndex ⊎ (AtIndex ⊎ ((AtIndex × Value) ⊎ (AtKey ⊎ (AtKey ⊎ (AtKey × Value))))))))

abbrev to_sum : PlainAct → Sum
to_sum (na x) = inl x
to_sum (si p s) = inr (inl (p, s))
to_sum (sd p d) = inr (inr (inl (p, d)))
to_sum (li i v) = inr (inr (inr (inl (i, v))))
to_sum (ld i x) = inr (inr (inr (inr (inl (i, x)))))
to_sum (lr i x y) = inr (inr (inr (inr (inr (inl ((i, x), y))))))
to_sum (oi k v) = inr (inr (inr (inr (inr (inr (inl (k, v)))))))
to_sum (od k x) = inr (inr (inr (inr (inr (inr (inr (inl (k, x))))))))
to_sum (or k x y) = inr (inr (inr (inr (inr (inr (inr (inr ((k, x), y))))))))

abbrev from_sum : Sum → PlainAct
from_sum (inl x) = na x
from_sum (inr (inl a)) = si a.0 a.1
from_sum (inr (inr (inl a))) = sd a.0 a.1
from_sum (inr (inr (inr (inl a)))) = li a.0 a.1
from_sum (inr (inr (inr (inr (inl a))))) = ld a.0 a.1
from_sum (inr (inr (inr (inr (inr (inl a)))))) = lr a.0.0 a.0.1 a.1
from_sum (inr (inr (inr (inr (inr (inr (inl a))))))) = oi a.0 a.1
from_sum (inr (inr (inr (inr (inr (inr (inr (inl a)))))))) = od a.0 a.1
from_sum (inr (inr (inr (inr (inr (inr (inr (inr a)))))))) = or a.0.0 a.0.1 a.1

pub back : (a : PlainAct) → from_sum (to_sum a) ≡ a
back (na x) = refl
back (si p s) = refl
back (sd p d) = refl
back (li i v) = refl
back (ld i x) = refl
back (lr i x y) = refl
back (oi k v) = refl
back (od k x) = refl
back (or k x y) = refl

abbrev offset_code : Coded AtOffset
offset_code = coded× coded_ℕ text_code

abbrev index_code : Coded AtIndex
index_code = coded× coded_ℕ value_code

abbrev key_code : Coded AtKey
key_code = coded× text_code value_code

abbrev sum_code : Coded Sum
sum_code =
    coded⊎ coded_ℤ
    (coded⊎ offset_code
    (coded⊎ offset_code
    (coded⊎ index_code
    (coded⊎ index_code
    (coded⊎ (coded× index_code value_code)
    (coded⊎ key_code (coded⊎ key_code (coded× key_code value_code))))))))

abbrev pub act_code : Coded PlainAct
act_code = code_by Sum sum_code to_sum from_sum back

abbrev pub component_code : Coded PlainComponent
component_code =
    code_by (List PlainStep × PlainAct) (coded× path_code act_code) (λ c. (c.path, c.act))
    (λ p. record { path = p.0; act = p.1 }) (λ _. refl)

abbrev pub op_code : Coded (List PlainComponent)
op_code = coded_list component_code
