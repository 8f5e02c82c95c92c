-- Components in sequence.
use Rattle.std.proofs.Common.{◌≡◌, ℕ, ◌+◌, ◌<◌, [], ◌∷◌, ◌++◌, length, take, get_or, List, Option, Some, None, refl, sym, ap, ◌∙◌}
use Rattle.std.proofs.lemmas.List.{take_more}
use Rattle.std.specs.Option.{option_and_then}
use Rattle.sdb_value.specs.Value.{Value}
use Rattle.sdb_component.specs.Plain.{PlainComponent}
use Rattle.sdb_apply.specs.Apply.{apply_one, apply}

then_step : (o : Option Value) (cs : List PlainComponent) (c : PlainComponent) (e : Value) → option_and_then (apply cs) o ≡ Some e
    → ((d : Value) → apply cs d ≡ Some e → apply (cs ++ c ∷ []) d ≡ apply_one c e) → option_and_then (apply (cs ++ c ∷ [])) o ≡ apply_one c e
then_step None cs c e h below = cc
then_step (Some d) cs c e h below = below d h

last_step : (o : Option Value) → option_and_then (apply []) o ≡ o
last_step None = refl
last_step (Some d) = refl

-- one more component
pub applies_append : (cs : List PlainComponent) (c : PlainComponent) (d e : Value) → apply cs d ≡ Some e → apply (cs ++ c ∷ []) d ≡ apply_one c e
applies_append [] c d e h = let s : d ≡ e = cc in last_step (apply_one c d) ∙ ap (apply_one c) s
applies_append (b ∷ cs) c d e h = then_step (apply_one b d) cs c e h (λ x k. applies_append cs c x e k)

pub take_append : (s : List PlainComponent) (i : ℕ) (c : PlainComponent) (d e : Value) → i < length s → c ≡ get_or s i c → apply (take i s) d ≡ Some e → apply (take (i + 1) s) d ≡ apply_one c e
take_append s i c d e h is done = ap (λ l. apply l d) (take_more s i c h ∙ ap (λ x. take i s ++ x ∷ []) (sym is)) ∙ applies_append (take i s) c d e done

and_then_none : (o : Option Value) (cs ds : List PlainComponent) → option_and_then (apply cs) o ≡ None
    → ((d : Value) → apply cs d ≡ None → apply (cs ++ ds) d ≡ None) → option_and_then (apply (cs ++ ds)) o ≡ None
and_then_none None cs ds h below = refl
and_then_none (Some d) cs ds h below = below d h

-- components that don't apply don't apply with more after them
pub none_more : (cs ds : List PlainComponent) (d : Value) → apply cs d ≡ None → apply (cs ++ ds) d ≡ None
none_more [] ds d h = cc
none_more (c ∷ cs) ds d h = and_then_none (apply_one c d) cs ds h (λ x k. none_more cs ds x k)
