-- The known bytes after a write of a part of the output.
use Rattle.std.proofs.Common.{◌≡◌, ℕ, ◌+◌, ◌-◌, List, length, take, drop, ap, sym, ◌∙◌, subst, take-append-drop, ◌⊎◌, inl, inr, None, Some, Ok, Err}
use Rattle.std.proofs.lemmas.List.{take_rest}
use Rattle.std.proofs.Math.Seq.{take-add}
use Rattle.std.specs.declared.option.Option.{Option}
use Rattle.std.specs.declared.result.Result.{Result}
use Rattle.std.specs.Io.KnownBytes.{Appends}
use Rattle.std.specs.Option.{IfSome}
use Rattle.std.specs.Result.{OnOk, OnErr}
use Rattle.std.proofs.KnownBytes.{Appends-trans}
use Rattle.sdb_lines.specs.Prefixes.{AppendsPrefix}

pub put-more : (a b c : Option (List ℕ)) (all out : List ℕ) (at n : ℕ) → out ≡ all → Appends a b (take at all) → Appends b c (take n (take (length out - at) (drop at out))) → Appends a c (take (at + n) all)
put-more a b c all out at n e p q =
    let k : take n (take (length out - at) (drop at out)) ≡ take n (drop at all) = ap (take n) (ap (λ l. take (length l - at) (drop at l)) e ∙ take_rest all at) in
    subst (Appends a c) (sym (take-add at n all)) (Appends-trans a b c _ _ p (subst (Appends b c) k q))

pub prefix-taken : (a c : Option (List ℕ)) (all : List ℕ) (k : ℕ) → Appends a c (take k all) → AppendsPrefix a c all
prefix-taken a c all k p = (take k all, p, (drop k all, sym (take-append-drop k all)))

-- a property that holds except for an error holds of a value
pub but-no_error : {T E P : Type 0} (x : T) (e : E) → P ⊎ (◌≡◌ {A = Result T E} (Ok x) (Err e)) → P
but-no_error x e (inl p) = p
but-no_error x e (inr q) = cc

-- a property that always holds also holds on an error
pub on_any_err : {T E P : Type 0} (r : Result T E) → P → OnErr r P
on_any_err (Ok x) p = tt
on_any_err (Err e) p = p

pub on_ok_both : {T E P Q R : Type 0} (r : Result T E) → (P → Q → R) → OnOk r P → OnOk r Q → OnOk r R
on_ok_both (Ok x) f p q = f p q
on_ok_both (Err e) f p q = tt

-- a property of each value holds of an optional one
pub if_any_some : {A : Type 0} (a : Option A) (P : A → Type 0) → ((x : A) → P x) → IfSome a P
if_any_some None P f = tt
if_any_some (Some x) P f = f x
