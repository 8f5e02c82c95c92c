-- Calls that change nothing.
use Rattle.std.proofs.Common.{◌≡◌, ℕ, ◌<◌, Bool, true, false, not, nat_eq, arith, List, [], ◌∷◌, length, Result, Ok, Err, OnOk, OnErr, IfOk, IfErr, refl, sym, ap, ◌∙◌, subst}
use Rattle.std.specs.Result.{IsErrAnd}
use Rattle.sdb_oplog.specs.Plain.{PlainEntry}
use Rattle.sdb_oplog.specs.Keys.{PlainKey, keys_equal, with_log}
use Rattle.sdb_desk.specs.laws.MapLaws.{cond_same}
use Rattle.std.proofs.lemmas.Bool.{eqb-true}
use Rattle.sdb_desk.specs.laws.KeyLaws.{eq_of_keys_equal}
use Rattle.sdb_desk.specs.Machine.{is_nonempty}

pub on_ok : {A E P Q : Type 0} (r : Result A E) → (P → Q) → OnOk r P → OnOk r Q
on_ok (Ok x) f p = f p
on_ok (Err e) f p = tt

pub on_err : {A E P Q : Type 0} (r : Result A E) → (P → Q) → OnErr r P → OnErr r Q
on_err (Ok x) f p = tt
on_err (Err e) f p = f p

pub on_err_all : {A E P : Type 0} (r : Result A E) → P → OnErr r P
on_err_all (Ok x) p = tt
on_err_all (Err e) p = p

-- a log of length 0 is empty
pub no_snapshot : (log : List PlainEntry) → length log ≡ 0 → log ≡ []
no_snapshot [] h = refl
no_snapshot (e ∷ es) h = cc

-- an update of an empty cache with the empty list
pub no_cache : (f : PlainKey → List PlainEntry) (k : PlainKey) (l : List PlainEntry) → [] ≡ f k → [] ≡ l → f ≡ with_log f k l
no_cache f k l there same = λ i q. cond_same (keys_equal k q) (f q) l (λ h. ap f (sym (eq_of_keys_equal k q h)) ∙ sym there ∙ same) i

pub if_ok : {A E : Type 0} {P Q : A → Type 0} (r : Result A E) → ((x : A) → P x → Q x) → IfOk r P → IfOk r Q
if_ok (Ok x) f p = f x p
if_ok (Err e) f p = tt

pub if_err : {A E : Type 0} {P Q : E → Type 0} (r : Result A E) → ((e : E) → P e → Q e) → IfErr r P → IfErr r Q
if_err (Ok x) f p = tt
if_err (Err e) f p = f e p

-- the error of a call that passed an error on
pub if_err_from : {T E : Type 0} (P : E → Type 0) (r : Result T E) (e : E) → IsErrAnd r (λ y. y ≡ e) → P e → IfErr r P
if_err_from P (Ok x) e h p = tt
if_err_from P (Err y) e h p = subst P (sym h) p

pub err_is_from : {T E : Type 0} (r : Result T E) (e f : E) → IsErrAnd r (λ y. y ≡ e) → r ≡ Err f → e ≡ f
err_is_from (Ok x) e f h is = cc
err_is_from (Err y) e f h is = let s : y ≡ f = cc in sym h ∙ s

filled_or : (b : Bool) (n : ℕ) → nat_eq n 0 ≡ b → 0 < n → not b ≡ true
filled_or true n is some = let z : n ≡ 0 = eqb-true n 0 is in absurd (omega (arith, z, some))
filled_or false n is some = refl

-- a log that isn't empty
pub is_nonempty_of_length : (log : List PlainEntry) → not (nat_eq (length log) 0) ≡ is_nonempty log
is_nonempty_of_length [] = refl
is_nonempty_of_length (e ∷ es) = filled_or (nat_eq (length (e ∷ es)) 0) (length (e ∷ es)) refl (omega arith)
