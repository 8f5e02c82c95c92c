-- A property of an optional value, of a result, and of a choice.
use Rattle.std.proofs.Common.{◌≡◌, Bool, true, false, cond, Option, Some, None, Result, Ok, Err, Ordering, Less, Equal, Greater, subst}
use Rattle.std.specs.Prelude.{⊤, IfSome, IfOk, IfErr, option_map, option_and_then}
use Rattle.std.specs.Option.{option_map_or}
use Rattle.std.specs.Ordering.{match_ordering}
use Rattle.std.specs.Result.{result_ok}
use Rattle.sdb_oplog.specs.Refusal.{result_and_then}
use Rattle.sdb_oplog.specs.declared.codes.Code.{Code}

abbrev pub IfSomeHolds : {A : Type 0} → (A → Type 0) → Option A → Type 0
IfSomeHolds P o = IfSome o P

pub opt_then : {A B : Type 0} (P : A → Type 0) (Q : B → Type 0) (f : A → Option B) (o : Option A) → IfSomeHolds P o → ((x : A) → P x → IfSomeHolds Q (f x)) → IfSomeHolds Q (option_and_then f o)
opt_then P Q f None h k = tt
opt_then P Q f (Some x) h k = k x h

pub opt_map : {A B : Type 0} (P : A → Type 0) (Q : B → Type 0) (f : A → B) (o : Option A) → IfSomeHolds P o → ((x : A) → P x → Q (f x)) → IfSomeHolds Q (option_map f o)
opt_map P Q f None h k = tt
opt_map P Q f (Some x) h k = k x h

pub opt_or : {A B : Type 0} (P : A → Type 0) (Q : B → Type 0) (f : A → B) (o : Option A) (y : B) → IfSomeHolds P o → Q y → ((x : A) → P x → Q (f x)) → Q (option_map_or f o y)
opt_or P Q f None y h g k = g
opt_or P Q f (Some x) y h g k = k x h

pub opt_at : {A : Type 0} (P : A → Type 0) (o : Option A) (x : A) → o ≡ Some x → IfSomeHolds P o → P x
opt_at P o x e h = subst (IfSomeHolds P) e h

pub opt_any : {A : Type 0} (o : Option A) → IfSomeHolds (λ _. ⊤) o
opt_any None = tt
opt_any (Some x) = tt

pub cond_holds : {A : Type 0} (P : A → Type 0) (b : Bool) (x y : A) → P x → P y → P (cond b x y)
cond_holds P true x y h k = h
cond_holds P false x y h k = k

pub ordering_holds : {A : Type 0} (P : A → Type 0) (o : Ordering) (x y z : A) → P x → P y → P z → P (match_ordering o x y z)
ordering_holds P Less x y z h g k = h
ordering_holds P Equal x y z h g k = g
ordering_holds P Greater x y z h g k = k

-- ---- results

pub if_ok_then : {A E : Type 0} {P Q : A → Type 0} (r : Result A E) → ((x : A) → P x → Q x) → IfOk r P → IfOk r Q
if_ok_then (Ok x) f h = f x h
if_ok_then (Err e) f h = tt

pub if_err_then : {A E : Type 0} {P Q : E → Type 0} (r : Result A E) → ((e : E) → P e → Q e) → IfErr r P → IfErr r Q
if_err_then (Ok x) f h = tt
if_err_then (Err e) f h = f e h

abbrev pub IfOkHolds : {A : Type 0} → (A → Type 0) → Result A Code → Type 0
IfOkHolds P r = IfSome (result_ok r) P

pub okay_then : {A B : Type 0} (P : A → Type 0) (Q : B → Type 0) (f : A → Result B Code) (r : Result A Code) → IfOkHolds P r → ((x : A) → P x → IfOkHolds Q (f x)) → IfOkHolds Q (result_and_then f r)
okay_then P Q f (Ok x) h k = k x h
okay_then P Q f (Err e) h k = tt

pub okay_map : {A B : Type 0} (P : A → Type 0) (Q : B → Type 0) (f : A → B) (o : Option A) (e : Code) → IfSomeHolds P o → ((x : A) → P x → Q (f x)) → IfOkHolds Q (option_map_or (λ x. Ok (f x)) o (Err e))
okay_map P Q f None e h k = tt
okay_map P Q f (Some x) e h k = k x h
