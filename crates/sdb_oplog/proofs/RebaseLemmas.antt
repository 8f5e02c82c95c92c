-- The places where a rebase allocates.
use Rattle.std.proofs.Common.{◌≡◌, ℕ, zero, suc, ◌+◌, ◌<◌, List, [], ◌∷◌, length, get_or, Bool, true, false, Option, Some, None, unwrap_or, Ok, refl, sym, ap, ◌∙◌, arith}
use Rattle.sdb_oplog.specs.Plain.{PlainContent, create, delete, edit, PlainEntry}
use Rattle.sdb_oplog.specs.Rebase.{over, over_allocates, rebase_allocates}

abbrev pub is_edit_content : PlainContent → Bool
is_edit_content (create v) = false
is_edit_content delete = false
is_edit_content (edit op) = true

-- the content rebased up to this entry: unchanged at first, and an edit only if the first entry is one too
abbrev pub IsRebasedUpTo : PlainContent → List PlainEntry → Option PlainContent → ℕ → Type 0
IsRebasedUpTo m es None i = 0 < i → is_edit_content m ≡ true → rebase_allocates m es ≡ true
IsRebasedUpTo m es (Some k) i = is_edit_content k ≡ true → rebase_allocates m es ≡ true

takes_edit : (m stored : PlainContent) → over_allocates m stored ≡ true → is_edit_content m ≡ true
takes_edit (create v) stored h = cc
takes_edit delete stored h = cc
takes_edit (edit op) (create v) h = cc
takes_edit (edit op) delete h = cc
takes_edit (edit op) (edit other) h = refl

edit_takes : (m stored k : PlainContent) → over m stored ≡ Ok k → is_edit_content k ≡ true → over_allocates m stored ≡ true
edit_takes (create v) (create w) k e h = cc
edit_takes (create v) delete k e h = cc
edit_takes (create v) (edit other) k e h = cc
edit_takes delete (create w) k e h = cc
edit_takes delete delete k e h = let c : delete ≡ k = cc in let never : false ≡ true = ap is_edit_content c ∙ h in cc
edit_takes delete (edit other) k e h = let c : delete ≡ k = cc in let never : false ≡ true = ap is_edit_content c ∙ h in cc
edit_takes (edit op) (create w) k e h = cc
edit_takes (edit op) delete k e h = cc
edit_takes (edit op) (edit other) k e h = refl

-- this step allocates
pub carries_here : (m : PlainContent) (es : List PlainEntry) (o : Option PlainContent) (i : ℕ) (e : PlainEntry) → i < length es
    → e ≡ get_or es i e → IsRebasedUpTo m es o i → over_allocates (unwrap_or o m) e.content ≡ true → rebase_allocates m es ≡ true
carries_here m es (Some k) i e below is carries h = carries (takes_edit k e.content h)
carries_here m es None (suc i) e below is carries h = carries (omega arith) (takes_edit m e.content h)
carries_here m [] None zero e below is carries h = absurd (omega (arith, below))
carries_here m (x ∷ es) None zero e below is carries h = sym (ap (λ (y : PlainEntry). over_allocates m y.content) is) ∙ h

-- the next step continues with its result
pub carries_on : (m : PlainContent) (es : List PlainEntry) (o : Option PlainContent) (i : ℕ) (e : PlainEntry) (n : Option PlainContent) → i < length es
    → e ≡ get_or es i e → IsRebasedUpTo m es o i → over (unwrap_or o m) e.content ≡ Ok (unwrap_or n m) → IsRebasedUpTo m es n (i + 1)
carries_on m es o i e None below is carries makes = λ some h. carries_here m es o i e below is carries (edit_takes (unwrap_or o m) e.content m makes h)
carries_on m es o i e (Some k) below is carries makes = λ h. carries_here m es o i e below is carries (edit_takes (unwrap_or o m) e.content k makes h)
