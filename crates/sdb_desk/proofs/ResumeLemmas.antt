-- Work that is resumed.
use Rattle.std.proofs.Common.{◌≡◌, ℕ, List, [], ◌∷◌, ◌++◌, take, drop, true, Result, Ok, refl, sym, ap, ◌∙◌}
use Rattle.std.proofs.lemmas.List.{take-append-drop}
use Rattle.sdb_oplog.specs.declared.codes.Code.{Code}
use Rattle.sdb_oplog.specs.laws.LogLaws.{rebase_append}
use Rattle.sdb_oplog.specs.Plain.{PlainEntry, PlainContent, create, delete, edit}
use Rattle.sdb_oplog.specs.Refusal.{result_and_then}
use Rattle.sdb_oplog.specs.Rebase.{over, rebase, over_allocates, rebase_allocates}

-- transforming against a prefix and then against the rest equals transforming against all
pub went_on : (m : PlainContent) (old new : List PlainEntry) (n : ℕ) (w : Result PlainContent Code) → w ≡ rebase m old → old ≡ take n new → result_and_then (λ k. rebase k (drop n new)) w ≡ rebase m new
went_on m old new n w is same =
    ap (result_and_then (λ k. rebase k (drop n new))) (is ∙ ap (rebase m) same)
    ∙ sym (rebase_append (take n new) (drop n new) m)
    ∙ ap (rebase m) (take-append-drop n new)

-- a delete never allocates
delete_never : (rest : List PlainEntry) → rebase_allocates delete rest ≡ true → ⊥
delete_never [] h = cc
delete_never (e ∷ rest) h = cc

deletes_over : (c : PlainContent) (es rest : List PlainEntry) (k : PlainContent) → (rebase delete es ≡ Ok k → ⊥) → result_and_then (λ j. rebase j es) (over delete c) ≡ Ok k → ⊥
deletes_over (create v) es rest k below is = cc
deletes_over delete es rest k below is = below is
deletes_over (edit op) es rest k below is = below is

deletes_never : (es rest : List PlainEntry) (k : PlainContent) → rebase_allocates k rest ≡ true → rebase delete es ≡ Ok k → ⊥
deletes_never [] rest k h is = let e : delete ≡ k = cc in delete_never rest (ap (λ x. rebase_allocates x rest) e ∙ h)
deletes_never (e ∷ es) rest k h is = deletes_over e.content es rest k (deletes_never es rest k h) is

first_allocates : (m c : PlainContent) (es rest : List PlainEntry) (k : PlainContent) → result_and_then (λ j. rebase j es) (over m c) ≡ Ok k → rebase_allocates k rest ≡ true → over_allocates m c ≡ true
first_allocates (create v) (create w) es rest k is h = cc
first_allocates (create v) delete es rest k is h = cc
first_allocates (create v) (edit other) es rest k is h = cc
first_allocates delete c es rest k is h = absurd (deletes_over c es rest k (deletes_never es rest k h) is)
first_allocates (edit op) (create w) es rest k is h = cc
first_allocates (edit op) delete es rest k is h = cc
first_allocates (edit op) (edit other) es rest k is h = refl

-- transforming against the rest allocates only if transforming against all does
pub rest_allocates : (m : PlainContent) (old rest : List PlainEntry) (k : PlainContent) → rebase m old ≡ Ok k → rebase_allocates k rest ≡ true → rebase_allocates m (old ++ rest) ≡ true
rest_allocates m [] rest k is h = let e : m ≡ k = cc in ap (λ x. rebase_allocates x rest) e ∙ h
rest_allocates m (e ∷ es) rest k is h = first_allocates m e.content es rest k is h
