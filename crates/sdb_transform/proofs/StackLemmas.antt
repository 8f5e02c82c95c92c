-- Vectors as stacks.
use Rattle.std.proofs.Common.{◌≡◌, ℕ, ◌+◌, List, [], ◌∷◌, ◌++◌, map, reverse, length, Option, Some, None, refl, sym, ap, ◌∙◌, arith, append_assoc, append-nil}
use Rattle.std.specs.Prelude.{MatchOption, option_to_list}
use Rattle.std.proofs.lemmas.List.{reverse-append, map-append}
use Rattle.sdb_component.specs.Plain.{PlainComponent}
use Rattle.sdb_transform.specs.declared.cross_stack.Frame.{Frame}
use Rattle.sdb_transform.specs.CrossMachine.{WorkItem, RightChange, right_frames}
use Rattle.sdb_transform.specs.CrossStack.{from_top, work_from_top, work_item_of}

from_reversed : {A : Type 0} (ps xs : List A) → reverse (xs ++ reverse ps) ≡ ps ++ reverse xs
from_reversed [] xs = ap reverse (append-nil xs)
from_reversed (p ∷ ps) xs =
    ap (λ l. reverse (xs ++ l)) (reverse-append (p ∷ []) ps)
    ∙ ap reverse (sym (append_assoc xs (reverse ps) (p ∷ [])))
    ∙ reverse-append (xs ++ reverse ps) (p ∷ [])
    ∙ ap (λ l. p ∷ l) (from_reversed ps xs)

pub top_pieces : (ps xs : List PlainComponent) → from_top (xs ++ reverse ps) ≡ ps ++ from_top xs
unfolding from_top
top_pieces ps xs = from_reversed ps xs

pub top_push : (xs : List PlainComponent) (c : PlainComponent) → from_top (xs ++ c ∷ []) ≡ c ∷ from_top xs
unfolding from_top
top_push xs c = reverse-append xs (c ∷ [])

pub stack_push : (xs : List Frame) (p : Frame) → work_from_top (xs ++ p ∷ []) ≡ work_item_of p ∷ work_from_top xs
unfolding work_from_top
stack_push xs p = ap reverse (map-append work_item_of xs (p ∷ [])) ∙ reverse-append (map work_item_of xs) (work_item_of p ∷ [])

pub empty_list : {A : Type 0} (xs : List A) → length xs ≡ 0 → xs ≡ []
empty_list [] e = refl
empty_list (x ∷ xs) e = absurd (omega (arith, e))

pub pop_top : (old new : List PlainComponent) (r : Option PlainComponent) (n m : ℕ) → n ≡ length old → m ≡ length new → old ≡ new ++ option_to_list r → MatchOption r ((n ≡ 0) × (m ≡ 0)) (λ _. m + 1 ≡ n) → MatchOption r ((from_top old ≡ []) × (from_top new ≡ [])) (λ c. from_top old ≡ c ∷ from_top new)
unfolding from_top
pop_top old new None n m e f i h = (ap from_top (empty_list old (sym e ∙ h.0)), ap from_top (empty_list new (sym f ∙ h.1)))
pop_top old new (Some c) n m e f i h = ap from_top i ∙ top_push new c

pub pop_stack : (old new : List Frame) (r : Option Frame) (n m : ℕ) → n ≡ length old → old ≡ new ++ option_to_list r → MatchOption r ((n ≡ 0) × (m ≡ 0)) (λ _. m + 1 ≡ n) → MatchOption r (work_from_top old ≡ []) (λ c. work_from_top old ≡ work_item_of c ∷ work_from_top new)
unfolding work_from_top
pop_stack old new None n m e i h = ap work_from_top (empty_list old (sym e ∙ h.0))
pop_stack old new (Some c) n m e i h = ap work_from_top i ∙ stack_push new c

-- one more right change
pub moves_push : (xs : List PlainComponent) (c : PlainComponent) (s : List (WorkItem PlainComponent)) → right_frames (xs ++ c ∷ []) ++ s ≡ right_frames xs ++ (RightChange c ∷ s)
moves_push [] c s = refl
moves_push (x ∷ xs) c s = ap (λ l. RightChange x ∷ l) (moves_push xs c s)

pub top_reversed : (xs : List PlainComponent) → reverse xs ≡ from_top xs
unfolding from_top
top_reversed xs = refl

-- an empty stack
pub top_none : from_top [] ≡ []
unfolding from_top
top_none = refl

pub stack_none : work_from_top [] ≡ []
unfolding work_from_top
stack_none = refl
