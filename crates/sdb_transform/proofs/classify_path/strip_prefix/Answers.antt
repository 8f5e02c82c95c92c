use Rattle.std.proofs.Common.{◌≡◌, ℕ, List, [], ◌∷◌, length, take, drop, Option, Some, None, option_map, MatchOption, Ordering, Less, Equal, Greater, Bool, true, false, ◌&&◌, eqb, Bor, string_bytes, nat_cmp, is_eq, refl, sym, ap, ◌∙◌, arith}
use Rattle.std.proofs.lemmas.Bool.Decides.{nat_tests}
use Rattle.std.proofs.lemmas.Cmp.{nat_list_cmp_total}
use Rattle.std.proofs.lemmas.Map.Text.{is_eq-slice_cmp}
use Rattle.std.specs.Cmp.Lexicographic.{slice_cmp, pointwise}
use Rattle.std.specs.Ordering.{ordering_reverse}
use Rattle.std.specs.Prelude.{if◌then◌else◌}
use Rattle.sdb_value.specs.Value.{PlainStep, texts_equal, steps_equal}
use Rattle.sdb_value.specs.View.{plain_step, plain_path}
use Rattle.sdb_value.specs.declared.path.Step.{Step}
use Rattle.sdb_value.specs.declared.path.Step.TheVariants.{Key, Index}
use Rattle.sdb_value.specs.contracts.path.StepPartialEq.TheImpl.{eq-value}
use Rattle.sdb_transform.specs.Transform.{strip_prefix}
use Rattle.sdb_transform.proofs.classify_path.strip_prefix.Goals as goal

reversed : (o : Ordering) → is_eq (ordering_reverse o) ≡ is_eq o
reversed Less = refl
reversed Equal = refl
reversed Greater = refl

text_turned : (k l : List ℕ) → texts_equal k l ≡ texts_equal l k
text_turned k l = ap is_eq (nat_list_cmp_total.antisymm k l) ∙ reversed (slice_cmp nat_cmp l k)

number_turned : (i j : ℕ) → eqb i j ≡ eqb j i
number_turned i j = grind (arith, nat_tests)

-- the derived `==` of two steps
step_eq : (s t : Step) → eq-value.it t s ≡ steps_equal (plain_step s) (plain_step t)
step_eq (Key k) (Key l) = sym (is_eq-slice_cmp (string_bytes l) (string_bytes k)) ∙ text_turned (string_bytes l) (string_bytes k)
step_eq (Key k) (Index j) = refl
step_eq (Index i) (Key l) = refl
step_eq (Index i) (Index j) = number_turned j i

prefix_or : (b r : Bool) (x y : Option (List PlainStep)) → x ≡ (if r then y else None) → (if b then x else None) ≡ (if b && r then y else None)
prefix_or true r x y e = e
prefix_or false r x y e = refl

stripped : (front path : List Step)
    → strip_prefix (plain_path front) (plain_path path) ≡ (if pointwise eq-value.it (take (length front) path) front then Some (plain_path (drop (length front) path)) else None)
stripped [] path = refl
stripped (s ∷ front) [] = refl
stripped (s ∷ front) (t ∷ path) =
    rw (step_eq s t) (prefix_or (steps_equal (plain_step s) (plain_step t)) _ _ _ (stripped front path))

result_is : (r : Option (Bor (List Step))) (b : Bool) (rest : List Step) (P : Bor (List Step) → Type 0) → MatchOption r (b ≡ false) (λ x. (b ≡ true) × (x.now ≡ rest) × P x)
    → option_map (λ x. plain_path x.now) r ≡ (if b then Some (plain_path rest) else None)
result_is None b rest P h = rw h refl
result_is (Some x) b rest P h = rw (h.0) (ap (λ p. Some (plain_path p)) h.1)

pub returns : goal.returns
returns c =
    let front = c.args.front.now in
    let path = c.args.path.now in
    result_is c.strip_prefix.result (pointwise eq-value.it (take (length front) path) front) (drop (length front) path) _ c.strip_prefix.ensures.cases ∙ sym (stripped front path)
