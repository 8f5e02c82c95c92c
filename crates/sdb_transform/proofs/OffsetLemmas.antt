-- Texts cut at an offset.
use Rattle.std.proofs.Common.{◌≡◌, ℕ, zero, suc, ◌+◌, ◌-◌, ◌<◌, ◌≤◌, min, List, [], ◌∷◌, ◌++◌, length, take, drop, Option, Some, None, option_map, Bool, true, false, leb, eqb, ◌⊎◌, inl, inr, refl, sym, arith}
use Rattle.std.specs.Prelude.{if◌then◌else◌}
use Rattle.std.proofs.lemmas.Bool.Decides.{nat_tests}
use Rattle.sdb_component.specs.Plain.{sd}
use Rattle.sdb_rope.specs.Utf16.{utf16_width, units, cut_at}
use Rattle.sdb_transform.specs.Classification.{IsKindOfAct}
use Rattle.sdb_transform.specs.Transform.{split_delete, delete_unless_empty, delete_without_overlap, sd_after_sd}
use Rattle.sdb_transform.specs.declared.classify.TransformKind.{TransformKind}

-- the cut is after the character, or before it
record IsPastCut (b a : ℕ) (bs : List ℕ) (i : ℕ) : Type 0 where
  pub rest : ℕ
  pub fits : utf16_width b ≤ a
  pub found : cut_at bs (a - utf16_width b) ≡ Some rest
  pub position : i ≡ suc rest

record IsCutHere (b a i : ℕ) : Type 0 where
  pub start : a ≡ 0
  pub wide : 0 < utf16_width b
  pub position : i ≡ 0

le_of : (w a : ℕ) → leb w a ≡ true → w ≤ a
le_of w a e = grind (arith, nat_tests)

lt_of : (w a : ℕ) → leb w a ≡ false → a < w
lt_of w a e = grind (arith, nat_tests)

eq_of : (a b : ℕ) → eqb a b ≡ true → a ≡ b
eq_of a b e = grind (arith, nat_tests)

cases_of : (t u : Bool) (o : Option ℕ) (b a : ℕ) (bs : List ℕ) (i : ℕ) → leb (utf16_width b) a ≡ t → eqb a 0 ≡ u → cut_at bs (a - utf16_width b) ≡ o
    → (if t then option_map suc o else (if u then Some 0 else None)) ≡ Some i → IsPastCut b a bs i ⊎ IsCutHere b a i
cases_of true u None b a bs i e f g h = cc
cases_of true u (Some k) b a bs i e f g h = let p : i ≡ suc k = cc in inl (record { rest = k; fits = le_of (utf16_width b) a e; found = g; position = p })
cases_of false true o b a bs i e f g h =
    let z : a ≡ 0 = eq_of a 0 f in
    let w : a < utf16_width b = lt_of (utf16_width b) a e in
    let p : i ≡ 0 = cc in
    inr (record { start = z; wide = omega arith; position = p })
cases_of false false o b a bs i e f g h = cc

cut_cases : (b a : ℕ) (bs : List ℕ) (i : ℕ) → cut_at (b ∷ bs) a ≡ Some i → IsPastCut b a bs i ⊎ IsCutHere b a i
cut_cases b a bs i h = cases_of (leb (utf16_width b) a) (eqb a 0) (cut_at bs (a - utf16_width b)) b a bs i refl refl refl h

at_end : (u : Bool) (a i : ℕ) → eqb a 0 ≡ u → (if u then Some 0 else None) ≡ Some i → (a ≡ 0) × (i ≡ 0)
at_end true a i e h = let p : i ≡ 0 = cc in (eq_of a 0 e, p)
at_end false a i e h = cc

-- the part before a cut has this number of code units
pub cut_prefix : (d : List ℕ) (a i : ℕ) → cut_at d a ≡ Some i → units (take i d) ≡ a
cut_prefix [] a i h = let e = at_end (eqb a 0) a i refl h in rw e.1 (sym e.0)
cut_prefix (b ∷ d) a i h =
    elim (cut_cases b a d i h) [
      | inl p ↦ let r : units (take p.rest d) ≡ a - utf16_width b = cut_prefix d (a - utf16_width b) p.rest p.found in let s : units (take i (b ∷ d)) ≡ utf16_width b + units (take p.rest d) = rw p.position refl in omega (arith, p.fits)
      | inr q ↦ rw q.position (sym q.start)
    ]

pub units_split : (i : ℕ) (d : List ℕ) → units (take i d) + units (drop i d) ≡ units d
units_split zero d = omega arith
units_split (suc i) [] = refl
units_split (suc i) (b ∷ d) = let r : units (take i d) + units (drop i d) ≡ units d = units_split i d in omega arith

-- a cut at a greater offset isn't earlier
pub cut_mono : (d : List ℕ) (a b i j : ℕ) → cut_at d a ≡ Some i → cut_at d b ≡ Some j → a ≤ b → i ≤ j
cut_mono [] a b i j g h l = let e = at_end (eqb a 0) a i refl g in omega (arith, e.1)
cut_mono (x ∷ d) a b i j g h l =
    elim (cut_cases x a d i g) [
      | inr q ↦ omega (arith, q.position)
      | inl p ↦ elim (cut_cases x b d j h) [
        | inl q ↦ let r : p.rest ≤ q.rest = cut_mono d (a - utf16_width x) (b - utf16_width x) p.rest q.rest p.found q.found (omega arith) in omega (arith, p.position, q.position)
        | inr q ↦ absurd (omega (arith, p.fits, q.start, q.wide))
      ]
    ]

inside_text : (d : List ℕ) (i : ℕ) → units (take i d) < units d → i < length d
inside_text [] zero h = absurd (omega (arith, h))
inside_text [] (suc i) h = absurd (omega (arith, h))
inside_text (b ∷ d) zero h = omega arith
inside_text (b ∷ d) (suc i) h = let r : i < length d = inside_text d i (omega (arith, h)) in omega (arith, r)

after_start : (d : List ℕ) (i : ℕ) → 0 < units (take i d) → 0 < i
after_start d zero h = absurd (omega (arith, h))
after_start d (suc i) h = omega arith

-- a cut after some code units, with some left, is inside the text
pub inner_cut : (d : List ℕ) (a i : ℕ) → cut_at d a ≡ Some i → 0 < a → a < units d → (0 < i) × (i < length d)
inner_cut d a i e low high =
    let u : units (take i d) ≡ a = cut_prefix d a i e in
    (after_start d i (omega (arith, u)), inside_text d i (omega (arith, u)))

-- ---- the texts that cuts leave

pub split_delete_cut : (p : ℕ) (d : List ℕ) (a q i : ℕ) → cut_at d a ≡ Some i → split_delete p d a q ≡ Some (sd p (take i d) ∷ sd q (drop i d) ∷ [])
split_delete_cut p d a q i e = rw e refl

pub delete_without_overlap_cut : (q : ℕ) (d : List ℕ) (a b i j : ℕ) → cut_at d a ≡ Some i → cut_at d b ≡ Some j → delete_without_overlap q d a b ≡ Some (delete_unless_empty q (take i d ++ drop j d))
delete_without_overlap_cut q d a b i j e f = rw (e, f) refl

-- two deletions that overlap
pub overlap_kind : (k : TransformKind) (p r : ℕ) (d d2 : List ℕ) (q a b : ℕ) → q ≡ min p r → a ≡ r - p → b ≡ min (units d) (r + units d2 - p) → p < r + units d2 → r < p + units d
    → IsKindOfAct k (sd p d) (sd r d2) (delete_without_overlap q d a b) → IsKindOfAct k (sd p d) (sd r d2) (sd_after_sd p d r d2)
overlap_kind k p r d d2 q a b e f g low high h =
    let t : leb (r + units d2) p ≡ false = grind (arith, nat_tests) in
    let u : leb (p + units d) r ≡ false = grind (arith, nat_tests) in
    rw (t, u, ← e, ← f, ← g) h
