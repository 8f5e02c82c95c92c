-- Concurrent acts at one text.
use Rattle.std.proofs.Common.{◌≡◌, ℕ, zero, suc, ◌+◌, ◌-◌, ◌<◌, ◌≤◌, min, List, [], ◌∷◌, ◌++◌, length, take, drop, Option, Some, None, option_map, option_and_then, Bool, true, false, eqb, leb, inl, inr, refl, sym, ap, ◌∙◌, subst, arith, append_assoc, append-nil, nat_eq}
use Rattle.std.specs.Prelude.{if◌then◌else◌, ⊤}
use Rattle.std.specs.List.{insert_slice, remove_range, starts_with}
use Rattle.std.proofs.lemmas.Bool.Decides.{nat_tests}
use Rattle.std.proofs.lemmas.Slice.Eq.{bytes_eq-Decides}
use Rattle.std.specs.Str.{IsUtf8, IsCharBoundary}
use Rattle.std.proofs.lemmas.Str.{IsCharBoundary-start, IsCharBoundary-from_take, IsUtf8-drop}
use Rattle.sdb_value.specs.Value.{Value, text}
use Rattle.sdb_rope.specs.Utf16.{utf16_width, units, cut_at}
use Rattle.sdb_component.specs.Plain.{PlainAct, na, si, sd, li, ld, lr, oi, od, or}
use Rattle.sdb_apply.specs.Apply.{apply_act}
use Rattle.sdb_transform.specs.declared.side.Side.{Side}
use Rattle.sdb_transform.specs.declared.side.Side.TheVariants.{Left, Right}
use Rattle.sdb_transform.specs.Transform.{transform_act, split_delete, delete_without_overlap, delete_unless_empty}
use Rattle.sdb_transform.proofs.ConvergeActs.{apply_acts, ActsConverge, then_one, then_none, acts_converge_symm}
use Rattle.sdb_transform.specs.Convergence.{HasValidTexts, ActStaysInRange, IsSafeInteger}
use Rattle.sdb_transform.proofs.ConvergeLists.{le_true, lt_true, le_false, lt_false, eq_true, eq_false, le_of, le_or_lt, trichotomy}

-- ---- texts that begin with a character

abbrev IsCharStart : List ℕ → Type 0
IsCharStart [] = ⊤
IsCharStart (b ∷ bs) = 0 < utf16_width b

begins_append : (s t : List ℕ) → IsCharStart s → IsCharStart t → IsCharStart (s ++ t)
begins_append [] t h k = k
begins_append (b ∷ s) t h k = h

begins_prefix : (s t : List ℕ) → IsCharStart (s ++ t) → IsCharStart s
begins_prefix [] t h = tt
begins_prefix (b ∷ s) t h = h

-- a text that begins with s and continues differently
begins_other : (s t u : List ℕ) → IsCharStart (s ++ t) → IsCharStart u → IsCharStart (s ++ u)
begins_other s t u h k = begins_append s u (begins_prefix s t h) k

-- ---- code units

pub units_append : (s t : List ℕ) → units (s ++ t) ≡ units s + units t
units_append [] t = omega arith
units_append (b ∷ s) t = let r = units_append s t in omega (arith, r)

wide_units : (s t : List ℕ) → IsCharStart s → (u : List ℕ) → s ≡ u → units u ≡ 0 → u ≡ []
wide_units s t h [] e z = refl
wide_units s t h (b ∷ u) e z = let k : IsCharStart (b ∷ u) = subst IsCharStart e h in absurd (omega (arith, k, z))

-- ---- cuts

after_byte : (w n : ℕ) → w + n - w ≡ n
after_byte w n = omega arith

-- a text is cut before a text that begins with a character
pub cut_here : (s t : List ℕ) → IsCharStart t → cut_at (s ++ t) (units s) ≡ Some (length s)
cut_here [] [] h = refl
cut_here [] (b ∷ t) h = rw (le_false (utf16_width b) 0 h)
cut_here (b ∷ s) t h = rw (le_true (utf16_width b) (utf16_width b + units s) (omega arith), after_byte (utf16_width b) (units s)) (ap (option_map suc) (cut_here s t h))

pub cut_where : (t a b : List ℕ) (p : ℕ) → t ≡ a ++ b → units a ≡ p → IsCharStart b → cut_at t p ≡ Some (length a)
cut_where t a b p is at h = ap (λ x. cut_at x p) is ∙ ap (cut_at (a ++ b)) (sym at) ∙ cut_here a b h

-- it is cut at no other position
pub record IsCutAt (t : List ℕ) (p i : ℕ) : Type 0 where
  pub front : List ℕ
  pub rest : List ℕ
  pub is : t ≡ front ++ rest
  pub far : units front ≡ p
  pub begins : IsCharStart rest
  pub position : length front ≡ i

cut_none : (u : Bool) (p i : ℕ) → eqb p 0 ≡ u → (if u then Some 0 else None) ≡ Some i → (p ≡ 0) × (i ≡ 0)
cut_none true p i e h = let z : i ≡ 0 = cc in (grind (arith, nat_tests), z)
cut_none false p i e h = cc

cut_byte : (t u : Bool) (o : Option ℕ) (b p i : ℕ) (bs : List ℕ) → leb (utf16_width b) p ≡ t → eqb p 0 ≡ u → cut_at bs (p - utf16_width b) ≡ o
    → (if t then option_map suc o else (if u then Some 0 else None)) ≡ Some i → ((k : ℕ) → cut_at bs (p - utf16_width b) ≡ Some k → IsCutAt bs (p - utf16_width b) k)
    → IsCutAt (b ∷ bs) p i
cut_byte true u None b p i bs e f g h below = cc
cut_byte true u (Some k) b p i bs e f g h below =
    let c = below k g in
    let z : i ≡ suc k = cc in
    let w : utf16_width b ≤ p = le_of (utf16_width b) p e in
    record { front = b ∷ c.front; rest = c.rest; is = ap (λ x. b ∷ x) c.is; far = omega (arith, w, c.far); begins = c.begins; position = ap suc c.position ∙ sym z }
cut_byte false true o b p i bs e f g h below =
    let z : p ≡ 0 = grind (arith, nat_tests) in
    let w : p < utf16_width b = grind (arith, nat_tests) in
    let n : i ≡ 0 = cc in
    record { front = []; rest = b ∷ bs; is = refl; far = sym z; begins = omega (arith, w); position = sym n }
cut_byte false false o b p i bs e f g h below = cc

pub cut_found : (t : List ℕ) (p i : ℕ) → cut_at t p ≡ Some i → IsCutAt t p i
cut_found [] p i h = let e = cut_none (eqb p 0) p i refl h in record { front = []; rest = []; is = refl; far = sym (e.0); begins = tt; position = sym (e.1) }
cut_found (b ∷ bs) p i h = cut_byte (leb (utf16_width b) p) (eqb p 0) (cut_at bs (p - utf16_width b)) b p i bs refl refl refl h (λ k e. cut_found bs (p - utf16_width b) k e)

-- ---- two parts of one text

pub record TextBetween (a b c d : List ℕ) : Type 0 where
  pub mid : List ℕ
  pub far : c ≡ a ++ mid
  pub near : b ≡ mid ++ d

-- the cut with fewer code units before it is the earlier one
pub text_between : (a b c d : List ℕ) → a ++ b ≡ c ++ d → IsCharStart d → units a ≤ units c → TextBetween a b c d
text_between [] b c d e h k = record { mid = c; far = refl; near = e }
text_between (x ∷ a) b [] d e h k = let w : IsCharStart (x ∷ (a ++ b)) = subst IsCharStart (sym e) h in absurd (omega (arith, w, k))
text_between (x ∷ a) b (y ∷ c) d e h k =
    let s : x ≡ y = cc in
    let r : a ++ b ≡ c ++ d = cc in
    let n : utf16_width x ≡ utf16_width y = ap utf16_width s in
    let m = text_between a b c d r h (omega (arith, k, n)) in
    record { mid = m.mid; far = ap (λ z. z ∷ c) (sym s) ∙ ap (λ z. x ∷ z) m.far; near = m.near }

same_prefix : (a b c : List ℕ) → a ++ b ≡ a ++ c → b ≡ c
same_prefix [] b c e = e
same_prefix (x ∷ a) b c e = let r : a ++ b ≡ a ++ c = cc in same_prefix a b c r

-- ---- effects

take_prefix : (a b : List ℕ) → take (length a) (a ++ b) ≡ a
take_prefix [] b = refl
take_prefix (x ∷ a) b = ap (λ z. x ∷ z) (take_prefix a b)

drop_prefix : (a b : List ℕ) → drop (length a) (a ++ b) ≡ b
drop_prefix [] b = refl
drop_prefix (x ∷ a) b = drop_prefix a b

length_append : (a b : List ℕ) → length (a ++ b) ≡ length a + length b
length_append [] b = omega arith
length_append (x ∷ a) b = let r = length_append a b in omega (arith, r)

insert_slice_append : (a b s : List ℕ) → insert_slice (a ++ b) (length a) s ≡ a ++ (s ++ b)
insert_slice_append a b s = rw (take_prefix a b, drop_prefix a b) (append_assoc a s b)

remove_range_append : (a d b : List ℕ) → remove_range (a ++ (d ++ b)) (length a) (length a + length d) ≡ a ++ b
remove_range_append a d b =
    let e : length a + length d ≡ length (a ++ d) = sym (length_append a d) in
    let f : a ++ (d ++ b) ≡ (a ++ d) ++ b = sym (append_assoc a d b) in
    rw (take_prefix a (d ++ b), e) (ap (λ t. a ++ drop (length (a ++ d)) t) f ∙ ap (λ t. a ++ t) (drop_prefix (a ++ d) b))

begins_with : (d b : List ℕ) → starts_with nat_eq (d ++ b) d ≡ true
begins_with d b = (bytes_eq-Decides d (take (length d) (d ++ b))).1 (sym (take_prefix d b))

pub si_does : (p : ℕ) (s t a b e : List ℕ) → t ≡ a ++ b → units a ≡ p → IsCharStart b → e ≡ a ++ (s ++ b) → apply_act (si p s) (text t) ≡ Some (text e)
si_does p s t a b e is at h goes =
    ap (λ o. option_map text (option_map (λ i. insert_slice t i s) o)) (cut_where t a b p is at h)
    ∙ ap (λ t. Some (text (insert_slice t (length a) s))) is
    ∙ ap (λ t. Some (text t)) (insert_slice_append a b s ∙ sym goes)

pub sd_does : (p : ℕ) (d t a b e : List ℕ) → t ≡ a ++ (d ++ b) → units a ≡ p → IsCharStart (d ++ b) → e ≡ a ++ b → apply_act (sd p d) (text t) ≡ Some (text e)
sd_does p d t a b e is at h goes =
    ap (λ o. option_map text (option_and_then (λ i. if starts_with nat_eq (drop i t) d then Some (remove_range t i (i + length d)) else None) o)) (cut_where t a (d ++ b) p is at h)
    ∙ ap (λ t. option_map text (if starts_with nat_eq (drop (length a) t) d then Some (remove_range t (length a) (length a + length d)) else None)) is
    ∙ ap (λ x. option_map text (if starts_with nat_eq x d then Some (remove_range (a ++ (d ++ b)) (length a) (length a + length d)) else None)) (drop_prefix a (d ++ b))
    ∙ ap (λ x. option_map text (if x then Some (remove_range (a ++ (d ++ b)) (length a) (length a + length d)) else None)) (begins_with d b)
    ∙ ap (λ t. Some (text t)) (remove_range_append a d b ∙ sym goes)

-- three acts
then_two : (a b c : PlainAct) (u v w e : Value) → apply_act a u ≡ Some v → apply_act b v ≡ Some w → apply_act c w ≡ Some e → apply_acts (a ∷ b ∷ c ∷ []) u ≡ Some e
then_two a b c u v w e h k l = ap (option_and_then (apply_acts (b ∷ c ∷ []))) h ∙ then_one b c v w e k l

-- ---- two inserts

si_si_before : (s t : Side) (p r : ℕ) (x y tx a m d : List ℕ) → tx ≡ a ++ (m ++ d) → units a ≡ p → units a + units m ≡ r → IsCharStart (m ++ d) → IsCharStart d → IsCharStart y
    → transform_act s (si p x) (si r y) ≡ Some (si p x ∷ []) → transform_act t (si r y) (si p x) ≡ Some (si (r + units x) y ∷ []) → ActsConverge s t (text tx) (si p x) (si r y)
si_si_before s t p r x y tx a m d is at on h k l f g = record {
  left = si p x ∷ [];
  right = si (r + units x) y ∷ [];
  result = text (a ++ (x ++ (m ++ (y ++ d))));
  on_left = f;
  on_right = g;
  by_left =
      then_one (si p x) (si (r + units x) y) (text tx) (text (a ++ (x ++ (m ++ d)))) (text (a ++ (x ++ (m ++ (y ++ d)))))
      (si_does p x tx a (m ++ d) (a ++ (x ++ (m ++ d))) is at h refl)
      (si_does (r + units x) y (a ++ (x ++ (m ++ d))) (a ++ (x ++ m)) d (a ++ (x ++ (m ++ (y ++ d)))) (simp append_assoc) (omega (arith, units_append a (x ++ m), units_append x m, at, on)) k (simp append_assoc));
  by_right =
      then_one (si r y) (si p x) (text tx) (text (a ++ (m ++ (y ++ d)))) (text (a ++ (x ++ (m ++ (y ++ d)))))
      (si_does r y tx (a ++ m) d (a ++ (m ++ (y ++ d))) (is ∙ simp append_assoc) (omega (arith, units_append a m, on)) k (simp append_assoc))
      (si_does p x (a ++ (m ++ (y ++ d))) a (m ++ (y ++ d)) (a ++ (x ++ (m ++ (y ++ d)))) refl at (begins_other m d (y ++ d) h (begins_append y d l k)) refl);
}

si_stays : (s : Side) (p r : ℕ) (x y : List ℕ) → p < r → transform_act s (si p x) (si r y) ≡ Some (si p x ∷ [])
si_stays s p r x y h = rw (lt_false r p (omega (arith, h)), eq_false r p (λ e. omega (arith, h, e)))

si_rises : (s : Side) (p r : ℕ) (x y : List ℕ) → p < r → r + units x ≤ 9007199254740991 → transform_act s (si r y) (si p x) ≡ Some (si (r + units x) y ∷ [])
si_rises s p r x y h k = rw (lt_true p r h, le_true (r + units x) 9007199254740991 k)

si_left : (p : ℕ) (x y : List ℕ) → transform_act Left (si p x) (si p y) ≡ Some (si p x ∷ [])
si_left p x y = rw (lt_false p p (omega arith), eq_true p p refl)

si_right : (p : ℕ) (x y : List ℕ) → p + units x ≤ 9007199254740991 → transform_act Right (si p y) (si p x) ≡ Some (si (p + units x) y ∷ [])
si_right p x y k = rw (lt_false p p (omega arith), eq_true p p refl, le_true (p + units x) 9007199254740991 k)

-- from two cuts
si_si_cuts : (s t : Side) (p r i j : ℕ) (x y tx : List ℕ) → IsCutAt tx p i → IsCutAt tx r j → p ≤ r → IsCharStart y
    → transform_act s (si p x) (si r y) ≡ Some (si p x ∷ []) → transform_act t (si r y) (si p x) ≡ Some (si (r + units x) y ∷ []) → ActsConverge s t (text tx) (si p x) (si r y)
si_si_cuts s t p r i j x y tx c d h l f g =
    let b = text_between c.front c.rest d.front d.rest (sym c.is ∙ d.is) d.begins (omega (arith, c.far, d.far, h)) in
    let n : c.rest ≡ b.mid ++ d.rest = b.near in
    si_si_before s t p r x y tx c.front b.mid d.rest (c.is ∙ ap (λ z. c.front ++ z) n) c.far
    (omega (arith, d.far, ap units b.far, units_append c.front b.mid)) (subst IsCharStart n c.begins) d.begins l f g

pub si_si : (p r i j : ℕ) (x y tx : List ℕ) → IsCutAt tx p i → IsCutAt tx r j → IsCharStart x → IsCharStart y → (r < p → IsSafeInteger (p + units y)) → (p ≤ r → IsSafeInteger (r + units x))
    → ActsConverge Left Right (text tx) (si p x) (si r y)
si_si p r i j x y tx c d h k m n =
    elim (trichotomy p r) [
      | inl l ↦ si_si_cuts Left Right p r i j x y tx c d (omega (arith, l)) k (si_stays Left p r x y l) (si_rises Right p r x y l (n (omega (arith, l))))
      | inr (inl e) ↦ subst (λ r. ActsConverge Left Right (text tx) (si p x) (si r y)) e
          (si_si_cuts Left Right p p i i x y tx c c (omega arith) k (si_left p x y) (si_right p x y (omega (arith, e, n (omega (arith, e))))))
      | inr (inr g) ↦ acts_converge_symm Right Left (text tx) (si r y) (si p x) (si_si_cuts Right Left r p j i y x tx d c (omega (arith, g)) h (si_stays Right r p y x g) (si_rises Left r p y x g (m g)))
    ]

-- ---- an insert and a deletion

si_sd_before : (s t : Side) (p r : ℕ) (x d tx a m e : List ℕ) → tx ≡ a ++ (m ++ (d ++ e)) → units a ≡ p → units a + units m ≡ r
    → IsCharStart m → IsCharStart d → IsCharStart e → r + units x ≤ 9007199254740991 → ActsConverge s t (text tx) (si p x) (sd r d)
si_sd_before s t p r x d tx a m e is at on bm bd be k = record {
  left = si p x ∷ [];
  right = sd (r + units x) d ∷ [];
  result = text (a ++ (x ++ (m ++ e)));
  on_left = rw (le_true p r (omega (arith, at, on)));
  on_right = rw (le_true p r (omega (arith, at, on)), le_true (r + units x) 9007199254740991 k);
  by_left =
      then_one (si p x) (sd (r + units x) d) (text tx) (text (a ++ (x ++ (m ++ (d ++ e))))) (text (a ++ (x ++ (m ++ e))))
      (si_does p x tx a (m ++ (d ++ e)) (a ++ (x ++ (m ++ (d ++ e)))) is at (begins_append m (d ++ e) bm (begins_append d e bd be)) refl)
      (sd_does (r + units x) d (a ++ (x ++ (m ++ (d ++ e)))) (a ++ (x ++ m)) e (a ++ (x ++ (m ++ e))) (simp append_assoc) (omega (arith, units_append a (x ++ m), units_append x m, at, on)) (begins_append d e bd be) (simp append_assoc));
  by_right =
      then_one (sd r d) (si p x) (text tx) (text (a ++ (m ++ e))) (text (a ++ (x ++ (m ++ e))))
      (sd_does r d tx (a ++ m) e (a ++ (m ++ e)) (is ∙ simp append_assoc) (omega (arith, units_append a m, on)) (begins_append d e bd be) (simp append_assoc))
      (si_does p x (a ++ (m ++ e)) a (m ++ e) (a ++ (x ++ (m ++ e))) refl at (begins_append m e bm be) refl);
}

si_after : (s : Side) (p r n : ℕ) (x d : List ℕ) → r < p → r + units d + n ≡ p → transform_act s (si p x) (sd r d) ≡ Some (si (r + n) x ∷ [])
si_after s p r n x d h e =
    elim (le_or_lt p (r + units d)) [
      | inl l ↦ let z : r ≡ r + n = omega (arith, l, e) in rw (le_false p r h, le_true p (r + units d) l) (ap (λ q. Some (si q x ∷ [])) z)
      | inr g ↦ let z : p - units d ≡ r + n = omega (arith, e) in rw (le_false p r h, le_false p (r + units d) g) (ap (λ q. Some (si q x ∷ [])) z)
    ]

si_sd_after : (s t : Side) (p r : ℕ) (x d tx c m b : List ℕ) → tx ≡ c ++ (d ++ (m ++ b)) → units c ≡ r → r + units d + units m ≡ p → r < p
    → IsCharStart m → IsCharStart d → IsCharStart b → IsCharStart x → ActsConverge s t (text tx) (si p x) (sd r d)
si_sd_after s t p r x d tx c m b is at on h bm bd bb bx = record {
  left = si (r + units m) x ∷ [];
  right = sd r d ∷ [];
  result = text (c ++ (m ++ (x ++ b)));
  on_left = si_after s p r (units m) x d h on;
  on_right = rw (le_false p r h, le_true (r + units d) p (omega (arith, on)));
  by_left =
      then_one (si p x) (sd r d) (text tx) (text (c ++ (d ++ (m ++ (x ++ b))))) (text (c ++ (m ++ (x ++ b))))
      (si_does p x tx (c ++ (d ++ m)) b (c ++ (d ++ (m ++ (x ++ b)))) (is ∙ simp append_assoc) (omega (arith, units_append c (d ++ m), units_append d m, at, on)) bb (simp append_assoc))
      (sd_does r d (c ++ (d ++ (m ++ (x ++ b)))) c (m ++ (x ++ b)) (c ++ (m ++ (x ++ b))) refl at (begins_append d (m ++ (x ++ b)) bd (begins_append m (x ++ b) bm (begins_append x b bx bb))) refl);
  by_right =
      then_one (sd r d) (si (r + units m) x) (text tx) (text (c ++ (m ++ b))) (text (c ++ (m ++ (x ++ b))))
      (sd_does r d tx c (m ++ b) (c ++ (m ++ b)) is at (begins_append d (m ++ b) bd (begins_append m b bm bb)) refl)
      (si_does (r + units m) x (c ++ (m ++ b)) (c ++ m) b (c ++ (m ++ (x ++ b))) (simp append_assoc) (omega (arith, units_append c m, at)) bb (simp append_assoc));
}

-- the insert is inside the deleted text, which is split in two
split_is : (r q n : ℕ) (f g : List ℕ) → units f ≡ n → IsCharStart g → split_delete r (f ++ g) n q ≡ Some (sd r f ∷ sd q g ∷ [])
split_is r q n f g e h =
    ap (option_map (λ i. sd r (take i (f ++ g)) ∷ sd q (drop i (f ++ g)) ∷ [])) (cut_where (f ++ g) f g n refl e h)
    ∙ ap (λ z. Some (sd r z ∷ sd q (drop (length f) (f ++ g)) ∷ [])) (take_prefix f g)
    ∙ ap (λ z. Some (sd r f ∷ sd q z ∷ [])) (drop_prefix f g)

si_sd_inside : (s t : Side) (p r : ℕ) (x tx c f g e : List ℕ) → tx ≡ c ++ (f ++ (g ++ e)) → units c ≡ r → r + units f ≡ p → 0 < units f → 0 < units g
    → IsCharStart f → IsCharStart g → IsCharStart e → IsCharStart x → r + units x ≤ 9007199254740991 → ActsConverge s t (text tx) (si p x) (sd r (f ++ g))
si_sd_inside s t p r x tx c f g e is at on wf wg bf bg be bx k = record {
  left = si r x ∷ [];
  right = sd r f ∷ sd (r + units x) g ∷ [];
  result = text (c ++ (x ++ e));
  on_left = rw (le_false p r (omega (arith, on, wf)), le_true p (r + units (f ++ g)) (omega (arith, on, units_append f g)));
  on_right =
      rw (le_false p r (omega (arith, on, wf)), le_false (r + units (f ++ g)) p (omega (arith, on, wg, units_append f g)), le_true (r + units x) 9007199254740991 k)
      (split_is r (r + units x) (p - r) f g (omega (arith, on)) bg);
  by_left =
      then_two (si p x) (sd r f) (sd (r + units x) g) (text tx) (text (c ++ (f ++ (x ++ (g ++ e))))) (text (c ++ (x ++ (g ++ e)))) (text (c ++ (x ++ e)))
      (si_does p x tx (c ++ f) (g ++ e) (c ++ (f ++ (x ++ (g ++ e)))) (is ∙ simp append_assoc) (omega (arith, units_append c f, at, on)) (begins_append g e bg be) (simp append_assoc))
      (sd_does r f (c ++ (f ++ (x ++ (g ++ e)))) c (x ++ (g ++ e)) (c ++ (x ++ (g ++ e))) refl at (begins_append f (x ++ (g ++ e)) bf (begins_append x (g ++ e) bx (begins_append g e bg be))) refl)
      (sd_does (r + units x) g (c ++ (x ++ (g ++ e))) (c ++ x) e (c ++ (x ++ e)) (simp append_assoc) (omega (arith, units_append c x, at)) (begins_append g e bg be) (simp append_assoc));
  by_right =
      then_one (sd r (f ++ g)) (si r x) (text tx) (text (c ++ e)) (text (c ++ (x ++ e)))
      (sd_does r (f ++ g) tx c e (c ++ e) (is ∙ simp append_assoc) at (begins_append (f ++ g) e (begins_append f g bf bg) be) refl)
      (si_does r x (c ++ e) c e (c ++ (x ++ e)) refl at be refl);
}

-- the deleted text between two cuts
pub record DeletedRange (t d : List ℕ) (p : ℕ) : Type 0 where
  pub front : List ℕ
  pub rest : List ℕ
  pub is : t ≡ front ++ (d ++ rest)
  pub far : units front ≡ p
  pub starts : IsCharStart d
  pub wide : 0 < units d
  pub ends : IsCharStart rest

begins_part : (f g d : List ℕ) → d ≡ f ++ g → IsCharStart d → IsCharStart f
begins_part f g d e h = begins_prefix f g (subst IsCharStart e h)

begins_rest : (g e b : List ℕ) → b ≡ g ++ e → IsCharStart b → IsCharStart g
begins_rest g e b is h = begins_prefix g e (subst IsCharStart is h)

pub si_sd : (s t : Side) (p r i : ℕ) (x d tx : List ℕ) → IsCutAt tx p i → DeletedRange tx d r → IsCharStart x → (p < r + units d → IsSafeInteger (r + units x)) → ActsConverge s t (text tx) (si p x) (sd r d)
si_sd s t p r i x d tx c k bx m =
    elim (le_or_lt p r) [
      | inl l ↦
          let b = text_between c.front c.rest k.front (d ++ k.rest) (sym c.is ∙ k.is) (begins_append d k.rest k.starts k.ends) (omega (arith, c.far, k.far, l)) in
          si_sd_before s t p r x d tx c.front b.mid k.rest (c.is ∙ ap (λ z. c.front ++ z) b.near) c.far (omega (arith, k.far, ap units b.far, units_append c.front b.mid))
          (begins_rest b.mid (d ++ k.rest) c.rest b.near c.begins) k.starts k.ends (m (omega (arith, l, k.wide)))
      | inr g ↦ elim (le_or_lt (r + units d) p) [
        | inl l ↦
            let b = text_between (k.front ++ d) k.rest c.front c.rest (append_assoc k.front d k.rest ∙ sym k.is ∙ c.is) c.begins (omega (arith, c.far, k.far, units_append k.front d, l)) in
            si_sd_after s t p r x d tx k.front b.mid c.rest (k.is ∙ ap (λ z. k.front ++ (d ++ z)) b.near) k.far
            (omega (arith, c.far, k.far, ap units b.far, units_append (k.front ++ d) b.mid, units_append k.front d)) g
            (begins_rest b.mid c.rest k.rest b.near k.ends) k.starts c.begins bx
        | inr h ↦
            let b = text_between k.front (d ++ k.rest) c.front c.rest (sym k.is ∙ c.is) c.begins (omega (arith, c.far, k.far, g)) in
            let e = text_between c.front c.rest (k.front ++ d) k.rest (sym c.is ∙ k.is ∙ sym (append_assoc k.front d k.rest)) k.ends (omega (arith, c.far, k.far, units_append k.front d, h)) in
            let f = b.mid in
            let g' = e.mid in
            let is : d ≡ f ++ g' = same_prefix k.front d (f ++ g') (e.far ∙ ap (λ z. z ++ g') b.far ∙ append_assoc k.front f g') in
            let on : r + units f ≡ p = omega (arith, k.far, c.far, ap units b.far, units_append k.front f) in
            subst (λ d. ActsConverge s t (text tx) (si p x) (sd r d)) (sym is)
            (si_sd_inside s t p r x tx k.front f g' k.rest (c.is ∙ ap (λ z. z ++ c.rest) b.far ∙ ap (λ z. (k.front ++ f) ++ z) e.near ∙ append_assoc k.front f (g' ++ k.rest)) k.far on (omega (arith, on, g))
            (omega (arith, on, h, ap units is, units_append f g')) (begins_part f g' d is k.starts) (begins_rest g' k.rest c.rest e.near c.begins) k.ends bx (m h))
      ]
    ]

-- ---- two deletions

-- the rest of a deletion from whose text a part was removed
without_is : (p before after : ℕ) (f g h : List ℕ) → units f ≡ before → units f + units g ≡ after → IsCharStart g → IsCharStart h → delete_without_overlap p (f ++ (g ++ h)) before after ≡ Some (delete_unless_empty p (f ++ h))
without_is p before after f g h e k bg bh =
    let d = f ++ (g ++ h) in
    let is : d ≡ (f ++ g) ++ h = sym (append_assoc f g h) in
    ap (λ o. option_and_then (λ i. option_map (λ j. delete_unless_empty p (take i d ++ drop j d)) (cut_at d after)) o) (cut_where d f (g ++ h) before refl e (begins_append g h bg bh))
    ∙ ap (option_map (λ j. delete_unless_empty p (take (length f) d ++ drop j d))) (cut_where d (f ++ g) h after is (omega (arith, units_append f g, k)) bh)
    ∙ ap (λ z. Some (delete_unless_empty p (z ++ drop (length (f ++ g)) d))) (take_prefix f (g ++ h))
    ∙ ap (λ z. Some (delete_unless_empty p (f ++ drop (length (f ++ g)) z))) is
    ∙ ap (λ z. Some (delete_unless_empty p (f ++ z))) (drop_prefix (f ++ g) h)

unless_does : (p : ℕ) (w t a b : List ℕ) → t ≡ a ++ (w ++ b) → units a ≡ p → IsCharStart w → IsCharStart b → apply_acts (delete_unless_empty p w) (text t) ≡ Some (text (a ++ b))
unless_does p [] t a b is at bw bb = ap (λ z. Some (text z)) is
unless_does p (c ∷ w) t a b is at bw bb =
    then_none (sd p (c ∷ w)) (text t) (text (a ++ b)) (sd_does p (c ∷ w) t a b (a ++ b) is at (begins_append (c ∷ w) b bw bb) refl)

then_some : (a : PlainAct) (more : List PlainAct) (u v e : Value) → apply_act a u ≡ Some v → apply_acts more v ≡ Some e → apply_acts (a ∷ more) u ≡ Some e
then_some a more u v e h k = ap (option_and_then (apply_acts more)) h ∙ k

sd_sd_apart : (s t : Side) (p r : ℕ) (d d2 tx a m e : List ℕ) → tx ≡ a ++ (d ++ (m ++ (d2 ++ e))) → units a ≡ p → p + units d + units m ≡ r → 0 < units d
    → IsCharStart d → IsCharStart m → IsCharStart d2 → IsCharStart e → ActsConverge s t (text tx) (sd p d) (sd r d2)
sd_sd_apart s t p r d d2 tx a m e is at on wide bd bm b2 be = record {
  left = sd p d ∷ [];
  right = sd (r - units d) d2 ∷ [];
  result = text (a ++ (m ++ e));
  on_left = rw (le_false (r + units d2) p (omega (arith, on, wide)), le_true (p + units d) r (omega (arith, on)));
  on_right = rw (le_true (p + units d) r (omega (arith, on)));
  by_left =
      then_one (sd p d) (sd (r - units d) d2) (text tx) (text (a ++ (m ++ (d2 ++ e)))) (text (a ++ (m ++ e)))
      (sd_does p d tx a (m ++ (d2 ++ e)) (a ++ (m ++ (d2 ++ e))) is at (begins_append d (m ++ (d2 ++ e)) bd (begins_append m (d2 ++ e) bm (begins_append d2 e b2 be))) refl)
      (sd_does (r - units d) d2 (a ++ (m ++ (d2 ++ e))) (a ++ m) e (a ++ (m ++ e)) (simp append_assoc) (omega (arith, units_append a m, at, on)) (begins_append d2 e b2 be) (simp append_assoc));
  by_right =
      then_one (sd r d2) (sd p d) (text tx) (text (a ++ (d ++ (m ++ e)))) (text (a ++ (m ++ e)))
      (sd_does r d2 tx (a ++ (d ++ m)) e (a ++ (d ++ (m ++ e))) (is ∙ simp append_assoc) (omega (arith, units_append a (d ++ m), units_append d m, at, on)) (begins_append d2 e b2 be) (simp append_assoc))
      (sd_does p d (a ++ (d ++ (m ++ e))) a (m ++ e) (a ++ (m ++ e)) refl at (begins_append d (m ++ e) bd (begins_append m e bm be)) refl);
}

min_first : (p r : ℕ) → p ≤ r → min p r ≡ p
min_first p r h = omega (arith, h)

min_other : (p r : ℕ) → p ≤ r → min r p ≡ p
min_other p r h = omega (arith, h)

-- the second is inside the first
sd_sd_inside : (s t : Side) (p r : ℕ) (tx a f d2 h b : List ℕ) → tx ≡ a ++ (f ++ (d2 ++ (h ++ b))) → units a ≡ p → p + units f ≡ r → 0 < units d2
    → IsCharStart f → IsCharStart d2 → IsCharStart h → IsCharStart b → ActsConverge s t (text tx) (sd p (f ++ (d2 ++ h))) (sd r d2)
sd_sd_inside s t p r tx a f d2 h b is at on wide bf b2 bh bb =
    let d = f ++ (d2 ++ h) in
    let size : units d ≡ units f + (units d2 + units h) = omega (arith, units_append f (d2 ++ h), units_append d2 h) in
    record {
      left = delete_unless_empty p (f ++ h);
      right = [];
      result = text (a ++ b);
      on_left =
          rw (le_false (r + units d2) p (omega (arith, on, wide)), le_false (p + units d) r (omega (arith, on, wide, size)), min_first p r (omega (arith, on)))
          (without_is p (r - p) (min (units d) (r + units d2 - p)) f d2 h (omega (arith, on)) (omega (arith, on, size)) b2 bh);
      on_right =
          rw (le_false (p + units d) r (omega (arith, on, wide, size)), le_false (r + units d2) p (omega (arith, on, wide)))
          (ap (λ z. delete_without_overlap (min r p) z (p - r) (min (units d2) (p + units d - r))) (sym (append-nil d2))
          ∙ without_is (min r p) (p - r) (min (units d2) (p + units d - r)) [] d2 [] (omega (arith, on)) (omega (arith, on, size)) b2 tt);
      by_left =
          then_some (sd p d) [] (text tx) (text (a ++ b)) (text (a ++ b))
          (sd_does p d tx a b (a ++ b) (is ∙ simp append_assoc) at (begins_append d b (begins_append f (d2 ++ h) bf (begins_append d2 h b2 bh)) bb) refl) refl;
      by_right =
          then_some (sd r d2) (delete_unless_empty p (f ++ h)) (text tx) (text (a ++ (f ++ (h ++ b)))) (text (a ++ b))
          (sd_does r d2 tx (a ++ f) (h ++ b) (a ++ (f ++ (h ++ b))) (is ∙ simp append_assoc) (omega (arith, units_append a f, at, on)) (begins_append d2 (h ++ b) b2 (begins_append h b bh bb)) (simp append_assoc))
          (unless_does p (f ++ h) (a ++ (f ++ (h ++ b))) a b (simp append_assoc) at (begins_append f h bf bh) bb);
    }

-- the second begins inside the first and ends after it
sd_sd_over : (s t : Side) (p r : ℕ) (tx a f x y e : List ℕ) → tx ≡ a ++ (f ++ (x ++ (y ++ e))) → units a ≡ p → p + units f ≡ r → 0 < units x
    → IsCharStart f → IsCharStart x → IsCharStart y → IsCharStart e → ActsConverge s t (text tx) (sd p (f ++ x)) (sd r (x ++ y))
sd_sd_over s t p r tx a f x y e is at on wide bf bx by be =
    let d = f ++ x in
    let d2 = x ++ y in
    let size : units d ≡ units f + units x = units_append f x in
    let size2 : units d2 ≡ units x + units y = units_append x y in
    record {
      left = delete_unless_empty p (f ++ []);
      right = delete_unless_empty p y;
      result = text (a ++ e);
      on_left =
          rw (le_false (r + units d2) p (omega (arith, on, wide, size2)), le_false (p + units d) r (omega (arith, on, wide, size)), min_first p r (omega (arith, on)))
          (ap (λ z. delete_without_overlap p (f ++ z) (r - p) (min (units d) (r + units d2 - p))) (sym (append-nil x))
          ∙ without_is p (r - p) (min (units d) (r + units d2 - p)) f x [] (omega (arith, on)) (omega (arith, on, size, size2)) bx tt);
      on_right =
          rw (le_false (p + units d) r (omega (arith, on, wide, size)), le_false (r + units d2) p (omega (arith, on, wide, size2)), min_other p r (omega (arith, on)))
          (without_is p (p - r) (min (units d2) (p + units d - r)) [] x y (omega (arith, on)) (omega (arith, on, size, size2)) bx by);
      by_left =
          then_some (sd p d) (delete_unless_empty p y) (text tx) (text (a ++ (y ++ e))) (text (a ++ e))
          (sd_does p d tx a (y ++ e) (a ++ (y ++ e)) (is ∙ simp append_assoc) at (begins_append d (y ++ e) (begins_append f x bf bx) (begins_append y e by be)) refl)
          (unless_does p y (a ++ (y ++ e)) a e refl at by be);
      by_right =
          then_some (sd r d2) (delete_unless_empty p (f ++ [])) (text tx) (text (a ++ (f ++ e))) (text (a ++ e))
          (sd_does r d2 tx (a ++ f) e (a ++ (f ++ e)) (is ∙ simp append_assoc) (omega (arith, units_append a f, at, on)) (begins_append d2 e (begins_append x y bx by) be) (simp append_assoc))
          (unless_does p (f ++ []) (a ++ (f ++ e)) a e (ap (λ z. a ++ (z ++ e)) (sym (append-nil f))) at (begins_append f [] bf tt) be);
    }

sd_sd_at : (s t : Side) (p r : ℕ) (d d2 tx : List ℕ) → DeletedRange tx d p → DeletedRange tx d2 r → p ≤ r → ActsConverge s t (text tx) (sd p d) (sd r d2)
sd_sd_at s t p r d d2 tx k l h =
    elim (le_or_lt (p + units d) r) [
      | inl out ↦
          let b = text_between (k.front ++ d) k.rest l.front (d2 ++ l.rest) (append_assoc k.front d k.rest ∙ sym k.is ∙ l.is) (begins_append d2 l.rest l.starts l.ends) (omega (arith, k.far, l.far, units_append k.front d, out)) in
          sd_sd_apart s t p r d d2 tx k.front b.mid l.rest (k.is ∙ ap (λ z. k.front ++ (d ++ z)) b.near) k.far
          (omega (arith, k.far, l.far, ap units b.far, units_append (k.front ++ d) b.mid, units_append k.front d)) k.wide
          k.starts (begins_rest b.mid (d2 ++ l.rest) k.rest b.near k.ends) l.starts l.ends
      | inr in' ↦
          let m = text_between k.front (d ++ k.rest) l.front (d2 ++ l.rest) (sym k.is ∙ l.is) (begins_append d2 l.rest l.starts l.ends) (omega (arith, k.far, l.far, h)) in
          let n = text_between l.front (d2 ++ l.rest) (k.front ++ d) k.rest (sym l.is ∙ k.is ∙ sym (append_assoc k.front d k.rest)) k.ends (omega (arith, k.far, l.far, units_append k.front d, in')) in
          let f = m.mid in
          let is : d ≡ f ++ n.mid = same_prefix k.front d (f ++ n.mid) (n.far ∙ ap (λ z. z ++ n.mid) m.far ∙ append_assoc k.front f n.mid) in
          let on : p + units f ≡ r = omega (arith, k.far, l.far, ap units m.far, units_append k.front f) in
          let bf = begins_part f n.mid d is k.starts in
          let tx_is : tx ≡ k.front ++ (f ++ (d2 ++ l.rest)) = l.is ∙ ap (λ z. z ++ (d2 ++ l.rest)) m.far ∙ append_assoc k.front f (d2 ++ l.rest) in
          elim (le_or_lt (r + units d2) (p + units d)) [
            | inl inside ↦
                let o = text_between (l.front ++ d2) l.rest (k.front ++ d) k.rest (append_assoc l.front d2 l.rest ∙ sym l.is ∙ k.is ∙ sym (append_assoc k.front d k.rest)) k.ends (omega (arith, k.far, l.far, units_append k.front d, units_append l.front d2, inside)) in
                let x_is : n.mid ≡ d2 ++ o.mid = same_prefix l.front n.mid (d2 ++ o.mid) (sym n.far ∙ o.far ∙ append_assoc l.front d2 o.mid) in
                let d_is : d ≡ f ++ (d2 ++ o.mid) = is ∙ ap (λ z. f ++ z) x_is in
                subst (λ d. ActsConverge s t (text tx) (sd p d) (sd r d2)) (sym d_is)
                (sd_sd_inside s t p r tx k.front f d2 o.mid k.rest (tx_is ∙ ap (λ z. k.front ++ (f ++ (d2 ++ z))) o.near) k.far on l.wide bf l.starts (begins_rest o.mid k.rest l.rest o.near l.ends) k.ends)
            | inr over' ↦
                let o = text_between (k.front ++ d) k.rest (l.front ++ d2) l.rest (append_assoc k.front d k.rest ∙ sym k.is ∙ l.is ∙ sym (append_assoc l.front d2 l.rest)) l.ends (omega (arith, k.far, l.far, units_append k.front d, units_append l.front d2, over')) in
                let y_is : d2 ≡ n.mid ++ o.mid = same_prefix l.front d2 (n.mid ++ o.mid) (o.far ∙ ap (λ z. z ++ o.mid) n.far ∙ append_assoc l.front n.mid o.mid) in
                let wide : 0 < units n.mid = omega (arith, on, in', ap units is, units_append f n.mid) in
                subst (λ d. ActsConverge s t (text tx) (sd p d) (sd r d2)) (sym is)
                (subst (λ d2. ActsConverge s t (text tx) (sd p (f ++ n.mid)) (sd r d2)) (sym y_is)
                (sd_sd_over s t p r tx k.front f n.mid o.mid l.rest (tx_is ∙ ap (λ z. k.front ++ (f ++ (z ++ l.rest))) y_is ∙ ap (λ z. k.front ++ (f ++ z)) (append_assoc n.mid o.mid l.rest)) k.far on wide bf
                (begins_part n.mid o.mid d2 y_is l.starts) (begins_rest o.mid l.rest k.rest o.near k.ends) l.ends))
          ]
    ]

pub sd_sd : (s t : Side) (p r : ℕ) (d d2 tx : List ℕ) → DeletedRange tx d p → DeletedRange tx d2 r → ActsConverge s t (text tx) (sd p d) (sd r d2)
sd_sd s t p r d d2 tx k l =
    elim (le_or_lt p r) [
      | inl h ↦ sd_sd_at s t p r d d2 tx k l h
      | inr h ↦ acts_converge_symm t s (text tx) (sd r d2) (sd p d) (sd_sd_at t s r p d2 d tx l k (omega (arith, h)))
    ]

-- ---- the value that an applicable act finds

cut_there : (o : Option ℕ) (t s : List ℕ) (e : Value) → option_map text (option_map (λ i. insert_slice t i s) o) ≡ Some e → (i : ℕ) × (o ≡ Some i)
cut_there None t s e h = cc
cut_there (Some i) t s e h = (i, refl)

pub si_finds : (p : ℕ) (s t : List ℕ) (e : Value) → apply_act (si p s) (text t) ≡ Some e → (i : ℕ) × IsCutAt t p i
si_finds p s t e h = let c = cut_there (cut_at t p) t s e h in (c.0, cut_found t p c.0 (c.1))

sd_there : (o : Option ℕ) (t d : List ℕ) (e : Value) → option_map text (option_and_then (λ i. if starts_with nat_eq (drop i t) d then Some (remove_range t i (i + length d)) else None) o) ≡ Some e
    → (i : ℕ) × (o ≡ Some i) × (starts_with nat_eq (drop i t) d ≡ true)
sd_there None t d e h = cc
sd_there (Some i) t d e h = (i, refl, test_of_some (starts_with nat_eq (drop i t) d) h)
  where
    test_of_some : (b : Bool) → option_map text (if b then Some (remove_range t i (i + length d)) else None) ≡ Some e → b ≡ true
    test_of_some true h = refl
    test_of_some false h = cc

wide_begins : (b : ℕ) → 0 < utf16_width b → 128 ≤ b → 192 ≤ b
wide_begins b h k = grind (arith, nat_tests)

begins_wide : (b : ℕ) → (128 ≤ b → 192 ≤ b) → 0 < utf16_width b
begins_wide b h = grind (arith, nat_tests)

boundary_of_append : (a b : List ℕ) → IsCharStart b → IsCharBoundary (a ++ b) (length a)
boundary_of_append [] [] h = (omega arith, λ l. absurd (omega (arith, l)))
boundary_of_append [] (b ∷ bs) h = (omega arith, λ l g. wide_begins b h g)
boundary_of_append (x ∷ a) b h = let r = boundary_of_append a b h in (omega (arith, r.0), λ l g. r.1 (omega (arith, l)) g)

pub text_begins : (t : List ℕ) → IsUtf8 t → IsCharStart t
text_begins [] h = tt
text_begins (b ∷ bs) h = let r = IsCharBoundary-start (b ∷ bs) h in begins_wide b (λ g. r.1 (omega arith) g)

rest_is_text : (a b : List ℕ) → IsUtf8 (a ++ b) → IsCharStart b → IsUtf8 b
rest_is_text a b h k = subst IsUtf8 (drop_prefix a b) (IsUtf8-drop (a ++ b) (length a) h (boundary_of_append a b k))

after_is_text : (d b : List ℕ) → IsUtf8 (d ++ b) → IsUtf8 d → IsUtf8 b
after_is_text d b h k =
    let c = IsCharBoundary-from_take (d ++ b) (length d) h (omega (arith, length_append d b)) (subst IsUtf8 (sym (take_prefix d b)) k) in
    subst IsUtf8 (drop_prefix d b) (IsUtf8-drop (d ++ b) (length d) h c)

take_drop : (n : ℕ) (l : List ℕ) → l ≡ take n l ++ drop n l
take_drop zero l = refl
take_drop (suc n) [] = refl
take_drop (suc n) (x ∷ l) = ap (λ z. x ∷ z) (take_drop n l)

units_none : (d : List ℕ) → IsCharStart d → 0 < length d → 0 < units d
units_none [] h n = absurd (omega (arith, n))
units_none (b ∷ d) h n = omega (arith, h)

pub sd_finds : (p : ℕ) (d t : List ℕ) (e : Value) → IsUtf8 t → IsUtf8 d → 0 < length d → apply_act (sd p d) (text t) ≡ Some e → DeletedRange t d p
sd_finds p d t e ut ud n h =
    let c = sd_there (cut_at t p) t d e h in
    let k = cut_found t p c.0 (c.1) in
    let here : drop c.0 t ≡ k.rest = ap (drop c.0) k.is ∙ ap (λ i. drop i (k.front ++ k.rest)) (sym k.position) ∙ drop_prefix k.front k.rest in
    let same : d ≡ take (length d) (drop c.0 t) = (bytes_eq-Decides d (take (length d) (drop c.0 t))).0 (c.2) in
    let b = drop (length d) k.rest in
    let rest : k.rest ≡ d ++ b = take_drop (length d) k.rest ∙ ap (λ z. z ++ b) (sym (same ∙ ap (take (length d)) here)) in
    let u : IsUtf8 k.rest = rest_is_text k.front k.rest (subst IsUtf8 k.is ut) k.begins in
    let v : IsUtf8 b = after_is_text d b (subst IsUtf8 rest u) ud in
    let w = text_begins d ud in
    record { front = k.front; rest = b; is = k.is ∙ ap (λ z. k.front ++ z) rest; far = k.far; starts = w; wide = units_none d w n; ends = text_begins b v }

-- ---- all acts at one text

pub texts_meet : (t : List ℕ) (a b : PlainAct) (u v : Value) → IsUtf8 t → HasValidTexts a → HasValidTexts b → apply_act a (text t) ≡ Some u → apply_act b (text t) ≡ Some v
    → ActStaysInRange Left a b → ActStaysInRange Right b a → ActsConverge Left Right (text t) a b
texts_meet t (si p x) (si r y) u v ut f g h k m n = let c = si_finds p x t u h in let d = si_finds r y t v k in si_si p r c.0 d.0 x y t c.1 d.1 (text_begins x f) (text_begins y g) m n
texts_meet t (si p x) (sd r y) u v ut f g h k m n = let c = si_finds p x t u h in si_sd Left Right p r c.0 x y t c.1 (sd_finds r y t v ut g.0 g.1 k) (text_begins x f) n
texts_meet t (sd p x) (si r y) u v ut f g h k m n =
    let c = si_finds r y t v k in
    acts_converge_symm Right Left (text t) (si r y) (sd p x) (si_sd Right Left r p c.0 y x t c.1 (sd_finds p x t u ut f.0 f.1 h) (text_begins y g) m)
texts_meet t (sd p x) (sd r y) u v ut f g h k m n = sd_sd Left Right p r x y t (sd_finds p x t u ut f.0 f.1 h) (sd_finds r y t v ut g.0 g.1 k)
texts_meet t (si p x) (na q) u v ut f g h k m n = cc
texts_meet t (si p x) (li j z) u v ut f g h k m n = cc
texts_meet t (si p x) (ld j z) u v ut f g h k m n = cc
texts_meet t (si p x) (lr j z w) u v ut f g h k m n = cc
texts_meet t (si p x) (oi l z) u v ut f g h k m n = cc
texts_meet t (si p x) (od l z) u v ut f g h k m n = cc
texts_meet t (si p x) (or l z q) u v ut f g h k m n = cc
texts_meet t (sd p x) (na q) u v ut f g h k m n = cc
texts_meet t (sd p x) (li j z) u v ut f g h k m n = cc
texts_meet t (sd p x) (ld j z) u v ut f g h k m n = cc
texts_meet t (sd p x) (lr j z w) u v ut f g h k m n = cc
texts_meet t (sd p x) (oi l z) u v ut f g h k m n = cc
texts_meet t (sd p x) (od l z) u v ut f g h k m n = cc
texts_meet t (sd p x) (or l z q) u v ut f g h k m n = cc
texts_meet t (na q) b u v ut f g h k m n = cc
texts_meet t (li i x) b u v ut f g h k m n = cc
texts_meet t (ld i x) b u v ut f g h k m n = cc
texts_meet t (lr i x y) b u v ut f g h k m n = cc
texts_meet t (oi key x) b u v ut f g h k m n = cc
texts_meet t (od key x) b u v ut f g h k m n = cc
texts_meet t (or key x y) b u v ut f g h k m n = cc
