-- Convergence of concurrent components, from their containers to any path.
use Rattle.std.proofs.Common.{◌≡◌, ℕ, zero, suc, ℤ, ◌+ℤ◌, List, [], ◌∷◌, ◌++◌, map, Option, Some, None, option_map, option_and_then, Bool, true, false, ◌⊎◌, inl, inr, IsSome, refl, sym, ap, ◌∙◌, subst, append_assoc, append-nil, true≢false}
use Rattle.std.specs.Prelude.{if◌then◌else◌}
use Rattle.std.specs.Option.{option_map_or}
use Rattle.sdb_value.specs.Value.{Value, null, truth, whole, text, list, object, Items, no_items, item, Members, no_members, member, PlainStep, key, index, item_at, member_at, texts_equal, steps_equal, child, with_child, value_at, with_value_at}
use Rattle.sdb_value.specs.laws.PathLaws.{at_append}
use Rattle.sdb_value.specs.Disjoint.{AreDisjointPaths}
use Rattle.sdb_value.specs.FromJson.{checked_whole}
use Rattle.sdb_value.specs.WellFormed.{IsWellFormed, AreWellFormed, MembersWellFormed}
use Rattle.sdb_value.proofs.DisjointLemmas.{equal_steps, step_itself, at_step, with_step}
use Rattle.sdb_component.specs.Plain.{PlainAct, na, si, sd, li, ld, lr, oi, od, or, PlainComponent}
use Rattle.sdb_apply.specs.Apply.{apply_act, apply_one, apply}
use Rattle.sdb_apply.specs.ApplyLaws.{with_path_prefix}
use Rattle.sdb_apply.proofs.ChangeLemmas.{has_effect, does_is, changes_apart, changes_under}
use Rattle.sdb_transform.specs.declared.side.Side.{Side}
use Rattle.sdb_transform.specs.declared.side.Side.TheVariants.{Left, Right}
use Rattle.sdb_transform.specs.Transform.{strip_prefix, transform_act, transform_step, removed_step, map_removed, updated_value, component_at, transform, transform_below, with_moved_step, update_removed, strip_removed_path}
use Rattle.sdb_transform.specs.Convergence.{HasExpectedKey, HasValidTexts, WellMade, ActStaysInRange, StepStaysInRange, SuffixStaysInRange, StaysInRange, ConcurrentPair, Converges, SumOverflows, ConvergesOrOverflows}
use Rattle.sdb_transform.proofs.PrefixLemmas.{behind_is}
use Rattle.sdb_transform.proofs.ConvergeActs.{apply_acts, ActsConverge}
use Rattle.sdb_transform.proofs.ConvergeLists.{lists_meet}
use Rattle.sdb_transform.proofs.ConvergeTexts.{texts_meet}
use Rattle.sdb_transform.proofs.ConvergeObjects.{objects_meet, sorted_of_formed}
use Rattle.sdb_transform.proofs.ConvergeNumbers.{numbers_meet}
use Rattle.sdb_transform.proofs.ConvergeBelow.{ShiftsStep, DropsStep, shifts_or_drops, sorted_here}

-- ---- two equal results

pub agrees_turned : (s t : Side) (d : Value) (a b : PlainComponent) → Converges s t d a b → Converges t s d b a
agrees_turned s t d a b m = record {
  left = m.right;
  right = m.left;
  result = m.result;
  on_left = m.on_right;
  on_right = m.on_left;
  by_left = m.by_right;
  by_right = m.by_left;
}

meeting_turned : (s t : Side) (d : Value) (a b : PlainComponent) → ConcurrentPair s t d a b → ConcurrentPair t s d b a
meeting_turned s t d a b m = record {
  formed = m.formed;
  a_texts = m.b_texts;
  b_texts = m.a_texts;
  a_made = m.b_made;
  b_made = m.a_made;
  a_fits = m.b_fits;
  b_fits = m.a_fits;
}

some_is : (o : Option Value) (v : Value) → o ≡ Some v → IsSome o
some_is None v e = cc
some_is (Some x) v e = refl

pub agrees_meet : (d : Value) (a b : PlainComponent) → Converges Left Right d a b → ConvergesOrOverflows d a b
agrees_meet d a b m = record {
  left = m.left;
  right = m.right;
  on_left = m.on_left;
  on_right = m.on_right;
  equal = m.by_left ∙ sym m.by_right;
  ends = inl (some_is (apply (a ∷ m.right) d) m.result m.by_left);
}

do_one : (a : PlainComponent) (d e : Value) → apply_one a d ≡ Some e → apply (a ∷ []) d ≡ Some e
do_one a d e h = ap (option_and_then (apply [])) h

do_two : (a b : PlainComponent) (d e f : Value) → apply_one a d ≡ Some e → apply_one b e ≡ Some f → apply (a ∷ b ∷ []) d ≡ Some f
do_two a b d e f h k = ap (option_and_then (apply (b ∷ []))) h ∙ do_one b e f k

same_value : (a b : Value) → Some a ≡ Some b → a ≡ b
same_value a b e = cc

-- ---- one component at its path

-- the act applies to u, and its key and texts are as required
pub record ActApplies (x : PlainAct) (u : Value) : Type 0 where
  pub after : Value
  pub changed : apply_act x u ≡ Some after
  pub key : HasExpectedKey x u
  pub texts : HasValidTexts x

stands_at : (p : List PlainStep) (x : PlainAct) (d u : Value) → value_at d p ≡ Some u → WellMade (component_at p x) d → HasValidTexts x → ActApplies x u
stands_at p x d u is w t =
    let same : w.position ≡ u = same_value w.position u (sym w.found ∙ is) in
    let e = has_effect (apply_act x u) (with_value_at d p) w.result (sym (ap (option_and_then (λ u. option_map (with_value_at d p) (apply_act x u))) is) ∙ w.accepted) in
    record { after = e.0; changed = e.1; key = subst (HasExpectedKey x) same w.key; texts = t }

-- ---- values at paths

item_formed : (i : ℕ) (ds : Items) (c : Value) → AreWellFormed ds → item_at i ds ≡ Some c → IsWellFormed c
item_formed i no_items c w e = cc
item_formed zero (item d ds) c w e = let s : d ≡ c = cc in subst IsWellFormed s w.0
item_formed (suc i) (item d ds) c w e = item_formed i ds c w.1 e

member_formed_at : (b : Bool) (d c : Value) (o : Option Value) → IsWellFormed d → (if b then Some d else o) ≡ Some c → (o ≡ Some c → IsWellFormed c) → IsWellFormed c
member_formed_at true d c o w e transform_below = let s : d ≡ c = cc in subst IsWellFormed s w
member_formed_at false d c o w e transform_below = transform_below e

member_formed : (k : List ℕ) (ms : Members) (c : Value) → MembersWellFormed ms → member_at k ms ≡ Some c → IsWellFormed c
member_formed k no_members c w e = cc
member_formed k (member l d ms) c w e = member_formed_at (texts_equal k l) d c (member_at k ms) w.1 e (member_formed k ms c w.3)

one_formed : (s : PlainStep) (d c : Value) → IsWellFormed d → child s d ≡ Some c → IsWellFormed c
one_formed (index i) (list ds) c w e = item_formed i ds c w e
one_formed (key k) (object ms) c w e = member_formed k ms c w e
one_formed (index t0) null c w e = cc
one_formed (index t0) (truth b0) c w e = cc
one_formed (index t0) (whole b0) c w e = cc
one_formed (index t0) (text b0) c w e = cc
one_formed (index t0) (object b0) c w e = cc
one_formed (key t0) null c w e = cc
one_formed (key t0) (truth b0) c w e = cc
one_formed (key t0) (whole b0) c w e = cc
one_formed (key t0) (text b0) c w e = cc
one_formed (key t0) (list b0) c w e = cc

step_there : (o : Option Value) (q : List PlainStep) (u : Value) → option_and_then (λ c. value_at c q) o ≡ Some u → (c : Value) × (o ≡ Some c) × (value_at c q ≡ Some u)
step_there None q u e = cc
step_there (Some c) q u e = (c, refl, e)

-- a value inside a well-formed value is well formed
at_formed : (p : List PlainStep) (d u : Value) → IsWellFormed d → value_at d p ≡ Some u → IsWellFormed u
at_formed [] d u w e = subst IsWellFormed (same_value d u e) w
at_formed (s ∷ p) d u w e = let c = step_there (child s d) p u e in at_formed p c.0 u (one_formed s d c.0 w c.1) c.2

-- ---- inside a common prefix

pub after_prefix : (s : PlainStep) (p q : List PlainStep) → strip_prefix (s ∷ p) (s ∷ q) ≡ strip_prefix p q
after_prefix s p q = rw (step_itself s)

after_under : (p q r : List PlainStep) → strip_prefix (p ++ q) (p ++ r) ≡ strip_prefix q r
after_under [] q r = refl
after_under (s ∷ p) q r = after_prefix s (p ++ q) (p ++ r) ∙ after_under p q r

pub after_rest : (p r : List PlainStep) → strip_prefix p (p ++ r) ≡ Some r
after_rest [] r = refl
after_rest (s ∷ p) r = after_prefix s p (p ++ r) ∙ after_rest p r

onto_acts : (p q : List PlainStep) (o : Option (List PlainAct)) → option_map (map (component_at (p ++ q))) o ≡ option_map (map (with_path_prefix p)) (option_map (map (component_at q)) o)
onto_acts p q None = refl
onto_acts p q (Some xs) = ap Some (map_component_at xs)
  where
    map_component_at : (xs : List PlainAct) → map (component_at (p ++ q)) xs ≡ map (with_path_prefix p) (map (component_at q) xs)
    map_component_at [] = refl
    map_component_at (x ∷ xs) = ap (λ l. component_at (p ++ q) x ∷ l) (map_component_at xs)

onto_moved : (p q r rest : List PlainStep) (x y : PlainAct) (o : Option (Option PlainStep))
    → option_map (with_moved_step (component_at (p ++ q) x) (component_at (p ++ r) y) rest) o ≡ option_map (map (with_path_prefix p)) (option_map (with_moved_step (component_at q x) (component_at r y) rest) o)
onto_moved p q r rest x y None = refl
onto_moved p q r rest x y (Some None) = refl
onto_moved p q r rest x y (Some (Some v)) = ap (λ l. Some (component_at l x ∷ [])) (append_assoc p r (v ∷ rest))

onto_above : (p q r : List PlainStep) (x y : PlainAct) (u : Option (List PlainStep)) → update_removed (component_at (p ++ q) x) (component_at (p ++ r) y) u ≡ map (with_path_prefix p) (update_removed (component_at q x) (component_at r y) u)
onto_above p q r x y None = refl
onto_above p q r x y (Some rest) = refl

onto_all : (side : Side) (p q r : List PlainStep) (x y : PlainAct) (l u : Option (List PlainStep))
    → option_map_or (transform_below side (component_at (p ++ q) x) (component_at (p ++ r) y)) l (Some (update_removed (component_at (p ++ q) x) (component_at (p ++ r) y) u))
    ≡ option_map (map (with_path_prefix p)) (option_map_or (transform_below side (component_at q x) (component_at r y)) l (Some (update_removed (component_at q x) (component_at r y) u)))
onto_all side p q r x y None u = ap Some (onto_above p q r x y u)
onto_all side p q r x y (Some []) u = onto_acts p q (transform_act side x y)
onto_all side p q r x y (Some (w ∷ rest)) u = onto_moved p q r rest x y (transform_step y w)

-- the transform of two components is that of their rests after the prefix
pub transform_under : (side : Side) (p q r : List PlainStep) (x y : PlainAct)
    → transform side (component_at (p ++ q) x) (component_at (p ++ r) y) ≡ option_map (map (with_path_prefix p)) (transform side (component_at q x) (component_at r y))
transform_under side p q r x y =
    ap (λ l. option_map_or (transform_below side (component_at (p ++ q) x) (component_at (p ++ r) y)) l (Some (update_removed (component_at (p ++ q) x) (component_at (p ++ r) y) (strip_removed_path (component_at (p ++ q) x) (p ++ r))))) (after_under p r q)
    ∙ ap (λ l. option_map_or (transform_below side (component_at (p ++ q) x) (component_at (p ++ r) y)) (strip_prefix r q) (Some (update_removed (component_at (p ++ q) x) (component_at (p ++ r) y) (option_and_then (λ w. option_and_then (strip_prefix (w ∷ [])) l) (removed_step x))))) (after_under p q r)
    ∙ onto_all side p q r x y (strip_prefix r q) (strip_removed_path (component_at q x) r)

agrees_under : (s t : Side) (p q r : List PlainStep) (x y : PlainAct) (d u : Value) → value_at d p ≡ Some u → Converges s t u (component_at q x) (component_at r y)
    → Converges s t d (component_at (p ++ q) x) (component_at (p ++ r) y)
agrees_under s t p q r x y d u h m = record {
  left = map (with_path_prefix p) m.left;
  right = map (with_path_prefix p) m.right;
  result = with_value_at d p m.result;
  on_left = transform_under s p q r x y ∙ ap (option_map (map (with_path_prefix p))) m.on_left;
  on_right = transform_under t p r q y x ∙ ap (option_map (map (with_path_prefix p))) m.on_right;
  by_left = changes_under p (component_at q x ∷ m.right) d u h ∙ ap (option_map (with_value_at d p)) m.by_left;
  by_right = changes_under p (component_at r y ∷ m.left) d u h ∙ ap (option_map (with_value_at d p)) m.by_right;
}

ends_under : (p q r : List PlainStep) (x y : PlainAct) (d u : Value) (o : Option Value) → value_at d p ≡ Some u → IsSome o ⊎ SumOverflows u (component_at q x) (component_at r y)
    → IsSome (option_map (with_value_at d p) o) ⊎ SumOverflows d (component_at (p ++ q) x) (component_at (p ++ r) y)
ends_under p q r x y d u (Some v) h (inl k) = inl refl
ends_under p q r x y d u None h (inl k) = cc
ends_under p q r x y d u o h (inr k) = inr (record {
  number = k.number;
  x = k.x;
  y = k.y;
  same = ap (λ l. p ++ l) k.same;
  first = k.first;
  second = k.second;
  found = at_append d p q ∙ ap (option_and_then (λ c. value_at c q)) h ∙ k.found;
  leaves = k.leaves;
})

meets_under : (p q r : List PlainStep) (x y : PlainAct) (d u : Value) → value_at d p ≡ Some u → ConvergesOrOverflows u (component_at q x) (component_at r y) → ConvergesOrOverflows d (component_at (p ++ q) x) (component_at (p ++ r) y)
meets_under p q r x y d u h m =
    let by_a = changes_under p (component_at q x ∷ m.right) d u h in
    let by_b = changes_under p (component_at r y ∷ m.left) d u h in
    record {
      left = map (with_path_prefix p) m.left;
      right = map (with_path_prefix p) m.right;
      on_left = transform_under Left p q r x y ∙ ap (option_map (map (with_path_prefix p))) m.on_left;
      on_right = transform_under Right p r q y x ∙ ap (option_map (map (with_path_prefix p))) m.on_right;
      equal = by_a ∙ ap (option_map (with_value_at d p)) m.equal ∙ sym by_b;
      ends = subst (λ o. IsSome o ⊎ SumOverflows d (component_at (p ++ q) x) (component_at (p ++ r) y)) (sym by_a) (ends_under p q r x y d u (apply (component_at q x ∷ m.right) u) h m.ends);
    }

-- ---- disjoint paths

prefix_apart : (p q : List PlainStep) (o : Option (List PlainStep)) → strip_prefix p q ≡ o → ((rest : List PlainStep) → p ++ rest ≡ q → ⊥) → o ≡ None
prefix_apart p q None e h = refl
prefix_apart p q (Some rest) e h = absurd (h rest (sym (behind_is p q rest e)))

under_none : (o : Option PlainStep) → option_and_then (λ s. option_and_then (strip_prefix (s ∷ [])) None) o ≡ None
under_none None = refl
under_none (Some s) = refl

pub stays_apart : (side : Side) (a b : PlainComponent) → AreDisjointPaths a.path b.path → transform side a b ≡ Some (a ∷ [])
stays_apart side a b h =
    ap (λ r. option_map_or (transform_below side a b) r (Some (update_removed a b (strip_removed_path a b.path)))) (prefix_apart b.path a.path (strip_prefix b.path a.path) refl h.not_extension)
    ∙ ap (λ r. Some (update_removed a b r)) (ap (λ r. option_and_then (λ s. option_and_then (strip_prefix (s ∷ [])) r) (removed_step a.act)) (prefix_apart a.path b.path (strip_prefix a.path b.path) refl h.not_prefix) ∙ under_none (removed_step a.act))

pub apart_meet : (s t : Side) (d : Value) (a b : PlainComponent) → ConcurrentPair s t d a b → AreDisjointPaths a.path b.path → Converges s t d a b
apart_meet s t d a b m h =
    let c = changes_apart a b d m.a_made.result m.b_made.result h m.a_made.accepted m.b_made.accepted in
    record {
      left = a ∷ [];
      right = b ∷ [];
      result = c.0;
      on_left = stays_apart s a b h;
      on_right = stays_apart t b a (record { not_prefix = h.not_extension; not_extension = h.not_prefix });
      by_left = do_two a b d m.a_made.result c.0 m.a_made.accepted c.1;
      by_right = do_two b a d m.b_made.result c.0 m.b_made.accepted c.2;
    }

-- ---- one path inside the other

does_here : (x : PlainAct) (d : Value) → apply_one (component_at [] x) d ≡ apply_act x d
does_here x d = with_root (apply_act x d)
  where
    with_root : (o : Option Value) → option_map (with_value_at d []) o ≡ o
    with_root None = refl
    with_root (Some v) = refl

-- an act inside a step
does_step : (s : PlainStep) (q : List PlainStep) (y : PlainAct) (d c u u1 : Value) → child s d ≡ Some c → value_at c q ≡ Some u → apply_act y u ≡ Some u1
    → apply_one (component_at (s ∷ q) y) d ≡ Some (with_child s d (with_value_at c q u1))
does_step s q y d c u u1 e f g = does_is (component_at (s ∷ q) y) d u u1 (at_step s q d c e ∙ f) g ∙ ap Some (with_step s q d c u1 e)

under_shifts : (s t : Side) (x y : PlainAct) (w : PlainStep) (q : List PlainStep) (d d1 c u u1 : Value) → apply_act x d ≡ Some d1 → child w d ≡ Some c → value_at c q ≡ Some u → apply_act y u ≡ Some u1
    → ShiftsStep x w d d1 c → Converges s t d (component_at [] x) (component_at (w ∷ q) y)
under_shifts s t x y w q d d1 c u u1 e f g h m =
    let e1 = with_child w d (with_value_at c q u1) in
    let end = with_child m.to d1 (with_value_at c q u1) in
    record {
      left = component_at [] x ∷ [];
      right = component_at (m.to ∷ q) y ∷ [];
      result = end;
      on_left = ap (λ r. Some (update_removed (component_at [] x) (component_at (w ∷ q) y) r)) (m.kept q);
      on_right = ap (option_map (with_moved_step (component_at (w ∷ q) y) (component_at [] x) q)) m.step;
      by_left = do_two (component_at [] x) (component_at (m.to ∷ q) y) d d1 end (does_here x d ∙ e) (does_step m.to q y d1 c u u1 m.there g h);
      by_right = do_two (component_at (w ∷ q) y) (component_at [] x) d e1 end (does_step w q y d c u u1 f g h) (does_here x e1 ∙ m.carries (with_value_at c q u1));
    }

under_drops : (s t : Side) (x y : PlainAct) (w : PlainStep) (q : List PlainStep) (d d1 c u u1 : Value) → apply_act x d ≡ Some d1 → child w d ≡ Some c → value_at c q ≡ Some u → apply_act y u ≡ Some u1
    → DropsStep x w d d1 → Converges s t d (component_at [] x) (component_at (w ∷ q) y)
under_drops s t x y w q d d1 c u u1 e f g h m =
    let up = updated_value (component_at q y) in
    let e1 = with_child w d (with_value_at c q u1) in
    record {
      left = component_at [] (map_removed up x) ∷ [];
      right = [];
      result = d1;
      on_left = ap (λ r. Some (update_removed (component_at [] x) (component_at (w ∷ q) y) r)) (m.under q);
      on_right = ap (option_map (with_moved_step (component_at (w ∷ q) y) (component_at [] x) q)) m.step;
      by_left = do_one (component_at [] x) d d1 (does_here x d ∙ e);
      by_right =
          do_two (component_at (w ∷ q) y) (component_at [] (map_removed up x)) d e1 d1 (does_step w q y d c u u1 f g h)
          (does_here (map_removed up x) e1 ∙ m.loses up (with_value_at c q u1));
    }

under_here : (s t : Side) (x y : PlainAct) (w : PlainStep) (q : List PlainStep) (d u : Value) → IsWellFormed d → ActApplies x d → value_at d (w ∷ q) ≡ Some u → ActApplies y u → StepStaysInRange x w
    → Converges s t d (component_at [] x) (component_at (w ∷ q) y)
under_here s t x y w q d u wf a is b m =
    let c = step_there (child w d) q u is in
    elim (shifts_or_drops x w d a.after c.0 (sorted_here d wf) a.key m a.changed c.1) [
      | inl h ↦ under_shifts s t x y w q d a.after c.0 u b.after a.changed c.1 c.2 b.changed h
      | inr h ↦ under_drops s t x y w q d a.after c.0 u b.after a.changed c.1 c.2 b.changed h
    ]

pub step_fits : (side : Side) (c o : PlainComponent) (s : PlainStep) (rest : List PlainStep) → strip_prefix o.path c.path ≡ Some (s ∷ rest) → StaysInRange side c o → StepStaysInRange o.act s
step_fits side c o s rest e f = subst (SuffixStaysInRange side c o) e f

-- the first at p, the second inside p
under_at : (s t : Side) (p q : List PlainStep) (w : PlainStep) (x y : PlainAct) (d : Value) → ConcurrentPair s t d (component_at p x) (component_at (p ++ w ∷ q) y)
    → Converges s t d (component_at p x) (component_at (p ++ w ∷ q) y)
under_at s t p q w x y d m =
    let u = m.a_made.position in
    let is : value_at d p ≡ Some u = m.a_made.found in
    let v = m.b_made.position in
    let deep : value_at u (w ∷ q) ≡ Some v = sym (at_append d p (w ∷ q) ∙ ap (option_and_then (λ c. value_at c (w ∷ q))) is) ∙ m.b_made.found in
    let a = stands_at p x d u is m.a_made m.a_texts in
    let b = stands_at (p ++ w ∷ q) y d v m.b_made.found m.b_made m.b_texts in
    let fits : StepStaysInRange x w = step_fits t (component_at (p ++ w ∷ q) y) (component_at p x) w q (after_rest p (w ∷ q)) m.b_fits in
    let here = under_here s t x y w q u v (at_formed p d u m.formed is) a deep b fits in
    subst (λ l. Converges s t d (component_at l x) (component_at (p ++ w ∷ q) y)) (append-nil p) (agrees_under s t p [] (w ∷ q) x y d u is here)

pub under_meet : (s t : Side) (d : Value) (a b : PlainComponent) (w : PlainStep) (rest : List PlainStep) → ConcurrentPair s t d a b → b.path ≡ a.path ++ w ∷ rest → Converges s t d a b
under_meet s t d a b w rest m e =
    subst (λ l. Converges s t d a (component_at l b.act)) (sym e)
    (under_at s t a.path rest w a.act b.act d (subst (λ l. ConcurrentPair s t d a (component_at l b.act)) e m))

-- ---- one container

each_here : (o : Option Value) (xs : List PlainAct) → ((e : Value) → apply (map (component_at []) xs) e ≡ apply_acts xs e)
    → option_and_then (apply (map (component_at []) xs)) o ≡ option_and_then (apply_acts xs) o
each_here None xs h = refl
each_here (Some e) xs h = h e

applies_here : (xs : List PlainAct) (d : Value) → apply (map (component_at []) xs) d ≡ apply_acts xs d
applies_here [] d = refl
applies_here (x ∷ xs) d = ap (option_and_then (apply (map (component_at []) xs))) (does_here x d) ∙ each_here (apply_act x d) xs (λ e. applies_here xs e)

converge_at_root : (s t : Side) (d : Value) (x y : PlainAct) → ActsConverge s t d x y → Converges s t d (component_at [] x) (component_at [] y)
converge_at_root s t d x y m = record {
  left = map (component_at []) m.left;
  right = map (component_at []) m.right;
  result = m.result;
  on_left = ap (option_map (map (component_at []))) m.on_left;
  on_right = ap (option_map (map (component_at []))) m.on_right;
  by_left = applies_here (x ∷ m.right) d ∙ m.by_left;
  by_right = applies_here (y ∷ m.left) d ∙ m.by_right;
}

-- both apply to the value at one path
pub record BothApply (x y : PlainAct) (u : Value) : Type 0 where
  pub formed : IsWellFormed u
  pub a : ActApplies x u
  pub b : ActApplies y u
  pub a_fits : ActStaysInRange Left x y
  pub b_fits : ActStaysInRange Right y x

pub act_fits : (side : Side) (p : List PlainStep) (x y : PlainAct) → StaysInRange side (component_at p x) (component_at p y) → ActStaysInRange side x y
act_fits side p x y f =
    subst (SuffixStaysInRange side (component_at p x) (component_at p y)) (ap (strip_prefix p) (sym (append-nil p)) ∙ after_rest p []) f

both_at : (p : List PlainStep) (x y : PlainAct) (d u : Value) → ConcurrentPair Left Right d (component_at p x) (component_at p y) → value_at d p ≡ Some u → BothApply x y u
both_at p x y d u m is = record {
  formed = at_formed p d u m.formed is;
  a = stands_at p x d u is m.a_made m.a_texts;
  b = stands_at p y d u is m.b_made m.b_texts;
  a_fits = act_fits Left p x y m.a_fits;
  b_fits = act_fits Right p y x m.b_fits;
}

-- convergence of acts at one container gives that of components at any path
agrees_at : (d u : Value) (a b : PlainComponent) → ConcurrentPair Left Right d a b → a.path ≡ b.path → value_at d a.path ≡ Some u
    → (BothApply a.act b.act u → ActsConverge Left Right u a.act b.act) → Converges Left Right d a b
agrees_at d u a b m e is meet =
    let p = a.path in
    let both = both_at p a.act b.act d u (subst (λ l. ConcurrentPair Left Right d a (component_at l b.act)) (sym e) m) is in
    subst (λ l. Converges Left Right d a (component_at l b.act)) e
    (subst (λ l. Converges Left Right d (component_at l a.act) (component_at l b.act)) (append-nil p)
    (agrees_under Left Right p [] [] a.act b.act d u is (converge_at_root Left Right u a.act b.act (meet both))))

pub lists_agree : (d : Value) (a b : PlainComponent) (items : Items) → ConcurrentPair Left Right d a b → a.path ≡ b.path → value_at d a.path ≡ Some (list items) → Converges Left Right d a b
lists_agree d a b items m e is =
    agrees_at d (list items) a b m e is
    (λ h. lists_meet items a.act b.act h.a.after h.b.after h.a.changed h.b.changed h.a_fits h.b_fits)

pub objects_agree : (d : Value) (a b : PlainComponent) (members : Members) → ConcurrentPair Left Right d a b → a.path ≡ b.path → value_at d a.path ≡ Some (object members) → Converges Left Right d a b
objects_agree d a b members m e is =
    agrees_at d (object members) a b m e is
    (λ h. objects_meet members a.act b.act h.a.after h.b.after (sorted_of_formed members h.formed) h.a.key h.b.key h.a.changed h.b.changed)

pub texts_agree : (d : Value) (a b : PlainComponent) (bytes : List ℕ) → ConcurrentPair Left Right d a b → a.path ≡ b.path → value_at d a.path ≡ Some (text bytes) → Converges Left Right d a b
texts_agree d a b bytes m e is =
    agrees_at d (text bytes) a b m e is
    (λ h. texts_meet bytes a.act b.act h.a.after h.b.after h.formed h.a.texts h.b.texts h.a.changed h.b.changed h.a_fits h.b_fits)

-- ---- numbers

abbrev SumEquality : Option Value → Value → PlainComponent → PlainComponent → Type 0
SumEquality o d a b = IsSome o ⊎ SumOverflows d a b

numbers_end : (o : Option ℤ) (n x y : ℤ) → checked_whole ((n +ℤ x) +ℤ y) ≡ o
    → SumEquality (option_map whole o) (whole n) (component_at [] (na x)) (component_at [] (na y))
numbers_end (Some z) n x y e = inl refl
numbers_end None n x y e = inr (record { number = n; x = x; y = y; same = refl; first = refl; second = refl; found = refl; leaves = e })

numbers_here : (n x y : ℤ) (u v : Value) → apply_act (na x) (whole n) ≡ Some u → apply_act (na y) (whole n) ≡ Some v → ConvergesOrOverflows (whole n) (component_at [] (na x)) (component_at [] (na y))
numbers_here n x y u v e f =
    let m = numbers_meet n x y u v e f in
    let a = applies_here (na x ∷ na y ∷ []) (whole n) ∙ m.0 in
    let b = applies_here (na y ∷ na x ∷ []) (whole n) ∙ m.1 in
    record {
      left = component_at [] (na x) ∷ [];
      right = component_at [] (na y) ∷ [];
      on_left = refl;
      on_right = refl;
      equal = a ∙ sym b;
      ends = subst (λ o. SumEquality o (whole n) (component_at [] (na x)) (component_at [] (na y))) (sym a) (numbers_end (checked_whole ((n +ℤ x) +ℤ y)) n x y refl);
    }

acts_at_number : (n : ℤ) (x y : PlainAct) (u v : Value) → apply_act x (whole n) ≡ Some u → apply_act y (whole n) ≡ Some v → ConvergesOrOverflows (whole n) (component_at [] x) (component_at [] y)
acts_at_number n (na x) (na y) u v e f = numbers_here n x y u v e f
acts_at_number n (na x) (si a0 a1) u v e f = cc
acts_at_number n (na x) (sd a0 a1) u v e f = cc
acts_at_number n (na x) (li a0 a1) u v e f = cc
acts_at_number n (na x) (ld a0 a1) u v e f = cc
acts_at_number n (na x) (lr a0 a1 a2) u v e f = cc
acts_at_number n (na x) (oi a0 a1) u v e f = cc
acts_at_number n (na x) (od a0 a1) u v e f = cc
acts_at_number n (na x) (or a0 a1 a2) u v e f = cc
acts_at_number n (si a0 a1) y u v e f = cc
acts_at_number n (sd a0 a1) y u v e f = cc
acts_at_number n (li a0 a1) y u v e f = cc
acts_at_number n (ld a0 a1) y u v e f = cc
acts_at_number n (lr a0 a1 a2) y u v e f = cc
acts_at_number n (oi a0 a1) y u v e f = cc
acts_at_number n (od a0 a1) y u v e f = cc
acts_at_number n (or a0 a1 a2) y u v e f = cc

pub numbers_agree : (d : Value) (a b : PlainComponent) (number : ℤ) → ConcurrentPair Left Right d a b → a.path ≡ b.path → value_at d a.path ≡ Some (whole number) → ConvergesOrOverflows d a b
numbers_agree d a b number m e is =
    let p = a.path in
    let h = both_at p a.act b.act d (whole number) (subst (λ l. ConcurrentPair Left Right d a (component_at l b.act)) (sym e) m) is in
    subst (λ l. ConvergesOrOverflows d a (component_at l b.act)) e
    (subst (λ l. ConvergesOrOverflows d (component_at l a.act) (component_at l b.act)) (append-nil p)
    (meets_under p [] [] a.act b.act d (whole number) is (acts_at_number number a.act b.act h.a.after h.b.after h.a.changed h.b.changed)))

-- ---- the law

-- no act applies to null or a boolean
not_null : {G : Type 0} (x : PlainAct) (u : Value) → apply_act x null ≡ Some u → G
not_null (na a0) u e = cc
not_null (si a0 a1) u e = cc
not_null (sd a0 a1) u e = cc
not_null (li a0 a1) u e = cc
not_null (ld a0 a1) u e = cc
not_null (lr a0 a1 a2) u e = cc
not_null (oi a0 a1) u e = cc
not_null (od a0 a1) u e = cc
not_null (or a0 a1 a2) u e = cc

not_truth : {G : Type 0} (b : Bool) (x : PlainAct) (u : Value) → apply_act x (truth b) ≡ Some u → G
not_truth b (na a0) u e = cc
not_truth b (si a0 a1) u e = cc
not_truth b (sd a0 a1) u e = cc
not_truth b (li a0 a1) u e = cc
not_truth b (ld a0 a1) u e = cc
not_truth b (lr a0 a1 a2) u e = cc
not_truth b (oi a0 a1) u e = cc
not_truth b (od a0 a1) u e = cc
not_truth b (or a0 a1 a2) u e = cc

-- at one path, by the kind of its value
same_meet : (u d : Value) (a b : PlainComponent) → ConcurrentPair Left Right d a b → a.path ≡ b.path → value_at d a.path ≡ Some u → ConvergesOrOverflows d a b
same_meet null d a b m e is = let h = stands_at a.path a.act d null is m.a_made m.a_texts in not_null a.act h.after h.changed
same_meet (truth x) d a b m e is = let h = stands_at a.path a.act d (truth x) is m.a_made m.a_texts in not_truth x a.act h.after h.changed
same_meet (whole n) d a b m e is = numbers_agree d a b n m e is
same_meet (text t) d a b m e is = agrees_meet d a b (texts_agree d a b t m e is)
same_meet (list ds) d a b m e is = agrees_meet d a b (lists_agree d a b ds m e is)
same_meet (object ms) d a b m e is = agrees_meet d a b (objects_agree d a b ms m e is)

-- p is a prefix of q
pub record PathExtends (p q : List PlainStep) : Type 0 where
  pub step : PlainStep
  pub rest : List PlainStep
  pub is : q ≡ p ++ step ∷ rest

abbrev pub PathRelation : List PlainStep → List PlainStep → Type 0
PathRelation p q = AreDisjointPaths p q ⊎ ((p ≡ q) ⊎ (PathExtends p q ⊎ PathExtends q p))

further_below : (s : PlainStep) (p q : List PlainStep) → PathExtends p q → PathExtends (s ∷ p) (s ∷ q)
further_below s p q h = record { step = h.step; rest = h.rest; is = ap (λ l. s ∷ l) h.is }

paths_below : (s : PlainStep) (p q : List PlainStep) → PathRelation p q → PathRelation (s ∷ p) (s ∷ q)
paths_below s p q (inl h) = inl (record {
  not_prefix = λ r e. h.not_prefix r (let f : p ++ r ≡ q = cc in f);
  not_extension = λ r e. h.not_extension r (let f : q ++ r ≡ p = cc in f);
})
paths_below s p q (inr (inl h)) = inr (inl (ap (λ l. s ∷ l) h))
paths_below s p q (inr (inr (inl h))) = inr (inr (inl (further_below s p q h)))
paths_below s p q (inr (inr (inr h))) = inr (inr (inr (further_below s q p h)))

other_steps : (s t : PlainStep) (p q : List PlainStep) → steps_equal s t ≡ false → s ∷ p ≡ t ∷ q → ⊥
other_steps s t p q n e = let st : s ≡ t = cc in true≢false (sym (step_itself s) ∙ ap (steps_equal s) st ∙ n)

paths_at : (b : Bool) (s t : PlainStep) (p q : List PlainStep) → steps_equal s t ≡ b → PathRelation p q → PathRelation (s ∷ p) (t ∷ q)
paths_at true s t p q e transform_below = subst (λ t. PathRelation (s ∷ p) (t ∷ q)) (equal_steps s t e) (paths_below s p q transform_below)
paths_at false s t p q e transform_below = inl (record {
  not_prefix = λ r f. other_steps s t (p ++ r) q e f;
  not_extension = λ r f. other_steps s t p (q ++ r) e (sym f);
})

pub path_relation : (p q : List PlainStep) → PathRelation p q
path_relation [] [] = inr (inl refl)
path_relation [] (t ∷ q) = inr (inr (inl (record { step = t; rest = q; is = refl })))
path_relation (s ∷ p) [] = inr (inr (inr (record { step = s; rest = p; is = refl })))
path_relation (s ∷ p) (t ∷ q) = paths_at (steps_equal s t) s t p q refl (path_relation p q)

pub all_meet : (d : Value) (a b : PlainComponent) → ConcurrentPair Left Right d a b → ConvergesOrOverflows d a b
all_meet d a b m = converge_by_paths (path_relation a.path b.path)
  where
    converge_by_paths : PathRelation a.path b.path → ConvergesOrOverflows d a b
    converge_by_paths (inl h) = agrees_meet d a b (apart_meet Left Right d a b m h)
    converge_by_paths (inr (inl h)) = same_meet m.a_made.position d a b m h m.a_made.found
    converge_by_paths (inr (inr (inl h))) = agrees_meet d a b (under_meet Left Right d a b h.step h.rest m h.is)
    converge_by_paths (inr (inr (inr h))) =
        agrees_meet d a b
        (agrees_turned Right Left d b a (under_meet Right Left d b a h.step h.rest (meeting_turned Left Right d a b m) h.is))
