-- Two concurrent components, without the range of sums: each transformed one is made for the other's result.
use Rattle.std.proofs.Common.{◌≡◌, ℕ, ℤ, ◌+ℤ◌, List, [], ◌∷◌, ◌++◌, map, Option, Some, None, option_map, option_and_then, Bool, inl, inr, refl, sym, ap, ◌∙◌, subst, append-nil}
use Rattle.std.proofs.Math.IntN.{+ℤ_comm, +ℤ_assoc}
use Rattle.sdb_value.specs.Value.{Value, null, truth, whole, text, list, object, Items, Members, PlainStep, key, index, child, with_child, value_at, with_value_at}
use Rattle.sdb_value.specs.laws.PathLaws.{at_append, with_append, at_with, with_with}
use Rattle.sdb_value.specs.Disjoint.{AreDisjointPaths}
use Rattle.sdb_value.proofs.DisjointLemmas.{writes_commute, at_step, with_step}
use Rattle.sdb_component.specs.Plain.{PlainAct, na, si, sd, li, ld, lr, oi, od, or, PlainComponent}
use Rattle.sdb_apply.specs.Apply.{apply_act}
use Rattle.sdb_apply.specs.ApplyLaws.{with_path_prefix}
use Rattle.sdb_transform.specs.declared.side.Side.{Side}
use Rattle.sdb_transform.specs.declared.side.Side.TheVariants.{Left, Right}
use Rattle.sdb_transform.specs.Transform.{transform_act, map_removed, updated_value, component_at, transform, with_moved_step, update_removed}
use Rattle.sdb_transform.specs.Convergence.{ActStaysInRange, StepStaysInRange, StaysInRange}
use Rattle.sdb_transform.specs.OperationConvergence.{HasValidParts}
use Rattle.sdb_transform.proofs.ConvergeActs.{apply_acts, apply_unchecked, ActsConverge}
use Rattle.sdb_transform.proofs.ConvergeLists.{lists_meet}
use Rattle.sdb_transform.proofs.ConvergeTexts.{texts_meet}
use Rattle.sdb_transform.proofs.ConvergeObjects.{objects_meet}
use Rattle.sdb_transform.proofs.ConvergeBelow.{ShiftsStep, DropsStep, shifts_or_drops}
use Rattle.sdb_transform.proofs.ConvergenceLemmas.{transform_under, stays_apart, step_fits, act_fits, after_rest, PathRelation, path_relation}
use Rattle.sdb_transform.proofs.FormedValues.{IsFormed, sorted_of_value, value_formed}
use Rattle.sdb_transform.proofs.OperationRuns.{ActRun, ComponentRun, ActsRun, OperationRun, acts_at_root, run_under, unchecked_of}
use Rattle.sdb_transform.proofs.ValidParts.{transformed_parts, updated_parts}
use Rattle.sdb_transform.proofs.ExpectedKeys.{KeysAlong, acts_run_of, keys_at_text, keys_at_list, keys_at_object, key_after_child, updated_key}

-- ---- results

-- e is the result of a, and f that of b; s is the side of a, and t that of b
pub record PairRuns (s t : Side) (a b : PlainComponent) (e f : Value) : Type 0 where
  pub left : List PlainComponent
  pub right : List PlainComponent
  pub result : Value
  pub on_left : transform s a b ≡ Some left
  pub on_right : transform t b a ≡ Some right
  pub left_run : OperationRun left f result
  pub right_run : OperationRun right e result

pairs_turned : (s t : Side) (a b : PlainComponent) (e f : Value) → PairRuns s t a b e f → PairRuns t s b a f e
pairs_turned s t a b e f m = record {
  left = m.right;
  right = m.left;
  result = m.result;
  on_left = m.on_right;
  on_right = m.on_left;
  left_run = m.right_run;
  right_run = m.left_run;
}

-- of acts at one container
record ActPairRuns (s t : Side) (x y : PlainAct) (v w : Value) : Type 0 where
  pub left : List PlainAct
  pub right : List PlainAct
  pub result : Value
  pub on_left : transform_act s x y ≡ Some left
  pub on_right : transform_act t y x ≡ Some right
  pub left_run : ActsRun left w result
  pub right_run : ActsRun right v result

-- ---- inside a common prefix

run_after : (p : List PlainStep) (cs : List PlainComponent) (d u w z : Value) → value_at d p ≡ Some u → OperationRun cs w z
    → OperationRun (map (with_path_prefix p) cs) (with_value_at d p w) (with_value_at d p z)
run_after p cs d u w z h r =
    subst (OperationRun (map (with_path_prefix p) cs) (with_value_at d p w)) (with_with d u w z p h) (run_under p cs (with_value_at d p w) w z (at_with d u w p h) r)

pairs_under : (s t : Side) (p q r : List PlainStep) (x y : PlainAct) (d u v w : Value) → value_at d p ≡ Some u → PairRuns s t (component_at q x) (component_at r y) v w
    → PairRuns s t (component_at (p ++ q) x) (component_at (p ++ r) y) (with_value_at d p v) (with_value_at d p w)
pairs_under s t p q r x y d u v w h m = record {
  left = map (with_path_prefix p) m.left;
  right = map (with_path_prefix p) m.right;
  result = with_value_at d p m.result;
  on_left = transform_under s p q r x y ∙ ap (option_map (map (with_path_prefix p))) m.on_left;
  on_right = transform_under t p r q y x ∙ ap (option_map (map (with_path_prefix p))) m.on_right;
  left_run = run_after p m.left d u w m.result h m.left_run;
  right_run = run_after p m.right d u v m.result h m.right_run;
}

at_results : (s t : Side) (a b : PlainComponent) (e f g h : Value) → e ≡ g → f ≡ h → PairRuns s t a b e f → PairRuns s t a b g h
at_results s t a b e f g h p q m = subst (PairRuns s t a b g) q (subst (λ z. PairRuns s t a b z f) p m)

-- ---- disjoint paths

pairs_apart : (s t : Side) (d : Value) (a b : PlainComponent) (e f : Value) → ComponentRun a d e → ComponentRun b d f → AreDisjointPaths a.path b.path → PairRuns s t a b e f
pairs_apart s t d a b e f x y h =
    let p = a.path in
    let q = b.path in
    let g : AreDisjointPaths q p = record { not_prefix = h.not_extension; not_extension = h.not_prefix } in
    let m = writes_commute p q d x.after y.after x.before y.before h x.found y.found in
    let n = writes_commute q p d y.after x.after y.before x.before g y.found x.found in
    let end = with_value_at (with_value_at d p x.after) q y.after in
    record {
      left = a ∷ [];
      right = b ∷ [];
      result = end;
      on_left = stays_apart s a b h;
      on_right = stays_apart t b a g;
      left_run = (
        end,
        record {
          before = x.before;
          after = x.after;
          found = ap (λ z. value_at z p) (sym y.written) ∙ n.stays;
          act = x.act;
          written = ap (λ z. with_value_at z p x.after) (sym y.written) ∙ n.same;
        },
        refl,
      );
      right_run = (
        end,
        record {
          before = y.before;
          after = y.after;
          found = ap (λ z. value_at z q) (sym x.written) ∙ m.stays;
          act = y.act;
          written = ap (λ z. with_value_at z q y.after) (sym x.written);
        },
        refl,
      );
    }

-- ---- one path inside the other

pairs_shifted : (s t : Side) (x y : PlainAct) (w : PlainStep) (q : List PlainStep) (d d1 c u u1 : Value) → ActRun x d d1 → child w d ≡ Some c → value_at c q ≡ Some u → ActRun y u u1
    → ShiftsStep x w d d1 c → PairRuns s t (component_at [] x) (component_at (w ∷ q) y) d1 (with_child w d (with_value_at c q u1))
pairs_shifted s t x y w q d d1 c u u1 e f g h m =
    let inner = with_value_at c q u1 in
    let e1 = with_child w d inner in
    let end = with_child m.to d1 inner in
    record {
      left = component_at [] x ∷ [];
      right = component_at (m.to ∷ q) y ∷ [];
      result = end;
      on_left = ap (λ r. Some (update_removed (component_at [] x) (component_at (w ∷ q) y) r)) (m.kept q);
      on_right = ap (option_map (with_moved_step (component_at (w ∷ q) y) (component_at [] x) q)) m.step;
      left_run = (
        end,
        record {
          before = e1;
          after = end;
          found = refl;
          act = record { changed = unchecked_of x e1 end (m.carries inner); key = key_after_child x w d inner e.key; texts = e.texts; inserts = e.inserts };
          written = refl;
        },
        refl,
      );
      right_run = (end, record { before = u; after = u1; found = at_step m.to q d1 c m.there ∙ g; act = h; written = with_step m.to q d1 c u1 m.there }, refl);
    }

pairs_dropped : (s t : Side) (x y : PlainAct) (w : PlainStep) (q : List PlainStep) (d d1 c u1 : Value) → ActRun x d d1 → DropsStep x w d d1
    → PairRuns s t (component_at [] x) (component_at (w ∷ q) y) d1 (with_child w d (with_value_at c q u1))
pairs_dropped s t x y w q d d1 c u1 e m =
    let up = updated_value (component_at q y) in
    let inner = with_value_at c q u1 in
    let e1 = with_child w d inner in
    let parts = updated_parts up x (e.texts, e.inserts) in
    record {
      left = component_at [] (map_removed up x) ∷ [];
      right = [];
      result = d1;
      on_left = ap (λ r. Some (update_removed (component_at [] x) (component_at (w ∷ q) y) r)) (m.under q);
      on_right = ap (option_map (with_moved_step (component_at (w ∷ q) y) (component_at [] x) q)) m.step;
      left_run = (
        d1,
        record {
          before = e1;
          after = d1;
          found = refl;
          act = record {
            changed = unchecked_of (map_removed up x) e1 d1 (m.loses up inner);
            key = updated_key up x e1 (key_after_child x w d inner e.key);
            texts = parts.0;
            inserts = parts.1;
          };
          written = refl;
        },
        refl,
      );
      right_run = refl;
    }

-- an act at a value with parts adds to no number
checked_at_parent : (x : PlainAct) (w : PlainStep) (d c : Value) → child w d ≡ Some c → apply_unchecked x d ≡ apply_act x d
checked_at_parent (na z) (index i) (list ds) c e = refl
checked_at_parent (na z) (key k) (object ms) c e = refl
checked_at_parent (na z) w d c e = cc
checked_at_parent (si p s) w d c e = refl
checked_at_parent (sd p s) w d c e = refl
checked_at_parent (li i y) w d c e = refl
checked_at_parent (ld i y) w d c e = refl
checked_at_parent (lr i y z) w d c e = refl
checked_at_parent (oi k y) w d c e = refl
checked_at_parent (od k y) w d c e = refl
checked_at_parent (or k y z) w d c e = refl

pairs_at_root : (s t : Side) (x y : PlainAct) (w : PlainStep) (q : List PlainStep) (d d1 c u u1 : Value) → IsFormed d → ActRun x d d1 → child w d ≡ Some c → value_at c q ≡ Some u → ActRun y u u1 → StepStaysInRange x w
    → PairRuns s t (component_at [] x) (component_at (w ∷ q) y) d1 (with_child w d (with_value_at c q u1))
pairs_at_root s t x y w q d d1 c u u1 wf e f g h m =
    elim (shifts_or_drops x w d d1 c (sorted_of_value d wf) e.key m (sym (checked_at_parent x w d c f) ∙ e.changed) f) [
      | inl k ↦ pairs_shifted s t x y w q d d1 c u u1 e f g h k
      | inr k ↦ pairs_dropped s t x y w q d d1 c u1 e k
    ]

step_there : (o : Option Value) (q : List PlainStep) (u : Value) → option_and_then (λ c. value_at c q) o ≡ Some u → (c : Value) × (o ≡ Some c) × (value_at c q ≡ Some u)
step_there None q u e = cc
step_there (Some c) q u e = (c, refl, e)

pairs_inside : (s t : Side) (p q : List PlainStep) (w : PlainStep) (x y : PlainAct) (d e f : Value) → IsFormed d → ComponentRun (component_at p x) d e → ComponentRun (component_at (p ++ w ∷ q) y) d f
    → StaysInRange t (component_at (p ++ w ∷ q) y) (component_at p x) → PairRuns s t (component_at p x) (component_at (p ++ w ∷ q) y) e f
pairs_inside s t p q w x y d e f wf a b fit =
    let u = a.before in
    let deep : value_at u (w ∷ q) ≡ Some b.before = sym (at_append d p (w ∷ q) ∙ ap (option_and_then (λ c. value_at c (w ∷ q))) a.found) ∙ b.found in
    let c = step_there (child w u) q b.before deep in
    let fits : StepStaysInRange x w = step_fits t (component_at (p ++ w ∷ q) y) (component_at p x) w q (after_rest p (w ∷ q)) fit in
    let here = pairs_at_root s t x y w q u a.after c.0 b.before b.after (value_formed p d u wf a.found) a.act c.1 c.2 b.act fits in
    let inner = with_child w u (with_value_at c.0 q b.after) in
    let whole = pairs_under s t p [] (w ∷ q) x y d u a.after inner a.found here in
    let second : with_value_at d p inner ≡ f = ap (with_value_at d p) (sym (with_step w q u c.0 b.after c.1)) ∙ sym (with_append d u b.after p (w ∷ q) a.found) ∙ b.written in
    at_results s t (component_at p x) (component_at (p ++ w ∷ q) y) (with_value_at d p a.after) (with_value_at d p inner) e f a.written second
    (subst (λ l. PairRuns s t (component_at l x) (component_at (p ++ w ∷ q) y) (with_value_at d p a.after) (with_value_at d p inner)) (append-nil p) whole)

pairs_below : (s t : Side) (d : Value) (a b : PlainComponent) (e f : Value) (w : PlainStep) (rest : List PlainStep) → IsFormed d → ComponentRun a d e → ComponentRun b d f
    → StaysInRange t b a → b.path ≡ a.path ++ w ∷ rest → PairRuns s t a b e f
pairs_below s t d a b e f w rest wf x y fit is =
    subst (λ l. PairRuns s t a (component_at l b.act) e f) (sym is)
    (pairs_inside s t a.path rest w a.act b.act d e f wf x (subst (λ l. ComponentRun (component_at l b.act) d f) is y) (subst (λ l. StaysInRange t (component_at l b.act) a) is fit))

-- ---- one container

act_pairs_of : (x y : PlainAct) (u v w : Value) (m : ActsConverge Left Right u x y) → apply_act x u ≡ Some v → apply_act y u ≡ Some w → HasValidParts x → HasValidParts y
    → KeysAlong m.left w → KeysAlong m.right v → ActPairRuns Left Right x y v w
act_pairs_of x y u v w m h k p q f g = record {
  left = m.left;
  right = m.right;
  result = m.result;
  on_left = m.on_left;
  on_right = m.on_right;
  left_run = acts_run_of m.left w m.result (sym (ap (option_and_then (apply_acts m.left)) k) ∙ m.by_right) (transformed_parts Left x y m.left m.on_left p) f;
  right_run = acts_run_of m.right v m.result (sym (ap (option_and_then (apply_acts m.right)) h) ∙ m.by_left) (transformed_parts Right y x m.right m.on_right q) g;
}

add_swap : (n x y : ℤ) → (n +ℤ y) +ℤ x ≡ (n +ℤ x) +ℤ y
add_swap n x y = +ℤ_assoc n y x ∙ ap (λ z. n +ℤ z) (+ℤ_comm y x) ∙ sym (+ℤ_assoc n x y)

same_value : (a b : Value) → Some a ≡ Some b → a ≡ b
same_value a b e = cc

number_runs : (n x y : ℤ) → ActPairRuns Left Right (na x) (na y) (whole (n +ℤ x)) (whole (n +ℤ y))
number_runs n x y =
    let end = whole ((n +ℤ x) +ℤ y) in
    record {
      left = na x ∷ [];
      right = na y ∷ [];
      result = end;
      on_left = refl;
      on_right = refl;
      left_run = (end, record { changed = ap (λ z. Some (whole z)) (add_swap n x y); key = tt; texts = tt; inserts = tt }, refl);
      right_run = (end, record { changed = refl; key = tt; texts = tt; inserts = tt }, refl);
    }

runs_at_number : (n : ℤ) (x y : PlainAct) (v w : Value) → apply_unchecked x (whole n) ≡ Some v → apply_unchecked y (whole n) ≡ Some w → ActPairRuns Left Right x y v w
runs_at_number n (na x) (na y) v w e f =
    subst (ActPairRuns Left Right (na x) (na y) v) (same_value (whole (n +ℤ y)) w f)
    (subst (λ z. ActPairRuns Left Right (na x) (na y) z (whole (n +ℤ y))) (same_value (whole (n +ℤ x)) v e) (number_runs n x y))
runs_at_number n (na x) y v w e f = cc
runs_at_number n x y v w e f = cc

checked_at_text : (x : PlainAct) (t : List ℕ) → apply_unchecked x (text t) ≡ apply_act x (text t)
checked_at_text (na z) t = refl
checked_at_text x t = refl

checked_at_list : (x : PlainAct) (ds : Items) → apply_unchecked x (list ds) ≡ apply_act x (list ds)
checked_at_list (na z) ds = refl
checked_at_list x ds = refl

checked_at_object : (x : PlainAct) (ms : Members) → apply_unchecked x (object ms) ≡ apply_act x (object ms)
checked_at_object (na z) ms = refl
checked_at_object x ms = refl

-- no act applies to null or a boolean
not_null : {G : Type 0} (x : PlainAct) (v : Value) → apply_unchecked x null ≡ Some v → G
not_null (na z) v e = cc
not_null x v e = cc

not_truth : {G : Type 0} (b : Bool) (x : PlainAct) (v : Value) → apply_unchecked x (truth b) ≡ Some v → G
not_truth b (na z) v e = cc
not_truth b x v e = cc

act_pair_runs : (u : Value) (x y : PlainAct) (v w : Value) → IsFormed u → ActRun x u v → ActRun y u w → ActStaysInRange Left x y → ActStaysInRange Right y x → ActPairRuns Left Right x y v w
act_pair_runs null x y v w wf a b m n = not_null x v a.changed
act_pair_runs (truth t) x y v w wf a b m n = not_truth t x v a.changed
act_pair_runs (whole n) x y v w wf a b m k = runs_at_number n x y v w a.changed b.changed
act_pair_runs (text t) x y v w wf a b m n =
    let h = sym (checked_at_text x t) ∙ a.changed in
    let k = sym (checked_at_text y t) ∙ b.changed in
    let r = texts_meet t x y v w wf a.texts b.texts h k m n in
    act_pairs_of x y (text t) v w r h k (a.texts, a.inserts) (b.texts, b.inserts) ((keys_at_text (y ∷ r.left) t).1 w k) ((keys_at_text (x ∷ r.right) t).1 v h)
act_pair_runs (list ds) x y v w wf a b m n =
    let h = sym (checked_at_list x ds) ∙ a.changed in
    let k = sym (checked_at_list y ds) ∙ b.changed in
    let r = lists_meet ds x y v w h k m n in
    act_pairs_of x y (list ds) v w r h k (a.texts, a.inserts) (b.texts, b.inserts) ((keys_at_list (y ∷ r.left) ds).1 w k) ((keys_at_list (x ∷ r.right) ds).1 v h)
act_pair_runs (object ms) x y v w wf a b m n =
    let h = sym (checked_at_object x ms) ∙ a.changed in
    let k = sym (checked_at_object y ms) ∙ b.changed in
    let sorted = sorted_of_value (object ms) wf in
    let r = objects_meet ms x y v w sorted a.key b.key h k in
    act_pairs_of x y (object ms) v w r h k (a.texts, a.inserts) (b.texts, b.inserts)
    (keys_at_object Left x y ms v w r.left sorted a.key h k r.on_left) (keys_at_object Right y x ms w v r.right sorted b.key k h r.on_right)

root_pairs : (x y : PlainAct) (v w : Value) → ActPairRuns Left Right x y v w → PairRuns Left Right (component_at [] x) (component_at [] y) v w
root_pairs x y v w m = record {
  left = map (component_at []) m.left;
  right = map (component_at []) m.right;
  result = m.result;
  on_left = ap (option_map (map (component_at []))) m.on_left;
  on_right = ap (option_map (map (component_at []))) m.on_right;
  left_run = acts_at_root m.left w m.result m.left_run;
  right_run = acts_at_root m.right v m.result m.right_run;
}

pairs_at_path : (p : List PlainStep) (x y : PlainAct) (d e f : Value) → IsFormed d → ComponentRun (component_at p x) d e → ComponentRun (component_at p y) d f
    → StaysInRange Left (component_at p x) (component_at p y) → StaysInRange Right (component_at p y) (component_at p x) → PairRuns Left Right (component_at p x) (component_at p y) e f
pairs_at_path p x y d e f wf a b m n =
    let u = a.before in
    let same : b.before ≡ u = same_value b.before u (sym b.found ∙ a.found) in
    let acts = act_pair_runs u x y a.after b.after (value_formed p d u wf a.found) a.act (subst (λ z. ActRun y z b.after) same b.act) (act_fits Left p x y m) (act_fits Right p y x n) in
    let whole = pairs_under Left Right p [] [] x y d u a.after b.after a.found (root_pairs x y a.after b.after acts) in
    at_results Left Right (component_at p x) (component_at p y) (with_value_at d p a.after) (with_value_at d p b.after) e f a.written b.written
    (subst (λ l. PairRuns Left Right (component_at l x) (component_at l y) (with_value_at d p a.after) (with_value_at d p b.after)) (append-nil p) whole)

pairs_same : (d : Value) (a b : PlainComponent) (e f : Value) → IsFormed d → ComponentRun a d e → ComponentRun b d f → StaysInRange Left a b → StaysInRange Right b a → a.path ≡ b.path → PairRuns Left Right a b e f
pairs_same d a b e f wf x y m n is =
    subst (λ l. PairRuns Left Right a (component_at l b.act) e f) is
    (pairs_at_path a.path a.act b.act d e f wf x (subst (λ l. ComponentRun (component_at l b.act) d f) (sym is) y)
    (subst (λ l. StaysInRange Left a (component_at l b.act)) (sym is) m) (subst (λ l. StaysInRange Right (component_at l b.act) a) (sym is) n))

-- ---- all pairs

pairs_by_paths : (d : Value) (a b : PlainComponent) (e f : Value) → IsFormed d → ComponentRun a d e → ComponentRun b d f → StaysInRange Left a b → StaysInRange Right b a → PathRelation a.path b.path
    → PairRuns Left Right a b e f
pairs_by_paths d a b e f wf x y m n (inl h) = pairs_apart Left Right d a b e f x y h
pairs_by_paths d a b e f wf x y m n (inr (inl h)) = pairs_same d a b e f wf x y m n h
pairs_by_paths d a b e f wf x y m n (inr (inr (inl h))) = pairs_below Left Right d a b e f h.step h.rest wf x y n h.is
pairs_by_paths d a b e f wf x y m n (inr (inr (inr h))) = pairs_turned Right Left b a f e (pairs_below Right Left d b a f e h.step h.rest wf y x m h.is)

pub pair_runs : (d : Value) (a b : PlainComponent) (e f : Value) → IsFormed d → ComponentRun a d e → ComponentRun b d f → StaysInRange Left a b → StaysInRange Right b a → PairRuns Left Right a b e f
pair_runs d a b e f wf x y m n = pairs_by_paths d a b e f wf x y m n (path_relation a.path b.path)
