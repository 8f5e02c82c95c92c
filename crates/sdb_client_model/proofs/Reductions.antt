-- What a crossing keeps of an operation: it adds and inserts no more, and inserts no larger number and no longer text.
use Rattle.std.proofs.Common.{◌≡◌, ℕ, zero, suc, ◌+◌, ◌-◌, ◌≤◌, Bool, true, false, min, max, List, [], ◌∷◌, ◌++◌, map, take, drop, Option, Some, None, option_map, refl, ap, subst, arith}
use Rattle.std.specs.Prelude.{if◌then◌else◌, nat_le, nat_lt, nat_eq, option_and_then, ⊤}
use Rattle.std.specs.Option.{option_map_or}
use Rattle.sdb_value.specs.Value.{Value, PlainStep, texts_equal}
use Rattle.sdb_component.specs.Plain.{PlainAct, na, si, sd, li, ld, lr, oi, od, or, PlainComponent}
use Rattle.sdb_component.specs.Weight.{component_weight}
use Rattle.sdb_transform.specs.declared.side.Side.{Side}
use Rattle.sdb_transform.specs.declared.side.Side.TheVariants.{Left, Right}
use Rattle.sdb_transform.specs.Transform.{ActTransform, at_shifted_position, left_wins_or, one_act, no_acts, transform_act, delete_unless_empty, component_at, map_removed, updated_value, with_moved_step, transform_below, update_removed, strip_removed_path, strip_prefix, transform_step, transform, put_after_put}
use Rattle.sdb_transform.specs.Cross.{Crossing, sum_weight, join_crossings, cross_in, cross, cross_ops}
use Rattle.sdb_transform.specs.OperationConvergence.{total_inserted_size}
use Rattle.sdb_transform.proofs.RaisedPositions.{transformed_within, size_append}
use Rattle.sdb_client_model.specs.SmallRuns.{largest_number, longest_part, inserted_measure, added_amount, largest_inserted, total_added_amount}
use Rattle.sdb_client_model.proofs.PendingLemmas.{same_some, some_step}

-- ---- acts

module _ (f : Value → ℕ) where
  abbrev acts_number : List PlainAct → ℕ
  acts_number [] = 0
  acts_number (a ∷ xs) = max (inserted_measure f a) (acts_number xs)

  abbrev acts_amount : List PlainAct → ℕ
  acts_amount [] = 0
  acts_amount (a ∷ xs) = added_amount a + acts_amount xs

  -- no inserted number is above n, and the added amount is at most m
  abbrev ActsWithin : ℕ → ℕ → ActTransform → Type 0
  ActsWithin n m None = ⊤
  ActsWithin n m (Some xs) = (acts_number xs ≤ n) × (acts_amount xs ≤ m)

  either_within : (n m : ℕ) (t : Bool) (a b : ActTransform) → ActsWithin n m a → ActsWithin n m b → ActsWithin n m (if t then a else b)
  either_within n m true a b h k = h
  either_within n m false a b h k = k

  shifted_within : (n m p by : ℕ) (g : ℕ → ActTransform) → ActsWithin n m (g (p + by)) → ActsWithin n m (at_shifted_position p by g)
  shifted_within n m p by g h = either_within n m (nat_le (p + by) 9007199254740991) (g (p + by)) None h tt

  side_within : (n m : ℕ) (side : Side) (a b : ActTransform) → ActsWithin n m a → ActsWithin n m b → ActsWithin n m (left_wins_or side a b)
  side_within n m Left a b h k = h
  side_within n m Right a b h k = k

  split_within : (p q : ℕ) (d : List ℕ) (o : Option ℕ) → ActsWithin 0 0 (option_map (λ i. sd p (take i d) ∷ sd q (drop i d) ∷ []) o)
  split_within p q d None = tt
  split_within p q d (Some i) = (omega arith, omega arith)

  rest_within : (p : ℕ) (d : List ℕ) → ActsWithin 0 0 (Some (delete_unless_empty p d))
  rest_within p [] = (omega arith, omega arith)
  rest_within p (b ∷ bs) = (omega arith, omega arith)

  without_within : (p : ℕ) (d : List ℕ) (o u : Option ℕ) → ActsWithin 0 0 (option_and_then (λ i. option_map (λ j. delete_unless_empty p (take i d ++ drop j d)) u) o)
  without_within p d None u = tt
  without_within p d (Some i) None = tt
  without_within p d (Some i) (Some j) = rest_within p (take i d ++ drop j d)

  put_within : (side : Side) (l k : List ℕ) (z y : Value) (c : PlainAct) (n : ℕ) → inserted_measure f (or l y z) ≡ n → inserted_measure f c ≡ n → added_amount c ≡ 0 → ActsWithin n 0 (put_after_put side l z c k y)
  put_within side l k z y c n is h g =
      either_within n 0 (texts_equal k l) (left_wins_or side (one_act (or l y z)) no_acts) (one_act c)
      (side_within n 0 side (one_act (or l y z)) no_acts (omega (arith, is), omega arith) (omega arith, omega arith)) (omega (arith, h), omega (arith, g))

  -- of texts; u and v are lengths in code units
  si_si_within : (side : Side) (p r u : ℕ) (s : List ℕ)
      → ActsWithin 0 0 (if nat_lt r p then at_shifted_position p u (λ q. one_act (si q s)) else (if nat_eq r p then left_wins_or side (one_act (si p s)) (at_shifted_position p u (λ q. one_act (si q s))) else one_act (si p s)))
  si_si_within side p r u s =
      let here = one_act (si p s) in
      let on = at_shifted_position p u (λ q. one_act (si q s)) in
      let moves = shifted_within 0 0 p u (λ q. one_act (si q s)) (omega arith, omega arith) in
      either_within 0 0 (nat_lt r p) on (if nat_eq r p then left_wins_or side here on else here) moves
      (either_within 0 0 (nat_eq r p) (left_wins_or side here on) here (side_within 0 0 side here on (omega arith, omega arith) moves) (omega arith, omega arith))

  si_sd_within : (p r u : ℕ) (s : List ℕ) → ActsWithin 0 0 (if nat_le p r then one_act (si p s) else (if nat_le p (r + u) then one_act (si r s) else one_act (si (p - u) s)))
  si_sd_within p r u s =
      either_within 0 0 (nat_le p r) (one_act (si p s)) (if nat_le p (r + u) then one_act (si r s) else one_act (si (p - u) s)) (omega arith, omega arith)
      (either_within 0 0 (nat_le p (r + u)) (one_act (si r s)) (one_act (si (p - u) s)) (omega arith, omega arith) (omega arith, omega arith))

  sd_si_within : (p r u v : ℕ) (d : List ℕ) (o : Option ℕ)
      → ActsWithin 0 0 (if nat_le r p then at_shifted_position p u (λ q. one_act (sd q d)) else (if nat_le (p + v) r then one_act (sd p d) else at_shifted_position p u (λ q. option_map (λ i. sd p (take i d) ∷ sd q (drop i d) ∷ []) o)))
  sd_si_within p r u v d o =
      let whole = at_shifted_position p u (λ q. one_act (sd q d)) in
      let split = at_shifted_position p u (λ q. option_map (λ i. sd p (take i d) ∷ sd q (drop i d) ∷ []) o) in
      either_within 0 0 (nat_le r p) whole (if nat_le (p + v) r then one_act (sd p d) else split)
      (shifted_within 0 0 p u (λ q. one_act (sd q d)) (omega arith, omega arith))
      (either_within 0 0 (nat_le (p + v) r) (one_act (sd p d)) split (omega arith, omega arith)
      (shifted_within 0 0 p u (λ q. option_map (λ i. sd p (take i d) ∷ sd q (drop i d) ∷ []) o) (split_within p (p + u) d o)))

  sd_sd_within : (p r u v : ℕ) (d : List ℕ) (rest : ActTransform) → ActsWithin 0 0 rest
      → ActsWithin 0 0 (if nat_le (r + u) p then one_act (sd (p - u) d) else (if nat_le (p + v) r then one_act (sd p d) else rest))
  sd_sd_within p r u v d rest h =
      either_within 0 0 (nat_le (r + u) p) (one_act (sd (p - u) d)) (if nat_le (p + v) r then one_act (sd p d) else rest) (omega arith, omega arith)
      (either_within 0 0 (nat_le (p + v) r) (one_act (sd p d)) rest (omega arith, omega arith) h)

  act_within : (side : Side) (a o : PlainAct) → ActsWithin (inserted_measure f a) (added_amount a) (transform_act side a o)
  act_within side (na x) o = (omega arith, omega arith)
  act_within side (si p s) (si r t) = si_si_within side p r _ s
  act_within side (si p s) (sd r t) = si_sd_within p r _ s
  act_within side (si p s) o = (omega arith, omega arith)
  act_within side (sd p d) (si r t) = sd_si_within p r _ _ d _
  act_within side (sd p d) (sd r t) = sd_sd_within p r _ _ d _ (without_within (min p r) d _ _)
  act_within side (sd p d) o = (omega arith, omega arith)
  act_within side (li j v) (li i u) =
      let n = inserted_measure f (li j v) in
      let here = one_act (li j v) in
      let on = at_shifted_position j 1 (λ k. one_act (li k v)) in
      let moves = shifted_within n 0 j 1 (λ k. one_act (li k v)) (omega arith, omega arith) in
      either_within n 0 (nat_lt i j) on (if nat_eq i j then left_wins_or side here on else here) moves
      (either_within n 0 (nat_eq i j) (left_wins_or side here on) here (side_within n 0 side here on (omega arith, omega arith) moves) (omega arith, omega arith))
  act_within side (li j v) (ld i u) = either_within (inserted_measure f (li j v)) 0 (nat_lt i j) (one_act (li (j - 1) v)) (one_act (li j v)) (omega arith, omega arith) (omega arith, omega arith)
  act_within side (li j v) o = (omega arith, omega arith)
  act_within side (ld j x) (li i u) =
      either_within 0 0 (nat_le i j) (at_shifted_position j 1 (λ k. one_act (ld k x))) (one_act (ld j x)) (shifted_within 0 0 j 1 (λ k. one_act (ld k x)) (omega arith, omega arith)) (omega arith, omega arith)
  act_within side (ld j x) (ld i u) =
      either_within 0 0 (nat_lt i j) (one_act (ld (j - 1) x)) (if nat_eq i j then no_acts else one_act (ld j x)) (omega arith, omega arith)
      (either_within 0 0 (nat_eq i j) no_acts (one_act (ld j x)) (omega arith, omega arith) (omega arith, omega arith))
  act_within side (ld j x) (lr i u y) = either_within 0 0 (nat_eq i j) no_acts (one_act (ld j x)) (omega arith, omega arith) (omega arith, omega arith)
  act_within side (ld j x) o = (omega arith, omega arith)
  act_within side (lr j w z) (li i u) =
      let n = inserted_measure f (lr j w z) in
      either_within n 0 (nat_le i j) (at_shifted_position j 1 (λ k. one_act (lr k w z))) (one_act (lr j w z)) (shifted_within n 0 j 1 (λ k. one_act (lr k w z)) (omega arith, omega arith)) (omega arith, omega arith)
  act_within side (lr j w z) (ld i u) =
      let n = inserted_measure f (lr j w z) in
      either_within n 0 (nat_lt i j) (one_act (lr (j - 1) w z)) (if nat_eq i j then one_act (li i z) else one_act (lr j w z)) (omega arith, omega arith)
      (either_within n 0 (nat_eq i j) (one_act (li i z)) (one_act (lr j w z)) (omega arith, omega arith) (omega arith, omega arith))
  act_within side (lr j w z) (lr i u y) =
      let n = inserted_measure f (lr j w z) in
      either_within n 0 (nat_eq i j) (left_wins_or side (one_act (lr i y z)) no_acts) (one_act (lr j w z))
      (side_within n 0 side (one_act (lr i y z)) no_acts (omega arith, omega arith) (omega arith, omega arith)) (omega arith, omega arith)
  act_within side (lr j w z) o = (omega arith, omega arith)
  act_within side (oi l z) (oi k y) = put_within side l k z y (oi l z) (inserted_measure f (oi l z)) refl refl refl
  act_within side (oi l z) (or k u y) = put_within side l k z y (oi l z) (inserted_measure f (oi l z)) refl refl refl
  act_within side (oi l z) o = (omega arith, omega arith)
  act_within side (od l x) (od k u) = either_within 0 0 (texts_equal k l) no_acts (one_act (od l x)) (omega arith, omega arith) (omega arith, omega arith)
  act_within side (od l x) (or k u y) = either_within 0 0 (texts_equal k l) no_acts (one_act (od l x)) (omega arith, omega arith) (omega arith, omega arith)
  act_within side (od l x) o = (omega arith, omega arith)
  act_within side (or l w z) (oi k y) = put_within side l k z y (or l w z) (inserted_measure f (or l w z)) refl refl refl
  act_within side (or l w z) (od k u) =
      let n = inserted_measure f (or l w z) in
      either_within n 0 (texts_equal k l) (one_act (oi l z)) (one_act (or l w z)) (omega arith, omega arith) (omega arith, omega arith)
  act_within side (or l w z) (or k u y) = put_within side l k z y (or l w z) (inserted_measure f (or l w z)) refl refl refl
  act_within side (or l w z) o = (omega arith, omega arith)

  -- ---- components

  abbrev ComponentsWithin : ℕ → ℕ → Option (List PlainComponent) → Type 0
  ComponentsWithin n m None = ⊤
  ComponentsWithin n m (Some cs) = (largest_inserted f cs ≤ n) × (total_added_amount cs ≤ m)

  map_number : (p : List PlainStep) (xs : List PlainAct) → largest_inserted f (map (component_at p) xs) ≡ acts_number xs
  map_number p [] = refl
  map_number p (x ∷ xs) = ap (max (inserted_measure f x)) (map_number p xs)

  map_amount : (p : List PlainStep) (xs : List PlainAct) → total_added_amount (map (component_at p) xs) ≡ acts_amount xs
  map_amount p [] = refl
  map_amount p (x ∷ xs) = ap (λ n. added_amount x + n) (map_amount p xs)

  at_path_within : (p : List PlainStep) (n m : ℕ) (o : ActTransform) → ActsWithin n m o → ComponentsWithin n m (option_map (map (component_at p)) o)
  at_path_within p n m None h = tt
  at_path_within p n m (Some xs) h = (omega (arith, h.0, map_number p xs), omega (arith, h.1, map_amount p xs))

  moved_within : (c o : PlainComponent) (rest : List PlainStep) (m : Option (Option PlainStep)) → ComponentsWithin (inserted_measure f c.act) (added_amount c.act) (option_map (with_moved_step c o rest) m)
  moved_within c o rest None = tt
  moved_within c o rest (Some None) = (omega arith, omega arith)
  moved_within c o rest (Some (Some w)) = (omega arith, omega arith)

  updated_number : (g : Value → Value) (a : PlainAct) → inserted_measure f (map_removed g a) ≡ inserted_measure f a
  updated_number g (ld j x) = refl
  updated_number g (lr j w z) = refl
  updated_number g (od l x) = refl
  updated_number g (or l w z) = refl
  updated_number g (na x) = refl
  updated_number g (si p s) = refl
  updated_number g (sd p d) = refl
  updated_number g (li j v) = refl
  updated_number g (oi l z) = refl

  updated_amount : (g : Value → Value) (a : PlainAct) → added_amount (map_removed g a) ≡ added_amount a
  updated_amount g (ld j x) = refl
  updated_amount g (lr j w z) = refl
  updated_amount g (od l x) = refl
  updated_amount g (or l w z) = refl
  updated_amount g (na x) = refl
  updated_amount g (si p s) = refl
  updated_amount g (sd p d) = refl
  updated_amount g (li j v) = refl
  updated_amount g (oi l z) = refl

  updated_within : (c o : PlainComponent) (r : Option (List PlainStep)) → ComponentsWithin (inserted_measure f c.act) (added_amount c.act) (Some (update_removed c o r))
  updated_within c o None = (omega arith, omega arith)
  updated_within c o (Some rest) =
      let up = updated_value (component_at rest o.act) in
      (omega (arith, updated_number up c.act), omega (arith, updated_amount up c.act))

  all_within : (side : Side) (c o : PlainComponent) (b : Option (List PlainStep))
      → ComponentsWithin (inserted_measure f c.act) (added_amount c.act) (option_map_or (transform_below side c o) b (Some (update_removed c o (strip_removed_path c o.path))))
  all_within side c o None = updated_within c o (strip_removed_path c o.path)
  all_within side c o (Some []) = at_path_within c.path (inserted_measure f c.act) (added_amount c.act) (transform_act side c.act o.act) (act_within side c.act o.act)
  all_within side c o (Some (s ∷ rest)) = moved_within c o rest (transform_step o.act s)

-- ---- operations

-- nothing grows
pub record IsReduced (from op : List PlainComponent) : Type 0 where
  pub size : total_inserted_size op ≤ total_inserted_size from
  pub amount : total_added_amount op ≤ total_added_amount from
  pub number : largest_inserted largest_number op ≤ largest_inserted largest_number from
  pub length : largest_inserted longest_part op ≤ largest_inserted longest_part from

pub reduced_refl : (op : List PlainComponent) → IsReduced op op
reduced_refl op = record { size = omega arith; amount = omega arith; number = omega arith; length = omega arith }

pub reduced_trans : (a b c : List PlainComponent) → IsReduced a b → IsReduced b c → IsReduced a c
reduced_trans a b c h k = record {
  size = omega (arith, h.size, k.size);
  amount = omega (arith, h.amount, k.amount);
  number = omega (arith, h.number, k.number);
  length = omega (arith, h.length, k.length);
}

pub largest_append : (f : Value → ℕ) (cs more : List PlainComponent) → largest_inserted f (cs ++ more) ≡ max (largest_inserted f cs) (largest_inserted f more)
largest_append f [] more = omega arith
largest_append f (c ∷ cs) more = omega (arith, largest_append f cs more)

pub amount_append : (cs more : List PlainComponent) → total_added_amount (cs ++ more) ≡ total_added_amount cs + total_added_amount more
amount_append [] more = omega arith
amount_append (c ∷ cs) more = omega (arith, amount_append cs more)

pair_reduced : (side : Side) (c o : PlainComponent) (cs : List PlainComponent) → transform side c o ≡ Some cs → IsReduced (c ∷ []) cs
pair_reduced side c o cs e =
    let w = transformed_within side c o cs e in
    let v = subst (ComponentsWithin largest_number (inserted_measure largest_number c.act) (added_amount c.act)) e (all_within largest_number side c o (strip_prefix o.path c.path)) in
    let u = subst (ComponentsWithin longest_part (inserted_measure longest_part c.act) (added_amount c.act)) e (all_within longest_part side c o (strip_prefix o.path c.path)) in
    record {
      size = omega (arith, w.size);
      amount = omega (arith, v.1);
      number = omega (arith, v.0);
      length = omega (arith, u.0);
    }

-- the results of a crossing
pub record CrossingReduced (L R : List PlainComponent) (x : Crossing PlainComponent) : Type 0 where
  pub left : IsReduced L x.left
  pub right : IsReduced R x.right

joined_reduced : (c : PlainComponent) (C c1 u v w : List PlainComponent) → IsReduced (c ∷ []) c1 → IsReduced c1 u → IsReduced C v → IsReduced v w → IsReduced (c ∷ C) (u ++ w)
joined_reduced c C c1 u v w a b d e = record {
  size = omega (arith, a.size, b.size, d.size, e.size, size_append u w);
  amount = omega (arith, a.amount, b.amount, d.amount, e.amount, amount_append u w);
  number = omega (arith, a.number, b.number, d.number, e.number, largest_append largest_number u w);
  length = omega (arith, a.length, b.length, d.length, e.length, largest_append longest_part u w);
}

crossing_reduced_in : (n : ℕ) (L R : List PlainComponent) (x : Crossing PlainComponent) → cross_in (transform Left) (transform Right) n L R ≡ Some x → CrossingReduced L R x
unfolding cross_in
crossing_reduced_in n [] R x e = subst (CrossingReduced [] R) (same_some _ x e) (record { left = reduced_refl []; right = reduced_refl R })
crossing_reduced_in n (l ∷ L) [] x e = subst (CrossingReduced (l ∷ L) []) (same_some _ x e) (record { left = reduced_refl (l ∷ L); right = reduced_refl [] })
crossing_reduced_in zero (l ∷ L) (r ∷ R) x e = cc
crossing_reduced_in (suc n) (l ∷ L) (r ∷ R) x e =
    let tl = transform Left in
    let tr = transform Right in
    let l1 = some_step (tl l r) _ x e in
    let r1 = some_step (tr r l) _ x l1.2 in
    let u = some_step (cross_in tl tr n l1.0 R) _ x r1.2 in
    let v = some_step (cross_in tl tr n L r1.0) _ x u.2 in
    let w = some_step (cross_in tl tr n v.0.left u.0.right) _ x v.2 in
    let pl = pair_reduced Left l r l1.0 l1.1 in
    let pr = pair_reduced Right r l r1.0 r1.1 in
    let hu = crossing_reduced_in n l1.0 R u.0 u.1 in
    let hv = crossing_reduced_in n L r1.0 v.0 v.1 in
    let hw = crossing_reduced_in n v.0.left u.0.right w.0 w.1 in
    subst (CrossingReduced (l ∷ L) (r ∷ R)) (same_some (join_crossings u.0 v.0 w.0) x w.2)
    (record {
      left = joined_reduced l L l1.0 u.0.left v.0.left w.0.left pl hu.left hv.left hw.left;
      right = joined_reduced r R r1.0 v.0.right u.0.right w.0.right pr hv.right hu.right hw.right;
    })

pub crossing_reduced : (L R : List PlainComponent) (x : Crossing PlainComponent) → cross_ops L R ≡ Some x → CrossingReduced L R x
unfolding cross
crossing_reduced L R x e = crossing_reduced_in (sum_weight component_weight L + sum_weight component_weight R) L R x e
