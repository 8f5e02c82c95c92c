-- Pending operations that are made for a document in sequence.
use Rattle.std.proofs.Common.{◌≡◌, ◌+◌, List, [], ◌∷◌, ◌++◌, Option, Some, None, option_map, option_and_then, inl, inr, refl, sym, ap, ◌∙◌, subst}
use Rattle.sdb_value.specs.Value.{Value}
use Rattle.sdb_component.specs.Plain.{PlainComponent}
use Rattle.sdb_component.specs.Weight.{component_weight}
use Rattle.sdb_apply.specs.Apply.{apply}
use Rattle.sdb_transform.specs.Cross.{Crossing, sum_weight, and_then, cross, cross_ops}
use Rattle.sdb_transform.specs.OperationConvergence.{AreMadeFor, SomeSumLeavesRange}
use Rattle.sdb_transform.proofs.FormedValues.{IsFormed}
use Rattle.sdb_transform.proofs.OperationRuns.{OperationRun, MadeResult, MadeOrOverflows, run_of, run_formed, made_or_overflows}
use Rattle.sdb_transform.proofs.CrossingExistence.{crossing_of_runs}
use Rattle.sdb_transform.proofs.OperationLemmas.{cross_runs}
use Rattle.sdb_client_model.specs.Client.{apply_all, PendingCrossing, cross_pending}
use Rattle.sdb_client_model.specs.RunPremises.{IsMadeForShown, CrossesInRange, PendingCrossesInRange}
use Rattle.sdb_client_model.specs.MadeEdits.{ArePendingMade}

pub same_some : {A : Type 0} (x y : A) → Some x ≡ Some y → x ≡ y
same_some x y e = cc

-- ---- one crossing

pub run_to : (cs : List PlainComponent) (d e : Value) → AreMadeFor cs d → apply cs d ≡ Some e → OperationRun cs d e
run_to cs d e a h = let r = run_of cs d a in subst (OperationRun cs d) (same_some r.result e (sym r.applied ∙ h)) r.run

made_in_range : (cs : List PlainComponent) (d e : Value) → MadeOrOverflows cs d e → (SomeSumLeavesRange cs d → ⊥) → MadeResult cs d e
made_in_range cs d e (inl m) h = m
made_in_range cs d e (inr o) h = absurd (h o)

-- both results of a crossing, where e is the value after the first operation and f the one after the second
record CrossedMade (x : Crossing PlainComponent) (e f : Value) : Type 0 where
  pub result : Value
  pub left : MadeResult x.left f result
  pub right : MadeResult x.right e result
  pub formed : IsFormed e

crossed_made : (op received : List PlainComponent) (d e f : Value) (x : Crossing PlainComponent) → IsFormed d → AreMadeFor op d → AreMadeFor received d
    → apply op d ≡ Some e → apply received d ≡ Some f → cross_ops op received ≡ Some x → CrossesInRange op received d → CrossedMade x e f
unfolding cross
crossed_made op received d e f x w a b h k crossed r =
    let left = run_to op d e a h in
    let right = run_to received d f b k in
    let c = cross_runs (sum_weight component_weight op + sum_weight component_weight received) op received x crossed d e f w left right in
    record {
      result = c.result;
      left = made_in_range x.left f c.result (made_or_overflows x.left f c.result c.left_run) (r.left_sums x f crossed k);
      right = made_in_range x.right e c.result (made_or_overflows x.right e c.result c.right_run) (r.right_sums x e crossed h);
      formed = run_formed op d e w left;
    }

pub not_none : (op received : List PlainComponent) → cross_ops op received ≡ None → (x : Crossing PlainComponent) × (cross_ops op received ≡ Some x) → ⊥
not_none op received none x = let bad : None ≡ Some x.0 = sym none ∙ x.1 in cc

-- a crossing exists if no position leaves the range
module _ (op received : List PlainComponent) (d e f : Value) (w : IsFormed d) (a : AreMadeFor op d) (b : AreMadeFor received d) (h : apply op d ≡ Some e) (k : apply received d ≡ Some f) (r : CrossesInRange op received d) where
  crossing_at : (o : Option (Crossing PlainComponent)) → cross_ops op received ≡ o → (x : Crossing PlainComponent) × (cross_ops op received ≡ Some x)
  crossing_at (Some x) is = (x, is)
  crossing_at None is =
      absurd
      (r.positions is (λ i j. not_none op received is (crossing_of_runs d e f op received w (run_to op d e a h) (run_to received d f b k) i j)))

  crossing_in_range : (x : Crossing PlainComponent) × (cross_ops op received ≡ Some x)
  crossing_in_range = crossing_at (cross_ops op received) refl

-- ---- all pending operations

-- f is the document after the received operation
pub record PendingCrossed (ops : List (List PlainComponent)) (received : List PlainComponent) (d f : Value) : Type 0 where
  pub crossing : PendingCrossing
  pub crossed : cross_pending ops received ≡ Some crossing
  pub made : ArePendingMade crossing.pending f
  -- what is shown after it is what was shown before, with the transformed received operation applied
  pub shown : option_and_then (apply crossing.received) (apply_all ops d) ≡ apply_all crossing.pending f

pub pending_crossed : (ops : List (List PlainComponent)) (received : List PlainComponent) (d f : Value) → IsFormed d → ArePendingMade ops d → AreMadeFor received d
    → apply received d ≡ Some f → PendingCrossesInRange ops received d → PendingCrossed ops received d f
pending_crossed [] received d f w h b k r = record { crossing = record { pending = []; received = received }; crossed = refl; made = tt; shown = k }
pending_crossed (op ∷ ops) received d f w h b k r =
    let e = h.1 in
    let crossing = crossing_in_range op received d e f w h.0 b h.2 k r.0 in
    let x = crossing.0 in
    let c = crossed_made op received d e f x w h.0 b h.2 k crossing.1 r.0 in
    let rest = pending_crossed ops x.right e c.result c.formed h.3 c.right.made c.right.applied (r.1 x e crossing.1 h.2) in
    record {
      crossing = record { pending = x.left ∷ rest.crossing.pending; received = rest.crossing.received };
      crossed =
          ap (λ o. and_then o (λ y. and_then (cross_pending ops y.right) (λ z. Some (record { pending = y.left ∷ z.pending; received = z.received })))) crossing.1
          ∙ ap (λ o. and_then o (λ z. Some (record { pending = x.left ∷ z.pending; received = z.received }))) rest.crossed;
      made = (c.left.made, c.result, c.left.applied, rest.made);
      shown =
          ap (λ o. option_and_then (apply rest.crossing.received) (option_and_then (apply_all ops) o)) h.2
          ∙ rest.shown
          ∙ sym (ap (option_and_then (apply_all rest.crossing.pending)) c.left.applied);
    }

pub some_step : {A B : Type 0} (o : Option A) (f : A → Option B) (b : B) → and_then o f ≡ Some b → (a : A) × (o ≡ Some a) × (f a ≡ Some b)
some_step None f b e = cc
some_step (Some a) f b e = (a, refl, e)

pub map_step : {A B : Type 0} (o : Option A) (f : A → B) (b : B) → option_map f o ≡ Some b → (a : A) × (o ≡ Some a) × (f a ≡ b)
map_step None f b e = cc
map_step (Some a) f b e = (a, refl, same_some (f a) b e)

-- the first pending operation is transformed against the received one
pub record FirstCrossed (op received : List PlainComponent) (pending : List (List PlainComponent)) : Type 0 where
  pub crossing : Crossing PlainComponent
  pub crossed : cross_ops op received ≡ Some crossing
  pub rest : List (List PlainComponent)
  pub first : pending ≡ crossing.left ∷ rest

pub first_crossed : (op received : List PlainComponent) (ops : List (List PlainComponent)) (y : PendingCrossing) → cross_pending (op ∷ ops) received ≡ Some y → FirstCrossed op received y.pending
first_crossed op received ops y h =
    let x = some_step (cross_ops op received) (λ x. and_then (cross_pending ops x.right) (λ z. Some (record { pending = x.left ∷ z.pending; received = z.received }))) y h in
    let z = some_step (cross_pending ops x.0.right) (λ z. Some (record { pending = x.0.left ∷ z.pending; received = z.received })) y x.2 in
    record { crossing = x.0; crossed = x.1; rest = z.0.pending; first = sym (ap (λ (p : PendingCrossing). p.pending) (same_some _ y z.2)) }

-- ---- one more pending operation

pub shown_of_made : (ops : List (List PlainComponent)) (d : Value) → ArePendingMade ops d → (e : Value) × (apply_all ops d ≡ Some e)
shown_of_made [] d h = (d, refl)
shown_of_made (op ∷ ops) d h = let r = shown_of_made ops h.1 h.3 in (r.0, ap (option_and_then (apply_all ops)) h.2 ∙ r.1)

pub made_for_shown : (op : List PlainComponent) (o : Option Value) → IsMadeForShown op o → (d : Value) × (o ≡ Some d) × AreMadeFor op d
made_for_shown op None h = absurd h
made_for_shown op (Some d) h = (d, refl, h)

pub pending_made_append : (ops : List (List PlainComponent)) (op : List PlainComponent) (d e : Value) → ArePendingMade ops d → apply_all ops d ≡ Some e → AreMadeFor op e → ArePendingMade (ops ++ op ∷ []) d
pending_made_append [] op d e h s a =
    let here = subst (AreMadeFor op) (sym (same_some d e s)) a in
    let r = run_of op d here in
    (here, r.result, r.applied, tt)
pending_made_append (p ∷ ops) op d e h s a =
    (h.0, h.1, h.2, pending_made_append ops op h.1 e h.3 (sym (ap (option_and_then (apply_all ops)) h.2) ∙ s) a)
