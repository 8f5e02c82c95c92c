-- The value of a closed lock, by the observations of all seats.
use Rattle.std.proofs.Common.{◌≡◌, ℕ, ◌+◌, ◌<◌, ◌≤◌, ◌≢◌, List, [], ◌∷◌, ◌++◌, map, get_or, sym, refl, ap, ◌∙◌, subst, ⊎_elim, arith, Option, Some, None}
use mathlib.Core.Logic.{dite}
use mathlib.Core.Option.{some, some-injective}
use native.Mathlib.Decide.{ℕ_discrete}
use lib.ListN.{get_elem?}
use Rattle.atomic_table.specs.Table.{State, Final, Seen}
use Rattle.sdb_growlock.specs.declared.view.View.{View}
use Rattle.sdb_growlock.specs.declared.view.Observation.{Observation}
use Rattle.sdb_growlock.specs.declared.grow_lock.Seat.{Seat}
use Rattle.sdb_growlock.specs.LockRule.{ForEach, observation, ObservationFits, LockInvariant, HasObserved, join_all_views, IsAmong}
use Rattle.sdb_growlock.proofs.SeatViews.{M, none_of_not_out}
use Rattle.sdb_growlock.specs.laws.SeatLaws.{single_observation}
use Rattle.sdb_growlock.specs.LockRule.{sum_of}

module _ {A : Type 0} (P : A → Type 0) where
  pub for_each_left : (l m : List A) → ForEach P (l ++ m) → ForEach P l
  for_each_left [] m h = tt
  for_each_left (x ∷ xs) m h = (h.0, for_each_left xs m h.1)

  pub for_each_right : (l m : List A) → ForEach P (l ++ m) → ForEach P m
  for_each_right [] m h = h
  for_each_right (x ∷ xs) m h = for_each_right xs m h.1

  pub for_each_append : (l m : List A) → ForEach P l → ForEach P m → ForEach P (l ++ m)
  for_each_append [] m h k = k
  for_each_append (x ∷ xs) m h k = (h.0, for_each_append xs m h.1 k)

sum_of_append : {A : Type 0} (f : A → ℕ) (l : List A) (a : A) → sum_of (map f (l ++ a ∷ [])) ≡ sum_of (map f l) + f a
sum_of_append f [] a = omega arith
sum_of_append f (x ∷ xs) a = let h = sum_of_append f xs a in omega arith

module _ {T : Type 0} where
  abbrev pub seat_view : Seat T → View T
  seat_view s = s.inner.me.0

  pub value_unique : (v w : T) (o : Option T) → o ≡ Some v → o ≡ Some w → v ≡ w
  value_unique v w o e f = cc

  out_of_join_all : (d : View T) (es : List (View T)) → (join_all_views d es).out ≡ d.out
  out_of_join_all d [] = refl
  out_of_join_all d (e ∷ es) = out_of_join_all d es

  next_of_join_all : (d : View T) (ss : List (Seat T)) → (join_all_views d (map seat_view ss)).next ≡ sum_of (map (λ (s : Seat T). s.next) ss) + d.next
  next_of_join_all d [] = omega arith
  next_of_join_all d (s ∷ ss) = let h = next_of_join_all d ss in let r = s.is_idle in omega (arith, r.3)

  for_each_of_join_all : (P : Observation T → Type 0) (d : View T) (ss : List (Seat T)) → ForEach P (join_all_views d (map seat_view ss)).seen → ForEach P d.seen × ForEach (λ (s : Seat T). ForEach P s.inner.me.0.seen) ss
  for_each_of_join_all P d [] h = (h, tt)
  for_each_of_join_all P d (s ∷ ss) h = let l = for_each_of_join_all P d ss (for_each_left P (join_all_views d (map seat_view ss)).seen s.inner.me.0.seen h) in
      (l.0, (for_each_right P (join_all_views d (map seat_view ss)).seen s.inner.me.0.seen h, l.1))

  observation_with_number : (P : Observation T → Type 0) (ss : List (Seat T)) → ForEach (λ (s : Seat T). ForEach P s.inner.me.0.seen) ss → (k : ℕ) → IsAmong k (map (λ (s : Seat T). s.number) ss) → (p : Observation T) × (p.number ≡ k) × P p
  observation_with_number P [] h k a = absurd a
  observation_with_number P (s ∷ ss) h k a = ⊎_elim
      (λ (e : s.number ≡ k). let t = single_observation s.inner.me.0.seen s.number s.is_idle.1 in (observation s.number t.0, e, (subst (ForEach P) t.1 h.0).0))
      (λ b. observation_with_number P ss h.1 k b) a

  module _ (extends : T → T → Type 0) (same : ℕ → T → T → Type 0) (blank : ℕ → T → Type 0) where
    abbrev St : Type 0
    St = State (Option T) (View T)

    abbrev Rule : St → Type 0
    Rule = LockInvariant extends same blank

    abbrev FitsHere : T → ℕ → (ℕ → ℕ) → ℕ → Observation T → Type 0
    FitsHere = ObservationFits extends same blank

    -- if one view has all numbers and holds no value, the value is in its slot
    value_at_unlocked_at_close : (s : St) (r : Rule s) (id : ℕ) (v : View T) → get_elem? s.views id ≡ some v → v.out ≡ None → v.next ≢ 0
        → ((k : ℕ) → k < v.next → (p : Observation T) × (p.number ≡ k) × FitsHere r.value r.next r.owner id p) → get_elem? s.homes 0 ≡ some (some (Some r.value))
    value_at_unlocked_at_close s r id v at idle some_next cover = r.value_at_home (dite (ℕ_discrete (get_or s.words 0 0) 0) (λ z. z) (λ busy.
        let t = r.value_is_out busy in let f = (r.views_known id v at).first_has_next some_next in let low = t.0 in let e = f.0 in
        let c = cover r.holder_number (omega arith) in
        let is : r.owner r.holder_number ≡ id = ap r.owner (sym c.1) ∙ c.2.owner_is in
        let d : v ≡ t.1.0 = some-injective v t.1.0 (sym at ∙ (ap (get_elem? s.views) (sym is) ∙ t.1.1)) in
        let no : Some r.value ≡ None = sym t.1.2 ∙ (ap (λ (z : View T). z.out) (sym d) ∙ idle) in absurd (cc)))

    close_extends_each : (value : T) (next : ℕ) (owner : ℕ → ℕ) (id : ℕ) (ss : List (Seat T)) → ForEach (λ (s : Seat T). ForEach (FitsHere value next owner id) s.inner.me.0.seen) ss
        → ForEach (λ (s : Seat T). (x : T) → HasObserved s.inner.me.0 s.number x → extends value x × same s.number x value) ss
    close_extends_each value next owner id [] h = tt
    close_extends_each value next owner id (s ∷ ss) h = ((λ x e. let f = (subst (ForEach (FitsHere value next owner id)) e h.0).0 in (f.extends_observed, f.same_as_observed)), close_extends_each value next owner id ss h.1)

    pub close_returns_value : (ss rest : List (Seat T)) (last : Seat T) (me : M T) (id : ℕ) (words : List ℕ) (slots : List (Option T)) (o : Option T) → ss ≡ rest ++ last ∷ [] → 0 < sum_of (map (λ (s : Seat T). s.next) ss)
        → ((k : ℕ) → k < sum_of (map (λ (s : Seat T). s.next) ss) → IsAmong k (map (λ (s : Seat T). s.number) ss)) → me ≡ (join_all_views last.inner.me.0 (map seat_view rest), last.inner.me.1)
        → Final (Seen Rule id me.0) words slots → get_elem? slots 0 ≡ some o
        → (v : T) × (o ≡ Some v) × ForEach (λ (s : Seat T). (x : T) → HasObserved s.inner.me.0 s.number x → extends v x × same s.number x v) ss × ((k : ℕ) → sum_of (map (λ (s : Seat T). s.next) ss) ≤ k → blank k v)
    close_returns_value ss rest last me id words slots o are first all is final here =
        let s : St = final.0 in let r : Rule s = final.1.0 in let d : View T = join_all_views last.inner.me.0 (map seat_view rest) in
        let at : get_elem? s.views id ≡ some d = final.1.1 ∙ ap (λ (m : M T). some m.0) is in
        let P : Observation T → Type 0 = FitsHere r.value r.next r.owner id in
        let g = for_each_of_join_all P last.inner.me.0 rest (r.views_known id d at).observations_fit in
        let every : ForEach (λ (s : Seat T). ForEach P s.inner.me.0.seen) ss = subst (ForEach (λ (s : Seat T). ForEach P s.inner.me.0.seen)) (sym are) (for_each_append (λ (s : Seat T). ForEach P s.inner.me.0.seen) rest (last ∷ []) g.1 (g.0, tt)) in
        let next : d.next ≡ sum_of (map (λ (s : Seat T). s.next) ss) = next_of_join_all last.inner.me.0 rest ∙ (ap (λ (n : ℕ). sum_of (map (λ (s : Seat T). s.next) rest) + n) last.is_idle.3
        ∙ (sym (sum_of_append (λ (s : Seat T). s.next) rest last) ∙ ap (λ (l : List (Seat T)). sum_of (map (λ (s : Seat T). s.next) l)) (sym are))) in
        let idle : d.out ≡ None = out_of_join_all last.inner.me.0 (map seat_view rest) ∙ none_of_not_out last.inner.me.0.out last.is_idle.2 in
        let some_next : d.next ≢ 0 = λ e. absurd (omega arith) in
        let home = value_at_unlocked_at_close s r id d at idle some_next (λ k h. observation_with_number P ss every k (all k (omega arith))) in
        let f = (r.views_known id d at).first_has_next some_next in (
          r.value,
          some-injective o (Some r.value) (sym here ∙ final.4 0 (Some r.value) home),
          close_extends_each r.value r.next r.owner id ss every,
          λ k h. r.blank_above k (let e = f.0 in omega arith),
        )
