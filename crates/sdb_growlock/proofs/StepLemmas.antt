-- Each step preserves the rule.
use Rattle.std.proofs.Common.{◌≡◌, ℕ, ◌+◌, ◌<◌, ◌≤◌, ◌≢◌, ◌⊎◌, zero, suc, List, [], ◌∷◌, ◌++◌, map, length, get_or, set, sym, refl, ap, ◌∙◌, subst, inl, inr, ⊎_elim, arith, length-set, get_or-set_same, eqb, eq-eqb, ne_eqb, Option, Some, None}
use lib.Seq.{set-get_or}
use prog.Atomic.{either}
use mathlib.Core.Logic.{dite}
use mathlib.Core.Option.{some, none, some-injective, some-ne-none}
use native.Mathlib.Decide.{ℕ_discrete}
use lib.ListN.{get_elem?}
use Rattle.atomic_table.specs.Table.{State, Me, step, keeps, takes, gives, stepped, opening, Allows, Splits, Joins}
use Rattle.atomic_table.proofs.Lists.{at_set, set_again, set_here, set_else, at_longer}
use Rattle.sdb_growlock.specs.declared.view.View.{View}
use Rattle.sdb_growlock.specs.declared.view.Observation.{Observation}
use Rattle.sdb_growlock.specs.LockRule.{ForEach, observation, idle_view, holder_view, observe_all, acquired_view, ObservationFits, ViewInvariant, LockInvariant, acquire_step, release_step, read_step, compare_step, note_view, splitter_view, split_off_view, join_views, empty_view}

module _ {A : Type 0} where
  pub index_in_bounds : (l : List A) (i : ℕ) (a : A) → get_elem? l i ≡ some a → i < length l
  index_in_bounds [] i a e = absurd (some-ne-none a (sym e))
  index_in_bounds (x ∷ xs) zero a e = omega arith
  index_in_bounds (x ∷ xs) (suc i) a e = let h = index_in_bounds xs i a e in omega arith

  pub others_unchanged : (K : ℕ → A → Type 0) (vs : List A) (me : ℕ) (w : A) → K me w → ((j : ℕ) (d : A) → j ≢ me → get_elem? vs j ≡ some d → K j d)
      → (j : ℕ) (d : A) → get_elem? (set vs me w) j ≡ some d → K j d
  others_unchanged K vs me w mine others j d e = ⊎_elim (λ (t : (j ≡ me) × (w ≡ d)). subst (λ (x : ℕ × A). K x.0 x.1) (λ i. (sym t.0 i, t.1 i)) mine)
      (λ (t : (j ≢ me) × (get_elem? vs j ≡ some d)). others j d t.0 t.1) (at_set vs me j w d e)

  pub for_each_mono : (P Q : A → Type 0) → ((a : A) → P a → Q a) → (l : List A) → ForEach P l → ForEach Q l
  for_each_mono P Q f [] h = tt
  for_each_mono P Q f (x ∷ xs) h = (f x h.0, for_each_mono P Q f xs h.1)

  pub for_each_append : (P : A → Type 0) (l m : List A) → ForEach P l → ForEach P m → ForEach P (l ++ m)
  for_each_append P [] m h k = k
  for_each_append P (x ∷ xs) m h k = (h.0, for_each_append P xs m h.1 k)

  pub for_each_map : {B : Type 0} (P : B → Type 0) (f : A → B) (l : List A) → ForEach (λ a. P (f a)) l → ForEach P (map f l)
  for_each_map P f [] h = tt
  for_each_map P f (x ∷ xs) h = (h.0, for_each_map P f xs h.1)

module _ {T : Type 0} (extends : T → T → Type 0) (same : ℕ → T → T → Type 0) (blank : ℕ → T → Type 0) where
  abbrev St : Type 0
  St = State (Option T) (View T)

  abbrev M : Type 0
  M = Me (Option T) (View T)

  abbrev Rule : St → Type 0
  Rule = LockInvariant extends same blank

  abbrev FitsHere : T → ℕ → (ℕ → ℕ) → ℕ → Observation T → Type 0
  FitsHere = ObservationFits extends same blank

  abbrev ViewInvariantHere : ℕ → T → ℕ → (ℕ → ℕ) → ℕ → ℕ → View T → Type 0
  ViewInvariantHere = ViewInvariant extends same blank

  initial_view_invariant : (x : T) (next : ℕ) → 0 < next → ((a : T) → extends a a) → ((n : ℕ) (a : T) → same n a a) → ((k : ℕ) → next ≤ k → blank k x)
      → (j : ℕ) (d : View T) → get_elem? (idle_view 0 x next ∷ []) j ≡ some d → ViewInvariantHere 0 x next (λ _. 0) 0 j d
  initial_view_invariant x next first itself same_itself clear zero d e = subst (ViewInvariantHere 0 x next (λ _. 0) 0 0) (some-injective (idle_view 0 x next) d e) record {
    observations_fit = (record { below_next = first; owner_is = refl; extends_observed = itself x; same_as_observed = same_itself 0 x; blank_above = clear }, tt);
    out = λ y e. absurd (cc);
    first_has_next = λ _. (refl, refl);
    notes_extended = tt;
  }
  initial_view_invariant x next first itself same_itself clear (suc j) d e = absurd (some-ne-none d (sym e))

  pub initial_invariant : (x : T) (next : ℕ) → 0 < next → ((a : T) → extends a a) → ((n : ℕ) (a : T) → same n a a) → ((k : ℕ) → next ≤ k → blank k x) → Rule (opening (0 ∷ []) (Some x ∷ []) (idle_view 0 x next))
  initial_invariant x next first itself same_itself clear = record {
    value = x;
    next = next;
    owner = λ _. 0;
    holder_number = 0;
    one_word = refl;
    blank_above = clear;
    views_known = initial_view_invariant x next first itself same_itself clear;
    value_at_home = λ _. refl;
    value_is_out = λ ne. absurd (ne refl);
  }

  some_none : (x : T) → ¬ (Some x ≡ None)
  some_none x e = absurd (cc)

  abbrev slot_value_or : T → List (ℕ × Option T) → T
  slot_value_or d [] = d
  slot_value_or d (x ∷ xs) = elim (x.1) [ Some y ↦ y | None ↦ d ]

  abbrev lock_word : St → ℕ
  lock_word s = get_or s.words 0 0

  -- a seat observes the value under each of its numbers
  module _ (itself : (a : T) → extends a a) (same_itself : (n : ℕ) (a : T) → same n a a) where
    observe_all_fits : (v : T) (next : ℕ) (owner : ℕ → ℕ) (j : ℕ) (value : T) → ((k : ℕ) → next ≤ k → blank k v) → (l : List (Observation T)) → ForEach (FitsHere value next owner j) l → ForEach (FitsHere v next owner j) (observe_all v l)
    observe_all_fits v next owner j value clear l h = for_each_map (FitsHere v next owner j) (λ (p : Observation T). observation p.number v) l
        (for_each_mono (FitsHere value next owner j) (λ p. FitsHere v next owner j (observation p.number v))
        (λ p f. record { below_next = f.below_next; owner_is = f.owner_is; extends_observed = itself v; same_as_observed = same_itself p.number v; blank_above = clear }) l h)

    -- the value moves to the seat
    acquire_preserves : (s : St) (r : Rule s) (id : ℕ) (d : View T) (c : List (ℕ × Option T)) (n : ℕ) (x : T) → d.seen ≡ observation n x ∷ [] → get_elem? s.views id ≡ some d → lock_word s ≡ 0
        → Rule (stepped s 0 1 id c (acquired_view d r.value) (takes 0 (Some r.value)))
    acquire_preserves s r id d c n x one at free = let wide = r.one_word in let now : get_or (set s.words 0 1) 0 0 ≡ 1 = get_or-set_same s.words 0 1 0 (omega arith) in
        let mine = r.views_known id d at in let w : View T = acquired_view d r.value in
        let f : FitsHere r.value r.next r.owner id (observation n x) = (subst (ForEach (FitsHere r.value r.next r.owner id)) one mine.observations_fit).0 in
        let new : ViewInvariantHere 1 r.value r.next r.owner n id w = record {
          observations_fit = observe_all_fits r.value r.next r.owner id r.value r.blank_above d.seen mine.observations_fit;
          out = λ y e. ((λ z. absurd (omega arith)), cc, f.owner_is);
          first_has_next = mine.first_has_next;
          notes_extended = mine.notes_extended;
        } in
        let old : (j : ℕ) (e : View T) → j ≢ id → get_elem? s.views j ≡ some e → ViewInvariantHere 1 r.value r.next r.owner n j e = λ j e _ p. let k = r.views_known j e p in record {
          observations_fit = k.observations_fit;
          out = λ y o. absurd ((k.out y o).0 free);
          first_has_next = k.first_has_next;
          notes_extended = k.notes_extended;
        } in record {
          value = r.value;
          next = r.next;
          owner = r.owner;
          holder_number = n;
          one_word = length-set s.words 0 1 ∙ wide;
          blank_above = r.blank_above;
          views_known = subst (λ (z : ℕ). (j : ℕ) (e : View T) → get_elem? (set s.views id w) j ≡ some e → ViewInvariantHere z r.value r.next r.owner n j e) (sym now)
              (others_unchanged (ViewInvariantHere 1 r.value r.next r.owner n) s.views id w new old);
          value_at_home = λ z. absurd (omega arith);
          value_is_out = λ _. (f.below_next, (w, subst (λ (j : ℕ). get_elem? (set s.views id w) j ≡ some w) (sym f.owner_is) (set_here s.views id w (index_in_bounds s.views id d at)), refl));
        }

    -- another seat holds the value
    acquire_failed_preserves : (s : St) (r : Rule s) (id : ℕ) (d : View T) (c : List (ℕ × Option T)) → get_elem? s.views id ≡ some d → lock_word s ≢ 0 → Rule (stepped s 0 1 id c d keeps)
    acquire_failed_preserves s r id d c at busy = let wide = r.one_word in let now : get_or (set s.words 0 1) 0 0 ≡ 1 = get_or-set_same s.words 0 1 0 (omega arith) in
        subst (λ (vs : List (View T)). Rule record { words = set s.words 0 1; homes = s.homes; views = vs }) (sym (set_again s.views id d at)) record {
          value = r.value;
          next = r.next;
          owner = r.owner;
          holder_number = r.holder_number;
          one_word = length-set s.words 0 1 ∙ wide;
          blank_above = r.blank_above;
          views_known = λ j e p. let k = r.views_known j e p in record {
            observations_fit = k.observations_fit;
            out = λ y o. let t = k.out y o in ((λ z. absurd (omega arith)), t.1, t.2);
            first_has_next = k.first_has_next;
            notes_extended = k.notes_extended;
          };
          value_at_home = λ z. absurd (omega arith);
          value_is_out = λ _. r.value_is_out busy;
        }

    pub acquire_allowed : (slots id : ℕ) (me : M) (n : ℕ) (x : T) → me.0.seen ≡ observation n x ∷ [] → Allows Rule slots id me 0 (λ _. 1) (acquire_step extends same blank (step slots 0 1 0 none) me)
    acquire_allowed slots id me n x one s r _ at _ = dite (ℕ_discrete (lock_word s) 0)
        (λ free. let v : T = r.value in let mine = r.views_known id me.0 at in
        let P : Observation T → Type 0 = λ p. extends v p.value × same p.number p.value v in
        (acquired_view me.0 v, takes 0 (Some v), r.value_at_home free, acquire_preserves s r id me.0 me.1 n x one at free, ((λ _. (v, refl, for_each_mono (FitsHere v r.next r.owner id) P (λ p f. (f.extends_observed, f.same_as_observed)) me.0.seen mine.observations_fit)), λ ne. absurd (ne free))))
        (λ busy. (me.0, keeps, tt, acquire_failed_preserves s r id me.0 me.1 at busy, ((λ free. absurd (busy free)), λ _. refl)))

    module _ (further : (a b c : T) → extends c b → extends b a → extends c a) (same_further : (n : ℕ) (a b c : T) → same n a b → same n b c → same n a c)
        (same_blank : (n : ℕ) (a b : T) → same n a b → blank n a → blank n b) where
      -- the value w moves back to the slot
      release_preserves : (s : St) (r : Rule s) (id n k : ℕ) (v w : T) → get_elem? s.views id ≡ some (holder_view n v k) → 0 < length s.homes → extends w v → ((j : ℕ) → j ≢ n → same j v w)
          → Rule (stepped s 0 0 id ((0, Some w) ∷ []) (idle_view n w k) gives)
      release_preserves s r id n k v w at deep grown others = let wide = r.one_word in let now : get_or (set s.words 0 0) 0 0 ≡ 0 = get_or-set_same s.words 0 0 0 (omega arith) in
          let mine = r.views_known id (holder_view n v k) at in let f = mine.observations_fit.0 in let o = mine.out v refl in
          let grown' : extends w r.value = subst (extends w) o.1 grown in
          let others' : (j : ℕ) → j ≢ n → same j r.value w = λ j ne. subst (λ (y : T). same j y w) o.1 (others j ne) in
          let clear : (j : ℕ) → r.next ≤ j → blank j w = λ j h. let low = f.below_next in same_blank j r.value w (others' j (λ e. absurd (omega arith))) (r.blank_above j h) in
          let new : ViewInvariantHere 0 w r.next r.owner r.holder_number id (idle_view n w k) = record {
            observations_fit = (record { below_next = f.below_next; owner_is = f.owner_is; extends_observed = itself w; same_as_observed = same_itself n w; blank_above = clear }, tt);
            out = λ y e. absurd (cc);
            first_has_next = mine.first_has_next;
            notes_extended = tt;
          } in
          let old : (j : ℕ) (e : View T) → j ≢ id → get_elem? s.views j ≡ some e → ViewInvariantHere 0 w r.next r.owner r.holder_number j e = λ j e ne p. let q = r.views_known j e p in record {
            observations_fit = for_each_mono (FitsHere r.value r.next r.owner j) (FitsHere w r.next r.owner j) (λ p g. record {
              below_next = g.below_next;
              owner_is = g.owner_is;
              extends_observed = further p.value r.value w grown' g.extends_observed;
              same_as_observed = same_further p.number p.value r.value w g.same_as_observed (others' p.number (λ is. ne (sym g.owner_is ∙ (ap r.owner is ∙ f.owner_is))));
              blank_above = g.blank_above;
            }) e.seen q.observations_fit;
            out = λ y u. absurd (ne (sym (q.out y u).2 ∙ o.2));
            first_has_next = q.first_has_next;
            notes_extended = for_each_mono (extends r.value) (extends w) (λ x g. further x r.value w grown' g) e.notes q.notes_extended;
          } in record {
            value = w;
            next = r.next;
            owner = r.owner;
            holder_number = r.holder_number;
            one_word = length-set s.words 0 0 ∙ wide;
            blank_above = clear;
            views_known = subst (λ (z : ℕ). (j : ℕ) (e : View T) → get_elem? (set s.views id (idle_view n w k)) j ≡ some e → ViewInvariantHere z w r.next r.owner r.holder_number j e) (sym now)
                (others_unchanged (ViewInvariantHere 0 w r.next r.owner r.holder_number) s.views id (idle_view n w k) new old);
            value_at_home = λ _. set_here s.homes 0 (some (Some w)) deep;
            value_is_out = λ z. absurd (z now);
          }

      pub release_allowed : (slots id : ℕ) (me : M) (n k : ℕ) (v w : T) → 0 < slots → me ≡ (holder_view n v k, (0, Some w) ∷ []) → extends w v → ((j : ℕ) → j ≢ n → same j v w)
          → Allows Rule slots id me 0 (λ _. 0) (λ _. release_step extends same blank (step slots 0 0 0 none) me 0)
      release_allowed slots id me n k v w some_slot is grown others = subst (λ (m : M). Allows Rule slots id m 0 (λ _. 0) (λ _. release_step extends same blank (step slots 0 0 0 none) m 0)) (sym is)
          (λ s r deep at _. (
            idle_view n w k,
            gives,
            tt,
            release_preserves s r id n k v w at (omega arith) grown others,
            λ w' e. ap (λ (c : List (ℕ × Option T)). (idle_view n (slot_value_or w c) k, [])) e,
          ))

    -- a step that changes nothing
    read_preserves : (s : St) (id : ℕ) (d : View T) (c : List (ℕ × Option T)) → Rule s → get_elem? s.views id ≡ some d → Rule (stepped s 0 (get_or s.words 0 0) id c d keeps)
    read_preserves s id d c r at = subst (λ (z : List ℕ × List (View T)). Rule record { words = z.0; homes = s.homes; views = z.1 }) (λ i. (sym (set-get_or s.words 0 0) i, sym (set_again s.views id d at) i)) r

    pub read_allowed : (slots id : ℕ) (me : M) → Allows Rule slots id me 0 (λ n. n) (read_step extends same blank (step slots 0 0 0 none) me)
    read_allowed slots id me s r _ at _ = let mine = r.views_known id me.0 at in (
      me.0,
      keeps,
      tt,
      read_preserves s id me.0 me.1 r at,
      (refl, λ some_next. let f = mine.first_has_next some_next in for_each_mono (FitsHere r.value r.next r.owner id) (λ p. blank me.0.next p.value) (λ p g. g.blank_above me.0.next (let e = f.0 in omega arith)) me.0.seen mine.observations_fit),
    )

  at_end : {A : Type 0} (l : List A) (a b : A) (j : ℕ) → get_elem? (l ++ a ∷ []) j ≡ some b → (get_elem? l j ≡ some b) ⊎ ((a ≡ b) × (j ≡ length l))
  at_end [] a b zero e = inr (some-injective a b e, refl)
  at_end [] a b (suc j) e = absurd (some-ne-none b (sym e))
  at_end (x ∷ xs) a b zero e = inl e
  at_end (x ∷ xs) a b (suc j) e = ⊎_elim (λ h. inl h) (λ h. inr (h.0, ap suc h.1)) (at_end xs a b j e)

  -- ---- notes

  -- a view without its notes
  abbrev without_notes : View T → View T
  without_notes d = record { seen = d.seen; out = d.out; next = d.next; notes = [] }

  compare_preserves : (s : St) (r : Rule s) (id : ℕ) (d : View T) (c : List (ℕ × Option T)) → get_elem? s.views id ≡ some d → Rule (stepped s 0 (get_or s.words 0 0) id c (without_notes d) keeps)
  compare_preserves s r id d c at = let w : View T = without_notes d in let vs : List (View T) = set s.views id w in let mine = r.views_known id d at in
      let Q : ℕ → View T → Type 0 = ViewInvariantHere (lock_word s) r.value r.next r.owner r.holder_number in
      let here : Q id w = record { observations_fit = mine.observations_fit; out = mine.out; first_has_next = mine.first_has_next; notes_extended = tt } in
      subst (λ (z : List ℕ). Rule record { words = z; homes = s.homes; views = vs }) (sym (set-get_or s.words 0 0)) record {
        value = r.value;
        next = r.next;
        owner = r.owner;
        holder_number = r.holder_number;
        one_word = r.one_word;
        blank_above = r.blank_above;
        views_known = others_unchanged Q s.views id w here (λ j e _ p. r.views_known j e p);
        value_at_home = r.value_at_home;
        value_is_out = λ busy. let t = r.value_is_out busy in let f : View T = t.1.0 in (
          t.0,
          dite (ℕ_discrete (r.owner r.holder_number) id)
              (λ is. (
                w,
                subst (λ j. get_elem? vs j ≡ some w) (sym is) (set_here s.views id w (index_in_bounds s.views id d at)),
                ap (λ (z : View T). z.out) (some-injective d f (sym at ∙ (ap (get_elem? s.views) (sym is) ∙ t.1.1))) ∙ t.1.2,
              ))
              (λ not. (f, set_else s.views id (r.owner r.holder_number) w not ∙ t.1.1, t.1.2)),
        );
      }

  pub compare_allowed : (slots id : ℕ) (me : M) → Allows Rule slots id me 0 (λ n. n) (compare_step extends same blank (step slots 0 0 0 none) me)
  compare_allowed slots id me s r _ at _ = let mine = r.views_known id me.0 at in (
    without_notes me.0,
    keeps,
    tt,
    compare_preserves s r id me.0 me.1 at,
    (refl, (r.value, for_each_mono (FitsHere r.value r.next r.owner id) (λ p. extends r.value p.value) (λ p f. f.extends_observed) me.0.seen mine.observations_fit, mine.notes_extended)),
  )

  pub note_allowed : (id : ℕ) (v : View T) → Splits Rule id v v (note_view v)
  note_allowed id v s r at = let new : View T = note_view v in let vs : List (View T) = set s.views id v in
      let same_views : vs ≡ s.views = set_again s.views id v at in let mine = r.views_known id v at in
      let Q : ℕ → View T → Type 0 = ViewInvariantHere (lock_word s) r.value r.next r.owner r.holder_number in
      let last : Q (length vs) new = record {
        observations_fit = tt;
        out = λ y e. absurd (some_none y (sym e));
        first_has_next = λ h. absurd (h refl);
        notes_extended = for_each_map (extends r.value) (λ (p : Observation T). p.value) v.seen
            (for_each_mono (FitsHere r.value r.next r.owner id) (λ p. extends r.value p.value) (λ p f. f.extends_observed) v.seen mine.observations_fit);
      } in record {
        value = r.value;
        next = r.next;
        owner = r.owner;
        holder_number = r.holder_number;
        one_word = r.one_word;
        blank_above = r.blank_above;
        views_known = λ j e p. ⊎_elim (λ (h : get_elem? vs j ≡ some e). r.views_known j e (subst (λ (l : List (View T)). get_elem? l j ≡ some e) same_views h))
            (λ (h : (new ≡ e) × (j ≡ length vs)). subst (λ (z : ℕ × View T). Q z.0 z.1) (λ i. (sym h.1 i, h.0 i)) last)
            (at_end vs new e j p);
        value_at_home = r.value_at_home;
        value_is_out = λ busy. let t = r.value_is_out busy in
            (t.0, (t.1.0, at_longer vs (new ∷ []) (r.owner r.holder_number) t.1.0 (subst (λ (l : List (View T)). get_elem? l (r.owner r.holder_number) ≡ some t.1.0) (sym same_views) t.1.1), t.1.2));
      }

  -- number k belongs to this seat, and each other number to its old seat
  abbrev at_split : (ℕ → ℕ) → ℕ → ℕ → ℕ → ℕ
  at_split owner k seat n = either (eqb n k) seat (owner n)

  at_split_here : (owner : ℕ → ℕ) (k seat n : ℕ) → n ≡ k → at_split owner k seat n ≡ seat
  at_split_here owner k seat n e = ap (λ b. either b seat (owner n)) (eq-eqb n k e)

  at_split_else : (owner : ℕ → ℕ) (k seat n : ℕ) → n ≢ k → at_split owner k seat n ≡ owner n
  at_split_else owner k seat n e = ap (λ b. either b seat (owner n)) (ne_eqb n k e)

  -- the numbers of one seat belong to another, and each other number to its old seat
  abbrev at_join : (ℕ → ℕ) → ℕ → ℕ → ℕ → ℕ
  at_join owner from to n = either (eqb (owner n) from) to (owner n)

  at_join_here : (owner : ℕ → ℕ) (from to n : ℕ) → owner n ≡ from → at_join owner from to n ≡ to
  at_join_here owner from to n e = ap (λ b. either b to (owner n)) (eq-eqb (owner n) from e)

  at_join_else : (owner : ℕ → ℕ) (from to n : ℕ) → owner n ≢ from → at_join owner from to n ≡ owner n
  at_join_else owner from to n e = ap (λ b. either b to (owner n)) (ne_eqb (owner n) from e)

  fits_of_join : (s : St) (r : Rule s) (other id j j' : ℕ) → ((n : ℕ) → r.owner n ≡ j → at_join r.owner other id n ≡ j') → (l : List (Observation T)) → ForEach (FitsHere r.value r.next r.owner j) l → ForEach (FitsHere r.value r.next (at_join r.owner other id) j') l
  fits_of_join s r other id j j' to l h = for_each_mono (FitsHere r.value r.next r.owner j) (FitsHere r.value r.next (at_join r.owner other id) j') (λ p f. record {
    below_next = f.below_next;
    owner_is = to p.number f.owner_is;
    extends_observed = f.extends_observed;
    same_as_observed = f.same_as_observed;
    blank_above = f.blank_above;
  }) l h

  pub join_allowed : (id : ℕ) (v : View T) (other : ℕ) (w : View T) → w.out ≡ None → Joins Rule id v other w (join_views v w) empty_view
  join_allowed id v other w idle s r at apart there' = let both : View T = join_views v w in let vs : List (View T) = set s.views id both in
      let there : get_elem? s.views other ≡ some w = sym (set_else s.views id other both apart) ∙ there' in
      let O : ℕ → ℕ = at_join r.owner other id in
      let Q : ℕ → View T → Type 0 = ViewInvariantHere (lock_word s) r.value r.next O r.holder_number in
      let mine = r.views_known id v at in let its = r.views_known other w there in
      let kept_id : (n : ℕ) → r.owner n ≡ id → O n ≡ id = λ n e. at_join_else r.owner other id n (λ h. apart (sym h ∙ e)) ∙ e in
      let its_id : (n : ℕ) → r.owner n ≡ other → O n ≡ id = λ n e. at_join_here r.owner other id n e in
      let here : Q id both = record {
        observations_fit = for_each_append (FitsHere r.value r.next O id) v.seen w.seen (fits_of_join s r other id id id kept_id v.seen mine.observations_fit) (fits_of_join s r other id other id its_id w.seen its.observations_fit);
        out = λ y o. let t = mine.out y o in (t.0, t.1, kept_id r.holder_number t.2);
        first_has_next = λ h. dite (ℕ_discrete v.next 0)
            (λ z. let f = its.first_has_next (λ e. h (omega arith)) in (let q = f.0 in omega arith, its_id 0 f.1))
            (λ some_next. let f = mine.first_has_next some_next in dite (ℕ_discrete w.next 0)
            (λ z. (let q = f.0 in omega arith, kept_id 0 f.1))
            (λ more. absurd (apart (sym (its.first_has_next more).1 ∙ f.1))));
        notes_extended = for_each_append (extends r.value) v.notes w.notes mine.notes_extended its.notes_extended;
      } in
      let others : (j : ℕ) (e : View T) → j ≢ id → get_elem? s.views j ≡ some e → j ≢ other → Q j e = λ j e _ p ne. let q = r.views_known j e p in
      let stays : (n : ℕ) → r.owner n ≡ j → O n ≡ j = λ n h. at_join_else r.owner other id n (λ g. ne (sym h ∙ g)) ∙ h in record {
        observations_fit = fits_of_join s r other id j j stays e.seen q.observations_fit;
        out = λ y o. let t = q.out y o in (t.0, t.1, stays r.holder_number t.2);
        first_has_next = λ h. let f = q.first_has_next h in (f.0, stays 0 f.1);
        notes_extended = q.notes_extended;
      } in
      let last : Q other empty_view = record { observations_fit = tt; out = λ y e. absurd (some_none y (sym e)); first_has_next = λ h. absurd (h refl); notes_extended = tt } in record {
        value = r.value;
        next = r.next;
        owner = O;
        holder_number = r.holder_number;
        one_word = r.one_word;
        blank_above = r.blank_above;
        views_known = others_unchanged Q vs other empty_view last (λ j e ne p. others_unchanged (λ i d. i ≢ other → Q i d) s.views id both (λ _. here) others j e p ne);
        value_at_home = r.value_at_home;
        value_is_out = λ busy. let t = r.value_is_out busy in let d : View T = t.1.0 in
            let ne : r.owner r.holder_number ≢ other = λ e. absurd (some_none r.value (sym t.1.2 ∙ (ap (λ (z : View T). z.out) (some-injective d w (sym t.1.1 ∙ (ap (get_elem? s.views) e ∙ there))) ∙ idle))) in
            let same_turn : O r.holder_number ≡ r.owner r.holder_number = at_join_else r.owner other id r.holder_number ne in
            let found : (e : View T) × (get_elem? vs (r.owner r.holder_number) ≡ some e) × (e.out ≡ Some r.value) = dite (ℕ_discrete (r.owner r.holder_number) id)
            (λ is. (
              both,
              subst (λ j. get_elem? vs j ≡ some both) (sym is) (set_here s.views id both (index_in_bounds s.views id v at)),
              ap (λ (z : View T). z.out) (some-injective v d (sym at ∙ (ap (get_elem? s.views) (sym is) ∙ t.1.1))) ∙ t.1.2,
            ))
            (λ not. (d, set_else s.views id (r.owner r.holder_number) both not ∙ t.1.1, t.1.2)) in
            (t.0, (found.0, subst (λ j. get_elem? (set vs other empty_view) j ≡ some found.0) (sym same_turn) (set_else vs other (r.owner r.holder_number) empty_view ne ∙ found.1), found.2));
      }

  module _ (blank_same : (n : ℕ) (a b : T) → blank n a → blank n b → same n a b) where
    fits_of_split : (s : St) (r : Rule s) (seat j : ℕ) (l : List (Observation T)) → ForEach (FitsHere r.value r.next r.owner j) l → ForEach (FitsHere r.value (r.next + 1) (at_split r.owner r.next seat) j) l
    fits_of_split s r seat j l h = for_each_mono (FitsHere r.value r.next r.owner j) (FitsHere r.value (r.next + 1) (at_split r.owner r.next seat) j) (λ p f. record {
      below_next = let low = f.below_next in omega arith;
      owner_is = let low = f.below_next in at_split_else r.owner r.next seat p.number (λ e. absurd (omega arith)) ∙ f.owner_is;
      extends_observed = f.extends_observed;
      same_as_observed = f.same_as_observed;
      blank_above = λ k h. f.blank_above k (omega arith);
    }) l h

    pub split_allowed : (id n k : ℕ) (x : T) → 0 < k → Splits Rule id (idle_view n x k) (splitter_view (idle_view n x k)) (split_off_view (idle_view n x k))
    split_allowed id n k x some_next s r at = let v : View T = idle_view n x k in let w : View T = splitter_view v in let new : View T = split_off_view v in
        let seat : ℕ = length s.views in let vs : List (View T) = set s.views id w in
        let mine = r.views_known id v at in let f = mine.first_has_next (λ e. absurd (omega arith)) in let is : k ≡ r.next = f.0 in
        let O : ℕ → ℕ = at_split r.owner r.next seat in let N : ℕ = r.next + 1 in
        let own_turn : lock_word s ≢ 0 → O r.holder_number ≡ r.owner r.holder_number = λ busy. let low = (r.value_is_out busy).0 in at_split_else r.owner r.next seat r.holder_number (λ e. absurd (omega arith)) in
        let Q : ℕ → View T → Type 0 = ViewInvariantHere (lock_word s) r.value N O r.holder_number in
        let here : Q id w = record {
          observations_fit = fits_of_split s r seat id v.seen mine.observations_fit;
          out = λ y e. absurd (cc);
          first_has_next = λ _. (ap (λ z. z + 1) is, at_split_else r.owner r.next seat 0 (λ e. absurd (omega arith)) ∙ f.1);
          notes_extended = tt;
        } in
        let others : (j : ℕ) (e : View T) → j ≢ id → get_elem? s.views j ≡ some e → Q j e = λ j e ne p. let q = r.views_known j e p in record {
          observations_fit = fits_of_split s r seat j e.seen q.observations_fit;
          out = λ y o. let t = q.out y o in (t.0, t.1, own_turn t.0 ∙ t.2);
          first_has_next = λ h. absurd (ne (sym (q.first_has_next h).1 ∙ f.1));
          notes_extended = q.notes_extended;
        } in
        let fits = mine.observations_fit.0 in
        let last : Q seat new = record {
          observations_fit = (
            record {
              below_next = omega arith;
              owner_is = at_split_here r.owner r.next seat k is;
              extends_observed = fits.extends_observed;
              same_as_observed = blank_same k x r.value (fits.blank_above k (omega arith)) (r.blank_above k (omega arith));
              blank_above = λ j h. fits.blank_above j (omega arith);
            },
            tt,
          );
          out = λ y e. absurd (cc);
          first_has_next = λ h. absurd (h refl);
          notes_extended = tt;
        } in record {
          value = r.value;
          next = N;
          owner = O;
          holder_number = r.holder_number;
          one_word = r.one_word;
          blank_above = λ j h. r.blank_above j (omega arith);
          views_known = λ j e p. ⊎_elim (λ (h : get_elem? vs j ≡ some e). others_unchanged Q s.views id w here others j e h)
              (λ (h : (new ≡ e) × (j ≡ length vs)). subst (λ (z : ℕ × View T). Q z.0 z.1) (λ i. (sym (h.1 ∙ length-set s.views id w) i, h.0 i)) last)
              (at_end vs new e j p);
          value_at_home = r.value_at_home;
          value_is_out = λ busy. let t = r.value_is_out busy in let ne : r.owner r.holder_number ≢ id = λ e. absurd (some_none r.value (sym t.1.2 ∙ ap (λ (z : View T). z.out) (some-injective t.1.0 v (sym t.1.1 ∙ (ap (get_elem? s.views) e ∙ at))))) in
              (let low = t.0 in omega arith, (t.1.0, subst (λ j. get_elem? (vs ++ new ∷ []) j ≡ some t.1.0) (sym (own_turn busy)) (at_longer vs (new ∷ []) (r.owner r.holder_number) t.1.0 (set_else s.views id (r.owner r.holder_number) w ne ∙ t.1.1)), t.1.2));
        }
