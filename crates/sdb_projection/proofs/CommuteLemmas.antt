-- The projection of a value before and after an operation.
use Rattle.std.proofs.Common.{◌≡◌, ℕ, ℤ, ◌+ℤ◌, List, [], ◌∷◌, Bool, true, false, cond, Option, Some, None, Less, Equal, Greater, refl, sym, ap, ◌∙◌, subst}
use Rattle.std.specs.declared.cmp.Ordering.{Ordering}
use Rattle.std.specs.Ordering.{nat_cmp, is_eq, match_ordering, ordering_reverse}
use Rattle.std.specs.Cmp.Lexicographic.{slice_cmp}
use Rattle.std.proofs.lemmas.Cmp.{nat_list_cmp_total}
use Rattle.std.specs.Prelude.{⊤}
use Rattle.std.specs.FinMap.{nat_cmp-IsAntisymmetric, slice_cmp-IsAntisymmetric}
use Rattle.std.specs.Option.{option_map, option_and_then, option_map_or}
use Rattle.sdb_value.specs.Value.{Value, null, truth, whole, text, list, object, Items, Members, no_members, member, PlainStep, key, index, texts_equal, member_at, set_member, put_member, without_member, insert_item, remove_item, replace_item, item_at, with_child, value_at, with_value_at}
use Rattle.sdb_rope.specs.Utf16.{insert_text, remove_text}
use Rattle.sdb_value.specs.FromJson.{checked_whole}
use Rattle.sdb_value.specs.WellFormed.{IsWellFormed, IsKeyBelowAll, MembersWellFormed}
use Rattle.sdb_component.specs.Plain.{PlainAct, na, si, sd, li, ld, lr, oi, od, or, PlainComponent}
use Rattle.sdb_apply.specs.Apply.{map_number, map_text, map_list, map_object, apply_act, apply_one, apply}
use Rattle.sdb_projection.specs.ProjectionModel.{is_field, project_members, proj, is_visible_component, proj_op}
use Rattle.sdb_projection.specs.ProjectionLaw.{ProjectionCommutes}

abbrev FieldList : Type 0
FieldList = List (List ℕ)

-- ---- keys

by_order : (o : Ordering) (k l : List ℕ) → slice_cmp nat_cmp k l ≡ o → is_eq o ≡ true → k ≡ l
by_order Less k l is h = cc
by_order Equal k l is h = slice_cmp-IsAntisymmetric nat_cmp-IsAntisymmetric k l is
by_order Greater k l is h = cc

same_key : (k l : List ℕ) → texts_equal k l ≡ true → k ≡ l
same_key k l h = by_order (slice_cmp nat_cmp k l) k l refl h

-- ---- visible members

-- the value at a field is unchanged by the projection
shown_at_or : (b c : Bool) (fields : FieldList) (k l : List ℕ) (d : Value) (ms : Members) → texts_equal k l ≡ b → is_field fields l ≡ c → is_field fields k ≡ true → member_at k (project_members fields ms) ≡ member_at k ms
    → member_at k (cond c (member l d (project_members fields ms)) (project_members fields ms)) ≡ cond b (Some d) (member_at k ms)
shown_at_or b true fields k l d ms same is listed below = ap (λ t. cond t (Some d) (member_at k (project_members fields ms))) same ∙ ap (cond b (Some d)) below
shown_at_or true false fields k l d ms same is listed below = let n : true ≡ false = sym listed ∙ ap (is_field fields) (same_key k l same) ∙ is in cc
shown_at_or false false fields k l d ms same is listed below = below

shown_at : (fields : FieldList) (k : List ℕ) (ms : Members) → is_field fields k ≡ true → member_at k (project_members fields ms) ≡ member_at k ms
shown_at fields k no_members listed = refl
shown_at fields k (member l d ms) listed = shown_at_or (texts_equal k l) (is_field fields l) fields k l d ms refl refl listed (shown_at fields k ms listed)

-- a field is set in the projected members
shown_set_or : (b c : Bool) (fields : FieldList) (k l : List ℕ) (d u : Value) (ms : Members) → texts_equal k l ≡ b → is_field fields l ≡ c → is_field fields k ≡ true → set_member k (project_members fields ms) u ≡ project_members fields (set_member k ms u)
    → set_member k (cond c (member l d (project_members fields ms)) (project_members fields ms)) u ≡ project_members fields (cond b (member l u ms) (member l d (set_member k ms u)))
shown_set_or true true fields k l d u ms same is listed below =
    ap (λ t. cond t (member l u (project_members fields ms)) (member l d (set_member k (project_members fields ms) u))) same ∙ ap (λ t. cond t (member l u (project_members fields ms)) (project_members fields ms)) (sym is)
shown_set_or false true fields k l d u ms same is listed below =
    ap (λ t. cond t (member l u (project_members fields ms)) (member l d (set_member k (project_members fields ms) u))) same ∙ ap (member l d) below
    ∙ ap (λ t. cond t (member l d (project_members fields (set_member k ms u))) (project_members fields (set_member k ms u))) (sym is)
shown_set_or true false fields k l d u ms same is listed below = let n : true ≡ false = sym listed ∙ ap (is_field fields) (same_key k l same) ∙ is in cc
shown_set_or false false fields k l d u ms same is listed below = below ∙ ap (λ t. cond t (member l d (project_members fields (set_member k ms u))) (project_members fields (set_member k ms u))) (sym is)

shown_set : (fields : FieldList) (k : List ℕ) (u : Value) (ms : Members) → is_field fields k ≡ true → set_member k (project_members fields ms) u ≡ project_members fields (set_member k ms u)
shown_set fields k u no_members listed = refl
shown_set fields k u (member l d ms) listed = shown_set_or (texts_equal k l) (is_field fields l) fields k l d u ms refl refl listed (shown_set fields k u ms listed)

-- a key that is no field isn't visible
hidden_set_or : (b : Bool) (fields : FieldList) (k l : List ℕ) (d u : Value) (ms rest : Members) → texts_equal k l ≡ b → is_field fields k ≡ false → project_members fields rest ≡ project_members fields ms
    → project_members fields (cond b (member l u ms) (member l d rest)) ≡ cond (is_field fields l) (member l d (project_members fields ms)) (project_members fields ms)
hidden_set_or true fields k l d u ms rest same other below =
    let is : is_field fields l ≡ false = ap (is_field fields) (sym (same_key k l same)) ∙ other in
    ap (λ t. cond t (member l u (project_members fields ms)) (project_members fields ms)) is ∙ ap (λ t. cond t (member l d (project_members fields ms)) (project_members fields ms)) (sym is)
hidden_set_or false fields k l d u ms rest same other below = ap (λ r. cond (is_field fields l) (member l d r) r) below

hidden_set : (fields : FieldList) (k : List ℕ) (u : Value) (ms : Members) → is_field fields k ≡ false → project_members fields (set_member k ms u) ≡ project_members fields ms
hidden_set fields k u no_members other = refl
hidden_set fields k u (member l d ms) other = hidden_set_or (texts_equal k l) fields k l d u ms (set_member k ms u) refl other (hidden_set fields k u ms other)

-- a field is removed from the projected members
shown_without_or : (b c : Bool) (fields : FieldList) (k l : List ℕ) (d : Value) (ms : Members) → texts_equal k l ≡ b → is_field fields l ≡ c → is_field fields k ≡ true → without_member k (project_members fields ms) ≡ project_members fields (without_member k ms)
    → without_member k (cond c (member l d (project_members fields ms)) (project_members fields ms)) ≡ project_members fields (cond b ms (member l d (without_member k ms)))
shown_without_or true true fields k l d ms same is listed below = ap (λ t. cond t (project_members fields ms) (member l d (without_member k (project_members fields ms)))) same
shown_without_or false true fields k l d ms same is listed below =
    ap (λ t. cond t (project_members fields ms) (member l d (without_member k (project_members fields ms)))) same ∙ ap (member l d) below ∙ ap (λ t. cond t (member l d (project_members fields (without_member k ms))) (project_members fields (without_member k ms))) (sym is)
shown_without_or true false fields k l d ms same is listed below = let n : true ≡ false = sym listed ∙ ap (is_field fields) (same_key k l same) ∙ is in cc
shown_without_or false false fields k l d ms same is listed below = below ∙ ap (λ t. cond t (member l d (project_members fields (without_member k ms))) (project_members fields (without_member k ms))) (sym is)

shown_without : (fields : FieldList) (k : List ℕ) (ms : Members) → is_field fields k ≡ true → without_member k (project_members fields ms) ≡ project_members fields (without_member k ms)
shown_without fields k no_members listed = refl
shown_without fields k (member l d ms) listed = shown_without_or (texts_equal k l) (is_field fields l) fields k l d ms refl refl listed (shown_without fields k ms listed)

hidden_without_or : (b : Bool) (fields : FieldList) (k l : List ℕ) (d : Value) (ms rest : Members) → texts_equal k l ≡ b → is_field fields k ≡ false → project_members fields rest ≡ project_members fields ms
    → project_members fields (cond b ms (member l d rest)) ≡ cond (is_field fields l) (member l d (project_members fields ms)) (project_members fields ms)
hidden_without_or true fields k l d ms rest same other below =
    let is : is_field fields l ≡ false = ap (is_field fields) (sym (same_key k l same)) ∙ other in ap (λ t. cond t (member l d (project_members fields ms)) (project_members fields ms)) (sym is)
hidden_without_or false fields k l d ms rest same other below = ap (λ r. cond (is_field fields l) (member l d r) r) below

hidden_without : (fields : FieldList) (k : List ℕ) (ms : Members) → is_field fields k ≡ false → project_members fields (without_member k ms) ≡ project_members fields ms
hidden_without fields k no_members other = refl
hidden_without fields k (member l d ms) other = hidden_without_or (texts_equal k l) fields k l d ms (without_member k ms) refl other (hidden_without fields k ms other)

-- ---- members sorted by key

abbrev KeysAscend : Members → Type 0
KeysAscend no_members = ⊤
KeysAscend (member k d ms) = IsKeyBelowAll k ms × KeysAscend ms

keys_ascend_of_well_formed : (ms : Members) → MembersWellFormed ms → KeysAscend ms
keys_ascend_of_well_formed no_members h = tt
keys_ascend_of_well_formed (member k d ms) h = (h.2, keys_ascend_of_well_formed ms h.3)

below_below : (k l : List ℕ) (ms : Members) → slice_cmp nat_cmp k l ≡ Less → IsKeyBelowAll l ms → IsKeyBelowAll k ms
below_below k l no_members h b = tt
below_below k l (member m d ms) h b = (nat_list_cmp_total.trans k l m h b.0, below_below k l ms h b.1)

below_shown_or : (c : Bool) (k l : List ℕ) (d : Value) (rest : Members) → slice_cmp nat_cmp k l ≡ Less → IsKeyBelowAll k rest → IsKeyBelowAll k (cond c (member l d rest) rest)
below_shown_or true k l d rest h b = (h, b)
below_shown_or false k l d rest h b = b

below_shown : (fields : FieldList) (k : List ℕ) (ms : Members) → IsKeyBelowAll k ms → IsKeyBelowAll k (project_members fields ms)
below_shown fields k no_members b = tt
below_shown fields k (member l d ms) b = below_shown_or (is_field fields l) k l d (project_members fields ms) b.0 (below_shown fields k ms b.1)

put_below : (k : List ℕ) (u : Value) (ms : Members) → IsKeyBelowAll k ms → put_member k u ms ≡ member k u ms
put_below k u no_members b = refl
put_below k u (member l d ms) b = ap (λ o. match_ordering o (member k u (member l d ms)) (member l u ms) (member l d (put_member k u ms))) b.0

-- ---- a member that is inserted

shown_put_or : (o : Ordering) (c : Bool) (fields : FieldList) (k l : List ℕ) (d u : Value) (ms : Members) → slice_cmp nat_cmp k l ≡ o → is_field fields l ≡ c → is_field fields k ≡ true → IsKeyBelowAll l ms
    → put_member k u (project_members fields ms) ≡ project_members fields (put_member k u ms)
    → put_member k u (cond c (member l d (project_members fields ms)) (project_members fields ms)) ≡ project_members fields (match_ordering o (member k u (member l d ms)) (member l u ms) (member l d (put_member k u ms)))
shown_put_or Less c fields k l d u ms cmp is listed b below =
    let all = cond c (member l d (project_members fields ms)) (project_members fields ms) in
    put_below k u all (below_shown_or c k l d (project_members fields ms) cmp (below_shown fields k ms (below_below k l ms cmp b)))
    ∙ ap (λ t. member k u (cond t (member l d (project_members fields ms)) (project_members fields ms))) (sym is)
    ∙ ap (λ t. cond t (member k u (project_members fields (member l d ms))) (project_members fields (member l d ms))) (sym listed)
shown_put_or Equal true fields k l d u ms cmp is listed b below =
    ap (λ o. match_ordering o (member k u (member l d (project_members fields ms))) (member l u (project_members fields ms)) (member l d (put_member k u (project_members fields ms)))) cmp
    ∙ ap (λ t. cond t (member l u (project_members fields ms)) (project_members fields ms)) (sym is)
shown_put_or Equal false fields k l d u ms cmp is listed b below =
    let n : true ≡ false = sym listed ∙ ap (is_field fields) (slice_cmp-IsAntisymmetric nat_cmp-IsAntisymmetric k l cmp) ∙ is in cc
shown_put_or Greater true fields k l d u ms cmp is listed b below =
    ap (λ o. match_ordering o (member k u (member l d (project_members fields ms))) (member l u (project_members fields ms)) (member l d (put_member k u (project_members fields ms)))) cmp
    ∙ ap (member l d) below ∙ ap (λ t. cond t (member l d (project_members fields (put_member k u ms))) (project_members fields (put_member k u ms))) (sym is)
shown_put_or Greater false fields k l d u ms cmp is listed b below = below ∙ ap (λ t. cond t (member l d (project_members fields (put_member k u ms))) (project_members fields (put_member k u ms))) (sym is)

shown_put : (fields : FieldList) (k : List ℕ) (u : Value) (ms : Members) → is_field fields k ≡ true → KeysAscend ms → put_member k u (project_members fields ms) ≡ project_members fields (put_member k u ms)
shown_put fields k u no_members listed h = ap (λ t. cond t (member k u no_members) no_members) (sym listed)
shown_put fields k u (member l d ms) listed h = shown_put_or (slice_cmp nat_cmp k l) (is_field fields l) fields k l d u ms refl refl listed h.0 (shown_put fields k u ms listed h.1)

hidden_put_or : (o : Ordering) (fields : FieldList) (k l : List ℕ) (d u : Value) (ms rest : Members) → slice_cmp nat_cmp k l ≡ o → is_field fields k ≡ false → project_members fields rest ≡ project_members fields ms
    → project_members fields (match_ordering o (member k u (member l d ms)) (member l u ms) (member l d rest)) ≡ project_members fields (member l d ms)
hidden_put_or Less fields k l d u ms rest cmp other below = ap (λ t. cond t (member k u (project_members fields (member l d ms))) (project_members fields (member l d ms))) other
hidden_put_or Equal fields k l d u ms rest cmp other below =
    let is : is_field fields l ≡ false = ap (is_field fields) (sym (slice_cmp-IsAntisymmetric nat_cmp-IsAntisymmetric k l cmp)) ∙ other in
    ap (λ t. cond t (member l u (project_members fields ms)) (project_members fields ms)) is ∙ ap (λ t. cond t (member l d (project_members fields ms)) (project_members fields ms)) (sym is)
hidden_put_or Greater fields k l d u ms rest cmp other below = ap (λ r. cond (is_field fields l) (member l d r) r) below

hidden_put : (fields : FieldList) (k : List ℕ) (u : Value) (ms : Members) → is_field fields k ≡ false → project_members fields (put_member k u ms) ≡ project_members fields ms
hidden_put fields k u no_members other = ap (λ t. cond t (member k u no_members) no_members) other
hidden_put fields k u (member l d ms) other = hidden_put_or (slice_cmp nat_cmp k l) fields k l d u ms (put_member k u ms) refl other (hidden_put fields k u ms other)

-- ---- the order is preserved

below_put_or : (o : Ordering) (x k l : List ℕ) (d u : Value) (ms rest : Members) → slice_cmp nat_cmp x k ≡ Less → IsKeyBelowAll x (member l d ms) → IsKeyBelowAll x rest
    → IsKeyBelowAll x (match_ordering o (member k u (member l d ms)) (member l u ms) (member l d rest))
below_put_or Less x k l d u ms rest h b below = (h, b)
below_put_or Equal x k l d u ms rest h b below = b
below_put_or Greater x k l d u ms rest h b below = (b.0, below)

below_put : (x k : List ℕ) (u : Value) (ms : Members) → slice_cmp nat_cmp x k ≡ Less → IsKeyBelowAll x ms → IsKeyBelowAll x (put_member k u ms)
below_put x k u no_members h b = (h, tt)
below_put x k u (member l d ms) h b = below_put_or (slice_cmp nat_cmp k l) x k l d u ms (put_member k u ms) h b (below_put x k u ms h b.1)

ascend_put_or : (o : Ordering) (k l : List ℕ) (d u : Value) (ms rest : Members) → slice_cmp nat_cmp k l ≡ o → KeysAscend (member l d ms) → (slice_cmp nat_cmp l k ≡ Less → IsKeyBelowAll l rest) → KeysAscend rest
    → KeysAscend (match_ordering o (member k u (member l d ms)) (member l u ms) (member l d rest))
ascend_put_or Less k l d u ms rest cmp h b below = ((cmp, below_below k l ms cmp h.0), h)
ascend_put_or Equal k l d u ms rest cmp h b below = h
ascend_put_or Greater k l d u ms rest cmp h b below = (b (nat_list_cmp_total.antisymm l k ∙ ap ordering_reverse cmp), below)

ascend_put : (k : List ℕ) (u : Value) (ms : Members) → KeysAscend ms → KeysAscend (put_member k u ms)
ascend_put k u no_members h = (tt, tt)
ascend_put k u (member l d ms) h = ascend_put_or (slice_cmp nat_cmp k l) k l d u ms (put_member k u ms) refl h (λ less. below_put l k u ms less h.0) (ascend_put k u ms h.1)

below_set : (x k : List ℕ) (u : Value) (ms : Members) → IsKeyBelowAll x ms → IsKeyBelowAll x (set_member k ms u)
below_set x k u no_members b = tt
below_set x k u (member l d ms) b = elim (texts_equal k l) as (λ t. IsKeyBelowAll x (cond t (member l u ms) (member l d (set_member k ms u)))) [
  | true ↦ b
  | false ↦ (b.0, below_set x k u ms b.1)
]

ascend_set : (k : List ℕ) (u : Value) (ms : Members) → KeysAscend ms → KeysAscend (set_member k ms u)
ascend_set k u no_members h = tt
ascend_set k u (member l d ms) h = elim (texts_equal k l) as (λ t. KeysAscend (cond t (member l u ms) (member l d (set_member k ms u)))) [
  | true ↦ h
  | false ↦ (below_set l k u ms h.0, ascend_set k u ms h.1)
]

below_without : (x k : List ℕ) (ms : Members) → IsKeyBelowAll x ms → IsKeyBelowAll x (without_member k ms)
below_without x k no_members b = tt
below_without x k (member l d ms) b = elim (texts_equal k l) as (λ t. IsKeyBelowAll x (cond t ms (member l d (without_member k ms)))) [
  | true ↦ b.1
  | false ↦ (b.0, below_without x k ms b.1)
]

ascend_without : (k : List ℕ) (ms : Members) → KeysAscend ms → KeysAscend (without_member k ms)
ascend_without k no_members h = tt
ascend_without k (member l d ms) h = elim (texts_equal k l) as (λ t. KeysAscend (cond t ms (member l d (without_member k ms)))) [
  | true ↦ h.1
  | false ↦ (below_without l k ms h.0, ascend_without k ms h.1)
]

-- ---- one component

-- the members of an object are sorted by key
abbrev IsOrderedObject : Value → Type 0
IsOrderedObject (object ms) = KeysAscend ms
IsOrderedObject _ = ⊤

-- a visible component has its effect on the projected value; any other has none
abbrev ShowsEffect : Bool → FieldList → PlainComponent → Value → Value → Type 0
ShowsEffect true fields c d e = apply_one c (proj fields d) ≡ Some (proj fields e)
ShowsEffect false fields c d e = proj fields e ≡ proj fields d

each_made : (P : Value → Type 0) (f : Value → Value) (r : Option Value) (e : Value) → ((v : Value) → P (f v)) → option_map f r ≡ Some e → P e
each_made P f None e h is = cc
each_made P f (Some v) e h is = let s : f v ≡ e = cc in subst P s (h v)

map_of_some : (P : Value → Type 0) (f : Value → Value) (g : Value → Option Value) (o : Option Value) (e : Value) → ((v : Value) → P (f v)) → option_and_then (λ u. option_map f (g u)) o ≡ Some e → P e
map_of_some P f g None e h is = cc
map_of_some P f g (Some u) e h is = each_made P f (g u) e h is

alike_made : (t f h : Value → Value) (r : Option Value) (e : Value) → ((v : Value) → h v ≡ t (f v)) → option_map f r ≡ Some e → option_map h r ≡ Some (t e)
alike_made t f h None e same is = cc
alike_made t f h (Some v) e same is = let s : f v ≡ e = cc in ap Some (same v ∙ ap t s)

map_agrees : (t f h : Value → Value) (g : Value → Option Value) (o : Option Value) (e : Value) → ((v : Value) → h v ≡ t (f v)) → option_and_then (λ u. option_map f (g u)) o ≡ Some e → option_and_then (λ u. option_map h (g u)) o ≡ Some (t e)
map_agrees t f h g None e same is = cc
map_agrees t f h g (Some u) e same is = alike_made t f h (g u) e same is

-- ---- at the root

seen_members : (b : Bool) (fields : FieldList) (a : PlainAct) (f : Members → Members) (ms : Members) (e : Value) → ((d : Value) → apply_act a d ≡ map_object f d) → Some (object (f ms)) ≡ Some e
    → (b ≡ true → f (project_members fields ms) ≡ project_members fields (f ms)) → (b ≡ false → project_members fields (f ms) ≡ project_members fields ms) → ShowsEffect b fields (record { path = []; act = a }) (object ms) e
seen_members true fields a f ms e acts is same hidden =
    let s : object (f ms) ≡ e = cc in ap (option_map (λ u. u)) (acts (object (project_members fields ms))) ∙ ap (λ l. Some (object l)) (same refl) ∙ ap (λ v. Some (proj fields v)) s
seen_members false fields a f ms e acts is same hidden = let s : object (f ms) ≡ e = cc in ap (proj fields) (sym s) ∙ ap object (hidden refl)

record StepShows (fields : FieldList) (c : PlainComponent) (d e : Value) : Type 0 where
  pub seen : ShowsEffect (is_visible_component fields c) fields c d e
  pub ordered : IsOrderedObject e

abbrev at_root : PlainAct → PlainComponent
at_root a = record { path = []; act = a }

null_made : {A : Type 0} (fields : FieldList) (g : A → Value) (d e : Value) (o : Option A) → ((x : A) → (proj fields (g x) ≡ null) × IsOrderedObject (g x)) → option_map (with_value_at d []) (option_map g o) ≡ Some e → (proj fields e ≡ null) × IsOrderedObject e
null_made fields g d e None h is = cc
null_made fields g d e (Some x) h is = let s : g x ≡ e = cc in let P : Value → Type 0 = λ v. (proj fields v ≡ null) × IsOrderedObject v in subst P s (h x)

number_root : (fields : FieldList) (f : ℤ → Option ℤ) (d e : Value) → option_map (with_value_at d []) (map_number f d) ≡ Some e → (proj fields e ≡ proj fields d) × IsOrderedObject e
number_root fields f (whole n) e h = null_made fields whole (whole n) e (f n) (λ x. (refl, tt)) h
number_root fields f null e h = cc
number_root fields f (truth b) e h = cc
number_root fields f (text s) e h = cc
number_root fields f (list ds) e h = cc
number_root fields f (object ms) e h = cc

text_root : (fields : FieldList) (f : List ℕ → Option (List ℕ)) (d e : Value) → option_map (with_value_at d []) (map_text f d) ≡ Some e → (proj fields e ≡ proj fields d) × IsOrderedObject e
text_root fields f (text s) e h = null_made fields text (text s) e (f s) (λ x. (refl, tt)) h
text_root fields f null e h = cc
text_root fields f (truth b) e h = cc
text_root fields f (whole n) e h = cc
text_root fields f (list ds) e h = cc
text_root fields f (object ms) e h = cc

list_root : (fields : FieldList) (f : Items → Option Items) (d e : Value) → option_map (with_value_at d []) (map_list f d) ≡ Some e → (proj fields e ≡ proj fields d) × IsOrderedObject e
list_root fields f (list ds) e h = null_made fields list (list ds) e (f ds) (λ x. (refl, tt)) h
list_root fields f null e h = cc
list_root fields f (truth b) e h = cc
list_root fields f (whole n) e h = cc
list_root fields f (text s) e h = cc
list_root fields f (object ms) e h = cc

-- a change of the members that changes no key but k
record TouchesOneKey (fields : FieldList) (k : List ℕ) (f : Members → Members) (ms : Members) : Type 0 where
  pub listed : is_field fields k ≡ true → f (project_members fields ms) ≡ project_members fields (f ms)
  pub hidden : is_field fields k ≡ false → project_members fields (f ms) ≡ project_members fields ms
  pub ordered : KeysAscend (f ms)

object_root : (fields : FieldList) (a : PlainAct) (k : List ℕ) (f : Members → Members) (d e : Value) → ((x : Value) → apply_act a x ≡ map_object f x) → option_map (with_value_at d []) (map_object f d) ≡ Some e → IsOrderedObject d
    → ((ms : Members) → KeysAscend ms → TouchesOneKey fields k f ms) → ShowsEffect (is_field fields k) fields (at_root a) d e × IsOrderedObject e
object_root fields a k f (object ms) e acts h ordered touches =
    let t = touches ms ordered in
    let s : object (f ms) ≡ e = cc in
    (seen_members (is_field fields k) fields a f ms e acts (ap Some s) t.listed t.hidden, subst IsOrderedObject s t.ordered)
object_root fields a k f null e acts h ordered touches = cc
object_root fields a k f (truth b) e acts h ordered touches = cc
object_root fields a k f (whole n) e acts h ordered touches = cc
object_root fields a k f (text s) e acts h ordered touches = cc
object_root fields a k f (list ds) e acts h ordered touches = cc

put_touches_one_key : (fields : FieldList) (k : List ℕ) (u : Value) (ms : Members) → KeysAscend ms → TouchesOneKey fields k (put_member k u) ms
put_touches_one_key fields k u ms h = record {
  listed = λ is. shown_put fields k u ms is h;
  hidden = hidden_put fields k u ms;
  ordered = ascend_put k u ms h;
}

takes_out : (fields : FieldList) (k : List ℕ) (ms : Members) → KeysAscend ms → TouchesOneKey fields k (without_member k) ms
takes_out fields k ms h = record {
  listed = shown_without fields k ms;
  hidden = hidden_without fields k ms;
  ordered = ascend_without k ms h;
}

shows_effect_of_both : (fields : FieldList) (c : PlainComponent) (d e : Value) → ShowsEffect (is_visible_component fields c) fields c d e × IsOrderedObject e → StepShows fields c d e
shows_effect_of_both fields c d e h = record { seen = h.0; ordered = h.1 }

root_step : (fields : FieldList) (a : PlainAct) (d e : Value) → apply_one (at_root a) d ≡ Some e → IsOrderedObject d → StepShows fields (at_root a) d e
root_step fields (na x) d e h ordered = shows_effect_of_both fields (at_root (na x)) d e (number_root fields (λ n. checked_whole (n +ℤ x)) d e h)
root_step fields (si p s) d e h ordered = shows_effect_of_both fields (at_root (si p s)) d e (text_root fields (insert_text p s) d e h)
root_step fields (sd p s) d e h ordered = shows_effect_of_both fields (at_root (sd p s)) d e (text_root fields (remove_text p s) d e h)
root_step fields (li i v) d e h ordered = shows_effect_of_both fields (at_root (li i v)) d e (list_root fields (insert_item i v) d e h)
root_step fields (ld i x) d e h ordered = shows_effect_of_both fields (at_root (ld i x)) d e (list_root fields (remove_item i) d e h)
root_step fields (lr i x y) d e h ordered = shows_effect_of_both fields (at_root (lr i x y)) d e (list_root fields (replace_item i y) d e h)
root_step fields (oi k v) d e h ordered = shows_effect_of_both fields (at_root (oi k v)) d e (object_root fields (oi k v) k (put_member k v) d e (λ x. refl) h ordered (put_touches_one_key fields k v))
root_step fields (od k x) d e h ordered = shows_effect_of_both fields (at_root (od k x)) d e (object_root fields (od k x) k (without_member k) d e (λ y. refl) h ordered (takes_out fields k))
root_step fields (or k x y) d e h ordered = shows_effect_of_both fields (at_root (or k x y)) d e (object_root fields (or k x y) k (put_member k y) d e (λ z. refl) h ordered (put_touches_one_key fields k y))

-- ---- inside a member

list_unchanged : (fields : FieldList) (i : ℕ) (p : List PlainStep) (ds : Items) (v : Value) (o : Option Value)
    → let u = option_map_or (λ c. with_child (index i) (list ds) (with_value_at c p v)) o (list ds) in (proj fields u ≡ null) × IsOrderedObject u
list_unchanged fields i p ds v None = (refl, tt)
list_unchanged fields i p ds v (Some c) = (refl, tt)

index_step : (fields : FieldList) (i : ℕ) (p : List PlainStep) (a : PlainAct) (d e : Value) → apply_one (record { path = index i ∷ p; act = a }) d ≡ Some e → StepShows fields (record { path = index i ∷ p; act = a }) d e
index_step fields i p a (list ds) e h =
    let P : Value → Type 0 = λ v. (proj fields v ≡ null) × IsOrderedObject v in
    shows_effect_of_both fields (record { path = index i ∷ p; act = a }) (list ds) e
    (map_of_some P (with_value_at (list ds) (index i ∷ p)) (apply_act a) (value_at (list ds) (index i ∷ p)) e (λ v. list_unchanged fields i p ds v (item_at i ds)) h)
index_step fields i p a null e h = cc
index_step fields i p a (truth b) e h = cc
index_step fields i p a (whole n) e h = cc
index_step fields i p a (text s) e h = cc
index_step fields i p a (object ms) e h = cc

abbrev effect_through_key : List ℕ → List PlainStep → PlainAct → Members → Option Value → Option Value
effect_through_key k p a ms o = option_and_then (λ u. option_map (λ v. option_map_or (λ c. object (set_member k ms (with_value_at c p v))) o (object ms)) (apply_act a u)) (option_and_then (λ c. value_at c p) o)

through_step : (b : Bool) (fields : FieldList) (k : List ℕ) (p : List PlainStep) (a : PlainAct) (ms : Members) (e : Value) (o : Option Value) → is_field fields k ≡ b → member_at k ms ≡ o → effect_through_key k p a ms o ≡ Some e → KeysAscend ms
    → ShowsEffect b fields (record { path = key k ∷ p; act = a }) (object ms) e × IsOrderedObject e
through_step b fields k p a ms e None is there h asc = cc
through_step true fields k p a ms e (Some x) is there h asc =
    let f : Value → Value = λ v. object (set_member k ms (with_value_at x p v)) in
    let g : Value → Value = λ v. object (set_member k (project_members fields ms) (with_value_at x p v)) in (
      ap (effect_through_key k p a (project_members fields ms)) (shown_at fields k ms is ∙ there) ∙ map_agrees (proj fields) f g (apply_act a) (value_at x p) e (λ v. ap object (shown_set fields k (with_value_at x p v) ms is)) h,
      map_of_some IsOrderedObject f (apply_act a) (value_at x p) e (λ v. ascend_set k (with_value_at x p v) ms asc) h,
    )
through_step false fields k p a ms e (Some x) is there h asc =
    let f : Value → Value = λ v. object (set_member k ms (with_value_at x p v)) in
    let P : Value → Type 0 = λ v. proj fields v ≡ object (project_members fields ms) in (
      map_of_some P f (apply_act a) (value_at x p) e (λ v. ap object (hidden_set fields k (with_value_at x p v) ms is)) h,
      map_of_some IsOrderedObject f (apply_act a) (value_at x p) e (λ v. ascend_set k (with_value_at x p v) ms asc) h,
    )

key_step : (fields : FieldList) (k : List ℕ) (p : List PlainStep) (a : PlainAct) (d e : Value) → apply_one (record { path = key k ∷ p; act = a }) d ≡ Some e → IsOrderedObject d → StepShows fields (record { path = key k ∷ p; act = a }) d e
key_step fields k p a (object ms) e h ordered = shows_effect_of_both fields (record { path = key k ∷ p; act = a }) (object ms) e (through_step (is_field fields k) fields k p a ms e (member_at k ms) refl refl h ordered)
key_step fields k p a null e h ordered = cc
key_step fields k p a (truth b) e h ordered = cc
key_step fields k p a (whole n) e h ordered = cc
key_step fields k p a (text s) e h ordered = cc
key_step fields k p a (list ds) e h ordered = cc

-- ---- an operation

step_at : (fields : FieldList) (p : List PlainStep) (a : PlainAct) (d e : Value) → apply_one (record { path = p; act = a }) d ≡ Some e → IsOrderedObject d → StepShows fields (record { path = p; act = a }) d e
step_at fields [] a d e h ordered = root_step fields a d e h ordered
step_at fields (key k ∷ p) a d e h ordered = key_step fields k p a d e h ordered
step_at fields (index i ∷ p) a d e h ordered = index_step fields i p a d e h

goes_on : (b : Bool) (fields : FieldList) (c : PlainComponent) (rest : List PlainComponent) (d m e : Value) → ShowsEffect b fields c d m → apply rest (proj fields m) ≡ Some (proj fields e) → apply (cond b (c ∷ rest) rest) (proj fields d) ≡ Some (proj fields e)
goes_on true fields c rest d m e seen h = ap (option_and_then (apply rest)) seen ∙ h
goes_on false fields c rest d m e seen h = ap (apply rest) (sym seen) ∙ h

then_all : (fields : FieldList) (c : PlainComponent) (cs : List PlainComponent) (d e : Value) (o : Option Value) → apply_one c d ≡ o → option_and_then (apply cs) o ≡ Some e → IsOrderedObject d
    → ((m : Value) → apply cs m ≡ Some e → IsOrderedObject m → apply (proj_op fields cs) (proj fields m) ≡ Some (proj fields e)) → apply (proj_op fields (c ∷ cs)) (proj fields d) ≡ Some (proj fields e)
then_all fields c cs d e None is h ordered rest = cc
then_all fields c cs d e (Some m) is h ordered rest =
    let s = step_at fields c.path c.act d m is ordered in goes_on (is_visible_component fields c) fields c (proj_op fields cs) d m e s.seen (rest m h s.ordered)

all_seen : (fields : FieldList) (op : List PlainComponent) (d e : Value) → apply op d ≡ Some e → IsOrderedObject d → apply (proj_op fields op) (proj fields d) ≡ Some (proj fields e)
all_seen fields [] d e h ordered = ap (option_map (proj fields)) h
all_seen fields (c ∷ cs) d e h ordered = then_all fields c cs d e (apply_one c d) refl h ordered (λ m. all_seen fields cs m e)

well_ordered : (d : Value) → IsWellFormed d → IsOrderedObject d
well_ordered null h = tt
well_ordered (truth b) h = tt
well_ordered (whole n) h = tt
well_ordered (text s) h = tt
well_ordered (list ds) h = tt
well_ordered (object ms) h = keys_ascend_of_well_formed ms h

-- for each well-formed value
pub commutes_for_all : (d : Value) → IsWellFormed d → ProjectionCommutes d
commutes_for_all d h fields op e is = all_seen fields op d e is (well_ordered d h)
