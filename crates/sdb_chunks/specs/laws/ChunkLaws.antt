-- Laws of chunked lists.
use Rattle.std.specs.Prelude.{◌≡◌, ℕ, zero, suc, ◌-◌, List, [], ◌∷◌, ◌++◌, map, take, drop, length, Bool, true, false, cond, nat_lt, if◌then◌else◌, Some, slice_get, Result, Ok, Err, IfOk, OnErr, refl}
use Rattle.std.proofs.Common.{ap, sym, ◌∙◌, append_assoc}
use Rattle.std.specs.List.{flat_map}
use Rattle.sdb_chunks.specs.Chunk.{items_of, is_chunk_unique}
use Rattle.sdb_chunks.specs.ChunkedVec.{repr_models, vec_models, flatten_models, all_unique, is_unique_at, is_unique_repr, is_unique_repr_at, is_unique_vec, is_unique_vec_at, repr_chunks, vec_chunks, vec_items, vec_chunk_items}
use Rattle.sdb_chunks.specs.ChunkGroup.{group_chunks, group_models, flatten_group_models}
use Rattle.sdb_chunks.specs.declared.chunk.Chunk.{Chunk}
use Rattle.sdb_chunks.specs.declared.chunk_group.ChunkGroup.{ChunkGroup}
use Rattle.sdb_chunks.specs.declared.chunked_vec.Repr.{Repr}
use Rattle.sdb_chunks.specs.declared.chunked_vec.Repr.TheVariants.{Flat, Chunks, Groups}
use Rattle.sdb_chunks.specs.declared.chunked_vec.ChunkedVec.{ChunkedVec}

-- ---- a list is the concatenation of its parts

map_append : {X S : Type 0} (f : X → S) (xs ys : List X) → map f (xs ++ ys) ≡ map f xs ++ map f ys
map_append f [] ys = refl
map_append f (x ∷ xs) ys = ap (λ l. f x ∷ l) (map_append f xs ys)

append_nil : {X : Type 0} (xs : List X) → xs ++ [] ≡ xs
append_nil [] = refl
append_nil (x ∷ xs) = ap (λ l. x ∷ l) (append_nil xs)

flatten_models_flat_map : {X S : Type 0} (f : X → S) (bs : List (Chunk X)) → flatten_models f bs ≡ map f (flat_map (λ xs. xs) (map items_of bs))
flatten_models_flat_map f [] = refl
flatten_models_flat_map f (b ∷ bs) =
    ap (λ l. map f (items_of b) ++ l) (flatten_models_flat_map f bs) ∙ sym (map_append f (items_of b) (flat_map (λ xs. xs) (map items_of bs)))

flatten_models_append : {X S : Type 0} (f : X → S) (bs cs : List (Chunk X)) → flatten_models f (bs ++ cs) ≡ flatten_models f bs ++ flatten_models f cs
flatten_models_append f [] cs = refl
flatten_models_append f (b ∷ bs) cs = ap (λ l. map f (items_of b) ++ l) (flatten_models_append f bs cs) ∙ sym (append_assoc (map f (items_of b)) (flatten_models f bs) (flatten_models f cs))

-- the views of groups are the views of their chunks
pub group_models_of_chunks : {X S : Type 0} (f : X → S) (gs : List (ChunkGroup X)) → flatten_group_models f gs ≡ flatten_models f (flat_map group_chunks gs)
group_models_of_chunks f [] = refl
group_models_of_chunks f (g ∷ gs) = ap (λ l. group_models f g ++ l) (group_models_of_chunks f gs) ∙ sym (flatten_models_append f (group_chunks g) (flat_map group_chunks gs))

repr_models_of_chunk_items : {X S : Type 0} (f : X → S) (w : Repr X) → repr_models f w ≡ map f (flat_map (λ xs. xs) (map items_of (repr_chunks w)))
repr_models_of_chunk_items f (Flat b) = ap (map f) (sym (append_nil (items_of b)))
repr_models_of_chunk_items f (Chunks bs) = flatten_models_flat_map f (items_of bs)
repr_models_of_chunk_items f (Groups gs) = group_models_of_chunks f (items_of gs) ∙ flatten_models_flat_map f (flat_map group_chunks (items_of gs))

pub vec_models_of_chunk_items : {X S : Type 0} (f : X → S) (l : ChunkedVec X) → vec_models f l ≡ map f (flat_map (λ xs. xs) (vec_chunk_items l))
vec_models_of_chunk_items f l = repr_models_of_chunk_items f l.repr

repr_models_of_chunks : {X S : Type 0} (f : X → S) (w : Repr X) → repr_models f w ≡ flatten_models f (repr_chunks w)
repr_models_of_chunks f (Flat b) = sym (append_nil (map f (items_of b)))
repr_models_of_chunks f (Chunks bs) = refl
repr_models_of_chunks f (Groups gs) = group_models_of_chunks f (items_of gs)

-- the views of a list are those of its chunks
pub vec_models_of_chunks : {X S : Type 0} (f : X → S) (l : ChunkedVec X) → vec_models f l ≡ flatten_models f (vec_chunks l)
vec_models_of_chunks f l = repr_models_of_chunks f l.repr

flatten_models_items : {X S : Type 0} (f : X → S) (bs : List (Chunk X)) → flatten_models f bs ≡ map f (flat_map items_of bs)
flatten_models_items f [] = refl
flatten_models_items f (b ∷ bs) =
    ap (λ l. map f (items_of b) ++ l) (flatten_models_items f bs) ∙ sym (map_append f (items_of b) (flat_map items_of bs))

-- the views of a list are the views of its items
pub vec_models_of_items : {X S : Type 0} (f : X → S) (l : ChunkedVec X) → vec_models f l ≡ map f (vec_items l)
vec_models_of_items f l = vec_models_of_chunks f l ∙ flatten_models_items f (vec_chunks l)

-- ---- each chunk of a unique list is unique

and_left : (a b : Bool) → cond a b false ≡ true → a ≡ true
and_left true b e = refl
and_left false b e = e

and_right : (a b : Bool) → cond a b false ≡ true → b ≡ true
and_right true b e = e
and_right false b e = cc

if_intro : (t a b : Bool) → a ≡ true → b ≡ true → (if t then a else b) ≡ true
if_intro true a b p q = p
if_intro false a b p q = q

and_intro : (a b : Bool) → a ≡ true → b ≡ true → cond a b false ≡ true
and_intro true b p q = q
and_intro false b p q = p

pub unique_at_of_all : {X : Type 0} (bs : List (Chunk X)) (i : ℕ) → all_unique bs ≡ true → is_unique_at bs i ≡ true
unique_at_of_all [] i e = refl
unique_at_of_all (b ∷ bs) i e =
    if_intro (nat_lt i (length (items_of b))) (is_chunk_unique b) (is_unique_at bs (i - length (items_of b))) (and_left (is_chunk_unique b) (all_unique bs) e)
    (unique_at_of_all bs (i - length (items_of b)) (and_right (is_chunk_unique b) (all_unique bs) e))

unique_repr_at_of_all : {X : Type 0} (w : Repr X) (i : ℕ) → is_unique_repr w ≡ true → is_unique_repr_at w i ≡ true
unique_repr_at_of_all (Flat b) i e = e
unique_repr_at_of_all (Chunks bs) i e =
    and_intro (is_chunk_unique bs) (is_unique_at (items_of bs) i) (and_left (is_chunk_unique bs) (all_unique (items_of bs)) e)
    (unique_at_of_all (items_of bs) i (and_right (is_chunk_unique bs) (all_unique (items_of bs)) e))
unique_repr_at_of_all (Groups gs) i e = cc

pub unique_vec_at_of_all : {X : Type 0} (l : ChunkedVec X) (i : ℕ) → is_unique_vec l ≡ true → is_unique_vec_at l i ≡ true
unique_vec_at_of_all l i e = unique_repr_at_of_all l.repr i e

-- ---- the chunks in order

pub take_succ : {X : Type 0} (xs : List X) (i : ℕ) (x : X) → slice_get xs i ≡ Some x → take (suc i) xs ≡ take i xs ++ x ∷ []
take_succ [] i x e = cc
take_succ (y ∷ xs) zero x e = cc
take_succ (y ∷ xs) (suc i) x e = ap (λ l. y ∷ l) (take_succ xs i x e)

pub drop_of_get : {X : Type 0} (xs : List X) (i : ℕ) (x : X) → slice_get xs i ≡ Some x → drop i xs ≡ x ∷ drop (suc i) xs
drop_of_get [] i x e = cc
drop_of_get (y ∷ xs) zero x e = cc
drop_of_get (y ∷ xs) (suc i) x e = drop_of_get xs i x e

flat_map_append_one : {X : Type 0} (xss : List (List X)) (xs : List X) → flat_map (λ xs. xs) (xss ++ xs ∷ []) ≡ flat_map (λ xs. xs) xss ++ xs
flat_map_append_one [] xs = append_nil xs
flat_map_append_one (ys ∷ xss) xs = ap (λ l. ys ++ l) (flat_map_append_one xss xs) ∙ sym (append_assoc ys (flat_map (λ xs. xs) xss) xs)

-- the views of some chunks and one more
pub flatten_models_append_one : {X S : Type 0} (f : X → S) (xss : List (List X)) (xs : List X)
    → map f (flat_map (λ xs. xs) (xss ++ xs ∷ [])) ≡ map f (flat_map (λ xs. xs) xss) ++ map f xs
flatten_models_append_one f xss xs = ap (map f) (flat_map_append_one xss xs) ∙ map_append f (flat_map (λ xs. xs) xss) xs

-- ---- the parts of what a call states of its success, and of its error

pub first_if_ok : {A E : Type 0} (P Q : A → Type 0) (r : Result A E) → IfOk r (λ x. P x × Q x) → IfOk r P
first_if_ok P Q (Ok x) h = h.0
first_if_ok P Q (Err e) h = tt

pub second_if_ok : {A E : Type 0} (P Q : A → Type 0) (r : Result A E) → IfOk r (λ x. P x × Q x) → IfOk r Q
second_if_ok P Q (Ok x) h = h.1
second_if_ok P Q (Err e) h = tt

pub first_on_err : {A E : Type 0} (P Q : Type 0) (r : Result A E) → OnErr r (P × Q) → OnErr r P
first_on_err P Q (Ok x) h = tt
first_on_err P Q (Err e) h = h.0

pub second_on_err : {A E : Type 0} (P Q : Type 0) (r : Result A E) → OnErr r (P × Q) → OnErr r Q
second_on_err P Q (Ok x) h = tt
second_on_err P Q (Err e) h = h.1
