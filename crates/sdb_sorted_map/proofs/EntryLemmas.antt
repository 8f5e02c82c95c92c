-- Entries made from a map, and iterated.
use Rattle.std.proofs.Common.{◌≡◌, ℕ, List, [], ◌∷◌, ◌++◌, map, refl, sym, ap, ◌∙◌, subst, String, string_bytes, Option, Some, None}
use Rattle.std.specs.declared.alloc.Global.{Global}
use Rattle.std.specs.Iterator.{YieldsFirstBy}
use Rattle.std.specs.Option.{IfSome}
use Rattle.std.specs.List.{AllByRecursion, flat_map}
use Rattle.std.specs.List.Sorted.{IsStrictlySortedBy}
use Rattle.std.specs.Map.{keys_of}
use Rattle.std.specs.String.{string_cmp}
use Rattle.std.specs.declared.cmp.Ordering.TheVariants.{Less}
use Rattle.sdb_chunks.specs.Chunk.{items_of}
use Rattle.sdb_chunks.specs.laws.ChunkLaws.{vec_models_of_items}
use Rattle.sdb_chunks.specs.ChunkedVec.{vec_chunks, vec_items, vec_chunk_items}
use Rattle.sdb_chunks.specs.declared.chunk.Chunk.{Chunk}
use Rattle.sdb_chunks.specs.declared.chunked_vec.ChunkedVec.{ChunkedVec}
use Rattle.sdb_sorted_map.specs.MapEntry.{key_value, entry_key}
use Rattle.sdb_sorted_map.specs.KeyOrder.{compare_bytes, IsAscending}
use Rattle.sdb_sorted_map.specs.SearchModel.{entry_key_bytes, vec_keys}
use Rattle.sdb_sorted_map.specs.declared.map_entry.MapEntry.{MapEntry}

map_more : {E A : Type 0} (f : E → A) (es : List E) (e : E) → map f (es ++ e ∷ []) ≡ map f es ++ f e ∷ []
map_more f [] e = refl
map_more f (d ∷ es) e = ap (λ l. f d ∷ l) (map_more f es e)

-- one more of each
pub map_append_one : {E X A : Type 0} (h : X → A) (f : E → A) (xs ys : List X) (x : X) (es : List E) (e : E) → ys ≡ xs ++ x ∷ [] → map h xs ≡ map f es → h x ≡ f e
    → map h ys ≡ map f (es ++ e ∷ [])
map_append_one h f xs ys x es e p q r =
    ap (map h) p ∙ map_more h xs x ∙ ap (λ l. l ++ h x ∷ []) q ∙ ap (λ a. map f es ++ a ∷ []) r ∙ sym (map_more f es e)

append_none : {E : Type 0} (xs : List E) → xs ++ [] ≡ xs
append_none [] = refl
append_none (x ∷ xs) = ap (λ l. x ∷ l) (append_none xs)

pub without_end : {E : Type 0} (es ds ls : List E) → es ≡ ds ++ ls → ls ≡ [] → ds ≡ es
without_end es ds ls e n = sym (e ∙ ap (λ l. ds ++ l) n ∙ append_none ds)

pub steps_end : {S A B : Type 0} (view : A → B) (rest : S → List B) (s t : S) (r : Option A) → r ≡ None → rest s ≡ [] → rest t ≡ [] → YieldsFirstBy view rest s r t
steps_end view rest s t r e p q = subst (λ o. YieldsFirstBy view rest s o t) (sym e) (p, q)

below_bytes : {X : Type 0} (k : String Global) (es : List (String Global × X)) → AllByRecursion (λ y. string_cmp k y ≡ Less) (keys_of es)
    → AllByRecursion (λ t. compare_bytes (string_bytes k) t ≡ Less) (map (λ e. string_bytes e.0) es)
below_bytes k [] a = tt
below_bytes k (e ∷ es) a = (a.0, below_bytes k es a.1)

pub ascending_bytes : {X : Type 0} (es : List (String Global × X)) → IsStrictlySortedBy string_cmp (keys_of es) → IsAscending (map (λ e. string_bytes e.0) es)
unfolding IsStrictlySortedBy
ascending_bytes [] s = tt
ascending_bytes (e ∷ es) s = (below_bytes e.0 es s.0, ascending_bytes es s.1)

-- the keys of members, by their entries
pub texts_entries : {X E : Type 0} (f : E → List ℕ) (g : E → X) (ms : List (MapEntry X)) (es : List E) → map key_value ms ≡ map (λ e. (f e, g e)) es → entry_key_bytes ms ≡ map f es
texts_entries f g [] [] e = refl
texts_entries f g [] (d ∷ es) e = cc
texts_entries f g (m ∷ ms) [] e = cc
texts_entries f g (m ∷ ms) (d ∷ es) e =
    let first : entry_key m ≡ f d = let whole : key_value m ≡ (f d, g d) = cc in ap (λ x. x.0) whole in
    let rest : map key_value ms ≡ map (λ x. (f x, g x)) es = cc in
    ap (λ t. t ∷ entry_key_bytes ms) first ∙ ap (λ l. f d ∷ l) (texts_entries f g ms es rest)

-- lists with equal parts
pub items_of_shared : {X : Type 0} (o : Option (ChunkedVec X)) (l m : ChunkedVec X) → o ≡ Some m → IfSome o (λ n. vec_chunk_items n ≡ vec_chunk_items l) → vec_chunk_items m ≡ vec_chunk_items l
items_of_shared o l m e h = subst (λ p. IfSome p (λ n. vec_chunk_items n ≡ vec_chunk_items l)) e h

flat_chunks : {X : Type 0} (bs : List (Chunk X)) → flat_map items_of bs ≡ flat_map (λ xs. xs) (map items_of bs)
flat_chunks [] = refl
flat_chunks (b ∷ bs) = ap (λ l. items_of b ++ l) (flat_chunks bs)

pub items_parts : {X : Type 0} (l : ChunkedVec X) → vec_items l ≡ flat_map (λ xs. xs) (vec_chunk_items l)
items_parts l = flat_chunks (vec_chunks l)

pub same_items : {X : Type 0} (l m : ChunkedVec X) → vec_chunk_items m ≡ vec_chunk_items l → vec_items m ≡ vec_items l
same_items l m e = items_parts m ∙ ap (flat_map (λ xs. xs)) e ∙ sym (items_parts l)

pub same_texts : {X : Type 0} (l m : ChunkedVec (MapEntry X)) → vec_chunk_items m ≡ vec_chunk_items l → vec_keys m ≡ vec_keys l
same_texts l m e = vec_models_of_items entry_key m ∙ ap entry_key_bytes (same_items l m e) ∙ sym (vec_models_of_items entry_key l)
