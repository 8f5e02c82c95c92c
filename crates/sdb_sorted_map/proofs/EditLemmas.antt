-- Changed lists, and the results of calls.
use Rattle.std.proofs.Common.{◌≡◌, ℕ, zero, suc, ◌+◌, ◌-◌, ◌<◌, ◌≤◌, ◌^◌, List, [], ◌∷◌, ◌++◌, length, map, refl, sym, ap, ◌∙◌, subst, arith, length-append, Option, Some, None, Result, Ok, Err, OnOk, OnErr, IfOk, option_map, slice_get, slice_set, Bool, true, false, if◌then◌else◌, nat_le, MutBor}
use Rattle.std.proofs.Math.ListN.{length-map}
use Rattle.std.proofs.lemmas.Bool.{le-leb}
use Rattle.std.specs.List.{insert, remove, flat_map}
use Rattle.std.specs.Option.{IfSome, OnSome}
use Rattle.std.specs.Map.{lookup, remove_entry}
use Rattle.std.specs.BTreeMap.{insert_entry, is_at}
use Rattle.sdb_chunks.specs.Chunk.{items_of}
use Rattle.sdb_chunks.specs.laws.ChunkLaws.{unique_vec_at_of_all}
use Rattle.sdb_chunks.specs.ChunkedVec.{flatten_models, vec_models, is_unique_repr, is_unique_vec, is_unique_vec_at, is_grouped}
use Rattle.sdb_chunks.specs.declared.chunk.Chunk.{Chunk}
use Rattle.sdb_chunks.specs.declared.chunked_vec.Repr.{Repr}
use Rattle.sdb_chunks.specs.declared.chunked_vec.Repr.TheVariants.{Flat, Chunks, Groups}
use Rattle.sdb_chunks.specs.declared.chunked_vec.ChunkedVec.{ChunkedVec}
use Rattle.sdb_sorted_map.specs.MapKey.{key_bytes}
use Rattle.sdb_sorted_map.specs.laws.SortedMapLaws.{lookup_of_key_index, lookup_none_of_insert_index, keys_of_vec_models}
use Rattle.sdb_sorted_map.specs.MapEntry.{entry_key, entry_model}
use Rattle.sdb_sorted_map.specs.SortedMap.{entry_keys}
use Rattle.sdb_sorted_map.specs.KeyOrder.{compare_bytes, IsAscending, IsKeyIndex, IsInsertIndex}
use Rattle.sdb_sorted_map.specs.SearchModel.{chunk_keys, vec_keys}
use Rattle.sdb_sorted_map.specs.declared.map_entry.MapEntry.{MapEntry}
use Rattle.sdb_sorted_map.proofs.OrderLemmas.{ascending_put, ascending_taken, found_insert, found_remove, gap_insert, gap_remove}

pub not_both : (b : Bool) → b ≡ true → b ≡ false → ⊥
not_both true p q = cc
not_both false p q = cc

-- ---- lists

length_put : {X : Type 0} (xs : List X) (i : ℕ) (x : X) → i ≤ length xs → length (insert xs i x) ≡ length xs + 1
length_put [] zero x h = refl
length_put [] (suc i) x h = absurd (omega (arith, h))
length_put (y ∷ xs) zero x h = omega arith
length_put (y ∷ xs) (suc i) x h = let e = length_put xs i x (omega (arith, h)) in omega (arith, e)

length_taken : {X : Type 0} (xs : List X) (i : ℕ) → length (remove xs i) ≤ length xs
length_taken [] zero = omega arith
length_taken [] (suc i) = omega arith
length_taken (y ∷ xs) zero = omega arith
length_taken (y ∷ xs) (suc i) = let e = length_taken xs i in omega (arith, e)

pub none_past : {X : Type 0} (xs : List X) (i : ℕ) → slice_get xs i ≡ None → length xs ≤ i
none_past [] i e = omega arith
none_past (y ∷ xs) zero e = cc
none_past (y ∷ xs) (suc i) e = let w = none_past xs i e in omega (arith, w)

some_within : {X : Type 0} (xs : List X) (i : ℕ) (x : X) → slice_get xs i ≡ Some x → i < length xs
some_within [] i x e = cc
some_within (y ∷ xs) zero x e = omega arith
some_within (y ∷ xs) (suc i) x e = let w = some_within xs i x e in omega (arith, w)

set_same : (ts : List (List ℕ)) (i : ℕ) (k : List ℕ) → slice_get ts i ≡ Some k → slice_set ts i k ≡ ts
set_same [] i k e = refl
set_same (t ∷ ts) zero k e = let is : t ≡ k = cc in ap (λ x. x ∷ ts) (sym is)
set_same (t ∷ ts) (suc i) k e = ap (λ l. t ∷ l) (set_same ts i k e)

names_set : {X : Type 0} (es : List (List ℕ × X)) (i : ℕ) (e : List ℕ × X) → entry_keys (slice_set es i e) ≡ slice_set (entry_keys es) i e.0
names_set [] i e = refl
names_set (d ∷ es) zero e = refl
names_set (d ∷ es) (suc i) e = ap (λ l. d.0 ∷ l) (names_set es i e)

names_put : {X : Type 0} (es : List (List ℕ × X)) (i : ℕ) (e : List ℕ × X) → entry_keys (insert es i e) ≡ insert (entry_keys es) i e.0
names_put [] zero e = refl
names_put [] (suc i) e = refl
names_put (d ∷ es) zero e = refl
names_put (d ∷ es) (suc i) e = ap (λ l. d.0 ∷ l) (names_put es i e)

names_taken : {X : Type 0} (es : List (List ℕ × X)) (i : ℕ) → entry_keys (remove es i) ≡ remove (entry_keys es) i
names_taken [] zero = refl
names_taken [] (suc i) = refl
names_taken (d ∷ es) zero = refl
names_taken (d ∷ es) (suc i) = ap (λ l. d.0 ∷ l) (names_taken es i)

pub put_done : {X : Type 0} (done : Bool) (xs ys : List X) (i : ℕ) (x : X) → ys ≡ (if done then insert xs i x else xs) → done ≡ nat_le i (length xs) → i ≤ length xs
    → ys ≡ insert xs i x
put_done done xs ys i x e d h =
    let yes : done ≡ true = d ∙ le-leb i (length xs) h in
    e ∙ ap (λ b. if b then insert xs i x else xs) yes

-- as many keys as entries
pub count_texts : {X : Type 0} (bs : List (Chunk (MapEntry X))) → length (flatten_models entry_key bs) ≡ length (flat_map items_of bs)
count_texts [] = refl
count_texts (b ∷ bs) =
    omega (arith, count_texts bs, length-map (items_of b) entry_key, length-append (chunk_keys b) (flatten_models entry_key bs), length-append (items_of b) (flat_map items_of bs))

-- ---- a list of entries that a call changes

-- the keys after a change, by the views of the entries
pub texts_same : {X S : Type 0} (f : X → S) (l m : ChunkedVec (MapEntry X)) → vec_models (entry_model f) m ≡ vec_models (entry_model f) l → vec_keys m ≡ vec_keys l
texts_same f l m e = sym (keys_of_vec_models f m) ∙ ap entry_keys e ∙ keys_of_vec_models f l

module _ {X S : Type 0} (f : X → S) (l m : ChunkedVec (MapEntry X)) (k : List ℕ) (i : ℕ) where
  -- the key is found in the views
  pub found_seen : IsKeyIndex (vec_keys l) k i → IsKeyIndex (entry_keys (vec_models (entry_model f) l)) k i
  found_seen g = subst (λ ts. IsKeyIndex ts k i) (sym (keys_of_vec_models f l)) g

  pub gap_seen : IsInsertIndex (vec_keys l) k i → IsInsertIndex (entry_keys (vec_models (entry_model f) l)) k i
  gap_seen g = subst (λ ts. IsInsertIndex ts k i) (sym (keys_of_vec_models f l)) g

  pub texts_replaced : (s : S) → IsKeyIndex (vec_keys l) k i → vec_models (entry_model f) m ≡ slice_set (vec_models (entry_model f) l) i (k, s) → vec_keys m ≡ vec_keys l
  texts_replaced s g e =
      sym (keys_of_vec_models f m) ∙ ap entry_keys e ∙ names_set (vec_models (entry_model f) l) i (k, s) ∙ ap (λ ts. slice_set ts i k) (keys_of_vec_models f l) ∙ set_same (vec_keys l) i k g.key_at_index

  pub texts_put : (s : S) → vec_models (entry_model f) m ≡ insert (vec_models (entry_model f) l) i (k, s) → vec_keys m ≡ insert (vec_keys l) i k
  texts_put s e = sym (keys_of_vec_models f m) ∙ ap entry_keys e ∙ names_put (vec_models (entry_model f) l) i (k, s) ∙ ap (λ ts. insert ts i k) (keys_of_vec_models f l)

  pub texts_taken : vec_models (entry_model f) m ≡ remove (vec_models (entry_model f) l) i → vec_keys m ≡ remove (vec_keys l) i
  texts_taken e = sym (keys_of_vec_models f m) ∙ ap entry_keys e ∙ names_taken (vec_models (entry_model f) l) i ∙ ap (λ ts. remove ts i) (keys_of_vec_models f l)

  pub length_unchanged : vec_keys m ≡ vec_keys l → length (vec_keys l) < 2 ^ 64 → length (vec_keys m) < 2 ^ 64
  length_unchanged e h = subst (λ ts. length ts < 2 ^ 64) (sym e) h

  pub ascending_unchanged : vec_keys m ≡ vec_keys l → IsAscending (vec_keys l) → IsAscending (vec_keys m)
  ascending_unchanged e h = subst IsAscending (sym e) h

  pub length_one_more : vec_keys m ≡ insert (vec_keys l) i k → i ≤ length (vec_keys l) → length (vec_keys l) + 1 < 2 ^ 64 → length (vec_keys m) < 2 ^ 64
  length_one_more e w h = let n = length_put (vec_keys l) i k w in subst (λ ts. length ts < 2 ^ 64) (sym e) (omega (arith, n, h))

  pub ascending_more : vec_keys m ≡ insert (vec_keys l) i k → IsAscending (vec_keys l) → IsInsertIndex (vec_keys l) k i → IsAscending (vec_keys m)
  ascending_more e h g = subst IsAscending (sym e) (ascending_put k (vec_keys l) i h g)

  pub length_one_less : vec_keys m ≡ remove (vec_keys l) i → length (vec_keys l) < 2 ^ 64 → length (vec_keys m) < 2 ^ 64
  length_one_less e h = let n = length_taken (vec_keys l) i in subst (λ ts. length ts < 2 ^ 64) (sym e) (omega (arith, n, h))

  pub ascending_less : vec_keys m ≡ remove (vec_keys l) i → IsAscending (vec_keys l) → IsAscending (vec_keys m)
  ascending_less e h = subst IsAscending (sym e) (ascending_taken (vec_keys l) i h)

-- the removed entry and its value
taken_value : {B X S : Type 0} (f : X → S) (h : B → MapEntry X) (o : Option B) → option_map (λ e. e.1) (option_map (λ b. entry_model f (h b)) o) ≡ option_map (λ b. f (h b).value) o
taken_value f h None = refl
taken_value f h (Some m) = refl

pub value_found : {B X S : Type 0} (f : X → S) (h : B → MapEntry X) (l : ChunkedVec (MapEntry X)) (k : List ℕ) (i : ℕ) (o : Option B) → IsKeyIndex (vec_keys l) k i
    → option_map (λ b. entry_model f (h b)) o ≡ slice_get (vec_models (entry_model f) l) i
    → option_map (λ b. f (h b).value) o ≡ lookup (is_at (compare_bytes k)) (vec_models (entry_model f) l)
value_found f h l k i o g e =
    sym (taken_value f h o) ∙ ap (option_map (λ d. d.1)) e ∙ sym (lookup_of_key_index k (vec_models (entry_model f) l) i (found_seen f l l k i g))

-- there is an entry
get_names : {X : Type 0} (es : List (List ℕ × X)) (i : ℕ) → slice_get es i ≡ None → slice_get (entry_keys es) i ≡ None
get_names [] i e = refl
get_names (d ∷ es) zero e = cc
get_names (d ∷ es) (suc i) e = get_names es i e

pub none_found : {X S : Type 0} (f : X → S) (l : ChunkedVec (MapEntry X)) (k : List ℕ) (i : ℕ) (o : Option (MapEntry X)) → IsKeyIndex (vec_keys l) k i
    → option_map (entry_model f) o ≡ slice_get (vec_models (entry_model f) l) i → o ≡ None → ⊥
none_found f l k i o g e is =
    let none : slice_get (entry_keys (vec_models (entry_model f) l)) i ≡ None = get_names (vec_models (entry_model f) l) i (sym e ∙ ap (option_map (entry_model f)) is) in
    let there : slice_get (entry_keys (vec_models (entry_model f) l)) i ≡ Some k = (found_seen f l l k i g).key_at_index in
    cc

-- ---- the state after a call, for success and failure

module _ {X S : Type 0} (f : X → S) (l m : ChunkedVec (MapEntry X)) (k b : List ℕ) (i : ℕ) (s : S) (q : b ≡ k) where
  abbrev entries_before : List (List ℕ × S)
  entries_before = vec_models (entry_model f) l

  abbrev entries_after : List (List ℕ × S)
  entries_after = vec_models (entry_model f) m

  pub replaced_texts : {O E : Type 0} (r : Result O E) → IsKeyIndex (vec_keys l) k i → OnOk r (entries_after ≡ slice_set entries_before i (b, s)) → OnErr r (entries_after ≡ entries_before) → vec_keys m ≡ vec_keys l
  replaced_texts (Ok x) g p e = texts_replaced f l m k i s g (p ∙ ap (λ t. slice_set entries_before i (t, s)) q)
  replaced_texts (Err x) g p e = texts_same f l m e

  pub replaced_entries : IsKeyIndex (vec_keys l) k i → entries_after ≡ slice_set entries_before i (b, s) → entries_after ≡ insert_entry compare_bytes entries_before k s
  replaced_entries g p = p ∙ ap (λ t. slice_set entries_before i (t, s)) q ∙ sym (found_insert k entries_before i s (found_seen f l m k i g))

  gap_in_range : IsInsertIndex (vec_keys l) k i → i ≤ length entries_before
  gap_in_range g = let w = (gap_seen f l m k i g).in_range in omega (arith, w, length-map entries_before (λ (e : List ℕ × S). e.0))

  put_there : (done : Bool) → IsInsertIndex (vec_keys l) k i → entries_after ≡ (if done then insert entries_before i (b, s) else entries_before) → done ≡ nat_le i (length entries_before) → entries_after ≡ insert entries_before i (k, s)
  put_there done g p d = put_done done entries_before entries_after i (b, s) p d (gap_in_range g) ∙ ap (λ t. insert entries_before i (t, s)) q

  pub put_entries : (done : Bool) → IsInsertIndex (vec_keys l) k i → entries_after ≡ (if done then insert entries_before i (b, s) else entries_before) → done ≡ nat_le i (length entries_before) → entries_after ≡ insert_entry compare_bytes entries_before k s
  put_entries done g p d = put_there done g p d ∙ sym (gap_insert k entries_before i s (gap_seen f l m k i g))

  pub put_small : {E : Type 0} (r : Result Bool E) → IsInsertIndex (vec_keys l) k i → IfOk r (λ done. entries_after ≡ (if done then insert entries_before i (b, s) else entries_before))
      → IfOk r (λ done. done ≡ nat_le i (length entries_before)) → OnErr r (entries_after ≡ entries_before) → length (vec_keys l) + 1 < 2 ^ 64 → length (vec_keys m) < 2 ^ 64
  put_small (Ok done) g p d e h = length_one_more f l m k i (texts_put f l m k i s (put_there done g p d)) g.in_range h
  put_small (Err x) g p d e h = length_unchanged f l m k i (texts_same f l m e) (omega (arith, h))

  pub put_ascending : {E : Type 0} (r : Result Bool E) → IsInsertIndex (vec_keys l) k i → IfOk r (λ done. entries_after ≡ (if done then insert entries_before i (b, s) else entries_before))
      → IfOk r (λ done. done ≡ nat_le i (length entries_before)) → OnErr r (entries_after ≡ entries_before) → IsAscending (vec_keys l) → IsAscending (vec_keys m)
  put_ascending (Ok done) g p d e h = ascending_more f l m k i (texts_put f l m k i s (put_there done g p d)) h g
  put_ascending (Err x) g p d e h = ascending_unchanged f l m k i (texts_same f l m e) h

module _ {X S : Type 0} (f : X → S) (l m : ChunkedVec (MapEntry X)) (k : List ℕ) (i : ℕ) where
  pub taken_small : {O E : Type 0} (r : Result O E) → OnOk r (vec_models (entry_model f) m ≡ remove (vec_models (entry_model f) l) i)
      → OnErr r (vec_models (entry_model f) m ≡ vec_models (entry_model f) l) → length (vec_keys l) < 2 ^ 64 → length (vec_keys m) < 2 ^ 64
  taken_small (Ok x) p e h = length_one_less f l m k i (texts_taken f l m k i p) h
  taken_small (Err x) p e h = length_unchanged f l m k i (texts_same f l m e) h

  pub taken_ascending : {O E : Type 0} (r : Result O E) → OnOk r (vec_models (entry_model f) m ≡ remove (vec_models (entry_model f) l) i)
      → OnErr r (vec_models (entry_model f) m ≡ vec_models (entry_model f) l) → IsAscending (vec_keys l) → IsAscending (vec_keys m)
  taken_ascending (Ok x) p e h = ascending_less f l m k i (texts_taken f l m k i p) h
  taken_ascending (Err x) p e h = ascending_unchanged f l m k i (texts_same f l m e) h

  pub taken_entries : IsKeyIndex (vec_keys l) k i → vec_models (entry_model f) m ≡ remove (vec_models (entry_model f) l) i
      → vec_models (entry_model f) m ≡ remove_entry (is_at (compare_bytes k)) (vec_models (entry_model f) l)
  taken_entries g p = p ∙ sym (found_remove k (vec_models (entry_model f) l) i (found_seen f l m k i g))

pub on_err : {A E P : Type 0} (r : Result A E) → P → OnErr r P
on_err (Ok x) p = tt
on_err (Err e) p = p

-- ---- a borrowed entry

pub at_borrowed : {X S : Type 0} (f : X → S) (l : ChunkedVec (MapEntry X)) (i : ℕ) (o : Option (MutBor (MapEntry X))) (b : MutBor (MapEntry X)) → o ≡ Some b
    → IfSome o (λ x. slice_get (vec_models (entry_model f) l) i ≡ Some (entry_model f x.now)) → slice_get (vec_models (entry_model f) l) i ≡ Some (entry_model f b.now)
at_borrowed f l i o b is h = subst (λ p. IfSome p (λ x. slice_get (vec_models (entry_model f) l) i ≡ Some (entry_model f x.now))) is h

name_at : {X : Type 0} (es : List (List ℕ × X)) (i : ℕ) (e : List ℕ × X) → slice_get es i ≡ Some e → slice_get (entry_keys es) i ≡ Some e.0
name_at [] i e h = cc
name_at (d ∷ es) zero e h = let is : d ≡ e = cc in ap (λ x. Some x.0) is
name_at (d ∷ es) (suc i) e h = name_at es i e h

-- its key is unchanged
pub texts_borrowed : {X S : Type 0} (f : X → S) (l n : ChunkedVec (MapEntry X)) (i : ℕ) (o : Option (MutBor (MapEntry X))) (b : MutBor (MapEntry X)) (w : X) → o ≡ Some b
    → slice_get (vec_models (entry_model f) l) i ≡ Some (entry_model f b.now)
    → OnSome o (vec_models (entry_model f) n ≡ slice_set (vec_models (entry_model f) l) i (key_bytes b.now.key, f w)) → vec_keys n ≡ vec_keys l
texts_borrowed f l n i o b w is at h =
    let k = key_bytes b.now.key in
    let e : vec_models (entry_model f) n ≡ slice_set (vec_models (entry_model f) l) i (k, f w) =
    subst (λ p. OnSome p (vec_models (entry_model f) n ≡ slice_set (vec_models (entry_model f) l) i (k, f w))) is h in
    sym (keys_of_vec_models f n) ∙ ap entry_keys e ∙ names_set (vec_models (entry_model f) l) i (k, f w)
    ∙ set_same (entry_keys (vec_models (entry_model f) l)) i k (name_at (vec_models (entry_model f) l) i (entry_model f b.now) at) ∙ keys_of_vec_models f l

-- a list with a shared part on the path to an item isn't unique
shared_or : {X : Type 0} (b : Bool) (l : ChunkedVec X) (i : ℕ) → is_unique_vec l ≡ b → is_unique_vec_at l i ≡ false → b ≡ false
shared_or true l i own h = absurd (not_both (is_unique_vec_at l i) (unique_vec_at_of_all l i own) h)
shared_or false l i own h = refl

pub shared_at : {X : Type 0} (l : ChunkedVec X) (i : ℕ) → is_unique_vec_at l i ≡ false → is_unique_vec l ≡ false
shared_at l i h = shared_or (is_unique_vec l) l i refl h

-- a unique list has no groups
flat_repr : {X : Type 0} (w : Repr X) → is_unique_repr w ≡ true → is_grouped w ≡ false
flat_repr (Flat b) e = refl
flat_repr (Chunks bs) e = refl
flat_repr (Groups gs) e = cc

pub unique_flat : {X : Type 0} (l : ChunkedVec X) → is_unique_vec l ≡ true → is_grouped l.repr ≡ false
unique_flat l e = flat_repr l.repr e
