-- Chunks one by one, and the list that they make.
use Rattle.std.proofs.Common.{◌≡◌, ℕ, zero, suc, ◌+◌, ◌-◌, ◌<◌, ◌≤◌, List, [], ◌∷◌, ◌++◌, length, take, drop, map, reverse, refl, sym, ap, ◌∙◌, arith, append_assoc, length-append, get_or, set, Option, Some, None, option_map, slice_get, Bool, true, false, cond, Bor, MutBor, Result, Ok, Err, OnErr, ltb, if◌then◌else◌}
use Rattle.std.proofs.Math.ListN.{length-map}
use Rattle.std.proofs.lemmas.Bool.{lt-ltb, le-ltb, ltb-true, ltb-false}
use Rattle.std.specs.Option.{is_some, IfSome}
use Rattle.std.specs.List.{insert, remove, flat_map}
use Rattle.std.proofs.lemmas.List.{take_more, drop_more, take-append-drop, reverse-append}
use Rattle.std.proofs.lemmas.List.Edits.{insert-append_left, insert-append_right}
use Rattle.sdb_chunks.specs.Chunk.{items_of, is_chunk_unique}
use Rattle.sdb_chunks.specs.Chunks.{chunk_model}
use Rattle.sdb_chunks.specs.ChunkedVec.{flatten_models, all_unique, is_unique_at}
use Rattle.sdb_chunks.specs.Position.{IsInsertPosition, IsItemPosition}
use Rattle.sdb_chunks.specs.declared.chunk.Chunk.{Chunk}

pub append_none : {X : Type 0} (xs : List X) → xs ++ [] ≡ xs
append_none [] = refl
append_none (x ∷ xs) = ap (λ l. x ∷ l) (append_none xs)

get_prefix : {X : Type 0} (xs ys : List X) (i : ℕ) → i < length xs → slice_get (xs ++ ys) i ≡ slice_get xs i
get_prefix [] ys i h = absurd (omega (arith, h))
get_prefix (x ∷ xs) ys zero h = refl
get_prefix (x ∷ xs) ys (suc i) h = get_prefix xs ys i (omega (arith, h))

get_behind : {X : Type 0} (xs ys : List X) (i n : ℕ) → i ≡ length xs + n → slice_get (xs ++ ys) i ≡ slice_get ys n
get_behind [] ys i n e = let s : i ≡ n = omega (arith, e) in ap (slice_get ys) s
get_behind (x ∷ xs) ys zero n e = absurd (omega (arith, e))
get_behind (x ∷ xs) ys (suc i) n e = get_behind xs ys i n (omega (arith, e))

set_prefix : {X : Type 0} (xs ys : List X) (i : ℕ) (y : X) → i < length xs → set (xs ++ ys) i y ≡ set xs i y ++ ys
set_prefix [] ys i y h = absurd (omega (arith, h))
set_prefix (x ∷ xs) ys zero y h = refl
set_prefix (x ∷ xs) ys (suc i) y h = ap (λ l. x ∷ l) (set_prefix xs ys i y (omega (arith, h)))

set_behind : {X : Type 0} (xs ys : List X) (n i : ℕ) (y : X) → n ≡ length xs + i → set (xs ++ ys) n y ≡ xs ++ set ys i y
set_behind [] ys n i y e = let s : n ≡ i = omega (arith, e) in ap (λ m. set ys m y) s
set_behind (x ∷ xs) ys zero i y e = absurd (omega (arith, e))
set_behind (x ∷ xs) ys (suc n) i y e = ap (λ l. x ∷ l) (set_behind xs ys n i y (omega (arith, e)))

remove_prefix : {X : Type 0} (xs ys : List X) (i : ℕ) → i < length xs → remove (xs ++ ys) i ≡ remove xs i ++ ys
remove_prefix [] ys i h = absurd (omega (arith, h))
remove_prefix (x ∷ xs) ys zero h = refl
remove_prefix (x ∷ xs) ys (suc i) h = ap (λ l. x ∷ l) (remove_prefix xs ys i (omega (arith, h)))

remove_behind : {X : Type 0} (xs ys : List X) (n i : ℕ) → n ≡ length xs + i → remove (xs ++ ys) n ≡ xs ++ remove ys i
remove_behind [] ys n i e = let s : n ≡ i = omega (arith, e) in ap (remove ys) s
remove_behind (x ∷ xs) ys zero i e = absurd (omega (arith, e))
remove_behind (x ∷ xs) ys (suc n) i e = ap (λ l. x ∷ l) (remove_behind xs ys n i (omega (arith, e)))

unique_first : (a b : Bool) → cond a b false ≡ true → a ≡ true
unique_first true b e = refl
unique_first false b e = e

unique_rest : (a b : Bool) → cond a b false ≡ true → b ≡ true
unique_rest true b e = e
unique_rest false b e = cc

unique_both : (a b : Bool) → a ≡ true → b ≡ true → cond a b false ≡ true
unique_both true b h e = e
unique_both false b h e = h

module _ {X S : Type 0} (s : X → List S) where
  pub joined_append : (ps qs : List X) → flat_map s (ps ++ qs) ≡ flat_map s ps ++ flat_map s qs
  joined_append [] qs = refl
  joined_append (p ∷ ps) qs = ap (λ l. s p ++ l) (joined_append ps qs) ∙ sym (append_assoc (s p) (flat_map s ps) (flat_map s qs))

  -- the first chunks and one more
  pub joined_more : (ps : List X) (k : ℕ) (d : X) → k < length ps → flat_map s (take (k + 1) ps) ≡ flat_map s (take k ps) ++ s (get_or ps k d)
  joined_more ps k d h = ap (flat_map s) (take_more ps k d h) ∙ joined_append (take k ps) (get_or ps k d ∷ []) ∙ ap (λ l. flat_map s (take k ps) ++ l) (append_none (s (get_or ps k d)))

  -- a chunk, and those before and after it
  pub joined_around : (ps : List X) (k : ℕ) (d : X) → k < length ps → flat_map s ps ≡ flat_map s (take k ps) ++ (s (get_or ps k d) ++ flat_map s (drop (suc k) ps))
  joined_around [] k d h = absurd (omega (arith, h))
  joined_around (p ∷ ps) zero d h = refl
  joined_around (p ∷ ps) (suc k) d h = ap (λ l. s p ++ l) (joined_around ps k d (omega (arith, h))) ∙ sym (append_assoc (s p) (flat_map s (take k ps)) _)

  -- a chunk replaced by another
  pub joined_set : (ps : List X) (k : ℕ) (a : X) → k < length ps → flat_map s (set ps k a) ≡ flat_map s (take k ps) ++ (s a ++ flat_map s (drop (suc k) ps))
  joined_set [] k a h = absurd (omega (arith, h))
  joined_set (p ∷ ps) zero a h = refl
  joined_set (p ∷ ps) (suc k) a h = ap (λ l. s p ++ l) (joined_set ps k a (omega (arith, h))) ∙ sym (append_assoc (s p) (flat_map s (take k ps)) _)

  -- a chunk replaced by two
  pub joined_two : (ps : List X) (k : ℕ) (a b : X) → k < length ps → flat_map s (set (insert ps (suc k) b) k a) ≡ flat_map s (take k ps) ++ (s a ++ (s b ++ flat_map s (drop (suc k) ps)))
  joined_two [] k a b h = absurd (omega (arith, h))
  joined_two (p ∷ ps) zero a b h = refl
  joined_two (p ∷ ps) (suc k) a b h = ap (λ l. s p ++ l) (joined_two ps k a b (omega (arith, h))) ∙ sym (append_assoc (s p) (flat_map s (take k ps)) _)

  -- an insert into one chunk is an insert into the list
  pub joined_insert : (ps : List X) (index k i : ℕ) (x : S) (a d : X) → IsInsertPosition s ps index k i → s a ≡ insert (s (get_or ps k d)) i x
      → flat_map s (set ps k a) ≡ insert (flat_map s ps) index x
  joined_insert ps index k i x a d at e =
      let q = s (get_or ps k d) in
      let J = flat_map s (take k ps) in
      let R = flat_map s (drop (suc k) ps) in
      let lo : length J ≤ index = omega (arith, at.offset_is_sum) in
      let n : index - length J ≡ i = omega (arith, at.offset_is_sum) in
      joined_set ps k a at.index_in_range ∙ ap (λ l. J ++ l) (ap (λ l. l ++ R) e ∙ sym (insert-append_left q R i x (at.within d)) ∙ ap (λ m. insert (q ++ R) m x) (sym n))
      ∙ sym (insert-append_right J (q ++ R) (length J) index x refl lo) ∙ ap (λ l. insert l index x) (sym (joined_around ps k d at.index_in_range))

  -- a chunk replaced by one with equal items
  pub joined_same : (ps : List X) (k : ℕ) (a d : X) → k < length ps → s a ≡ s (get_or ps k d) → flat_map s (set ps k a) ≡ flat_map s ps
  joined_same ps k a d h e = joined_set ps k a h ∙ ap (λ l. flat_map s (take k ps) ++ (l ++ flat_map s (drop (suc k) ps))) e ∙ sym (joined_around ps k d h)

  drop_joined : (ps : List X) (k : ℕ) (d : X) → k < length ps → flat_map s (drop k ps) ≡ s (get_or ps k d) ++ flat_map s (drop (k + 1) ps)
  drop_joined ps k d h = ap (flat_map s) (drop_more ps k d h)

  -- in the chunk at k, and after it
  pub get_here : (ps : List X) (k i : ℕ) (p : X) → k < length ps → p ≡ get_or ps k p → i < length (s p) → slice_get (flat_map s (drop k ps)) i ≡ slice_get (s p) i
  get_here ps k i p h e l =
      ap (λ xs. slice_get xs i) (drop_joined ps k p h ∙ ap (λ q. s q ++ flat_map s (drop (k + 1) ps)) (sym e)) ∙ get_prefix (s p) (flat_map s (drop (k + 1) ps)) i l

  pub get_past : (ps : List X) (k i n : ℕ) (p : X) → k < length ps → p ≡ get_or ps k p → i ≡ length (s p) + n → slice_get (flat_map s (drop k ps)) i ≡ slice_get (flat_map s (drop (k + 1) ps)) n
  get_past ps k i n p h e l =
      ap (λ xs. slice_get xs i) (drop_joined ps k p h ∙ ap (λ q. s q ++ flat_map s (drop (k + 1) ps)) (sym e)) ∙ get_behind (s p) (flat_map s (drop (k + 1) ps)) i n l

  pub joined_replace : (ps : List X) (index k i : ℕ) (x : S) (a d : X) → IsItemPosition s ps index k i → s a ≡ set (s (get_or ps k d)) i x
      → flat_map s (set ps k a) ≡ set (flat_map s ps) index x
  joined_replace ps index k i x a d at e =
      let q = s (get_or ps k d) in
      let J = flat_map s (take k ps) in
      let R = flat_map s (drop (suc k) ps) in
      joined_set ps k a at.index_in_range ∙ ap (λ l. J ++ l) (ap (λ l. l ++ R) e ∙ sym (set_prefix q R i x (at.within d)))
      ∙ sym (set_behind J (q ++ R) index i x (sym at.offset_is_sum)) ∙ ap (λ l. set l index x) (sym (joined_around ps k d at.index_in_range))

  pub joined_remove : (ps : List X) (index k i : ℕ) (a d : X) → IsItemPosition s ps index k i → s a ≡ remove (s (get_or ps k d)) i
      → flat_map s (set ps k a) ≡ remove (flat_map s ps) index
  joined_remove ps index k i a d at e =
      let q = s (get_or ps k d) in
      let J = flat_map s (take k ps) in
      let R = flat_map s (drop (suc k) ps) in
      joined_set ps k a at.index_in_range ∙ ap (λ l. J ++ l) (ap (λ l. l ++ R) e ∙ sym (remove_prefix q R i (at.within d)))
      ∙ sym (remove_behind J (q ++ R) index i (sym at.offset_is_sum)) ∙ ap (λ l. remove l index) (sym (joined_around ps k d at.index_in_range))

  -- a chunk and its two halves, the second replacing one that was inserted after it
  joined_pair : (ps : List X) (k : ℕ) (a b e : X) → k < length ps → flat_map s (set (set (insert ps (suc k) e) k a) (suc k) b) ≡ flat_map s (take k ps) ++ (s a ++ (s b ++ flat_map s (drop (suc k) ps)))
  joined_pair [] k a b e h = absurd (omega (arith, h))
  joined_pair (p ∷ ps) zero a b e h = refl
  joined_pair (p ∷ ps) (suc k) a b e h = ap (λ l. s p ++ l) (joined_pair ps k a b e (omega (arith, h))) ∙ sym (append_assoc (s p) (flat_map s (take k ps)) _)

  pub joined_split : (ps : List X) (k m : ℕ) (a b d e : X) → k < length ps → s a ≡ take m (s (get_or ps k d)) → s b ≡ drop m (s (get_or ps k d))
      → flat_map s (set (set (insert ps (k + 1) e) k a) (k + 1) b) ≡ flat_map s ps
  joined_split ps k m a b d e h u v =
      let n : k + 1 ≡ suc k = omega arith in
      let q = s (get_or ps k d) in
      let R = flat_map s (drop (suc k) ps) in
      ap (λ m. flat_map s (set (set (insert ps m e) k a) m b)) n ∙ joined_pair ps k a b e h
      ∙ ap (λ l. flat_map s (take k ps) ++ l) (sym (append_assoc (s a) (s b) R) ∙ ap (λ l. l ++ R) (ap (λ l. l ++ s b) u ∙ ap (λ l. take m q ++ l) v ∙ take-append-drop m q))
      ∙ sym (joined_around ps k d h)

  -- a part replaced by two parts with its items
  pub joined_halves : (ps : List X) (k : ℕ) (a b d e : X) → k < length ps → s a ++ s b ≡ s (get_or ps k d) → flat_map s (set (set (insert ps (k + 1) e) k a) (k + 1) b) ≡ flat_map s ps
  joined_halves ps k a b d e h u =
      let n : k + 1 ≡ suc k = omega arith in
      let R = flat_map s (drop (suc k) ps) in
      ap (λ m. flat_map s (set (set (insert ps m e) k a) m b)) n ∙ joined_pair ps k a b e h
      ∙ ap (λ l. flat_map s (take k ps) ++ l) (sym (append_assoc (s a) (s b) R) ∙ ap (λ l. l ++ R) u) ∙ sym (joined_around ps k d h)

  -- an empty chunk after one with equal items
  pub joined_spare : (ps : List X) (k : ℕ) (a d e : X) → k < length ps → s e ≡ [] → s a ≡ s (get_or ps k d) → flat_map s (set (insert ps (k + 1) e) k a) ≡ flat_map s ps
  joined_spare ps k a d e h u v =
      let n : k + 1 ≡ suc k = omega arith in
      let R = flat_map s (drop (suc k) ps) in
      ap (λ m. flat_map s (set (insert ps m e) k a)) n ∙ joined_two ps k a e h
      ∙ ap (λ l. flat_map s (take k ps) ++ (s a ++ (l ++ R))) u ∙ ap (λ l. flat_map s (take k ps) ++ (l ++ R)) v ∙ sym (joined_around ps k d h)

  -- an empty chunk removed
  pub joined_without : (ps : List X) (k : ℕ) (d : X) → k < length ps → s (get_or ps k d) ≡ [] → flat_map s (remove ps k) ≡ flat_map s ps
  joined_without [] k d h e = absurd (omega (arith, h))
  joined_without (p ∷ ps) zero d h e = sym (ap (λ l. l ++ flat_map s ps) e)
  joined_without (p ∷ ps) (suc k) d h e = ap (λ l. s p ++ l) (joined_without ps k d (omega (arith, h)) e)

  -- an item of a chunk is one of the list
  pub joined_get : (ps : List X) (index k i : ℕ) (d : X) → IsItemPosition s ps index k i → slice_get (s (get_or ps k d)) i ≡ slice_get (flat_map s ps) index
  joined_get ps index k i d at =
      let q = s (get_or ps k d) in
      let J = flat_map s (take k ps) in
      let R = flat_map s (drop (suc k) ps) in
      sym (ap (λ l. slice_get l index) (joined_around ps k d at.index_in_range) ∙ get_behind J (q ++ R) index i (sym at.offset_is_sum) ∙ get_prefix q R i (at.within d))

  pub place_within : (ps : List X) (index k i : ℕ) (d : X) → IsInsertPosition s ps index k i → index ≤ length (flat_map s ps)
  place_within ps index k i d at =
      let q = s (get_or ps k d) in
      let J = flat_map s (take k ps) in
      let R = flat_map s (drop (suc k) ps) in
      let n = ap length (joined_around ps k d at.index_in_range) ∙ length-append J (q ++ R) in
      omega (arith, n, length-append q R, at.offset_is_sum, at.within d)

-- ---- uniqueness of the chunks

pub unique_at : {X : Type 0} (bs : List (Chunk X)) (k : ℕ) (d : Chunk X) → k < length bs → all_unique bs ≡ true → is_chunk_unique (get_or bs k d) ≡ true
unique_at [] k d h e = absurd (omega (arith, h))
unique_at (b ∷ bs) zero d h e = unique_first (is_chunk_unique b) (all_unique bs) e
unique_at (b ∷ bs) (suc k) d h e = unique_at bs k d (omega (arith, h)) (unique_rest (is_chunk_unique b) (all_unique bs) e)

pub unique_set : {X : Type 0} (bs : List (Chunk X)) (k : ℕ) (a : Chunk X) → is_chunk_unique a ≡ true → all_unique bs ≡ true → all_unique (set bs k a) ≡ true
unique_set [] k a h e = e
unique_set (b ∷ bs) zero a h e = unique_both (is_chunk_unique a) (all_unique bs) h (unique_rest (is_chunk_unique b) (all_unique bs) e)
unique_set (b ∷ bs) (suc k) a h e = unique_both (is_chunk_unique b) (all_unique (set bs k a)) (unique_first (is_chunk_unique b) (all_unique bs) e) (unique_set bs k a h (unique_rest (is_chunk_unique b) (all_unique bs) e))

pub unique_insert : {X : Type 0} (bs : List (Chunk X)) (k : ℕ) (a : Chunk X) → is_chunk_unique a ≡ true → all_unique bs ≡ true → all_unique (insert bs k a) ≡ true
unique_insert [] zero a h e = unique_both (is_chunk_unique a) true h refl
unique_insert [] (suc k) a h e = unique_both (is_chunk_unique a) true h refl
unique_insert (b ∷ bs) zero a h e = unique_both (is_chunk_unique a) (all_unique (b ∷ bs)) h e
unique_insert (b ∷ bs) (suc k) a h e = unique_both (is_chunk_unique b) (all_unique (insert bs k a)) (unique_first (is_chunk_unique b) (all_unique bs) e) (unique_insert bs k a h (unique_rest (is_chunk_unique b) (all_unique bs) e))

pub unique_remove : {X : Type 0} (bs : List (Chunk X)) (k : ℕ) → all_unique bs ≡ true → all_unique (remove bs k) ≡ true
unique_remove [] zero e = e
unique_remove [] (suc k) e = e
unique_remove (b ∷ bs) zero e = unique_rest (is_chunk_unique b) (all_unique bs) e
unique_remove (b ∷ bs) (suc k) e = unique_both (is_chunk_unique b) (all_unique (remove bs k)) (unique_first (is_chunk_unique b) (all_unique bs) e) (unique_remove bs k (unique_rest (is_chunk_unique b) (all_unique bs) e))

get_first : {X : Type 0} (bs : List X) (k : ℕ) (e d : X) → k < length bs → get_or (insert bs (suc k) e) k d ≡ get_or bs k d
get_first [] k e d h = absurd (omega (arith, h))
get_first (b ∷ bs) zero e d h = refl
get_first (b ∷ bs) (suc k) e d h = get_first bs k e d (omega (arith, h))

pub get_before : {X : Type 0} (bs : List X) (k : ℕ) (e d : X) → k < length bs → get_or (insert bs (k + 1) e) k d ≡ get_or bs k d
get_before bs k e d h =
    let s : k + 1 ≡ suc k = omega arith in
    ap (λ n. get_or (insert bs n e) k d) s ∙ get_first bs k e d h

-- a replacement that is unique if the old chunk was
pub unique_changed : {X : Type 0} (bs : List (Chunk X)) (k : ℕ) (a d : Chunk X) → k < length bs → d ≡ get_or bs k d → (is_chunk_unique d ≡ true → is_chunk_unique a ≡ true) → all_unique bs ≡ true → all_unique (set bs k a) ≡ true
unique_changed bs k a d h e keeps all = unique_set bs k a (keeps (ap is_chunk_unique e ∙ unique_at bs k d h all)) all

pub unique_inserted : {X : Type 0} (bs : List (Chunk X)) (k : ℕ) (a e d : Chunk X) → k < length bs → is_chunk_unique e ≡ true → d ≡ get_or bs k d → (is_chunk_unique d ≡ true → is_chunk_unique a ≡ true) → all_unique bs ≡ true → all_unique (set (insert bs (k + 1) e) k a) ≡ true
unique_inserted bs k a e d h o v keeps all = unique_set (insert bs (k + 1) e) k a (keeps (ap is_chunk_unique v ∙ unique_at bs k d h all)) (unique_insert bs (k + 1) e o all)

pub false_cond : (a b : Bool) → b ≡ false → cond a b false ≡ false
false_cond true b e = e
false_cond false b e = refl

first_false : (a b : Bool) → a ≡ false → cond a b false ≡ false
first_false true b e = cc
first_false false b e = refl

pub shared_at : {X : Type 0} (bs : List (Chunk X)) (k : ℕ) (d : Chunk X) → k < length bs → is_chunk_unique (get_or bs k d) ≡ false → all_unique bs ≡ false
shared_at [] k d h e = absurd (omega (arith, h))
shared_at (b ∷ bs) zero d h e = first_false (is_chunk_unique b) (all_unique bs) e
shared_at (b ∷ bs) (suc k) d h e = false_cond (is_chunk_unique b) (all_unique bs) (shared_at bs k d (omega (arith, h)) e)

-- ---- the chunk of an item

pub cc_false : (b : Bool) → b ≡ true → b ≡ false → ⊥
cc_false true p q = cc
cc_false false p q = cc

pub if_same : {A : Type 0} (b : Bool) (x y : A) → b ≡ true → (if b then x else y) ≡ x
if_same true x y e = refl
if_same false x y e = cc

pub if_other : {A : Type 0} (b : Bool) (x y : A) → b ≡ false → (if b then x else y) ≡ y
if_other true x y e = cc
if_other false x y e = refl

pub among_here : {X S : Type 0} (f : X → S) (bs : List (Chunk X)) (index k i : ℕ) (d : Chunk X) → k < length bs → length (flatten_models f (take k bs)) + i ≡ index
    → i < length (items_of (get_or bs k d)) → is_unique_at bs index ≡ is_chunk_unique (get_or bs k d)
among_here f [] index k i d h s w = absurd (omega (arith, h))
among_here f (b ∷ bs) index zero i d h s w =
    let l : index < length (items_of b) = omega (arith, s, w) in
    if_same (ltb index (length (items_of b))) (is_chunk_unique b) (is_unique_at bs (index - length (items_of b))) (lt-ltb index (length (items_of b)) l)
among_here f (b ∷ bs) index (suc k) i d h s w =
    let m = length-append (map f (items_of b)) (flatten_models f (take k bs)) in
    let n = length-map (items_of b) f in
    let l : length (items_of b) ≤ index = omega (arith, s, m, n) in
    let t : length (flatten_models f (take k bs)) + i ≡ index - length (items_of b) = omega (arith, s, m, n) in
    if_other (ltb index (length (items_of b))) (is_chunk_unique b) (is_unique_at bs (index - length (items_of b))) (le-ltb index (length (items_of b)) l)
    ∙ among_here f bs (index - length (items_of b)) k i d (omega (arith, h)) t w

pub among_set : {X S : Type 0} (f : X → S) (bs : List (Chunk X)) (index k i : ℕ) (a : Chunk X) → k < length bs → length (flatten_models f (take k bs)) + i ≡ index
    → i < length (items_of a) → is_unique_at (set bs k a) index ≡ is_chunk_unique a
among_set f [] index k i a h s w = absurd (omega (arith, h))
among_set f (b ∷ bs) index zero i a h s w =
    let l : index < length (items_of a) = omega (arith, s, w) in
    if_same (ltb index (length (items_of a))) (is_chunk_unique a) (is_unique_at bs (index - length (items_of a))) (lt-ltb index (length (items_of a)) l)
among_set f (b ∷ bs) index (suc k) i a h s w =
    let m = length-append (map f (items_of b)) (flatten_models f (take k bs)) in
    let n = length-map (items_of b) f in
    let l : length (items_of b) ≤ index = omega (arith, s, m, n) in
    let t : length (flatten_models f (take k bs)) + i ≡ index - length (items_of b) = omega (arith, s, m, n) in
    if_other (ltb index (length (items_of b))) (is_chunk_unique b) (is_unique_at (set bs k a) (index - length (items_of b))) (le-ltb index (length (items_of b)) l)
    ∙ among_set f bs (index - length (items_of b)) k i a (omega (arith, h)) t w

-- ---- the models that clones share

abbrev pub seen_chunks : {X S : Type 0} → (X → S) → Chunk (Chunk X) → List (List S × Bool) × Bool
seen_chunks f b = (map (chunk_model f) (items_of b), is_chunk_unique b)

abbrev pub seen_all : {X S : Type 0} → (X → S) → Chunk (Chunk X) → List S × Bool
seen_all f b = (flatten_models f (items_of b), cond (is_chunk_unique b) (all_unique (items_of b)) false)

abbrev pub flatten_pairs : {S : Type 0} → List (List S × Bool) → List S
flatten_pairs [] = []
flatten_pairs (p ∷ ps) = p.0 ++ flatten_pairs ps

abbrev flat_unique : {S : Type 0} → List (List S × Bool) → Bool
flat_unique [] = true
flat_unique (p ∷ ps) = cond p.1 (flat_unique ps) false

pub flat_joined : {X S : Type 0} (f : X → S) (bs : List (Chunk X)) → flatten_models f bs ≡ flatten_pairs (map (chunk_model f) bs)
flat_joined f [] = refl
flat_joined f (b ∷ bs) = ap (λ l. map f (items_of b) ++ l) (flat_joined f bs)

flat_all_unique : {X S : Type 0} (f : X → S) (bs : List (Chunk X)) → all_unique bs ≡ flat_unique (map (chunk_model f) bs)
flat_all_unique f [] = refl
flat_all_unique f (b ∷ bs) = ap (λ o. cond (is_chunk_unique b) o false) (flat_all_unique f bs)

pub joined_alike : {X S : Type 0} (f : X → S) (bs cs : List (Chunk X)) → map (chunk_model f) bs ≡ map (chunk_model f) cs → flatten_models f bs ≡ flatten_models f cs
joined_alike f bs cs e = flat_joined f bs ∙ ap flatten_pairs e ∙ sym (flat_joined f cs)

pub unique_alike : {X S : Type 0} (f : X → S) (bs cs : List (Chunk X)) → map (chunk_model f) bs ≡ map (chunk_model f) cs → all_unique bs ≡ all_unique cs
unique_alike f bs cs e = flat_all_unique f bs ∙ ap flat_unique e ∙ sym (flat_all_unique f cs)

abbrev pub flat_among : {S : Type 0} → List (List S × Bool) → ℕ → Bool
flat_among [] i = true
flat_among (p ∷ ps) i = if ltb i (length p.0) then p.1 else flat_among ps (i - length p.0)

pub flat_unique_among : {X S : Type 0} (f : X → S) (bs : List (Chunk X)) (i : ℕ) → is_unique_at bs i ≡ flat_among (map (chunk_model f) bs) i
flat_unique_among f [] i = refl
flat_unique_among f (b ∷ bs) i =
    ap (λ n. if ltb i n then is_chunk_unique b else is_unique_at bs (i - n)) (sym (length-map (items_of b) f))
    ∙ ap (λ t. if ltb i (length (map f (items_of b))) then is_chunk_unique b else t) (flat_unique_among f bs (i - length (map f (items_of b))))

pub among_alike : {X S : Type 0} (f : X → S) (bs cs : List (Chunk X)) → map (chunk_model f) bs ≡ map (chunk_model f) cs → (i : ℕ) → is_unique_at bs i ≡ is_unique_at cs i
among_alike f bs cs e i = flat_unique_among f bs i ∙ ap (λ l. flat_among l i) e ∙ sym (flat_unique_among f cs i)

abbrev seen_many : {S : Type 0} → List (List S × Bool) × Bool → List S × Bool
seen_many p = (flatten_pairs p.0, cond p.1 (flat_unique p.0) false)

many_flat : {X S : Type 0} (f : X → S) (a : Chunk (Chunk X)) → seen_all f a ≡ seen_many (seen_chunks f a)
many_flat f a = λ i. (flat_joined f (items_of a) i, cond (is_chunk_unique a) (flat_all_unique f (items_of a) i) false)

pub many_alike : {X S : Type 0} (f : X → S) (a b : Chunk (Chunk X)) → seen_chunks f a ≡ seen_chunks f b → seen_all f a ≡ seen_all f b
many_alike f a b e = many_flat f a ∙ ap seen_many e ∙ sym (many_flat f b)

-- ---- views of items

pub map_take : {X S : Type 0} (f : X → S) (xs : List X) (n : ℕ) → map f (take n xs) ≡ take n (map f xs)
map_take f xs zero = refl
map_take f [] (suc n) = refl
map_take f (x ∷ xs) (suc n) = ap (λ l. f x ∷ l) (map_take f xs n)

pub map_drop : {X S : Type 0} (f : X → S) (xs : List X) (n : ℕ) → map f (drop n xs) ≡ drop n (map f xs)
map_drop f xs zero = refl
map_drop f [] (suc n) = refl
map_drop f (x ∷ xs) (suc n) = map_drop f xs n

pub map_none : {X S : Type 0} (f : X → S) (xs : List X) → length xs ≡ 0 → map f xs ≡ []
map_none f [] e = refl
map_none f (x ∷ xs) e = absurd (omega (arith, e))

pub on_err : {A E P : Type 0} (r : Result A E) → P → OnErr r P
on_err (Ok x) p = tt
on_err (Err e) p = p

pub map_insert : {X S : Type 0} (f : X → S) (xs : List X) (i : ℕ) (x : X) → map f (insert xs i x) ≡ insert (map f xs) i (f x)
map_insert f [] zero x = refl
map_insert f [] (suc i) x = refl
map_insert f (y ∷ xs) zero x = refl
map_insert f (y ∷ xs) (suc i) x = ap (λ l. f y ∷ l) (map_insert f xs i x)

-- an inserted item is in range
pub put_inside : {S : Type 0} (xs : List S) (i : ℕ) (x : S) → i ≤ length xs → i < length (insert xs i x)
put_inside [] zero x h = omega arith
put_inside [] (suc i) x h = absurd (omega (arith, h))
put_inside (y ∷ xs) zero x h = omega arith
put_inside (y ∷ xs) (suc i) x h = let w = put_inside xs i x (omega (arith, h)) in omega (arith, w)

pub map_remove : {X S : Type 0} (f : X → S) (xs : List X) (i : ℕ) → map f (remove xs i) ≡ remove (map f xs) i
map_remove f [] zero = refl
map_remove f [] (suc i) = refl
map_remove f (y ∷ xs) zero = refl
map_remove f (y ∷ xs) (suc i) = ap (λ l. f y ∷ l) (map_remove f xs i)

pub map_set : {X S : Type 0} (f : X → S) (xs : List X) (i : ℕ) (x : X) → map f (set xs i x) ≡ set (map f xs) i (f x)
map_set f [] i x = refl
map_set f (y ∷ xs) zero x = refl
map_set f (y ∷ xs) (suc i) x = ap (λ l. f y ∷ l) (map_set f xs i x)

pub map_get : {X S : Type 0} (f : X → S) (xs : List X) (i : ℕ) → slice_get (map f xs) i ≡ option_map f (slice_get xs i)
map_get f [] i = refl
map_get f (x ∷ xs) zero = refl
map_get f (x ∷ xs) (suc i) = map_get f xs i

pub seen_of_ref : {X S : Type 0} (f : X → S) (r : Option (Bor X)) (o : Option X) → option_map (λ x. x.now) r ≡ o → option_map (λ x. f x.now) r ≡ option_map f o
seen_of_ref f None o e = ap (option_map f) e
seen_of_ref f (Some x) o e = ap (option_map f) e

after_of : (i n : ℕ) → false ≡ ltb i n → n ≤ i
after_of i n e = ltb-false i n (sym e)

within_of : (i n : ℕ) → true ≡ ltb i n → i < n
within_of i n e = ltb-true i n (sym e)

pub get_none : {X : Type 0} (xs : List X) (i : ℕ) → length xs ≤ i → slice_get xs i ≡ None
get_none [] i h = refl
get_none (x ∷ xs) zero h = absurd (omega (arith, h))
get_none (x ∷ xs) (suc i) h = get_none xs i (omega (arith, h))

pub remove_none : {X : Type 0} (xs : List X) (i : ℕ) → length xs ≤ i → remove xs i ≡ xs
remove_none [] zero h = refl
remove_none [] (suc i) h = refl
remove_none (x ∷ xs) zero h = absurd (omega (arith, h))
remove_none (x ∷ xs) (suc i) h = ap (λ l. x ∷ l) (remove_none xs i (omega (arith, h)))

pub set_none : {X : Type 0} (xs : List X) (i : ℕ) (y : X) → length xs ≤ i → set xs i y ≡ xs
set_none [] i y h = refl
set_none (x ∷ xs) zero y h = absurd (omega (arith, h))
set_none (x ∷ xs) (suc i) y h = ap (λ l. x ∷ l) (set_none xs i y (omega (arith, h)))

get_some : {X : Type 0} (xs : List X) (i : ℕ) (d : X) → i < length xs → slice_get xs i ≡ Some (get_or xs i d)
get_some [] i d h = absurd (omega (arith, h))
get_some (x ∷ xs) zero d h = refl
get_some (x ∷ xs) (suc i) d h = get_some xs i d (omega (arith, h))

pub seen_of_mut : {X S : Type 0} (f : X → S) (r : Option (MutBor X)) (xs : List X) (i : ℕ) → is_some r ≡ ltb i (length xs) → IfSome r (λ x. x.now ≡ get_or xs i x.now)
    → option_map (λ x. f x.now) r ≡ slice_get (map f xs) i
seen_of_mut f None xs i b e = sym (map_get f xs i ∙ ap (option_map f) (get_none xs i (after_of i (length xs) b)))
seen_of_mut f (Some x) xs i b e = sym (map_get f xs i ∙ ap (option_map f) (get_some xs i x.now (within_of i (length xs) b) ∙ ap Some (sym e)))

-- a borrowed item is the one that was found
pub borrowed_item : {X S : Type 0} (f : X → S) (r : Option (MutBor X)) (o : Option S) → option_map (λ x. f x.now) r ≡ o → IfSome r (λ x. o ≡ Some (f x.now))
borrowed_item f None o e = tt
borrowed_item f (Some x) o e = sym e

pub if_some_also : {A P Q : Type 0} (r : Option A) → IfSome r (λ _. P) → (P → Q) → IfSome r (λ _. Q)
if_some_also None p h = tt
if_some_also (Some x) p h = h p

pub if_some : {A P : Type 0} (r : Option A) → P → IfSome r (λ _. P)
if_some None p = tt
if_some (Some x) p = p

-- ---- a chunk with exchanged items

-- ---- chunks that are split off, the last first

pub unique_more : {X : Type 0} (bs : List (Chunk X)) (b : Chunk X) → all_unique bs ≡ true → is_chunk_unique b ≡ true → all_unique (bs ++ b ∷ []) ≡ true
unique_more [] b all own = unique_both (is_chunk_unique b) true own refl
unique_more (a ∷ bs) b all own =
    unique_both (is_chunk_unique a) (all_unique (bs ++ b ∷ [])) (unique_first (is_chunk_unique a) (all_unique bs) all) (unique_more bs b (unique_rest (is_chunk_unique a) (all_unique bs) all) own)

pub unique_reverse : {X : Type 0} (bs : List (Chunk X)) → all_unique bs ≡ true → all_unique (reverse bs) ≡ true
unique_reverse [] all = refl
unique_reverse (b ∷ bs) all = ap all_unique (reverse-append (b ∷ []) bs) ∙ unique_more (reverse bs) b (unique_reverse bs (unique_rest (is_chunk_unique b) (all_unique bs) all)) (unique_first (is_chunk_unique b) (all_unique bs) all)

pub cut_off : {X : Type 0} (xs ms : List X) (bs cs : List (Chunk X)) (b : Chunk X) (n : ℕ) → ms ≡ take n xs → items_of b ≡ drop n xs → cs ≡ bs ++ b ∷ []
    → ms ++ flat_map items_of (reverse cs) ≡ xs ++ flat_map items_of (reverse bs)
cut_off xs ms bs cs b n m t c =
    let R = flat_map items_of (reverse bs) in
    ap (λ l. ms ++ flat_map items_of l) (ap reverse c ∙ reverse-append bs (b ∷ [])) ∙ sym (append_assoc ms (items_of b) R)
    ∙ ap (λ l. l ++ R) (ap (λ l. l ++ items_of b) m ∙ ap (λ l. take n xs ++ l) t ∙ take-append-drop n xs)
