-- The greatest length of a chunk after an edit.
use Rattle.std.proofs.Common.{◌≡◌, ℕ, zero, suc, ◌+◌, ◌-◌, ◌*◌, ◌/◌, ◌<◌, ◌≤◌, max, List, [], ◌∷◌, ◌++◌, length, take, drop, map, reverse, refl, sym, ap, ◌∙◌, arith, length-append, length-take, length-drop, get_or, set, Bool, true, false, leb, if◌then◌else◌}
use Rattle.std.proofs.Math.ListN.{length-map}
use Rattle.std.proofs.lemmas.Bool.{le-leb, lt-leb, leb-true, leb-false}
use Rattle.std.proofs.lemmas.List.{reverse-append}
use Rattle.std.specs.List.{flat_map, insert, remove}
use Rattle.sdb_chunks.specs.Chunk.{items_of}
use Rattle.sdb_chunks.specs.Chunks.{chunk_model, max_chunk_length, insert_chunk_index, chunk_length_at}
use Rattle.sdb_chunks.specs.ChunkGroup.{group_chunks, max_grouped_length}
use Rattle.sdb_chunks.specs.ChunkedVec.{flatten_models}
use Rattle.sdb_chunks.specs.declared.chunk.Chunk.{Chunk}
use Rattle.sdb_chunks.specs.declared.chunk_group.ChunkGroup.{ChunkGroup}
use Rattle.sdb_chunks.proofs.FlattenLemmas.{seen_chunks, if_same, if_other, map_take, map_drop}

abbrev chunk_count : {X : Type 0} → Chunk X → ℕ
chunk_count b = length (items_of b)

-- ---- the greatest length after a change of chunks

pub longest_at : {X : Type 0} (bs : List (Chunk X)) (k : ℕ) (d : Chunk X) → k < length bs → length (items_of (get_or bs k d)) ≤ max_chunk_length bs
longest_at [] k d h = absurd (omega (arith, h))
longest_at (b ∷ bs) zero d h = omega arith
longest_at (b ∷ bs) (suc k) d h = let l = longest_at bs k d (omega (arith, h)) in omega (arith, l)

pub longest_set : {X : Type 0} (bs : List (Chunk X)) (k : ℕ) (a : Chunk X) (n : ℕ) → max_chunk_length bs ≤ n → length (items_of a) ≤ n → max_chunk_length (set bs k a) ≤ n
longest_set [] k a n h l = h
longest_set (b ∷ bs) zero a n h l = omega (arith, h, l)
longest_set (b ∷ bs) (suc k) a n h l = let r = longest_set bs k a n (omega (arith, h)) l in omega (arith, h, r)

pub longest_insert : {X : Type 0} (bs : List (Chunk X)) (k : ℕ) (a : Chunk X) (n : ℕ) → max_chunk_length bs ≤ n → length (items_of a) ≤ n → max_chunk_length (insert bs k a) ≤ n
longest_insert [] zero a n h l = omega (arith, l)
longest_insert [] (suc k) a n h l = omega (arith, l)
longest_insert (b ∷ bs) zero a n h l = omega (arith, h, l)
longest_insert (b ∷ bs) (suc k) a n h l = let r = longest_insert bs k a n (omega (arith, h)) l in omega (arith, h, r)

pub longest_remove : {X : Type 0} (bs : List (Chunk X)) (k : ℕ) → max_chunk_length (remove bs k) ≤ max_chunk_length bs
longest_remove [] zero = omega arith
longest_remove [] (suc k) = omega arith
longest_remove (b ∷ bs) zero = omega arith
longest_remove (b ∷ bs) (suc k) = let r = longest_remove bs k in omega (arith, r)

pub longest_append : {X : Type 0} (bs cs : List (Chunk X)) → max_chunk_length (bs ++ cs) ≡ max (max_chunk_length bs) (max_chunk_length cs)
longest_append [] cs = omega arith
longest_append (b ∷ bs) cs = let r = longest_append bs cs in omega (arith, r)

pub longest_reverse : {X : Type 0} (bs : List (Chunk X)) → max_chunk_length (reverse bs) ≡ max_chunk_length bs
longest_reverse [] = refl
longest_reverse (b ∷ bs) =
    let e = ap max_chunk_length (reverse-append (b ∷ []) bs) in
    let m = longest_append (reverse bs) (b ∷ []) in
    let r = longest_reverse bs in
    omega (arith, e, m, r)

pub longest_take : {X : Type 0} (bs : List (Chunk X)) (n : ℕ) → max_chunk_length (take n bs) ≤ max_chunk_length bs
longest_take bs zero = omega arith
longest_take [] (suc n) = omega arith
longest_take (b ∷ bs) (suc n) = let r = longest_take bs n in omega (arith, r)

pub longest_drop : {X : Type 0} (bs : List (Chunk X)) (n : ℕ) → max_chunk_length (drop n bs) ≤ max_chunk_length bs
longest_drop bs zero = omega arith
longest_drop [] (suc n) = omega arith
longest_drop (b ∷ bs) (suc n) = let r = longest_drop bs n in omega (arith, r)

-- one more appended
pub longest_push : {X : Type 0} (bs all : List (Chunk X)) (b : Chunk X) (n : ℕ) → all ≡ bs ++ b ∷ [] → max_chunk_length bs ≤ n → length (items_of b) ≤ n → max_chunk_length all ≤ n
longest_push bs all b n e h l =
    let p = ap max_chunk_length e in
    let m = longest_append bs (b ∷ []) in
    omega (arith, p, m, h, l)

-- the last items of a list
pub cut_short : {X : Type 0} (bs all : List (Chunk X)) (xs : List X) (b : Chunk X) (n m : ℕ) → all ≡ bs ++ b ∷ [] → items_of b ≡ drop n xs → max_chunk_length bs ≤ m → length xs - n ≤ m
    → max_chunk_length all ≤ m
cut_short bs all xs b n m pushed is h w =
    let e = ap length is ∙ length-drop n xs in
    longest_push bs all b m pushed h (omega (arith, e, w))

pub no_more : {X : Type 0} (xs ys : List X) (n : ℕ) → xs ≡ ys → length ys ≤ n → length xs ≤ n
no_more xs ys n e h = let l = ap length e in omega (arith, l, h)

-- a chunk replaced by one that isn't longer
pub longest_unchanged : {X : Type 0} (bs : List (Chunk X)) (k : ℕ) (a d : Chunk X) → k < length bs → d ≡ get_or bs k d → length (items_of a) ≤ length (items_of d)
    → max_chunk_length (set bs k a) ≤ max_chunk_length bs
longest_unchanged bs k a d h e l =
    let m = ap (λ b. length (items_of b)) e in
    let w = longest_at bs k d h in
    longest_set bs k a (max_chunk_length bs) (omega arith) (omega (arith, m, w, l))

-- ---- the chunk of an insert

pub chunk_here : {X S : Type 0} (f : X → S) (bs : List (Chunk X)) (index k i : ℕ) (d : Chunk X) → k < length bs → length (flatten_models f (take k bs)) + i ≡ index
    → (0 < k → 0 < i) → i ≤ length (items_of (get_or bs k d)) → k ≡ insert_chunk_index bs index
chunk_here f [] index k i d h s p w = absurd (omega (arith, h))
chunk_here f (b ∷ bs) index zero i d h s p w =
    let l : index ≤ length (items_of b) = omega (arith, s, w) in
    sym (if_same (leb index (length (items_of b))) 0 (suc (insert_chunk_index bs (index - length (items_of b)))) (le-leb index (length (items_of b)) l))
chunk_here f (b ∷ bs) index (suc k) i d h s p w =
    let m = length-append (map f (items_of b)) (flatten_models f (take k bs)) in
    let n = length-map (items_of b) f in
    let q : 0 < i = p (omega arith) in
    let l : length (items_of b) < index = omega (arith, s, m, n, q) in
    let t : length (flatten_models f (take k bs)) + i ≡ index - length (items_of b) = omega (arith, s, m, n) in
    ap suc (chunk_here f bs (index - length (items_of b)) k i d (omega (arith, h)) t (λ _. q) w)
    ∙ sym (if_other (leb index (length (items_of b))) 0 (suc (insert_chunk_index bs (index - length (items_of b)))) (lt-leb index (length (items_of b)) l))

-- whether the index is in the first chunk or after it
first_of : {A : Type 0} (t : Bool) (k : ℕ) → (t ≡ true → A) → (t ≡ false → A) → A
first_of true k p q = p refl
first_of false k p q = q refl

suc_not : (k : ℕ) → suc k ≡ 0 → ⊥
suc_not k e = omega (arith, e)

pub items_here : {X : Type 0} (bs : List (Chunk X)) (index k : ℕ) (d : Chunk X) → k < length bs → k ≡ insert_chunk_index bs index
    → chunk_length_at bs index ≡ length (items_of (get_or bs k d))
items_here [] index k d h e = absurd (omega (arith, h))
items_here (b ∷ bs) index zero d h e =
    let n = length (items_of b) in
    let r = chunk_length_at bs (index - n) in
    let q = suc (insert_chunk_index bs (index - n)) in
    first_of (leb index n) 0 (λ t. if_same (leb index n) n r t) (λ t. absurd (suc_not (insert_chunk_index bs (index - n)) (sym (e ∙ if_other (leb index n) 0 q t))))
items_here (b ∷ bs) index (suc k) d h e =
    let n = length (items_of b) in
    let r = chunk_length_at bs (index - n) in
    let q = suc (insert_chunk_index bs (index - n)) in
    first_of (leb index n) 0 (λ t. absurd (suc_not k (e ∙ if_same (leb index n) 0 q t)))
    (λ t. let s = e ∙ if_other (leb index n) 0 q t in if_other (leb index n) n r t ∙ items_here bs (index - n) k d (omega (arith, h)) (omega (arith, s)))

pub items_after : {X S : Type 0} (f : X → S) (bs : List (Chunk X)) (index : ℕ) → length (flatten_models f bs) < index → chunk_length_at bs index ≡ 0
items_after f [] index h = refl
items_after f (b ∷ bs) index h =
    let m = length-append (map f (items_of b)) (flatten_models f bs) in
    let n = length-map (items_of b) f in
    let l : length (items_of b) < index = omega (arith, h, m, n) in
    if_other (leb index (length (items_of b))) (length (items_of b)) (chunk_length_at bs (index - length (items_of b))) (lt-leb index (length (items_of b)) l)
    ∙ items_after f bs (index - length (items_of b)) (omega (arith, h, m, n))

-- without chunks the index is out of range
pub items_none : {X S : Type 0} (f : X → S) (bs : List (Chunk X)) (index : ℕ) → (index ≤ length (flatten_models f bs) → bs ≡ []) → chunk_length_at bs index ≡ 0
items_none f bs index h =
    first_of (leb index (length (flatten_models f bs))) 0 (λ t. ap (λ l. chunk_length_at l index) (h (leb-true index (length (flatten_models f bs)) t)))
    (λ t. items_after f bs index (leb-false index (length (flatten_models f bs)) t))

-- ---- the greatest length after an insert

pub room_half : {X : Type 0} (bs cs : List (Chunk X)) (i k most : ℕ) (d : Chunk X) → k < length bs → k ≡ insert_chunk_index bs i → d ≡ get_or bs k d
    → most ≤ length (items_of d) → 1 < most → max_chunk_length cs ≤ max_chunk_length bs → ((j : ℕ) → insert_chunk_index bs j ≡ k → 2 * chunk_length_at cs j ≤ chunk_length_at bs j + 1)
    → max (chunk_length_at cs i + 1) (max_chunk_length cs) ≤ max most (max_chunk_length bs)
room_half bs cs i k most d h first is full low less half =
    let here = items_here bs i k d h first in
    let was = ap (λ b. length (items_of b)) is in
    let w = longest_at bs k d h in
    let l = half i (sym first) in
    omega (arith, here, was, w, l, full, low, less)

pub room_here : {X : Type 0} (bs : List (Chunk X)) (i k most : ℕ) (d : Chunk X) → k < length bs → k ≡ insert_chunk_index bs i → d ≡ get_or bs k d → length (items_of d) < most
    → max (chunk_length_at bs i + 1) (max_chunk_length bs) ≤ max most (max_chunk_length bs)
room_here bs i k most d h first is room =
    let here = items_here bs i k d h first in
    let was = ap (λ b. length (items_of b)) is in
    omega (arith, here, was, room)

-- ---- a chunk and its two halves

pub longest_halves : {X : Type 0} (bs : List (Chunk X)) (k : ℕ) (a b e : Chunk X) (n : ℕ) → max_chunk_length bs ≤ n → length (items_of a) ≤ n → length (items_of b) ≤ n → length (items_of e) ≤ n
    → max_chunk_length (set (set (insert bs (k + 1) e) k a) (k + 1) b) ≤ n
longest_halves bs k a b e n h p q r =
    longest_set (set (insert bs (k + 1) e) k a) (k + 1) b n (longest_set (insert bs (k + 1) e) k a n (longest_insert bs (k + 1) e n h r) p) q

half_here : {X : Type 0} (bs : List (Chunk X)) (i k m : ℕ) (a b e d : Chunk X) → k < length bs → insert_chunk_index bs i ≡ k
    → length (items_of a) + length (items_of b) ≡ length (items_of (get_or bs k d)) → length (items_of a) ≤ m → length (items_of b) ≤ m
    → chunk_length_at (set (set (insert bs (suc k) e) k a) (suc k) b) i ≤ m
half_here [] i k m a b e d h w s p q = absurd (omega (arith, h))
half_here (x ∷ bs) i zero m a b e d h w s p q =
    let n = length (items_of x) in
    let u = length (items_of a) in
    let v = length (items_of b) in
    let r = chunk_length_at bs (i - u - v) in
    first_of (leb i n) 0
    (λ t. let l = leb-true i n t in
    first_of (leb i u) 0
    (λ z. let is = if_same (leb i u) u (if leb (i - u) v then v else r) z in omega (arith, is, p))
    (λ z.
    let c = leb-false i u z in
    let is = if_other (leb i u) u (if leb (i - u) v then v else r) z in
    let then' = if_same (leb (i - u) v) v r (le-leb (i - u) v (omega (arith, l, s, c))) in
    omega (arith, is, then', q)))
    (λ t. absurd (suc_not (insert_chunk_index bs (i - n)) (sym (if_other (leb i n) 0 (suc (insert_chunk_index bs (i - n))) t) ∙ w)))
half_here (x ∷ bs) i (suc k) m a b e d h w s p q =
    let n = length (items_of x) in
    let next = set (set (insert bs (suc k) e) k a) (suc k) b in
    first_of (leb i n) 0
    (λ t. absurd (suc_not k (sym w ∙ if_same (leb i n) 0 (suc (insert_chunk_index bs (i - n))) t)))
    (λ t.
    let o = sym w ∙ if_other (leb i n) 0 (suc (insert_chunk_index bs (i - n))) t in
    let is = if_other (leb i n) n (chunk_length_at next (i - n)) t in
    let r = half_here bs (i - n) k m a b e d (omega (arith, h)) (omega (arith, o)) s p q in
    omega (arith, is, r))

pub half_at : {X : Type 0} (bs : List (Chunk X)) (i k m : ℕ) (a b e d : Chunk X) → k < length bs → insert_chunk_index bs i ≡ k
    → length (items_of a) + length (items_of b) ≡ length (items_of (get_or bs k d)) → length (items_of a) ≤ m → length (items_of b) ≤ m
    → chunk_length_at (set (set (insert bs (k + 1) e) k a) (k + 1) b) i ≤ m
half_at bs i k m a b e d h w s p q =
    let n : k + 1 ≡ suc k = omega arith in
    let x = ap (λ j. chunk_length_at (set (set (insert bs j e) k a) j b) i) n in
    let r = half_here bs i k m a b e d h w s p q in
    omega (arith, x, r)

-- ---- the models that clones share

abbrev flat_longest : {S : Type 0} → List (List S × Bool) → ℕ
flat_longest [] = 0
flat_longest (p ∷ ps) = max (length p.0) (flat_longest ps)

abbrev all_longest : {S : Type 0} → List (List (List S × Bool) × Bool) → ℕ
all_longest [] = 0
all_longest (p ∷ ps) = max (flat_longest p.0) (all_longest ps)

module _ {X S : Type 0} (f : X → S) where
  pub same_count : (xs ys : List X) → map f xs ≡ map f ys → length xs ≡ length ys
  same_count xs ys e = sym (length-map xs f) ∙ ap length e ∙ length-map ys f

  -- the items of a chunk in two halves
  pub halves_count : (xs ys zs : List X) → map f xs ≡ take (length zs / 2) (map f zs) → map f ys ≡ drop (length zs / 2) (map f zs)
      → (length xs + length ys ≡ length zs) × (length xs ≤ length ys) × (2 * length ys ≤ length zs + 1)
  halves_count xs ys zs u v =
      let m = length zs / 2 in
      let n = length-map zs f in
      let a = sym (length-map xs f) ∙ ap length u ∙ length-take m (map f zs) in
      let b = sym (length-map ys f) ∙ ap length v ∙ length-drop m (map f zs) in
      (omega (arith, a, b, n), omega (arith, a, b, n), omega (arith, a, b, n))

  longest_flat : (bs : List (Chunk X)) → max_chunk_length bs ≡ flat_longest (map (chunk_model f) bs)
  longest_flat [] = refl
  longest_flat (b ∷ bs) =
      let n = length-map (items_of b) f in
      let r = longest_flat bs in
      omega (arith, n, r)

  pub longest_alike : (bs cs : List (Chunk X)) → map (chunk_model f) bs ≡ map (chunk_model f) cs → max_chunk_length bs ≡ max_chunk_length cs
  longest_alike bs cs e = longest_flat bs ∙ ap flat_longest e ∙ sym (longest_flat cs)

  pub longest_first : (as' bs : List (Chunk X)) (m : ℕ) → map (chunk_model f) as' ≡ take m (map (chunk_model f) bs) → max_chunk_length as' ≤ max_chunk_length bs
  longest_first as' bs m e =
      let s = longest_alike as' (take m bs) (e ∙ sym (map_take (chunk_model f) bs m)) in
      let l = longest_take bs m in
      omega (arith, s, l)

  pub longest_last : (as' bs : List (Chunk X)) (m : ℕ) → map (chunk_model f) as' ≡ drop m (map (chunk_model f) bs) → max_chunk_length as' ≤ max_chunk_length bs
  longest_last as' bs m e =
      let s = longest_alike as' (drop m bs) (e ∙ sym (map_drop (chunk_model f) bs m)) in
      let l = longest_drop bs m in
      omega (arith, s, l)

  -- cloned items appended as a chunk
  pub part_short : (bs all : List (Chunk X)) (xs us : List X) (b : Chunk X) (i m n : ℕ) → all ≡ bs ++ b ∷ [] → items_of b ≡ us → map f us ≡ map f (take n (drop i xs))
      → max_chunk_length bs ≤ m → n ≤ m → max_chunk_length all ≤ m
  part_short bs all xs us b i m n pushed is seen h w =
      let e = ap length is ∙ same_count us (take n (drop i xs)) seen in
      let l = length-take n (drop i xs) in
      longest_push bs all b m pushed h (omega (arith, e, l, w))

  abbrev seen_chunks_of : ChunkGroup X → List (List S × Bool) × Bool
  seen_chunks_of g = seen_chunks f g.chunks

  groups_flat : (gs : List (ChunkGroup X)) → max_grouped_length gs ≡ all_longest (map (seen_chunks_of) gs)
  groups_flat [] = refl
  groups_flat (g ∷ gs) =
      let m = longest_append (group_chunks g) (flat_map group_chunks gs) in
      let n = longest_flat (group_chunks g) in
      let r = groups_flat gs in
      omega (arith, m, n, r)

  pub longest_grouped_alike : (gs hs : List (ChunkGroup X)) → map (seen_chunks_of) gs ≡ map (seen_chunks_of) hs → max_grouped_length gs ≡ max_grouped_length hs
  longest_grouped_alike gs hs e = groups_flat gs ∙ ap all_longest e ∙ sym (groups_flat hs)

-- ---- the greatest length after a change of groups

pub grouped_at : {X : Type 0} (gs : List (ChunkGroup X)) (k : ℕ) (d : ChunkGroup X) → k < length gs → max_chunk_length (group_chunks (get_or gs k d)) ≤ max_grouped_length gs
grouped_at [] k d h = absurd (omega (arith, h))
grouped_at (g ∷ gs) zero d h = let m = longest_append (group_chunks g) (flat_map group_chunks gs) in omega (arith, m)
grouped_at (g ∷ gs) (suc k) d h =
    let m = longest_append (group_chunks g) (flat_map group_chunks gs) in
    let l = grouped_at gs k d (omega (arith, h)) in
    omega (arith, l, m)

pub grouped_set : {X : Type 0} (gs : List (ChunkGroup X)) (k : ℕ) (a : ChunkGroup X) (n : ℕ) → max_grouped_length gs ≤ n → max_chunk_length (group_chunks a) ≤ n → max_grouped_length (set gs k a) ≤ n
grouped_set [] k a n h l = h
grouped_set (g ∷ gs) zero a n h l =
    let m = longest_append (group_chunks g) (flat_map group_chunks gs) in
    let o = longest_append (group_chunks a) (flat_map group_chunks gs) in
    omega (arith, m, o, h, l)
grouped_set (g ∷ gs) (suc k) a n h l =
    let m = longest_append (group_chunks g) (flat_map group_chunks gs) in
    let o = longest_append (group_chunks g) (flat_map group_chunks (set gs k a)) in
    let r = grouped_set gs k a n (omega (arith, m, h)) l in
    omega (arith, m, o, h, r)

pub grouped_insert : {X : Type 0} (gs : List (ChunkGroup X)) (k : ℕ) (a : ChunkGroup X) (n : ℕ) → max_grouped_length gs ≤ n → max_chunk_length (group_chunks a) ≤ n → max_grouped_length (insert gs k a) ≤ n
grouped_insert [] zero a n h l = let m = longest_append (group_chunks a) [] in omega (arith, m, l)
grouped_insert [] (suc k) a n h l = let m = longest_append (group_chunks a) [] in omega (arith, m, l)
grouped_insert (g ∷ gs) zero a n h l =
    let o = longest_append (group_chunks a) (flat_map group_chunks (g ∷ gs)) in
    omega (arith, o, h, l)
grouped_insert (g ∷ gs) (suc k) a n h l =
    let m = longest_append (group_chunks g) (flat_map group_chunks gs) in
    let o = longest_append (group_chunks g) (flat_map group_chunks (insert gs k a)) in
    let r = grouped_insert gs k a n (omega (arith, m, h)) l in
    omega (arith, m, o, h, r)

pub grouped_remove : {X : Type 0} (gs : List (ChunkGroup X)) (k : ℕ) → max_grouped_length (remove gs k) ≤ max_grouped_length gs
grouped_remove [] zero = omega arith
grouped_remove [] (suc k) = omega arith
grouped_remove (g ∷ gs) zero = let m = longest_append (group_chunks g) (flat_map group_chunks gs) in omega (arith, m)
grouped_remove (g ∷ gs) (suc k) =
    let m = longest_append (group_chunks g) (flat_map group_chunks gs) in
    let o = longest_append (group_chunks g) (flat_map group_chunks (remove gs k)) in
    let r = grouped_remove gs k in
    omega (arith, m, o, r)

pub grouped_append : {X : Type 0} (gs hs : List (ChunkGroup X)) → max_grouped_length (gs ++ hs) ≡ max (max_grouped_length gs) (max_grouped_length hs)
grouped_append [] hs = omega arith
grouped_append (g ∷ gs) hs =
    let m = longest_append (group_chunks g) (flat_map group_chunks gs) in
    let o = longest_append (group_chunks g) (flat_map group_chunks (gs ++ hs)) in
    let r = grouped_append gs hs in
    omega (arith, m, o, r)

pub grouped_push : {X : Type 0} (gs all : List (ChunkGroup X)) (g : ChunkGroup X) (n : ℕ) → all ≡ gs ++ g ∷ [] → max_grouped_length gs ≤ n → max_chunk_length (group_chunks g) ≤ n → max_grouped_length all ≤ n
grouped_push gs all g n e h l =
    let p = ap max_grouped_length e in
    let m = grouped_append gs (g ∷ []) in
    let o = longest_append (group_chunks g) [] in
    omega (arith, p, m, o, h, l)

-- cloned chunks appended as a group
pub group_short : {X S : Type 0} (f : X → S) (gs all : List (ChunkGroup X)) (bs us : List (Chunk X)) (g : ChunkGroup X) (i n : ℕ) → all ≡ gs ++ g ∷ [] → group_chunks g ≡ us
    → map (chunk_model f) us ≡ map (chunk_model f) (take n (drop i bs)) → max_grouped_length gs ≤ max_chunk_length bs → max_grouped_length all ≤ max_chunk_length bs
group_short f gs all bs us g i n pushed is seen h =
    let e = ap max_chunk_length is ∙ longest_alike f us (take n (drop i bs)) seen in
    let l = longest_take (drop i bs) n in
    let r = longest_drop bs i in
    grouped_push gs all g (max_chunk_length bs) pushed h (omega (arith, e, l, r))

-- a group replaced by one whose chunks aren't longer
pub grouped_unchanged : {X : Type 0} (gs : List (ChunkGroup X)) (k : ℕ) (a d : ChunkGroup X) (n : ℕ) → k < length gs → d ≡ get_or gs k d → max_chunk_length (group_chunks a) ≤ max n (max_chunk_length (group_chunks d))
    → max_grouped_length (set gs k a) ≤ max n (max_grouped_length gs)
grouped_unchanged gs k a d n h e l =
    let m = ap (λ g. max_chunk_length (group_chunks g)) e in
    let w = grouped_at gs k d h in
    grouped_set gs k a (max n (max_grouped_length gs)) (omega arith) (omega (arith, m, w, l))

pub grouped_halves : {X : Type 0} (gs : List (ChunkGroup X)) (k : ℕ) (a b e : ChunkGroup X) (n : ℕ) → max_grouped_length gs ≤ n → max_chunk_length (group_chunks a) ≤ n → max_chunk_length (group_chunks b) ≤ n → max_chunk_length (group_chunks e) ≤ n
    → max_grouped_length (set (set (insert gs (k + 1) e) k a) (k + 1) b) ≤ n
grouped_halves gs k a b e n h p q r =
    grouped_set (set (insert gs (k + 1) e) k a) (k + 1) b n (grouped_set (insert gs (k + 1) e) k a n (grouped_insert gs (k + 1) e n h r) p) q
