-- Groups of chunks and their numbers of items.
use Rattle.std.proofs.Common.{◌≡◌, ℕ, zero, suc, ◌+◌, ◌-◌, ◌*◌, ◌<◌, ◌≤◌, List, [], ◌∷◌, ◌++◌, length, take, drop, map, refl, sym, ap, ◌∙◌, arith, length-append, append_assoc, get_or, set, Bool, true, false, cond, ltb, if◌then◌else◌, Result, Ok, Err, OnOk, OnErr}
use Rattle.std.proofs.Math.ListN.{length-map}
use Rattle.std.proofs.lemmas.Bool.{lt-ltb, le-ltb}
use Rattle.std.specs.List.{flat_map, insert, remove}
use Rattle.sdb_chunks.specs.Chunk.{items_of, is_chunk_unique}
use Rattle.sdb_chunks.specs.Chunks.{chunk_model}
use Rattle.sdb_chunks.specs.ChunkGroup.{group_chunks, group_models, flatten_group_models, is_unique_group_at, is_unique_in_groups_at}
use Rattle.sdb_chunks.specs.ChunkedVec.{chunk_models, flatten_models}
use Rattle.sdb_chunks.specs.Position.{IsInsertPosition, IsItemPosition}
use Rattle.sdb_chunks.specs.declared.chunk.Chunk.{Chunk}
use Rattle.sdb_chunks.specs.declared.chunk.Chunk.TheVariants.{Unique, Shared}
use Rattle.sdb_chunks.specs.declared.chunk_group.ChunkGroup.{ChunkGroup}
use Rattle.sdb_chunks.proofs.FlattenLemmas.{append_none, joined_append, joined_alike, joined_more, seen_chunks, flatten_pairs, flat_among, flat_joined, flat_unique_among, if_same, if_other}

pub no_items : {X : Type 0} (xs : List X) → length xs ≡ 0 → xs ≡ []
no_items [] h = refl
no_items (x ∷ xs) h = absurd (omega (arith, h))

pub both_ways : {A E P Q R : Type 0} (r : Result A E) → OnOk r P → OnErr r Q → (P → R) → (Q → R) → R
both_ways (Ok x) p q h k = h p
both_ways (Err e) p q h k = k q

length_insert : {S : Type 0} (xs : List S) (i : ℕ) (x : S) → i ≤ length xs → length (insert xs i x) ≡ length xs + 1
length_insert [] zero x h = refl
length_insert [] (suc i) x h = absurd (omega (arith, h))
length_insert (y ∷ xs) zero x h = omega arith
length_insert (y ∷ xs) (suc i) x h = let n = length_insert xs i x (omega (arith, h)) in omega (arith, n)

length_remove : {S : Type 0} (xs : List S) (i : ℕ) → i < length xs → length (remove xs i) + 1 ≡ length xs
length_remove [] i h = absurd (omega (arith, h))
length_remove (y ∷ xs) zero h = omega arith
length_remove (y ∷ xs) (suc i) h = let n = length_remove xs i (omega (arith, h)) in omega (arith, n)

-- ---- a vector has fewer than 2^64 items
few_items : {X : Type 0} (b : Chunk X) → length (items_of b) ≤ 18446744073709551615
few_items (Unique v) = omega (arith, v.ok.0, v.ok.1, v.small)
few_items (Shared a) = let v = a.value in omega (arith, v.ok.0, v.ok.1, v.small)

few_together : {X : Type 0} (bs : List (Chunk X)) → length (flat_map items_of bs) ≤ length bs * 18446744073709551615
few_together [] = omega arith
few_together (b ∷ bs) = let n = length-append (items_of b) (flat_map items_of bs) in omega (arith, n, few_items b, few_together bs)

pub few_in_chunks : {X : Type 0} (bs : Chunk (Chunk X)) → length (flat_map items_of (items_of bs)) < 340282366920938463463374607431768211455
few_in_chunks bs = omega (arith, few_items bs, few_together (items_of bs))

module _ {X S : Type 0} (f : X → S) where
  pub number_seen : (bs : List (Chunk X)) → length (flatten_models f bs) ≡ length (flat_map items_of bs)
  number_seen [] = refl
  number_seen (b ∷ bs) =
      let m = length-append (map f (items_of b)) (flatten_models f bs) in
      let n = length-append (items_of b) (flat_map items_of bs) in
      omega (arith, m, n, length-map (items_of b) f, number_seen bs)

  pub same_number : (bs cs : List (Chunk X)) → flatten_models f bs ≡ flatten_models f cs → length (flat_map items_of bs) ≡ length (flat_map items_of cs)
  same_number bs cs e = sym (number_seen bs) ∙ ap length e ∙ number_seen cs

  pub same_length : (bs cs : List (Chunk X)) → length (flatten_models f bs) ≡ length (flatten_models f cs) → length (flat_map items_of bs) ≡ length (flat_map items_of cs)
  same_length bs cs e = sym (number_seen bs) ∙ e ∙ number_seen cs

  pub one_more_number : (bs cs : List (Chunk X)) (i : ℕ) (x : S) → i ≤ length (flatten_models f cs) → flatten_models f bs ≡ insert (flatten_models f cs) i x
      → length (flat_map items_of bs) ≡ length (flat_map items_of cs) + 1
  one_more_number bs cs i x h e =
      let n = ap length e ∙ length_insert (flatten_models f cs) i x h in
      omega (arith, n, number_seen bs, number_seen cs)

  pub one_less_number : (bs cs : List (Chunk X)) (i : ℕ) → i < length (flatten_models f cs) → flatten_models f bs ≡ remove (flatten_models f cs) i
      → length (flat_map items_of bs) + 1 ≡ length (flat_map items_of cs)
  one_less_number bs cs i h e =
      let n = ap length e in
      let m = length_remove (flatten_models f cs) i h in
      omega (arith, n, m, number_seen bs, number_seen cs)

  pub seen_count : (g : ChunkGroup X) → length (group_models f g) ≡ g.count
  seen_count g = number_seen (group_chunks g) ∙ sym g.count_is_sum

  any_default : {Y : Type 0} (xs : List Y) (k : ℕ) (d e : Y) → k < length xs → get_or xs k d ≡ get_or xs k e
  any_default [] k d e h = absurd (omega (arith, h))
  any_default (x ∷ xs) zero d e h = refl
  any_default (x ∷ xs) (suc k) d e h = any_default xs k d e (omega (arith, h))

  pub insert_position_in_group : (gs : List (ChunkGroup X)) (index k i : ℕ) (g : ChunkGroup X) → k < length gs → g ≡ get_or gs k g → length (flatten_group_models f (take k gs)) + i ≡ index
      → i ≤ length (flat_map items_of (group_chunks g)) → IsInsertPosition (group_models f) gs index k i
  insert_position_in_group gs index k i g h e s w = record {
    index_in_range = h;
    offset_is_sum = s;
    within = λ d. let n = ap (λ x. length (group_models f x)) (e ∙ any_default gs k g d h) in omega (arith, w, n, number_seen (group_chunks g));
  }

  pub item_position_in_group : (gs : List (ChunkGroup X)) (index k i : ℕ) (g : ChunkGroup X) → k < length gs → g ≡ get_or gs k g → length (flatten_group_models f (take k gs)) + i ≡ index
      → i < length (flat_map items_of (group_chunks g)) → IsItemPosition (group_models f) gs index k i
  item_position_in_group gs index k i g h e s w = record {
    index_in_range = h;
    offset_is_sum = s;
    within = λ d. let n = ap (λ x. length (group_models f x)) (e ∙ any_default gs k g d h) in omega (arith, w, n, number_seen (group_chunks g));
  }

  pub offset_after_group : (gs : List (ChunkGroup X)) (index k left n : ℕ) (g : ChunkGroup X) → k < length gs → g ≡ get_or gs k g → length (flatten_group_models f (take k gs)) + left ≡ index
      → n ≡ length (flat_map items_of (group_chunks g)) → n ≤ left → length (flatten_group_models f (take (k + 1) gs)) + (left - n) ≡ index
  offset_after_group gs index k left n g h e s c w =
      let m = ap length (joined_more (group_models f) gs k g h) ∙ length-append (flatten_group_models f (take k gs)) (group_models f (get_or gs k g)) in
      let l = ap (λ x. length (group_models f x)) e in
      omega (arith, m, l, number_seen (group_chunks g), s, c, w)

  -- ---- the group of an item
  pub grouped_here : (gs : List (ChunkGroup X)) (index k i : ℕ) (d : ChunkGroup X) → k < length gs → length (flatten_group_models f (take k gs)) + i ≡ index
      → i < length (group_models f (get_or gs k d)) → is_unique_in_groups_at gs index ≡ is_unique_group_at (get_or gs k d) i
  grouped_here [] index k i d h s w = absurd (omega (arith, h))
  grouped_here (g ∷ gs) index zero i d h s w =
      let e : index ≡ i = omega (arith, s) in
      let l : index < g.count = omega (arith, s, w, seen_count g) in
      if_same (ltb index g.count) (is_unique_group_at g index) (is_unique_in_groups_at gs (index - g.count)) (lt-ltb index g.count l) ∙ ap (is_unique_group_at g) e
  grouped_here (g ∷ gs) index (suc k) i d h s w =
      let m = length-append (group_models f g) (flatten_group_models f (take k gs)) in
      let n = seen_count g in
      let l : g.count ≤ index = omega (arith, s, m, n) in
      let t : length (flatten_group_models f (take k gs)) + i ≡ index - g.count = omega (arith, s, m, n) in
      if_other (ltb index g.count) (is_unique_group_at g index) (is_unique_in_groups_at gs (index - g.count)) (le-ltb index g.count l)
      ∙ grouped_here gs (index - g.count) k i d (omega (arith, h)) t w

  pub grouped_set : (gs : List (ChunkGroup X)) (index k i : ℕ) (a : ChunkGroup X) → k < length gs → length (flatten_group_models f (take k gs)) + i ≡ index
      → i < length (group_models f a) → is_unique_in_groups_at (set gs k a) index ≡ is_unique_group_at a i
  grouped_set [] index k i a h s w = absurd (omega (arith, h))
  grouped_set (g ∷ gs) index zero i a h s w =
      let e : index ≡ i = omega (arith, s) in
      let l : index < a.count = omega (arith, s, w, seen_count a) in
      if_same (ltb index a.count) (is_unique_group_at a index) (is_unique_in_groups_at gs (index - a.count)) (lt-ltb index a.count l) ∙ ap (is_unique_group_at a) e
  grouped_set (g ∷ gs) index (suc k) i a h s w =
      let m = length-append (group_models f g) (flatten_group_models f (take k gs)) in
      let n = seen_count g in
      let l : g.count ≤ index = omega (arith, s, m, n) in
      let t : length (flatten_group_models f (take k gs)) + i ≡ index - g.count = omega (arith, s, m, n) in
      if_other (ltb index g.count) (is_unique_group_at g index) (is_unique_in_groups_at (set gs k a) (index - g.count)) (le-ltb index g.count l)
      ∙ grouped_set gs (index - g.count) k i a (omega (arith, h)) t w

  -- ---- the models that clones of groups share
  abbrev pub seen_chunks_of : ChunkGroup X → List (List S × Bool) × Bool
  seen_chunks_of g = seen_chunks f g.chunks

abbrev all_flat : {S : Type 0} → List (List (List S × Bool) × Bool) → List S
all_flat [] = []
all_flat (p ∷ ps) = flatten_pairs p.0 ++ all_flat ps

abbrev all_among : {S : Type 0} → List (List (List S × Bool) × Bool) → ℕ → Bool
all_among [] i = true
all_among (p ∷ ps) i = if ltb i (length (flatten_pairs p.0)) then cond p.1 (flat_among p.0 i) false else all_among ps (i - length (flatten_pairs p.0))

flat_halves : {S : Type 0} (ps : List (List S × Bool)) (m : ℕ) → flatten_pairs (take m ps) ++ flatten_pairs (drop m ps) ≡ flatten_pairs ps
flat_halves ps zero = refl
flat_halves [] (suc m) = refl
flat_halves (p ∷ ps) (suc m) = append_assoc p.0 (flatten_pairs (take m ps)) (flatten_pairs (drop m ps)) ∙ ap (λ l. p.0 ++ l) (flat_halves ps m)

module _ {X S : Type 0} (f : X → S) where
  -- chunks that are a prefix of others, and those that are the rest
  pub in_halves : (as' bs cs : List (Chunk X)) (m : ℕ) → map (chunk_model f) as' ≡ take m (map (chunk_model f) cs) → map (chunk_model f) bs ≡ drop m (map (chunk_model f) cs)
      → flatten_models f as' ++ flatten_models f bs ≡ flatten_models f cs
  in_halves as' bs cs m u v =
      ap (λ l. l ++ flatten_models f bs) (flat_joined f as' ∙ ap flatten_pairs u) ∙ ap (λ l. flatten_pairs (take m (map (chunk_model f) cs)) ++ l) (flat_joined f bs ∙ ap flatten_pairs v)
      ∙ flat_halves (map (chunk_model f) cs) m ∙ sym (flat_joined f cs)

  -- ---- chunks put into groups
  take_none : {Y : Type 0} (n : ℕ) → ◌≡◌ {A = List Y} (take n []) []
  take_none zero = refl
  take_none (suc n) = refl

  take_next : {Y : Type 0} (xs : List Y) (i m : ℕ) → take (i + m) xs ≡ take i xs ++ take m (drop i xs)
  take_next xs zero m = let z : 0 + m ≡ m = omega arith in ap (λ k. take k xs) z
  take_next [] (suc i) m = take_none (suc i + m) ∙ sym (take_none m)
  take_next (x ∷ xs) (suc i) m =
      let z : suc i + m ≡ suc (i + m) = omega arith in
      ap (λ k. take k (x ∷ xs)) z ∙ ap (λ l. x ∷ l) (take_next xs i m)

  map_append : (xs ys : List X) → map f (xs ++ ys) ≡ map f xs ++ map f ys
  map_append [] ys = refl
  map_append (x ∷ xs) ys = ap (λ l. f x ∷ l) (map_append xs ys)

  -- the next items as a new chunk
  pub part_next : (ps bs all : List (Chunk X)) (xs us : List X) (b : Chunk X) (i m n : ℕ) → flatten_models f bs ≡ flatten_models f ps ++ map f (take i xs) → all ≡ bs ++ b ∷ [] → items_of b ≡ us
      → map f us ≡ map f (take n (drop i xs)) → n ≡ m → flatten_models f all ≡ flatten_models f ps ++ map f (take (i + m) xs)
  part_next ps bs all xs us b i m n before pushed is seen count =
      let here : map f (items_of b) ≡ map f (take m (drop i xs)) = ap (map f) is ∙ seen ∙ ap (λ k. map f (take k (drop i xs))) count in
      ap (flatten_models f) pushed ∙ joined_append (chunk_models f) bs (b ∷ []) ∙ ap (λ l. flatten_models f bs ++ l) (append_none (map f (items_of b)) ∙ here)
      ∙ ap (λ l. l ++ map f (take m (drop i xs))) before ∙ append_assoc (flatten_models f ps) (map f (take i xs)) (map f (take m (drop i xs)))
      ∙ ap (λ l. flatten_models f ps ++ l) (sym (map_append (take i xs) (take m (drop i xs))) ∙ ap (map f) (sym (take_next xs i m)))

  groups_append : (gs : List (ChunkGroup X)) (g : ChunkGroup X) → flatten_group_models f (gs ++ g ∷ []) ≡ flatten_group_models f gs ++ group_models f g
  groups_append [] g = append_none (group_models f g)
  groups_append (h ∷ gs) g = ap (λ l. group_models f h ++ l) (groups_append gs g) ∙ sym (append_assoc (group_models f h) (flatten_group_models f gs) (group_models f g))

  pub group_next : (gs all : List (ChunkGroup X)) (bs us : List (Chunk X)) (g : ChunkGroup X) (i m n : ℕ) → flatten_group_models f gs ≡ flatten_models f (take i bs) → all ≡ gs ++ g ∷ [] → group_chunks g ≡ us
      → map (chunk_model f) us ≡ map (chunk_model f) (take n (drop i bs)) → n ≡ m → flatten_group_models f all ≡ flatten_models f (take (i + m) bs)
  group_next gs all bs us g i m n before pushed is seen count =
      ap (flatten_group_models f) pushed ∙ groups_append gs g ∙ ap (λ l. l ++ group_models f g) before
      ∙ ap (λ l. flatten_models f (take i bs) ++ l) (ap (flatten_models f) is ∙ joined_alike f us (take n (drop i bs)) seen ∙ ap (λ k. flatten_models f (take k (drop i bs))) count)
      ∙ sym (joined_append (chunk_models f) (take i bs) (take m (drop i bs))) ∙ ap (flatten_models f) (sym (take_next bs i m))

  flat_groups : (gs : List (ChunkGroup X)) → flatten_group_models f gs ≡ all_flat (map (seen_chunks_of f) gs)
  flat_groups [] = refl
  flat_groups (g ∷ gs) = ap (λ l. l ++ flatten_group_models f gs) (flat_joined f (group_chunks g)) ∙ ap (λ l. flatten_pairs (map (chunk_model f) (group_chunks g)) ++ l) (flat_groups gs)

  flat_in_groups : (gs : List (ChunkGroup X)) (i : ℕ) → is_unique_in_groups_at gs i ≡ all_among (map (seen_chunks_of f) gs) i
  flat_in_groups [] i = refl
  flat_in_groups (g ∷ gs) i =
      let n : g.count ≡ length (flatten_pairs (map (chunk_model f) (group_chunks g))) = sym (seen_count f g) ∙ ap length (flat_joined f (group_chunks g)) in
      let m = length (flatten_pairs (map (chunk_model f) (group_chunks g))) in
      ap (λ l. if ltb i l then is_unique_group_at g i else is_unique_in_groups_at gs (i - l)) n
      ∙ ap (λ o. if ltb i m then cond (is_chunk_unique g.chunks) o false else is_unique_in_groups_at gs (i - m)) (flat_unique_among f (group_chunks g) i)
      ∙ ap (λ o. if ltb i m then cond (is_chunk_unique g.chunks) (flat_among (map (chunk_model f) (group_chunks g)) i) false else o) (flat_in_groups gs (i - m))

  pub groups_alike : (gs hs : List (ChunkGroup X)) → map (seen_chunks_of f) gs ≡ map (seen_chunks_of f) hs → flatten_group_models f gs ≡ flatten_group_models f hs
  groups_alike gs hs e = flat_groups gs ∙ ap all_flat e ∙ sym (flat_groups hs)

  pub in_groups_alike : (gs hs : List (ChunkGroup X)) → map (seen_chunks_of f) gs ≡ map (seen_chunks_of f) hs → (i : ℕ) → is_unique_in_groups_at gs i ≡ is_unique_in_groups_at hs i
  in_groups_alike gs hs e i = flat_in_groups gs i ∙ ap (λ l. all_among l i) e ∙ sym (flat_in_groups hs i)
