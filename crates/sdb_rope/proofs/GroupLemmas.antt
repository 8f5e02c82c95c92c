-- Groups of chunks and their text.
use Rattle.std.proofs.Common.{◌≡◌, ℕ, zero, suc, ◌+◌, ◌<◌, List, [], ◌∷◌, ◌++◌, map, length, take, drop, get_or, set, Option, Some, None, option_map, Bool, true, false, nat_eq, refl, sym, ap, ◌∙◌, arith, append_assoc, subst}
use Rattle.std.specs.Prelude.{if◌then◌else◌, option_and_then}
use Rattle.std.specs.List.{concat, flat_map, insert_slice, remove_range, remove, starts_with}
use Rattle.std.proofs.lemmas.List.{append-nil, length-map, map-set, set_split, set-get_or, get_or-map, drop-drop, take_more}
use Rattle.std.proofs.lemmas.List.Elements.{All-nil, All-cons, All-head, All-tail, All-append}
use Rattle.std.specs.Str.{IsUtf8}
use Rattle.std.proofs.lemmas.Str.{IsUtf8-nil, IsUtf8-append}
use Rattle.sdb_chunks.specs.Chunk.{items_of, is_chunk_unique}
use Rattle.sdb_chunks.specs.ChunkedVec.{flatten_models}
use Rattle.sdb_chunks.specs.declared.chunk.Chunk.{Chunk}
use Rattle.sdb_rope.specs.ChunkModel.{chunk_texts}
use Rattle.sdb_rope.specs.EditOutcome.{EditOutcome}
use Rattle.sdb_rope.specs.GroupModel.{texts_of_groups, group_texts, IsGroupAtOffset}
use Rattle.sdb_rope.specs.RopeChunk.{chunk_bytes, chunk_list_texts}
use Rattle.sdb_rope.specs.Position.{chunk_text, bytes_before, bytes_after, IsUnitPosition, IsBounded, AreBounded}
use Rattle.sdb_rope.specs.Utf16.{units, cut_at, insert_text, remove_text}
use Rattle.sdb_rope.specs.declared.rope_chunk.RopeChunk.{RopeChunk}
use Rattle.sdb_rope.proofs.OffsetLemmas.{cut_split}
use Rattle.sdb_rope.proofs.ChunkEdits.{cut_behind, cut_prefix, insert_text_is, not_inserted, remove_text_is, units_append}
use Rattle.sdb_rope.proofs.ChunkListLemmas.{seen_of, same_seen, chunks_utf8}
use Rattle.sdb_rope.proofs.PositionLemmas.{concat_before_after, after_is, append_of_starts_with, concat_append, concat_utf8, removed_within, length_before, put_in, concat_around_chunk}

-- ---- the bytes of groups

pub bytes_by_group : (gs : List (Chunk RopeChunk)) → concat (texts_of_groups gs) ≡ concat (group_texts gs)
bytes_by_group [] = refl
bytes_by_group (g ∷ gs) = concat_append (chunk_texts g) (texts_of_groups gs) ∙ ap (λ l. concat (chunk_texts g) ++ l) (bytes_by_group gs)

pub count_groups : (gs : List (Chunk RopeChunk)) → length (group_texts gs) ≡ length gs
count_groups gs = length-map gs (λ g. concat (chunk_texts g))

pub read_group : (gs : List (Chunk RopeChunk)) (k : ℕ) (g : Chunk RopeChunk) → k < length gs → g ≡ get_or gs k g → chunk_text (group_texts gs) k ≡ concat (chunk_texts g)
read_group gs k g h e = get_or-map (λ g. concat (chunk_texts g)) gs k g [] h ∙ ap (λ g. concat (chunk_texts g)) (sym e)

-- a group replaced by another
pub bytes_set : (gs : List (Chunk RopeChunk)) (k : ℕ) (g : Chunk RopeChunk) → concat (texts_of_groups (set gs k g)) ≡ concat (set (group_texts gs) k (concat (chunk_texts g)))
bytes_set gs k g = bytes_by_group (set gs k g) ∙ ap concat (map-set (λ g. concat (chunk_texts g)) gs k g)

pub group_utf8 : (gs : List (Chunk RopeChunk)) → IsUtf8 (concat (texts_of_groups gs))
group_utf8 [] = IsUtf8-nil
group_utf8 (g ∷ gs) = subst_utf8 (concat_append (chunk_texts g) (texts_of_groups gs)) (IsUtf8-append (concat (chunk_texts g)) (concat (texts_of_groups gs)) (concat_utf8 (chunk_texts g) (chunks_utf8 (items_of g))) (group_utf8 gs)) where
  subst_utf8 : {xs ys : List ℕ} → xs ≡ ys → IsUtf8 ys → IsUtf8 xs
  subst_utf8 e u = rw e u

-- ---- the views of groups determine their texts

map_first : (ps : List RopeChunk) → map (λ x. x.0) (map seen_of ps) ≡ chunk_list_texts ps
map_first [] = refl
map_first (p ∷ ps) = ap (λ l. chunk_bytes p ∷ l) (map_first ps)

map_append : {X Y : Type 0} (f : X → Y) (xs ys : List X) → map f (xs ++ ys) ≡ map f xs ++ map f ys
map_append f [] ys = refl
map_append f (x ∷ xs) ys = ap (λ l. f x ∷ l) (map_append f xs ys)

joined_first : (gs : List (Chunk RopeChunk)) → map (λ x. x.0) (flatten_models seen_of gs) ≡ texts_of_groups gs
joined_first [] = refl
joined_first (g ∷ gs) = map_append (λ x. x.0) (map seen_of (items_of g)) (flatten_models seen_of gs) ∙ ap (λ l. l ++ map (λ x. x.0) (flatten_models seen_of gs)) (map_first (items_of g)) ∙ ap (λ l. chunk_texts g ++ l) (joined_first gs)

pub same_joined : (gs hs : List (Chunk RopeChunk)) → flatten_models seen_of gs ≡ flatten_models seen_of hs → texts_of_groups gs ≡ texts_of_groups hs
same_joined gs hs e = sym (joined_first gs) ∙ ap (map (λ x. x.0)) e ∙ joined_first hs

abbrev pub seen_group : Chunk RopeChunk → List (List ℕ × Bool) × Bool
seen_group g = (map seen_of (items_of g), is_chunk_unique g)

pub same_groups : (gs hs : List (Chunk RopeChunk)) → map seen_group gs ≡ map seen_group hs → texts_of_groups gs ≡ texts_of_groups hs
same_groups [] [] e = refl
same_groups [] (h ∷ hs) e = cc
same_groups (g ∷ gs) [] e = cc
same_groups (g ∷ gs) (h ∷ hs) e =
    let head : seen_group g ≡ seen_group h = cc in
    let rest : map seen_group gs ≡ map seen_group hs = cc in
    let s = same_seen (items_of g) (items_of h) (ap (λ x. x.0) head) in
    ap (λ l. l ++ texts_of_groups gs) s.0 ∙ ap (λ l. chunk_texts h ++ l) (same_groups gs hs rest)

-- ---- the texts one by one

pub texts_append : (gs hs : List (Chunk RopeChunk)) → texts_of_groups (gs ++ hs) ≡ texts_of_groups gs ++ texts_of_groups hs
texts_append [] hs = refl
texts_append (g ∷ gs) hs = ap (λ l. chunk_texts g ++ l) (texts_append gs hs) ∙ sym (append_assoc (chunk_texts g) (texts_of_groups gs) (texts_of_groups hs))

pub texts_push : (gs : List (Chunk RopeChunk)) (g : Chunk RopeChunk) → texts_of_groups (gs ++ g ∷ []) ≡ texts_of_groups gs ++ chunk_texts g
texts_push gs g = texts_append gs (g ∷ []) ∙ ap (λ l. texts_of_groups gs ++ l) (append-nil (chunk_texts g))

pub texts_without : (gs : List (Chunk RopeChunk)) (k : ℕ) (d : Chunk RopeChunk) → k < length gs → chunk_texts (get_or gs k d) ≡ [] → texts_of_groups (remove gs k) ≡ texts_of_groups gs
texts_without [] k d h e = absurd (omega (arith, h))
texts_without (g ∷ gs) zero d h e = ap (λ l. l ++ texts_of_groups gs) (sym e)
texts_without (g ∷ gs) (suc k) d h e = ap (λ l. chunk_texts g ++ l) (texts_without gs k d (omega (arith, h)) e)

-- equal texts group by group
pub texts_of_same : (gs hs : List (Chunk RopeChunk)) → map chunk_texts gs ≡ map chunk_texts hs → texts_of_groups gs ≡ texts_of_groups hs
texts_of_same [] [] e = refl
texts_of_same [] (h ∷ hs) e = cc
texts_of_same (g ∷ gs) [] e = cc
texts_of_same (g ∷ gs) (h ∷ hs) e =
    let head : chunk_texts g ≡ chunk_texts h = cc in
    let rest : map chunk_texts gs ≡ map chunk_texts hs = cc in
    ap (λ l. l ++ texts_of_groups gs) head ∙ ap (λ l. chunk_texts h ++ l) (texts_of_same gs hs rest)

-- ---- chunks of at most 4,096 bytes

all_left : (xs ys : List (List ℕ)) → AreBounded (xs ++ ys) → AreBounded xs
all_left [] ys a = All-nil IsBounded
all_left (x ∷ xs) ys a = All-cons IsBounded x xs (All-head IsBounded x (xs ++ ys) a) (all_left xs ys (All-tail IsBounded x (xs ++ ys) a))

all_right : (xs ys : List (List ℕ)) → AreBounded (xs ++ ys) → AreBounded ys
all_right [] ys a = a
all_right (x ∷ xs) ys a = all_right xs ys (All-tail IsBounded x (xs ++ ys) a)

pub short_group : (gs : List (Chunk RopeChunk)) (k : ℕ) (d : Chunk RopeChunk) → k < length gs → AreBounded (texts_of_groups gs) → AreBounded (chunk_texts (get_or gs k d))
short_group [] k d h a = absurd (omega (arith, h))
short_group (g ∷ gs) zero d h a = all_left (chunk_texts g) (texts_of_groups gs) a
short_group (g ∷ gs) (suc k) d h a = short_group gs k d (omega (arith, h)) (all_right (chunk_texts g) (texts_of_groups gs) a)

pub short_set_group : (gs : List (Chunk RopeChunk)) (k : ℕ) (g : Chunk RopeChunk) → AreBounded (chunk_texts g) → AreBounded (texts_of_groups gs) → AreBounded (texts_of_groups (set gs k g))
short_set_group [] k g s a = a
short_set_group (h ∷ gs) zero g s a = All-append IsBounded (chunk_texts g) (texts_of_groups gs) s (all_right (chunk_texts h) (texts_of_groups gs) a)
short_set_group (h ∷ gs) (suc k) g s a = All-append IsBounded (chunk_texts h) (texts_of_groups (set gs k g)) (all_left (chunk_texts h) (texts_of_groups gs) a) (short_set_group gs k g s (all_right (chunk_texts h) (texts_of_groups gs) a))

-- ---- an edit of one group is an edit of the whole

cut_there : (ts : List (List ℕ)) (k left : ℕ) → k < length ts → (suc k < length ts → left < units (chunk_text ts k)) → cut_at (chunk_text ts k ++ concat (drop (suc k) ts)) left ≡ cut_at (chunk_text ts k) left
cut_there [] k left h w = absurd (omega (arith, h))
cut_there (t ∷ []) zero left h w = ap (λ l. cut_at l left) (append-nil t)
cut_there (t ∷ u ∷ ts) zero left h w = cut_prefix t (concat (u ∷ ts)) left (w (omega arith))
cut_there (t ∷ ts) (suc k) left h w = cut_there ts k left (omega (arith, h)) (λ l. w (omega (arith, l)))

pub group_cut : (ts : List (List ℕ)) (offset k left : ℕ) → IsGroupAtOffset ts offset k left → cut_at (concat ts) offset ≡ option_map (λ n. length (concat (take k ts)) + n) (cut_at (chunk_text ts k) left)
group_cut ts offset k left p =
    ap (λ l. cut_at l offset) (concat_around_chunk ts k p.index_in_range) ∙ cut_behind (concat (take k ts)) (chunk_text ts k ++ concat (drop (suc k) ts)) offset left p.offset_is_sum
    ∙ ap (option_map (λ n. length (concat (take k ts)) + n)) (cut_there ts k left p.index_in_range p.within)

cut_found : (ts : List (List ℕ)) (offset k left i : ℕ) → IsGroupAtOffset ts offset k left → cut_at (chunk_text ts k) left ≡ Some i → cut_at (concat ts) offset ≡ Some (length (bytes_before ts k i))
cut_found ts offset k left i p c =
    group_cut ts offset k left p ∙ ap (option_map (λ n. length (concat (take k ts)) + n)) c ∙ ap Some (sym (length_before ts k i p.index_in_range (cut_split (chunk_text ts k) left i c).0))

put_there : (ts : List (List ℕ)) (offset k left : ℕ) (s g : List ℕ) (o : Option ℕ) → IsGroupAtOffset ts offset k left → cut_at (chunk_text ts k) left ≡ o
    → option_map (λ i. insert_slice (chunk_text ts k) i s) o ≡ Some g → insert_text offset s (concat ts) ≡ Some (concat (set ts k g))
put_there ts offset k left s g None p c e = cc
put_there ts offset k left s g (Some i) p c e =
    let new : g ≡ insert_slice (chunk_text ts k) i s = cc in
    insert_text_is (concat ts) (bytes_before ts k i) (bytes_after ts k i) s (concat (set ts k g)) offset (concat_before_after ts k i p.index_in_range) (cut_found ts offset k left i p c)
    (ap concat (set_split ts k g p.index_in_range) ∙ put_in ts (g ∷ []) s k i p.index_in_range (append-nil g ∙ new))

no_cut : {A : Type 0} (f : ℕ → A) (o : Option ℕ) → option_map f o ≡ None → o ≡ None
no_cut f None e = refl
no_cut f (Some i) e = cc

pub put_in_group : (ts : List (List ℕ)) (offset k left : ℕ) (s g : List ℕ) (done : Bool) → IsGroupAtOffset ts offset k left
    → EditOutcome done (insert_text left s (chunk_text ts k)) (chunk_text ts k) g → EditOutcome done (insert_text offset s (concat ts)) (concat ts) (concat (set ts k g))
put_in_group ts offset k left s g true p e = put_there ts offset k left s g (cut_at (chunk_text ts k) left) p refl e
put_in_group ts offset k left s g false p e =
    let none : cut_at (chunk_text ts k) left ≡ None = no_cut (λ i. insert_slice (chunk_text ts k) i s) (cut_at (chunk_text ts k) left) e.0 in (
      not_inserted (concat ts) s offset (group_cut ts offset k left p ∙ ap (option_map (λ n. length (concat (take k ts)) + n)) none),
      ap (λ x. concat (set ts k x)) e.1 ∙ ap concat (set-get_or ts k []),
    )

take_there : (ts : List (List ℕ)) (offset k left i : ℕ) (s g : List ℕ) (t : Bool) → IsGroupAtOffset ts offset k left → cut_at (chunk_text ts k) left ≡ Some i → starts_with nat_eq (drop i (chunk_text ts k)) s ≡ t
    → (if t then Some (remove_range (chunk_text ts k) i (i + length s)) else None) ≡ Some g → remove_text offset s (concat ts) ≡ Some (concat (set ts k g))
take_there ts offset k left i s g false p c h e = cc
take_there ts offset k left i s g true p c h e =
    let q = chunk_text ts k in
    let R = concat (drop (suc k) ts) in
    let new : g ≡ remove_range q i (i + length s) = cc in
    let d : drop (length s) (drop i q) ≡ drop (i + length s) q = drop-drop (length s) i q in
    let text : bytes_after ts k i ≡ s ++ bytes_after ts k (i + length s) = after_is ts k i p.index_in_range ∙ ap (λ y. y ++ R) (append_of_starts_with (drop i q) s h ∙ ap (λ y. s ++ y) d) ∙ append_assoc s (drop (i + length s) q) R ∙ ap (λ y. s ++ y) (sym (after_is ts k (i + length s) p.index_in_range)) in
    remove_text_is (concat ts) (bytes_before ts k i) (bytes_after ts k i) s (bytes_after ts k (i + length s)) (concat (set ts k g)) offset (concat_before_after ts k i p.index_in_range) (cut_found ts offset k left i p c) text
    (ap (λ x. concat (set ts k x)) new ∙ removed_within ts k i (i + length s) p.index_in_range)

take_at_cut : (ts : List (List ℕ)) (offset k left : ℕ) (s g : List ℕ) (o : Option ℕ) → IsGroupAtOffset ts offset k left → cut_at (chunk_text ts k) left ≡ o
    → option_and_then (λ i. if starts_with nat_eq (drop i (chunk_text ts k)) s then Some (remove_range (chunk_text ts k) i (i + length s)) else None) o ≡ Some g
    → remove_text offset s (concat ts) ≡ Some (concat (set ts k g))
take_at_cut ts offset k left s g None p c e = cc
take_at_cut ts offset k left s g (Some i) p c e = take_there ts offset k left i s g (starts_with nat_eq (drop i (chunk_text ts k)) s) p c refl e

pub take_in_group : (ts : List (List ℕ)) (offset k left : ℕ) (s g : List ℕ) → IsGroupAtOffset ts offset k left → remove_text left s (chunk_text ts k) ≡ Some g → remove_text offset s (concat ts) ≡ Some (concat (set ts k g))
take_in_group ts offset k left s g p e = take_at_cut ts offset k left s g (cut_at (chunk_text ts k) left) p refl e

-- a group replaced by one with equal texts
pub same_group_set : (gs : List (Chunk RopeChunk)) (k : ℕ) (g h : Chunk RopeChunk) → k < length gs → h ≡ get_or gs k h → chunk_texts g ≡ chunk_texts h → map chunk_texts (set gs k g) ≡ map chunk_texts gs
same_group_set gs k g h inside is e =
    map-set chunk_texts gs k g ∙ ap (set (map chunk_texts gs) k) (e ∙ sym (get_or-map chunk_texts gs k h [] inside ∙ ap chunk_texts (sym is))) ∙ set-get_or (map chunk_texts gs) k []

take_none : {X : Type 0} (k : ℕ) → take {A = X} k [] ≡ []
take_none zero = refl
take_none (suc k) = refl

take_next : (ps : List RopeChunk) (i m : ℕ) → take (i + m) ps ≡ take i ps ++ take m (drop i ps)
take_next ps zero m = let z : 0 + m ≡ m = omega arith in ap (λ k. take k ps) z
take_next [] (suc i) m = take_none (suc i + m) ∙ sym (take_none m)
take_next (p ∷ ps) (suc i) m =
    let z : suc i + m ≡ suc (i + m) = omega arith in
    ap (λ k. take k (p ∷ ps)) z ∙ ap (λ l. p ∷ l) (take_next ps i m)

-- the next chunks as a new group
pub group_next : (gs all : List (Chunk RopeChunk)) (ps us : List RopeChunk) (g : Chunk RopeChunk) (i m n : ℕ) → texts_of_groups gs ≡ chunk_list_texts (take i ps) → all ≡ gs ++ g ∷ [] → items_of g ≡ us
    → chunk_list_texts us ≡ chunk_list_texts (take n (drop i ps)) → n ≡ m → texts_of_groups all ≡ chunk_list_texts (take (i + m) ps)
group_next gs all ps us g i m n bytes_before pushed is texts count =
    ap texts_of_groups pushed ∙ texts_push gs g ∙ ap (λ l. l ++ chunk_texts g) bytes_before ∙ ap (λ l. chunk_list_texts (take i ps) ++ l) (ap chunk_list_texts is ∙ texts ∙ ap (λ k. chunk_list_texts (take k (drop i ps))) count)
    ∙ sym (map_append chunk_bytes (take i ps) (take m (drop i ps))) ∙ ap chunk_list_texts (sym (take_next ps i m))

-- ---- the group at an offset

pub place_inside : (ts : List (List ℕ)) (offset k i : ℕ) → IsUnitPosition ts offset k i → offset < units (concat ts)
place_inside ts offset k i p =
    let J = concat (take k ts) in
    let R = concat (drop (suc k) ts) in
    let e : units (concat ts) ≡ units J + units (chunk_text ts k ++ R) = ap units (concat_around_chunk ts k p.index_in_range) ∙ units_append J (chunk_text ts k ++ R) in
    omega (arith, e, units_append (chunk_text ts k) R, p.offset_is_sum, p.within)

pub units_after : (gs : List (Chunk RopeChunk)) (k left past offset : ℕ) (g : Chunk RopeChunk) → k < length gs → g ≡ get_or gs k g → units (concat (chunk_texts g)) + past ≡ left
    → units (concat (take k (group_texts gs))) + left ≡ offset → units (concat (take (k + 1) (group_texts gs))) + past ≡ offset
units_after gs k left past offset g h is m s =
    let ts = group_texts gs in
    let inside : k < length ts = omega (arith, h, count_groups gs) in
    let q : units (chunk_text ts k) ≡ units (concat (chunk_texts g)) = ap units (read_group gs k g h is) in
    let e : concat (take (k + 1) ts) ≡ concat (take k ts) ++ chunk_text ts k = ap concat (take_more ts k [] inside) ∙ concat_append (take k ts) _ ∙ ap (λ y. concat (take k ts) ++ y) (append-nil (chunk_text ts k)) in
    let t : units (concat (take (k + 1) ts)) ≡ units (concat (take k ts)) + units (chunk_text ts k) = ap units e ∙ units_append (concat (take k ts)) (chunk_text ts k) in
    omega (arith, q, t, m, s)

-- ---- one group changed

pub done_true : {A : Type 0} (done : Bool) (o : Option A) (before after : A) → done ≡ true → EditOutcome done o before after → o ≡ Some after
done_true true o before after d e = e
done_true false o before after d e = cc

pub done_false : {A : Type 0} (done : Bool) (o : Option A) (before after : A) → done ≡ false → EditOutcome done o before after → after ≡ before
done_false true o before after d e = cc
done_false false o before after d e = e.1

module _ (gs : List (Chunk RopeChunk)) (k : ℕ) (g h : Chunk RopeChunk) (inside : k < length gs) (is : h ≡ get_or gs k h) where
  group_text_is : chunk_text (group_texts gs) k ≡ concat (chunk_texts h)
  group_text_is = read_group gs k h inside is

  pub keep_group : concat (chunk_texts g) ≡ concat (chunk_texts h) → concat (texts_of_groups (set gs k g)) ≡ concat (texts_of_groups gs)
  keep_group e = bytes_set gs k g ∙ ap concat (ap (set (group_texts gs) k) (e ∙ sym group_text_is) ∙ set-get_or (group_texts gs) k []) ∙ sym (bytes_by_group gs)

  pub short_changed : (AreBounded (chunk_texts h) → AreBounded (chunk_texts g)) → AreBounded (texts_of_groups gs) → AreBounded (texts_of_groups (set gs k g))
  short_changed f a = short_set_group gs k g (f (subst (λ x. AreBounded (chunk_texts x)) (sym is) (short_group gs k h inside a))) a

  pub put_group : (offset left : ℕ) (s : List ℕ) (done : Bool) → IsGroupAtOffset (group_texts gs) offset k left → EditOutcome done (insert_text left s (concat (chunk_texts h))) (concat (chunk_texts h)) (concat (chunk_texts g))
      → EditOutcome done (insert_text offset s (concat (texts_of_groups gs))) (concat (texts_of_groups gs)) (concat (texts_of_groups (set gs k g)))
  put_group offset left s done p e =
      let t = put_in_group (group_texts gs) offset k left s (concat (chunk_texts g)) done p (subst (λ x. EditOutcome done (insert_text left s x) x (concat (chunk_texts g))) (sym group_text_is) e) in
      let u = subst (λ x. EditOutcome done (insert_text offset s x) x (concat (set (group_texts gs) k (concat (chunk_texts g))))) (sym (bytes_by_group gs)) t in
      subst (λ y. EditOutcome done (insert_text offset s (concat (texts_of_groups gs))) (concat (texts_of_groups gs)) y) (sym (bytes_set gs k g)) u

  pub take_group : (offset left : ℕ) (s : List ℕ) → IsGroupAtOffset (group_texts gs) offset k left → remove_text left s (concat (chunk_texts h)) ≡ Some (concat (chunk_texts g))
      → remove_text offset s (concat (texts_of_groups gs)) ≡ Some (concat (texts_of_groups (set gs k g)))
  take_group offset left s p e =
      ap (remove_text offset s) (bytes_by_group gs) ∙ take_in_group (group_texts gs) offset k left s (concat (chunk_texts g)) p (ap (remove_text left s) group_text_is ∙ e) ∙ ap Some (sym (bytes_set gs k g))

-- ---- the chunks in order

pub texts_flat : (gs : List (Chunk RopeChunk)) → chunk_list_texts (flat_map items_of gs) ≡ texts_of_groups gs
texts_flat [] = refl
texts_flat (g ∷ gs) = map_append chunk_bytes (items_of g) (flat_map items_of gs) ∙ ap (λ l. chunk_texts g ++ l) (texts_flat gs)
