-- Edits of a list of stored chunks.
use Rattle.std.proofs.Common.{length-append, length-take, length-drop, ◌≡◌, Bool, true, false, ◌&&◌, All, map, refl, ℕ, zero, suc, ◌+◌, ◌-◌, ◌<◌, ◌≤◌, List, [], ◌∷◌, ◌++◌, length, take, drop, get_or, set, ap, sym, ◌∙◌, arith}
use Rattle.std.specs.List.{concat, insert_slice, splice, remove_range, remove}
use Rattle.std.proofs.lemmas.List.{get_or-map, length-map, take_more}
use Rattle.std.proofs.lemmas.List.{append-nil, map-set, map-append, take-map, drop-map, set_split, set-get_or, map_push}
use Rattle.std.specs.Str.{IsUtf8}
use Rattle.std.proofs.lemmas.Str.{IsUtf8-nil, IsUtf8-string_bytes}
use Rattle.sdb_rope.specs.SharedStr.{str_bytes}
use Rattle.sdb_rope.specs.declared.shared_str.SharedStr.{SharedStr}
use Rattle.sdb_rope.specs.declared.shared_str.SharedStr.TheVariants.{Unique, Shared}
use Rattle.sdb_rope.specs.Utf16.{units}
use Rattle.sdb_rope.specs.RopeChunk.{chunk_bytes, is_unique_rope_chunk, chunk_list_texts, IsUniqueChunk}
use Rattle.sdb_rope.specs.ChunkModel.{all_rope_chunks_unique}
use Rattle.std.proofs.lemmas.List.Elements.{All-nil, All-cons, All-head, All-tail}
use Rattle.std.proofs.lemmas.List.Elements.{All-push, All-set, All-append, All-take, All-drop}
use Rattle.sdb_rope.specs.Position.{IsBounded, AreBounded, chunk_text, bytes_before, bytes_after}
use Rattle.sdb_rope.specs.declared.rope_chunk.RopeChunk.{RopeChunk}
use Rattle.sdb_rope.proofs.ChunkEdits.{units_append}
use Rattle.sdb_rope.proofs.PositionLemmas.{concat_append, put_in, removed_within, removed_across, removed_empty}

pub length_of_texts : (ps : List RopeChunk) → length (chunk_list_texts ps) ≡ length ps
length_of_texts ps = length-map ps chunk_bytes

pub text_at : (ps : List RopeChunk) (k : ℕ) (p : RopeChunk) → k < length ps → p ≡ get_or ps k p → chunk_text (chunk_list_texts ps) k ≡ chunk_bytes p
text_at ps k p h e = get_or-map chunk_bytes ps k p [] h ∙ ap chunk_bytes (sym e)

-- the code units before the next chunk
pub units_next : (ps : List RopeChunk) (k left more offset : ℕ) (p : RopeChunk) → k < length ps → p ≡ get_or ps k p → more ≡ units (chunk_bytes p) → more ≤ left
    → units (concat (take k (chunk_list_texts ps))) + left ≡ offset → units (concat (take (k + 1) (chunk_list_texts ps))) + (left - more) ≡ offset
units_next ps k left more offset p h is m l s =
    let ts = chunk_list_texts ps in
    let inside : k < length ts = omega (arith, h, length_of_texts ps) in
    let q : units (chunk_text ts k) ≡ more = ap units (text_at ps k p h is) ∙ sym m in
    let e : concat (take (k + 1) ts) ≡ concat (take k ts) ++ chunk_text ts k = ap concat (take_more ts k [] inside) ∙ concat_append (take k ts) _ ∙ ap (λ y. concat (take k ts) ++ y) (append-nil (chunk_text ts k)) in
    let t : units (concat (take (k + 1) ts)) ≡ units (concat (take k ts)) + units (chunk_text ts k) = ap units e ∙ units_append (concat (take k ts)) (chunk_text ts k) in
    omega (arith, q, t, l, s)

-- a chunk replaced by one with equal bytes
pub same_set : (ps : List RopeChunk) (k : ℕ) (p : RopeChunk) → chunk_bytes p ≡ chunk_text (chunk_list_texts ps) k → chunk_list_texts (set ps k p) ≡ chunk_list_texts ps
same_set ps k p e = map-set chunk_bytes ps k p ∙ ap (set (chunk_list_texts ps) k) e ∙ set-get_or (chunk_list_texts ps) k []

-- a chunk replaced by several
pub put_chunks : (ps us : List RopeChunk) (s : List ℕ) (k i : ℕ) → k < length ps → concat (chunk_list_texts us) ≡ insert_slice (chunk_text (chunk_list_texts ps) k) i s
    → concat (chunk_list_texts (splice ps k (k + 1) us)) ≡ bytes_before (chunk_list_texts ps) k i ++ (s ++ bytes_after (chunk_list_texts ps) k i)
put_chunks ps us s k i h e =
    let n : k + 1 ≡ suc k = omega arith in
    let f : chunk_list_texts (splice ps k (k + 1) us) ≡ take k (chunk_list_texts ps) ++ (chunk_list_texts us ++ drop (suc k) (chunk_list_texts ps)) =
    ap (λ m. chunk_list_texts (splice ps k m us)) n
    ∙ map-append chunk_bytes (take k ps) (us ++ drop (suc k) ps) ∙ ap (λ l. chunk_list_texts (take k ps) ++ l) (map-append chunk_bytes us (drop (suc k) ps))
    ∙ ap (λ l. l ++ (chunk_list_texts us ++ chunk_list_texts (drop (suc k) ps))) (sym (take-map chunk_bytes k ps)) ∙ ap (λ l. take k (chunk_list_texts ps) ++ (chunk_list_texts us ++ l)) (sym (drop-map chunk_bytes (suc k) ps)) in
    ap concat f ∙ put_in (chunk_list_texts ps) (chunk_list_texts us) s k i (omega (arith, h, length_of_texts ps)) e

-- a chunk with an inserted text
pub put_chunk : (ps : List RopeChunk) (p : RopeChunk) (s : List ℕ) (k i : ℕ) → k < length ps → chunk_bytes p ≡ insert_slice (chunk_text (chunk_list_texts ps) k) i s
    → concat (chunk_list_texts (set ps k p)) ≡ bytes_before (chunk_list_texts ps) k i ++ (s ++ bytes_after (chunk_list_texts ps) k i)
put_chunk ps p s k i h e =
    let ts = chunk_list_texts ps in
    let inside : k < length ts = omega (arith, h, length_of_texts ps) in
    let one : concat (chunk_bytes p ∷ []) ≡ insert_slice (chunk_text ts k) i s = append-nil (chunk_bytes p) ∙ e in
    ap concat (map-set chunk_bytes ps k p ∙ set_split ts k (chunk_bytes p) inside) ∙ put_in ts (chunk_bytes p ∷ []) s k i inside one

-- one more chunk
pub push_chunk : (ps : List RopeChunk) (p : RopeChunk) → concat (chunk_list_texts (ps ++ p ∷ [])) ≡ concat (chunk_list_texts ps) ++ chunk_bytes p
push_chunk ps p = ap concat (map_push chunk_bytes ps p) ∙ concat_append (chunk_list_texts ps) (chunk_bytes p ∷ []) ∙ ap (λ l. concat (chunk_list_texts ps) ++ l) (append-nil (chunk_bytes p))

-- the bytes of a chunk are UTF-8
pub chars_utf8 : (c : SharedStr) → IsUtf8 (str_bytes c)
chars_utf8 (Unique s) = IsUtf8-string_bytes s
chars_utf8 (Shared a) = IsUtf8-string_bytes a.value

pub chunks_utf8 : (ps : List RopeChunk) (k : ℕ) → IsUtf8 (chunk_text (chunk_list_texts ps) k)
chunks_utf8 [] k = IsUtf8-nil
chunks_utf8 (p ∷ ps) zero = chars_utf8 p.text
chunks_utf8 (p ∷ ps) (suc k) = chunks_utf8 ps k

-- a chunk with a removed range
pub cut_chunk_out : (ps : List RopeChunk) (p : RopeChunk) (k i j : ℕ) → k < length ps → chunk_bytes p ≡ remove_range (chunk_text (chunk_list_texts ps) k) i j → concat (chunk_list_texts (set ps k p)) ≡ bytes_before (chunk_list_texts ps) k i ++ bytes_after (chunk_list_texts ps) k j
cut_chunk_out ps p k i j h e = ap concat (map-set chunk_bytes ps k p ∙ ap (set (chunk_list_texts ps) k) e) ∙ removed_within (chunk_list_texts ps) k i j (omega (arith, h, length_of_texts ps))

pub cut_chunks_out : (ps : List RopeChunk) (p q : RopeChunk) (k m n i j : ℕ) → k < m → m < length ps → n ≡ suc k → chunk_bytes p ≡ take i (chunk_text (chunk_list_texts ps) k) → chunk_bytes q ≡ drop j (chunk_text (chunk_list_texts ps) m)
    → concat (chunk_list_texts (remove_range (set (set ps k p) m q) n m)) ≡ bytes_before (chunk_list_texts ps) k i ++ bytes_after (chunk_list_texts ps) m j
cut_chunks_out ps p q k m n i j h l next e f =
    let ts = chunk_list_texts ps in
    let all = set (set ps k p) m q in
    let now : chunk_list_texts all ≡ set (set ts k (chunk_bytes p)) m (chunk_bytes q) = map-set chunk_bytes (set ps k p) m q ∙ ap (λ x. set x m (chunk_bytes q)) (map-set chunk_bytes ps k p) in
    let cut : chunk_list_texts (remove_range all n m) ≡ remove_range (chunk_list_texts all) (suc k) m =
    ap (λ x. chunk_list_texts (remove_range all x m)) next ∙ map-append chunk_bytes (take (suc k) all) (drop m all)
    ∙ ap (λ x. x ++ chunk_list_texts (drop m all)) (sym (take-map chunk_bytes (suc k) all)) ∙ ap (λ x. take (suc k) (chunk_list_texts all) ++ x) (sym (drop-map chunk_bytes m all)) in
    ap concat (cut ∙ ap (λ x. remove_range x (suc k) m) now) ∙ removed_across ts k m i j (chunk_bytes p) (chunk_bytes q) h (omega (arith, l, length_of_texts ps)) e f

pub empty_chunk_out : (ps : List RopeChunk) (k : ℕ) → k < length ps → chunk_text (chunk_list_texts ps) k ≡ [] → concat (chunk_list_texts (remove ps k)) ≡ concat (chunk_list_texts ps)
empty_chunk_out ps k h e =
    let cut : chunk_list_texts (remove ps k) ≡ remove (chunk_list_texts ps) k = map-append chunk_bytes (take k ps) (drop (suc k) ps)
    ∙ ap (λ x. x ++ chunk_list_texts (drop (suc k) ps)) (sym (take-map chunk_bytes k ps)) ∙ ap (λ x. take k (chunk_list_texts ps) ++ x) (sym (drop-map chunk_bytes (suc k) ps)) in
    ap concat cut ∙ removed_empty (chunk_list_texts ps) k (omega (arith, h, length_of_texts ps)) e

-- the uniqueness of all chunks
unique_all_step : (b : Bool) (p : RopeChunk) (ps : List RopeChunk) → is_unique_rope_chunk p ≡ b → (b && all_rope_chunks_unique ps) ≡ true → (all_rope_chunks_unique ps ≡ true → All IsUniqueChunk ps) → All IsUniqueChunk (p ∷ ps)
unique_all_step true p ps e f rest = All-cons IsUniqueChunk p ps e (rest f)
unique_all_step false p ps e f rest = cc

-- from the test to the uniqueness of each chunk
pub unique_all : (ps : List RopeChunk) → all_rope_chunks_unique ps ≡ true → All IsUniqueChunk ps
unique_all [] e = All-nil IsUniqueChunk
unique_all (p ∷ ps) e = unique_all_step (is_unique_rope_chunk p) p ps refl e (λ f. unique_all ps f)

pub all_unique_is : (ps : List RopeChunk) → All IsUniqueChunk ps → all_rope_chunks_unique ps ≡ true
all_unique_is [] a = refl
all_unique_is (p ∷ ps) a = rw (All-head IsUniqueChunk p ps a) (all_unique_is ps (All-tail IsUniqueChunk p ps a))

none_unique_step : (b : Bool) (ps : List RopeChunk) → all_rope_chunks_unique ps ≡ b → (All IsUniqueChunk ps → ⊥) → b ≡ false
none_unique_step true ps e no_own = absurd (no_own (unique_all ps e))
none_unique_step false ps e no_own = refl

pub none_unique : (ps : List RopeChunk) → (All IsUniqueChunk ps → ⊥) → all_rope_chunks_unique ps ≡ false
none_unique ps no_own = none_unique_step (all_rope_chunks_unique ps) ps refl no_own

abbrev pub seen_of : RopeChunk → List ℕ × Bool
seen_of p = (chunk_bytes p, is_unique_rope_chunk p)

pub same_seen : (ps qs : List RopeChunk) → map seen_of ps ≡ map seen_of qs → (chunk_list_texts ps ≡ chunk_list_texts qs) × (all_rope_chunks_unique ps ≡ all_rope_chunks_unique qs)
same_seen [] [] e = (refl, refl)
same_seen [] (q ∷ qs) e = cc
same_seen (p ∷ ps) [] e = cc
same_seen (p ∷ ps) (q ∷ qs) e =
    let head : seen_of p ≡ seen_of q = cc in
    let rest : map seen_of ps ≡ map seen_of qs = cc in
    let s = same_seen ps qs rest in
    let b : chunk_bytes p ≡ chunk_bytes q = ap (λ x. x.0) head in
    let o : is_unique_rope_chunk p ≡ is_unique_rope_chunk q = ap (λ x. x.1) head in
    (ap (λ x. x ∷ chunk_list_texts ps) b ∙ ap (λ x. chunk_bytes q ∷ x) s.0, ap (λ x. x && all_rope_chunks_unique ps) o ∙ ap (λ x. is_unique_rope_chunk q && x) s.1)

-- chunks of at most 4,096 bytes
pub short_push : (ps : List RopeChunk) (p : RopeChunk) → length (chunk_bytes p) ≤ 4096 → AreBounded (chunk_list_texts ps) → AreBounded (chunk_list_texts (ps ++ p ∷ []))
short_push ps p h a = rw (map_push chunk_bytes ps p) (All-push IsBounded (chunk_list_texts ps) (chunk_bytes p) a h)

pub short_set : (ps : List RopeChunk) (k : ℕ) (p : RopeChunk) → length (chunk_bytes p) ≤ 4096 → AreBounded (chunk_list_texts ps) → AreBounded (chunk_list_texts (set ps k p))
short_set ps k p h a = rw (map-set chunk_bytes ps k p) (All-set IsBounded (chunk_list_texts ps) k (chunk_bytes p) h a)

pub short_append : (ps qs : List RopeChunk) → AreBounded (chunk_list_texts ps) → AreBounded (chunk_list_texts qs) → AreBounded (chunk_list_texts (ps ++ qs))
short_append ps qs a b = rw (map-append chunk_bytes ps qs) (All-append IsBounded (chunk_list_texts ps) (chunk_list_texts qs) a b)

pub short_take : (ps : List RopeChunk) (n : ℕ) → AreBounded (chunk_list_texts ps) → AreBounded (chunk_list_texts (take n ps))
short_take ps n a = rw (← take-map chunk_bytes n ps) (All-take IsBounded n (chunk_list_texts ps) a)

pub short_drop : (ps : List RopeChunk) (n : ℕ) → AreBounded (chunk_list_texts ps) → AreBounded (chunk_list_texts (drop n ps))
short_drop ps n a = rw (← drop-map chunk_bytes n ps) (All-drop IsBounded n (chunk_list_texts ps) a)

-- the rest of a chunk
pub short_left : (ps : List RopeChunk) (p : RopeChunk) (k i j : ℕ) → k < length ps → i ≤ j → chunk_bytes p ≡ remove_range (chunk_text (chunk_list_texts ps) k) i j → AreBounded (chunk_list_texts ps) → AreBounded (chunk_list_texts (set ps k p))
short_left ps p k i j h l e a =
    let q = chunk_text (chunk_list_texts ps) k in
    let whole : length q ≤ 4096 = a k [] (omega (arith, h, length_of_texts ps)) in
    let size : length (chunk_bytes p) ≤ 4096 = omega (arith, ap length e, length-append (take i q) (drop j q), length-take i q, length-drop j q, whole, l) in
    short_set ps k p size a
