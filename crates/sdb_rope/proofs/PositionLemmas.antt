-- The chunks of a text in order.
use Rattle.std.proofs.Common.{◌≡◌, ℕ, zero, suc, ◌+◌, ◌<◌, ◌≤◌, List, [], ◌∷◌, ◌++◌, length, take, drop, get_or, set, Some, None, option_map, Bool, true, false, nat_eq, refl, sym, ap, ◌∙◌, arith, append_assoc, length-append, length-take, length-drop, subst}
use Rattle.std.specs.List.{concat, starts_with, insert_slice, remove_range, remove}
use Rattle.std.specs.Cmp.Lexicographic.{pointwise}
use Rattle.std.specs.String.Boundary.{IsSplitPoint}
use Rattle.std.proofs.lemmas.List.{take-append-drop, append-nil, take_at, drop_at, drop-drop, take_all, take-append-le}
use Rattle.std.proofs.lemmas.Bool.Decides.{Decides-eqb}
use Rattle.std.proofs.lemmas.Slice.Eq.{starts_is}
use Rattle.std.specs.Str.{IsUtf8, IsCharBoundary}
use Rattle.std.proofs.lemmas.List.{get_or_append_left, get_or-drop}
use Rattle.std.proofs.lemmas.Str.{IsUtf8-nil, IsUtf8-append, IsUtf8-drop, IsCharBoundary-from_take, IsCharBoundary-start}
use Rattle.sdb_rope.proofs.BoundaryLemmas.{char_boundary}
use Rattle.sdb_rope.specs.Utf16.{units, cut_at}
use Rattle.sdb_rope.specs.Position.{chunk_text, bytes_before, bytes_after, IsUnitPosition, IsBytePosition, IsEndPosition}
use Rattle.sdb_rope.proofs.OffsetLemmas.{cut_split}
use Rattle.sdb_rope.proofs.ChunkEdits.{cut_inside, at_end, starts_with_of_append}

pub concat_before_after : (ts : List (List ℕ)) (k i : ℕ) → k < length ts → concat ts ≡ bytes_before ts k i ++ bytes_after ts k i
concat_before_after [] k i h = absurd (omega (arith, h))
concat_before_after (t ∷ ts) zero i h = ap (λ l. l ++ concat ts) (sym (take-append-drop i t)) ∙ append_assoc (take i t) (drop i t) (concat ts)
concat_before_after (t ∷ ts) (suc k) i h = ap (λ l. t ++ l) (concat_before_after ts k i (omega (arith, h))) ∙ sym (append_assoc t (bytes_before ts k i) (bytes_after ts k i))

pub before_is : (ts : List (List ℕ)) (k i : ℕ) → k < length ts → bytes_before ts k i ≡ concat (take k ts) ++ take i (chunk_text ts k)
before_is [] k i h = absurd (omega (arith, h))
before_is (t ∷ ts) zero i h = refl
before_is (t ∷ ts) (suc k) i h = ap (λ l. t ++ l) (before_is ts k i (omega (arith, h))) ∙ sym (append_assoc t (concat (take k ts)) (take i (chunk_text ts k)))

pub after_is : (ts : List (List ℕ)) (k i : ℕ) → k < length ts → bytes_after ts k i ≡ drop i (chunk_text ts k) ++ concat (drop (suc k) ts)
after_is [] k i h = absurd (omega (arith, h))
after_is (t ∷ ts) zero i h = refl
after_is (t ∷ ts) (suc k) i h = after_is ts k i (omega (arith, h))

pub concat_around_chunk : (ts : List (List ℕ)) (k : ℕ) → k < length ts → concat ts ≡ concat (take k ts) ++ (chunk_text ts k ++ concat (drop (suc k) ts))
concat_around_chunk [] k h = absurd (omega (arith, h))
concat_around_chunk (t ∷ ts) zero h = refl
concat_around_chunk (t ∷ ts) (suc k) h = ap (λ l. t ++ l) (concat_around_chunk ts k (omega (arith, h))) ∙ sym (append_assoc t (concat (take k ts)) (chunk_text ts k ++ concat (drop (suc k) ts)))

pub concat_append : (xs ys : List (List ℕ)) → concat (xs ++ ys) ≡ concat xs ++ concat ys
concat_append [] ys = refl
concat_append (x ∷ xs) ys = ap (λ l. x ++ l) (concat_append xs ys) ∙ sym (append_assoc x (concat xs) (concat ys))

-- ---- the position of an offset

pub length_before : (ts : List (List ℕ)) (k i : ℕ) → k < length ts → i ≤ length (chunk_text ts k) → length (bytes_before ts k i) ≡ length (concat (take k ts)) + i
length_before ts k i h l =
    let e : length (bytes_before ts k i) ≡ length (concat (take k ts)) + length (take i (chunk_text ts k)) = ap length (before_is ts k i h) ∙ length-append (concat (take k ts)) (take i (chunk_text ts k)) in
    omega (arith, e, length-take i (chunk_text ts k), l)

cut_at_of_position : (ts : List (List ℕ)) (offset k i : ℕ) → IsUnitPosition ts offset k i → cut_at (concat ts) offset ≡ option_map (λ n. length (concat (take k ts)) + n) (cut_at (chunk_text ts k) i)
cut_at_of_position ts offset k i p =
    ap (λ l. cut_at l offset) (concat_around_chunk ts k p.index_in_range) ∙ cut_inside (concat (take k ts)) (chunk_text ts k) (concat (drop (suc k) ts)) offset i p.offset_is_sum p.within

pub cut_chunk : (ts : List (List ℕ)) (q : List ℕ) (offset k i byte : ℕ) → IsUnitPosition ts offset k i → q ≡ chunk_text ts k → Some byte ≡ cut_at q i → IsBytePosition ts offset k byte
cut_chunk ts q offset k i byte p is cut =
    let here : cut_at (chunk_text ts k) i ≡ Some byte = ap (λ l. cut_at l i) (sym is) ∙ sym cut in
    let split : IsSplitPoint (chunk_text ts k) byte = cut_split (chunk_text ts k) i byte here in
    record {
      index_in_range = p.index_in_range;
      at_char_boundary = split;
      offset_is_length_before = cut_at_of_position ts offset k i p ∙ ap (option_map (λ n. length (concat (take k ts)) + n)) here ∙ ap Some (sym (length_before ts k byte p.index_in_range split.0));
    }

pub cut_none : (ts : List (List ℕ)) (q : List ℕ) (offset k i : ℕ) → IsUnitPosition ts offset k i → q ≡ chunk_text ts k → None ≡ cut_at q i → cut_at (concat ts) offset ≡ None
cut_none ts q offset k i p is cut =
    let here : cut_at (chunk_text ts k) i ≡ None = ap (λ l. cut_at l i) (sym is) ∙ sym cut in
    cut_at_of_position ts offset k i p ∙ ap (option_map (λ n. length (concat (take k ts)) + n)) here

before_last : (ts : List (List ℕ)) (k : ℕ) → suc k ≡ length ts → bytes_before ts k (length (chunk_text ts k)) ≡ concat ts
before_last [] k h = absurd (omega (arith, h))
before_last (t ∷ []) zero h = take_all (length t) t (omega arith) ∙ sym (append-nil t)
before_last (t ∷ u ∷ ts) zero h = absurd (omega (arith, h))
before_last (t ∷ ts) (suc k) h = ap (λ l. t ++ l) (before_last ts k (omega (arith, h)))

pub cut_last : (ts : List (List ℕ)) (q : List ℕ) (offset k : ℕ) → suc k ≡ length ts → q ≡ chunk_text ts k → units (concat ts) + 0 ≡ offset → IsBytePosition ts offset k (length q)
cut_last ts q offset k last is sum =
    rw is (record {
      index_in_range = omega (arith, last);
      at_char_boundary = (omega arith, λ _ l. absurd (omega (arith, l)));
      offset_is_length_before = at_end (concat ts) offset sum ∙ ap (λ l. Some (length l)) (sym (before_last ts k last));
    })

-- ---- the end of a text

after_next : (ts : List (List ℕ)) (k n i : ℕ) → k < length ts → n ≡ suc k → bytes_after ts k i ≡ drop i (chunk_text ts k) ++ bytes_after ts n 0
after_next [] k n i h e = absurd (omega (arith, h))
after_next (t ∷ []) zero n i h e = rw e refl
after_next (t ∷ u ∷ ts) zero n i h e = rw e refl
after_next (t ∷ ts) (suc k) n i h e = rw e (after_next ts k (suc k) i (omega (arith, h)) refl)

after_after : (ts : List (List ℕ)) (k i : ℕ) → length ts ≤ k → bytes_after ts k i ≡ []
after_after [] k i h = refl
after_after (t ∷ ts) zero i h = absurd (omega (arith, h))
after_after (t ∷ ts) (suc k) i h = after_after ts k i (omega (arith, h))

nothing_stands : (s : List ℕ) → 0 < length s → starts_with nat_eq [] s ≡ false
nothing_stands [] h = absurd (omega (arith, h))
nothing_stands (x ∷ s) h = refl

pub none_past : (ts : List (List ℕ)) (s : List ℕ) (k i : ℕ) → length ts ≤ k → 0 < length s → starts_with nat_eq (bytes_after ts k i) s ≡ false
none_past ts s k i h l = ap (λ y. starts_with nat_eq y s) (after_after ts k i h) ∙ nothing_stands s l

pub append_of_starts_with : (xs s : List ℕ) → starts_with nat_eq xs s ≡ true → xs ≡ s ++ drop (length s) xs
append_of_starts_with xs s e = (starts_is Decides-eqb xs s (starts_with nat_eq xs s) refl).0 e

pub end_here : (ts : List (List ℕ)) (s : List ℕ) (k i : ℕ) → k < length ts → i ≤ length (chunk_text ts k) → length s ≤ length (drop i (chunk_text ts k)) → starts_with nat_eq (drop i (chunk_text ts k)) s ≡ true → IsEndPosition ts k i s k (i + length s)
end_here ts s k i h l fits e =
    let q = chunk_text ts k in
    let R = concat (drop (suc k) ts) in
    let d : drop (length s) (drop i q) ≡ drop (i + length s) q = drop-drop (length s) i q in
    record {
      chunks_ordered = omega arith;
      index_in_range = h;
      byte_in_chunk = omega (arith, fits, length-drop i q, l);
      bytes_ordered = λ _. omega arith;
      text_between = after_is ts k i h ∙ ap (λ y. y ++ R) (append_of_starts_with (drop i q) s e ∙ ap (λ y. s ++ y) d) ∙ append_assoc s (drop (i + length s) q) R ∙ ap (λ y. s ++ y) (sym (after_is ts k (i + length s) h));
    }

pub none_here : (ts : List (List ℕ)) (s : List ℕ) (k i : ℕ) → k < length ts → length s ≤ length (drop i (chunk_text ts k)) → starts_with nat_eq (drop i (chunk_text ts k)) s ≡ false → starts_with nat_eq (bytes_after ts k i) s ≡ false
none_here ts s k i h fits e =
    ap (λ y. starts_with nat_eq y s) (after_is ts k i h) ∙ ap (pointwise nat_eq s) (take-append-le (length s) (drop i (chunk_text ts k)) (concat (drop (suc k) ts)) fits) ∙ e

false_or : (b c : Bool) → c ≡ false → (b ≡ true → c ≡ true) → b ≡ false
false_or true c e f = let g = f refl in cc
false_or false c e f = refl

begins_too : (h R s : List ℕ) → length h < length s → starts_with nat_eq (h ++ R) s ≡ true → starts_with nat_eq s h ≡ true
begins_too h R s l e =
    let f : h ++ R ≡ s ++ drop (length s) (h ++ R) = append_of_starts_with (h ++ R) s e in
    let g : h ≡ take (length h) s = sym (take_at h R (length h) refl) ∙ ap (take (length h)) f ∙ take-append-le (length h) s (drop (length s) (h ++ R)) (omega (arith, l)) in
    starts_with_of_append s h (drop (length h) s) (sym (take-append-drop (length h) s) ∙ ap (λ y. y ++ drop (length h) s) (sym g))

pub none_longer : (ts : List (List ℕ)) (s : List ℕ) (k i : ℕ) → k < length ts → length (drop i (chunk_text ts k)) < length s → starts_with nat_eq s (drop i (chunk_text ts k)) ≡ false → starts_with nat_eq (bytes_after ts k i) s ≡ false
none_longer ts s k i h l e =
    let here = drop i (chunk_text ts k) in
    let R = concat (drop (suc k) ts) in
    ap (λ y. starts_with nat_eq y s) (after_is ts k i h) ∙ false_or (starts_with nat_eq (here ++ R) s) (starts_with nat_eq s here) e (begins_too here R s l)

eq_same : (x : ℕ) → nat_eq x x ≡ true
eq_same x = (Decides-eqb x x).1 refl

both_begin : (x ys zs : List ℕ) → starts_with nat_eq (x ++ ys) (x ++ zs) ≡ starts_with nat_eq ys zs
both_begin [] ys zs = refl
both_begin (x ∷ xs) ys zs = rw (eq_same x) (both_begin xs ys zs)

pub ends_next : (ts : List (List ℕ)) (s : List ℕ) (k n i : ℕ) → k < length ts → n ≡ suc k → starts_with nat_eq s (drop i (chunk_text ts k)) ≡ true
    → (m j : ℕ) → IsEndPosition ts n 0 (drop (length (drop i (chunk_text ts k))) s) m j → IsEndPosition ts k i s m j
ends_next ts s k n i h next e m j end =
    let here = drop i (chunk_text ts k) in
    record {
      chunks_ordered = omega (arith, end.chunks_ordered, next);
      index_in_range = end.index_in_range;
      byte_in_chunk = end.byte_in_chunk;
      bytes_ordered = λ q. absurd (omega (arith, q, end.chunks_ordered, next));
      text_between = after_next ts k n i h next ∙ ap (λ y. here ++ y) end.text_between ∙ sym (append_assoc here (drop (length here) s) (bytes_after ts m j)) ∙ ap (λ y. y ++ bytes_after ts m j) (sym (append_of_starts_with s here e));
    }

pub same_next : (ts : List (List ℕ)) (s : List ℕ) (k n i : ℕ) → k < length ts → n ≡ suc k → starts_with nat_eq s (drop i (chunk_text ts k)) ≡ true
    → starts_with nat_eq (bytes_after ts n 0) (drop (length (drop i (chunk_text ts k))) s) ≡ starts_with nat_eq (bytes_after ts k i) s
same_next ts s k n i h next e =
    let here = drop i (chunk_text ts k) in
    sym (both_begin here (bytes_after ts n 0) (drop (length here) s)) ∙ ap (starts_with nat_eq (here ++ bytes_after ts n 0)) (sym (append_of_starts_with s here e)) ∙ ap (λ y. starts_with nat_eq y s) (sym (after_next ts k n i h next))

-- ---- an insert

around_put : (t R s : List ℕ) (i : ℕ) → insert_slice t i s ++ R ≡ take i t ++ (s ++ (drop i t ++ R))
around_put t R s i = append_assoc (take i t ++ s) (drop i t) R ∙ append_assoc (take i t) s (drop i t ++ R)

pub put_in : (ts us : List (List ℕ)) (s : List ℕ) (k i : ℕ) → k < length ts → concat us ≡ insert_slice (chunk_text ts k) i s
    → concat (take k ts ++ (us ++ drop (suc k) ts)) ≡ bytes_before ts k i ++ (s ++ bytes_after ts k i)
put_in [] us s k i h e = absurd (omega (arith, h))
put_in (t ∷ ts) us s zero i h e = concat_append us ts ∙ ap (λ l. l ++ concat ts) e ∙ around_put t (concat ts) s i
put_in (t ∷ ts) us s (suc k) i h e = ap (λ l. t ++ l) (put_in ts us s k i (omega (arith, h)) e) ∙ sym (append_assoc t (bytes_before ts k i) (s ++ bytes_after ts k i))

-- ---- a removal

pub removed_within : (ts : List (List ℕ)) (k i j : ℕ) → k < length ts → concat (set ts k (remove_range (chunk_text ts k) i j)) ≡ bytes_before ts k i ++ bytes_after ts k j
removed_within [] k i j h = absurd (omega (arith, h))
removed_within (t ∷ ts) zero i j h = append_assoc (take i t) (drop j t) (concat ts)
removed_within (t ∷ ts) (suc k) i j h = ap (λ l. t ++ l) (removed_within ts k i j (omega (arith, h))) ∙ sym (append_assoc t (bytes_before ts k i) (bytes_after ts k j))

drop_set : (ts : List (List ℕ)) (m : ℕ) (y : List ℕ) → m < length ts → concat (drop m (set ts m y)) ≡ y ++ concat (drop (suc m) ts)
drop_set [] m y h = absurd (omega (arith, h))
drop_set (t ∷ ts) zero y h = refl
drop_set (t ∷ ts) (suc m) y h = drop_set ts m y (omega (arith, h))

removed_between : (ts : List (List ℕ)) (k m : ℕ) (x y : List ℕ) → k < m → m < length ts
    → concat (take (suc k) (set (set ts k x) m y) ++ drop m (set (set ts k x) m y)) ≡ concat (take k ts) ++ (x ++ (y ++ concat (drop (suc m) ts)))
removed_between [] k m x y h l = absurd (omega (arith, l))
removed_between (t ∷ ts) k zero x y h l = absurd (omega (arith, h))
removed_between (t ∷ ts) zero (suc m) x y h l = ap (λ z. x ++ z) (drop_set ts m y (omega (arith, l)))
removed_between (t ∷ ts) (suc k) (suc m) x y h l =
    ap (λ z. t ++ z) (removed_between ts k m x y (omega (arith, h)) (omega (arith, l))) ∙ sym (append_assoc t (concat (take k ts)) (x ++ (y ++ concat (drop (suc m) ts))))

pub removed_across : (ts : List (List ℕ)) (k m i j : ℕ) (x y : List ℕ) → k < m → m < length ts → x ≡ take i (chunk_text ts k) → y ≡ drop j (chunk_text ts m)
    → concat (remove_range (set (set ts k x) m y) (suc k) m) ≡ bytes_before ts k i ++ bytes_after ts m j
removed_across ts k m i j x y h l e f =
    removed_between ts k m x y h l ∙ sym (append_assoc (concat (take k ts)) x (y ++ concat (drop (suc m) ts)))
    ∙ ap (λ z. (concat (take k ts) ++ z) ++ (y ++ concat (drop (suc m) ts))) e ∙ ap (λ z. (concat (take k ts) ++ take i (chunk_text ts k)) ++ (z ++ concat (drop (suc m) ts))) f
    ∙ ap (λ z. z ++ (drop j (chunk_text ts m) ++ concat (drop (suc m) ts))) (sym (before_is ts k i (omega (arith, h, l)))) ∙ ap (λ z. bytes_before ts k i ++ z) (sym (after_is ts m j l))

pub removed_empty : (ts : List (List ℕ)) (k : ℕ) → k < length ts → chunk_text ts k ≡ [] → concat (remove ts k) ≡ concat ts
removed_empty [] k h e = absurd (omega (arith, h))
removed_empty (t ∷ ts) zero h e = ap (λ l. l ++ concat ts) (sym e)
removed_empty (t ∷ ts) (suc k) h e = ap (λ l. t ++ l) (removed_empty ts k (omega (arith, h)) e)

-- ---- character boundaries

pub concat_utf8 : (ts : List (List ℕ)) → ((k : ℕ) → IsUtf8 (chunk_text ts k)) → IsUtf8 (concat ts)
concat_utf8 [] u = IsUtf8-nil
concat_utf8 (t ∷ ts) u = IsUtf8-append t (concat ts) (u 0) (concat_utf8 ts (λ k. u (suc k)))

after_utf8 : (ts : List (List ℕ)) (k i : ℕ) → ((k : ℕ) → IsUtf8 (chunk_text ts k)) → IsSplitPoint (chunk_text ts k) i → IsUtf8 (bytes_after ts k i)
after_utf8 [] k i u b = IsUtf8-nil
after_utf8 (t ∷ ts) zero i u b = IsUtf8-append (drop i t) (concat ts) (IsUtf8-drop t i (u 0) (char_boundary t i (u 0) b)) (concat_utf8 ts (λ k. u (suc k)))
after_utf8 (t ∷ ts) (suc k) i u b = after_utf8 ts k i (λ k. u (suc k)) b

rest_utf8 : (s Y : List ℕ) → IsUtf8 (s ++ Y) → IsUtf8 s → IsUtf8 Y
rest_utf8 s Y u v =
    let fits : length s ≤ length (s ++ Y) = omega (arith, length-append s Y) in
    let b : IsCharBoundary (s ++ Y) (length s) = IsCharBoundary-from_take (s ++ Y) (length s) u fits (subst IsUtf8 (sym (take_at s Y (length s) refl)) v) in
    subst IsUtf8 (drop_at s Y (length s) refl) (IsUtf8-drop (s ++ Y) (length s) u b)

first_byte : (q R : List ℕ) (j : ℕ) → j < length q → get_or (drop j q ++ R) 0 0 ≡ get_or q j 0
first_byte q R j l =
    let z : j + 0 ≡ j = omega arith in
    get_or_append_left (drop j q) R 0 0 (omega (arith, length-drop j q, l)) ∙ get_or-drop j q 0 0 ∙ ap (λ n. get_or q n 0) z

boundary_in : (q R : List ℕ) (j : ℕ) → j ≤ length q → IsUtf8 (drop j q ++ R) → IsSplitPoint q j
boundary_in q R j l u =
    let start : IsCharBoundary (drop j q ++ R) 0 = IsCharBoundary-start (drop j q ++ R) u in
    (l, λ _ inside high. omega (arith, first_byte q R j inside, high, start.1 (omega (arith, length-append (drop j q) R, length-drop j q, inside)) (omega (arith, first_byte q R j inside, high))))

pub end_boundary : (ts : List (List ℕ)) (s : List ℕ) (k i m j : ℕ) → ((k : ℕ) → IsUtf8 (chunk_text ts k)) → IsUtf8 s → IsSplitPoint (chunk_text ts k) i → IsEndPosition ts k i s m j → IsSplitPoint (chunk_text ts m) j
end_boundary ts s k i m j u v b end =
    let a : IsUtf8 (bytes_after ts m j) = rest_utf8 s (bytes_after ts m j) (subst IsUtf8 end.text_between (after_utf8 ts k i u b)) v in
    boundary_in (chunk_text ts m) (concat (drop (suc m) ts)) j end.byte_in_chunk (subst IsUtf8 (after_is ts m j end.index_in_range) a)
