-- The binary search for a moment.
use Rattle.std.proofs.Common.{◌≡◌, ℕ, zero, suc, ◌+◌, ◌-◌, ◌<◌, ◌≤◌, List, [], ◌∷◌, length, take, drop, get_or, Bool, true, false, cond, nat_lt, Some, slice_get, refl, sym, ap, ◌∙◌, arith}
use Rattle.std.proofs.lemmas.Bool.Decides.{nat_tests}
use Rattle.sdb_oplog.specs.Plain.{PlainEntry}
use Rattle.sdb_oplog.specs.Moments.{last_moment_or, MomentsOrderedFrom, version_at}

-- the last entry's moment
pub last_is : (m : ℕ) (es : List PlainEntry) (e : PlainEntry) → slice_get es (length es - 1) ≡ Some e → last_moment_or m es ≡ e.moment
last_is m [] e h = cc
last_is m (x ∷ []) e h = let s : x ≡ e = cc in ap (λ y. y.moment) s
last_is m (x ∷ y ∷ es) e h =
    let n : length (x ∷ y ∷ es) - 1 ≡ suc (length (y ∷ es) - 1) = omega arith in
    last_is x.moment (y ∷ es) e (ap (slice_get (x ∷ y ∷ es)) (sym n) ∙ h)

none_taken : (es : List PlainEntry) (now : ℕ) → version_at (take 0 es) now ≡ 0
none_taken [] now = refl
none_taken (x ∷ es) now = refl

not_late_of_le : (m : ℕ) (e : PlainEntry) → e.moment ≤ m → nat_lt m e.moment ≡ false
not_late_of_le m e h = grind (arith, nat_tests)

not_counted : (m : ℕ) (e : PlainEntry) → m < e.moment → nat_lt m e.moment ≡ true
not_counted m e h = grind (arith, nat_tests)

-- no entry's moment is before the first moment
not_before : (m : ℕ) (es : List PlainEntry) (i : ℕ) (e : PlainEntry) → MomentsOrderedFrom m es → i < length es → e ≡ get_or es i e → m ≤ e.moment
not_before m [] i e t h is = omega arith
not_before m (x ∷ es) zero e t h is = omega (arith, t.0, ap (λ (y : PlainEntry). y.moment) is)
not_before m (x ∷ es) (suc i) e t h is = let k : x.moment ≤ e.moment = not_before x.moment es i e t.1 (omega arith) is in omega (arith, t.0, k)

abbrev count_cond : Bool → List PlainEntry → ℕ → ℕ
count_cond b es now = cond b (version_at es now) (suc (version_at es now))

-- if an entry is counted, so are all before it
prefix_counted : (m : ℕ) (es : List PlainEntry) (i : ℕ) (e : PlainEntry) (now : ℕ) → MomentsOrderedFrom m es → i < length es → e ≡ get_or es i e
    → e.moment ≤ now → version_at (take (suc i) es) now ≡ suc i
prefix_counted m [] i e now t h is k = omega arith
prefix_counted m (x ∷ es) zero e now t h is k =
    ap (λ b. count_cond b (take 0 es) now) (not_late_of_le now x (omega (arith, k, ap (λ (y : PlainEntry). y.moment) is))) ∙ ap suc (none_taken es now)
prefix_counted m (x ∷ es) (suc i) e now t h is k =
    let below : x.moment ≤ e.moment = not_before x.moment es i e t.1 (omega arith) is in
    ap (λ b. count_cond b (take (suc i) es) now) (not_late_of_le now x (omega (arith, below, k)))
    ∙ ap suc (prefix_counted x.moment es i e now t.1 (omega arith) is k)

pub prefix_counts : (m : ℕ) (es : List PlainEntry) (i n : ℕ) (e : PlainEntry) (now : ℕ) → n ≡ suc i → MomentsOrderedFrom m es → i < length es
    → e ≡ get_or es i e → e.moment ≤ now → version_at (take n es) now ≡ n
prefix_counts m es i n e now one t h is k = ap (λ j. version_at (take j es) now) one ∙ prefix_counted m es i e now t h is k ∙ sym one

none_counts : (m : ℕ) (es : List PlainEntry) (now : ℕ) → MomentsOrderedFrom m es → now < m → version_at es now ≡ 0
none_counts m [] now t h = refl
none_counts m (x ∷ es) now t h =
    ap (λ b. count_cond b es now) (not_counted now x (omega (arith, t.0, h)))
    ∙ none_counts x.moment es now t.1 (omega (arith, t.0, h))

-- if an entry isn't counted, none after it is
pub back_counts : (m : ℕ) (es : List PlainEntry) (i : ℕ) (e : PlainEntry) (now : ℕ) → MomentsOrderedFrom m es → i < length es → e ≡ get_or es i e
    → now < e.moment → version_at (drop i es) now ≡ 0
back_counts m [] i e now t h is k = omega arith
back_counts m (x ∷ es) zero e now t h is k =
    let late : now < x.moment = omega (arith, k, ap (λ (y : PlainEntry). y.moment) is) in
    ap (λ b. count_cond b es now) (not_counted now x late) ∙ none_counts x.moment es now t.1 late
back_counts m (x ∷ es) (suc i) e now t h is k = back_counts x.moment es i e now t.1 (omega arith) is k

split_by : (b : Bool) (n p q : ℕ) → n ≡ p + q → cond b n (suc n) ≡ cond b p (suc p) + q
split_by true n p q e = e
split_by false n p q e = omega (arith, e)

version_split : (es : List PlainEntry) (i : ℕ) (now : ℕ) → version_at es now ≡ version_at (take i es) now + version_at (drop i es) now
version_split [] zero now = refl
version_split [] (suc i) now = refl
version_split (x ∷ es) zero now = omega arith
version_split (x ∷ es) (suc i) now =
    split_by (nat_lt now x.moment) (version_at es now) (version_at (take i es) now) (version_at (drop i es) now) (version_split es i now)

-- all counted entries are found when the halves meet
pub halves_meet : (es : List PlainEntry) (i : ℕ) (now : ℕ) → version_at (take i es) now ≡ i → version_at (drop i es) now ≡ 0 → version_at es now ≡ i
halves_meet es i now h k = omega (arith, version_split es i now, h, k)
