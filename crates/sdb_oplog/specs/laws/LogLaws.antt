-- Laws of decisions and of made logs.
use Rattle.std.proofs.Common.{Bool, ◌||◌, ◌⊎◌, inl, inr, ◌≡◌, ℕ, suc, ◌+◌, ◌<◌, ◌≤◌, ◌++◌, List, [], ◌∷◌, length, true, false, cond, Option, Some, None, Result, Ok, Err, refl, sym, ap, ◌∙◌, subst, append_assoc, length-append, nat_eq, nat_lt, max, arith}
use Rattle.std.proofs.lemmas.Bool.Decides.{nat_tests}
use Rattle.std.specs.Option.{is_some, unwrap_or, option_and_then, option_map_or}
use Rattle.std.specs.Result.{result_ok}
use Rattle.sdb_value.specs.Value.{Value}
use Rattle.sdb_oplog.specs.declared.codes.Code.{Code}
use Rattle.sdb_oplog.specs.declared.codes.Code.TheVariants.{E1, E2, E3, E4, E5, E6, E7, E8, E9, E10, E11}
use Rattle.sdb_transform.specs.Cross.{transform_op}
use Rattle.sdb_transform.specs.declared.side.Side.TheVariants.{Left}
use Rattle.sdb_apply.specs.Apply.{apply}
use Rattle.sdb_oplog.specs.Plain.{PlainEntry, PlainContent, create, delete, edit, PlainSubmission}
use Rattle.sdb_oplog.specs.Refusal.{result_and_then, IsRefusalOrOutOfMemory}
use Rattle.sdb_oplog.specs.Moments.{last_moment_or, last_moment, MomentsOrderedFrom, version_at}
use Rattle.sdb_oplog.specs.Rebase.{over, rebase, rebase_allocates}
use Rattle.sdb_oplog.specs.Snap.{apply_op, apply_content, snap_from, snap, document_of, stored_at}
use Rattle.sdb_oplog.specs.Decide.{is_log_full, is_version_too_new, apply_to_copy_allocates, apply_rebased_allocates, decide_allocates, decide, rebased_content, base_version, missed_entries, append_decided, new_entry, stored, repeated, refused, IsMadeFrom, IsMade}

-- ---- codes

-- a code other than E10 is the one that refuses the result
pub code_of_refusal : {A : Type 0} (r : Result A Code) (c : Code) → (c ≡ E10 → ⊥) → IsRefusalOrOutOfMemory r c → r ≡ Err c
code_of_refusal r E1 n h = h
code_of_refusal r E2 n h = h
code_of_refusal r E3 n h = h
code_of_refusal r E4 n h = h
code_of_refusal r E5 n h = h
code_of_refusal r E6 n h = h
code_of_refusal r E7 n h = h
code_of_refusal r E8 n h = h
code_of_refusal r E9 n h = h
code_of_refusal r E10 n h = absurd (n refl)
code_of_refusal r E11 n h = h

-- an allocation failed, or the code is the one that refuses the result
pub out_of_memory_or_refusal : {A : Type 0} (r : Result A Code) (c : Code) → IsRefusalOrOutOfMemory r c → (c ≡ E10) ⊎ (r ≡ Err c)
out_of_memory_or_refusal r E1 h = inr h
out_of_memory_or_refusal r E2 h = inr h
out_of_memory_or_refusal r E3 h = inr h
out_of_memory_or_refusal r E4 h = inr h
out_of_memory_or_refusal r E5 h = inr h
out_of_memory_or_refusal r E6 h = inr h
out_of_memory_or_refusal r E7 h = inr h
out_of_memory_or_refusal r E8 h = inr h
out_of_memory_or_refusal r E9 h = inr h
out_of_memory_or_refusal r E10 h = inl refl
out_of_memory_or_refusal r E11 h = inr h

-- ---- snapshots

and_then_some : {A : Type 0} (o : Option A) → option_and_then (λ n. Some n) o ≡ o
and_then_some None = refl
and_then_some (Some x) = refl

snap_step : (o : Option (Option Value)) (es : List PlainEntry) (e : PlainEntry) (m : Option Value)
    → option_and_then (λ n. snap_from n es) o ≡ Some m
    → ((n : Option Value) → snap_from n es ≡ Some m → snap_from n (es ++ e ∷ []) ≡ result_ok (apply_content e.content m))
    → option_and_then (λ n. snap_from n (es ++ e ∷ [])) o ≡ result_ok (apply_content e.content m)
snap_step None es e m h below = cc
snap_step (Some n) es e m h below = below n h

-- the document after one more entry
pub snap_one : (es : List PlainEntry) (e : PlainEntry) (d m : Option Value) → snap_from d es ≡ Some m
    → snap_from d (es ++ e ∷ []) ≡ result_ok (apply_content e.content m)
snap_one [] e d m h =
    let s : d ≡ m = cc in and_then_some (result_ok (apply_content e.content d)) ∙ ap (λ n. result_ok (apply_content e.content n)) s
snap_one (x ∷ es) e d m h = snap_step (result_ok (apply_content x.content d)) es e m h (λ n k. snap_one es e n m k)

pub some_of_is_some : (o : Option (Option Value)) → is_some o ≡ true → o ≡ Some (unwrap_or o None)
some_of_is_some None h = cc
some_of_is_some (Some d) h = refl

-- the document of a log whose entries all apply
pub document_of_snap : (log : List PlainEntry) (d : Option Value) → snap log ≡ Some d → document_of log ≡ d
document_of_snap log d h = ap (λ o. unwrap_or o None) h

-- the document after an append
pub document_of_append : (log : List PlainEntry) (e : PlainEntry) (d n : Option Value) → snap log ≡ Some d
    → apply_content e.content d ≡ Ok n → snap (log ++ e ∷ []) ≡ Some n
document_of_append log e d n lives makes = snap_one log e None d lives ∙ ap result_ok makes

-- ---- one submission, by cases

decide_of_stored_at : (log : List PlainEntry) (s : PlainSubmission) (now : ℕ) (o : Option ℕ) → stored_at s.src s.seq log ≡ o
    → decide log s now ≡ option_map_or (λ i. record { reply = repeated i; log = log }) o (append_decided log s now (rebased_content log s))
decide_of_stored_at log s now o e =
    ap (λ p. option_map_or (λ i. record { reply = repeated i; log = log }) p (append_decided log s now (rebased_content log s))) e

pub decides_repeat : (log : List PlainEntry) (s : PlainSubmission) (now : ℕ) (i : ℕ) → stored_at s.src s.seq log ≡ Some i
    → decide log s now ≡ record { reply = repeated i; log = log }
decides_repeat log s now i e = decide_of_stored_at log s now (Some i) e

pub decides_settled : (log : List PlainEntry) (s : PlainSubmission) (now : ℕ) (r : Result PlainContent Code)
    → stored_at s.src s.seq log ≡ None → rebased_content log s ≡ r → decide log s now ≡ append_decided log s now r
decides_settled log s now r first e = decide_of_stored_at log s now None first ∙ ap (append_decided log s now) e

settled_full : (log : List PlainEntry) (s : PlainSubmission) → length log ≡ 9007199254740991 → rebased_content log s ≡ Err E11
settled_full log s h =
    let full : nat_eq (length log) 9007199254740991 ≡ true = grind (arith, nat_tests) in
    ap (λ b. cond b (Err E11)
    (cond (nat_lt (length log) (base_version log s)) (Err E4)
    (result_and_then (λ m. result_and_then (λ d. Ok m) (apply_content m (document_of log)))
    (rebase s.content (missed_entries log s))))) full

pub decides_full : (log : List PlainEntry) (s : PlainSubmission) (now : ℕ) → stored_at s.src s.seq log ≡ None
    → length log ≡ 9007199254740991 → decide log s now ≡ record { reply = refused E11; log = log }
decides_full log s now first h = decides_settled log s now (Err E11) first (settled_full log s h)

length_below_limit : (log : List PlainEntry) (s : PlainSubmission) → length log < 9007199254740991
    → rebased_content log s
    ≡ cond (nat_lt (length log) (base_version log s)) (Err E4)
    (result_and_then (λ m. result_and_then (λ d. Ok m) (apply_content m (document_of log))) (rebase s.content (missed_entries log s)))
length_below_limit log s h =
    let room : nat_eq (length log) 9007199254740991 ≡ false = grind (arith, nat_tests) in
    ap (λ b. cond b (Err E11)
    (cond (nat_lt (length log) (base_version log s)) (Err E4)
    (result_and_then (λ m. result_and_then (λ d. Ok m) (apply_content m (document_of log)))
    (rebase s.content (missed_entries log s))))) room

pub decides_newer : (log : List PlainEntry) (s : PlainSubmission) (now : ℕ) → stored_at s.src s.seq log ≡ None
    → length log < 9007199254740991 → length log < base_version log s → decide log s now ≡ record { reply = refused E4; log = log }
decides_newer log s now first room h =
    let newer : nat_lt (length log) (base_version log s) ≡ true = grind (arith, nat_tests) in
    decides_settled log s now (Err E4) first
    (length_below_limit log s room
    ∙ ap (λ b. cond b (Err E4)
    (result_and_then (λ m. result_and_then (λ d. Ok m) (apply_content m (document_of log)))
    (rebase s.content (missed_entries log s)))) newer)

version_in_range : (log : List PlainEntry) (s : PlainSubmission) (r : Result PlainContent Code) → length log < 9007199254740991
    → base_version log s ≤ length log → rebase s.content (missed_entries log s) ≡ r
    → rebased_content log s ≡ result_and_then (λ m. result_and_then (λ d. Ok m) (apply_content m (document_of log))) r
version_in_range log s r room h e =
    let seen : nat_lt (length log) (base_version log s) ≡ false = grind (arith, nat_tests) in
    length_below_limit log s room
    ∙ ap (λ b. cond b (Err E4)
    (result_and_then (λ m. result_and_then (λ d. Ok m) (apply_content m (document_of log)))
    (rebase s.content (missed_entries log s)))) seen
    ∙ ap (result_and_then (λ m. result_and_then (λ d. Ok m) (apply_content m (document_of log)))) e

pub decides_over : (log : List PlainEntry) (s : PlainSubmission) (now : ℕ) (c : Code) → stored_at s.src s.seq log ≡ None
    → length log < 9007199254740991 → base_version log s ≤ length log → rebase s.content (missed_entries log s) ≡ Err c
    → decide log s now ≡ record { reply = refused c; log = log }
decides_over log s now c first room seen e = decides_settled log s now (Err c) first (version_in_range log s (Err c) room seen e)

pub decides_refused : (log : List PlainEntry) (s : PlainSubmission) (now : ℕ) (m : PlainContent) (c : Code)
    → stored_at s.src s.seq log ≡ None → length log < 9007199254740991 → base_version log s ≤ length log
    → rebase s.content (missed_entries log s) ≡ Ok m → apply_content m (document_of log) ≡ Err c
    → decide log s now ≡ record { reply = refused c; log = log }
decides_refused log s now m c first room seen e isnt =
    decides_settled log s now (Err c) first (version_in_range log s (Ok m) room seen e ∙ ap (result_and_then (λ d. Ok m)) isnt)

pub decides_stored : (log : List PlainEntry) (s : PlainSubmission) (now : ℕ) (m : PlainContent) (d : Option Value)
    → stored_at s.src s.seq log ≡ None → length log < 9007199254740991 → base_version log s ≤ length log
    → rebase s.content (missed_entries log s) ≡ Ok m → apply_content m (document_of log) ≡ Ok d
    → decide log s now ≡ record { reply = stored (length log) (missed_entries log s); log = log ++ new_entry log s now m ∷ [] }
decides_stored log s now m d first room seen e is =
    decides_settled log s now (Ok m) first (version_in_range log s (Ok m) room seen e ∙ ap (result_and_then (λ d. Ok m)) is)

-- ---- made logs

pub append_nil : (es : List PlainEntry) → es ++ [] ≡ es
append_nil [] = refl
append_nil (e ∷ es) = ap (λ l. e ∷ l) (append_nil es)

made_from_append : (before es : List PlainEntry) (e : PlainEntry) → IsMadeFrom before es
    → (decide (before ++ es) e.arrived e.moment).log ≡ (before ++ es) ++ e ∷ [] → IsMadeFrom before (es ++ e ∷ [])
made_from_append before [] e h k =
    let P : List PlainEntry → Type 0 = λ l. (decide l e.arrived e.moment).log ≡ l ++ e ∷ [] in
    (subst P (append_nil before) k, tt)
made_from_append before (x ∷ es) e h k =
    let P : List PlainEntry → Type 0 = λ l. (decide l e.arrived e.moment).log ≡ l ++ e ∷ [] in
    (h.0, made_from_append (before ++ x ∷ []) es e h.1 (subst P (sym (append_assoc before (x ∷ []) es)) k))

-- the entry's own moment stores an equal entry
append_moment_idempotent : (log : List PlainEntry) (s : PlainSubmission) (now : ℕ) (m : PlainContent)
    → new_entry log s (max now (last_moment log)) m ≡ new_entry log s now m
append_moment_idempotent log s now m =
    let e : max (max now (last_moment log)) (last_moment log) ≡ max now (last_moment log) = omega arith in
    ap (λ k. record { version = length log; moment = k; content = m; arrived = s }) e

made_of_append_decided : (log : List PlainEntry) (s : PlainSubmission) (now : ℕ) (r : Result PlainContent Code) → IsMade log
    → ((n : ℕ) → decide log s n ≡ append_decided log s n r) → IsMade (append_decided log s now r).log
made_of_append_decided log s now (Err c) h e = h
made_of_append_decided log s now (Ok m) h e =
    made_from_append [] log (new_entry log s now m) h
    (ap (λ d. d.log) (e (max now (last_moment log))) ∙ ap (λ x. log ++ x ∷ []) (append_moment_idempotent log s now m))

made_of_stored_at : (log : List PlainEntry) (s : PlainSubmission) (now : ℕ) (o : Option ℕ) → IsMade log → stored_at s.src s.seq log ≡ o
    → IsMade (option_map_or (λ i. record { reply = repeated i; log = log }) o (append_decided log s now (rebased_content log s))).log
made_of_stored_at log s now (Some i) h e = h
made_of_stored_at log s now None h e =
    made_of_append_decided log s now (rebased_content log s) h
    (λ n. ap (λ o. option_map_or (λ i. record { reply = repeated i; log = log }) o (append_decided log s n (rebased_content log s))) e)

-- a decision preserves that a log is made
pub made_of_decide : (log : List PlainEntry) (s : PlainSubmission) (now : ℕ) → IsMade log → IsMade (decide log s now).log
made_of_decide log s now h = made_of_stored_at log s now (stored_at s.src s.seq log) h refl

-- an append preserves the entries before it
append_decided_extends : (log : List PlainEntry) (s : PlainSubmission) (now : ℕ) (r : Result PlainContent Code)
    → (rest : List PlainEntry) × ((append_decided log s now r).log ≡ log ++ rest)
append_decided_extends log s now (Err c) = ([], sym (append_nil log))
append_decided_extends log s now (Ok m) = (new_entry log s now m ∷ [], refl)

decide_extends_at : (log : List PlainEntry) (s : PlainSubmission) (now : ℕ) (o : Option ℕ) → stored_at s.src s.seq log ≡ o
    → (rest : List PlainEntry) × ((decide log s now).log ≡ log ++ rest)
decide_extends_at log s now (Some i) e = ([], ap (λ d. d.log) (decides_repeat log s now i e) ∙ sym (append_nil log))
decide_extends_at log s now None e =
    let g = append_decided_extends log s now (rebased_content log s) in (g.0, ap (λ d. d.log) (decides_settled log s now (rebased_content log s) e refl) ∙ g.1)

-- a decision extends a log or leaves it unchanged
pub decide_extends : (log : List PlainEntry) (s : PlainSubmission) (now : ℕ)
    → (rest : List PlainEntry) × ((decide log s now).log ≡ log ++ rest)
decide_extends log s now = decide_extends_at log s now (stored_at s.src s.seq log) refl

-- ---- moments

last_moment_of_append : (m : ℕ) (es : List PlainEntry) (e : PlainEntry) → last_moment_or m (es ++ e ∷ []) ≡ e.moment
last_moment_of_append m [] e = refl
last_moment_of_append m (x ∷ es) e = last_moment_of_append x.moment es e

-- one more entry preserves the order if its moment isn't less than the last one
pub moments_ordered_append : (m : ℕ) (es : List PlainEntry) (e : PlainEntry) → MomentsOrderedFrom m es → last_moment_or m es ≤ e.moment
    → MomentsOrderedFrom m (es ++ e ∷ [])
moments_ordered_append m [] e h k = (k, tt)
moments_ordered_append m (x ∷ es) e h k = (h.0, moments_ordered_append x.moment es e h.1 k)

pub append_changes : (es : List PlainEntry) (e : PlainEntry) → es ≡ es ++ e ∷ [] → ⊥
append_changes es e h = let n : length es ≡ length es + 1 = ap length h ∙ length-append es (e ∷ []) in omega (arith, n)

append_decided_moments_ordered : (log : List PlainEntry) (e : PlainEntry) (r : Result PlainContent Code)
    → (append_decided log e.arrived e.moment r).log ≡ log ++ e ∷ [] → last_moment log ≤ e.moment
append_decided_moments_ordered log e (Err c) h = absurd (append_changes log e h)
append_decided_moments_ordered log e (Ok m) h =
    let same : max e.moment (last_moment log) ≡ e.moment =
    sym (last_moment_of_append 0 log (new_entry log e.arrived e.moment m)) ∙ ap last_moment h ∙ last_moment_of_append 0 log e in
    omega (arith, same)

decide_moments_ordered : (log : List PlainEntry) (e : PlainEntry) (o : Option ℕ)
    → stored_at e.arrived.src e.arrived.seq log ≡ o → (decide log e.arrived e.moment).log ≡ log ++ e ∷ []
    → last_moment log ≤ e.moment
decide_moments_ordered log e (Some i) is h =
    absurd (append_changes log e (sym (ap (λ d. d.log) (decides_repeat log e.arrived e.moment i is)) ∙ h))
decide_moments_ordered log e None is h =
    append_decided_moments_ordered log e (rebased_content log e.arrived)
    (sym (ap (λ d. d.log) (decides_settled log e.arrived e.moment (rebased_content log e.arrived) is refl)) ∙ h)

made_from_moments_ordered : (before es : List PlainEntry) → IsMadeFrom before es → MomentsOrderedFrom (last_moment before) es
made_from_moments_ordered before [] h = tt
made_from_moments_ordered before (e ∷ es) h = (
  decide_moments_ordered before e (stored_at e.arrived.src e.arrived.seq before) refl h.0,
  subst (λ m. MomentsOrderedFrom m es) (last_moment_of_append 0 before e) (made_from_moments_ordered (before ++ e ∷ []) es h.1),
)

-- moments never decrease in a made log
pub made_moments_ordered : (log : List PlainEntry) → IsMade log → MomentsOrderedFrom 0 log
made_moments_ordered log h = made_from_moments_ordered [] log h

at_most_one_more : (b : Bool) (n k : ℕ) → n ≤ k → cond b n (suc n) ≤ suc k
at_most_one_more true n k h = omega arith
at_most_one_more false n k h = omega arith

-- the version at a moment is at most the log's length
pub version_at_within : (log : List PlainEntry) (m : ℕ) → version_at log m ≤ length log
version_at_within [] m = omega arith
version_at_within (e ∷ es) m =
    at_most_one_more (nat_lt m e.moment) (version_at es m) (length es) (version_at_within es m)

moments_ordered_prefix : (m : ℕ) (es more : List PlainEntry) → MomentsOrderedFrom m (es ++ more) → MomentsOrderedFrom m es
moments_ordered_prefix m [] more h = tt
moments_ordered_prefix m (e ∷ es) more h = (h.0, moments_ordered_prefix e.moment es more h.1)

-- entries after the moment aren't counted
version_at_below : (m : ℕ) (log : List PlainEntry) (t : ℕ) → MomentsOrderedFrom m log → t < m → version_at log t ≡ 0
version_at_below m [] t h late = refl
version_at_below m (e ∷ es) t h late =
    let k = h.0 in
    let after : nat_lt t e.moment ≡ true = grind (arith, nat_tests) in
    ap (λ b. cond b (version_at es t) (suc (version_at es t))) after
    ∙ version_at_below e.moment es t h.1 (omega (arith, k, late))

version_at_append_cond : (b : Bool) (m : ℕ) (e : PlainEntry) (es more : List PlainEntry) (t : ℕ) → nat_lt t e.moment ≡ b
    → MomentsOrderedFrom m (e ∷ (es ++ more)) → cond b (version_at es t) (suc (version_at es t)) < suc (length es)
    → (version_at es t < length es → version_at (es ++ more) t ≡ version_at es t)
    → cond b (version_at (es ++ more) t) (suc (version_at (es ++ more) t))
    ≡ cond b (version_at es t) (suc (version_at es t))
version_at_append_cond false m e es more t is h below further = ap suc (further (omega (arith, below)))
version_at_append_cond true m e es more t is h below further =
    let late : t < e.moment = grind (arith, nat_tests) in
    version_at_below e.moment (es ++ more) t h.1 late
    ∙ sym (version_at_below e.moment es t (moments_ordered_prefix e.moment es more h.1) late)

-- a version at a moment that isn't the current one is unchanged in an extension
pub version_at_append : (m : ℕ) (log more : List PlainEntry) (t : ℕ) → MomentsOrderedFrom m (log ++ more)
    → version_at log t < length log → version_at (log ++ more) t ≡ version_at log t
version_at_append m [] more t h below = omega (arith, below)
version_at_append m (e ∷ es) more t h below =
    version_at_append_cond (nat_lt t e.moment) m e es more t refl h below (λ b. version_at_append e.moment es more t h.1 b)

-- ---- rebasing

rebase_append_result : (xs ys : List PlainEntry) (r : Result PlainContent Code)
    → ((k : PlainContent) → rebase k (xs ++ ys) ≡ result_and_then (λ m. rebase m ys) (rebase k xs))
    → result_and_then (λ k. rebase k (xs ++ ys)) r ≡ result_and_then (λ m. rebase m ys) (result_and_then (λ k. rebase k xs) r)
rebase_append_result xs ys (Ok k) h = h k
rebase_append_result xs ys (Err e) h = refl

-- rebasing on two lists is rebasing on the first and then on the second
pub rebase_append : (xs ys : List PlainEntry) (m : PlainContent)
    → rebase m (xs ++ ys) ≡ result_and_then (λ k. rebase k ys) (rebase m xs)
rebase_append [] ys m = refl
rebase_append (x ∷ xs) ys m = rebase_append_result xs ys (over m x.content) (λ k. rebase_append xs ys k)

-- ---- allocation failures: no definition refuses with E10

abbrev IsNotOutOfMemory : {A : Type 0} → Result A Code → Type 0
IsNotOutOfMemory r = r ≡ Err E10 → ⊥

err_injective : {A B : Type 0} (e : Code) → ◌≡◌ {A = Result A Code} (Err e) (Err E10)
    → ◌≡◌ {A = Result B Code} (Err e) (Err E10)
err_injective e h = let s : e ≡ E10 = cc in ap Err s

never_then : {A B : Type 0} (r : Result A Code) (f : A → Result B Code) → IsNotOutOfMemory r → ((x : A) → IsNotOutOfMemory (f x))
    → IsNotOutOfMemory (result_and_then f r)
never_then (Ok x) f a b h = b x h
never_then (Err e) f a b h = a (err_injective e h)

never_edit : {A B : Type 0} (o : Option A) (f : A → B) → IsNotOutOfMemory (option_map_or (λ x. Ok (f x)) o (Err E8))
never_edit None f h = cc
never_edit (Some x) f h = cc

never_over : (m stored : PlainContent) → IsNotOutOfMemory (over m stored)
never_over (create v) (create w) h = cc
never_over delete (create w) h = cc
never_over (edit op) (create w) h = cc
never_over (create v) delete h = cc
never_over delete delete h = cc
never_over (edit op) delete h = cc
never_over (create v) (edit other) h = cc
never_over delete (edit other) h = cc
never_over (edit op) (edit other) h = never_edit (transform_op Left op other) edit h

never_over_all : (es : List PlainEntry) (m : PlainContent) → IsNotOutOfMemory (rebase m es)
never_over_all [] m h = cc
never_over_all (e ∷ es) m h =
    never_then (over m e.content) (λ k. rebase k es) (never_over m e.content) (λ k. never_over_all es k) h

never_changes : (m : PlainContent) (d : Option Value) → IsNotOutOfMemory (apply_content m d)
never_changes (create v) None h = cc
never_changes (create v) (Some d) h = cc
never_changes delete d h = cc
never_changes (edit op) None h = cc
never_changes (edit op) (Some d) h =
    never_then (apply_op op d) (λ e. Ok (Some e)) (never_edit (apply op d) (λ e. e)) (λ e k. cc) h

never_cond : {A : Type 0} (a b : Bool) (r : Result A Code) → IsNotOutOfMemory r → IsNotOutOfMemory (cond a (Err E11) (cond b (Err E4) r))
never_cond true b r n h = cc
never_cond false true r n h = cc
never_cond false false r n h = n h

never_settled : (log : List PlainEntry) (s : PlainSubmission) → IsNotOutOfMemory (rebased_content log s)
never_settled log s =
    never_cond (nat_eq (length log) 9007199254740991) (nat_lt (length log) (base_version log s))
    (result_and_then (λ m. result_and_then (λ d. Ok m) (apply_content m (document_of log))) (rebase s.content (missed_entries log s)))
    (never_then (rebase s.content (missed_entries log s)) (λ m. result_and_then (λ d. Ok m) (apply_content m (document_of log)))
    (never_over_all (missed_entries log s) s.content)
    (λ m. never_then (apply_content m (document_of log)) (λ d. Ok m) (never_changes m (document_of log)) (λ d k. cc)))

never_stored : (log : List PlainEntry) (s : PlainSubmission) (now : ℕ) (r : Result PlainContent Code) → IsNotOutOfMemory r
    → (append_decided log s now r).reply ≡ refused E10 → ⊥
never_stored log s now (Ok m) n h = cc
never_stored log s now (Err e) n h = n (let c : e ≡ E10 = cc in ap Err c)

never_first : (log : List PlainEntry) (s : PlainSubmission) (now : ℕ) (o : Option ℕ) → stored_at s.src s.seq log ≡ o
    → (decide log s now).reply ≡ refused E10 → ⊥
never_first log s now (Some i) e h =
    let c : repeated i ≡ refused E10 = sym (ap (λ d. d.reply) (decides_repeat log s now i e)) ∙ h in cc
never_first log s now None e h =
    never_stored log s now (rebased_content log s) (never_settled log s)
    (sym (ap (λ d. d.reply) (decides_settled log s now (rebased_content log s) e refl)) ∙ h)

-- a decision never refuses with E10
pub decide_not_out_of_memory : (log : List PlainEntry) (s : PlainSubmission) (now : ℕ)
    → (decide log s now).reply ≡ refused E10 → ⊥
decide_not_out_of_memory log s now = never_first log s now (stored_at s.src s.seq log) refl

-- ---- allocations

or_right : (a b : Bool) → b ≡ true → (a || b) ≡ true
or_right true b h = refl
or_right false b h = h

or_left : (a b : Bool) → a ≡ true → (a || b) ≡ true
or_left a b h = ap (λ c. c || b) h

-- a new submission whose base version exists, in a log that isn't full
abbrev submission_allocates : List PlainEntry → PlainSubmission → Bool
submission_allocates log s =
    rebase_allocates s.content (missed_entries log s)
    || apply_rebased_allocates (rebase s.content (missed_entries log s)) (document_of log)

submission_allocates_open : (log : List PlainEntry) (s : PlainSubmission) → stored_at s.src s.seq log ≡ None
    → length log < 9007199254740991 → base_version log s ≤ length log
    → decide_allocates log s
    ≡ (rebase_allocates s.content (missed_entries log s)
    || apply_rebased_allocates (rebase s.content (missed_entries log s)) (document_of log))
submission_allocates_open log s first room seen =
    let full : is_log_full log ≡ false = grind (arith, nat_tests) in
    let newer : is_version_too_new log s ≡ false = grind (arith, nat_tests) in
    ap (λ o. cond (is_some o || (is_log_full log || is_version_too_new log s)) false (submission_allocates log s)) first
    ∙ ap (λ b. cond (b || is_version_too_new log s) false (submission_allocates log s)) full
    ∙ ap (λ b. cond b false (submission_allocates log s)) newer

-- it allocates if its rebase does
pub rebase_allocates_decide : (log : List PlainEntry) (s : PlainSubmission) → stored_at s.src s.seq log ≡ None
    → length log < 9007199254740991 → base_version log s ≤ length log
    → rebase_allocates s.content (missed_entries log s) ≡ true → decide_allocates log s ≡ true
rebase_allocates_decide log s first room seen h =
    submission_allocates_open log s first room seen ∙ or_left (rebase_allocates s.content (missed_entries log s)) _ h

-- it allocates if its rebased content does when it is applied
pub apply_allocates_decide : (log : List PlainEntry) (s : PlainSubmission) (m : PlainContent)
    → stored_at s.src s.seq log ≡ None → length log < 9007199254740991 → base_version log s ≤ length log
    → rebase s.content (missed_entries log s) ≡ Ok m → apply_to_copy_allocates m (document_of log) ≡ true
    → decide_allocates log s ≡ true
apply_allocates_decide log s m first room seen e h =
    submission_allocates_open log s first room seen
    ∙ or_right (rebase_allocates s.content (missed_entries log s)) _
    (ap (λ r. apply_rebased_allocates r (document_of log)) e ∙ h)

-- a rebase never refuses with E10
pub rebase_not_out_of_memory : (m : PlainContent) (es : List PlainEntry) → rebase m es ≡ Err E10 → ⊥
rebase_not_out_of_memory m es h = never_over_all es m h

pub apply_content_not_out_of_memory : (m : PlainContent) (d : Option Value) → apply_content m d ≡ Err E10 → ⊥
apply_content_not_out_of_memory m d h = never_changes m d h
