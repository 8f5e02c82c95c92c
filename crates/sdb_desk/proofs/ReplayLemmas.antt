-- The replay of a replay base is the document.
use Rattle.std.proofs.Common.{◌≡◌, ℕ, zero, suc, ◌+◌, ◌-◌, ◌≤◌, min, List, [], ◌∷◌, ◌++◌, take, drop, length, true, Option, Some, None, unwrap_or, refl, sym, ap, ◌∙◌, arith}
use Rattle.std.proofs.Math.Seq.{take-add, take-length}
use Rattle.std.proofs.lemmas.List.{drop-take}
use Rattle.std.specs.Option.{option_and_then, is_some}
use Rattle.std.specs.Result.{result_ok}
use Rattle.sdb_value.specs.Value.{Value}
use Rattle.sdb_oplog.specs.Plain.{PlainEntry}
use Rattle.sdb_oplog.specs.Decide.{IsMade}
use Rattle.sdb_oplog.specs.Snap.{apply_content, document_of, snap, snap_from}
use Rattle.sdb_oplog.specs.laws.DecidedLogLaws.{alive_of_made}
use Rattle.sdb_desk.specs.Machine.{operations_between}
use Rattle.sdb_desk.specs.Reads.{IsReplayBase}

snap_from_step : (o : Option (Option Value)) (f g h : Option Value → Option (Option Value)) → ((n : Option Value) → f n ≡ option_and_then h (g n))
    → option_and_then f o ≡ option_and_then h (option_and_then g o)
snap_from_step None f g h e = refl
snap_from_step (Some n) f g h e = e n

-- the replay of two lists is the replay of the first, then of the second
snap_more : (d : Option Value) (xs ys : List PlainEntry) → snap_from d (xs ++ ys) ≡ option_and_then (λ n. snap_from n ys) (snap_from d xs)
snap_more d [] ys = refl
snap_more d (x ∷ xs) ys =
    snap_from_step (result_ok (apply_content x.content d)) (λ n. snap_from n (xs ++ ys)) (λ n. snap_from n xs) (λ n. snap_from n ys) (λ n. snap_more n xs ys)

snap_some_step : (o : Option (Option Value)) (f g : Option Value → Option (Option Value)) → ((n : Option Value) → is_some (f n) ≡ true → is_some (g n) ≡ true)
    → is_some (option_and_then f o) ≡ true → is_some (option_and_then g o) ≡ true
snap_some_step None f g h e = e
snap_some_step (Some n) f g h e = h n e

-- a prefix of a log has a document too
snap_some_prefix : (es : List PlainEntry) (n : ℕ) (d : Option Value) → is_some (snap_from d es) ≡ true → is_some (snap_from d (take n es)) ≡ true
snap_some_prefix [] zero d h = h
snap_some_prefix [] (suc n) d h = h
snap_some_prefix (e ∷ es) zero d h = refl
snap_some_prefix (e ∷ es) (suc n) d h = snap_some_step (result_ok (apply_content e.content d)) (λ m. snap_from m es) (λ m. snap_from m (take n es)) (λ m. snap_some_prefix es n m) h

is_document : (o : Option (Option Value)) → is_some o ≡ true → o ≡ Some (unwrap_or o None)
is_document None h = cc
is_document (Some d) h = refl

-- the document at a version
pub document_at : (log : List PlainEntry) (v : ℕ) → is_some (snap log) ≡ true → snap (take v log) ≡ Some (document_of (take v log))
document_at log v lives = is_document (snap (take v log)) (snap_some_prefix log v None lives)

split_at : (w m : ℕ) (log : List PlainEntry) → take (w + m) log ≡ take w log ++ drop w (take (w + m) log)
split_at w m log = take-add w m log ∙ ap (λ r. take w log ++ r) (sym (drop-take w m log))

pub snap_of_take_extends : (w m : ℕ) (log : List PlainEntry) (d : Option Value) → is_some (snap log) ≡ true → snap (take w log) ≡ Some d
    → snap_from d (drop w (take (w + m) log)) ≡ Some (document_of (take (w + m) log))
snap_of_take_extends w m log d lives is =
    ap (λ o. option_and_then (λ n. snap_from n (drop w (take (w + m) log))) o) (sym is)
    ∙ sym (snap_more None (take w log) (drop w (take (w + m) log)))
    ∙ ap snap (sym (split_at w m log))
    ∙ document_at log (w + m) lives

pub base_up_to : (v w : ℕ) → w ≤ v → w + (v - w) ≡ v
base_up_to v w le = omega (arith, le)

-- the number of entries from `w` up to `v`, at most `max`
pub count_up_to : (w max v : ℕ) → w ≤ v → min (v - w) max ≡ min (w + max) v - w
count_up_to w max v le = grind (arith, le)

pub reached_within : (w max v n : ℕ) → v ≤ n → min (w + max) v ≤ n
reached_within w max v n le = grind (arith, le)

pub reached_from : (w max v : ℕ) → w ≤ v → w ≤ min (w + max) v
reached_from w max v le = grind (arith, le)

-- the entries from an older version on
pub replays_from : (log : List PlainEntry) (v w : ℕ) (d : Option Value) (es : List PlainEntry) → is_some (snap log) ≡ true → v ≤ length log → w ≤ v
    → snap (take w log) ≡ Some d → es ≡ take (v - w) (drop w log) → IsReplayBase log v (record { version = w; snapshot = d; entries = es })
replays_from log v w d es lives within le is entries =
    let at = base_up_to v w le in
    let here : es ≡ drop w (take v log) = entries ∙ sym (drop-take w (v - w) log) ∙ ap (λ n. drop w (take n log)) at in (
      within,
      here,
      ap (snap_from d) (here ∙ ap (λ n. drop w (take n log)) (sym at)) ∙ snap_of_take_extends w (v - w) log d lives is ∙ ap (λ n. Some (document_of (take n log))) at,
    )

pub no_entries_after : (v : ℕ) (log : List PlainEntry) → drop v (take v log) ≡ []
no_entries_after v log =
    let z : v + 0 ≡ v = omega arith in
    ap (λ n. drop v (take n log)) (sym z) ∙ drop-take v 0 log

-- the current document
pub replays_present : (log : List PlainEntry) (v : ℕ) (d : Option Value) → v ≡ length log → d ≡ document_of log
    → IsReplayBase log v (record { version = v; snapshot = d; entries = [] })
replays_present log v d is same =
    let n = is in (
      omega (arith, n),
      sym (no_entries_after v log),
      ap Some (same ∙ ap document_of (sym (take-length log) ∙ ap (λ k. take k log) (sym is))),
    )

-- the document at a version with the entries from there on is a replay base
pub base_from_document : (log : List PlainEntry) (v w : ℕ) (d : Option Value) (es : List PlainEntry) → IsMade log → v ≤ length log → w ≤ v
    → document_of (take w log) ≡ d → es ≡ operations_between log w v → IsReplayBase log v (record { version = w; snapshot = d; entries = es })
base_from_document log v w d es made within le is entries =
    let at = base_up_to v w le in
    let lives : is_some (snap log) ≡ true = alive_of_made log made in
    let start : snap (take w log) ≡ Some d = document_at log w lives ∙ ap Some is in (
      within,
      entries,
      ap (snap_from d) (entries ∙ ap (λ n. drop w (take n log)) (sym at)) ∙ snap_of_take_extends w (v - w) log d lives start ∙ ap (λ n. Some (document_of (take n log))) at,
    )
