-- Contents rebased on made entries.
use Rattle.std.proofs.Common.{◌≡◌, ℕ, ◌+◌, List, [], ◌∷◌, ◌++◌, take, drop, true, Option, Some, None, Result, Ok, Err, option_map, option_and_then, inl, inr, refl, sym, ap, ◌∙◌, subst, take-append-drop}
use Rattle.std.specs.Prelude.{⊤}
use Rattle.std.specs.Option.{is_some, option_map_or}
use Rattle.std.specs.Result.{result_ok}
use Rattle.sdb_value.specs.Value.{Value}
use Rattle.sdb_value.specs.WellFormed.{IsWellFormed}
use Rattle.sdb_component.specs.Plain.{PlainComponent}
use Rattle.sdb_component.specs.Weight.{component_weight}
use Rattle.sdb_apply.specs.Apply.{apply}
use Rattle.sdb_transform.specs.Cross.{Crossing, sum_weight, cross, cross_ops}
use Rattle.sdb_transform.proofs.FormedValues.{IsFormed, formed_of}
use Rattle.sdb_transform.proofs.OperationRuns.{OperationRun, MadeOrOverflows, run_formed, run_of, made_or_overflows}
use Rattle.sdb_transform.proofs.OperationLemmas.{cross_runs}
use Rattle.sdb_oplog.specs.declared.codes.Code.TheVariants.{E8}
use Rattle.sdb_oplog.specs.Plain.{PlainContent, create, delete, edit, PlainEntry}
use Rattle.sdb_oplog.specs.Refusal.{result_and_then}
use Rattle.sdb_oplog.specs.Rebase.{over, rebase}
use Rattle.sdb_oplog.specs.Snap.{apply_content, snap_from, snap, document_of}
use Rattle.sdb_oplog.specs.Decide.{base_version, missed_entries}
use Rattle.sdb_oplog.specs.RebasedContents.{IsContentMadeFor, AreEntriesMadeFor, IsWellFormedDocument, IsMadeOrSumLeavesRange, base_document, RebasedContentsAreMade, RebasedSubmissionsAreMade}
use Rattle.sdb_oplog.specs.laws.LogLaws.{some_of_is_some}
use Rattle.sdb_oplog.specs.laws.DecidedLogLaws.{alive_of_made}
use Rattle.sdb_oplog.proofs.LogGrowth.{lives_prefix}

-- ---- contents that are made apart from the range of sums

-- the document is well formed apart from the range of its numbers
abbrev pub IsFormedDocument : Option Value → Type 0
IsFormedDocument None = ⊤
IsFormedDocument (Some d) = IsFormed d

-- the content is made for the document apart from the range of sums
abbrev pub ContentRun : PlainContent → Option Value → Type 0
ContentRun (create v) d = IsWellFormed v
ContentRun delete d = ⊤
ContentRun (edit op) None = ⊥
ContentRun (edit op) (Some d) = (e : Value) × OperationRun op d e

pub formed_document : (d : Option Value) → IsWellFormedDocument d → IsFormedDocument d
formed_document None h = tt
formed_document (Some d) h = formed_of d h

pub content_run : (m : PlainContent) (d : Option Value) → IsContentMadeFor m d → ContentRun m d
content_run (create v) d h = h
content_run delete d h = tt
content_run (edit op) None h = h
content_run (edit op) (Some d) h = let r = run_of op d h in (r.result, r.run)

edit_made_or_overflows : (op : List PlainComponent) (d e : Value) → MadeOrOverflows op d e → IsMadeOrSumLeavesRange (edit op) (Some d)
edit_made_or_overflows op d e (inl h) = inl h.made
edit_made_or_overflows op d e (inr o) = inr o

pub content_made_or_overflows : (m : PlainContent) (d : Option Value) → ContentRun m d → IsMadeOrSumLeavesRange m d
content_made_or_overflows (create v) d h = inl h
content_made_or_overflows delete d h = inl tt
content_made_or_overflows (edit op) None h = absurd h
content_made_or_overflows (edit op) (Some d) h = edit_made_or_overflows op d h.0 (made_or_overflows op d h.0 h.1)

-- ---- one entry

same_ok : {A E : Type 0} (x y : A) → ◌≡◌ {A = Result A E} (Ok x) (Ok y) → x ≡ y
same_ok x y e = cc

same_some : {A : Type 0} (x y : A) → Some x ≡ Some y → x ≡ y
same_some x y e = cc

-- the document after an operation that applies
pub edit_applied : (op : List PlainComponent) (d e : Value) (n : Option Value) → apply op d ≡ Some e → apply_content (edit op) (Some d) ≡ Ok n → Some e ≡ n
edit_applied op d e n h k =
    same_ok (Some e) n (sym (ap (λ o. result_and_then (λ f. Ok (Some f)) (option_map_or (λ f. Ok f) o (Err E8))) h) ∙ k)

pub formed_after : (m : PlainContent) (d n : Option Value) → IsFormedDocument d → IsContentMadeFor m d → apply_content m d ≡ Ok n → IsFormedDocument n
formed_after (create v) None n f h e = subst IsFormedDocument (same_ok (Some v) n e) (formed_of v h)
formed_after (create v) (Some d) n f h e = cc
formed_after delete d n f h e = subst IsFormedDocument (same_ok None n e) tt
formed_after (edit op) None n f h e = absurd h
formed_after (edit op) (Some d) n f h e =
    let r = run_of op d h in
    subst IsFormedDocument (edit_applied op d r.result n r.applied e) (run_formed op d r.result f r.run)

-- the crossing that a transform has made
pub crossing_of_ok : (o : Option (Crossing PlainComponent)) (k : PlainContent) → option_map_or (λ c. Ok (edit c)) (option_map (λ x. x.left) o) (Err E8) ≡ Ok k
    → (x : Crossing PlainComponent) × (o ≡ Some x) × (edit x.left ≡ k)
crossing_of_ok None k e = cc
crossing_of_ok (Some x) k e = (x, refl, same_ok (edit x.left) k e)

pub edit_over_run : (op other : List PlainComponent) (d e f : Value) (x : Crossing PlainComponent) → cross_ops op other ≡ Some x → IsFormed d → OperationRun op d e → OperationRun other d f
    → (g : Value) × OperationRun x.left f g
unfolding cross
edit_over_run op other d e f x h w a b =
    let r = cross_runs (sum_weight component_weight op + sum_weight component_weight other) op other x h d e f w a b in (r.result, r.left_run)

-- a content transformed against a made one
pub over_run : (m stored k : PlainContent) (d n : Option Value) → over m stored ≡ Ok k → IsFormedDocument d → ContentRun m d → IsContentMadeFor stored d → apply_content stored d ≡ Ok n → ContentRun k n
over_run (create v) (create w) k d n o f a b e = cc
over_run delete (create w) k d n o f a b e = cc
over_run (edit op) (create w) k d n o f a b e = cc
over_run (create v) delete k d n o f a b e = cc
over_run delete delete k d n o f a b e = subst (λ c. ContentRun c n) (same_ok delete k o) tt
over_run (edit op) delete k d n o f a b e = cc
over_run (create v) (edit other) k d n o f a b e = cc
over_run delete (edit other) k d n o f a b e = subst (λ c. ContentRun c n) (same_ok delete k o) tt
over_run (edit op) (edit other) k None n o f a b e = absurd a
over_run (edit op) (edit other) k (Some d) n o f a b e =
    let r = run_of other d b in
    let x = crossing_of_ok (cross_ops op other) k o in
    let run = edit_over_run op other d a.0 r.result x.0 x.1 f a.1 r.run in
    subst (λ c. ContentRun c n) x.2 (subst (ContentRun (edit x.0.left)) (edit_applied other d r.result n r.applied e) run)

-- ---- several entries

-- the rebased content is made for the document apart from the range of sums
pub record RebasedRun (m : PlainContent) (d : Option Value) : Type 0 where
  pub run : ContentRun m d
  pub formed : IsFormedDocument d

ok_step : {A B E : Type 0} (r : Result A E) (f : A → Result B E) (b : B) → result_and_then f r ≡ Ok b → (a : A) × (r ≡ Ok a) × (f a ≡ Ok b)
ok_step (Ok a) f b e = (a, refl, e)
ok_step (Err c) f b e = cc

pub snap_after_first : (es : List PlainEntry) (e : PlainEntry) (d n after : Option Value) → apply_content e.content d ≡ Ok n → snap_from d (e ∷ es) ≡ Some after → snap_from n es ≡ Some after
snap_after_first es e d n after h k = sym (ap (λ r. option_and_then (λ m. snap_from m es) (result_ok r)) h) ∙ k

pub rebase_run : (es : List PlainEntry) (m k : PlainContent) (d after : Option Value) → IsFormedDocument d → ContentRun m d → AreEntriesMadeFor es d
    → rebase m es ≡ Ok k → snap_from d es ≡ Some after → RebasedRun k after
rebase_run [] m k d after f a h e s =
    subst (RebasedRun k) (same_some d after s) (subst (λ c. RebasedRun c d) (same_ok m k e) (record { run = a; formed = f }))
rebase_run (x ∷ es) m k d after f a h e s =
    let o = ok_step (over m x.content) (λ c. rebase c es) k e in
    let n = h.1 in
    rebase_run es o.0 k n after (formed_after x.content d n f h.0 h.2) (over_run m x.content o.0 d n o.1 f a h.0 h.2) h.3 o.2 (snap_after_first es x d n after h.2 s)

pub rebased_made : RebasedContentsAreMade
rebased_made es m k d after f a h e s =
    content_made_or_overflows k after (rebase_run es m k d after (formed_document d f) (content_run m d a) h e s).run

-- ---- the log before and after the base version

snap_step : (o : Option (Option Value)) (xs ys : List PlainEntry) → ((n : Option Value) → snap_from n (xs ++ ys) ≡ option_and_then (λ m. snap_from m ys) (snap_from n xs))
    → option_and_then (λ n. snap_from n (xs ++ ys)) o ≡ option_and_then (λ m. snap_from m ys) (option_and_then (λ n. snap_from n xs) o)
snap_step None xs ys below = refl
snap_step (Some n) xs ys below = below n

pub snap_append : (xs ys : List PlainEntry) (d : Option Value) → snap_from d (xs ++ ys) ≡ option_and_then (λ m. snap_from m ys) (snap_from d xs)
snap_append [] ys d = refl
snap_append (x ∷ xs) ys d = snap_step (result_ok (apply_content x.content d)) xs ys (λ n. snap_append xs ys n)

-- the documents of a log whose entries all apply
pub snap_prefix : (log : List PlainEntry) (v : ℕ) → is_some (snap log) ≡ true → snap (take v log) ≡ Some (document_of (take v log))
snap_prefix log v h = some_of_is_some (snap (take v log)) (lives_prefix log v None h)

pub snap_since : (log : List PlainEntry) (v : ℕ) → is_some (snap log) ≡ true → snap_from (document_of (take v log)) (drop v log) ≡ Some (document_of log)
snap_since log v h =
    sym (ap (option_and_then (λ m. snap_from m (drop v log))) (snap_prefix log v h))
    ∙ sym (snap_append (take v log) (drop v log) None)
    ∙ ap snap (take-append-drop v log)
    ∙ some_of_is_some (snap log) h

pub submission_made : RebasedSubmissionsAreMade
submission_made log s k made f h a e =
    rebased_made (missed_entries log s) s.content k (base_document log s) (document_of log) f a h e (snap_since log (base_version log s) (alive_of_made log made))
