-- Crossing preserves the limits of operations, and rebasing those of contents.
use Rattle.std.proofs.Common.{ℕ, zero, suc, List, [], ◌∷◌, ◌++◌, length, drop, Option, Some, None, Ok, Err, refl, arith}
use Rattle.std.specs.Prelude.{⊤, if◌then◌else◌, nat_eq, nat_lt}
use Rattle.std.specs.Result.{result_ok}
use Rattle.sdb_component.specs.Plain.{PlainAct, ld, lr, od, or, PlainComponent}
use Rattle.sdb_transform.specs.declared.side.Side.TheVariants.{Left, Right}
use Rattle.sdb_transform.specs.Transform.{transform, strip_prefix}
use Rattle.sdb_transform.specs.Cross.{Crossing, and_then, cross_in, cross, cross_ops, transform_op}
use Rattle.sdb_oplog.specs.Plain.{PlainContent, create, delete, edit, PlainSubmission, PlainEntry}
use Rattle.sdb_oplog.specs.Rebase as oplog
use Rattle.sdb_oplog.specs.Rebase.{rebase}
use Rattle.sdb_oplog.specs.Refusal.{result_and_then}
use Rattle.sdb_oplog.specs.Snap.{apply_content, document_of}
use Rattle.sdb_oplog.specs.Decide.{base_version, missed_entries, rebased_content}
use Rattle.sdb_oplog.specs.declared.codes.Code.TheVariants.{E4, E8, E11}
use Rattle.sdb_dump.specs.ValueLimits.{ActInLimits, ComponentsInLimits}
use Rattle.sdb_dump.specs.EntryLimits.{ContentInLimits}
use Rattle.sdb_dump.proofs.HoldsLemmas.{IfSomeHolds, opt_map, opt_any, cond_holds, IfOkHolds, okay_then, okay_map}
use Rattle.sdb_dump.proofs.ActLimitLemmas.{transform_in_limits_cases}

abbrev BothInLimits : Crossing PlainComponent → Type 0
BothInLimits x = ComponentsInLimits 100 x.left × ComponentsInLimits 100 x.right

append_fits : (xs ys : List PlainComponent) → ComponentsInLimits 100 xs → ComponentsInLimits 100 ys → ComponentsInLimits 100 (xs ++ ys)
append_fits [] ys h k = k
append_fits (x ∷ xs) ys h k = (h.0, append_fits xs ys h.1 k)

then_fits : {A B : Type 0} (P : A → Type 0) (Q : B → Type 0) (o : Option A) (f : A → Option B) → IfSomeHolds P o → ((x : A) → P x → IfSomeHolds Q (f x)) → IfSomeHolds Q (and_then o f)
then_fits P Q None f h k = tt
then_fits P Q (Some x) f h k = k x h

cross_fits : (n : ℕ) (L R : List PlainComponent) → ComponentsInLimits 100 L → ComponentsInLimits 100 R → IfSomeHolds BothInLimits (cross_in (transform Left) (transform Right) n L R)
unfolding cross_in
cross_fits n [] R h k = (tt, k)
cross_fits n (l ∷ L) [] h k = (h, tt)
cross_fits zero (l ∷ L) (r ∷ R) h k = tt
cross_fits (suc n) (l ∷ L) (r ∷ R) h k =
    then_fits (ComponentsInLimits 100) BothInLimits (transform Left l r) _ (transform_in_limits_cases Left l r (strip_prefix r.path l.path) refl h.0 k.0) (λ l1 f.
    then_fits (ComponentsInLimits 100) BothInLimits (transform Right r l) _ (transform_in_limits_cases Right r l (strip_prefix l.path r.path) refl k.0 h.0) (λ r1 g.
    then_fits BothInLimits BothInLimits (cross_in (transform Left) (transform Right) n l1 R) _ (cross_fits n l1 R f k.1) (λ u a.
    then_fits BothInLimits BothInLimits (cross_in (transform Left) (transform Right) n L r1) _ (cross_fits n L r1 h.1 g) (λ v b.
    then_fits BothInLimits BothInLimits (cross_in (transform Left) (transform Right) n v.left u.right) _ (cross_fits n v.left u.right b.0 a.1) (λ w c.
    (append_fits u.left w.left a.0 c.0, append_fits v.right w.right b.1 c.1))))))

rebased_fits : (op other : List PlainComponent) → ComponentsInLimits 100 op → ComponentsInLimits 100 other → IfSomeHolds (ComponentsInLimits 100) (transform_op Left op other)
unfolding cross
rebased_fits op other h k = opt_map BothInLimits (ComponentsInLimits 100) (λ x. x.left) (cross_ops op other) (cross_fits _ op other h k) (λ x b. b.0)

-- ---- contents

abbrev pub AllContentsInLimits : List PlainEntry → Type 0
AllContentsInLimits [] = ⊤
AllContentsInLimits (e ∷ es) = ContentInLimits 100 e.content × AllContentsInLimits es

over_fits : (m stored : PlainContent) → ContentInLimits 100 m → ContentInLimits 100 stored → IfOkHolds (ContentInLimits 100) (oplog.over m stored)
over_fits m (create w) h k = tt
over_fits (create v) delete h k = tt
over_fits delete delete h k = tt
over_fits (edit op) delete h k = tt
over_fits (create v) (edit other) h k = tt
over_fits delete (edit other) h k = tt
over_fits (edit op) (edit other) h k = okay_map (ComponentsInLimits 100) (ContentInLimits 100) edit (transform_op Left op other) E8 (rebased_fits op other h k) (λ c f. f)

over_all_fits : (es : List PlainEntry) (m : PlainContent) → ContentInLimits 100 m → AllContentsInLimits es → IfOkHolds (ContentInLimits 100) (rebase m es)
over_all_fits [] m h k = h
over_all_fits (e ∷ es) m h k =
    okay_then (ContentInLimits 100) (ContentInLimits 100) (λ x. rebase x es) (oplog.over m e.content) (over_fits m e.content h k.0) (λ x f. over_all_fits es x f k.1)

drop_contents : (n : ℕ) (es : List PlainEntry) → AllContentsInLimits es → AllContentsInLimits (drop n es)
drop_contents zero es h = h
drop_contents (suc n) [] h = h
drop_contents (suc n) (e ∷ es) h = drop_contents n es h.1

-- a value within depth 50 is within depth 100
act_more : (a : PlainAct) → ActInLimits 50 a → ActInLimits 100 a
act_more (ld i x) h = (h.0, (h.1.0, omega (arith, h.1.1)))
act_more (lr i x y) h = (h.0, (h.1.0, omega (arith, h.1.1)), h.2)
act_more (od k x) h = (h.0, (h.1.0, omega (arith, h.1.1)))
act_more (or k x y) h = (h.0, (h.1.0, omega (arith, h.1.1)), h.2)
act_more a h = h

components_more : (cs : List PlainComponent) → ComponentsInLimits 50 cs → ComponentsInLimits 100 cs
components_more [] h = tt
components_more (c ∷ cs) h = (record { path = h.0.path; short = h.0.short; act = act_more c.act h.0.act }, components_more cs h.1)

content_more : (m : PlainContent) → ContentInLimits 50 m → ContentInLimits 100 m
content_more (create v) h = h
content_more delete h = h
content_more (edit cs) h = components_more cs h

-- the rebased content is within the limits
pub settled_fits : (log : List PlainEntry) (s : PlainSubmission) → AllContentsInLimits log → ContentInLimits 50 s.content → IfOkHolds (ContentInLimits 100) (rebased_content log s)
settled_fits log s h k =
    let P : PlainContent → Type 0 = ContentInLimits 100 in
    let r = result_and_then (λ m. result_and_then (λ d. Ok m) (apply_content m (document_of log))) (rebase s.content (missed_entries log s)) in
    cond_holds (IfOkHolds P) (nat_eq (length log) 9007199254740991) (Err E11) (if nat_lt (length log) (base_version log s) then Err E4 else r) tt
    (cond_holds (IfOkHolds P) (nat_lt (length log) (base_version log s)) (Err E4) r tt
    (okay_then P P (λ m. result_and_then (λ d. Ok m) (apply_content m (document_of log))) (rebase s.content (missed_entries log s))
    (over_all_fits (missed_entries log s) s.content (content_more s.content k) (drop_contents (base_version log s) log h)) (λ m f.
    okay_then (λ _. ⊤) P (λ d. Ok m) (apply_content m (document_of log)) (opt_any (result_ok (apply_content m (document_of log)))) (λ _ _. f))))
