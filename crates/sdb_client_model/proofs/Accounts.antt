-- What all edits of a run weigh: the entries that it has stored and the edits that aren't stored weigh at most what the
-- edits weighed when they were made.
use Rattle.std.proofs.Common.{◌≡◌, ℕ, zero, suc, ◌+◌, ◌≤◌, List, [], ◌∷◌, ◌++◌, take, drop, Bool, true, false, cond, Option, Some, None, ◌⊎◌, inl, inr, option_map, refl, sym, ap, ◌∙◌, subst, arith, take-append-drop}
use Rattle.std.proofs.lemmas.Slice.Eq.{bytes_eq-Decides}
use Rattle.std.specs.Prelude.{bytes_eq, ⊤}
use Rattle.std.specs.Option.{is_some}
use Rattle.sdb_component.specs.Plain.{PlainComponent}
use Rattle.sdb_apply.specs.Apply.{apply}
use Rattle.sdb_transform.specs.Cross.{and_then, cross_ops}
use Rattle.sdb_oplog.specs.Plain.{PlainContent, create, delete, edit, PlainEntry}
use Rattle.sdb_oplog.specs.Snap.{stored_at, has_identifier}
use Rattle.sdb_client_model.specs.Client.{SentEdit, Client, PendingCrossing, cross_pending, queue_after, queued_edits, is_sent_edit, after_edit, next_sent, after_send, after_acknowledgement, after_content, after_entry}
use Rattle.sdb_client_model.specs.Machine.{SharedDocument, with_client}
use Rattle.sdb_client_model.specs.Invariant.{StoresSentEdit, AreEntriesOfSentEdit, IsSentEditOf, IsSentOrNone, IsConsistent}
use Rattle.sdb_client_model.proofs.PendingLemmas.{same_some, some_step, map_step}
use Rattle.sdb_client_model.proofs.AppendLemmas.{same_source, identifier_parts, stored_append}
use Rattle.sdb_client_model.proofs.Reductions.{IsReduced, crossing_reduced}

-- ---- pending operations

abbrev pub AreReduced : List (List PlainComponent) → List (List PlainComponent) → Type 0
AreReduced [] [] = ⊤
AreReduced [] (b ∷ bs) = ⊥
AreReduced (a ∷ xs) [] = ⊥
AreReduced (a ∷ xs) (b ∷ bs) = IsReduced a b × AreReduced xs bs

pub crossed_reduced : (ops : List (List PlainComponent)) (received : List PlainComponent) (y : PendingCrossing) → cross_pending ops received ≡ Some y → AreReduced ops y.pending
crossed_reduced [] received y h = subst (λ (z : PendingCrossing). AreReduced [] z.pending) (same_some _ y h) tt
crossed_reduced (op ∷ ops) received y h =
    let x = some_step (cross_ops op received) (λ x. and_then (cross_pending ops x.right) (λ z. Some (record { pending = x.left ∷ z.pending; received = z.received }))) y h in
    let z = some_step (cross_pending ops x.0.right) (λ z. Some (record { pending = x.0.left ∷ z.pending; received = z.received })) y x.2 in
    subst (λ (v : PendingCrossing). AreReduced (op ∷ ops) v.pending) (same_some _ y z.2)
    ((crossing_reduced op received x.0 x.1).left, crossed_reduced ops x.0.right z.0 z.1)

-- ---- a client after an entry

-- after its own one
pub record ProcessedOwn (source : List ℕ) (e : PlainEntry) (old c : Client) : Type 0 where
  pub sent_edit : SentEdit
  pub sent_is : old.sent ≡ Some sent_edit
  pub own : has_identifier source sent_edit.seq e ≡ true
  pub operation : List PlainComponent
  pub rest : List (List PlainComponent)
  pub first : old.pending ≡ operation ∷ rest
  pub applied : apply operation old.document ≡ Some c.document
  pub version : c.version ≡ old.version + 1
  pub pending : c.pending ≡ rest
  pub sent : c.sent ≡ None

-- after another one's
pub record ProcessedOther (e : PlainEntry) (old c : Client) : Type 0 where
  pub operation : List PlainComponent
  pub content : e.content ≡ edit operation
  pub applied : apply operation old.document ≡ Some c.document
  pub version : c.version ≡ old.version + 1
  pub pending : AreReduced old.pending c.pending
  pub sent : c.sent ≡ old.sent

own_of : (source : List ℕ) (e : PlainEntry) (old c : Client) (o : Option SentEdit) (ops : List (List PlainComponent)) → old.sent ≡ o → old.pending ≡ ops → is_sent_edit source o e ≡ true
    → after_acknowledgement old ops ≡ Some c → ProcessedOwn source e old c
own_of source e old c None ops is first own h = cc
own_of source e old c (Some t) [] is first own h = cc
own_of source e old c (Some t) (op ∷ ops) is first own h =
    let d = map_step (apply op old.document) (λ d. record { version = old.version + 1; document = d; pending = ops; sent = None; next_seq = old.next_seq }) c h in
    subst (ProcessedOwn source e old) d.2
    (record { sent_edit = t; sent_is = is; own = own; operation = op; rest = ops; first = first; applied = d.1; version = refl; pending = refl; sent = refl })

other_of : (e : PlainEntry) (m : PlainContent) (old c : Client) → e.content ≡ m → after_content old m ≡ Some c → ProcessedOther e old c
other_of e (create v) old c is h = cc
other_of e delete old c is h = cc
other_of e (edit op) old c is h =
    let d = some_step (apply op old.document) (λ d. and_then (cross_pending old.pending op) (λ x. Some (record { version = old.version + 1; document = d; pending = x.pending; sent = old.sent; next_seq = old.next_seq }))) c h in
    let y = some_step (cross_pending old.pending op) (λ x. Some (record { version = old.version + 1; document = d.0; pending = x.pending; sent = old.sent; next_seq = old.next_seq })) c d.2 in
    subst (ProcessedOther e old) (same_some _ c y.2)
    (record { operation = op; content = is; applied = d.1; version = refl; pending = crossed_reduced old.pending op y.0 y.1; sent = refl })

processed_at : (source : List ℕ) (e : PlainEntry) (old c : Client) (b : Bool) → is_sent_edit source old.sent e ≡ b → cond b (after_acknowledgement old old.pending) (after_content old e.content) ≡ Some c
    → ProcessedOwn source e old c ⊎ ProcessedOther e old c
processed_at source e old c true own h = inl (own_of source e old c old.sent old.pending refl refl own h)
processed_at source e old c false other h = inr (other_of e e.content old c refl h)

pub processed_of : (source : List ℕ) (e : PlainEntry) (old c : Client) → after_entry source e old ≡ Some c → ProcessedOwn source e old c ⊎ ProcessedOther e old c
processed_of source e old c h = processed_at source e old c (is_sent_edit source old.sent e) refl h

-- ---- weights

abbrev pub content_weight : (List PlainComponent → ℕ) → PlainContent → ℕ
content_weight w (create v) = w []
content_weight w delete = w []
content_weight w (edit op) = w op

-- the entries' submissions
abbrev pub log_weight : (List PlainComponent → ℕ) → List PlainEntry → ℕ
log_weight w [] = 0
log_weight w (e ∷ es) = content_weight w e.arrived.content + log_weight w es

abbrev pub ops_weight : (List PlainComponent → ℕ) → List (List PlainComponent) → ℕ
ops_weight w [] = 0
ops_weight w (op ∷ ops) = w op + ops_weight w ops

-- the sent edit, if it isn't stored
abbrev pub sent_weight : (List PlainComponent → ℕ) → List PlainEntry → List ℕ → Option SentEdit → ℕ
sent_weight w log source None = 0
sent_weight w log source (Some t) = cond (is_some (stored_at source t.seq log)) 0 (w t.operation)

-- the edits of a client that aren't stored
abbrev pub unstored_weight : (List PlainComponent → ℕ) → List PlainEntry → List ℕ → Client → ℕ
unstored_weight w log source c = sent_weight w log source c.sent + ops_weight w (queued_edits c)

abbrev pub sum_over : (List ℕ → ℕ) → List (List ℕ) → ℕ
sum_over f [] = 0
sum_over f (s ∷ sources) = f s + sum_over f sources

abbrev pub AreOthers : List ℕ → List (List ℕ) → Type 0
AreOthers source [] = ⊤
AreOthers source (s ∷ sources) = (bytes_eq source s ≡ false) × AreOthers source sources

abbrev pub AreDistinct : List (List ℕ) → Type 0
AreDistinct [] = ⊤
AreDistinct (s ∷ sources) = AreOthers s sources × AreDistinct sources

-- the stored edits and those of any clients that aren't stored weigh at most n
abbrev pub IsWithin : (List PlainComponent → ℕ) → ℕ → SharedDocument → Type 0
IsWithin w n s = (sources : List (List ℕ)) → AreDistinct sources → log_weight w s.log + sum_over (λ x. unstored_weight w s.log x (s.clients x)) sources ≤ n

-- a reduced operation weighs no more
abbrev pub Lessens : (List PlainComponent → ℕ) → Type 0
Lessens w = (a b : List PlainComponent) → IsReduced a b → w b ≤ w a

pub log_append : (w : List PlainComponent → ℕ) (xs ys : List PlainEntry) → log_weight w (xs ++ ys) ≡ log_weight w xs + log_weight w ys
log_append w [] ys = omega arith
log_append w (x ∷ xs) ys = omega (arith, log_append w xs ys)

ops_append : (w : List PlainComponent → ℕ) (xs ys : List (List PlainComponent)) → ops_weight w (xs ++ ys) ≡ ops_weight w xs + ops_weight w ys
ops_append w [] ys = omega arith
ops_append w (x ∷ xs) ys = omega (arith, ops_append w xs ys)

ops_lessen : (w : List PlainComponent → ℕ) (xs bs : List (List PlainComponent)) → Lessens w → AreReduced xs bs → ops_weight w bs ≤ ops_weight w xs
ops_lessen w [] [] l r = omega arith
ops_lessen w [] (b ∷ bs) l r = absurd r
ops_lessen w (a ∷ xs) [] l r = absurd r
ops_lessen w (a ∷ xs) (b ∷ bs) l r = omega (arith, l a b r.0, ops_lessen w xs bs l r.1)

-- ---- sums over sources

module _ (f g : List ℕ → ℕ) (source : List ℕ) (others : (s : List ℕ) → bytes_eq source s ≡ false → g s ≤ f s) where
  sum_of_others : (sources : List (List ℕ)) → AreOthers source sources → sum_over g sources ≤ sum_over f sources
  sum_of_others [] o = omega arith
  sum_of_others (s ∷ sources) o = omega (arith, others s o.0, sum_of_others sources o.1)

  rise_at : (a : ℕ) (s : List ℕ) (sources : List (List ℕ)) (b : Bool) → bytes_eq source s ≡ b → g source ≤ f source + a → AreOthers s sources
      → sum_over g sources ≤ sum_over f sources + a → sum_over g (s ∷ sources) ≤ sum_over f (s ∷ sources) + a
  rise_at a s sources true is h o below =
      let same = same_source source s is in
      omega (arith, h, ap f same, ap g same, sum_of_others sources (subst (λ x. AreOthers x sources) (sym same) o))
  rise_at a s sources false is h o below = omega (arith, others s is, below)

  -- the value of the source rises by at most a
  sum_rise : (a : ℕ) (sources : List (List ℕ)) → g source ≤ f source + a → AreDistinct sources → sum_over g sources ≤ sum_over f sources + a
  sum_rise a [] h d = omega arith
  sum_rise a (s ∷ sources) h d = rise_at a s sources (bytes_eq source s) refl h d.0 (sum_rise a sources h d.1)

  -- the sum falls by a, or the source isn't among them
  abbrev Falls : ℕ → List (List ℕ) → Type 0
  Falls a sources = (sum_over g sources + a ≤ sum_over f sources) ⊎ (AreOthers source sources × (sum_over g sources ≤ sum_over f sources))

  fall_below : (a : ℕ) (s : List ℕ) (sources : List (List ℕ)) → bytes_eq source s ≡ false → Falls a sources → Falls a (s ∷ sources)
  fall_below a s sources is (inl h) = inl (omega (arith, h, others s is))
  fall_below a s sources is (inr h) = inr ((is, h.0), omega (arith, h.1, others s is))

  fall_at : (a : ℕ) (s : List ℕ) (sources : List (List ℕ)) (b : Bool) → bytes_eq source s ≡ b → g source + a ≤ f source → AreOthers s sources → Falls a sources → Falls a (s ∷ sources)
  fall_at a s sources true is h o below =
      let same = same_source source s is in
      inl (omega (arith, h, ap f same, ap g same, sum_of_others sources (subst (λ x. AreOthers x sources) (sym same) o)))
  fall_at a s sources false is h o below = fall_below a s sources is below

  sum_fall : (a : ℕ) (sources : List (List ℕ)) → g source + a ≤ f source → AreDistinct sources → Falls a sources
  sum_fall a [] h d = inr (tt, omega arith)
  sum_fall a (s ∷ sources) h d = fall_at a s sources (bytes_eq source s) refl h d.0 (sum_fall a sources h d.1)

-- ---- one client is changed

same_client : (clients : List ℕ → Client) (source : List ℕ) (c : Client) → with_client clients source c source ≡ c
same_client clients source c = ap (λ b. cond b c (clients source)) ((bytes_eq-Decides source source).1 refl)

pub within_changed : (w : List PlainComponent → ℕ) (n a : ℕ) (s new : SharedDocument) (source : List ℕ) (c : Client) → new.log ≡ s.log → new.clients ≡ with_client s.clients source c
    → unstored_weight w s.log source c ≤ unstored_weight w s.log source (s.clients source) + a → IsWithin w n s → IsWithin w (n + a) new
within_changed w n a s new source c same changed h k sources d =
    let f = λ (x : List ℕ). unstored_weight w s.log x (s.clients x) in
    let g = λ (x : List ℕ). unstored_weight w s.log x (with_client s.clients source c x) in
    let here = ap (unstored_weight w s.log source) (same_client s.clients source c) in
    let rise = sum_rise f g source (λ x differs. omega (arith, ap (λ b. unstored_weight w s.log x (cond b c (s.clients x))) differs)) a sources (omega (arith, here, h)) d in
    let is = ap (λ l. log_weight w l + sum_over (λ x. unstored_weight w l x (new.clients x)) sources) same ∙ ap (λ (cl : List ℕ → Client). log_weight w s.log + sum_over (λ x. unstored_weight w s.log x (cl x)) sources) changed in
    omega (arith, is, rise, k sources d)

-- ---- an entry is appended

cond_lessens : (b c : Bool) (n : ℕ) → (b ≡ true → c ≡ true) → cond c 0 n ≤ cond b 0 n
cond_lessens b true n h = omega arith
cond_lessens false false n h = omega arith
cond_lessens true false n h = let bad = h refl in cc

sent_append : (w : List PlainComponent → ℕ) (log : List PlainEntry) (e : PlainEntry) (source : List ℕ) (o : Option SentEdit) → sent_weight w (log ++ e ∷ []) source o ≤ sent_weight w log source o
sent_append w log e source None = omega arith
sent_append w log e source (Some t) =
    cond_lessens (is_some (stored_at source t.seq log)) (is_some (stored_at source t.seq (log ++ e ∷ []))) (w t.operation) (stored_append log e source t.seq)

stored_last : (es : List PlainEntry) (e : PlainEntry) (s : List ℕ) (n : ℕ) → has_identifier s n e ≡ true → is_some (stored_at s n (es ++ e ∷ [])) ≡ true
stored_last [] e s n is = ap (λ b. is_some {T = ℕ} (cond b (Some 0) None)) is
stored_last (x ∷ es) e s n is = later (has_identifier s n x) (stored_at s n (es ++ e ∷ [])) (stored_last es e s n is)
  where
    later : (b : Bool) (o : Option ℕ) → is_some o ≡ true → is_some (cond b (Some 0) (option_map (λ i. i + 1) o)) ≡ true
    later true o h = refl
    later false None h = cc
    later false (Some i) h = refl

pub within_appended : (w : List PlainComponent → ℕ) (n : ℕ) (s : SharedDocument) (source : List ℕ) (t : SentEdit) (e : PlainEntry) → (s.clients source).sent ≡ Some t → stored_at source t.seq s.log ≡ None
    → has_identifier source t.seq e ≡ true → e.arrived.content ≡ edit t.operation → IsWithin w n s → IsWithin w n (record { log = s.log ++ e ∷ []; clients = s.clients; submitted = s.submitted })
within_appended w n s source t e sent none own content k sources d = at (sum_fall f g source others (w t.operation) sources falls d)
  where
    f : List ℕ → ℕ
    f x = unstored_weight w s.log x (s.clients x)

    g : List ℕ → ℕ
    g x = unstored_weight w (s.log ++ e ∷ []) x (s.clients x)

    others : (x : List ℕ) → bytes_eq source x ≡ false → g x ≤ f x
    others x differs = omega (arith, sent_append w s.log e x (s.clients x).sent)

    here : sent_weight w (s.log ++ e ∷ []) source (s.clients source).sent ≡ 0
    here = ap (sent_weight w (s.log ++ e ∷ []) source) sent ∙ ap (λ b. cond b 0 (w t.operation)) (stored_last s.log e source t.seq own)

    before : sent_weight w s.log source (s.clients source).sent ≡ w t.operation
    before = ap (sent_weight w s.log source) sent ∙ ap (λ o. cond (is_some o) 0 (w t.operation)) none

    falls : g source + w t.operation ≤ f source
    falls = omega (arith, here, before)

    weight : content_weight w e.arrived.content ≡ w t.operation
    weight = ap (content_weight w) content

    same_here : g source ≤ f source
    same_here = omega (arith, falls)

    at : (sum_over g sources + w t.operation ≤ sum_over f sources) ⊎ (AreOthers source sources × (sum_over g sources ≤ sum_over f sources)) → log_weight w (s.log ++ e ∷ []) + sum_over g sources ≤ n
    at (inl h) = omega (arith, h, k sources d, log_append w s.log (e ∷ []), weight)
    at (inr h) = omega (arith, h.1, falls, k (source ∷ sources) (h.0, d), log_append w s.log (e ∷ []), weight)

-- ---- one client's edits

queue_push : (w : List PlainComponent → ℕ) (o : Option SentEdit) (ops : List (List PlainComponent)) (op : List PlainComponent) → ops_weight w (queue_after o (ops ++ op ∷ [])) ≤ ops_weight w (queue_after o ops) + w op
queue_push w None ops op = omega (arith, ops_append w ops (op ∷ []))
queue_push w (Some t) [] op = omega arith
queue_push w (Some t) (p ∷ ops) op = omega (arith, ops_append w ops (op ∷ []))

pub unstored_edit : (w : List PlainComponent → ℕ) (log : List PlainEntry) (source : List ℕ) (c : Client) (op : List PlainComponent) → unstored_weight w log source (after_edit op c) ≤ unstored_weight w log source c + w op
unstored_edit w log source c op = omega (arith, queue_push w c.sent c.pending op)

cond_at_most : (b : Bool) (n : ℕ) → cond b 0 n ≤ n
cond_at_most true n = omega arith
cond_at_most false n = omega arith

pub unstored_send : (w : List PlainComponent → ℕ) (log : List PlainEntry) (source : List ℕ) (c : Client) (op : List PlainComponent) (rest : List (List PlainComponent)) → c.sent ≡ None → c.pending ≡ op ∷ rest
    → unstored_weight w log source (after_send op c) ≤ unstored_weight w log source c + 0
unstored_send w log source c op rest none first =
    let old = ap (λ o. ops_weight w (queue_after o c.pending)) none ∙ ap (ops_weight w) first in
    let new = ap (λ ops. ops_weight w (queue_after (Some (next_sent c op)) ops)) first in
    omega (arith, old, new, cond_at_most (is_some (stored_at source c.next_seq log)) (w op))

queue_lessens : (w : List PlainComponent → ℕ) (o : Option SentEdit) (xs bs : List (List PlainComponent)) → Lessens w → AreReduced xs bs → ops_weight w (queue_after o bs) ≤ ops_weight w (queue_after o xs)
queue_lessens w None xs bs l r = ops_lessen w xs bs l r
queue_lessens w (Some t) [] [] l r = omega arith
queue_lessens w (Some t) [] (b ∷ bs) l r = absurd r
queue_lessens w (Some t) (a ∷ xs) [] l r = absurd r
queue_lessens w (Some t) (a ∷ xs) (b ∷ bs) l r = ops_lessen w xs bs l r.1

pub unstored_processed : (w : List PlainComponent → ℕ) (log : List PlainEntry) (source : List ℕ) (e : PlainEntry) (old c : Client) → Lessens w → ProcessedOwn source e old c ⊎ ProcessedOther e old c
    → unstored_weight w log source c ≤ unstored_weight w log source old + 0
unstored_processed w log source e old c l (inl p) =
    let none = ap (sent_weight w log source) p.sent in
    let new = ap (λ o. ops_weight w (queue_after o c.pending)) p.sent ∙ ap (ops_weight w) p.pending in
    let queue = ap (λ o. ops_weight w (queue_after o old.pending)) p.sent_is ∙ ap (λ ops. ops_weight w (queue_after (Some p.sent_edit) ops)) p.first in
    omega (arith, none, new, queue)
unstored_processed w log source e old c l (inr p) =
    let same = ap (λ o. sent_weight w log source o + ops_weight w (queue_after o c.pending)) p.sent in
    omega (arith, same, queue_lessens w old.sent old.pending c.pending l p.pending)

-- ---- an entry and what is pending

entries_drop : (v : ℕ) (es : List PlainEntry) (s : List ℕ) (t : SentEdit) → AreEntriesOfSentEdit s t es → AreEntriesOfSentEdit s t (drop v es)
entries_drop zero es s t h = h
entries_drop (suc v) [] s t h = tt
entries_drop (suc v) (x ∷ es) s t h = entries_drop v es s t h.1

stored_rest : (b : Bool) (o : Option ℕ) → cond b (Some 0) (option_map (λ i. i + 1) o) ≡ None → (b ≡ false) × (o ≡ None)
stored_rest true o h = cc
stored_rest false None h = (refl, refl)
stored_rest false (Some i) h = cc

stored_below : (b : Bool) (o : Option ℕ) → b ≡ false → is_some (cond b (Some 0) (option_map (λ i. i + 1) o)) ≡ true → is_some o ≡ true
stored_below true o h k = cc
stored_below false None h k = cc
stored_below false (Some i) h k = refl

stored_drop : (v : ℕ) (es : List PlainEntry) (s : List ℕ) (n : ℕ) → stored_at s n (take v es) ≡ None → is_some (stored_at s n es) ≡ true → is_some (stored_at s n (drop v es)) ≡ true
stored_drop zero es s n none h = h
stored_drop (suc v) [] s n none h = h
stored_drop (suc v) (x ∷ es) s n none h =
    let r = stored_rest (has_identifier s n x) (stored_at s n (take v es)) none in
    stored_drop v es s n r.1 (stored_below (has_identifier s n x) (stored_at s n es) r.0 h)

-- a stored edit weighs at most what the entries weigh
stored_weight_at : (w : List PlainComponent → ℕ) (b : Bool) (s : List ℕ) (t : SentEdit) (e : PlainEntry) (es : List PlainEntry) → has_identifier s t.seq e ≡ b
    → (e.arrived.src ≡ s → e.arrived.seq ≡ t.seq → StoresSentEdit t e) → is_some (cond b (Some 0) (option_map (λ i. i + 1) (stored_at s t.seq es))) ≡ true
    → (is_some (stored_at s t.seq es) ≡ true → w t.operation ≤ log_weight w es) → w t.operation ≤ log_weight w (e ∷ es)
stored_weight_at w true s t e es own entry h below =
    let p = identifier_parts s t.seq e own in
    omega (arith, ap (content_weight w) (entry p.0 p.1).operation)
stored_weight_at w false s t e es own entry h below = omega (arith, below (stored_below false (stored_at s t.seq es) refl h))

stored_weight : (w : List PlainComponent → ℕ) (s : List ℕ) (t : SentEdit) (es : List PlainEntry) → AreEntriesOfSentEdit s t es → is_some (stored_at s t.seq es) ≡ true → w t.operation ≤ log_weight w es
stored_weight w s t [] h k = cc
stored_weight w s t (e ∷ es) h k = stored_weight_at w (has_identifier s t.seq e) s t e es refl h.0 k (stored_weight w s t es h.1)

module _ (w : List PlainComponent → ℕ) (n : ℕ) (s : SharedDocument) (source : List ℕ) (h : IsConsistent s) (k : IsWithin w n s)
    (lessens : (t : SentEdit) → (s.clients source).sent ≡ Some t → (r : IsSentEditOf s.log source (s.clients source) t) → w r.operation ≤ w t.operation) where
  abbrev c : Client
  c = s.clients source

  one : log_weight w s.log + (sent_weight w s.log source c.sent + ops_weight w (queued_edits c)) ≤ n
  one = omega (arith, k (source ∷ []) (tt, tt))

  module _ (e : PlainEntry) (later : List PlainEntry) (is : drop c.version s.log ≡ e ∷ later) (other : is_sent_edit source c.sent e ≡ false) where
    parts : log_weight w s.log ≡ log_weight w (take c.version s.log) + (content_weight w e.arrived.content + log_weight w later)
    parts = ap (log_weight w) (sym (take-append-drop c.version s.log)) ∙ log_append w (take c.version s.log) (drop c.version s.log) ∙ ap (λ l. log_weight w (take c.version s.log) + log_weight w l) is

    stored_later : (t : SentEdit) → c.sent ≡ Some t → IsSentEditOf s.log source c t → is_some (stored_at source t.seq s.log) ≡ true → w t.operation ≤ log_weight w later
    stored_later t sent r stored =
        let rest = subst (λ l. is_some (stored_at source t.seq l) ≡ true) is (stored_drop c.version s.log source t.seq r.not_processed stored) in
        let differs = sym (ap (λ o. is_sent_edit source o e) sent) ∙ other in
        let entries = subst (AreEntriesOfSentEdit source t) is (entries_drop c.version s.log source t r.entry) in
        stored_weight w source t later entries.1 (stored_below (has_identifier source t.seq e) (stored_at source t.seq later) differs rest)

    sent_at : (t : SentEdit) (b : Bool) → is_some (stored_at source t.seq s.log) ≡ b → c.sent ≡ Some t → IsSentEditOf s.log source c t
        → w t.operation + (log_weight w (take c.version s.log) + content_weight w e.arrived.content) ≤ log_weight w s.log + sent_weight w s.log source c.sent
    sent_at t true stored sent r = omega (arith, parts, stored_later t sent r stored)
    sent_at t false new sent r = omega (arith, parts, ap (sent_weight w s.log source) sent, ap (λ b. cond b 0 (w t.operation)) new)

    entry_for : (o : Option SentEdit) → c.sent ≡ o → IsSentOrNone s.log source c o → log_weight w (take c.version s.log) + content_weight w e.arrived.content + ops_weight w c.pending ≤ n
    entry_for None none r = omega (arith, one, parts, ap (λ x. ops_weight w (queue_after x c.pending)) none)
    entry_for (Some t) sent r =
        let queue = ap (λ x. ops_weight w (queue_after x c.pending)) sent ∙ ap (λ ops. ops_weight w (queue_after (Some t) ops)) r.first in
        omega (arith, one, sent_at t (is_some (stored_at source t.seq s.log)) refl sent r, queue, ap (ops_weight w) r.first, lessens t sent r)

    -- the entries up to another one's, and what is pending
    pub entry_and_pending : log_weight w (take c.version s.log) + content_weight w e.arrived.content + ops_weight w c.pending ≤ n
    entry_and_pending = entry_for c.sent refl (h.clients source).sent

-- ---- a submission that isn't stored

pub log_and_sent : (w : List PlainComponent → ℕ) (n : ℕ) (s : SharedDocument) (source : List ℕ) (t : SentEdit) → (s.clients source).sent ≡ Some t → stored_at source t.seq s.log ≡ None → IsWithin w n s
    → log_weight w s.log + w t.operation ≤ n
log_and_sent w n s source t sent none k =
    let here = ap (sent_weight w s.log source) sent ∙ ap (λ o. cond (is_some o) 0 (w t.operation)) none in
    omega (arith, k (source ∷ []) (tt, tt), here)
