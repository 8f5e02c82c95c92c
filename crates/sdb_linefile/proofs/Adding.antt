-- The lines that a group adds.
use Rattle.std.proofs.Common.{◌≡◌, inl, inr, ℕ, ◌+◌, List, [], ◌∷◌, ◌++◌, IsTrue, true, false, Result, Ok, Err, OnOk, OnErr, IfErr, map, take, length, suc, ◌<◌, Vec, Global, arith, refl, sym, ap, subst, ◌∙◌, append-nil}
use Rattle.std.proofs.lemmas.List.{append_assoc, map-append}
use Rattle.std.proofs.Math.Seq.{take-suc}
use Rattle.std.proofs.Math.ListN.{get_or}
use Rattle.sqlite_value.specs.declared.value.Value.TheVariants.{Blob as Bytes}
use Rattle.sqlite_trees.specs.Tree.{Trees}
use Rattle.sqlite_value.specs.Order.{Row}
use Rattle.sqlite.specs.Effect.{Database, IsDatabase}
use Rattle.sqlite.specs.declared.error.Error.{Error}
use Rattle.sqlite.specs.State.{State, Shows, ExecutesInside, IsRolledBack, KeepsCommit}
use Rattle.sqlite.specs.Steps.{FailsToCommit}
use Rattle.sdb_linefile.specs.LineTable.{ShowsLines, Added}
use Rattle.sdb_linefile.specs.LineFile.{StoresLines}
use Rattle.sdb_linefile.proofs.Statements.{insert_text, stores, writes, contains_now}

pub puts : (old new : State) (line : List ℕ) (r : Result ℕ Error) → ExecutesInside 0 insert_text (Bytes line ∷ []) old new r → OnOk r (Added (line ∷ []) old new)
puts old new line (Err e) h = tt
puts old new line (Ok n) h = record {
  inside = h.1.mode;
  now = stores old new line (Ok n) h.0;
  sound = λ before has _. (writes old new line before n has h.0).sound;
  committed = h.1.committed_is;
}

pub added_none : (s : State) → IsTrue s.in_transaction → Added [] s s
added_none s inside = record {
  inside = inside;
  now = λ before has. subst (λ ls. ShowsLines ls s.now) (sym (append-nil before)) has;
  sound = λ before has it. it;
  committed = refl;
}

pub added_then : (xs ys : List (List ℕ)) (a b c : State) → Added xs a b → Added ys b c → Added (xs ++ ys) a c
added_then xs ys a b c p q = record {
  inside = q.inside;
  now = λ before has. subst (λ ls. ShowsLines ls c.now) (append_assoc before xs ys) (q.now (before ++ xs) (p.now before has));
  sound = λ before has it. q.sound (before ++ xs) (p.now before has) (p.sound before has it);
  committed = q.committed ∙ p.committed;
}

pub keeps_commit : (sql : List ℕ) (params : Row) (old new : State) (r : Result ℕ Error) → ExecutesInside 0 sql params old new r → KeepsCommit old new
keeps_commit sql params old new (Ok n) h = record { was_open = λ _. h.1.was_open; committed = λ _. h.1.committed_is }
keeps_commit sql params old new (Err e) (inl h) = elim h.1 [
  | inl same ↦ record { was_open = λ _. same.0.was_open; committed = λ _. same.0.committed_is }
  | inr back ↦ record { was_open = back.was_open; committed = λ is_open. (back.undone is_open).1 }
]
keeps_commit sql params old new (Err e) (inr h) = record { was_open = λ _. h.2.0.was_open; committed = λ _. h.2.0.committed_is }

pub keeps_then : (a b c : State) → KeepsCommit a b → KeepsCommit b c → KeepsCommit a c
keeps_then a b c p q = record {
  was_open = λ is_open. p.was_open (q.was_open is_open);
  committed = λ is_open. q.committed is_open ∙ p.committed (q.was_open is_open);
}

-- after a rollback the connection reads the lines that it read before the transaction, and each crash leaves them
pub stores_back : (before : List (List ℕ)) (old mid new : State) → (IsTrue old.is_open → old.now ≡ old.committed) → KeepsCommit (record old { in_transaction = true }) mid → IsRolledBack mid new → IsTrue new.is_open
    → IsDatabase old.now → ((db : Trees) → new.may_leave db → db ≡ new.committed.trees) → StoresLines before old → StoresLines before new
stores_back before old mid new settled kept back is_open sound leaves has =
    let was = back.was_open is_open in
    let first : old.now ≡ old.committed = settled (kept.was_open was) in
    let now : new.now ≡ old.now = (back.undone is_open).0 ∙ kept.committed was ∙ sym first in
    let committed : new.committed ≡ old.now = (back.undone is_open).1 ∙ kept.committed was ∙ sym first in
    record {
      is_open = is_open;
      now = subst (ShowsLines before) (sym now) has.now;
      crash = λ db may. contains_now before old.now db has.now sound (leaves db may ∙ ap (λ (d : Database). d.trees) committed);
    }

-- after a commit the connection reads the lines of the group after the others, and each crash leaves them
pub stores_group : (group before : List (List ℕ)) (old mid new : State) → Added group (record old { in_transaction = true }) mid → Shows mid new mid.now mid.now false
    → IsDatabase old.now → ((db : Trees) → new.may_leave db → db ≡ new.committed.trees) → StoresLines before old → StoresLines (before ++ group) new
stores_group group before old mid new added done sound leaves has =
    let now = added.now before has.now in
    record {
      is_open = done.is_open;
      now = subst (ShowsLines (before ++ group)) (sym done.now_is) now;
      crash = λ db may. contains_now (before ++ group) mid.now db now (added.sound before has.now sound) (leaves db may ∙ ap (λ (d : Database). d.trees) done.committed_is);
    }

pub fails_back : (lines : List (List ℕ)) (old mid new : State) (e : Error) → Added lines old mid → FailsToCommit mid new e → IsRolledBack mid new
fails_back lines old mid new e added (inl failed) = failed.3
fails_back lines old mid new e added (inr none) = let f = sym added.inside ∙ none.1 in absurd cc

pub front_more : (vs : List (Vec ℕ Global)) (i : ℕ) (v : Vec ℕ Global) (b : List ℕ) → i < length vs → v ≡ get_or vs i v → b ≡ v.items
    → map (λ w. w.items) (take i vs) ++ b ∷ [] ≡ map (λ w. w.items) (take (i + 1) vs)
front_more vs i v b low is items =
    let next : take (suc i) vs ≡ take i vs ++ get_or vs i v ∷ [] = take-suc vs i v low in
    let number : suc i ≡ i + 1 = omega arith in
    ap (λ x. map (λ w. w.items) (take i vs) ++ x ∷ []) (items ∙ ap (λ w. w.items) is)
    ∙ sym (map-append (λ w. w.items) (take i vs) (get_or vs i v ∷ [])) ∙ ap (map (λ w. w.items)) (sym next ∙ ap (λ k. take k vs) number)

pub err_then : {A E : Type 0} (r : Result A E) {P : E → Type 0} {Q : Type 0} → ((e : E) → P e → Q) → IfErr r P → OnErr r Q
err_then (Ok x) f h = tt
err_then (Err e) f h = f e h

pub ok_after : {A E : Type 0} (r : Result A E) {P Q : Type 0} → (P → Q) → OnOk r P → OnOk r Q
ok_after (Ok x) f h = f h
ok_after (Err e) f h = tt

pub on_err : {A E X : Type 0} (r : Result A E) → X → OnErr r X
on_err (Ok x) h = tt
on_err (Err e) h = h
