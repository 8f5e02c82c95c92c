-- Chains of tries, one try at a time.
use Rattle.std.proofs.Common.{◌≡◌, ◌≢◌, ℕ, suc, true, Result, Ok, Err, IfOk, IfErr, OnErr, sym, ap, ◌∙◌, subst, inl, inr}
use Rattle.sdb_oplog.specs.Plain.{PlainSubmission}
use Rattle.sdb_oplog.specs.Decide.{PlainReply, refused}
use Rattle.sdb_oplog.specs.declared.codes.Code.TheVariants.{E10}
use Rattle.sdb_desk.specs.Machine.{PlainLook, PlainAttempt, decided, moved, work_allocates}
use Rattle.sdb_desk.specs.View.{plain_attempt}
use Rattle.sdb_desk.specs.declared.work.Attempt.{Attempt}
use Rattle.sdb_submit.specs.Calls.{commit, commit_now}
use Rattle.sdb_submit.specs.SubmitLoop.{CallRelation, SubmitRetries}

-- ---- the attempt, worked or not

abbrev pub attempt_of_result : Result PlainAttempt Attempt → PlainAttempt
attempt_of_result (Ok w) = w
attempt_of_result (Err a) = plain_attempt a

pub result_is : (r : Result PlainAttempt Attempt) (a : PlainAttempt) → IfOk r (λ w. w ≡ a) → IfErr r (λ t. plain_attempt t ≡ a) → attempt_of_result r ≡ a
result_is (Ok w) a ok err = ok
result_is (Err t) a ok err = err

pub result_allocates : (r : Result PlainAttempt Attempt) (a : PlainAttempt) → IfErr r (λ t. plain_attempt t ≡ a) → OnErr r (work_allocates a ≡ true) → OnErr r (work_allocates (attempt_of_result r) ≡ true)
result_allocates (Ok w) a err memory = tt
result_allocates (Err t) a err memory = ap work_allocates err ∙ memory

-- ---- tries

module _ {P : Type 0} (acts : CallRelation P) (s : PlainSubmission) (now : ℕ) where
  -- the remaining tries lead to this reply
  abbrev pub RetriesLeft : ℕ → PlainLook → P → PlainReply → P → Type 0
  RetriesLeft = SubmitRetries acts s now

  pub by_none : (n : ℕ) (l : PlainLook) (p q : P) (r : PlainReply) → n ≡ 0 → acts (commit_now s now) p r q → RetriesLeft n l p r q
  unfolding SubmitRetries
  by_none n l p q r e h = subst (λ (m : ℕ). SubmitRetries acts s now m l p r q) (sym e) h

  -- for an equal submission
  pub by_last : (n : ℕ) (l : PlainLook) (p q : P) (r : PlainReply) (x : PlainSubmission) → n ≡ 0 → x ≡ s → acts (commit_now x now) p r q → RetriesLeft n l p r q
  by_last n l p q r x e is h = by_none n l p q r e (subst (λ (y : PlainSubmission). acts (commit_now y now) p r q) is h)

  pub by_unworked : (n k : ℕ) (a : PlainAttempt) (p q : P) (r : PlainReply) → n ≡ suc k → a.submission ≡ s → work_allocates a ≡ true → acts (commit_now a.submission now) p r q → RetriesLeft n a.look p r q
  unfolding SubmitRetries
  by_unworked n k a p q r e is wants h =
      let done : (work_allocates (record { submission = s; look = a.look }) ≡ true) × acts (commit_now s now) p r q =
      subst (λ (x : PlainSubmission). (work_allocates (record { submission = x; look = a.look }) ≡ true) × acts (commit_now x now) p r q) is (wants, h) in
      subst (λ (m : ℕ). SubmitRetries acts s now m a.look p r q) (sym e) (inl done)

  pub by_decided : (n k : ℕ) (l : PlainLook) (a : PlainAttempt) (p q : P) (r : PlainReply) → n ≡ suc k → a ≡ record { submission = s; look = l } → acts (commit a now) p (decided r) q → r ≢ refused E10 → RetriesLeft n l p r q
  unfolding SubmitRetries
  by_decided n k l a p q r e is h isnt =
      subst (λ (m : ℕ). SubmitRetries acts s now m l p r q) (sym e) (inr (inl (subst (λ (a : PlainAttempt). acts (commit a now) p (decided r) q) is h, isnt)))

  pub by_out_of_memory : (n k : ℕ) (l : PlainLook) (a : PlainAttempt) (p o q : P) (r w : PlainReply) → n ≡ suc k → a ≡ record { submission = s; look = l } → acts (commit a now) p (decided w) o → w ≡ refused E10 → acts (commit_now s now) o r q → RetriesLeft n l p r q
  unfolding SubmitRetries
  by_out_of_memory n k l a p o q r w e is h wants last =
      let here : acts (commit (record { submission = s; look = l }) now) p (decided (refused E10)) o =
      subst (λ (v : PlainReply). acts (commit (record { submission = s; look = l }) now) p (decided v) o) wants (subst (λ (a : PlainAttempt). acts (commit a now) p (decided w) o) is h) in
      subst (λ (m : ℕ). SubmitRetries acts s now m l p r q) (sym e) (inr (inr (inl (o, (here, last)))))

  pub by_moved : (n k : ℕ) (l m : PlainLook) (a : PlainAttempt) (p o q : P) (r : PlainReply) → n ≡ suc k → a ≡ record { submission = s; look = l } → acts (commit a now) p (moved m) o → RetriesLeft k m o r q → RetriesLeft n l p r q
  unfolding SubmitRetries
  by_moved n k l m a p o q r e is h t =
      subst (λ (m : ℕ). SubmitRetries acts s now m l p r q) (sym e) (inr (inr (inr (m, (o, (subst (λ (a : PlainAttempt). acts (commit a now) p (moved m) o) is h, t))))))
