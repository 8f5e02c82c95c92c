-- The check of a text, continued with a part of it, and its end.
use Rattle.std.proofs.Common.{◌≡◌, ◌≢◌, ℕ, ◌+◌, ◌-◌, List, [], ◌∷◌, ◌++◌, Some, None, take, drop, length, All, refl, ap, sym, ◌∙◌, subst, append_assoc, append-nil, ne_eqb, IfSome}
use Rattle.std.specs.declared.option.Option.{Option}
use Rattle.std.specs.Prelude.{Ok}
use Rattle.std.specs.Io.KnownBytes.{Consumes, IsAtEnd}
use Rattle.std.proofs.KnownBytes.{Consumes-trans, Consumes-whole}
use Rattle.std.proofs.lemmas.List.{take_rest}
use Rattle.std.proofs.lemmas.List.Elements.{All-head, All-tail}
use Rattle.sdb_dump.specs.CheckerModel.{CheckerAtStage, AcceptedHasAll, accepted_logs}
use Rattle.sdb_dump.specs.LineSplit.{cons_line, split_lines, check_text}
use Rattle.sdb_dump.specs.DumpText.{PlainLine, log_of_lines}
use Rattle.sdb_dump.specs.Faults.{IsDumpFault, IsStageFault}
use Rattle.sdb_dump.specs.LogListing.{DumpText}
use Rattle.sdb_dump.specs.LogDumps.{AreDumpable}
use Rattle.sdb_dump.specs.CheckStages.{PlainStage, head, stage_after_line, stage_result, stages_result}
use Rattle.sdb_dump.specs.CheckText.{check_result_from, CheckContinues, AcceptsText}
use Rattle.sdb_dump.specs.WriteModel.{HasEntryCount}
use Rattle.sdb_dump.specs.declared.checker.CheckedDump.{CheckedDump}
use Rattle.sdb_dump.specs.declared.checker.Checker.{Checker}
use Rattle.sdb_dump.specs.declared.checker.DumpFault.{DumpFault}
use Rattle.sdb_dump.specs.declared.checker.DumpFault.TheVariants.{ReadFailed, OutOfMemory, WrongLine}
use Rattle.sdb_dump.proofs.ListingLemmas.{dumped_lines}
use Rattle.sdb_dump.proofs.CheckStageLemmas.{wrong_stays, staged_is}

-- the number of a wrong line is the result
pub wrong_line_is_answer : (f : DumpFault) (s : PlainStage) (l : List ℕ) (ls : List (List ℕ)) (rest : List ℕ) → IsStageFault f (stage_after_line s l) → IsDumpFault f (stages_result s (l ∷ ls) rest)
wrong_line_is_answer ReadFailed s l ls rest h = tt
wrong_line_is_answer OutOfMemory s l ls rest h = tt
wrong_line_is_answer (WrongLine n) s l ls rest h = ap (λ t. stages_result t ls rest) h ∙ wrong_stays n ls rest

-- bytes without a line feed extend the pending line
cut_plain : (input rest line_buffer : List ℕ) → All (λ x. x ≢ 10) input → split_lines line_buffer (input ++ rest) ≡ split_lines (line_buffer ++ input) rest
cut_plain [] rest line_buffer h = ap (λ p. split_lines p rest) (sym (append-nil line_buffer))
cut_plain (x ∷ xs) rest line_buffer h =
    rw (ne_eqb x 10 (All-head (λ x. x ≢ 10) x xs h)) (cut_plain xs rest (line_buffer ++ x ∷ []) (All-tail (λ x. x ≢ 10) x xs h) ∙ ap (λ p. split_lines p rest) (append_assoc line_buffer (x ∷ []) xs))

cut_line : (input rest line_buffer : List ℕ) → All (λ x. x ≢ 10) input → split_lines line_buffer (input ++ 10 ∷ rest) ≡ cons_line (line_buffer ++ input) (split_lines [] rest)
cut_line input rest line_buffer h = cut_plain input (10 ∷ rest) line_buffer h

-- a part without a line feed
pub answer_plain : (s : PlainStage) (input rest line_buffer : List ℕ) → All (λ x. x ≢ 10) input → check_result_from s line_buffer (input ++ rest) ≡ check_result_from s (line_buffer ++ input) rest
answer_plain s input rest line_buffer h = ap (λ c. stages_result s c.ended c.rest) (cut_plain input rest line_buffer h)

-- a part with its first line feed at an index
module _ (input partial : List ℕ) (at : ℕ) (plain : All (λ x. x ≢ 10) (take at input)) (e : input ≡ take at input ++ 10 ∷ drop (at + 1) input) where
  cut_at : (more : List ℕ) → split_lines partial (input ++ more) ≡ cons_line (partial ++ take at input) (split_lines [] (drop (at + 1) input ++ more))
  cut_at more =
      ap (λ l. split_lines partial (l ++ more)) e ∙ ap (split_lines partial) (append_assoc (take at input) (10 ∷ drop (at + 1) input) more)
      ∙ cut_line (take at input) (drop (at + 1) input ++ more) partial plain

  pub answer_line : (s : PlainStage) (partial' more : List ℕ) → partial' ≡ []
      → check_result_from s partial (input ++ more) ≡ check_result_from (stage_after_line s (partial ++ take at input)) partial' (take (length input - (at + 1)) (drop (at + 1) input) ++ more)
  answer_line s partial' more none =
      ap (λ c. stages_result s c.ended c.rest) (cut_at more)
      ∙ ap (λ l. check_result_from (stage_after_line s (partial ++ take at input)) [] (l ++ more)) (sym (take_rest input (at + 1)))
      ∙ ap (λ p. check_result_from (stage_after_line s (partial ++ take at input)) p (take (length input - (at + 1)) (drop (at + 1) input) ++ more)) (sym none)

  pub answer_wrong : (f : DumpFault) (s : PlainStage) (more : List ℕ) → IsStageFault f (stage_after_line s (partial ++ take at input)) → IsDumpFault f (check_result_from s partial (input ++ more))
  answer_wrong f s more h =
      let c = split_lines [] (drop (at + 1) input ++ more) in
      subst (IsDumpFault f) (sym (ap (λ c. stages_result s c.ended c.rest) (cut_at more))) (wrong_line_is_answer f s (partial ++ take at input) c.ended c.rest h)

-- ---- the accepted dump

accepts_of_check : (d : CheckedDump) (text : List ℕ) (xs : List PlainLine) → check_text text ≡ Ok xs → AcceptedHasAll d xs → AcceptsText d text
accepts_of_check d text xs e h =
    let w = dumped_lines text xs e h.fits in
    let same : log_of_lines xs ≡ accepted_logs d = λ i k. sym (h.logs k) i in
    record {
      text = subst (λ f. DumpText f text) same w.0;
      dumped = subst AreDumpable same w.1;
      documents = h.documents;
      entries = subst (λ f. HasEntryCount f d.entries) same (subst (HasEntryCount (log_of_lines xs)) (sym h.counted) w.2);
    }

-- ---- the progress of a run

Consumes-none : (a : Option (List ℕ)) → Consumes a a []
Consumes-none None = tt
Consumes-none (Some x) = refl

-- the input read, and the stage after it
pub record CheckRun (left left' : Option (List ℕ)) (c : Checker) (partial : List ℕ) : Type 0 where
  pub read : List ℕ
  pub consumed : Consumes left left' read
  pub stage : PlainStage
  pub checks : CheckerAtStage c stage
  pub goes_on : (rest : List ℕ) → check_result_from head [] (read ++ rest) ≡ check_result_from stage partial rest

pub check_run_start : (left : Option (List ℕ)) (c : Checker) (partial : List ℕ) → CheckerAtStage c head → partial ≡ [] → CheckRun left left c partial
check_run_start left c partial h none = record {
  read = [];
  consumed = Consumes-none left;
  stage = head;
  checks = h;
  goes_on = λ rest. ap (λ p. check_result_from head p rest) (sym none);
}

pub check_run_step : {left left' : Option (List ℕ)} {c d : Checker} {partial partial' : List ℕ} (left'' : Option (List ℕ)) (input : List ℕ)
    → CheckRun left left' c partial → Consumes left' left'' input → ((s : PlainStage) → CheckerAtStage c s → CheckContinues s partial input d partial') → CheckRun left left'' d partial'
check_run_step {left} {left'} {c} {d} {partial} {partial'} left'' input w more on =
    let next = on w.stage w.checks in
    record {
      read = w.read ++ input;
      consumed = Consumes-trans left left' left'' w.read input w.consumed more;
      stage = next.0;
      checks = next.1;
      goes_on = λ rest. ap (check_result_from head []) (append_assoc w.read input rest) ∙ w.goes_on (input ++ rest) ∙ next.2 rest;
    }

-- for any remaining input
rest_arbitrary : (left left' : Option (List ℕ)) (read : List ℕ) (P : List ℕ → Type 0) → Consumes left left' read → ((rest : List ℕ) → P (read ++ rest)) → IfSome left P
rest_arbitrary None left' read P c h = tt
rest_arbitrary (Some xs) None read P c h = absurd c
rest_arbitrary (Some xs) (Some ys) read P c h = subst P (sym c) (h ys)

checked_text : (text : List ℕ) → check_result_from head [] text ≡ check_text text
checked_text text = staged_is (split_lines [] text).ended (split_lines [] text).rest

-- a fault within a part
pub check_run_wrong : {left left' : Option (List ℕ)} {c : Checker} {partial : List ℕ} (left'' : Option (List ℕ)) (input : List ℕ) (f : DumpFault)
    → CheckRun left left' c partial → Consumes left' left'' input
    → ((s : PlainStage) → CheckerAtStage c s → (rest : List ℕ) → IsDumpFault f (check_result_from s partial (input ++ rest)))
    → IfSome left (λ text. IsDumpFault f (check_text text))
check_run_wrong {left} {left'} {c} {partial} left'' input f w more bad =
    rest_arbitrary left left'' (w.read ++ input) (λ text. IsDumpFault f (check_text text)) (Consumes-trans left left' left'' w.read input w.consumed more) (λ rest.
    let e : check_result_from head [] ((w.read ++ input) ++ rest) ≡ check_result_from w.stage partial (input ++ rest) = ap (check_result_from head []) (append_assoc w.read input rest) ∙ w.goes_on (input ++ rest) in
    subst (IsDumpFault f) (sym e ∙ checked_text ((w.read ++ input) ++ rest)) (bad w.stage w.checks rest))

-- the end of the input
module _ {left left' : Option (List ℕ)} {c : Checker} {partial : List ℕ} (left'' : Option (List ℕ)) (none : List ℕ) (nothing : none ≡ [])
    (w : CheckRun left left' c partial) (more : Consumes left' left'' none) (ends : IsAtEnd left'') where
  at_end : (P : List ℕ → Type 0) → P w.read → IfSome left P
  at_end P h =
      Consumes-whole left left'' (w.read ++ none) P (Consumes-trans left left' left'' w.read none w.consumed more) ends (subst P (sym (append-nil w.read) ∙ ap (λ l. w.read ++ l) (sym nothing)) h)

  stage_result_is_check : stage_result w.stage partial ≡ check_text w.read
  stage_result_is_check = sym (w.goes_on []) ∙ ap (check_result_from head []) (append-nil w.read) ∙ checked_text w.read

  pub check_run_accepted : (d : CheckedDump) → ((s : PlainStage) → CheckerAtStage c s → (xs : _) × (stage_result s partial ≡ Ok xs) × AcceptedHasAll d xs) → IfSome left (λ text. AcceptsText d text)
  check_run_accepted d h =
      let a = h w.stage w.checks in
      at_end (λ text. AcceptsText d text) (accepts_of_check d w.read a.0 (sym stage_result_is_check ∙ a.1) a.2)

  pub check_run_refused : (f : DumpFault) → ((s : PlainStage) → CheckerAtStage c s → IsDumpFault f (stage_result s partial)) → IfSome left (λ text. IsDumpFault f (check_text text))
  check_run_refused f h = at_end (λ text. IsDumpFault f (check_text text)) (subst (IsDumpFault f) stage_result_is_check (h w.stage w.checks))
