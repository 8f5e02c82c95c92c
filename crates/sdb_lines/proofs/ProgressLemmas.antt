-- The progress of a run, and its end from there.
use Rattle.std.proofs.Common.{◌≡◌, ℕ, Bool, List, [], ◌++◌, Some, None, map, refl, ap, sym, ◌∙◌, subst, append_assoc, append-nil, arith, IfSome}
use Rattle.std.specs.declared.option.Option.{Option}
use Rattle.std.specs.Io.KnownBytes.{Appends, Consumes, IsAtEnd}
use Rattle.std.proofs.KnownBytes.{Consumes-trans, Consumes-whole}
use Rattle.std.proofs.lemmas.List.{length-map}
use Rattle.sdb_lines.specs.Lines.{readable_lines_from, readable_text, lines_of}
use Rattle.sdb_lines.specs.Chunks.{lines_ended_by, partial_line_after, kept_prefix}
use Rattle.sdb_lines.specs.Counts.{counts_after, AreCountsOf}
use Rattle.sdb_lines.specs.Prefixes.{AppendsPrefix}
use Rattle.sdb_lines.specs.Runs.{AppendsAnswers, AppendsAnswerPrefix}
use Rattle.sdb_lines.specs.declared.runner.Counts.{Counts}
use Rattle.sdb_lines.proofs.ChunkLemmas.{readings-input, readings-partial, counted-append}
use Rattle.sdb_lines.proofs.Runs.{first-written, first-prefix, all-prefix, lines-written, lines-written_prefix, prefix-lines}

Consumes-none : (a : Option (List ℕ)) → Consumes a a []
Consumes-none None = tt
Consumes-none (Some x) = refl

abbrev pub no_lines : Counts
no_lines = record { lines = 0; steps = 0 }

module _ {S : Type 0} (takes : S → Option (List ℕ) → List ℕ → S → Type 0) (is_step : List ℕ → Bool) where
  -- the bytes read, the lines that ended in them, and their answers and counts
  pub record RunProgress (left left' : Option (List ℕ)) (s t : S) (first : List ℕ) (old new : Option (List ℕ)) (counts : Counts) (partial : List ℕ) : Type 0 where
    pub read : List ℕ
    pub lines : List (Option (List ℕ))
    pub consumed : Consumes left left' read
    pub cut : (rest : List ℕ) → readable_lines_from (read ++ rest) [] ≡ lines ++ readable_lines_from rest partial
    pub counted : counts ≡ counts_after is_step no_lines lines
    pub answers : AppendsAnswers takes s lines t first old new

  pub progress-start : (left : Option (List ℕ)) (s : S) (first : List ℕ) (old new : Option (List ℕ)) (counts : Counts) (partial : List ℕ)
      → Appends old new first → partial ≡ [] → counts.lines ≡ 0 → counts.steps ≡ 0 → RunProgress left left s s first old new counts partial
  progress-start left s first old new counts partial w e lines steps =
      let none : ◌≡◌ {A = Counts} (record { lines = counts.lines; steps = counts.steps }) no_lines = cc (lines, steps) in
      record {
        read = [];
        lines = [];
        consumed = Consumes-none left;
        cut = λ rest. ap (readable_lines_from rest) (sym e);
        counted = none;
        answers = first-written takes s first old new w;
      }

  pub progress-step : {left left' : Option (List ℕ)} {s t u : S} {first : List ℕ} {old mid new : Option (List ℕ)} {counts : Counts} {partial : List ℕ}
      (left'' : Option (List ℕ)) (input : List ℕ) (counts' : Counts) (partial' : List ℕ)
      → RunProgress left left' s t first old mid counts partial → Consumes left' left'' input
      → partial' ≡ kept_prefix (partial_line_after input partial) → counts' ≡ counts_after is_step counts (lines_ended_by input partial)
      → AppendsAnswers takes t (lines_ended_by input partial) u [] mid new → RunProgress left left'' s u first old new counts' partial'
  progress-step {left} {left'} {partial = partial} left'' input counts' partial' w more h k a = record {
    read = w.read ++ input;
    lines = w.lines ++ lines_ended_by input partial;
    consumed = Consumes-trans left left' left'' w.read input w.consumed more;
    cut = λ rest.
        ap (λ l. readable_lines_from l []) (append_assoc w.read input rest) ∙ w.cut (input ++ rest)
        ∙ ap (λ l. w.lines ++ l) (readings-input input rest partial)
        ∙ ap (λ l. w.lines ++ (lines_ended_by input partial ++ l)) (sym (readings-partial rest (partial_line_after input partial)) ∙ ap (readable_lines_from rest) (sym h))
        ∙ sym (append_assoc w.lines (lines_ended_by input partial) (readable_lines_from rest partial'));
    counted = k ∙ ap (λ n. counts_after is_step n (lines_ended_by input partial)) w.counted ∙ counted-append is_step no_lines w.lines (lines_ended_by input partial);
    answers = lines-written takes w.answers a;
  }

  -- a property that holds for each rest of the input holds for the known input
  rest_arbitrary : (left left' : Option (List ℕ)) (read : List ℕ) (P : List ℕ → Type 0) → Consumes left left' read → ((rest : List ℕ) → P (read ++ rest)) → IfSome left P
  rest_arbitrary None left' read P c h = tt
  rest_arbitrary (Some xs) None read P c h = absurd c
  rest_arbitrary (Some xs) (Some ys) read P c h = subst P (sym c) (h ys)

  -- an error before the first read
  pub opening-prefix : (left : Option (List ℕ)) (s : S) (first : List ℕ) (old new : Option (List ℕ)) → AppendsPrefix old new first
      → IfSome left (λ input. AppendsAnswerPrefix takes s (map readable_text (lines_of input)) first old new)
  opening-prefix left s first old new w =
      rest_arbitrary left left [] (λ input. AppendsAnswerPrefix takes s (map readable_text (lines_of input)) first old new) (Consumes-none left) (λ rest. first-prefix takes s first old new (map readable_text (lines_of rest)) w)

  -- an error before the next chunk is read
  pub progress-prefix : {left left' : Option (List ℕ)} {s t : S} {first : List ℕ} {old new : Option (List ℕ)} {counts : Counts} {partial : List ℕ}
      → RunProgress left left' s t first old new counts partial → IfSome left (λ input. AppendsAnswerPrefix takes s (map readable_text (lines_of input)) first old new)
  progress-prefix {left} {left'} {s} {t} {first} {old} {new} {partial = partial} w =
      rest_arbitrary left left' w.read (λ input. AppendsAnswerPrefix takes s (map readable_text (lines_of input)) first old new) w.consumed (λ rest.
      subst (λ l. AppendsAnswerPrefix takes s l first old new) (sym (w.cut rest)) (prefix-lines takes (readable_lines_from rest partial) (all-prefix takes w.answers)))

  -- an error within a chunk
  pub progress-stop : {left left' : Option (List ℕ)} {s t : S} {first : List ℕ} {old mid new : Option (List ℕ)} {counts : Counts} {partial : List ℕ}
      (left'' : Option (List ℕ)) (input : List ℕ)
      → RunProgress left left' s t first old mid counts partial → Consumes left' left'' input → AppendsAnswerPrefix takes t (lines_ended_by input partial) [] mid new
      → IfSome left (λ input. AppendsAnswerPrefix takes s (map readable_text (lines_of input)) first old new)
  progress-stop {left} {left'} {s} {t} {first} {old} {mid} {new} {partial = partial} left'' input w more a =
      rest_arbitrary left left'' (w.read ++ input) (λ input. AppendsAnswerPrefix takes s (map readable_text (lines_of input)) first old new) (Consumes-trans left left' left'' w.read input w.consumed more) (λ rest.
      let e : readable_lines_from ((w.read ++ input) ++ rest) [] ≡ (w.lines ++ lines_ended_by input partial) ++ readable_lines_from rest (partial_line_after input partial) =
      ap (λ l. readable_lines_from l []) (append_assoc w.read input rest) ∙ w.cut (input ++ rest)
      ∙ ap (λ l. w.lines ++ l) (readings-input input rest partial)
      ∙ sym (append_assoc w.lines (lines_ended_by input partial) (readable_lines_from rest (partial_line_after input partial))) in
      subst (λ l. AppendsAnswerPrefix takes s l first old new) (sym e) (prefix-lines takes (readable_lines_from rest (partial_line_after input partial)) (lines-written_prefix takes w.answers a)))

  -- the end of the input
  module _ {left left' : Option (List ℕ)} {s t : S} {first : List ℕ} {old mid : Option (List ℕ)} {counts : Counts} {partial : List ℕ} (left'' : Option (List ℕ)) (none : List ℕ) (nothing : none ≡ [])
      (w : RunProgress left left' s t first old mid counts partial) (more : Consumes left' left'' none) (ends : IsAtEnd left'') where
    at-end : (P : List ℕ → Type 0) → P w.read → IfSome left P
    at-end P h =
        Consumes-whole left left'' (w.read ++ none) P (Consumes-trans left left' left'' w.read none w.consumed more) ends (subst P (sym (append-nil w.read) ∙ ap (λ l. w.read ++ l) (sym nothing)) h)

    readings_split : readable_lines_from w.read [] ≡ w.lines ++ readable_lines_from [] partial
    readings_split = ap (λ l. readable_lines_from l []) (sym (append-nil w.read)) ∙ w.cut []

    all-counted : counts_after is_step counts (readable_lines_from [] partial) ≡ counts_after is_step no_lines (map readable_text (lines_of w.read))
    all-counted =
        ap (λ n. counts_after is_step n (readable_lines_from [] partial)) w.counted ∙ counted-append is_step no_lines w.lines (readable_lines_from [] partial) ∙ ap (counts_after is_step no_lines) (sym readings_split)

    pub progress-whole : (u : S) (new : Option (List ℕ)) → AppendsAnswers takes t (readable_lines_from [] partial) u [] mid new
        → IfSome left (λ input. AppendsAnswers takes s (map readable_text (lines_of input)) u first old new)
    progress-whole u new a =
        at-end (λ input. AppendsAnswers takes s (map readable_text (lines_of input)) u first old new) (subst (λ l. AppendsAnswers takes s l u first old new) (sym readings_split) (lines-written takes w.answers a))

    pub progress-whole_prefix : (new : Option (List ℕ)) → AppendsAnswerPrefix takes t (readable_lines_from [] partial) [] mid new
        → IfSome left (λ input. AppendsAnswerPrefix takes s (map readable_text (lines_of input)) first old new)
    progress-whole_prefix new a =
        at-end (λ input. AppendsAnswerPrefix takes s (map readable_text (lines_of input)) first old new) (subst (λ l. AppendsAnswerPrefix takes s l first old new) (sym readings_split) (lines-written_prefix takes w.answers a))

    pub progress-counts : (counts' : Counts) → counts' ≡ counts_after is_step counts (readable_lines_from [] partial) → IfSome left (λ input. AreCountsOf is_step input counts')
    progress-counts counts' k =
        at-end (λ input. AreCountsOf is_step input counts')
        (record {
          lines = ap (λ n. n.lines) (k ∙ all-counted) ∙ omega (arith, length-map (lines_of w.read) readable_text);
          steps = ap (λ n. n.steps) (k ∙ all-counted) ∙ omega arith;
        })
