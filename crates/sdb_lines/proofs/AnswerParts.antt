-- An answer in the course of being appended and written.
use Rattle.std.proofs.Common.{◌≡◌, ℕ, Bool, true, false, List, [], ◌∷◌, ◌++◌, None, Result, Ok, Err, OnOk, IfOk, refl, sym, ap, ◌∙◌, subst, append_assoc, append-nil}
use Rattle.std.specs.declared.option.Option.{Option}
use Rattle.std.specs.Io.KnownBytes.{Appends}
use Rattle.std.proofs.KnownBytes.{Appends-trans}
use Rattle.sdb_lines.specs.Counts.{is_counted_step}
use Rattle.sdb_lines.specs.declared.line_handler.LineProgress.{LineProgress}
use Rattle.sdb_lines.specs.Prefixes.{AppendsPrefix, WroteUpTo}
use Rattle.sdb_lines.specs.Runs.{AppendsWhere, AnswersLine, AppendsAnswersUpTo, AppendsAnswerPrefix}
use Rattle.sdb_lines.proofs.Runs.{Appends-none, AppendsFront-on, AppendsFront-more, Run-one, prefix-refl}

module _ {S T : Type 0} (takes : S → Option (List ℕ) → List ℕ → S → Type 0) (is_answering : S → Option (List ℕ) → List ℕ → T → Type 0)
    (state : T → S) where
  -- the bytes of the answer so far, of which the first are written and the rest are pending
  pub record AnswersSoFar (done : Bool) (s : S) (line : Option (List ℕ)) (t : T) (first out : List ℕ) (old new : Option (List ℕ))
      : Type 0 where
    pub bytes : List ℕ
    pub written : List ℕ
    pub answers : AnswersLine takes is_answering state done s line bytes t
    pub parts : first ++ bytes ≡ written ++ out
    pub wrote : Appends old new written

  -- the first part is pending
  pub so_far-first : {done : Bool} {s : S} {line : Option (List ℕ)} {t : T} (first out : List ℕ) (old : Option (List ℕ))
      → AppendsWhere first out (λ bytes. AnswersLine takes is_answering state done s line bytes t)
      → AnswersSoFar done s line t first out old old
  so_far-first first out old (bytes, e, a) =
      record { bytes = bytes; written = []; answers = a; parts = sym e; wrote = Appends-none old }

  -- pending output is written
  pub so_far-written : {done : Bool} {s : S} {line : Option (List ℕ)} {t : T} {first out : List ℕ} {old mid : Option (List ℕ)}
      (left : List ℕ) (new : Option (List ℕ)) → AnswersSoFar done s line t first out old mid → WroteUpTo left mid new out
      → AnswersSoFar done s line t first left old new
  so_far-written {out = out} {old} {mid} left new a (more, e, w) = record {
    bytes = a.bytes;
    written = a.written ++ more;
    answers = a.answers;
    parts = a.parts ∙ ap (λ l. a.written ++ l) e ∙ sym (append_assoc a.written more left);
    wrote = Appends-trans old mid new a.written more a.wrote w;
  }

  -- the next part is appended
  pub so_far-more : {done : Bool} {s : S} {line : Option (List ℕ)} {t u : T} {first out : List ℕ} {old new : Option (List ℕ)} (out' : List ℕ)
      → AnswersSoFar false s line t first out old new
      → ((r : S) (l : Option (List ℕ)) (front : List ℕ) → is_answering r l front t
      → AppendsWhere out out' (λ bytes. AnswersLine takes is_answering state done r l (front ++ bytes) u))
      → AnswersSoFar done s line u first out' old new
  so_far-more {s = s} {line} {first = first} {out} out' a f =
      let (more, e, h) = f s line a.bytes a.answers.0 in
      record {
        bytes = a.bytes ++ more;
        written = a.written;
        answers = h;
        parts =
            sym (append_assoc first a.bytes more) ∙ ap (λ l. l ++ more) a.parts ∙ append_assoc a.written out more ∙ ap (λ l. a.written ++ l) (sym e);
        wrote = a.wrote;
      }

  -- what remains of the answer
  completion : (done : Bool) (s : S) (line : Option (List ℕ)) (bytes : List ℕ) (t : T) → AnswersLine takes is_answering state done s line bytes t
      → (rest : List ℕ) × (last : S) × takes s line (bytes ++ rest) last
  completion true s line bytes t a = ([], state t, subst (λ l. takes s line l (state t)) (sym (append-nil bytes)) a)
  completion false s line bytes t a = a.1

  -- a part of the pending output is written
  pub so_far-prefix : {done : Bool} {s : S} {line : Option (List ℕ)} {t : T} {first out : List ℕ} {old mid : Option (List ℕ)} (new : Option (List ℕ))
      → AnswersSoFar done s line t first out old mid → AppendsPrefix mid new out → AppendsAnswerPrefix takes s (line ∷ []) first old new
  so_far-prefix {done} {s} {line} {t} {first} {out} {old} {mid} new a w =
      let (rest, last, h) = completion done s line a.bytes t a.answers in
      record {
        taken = line ∷ [];
        bytes = a.bytes ++ rest;
        last = last;
        from_first = prefix-refl (line ∷ []);
        run = Run-one takes s last line (a.bytes ++ rest) h;
        wrote =
            subst (AppendsPrefix old new) (append_assoc first a.bytes rest)
            (AppendsFront-more old new (first ++ a.bytes) rest (subst (AppendsPrefix old new) (sym a.parts) (AppendsFront-on old mid new a.written out a.wrote w)));
      }

  -- none of the pending output is written
  pub so_far-only : {done : Bool} {s : S} {line : Option (List ℕ)} {t : T} {first out : List ℕ} {old new : Option (List ℕ)}
      → AnswersSoFar done s line t first out old new → AppendsAnswerPrefix takes s (line ∷ []) first old new
  so_far-only {out = out} {new = new} a = so_far-prefix new a ([], Appends-none new, (out, refl))

  -- the whole answer is appended
  pub so_far-done : {s : S} {line : Option (List ℕ)} {t : T} {first out : List ℕ} {old new : Option (List ℕ)}
      → AnswersSoFar true s line t first out old new → AppendsAnswersUpTo takes out s (line ∷ []) (state t) first old new
  so_far-done {s} {line} {t} a =
      record { bytes = a.bytes; written = a.written; run = Run-one takes s (state t) line a.bytes a.answers; parts = a.parts; wrote = a.wrote }

  -- the whole answer to an unreadable line is appended
  pub unreadable-answers : {E : Type 0} (r : Result LineProgress E) (s : S) (t : T) (line : Option (List ℕ)) (old new : List ℕ) → line ≡ None
      → OnOk r (AppendsWhere old new (λ bytes. takes s None bytes (state t))) → IfOk r (λ p. p ≡ record { is_step = false; is_done = true })
      → IfOk r (λ p. AppendsWhere old new (λ bytes. AnswersLine takes is_answering state p.is_done s line bytes t))
  unreadable-answers (Ok p) s t line old new e a is =
      subst (λ (q : LineProgress). AppendsWhere old new (λ bytes. AnswersLine takes is_answering state q.is_done s line bytes t)) (sym is)
      (subst (λ l. AppendsWhere old new (λ bytes. takes s l bytes (state t))) (sym e) a)
  unreadable-answers (Err x) s t line old new e a is = tt

-- an unreadable line is no step
pub unreadable-step : {E : Type 0} (r : Result LineProgress E) (is_step : List ℕ → Bool) (line : Option (List ℕ)) → line ≡ None
    → IfOk r (λ p. p ≡ record { is_step = false; is_done = true }) → IfOk r (λ p. p.is_step ≡ is_counted_step is_step line)
unreadable-step (Ok p) is_step line e is = ap (λ (q : LineProgress). q.is_step) is ∙ sym (ap (is_counted_step is_step) e)
unreadable-step (Err x) is_step line e is = tt
