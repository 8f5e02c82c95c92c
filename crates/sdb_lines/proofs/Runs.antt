-- The concatenation of runs, and their known output.
use Rattle.std.proofs.Common.{◌≡◌, ℕ, List, [], ◌∷◌, ◌++◌, None, Some, refl, ap, sym, ◌∙◌, subst, append_assoc, append-nil}
use Rattle.std.specs.declared.option.Option.{Option}
use Rattle.std.specs.Io.KnownBytes.{Appends, Keeps}
use Rattle.std.proofs.KnownBytes.{Appends-trans}
use Rattle.sdb_lines.specs.Prefixes.{IsPrefix, AppendsPrefix}
use Rattle.sdb_lines.specs.Runs.{AppendsWhere, Handles, AppendsAnswers, AppendsAnswersUpTo, AppendsAnswerPrefix}

pub Appends-none : (a : Option (List ℕ)) → Appends a a []
Appends-none None = tt
Appends-none (Some x) = sym (append-nil x)

pub Appends-unchanged : (a b c : Option (List ℕ)) (bs : List ℕ) → Appends a b bs → Keeps b c → Appends a c bs
Appends-unchanged None b c bs p q = tt
Appends-unchanged (Some x) None c bs p q = absurd p
Appends-unchanged (Some x) (Some y) None bs p q = absurd q
Appends-unchanged (Some x) (Some y) (Some z) bs p q = q ∙ p

pub prefix-refl : {A : Type 0} (l : List A) → IsPrefix l l
prefix-refl l = ([], sym (append-nil l))

pub prefix-trans : {A : Type 0} (a b c : List A) → IsPrefix b c → IsPrefix (a ++ b) (a ++ c)
prefix-trans a b c (after, e) = (after, ap (λ l. a ++ l) e ∙ sym (append_assoc a b after))

pub prefix-append : {A : Type 0} (a b c : List A) → IsPrefix a b → IsPrefix a (b ++ c)
prefix-append a b c (after, e) = (after ++ c, ap (λ l. l ++ c) e ∙ append_assoc a after c)

-- a prefix of a list is a prefix of its extension
pub AppendsFront-more : (a b : Option (List ℕ)) (all more : List ℕ) → AppendsPrefix a b all → AppendsPrefix a b (all ++ more)
AppendsFront-more a b all more (bytes, w, f) = (bytes, w, prefix-append bytes all more f)

pub AppendsFront-on : (a b c : Option (List ℕ)) (written all : List ℕ) → Appends a b written → AppendsPrefix b c all → AppendsPrefix a c (written ++ all)
AppendsFront-on a b c written all w (bytes, v, f) = (written ++ bytes, Appends-trans a b c written bytes w v, prefix-trans written bytes all f)

-- the concatenated output of two runs, split at the bytes written
append_regroup : (first x y written out : List ℕ) → first ++ x ≡ written ++ out → first ++ (x ++ y) ≡ written ++ (out ++ y)
append_regroup first x y written out e = sym (append_assoc first x y) ∙ ap (λ l. l ++ y) e ∙ append_assoc written out y

module _ {S : Type 0} (takes : S → Option (List ℕ) → List ℕ → S → Type 0) where
  pub Run-append : (s t u : S) (a b : List (Option (List ℕ))) (x y : List ℕ) → Handles takes s a x t → Handles takes t b y u → Handles takes s (a ++ b) (x ++ y) u
  Run-append s t u [] b x y (e, k) r = subst (λ l. Handles takes s b (l ++ y) u) (sym e) (subst (λ m. Handles takes m b y u) k r)
  Run-append s t u (line ∷ a) b x y (answer, next, more, h, rest, e) r =
      (answer, next, more ++ y, h, Run-append next t u a b more y rest r, ap (λ l. l ++ y) e ∙ append_assoc answer more y)

  -- the run of no line
  pub Run-none : (s : S) → Handles takes s [] [] s
  Run-none s = (refl, refl)

  -- the run of one line
  pub Run-one : (s t : S) (line : Option (List ℕ)) (answer : List ℕ) → takes s line answer t → Handles takes s (line ∷ []) answer t
  Run-one s t line answer h = (answer, t, [], h, (refl, refl), sym (append-nil answer))

  -- the run that has taken no line and written no byte
  pub nothing-written : (s : S) (first : List ℕ) (old : Option (List ℕ)) (lines : List (Option (List ℕ))) → AppendsAnswerPrefix takes s lines first old old
  nothing-written s first old lines = record {
    taken = [];
    bytes = [];
    last = s;
    from_first = (lines, refl);
    run = Run-none s;
    wrote = ([], Appends-none old, (first ++ [], refl));
  }

  -- the run that has written the opening text and taken no line
  pub first-written : (s : S) (first : List ℕ) (old new : Option (List ℕ)) → Appends old new first → AppendsAnswers takes s [] s first old new
  first-written s first old new w = record { bytes = []; run = Run-none s; wrote = subst (Appends old new) (sym (append-nil first)) w }

  pub first-prefix : (s : S) (first : List ℕ) (old new : Option (List ℕ)) (lines : List (Option (List ℕ))) → AppendsPrefix old new first → AppendsAnswerPrefix takes s lines first old new
  first-prefix s first old new lines w =
      record { taken = []; bytes = []; last = s; from_first = (lines, refl); run = Run-none s; wrote = AppendsFront-more old new first [] w }

  -- the answer to a line is pending
  pub line-line_buffer : {s t : S} {line : Option (List ℕ)} (first line_buffer : List ℕ) (old : Option (List ℕ)) → AppendsWhere first line_buffer (λ answer. takes s line answer t) → AppendsAnswersUpTo takes line_buffer s (line ∷ []) t first old old
  line-line_buffer {s} {t} {line} first line_buffer old (answer, e, h) = record { bytes = answer; written = []; run = Run-one s t line answer h; parts = sym e; wrote = Appends-none old }

  -- the pending output is written
  pub line_buffer-written : {s t : S} {lines : List (Option (List ℕ))} {first line_buffer : List ℕ} {old mid : Option (List ℕ)} (new : Option (List ℕ)) → AppendsAnswersUpTo takes line_buffer s lines t first old mid → Appends mid new line_buffer → AppendsAnswers takes s lines t first old new
  line_buffer-written {line_buffer = line_buffer} {old} {mid} new a v =
      record { bytes = a.bytes; run = a.run; wrote = subst (Appends old new) (sym a.parts) (Appends-trans old mid new a.written line_buffer a.wrote v) }

  pub line_buffer-prefix : {s t : S} {lines : List (Option (List ℕ))} {first line_buffer : List ℕ} {old mid : Option (List ℕ)} (new : Option (List ℕ)) → AppendsAnswersUpTo takes line_buffer s lines t first old mid → AppendsPrefix mid new line_buffer → AppendsAnswerPrefix takes s lines first old new
  line_buffer-prefix {t = t} {lines} {line_buffer = line_buffer} {old} {mid} new a v = record {
    taken = lines;
    bytes = a.bytes;
    last = t;
    from_first = prefix-refl lines;
    run = a.run;
    wrote = subst (AppendsPrefix old new) (sym a.parts) (AppendsFront-on old mid new a.written line_buffer a.wrote v);
  }

  -- no output is pending
  pub none-line_buffer : {s t : S} {lines : List (Option (List ℕ))} {first : List ℕ} {old new : Option (List ℕ)} (line_buffer : List ℕ) → line_buffer ≡ [] → AppendsAnswers takes s lines t first old new → AppendsAnswersUpTo takes line_buffer s lines t first old new
  none-line_buffer {first = first} line_buffer e a = record {
    bytes = a.bytes;
    written = first ++ a.bytes;
    run = a.run;
    parts = sym (append-nil (first ++ a.bytes)) ∙ ap (λ l. (first ++ a.bytes) ++ l) (sym e);
    wrote = a.wrote;
  }

  -- the concatenation of two runs with pending output
  pub lines-line_buffer : {s t u : S} {a b : List (Option (List ℕ))} {first out line_buffer : List ℕ} {old mid new : Option (List ℕ)}
      → AppendsAnswersUpTo takes out s a t first old mid → AppendsAnswersUpTo takes line_buffer t b u out mid new → AppendsAnswersUpTo takes line_buffer s (a ++ b) u first old new
  lines-line_buffer {s} {t} {u} {a} {b} {first} {out} {line_buffer} {old} {mid} {new} x y = record {
    bytes = x.bytes ++ y.bytes;
    written = x.written ++ y.written;
    run = Run-append s t u a b x.bytes y.bytes x.run y.run;
    parts = append_regroup first x.bytes y.bytes x.written out x.parts ∙ ap (λ l. x.written ++ l) y.parts ∙ sym (append_assoc x.written y.written line_buffer);
    wrote = Appends-trans old mid new x.written y.written x.wrote y.wrote;
  }

  pub lines-prefix : {s t : S} {a b : List (Option (List ℕ))} {first out : List ℕ} {old mid new : Option (List ℕ)}
      → AppendsAnswersUpTo takes out s a t first old mid → AppendsAnswerPrefix takes t b out mid new → AppendsAnswerPrefix takes s (a ++ b) first old new
  lines-prefix {s} {t} {a} {b} {first} {out} {old} {mid} {new} x y = record {
    taken = a ++ y.taken;
    bytes = x.bytes ++ y.bytes;
    last = y.last;
    from_first = prefix-trans a y.taken b y.from_first;
    run = Run-append s t y.last a y.taken x.bytes y.bytes x.run y.run;
    wrote = subst (AppendsPrefix old new) (sym (append_regroup first x.bytes y.bytes x.written out x.parts)) (AppendsFront-on old mid new x.written (out ++ y.bytes) x.wrote y.wrote);
  }

  pub lines-written : {s t u : S} {a b : List (Option (List ℕ))} {first : List ℕ} {old mid new : Option (List ℕ)}
      → AppendsAnswers takes s a t first old mid → AppendsAnswers takes t b u [] mid new → AppendsAnswers takes s (a ++ b) u first old new
  lines-written {s} {t} {u} {a} {b} {first} {old} {mid} {new} x y = record {
    bytes = x.bytes ++ y.bytes;
    run = Run-append s t u a b x.bytes y.bytes x.run y.run;
    wrote = subst (Appends old new) (append_assoc first x.bytes y.bytes) (Appends-trans old mid new (first ++ x.bytes) y.bytes x.wrote y.wrote);
  }

  pub lines-written_prefix : {s t : S} {a b : List (Option (List ℕ))} {first : List ℕ} {old mid new : Option (List ℕ)}
      → AppendsAnswers takes s a t first old mid → AppendsAnswerPrefix takes t b [] mid new → AppendsAnswerPrefix takes s (a ++ b) first old new
  lines-written_prefix x y = lines-prefix (none-line_buffer [] refl x) y

  -- a prefix of the answers to some lines is a prefix of the answers to more
  pub all-prefix : {s t : S} {lines : List (Option (List ℕ))} {first : List ℕ} {old new : Option (List ℕ)} → AppendsAnswers takes s lines t first old new → AppendsAnswerPrefix takes s lines first old new
  all-prefix {t = t} {lines} {first} a =
      record { taken = lines; bytes = a.bytes; last = t; from_first = prefix-refl lines; run = a.run; wrote = (first ++ a.bytes, a.wrote, prefix-refl (first ++ a.bytes)) }

  pub line_buffer-only : {s t : S} {lines : List (Option (List ℕ))} {first line_buffer : List ℕ} {old new : Option (List ℕ)} → AppendsAnswersUpTo takes line_buffer s lines t first old new → AppendsAnswerPrefix takes s lines first old new
  line_buffer-only {t = t} {lines} {line_buffer = line_buffer} a =
      record { taken = lines; bytes = a.bytes; last = t; from_first = prefix-refl lines; run = a.run; wrote = (a.written, a.wrote, (line_buffer, a.parts)) }

  pub prefix-lines : {s : S} {a : List (Option (List ℕ))} (b : List (Option (List ℕ))) {first : List ℕ} {old new : Option (List ℕ)} → AppendsAnswerPrefix takes s a first old new → AppendsAnswerPrefix takes s (a ++ b) first old new
  prefix-lines {a = a} b x = record { taken = x.taken; bytes = x.bytes; last = x.last; from_first = prefix-append x.taken a b x.from_first; run = x.run; wrote = x.wrote }
