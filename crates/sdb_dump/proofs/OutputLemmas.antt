-- A dump that is written in blocks.
use Rattle.std.proofs.Common.{◌≡◌, ℕ, ◌+◌, List, [], ◌∷◌, ◌++◌, length, map, drop, get_or, ◌<◌, Option, Result, Ok, Err, OnOk, OnErr, ◌⊎◌, inl, inr, codes, refl, sym, ap, ◌∙◌, subst, arith, append_assoc, length-append}
use Rattle.std.specs.Fmt.{digits}
use Rattle.std.specs.Io.KnownBytes.{Appends}
use Rattle.std.proofs.KnownBytes.{Appends-trans}
use Rattle.std.proofs.lemmas.List.{map-append, drop_more}
use Rattle.json.specs.Print.{escape_byte}
use Rattle.sdb_lines.specs.Prefixes.{AppendsPrefix}
use Rattle.sdb_oplog.specs.Keys.{PlainKey, Logs, plain_key}
use Rattle.sdb_oplog.specs.declared.keys.Key.{Key}
use Rattle.sdb_oplog.specs.Plain.{PlainEntry}
use Rattle.sdb_dump.specs.DumpText.{entry_line, header_line, count_line, ended_lines, dump_text}
use Rattle.sdb_dump.specs.LogListing.{lines_of_log, lines_of_logs}
use Rattle.sdb_dump.specs.WriteModel.{WroteUpTo, WroteDump, WroteDumpPrefix, log_text, logs_text}
use Rattle.sdb_desk.specs.StoredKeys.{IsKeyList}

-- ---- the bytes written, and the rest

-- the first part of the rest is written too
pub but_then : {old mid new : Option (List ℕ)} {all left : List ℕ} (s t left' : List ℕ) → WroteUpTo old mid all left → left ≡ s ++ t → WroteUpTo mid new s left' → WroteUpTo old new all (left' ++ t)
but_then {old} {mid} {new} s t left' a is b = record {
  written = a.written ++ b.written;
  wrote = Appends-trans old mid new a.written b.written a.wrote b.wrote;
  parts = a.parts ∙ ap (λ l. a.written ++ l) (is ∙ ap (λ l. l ++ t) b.parts ∙ append_assoc b.written left' t) ∙ sym (append_assoc a.written b.written (left' ++ t));
}

-- the bytes written are a prefix
pub but_some : {old new : Option (List ℕ)} {all left : List ℕ} → WroteUpTo old new all left → AppendsPrefix old new all
but_some {left = left} a = (a.written, a.wrote, (left, a.parts))

-- a prefix of the first part of the rest is written too
pub but_prefix : {old mid : Option (List ℕ)} {all left : List ℕ} (new : Option (List ℕ)) (s t : List ℕ) → WroteUpTo old mid all left → left ≡ s ++ t → AppendsPrefix mid new s → AppendsPrefix old new all
but_prefix {old} {mid} new s t a is (bytes, w, (rest, e)) = (
  a.written ++ bytes,
  Appends-trans old mid new a.written bytes a.wrote w,
  (rest ++ t, a.parts ∙ ap (λ l. a.written ++ l) (is ∙ ap (λ l. l ++ t) e ∙ append_assoc bytes rest t) ∙ sym (append_assoc a.written bytes (rest ++ t))),
)

-- ---- texts

ended_more : (ls ms : List (List ℕ)) → ended_lines (ls ++ ms) ≡ ended_lines ls ++ ended_lines ms
ended_more [] ms = refl
ended_more (l ∷ ls) ms = ap (λ r. l ++ 10 ∷ r) (ended_more ls ms) ∙ sym (append_assoc l (10 ∷ ended_lines ls) (ended_lines ms))

-- the lines of the entries from the i-th on, after this one's line is pending
pub entry_left : (k : PlainKey) (es : List PlainEntry) (i : ℕ) (e : PlainEntry) (out line line_buffer : List ℕ) → i < length es → e ≡ get_or es i e
    → line ≡ out ++ entry_line (record { key = k; entry = e }) → line_buffer ≡ line ++ 10 ∷ [] → out ++ log_text k (drop i es) ≡ line_buffer ++ log_text k (drop (i + 1) es)
entry_left k es i e out line line_buffer lt at more end =
    let text = entry_line (record { key = k; entry = e }) in
    let rest = log_text k (drop (i + 1) es) in
    let here : drop i es ≡ e ∷ drop (i + 1) es = drop_more es i e lt ∙ ap (λ y. y ∷ drop (i + 1) es) (sym at) in
    ap (λ l. out ++ log_text k l) here ∙ sym (append_assoc out text (10 ∷ rest)) ∙ ap (λ l. l ++ 10 ∷ rest) (sym more)
    ∙ sym (append_assoc line (10 ∷ []) rest) ∙ ap (λ l. l ++ rest) (sym end)

logs_first : (f : Logs) (k : PlainKey) (ks : List PlainKey) → logs_text f (k ∷ ks) ≡ log_text k (f k) ++ logs_text f ks
logs_first f k ks =
    ap ended_lines (map-append entry_line (lines_of_log k (f k)) (lines_of_logs f ks)) ∙ ended_more (map entry_line (lines_of_log k (f k))) (map entry_line (lines_of_logs f ks))

keys_first : (keys : List Key) (i : ℕ) (key : Key) → i < length keys → key ≡ get_or keys i key → map plain_key (drop i keys) ≡ plain_key key ∷ map plain_key (drop (i + 1) keys)
keys_first keys i key lt at = ap (map plain_key) (drop_more keys i key lt ∙ ap (λ y. y ∷ drop (i + 1) keys) (sym at))

-- the lines of the logs of the keys from the i-th on, and their number
pub log_left : (f : Logs) (keys : List Key) (i : ℕ) (key : Key) (es : List PlainEntry) (out : List ℕ) → i < length keys → key ≡ get_or keys i key → es ≡ f (plain_key key)
    → out ++ logs_text f (map plain_key (drop i keys)) ≡ (out ++ log_text (plain_key key) es) ++ logs_text f (map plain_key (drop (i + 1) keys))
log_left f keys i key es out lt at is =
    let k = plain_key key in
    let rest = map plain_key (drop (i + 1) keys) in
    ap (λ ks. out ++ logs_text f ks) (keys_first keys i key lt at) ∙ ap (λ l. out ++ l) (logs_first f k rest)
    ∙ ap (λ l. out ++ (log_text k l ++ logs_text f rest)) (sym is) ∙ sym (append_assoc out (log_text k es) (logs_text f rest))

of_log_len : (k : PlainKey) (es : List PlainEntry) → length (lines_of_log k es) ≡ length es
of_log_len k [] = refl
of_log_len k (e ∷ es) = omega (arith, of_log_len k es)

pub count_left : (f : Logs) (keys : List Key) (i : ℕ) (key : Key) (es : List PlainEntry) (count all : ℕ) → i < length keys → key ≡ get_or keys i key → es ≡ f (plain_key key)
    → count + length (lines_of_logs f (map plain_key (drop i keys))) ≡ all → count + length es + length (lines_of_logs f (map plain_key (drop (i + 1) keys))) ≡ all
count_left f keys i key es count all lt at is h =
    let k = plain_key key in
    let rest = map plain_key (drop (i + 1) keys) in
    let e : length (lines_of_logs f (map plain_key (drop i keys))) ≡ length (lines_of_log k (f k) ++ lines_of_logs f rest) = ap (λ ks. length (lines_of_logs f ks)) (keys_first keys i key lt at) in
    let n : length es ≡ length (f k) = ap length is in
    omega (arith, h, e, n, length-append (lines_of_log k (f k)) (lines_of_logs f rest), of_log_len k (f k))

-- ---- the whole dump

pub head_is : codes "{\"dump\":2}\n" ≡ header_line ++ 10 ∷ []
unfolding escape_byte digits
head_is = refl

abbrev pub last_line : ℕ → List ℕ
last_line n = count_line n ++ 10 ∷ []

dump_is : (f : Logs) (ks : List PlainKey) (head : List ℕ) → head ≡ header_line ++ 10 ∷ [] → (head ++ logs_text f ks) ++ last_line (length (lines_of_logs f ks)) ≡ dump_text (lines_of_logs f ks)
dump_is f ks head e =
    let xs = lines_of_logs f ks in
    ap (λ h. (h ++ logs_text f ks) ++ last_line (length xs)) e
    ∙ append_assoc (header_line ++ 10 ∷ []) (logs_text f ks) (last_line (length xs))
    ∙ append_assoc header_line (10 ∷ []) (logs_text f ks ++ last_line (length xs))
    ∙ ap (λ l. header_line ++ 10 ∷ l) (sym (ended_more (map entry_line xs) (count_line (length xs) ∷ [])))

prefix_more : (old new : Option (List ℕ)) (text more : List ℕ) → AppendsPrefix old new text → AppendsPrefix old new (text ++ more)
prefix_more old new text more (bytes, w, (rest, is)) = (bytes, w, (rest ++ more, ap (λ l. l ++ more) is ∙ append_assoc bytes rest more))

module _ (f : Logs) (ks : List PlainKey) (stored : IsKeyList f ks) (head : List ℕ) (first : head ≡ header_line ++ 10 ∷ []) (old : Option (List ℕ)) where
  pub all_wrote : (mid new : Option (List ℕ)) (out last : List ℕ) (n : ℕ) → WroteUpTo old mid (head ++ logs_text f ks) out → n ≡ length (lines_of_logs f ks) → last ≡ out ++ (count_line n ++ 10 ∷ []) → Appends mid new last → WroteDump f old new
  all_wrote mid new out last n a count is w = (
    dump_text (lines_of_logs f ks),
    (ks, stored, refl),
    subst (Appends old new) (ap (λ l. a.written ++ l) is ∙ sym (append_assoc a.written out (last_line n)) ∙ ap (λ l. l ++ last_line n) (sym a.parts) ∙ ap (λ m. (head ++ logs_text f ks) ++ last_line m) count ∙ dump_is f ks head first) (Appends-trans old mid new a.written last a.wrote w),
  )

  pub logs_prefix : (new : Option (List ℕ)) → AppendsPrefix old new (head ++ logs_text f ks) → WroteDumpPrefix f old new
  logs_prefix new w = inr (dump_text (lines_of_logs f ks), (ks, stored, refl), subst (AppendsPrefix old new) (dump_is f ks head first) (prefix_more old new (head ++ logs_text f ks) (last_line (length (lines_of_logs f ks))) w))

  pub but_wrote : (new : Option (List ℕ)) (out : List ℕ) → WroteUpTo old new (head ++ logs_text f ks) out → WroteDumpPrefix f old new
  but_wrote new out a = logs_prefix new (but_some a)

  pub last_prefix : (mid new : Option (List ℕ)) (out last : List ℕ) (n : ℕ) → WroteUpTo old mid (head ++ logs_text f ks) out → n ≡ length (lines_of_logs f ks) → last ≡ out ++ (count_line n ++ 10 ∷ []) → AppendsPrefix mid new last → WroteDumpPrefix f old new
  last_prefix mid new out last n a count is (bytes, w, (rest, e)) = inr (
    dump_text (lines_of_logs f ks),
    (ks, stored, refl),
    (
      a.written ++ bytes,
      Appends-trans old mid new a.written bytes a.wrote w,
      (rest, sym (dump_is f ks head first) ∙ ap (λ m. (head ++ logs_text f ks) ++ last_line m) (sym count) ∙ ap (λ l. l ++ last_line n) a.parts ∙ append_assoc a.written out (last_line n) ∙ ap (λ l. a.written ++ l) (sym is ∙ e) ∙ sym (append_assoc a.written bytes rest)),
    ),
  )

-- ---- results

-- a statement that holds except for an error holds for a success
pub no_error : {A E P : Type 0} {x : A} {e : E} → P ⊎ (◌≡◌ {A = Result A E} (Ok x) (Err e)) → P
no_error (inl p) = p
no_error (inr q) = cc

pub on_any_err : {A E P : Type 0} (r : Result A E) → P → OnErr r P
on_any_err (Ok x) p = tt
on_any_err (Err e) p = p

pub on_ok_then : {A E P Q : Type 0} (r : Result A E) → (P → Q) → OnOk r P → OnOk r Q
on_ok_then (Ok x) f h = f h
on_ok_then (Err e) f h = tt
