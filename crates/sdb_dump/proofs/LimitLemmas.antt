-- Parsed lines are within the limits.
use Rattle.std.proofs.Common.{◌≡◌, ℕ, ◌<◌, ◌≤◌, List, [], ◌∷◌, ◌++◌, length, Option, Some, None, Ok, Err, Bool, true, false, refl, subst, arith}
use Rattle.std.specs.Prelude.{⊤, ◌&&◌, if◌then◌else◌, nat_lt, codes, option_and_then, unwrap_or, IfSome}
use Rattle.std.specs.Option.{option_map_or, ok_or}
use Rattle.std.specs.Result.{result_ok}
use Rattle.std.specs.Str.{IsUtf8, is_utf8}
use Rattle.std.proofs.lemmas.Bool.Decides.{nat_tests}
use Rattle.serde_json.specs.Data.{Data, null}
use Rattle.serde_json.specs.Find.{get, as_str, as_u64, as_number}
use Rattle.serde_json.specs.Read.{read}
use Rattle.sdb_value.specs.Value.{PlainStep, key, index, depth}
use Rattle.sdb_value.specs.FromJson.{count_of, value_of_data, bounded_value_of_data}
use Rattle.sdb_component.specs.Limits.{IsShallow, StepsInRange, ActInRange, AllInRange, ReadStaysInRange}
use Rattle.sdb_component.specs.Plain.{PlainAct, na, si, sd, li, ld, lr, oi, od, or, PlainComponent}
use Rattle.sdb_component.specs.FromJson.{op_of}
use Rattle.sdb_oplog.specs.Keys.{PlainKey}
use Rattle.sdb_oplog.specs.Plain.{PlainContent, create, delete, edit, PlainSubmission}
use Rattle.sdb_oplog.specs.declared.codes.Code.{Code}
use Rattle.sdb_oplog.specs.declared.codes.Code.TheVariants.{E1, E2, E3}
use Rattle.sdb_wire.specs.Wire.{name_value, name_member, count_member, present_member, read_optional, is_type, created_content, edit_content, content_from, is_delete, content_of, key_of}
use Rattle.sdb_dump.specs.DumpText.{PlainLine, entry_line, AreNextLines}
use Rattle.sdb_dump.specs.ValueLimits.{IsSafeInteger, ActInLimits, StepsInLimits, ComponentsInLimits}
use Rattle.sdb_dump.specs.DumpLine.{PlainLineContent, arrived_of_data, submission_of_data, line_of_data, read_line}
use Rattle.sdb_dump.specs.Utf8Facts.{AreTextSteps, IsTextAct, AreTextComponents, IsTextContent, IsTextSubmission, IsTextKey}
use Rattle.sdb_dump.specs.EntryLimits.{NameInLimits, KeyInLimits, OptionalCountInLimits, ContentInLimits, OpLengthInLimits, SubmissionInLimits, AllKeysInLimits}
use Rattle.sdb_dump.specs.DumpLaws.{AllInLimits}
use Rattle.sdb_dump.proofs.HoldsLemmas.{opt_then, opt_any, opt_at, cond_holds, IfOkHolds, okay_then, okay_map}

okay_or : {A : Type 0} (P : A → Type 0) (o : Option A) (e : Code) → IfSome o P → IfOkHolds P (ok_or o e)
okay_or P None e h = tt
okay_or P (Some x) e h = h

-- ---- numbers, names, values

unless_over : {A : Type 0} (P : A → Type 0) (m n : ℕ) (b : Bool) (o : Option A) → nat_lt m n ≡ b → (n ≤ m → IfSome o P) → IfSome (if b then None else o) P
unless_over P m n true o e h = tt
unless_over P m n false o e h = let g : n ≤ m = grind (arith, nat_tests) in h g

count_preserves : (d : Data) → IfSome (count_of d) IsSafeInteger
count_preserves d =
    opt_then (λ _. ⊤) IsSafeInteger (λ n. if nat_lt 9007199254740991 n then None else Some n) (option_and_then as_u64 (as_number d)) (opt_any (option_and_then as_u64 (as_number d))) (λ n _.
    unless_over IsSafeInteger 9007199254740991 n (nat_lt 9007199254740991 n) (Some n) refl (λ h. h))

value_preserves : (d : Data) → IfSome (bounded_value_of_data d) IsShallow
value_preserves d =
    opt_then (λ _. ⊤) IsShallow (λ v. if nat_lt 50 (depth v) then None else Some v) (value_of_data d) (opt_any (value_of_data d)) (λ v _.
    unless_over IsShallow 50 (depth v) (nat_lt 50 (depth v)) (Some v) refl (λ h. h))

abbrev IsNameInLimits : List ℕ → Type 0
IsNameInLimits s = (0 < length s) × (length s ≤ 200)

name_tested : (s : List ℕ) (a b : Bool) → nat_lt 0 (length s) ≡ a → nat_lt (length s) 201 ≡ b → IfSome (if a && b then Some s else None) IsNameInLimits
name_tested s true true e f =
    let g : 0 < length s = grind (arith, nat_tests, e) in
    let h : length s ≤ 200 = grind (arith, nat_tests, f) in
    (g, h)
name_tested s true false e f = tt
name_tested s false b e f = tt

name_preserves : (k : List ℕ) (d : Data) → IfSome (name_member k d) IsNameInLimits
name_preserves k d =
    opt_then (λ _. ⊤) IsNameInLimits name_value (get k d) (opt_any (get k d)) (λ e _.
    opt_then (λ _. ⊤) IsNameInLimits (λ s. if nat_lt 0 (length s) && nat_lt (length s) 201 then Some s else None) (as_str e) (opt_any (as_str e)) (λ s _.
    name_tested s (nat_lt 0 (length s)) (nat_lt (length s) 201) refl refl))

number_preserves : (k : List ℕ) (d : Data) → IfSome (count_member k d) IsSafeInteger
number_preserves k d = opt_then (λ _. ⊤) IsSafeInteger count_of (get k d) (opt_any (get k d)) (λ e _. count_preserves e)

may_keep : (o : Option Data) → IfOkHolds OptionalCountInLimits (read_optional count_of o)
may_keep None = tt
may_keep (Some d) = okay_map IsSafeInteger OptionalCountInLimits (λ n. Some n) (count_of d) E1 (count_preserves d) (λ n h. h)

-- ---- contents, submissions, keys

abbrev ContentWithin : PlainContent → Type 0
ContentWithin (create v) = IsShallow v
ContentWithin delete = ⊤
ContentWithin (edit cs) = AllInRange cs × (length cs ≤ 256)

created_preserves : (d : Data) → IfOkHolds ContentWithin (created_content d)
created_preserves d = okay_map IsShallow ContentWithin create (bounded_value_of_data d) E3 (value_preserves d) (λ v h. h)

creation_preserves : (c : Data) (o : Option (List ℕ)) → IfOkHolds ContentWithin (option_map_or (λ t. if is_type t then created_content (unwrap_or (get (codes "data") c) null) else Err E2) o (Err E1))
creation_preserves c None = tt
creation_preserves c (Some t) =
    let d = unwrap_or (get (codes "data") c) null in cond_holds (IfOkHolds ContentWithin) (is_type t) (created_content d) (Err E2) (created_preserves d) tt

record SubmissionWithin (s : PlainSubmission) : Type 0 where
  pub src : IsNameInLimits s.src
  pub seq : IsSafeInteger s.seq
  pub version : OptionalCountInLimits s.version
  pub content : ContentWithin s.content
  pub via : IsNameInLimits s.via
  pub by : IsSafeInteger s.by

abbrev KeyWithin : PlainKey → Type 0
KeyWithin k = IsNameInLimits k.collection × IsNameInLimits k.id

key_preserves : (d : Data) → IfOkHolds KeyWithin (key_of d)
key_preserves d =
    okay_then IsNameInLimits KeyWithin _ (ok_or (name_member (codes "c") d) E1) (okay_or IsNameInLimits (name_member (codes "c") d) E1 (name_preserves (codes "c") d)) (λ c h.
    okay_then IsNameInLimits KeyWithin _ (ok_or (name_member (codes "d") d) E1) (okay_or IsNameInLimits (name_member (codes "d") d) E1 (name_preserves (codes "d") d)) (λ i k. (h, k)))

abbrev ArrivedWithin : (PlainContent × Option ℕ) → Type 0
ArrivedWithin a = ContentWithin a.0 × OptionalCountInLimits a.1

module _ (reads : ReadStaysInRange) where
  edition_preserves : (d : Data) → IfOkHolds ContentWithin (edit_content d)
  edition_preserves d = okay_map (λ cs. AllInRange cs × (length cs ≤ 256)) ContentWithin edit (op_of d) E3 (reads d) (λ v h. h)

  from_preserves : (o c : Option Data) (b : Bool) → IfOkHolds ContentWithin (content_from o c b)
  from_preserves (Some o) None false = edition_preserves o
  from_preserves None (Some c) false = creation_preserves c (option_and_then as_str (get (codes "type") c))
  from_preserves None None true = tt
  from_preserves None None false = tt
  from_preserves None (Some c) true = tt
  from_preserves (Some o) None true = tt
  from_preserves (Some o) (Some c) true = tt
  from_preserves (Some o) (Some c) false = tt

  arrived_preserves : (d : Data) → IfSome (arrived_of_data d) ArrivedWithin
  arrived_preserves d =
      opt_then ContentWithin ArrivedWithin _ (result_ok (content_of d)) (from_preserves (present_member (codes "op") d) (present_member (codes "create") d) (is_delete d)) (λ m h.
      opt_then OptionalCountInLimits ArrivedWithin _ (result_ok (read_optional count_of (present_member (codes "v") d))) (may_keep (present_member (codes "v") d)) (λ v k. (h, k)))

  submission_preserves : (d : Data) → IfSome (submission_of_data d) SubmissionWithin
  submission_preserves d =
      opt_then ArrivedWithin SubmissionWithin _ (option_and_then arrived_of_data (get (codes "arrived") d)) (opt_then (λ _. ⊤) ArrivedWithin arrived_of_data (get (codes "arrived") d) (opt_any (get (codes "arrived") d)) (λ e _. arrived_preserves e)) (λ a h.
      opt_then IsSafeInteger SubmissionWithin _ (count_member (codes "seq") d) (number_preserves (codes "seq") d) (λ n i.
      opt_then IsNameInLimits SubmissionWithin _ (name_member (codes "src") d) (name_preserves (codes "src") d) (λ s j.
      opt_then IsNameInLimits SubmissionWithin _ (name_member (codes "via") d) (name_preserves (codes "via") d) (λ w k.
      opt_then IsSafeInteger SubmissionWithin _ (count_member (codes "by") d) (number_preserves (codes "by") d) (λ b l.
      record { src = j; seq = i; version = h.1; content = h.0; via = k; by = l })))))

-- ---- UTF-8 and limits together

steps_fit : (p : List PlainStep) → StepsInRange p → AreTextSteps p → StepsInLimits p
steps_fit [] m h = tt
steps_fit (key k ∷ p) m h = (h.0, steps_fit p m.1 h.1)
steps_fit (index i ∷ p) m h = (m.0, steps_fit p m.1 h.1)

act_fits : (a : PlainAct) → ActInRange a → IsTextAct a → ActInLimits 50 a
act_fits (na x) m h = h
act_fits (si i s) m h = (m.0, (h, m.1))
act_fits (sd i s) m h = (m.0, (h, m.1))
act_fits (li i v) m h = (m.0, (h, m.1))
act_fits (ld i x) m h = (m.0, (h, m.1))
act_fits (lr i x y) m h = (m.0, (h.0, m.1), (h.1, m.2))
act_fits (oi k v) m h = (h.0, (h.1, m))
act_fits (od k x) m h = (h.0, (h.1, m))
act_fits (or k x y) m h = (h.0, (h.1, m.0), (h.2, m.1))

components_fit : (cs : List PlainComponent) → AllInRange cs → AreTextComponents cs → ComponentsInLimits 50 cs
components_fit [] m h = tt
components_fit (c ∷ cs) m h =
    (record { path = steps_fit c.path m.0.path h.0.0; short = m.0.short; act = act_fits c.act m.0.act h.0.1 }, components_fit cs m.1 h.1)

name_fits : (s : List ℕ) → IsNameInLimits s → IsUtf8 s → NameInLimits s
name_fits s n u = record { text = u; some = n.0; short = n.1 }

content_fits : (m : PlainContent) → ContentWithin m → IsTextContent m → ContentInLimits 50 m × OpLengthInLimits m
content_fits (create v) m h = ((h, m), tt)
content_fits delete m h = (tt, tt)
content_fits (edit cs) m h = (components_fit cs m.0 h, m.1)

-- a parsed submission whose texts are UTF-8
pub submission_fits : (reads : ReadStaysInRange) (d : Data) (s : PlainSubmission) → submission_of_data d ≡ Some s → IsTextSubmission s → SubmissionInLimits s
submission_fits reads d s e h =
    let m = opt_at SubmissionWithin (submission_of_data d) s e (submission_preserves reads d) in
    let c = content_fits s.content m.content h.content in
    record { src = name_fits s.src m.src h.src; seq = m.seq; version = m.version; content = c.0; few = c.1; via = name_fits s.via m.via h.via; by = m.by }

-- a parsed key whose texts are UTF-8
pub key_fits : (d : Data) (k : PlainKey) → key_of d ≡ Ok k → IsTextKey k → KeyInLimits k
key_fits d k e h =
    let m = subst (λ r. IfOkHolds KeyWithin r) e (key_preserves d) in
    record { collection = name_fits k.collection m.0 h.0; id = name_fits k.id m.1 h.1 }

-- ---- the moments of lines

read_moment : (d : Data) → IfSome (line_of_data d) (λ r. IsSafeInteger r.moment)
read_moment d =
    opt_then (λ _. ⊤) (λ (r : PlainLineContent). IsSafeInteger r.moment) _ (result_ok (key_of d)) (opt_any (result_ok (key_of d))) (λ k _.
    opt_then (λ _. ⊤) (λ (r : PlainLineContent). IsSafeInteger r.moment) _ (submission_of_data d) (opt_any (submission_of_data d)) (λ s _.
    opt_then IsSafeInteger (λ (r : PlainLineContent). IsSafeInteger r.moment) _ (count_member (codes "m") d) (number_preserves (codes "m") d) (λ m h. h)))

line_moment : (l : List ℕ) → IfSome (read_line l) (λ r. IsSafeInteger r.moment)
line_moment l =
    cond_holds (λ o. IfSome o (λ (r : PlainLineContent). IsSafeInteger r.moment)) (is_utf8 l) (option_and_then line_of_data (read l)) None (opt_then (λ _. ⊤) (λ (r : PlainLineContent). IsSafeInteger r.moment) line_of_data (read l) (opt_any (read l)) (λ d _. read_moment d)) tt

-- accepted lines whose keys and submissions are within the limits
pub all_within : (before xs : List PlainLine) → AreNextLines before xs → AllKeysInLimits xs → AllInLimits xs
all_within before [] n h = tt
all_within before (x ∷ xs) n h =
    (h.0, opt_at (λ (r : PlainLineContent). IsSafeInteger r.moment) (read_line (entry_line x)) _ n.0.is_next.read (line_moment (entry_line x)), h.1, all_within (before ++ x ∷ []) xs n.1 h.2)
