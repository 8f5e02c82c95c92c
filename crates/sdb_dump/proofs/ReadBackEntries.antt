-- The line of an entry parses to its submission.
use Rattle.std.proofs.Common.{◌≡◌, ℕ, ◌+◌, ◌<◌, ◌≤◌, List, length, Option, Some, None, true, IsUtf8, Ok, refl, ap, ◌∙◌, arith}
use Rattle.std.specs.Prelude.{◌^◌, if◌then◌else◌, nat_lt, codes, option_and_then}
use Rattle.std.proofs.lemmas.Bool.Decides.{nat_tests}
use Rattle.json.proofs.Printed.Utf8.{are_ascii, IsUtf8-are_ascii}
use Rattle.serde_json.specs.Data as raw
use Rattle.serde_json.specs.Data.{Data, number, unsigned, string, object, member}
use Rattle.serde_json.specs.Find.{get}
use Rattle.serde_json.specs.Read.{read, max_depth}
use Rattle.serde_json.specs.Written.{compact_text}
use Rattle.sdb_value.specs.Value as value
use Rattle.sdb_value.specs.FromJson.{count_of}
use Rattle.sdb_component.specs.ToJson.{op_data}
use Rattle.sdb_oplog.specs.Keys.{PlainKey}
use Rattle.sdb_oplog.specs.Plain.{PlainContent, create, delete, edit, PlainSubmission, PlainEntry}
use Rattle.sdb_wire.specs.Answers.{create_data}
use Rattle.sdb_wire.specs.Wire.{name_value, read_optional, present_member, content_of}
use Rattle.sdb_dump.specs.laws.SoundData.{IsSoundData, MembersSound, IsKeyBelowAll}
use Rattle.sdb_dump.specs.ValueLimits.{IsSafeInteger, ValueInLimits, ComponentsInLimits}
use Rattle.std.proofs.lemmas.Str.{is_utf8-from_IsUtf8}
use Rattle.sdb_dump.proofs.ReadBackData.{read_compact}
use Rattle.sdb_dump.proofs.CompactText.{utf8_compact}
use Rattle.sdb_dump.proofs.ReadBackValues.{value_sound, value_deep, profile_back}
use Rattle.sdb_dump.proofs.ReadBackComponents.{count_back, op_back, op_sound, op_deep}
use Rattle.sdb_dump.specs.DumpText.{PlainLine, entry_line, line_content}
use Rattle.sdb_dump.specs.DumpLine.{optional_version_data, arrived_members, arrived_data, content_members_with_moment, line_tail, line_data, arrived_of_data, line_of_data, read_line}
use Rattle.sdb_dump.specs.EntryLimits.{NameInLimits, KeyInLimits, OptionalCountInLimits, ContentInLimits, OpLengthInLimits, SubmissionInLimits, EntryInLimits}

-- ---- soundness

count_sound : (n : ℕ) → IsSafeInteger n → n < 2 ^ 64
count_sound n h = omega (arith, h)

utf8_of_ascii : (s : List ℕ) → are_ascii s ≡ true → IsUtf8 s
utf8_of_ascii s e = IsUtf8-are_ascii s e

version_sound : (o : Option ℕ) → OptionalCountInLimits o → IsSoundData (optional_version_data o)
version_sound None h = tt
version_sound (Some n) h = count_sound n h

create_sound : (v : value.Value) → ValueInLimits 50 v → IsSoundData (create_data v)
create_sound v h = (utf8_of_ascii _ refl, value_sound v h.0, (refl, tt), (utf8_of_ascii _ refl, utf8_of_ascii _ refl, tt, tt))

arrived_sound : (m : PlainContent) (w : Data) → ContentInLimits 50 m → IsSoundData w → MembersSound (arrived_members m w)
arrived_sound (create v) w h k = (utf8_of_ascii _ refl, create_sound v h, (refl, tt), (utf8_of_ascii _ refl, k, tt, tt))
arrived_sound delete w h k = (utf8_of_ascii _ refl, tt, (refl, tt), (utf8_of_ascii _ refl, k, tt, tt))
arrived_sound (edit op) w h k = (utf8_of_ascii _ refl, op_sound 50 op h, (refl, tt), (utf8_of_ascii _ refl, k, tt, tt))

tail_sound : (e : PlainEntry) → EntryInLimits e → MembersSound (line_tail e)
tail_sound e h =
    (utf8_of_ascii _ refl, count_sound e.arrived.seq h.arrived.seq, (refl, (refl, (refl, tt))), (utf8_of_ascii _ refl, h.arrived.src.text, (refl, (refl, tt)), (utf8_of_ascii _ refl, count_sound e.version h.version, (refl, tt), (utf8_of_ascii _ refl, h.arrived.via.text, tt, tt))))

mid_sound : (k : PlainKey) (m : PlainContent) (e : PlainEntry) → KeyInLimits k → ContentInLimits 100 m → EntryInLimits e
    → MembersSound (content_members_with_moment k m e.moment (line_tail e))
mid_sound k (create v) e f c h =
    (utf8_of_ascii _ refl, f.collection.text, (refl, (refl, (refl, (refl, (refl, (refl, (refl, tt))))))), (utf8_of_ascii _ refl, create_sound v c, (refl, (refl, (refl, (refl, (refl, (refl, tt)))))), (utf8_of_ascii _ refl, f.id.text, (refl, (refl, (refl, (refl, (refl, tt))))), (utf8_of_ascii _ refl, count_sound e.moment h.moment, (refl, (refl, (refl, (refl, tt)))), tail_sound e h))))
mid_sound k delete e f c h =
    (utf8_of_ascii _ refl, f.collection.text, (refl, (refl, (refl, (refl, (refl, (refl, (refl, tt))))))), (utf8_of_ascii _ refl, f.id.text, (refl, (refl, (refl, (refl, (refl, (refl, tt)))))), (utf8_of_ascii _ refl, tt, (refl, (refl, (refl, (refl, (refl, tt))))), (utf8_of_ascii _ refl, count_sound e.moment h.moment, (refl, (refl, (refl, (refl, tt)))), tail_sound e h))))
mid_sound k (edit op) e f c h =
    (utf8_of_ascii _ refl, f.collection.text, (refl, (refl, (refl, (refl, (refl, (refl, (refl, tt))))))), (utf8_of_ascii _ refl, f.id.text, (refl, (refl, (refl, (refl, (refl, (refl, tt)))))), (utf8_of_ascii _ refl, count_sound e.moment h.moment, (refl, (refl, (refl, (refl, (refl, tt))))), (utf8_of_ascii _ refl, op_sound 100 op c, (refl, (refl, (refl, (refl, tt)))), tail_sound e h))))

arrived_first : (k : PlainKey) (m : PlainContent) (e : PlainEntry) → IsKeyBelowAll (codes "arrived") (content_members_with_moment k m e.moment (line_tail e))
arrived_first k (create v) e = (refl, (refl, (refl, (refl, (refl, (refl, (refl, (refl, tt))))))))
arrived_first k delete e = (refl, (refl, (refl, (refl, (refl, (refl, (refl, (refl, tt))))))))
arrived_first k (edit op) e = (refl, (refl, (refl, (refl, (refl, (refl, (refl, (refl, tt))))))))

by_first : (k : PlainKey) (m : PlainContent) (e : PlainEntry) → IsKeyBelowAll (codes "by") (content_members_with_moment k m e.moment (line_tail e))
by_first k (create v) e = (refl, (refl, (refl, (refl, (refl, (refl, (refl, (refl, tt))))))))
by_first k delete e = (refl, (refl, (refl, (refl, (refl, (refl, (refl, (refl, tt))))))))
by_first k (edit op) e = (refl, (refl, (refl, (refl, (refl, (refl, (refl, (refl, tt))))))))

pub line_sound : (k : PlainKey) (e : PlainEntry) → KeyInLimits k → EntryInLimits e → IsSoundData (line_data k e)
line_sound k e f h =
    let s = h.arrived in
    let came = arrived_sound e.arrived.content (optional_version_data e.arrived.version) s.content (version_sound e.arrived.version s.version) in (
      utf8_of_ascii _ refl,
      came,
      (refl, arrived_first k e.content e),
      (utf8_of_ascii _ refl, count_sound e.arrived.by s.by, by_first k e.content e, mid_sound k e.content e f h.content h),
    )

-- ---- depth

create_deep : (v : value.Value) → ValueInLimits 50 v → raw.depth (create_data v) ≤ 51
create_deep v h = omega (arith, value_deep v, h.1)

edit_deep : (r : ℕ) (cs : _) → 50 ≤ r → ComponentsInLimits r cs → raw.depth (op_data cs) ≤ r + 2
edit_deep r cs big h = omega (arith, op_deep r cs big h)

version_flat : (o : Option ℕ) → raw.depth (optional_version_data o) ≤ 0
version_flat None = omega arith
version_flat (Some n) = omega arith

arrived_deep : (m : PlainContent) (w : Data) → ContentInLimits 50 m → raw.depth w ≤ 0 → raw.members_depth (arrived_members m w) ≤ 52
arrived_deep (create v) w h k = omega (arith, create_deep v h, k)
arrived_deep delete w h k = omega (arith, k)
arrived_deep (edit op) w h k = omega (arith, edit_deep 50 op (omega arith) h, k)

mid_deep : (k : PlainKey) (m : PlainContent) (e : PlainEntry) → ContentInLimits 100 m → raw.members_depth (content_members_with_moment k m e.moment (line_tail e)) ≤ 102
mid_deep k (create v) e c = omega (arith, create_deep v c)
mid_deep k delete e c = omega arith
mid_deep k (edit op) e c = omega (arith, edit_deep 100 op (omega arith) c)

line_deep : (k : PlainKey) (e : PlainEntry) → EntryInLimits e → raw.depth (line_data k e) ≤ max_depth
line_deep k e h =
    let a = arrived_deep e.arrived.content (optional_version_data e.arrived.version) h.arrived.content (version_flat e.arrived.version) in
    let b = mid_deep k e.content e h.content in
    omega (arith, a, b)

-- ---- parsing

name_back : (s : List ℕ) → NameInLimits s → name_value (string s) ≡ Some s
name_back s h =
    let a : nat_lt 0 (length s) ≡ true = grind (arith, nat_tests, h.some) in
    let b : nat_lt (length s) 201 ≡ true = grind (arith, nat_tests, h.short) in
    rw (a, b) refl

content_back : (m : PlainContent) (w : Data) → ContentInLimits 50 m → OpLengthInLimits m → content_of (object (arrived_members m w)) ≡ Ok m
content_back (create v) w h few = rw (profile_back v h) refl
content_back delete w h few = refl
content_back (edit op) w h few = rw (op_back op h few) refl

version_back : (m : PlainContent) (o : Option ℕ) → OptionalCountInLimits o → read_optional count_of (present_member (codes "v") (object (arrived_members m (optional_version_data o)))) ≡ Ok o
version_back (create v) None h = refl
version_back delete None h = refl
version_back (edit op) None h = refl
version_back (create v) (Some n) h = rw (count_back n h) refl
version_back delete (Some n) h = rw (count_back n h) refl
version_back (edit op) (Some n) h = rw (count_back n h) refl

arrived_back : (s : PlainSubmission) → SubmissionInLimits s → arrived_of_data (arrived_data s) ≡ Some (s.content, s.version)
arrived_back s h =
    let w = optional_version_data s.version in
    rw (content_back s.content w h.content h.few, version_back s.content s.version h.version) refl

-- the members by name
abbrev HasMembersOf : Data → PlainKey → PlainEntry → Type 0
HasMembersOf d k e =
    (get (codes "arrived") d ≡ Some (arrived_data e.arrived)) × (get (codes "by") d ≡ Some (number (unsigned e.arrived.by)))
    × (get (codes "c") d ≡ Some (string k.collection)) × (get (codes "d") d ≡ Some (string k.id))
    × (get (codes "seq") d ≡ Some (number (unsigned e.arrived.seq))) × (get (codes "src") d ≡ Some (string e.arrived.src))
    × (get (codes "via") d ≡ Some (string e.arrived.via)) × (get (codes "m") d ≡ Some (number (unsigned e.moment)))

line_has : (k : PlainKey) (m : PlainContent) (e : PlainEntry)
    → HasMembersOf (object (member (codes "arrived") (arrived_data e.arrived) (member (codes "by") (number (unsigned e.arrived.by)) (content_members_with_moment k m e.moment (line_tail e))))) k e
line_has k (create v) e = (refl, refl, refl, refl, refl, refl, refl, refl)
line_has k delete e = (refl, refl, refl, refl, refl, refl, refl, refl)
line_has k (edit op) e = (refl, refl, refl, refl, refl, refl, refl, refl)

line_by : (d : Data) (k : PlainKey) (e : PlainEntry) → HasMembersOf d k e → KeyInLimits k → EntryInLimits e
    → line_of_data d ≡ Some (record { key = k; submission = e.arrived; moment = e.moment })
line_by d k e has f h =
    let s = h.arrived in
    rw (
      has.2,
      has.3,
      name_back k.collection f.collection,
      name_back k.id f.id,
      has.0,
      arrived_back e.arrived s,
      has.4,
      count_back e.arrived.seq s.seq,
      has.5,
      name_back e.arrived.src s.src,
      has.6,
      name_back e.arrived.via s.via,
      has.1,
      count_back e.arrived.by s.by,
      has.7,
      count_back e.moment h.moment,
    ) refl

pub line_reads_back : (x : PlainLine) → KeyInLimits x.key → EntryInLimits x.entry → read_line (entry_line x) ≡ Some (line_content x)
line_reads_back x f h =
    let k = x.key in
    let e = x.entry in
    let d = line_data k e in
    let sound = line_sound k e f h in
    ap (λ b. if b then option_and_then line_of_data (read (compact_text d)) else None) (is_utf8-from_IsUtf8 (compact_text d) (utf8_compact d sound))
    ∙ ap (option_and_then line_of_data) (read_compact d sound (line_deep k e h))
    ∙ line_by d k e (line_has k e.content e) f h
