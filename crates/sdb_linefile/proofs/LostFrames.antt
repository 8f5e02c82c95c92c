-- Reading a log for damage.
use Rattle.std.proofs.Common.{◌≡◌, ◌≢◌, ◌↔◌, ℕ, suc, ◌<◌, ◌≤◌, ◌-◌, Bool, true, false, List, length, Option, Some, None, IsSome, IfSome, IsTrue, ◌+◌, refl, sym, subst, inl, inr, take, drop, ◌∙◌, ap, rules, arith}
use Rattle.std.proofs.Math.Nat.{le-suc_iff}
use Rattle.std.proofs.lemmas.Bool.{cases_lt}
use Rattle.sqlite_wal.proofs.FormatLemmas.{part_front, part_is}
use Rattle.sqlite_wal.specs.Format.{part, be32, stored_sum, IsSigned, IsFrame, page_number, count_page}
use Rattle.sqlite_wal.specs.PageSize.{bytes_of, IsPageSize}
use Rattle.sqlite_wal.specs.declared.page_size.PageSize.{PageSize}
use Rattle.sqlite_wal.specs.Recovery.{header, frame, frame_at, sum_before, Passes}
use Rattle.sqlite_wal.proofs.PartLemmas.{frames_len-zero, frames_len-suc, frames_len-le}
use Rattle.sdb_linefile.specs.Damage.{HasSoundHeader, BeginsGroup, HasLostFrame, page_size_of}

-- a header with these parts is sound if its page size is one
pub sound_header : (log head : List ℕ) (n : ℕ) (r : Option PageSize) → header log ≡ head → IsSigned head → n ≡ be32 head 8 → be32 head 4 ≡ 3007000
    → (IsSome r ↔ IsPageSize n) → IfSome r (λ size. bytes_of size ≡ n) → IfSome r (λ size. HasSoundHeader log × (bytes_of size ≡ page_size_of log))
sound_header log head n None is signed size version valid value = tt
sound_header log head n (Some found) is signed size version valid value =
    rw (is, ← size) ((record { signed = signed; version = version; size = sym size }, valid.0 (search rules)), value)

-- no page size is found for a number that is one
pub none_invalid : (n : ℕ) (r : Option PageSize) → r ≡ None → (IsSome r ↔ IsPageSize n) → ¬ IsPageSize n
none_invalid n None is valid size = search (rules, valid.1 size)
none_invalid n (Some found) is valid size = search (rules, is)

lost_or_sound : (b : Bool) → (IsTrue b → ⊥) → (b ≡ false → ⊥) → ⊥
lost_or_sound true lost sound = lost refl
lost_or_sound false lost sound = sound refl

-- the frames before the offset were read: they have no lost frame
pub record IsReadTo (page_size : ℕ) (log : List ℕ) (at : ℕ) (sum : ℕ × ℕ) (is_lost : Bool) : Type 0 where
  pub index : ℕ
  pub is_at : at ≡ frame_at page_size index
  pub within : at ≤ length log
  pub sum_is : sum ≡ sum_before page_size log index
  pub lost : IsTrue is_lost → (i : ℕ) × (i < index) × (¬ Passes page_size log i)
  pub sound : is_lost ≡ false → (i : ℕ) → i < index → Passes page_size log i
  pub none : (i j : ℕ) → i < j → j < index → ¬ Passes page_size log i → ¬ BeginsGroup page_size log j

pub read_start : (page_size : ℕ) (log : List ℕ) (sum : ℕ × ℕ) → 32 ≤ length log → sum ≡ stored_sum (header log) 24 → IsReadTo page_size log 32 sum false
read_start page_size log sum long is = record {
  index = 0;
  is_at = omega (arith, frames_len-zero page_size);
  within = long;
  sum_is = is;
  lost = λ no. search (rules, no);
  sound = λ _ i lt. absurd (omega (arith, lt));
  none = λ i j lt low. absurd (omega (arith, low));
}

-- what the loop reads of the log: its header, and the frame at the offset
pub head_is : (log : List ℕ) → take 32 log ≡ header log
head_is log = sym (part_front log 32)

pub frame_is : (page_size : ℕ) (log : List ℕ) (at len : ℕ) → len ≡ 24 + page_size → take (at + len - at) (drop at log) ≡ part log at (24 + page_size)
frame_is page_size log at len is =
    let whole : at + len - at ≡ 24 + page_size = omega (arith, is) in
    ap (λ (n : ℕ). take n (drop at log)) whole ∙ sym (part_is log at (24 + page_size))

module _ (page_size : ℕ) (log : List ℕ) (at : ℕ) (sum : ℕ × ℕ) (is_lost : Bool) (read : IsReadTo page_size log at sum is_lost) where
  -- the frame at the offset
  abbrev pub next_frame : List ℕ
  next_frame = part log at (24 + page_size)

  next_frame_is : next_frame ≡ frame page_size log read.index
  next_frame_is = ap (λ (n : ℕ). part log n (24 + page_size)) read.is_at

  -- the test of the frame at the offset
  pub passes_next : {b : Bool} {h f : List ℕ} → h ≡ header log → f ≡ next_frame → at + (24 + page_size) ≤ length log → (IsTrue b ↔ IsFrame h sum f)
      → IsTrue b ↔ Passes page_size log read.index
  passes_next {b} {h} {f} same_head same_frame within tested = (
    λ yes. record {
      within = omega (arith, within, read.is_at);
      passes = rw (← read.sum_is, ← next_frame_is, ← same_head, ← same_frame) (tested.0 yes);
    },
    λ passes. tested.1 (rw (same_head, same_frame, read.sum_is, next_frame_is) passes.passes),
  )

  -- the frame at the offset begins a group after a lost frame
  pub found_lost : IsTrue is_lost → Passes page_size log read.index → page_number next_frame ≡ count_page → HasLostFrame page_size log
  found_lost lost is counts =
      let bad = read.lost lost in
      (bad.0, read.index, bad.1, bad.2, record { sound = is; counts = ap page_number (sym next_frame_is) ∙ counts })

  -- no frame is left
  pub found_none : length log - at < 24 + page_size → ¬ HasLostFrame page_size log
  found_none short (i, j, before, bad, begins) = elim (cases_lt j read.index) [
    | inl low ↦ read.none i j before low bad begins
    | inr past ↦ omega (arith, short, read.is_at, read.within, begins.sound.within, frames_len-le page_size _ _ past)
  ]

  module _ (at' : ℕ) (sum' : ℕ × ℕ) (is : at' ≡ at + (24 + page_size)) (within : at' ≤ length log) (stated : sum' ≡ stored_sum next_frame 16) where
    is_at_next : at' ≡ frame_at page_size (suc read.index)
    is_at_next = omega (arith, is, read.is_at, frames_len-suc page_size read.index)

    stated_next : sum' ≡ sum_before page_size log (suc read.index)
    stated_next = stated ∙ ap (λ (f : List ℕ). stored_sum f 16) next_frame_is

    pub read_lost : ¬ Passes page_size log read.index → IsReadTo page_size log at' sum' true
    read_lost bad = record {
      index = suc read.index;
      is_at = is_at_next;
      within = within;
      sum_is = stated_next;
      lost = λ _. (read.index, omega arith, bad);
      sound = λ no. search (rules, no);
      none = λ i j lt low before begins. elim (le-suc_iff.0 low) [
        | inl below ↦ read.none i j lt (omega (arith, below)) before begins
        | inr last ↦ (let here : j ≡ read.index = omega (arith, last) in bad (subst (Passes page_size log) here begins.sound))
      ];
    }

    pub read_sound : Passes page_size log read.index → (IsTrue is_lost → page_number next_frame ≢ count_page) → IsReadTo page_size log at' sum' is_lost
    read_sound is quiet = record {
      index = suc read.index;
      is_at = is_at_next;
      within = within;
      sum_is = stated_next;
      lost = λ yes. let bad = read.lost yes in (bad.0, omega (arith, bad.1), bad.2);
      sound = λ no i low. elim (le-suc_iff.0 low) [
        | inl below ↦ read.sound no i (omega (arith, below))
        | inr last ↦ (let here : read.index ≡ i = omega (arith, last) in subst (Passes page_size log) here is)
      ];
      none = λ i j lt low before begins. elim (le-suc_iff.0 low) [
        | inl below ↦ read.none i j lt (omega (arith, below)) before begins
        | inr last ↦ (let here : j ≡ read.index = omega (arith, last) in
            let counts : page_number next_frame ≡ count_page = ap page_number (next_frame_is) ∙ ap (λ (n : ℕ). page_number (frame page_size log n)) (sym here) ∙ begins.counts in
            lost_or_sound is_lost (λ yes. quiet yes counts) (λ no. before (read.sound no i (omega (arith, lt, here)))))
      ];
    }
