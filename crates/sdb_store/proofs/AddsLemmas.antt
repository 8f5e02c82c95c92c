-- Lines that a saver adds and writes.
use Rattle.std.proofs.Common.{◌≡◌, ◌⊎◌, inl, inr, ℕ, suc, ◌+◌, ◌<◌, ◌≤◌, List, [], ◌∷◌, ◌++◌, length, map, slice_get, Some, sym, ap, ap₂, subst, ◌∙◌, append_assoc, append-nil, arith}
use Rattle.std.specs.Prelude.{drop, Vec}
use Rattle.std.specs.Global.{Global}
use Rattle.sdb_growlock.specs.LockRule.{ForEach}
use Rattle.sdb_backend.specs.UnsavedEntries.{PlainEntryAt, plain_entry_at}
use Rattle.sdb_backend.specs.declared.backend.Backend.{Backend}
use Rattle.sdb_backend.specs.declared.unsaved.EntryAt.{EntryAt}
use Rattle.sdb_dump.specs.ValueLimits.{IsSafeInteger}
use Rattle.sdb_dump.specs.JournalText.{number_line}
use Rattle.sdb_dump.specs.StoreMachine.{IsIn}
use Rattle.sdb_store.specs.SaverModel.{unwritten_lines, places_left, reserved_number, HasBlockLine, IsLineAt, IsJournalLine, is_block, is_entry, HasLineAt, TakesWithLines, AddsLines, CommitsRound}
use Rattle.sdb_store.specs.declared.saver.Saver.{Saver}
use Rattle.sdb_store.proofs.BetweenLemmas.{in_append, last_in, drop_at, drop_all}

module _ {A : Type 0} (P : A → Type 0) where
  pub each_append : (xs ys : List A) → ForEach P xs → ForEach P ys → ForEach P (xs ++ ys)
  each_append [] ys h k = k
  each_append (x ∷ xs) ys h k = (h.0, each_append xs ys h.1 k)

one_more : (n : ℕ) → n + 1 ≡ suc n
one_more n = omega arith

-- no place is left at the end of the taken entries
pub none_left_at_end : (s : Saver) → length s.taken.items ≤ s.position → places_left s ≡ []
none_left_at_end s le = ap (map plain_entry_at) (drop_all s.position s.taken.items le)

-- the block of the numbers to be reserved, with the same lines or more
block_kept : (s t : Saver) (more : List (List ℕ)) → unwritten_lines t ≡ unwritten_lines s ++ more
    → reserved_number t ≡ reserved_number s → t.group_reserved ≡ s.group_reserved → HasBlockLine s → HasBlockLine t
block_kept s t more lines same group (inl e) = inl (group ∙ e ∙ sym same)
block_kept s t more lines same group (inr i) =
    inr (subst (λ n. IsIn (number_line n) (unwritten_lines t)) (sym group)
    (subst (IsIn (number_line s.group_reserved)) (sym lines) (in_append (number_line s.group_reserved) (unwritten_lines s) more i)))

module _ {R : Type 0} (b : Backend R) where
  -- the lines, the places that are left and the numbers are unchanged
  pub adds_none : (s t : Saver) → unwritten_lines t ≡ unwritten_lines s → places_left t ≡ places_left s
      → reserved_number t ≡ reserved_number s → t.group_reserved ≡ s.group_reserved → AddsLines b s t
  adds_none s t lines places same group =
      let whole = lines ∙ sym (append-nil (unwritten_lines s)) in
      record {
        more = [];
        lines = whole;
        each = tt;
        left = λ e i. inr (subst (IsIn e) (sym places) i);
        reserved = same;
        block = block_kept s t [] whole same group;
      }

  -- no place was left, and those of another list are
  pub adds_places : (s t : Saver) → places_left s ≡ [] → unwritten_lines t ≡ unwritten_lines s
      → reserved_number t ≡ reserved_number s → t.group_reserved ≡ s.group_reserved → AddsLines b s t
  adds_places s t none lines same group =
      let whole = lines ∙ sym (append-nil (unwritten_lines s)) in
      record {
        more = [];
        lines = whole;
        each = tt;
        left = λ e i. absurd (subst (IsIn e) none i);
        reserved = same;
        block = block_kept s t [] whole same group;
      }

  pub adds_line : (s t : Saver) (e : EntryAt) (line : List ℕ) → unwritten_lines t ≡ unwritten_lines s ++ line ∷ []
      → slice_get s.taken.items s.position ≡ Some e → IsLineAt b (plain_entry_at e) line
      → t.taken ≡ s.taken → t.position ≡ s.position + 1
      → reserved_number t ≡ reserved_number s → t.group_reserved ≡ s.group_reserved → AddsLines b s t
  adds_line s t e line lines at is taken next same group =
      record {
        more = line ∷ [];
        lines = lines;
        each = (is_entry (plain_entry_at e) is, tt);
        left = λ x i. left_of x (subst (λ (l : List EntryAt). IsIn x (map plain_entry_at l)) (drop_at s.position s.taken.items e at) i);
        reserved = same;
        block = block_kept s t (line ∷ []) lines same group;
      }
    where
      left_of : (x : PlainEntryAt) → IsIn x (plain_entry_at e ∷ map plain_entry_at (drop (suc s.position) s.taken.items))
          → HasLineAt b (unwritten_lines t) x ⊎ IsIn x (places_left t)
      left_of x (inl eq) =
          inl (line, subst (λ (p : PlainEntryAt). IsLineAt b p line) (sym eq) is, subst (IsIn line) (sym lines) (last_in line (unwritten_lines s)))
      left_of x (inr i) =
          inr (subst (IsIn x) (sym (ap₂ (λ (n : ℕ) (v : Vec EntryAt Global). map plain_entry_at (drop n v.items)) (next ∙ one_more s.position) taken)) i)

  pub adds_block : (s t : Saver) (line : List ℕ) → unwritten_lines t ≡ unwritten_lines s ++ line ∷ []
      → line ≡ number_line t.group_reserved → IsSafeInteger t.group_reserved → places_left t ≡ places_left s → reserved_number t ≡ reserved_number s
      → AddsLines b s t
  adds_block s t line lines is safe places same =
      record {
        more = line ∷ [];
        lines = lines;
        each = (is_block t.group_reserved safe is, tt);
        left = λ e i. inr (subst (IsIn e) (sym places) i);
        reserved = same;
        block = λ h. inr (subst (λ x. IsIn x (unwritten_lines t)) is (subst (IsIn line) (sym lines) (last_in line (unwritten_lines s))));
      }

  has_line_more : (s t : Saver) → AddsLines b s t → (e : PlainEntryAt) → HasLineAt b (unwritten_lines s) e
      → HasLineAt b (unwritten_lines t) e
  has_line_more s t x e h =
      (h.0, h.1, subst (IsIn h.0) (sym x.lines) (in_append h.0 (unwritten_lines s) x.more h.2))

  pub takes_more : (s t : Saver) → AddsLines b s t → (i : ℕ) → TakesWithLines b (unwritten_lines s) i
      → TakesWithLines b (unwritten_lines t) i
  takes_more s t x i h =
      record {
        before = h.before;
        after = h.after;
        is_own = h.is_own;
        places = h.places;
        takes = h.takes;
        lines_at = λ e at. has_line_more s t x e (h.lines_at e at);
      }

  pub adds_both : (s t u : Saver) → AddsLines b s t → AddsLines b t u → AddsLines b s u
  adds_both s t u x y =
      record {
        more = x.more ++ y.more;
        lines = y.lines ∙ ap (λ lines. lines ++ y.more) x.lines ∙ append_assoc (unwritten_lines s) x.more y.more;
        each = each_append (IsJournalLine b) x.more y.more x.each y.each;
        left = λ e i. left_of e (x.left e i);
        reserved = y.reserved ∙ x.reserved;
        block = λ h. y.block (x.block h);
      }
    where
      left_of : (e : PlainEntryAt) → HasLineAt b (unwritten_lines t) e ⊎ IsIn e (places_left t)
          → HasLineAt b (unwritten_lines u) e ⊎ IsIn e (places_left u)
      left_of e (inl h) = inl (has_line_more t u y e h)
      left_of e (inr i) = y.left e i

  -- a place has its line if none is left
  pub lines_of_left : (s t : Saver) → AddsLines b s t → places_left t ≡ [] → (e : PlainEntryAt) → IsIn e (places_left s)
      → HasLineAt b (unwritten_lines t) e
  lines_of_left s t x none e i = of_left (x.left e i) where
    of_left : HasLineAt b (unwritten_lines t) e ⊎ IsIn e (places_left t) → HasLineAt b (unwritten_lines t) e
    of_left (inl h) = h
    of_left (inr at) = absurd (subst (IsIn e) none at)

-- what a write of the saver t reserves
abbrev pub ReservesWritten : Saver → Saver → Type 0
ReservesWritten t u =
    HasBlockLine t → HasBlockLine u
    × ((reserved_number u ≡ reserved_number t) ⊎ IsIn (number_line (reserved_number u)) (unwritten_lines t))

module _ {R W : Type 0} (has_lines : List (List ℕ) → W → Type 0) (b : Backend R) where
  pub commits_round : (s t u : Saver) (before after : W) → AddsLines b s t → places_left t ≡ []
      → ((i : ℕ) → i < 8 → TakesWithLines b (unwritten_lines t) i)
      → ((lines : List (List ℕ)) → has_lines lines before → has_lines (lines ++ unwritten_lines t) after)
      → unwritten_lines u ≡ [] → places_left u ≡ places_left t → ReservesWritten t u
      → CommitsRound b has_lines s u before after
  commits_round s t u before after x none takes written unwritten same reserves =
      record {
        more = x.more;
        each = x.each;
        written = λ lines h. subst (λ more. has_lines (lines ++ more) after) x.lines (written lines h);
        left = λ e i. subst (λ lines. HasLineAt b lines e) x.lines (lines_of_left b s t x none e i);
        taken = λ i lt. subst (λ lines. TakesWithLines b lines i) x.lines (takes i lt);
        none_left = (unwritten, same ∙ none);
        block = λ h. reserved_by ((reserves (x.block h)).1);
      }
    where
      reserved_by : (reserved_number u ≡ reserved_number t) ⊎ IsIn (number_line (reserved_number u)) (unwritten_lines t)
          → (reserved_number u ≡ reserved_number s) ⊎ IsIn (number_line (reserved_number u)) (unwritten_lines s ++ x.more)
      reserved_by (inl e) = inl (e ∙ x.reserved)
      reserved_by (inr i) = inr (subst (IsIn (number_line (reserved_number u))) x.lines i)
