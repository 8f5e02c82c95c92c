-- The result of a checker from its state.
use Rattle.std.proofs.Common.{◌≡◌, ℕ, List, [], ◌∷◌, ◌++◌, true, false, bytes_eq, codes, Some, refl, sym, ap, ◌∙◌, subst}
use Rattle.std.specs.Prelude.{if◌then◌else◌}
use Rattle.std.specs.Fmt.{digits}
use Rattle.std.specs.Option.{option_map_or}
use Rattle.std.specs.Ordering.{is_lt}
use Rattle.json.specs.Print.{escape_byte}
use Rattle.sdb_oplog.specs.Keys.{PlainKey, compare_keys}
use Rattle.sdb_dump.specs.CheckerModel.{last_key, CheckerHolds, IsAtStage, CheckerAtStage}
use Rattle.sdb_dump.specs.DumpText.{PlainLine, key_not_below, header_line}
use Rattle.sdb_dump.specs.CheckStages.{PlainStage, head, body, done, wrong, stage_after_line}
use Rattle.sdb_dump.specs.declared.checker.Checker.{Checker}
use Rattle.sdb_dump.specs.declared.checker.Stage.{Stage}
use Rattle.sdb_dump.specs.declared.checker.Stage.TheVariants.{Header, Body, End}

pub follows_is : (xs : List PlainLine) (k : PlainKey)
    → key_not_below xs k ≡ option_map_or (λ l. if is_lt (compare_keys k l) then false else true) (last_key xs) true
follows_is [] k = refl
follows_is (x ∷ []) k = refl
follows_is (x ∷ y ∷ xs) k = follows_is (y ∷ xs) k

pub last_more : (xs : List PlainLine) (x : PlainLine) → last_key (xs ++ x ∷ []) ≡ Some x.key
last_more [] x = refl
last_more (y ∷ []) x = refl
last_more (y ∷ z ∷ xs) x = last_more (z ∷ xs) x

-- ---- the header

pub header_is : header_line ≡ codes "{\"dump\":2}"
unfolding escape_byte digits
header_is = refl

at_head : (g : Stage) (s : PlainStage) (c : Checker) → g ≡ Header → IsAtStage g s c → (s ≡ head) × CheckerHolds c []
at_head Header head c e h = (refl, h)
at_head Header (body xs) c e h = absurd h
at_head Header (done xs) c e h = absurd h
at_head Header (wrong n) c e h = absurd h
at_head Body s c e h = cc
at_head End s c e h = cc

pub head_taken : (c : Checker) (s : PlainStage) (l : List ℕ) → c.stage ≡ Header → bytes_eq l header_line ≡ true → CheckerAtStage c s
    → CheckerAtStage (record { alloc = c.alloc; stage = Body; logs = c.logs; last = c.last; entries = c.entries }) (stage_after_line s l)
head_taken c s l e is h =
    let d : Checker = record { alloc = c.alloc; stage = Body; logs = c.logs; last = c.last; entries = c.entries } in
    let a = at_head c.stage s c e h in
    let to : stage_after_line s l ≡ body [] = ap (λ x. stage_after_line x l) a.0 ∙ ap (λ b. if b then body [] else wrong 1) is in
    let holds : CheckerHolds d [] = record { logs = a.1.logs; last = a.1.last; filled = a.1.filled; rest = a.1.rest; fits = a.1.fits; counted = a.1.counted } in
    subst (CheckerAtStage d) (sym to) holds
