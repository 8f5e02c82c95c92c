use Rattle.std.proofs.Common.{rules, arith, ◌≡◌, ◌+◌, ◌-◌, ◌≤◌, ℕ, List, length, ◌<◌, ◌∙◌, sym, ap}
use Rattle.std.proofs.lemmas.Bool.{false≢true}
use Rattle.sqlite_wal.specs.Format.{stored_sum, page_number}
use Rattle.sdb_linefile.specs.Damage.{page_size_of}
use Rattle.sdb_linefile.proofs.LostFrames.{read_start, head_is, frame_is, passes_next, found_lost, found_none, read_lost, read_sound}
use Rattle.sdb_linefile.proofs.damage.has_lost_frame.Goals.{then-not-is_sound_frame, else-not-is_sound_frame+else-is_lost, else-is_lost-via-then-is_lost+else-read_number, else-is_lost-via-else-is_lost}
use Rattle.sdb_linefile.proofs.damage.has_lost_frame.Goals as goal

pub loop-at-init : goal.loop-at-init
loop-at-init c = read_start _ _ _ c.requires.long (c.read_sum-sum.ensures ∙ ap (λ (h : List ℕ). stored_sum h 24) (head_is c.args.log.now))

pub returns-then-read_number : goal.returns-then-read_number
returns-then-read_number c =
    let log = c.args.log.now in
    let same = frame_is (page_size_of log) log c.loop-at.at c.args.frame_len c.requires.size in
    let within : c.loop-at.at + (24 + page_size_of log) ≤ length log = omega (arith, c.loop-at-test.true, c.requires.size, c.loop-at.invariant.within) in
    let passes = passes_next _ _ _ _ _ c.loop-at.invariant (head_is log) same within c.is_sound_frame.ensures in
    let counts = ap page_number (sym same) ∙ sym c.read_number.ensures ∙ c.if-read_number.true in
    (λ _. found_lost _ _ _ _ _ c.loop-at.invariant c.if-is_lost.true (passes.0 c.if-not-is_sound_frame.false) counts, search rules)

pub loop-at-preserved : goal.loop-at-preserved
loop-at-preserved c =
    let log = c.args.log.now in
    let same = frame_is (page_size_of log) log c.loop-at.at c.args.frame_len c.requires.size in
    let within : c.loop-at.at + (24 + page_size_of log) ≤ length log = omega (arith, c.loop-at-test.true, c.requires.size, c.loop-at.invariant.within) in
    let next : c.loop-at.at + c.args.frame_len ≡ c.loop-at.at + (24 + page_size_of log) = omega (arith, c.requires.size) in
    let low : c.loop-at.at + c.args.frame_len ≤ length log = omega (arith, next, within) in
    let stated = c.read_sum-sum-in-loop-at.ensures ∙ ap (λ (f : List ℕ). stored_sum f 16) same in
    let passes = passes_next _ _ _ _ _ c.loop-at.invariant (head_is log) same within c.is_sound_frame.ensures in
    elim c.if-not-is_sound_frame.branch [
      | then-not-is_sound_frame w ↦
          rw w.is_lost-is (read_lost _ _ _ _ _ c.loop-at.invariant _ _ next low stated (λ is. false≢true (sym w.if-not-is_sound_frame.true ∙ passes.1 is)))
      | else-not-is_sound_frame+else-is_lost w ↦
          rw w.is_lost-is (read_sound _ _ _ _ _ c.loop-at.invariant _ _ next low stated (passes.0 w.if-not-is_sound_frame.false) (λ lost counts. elim w.else-is_lost.branch [
            | else-is_lost-via-then-is_lost+else-read_number w' ↦ w'.if-read_number.false (w'.read_number.ensures ∙ ap page_number same ∙ counts)
            | else-is_lost-via-else-is_lost w' ↦ false≢true (sym w'.if-is_lost.false ∙ lost)
          ]))
    ]

pub returns : goal.returns
returns c =
    let log = c.args.log.now in
    let short : length log - c.loop-at.at < 24 + page_size_of log = omega (arith, c.loop-at-test.false, c.requires.size) in
    (search rules, λ lost. absurd (found_none _ _ _ _ _ c.loop-at.invariant short lost))
