-- The documents of a log within the limits.
use Rattle.std.proofs.Common.{◌≡◌, ℕ, zero, suc, List, [], ◌∷◌, ◌++◌, take, Option, Some, None, Ok, Err, subst, arith, length-append}
use Rattle.std.specs.Prelude.{⊤}
use Rattle.std.specs.Option.{option_map_or}
use Rattle.std.specs.Result.{result_ok}
use Rattle.sdb_value.specs.Value.{Value}
use Rattle.sdb_component.specs.Plain.{PlainComponent}
use Rattle.sdb_apply.specs.Apply.{apply, apply_one}
use Rattle.sdb_oplog.specs.Keys.{PlainKey}
use Rattle.sdb_oplog.specs.Plain.{PlainContent, create, delete, edit, PlainEntry}
use Rattle.sdb_oplog.specs.Refusal.{result_and_then}
use Rattle.sdb_oplog.specs.Snap.{apply_content, snap, snap_from}
use Rattle.sdb_oplog.specs.Decide.{IsMade, IsMadeFrom}
use Rattle.sdb_oplog.specs.declared.codes.Code.TheVariants.{E8}
use Rattle.sdb_dump.specs.DumpLaws.{AllInLimits}
use Rattle.sdb_dump.specs.EntryLimits.{ContentInLimits}
use Rattle.sdb_dump.specs.LogListing.{lines_of_log}
use Rattle.sdb_dump.specs.ValueLimits.{ValueInLimits, ComponentsInLimits}
use Rattle.sdb_dump.proofs.AcceptLemmas.{LogInLimits, append_in_limits, contents_more}
use Rattle.sdb_dump.proofs.ActLimitLemmas.{whole_length}
use Rattle.sdb_dump.proofs.CrossLimits.{AllContentsInLimits}
use Rattle.sdb_dump.proofs.EffectLimits.{does_fits}
use Rattle.sdb_dump.proofs.HoldsLemmas.{IfSomeHolds, opt_then}

abbrev pub DocumentInLimits : Option Value → Type 0
DocumentInLimits None = ⊤
DocumentInLimits (Some d) = ValueInLimits 100 d

op_keeps : (cs : List PlainComponent) (d : Value) → ComponentsInLimits 100 cs → ValueInLimits 100 d → IfSomeHolds (ValueInLimits 100) (apply cs d)
op_keeps [] d h k = k
op_keeps (c ∷ cs) d h k =
    let short = h.0.short in
    opt_then (ValueInLimits 100) (ValueInLimits 100) (apply cs) (apply_one c d) (does_fits c d h.0.act (omega (arith, short, whole_length c.path c.act)) k) (λ e m. op_keeps cs e h.1 m)

edited : (o : Option Value) → IfSomeHolds (ValueInLimits 100) o
    → IfSomeHolds DocumentInLimits (result_ok (result_and_then (λ e. Ok (Some e)) (option_map_or (λ e. Ok e) o (Err E8))))
edited None h = tt
edited (Some e) h = h

content_keeps : (m : PlainContent) (d : Option Value) → ContentInLimits 100 m → DocumentInLimits d → IfSomeHolds DocumentInLimits (result_ok (apply_content m d))
content_keeps (create v) None h k = (h.0, omega (arith, h.1))
content_keeps (create v) (Some d) h k = tt
content_keeps delete d h k = tt
content_keeps (edit cs) None h k = tt
content_keeps (edit cs) (Some d) h k = edited (apply cs d) (op_keeps cs d h k)

snap_keeps : (es : List PlainEntry) (d : Option Value) → AllContentsInLimits es → DocumentInLimits d → IfSomeHolds DocumentInLimits (snap_from d es)
snap_keeps [] d h k = k
snap_keeps (e ∷ es) d h k = opt_then DocumentInLimits DocumentInLimits (λ n. snap_from n es) (result_ok (apply_content e.content d)) (content_keeps e.content d h.0 k) (λ n m. snap_keeps es n h.1 m)

take_contents : (n : ℕ) (es : List PlainEntry) → AllContentsInLimits es → AllContentsInLimits (take n es)
take_contents zero es h = tt
take_contents (suc n) [] h = tt
take_contents (suc n) (e ∷ es) h = (h.0, take_contents n es h.1)

-- the contents of a made log are within the limits if its submissions are
contents_of : (k : PlainKey) (before more : List PlainEntry) → LogInLimits before → IsMadeFrom before more → AllInLimits (lines_of_log k more) → AllContentsInLimits more
contents_of k before [] h m f = tt
contents_of k before (e ∷ es) h m f =
    let g = append_in_limits before e h f.1 f.2 m.0 in
    let next : LogInLimits (before ++ e ∷ []) = (contents_more before e h.0 g.fits.content, omega (arith, length-append before (e ∷ []), g.some_room)) in
    (g.fits.content, contents_of k (before ++ e ∷ []) es next m.1 f.3)

pub documents_bounded : (k : PlainKey) (log : List PlainEntry) → IsMade log → AllInLimits (lines_of_log k log)
    → (n : ℕ) (d : Value) → snap (take n log) ≡ Some (Some d) → ValueInLimits 100 d
documents_bounded k log made f n d e =
    let contents = contents_of k [] log (tt, omega arith) made f in
    subst (IfSomeHolds DocumentInLimits) e (snap_keeps (take n log) None (take_contents n log contents) tt)
