use Rattle.std.proofs.Common.{◌≡◌, ◌+◌, ◌++◌, Result, Ok, Err, OnErr, Option, List, take, drop, ap, sym, ◌∙◌, Global, subst, ◌≤◌, length, arith}
use Rattle.std.specs.Vec.Iter.{into_iter_steps}
use Rattle.std.specs.List.{concat, insert_slice, splice}
use Rattle.std.specs.Iterator.{Drains, DrainsIf}
use Rattle.std.proofs.lemmas.List.{map-id}
use Rattle.std.proofs.lemmas.List.Elements.{All-append, All-take, All-drop}
use Rattle.std.proofs.lemmas.Iterator.{items_from_drains}
use Rattle.std.proofs.lemmas.Iterator.Adapters.{YieldsList-from_vec}
use Rattle.sdb_rope.specs.RopeChunk.{chunk_list_texts, chunk_bytes, IsUniqueChunk}
use Rattle.sdb_rope.specs.declared.rope_chunk.RopeChunk.{RopeChunk}
use Rattle.sdb_rope.specs.Position.{AreBounded}
use Rattle.sdb_rope.proofs.ChunkEdits.{length_put}
use Rattle.sdb_rope.proofs.ChunkListLemmas.{text_at, same_set, put_chunk, put_chunks, short_append, short_take, short_drop, short_set}
use Rattle.sdb_rope.proofs.insert.insert_in_chunk.Goals as goal

on_err : {A E P : Type 0} (r : Result A E) → P → OnErr r P
on_err (Ok x) p = tt
on_err (Err e) p = p

if_drains : {S A : Type 0} (steps : S → Option A → S → Type 0) (s : S) (xs : List A) → Drains steps s xs → DrainsIf steps (Unit {0}) s xs
if_drains steps s xs d = (d.1.0, d.1.1, λ _. (d.0, d.1.2))

pub returns-in_err-done-clause-err : goal.returns-in_err-done-clause-err
returns-in_err-done-clause-err c =
    let ps = c.args.chunks.now.items in
    on_err c.from_residual.result (ap concat (same_set ps c.args.at c.insert.new.self
    (c.in_err-done.ensures.err ∙ sym (text_at ps c.args.at c.index_mut.result.now c.requires.in_list c.index_mut.ensures.value))))

pub returns-then-as_str-new-le-MAX_CHUNK_LEN-clause-ok : goal.returns-then-as_str-new-le-MAX_CHUNK_LEN-clause-ok
returns-then-as_str-new-le-MAX_CHUNK_LEN-clause-ok c =
    let ps = c.args.chunks.now.items in
    put_chunk ps c.insert.new.self c.args.new.now c.args.at c.args.byte c.requires.in_list
    (c.in_ok-done.ensures.ok ∙ ap (λ l. insert_slice l c.args.byte c.args.new.now) (sym (text_at ps c.args.at c.index_mut.result.now c.requires.in_list c.index_mut.ensures.value)))

pub returns-clause-ok : goal.returns-clause-ok
returns-clause-ok c =
    let ps = c.args.chunks.now.items in
    let it = c.in_ok-_removed_units.ensures.items in
    let fresh = c.in_ok-fresh.fresh in
    let all : it.1 ≡ fresh.items = sym (map-id it.1) ∙ items_from_drains it.1 (if_drains (into_iter_steps {X = RopeChunk} {Z = Global}) it.0 it.1 it.3) (YieldsList-from_vec {s = it.0} fresh.items it.2.0 (it.2.1 ∙ fresh.ok.0)) in
    let whole : concat (chunk_list_texts fresh.items) ≡ insert_slice (chunk_bytes c.index-2.result.now) c.args.byte c.args.new.now = c.in_ok-fresh.ensures.ok ∙ ap (λ l. insert_slice l c.args.byte c.args.new.now) c.as_str-2.ensures in
    ap (λ l. concat (chunk_list_texts l)) (it.4 ∙ ap (splice ps c.args.at (c.args.at + 1)) all)
    ∙ put_chunks ps fresh.items c.args.new.now c.args.at c.args.byte c.requires.in_list
    (whole ∙ ap (λ l. insert_slice l c.args.byte c.args.new.now) (sym (text_at ps c.args.at c.index-2.result.now c.requires.in_list c.index-2.ensures)))

pub returns-clause-unique : goal.returns-clause-unique
returns-clause-unique c =
    let ps = c.args.chunks.now.items in
    let it = c.in_ok-_removed_units.ensures.items in
    let fresh = c.in_ok-fresh.fresh in
    let all : it.1 ≡ fresh.items = sym (map-id it.1) ∙ items_from_drains it.1 (if_drains (into_iter_steps {X = RopeChunk} {Z = Global}) it.0 it.1 it.3) (YieldsList-from_vec {s = it.0} fresh.items it.2.0 (it.2.1 ∙ fresh.ok.0)) in
    let new = it.4 ∙ ap (splice ps c.args.at (c.args.at + 1)) all in
    λ own. rw new (All-append IsUniqueChunk (take c.args.at ps) (fresh.items ++ drop (c.args.at + 1) ps) (All-take IsUniqueChunk c.args.at ps own)
    (All-append IsUniqueChunk fresh.items (drop (c.args.at + 1) ps) c.in_ok-fresh.ensures.unique (All-drop IsUniqueChunk (c.args.at + 1) ps own)))

pub returns-in_err-done-clause-chunks_bounded : goal.returns-in_err-done-clause-chunks_bounded
returns-in_err-done-clause-chunks_bounded c =
    let ps = c.args.chunks.now.items in
    λ a. subst AreBounded (sym (same_set ps c.args.at c.insert.new.self
    (c.in_err-done.ensures.err ∙ sym (text_at ps c.args.at c.index_mut.result.now c.requires.in_list c.index_mut.ensures.value)))) a

pub returns-then-as_str-new-le-MAX_CHUNK_LEN-clause-chunks_bounded : goal.returns-then-as_str-new-le-MAX_CHUNK_LEN-clause-chunks_bounded
returns-then-as_str-new-le-MAX_CHUNK_LEN-clause-chunks_bounded c =
    let ps = c.args.chunks.now.items in
    let was = chunk_bytes c.index_mut.result.now in
    let same : was ≡ c.as_str.result.now = sym (text_at ps c.args.at c.index_mut.result.now c.requires.in_list c.index_mut.ensures.value) ∙ text_at ps c.args.at c.index.result.now c.requires.in_list c.index.ensures ∙ sym c.as_str.ensures in
    let size : length (chunk_bytes c.insert.new.self) ≤ 4096 = omega (arith, ap length c.in_ok-done.ensures.ok, length_put was c.args.new.now c.args.byte, ap length same, c.if-as_str-new-le-MAX_CHUNK_LEN.true) in
    λ a. short_set ps c.args.at c.insert.new.self size a

pub returns-clause-chunks_bounded : goal.returns-clause-chunks_bounded
returns-clause-chunks_bounded c =
    let ps = c.args.chunks.now.items in
    let it = c.in_ok-_removed_units.ensures.items in
    let fresh = c.in_ok-fresh.fresh in
    let all : it.1 ≡ fresh.items = sym (map-id it.1) ∙ items_from_drains it.1 (if_drains (into_iter_steps {X = RopeChunk} {Z = Global}) it.0 it.1 it.3) (YieldsList-from_vec {s = it.0} fresh.items it.2.0 (it.2.1 ∙ fresh.ok.0)) in
    let new = it.4 ∙ ap (splice ps c.args.at (c.args.at + 1)) all in
    λ a. rw new (short_append (take c.args.at ps) (fresh.items ++ drop (c.args.at + 1) ps) (short_take ps c.args.at a)
    (short_append fresh.items (drop (c.args.at + 1) ps) c.in_ok-fresh.ensures.chunks_bounded (short_drop ps (c.args.at + 1) a)))
