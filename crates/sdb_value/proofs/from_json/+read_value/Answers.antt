use Rattle.std.proofs.Common.{◌≡◌, ◌<◌, ◌≤◌, option_map, ℕ, ◌+◌, length, List, [], ◌∷◌, ◌++◌, drop, map, ap, sym, ◌∙◌, subst, refl, arith, append_assoc}
use Rattle.std.proofs.lemmas.List.{drop_more, drop_all}
use Rattle.std.proofs.lemmas.Result.{err_from_is_err_and}
use Rattle.serde_json.specs.Data as raw
use Rattle.serde_json.specs.View as data-view
use Rattle.sdb_json.specs.TreeData.{sorted_members}
use Rattle.sdb_sorted_map.specs.MapEntry.{key_value}
use Rattle.sdb_sorted_map.specs.SortedMap.{map_entries, is_unique_map, map_chunks}
use Rattle.sdb_chunks.specs.ChunkedVec.{vec_items}
use Rattle.sdb_sorted_map.specs.SearchModel.{entry_key_bytes}
use Rattle.sdb_value.specs.Value.{append_items, members_depth}
use Rattle.sdb_value.specs.FromJson.{items_of_data, IsReadFault, IsMembersReadFault}
use Rattle.sdb_value.specs.View.{items_value, members_value}
use Rattle.sdb_value.specs.declared.from_json.ValueFault.{ValueFault}
use Rattle.sdb_value.specs.declared.from_json.ValueFault.TheVariants.{NumberOutOfRange, TooDeep, OutOfMemory}
use Rattle.sdb_value.specs.Uniqueness.{items_unique, members_unique}
use Rattle.sdb_value.proofs.CloneLemmas.{unique_push}
use Rattle.sdb_value.proofs.ListLemmas.{and_intro}
use Rattle.sdb_value.proofs.ReadLemmas.{ReadEntry, AreReadMembers, entries_own, all_ascend, members_names, member_low, member_unique, object_made, owns_of, read_more, read_all, low_push, member_more, member_none, member_deep}
use Rattle.sdb_value.proofs.from_json.+read_value.Goals as goal

pub read_items-loop-item-preserved : goal.read_items-loop-item-preserved
read_items-loop-item-preserved g t c =
    let f = g.D.JsonData.json in
    let s = c.args.items.now in let i = c.loop-item.item-index in let x = c.item-item.result in
    let inside : i < length s = c.loop-item-test.true in
    let cut : data-view.items_of (map f (drop i s)) ≡ raw.item (f x) (data-view.items_of (map f (drop (i + 1) s))) =
    ap (λ ys. data-view.items_of (map f ys)) (drop_more s i x inside) ∙ ap (λ y. raw.item (f y) (data-view.items_of (map f (drop (i + 1) s)))) (sym c.item-item.is) in
    let pushed = c.in_ok-push_item.ensures.ok in
    let before = c.loop-item.invariant in
    record {
      reads = rw pushed (read_more c.loop-item.done.items c.in_ok-new.new (data-view.items_of (map f s)) (data-view.items_of (map f (drop (i + 1) s))) (f x) c.in_ok-new.ensures.ok (before.reads ∙ ap (λ ds. option_map (append_items (items_value c.loop-item.done.items)) (items_of_data ds)) cut));
      low = rw pushed (low_push c.loop-item.done.items c.in_ok-new.new c.args.left before.low c.in_ok-new.ensures.depth);
      rest = omega (arith, ap raw.items_depth cut, before.rest);
      own = ap items_unique pushed ∙ unique_push c.loop-item.done.items c.in_ok-new.new before.own c.in_ok-new.ensures.unique;
    }

pub read_items-returns-clause-ok : goal.read_items-returns-clause-ok
read_items-returns-clause-ok g t c =
    let f = g.D.JsonData.json in
    let s = c.args.items.now in
    read_all c.loop-item.done.items (data-view.items_of (map f s)) (c.loop-item.invariant.reads ∙ rw (drop_all c.loop-item.item-index s c.loop-item-test.false) refl)

refused_below : {D : Type 0} (f : D → raw.Data) (done : List (ReadEntry D)) (e : ReadEntry D) (more : List (ReadEntry D)) (n : ℕ) (v : ValueFault) → IsReadFault n (f e.1.now) v → IsMembersReadFault n (sorted_members f (done ++ e ∷ more)) v
refused_below f done e more n NumberOutOfRange h = member_none f done e more h
refused_below f done e more n TooDeep h = member_deep f done e more n h
refused_below f done e more n OutOfMemory h = tt

pub read_members-returns-in_err-value-clause-err : goal.read_members-returns-in_err-value-clause-err
read_members-returns-in_err-value-clause-err g t c =
    let f = g.D.JsonData.json in
    let e : ReadEntry g.row.D.Denot = (c.in-Some.key.now, c.in-Some.member.now) in
    let l = c.loop-key in
    let all : c.args.members.now.entries ≡ l.invariant.done ++ e ∷ c.next.new.self = l.invariant.split ∙ ap (λ es. l.invariant.done ++ es) c.in-Some.ensures.steps in
    let refused : IsMembersReadFault c.args.left (sorted_members f c.args.members.now.entries) c.in_err-value.field-0.0 =
    rw all (refused_below f l.invariant.done e c.next.new.self c.args.left c.in_err-value.field-0.0 c.in_err-value.ensures.err) in
    let r = c.from_residual-in_err-value in
    let p = err_from_is_err_and r.result r.ensures.1 in rw (p.1, p.2) refused

pub read_members-loop-key-preserved : goal.read_members-loop-key-preserved
read_members-loop-key-preserved g t c =
    let l = c.loop-key in
    let done = l.invariant.done in
    let e : ReadEntry g.row.D.Denot = (c.in-Some.key.now, c.in-Some.member.now) in
    let left = c.next.new.self in
    let pushed = c.in_ok-push_object_member.ensures in
    let ms = map key_value l.entries.items in
    record {
      done = done ++ e ∷ [];
      split = l.invariant.split ∙ ap (λ es. done ++ es) c.in-Some.ensures.steps ∙ sym (append_assoc done (e ∷ []) left);
      reads = rw pushed (member_more g.D.JsonData.json done ms e c.in_ok-value.value l.invariant.reads c.in_ok-value.ensures.ok);
      low = rw pushed (member_low ms (e.0.now, c.in_ok-value.value) c.args.left l.invariant.low c.in_ok-value.ensures.depth);
      own = ap entries_own pushed ∙ member_unique ms (e.0.now, c.in_ok-value.value) l.invariant.own c.in_ok-value.ensures.unique;
    }

pub read_members-loop-key-init : goal.read_members-loop-key-init
read_members-loop-key-init g t c =
    let none = ap (map key_value) c.in_ok-entries.ensures.items in
    record {
      done = [];
      split = sym (c.into_iter-key-iterator.ensures.into_iter_gives ∙ c.iter-key-items.ensures.rest);
      reads = subst (AreReadMembers g.D.JsonData.json []) (sym none) tt;
      low = subst (λ es. members_depth (members_value es) ≤ c.args.left) (sym none) (omega arith);
      own = ap entries_own none;
    }

pub read_members-from_sorted-requires : goal.read_members-from_sorted-requires
read_members-from_sorted-requires g t c =
    let l = c.loop-key in
    all_ascend c.args.members.now.entries l.invariant.done l.key-iterator (entry_key_bytes l.entries.items)
    l.invariant.split c.in-None.ensures.steps.0 (members_names g.D.JsonData.json l.invariant.done l.entries.items l.invariant.reads) c.iter-key-items.ensures.ordered

pub read_members-returns-clause-ok : goal.read_members-returns-clause-ok
read_members-returns-clause-ok g t c =
    let l = c.loop-key in
    let made = c.in_ok-from_sorted in
    object_made g.D.JsonData.json c.args.members.now.entries l.invariant.done l.key-iterator (map key_value l.entries.items) (map_entries made.field-0)
    l.invariant.split c.in-None.ensures.steps.0 l.invariant.reads made.ensures.members

pub read_members-returns-clause-depth : goal.read_members-returns-clause-depth
read_members-returns-clause-depth g t c =
    subst (λ es. members_depth (members_value es) ≤ c.args.left) (sym c.in_ok-from_sorted.ensures.members) c.loop-key.invariant.low

pub read_members-returns-clause-unique : goal.read_members-returns-clause-unique
read_members-returns-clause-unique g t c =
    let m = c.in_ok-from_sorted.field-0 in
    and_intro (is_unique_map m) (members_unique (vec_items (map_chunks m))) c.in_ok-from_sorted.ensures.unique
    (owns_of (vec_items (map_chunks m)) ∙ ap entries_own c.in_ok-from_sorted.ensures.members ∙ c.loop-key.invariant.own)
