use Rattle.std.proofs.Common.{◌∷◌, [], ◌++◌, map, String, string_bytes, sym, ap, ◌∙◌, subst, append_assoc}
use Rattle.std.proofs.lemmas.Result.{IfOk-weaker}
use Rattle.std.specs.declared.alloc.Global.{Global}
use Rattle.sdb_sorted_map.specs.MapEntry.{key_value}
use Rattle.sdb_sorted_map.specs.KeyOrder.{IsAscending}
use Rattle.sdb_sorted_map.proofs.EntryLemmas.{map_append_one, without_end, ascending_bytes, texts_entries}
use Rattle.sdb_sorted_map.proofs.sorted_map.SortedMap.from_map.Goals as goal

pub loop-key-preserved : goal.loop-key-preserved
loop-key-preserved g c =
    let l = c.loop-key in
    let done = l.invariant.done in
    let e : String Global × g.row.V.Denot = (c.in-Some.key, c.in-Some.value) in
    let left = c.next.new.self in
    record {
      done = done ++ e ∷ [];
      split = l.invariant.split ∙ ap (λ es. done ++ es) c.in-Some.ensures.steps ∙ sym (append_assoc done (e ∷ []) left);
      members = map_append_one key_value (λ (d : String Global × g.row.V.Denot). (string_bytes d.0, d.1)) l.members.items c.push.new.self.items _ done e c.in_ok-push.ensures.items l.invariant.members
          (ap (λ b. (b, c.in-Some.value)) c.new.ensures);
    }

pub from_sorted-requires : goal.from_sorted-requires
from_sorted-requires g c =
    let l = c.loop-key in
    let all = without_end c.args.entries.entries l.invariant.done l.key-iterator l.invariant.split c.in-None.ensures.steps.0 in
    subst IsAscending
    (sym (texts_entries (λ (d : String Global × g.row.V.Denot). string_bytes d.0) (λ (d : String Global × g.row.V.Denot). d.1) l.members.items l.invariant.done l.invariant.members
    ∙ ap (map (λ (e : String Global × g.row.V.Denot). string_bytes e.0)) all)) (ascending_bytes c.args.entries.entries c.len.ensures.ordered)

pub returns-clause-members : goal.returns-clause-members
returns-clause-members g c =
    let l = c.loop-key in
    let all = without_end c.args.entries.entries l.invariant.done l.key-iterator l.invariant.split c.in-None.ensures.steps.0 in
    IfOk-weaker c.from_sorted.result _ _ (λ m h. h ∙ l.invariant.members ∙ ap (map (λ (e : String Global × g.row.V.Denot). (string_bytes e.0, e.1))) all) c.from_sorted.ensures.members
