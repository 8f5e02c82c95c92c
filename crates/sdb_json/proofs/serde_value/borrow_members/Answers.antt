use Rattle.std.proofs.Common.{◌≡◌, [], ◌∷◌, ◌++◌, string_bytes, rules, sym, ap, ◌∙◌, subst, append_assoc}
use Rattle.std.specs.List.Sorted.{IsStrictlySortedBy}
use Rattle.std.specs.Map.{keys_of}
use Rattle.std.specs.String.{string_cmp}
use Rattle.serde_json.specs.Data.{put}
use Rattle.serde_json.specs.View.{view}
use Rattle.serde_json.proofs.Views.{Entry, put_last}
use Rattle.sdb_json.specs.TreeData.{sorted_members}
use Rattle.sdb_json.proofs.ObjectLemmas.{sorted_insert}
use Rattle.sdb_json.proofs.serde_value.borrow_members.Goals as goal

pub loop-key-preserved : goal.loop-key-preserved
loop-key-preserved c =
    let l = c.loop-key in
    let done = l.invariant.done in
    let e : Entry = (c.in-Some.key.now, c.in-Some.member.now) in
    let left = c.next.new.self in
    let all : c.args.members.now.entries ≡ done ++ e ∷ left = l.invariant.split ∙ ap (λ es. done ++ es) c.in-Some.ensures.steps in
    let ordered = subst (λ es. IsStrictlySortedBy string_cmp (keys_of es)) all c.iter-key-items.ensures.ordered in
    let text : c.as_str.result.now ≡ string_bytes c.in-Some.key.now = search rules in
    record {
      done = done ++ e ∷ [];
      split = all ∙ sym (append_assoc done (e ∷ []) left);
      same = ap (sorted_members view) c.in_ok-insert.ensures.entries ∙ sorted_insert view l.found.entries c.as_str.result c.in-Some.member
          ∙ ap (λ k. put k (view e.1) (sorted_members view l.found.entries)) text ∙ ap (put (string_bytes e.0) (view e.1)) l.invariant.same ∙ put_last done e left ordered;
    }
