use Rattle.std.proofs.Common.{◌≡◌, [], ◌∷◌, ◌++◌, true, false, string_bytes, sym, ap, ◌∙◌, subst, append_assoc}
use Rattle.sdb_sorted_map.specs.Iter.{remaining_entries}
use Rattle.sdb_sorted_map.specs.SortedMap.{map_entries, entry_keys}
use Rattle.sdb_sorted_map.specs.KeyOrder.{IsAscending}
use Rattle.sdb_projection.specs.ProjectionModel.{is_field}
use Rattle.sdb_projection.specs.View.{fields_of}
use Rattle.sdb_projection.proofs.MemberWalk.{MemberEntry, one_shown, one_hidden}
use Rattle.sdb_projection.proofs.project.project_members.Goals as goal

pub loop-key-preserved-in_ok-put_at_key : goal.loop-key-preserved-in_ok-put_at_key
loop-key-preserved-in_ok-put_at_key c =
    let fields = fields_of c.args.projection.now in
    let l = c.loop-key in
    let done = l.invariant.0 in
    let e : MemberEntry = (c.in-Some.key.now, c.in-Some.member.now) in
    let left = remaining_entries c.next.new.self in
    let all : map_entries c.args.members.now ≡ done ++ e ∷ left = l.invariant.1 ∙ ap (λ es. done ++ es) c.in-Some.ensures.steps in
    let is : is_field fields e.0 ≡ true = sym c.is_field.ensures ∙ c.if-is_field.true in
    let last = one_shown fields done e left (subst (λ es. IsAscending (entry_keys es)) all c.iter-key-items.ensures.ordered) is in
    let named : string_bytes c.in_ok-name.name ≡ e.0 = c.in_ok-name.ensures.ok in (
      done ++ e ∷ [],
      all ∙ sym (append_assoc done (e ∷ []) left),
      c.in_ok-put_at_key.ensures.ok ∙ rw (named, c.in_ok-try_clone.ensures.value, l.invariant.2) last,
    )

pub loop-key-preserved : goal.loop-key-preserved
loop-key-preserved c =
    let fields = fields_of c.args.projection.now in
    let l = c.loop-key in
    let done = l.invariant.0 in
    let e : MemberEntry = (c.in-Some.key.now, c.in-Some.member.now) in
    let is : is_field fields e.0 ≡ false = sym c.is_field.ensures ∙ c.if-is_field.false in (
      done ++ e ∷ [],
      l.invariant.1 ∙ ap (λ es. done ++ es) c.in-Some.ensures.steps ∙ sym (append_assoc done (e ∷ []) (remaining_entries c.next.new.self)),
      l.invariant.2 ∙ one_hidden fields done e is,
    )
