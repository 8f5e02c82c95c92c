use Rattle.std.proofs.Common.{◌≡◌, ◌+◌, ◌∷◌, drop, get_or, is_some, true, false, sym, ap, ◌∙◌, arith}
use Rattle.std.proofs.lemmas.List.{drop_all, drop_more}
use Rattle.json.specs.Value.{items_view, members_view, value_view}
use Rattle.json.proofs.Trees.{view-Object}
use Rattle.serde_json.specs.Data.{no_members}
use Rattle.serde_json.specs.Read.{of_items, of_json, of_members}
use Rattle.sdb_json.proofs.DataLemmas.{item_in_range, item_beyond, member_in_range, member_beyond, object_in_range}
use Rattle.sdb_json.proofs.parse.+numbers_in_range.Goals as goal

pub has_numbers_in_range-returns-in-Object : goal.has_numbers_in_range-returns-in-Object
has_numbers_in_range-returns-in-Object t c =
    let ms = c.in-Object.members in
    c.members_have_numbers_in_range.ensures ∙ ap (λ vs. is_some (of_members (members_view vs) no_members)) c.deref-in-Object.ensures.value
    ∙ sym (object_in_range (members_view ms.items)) ∙ ap (λ j. is_some (of_json j)) (sym (view-Object ms)) ∙ ap (λ v. is_some (of_json (value_view v))) (sym c.in-Object.is)

pub have_numbers_in_range-returns-then-not-has_numbers_in_range :
    goal.have_numbers_in_range-returns-then-not-has_numbers_in_range
have_numbers_in_range-returns-then-not-has_numbers_in_range t c =
    let vs = c.args.items.now in
    let i = c.loop-item.item-index in
    let v = c.item-item.result in
    let first = drop_more vs i v c.loop-item-test.true ∙ ap (λ w. w ∷ drop (i + 1) vs) (sym c.item-item.is) in
    let beyond = sym c.has_numbers_in_range.ensures ∙ c.if-not-has_numbers_in_range.true in
    sym (c.loop-item.invariant ∙ ap (λ ws. is_some (of_items (items_view ws))) first ∙ item_beyond (value_view v) (items_view (drop (i + 1) vs)) beyond)

pub have_numbers_in_range-loop-item-preserved : goal.have_numbers_in_range-loop-item-preserved
have_numbers_in_range-loop-item-preserved t c =
    let vs = c.args.items.now in
    let i = c.loop-item.item-index in
    let v = c.item-item.result in
    let first = drop_more vs i v c.loop-item-test.true ∙ ap (λ w. w ∷ drop (i + 1) vs) (sym c.item-item.is) in
    let within = sym c.has_numbers_in_range.ensures ∙ c.if-not-has_numbers_in_range.false in
    c.loop-item.invariant ∙ ap (λ ws. is_some (of_items (items_view ws))) first ∙ item_in_range (value_view v) (items_view (drop (i + 1) vs)) within

pub have_numbers_in_range-returns : goal.have_numbers_in_range-returns
have_numbers_in_range-returns t c =
    sym (c.loop-item.invariant ∙ ap (λ ws. is_some (of_items (items_view ws))) (drop_all c.loop-item.item-index c.args.items.now c.loop-item-test.false))

pub members_have_numbers_in_range-returns-then-not-has_numbers_in_range :
    goal.members_have_numbers_in_range-returns-then-not-has_numbers_in_range
members_have_numbers_in_range-returns-then-not-has_numbers_in_range t c =
    let vs = c.args.members.now in
    let i = c.loop-member.member-index in
    let v = c.loop-member-item.result in
    let first = drop_more vs i v c.loop-member-test.true ∙ ap (λ w. w ∷ drop (i + 1) vs) (sym c.loop-member-item.is) in
    let beyond = sym c.has_numbers_in_range.ensures ∙ c.if-not-has_numbers_in_range.true in
    sym (c.loop-member.invariant ∙ ap (λ ws. is_some (of_members (members_view ws) no_members)) first
    ∙ member_beyond v.0.now (value_view v.1) (members_view (drop (i + 1) vs)) beyond)

pub members_have_numbers_in_range-loop-member-preserved :
    goal.members_have_numbers_in_range-loop-member-preserved
members_have_numbers_in_range-loop-member-preserved t c =
    let vs = c.args.members.now in
    let i = c.loop-member.member-index in
    let v = c.loop-member-item.result in
    let first = drop_more vs i v c.loop-member-test.true ∙ ap (λ w. w ∷ drop (i + 1) vs) (sym c.loop-member-item.is) in
    let within = sym c.has_numbers_in_range.ensures ∙ c.if-not-has_numbers_in_range.false in
    c.loop-member.invariant ∙ ap (λ ws. is_some (of_members (members_view ws) no_members)) first
    ∙ member_in_range v.0.now (value_view v.1) (members_view (drop (i + 1) vs)) within

pub members_have_numbers_in_range-returns : goal.members_have_numbers_in_range-returns
members_have_numbers_in_range-returns t c =
    sym (c.loop-member.invariant ∙ ap (λ ws. is_some (of_members (members_view ws) no_members)) (drop_all c.loop-member.member-index c.args.members.now c.loop-member-test.false))
