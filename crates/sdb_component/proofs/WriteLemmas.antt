-- A component's members in the order in which they are written.
use Rattle.std.proofs.Common.{◌≡◌, ◌≤◌, List, ◌∷◌, [], ◌++◌, length, codes, refl, sym, ap, ◌∙◌, append_assoc, arith}
use Rattle.std.proofs.lemmas.List.{length-append}
use Rattle.json.specs.Token.{Token, begin_object, key}
use Rattle.json.specs.Written.{WritesFront}
use Rattle.serde_json.specs.Data as raw
use Rattle.sdb_value.specs.ToJson.{array_tail_tokens, data_tokens, object_tail_tokens}
use Rattle.sdb_value.specs.Value.{PlainStep}
use Rattle.sdb_component.specs.Plain.{PlainAct, na, si, sd, li, ld, lr, oi, od, or}
use Rattle.sdb_component.specs.ToJson.{act_members, path_items}
use Rattle.sdb_component.specs.Write.{members_before_path, members_after_path}
use Rattle.sdb_value.specs.laws.PrefixLaws.{writes_prefix_after, writes_prefix_of_rest}

in_order : (a : PlainAct) (p : raw.Data) → members_before_path a (raw.member (codes "p") p (members_after_path a)) ≡ act_members a p
in_order (na x) p = refl
in_order (si i s) p = refl
in_order (sd i s) p = refl
in_order (li i v) p = refl
in_order (ld i x) p = refl
in_order (lr i x y) p = refl
in_order (oi k v) p = refl
in_order (od k x) p = refl
in_order (or k x y) p = refl

-- the brace, the values, the path and the texts, concatenated
pub put_together : (a : PlainAct) (p : raw.Data) (start values path end : List Token)
    → ((rest : raw.Members) → values ++ object_tail_tokens rest ≡ (start ++ begin_object ∷ []) ++ object_tail_tokens (members_before_path a rest))
    → path ≡ (values ++ key (codes "p") ∷ []) ++ data_tokens p
    → end ≡ path ++ object_tail_tokens (members_after_path a)
    → end ≡ start ++ data_tokens (raw.object (act_members a p))
put_together a p start values path end v e f =
    let rest = raw.member (codes "p") p (members_after_path a) in
    f ∙ ap (λ ts. ts ++ object_tail_tokens (members_after_path a)) (e ∙ append_assoc values _ _) ∙ append_assoc values _ _ ∙ v rest ∙ append_assoc start _ _
    ∙ ap (λ ms. start ++ begin_object ∷ object_tail_tokens ms) (in_order a p)

-- the members before the path add tokens
pub before_path_adds : (a : PlainAct) (rest : raw.Members) → length (object_tail_tokens rest) ≤ length (object_tail_tokens (members_before_path a rest))
before_path_adds (na x) rest = omega arith
before_path_adds (si i s) rest = omega arith
before_path_adds (sd i s) rest = omega arith
before_path_adds (li i v) rest = omega (arith, length-append {A = Token})
before_path_adds (ld i x) rest = omega (arith, length-append {A = Token})
before_path_adds (lr i x y) rest = omega (arith, length-append {A = Token})
before_path_adds (oi k v) rest = omega (arith, length-append {A = Token})
before_path_adds (od k x) rest = omega (arith, length-append {A = Token})
before_path_adds (or k x y) rest = omega (arith, length-append {A = Token})

-- steps add tokens
pub steps_add : (p : List PlainStep) → length (array_tail_tokens raw.no_items) ≤ length (array_tail_tokens (path_items p))
steps_add [] = omega arith
steps_add (s ∷ p) = omega (arith, length-append {A = Token}, steps_add p)

-- the members after the path have an end
pub after_path_ends : (a : PlainAct) → length (object_tail_tokens raw.no_members) ≤ length (object_tail_tokens (members_after_path a))
after_path_ends (na x) = omega arith
after_path_ends (si i s) = omega arith
after_path_ends (sd i s) = omega arith
after_path_ends (li i v) = omega arith
after_path_ends (ld i x) = omega arith
after_path_ends (lr i x y) = omega arith
after_path_ends (oi k v) = omega arith
after_path_ends (od k x) = omega arith
after_path_ends (or k x y) = omega arith

-- a prefix of the values, and one of what follows them
pub prefix_of_values : (a : PlainAct) (p : raw.Data) (start begun new : List Token) → begun ≡ start ++ begin_object ∷ []
    → ((rest : raw.Members) → WritesFront begun new (object_tail_tokens (members_before_path a rest))) → WritesFront start new (data_tokens (raw.object (act_members a p)))
prefix_of_values a p start begun new e w =
    let rest = raw.member (codes "p") p (members_after_path a) in
    writes_prefix_after start begun new (begin_object ∷ []) (object_tail_tokens (members_before_path a rest)) _ e (ap (λ ms. begin_object ∷ object_tail_tokens ms) (sym (in_order a p))) (w rest)

pub prefix_after_values : (a : PlainAct) (p : raw.Data) (start values new : List Token)
    → ((rest : raw.Members) → values ++ object_tail_tokens rest ≡ (start ++ begin_object ∷ []) ++ object_tail_tokens (members_before_path a rest))
    → WritesFront values new (object_tail_tokens (raw.member (codes "p") p (members_after_path a))) → WritesFront start new (data_tokens (raw.object (act_members a p)))
prefix_after_values a p start values new v =
    let rest = raw.member (codes "p") p (members_after_path a) in
    let same = v rest ∙ append_assoc start _ _ ∙ ap (λ ms. start ++ begin_object ∷ object_tail_tokens ms) (in_order a p) in
    writes_prefix_of_rest start values new (object_tail_tokens rest) (begin_object ∷ object_tail_tokens (act_members a p)) same (omega (arith, before_path_adds a rest, ap (λ ms. length (object_tail_tokens ms)) (in_order a p)))
