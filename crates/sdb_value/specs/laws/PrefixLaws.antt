-- The output of a write that failed.
use Rattle.std.proofs.Common.{◌≡◌, ◌≤◌, ℕ, List, [], ◌∷◌, ◌++◌, length, Result, Ok, Err, OnErr, refl, sym, ap, ◌∙◌, append_assoc, arith}
use Rattle.std.proofs.lemmas.List.{append-nil, length-append}
use Rattle.std.proofs.lemmas.Result.{on_err_weaker}
use Rattle.json.specs.Token.{Token, key}
use Rattle.json.specs.Written.{WritesFront}
use Rattle.serde_json.specs.Data as raw
use Rattle.sdb_value.specs.ToJson.{data_tokens, object_tail_tokens}

pub on_any_err : {T E P : Type 0} (r : Result T E) → P → OnErr r P
on_any_err (Ok a) p = tt
on_any_err (Err e) p = p

pub writes_prefix_refl : (old new ts : List Token) → new ≡ old → WritesFront old new ts
writes_prefix_refl old new ts e = ([], ts, refl, e ∙ sym (append-nil old))

-- a prefix of some tokens is a prefix of them with more appended
pub writes_prefix_append : (old new ts more : List Token) → WritesFront old new ts → WritesFront old new (ts ++ more)
writes_prefix_append old new ts more w = (w.0, w.1 ++ more, ap (λ l. l ++ more) w.2 ∙ append_assoc w.0 w.1 more, w.3)

-- with the tokens that were written before
pub writes_prefix_after : (old mid new done ts all : List Token) → mid ≡ old ++ done → all ≡ done ++ ts → WritesFront mid new ts → WritesFront old new all
writes_prefix_after old mid new done ts all e whole w =
    (done ++ w.0, w.1, whole ∙ ap (λ l. done ++ l) w.2 ∙ sym (append_assoc done w.0 w.1), w.3 ∙ ap (λ l. l ++ w.0) e ∙ append_assoc old done w.0)

pub writes_prefix_after_append : (old mid new done ts more all : List Token) → mid ≡ old ++ done → all ≡ done ++ (ts ++ more) → WritesFront mid new ts → WritesFront old new all
writes_prefix_after_append old mid new done ts more all e whole w = writes_prefix_after old mid new done (ts ++ more) all e whole (writes_prefix_append mid new ts more w)

-- the part written, if the rest is known
pub written_split : (old mid rest all : List Token) → mid ++ rest ≡ old ++ all → length rest ≤ length all → (done : List Token) × (all ≡ done ++ rest) × (mid ≡ old ++ done)
written_split [] mid rest all e h = (mid, sym e, refl)
written_split (t ∷ old) [] rest all e h = absurd (omega (arith, ap length e, length-append old all))
written_split (t ∷ old) (u ∷ mid) rest all e h =
    let same : mid ++ rest ≡ old ++ all = cc in
    let first : u ≡ t = cc in
    let w = written_split old mid rest all same h in
    (w.0, w.1, ap (λ x. x ∷ mid) first ∙ ap (λ l. t ∷ l) w.2)

-- a prefix of the rest, after the part written, is a prefix of all
pub writes_prefix_of_rest : (old mid new rest all : List Token) → mid ++ rest ≡ old ++ all → length rest ≤ length all → WritesFront mid new rest → WritesFront old new all
writes_prefix_of_rest old mid new rest all e h = let w = written_split old mid rest all e h in writes_prefix_after old mid new w.0 rest all w.2 w.1

-- a prefix of a member is a prefix of it with more members
pub member_prefix : {T E : Type 0} (r : Result T E) (old new : List Token) (k : List ℕ) (d : raw.Data) → OnErr r (WritesFront old new (key k ∷ data_tokens d))
    → OnErr r ((rest : raw.Members) → WritesFront old new (object_tail_tokens (raw.member k d rest)))
member_prefix r old new k d = on_err_weaker r (λ w rest. writes_prefix_append old new (key k ∷ data_tokens d) (object_tail_tokens rest) w)

-- its key was written before
pub member_value_prefix : {T E : Type 0} (r : Result T E) (old mid new : List Token) (k : List ℕ) (d : raw.Data) → mid ≡ old ++ key k ∷ []
    → OnErr r (WritesFront mid new (data_tokens d)) → OnErr r ((rest : raw.Members) → WritesFront old new (object_tail_tokens (raw.member k d rest)))
member_value_prefix r old mid new k d e = on_err_weaker r (λ w rest. writes_prefix_after_append old mid new (key k ∷ []) (data_tokens d) (object_tail_tokens rest) _ e refl w)

-- another member was written before
pub next_member_prefix : {T E : Type 0} (r : Result T E) (old mid new : List Token) (k l : List ℕ) (d e : raw.Data) → mid ≡ old ++ key k ∷ data_tokens d
    → OnErr r (WritesFront mid new (key l ∷ data_tokens e)) → OnErr r ((rest : raw.Members) → WritesFront old new (object_tail_tokens (raw.member k d (raw.member l e rest))))
next_member_prefix r old mid new k l d e first =
    on_err_weaker r (λ w rest. writes_prefix_after_append old mid new (key k ∷ data_tokens d) (key l ∷ data_tokens e) (object_tail_tokens rest) _ first refl w)

-- these tokens were written, and the next one was not
pub token_refused_prefix : {T E : Type 0} (r : Result T E) (old mid new done rest : List Token) → mid ≡ old ++ done → OnErr r (new ≡ mid) → OnErr r (WritesFront old new (done ++ rest))
token_refused_prefix r old mid new done rest e = on_err_weaker r (λ h. (done, rest, refl, h ∙ e))
