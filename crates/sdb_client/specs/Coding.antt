-- The code of a sent edit, which decides equality.
use Rattle.std.specs.Prelude.{ℕ, List, refl}
use Rattle.std.specs.Coded.{Coded, code_by, coded×, coded_ℕ}
use Rattle.sdb_component.specs.Plain.{PlainComponent}
use Rattle.sdb_component.specs.Coding.{op_code}
use Rattle.sdb_client_model.specs.Client.{SentEdit}

abbrev pub sent_edit_code : Coded SentEdit
sent_edit_code =
    code_by ((ℕ × ℕ) × List PlainComponent) (coded× (coded× coded_ℕ coded_ℕ) op_code)
    (λ t. ((t.seq, t.base), t.operation))
    (λ p. record { seq = p.0.0; base = p.0.1; operation = p.1 })
    (λ _. refl)
