-- Codes of the plain data, which decide their equality.
use Rattle.std.specs.Prelude.{◌≡◌, ℕ, List, Option, ◌⊎◌, refl}
use Rattle.std.specs.Coded.{Coded, code_by, coded×, coded⊎, coded_ℕ, coded_list, coded_option}
use Rattle.std.proofs.Common.{inl, inr}
use base.Stored.{coded_unit}
use Rattle.sdb_value.specs.Value.{Value}
use Rattle.sdb_value.specs.Coding.{value_code, text_code}
use Rattle.sdb_component.specs.Plain.{PlainComponent}
use Rattle.sdb_component.specs.Coding.{op_code}
use Rattle.sdb_oplog.specs.Plain.{PlainContent, create, delete, edit, PlainSubmission, PlainEntry}

abbrev Cases : Type 0
Cases = Value ⊎ (Unit {0} ⊎ List PlainComponent)

abbrev to_cases : PlainContent → Cases
to_cases (create v) = inl v
to_cases delete = inr (inl tt)
to_cases (edit op) = inr (inr op)

abbrev from_cases : Cases → PlainContent
from_cases (inl v) = create v
from_cases (inr (inl u)) = delete
from_cases (inr (inr op)) = edit op

pub back : (m : PlainContent) → from_cases (to_cases m) ≡ m
back (create v) = refl
back delete = refl
back (edit op) = refl

abbrev pub content_code : Coded PlainContent
content_code = code_by Cases (coded⊎ value_code (coded⊎ coded_unit op_code)) to_cases from_cases back

-- source and seq, version and content, via and by
abbrev Fields : Type 0
Fields = (List ℕ × ℕ) × ((Option ℕ × PlainContent) × (List ℕ × ℕ))

abbrev fields_code : Coded Fields
fields_code =
    coded× (coded× text_code coded_ℕ) (coded× (coded× (coded_option coded_ℕ) content_code) (coded× text_code coded_ℕ))

abbrev pub submission_code : Coded PlainSubmission
submission_code =
    code_by Fields fields_code (λ s. ((s.src, s.seq), ((s.version, s.content), (s.via, s.by))))
    (λ p. record { src = p.0.0; seq = p.0.1; version = p.1.0.0; content = p.1.0.1; via = p.1.1.0; by = p.1.1.1 })
    (λ _. refl)

abbrev pub entry_code : Coded PlainEntry
entry_code =
    code_by ((ℕ × ℕ) × (PlainContent × PlainSubmission)) (coded× (coded× coded_ℕ coded_ℕ) (coded× content_code submission_code))
    (λ e. ((e.version, e.moment), (e.content, e.arrived))) (λ p. record { version = p.0.0; moment = p.0.1; content = p.1.0; arrived = p.1.1 })
    (λ _. refl)

abbrev pub log_code : Coded (List PlainEntry)
log_code = coded_list entry_code
