-- Codes of the plain data, which decide their equality.
use Rattle.std.specs.Prelude.{ℕ, List, refl}
use Rattle.std.specs.Coded.{Coded, code_by, coded×, coded_list}
use Rattle.sdb_value.specs.Coding.{text_code}
use Rattle.sdb_projection.specs.Table.{PlainProjection}

abbrev pub projection_code : Coded PlainProjection
projection_code =
    code_by (List ℕ × (List ℕ × List (List ℕ))) (coded× text_code (coded× text_code (coded_list text_code)))
    (λ p. (p.name, (p.base, p.fields))) (λ q. record { name = q.0; base = q.1.0; fields = q.1.1 })
    (λ _. refl)

abbrev pub table_code : Coded (List PlainProjection)
table_code = coded_list projection_code
