-- Answers as written to a sink.
use Rattle.std.specs.Prelude.{ℕ, List, [], ◌∷◌, ◌++◌}
use Rattle.sdb_wire.specs.Answers.{PlainAnswer, answer_text}

-- the items of answers, concatenated
abbrev pub answer_items : {A : Type 0} → (PlainAnswer → List A) → List PlainAnswer → List A
answer_items f [] = []
answer_items f (a ∷ more) = f a ++ answer_items f more

-- an answer as a line
abbrev pub answer_line : PlainAnswer → List ℕ
answer_line a = answer_text a ++ 10 ∷ []

-- an answer as a text
abbrev pub answer_texts : PlainAnswer → List (List ℕ)
answer_texts a = answer_text a ∷ []

-- answers as lines
abbrev pub answer_lines : List PlainAnswer → List ℕ
answer_lines = answer_items answer_line
