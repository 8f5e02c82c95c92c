-- The output of a handler for its lines, in order.
use Rattle.std.specs.Prelude.{◌≡◌, ℕ, Bool, true, false, List, [], ◌∷◌, ◌++◌}
use Rattle.std.specs.declared.option.Option.{Option}
use Rattle.std.specs.Io.KnownBytes.{Appends}
use Rattle.sdb_lines.specs.Prefixes.{IsPrefix, AppendsPrefix}

-- the bytes are extended by a suffix of which P holds
abbrev pub AppendsWhere : List ℕ → List ℕ → (List ℕ → Type 0) → Type 0
AppendsWhere old new P = (more : List ℕ) × (new ≡ old ++ more) × P more

-- the bytes are the whole answer to a line, or a first part of it
module _ {S T : Type 0} (takes : S → Option (List ℕ) → List ℕ → S → Type 0) (is_answering : S → Option (List ℕ) → List ℕ → T → Type 0)
    (state : T → S) where
  abbrev pub AnswersLine : Bool → S → Option (List ℕ) → List ℕ → T → Type 0
  AnswersLine true s line bytes t = takes s line bytes (state t)
  AnswersLine false s line bytes t =
      is_answering s line bytes t × ((rest : List ℕ) × (last : S) × takes s line (bytes ++ rest) last)

-- takes s line answer t: the handler in state s answers this line with these bytes and is then in state t
module _ {S : Type 0} (takes : S → Option (List ℕ) → List ℕ → S → Type 0) where
  -- the handler in state s takes exactly these lines, in order, answers with these bytes and is then in state t
  abbrev pub Handles : S → List (Option (List ℕ)) → List ℕ → S → Type 0
  Handles s [] bytes t = (bytes ≡ []) × (t ≡ s)
  Handles s (line ∷ lines) bytes t = (answer : List ℕ) × (next : S) × (more : List ℕ)
      × takes s line answer next × Handles next lines more t × (bytes ≡ answer ++ more)

  -- the known bytes are extended by the opening text and the answers to all these lines
  pub record AppendsAnswers (s : S) (lines : List (Option (List ℕ))) (t : S) (first : List ℕ)
      (old new : Option (List ℕ)) : Type 0 where
    pub bytes : List ℕ
    pub run : Handles s lines bytes t
    pub wrote : Appends old new (first ++ bytes)

  -- the known bytes are extended by all of that except its pending suffix
  pub record AppendsAnswersUpTo (line_buffer : List ℕ) (s : S) (lines : List (Option (List ℕ))) (t : S) (first : List ℕ)
      (old new : Option (List ℕ)) : Type 0 where
    pub bytes : List ℕ
    pub written : List ℕ
    pub run : Handles s lines bytes t
    pub parts : first ++ bytes ≡ written ++ line_buffer
    pub wrote : Appends old new written

  -- the known bytes are extended by a prefix of the opening text and the answers to the first of these lines
  pub record AppendsAnswerPrefix (s : S) (lines : List (Option (List ℕ))) (first : List ℕ)
      (old new : Option (List ℕ)) : Type 0 where
    pub taken : List (Option (List ℕ))
    pub bytes : List ℕ
    pub last : S
    pub from_first : IsPrefix taken lines
    pub run : Handles s taken bytes last
    pub wrote : AppendsPrefix old new (first ++ bytes)
