-- What reading a text line's words comes to.
use Rattle.std.specs.Prelude.{◌≡◌, ℕ, true, ◌||◌, Some, None, List, [], ◌∷◌, Result, Ok, Err, codes}
use Rattle.board_words.specs.Faults.{first_in_order}
use Rattle.board_words.specs.Forms.{faults_of, is}
use Rattle.board_words.specs.Statements.{statement_of}
use Rattle.board_words.specs.declared.faults.FaultKind.{FaultKind}
use Rattle.board_words.specs.declared.statements.Statement.{Statement}
use Rattle.board_words.specs.declared.statements.StatementRefused.{StatementRefused}
use Rattle.board_words.specs.declared.statements.StatementRefused.TheVariants as refusals

-- the first of the faults, or without a fault the statement; memory may be refused
abbrev pub Tells : List FaultKind → Statement → Result Statement StatementRefused → Type 0
Tells kinds said (Ok statement) = (first_in_order kinds ≡ None) × (statement ≡ said)
Tells kinds said (Err (refusals.Fault kind)) = first_in_order kinds ≡ Some kind
Tells kinds said (Err refusals.NoMemory) = Unit {0}

-- the first fault of the words, or without a fault what they say
abbrev pub Reads : ℕ → List (List ℕ) → Result Statement StatementRefused → Type 0
Reads version words result = Tells (faults_of version words) (statement_of words) result

-- the first word is `picks` or `answers`
abbrev pub AreListed : List (List ℕ) → Type 0
AreListed [] = ⊥
AreListed (word ∷ words) = (is word (codes "picks") || is word (codes "answers")) ≡ true

-- memory is needed for picks and answers alone
abbrev pub WantsForLists : List (List ℕ) → Result Statement StatementRefused → Type 0
WantsForLists words (Ok statement) = Unit {0}
WantsForLists words (Err (refusals.Fault kind)) = Unit {0}
WantsForLists words (Err refusals.NoMemory) = AreListed words
