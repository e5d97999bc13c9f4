-- The words of the command line, and what they ask for.
use Rattle.std.specs.Prelude.{◌≡◌, ◌⊎◌, ℕ, ◌≤◌, Bool, true, Option, MatchOption, List, [], ◌∷◌}
use Rattle.std.specs.Prelude.{codes, decimal}
use Rattle.log_text.specs.Formed.{IsSmall}
use Rattle.irq_base.specs.declared.numbers.LineNo.{LineNo}
use Rattle.line_wanted.specs.declared.wanted.Wanted.{Wanted}
use Rattle.line_wanted.specs.declared.wanted.Wanted.TheVariants as wants
use Rattle.log_read.specs.Versions.{may_have}
use Rattle.explore_words.specs.Rows.{Spells, joined}
use Rattle.explore_words.specs.declared.Asked.{Asked}
use Rattle.explore_words.specs.declared.What.{What}
use Rattle.explore_words.specs.declared.What.TheVariants as whats

-- how many states of a line a search visits, if the words don't say
abbrev pub usual_states : ℕ
usual_states = 1000000

-- a search may be asked for this many states
abbrev pub IsCount : ℕ → Type 0
IsCount n = (1 ≤ n) × (n ≤ 100000000)

-- the words behind `--play` are the row
pub record SpellsPlay (words : List (List ℕ)) (line : LineNo) (wanted : Wanted) : Type 0 where
  pub rest : List (List ℕ)
  pub words_are : words ≡ codes "--play" ∷ rest
  pub row : Spells (joined rest) line wanted

-- No words: all lines are surveyed. `--line` and a number: that line. Other words are a row, in one
-- argument or in several, behind `--play` or without it.
abbrev pub AsksWhat : List (List ℕ) → What → Type 0
AsksWhat words whats.Survey = words ≡ []
AsksWhat words (whats.Line line) = (words ≡ codes "--line" ∷ decimal line.0 ∷ []) × IsSmall line.0
AsksWhat words (whats.Row line wanted) = Spells (joined words) line wanted
AsksWhat words (whats.Play line wanted) = SpellsPlay words line wanted

-- `--states` and a number stand before the words that say what is asked
pub record HasStates (words : List (List ℕ)) (asked : Asked) : Type 0 where
  pub rest : List (List ℕ)
  pub words_are : words ≡ codes "--states" ∷ decimal asked.states ∷ rest
  pub count : IsCount asked.states
  pub what : AsksWhat rest asked.what

-- what the words ask for; none if they ask for nothing
abbrev pub FindsWhat : List (List ℕ) → Option What → Type 0
FindsWhat words found = MatchOption found ((what : What) → AsksWhat words what → ⊥) (AsksWhat words)

-- the words after the program's name ask for this
abbrev pub Asks : List (List ℕ) → Asked → Type 0
Asks words asked = ((asked.states ≡ usual_states) × AsksWhat words asked.what)
    ⊎ HasStates words asked

-- the words ask for nothing
abbrev pub AsksNothing : List (List ℕ) → Type 0
AsksNothing words = (asked : Asked) → Asks words asked → ⊥

-- what the words ask for; none if they ask for nothing
abbrev pub Finds : List (List ℕ) → Option Asked → Type 0
Finds words found = MatchOption found (AsksNothing words) (Asks words)

-- whether the row that is asked for, if it is an entry's, is one that a board of this version has
abbrev pub may_want : ℕ → Wanted → Bool
may_want version (wants.Row e) = may_have version e
may_want version (wants.Rest left) = true

-- a board of this version can be asked for it
abbrev pub may_ask : ℕ → What → Bool
may_ask version (whats.Row line wanted) = may_want version wanted
may_ask version (whats.Play line wanted) = may_want version wanted
may_ask version _ = true
