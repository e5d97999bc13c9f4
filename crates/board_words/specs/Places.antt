-- What is wrong at the places of a form, one after another.
use Rattle.std.specs.Prelude.{◌≡◌, ℕ, if◌then◌else◌, Option, Some, None, List, [], ◌∷◌, codes}
use Rattle.std.specs.Prelude.{drop, get_or, Result, Ok, Err}
use Rattle.irq_base.specs.declared.domains.MapKind.{MapKind}
use Rattle.irq_base.specs.declared.domains.MapKind.TheVariants as maps
use Rattle.board_words.specs.Faults.{earlier, first_in_order}
use Rattle.board_words.specs.Forms.{is}
use Rattle.board_words.specs.Seen.{words_left}
use Rattle.board_words.specs.Statements.{number_at}
use Rattle.board_words.specs.declared.faults.FaultKind.{FaultKind}
use Rattle.board_words.specs.declared.faults.FaultKind.TheVariants as faults
use Rattle.board_words.specs.declared.places.Places.{Places}
use Rattle.board_words.specs.declared.words.Words.{Words}

-- of a fault found so far and one found after it, the first in the order
abbrev pub both : Option FaultKind → Option FaultKind → Option FaultKind
both None after = after
both (Some kind) after = earlier kind after

-- what is wrong at a place: with the word there, or that there is none
abbrev pub fault_at : (List ℕ → List FaultKind) → List (List ℕ) → Option FaultKind
fault_at place [] = Some faults.WrongCount
fault_at place (word ∷ words) = first_in_order (place word)

-- the next place was read: its word is gone, and what is wrong there is found
pub record Takes (place : List ℕ → List FaultKind) (old new : Places) : Type 0 where
  pub words : words_left new.words ≡ drop 1 (words_left old.words)
  pub found : new.found ≡ both old.found (fault_at place (words_left old.words))

-- the first fault of what was found so far and of the words that are left
abbrev pub in_all : Places → (List (List ℕ) → List FaultKind) → Option FaultKind
in_all places form = both places.found (first_in_order (form (words_left places.words)))

-- the value, or the fault that was found
abbrev pub outcome : {A : Type 0} → Option FaultKind → A → Result A FaultKind
outcome None value = Ok value
outcome (Some kind) value = Err kind

-- what the words that are left say, or the first fault of their form
abbrev pub reads : {A : Type 0} → (List (List ℕ) → List FaultKind) → (List (List ℕ) → A) → Words
    → Result A FaultKind
reads form said words = outcome (first_in_order (form (words_left words))) (said (words_left words))

-- the words of a line's options
abbrev pub option_texts : List (List ℕ)
option_texts = codes "mask" ∷ codes "unlazy" ∷ codes "later" ∷ []

-- how a domain maps numbers, by the first words
abbrev pub map_kind : List (List ℕ) → MapKind
map_kind words =
    if is (get_or words 0 []) (codes "linear") then maps.Linear (number_at 1 words) else maps.Tree

-- the words after the map
abbrev pub after_map : List (List ℕ) → List (List ℕ)
after_map words = if is (get_or words 0 []) (codes "linear") then drop 2 words else drop 1 words
