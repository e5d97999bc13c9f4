-- The first row of a text, and its head: whose line it tells of, and who made its entry.
use Rattle.std.specs.Prelude.{◌≡◌, true, ℕ, ◌+◌, ◌≤◌, ◌==◌, if◌then◌else◌, Option, Some, None, List}
use Rattle.std.specs.Prelude.{◌∷◌, ◌++◌, decimal, length}
use Rattle.board_def.specs.Seen.{BoardSeen}
use Rattle.irq_base.specs.Who.{actor_of}
use Rattle.irq_base.specs.declared.entries.Actor.{Actor}
use Rattle.irq_base.specs.declared.entries.Actor.TheVariants as actors
use Rattle.irq_base.specs.declared.entries.Entry.{Entry}
use Rattle.irq_base.specs.declared.numbers.LineNo.{LineNo}
use Rattle.log_read.specs.LogOf.{IsRow, rows_of}
use Rattle.log_read.specs.Versions.{may_have}
use Rattle.log_text.specs.Formed.{IsFormed, IsRowOf, IsSmall}

-- it is this row, and the bytes after it are these
pub record BeginsWith (row after text : List ℕ) : Type 0 where
  pub rows : rows_of text ≡ row ∷ rows_of after
  pub shorter : length after + 1 ≤ length text

-- it isn't the row of an entry
abbrev pub IsNoEntry : List ℕ → Type 0
IsNoEntry text = (row : List ℕ) (rows : List (List ℕ)) → rows_of text ≡ row ∷ rows → IsFormed row
    → ⊥

-- the row is that of an entry, and the board's log may have it
abbrev pub IsFormedOn : BoardSeen → List ℕ → Type 0
IsFormedOn b row =
    (line : LineNo) × (e : Entry) × IsRowOf row line e × (may_have b.version e ≡ true)

-- it isn't such a row
abbrev pub IsNoEntryOn : BoardSeen → List ℕ → Type 0
IsNoEntryOn b text = (row : List ℕ) (rows : List (List ℕ)) → rows_of text ≡ row ∷ rows
    → IsFormedOn b row → ⊥

-- something is wrong with it
abbrev pub IsWrong : BoardSeen → List ℕ → Type 0
IsWrong b text = (row : List ℕ) (rows : List (List ℕ)) → rows_of text ≡ row ∷ rows
    → IsRow b row → ⊥

-- if it is the row of an entry, then of this line's and this actor's
abbrev pub IsHead : List ℕ → LineNo → Actor → Type 0
IsHead text number actor =
    (row : List ℕ) (rows : List (List ℕ)) (line : LineNo) (e : Entry) → rows_of text ≡ row ∷ rows
    → IsRowOf row line e → (line ≡ number) × (actor_of e ≡ actor)

-- the actor that the letter, of a processor, a driver or a thread, and the number stand for
abbrev pub actor_by : ℕ → ℕ → Option Actor
actor_by letter number =
    if letter == 99 then Some (actors.Cpu (record { 0 = number }))
    else if letter == 100 then Some (actors.Driver (record { 0 = number }))
    else if letter == 116 then Some (actors.Thread (record { 0 = number }))
    else None

-- what is read of the bytes: if a number of 32 bits and a space stand first, that number, and what
-- follows the space
abbrev pub ReadsNumber : List ℕ → Option (ℕ × List ℕ) → Type 0
ReadsNumber bytes read = (n : ℕ) (after : List ℕ) → IsSmall n → bytes ≡ decimal n ++ 32 ∷ after
    → read ≡ Some (n, after)
