-- The words of each command.
use Rattle.std.specs.Prelude.{◌≡◌, ℕ, ◌<◌, ◌≤◌, ◌^◌, true, false, Option, MatchOption}
use Rattle.std.specs.Prelude.{List, [], ◌∷◌, codes, decimal, map}
use Rattle.irq_words.specs.Events.{AreEvents, event_word}
use Rattle.irq_words.specs.Lines.{AreArmed, line_word}
use Rattle.irq_words.specs.declared.Command.{Command}
use Rattle.irq_words.specs.declared.Command.TheVariants as commands

-- the words after the program's name
abbrev pub words_of : Command → List (List ℕ)
words_of (commands.Run false) = codes "run" ∷ []
words_of (commands.Run true) = codes "run" ∷ codes "--summary" ∷ []
words_of (commands.Play false) = codes "play" ∷ []
words_of (commands.Play true) = codes "play" ∷ codes "--summary" ∷ []
words_of (commands.Check false) = codes "check" ∷ []
words_of (commands.Check true) = codes "check" ∷ codes "--why" ∷ []
words_of (commands.Gen n) = codes "gen" ∷ decimal n ∷ []
words_of commands.Chained = codes "chained" ∷ []
words_of (commands.Hotplug vectors events) =
    codes "hotplug" ∷ decimal vectors ∷ map event_word events
words_of (commands.Sleep armed) = codes "sleep" ∷ map line_word armed

-- the command's number takes 32 bits; a plan has 1 to 64 vectors and at most 64 events; at most 64
-- lines are armed, and their numbers rise
abbrev pub IsInRange : Command → Type 0
IsInRange (commands.Gen n) = n < 2 ^ 32
IsInRange (commands.Hotplug vectors events) = (1 ≤ vectors) × (vectors ≤ 64) × AreEvents events
IsInRange (commands.Sleep armed) = AreArmed armed
IsInRange _ = Unit {0}

-- the words are the command's, and its number and lists are in range
pub record Asks (words : List (List ℕ)) (command : Command) : Type 0 where
  pub in_range : IsInRange command
  pub words_are : words ≡ words_of command

-- no command has these words
abbrev pub AsksNothing : List (List ℕ) → Type 0
AsksNothing words = (command : Command) → Asks words command → ⊥

-- the command that has these words; none if no command has them
abbrev pub Finds : List (List ℕ) → Option Command → Type 0
Finds words found = MatchOption found (AsksNothing words) (Asks words)
