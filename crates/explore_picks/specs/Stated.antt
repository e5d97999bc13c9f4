-- What a board's reader makes of the picks that are printed.
use Rattle.std.specs.Prelude.{◌≡◌, ℕ, ◌*◌, ◌<◌, ◌≤◌, false, None, List, ◌++◌, length}
use Rattle.board_def.specs.Rules.{IsNumber}
use Rattle.board_def.specs.Seen.{BoardSeen}
use Rattle.board_stated.specs.Stated.{with_statement}
use Rattle.board_stated.specs.declared.writers.Writer.{Writer}
use Rattle.board_words.specs.Forms.{fault_of_words}
use Rattle.board_words.specs.Statements.{statement_of}
use Rattle.board_words.specs.TextLines.{has_bad_byte, words_of}
use Rattle.irq_base.specs.declared.entries.Actor.{Actor}
use Rattle.irq_base.specs.declared.entries.Actor.TheVariants as actors
use Rattle.explore_picks.specs.Rows.{picks_line, row_at}

-- a board may name the actor
abbrev pub IsNameable : Actor → Type 0
IsNameable (actors.Thread dev) = IsNumber dev.0
IsNameable (actors.Cpu cpu) = cpu.0 ≤ 31
IsNameable (actors.Driver driver) = IsNumber driver.0

-- in a text of any version the line is a statement without a fault, and whoever the calls are of,
-- it states these picks behind those that were stated before
pub record StatesPicks (line : List ℕ) (picks : List Actor) : Type 0 where
  pub bytes : has_bad_byte line ≡ false
  pub sound : (version : ℕ) → fault_of_words version (words_of line) ≡ None
  pub adds : (whose : Writer) (b : BoardSeen)
      → with_statement whose (statement_of (words_of line)) b
      ≡ record b { picks = b.picks ++ picks }

-- each row of these picks does, without its `# `
abbrev pub AreStated : List Actor → Type 0
AreStated picks = (k : ℕ) → 24 * k < length picks
    → StatesPicks (picks_line (row_at picks k)) (row_at picks k)
