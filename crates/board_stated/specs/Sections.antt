-- The sections of a text, and whose script is written.
use Rattle.std.specs.Prelude.{ℕ, ◌+◌, ◌*◌, Bool, true, false, List, [], ◌∷◌}
use Rattle.irq_base.specs.declared.devices.Part.{Part}
use Rattle.irq_base.specs.declared.devices.Part.TheVariants as parts
use Rattle.board_words.specs.declared.statements.Statement.{Statement}
use Rattle.board_words.specs.declared.statements.Statement.TheVariants as statements
use Rattle.board_stated.specs.declared.writers.Writer.{Writer}
use Rattle.board_stated.specs.declared.writers.Writer.TheVariants as writers

-- the section of a statement behind the section reached; a call is of the one in which it stands
abbrev pub section_in : ℕ → Statement → ℕ
section_in reached (statements.Board version) = 0
section_in reached (statements.Cpus cpus) = 1
section_in reached (statements.Spurious window limit) = 1
section_in reached (statements.Log log) = 1
section_in reached (statements.Domain domain) = 2
section_in reached (statements.Line line) = 3
section_in reached (statements.Device device) = 4
section_in reached (statements.Answers dev part answers) = 5
section_in reached (statements.Runs dev part) = 5
section_in reached (statements.Driver driver) = 6
section_in reached (statements.Call call) = reached
section_in reached (statements.Picks picks) = 7

-- the section of the newest statement
abbrev pub section_reached : List Statement → ℕ
section_reached [] = 0
section_reached (s ∷ past) = section_in (section_reached past) s

-- whose script the calls after the statement belong to
abbrev pub writer_after : Writer → Statement → Writer
writer_after whose (statements.Runs dev part) = writers.Runs dev part
writer_after whose (statements.Driver driver) = writers.Driver
writer_after whose (statements.Call call) = whose
writer_after whose _ = writers.Nobody

abbrev pub writer_of : List Statement → Writer
writer_of [] = writers.Nobody
writer_of (s ∷ past) = writer_after (writer_of past) s

-- the turns of statements on runs: by device, and of one device what its handler answers, what its
-- thread answers, the handler's script, and the thread's

abbrev pub place_of_part : Part → ℕ
place_of_part parts.Primary = 0
place_of_part parts.Thread = 1

abbrev pub turn_after : ℕ → Statement → ℕ
turn_after turn (statements.Answers dev part answers) = 4 * dev.0 + place_of_part part
turn_after turn (statements.Runs dev part) = 4 * dev.0 + (2 + place_of_part part)
turn_after turn _ = turn

-- the turn of the newest statement on runs
abbrev pub turn_reached : List Statement → ℕ
turn_reached [] = 0
turn_reached (s ∷ past) = turn_after (turn_reached past) s

abbrev pub is_header : Statement → Bool
is_header (statements.Board version) = true
is_header _ = false

abbrev pub is_cpus : Statement → Bool
is_cpus (statements.Cpus cpus) = true
is_cpus _ = false

abbrev pub is_spurious : Statement → Bool
is_spurious (statements.Spurious window limit) = true
is_spurious _ = false

abbrev pub is_log : Statement → Bool
is_log (statements.Log log) = true
is_log _ = false
