-- What holds of statements that have no fault.
use Rattle.std.specs.Prelude.{◌≡◌, ◌<◌, ◌≤◌, Bool, true, not, None, List, [], ◌∷◌, All}
use Rattle.irq_base.specs.declared.devices.Kind.{Kind}
use Rattle.irq_base.specs.declared.devices.Kind.TheVariants as kinds
use Rattle.irq_model.specs.ValidRuns.{may_answer}
use Rattle.board_def.specs.Names.{is_name, name_bytes}
use Rattle.board_def.specs.Rules.{IsNumber}
use Rattle.domain_rules.specs.Domains.{IsSize}
use Rattle.board_def.specs.Seen.{BoardSeen}
use Rattle.board_words.specs.declared.statements.Statement.{Statement}
use Rattle.board_words.specs.declared.statements.Statement.TheVariants as statements
use Rattle.board_stated.specs.FaultsAfter.{fault_after}
use Rattle.board_stated.specs.Stated.{board_of}

-- no told device has a thread before its answers stand
abbrev pub is_new_kind : Kind → Bool
is_new_kind (kinds.Told threaded) = not threaded
is_new_kind _ = true

-- its numbers are in their ranges, its name is spelled right, and a thread's answers wake nobody
abbrev pub IsWellFormed : Statement → Type 0
IsWellFormed (statements.Cpus cpus) = (1 ≤ cpus) × (cpus ≤ 32)
IsWellFormed (statements.Spurious window limit) = (window ≤ 1000000) × (limit < window)
IsWellFormed (statements.Log log) = (1 ≤ log) × (log ≤ 1000000)
IsWellFormed (statements.Domain d) = (is_name (name_bytes d.name) ≡ true) × IsSize d.map
IsWellFormed (statements.Line l) = IsNumber l.line.0
IsWellFormed (statements.Device d) = IsNumber d.dev.0 × (is_new_kind d.kind ≡ true)
IsWellFormed (statements.Answers dev part answers) =
    All (λ a. may_answer (kinds.Told true) part a.answer ≡ true) answers
IsWellFormed (statements.Driver driver) = IsNumber driver.0
IsWellFormed _ = Unit {0}

-- no statement has a fault, in itself or after the statements before it; the newest stands first
abbrev pub IsSound : List Statement → Type 0
IsSound [] = Unit {0}
IsSound (s ∷ past) = IsSound past × IsWellFormed s × (fault_after past s ≡ None)

-- The board so far. Its log limit is the least one until the text has ended, since the rule on the
-- log limit counts the lines of the whole text.
abbrev pub draft_of : List Statement → BoardSeen
draft_of past = record (board_of past) { log = 1 }
