-- What comes next of lines behind a demultiplexer. What has happened is a list of steps, the newest
-- first: entries of the children, and where processor 0 entered a chain and left it.
use Rattle.std.specs.Prelude.{◌≡◌, ℕ, ◌+◌, ◌*◌, ◌==◌, Bool, true, false, not, ◌&&◌, ◌||◌}
use Rattle.std.specs.Prelude.{if◌then◌else◌, Option, Some, None, List, [], ◌∷◌, length, slice_get}
use Rattle.irq_base.specs.Who.{actor_of}
use Rattle.irq_base.specs.declared.entries.Actor.{Actor}
use Rattle.irq_base.specs.declared.entries.Actor.TheVariants as actors
use Rattle.irq_base.specs.declared.numbers.CpuNo.{CpuNo}
use Rattle.irq_base.specs.declared.numbers.LineNo.{LineNo}
use Rattle.irq_model.specs.Kinds.{is_take, same_line}
use Rattle.irq_model.specs.Places.{EachEntry}
use Rattle.board_def.specs.Seen.{BoardSeen}
use Rattle.board_play.specs.Lines.{BoardLine, Move, lines_of}
use Rattle.board_play.specs.Order.{actors_of, due_move, due_on, flow_line}
use Rattle.board_ready.specs.First.{first_of}
use Rattle.board_ready.specs.Sets.{has}
use Rattle.board_core.specs.Firsts.{is_take_due}
use Rattle.board_core.specs.Places.{line_at}
use Rattle.board_play.specs.Orders.{Order, onto}
use Rattle.irq_chained.specs.declared.chain.ChainEntry.{ChainEntry}
use Rattle.irq_chained.specs.declared.chain.ChainEntry.TheVariants as steps

-- the processor that takes the parent's interrupts
abbrev pub cpu_0 : CpuNo
cpu_0 = record { 0 = 0 }

-- ---- what has happened

-- the move of a child that the step is
abbrev pub told : ChainEntry → Option Move
told (steps.Enter cpu status) = None
told (steps.Child line entry) = Some (line, entry)
told (steps.Exit cpu) = None

-- the moves of the children among the steps
abbrev pub children : List ChainEntry → List Move
children [] = []
children (e ∷ g) = onto (told e) (children g)

-- the children after these steps, in the board's order
abbrev pub lines_in : BoardSeen → List ChainEntry → List BoardLine
lines_in b g = lines_of b (children g)

-- the status of the chain that is open: an enter has no exit after it
abbrev pub open_status : List ChainEntry → Option ℕ
open_status [] = None
open_status (steps.Enter cpu status ∷ g) = Some status
open_status (steps.Child line entry ∷ g) = open_status g
open_status (steps.Exit cpu ∷ g) = None

-- a take of the line stands since the enter
abbrev pub is_taken : List ChainEntry → LineNo → Bool
is_taken [] line = false
is_taken (steps.Enter cpu status ∷ g) line = false
is_taken (steps.Child other entry ∷ g) line =
    (same_line line other && is_take entry) || is_taken g line
is_taken (steps.Exit cpu ∷ g) line = false

abbrev pub is_taken_on : List ChainEntry → Option BoardLine → Bool
is_taken_on g None = false
is_taken_on g (Some x) = is_taken g x.def.line

-- ---- what the status says

abbrev pub bit_of : Bool → ℕ
bit_of true = 1
bit_of false = 0

-- a take of processor 0 is due on the line, by its signal or by a resend (that a resend counts is
-- ours)
abbrev pub has_take_due : BoardLine → Bool
has_take_due x = is_take_due cpu_0 (Some x)

-- bit k is set if the line at place k has a take due
abbrev pub status_of : List BoardLine → ℕ
status_of [] = 0
status_of (x ∷ xs) = bit_of (has_take_due x) + 2 * status_of xs

-- the child at place k is in the status, has a take due, and was not taken since the enter
abbrev pub is_left : List ChainEntry → List BoardLine → ℕ → ℕ → Bool
is_left g lines status k = has status k
    && (is_take_due cpu_0 (slice_get lines k) && not (is_taken_on g (slice_get lines k)))

-- the first such child
abbrev pub first_left : List ChainEntry → List BoardLine → ℕ → Option BoardLine
first_left g lines status = line_at lines (first_of (is_left g lines status) (length lines))

-- ---- the chain's next step

abbrev pub child : Option Move → Option ChainEntry
child None = None
child (Some m) = Some (steps.Child m.0 m.1)

abbrev pub or_exit : Option ChainEntry → Option ChainEntry
or_exit None = Some (steps.Exit cpu_0)
or_exit (Some e) = Some e

-- In an open chain: a child's flow goes on, if there is one (`generic_handle_domain_irq` comes back
-- before the next bit is looked at); else the first child of the status that is left is taken; else
-- the chain is left.
abbrev pub in_chain : List ChainEntry → List BoardLine → ℕ → Option BoardLine → Option ChainEntry
in_chain g lines status None =
    or_exit (child (due_on (first_left g lines status) (actors.Cpu cpu_0)))
in_chain g lines status (Some x) = child (due_on (Some x) (actors.Cpu cpu_0))

abbrev pub to_enter : ℕ → Option ChainEntry
to_enter status = if status == 0 then None else Some (steps.Enter cpu_0 status)

-- with no chain open processor 0 enters one, if some child has a take due
abbrev pub of_cpu_0 : List ChainEntry → List BoardLine → Option ℕ → Option ChainEntry
of_cpu_0 g lines None = to_enter (status_of lines)
of_cpu_0 g lines (Some status) = in_chain g lines status (flow_line lines cpu_0)

-- The actor's next step; none if it has none. A thread and a driver step as on any board; a
-- processor other than 0 never does.
abbrev pub chain_next : BoardSeen → List ChainEntry → Actor → Option ChainEntry
chain_next b g (actors.Thread d) =
    child (due_move b (lines_in b g) (actors.Thread d))
chain_next b g (actors.Cpu c) =
    if c.0 == 0 then of_cpu_0 g (lines_in b g) (open_status g) else None
chain_next b g (actors.Driver r) = child (due_move b (lines_in b g) (actors.Driver r))

-- who made the step
abbrev pub stepper_of : ChainEntry → Actor
stepper_of (steps.Enter cpu status) = actors.Cpu cpu
stepper_of (steps.Child line entry) = actor_of entry
stepper_of (steps.Exit cpu) = actors.Cpu cpu

-- each step was the next one of the actor that made it
abbrev pub IsChainLegal : BoardSeen → List ChainEntry → Type 0
IsChainLegal b g = EachEntry (λ e past. chain_next b past (stepper_of e) ≡ Some e) g

-- ---- the play

module _ {E : Type 0} where
  abbrev pub or_step : Option E → Option E → Option E
  or_step None other = other
  or_step (Some e) other = Some e

  -- the step of the first of the actors that has one
  abbrev pub first_step : (Actor → Option E) → List Actor → Option E
  first_step can [] = None
  first_step can (a ∷ rest) = or_step (can a) (first_step can rest)

  abbrev pub with_left : List Actor → Option E → Option (E × List Actor)
  with_left left None = None
  with_left left (Some e) = Some (e, left)

  abbrev pub or_choice : Option (E × List Actor) → Option (E × List Actor)
      → Option (E × List Actor)
  or_choice None other = other
  or_choice (Some choice) other = Some choice

  -- the first pick that has a step makes it, and those before it are passed over; after the picks
  -- the first actor that has one
  abbrev pub choice_by : (Actor → Option E) → List Actor → List Actor → Option (E × List Actor)
  choice_by can all [] = with_left [] (first_step can all)
  choice_by can all (pick ∷ picks) =
      or_choice (with_left picks (can pick)) (choice_by can all picks)

-- the picks first, then always the lowest actor that has a step
abbrev pub chain_order : BoardSeen → Order (List Actor) ChainEntry
chain_order b = record {
  told = told;
  next = λ g left. choice_by (chain_next b g) (actors_of b) left;
  log = b.log;
}
