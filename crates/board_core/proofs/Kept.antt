-- A system as a call finds it: what stands behind that which contracts see, and what is kept of it.
use Rattle.std.proofs.Common.{◌≡◌, ℕ, IsSomeAnd, Result, List, slice_get}
use Rattle.irq_base.specs.declared.entries.Actor.{Actor}
use Rattle.irq_base.specs.declared.numbers.LineNo.{LineNo}
use Rattle.irq_line.specs.declared.answers.StepRefused.{StepRefused}
use Rattle.irq_line.specs.declared.answers.Stepped.{Stepped}
use Rattle.board_def.specs.Rules.{IsBoard}
use Rattle.board_def.specs.Seen.{BoardSeen}
use Rattle.domain_rules.specs.declared.layouts.Placement.{Placement}
use Rattle.irq_line.specs.Seen.{LineSeen}
use Rattle.board_core.specs.Inside.{Parts, seen_of, IsKept}
use Rattle.board_core.specs.Places.{SteppedAt}
use Rattle.board_core.specs.Scripts.{ScriptSeen}
use Rattle.board_core.specs.Seen.{SystemSeen}
use Rattle.board_core.specs.Turned.{scripts_after}
use Rattle.board_core.specs.declared.stands.Stand.{Stand}

pub record KeptSystem (view : SystemSeen) : Type 0 where
  pub board : BoardSeen
  pub layout : List Placement
  pub lines : List LineSeen
  pub scripts : List ScriptSeen
  pub order : List ℕ
  pub parts : Parts
  pub is_board : IsBoard board
  pub kept : IsKept board lines scripts order parts
  pub view_is : seen_of board layout lines order ≡ view

-- from what a method knows of `self`: it finds its board, its invariant and its view
abbrev pub kept_system : {board : BoardSeen} {layout : List Placement} {lines : List LineSeen}
    {scripts : List ScriptSeen} {order : List ℕ} {parts : Parts} {view : SystemSeen} → IsBoard board
    → IsKept board lines scripts order parts → seen_of board layout lines order ≡ view → KeptSystem view
kept_system {board} {layout} {lines} {scripts} {order} {parts} {view} is_board kept view_is =
    record {
      board = board;
      layout = layout;
      lines = lines;
      scripts = scripts;
      order = order;
      parts = parts;
      is_board = is_board;
      kept = kept;
      view_is = view_is;
    }

-- what stands for an answer that the step lacks
abbrev pub lack_of : {L : Type 0} → Result (Stepped L) StepRefused → Type 0
lack_of {L} answer = L

-- What an actor's step on the line of a stand left of a system, and what it answered.
pub record Step (L : Type 0) {view : SystemSeen} (system : KeptSystem view) (actor : Actor) (stand : Stand) : Type 0 where
  pub answer : Result (Stepped L) StepRefused
  pub lines : List LineSeen
  pub order : List ℕ
  pub scripts : List ScriptSeen
  -- the line's number
  pub number : LineNo
  pub number_is : IsSomeAnd (slice_get system.lines stand.line) (λ x. number ≡ x.def.line)
  pub stepped : SteppedAt system.lines system.order stand.line actor answer lines order
  pub scripts_are : scripts ≡ scripts_after stand.script answer system.scripts
