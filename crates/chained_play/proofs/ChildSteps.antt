-- A child's step is an entry that is due on one of the lines.
use Rattle.std.proofs.Common.{◌≡◌, ℕ, suc, ◌==◌, Bool, true, false, cond, Option, Some, None, List, [], ◌∷◌, length, slice_get, refl, ap, ◌∙◌, subst}
use Rattle.irq_base.specs.declared.entries.Actor.{Actor}
use Rattle.irq_base.specs.declared.entries.Actor.TheVariants as actors
use Rattle.irq_base.specs.declared.entries.Entry.{Entry}
use Rattle.irq_base.specs.declared.numbers.CpuNo.{CpuNo}
use Rattle.irq_base.specs.declared.numbers.LineNo.{LineNo}
use Rattle.irq_model.specs.Next.{next_past}
use Rattle.irq_model.specs.Rounds.{flow, is_cpu}
use Rattle.board_def.specs.Seen.{BoardSeen}
use Rattle.board_play.specs.Lines.{BoardLine, Move, lines_of}
use Rattle.board_play.specs.Order.{actors_of, due_on, flow_line, line_for, move_on}
use Rattle.board_play.proofs.Moves.{line_stands}
use Rattle.board_ready.specs.First.{first_of}
use Rattle.board_core.specs.Places.{line_at}
use Rattle.irq_laws.proofs.Chosen.{the_same}
use Rattle.board_play.specs.Orders.{moves_in}
use Rattle.play_report.proofs.Scenario.{IsOn, MovesDue}
use Rattle.irq_chained.specs.Chain.{chain_next, chain_order, child, cpu_0, first_left, in_chain, is_left, lines_in}
use Rattle.irq_chained.specs.Chain.{of_cpu_0, open_status, or_exit, status_of, told}
use Rattle.irq_chained.proofs.Chained.{choice_is_some, same_children}
use Rattle.irq_chained.specs.declared.chain.ChainEntry.{ChainEntry}
use Rattle.irq_chained.specs.declared.chain.ChainEntry.TheVariants as steps

abbrev IsThere : List BoardLine → BoardLine → Type 0
IsThere lines y = (i : ℕ) × (slice_get lines i ≡ Some y)

flow_there : (lines : List BoardLine) (c : CpuNo) (y : BoardLine) → flow_line lines c ≡ Some y → IsThere lines y
flow_there [] c y is = cc
flow_there (x ∷ xs) c y is = by_test (is_cpu c (flow x.def x.past)) is (λ h. flow_there xs c y h)
  where
    by_test : (t : Bool) → cond t (Some x) (flow_line xs c) ≡ Some y → (flow_line xs c ≡ Some y → IsThere xs y) → IsThere (x ∷ xs) y
    by_test true is deeper = (0, is)
    by_test false is deeper = let d = deeper is in (suc d.0, d.1)

place_there : (lines : List BoardLine) (o : Option ℕ) (y : BoardLine) → line_at lines o ≡ Some y → IsThere lines y
place_there lines None y is = cc
place_there lines (Some k) y is = (k, is)

child_on : (lines : List BoardLine) (x : Option BoardLine) (a : Actor) (line : LineNo) (e : Entry)
    → ((y : BoardLine) → x ≡ Some y → IsThere lines y) → child (due_on x a) ≡ Some (steps.Child line e)
    → IsOn lines line e
child_on lines None a line e there is = cc
child_on lines (Some y) a line e there is = by_entry (next_past y.def y.past a) refl is
  where
    by_entry : (o : Option Entry) → next_past y.def y.past a ≡ o → child (move_on y.def.line o) ≡ Some (steps.Child line e) → IsOn lines line e
    by_entry None due is = cc
    by_entry (Some f) due is =
        let t = there y refl in
        let number : y.def.line ≡ line = cc in
        let entry : f ≡ e = cc in
        record { actor = a; of = y; place = t.0; at = t.1; number = number; due = due ∙ ap (λ (x : Entry). Some x) entry }

pub child_step : (b : BoardSeen) (g : List ChainEntry) (a : Actor) (line : LineNo) (e : Entry)
    → chain_next b g a ≡ Some (steps.Child line e) → IsOn (lines_in b g) line e
child_step b g (actors.Thread d) line e is =
    child_on (lines_in b g) (line_for b (lines_in b g) (actors.Thread d)) (actors.Thread d) line e
    (λ y its. let s = line_stands b (lines_in b g) (actors.Thread d) y its in (s.place, s.at)) is
child_step b g (actors.Driver r) line e is =
    child_on (lines_in b g) (line_for b (lines_in b g) (actors.Driver r)) (actors.Driver r) line e
    (λ y its. let s = line_stands b (lines_in b g) (actors.Driver r) y its in (s.place, s.at)) is
child_step b g (actors.Cpu c) line e is = by_zero (c.0 == 0) is
  where
    lines : List BoardLine
    lines = lines_in b g

    by_status : (t : Bool) → cond t None (Some (steps.Enter cpu_0 (status_of lines))) ≡ Some (steps.Child line e) → IsOn lines line e
    by_status true h = cc
    by_status false h = cc

    by_take : (s : ℕ) (o : Option ChainEntry) → child (due_on (first_left g lines s) (actors.Cpu cpu_0)) ≡ o
        → or_exit o ≡ Some (steps.Child line e) → IsOn lines line e
    by_take s None due h = cc
    by_take s (Some x) due h =
        child_on lines (first_left g lines s) (actors.Cpu cpu_0) line e
        (λ y its. place_there lines (first_of (is_left g lines s) (length lines)) y its) (due ∙ h)

    by_flow : (s : ℕ) (x : Option BoardLine) → flow_line lines cpu_0 ≡ x → in_chain g lines s x ≡ Some (steps.Child line e) → IsOn lines line e
    by_flow s None on h = by_take s (child (due_on (first_left g lines s) (actors.Cpu cpu_0))) refl h
    by_flow s (Some x) on h = child_on lines (Some x) (actors.Cpu cpu_0) line e (λ y its. flow_there lines cpu_0 y (on ∙ its)) h

    by_open : (o : Option ℕ) → of_cpu_0 g lines o ≡ Some (steps.Child line e) → IsOn lines line e
    by_open None h = by_status (status_of lines == 0) h
    by_open (Some s) h = by_flow s (flow_line lines cpu_0) refl h

    by_zero : (z : Bool) → cond z (of_cpu_0 g lines (open_status g)) None ≡ Some (steps.Child line e) → IsOn lines line e
    by_zero true h = by_open (open_status g) h
    by_zero false h = cc

-- a next step of the chain's order that is a child's entry is due on the child's line
pub moves_due : (b : BoardSeen) → MovesDue b (chain_order b)
moves_due b g at after e m next tells =
    let who = choice_is_some (chain_next b g) (actors_of b) at e after next in
    by_step e who.0 who.1 tells
  where
    lines : List BoardLine
    lines = lines_of b (moves_in (chain_order b) g)

    by_step : (e : ChainEntry) (a : Actor) → chain_next b g a ≡ Some e → told e ≡ Some m → IsOn lines m.0 m.1
    by_step (steps.Enter cpu status) a is tells = cc
    by_step (steps.Exit cpu) a is tells = cc
    by_step (steps.Child line x) a is tells =
        let move : Move = (line, x) in
        subst (λ (n : Move). IsOn lines n.0 n.1) (the_same move m tells)
        (subst (λ (ms : List Move). IsOn (lines_of b ms) line x) (same_children b g) (child_step b g a line x is))
