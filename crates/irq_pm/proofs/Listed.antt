-- The threads and processors that can move are among the board's.
use Rattle.std.proofs.Common.{◌≡◌, ℕ, ◌==◌, ◌⊎◌, inl, inr, Bool, true, false, cond, Option, Some, None, List, [], ◌∷◌}
use Rattle.std.proofs.Common.{◌++◌, map, filter, refl, sym, ap, subst}
use Rattle.std.specs.List.{list_any}
use Rattle.std.proofs.lemmas.Bool.{or_cases}
use Rattle.irq_base.specs.declared.devices.DeviceDef.{DeviceDef}
use Rattle.irq_base.specs.declared.entries.Actor.{Actor}
use Rattle.irq_base.specs.declared.entries.Actor.TheVariants as actors
use Rattle.irq_base.specs.declared.entries.Entry.{Entry}
use Rattle.irq_base.specs.declared.lines.LineDef.{LineDef}
use Rattle.irq_base.specs.declared.numbers.CpuNo.{CpuNo}
use Rattle.irq_base.specs.declared.numbers.DevNo.{DevNo}
use Rattle.irq_base.specs.declared.numbers.LineNo.{LineNo}
use Rattle.irq_model.specs.Legal.{IsLegalPast}
use Rattle.irq_model.specs.Lines.{has_device, is_device}
use Rattle.irq_model.specs.Next.{next_of_thread, next_past}
use Rattle.irq_model.specs.Valid.{IsValid}
use Rattle.irq_model.proofs.Same.{dev_from_same}
use Rattle.irq_laws.proofs.Chosen.{chosen}
use Rattle.play_laws.specs.Actors.{threads_of as threads_of_line, cpus_of as cpus_of_line, drivers_of as drivers_of_line, actors_of as actors_of_line, IsOneOf}
use Rattle.play_laws.proofs.Listed.{in_first, in_second, mover_listed}
use Rattle.board_def.specs.Rules.{IsBoard}
use Rattle.board_def.specs.Seen.{BoardSeen}
use Rattle.board_play.specs.Kept.{AreKept}
use Rattle.board_play.specs.Lines.{BoardLine, Move}
use Rattle.board_play.specs.Order.{due_move, threads_of, cpus_of}
use Rattle.board_play.proofs.Listed.{def_at}
use Rattle.board_play.proofs.Moves.{moves_on}
use Rattle.board_play.proofs.OfBoard.{AreValid, OfRow, def_of_row, valid_defs}

-- ---- threads

-- a device that is on the line
device_listed : (line : LineNo) (d : DevNo) (xs : List DeviceDef)
    → list_any (is_device d) (filter (λ x. x.line.0 == line.0) xs) ≡ true
    → IsOneOf (actors.Thread d) (map (λ (x : DeviceDef). actors.Thread x.dev) xs)
device_listed line d [] h = cc
device_listed line d (x ∷ xs) h = by_test (x.line.0 == line.0) refl h (device_listed line d xs)
  where
    by_test : (b : Bool) → (x.line.0 == line.0) ≡ b → list_any (is_device d)
        (cond b (x ∷ filter (λ x. x.line.0 == line.0) xs) (filter (λ x. x.line.0 == line.0) xs)) ≡ true
        → (list_any (is_device d) (filter (λ x. x.line.0 == line.0) xs) ≡ true
        → IsOneOf (actors.Thread d) (map (λ (x : DeviceDef). actors.Thread x.dev) xs))
        → (actors.Thread d ≡ actors.Thread x.dev) ⊎ IsOneOf (actors.Thread d) (map (λ (x : DeviceDef). actors.Thread x.dev) xs)
    by_test true of_line h deeper = elim (or_cases (is_device d x)
        (list_any (is_device d) (filter (λ x. x.line.0 == line.0) xs)) h)
        [ inl is ↦ inl (ap (λ (e : DevNo). actors.Thread e) (dev_from_same d x.dev is)) | inr there ↦ inr (deeper there) ]
    by_test false other h deeper = inr (deeper h)

thread_listed : (board : BoardSeen) (x : BoardLine) → OfRow board board.lines x.def → (d : DevNo) (e : Entry)
    → next_past x.def x.past (actors.Thread d) ≡ Some e → IsOneOf (actors.Thread d) (threads_of board)
thread_listed board x o d e due = by_device (chosen (has_device x.def d) (next_of_thread x.def d x.past) None e due)
  where
    by_device : ((has_device x.def d ≡ true) × (next_of_thread x.def d x.past ≡ Some e))
        ⊎ ((has_device x.def d ≡ false) × (None ≡ Some e)) → IsOneOf (actors.Thread d) (threads_of board)
    by_device (inl h) = device_listed o.row.line d board.devices (subst (λ (def : LineDef). has_device def d ≡ true) (sym o.is) h.0)
    by_device (inr h) = let n = h.1 in cc

-- ---- processors

no_thread : (c : CpuNo) (ns : List ℕ) → IsOneOf (actors.Cpu c) (map (λ n. actors.Thread (record { 0 = n })) ns) → ⊥
no_thread c [] at = at
no_thread c (n ∷ ns) at = elim at [ inl here ↦ cc | inr there ↦ no_thread c ns there ]

no_driver : (c : CpuNo) (ns : List ℕ) → IsOneOf (actors.Cpu c) (map (λ n. actors.Driver (record { 0 = n })) ns) → ⊥
no_driver c [] at = at
no_driver c (n ∷ ns) at = elim at [ inl here ↦ cc | inr there ↦ no_driver c ns there ]

in_either : (a : Actor) (xs ys : List Actor) → IsOneOf a (xs ++ ys) → IsOneOf a xs ⊎ IsOneOf a ys
in_either a [] ys at = inr at
in_either a (x ∷ xs) ys at = elim at [
  | inl here ↦ inl (inl here)
  | inr there ↦ elim (in_either a xs ys there) [ inl first ↦ inl (inr first) | inr second ↦ inr second ]
]

cpu_listed : (board : BoardSeen) (x : BoardLine) → OfRow board board.lines x.def → IsValid x.def
    → IsLegalPast x.def x.past → (c : CpuNo) (e : Entry) → next_past x.def x.past (actors.Cpu c) ≡ Some e
    → IsOneOf (actors.Cpu c) (cpus_of board)
cpu_listed board x o valid legal c e due =
    subst (λ (def : LineDef). IsOneOf (actors.Cpu c) (cpus_of_line def) → IsOneOf (actors.Cpu c) (cpus_of board)) o.is
    (λ at. at) (of_cpus (mover_listed x.def x.past (actors.Cpu c) e valid legal due))
  where
    of_cpus : IsOneOf (actors.Cpu c) (actors_of_line x.def) → IsOneOf (actors.Cpu c) (cpus_of_line x.def)
    of_cpus at = elim (in_either (actors.Cpu c) (threads_of_line x.def) (cpus_of_line x.def ++ drivers_of_line x.def) at) [
      | inl thread ↦ absurd (no_thread c _ thread)
      | inr rest ↦ elim (in_either (actors.Cpu c) (cpus_of_line x.def) (drivers_of_line x.def) rest)
          [ inl cpu ↦ cpu | inr driver ↦ absurd (no_driver c _ driver) ]
    ]

-- ---- together

-- if none of the board's threads and processors can move, no thread and no processor can
module _ (board : BoardSeen) (is : IsBoard board) (lines : List BoardLine) (k : AreKept board lines)
    (rest : (a : Actor) → IsOneOf a (threads_of board ++ cpus_of board) → due_move board lines a ≡ None) where
  valid : AreValid board
  valid = valid_defs board is

  thread_is : (d : DevNo) (m : Move) → due_move board lines (actors.Thread d) ≡ Some m → IsOneOf (actors.Thread d) (threads_of board)
  thread_is d m due =
      let moves = moves_on board lines (actors.Thread d) m due in
      let at = def_at board lines k moves.place moves.line moves.at in
      thread_listed board moves.line (def_of_row board moves.place moves.line.def at) d m.1 moves.due

  cpu_is : (c : CpuNo) (m : Move) → due_move board lines (actors.Cpu c) ≡ Some m → IsOneOf (actors.Cpu c) (cpus_of board)
  cpu_is c m due =
      let moves = moves_on board lines (actors.Cpu c) m due in
      let at = def_at board lines k moves.place moves.line moves.at in
      cpu_listed board moves.line (def_of_row board moves.place moves.line.def at) (valid moves.place moves.line.def at)
      (k.legal moves.place moves.line moves.at) c m.1 moves.due

  pub no_thread_moves : (d : DevNo) → due_move board lines (actors.Thread d) ≡ None
  no_thread_moves d = by_move (due_move board lines (actors.Thread d)) refl
    where
      by_move : (o : Option Move) → due_move board lines (actors.Thread d) ≡ o → due_move board lines (actors.Thread d) ≡ None
      by_move None due = due
      by_move (Some m) due = rest (actors.Thread d) (in_first (actors.Thread d) (threads_of board) (cpus_of board) (thread_is d m due))

  pub no_cpu_moves : (c : CpuNo) → due_move board lines (actors.Cpu c) ≡ None
  no_cpu_moves c = by_move (due_move board lines (actors.Cpu c)) refl
    where
      by_move : (o : Option Move) → due_move board lines (actors.Cpu c) ≡ o → due_move board lines (actors.Cpu c) ≡ None
      by_move None due = due
      by_move (Some m) due = rest (actors.Cpu c) (in_second (actors.Cpu c) (threads_of board) (cpus_of board) (cpu_is c m due))
