-- Only the board's own actors ever move.
use Rattle.std.proofs.Common.{◌≡◌, ℕ, ◌==◌, ◌⊎◌, inl, inr, Bool, true, false, cond, Option, Some, None, List, [], ◌∷◌}
use Rattle.std.proofs.Common.{◌++◌, map, filter, slice_get, refl, sym, ap, ◌∙◌, subst}
use Rattle.std.specs.List.{list_any}
use Rattle.std.proofs.lemmas.Bool.{or_cases}
use Rattle.irq_base.specs.declared.devices.DeviceDef.{DeviceDef}
use Rattle.irq_base.specs.declared.entries.Actor.{Actor}
use Rattle.irq_base.specs.declared.entries.Actor.TheVariants as actors
use Rattle.irq_base.specs.declared.entries.Entry.{Entry}
use Rattle.irq_base.specs.declared.lines.LineDef.{LineDef}
use Rattle.irq_base.specs.declared.numbers.CpuNo.{CpuNo}
use Rattle.irq_base.specs.declared.numbers.DevNo.{DevNo}
use Rattle.irq_base.specs.declared.numbers.DriverNo.{DriverNo}
use Rattle.irq_base.specs.declared.numbers.LineNo.{LineNo}
use Rattle.irq_model.specs.Legal.{IsLegalPast}
use Rattle.irq_model.specs.Lines.{is_device, has_device}
use Rattle.irq_model.specs.Next.{next_of_thread, next_past}
use Rattle.irq_model.specs.Valid.{IsValid}
use Rattle.irq_model.proofs.Same.{dev_from_same, driver_from_same}
use Rattle.irq_laws.proofs.Chosen.{chosen}
use Rattle.play_laws.specs.Actors.{threads_of as threads_of_line, cpus_of as cpus_of_line, drivers_of as drivers_of_line, actors_of as actors_of_line, IsOneOf}
use Rattle.play_laws.proofs.Listed.{in_first, in_second, mover_listed}
use Rattle.board_def.specs.Rules.{IsBoard, has_driver}
use Rattle.board_def.specs.Seen.{BoardSeen}
use Rattle.board_play.specs.Kept.{AreKept}
use Rattle.board_play.specs.Lines.{BoardLine, Move, defs_of}
use Rattle.board_play.specs.Order.{line_for, due_move, threads_of, cpus_of, drivers_of, actors_of}
use Rattle.board_play.proofs.Members.{def_there}
use Rattle.board_play.proofs.Moves.{MovesOn, moves_on}
use Rattle.board_play.proofs.OfBoard.{AreValid, OfRow, def_of_row}
use Rattle.board_play.proofs.Script.{current}

-- the definition of a line is the board's
pub def_at : (board : BoardSeen) (lines : List BoardLine) → AreKept board lines → (i : ℕ) (x : BoardLine)
    → slice_get lines i ≡ Some x → slice_get (defs_of board) i ≡ Some x.def
def_at board lines k i x at = subst (λ (ds : List LineDef). slice_get ds i ≡ Some x.def) k.defs (def_there lines i x at)

-- ---- threads

-- a device that is on the line
device_listed : (line : LineNo) (d : DevNo) (xs : List DeviceDef)
    → list_any (is_device d) (filter (λ x. x.line.0 == line.0) xs) ≡ true
    → IsOneOf (actors.Thread d) (map (λ (x : DeviceDef). actors.Thread x.dev) xs)
device_listed line d [] h = cc
device_listed line d (x ∷ xs) h = by_test (x.line.0 == line.0) h (device_listed line d xs)
  where
    by_test : (b : Bool) → list_any (is_device d)
        (cond b (x ∷ filter (λ x. x.line.0 == line.0) xs) (filter (λ x. x.line.0 == line.0) xs)) ≡ true
        → (list_any (is_device d) (filter (λ x. x.line.0 == line.0) xs) ≡ true
        → IsOneOf (actors.Thread d) (map (λ (x : DeviceDef). actors.Thread x.dev) xs))
        → (actors.Thread d ≡ actors.Thread x.dev) ⊎ IsOneOf (actors.Thread d) (map (λ (x : DeviceDef). actors.Thread x.dev) xs)
    by_test true h deeper = elim (or_cases (is_device d x)
        (list_any (is_device d) (filter (λ x. x.line.0 == line.0) xs)) h)
        [ inl is ↦ inl (ap (λ (e : DevNo). actors.Thread e) (dev_from_same d x.dev is)) | inr there ↦ inr (deeper there) ]
    by_test false h deeper = inr (deeper h)

thread_listed : (board : BoardSeen) (x : BoardLine) → OfRow board board.lines x.def → (d : DevNo) (e : Entry)
    → next_past x.def x.past (actors.Thread d) ≡ Some e
    → IsOneOf (actors.Thread d) (threads_of board)
thread_listed board x o d e due = by_device (chosen (has_device x.def d) (next_of_thread x.def d x.past) None e due)
  where
    of_row : list_any (is_device d) x.def.devices ≡ true → IsOneOf (actors.Thread d) (threads_of board)
    of_row named =
        let there : list_any (is_device d) (filter (λ x. x.line.0 == o.row.line.0) board.devices)
        ≡ true = subst (λ (def : LineDef). list_any (is_device d) def.devices ≡ true) (sym o.is) named in
        device_listed o.row.line d board.devices there

    by_device : ((has_device x.def d ≡ true) × (next_of_thread x.def d x.past ≡ Some e))
        ⊎ ((has_device x.def d ≡ false) × (None ≡ Some e)) → IsOneOf (actors.Thread d) (threads_of board)
    by_device (inl h) = of_row h.0
    by_device (inr h) = let n = h.1 in cc

-- ---- processors

no_thread : (c : CpuNo) (ns : List ℕ) → IsOneOf (actors.Cpu c) (map (λ n. actors.Thread (record { 0 = n })) ns) → ⊥
no_thread c [] at = at
no_thread c (n ∷ ns) at = elim at [ inl here ↦ cc | inr there ↦ no_thread c ns there ]

no_driver : (c : CpuNo) (ns : List ℕ) → IsOneOf (actors.Cpu c) (map (λ n. actors.Driver (record { 0 = n })) ns) → ⊥
no_driver c [] at = at
no_driver c (n ∷ ns) at = elim at [ inl here ↦ cc | inr there ↦ no_driver c ns there ]

in_either : (a : Actor) (xs ys : List Actor) → IsOneOf a (xs ++ ys) → IsOneOf a xs ⊎ IsOneOf a ys
in_either a [] ys at = inr at
in_either a (x ∷ xs) ys at = elim at [
  | inl here ↦ inl (inl here)
  | inr there ↦ elim (in_either a xs ys there) [ inl first ↦ inl (inr first) | inr second ↦ inr second ]
]

cpu_listed : (board : BoardSeen) (x : BoardLine) → OfRow board board.lines x.def → IsValid x.def
    → IsLegalPast x.def x.past → (c : CpuNo) (e : Entry) → next_past x.def x.past (actors.Cpu c) ≡ Some e
    → IsOneOf (actors.Cpu c) (cpus_of board)
cpu_listed board x o valid legal c e due =
    subst (λ (def : LineDef). IsOneOf (actors.Cpu c) (cpus_of_line def) → IsOneOf (actors.Cpu c) (cpus_of board)) o.is
    (λ at. at) (of_cpus (mover_listed x.def x.past (actors.Cpu c) e valid legal due))
  where
    of_cpus : IsOneOf (actors.Cpu c) (actors_of_line x.def) → IsOneOf (actors.Cpu c) (cpus_of_line x.def)
    of_cpus at = elim (in_either (actors.Cpu c) (threads_of_line x.def) (cpus_of_line x.def ++ drivers_of_line x.def) at) [
      | inl thread ↦ absurd (no_thread c _ thread)
      | inr rest ↦ elim (in_either (actors.Cpu c) (cpus_of_line x.def) (drivers_of_line x.def) rest)
          [ inl cpu ↦ cpu | inr driver ↦ absurd (no_driver c _ driver) ]
    ]

-- ---- drivers

driver_listed : (r : DriverNo) (rs : List DriverNo) → has_driver rs r ≡ true → IsOneOf (actors.Driver r) (map (λ r. actors.Driver r) rs)
driver_listed r [] h = cc
driver_listed r (s ∷ rs) h = elim (or_cases (s.0 == r.0) (has_driver rs r) h) [
  | inl here ↦ inl (ap (λ (d : DriverNo). actors.Driver d) (sym (driver_from_same s r here)))
  | inr there ↦ inr (driver_listed r rs there)
]

caller_listed : (board : BoardSeen) → IsBoard board → (lines : List BoardLine) (r : DriverNo) (x : BoardLine)
    → line_for board lines (actors.Driver r) ≡ Some x → IsOneOf (actors.Driver r) (drivers_of board)
caller_listed board is lines r x its =
    let k = current lines r [] board.calls x its in
    let declared = (is.calls k.place k.call k.at).driver in
    driver_listed r board.drivers (ap (λ (s : DriverNo). has_driver board.drivers s) (driver_from_same r k.call.driver k.mine) ∙ declared)

-- ---- all of them

listed : (board : BoardSeen) → IsBoard board → AreValid board → (lines : List BoardLine) → AreKept board lines
    → (a : Actor) (m : Move) → MovesOn board lines a m → IsOneOf a (actors_of board)
listed board is valid lines k (actors.Thread d) m moves =
    let at = def_at board lines k moves.place moves.line moves.at in
    in_first (actors.Thread d) (threads_of board) (cpus_of board ++ drivers_of board)
    (thread_listed board moves.line (def_of_row board moves.place moves.line.def at) d m.1 moves.due)
listed board is valid lines k (actors.Cpu c) m moves =
    let at = def_at board lines k moves.place moves.line moves.at in
    in_second (actors.Cpu c) (threads_of board) (cpus_of board ++ drivers_of board) (in_first (actors.Cpu c) (cpus_of board) (drivers_of board)
    (cpu_listed board moves.line (def_of_row board moves.place moves.line.def at) (valid moves.place moves.line.def at)
    (k.legal moves.place moves.line moves.at) c m.1 moves.due))
listed board is valid lines k (actors.Driver r) m moves =
    in_second (actors.Driver r) (threads_of board) (cpus_of board ++ drivers_of board)
    (in_second (actors.Driver r) (cpus_of board) (drivers_of board)
    (caller_listed board is lines r moves.line moves.its))

-- if none of the board's actors can move, none can
pub all_rest : (board : BoardSeen) → IsBoard board → AreValid board → (lines : List BoardLine) → AreKept board lines
    → ((a : Actor) → IsOneOf a (actors_of board) → due_move board lines a ≡ None) → (a : Actor)
    → due_move board lines a ≡ None
all_rest board is valid lines k rest a = by_move (due_move board lines a) refl
  where
    by_move : (o : Option Move) → due_move board lines a ≡ o → due_move board lines a ≡ None
    by_move None due = due
    by_move (Some m) due = rest a (listed board is valid lines k a m (moves_on board lines a m due))
