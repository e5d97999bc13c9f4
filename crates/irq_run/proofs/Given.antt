-- Each run that ended in the histories of a run was given.
use Rattle.std.proofs.Common.{◌≡◌, ℕ, suc, Bool, true, false, cond, IfSome, Option, Some, None, List, [], ◌∷◌, ◌++◌}
use Rattle.std.proofs.Common.{map, reverse, slice_get, refl, sym, ap, ◌∙◌, subst}
use Rattle.std.proofs.lemmas.List.{reverse-reverse}
use Rattle.irq_base.specs.declared.devices.Answer.{Answer}
use Rattle.irq_base.specs.declared.devices.Run.{Run}
use Rattle.irq_base.specs.declared.entries.Entry.{Entry}
use Rattle.irq_base.specs.declared.lines.LineDef.{LineDef}
use Rattle.irq_model.specs.Kinds.{same_line}
use Rattle.irq_model.proofs.Same.{line_from_same}
use Rattle.callbacks.specs.Heard.{Heard, one_run}
use Rattle.callbacks.specs.Seen.{answer_to}
use Rattle.irq_line.specs.Given.{AreGiven}
use Rattle.irq_line.specs.Runs.{run_ended}
use Rattle.irq_line.specs.Seen.{LineSeen}
use Rattle.board_core.specs.Playing.{lines_after_all}
use Rattle.board_core.specs.Runs.{run_on, runs_by_move, runs_from}
use Rattle.board_core.specs.Seen.{SystemSeen, board_line, board_lines}
use Rattle.board_core.specs.Settled.{SettlesLines}
use Rattle.board_def.specs.Rules.{IsBoard}
use Rattle.board_def.specs.Seen.{BoardSeen}
use Rattle.board_play.specs.Kept.{AreKept}
use Rattle.board_play.specs.Lines.{BoardLine, Move, defs_of, find_line, line_after, lines_after}
use Rattle.board_play.proofs.KeptAlways.{apart_kept}
use Rattle.board_play.proofs.Members.{AreApart, find_there}
use Rattle.board_report.specs.Reporting.{entries_in, entries_of}
use Rattle.line_lock.specs.Passes.{LockSeen}
use Rattle.workers.specs.Fit.{Fit}
use Rattle.workers.specs.Gathers.{AreGathered}
use Rattle.workers.specs.Given.{AreJobsGiven}
use Rattle.workers.specs.Seen.{JobsSeen}
use Rattle.workers.proofs.Given.{gathered_given}
use Rattle.workers.proofs.Lists.{of_map}
use Rattle.irq_run.specs.Given.{EachGiven, lines_with}
use Rattle.irq_run.proofs.Coming.{defs_after}

-- ---- the lines, by their histories

mapped_back : (f : LineDef → BoardLine) (lines : List BoardLine)
    → ((i : ℕ) (x : BoardLine) → slice_get lines i ≡ Some x → f x.def ≡ x) → map f (map (λ (x : BoardLine). x.def) lines) ≡ lines
mapped_back f [] each = refl
mapped_back f (x ∷ xs) each =
    ap (λ (y : BoardLine). y ∷ map f (map (λ (x : BoardLine). x.def) xs)) (each 0 x refl)
    ∙ ap (λ (ys : List BoardLine). x ∷ ys) (mapped_back f xs (λ i y at. each (suc i) y at))

-- lines of the board are those with their histories
pub with_same : (b : BoardSeen) (lines : List BoardLine) → map (λ (x : BoardLine). x.def) lines ≡ defs_of b
    → AreApart (map (λ (x : BoardLine). x.def) lines) → lines_with b (entries_in lines) ≡ lines
with_same b lines defs apart =
    ap (map line_of) (sym defs) ∙ mapped_back line_of lines same
  where
    line_of : LineDef → BoardLine
    line_of def = record { def = def; past = reverse (entries_in lines def.line) }

    same : (i : ℕ) (x : BoardLine) → slice_get lines i ≡ Some x → line_of x.def ≡ x
    same i x at =
        ap (λ (past : List Entry). record { def = x.def; past = past })
        (ap (λ (o : Option BoardLine). reverse (entries_of o)) (find_there lines apart i x at) ∙ reverse-reverse x.past)

-- ---- moves

module _ (gave : Run → Answer → Type 0) where
  abbrev AllGiven : List Run → Type 0
  AllGiven [] = Unit {0}
  AllGiven (run ∷ runs) = gave run (answer_to run) × AllGiven runs

  split : (new old : List Run) → AllGiven (new ++ old) → AllGiven new × AllGiven old
  split [] old all = (tt, all)
  split (run ∷ runs) old all = let rest = split runs old all.1 in ((all.0, rest.0), rest.1)

  -- handlers that stay as they are were called once for each run
  heard_given : {E : Type 0} (hears : E → Run → E → Type 0) (first : E) → ((run : Run) (new : E) → hears first run new
      → gave run (answer_to run) × (new ≡ first)) → (runs : List Run) (new : E) → Heard hears runs first new → AllGiven runs × (new ≡ first)
  heard_given hears first each [] new heard = (tt, sym heard)
  heard_given {E} hears first each (run ∷ runs) new heard =
      let older = heard_given hears first each runs heard.0 heard.1 in
      let called = each run new (subst (λ (x : E). hears x run new) older.1 heard.2) in
      ((called.0, older.0), called.1)

  move_given : (m : Move) (lines : List BoardLine) → AreApart (map (λ (x : BoardLine). x.def) lines) → EachGiven gave lines
      → AllGiven (runs_by_move lines m) → EachGiven gave (lines_after m lines)
  move_given m lines apart given all i x at =
      let y = of_map (line_after m) lines i x at in
      subst (λ (z : BoardLine). AreGiven gave z.def z.past) y.2 (by_test y.0 y.1 (same_line y.0.def.line m.0) refl)
    where
      its : (o : Option Run) → AllGiven (one_run o) → IfSome o (λ run. gave run (answer_to run))
      its None all = tt
      its (Some run) all = all.0

      by_test : (y : BoardLine) → slice_get lines i ≡ Some y → (t : Bool) → same_line y.def.line m.0 ≡ t
          → AreGiven gave y.def (cond t (m.1 ∷ y.past) y.past)
      by_test y at_y true same =
          let found : find_line lines m.0 ≡ Some y = ap (find_line lines) (sym (line_from_same y.def.line m.0 same)) ∙ find_there lines apart i y at_y in
          (given i y at_y, its (run_ended y.def y.past m.1) (subst (λ (o : Option BoardLine). AllGiven (one_run (run_on o m.1))) found all))
      by_test y at_y false other = given i y at_y

  moves_given : (moves : List Move) (lines : List BoardLine) → AreApart (map (λ (x : BoardLine). x.def) lines) → EachGiven gave lines
      → AllGiven (runs_from lines moves) → EachGiven gave (lines_after_all moves lines)
  moves_given [] lines apart given all = given
  moves_given (m ∷ g) lines apart given all =
      let parts = split (runs_by_move (lines_after_all g lines) m) (runs_from lines g) all in
      move_given m (lines_after_all g lines) (subst AreApart (sym (defs_after g lines)) apart)
      (moves_given g lines apart given parts.1) parts.0

-- ---- a run

pub settled_given : (gave : Run → Answer → Type 0) (b : BoardSeen) (locks : List LockSeen) (jobs : JobsSeen) (lines : List LineSeen)
    (old new : SystemSeen) → IsBoard b → jobs.board ≡ b → Fit locks jobs → AreJobsGiven gave jobs
    → AreKept jobs.board (board_lines lines) → AreGathered jobs lines → old.lines ≡ lines
    → {E : Type 0} (hears : E → Run → E → Type 0) (first after : E)
    → ((run : Run) (new : E) → hears first run new → gave run (answer_to run) × (new ≡ first))
    → SettlesLines hears old new first after → EachGiven gave (lines_with b (entries_in (board_lines new.lines)))
settled_given gave b locks jobs lines old new isb of_board fit given kept gathered are {E} hears first after each s =
    subst (EachGiven gave) (sym (with_same b (board_lines new.lines) defs_new (subst AreApart (sym (defs_new ∙ sym defs_lines)) apart)))
    (subst (EachGiven gave) (sym lines_are) (moves_given gave s.moves (board_lines lines) apart each_gathered runs))
  where
    kept_b : AreKept b (board_lines lines)
    kept_b = subst (λ (c : BoardSeen). AreKept c (board_lines lines)) of_board kept

    defs_lines : map (λ (x : BoardLine). x.def) (board_lines lines) ≡ defs_of b
    defs_lines = kept_b.defs

    apart : AreApart (map (λ (x : BoardLine). x.def) (board_lines lines))
    apart = apart_kept b isb (board_lines lines) kept_b

    lines_are : board_lines new.lines ≡ lines_after_all s.moves (board_lines lines)
    lines_are = s.lines ∙ ap (λ (ls : List LineSeen). lines_after_all s.moves (board_lines ls)) are

    defs_new : map (λ (x : BoardLine). x.def) (board_lines new.lines) ≡ defs_of b
    defs_new = ap (map (λ (x : BoardLine). x.def)) lines_are ∙ (defs_after s.moves (board_lines lines) ∙ defs_lines)

    each_gathered : EachGiven gave (board_lines lines)
    each_gathered i x at =
        let y = of_map board_line lines i x at in
        subst (λ (z : BoardLine). AreGiven gave z.def z.past) y.2 (gathered_given gave locks jobs lines fit given gathered i y.0 y.1)

    runs : AllGiven gave (runs_from (board_lines lines) s.moves)
    runs = (heard_given gave hears first each (runs_from (board_lines lines) s.moves) after
        (subst (λ (ls : List LineSeen). Heard hears (runs_from (board_lines ls) s.moves) first after) are s.heard)).0
