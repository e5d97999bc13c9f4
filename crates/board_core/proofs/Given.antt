-- Handlers that threads share gave the answers of the runs that moves ended.
use Rattle.std.proofs.Common.{◌≡◌, ℕ, Bool, true, false, cond, IfSome, Option, Some, None, List, [], ◌∷◌, ◌++◌, map, slice_get, refl, sym, ap, ◌∙◌, subst}
use Rattle.irq_base.specs.declared.devices.Answer.{Answer}
use Rattle.irq_base.specs.declared.devices.Run.{Run}
use Rattle.irq_base.specs.declared.lines.LineDef.{LineDef}
use Rattle.irq_base.specs.declared.numbers.LineNo.{LineNo}
use Rattle.irq_model.specs.Kinds.{same_line}
use Rattle.irq_model.proofs.Same.{line_from_same}
use Rattle.callbacks.specs.Heard.{Heard, one_run}
use Rattle.callbacks.specs.Seen.{answer_to}
use Rattle.irq_line.specs.Given.{AreGiven}
use Rattle.irq_line.specs.Runs.{run_ended}
use Rattle.board_play.specs.Lines.{BoardLine, Move, find_line}
use Rattle.board_play.proofs.Members.{AreApart, find_there}
use Rattle.board_play.proofs.Moving.{defs_moved, moved_at}
use Rattle.board_core.specs.Playing.{lines_after_all}
use Rattle.board_core.specs.Runs.{run_on, runs_by_move, runs_from}

module _ (gave : Run → Answer → Type 0) where
  -- each of the runs was given its answer
  abbrev pub EachGiven : List Run → Type 0
  EachGiven [] = Unit {0}
  EachGiven (run ∷ runs) = gave run (answer_to run) × EachGiven runs

  -- of handlers that each call leaves as they are
  pub all_given : {H : Type 0} (hears : H → Run → H → Type 0) (h : H)
      → ((run : Run) (k : H) → hears h run k → gave run (answer_to run) × (k ≡ h)) → (runs : List Run) (k : H) → Heard hears runs h k
      → EachGiven runs × (k ≡ h)
  all_given hears h call [] k heard = (tt, sym heard)
  all_given {H} hears h call (run ∷ runs) k heard =
      let older = all_given hears h call runs heard.0 heard.1 in
      let now = call run k (subst (λ (x : H). hears x run k) older.1 heard.2) in
      ((now.0, older.0), now.1)

  -- each run that ended on one of the lines was given its answer
  abbrev pub LinesGiven : List BoardLine → Type 0
  LinesGiven lines = (i : ℕ) (x : BoardLine) → slice_get lines i ≡ Some x → AreGiven gave x.def x.past

  first_given : (runs more : List Run) → EachGiven (runs ++ more) → EachGiven runs
  first_given [] more each = tt
  first_given (run ∷ runs) more each = (each.0, first_given runs more each.1)

  rest_given : (runs more : List Run) → EachGiven (runs ++ more) → EachGiven more
  rest_given [] more each = each
  rest_given (run ∷ runs) more each = rest_given runs more each.1

  one_given : (o : Option Run) → EachGiven (one_run o) → IfSome o (λ run. gave run (answer_to run))
  one_given None each = tt
  one_given (Some run) each = each.0

  same_defs : (lines : List BoardLine) (moves : List Move)
      → map (λ (x : BoardLine). x.def) (lines_after_all moves lines) ≡ map (λ (x : BoardLine). x.def) lines
  same_defs lines [] = refl
  same_defs lines (m ∷ moves) = defs_moved (lines_after_all moves lines) m ∙ same_defs lines moves

  -- and so it is after moves whose runs were given theirs
  pub given_after : (lines : List BoardLine) → AreApart (map (λ (x : BoardLine). x.def) lines) → (moves : List Move) → LinesGiven lines
      → EachGiven (runs_from lines moves) → LinesGiven (lines_after_all moves lines)
  given_after lines apart [] given each i y at = given i y at
  given_after lines apart (m ∷ moves) given each i y at =
      let was = moved_at now m i y at in
      subst (λ (z : BoardLine). AreGiven gave z.def z.past) was.is
      (by_line was.line was.at (same_line was.line.def.line m.0) refl
      (given_after lines apart moves given (rest_given (runs_by_move now m) (runs_from lines moves) each) i was.line was.at))
    where
      now : List BoardLine
      now = lines_after_all moves lines

      here : EachGiven (one_run (run_on (find_line (lines_after_all moves lines) m.0) m.1))
      here = first_given (runs_by_move (lines_after_all moves lines) m) (runs_from lines moves) each

      by_line : (x : BoardLine) → slice_get (lines_after_all moves lines) i ≡ Some x → (t : Bool) → same_line x.def.line m.0 ≡ t
          → AreGiven gave x.def x.past → AreGiven gave x.def (cond t (m.1 ∷ x.past) x.past)
      by_line x at_x false other before = before
      by_line x at_x true same before =
          let found : find_line (lines_after_all moves lines) m.0 ≡ Some x =
          ap (λ (l : LineNo). find_line (lines_after_all moves lines) l) (sym (line_from_same x.def.line m.0 same))
          ∙ find_there (lines_after_all moves lines) (subst (λ (ds : List LineDef). AreApart ds) (sym (same_defs lines moves)) apart) i x at_x in
          (before, one_given (run_ended x.def x.past m.1) (subst (λ (o : Option BoardLine). EachGiven (one_run (run_on o m.1))) found here))
