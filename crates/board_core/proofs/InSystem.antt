-- A turn at a place of a system's lines.
use Rattle.std.proofs.Common.{◌≡◌, ℕ, ◌<◌, IsSome, IfSome, IsSomeAnd, Option, Some, None, Result, Ok, Err, List, []}
use Rattle.std.proofs.Common.{◌∷◌, map, length, get_or, slice_get, refl, sym, ap, ◌∙◌, subst, arith}
use Rattle.std.proofs.Math.ListN.{length-map}
use Rattle.std.proofs.lemmas.List.{length-set}
use Rattle.std.proofs.lemmas.Option.{slice_get_within}
use Rattle.irq_base.specs.declared.entries.Actor.{Actor}
use Rattle.irq_base.specs.declared.entries.Actor.TheVariants as actors
use Rattle.irq_base.specs.declared.entries.Entry.{Entry}
use Rattle.irq_base.specs.declared.lines.LineDef.{LineDef}
use Rattle.irq_base.specs.declared.numbers.DriverNo.{DriverNo}
use Rattle.irq_line.specs.Seen.{LineSeen}
use Rattle.irq_line.specs.declared.answers.StepRefused.{StepRefused}
use Rattle.irq_line.specs.declared.answers.Stepped.{Stepped}
use Rattle.irq_line.specs.declared.answers.Stepped.TheVariants as stepped
use Rattle.callbacks.specs.Heard.{one_run}
use Rattle.board_def.specs.Seen.{BoardSeen}
use Rattle.board_play.specs.Lines.{BoardLine, defs_of}
use Rattle.board_play.specs.Order.{due_on}
use Rattle.board_ready.specs.Seen.{ReadySeen}
use Rattle.board_core.specs.Inside.{seen_of, IsSystem, IsKept}
use Rattle.board_core.specs.Numbers.{numbers_of_defs, numbers_of_lines}
use Rattle.board_core.specs.Refreshed.{IsRefreshed}
use Rattle.board_core.specs.Stands.{CanStepAt}
use Rattle.board_core.specs.declared.stands.Stand.{Stand}
use Rattle.board_core.specs.Pieces.{EndsPiece, IsPieced}
use Rattle.board_core.specs.Places.{SteppedAt, StepWants}
use Rattle.board_core.specs.Wanted.{HasSpare, WantedMemory, WantsOn}
use Rattle.board_core.specs.Runs.{run_on, runs_at, runs_by_move, runs_by_turn}
use Rattle.board_core.specs.Scripts.{ScriptSeen, advanced}
use Rattle.board_core.specs.Seen.{SystemSeen, board_line, board_lines}
use Rattle.board_core.specs.Turned.{IsScriptOf, StepsBy, script_after, scripts_after, turn_of}
use Rattle.board_core.specs.declared.turns.Turn.{Turn}
use Rattle.irq_line.specs.declared.answers.StepRefused.TheVariants as refusals
use Rattle.board_core.proofs.InLists.{map_there, set_other}
use Rattle.board_core.proofs.Kept.{KeptSystem, Step}
use Rattle.board_core.proofs.TurnLaws.{number_found, system_after, turned}
use Rattle.board_core.proofs.Few.{few_lines}
use Rattle.board_core.proofs.Readiness.{ready_after, seen_at}
use Rattle.board_core.proofs.Walking.{walk_after, walk_length}

some_there : {A : Type 0} (xs : List A) (k : ℕ) (o : Option A) → slice_get xs k ≡ o → IsSome o → k < length xs
some_there xs k None at some = cc
some_there xs k (Some x) at some = slice_get_within xs k x at

-- the lines' numbers are the board's
pub numbers_are : (lines : List LineSeen) → numbers_of_lines lines ≡ numbers_of_defs (map (λ (x : BoardLine). x.def) (board_lines lines))
numbers_are [] = refl
numbers_are (x ∷ xs) = ap (λ (ns : List ℕ). x.def.line.0 ∷ ns) (numbers_are xs)

pub numbers_kept : (board : BoardSeen) (lines : List LineSeen) (scripts : List ScriptSeen)
    → IsSystem board lines scripts → numbers_of_lines lines ≡ numbers_of_defs (defs_of board)
numbers_kept board lines scripts is = numbers_are lines ∙ ap (λ (ds : List LineDef). numbers_of_defs ds) is.kept.defs

-- ---- the system before a step

module _ {view : SystemSeen} (system : KeptSystem view) {a : Actor} {stand : Stand} (can : CanStepAt view a stand) where
  open system use {board, layout, lines, scripts, order, parts, is_board, kept, view_is}

  its : CanStepAt (seen_of board layout lines order) a stand
  its = subst (λ (s : SystemSeen). CanStepAt s a stand) (sym view_is) can

  pub within : stand.line < length lines
  within =
      let l = some_there (board_lines lines) stand.line (slice_get (board_lines lines) stand.line) refl its.line in
      let m = length-map lines board_line in
      omega (arith, l, m)

  pub few : stand.line < 65536
  few = let w = within in let l = few_lines board is_board lines kept.system.kept.defs in omega (arith, w, l)

  pub part_within : stand.line < length parts.ready.lines
  part_within = let w = within in let m = kept.ready.all_lines in omega (arith, w, m)

  pub script_within : IfSome stand.script (λ j. j < length scripts)
  script_within = by_actor a stand.script its.script
    where
      by_actor : (b : Actor) (o : Option ℕ) → IsScriptOf board.drivers b o → IfSome o (λ j. j < length scripts)
      by_actor (actors.Driver r) None of = absurd of
      by_actor (actors.Driver r) (Some j) of =
          let l = slice_get_within board.drivers j r of in
          let n = length-map scripts (λ (s : ScriptSeen). s.driver) in
          let e = ap (λ (rs : List DriverNo). length rs) kept.system.drivers in
          omega (arith, l, n, e)
      by_actor (actors.Cpu c) None of = tt
      by_actor (actors.Cpu c) (Some j) of = absurd of
      by_actor (actors.Thread d) None of = tt
      by_actor (actors.Thread d) (Some j) of = absurd of

  pub driver_within : IfSome stand.script (λ j. j < length parts.ready.drivers)
  driver_within = by_place stand.script script_within
    where
      by_place : (o : Option ℕ) → IfSome o (λ j. j < length scripts) → IfSome o (λ j. j < length parts.ready.drivers)
      by_place None h = tt
      by_place (Some j) h = let m = kept.ready.all_drivers in omega (arith, h, m)

-- ---- what a step leaves alone

module _ {L : Type 0} (old : List LineSeen) (order : List ℕ) (k : ℕ) (a : Actor) (new : List LineSeen) (longer : List ℕ) where
  as_many : (r : Result (Stepped L) StepRefused) → SteppedAt old order k a r new longer → length new ≡ length old
  as_many (Ok (stepped.Added e)) s = ap (λ (ls : List LineSeen). length ls) s.rest ∙ length-set old k s.after
  as_many (Ok (stepped.Lacks lack)) s = absurd s
  as_many (Ok stepped.NotYet) s = ap (λ (ls : List LineSeen). length ls) s.1
  as_many (Err (refusals.Full line len)) s = ap (λ (ls : List LineSeen). length ls) s.1
  as_many (Err refusals.NoMemory) s = ap (λ (ls : List LineSeen). length ls) s.0

  others : (r : Result (Stepped L) StepRefused) → SteppedAt old order k a r new longer
      → (i : ℕ) → ((i ≡ k) → ⊥) → slice_get new i ≡ slice_get old i
  others (Ok (stepped.Added e)) s i other = ap (λ (ls : List LineSeen). slice_get ls i) s.rest ∙ set_other old k i s.after other
  others (Ok (stepped.Lacks lack)) s i other = absurd s
  others (Ok stepped.NotYet) s i other = ap (λ (ls : List LineSeen). slice_get ls i) s.1
  others (Err (refusals.Full line len)) s i other = ap (λ (ls : List LineSeen). slice_get ls i) s.1
  others (Err refusals.NoMemory) s i other = ap (λ (ls : List LineSeen). slice_get ls i) s.0

other_script : {L : Type 0} (scripts : List ScriptSeen) (script : Option ℕ) (r : Result (Stepped L) StepRefused) (i : ℕ)
    → (script ≡ Some i → ⊥) → slice_get (scripts_after script r scripts) i ≡ slice_get scripts i
other_script scripts None r i other = refl
other_script scripts (Some j) (Ok stepped.NotYet) i other = refl
other_script scripts (Some j) (Ok (stepped.Lacks lack)) i other = refl
other_script scripts (Some j) (Err refused) i other = refl
other_script scripts (Some j) (Ok (stepped.Added e)) i other = by_script (slice_get scripts j)
  where
    by_script : (o : Option ScriptSeen) → slice_get (script_after o j e scripts) i ≡ slice_get scripts i
    by_script None = refl
    by_script (Some s) = set_other scripts j i (advanced e s) (λ same. other (ap (λ (n : ℕ). Some n) (sym same)))

as_many_scripts : {L : Type 0} (scripts : List ScriptSeen) (script : Option ℕ) (r : Result (Stepped L) StepRefused)
    → length (scripts_after script r scripts) ≡ length scripts
as_many_scripts scripts None r = refl
as_many_scripts scripts (Some j) (Ok stepped.NotYet) = refl
as_many_scripts scripts (Some j) (Ok (stepped.Lacks lack)) = refl
as_many_scripts scripts (Some j) (Err refused) = refl
as_many_scripts scripts (Some j) (Ok (stepped.Added e)) = by_script (slice_get scripts j)
  where
    by_script : (o : Option ScriptSeen) → length (script_after o j e scripts) ≡ length scripts
    by_script None = refl
    by_script (Some s) = length-set scripts j (advanced e s)

-- ---- the system after a step

module _ {L : Type 0} {view : SystemSeen} (system : KeptSystem view) {a : Actor} {stand : Stand} (can : CanStepAt view a stand)
    (step : Step L system a stand) where
  open system use {board, layout, lines, scripts, parts, kept}

  many_lines : length step.lines ≡ length lines
  many_lines = as_many lines system.order stand.line a step.lines step.order step.answer step.stepped

  many_scripts : length step.scripts ≡ length scripts
  many_scripts = ap (λ (ss : List ScriptSeen). length ss) step.scripts_are ∙ as_many_scripts scripts stand.script step.answer

  -- the bounds of what is asked again
  pub line_within : stand.line < length step.lines
  line_within = let w = within system can in let m = many_lines in omega (arith, w, m)

  pub scripts_within : IfSome stand.script (λ j. j < length step.scripts)
  scripts_within = by_place stand.script (script_within system can)
    where
      by_place : (o : Option ℕ) → IfSome o (λ j. j < length scripts) → IfSome o (λ j. j < length step.scripts)
      by_place None h = tt
      by_place (Some j) h = let m = many_scripts in omega (arith, h, m)

  pub kept_after : (ready : ReadySeen) → IsRefreshed step.lines step.scripts stand.line stand.script parts.ready ready
      → (capacity : ℕ) → IsPieced (length step.order) capacity
      → IsKept board step.lines step.scripts step.order (record parts { ready = ready; capacity = capacity })
  kept_after ready refreshed capacity pieced =
      let after = system_after L system can step in
      record {
        system = after;
        ready =
            ready_after lines step.lines scripts step.scripts stand.line stand.script parts.ready ready
            (within system can) kept.ready many_lines
            (others lines system.order stand.line a step.lines step.order step.answer step.stepped) many_scripts
            (λ j other. ap (λ (ss : List ScriptSeen). slice_get ss j) step.scripts_are ∙ other_script scripts stand.script step.answer j other) refreshed;
        told = walk_after parts.begun system.order step.order lines step.lines stand.line a step.answer step.stepped kept.told;
        line_numbers = kept.line_numbers ∙ (numbers_kept board lines scripts kept.system ∙ sym (numbers_kept board step.lines step.scripts after));
        driver_numbers = kept.driver_numbers;
        pieced = pieced;
      }

  pub steps_so : (turn : Result Turn StepRefused) → turn ≡ turn_of step.number step.answer
      → StepsBy view (due_on (slice_get (board_lines view.lines) stand.line) a) turn (seen_of board layout step.lines step.order)
  steps_so turn same =
      subst (λ (t : Result Turn StepRefused). StepsBy view (due_on (slice_get (board_lines view.lines) stand.line) a) t
      (seen_of board layout step.lines step.order))
      (sym same) (turned L system can step)

  -- a refusal of the place is one of the system
  pub wants_so : (may_want : Option Entry → Type 0) (turn : Result Turn StepRefused) → turn ≡ turn_of step.number step.answer
      → StepWants may_want lines (length system.order) stand.line a step.answer
      → WantsOn may_want view (slice_get (board_lines view.lines) stand.line) a turn
  wants_so may_want turn same wants =
      subst (λ (t : Result Turn StepRefused). WantsOn may_want view (slice_get (board_lines view.lines) stand.line) a t)
      (sym same) (by_answer step.answer wants)
    where
      by_answer : (r : Result (Stepped L) StepRefused) → StepWants may_want lines (length system.order) stand.line a r
          → WantsOn may_want view (slice_get (board_lines view.lines) stand.line) a (turn_of step.number r)
      by_answer (Ok (stepped.Added e)) wants = tt
      by_answer (Ok stepped.NotYet) wants = tt
      by_answer (Ok (stepped.Lacks lack)) wants = tt
      by_answer (Err (refusals.Full line len)) wants = tt
      by_answer (Err refusals.NoMemory) wants =
          subst (λ (s : SystemSeen). WantedMemory may_want (HasSpare s.lines) (length s.log) (slice_get (board_lines s.lines) stand.line) a) system.view_is
          (record {
            line = board_line wants.line;
            is = map_there board_line lines stand.line wants.line wants.at;
            wanted = λ room fits. wants.wanted (room stand.line wants.line wants.at refl)
                (subst (λ (n : ℕ). EndsPiece n → ⊥) (walk_length system.order parts.begun lines kept.told) fits);
          })

  -- the run that ended at the place is the turn's
  pub runs_so : (turn : Result Turn StepRefused) → turn ≡ turn_of step.number step.answer → runs_at lines stand.line step.answer ≡ runs_by_turn view turn
  runs_so turn same = by_answer step.answer ∙ ap (λ (t : Result Turn StepRefused). runs_by_turn view t) (sym same)
    where
      by_answer : (r : Result (Stepped L) StepRefused) → runs_at lines stand.line r ≡ runs_by_turn view (turn_of step.number r)
      by_answer (Ok (stepped.Added e)) =
          ap (λ (o : Option BoardLine). one_run (run_on o e)) (number_found L system can step.number step.number_is)
          ∙ ap (λ (s : SystemSeen). runs_by_move (board_lines s.lines) (step.number, e)) system.view_is
      by_answer (Ok stepped.NotYet) = refl
      by_answer (Ok (stepped.Lacks lack)) = refl
      by_answer (Err (refusals.Full line len)) = refl
      by_answer (Err refusals.NoMemory) = refl

-- the number of the line that was read at a place
pub number_read : {X : Type 0} (f : X → LineSeen) (xs : List X) (k : ℕ) (x : X) (d : LineDef) → k < length (map f xs)
    → x ≡ get_or xs k x → d ≡ (f x).def → IsSomeAnd (slice_get (map f xs) k) (λ y. d.line ≡ y.def.line)
number_read f xs k x d within is_x is_d =
    let n = length-map xs f in
    subst (λ (o : Option LineSeen). IsSomeAnd o (λ y. d.line ≡ y.def.line)) (sym (seen_at f xs k x (omega (arith, within, n)) is_x))
    (ap (λ (e : LineDef). e.line) is_d)
