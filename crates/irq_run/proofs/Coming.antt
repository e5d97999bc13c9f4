-- The histories of a run go on from what the workers' passes had seen.
use Rattle.std.proofs.Common.{◌≡◌, ℕ, zero, suc, ◌+◌, Bool, true, false, cond, IsSomeAnd, Option, Some, None, List, [], ◌∷◌, ◌++◌}
use Rattle.std.proofs.Common.{map, reverse, slice_get, refl, sym, ap, ◌∙◌, subst}
use Rattle.std.proofs.lemmas.List.{reverse-append, reverse-reverse}
use Rattle.irq_base.specs.declared.devices.Run.{Run}
use Rattle.irq_base.specs.declared.entries.Entry.{Entry}
use Rattle.irq_base.specs.declared.lines.LineDef.{LineDef}
use Rattle.irq_laws.proofs.Chosen.{the_same}
use Rattle.irq_line.specs.Seen.{LineSeen}
use Rattle.irq_model.specs.Kinds.{same_line}
use Rattle.board_core.specs.Playing.{AreLowestMoves, lines_after_all}
use Rattle.board_core.specs.Seen.{SystemSeen, board_line, board_lines}
use Rattle.board_core.specs.Settled.{SettlesLines}
use Rattle.board_def.specs.Rules.{IsBoard}
use Rattle.board_def.specs.Seen.{BoardSeen}
use Rattle.board_play.specs.Kept.{AreKept}
use Rattle.board_play.specs.Lines.{BoardLine, Move, find_line, line_after, lines_after}
use Rattle.board_play.proofs.KeptAlways.{apart_kept}
use Rattle.board_play.proofs.Members.{AreApart, find_there}
use Rattle.board_play.proofs.Moving.{defs_moved}
use Rattle.board_report.specs.Reporting.{entries_in, entries_of}
use Rattle.line_lock.specs.Knows.{BeginsWith}
use Rattle.line_lock.specs.Passes.{LockSeen}
use Rattle.line_lock.proofs.Placing.{begins_more}
use Rattle.workers.specs.Fit.{Fit}
use Rattle.workers.specs.Gathers.{AreGathered, HasAllOf}
use Rattle.workers.specs.Seen.{PostSeen, JobSeen, JobsSeen}
use Rattle.workers.specs.Terms.{Terms}
use Rattle.irq_run.specs.Came.{AreOver, AreSettled, CameOfShifts}
use Rattle.irq_run.proofs.Fresh.{stands_so}

-- the line at a place after some moves: it has more entries, and these are its newest
record Grown (lines : List BoardLine) (i : ℕ) (x : BoardLine) : Type 0 where
  line : BoardLine
  at : slice_get lines i ≡ Some line
  def : line.def ≡ x.def
  more : List Entry
  past : line.past ≡ more ++ x.past

moved_there : (m : Move) (lines : List BoardLine) (i : ℕ) (y : BoardLine) → slice_get lines i ≡ Some y
    → slice_get (lines_after m lines) i ≡ Some (line_after m y)
moved_there m [] i y at = cc
moved_there m (z ∷ zs) zero y at = ap (λ (x : BoardLine). Some (line_after m x)) (the_same z y at)
moved_there m (z ∷ zs) (suc i) y at = moved_there m zs i y at

grown : (moves : List Move) (lines : List BoardLine) (i : ℕ) (x : BoardLine) → slice_get lines i ≡ Some x → Grown (lines_after_all moves lines) i x
grown [] lines i x at = record { line = x; at = at; def = refl; more = []; past = refl }
grown (m ∷ g) lines i x at = one_more (grown g lines i x at)
  where
    one_more : Grown (lines_after_all g lines) i x → Grown (lines_after m (lines_after_all g lines)) i x
    one_more y = by_test (same_line y.line.def.line m.0) refl
      where
        here : slice_get (lines_after m (lines_after_all g lines)) i ≡ Some (line_after m y.line)
        here = moved_there m (lines_after_all g lines) i y.line y.at

        past_is : (b : Bool) → same_line y.line.def.line m.0 ≡ b → (line_after m y.line).past ≡ cond b (m.1 ∷ y.line.past) y.line.past
        past_is b test = ap (λ (c : Bool). cond c (m.1 ∷ y.line.past) y.line.past) test

        by_test : (b : Bool) → same_line y.line.def.line m.0 ≡ b → Grown (lines_after m (lines_after_all g lines)) i x
        by_test true test = record {
          line = line_after m y.line;
          at = here;
          def = y.def;
          more = m.1 ∷ y.more;
          past = past_is true test ∙ ap (λ (es : List Entry). m.1 ∷ es) y.past;
        }
        by_test false test = record { line = line_after m y.line; at = here; def = y.def; more = y.more; past = past_is false test ∙ y.past }

pub defs_after : (moves : List Move) (lines : List BoardLine)
    → map (λ (x : BoardLine). x.def) (lines_after_all moves lines) ≡ map (λ (x : BoardLine). x.def) lines
defs_after [] lines = refl
defs_after (m ∷ g) lines = defs_moved (lines_after_all g lines) m ∙ defs_after g lines

-- the entries of a line after some moves go on from those before them
goes_on : (moves : List Move) (lines : List LineSeen) → AreApart (map (λ (x : BoardLine). x.def) (board_lines lines))
    → (i : ℕ) (x : LineSeen) → slice_get lines i ≡ Some x → BeginsWith (entries_in (lines_after_all moves (board_lines lines)) x.def.line) x.entries
goes_on moves lines apart i x at = (reverse y.more, is)
  where
    y : Grown (lines_after_all moves (board_lines lines)) i (board_line x)
    y = grown moves (board_lines lines) i (board_line x) (stands_so lines i x at)

    there : find_line (lines_after_all moves (board_lines lines)) x.def.line ≡ Some y.line
    there = ap (λ (d : LineDef). find_line (lines_after_all moves (board_lines lines)) d.line) (sym y.def)
        ∙ find_there (lines_after_all moves (board_lines lines)) (subst AreApart (sym (defs_after moves (board_lines lines))) apart) i y.line y.at

    is : entries_in (lines_after_all moves (board_lines lines)) x.def.line ≡ x.entries ++ reverse y.more
    is = ap entries_of there
        ∙ (ap (λ (es : List Entry). reverse es) y.past
        ∙ (reverse-append y.more (reverse x.entries) ∙ ap (λ (es : List Entry). es ++ reverse y.more) (reverse-reverse x.entries)))

-- what settling a system of these lines leaves
settled_so : {H : Type 0} {hears : H → Run → H → Type 0} {before after : H} (b : BoardSeen) (lines : List LineSeen) (old new : SystemSeen)
    → old.board ≡ b → old.lines ≡ lines → (s : SettlesLines hears old new before after)
    → AreSettled b (board_lines lines) s.moves (entries_in (board_lines new.lines))
settled_so b lines old new same are s =
    record {
      lowest = subst (λ (ls : List LineSeen). AreLowestMoves b (board_lines ls) s.moves) are
          (subst (λ (c : BoardSeen). AreLowestMoves c (board_lines old.lines) s.moves) same s.lowest);
      left = λ line. ap (λ (ls : List BoardLine). entries_in ls line)
          (s.lines ∙ ap (λ (ls : List LineSeen). lines_after_all s.moves (board_lines ls)) are);
    }

pub came : {H : Type 0} {hears : H → Run → H → Type 0} {first last : H} (terms : Terms) (b : BoardSeen)
    (locks : List LockSeen) (jobs : JobsSeen) (lines : List LineSeen) (old new : SystemSeen) → IsBoard b
    → jobs.board ≡ b → Fit locks jobs → AreOver terms jobs → AreKept jobs.board (board_lines lines) → AreGathered jobs lines
    → old.board ≡ b → old.lines ≡ lines → SettlesLines hears old new first last → CameOfShifts terms b (entries_in (board_lines new.lines))
came terms b locks jobs lines old new isb of_board fit over kept gathered same are settles =
    record {
      locks = locks;
      jobs = jobs;
      board = of_board;
      fit = fit;
      over = over;
      begins = begins;
      lines = lines;
      gathered = gathered;
      moves = settles.moves;
      settled = settled;
    }
  where
    settled : AreSettled b (board_lines lines) settles.moves (entries_in (board_lines new.lines))
    settled = settled_so b lines old new same are settles

    apart : AreApart (map (λ (x : BoardLine). x.def) (board_lines lines))
    apart = apart_kept b isb (board_lines lines) (subst (λ (c : BoardSeen). AreKept c (board_lines lines)) of_board kept)

    begins : (i place : ℕ) (j : JobSeen) (t : PostSeen) → slice_get jobs.jobs i ≡ Some j → slice_get j.posts place ≡ Some t
        → BeginsWith (entries_in (board_lines new.lines) t.pass.def.line) t.pass.knows.seen
    begins i place j t at_job at_post = by_line (slice_get lines (j.first + place)) refl (gathered.each i place j t at_job at_post)
      where
        by_line : (o : Option LineSeen) → slice_get lines (j.first + place) ≡ o
            → IsSomeAnd o (λ x. HasAllOf x.def x.entries j.actor t.pass)
            → BeginsWith (entries_in (board_lines new.lines) t.pass.def.line) t.pass.knows.seen
        by_line None at has = absurd has
        by_line (Some x) at has =
            subst (λ (es : List Entry). BeginsWith es t.pass.knows.seen)
            (sym (settled.left t.pass.def.line ∙
            ap (λ (d : LineDef). entries_in (lines_after_all settles.moves (board_lines lines)) d.line) has.of_line))
            (begins_more (entries_in (lines_after_all settles.moves (board_lines lines)) x.def.line) x.entries t.pass.knows.seen
            (goes_on settles.moves lines apart (j.first + place) x at) has.begins)
