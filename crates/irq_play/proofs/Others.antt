-- A number that is no line's has no entry among the moves so far.
use Rattle.std.proofs.Common.{◌≡◌, Bool, true, false, cond, Option, Some, None, List, [], ◌∷◌, map, refl, sym, ap, ◌∙◌, subst}
use Rattle.irq_base.specs.declared.entries.Actor.{Actor}
use Rattle.irq_base.specs.declared.lines.LineDef.{LineDef}
use Rattle.irq_base.specs.declared.numbers.LineNo.{LineNo}
use Rattle.irq_model.specs.Kinds.{same_line}
use Rattle.irq_model.proofs.Same.{line_from_same}
use Rattle.board_def.specs.Rules.{IsBoard}
use Rattle.board_def.specs.Seen.{BoardSeen}
use Rattle.board_play.specs.Lines.{BoardLine, Move, part, defs_of, lines_at, lines_of, find_line}
use Rattle.board_play.specs.Play.{IsChosen, choice}
use Rattle.board_play.proofs.Members.{AreApart, defs_at, find_there}
use Rattle.board_play.proofs.Moves.{choice_is, moves_on}
use Rattle.board_play.proofs.OfBoard.{apart_defs}

-- whether there is a line of that number doesn't depend on the moves
no_def : (ds : List LineDef) (g h : List Move) (line : LineNo) → find_line (lines_at ds g) line ≡ None → find_line (lines_at ds h) line ≡ None
no_def [] g h line is = refl
no_def (d ∷ ds) g h line is = by_test (same_line line d.line) is (no_def ds g h line)
  where
    by_test : (b : Bool) → cond b (Some (record { def = d; past = part d.line g })) (find_line (lines_at ds g) line)
        ≡ None → (find_line (lines_at ds g) line ≡ None → find_line (lines_at ds h) line ≡ None)
        → cond b (Some (record { def = d; past = part d.line h })) (find_line (lines_at ds h) line) ≡ None
    by_test true is deeper = cc
    by_test false is deeper = deeper is

apart_at : (b : BoardSeen) → IsBoard b → (g : List Move) → AreApart (map (λ (x : BoardLine). x.def) (lines_of b g))
apart_at b board g = subst AreApart (sym (defs_at (defs_of b) g)) (apart_defs b board)

some_is_not_none : (x : BoardLine) → ◌≡◌ {A = Option BoardLine} (Some x) None → ⊥
some_is_not_none x is = cc

-- a next move is on a line of the board
is_there : (b : BoardSeen) → IsBoard b → (g : List Move) (before after : List Actor) (m : Move)
    → choice b (lines_of b g) before ≡ Some (m, after) → find_line (lines_of b g) m.0 ≡ None → ⊥
is_there b board g before after m chosen none =
    let who = choice_is b (lines_of b g) before m after chosen in
    let on = moves_on b (lines_of b g) who.actor m who.moves in
    let found : find_line (lines_of b g) on.line.def.line ≡ Some on.line = find_there (lines_of b g) (apart_at b board g) on.place on.line on.at in
    some_is_not_none on.line (sym found ∙ (ap (λ (l : LineNo). find_line (lines_of b g) l) (sym on.number) ∙ none))

pub others_have_none : (b : BoardSeen) → IsBoard b → (picks : List Actor) (g : List Move) (left : List Actor)
    → IsChosen b picks g left → (line : LineNo) → find_line (lines_of b g) line ≡ None → part line g ≡ []
others_have_none b board picks [] left chosen line none = refl
others_have_none b board picks (m ∷ g) left chosen line none =
    let was : find_line (lines_of b g) line ≡ None = no_def (defs_of b) (m ∷ g) g line none in
    by_test (same_line line m.0) refl was (others_have_none b board picks g chosen.0 chosen.1 line was)
  where
    by_test : (t : Bool) → same_line line m.0 ≡ t → find_line (lines_of b g) line ≡ None → part line g ≡ [] → cond t (m.1 ∷ part line g) (part line g) ≡ []
    by_test true same was deeper =
        absurd (is_there b board g chosen.0 left m chosen.2 (ap (λ (l : LineNo). find_line (lines_of b g) l) (sym (line_from_same line m.0 same)) ∙ was))
    by_test false same was deeper = deeper
