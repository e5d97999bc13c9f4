-- Whose entry is due; and a number that is no line's has no entry in a play.
use Rattle.std.proofs.Common.{◌≡◌, ℕ, zero, suc, Bool, true, false, cond, Some, None, List, [], ◌∷◌, map, slice_get, refl, sym, ap, ◌∙◌}
use Rattle.irq_base.specs.declared.entries.Actor.{Actor}
use Rattle.irq_base.specs.declared.entries.Entry.{Entry}
use Rattle.irq_base.specs.declared.lines.LineDef.{LineDef}
use Rattle.irq_base.specs.declared.numbers.LineNo.{LineNo}
use Rattle.irq_model.specs.Kinds.{same_line}
use Rattle.irq_model.specs.Legal.{IsDue}
use Rattle.irq_model.specs.Next.{next_past}
use Rattle.irq_model.proofs.Same.{same_self_line}
use Rattle.irq_laws.proofs.Chosen.{the_same}
use Rattle.irq_laws.proofs.Lists.{both_ways}
use Rattle.irq_laws.proofs.OwnLaws.{due_is_own_past}
use Rattle.board_def.specs.Seen.{BoardSeen}
use Rattle.board_play.specs.Lines.{BoardLine, Move, part, defs_of, lines_at, lines_of, find_line}
use Rattle.board_play.specs.Play.{End, IsChosen, Plays}
use Rattle.board_play.proofs.Members.{AreApart, def_there, find_there}
use Rattle.board_play.proofs.Moves.{moves_on, choice_is}

-- a line of some number is the one that stands there
pub the_line : (lines : List BoardLine) → AreApart (map (λ (x : BoardLine). x.def) lines) → (i j : ℕ) (x y : BoardLine)
    → slice_get lines i ≡ Some x → slice_get lines j ≡ Some y → x.def.line ≡ y.def.line → x ≡ y
the_line lines apart i j x y at_x at_y same =
    the_same x y (sym (find_there lines apart i x at_x) ∙ (ap (λ (l : LineNo). find_line lines l) same ∙ find_there lines apart j y at_y))

-- and it stands there alone
pub the_place : (lines : List BoardLine) → AreApart (map (λ (x : BoardLine). x.def) lines) → (i j : ℕ) (x y : BoardLine)
    → slice_get lines i ≡ Some x → slice_get lines j ≡ Some y → x.def.line ≡ y.def.line → i ≡ j
the_place [] apart i j x y at_x at_y same = cc
the_place (z ∷ zs) apart zero zero x y at_x at_y same = refl
the_place (z ∷ zs) apart zero (suc j) x y at_x at_y same =
    both_ways (same_line y.def.line z.def.line)
    (ap (λ (l : LineNo). same_line y.def.line l) (ap (λ (w : BoardLine). w.def.line) (the_same z x at_x) ∙ same) ∙ same_self_line y.def.line)
    (apart.0 j y.def (def_there zs j y at_y))
the_place (z ∷ zs) apart (suc i) zero x y at_x at_y same =
    both_ways (same_line x.def.line z.def.line)
    (ap (λ (l : LineNo). same_line x.def.line l) (ap (λ (w : BoardLine). w.def.line) (the_same z y at_y) ∙ sym same) ∙ same_self_line x.def.line)
    (apart.0 i x.def (def_there zs i x at_x))
the_place (z ∷ zs) apart (suc i) (suc j) x y at_x at_y same = ap suc (the_place zs apart.1 i j x y at_x at_y same)

pub due_of : (def : LineDef) (past : List Entry) (a : Actor) (e : Entry) → next_past def past a ≡ Some e → IsDue def e past
due_of def past a e due = ap (λ (b : Actor). next_past def past b) (due_is_own_past def past a e due) ∙ due

-- ---- no line, no entry

no_def : (ds : List LineDef) (g h : List Move) (line : LineNo) → find_line (lines_at ds g) line ≡ None → find_line (lines_at ds h) line ≡ None
no_def [] g h line is = refl
no_def (d ∷ ds) g h line is = by_test (same_line line d.line) is (no_def ds g h line)
  where
    by_test : (b : Bool) → cond b (Some (record { def = d; past = part d.line g })) (find_line (lines_at ds g) line)
        ≡ None → (find_line (lines_at ds g) line ≡ None → find_line (lines_at ds h) line ≡ None)
        → cond b (Some (record { def = d; past = part d.line h })) (find_line (lines_at ds h) line) ≡ None
    by_test true is deeper = cc
    by_test false is deeper = deeper is

not_found : (lines : List BoardLine) (line : LineNo) (i : ℕ) (x : BoardLine) → find_line lines line ≡ None
    → slice_get lines i ≡ Some x → same_line line x.def.line ≡ false
not_found [] line i x is at = cc
not_found (y ∷ ys) line zero x is at = by_test (same_line line y.def.line) refl is
  where
    by_test : (b : Bool) → same_line line y.def.line ≡ b → cond b (Some y) (find_line ys line) ≡ None → same_line line x.def.line ≡ false
    by_test true test is = cc
    by_test false test is = ap (λ (z : BoardLine). same_line line z.def.line) (sym (the_same y x at)) ∙ test
not_found (y ∷ ys) line (suc i) x is at = by_test (same_line line y.def.line) is (λ h. not_found ys line i x h at)
  where
    by_test : (b : Bool) → cond b (Some y) (find_line ys line) ≡ None
        → (find_line ys line ≡ None → same_line line x.def.line ≡ false) → same_line line x.def.line ≡ false
    by_test true is deeper = cc
    by_test false is deeper = deeper is

no_part : (board : BoardSeen) (picks : List Actor) (g : List Move) (left : List Actor) → IsChosen board picks g left
    → (line : LineNo) → find_line (lines_of board g) line ≡ None → part line g ≡ []
no_part board picks [] left chosen line none = refl
no_part board picks (m ∷ g) left chosen line none =
    let was : find_line (lines_of board g) line ≡ None = no_def (defs_of board) (m ∷ g) g line none in
    let who = choice_is board (lines_of board g) chosen.0 m left chosen.2 in
    let moves = moves_on board (lines_of board g) who.actor m who.moves in
    let differs : same_line line m.0 ≡ false = ap (λ (l : LineNo). same_line line l) moves.number
    ∙ not_found (lines_of board g) line moves.place moves.line was moves.at in
    ap (λ (b : Bool). cond b (m.1 ∷ part line g) (part line g)) differs ∙ no_part board picks g chosen.0 chosen.1 line was

pub others_have_none : (board : BoardSeen) (picks : List Actor) (g : List Move) (end : End) → Plays board picks g end
    → (line : LineNo) → find_line (lines_of board g) line ≡ None → part line g ≡ []
others_have_none board picks g end plays line none = no_part board picks g plays.0 plays.1 line none
