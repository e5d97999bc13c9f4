-- Lines by their places and by their numbers.
use Rattle.std.proofs.Common.{◌≡◌, ℕ, zero, suc, Bool, true, false, cond, Some, List, [], ◌∷◌, map, slice_get, refl, sym, ap, ◌∙◌, subst}
use Rattle.irq_base.specs.declared.lines.LineDef.{LineDef}
use Rattle.irq_base.specs.declared.numbers.LineNo.{LineNo}
use Rattle.irq_model.specs.Kinds.{same_line}
use Rattle.irq_model.proofs.Same.{same_self_line, line_from_same}
use Rattle.irq_laws.proofs.Chosen.{the_same}
use Rattle.board_play.specs.Lines.{BoardLine, Move, part, lines_at, find_line}

-- no two of them have one number
abbrev pub AreApart : List LineDef → Type 0
AreApart [] = Unit {0}
AreApart (d ∷ ds) = ((i : ℕ) (e : LineDef) → slice_get ds i ≡ Some e → same_line e.line d.line ≡ false) × AreApart ds

pub def_there : (lines : List BoardLine) (i : ℕ) (x : BoardLine) → slice_get lines i ≡ Some x → slice_get (map (λ (x : BoardLine). x.def) lines) i ≡ Some x.def
def_there [] i x at = cc
def_there (y ∷ ys) zero x at = ap (λ (z : BoardLine). Some z.def) (the_same y x at)
def_there (y ∷ ys) (suc i) x at = def_there ys i x at

pub find_there : (lines : List BoardLine) → AreApart (map (λ (x : BoardLine). x.def) lines) → (i : ℕ) (x : BoardLine)
    → slice_get lines i ≡ Some x → find_line lines x.def.line ≡ Some x
find_there [] apart i x at = cc
find_there (y ∷ ys) apart zero x at =
    let same : y ≡ x = the_same y x at in
    subst (λ (z : BoardLine). find_line (y ∷ ys) z.def.line ≡ Some z) same
    (ap (λ (b : Bool). cond b (Some y) (find_line ys y.def.line)) (same_self_line y.def.line))
find_there (y ∷ ys) apart (suc i) x at =
    ap (λ (b : Bool). cond b (Some y) (find_line ys x.def.line)) (apart.0 i x.def (def_there ys i x at)) ∙ find_there ys apart.1 i x at

-- what was found stands somewhere, and has the number
pub record Found (lines : List BoardLine) (line : LineNo) (x : BoardLine) : Type 0 where
  pub place : ℕ
  pub at : slice_get lines place ≡ Some x
  pub number : line ≡ x.def.line

pub found : (lines : List BoardLine) (line : LineNo) (x : BoardLine) → find_line lines line ≡ Some x → Found lines line x
found [] line x is = cc
found (y ∷ ys) line x is = by_test (same_line line y.def.line) refl (λ h. found ys line x h)
  where
    later : Found ys line x → Found (y ∷ ys) line x
    later f = record { place = suc f.place; at = f.at; number = f.number }

    by_test : (b : Bool) → same_line line y.def.line ≡ b → (find_line ys line ≡ Some x → Found ys line x) → Found (y ∷ ys) line x
    by_test true test deeper =
        let here : y ≡ x = the_same y x (sym (ap (λ (b : Bool). cond b (Some y) (find_line ys line)) test) ∙ is) in
        record {
          place = zero;
          at = ap (λ (z : BoardLine). Some z) here;
          number = line_from_same line y.def.line test
              ∙ ap (λ (z : BoardLine). z.def.line) here;
        }
    by_test false test deeper = later (deeper (sym (ap (λ (b : Bool). cond b (Some y) (find_line ys line)) test) ∙ is))

-- ---- the lines after some moves

pub defs_at : (ds : List LineDef) (g : List Move) → map (λ (x : BoardLine). x.def) (lines_at ds g) ≡ ds
defs_at [] g = refl
defs_at (d ∷ ds) g = ap (λ (xs : List LineDef). d ∷ xs) (defs_at ds g)

pub past_at : (ds : List LineDef) (g : List Move) (i : ℕ) (x : BoardLine) → slice_get (lines_at ds g) i ≡ Some x → x.past ≡ part x.def.line g
past_at [] g i x at = cc
past_at (d ∷ ds) g zero x at =
    let fresh : BoardLine = record { def = d; past = part d.line g } in
    subst (λ (z : BoardLine). z.past ≡ part z.def.line g) (the_same fresh x at) refl
past_at (d ∷ ds) g (suc i) x at = past_at ds g i x at

pub line_there : (ds : List LineDef) (g : List Move) (i : ℕ) (d : LineDef) → slice_get ds i ≡ Some d
    → slice_get (lines_at ds g) i ≡ Some (record { def = d; past = part d.line g })
line_there [] g i d at = cc
line_there (e ∷ es) g zero d at = ap (λ (x : LineDef). Some (record { def = x; past = part x.line g })) (the_same e d at)
line_there (e ∷ es) g (suc i) d at = line_there es g i d at
