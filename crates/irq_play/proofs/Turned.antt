-- A line's part of the moves, whichever of them stands first.
use Rattle.std.proofs.Common.{◌≡◌, Bool, true, false, cond, List, [], ◌∷◌, ◌++◌, reverse, refl, sym, ap, ◌∙◌}
use Rattle.std.proofs.lemmas.List.{append-nil, reverse-append, reverse-reverse}
use Rattle.irq_base.specs.declared.entries.Entry.{Entry}
use Rattle.irq_base.specs.declared.numbers.LineNo.{LineNo}
use Rattle.irq_model.specs.Kinds.{same_line}
use Rattle.board_play.specs.Lines.{Move, part}

part_append : (line : LineNo) (g k : List Move) → part line (g ++ k) ≡ part line g ++ part line k
part_append line [] k = refl
part_append line (m ∷ g) k = by_test (same_line line m.0) (part_append line g k)
  where
    by_test : (b : Bool) → part line (g ++ k) ≡ part line g ++ part line k
        → cond b (m.1 ∷ part line (g ++ k)) (part line (g ++ k))
        ≡ cond b (m.1 ∷ part line g) (part line g) ++ part line k
    by_test true h = ap (λ (es : List Entry). m.1 ∷ es) h
    by_test false h = h

pub part_turned : (line : LineNo) (g : List Move) → part line (reverse g) ≡ reverse (part line g)
part_turned line [] = refl
part_turned line (m ∷ g) = ap (part line) (reverse-append (m ∷ []) g)
    ∙ (part_append line (reverse g) (m ∷ []) ∙ by_test (same_line line m.0) (part_turned line g))
  where
    by_test : (b : Bool) → part line (reverse g) ≡ reverse (part line g)
        → part line (reverse g) ++ cond b (m.1 ∷ []) [] ≡ reverse (cond b (m.1 ∷ part line g) (part line g))
    by_test true h = ap (λ (es : List Entry). es ++ m.1 ∷ []) h ∙ sym (reverse-append (m.1 ∷ []) (part line g))
    by_test false h = append-nil (part line (reverse g)) ∙ h

-- the oldest first, from the newest first
pub turned_back : (line : LineNo) (g : List Move) → reverse (part line (reverse g)) ≡ part line g
turned_back line g = ap (λ (es : List Entry). reverse es) (part_turned line g) ∙ reverse-reverse (part line g)
