-- The lines of a board to which nothing has happened.
use Rattle.std.proofs.Common.{◌≡◌, ℕ, zero, suc, Some, List, [], ◌∷◌, map, reverse, slice_get, refl, sym, ap, ◌∙◌, subst}
use Rattle.std.proofs.lemmas.List.{reverse-reverse}
use Rattle.irq_base.specs.declared.entries.Entry.{Entry}
use Rattle.irq_base.specs.declared.lines.LineDef.{LineDef}
use Rattle.irq_line.specs.Seen.{LineSeen}
use Rattle.irq_laws.proofs.Chosen.{the_same}
use Rattle.board_core.specs.Making.{AreNew}
use Rattle.board_core.specs.Seen.{board_line, board_lines}
use Rattle.board_def.specs.Seen.{BoardSeen}
use Rattle.board_play.specs.Lines.{BoardLine, defs_of, lines_of}
use Rattle.board_play.proofs.Members.{defs_at, past_at}

same_defs : (seen : List LineSeen) → map (λ (x : LineSeen). x.def) seen ≡ map (λ (x : BoardLine). x.def) (board_lines seen)
same_defs [] = refl
same_defs (x ∷ xs) = ap (λ (ds : List LineDef). x.def ∷ ds) (same_defs xs)

pub stands_so : (seen : List LineSeen) (i : ℕ) (x : LineSeen) → slice_get seen i ≡ Some x → slice_get (board_lines seen) i ≡ Some (board_line x)
stands_so [] i x at = cc
stands_so (y ∷ ys) zero x at = ap (λ (z : LineSeen). Some (board_line z)) (the_same y x at)
stands_so (y ∷ ys) (suc i) x at = stands_so ys i x at

module _ (b : BoardSeen) (lines : List LineSeen) (new : AreNew b lines) where
  pub new_defs : map (λ (x : LineSeen). x.def) lines ≡ defs_of b
  new_defs = same_defs lines ∙ (ap (λ (ls : List BoardLine). map (λ (x : BoardLine). x.def) ls) new ∙ defs_at (defs_of b) [])

  pub new_empty : (i : ℕ) (x : LineSeen) → slice_get lines i ≡ Some x → x.entries ≡ []
  new_empty i x at =
      let there : slice_get (lines_of b []) i ≡ Some (board_line x)
      = subst (λ (ls : List BoardLine). slice_get ls i ≡ Some (board_line x)) new (stands_so lines i x at) in
      let none : reverse x.entries ≡ [] = past_at (defs_of b) [] i (board_line x) there in
      sym (reverse-reverse x.entries) ∙ ap (λ (es : List Entry). reverse es) none
