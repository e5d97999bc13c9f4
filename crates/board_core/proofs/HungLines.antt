-- Who hangs on the first lines of a system.
use Rattle.std.proofs.Common.{◌≡◌, ℕ, ◌+◌, ◌<◌, ◌≤◌, Bool, true, false, eqb, Some, None, List, length, slice_get, refl, subst, sym, ap, ◌∙◌, eqb-true, arith}
use Rattle.std.proofs.Math.ListN.{length-map}
use Rattle.std.proofs.lemmas.Bool.{eqb-false}
use Rattle.std.proofs.lemmas.Option.{slice_get_within}
use Rattle.irq_base.specs.declared.entries.Actor.{Actor}
use Rattle.irq_model.specs.Waits.{IsHungPast}
use Rattle.irq_laws.proofs.Chosen.{the_same}
use Rattle.irq_line.specs.Queries.{IsLowestHung}
use Rattle.irq_line.specs.Seen.{LineSeen}
use Rattle.board_play.specs.Hanging.{IsFirstHung, NobodyHangs}
use Rattle.board_play.specs.Lines.{BoardLine}
use Rattle.board_core.specs.Seen.{board_line, board_lines}
use Rattle.board_core.proofs.InLists.{map_there}

-- nobody is hung on the first n of these lines
abbrev pub NobodyBefore : List BoardLine → ℕ → Type 0
NobodyBefore lines n = (i : ℕ) (x : BoardLine) (a : Actor) → i < n → slice_get lines i ≡ Some x → IsHungPast x.def x.past a → ⊥

module _ (lines : List LineSeen) (k : ℕ) (x : LineSeen) (at : slice_get lines k ≡ Some x) (before : NobodyBefore (board_lines lines) k) where
  here : slice_get (board_lines lines) k ≡ Some (board_line x)
  here = map_there board_line lines k x at

  -- nor on the next one
  pub nobody_more : IsLowestHung x None → NobodyBefore (board_lines lines) (k + 1)
  nobody_more none i y a less at_y = by_place (eqb i k) refl
    where
      by_place : (b : Bool) → eqb i k ≡ b → IsHungPast y.def y.past a → ⊥
      by_place true same hung =
          let its : board_line x ≡ y = the_same (board_line x) y (sym here ∙ (ap (slice_get (board_lines lines)) (sym (eqb-true i k same)) ∙ at_y)) in
          none a (subst (λ (z : BoardLine). IsHungPast z.def z.past a) (sym its) hung)
      by_place false other hung =
          let ne : i ≡ k → ⊥ = eqb-false i k other in before i y a (omega (arith, less, ne)) at_y hung

  -- somebody is on the next one
  pub first_hung : (a : Actor) → IsLowestHung x (Some a) → IsFirstHung (board_lines lines) x.def.line a
  first_hung a low = record {
    place = k;
    of = board_line x;
    at = here;
    number = refl;
    lowest = low;
    before = before;
  }

pub nobody_hangs : (lines : List LineSeen) (n : ℕ) → length lines ≤ n → NobodyBefore (board_lines lines) n → NobodyHangs (board_lines lines)
nobody_hangs lines n end before i x a at hung =
    let long = length-map lines board_line in
    let within = slice_get_within (board_lines lines) i x at in
    before i x a (omega (arith, long, within, end)) at hung
