-- The room of the histories that reports have.
use Rattle.std.proofs.Common.{◌≡◌, ℕ, zero, suc, ◌⊎◌, inl, inr, Bool, true, false, Some, None, List, [], ◌∷◌, ◌++◌, map}
use Rattle.std.proofs.Common.{reverse, drop, slice_get, refl, sym, ap, ◌∙◌, subst}
use Rattle.std.proofs.lemmas.List.{reverse-reverse}
use Rattle.irq_base.specs.declared.numbers.LineNo.{LineNo}
use Rattle.irq_base.specs.declared.reporting.LineReport.{LineReport}
use Rattle.irq_line.specs.Seen.{LineSeen}
use Rattle.irq_model.specs.Kinds.{same_line}
use Rattle.irq_model.proofs.Same.{line_from_same, same_self_line}
use Rattle.irq_laws.proofs.Chosen.{the_same}
use Rattle.irq_laws.proofs.Lists.{both_ways}
use Rattle.board_core.specs.Seen.{board_line, board_lines}
use Rattle.board_play.specs.Lines.{BoardLine, find_line}
use Rattle.board_play.proofs.Members.{AreApart, def_there, find_there}
use Rattle.board_report.specs.Reporting.{KeepRoom, TakesRoom, is_first}
use Rattle.board_report.proofs.Filling.{at_front, map_turned}

-- an item of a list that has one more at its end
last_or : {A : Type 0} (xs : List A) (x y : A) (i : ℕ) → slice_get (xs ++ x ∷ []) i ≡ Some y → (slice_get xs i ≡ Some y) ⊎ (x ≡ y)
last_or [] x y zero at = inr (the_same x y at)
last_or [] x y (suc i) at = cc
last_or (z ∷ zs) x y zero at = inl at
last_or (z ∷ zs) x y (suc i) at = last_or zs x y i at

seen_there : (lines : List LineSeen) (k : ℕ) (x : LineSeen) → slice_get lines k ≡ Some x → slice_get (board_lines lines) k ≡ Some (board_line x)
seen_there [] k x at = cc
seen_there (y ∷ ys) zero x at = ap (λ (z : LineSeen). Some (board_line z)) (the_same y x at)
seen_there (y ∷ ys) (suc k) x at = seen_there ys k x at

apart_twice : (z : LineSeen) (zs : List LineSeen) → AreApart (map (λ (x : BoardLine). x.def) (board_lines (z ∷ zs)))
    → (j : ℕ) (y : LineSeen) → slice_get zs j ≡ Some y → z.def.line ≡ y.def.line → ⊥
apart_twice z zs apart j y at same =
    both_ways (same_line y.def.line z.def.line) (ap (λ (l : LineNo). same_line y.def.line l) same ∙ same_self_line y.def.line)
    (apart.0 j y.def (def_there (board_lines zs) j (board_line y) (seen_there zs j y at)))

-- lines of one number are one line
one_seen : (lines : List LineSeen) → AreApart (map (λ (x : BoardLine). x.def) (board_lines lines)) → (i j : ℕ) (x y : LineSeen)
    → slice_get lines i ≡ Some x → slice_get lines j ≡ Some y → x.def.line ≡ y.def.line → x ≡ y
one_seen [] apart i j x y at_x at_y same = cc
one_seen (z ∷ zs) apart zero zero x y at_x at_y same = sym (the_same z x at_x) ∙ the_same z y at_y
one_seen (z ∷ zs) apart zero (suc j) x y at_x at_y same
    = absurd (apart_twice z zs apart j y at_y (ap (λ (v : LineSeen). v.def.line) (the_same z x at_x) ∙ same))
one_seen (z ∷ zs) apart (suc i) zero x y at_x at_y same
    = absurd (apart_twice z zs apart i x at_x (ap (λ (v : LineSeen). v.def.line) (the_same z y at_y) ∙ sym same))
one_seen (z ∷ zs) apart (suc i) (suc j) x y at_x at_y same = one_seen zs apart.1 i j x y at_x at_y same

-- the lines that are left, from the last one on, are all but some at the end, and each report has
-- its line's room
pub record IsRoomed (all left : List LineSeen) (reports : List LineReport) : Type 0 where
  pub passed : ℕ
  pub rest : left ≡ drop passed all
  pub kept : KeepRoom all reports

pub none_roomed : (all left : List LineSeen) (reports : List LineReport) → left ≡ all → reports ≡ [] → IsRoomed all left reports
none_roomed all left reports same none = record {
  passed = 0;
  rest = same;
  kept = subst (λ (rs : List LineReport). KeepRoom all rs) (sym none) (λ k i line report at no is. cc);
}

module _ (all : List LineSeen) (apart : AreApart (map (λ (x : BoardLine). x.def) (board_lines all)))
    (new : List LineSeen) (reports now : List LineReport) (report : LineReport) (is : now ≡ reports ++ report ∷ []) where
  -- the new report has its line's room, too
  more_kept : KeepRoom all reports
      → ((k : ℕ) (line : LineSeen) → slice_get all k ≡ Some line → report.line ≡ line.def.line → report.history.spare ≡ line.spare)
      → KeepRoom all now
  more_kept kept its = subst (λ (rs : List LineReport). KeepRoom all rs) (sym is) (λ k i line r at_k at_i same.
      elim (last_or reports report r i at_i) [
        | inl old ↦ kept k i line r at_k old same
        | inr last ↦ subst (λ (s : LineReport). s.history.spare ≡ line.spare) last
            (its k line at_k (ap (λ (s : LineReport). s.line) last ∙ same))
      ])

  room_of_first : (left : List LineSeen) → IsRoomed all left reports → is_first report.line (board_lines left) ≡ true
      → TakesRoom true left new report.history.spare → IsRoomed all new now
  room_of_first [] r first takes = absurd takes.0
  room_of_first (x ∷ xs) r first takes =
      let there = at_front all r.passed x xs r.rest in
      record {
        passed = suc r.passed;
        rest = takes.1 ∙ there.1;
        kept = more_kept r.kept (λ k line at same. (
            let one = one_seen all apart r.passed k x line there.0 at (sym (line_from_same report.line x.def.line first) ∙ same) in
            takes.0 ∙ ap (λ (v : LineSeen). v.spare) one));
      }

  pub room_of_more : (left : List LineSeen) → IsRoomed all left reports
      → (is_first report.line (board_lines left) ≡ false → find_line (board_lines all) report.line ≡ None)
      → TakesRoom (is_first report.line (board_lines left)) left new report.history.spare → IsRoomed all new now
  room_of_more left r not_among takes = by_test (is_first report.line (board_lines left)) refl takes
    where
      by_test : (t : Bool) → is_first report.line (board_lines left) ≡ t → TakesRoom t left new report.history.spare → IsRoomed all new now
      by_test true first takes = room_of_first left r first takes
      by_test false other takes = record {
        passed = r.passed;
        rest = takes ∙ r.rest;
        kept = more_kept r.kept (λ k line at same. (
            let there = find_there (board_lines all) apart k (board_line line) (seen_there all k line at) in
            let none = sym (ap (λ (l : LineNo). find_line (board_lines all) l) same) ∙ not_among other in
            let both = sym there ∙ none in cc));
      }

-- the lines from the last one on
pub turned_seen : {X : Type 0} (f : X → LineSeen) (xs ys : List X) → ys ≡ reverse xs → reverse (map f ys) ≡ map f xs
turned_seen {X = X} f xs ys is =
    ap (λ (zs : List X). reverse (map f zs)) is
    ∙ (ap (λ (ls : List LineSeen). reverse ls) (map_turned f xs) ∙ reverse-reverse (map f xs))
