-- One report after another.
use Rattle.std.proofs.Common.{◌≡◌, ℕ, zero, suc, ◌+◌, ◌<◌, ◌≤◌, Bool, true, false, cond, Option, Some, None, OnOk}
use Rattle.std.proofs.Common.{Result, Ok, Err, List, [], ◌∷◌, ◌++◌, length, map, reverse, get_or, take, drop, slice_get}
use Rattle.std.proofs.Common.{refl, sym, ap, ◌∙◌, subst, arith, add-one}
use Rattle.std.proofs.lemmas.List.{map-append, reverse-append, reverse-reverse, take_more, take_all}
use Rattle.std.proofs.lemmas.Option.{slice_get_within, get_or_from_slice_get}
use Rattle.irq_base.specs.declared.entries.Entry.{Entry}
use Rattle.irq_base.specs.declared.lines.LineDef.{LineDef}
use Rattle.irq_base.specs.declared.numbers.LineNo.{LineNo}
use Rattle.irq_base.specs.declared.reporting.LineReport.{LineReport}
use Rattle.irq_line.specs.Seen.{LineSeen}
use Rattle.irq_model.specs.Kinds.{same_line}
use Rattle.irq_model.proofs.Same.{same_self_line, line_from_same}
use Rattle.irq_laws.proofs.Chosen.{the_same}
use Rattle.irq_laws.proofs.Lists.{both_ways}
use Rattle.domain_rules.specs.Layout.{is_mapped}
use Rattle.domain_rules.specs.declared.layouts.Placement.{Placement}
use Rattle.board_def.specs.Layout.{layout_of}
use Rattle.board_def.specs.LineOf.{line_of_row}
use Rattle.board_def.specs.Rules.{IsBoard}
use Rattle.board_def.specs.Seen.{BoardSeen}
use Rattle.board_def.specs.declared.rows.LineRow.{LineRow}
use Rattle.board_core.specs.Seen.{board_lines}
use Rattle.board_play.specs.Lines.{BoardLine, mapped, find_line}
use Rattle.board_play.proofs.Members.{AreApart, find_there}
use Rattle.board_play.proofs.OfBoard.{apart_defs}
use Rattle.board_report.specs.Headline.{LineHistory, told_by}
use Rattle.board_report.specs.Reporting.{AreOfBoard, TakesFirst, entries_of, history_among, from_last, is_first}
use Rattle.board_report.proofs.OfRows.{is_mapped_at, takes_no_part}

-- ---- lists

dropped : {A : Type 0} (xs : List A) (i : ℕ) (x : A) → slice_get xs i ≡ Some x → drop i xs ≡ x ∷ drop (suc i) xs
dropped [] i x at = cc
dropped (y ∷ ys) zero x at = ap (λ z. z ∷ ys) (the_same y x at)
dropped (y ∷ ys) (suc i) x at = dropped ys i x at

pub at_front : {A : Type 0} (xs : List A) (i : ℕ) (x : A) (rest : List A) → x ∷ rest ≡ drop i xs → (slice_get xs i ≡ Some x) × (rest ≡ drop (suc i) xs)
at_front [] zero x rest is = cc
at_front [] (suc i) x rest is = cc
at_front (y ∷ ys) zero x rest is = (ap (λ zs. slice_get zs 0) (sym is), ap (λ zs. drop 1 zs) is)
at_front (y ∷ ys) (suc i) x rest is = at_front ys i x rest is

map_taken : {A B : Type 0} (f : A → B) (xs : List A) (i : ℕ) (x : A) → slice_get xs i ≡ Some x → map f (take (i + 1) xs) ≡ map f (take i xs) ++ f x ∷ []
map_taken f xs i x at =
    let within : i < length xs = slice_get_within xs i x at in
    let is : get_or xs i x ≡ x = get_or_from_slice_get xs i x x at in
    ap (λ ys. map f ys) (take_more xs i x within ∙ ap (λ y. take i xs ++ y ∷ []) is) ∙ map-append f (take i xs) (x ∷ [])

-- a list has an item at each place below its length
pub is_there : {A : Type 0} (xs : List A) (i : ℕ) → i < length xs → slice_get xs i ≡ None → ⊥
is_there [] i within none = omega (arith, within)
is_there (x ∷ xs) zero within none = cc
is_there (x ∷ xs) (suc i) within none = is_there xs i (omega (arith, within)) none

-- what holds of a result that is Ok
pub on_ok : {T E : Type 0} (P : Type 0) (r : Result T E) (v : T) → r ≡ Ok v → OnOk r P → P
on_ok P (Ok w) v is h = h
on_ok P (Err e) v is h = cc

-- ---- the rows that are left

mapped_nil : (rows : List LineRow) → mapped rows [] ≡ []
mapped_nil [] = refl
mapped_nil (r ∷ rows) = refl

drop_nil : {A : Type 0} (i : ℕ) → ◌≡◌ {A = List A} (drop i []) []
drop_nil zero = refl
drop_nil (suc i) = refl

-- the next of them takes part, or doesn't
next_mapped : (rows : List LineRow) (places : List Placement) (i : ℕ) (row : LineRow) → slice_get rows i ≡ Some row
    → mapped (drop i rows) (drop i places) ≡ cond (is_mapped_at (slice_get places i))
    (row ∷ mapped (drop (suc i) rows) (drop (suc i) places)) (mapped (drop (suc i) rows) (drop (suc i) places))
next_mapped [] places i row at = cc
next_mapped (r ∷ rows) [] i row at =
    ap (λ (ps : List Placement). mapped (drop i (r ∷ rows)) ps) (drop_nil i) ∙ (mapped_nil (drop i (r ∷ rows)) ∙ sym (mapped_nil (drop i rows)))
next_mapped (r ∷ rows) (p ∷ places) zero row at = ap (λ (x : LineRow). cond (is_mapped p) (x ∷ mapped rows places) (mapped rows places)) (the_same r row at)
next_mapped (r ∷ rows) (p ∷ places) (suc i) row at = next_mapped rows places i row at

-- ---- a report more

-- the first i of the board's lines have their reports, and the lines that are left belong to the
-- rows that are left
pub record IsFilled (b : BoardSeen) (all left : List BoardLine) (i : ℕ) (reports : List LineReport) : Type 0 where
  pub told : map told_by reports ≡ map (history_among all) (take i b.lines)
  pub passed : ℕ
  pub rest : left ≡ drop passed all
  pub defs : map (λ (x : BoardLine). x.def) left ≡ map (line_of_row b) (mapped (drop i b.lines) (drop i (layout_of b)))

pub none_filled : (b : BoardSeen) (all left : List BoardLine) (reports : List LineReport) → AreOfBoard b all
    → left ≡ all → reports ≡ [] → IsFilled b all left 0 reports
none_filled b all left reports are same none =
    record {
      told = ap (λ (rs : List LineReport). map told_by rs) none;
      passed = 0;
      rest = same;
      defs = ap (λ (xs : List BoardLine). map (λ (x : BoardLine). x.def) xs) same ∙ are;
    }

-- a list whose first item is x
heads : (d e : LineDef) (ds es : List LineDef) → d ∷ ds ≡ e ∷ es → (d ≡ e) × (ds ≡ es)
heads d e ds es is = (cc, cc)

module _ (b : BoardSeen) (board : IsBoard b) (all : List BoardLine) (are : AreOfBoard b all) (i : ℕ) (row : LineRow) (at : slice_get b.lines i ≡ Some row) where
  pub apart : AreApart (map (λ (x : BoardLine). x.def) all)
  apart = subst AreApart (sym are) (apart_defs b board)

  after : List LineDef
  after = map (line_of_row b) (mapped (drop (suc i) b.lines) (drop (suc i) (layout_of b)))

  defs_after : (new : List BoardLine) → map (λ (x : BoardLine). x.def) new ≡ after
      → map (λ (x : BoardLine). x.def) new ≡ map (line_of_row b)
      (mapped (drop (i + 1) b.lines) (drop (i + 1) (layout_of b)))
  unfolding after
  defs_after new is = is ∙ ap (λ (n : ℕ). map (line_of_row b) (mapped (drop n b.lines) (drop n (layout_of b)))) (sym (add-one i))

  -- the definitions that are left, when the row's line takes part, and when it doesn't
  next_defs : (t : Bool) (defs : List LineDef) → is_mapped_at (slice_get (layout_of b) i) ≡ t
      → defs ≡ map (line_of_row b) (mapped (drop i b.lines) (drop i (layout_of b)))
      → defs ≡ cond t (line_of_row b row ∷ after) after
  unfolding after
  next_defs t defs test is =
      is ∙ (ap (λ (rows : List LineRow). map (line_of_row b) rows)
      (next_mapped b.lines (layout_of b) i row at ∙ ap
      (λ (s : Bool). cond s (row ∷ mapped (drop (suc i) b.lines) (drop (suc i) (layout_of b)))
      (mapped (drop (suc i) b.lines) (drop (suc i) (layout_of b)))) test)
      ∙ by_test t)
    where
      by_test : (t : Bool)
          → map (line_of_row b) (cond t (row ∷ mapped (drop (suc i) b.lines) (drop (suc i) (layout_of b)))
          (mapped (drop (suc i) b.lines) (drop (suc i) (layout_of b))))
          ≡ cond t (line_of_row b row ∷ map (line_of_row b)
          (mapped (drop (suc i) b.lines) (drop (suc i) (layout_of b))))
          (map (line_of_row b) (mapped (drop (suc i) b.lines) (drop (suc i) (layout_of b))))
      by_test true = refl
      by_test false = refl

  more_told : (reports now : List LineReport) (report : LineReport)
      → map told_by reports ≡ map (history_among all) (take i b.lines) → now ≡ reports ++ report ∷ []
      → told_by report ≡ history_among all row
      → map told_by now ≡ map (history_among all) (take (i + 1) b.lines)
  more_told reports now report told is its =
      ap (λ (rs : List LineReport). map told_by rs) is
      ∙ (map-append told_by reports (report ∷ [])
      ∙ (ap (λ (hs : List LineHistory). hs ++ told_by report ∷ []) told
      ∙ (ap (λ (h : LineHistory). map (history_among all) (take i b.lines) ++ h ∷ []) its ∙ sym (map_taken (history_among all) b.lines i row at))))

  its_history : (report : LineReport) (o : Option BoardLine) → find_line all row.line ≡ o → report.line ≡ row.line
      → report.history.entries ≡ entries_of o → told_by report ≡ history_among all row
  its_history report o found line entries =
      pair (report.line) (row.line) (report.history.entries) (entries_of (find_line all row.line)) line (entries ∙ ap entries_of (sym found))
    where
      pair : (l m : LineNo) (es fs : List Entry) → l ≡ m → es ≡ fs → ◌≡◌ {A = LineHistory} (l, es) (m, fs)
      pair l m es fs p q = cc

  -- if the first that is left is another, the row's line takes no part
  pub not_among : (left : List BoardLine) (reports : List LineReport) → IsFilled b all left i reports
      → is_first row.line left ≡ false → find_line all row.line ≡ None
  not_among left reports f other = by_test (is_mapped_at (slice_get (layout_of b) i)) refl
    where
      first : (xs : List BoardLine) → is_mapped_at (slice_get (layout_of b) i) ≡ true
          → map (λ (x : BoardLine). x.def) xs ≡ map (line_of_row b) (mapped (drop i b.lines) (drop i (layout_of b)))
          → is_first row.line xs ≡ true
      first [] test defs = let none = next_defs true [] test defs in cc
      first (x ∷ xs) test defs =
          let both = heads x.def (line_of_row b row) (map (λ (x : BoardLine). x.def) xs) after
          (next_defs true (map (λ (x : BoardLine). x.def) (x ∷ xs)) test defs) in
          ap (λ (d : LineDef). same_line row.line d.line) both.0 ∙ same_self_line row.line

      by_test : (t : Bool) → is_mapped_at (slice_get (layout_of b) i) ≡ t → find_line all row.line ≡ None
      by_test true test = both_ways (is_first row.line left) (first left test f.defs) other
      by_test false test = takes_no_part b board all are i row at test

  module _ (new : List BoardLine) (reports now : List LineReport) (report : LineReport)
      (is : now ≡ reports ++ report ∷ []) (line : report.line ≡ row.line) where
    -- the row's line takes part: it is the first that is left
    fill_mapped : (left : List BoardLine) → is_mapped_at (slice_get (layout_of b) i) ≡ true
        → IsFilled b all left i reports → TakesFirst (is_first row.line left) left new report.history.entries
        → IsFilled b all new (i + 1) now
    fill_mapped [] test f takes = let defs = next_defs true [] test f.defs in cc
    fill_mapped (x ∷ xs) test f takes =
        let both = heads x.def (line_of_row b row) (map (λ (x : BoardLine). x.def) xs) after
        (next_defs true (map (λ (x : BoardLine). x.def) (x ∷ xs)) test f.defs) in
        let number : x.def.line ≡ row.line = ap (λ (d : LineDef). d.line) both.0 in
        let first : same_line row.line x.def.line ≡ true = ap (λ (l : LineNo). same_line row.line l) number ∙ same_self_line row.line in
        let taken = subst (λ (t : Bool). TakesFirst t (x ∷ xs) new report.history.entries) first takes in
        let there = at_front all f.passed x xs f.rest in
        let found : find_line all row.line ≡ Some x = ap (λ (l : LineNo). find_line all l) (sym number) ∙ find_there all apart f.passed x there.0 in
        record {
          told = more_told reports now report f.told is (its_history report (Some x) found line taken.0);
          passed = suc f.passed;
          rest = taken.1 ∙ there.1;
          defs = ap (λ (ys : List BoardLine). map (λ (x : BoardLine). x.def) ys) taken.1 ∙ defs_after xs both.1;
        }

    -- it takes no part: the first that is left is another
    is_another : (left : List BoardLine) (f : IsFilled b all left i reports) → find_line all row.line ≡ None → is_first row.line left ≡ false
    is_another [] f none = refl
    is_another (x ∷ xs) f none = by_test (same_line row.line x.def.line) refl
      where
        by_test : (t : Bool) → same_line row.line x.def.line ≡ t → t ≡ false
        by_test true same =
            let there = at_front all f.passed x xs f.rest in
            let found : find_line all row.line ≡ Some x
            = ap (λ (l : LineNo). find_line all l) (line_from_same row.line x.def.line same)
            ∙ find_there all apart f.passed x there.0 in
            let both = sym none ∙ found in cc
        by_test false same = refl

    fill_refused : (left : List BoardLine) → is_mapped_at (slice_get (layout_of b) i) ≡ false
        → IsFilled b all left i reports → TakesFirst (is_first row.line left) left new report.history.entries
        → IsFilled b all new (i + 1) now
    fill_refused left test f takes =
        let none = takes_no_part b board all are i row at test in
        let taken = subst (λ (t : Bool). TakesFirst t left new report.history.entries) (is_another left f none) takes in
        record {
          told = more_told reports now report f.told is (its_history report None none line taken.0);
          passed = f.passed;
          rest = taken.1 ∙ f.rest;
          defs = ap (λ (ys : List BoardLine). map (λ (x : BoardLine). x.def) ys) taken.1
              ∙ defs_after left (next_defs false (map (λ (x : BoardLine). x.def) left) test f.defs);
        }

    pub fill_more : (left : List BoardLine) → IsFilled b all left i reports
        → TakesFirst (is_first row.line left) left new report.history.entries → IsFilled b all new (i + 1) now
    fill_more left f takes = by_test (is_mapped_at (slice_get (layout_of b) i)) refl
      where
        by_test : (t : Bool) → is_mapped_at (slice_get (layout_of b) i) ≡ t → IsFilled b all new (i + 1) now
        by_test true test = fill_mapped left test f takes
        by_test false test = fill_refused left test f takes

pub all_filled : (b : BoardSeen) (all left : List BoardLine) (i : ℕ) (reports : List LineReport) → length b.lines ≤ i
    → IsFilled b all left i reports → map told_by reports ≡ map (history_among all) b.lines
all_filled b all left i reports end f = f.told ∙ ap (λ (rows : List LineRow). map (history_among all) rows) (take_all i b.lines end)

-- ---- the lines from the last one on

pub map_turned : {A B : Type 0} (f : A → B) (xs : List A) → map f (reverse xs) ≡ reverse (map f xs)
map_turned f [] = refl
map_turned f (x ∷ xs) =
    ap (λ ys. map f ys) (reverse-append (x ∷ []) xs)
    ∙ (map-append f (reverse xs) (x ∷ []) ∙ (ap (λ ys. ys ++ f x ∷ []) (map_turned f xs) ∙ sym (reverse-append (f x ∷ []) (map f xs))))

module _ {X : Type 0} (f : X → LineSeen) where
  pub turned_lines : (xs ys : List X) → ys ≡ reverse xs → from_last (map f ys) ≡ board_lines (map f xs)
  turned_lines xs ys is =
      ap (λ (zs : List X). from_last (map f zs)) is
      ∙ ap (λ (ls : List LineSeen). board_lines ls) (ap (λ (ls : List LineSeen). reverse ls) (map_turned f xs) ∙ reverse-reverse (map f xs))
