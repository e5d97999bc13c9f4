-- The judges of a board's lines, and the entries that they have judged.
use Rattle.std.proofs.Common.{◌≡◌, ◌⊎◌, inl, inr, ℕ, zero, suc, ◌+◌, ◌<◌, ◌≤◌, Bool, true, false, ◌&&◌, eqb, IfSome}
use Rattle.std.proofs.Common.{Option, Some, None, Result, Ok, Err, List, [], ◌∷◌, ◌++◌, get_or, length, refl}
use Rattle.std.proofs.Common.{sym, ap, subst, ◌∙◌, arith}
use Rattle.std.specs.List.{concat, slice_get}
use Rattle.std.specs.Prelude.{IfOk, slice_set}
use Rattle.std.proofs.lemmas.Bool.{cases_eq, false≢true}
use Rattle.std.proofs.lemmas.Bool.Decides.{nat_tests}
use Rattle.std.proofs.lemmas.List.{append-nil}
use Rattle.std.proofs.lemmas.Option.{same_Some, slice_get_within}
use Rattle.board_def.specs.Layout.{layout_of}
use Rattle.board_def.specs.Rules.{IsBoard, has_line}
use Rattle.board_def.specs.Seen.{BoardSeen}
use Rattle.board_def.specs.declared.rows.LineRow.{LineRow}
use Rattle.domain_rules.specs.declared.layouts.Placement.{Placement}
use Rattle.domain_rules.specs.declared.layouts.Placement.TheVariants as placements
use Rattle.irq_base.specs.declared.entries.Actor.{Actor}
use Rattle.irq_base.specs.declared.entries.Entry.{Entry}
use Rattle.irq_base.specs.declared.lines.LineDef.{LineDef}
use Rattle.irq_base.specs.declared.memory.NoMemory.{NoMemory}
use Rattle.irq_base.specs.declared.numbers.LineNo.{LineNo}
use Rattle.irq_line.specs.Seen.{LineSeen}
use Rattle.log_read.specs.Adding.{IsPlaceOf}
use Rattle.log_read.specs.LogOf.{LineEntry, begins_with_hash, entries_on, is_passed_over, is_whole, rows_of}
use Rattle.log_read.proofs.RowCutting.{front_joined, whole_row}
use Rattle.log_read.proofs.Telling.{more_on, on_other, on_own, other_line, present, short_on, unended_row}
use Rattle.log_check.specs.Heads.{IsHead, IsNoEntry, IsNoEntryOn, IsWrong}
use Rattle.log_check.specs.JudgeSeen.{JudgeSeen}
use Rattle.log_check.specs.Judging.{HasRoom, HaveJudged, HaveRoom, JudgesFirst, JudgesRow, PassesOver, Stands, Takes, TakesRow, most, part_at, part_of}

-- ---- lists

pub get_set_same : {X : Type 0} (xs : List X) (i : ℕ) (x y : X) → slice_get xs i ≡ Some x → slice_get (slice_set xs i y) i ≡ Some y
get_set_same [] i x y at = cc
get_set_same (z ∷ xs) zero x y at = refl
get_set_same (z ∷ xs) (suc i) x y at = get_set_same xs i x y at

pub get_set_other : {X : Type 0} (xs : List X) (i j : ℕ) (y : X) → (j ≡ i → ⊥) → slice_get (slice_set xs i y) j ≡ slice_get xs j
get_set_other [] i j y differ = refl
get_set_other (z ∷ xs) zero zero y differ = absurd (differ refl)
get_set_other (z ∷ xs) zero (suc j) y differ = refl
get_set_other (z ∷ xs) (suc i) zero y differ = refl
get_set_other (z ∷ xs) (suc i) (suc j) y differ = get_set_other xs i j y (λ same. differ (ap suc same))

pub set_length : {X : Type 0} (xs : List X) (i : ℕ) (y : X) → length (slice_set xs i y) ≡ length xs
set_length [] i y = refl
set_length (z ∷ xs) zero y = refl
set_length (z ∷ xs) (suc i) y = ap suc (set_length xs i y)

pub get_there : {X : Type 0} (xs : List X) (i : ℕ) → i < length xs → (x : X) × (slice_get xs i ≡ Some x)
get_there [] i within = absurd (omega (arith, within))
get_there (x ∷ xs) zero within = (x, refl)
get_there (x ∷ xs) (suc i) within = get_there xs i (omega (arith, within))

pub there : {X : Type 0} (xs : List X) (i : ℕ) (d : X) → i < length xs → slice_get xs i ≡ Some (get_or xs i d)
there [] i d within = absurd (omega (arith, within))
there (x ∷ xs) zero d within = refl
there (x ∷ xs) (suc i) d within = there xs i d (omega (arith, within))

equals : (n : ℕ) → eqb n n ≡ true
equals n = grind (arith, nat_tests)

-- ---- one entry more is judged, by the judge of its line

module _ (b : BoardSeen) (board : IsBoard b) (said : List LineEntry) (number : LineNo) (e : Entry) (place : ℕ)
    (row : LineRow) (at : slice_get b.lines place ≡ Some row) (of : row.line ≡ number) where
  abbrev s : LineEntry
  s = (number, e)

  here : entries_on (said ++ s ∷ []) row.line ≡ entries_on said row.line ++ e ∷ []
  here = more_on said s row.line ∙ ap (λ (es : List Entry). entries_on said row.line ++ es)
      (on_own s row.line (ap (λ (l : LineNo). eqb number.0 l.0) of ∙ equals number.0))

  elsewhere : (i : ℕ) (x : LineRow) → slice_get b.lines i ≡ Some x → (i ≡ place → ⊥) → entries_on (said ++ s ∷ []) x.line ≡ entries_on said x.line
  elsewhere i x atl differ =
      let apart : eqb number.0 x.line.0 ≡ false = ap (λ (l : LineNo). eqb l.0 x.line.0) (sym of) ∙ other_line b i place x row board atl at differ in
      more_on said s x.line ∙ (ap (λ (es : List Entry). entries_on said x.line ++ es) (on_other s x.line apart) ∙ append-nil (entries_on said x.line))

  module _ (old : List JudgeSeen) (judge after : JudgeSeen) (have : HaveJudged b said old) (atj : slice_get old place ≡ Some judge)
      (stands : Stands (part_at b row place) after.line after.first (entries_on said row.line ++ e ∷ [])) where
    abbrev Judges : ℕ → LineRow → JudgeSeen → Type 0
    Judges i x j = Stands (part_at b x i) j.line j.first (entries_on (said ++ s ∷ []) x.line)

    at_it : (x : LineRow) (j : JudgeSeen) → slice_get b.lines place ≡ Some x → slice_get (slice_set old place after) place ≡ Some j → Judges place x j
    at_it x j atl atn =
        let same_row : row ≡ x = same_Some row x (sym at ∙ atl) in
        let same_judge : after ≡ j = same_Some after j (sym (get_set_same old place judge after atj) ∙ atn) in
        let own : Judges place row after = subst (λ (es : List Entry). Stands (part_at b row place) after.line after.first es) (sym here) stands in
        subst (λ (r : LineRow). Judges place r j) same_row (subst (λ (y : JudgeSeen). Judges place row y) same_judge own)

    by : (i : ℕ) (x : LineRow) (j : JudgeSeen) → slice_get b.lines i ≡ Some x
        → slice_get (slice_set old place after) i ≡ Some j → (i ≡ place) ⊎ (i ≡ place → ⊥) → Judges i x j
    by i x j atl atn (inl same) =
        subst (λ (k : ℕ). Judges k x j) (sym same) (at_it x j (subst (λ (k : ℕ). slice_get b.lines k ≡ Some x) same atl)
        (subst (λ (k : ℕ). slice_get (slice_set old place after) k ≡ Some j) same atn))
    by i x j atl atn (inr differ) =
        subst (λ (es : List Entry). Stands (part_at b x i) j.line j.first es) (sym (elsewhere i x atl differ))
        (have.each i x j atl (sym (get_set_other old place i after differ) ∙ atn))

    judged_more : HaveJudged b (said ++ s ∷ []) (slice_set old place after)
    judged_more = record { many = set_length old place after ∙ have.many; each = λ i x j atl atn. by i x j atl atn (cases_eq i place) }

-- ---- rows that are passed over, and others

unhashed : (row rest : List ℕ) → begins_with_hash (row ++ rest) ≡ false → is_passed_over row ≡ false
unhashed [] rest h = refl
unhashed (c ∷ cs) rest h = ap (λ t. t && is_whole (c ∷ cs)) h

both_hold : (t w : Bool) → t ≡ true → w ≡ true → (t && w) ≡ true
both_hold true w i j = j
both_hold false w i j = i

hashed : (row rest : List ℕ) → begins_with_hash ((row ++ 10 ∷ []) ++ rest) ≡ true → is_passed_over (row ++ 10 ∷ []) ≡ true
hashed [] rest h = h
hashed (c ∷ cs) rest h = both_hold (eqb c 35) (is_whole ((c ∷ cs) ++ 10 ∷ [])) h (whole_row (c ∷ cs))

module _ (text : List ℕ) where
  unpassed : (row : List ℕ) (rows : List (List ℕ)) → rows_of text ≡ row ∷ rows → begins_with_hash text ≡ false → is_passed_over row ≡ false
  unpassed row rows is other = unhashed row (concat rows) (ap begins_with_hash (sym (front_joined text row rows is)) ∙ other)

  pub passed_over : (row after : List ℕ) → rows_of text ≡ (row ++ 10 ∷ []) ∷ rows_of after → length after + 1 ≤ length text
      → begins_with_hash text ≡ true → PassesOver text (Some after)
  passed_over row after is shorter hash = (
    row ++ 10 ∷ [],
    record { rows = is; shorter = shorter },
    hashed row (concat (rows_of after)) (ap begins_with_hash (sym (front_joined text (row ++ 10 ∷ []) (rows_of after) is)) ∙ hash),
  )

  same_first : (row : List ℕ) (rows : List (List ℕ)) → text ∷ [] ≡ row ∷ rows → text ≡ row
  same_first row rows same = cc

  pub unended : rows_of text ≡ text ∷ [] → is_whole text ≡ false → PassesOver text None
  unended alone bare b row rows is row_is =
      unended_row b row (ap is_whole (sym (same_first row rows (sym alone ∙ is))) ∙ bare) row_is

  pub passes : (b : BoardSeen) (judges : List JudgeSeen) (after : Option (List ℕ)) → PassesOver text after → JudgesFirst b text after judges judges
  passes b judges None wrong = wrong b
  passes b judges (Some after) (row, at, passed) = (row, at, λ said have. inl (passed, have))

  -- no entry that the board's log may have has its first row
  pub wrong_row : (b : BoardSeen) → begins_with_hash text ≡ false → IsNoEntryOn b text → IsWrong b text
  wrong_row b other none row rows is (inl passed) = false≢true (sym (unpassed row rows is other) ∙ passed)
  wrong_row b other none row rows is (inr (said, on)) = none row rows is (said.0, said.1, on.formed, on.allowed)

  pub no_head : (b : BoardSeen) → begins_with_hash text ≡ false → IsNoEntry text → IsWrong b text
  no_head b other none = wrong_row b other (λ row rows is formed. none row rows is (formed.0, formed.1, formed.2))

  -- its line isn't the board's
  pub unknown_line : (b : BoardSeen) (number : LineNo) (actor : Actor) → begins_with_hash text ≡ false → IsHead text number actor
      → has_line b.lines number ≡ false → IsWrong b text
  unknown_line b number actor other head unknown row rows is (inl passed) = false≢true (sym (unpassed row rows is other) ∙ passed)
  unknown_line b number actor other head unknown row rows is (inr (said, on)) =
      false≢true (sym unknown ∙ (ap (has_line b.lines) (sym (head row rows said.0 said.1 is on.formed).0) ∙ on.declared))

-- ---- the first row of a text is judged

-- the line's number is its definition's
part_line : (b : BoardSeen) (row : LineRow) (placement : Option Placement) (number : LineNo) → row.line ≡ number
    → IfSome (part_of b row placement) (λ (def : LineDef). def.line ≡ number)
part_line b row None number same = tt
part_line b row (Some (placements.Mapped virq path)) number same = same
part_line b row (Some (placements.Refused why)) number same = tt

module _ (b : BoardSeen) (board : IsBoard b) (text : List ℕ) (other : begins_with_hash text ≡ false) (number : LineNo) (place : ℕ)
    (at : IsPlaceOf b.lines number place) (old : List JudgeSeen) (judge then : JudgeSeen) where
  row_judged : (row : List ℕ) → is_passed_over row ≡ false → slice_get old place ≡ Some judge → TakesRow b row number judge then
      → JudgesRow b row old (slice_set old place then)
  row_judged row over atj takes said have =
      let stands = have.each place at.0 judge at.1 atj in
      let took = takes (part_at b at.0 place) (entries_on said at.0.line) (part_line b at.0 (slice_get (layout_of b) place) number at.2) stands in
      inr (
        (number, took.0),
        record { formed = took.1; allowed = took.2; declared = present b.lines number place at },
        over,
        judged_more b board said number took.0 place at.0 at.1 at.2 old judge then have atj took.3,
      )

  first_judged : slice_get old place ≡ Some judge → (after : Option (List ℕ)) → Takes b text number after judge then
      → JudgesFirst b text after old (slice_set old place then)
  first_judged atj None none = wrong_row text b other none
  first_judged atj (Some after) (row, begins, takes) = (row, begins, row_judged row (unpassed text row (rows_of after) begins.rows other) atj takes)

  pub judged_if : {X : Type 0} (f : X → Option (List ℕ)) → length old ≡ length b.lines → judge ≡ get_or old place judge → (r : Result X NoMemory)
      → IfOk r (λ x. Takes b text number (f x) judge then) → IfOk r (λ x. JudgesFirst b text (f x) old (slice_set old place then))
  judged_if f many value (Ok x) takes =
      let within = slice_get_within b.lines place at.0 at.1 in
      let atj = there old place judge (omega (arith, many, within)) ∙ ap (λ (j : JudgeSeen). Some j) (sym value) in
      first_judged atj (f x) takes
  judged_if f many value (Err e) takes = takes

-- ---- histories that aren't too long leave room for a step

has_room : (part : Option LineDef) (line : LineSeen) (first : Option ℕ) (es : List Entry) → Stands part (Some line) first es
    → length es < most → HasRoom line
has_room (Some def) line None es (legal, is, has) few =
    let log : line.def.log ≡ most = ap (λ (d : LineDef). d.log) is in
    let same : length line.entries ≡ length es = ap length has in
    record { below = omega (arith, log, same, few); few = omega (arith, same, few) }
has_room (Some def) line (Some n) es stands few = absurd stands
has_room None line None es stands few = absurd stands
has_room None line (Some n) es stands few = absurd stands

if_room : (part : Option LineDef) (line : Option LineSeen) (first : Option ℕ) (es : List Entry) → Stands part line first es
    → length es < most → IfSome line HasRoom
if_room part (Some line) first es stands few = has_room part line first es stands few
if_room part None first es stands few = tt

pub have_room : (b : BoardSeen) (said : List LineEntry) (judges : List JudgeSeen) → HaveJudged b said judges → length said < most → HaveRoom judges
have_room b said judges have few i judge atj =
    let within = slice_get_within judges i judge atj in
    let many = have.many in
    let row = get_there b.lines i (omega (arith, within, many)) in
    let short = short_on said row.0.line in
    if_room (part_at b row.0 i) judge.line judge.first (entries_on said row.0.line) (have.each i row.0 judge row.1 atj) (omega (arith, short, few))
