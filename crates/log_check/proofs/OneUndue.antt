-- What the rows of a log say of one line, and which of its entries is the first that wasn't due.
use Rattle.std.proofs.Common.{◌≡◌, ◌⊎◌, inl, inr, ℕ, ◌+◌, ◌-◌, ◌<◌, ◌≤◌, Bool, true, false, not, cond, eqb}
use Rattle.std.proofs.Common.{IfSome, Option, Some, None, List, [], ◌∷◌, ◌++◌, length, take, drop, reverse, refl}
use Rattle.std.proofs.Common.{sym, ap, subst, ◌∙◌, arith, length-append, eqb-true}
use Rattle.std.specs.List.{AllZip, slice_get}
use Rattle.std.specs.Option.{option_eq}
use Rattle.std.proofs.lemmas.Bool.{cases_eq, false≢true}
use Rattle.std.proofs.lemmas.Option.{same_Some, slice_get_within}
use Rattle.std.proofs.lemmas.Bool.Decides.{nat_tests}
use Rattle.std.proofs.lemmas.List.{append-nil, length-map, append_assoc}
use Rattle.std.proofs.lemmas.List.Elements.{filter-append}
use Rattle.board_def.specs.Layout.{layout_of}
use Rattle.board_def.specs.LineOf.{line_defs_of, line_of_row}
use Rattle.board_def.specs.Rules.{IsBoard, has_line}
use Rattle.board_def.specs.Seen.{BoardSeen}
use Rattle.board_def.specs.declared.rows.LineRow.{LineRow}
use Rattle.domain_rules.specs.declared.layouts.Placement.{Placement}
use Rattle.domain_rules.specs.declared.layouts.Placement.TheVariants as placements
use Rattle.irq_base.proofs.SameEntries.{found_same}
use Rattle.irq_base.specs.Who.{actor_of}
use Rattle.irq_base.specs.contracts.entries.EntryPartialEq.TheImpl as entry_eq
use Rattle.irq_base.specs.declared.entries.Actor.{Actor}
use Rattle.irq_base.specs.declared.entries.Entry.{Entry}
use Rattle.irq_base.specs.declared.lines.LineDef.{LineDef}
use Rattle.irq_base.specs.declared.numbers.LineNo.{LineNo}
use Rattle.irq_laws.specs.LogLimit.{with_log}
use Rattle.irq_line.specs.Answers.{Adds}
use Rattle.irq_line.specs.Seen.{LineSeen}
use Rattle.irq_model.specs.Legal.{IsDue}
use Rattle.irq_model.specs.Next.{next}
use Rattle.line_obstacles.specs.Obstacles.{in_way}
use Rattle.log_text.specs.Formed.{IsRowOf}
use Rattle.log_text.proofs.RowLaws.{rows_tell}
use Rattle.log_read.specs.Adding.{IsPlaceOf}
use Rattle.log_read.specs.LogOf.{IsRowOn, LineEntry, entries_on, is_passed_over, is_whole, rows_of, saying}
use Rattle.log_read.proofs.Telling.{drop_next, get_drop, more_on, on_other, on_own, other_line, present, take_next, unended_row}
use Rattle.log_check.specs.Judged.{AddsDue}
use Rattle.log_check.specs.Judging.{HasRoom, IsMade, Stands, most, part_at}
use Rattle.log_check.specs.Why.{Explains, Finds, GrowsByOne, IsDueThen, IsLegalOf, IsNew, IsUndue, Tries, TriesIfOwn, TriesOn}
use Rattle.log_check.specs.declared.why.DueThen.{DueThen}
use Rattle.log_check.specs.declared.why.DueThen.TheVariants as dues
use Rattle.log_check.specs.declared.why.Undue.{Undue}
use Rattle.log_check.proofs.NewJudges.{new_stands}
use Rattle.log_check.proofs.OneLine.{legal_more}

-- ---- an entry of the line

-- a step added the entry, or something else was due
module _ (old new : LineSeen) (actor : Actor) (e : Entry) (own : actor ≡ actor_of e) (due : Option Entry) (adds : AddsDue old actor due new)
    (t : Bool) (test : t ≡ option_eq (entry_eq.eq-value).it due (Some e)) where
  pub was_due : t ≡ true → Tries old e None new
  was_due same =
      let added : Adds old actor e new = subst (λ (x : Option Entry). AddsDue old actor x new) ((found_same due e t test).0 same) adds in
      let here : Adds old (actor_of e) e new = subst (λ (a : Actor). Adds old a e new) own added in
      (here.due, here.def, here.entries)

  pub wasnt_due : (other : Entry) → t ≡ false → due ≡ Some other → Tries old e (Some (dues.Entry other)) new
  wasnt_due other differ is =
      let added : Adds old actor other new = subst (λ (x : Option Entry). AddsDue old actor x new) is adds in (
        subst (λ (a : Actor). next old.def old.entries a ≡ Some other) own added.due,
        λ same. false≢true (sym differ ∙ (found_same due e t test).1 (is ∙ ap Some same)),
      )

module _ (def : LineDef) (old : LineSeen) (es : List Entry) (e : Entry) (stands : Stands (Some def) (Some old) None es) where
  -- what is due of the line is due by the definition that the board gives it
  here : (A : LineDef → List Entry → Type 0) → (A (with_log def most) es → A def es) → A old.def old.entries → A def es
  here A free h = free (subst (λ (d : LineDef). A d es) stands.1 (subst (λ (hs : List Entry). A old.def hs) stands.2 h))

  due_more : (new : LineSeen) → Tries old e None new → Stands (Some def) (Some new) None (es ++ e ∷ [])
  due_more new (due, kept, more) =
      let owed : IsDue def e (reverse es) = here (λ (d : LineDef) (hs : List Entry). next d hs (actor_of e) ≡ Some e) (λ h. h) due in
      (legal_more def es e stands.0 owed, kept ∙ stands.1, more ∙ ap (λ (hs : List Entry). hs ++ e ∷ []) stands.2)

  due_then : (due : DueThen) → IsDueThen (Some old.def) old.entries e due → IsDueThen (Some def) es e due
  due_then (dues.Entry d) h = here (λ (x : LineDef) (hs : List Entry). (next x hs (actor_of e) ≡ Some d) × (d ≡ e → ⊥)) (λ y. y) h
  due_then (dues.Nothing o) h =
      here (λ (x : LineDef) (hs : List Entry). (next x hs (actor_of e) ≡ None) × (o ≡ in_way x (reverse hs) (actor_of e))) (λ y. y) h

tried_more : (part : Option LineDef) (old new : Option LineSeen) (es : List Entry) (e : Entry) → Stands part old None es
    → TriesOn old e None new → Stands part new None (es ++ e ∷ [])
tried_more (Some def) (Some old) (Some new) es e stands tried = due_more def old es e stands new tried
tried_more (Some def) (Some old) None es e stands tried = absurd tried
tried_more (Some def) None new es e stands tried = absurd stands
tried_more None (Some old) new es e stands tried = absurd stands
tried_more None None new es e stands tried = cc

tried_undue : (part : Option LineDef) (old new : Option LineSeen) (es : List Entry) (e : Entry) (due : DueThen) → Stands part old None es
    → TriesOn old e (Some due) new → IsDueThen part es e due
tried_undue (Some def) (Some old) (Some new) es e due stands tried = due_then def old es e stands due tried
tried_undue (Some def) (Some old) None es e due stands tried = absurd tried
tried_undue (Some def) None new es e due stands tried = absurd stands
tried_undue None (Some old) new es e due stands tried = absurd stands
tried_undue None None new es e due stands tried = cc

stands_legal : (part : Option LineDef) (line : Option LineSeen) (es : List Entry) → Stands part line None es → IsLegalOf part es
stands_legal (Some def) (Some line) es stands = stands.0
stands_legal (Some def) None es stands = absurd stands
stands_legal None (Some line) es stands = absurd stands
stands_legal None None es stands = stands

-- ---- what rows say

same_pair : (l m : LineNo) (e f : Entry) → l ≡ m → e ≡ f → ◌≡◌ {A = LineEntry} (l, e) (m, f)
same_pair l m e f same_line same_entry = cc

one_entry : (board : BoardSeen) (row : List ℕ) (s : LineEntry) (m : LineNo) (f : Entry) → IsRowOn board row s → IsRowOf row m f → s ≡ (m, f)
one_entry board row (l, e) m f x y = let same = rows_tell row l m e f x.formed y in same_pair l m e f same.0 same.1

abbrev says : List ℕ → Bool
says row = not (is_passed_over row)

saying_more : (rows : List (List ℕ)) (row : List ℕ) (b : Bool) → is_passed_over row ≡ b
    → saying (rows ++ row ∷ []) ≡ saying rows ++ cond (not b) (row ∷ []) []
saying_more rows row b is = filter-append says rows (row ∷ [])
    ∙ ap (λ t. saying rows ++ cond (not t) (row ∷ []) []) is

equals : (n : ℕ) → eqb n n ≡ true
equals n = grind (arith, nat_tests)

differs : (l m : LineNo) → (l ≡ m → ⊥) → (b : Bool) → eqb l.0 m.0 ≡ b → b ≡ false
differs l m h false is = refl
differs l m h true is = absurd (h (ap (λ (n : ℕ). record { 0 = n }) (eqb-true l.0 m.0 is)))

last_counted : {A B : Type 0} (xs : List A) (ys : List B) (x : A) (y : B) → length xs ≡ length ys → length (xs ++ x ∷ []) ≡ length (ys ++ y ∷ [])
last_counted xs ys x y same = length-append xs (x ∷ []) ∙ (ap (λ n. n + 1) same ∙ sym (length-append ys (y ∷ [])))

-- the first n rows said these entries, of which the line has its own, and the other rows say what
-- is left
pub record ReadTo (board : BoardSeen) (part : Option LineDef) (number : LineNo) (rows : List (List ℕ)) (n : ℕ)
    (said : List LineEntry) (line : Option LineSeen) : Type 0 where
  pub done : List LineEntry
  pub left : List LineEntry
  pub said_is : said ≡ done ++ left
  pub each : AllZip (IsRowOn board) (saying (drop n rows)) left
  pub many : length (saying (take n rows)) ≡ length done
  pub stands : Stands part line None (entries_on done number)

-- a row that isn't passed over says the first entry of what is left
record Says (board : BoardSeen) (row : List ℕ) (rows : List (List ℕ)) (left : List LineEntry) : Type 0 where
  said : LineEntry
  rest : List LineEntry
  is : left ≡ said ∷ rest
  on : IsRowOn board row said
  each : AllZip (IsRowOn board) rows rest

first_said : (board : BoardSeen) (row : List ℕ) (rows : List (List ℕ)) (left : List LineEntry)
    → AllZip (IsRowOn board) (row ∷ rows) left → Says board row rows left
first_said board row rows [] each = absurd each
first_said board row rows (s ∷ rest) each = record { said = s; rest = rest; is = refl; on = each.0; each = each.1 }

module _ (board : BoardSeen) (part : Option LineDef) (number : LineNo) (rows : List (List ℕ)) (n : ℕ) (said : List LineEntry)
    (old : Option LineSeen) (row : List ℕ) (tail : List (List ℕ)) (at : drop n rows ≡ row ∷ tail)
    (now : ReadTo board part number rows n said old) where
  abbrev Each : List (List ℕ) → Type 0
  Each rs = AllZip (IsRowOn board) rs now.left

  split_by : (b : Bool) → is_passed_over row ≡ b → Each (cond (not b) (row ∷ saying tail) (saying tail))
  split_by b is = subst (λ t. Each (cond (not t) (row ∷ saying tail) (saying tail))) is (subst Each (ap saying at) now.each)

  more_by : (b : Bool) → is_passed_over row ≡ b → saying (take (n + 1) rows) ≡ saying (take n rows) ++ cond (not b) (row ∷ []) []
  more_by b is = ap saying (take_next rows n row tail at) ∙ saying_more (take n rows) row b is

  rest_is : saying tail ≡ saying (drop (n + 1) rows)
  rest_is = ap saying (sym (drop_next rows n row tail at))

  passes : is_passed_over row ≡ true → ReadTo board part number rows (n + 1) said old
  passes passed = record {
    done = now.done;
    left = now.left;
    said_is = now.said_is;
    each = subst Each rest_is (split_by true passed);
    many = ap length (more_by true passed ∙ append-nil (saying (take n rows))) ∙ now.many;
    stands = now.stands;
  }

  module _ (unpassed : is_passed_over row ≡ false) where
    told : Says board row (saying tail) now.left
    told = first_said board row (saying tail) now.left (split_by false unpassed)

    grown : (e : Entry) (of : LineNo) (new : Option LineSeen) → told.said ≡ (of, e)
        → Stands part new None (entries_on (now.done ++ (of, e) ∷ []) number) → ReadTo board part number rows (n + 1) said new
    grown e of new is stands =
        let both : now.left ≡ (of, e) ∷ told.rest = told.is ∙ ap (λ (s : LineEntry). s ∷ told.rest) is in
        record {
          done = now.done ++ (of, e) ∷ [];
          left = told.rest;
          said_is = now.said_is ∙ (ap (λ (l : List LineEntry). now.done ++ l) both ∙ sym (append_assoc now.done ((of, e) ∷ []) told.rest));
          each = subst (λ (rs : List (List ℕ)). AllZip (IsRowOn board) rs told.rest) rest_is told.each;
          many = ap length (more_by false unpassed) ∙ counted;
          stands = stands;
        }
      where
        counted : length (saying (take n rows) ++ row ∷ []) ≡ length (now.done ++ (of, e) ∷ [])
        counted = last_counted (saying (take n rows)) now.done row (of, e) now.many

    by_own : (of : LineNo) (e : Entry) (new : Option LineSeen) → told.said ≡ (of, e) → TriesIfOwn of number e None old new
        → ReadTo board part number rows (n + 1) said new
    by_own of e new is (inl (other, none, same)) =
        let kept : entries_on (now.done ++ (of, e) ∷ []) number ≡ entries_on now.done number = more_on now.done (of, e) number
        ∙ (ap (λ (es : List Entry). entries_on now.done number ++ es) (on_other (of, e) number (differs of number other (eqb of.0 number.0) refl))
        ∙ append-nil (entries_on now.done number)) in
        grown e of new is (subst (λ (l : Option LineSeen). Stands part l None (entries_on (now.done ++ (of, e) ∷ []) number)) (sym same)
        (subst (λ (es : List Entry). Stands part old None es) (sym kept) now.stands))
    by_own of e new is (inr (own, tried)) =
        let more : entries_on (now.done ++ (of, e) ∷ []) number ≡ entries_on now.done number ++ e ∷ [] = more_on now.done (of, e) number
        ∙ ap (λ (es : List Entry). entries_on now.done number ++ es) (on_own (of, e) number (ap (λ (l : LineNo). eqb l.0 number.0) own ∙ equals number.0)) in
        grown e of new is (subst (λ (es : List Entry). Stands part new None es) (sym more)
        (tried_more part old new (entries_on now.done number) e now.stands tried))

    by_undue : (of : LineNo) (e : Entry) (new : Option LineSeen) (undue : Undue) → undue.row ≡ n + 1 → told.said ≡ (of, e)
        → TriesIfOwn of number e (Some undue.due) old new → IsUndue part number rows said undue
    by_undue of e new undue counts is (inl (other, none, same)) = cc
    by_undue of e new undue counts is (inr (own, tried)) =
        let back : undue.row - 1 ≡ n = omega (arith, counts) in
        let mine : told.said ≡ (number, e) = is ∙ same_pair of number e e own refl in
        record {
          before = now.done;
          entry = e;
          after = told.rest;
          said_is = now.said_is ∙ ap (λ (l : List LineEntry). now.done ++ l) (told.is ∙ ap (λ (s : LineEntry). s ∷ told.rest) mine);
          legal = stands_legal part old (entries_on now.done number) now.stands;
          due = tried_undue part old new (entries_on now.done number) e undue.due now.stands tried;
          row = row;
          counted = omega (arith, counts);
          row_at = ap (λ m. slice_get rows m) back ∙ get_drop rows n row tail at;
          says = unpassed;
          place = ap (λ m. length (saying (take m rows))) back ∙ now.many;
        }

  no_entry : {X : Type 0} → is_passed_over row ≡ false → ((of : LineNo) (e : Entry) → IsRowOf row of e → ⊥) → X
  no_entry unpassed none = let t = told unpassed in absurd (none t.said.0 t.said.1 t.on.formed)

  pub next_read : (new : Option LineSeen) → Finds row number None old new → ReadTo board part number rows (n + 1) said new
  next_read new (inl (passed, none, same)) =
      subst (λ (l : Option LineSeen). ReadTo board part number rows (n + 1) said l) (sym same) (passes passed)
  next_read new (inr (unpassed, inl none)) = no_entry unpassed none
  next_read new (inr (unpassed, inr (of, e, formed, tried))) =
      by_own unpassed of e new (one_entry board row (told unpassed).said of e (told unpassed).on formed) tried

  pub undue_read : (new : Option LineSeen) (undue : Undue) → undue.row ≡ n + 1 → Finds row number (Some undue.due) old new
      → IsUndue part number rows said undue
  undue_read new undue counts (inl (passed, none, same)) = cc
  undue_read new undue counts (inr (unpassed, inl none)) = no_entry unpassed none
  undue_read new undue counts (inr (unpassed, inr (of, e, formed, tried))) =
      by_undue unpassed of e new undue counts (one_entry board row (told unpassed).said of e (told unpassed).on formed) tried

  -- a row without its line feed is no row
  pub unended : {X : Type 0} → is_whole row ≡ false → X
  unended bare = by (is_passed_over row) refl
    where
      by : {X : Type 0} (b : Bool) → is_passed_over row ≡ b → X
      by true passed = absurd (unended_row board row bare (inl passed))
      by false unpassed = let t = told unpassed in absurd (unended_row board row bare (inr (t.said, t.on)))

-- all rows are read
nothing_left : (board : BoardSeen) (left : List LineEntry) → AllZip (IsRowOn board) [] left → left ≡ []
nothing_left board [] each = refl
nothing_left board (s ∷ left) each = absurd each

pub all_read : (board : BoardSeen) (part : Option LineDef) (number : LineNo) (rows : List (List ℕ)) (n : ℕ) (said : List LineEntry)
    (line : Option LineSeen) → ReadTo board part number rows n said line → drop n rows ≡ [] → IsLegalOf part (entries_on said number)
all_read board part number rows n said line now over =
    let none = nothing_left board now.left (subst (λ (rs : List (List ℕ)). AllZip (IsRowOn board) rs now.left) (ap saying over) now.each) in
    let same : said ≡ now.done = now.said_is ∙ (ap (λ (l : List LineEntry). now.done ++ l) none ∙ append-nil now.done) in
    subst (λ (es : List LineEntry). IsLegalOf part (entries_on es number)) (sym same)
    (stands_legal part line (entries_on now.done number) now.stands)

-- ---- the loop

-- what was said of the line's room
abbrev pub IsShort : ℕ → Option LineSeen → Type 0
IsShort n None = Unit {0}
IsShort n (Some line) = (length line.entries ≤ n) × (line.def.log ≡ most)

-- so it stands after n rows of the log, whatever they say
pub record IsRead (number : LineNo) (log rest : List ℕ) (n : ℕ) (fresh line : Option LineSeen) : Type 0 where
  pub left : rows_of rest ≡ drop n (rows_of log)
  pub within : n + length rest ≤ length log
  pub short : IsShort n line
  pub so_far : (part : Option LineDef) (board : BoardSeen) (said : List LineEntry) → Stands part fresh None []
      → AllZip (IsRowOn board) (saying (rows_of log)) said → ReadTo board part number (rows_of log) n said line

new_short : (line : Option LineSeen) → IsNew line → IsShort 0 line
new_short None new = tt
new_short (Some line) new = (let empty = ap length new.0 in omega (arith, empty), new.1)

pub at_start : (number : LineNo) (log : List ℕ) (fresh : Option LineSeen) → IsNew fresh → IsRead number log log 0 fresh fresh
at_start number log fresh new = record {
  left = refl;
  within = omega arith;
  short = new_short fresh new;
  so_far = λ part board said stands all. record { done = []; left = said; said_is = refl; each = all; many = refl; stands = stands };
}

grown_short : (n : ℕ) (old new : Option LineSeen) → IsShort n old → GrowsByOne old new → IsShort (n + 1) new
grown_short n (Some old) (Some new) short grows =
    (let few = short.0 in let more = grows.1 in omega (arith, few, more), ap (λ (d : LineDef). d.log) grows.0 ∙ short.1)
grown_short n (Some old) None short grows = absurd grows
grown_short n None new short grows = subst (IsShort (n + 1)) (sym grows) tt

pub room : (number : LineNo) (log rest : List ℕ) (n : ℕ) (fresh line : Option LineSeen) → IsRead number log rest n fresh line
    → length log < most → IfSome line HasRoom
room number log rest n fresh None now few = tt
room number log rest n fresh (Some line) now few =
    let short = now.short.0 in
    let within = now.within in
    let log_is = now.short.1 in
    record { below = omega (arith, short, within, log_is, few); few = omega (arith, short, within, few) }

module _ (number : LineNo) (log rest : List ℕ) (n : ℕ) (fresh old new : Option LineSeen) (now : IsRead number log rest n fresh old)
    (row after : List ℕ) (cut : rows_of rest ≡ row ∷ rows_of after) where
  at_row : drop n (rows_of log) ≡ row ∷ rows_of after
  at_row = sym now.left ∙ cut

  pub at_next : length after + 1 ≤ length rest → GrowsByOne old new → Finds row number None old new → IsRead number log after (n + 1) fresh new
  at_next shorter grows finds = record {
    left = sym (drop_next (rows_of log) n row (rows_of after) at_row);
    within = let within = now.within in omega (arith, within, shorter);
    short = grown_short n old new now.short grows;
    so_far = λ part board said stands all. next_read board part number (rows_of log) n said old row (rows_of after) at_row
        (now.so_far part board said stands all) new finds;
  }

  pub undue_here : (undue : Undue) → undue.row ≡ n + 1 → Finds row number (Some undue.due) old new
      → (part : Option LineDef) (board : BoardSeen) (said : List LineEntry) → Stands part fresh None []
      → AllZip (IsRowOn board) (saying (rows_of log)) said → Explains part number (rows_of log) said (Some undue)
  undue_here undue counts finds part board said stands all =
      undue_read board part number (rows_of log) n said old row (rows_of after) at_row (now.so_far part board said stands all) new undue counts finds

pub none_ended : (number : LineNo) (log rest : List ℕ) (n : ℕ) (fresh line : Option LineSeen) → IsRead number log rest n fresh line
    → (rows_of rest ≡ rest ∷ []) × (is_whole rest ≡ false)
    → (part : Option LineDef) (board : BoardSeen) (said : List LineEntry) → Stands part fresh None []
    → AllZip (IsRowOn board) (saying (rows_of log)) said → Explains part number (rows_of log) said None
none_ended number log rest n fresh line now bare part board said stands all =
    unended board part number (rows_of log) n said line rest [] (sym now.left ∙ bare.0) (now.so_far part board said stands all) bare.1

is_nothing : (xs : List ℕ) → length xs ≡ 0 → xs ≡ []
is_nothing [] none = refl
is_nothing (x ∷ xs) none = absurd (omega (arith, none))

pub none_undue : (number : LineNo) (log rest : List ℕ) (n : ℕ) (fresh line : Option LineSeen) → IsRead number log rest n fresh line
    → length rest ≡ 0
    → (part : Option LineDef) (board : BoardSeen) (said : List LineEntry) → Stands part fresh None []
    → AllZip (IsRowOn board) (saying (rows_of log)) said → Explains part number (rows_of log) said None
none_undue number log rest n fresh line now over part board said stands all =
    all_read board part number (rows_of log) n said line (now.so_far part board said stands all) (sym now.left ∙ ap rows_of (is_nothing rest over))

-- ---- the line of a board

pub made_new : (def : LineDef) (placement : Option Placement) (line : Option LineSeen) → IsMade def placement line → IsNew line
made_new def placement None made = tt
made_new def (Some (placements.Mapped virq path)) (Some line) made = (made.1, ap (λ (d : LineDef). d.log) made.0)
made_new def (Some (placements.Refused why)) (Some line) made = cc
made_new def None (Some line) made = cc

-- no other line of the board has this number
one_place : (b : BoardSeen) (board : IsBoard b) (number : LineNo) (place i : ℕ) (row x : LineRow) → slice_get b.lines place ≡ Some row
    → row.line ≡ number → slice_get b.lines i ≡ Some x → x.line ≡ number → i ≡ place
one_place b board number place i row x at of also is = by (cases_eq i place)
  where
    by : (i ≡ place) ⊎ (i ≡ place → ⊥) → i ≡ place
    by (inl same) = same
    by (inr differ) = absurd (false≢true (sym (other_line b i place x row board also at differ)
        ∙ (ap (λ (l : LineNo). eqb row.line.0 l.0) (is ∙ sym of) ∙ equals row.line.0)))

module _ (b : BoardSeen) (board : IsBoard b) (number : LineNo) (place : ℕ) (of : IsPlaceOf b.lines number place) where
  pub within : (defs : List LineDef) → defs ≡ line_defs_of b → place < length defs
  within defs is =
      let inside = slice_get_within b.lines place of.0 of.1 in
      omega (arith, inside, ap length is, length-map b.lines (line_of_row b))

  -- what was made of its definition is the line of each row with the number
  pub of_place : (d : LineDef) (row : (row : LineRow) × (slice_get b.lines place ≡ Some row) × (d ≡ line_of_row b row))
      (layout : List Placement) (placement : Option Placement) (line : Option LineSeen)
      → layout ≡ layout_of b → placement ≡ slice_get layout place → IsMade d placement line
      → (i : ℕ) (x : LineRow) → slice_get b.lines i ≡ Some x → x.line ≡ number → Stands (part_at b x i) line None []
  of_place d row layout placement line laid placed made i x also is =
      let mine : of.0 ≡ row.0 = same_Some of.0 row.0 (sym of.1 ∙ row.1) in
      let named : row.0.line ≡ number = ap (λ (r : LineRow). r.line) (sym mine) ∙ of.2 in
      let here = one_place b board number place i row.0 x row.1 named also is in
      let same : row.0 ≡ x = same_Some row.0 x (sym row.1 ∙ (ap (λ n. slice_get b.lines n) (sym here) ∙ also)) in
      let now : IsMade (line_of_row b row.0) (slice_get (layout_of b) place) line =
      subst (λ (p : Option Placement). IsMade (line_of_row b row.0) p line) (placed ∙ ap (λ (ps : List Placement). slice_get ps place) laid)
      (subst (λ (y : LineDef). IsMade y placement line) row.2 made) in
      subst (λ (r : LineRow). Stands (part_at b r i) line None []) same
      (subst (λ n. Stands (part_at b row.0 n) line None []) (sym here) (new_stands b row.0 (slice_get (layout_of b) place) line now))

pub unknown : (b : BoardSeen) (number : LineNo) (i : ℕ) (x : LineRow) → has_line b.lines number ≡ false → slice_get b.lines i ≡ Some x
    → x.line ≡ number → ⊥
unknown b number i x none at is = false≢true (sym none ∙ present b.lines number i (x, at, is))
