-- What a row does to the judge of its line.
use Rattle.std.proofs.Common.{◌≡◌, ℕ, zero, suc, ◌+◌, ◌-◌, ◌<◌, true, cond, ltb, IfSome, Option, Some, None, List, []}
use Rattle.std.proofs.Common.{◌∷◌, ◌++◌, decimal, length, take, reverse, refl, sym, ap, subst, ◌∙◌, arith, length-append}
use Rattle.std.specs.List.{concat, join_with_byte, slice_get}
use Rattle.std.specs.Option.{option_map, unwrap_or}
use Rattle.std.specs.Prelude.{MatchOption}
use Rattle.std.proofs.Math.Seq.{take-append_seam}
use Rattle.std.proofs.lemmas.Bool.{and_parts, ltb-true, ne_eqb}
use Rattle.std.proofs.lemmas.List.{reverse-append}
use Rattle.std.proofs.lemmas.Option.{slice_get_within}
use Rattle.board_def.specs.Seen.{BoardSeen}
use Rattle.irq_base.specs.Who.{actor_of}
use Rattle.irq_base.specs.declared.entries.Actor.{Actor}
use Rattle.irq_base.specs.declared.entries.Entry.{Entry}
use Rattle.irq_base.specs.declared.lines.LineDef.{LineDef}
use Rattle.irq_base.specs.declared.numbers.LineNo.{LineNo}
use Rattle.irq_laws.specs.LogLimit.{with_log}
use Rattle.irq_line.specs.Seen.{LineSeen}
use Rattle.irq_model.specs.Legal.{IsDue, IsLegal, IsLegalPast}
use Rattle.irq_model.specs.Next.{next}
use Rattle.log_text.specs.EntryWords.{entry_words}
use Rattle.log_text.specs.Formed.{IsRowOf, IsSmall, IsWritable}
use Rattle.log_text.specs.Rows.{entry_text}
use Rattle.log_text.proofs.Splitting.{are_above, row_within}
use Rattle.log_read.specs.LogOf.{onto_first, rows_of}
use Rattle.log_read.specs.Versions.{may_have}
use Rattle.log_read.proofs.RowCutting.{front_joined}
use Rattle.log_check.specs.Heads.{BeginsWith, IsHead}
use Rattle.log_check.specs.JudgeSeen.{JudgeSeen}
use Rattle.log_check.specs.Judged.{IsFirstUndue}
use Rattle.log_check.specs.Judging.{Adds, Stands, Stops, Takes, most}

-- ---- histories with one entry more

pub legal_more : (def : LineDef) (es : List Entry) (e : Entry) → IsLegal def es → IsDue def e (reverse es) → IsLegal def (es ++ e ∷ [])
legal_more def es e legal due = subst (IsLegalPast def) (sym (reverse-append es (e ∷ []))) (due, legal)

pub get_last : (es : List Entry) (e : Entry) → slice_get (es ++ e ∷ []) (length es) ≡ Some e
get_last [] e = refl
get_last (x ∷ es) e = get_last es e

undue_last : (def : LineDef) (es : List Entry) (e : Entry) (number : ℕ) → number ≡ length es + 1 → IsLegal def es
    → (IsDue def e (reverse es) → ⊥) → IsFirstUndue def (es ++ e ∷ []) number
undue_last def es e number is legal undue =
    let back : number - 1 ≡ length es = omega (arith, is) in
    let before : take (number - 1) (es ++ e ∷ []) ≡ es = ap (λ m. take m (es ++ e ∷ [])) back ∙ take-append_seam es (e ∷ []) in
    record {
      counted = omega (arith, is);
      before = subst (IsLegal def) (sym before) legal;
      undue = (
        e,
        ap (λ m. slice_get (es ++ e ∷ []) m) back ∙ get_last es e,
        subst (λ (hs : List Entry). IsDue def e (reverse hs) → ⊥) (sym before) undue,
      );
    }

take_more : (es : List Entry) (e : Entry) (n : ℕ) → n < length es → take n (es ++ e ∷ []) ≡ take n es
take_more [] e n within = absurd (omega (arith, within))
take_more (x ∷ es) e zero within = refl
take_more (x ∷ es) e (suc n) within = ap (λ hs. x ∷ hs) (take_more es e n (omega (arith, within)))

get_more : (es : List Entry) (e : Entry) (n : ℕ) → n < length es → slice_get (es ++ e ∷ []) n ≡ slice_get es n
get_more [] e n within = absurd (omega (arith, within))
get_more (x ∷ es) e zero within = refl
get_more (x ∷ es) e (suc n) within = get_more es e n (omega (arith, within))

undue_more : (def : LineDef) (es : List Entry) (e : Entry) (number : ℕ) → IsFirstUndue def es number → IsFirstUndue def (es ++ e ∷ []) number
undue_more def es e number first =
    let u = first.undue in
    let within = slice_get_within es (number - 1) u.0 u.1 in
    let before : take (number - 1) (es ++ e ∷ []) ≡ take (number - 1) es = take_more es e (number - 1) within in
    record {
      counted = first.counted;
      before = subst (IsLegal def) (sym before) first.before;
      undue = (
        u.0,
        get_more es e (number - 1) within ∙ u.1,
        subst (λ (hs : List Entry). IsDue def u.0 (reverse hs) → ⊥) (sym before) u.2,
      );
    }

-- ---- what is due of the line is due by the line's own definition

due_here : (def : LineDef) (line : LineSeen) (es : List Entry) (actor : Actor) (due : Option Entry) → line.def ≡ with_log def most
    → line.entries ≡ es → next line.def line.entries actor ≡ due → next def es actor ≡ due
due_here def line es actor due is has h =
    subst (λ (hs : List Entry). next def hs actor ≡ due) has (subst (λ (d : LineDef). next d line.entries actor ≡ due) is h)

due_there : (def : LineDef) (line : LineSeen) (es : List Entry) (actor : Actor) (due : Option Entry) → line.def ≡ with_log def most
    → line.entries ≡ es → next def es actor ≡ due → next line.def line.entries actor ≡ due
due_there def line es actor due is has h =
    let own : next (with_log def most) line.entries actor ≡ due = subst (λ (hs : List Entry). next def hs actor ≡ due) (sym has) h in
    subst (λ (d : LineDef). next d line.entries actor ≡ due) (sym is) own

-- ---- a text that begins with the row of an entry

feed_first : (xs after : List ℕ) → are_above 10 xs ≡ true → rows_of ((xs ++ 10 ∷ []) ++ after) ≡ (xs ++ 10 ∷ []) ∷ rows_of after
feed_first [] after all = refl
feed_first (x ∷ xs) after all =
    let parts = and_parts (ltb 10 x) (are_above 10 xs) all in
    let above = ltb-true 10 x parts.0 in
    let rest = rows_of ((xs ++ 10 ∷ []) ++ after) in
    ap (λ t. cond t ((x ∷ []) ∷ rest) (onto_first x rest)) (ne_eqb x 10 (λ same. omega (arith, same, above)))
    ∙ ap (onto_first x) (feed_first xs after parts.1)

begins : (text after : List ℕ) (number : LineNo) (e : Entry) → IsSmall number.0 → IsWritable e → text ≡ entry_text number e ++ after
    → BeginsWith (entry_text number e) after text
begins text after number e small writable is =
    let words = join_with_byte 32 (decimal number.0 ∷ entry_words e) in
    record {
      rows = ap rows_of is ∙ feed_first words after (row_within number e small writable);
      shorter = omega (arith, ap length is, length-append (words ++ 10 ∷ []) after, length-append words (10 ∷ []));
    }

row_of : (text row : List ℕ) (rows : List (List ℕ)) (number : LineNo) (e : Entry) → rows_of text ≡ row ∷ rows → IsRowOf row number e
    → text ≡ entry_text number e ++ concat rows
row_of text row rows number e is of = front_joined text row rows is ∙ ap (λ (xs : List ℕ). xs ++ concat rows) of.text

-- ---- the judge says it of one entry more

abbrev Took : BoardSeen → Option LineDef → List ℕ → LineNo → List Entry → JudgeSeen → Type 0
Took b part row number es new = (e : Entry) × IsRowOf row number e × (may_have b.version e ≡ true) × Stands part new.line new.first (es ++ e ∷ [])

abbrev judge : Option LineSeen → Option ℕ → JudgeSeen
judge line first = record { line = line; first = first }

module _ (b : BoardSeen) (text : List ℕ) (number : LineNo) (actor : Actor) (head : IsHead text number actor) where
  own_row : (row after : List ℕ) (line : LineNo) (e : Entry) → BeginsWith row after text → IsRowOf row line e → IsRowOf row number e
  own_row row after line e at of = subst (λ (l : LineNo). IsRowOf row l e) (head row (rows_of after) line e at.rows of).0 of

  module _ (old new : LineSeen) where
    -- the row is that of the due entry
    pub added : (first : Option ℕ) (after : List ℕ) → Adds b text number actor (Some after) old new
        → Takes b text number (Some after) (judge (Some old) first) (judge (Some new) first)
    added first after (e, small, writable, allowed, is, due, kept, more) =
        let at = begins text after number e small writable is in
        let of : IsRowOf (entry_text number e) number e = record { text = refl; number = small; writable = writable } in
        let by = (head (entry_text number e) (rows_of after) number e at.rows of).1 in
        (entry_text number e, at, λ part es same stands. took of by first part es same stands)
      where
        took : IsRowOf (entry_text number e) number e → actor_of e ≡ actor → (first : Option ℕ) (part : Option LineDef) (es : List Entry)
            → IfSome part (λ (def : LineDef). def.line ≡ number) → Stands part (Some old) first es
            → Took b part (entry_text number e) number es (judge (Some new) first)
        took of by None (Some def) es same (legal, is_def, has) =
            let who = sym by in
            let owed : IsDue def e (reverse es) = subst (λ (a : Actor). next def es a ≡ Some e) who (due_here def old es actor (Some e) is_def has due) in
            (e, of, allowed, (legal_more def es e legal owed, kept ∙ is_def, more ∙ ap (λ (hs : List Entry). hs ++ e ∷ []) has))
        took of by None None es same stands = absurd stands
        took of by (Some n) (Some def) es same stands = absurd stands
        took of by (Some n) None es same stands = absurd stands

    -- it isn't
    pub stopped : (first : Option ℕ) (entry : ℕ) (after : Option (List ℕ)) (then : JudgeSeen) → Adds b text number actor None old new
        → entry ≡ length old.entries + 1 → Stops b text entry after then → Takes b text number after (judge (Some old) first) then
    stopped first entry None then none counts stops = stops
    stopped first entry (Some after) then none counts (row, at, (line, e, of, allowed), is) =
        let own = own_row row after line e at of in
        (row, at, λ part es same stands. took own (head row (rows_of after) number e at.rows own).1 first part es same stands)
      where
        took : IsRowOf row number e → actor_of e ≡ actor → (first : Option ℕ) (part : Option LineDef) (es : List Entry)
            → IfSome part (λ (def : LineDef). def.line ≡ number) → Stands part (Some old) first es → Took b part row number es then
        took own by None (Some def) es same (legal, is_def, has) =
            let who = sym by in
            let undue : IsDue def e (reverse es) → ⊥ = λ owed.
            none e (concat (rows_of after)) (due_there def old es actor (Some e) is_def has
            (subst (λ (a : Actor). next def es a ≡ Some e) (sym who) owed)) allowed
            (row_of text row (rows_of after) number e at.rows own) in
            subst (λ (j : JudgeSeen). Took b (Some def) row number es j) (sym is)
            (e, own, allowed, undue_last def es e entry (counts ∙ ap (λ (hs : List Entry). length hs + 1) has) legal undue)
        took own by None None es same stands = absurd stands
        took own by (Some n) (Some def) es same stands = absurd stands
        took own by (Some n) None es same stands = absurd stands

  -- the line is stopped already, or takes no part
  pub stays : (first : Option ℕ) (entry : ℕ) (after : Option (List ℕ)) (then : JudgeSeen) → MatchOption first (entry ≡ 1) (λ n. entry ≡ n)
      → Stops b text entry after then → Takes b text number after (judge None first) then
  stays first entry None then counts stops = stops
  stays first entry (Some after) then counts (row, at, (line, e, of, allowed), is) = (row, at, λ part es same stands. took first part es counts stands)
    where
      own : IsRowOf row number e
      own = own_row row after line e at of

      took : (first : Option ℕ) (part : Option LineDef) (es : List Entry) → MatchOption first (entry ≡ 1) (λ n. entry ≡ n)
          → Stands part None first es → Took b part row number es then
      took (Some n) (Some def) es counts stands =
          subst (λ (j : JudgeSeen). Took b (Some def) row number es j) (sym is)
          (e, own, allowed, subst (λ m. IsFirstUndue def (es ++ e ∷ []) m) (sym counts) (undue_more def es e n stands))
      took None (Some def) es counts stands = absurd stands
      took (Some n) None es counts stands =
          subst (λ (j : JudgeSeen). Took b None row number es j) (sym is) (e, own, allowed, (omega (arith, length-append es (e ∷ [])), counts ∙ stands.1))
      took None None es counts stands =
          subst (λ (j : JudgeSeen). Took b None row number es j) (sym is) (e, own, allowed, (omega (arith, length-append es (e ∷ [])), counts))

pub counted : (first : Option ℕ) (entry : ℕ) → entry ≡ unwrap_or first 1 → MatchOption first (entry ≡ 1) (λ n. entry ≡ n)
counted None entry is = is
counted (Some n) entry is = is

-- what is seen of a judge, by its parts
pub seen_as : {L : Type 0} (seen : L → LineSeen) (line : Option L) (now : Option L) (first : Option ℕ) (self : JudgeSeen)
    → judge (option_map seen line) first ≡ self → line ≡ now → judge (option_map seen now) first ≡ self
seen_as seen line now first self view is = ap (λ (o : Option _). judge (option_map seen o) first) (sym is) ∙ view
