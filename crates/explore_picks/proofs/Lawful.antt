-- What is printed of a play is lawful: it is the text of a log of the board, on which `check` says so.
use Rattle.std.proofs.Common.{◌≡◌, ℕ, zero, suc, ◌+◌, ◌*◌, ◌/◌, ◌<◌, Bool, true, false, not, ◌&&◌, ◌||◌, cond, eqb, ltb, Some, None, List, [], ◌∷◌, ◌++◌}
use Rattle.std.proofs.Common.{decimal, length, map, slice_get, reverse, codes, refl, sym, ap, subst, ◌∙◌, append_assoc, append-nil, arith}
use Rattle.std.specs.List.{AllZip, filter, flat_map, join_with_byte, list_all, range_with_len}
use Rattle.std.specs.Option.{option_map}
use Rattle.std.specs.Prelude.{All}
use Rattle.std.proofs.lemmas.Bool.{and_parts, ltb-true, ne_eqb}
use Rattle.std.proofs.lemmas.Bool.Decides.{nat_tests}
use Rattle.std.proofs.lemmas.List.{reverse-append, reverse-reverse}
use Rattle.std.proofs.lemmas.List.Elements.{All-cons, All-drop, All-head, All-nil, All-tail, All-take}
use Rattle.std.proofs.lemmas.List.Folds.{list_all-append}
use Rattle.std.proofs.lemmas.Fmt.{decimal_nonempty}
use Rattle.std.proofs.lemmas.Option.{none-some, same_Some, slice_get-map}
use Rattle.irq_base.specs.Seen.{HistorySeen}
use Rattle.irq_base.specs.declared.entries.Actor.{Actor}
use Rattle.irq_base.specs.declared.entries.Entry.{Entry}
use Rattle.irq_base.specs.declared.lines.LineDef.{LineDef}
use Rattle.irq_base.specs.declared.numbers.LineNo.{LineNo}
use Rattle.irq_model.specs.Kinds.{same_line}
use Rattle.irq_model.specs.Legal.{IsLegal}
use Rattle.irq_model.proofs.Same.{line_from_same}
use Rattle.board_def.specs.Layout.{layout_of}
use Rattle.irq_model.specs.Next.{next_past}
use Rattle.irq_laws.proofs.OwnLaws.{due_is_own_past}
use Rattle.board_def.specs.LineOf.{line_defs_of, line_of_row}
use Rattle.board_def.specs.Rules.{IsBoard, has_line}
use Rattle.board_def.specs.Seen.{BoardSeen}
use Rattle.board_def.specs.declared.rows.LineRow.{LineRow}
use Rattle.board_play.specs.Kept.{AreKept}
use Rattle.board_play.specs.Lines.{BoardLine, Move, defs_of, find_line, lines_of, part}
use Rattle.board_play.proofs.KeptAlways.{apart_kept}
use Rattle.board_play.proofs.Listed.{def_at}
use Rattle.board_play.proofs.Members.{find_there, found, past_at}
use Rattle.board_play.proofs.Moves.{moves_on}
use Rattle.board_play.proofs.OfBoard.{def_of_row}
use Rattle.board_report.specs.Reporting.{entries_in, entries_of as entries_found}
use Rattle.board_report.proofs.Kept.{legal_row}
use Rattle.board_report.proofs.Laid.{line_laid}
use Rattle.board_report.proofs.Printable.{turned}
use Rattle.board_report.proofs.OfRows.{is_mapped_at, takes_no_part}
use Rattle.domain_rules.specs.declared.layouts.Placement.{Placement}
use Rattle.domain_rules.specs.declared.layouts.Placement.TheVariants as placements
use Rattle.log_check.specs.Judging.{logs_of}
use Rattle.log_check.specs.Verdicts.{ChecksLog, JudgedAt, JudgedLine}
use Rattle.log_check.specs.declared.verdict.Verdict.TheVariants as verdicts
use Rattle.board_words.specs.Versions.{has_runs}
use Rattle.log_read.proofs.Telling.{present}
use Rattle.log_read.specs.Versions.{may_have, needs_runs}
use Rattle.log_read.specs.LogOf.{IsRowOn, LineEntry, begins_with_hash, entries_of, entries_on, is_feed, is_passed_over}
use Rattle.log_read.specs.LogOf.{is_whole, onto_first, rows_of, saying}
use Rattle.log_text.proofs.Splitting.{are_above, row_within, row_words}
use Rattle.log_text.proofs.Spacing.{joined}
use Rattle.log_text.specs.EntryWords.{entry_words}
use Rattle.log_text.specs.Formed.{IsSmall, IsWritable}
use Rattle.log_text.specs.Rows.{entry_text}
use Rattle.log_text.specs.Spaced.{spaced}
use Rattle.play_report.specs.Report.{moves_text}
use Rattle.explore_picks.proofs.Allowed.{may_have_row}
use Rattle.explore_picks.proofs.Bytes.{above_feed, digits_plain, not_hash, is_plain, picks_pass}
use Rattle.explore_picks.proofs.Named.{kept}
use Rattle.board_stated.specs.OfVersion.{HasOldRows, IsOfItsVersion}
use Rattle.explore_picks.specs.Rows.{pick_text, picks_line, picks_row, picks_text, row_at}
use Rattle.explore_picks.specs.Stated.{IsNameable}
use Rattle.explore_picks.specs.Made.{ArePicked}

-- ---- the rows of the text

pub row_first : (xs rest : List ℕ) → are_above 10 xs ≡ true → rows_of (xs ++ 10 ∷ rest) ≡ (xs ++ 10 ∷ []) ∷ rows_of rest
row_first [] rest above = refl
row_first (b ∷ bs) rest above =
    let both = and_parts (ltb 10 b) (are_above 10 bs) above in
    let more = ltb-true 10 b both.0 in
    let no : is_feed b ≡ false = ne_eqb b 10 (λ same. omega (arith, more, same)) in
    ap (λ t. cond t ((b ∷ []) ∷ rows_of (bs ++ 10 ∷ rest)) (onto_first b (rows_of (bs ++ 10 ∷ rest)))) no
    ∙ ap (onto_first b) (row_first bs rest both.1)

-- a row of a move

abbrev pub CanWrite : Move → Type 0
CanWrite m = IsSmall m.0.0 × IsWritable m.1

abbrev move_words : Move → List ℕ
move_words m = join_with_byte 32 (row_words m.0 m.1)

abbrev move_row : Move → List ℕ
move_row m = entry_text m.0 m.1

-- it begins with a digit
digit_first : (bs rest : List ℕ) → 0 < length bs → list_all is_plain bs ≡ true → begins_with_hash (bs ++ rest) ≡ false
digit_first [] rest some h = absurd (omega (arith, some))
digit_first (b ∷ bs) rest some h = not_hash b (and_parts (is_plain b) (list_all is_plain bs) h).0

pub no_hash : (line : LineNo) (e : Entry) → IsSmall line.0 → begins_with_hash (entry_text line e) ≡ false
no_hash line e small =
    ap (λ (xs : List ℕ). begins_with_hash (xs ++ codes "\n")) (joined (decimal line.0) (entry_words e))
    ∙ (ap begins_with_hash (append_assoc (decimal line.0) (spaced (entry_words e)) (codes "\n"))
    ∙ digit_first (decimal line.0) (spaced (entry_words e) ++ codes "\n") (decimal_nonempty line.0 (omega (arith, small))) (digits_plain line.0 small))

unpassed : (m : Move) → CanWrite m → is_passed_over (move_row m) ≡ false
unpassed m w = ap (λ t. t && is_whole (move_row m)) (no_hash m.0 m.1 w.0)

moves_rows : (g : List Move) → All CanWrite g → (rest : List ℕ) → rows_of (moves_text g ++ rest) ≡ map move_row g ++ rows_of rest
moves_rows [] w rest = refl
moves_rows (m ∷ g) w rest =
    let head = All-head CanWrite m g w in
    ap rows_of (append_assoc (move_row m) (moves_text g) rest ∙ append_assoc (move_words m) (codes "\n") (moves_text g ++ rest))
    ∙ (row_first (move_words m) (moves_text g ++ rest) (row_within m.0 m.1 head.0 head.1)
    ∙ ap (λ (rows : List (List ℕ)). move_row m ∷ rows) (moves_rows g (All-tail CanWrite m g w) rest))

-- a row of picks

whole : (xs : List ℕ) → is_whole (xs ++ 10 ∷ []) ≡ true
whole [] = refl
whole (x ∷ []) = refl
whole (x ∷ y ∷ xs) = whole (y ∷ xs)

within : (ps : List Actor) → All IsNameable ps → are_above 10 (codes "# " ++ picks_line ps) ≡ true
within ps named =
    list_all-append (λ b. ltb 10 b) (codes "# picks") (flat_map pick_text ps) ∙ picks_pass (λ b. ltb 10 b) refl above_feed ps named

picks_first : (ps : List Actor) (rest : List ℕ) → All IsNameable ps → rows_of (picks_row ps ++ rest) ≡ picks_row ps ∷ rows_of rest
picks_first ps rest named =
    let text = codes "# " ++ picks_line ps in
    ap rows_of (same text) ∙ (row_first text rest (within ps named) ∙ ap (λ (row : List ℕ). row ∷ rows_of rest) (row_is ps))
  where
    row_is : (ps : List Actor) → (codes "# " ++ picks_line ps) ++ 10 ∷ [] ≡ picks_row ps
    row_is ps = refl

    same : (text : List ℕ) → picks_row ps ++ rest ≡ (codes "# " ++ picks_line ps) ++ 10 ∷ rest
    same text = ap (λ (row : List ℕ). row ++ rest) (sym (row_is ps)) ∙ append_assoc (codes "# " ++ picks_line ps) (10 ∷ []) rest

hashes : (picks : List Actor) → All IsNameable picks → (ks : List ℕ) → saying (rows_of (flat_map (λ k. picks_row (row_at picks k)) ks)) ≡ []
hashes picks named [] = refl
hashes picks named (k ∷ ks) =
    let ps = row_at picks k in
    let rest = flat_map (λ k. picks_row (row_at picks k)) ks in
    let own = All-take IsNameable 24 _ (All-drop IsNameable (24 * k) picks named) in
    ap saying (picks_first ps rest own)
    ∙ (ap (λ t. cond (not t) (picks_row ps ∷ saying (rows_of rest)) (saying (rows_of rest))) (passed ps) ∙ hashes picks named ks)
  where
    passed : (ps : List Actor) → is_passed_over (picks_row ps) ≡ true
    passed ps = whole (codes "# " ++ picks_line ps)

all_say : (g : List Move) → All CanWrite g → (rows : List (List ℕ)) → saying rows ≡ [] → saying (map move_row g ++ rows) ≡ map move_row g
all_say [] w rows none = none
all_say (m ∷ g) w rows none =
    let rest = map move_row g ++ rows in
    ap (λ t. cond (not t) (move_row m ∷ saying rest) (saying rest)) (unpassed m (All-head CanWrite m g w))
    ∙ ap (λ (xs : List (List ℕ)). move_row m ∷ xs) (all_say g (All-tail CanWrite m g w) rows none)

-- ---- the entries that they say

eqb-turned : (a b : ℕ) → eqb a b ≡ eqb b a
eqb-turned a b = grind (arith, nat_tests)

said_more : (xs : List LineEntry) (m : Move) (line : LineNo) → entries_on (xs ++ m ∷ []) line ≡ entries_on xs line ++ cond (eqb m.0.0 line.0) (m.1 ∷ []) []
said_more [] m line = by (eqb m.0.0 line.0)
  where
    by : (t : Bool) → map (λ (x : LineEntry). x.1) (cond t (m ∷ []) []) ≡ cond t (m.1 ∷ []) []
    by true = refl
    by false = refl
said_more (x ∷ xs) m line = by (eqb x.0.0 line.0) (said_more xs m line)
  where
    by : (t : Bool) → entries_on (xs ++ m ∷ []) line ≡ entries_on xs line ++ cond (eqb m.0.0 line.0) (m.1 ∷ []) []
        → map (λ (y : LineEntry). y.1) (cond t (x ∷ filter (λ (y : LineEntry). eqb y.0.0 line.0) (xs ++ m ∷ []))
        (filter (λ (y : LineEntry). eqb y.0.0 line.0) (xs ++ m ∷ [])))
        ≡ map (λ (y : LineEntry). y.1) (cond t (x ∷ filter (λ (y : LineEntry). eqb y.0.0 line.0) xs) (filter (λ (y : LineEntry). eqb y.0.0 line.0) xs))
        ++ cond (eqb m.0.0 line.0) (m.1 ∷ []) []
    by true more = ap (λ (es : List Entry). x.1 ∷ es) more
    by false more = more

-- oldest first they are the line's part
said_part : (line : LineNo) (g : List Move) → entries_on (reverse g) line ≡ reverse (part line g)
said_part line [] = refl
said_part line (m ∷ g) =
    ap (λ (xs : List LineEntry). entries_on xs line) (reverse-append (m ∷ []) g)
    ∙ (said_more (reverse g) m line
    ∙ (ap (λ (es : List Entry). es ++ cond (eqb m.0.0 line.0) (m.1 ∷ []) []) (said_part line g)
    ∙ (ap (λ t. reverse (part line g) ++ cond t (m.1 ∷ []) []) (eqb-turned m.0.0 line.0) ∙ by (same_line line m.0))))
  where
    by : (t : Bool) → reverse (part line g) ++ cond t (m.1 ∷ []) [] ≡ reverse (cond t (m.1 ∷ part line g) (part line g))
    by true = sym (reverse-append (m.1 ∷ []) (part line g))
    by false = append-nil (reverse (part line g))

-- ---- the lines

pub of_all : {X : Type 0} (P : X → Type 0) (xs : List X) (i : ℕ) (x : X) → All P xs → slice_get xs i ≡ Some x → P x
of_all P [] i x each at = cc
of_all P (y ∷ ys) zero x each at = let same : y ≡ x = cc in subst P same (All-head P y ys each)
of_all P (y ∷ ys) (suc i) x each at = of_all P ys i x (All-tail P y ys each) at

module _ (b : BoardSeen) (board : IsBoard b) where
  -- a move's line is the board's
  declared : (lines : List BoardLine) → AreKept b lines → (place : ℕ) (x : BoardLine) → slice_get lines place ≡ Some x → has_line b.lines x.def.line ≡ true
  declared lines k place x at =
      let o = def_of_row b place x.def (def_at b lines k place x at) in
      present b.lines x.def.line o.place (o.row, o.at, ap (λ (d : LineDef). d.line) o.is)

  all_declared : (picks : List Actor) (g : List Move) → ArePicked b picks g → All (λ m. has_line b.lines m.0 ≡ true) g
  all_declared [] [] picked = All-nil (λ m. has_line b.lines m.0 ≡ true)
  all_declared [] (m ∷ g) picked = absurd picked
  all_declared (a ∷ picks) [] picked = absurd picked
  all_declared (a ∷ picks) (m ∷ g) picked =
      let on = moves_on b (lines_of b g) a m picked.1 in
      All-cons (λ m. has_line b.lines m.0 ≡ true) m g
      (ap (has_line b.lines) on.number ∙ declared (lines_of b g) (kept b board picks g picked.0) on.place on.line on.at)
      (all_declared picks g picked.0)

  -- the log may have each of the rows, if the board has what its version has
  its_rows : IsOfItsVersion b → (lines : List BoardLine) → AreKept b lines → (place : ℕ) (x : BoardLine) → slice_get lines place ≡ Some x
      → (a : Actor) (e : Entry) → next_past x.def x.past a ≡ Some e → may_have b.version e ≡ true
  its_rows own lines k place x at a e due = by (has_runs b.version) refl
    where
      by : (t : Bool) → has_runs b.version ≡ t → may_have b.version e ≡ true
      by true is = ap (λ r. r || not (needs_runs e)) is
      by false is =
          let o = def_of_row b place x.def (def_at b lines k place x at) in
          let there : slice_get (line_defs_of b) o.place ≡ Some x.def =
          slice_get-map (line_of_row b) b.lines o.place ∙ (ap (option_map (line_of_row b)) o.at ∙ ap (λ (d : LineDef). Some d) o.is) in
          let old = of_all HasOldRows (line_defs_of b) o.place x.def (own is) there in
          may_have_row x.def old b.version e x.past (k.legal place x at) (ap (next_past x.def x.past) (due_is_own_past x.def x.past a e due) ∙ due)

  all_rows : IsOfItsVersion b → (picks : List Actor) (g : List Move) → ArePicked b picks g → All (λ m. may_have b.version m.1 ≡ true) g
  all_rows own [] [] picked = All-nil (λ m. may_have b.version m.1 ≡ true)
  all_rows own [] (m ∷ g) picked = absurd picked
  all_rows own (a ∷ picks) [] picked = absurd picked
  all_rows own (a ∷ picks) (m ∷ g) picked =
      let on = moves_on b (lines_of b g) a m picked.1 in
      All-cons (λ m. may_have b.version m.1 ≡ true) m g
      (its_rows own (lines_of b g) (kept b board picks g picked.0) on.place on.line on.at a m.1 on.due)
      (all_rows own picks g picked.0)

  -- a line that takes no part has no move
  none_moved : (line : LineNo) → ((lines : List BoardLine) → AreKept b lines → find_line lines line ≡ None) → (picks : List Actor) (g : List Move)
      → ArePicked b picks g → part line g ≡ []
  none_moved line apart [] [] picked = refl
  none_moved line apart [] (m ∷ g) picked = absurd picked
  none_moved line apart (a ∷ picks) [] picked = absurd picked
  none_moved line apart (a ∷ picks) (m ∷ g) picked =
      let k = kept b board picks g picked.0 in
      let on = moves_on b (lines_of b g) a m picked.1 in
      let there = find_there (lines_of b g) (apart_kept b board (lines_of b g) k) on.place on.line on.at in
      by k on.line on.number there (none_moved line apart picks g picked.0) (same_line line m.0) refl
    where
      by : AreKept b (lines_of b g) → (x : BoardLine) → m.0 ≡ x.def.line → find_line (lines_of b g) x.def.line ≡ Some x → part line g ≡ []
          → (t : Bool) → same_line line m.0 ≡ t → cond t (m.1 ∷ part line g) (part line g) ≡ []
      by k x number there rest true same =
          let its : line ≡ x.def.line = line_from_same line m.0 same ∙ number in
          let none : find_line (lines_of b g) x.def.line ≡ None = ap (find_line (lines_of b g)) (sym its) ∙ apart (lines_of b g) k in
          let never : ⊥ = none-some x (sym none ∙ there) in absurd never
      by k x number there rest false same = rest

  module _ (own : IsOfItsVersion b) (picks : List Actor) (g : List Move) (picked : ArePicked b (reverse picks) (reverse g)) (writable : All CanWrite g)
      (named : All IsNameable picks) where
    abbrev lines : List BoardLine
    lines = lines_of b (reverse g)

    are_kept : AreKept b lines
    are_kept = kept b board (reverse picks) (reverse g) picked

    said_of : (line : LineNo) → entries_on g line ≡ reverse (part line (reverse g))
    said_of line = ap (λ (h : List Move). entries_on h line) (sym (reverse-reverse g)) ∙ said_part line (reverse g)

    -- a line that takes part
    its_entries : (line : LineNo) (x : BoardLine) → find_line lines line ≡ Some x → entries_on g line ≡ entries_in lines line
    its_entries line x is =
        let f = found lines line x is in
        let past : x.past ≡ part line (reverse g)
        = past_at (defs_of b) (reverse g) f.place x f.at ∙ ap (λ (l : LineNo). part l (reverse g)) (sym f.number) in
        said_of line ∙ (ap (λ (p : List Entry). reverse p) (sym past) ∙ sym (ap entries_found is))

    judged : (i : ℕ) (row : LineRow) (placement : Placement) → slice_get b.lines i ≡ Some row → slice_get (layout_of b) i ≡ Some placement
        → JudgedLine b row placement (entries_on g row.line) None
    judged i row (placements.Mapped virq path) at placed =
        let laid : is_mapped_at (slice_get (layout_of b) i) ≡ true = ap is_mapped_at placed in
        let h = line_laid b board lines are_kept i row at laid in
        let here : find_line lines row.line ≡ Some h.line
        = ap (λ (d : LineDef). find_line lines d.line) (sym h.is) ∙ find_there lines (apart_kept b board lines are_kept) h.place h.line h.at in
        subst (λ (es : List Entry). IsLegal (line_of_row b row) es) (sym (its_entries row.line h.line here)) (legal_row b board lines are_kept i row at laid)
    judged i row (placements.Refused why) at placed =
        let apart : (ls : List BoardLine) → AreKept b ls → find_line ls row.line ≡ None
        = λ ls k. takes_no_part b board ls k.defs i row at (ap is_mapped_at placed) in
        said_of row.line ∙ ap (λ (p : List Entry). reverse p) (none_moved row.line apart (reverse picks) (reverse g) picked)

    abbrev log_of : LineRow → HistorySeen
    log_of row = record { entries = entries_on g row.line; spare = 0 }

    verdict : (i : ℕ) → i < length b.lines → JudgedAt b (logs_of b.lines g) i None
    verdict i lt row placement history at placed there =
        let same : log_of row ≡ history = same_Some (log_of row) history (sym (slice_get-map log_of b.lines i ∙ ap (option_map log_of) at) ∙ there) in
        subst (λ (h : HistorySeen). JudgedLine b row placement h.entries None) same (judged i row placement at placed)

    rows_on : (h : List Move) → All CanWrite h → All (λ m. has_line b.lines m.0 ≡ true) h → All (λ m. may_have b.version m.1 ≡ true) h
        → AllZip (IsRowOn b) (map move_row h) h
    rows_on [] w d v = tt
    rows_on (m ∷ h) w d v =
        let head = All-head CanWrite m h w in (
          record {
            formed = record { text = refl; number = head.0; writable = head.1 };
            allowed = All-head (λ m. may_have b.version m.1 ≡ true) m h v;
            declared = All-head (λ m. has_line b.lines m.0 ≡ true) m h d;
          },
          rows_on h (All-tail CanWrite m h w) (All-tail (λ m. has_line b.lines m.0 ≡ true) m h d) (All-tail (λ m. may_have b.version m.1 ≡ true) m h v),
        )

    entries_are : (rows : List LineRow) → entries_of (logs_of rows g) ≡ map (λ (row : LineRow). entries_on g row.line) rows
    entries_are [] = refl
    entries_are (row ∷ rows) = ap (λ (hs : List (List Entry)). entries_on g row.line ∷ hs) (entries_are rows)

    said : saying (rows_of (moves_text g ++ picks_text picks)) ≡ map move_row g
    said = ap saying (moves_rows g writable (picks_text picks))
        ∙ all_say g writable (rows_of (picks_text picks)) (hashes picks named (range_with_len 0 ((length picks + 23) / 24)))

    pub checks : ChecksLog b (moves_text g ++ picks_text picks) verdicts.Lawful
    checks = (
      logs_of b.lines g,
      record {
        said = g;
        each = subst (λ (rows : List (List ℕ)). AllZip (IsRowOn b) rows g) (sym said)
            (rows_on g writable (back (λ m. has_line b.lines m.0 ≡ true) (all_declared (reverse picks) (reverse g) picked))
            (back (λ m. may_have b.version m.1 ≡ true) (all_rows own (reverse picks) (reverse g) picked)));
        are = entries_are b.lines;
      },
      verdict,
    )
      where
        back : (P : Move → Type 0) → All P (reverse g) → All P g
        back P each = subst (All P) (reverse-reverse g) (turned P (reverse g) each)
