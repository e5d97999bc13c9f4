-- The rows so far, and the histories that they say.
use Rattle.std.proofs.Common.{◌≡◌, ℕ, zero, suc, ◌+◌, ◌-◌, ◌<◌, ◌≤◌, ◌⊎◌, inl, inr, Bool, true, false, not, ◌||◌}
use Rattle.std.proofs.Common.{cond, eqb, List, [], ◌∷◌, ◌++◌, length, map, take, drop, get_or, Some}
use Rattle.std.proofs.Common.{refl, sym, ap, subst, ◌∙◌, arith}
use Rattle.std.specs.List.{join_with_byte, slice_get, filter, AllZip, All}
use Rattle.std.specs.Prelude.{slice_set}
use Rattle.std.proofs.lemmas.Bool.{false≢true, and_parts, ne_eqb, cases_lt}
use Rattle.std.proofs.lemmas.Bool.Decides.{nat_tests}
use Rattle.std.proofs.lemmas.List.{append-nil, map-append, length-map, take-append-drop}
use Rattle.std.proofs.lemmas.List.Elements.{filter-append, All-nil, All-cons, All-head, All-tail, All-same}
use Rattle.std.proofs.lemmas.Option.{same_Some, slice_get_within}
use Rattle.board_def.specs.Rules.{IsBoard, has_line}
use Rattle.board_def.specs.Seen.{BoardSeen}
use Rattle.board_def.specs.declared.rows.LineRow.{LineRow}
use Rattle.irq_base.specs.Seen.{HistorySeen}
use Rattle.irq_base.specs.declared.entries.Entry.{Entry}
use Rattle.irq_base.specs.declared.numbers.LineNo.{LineNo}
use Rattle.log_text.proofs.RowLaws.{rows_tell}
use Rattle.log_text.proofs.Splitting.{row_words}
use Rattle.log_text.specs.Formed.{IsRowOf}
use Rattle.log_read.proofs.RowCutting.{whole_row}
use Rattle.log_read.specs.Adding.{Adds, AddsSaid, IsPlaceOf, Judges}
use Rattle.log_read.specs.Versions.{may_have}
use Rattle.log_read.specs.LogOf.{rows_of, onto_first, is_feed, is_whole, begins_with_hash, is_passed_over, LineEntry}
use Rattle.log_read.specs.LogOf.{IsRowOn, IsRow, saying, entries_on, Tell, IsFirstMalformed, entries_of}

-- lists

at_place : {X : Type 0} (P : X → Type 0) (xs : List X) (i : ℕ) (x : X) → All P xs → slice_get xs i ≡ Some x → P x
at_place P [] i x all at = cc
at_place P (y ∷ ys) zero x all at = subst P (same_Some y x at) (All-head P y ys all)
at_place P (y ∷ ys) (suc i) x all at = at_place P ys i x (All-tail P y ys all) at

get_take : {X : Type 0} (xs : List X) (i j : ℕ) → i < j → slice_get (take j xs) i ≡ slice_get xs i
get_take [] i zero less = refl
get_take [] i (suc j) less = refl
get_take (x ∷ xs) i zero less = absurd (omega (arith, less))
get_take (x ∷ xs) zero (suc j) less = refl
get_take (x ∷ xs) (suc i) (suc j) less = get_take xs i j (omega (arith, less))

pub get_drop : {X : Type 0} (xs : List X) (n : ℕ) (x : X) (tail : List X) → drop n xs ≡ x ∷ tail → slice_get xs n ≡ Some x
get_drop [] zero x tail h = cc
get_drop [] (suc n) x tail h = cc
get_drop (y ∷ ys) zero x tail h = ap (λ (zs : List _). slice_get zs 0) h
get_drop (y ∷ ys) (suc n) x tail h = get_drop ys n x tail h

take_suc : {X : Type 0} (xs : List X) (n : ℕ) (x : X) (tail : List X) → drop n xs ≡ x ∷ tail → take (suc n) xs ≡ take n xs ++ x ∷ []
take_suc [] zero x tail h = cc
take_suc [] (suc n) x tail h = cc
take_suc (y ∷ ys) zero x tail h = ap (λ (zs : List _). take 1 zs) h
take_suc (y ∷ ys) (suc n) x tail h = ap (λ zs. y ∷ zs) (take_suc ys n x tail h)

drop_suc : {X : Type 0} (xs : List X) (n : ℕ) (x : X) (tail : List X) → drop n xs ≡ x ∷ tail → drop (suc n) xs ≡ tail
drop_suc [] zero x tail h = cc
drop_suc [] (suc n) x tail h = cc
drop_suc (y ∷ ys) zero x tail h = ap (λ (zs : List _). drop 1 zs) h
drop_suc (y ∷ ys) (suc n) x tail h = drop_suc ys n x tail h

pub drop_next : {X : Type 0} (xs : List X) (n : ℕ) (x : X) (tail : List X) → drop n xs ≡ x ∷ tail → drop (n + 1) xs ≡ tail
drop_next xs n x tail h = let e : n + 1 ≡ suc n = omega arith in ap (λ m. drop m xs) e ∙ drop_suc xs n x tail h

pub take_next : {X : Type 0} (xs : List X) (n : ℕ) (x : X) (tail : List X) → drop n xs ≡ x ∷ tail → take (n + 1) xs ≡ take n xs ++ x ∷ []
take_next xs n x tail h = let e : n + 1 ≡ suc n = omega arith in ap (λ m. take m xs) e ∙ take_suc xs n x tail h

-- a board's lines

rising : (b : BoardSeen) (i j : ℕ) (x y : LineRow) → IsBoard b → slice_get b.lines i ≡ Some x → slice_get b.lines j ≡ Some y → i < j → x.line.0 < y.line.0
rising b i j x y board atx aty less =
    at_place (λ (e : LineRow). e.line.0 < y.line.0) (take j b.lines) i x (board.lines j y aty).rises (get_take b.lines i j less ∙ atx)

-- no other line has its number
pub other_line : (b : BoardSeen) (i place : ℕ) (x row : LineRow) → IsBoard b → slice_get b.lines i ≡ Some x
    → slice_get b.lines place ≡ Some row → (i ≡ place → ⊥) → eqb row.line.0 x.line.0 ≡ false
other_line b i place x row board atx at differ = by (order i place)
  where
    order : (m n : ℕ) → (m < n) ⊎ (n ≤ m)
    order m n = cases_lt m n

    by : (i < place) ⊎ (place ≤ i) → eqb row.line.0 x.line.0 ≡ false
    by (inl less) = let n = rising b i place x row board atx at less in ne_eqb row.line.0 x.line.0 (λ same. omega (arith, n, same))
    by (inr more) =
        let above : place < i = omega (arith, more, differ) in
        let n = rising b place i row x board at atx above in ne_eqb row.line.0 x.line.0 (λ same. omega (arith, n, same))

abbrev line_no : ℕ → LineNo
line_no n = record { 0 = n }

pub present : (lines : List LineRow) (line : LineNo) (place : ℕ) → IsPlaceOf lines line place → has_line lines line ≡ true
present [] line place at = cc
present (row ∷ rows) line zero at =
    let same : row.line ≡ line = ap (λ (r : LineRow). r.line) (same_Some row at.0 at.1) ∙ at.2 in
    ap (λ t. t || has_line rows line) (ap (λ (l : LineNo). eqb l.0 line.0) same ∙ equals line.0)
  where
    equals : (n : ℕ) → eqb n n ≡ true
    equals n = grind (arith, nat_tests)
present (row ∷ rows) line (suc place) at = ap (λ t. eqb row.line.0 line.0 || t) (present rows line place at) ∙ or_true (eqb row.line.0 line.0)
  where
    or_true : (t : Bool) → (t || true) ≡ true
    or_true true = refl
    or_true false = refl

-- histories

module _ {X : Type 0} (f g : X → List Entry) (e : Entry) where
  same_all : (xs : List X) → ((i : ℕ) (x : X) → slice_get xs i ≡ Some x → g x ≡ f x) → map f xs ≡ map g xs
  same_all [] h = refl
  same_all (x ∷ xs) h = ap (λ es. es ∷ map f xs) (sym (h 0 x refl)) ∙ ap (λ ess. g x ∷ ess) (same_all xs (λ i y at. h (suc i) y at))

  one_changed : (xs : List X) (place : ℕ) → place < length xs
      → ((i : ℕ) (x : X) → slice_get xs i ≡ Some x → i ≡ place → g x ≡ f x ++ e ∷ [])
      → ((i : ℕ) (x : X) → slice_get xs i ≡ Some x → (i ≡ place → ⊥) → g x ≡ f x)
      → slice_set (map f xs) place (get_or (map f xs) place [] ++ e ∷ []) ≡ map g xs
  one_changed [] place within there elsewhere = absurd (omega (arith, within))
  one_changed (x ∷ xs) zero within there elsewhere =
      ap (λ es. es ∷ map f xs) (sym (there 0 x refl refl))
      ∙ ap (λ ess. g x ∷ ess) (same_all xs (λ i y at. elsewhere (suc i) y at (λ same. omega (arith, same))))
  one_changed (x ∷ xs) (suc place) within there elsewhere =
      ap (λ es. es ∷ slice_set (map f xs) place (get_or (map f xs) place [] ++ e ∷ [])) (sym (elsewhere 0 x refl (λ same. omega (arith, same))))
      ∙ ap (λ ess. g x ∷ ess) (one_changed xs place (omega (arith, within))
      (λ i y at same. there (suc i) y at (ap suc same))
      (λ i y at differ. elsewhere (suc i) y at (λ same. differ (omega (arith, same)))))

pub adds : (logs : List HistorySeen) (place : ℕ) (e : Entry) (h new : HistorySeen) → slice_get logs place ≡ Some h
    → new.entries ≡ h.entries ++ e ∷ [] → Adds place e (entries_of logs) (entries_of (slice_set logs place new))
adds [] place e h new at is = cc
adds (x ∷ xs) zero e h new at is = ap (λ es. es ∷ entries_of xs) (is ∙ ap (λ (y : HistorySeen). y.entries ++ e ∷ []) (sym (same_Some x h at)))
adds (x ∷ xs) (suc place) e h new at is = ap (λ ess. x.entries ∷ ess) (adds xs place e h new at is)

pub more_on : (said : List LineEntry) (s : LineEntry) (line : LineNo) → entries_on (said ++ s ∷ []) line ≡ entries_on said line ++ entries_on (s ∷ []) line
more_on said s line =
    ap (λ (xs : List LineEntry). map (λ (x : LineEntry). x.1) xs) (filter-append (λ (x : LineEntry). eqb x.0.0 line.0) said (s ∷ []))
    ∙ map-append (λ (x : LineEntry). x.1) (filter (λ (x : LineEntry). eqb x.0.0 line.0) said) (filter (λ (x : LineEntry). eqb x.0.0 line.0) (s ∷ []))

pub on_own : (s : LineEntry) (line : LineNo) → eqb s.0.0 line.0 ≡ true → entries_on (s ∷ []) line ≡ s.1 ∷ []
on_own s line h = ap (λ t. map (λ (x : LineEntry). x.1) (cond t (s ∷ []) [])) h

pub on_other : (s : LineEntry) (line : LineNo) → eqb s.0.0 line.0 ≡ false → entries_on (s ∷ []) line ≡ []
on_other s line h = ap (λ t. map (λ (x : LineEntry). x.1) (cond t (s ∷ []) [])) h

-- what the rows tell

pub zip_push : {A B : Type 0} (R : A → B → Type 0) (xs : List A) (ys : List B) (x : A) (y : B) → AllZip R xs ys → R x y → AllZip R (xs ++ x ∷ []) (ys ++ y ∷ [])
zip_push R [] [] x y all r = (r, tt)
zip_push R [] (z ∷ ys) x y all r = absurd all
zip_push R (z ∷ xs) [] x y all r = absurd all
zip_push R (w ∷ xs) (z ∷ ys) x y all r = (all.0, zip_push R xs ys x y all.1 r)

pub tell_none : (b : BoardSeen) (histories : List (List Entry)) → histories ≡ map (λ (row : LineRow). []) b.lines → Tell b [] histories
tell_none b histories h = record { said = []; each = tt; are = h }

abbrev says : List ℕ → Bool
says row = not (is_passed_over row)

tell_passed : (b : BoardSeen) (rows : List (List ℕ)) (row : List ℕ) (histories : List (List Entry))
    → Tell b rows histories → is_passed_over row ≡ true → Tell b (rows ++ row ∷ []) histories
tell_passed b rows row histories told passed =
    let same : saying (rows ++ row ∷ []) ≡ saying rows =
    filter-append says rows (row ∷ []) ∙ (ap (λ t. saying rows ++ cond (not t) (row ∷ []) []) passed ∙ append-nil (saying rows)) in
    record { said = told.said; each = subst (λ rs. AllZip (IsRowOn b) rs told.said) (sym same) told.each; are = told.are }

module _ (b : BoardSeen) (board : IsBoard b) where
  changed : (said : List LineEntry) (s : LineEntry) (place : ℕ) → IsPlaceOf b.lines s.0 place
      → slice_set (map (λ (row : LineRow). entries_on said row.line) b.lines) place
      (get_or (map (λ (row : LineRow). entries_on said row.line) b.lines) place [] ++ s.1 ∷ [])
      ≡ map (λ (row : LineRow). entries_on (said ++ s ∷ []) row.line) b.lines
  changed said s place at =
      one_changed (λ (row : LineRow). entries_on said row.line)
      (λ (row : LineRow). entries_on (said ++ s ∷ []) row.line) s.1 b.lines place
      (slice_get_within b.lines place at.0 at.1)
      (λ i x atx same. more_on said s x.line ∙ ap (λ es. entries_on said x.line ++ es) (on_own s x.line (own i x atx same)))
      (λ i x atx differ. more_on said s x.line ∙ (ap (λ es. entries_on said x.line ++ es)
      (on_other s x.line (other i x atx differ)) ∙ append-nil (entries_on said x.line)))
    where
      equals : (n : ℕ) → eqb n n ≡ true
      equals n = grind (arith, nat_tests)

      own : (i : ℕ) (x : LineRow) → slice_get b.lines i ≡ Some x → i ≡ place → eqb s.0.0 x.line.0 ≡ true
      own i x atx same =
          let row : x ≡ at.0 = same_Some x at.0 (sym atx ∙ (ap (λ j. slice_get b.lines j) same ∙ at.1)) in
          ap (λ (l : LineNo). eqb s.0.0 l.0) (ap (λ (r : LineRow). r.line) row ∙ at.2) ∙ equals s.0.0

      other : (i : ℕ) (x : LineRow) → slice_get b.lines i ≡ Some x → (i ≡ place → ⊥) → eqb s.0.0 x.line.0 ≡ false
      other i x atx differ = ap (λ (l : LineNo). eqb l.0 x.line.0) (sym at.2) ∙ other_line b i place x at.0 board atx at.1 differ

  tell_more : (rows : List (List ℕ)) (row : List ℕ) (old new : List (List Entry)) → Tell b rows old
      → AddsSaid b row old new → Tell b (rows ++ row ∷ []) new
  tell_more rows row old new told (s, place, on, unpassed, at, added) =
      let same : saying (rows ++ row ∷ []) ≡ saying rows ++ row ∷ [] =
      filter-append says rows (row ∷ []) ∙ ap (λ t. saying rows ++ cond (not t) (row ∷ []) []) unpassed in
      record {
        said = told.said ++ s ∷ [];
        each = subst (λ rs. AllZip (IsRowOn b) rs (told.said ++ s ∷ [])) (sym same)
            (zip_push (IsRowOn b) (saying rows) told.said row s told.each on);
        are = added ∙ (ap (λ (o : List (List Entry)). slice_set o place (get_or o place [] ++ s.1 ∷ [])) told.are ∙ changed told.said s place at);
      }

  pub tell_next : (rows : List (List ℕ)) (n : ℕ) (row : List ℕ) (tail : List (List ℕ)) (old new : List (List Entry)) → drop n rows ≡ row ∷ tail
      → Tell b (take n rows) old → Judges b row true old new → Tell b (take (n + 1) rows) new
  tell_next rows n row tail old new at told (inl passed) =
      subst (λ rs. Tell b rs new) (sym (take_next rows n row tail at))
      (tell_passed b (take n rows) row new (subst (λ o. Tell b (take n rows) o) (sym passed.1) told) passed.0)
  tell_next rows n row tail old new at told (inr said) =
      subst (λ rs. Tell b rs new) (sym (take_next rows n row tail at)) (tell_more (take n rows) row old new told said)

-- rows that tell are in order

fine_by : (b : BoardSeen) (t : Bool) (row : List ℕ) (rows : List (List ℕ)) (said : List LineEntry) → is_passed_over row ≡ t
    → AllZip (IsRowOn b) (cond (not t) (row ∷ saying rows) (saying rows)) said
    → ((ss : List LineEntry) → AllZip (IsRowOn b) (saying rows) ss → All (IsRow b) rows) → All (IsRow b) (row ∷ rows)
fine_by b true row rows said is all rest = All-cons (IsRow b) row rows (inl is) (rest said all)
fine_by b false row rows [] is all rest = absurd all
fine_by b false row rows (s ∷ ss) is all rest = All-cons (IsRow b) row rows (inr (s, all.0)) (rest ss all.1)

fine : (b : BoardSeen) (rows : List (List ℕ)) (said : List LineEntry) → AllZip (IsRowOn b) (saying rows) said → All (IsRow b) rows
fine b [] said all = All-nil (IsRow b)
fine b (row ∷ rows) said all = fine_by b (is_passed_over row) row rows said refl all (λ ss. fine b rows ss)

pub unended_row : (b : BoardSeen) (row : List ℕ) → is_whole row ≡ false → IsRow b row → ⊥
unended_row b row unended (inl passed) = false≢true (sym unended ∙ (and_parts (begins_with_hash row) (is_whole row) passed).1)
unended_row b row unended (inr (said, on)) = false≢true
    (sym unended ∙ (ap is_whole on.formed.text ∙ whole_row (join_with_byte 32 (row_words said.0 said.1))))

pub first_malformed : (b : BoardSeen) (rows : List (List ℕ)) (n : ℕ) (row : List ℕ) (tail : List (List ℕ))
    (histories : List (List Entry)) → drop n rows ≡ row ∷ tail
    → Tell b (take n rows) histories → (IsRow b row → ⊥) → IsFirstMalformed b rows (n + 1)
first_malformed b rows n row tail histories at told wrong =
    let e : n + 1 - 1 ≡ n = omega arith in
    record {
      counted = omega arith;
      before = All-same (IsRow b) (take (n + 1 - 1) rows) (take n rows) (ap (λ m. take m rows) e) (fine b (take n rows) told.said told.each);
      malformed = (row, ap (λ m. slice_get rows m) e ∙ get_drop rows n row tail at, wrong);
    }

-- histories are no longer than the text

short_if : (t : Bool) (s : LineEntry) (rest : List LineEntry) (n : ℕ) → length (map (λ (x : LineEntry). x.1) rest) ≤ n
    → length (map (λ (x : LineEntry). x.1) (cond t (s ∷ rest) rest)) ≤ suc n
short_if true s rest n h = omega (arith, h)
short_if false s rest n h = omega (arith, h)

pub short_on : (said : List LineEntry) (line : LineNo) → length (entries_on said line) ≤ length said
short_on [] line = omega arith
short_on (s ∷ said) line = short_if (eqb s.0.0 line.0) s (filter (λ (x : LineEntry). eqb x.0.0 line.0) said) (length said) (short_on said line)

pub zip_short : {A B : Type 0} (R : A → B → Type 0) (xs : List A) (ys : List B) → AllZip R xs ys → length ys ≤ length xs
zip_short R [] [] all = omega arith
zip_short R [] (y ∷ ys) all = absurd all
zip_short R (x ∷ xs) [] all = absurd all
zip_short R (x ∷ xs) (y ∷ ys) all = let rest = zip_short R xs ys all.1 in omega (arith, rest)

few_if : (t : Bool) (row : List ℕ) (rest : List (List ℕ)) (n : ℕ) → length rest ≤ n → length (cond t (row ∷ rest) rest) ≤ suc n
few_if true row rest n h = omega (arith, h)
few_if false row rest n h = omega (arith, h)

pub few_saying : (rows : List (List ℕ)) → length (saying rows) ≤ length rows
few_saying [] = omega arith
few_saying (row ∷ rows) = few_if (not (is_passed_over row)) row (saying rows) (length rows) (few_saying rows)

onto_few : (b : ℕ) (rows : List (List ℕ)) (n : ℕ) → length rows ≤ n → length (onto_first b rows) ≤ suc n
onto_few b [] n h = omega (arith, h)
onto_few b (row ∷ rows) n h = omega (arith, h)

row_if : (t : Bool) (b : ℕ) (rows : List (List ℕ)) (n : ℕ) → length rows ≤ n → length (cond t ((b ∷ []) ∷ rows) (onto_first b rows)) ≤ suc n
row_if true b rows n h = omega (arith, h)
row_if false b rows n h = onto_few b rows n h

few_rows : (text : List ℕ) → length (rows_of text) ≤ length text
few_rows [] = omega arith
few_rows (b ∷ bs) = row_if (is_feed b) b (rows_of bs) (length bs) (few_rows bs)

all_short : {X : Type 0} (f : X → List Entry) (xs : List X) (n : ℕ) → ((x : X) → length (f x) ≤ n) → All (λ (es : List Entry). length es ≤ n) (map f xs)
all_short f [] n h = All-nil _
all_short f (x ∷ xs) n h = All-cons (λ (es : List Entry). length es ≤ n) (f x) (map f xs) (h x) (all_short f xs n h)

unmapped : (logs : List HistorySeen) (n : ℕ) → All (λ (es : List Entry). length es ≤ n) (entries_of logs) → All (λ (h : HistorySeen). length h.entries ≤ n) logs
unmapped [] n all = All-nil _
unmapped (h ∷ logs) n all =
    All-cons (λ (h : HistorySeen). length h.entries ≤ n) h logs (All-head (λ (es : List Entry). length es ≤ n) h.entries (entries_of logs) all)
    (unmapped logs n (All-tail (λ (es : List Entry). length es ≤ n) h.entries (entries_of logs) all))

pub short_logs : (b : BoardSeen) (text : List ℕ) (logs : List HistorySeen)
    → Tell b (rows_of text) (entries_of logs) → All (λ (h : HistorySeen). length h.entries ≤ length text) logs
short_logs b text logs told =
    let a = zip_short (IsRowOn b) (saying (rows_of text)) told.said told.each in
    let f = few_saying (rows_of text) in
    let c = few_rows text in
    unmapped logs (length text) (All-same (λ (es : List Entry). length es ≤ length text) (entries_of logs) _ told.are
    (all_short (λ (row : LineRow). entries_on told.said row.line) b.lines (length text)
    (λ row. let d = short_on told.said row.line in omega (arith, a, f, c, d))))

pub as_many : (b : BoardSeen) (rows : List (List ℕ)) (logs : List HistorySeen) → Tell b rows (entries_of logs) → length logs ≡ length b.lines
as_many b rows logs told =
    sym (length-map logs (λ (h : HistorySeen). h.entries)) ∙ (ap length told.are ∙ length-map b.lines (λ (row : LineRow). entries_on told.said row.line))

-- an empty history for each line

abbrev no_entries : LineRow → List Entry
no_entries row = []

emptied : (lines : List LineRow) (n : ℕ) → n < length lines → map no_entries (take (suc n) lines) ≡ map no_entries (take n lines) ++ [] ∷ []
emptied [] n less = absurd (omega (arith, less))
emptied (row ∷ rows) zero less = refl
emptied (row ∷ rows) (suc n) less = ap (λ (ess : List (List Entry)). [] ∷ ess) (emptied rows n (omega (arith, less)))

pub empty_more : (lines : List LineRow) (n : ℕ) (logs new : List HistorySeen) (h : HistorySeen) → n < length lines
    → entries_of logs ≡ map no_entries (take n lines)
    → h.entries ≡ [] → new ≡ logs ++ h ∷ [] → entries_of new ≡ map no_entries (take (n + 1) lines)
empty_more lines n logs new h less so_far none is =
    let e : n + 1 ≡ suc n = omega arith in
    ap entries_of is
    ∙ (map-append (λ (x : HistorySeen). x.entries) logs (h ∷ [])
    ∙ (ap (λ (es : List Entry). entries_of logs ++ es ∷ []) none
    ∙ (ap (λ (ess : List (List Entry)). ess ++ [] ∷ []) so_far
    ∙ (sym (emptied lines n less) ∙ ap (λ m. map no_entries (take m lines)) (sym e)))))

-- a row of a line that isn't the board's

pub undeclared : (b : BoardSeen) (row : List ℕ) (line : LineNo) (e : Entry) → IsRowOf row line e
    → has_line b.lines line ≡ false → is_passed_over row ≡ false → IsRow b row → ⊥
undeclared b row line e is unknown unpassed (inl passed) = false≢true (sym unpassed ∙ passed)
undeclared b row line e is unknown unpassed (inr (said, on)) =
    let same = (rows_tell row said.0 line said.1 e on.formed is).0 in
    false≢true (sym unknown ∙ (ap (has_line b.lines) (sym same) ∙ on.declared))

-- a row that only later versions have
pub unallowed : (b : BoardSeen) (row : List ℕ) (line : LineNo) (e : Entry) → IsRowOf row line e
    → may_have b.version e ≡ false → is_passed_over row ≡ false → IsRow b row → ⊥
unallowed b row line e is other unpassed (inl passed) = false≢true (sym unpassed ∙ passed)
unallowed b row line e is other unpassed (inr (said, on)) =
    let same = (rows_tell row said.0 line said.1 e on.formed is).1 in
    false≢true (sym other ∙ (ap (may_have b.version) (sym same) ∙ on.allowed))

pub judged_wrong : (b : BoardSeen) (row : List ℕ) (t : Bool) (old new : List (List Entry)) → t ≡ false → Judges b row t old new → IsRow b row → ⊥
judged_wrong b row true old new h judged = absurd (false≢true (sym h))
judged_wrong b row false old new h judged = judged

pub judged_fine : (b : BoardSeen) (row : List ℕ) (t : Bool) (old new : List (List Entry)) → t ≡ true
    → Judges b row t old new → Judges b row true old new
judged_fine b row true old new h judged = judged
judged_fine b row false old new h judged = absurd (false≢true h)

-- no row is left

pub all_taken : {X : Type 0} (xs : List X) (n : ℕ) → drop n xs ≡ [] → take n xs ≡ xs
all_taken xs n h = sym (append-nil (take n xs)) ∙ (ap (λ (ys : List _). take n xs ++ ys) (sym h) ∙ take-append-drop n xs)

pub all_told : (b : BoardSeen) (text rest : List ℕ) (n : ℕ) (logs : List HistorySeen) → rows_of rest ≡ drop n (rows_of text) → length rest ≡ 0
    → Tell b (take n (rows_of text)) (entries_of logs) → Tell b (rows_of text) (entries_of logs)
all_told b text [] n logs left none told = subst (λ rows. Tell b rows (entries_of logs)) (all_taken (rows_of text) n (sym left)) told
all_told b text (c ∷ cs) n logs left none told = absurd (omega (arith, none))
