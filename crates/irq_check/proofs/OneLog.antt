-- The text of a log has one meaning: its rows tell one list of histories, or one row is the first
-- malformed one.
use Rattle.std.proofs.Common.{◌≡◌, ℕ, zero, suc, ◌-◌, ◌<◌, ◌≤◌, ◌⊎◌, inl, inr, Bool, true, false, not, cond, Some, List}
use Rattle.std.proofs.Common.{[], ◌∷◌, map, take, refl, sym, ap, subst, ◌∙◌, arith}
use Rattle.std.specs.List.{slice_get, AllZip, All}
use Rattle.std.proofs.lemmas.Bool.{cases_lt}
use Rattle.std.proofs.lemmas.List.Elements.{All-nil, All-cons, All-head, All-tail}
use Rattle.std.proofs.lemmas.Option.{same_Some}
use Rattle.board_def.specs.Seen.{BoardSeen}
use Rattle.board_def.specs.declared.rows.LineRow.{LineRow}
use Rattle.irq_base.specs.declared.entries.Entry.{Entry}
use Rattle.irq_base.specs.declared.numbers.LineNo.{LineNo}
use Rattle.log_text.proofs.RowLaws.{rows_tell}
use Rattle.log_read.specs.LogOf.{is_passed_over, LineEntry, IsRowOn, IsRow, saying, entries_on, Tell, IsFirstMalformed}

-- lists

at_place : {X : Type 0} (P : X → Type 0) (xs : List X) (i : ℕ) (x : X) → All P xs → slice_get xs i ≡ Some x → P x
at_place P [] i x all at = cc
at_place P (y ∷ ys) zero x all at = subst P (same_Some y x at) (All-head P y ys all)
at_place P (y ∷ ys) (suc i) x all at = at_place P ys i x (All-tail P y ys all) at

pub get_take : {X : Type 0} (xs : List X) (i j : ℕ) → i < j → slice_get (take j xs) i ≡ slice_get xs i
get_take [] i zero less = refl
get_take [] i (suc j) less = refl
get_take (x ∷ xs) i zero less = absurd (omega (arith, less))
get_take (x ∷ xs) zero (suc j) less = refl
get_take (x ∷ xs) (suc i) (suc j) less = get_take xs i j (omega (arith, less))

-- what rows tell

same_pair : (l m : LineNo) (e f : Entry) → l ≡ m → e ≡ f → ◌≡◌ {A = LineEntry} (l, e) (m, f)
same_pair l m e f same_line same_entry = cc

one_entry : (b : BoardSeen) (row : List ℕ) (s t : LineEntry) → IsRowOn b row s → IsRowOn b row t → s ≡ t
one_entry b row (l, e) (m, f) x y = let same = rows_tell row l m e f x.formed y.formed in same_pair l m e f same.0 same.1

one_said : (b : BoardSeen) (rows : List (List ℕ)) (said also : List LineEntry) → AllZip (IsRowOn b) rows said
    → AllZip (IsRowOn b) rows also → said ≡ also
one_said b [] [] [] x y = refl
one_said b [] (s ∷ said) also x y = absurd x
one_said b [] [] (t ∷ also) x y = absurd y
one_said b (row ∷ rows) [] also x y = absurd x
one_said b (row ∷ rows) (s ∷ said) [] x y = absurd y
one_said b (row ∷ rows) (s ∷ said) (t ∷ also) x y =
    ap (λ (u : LineEntry). u ∷ said) (one_entry b row s t x.0 y.0) ∙ ap (λ (us : List LineEntry). t ∷ us) (one_said b rows said also x.1 y.1)

pub one_history : (b : BoardSeen) (rows : List (List ℕ)) (hs ks : List (List Entry)) → Tell b rows hs → Tell b rows ks → hs ≡ ks
one_history b rows hs ks x y =
    x.are ∙ (ap (λ (said : List LineEntry). map (λ (row : LineRow). entries_on said row.line) b.lines)
    (one_said b (saying rows) x.said y.said x.each y.each) ∙ sym y.are)

-- rows that tell are in order

fine_by : (b : BoardSeen) (t : Bool) (row : List ℕ) (rows : List (List ℕ)) (said : List LineEntry) → is_passed_over row ≡ t
    → AllZip (IsRowOn b) (cond (not t) (row ∷ saying rows) (saying rows)) said
    → ((ss : List LineEntry) → AllZip (IsRowOn b) (saying rows) ss → All (IsRow b) rows) → All (IsRow b) (row ∷ rows)
fine_by b true row rows said is all rest = All-cons (IsRow b) row rows (inl is) (rest said all)
fine_by b false row rows [] is all rest = absurd all
fine_by b false row rows (s ∷ ss) is all rest = All-cons (IsRow b) row rows (inr (s, all.0)) (rest ss all.1)

fine : (b : BoardSeen) (rows : List (List ℕ)) (said : List LineEntry) → AllZip (IsRowOn b) (saying rows) said → All (IsRow b) rows
fine b [] said all = All-nil (IsRow b)
fine b (row ∷ rows) said all = fine_by b (is_passed_over row) row rows said refl all (λ ss. fine b rows ss)

pub not_malformed : (b : BoardSeen) (rows : List (List ℕ)) (hs : List (List Entry)) (n : ℕ) → Tell b rows hs → IsFirstMalformed b rows n → ⊥
not_malformed b rows hs n told bad = bad.malformed.2
    (at_place (IsRow b) rows (n - 1) bad.malformed.0 (fine b rows told.said told.each) bad.malformed.1)

-- one row is the first

earlier : (b : BoardSeen) (rows : List (List ℕ)) (m n : ℕ) → IsFirstMalformed b rows m → IsFirstMalformed b rows n → m < n → ⊥
earlier b rows m n x y less =
    let counted = x.counted in
    let below : m - 1 < n - 1 = omega (arith, counted, less) in
    x.malformed.2 (at_place (IsRow b) (take (n - 1) rows) (m - 1) x.malformed.0 y.before (get_take rows (m - 1) (n - 1) below ∙ x.malformed.1))

-- two numbers are equal if neither is below the other
pub neither_below : (m n : ℕ) → (m < n → ⊥) → (n < m → ⊥) → m ≡ n
neither_below m n not_less not_more = by (cases_lt m n) (cases_lt n m)
  where
    by : (m < n) ⊎ (n ≤ m) → (n < m) ⊎ (m ≤ n) → m ≡ n
    by (inl less) other = absurd (not_less less)
    by (inr no_less) (inl more) = absurd (not_more more)
    by (inr no_less) (inr no_more) = omega (arith, no_less, no_more)

pub one_row : (b : BoardSeen) (rows : List (List ℕ)) (m n : ℕ) → IsFirstMalformed b rows m → IsFirstMalformed b rows n → m ≡ n
one_row b rows m n x y = neither_below m n (earlier b rows m n x y) (earlier b rows n m y x)
