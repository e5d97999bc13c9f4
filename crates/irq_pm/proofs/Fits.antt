-- Which boards can sleep, read row by row.
use Rattle.std.proofs.Common.{◌≡◌, ℕ, zero, suc, ◌+◌, ◌≤◌, ◌==◌, Bool, true, false, not, ◌||◌, ◌&&◌, cond, Some, List}
use Rattle.std.proofs.Common.{[], ◌∷◌, ◌++◌, All, map, length, drop, slice_get, refl, sym, ap, ap₂, ◌∙◌, arith}
use Rattle.std.proofs.Common.{length-append, leb-true, nat_lt, nat_le}
use Rattle.std.proofs.Math.ListN.{length-map}
use Rattle.std.proofs.lemmas.List.Elements.{All-append, All-map, All-nil}
use Rattle.std.proofs.lemmas.Bool.{and_parts}
use Rattle.std.proofs.lemmas.List.{append_assoc}
use Rattle.std.specs.List.{list_any}
use Rattle.irq_base.specs.declared.numbers.LineNo.{LineNo}
use Rattle.irq_laws.proofs.Chosen.{the_same}
use Rattle.board_def.specs.Layout.{layout_of}
use Rattle.board_def.specs.Rules.{IsBoard, has_driver, has_line}
use Rattle.board_def.proofs.Rising.{head_of, tail_of, all_of, equals_itself}
use Rattle.board_def.specs.Seen.{BoardSeen}
use Rattle.board_def.specs.declared.rows.LineRow.{LineRow}
use Rattle.board_driver.specs.Longer.{IsOfALine, last_driver}
use Rattle.board_play.specs.Lines.{mapped}
use Rattle.domain_rules.specs.Layout.{is_mapped}
use Rattle.domain_rules.specs.declared.layouts.Placement.{Placement}
use Rattle.irq_pm.specs.SleptBoard.{is_mapped_at, live_rows, disable_of, enable_of, sleep_script, can_wake, wakes_row, has_room_for_sleep}

-- the rows that are left from a place on
abbrev pub live_from : BoardSeen → ℕ → List LineRow
live_from b i = mapped (drop i b.lines) (drop i (layout_of b))

none_mapped : (rows : List LineRow) → mapped rows [] ≡ []
none_mapped [] = refl
none_mapped (r ∷ rs) = refl

next_mapped : (rows : List LineRow) (places : List Placement) (i : ℕ) (row : LineRow) → slice_get rows i ≡ Some row
    → mapped (drop i rows) (drop i places) ≡ cond (is_mapped_at (slice_get places i))
    (row ∷ mapped (drop (suc i) rows) (drop (suc i) places)) (mapped (drop (suc i) rows) (drop (suc i) places))
next_mapped [] places i row at = cc
next_mapped (r ∷ rs) [] zero row at = sym (none_mapped rs)
next_mapped (r ∷ rs) (p ∷ ps) zero row at = ap (λ (x : LineRow). cond (is_mapped p) (x ∷ mapped rs ps) (mapped rs ps)) (the_same r row at)
next_mapped (r ∷ rs) [] (suc i) row at = none_mapped (drop i rs) ∙ sym (none_mapped (drop (suc i) rs))
next_mapped (r ∷ rs) (p ∷ ps) (suc i) row at = next_mapped rs ps i row at

-- one row more, which takes part or not
pub next_live : (b : BoardSeen) (i : ℕ) (row : LineRow) → slice_get b.lines i ≡ Some row
    → live_from b i ≡ cond (is_mapped_at (slice_get (layout_of b) i)) (row ∷ live_from b (suc i)) (live_from b (suc i))
next_live b i row at = next_mapped b.lines (layout_of b) i row at

past_end : {A : Type 0} (xs : List A) (i : ℕ) → length xs ≤ i → drop i xs ≡ []
past_end [] zero le = refl
past_end [] (suc i) le = refl
past_end (x ∷ xs) zero le = absurd (omega (arith, le))
past_end (x ∷ xs) (suc i) le = past_end xs i (omega (arith, le))

pub none_live : (b : BoardSeen) (i : ℕ) → length b.lines ≤ i → live_from b i ≡ []
none_live b i le = ap (λ (rows : List LineRow). mapped rows (drop i (layout_of b))) (past_end b.lines i le)

-- ---- the calls

few_mapped : (rows : List LineRow) (places : List Placement) → length (mapped rows places) ≤ length rows
few_mapped [] places = omega arith
few_mapped (r ∷ rs) [] = omega arith
few_mapped (r ∷ rs) (p ∷ ps) = by_test (is_mapped p) (few_mapped rs ps)
  where
    by_test : (t : Bool) → length (mapped rs ps) ≤ length rs → length (cond t (r ∷ mapped rs ps) (mapped rs ps)) ≤ length (r ∷ rs)
    by_test true le = omega (arith, le)
    by_test false le = omega (arith, le)

pub few_calls : (b : BoardSeen) → IsBoard b → length (sleep_script b) ≤ 128
few_calls b is =
    let live = few_mapped b.lines (layout_of b) in
    let few = is.few_lines in
    let n : length (sleep_script b) ≡ length (live_rows b) + length (live_rows b)
    = length-append (map disable_of (live_rows b)) (map enable_of (live_rows b))
    ∙ ap₂ (λ (x y : ℕ). x + y) (length-map (live_rows b) disable_of) (length-map (live_rows b) enable_of) in
    omega (arith, live, few, n)

every_live : (all : List LineRow) (rows : List LineRow) (places : List Placement)
    → ((i : ℕ) (r : LineRow) → slice_get rows i ≡ Some r → has_line all r.line ≡ true)
    → All (λ (r : LineRow). has_line all r.line ≡ true) (mapped rows places)
every_live all [] places each = All-nil (λ (r : LineRow). has_line all r.line ≡ true)
every_live all (r ∷ rs) [] each = All-nil (λ (r : LineRow). has_line all r.line ≡ true)
every_live all (r ∷ rs) (p ∷ ps) each = by_test (is_mapped p) (every_live all rs ps (λ i x at. each (suc i) x at))
  where
    by_test : (t : Bool) → All (λ (r : LineRow). has_line all r.line ≡ true) (mapped rs ps)
        → All (λ (r : LineRow). has_line all r.line ≡ true) (cond t (r ∷ mapped rs ps) (mapped rs ps))
    by_test true deeper = all_of (λ (r : LineRow). has_line all r.line ≡ true) r (mapped rs ps) (each 0 r refl) deeper
    by_test false deeper = deeper

has_its_line : (rows : List LineRow) (i : ℕ) (r : LineRow) → slice_get rows i ≡ Some r → has_line rows r.line ≡ true
has_its_line [] i r at = cc
has_its_line (x ∷ xs) zero r at = ap (λ (b : Bool). b || has_line xs r.line)
    (ap (λ (y : LineRow). y.line.0 == r.line.0) (the_same x r at) ∙ equals_itself r.line.0)
has_its_line (x ∷ xs) (suc i) r at = or_yes (x.line.0 == r.line.0) (has_line xs r.line) (has_its_line xs i r at)
  where
    or_yes : (a b : Bool) → b ≡ true → (a || b) ≡ true
    or_yes true b h = refl
    or_yes false b h = h

live_there : (b : BoardSeen) → All (λ (r : LineRow). has_line b.lines r.line ≡ true) (live_rows b)
live_there b = every_live b.lines b.lines (layout_of b) (has_its_line b.lines)

imply_all : {A : Type 0} (P Q : A → Type 0) (xs : List A) → ((x : A) → P x → Q x) → All P xs → All Q xs
imply_all P Q [] f all = All-nil Q
imply_all P Q (x ∷ xs) f all = all_of Q x xs (f x (head_of P x xs all)) (imply_all P Q xs f (tail_of P x xs all))

pub calls_fit_board : (b : BoardSeen) → All (IsOfALine b) (sleep_script b)
calls_fit_board b =
    All-append (IsOfALine b) (map disable_of (live_rows b)) (map enable_of (live_rows b))
    (All-map (IsOfALine b) disable_of (live_rows b) (imply_all (λ (r : LineRow). has_line b.lines r.line ≡ true)
    (λ (r : LineRow). IsOfALine b (disable_of r)) (live_rows b) (λ r h. record { line = h; no_device = refl })
    (live_there b)))
    (All-map (IsOfALine b) enable_of (live_rows b) (imply_all (λ (r : LineRow). has_line b.lines r.line ≡ true)
    (λ (r : LineRow). IsOfALine b (enable_of r)) (live_rows b) (λ r h. record { line = h; no_device = refl })
    (live_there b)))

-- ---- row by row

test_of : (b : BoardSeen) (i : ℕ) (row : LineRow) (line : LineNo) → slice_get b.lines i ≡ Some row
    → list_any (wakes_row line) (live_from b i) ≡ ((is_mapped_at (slice_get (layout_of b) i) && wakes_row line row) ||
    list_any (wakes_row line) (live_from b (suc i)))
test_of b i row line at = ap (λ (rows : List LineRow). list_any (wakes_row line) rows) (next_live b i row at)
    ∙ by_test (is_mapped_at (slice_get (layout_of b) i))
  where
    by_test : (t : Bool) → list_any (wakes_row line) (cond t (row ∷ live_from b (suc i)) (live_from b (suc i)))
        ≡ ((t && wakes_row line row) || list_any (wakes_row line) (live_from b (suc i)))
    by_test true = refl
    by_test false = refl

pub found_row : (b : BoardSeen) (i : ℕ) (row : LineRow) (line : LineNo) → Some row ≡ slice_get b.lines i
    → (is_mapped_at (slice_get (layout_of b) i) && wakes_row line row) ≡ true
    → can_wake b line ≡ list_any (wakes_row line) (live_from b i) → true ≡ can_wake b line
found_row b i row line at test is = sym (is ∙ (test_of b i row line (sym at) ∙ ap (λ (t : Bool). t || list_any (wakes_row line) (live_from b (suc i))) test))

pub passed_row : (b : BoardSeen) (i : ℕ) (row : LineRow) (line : LineNo) → Some row ≡ slice_get b.lines i
    → (is_mapped_at (slice_get (layout_of b) i) && wakes_row line row) ≡ false
    → can_wake b line ≡ list_any (wakes_row line) (live_from b i)
    → can_wake b line ≡ list_any (wakes_row line) (live_from b (i + 1))
passed_row b i row line at test is =
    is ∙ (test_of b i row line (sym at) ∙ (ap (λ (t : Bool). t || list_any (wakes_row line) (live_from b (suc i))) test
    ∙ ap (λ (n : ℕ). list_any (wakes_row line) (live_from b n)) (let e : suc i ≡ i + 1 = omega arith in e)))

pub more_rows : (b : BoardSeen) (i : ℕ) (row : LineRow) (rows : List LineRow) → Some row ≡ slice_get b.lines i → live_rows b ≡ rows ++ live_from b i
    → live_rows b ≡ (rows ++ cond (is_mapped_at (slice_get (layout_of b) i)) (row ∷ []) []) ++ live_from b (i + 1)
more_rows b i row rows at is =
    is ∙ (ap (λ (xs : List LineRow). rows ++ xs) (next_live b i row (sym at))
    ∙ (by_test (is_mapped_at (slice_get (layout_of b) i))
    ∙ ap (λ (n : ℕ). (rows ++ cond (is_mapped_at (slice_get (layout_of b) i)) (row ∷ []) []) ++ live_from b n)
    (let e : suc i ≡ i + 1 = omega arith in e)))
  where
    by_test : (t : Bool) → rows ++ cond t (row ∷ live_from b (suc i)) (live_from b (suc i)) ≡ (rows ++ cond t (row ∷ []) []) ++ live_from b (suc i)
    by_test true = sym (append_assoc rows (row ∷ []) (live_from b (suc i)))
    by_test false = sym (append_assoc rows [] (live_from b (suc i)))

pub room_for_calls : (b : BoardSeen) → IsBoard b → has_room_for_sleep b ≡ true → length b.calls + length (sleep_script b) ≤ 16384
room_for_calls b is room =
    let parts = and_parts (not (has_driver b.drivers last_driver)) _ room in
    let calls : length b.calls ≤ 16256 = leb-true (length b.calls) 16256 (and_parts (nat_lt (length b.drivers) 64) (nat_le (length b.calls) 16256) parts.1).1 in
    let few = few_calls b is in
    omega (arith, calls, few)
