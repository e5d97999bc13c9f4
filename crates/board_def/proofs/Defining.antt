-- The definitions of a board's lines, with one device or one call more.
use Rattle.std.proofs.Common.{◌≡◌, ◌≢◌, ℕ, zero, suc, ◌+◌, ◌<◌, ◌==◌, Bool, true, false, cond, not, nat_lt, Some, None}
use Rattle.std.proofs.Common.{List, [], ◌∷◌, ◌++◌, length, filter, map, take, get_or, All, refl, sym, ap, subst, ◌∙◌}
use Rattle.std.proofs.Common.{arith}
use Rattle.std.specs.List.{slice_get, position_or_len}
use Rattle.std.specs.Option.{option_map}
use Rattle.std.proofs.Math.ListN.{set}
use Rattle.std.proofs.lemmas.Bool.Decides.{nat_tests}
use Rattle.std.proofs.lemmas.List.{append-nil, map-append, take_more}
use Rattle.std.proofs.lemmas.List.Quantifiers.{position-Some}
use Rattle.std.proofs.lemmas.Option.{slice_get_within, get_or_from_slice_get, slice_get-map}
use Rattle.irq_base.specs.declared.devices.DeviceDef.{DeviceDef}
use Rattle.irq_base.specs.declared.devices.Part.{Part}
use Rattle.irq_base.specs.declared.devices.ToldAnswer.{ToldAnswer}
use Rattle.irq_base.specs.declared.calls.Call.{Call}
use Rattle.irq_base.specs.declared.lines.LineDef.{LineDef}
use Rattle.irq_base.specs.declared.numbers.DevNo.{DevNo}
use Rattle.irq_base.specs.declared.numbers.DriverNo.{DriverNo}
use Rattle.irq_base.specs.declared.numbers.LineNo.{LineNo}
use Rattle.board_def.specs.Find.{place_of_line}
use Rattle.board_def.specs.LineOf.{line_of_row, line_defs_of, with_driver, with_parts}
use Rattle.board_def.specs.Runs.{of_run, of_told}
use Rattle.board_def.specs.Seen.{BoardSeen}
use Rattle.board_def.specs.declared.rows.LineRow.{LineRow}
use Rattle.board_def.specs.declared.rows.RunCall.{RunCall}
use Rattle.board_def.specs.declared.rows.ScriptCall.{ScriptCall}
use Rattle.board_def.specs.declared.rows.ToldRow.{ToldRow}
use Rattle.irq_model.specs.Valid.{IsValid}
use Rattle.board_def.specs.Rules.{IsBoard}
use Rattle.board_def.proofs.Kept.{kept_at}
use Rattle.board_def.proofs.Paths.{lines_rise}
use Rattle.board_def.proofs.Validity.{valid_row}
use Rattle.board_def.proofs.Rising.{Rises, rises_on, head_of, all_of, differ, differ_back}

-- ---- one item of a list

map_same : {A B : Type 0} (f g : A → B) (xs : List A) → ((j : ℕ) (z : A) → slice_get xs j ≡ Some z → g z ≡ f z) → map g xs ≡ map f xs
map_same f g [] same = refl
map_same f g (x ∷ xs) same = ap (λ y. y ∷ map g xs) (same zero x refl) ∙ ap (λ ys. f x ∷ ys) (map_same f g xs (λ j z at. same (suc j) z at))

map_but_one : {A B : Type 0} (f g : A → B) (xs : List A) (i : ℕ) (x : A) (y : B) → slice_get xs i ≡ Some x → g x ≡ y
    → ((j : ℕ) (z : A) → slice_get xs j ≡ Some z → j ≢ i → g z ≡ f z)
    → map g xs ≡ set (map f xs) i y
map_but_one f g [] i x y at is others = absurd cc
map_but_one f g (z ∷ zs) zero x y at is others =
    let same : z ≡ x = cc in
    ap (λ w. w ∷ map g zs) (ap g same ∙ is) ∙ ap (λ ws. y ∷ ws) (map_same f g zs (λ j w there. others (suc j) w there (λ e. absurd (omega (arith, e)))))
map_but_one f g (z ∷ zs) (suc i) x y at is others =
    ap (λ w. w ∷ map g zs) (others zero z refl (λ e. absurd (omega (arith, e))))
    ∙ ap (λ ws. f z ∷ ws) (map_but_one f g zs i x y at is (λ j w there other. others (suc j) w there (λ e. other (omega (arith, e)))))

-- what rises is another at another place
apart : {A : Type 0} (key : A → ℕ) (xs : List A) (i j : ℕ) (x y : A) → Rises key xs → slice_get xs i ≡ Some x
    → slice_get xs j ≡ Some y → j ≢ i → (key x == key y) ≡ false
apart key [] i j x y rises at there other = absurd cc
apart key (z ∷ zs) zero zero x y rises at there other = absurd (other refl)
apart key (z ∷ zs) zero (suc j) x y rises at there other =
    let same : z ≡ x = cc in
    ap (λ w. key w == key y) (sym same) ∙ differ (key z) (key y) (head_of (λ e. key e < key y) z (take j zs) (rises (suc j) y there))
apart key (z ∷ zs) (suc i) zero x y rises at there other =
    let same : z ≡ y = cc in
    ap (λ w. key x == key w) (sym same) ∙ differ_back (key z) (key x) (head_of (λ e. key e < key x) z (take i zs) (rises (suc i) x at))
apart key (z ∷ zs) (suc i) (suc j) x y rises at there other = apart key zs i j x y (rises_on key z zs rises) at there (λ e. other (ap suc e))

-- a place that isn't found is none's
none_by : {A : Type 0} (test : A → Bool) (xs : List A) → nat_lt (position_or_len test xs) (length xs) ≡ false
    → (j : ℕ) (z : A) → slice_get xs j ≡ Some z → test z ≡ false
none_by test [] none j z at = absurd cc
none_by {A} test (x ∷ xs) none j z at = by (test x) refl none j at (none_by test xs)
  where
    by : (b : Bool) → test x ≡ b → nat_lt (cond (not b) (1 + position_or_len test xs) 0) (suc (length xs)) ≡ false → (j : ℕ) → slice_get (x ∷ xs) j ≡ Some z
        → (nat_lt (position_or_len test xs) (length xs) ≡ false → (i : ℕ) (y : A) → slice_get xs i ≡ Some y → test y ≡ false) → test z ≡ false
    by true is none j at rest = let past : nat_lt 0 (suc (length xs)) ≡ false = none in absurd (grind (arith, nat_tests))
    by false is none zero at rest = let same : x ≡ z = cc in ap test (sym same) ∙ is
    by false is none (suc j) at rest =
        let past : nat_lt (1 + position_or_len test xs) (suc (length xs)) ≡ false = none in
        let fewer : nat_lt (position_or_len test xs) (length xs) ≡ false = grind (arith, nat_tests) in
        rest fewer j z at

not_some : (b : Bool) (n : ℕ) → cond b (Some n) None ≡ None → b ≡ false
not_some true n e = absurd cc
not_some false n e = refl

nowhere : (rows : List LineRow) (line : LineNo) → place_of_line rows line ≡ None → (j : ℕ) (row : LineRow)
    → slice_get rows j ≡ Some row → (line.0 == row.line.0) ≡ false
nowhere rows line none =
    let test : LineRow → Bool = λ row. line.0 == row.line.0 in
    none_by test rows (not_some (nat_lt (position_or_len test rows) (length rows)) (position_or_len test rows) none)

-- the row that stands at the place found for the number
record IsAt (rows : List LineRow) (line : LineNo) (place : ℕ) : Type 0 where
  row : LineRow
  at : slice_get rows place ≡ Some row
  is : (line.0 == row.line.0) ≡ true

get_there : {A : Type 0} (xs : List A) (i : ℕ) → i < length xs → (x : A) × (slice_get xs i ≡ Some x)
get_there [] i within = absurd (omega (arith, within))
get_there (x ∷ xs) zero within = (x, refl)
get_there (x ∷ xs) (suc i) within = get_there xs i (omega (arith, within))

some_within : (b : Bool) (n i : ℕ) → cond b (Some n) None ≡ Some i → (b ≡ true) × (n ≡ i)
some_within true n i e = (refl, cc)
some_within false n i e = absurd cc

found_at : (rows : List LineRow) (line : LineNo) (place : ℕ) → place_of_line rows line ≡ Some place → IsAt rows line place
found_at rows line place found =
    let test : LineRow → Bool = λ row. line.0 == row.line.0 in
    let s = some_within (nat_lt (position_or_len test rows) (length rows)) (position_or_len test rows) place found in
    let below : position_or_len test rows < length rows = grind (arith, nat_tests, s.0) in
    let within : place < length rows = omega (arith, below, s.1) in
    let there = get_there rows place within in
    let facts = position-Some test rows place there.0 found in
    record {
      row = there.0;
      at = there.1;
      is = ap test (sym (get_or_from_slice_get rows place there.0 there.0 there.1)) ∙ facts.1;
    }

-- ---- the definitions, each a function of its row

rises_apart : (rows : List LineRow) (line : LineNo) (i : ℕ) (own : IsAt rows line i)
    → Rises (λ (row : LineRow). row.line.0) rows → (j : ℕ) (row : LineRow) → slice_get rows j ≡ Some row → j ≢ i
    → (line.0 == row.line.0) ≡ false
rises_apart rows line i own rises j row at other =
    let same : line.0 ≡ own.row.line.0 = grind (arith, nat_tests, own.is) in
    ap (λ n. n == row.line.0) same ∙ apart (λ (row : LineRow). row.line.0) rows i j own.row row rises own.at at other

-- what is given to the line of that number changes the definition at its place, and no other
module _ (f g : LineRow → LineDef) (line : LineNo) (change : LineDef → LineDef) (rows : List LineRow)
    (here : (row : LineRow) → (line.0 == row.line.0) ≡ true → g row ≡ change (f row))
    (others : (row : LineRow) → (line.0 == row.line.0) ≡ false → g row ≡ f row) where
  given_at : (place : ℕ) (d : LineDef) → Rises (λ (row : LineRow). row.line.0) rows
      → place_of_line rows line ≡ Some place → map g rows
      ≡ set (map f rows) place (change (get_or (map f rows) place d))
  given_at place d rises found =
      let own = found_at rows line place found in
      let def : get_or (map f rows) place d ≡ f own.row
      = get_or_from_slice_get (map f rows) place (f own.row) d
      (slice_get-map f rows place ∙ ap (option_map f) own.at) in
      map_but_one f g rows place own.row (change (get_or (map f rows) place d)) own.at (here own.row own.is ∙ ap change (sym def))
      (λ j row at other. others row (rises_apart rows line place own rises j row at other))

  given_nowhere : place_of_line rows line ≡ None → map g rows ≡ map f rows
  given_nowhere none = map_same f g rows (λ j row at. others row (nowhere rows line none j row at))

-- ---- one device more

abbrev with_device : DeviceDef → LineDef → LineDef
with_device x def = record def { devices = def.devices ++ x ∷ [] }

abbrev defs_by_devices : BoardSeen → ℕ → LineRow → LineDef
defs_by_devices b i row = line_of_row (with_parts b (take i b.devices) [] [] []) row

device_here : (b : BoardSeen) (i : ℕ) (x : DeviceDef) → slice_get b.devices i ≡ Some x → (row : LineRow)
    → (x.line.0 == row.line.0) ≡ true → defs_by_devices b (i + 1) row ≡ with_device x (defs_by_devices b i row)
device_here b i x at row is =
    let keep : DeviceDef → Bool = λ y. y.line.0 == row.line.0 in
    ap (λ (ds : List DeviceDef). record (line_of_row (with_parts b [] [] [] []) row) { devices = ds }) (kept_at keep b.devices i x true at is)

device_elsewhere : (b : BoardSeen) (i : ℕ) (x : DeviceDef) → slice_get b.devices i ≡ Some x → (row : LineRow)
    → (x.line.0 == row.line.0) ≡ false → defs_by_devices b (i + 1) row ≡ defs_by_devices b i row
device_elsewhere b i x at row is =
    let keep : DeviceDef → Bool = λ y. y.line.0 == row.line.0 in
    ap (λ (ds : List DeviceDef). record (line_of_row (with_parts b [] [] [] []) row) { devices = ds })
    (kept_at keep b.devices i x false at is ∙ append-nil (filter keep (take i b.devices)))

pub device_given : (b : BoardSeen) (i : ℕ) (x : DeviceDef) (place : ℕ) (now : LineDef) → IsBoard b
    → slice_get b.devices i ≡ Some x → place_of_line b.lines x.line ≡ Some place
    → (defs : List LineDef) → defs ≡ line_defs_of (with_parts b (take i b.devices) [] [] []) → now ≡ get_or defs place now
    → (def : LineDef) → def ≡ record now { devices = now.devices ++ x ∷ [] }
    → set defs place def ≡ line_defs_of (with_parts b (take (i + 1) b.devices) [] [] [])
device_given b i x place now board at found defs are value def is =
    ap (set defs place) (is ∙ ap (with_device x) value)
    ∙ (ap (λ (ds : List LineDef). set ds place (with_device x (get_or ds place now))) are
    ∙ sym (given_at (defs_by_devices b i) (defs_by_devices b (i + 1)) x.line (with_device x) b.lines
    (device_here b i x at) (device_elsewhere b i x at) place now (lines_rise b board) found))

pub device_nowhere : (b : BoardSeen) (i : ℕ) (x : DeviceDef) → slice_get b.devices i ≡ Some x → place_of_line b.lines x.line ≡ None
    → line_defs_of (with_parts b (take i b.devices) [] [] []) ≡ line_defs_of (with_parts b (take (i + 1) b.devices) [] [] [])
device_nowhere b i x at none =
    sym (given_nowhere (defs_by_devices b i) (defs_by_devices b (i + 1)) x.line (with_device x) b.lines (device_here b i x at) (device_elsewhere b i x at) none)

-- ---- one call more

abbrev with_call : ScriptCall → LineDef → LineDef
with_call c def = record def { calls = def.calls ++ with_driver c ∷ [] }

abbrev defs_by_calls : BoardSeen → ℕ → LineRow → LineDef
defs_by_calls b i row = line_of_row (with_parts b b.devices (take i b.calls) [] []) row

call_here : (b : BoardSeen) (i : ℕ) (c : ScriptCall) → slice_get b.calls i ≡ Some c → (row : LineRow)
    → (c.line.0 == row.line.0) ≡ true → defs_by_calls b (i + 1) row ≡ with_call c (defs_by_calls b i row)
call_here b i c at row is =
    let keep : ScriptCall → Bool = λ y. y.line.0 == row.line.0 in
    ap (λ (cs : List (DriverNo × Call)). record (line_of_row (with_parts b b.devices [] [] []) row) { calls = cs })
    (ap (map with_driver) (kept_at keep b.calls i c true at is) ∙ map-append with_driver (filter keep (take i b.calls)) (c ∷ []))

call_elsewhere : (b : BoardSeen) (i : ℕ) (c : ScriptCall) → slice_get b.calls i ≡ Some c → (row : LineRow)
    → (c.line.0 == row.line.0) ≡ false → defs_by_calls b (i + 1) row ≡ defs_by_calls b i row
call_elsewhere b i c at row is =
    let keep : ScriptCall → Bool = λ y. y.line.0 == row.line.0 in
    ap (λ (cs : List (DriverNo × Call)). record (line_of_row (with_parts b b.devices [] [] []) row) { calls = cs })
    (ap (map with_driver) (kept_at keep b.calls i c false at is ∙ append-nil (filter keep (take i b.calls))))

pub call_given : (b : BoardSeen) (i : ℕ) (c : ScriptCall) (place : ℕ) (now : LineDef) → IsBoard b
    → slice_get b.calls i ≡ Some c → place_of_line b.lines c.line ≡ Some place
    → (defs : List LineDef) → defs ≡ line_defs_of (with_parts b b.devices (take i b.calls) [] [])
    → now ≡ get_or defs place now → (def : LineDef) → def ≡ record now { calls = now.calls ++ with_driver c ∷ [] }
    → set defs place def ≡ line_defs_of (with_parts b b.devices (take (i + 1) b.calls) [] [])
call_given b i c place now board at found defs are value def is =
    ap (set defs place) (is ∙ ap (with_call c) value)
    ∙ (ap (λ (ds : List LineDef). set ds place (with_call c (get_or ds place now))) are
    ∙ sym (given_at (defs_by_calls b i) (defs_by_calls b (i + 1)) c.line (with_call c) b.lines (call_here b i c at)
    (call_elsewhere b i c at) place now (lines_rise b board) found))

pub call_nowhere : (b : BoardSeen) (i : ℕ) (c : ScriptCall) → slice_get b.calls i ≡ Some c → place_of_line b.lines c.line ≡ None
    → line_defs_of (with_parts b b.devices (take i b.calls) [] []) ≡ line_defs_of (with_parts b b.devices (take (i + 1) b.calls) [] [])
call_nowhere b i c at none =
    sym (given_nowhere (defs_by_calls b i) (defs_by_calls b (i + 1)) c.line (with_call c) b.lines (call_here b i c at) (call_elsewhere b i c at) none)

-- ---- one call of a run more

abbrev with_run : RunCall → LineDef → LineDef
with_run c def = record def { runs = def.runs ++ of_run c ∷ [] }

abbrev defs_by_run : BoardSeen → ℕ → LineRow → LineDef
defs_by_run b i row = line_of_row (with_parts b b.devices b.calls (take i b.runs) []) row

run_here : (b : BoardSeen) (i : ℕ) (c : RunCall) → slice_get b.runs i ≡ Some c → (row : LineRow)
    → (c.line.0 == row.line.0) ≡ true → defs_by_run b (i + 1) row ≡ with_run c (defs_by_run b i row)
run_here b i c at row is =
    let keep : RunCall → Bool = λ y. y.line.0 == row.line.0 in
    ap (λ (cs : List (DevNo × Part × Call)). record (line_of_row (with_parts b b.devices b.calls [] []) row) { runs = cs })
    (ap (map of_run) (kept_at keep b.runs i c true at is) ∙ map-append of_run (filter keep (take i b.runs)) (c ∷ []))

run_elsewhere : (b : BoardSeen) (i : ℕ) (c : RunCall) → slice_get b.runs i ≡ Some c → (row : LineRow)
    → (c.line.0 == row.line.0) ≡ false → defs_by_run b (i + 1) row ≡ defs_by_run b i row
run_elsewhere b i c at row is =
    let keep : RunCall → Bool = λ y. y.line.0 == row.line.0 in
    ap (λ (cs : List (DevNo × Part × Call)). record (line_of_row (with_parts b b.devices b.calls [] []) row) { runs = cs })
    (ap (map of_run) (kept_at keep b.runs i c false at is ∙ append-nil (filter keep (take i b.runs))))

pub run_given : (b : BoardSeen) (i : ℕ) (c : RunCall) (place : ℕ) (now : LineDef) → IsBoard b
    → slice_get b.runs i ≡ Some c → place_of_line b.lines c.line ≡ Some place
    → (defs : List LineDef) → defs ≡ line_defs_of (with_parts b b.devices b.calls (take i b.runs) [])
    → now ≡ get_or defs place now → (def : LineDef) → def ≡ record now { runs = now.runs ++ of_run c ∷ [] }
    → set defs place def ≡ line_defs_of (with_parts b b.devices b.calls (take (i + 1) b.runs) [])
run_given b i c place now board at found defs are value def is =
    ap (set defs place) (is ∙ ap (with_run c) value)
    ∙ (ap (λ (ds : List LineDef). set ds place (with_run c (get_or ds place now))) are
    ∙ sym (given_at (defs_by_run b i) (defs_by_run b (i + 1)) c.line (with_run c) b.lines (run_here b i c at)
    (run_elsewhere b i c at) place now (lines_rise b board) found))

pub run_nowhere : (b : BoardSeen) (i : ℕ) (c : RunCall) → slice_get b.runs i ≡ Some c → place_of_line b.lines c.line ≡ None
    → line_defs_of (with_parts b b.devices b.calls (take i b.runs) []) ≡ line_defs_of (with_parts b b.devices b.calls (take (i + 1) b.runs) [])
run_nowhere b i c at none =
    sym (given_nowhere (defs_by_run b i) (defs_by_run b (i + 1)) c.line (with_run c) b.lines (run_here b i c at) (run_elsewhere b i c at) none)

-- ---- one answer more

abbrev with_told : ToldRow → LineDef → LineDef
with_told c def = record def { told = def.told ++ of_told c ∷ [] }

abbrev defs_by_told : BoardSeen → ℕ → LineRow → LineDef
defs_by_told b i row = line_of_row (with_parts b b.devices b.calls b.runs (take i b.told)) row

told_here : (b : BoardSeen) (i : ℕ) (c : ToldRow) → slice_get b.told i ≡ Some c → (row : LineRow)
    → (c.line.0 == row.line.0) ≡ true → defs_by_told b (i + 1) row ≡ with_told c (defs_by_told b i row)
told_here b i c at row is =
    let keep : ToldRow → Bool = λ y. y.line.0 == row.line.0 in
    ap (λ (cs : List (DevNo × Part × ToldAnswer)). record (line_of_row (with_parts b b.devices b.calls b.runs []) row) { told = cs })
    (ap (map of_told) (kept_at keep b.told i c true at is) ∙ map-append of_told (filter keep (take i b.told)) (c ∷ []))

told_elsewhere : (b : BoardSeen) (i : ℕ) (c : ToldRow) → slice_get b.told i ≡ Some c → (row : LineRow)
    → (c.line.0 == row.line.0) ≡ false → defs_by_told b (i + 1) row ≡ defs_by_told b i row
told_elsewhere b i c at row is =
    let keep : ToldRow → Bool = λ y. y.line.0 == row.line.0 in
    ap (λ (cs : List (DevNo × Part × ToldAnswer)). record (line_of_row (with_parts b b.devices b.calls b.runs []) row) { told = cs })
    (ap (map of_told) (kept_at keep b.told i c false at is ∙ append-nil (filter keep (take i b.told))))

pub told_given : (b : BoardSeen) (i : ℕ) (c : ToldRow) (place : ℕ) (now : LineDef) → IsBoard b
    → slice_get b.told i ≡ Some c → place_of_line b.lines c.line ≡ Some place
    → (defs : List LineDef) → defs ≡ line_defs_of (with_parts b b.devices b.calls b.runs (take i b.told))
    → now ≡ get_or defs place now → (def : LineDef) → def ≡ record now { told = now.told ++ of_told c ∷ [] }
    → set defs place def ≡ line_defs_of (with_parts b b.devices b.calls b.runs (take (i + 1) b.told))
told_given b i c place now board at found defs are value def is =
    ap (set defs place) (is ∙ ap (with_told c) value)
    ∙ (ap (λ (ds : List LineDef). set ds place (with_told c (get_or ds place now))) are
    ∙ sym (given_at (defs_by_told b i) (defs_by_told b (i + 1)) c.line (with_told c) b.lines (told_here b i c at)
    (told_elsewhere b i c at) place now (lines_rise b board) found))

pub told_nowhere : (b : BoardSeen) (i : ℕ) (c : ToldRow) → slice_get b.told i ≡ Some c → place_of_line b.lines c.line ≡ None
    → line_defs_of (with_parts b b.devices b.calls b.runs (take i b.told)) ≡ line_defs_of (with_parts b b.devices b.calls b.runs (take (i + 1) b.told))
told_nowhere b i c at none =
    sym (given_nowhere (defs_by_told b i) (defs_by_told b (i + 1)) c.line (with_told c) b.lines (told_here b i c at) (told_elsewhere b i c at) none)

-- ---- all lines

valid_from : (b : BoardSeen) (rows : List LineRow) → ((i : ℕ) (row : LineRow) → slice_get rows i ≡ Some row
    → IsValid (line_of_row b row)) → All IsValid (map (line_of_row b) rows)
valid_from b [] each = λ k d h. absurd (omega (arith, h))
valid_from b (row ∷ rows) each = all_of IsValid (line_of_row b row) (map (line_of_row b) rows) (each zero row refl)
    (valid_from b rows (λ i row at. each (suc i) row at))

-- each definition is valid
pub all_valid : (b : BoardSeen) (defs : List LineDef) → IsBoard b → defs ≡ line_defs_of b → All IsValid defs
all_valid b defs board are = subst (All IsValid) (sym are) (valid_from b b.lines (λ i row at. valid_row b i row board at))

take_next : {A : Type 0} (xs : List A) (i : ℕ) (x : A) → slice_get xs i ≡ Some x → take (i + 1) xs ≡ take i xs ++ x ∷ []
take_next xs i x at = take_more xs i x (slice_get_within xs i x at) ∙ ap (λ y. take i xs ++ y ∷ []) (get_or_from_slice_get xs i x x at)

-- the definitions of the rows so far, and of one more
pub row_more : (f : LineRow → LineDef) (rows : List LineRow) (i : ℕ) (row : LineRow) (defs after : List LineDef)
    (def : LineDef) → slice_get rows i ≡ Some row → defs ≡ map f (take i rows) → def ≡ f row
    → after ≡ defs ++ def ∷ [] → after ≡ map f (take (i + 1) rows)
row_more f rows i row defs after def at are is goes =
    goes ∙ (ap (λ (ds : List LineDef). ds ++ def ∷ []) are ∙ (ap (λ d. map f (take i rows) ++ d ∷ []) is
    ∙ (sym (map-append f (take i rows) (row ∷ [])) ∙ ap (map f) (sym (take_next rows i row at)))))
