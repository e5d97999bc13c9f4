-- Lists whose numbers rise.
use Rattle.std.proofs.Common.{◌≡◌, ℕ, zero, suc, ◌<◌, ◌==◌, true, false, cond, ◌||◌, Option, Some, None, List, [], ◌∷◌}
use Rattle.std.proofs.Common.{All, IfSome, not, length, nat_lt, ◌+◌, eqb-true, refl, sym, ap, subst, ◌∙◌, arith}
use Rattle.std.specs.List.{slice_get, position_or_len}
use Rattle.std.specs.Option.{option_map}
use Rattle.std.proofs.lemmas.Bool.Decides.{nat_tests}
use Rattle.irq_base.specs.declared.devices.DeviceDef.{DeviceDef}
use Rattle.irq_base.specs.declared.numbers.DevNo.{DevNo}
use Rattle.irq_base.specs.declared.numbers.DriverNo.{DriverNo}
use Rattle.irq_base.specs.declared.numbers.LineNo.{LineNo}
use Rattle.board_def.specs.Find.{last_item, place_of_line}
use Rattle.board_def.specs.LineOf.{find_line}
use Rattle.domain_rules.specs.Domains.{EachAfter}
use Rattle.board_def.specs.Rules.{find_device, has_driver}
use Rattle.board_def.specs.declared.rows.LineRow.{LineRow}

-- what holds of each item holds of the first, and of the others
pub head_of : {A : Type 0} (P : A → Type 0) (x : A) (xs : List A) → All P (x ∷ xs) → P x
head_of P x xs all = all zero x (omega arith)

pub tail_of : {A : Type 0} (P : A → Type 0) (x : A) (xs : List A) → All P (x ∷ xs) → All P xs
tail_of P x xs all k d h = all (suc k) d (omega arith)

pub all_of : {A : Type 0} (P : A → Type 0) (x : A) (xs : List A) → P x → All P xs → All P (x ∷ xs)
all_of P x xs p all zero d h = p
all_of P x xs p all (suc k) d h = all k d (omega arith)

pub differ : (m n : ℕ) → m < n → (m == n) ≡ false
differ m n h = grind (arith, nat_tests)

pub differ_back : (m n : ℕ) → m < n → (n == m) ≡ false
differ_back m n h = grind (arith, nat_tests)

pub equals_itself : (n : ℕ) → (n == n) ≡ true
equals_itself n = grind (arith, nat_tests)

-- each item's number is above the numbers before it
abbrev pub Rises : {A : Type 0} → (A → ℕ) → List A → Type 0
Rises {A} key xs = EachAfter (λ earlier x. All (λ e. key e < key x) earlier) xs

pub rises_on : {A : Type 0} (key : A → ℕ) (x : A) (xs : List A) → Rises key (x ∷ xs) → Rises key xs
rises_on key x xs rises i y at = tail_of (λ e. key e < key y) x _ (rises (suc i) y at)

-- what rises, and ends below a number, is all below it
pub all_below : {A : Type 0} (key : A → ℕ) (xs : List A) (n : ℕ) → Rises key xs → IfSome (last_item xs) (λ x. key x < n) → All (λ e. key e < n) xs
all_below key [] n rises last = λ k d h. absurd (omega arith)
all_below key (x ∷ []) n rises last = all_of (λ e. key e < n) x [] last (λ k d h. absurd (omega arith))
all_below key (x ∷ y ∷ ys) n rises last =
    let rest = all_below key (y ∷ ys) n (rises_on key x (y ∷ ys) rises) last in
    let first : key x < key y = head_of (λ e. key e < key y) x [] (rises 1 y refl) in
    let second : key y < n = head_of (λ e. key e < n) y ys rest in
    all_of (λ e. key e < n) x (y ∷ ys) (omega arith) rest

-- a number above all is none of theirs

pub no_line : (line : LineNo) (xs : List LineRow) → All (λ e. e.line.0 < line.0) xs → find_line xs line ≡ None
no_line line [] all = refl
no_line line (x ∷ xs) all =
    ap (λ b. cond b (Some x) (find_line xs line)) (differ x.line.0 line.0 (head_of (λ e. e.line.0 < line.0) x xs all))
    ∙ no_line line xs (tail_of (λ e. e.line.0 < line.0) x xs all)

pub no_device : (dev : DevNo) (xs : List DeviceDef) → All (λ e. e.dev.0 < dev.0) xs → find_device xs dev ≡ None
no_device dev [] all = refl
no_device dev (x ∷ xs) all =
    ap (λ b. cond b (Some x) (find_device xs dev)) (differ_back x.dev.0 dev.0 (head_of (λ e. e.dev.0 < dev.0) x xs all))
    ∙ no_device dev xs (tail_of (λ e. e.dev.0 < dev.0) x xs all)

pub no_driver : (driver : DriverNo) (xs : List DriverNo) → All (λ e. e.0 < driver.0) xs → has_driver xs driver ≡ false
no_driver driver [] all = refl
no_driver driver (x ∷ xs) all =
    ap (λ b. b || has_driver xs driver) (differ x.0 driver.0 (head_of (λ e. e.0 < driver.0) x xs all))
    ∙ no_driver driver xs (tail_of (λ e. e.0 < driver.0) x xs all)

-- the row at a place is the row found by its number
pub line_at : (xs : List LineRow) (i : ℕ) (row : LineRow) → Rises (λ row. row.line.0) xs → slice_get xs i ≡ Some row → find_line xs row.line ≡ Some row
line_at [] i row rises at = absurd cc
line_at (x ∷ xs) zero row rises at =
    let same : x ≡ row = cc in
    subst (λ (y : LineRow). find_line (x ∷ xs) y.line ≡ Some y) same (ap (λ b. cond b (Some x) (find_line xs x.line)) (equals_itself x.line.0))
line_at (x ∷ xs) (suc i) row rises at =
    ap (λ b. cond b (Some x) (find_line xs row.line)) (differ x.line.0 row.line.0 (head_of (λ e. e.line.0 < row.line.0) x _ (rises (suc i) row at)))
    ∙ line_at xs i row (rises_on (λ row. row.line.0) x xs rises) at

-- likewise a device
pub device_at : (xs : List DeviceDef) (i : ℕ) (x : DeviceDef) → Rises (λ x. x.dev.0) xs → slice_get xs i ≡ Some x → find_device xs x.dev ≡ Some x
device_at [] i x rises at = absurd cc
device_at (y ∷ ys) zero x rises at =
    let same : y ≡ x = cc in
    subst (λ (z : DeviceDef). find_device (y ∷ ys) z.dev ≡ Some z) same (ap (λ b. cond b (Some y) (find_device ys y.dev)) (equals_itself y.dev.0))
device_at (y ∷ ys) (suc i) x rises at =
    ap (λ b. cond b (Some y) (find_device ys x.dev)) (differ_back y.dev.0 x.dev.0 (head_of (λ e. e.dev.0 < x.dev.0) y _ (rises (suc i) x at)))
    ∙ device_at ys i x (rises_on (λ x. x.dev.0) y ys rises) at

-- the place of a line's number is the place where its row stands
slot_at : (xs : List LineRow) (i : ℕ) (row : LineRow) → Rises (λ row. row.line.0) xs → slice_get xs i ≡ Some row
    → position_or_len (λ r. row.line.0 == r.line.0) xs ≡ i
slot_at [] i row rises at = absurd cc
slot_at (x ∷ xs) zero row rises at =
    let same : x ≡ row = cc in
    subst (λ (y : LineRow). position_or_len (λ r. y.line.0 == r.line.0) (x ∷ xs) ≡ 0) same
    (ap (λ b. cond (not b) (1 + position_or_len (λ r. x.line.0 == r.line.0) xs) 0) (equals_itself x.line.0))
slot_at (x ∷ xs) (suc i) row rises at =
    let rest : position_or_len (λ r. row.line.0 == r.line.0) xs ≡ i = slot_at xs i row (rises_on (λ row. row.line.0) x xs rises) at in
    let more : 1 + position_or_len (λ r. row.line.0 == r.line.0) xs ≡ suc i = omega (arith, rest) in
    ap (λ b. cond (not b) (1 + position_or_len (λ r. row.line.0 == r.line.0) xs) 0)
    (differ_back x.line.0 row.line.0 (head_of (λ e. e.line.0 < row.line.0) x _ (rises (suc i) row at)))
    ∙ more

within : {A : Type 0} (xs : List A) (i : ℕ) (x : A) → slice_get xs i ≡ Some x → nat_lt i (length xs) ≡ true
within [] i x at = absurd cc
within (y ∷ ys) zero x at = grind (arith, nat_tests)
within (y ∷ ys) (suc i) x at = grind (arith, nat_tests, within ys i x at)

pub place_at : (xs : List LineRow) (i : ℕ) (row : LineRow) → Rises (λ row. row.line.0) xs → slice_get xs i ≡ Some row → place_of_line xs row.line ≡ Some i
place_at xs i row rises at =
    ap (λ n. cond (nat_lt n (length xs)) (Some n) None) (slot_at xs i row rises at) ∙ ap (λ b. cond b (Some i) None) (within xs i row at)

-- the same by another number that is the row's

pub line_near : (xs : List LineRow) (i : ℕ) (row : LineRow) (line : LineNo) → Rises (λ row. row.line.0) xs → Some row ≡ slice_get xs i
    → (row.line.0 == line.0) ≡ true → Some row ≡ find_line xs line
line_near xs i row line rises at same =
    sym (line_at xs i row rises (sym at)) ∙ ap (λ n. find_line xs (record { 0 = n })) (eqb-true row.line.0 line.0 same)

pub place_near : (xs : List LineRow) (i : ℕ) (row : LineRow) (line : LineNo) → Rises (λ row. row.line.0) xs → Some row ≡ slice_get xs i
    → (row.line.0 == line.0) ≡ true → Some i ≡ place_of_line xs line
place_near xs i row line rises at same =
    sym (place_at xs i row rises (sym at)) ∙ ap (λ n. place_of_line xs (record { 0 = n })) (eqb-true row.line.0 line.0 same)

pub device_near : (xs : List DeviceDef) (i : ℕ) (x : DeviceDef) (dev : DevNo) → Rises (λ x. x.dev.0) xs → Some x ≡ slice_get xs i
    → (x.dev.0 == dev.0) ≡ true → Some x ≡ find_device xs dev
device_near xs i x dev rises at same =
    sym (device_at xs i x rises (sym at)) ∙ ap (λ n. find_device xs (record { 0 = n })) (eqb-true x.dev.0 dev.0 same)

-- what holds of the last number holds of the last item's number
pub last_number : {A B : Type 0} (key : A → B) (P : B → Type 0) (r : Option A) → IfSome (option_map key r) P → IfSome r (λ x. P (key x))
last_number key P None h = h
last_number key P (Some x) h = h
