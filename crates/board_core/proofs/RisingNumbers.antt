-- The numbers of a board's lines and of its drivers rise.
use Rattle.std.proofs.Common.{◌≡◌, ℕ, zero, suc, ◌+◌, ◌<◌, ◌≤◌, ◌⊎◌, inl, inr, Bool, true, false, cond, Some, List, []}
use Rattle.std.proofs.Common.{◌∷◌, ◌++◌, map, length, get_or, take, slice_get, refl, sym, ap, ◌∙◌, subst, arith}
use Rattle.std.proofs.Math.ListN.{length-map}
use Rattle.std.proofs.lemmas.Option.{get_or_from_slice_get, slice_get_within}
use Rattle.irq_base.specs.declared.lines.LineDef.{LineDef}
use Rattle.irq_base.specs.declared.numbers.DriverNo.{DriverNo}
use Rattle.irq_line.specs.Seen.{LineSeen}
use Rattle.irq_laws.proofs.Chosen.{the_same}
use Rattle.board_def.specs.Layout.{layout_of}
use Rattle.domain_rules.specs.Layout.{is_mapped}
use Rattle.board_def.specs.LineOf.{line_of_row}
use Rattle.board_def.specs.Rules.{IsBoard}
use Rattle.board_def.specs.Seen.{BoardSeen}
use Rattle.domain_rules.specs.declared.layouts.Placement.{Placement}
use Rattle.board_def.specs.declared.rows.LineRow.{LineRow}
use Rattle.board_def.proofs.Rising.{Rises, rises_on, head_of}
use Rattle.board_play.specs.Lines.{mapped, defs_of}
use Rattle.board_core.specs.Numbers.{IsRising, numbers_of_defs, numbers_of_lines, numbers_of_drivers}
use Rattle.board_core.proofs.MadeOf.{taken, map_more}
use Rattle.board_core.proofs.Searches.{there}
use Rattle.board_core.proofs.InLists.{map_there}
use Rattle.board_core.proofs.InLists.{rising_below}

module _ {A : Type 0} (key : A → ℕ) (xs : List A) (below : (i j : ℕ) (x y : A) → slice_get xs i ≡ Some x
    → slice_get xs j ≡ Some y → i < j → key x < key y) where
  at_key : (i : ℕ) (x : A) → slice_get xs i ≡ Some x → get_or (map key xs) i 0 ≡ key x
  at_key i x at = get_or_from_slice_get (map key xs) i (key x) 0 (map_there key xs i x at)

  before : (i j : ℕ) → (i < j) ⊎ (i ≡ j) → j < length xs → get_or (map key xs) i 0 ≤ get_or (map key xs) j 0
  before i j (inl less) within =
      let x = there xs i (omega (arith, less, within)) in
      let y = there xs j within in
      let k = below i j x.0 y.0 x.1 y.1 less in
      let a = at_key i x.0 x.1 in
      let b = at_key j y.0 y.1 in
      omega (arith, k, a, b)
  before i j (inr same) within = let e = ap (λ (n : ℕ). get_or (map key xs) n 0) same in omega (arith, e)

  two_ways : (i j : ℕ) → i ≤ j → (i < j) ⊎ (i ≡ j)
  two_ways i j le = grind arith

  pub rising_map : IsRising (map key xs)
  rising_map i j le within = before i j (two_ways i j le) (let n = length-map xs key in omega (arith, within, n))

-- each definition is made of one of the rows
row_of : (b : BoardSeen) (rows : List LineRow) (places : List Placement) (i : ℕ) (d : LineDef)
    → slice_get (map (line_of_row b) (mapped rows places)) i ≡ Some d
    → (k : ℕ) × (r : LineRow) × (slice_get rows k ≡ Some r) × (r.line.0 ≡ d.line.0)
row_of b [] places i d at = cc
row_of b (row ∷ rows) [] i d at = cc
row_of b (row ∷ rows) (place ∷ places) i d at = by_test (is_mapped place) i at (row_of b rows places)
  where
    further : (k : ℕ) × (r : LineRow) × (slice_get rows k ≡ Some r) × (r.line.0 ≡ d.line.0)
        → (k : ℕ) × (r : LineRow) × (slice_get (row ∷ rows) k ≡ Some r) × (r.line.0 ≡ d.line.0)
    further h = (suc h.0, h.1, h.2, h.3)

    by_test : (m : Bool) (i : ℕ) → slice_get (map (line_of_row b) (cond m (row ∷ mapped rows places) (mapped rows places))) i ≡ Some d
        → ((i : ℕ) (d : LineDef) → slice_get (map (line_of_row b) (mapped rows places)) i ≡ Some d
        → (k : ℕ) × (r : LineRow) × (slice_get rows k ≡ Some r) × (r.line.0 ≡ d.line.0))
        → (k : ℕ) × (r : LineRow) × (slice_get (row ∷ rows) k ≡ Some r) × (r.line.0 ≡ d.line.0)
    by_test true zero at deeper = (0, row, refl, ap (λ (e : LineDef). e.line.0) (the_same (line_of_row b row) d at))
    by_test true (suc i) at deeper = further (deeper i d at)
    by_test false i at deeper = further (deeper i d at)

defs_rise : (b : BoardSeen) (rows : List LineRow) (places : List Placement) → Rises (λ (row : LineRow). row.line.0) rows
    → (i j : ℕ) (d e : LineDef) → slice_get (map (line_of_row b) (mapped rows places)) i ≡ Some d
    → slice_get (map (line_of_row b) (mapped rows places)) j ≡ Some e → i < j → d.line.0 < e.line.0
defs_rise b [] places rises i j d e at_i at_j less = cc
defs_rise b (row ∷ rows) [] rises i j d e at_i at_j less = cc
defs_rise b (row ∷ rows) (place ∷ places) rises i j d e at_i at_j less
    = by_test (is_mapped place) i j at_i at_j less (defs_rise b rows places
    (rises_on (λ (row : LineRow). row.line.0) row rows rises))
  where
    by_test : (m : Bool) (i j : ℕ) → slice_get (map (line_of_row b)
        (cond m (row ∷ mapped rows places) (mapped rows places))) i ≡ Some d
        → slice_get (map (line_of_row b) (cond m (row ∷ mapped rows places) (mapped rows places))) j ≡ Some e → i < j
        → ((i j : ℕ) (d e : LineDef) → slice_get (map (line_of_row b) (mapped rows places)) i ≡ Some d
        → slice_get (map (line_of_row b) (mapped rows places)) j ≡ Some e → i < j → d.line.0 < e.line.0)
        → d.line.0 < e.line.0
    by_test true i zero at_i at_j less deeper = absurd (omega (arith, less))
    by_test true zero (suc j) at_i at_j less deeper =
        let o = row_of b rows places j e at_j in
        let above : row.line.0 < o.1.line.0 = head_of (λ (x : LineRow). x.line.0 < o.1.line.0) row (take o.0 rows) (rises (suc o.0) o.1 o.2) in
        let first = ap (λ (x : LineDef). x.line.0) (the_same (line_of_row b row) d at_i) in
        let number = o.3 in
        omega (arith, above, first, number)
    by_test true (suc i) (suc j) at_i at_j less deeper = deeper i j d e at_i at_j (omega (arith, less))
    by_test false i j at_i at_j less deeper = deeper i j d e at_i at_j less

pub rising_lines : (board : BoardSeen) → IsBoard board → (numbers : List ℕ) → numbers ≡ numbers_of_defs (defs_of board) → IsRising numbers
rising_lines board isb numbers is =
    subst IsRising (sym is) (rising_map (λ (d : LineDef). d.line.0) (defs_of board)
    (λ i j d e at_i at_j less. defs_rise board board.lines (layout_of board)
    (λ k row at. (isb.lines k row at).rises) i j d e at_i at_j less))

pub rising_drivers : (board : BoardSeen) → IsBoard board → (numbers : List ℕ) → numbers ≡ numbers_of_drivers board.drivers → IsRising numbers
rising_drivers board isb numbers is =
    subst IsRising (sym is) (rising_map (λ (r : DriverNo). r.0) board.drivers
    (λ i j r s at_i at_j less. rising_below board.drivers (λ k d at. (isb.drivers k d at).rises) i j r s at_i at_j
    less))

-- a number above all before place i, and below all from i on, stands nowhere in the list
pub not_there : (numbers : List ℕ) (n i : ℕ) → ((k : ℕ) → k < i → get_or numbers k 0 < n)
    → ((k : ℕ) → i ≤ k → k < length numbers → n < get_or numbers k 0) → (k : ℕ) → slice_get numbers k ≡ Some n → ⊥
not_there numbers n i below above k at = by_side (side k i)
  where
    is : get_or numbers k 0 ≡ n
    is = get_or_from_slice_get numbers k n 0 at

    side : (k i : ℕ) → (k < i) ⊎ (i ≤ k)
    side k i = grind arith

    by_side : (k < i) ⊎ (i ≤ k) → ⊥
    by_side (inl less) = let b = below k less in let e = is in omega (arith, b, e)
    by_side (inr more) = let a = above k more (slice_get_within numbers k n at) in let e = is in omega (arith, a, e)

-- ---- the numbers, one after another

pub driver_pushed : (drivers : List DriverNo) (i : ℕ) (r : DriverNo) (numbers now : List ℕ)
    → slice_get drivers i ≡ Some r → numbers ≡ numbers_of_drivers (take i drivers) → now ≡ numbers ++ r.0 ∷ []
    → now ≡ numbers_of_drivers (take (i + 1) drivers)
driver_pushed drivers i r numbers now at is push =
    push ∙ (ap (λ (ns : List ℕ). ns ++ r.0 ∷ []) is ∙ sym
    (ap (λ (rs : List DriverNo). numbers_of_drivers rs) (taken drivers i r at)
    ∙ map_more (λ (r : DriverNo). r.0) (take i drivers) r))

pub line_pushed : (lines : List LineSeen) (i : ℕ) (x : LineSeen) (def : LineDef) (numbers now : List ℕ)
    → slice_get lines i ≡ Some x → def ≡ x.def → numbers ≡ numbers_of_lines (take i lines)
    → now ≡ numbers ++ def.line.0 ∷ [] → now ≡ numbers_of_lines (take (i + 1) lines)
line_pushed lines i x def numbers now at same is push =
    push
    ∙ (ap (λ (d : LineDef). numbers ++ d.line.0 ∷ []) same ∙ (ap (λ (ns : List ℕ). ns ++ x.def.line.0 ∷ []) is
    ∙ sym (ap (λ (ls : List LineSeen). numbers_of_lines ls) (taken lines i x at) ∙ map_more (λ (x : LineSeen). x.def.line.0) (take i lines) x)))
