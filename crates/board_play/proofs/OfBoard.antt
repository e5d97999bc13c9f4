-- What is known of the definitions of a board's lines: each is the definition of a row, whatever
-- the layout refuses.
use Rattle.std.proofs.Common.{◌≡◌, ℕ, zero, suc, ◌+◌, ◌<◌, ◌==◌, Bool, true, false, ◌&&◌, cond, Some, List, [], ◌∷◌}
use Rattle.std.proofs.Common.{map, filter, length, take, slice_get, refl, sym, ap, ◌∙◌, subst, inl, inr, arith}
use Rattle.std.specs.List.{list_any}
use Rattle.std.proofs.lemmas.Bool.{or_cases}
use Rattle.irq_base.specs.declared.calls.Call.{Call}
use Rattle.irq_base.specs.declared.devices.DeviceDef.{DeviceDef}
use Rattle.irq_base.specs.declared.lines.LineDef.{LineDef}
use Rattle.irq_base.specs.declared.numbers.DevNo.{DevNo}
use Rattle.irq_base.specs.declared.numbers.DriverNo.{DriverNo}
use Rattle.irq_base.specs.declared.numbers.LineNo.{LineNo}
use Rattle.irq_model.specs.Due.{calls_by}
use Rattle.irq_model.specs.Kinds.{same_line, same_driver}
use Rattle.irq_model.specs.Lines.{is_device, has_device}
use Rattle.irq_model.specs.Valid.{IsValid}
use Rattle.irq_model.specs.ValidRuns.{HasValidRuns}
use Rattle.irq_model.proofs.Same.{dev_from_same, line_from_same}
use Rattle.irq_laws.proofs.Chosen.{the_same}
use Rattle.board_def.specs.Layout.{layout_of}
use Rattle.domain_rules.specs.Layout.{is_mapped}
use Rattle.board_def.specs.LineOf.{line_of_row, with_driver}
use Rattle.board_def.specs.Rules.{IsBoard, find_device}
use Rattle.board_def.specs.Seen.{BoardSeen}
use Rattle.domain_rules.specs.declared.layouts.Placement.{Placement}
use Rattle.board_def.specs.declared.rows.LineRow.{LineRow}
use Rattle.board_def.specs.declared.rows.ScriptCall.{ScriptCall}
use Rattle.board_def.proofs.RunRules.{valid_runs}
use Rattle.board_def.proofs.Validity.{valid_row}
use Rattle.board_def.proofs.Rising.{Rises, rises_on, head_of, differ_back, device_at}
use Rattle.board_play.specs.Current.{calls_on}
use Rattle.board_play.specs.Lines.{mapped, defs_of}
use Rattle.board_play.proofs.Members.{AreApart}

-- the definition is made of one of the rows
pub record OfRow (b : BoardSeen) (rows : List LineRow) (d : LineDef) : Type 0 where
  pub place : ℕ
  pub row : LineRow
  pub at : slice_get rows place ≡ Some row
  pub is : line_of_row b row ≡ d

later : (b : BoardSeen) (row : LineRow) (rows : List LineRow) (d : LineDef) → OfRow b rows d → OfRow b (row ∷ rows) d
later b row rows d o = record { place = suc o.place; row = o.row; at = o.at; is = o.is }

of_row : (b : BoardSeen) (rows : List LineRow) (places : List Placement) (i : ℕ) (d : LineDef)
    → slice_get (map (line_of_row b) (mapped rows places)) i ≡ Some d → OfRow b rows d
of_row b [] places i d at = cc
of_row b (row ∷ rows) [] i d at = cc
of_row b (row ∷ rows) (place ∷ places) i d at = by_test (is_mapped place) i at (λ i at. of_row b rows places i d at)
  where
    by_test : (m : Bool) (i : ℕ) → slice_get (map (line_of_row b)
        (cond m (row ∷ mapped rows places) (mapped rows places))) i ≡ Some d
        → ((i : ℕ) → slice_get (map (line_of_row b) (mapped rows places)) i ≡ Some d → OfRow b rows d)
        → OfRow b (row ∷ rows) d
    by_test true zero at deeper = record { place = zero; row = row; at = refl; is = the_same (line_of_row b row) d at }
    by_test true (suc i) at deeper = later b row rows d (deeper i at)
    by_test false i at deeper = later b row rows d (deeper i at)

pub def_of_row : (b : BoardSeen) (i : ℕ) (d : LineDef) → slice_get (defs_of b) i ≡ Some d → OfRow b b.lines d
def_of_row b i d at = of_row b b.lines (layout_of b) i d at

-- ---- they are valid

abbrev pub AreValid : BoardSeen → Type 0
AreValid board = (i : ℕ) (def : LineDef) → slice_get (defs_of board) i ≡ Some def → IsValid def

pub valid_defs : (b : BoardSeen) → IsBoard b → AreValid b
valid_defs b board i d at = let o = def_of_row b i d at in subst (λ (d : LineDef). IsValid d) o.is (valid_row b o.place o.row board o.at)

-- ---- what their runs call is valid

pub valid_runs_defs : (b : BoardSeen) → IsBoard b → (i : ℕ) (def : LineDef) → slice_get (defs_of b) i ≡ Some def → HasValidRuns def
valid_runs_defs b board i d at = let o = def_of_row b i d at in subst (λ (d : LineDef). HasValidRuns d) o.is (valid_runs b board o.row)

-- ---- their numbers differ

apart : (b : BoardSeen) (rows : List LineRow) (places : List Placement) → Rises (λ (row : LineRow). row.line.0) rows
    → AreApart (map (line_of_row b) (mapped rows places))
apart b [] places rises = tt
apart b (row ∷ rows) [] rises = tt
apart b (row ∷ rows) (place ∷ places) rises = by_test (is_mapped place) (apart b rows places (rises_on (λ (row : LineRow). row.line.0) row rows rises))
  where
    above : (i : ℕ) (e : LineDef) → slice_get (map (line_of_row b) (mapped rows places)) i ≡ Some e → same_line e.line row.line ≡ false
    above i e at =
        let o = of_row b rows places i e at in
        let less : row.line.0 < o.row.line.0 = head_of (λ (x : LineRow). x.line.0 < o.row.line.0) row (take o.place rows) (rises (suc o.place) o.row o.at) in
        subst (λ (d : LineDef). same_line d.line row.line ≡ false) o.is (differ_back row.line.0 o.row.line.0 less)

    by_test : (m : Bool) → AreApart (map (line_of_row b) (mapped rows places))
        → AreApart (map (line_of_row b) (cond m (row ∷ mapped rows places) (mapped rows places)))
    by_test true deeper = (above, deeper)
    by_test false deeper = deeper

pub apart_defs : (b : BoardSeen) → IsBoard b → AreApart (defs_of b)
apart_defs b board = apart b b.lines (layout_of b) (λ i row at. (board.lines i row at).rises)

-- ---- their devices are the board's on the line

-- the device stands among these, and is on the line
record IsAmong (line : LineNo) (dev : DevNo) (xs : List DeviceDef) : Type 0 where
  pub place : ℕ
  pub device : DeviceDef
  pub at : slice_get xs place ≡ Some device
  pub its : dev ≡ device.dev
  pub on_line : device.line ≡ line

among : (line : LineNo) (dev : DevNo) (xs : List DeviceDef)
    → list_any (is_device dev) (filter (λ x. x.line.0 == line.0) xs) ≡ true → IsAmong line dev xs
among line dev [] h = cc
among line dev (x ∷ xs) h = by_test (x.line.0 == line.0) refl h (among line dev xs)
  where
    later : IsAmong line dev xs → IsAmong line dev (x ∷ xs)
    later a = record { place = suc a.place; device = a.device; at = a.at; its = a.its; on_line = a.on_line }

    by_test : (b : Bool) → same_line x.line line ≡ b → list_any (is_device dev)
        (cond b (x ∷ filter (λ x. x.line.0 == line.0) xs) (filter (λ x. x.line.0 == line.0) xs)) ≡ true
        → (list_any (is_device dev) (filter (λ x. x.line.0 == line.0) xs) ≡ true → IsAmong line dev xs)
        → IsAmong line dev (x ∷ xs)
    by_test true on h deeper = elim (or_cases (is_device dev x) (list_any (is_device dev) (filter (λ x. x.line.0 == line.0) xs)) h) [
      | inl is ↦ record { place = zero; device = x; at = refl; its = dev_from_same dev x.dev is; on_line = line_from_same x.line line on }
      | inr there ↦ later (deeper there)
    ]
    by_test false off h deeper = later (deeper h)

-- the device is found on the board, on this line
pub record IsFoundOn (b : BoardSeen) (dev : DevNo) (line : LineNo) : Type 0 where
  pub device : DeviceDef
  pub found : find_device b.devices dev ≡ Some device
  pub on_line : device.line ≡ line

pub device_found : (b : BoardSeen) → IsBoard b → (i : ℕ) (d : LineDef) → slice_get (defs_of b) i ≡ Some d
    → (dev : DevNo) → has_device d dev ≡ true → IsFoundOn b dev d.line
device_found b board i d at dev named =
    let o = def_of_row b i d at in
    let a = among o.row.line dev b.devices (subst (λ (d : LineDef). has_device d dev ≡ true) (sym o.is) named) in
    record {
      device = a.device;
      found = ap (λ (e : DevNo). find_device b.devices e) a.its
          ∙ device_at b.devices a.place a.device (λ i x at. (board.devices i x at).rises) a.at;
      on_line = a.on_line ∙ ap (λ (d : LineDef). d.line) o.is;
    }

-- ---- their calls are the script's on the line

one_more : (cs : List (DriverNo × Call)) (r : DriverNo) (c : ScriptCall) (s : Bool)
    → length (cond s (c.call ∷ calls_by r cs) (calls_by r cs))
    ≡ cond s (length (calls_by r cs) + 1) (length (calls_by r cs))
one_more cs r c true = omega arith
one_more cs r c false = refl

calls_of_row : (line : LineNo) (r : DriverNo) (cs : List ScriptCall)
    → length (calls_by r (map with_driver (filter (λ c. c.line.0 == line.0) cs))) ≡ calls_on line r cs
calls_of_row line r [] = refl
calls_of_row line r (c ∷ cs) = by_test (c.line.0 == line.0) (calls_of_row line r cs)
  where
    by_test : (l : Bool) → length (calls_by r (map with_driver (filter (λ c. c.line.0 == line.0) cs))) ≡ calls_on line r cs
        → length (calls_by r (map with_driver (cond l (c ∷ filter (λ c. c.line.0 == line.0) cs)
        (filter (λ c. c.line.0 == line.0) cs)))) ≡ cond (l && same_driver r c.driver) (calls_on line r cs + 1)
        (calls_on line r cs)
    by_test true deeper =
        one_more (map with_driver (filter (λ c. c.line.0 == line.0) cs)) r c (same_driver r c.driver)
        ∙ ap (λ (n : ℕ). cond (same_driver r c.driver) (n + 1) n) deeper
    by_test false deeper = deeper

pub calls_fit : (b : BoardSeen) (i : ℕ) (d : LineDef) → slice_get (defs_of b) i ≡ Some d → (r : DriverNo)
    → length (calls_by r d.calls) ≡ calls_on d.line r b.calls
calls_fit b i d at r =
    let o = def_of_row b i d at in
    subst (λ (d : LineDef). length (calls_by r d.calls) ≡ calls_on d.line r b.calls) o.is (calls_of_row o.row.line r b.calls)

-- the definition has the calls about its line
pub has_calls : (b : BoardSeen) (i : ℕ) (d : LineDef) → slice_get (defs_of b) i ≡ Some d
    → d.calls ≡ map with_driver (filter (λ c. c.line.0 == d.line.0) b.calls)
has_calls b i d at = let o = def_of_row b i d at in subst (λ (d : LineDef). d.calls ≡ map with_driver (filter (λ c. c.line.0 == d.line.0) b.calls)) o.is refl
