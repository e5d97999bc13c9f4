-- The scripts cut by driver, call by call.
use Rattle.std.proofs.Common.{◌≡◌, ℕ, zero, suc, ◌+◌, ◌<◌, ◌≤◌, ◌==◌, inl, inr, ◌||◌, Bool, true, false, ◌&&◌, is_some}
use Rattle.std.proofs.Common.{cond, IfSome, Option, Some, None, List, [], ◌∷◌, ◌++◌, map, length, get_or, take}
use Rattle.std.proofs.Common.{slice_get, refl, sym, ap, ◌∙◌, subst, arith, append-nil, eq-eqb}
use Rattle.std.proofs.Math.ListN.{length-map}
use Rattle.std.proofs.lemmas.List.{map-set}
use Rattle.irq_base.specs.declared.lines.LineDef.{LineDef}
use Rattle.irq_base.specs.declared.numbers.DriverNo.{DriverNo}
use Rattle.irq_base.specs.declared.numbers.LineNo.{LineNo}
use Rattle.irq_laws.proofs.Chosen.{the_same}
use Rattle.irq_model.specs.Kinds.{same_driver, same_line}
use Rattle.irq_model.proofs.Same.{driver_from_same, same_self_driver, line_from_same}
use Rattle.std.proofs.lemmas.Bool.{false_from_ne_true}
use Rattle.std.proofs.lemmas.Option.{slice_get-get_or, slice_get_within}
use Rattle.board_def.specs.Rules.{IsBoard}
use Rattle.board_def.specs.Seen.{BoardSeen}
use Rattle.board_def.specs.declared.rows.ScriptCall.{ScriptCall}
use Rattle.board_def.proofs.Rising.{Rises}
use Rattle.board_play.specs.Lines.{defs_of}
use Rattle.board_core.specs.Making.{IsCut, AreCut, call_put, with_call}
use Rattle.board_core.specs.Numbers.{IsPlaceOfNumber, numbers_of_defs, numbers_of_drivers}
use Rattle.board_core.specs.Scripts.{ScriptSeen, takes_part, cut, calls_of}
use Rattle.board_core.specs.declared.scripts.PlacedCall.{PlacedCall}
use Rattle.board_core.proofs.MadeOf.{taken, all_taken, map_more}
use Rattle.board_core.proofs.InLists.{set_cases, set_same, map_there}
use Rattle.board_core.proofs.InLists.{one_place}

cut_more : (ds : List LineDef) (r : DriverNo) (cs : List ScriptCall) (c : ScriptCall)
    → cut ds r (cs ++ c ∷ []) ≡ cut ds r cs ++ cond (same_driver r c.driver && takes_part ds c.line) (c ∷ []) []
cut_more ds r [] c = refl
cut_more ds r (d ∷ cs) c = by_test (same_driver r d.driver && takes_part ds d.line) (cut_more ds r cs c)
  where
    by_test : (b : Bool) → cut ds r (cs ++ c ∷ []) ≡ cut ds r cs ++ cond (same_driver r c.driver && takes_part ds c.line) (c ∷ []) []
        → cond b (d ∷ cut ds r (cs ++ c ∷ [])) (cut ds r (cs ++ c ∷ []))
        ≡ cond b (d ∷ cut ds r cs) (cut ds r cs) ++ cond (same_driver r c.driver && takes_part ds c.line) (c ∷ [])
        []
    by_test true deeper = ap (λ (zs : List ScriptCall). d ∷ zs) deeper
    by_test false deeper = deeper

calls_more : (steps : List PlacedCall) (x : PlacedCall) → calls_of (steps ++ x ∷ []) ≡ calls_of steps ++ x.call ∷ []
calls_more steps x = map_more (λ (x : PlacedCall). x.call) steps x

-- a call that is passed over
cut_passed : (ds : List LineDef) (r : DriverNo) (calls : List ScriptCall) (steps : List PlacedCall) (i : ℕ)
    (c : ScriptCall) → slice_get calls i ≡ Some c → calls_of steps ≡ cut ds r (take i calls)
    → (same_driver r c.driver && takes_part ds c.line) ≡ false
    → calls_of steps ≡ cut ds r (take (i + 1) calls)
cut_passed ds r calls steps i c at is no_call =
    is ∙ sym (ap (cut ds r) (taken calls i c at) ∙ (cut_more ds r (take i calls) c
    ∙ (ap (λ (b : Bool). cut ds r (take i calls) ++ cond b (c ∷ []) []) no_call
    ∙ append-nil (cut ds r (take i calls)))))

-- one that is the driver's, on a line that takes part
cut_pushed : (ds : List LineDef) (r : DriverNo) (calls : List ScriptCall) (steps : List PlacedCall) (i : ℕ)
    (x : PlacedCall) → slice_get calls i ≡ Some x.call → calls_of steps ≡ cut ds r (take i calls)
    → (same_driver r x.call.driver && takes_part ds x.call.line) ≡ true
    → calls_of (steps ++ x ∷ []) ≡ cut ds r (take (i + 1) calls)
cut_pushed ds r calls steps i x at is yes_call =
    calls_more steps x ∙ (ap (λ (zs : List ScriptCall). zs ++ x.call ∷ []) is
    ∙ sym (ap (cut ds r) (taken calls i x.call at) ∙ (cut_more ds r (take i calls) x.call
    ∙ ap (λ (b : Bool). cut ds r (take i calls) ++ cond b (x.call ∷ []) []) yes_call)))

-- ---- one more call

-- a line takes part exactly if its number has a place
part_by_number : (ds : List LineDef) (line : LineNo) (o : Option ℕ) → IsPlaceOfNumber (numbers_of_defs ds) line.0 o → takes_part ds line ≡ is_some o
part_by_number ds line (Some k) at = there ds k at
  where
    there : (ds : List LineDef) (k : ℕ) → slice_get (numbers_of_defs ds) k ≡ Some line.0 → takes_part ds line ≡ true
    there [] k at = cc
    there (d ∷ ds) zero at = ap (λ (b : Bool). b || takes_part ds line) (ap (λ (n : ℕ). line.0 == n) (the_same d.line.0 line.0 at) ∙ itself line)
      where
        itself : (l : LineNo) → (l.0 == l.0) ≡ true
        itself l = eq-eqb l.0 l.0 refl
    there (d ∷ ds) (suc k) at = or_true (same_line line d.line) (there ds k at)
      where
        or_true : (a : Bool) → takes_part ds line ≡ true → (a || takes_part ds line) ≡ true
        or_true true h = refl
        or_true false h = h
part_by_number ds line None none = nowhere ds none
  where
    nowhere : (ds : List LineDef) → ((k : ℕ) → slice_get (numbers_of_defs ds) k ≡ Some line.0 → ⊥) → takes_part ds line ≡ false
    nowhere [] none = refl
    nowhere (d ∷ ds) none =
        ap (λ (b : Bool). b || takes_part ds line) (false_from_ne_true (same_line line d.line)
        (λ same. none 0 (ap (λ (l : LineNo). Some l.0) (sym (line_from_same line d.line same)))))
        ∙ nowhere ds (λ k at. none (suc k) at)

module _ (board : BoardSeen) (isb : IsBoard board) (i : ℕ) (c : ScriptCall) (at : slice_get board.calls i ≡ Some c) where
  -- of a script that the call isn't put to
  passed : (s : ScriptSeen) → IsCut board i s → (same_driver s.driver c.driver && takes_part (defs_of board) c.line) ≡ false → IsCut board (i + 1) s
  passed s is none = record { at = is.at; made = is.made; cut = cut_passed (defs_of board) s.driver board.calls s.calls i c at is.cut none; places = is.places }

  -- of the one that it is put to
  pushed : (s : ScriptSeen) (k : ℕ) → IsCut board i s → same_driver s.driver c.driver ≡ true
      → IsPlaceOfNumber (numbers_of_defs (defs_of board)) c.line.0 (Some k)
      → IsCut board (i + 1) (record s { calls = s.calls ++ record { place = k; call = c } ∷ [] })
  pushed s k is mine place =
      record {
        at = is.at;
        made = is.made;
        cut = cut_pushed (defs_of board) s.driver board.calls s.calls i (record { place = k; call = c }) at is.cut
            (ap (λ (b : Bool). b && takes_part (defs_of board) c.line) mine
            ∙ part_by_number (defs_of board) c.line (Some k) place);
        places = places s.calls is.places;
      }
    where
      places : (steps : List PlacedCall) → ((i : ℕ) (x : PlacedCall) → slice_get steps i ≡ Some x
          → slice_get (numbers_of_defs (defs_of board)) x.place ≡ Some x.call.line.0)
          → (i : ℕ) (x : PlacedCall) → slice_get (steps ++ record { place = k; call = c } ∷ []) i ≡ Some x
          → slice_get (numbers_of_defs (defs_of board)) x.place ≡ Some x.call.line.0
      places [] old zero x at_x = subst (λ (w : PlacedCall). slice_get (numbers_of_defs (defs_of board)) w.place
          ≡ Some w.call.line.0) (the_same (record { place = k; call = c }) x at_x) place
      places [] old (suc i) x at_x = cc
      places (w ∷ ws) old zero x at_x = old zero x at_x
      places (w ∷ ws) old (suc i) x at_x = places ws (λ j y h. old (suc j) y h) i x at_x

  -- a driver that isn't the call's
  not_mine : (r : DriverNo) → ((r ≡ c.driver) → ⊥) → (same_driver r c.driver && takes_part (defs_of board) c.line) ≡ false
  not_mine r other = ap (λ (b : Bool). b && takes_part (defs_of board) c.line)
      (false_from_ne_true (same_driver r c.driver) (λ same. other (driver_from_same r c.driver same)))

  and_none : (a : Bool) → takes_part (defs_of board) c.line ≡ false → (a && takes_part (defs_of board) c.line) ≡ false
  and_none true h = h
  and_none false h = refl

  driver_back : (rs : List DriverNo) (j : ℕ) → slice_get (numbers_of_drivers rs) j ≡ Some c.driver.0 → slice_get rs j ≡ Some c.driver
  driver_back [] j h = cc
  driver_back (r ∷ rs) zero h = ap (λ (d : DriverNo). Some d)
      (driver_from_same r c.driver (ap (λ (n : ℕ). n == c.driver.0) (the_same r.0 c.driver.0 h)
      ∙ same_self_driver c.driver))
  driver_back (r ∷ rs) (suc j) h = driver_back rs j h

  rises : Rises (λ (r : DriverNo). r.0) board.drivers
  rises i r at = (isb.drivers i r at).rises

  module _ (scripts : List ScriptSeen) (are : AreCut board i scripts) where
    driver_at : (j : ℕ) (s : ScriptSeen) → slice_get scripts j ≡ Some s → slice_get board.drivers j ≡ Some s.driver
    driver_at j s at_s = subst (λ (rs : List DriverNo). slice_get rs j ≡ Some s.driver) are.drivers (map_there (λ (s : ScriptSeen). s.driver) scripts j s at_s)

    pub one_more : (q o : Option ℕ) → IsPlaceOfNumber (numbers_of_drivers board.drivers) c.driver.0 q
        → IsPlaceOfNumber (numbers_of_defs (defs_of board)) c.line.0 o → AreCut board (i + 1) (with_call q o c scripts)
    one_more None o none place = record {
      drivers = are.drivers;
      each
          = λ j s at_s. passed s (are.each j s at_s) (not_mine s.driver
          (λ same. none j (number_there board.drivers j s.driver (driver_at j s at_s)
          ∙ ap (λ (r : DriverNo). Some r.0) same)));
    }
      where
        number_there : (rs : List DriverNo) (j : ℕ) (r : DriverNo) → slice_get rs j ≡ Some r → slice_get (numbers_of_drivers rs) j ≡ Some r.0
        number_there rs j r h = map_there (λ (r : DriverNo). r.0) rs j r h
    one_more (Some q) None its none = record {
      drivers = are.drivers;
      each
          = λ j s at_s. passed s (are.each j s at_s) (and_none (same_driver s.driver c.driver)
          (part_by_number (defs_of board) c.line None none));
    }
    one_more (Some q) (Some k) its place = by_script (slice_get scripts q) refl
      where
        mine : slice_get board.drivers q ≡ Some c.driver
        mine = driver_back board.drivers q its

        other : (j : ℕ) (s : ScriptSeen) → slice_get scripts j ≡ Some s → ((j ≡ q) → ⊥) → IsCut board (i + 1) s
        other j s at_s differs = passed s (are.each j s at_s)
            (not_mine s.driver (λ same. differs (one_place board.drivers rises j q s.driver c.driver
            (driver_at j s at_s) mine same)))

        no_script : (o : Option ScriptSeen) (s : ScriptSeen) → o ≡ None → o ≡ Some s → ⊥
        no_script None s none some = cc
        no_script (Some t) s none some = cc

        by_script : (p : Option ScriptSeen) → slice_get scripts q ≡ p → AreCut board (i + 1) (call_put p q k c scripts)
        by_script None none = record {
          drivers = are.drivers;
          each
              = λ j s at_s. other j s at_s (λ same. no_script (slice_get scripts q) s none
              (ap (λ (n : ℕ). slice_get scripts n) (sym same) ∙ at_s));
        }
        by_script (Some t) there =
            record {
              drivers = map-set (λ (s : ScriptSeen). s.driver) scripts q _
                  ∙ (set_same (map (λ (s : ScriptSeen). s.driver) scripts) q t.driver
                  (map_there (λ (s : ScriptSeen). s.driver) scripts q t there) ∙ are.drivers);
              each = λ j s at_s. elim (set_cases scripts q j _ s at_s) [
                | inl h ↦ subst (λ (z : ScriptSeen). IsCut board (i + 1) z) h.1 (pushed t k (are.each q t there) (driver_is t there) place)
                | inr h ↦ other j s h.1 h.0
              ];
            }
          where
            driver_is : (t : ScriptSeen) → slice_get scripts q ≡ Some t → same_driver t.driver c.driver ≡ true
            driver_is t there = ap (λ (r : DriverNo). same_driver r c.driver)
                (the_same t.driver c.driver (sym (driver_at q t there) ∙ mine)) ∙ same_self_driver c.driver

-- as the code has it
pub next_cut : {board : BoardSeen} → IsBoard board → {i : ℕ} {calls : List ScriptCall} (d : ScriptCall)
    {scripts now : List ScriptSeen} {lines drivers : List ℕ} (q o : Option ℕ) → calls ≡ board.calls → i < length calls
    → AreCut board i scripts
    → lines ≡ numbers_of_defs (defs_of board) → drivers ≡ numbers_of_drivers board.drivers
    → IsPlaceOfNumber drivers (get_or calls i d).driver.0 q → IsPlaceOfNumber lines (get_or calls i d).line.0 o
    → now ≡ with_call q o (get_or calls i d) scripts → AreCut board (i + 1) now
next_cut {board} isb {i} {calls} d {scripts} q o same within are of_lines of_drivers its place is =
    let c : ScriptCall = get_or calls i d in
    subst (λ (ss : List ScriptSeen). AreCut board (i + 1) ss) (sym is)
    (one_more board isb i c (subst (λ (cs : List ScriptCall). slice_get cs i ≡ Some c) same (slice_get-get_or calls i d within)) scripts are q o
    (subst (λ (ns : List ℕ). IsPlaceOfNumber ns c.driver.0 q) of_drivers its) (subst (λ (ns : List ℕ). IsPlaceOfNumber ns c.line.0 o) of_lines place))

pub all_cut : {board : BoardSeen} {i : ℕ} {calls : List ScriptCall} {scripts : List ScriptSeen} → calls ≡ board.calls
    → length calls ≤ i → i ≤ length calls → AreCut board i scripts → AreCut board (length board.calls) scripts
all_cut {board} {i} {calls} {scripts} same end within are =
    let e : i ≡ length board.calls = (let l = ap (λ (cs : List ScriptCall). length cs) same in omega (arith, end, within, l)) in
    subst (λ (n : ℕ). AreCut board n scripts) e are

-- ---- scripts without calls

-- the scripts of the first i drivers
pub record AreEmpty (board : BoardSeen) (i : ℕ) (scripts : List ScriptSeen) : Type 0 where
  pub drivers : map (λ (s : ScriptSeen). s.driver) scripts ≡ take i board.drivers
  pub each : (j : ℕ) (s : ScriptSeen) → slice_get scripts j ≡ Some s → IsCut board 0 s

pub empty_more : (board : BoardSeen) (i : ℕ) (r : DriverNo) (scripts now : List ScriptSeen) (s : ScriptSeen)
    → slice_get board.drivers i ≡ Some r → s ≡ record { driver = r; calls = []; at = 0; made = 0 }
    → now ≡ scripts ++ s ∷ []
    → AreEmpty board i scripts → AreEmpty board (i + 1) now
empty_more board i r scripts now s at is push are =
    record {
      drivers = ap (λ (ss : List ScriptSeen). map (λ (s : ScriptSeen). s.driver) ss) push ∙ (map_more (λ (s : ScriptSeen). s.driver) scripts s
          ∙ (ap (λ (rs : List DriverNo). rs ++ s.driver ∷ []) are.drivers
          ∙ (ap (λ (t : ScriptSeen). take i board.drivers ++ t.driver ∷ []) is
          ∙ sym (taken board.drivers i r at))));
      each = λ j t at_t. each scripts are.each j t (ap (λ (ss : List ScriptSeen). slice_get ss j) (sym push) ∙ at_t);
    }
  where
    empty : IsCut board 0 (record { driver = r; calls = []; at = 0; made = 0 })
    empty = record { at = refl; made = refl; cut = refl; places = λ i x at. nothing i x at }
      where
        nothing : (i : ℕ) (x : PlacedCall) → slice_get [] i ≡ Some x → slice_get (numbers_of_defs (defs_of board)) x.place ≡ Some x.call.line.0
        nothing i x at = cc

    each : (scripts : List ScriptSeen) → ((j : ℕ) (t : ScriptSeen) → slice_get scripts j ≡ Some t → IsCut board 0 t)
        → (j : ℕ) (t : ScriptSeen) → slice_get (scripts ++ s ∷ []) j ≡ Some t → IsCut board 0 t
    each [] old zero t at_t = subst (λ (z : ScriptSeen). IsCut board 0 z) (sym is ∙ the_same s t at_t) empty
    each [] old (suc j) t at_t = cc
    each (w ∷ ws) old zero t at_t = old zero t at_t
    each (w ∷ ws) old (suc j) t at_t = each ws (λ k u h. old (suc k) u h) j t at_t

pub all_empty : (board : BoardSeen) (i : ℕ) (scripts : List ScriptSeen) → length board.drivers ≤ i → AreEmpty board i scripts → AreCut board 0 scripts
all_empty board i scripts end are = record { drivers = are.drivers ∙ all_taken board.drivers i end; each = are.each }

-- at a driver's place there is a script
pub script_there : (board : BoardSeen) (scripts : List ScriptSeen) (drivers : List ℕ) (n : ℕ) (q : Option ℕ)
    → map (λ (s : ScriptSeen). s.driver) scripts ≡ board.drivers → drivers ≡ numbers_of_drivers board.drivers
    → IsPlaceOfNumber drivers n q
    → IfSome q (λ j. j < length scripts)
script_there board scripts drivers n None are of_drivers place = tt
script_there board scripts drivers n (Some j) are of_drivers place =
    let l = slice_get_within drivers j n place in
    let a = ap (λ (ns : List ℕ). length ns) of_drivers in
    let b = length-map board.drivers (λ (r : DriverNo). r.0) in
    let d = ap (λ (rs : List DriverNo). length rs) are in
    let e = length-map scripts (λ (s : ScriptSeen). s.driver) in
    omega (arith, l, a, b, d, e)
