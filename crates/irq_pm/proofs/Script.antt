-- The script of the system's driver: on each line that takes part one disable, and then one enable.
use Rattle.std.proofs.Common.{◌≡◌, ℕ, zero, suc, ◌+◌, ◌==◌, Bool, true, false, ◌&&◌, cond, Some, List, [], ◌∷◌, ◌++◌}
use Rattle.std.proofs.Common.{length, map, filter, slice_get, refl, sym, ap, ap₂, ◌∙◌, subst, arith}
use Rattle.std.proofs.lemmas.List.{append_assoc, map-append}
use Rattle.irq_base.specs.declared.calls.Call.{Call}
use Rattle.irq_base.specs.declared.calls.Call.TheVariants as calls
use Rattle.irq_base.specs.declared.lines.LineDef.{LineDef}
use Rattle.irq_base.specs.declared.numbers.DriverNo.{DriverNo}
use Rattle.irq_base.specs.declared.numbers.LineNo.{LineNo}
use Rattle.irq_model.specs.Due.{calls_by}
use Rattle.irq_model.specs.Kinds.{same_line, same_driver}
use Rattle.irq_model.proofs.Same.{same_self_line, driver_from_same}
use Rattle.irq_laws.proofs.Chosen.{the_same}
use Rattle.irq_laws.proofs.Lists.{both_ways}
use Rattle.board_def.specs.LineOf.{line_of_row, with_driver}
use Rattle.board_def.specs.Rules.{IsBoard, has_driver}
use Rattle.board_def.specs.Seen.{BoardSeen}
use Rattle.board_def.specs.declared.rows.LineRow.{LineRow}
use Rattle.board_def.specs.declared.rows.ScriptCall.{ScriptCall}
use Rattle.board_driver.specs.Longer.{last_driver, by_last}
use Rattle.board_driver.specs.declared.adding.LineCall.{LineCall}
use Rattle.board_play.specs.Current.{calls_on}
use Rattle.board_play.specs.Lines.{defs_of}
use Rattle.board_play.proofs.Members.{AreApart}
use Rattle.board_play.proofs.OfBoard.{apart_defs, has_calls}
use Rattle.irq_pm.proofs.LeftAlone.{script}
use Rattle.irq_pm.specs.SleptBoard.{live_rows, disable_of, enable_of, slept}

-- the driver's calls on the line
abbrev pub own_calls : LineNo → DriverNo → List ScriptCall → List Call
own_calls line r cs = calls_by r (map with_driver (filter (λ c. c.line.0 == line.0) cs))

-- ---- lists

own_more : (line : LineNo) (r : DriverNo) (xs ys : List ScriptCall) → own_calls line r (xs ++ ys) ≡ own_calls line r xs ++ own_calls line r ys
own_more line r [] ys = refl
own_more line r (x ∷ xs) ys = by_line (x.line.0 == line.0) (same_driver r x.driver) (own_more line r xs ys)
  where
    by_line : (l d : Bool) → own_calls line r (xs ++ ys) ≡ own_calls line r xs ++ own_calls line r ys
        → calls_by r (map with_driver (cond l (x ∷ filter (λ c. c.line.0 == line.0) (xs ++ ys)) (filter (λ c. c.line.0 == line.0) (xs ++ ys))))
        ≡ calls_by r (map with_driver (cond l (x ∷ filter (λ c. c.line.0 == line.0) xs) (filter (λ c. c.line.0 == line.0) xs))) ++ own_calls line r ys
    by_line false d deeper = deeper
    by_line true d deeper = by_driver (same_driver r x.driver) deeper
      where
        by_driver : (d : Bool) → own_calls line r (xs ++ ys) ≡ own_calls line r xs ++ own_calls line r ys
            → cond d (x.call ∷ own_calls line r (xs ++ ys)) (own_calls line r (xs ++ ys))
            ≡ cond d (x.call ∷ own_calls line r xs) (own_calls line r xs) ++ own_calls line r ys
        by_driver true deeper = ap (λ (cs : List Call). x.call ∷ cs) deeper
        by_driver false deeper = deeper

-- how many they are
pub counted : (line : LineNo) (r : DriverNo) (cs : List ScriptCall) → calls_on line r cs ≡ length (own_calls line r cs)
counted line r [] = refl
counted line r (c ∷ cs) = by_line (same_line c.line line) (counted line r cs)
  where
    by_driver : (d : Bool) → calls_on line r cs ≡ length (own_calls line r cs)
        → cond d (calls_on line r cs + 1) (calls_on line r cs)
        ≡ length (cond d (c.call ∷ own_calls line r cs) (own_calls line r cs))
    by_driver true deeper = omega (arith, deeper)
    by_driver false deeper = deeper

    by_line : (l : Bool) → calls_on line r cs ≡ length (own_calls line r cs)
        → cond (l && same_driver r c.driver) (calls_on line r cs + 1) (calls_on line r cs)
        ≡ length (calls_by r (map with_driver (cond l (c ∷ filter (λ c. c.line.0 == line.0) cs) (filter (λ c. c.line.0 == line.0) cs))))
    by_line true deeper = by_driver (same_driver r c.driver) deeper
    by_line false deeper = deeper

-- ---- the other drivers' calls

none_by : (line : LineNo) (r : DriverNo) (cs : List ScriptCall)
    → ((i : ℕ) (c : ScriptCall) → slice_get cs i ≡ Some c → same_driver r c.driver ≡ false) → own_calls line r cs ≡ []
none_by line r [] others = refl
none_by line r (c ∷ cs) others = by_line (c.line.0 == line.0) (none_by line r cs (λ i d at. others (suc i) d at))
  where
    by_line : (l : Bool) → own_calls line r cs ≡ [] → calls_by r
        (map with_driver (cond l (c ∷ filter (λ c. c.line.0 == line.0) cs) (filter (λ c. c.line.0 == line.0) cs))) ≡ []
    by_line true deeper = ap (λ (b : Bool). cond b (c.call ∷ own_calls line r cs) (own_calls line r cs)) (others 0 c refl) ∙ deeper
    by_line false deeper = deeper

not_last : (b : BoardSeen) → IsBoard b → has_driver b.drivers last_driver ≡ false → (i : ℕ) (c : ScriptCall)
    → slice_get b.calls i ≡ Some c → same_driver last_driver c.driver ≡ false
not_last b is free i c at = by_test (same_driver last_driver c.driver) refl
  where
    by_test : (t : Bool) → same_driver last_driver c.driver ≡ t → same_driver last_driver c.driver ≡ false
    by_test true same =
        both_ways (has_driver b.drivers last_driver)
        (ap (λ (r : DriverNo). has_driver b.drivers r) (driver_from_same last_driver c.driver same) ∙ (is.calls i c at).driver) free
    by_test false differs = differs

-- ---- its own

-- a call of each of the rows
own_at : (f : LineRow → LineCall) (rows : List LineRow) → List ScriptCall
own_at f rows = map by_last (map f rows)

module _ (b : BoardSeen) (k : Call) (f : LineRow → LineCall) (line_is : (row : LineRow) → (f row).line ≡ row.line)
    (call_is : (row : LineRow) → (f row).call ≡ k) where
  head_is : (row : LineRow) (rows : List LineRow) (line : LineNo) (l : Bool) → (row.line.0 == line.0) ≡ l
      → own_calls line last_driver (by_last (f row) ∷ map by_last (map f rows))
      ≡ cond l (k ∷ own_calls line last_driver (map by_last (map f rows)))
      (own_calls line last_driver (map by_last (map f rows)))
  head_is row rows line l is =
      ap (λ (t : Bool). calls_by last_driver (map with_driver
      (cond t (by_last (f row) ∷ filter (λ c. c.line.0 == line.0) (map by_last (map f rows)))
      (filter (λ c. c.line.0 == line.0) (map by_last (map f rows))))))
      (ap (λ (n : LineNo). n.0 == line.0) (line_is row) ∙ is)
      ∙ by_test l
    where
      by_test : (l : Bool) → calls_by last_driver (map with_driver
          (cond l (by_last (f row) ∷ filter (λ c. c.line.0 == line.0) (map by_last (map f rows)))
          (filter (λ c. c.line.0 == line.0) (map by_last (map f rows)))))
          ≡ cond l (k ∷ own_calls line last_driver (map by_last (map f rows))) (own_calls line last_driver (map by_last (map f rows)))
      by_test true = ap (λ (c : Call). c ∷ own_calls line last_driver (map by_last (map f rows))) (call_is row)
      by_test false = refl

  none_here : (rows : List LineRow) (line : LineNo) → ((i : ℕ) (e : LineDef)
      → slice_get (map (line_of_row b) rows) i ≡ Some e → same_line e.line line ≡ false)
      → own_calls line last_driver (map by_last (map f rows)) ≡ []
  none_here [] line apart = refl
  none_here (row ∷ rows) line apart = head_is row rows line false (apart 0 (line_of_row b row) refl) ∙ none_here rows line (λ i e at. apart (suc i) e at)

  pub once : (rows : List LineRow) → AreApart (map (line_of_row b) rows) → (i : ℕ) (def : LineDef)
      → slice_get (map (line_of_row b) rows) i ≡ Some def
      → own_calls def.line last_driver (map by_last (map f rows)) ≡ k ∷ []
  once [] apart i def at = cc
  once (row ∷ rows) apart zero def at =
      let same : line_of_row b row ≡ def = the_same (line_of_row b row) def at in
      subst (λ (d : LineDef). own_calls d.line last_driver (map by_last (map f (row ∷ rows))) ≡ k ∷ []) same
      (head_is row rows row.line true (same_self_line row.line) ∙ ap (λ (cs : List Call). k ∷ cs) (none_here rows row.line apart.0))
  once (row ∷ rows) apart (suc i) def at =
      head_is row rows def.line false (differs (same_line row.line def.line) refl) ∙ once rows apart.1 i def at
    where
      differs : (t : Bool) → same_line row.line def.line ≡ t → same_line row.line def.line ≡ false
      differs false is = is
      differs true is = both_ways (same_line def.line row.line) (grind arith) (apart.0 i def at)

-- ---- together

module _ (b : BoardSeen) (is : IsBoard b) (long : IsBoard (slept b)) (free : has_driver b.drivers last_driver ≡ false) where
  apart : AreApart (map (line_of_row (slept b)) (live_rows b))
  apart = apart_defs (slept b) long

  abbrev pub disables : List ScriptCall
  disables = map by_last (map disable_of (live_rows b))

  abbrev pub enables : List ScriptCall
  enables = map by_last (map enable_of (live_rows b))

  -- the calls up to the last disable
  pub one_disable : (i : ℕ) (def : LineDef) → slice_get (defs_of (slept b)) i ≡ Some def
      → own_calls def.line last_driver (b.calls ++ disables) ≡ calls.Disable ∷ []
  one_disable i def at =
      own_more def.line last_driver b.calls disables
      ∙ ap₂ (λ (x y : List Call). x ++ y) (none_by def.line last_driver b.calls (not_last b is free))
      (once (slept b) calls.Disable disable_of (λ row. refl) (λ row. refl) (live_rows b) apart i def at)

  pub all_calls : (slept b).calls ≡ b.calls ++ disables ++ enables
  all_calls =
      ap (λ (s : List ScriptCall). b.calls ++ s) (map-append by_last (map disable_of (live_rows b)) (map enable_of (live_rows b)))
      ∙ sym (append_assoc b.calls disables enables)

  pub its_script : (i : ℕ) (def : LineDef) → slice_get (defs_of (slept b)) i ≡ Some def → calls_by last_driver def.calls ≡ script
  its_script i def at =
      ap (λ (cs : List (DriverNo × Call)). calls_by last_driver cs) (has_calls (slept b) i def at)
      ∙ (ap (λ (cs : List ScriptCall). own_calls def.line last_driver cs) all_calls
      ∙ (own_more def.line last_driver (b.calls ++ disables) enables
      ∙ ap₂ (λ (x y : List Call). x ++ y) (one_disable i def at)
      (once (slept b) calls.Enable enable_of (λ row. refl) (λ row. refl) (live_rows b) apart i def at)))

  pub disabled_once : (i : ℕ) (def : LineDef) → slice_get (defs_of (slept b)) i ≡ Some def → calls_on def.line last_driver (b.calls ++ disables) ≡ 1
  disabled_once i def at = counted def.line last_driver (b.calls ++ disables) ∙ ap (λ (cs : List Call). length cs) (one_disable i def at)
