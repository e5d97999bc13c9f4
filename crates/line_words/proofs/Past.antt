-- The numbers of a history: its canonical state is read off them, and they are those that are looked up in it.
use Rattle.std.proofs.Common.{◌≡◌, ℕ, ◌≤◌, Bool, true, false, ◌&&◌, cond, is_some, Option, List, [], ◌∷◌, length, refl, sym, ap, subst, ◌∙◌, arith}
use Rattle.irq_base.specs.Cell.{Cell}
use Rattle.irq_base.specs.declared.calls.Flags.{Flags}
use Rattle.irq_base.specs.declared.devices.DeviceDef.{DeviceDef}
use Rattle.irq_base.specs.declared.entries.Entry.{Entry}
use Rattle.irq_base.specs.declared.lines.LineDef.{LineDef}
use Rattle.irq_base.specs.declared.numbers.DevNo.{DevNo}
use Rattle.irq_base.specs.declared.numbers.DriverNo.{DriverNo}
use Rattle.irq_model.specs.Legal.{IsLegalPast}
use Rattle.irq_model.specs.Lines.{serves}
use Rattle.irq_model.specs.Rounds.{has_begun}
use Rattle.irq_model.specs.Valid.{IsValid}
use Rattle.irq_laws.proofs.ServedLaws.{has_target}
use Rattle.irq_laws.specs.Driven.{cell_with}
use Rattle.irq_laws.specs.LogLimit.{with_log}
use Rattle.device_table.specs.Rows.{all_with, at, table_by}
use Rattle.act_list.specs.Lists.{cleared, flags_of}
use Rattle.act_thread.specs.Steps.{idle_row}
use Rattle.act_thread.specs.declared.rows.ThreadRow.{ThreadRow}
use Rattle.affinity.specs.Kept.{HasProcessor}
use Rattle.ask_counts.specs.Rows.{no_asks}
use Rattle.ask_counts.specs.declared.rows.AskRow.{AskRow}
use Rattle.run_scripts.specs.Places.{PlacesSeen, first_place, first_row}
use Rattle.run_scripts.specs.declared.rows.RunPlace.{RunPlace}
use Rattle.run_scripts.specs.declared.rows.RunRow.{RunRow}
use Rattle.line_scripts.specs.Rows.{RowSeen, place_of, within_of}
use Rattle.line_marks.proofs.Bounds.{counts_below}
use Rattle.line_marks.proofs.CellFollows.{cell_is}
use Rattle.line_marks.proofs.DueIs.{call_is}
use Rattle.line_marks.specs.Actions.{actions_of}
use Rattle.line_marks.specs.Asks.{ask_row}
use Rattle.line_marks.specs.Next.{due_call_in}
use Rattle.line_marks.specs.Places.{places_of, run_row}
use Rattle.line_marks.specs.Scripts.{IsAt}
use Rattle.line_marks.specs.State.{StateSeen, first_state, state_of}
use Rattle.line_marks.specs.Threads.{thread_of}
use Rattle.line_futures.proofs.Placed.{place_is}
use Rattle.line_futures.specs.Canon.{canon, canon_row, canon_run, canon_runs, canon_places, each_row, is_working, is_thread_working, serves_at}
use Rattle.line_futures.specs.Places.{place_by, within_by, count_in}
use Rattle.line_words.proofs.Plain.{never_quiet, places_plain}
use Rattle.line_words.proofs.Links.{all_go, can_link, has_processor}
use Rattle.line_words.proofs.Placing.{all_at, behind_places, scripts_all}
use Rattle.line_words.proofs.Putting.{mask_is, rows_by, rows_of_cleared, rows_of_each}
use Rattle.line_words.proofs.Shaped.{IsShaped, read_is, tables_read, tables_shaped, linked_there, places_there}
use Rattle.line_words.proofs.Tables.{table_told}
use Rattle.line_words.specs.Again.{unbitted, Fits, CanLinkAll}
use Rattle.line_words.specs.Node.{drivers_in, places_words, node}
use Rattle.line_words.specs.Reading.{mask_at, with_fixed, with_tables, with_linked, linked_in, linked_from, places_from, go_all}
use Rattle.line_words.specs.Scripts.{AreScripts}
use Rattle.line_words.specs.Tables.{HasRows, HasTables, AreSameTables, bare, first_places}
use Rattle.line_words.specs.Told.{rows_words, begun_told, thread_told, ask_told, quiet_told, more_told, places_told, state_told}
use Rattle.line_words.specs.Words.{has_more, begun_words, thread_words, ask_words, quiet_words, place_words, run_words, more_words, table_words}
use Rattle.line_words.specs.Words.{desc_words, round_words, freeing_words, linked_words}

-- ---- the canonical tables are tables

begun_by : (flow : Bool) (f : DevNo → Bool) (xs : List DeviceDef) → cond flow (table_by f xs) (cleared (table_by f xs)) ≡ table_by (λ d. flow && f d) xs
begun_by true f xs = refl
begun_by false f [] = refl
begun_by false f (x ∷ xs) = ap (λ (t : List (DevNo × Bool)). (x.dev, false) ∷ t) (begun_by false f xs)

each_by : {R : Type 0} (c : DevNo → R → R) (f : DevNo → R) (xs : List DeviceDef) → each_row c (table_by f xs) ≡ table_by (λ d. c d (f d)) xs
each_by c f [] = refl
each_by {R} c f (x ∷ xs) = ap (λ (u : List (DevNo × R)). (x.dev, c x.dev (f x.dev)) ∷ u) (each_by c f xs)

abbrev placed_by : RunPlace → List (DevNo × RunRow) → PlacesSeen
placed_by w rows = record { work = w; rows = rows }

-- where no run has begun there is nothing to take out
firsts : (h t : DevNo → Bool) (xs : List DeviceDef) → canon_runs h t (all_with first_row xs) ≡ all_with first_row xs
firsts h t [] = refl
firsts h t (x ∷ xs) =
    ap (λ (r : RunRow). (x.dev, r) ∷ canon_runs h t (all_with first_row xs)) (none (h x.dev) (t x.dev))
    ∙ ap (λ (u : List (DevNo × RunRow)). (x.dev, first_row) ∷ u) (firsts h t xs)
  where
    none : (a b : Bool) → canon_run a b first_row ≡ first_row
    none true true = refl
    none true false = refl
    none false true = refl
    none false false = refl

-- the greatest limit of a log is as good as any
pub longer : (def : LineDef) → IsValid def → IsValid (with_log def 100000000)
longer def valid = record {
  some_cpu = valid.some_cpu;
  few_cpus = valid.few_cpus;
  some_window = valid.some_window;
  small_window = valid.small_window;
  limit = valid.limit;
  some_log = omega arith;
  small_log = omega arith;
  few_devices = valid.few_devices;
  few_calls = valid.few_calls;
  mask = valid.mask;
  edge_flow = valid.edge_flow;
  level_flow = valid.level_flow;
  unlazy = valid.unlazy;
  eoi_keeps = valid.eoi_keeps;
  eoi_retriggers = valid.eoi_retriggers;
  devices = valid.devices;
  distinct = valid.distinct;
  calls = valid.calls;
  owners = valid.owners;
  freed = valid.freed;
}

module _ (def : LineDef) (past : List Entry) where
  abbrev pub begun_of : DevNo → Bool
  begun_of d = is_some (state_of def past).desc.flow && has_begun def past d

  abbrev pub asks_of_dev : DevNo → AskRow
  asks_of_dev d =
      canon_row (serves_at (state_of def past) d) (is_working (state_of def past).round.working d)
      (is_thread_working (state_of def past).threads d) (ask_row def past d)

  abbrev pub runs_of_dev : DevNo → RunRow
  runs_of_dev d =
      canon_run (is_working (state_of def past).round.working d) (is_thread_working (state_of def past).threads d) (run_row def past d)

  module _ (valid : IsValid def) (legal : IsLegalPast def past) where
    cell_so : (state_of def past).cell ≡ cell_with def (state_of def past).desc.masked (state_of def past).cell.stored
        (state_of def past).cell.sent (state_of def past).cell.high (serves def && is_some (state_of def past).desc.flow)
    cell_so =
        let P : Cell → Type 0 = λ c. c ≡ cell_with def (state_of def past).desc.masked c.stored c.sent c.high
        (serves def && is_some (state_of def past).desc.flow) in
        subst P (sym (cell_is def past valid legal)) refl

    unbegun_here : (h t : DevNo → Bool) → has_more def ≡ false → canon_places h t (places_of def past) ≡ first_places def
    unbegun_here h t plain = ap (canon_places h t) (places_plain def plain past) ∙ ap (placed_by first_place) (firsts h t def.devices)

    pub shaped : IsShaped def begun_of (thread_of past) asks_of_dev runs_of_dev (flags_of (actions_of past)) (canon (state_of def past))
    shaped = record {
      unlazy = refl;
      cell = cell_so;
      active = refl;
      aimed = refl;
      cpus = refl;
      later = refl;
      actions = refl;
      begun = begun_by (is_some (state_of def past).desc.flow) (has_begun def past) def.devices;
      rounds = refl;
      threads = refl;
      asks = each_by (λ d. canon_row (serves_at (state_of def past) d) (is_working (state_of def past).round.working d)
          (is_thread_working (state_of def past).threads d)) (ask_row def past) def.devices;
      facts = refl;
      runs = each_by (λ d. canon_run (is_working (state_of def past).round.working d) (is_thread_working (state_of def past).threads d))
          (run_row def past) def.devices;
      loud = λ plain d. never_quiet def plain past legal d;
      unbegun = λ plain. unbegun_here (is_working (state_of def past).round.working) (is_thread_working (state_of def past).threads) plain;
      window = refl;
      limit = refl;
      last = refl;
    }

    -- ---- read

    abbrev rs : List DriverNo
    rs = drivers_in def.calls

    abbrev places : List ℕ → List ℕ
    places rest = places_words def past (drivers_in def.calls) rest

    module _ (b : StateSeen) (tables : HasTables def b) where
      again_here : unbitted (with_linked (linked_from def (drivers_in def.calls) (node def past))
          (with_tables def (node def past) (with_fixed def (node def past) (bare b)))) ≡ canon (state_of def past)
      again_here = read_is def valid (drivers_in def.calls) begun_of (thread_of past) asks_of_dev runs_of_dev (flags_of (actions_of past))
          (canon (state_of def past)) shaped (places_words def past (drivers_in def.calls)) (behind_places def past (drivers_in def.calls)) b tables

      pub read_again : (ds : List DriverNo) (ws : List ℕ) → ds ≡ drivers_in def.calls → ws ≡ node def past
          → unbitted (with_linked (linked_from def ds ws) (with_tables def ws (with_fixed def ws (bare b)))) ≡ canon (state_of def past)
      read_again ds ws d w =
          let P : List DriverNo → Type 0 = λ x. unbitted
          (with_linked (linked_from def x ws) (with_tables def ws (with_fixed def ws (bare b))))
          ≡ canon (state_of def past) in
          let Q : List ℕ → Type 0 = λ x. unbitted (with_linked (linked_from def (drivers_in def.calls) x)
          (with_tables def x (with_fixed def x (bare b)))) ≡ canon (state_of def past) in
          subst P (sym d) (subst Q (sym w) again_here)

      tables_here : HasTables def (with_tables def (node def past) (with_fixed def (node def past) (bare b)))
      tables_here = tables_read def valid (drivers_in def.calls) begun_of (thread_of past) asks_of_dev runs_of_dev (flags_of (actions_of past))
          (canon (state_of def past)) shaped (places_words def past (drivers_in def.calls)) (behind_places def past (drivers_in def.calls)) b tables

      pub tables_again : (ws : List ℕ) → ws ≡ node def past → HasTables def (with_tables def ws (with_fixed def ws (bare b)))
      tables_again ws w =
          let Q : List ℕ → Type 0 = λ x. HasTables def (with_tables def x (with_fixed def x (bare b))) in
          subst Q (sym w) tables_here

    -- a state that has the canonical state of this past has the tables of the line, if no run has
    -- begun where there is nothing to say of the runs
    pub tables_of_canon : (s : StateSeen) → canon s ≡ canon (state_of def past) → (has_more def ≡ false → s.places ≡ first_places def) → HasTables def s
    tables_of_canon s same unbegun =
        let P : StateSeen → Type 0 = λ x. HasTables def x in
        let t : HasTables def (canon s) = subst P (sym same)
        (tables_shaped def begun_of (thread_of past) asks_of_dev runs_of_dev (flags_of (actions_of past)) (canon (state_of def past)) shaped) in
        record {
          facts = t.facts;
          begun = begun_rows (is_some s.desc.flow) t.begun;
          threads = t.threads;
          asks = rows_of_each (λ d. canon_row (serves_at s d) (is_working s.round.working d) (is_thread_working s.threads d)) def.devices s.asks t.asks;
          runs = rows_of_each (λ d. canon_run (is_working s.round.working d) (is_thread_working s.threads d)) def.devices s.places.rows t.runs;
          unbegun = unbegun;
        }
      where
        begun_rows : (flow : Bool) → HasRows def.devices (cond flow s.list.begun (cleared s.list.begun)) → HasRows def.devices s.list.begun
        begun_rows true rows = rows
        begun_rows false rows = rows_of_cleared def.devices s.list.begun rows

    -- ---- places

    places_here : places_from def (node def past) ≡ places_words def past (drivers_in def.calls)
        (linked_words (flags_of (canon (state_of def past)).list.actions))
    places_here = places_there def valid (drivers_in def.calls) begun_of (thread_of past) asks_of_dev runs_of_dev (flags_of (actions_of past))
        (canon (state_of def past)) shaped (places_words def past (drivers_in def.calls)) (behind_places def past (drivers_in def.calls))

    module _ (ds : List DriverNo) (ws : List ℕ) (d : ds ≡ drivers_in def.calls) (w : ws ≡ node def past) (s : List (DriverNo × RowSeen))
        (are : AreScripts def s) where
      went : go_all ds (places_from def ws) s
          ≡ go_all (drivers_in def.calls) (places_words def past (drivers_in def.calls) (linked_words (flags_of (canon (state_of def past)).list.actions))) s
      went = ap (λ (x : List DriverNo). go_all x (places_from def ws) s) d
          ∙ (ap (λ (x : List ℕ). go_all (drivers_in def.calls) (places_from def x) s) w
          ∙ ap (λ (x : List ℕ). go_all (drivers_in def.calls) x s) places_here)

      pub scripts_again : AreScripts def (go_all ds (places_from def ws) s)
      scripts_again =
          let P : List (DriverNo × RowSeen) → Type 0 = λ x. AreScripts def x in
          subst P (sym went) (scripts_all def past (drivers_in def.calls) (linked_words (flags_of (canon (state_of def past)).list.actions)) s are)

      pub at_again : (r : DriverNo) → IsAt def past r (place_of (go_all ds (places_from def ws) s) r) (within_of (go_all ds (places_from def ws) s) r)
      at_again r =
          let P : List (DriverNo × RowSeen) → Type 0 = λ x. IsAt def past r (place_of x r) (within_of x r) in
          subst P (sym went) (all_at def past legal (linked_words (flags_of (canon (state_of def past)).list.actions)) s are r)

    -- ---- the numbers fit

    module _ (few : length past ≤ 100000000) where
      linked_fits : CanLinkAll (linked_in (linked_from def (drivers_in def.calls) (node def past))) []
      linked_fits =
          let P : List (DevNo × Flags) → Type 0 = λ x. CanLinkAll x [] in
          subst P (sym (linked_there def valid (drivers_in def.calls) begun_of (thread_of past) asks_of_dev runs_of_dev (flags_of (actions_of past))
          (canon (state_of def past)) shaped (places_words def past (drivers_in def.calls)) (behind_places def past (drivers_in def.calls))))
          (can_link (flags_of (actions_of past)) [] (all_go (with_log def 100000000) (longer def valid) past legal few))

      waiting_fits : HasProcessor def.cpus (mask_at (node def past) 13)
      waiting_fits =
          let P : Option ℕ → Type 0 = λ x. HasProcessor def.cpus x in
          subst P (sym (mask_is (state_of def past).aim.waiting)) (has_processor (with_log def 100000000) (longer def valid) past legal few)

      fits_here : Fits def (drivers_in def.calls) (node def past)
      fits_here = record {
        mask = has_target def past valid legal;
        waiting = waiting_fits;
        counted = (counts_below def past valid).counted;
        unhandled = (counts_below def past valid).unhandled;
        linked = linked_fits;
      }

      pub fits : (ds : List DriverNo) (ws : List ℕ) → ds ≡ drivers_in def.calls → ws ≡ node def past → Fits def ds ws
      fits ds ws d w =
          let P : List DriverNo → Type 0 = λ x. Fits def x ws in
          let Q : List ℕ → Type 0 = λ x. Fits def (drivers_in def.calls) x in
          subst P (sym d) (subst Q (sym w) fits_here)

    -- ---- told

    module _ (scripts : List (DriverNo × RowSeen)) (are : AreScripts def scripts)
        (at : (r : DriverNo) → IsAt def past r (place_of scripts r) (within_of scripts r)) where
      places_are : (xs : List DriverNo) (rest : List ℕ) → places_told scripts xs rest ≡ places_words def past xs rest
      places_are [] rest = refl
      places_are (r ∷ xs) rest =
          let p = place_is def past r (place_of scripts r) (within_of scripts r) (at r) in
          let k : count_in (due_call_in scripts r) ≡ within_by def r past = ap count_in (sym (call_is def past scripts are.calls at r)) in
          ap (λ n. n ∷ count_in (due_call_in scripts r) ∷ places_told scripts xs rest) (sym p.0)
          ∙ (ap (λ n. place_by def r past ∷ n ∷ places_told scripts xs rest) k
          ∙ ap (λ (l : List ℕ). place_by def r past ∷ within_by def r past ∷ l) (places_are xs rest))

      abbrev s : StateSeen
      s = canon (state_of def past)

      abbrev front : List ℕ → List ℕ
      front rest = desc_words s (round_words s (freeing_words s.freeing rest))

      abbrev linked : List ℕ
      linked = linked_words (flags_of s.list.actions)

      abbrev from_places : List ℕ
      from_places = places_words def past (drivers_in def.calls) linked

      abbrev from_more : List ℕ
      from_more = more_words (has_more def) s from_places

      -- what only some lines need
      more_told_here : (more : Bool) → more_told more def s from_places ≡ more_words more s from_places
      more_told_here false = refl
      more_told_here true =
          let is = shaped in
          ap (λ (m : List ℕ). place_words s.places.work (rows_words (quiet_told s) def.devices m))
          (table_told run_words runs_of_dev first_row s.places.rows def.devices from_places is.runs)
          ∙ ap (λ (m : List ℕ). place_words s.places.work m)
          (table_told quiet_words asks_of_dev no_asks s.asks def.devices (table_words run_words s.places.rows from_places) is.asks)

      abbrev from_asks : List ℕ
      from_asks = table_words ask_words s.asks from_more

      abbrev from_threads : List ℕ
      from_threads = table_words thread_words s.threads from_asks

      pub told_here : state_told (has_more def) def (canon (state_of def past)) (places_told scripts (drivers_in def.calls)) ≡ node def past
      told_here =
          let is = shaped in
          ap (λ (m : List ℕ). front (rows_words (begun_told s) def.devices (rows_words (thread_told s) def.devices
          (rows_words (ask_told s) def.devices (more_told (has_more def) def s m)))))
          (places_are (drivers_in def.calls) linked)
          ∙ (ap (λ (m : List ℕ). front (rows_words (begun_told s) def.devices (rows_words (thread_told s) def.devices (rows_words (ask_told s) def.devices m))))
          (more_told_here (has_more def))
          ∙ (ap (λ (m : List ℕ). front (rows_words (begun_told s) def.devices (rows_words (thread_told s) def.devices m)))
          (table_told ask_words asks_of_dev no_asks s.asks def.devices from_more is.asks)
          ∙ (ap (λ (m : List ℕ). front (rows_words (begun_told s) def.devices m))
          (table_told thread_words (thread_of past) idle_row s.threads def.devices from_asks is.threads)
          ∙ ap front (table_told begun_words begun_of false s.list.begun def.devices from_threads is.begun))))

pub told_is : (def : LineDef) (past : List Entry) (scripts : List (DriverNo × RowSeen)) → IsValid def → IsLegalPast def past → AreScripts def scripts
    → ((r : DriverNo) → IsAt def past r (place_of scripts r) (within_of scripts r))
    → state_told (has_more def) def (canon (state_of def past)) (places_told scripts (drivers_in def.calls)) ≡ node def past
told_is def past scripts valid legal are at = told_here def past valid legal scripts are at

-- a state to which nothing has happened has the tables of the line
pub first_tables : (def : LineDef) (s : StateSeen) → s ≡ first_state def → HasTables def s
first_tables def s is =
    let P : StateSeen → Type 0 = λ x. HasTables def x in
    subst P (sym is) (record {
      facts = refl;
      begun = rows_by (λ _. false) def.devices;
      threads = rows_by (λ _. idle_row) def.devices;
      asks = rows_by (λ _. no_asks) def.devices;
      runs = rows_by (λ _. first_row) def.devices;
      unbegun = λ plain. refl;
    })

-- the same tables
pub tables_same : (def : LineDef) (s t : StateSeen) → AreSameTables s t → HasTables def s → HasTables def t
tables_same def s t same tables = record {
  facts = same.facts ∙ tables.facts;
  begun = let P : List (DevNo × Bool) → Type 0 = λ x. HasRows def.devices x in subst P (sym same.begun) tables.begun;
  threads = let P : List (DevNo × ThreadRow) → Type 0 = λ x. HasRows def.devices x in subst P (sym same.threads) tables.threads;
  asks = let P : List (DevNo × AskRow) → Type 0 = λ x. HasRows def.devices x in subst P (sym same.asks) tables.asks;
  runs = let P : PlacesSeen → Type 0 = λ x. HasRows def.devices x.rows in subst P (sym same.places) tables.runs;
  unbegun = λ plain. same.places ∙ tables.unbegun plain;
}
