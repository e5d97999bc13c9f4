-- What is looked up in the canonical tables.
use Rattle.std.proofs.Common.{◌≡◌, Bool, true, false, ◌&&◌, cond, Option, Some, None, option_map, List, [], ◌∷◌, refl, sym, ap, ◌∙◌}
use Rattle.std.specs.Prelude.{unwrap_or}
use Rattle.irq_base.specs.declared.numbers.DevNo.{DevNo}
use Rattle.irq_model.specs.Kinds.{same_dev}
use Rattle.device_table.specs.Rows.{at}
use Rattle.act_list.specs.Lists.{begun_at, cleared}
use Rattle.ask_counts.specs.declared.rows.AskRow.{AskRow}
use Rattle.ask_counts.specs.Rows.{no_asks}
use Rattle.irq_base.specs.declared.devices.Part.{Part}
use Rattle.ask_counts.specs.Facts.{facts_at}
use Rattle.line_marks.specs.State.{StateSeen}
use Rattle.run_scripts.specs.Places.{first_row, row_at}
use Rattle.run_scripts.specs.declared.rows.RunRow.{RunRow}
use Rattle.line_futures.proofs.AsksAfter.{asks_at}
use Rattle.line_futures.proofs.RunsAfter.{runs_at}
use Rattle.line_futures.specs.Canon.{canon_asks, canon_row, canon_run, canon_places, is_serving, is_working, is_thread_working, serves_at}

-- no handler was called
none_begun : (t : List (DevNo × Bool)) (d : DevNo) → begun_at (cleared t) d ≡ false
none_begun [] d = refl
none_begun (e ∷ es) d = by_test (same_dev d e.0) (none_begun es d)
  where
    by_test : (b : Bool) → begun_at (cleared es) d ≡ false → unwrap_or (cond b (Some false) (at (cleared es) d)) false ≡ false
    by_test true rest = refl
    by_test false rest = rest

pub begun_if : (flow : Bool) (t : List (DevNo × Bool)) (d : DevNo) → (flow && begun_at t d) ≡ begun_at (cond flow t (cleared t)) d
begun_if true t d = refl
begun_if false t d = sym (none_begun t d)

module _ (s : StateSeen) (d : DevNo) where
  pub row_there : (row new : AskRow) (v h t : Bool) (o : Option Part) → at s.asks d ≡ Some row → new ≡ canon_row v h t row
      → v ≡ is_serving o h t → h ≡ is_working s.round.working d → t ≡ is_thread_working s.threads d → o ≡ (facts_at s.facts d).serving
      → new ≡ unwrap_or (at (canon_asks (serves_at s) (is_working s.round.working) (is_thread_working s.threads) s.asks) d) no_asks
  row_there row new v h t o there made serves works runs part =
      let hh = is_working s.round.working d in
      let tt' = is_thread_working s.threads d in
      let serving : v ≡ serves_at s d = serves ∙ (ap (λ x. is_serving x h t) part
      ∙ (ap (λ x. is_serving (facts_at s.facts d).serving x t) works ∙ ap (λ x. is_serving (facts_at s.facts d).serving hh x) runs)) in
      made ∙ (ap (λ x. canon_row x h t row) serving ∙ (ap (λ x. canon_row (serves_at s d) x t row) works
      ∙ (ap (λ x. canon_row (serves_at s d) hh x row) runs
      ∙ sym (ap (λ (o : Option AskRow). unwrap_or o no_asks)
      (asks_at (serves_at s) (is_working s.round.working) (is_thread_working s.threads) s.asks d
      ∙ ap (λ (o : Option AskRow). option_map (canon_row (serves_at s d) hh tt') o) there)))))

  pub row_lacks : at s.asks d ≡ None
      → no_asks ≡ unwrap_or (at (canon_asks (serves_at s) (is_working s.round.working) (is_thread_working s.threads) s.asks) d) no_asks
  row_lacks none =
      sym (ap (λ (o : Option AskRow). unwrap_or o no_asks)
      (asks_at (serves_at s) (is_working s.round.working) (is_thread_working s.threads) s.asks d
      ∙ ap (λ (o : Option AskRow). option_map (canon_row (serves_at s d) (is_working s.round.working d) (is_thread_working s.threads d)) o) none))

  -- a device is as quiet as its row says
  pub quiet_there : (row : AskRow) → at s.asks d ≡ Some row
      → row.quiet ≡ (unwrap_or (at (canon_asks (serves_at s) (is_working s.round.working) (is_thread_working s.threads) s.asks) d) no_asks).quiet
  quiet_there row there =
      let low : AskRow → AskRow = canon_row (serves_at s d) (is_working s.round.working d) (is_thread_working s.threads d) in
      sym (ap (λ (o : Option AskRow). (unwrap_or o no_asks).quiet)
      (asks_at (serves_at s) (is_working s.round.working) (is_thread_working s.threads) s.asks d
      ∙ ap (λ (o : Option AskRow). option_map low o) there))

  pub quiet_lacks : at s.asks d ≡ None
      → (unwrap_or (at (canon_asks (serves_at s) (is_working s.round.working) (is_thread_working s.threads) s.asks) d) no_asks).quiet ≡ false
  quiet_lacks none =
      let low : AskRow → AskRow = canon_row (serves_at s d) (is_working s.round.working d) (is_thread_working s.threads d) in
      ap (λ (o : Option AskRow). (unwrap_or o no_asks).quiet)
      (asks_at (serves_at s) (is_working s.round.working) (is_thread_working s.threads) s.asks d
      ∙ ap (λ (o : Option AskRow). option_map low o) none)

  -- a device's runs are the canonical ones of its row
  pub run_there : (row new : RunRow) (h t : Bool) → row ≡ row_at s.places.rows d → new ≡ canon_run h t row
      → h ≡ is_working s.round.working d → t ≡ is_thread_working s.threads d
      → new ≡ row_at (canon_places (is_working s.round.working) (is_thread_working s.threads) s.places).rows d
  run_there row new h t there made works runs =
      made ∙ (ap (λ (x : RunRow). canon_run h t x) there
      ∙ (ap (λ x. canon_run x t (row_at s.places.rows d)) works
      ∙ (ap (λ x. canon_run (is_working s.round.working d) x (row_at s.places.rows d)) runs
      ∙ (by_row (is_working s.round.working d) (is_thread_working s.threads d) (at s.places.rows d)
      ∙ sym (ap (λ (o : Option RunRow). unwrap_or o first_row) (runs_at (is_working s.round.working) (is_thread_working s.threads) s.places d))))))
    where
      by_row : (a b : Bool) (o : Option RunRow) → canon_run a b (unwrap_or o first_row) ≡ unwrap_or (option_map (canon_run a b) o) first_row
      by_row a b (Some r) = refl
      by_row true true None = refl
      by_row true false None = refl
      by_row false true None = refl
      by_row false false None = refl
