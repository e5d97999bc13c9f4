-- What an entry makes of the places of the runs, and what is read off them: of what decides nothing
-- any more nothing is read.
use Rattle.std.proofs.Common.{◌≡◌, ℕ, Bool, true, Option, Some, None, option_map, unwrap_or, slice_get, refl, ap, ◌∙◌}
use Rattle.irq_base.specs.declared.devices.Part.{Part}
use Rattle.irq_base.specs.declared.devices.Part.TheVariants as parts
use Rattle.irq_base.specs.declared.lines.LineDef.{LineDef}
use Rattle.irq_base.specs.declared.numbers.DevNo.{DevNo}
use Rattle.irq_model.specs.Lines.{run_script}
use Rattle.device_table.specs.Rows.{at}
use Rattle.run_scripts.specs.Places.{PlacesSeen, first_row, place_at, turn_at, handler_begun, thread_begun, placed, row_advanced}
use Rattle.run_scripts.specs.declared.rows.RunPlace.{RunPlace}
use Rattle.run_scripts.specs.declared.rows.RunRow.{RunRow}
use Rattle.run_scripts.specs.declared.rows.Turn.{Turn}
use Rattle.line_marks.specs.Places.{call_at}
use Rattle.line_futures.specs.Canon.{canon_turn, canon_run, canon_runs, canon_places}
use Rattle.line_futures.proofs.AsksAfter.{Lower, kept_lower}
use Rattle.line_futures.proofs.EachRow.{each_at}

-- ---- a row

abbrev made : RunPlace → Turn → Turn → RunRow
made calls handler thread = record { calls = calls; handler = handler; thread = thread }

turn_lower : (new old : Bool) (t : Turn) → Lower new old → canon_turn new (canon_turn old t) ≡ canon_turn new t
turn_lower new old t low = ap (λ n. record t { now = n }) (kept_lower new old t.now low)

module _ (h t h' t' : Bool) (r : RunRow) where
  abbrev pub AfterRun : (RunRow → RunRow) → Type 0
  AfterRun f = canon_run h' t' (f (canon_run h t r)) ≡ canon_run h' t' (f r)

module _ (h t h' t' : Bool) (r : RunRow) (lh : Lower h' h) (lt : Lower t' t) where
  lower_with : (calls : RunPlace) → made calls (canon_turn h' (canon_turn h r.handler)) (canon_turn t' (canon_turn t r.thread))
      ≡ made calls (canon_turn h' r.handler) (canon_turn t' r.thread)
  lower_with calls = ap (λ (x : Turn). made calls x (canon_turn t' (canon_turn t r.thread))) (turn_lower h' h r.handler lh)
      ∙ ap (λ (x : Turn). made calls (canon_turn h' r.handler) x) (turn_lower t' t r.thread lt)

  pub run_lower : canon_run h' t' (canon_run h t r) ≡ canon_run h' t' r
  run_lower = lower_with r.calls

  pub run_placed : (p : RunPlace) → AfterRun h t h' t' r (placed p)
  run_placed p = lower_with p

  pub run_advanced : (completes : Bool) → AfterRun h t h' t' r (row_advanced completes)
  run_advanced completes = lower_with (row_advanced completes r).calls

-- a run of its handler begins: what it has is what was next
pub run_begun : (h t t' : Bool) (r : RunRow) (count : ℕ) → Lower t' t → AfterRun h t true t' r (handler_begun count)
run_begun h t t' r count low =
    ap (λ (x : Turn). made r.calls (canon_turn true (handler_begun count r).handler) x) (turn_lower t' t r.thread low)

-- a run of its thread
pub run_thread_begun : (h t t' : Bool) (r : RunRow) (count : ℕ) → AfterRun h t h t' r (thread_begun count)
run_thread_begun h t t' r count =
    ap (λ (x : Turn). made (thread_begun count r).calls x (canon_turn t' (thread_begun count r).thread)) (turn_lower h h r.handler (λ i. i))

-- ---- what is read off the rows

calls_in : (h t : Bool) (o : Option RunRow) → (unwrap_or (option_map (canon_run h t) o) first_row).calls ≡ (unwrap_or o first_row).calls
calls_in h t None = refl
calls_in h t (Some r) = refl

handler_in : (t : Bool) (o : Option RunRow) → (unwrap_or (option_map (canon_run true t) o) first_row).handler ≡ (unwrap_or o first_row).handler
handler_in t None = refl
handler_in t (Some r) = refl

thread_in : (h : Bool) (o : Option RunRow) → (unwrap_or (option_map (canon_run h true) o) first_row).thread ≡ (unwrap_or o first_row).thread
thread_in h None = refl
thread_in h (Some r) = refl

module _ (h t : DevNo → Bool) (p : PlacesSeen) (d : DevNo) where
  pub runs_at : at (canon_runs h t p.rows) d ≡ option_map (canon_run (h d) (t d)) (at p.rows d)
  runs_at = each_at (λ x. canon_run (h x) (t x)) p.rows d

  pub place_same : (part : Part) → place_at (canon_places h t p) d part ≡ place_at p d part
  place_same parts.Primary = refl
  place_same parts.Thread = ap (λ (o : Option RunRow). (unwrap_or o first_row).calls) runs_at ∙ calls_in (h d) (t d) (at p.rows d)

  pub call_same : (def : LineDef) (part : Part) → call_at def (canon_places h t p) part d ≡ call_at def p part d
  call_same def part = ap (λ (x : RunPlace). slice_get (run_script def d part) x.place) (place_same part)

  pub handler_turn_same : h d ≡ true → turn_at (canon_places h t p) d parts.Primary ≡ turn_at p d parts.Primary
  handler_turn_same works =
      ap (λ (o : Option RunRow). (unwrap_or o first_row).handler) (runs_at ∙ ap (λ b. option_map (canon_run b (t d)) (at p.rows d)) works)
      ∙ handler_in (t d) (at p.rows d)

  pub thread_turn_same : t d ≡ true → turn_at (canon_places h t p) d parts.Thread ≡ turn_at p d parts.Thread
  thread_turn_same works =
      ap (λ (o : Option RunRow). (unwrap_or o first_row).thread) (runs_at ∙ ap (λ b. option_map (canon_run (h d) b) (at p.rows d)) works)
      ∙ thread_in (h d) (at p.rows d)
