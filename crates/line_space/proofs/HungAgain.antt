-- Who is hung, of a state that was read.
use Rattle.std.proofs.Common.{◌≡◌, ℕ, zero, suc, Bool, true, false, ◌||◌, cond, is_none, Option, None, Some, List, [], ◌∷◌}
use Rattle.std.proofs.Common.{refl, sym, ap, subst, ◌∙◌}
use Rattle.std.specs.Option.{option_map_or}
use Rattle.std.specs.Prelude.{unwrap_or}
use Rattle.std.specs.List.{list_any}
use Rattle.std.specs.Map.{lookup}
use Rattle.irq_base.specs.declared.entries.Actor.{Actor}
use Rattle.irq_base.specs.declared.entries.Actor.TheVariants as actors
use Rattle.irq_base.specs.declared.entries.Entry.{Entry}
use Rattle.irq_base.specs.declared.lines.LineDef.{LineDef}
use Rattle.irq_base.specs.declared.numbers.CpuNo.{CpuNo}
use Rattle.irq_base.specs.declared.numbers.DevNo.{DevNo}
use Rattle.irq_base.specs.declared.numbers.DriverNo.{DriverNo}
use Rattle.irq_base.specs.declared.waiting.WaitFor.{WaitFor}
use Rattle.irq_model.specs.Due.{calls_by}
use Rattle.irq_model.specs.Kinds.{same_driver}
use Rattle.irq_model.specs.Legal.{IsLegalPast}
use Rattle.irq_model.specs.Valid.{IsValid}
use Rattle.irq_model.specs.ValidRuns.{HasValidRuns}
use Rattle.irq_model.specs.Waits.{IsLowestHungPast}
use Rattle.irq_model.proofs.Same.{driver_from_same}
use Rattle.act_thread.specs.declared.rows.Stage.{Stage}
use Rattle.act_thread.specs.declared.rows.Stage.TheVariants as stages
use Rattle.act_thread.specs.declared.rows.ThreadRow.{ThreadRow}
use Rattle.device_table.specs.Rows.{at, lower}
use Rattle.line_scripts.specs.Rows.{RowSeen, row_of, calls_of, place_of, within_of, unbegun}
use Rattle.line_marks.specs.Scripts.{IsAt}
use Rattle.line_marks.specs.State.{StateSeen, state_of}
use Rattle.line_state.specs.Seen.{lowest_of, spins_in}
use Rattle.line_state.specs.Waits.{wait_at, wait_of_due, wait_of_row}
use Rattle.line_core.specs.Hanging.{hung_actor, is_sync, is_thread_hung, is_thread_of, leads_to, lowest_hung_by, lowest_hung_thread, spinning_in}
use Rattle.line_core.specs.Hanging.{wait_of_actor, way_from}
use Rattle.line_core.proofs.LowestHung.{lowest_hung}
use Rattle.line_futures.proofs.CanonDue.{cpu_same, due_in_thread}
use Rattle.line_futures.proofs.Placed.{placed}
use Rattle.line_futures.specs.Canon.{canon}
use Rattle.line_futures.specs.Futures.{AreAlike}
use Rattle.line_futures.specs.Places.{place_by, within_by}
use Rattle.line_words.proofs.Placing.{none_called, none_placed}
use Rattle.line_words.specs.Again.{unbitted}
use Rattle.line_words.specs.Node.{drivers_in}
use Rattle.line_space.proofs.Again.{canon_again}

-- the lowest that passes, by what passes alone
lowest_same : (p q : DevNo → Bool) → ((d : DevNo) → p d ≡ q d) → (t : List (DevNo × ThreadRow)) → lowest_of p t ≡ lowest_of q t
lowest_same p q same [] = refl
lowest_same p q same (e ∷ es) =
    ap (λ b. cond b (Some (lower e.0 (lowest_of p es))) (lowest_of p es)) (same e.0)
    ∙ ap (λ (o : Option DevNo). cond (q e.0) (Some (lower e.0 o)) o) (lowest_same p q same es)

-- the canonical state says who is hung

module _ (def : LineDef) (s : StateSeen) where
  at_stage : (d : DevNo) (g : Stage) → wait_at def (canon s) d g ≡ wait_at def s d g
  at_stage d stages.Idle = refl
  at_stage d stages.Begun = ap wait_of_due (due_in_thread def s d)
  at_stage d stages.Returned = refl
  at_stage d stages.Finished = refl

  of_row : (d : DevNo) (o : Option ThreadRow) → wait_of_row def (canon s) d o ≡ wait_of_row def s d o
  of_row d None = refl
  of_row d (Some r) = at_stage d r.stage

  spins_same : (o : Option CpuNo) → spins_in def (canon s) o ≡ spins_in def s o
  spins_same None = refl
  spins_same (Some c) = ap is_none (cpu_same def s c)

  spinning_same : spinning_in def (canon s) ≡ spinning_in def s
  spinning_same = ap (λ b. cond b s.desc.flow None) (spins_same s.desc.flow)

  module _ (scripts : List (DriverNo × RowSeen)) where
    wait_same : (a : Actor) → wait_of_actor def (canon s) scripts a ≡ wait_of_actor def s scripts a
    wait_same (actors.Thread d) = of_row d (at s.threads d)
    wait_same (actors.Cpu c) = refl
    wait_same (actors.Driver r) = refl

    -- by what those that are waited for lead to
    way_same : (n : ℕ) (d : DevNo) → ((b : Actor) → leads_to def (canon s) scripts n d b ≡ leads_to def s scripts n d b) → (o : Option Actor)
        → option_map_or (λ (b : Actor). is_thread_of d b || leads_to def (canon s) scripts n d b) o false
        ≡ option_map_or (λ (b : Actor). is_thread_of d b || leads_to def s scripts n d b) o false
    way_same n d same None = refl
    way_same n d same (Some b) = ap (λ (t : Bool). is_thread_of d b || t) (same b)

    leads_same : (n : ℕ) (d : DevNo) (a : Actor) → leads_to def (canon s) scripts n d a ≡ leads_to def s scripts n d a
    leads_same zero d a = refl
    leads_same (suc n) d a =
        ap (λ (w : WaitFor). is_sync w
        || option_map_or (λ (b : Actor). is_thread_of d b || leads_to def (canon s) scripts n d b) (way_from s w) false) (wait_same a)
        ∙ ap (λ (t : Bool). is_sync (wait_of_actor def s scripts a) || t)
        (way_same n d (λ b. leads_same n d b) (way_from s (wait_of_actor def s scripts a)))

    threads_same : lowest_hung_thread def (canon s) scripts ≡ lowest_hung_thread def s scripts
    threads_same = lowest_same (is_thread_hung def (canon s) scripts) (is_thread_hung def s scripts) (λ d. leads_same 3 d (actors.Thread d)) s.threads

    hung_canon : lowest_hung_by def (canon s) scripts ≡ lowest_hung_by def s scripts
    hung_canon =
        ap (λ (o : Option DevNo). hung_actor o (spinning_in def (canon s))) threads_same
        ∙ ap (hung_actor (lowest_hung_thread def s scripts)) spinning_same

-- so does a state that was read
module _ (def : LineDef) (g : List Entry) (valid : IsValid def) (runs : HasValidRuns def) (legal : IsLegalPast def g)
    (scripts : List (DriverNo × RowSeen)) (calls_are : (r : DriverNo) → calls_of scripts r ≡ calls_by r def.calls)
    (places : (r : DriverNo) → IsAt def g r (place_of scripts r) (within_of scripts r)) where
  by_canon : IsLowestHungPast def g (lowest_hung_by def (canon (state_of def g)) scripts)
  by_canon = subst (λ (o : Option Actor). IsLowestHungPast def g o) (sym (hung_canon def (state_of def g) scripts))
      (lowest_hung def g valid runs legal scripts calls_are places)

  pub hung_again : (t : StateSeen) → unbitted t ≡ canon (state_of def g) → IsLowestHungPast def g (lowest_hung_by def t scripts)
  hung_again t again =
      let same : lowest_hung_by def t scripts ≡ lowest_hung_by def (canon (state_of def g)) scripts =
      sym (hung_canon def t scripts)
      ∙ (ap (λ (x : StateSeen). lowest_hung_by def x scripts) (canon_again def g t again) ∙ hung_canon def (canon (state_of def g)) scripts) in
      subst (λ (o : Option Actor). IsLowestHungPast def g o) (sym same) by_canon

-- ---- pasts that are alike

-- how far the drivers are after the past
module _ (def : LineDef) (g : List Entry) where
  abbrev row_at : DriverNo → RowSeen
  row_at r = record { calls = calls_by r def.calls; place = place_by def r g; within = within_by def r g }

  abbrev rows_for : List DriverNo → List (DriverNo × RowSeen)
  rows_for [] = []
  rows_for (x ∷ xs) = (x, row_at x) ∷ rows_for xs

  abbrev rows : List (DriverNo × RowSeen)
  rows = rows_for (drivers_in def.calls)

  found : (ds : List DriverNo) (r : DriverNo) (b : Bool) → list_any (same_driver r) ds ≡ b
      → row_of (rows_for ds) r ≡ cond b (row_at r) (unbegun [])
  found [] r true is = absurd cc
  found [] r false is = refl
  found (x ∷ xs) r b is = by_test (same_driver r x) refl is (found xs r b)
    where
      by_test : (t : Bool) → same_driver r x ≡ t → (t || list_any (same_driver r) xs) ≡ b
          → (list_any (same_driver r) xs ≡ b → row_of (rows_for xs) r ≡ cond b (row_at r) (unbegun []))
          → unwrap_or (cond t (Some (row_at x)) (lookup (same_driver r) (rows_for xs))) (unbegun []) ≡ cond b (row_at r) (unbegun [])
      by_test true same h rest = ap row_at (sym (driver_from_same r x same)) ∙ ap (λ (t : Bool). cond t (row_at r) (unbegun [])) h
      by_test false other h rest = rest h

  record Row (r : DriverNo) : Type 0 where
    calls : calls_of (rows_for (drivers_in def.calls)) r ≡ calls_by r def.calls
    place : place_of (rows_for (drivers_in def.calls)) r ≡ place_by def r g
    within : within_of (rows_for (drivers_in def.calls)) r ≡ within_by def r g

  row_is : (r : DriverNo) → Row r
  row_is r = by_there (list_any (same_driver r) (drivers_in def.calls)) refl
    where
      by_there : (b : Bool) → list_any (same_driver r) (drivers_in def.calls) ≡ b → Row r
      by_there true there =
          let is = found (drivers_in def.calls) r true there in
          record { calls = ap (λ (y : RowSeen). y.calls) is; place = ap (λ (y : RowSeen). y.place) is; within = ap (λ (y : RowSeen). y.within) is }
      by_there false gone =
          let is = found (drivers_in def.calls) r false gone in
          let none = none_called r def.calls gone in
          let idle = none_placed def g r none in
          record {
            calls = ap (λ (y : RowSeen). y.calls) is ∙ sym none;
            place = ap (λ (y : RowSeen). y.place) is ∙ sym idle.0;
            within = ap (λ (y : RowSeen). y.within) is ∙ sym idle.1;
          }

-- one is the lowest that is hung after both
pub hung_alike : (def : LineDef) (g h : List Entry) → IsValid def → HasValidRuns def → IsLegalPast def g → IsLegalPast def h → AreAlike def g h
    → (o : Option Actor) × IsLowestHungPast def g o × IsLowestHungPast def h o
hung_alike def g h valid runs legal other like = (
  lowest_hung_by def (canon (state_of def g)) (rows def g),
  by_canon def g valid runs legal (rows def g) calls_are (stand g (λ r. refl) (λ r. refl) legal),
  subst (λ (s : StateSeen). IsLowestHungPast def h (lowest_hung_by def s (rows def g))) (sym like.state)
      (by_canon def h valid runs other (rows def g) calls_are (stand h (λ r. (like.places r).0) (λ r. (like.places r).1) other)),
)
  where
    calls_are : (r : DriverNo) → calls_of (rows def g) r ≡ calls_by r def.calls
    calls_are r = (row_is def g r).calls

    stand : (k : List Entry) → ((r : DriverNo) → place_by def r g ≡ place_by def r k) → ((r : DriverNo) → within_by def r g ≡ within_by def r k)
        → IsLegalPast def k → (r : DriverNo) → IsAt def k r (place_of (rows def g) r) (within_of (rows def g) r)
    stand k places withins l r =
        let own = row_is def g r in
        subst (λ (n : ℕ). IsAt def k r n (within_of (rows def g) r)) (sym (own.place ∙ places r))
        (subst (λ (n : ℕ). IsAt def k r (place_by def r k) n) (sym (own.within ∙ withins r)) (placed def k l r))
