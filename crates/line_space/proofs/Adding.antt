-- The entry that an actor adds.
use Rattle.std.proofs.Common.{◌≡◌, ◌<◌, ◌≤◌, ℕ, ◌+◌, ◌-◌, Bool, true, false, true≢false, cond, Option, Some, None, is_some, option_map}
use Rattle.std.proofs.Common.{List, [], ◌∷◌, ◌++◌, length, take, drop, slice_get, refl, sym, ap, subst, ◌∙◌, arith}
use Rattle.std.proofs.lemmas.List.{append-nil, append_assoc, take_all}
use Rattle.std.specs.List.{filter}
use Rattle.std.specs.Prelude.{IfSome}
use Rattle.irq_model.proofs.Lists.{next_item}
use Rattle.irq_base.specs.declared.entries.Actor.{Actor}
use Rattle.irq_base.specs.declared.entries.Entry.{Entry}
use Rattle.irq_base.specs.declared.lines.LineDef.{LineDef}
use Rattle.irq_base.specs.declared.numbers.DriverNo.{DriverNo}
use Rattle.irq_model.specs.Next.{next_past}
use Rattle.line_scripts.specs.Rows.{RowSeen, place_of}
use Rattle.line_marks.specs.Next.{due_by}
use Rattle.line_marks.specs.Places.{places_after}
use Rattle.line_marks.specs.State.{StateSeen, state_of, state_after}
use Rattle.line_core.specs.Moves.{Moves, CanMove}
use Rattle.line_state.specs.Entries.{entry_by, CanMake}
use Rattle.line_state.specs.Running.{IsAbout}
use Rattle.line_state.specs.Seen.{LineStateSeen}
use Rattle.run_scripts.specs.Places.{PlacesSeen}
use Rattle.line_state.specs.declared.due.DueStep.{DueStep}
use Rattle.line_futures.specs.Canon.{canon}
use Rattle.line_words.proofs.Past.{told_is, tables_of_canon}
use Rattle.line_words.proofs.Plain.{places_stay}
use Rattle.line_words.specs.Node.{node, drivers_in}
use Rattle.line_words.specs.Scripts.{AreScripts}
use Rattle.line_words.specs.Tables.{HasTables}
use Rattle.line_words.specs.Told.{places_told, state_told}
use Rattle.line_words.specs.Words.{has_more}
use Rattle.line_space.proofs.ReadAt.{ReadAt}
use Rattle.line_space.proofs.Again.{due_again, can_due, after_again}
use Rattle.line_space.proofs.Stepped.{is_due, may_move, at_more, are_more, few_more}
use Rattle.line_space.specs.Stepping.{led_to, steps_of, all_steps, is_due_in}
use Rattle.state_search.proofs.Places.{same_some}

-- What is due of the actor at the past that was read, as the code found it on the state.
pub record DueAt (def : LineDef) (g : List Entry) (l : LineStateSeen) (scripts : List (DriverNo × RowSeen)) (a : Actor) (o : Option DueStep) : Type 0 where
  pub read : ReadAt def g l scripts
  pub told : option_map (entry_by def l.state) o ≡ due_by def l.state scripts a

module _ {def : LineDef} {g : List Entry} {l : LineStateSeen} {scripts : List (DriverNo × RowSeen)} {a : Actor} {o : Option DueStep}
    (due : DueAt def g l scripts a o) where
  due_so : next_past def g a ≡ option_map (entry_by def l.state) o
  due_so = sym (due_again due.read a) ∙ sym due.told

  pub none_added : (found : List (Entry × List ℕ)) → o ≡ None → found ≡ found ++ steps_of def g a
  none_added found none =
      sym (append-nil found) ∙ ap (λ (x : Option Entry). found ++ led_to def g x)
      (sym (due_so ∙ ap (λ (x : Option DueStep). option_map (entry_by def l.state) x) none))

  module _ {step : DueStep} (is : o ≡ Some step) where
    pub due_step : next_past def g a ≡ Some (entry_by def l.state step)
    due_step = due_so ∙ ap (λ (x : Option DueStep). option_map (entry_by def l.state) x) is

    pub can : CanMake def step l.state
    can = can_due due.read step (is_due due.read a due_step)

    pub about : IfSome o (IsAbout l) → IsAbout l step
    about h = subst (λ (x : Option DueStep). IfSome x (IsAbout l)) is h

    pub moves_may : CanMove a scripts
    moves_may = may_move due.read a due_step

-- The entry `e` was made of the step that is due of the actor, and the scripts have moved on.
pub record MadeAt (def : LineDef) (g : List Entry) (l : LineStateSeen) (scripts : List (DriverNo × RowSeen)) (a : Actor) (e : Entry)
    (after : List (DriverNo × RowSeen)) : Type 0 where
  pub read : ReadAt def g l scripts
  pub due : next_past def g a ≡ Some e
  pub moves : Moves a e scripts after

pub made_at : {def : LineDef} {g : List Entry} {l : LineStateSeen} {scripts : List (DriverNo × RowSeen)} {a : Actor} {o : Option DueStep}
    → DueAt def g l scripts a o → {step : DueStep} → o ≡ Some step → {e : Entry} → e ≡ entry_by def l.state step
    → {after : List (DriverNo × RowSeen)} → Moves a e scripts after → MadeAt def g l scripts a e after
made_at due is made moves = record { read = due.read; due = due_step due is ∙ ap Some (sym made); moves = moves }

module _ {def : LineDef} {g : List Entry} {l : LineStateSeen} {scripts : List (DriverNo × RowSeen)} {a : Actor} {e : Entry}
    {after : List (DriverNo × RowSeen)} (made : MadeAt def g l scripts a e after) where
  pub few_after : (r : DriverNo) → place_of after r < 4294967296
  few_after = few_more made.read a made.due after made.moves

  pub are_after : AreScripts def after
  are_after = are_more made.read a made.due after made.moves

  pub words_after : (u : StateSeen) → u ≡ state_after def e l.state → (more : Bool) → more ≡ has_more def → (ds : List DriverNo) → ds ≡ drivers_in def.calls
      → state_told more def (canon u) (places_told after ds) ≡ node def (e ∷ g)
  words_after u next more m ds d =
      let due = is_due made.read a made.due in
      ap (λ (x : StateSeen). state_told more def x (places_told after ds)) (ap canon next ∙ after_again made.read e due)
      ∙ (ap (λ (b : Bool). state_told b def (canon (state_of def (e ∷ g))) (places_told after ds)) m
      ∙ (ap (λ (x : List DriverNo). state_told (has_more def) def (canon (state_of def (e ∷ g))) (places_told after x)) d
      ∙ told_is def (e ∷ g) after made.read.valid (due, made.read.legal) are_after (at_more made.read a made.due after made.moves)))

  pub one_added : (found new : List (Entry × List ℕ)) (ws : List ℕ) → new ≡ found ++ (e, ws) ∷ [] → ws ≡ node def (e ∷ g)
      → new ≡ found ++ steps_of def g a
  one_added found new ws pushed is_node =
      pushed ∙ (ap (λ (x : List ℕ). found ++ (e, x) ∷ []) is_node ∙ ap (λ (x : Option Entry). found ++ led_to def g x) (sym made.due))

  -- numbers can be read into the state after it
  pub tables_after : (u : StateSeen) → u ≡ state_after def e l.state → HasTables def u
  tables_after u next =
      let due = is_due made.read a made.due in
      let working = l.state.round.working in
      tables_of_canon def (e ∷ g) made.read.valid (due, made.read.legal) u (ap canon next ∙ after_again made.read e due)
      (λ plain. ap (λ (x : StateSeen). x.places) next
      ∙ (ap (λ (p : PlacesSeen). places_after def working e p) (made.read.tables.unbegun plain) ∙ places_stay def plain working e g due))

-- ---- the actors of whom something is due

module _ {def : LineDef} {g : List Entry} {l : LineStateSeen} {scripts : List (DriverNo × RowSeen)} (read : ReadAt def g l scripts) where
  -- the others add nothing
  pub due_only : (xs : List Actor) → all_steps def g (filter (is_due_in def l.state scripts) xs) ≡ all_steps def g xs
  due_only [] = refl
  due_only (a ∷ xs) = by (is_due_in def l.state scripts a) refl (due_only xs)
    where
      none_if : (o : Option Entry) → is_some o ≡ false → o ≡ None
      none_if None h = refl
      none_if (Some e) h = absurd (true≢false h)

      by : (b : Bool) → is_due_in def l.state scripts a ≡ b → all_steps def g (filter (is_due_in def l.state scripts) xs) ≡ all_steps def g xs
          → all_steps def g (cond b (a ∷ filter (is_due_in def l.state scripts) xs)
          (filter (is_due_in def l.state scripts) xs)) ≡ steps_of def g a ++ all_steps def g xs
      by true is rest = ap (λ (x : List (Entry × List ℕ)). steps_of def g a ++ x) rest
      by false is rest =
          let none : next_past def g a ≡ None = sym (due_again read a) ∙ none_if (due_by def l.state scripts a) is in
          rest ∙ ap (λ (o : Option Entry). led_to def g o ++ all_steps def g xs) (sym none)

-- one more actor is looked at
pub filter_next : (P : Actor → Bool) (xs : List Actor) (i : ℕ) (a : Actor) → slice_get xs i ≡ Some a
    → (t : Bool) → P a ≡ t → (now after : List Actor) → after ≡ cond t (now ++ a ∷ []) now
    → after ++ filter P (drop (i + 1) xs) ≡ now ++ filter P (drop i xs)
filter_next P xs i a at t is now after added =
    ap (λ (y : List Actor). y ++ filter P (drop (i + 1) xs)) added
    ∙ (by t ∙ sym (ap (λ (ys : List Actor). now ++ filter P ys) (next_item xs i a at)
    ∙ ap (λ (b : Bool). now ++ cond b (a ∷ filter P (drop (i + 1) xs)) (filter P (drop (i + 1) xs))) is))
  where
    by : (b : Bool) → cond b (now ++ a ∷ []) now ++ filter P (drop (i + 1) xs) ≡ now ++ cond b (a ∷ filter P (drop (i + 1) xs)) (filter P (drop (i + 1) xs))
    by true = append_assoc now (a ∷ []) (filter P (drop (i + 1) xs))
    by false = refl

-- what is due of the first actor was added, that of the others is left
pub first_added : (def : LineDef) (g : List Entry) (xs : List Actor) (a : Actor) → 1 ≤ length xs → slice_get xs 0 ≡ Some a
    → (before now : List (Entry × List ℕ)) → now ≡ before ++ steps_of def g a
    → now ++ all_steps def g (take (length xs - 1) (drop 1 xs)) ≡ before ++ all_steps def g xs
first_added def g [] a some at before now added = absurd (omega (arith, some))
first_added def g (x ∷ xs) a some at before now added =
    let rest : take (length (x ∷ xs) - 1) xs ≡ xs = take_all (length (x ∷ xs) - 1) xs (omega arith) in
    ap (λ (y : List (Entry × List ℕ)). y ++ all_steps def g (take (length (x ∷ xs) - 1) xs)) added
    ∙ (ap (λ (ys : List Actor). (before ++ steps_of def g a) ++ all_steps def g ys) rest
    ∙ (append_assoc before (steps_of def g a) (all_steps def g xs)
    ∙ ap (λ (y : Actor). before ++ (steps_of def g y ++ all_steps def g xs)) (sym (same_some x a at))))
