-- The numbers of a line to which nothing has happened, and what a whole list of steps says of each past.
use Rattle.std.proofs.Common.{◌≡◌, ◌<◌, ℕ, Bool, List, [], ◌++◌, length, sym, ap, subst, ◌∙◌}
use Rattle.irq_base.specs.declared.entries.Entry.{Entry}
use Rattle.irq_base.specs.declared.lines.LineDef.{LineDef}
use Rattle.irq_base.specs.declared.numbers.DriverNo.{DriverNo}
use Rattle.irq_model.specs.Legal.{IsDue, IsLegalPast}
use Rattle.irq_model.specs.Valid.{IsValid}
use Rattle.irq_model.specs.ValidRuns.{HasValidRuns}
use Rattle.line_core.proofs.More.{line_starts}
use Rattle.line_scripts.specs.Rows.{RowSeen, place_of, within_of}
use Rattle.line_marks.proofs.StateFollows.{state_first}
use Rattle.line_marks.specs.State.{StateSeen, first_state, state_of}
use Rattle.line_futures.specs.Canon.{canon}
use Rattle.line_space.proofs.SearchLaws.{path_is_legal, steps_anywhere}
use Rattle.line_words.proofs.Past.{told_is}
use Rattle.line_words.specs.Node.{node, drivers_in}
use Rattle.line_words.specs.Scripts.{AreScripts}
use Rattle.line_words.specs.Told.{places_told, state_told}
use Rattle.line_words.specs.Words.{has_more}
use Rattle.irq_base.specs.declared.entries.Actor.{Actor}
use Rattle.line_state.specs.Seen.{LineStateSeen, runs_seen, taker_of}
use Rattle.run_scripts.specs.Runs.{AreRunsOf}
use Rattle.line_words.proofs.Placing.{scripts_all, all_at}
use Rattle.line_words.specs.Node.{places_words}
use Rattle.line_words.specs.Reading.{go_all}
use Rattle.line_space.proofs.Lists.{are_steps}
use Rattle.line_space.specs.Stepping.{IsReached, actors_by, all_steps}
use Rattle.state_search.specs.Paths.{IsPath, AreSteps, IsReached as IsReachedBy}

module _ (def : LineDef) (valid : IsValid def) (runs : HasValidRuns def) where
  pub first_words : (l : LineStateSeen) (scripts : List (DriverNo × RowSeen)) (more : Bool) (ds : List DriverNo) → l.state ≡ first_state def
      → AreRunsOf def (runs_seen l) → AreScripts def scripts
      → ((r : DriverNo) → place_of scripts r ≡ 0) → ((r : DriverNo) → within_of scripts r ≡ 0) → more ≡ has_more def → ds ≡ drivers_in def.calls
      → state_told more def (canon l.state) (places_told scripts ds) ≡ node def []
  first_words l scripts more ds is scripted are places withins m d =
      let line = line_starts def l scripts valid runs is scripted are.calls places withins in
      ap (λ (x : StateSeen). state_told more def (canon x) (places_told scripts ds)) (is ∙ sym (state_first def))
      ∙ (ap (λ (b : Bool). state_told b def (canon (state_of def [])) (places_told scripts ds)) m
      ∙ (ap (λ (x : List DriverNo). state_told (has_more def) def (canon (state_of def [])) (places_told scripts x)) d
      ∙ told_is def [] scripts valid tt are line.at))

module _ (def : LineDef) (valid : IsValid def) where
  pub steps_each : (g h : List Entry) (found : List (Entry × List ℕ)) → IsLegalPast def g → IsPath (IsDue def) h → node def g ≡ node def h
      → AreSteps (IsDue def) (node def) g found → AreSteps (IsDue def) (node def) h found
  steps_each g h found legal path same steps = steps_anywhere def valid g h found legal (path_is_legal def h path) same steps

-- what is reached by a path of the search is reached by a legal past
pub reached_is : (def : LineDef) (ws : List ℕ) → IsReachedBy (IsDue def) (node def) 100000000 ws → IsReached def ws
reached_is def ws r = (r.0, path_is_legal def r.0 r.1, sym r.2, r.3)

-- the steps after the past that was reached are those after each path with these numbers
pub steps_all : (def : LineDef) → IsValid def → HasValidRuns def → (ws : List ℕ) → IsReached def ws
    → (scripts : List (DriverNo × RowSeen)) → AreScripts def scripts
    → (found new : List (Entry × List ℕ)) (asked : List Actor) → found ≡ []
    → ((past : List Entry) → IsLegalPast def past → ws ≡ node def past
    → asked ≡ actors_by def (state_of def past).desc.flow (taker_of (state_of def past)) (drivers_in def.calls))
    → ((past : List Entry) → IsLegalPast def past → ws ≡ node def past → length past < 100000000 → new ≡ found ++ all_steps def past asked)
    → (h : List Entry) → IsPath (IsDue def) h → node def h ≡ ws → AreSteps (IsDue def) (node def) h new
steps_all def valid runs ws reached scripts are found new asked none who added h path same =
    let g = reached.0 in
    let legal = reached.1 in
    let after = go_all (drivers_in def.calls) (places_words def g (drivers_in def.calls) []) scripts in
    let steps = are_steps def g valid runs legal after (scripts_all def g (drivers_in def.calls) [] scripts are) (all_at def g legal [] scripts are) in
    let is : new ≡ all_steps def g (actors_by def (state_of def g).desc.flow (taker_of (state_of def g)) (drivers_in def.calls))
    = added g legal reached.2 reached.3 ∙ (ap (λ (x : List (Entry × List ℕ)). x ++ all_steps def g asked) none
    ∙ ap (λ (x : List Actor). all_steps def g x) (who g legal reached.2)) in
    let P : List (Entry × List ℕ) → Type 0 = λ x. AreSteps (IsDue def) (node def) g x in
    steps_each def valid g h new legal path (sym reached.2 ∙ sym same) (subst P (sym is) steps)
