-- Which placings were told.
use Rattle.std.proofs.Common.{◌≡◌, ℕ, inl, List, [], OnErr, Result, Ok, Err, sym, ap, ◌∙◌, subst}
use Rattle.std.proofs.lemmas.List.{append-nil}
use Rattle.play_report.specs.declared.failing.PlayFailed.{PlayFailed}
use Rattle.play_report.specs.declared.failing.PlayFailed.TheVariants as fails
use Rattle.board_core.specs.declared.ends.PlayEnd.{PlayEnd}
use Rattle.board_def.specs.Seen.{BoardSeen}
use Rattle.irq_hotplug.specs.Fleet.{FleetSeen, IsAfterSome, after_events, first_fleet, fleet_after}
use Rattle.irq_hotplug.specs.Notices.{notices_of}
use Rattle.irq_hotplug.specs.declared.events.Event.{Event}
use Rattle.notifiers.specs.Told.{Notice}
use Rattle.hotplug_play.specs.Played.{TellsPlacings, TellsUpTo, placings_after}

module _ (told : List Notice → Type 0) (b : BoardSeen) (vectors : ℕ) (es : List Event) where
  -- those of a fleet that took a beginning of the events
  pub up_to : (first now : FleetSeen) → first ≡ first_fleet b vectors → IsAfterSome first es now → told (notices_of now.said) → TellsUpTo told b vectors es
  up_to first now is some all =
      record {
        taken = some.taken;
        left = some.left;
        parts = some.parts;
        placings = subst (λ (f : FleetSeen). told (notices_of f.said)) (some.after ∙ ap (λ (f : FleetSeen). after_events f some.taken) is) all;
      }

  -- those of a fleet that took all
  pub of_all : (f : FleetSeen) → f ≡ fleet_after b vectors es → told (notices_of f.said) → told (placings_after b vectors es)
  of_all f is all = subst (λ (g : FleetSeen). told (notices_of g.said)) is all

  pub up_to_all : told (placings_after b vectors es) → TellsUpTo told b vectors es
  up_to_all all = record { taken = es; left = []; parts = sym (append-nil es); placings = all }

  -- all were told, however the play ended
  pub all_told : (end : Result PlayEnd PlayFailed) → told (placings_after b vectors es) → TellsPlacings told b vectors es end
  all_told (Ok _) all = all
  all_told (Err (fails.Write failed)) all = all
  all_told (Err (fails.Step refused)) all = all
  all_told (Err fails.NoMemory) all = inl (up_to_all all)

pub on_err : {T E : Type 0} (P : Type 0) (r : Result T E) → P → OnErr r P
on_err P (Ok x) h = tt
on_err P (Err e) h = h
