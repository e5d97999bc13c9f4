-- A step of one line, seen from all.
use Rattle.std.proofs.Common.{arith, ◌≡◌, ℕ, ◌<◌, Option, Some, Result, Ok, Err, List, map, length, get_or, set, slice_get, refl, sym, ap, ◌∙◌}
use Rattle.std.specs.Option.{option_map}
use Rattle.std.proofs.Math.ListN.{length-map}
use Rattle.std.proofs.lemmas.List.{map-set, set-get_or}
use Rattle.std.proofs.lemmas.Option.{slice_get-map, slice_get_read}
use Rattle.irq_base.specs.declared.entries.Actor.{Actor}
use Rattle.irq_base.specs.declared.entries.Entry.{Entry}
use Rattle.irq_line.specs.Seen.{LineSeen, IsSound}
use Rattle.irq_line.specs.declared.answers.StepRefused.{StepRefused}
use Rattle.irq_line.specs.declared.answers.Stepped.{Stepped}
use Rattle.irq_line.specs.declared.answers.Stepped.TheVariants as stepped
use Rattle.irq_line.specs.declared.answers.StepRefused.TheVariants as refusals
use Rattle.board_core.specs.Pieces.{EndsPiece}
use Rattle.board_core.specs.Places.{SteppedAt, StepWants, WantsAt, told}
use Rattle.board_core.specs.Runs.{run_on, runs_at}
use Rattle.board_core.specs.Seen.{board_line}
use Rattle.irq_line.specs.Answers.{Answers}
use Rattle.irq_line.specs.Hearing.{Lacks, runs_by}
use Rattle.irq_line.specs.Memory.{WantsMemory}
use Rattle.callbacks.specs.Heard.{one_run}
use Rattle.board_play.specs.Lines.{BoardLine}
use Rattle.board_core.proofs.InLists.{map_there}
use Rattle.board_core.proofs.Searches.{there}

module _ {X : Type 0} (f : X → LineSeen) (xs : List X) (k : ℕ) (x y : X) (within : k < length xs) (at : x ≡ get_or xs k x) where
  seen_at : slice_get (map f xs) k ≡ Some (f x)
  seen_at = slice_get-map f xs k ∙ ap (option_map f) (slice_get_read xs (length xs) k x refl within at)

  seen_same : f y ≡ f x → map f (set xs k y) ≡ map f xs
  seen_same h = map-set f xs k y ∙ ap (set (map f xs) k) h ∙ sym (map-set f xs k x) ∙ ap (λ z. map f (set xs k z)) at ∙ ap (map f) (set-get_or xs k x)

  pub stepped_at : {E L : Type 0} (ears : E) (order longer : List ℕ) (a : Actor) (r : Result (Stepped L) StepRefused)
      → Answers (f x) a r (f y) → Lacks {E = E} {L = L} (λ k run lack. ⊥) (f x) a ears r → IsSound (f y)
      → longer ≡ told r order k → SteppedAt (map f xs) order k a r (map f (set xs k y)) longer
  stepped_at ears order longer a (Ok (stepped.Added e)) answers lacking sound tells =
      record { before = f x; after = f y; at = seen_at; adds = answers; sound = sound; rest = map-set f xs k y; told = tells }
  stepped_at ears order longer a (Ok stepped.NotYet) answers lacking sound tells =
      (record { line = f x; at = seen_at; rests = answers.0 }, seen_same answers.1, tells)
  stepped_at ears order longer a (Ok (stepped.Lacks lack)) answers lacking sound tells = lacking.lacks_it
  stepped_at ears order longer a (Err (refusals.Full line len)) answers lacking sound tells =
      (record { line = f x; at = seen_at; is_full = answers.0 }, seen_same answers.1, tells)
  stepped_at ears order longer a (Err refusals.NoMemory) answers lacking sound tells = (seen_same answers, tells)

  -- the run that the line's step ended is the one that ended at its place
  pub runs_there : {L : Type 0} (r : Result (Stepped L) StepRefused) → runs_by (f x) r ≡ runs_at (map f xs) k r
  runs_there (Ok (stepped.Added e)) =
      ap (λ (o : Option BoardLine). one_run (run_on o e)) (sym (map_there board_line (map f xs) k (f x) seen_at))
  runs_there (Ok stepped.NotYet) = refl
  runs_there (Ok (stepped.Lacks lack)) = refl
  runs_there (Err refused) = refl

  -- a refusal of the line is one of the system
  pub wants_at : {L : Type 0} (may_want : Option Entry → Type 0) (moves : ℕ) (a : Actor) (r : Result (Stepped L) StepRefused)
      → WantsMemory may_want (f x) a r → StepWants may_want (map f xs) moves k a r
  wants_at may_want moves a (Ok o) wants = tt
  wants_at may_want moves a (Err (refusals.Full line len)) wants = tt
  wants_at may_want moves a (Err refusals.NoMemory) wants = record { line = f x; at = seen_at; wanted = λ room fits. wants room }

-- room for the next piece was refused
pub wants_piece : {X : Type 0} (f : X → LineSeen) (xs : List X) (may_want : Option Entry → Type 0) (moves k : ℕ) (a : Actor)
    → k < length xs → EndsPiece moves → WantsAt may_want (map f xs) moves k a
wants_piece f xs may_want moves k a within ends =
    let n = length-map xs f in
    let x = there (map f xs) k (omega (arith, within, n)) in
    record { line = x.0; at = x.1; wanted = λ room fits. absurd (fits ends) }
