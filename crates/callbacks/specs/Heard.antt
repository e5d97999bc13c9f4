-- For which runs handlers were called.
use Rattle.std.specs.Prelude.{◌≡◌, Option, Some, None, List, [], ◌∷◌}
use Rattle.irq_base.specs.declared.devices.Run.{Run}

-- The handlers went from what they were to what they are by one call for each of these runs, the
-- newest first, in this order, and by no other call. What one call is, `hears` says.
abbrev pub Heard : {H : Type 0} → (hears : H → Run → H → Type 0) → List Run → H → H → Type 0
Heard hears [] old new = old ≡ new
Heard {H} hears (run ∷ runs) old new = (between : H) × Heard hears runs old between
    × hears between run new

-- the runs of one moment: the run, if there is one
abbrev pub one_run : Option Run → List Run
one_run None = []
one_run (Some run) = run ∷ []
