-- A driver's entries are the entries of its calls, in the order of its script, each once.
use Rattle.std.specs.Prelude.{◌≡◌, ◌⊎◌, List, [], ◌∷◌, ◌++◌, length, reverse}
use Rattle.irq_base.specs.declared.numbers.DriverNo.{DriverNo}
use Rattle.irq_base.specs.declared.calls.Call.{Call}
use Rattle.irq_base.specs.declared.calls.Call.TheVariants as calls
use Rattle.irq_base.specs.declared.lines.LineDef.{LineDef}
use Rattle.irq_base.specs.declared.entries.Entry.{Entry}
use Rattle.irq_base.specs.declared.entries.Entry.TheVariants as by
use Rattle.irq_base.specs.declared.entries.DriverEntry.TheVariants as drivers
use Rattle.irq_base.specs.declared.entries.CallEntry.{CallEntry}
use Rattle.irq_base.specs.declared.entries.CallEntry.TheVariants as called
use Rattle.irq_base.specs.declared.entries.UnlinkAnswer.TheVariants as unlinks
use Rattle.irq_model.specs.Due.{calls_by, entries_by}

-- the steps of a complete call that drivers, handlers and threads make alike
abbrev pub MakesSteps : Call → List CallEntry → Type 0
MakesSteps (calls.Free d) (called.Unlink unlinks.NotThere dev ∷ []) = dev ≡ d
MakesSteps (calls.Free d) (called.Unlink (unlinks.Unlinked last) dev ∷ called.HardClear
    ∷ called.Freed freed ∷ []) = (dev ≡ d) × (freed ≡ d)
MakesSteps calls.Disable (called.Disable ∷ called.HardClear ∷ called.Synced ∷ []) = Unit {0}
MakesSteps calls.DisableNosync (called.Disable ∷ []) = Unit {0}
MakesSteps calls.Enable (called.Enable answer ∷ []) = Unit {0}
MakesSteps calls.Sync (called.HardClear ∷ called.Synced ∷ []) = Unit {0}
MakesSteps calls.SyncHard (called.HardClear ∷ []) = Unit {0}
MakesSteps calls.DisableHard (called.Disable ∷ called.HardClear ∷ []) = Unit {0}
MakesSteps (calls.Wake d) (called.Wake woken dev ∷ []) = dev ≡ d
MakesSteps (calls.Quiet d) (called.Quiet dev ∷ []) = dev ≡ d
MakesSteps (calls.Arm d) (called.Arm edge dev ∷ []) = dev ≡ d
MakesSteps (calls.Serve d) (called.Serve dev served ∷ []) = dev ≡ d
MakesSteps _ _ = ⊥

abbrev pub step_in : Entry → List CallEntry
step_in (by.CpuCall cpu call) = call ∷ []
step_in (by.ThreadCall dev call) = call ∷ []
step_in (by.DriverCall driver call) = call ∷ []
step_in _ = []

-- the entries as steps of calls; one that is none is left out
abbrev pub steps_in : List Entry → List CallEntry
steps_in [] = []
steps_in (e ∷ es) = step_in e ++ steps_in es

-- the entries that a complete call makes
abbrev pub MakesAll : Call → List Entry → Type 0
MakesAll (calls.Ask d) (by.Driver r (drivers.Ask edge dev) ∷ []) = dev ≡ d
MakesAll (calls.Request d flags) (by.Driver r (drivers.Request given answer opened dev) ∷ []) =
    (dev ≡ d) × (given ≡ flags)
MakesAll (calls.Affinity mask) (by.Driver r (drivers.Affinity answer given) ∷ []) = given ≡ mask
MakesAll (calls.Moment at) (by.Driver r (drivers.Moment given) ∷ []) = given ≡ at
MakesAll c es = MakesSteps c (steps_in es) × (length (steps_in es) ≡ length es)

-- the calls one after another, all complete
abbrev pub MakesAllOf : List Call → List Entry → Type 0
MakesAllOf [] es = es ≡ []
MakesAllOf (c ∷ cs) es =
    (own rest : List Entry) × (es ≡ own ++ rest) × MakesAll c own × MakesAllOf cs rest

-- some of the entries that a call makes, from its first one on
abbrev pub MakesSome : Call → List Entry → Type 0
MakesSome c es = (more : List Entry) × MakesAll c (es ++ more)

-- the calls one after another, up to some point within one of them
abbrev pub AreMadeBy : List Call → List Entry → Type 0
AreMadeBy [] es = es ≡ []
AreMadeBy (c ∷ cs) es = MakesSome c es
    ⊎ ((own rest : List Entry) × (es ≡ own ++ rest) × MakesAll c own × AreMadeBy cs rest)

abbrev pub FollowsScriptsPast : LineDef → List Entry → Type 0
FollowsScriptsPast def past = (r : DriverNo) → AreMadeBy (calls_by r def.calls) (entries_by r past)

abbrev pub FollowsScripts : LineDef → List Entry → Type 0
FollowsScripts def h = FollowsScriptsPast def (reverse h)
