-- Ready actors that are asked one after another.
use Rattle.std.specs.Prelude.{◌≡◌, ◌<◌, ℕ, IsSomeAnd, Option, Some, None, List, slice_get}
use Rattle.std.specs.Prelude.{slice_set}
use Rattle.irq_line.specs.Seen.{LineSeen}
use Rattle.board_ready.specs.Seen.{ReadySeen}
use Rattle.board_ready.specs.declared.parts.CurrentCall.{CurrentCall}
use Rattle.board_ready.specs.declared.parts.LineReadiness.{LineReadiness}
use Rattle.board_core.specs.ReadyFor.{IsReadinessOf, call_of}
use Rattle.board_core.specs.Scripts.{ScriptSeen}

-- what the first n lines tell, and the calls of the first n drivers
abbrev pub HasLines : List LineSeen → ℕ → ReadySeen → Type 0
HasLines lines n ready = (k : ℕ) (x : LineSeen) → k < n → slice_get lines k ≡ Some x
    → IsSomeAnd (slice_get ready.lines k) (IsReadinessOf x)

abbrev pub HasDrivers : List ScriptSeen → ℕ → ReadySeen → Type 0
HasDrivers scripts n ready = (j : ℕ) (s : ScriptSeen) → j < n → slice_get scripts j ≡ Some s
    → slice_get ready.drivers j ≡ Some (call_of s)

-- the driver's call is put in
pub record AsksCall (scripts : List ScriptSeen) (j : ℕ) (old new : List (Option CurrentCall))
    : Type 0 where
  pub call : Option CurrentCall
  pub is : (s : ScriptSeen) → slice_get scripts j ≡ Some s → call ≡ call_of s
  pub set : new ≡ slice_set old j call

-- the call of the driver at this place is put in; nothing changes without a place
abbrev pub AsksScript : List ScriptSeen → Option ℕ → List (Option CurrentCall)
    → List (Option CurrentCall) → Type 0
AsksScript scripts None old new = new ≡ old
AsksScript scripts (Some j) old new = AsksCall scripts j old new

-- what the line at place k tells is put in, and the driver's call; all else is as it was
pub record IsRefreshed (lines : List LineSeen) (scripts : List ScriptSeen) (k : ℕ)
    (script : Option ℕ) (old new : ReadySeen) : Type 0 where
  pub told : LineReadiness
  pub is : (x : LineSeen) → slice_get lines k ≡ Some x → IsReadinessOf x told
  pub of_lines : new.lines ≡ slice_set old.lines k told
  pub of_drivers : AsksScript scripts script old.drivers new.drivers
