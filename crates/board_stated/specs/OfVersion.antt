-- A board has what texts of its version have.
use Rattle.std.specs.Prelude.{◌≡◌, Bool, true, false, All, []}
use Rattle.irq_base.specs.declared.calls.Call.{Call}
use Rattle.irq_base.specs.declared.calls.Call.TheVariants as calls
use Rattle.irq_base.specs.declared.devices.Kind.{Kind}
use Rattle.irq_base.specs.declared.devices.Kind.TheVariants as kinds
use Rattle.irq_base.specs.declared.lines.LineDef.{LineDef}
use Rattle.board_def.specs.LineOf.{line_defs_of}
use Rattle.board_def.specs.Seen.{BoardSeen}
use Rattle.board_words.specs.Versions.{has_runs}

-- a call whose row logs of earlier versions have, too
abbrev pub has_old_row : Call → Bool
has_old_row (calls.Wake dev) = false
has_old_row (calls.Quiet dev) = false
has_old_row (calls.Arm dev) = false
has_old_row (calls.Serve dev) = false
has_old_row _ = true

abbrev pub is_told_kind : Kind → Bool
is_told_kind (kinds.Told threaded) = true
is_told_kind _ = false

-- the line's runs make no calls, its devices are told nothing and hold no signal, and its drivers
-- make no call whose row is new
pub record HasOldRows (def : LineDef) : Type 0 where
  pub runs : def.runs ≡ []
  pub told : def.told ≡ []
  pub calls : All (λ c. has_old_row c.1 ≡ true) def.calls
  pub kinds : All (λ x. is_told_kind x.kind ≡ false) def.devices
  pub held : All (λ x. x.held ≡ false) def.devices

-- a board of an earlier version has such lines alone
abbrev pub IsOfItsVersion : BoardSeen → Type 0
IsOfItsVersion b = has_runs b.version ≡ false → All HasOldRows (line_defs_of b)
