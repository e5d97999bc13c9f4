-- If no run of a board moves a line or waits, none of a line of it does.
use Rattle.std.proofs.Common.{◌≡◌, ℕ, Bool, true, false, not, ◌==◌, cond, Some, List, [], ◌∷◌, All, map, filter, slice_get, refl, ap, subst}
use Rattle.std.specs.List.{list_any}
use Rattle.std.proofs.lemmas.Bool.{or_parts, or_from}
use Rattle.std.proofs.lemmas.List.Elements.{All-nil, All-cons}
use Rattle.irq_base.specs.declared.calls.Call.{Call}
use Rattle.irq_base.specs.declared.calls.Call.TheVariants as calls
use Rattle.irq_base.specs.declared.devices.Part.{Part}
use Rattle.irq_base.specs.declared.lines.LineDef.{LineDef}
use Rattle.irq_base.specs.declared.numbers.DevNo.{DevNo}
use Rattle.irq_base.specs.declared.numbers.LineNo.{LineNo}
use Rattle.irq_model.specs.ValidRuns.{may_wait}
use Rattle.play_laws.proofs.NobodyHangs.{nobody_hangs}
use Rattle.board_def.specs.Rules.{IsBoard}
use Rattle.board_def.specs.Runs.{of_run}
use Rattle.board_def.specs.Seen.{BoardSeen}
use Rattle.board_def.specs.declared.rows.RunCall.{RunCall}
use Rattle.board_play.specs.Hanging.{NobodyHangs}
use Rattle.board_play.specs.Kept.{AreKept}
use Rattle.board_play.specs.Lines.{BoardLine, defs_of}
use Rattle.board_play.proofs.Listed.{def_at}
use Rattle.board_play.proofs.OfBoard.{def_of_row, valid_defs}
use Rattle.board_play.proofs.Standstill.{valid_runs_at}
use Rattle.irq_pm.specs.Sleeping.{moves_or_waits, has_calm_runs}
use Rattle.irq_pm.specs.SleptBoard.{are_runs_calm, slept}

none_of_line : (line : LineNo) (rs : List RunCall) → list_any (λ r. moves_or_waits r.call) rs ≡ false
    → list_any (λ c. moves_or_waits c.2) (map of_run (filter (λ r. r.line.0 == line.0) rs)) ≡ false
none_of_line line [] none = refl
none_of_line line (r ∷ rs) none =
    let parts = or_parts (moves_or_waits r.call) (list_any (λ r. moves_or_waits r.call) rs) none in
    by_test (r.line.0 == line.0) parts.0 (none_of_line line rs parts.1)
  where
    by_test : (b : Bool) → moves_or_waits r.call ≡ false
        → list_any (λ c. moves_or_waits c.2) (map of_run (filter (λ r. r.line.0 == line.0) rs)) ≡ false
        → list_any (λ c. moves_or_waits c.2) (map of_run (cond b (r ∷ filter (λ r. r.line.0 == line.0) rs) (filter (λ r. r.line.0 == line.0) rs))) ≡ false
    by_test true here rest = or_from (moves_or_waits r.call) _ here rest
    by_test false here rest = rest

not_true : (b : Bool) → not b ≡ true → b ≡ false
not_true false h = refl
not_true true h = cc

pub calm_def : (b : BoardSeen) → are_runs_calm b ≡ true → (i : ℕ) (def : LineDef) → slice_get (defs_of (slept b)) i ≡ Some def
    → has_calm_runs def ≡ true
calm_def b calm i def at =
    let o = def_of_row (slept b) i def at in
    subst (λ (d : LineDef). has_calm_runs d ≡ true) o.is
    (ap not (none_of_line o.row.line b.runs (not_true (list_any (λ r. moves_or_waits r.call) b.runs) calm)))

-- so nobody hangs

calm_call : (call : Call) → moves_or_waits call ≡ false → may_wait call ≡ false
calm_call calls.Disable calm = cc
calm_call calls.Sync calm = cc
calm_call (calls.Free dev) calm = cc
calm_call _ calm = refl

none_waits : (cs : List (DevNo × Part × Call)) → list_any (λ c. moves_or_waits c.2) cs ≡ false → All (λ c. may_wait c.2 ≡ false) cs
none_waits [] none = All-nil (λ c. may_wait c.2 ≡ false)
none_waits (c ∷ cs) none =
    let parts = or_parts (moves_or_waits c.2) (list_any (λ c. moves_or_waits c.2) cs) none in
    All-cons (λ c. may_wait c.2 ≡ false) c cs (calm_call c.2 parts.0) (none_waits cs parts.1)

pub calm_boards_settle : (b : BoardSeen) → IsBoard (slept b) → are_runs_calm b ≡ true → (lines : List BoardLine) → AreKept (slept b) lines
    → NobodyHangs lines
calm_boards_settle b is calm lines k i x a at =
    let there = def_at (slept b) lines k i x at in
    nobody_hangs x.def x.past (valid_defs (slept b) is i x.def there) (valid_runs_at (slept b) is lines k i x at)
    (none_waits x.def.runs (not_true (list_any (λ c. moves_or_waits c.2) x.def.runs) (calm_def b calm i x.def there))) (k.legal i x at) a
