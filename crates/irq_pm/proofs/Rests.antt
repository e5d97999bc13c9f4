-- Once no thread and no processor of a board can move, and nobody hangs, none has an entry due on
-- any line; so a disable of the system's driver goes on.
use Rattle.std.proofs.Common.{◌≡◌, ℕ, true, is_some, None, Some, List, reverse, slice_get, sym, subst}
use Rattle.std.proofs.lemmas.List.{reverse-reverse}
use Rattle.irq_base.specs.declared.calls.Call.TheVariants as calls
use Rattle.irq_base.specs.declared.entries.Actor.TheVariants as actors
use Rattle.irq_base.specs.declared.entries.Entry.{Entry}
use Rattle.irq_base.specs.declared.numbers.CpuNo.{CpuNo}
use Rattle.irq_base.specs.declared.numbers.DevNo.{DevNo}
use Rattle.irq_base.specs.declared.numbers.DriverNo.{DriverNo}
use Rattle.irq_model.specs.Due.{due_call}
use Rattle.irq_model.specs.Next.{next_past}
use Rattle.board_def.specs.Rules.{IsBoard}
use Rattle.board_def.specs.Seen.{BoardSeen}
use Rattle.board_play.specs.Hanging.{NobodyHangs}
use Rattle.board_play.specs.Kept.{AreKept}
use Rattle.board_play.specs.Lines.{BoardLine}
use Rattle.board_play.specs.Order.{due_move}
use Rattle.board_play.proofs.Standstill.{cpus_rest, threads_rest, valid_runs_at}
use Rattle.irq_pm.specs.Sleeping.{has_calm_runs}
use Rattle.irq_pm.proofs.Falls.{falls_asleep}

module _ (board : BoardSeen) (is : IsBoard board) (lines : List BoardLine) (k : AreKept board lines) (unhung : NobodyHangs lines)
    (threads : (d : DevNo) → due_move board lines (actors.Thread d) ≡ None)
    (cpus : (c : CpuNo) → due_move board lines (actors.Cpu c) ≡ None) where
  -- a disable that isn't complete goes on
  pub disable_moves : (i : ℕ) (x : BoardLine) → slice_get lines i ≡ Some x → has_calm_runs x.def ≡ true → (r : DriverNo) (n : ℕ)
      → due_call x.def r x.past ≡ Some (calls.Disable, n) → is_some (next_past x.def x.past (actors.Driver r)) ≡ true
  disable_moves i x at calm r n due =
      let back : (P : List Entry → Type 0) → P x.past → P (reverse (reverse x.past)) = λ P p. subst P (sym (reverse-reverse x.past)) p in
      subst (λ (p : List Entry). is_some (next_past x.def p (actors.Driver r)) ≡ true) (reverse-reverse x.past)
      (falls_asleep x.def (reverse x.past) r n (valid_runs_at board is lines k i x at) calm
      (λ d. back (λ p. next_past x.def p (actors.Thread d) ≡ None) (threads_rest board is lines k threads i x at d))
      (λ c. back (λ p. next_past x.def p (actors.Cpu c) ≡ None) (cpus_rest board is lines k unhung cpus i x at c))
      (back (λ p. due_call x.def r p ≡ Some (calls.Disable, n)) due))
