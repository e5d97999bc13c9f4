-- The log limit is no rule: nothing that the table of steps reads depends on it.
use Rattle.std.proofs.Common.{◌≡◌, ℕ, List, reverse, refl}
use Rattle.irq_base.specs.declared.lines.LineDef.{LineDef}
use Rattle.irq_base.specs.declared.entries.Actor.{Actor}
use Rattle.irq_base.specs.declared.entries.Actor.TheVariants as actors
use Rattle.irq_base.specs.declared.entries.Entry.{Entry}
use Rattle.irq_model.specs.Legal.{IsLegal}
use Rattle.irq_model.specs.Next.{next, next_past}
use Rattle.irq_laws.specs.LogLimit.{with_log}

same_next : (def : LineDef) (n : ℕ) (past : List Entry) (a : Actor) → next_past (with_log def n) past a ≡ next_past def past a
same_next def n past (actors.Thread d) = refl
same_next def n past (actors.Cpu c) = refl
same_next def n past (actors.Driver r) = refl

pub log_is_no_rule : (def : LineDef) (n : ℕ) (h : List Entry) (a : Actor) → next (with_log def n) h a ≡ next def h a
log_is_no_rule def n h a = same_next def n (reverse h) a

pub legal_with_log : (def : LineDef) (n : ℕ) (h : List Entry) → IsLegal def h → IsLegal (with_log def n) h
legal_with_log def n h legal = legal
