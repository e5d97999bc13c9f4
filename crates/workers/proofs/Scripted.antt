-- A driver's own entries are those of its calls.
use Rattle.std.proofs.Common.{◌≡◌, ℕ, ◌+◌, IsSomeAnd, Option, Some, None, List, map, slice_get, reverse, sym, ap, ◌∙◌, subst}
use Rattle.irq_base.specs.declared.entries.Actor.{Actor}
use Rattle.irq_base.specs.declared.entries.Actor.TheVariants as actors
use Rattle.irq_base.specs.declared.entries.Entry.{Entry}
use Rattle.irq_base.specs.declared.lines.LineDef.{LineDef}
use Rattle.irq_base.specs.declared.numbers.DriverNo.{DriverNo}
use Rattle.irq_laws.proofs.ScriptLaws.{follows_scripts}
use Rattle.irq_model.specs.Due.{calls_by, entries_by}
use Rattle.irq_model.specs.Scripts.{AreMadeBy}
use Rattle.line_lock.specs.Passes.{LockSeen}
use Rattle.line_lock.specs.Placed.{placed}
use Rattle.line_lock.specs.declared.view.Placed.{Placed}
use Rattle.workers.specs.Fit.{Fit, IsPost}
use Rattle.workers.specs.Seen.{PostSeen, JobSeen, JobsSeen}
use Rattle.workers.proofs.Own.{by_places, entries_seen}

pub own_made : (lines : List LockSeen) (s : JobsSeen) (i place : ℕ) (j : JobSeen) (t : PostSeen) (r : DriverNo) → Fit lines s
    → slice_get s.jobs i ≡ Some j → slice_get j.posts place ≡ Some t → j.actor ≡ actors.Driver r
    → AreMadeBy (calls_by r t.pass.def.calls) (map (λ (x : Placed). x.entry) t.pass.knows.mine)
own_made lines s i place j t r fit at_job at_post driver = by_line (slice_get lines (j.first + place)) ((fit.each i j at_job).posted place t at_post)
  where
    by_line : (o : Option LockSeen) → IsSomeAnd o (λ l. IsPost l j.actor t)
        → AreMadeBy (calls_by r t.pass.def.calls) (map (λ (x : Placed). x.entry) t.pass.knows.mine)
    by_line None is = absurd is
    by_line (Some l) is =
        subst (λ (d : LineDef). AreMadeBy (calls_by r d.calls) (map (λ (x : Placed). x.entry) t.pass.knows.mine)) (sym is.of_line.1)
        (subst (λ (es : List Entry). AreMadeBy (calls_by r l.def.calls) es) entries (follows_scripts l.def t.pass.knows.seen is.legal r))
      where
        entries : entries_by r (reverse t.pass.knows.seen) ≡ map (λ (x : Placed). x.entry) t.pass.knows.mine
        entries =
            entries_seen r t.pass.knows.seen
            ∙ (sym (by_places r 0 t.pass.knows.seen)
            ∙ ap (map (λ (x : Placed). x.entry)) (sym (is.own ∙ ap (λ (a : Actor). placed a t.pass.knows.seen) driver)))
