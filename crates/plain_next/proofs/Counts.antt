-- The counts for the rule on spurious interrupts are at most the number of entries.
use Rattle.std.proofs.Common.{◌≡◌, ℕ, ◌+◌, ◌≤◌, Bool, true, false, List, [], ◌∷◌, length, suc, subst, sym, arith, cond, ◌==◌}
use Rattle.irq_base.specs.declared.lines.LineDef.{LineDef}
use Rattle.irq_base.specs.declared.entries.Entry.{Entry}
use Rattle.irq_base.specs.declared.entries.Entry.TheVariants as by
use Rattle.irq_base.specs.declared.entries.CpuEntry.TheVariants as cpus
use Rattle.irq_base.specs.declared.entries.ThreadEntry.TheVariants as threads
use Rattle.irq_base.specs.declared.entries.DriverEntry.TheVariants as drivers
use Rattle.irq_base.specs.declared.entries.Note.TheVariants as notes
use Rattle.irq_base.specs.declared.entries.LinkAnswer.TheVariants as links
use Rattle.irq_model.specs.Spurious.{Counts, Noted, counted, unhandled, judged, judged_by_threads, noted, counts_of, now, round_wakes, round_handles}

pub record IsWithin (n : ℕ) (c : Counts) : Type 0 where
  pub irq_count : c.irq_count ≤ n
  pub irqs_unhandled : c.irqs_unhandled ≤ n
  pub threads_handled : c.threads_handled ≤ n

more : (n : ℕ) (c : Counts) → IsWithin n c → IsWithin (n + 1) c
more n c h = record {
  irq_count = omega (arith, h.irq_count);
  irqs_unhandled
      = omega (arith, h.irqs_unhandled);
  threads_handled = omega (arith, h.threads_handled);
}

counted_within : (window limit n : ℕ) (c : Counts) → c.irq_count ≤ n → c.irqs_unhandled ≤ n + 1
    → c.threads_handled ≤ n + 1 → IsWithin (n + 1) (counted window limit c).counts
counted_within window limit n c a b t = record { irq_count = grind arith; irqs_unhandled = grind arith; threads_handled = grind arith }

judged_within : (window limit now n : ℕ) (handled : Bool) (c : Counts) → IsWithin n c → IsWithin (n + 1) (judged window limit now handled c).counts
judged_within window limit now n true c h = counted_within window limit n c h.irq_count (omega (arith, h.irqs_unhandled)) (omega (arith, h.threads_handled))
judged_within window limit now n false c h =
    let few : (unhandled now c).irqs_unhandled ≤ n + 1 = grind (arith, h.irqs_unhandled) in
    counted_within window limit n (unhandled now c) h.irq_count few (omega (arith, h.threads_handled))

by_threads_within : (window limit now n : ℕ) (c : Counts) → IsWithin n c → IsWithin (n + 1) (judged_by_threads window limit now c).counts
by_threads_within window limit now n c h =
    let since : Counts = record c { last = c.threads_handled } in
    elim (c.threads_handled == c.last) as (λ b. IsWithin (n + 1) (cond b (judged window limit now false c) (judged window limit now true since)).counts) [
      | true ↦ judged_within window limit now n false c h
      | false ↦ judged_within window limit now n true since
          (record { irq_count = h.irq_count; irqs_unhandled = h.irqs_unhandled; threads_handled = h.threads_handled })
    ]

noted_within : (window limit now n : ℕ) (wake handled : Bool) (c : Counts) → IsWithin n c → IsWithin (n + 1) (noted window limit now wake handled c).counts
noted_within window limit now n false handled c h = judged_within window limit now n handled c h
noted_within window limit now n true true c h =
    judged_within window limit now n true (record c { deferred = false })
    (record { irq_count = h.irq_count; irqs_unhandled = h.irqs_unhandled; threads_handled = h.threads_handled })
noted_within window limit now n true false c h =
    let waiting : Noted = record { note = notes.Quiet; counts = record c { deferred = true } } in
    elim c.deferred as (λ b. IsWithin (n + 1) (cond b (judged_by_threads window limit now c) waiting).counts) [
      | true ↦ by_threads_within window limit now n c h
      | false ↦ more n waiting.counts (record { irq_count = h.irq_count; irqs_unhandled = h.irqs_unhandled; threads_handled = h.threads_handled })
    ]

after : (n : ℕ) (c : Counts) → IsWithin (n + 1) c → IsWithin (suc n) c
after n c h = record {
  irq_count = omega (arith, h.irq_count);
  irqs_unhandled
      = omega (arith, h.irqs_unhandled);
  threads_handled = omega (arith, h.threads_handled);
}

pub counts_within : (def : LineDef) (past : List Entry) → IsWithin (length past) (counts_of def past)
counts_within def [] = record { irq_count = omega arith; irqs_unhandled = omega arith; threads_handled = omega arith }
counts_within def (by.Thread dev (threads.Return handled served) ∷ past) =
    let c = counts_of def past in
    let h = counts_within def past in
    let served_more : Counts = record c { threads_handled = c.threads_handled + 1 } in
    elim handled as (λ b. IsWithin (suc (length past)) (cond b served_more c)) [
      | true ↦ record {
        irq_count = omega (arith, h.irq_count);
        irqs_unhandled
            = omega (arith, h.irqs_unhandled);
        threads_handled = omega (arith, h.threads_handled);
      }
      | false ↦ after (length past) c (more (length past) c h)
    ]
counts_within def (by.Driver driver (drivers.Request flags links.Linked opened dev) ∷ past) =
    let h = counts_within def past in
    record { irq_count = omega arith; irqs_unhandled = omega arith; threads_handled = omega (arith, h.threads_handled) }
counts_within def (by.Cpu cpu (cpus.End again unmask note) ∷ past) =
    after (length past) _ (noted_within def.window def.limit (now past) (length past) (round_wakes def past)
    (round_handles def past) (counts_of def past) (counts_within def past))
counts_within def (_ ∷ past) = after (length past) (counts_of def past) (more (length past) (counts_of def past) (counts_within def past))

pub within_length : (def : LineDef) (past : List Entry) (c : Counts) → c ≡ counts_of def past → IsWithin (length past) c
within_length def past c e = subst (λ (x : Counts). IsWithin (length past) x) (sym e) (counts_within def past)
