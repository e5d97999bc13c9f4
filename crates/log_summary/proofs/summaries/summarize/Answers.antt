use Rattle.std.proofs.Common.{rules, ◌≡◌, ◌+◌, ◌<◌, ◌≤◌, Some, length, get_or, sym, ap, ◌∙◌, take, reverse, subst, arith}
use Rattle.std.specs.List.{slice_get}
use Rattle.std.specs.Option.{option_map}
use Rattle.std.proofs.lemmas.Option.{slice_get-get_or}
use Rattle.irq_base.specs.declared.entries.Entry.{Entry}
use Rattle.irq_base.specs.EntryKinds.{kind_of_entry}
use Rattle.irq_base.specs.Packed.{nothing}
use Rattle.log_summary.specs.Gained.{AreCountsOf, counts_with}
use Rattle.log_summary.specs.Standings.{StandsAfter, standing_with}
use Rattle.log_summary.specs.declared.counts.Counts.{Counts}
use Rattle.log_summary.specs.declared.standing.Standing.{Standing}
use Rattle.log_summary.proofs.Passing.{counts_more, stands_next, stands_same, raised_small, lowered_small}
use Rattle.log_summary.proofs.summaries.summarize.Goals as goal
use Rattle.log_summary.proofs.summaries.summarize.Goals.{then-eq, else-eq}

pub loop-i-preserved : goal.loop-i-preserved
loop-i-preserved c =
    let h = c.args.history.now.entries in
    let i = c.loop-i.i in
    let e : Entry = get_or h i nothing in
    let within : i < length h = omega arith in
    let at : slice_get h i ≡ Some e = slice_get-get_or h i nothing within in
    let k = c.loop-i.invariant in
    let named : option_map kind_of_entry (slice_get h i) ≡ Some (kind_of_entry e) = ap (option_map kind_of_entry) at in
    let kind : c.in-Some.kind ≡ kind_of_entry e = (let told = c.in-Some.ensures in cc) in
    let counted : counts_with c.loop-i.counts (kind_of_entry e) ≡ c.add.new.self =
    ap (counts_with c.loop-i.counts) (sym kind) ∙ sym c.add.ensures.with in
    let stood : standing_with c.loop-i.standing e ≡ c.if-eq.standing =
    elim c.if-eq.branch [
      | then-eq w ↦
          (let same : w.entry_at.result ≡ e = (let told = w.entry_at.ensures in cc) in
          ap (standing_with c.loop-i.standing) (sym same) ∙ (sym w.add-then-eq.ensures.with ∙ sym w.standing-is))
      | else-eq w ↦ (let other = stands_same e c.loop-i.standing in let test = w.if-eq in let moved = w.standing-is in search (rules, other, kind))
    ] in
    record {
      counts = subst (λ (n : Counts). AreCountsOf (take (i + 1) h) n) counted (counts_more h i e c.loop-i.counts at k.counts);
      served = omega (arith, c.add.ensures.few, k.served);
      standing = subst (λ (s : Standing). StandsAfter (reverse (take (i + 1) h)) s) stood (stands_next h i e c.loop-i.standing at c.requires.lasts k.standing);
      raised = subst (λ (s : Standing). s.raised ≤ i + 1 + 1) stood (raised_small e c.loop-i.standing (i + 1) k.raised);
      lowered = subst (λ (s : Standing). s.lowered ≤ i + 1 + 1) stood (lowered_small e c.loop-i.standing (i + 1) k.lowered);
    }
