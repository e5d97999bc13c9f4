-- How often a handler that counts is called.
use Rattle.std.proofs.Common.{◌≡◌, ◌+◌, ◌-◌, ◌^◌, ◌≤◌, ◌<◌, Option, Some, None, List, [], ◌∷◌, ◌++◌, length, reverse, min}
use Rattle.std.proofs.Common.{sym, ap, subst, ◌∙◌, arith}
use Rattle.std.proofs.Math.Nat.{min-eq_left}
use Rattle.std.proofs.lemmas.List.{length-append, length-reverse, reverse-append}
use Rattle.irq_base.specs.declared.devices.Run.{Run}
use Rattle.irq_base.specs.declared.entries.Actor.{Actor}
use Rattle.irq_base.specs.declared.entries.Entry.{Entry}
use Rattle.irq_base.specs.declared.lines.LineDef.{LineDef}
use Rattle.callbacks.specs.Heard.{Heard, one_run}
use Rattle.callbacks.proofs.Calls.{heard_more}
use Rattle.irq_line.specs.Answers.{Answers}
use Rattle.irq_line.specs.Hearing.{runs_by}
use Rattle.irq_line.specs.Runs.{run_ended}
use Rattle.irq_line.specs.Seen.{IsSound, LineSeen}
use Rattle.irq_line.specs.declared.answers.StepRefused.{StepRefused}
use Rattle.irq_line.specs.declared.answers.StepRefused.TheVariants as refusals
use Rattle.irq_line.specs.declared.answers.Stepped.{Stepped}
use Rattle.irq_line.specs.declared.answers.Stepped.TheVariants as stepped
use Rattle.std.proofs.Common.{Result, Ok, Err}
use Rattle.example_line.specs.Runs.{runs_in, runs_on}
use Rattle.example_line.specs.declared.counting.Counting.{Counting}

-- ---- a step's runs are one more moment's

module _ {H : Type 0} (hears : H → Run → H → Type 0) (old new : LineSeen) (who : Actor) (first before after : H) where
  same_runs : new ≡ old → before ≡ after → Heard hears (runs_on old) first before → Heard hears (runs_on new) first after
  same_runs same still so_far =
      subst (λ (x : LineSeen). Heard hears (runs_on x) first after) (sym same) (subst (λ (h : H). Heard hears (runs_on old) first h) still so_far)

  pub step_heard : {L : Type 0} (r : Result (Stepped L) StepRefused) → Answers old who r new → new.def ≡ old.def → Heard hears (runs_by old r) before after
      → Heard hears (runs_on old) first before → Heard hears (runs_on new) first after
  step_heard (Ok (stepped.Added e)) adds def heard so_far =
      let past : reverse new.entries ≡ e ∷ reverse old.entries = ap (λ (h : List Entry). reverse h) adds.entries ∙ reverse-append old.entries (e ∷ []) in
      let own = one_run (run_ended old.def (reverse old.entries) e) in
      let runs : runs_on new ≡ own ++ runs_on old
      = ap (λ (d : LineDef). runs_in d (reverse new.entries)) def ∙ ap (λ (g : List Entry). runs_in old.def g) past in
      subst (λ (rs : List Run). Heard hears rs first after) (sym runs)
      (heard_more hears own (runs_on old) first before after so_far heard)
  step_heard (Ok stepped.NotYet) same def heard so_far = same_runs same.1 heard so_far
  step_heard (Ok (stepped.Lacks lack)) wants def heard so_far =
      let runs : runs_on new ≡ runs_on old
      = ap (λ (d : LineDef). runs_in d (reverse new.entries)) def ∙ ap (λ (h : List Entry). runs_in old.def (reverse h)) wants.entries in
      subst (λ (rs : List Run). Heard hears rs first after) (sym runs) (subst (λ (h : H). Heard hears (runs_on old) first h) heard so_far)
  step_heard (Err (refusals.Full line len)) full def heard so_far = same_runs full.1 heard so_far
  step_heard (Err refusals.NoMemory) same def heard so_far = same_runs same heard so_far

-- ---- each call is one more

abbrev Adds : Counting → Run → Counting → Type 0
Adds old run new = new.calls ≡ min (old.calls + 1) (2 ^ 64 - 1)

all_counted : (runs : List Run) (h k : Counting) → Heard Adds runs h k → h.calls + length runs < 2 ^ 64 → k.calls ≡ h.calls + length runs
all_counted [] h k same few = let is : h.calls ≡ k.calls = ap (λ (c : Counting). c.calls) same in omega (arith, is)
all_counted (run ∷ runs) h k heard few =
    let so : heard.0.calls ≡ h.calls + length runs = all_counted runs h heard.0 heard.1 (omega (arith, few)) in
    let room : heard.0.calls + 1 ≤ 2 ^ 64 - 1 = omega (arith, so, few) in
    let is : k.calls ≡ heard.0.calls + 1 = heard.2 ∙ min-eq_left room in
    omega (arith, so, is)

-- at most one run ends at a moment
one_at_most : (o : Option Run) → length (one_run o) ≤ 1
one_at_most None = omega arith
one_at_most (Some run) = omega arith

few_runs : (def : LineDef) (past : List Entry) → length (runs_in def past) ≤ length past
few_runs def [] = omega arith
few_runs def (e ∷ past) =
    let both = length-append (one_run (run_ended def past e)) (runs_in def past) in
    let one = one_at_most (run_ended def past e) in
    let rest = few_runs def past in
    omega (arith, both, one, rest)

-- a new one has counted the runs of a sound line
pub counted : (line : LineSeen) (h k : Counting) → IsSound line → h.calls ≡ 0 → Heard Adds (runs_on line) h k → k.calls ≡ length (runs_on line)
counted line h k sound none heard =
    let many = length-reverse line.entries in
    let few = few_runs line.def (reverse line.entries) in
    let log = sound.log in
    let most = sound.valid.small_log in
    let is = all_counted (runs_on line) h k heard (omega (arith, none, many, few, log, most)) in
    omega (arith, is, none)
