-- A line on which nothing is at work.
use Rattle.std.proofs.Common.{◌≡◌, Bool, false, Option, Some, None, is_some, List, [], ◌∷◌, reverse, refl}
use Rattle.std.specs.List.{list_any}
use Rattle.std.proofs.lemmas.Bool.{or_parts}
use Rattle.irq_base.specs.declared.numbers.CpuNo.{CpuNo}
use Rattle.irq_base.specs.declared.numbers.DevNo.{DevNo}
use Rattle.irq_base.specs.declared.lines.LineDef.{LineDef}
use Rattle.irq_base.specs.declared.entries.Actor.TheVariants as actors
use Rattle.irq_base.specs.declared.entries.Entry.{Entry}
use Rattle.irq_model.specs.Rounds.{flow, has_flow, is_cpu}
use Rattle.irq_model.specs.Threads.{is_woken, is_running}
use Rattle.irq_model.specs.Next.{next_past}
use Rattle.irq_model.specs.Waits.{IsAtRest}
use Rattle.irq_model.proofs.Same.{same_self_cpu}
use Rattle.irq_laws.proofs.Lists.{both_ways}

abbrev pub CpusRest : LineDef → List Entry → Type 0
CpusRest def past = (c : CpuNo) → next_past def past (actors.Cpu c) ≡ None

pub record IsIdle (def : LineDef) (past : List Entry) : Type 0 where
  pub no_flow : has_flow def past ≡ false
  pub no_thread : (d : DevNo) → (is_woken past d ≡ false) × (is_running past d ≡ false)

no_flow_of : (o : Option CpuNo) → ((c : CpuNo) → is_cpu c o ≡ false) → is_some o ≡ false
no_flow_of None h = refl
no_flow_of (Some c) h = both_ways (is_cpu c (Some c)) (same_self_cpu c) (h c)

pub at_rest_idle : (def : LineDef) (h : List Entry) → IsAtRest def h → IsIdle def (reverse h)
at_rest_idle def h rest =
    record {
      no_flow = no_flow_of (flow def (reverse h)) (λ c. rest.done (actors.Cpu c));
      no_thread = λ d. or_parts (is_woken (reverse h) d) (is_running (reverse h) d) (rest.done (actors.Thread d));
    }

pub none_of : {A : Type 0} (p : A → Bool) (xs : List A) → ((x : A) → p x ≡ false) → list_any p xs ≡ false
none_of p [] h = refl
none_of p (x ∷ xs) h = rw (h x) (none_of p xs h)
