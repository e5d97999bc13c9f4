-- A definition with another log limit.
use Rattle.std.proofs.Common.{ℕ, arith}
use Rattle.domain_hier.specs.Hierarchies.{HierarchySeen}
use Rattle.irq_base.specs.declared.lines.LineDef.{LineDef}
use Rattle.irq_laws.specs.LogLimit.{with_log}
use Rattle.irq_model.specs.Valid.{IsValid}
use Rattle.irq_model.specs.ValidRuns.{HasValidRuns}
use Rattle.line_makers.specs.Chips.{HasChips}

valid_with : (def : LineDef) → IsValid def → IsValid (with_log def 100000000)
valid_with def v = record {
  some_cpu = v.some_cpu;
  few_cpus = v.few_cpus;
  some_window = v.some_window;
  small_window = v.small_window;
  limit = v.limit;
  some_log = omega arith;
  small_log = omega arith;
  few_devices = v.few_devices;
  few_calls = v.few_calls;
  mask = v.mask;
  edge_flow = v.edge_flow;
  level_flow = v.level_flow;
  unlazy = v.unlazy;
  eoi_keeps = v.eoi_keeps;
  eoi_retriggers = v.eoi_retriggers;
  devices = v.devices;
  distinct = v.distinct;
  calls = v.calls;
  owners = v.owners;
  freed = v.freed;
}

runs_with : (def : LineDef) → HasValidRuns def → HasValidRuns (with_log def 100000000)
runs_with def v = record {
  few_calls = v.few_calls;
  short_scripts = v.short_scripts;
  few_answers = v.few_answers;
  short_answers = v.short_answers;
  devices = v.devices;
  scripts = v.scripts;
  stand = v.stand;
  named = v.named;
  named_by_drivers = v.named_by_drivers;
  told_arms = v.told_arms;
  answers = v.answers;
  threads = v.threads;
}

-- the chips don't depend on it
pub limited : (h : HierarchySeen) (virq : ℕ) (def : LineDef) → HasChips h virq def → HasChips h virq (with_log def 100000000)
limited h virq def has = record {
  valid = valid_with def has.valid;
  runs = runs_with def has.runs;
  chips = has.chips;
}
