use Rattle.std.proofs.Common.{◌≡◌, ◌+◌, drop, count_by}
use Rattle.vector_matrix.specs.Vectors.{count_of}
use Rattle.vector_matrix.specs.declared.view.Vector.{Vector}
use Rattle.irq_hotplug.specs.Berths.{is_at}
use Rattle.irq_hotplug.proofs.placing.give_all.Given as goal

abbrev pub invariant-loop-i : goal.invariant-loop-i
invariant-loop-i l = record {
  cpus : l.held.cpus ≡ l.initial.held.cpus;
  vectors : l.held.vectors ≡ l.initial.held.vectors;
  tie : (v : Vector) → count_of v l.held.held + count_by (is_at v) l.found
      ≡ count_of v l.initial.held.held + count_by (is_at v) (drop l.i l.found);
}
