use Rattle.std.proofs.Common.{◌≡◌, ◌+◌, ◌≤◌, [], length, drop, count_by}
use Rattle.vector_matrix.specs.Vectors.{count_of}
use Rattle.vector_matrix.specs.declared.view.Vector.{Vector}
use Rattle.irq_hotplug.specs.Berths.{all_found, stands_at, is_at}
use Rattle.irq_hotplug.proofs.placing.find_all.Given as goal

abbrev pub invariant-loop-i : goal.invariant-loop-i
invariant-loop-i l = record {
  cpus : l.held.cpus ≡ l.initial.held.cpus;
  vectors : l.held.vectors ≡ l.initial.held.vectors;
  spare : length l.berths ≤ l.found.spare + l.i;
  all : all_found l.moving l.initial.held.vectors l.online l.berths l.found.items (drop l.i l.berths)
      ≡ all_found l.moving l.initial.held.vectors l.online l.berths [] l.berths;
  tie : (v : Vector) → count_of v l.held.held ≡ count_by (stands_at v) l.berths + count_by (is_at v) l.found.items;
}
