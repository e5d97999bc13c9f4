use Rattle.std.proofs.Common.{◌≡◌, ◌+◌, ◌≤◌, ◌++◌, length, drop, count_by}
use Rattle.vector_matrix.specs.Vectors.{count_of}
use Rattle.vector_matrix.specs.declared.view.Vector.{Vector}
use Rattle.irq_hotplug.specs.Berths.{all_settled, stands_at, is_at}
use Rattle.notifiers.specs.Told.{Told}
use Rattle.irq_hotplug.specs.Notices.{TellsMore}
use Rattle.irq_hotplug.specs.Rows.{all_rows}
use Rattle.irq_hotplug.proofs.placing.settle_all.Given as goal

abbrev pub invariant-loop-i : goal.invariant-loop-i
invariant-loop-i g l = record {
  cpus : l.held.cpus ≡ l.initial.held.cpus;
  vectors : l.held.vectors ≡ l.initial.held.vectors;
  next_spare : length l.berths ≤ l.next.spare + l.i;
  said_spare : length l.berths ≤ l.said.spare + l.i;
  settled : l.next.items ++ all_settled (drop l.i l.berths) (drop l.i l.found) ≡ all_settled l.berths l.found;
  rows : l.said.items ++ all_rows l.moving (drop l.i l.berths) (drop l.i l.found)
      ≡ l.initial.said.items ++ all_rows l.moving l.berths l.found;
  told : TellsMore (λ placings. Told g.N.Notifier.tells placings l.initial.notify l.notify) l.initial.said.items l.said.items;
  tie : (v : Vector) → count_of v l.held.held
      ≡ count_by (stands_at v) l.next.items + (count_by (stands_at v) (drop l.i l.berths) + count_by (is_at v) (drop l.i l.found));
}
