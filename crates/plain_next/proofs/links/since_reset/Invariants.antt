use Rattle.std.proofs.Common.{◌≡◌, ◌≤◌, length, drop}
use Rattle.irq_model.specs.Places.{upto_place}
use Rattle.irq_model.specs.Links.{linked, is_reset}
use Rattle.plain_next.proofs.links.since_reset.Given as goal

abbrev pub invariant-loop-i : goal.invariant-loop-i
invariant-loop-i l = record {
  linked : l.devices.items ≡ linked (drop l.i l.past);
  upto : upto_place is_reset (drop l.i l.past) ≡ drop l.place l.past;
  within : l.place ≤ length l.past;
}
