use Rattle.std.proofs.Common.{◌≡◌, ◌++◌, ◌<◌, List, length, drop}
use Rattle.irq_base.specs.declared.entries.Entry.{Entry}
use Rattle.irq_model.specs.Legal.{IsLegalPast}
use Rattle.line_words.specs.Node.{node}
use Rattle.line_space.specs.Reading.{IsKept}
use Rattle.line_space.specs.Stepping.{all_steps}
use Rattle.line_space.proofs.moving.add_all.Given as goal

abbrev pub invariant-loop-actor : goal.invariant-loop-actor
invariant-loop-actor l = record {
  kept : IsKept l.def l.scratch;
  found : (past : List Entry) → IsLegalPast l.def past → l.words ≡ node l.def past → length past < 100000000
      → l.found ++ all_steps l.def past (drop l.actor-index l.others) ≡ l.fn.found ++ all_steps l.def past l.actors;
}
