use Rattle.std.proofs.Common.{length, take, sym, ap, ◌∙◌, arith, length-append}
use Rattle.std.proofs.lemmas.List.{length-take}
use Rattle.device_table.proofs.Steps.{none_left}
use Rattle.run_scripts.specs.Groups.{group_in}
use Rattle.run_scripts.proofs.Grouping.{pushed, passed, group_few}
use Rattle.run_scripts.proofs.groups.push_group.Goals as goal
use Rattle.run_scripts.proofs.groups.push_group.Goals.{in-Some+then-is_own+in_ok-push, in-Some+else-is_own, in_default}

pub loop-i-preserved : goal.loop-i-preserved
loop-i-preserved g c =
    elim c.match-get.branch [
      | in-Some+then-is_own+in_ok-push w ↦
          pushed _ _ _ _ _ _ _ _ (sym w.in-Some.ensures) (sym w.is_own.ensures ∙ w.if-is_own.true) c.loop-i.invariant
          (ap (λ v. v.items) w.items-is ∙ w.in_ok-push.ensures.items)
      | in-Some+else-is_own w ↦
          ap (λ v. v.items) w.items-is
          ∙ passed _ _ _ _ _ _ _ (sym w.in-Some.ensures) (sym w.is_own.ensures ∙ w.if-is_own.false) c.loop-i.invariant
      | in_default w ↦
          none_left c.args.list.now c.loop-i.i (omega (arith, c.loop-i-test.true, c.len-i-end.ensures)) (sym w.in_default.ensures)
    ]

pub overflow_cast-result-2 : goal.overflow_cast-result-2
overflow_cast-result-2 g c =
    omega (
      arith,
      ap length c.loop-i.invariant,
      length-append c.args.items.now.items (group_in (take c.loop-i.i c.args.list.now) c.args.dev c.args.part),
      group_few (take c.loop-i.i c.args.list.now) c.args.dev c.args.part,
      length-take c.loop-i.i c.args.list.now,
      c.requires,
      c.len-from.ensures,
      c.len.ensures,
    )
