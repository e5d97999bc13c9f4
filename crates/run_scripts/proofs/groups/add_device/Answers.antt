use Rattle.std.proofs.Common.{length, ap, arith, length-append}
use Rattle.irq_base.specs.declared.devices.Part.TheVariants as parts
use Rattle.run_scripts.specs.Groups.{group_in}
use Rattle.run_scripts.proofs.Grouping.{group_few}
use Rattle.run_scripts.proofs.groups.add_device.Goals as goal

pub push_group-requires-2 : goal.push_group-requires-2
push_group-requires-2 g c =
    let list = c.args.list.now in
    omega (
      arith,
      ap length c.in_ok-handler.ensures.items,
      length-append c.args.items.now.items (group_in list c.args.dev parts.Primary),
      group_few list c.args.dev parts.Primary,
      c.requires.room,
    )
