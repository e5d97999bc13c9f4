use Rattle.std.proofs.Common.{Some, None}
use Rattle.act_list.proofs.Stamping.{begun_is}
use Rattle.act_list.proofs.list.is_stamped.Goals as goal

pub returns-in-Some : goal.returns-in-Some
returns-in-Some c = begun_is c.args.stamp c.args.stamps.now c.args.dev (Some c.in-Some.found) c.in-Some.ensures

pub returns-in-None : goal.returns-in-None
returns-in-None c = begun_is c.args.stamp c.args.stamps.now c.args.dev None c.in-None.ensures
