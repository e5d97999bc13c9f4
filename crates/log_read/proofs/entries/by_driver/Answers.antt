use Rattle.std.proofs.Common.{rules}
use Rattle.log_text.specs.Formed.{IsSmall}
use Rattle.log_read.proofs.EachKind.{driver_own, driver_call}
use Rattle.log_read.proofs.entries.by_driver.Goals as goal

pub returns-in-Some : goal.returns-in-Some
returns-in-Some c =
    let small : IsSmall c.args.driver.0 = search rules in
    driver_own c.args.words.now _ _ c.next-word.result.now c.next-word.ensures c.args.driver small c.in-Some.verb c.in-Some.ensures.1 _ c.driver_entry.ensures

pub returns-in-None : goal.returns-in-None
returns-in-None c =
    let small : IsSmall c.args.driver.0 = search rules in
    driver_call c.args.words.now _ _ c.next-word.result.now c.next-word.ensures c.args.driver small c.in-None.ensures _ c.call.ensures
