use Rattle.std.proofs.Common.{◌≡◌, ◌∙◌, ◌<◌, All, Some, None, List, ap, sym, subst}
use Rattle.irq_base.specs.declared.devices.DeviceDef.{DeviceDef}
use Rattle.irq_model.specs.Kinds.{same_dev}
use Rattle.domain_rules.specs.Domains.{EachAfter}
use Rattle.board_def.specs.Rules.{find_device}
use Rattle.board_def.specs.Runs.{with_thread, threaded}
use Rattle.board_def.specs.Tables.{values_of, IsKeyedBy}
use Rattle.board_def.proofs.Tabled.{device_found, row_found}
use Rattle.board_def.proofs.Threads.{thread_put, keyed_put, found_is, none_put}
use Rattle.board_def.proofs.tables.Table+DevNo+DeviceDef.set_thread.Goals as goal

pub returns-in_default : goal.returns-in_default
returns-in_default c =
    sym (none_put c.args.dev c.args.self.now (sym (device_found c.args.dev c.args.self.now) ∙ (sym c.find.ensures ∙ c.in_default.is)))

pub unreachable-requires : goal.unreachable-requires
unreachable-requires c =
    let key_of = λ (x : DeviceDef). x.dev in
    let there = row_found key_of same_dev c.args.dev c.self.inside.rows.entries c.self.invariant
    ∙ (device_found c.args.dev (values_of c.self.inside.rows.entries)
    ∙ (ap (λ (xs : List DeviceDef). find_device xs c.args.dev) c.self.view_is
    ∙ (sym (device_found c.args.dev c.args.self.now) ∙ (sym c.find.ensures ∙ c.in-Some.is)))) in
    let absent : None ≡ Some c.in-Some.device = sym c.in-Err.ensures.absent ∙ there in
    cc

pub invariant_of-self : goal.invariant_of-self
invariant_of-self c =
    let key_of = λ (x : DeviceDef). x.dev in
    let own = found_is c.args.dev c.args.self.now c.in-Some.device (sym (device_found c.args.dev c.args.self.now) ∙ (sym c.find.ensures ∙ c.in-Some.is)) in
    subst (IsKeyedBy key_of) (sym {a = c.insert.new.self.entries} c.in-Ok.ensures.entries)
    (keyed_put c.args.dev c.self.inside.rows.entries (threaded c.in-Some.device) own c.self.invariant)

pub returns : goal.returns
returns c =
    let entries = c.self.inside.rows.entries in
    let rises = subst (EachAfter (λ earlier x. All (λ e. e.dev.0 < x.dev.0) earlier)) (sym c.self.view_is) c.requires.rises in
    let there = ap (λ (xs : List DeviceDef). find_device xs c.args.dev) c.self.view_is
    ∙ (sym (device_found c.args.dev c.args.self.now) ∙ (sym c.find.ensures ∙ c.in-Some.is)) in
    ap values_of c.in-Ok.ensures.entries
    ∙ (thread_put c.args.dev entries c.in-Some.device c.self.invariant rises there ∙ ap (with_thread c.args.dev) c.self.view_is)
