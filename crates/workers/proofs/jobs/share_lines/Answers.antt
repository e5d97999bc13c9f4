use Rattle.std.proofs.Common.{Some, length, map, sym, ap, ◌∙◌, rules}
use Rattle.std.proofs.lemmas.Iterator.Adapters.{YieldsList-from_vec}
use Rattle.std.proofs.lemmas.Iterator.Consumers.{YieldsList-turn, YieldsList-end}
use Rattle.irq_base.specs.declared.lines.LineDef.{LineDef}
use Rattle.workers.proofs.Lists.{at_map, there_or}
use Rattle.workers.proofs.Manning.{map_more}
use Rattle.workers.proofs.Sharing.{one_shared, all_shared, shared_as, map_same}
use Rattle.workers.proofs.jobs.share_lines.Goals as goal

pub new-requires : goal.new-requires
new-requires g c =
    let t = YieldsList-turn (YieldsList-from_vec {s = c.into_iter-line-iterator.result} c.args.all.items (search rules)
    (search rules)) c.loop-line.yielded c.loop-line.line-iterator c.loop-line.yielded_by c.next.result
    c.next.new.self c.in-Some.line c.in-Some.is c.next.ensures.steps in
    record {
      empty = c.requires.empty (length c.loop-line.yielded) (g.L.IrqLine.seen c.in-Some.line)
          (at_map g.L.IrqLine.seen c.args.all.items (length c.loop-line.yielded) c.in-Some.line
          (there_or c.args.all.items (length c.loop-line.yielded) c.in-Some.line t.0 ∙ ap (λ (x : _). Some x) (sym t.1)));
    }

pub loop-line-preserved : goal.loop-line-preserved
loop-line-preserved g c =
    let e = c.in-Ok.ensures in
    shared_as _ _ _ _ _ _ _ _ _ _
    (one_shared (map g.L.IrqLine.seen c.loop-line.yielded) c.loop-line.lines.items c.loop-line.numbers.items
    c.loop-line.flows.items c.loop-line.firsts.items (g.L.IrqLine.seen c.in-Some.line) c.in-Ok.line
    c.definition.result.now.line c.definition-in-loop-line.result.now.flow c.in-Ok.first c.loop-line.invariant
    e.def (ap (λ (d : LineDef). d.line) c.definition.ensures) (ap (λ (d : LineDef). d.flow) c.definition-in-loop-line.ensures) e.pass e.knows e.idle)
    (map_more g.L.IrqLine.seen c.loop-line.yielded c.in-Some.line) c.in_ok-push-3.ensures.items
    c.in_ok-push.ensures.items c.in_ok-push-2.ensures.items c.in_ok-push-4.ensures.items

pub returns-clause-defs : goal.returns-clause-defs
returns-clause-defs g c =
    let t = YieldsList-end (YieldsList-from_vec {s = c.into_iter-line-iterator.result} c.args.all.items (search rules)
    (search rules)) c.loop-line.yielded c.loop-line.line-iterator c.loop-line.yielded_by c.next.result
    c.next.new.self c.in-None.is c.next.ensures.steps in
    all_shared (map g.L.IrqLine.seen c.loop-line.yielded) (map g.L.IrqLine.seen c.args.all.items)
    c.loop-line.lines.items c.loop-line.numbers.items c.loop-line.flows.items c.loop-line.firsts.items
    c.loop-line.invariant (ap (map g.L.IrqLine.seen) (sym (map_same c.loop-line.yielded) ∙ t.0))
