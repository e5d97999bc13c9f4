use Rattle.std.proofs.Common.{List, length, map, sym, ap, subst, ◌∙◌, rules}
use Rattle.std.proofs.lemmas.Iterator.Adapters.{YieldsList-from_vec}
use Rattle.std.proofs.lemmas.Iterator.Consumers.{YieldsList-turn, YieldsList-end}
use Rattle.workers.specs.Gathers.{IsFinal}
use Rattle.workers.proofs.Finishing.{AreFinishing, none_finished, pass_next, final_here, finished_more, all_finished, all_known}
use Rattle.workers.proofs.Lists.{length_snoc}
use Rattle.workers.proofs.Manning.{map_more}
use Rattle.workers.proofs.gathers.finish_all.Given as given
use Rattle.workers.proofs.gathers.finish_all.Goals as goal
use Rattle.workers.proofs.gathers.finish_all.Goals.{In-Some-pop}

pub loop-shared-init : goal.loop-shared-init
loop-shared-init g c = subst (λ (ls : List _). AreFinishing c.args.firsts.items 0 c.reverse.new.self.items
    (map g.L.IrqLine.seen ls)) (sym c.new-all.ensures.items)
    (none_finished c.args.firsts.items c.reverse.new.self.items c.reverse.ensures.items)

-- the line comes next, and all passes of it are back in the first one
final : (g : given.Over) (c : In-Some-pop g) → IsFinal c.in-Some.shared c.in-Some-pop.first
final g c =
    let t = YieldsList-turn (YieldsList-from_vec {s = c.into_iter-shared-iterator.result} c.args.lines.items
    (search rules) (search rules)) c.loop-shared.yielded c.loop-shared.shared-iterator c.loop-shared.yielded_by
    c.next.result c.next.new.self c.in-Some.shared c.in-Some.is c.next.ensures.steps in
    final_here c.requires (pass_next c.loop-shared.invariant c.pop.new.self.items c.in-Some-pop.first c.in-Some-pop.ensures.items) t.0 t.1

pub finish-line-requires-clause-pass : goal.finish-line-requires-clause-pass
finish-line-requires-clause-pass g c = (final g (goal.at.finish-line-requires-clause-pass g c).In-Some-pop).home.of_line

pub finish-line-requires-clause-idle : goal.finish-line-requires-clause-idle
finish-line-requires-clause-idle g c = (final g (goal.at.finish-line-requires-clause-idle g c).In-Some-pop).home.idle

pub finish-line-requires-clause-first : goal.finish-line-requires-clause-first
finish-line-requires-clause-first g c = (final g (goal.at.finish-line-requires-clause-first g c).In-Some-pop).home.first

pub finish-line-requires-clause-nobody : goal.finish-line-requires-clause-nobody
finish-line-requires-clause-nobody g c = (final g (goal.at.finish-line-requires-clause-nobody g c).In-Some-pop).nobody

pub loop-shared-preserved : goal.loop-shared-preserved
loop-shared-preserved g c =
    let f = final g (goal.at.loop-shared-preserved g c).In-Some-pop in
    subst (λ n. AreFinishing c.args.firsts.items n c.pop.new.self.items (map g.L.IrqLine.seen c.push.new.self.items))
    (sym (length_snoc c.loop-shared.yielded c.in-Some.shared))
    (finished_more c.loop-shared.invariant c.pop.new.self.items c.in-Some-pop.first c.in-Some-pop.ensures.items
    (ap (map g.L.IrqLine.seen) c.in_ok-push.ensures.items
    ∙ map_more g.L.IrqLine.seen c.loop-shared.all.items c.finish-line.result)
    (c.finish-line.ensures.def ∙ sym f.home.of_line.1) c.finish-line.ensures.entries c.is_sound.ensures c.is_known.ensures)

pub returns-clause-lines : goal.returns-clause-lines
returns-clause-lines g c =
    let t = YieldsList-end (YieldsList-from_vec {s = c.into_iter-shared-iterator.result} c.args.lines.items
    (search rules) (search rules)) c.loop-shared.yielded c.loop-shared.shared-iterator c.loop-shared.yielded_by
    c.next.result c.next.new.self c.in-None.is c.next.ensures.steps in
    all_finished c.args.firsts.items (length c.loop-shared.yielded) c.loop-shared.firsts.items
    (map g.L.IrqLine.seen c.loop-shared.all.items) c.loop-shared.invariant (t.1 ∙ sym c.requires.as_many)

pub returns-clause-known : goal.returns-clause-known
returns-clause-known g c =
    let t = YieldsList-end (YieldsList-from_vec {s = c.into_iter-shared-iterator.result} c.args.lines.items
    (search rules) (search rules)) c.loop-shared.yielded c.loop-shared.shared-iterator c.loop-shared.yielded_by
    c.next.result c.next.new.self c.in-None.is c.next.ensures.steps in
    all_known c.args.firsts.items (length c.loop-shared.yielded) c.loop-shared.firsts.items
    (map g.L.IrqLine.seen c.loop-shared.all.items) c.loop-shared.invariant (t.1 ∙ sym c.requires.as_many)
