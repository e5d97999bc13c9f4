use Rattle.std.proofs.Common.{◌<◌, IfSome, List, map, length, sym, ap, subst, arith}
use Rattle.std.proofs.Math.ListN.{length-map}
use Rattle.irq_base.specs.declared.devices.Run.{Run}
use Rattle.callbacks.specs.Heard.{Heard}
use Rattle.board_core.specs.Refreshed.{IsRefreshed}
use Rattle.board_core.proofs.Kept.{Step, kept_system, lack_of}
use Rattle.board_core.proofs.InSystem.{within, few, script_within, line_within, part_within, scripts_within}
use Rattle.board_core.proofs.InSystem.{driver_within, kept_after, runs_so, steps_so, wants_so, number_read}
use Rattle.board_core.proofs.system.System.step_stand.Goals as goal
use Rattle.board_core.proofs.system.System.step_stand.Goals.{After-deref-2}

pub index-requires : goal.index-requires
index-requires g c =
    let system = kept_system c.is_board.ensures.board c.self.invariant c.self.view_is in
    let w = within system c.requires in
    let n = length-map c.self.inside.lines.items g.L.IrqLine.seen in
    omega (arith, w, n, c.self.inside.lines.ok.0)

pub step_place-stepped-requires-clause-few : goal.step_place-stepped-requires-clause-few
step_place-stepped-requires-clause-few g c = few (kept_system c.is_board.ensures.board c.self.invariant c.self.view_is) c.requires

pub advance-requires : goal.advance-requires
advance-requires g c = script_within (kept_system c.is_board.ensures.board c.self.invariant c.self.view_is) c.requires

-- the step as it was made
abbrev step : (g : _) (c : After-deref-2 g)
    → Step (lack_of c.step_place-stepped.result) (kept_system c.is_board.ensures.board c.self.invariant c.self.view_is) c.args.actor c.args.stand
step g c =
    let system = kept_system c.is_board.ensures.board c.self.invariant c.self.view_is in
    let f = g.L.IrqLine.seen in
    record {
      answer = c.step_place-stepped.result;
      lines = map f c.step_place-stepped.new.lines.items;
      order = c.step_place-stepped.new.order.items;
      scripts = c.advance.new.scripts.items;
      number = c.definition.result.now.line;
      number_is = number_read f c.self.inside.lines.items c.args.stand.line c.index.result.now c.definition.result.now
          (within system c.requires) c.index.ensures c.definition.ensures;
      stepped = c.step_place-stepped.ensures.stepped;
      scripts_are = c.advance.ensures;
    }

pub refresh-requires-clause-line : goal.refresh-requires-clause-line
refresh-requires-clause-line g c =
    let system = kept_system c.is_board.ensures.board c.self.invariant c.self.view_is in
    let w = line_within system c.requires (step g c) in
    let n = length-map c.step_place-stepped.new.lines.items g.L.IrqLine.seen in
    let v = ap (λ xs. length xs) c.deref.ensures.value in
    omega (arith, w, n, v)

pub refresh-requires-clause-line_part : goal.refresh-requires-clause-line_part
refresh-requires-clause-line_part g c = part_within (kept_system c.is_board.ensures.board c.self.invariant c.self.view_is) c.requires

pub refresh-requires-clause-script : goal.refresh-requires-clause-script
refresh-requires-clause-script g c =
    let system = kept_system c.is_board.ensures.board c.self.invariant c.self.view_is in
    subst (λ ss. IfSome c.args.stand.script (λ j. j < length ss)) (sym c.deref-2.ensures.value)
    (scripts_within system c.requires (step g c))

pub refresh-requires-clause-driver : goal.refresh-requires-clause-driver
refresh-requires-clause-driver g c = driver_within (kept_system c.is_board.ensures.board c.self.invariant c.self.view_is) c.requires

pub invariant_of-self : goal.invariant_of-self
invariant_of-self g c =
    let system = kept_system c.is_board.ensures.board c.self.invariant c.self.view_is in
    let f = g.L.IrqLine.seen in
    let refreshed = subst (λ xs. IsRefreshed (map f xs) c.advance.new.scripts.items c.args.stand.line c.args.stand.script
    c.self.inside.ready c.refresh.new.ready) c.deref.ensures.value
    (subst (λ ss. IsRefreshed (map f c.deref.result.now) ss c.args.stand.line c.args.stand.script c.self.inside.ready
    c.refresh.new.ready) c.deref-2.ensures.value c.refresh.ensures) in
    kept_after system c.requires (step g (goal.at.invariant_of-self g c).After-deref-2) c.refresh.new.ready refreshed _ c.step_place-stepped.ensures.pieced

pub returns-clause-steps : goal.returns-clause-steps
returns-clause-steps g c = steps_so (kept_system c.is_board.ensures.board c.self.invariant c.self.view_is) c.requires
    (step g (goal.at.returns-clause-steps g c).After-deref-2) c.turn_of.result c.turn_of.ensures

pub returns-clause-memory : goal.returns-clause-memory
returns-clause-memory g c = wants_so (kept_system c.is_board.ensures.board c.self.invariant c.self.view_is) c.requires
    (step g (goal.at.returns-clause-memory g c).After-deref-2) g.L.IrqLine.may_want c.turn_of.result c.turn_of.ensures c.step_place-stepped.ensures.memory

pub returns-clause-heard : goal.returns-clause-heard
returns-clause-heard g c = subst (λ (runs : List Run). Heard g.H.Handler.hears runs c.args.handlers.now c.step_place-stepped.new.handlers)
    (runs_so (kept_system c.is_board.ensures.board c.self.invariant c.self.view_is) c.requires
    (step g (goal.at.returns-clause-heard g c).After-deref-2) c.turn_of.result c.turn_of.ensures) c.step_place-stepped.ensures.heard
