use Rattle.std.proofs.Common.{rules, ◌<◌, ◌∙◌, length, refl, sym, ap, subst, arith}
use Rattle.irq_line.specs.Room.{MakesRoom}
use Rattle.irq_line.specs.Seen.{LineSeen}
use Rattle.line_core.proofs.Stepping.{line_of}
use Rattle.line_core.proofs.Steps.{limit_told}
use Rattle.line_core.specs.Seen.{WiredSeen}
use Rattle.line_core.proofs.line.Line.lengthen.Goals as goal

pub returns-then-len-self-clause-room : goal.returns-then-len-self-clause-room
returns-then-len-self-clause-room g c = limit_told (Unit {0}) c.args.self.now.line c.full.result c.full.ensures

pub returns-in-Err-clause-room : goal.returns-in-Err-clause-room
returns-in-Err-clause-room g c = (
  ap (λ (w : WiredSeen). w.line.spare) (sym c.self.view_is) ∙ c.in-Err.ensures.needed,
  ap (line_of c.self.inside.def) c.in-Err.ensures.refused ∙ ap (λ (w : WiredSeen). w.line) c.self.view_is,
)

pub returns-clause-room : goal.returns-clause-room
returns-clause-room g c =
    let line : LineSeen = line_of c.self.inside.def c.self.inside.history in
    let mid : LineSeen = line_of c.self.inside.def c.make_place.new.history in
    let below : length line.entries < line.def.log = search (rules, arith) in
    let makes : MakesRoom line mid = record {
      below = below;
      def = refl;
      entries = c.make_place.ensures.entries;
      room = c.in_default.ensures.room;
      spare = c.make_place.ensures.grows;
      kept = λ some. ap (line_of c.self.inside.def) (c.make_place.ensures.kept some);
    } in
    subst (λ (w : WiredSeen). MakesRoom w.line mid) c.self.view_is makes
