use Rattle.std.proofs.Common.{rules, ◌≡◌, map, slice_get, ◌∙◌, ap, sym, subst}
use Rattle.std.specs.Option.{option_map}
use Rattle.board_def.specs.Layout.{layout_of}
use Rattle.board_core.specs.Making.{IsNewLine}
use Rattle.board_core.specs.Seen.{board_lines}
use Rattle.board_core.proofs.NewLines.{line_passed, line_pushed, def_here, made_here}
use Rattle.board_core.proofs.making.make_lines.Goals as goal
use Rattle.board_core.proofs.making.make_lines.Goals.{in-Some+in_ok-push, in_default}

pub make_line-requires : goal.make_line-requires
make_line-requires g c =
    let here = def_here c.args.board.now c.in_ok-defs.defs.items c.loop-i.i c.index.result.now c.in_ok-defs.ensures.defs (search rules) c.index.ensures in
    record {
      makes = made_here (g.M.MakesLine.makes c.args.maker.now) c.args.board.now c.loop-i.i c.index.result.now
          c.requires.makes here c.get.result (c.get.ensures
          ∙ ap (λ places. slice_get places c.loop-i.i) c.requires.layout);
    }

pub loop-i-preserved : goal.loop-i-preserved
loop-i-preserved g c =
    let here = def_here c.args.board.now c.in_ok-defs.defs.items c.loop-i.i c.index.result.now c.in_ok-defs.ensures.defs (search rules) c.index.ensures in
    let placement : c.get.result ≡ slice_get (layout_of c.args.board.now) c.loop-i.i = c.get.ensures
    ∙ ap (λ places. slice_get places c.loop-i.i) c.requires.layout in
    let new = subst (λ p. IsNewLine c.index.result.now p (option_map g.L.IrqLine.seen c.in_ok-line.field-0)) placement c.in_ok-line.ensures in
    elim c.match-branch-3.branch [
      | in-Some+in_ok-push w ↦
          line_pushed g.L.IrqLine.seen c.loop-i.lines.items c.match-branch-3.lines.items w.in-Some.line c.args.board.now
          c.loop-i.i c.index.result.now (option_map g.L.IrqLine.seen c.in_ok-line.field-0) here
          (ap (option_map g.L.IrqLine.seen) w.in-Some.is) new c.loop-i.invariant (ap (λ v. v.items) w.lines-is ∙ w.in_ok-push.ensures.items)
      | in_default w ↦
          ap (λ v. board_lines (map g.L.IrqLine.seen v.items)) w.lines-is
          ∙ (c.loop-i.invariant ∙ sym (line_passed c.args.board.now c.loop-i.i c.index.result.now
          (option_map g.L.IrqLine.seen c.in_ok-line.field-0) here (ap (option_map g.L.IrqLine.seen) w.in_default.is)
          new))
    ]
