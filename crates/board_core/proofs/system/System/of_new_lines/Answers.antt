use Rattle.std.proofs.Common.{map, length, ap, subst, ◌∙◌, arith}
use Rattle.std.proofs.Math.ListN.{length-map}
use Rattle.board_core.specs.Making.{AreSound}
use Rattle.board_core.specs.Numbers.{numbers_of_lines}
use Rattle.board_core.specs.ReadyFor.{IsReadyFor}
use Rattle.board_core.proofs.MadeOf.{new_system, new_numbers, new_few, new_few_scripts}
use Rattle.board_core.proofs.Walking.{walk_new}
use Rattle.board_core.proofs.Pieces.{first_piece}
use Rattle.board_core.proofs.system.System.of_new_lines.Goals as goal

pub make_scripts-requires-clause-lines : goal.make_scripts-requires-clause-lines
make_scripts-requires-clause-lines g c =
    let f = g.L.IrqLine.seen in
    c.deref-3.ensures.value ∙ (c.in_ok-line_numbers.ensures
    ∙ (ap (λ xs. numbers_of_lines (map f xs)) c.deref-2.ensures.value
    ∙ new_numbers c.args.board.now (map f c.args.lines.items) c.requires.lines))

pub make_ready-requires-clause-few_lines : goal.make_ready-requires-clause-few_lines
make_ready-requires-clause-few_lines g c =
    let f = g.L.IrqLine.seen in
    let few = new_few c.args.board.now (map f c.args.lines.items) c.requires.lines c.is_board.ensures.board in
    let n = length-map c.args.lines.items f in
    let v = ap (λ xs. length xs) c.deref-5.ensures.value in
    omega (arith, few, n, v)

pub make_ready-requires-clause-few_scripts : goal.make_ready-requires-clause-few_scripts
make_ready-requires-clause-few_scripts g c =
    let few = new_few_scripts c.args.board.now c.is_board.ensures.board c.in_ok-scripts.scripts.items c.in_ok-scripts.ensures in
    let v = ap (λ xs. length xs) c.deref-6.ensures.value in
    omega (arith, few, v)

pub invariant_of-result : goal.invariant_of-result
invariant_of-result g c =
    let f = g.L.IrqLine.seen in
    record {
      system =
          new_system c.args.board.now (map f c.args.lines.items) c.requires.lines c.is_board.ensures.board c.in_ok-scripts.scripts.items
          (subst (λ xs. AreSound (map f xs)) c.deref.ensures.value c.are_sound.ensures) c.in_ok-scripts.ensures;
      ready =
          subst (λ xs. IsReadyFor (map f xs) c.in_ok-scripts.scripts.items c.in_ok-ready.ready) c.deref-5.ensures.value
          (subst (λ ss. IsReadyFor (map f c.deref-5.result.now) ss c.in_ok-ready.ready) c.deref-6.ensures.value c.in_ok-ready.ensures);
      told = walk_new c.args.board.now (map f c.args.lines.items) c.is_board.ensures.board c.requires.lines
          c.in_ok-order.order.items c.in_ok-order.ensures.items;
      line_numbers = c.in_ok-line_numbers.ensures ∙ ap (λ xs. numbers_of_lines (map f xs)) c.deref-2.ensures.value;
      driver_numbers = c.in_ok-driver_numbers.ensures;
      pieced = first_piece c.in_ok-order.order.items _ c.in_ok-order.ensures.items c.in_ok-order.ensures.capacity;
    }
