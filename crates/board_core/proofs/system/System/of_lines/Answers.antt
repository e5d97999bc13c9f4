use Rattle.std.proofs.Common.{map, length, ap, subst, sym, ◌∙◌, arith}
use Rattle.std.proofs.Math.ListN.{length-map}
use Rattle.board_core.specs.Making.{AreSound}
use Rattle.board_core.specs.Numbers.{numbers_of_lines}
use Rattle.board_core.specs.Placing.{HaveRoom, ArePlaced, AreLengths}
use Rattle.board_core.specs.ReadyFor.{IsReadyFor}
use Rattle.board_core.specs.Seen.{board_lines}
use Rattle.board_core.proofs.Placed.{walk_now}
use Rattle.board_core.proofs.PlacedSystem.{kept_numbers, kept_few_lines, kept_room, placed_few, placed_system}
use Rattle.board_core.proofs.Pieces.{first_piece}
use Rattle.board_core.proofs.system.System.of_lines.Goals as goal

pub make_scripts-requires-clause-lines : goal.make_scripts-requires-clause-lines
make_scripts-requires-clause-lines g c =
    let f = g.L.IrqLine.seen in
    c.deref-3.ensures.value ∙ (c.in_ok-line_numbers.ensures
    ∙ (ap (λ xs. numbers_of_lines (map f xs)) c.deref-2.ensures.value
    ∙ kept_numbers c.is_board.ensures.board (map f c.args.lines.items) c.requires.kept))

pub place_scripts-requires-clause-room : goal.place_scripts-requires-clause-room
place_scripts-requires-clause-room g c =
    let f = g.L.IrqLine.seen in
    subst (λ xs. HaveRoom (board_lines (map f xs)) c.in_ok-scripts.scripts.items) (sym c.deref-5.ensures.value)
    (kept_room c.is_board.ensures.board (map f c.args.lines.items) c.requires.kept c.in_ok-scripts.ensures)

pub make_ready-requires-clause-few_lines : goal.make_ready-requires-clause-few_lines
make_ready-requires-clause-few_lines g c =
    let f = g.L.IrqLine.seen in
    let few = kept_few_lines c.is_board.ensures.board (map f c.args.lines.items) c.requires.kept in
    let n = length-map c.args.lines.items f in
    let v = ap (λ xs. length xs) c.deref-7.ensures.value in
    omega (arith, few, n, v)

pub make_ready-requires-clause-few_scripts : goal.make_ready-requires-clause-few_scripts
make_ready-requires-clause-few_scripts g c =
    let f = g.L.IrqLine.seen in
    let few =
    placed_few c.is_board.ensures.board (map f c.args.lines.items) c.requires.kept c.in_ok-scripts.ensures
    (subst (λ xs. ArePlaced (board_lines (map f xs)) c.in_ok-scripts.scripts.items c.place_scripts.new.scripts.items)
    c.deref-5.ensures.value c.in_ok-place_scripts.ensures) in
    let v = ap (λ xs. length xs) c.deref-8.ensures.value in
    omega (arith, few, v)

pub invariant_of-result : goal.invariant_of-result
invariant_of-result g c =
    let f = g.L.IrqLine.seen in
    let board = c.args.board.now in
    let lines = map f c.args.lines.items in
    let placed = subst (λ xs. ArePlaced (board_lines (map f xs)) c.in_ok-scripts.scripts.items
    c.place_scripts.new.scripts.items) c.deref-5.ensures.value c.in_ok-place_scripts.ensures in
    record {
      system =
          placed_system c.is_board.ensures.board lines c.requires.kept c.in_ok-scripts.ensures placed
          (subst (λ xs. AreSound (map f xs)) c.deref.ensures.value c.are_sound.ensures);
      ready =
          subst (λ xs. IsReadyFor (map f xs) c.place_scripts.new.scripts.items c.in_ok-ready.ready) c.deref-7.ensures.value
          (subst (λ ss. IsReadyFor (map f c.deref-7.result.now) ss c.in_ok-ready.ready) c.deref-8.ensures.value c.in_ok-ready.ensures);
      told =
          walk_now lines c.lengths_of-begun.result c.in_ok-order.order.items (kept_few_lines c.is_board.ensures.board lines c.requires.kept)
          (subst (λ xs. AreLengths (map f xs) c.lengths_of-begun.result) c.deref-9.ensures.value c.lengths_of-begun.ensures) c.in_ok-order.ensures.items;
      line_numbers = c.in_ok-line_numbers.ensures ∙ ap (λ xs. numbers_of_lines (map f xs)) c.deref-2.ensures.value;
      driver_numbers = c.in_ok-driver_numbers.ensures;
      pieced = first_piece c.in_ok-order.order.items _ c.in_ok-order.ensures.items c.in_ok-order.ensures.capacity;
    }
