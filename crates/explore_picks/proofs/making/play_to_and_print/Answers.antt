use Rattle.std.proofs.Common.{◌≡◌, ◌≤◌, Ok, Err, List, length, reverse, subst}
use Rattle.std.specs.Prelude.{All}
use Rattle.irq_base.specs.declared.devices.Run.{Run}
use Rattle.board_core.specs.Runs.{runs_of}
use Rattle.board_play.specs.Lines.{Move}
use Rattle.callbacks.specs.Heard.{Heard}
use Rattle.explore_picks.specs.Made.{IsMade}
use Rattle.explore_picks.proofs.MadePlays.{prints}
use Rattle.explore_picks.proofs.Printable.{moves_have_rows, some_is}
use Rattle.explore_picks.specs.Small.{HasSmallMove}
use Rattle.explore_picks.proofs.making.play_to_and_print.Goals as goal

pub print_made-requires-clause-rows : goal.print_made-requires-clause-rows
print_made-requires-clause-rows g c =
    let s = c.in-Some.play.system in
    moves_have_rows s.board (reverse c.in-Some.play.picks.items) s.log
    (some_is (λ p. IsMade p.system p.picks.items c.args.line c.args.wanted.now) c.in_ok-play.field-0 c.in-Some.play c.in-Some.is
    c.in_ok-play.ensures.made).picked

pub returns-in-Ok-clause-plays : goal.returns-in-Ok-clause-plays
returns-in-Ok-clause-plays g c =
    let p = c.in-Some.play in
    let o = c.in_ok-play.field-0 in
    let is = c.in-Some.is in
    let e = c.in_ok-play.ensures in
    let b = c.args.board.now in
    let heard : List Run → Type 0 = λ runs. Heard g.H.Handler.hears runs c.args.handlers.now c.make.new.handlers in
    prints p.system b c.is_board.ensures.board c.args.line c.args.wanted.now p.picks.items
    (some_is (λ p. p.system.board ≡ b) o p is e.board)
    (some_is (λ p. IsMade p.system p.picks.items c.args.line c.args.wanted.now) o p is e.made)
    heard (g.O.Sink.written c.args.out.now) (g.O.Sink.written c.print_made.new.out) (Ok tt)
    (some_is (λ p. length p.picks.items ≤ 65536) o p is e.few)
    (subst (λ (h : List Move). All HasSmallMove h) c.moves.ensures c.are_small.ensures)
    (some_is (λ p. heard (runs_of b (reverse p.system.log))) o p is e.heard)
    c.in-Ok.ensures.content

pub returns-in-Some-clause-plays : goal.returns-in-Some-clause-plays
returns-in-Some-clause-plays g c =
    let p = c.in-Some.play in
    let o = c.in_ok-play.field-0 in
    let is = c.in-Some.is in
    let e = c.in_ok-play.ensures in
    let b = c.args.board.now in
    let heard : List Run → Type 0 = λ runs. Heard g.H.Handler.hears runs c.args.handlers.now c.make.new.handlers in
    prints p.system b c.is_board.ensures.board c.args.line c.args.wanted.now p.picks.items
    (some_is (λ p. p.system.board ≡ b) o p is e.board)
    (some_is (λ p. IsMade p.system p.picks.items c.args.line c.args.wanted.now) o p is e.made)
    heard (g.O.Sink.written c.args.out.now) (g.O.Sink.written c.print_made.new.out) (Err c.in-Err.failed)
    (some_is (λ p. length p.picks.items ≤ 65536) o p is e.few)
    (subst (λ (h : List Move). All HasSmallMove h) c.moves.ensures c.are_small.ensures)
    (some_is (λ p. heard (runs_of b (reverse p.system.log))) o p is e.heard)
    c.in-Err.ensures.content
