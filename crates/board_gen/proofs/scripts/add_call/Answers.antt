use Rattle.std.proofs.Common.{◌≡◌, ◌++◌, ◌∷◌, [], length, sym, ap, ◌∙◌, subst}
use Rattle.std.proofs.lemmas.List.{length_push}
use Rattle.std.proofs.lemmas.Result.{on_ok_weaker}
use Rattle.board_def.specs.Seen.{BoardSeen}
use Rattle.board_def.proofs.Grows.{grows_call}
use Rattle.board_gen.specs.Generated.{script_call}
use Rattle.board_gen.specs.Keeping.{IsScripted}
use Rattle.board_gen.proofs.Owning.{call_allowed, scripted_more}
use Rattle.board_gen.proofs.scripts.add_call.Goals as goal

pub add_call-requires : goal.add_call-requires
add_call-requires c =
    let b = c.args.board.now in
    let s = c.args.script.now in
    record {
      board = grows_call b (script_call s c.args.call) c.is_board.ensures.board c.requires.room
          (call_allowed s b c.args.call c.requires.scripted c.requires.fits c.requires.owner);
    }

pub returns-clause-count : goal.returns-clause-count
returns-clause-count c =
    let b = c.args.board.now in
    let x = script_call c.args.script.now c.args.call in
    on_ok_weaker c.add_call.result (λ (is : c.add_call.new.self ≡ record b { calls = b.calls ++ x ∷ [] }). ap
    (λ (b : BoardSeen). length b.calls) is ∙ length_push b.calls x) c.add_call.ensures.added

pub returns-clause-scripted : goal.returns-clause-scripted
returns-clause-scripted c =
    let b = c.args.board.now in
    let s = c.args.script.now in
    let x = script_call s c.args.call in
    on_ok_weaker c.add_call.result (λ (is : c.add_call.new.self ≡ record b { calls = b.calls ++ x ∷ [] }). subst
    (λ (b : BoardSeen). IsScripted s b) (sym is) (scripted_more s b c.args.call c.requires.scripted c.requires.own))
    c.add_call.ensures.added
