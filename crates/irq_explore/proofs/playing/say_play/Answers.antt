use Rattle.std.proofs.Common.{Ok, Err, List, refl, sym, ap, subst}
use Rattle.std.proofs.lemmas.Result.{err_from_is_err_and}
use Rattle.callbacks.specs.Heard.{Heard}
use Rattle.irq_base.specs.declared.devices.Run.{Run}
use Rattle.line_survey.specs.declared.answer.Answer.{Answer}
use Rattle.irq_explore.proofs.Played.{played, unfound, unplayed, unprinted, unsaid}
use Rattle.irq_explore.specs.Answered.{Answered}
use Rattle.irq_explore.specs.Played.{ExploresPlay}
use Rattle.irq_explore.specs.declared.exploring.Explored.{Explored}
use Rattle.irq_explore.proofs.playing.say_play.Goals as goal

pub returns-in_ok-found-in-Found-clause-explores : goal.returns-in_ok-found-in-Found-clause-explores
returns-in_ok-found-in-Found-clause-explores g c =
    let before = g.O.Sink.written c.args.out.now in
    let now = g.O.Sink.written c.play_to_and_print.new.out in
    let b = c.args.board.now in
    let e = c.in_ok-found-in-Found.ensures in
    let heard : List Run → Type 0 = λ runs. Heard g.H.Handler.hears runs c.args.handlers.now c.play_to_and_print.new.handlers in
    subst (λ (found : Explored). ExploresPlay c.args.states b c.args.line c.args.wanted heard before now (Ok found)) (sym c.found_by_play.ensures)
    (played c.args.states b c.args.line c.args.wanted heard before now c.requires.there c.in-Found.log c.as_slice-log.result.now
    (sym c.as_slice-log.ensures.value)
    (subst (λ (a : Answer). Answered c.args.states b c.args.line c.args.wanted a) c.in-Found.is c.requires.answered)
    c.in_ok-found-in-Found.found e.plays (λ fits none. e.alone fits (ap Ok none)))

pub returns-in_err-found-in-Found-clause-explores : goal.returns-in_err-found-in-Found-clause-explores
returns-in_err-found-in-Found-clause-explores g c =
    let before = g.O.Sink.written c.args.out.now in
    let now = g.O.Sink.written c.play_to_and_print.new.out in
    let b = c.args.board.now in
    let heard : List Run → Type 0 = λ runs. Heard g.H.Handler.hears runs c.args.handlers.now c.play_to_and_print.new.handlers in
    let p = err_from_is_err_and c.from_residual.result c.from_residual.ensures.1 in
    rw (p.1, p.2) (unplayed c.args.states b c.args.line c.args.wanted heard before now c.requires.there c.in-Found.log c.as_slice-log.result.now
    (sym c.as_slice-log.ensures.value)
    (subst (λ (a : Answer). Answered c.args.states b c.args.line c.args.wanted a) c.in-Found.is c.requires.answered)
    c.in_err-found-in-Found.field-0.0 c.in_err-found-in-Found.ensures.plays)

pub returns-in_err-found-in-Found-clause-silent : goal.returns-in_err-found-in-Found-clause-silent
returns-in_err-found-in-Found-clause-silent g c =
    let heard : List Run → Type 0 = λ runs. Heard g.H.Handler.hears runs c.args.handlers.now c.play_to_and_print.new.handlers in
    let e = c.in_err-found-in-Found.ensures in
    let p = err_from_is_err_and c.from_residual.result c.from_residual.ensures.1 in
    rw (p.1, p.2) (λ quiet. unprinted c.args.out.now c.play_to_and_print.new.out c.args.board.now c.args.line c.as_slice-log.result.now heard
    (g.O.Sink.written c.args.out.now) (g.O.Sink.written c.play_to_and_print.new.out) c.in_err-found-in-Found.field-0.0 e.plays e.refused quiet)

pub returns-in_ok-print_answer-in-Never-clause-explores : goal.returns-in_ok-print_answer-in-Never-clause-explores
returns-in_ok-print_answer-in-Never-clause-explores g c =
    let heard : List Run → Type 0 = λ runs. Heard g.H.Handler.hears runs c.args.handlers.now c.args.handlers.now in
    let before = g.O.Sink.written c.args.out.now in
    let now = g.O.Sink.written c.print_answer.new.out in
    unfound c.args.states c.args.board.now c.args.line c.args.wanted heard before now c.requires.there c.args.answer.now
    (unsaid c.args.states c.args.board.now c.args.line c.args.wanted heard before now c.requires.there (Ok tt) c.args.answer.now
    c.in-Never.is c.requires.answered c.in_ok-print_answer-in-Never.ensures.content refl)
    c.found_by.result c.found_by.ensures

pub returns-in_err-print_answer-in-Never-clause-explores : goal.returns-in_err-print_answer-in-Never-clause-explores
returns-in_err-print_answer-in-Never-clause-explores g c =
    let heard : List Run → Type 0 = λ runs. Heard g.H.Handler.hears runs c.args.handlers.now c.args.handlers.now in
    let failed = c.in_err-print_answer-in-Never.field-0.0 in
    let p = err_from_is_err_and c.from_residual-in_err-print_answer-in-Never.result c.from_residual-in_err-print_answer-in-Never.ensures.1 in
    rw (p.1, p.2) (
      c.args.answer.now,
      unsaid c.args.states c.args.board.now c.args.line c.args.wanted heard (g.O.Sink.written c.args.out.now)
          (g.O.Sink.written c.print_answer.new.out) c.requires.there (Err failed) c.args.answer.now c.in-Never.is c.requires.answered
          c.in_err-print_answer-in-Never.ensures.content refl,
    )
