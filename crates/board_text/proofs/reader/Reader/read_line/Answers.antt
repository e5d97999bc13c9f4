use Rattle.std.proofs.Common.{subst}
use Rattle.board_text.specs.Given.{ReadsLine}
use Rattle.board_text.proofs.Asks.{ask_taken, ask_left}
use Rattle.board_text.proofs.reader.Reader.read_line.Goals as goal
use Rattle.board_text.proofs.reader.Reader.read_line.Goals.{in-Ok, in-Err}

pub returns-clause-read : goal.returns-clause-read
returns-clause-read c = λ past line left keeps lines.
    let told = c.in-Some.ensures in
    let q = c.take_driver_call.new.self in
    let read : ReadsLine past line q c.take_driver_call.result
    = ask_taken past c.args.text.now told.0 c.in-Some.rest.now line left c.in-Some.dev c.args.self.now q c.take_driver_call.result told.1 told.2
    (c.is_in_script.ensures c.if-is_in_script.true) keeps lines (c.take_driver_call.ensures past keeps.agrees) in
    elim c.match-take_driver_call.branch [
      | in-Ok w ↦ rw w.result-is (subst (λ r. ReadsLine past line q r) w.in-Ok.is read)
      | in-Err w ↦ rw w.result-is (subst (λ r. ReadsLine past line q r) w.in-Err.is read)
    ]

pub returns-clause-left : goal.returns-clause-left
returns-clause-left c = λ line left lines.
    let told = c.in-Some.ensures in
    elim c.match-take_driver_call.branch [
      | in-Ok w ↦ rw w.result-is (ask_left c.args.text.now told.0 c.in-Some.rest.now line left c.in-Some.dev.0 told.1 told.2 lines)
      | in-Err w ↦ rw w.result-is tt
    ]
