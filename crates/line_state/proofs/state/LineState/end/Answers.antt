use Rattle.line_state.proofs.EndIs.{entry_joined, end_joined}
use Rattle.line_state.proofs.state.LineState.end.Goals as goal

pub returns-clause-entry : goal.returns-clause-entry
returns-clause-entry g c =
    entry_joined c.args.def.now c.args.self.now.state c.note_round-note.new.self.state c.kill_by.new.self.state
    c.leave-left.new.self.state c.note_round-note.result c.leave-left.result c.args.cpu
    c.note_round-note.ensures.note c.note_round-note.ensures.state c.kill_by.ensures.state c.leave-left.ensures.left c.leave-left.ensures.state

pub returns-clause-state : goal.returns-clause-state
returns-clause-state g c =
    end_joined c.args.def.now c.args.self.now.state c.note_round-note.new.self.state c.kill_by.new.self.state
    c.leave-left.new.self.state c.note_round-note.result c.leave-left.result c.args.cpu
    c.note_round-note.ensures.note c.note_round-note.ensures.state c.kill_by.ensures.state c.leave-left.ensures.left c.leave-left.ensures.state
