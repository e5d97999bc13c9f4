use Rattle.std.proofs.lemmas.Result.{on_ok_weaker}
use Rattle.board_text.proofs.Owning.{request_noted, free_noted, other_noted}
use Rattle.board_text.proofs.owners.Owners.note.Goals as goal

pub returns-in-Request : goal.returns-in-Request
returns-in-Request c = λ calls h. on_ok_weaker c.note_owner.result
    (λ now. request_noted c.args.self.now c.note_owner.new.self calls c.args.call.now c.in-Request.dev
    c.in-Request.flags c.in-Request.is now h) c.note_owner.ensures

pub returns-in-Free : goal.returns-in-Free
returns-in-Free c = λ calls h. on_ok_weaker c.note_owner-in-Free.result
    (λ now. free_noted c.args.self.now c.note_owner-in-Free.new.self calls c.args.call.now c.in-Free.dev c.in-Free.is
    now h) c.note_owner-in-Free.ensures

pub returns-in-Ask : goal.returns-in-Ask
returns-in-Ask c = λ calls h. other_noted c.args.self.now calls c.args.call.now c.in-Ask.is h
