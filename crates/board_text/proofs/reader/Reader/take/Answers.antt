use Rattle.std.proofs.Common.{sym, ◌∙◌}
use Rattle.board_text.proofs.reader.Reader.take.Goals as goal

pub add-requires-clause-next : goal.add-requires-clause-next
add-requires-clause-next c =
    let keeps = c.requires.told.keeps in
    let fault = sym c.in_default.is ∙ c.fault_of.ensures c.requires.told.past keeps.agrees in
    record { past = c.requires.told.past; agrees = keeps.agrees; sound = (keeps.sound, c.requires.told.formed, sym fault) }

pub returns-in-Some : goal.returns-in-Some
returns-in-Some c = λ past h. sym (sym c.in-Some.is ∙ c.fault_of.ensures past h)

pub returns-in-Ok : goal.returns-in-Ok
returns-in-Ok c = λ past h. (sym (sym c.in_default.is ∙ c.fault_of.ensures past h), c.in-Ok.ensures past h)
