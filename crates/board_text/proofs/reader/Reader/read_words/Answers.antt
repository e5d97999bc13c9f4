use Rattle.std.proofs.Common.{◌≡◌, None, sym, subst, ◌∙◌}
use Rattle.board_words.specs.Forms.{fault_of_words}
use Rattle.board_words.specs.Seen.{words_left}
use Rattle.board_words.specs.declared.statements.Statement.TheVariants as statements
use Rattle.board_text.proofs.ReadLines.{formed_next, line_taken, own_fault}
use Rattle.board_text.proofs.reader.Reader.read_words.Goals as goal

pub take-requires : goal.take-requires
take-requires c =
    let past = c.requires.past in
    let exact = c.in_ok-statement.ensures.exact in
    let words = words_left c.args.words in
    let own = own_fault past c.args.self.now words None c.requires.keeps.agrees (subst (λ n. fault_of_words n words ≡ None) c.version.ensures exact.0) in
    record {
      told = record { past = past; keeps = c.requires.keeps; formed = formed_next past words c.in_ok-statement.statement own exact.1 };
      other = c.in_default.not-Call;
    }

pub returns-in-Call : goal.returns-in-Call
returns-in-Call c = λ past line h e good.
    let exact = c.in_ok-statement.ensures.exact in
    let words = words_left c.args.words in
    line_taken past line words (statements.Call c.in-Call.call) c.take_call.new.self c.take_call.result e good
    (sym c.is_empty.ensures ∙ c.if-is_empty.false) (sym (c.lacks_header.ensures past h.agrees) ∙ c.if-lacks_header.false)
    (own_fault past c.args.self.now words None h.agrees
    (subst (λ n. fault_of_words n words ≡ None) c.version.ensures exact.0)) (sym c.in-Call.is ∙ exact.1) h.sound
    (c.take_call.ensures past h.agrees)

pub returns-in_default : goal.returns-in_default
returns-in_default c = λ past line h e good.
    let exact = c.in_ok-statement.ensures.exact in
    let words = words_left c.args.words in
    line_taken past line words c.in_ok-statement.statement c.take.new.self c.take.result e good
    (sym c.is_empty.ensures ∙ c.if-is_empty.false) (sym (c.lacks_header.ensures past h.agrees) ∙ c.if-lacks_header.false)
    (own_fault past c.args.self.now words None h.agrees
    (subst (λ n. fault_of_words n words ≡ None) c.version.ensures exact.0)) exact.1 h.sound
    (c.take.ensures past h.agrees)
