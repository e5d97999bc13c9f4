use Rattle.std.proofs.Common.{slice_get, refl, sym, ap, ◌∙◌}
use Rattle.std.proofs.lemmas.Bool.{ltb-true}
use Rattle.std.proofs.lemmas.Option.{slice_get_read, slice_get_past}
use Rattle.board_words.proofs.Texts.{hash_at, all_blank}
use Rattle.board_words.proofs.words.Words.is_empty.Goals as goal

pub returns-in-Some : goal.returns-in-Some
returns-in-Some c =
    let line = c.args.self.rest.now in
    let found = c.in-Some.ensures.lookup in
    let read = slice_get_read line _ c.word_start.result c.in-Some.byte.now refl (ltb-true _ _ (sym found.0)) found.1 in
    hash_at line c.in-Some.byte.now (sym read ∙ ap (slice_get line) c.word_start.ensures.value)

pub returns-in-None : goal.returns-in-None
returns-in-None c =
    let line = c.args.self.rest.now in
    let past = slice_get_past line c.word_start.result c.in-None.ensures.lookup.3 in
    sym (all_blank line (sym past ∙ ap (slice_get line) c.word_start.ensures.value))
