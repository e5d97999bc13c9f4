use Rattle.std.proofs.Common.{◌≡◌, Some, List, slice_get, ap, sym, subst, ◌∙◌}
use Rattle.std.specs.Option.{option_map}
use Rattle.irq_base.specs.declared.entries.Entry.{Entry}
use Rattle.line_survey.proofs.Rests.{legal_at, short_at, words_at, past_at}
use Rattle.line_survey.specs.Kept.{IsReader, IsValidLine}
use Rattle.line_survey.specs.Rests.{IsStill}
use Rattle.line_survey.specs.Seen.{LineSearchSeen}
use Rattle.line_wanted.specs.Left.{Leaves}
use Rattle.line_survey.proofs.searching.LineSearch.left_at.Goals as goal

pub left-requires-clause-reader : goal.left-requires-clause-reader
left-requires-clause-reader c = subst (λ (v : LineSearchSeen). IsReader v.def c.args.reader.now) (sym c.self.view_is) c.requires.reader

pub left-requires-clause-past : goal.left-requires-clause-past
left-requires-clause-past c =
    let s = c.self.inside.searched in
    let def = c.self.inside.def in
    let asked : IsValidLine c.self.inside.def = record { valid = c.self.invariant.valid; runs = c.self.invariant.valid_runs } in
    let line = c.self.invariant.line in
    let words = c.as_slice.result.now in
    let at = ap Some c.as_slice.ensures.value ∙ (sym (ap (λ o. option_map (λ w. w.items) o) c.in-Some.is) ∙ c.in_ok-words.ensures) in
    let x = past_at def asked s line c.args.place words at in (
      x.0,
      legal_at def asked s line c.args.place x.0 x.1,
      words_at def asked s line c.args.place words x.0 at x.1,
      short_at def asked s line c.args.place x.0 x.1,
    )

pub returns-in_err-left-clause-reader : goal.returns-in_err-left-clause-reader
returns-in_err-left-clause-reader c = subst (λ (v : LineSearchSeen). IsReader v.def c.left.new.self) c.self.view_is c.left.ensures.reader

pub returns-clause-reader : goal.returns-clause-reader
returns-clause-reader c = subst (λ (v : LineSearchSeen). IsReader v.def c.left.new.self) c.self.view_is c.left.ensures.reader

pub returns-clause-left : goal.returns-clause-left
returns-clause-left c = subst
    (λ (v : LineSearchSeen). (p : List Entry) → slice_get v.searched.paths c.args.place ≡ Some p → IsStill v.def p
    → Leaves v.def c.in_ok-left.field-0 p)
    c.self.view_is
    (λ p is still.
    let s = c.self.inside.searched in
    let def = c.self.inside.def in
    let asked : IsValidLine c.self.inside.def = record { valid = c.self.invariant.valid; runs = c.self.invariant.valid_runs } in
    let line = c.self.invariant.line in
    let legal = legal_at def asked s line c.args.place p is in
    c.in_ok-left.ensures.left p c.self.invariant.valid_runs legal (words_at def asked s line c.args.place c.as_slice.result.now p
    (ap Some c.as_slice.ensures.value ∙ (sym (ap (λ o. option_map (λ w. w.items) o) c.in-Some.is) ∙ c.in_ok-words.ensures)) is) still)
