use Rattle.std.proofs.Common.{List, refl, sym, subst}
use Rattle.std.proofs.lemmas.Option.{slice_get_within}
use Rattle.irq_base.specs.declared.entries.Entry.{Entry}
use Rattle.line_wanted.specs.Wanted.{IsShortest}
use Rattle.state_search.specs.Seen.{cut_of}
use Rattle.line_survey.proofs.Sought.{shortest_found, unmet_said, cut_few}
use Rattle.line_survey.specs.Answers.{IsAnswer}
use Rattle.line_survey.specs.declared.answer.Answer.{Answer}
use Rattle.line_survey.proofs.seeking.shortest.Goals as goal

pub history-requires : goal.history-requires
history-requires c =
    let s = c.in_ok-sought.sought.found in
    let n = c.in_ok-sought.ensures.met c.if-sought.true in
    slice_get_within s.paths s.looked n.path n.there

pub returns-then-sought : goal.returns-then-sought
returns-then-sought c =
    let e = c.in_ok-sought.ensures in
    let n = e.met c.if-sought.true in
    subst (λ (es : List Entry). IsShortest c.args.def.now c.args.wanted es) (sym (c.in_ok-history.ensures n.path n.there))
    (shortest_found c.args.def.now c.args.wanted c.in_ok-sought.sought.found e.paths n)

pub unmet-requires : goal.unmet-requires
unmet-requires c =
    let e = c.in_ok-sought.ensures in
    cut_few c.args.def.now c.args.wanted c.in_ok-sought.sought.found e.paths c.args.most c.requires.most e.within

pub returns : goal.returns
returns c =
    let s = c.in_ok-sought.sought.found in
    let e = c.in_ok-sought.ensures in
    let unmet = c.if-sought.false in
    subst (λ (a : Answer). IsAnswer c.args.most c.args.def.now c.args.wanted a) (sym c.unmet.ensures)
    (unmet_said c.args.def.now c.args.wanted s e.paths e.none c.args.most
    (record { valid = c.requires.valid; runs = c.requires.runs })
    e.within (e.left_out unmet) (e.cut unmet) (cut_of s) refl)
