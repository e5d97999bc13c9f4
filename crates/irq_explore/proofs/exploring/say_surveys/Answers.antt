use Rattle.std.proofs.lemmas.Result.{err_from_is_err_and}
use Rattle.irq_explore.proofs.exploring.say_surveys.Goals as goal

pub returns-clause-explores : goal.returns-clause-explores
returns-clause-explores g c =
    let r = c.requires in
    (c.args.surveys.now, c.found_in.ensures, record { there = r.there; surveys = r.surveys; written = c.in_ok-print_surveys.ensures.content })

pub returns-in_err-print_surveys-clause-explores : goal.returns-in_err-print_surveys-clause-explores
returns-in_err-print_surveys-clause-explores g c =
    let r = c.requires in
    let p = err_from_is_err_and c.from_residual.result c.from_residual.ensures.1 in
    rw (p.1, p.2) (c.args.surveys.now, record { there = r.there; surveys = r.surveys; written = c.in_err-print_surveys.ensures.content })
