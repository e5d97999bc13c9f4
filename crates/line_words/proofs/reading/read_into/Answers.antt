use Rattle.std.proofs.Common.{List, ap, sym, subst, ◌∙◌}
use Rattle.irq_base.specs.declared.numbers.DriverNo.{DriverNo}
use Rattle.line_scripts.specs.Rows.{RowSeen, place_of, within_of}
use Rattle.line_marks.specs.Scripts.{IsAt}
use Rattle.line_words.proofs.Past.{fits, read_again, tables_again, tables_same, scripts_again, at_again}
use Rattle.line_words.proofs.Whole.{if_ok}
use Rattle.line_words.specs.Again.{unbitted}
use Rattle.line_words.specs.Reading.{with_fixed, with_tables}
use Rattle.line_words.specs.Scripts.{AreScripts}
use Rattle.line_words.specs.Tables.{bare}
use Rattle.line_words.proofs.reading.read_into.Goals as goal

pub put_all-requires-clause-fits : goal.put_all-requires-clause-fits
put_all-requires-clause-fits c =
    let p = c.requires.past in
    fits c.args.def.now p.0 c.requires.valid p.1 p.3 c.args.drivers.now c.args.words.now c.requires.drivers p.2

pub returns-clause-state : goal.returns-clause-state
returns-clause-state c =
    if_ok c.put_all.result (λ made past legal same. ap unbitted made
    ∙ read_again c.args.def.now past c.requires.valid legal c.args.state.now.state c.requires.tables
    c.args.drivers.now c.args.words.now c.requires.drivers same) c.put_all.ensures.state

pub returns-clause-tables : goal.returns-clause-tables
returns-clause-tables c =
    let p = c.requires.past in
    let def = c.args.def.now in
    let ws = c.args.words.now in
    tables_same def (with_tables def ws (with_fixed def ws (bare c.args.state.now.state))) c.put_all.new.state.state c.put_all.ensures.tables
    (tables_again def p.0 c.requires.valid p.1 c.args.state.now.state c.requires.tables ws p.2)

pub returns-clause-scripts : goal.returns-clause-scripts
returns-clause-scripts c =
    let p = c.requires.past in
    let P : List (DriverNo × RowSeen) → Type 0 = λ x. AreScripts c.args.def.now x in
    subst P (sym c.put_all.ensures.scripts)
    (scripts_again c.args.def.now p.0 c.requires.valid p.1 c.args.drivers.now c.args.words.now c.requires.drivers p.2 c.args.scripts.now c.requires.scripts)

pub returns-clause-places : goal.returns-clause-places
returns-clause-places c = λ past legal same r.
    let P : List (DriverNo × RowSeen) → Type 0 = λ x. IsAt c.args.def.now past r (place_of x r) (within_of x r) in
    subst P (sym c.put_all.ensures.scripts)
    (at_again c.args.def.now past c.requires.valid legal c.args.drivers.now c.args.words.now c.requires.drivers same c.args.scripts.now c.requires.scripts r)
