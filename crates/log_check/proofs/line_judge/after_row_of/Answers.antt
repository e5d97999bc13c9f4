use Rattle.std.proofs.Common.{◌≡◌, IfSome, Option, sym, subst}
use Rattle.std.proofs.lemmas.Option.{slice_get_within}
use Rattle.irq_base.specs.declared.entries.Entry.{Entry}
use Rattle.log_text.specs.EntryWords.{IsPrintable}
use Rattle.log_text.specs.Rows.{entry_text}
use Rattle.log_check.proofs.Printable.{follows}
use Rattle.log_check.proofs.line_judge.after_row_of.Goals as goal

pub row_at-requires-clause-within : goal.row_at-requires-clause-within
row_at-requires-clause-within c = slice_get_within c.args.history.now.entries c.args.place c.args.entry c.requires.at

pub row_at-requires-clause-printable : goal.row_at-requires-clause-printable
row_at-requires-clause-printable c = subst (λ (o : Option Entry). IfSome o IsPrintable) (sym c.requires.at) c.requires.printable

pub returns-clause-follows : goal.returns-clause-follows
returns-clause-follows c =
    let row = c.row_at.result.now in
    let is = subst (λ (o : Option Entry). IfSome o (λ (e : Entry). row ≡ entry_text c.args.number e)) c.requires.at c.row_at.ensures in
    follows c.args.text.now row c.args.number c.args.entry c.strip_row.result is c.strip_row.ensures
