use Rattle.std.proofs.Common.{◌≡◌, ◌<◌, List, length, sym, subst}
use Rattle.irq_base.specs.declared.entries.Entry.{Entry}
use Rattle.irq_base.specs.declared.numbers.DriverNo.{DriverNo}
use Rattle.irq_model.specs.Legal.{IsLegalPast}
use Rattle.line_futures.specs.Canon.{canon}
use Rattle.line_scripts.specs.Rows.{RowSeen}
use Rattle.run_scripts.specs.Runs.{AreRunsOf}
use Rattle.line_state.specs.Seen.{LineStateSeen, runs_seen}
use Rattle.line_words.proofs.Whole.{if_ok}
use Rattle.line_words.specs.Node.{node}
use Rattle.line_words.specs.Scripts.{AreScripts}
use Rattle.line_words.specs.Tables.{HasTables}
use Rattle.line_words.specs.Told.{places_told, state_told}
use Rattle.line_space.proofs.Again.{is_of_again}
use Rattle.line_space.proofs.Beside.{scripted_again, activated_again, same_runs}
use Rattle.line_space.proofs.Adding.{DueAt, MadeAt, none_added, can, about, moves_may, made_at, few_after, are_after, tables_after, words_after, one_added}
use Rattle.line_space.proofs.ReadAt.{read_at}
use Rattle.line_space.specs.Reading.{IsKept}
use Rattle.line_space.specs.declared.scratch.Scratch.{Scratch}
use Rattle.line_space.proofs.moving.add_due.Goals as goal
use Rattle.line_space.proofs.moving.add_due.Goals.{After-due_by, After-advance}

-- what was due, and what was made, at each past that has the numbers
due_at : (c : After-due_by) (past : List Entry) → IsLegalPast c.args.def.now past → c.args.words.now ≡ node c.args.def.now past
    → length past < 100000000
    → DueAt c.args.def.now past c.args.scratch.now.state c.args.scratch.now.scripts c.args.actor c.due_by.result
due_at c past legal same few =
    let read = read_at c.requires.valid c.requires.runs c.requires.read legal same few in
    record { read = read; told = c.due_by.ensures.due c.args.def.now (scripted_again read) }

made : (c : After-advance) (past : List Entry) → IsLegalPast c.args.def.now past → c.args.words.now ≡ node c.args.def.now past
    → length past < 100000000
    → MadeAt c.args.def.now past c.args.scratch.now.state c.args.scratch.now.scripts c.args.actor c.make-entry.result c.advance.new.scripts
made c past legal same few =
    let read = read_at c.requires.valid c.requires.runs c.requires.read legal same few in
    let due : DueAt c.args.def.now past c.args.scratch.now.state c.args.scratch.now.scripts c.args.actor c.due_by.result
    = record { read = read; told = c.due_by.ensures.due c.args.def.now (scripted_again read) } in
    made_at due c.in-Some.is c.make-entry.ensures.entry c.advance.ensures

pub returns-in_default-clause-found : goal.returns-in_default-clause-found
returns-in_default-clause-found c = λ past legal same few.
    none_added (due_at (goal.at.returns-in_default-clause-found c).After-due_by past legal same few) c.args.found.now c.in_default.is

pub make-entry-requires-clause-is_of : goal.make-entry-requires-clause-is_of
make-entry-requires-clause-is_of c =
    let p = c.requires.reached in
    is_of_again (read_at c.requires.valid c.requires.runs c.requires.read p.1 p.2 p.3)

pub make-entry-requires-clause-scripted : goal.make-entry-requires-clause-scripted
make-entry-requires-clause-scripted c =
    let p = c.requires.reached in
    scripted_again (read_at c.requires.valid c.requires.runs c.requires.read p.1 p.2 p.3)

pub make-entry-requires-clause-activated : goal.make-entry-requires-clause-activated
make-entry-requires-clause-activated c =
    let p = c.requires.reached in
    activated_again (read_at c.requires.valid c.requires.runs c.requires.read p.1 p.2 p.3)

pub make-entry-requires-clause-about : goal.make-entry-requires-clause-about
make-entry-requires-clause-about c =
    let p = c.requires.reached in
    about (due_at (goal.at.make-entry-requires-clause-about c).After-due_by p.0 p.1 p.2 p.3) c.in-Some.is c.due_by.ensures.about

pub make-entry-requires-clause-can : goal.make-entry-requires-clause-can
make-entry-requires-clause-can c =
    let p = c.requires.reached in
    can (due_at (goal.at.make-entry-requires-clause-can c).After-due_by p.0 p.1 p.2 p.3) c.in-Some.is

pub advance-requires : goal.advance-requires
advance-requires c =
    let p = c.requires.reached in
    moves_may (due_at (goal.at.advance-requires c).After-due_by p.0 p.1 p.2 p.3) c.in-Some.is

pub add-requires : goal.add-requires
add-requires c =
    let p = c.requires.reached in
    record { few = few_after (made (goal.at.add-requires c).After-advance p.0 p.1 p.2 p.3) }

-- numbers can be read into what has this state and these scripts
kept : (c : After-advance) (left : Scratch) → left.state ≡ c.make-entry.new.self → left.scripts ≡ c.advance.new.scripts → IsKept c.args.def.now left
kept c left state_is scripts_are =
    let p = c.requires.reached in
    let m = made c p.0 p.1 p.2 p.3 in
    let S : LineStateSeen → Type 0 = λ x. HasTables c.args.def.now x.state in
    let T : LineStateSeen → Type 0 = λ x. AreRunsOf c.args.def.now (runs_seen x) in
    let R : List (DriverNo × RowSeen) → Type 0 = λ x. AreScripts c.args.def.now x in
    record {
      tables = subst S (sym state_is) (tables_after m c.make-entry.new.self.state c.make-entry.ensures.state);
      runs = subst T (sym state_is) (same_runs c.args.def.now c.args.scratch.now.state c.make-entry.new.self
          c.make-entry.ensures.fixed c.requires.read.kept.runs);
      scripts = subst R (sym scripts_are) (are_after m);
    }

pub returns-clause-kept : goal.returns-clause-kept
returns-clause-kept c =
    kept (goal.at.returns-clause-kept c).After-advance c.add.new.self c.add.ensures.state c.add.ensures.scripts

pub returns-clause-found : goal.returns-clause-found
returns-clause-found c =
    if_ok c.add.result (λ added past legal same few.
    let m = made (goal.at.returns-clause-found c).After-advance past legal same few in
    one_added m c.args.found.now c.add.new.found
    (state_told c.args.more c.args.def.now (canon c.make-entry.new.self.state) (places_told c.advance.new.scripts c.args.drivers.now))
    added
    (words_after m c.make-entry.new.self.state c.make-entry.ensures.state c.args.more c.requires.more c.args.drivers.now
    c.requires.drivers)) c.add.ensures.found
