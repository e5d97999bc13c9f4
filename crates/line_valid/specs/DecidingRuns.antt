-- The parts of valid runs, each as a test. Of a device that the line lacks there is nothing to ask:
-- no run and no answer is its.
use Rattle.std.specs.Prelude.{◌+◌, Bool, true, false, not, ◌&&◌, nat_lt, length}
use Rattle.std.specs.List.{list_all, list_any}
use Rattle.irq_base.specs.declared.calls.Call.{Call}
use Rattle.irq_base.specs.declared.devices.Kind.{Kind}
use Rattle.irq_base.specs.declared.devices.Kind.TheVariants as kinds
use Rattle.irq_base.specs.declared.devices.Part.{Part}
use Rattle.irq_base.specs.declared.devices.Part.TheVariants as parts
use Rattle.irq_base.specs.declared.devices.ToldAnswer.{ToldAnswer}
use Rattle.irq_base.specs.declared.lines.LineDef.{LineDef}
use Rattle.irq_base.specs.declared.numbers.DevNo.{DevNo}
use Rattle.irq_model.specs.Lines.{has_device, kind_of, run_script, told_answers}
use Rattle.irq_model.specs.RunBounds.{arms_this, wakes_by_handler, is_wake_word}
use Rattle.irq_model.specs.ValidRuns.{names_own_device, has_script, may_stand}
use Rattle.irq_model.specs.ValidRuns.{may_answer, is_told, is_direct}

-- a handler turns on its own device's interrupt alone, and only a direct device's does
abbrev pub may_arm : Kind → Part → Bool
may_arm kind parts.Thread = true
may_arm kind parts.Primary = is_direct kind

-- a call that a run may make
abbrev pub fits_run : LineDef → DevNo × Part × Call → Bool
fits_run def c =
    has_device def c.0
    && (has_script (kind_of def c.0) c.1
    && (may_stand (kind_of def c.0) c.1 c.0 c.2 && names_own_device def c.2))

abbrev pub fits_answer : LineDef → DevNo × Part × ToldAnswer → Bool
fits_answer def c = may_answer (kind_of def c.0) c.1 c.2

abbrev pub has_short_scripts : LineDef → DevNo → Bool
has_short_scripts def d =
    nat_lt (length (run_script def d parts.Primary)) 17
    && (nat_lt (length (run_script def d parts.Thread)) 17
    && nat_lt (length (told_answers def d parts.Primary)
    + length (told_answers def d parts.Thread)) 4097)

abbrev pub arms_unless_told : LineDef → DevNo → Bool
arms_unless_told def d =
    not (is_told (kind_of def d)
    && (list_any (wakes_by_handler d) def.runs
    && list_any (arms_this d) (run_script def d parts.Thread)))

abbrev pub same_truth : Bool → Bool → Bool
same_truth true b = b
same_truth false b = not b

abbrev pub wakes_what_it_has : LineDef → Kind → DevNo → Bool
wakes_what_it_has def (kinds.Told threaded) d =
    same_truth (list_any is_wake_word (told_answers def d parts.Primary)) threaded
wakes_what_it_has def _ d = true

abbrev pub fits_device : LineDef → DevNo → Bool
fits_device def d =
    has_short_scripts def d
    && (arms_unless_told def d && wakes_what_it_has def (kind_of def d) d)

abbrev pub fits_runs : LineDef → Bool
fits_runs def =
    nat_lt (length def.runs) 257
    && (nat_lt (length def.told) 65537
    && (list_all (fits_run def) def.runs
    && (list_all (fits_answer def) def.told
    && (list_all (λ c. names_own_device def c.1) def.calls
    && list_all (λ x. fits_device def x.dev) def.devices))))
