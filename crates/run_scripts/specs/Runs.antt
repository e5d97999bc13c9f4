-- The scripts and the answers of a line's runs, and how far they are.
use Rattle.std.specs.Prelude.{◌≡◌, ℕ, Bool, true, Option, Some, List, [], slice_get}
use Rattle.std.specs.List.{list_any}
use Rattle.irq_base.specs.declared.calls.Call.{Call}
use Rattle.irq_base.specs.declared.devices.Part.{Part}
use Rattle.irq_base.specs.declared.devices.ToldAnswer.{ToldAnswer}
use Rattle.irq_base.specs.declared.lines.LineDef.{LineDef}
use Rattle.irq_base.specs.declared.numbers.DevNo.{DevNo}
use Rattle.irq_model.specs.Lines.{has_device, run_script, told_answers}
use Rattle.irq_model.specs.ValidRuns.{may_wait}
use Rattle.irq_model.specs.Laid.{with_count}
use Rattle.device_table.specs.Rows.{at}
use Rattle.run_scripts.specs.Groups.{GroupsSeen, group_of}
use Rattle.run_scripts.specs.Places.{PlacesSeen, first_place, first_row, place_at, turn_at}
use Rattle.run_scripts.specs.declared.rows.RunPlace.{RunPlace}
use Rattle.run_scripts.specs.declared.rows.RunRow.{RunRow}

-- the calls and the answers never change
pub record RunsSeen : Type 0 where
  pub calls : GroupsSeen Call
  pub answers : GroupsSeen ToldAnswer
  pub places : PlacesSeen

-- the calls that a run of that part of d makes, in order
abbrev pub script_of : RunsSeen → DevNo → Part → List Call
script_of s d part = group_of s.calls d part

-- what that part of a told device answers, in turn
abbrev pub answers_of : RunsSeen → DevNo → Part → List ToldAnswer
answers_of s d part = group_of s.answers d part

-- the first call that isn't complete of the run that is there
abbrev pub call_of : RunsSeen → DevNo → Part → Option Call
call_of s d part = slice_get (script_of s d part) (place_at s.places d part).place

-- that call, and how many entries it has made
abbrev pub due_of : RunsSeen → DevNo → Part → Option (Call × ℕ)
due_of s d part = with_count (call_of s d part) (place_at s.places d part).within

-- what the run that is there is told to answer
abbrev pub told_of : RunsSeen → DevNo → Part → Option ToldAnswer
told_of s d part = slice_get (answers_of s d part) (turn_at s.places d part).now

-- the calls and the answers are those of the definition, of each device of the line
pub record AreRunsOf (def : LineDef) (s : RunsSeen) : Type 0 where
  pub calls : (d : DevNo) (part : Part) → has_device def d ≡ true
      → script_of s d part ≡ run_script def d part
  pub answers : (d : DevNo) (part : Part) → has_device def d ≡ true
      → answers_of s d part ≡ told_answers def d part

-- nothing is called and nothing told, and no run has moved on
pub record IsBare (calls : List Call) (answers : List ToldAnswer) (work : RunPlace)
    (rows : List (DevNo × RunRow)) : Type 0 where
  pub uncalled : calls ≡ []
  pub untold : answers ≡ []
  pub idle : work ≡ first_place
  pub first : (d : DevNo) (r : RunRow) → at rows d ≡ Some r → r ≡ first_row

-- the two marks: nothing is called and nothing told; some call may wait for its own run
pub record IsKept (bare waits : Bool) (calls : List Call) (answers : List ToldAnswer)
    (work : RunPlace) (rows : List (DevNo × RunRow)) : Type 0 where
  pub bare_is : bare ≡ true → IsBare calls answers work rows
  pub waits_is : waits ≡ list_any may_wait calls
