-- What is seen of a board.
use Rattle.std.specs.Prelude.{ℕ, List}
use Rattle.irq_base.specs.declared.devices.DeviceDef.{DeviceDef}
use Rattle.irq_base.specs.declared.entries.Actor.{Actor}
use Rattle.irq_base.specs.declared.numbers.DriverNo.{DriverNo}
use Rattle.board_def.specs.declared.rows.DomainRow.{DomainRow}
use Rattle.board_def.specs.declared.rows.LineRow.{LineRow}
use Rattle.board_def.specs.declared.rows.RunCall.{RunCall}
use Rattle.board_def.specs.declared.rows.ScriptCall.{ScriptCall}
use Rattle.board_def.specs.declared.rows.ToldRow.{ToldRow}

pub record BoardSeen : Type 0 where
  -- the version of its text
  pub version : ℕ
  -- the number of processors
  pub cpus : ℕ
  -- how many interrupts of a line are counted before the unhandled ones are judged, and how many
  -- may be unhandled
  pub window : ℕ
  pub limit : ℕ
  -- the greatest length of a line's history
  pub log : ℕ
  pub domains : List DomainRow
  pub lines : List LineRow
  pub devices : List DeviceDef
  -- what told devices answer, of each part in turn
  pub told : List ToldRow
  -- the scripts of handlers' and threads' runs, one after another
  pub runs : List RunCall
  pub drivers : List DriverNo
  -- the drivers' scripts, one after another
  pub calls : List ScriptCall
  -- the actors whose steps a play makes first
  pub picks : List Actor
