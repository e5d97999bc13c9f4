use Rattle.std.proofs.Common.{◌≡◌, ◌+◌, ◌<◌, ◌++◌, All}
use Rattle.board_gen.specs.Drawing.{x_after}
use Rattle.board_gen.specs.Generated.{numbered}
use Rattle.board_gen.specs.Plans.{kinds_drawn}
use Rattle.board_gen.proofs.lines.add_devices.Given as goal

-- the devices so far are there
abbrev pub invariant-loop-i : goal.invariant-loop-i
invariant-loop-i l =
    record {
      drawn : l.draws.x ≡ x_after l.i l.fn.draws.x;
      devices : l.board ≡ record l.fn.board { devices = l.fn.board.devices ++ numbered l.line l.first (kinds_drawn l.i l.fn.draws.x) };
      rises : All (λ e. e.dev.0 < l.first + l.i) l.board.devices;
    }
