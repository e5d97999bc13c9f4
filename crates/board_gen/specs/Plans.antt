-- What is drawn for each line of a generated board.
use Rattle.std.specs.Prelude.{ℕ, zero, suc, ◌+◌, ◌==◌, if◌then◌else◌, List, [], ◌∷◌, ◌++◌, length}
use Rattle.std.specs.Prelude.{map}
use Rattle.std.specs.List.{range_with_len}
use Rattle.irq_base.specs.declared.devices.Kind.{Kind}
use Rattle.irq_base.specs.declared.devices.Kind.TheVariants as kinds
use Rattle.board_gen.specs.declared.scripts.Script.{Script}
use Rattle.board_gen.specs.Drawing.{draw, x_after}

-- a line: the place of its domain, the kinds of its devices, and its driver's script
pub record LinePlan : Type 0 where
  pub domain : ℕ
  pub kinds : List Kind
  pub script : Script

-- the kind of a device by its draw
abbrev pub kind_of : ℕ → Kind
kind_of n = if n == 0 then kinds.Direct else (if n == 1 then kinds.Check else kinds.Null)

-- the kinds of n devices, a draw each, from x on
abbrev pub kinds_drawn : ℕ → ℕ → List Kind
kinds_drawn count x = map (λ k. kind_of (draw k 3 x)) (range_with_len 1 count)

-- how many devices a line has, if its draws begin at x: the second draw says it
abbrev pub device_count : ℕ → ℕ
device_count x = 1 + draw 2 2 x

-- the line with this number, by its draws from x on: its domain, the number of its devices, their
-- kinds, and the number of its asks; `first` is the number of its first device
abbrev pub plan_of : ℕ → ℕ → ℕ → LinePlan
plan_of number first x =
    let devices = device_count x in
    record {
      domain = draw 1 4 x;
      kinds = kinds_drawn devices (x_after 2 x);
      script = record {
        number = number;
        first = first;
        devices = devices;
        asks = 50 + draw (3 + devices) 200 x;
      };
    }

-- the lines so far, the number of the next device, and x
pub record Planned : Type 0 where
  pub plans : List LinePlan
  pub device : ℕ
  pub x : ℕ

-- one line more
abbrev pub plan_more : Planned → Planned
plan_more p =
    record {
      plans = p.plans ++ plan_of (length p.plans + 1) p.device p.x ∷ [];
      device = p.device + device_count p.x;
      x = x_after (3 + device_count p.x) p.x;
    }

-- n lines, from x on
abbrev pub planned : ℕ → ℕ → Planned
planned zero x = record { plans = []; device = 1; x = x }
planned (suc n) x = plan_more (planned n x)
