-- Message-signalled interrupts: the level of one message, and what it writes.
use Rattle.std.specs.Prelude.{ℕ, ◌+◌, ◌*◌, Bool, true, false, ◌||◌}
use Rattle.chip_msi.specs.declared.message.Message.{Message}

-- what is seen of the level of one message: its mask bit and its pending bit (the two of a PCI
-- device's MSI-X table; `mask_irq` of `kernel/irq/chip.c` calls the chip that sets the first, and
-- `kernel/irq/msi.c` only demands that there is such a call)
pub record LevelSeen : Type 0 where
  pub masked : Bool
  pub pending : Bool

-- the device raises an edge: it waits while the level is masked
abbrev pub level_after_edge : LevelSeen → LevelSeen
level_after_edge l = record l { pending = l.pending || l.masked }

abbrev pub level_after_mask : LevelSeen → LevelSeen
level_after_mask l = record l { masked = true }

-- what waited is let go
abbrev pub level_after_unmask : LevelSeen → LevelSeen
level_after_unmask l = record { masked = false; pending = false }

-- the address of processor 0's page; each processor has a page of 4,096 bytes
abbrev pub first_page : ℕ
first_page = 4276092928

-- the message that sends a number to a processor (`irq_chip_compose_msi_msg`, `kernel/irq/chip.c`;
-- the addresses are ours, in the manner of x86)
abbrev pub message_of : ℕ → ℕ → Message
message_of cpu number = record { address = first_page + 4096 * cpu; payload = number }
