-- The signal cell (ours): all that a line's chips keep of its signal. It has five properties, which
-- never change, and five marks. They stand for an interrupt controller's mask bit, latch and
-- in-service bit; `struct irq_chip` of `include/linux/irq.h` has the operations.
use Rattle.std.specs.Prelude.{Bool, true, false, not, ◌&&◌, ◌||◌, if◌then◌else◌}
use Rattle.irq_base.specs.declared.lines.Trigger.{Trigger}
use Rattle.irq_base.specs.declared.lines.Trigger.TheVariants as triggers

pub record Cell : Type 0 where
  pub trigger : Trigger
  -- an edge that comes while the cell is masked is stored
  pub keeps : Bool
  -- masking takes back into store what was sent
  pub recalls : Bool
  -- the cell can be made to send an edge again
  pub retriggers : Bool
  -- what was accepted is in service until its end of interrupt
  pub serves : Bool
  pub masked : Bool
  pub stored : Bool
  pub sent : Bool
  pub high : Bool
  pub in_service : Bool

abbrev pub is_edge_trigger : Trigger → Bool
is_edge_trigger triggers.Edge = true
is_edge_trigger triggers.Level = false

abbrev pub is_edge_cell : Cell → Bool
is_edge_cell c = is_edge_trigger c.trigger

-- a cell with these properties, before anything was done to it
abbrev pub fresh_cell : Trigger → Bool → Bool → Bool → Bool → Cell
fresh_cell trigger keeps recalls retriggers serves
    = record {
      trigger = trigger;
      keeps = keeps;
      recalls = recalls;
      retriggers = retriggers;
      serves = serves;
      masked = true;
      stored = false;
      sent = false;
      high = false;
      in_service = false;
    }

-- an edge comes
abbrev pub after_edge : Cell → Cell
after_edge c =
    if c.masked then record c { stored = c.stored || c.keeps } else record c { sent = true }

-- the level rises or falls
abbrev pub after_high : Bool → Cell → Cell
after_high to c = record c { high = to }

abbrev pub after_mask : Cell → Cell
after_mask c =
    if is_edge_cell c && (c.recalls && c.sent)
    then record c { masked = true; stored = true; sent = false } else record c { masked = true }

abbrev pub after_unmask : Cell → Cell
after_unmask c =
    if is_edge_cell c then record c { masked = false; sent = c.sent || c.stored; stored = false }
    else record c { masked = false }

-- a processor takes the interrupt
abbrev pub after_accept : Cell → Cell
after_accept c = if is_edge_cell c then c else record c { in_service = c.in_service || c.serves }

-- acknowledge
abbrev pub after_ack : Cell → Cell
after_ack c = if is_edge_cell c then record c { sent = false } else c

-- end of interrupt
abbrev pub after_eoi : Cell → Cell
after_eoi c = if is_edge_cell c then c else record c { in_service = false }

-- whether the cell sends again when it is asked to
abbrev pub can_retrigger : Cell → Bool
can_retrigger c = is_edge_cell c && c.retriggers

abbrev pub after_retrigger : Cell → Cell
after_retrigger c = if can_retrigger c then record c { sent = true } else c

-- whether the cell presents an interrupt; an edge that was sent is presented also while the cell is
-- masked
abbrev pub signals : Cell → Bool
signals c = if is_edge_cell c then c.sent else (c.high && (not c.masked && not c.in_service))
