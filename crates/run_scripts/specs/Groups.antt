-- Items by device and part: one list in which each device's stand together, and where.
use Rattle.std.specs.Prelude.{ℕ, ◌+◌, ◌≤◌, ◌&&◌, if◌then◌else◌, Option, Some, None, List, [], ◌∷◌}
use Rattle.std.specs.Prelude.{length, take, drop}
use Rattle.irq_base.specs.declared.devices.Part.{Part}
use Rattle.irq_base.specs.declared.devices.Part.TheVariants as parts
use Rattle.irq_base.specs.declared.numbers.DevNo.{DevNo}
use Rattle.irq_model.specs.Kinds.{same_dev}
use Rattle.irq_model.specs.Lines.{same_part}
use Rattle.device_table.specs.Rows.{at}
use Rattle.run_scripts.specs.declared.groups.Span.{Span}
use Rattle.run_scripts.specs.declared.groups.Spans.{Spans}

pub record GroupsSeen (A : Type 0) : Type 0 where
  pub items : List A
  pub spans : List (DevNo × Spans)

abbrev pub no_span : Span
no_span = record { from = 0; len = 0 }

abbrev pub span_in : Option Spans → Part → Span
span_in None part = no_span
span_in (Some s) parts.Primary = s.handler
span_in (Some s) parts.Thread = s.thread

-- where the items of that part of d stand
abbrev pub span_of : List (DevNo × Spans) → DevNo → Part → Span
span_of t d part = span_in (at t d) part

module _ {A : Type 0} where
  -- the items of that part of d among these, in order
  abbrev pub group_in : List (DevNo × Part × A) → DevNo → Part → List A
  group_in [] d part = []
  group_in (c ∷ cs) d part =
      if same_dev d c.0 && same_part part c.1 then (c.2 ∷ group_in cs d part)
      else group_in cs d part

  abbrev pub items_at : List A → Span → List A
  items_at xs s = take s.len (drop s.from xs)

  abbrev pub group_of : GroupsSeen A → DevNo → Part → List A
  group_of g d part = items_at g.items (span_of g.spans d part)

  -- where the items of d stand, if they follow n others
  abbrev pub spans_from : ℕ → List (DevNo × Part × A) → DevNo → Spans
  spans_from n cs d = record {
    handler = record { from = n; len = length (group_in cs d parts.Primary) };
    thread = record {
      from = n + length (group_in cs d parts.Primary);
      len = length (group_in cs d parts.Thread);
    };
  }

  -- the items of each device stand within the list
  abbrev pub AreWithin : List A → List (DevNo × Spans) → Type 0
  AreWithin xs t = (d : DevNo) (part : Part)
      → (span_of t d part).from + (span_of t d part).len ≤ length xs
