-- Which devices an edge is owed to, where an owed edge is, and what it means that all was
-- delivered.
use Rattle.std.specs.Prelude.{◌≡◌, Bool, true, false, not, ◌||◌, ◌&&◌, List, [], ◌∷◌, reverse}
use Rattle.std.specs.List.{list_any}
use Rattle.irq_base.specs.declared.numbers.DevNo.{DevNo}
use Rattle.irq_base.specs.declared.devices.Kind.{Kind}
use Rattle.irq_base.specs.declared.devices.Kind.TheVariants as kinds
use Rattle.irq_base.specs.declared.lines.LineDef.{LineDef}
use Rattle.irq_base.specs.declared.entries.Entry.{Entry}
use Rattle.irq_model.specs.Places.{some_place}
use Rattle.irq_model.specs.Kinds.{is_device_edge, is_begin, unlinks_dev}
use Rattle.irq_model.specs.Lines.{is_edge_line, is_level_line, kind_of}
use Rattle.irq_model.specs.Links.{is_started, is_linked, depth}
use Rattle.irq_model.specs.Asks.{unserved_asks, is_quiet}
use Rattle.irq_model.specs.Rounds.{is_ahead}
use Rattle.irq_model.specs.Waiting.{is_pending, is_soft}
use Rattle.irq_model.specs.Edges.{is_sent, is_stored}

-- the newest entry of `upto` is an edge, of any device, that came while the line was started and d
-- was linked
abbrev pub comes_to : DevNo → List Entry → Bool
comes_to d [] = false
comes_to d (e ∷ past) = is_device_edge e && (is_started past && is_linked past d)

-- an edge is owed to d: since an edge that came to d, d has stayed linked, and its handler wasn't
-- called
abbrev pub is_owed : LineDef → DevNo → List Entry → Bool
is_owed def d past =
    is_edge_line def
    && some_place (λ after upto. comes_to d upto
    && (not (list_any (unlinks_dev d) after) && not (list_any (is_begin d) after))) past

-- each owed edge is somewhere: presented, kept, pending, in a software resend, or d is still ahead
-- in the round
abbrev pub IsCoveredPast : LineDef → List Entry → Type 0
IsCoveredPast def past =
    (d : DevNo) → is_owed def d past ≡ true
    → (is_sent def past
    || (is_stored def past
    || (is_pending def past || (is_soft past || is_ahead def past d)))) ≡ true

abbrev pub IsCovered : LineDef → List Entry → Type 0
IsCovered def h = IsCoveredPast def (reverse h)

abbrev pub is_stuck : Kind → Bool
is_stuck kinds.Stuck = true
is_stuck _ = false

-- on a line that isn't left disabled: no edge is owed, and on a level line every linked device that
-- works and isn't quiet has all its asks served. Why the two differ: an edge says that something
-- happened, and is gone once the handlers were called, whatever they found. A level stays until the
-- device was served, so the line comes back until it is.
pub record IsDelivered (def : LineDef) (h : List Entry) : Type 0 where
  pub edges : depth (reverse h) ≡ 0 → (d : DevNo) → is_owed def d (reverse h) ≡ false
  pub levels : depth (reverse h) ≡ 0 → is_level_line def ≡ true → (d : DevNo)
      → is_linked (reverse h) d ≡ true → is_quiet (reverse h) d ≡ false
      → is_stuck (kind_of def d) ≡ false → unserved_asks def d (reverse h) ≡ 0
