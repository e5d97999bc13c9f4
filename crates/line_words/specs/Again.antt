-- The state that is read off the numbers of a history, and when numbers can be read.
use Rattle.std.specs.Prelude.{◌≡◌, ◌≤◌, ◌<◌, true, false, IsSome, List, [], ◌∷◌, ◌++◌, length}
use Rattle.irq_base.specs.declared.calls.Flags.{Flags}
use Rattle.irq_base.specs.declared.lines.LineDef.{LineDef}
use Rattle.irq_base.specs.declared.numbers.DevNo.{DevNo}
use Rattle.irq_base.specs.declared.numbers.DriverNo.{DriverNo}
use Rattle.irq_model.specs.Signal.{lowest_in}
use Rattle.act_list.specs.Actions.{has, is_mismatch}
use Rattle.act_list.specs.Lists.{flags_of, action_by}
use Rattle.act_list.specs.declared.actions.Action.{Action}
use Rattle.affinity.specs.Kept.{HasProcessor}
use Rattle.line_marks.specs.State.{StateSeen}
use Rattle.line_futures.specs.Canon.{without_bits}
use Rattle.line_words.specs.Reading.{word_at, mask_at, linked_in, linked_from}
use Rattle.std.specs.Prelude.{ℕ}

-- the state without its thread bits, and whether its chips are active, which decide nothing
abbrev pub unbitted : StateSeen → StateSeen
unbitted s = record s {
  active = false;
  list = record s.list { actions = without_bits (flags_of s.list.actions) };
}

-- these devices can be linked one after another
abbrev pub CanLinkAll : List (DevNo × Flags) → List (DevNo × Action) → Type 0
CanLinkAll [] t = Unit {0}
CanLinkAll (e ∷ es) t =
    (has e.0 t ≡ false) × (is_mismatch e.1 t ≡ false) × (e.1.oneshot ≡ true → length t < 64)
    × CanLinkAll es (t ++ (e.0, action_by e.1 t) ∷ [])

-- the numbers are such as a state can have: each mask has a processor, the counts are within the
-- window, and the linked devices go together
pub record Fits (def : LineDef) (rs : List DriverNo) (ws : List ℕ) : Type 0 where
  pub mask : IsSome (lowest_in def.cpus (word_at ws 12))
  pub waiting : HasProcessor def.cpus (mask_at ws 13)
  pub counted : word_at ws 20 < def.window
  pub unhandled : word_at ws 21 ≤ word_at ws 20
  pub linked : CanLinkAll (linked_in (linked_from def rs ws)) []
