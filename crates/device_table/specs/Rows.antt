-- A table of the devices of a line: their numbers with their values, in the order of the
-- definition.
use Rattle.std.specs.Prelude.{◌≡◌, Bool, false, if◌then◌else◌, nat_lt, Option, Some, None}
use Rattle.std.specs.Prelude.{is_some, List, [], ◌∷◌}
use Rattle.std.specs.Map.{lookup, set_value}
use Rattle.irq_base.specs.declared.devices.DeviceDef.{DeviceDef}
use Rattle.irq_base.specs.declared.numbers.DevNo.{DevNo}
use Rattle.irq_model.specs.Kinds.{same_dev}

-- the device with the lower number
abbrev pub lower : DevNo → Option DevNo → DevNo
lower d None = d
lower d (Some e) = if nat_lt e.0 d.0 then e else d

module _ {R : Type 0} where
  -- the value of d
  abbrev pub at : List (DevNo × R) → DevNo → Option R
  at t d = lookup (same_dev d) t

  -- the row is d's
  abbrev pub is_row_of : DevNo → Option (DevNo × R) → Bool
  is_row_of d None = false
  is_row_of d (Some e) = same_dev d e.0

  abbrev pub has : List (DevNo × R) → DevNo → Bool
  has t d = is_some (at t d)

  -- the table with this as d's value
  abbrev pub put : List (DevNo × R) → DevNo → R → List (DevNo × R)
  put t d r = set_value (same_dev d) t r

  -- the table of these devices, with f of each as its value
  abbrev pub table_by : (DevNo → R) → List DeviceDef → List (DevNo × R)
  table_by f [] = []
  table_by f (x ∷ xs) = (x.dev, f x.dev) ∷ table_by f xs

  -- every device of the line has this value
  abbrev pub all_with : R → List DeviceDef → List (DevNo × R)
  all_with r xs = table_by (λ d. r) xs

  -- the table, with this value of every device
  abbrev pub filled : R → List (DevNo × R) → List (DevNo × R)
  filled r [] = []
  filled r (e ∷ es) = (e.0, r) ∷ filled r es

  -- the table with h applied to d's value; as it was if d has none
  abbrev pub changed : (R → R) → List (DevNo × R) → DevNo → Option R → List (DevNo × R)
  changed h t d None = t
  changed h t d (Some r) = put t d (h r)

  abbrev pub change : (R → R) → List (DevNo × R) → DevNo → List (DevNo × R)
  change h t d = changed h t d (at t d)

  -- the device with the lowest number among those whose values pass
  abbrev pub lowest_where : (R → Bool) → List (DevNo × R) → Option DevNo
  lowest_where p [] = None
  lowest_where p (e ∷ es) =
      if p e.1 then Some (lower e.0 (lowest_where p es)) else lowest_where p es

  -- no two rows have the same number
  abbrev pub HasOwnKeys : List (DevNo × R) → Type 0
  HasOwnKeys [] = Unit {0}
  HasOwnKeys (e ∷ es) = (at es e.0 ≡ None) × HasOwnKeys es
