-- Where a line is placed, said of all processors at once.
use Rattle.std.specs.Prelude.{◌≡◌, ℕ, ◌<◌, Bool, true, false, Some, None, List, length}
use Rattle.irq_model.specs.Lines.{is_in_mask}
use Rattle.vector_matrix.specs.Vectors.{vector_of}
use Rattle.vector_matrix.specs.declared.view.Vector.{Vector}
use Rattle.irq_hotplug.specs.Placing.{is_online, place_for}

-- all vectors of the processor are taken
abbrev pub IsFull : (Vector → Bool) → ℕ → ℕ → Type 0
IsFull taken vectors cpu = (u : ℕ) → u < vectors → taken (vector_of (record { 0 = cpu }) u) ≡ true

-- The line is placed on processor `cpu` at this vector, which isn't taken: each lower vector there
-- is, and each other online processor that is asked earlier is full. The processors of the mask are
-- asked before the others, and of each kind the lower ones first.
pub record IsFirst (taken : Vector → Bool) (vectors : ℕ) (online : List Bool) (mask : ℕ)
    (v : Vector) : Type 0 where
  pub there : v.cpu.0 < length online
  pub online_now : is_online online v.cpu.0 ≡ true
  pub number : v.number < vectors
  pub free : taken v ≡ false
  pub lower : (u : ℕ) → u < v.number → taken (vector_of v.cpu u) ≡ true
  -- if the processor is in the mask, the lower ones of the mask are full
  pub in_mask : is_in_mask mask v.cpu.0 ≡ true → (c : ℕ) → c < v.cpu.0
      → is_online online c ≡ true → is_in_mask mask c ≡ true → IsFull taken vectors c
  -- if it isn't, all of the mask are full, and the lower ones that aren't in the mask
  pub of_mask : is_in_mask mask v.cpu.0 ≡ false → (c : ℕ) → c < length online
      → is_online online c ≡ true → is_in_mask mask c ≡ true → IsFull taken vectors c
  pub of_others : is_in_mask mask v.cpu.0 ≡ false → (c : ℕ) → c < v.cpu.0
      → is_online online c ≡ true → is_in_mask mask c ≡ false → IsFull taken vectors c

-- A line that is placed is at the first place, and a line is unplaced only if every vector of every
-- online processor is taken.
pub record PlacesFirst (taken : Vector → Bool) (vectors : ℕ) (online : List Bool) (mask : ℕ)
    : Type 0 where
  pub placed : (v : Vector) → place_for taken vectors online mask ≡ Some v
      → IsFirst taken vectors online mask v
  pub unplaced : place_for taken vectors online mask ≡ None → (c : ℕ) → c < length online
      → is_online online c ≡ true → IsFull taken vectors c
