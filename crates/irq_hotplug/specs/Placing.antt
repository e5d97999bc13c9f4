-- Where a line is placed: on which processor, and which of its vectors it gets.
use Rattle.std.specs.Prelude.{ℕ, zero, suc, Bool, true, false, not, ◌&&◌, if◌then◌else◌, Option}
use Rattle.std.specs.Prelude.{Some, None, List, length, slice_index_or}
use Rattle.std.specs.Option.{option_or}
use Rattle.irq_model.specs.Lines.{is_in_mask}
use Rattle.vector_matrix.specs.Vectors.{vector_of}
use Rattle.vector_matrix.specs.declared.view.Vector.{Vector}

-- the lowest of the processor's vectors below n that isn't taken
abbrev pub lowest_free : (Vector → Bool) → ℕ → ℕ → Option Vector
lowest_free taken cpu zero = None
lowest_free taken cpu (suc n) =
    option_or (lowest_free taken cpu n)
    (if taken (vector_of (record { 0 = cpu }) n) then None
    else Some (vector_of (record { 0 = cpu }) n))

-- the vector that the lowest of the processors below n gives that are asked and have one; each
-- processor has `vectors` vectors
abbrev pub first_free : (Vector → Bool) → ℕ → (ℕ → Bool) → ℕ → Option Vector
first_free taken vectors asked zero = None
first_free taken vectors asked (suc n) =
    option_or (first_free taken vectors asked n)
    (if asked n then lowest_free taken n vectors else None)

abbrev pub is_online : List Bool → ℕ → Bool
is_online online cpu = slice_index_or online cpu false

-- the processor is online, and it is in the mask (`inside`), or it isn't
abbrev pub is_asked : List Bool → ℕ → Bool → ℕ → Bool
is_asked online mask true cpu = is_online online cpu && is_in_mask mask cpu
is_asked online mask false cpu = is_online online cpu && not (is_in_mask mask cpu)

-- A line with this mask gets the lowest vector that isn't taken, of the lowest processor that has
-- one: of the online ones of its mask, or if those have none, of the others that are online.
abbrev pub place_for : (Vector → Bool) → ℕ → List Bool → ℕ → Option Vector
place_for taken vectors online mask =
    option_or (first_free taken vectors (is_asked online mask true) (length online))
    (first_free taken vectors (is_asked online mask false) (length online))
