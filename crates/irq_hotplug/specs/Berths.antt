-- Lines, their places, and what they find as they are placed anew.
use Rattle.std.specs.Prelude.{◌≡◌, ℕ, ◌<◌, ◌==◌, Bool, true, false, not, ◌&&◌, ◌||◌}
use Rattle.std.specs.Prelude.{if◌then◌else◌, Option, Some, None, is_some, List, [], ◌∷◌, ◌++◌}
use Rattle.std.specs.Prelude.{◌%◌, length}
use Rattle.std.specs.List.{list_any}
use Rattle.irq_base.specs.declared.numbers.CpuNo.{CpuNo}
use Rattle.irq_base.specs.declared.numbers.LineNo.{LineNo}
use Rattle.vector_matrix.specs.Vectors.{same_vector}
use Rattle.vector_matrix.specs.declared.view.Vector.{Vector}
use Rattle.irq_hotplug.specs.Placing.{is_online, place_for}
use Rattle.irq_hotplug.specs.declared.berths.Berth.{Berth}
use Rattle.irq_hotplug.specs.declared.berths.Moving.{Moving}
use Rattle.irq_hotplug.specs.declared.berths.Moving.TheVariants as moving
use Rattle.irq_hotplug.specs.declared.berths.Place.{Place}

-- the vector is one of the processor's
abbrev pub is_on : CpuNo → Option Vector → Bool
is_on cpu (Some v) = v.cpu.0 == cpu.0
is_on cpu None = false

-- the line is placed anew
abbrev pub is_moved : Moving → Berth → Bool
is_moved moving.All b = true
is_moved (moving.From cpu) b = is_on cpu b.place

-- it is this vector
abbrev pub is_at : Vector → Option Vector → Bool
is_at v (Some w) = same_vector v w
is_at v None = false

-- the line has the vector
abbrev pub stands_at : Vector → Berth → Bool
stands_at v b = is_at v b.place

-- one of the lines has the vector, or one of those found
abbrev pub is_taken : List Berth → List (Option Vector) → Vector → Bool
is_taken berths found v = list_any (stands_at v) berths || list_any (is_at v) found

-- what the line finds as it is placed anew; nothing if it isn't
abbrev pub finds : Moving → ℕ → List Bool → (Vector → Bool) → Berth → Option Vector
finds moving vectors online taken b =
    if is_moved moving b then place_for taken vectors online b.mask else None

-- What the lines find, one after another: what a line had before stays taken, and so does what the
-- lines before it found, `before`.
abbrev pub all_found : Moving → ℕ → List Bool → List Berth → List (Option Vector) → List Berth
    → List (Option Vector)
all_found moving vectors online berths before [] = before
all_found moving vectors online berths before (b ∷ bs) =
    all_found moving vectors online berths
    (before ++ finds moving vectors online (is_taken berths before) b ∷ []) bs

-- the first line that is placed anew and found nothing
abbrev pub left_out : Moving → List Berth → List (Option Vector) → Option LineNo
left_out moving [] found = None
left_out moving (b ∷ bs) [] = None
left_out moving (b ∷ bs) (p ∷ ps) =
    if is_moved moving b && not (is_some p) then Some b.line else left_out moving bs ps

-- the line with what it found; as it was if it found nothing
abbrev pub settled : Option Vector → Berth → Berth
settled (Some v) b = record b { target = Some v.cpu; place = Some v }
settled None b = b

abbrev pub all_settled : List Berth → List (Option Vector) → List Berth
all_settled [] found = []
all_settled (b ∷ bs) [] = []
all_settled (b ∷ bs) (p ∷ ps) = settled p b ∷ all_settled bs ps

-- the vector is one of an online processor's
pub record IsOnline (vectors : ℕ) (online : List Bool) (v : Vector) : Type 0 where
  pub there : v.cpu.0 < length online
  pub online_now : is_online online v.cpu.0 ≡ true
  pub number : v.number < vectors

abbrev pub IfThere : (Vector → Type 0) → Option Vector → Type 0
IfThere P (Some v) = P v
IfThere P None = Unit {0}

abbrev pub IsPlaced : ℕ → List Bool → Berth → Type 0
IsPlaced vectors online b = IfThere (IsOnline vectors online) b.place

-- where the line is with this vector: its queue there is the processor modulo its queues
abbrev pub place_on : Berth → Option Vector → Option Place
place_on b (Some v) =
    Some (record { cpu = v.cpu; vector = v.number; queue = v.cpu.0 % b.queues })
place_on b None = None

-- where the line with this number is; none if it has no vector, or takes no part
abbrev pub place_of : List Berth → LineNo → Option Place
place_of [] line = None
place_of (b ∷ bs) line = if b.line.0 == line.0 then place_on b b.place else place_of bs line
