-- Reverse maps: which call is refused, and what each makes of the map (`irq_domain_associate` and
-- `irq_domain_clear_mapping` of `kernel/irq/irqdomain.c`; neither looks whether the number is
-- mapped, so what is refused is ours). A map is seen as the virq at each hardware number.
use Rattle.std.specs.Prelude.{◌≡◌, ◌<◌, ◌^◌, ℕ, Bool, true, false, ◌&&◌, ◌==◌, if◌then◌else◌}
use Rattle.std.specs.Prelude.{nat_lt, is_some, Option, Some, None, List}
use Rattle.std.specs.Ordering.{nat_cmp}
use Rattle.std.specs.BTreeMap.{is_at}
use Rattle.std.specs.Map.{lookup}
use Rattle.revmap.specs.declared.map.AssocAnswer.{AssocAnswer}
use Rattle.revmap.specs.declared.map.AssocAnswer.TheVariants as associated
use Rattle.revmap.specs.declared.map.DisposeAnswer.{DisposeAnswer}
use Rattle.revmap.specs.declared.map.DisposeAnswer.TheVariants as disposed

-- whether a map of this size has a place for the number; a tree has no size, and a place for each
abbrev pub has_place : Option ℕ → ℕ → Bool
has_place None hw = true
has_place (Some n) hw = nat_lt hw n

abbrev pub is_tree : Option ℕ → Bool
is_tree None = true
is_tree (Some n) = false

-- how a map of this size answers an association; `virq` is what the number is mapped to. No two
-- conditions hold together; for a linear map one of the first three always holds
abbrev pub IsAssociated : Option ℕ → Option ℕ → ℕ → AssocAnswer → Type 0
IsAssociated size virq hw associated.Ok = (has_place size hw ≡ true) × (virq ≡ None)
IsAssociated size virq hw associated.Taken = (has_place size hw ≡ true) × (is_some virq ≡ true)
IsAssociated size virq hw associated.OutOfRange = has_place size hw ≡ false
IsAssociated size virq hw associated.NoMemory = (is_tree size ≡ true) × (virq ≡ None)

abbrev pub is_associated : AssocAnswer → Bool
is_associated associated.Ok = true
is_associated associated.Taken = false
is_associated associated.OutOfRange = false
is_associated associated.NoMemory = false

-- the map after an association with this answer: a refusal changes nothing, and no other number
-- changes
abbrev pub after_associate : AssocAnswer → ℕ → ℕ → (ℕ → Option ℕ) → ℕ → Option ℕ
after_associate answer virq hw at k = if is_associated answer && (k == hw) then Some virq else at k

-- the answer of giving up a number, by what it is mapped to
abbrev pub dispose_answer : Option ℕ → DisposeAnswer
dispose_answer None = disposed.NotThere
dispose_answer (Some virq) = disposed.Ok

-- the map after a number was given up
abbrev pub after_dispose : ℕ → (ℕ → Option ℕ) → ℕ → Option ℕ
after_dispose hw at k = if k == hw then None else at k

-- the number isn't mapped, and all numbers below it are; none if all numbers of 32 bits are mapped
abbrev pub IsLowestFree : (ℕ → Option ℕ) → Option ℕ → Type 0
IsLowestFree at None = (k : ℕ) → k < 2 ^ 32 → is_some (at k) ≡ true
IsLowestFree at (Some hw) =
    (at hw ≡ None) × (hw < 2 ^ 32) × ((k : ℕ) → k < hw → is_some (at k) ≡ true)

-- the virq at the number, in a list of pairs of a number and its virq
abbrev pub entry_at : List (ℕ × ℕ) → ℕ → Option ℕ
entry_at entries hw = lookup (is_at (nat_cmp hw)) entries
