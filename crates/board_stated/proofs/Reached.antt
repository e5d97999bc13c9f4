-- What has no fault after the statements before it; and that a text with nothing but settings states no lines and no picks.
use Rattle.std.proofs.Common.{◌≡◌, ℕ, ◌<◌, ◌≤◌, Bool, true, false, cond, ◌||◌, Option, Some, None, List, [], ◌∷◌, ◌++◌, nat_lt, refl, ap, ◌∙◌, arith}
use Rattle.std.proofs.lemmas.Bool.{ltb-false, or_parts}
use Rattle.board_def.specs.Seen.{BoardSeen}
use Rattle.board_words.specs.declared.faults.FaultKind.{FaultKind}
use Rattle.board_words.specs.declared.faults.FaultKind.TheVariants as faults
use Rattle.board_words.specs.declared.statements.Statement.{Statement}
use Rattle.board_words.specs.declared.statements.Statement.TheVariants as statements
use Rattle.board_stated.specs.Sections.{section_in, section_reached, writer_of}
use Rattle.board_stated.specs.FaultsAfter.{is_empty, is_misplaced, is_out_of_turn, is_out_of_order, is_twice, is_not_there, has_bad_parent}
use Rattle.board_stated.specs.FaultsAfter.{has_bad_unlazy, has_bad_mask, has_bad_owner, has_bad_run, is_one_too_many, fault_after}
use Rattle.board_stated.specs.Sound.{IsSound}
use Rattle.board_stated.specs.Stated.{with_call, with_statement, board_of}
use Rattle.board_stated.specs.declared.writers.Writer.{Writer}
use Rattle.board_stated.specs.declared.writers.Writer.TheVariants as writers
use Rattle.board_words.specs.declared.statements.CallWords.{CallWords}
use Rattle.irq_base.specs.declared.numbers.DriverNo.{DriverNo}

-- ---- each test of a statement without a fault fails

pub record FitsAfter (past : List Statement) (s : Statement) : Type 0 where
  pub section : section_reached past ≤ section_in (section_reached past) s
  pub placed : is_misplaced (board_of past) s ≡ false
  pub turn : is_out_of_turn past s ≡ false
  pub once : is_twice past s ≡ false
  pub there : is_not_there (board_of past) s ≡ false
  pub parent : has_bad_parent (board_of past) s ≡ false
  pub unlazy : has_bad_unlazy (board_of past) s ≡ false
  pub mask : has_bad_mask (board_of past) s ≡ false
  pub owner : has_bad_owner (writer_of past) (board_of past) s ≡ false
  pub run : has_bad_run (writer_of past) (board_of past) s ≡ false
  pub room : is_one_too_many (writer_of past) (board_of past) s ≡ false

passed : (t : Bool) (kind : FaultKind) (rest : Option FaultKind) → cond t (Some kind) rest ≡ None → (t ≡ false) × (rest ≡ None)
passed true kind rest h = absurd cc
passed false kind rest h = (refl, h)

pub fits_after : (past : List Statement) (s : Statement) → fault_after past s ≡ None → FitsAfter past s
fits_after past s h =
    let order = passed (is_out_of_order past s) faults.OutOfOrder _ h in
    let twice = passed (is_twice past s) faults.Twice _ order.1 in
    let there = passed (is_not_there (board_of past) s) faults.NotThere _ twice.1 in
    let parent = passed (has_bad_parent (board_of past) s) faults.BadParent _ there.1 in
    let unlazy = passed (has_bad_unlazy (board_of past) s) faults.BadUnlazy _ parent.1 in
    let mask = passed (has_bad_mask (board_of past) s) faults.BadMask _ unlazy.1 in
    let owner = passed (has_bad_owner (writer_of past) (board_of past) s) faults.BadOwner _ mask.1 in
    let run = passed (has_bad_run (writer_of past) (board_of past) s) faults.BadRun _ owner.1 in
    let room = passed (is_one_too_many (writer_of past) (board_of past) s) faults.TooMany None run.1 in
    let section = section_in (section_reached past) s in
    let place = or_parts (nat_lt section (section_reached past)) (is_misplaced (board_of past) s || is_out_of_turn past s) order.0 in
    let stands = or_parts (is_misplaced (board_of past) s) (is_out_of_turn past s) place.1 in
    record {
      section = ltb-false section (section_reached past) place.0;
      placed = stands.0;
      turn = stands.1;
      once = twice.0;
      there = there.0;
      parent = parent.0;
      unlazy = unlazy.0;
      mask = mask.0;
      owner = owner.0;
      run = run.0;
      room = room.0;
    }

-- ---- as long as only settings are stated

-- the rows whose rules look at settings: there is none of them
abbrev pub NoRows : BoardSeen → Type 0
NoRows b = (b.lines ≡ []) × (b.picks ≡ [])

-- a call changes neither lines nor picks, nor the answers
call_leaves : (whose : Writer) (c : CallWords) (b : BoardSeen)
    → ((with_call whose c b).lines ≡ b.lines) × ((with_call whose c b).picks ≡ b.picks) × ((with_call whose c b).told ≡ b.told)
call_leaves writers.Nobody c b = (refl, refl, refl)
call_leaves writers.Driver c b = (refl, refl, refl)
call_leaves (writers.Runs dev part) c b = (refl, refl, refl)

none_more : (reached : ℕ) (whose : Writer) (s : Statement) (b : BoardSeen) → section_in reached s < 2 → NoRows b → NoRows (with_statement whose s b)
none_more reached whose (statements.Board version) b early none = none
none_more reached whose (statements.Cpus cpus) b early none = none
none_more reached whose (statements.Spurious window limit) b early none = none
none_more reached whose (statements.Log log) b early none = none
none_more reached whose (statements.Domain d) b early none = absurd (omega arith)
none_more reached whose (statements.Line l) b early none = absurd (omega arith)
none_more reached whose (statements.Device d) b early none = absurd (omega arith)
none_more reached whose (statements.Answers dev part answers) b early none = absurd (omega arith)
none_more reached whose (statements.Runs dev part) b early none = absurd (omega arith)
none_more reached whose (statements.Driver driver) b early none = absurd (omega arith)
none_more reached whose (statements.Call c) b early none = let same = call_leaves whose c b in (same.0 ∙ none.0, same.1 ∙ none.1)
none_more reached whose (statements.Picks picks) b early none = absurd (omega arith)

pub no_rows : (past : List Statement) → IsSound past → section_reached past < 2 → NoRows (board_of past)
no_rows [] sound early = (refl, refl)
no_rows (s ∷ past) sound early =
    none_more (section_reached past) (writer_of past) s (board_of past) early
    (no_rows past sound.0 (omega (arith, early, (fits_after past s sound.2).section)))

-- ---- before the statements on runs

none_told : (reached : ℕ) (whose : Writer) (s : Statement) (b : BoardSeen) → section_in reached s < 5 → b.told ≡ []
    → (with_statement whose s b).told ≡ []
none_told reached whose (statements.Board version) b early none = none
none_told reached whose (statements.Cpus cpus) b early none = none
none_told reached whose (statements.Spurious window limit) b early none = none
none_told reached whose (statements.Log log) b early none = none
none_told reached whose (statements.Domain d) b early none = none
none_told reached whose (statements.Line l) b early none = none
none_told reached whose (statements.Device d) b early none = none
none_told reached whose (statements.Answers dev part answers) b early none = absurd (omega arith)
none_told reached whose (statements.Runs dev part) b early none = none
none_told reached whose (statements.Driver driver) b early none = none
none_told reached whose (statements.Call c) b early none = (call_leaves whose c b).2 ∙ none
none_told reached whose (statements.Picks picks) b early none = none

-- no answers stand
pub no_answers : (past : List Statement) → IsSound past → section_reached past < 5 → (board_of past).told ≡ []
no_answers [] sound early = refl
no_answers (s ∷ past) sound early =
    none_told (section_reached past) (writer_of past) s (board_of past) early
    (no_answers past sound.0 (omega (arith, early, (fits_after past s sound.2).section)))

-- ---- where a driver's script is written

drivers_stay : (whose : Writer) (c : CallWords) (b : BoardSeen) → (with_call whose c b).drivers ≡ b.drivers
drivers_stay writers.Nobody c b = refl
drivers_stay writers.Driver c b = refl
drivers_stay (writers.Runs dev part) c b = refl

some_last : (drivers : List DriverNo) (driver : DriverNo) → is_empty (drivers ++ driver ∷ []) ≡ false
some_last [] driver = grind arith
some_last (d ∷ ds) driver = grind arith

-- a driver is declared
pub driver_declared : (past : List Statement) → writer_of past ≡ writers.Driver → is_empty (board_of past).drivers ≡ false
driver_declared [] is = absurd cc
driver_declared (statements.Driver driver ∷ past) is = some_last (board_of past).drivers driver
driver_declared (statements.Call c ∷ past) is =
    ap (λ (ds : List DriverNo). is_empty ds) (drivers_stay (writer_of past) c (board_of past)) ∙ driver_declared past is
driver_declared (statements.Board version ∷ past) is = absurd cc
driver_declared (statements.Cpus cpus ∷ past) is = absurd cc
driver_declared (statements.Spurious window limit ∷ past) is = absurd cc
driver_declared (statements.Log log ∷ past) is = absurd cc
driver_declared (statements.Domain d ∷ past) is = absurd cc
driver_declared (statements.Line l ∷ past) is = absurd cc
driver_declared (statements.Device d ∷ past) is = absurd cc
driver_declared (statements.Answers dev part answers ∷ past) is = absurd cc
driver_declared (statements.Runs dev part ∷ past) is = absurd cc
driver_declared (statements.Picks picks ∷ past) is = absurd cc
