-- What the rule on spurious interrupts makes of an end, and what its open window still allows
-- (`note_interrupt`, `kernel/irq/spurious.c`).
use Rattle.std.specs.Prelude.{ℕ, ◌+◌, ◌-◌, ◌*◌, Bool, true, false, not, ◌||◌, ◌&&◌, ◌==◌}
use Rattle.std.specs.Prelude.{if◌then◌else◌, List, [], ◌∷◌, nat_lt}
use Rattle.irq_base.specs.declared.lines.LineDef.{LineDef}
use Rattle.irq_base.specs.declared.entries.Entry.{Entry}
use Rattle.irq_model.specs.Places.{stands, count_of}
use Rattle.irq_model.specs.Kinds.{is_kill, is_start, is_linked_request}
use Rattle.irq_model.specs.Rounds.{has_flow}
use Rattle.irq_model.specs.Spurious.{Counts, now, round_wakes, round_handles, counts_of}
use Rattle.irq_storms.specs.Tests.{is_end, is_moment, is_renewal, is_by_any_driver}

-- a mark as a number
abbrev pub one_if : Bool → ℕ
one_if b = if b then 1 else 0

-- how many entries pass a test that looks at what stands before each of them
abbrev pub count_where : (Entry → List Entry → Bool) → List Entry → ℕ
count_where p [] = 0
count_where p (e ∷ past) = if p e past then (count_where p past + 1) else count_where p past

-- ---- an end is judged, or left to the next one

-- what the rule makes of an end: handled, unhandled, or judged by what the threads do until the
-- next
pub data Judgement : Type 0 where
  Handled : Judgement
  Nothing : Judgement
  Deferred : Judgement

-- the judgement by the answers of the round; `deferred`: an end that only woke threads waits to be
-- judged; `same`: no thread has served since
abbrev pub judged_as : Bool → Bool → Bool → Bool → Judgement
judged_as wake handled deferred same =
    if wake && not handled then (if deferred then (if same then Nothing else Handled) else Deferred)
    else (if handled then Handled else Nothing)

-- the judgement of an end that comes now
abbrev pub judgement : LineDef → List Entry → Judgement
judgement def past =
    let c = counts_of def past in judged_as (round_wakes def past) (round_handles def past)
    c.deferred (c.threads_handled == c.last)

-- tests of a judgement
abbrev pub is_handled_judgement : Judgement → Bool
is_handled_judgement Handled = true
is_handled_judgement _ = false

abbrev pub is_nothing_judgement : Judgement → Bool
is_nothing_judgement Nothing = true
is_nothing_judgement _ = false

abbrev pub is_deferred_judgement : Judgement → Bool
is_deferred_judgement Deferred = true
is_deferred_judgement _ = false

-- the entry is an end that is judged handled (below: judged nothing, or deferred)
abbrev pub ends_handled : LineDef → Entry → List Entry → Bool
ends_handled def e past = is_end e && is_handled_judgement (judgement def past)

abbrev pub ends_nothing : LineDef → Entry → List Entry → Bool
ends_nothing def e past = is_end e && is_nothing_judgement (judgement def past)

abbrev pub ends_deferred : LineDef → Entry → List Entry → Bool
ends_deferred def e past = is_end e && is_deferred_judgement (judgement def past)

-- how many ends were judged handled, judged nothing, or deferred
abbrev pub handled_ends : LineDef → List Entry → ℕ
handled_ends def past = count_where (ends_handled def) past

abbrev pub nothing_ends : LineDef → List Entry → ℕ
nothing_ends def past = count_where (ends_nothing def) past

abbrev pub deferred_ends : LineDef → List Entry → ℕ
deferred_ends def past = count_where (ends_deferred def) past

-- an end whose round both woke a thread and handled gives the deferred mark up
abbrev pub ends_clearing : LineDef → Entry → List Entry → Bool
ends_clearing def e past = is_end e && (round_wakes def past && round_handles def past)

-- how many ends give the deferred mark up
abbrev pub clearing_ends : LineDef → List Entry → ℕ
clearing_ends def past = count_where (ends_clearing def) past

-- how often a storm may begin anew: the ends judged handled, and the starts, linked requests and
-- moments
abbrev pub breaks : LineDef → List Entry → ℕ
breaks def past = handled_ends def past + count_of is_renewal past

-- an entry after which the window allows more again, though no end was judged handled: a moment, a
-- linked request, and a start of a line that was killed
abbrev pub renews : Entry → List Entry → Bool
renews e past =
    is_moment e || (is_linked_request e || (is_start e && stands is_kill is_start past))

-- of these, the starts by runs of a line that was killed, and not started since
abbrev pub starts_killed : Entry → List Entry → Bool
starts_killed e past =
    not (is_by_any_driver e) && (is_start e && stands is_kill is_start past)

abbrev pub renewals : List Entry → ℕ
renewals past = count_where renews past

-- what the next ends can be judged handled by: a handled return in the current round, and threads
-- that served since the last look
abbrev pub serving_marks : LineDef → List Entry → ℕ
serving_marks def past =
    one_if (has_flow def past && round_handles def past) + one_if
    (not ((counts_of def past).threads_handled == (counts_of def past).last))

-- ---- what the open window allows

-- the last unhandled end was long ago: the next one begins the count anew
abbrev pub is_late : ℕ → Counts → Bool
is_late at c = nat_lt 100 (at - c.last_unhandled)

-- the next unhandled end begins the count anew, or some end of the window wasn't counted as
-- unhandled
abbrev pub is_forgiving : ℕ → Counts → Bool
is_forgiving at c = is_late at c || nat_lt c.irqs_unhandled c.irq_count

-- how many ends judged nothing may come before the line is killed
abbrev pub allowance : ℕ → ℕ → Counts → ℕ
allowance window at c = if is_forgiving at c then 2 * window - c.irq_count else window - c.irq_count

-- how many ends judged nothing may come before the line is killed; none if it was killed, and not
-- started since
abbrev pub allowed : LineDef → List Entry → ℕ
allowed def past =
    if stands is_kill is_start past then 0 else allowance def.window (now past) (counts_of def past)
