-- What is answered of something wanted.
use Rattle.std.specs.Prelude.{◌≡◌, ◌-◌, ◌<◌, ℕ, Some, List, reverse, slice_get}
use Rattle.std.specs.Option.{option_map}
use Rattle.irq_base.specs.declared.entries.Entry.{Entry}
use Rattle.irq_base.specs.declared.lines.LineDef.{LineDef}
use Rattle.irq_model.specs.Legal.{IsDue}
use Rattle.line_wanted.specs.Wanted.{IsShortest, IsNever, IsNotWithin}
use Rattle.line_wanted.specs.declared.wanted.Wanted.{Wanted}
use Rattle.line_wanted.specs.declared.wanted.Wanted.TheVariants as wants
use Rattle.state_search.specs.Seen.{SearchSeen, cut_of}
use Rattle.line_survey.specs.declared.answer.Answer.{Answer}
use Rattle.line_survey.specs.declared.answer.Answer.TheVariants as answers
use Rattle.line_wanted.specs.Left.{Leaves}
use Rattle.line_survey.specs.Searched.{IsSearchOf}
use Rattle.line_survey.specs.Seen.{LineSearchSeen}

-- A search that was cut at this length knows what comes after each shorter past: so all rows with
-- which a past of that length ends, and all pasts at rest that are shorter.
abbrev pub known_within : Wanted → ℕ → ℕ
known_within (wants.Row e) cut = cut
known_within (wants.Rest left) cut = cut - 1

-- the row is due after the past; or nothing can happen after it, and it leaves the line so
abbrev pub IsMetBy : LineDef → Wanted → List Entry → Type 0
IsMetBy def (wants.Row e) past = IsDue def e past
IsMetBy def (wants.Rest left) past = Leaves def left past

-- none of the states that were looked at meets what is wanted
abbrev pub NoneMeets : LineDef → Wanted → SearchSeen Entry → Type 0
NoneMeets def wanted searched =
    (k : ℕ) (p : List Entry) → k < searched.looked → slice_get searched.paths k ≡ Some p
    → IsMetBy def wanted p → ⊥

-- by a search through at most `most` states of the line: a shortest history as wanted, its oldest
-- entry first; or that there is none; or that there is none up to a length, all that a search knows
-- that was cut after this many states, and that met what is wanted in none that it looked at
abbrev pub IsAnswer : ℕ → LineDef → Wanted → Answer → Type 0
IsAnswer most def wanted (answers.Found es) = IsShortest def wanted (reverse es.items)
IsAnswer most def wanted answers.Never = IsNever def wanted
IsAnswer most def wanted (answers.NotWithin n) =
    IsNotWithin def wanted n × (search : LineSearchSeen) × IsSearchOf most def search
    × NoneMeets def wanted search.searched
    × (Some n ≡ option_map (known_within wanted) (cut_of search.searched))
