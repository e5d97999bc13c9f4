-- How many more entries the workers' passes can see, and how many steps were made.
use Rattle.std.specs.Prelude.{◌≡◌, ℕ, ◌+◌, ◌-◌, ◌<◌, ◌≤◌, Option, Some, Result, Ok, List, []}
use Rattle.std.specs.Prelude.{◌∷◌, length}
use Rattle.irq_line.specs.declared.answers.StepRefused.{StepRefused}
use Rattle.workers.specs.declared.job.Work.{Work}
use Rattle.workers.specs.declared.job.Work.TheVariants as works
use Rattle.irq_base.specs.declared.entries.Entry.{Entry}
use Rattle.workers.specs.Grown.{made_by}
use Rattle.workers.specs.Seen.{PostSeen, JobSeen}

-- how many entries a pass has yet to see, until it has seen a history of the greatest length
abbrev pub room_of : PostSeen → ℕ
room_of s = s.pass.def.log - length s.pass.knows.seen

-- how many entries all passes of a job have yet to see; below, the passes of all jobs
abbrev pub room_of_posts : List PostSeen → ℕ
room_of_posts [] = 0
room_of_posts (s ∷ rest) = room_of s + room_of_posts rest

abbrev pub room_of_jobs : List JobSeen → ℕ
room_of_jobs [] = 0
room_of_jobs (j ∷ rest) = room_of_posts j.posts + room_of_jobs rest

-- An attempt that added an entry leaves less room, and one more step is made. Another leaves no
-- more room, and no step is made. How many more may be made in the shift, no attempt counts.
abbrev pub RoomAfter : Result (Option Entry) StepRefused → JobSeen → JobSeen → Type 0
RoomAfter (Ok (Some e)) old new = (room_of_posts new.posts < room_of_posts old.posts)
    × (made_by new.posts ≡ made_by old.posts + 1) × (new.left ≡ old.left)
RoomAfter _ old new = (room_of_posts new.posts ≤ room_of_posts old.posts)
    × (made_by new.posts ≡ made_by old.posts) × (new.left ≡ old.left)

-- each step that was made was counted, and nothing else was
abbrev pub AreCounted : JobSeen → JobSeen → Type 0
AreCounted old new = new.left + made_by new.posts ≡ old.left + made_by old.posts

-- a worker's part of a shift leaves no more room, and less if it made a step: some pass has seen
-- more then; it made none if it ended idle
abbrev pub RoomAfterPart : Result Work StepRefused → JobSeen → JobSeen → Type 0
RoomAfterPart (Ok works.Busy) old new = (room_of_posts new.posts < room_of_posts old.posts)
    × (made_by old.posts < made_by new.posts)
RoomAfterPart (Ok works.Idle) old new = (room_of_posts new.posts ≤ room_of_posts old.posts)
    × (made_by new.posts ≡ made_by old.posts)
RoomAfterPart _ old new = (room_of_posts new.posts ≤ room_of_posts old.posts)
    × (made_by old.posts ≤ made_by new.posts)
