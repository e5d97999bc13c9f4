-- One sweep of a shift after another.
use Rattle.std.proofs.Common.{◌≡◌, ℕ, ◌+◌, ◌<◌, ◌≤◌, inl, inr, All, List, length, get_or, set, refl, sym, ◌∙◌, subst, arith, Result, Ok, Err}
use Rattle.std.proofs.lemmas.List.{get_or-set_same, get_or-set_other, get_or_default}
use Rattle.irq_line.specs.declared.answers.StepRefused.{StepRefused}
use Rattle.workers.specs.declared.job.Work.{Work}
use Rattle.workers.specs.declared.job.Work.TheVariants as works
use Rattle.board_def.specs.Seen.{BoardSeen}
use Rattle.line_lock.specs.Passes.{LockSeen}
use Rattle.workers.specs.Fit.{IsJob}
use Rattle.workers.specs.Room.{AreCounted, RoomAfterPart, room_of_posts}
use Rattle.workers.specs.Grown.{made_by}
use Rattle.workers.specs.Shifts.{WorksOn, EndIsSo, with_earlier, GoesOn, GoOnJobs, KeepsJobs}
use Rattle.workers.specs.Seen.{JobSeen}
use Rattle.workers.proofs.Lists.{two}
use Rattle.workers.proofs.Shifting.{works_first, works_more, job_ended, ended_at}
use Rattle.workers.specs.Terms.{Terms}

-- ---- one job

-- what is left to do goes on from here
further : (start old now : JobSeen) (end : Result Work StepRefused) → room_of_posts old.posts ≤ room_of_posts start.posts
    → made_by start.posts ≡ made_by old.posts → RoomAfterPart end old now → RoomAfterPart end start now
further start old now (Ok works.Idle) a m r = let s = r.0 in (omega (arith, a, s), r.1 ∙ sym m)
further start old now (Ok works.Busy) a m r = let s = r.0 in let t = r.1 in (omega (arith, a, s), omega (arith, m, t))
further start old now (Err refused) a m r = let s = r.0 in let t = r.1 in (omega (arith, a, s), omega (arith, m, t))

-- the room that is left since the shift's start
since_start : (start old now : JobSeen) (before : Work) (end : Result Work StepRefused) → RoomAfterPart (Ok before) start old
    → RoomAfterPart end old now → RoomAfterPart (with_earlier before end) start now
since_start start old now works.Busy (Ok works.Idle) a b = let c = a.0 in let d = a.1 in let s = b.0 in let t = b.1 in
    (omega (arith, c, s), omega (arith, d, t))
since_start start old now works.Busy (Ok works.Busy) a b = let c = a.0 in let d = a.1 in let s = b.0 in let t = b.1 in
    (omega (arith, c, s), omega (arith, d, t))
since_start start old now works.Busy (Err refused) a b = let c = a.0 in let d = a.1 in let s = b.0 in let t = b.1 in
    (omega (arith, c, s), omega (arith, d, t))
since_start start old now works.Idle (Ok works.Idle) a b = further start old now (Ok works.Idle) a.0 (sym a.1) b
since_start start old now works.Idle (Ok works.Busy) a b = further start old now (Ok works.Busy) a.0 (sym a.1) b
since_start start old now works.Idle (Err refused) a b = further start old now (Err refused) a.0 (sym a.1) b

module _ (terms : Terms) (board : BoardSeen) (lines : List LockSeen) where
  so : (now : JobSeen) (before : Work) (end : Result Work StepRefused) → EndIsSo terms board now end
      → EndIsSo terms board now (with_earlier before end)
  so now works.Busy (Ok works.Idle) is = tt
  so now works.Idle (Ok works.Idle) is = is
  so now before (Ok works.Busy) is = tt
  so now before (Err refused) is = is

  pub goes_on : (old now new : JobSeen) (before : Work) (end : Result Work StepRefused) → old.end ≡ Ok before → WorksOn terms board lines old now
      → EndIsSo terms board now end → RoomAfterPart end old now → AreCounted old now → new ≡ record now { end = with_earlier before end }
      → GoesOn terms board lines old new
  goes_on old now new before end was w is room counted same =
      record {
        works = subst (WorksOn terms board lines old) (sym same)
            (record {
              actor = w.actor;
              first = w.first;
              as_many = w.as_many;
              job = job_ended board lines now (with_earlier before end) w.job;
              grew = w.grew;
            });
        counted = subst (AreCounted old) (sym same) counted;
        since = λ start first. let few = first.few in ended_at board lines now (with_earlier before end) terms start new
            (works_more board lines start old now first.works w) (so now before end is)
            (since_start start old now before end (subst (λ (l : Result Work StepRefused). RoomAfterPart l start old) was first.room) room)
            (omega (arith, few, counted)) same;
      }

  pub goes_first : (j : JobSeen) → IsJob board lines j → GoesOn terms board lines j j
  goes_first j job = record { works = works_first board lines j job; counted = refl; since = λ start before. before }

  pub goes_more : (a b c : JobSeen) → GoesOn terms board lines a b → GoesOn terms board lines b c → GoesOn terms board lines a c
  goes_more a b c v w = record {
    works = works_more board lines a b c v.works w.works;
    counted = w.counted ∙ v.counted;
    since = λ start before. w.since start (v.since start before);
  }

  -- ---- all jobs of a thread

  pub all_first : (jobs : List JobSeen) → All (IsJob board lines) jobs → GoOnJobs terms board lines jobs jobs
  all_first jobs all k d less = goes_first (get_or jobs k d) (all k d less)

  pub all_more : (a b c : List JobSeen) → length b ≡ length a → GoOnJobs terms board lines a b
      → GoOnJobs terms board lines b c → GoOnJobs terms board lines a c
  all_more a b c long v w k d less = goes_more (get_or a k d) (get_or b k d) (get_or c k d) (v k d less) (w k d (omega (arith, long, less)))

  pub all_since : (start a b : List JobSeen) → length a ≡ length start → KeepsJobs terms board lines start a
      → GoOnJobs terms board lines a b → KeepsJobs terms board lines start b
  all_since start a b long v w k d less = (w k d (omega (arith, long, less))).since (get_or start k d) (v k d less)

  pub all_jobs_on : (a b : List JobSeen) → length b ≡ length a → GoOnJobs terms board lines a b → All (IsJob board lines) b
  all_jobs_on a b long v k d less = (v k d (omega (arith, long, less))).works.job

  pub all_jobs_kept : (a b : List JobSeen) → length b ≡ length a → KeepsJobs terms board lines a b → All (IsJob board lines) b
  all_jobs_kept a b long v k d less = (v k d (omega (arith, long, less))).works.job

-- a loop's step over the jobs: the job at k is done, those behind it are as they were
pub swept : (R : JobSeen → JobSeen → Type 0) (xs ys : List JobSeen) (k : ℕ) (x y : JobSeen) → k < length ys → x ≡ get_or ys k x
    → ((j : ℕ) (d : JobSeen) → k ≤ j → get_or ys j d ≡ get_or xs j d) × ((j : ℕ) (d : JobSeen) → j < k → R (get_or xs j d) (get_or ys j d)) → R x y
    → ((j : ℕ) (d : JobSeen) → k + 1 ≤ j → get_or (set ys k y) j d ≡ get_or xs j d)
    × ((j : ℕ) (d : JobSeen) → j < k + 1 → R (get_or xs j d) (get_or (set ys k y) j d))
swept R xs ys k x y less is before here = (
  λ j d h. get_or-set_other ys k j y d (λ e. omega arith) ∙ before.0 j d (omega arith),
  λ j d h. elim (two j k h) [
    | inl older ↦ subst (R (get_or xs j d)) (sym (get_or-set_other ys k j y d (λ e. omega arith))) (before.1 j d older)
    | inr same ↦
        subst (λ (n : ℕ). R (get_or xs n d) (get_or (set ys k y) n d)) (sym same)
        (subst (R (get_or xs k d)) (sym (get_or-set_same ys k y d less))
        (subst (λ (z : JobSeen). R z y) (is ∙ (get_or_default ys k x d less ∙ before.0 k d (omega arith))) here))
  ],
)

-- what is required of the job at k
pub job_at : (P : JobSeen → Type 0) (xs ys : List JobSeen) (k : ℕ) (x : JobSeen) → k < length ys → length ys ≡ length xs
    → x ≡ get_or ys k x → ((j : ℕ) (d : JobSeen) → k ≤ j → get_or ys j d ≡ get_or xs j d) → All P xs → P x
job_at P xs ys k x less long is end all = subst P (sym (is ∙ end k x (omega arith))) (all k x (omega (arith, less, long)))
