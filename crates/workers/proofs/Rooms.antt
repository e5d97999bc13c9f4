-- How much more the passes of jobs can see, and how many steps were made, after a try, an attempt and a shift.
use Rattle.std.proofs.Common.{◌≡◌, ℕ, zero, suc, ◌+◌, ◌-◌, ◌<◌, ◌≤◌, IsSomeAnd, Option, Some, None, Result, Ok, Err, List, []}
use Rattle.std.proofs.Common.{◌∷◌, length, get_or, set, slice_get, refl, ap, ◌∙◌, subst, arith, length-append}
use Rattle.workers.specs.declared.job.Work.{Work}
use Rattle.workers.specs.declared.job.Work.TheVariants as works
use Rattle.irq_base.specs.declared.entries.Entry.{Entry}
use Rattle.irq_base.specs.declared.lines.LineDef.{LineDef}
use Rattle.irq_laws.proofs.Chosen.{the_same}
use Rattle.irq_line.specs.declared.answers.StepRefused.{StepRefused}
use Rattle.irq_line.specs.declared.answers.StepRefused.TheVariants as refusals
use Rattle.line_lock.specs.Knows.{BeginsWith}
use Rattle.line_lock.specs.Passes.{LockSeen}
use Rattle.line_lock.specs.declared.view.Placed.{Placed}
use Rattle.workers.specs.Fit.{IsPost, ArePosted}
use Rattle.workers.specs.Grown.{made_by}
use Rattle.workers.specs.Room.{AreCounted, room_of, room_of_posts, room_of_jobs, RoomAfter, RoomAfterPart}
use Rattle.workers.specs.Seen.{PostSeen, JobSeen}
use Rattle.workers.specs.Tries.{Tries}
use Rattle.workers.specs.Attempts.{StepsPost}
use Rattle.workers.specs.Terms.{Terms}

-- ---- one pass

-- what begins with another is no shorter
no_shorter : (more less : List Entry) → BeginsWith more less → length less ≤ length more
no_shorter more less b = let e = ap (λ (h : List Entry). length h) b.1 in let l = length-append less b.0 in omega (arith, e, l)

set_less : (xs : List PostSeen) (k : ℕ) (y x : PostSeen) → slice_get xs k ≡ Some x → room_of y < room_of x → room_of_posts (set xs k y) < room_of_posts xs
set_less [] k y x at less = cc
set_less (z ∷ zs) zero y x at less = let e = ap (λ (s : PostSeen). room_of s) (the_same z x at) in omega (arith, e, less)
set_less (z ∷ zs) (suc k) y x at less = let l = set_less zs k y x at less in omega (arith, l)

set_no_more : (xs : List PostSeen) (k : ℕ) (y x : PostSeen) → slice_get xs k ≡ Some x → room_of y ≤ room_of x → room_of_posts (set xs k y) ≤ room_of_posts xs
set_no_more [] k y x at less = cc
set_no_more (z ∷ zs) zero y x at less = let e = ap (λ (s : PostSeen). room_of s) (the_same z x at) in omega (arith, e, less)
set_no_more (z ∷ zs) (suc k) y x at less = let l = set_no_more zs k y x at less in omega (arith, l)

-- ---- the steps made

made_more : (xs : List PostSeen) (k : ℕ) (y x : PostSeen) → slice_get xs k ≡ Some x
    → length y.pass.knows.mine ≡ length x.pass.knows.mine + 1 → made_by (set xs k y) ≡ made_by xs + 1
made_more [] k y x at more = cc
made_more (z ∷ zs) zero y x at more = let e = ap (λ (s : PostSeen). length s.pass.knows.mine) (the_same z x at) in omega (arith, e, more)
made_more (z ∷ zs) (suc k) y x at more = let l = made_more zs k y x at more in omega (arith, l)

made_same : (xs : List PostSeen) (k : ℕ) (y x : PostSeen) → slice_get xs k ≡ Some x
    → length y.pass.knows.mine ≡ length x.pass.knows.mine → made_by (set xs k y) ≡ made_by xs
made_same [] k y x at same = cc
made_same (z ∷ zs) zero y x at same = let e = ap (λ (s : PostSeen). length s.pass.knows.mine) (the_same z x at) in omega (arith, e, same)
made_same (z ∷ zs) (suc k) y x at same = let l = made_same zs k y x at same in omega (arith, l)

-- ---- one try

pub room_after : (terms : Terms) (lines : List LockSeen) (place : ℕ) (tried : Result (Option Entry) StepRefused)
    (old new : JobSeen) → ArePosted lines old → StepsPost terms lines place tried old new → RoomAfter tried old new
room_after terms lines place tried old new posted s = by_tried tried s.tries
  where
    posts_are : new.posts ≡ set old.posts place s.after
    posts_are = ap (λ (j : JobSeen). j.posts) s.is

    log_before : s.post.pass.def.log ≡ s.line.def.log
    log_before = ap (λ (d : LineDef). d.log) (subst (λ (o : Option LockSeen). IsSomeAnd o
        (λ l. IsPost l old.actor s.post)) s.at_line (posted place s.post s.at_post)).of_line.1

    log_after : s.after.pass.def.log ≡ s.line.def.log
    log_after = ap (λ (d : LineDef). d.log) s.is_post.of_line.1

    same : room_of_posts new.posts ≡ room_of_posts (set old.posts place s.after)
    same = ap room_of_posts posts_are

    same_made : made_by new.posts ≡ made_by (set old.posts place s.after)
    same_made = ap made_by posts_are

    same_left : new.left ≡ old.left
    same_left = ap (λ (j : JobSeen). j.left) s.is

    no_more : BeginsWith s.after.pass.knows.seen s.post.pass.knows.seen → room_of_posts new.posts ≤ room_of_posts old.posts
    no_more b =
        let l = no_shorter s.after.pass.knows.seen s.post.pass.knows.seen b in
        let r : room_of s.after ≤ room_of s.post = omega (arith, l, log_before, log_after) in
        let m = set_no_more old.posts place s.after s.post s.at_post r in
        omega (arith, m, same)

    none : s.after.pass.knows.mine ≡ s.post.pass.knows.mine → made_by new.posts ≡ made_by old.posts
    none mine =
        let m = made_same old.posts place s.after s.post s.at_post (ap (λ (ps : List Placed). length ps) mine) in
        omega (arith, m, same_made)

    by_tried : (tried : Result (Option Entry) StepRefused)
        → Tries terms s.line.def old.actor s.post.pass.knows tried s.after.pass.knows
        → RoomAfter tried old new
    by_tried (Ok (Some e)) t =
        let g = t.came in
        let l = no_shorter g.history s.post.pass.knows.seen g.onto in
        let n = ap (λ (h : List Entry). length h) g.seen in
        let a = length-append g.history (e ∷ []) in
        let b = g.below in
        let r : room_of s.after < room_of s.post = omega (arith, l, n, a, b, log_before, log_after) in
        let m = set_less old.posts place s.after s.post s.at_post r in
        let p = ap (λ (ps : List Placed). length ps) g.mine in
        let q = length-append s.post.pass.knows.mine (record { place = length g.history; entry = e } ∷ []) in
        let more = made_more old.posts place s.after s.post s.at_post (omega (arith, p, q)) in
        (omega (arith, m, same), omega (arith, more, same_made), same_left)
    by_tried (Ok None) t = (no_more t.begins, none t.came.1, same_left)
    by_tried (Err (refusals.Full number len)) t = (no_more t.begins, none t.came.3, same_left)
    by_tried (Err refusals.NoMemory) t = (no_more t.begins, none t.came.1, same_left)

-- ---- attempts

-- nothing was done yet; or only the job's other parts changed
abbrev pub StaysSo : JobSeen → JobSeen → Type 0
StaysSo old new = (room_of_posts new.posts ≤ room_of_posts old.posts) × (made_by new.posts ≡ made_by old.posts) × (new.left ≡ old.left)

pub stays : (old new : JobSeen) → new.posts ≡ old.posts → new.left ≡ old.left → StaysSo old new
stays old new same left = (let e = ap room_of_posts same in omega (arith, e), ap made_by same, left)

-- an attempt leaves no more room
pub no_more_room : (tried : Result (Option Entry) StepRefused) (old new : JobSeen) → RoomAfter tried old new → room_of_posts new.posts ≤ room_of_posts old.posts
no_more_room (Ok (Some e)) old new r = let s = r.0 in omega (arith, s)
no_more_room (Ok None) old new r = r.0
no_more_room (Err refused) old new r = r.0

-- after others that left no more room, and made no step
pub room_from : (tried : Result (Option Entry) StepRefused) (a b c : JobSeen) → StaysSo a b → RoomAfter tried b c → RoomAfter tried a c
room_from (Ok (Some e)) a b c first r =
    let f = first.0 in let g = first.1 in let s = r.0 in let t = r.1 in (omega (arith, f, s), omega (arith, g, t), r.2 ∙ first.2)
room_from (Ok None) a b c first r = let f = first.0 in let s = r.0 in (omega (arith, f, s), r.1 ∙ first.1, r.2 ∙ first.2)
room_from (Err refused) a b c first r = let f = first.0 in let s = r.0 in (omega (arith, f, s), r.1 ∙ first.1, r.2 ∙ first.2)

pub stays_first : (tried : Result (Option Entry) StepRefused) (a b : JobSeen) → tried ≡ Ok None → RoomAfter tried a b → StaysSo a b
stays_first tried a b not r = subst (λ (t : Result (Option Entry) StepRefused). RoomAfter t a b) not r

pub stays_on : (tried : Result (Option Entry) StepRefused) (a b c : JobSeen) → tried ≡ Ok None → StaysSo a b → RoomAfter tried b c → StaysSo a c
stays_on tried a b c not first r = room_from (Ok None) a b c first (subst (λ (t : Result (Option Entry) StepRefused). RoomAfter t b c) not r)

-- with the same passes there is the same room
pub room_as : (tried : Result (Option Entry) StepRefused) (old mid new : JobSeen) → new.posts ≡ mid.posts → new.left ≡ mid.left
    → RoomAfter tried old mid → RoomAfter tried old new
room_as tried old mid new same left r = by_attempt tried r
  where
    by_attempt : (t : Result (Option Entry) StepRefused) → RoomAfter t old mid → RoomAfter t old new
    by_attempt (Ok (Some e)) r = let e = ap room_of_posts same in let m = ap made_by same in
        let a = r.0 in let b = r.1 in (omega (arith, e, a), omega (arith, m, b), left ∙ r.2)
    by_attempt (Ok None) r = let e = ap room_of_posts same in let a = r.0 in (omega (arith, e, a), ap made_by same ∙ r.1, left ∙ r.2)
    by_attempt (Err refused) r = let e = ap room_of_posts same in let a = r.0 in (omega (arith, e, a), ap made_by same ∙ r.1, left ∙ r.2)

-- ---- steps are counted

-- an attempt that made a step, and the step was counted
pub counted_more : (first mid now new : JobSeen) (e : Entry) → AreCounted first mid → 0 < mid.left → RoomAfter (Ok (Some e)) mid now
    → new ≡ record now { left = now.left - 1 } → AreCounted first new
counted_more first mid now new e counted some r same =
    let made = r.1 in
    let left = r.2 in
    let posts = ap (λ (j : JobSeen). made_by j.posts) same in
    let less = ap (λ (j : JobSeen). j.left) same in
    omega (arith, counted, some, made, left, posts, less)

-- one that made none
pub counted_still : (tried : Result (Option Entry) StepRefused) (first mid now : JobSeen) → ((e : Entry) → tried ≡ Ok (Some e) → ⊥)
    → AreCounted first mid → RoomAfter tried mid now → AreCounted first now
counted_still (Ok (Some e)) first mid now none counted r = absurd (none e refl)
counted_still (Ok None) first mid now none counted r = let made = r.1 in let left = r.2 in omega (arith, counted, made, left)
counted_still (Err refused) first mid now none counted r = let made = r.1 in let left = r.2 in omega (arith, counted, made, left)

-- ---- a worker's part of a shift

-- how many steps it may make changes nothing else
pub room_renewed : (end : Result Work StepRefused) (old new : JobSeen) (n : ℕ) → RoomAfterPart end (record old { left = n }) new → RoomAfterPart end old new
room_renewed (Ok works.Idle) old new n r = r
room_renewed (Ok works.Busy) old new n r = r
room_renewed (Err refused) old new n r = r

pub room_after_part : (end : Result Work StepRefused) (old now new : JobSeen) → new.posts ≡ now.posts → RoomAfterPart end old now → RoomAfterPart end old new
room_after_part (Ok works.Idle) old now new same r = let e = ap room_of_posts same in let a = r.0 in (omega (arith, e, a), ap made_by same ∙ r.1)
room_after_part (Ok works.Busy) old now new same r = let e = ap room_of_posts same in let m = ap made_by same in
    let a = r.0 in let b = r.1 in (omega (arith, e, a), omega (arith, m, b))
room_after_part (Err refused) old now new same r = let e = ap room_of_posts same in let m = ap made_by same in
    let a = r.0 in let b = r.1 in (omega (arith, e, a), omega (arith, m, b))

pub no_more_after_part : (end : Result Work StepRefused) (old new : JobSeen) → RoomAfterPart end old new → room_of_posts new.posts ≤ room_of_posts old.posts
no_more_after_part (Ok works.Idle) old new r = r.0
no_more_after_part (Ok works.Busy) old new r = let s = r.0 in omega (arith, s)
no_more_after_part (Err refused) old new r = r.0

-- ---- a shift

abbrev EachLeaves : List JobSeen → List JobSeen → Type 0
EachLeaves old new = (k : ℕ) (d : JobSeen) → k < length old → RoomAfterPart (get_or new k d).end (get_or old k d) (get_or new k d)

pub all_no_more : (old new : List JobSeen) → length new ≡ length old → EachLeaves old new → room_of_jobs new ≤ room_of_jobs old
all_no_more [] [] long each = omega arith
all_no_more [] (y ∷ ys) long each = absurd (omega (arith, long))
all_no_more (x ∷ xs) [] long each = absurd (omega (arith, long))
all_no_more (x ∷ xs) (y ∷ ys) long each =
    let first = no_more_after_part y.end x y (each 0 x (omega arith)) in
    let rest = all_no_more xs ys (omega (arith, long)) (λ k d less. each (suc k) d (omega (arith, less))) in
    omega (arith, first, rest)

pub some_less : (old new : List JobSeen) (i : ℕ) (j : JobSeen) → length new ≡ length old → EachLeaves old new
    → slice_get new i ≡ Some j → j.end ≡ Ok works.Busy → room_of_jobs new < room_of_jobs old
some_less [] [] i j long each at is = cc
some_less [] (y ∷ ys) i j long each at is = absurd (omega (arith, long))
some_less (x ∷ xs) [] i j long each at is = cc
some_less (x ∷ xs) (y ∷ ys) zero j long each at is =
    let first : room_of_posts y.posts < room_of_posts x.posts
    = (subst (λ (l : Result Work StepRefused). RoomAfterPart l x y) (ap (λ (k : JobSeen). k.end) (the_same y j at) ∙ is)
    (each 0 x (omega arith))).0 in
    let rest = all_no_more xs ys (omega (arith, long)) (λ k d less. each (suc k) d (omega (arith, less))) in
    omega (arith, first, rest)
some_less (x ∷ xs) (y ∷ ys) (suc i) j long each at is =
    let first = no_more_after_part y.end x y (each 0 x (omega arith)) in
    let rest = some_less xs ys i j (omega (arith, long)) (λ k d less. each (suc k) d (omega (arith, less))) at is in
    omega (arith, first, rest)
