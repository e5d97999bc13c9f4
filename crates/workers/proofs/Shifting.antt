-- What an attempt of each kind of actor leaves of its job.
use Rattle.std.proofs.Common.{◌≡◌, ℕ, suc, ◌+◌, ◌<◌, ◌≤◌, inl, inr, Bool, true, false, ◌&&◌, nat_le, nat_lt, ltb-true, Result, Ok, Err, IfErr, IsOk, is_ok}
use Rattle.std.proofs.Common.{ltb-false, cond, All, IsSomeAnd, Option, Some, None, List, [], ◌∷◌, ◌++◌, map, filter}
use Rattle.std.proofs.Common.{take, drop, length, reverse, get_or, slice_get, IsPermutation, refl, sym, ap, ◌∙◌, subst, arith}
use Rattle.irq_line.specs.declared.answers.StepRefused.TheVariants as refusals
use Rattle.irq_line.specs.declared.answers.StepRefused.{StepRefused}
use Rattle.workers.specs.declared.job.Work.{Work}
use Rattle.workers.specs.declared.job.Work.TheVariants as works
use Rattle.irq_base.specs.declared.entries.Entry.{Entry}
use Rattle.irq_base.specs.declared.entries.Actor.{Actor}
use Rattle.irq_base.specs.declared.entries.Actor.TheVariants as actors
use Rattle.irq_base.specs.declared.lines.LineDef.{LineDef}
use Rattle.irq_base.specs.declared.numbers.CpuNo.{CpuNo}
use Rattle.irq_base.specs.declared.numbers.DevNo.{DevNo}
use Rattle.irq_base.specs.declared.numbers.DriverNo.{DriverNo}
use Rattle.irq_base.specs.declared.numbers.LineNo.{LineNo}
use Rattle.irq_model.specs.Legal.{IsLegal}
use Rattle.irq_model.specs.Rounds.{flow}
use Rattle.board_def.specs.Seen.{BoardSeen}
use Rattle.irq_laws.proofs.Chosen.{the_same}
use Rattle.board_play.specs.Lines.{defs_of}
use Rattle.line_lock.specs.Passes.{LockSeen, PassSeen}
use Rattle.line_lock.specs.Placed.{placed}
use Rattle.workers.specs.Fit.{IsPost, ArePosted, IsInFlow, IsPlaceOfDevice, IsManned, IsJob, works_on, actors_on, workers_of, IsFirst, AreFirsts, Fit}
use Rattle.workers.specs.Room.{RoomAfterPart, room_of_jobs}
use Rattle.workers.specs.Grown.{JobsGrow, made_by}
use Rattle.workers.specs.Shifts.{IsAtRest, WorksOn, ComesTo, AttemptsJob, EndIsSo, WorksJob, KeepsJobs}
use Rattle.workers.specs.Shifts.{IsSomeEnd, NoneFull, NoneRefused, MadeNone}
use Rattle.workers.specs.Shifts.{EachEndedSo, worse, IsLowestFull, SumsUp, Ends}
use Rattle.workers.specs.Seen.{PostSeen, JobSeen, JobsSeen}
use Rattle.workers.specs.Tries.{IsIdle, rests_after}
use Rattle.workers.specs.Attempts.{StepsPost, KeepsPosts, IsRefusedOn, RestsInFlow, AttemptsCpu, IsDriven, AttemptsDriver}
use Rattle.workers.proofs.Flowing.{keeps_posts, post_now, refused_is_so}
use Rattle.workers.proofs.Growing.{posts_self, posts_more, jobs_grew}
use Rattle.workers.proofs.InFlow.{flow_by_own}
use Rattle.workers.proofs.Lists.{within, there_or, two}
use Rattle.workers.proofs.Rooms.{room_after, room_after_part, all_no_more, some_less}
use Rattle.workers.specs.Terms.{Terms}

comes : (terms : Terms) (board : BoardSeen) (j : JobSeen) (tried : Result (Option Entry) StepRefused)
    → (tried ≡ Ok None → IsAtRest board j j.actor) → IfErr tried (IsRefusedOn terms j) → ComesTo terms board j tried
comes terms board j (Ok (Some e)) rest refused = tt
comes terms board j (Ok None) rest refused = rest refl
comes terms board j (Err why) rest refused = refused

-- a pass that rests
idle_of : (lines : List LockSeen) (j : JobSeen) → ArePosted lines j → (i : ℕ) (s : PostSeen)
    → slice_get j.posts i ≡ Some s → s.rests ≡ true → IsIdle s.pass.def j.actor s.pass.knows
idle_of lines j posted i s at rests = by_line (slice_get lines (j.first + i)) (posted i s at)
  where
    by_line : (o : Option LockSeen) → IsSomeAnd o (λ l. IsPost l j.actor s) → IsIdle s.pass.def j.actor s.pass.knows
    by_line None is = absurd is
    by_line (Some l) is = subst (λ (d : LineDef). IsIdle d j.actor s.pass.knows) (sym is.of_line.1) (is.rests rests)

-- a pass with which a processor has a flow in progress by its own entries has seen that flow
flow_seen : (lines : List LockSeen) (j : JobSeen) → ArePosted lines j → (i : ℕ) (s : PostSeen) → slice_get j.posts i ≡ Some s
    → (c : CpuNo) → j.actor ≡ actors.Cpu c → IsInFlow s.pass.def c s.pass.knows → flow s.pass.def (reverse s.pass.knows.seen) ≡ Some c
flow_seen lines j posted i s at c is own = by_line (slice_get lines (j.first + i)) (posted i s at)
  where
    by_line : (o : Option LockSeen) → IsSomeAnd o (λ l. IsPost l j.actor s) → flow s.pass.def (reverse s.pass.knows.seen) ≡ Some c
    by_line None p = absurd p
    by_line (Some l) p =
        flow_by_own s.pass.def c s.pass.knows.seen s.pass.knows.mine (p.own ∙ ap (λ (a : Actor). placed a s.pass.knows.seen) is)
        (subst (λ (d : LineDef). IsLegal d s.pass.knows.seen) (sym p.of_line.1) p.legal) own

the_cpu : (a b : CpuNo) → actors.Cpu a ≡ actors.Cpu b → a ≡ b
the_cpu a b is = cc

module _ (terms : Terms) (board : BoardSeen) (lines : List LockSeen)
    (tried : Result (Option Entry) StepRefused) (old new : JobSeen) (job : IsJob board lines old) where
  manned_as : (a : Actor) → old.actor ≡ a → IsManned board lines old a
  manned_as a is = subst (λ (b : Actor). IsManned board lines old b) is job.manned

  worked : (k : KeepsPosts terms lines old new) (a : Actor) → old.actor ≡ a → IsManned board lines new a → WorksOn terms board lines old new
  worked k a is manned = record {
    actor = k.actor;
    first = k.first;
    as_many = k.as_many;
    job
        = record {
          posted = k.posted;
          manned = subst (λ (b : Actor). IsManned board lines new b) (sym (k.actor ∙ is))
              manned;
        };
    grew = k.grew;
  }

  pub thread_attempted : (dev : DevNo) → old.actor ≡ actors.Thread dev
      → StepsPost terms lines 0 tried old new → AttemptsJob terms board lines tried old new
  thread_attempted dev is s =
      record {
        works = worked k (actors.Thread dev) is (
          let l = k.as_many in let o = m.0 in
              omega (arith, l, o),
          subst (λ (n : ℕ). IsPlaceOfDevice board lines dev n) (sym k.first) m.1,
        );
        came = comes terms board new tried rest (refused_is_so terms lines 0 tried old new s);
        room = room_after terms lines 0 tried old new job.posted s;
      }
    where
      k : KeepsPosts terms lines old new
      k = keeps_posts terms lines 0 tried old new job.posted s

      m : IsManned board lines old (actors.Thread dev)
      m = manned_as (actors.Thread dev) is

      rest : tried ≡ Ok None → IsAtRest board new new.actor
      rest not = subst (λ (a : Actor). IsAtRest board new a) (sym (k.actor ∙ is)) each
        where
          each : (i : ℕ) (t : PostSeen) → slice_get new.posts i ≡ Some t → IsIdle t.pass.def (actors.Thread dev) t.pass.knows
          each i t at = elim (post_now terms lines 0 tried old new s i t at) [
            | inl here ↦
                subst (λ (a : Actor). IsIdle t.pass.def a t.pass.knows) (k.actor ∙ is)
                (idle_of lines new k.posted i t at (ap (λ (x : PostSeen). x.rests) here.1
                ∙ (s.rests ∙ ap rests_after not)))
            | inr other ↦ absurd (other.0 (let w = within new.posts i t at in let l = k.as_many in let o = m.0 in omega (arith, w, l, o)))
          ]

  pub cpu_attempted : (c : CpuNo) → old.actor ≡ actors.Cpu c → AttemptsCpu terms lines tried old new
      → AttemptsJob terms board lines tried old new
  cpu_attempted c is t =
      record {
        works = worked t.keeps (actors.Cpu c) is (t.keeps.first ∙ m.0, t.keeps.as_many ∙ m.1, t.flow, t.its);
        came = comes terms board new tried rest t.refused;
        room = t.room;
      }
    where
      m : IsManned board lines old (actors.Cpu c)
      m = manned_as (actors.Cpu c) is

      idle : (i : ℕ) (s : PostSeen) → slice_get new.posts i ≡ Some s → s.rests ≡ true → IsIdle s.pass.def (actors.Cpu c) s.pass.knows
      idle i s at rests = subst (λ (a : Actor). IsIdle s.pass.def a s.pass.knows) (t.keeps.actor ∙ is) (idle_of lines new t.keeps.posted i s at rests)

      rest : tried ≡ Ok None → IsAtRest board new new.actor
      rest not = subst (λ (a : Actor). IsAtRest board new a) (sym (t.keeps.actor ∙ is)) (elim (t.rests not) [
        | inl all ↦ inl (λ i s at. idle i s at (all i s at))
        | inr f ↦ inr (record { place = f.place; post = f.post; at = f.at; flow_is = in_flow f; idle = idle f.place f.post f.at f.rests })
      ])
        where
          in_flow : (f : RestsInFlow terms new) → flow f.post.pass.def (reverse f.post.pass.knows.seen) ≡ Some c
          in_flow f =
              let its = t.its f.place f.in_flow in
              let same : its.1 ≡ f.post = the_same its.1 f.post (sym its.3 ∙ f.at) in
              let cpu : its.0 ≡ c = the_cpu its.0 c (sym its.2 ∙ (t.keeps.actor ∙ is)) in
              flow_seen lines new t.keeps.posted f.place f.post f.at c (t.keeps.actor ∙ is)
              (subst (λ (x : CpuNo). IsInFlow f.post.pass.def x f.post.pass.knows) cpu
              (subst (λ (x : PostSeen). IsInFlow x.pass.def its.0 x.pass.knows) same its.4))

  pub driven : (r : DriverNo) → old.actor ≡ actors.Driver r → IsDriven board lines r old
  driven r is =
      let m = manned_as (actors.Driver r) is in
      record { actor = is; posted = job.posted; first = m.0; as_many = m.1; up_to = m.2; within = m.3 }

  pub job_driven : (r : DriverNo) → old.actor ≡ actors.Driver r → AttemptsDriver terms board lines r tried old new
      → AttemptsJob terms board lines tried old new
  job_driven r is t =
      let m = manned_as (actors.Driver r) is in
      record {
        works = worked t.keeps (actors.Driver r) is (t.keeps.first ∙ m.0, t.keeps.as_many ∙ m.1, t.up_to, t.within);
        came = comes terms board new tried (λ not. subst (λ (a : Actor). IsAtRest board new a) (sym (t.keeps.actor ∙ is)) (t.rests not)) t.refused;
        room = t.room;
      }

-- ---- how many more steps the worker may make

module _ (board : BoardSeen) (lines : List LockSeen) (now : JobSeen) (n : ℕ) where
  manned_left : (a : Actor) → IsManned board lines now a → IsManned board lines (record now { left = n }) a
  manned_left (actors.Thread dev) m = m
  manned_left (actors.Cpu c) m = m
  manned_left (actors.Driver r) m = m

  pub job_left : IsJob board lines now → IsJob board lines (record now { left = n })
  job_left j = record { posted = j.posted; manned = manned_left now.actor j.manned }

  pub works_left : (terms : Terms) (old : JobSeen) → WorksOn terms board lines old now → WorksOn terms board lines old (record now { left = n })
  works_left terms old w = record { actor = w.actor; first = w.first; as_many = w.as_many; job = job_left w.job; grew = w.grew }

  pub works_renewed : (terms : Terms) (new : JobSeen) → WorksOn terms board lines (record now { left = n }) new → WorksOn terms board lines now new
  works_renewed terms new w = record { actor = w.actor; first = w.first; as_many = w.as_many; job = w.job; grew = w.grew }

-- ---- one attempt after another

pub works_first : {terms : Terms} (board : BoardSeen) (lines : List LockSeen) (j : JobSeen) → IsJob board lines j → WorksOn terms board lines j j
works_first {terms} board lines j job = record { actor = refl; first = refl; as_many = refl; job = job; grew = posts_self terms.gave j.posts }

pub works_more : {terms : Terms} (board : BoardSeen) (lines : List LockSeen) (a b c : JobSeen)
    → WorksOn terms board lines a b → WorksOn terms board lines b c → WorksOn terms board lines a c
works_more {terms} board lines a b c v w =
    record {
      actor = w.actor ∙ v.actor;
      first = w.first ∙ v.first;
      as_many = w.as_many ∙ v.as_many;
      job = w.job;
      grew = posts_more terms.gave a.posts b.posts c.posts v.grew w.grew;
    }

module _ (board : BoardSeen) (lines : List LockSeen) (now : JobSeen) (end : Result Work StepRefused) where
  manned_ended : (a : Actor) → IsManned board lines now a → IsManned board lines (record now { end = end }) a
  manned_ended (actors.Thread dev) m = m
  manned_ended (actors.Cpu c) m = m
  manned_ended (actors.Driver r) m = m

  rest_ended : (a : Actor) → IsAtRest board now a → IsAtRest board (record now { end = end }) a
  rest_ended (actors.Thread dev) r = r
  rest_ended (actors.Cpu c) rest = elim rest [
    | inl all ↦ inl all
    | inr spins ↦ inr (record { place = spins.place; post = spins.post; at = spins.at; flow_is = spins.flow_is; idle = spins.idle })
  ]
  rest_ended (actors.Driver r) rest = elim rest [
    | inl past ↦ inl past
    | inr w ↦ inr (record {
      call = w.call;
      place = w.place;
      post = w.post;
      at_call = w.at_call;
      own = w.own;
      at_post
          = w.at_post;
      line = w.line;
      rests = w.rests;
    })
  ]

  end_so : (terms : Terms) (l : Result Work StepRefused) → EndIsSo terms board now l
      → EndIsSo terms board (record now { end = end }) l
  end_so terms (Ok works.Idle) is = rest_ended now.actor is
  end_so terms (Ok works.Busy) is = tt
  end_so terms (Err (refusals.Full line len)) is = record { place = is.place; post = is.post; at = is.at; number = is.number; is = is.is; log = is.log }
  end_so terms (Err refusals.NoMemory) is = record { place = is.place; post = is.post; at = is.at; is = is.is }

  pub job_ended : IsJob board lines now → IsJob board lines (record now { end = end })
  job_ended j = record { posted = j.posted; manned = manned_ended now.actor j.manned }

  pub ended_at : (terms : Terms) (old new : JobSeen) → WorksOn terms board lines old now
      → EndIsSo terms board now end → RoomAfterPart end old now → now.left + made_by now.posts ≤ made_by old.posts + 65536
      → new ≡ record now { end = end } → WorksJob terms board lines old new
  ended_at terms old new w is room few same =
      subst (λ (j : JobSeen). WorksJob terms board lines old j) (sym same)
      (record {
        works = record {
          actor = w.actor;
          first = w.first;
          as_many = w.as_many;
          job = job_ended w.job;
          grew = w.grew;
        };
        end
            = end_so terms end is;
        room = room_after_part end old now (record now { end = end }) refl room;
        few = few;
      })

-- ---- all jobs

module _ (terms : Terms) (board : BoardSeen) (lines : List LockSeen) where
  abbrev EachWorks : List JobSeen → List JobSeen → Type 0
  EachWorks old new = (k : ℕ) (d : JobSeen) → k < length old → WorksJob terms board lines (get_or old k d) (get_or new k d)

  later : (x y : JobSeen) (xs ys : List JobSeen) → EachWorks (x ∷ xs) (y ∷ ys) → EachWorks xs ys
  later x y xs ys each k d less = each (suc k) d (omega (arith, less))

  same_actors : (old new : List JobSeen) → length new ≡ length old → EachWorks old new → map (λ (j : JobSeen). j.actor) new ≡ map (λ (j : JobSeen). j.actor) old
  same_actors [] [] long each = refl
  same_actors [] (y ∷ ys) long each = absurd (omega (arith, long))
  same_actors (x ∷ xs) [] long each = absurd (omega (arith, long))
  same_actors (x ∷ xs) (y ∷ ys) long each =
      ap (λ (a : Actor). a ∷ map (λ (j : JobSeen). j.actor) ys) (each 0 x (omega arith)).works.actor
      ∙ ap (λ (rest : List Actor). x.actor ∷ rest) (same_actors xs ys (omega (arith, long)) (later x y xs ys each))

  same_on : (k : ℕ) (old new : List JobSeen) → length new ≡ length old → EachWorks old new → actors_on k new ≡ actors_on k old
  same_on k [] [] long each = refl
  same_on k [] (y ∷ ys) long each = absurd (omega (arith, long))
  same_on k (x ∷ xs) [] long each = absurd (omega (arith, long))
  same_on k (x ∷ xs) (y ∷ ys) long each =
      ap (λ (b : Bool). map (λ (j : JobSeen). j.actor) (cond b (y ∷ filter (works_on k) ys) (filter (works_on k) ys))) works_same
      ∙ by_test (works_on k x) (same_on k xs ys (omega (arith, long)) (later x y xs ys each))
    where
      w : WorksOn terms board lines x y
      w = (each 0 x (omega arith)).works

      works_same : works_on k y ≡ works_on k x
      works_same = ap (λ (n : ℕ). nat_le n k && nat_lt k (n + length y.posts)) w.first ∙ ap (λ (n : ℕ). nat_le x.first k && nat_lt k (x.first + n)) w.as_many

      by_test : (b : Bool) → actors_on k ys ≡ actors_on k xs
          → map (λ (j : JobSeen). j.actor) (cond b (y ∷ filter (works_on k) ys) (filter (works_on k) ys))
          ≡ map (λ (j : JobSeen). j.actor) (cond b (x ∷ filter (works_on k) xs) (filter (works_on k) xs))
      by_test true deeper = ap (λ (a : Actor). a ∷ actors_on k ys) w.actor ∙ ap (λ (rest : List Actor). x.actor ∷ rest) deeper
      by_test false deeper = deeper

  each_at : (old new : List JobSeen) → length new ≡ length old → EachWorks old new → (i : ℕ) (j : JobSeen)
      → slice_get new i ≡ Some j → IsJob board lines j × EndIsSo terms board j j.end
  each_at old new long each i j at =
      let less : i < length old = let w = within new i j at in omega (arith, w, long) in
      let e = each i j less in
      let is : get_or new i j ≡ j = the_same (get_or new i j) j (sym (there_or new i j (within new i j at)) ∙ at) in
      (subst (λ (x : JobSeen). IsJob board lines x) is e.works.job, subst (λ (x : JobSeen). EndIsSo terms board x x.end) is e.end)

-- the jobs fit after a shift, as they did
pub still_fit : (terms : Terms) (lines : List LockSeen) (old new : JobsSeen) → Fit lines old → new.board ≡ old.board
    → new.firsts ≡ old.firsts → length new.jobs ≡ length old.jobs → KeepsJobs terms old.board lines old.jobs new.jobs
    → Fit lines new
still_fit terms lines old new fit board firsts long each =
    record {
      defs = fit.defs ∙ ap defs_of (sym board);
      actors = subst (λ (b : BoardSeen). IsPermutation (workers_of b lines) (map (λ (j : JobSeen). j.actor) new.jobs)) (sym board)
          (subst (λ (ws : List Actor). IsPermutation (workers_of old.board lines) ws)
          (sym (same_actors terms old.board lines old.jobs new.jobs long each)) fit.actors);
      each = λ i j at. subst (λ (b : BoardSeen). IsJob b lines j) (sym board) (each_at terms old.board lines old.jobs new.jobs long each i j at).0;
      firsts = subst (λ (ps : List PassSeen). AreFirsts lines new.jobs ps) (sym firsts)
          (record {
            as_many = fit.firsts.as_many;
            each
                = λ k p at. subst (λ (whom : List Actor). IsSomeAnd (slice_get lines k) (λ l. IsFirst l whom p))
                (sym (same_on terms old.board lines k old.jobs new.jobs long each)) (fit.firsts.each k p at);
          });
    }

pub ended_after : (terms : Terms) (lines : List LockSeen) (board : BoardSeen)
    (old new : List JobSeen) → length new ≡ length old
    → KeepsJobs terms board lines old new → (i : ℕ) (j : JobSeen) → slice_get new i ≡ Some j → EndIsSo terms board j j.end
ended_after terms lines board old new long each i j at = (each_at terms board lines old new long each i j at).1

-- all of them may be worked on
pub all_jobs : (lines : List LockSeen) (s : JobsSeen) → Fit lines s → All (IsJob s.board lines) s.jobs
all_jobs lines s fit k d less = fit.each k (get_or s.jobs k d) (there_or s.jobs k d less)

-- ---- what is said of all jobs

-- a part that ended at a full line ended at no other
le_same : {end : Result Work StepRefused} {a b : LineNo} {m n : ℕ} → end ≡ Err (refusals.Full a m) → end ≡ Err (refusals.Full b n) → a.0 ≤ b.0
le_same {end} {a} {b} is other = let e : a ≡ b = cc in let f = ap (λ (l : LineNo). l.0) e in omega (arith, f)

-- one job more
module _ (jobs : List JobSeen) (n : ℕ) (job : JobSeen) (at : slice_get jobs n ≡ Some job) where
  more : {P : JobSeen → Type 0} → ((k : ℕ) (j : JobSeen) → k < n → slice_get jobs k ≡ Some j → P j) → P job
      → (k : ℕ) (j : JobSeen) → k < n + 1 → slice_get jobs k ≡ Some j → P j
  more {P} old here k j less at_j = elim (two k n less) [
    | inl before ↦ old k j before at_j
    | inr now ↦ subst P (the_same job j (sym at ∙ (ap (λ (i : ℕ). slice_get jobs i) (sym now) ∙ at_j))) here
  ]

  -- none found a full line, and this job neither
  none_more : NoneFull jobs n → ((other : LineNo) (len : ℕ) → job.end ≡ Err (refusals.Full other len) → ⊥) → NoneFull jobs (n + 1)
  none_more old here k j other len less at_j = more {P = λ x. (other : LineNo) (len : ℕ) → x.end ≡ Err (refusals.Full other len)
      → ⊥} (λ k j less at other len. old k j other len less at) here k j less at_j other len

  idle_none : ((k : ℕ) (j : JobSeen) → k < n → slice_get jobs k ≡ Some j → j.end ≡ Ok works.Idle) → NoneFull jobs n
  idle_none old k j other len less at_j is = let h : Ok works.Idle ≡ Err (refusals.Full other len) = sym (old k j less at_j) ∙ is in cc

  first_full : (b : LineNo) (m : ℕ) → job.end ≡ Err (refusals.Full b m) → NoneFull jobs n → IsLowestFull jobs (n + 1) b m
  first_full b m is none =
      record {
        place = n;
        job = job;
        at = at;
        end = is;
        lowest = λ k j other len less at_j. more {P = λ x. (other : LineNo) (len : ℕ) → x.end ≡ Err (refusals.Full other len)
            → b.0 ≤ other.0} (λ k j less at other len h. absurd (none k j other len less at h))
            (λ other len h. le_same is h) k j less at_j other len;
      }

  full_on : (a : LineNo) (m : ℕ) → IsLowestFull jobs n a m
      → ((other : LineNo) (len : ℕ) → job.end ≡ Err (refusals.Full other len) → a.0 ≤ other.0) → IsLowestFull jobs (n + 1) a m
  full_on a m f here =
      record {
        place = f.place;
        job = f.job;
        at = f.at;
        end = f.end;
        lowest = λ k j other len less at_j. more {P = λ x. (other : LineNo) (len : ℕ) → x.end ≡ Err (refusals.Full other len)
            → a.0 ≤ other.0} (λ k j less at other len. f.lowest k j other len less at) here k j less at_j other len;
      }

  lower_full : (a b : LineNo) (m l : ℕ) → b.0 < a.0 → job.end ≡ Err (refusals.Full b l) → IsLowestFull jobs n a m → IsLowestFull jobs (n + 1) b l
  lower_full a b m l less is f =
      record {
        place = n;
        job = job;
        at = at;
        end = is;
        lowest = λ k j other len before at_j. more {P = λ x. (other : LineNo) (len : ℕ) → x.end ≡ Err (refusals.Full other len) → b.0 ≤ other.0}
            (λ k j before at other len h. let g = f.lowest k j other len before at h in omega (arith, g, less))
            (λ other len h. le_same is h) k j before at_j other len;
      }

  no_full : (l : Result Work StepRefused) → job.end ≡ l → ((other : LineNo) (len : ℕ) → l ≡ Err (refusals.Full other len) → ⊥)
      → (other : LineNo) (len : ℕ) → job.end ≡ Err (refusals.Full other len) → ⊥
  no_full l is none other len h = none other len (sym is ∙ h)

  -- nobody was refused
  not_refused : NoneRefused jobs n → IsOk job.end → NoneRefused jobs (n + 1)
  not_refused old here = more {P = λ x. IsOk x.end} old here

  idle_not_refused : ((k : ℕ) (j : JobSeen) → k < n → slice_get jobs k ≡ Some j → j.end ≡ Ok works.Idle) → NoneRefused jobs n
  idle_not_refused old k j less at_j = ap is_ok (old k j less at_j)

  refused_not_full : NoneRefused jobs n → NoneFull jobs n
  refused_not_full old k j other len less at_j is = let h : false ≡ true = sym (ap is_ok is) ∙ old k j less at_j in cc

  some_here : (l : Result Work StepRefused) → job.end ≡ l → IsSomeEnd jobs (n + 1) l
  some_here l is = record { place = n; job = job; below = omega arith; at = at; is = is }

  some_before : (l : Result Work StepRefused) → IsSomeEnd jobs n l → IsSomeEnd jobs (n + 1) l
  some_before l s = record { place = s.place; job = s.job; below = let b = s.below in omega (arith, b); at = s.at; is = s.is }

  -- a full line and one more answer
  full_and : (a : LineNo) (m : ℕ) (l : Result Work StepRefused) → job.end ≡ l
      → ((other : LineNo) (len : ℕ) → l ≡ Err (refusals.Full other len) → ⊥) → IsLowestFull jobs n a m → IsLowestFull jobs (n + 1) a m
  full_and a m l is none f = full_on a m f (λ other len h. absurd (no_full l is none other len h))

  pub sums_more : (all l : Result Work StepRefused) → job.end ≡ l → SumsUp jobs n all → SumsUp jobs (n + 1) (worse all l)
  sums_more (Err (refusals.Full a m)) (Err (refusals.Full b k)) is f = by_test (nat_lt b.0 a.0) refl
    where
      by_test : (t : Bool) → nat_lt b.0 a.0 ≡ t
          → SumsUp jobs (n + 1) (Err (cond t (refusals.Full b k) (refusals.Full a m)))
      by_test true less = lower_full a b m k (ltb-true b.0 a.0 less) is f
      by_test false not = full_on a m f (λ other len h. let le = ltb-false b.0 a.0 not in let same = le_same is h in omega (arith, le, same))
  sums_more (Err (refusals.Full a m)) (Err refusals.NoMemory) is f = full_and a m (Err refusals.NoMemory) is (λ o k g. cc) f
  sums_more (Err (refusals.Full a m)) (Ok work) is f = full_and a m (Ok work) is (λ o k g. cc) f
  sums_more (Err refusals.NoMemory) (Err (refusals.Full b k)) is f = first_full b k is f.1
  sums_more (Err refusals.NoMemory) (Err refusals.NoMemory) is f =
      (some_before (Err refusals.NoMemory) f.0, none_more f.1 (no_full (Err refusals.NoMemory) is (λ o k g. cc)))
  sums_more (Err refusals.NoMemory) (Ok work) is f = (some_before (Err refusals.NoMemory) f.0, none_more f.1 (no_full (Ok work) is (λ o k g. cc)))
  sums_more (Ok works.Idle) (Err (refusals.Full b k)) is f = first_full b k is (idle_none f)
  sums_more (Ok works.Idle) (Err refusals.NoMemory) is f =
      (some_here (Err refusals.NoMemory) is, none_more (idle_none f) (no_full (Err refusals.NoMemory) is (λ o k g. cc)))
  sums_more (Ok works.Idle) (Ok works.Idle) is f = more {P = λ x. x.end ≡ Ok works.Idle} f is
  sums_more (Ok works.Idle) (Ok works.Busy) is f = (some_here (Ok works.Busy) is, not_refused (idle_not_refused f) (ap is_ok is))
  sums_more (Ok works.Busy) (Err (refusals.Full b k)) is f = first_full b k is (refused_not_full f.1)
  sums_more (Ok works.Busy) (Err refusals.NoMemory) is f =
      (some_here (Err refusals.NoMemory) is, none_more (refused_not_full f.1) (no_full (Err refusals.NoMemory) is (λ o k g. cc)))
  sums_more (Ok works.Busy) (Ok work) is f = (some_before (Ok works.Busy) f.0, not_refused f.1 (ap is_ok is))

-- ---- how shifts end

module _ (terms : Terms) (s : JobsSeen) (end : EachEndedSo terms s) where
  pub quiet : SumsUp s.jobs (length s.jobs) (Ok works.Idle) → Ends terms s (Ok tt)
  quiet all i j at = subst (λ (l : Result Work StepRefused). EndIsSo terms s.board j l) (all i j (within s.jobs i j at) at) (end i j at)

  pub refused_for : (refused : StepRefused) → SumsUp s.jobs (length s.jobs) (Err refused) → Ends terms s (Err refused)
  refused_for (refusals.Full line len) f =
      record {
        place = f.place;
        job = f.job;
        at = f.at;
        is = subst (λ (l : Result Work StepRefused). EndIsSo terms s.board f.job l) f.end (end f.place f.job f.at);
        lowest = λ k j other m at is. f.lowest k j other m (within s.jobs k j at) at is;
      }
  refused_for refusals.NoMemory f =
      record {
        place = f.0.place;
        job = f.0.job;
        at = f.0.at;
        is = subst (λ (l : Result Work StepRefused). EndIsSo terms s.board f.0.job l) f.0.is (end f.0.place f.0.job f.0.at);
        none_full = f.1;
      }

-- ---- one shift, as the code has it

-- A shift of all jobs: the board and the first passes stay, and each job works.
pub record OneShift (terms : Terms) (lines : List LockSeen) (old new : JobsSeen) : Type 0 where
  pub fit : Fit lines old
  pub board : new.board ≡ old.board
  pub firsts : new.firsts ≡ old.firsts
  pub as_many : length new.jobs ≡ length old.jobs
  pub keeps : KeepsJobs terms old.board lines old.jobs new.jobs

-- the code's own jobs, board and first passes, `inside`, where a shift begins, and the slice of the jobs, `here`
module _ {lines : List LockSeen} {inside old : JobsSeen} (fit : Fit lines old) (is : inside ≡ old)
    {here : List JobSeen} (here_is : here ≡ inside.jobs) where
  jobs_are : here ≡ old.jobs
  jobs_are = here_is ∙ ap (λ (x : JobsSeen). x.jobs) is

  pub shift_may : All (IsJob inside.board lines) here
  shift_may = subst (λ (b : BoardSeen). All (IsJob b lines) here) (ap (λ (x : JobsSeen). x.board) (sym is))
      (subst (λ (js : List JobSeen). All (IsJob old.board lines) js) (sym jobs_are) (all_jobs lines old fit))

  -- the jobs `new` that it leaves, once they stand in the list again
  pub one_shift : (terms : Terms) {new after : List JobSeen} → length new ≡ length here
      → KeepsJobs terms inside.board lines here new → after ≡ new → OneShift terms lines old (record inside { jobs = after })
  one_shift terms {new} {after} long keeps back =
      record {
        fit = fit;
        board = ap (λ (x : JobsSeen). x.board) is;
        firsts = ap (λ (x : JobsSeen). x.firsts) is;
        as_many = ap (λ (js : List JobSeen). length js) back ∙ (long ∙ ap (λ (js : List JobSeen). length js) jobs_are);
        keeps = subst (λ (js : List JobSeen). KeepsJobs terms old.board lines old.jobs js) (sym back)
            (subst (λ (js : List JobSeen). KeepsJobs terms old.board lines js new) jobs_are
            (subst (λ (b : BoardSeen). KeepsJobs terms b lines here new) (ap (λ (x : JobsSeen). x.board) is) keeps));
      }

module _ {terms : Terms} {lines : List LockSeen} {old new : JobsSeen} (s : OneShift terms lines old new) where
  pub shift_fit : Fit lines new
  shift_fit = still_fit terms lines old new s.fit s.board s.firsts s.as_many s.keeps

  pub shift_ended : EachEndedSo terms new
  shift_ended i j at = subst (λ (b : BoardSeen). EndIsSo terms b j j.end) (sym s.board)
      (ended_after terms lines old.board old.jobs new.jobs s.as_many s.keeps i j at)

  pub shift_room : room_of_jobs new.jobs ≤ room_of_jobs old.jobs
  shift_room = all_no_more old.jobs new.jobs s.as_many (λ k d less. (s.keeps k d less).room)

  pub shift_busy : SumsUp new.jobs (length new.jobs) (Ok works.Busy) → room_of_jobs new.jobs < room_of_jobs old.jobs
  shift_busy f = some_less old.jobs new.jobs f.0.place f.0.job s.as_many (λ k d less. (s.keeps k d less).room) f.0.at f.0.is

  pub shift_grew : JobsGrow terms.gave old.jobs new.jobs
  shift_grew = jobs_grew old.jobs new.jobs s.as_many (λ k d less. let v = (s.keeps k d less).works in
      record { actor = v.actor; first = v.first; as_many = v.as_many; posts = v.grew })

  pub shift_idle : SumsUp new.jobs (length new.jobs) (Ok works.Idle) → MadeNone old.jobs new.jobs
  shift_idle all k d less =
      let n = s.as_many in
      let here : k < length new.jobs = omega (arith, less, n) in
      (subst (λ (l : Result Work StepRefused). RoomAfterPart l (get_or old.jobs k d) (get_or new.jobs k d))
      (all k (get_or new.jobs k d) here (there_or new.jobs k d here)) (s.keeps k d less).room).1

pub whole_again : {A : Type 0} (n : ℕ) (xs ys : List A) → n ≡ length xs → take n (xs ++ drop (length xs) ys) ≡ xs
whole_again n xs ys is = ap (λ (k : ℕ). take k (xs ++ drop (length xs) ys)) is ∙ front xs (drop (length xs) ys)
  where
    front : {A : Type 0} (as_is rest : List A) → take (length as_is) (as_is ++ rest) ≡ as_is
    front [] rest = nothing rest
      where
        nothing : {A : Type 0} (zs : List A) → take 0 zs ≡ []
        nothing [] = refl
        nothing (z ∷ zs) = refl
    front (x ∷ xs) rest = ap (λ (zs : List _). x ∷ zs) (front xs rest)
