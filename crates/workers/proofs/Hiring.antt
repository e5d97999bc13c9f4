-- One more job.
use Rattle.std.proofs.Common.{◌≡◌, ℕ, suc, ◌+◌, ◌<◌, ◌≤◌, inl, inr, Bool, true, false, ◌&&◌, cond, nat_le, nat_lt, Ok}
use Rattle.std.proofs.Common.{IsSomeAnd, Option, Some, None, List, [], ◌∷◌, ◌++◌, map, filter, take, length, get_or}
use Rattle.std.proofs.Common.{slice_get, IsPermutation, refl, sym, ap, ◌∙◌, subst, arith}
use Rattle.workers.specs.declared.job.Work.TheVariants as works
use Rattle.irq_base.specs.declared.devices.DeviceDef.{DeviceDef}
use Rattle.irq_base.specs.declared.entries.Actor.{Actor}
use Rattle.irq_base.specs.declared.entries.Actor.TheVariants as actors
use Rattle.irq_base.specs.declared.entries.Entry.{Entry}
use Rattle.irq_base.specs.declared.numbers.DriverNo.{DriverNo}
use Rattle.irq_base.specs.declared.numbers.LineNo.{LineNo}
use Rattle.irq_model.specs.Kinds.{same_actor}
use Rattle.irq_model.specs.Due.{calls_by, due_call}
use Rattle.irq_model.specs.Legal.{IsLegal}
use Rattle.irq_model.specs.Rounds.{has_flow}
use Rattle.irq_laws.proofs.Lists.{both_ways}
use Rattle.irq_laws.proofs.Progress.{fresh}
use Rattle.board_def.specs.Rules.{find_device}
use Rattle.board_def.specs.Seen.{BoardSeen}
use Rattle.board_def.specs.declared.rows.ScriptCall.{ScriptCall}
use Rattle.board_play.specs.Current.{calls_on}
use Rattle.board_play.specs.Kept.{IsUpTo}
use Rattle.board_play.specs.Lines.{BoardLine}
use Rattle.board_play.proofs.Counting.{completed, none_complete}
use Rattle.line_lock.specs.Knows.{is_among}
use Rattle.line_lock.specs.Passes.{LockSeen, PassSeen}
use Rattle.line_lock.specs.Placed.{placed}
use Rattle.line_lock.specs.declared.view.Known.{Known}
use Rattle.line_lock.specs.declared.view.Placed.{Placed}
use Rattle.workers.specs.Fit.{IsPlaceOf, IsPlaceOfDevice, IsPost, ArePosted, own_past, own_line, own_lines, IsManned, IsJob, works_on}
use Rattle.workers.specs.Fit.{actors_on, IsFirst, AreFirsts, workers_of, Fit}
use Rattle.workers.specs.Forks.{CanFork, IsLeft, is_within, Forks, IsSpan, AreBoards, Hires}
use Rattle.workers.specs.Grown.{IsNewJob, HaveSeenNothing, AreNew}
use Rattle.workers.specs.Seen.{PostSeen, JobSeen, JobsSeen}
use Rattle.workers.proofs.Lists.{of_map, within, at_snoc, there_or}
use Rattle.workers.proofs.Manning.{map_more, taken, all_taken}

-- ---- when nothing was made yet

pub nothing_made : (calls : List ScriptCall) (lines : List BoardLine) (r : DriverNo)
    → ((i : ℕ) (x : BoardLine) → slice_get lines i ≡ Some x → x.past ≡ []) → IsUpTo calls lines r 0
nothing_made calls lines r none =
    record {
      complete = λ i x at. ap (λ (past : List Entry). completed x.def r past) (none i x at)
          ∙ (none_complete x.def r ∙ sym (ap (λ (cs : List ScriptCall). calls_on x.def.line r cs)
          (nothing_taken calls)));
      begun = λ i x c n at due. absurd (let z = fresh (calls_by r x.def.calls) c (suc n)
          (ap (λ (past : List Entry). due_call x.def r past) (sym (none i x at)) ∙ due) in omega (arith, z));
    }
  where
    nothing_taken : (cs : List ScriptCall) → take 0 cs ≡ []
    nothing_taken [] = refl
    nothing_taken (c ∷ cs) = refl

pub actors_more_on : (k : ℕ) (jobs : List JobSeen) (j : JobSeen)
    → actors_on k (jobs ++ j ∷ []) ≡ cond (works_on k j) (actors_on k jobs ++ j.actor ∷ []) (actors_on k jobs)
actors_more_on k [] j = by_test (works_on k j)
  where
    by_test : (b : Bool) → map (λ (x : JobSeen). x.actor) (cond b (j ∷ []) []) ≡ cond b ([] ++ j.actor ∷ []) []
    by_test true = refl
    by_test false = refl
actors_more_on k (x ∷ xs) j = by_test (works_on k x) (works_on k j) (actors_more_on k xs j)
  where
    by_test : (b d : Bool) → actors_on k (xs ++ j ∷ []) ≡ cond d (actors_on k xs ++ j.actor ∷ []) (actors_on k xs)
        → map (λ (x : JobSeen). x.actor) (cond b (x ∷ filter (works_on k) (xs ++ j ∷ [])) (filter (works_on k) (xs ++ j ∷ [])))
        ≡ cond d (map (λ (x : JobSeen). x.actor) (cond b (x ∷ filter (works_on k) xs) (filter (works_on k) xs))
        ++ j.actor ∷ []) (map (λ (x : JobSeen). x.actor)
        (cond b (x ∷ filter (works_on k) xs) (filter (works_on k) xs)))
    by_test true true deeper = ap (λ (ws : List Actor). x.actor ∷ ws) deeper
    by_test true false deeper = ap (λ (ws : List Actor). x.actor ∷ ws) deeper
    by_test false true deeper = deeper
    by_test false false deeper = deeper

module _ (board : BoardSeen) (lines : List LockSeen) (who : Actor) (first end : ℕ) (old new : List PassSeen)
    (posts : List PostSeen) (f : Forks lines first end who old new posts) where
  posted : (j : JobSeen) → j.actor ≡ who → j.first ≡ first → j.posts ≡ posts → HaveSeenNothing old → ArePosted lines j
  posted j actor from are nothing i s at =
      let k = f.each i s (ap (λ (ss : List PostSeen). slice_get ss i) (sym are) ∙ at) in
      let fork = k.4 in
      let none : s.pass.knows.seen ≡ [] = ap (λ (x : Known). x.seen) fork.knows ∙ nothing (first + i) k.1 k.3 in
      subst (λ (o : Option LockSeen). IsSomeAnd o (λ l. IsPost l j.actor s)) (sym (ap (λ (n : ℕ). slice_get lines (n + i)) from ∙ k.2))
      (record {
        of_line = fork.of_line;
        idle = fork.idle;
        actor = ap (λ (x : Known). x.actor) fork.knows ∙ ap (λ (a : Actor). Some a) (sym actor);
        legal = subst (λ (h : List Entry). IsLegal k.0.def h) (sym none) tt;
        own = ap (λ (x : Known). x.mine) fork.knows ∙ ap (λ (h : List Entry). placed j.actor h) (sym none);
        rests = λ h. both_ways s.rests h fork.rests;
      })

  nothing_own : (i : ℕ) (s : PostSeen) → slice_get posts i ≡ Some s → s.pass.knows.mine ≡ []
  nothing_own i s at = ap (λ (x : Known). x.mine) (f.each i s at).4.knows

  no_flow : (i : ℕ) (s : PostSeen) → slice_get posts i ≡ Some s → has_flow s.pass.def (own_past s.pass.knows.mine) ≡ false
  no_flow i s at = ap (λ (mine : List Placed). has_flow s.pass.def (own_past mine)) (nothing_own i s at)

  up_to : (r : DriverNo) → IsUpTo board.calls (own_lines posts) r 0
  up_to r =
      nothing_made board.calls (own_lines posts) r
      (λ i x at. let s = of_map own_line posts i x at in ap (λ (y : BoardLine). y.past) (sym s.2) ∙ ap own_past (nothing_own i s.0 s.1))

  no_place : (i : ℕ) → None ≡ Some i → ⊥
  no_place i is = cc

  manned : (j : JobSeen) → j.first ≡ first → j.posts ≡ posts → j.flow ≡ None → j.at ≡ 0
      → (a : Actor) → IsSpan board lines a first end → IsManned board lines j a
  manned j from are none at (actors.Thread dev) span = (
    let n = f.count in let m = span.1 in let l = ap (λ (ss : List PostSeen). length ss) are in
        omega (arith, n, m, l),
    subst (λ (k : ℕ). IsPlaceOfDevice board lines dev k) (sym from) span.0,
  )
  manned j from are none at (actors.Cpu c) span = (
    from ∙ span.0,
    (let n = f.count in let z = span.0 in let e = span.1 in let l = ap (λ (ss : List PostSeen). length ss) are in omega (arith, n, z, e, l)),
    λ i s there not. no_flow i s (ap (λ (ss : List PostSeen). slice_get ss i) (sym are) ∙ there),
    λ i is. absurd (no_place i (sym none ∙ is)),
  )
  manned j from are none at (actors.Driver r) span = (
    from ∙ span.0,
    (let n = f.count in let z = span.0 in let e = span.1 in let l = ap (λ (ss : List PostSeen). length ss) are in omega (arith, n, z, e, l)),
    subst (λ (n : ℕ). IsUpTo board.calls (own_lines j.posts) r n) (sym at)
        (subst (λ (ss : List PostSeen). IsUpTo board.calls (own_lines ss) r 0) (sym are) (up_to r)),
    omega (arith, at),
  )

  pub new_job : (j : JobSeen) → j.actor ≡ who → j.first ≡ first → j.posts ≡ posts → j.flow ≡ None → j.at ≡ 0 → IsSpan board lines who first end
      → HaveSeenNothing old → IsJob board lines j
  new_job j actor from are none at span nothing = record {
    posted = posted j actor from are nothing;
    manned
        = manned j from are none at j.actor (subst (λ (a : Actor). IsSpan board lines a first end) (sym actor) span);
  }

  -- ---- the first passes

  pub new_firsts : (jobs : List JobSeen) (j : JobSeen) → j.actor ≡ who → j.first ≡ first → j.posts ≡ posts
      → AreFirsts lines jobs old → AreFirsts lines (jobs ++ j ∷ []) new
  new_firsts jobs j actor from are firsts = record { as_many = f.as_many ∙ firsts.as_many; each = each }
    where
      works : (k : ℕ) → works_on k j ≡ is_within first end k
      works k =
          ap (λ (n : ℕ). nat_le n k && nat_lt k (n + length j.posts)) from
          ∙ ap (λ (n : ℕ). nat_le first k && nat_lt k n) (ap (λ (ss : List PostSeen). first + length ss) are ∙ f.count)

      later : (k : ℕ) (b : Bool) (l : LockSeen) (q p : PassSeen)
          → actors_on k (jobs ++ j ∷ []) ≡ cond b (actors_on k jobs ++ who ∷ []) (actors_on k jobs) → IsLeft b who q p
          → IsFirst l (actors_on k jobs) q → IsFirst l (actors_on k (jobs ++ j ∷ [])) p
      later k true l q p whom gave is =
          record {
            of_line = (gave.table ∙ is.of_line.0, gave.def ∙ is.of_line.1);
            idle = gave.idle;
            actor = ap (λ (x : Known). x.actor) gave.knows ∙ is.actor;
            nothing = ap (λ (x : Known). x.seen) gave.knows ∙ is.nothing;
            given = ap (λ (x : Known). x.given) gave.knows ∙ (ap (λ (ws : List Actor). ws ++ who ∷ []) is.given ∙ sym whom);
            out = ap (λ (x : Known). x.out) gave.knows ∙ (ap (λ (ws : List Actor). ws ++ who ∷ []) is.out ∙ sym whom);
          }
      later k false l q p whom same is = subst (λ (ws : List Actor). IsFirst l ws p) (sym whom)
          (subst (λ (x : PassSeen). IsFirst l (actors_on k jobs) x) (sym same) is)

      whom : (k : ℕ) → actors_on k (jobs ++ j ∷ []) ≡ cond (is_within first end k) (actors_on k jobs ++ who ∷ []) (actors_on k jobs)
      whom k = actors_more_on k jobs j ∙ (ap (λ (b : Bool). cond b (actors_on k jobs ++ j.actor ∷ [])
          (actors_on k jobs)) (works k) ∙ ap (λ (a : Actor). cond (is_within first end k) (actors_on k jobs ++ a ∷ [])
          (actors_on k jobs)) actor)

      some_later : (k : ℕ) (q p : PassSeen) (o : Option LockSeen) → IsLeft (is_within first end k) who q p
          → IsSomeAnd o (λ l. IsFirst l (actors_on k jobs) q)
          → IsSomeAnd o (λ l. IsFirst l (actors_on k (jobs ++ j ∷ [])) p)
      some_later k q p None left is = absurd is
      some_later k q p (Some l) left is = later k (is_within first end k) l q p (whom k) left is

      each : (k : ℕ) (p : PassSeen) → slice_get new k ≡ Some p → IsSomeAnd (slice_get lines k) (λ l. IsFirst l (actors_on k (jobs ++ j ∷ [])) p)
      each k p at = let q = f.left k p at in some_later k q.0 p (slice_get lines k) q.2 (firsts.each k q.0 q.1)

pub have_seen_nothing : (lines : List LockSeen) (jobs : List JobSeen) (firsts : List PassSeen) → AreFirsts lines jobs firsts → HaveSeenNothing firsts
have_seen_nothing lines jobs firsts are k p at = by_line (slice_get lines k) (are.each k p at)
  where
    by_line : (o : Option LockSeen) → IsSomeAnd o (λ l. IsFirst l (actors_on k jobs) p) → p.knows.seen ≡ []
    by_line None is = absurd is
    by_line (Some l) is = is.nothing

-- a first pass can give one to an actor that has none
pub can_give : (lines : List LockSeen) (jobs : List JobSeen) (firsts : List PassSeen) (who : Actor)
    → AreFirsts lines jobs firsts → ((k : ℕ) → is_among who (actors_on k jobs) ≡ false)
    → (k : ℕ) (p : PassSeen) → slice_get firsts k ≡ Some p → IsSomeAnd (slice_get lines k) (λ l. CanFork l who p)
can_give lines jobs firsts who are new k p at = by_line (slice_get lines k) (are.each k p at)
  where
    by_line : (o : Option LockSeen) → IsSomeAnd o (λ l. IsFirst l (actors_on k jobs) p) → IsSomeAnd o (λ l. CanFork l who p)
    by_line None is = absurd is
    by_line (Some l) is = record { of_line = is.of_line; idle = is.idle; first = is.actor; fresh = ap (is_among who) is.given ∙ new k }

-- who has no job works on no line
pub nowhere_on : (who : Actor) (k : ℕ) (jobs : List JobSeen)
    → is_among who (map (λ (j : JobSeen). j.actor) jobs) ≡ false → is_among who (actors_on k jobs) ≡ false
nowhere_on who k [] not = refl
nowhere_on who k (j ∷ js) not = by_tests (works_on k j) (same_actor who j.actor) not (λ h. nowhere_on who k js h) refl
  where
    by_tests : (b t : Bool) → cond t true (is_among who (map (λ (j : JobSeen). j.actor) js)) ≡ false
        → (is_among who (map (λ (j : JobSeen). j.actor) js) ≡ false → is_among who (actors_on k js) ≡ false)
        → same_actor who j.actor ≡ t → is_among who (map (λ (j : JobSeen). j.actor) (cond b (j ∷ filter (works_on k) js) (filter (works_on k) js))) ≡ false
    by_tests b true not deeper is = cc
    by_tests true false not deeper is = ap (λ (t : Bool). cond t true (is_among who (actors_on k js))) is ∙ deeper not
    by_tests false false not deeper is = deeper not

-- the places of an actor's lines are places of lines
pub span_range : (board : BoardSeen) (lines : List LockSeen) (a : Actor) (first end : ℕ) → IsSpan board lines a first end
    → (first ≤ end) × (end ≤ length lines)
span_range board lines (actors.Thread dev) first end span =
    (let e = span.1 in omega (arith, e), let e = span.1 in let w = there (find_device board.devices dev) span.0 in omega (arith, e, w))
  where
    below : (line : LineNo) (o : Option LockSeen) → slice_get lines first ≡ o → IsSomeAnd o (λ l. l.def.line ≡ line) → first < length lines
    below line None at is = absurd is
    below line (Some l) at is = within lines first l at

    there : (o : Option DeviceDef) → IsSomeAnd o (λ x. IsPlaceOf lines x.line (Some first)) → first < length lines
    there None is = absurd is
    there (Some x) is = below x.line (slice_get lines first) refl is
span_range board lines (actors.Cpu c) first end span = (let z = span.0 in omega (arith, z), let e = span.1 in omega (arith, e))
span_range board lines (actors.Driver r) first end span = (let z = span.0 in omega (arith, z), let e = span.1 in omega (arith, e))

-- the job of an actor that joined is new, and so are the first passes
module _ (lines : List LockSeen) (who : Actor) (first end : ℕ) (old new : List PassSeen) (posts : List PostSeen)
    (f : Forks lines first end who old new posts) (nothing : HaveSeenNothing old) where
  new_posts : (i : ℕ) (s : PostSeen) → slice_get posts i ≡ Some s → (s.pass.knows.seen ≡ []) × (s.pass.knows.mine ≡ [])
  new_posts i s at =
      let k = f.each i s at in
      (ap (λ (x : Known). x.seen) k.4.knows ∙ nothing (first + i) k.1 k.3, ap (λ (x : Known). x.mine) k.4.knows)

  new_left : (b : Bool) (q p : PassSeen) → IsLeft b who q p → q.knows.seen ≡ [] → p.knows.seen ≡ []
  new_left true q p gave none = ap (λ (x : Known). x.seen) gave.knows ∙ none
  new_left false q p same none = ap (λ (x : PassSeen). x.knows.seen) same ∙ none

  pub nothing_seen : HaveSeenNothing new
  nothing_seen k p at = let q = f.left k p at in new_left (is_within first end k) q.0 p q.2 (nothing k q.0 q.1)

  pub new_with : (jobs after : List JobSeen) (j : JobSeen) → after ≡ jobs ++ j ∷ [] → j.posts ≡ posts → j.flow ≡ None → j.at ≡ 0
      → ((i : ℕ) (x : JobSeen) → slice_get jobs i ≡ Some x → IsNewJob x) → (i : ℕ) (x : JobSeen) → slice_get after i ≡ Some x → IsNewJob x
  new_with jobs after j grown are none zero each i x at =
      elim (at_snoc jobs j i x (ap (λ (js : List JobSeen). slice_get js i) (sym grown) ∙ at)) [
        | inl before ↦ each i x before
        | inr now ↦ subst IsNewJob now.1
            (record {
              flow = none;
              at = zero;
              posts = λ k s at_k. new_posts k s (ap (λ (ss : List PostSeen). slice_get ss k) (sym are) ∙ at_k);
            })
      ]

-- the jobs of the first actors of the crew
pub record AreHired (board : BoardSeen) (lines : List LockSeen) (crew : List Actor) (i : ℕ) (s : JobsSeen) : Type 0 where
  pub same : s.board ≡ board
  pub actors : map (λ (j : JobSeen). j.actor) s.jobs ≡ take i crew
  pub each : (k : ℕ) (j : JobSeen) → slice_get s.jobs k ≡ Some j → IsJob board lines j
  pub firsts : AreFirsts lines s.jobs s.firsts
  pub new : AreNew s

pub hired_more : (board : BoardSeen) (lines : List LockSeen) (crew : List Actor) (i : ℕ) (a : Actor)
    (old new : JobsSeen) → AreHired board lines crew i old → slice_get crew i ≡ Some a → new.board ≡ old.board
    → Hires lines a old new → (AreNew old → AreNew new) → AreHired board lines crew (i + 1) new
hired_more board lines crew i a old new is at same h news =
    record {
      same = same ∙ is.same;
      actors = ap (map (λ (j : JobSeen). j.actor)) h.jobs
          ∙ (map_more (λ (j : JobSeen). j.actor) old.jobs h.job
          ∙ (ap (λ (x : Actor). map (λ (j : JobSeen). j.actor) old.jobs ++ x ∷ []) h.actor
          ∙ (ap (λ (ws : List Actor). ws ++ a ∷ []) is.actors ∙ sym (taken crew i a at))));
      each = each;
      firsts = h.firsts;
      new = news is.new;
    }
  where
    each : (k : ℕ) (j : JobSeen) → slice_get new.jobs k ≡ Some j → IsJob board lines j
    each k j at_j = elim (at_snoc old.jobs h.job k j (ap (λ (js : List JobSeen). slice_get js k) (sym h.jobs) ∙ at_j)) [
      | inl before ↦ is.each k j before
      | inr now ↦ subst (λ (x : JobSeen). IsJob board lines x) now.1 (subst (λ (b : BoardSeen). IsJob b lines h.job) is.same h.is)
    ]

pub all_hired : (board : BoardSeen) (lines : List LockSeen) (crew : List Actor) (i : ℕ) (s : JobsSeen)
    → AreBoards board lines → IsPermutation (workers_of board lines) crew → AreHired board lines crew i s
    → length crew ≤ i → Fit lines s
all_hired board lines crew i s defs dealt is end =
    subst (λ (b : BoardSeen). Fit lines (record s { board = b })) (sym is.same)
    (record {
      defs = defs;
      actors = subst (IsPermutation (workers_of board lines)) (sym (is.actors ∙ all_taken crew i end)) dealt;
      each = is.each;
      firsts = is.firsts;
    })

-- ---- the same, as the code has it

pub can_give_at : (lines here : List LockSeen) (s : JobsSeen) (firsts : List PassSeen) (who : Actor) → here ≡ lines
    → firsts ≡ s.firsts → AreFirsts lines s.jobs s.firsts → ((k : ℕ) → is_among who (actors_on k s.jobs) ≡ false)
    → (k : ℕ) (p : PassSeen) → slice_get firsts k ≡ Some p → IsSomeAnd (slice_get here k) (λ l. CanFork l who p)
can_give_at lines here s firsts who same are is new k p at =
    subst (λ (ls : List LockSeen). IsSomeAnd (slice_get ls k) (λ l. CanFork l who p)) (sym same)
    (can_give lines s.jobs s.firsts who is new k p (ap (λ (ps : List PassSeen). slice_get ps k) (sym are) ∙ at))

pub hires_one : (lines here : List LockSeen) (s : JobsSeen) (board : BoardSeen) (jobs : List JobSeen)
    (firsts new : List PassSeen) (who : Actor) (first end : ℕ) (posts : List PostSeen)
    → here ≡ lines → record { board = board; jobs = jobs; firsts = firsts } ≡ s → AreFirsts lines s.jobs s.firsts
    → IsSpan board lines who first end → Forks here first end who firsts new posts
    → (after : List JobSeen) → after ≡ jobs ++ record { actor = who; first = first; posts = posts; flow = None; at = 0; left = 0; end = Ok works.Idle } ∷ []
    → Hires lines who s (record { board = board; jobs = after; firsts = new })
hires_one lines here s board jobs firsts new who first end posts same is are span f after grown =
    let j : JobSeen = record { actor = who; first = first; posts = posts; flow = None; at = 0; left = 0; end = Ok works.Idle } in
    let forks : Forks lines first end who firsts new posts = subst (λ (ls : List LockSeen). Forks ls first end who firsts new posts) same f in
    record {
      job = j;
      jobs = grown ∙ ap (λ (x : JobsSeen). x.jobs ++ j ∷ []) is;
      actor = refl;
      is = new_job s.board lines who first end firsts new posts forks j refl refl refl refl refl
          (subst (λ (b : BoardSeen). IsSpan b lines who first end) (ap (λ (x : JobsSeen). x.board) is) span)
          (subst HaveSeenNothing (ap (λ (x : JobsSeen). x.firsts) (sym is)) (have_seen_nothing lines s.jobs s.firsts are));
      firsts = subst (λ (js : List JobSeen). AreFirsts lines js new) (sym grown)
          (new_firsts s.board lines who first end firsts new posts forks jobs j refl refl refl
          (subst (λ (js : List JobSeen). AreFirsts lines js firsts) (ap (λ (x : JobsSeen). x.jobs) (sym is))
          (subst (λ (ps : List PassSeen). AreFirsts lines s.jobs ps) (ap (λ (x : JobsSeen). x.firsts) (sym is))
          are)));
    }

pub new_one : (lines here : List LockSeen) (s : JobsSeen) (board : BoardSeen) (jobs : List JobSeen) (firsts new : List PassSeen)
    (who : Actor) (first end : ℕ) (posts : List PostSeen) → record { board = board; jobs = jobs; firsts = firsts } ≡ s
    → Forks here first end who firsts new posts → (after : List JobSeen)
    → after ≡ jobs ++ record { actor = who; first = first; posts = posts; flow = None; at = 0; left = 0; end = Ok works.Idle } ∷ []
    → AreNew s → AreNew (record { board = board; jobs = after; firsts = new })
new_one lines here s board jobs firsts new who first end posts is f after grown old =
    let nothing : HaveSeenNothing firsts = subst HaveSeenNothing (ap (λ (x : JobsSeen). x.firsts) (sym is)) old.firsts in
    record {
      jobs = new_with here who first end firsts new posts f nothing jobs after
          (record { actor = who; first = first; posts = posts; flow = None; at = 0; left = 0; end = Ok works.Idle }) grown refl refl refl
          (subst (λ (js : List JobSeen). (i : ℕ) (x : JobSeen) → slice_get js i ≡ Some x → IsNewJob x)
          (ap (λ (x : JobsSeen). x.jobs) (sym is)) old.jobs);
      firsts = nothing_seen here who first end firsts new posts f nothing;
    }

-- the actor at a place of the crew
pub at_crew : (crew : List Actor) (i : ℕ) (a : Actor) → i < length crew → a ≡ get_or crew i a → slice_get crew i ≡ Some a
at_crew crew i a less is = there_or crew i a less ∙ ap (λ (x : Actor). Some x) (sym is)

-- the crew, as it was dealt
pub dealt_crew : (board : BoardSeen) (here lines : List LockSeen) (crew dealt : List Actor) → here ≡ lines
    → crew ≡ workers_of board lines → IsPermutation crew dealt → IsPermutation (workers_of board here) dealt
dealt_crew board here lines crew dealt same are is = subst
    (λ (ls : List LockSeen). IsPermutation (workers_of board ls) dealt) (sym same)
    (subst (λ (ws : List Actor). IsPermutation ws dealt) are is)
