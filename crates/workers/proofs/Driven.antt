-- What a driver's try makes of its job.
use Rattle.std.proofs.Common.{◌≡◌, ℕ, zero, suc, ◌+◌, ◌-◌, ◌<◌, ◌≤◌, ◌⊎◌, inl, inr, Bool, true, false, cond, IsSomeAnd, Ok}
use Rattle.std.proofs.Common.{Option, Some, None, Result, List, [], ◌∷◌, length, map, reverse, set, slice_get, refl}
use Rattle.std.proofs.Common.{sym, ap, ◌∙◌, subst, arith}
use Rattle.irq_base.specs.declared.entries.Actor.{Actor}
use Rattle.irq_base.specs.declared.entries.Actor.TheVariants as actors
use Rattle.irq_base.specs.declared.entries.Entry.{Entry}
use Rattle.irq_base.specs.declared.lines.LineDef.{LineDef}
use Rattle.irq_base.specs.declared.numbers.DriverNo.{DriverNo}
use Rattle.irq_line.specs.declared.answers.StepRefused.{StepRefused}
use Rattle.irq_model.specs.Due.{entries_by}
use Rattle.irq_model.specs.Next.{next}
use Rattle.board_def.specs.Rules.{IsBoard}
use Rattle.board_def.specs.Seen.{BoardSeen}
use Rattle.board_def.specs.declared.rows.ScriptCall.{ScriptCall}
use Rattle.board_play.specs.Kept.{IsUpTo}
use Rattle.board_play.specs.Lines.{BoardLine, lines_after, defs_of}
use Rattle.board_play.proofs.OfBoard.{apart_defs}
use Rattle.board_play.proofs.Members.{AreApart}
use Rattle.line_lock.specs.Passes.{LockSeen}
use Rattle.line_lock.specs.Placed.{placed}
use Rattle.line_lock.specs.declared.view.Placed.{Placed}
use Rattle.workers.specs.Fit.{IsPost, IsPlaceOf, own_past, own_line, own_lines}
use Rattle.workers.specs.Forks.{AreBoards}
use Rattle.workers.specs.Room.{RoomAfter}
use Rattle.workers.specs.Seen.{PostSeen, JobSeen}
use Rattle.workers.specs.Tries.{Gains, Tries, rests_after, IsIdle}
use Rattle.line_scripts.specs.Endings.{completes}
use Rattle.workers.specs.Attempts.{StepsPost, KeepsPosts, IsDriven, WaitsAt, AttemptsDriver}
use Rattle.workers.proofs.Driving.{AreAmong, passed_all, up_after, alike_after}
use Rattle.workers.proofs.Flowing.{own_more, keeps_posts, post_now, post_there, refused_is_so, nothing_gained, keeps_on}
use Rattle.workers.proofs.Lists.{at_map, of_map, within}
use Rattle.workers.proofs.Own.{own_are_seen, AreAlike, same_script}
use Rattle.workers.proofs.Rooms.{room_after, room_as, room_from, stays}
use Rattle.workers.proofs.Growing.{posts_self}
use Rattle.workers.specs.Terms.{Terms}

same_defs : (posts : List PostSeen) (lines : List LockSeen) → length posts ≡ length lines
    → ((i : ℕ) (s : PostSeen) → slice_get posts i ≡ Some s → IsSomeAnd (slice_get lines i) (λ l. s.pass.def ≡ l.def))
    → map (λ (x : BoardLine). x.def) (own_lines posts) ≡ map (λ (l : LockSeen). l.def) lines
same_defs [] [] long each = refl
same_defs [] (l ∷ ls) long each = absurd (omega (arith, long))
same_defs (s ∷ ss) [] long each = absurd (omega (arith, long))
same_defs (s ∷ ss) (l ∷ ls) long each =
    ap (λ (d : LineDef). d ∷ map (λ (x : BoardLine). x.def) (own_lines ss)) (each 0 s refl)
    ∙ ap (λ (ds : List LineDef). l.def ∷ ds) (same_defs ss ls (omega (arith, long)) (λ i t at. each (suc i) t at))

-- the driver's job, with the board's lines
module _ {board : BoardSeen} {lines : List LockSeen} (boards : AreBoards board lines) {r : DriverNo} {j : JobSeen} (d : IsDriven board lines r j) where
  k_is : (i : ℕ) → j.first + i ≡ i
  k_is i = let z = d.first in omega (arith, z)

  line_at : (i : ℕ) (s : PostSeen) → slice_get j.posts i ≡ Some s → IsSomeAnd (slice_get lines i) (λ l. IsPost l j.actor s)
  line_at i s at = subst (λ (n : ℕ). IsSomeAnd (slice_get lines n) (λ l. IsPost l j.actor s)) (k_is i) (d.posted i s at)

  own_defs : map (λ (x : BoardLine). x.def) (own_lines j.posts) ≡ defs_of board
  own_defs = same_defs j.posts lines d.as_many each ∙ boards
    where
      each : (i : ℕ) (s : PostSeen) → slice_get j.posts i ≡ Some s → IsSomeAnd (slice_get lines i) (λ l. s.pass.def ≡ l.def)
      each i s at = by_line (slice_get lines i) (line_at i s at)
        where
          by_line : (o : Option LockSeen) → IsSomeAnd o (λ l. IsPost l j.actor s) → IsSomeAnd o (λ l. s.pass.def ≡ l.def)
          by_line None is = absurd is
          by_line (Some l) is = is.of_line.1

  among : AreAmong lines (own_lines j.posts)
  among i x at = let s = of_map own_line j.posts i x at in by_line s.0 s.2 (slice_get lines i) refl (line_at i s.0 s.1)
    where
      by_line : (s : PostSeen) → own_line s ≡ x → (o : Option LockSeen) → slice_get lines i ≡ o
          → IsSomeAnd o (λ l. IsPost l j.actor s) → (l : LockSeen) × (slice_get lines i ≡ Some l) × (x.def ≡ l.def)
      by_line s is None at_line is_post = absurd is_post
      by_line s is (Some l) at_line is_post = (l, at_line, ap (λ (y : BoardLine). y.def) (sym is) ∙ is_post.of_line.1)

  -- the driver goes to its next call
  pub next_driven : (q : ℕ) {now : JobSeen} → now ≡ record j { at = q } → j.at ≤ q → q ≤ length board.calls
      → ((k : ℕ) (c : ScriptCall) → j.at ≤ k → k < q → slice_get board.calls k ≡ Some c → c.driver ≡ r
      → IsPlaceOf lines c.line None) → IsDriven board lines r now
  next_driven q {now} is from few passed =
      subst (λ (x : JobSeen). IsDriven board lines r x) (sym is)
      (record {
        actor = d.actor;
        posted = d.posted;
        first = d.first;
        as_many = d.as_many;
        up_to = passed_all board.calls lines (own_lines j.posts) among r (q - j.at) j.at q (omega (arith, from)) few passed d.up_to;
        within = few;
      })

  -- ---- a try at the current call

  module _ (isb : IsBoard board) {c : ScriptCall} (at_p : slice_get board.calls j.at ≡ Some c) (mine : c.driver ≡ r)
      {place : ℕ} (place_is : IsPlaceOf lines c.line (Some place)) {terms : Terms}
      {tried : Result (Option Entry) StepRefused} {mid : JobSeen} (s : StepsPost terms lines place tried j mid) where
    line_is : s.line.def.line ≡ c.line
    line_is = subst (λ (o : Option LockSeen). IsSomeAnd o (λ l. l.def.line ≡ c.line))
        (ap (λ (n : ℕ). slice_get lines n) (sym (k_is place)) ∙ s.at_line) place_is

    post_def : s.post.pass.def ≡ s.line.def
    post_def = (subst (λ (o : Option LockSeen). IsSomeAnd o (λ l. IsPost l j.actor s.post))
        (ap (λ (n : ℕ). slice_get lines n) (sym (k_is place)) ∙ s.at_line) (line_at place s.post s.at_post)).of_line.1

    posts_are : mid.posts ≡ set j.posts place s.after
    posts_are = ap (λ (x : JobSeen). x.posts) s.is

    at_is : mid.at ≡ j.at
    at_is = ap (λ (x : JobSeen). x.at) s.is

    after_def : s.after.pass.def ≡ s.post.pass.def
    after_def = s.is_post.of_line.1 ∙ sym post_def

    at_y : slice_get (own_lines j.posts) place ≡ Some (own_line s.post)
    at_y = at_map own_line j.posts place s.post s.at_post

    y_line : c.line ≡ (own_line s.post).def.line
    y_line = sym line_is ∙ ap (λ (x : LineDef). x.line) (sym post_def)

    pub driver_rests : ((e : Entry) → tried ≡ Ok (Some e) → ⊥) → AttemptsDriver terms board lines r tried j mid
    driver_rests not =
        record {
          keeps = keeps_posts terms lines place tried j mid d.posted s;
          up_to = subst (λ (n : ℕ). IsUpTo board.calls (own_lines mid.posts) r n) (sym at_is)
              (same_script board.calls (own_lines mid.posts) (own_lines j.posts) r j.at alike d.up_to);
          within = let w = d.within in omega (arith, w, at_is);
          rests = λ is. inr (waits is);
          refused = refused_is_so terms lines place tried j mid s;
          room = room_after terms lines place tried j mid d.posted s;
        }
      where
        same_mine : s.after.pass.knows.mine ≡ s.post.pass.knows.mine
        same_mine = nothing_gained terms s.line.def j.actor s.post.pass.knows s.after.pass.knows tried not s.tries

        alike : AreAlike r (own_lines mid.posts) (own_lines j.posts)
        alike k x at =
            let t = of_map own_line mid.posts k x at in
            subst (λ (y : BoardLine). (z : BoardLine) × (slice_get (own_lines j.posts) k ≡ Some z) × (y.def ≡ z.def)
            × (entries_by r y.past ≡ entries_by r z.past)) t.2
            (by_place t.0 (post_now terms lines place tried j mid s k t.0 t.1))
          where
            by_place : (t : PostSeen) → ((k ≡ place) × (t ≡ s.after))
                ⊎ ((k ≡ place → ⊥) × (slice_get j.posts k ≡ Some t))
                → (z : BoardLine) × (slice_get (own_lines j.posts) k ≡ Some z) × (t.pass.def ≡ z.def)
                × (entries_by r (own_past t.pass.knows.mine) ≡ entries_by r z.past)
            by_place t (inl here) = (
              own_line s.post,
              ap (λ (n : ℕ). slice_get (own_lines j.posts) n) here.0 ∙ at_y,
              ap (λ (x : PostSeen). x.pass.def) here.1 ∙ after_def,
              ap (λ (x : PostSeen). entries_by r (own_past x.pass.knows.mine)) here.1 ∙ ap (λ (ps : List Placed). entries_by r (own_past ps)) same_mine,
            )
            by_place t (inr other) = (own_line t, at_map own_line j.posts k t other.1, refl, refl)

        waits : tried ≡ Ok None → WaitsAt board mid r
        waits is =
            let idle = s.is_post.rests (s.rests ∙ ap rests_after is) in
            record {
              call = c;
              place = place;
              post = s.after;
              at_call = ap (λ (n : ℕ). slice_get board.calls n) at_is ∙ at_p;
              own = mine;
              at_post = post_there terms lines place tried j mid s;
              line = ap (λ (x : LineDef). x.line) s.is_post.of_line.1 ∙ line_is;
              rests = subst (λ (x : LineDef). IsIdle x (actors.Driver r) s.after.pass.knows) (sym s.is_post.of_line.1)
                  (subst (λ (a : Actor). IsIdle s.line.def a s.after.pass.knows) d.actor idle);
            }

    pub driver_moved : {e : Entry} → tried ≡ Ok (Some e) → {last : Bool} → completes c.call e ≡ last → {new : JobSeen}
        → new ≡ record mid { at = cond last (mid.at + 1) mid.at } → AttemptsDriver terms board lines r (Ok (Some e)) j new
    driver_moved {e} is {last} is_l {new} now =
        record {
          keeps = subst (λ (x : JobSeen). KeepsPosts terms lines j x) (sym now) (same_posts (keeps_posts terms lines place tried j mid d.posted s));
          up_to = subst (λ (x : JobSeen). IsUpTo board.calls (own_lines x.posts) r x.at) (sym now)
              (subst (λ (n : ℕ). IsUpTo board.calls (own_lines mid.posts) r (cond last (n + 1) n)) (sym at_is)
              (subst (λ (ss : List PostSeen). IsUpTo board.calls (own_lines ss) r (cond last (j.at + 1) j.at)) (sym posts_are) after));
          within = let w = within board.calls j.at c at_p in let n = ap (λ (x : JobSeen). x.at) now in fits last n w;
          rests = λ h. cc;
          refused = tt;
          room = room_as (Ok (Some e)) j mid new (ap (λ (x : JobSeen). x.posts) now) (ap (λ (x : JobSeen). x.left) now)
              (subst (λ (t : Result (Option Entry) StepRefused). RoomAfter t j mid) is (room_after terms lines place tried j mid d.posted s));
        }
      where
        same_posts : KeepsPosts terms lines j mid → KeepsPosts terms lines j (record mid { at = cond last (mid.at + 1) mid.at })
        same_posts k = record { actor = k.actor; first = k.first; as_many = k.as_many; posted = k.posted; grew = k.grew }

        fits : (last : Bool) → new.at ≡ cond last (mid.at + 1) mid.at → j.at < length board.calls → new.at ≤ length board.calls
        fits true n w = omega (arith, n, w, at_is)
        fits false n w = omega (arith, n, w, at_is)

        gains : Gains terms.gave s.line.def j.actor s.post.pass.knows e s.after.pass.knows
        gains = (subst (λ (t : Result (Option Entry) StepRefused). Tries terms s.line.def j.actor s.post.pass.knows t
            s.after.pass.knows) is s.tries).came

        due : next s.post.pass.def gains.history (actors.Driver r) ≡ Some e
        due = ap (λ (x : LineDef). next x gains.history (actors.Driver r)) post_def
            ∙ (ap (λ (a : Actor). next s.line.def gains.history a) (sym d.actor) ∙ gains.due)

        own : entries_by r (own_past s.post.pass.knows.mine) ≡ entries_by r (reverse gains.history)
        own = own_are_seen r gains.history s.post.pass.knows.mine
            (gains.own ∙ ap (λ (a : Actor). placed a gains.history) d.actor)

        up : IsUpTo board.calls (lines_after (s.post.pass.def.line, e) (own_lines j.posts)) r (cond last (j.at + 1) j.at)
        up = up_after board isb (own_lines j.posts) own_defs r j.at d.up_to c at_p mine place (own_line s.post) at_y y_line gains.history e due own last is_l

        after : IsUpTo board.calls (own_lines (set j.posts place s.after)) r (cond last (j.at + 1) j.at)
        after =
            same_script board.calls (own_lines (set j.posts place s.after))
            (lines_after (s.post.pass.def.line, e) (own_lines j.posts)) r (cond last (j.at + 1) j.at)
            (alike_after j.posts (subst AreApart (sym own_defs) (apart_defs board isb)) place s.post s.after s.at_post
            after_def e (own_more s.post.pass.knows.mine s.after.pass.knows.mine (length gains.history) e
            gains.mine) r) up

-- ---- a whole attempt

-- the driver's job, gone to its next call
module _ {board : BoardSeen} {lines : List LockSeen} {r : DriverNo} {j : JobSeen} (d : IsDriven board lines r j)
    (q : ℕ) {now : JobSeen} (is : now ≡ record j { at = q }) where
  same_posts : {terms : Terms} → KeepsPosts terms lines j now
  same_posts {terms} = subst (λ (x : JobSeen). KeepsPosts terms lines j x) (sym is)
      (record { actor = refl; first = refl; as_many = refl; posted = d.posted; grew = posts_self terms.gave j.posts })

  pub driver_done : (terms : Terms) → IsDriven board lines r now → slice_get board.calls q ≡ None
      → AttemptsDriver terms board lines r (Ok None) j now
  driver_done terms e none =
      record {
        keeps = same_posts;
        up_to = e.up_to;
        within = e.within;
        rests = λ h. inl (let n = nothing_there board.calls q none in let a = ap (λ (x : JobSeen). x.at) is in omega (arith, n, a));
        refused = tt;
        room = stays j now (ap (λ (x : JobSeen). x.posts) is) (ap (λ (x : JobSeen). x.left) is);
      }
    where
      nothing_there : (cs : List ScriptCall) (k : ℕ) → slice_get cs k ≡ None → length cs ≤ k
      nothing_there [] k at = omega arith
      nothing_there (c ∷ cs) zero at = cc
      nothing_there (c ∷ cs) (suc k) at = let n = nothing_there cs k at in omega (arith, n)

  pub driver_attempted : {terms : Terms} {tried : Result (Option Entry) StepRefused} {new : JobSeen} {s : DriverNo} → s ≡ r
      → AttemptsDriver terms board lines s tried now new → AttemptsDriver terms board lines r tried j new
  driver_attempted {terms} {tried} {new} same t =
      subst (λ (x : DriverNo). AttemptsDriver terms board lines x tried j new) same
      (record {
        keeps = keeps_on lines j now new same_posts t.keeps;
        up_to = t.up_to;
        within = t.within;
        rests
            = t.rests;
        refused = t.refused;
        room = room_from tried j now new (stays j now (ap (λ (x : JobSeen). x.posts) is) (ap (λ (x : JobSeen). x.left) is)) t.room;
      })
