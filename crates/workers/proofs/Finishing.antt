-- The lines come out of their locks.
use Rattle.std.proofs.Common.{◌≡◌, ℕ, suc, ◌+◌, ◌<◌, inl, inr, Bool, true, false, cond, IsSomeAnd, Option, Some, None}
use Rattle.std.proofs.Common.{Result, Ok, Err, IfOk, List, [], ◌∷◌, ◌++◌, map, filter, length, get_or, take, reverse}
use Rattle.std.proofs.Common.{◌&&◌, slice_get, IsPermutation, ◌||◌, refl, sym, ap, ◌∙◌, subst, arith, append-nil}
use Rattle.std.proofs.Common.{append_assoc, nat_eq, nat_le, nat_lt, ◌-◌, ◌≤◌, ◌⊎◌, is_some}
use Rattle.std.proofs.lemmas.Bool.{and_parts, false≢true, false_from_ne_true}
use Rattle.std.proofs.lemmas.Bool.Decides.{nat_tests}
use Rattle.std.proofs.lemmas.List.{reverse-append, reverse-reverse}
use Rattle.std.proofs.Math.ListN.{length-map}
use Rattle.irq_base.specs.declared.calls.Call.{Call}
use Rattle.irq_base.specs.declared.devices.DeviceDef.{DeviceDef}
use Rattle.irq_base.specs.declared.entries.Actor.{Actor}
use Rattle.irq_base.specs.declared.entries.Actor.TheVariants as actors
use Rattle.irq_base.specs.declared.entries.Entry.{Entry}
use Rattle.irq_base.specs.declared.lines.LineDef.{LineDef}
use Rattle.irq_base.specs.declared.numbers.CpuNo.{CpuNo}
use Rattle.irq_base.specs.declared.numbers.DriverNo.{DriverNo}
use Rattle.irq_line.specs.Seen.{LineSeen, IsSound}
use Rattle.irq_base.specs.declared.numbers.LineNo.{LineNo}
use Rattle.irq_laws.specs.Kept.{complete as complete_of}
use Rattle.irq_model.specs.Due.{calls_by, entries_by, due_of, due_call}
use Rattle.irq_model.specs.Kinds.{same_line, same_driver, same_actor}
use Rattle.irq_model.specs.Legal.{IsLegalPast}
use Rattle.irq_model.specs.Rounds.{flow}
use Rattle.irq_model.proofs.Same.{actor_from_same, driver_from_same, same_self_actor}
use Rattle.std.specs.List.{list_any}
use Rattle.std.proofs.lemmas.List.Sorted.{list_any-IsPermutation}
use Rattle.irq_laws.proofs.Chosen.{the_same}
use Rattle.irq_laws.proofs.Lists.{both_ways}
use Rattle.irq_laws.proofs.Standstill.{is_its_cpu}
use Rattle.board_def.specs.Rules.{IsBoard, has_driver}
use Rattle.board_def.specs.Seen.{BoardSeen}
use Rattle.board_def.specs.declared.rows.ScriptCall.{ScriptCall}
use Rattle.board_play.specs.Current.{calls_on}
use Rattle.board_play.specs.Kept.{IsCallOn, IsUpTo, HaveOneFlow, AreKept}
use Rattle.board_play.specs.Lines.{BoardLine, defs_of}
use Rattle.board_play.specs.Order.{cpus_of, drivers_of}
use Rattle.board_play.proofs.Counting.{completed}
use Rattle.board_play.proofs.Members.{def_there}
use Rattle.board_play.proofs.OfBoard.{calls_fit}
use Rattle.line_lock.specs.Knows.{BeginsWith, IsKnown, is_among}
use Rattle.line_lock.specs.Placed.{placed}
use Rattle.line_lock.specs.Passes.{LockSeen, PassSeen}
use Rattle.workers.specs.Fit.{AreFirsts, IsFirst, IsManned, own_past, actors_on, works_on, has_worker, workers_of, Fit}
use Rattle.workers.specs.Gathers.{AreKnown, HasPass, board_line, board_lines, IsHome, AreHome, seen_line, seen_lines}
use Rattle.workers.specs.Gathers.{AreOut, Gathers, IsFinal, AreFinal, AreSound}
use Rattle.workers.specs.Gathers.{IsMetIn, HasAllOf, IsSeenIn, AreBack, IsSeenBy, AreGathered}
use Rattle.workers.specs.Seen.{PostSeen, JobSeen, JobsSeen}
use Rattle.workers.proofs.InFlow.{own_by_flow}
use Rattle.workers.proofs.Lists.{at_map, at_snoc, of_map, there, there_or, within, none_left, length_snoc}
use Rattle.workers.proofs.Manning.{map_more}

-- the passes so far are back in their lines, and the others are left, the first of them last
pub record AreFinishing (all : List PassSeen) (n : ℕ) (left : List PassSeen) (lines : List LineSeen) : Type 0 where
  pub done : List PassSeen
  pub split : all ≡ done ++ reverse left
  pub count : length done ≡ n
  pub are : board_lines lines ≡ seen_lines done
  pub sound : AreSound lines
  pub known : AreKnown done

pub none_finished : (all left : List PassSeen) → left ≡ reverse all → AreFinishing all 0 left []
none_finished all left is =
    record { done = []; split = sym (ap reverse is ∙ reverse-reverse all); count = refl; are = refl; sound = λ i x at. cc; known = λ k p at. cc }

module _ {all : List PassSeen} {n : ℕ} {left : List PassSeen} {lines : List LineSeen} (f : AreFinishing all n left lines)
    (before : List PassSeen) (p : PassSeen) (popped : left ≡ before ++ p ∷ []) where
  next : all ≡ f.done ++ p ∷ reverse before
  next = f.split ∙ ap (λ (ps : List PassSeen). f.done ++ ps) (ap reverse popped ∙ reverse-append before (p ∷ []))

  pub pass_next : slice_get all n ≡ Some p
  pass_next = ap (λ (ps : List PassSeen). slice_get ps n) next
      ∙ (ap (λ (i : ℕ). slice_get (f.done ++ p ∷ reverse before) i) (sym f.count) ∙ behind f.done p (reverse before))
    where
      behind : (xs : List PassSeen) (y : PassSeen) (ys : List PassSeen) → slice_get (xs ++ y ∷ ys) (length xs) ≡ Some y
      behind [] y ys = refl
      behind (x ∷ xs) y ys = behind xs y ys

  pub finished_more : {x : LineSeen} {more : List LineSeen} → more ≡ lines ++ x ∷ [] → x.def ≡ p.def
      → x.entries ≡ p.knows.seen → IsSound x → IsKnown p.knows → AreFinishing all (n + 1) before more
  finished_more {x} {more} is def entries sound known =
      record {
        done = f.done ++ p ∷ [];
        split = next ∙ sym (append_assoc f.done (p ∷ []) (reverse before));
        count = let c = f.count in let l = length_snoc f.done p in omega (arith, c, l);
        are = ap board_lines is ∙ (map_more board_line lines x
            ∙ (ap (λ (xs : List BoardLine). xs ++ board_line x ∷ []) f.are
            ∙ (ap (λ (y : BoardLine). seen_lines f.done ++ y ∷ []) line_is ∙ sym (map_more seen_line f.done p))));
        sound = subst AreSound (sym is) each;
        known = λ k q at. elim (at_snoc f.done p k q at) [ inl old ↦ f.known k q old | inr new ↦ subst (λ (y : PassSeen). IsKnown y.knows) new.1 known ];
      }
    where
      line_is : board_line x ≡ seen_line p
      line_is = ap (λ (d : LineDef). record { def = d; past = reverse x.entries }) def
          ∙ ap (λ (es : List Entry). record { def = p.def; past = reverse es }) entries

      each : AreSound (lines ++ x ∷ [])
      each i y at = elim (at_snoc lines x i y at) [ inl old ↦ f.sound i y old | inr new ↦ subst IsSound new.1 sound ]

pub final_here : {lines : List LockSeen} {firsts : List PassSeen} {n : ℕ} {p : PassSeen} {l : LockSeen}
    → AreFinal lines firsts → slice_get firsts n ≡ Some p → n < length lines → l ≡ get_or lines n l → IsFinal l p
final_here {lines} {firsts} {n} {p} {l} are at less is =
    subst (λ (o : Option LockSeen). IsSomeAnd o (λ l. IsFinal l p)) (there_or lines n l less ∙ ap (λ (x : LockSeen). Some x) (sym is)) (are.each n p at)

-- a line is left, so a pass is
pub some_left : (all : List PassSeen) (n : ℕ) (left : List PassSeen) (lines : List LineSeen) → AreFinishing all n left lines → n < length all → left ≡ [] → ⊥
some_left all n left lines f less none =
    let e : all ≡ f.done = f.split ∙ (ap (λ (ps : List PassSeen). f.done ++ reverse ps) none ∙ append-nil f.done) in
    let c = f.count in
    let l = ap (λ (ps : List PassSeen). length ps) e in
    omega (arith, c, l, less)

module _ (all : List PassSeen) (n : ℕ) (left : List PassSeen) (lines : List LineSeen) (f : AreFinishing all n left lines)
    (whole : n ≡ length all) where
  all_done : all ≡ f.done
  all_done = f.split ∙ (ap (λ (ps : List PassSeen). f.done ++ ps) rest ∙ append-nil f.done)
    where
      longer : (xs ys : List PassSeen) → length (xs ++ ys) ≡ length xs + length ys
      longer [] ys = omega arith
      longer (x ∷ xs) ys = let l = longer xs ys in omega (arith, l)

      rest : reverse left ≡ []
      rest = none_left (reverse left) (let a = ap (λ (ps : List PassSeen). length ps) f.split in
          let b = longer f.done (reverse left) in let c = f.count in omega (arith, a, b, c, whole))

  pub all_finished : board_lines lines ≡ seen_lines all
  all_finished = f.are ∙ ap seen_lines (sym all_done)

  pub all_known : AreKnown all
  all_known = subst AreKnown (sym all_done) f.known

-- ---- before and after all jobs

pub are_home : (lines : List LockSeen) (s : JobsSeen) → Fit lines s → AreHome lines s.firsts
are_home lines s fit = record { as_many = fit.firsts.as_many; each = λ k p at. by_line k p (slice_get lines k) (fit.firsts.each k p at) }
  where
    by_line : (k : ℕ) (p : PassSeen) (o : Option LockSeen) → IsSomeAnd o (λ l. IsFirst l (actors_on k s.jobs) p) → IsSomeAnd o (λ l. IsHome l p)
    by_line k p None is = absurd is
    by_line k p (Some l) is = record { of_line = is.of_line; idle = is.idle; first = is.actor }

among_any : (who : Actor) (xs : List Actor) → is_among who xs ≡ list_any (same_actor who) xs
among_any who [] = refl
among_any who (x ∷ xs) = by_test (same_actor who x) (among_any who xs)
  where
    by_test : (b : Bool) → is_among who xs ≡ list_any (same_actor who) xs → cond b true (is_among who xs) ≡ (b || list_any (same_actor who) xs)
    by_test true deeper = refl
    by_test false deeper = deeper

among_dealt : (who : Actor) (xs ys : List Actor) → IsPermutation xs ys → is_among who xs ≡ is_among who ys
among_dealt who xs ys dealt = among_any who xs ∙ (list_any-IsPermutation (same_actor who) xs ys dealt ∙ sym (among_any who ys))

among_right : (who : Actor) (xs ys : List Actor) → is_among who ys ≡ true → is_among who (xs ++ ys) ≡ true
among_right who [] ys is = is
among_right who (x ∷ xs) ys is = by_test (same_actor who x) (among_right who xs ys is)
  where
    by_test : (b : Bool) → is_among who (xs ++ ys) ≡ true → cond b true (is_among who (xs ++ ys)) ≡ true
    by_test true deeper = refl
    by_test false deeper = deeper

driver_among : (r : DriverNo) (rs : List DriverNo) → has_driver rs r ≡ true → is_among (actors.Driver r) (map (λ r. actors.Driver r) rs) ≡ true
driver_among r [] h = cc
driver_among r (s ∷ rs) h = grind (arith, driver_among r rs)

pub gathers_first : (lines : List LockSeen) (s : JobsSeen) → Fit lines s → Gathers s.board lines s.jobs s.firsts
gathers_first lines s fit =
    record {
      each = fit.each;
      out = λ k p at. by_line k p (slice_get lines k) (fit.firsts.each k p at);
      drivers = λ r declared. inl
          (sym (among_dealt (actors.Driver r) (workers_of s.board lines) (map (λ (j : JobSeen). j.actor) s.jobs) fit.actors)
          ∙ among_right (actors.Driver r) (map (λ (x : DeviceDef). actors.Thread x.dev)
          (filter (has_worker lines) s.board.devices)) (cpus_of s.board ++ drivers_of s.board)
          (among_right (actors.Driver r) (cpus_of s.board) (drivers_of s.board)
          (driver_among r s.board.drivers declared)));
    }
  where
    by_line : (k : ℕ) (p : PassSeen) (o : Option LockSeen) → IsSomeAnd o (λ l. IsFirst l (actors_on k s.jobs) p) → AreOut s.jobs k p
    by_line k p None is = absurd is
    by_line k p (Some l) is = record {
      given = λ who h. ap (λ (xs : List Actor). is_among who xs)
          (is.given ∙ sym is.out) ∙ h;
      out = λ who h. ap (λ (xs : List Actor). is_among who xs) (sym is.out) ∙ h;
    }

pub are_final : (board : BoardSeen) (lines : List LockSeen) (firsts : List PassSeen) → AreHome lines firsts
    → Gathers board lines [] firsts → AreFinal lines firsts
are_final board lines firsts home g = record { as_many = home.as_many; each = λ k p at. by_line k p (slice_get lines k) at (home.each k p at) }
  where
    nobody : (xs : List Actor) → ((who : Actor) → is_among who xs ≡ true → ⊥) → xs ≡ []
    nobody [] none = refl
    nobody (x ∷ xs) none = absurd (none x (ap (λ (b : Bool). cond b true (is_among x xs)) (same_self_actor x)))

    by_line : (k : ℕ) (p : PassSeen) (o : Option LockSeen) → slice_get firsts k ≡ Some p → IsSomeAnd o (λ l. IsHome l p) → IsSomeAnd o (λ l. IsFinal l p)
    by_line k p None at is = absurd is
    by_line k p (Some l) at is = record { home = is; nobody = nobody p.knows.out (λ who h. false≢true ((g.out k p at).out who h)) }

-- ---- what the lines are then

pub are_kept : (board : BoardSeen) (locks : List LockSeen) (firsts : List PassSeen) (lines : List LineSeen)
    → IsBoard board → map (λ (l : LockSeen). l.def) locks ≡ defs_of board → AreHome locks firsts
    → Gathers board locks [] firsts
    → board_lines lines ≡ seen_lines firsts → AreSound lines → HaveOneFlow (board_lines lines) → AreKept board (board_lines lines)
are_kept board locks firsts lines isb defs home g are sound one_flow =
    record {
      defs = ap (map (λ (x : BoardLine). x.def)) are ∙ (seen_defs firsts locks home.as_many home.each ∙ defs);
      legal = legal;
      in_order = λ r. in_order r (has_driver board.drivers r) refl;
      one_flow = one_flow;
    }
  where
    seen_defs : (ps : List PassSeen) (ls : List LockSeen) → length ps ≡ length ls
        → ((k : ℕ) (p : PassSeen) → slice_get ps k ≡ Some p → IsSomeAnd (slice_get ls k) (λ l. IsHome l p))
        → map (λ (x : BoardLine). x.def) (seen_lines ps) ≡ map (λ (l : LockSeen). l.def) ls
    seen_defs [] [] long each = refl
    seen_defs [] (l ∷ ls) long each = absurd (omega (arith, long))
    seen_defs (p ∷ ps) [] long each = absurd (omega (arith, long))
    seen_defs (p ∷ ps) (l ∷ ls) long each =
        ap (λ (d : LineDef). d ∷ map (λ (x : BoardLine). x.def) (seen_lines ps)) (each 0 p refl).of_line.1
        ∙ ap (λ (ds : List LineDef). l.def ∷ ds) (seen_defs ps ls (omega (arith, long)) (λ k q at. each (suc k) q at))

    legal : (i : ℕ) (x : BoardLine) → slice_get (board_lines lines) i ≡ Some x → IsLegalPast x.def x.past
    legal i x at = let s = of_map board_line lines i x at in subst (λ (y : BoardLine). IsLegalPast y.def y.past) s.2 (sound i s.0 s.1).legal

    in_order : (r : DriverNo) (b : Bool) → has_driver board.drivers r ≡ b → (place : ℕ) × IsUpTo board.calls (board_lines lines) r place
    in_order r true declared = subst (λ (ls : List BoardLine). (place : ℕ) × IsUpTo board.calls ls r place) (sym are)
        (elim (g.drivers r declared) [ inl among ↦ absurd (false≢true among) | inr back ↦ back.1 ])
    in_order r false undeclared = (0, record { complete = complete; begun = begun })
      where
        no_call : (i : ℕ) (x : BoardLine) → slice_get (board_lines lines) i ≡ Some x → calls_by r x.def.calls ≡ []
        no_call i x at =
            none_left (calls_by r x.def.calls)
            (calls_fit board i x.def (ap (λ (ds : List LineDef). slice_get ds i)
            (sym (ap (map (λ (x : BoardLine). x.def)) are ∙ (seen_defs firsts locks home.as_many home.each ∙ defs)))
            ∙ def_there (board_lines lines) i x at) r
            ∙ none_of x.def.line board.calls (λ k c at. (isb.calls k c at).driver))
          where
            none_of : (line : LineNo) (cs : List ScriptCall)
                → ((k : ℕ) (c : ScriptCall) → slice_get cs k ≡ Some c → has_driver board.drivers c.driver ≡ true)
                → calls_on line r cs ≡ 0
            none_of line [] all = refl
            none_of line (c ∷ cs) all =
                ap (λ (b : Bool). cond (same_line c.line line && b) (calls_on line r cs + 1) (calls_on line r cs))
                (false_from_ne_true (same_driver r c.driver)
                (λ same. both_ways (has_driver board.drivers r)
                (ap (λ (d : DriverNo). has_driver board.drivers d) (driver_from_same r c.driver same)
                ∙ all 0 c refl) undeclared))
                ∙ (either (same_line c.line line) ∙ none_of line cs (λ k d at. all (suc k) d at))
              where
                either : (b : Bool) → cond (b && false) (calls_on line r cs + 1) (calls_on line r cs) ≡ calls_on line r cs
                either true = refl
                either false = refl

        complete : (i : ℕ) (x : BoardLine) → slice_get (board_lines lines) i ≡ Some x → completed x.def r x.past ≡ calls_on x.def.line r (take 0 board.calls)
        complete i x at = ap (λ (cs : List Call). length (complete_of [] cs (entries_by r x.past))) (no_call i x at)
            ∙ sym (ap (λ (cs : List ScriptCall). calls_on x.def.line r cs) (nothing_taken board.calls))
          where
            nothing_taken : (cs : List ScriptCall) → take 0 cs ≡ []
            nothing_taken [] = refl
            nothing_taken (c ∷ cs) = refl

        begun : (i : ℕ) (x : BoardLine) (c : Call) (n : ℕ) → slice_get (board_lines lines) i ≡ Some x
            → due_call x.def r x.past ≡ Some (c, suc n) → IsSomeAnd (slice_get board.calls 0) (IsCallOn x.def.line r)
        begun i x c n at due = absurd (none_is_none (ap (λ (cs : List Call). due_of cs (entries_by r x.past)) (sym (no_call i x at)) ∙ due))
          where
            none_is_none : ◌≡◌ {A = Option (Call × ℕ)} None (Some (c, suc n)) → ⊥
            none_is_none h = cc

-- ---- who has a pass

-- an actor with a job that works on the line has a pass of it
pass_among : (k : ℕ) (who : Actor) (jobs : List JobSeen) → is_among who (actors_on k jobs) ≡ true → HasPass jobs k who
pass_among k who [] among = cc
pass_among k who (j ∷ jobs) among = by_work (λ its. pass_among k who jobs its) (works_on k j) refl among
  where
    later : HasPass jobs k who → HasPass (j ∷ jobs) k who
    later h = record {
      number = suc h.number;
      place = h.place;
      job = h.job;
      post = h.post;
      at_job = h.at_job;
      at_post = h.at_post;
      is = h.is;
      actor = h.actor;
    }

    here : works_on k j ≡ true → j.actor ≡ who → HasPass (j ∷ jobs) k who
    here works same =
        let a = and_parts (nat_le j.first k) (nat_lt k (j.first + length j.posts)) works in
        let from : j.first ≤ k = grind (arith, a.0) in
        let to : k < j.first + length j.posts = grind (arith, a.1) in
        let t = there j.posts (k - j.first) (omega (arith, from, to)) in
        record {
          number = 0;
          place = k - j.first;
          job = j;
          post = t.0;
          at_job = refl;
          at_post = t.1;
          is = omega (arith, from);
          actor = same;
        }

    by_actor : (is_among who (actors_on k jobs) ≡ true → HasPass jobs k who) → (t : Bool) → same_actor who j.actor ≡ t
        → works_on k j ≡ true → cond t true (is_among who (actors_on k jobs)) ≡ true
        → HasPass (j ∷ jobs) k who
    by_actor deeper true same works among = here works (sym (actor_from_same who j.actor same))
    by_actor deeper false other works among = later (deeper among)

    by_work : (is_among who (actors_on k jobs) ≡ true → HasPass jobs k who) → (t : Bool) → works_on k j ≡ t
        → is_among who (map (λ (x : JobSeen). x.actor) (cond t (j ∷ filter (works_on k) jobs)
        (filter (works_on k) jobs))) ≡ true → HasPass (j ∷ jobs) k who
    by_work deeper true works among = by_actor deeper (same_actor who j.actor) refl works among
    by_work deeper false idle among = later (deeper among)

-- ---- the histories are what was seen

module _ (s : JobsSeen) (firsts : List PassSeen) (lines : List LineSeen) (are : board_lines lines ≡ seen_lines firsts)
    (b : AreBack s.board s.jobs s.firsts firsts) where
  same_line_as : (x : LineSeen) (p : PassSeen) → seen_line p ≡ board_line x → (x.def ≡ p.def) × (x.entries ≡ p.knows.seen)
  same_line_as x p is = (
    sym (ap (λ (y : BoardLine). y.def) is),
    sym (reverse-reverse x.entries) ∙ (sym (ap (λ (y : BoardLine). reverse y.past) is) ∙ reverse-reverse p.knows.seen),
  )

  pass_of : (k : ℕ) (x : LineSeen) → slice_get lines k ≡ Some x → (p : PassSeen) × (slice_get firsts k ≡ Some p) × (x.def ≡ p.def) × (x.entries ≡ p.knows.seen)
  pass_of k x at =
      let p = of_map seen_line firsts k (board_line x) (ap (λ (ls : List BoardLine). slice_get ls k) (sym are) ∙ at_map board_line lines k x at) in
      let same = same_line_as x p.0 p.2 in (p.0, p.1, same.0, same.1)

  line_of : (k : ℕ) (p : PassSeen) → slice_get firsts k ≡ Some p → (x : LineSeen) × (slice_get lines k ≡ Some x) × (x.def ≡ p.def) × (x.entries ≡ p.knows.seen)
  line_of k p at =
      let x = of_map board_line lines k (seen_line p) (ap (λ (ls : List BoardLine). slice_get ls k) are ∙ at_map seen_line firsts k p at) in
      let same = same_line_as x.0 p (sym x.2) in (x.0, x.1, same.0, same.1)

  seen_by : (k : ℕ) (x : LineSeen) → slice_get lines k ≡ Some x → IsSeenBy s k x.entries
  seen_by k x at =
      let p = pass_of k x at in
      let q = b.lines k p.0 p.1 in
      elim q.3 [
        | inl first ↦ inl (q.0, q.1, p.3 ∙ first)
        | inr its ↦ inr (subst (λ (es : List Entry). IsSeenIn s.jobs k es) (sym p.3) its)
      ]

  firsts_seen : length s.firsts ≡ length firsts → (k : ℕ) (q : PassSeen) → slice_get s.firsts k ≡ Some q
      → IsSomeAnd (slice_get lines k) (λ x. BeginsWith x.entries q.knows.seen)
  firsts_seen as_many k q at =
      let w = within s.firsts k q at in
      let p = there firsts k (omega (arith, w, as_many)) in
      let x = line_of k p.0 p.1 in
      let r = b.lines k p.0 p.1 in
      subst (λ (o : Option LineSeen). IsSomeAnd o (λ x. BeginsWith x.entries q.knows.seen)) (sym x.1)
      (subst (λ (es : List Entry). BeginsWith es q.knows.seen) (sym x.3)
      (subst (λ (y : PassSeen). BeginsWith p.0.knows.seen y.knows.seen) (the_same r.0 q (sym r.1 ∙ at)) r.2))

  each_has : (i place : ℕ) (j : JobSeen) (t : PostSeen) → slice_get s.jobs i ≡ Some j → slice_get j.posts place ≡ Some t
      → IsSomeAnd (slice_get lines (j.first + place)) (λ x. HasAllOf x.def x.entries j.actor t.pass)
  each_has i place j t at_job at_post = by_option (slice_get firsts (j.first + place)) refl (b.each i place j t at_job at_post)
    where
      by_option : (o : Option PassSeen) → slice_get firsts (j.first + place) ≡ o
          → IsSomeAnd o (λ p. HasAllOf p.def p.knows.seen j.actor t.pass × IsMetIn j.actor p)
          → IsSomeAnd (slice_get lines (j.first + place)) (λ x. HasAllOf x.def x.entries j.actor t.pass)
      by_option None at all = absurd all
      by_option (Some p) at all =
          let x = line_of (j.first + place) p at in
          subst (λ (o : Option LineSeen). IsSomeAnd o (λ x. HasAllOf x.def x.entries j.actor t.pass)) (sym x.1)
          (subst (λ (d : LineDef). HasAllOf d x.0.entries j.actor t.pass) (sym x.2)
          (subst (λ (es : List Entry). HasAllOf p.def es j.actor t.pass) (sym x.3) all.0))

  -- an actor to which the line's first pass gave no pass has no entry there
  made_by_jobs : (locks : List LockSeen) → AreFirsts locks s.jobs s.firsts → AreHome locks firsts → AreKnown firsts → (k : ℕ) (x : LineSeen) (who : Actor)
      → slice_get lines k ≡ Some x → HasPass s.jobs k who ⊎ (placed who x.entries ≡ [])
  made_by_jobs locks begun home known k x who at =
      let p = pass_of k x at in
      let q = b.given k p.0 p.1 in
      let given : p.0.knows.given ≡ actors_on k s.jobs = q.2 ∙ given_at (slice_get locks k) q.0 (begun.each k q.0 q.1) in
      by_test (is_among who (actors_on k s.jobs)) refl p.0 p.3 (ap (is_among who) given)
      (first_at (slice_get locks k) p.0 (home.each k p.0 p.1)) (known k p.0 p.1)
    where
      given_at : (o : Option LockSeen) (q : PassSeen) → IsSomeAnd o (λ l. IsFirst l (actors_on k s.jobs) q) → q.knows.given ≡ actors_on k s.jobs
      given_at None q is = absurd is
      given_at (Some l) q is = is.given

      first_at : (o : Option LockSeen) (p : PassSeen) → IsSomeAnd o (λ l. IsHome l p) → p.knows.actor ≡ None
      first_at None p is = absurd is
      first_at (Some l) p is = is.first

      by_test : (t : Bool) → is_among who (actors_on k s.jobs) ≡ t → (p : PassSeen) → x.entries ≡ p.knows.seen
          → is_among who p.knows.given ≡ is_among who (actors_on k s.jobs) → p.knows.actor ≡ None → IsKnown p.knows
          → HasPass s.jobs k who ⊎ (placed who x.entries ≡ [])
      by_test true among p same given first known = inl (pass_among k who s.jobs among)
      by_test false not p same given first known = inr (ap (placed who) same ∙ known.strangers who first (given ∙ not))

  pub are_gathered : (locks : List LockSeen) → AreFirsts locks s.jobs s.firsts → AreHome locks firsts → AreKnown firsts
      → length s.firsts ≡ length firsts → AreGathered s lines
  are_gathered locks begun home known as_many = record {
    seen = seen_by;
    firsts = firsts_seen as_many;
    each = each_has;
    made = made_by_jobs locks begun home known;
    drivers = λ i j r at is. subst (λ (ls : List BoardLine). IsUpTo s.board.calls ls r j.at) (sym are) (b.drivers i j r at is).1;
  }

-- ---- each processor has one flow

-- a place is named, or it isn't
is_named : (o : Option ℕ) (i : ℕ) → ((o ≡ Some i → ⊥) → ⊥) → o ≡ Some i
is_named None i not = absurd (not (λ h. cc))
is_named (Some k) i not = by_test (nat_eq k i) refl
  where
    by_test : (t : Bool) → nat_eq k i ≡ t → Some k ≡ Some i
    by_test true same = ap (λ (n : ℕ). Some n) (grind (arith, nat_tests, same))
    by_test false other = absurd (not (λ h. let e : k ≡ i = the_same k i h in grind (arith, nat_tests, other, e)))

module _ (locks : List LockSeen) (s : JobsSeen) (lines : List LineSeen) (fit : Fit locks s) (as_many : length lines ≡ length locks)
    (g : AreGathered s lines) where
  -- a processor's flow is on the line that its job names
  named : (c : CpuNo) (n : ℕ) (j : JobSeen) → slice_get s.jobs n ≡ Some j → j.actor ≡ actors.Cpu c → (i : ℕ) (x : LineSeen)
      → slice_get lines i ≡ Some x → flow x.def (reverse x.entries) ≡ Some c → j.flow ≡ Some i
  named c n j at_job its i x at is =
      is_named j.flow i (λ none. false≢true (sym (manned.2 i t.0 t.1 none) ∙ ap (λ (o : Option CpuNo). is_some o) own))
    where
      manned : IsManned s.board locks j (actors.Cpu c)
      manned = subst (λ (a : Actor). IsManned s.board locks j a) its (fit.each n j at_job).manned

      t : (t : PostSeen) × (slice_get j.posts i ≡ Some t)
      t = there j.posts i (let w = within lines i x at in let m = manned.1 in omega (arith, w, m, as_many))

      all : HasAllOf x.def x.entries j.actor t.0.pass
      all = subst (λ (o : Option LineSeen). IsSomeAnd o (λ y. HasAllOf y.def y.entries j.actor t.0.pass))
          (ap (λ (k : ℕ). slice_get lines k) (let z = manned.0 in omega (arith, z)) ∙ at) (g.each n i j t.0 at_job t.1)

      own : flow t.0.pass.def (own_past t.0.pass.knows.mine) ≡ Some c
      own = ap (λ (d : LineDef). flow d (own_past t.0.pass.knows.mine)) all.of_line
          ∙ own_by_flow x.def c x.entries t.0.pass.knows.mine (sym all.own ∙ ap (λ (a : Actor). placed a x.entries) its) is

  pub one_flow : HaveOneFlow (board_lines lines)
  one_flow c i k x y at_i at_k on_i on_k = by_pass (g.made i a.0 (actors.Cpu c) a.1)
    where
      a : (l : LineSeen) × (slice_get lines i ≡ Some l) × (board_line l ≡ x)
      a = of_map board_line lines i x at_i

      b : (l : LineSeen) × (slice_get lines k ≡ Some l) × (board_line l ≡ y)
      b = of_map board_line lines k y at_k

      flow_a : flow a.0.def (reverse a.0.entries) ≡ Some c
      flow_a = ap (λ (z : BoardLine). flow z.def z.past) a.2 ∙ is_its_cpu c (flow x.def x.past) on_i

      flow_b : flow b.0.def (reverse b.0.entries) ≡ Some c
      flow_b = ap (λ (z : BoardLine). flow z.def z.past) b.2 ∙ is_its_cpu c (flow y.def y.past) on_k

      no_flow : None ≡ Some c → ⊥
      no_flow h = cc

      by_pass : HasPass s.jobs i (actors.Cpu c) ⊎ (placed (actors.Cpu c) a.0.entries ≡ []) → i ≡ k
      by_pass (inl h) = the_same i k (sym (named c h.number h.job h.at_job h.actor i a.0 a.1 flow_a)
          ∙ named c h.number h.job h.at_job h.actor k b.0 b.1 flow_b)
      by_pass (inr none) = absurd (no_flow (own_by_flow a.0.def c a.0.entries [] (sym none) flow_a))

-- ---- the same, as the code has it

-- lines and jobs that fit, taken apart: the lines are at hand as the slice `here`, the jobs as their parts
pub record TakenApart (lines here : List LockSeen) (inside s : JobsSeen) : Type 0 where
  pub fit : Fit lines s
  pub lines_are : here ≡ lines
  pub jobs_are : inside ≡ s

module _ {lines here : List LockSeen} {inside s : JobsSeen} (t : TakenApart lines here inside s) where
  pub home_at : AreHome here inside.firsts
  home_at = subst (λ (ls : List LockSeen). AreHome ls inside.firsts) (sym t.lines_are)
      (subst (λ (x : JobsSeen). AreHome lines x.firsts) (sym t.jobs_are) (are_home lines s t.fit))

  gathers_at : Gathers s.board here inside.jobs inside.firsts
  gathers_at = subst (λ (ls : List LockSeen). Gathers s.board ls inside.jobs inside.firsts) (sym t.lines_are)
      (subst (λ (x : JobsSeen). Gathers s.board lines x.jobs x.firsts) (sym t.jobs_are) (gathers_first lines s t.fit))

  -- the first passes `new` have met all passes
  module _ {new : List PassSeen} where
    pub gathered : ((board : BoardSeen) → Gathers board here inside.jobs inside.firsts → Gathers board here [] new) → Gathers s.board here [] new
    gathered on = on s.board gathers_at

    pub back_of : ((board : BoardSeen) → Gathers board here inside.jobs inside.firsts → AreBack board inside.jobs inside.firsts new)
        → AreBack s.board s.jobs s.firsts new
    back_of on = subst (λ (x : JobsSeen). AreBack s.board x.jobs x.firsts new) t.jobs_are (on s.board gathers_at)

    gathered_ok : (lines : List LineSeen) → AreHome here new → AreBack s.board s.jobs s.firsts new → board_lines lines ≡ seen_lines new → AreKnown new
        → AreGathered s lines
    gathered_ok lines home back are known =
        are_gathered s new lines are back here (subst (λ (ls : List LockSeen). AreFirsts ls s.jobs s.firsts) (sym t.lines_are) t.fit.firsts) home known
        (t.fit.firsts.as_many ∙ (ap (λ (ls : List LockSeen). length ls) (sym t.lines_are) ∙ sym home.as_many))

    pub kept_result : {A E : Type 0} (f : A → List LineSeen) (r : Result A E) → IsBoard inside.board → AreHome here new → Gathers s.board here [] new
        → AreBack s.board s.jobs s.firsts new → IfOk r (λ all. board_lines (f all) ≡ seen_lines new) → IfOk r (λ all. AreSound (f all))
        → IfOk r (λ all. AreKnown new) → IfOk r (λ all. AreKept s.board (board_lines (f all)))
    kept_result f (Ok all) isb home g back are sound known =
        are_kept s.board here new (f all) (subst (λ (x : JobsSeen). IsBoard x.board) t.jobs_are isb)
        (ap (map (λ (l : LockSeen). l.def)) t.lines_are ∙ t.fit.defs) home g are sound
        (one_flow here s (f all) (subst (λ (ls : List LockSeen). Fit ls s) (sym t.lines_are) t.fit) as_many (gathered_ok (f all) home back are known))
      where
        as_many : length (f all) ≡ length here
        as_many = sym (length-map (f all) board_line) ∙ (ap (λ (xs : List BoardLine). length xs) are ∙ (length-map new seen_line ∙ home.as_many))
    kept_result f (Err e) isb home g back are sound known = tt

    pub gathered_result : {A E : Type 0} (f : A → List LineSeen) (r : Result A E) → AreHome here new → AreBack s.board s.jobs s.firsts new
        → IfOk r (λ all. board_lines (f all) ≡ seen_lines new) → IfOk r (λ all. AreKnown new) → IfOk r (λ all. AreGathered s (f all))
    gathered_result f (Ok all) home back are known = gathered_ok (f all) home back are known
    gathered_result f (Err e) home back are known = tt
