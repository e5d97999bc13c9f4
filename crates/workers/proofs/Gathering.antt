-- One job's passes come back.
use Rattle.std.proofs.Common.{◌≡◌, ℕ, zero, suc, ◌+◌, ◌<◌, ◌≤◌, ◌⊎◌, inl, inr, Bool, true, false, ◌&&◌, cond, nat_le, nat_lt}
use Rattle.std.proofs.Common.{IfSome, ◌-◌, IsSomeAnd, Option, Some, None, List, [], ◌∷◌, ◌++◌, map, length, reverse}
use Rattle.std.proofs.Common.{slice_get, refl, sym, ap, ◌∙◌, subst, arith, append-nil, append_assoc}
use Rattle.std.proofs.lemmas.Bool.{false≢true, and_parts}
use Rattle.irq_base.specs.declared.entries.Actor.{Actor}
use Rattle.irq_base.specs.declared.entries.Actor.TheVariants as actors
use Rattle.irq_base.specs.declared.numbers.DriverNo.{DriverNo}
use Rattle.irq_base.specs.declared.entries.Entry.{Entry}
use Rattle.irq_laws.proofs.Chosen.{the_same}
use Rattle.irq_model.specs.Due.{entries_by}
use Rattle.irq_model.specs.Kinds.{same_actor}
use Rattle.irq_model.proofs.Same.{same_self_actor}
use Rattle.board_def.specs.Rules.{has_driver}
use Rattle.board_def.specs.Seen.{BoardSeen}
use Rattle.board_play.specs.Kept.{IsUpTo}
use Rattle.board_play.specs.Lines.{BoardLine}
use Rattle.line_lock.specs.Knows.{BeginsWith, is_among, longer, without_of}
use Rattle.line_lock.specs.Passes.{LockSeen, PassSeen}
use Rattle.line_lock.specs.Placed.{placed, placed_of}
use Rattle.line_lock.specs.declared.view.Known.{Known}
use Rattle.line_lock.proofs.Actors.{among_either, among_without}
use Rattle.line_lock.proofs.Placing.{begins_self, begins_more}
use Rattle.workers.specs.Fit.{IsPost, own_line, own_lines, IsManned, IsJob, works_on, actors_on}
use Rattle.workers.specs.Gathers.{IsHome, AreHome, HasMetOne, HasMetNone, IsMet, seen_line, seen_lines, IsMetIn, IsBack, AreOut, Gathers}
use Rattle.workers.specs.Gathers.{HasAllOf, IsSeenIn, AreBack}
use Rattle.workers.specs.Seen.{PostSeen, JobSeen}
use Rattle.workers.proofs.Hiring.{actors_more_on}
use Rattle.workers.proofs.Lists.{at_old, at_end, at_map, of_map, there, within}
use Rattle.workers.proofs.Manning.{map_more}
use Rattle.workers.proofs.Own.{own_are_seen, same_places, AreAlike, same_script}

-- the job's pass of a line, and the line's first pass before and after it met that pass
record MetNow (lines : List LockSeen) (j : JobSeen) (old new : List PassSeen) (place : ℕ) (s : PostSeen) : Type 0 where
  now : PassSeen
  before : PassSeen
  at : slice_get new (j.first + place) ≡ Some now
  was : slice_get old (j.first + place) ≡ Some before
  one : HasMetOne lines j (j.first + place) before now
  same : one.post ≡ s

some_there : {A : Type 0} (P : A → Type 0) (o : Option A) → IsSomeAnd o P → (x : A) × (o ≡ Some x)
some_there P None is = absurd is
some_there P (Some x) is = (x, refl)

-- what is seen after a meeting is what was seen, or what the other has seen
either_seen : (a b e : List Entry) → e ≡ longer a b → (e ≡ a) ⊎ (e ≡ b)
either_seen a b e is = by_test (nat_lt (length a) (length b)) is
  where
    by_test : (t : Bool) → e ≡ cond t b a → (e ≡ a) ⊎ (e ≡ b)
    by_test true is = inr is
    by_test false is = inl is

-- there is one more job
seen_in_more : (j : JobSeen) (jobs : List JobSeen) (k : ℕ) (entries : List Entry) → IsSeenIn jobs k entries → IsSeenIn (j ∷ jobs) k entries
seen_in_more j jobs k entries i = record {
  number = suc i.number;
  place = i.place;
  job = i.job;
  post = i.post;
  at_job = i.at_job;
  at_post = i.at_post;
  is = i.is;
  seen = i.seen;
}

among_seen : (who a : Actor) (xs : List Actor) → is_among who (xs ++ a ∷ []) ≡ true → (same_actor a who ≡ false) → is_among who xs ≡ true
among_seen who a xs is other = elim (among_either who a xs is) [
  | inl old ↦ old
  | inr same ↦ absurd (false≢true (sym other
      ∙ (ap (λ (x : Actor). same_actor a x) same ∙ same_self_actor a)))
]

module _ (board : BoardSeen) (lines : List LockSeen) (rest : List JobSeen) (j : JobSeen) (old new : List PassSeen)
    (m : IsMet lines j old new) (home : AreHome lines old) (g : Gathers board lines (rest ++ j ∷ []) old) where
  job : IsJob board lines j
  job = g.each (length rest) j (at_end rest j)

  home_of : (k : ℕ) (p : PassSeen) (l : LockSeen) → slice_get new k ≡ Some p → slice_get lines k ≡ Some l → IsHome l p
  home_of k p l at at_line = subst (λ (o : Option LockSeen). IsSomeAnd o (λ l. IsHome l p)) at_line (m.home.each k p at)

  same_def : (k : ℕ) (p q : PassSeen) → slice_get new k ≡ Some p → slice_get old k ≡ Some q → p.def ≡ q.def
  same_def k p q at was = by_line (slice_get lines k) (m.home.each k p at) (home.each k q was)
    where
      by_line : (o : Option LockSeen) → IsSomeAnd o (λ l. IsHome l p) → IsSomeAnd o (λ l. IsHome l q) → p.def ≡ q.def
      by_line None a b = absurd a
      by_line (Some l) a b = a.of_line.1 ∙ sym b.of_line.1

  -- ---- at one line

  module _ (k : ℕ) (p q : PassSeen) (one : HasMetOne lines j k q p) where
    is_post : IsPost one.line j.actor one.post
    is_post = subst (λ (o : Option LockSeen). IsSomeAnd o (λ l. IsPost l j.actor one.post))
        (ap (λ (i : ℕ). slice_get lines i) (sym one.is) ∙ one.at_line) (job.posted one.place one.post one.at_post)

    out_is : (a : Actor) → is_among a p.knows.out ≡ cond (same_actor j.actor a) false (is_among a q.knows.out)
    out_is a = ap (λ (x : Known). is_among a x.out) one.met.whole
        ∙ (ap (λ (o : Option Actor). is_among a (without_of o q.knows.out)) is_post.actor
        ∙ among_without a j.actor q.knows.out)

    given_same : p.knows.given ≡ q.knows.given
    given_same = ap (λ (x : Known). x.given) one.met.whole

    out_before : (a : Actor) → is_among a p.knows.out ≡ true → (same_actor j.actor a ≡ false) × (is_among a q.knows.out ≡ true)
    out_before a is = by_test (same_actor j.actor a) refl (sym (out_is a) ∙ is)
      where
        by_test : (b : Bool) → same_actor j.actor a ≡ b → cond b false (is_among a q.knows.out) ≡ true
            → (same_actor j.actor a ≡ false) × (is_among a q.knows.out ≡ true)
        by_test true same is = cc
        by_test false other is = (other, is)

    -- the job works on the line
    works : works_on k j ≡ true
    works = let w = within j.posts one.place one.post one.at_post in let e = one.is in
        both (nat_le j.first k) (nat_lt k (j.first + length j.posts)) (from e) (to w e)
      where
        both : (a b : Bool) → a ≡ true → b ≡ true → (a && b) ≡ true
        both true true x y = refl
        both true false x y = cc
        both false b x y = cc

        from : k ≡ j.first + one.place → nat_le j.first k ≡ true
        from e = grind (arith, e)

        to : one.place < length j.posts → k ≡ j.first + one.place → nat_lt k (j.first + length j.posts) ≡ true
        to w e = grind (arith, w, e)

    -- the job's actor is back
    own_back : (is_among j.actor q.knows.out ≡ true → is_among j.actor q.knows.given ≡ true)
        → (is_among j.actor p.knows.given ≡ true) × (is_among j.actor p.knows.out ≡ false)
    own_back given = (
      ap (λ (xs : List Actor). is_among j.actor xs) given_same
          ∙ given (subst (λ (o : Option Actor). IfSome o (λ a. is_among a q.knows.out ≡ true)) is_post.actor
          one.met.was_out),
      out_is j.actor ∙ ap (λ (b : Bool). cond b false (is_among j.actor q.knows.out)) (same_self_actor j.actor),
    )

    own_placed : one.post.pass.knows.mine ≡ placed j.actor p.knows.seen
    own_placed = sym (ap (λ (o : Option Actor). placed_of o p.knows.seen) (sym is_post.actor) ∙ one.met.own)

  -- ---- who is out

  still_out : (k : ℕ) (p : PassSeen) → slice_get new k ≡ Some p → AreOut rest k p
  still_out k p at = let e = m.each k p at in let was = g.out k e.0 e.1 in elim e.2 [
    | inl one ↦
        record {
          given = λ who is. ap (λ (xs : List Actor). is_among who xs) (given_same k p e.0 one) ∙ was.given who (out_before k p e.0 one who is).1;
          out = λ who is.
              let b = out_before k p e.0 one who is in
              among_seen who j.actor (actors_on k rest)
              (ap (λ (xs : List Actor). is_among who xs)
              (sym (actors_more_on k rest j ∙ ap (λ (t : Bool). cond t (actors_on k rest ++ j.actor ∷ [])
              (actors_on k rest)) (works k p e.0 one))) ∙ was.out who b.1) b.0;
        }
    | inr none ↦
        record {
          given = λ who is. ap (λ (x : PassSeen). is_among who x.knows.given) none.1
              ∙ was.given who (ap (λ (x : PassSeen). is_among who x.knows.out) (sym none.1) ∙ is);
          out = λ who is. ap (λ (xs : List Actor). is_among who xs)
              (sym (actors_more_on k rest j ∙ ap (λ (t : Bool). cond t (actors_on k rest ++ j.actor ∷ [])
              (actors_on k rest)) (idle k none.0))) ∙ was.out who
              (ap (λ (x : PassSeen). is_among who x.knows.out) (sym none.1) ∙ is);
        }
  ]
    where
      idle : (k : ℕ) → ((place : ℕ) → place < length j.posts → k ≡ j.first + place → ⊥) → works_on k j ≡ false
      idle k none = by_test (works_on k j) refl
        where
          by_test : (b : Bool) → works_on k j ≡ b → works_on k j ≡ false
          by_test false is = is
          by_test true is =
              absurd
              (let a = and_parts (nat_le j.first k) (nat_lt k (j.first + length j.posts)) is in
              let from : j.first ≤ k = grind (arith, a.0) in
              let to : k < j.first + length j.posts = grind (arith, a.1) in
              none (k - j.first) (omega (arith, from, to)) (omega (arith, from)))

  -- ---- drivers that were back

  back_still : (r : DriverNo) (place : ℕ) → IsBack old r → IsUpTo board.calls (seen_lines old) r place
      → IsBack new r × IsUpTo board.calls (seen_lines new) r place
  back_still r place back up = (back_new, same_script board.calls (seen_lines new) (seen_lines old) r place alike up)
    where
      back_new : IsBack new r
      back_new k p at = let e = m.each k p at in let was = back k e.0 e.1 in elim e.2 [
        | inl one ↦ (
          ap (λ (xs : List Actor). is_among (actors.Driver r) xs) (given_same k p e.0 one)
              ∙ was.0,
          out_is k p e.0 one (actors.Driver r)
              ∙ (ap (λ (b : Bool). cond (same_actor j.actor (actors.Driver r)) false b) was.1
              ∙ either (same_actor j.actor (actors.Driver r))),
        )
        | inr none ↦ (
          ap (λ (x : PassSeen). is_among (actors.Driver r) x.knows.given) none.1
              ∙ was.0,
          ap (λ (x : PassSeen). is_among (actors.Driver r) x.knows.out) none.1 ∙ was.1,
        )
      ]
        where
          either : (b : Bool) → cond b false false ≡ false
          either true = refl
          either false = refl

      places : (k : ℕ) (p q : PassSeen) → slice_get old k ≡ Some q → HasMetOne lines j k q p ⊎ HasMetNone j k q p
          → entries_by r (reverse p.knows.seen) ≡ entries_by r (reverse q.knows.seen)
      places k p q at (inl one) = let was = back k q at in
          same_places r p.knows.seen q.knows.seen (one.met.settled (actors.Driver r) was.0 was.1)
      places k p q at (inr none) = ap (λ (x : PassSeen). entries_by r (reverse x.knows.seen)) none.1

      alike : AreAlike r (seen_lines new) (seen_lines old)
      alike k x at =
          let s = of_map seen_line new k x at in
          let e = m.each k s.0 s.1 in
          subst (λ (y : BoardLine). (z : BoardLine) × (slice_get (seen_lines old) k ≡ Some z) × (y.def ≡ z.def)
          × (entries_by r y.past ≡ entries_by r z.past)) s.2
          (seen_line e.0, at_map seen_line old k e.0 e.1, same_def k s.0 e.0 s.1 e.1, places k s.0 e.0 e.1 e.2)

  -- ---- the job's own driver

  module _ (r : DriverNo) (its : actors.Driver r ≡ j.actor) where
    manned : IsManned board lines j (actors.Driver r)
    manned = subst (λ (a : Actor). IsManned board lines j a) (sym its) job.manned

    every : (k : ℕ) (p q : PassSeen) → slice_get new k ≡ Some p → HasMetOne lines j k q p ⊎ HasMetNone j k q p → HasMetOne lines j k q p
    every k p q at (inl one) = one
    every k p q at (inr none) =
        absurd
        (let w = within new k p at in let a = m.home.as_many in let n = manned.1 in let z = manned.0 in
        none.0 k (omega (arith, w, a, n)) (omega (arith, z)))

    back_now : IsBack new r
    back_now k p at =
        let e = m.each k p at in
        let b = own_back k p e.0 (every k p e.0 at e.2) (λ is. (g.out k e.0 e.1).given j.actor is) in
        subst (λ (a : Actor). (is_among a p.knows.given ≡ true) × (is_among a p.knows.out ≡ false)) (sym its) b

    own_at : (k : ℕ) (p q : PassSeen) → slice_get new k ≡ Some p → HasMetOne lines j k q p
        → (z : BoardLine) × (slice_get (own_lines j.posts) k ≡ Some z) × (p.def ≡ z.def)
        × (entries_by r (reverse p.knows.seen) ≡ entries_by r z.past)
    own_at k p q at one =
        let z = manned.0 in
        let is : one.place ≡ k = let e = one.is in omega (arith, e, z) in (
          own_line one.post,
          at_map own_line j.posts k one.post (ap (λ (i : ℕ). slice_get j.posts i) (sym is) ∙ one.at_post),
          (home_of k p one.line at one.at_line).of_line.1 ∙ sym (is_post k p q one).of_line.1,
          sym (own_are_seen r p.knows.seen one.post.pass.knows.mine
              (own_placed k p q one ∙ ap (λ (a : Actor). placed a p.knows.seen) (sym its))),
        )

    up_now : IsUpTo board.calls (seen_lines new) r j.at
    up_now = same_script board.calls (seen_lines new) (own_lines j.posts) r j.at alike manned.2
      where
        alike : AreAlike r (seen_lines new) (own_lines j.posts)
        alike k x at =
            let s = of_map seen_line new k x at in
            let e = m.each k s.0 s.1 in
            subst (λ (y : BoardLine). (z : BoardLine) × (slice_get (own_lines j.posts) k ≡ Some z) × (y.def ≡ z.def)
            × (entries_by r y.past ≡ entries_by r z.past)) s.2
            (own_at k s.0 e.0 s.1 (every k s.0 e.0 s.1 e.2))

  pub gathers_on : Gathers board lines rest new
  gathers_on =
      record {
        each = λ i x at. g.each i x (at_old rest (j ∷ []) i x at);
        out = still_out;
        drivers = drivers;
      }
    where
      drivers : (r : DriverNo) → has_driver board.drivers r ≡ true
          → (is_among (actors.Driver r) (map (λ (j : JobSeen). j.actor) rest) ≡ true)
          ⊎ (IsBack new r × ((place : ℕ) × IsUpTo board.calls (seen_lines new) r place))
      drivers r declared = elim (g.drivers r declared) [
        | inl among ↦ elim (among_either (actors.Driver r) j.actor (map (λ (j : JobSeen). j.actor) rest)
            (ap (λ (xs : List Actor). is_among (actors.Driver r) xs) (sym (map_more (λ (j : JobSeen). j.actor) rest j))
            ∙ among)) [
              | inl left ↦ inl left
              | inr its ↦ inr (back_now r its, (j.at, up_now r its))
            ]
        | inr back ↦ let still = back_still r back.1.0 back.0 back.1.1 in inr (still.0, (back.1.0, still.1))
      ]

  -- ---- what has come back

  own_met : (place : ℕ) (s : PostSeen) → slice_get j.posts place ≡ Some s → MetNow lines j old new place s
  own_met place s at =
      let l = some_there (λ (l : LockSeen). IsPost l j.actor s) (slice_get lines (j.first + place)) (job.posted place s at) in
      let w = within lines (j.first + place) l.0 l.1 in
      let a = m.home.as_many in
      let p = there new (j.first + place) (omega (arith, w, a)) in
      let e = m.each (j.first + place) p.0 p.1 in
      by_case p.0 e.0 p.1 e.1 e.2
    where
      same_post : (one_place : ℕ) (post : PostSeen) → slice_get j.posts one_place ≡ Some post → j.first + place ≡ j.first + one_place → post ≡ s
      same_post one_place post at_post is =
          let e : one_place ≡ place = omega (arith, is) in
          the_same post s (sym at_post ∙ (ap (λ (n : ℕ). slice_get j.posts n) e ∙ at))

      by_case : (p q : PassSeen) → slice_get new (j.first + place) ≡ Some p → slice_get old (j.first + place) ≡ Some q
          → HasMetOne lines j (j.first + place) q p ⊎ HasMetNone j (j.first + place) q p → MetNow lines j old new place s
      by_case p q at_p at_q (inl one) =
          record { now = p; before = q; at = at_p; was = at_q; one = one; same = same_post one.place one.post one.at_post one.is }
      by_case p q at_p at_q (inr none) = absurd (none.0 place (within j.posts place s at) refl)

  line_def : (k : ℕ) (p q : PassSeen) → slice_get new k ≡ Some p → (one : HasMetOne lines j k q p) → p.def ≡ one.line.def
  line_def k p q at one = (home_of k p one.line at one.at_line).of_line.1

  own_all : (place : ℕ) (s : PostSeen) → slice_get j.posts place ≡ Some s → IsSomeAnd (slice_get new (j.first + place))
      (λ p. HasAllOf p.def p.knows.seen j.actor s.pass × IsMetIn j.actor p)
  own_all place s at = let x = own_met place s at in subst
      (λ (o : Option PassSeen). IsSomeAnd o (λ p. HasAllOf p.def p.knows.seen j.actor s.pass × IsMetIn j.actor p))
      (sym x.at) (all x)
    where
      all : (x : MetNow lines j old new place s) → HasAllOf x.now.def x.now.knows.seen j.actor s.pass × IsMetIn j.actor x.now
      all x = (
        record {
          of_line = ap (λ (t : PostSeen). t.pass.def) (sym x.same)
              ∙ ((is_post (j.first + place) x.now x.before x.one).of_line.1 ∙ sym (line_def (j.first + place) x.now x.before x.at x.one));
          begins = subst (λ (t : PostSeen). BeginsWith x.now.knows.seen t.pass.knows.seen) x.same x.one.met.begins_other;
          own = sym (own_placed (j.first + place) x.now x.before x.one) ∙ ap (λ (t : PostSeen). t.pass.knows.mine) x.same;
        },
        own_back (j.first + place) x.now x.before x.one (λ is. (g.out (j.first + place) x.before x.was).given j.actor is),
      )

  -- the first pass of a line afterwards
  after_of : (k : ℕ) (q : PassSeen) → slice_get old k ≡ Some q
      → (p : PassSeen) × (slice_get new k ≡ Some p) × (HasMetOne lines j k q p ⊎ HasMetNone j k q p)
  after_of k q at =
      let w = within old k q at in
      let a = home.as_many in
      let b = m.home.as_many in
      let p = there new k (omega (arith, w, a, b)) in
      let e = m.each k p.0 p.1 in
      (p.0, p.1, subst (λ (x : PassSeen). HasMetOne lines j k x p.0 ⊎ HasMetNone j k x p.0) (the_same e.0 q (sym e.1 ∙ at)) e.2)

  -- what was met before stays so
  met_still : (who : Actor) (pass : PassSeen) (k : ℕ) (p q : PassSeen) → slice_get new k ≡ Some p → slice_get old k ≡ Some q
      → HasMetOne lines j k q p ⊎ HasMetNone j k q p → HasAllOf q.def q.knows.seen who pass × IsMetIn who q
      → HasAllOf p.def p.knows.seen who pass × IsMetIn who p
  met_still who pass k p q at was (inl one) all = (
    record {
      of_line = all.0.of_line ∙ sym (same_def k p q at was);
      begins = begins_more p.knows.seen q.knows.seen pass.knows.seen one.met.begins all.0.begins;
      own = one.met.settled who all.1.0 all.1.1 ∙ all.0.own;
    },
    (
      ap (λ (xs : List Actor). is_among who xs) (given_same k p q one) ∙ all.1.0,
      out_is k p q one who ∙ (ap (λ (b : Bool). cond (same_actor j.actor who) false b) all.1.1 ∙ either (same_actor j.actor who)),
    ),
  )
    where
      either : (b : Bool) → cond b false false ≡ false
      either true = refl
      either false = refl
  met_still who pass k p q at was (inr none) all =
      subst (λ (x : PassSeen). HasAllOf x.def x.knows.seen who pass × IsMetIn who x) (sym none.1) all

  module _ (start : List PassSeen) (done : List JobSeen) (b : AreBack board done start old) where
    lines_more : (k : ℕ) (p : PassSeen) → slice_get new k ≡ Some p
        → (q : PassSeen) × (slice_get start k ≡ Some q) × BeginsWith p.knows.seen q.knows.seen
        × ((p.knows.seen ≡ q.knows.seen) ⊎ IsSeenIn (j ∷ done) k p.knows.seen)
    lines_more k p at =
        let e = m.each k p at in
        let s = b.lines k e.0 e.1 in
        (s.0, s.1, begins e.0 s.0 e.2 s.2, seen e.0 s.0 e.2 s.3)
      where
        begins : (q s : PassSeen) → HasMetOne lines j k q p ⊎ HasMetNone j k q p → BeginsWith q.knows.seen s.knows.seen
            → BeginsWith p.knows.seen s.knows.seen
        begins q s (inl one) before = begins_more p.knows.seen q.knows.seen s.knows.seen one.met.begins before
        begins q s (inr none) before = subst (λ (x : PassSeen). BeginsWith x.knows.seen s.knows.seen) (sym none.1) before

        earlier : (q s : PassSeen) → p.knows.seen ≡ q.knows.seen → (q.knows.seen ≡ s.knows.seen) ⊎ IsSeenIn done k q.knows.seen
            → (p.knows.seen ≡ s.knows.seen) ⊎ IsSeenIn (j ∷ done) k p.knows.seen
        earlier q s same (inl first) = inl (same ∙ first)
        earlier q s same (inr its) = inr (seen_in_more j done k p.knows.seen (subst (λ (es : List Entry). IsSeenIn done k es) (sym same) its))

        seen : (q s : PassSeen) → HasMetOne lines j k q p ⊎ HasMetNone j k q p
            → (q.knows.seen ≡ s.knows.seen) ⊎ IsSeenIn done k q.knows.seen
            → (p.knows.seen ≡ s.knows.seen) ⊎ IsSeenIn (j ∷ done) k p.knows.seen
        seen q s (inr none) before = earlier q s (ap (λ (x : PassSeen). x.knows.seen) none.1) before
        seen q s (inl one) before =
            elim (either_seen q.knows.seen one.post.pass.knows.seen p.knows.seen (ap (λ (x : Known). x.seen) one.met.whole)) [
              | inl same ↦ earlier q s same before
              | inr its ↦ inr (record {
                number = 0;
                place = one.place;
                job = j;
                post = one.post;
                at_job = refl;
                at_post = one.at_post;
                is = one.is;
                seen = its;
              })
            ]

    given_more : (k : ℕ) (p : PassSeen) → slice_get new k ≡ Some p
        → (q : PassSeen) × (slice_get start k ≡ Some q) × (p.knows.given ≡ q.knows.given)
    given_more k p at =
        let e = m.each k p at in
        let s = b.given k e.0 e.1 in
        (s.0, s.1, same e.0 e.2 ∙ s.2)
      where
        same : (q : PassSeen) → HasMetOne lines j k q p ⊎ HasMetNone j k q p → p.knows.given ≡ q.knows.given
        same q (inl one) = given_same k p q one
        same q (inr none) = ap (λ (x : PassSeen). x.knows.given) none.1

    each_more : (i place : ℕ) (x : JobSeen) (s : PostSeen) → slice_get (j ∷ done) i ≡ Some x → slice_get x.posts place ≡ Some s
        → IsSomeAnd (slice_get new (x.first + place)) (λ p. HasAllOf p.def p.knows.seen x.actor s.pass × IsMetIn x.actor p)
    each_more zero place x s at_job at_post =
        subst (λ (y : JobSeen). slice_get y.posts place ≡ Some s → IsSomeAnd (slice_get new (y.first + place))
        (λ p. HasAllOf p.def p.knows.seen y.actor s.pass × IsMetIn y.actor p)) (the_same j x at_job)
        (λ at. own_all place s at) at_post
    each_more (suc i) place x s at_job at_post = by_option (slice_get old (x.first + place)) refl (b.each i place x s at_job at_post)
      where
        by_option : (o : Option PassSeen) → slice_get old (x.first + place) ≡ o
            → IsSomeAnd o (λ p. HasAllOf p.def p.knows.seen x.actor s.pass × IsMetIn x.actor p)
            → IsSomeAnd (slice_get new (x.first + place)) (λ p. HasAllOf p.def p.knows.seen x.actor s.pass × IsMetIn x.actor p)
        by_option None was all = absurd all
        by_option (Some q) was all =
            let p = after_of (x.first + place) q was in
            subst (λ (o : Option PassSeen). IsSomeAnd o (λ p. HasAllOf p.def p.knows.seen x.actor s.pass × IsMetIn x.actor p))
            (sym p.1) (met_still x.actor s.pass (x.first + place) p.0 q p.1 was p.2 all)

    drivers_more : (i : ℕ) (x : JobSeen) (r : DriverNo) → slice_get (j ∷ done) i ≡ Some x → x.actor ≡ actors.Driver r
        → IsBack new r × IsUpTo board.calls (seen_lines new) r x.at
    drivers_more zero x r at is =
        subst (λ (y : JobSeen). y.actor ≡ actors.Driver r → IsBack new r × IsUpTo board.calls (seen_lines new) r y.at) (the_same j x at)
        (λ its. (back_now r (sym its), up_now r (sym its))) is
    drivers_more (suc i) x r at is = let before = b.drivers i x r at is in back_still r x.at before.0 before.1

    pub back_on : AreBack board (j ∷ done) start new
    back_on = record { lines = lines_more; given = given_more; each = each_more; drivers = drivers_more }

pub none_back : (board : BoardSeen) (firsts : List PassSeen) → AreBack board [] firsts firsts
none_back board firsts = record {
  lines = λ k p at. (p, at, begins_self p.knows.seen, inl refl);
  given = λ k p at. (p, at, refl);
  each = λ i place j s at_job at_post. cc;
  drivers = λ i j r at is. cc;
}

-- ---- the same, as the loop meets it

-- some jobs are left, and the others have come back
pub record HaveCome (board : BoardSeen) (all left : List JobSeen) (start now : List PassSeen) : Type 0 where
  pub done : List JobSeen
  pub split : all ≡ left ++ done
  pub back : AreBack board done start now

pub none_came : (board : BoardSeen) (all : List JobSeen) (start : List PassSeen) → HaveCome board all all start start
none_came board all start = record { done = []; split = sym (append-nil all); back = none_back board start }

pub one_came : (board : BoardSeen) (lines : List LockSeen) (all left before : List JobSeen) (j : JobSeen) (start old new : List PassSeen)
    → left ≡ before ++ j ∷ [] → IsMet lines j old new → AreHome lines old → Gathers board lines (before ++ j ∷ []) old
    → HaveCome board all left start old → HaveCome board all before start new
one_came board lines all left before j start old new popped m home g h = record {
  done = j ∷ h.done;
  split = h.split ∙ (ap (λ (js : List JobSeen). js ++ h.done) popped ∙ append_assoc before (j ∷ []) h.done);
  back = back_on board lines before j old new m home g start h.done h.back;
}

pub all_came : (board : BoardSeen) (all left : List JobSeen) (start now : List PassSeen) → left ≡ []
    → HaveCome board all left start now → AreBack board all start now
all_came board all left start now none h =
    subst (λ (js : List JobSeen). AreBack board js start now) (sym (h.split ∙ ap (λ (js : List JobSeen). js ++ h.done) none)) h.back
