-- The first passes meet the passes of one job, from its last pass down.
use Rattle.std.proofs.Common.{◌≡◌, ℕ, ◌+◌, ◌<◌, ◌≤◌, ◌⊎◌, inl, inr, false, IsSomeAnd, Option, Some, None, List, [], ◌∷◌}
use Rattle.std.proofs.Common.{◌++◌, length, get_or, set, slice_get, refl, sym, ap, ◌∙◌, subst, arith}
use Rattle.std.proofs.Math.ListN.{length-set}
use Rattle.line_lock.specs.Knows.{Meets}
use Rattle.line_lock.specs.Passes.{LockSeen, PassSeen, IsPassOf}
use Rattle.line_lock.specs.declared.view.Known.{Known}
use Rattle.workers.specs.Fit.{IsPost, ArePosted}
use Rattle.workers.specs.Gathers.{IsHome, AreHome, HasMetOne, IsMet}
use Rattle.workers.specs.Seen.{PostSeen, JobSeen}
use Rattle.workers.proofs.Lists.{at_set, at_old, at_end, there_or, within, length_snoc}

-- the passes from place n on were met; the passes before it are left
pub record IsMeeting (lines : List LockSeen) (j : JobSeen) (old new : List PassSeen) (left : List PostSeen) : Type 0 where
  pub home : AreHome lines new
  pub some : (i : ℕ) (s : PostSeen) → slice_get left i ≡ Some s → slice_get j.posts i ≡ Some s
  pub each : (k : ℕ) (p : PassSeen) → slice_get new k ≡ Some p → (q : PassSeen) × (slice_get old k ≡ Some q)
      × (((length left ≤ length j.posts) × HasMetOne lines j k q p × (j.first + length left ≤ k))
      ⊎ (((place : ℕ) → length left ≤ place → place < length j.posts → k ≡ j.first + place → ⊥) × (p ≡ q)))

pub none_met : (lines : List LockSeen) (j : JobSeen) (firsts : List PassSeen) → AreHome lines firsts → IsMeeting lines j firsts firsts j.posts
none_met lines j firsts home = record { home = home; some = λ i s at. at; each = λ k p at. (p, at, inr ((λ place a b is. omega (arith, a, b)), refl)) }

pub all_met : (lines : List LockSeen) (j : JobSeen) (old new : List PassSeen) → IsMeeting lines j old new [] → IsMet lines j old new
all_met lines j old new m = record {
  home = m.home;
  each = λ k p at. let e = m.each k p at in (
    e.0,
    e.1,
    elim e.2 [
      | inl one ↦ inl one.1
      | inr none ↦ inr
          ((λ place less is. none.0 place (omega arith) less is), none.1)
    ],
  );
}

-- The pass that the loop takes next, `s`: it was the last of those that are left, and its line is the one at `place`.
pub record Taken (lines : List LockSeen) (j : JobSeen) (old mid : List PassSeen) (left before : List PostSeen) (s : PostSeen) (place : ℕ) : Type 0 where
  pub posted : ArePosted lines j
  pub meeting : IsMeeting lines j old mid left
  pub popped : left ≡ before ++ s ∷ []
  pub place_is : place ≡ j.first + length before

module _ {lines : List LockSeen} {j : JobSeen} {old mid : List PassSeen} {left before : List PostSeen} {s : PostSeen} {place : ℕ}
    (t : Taken lines j old mid left before s place)
  where
    longer : length left ≡ length before + 1
    longer = ap (λ (ss : List PostSeen). length ss) t.popped ∙ length_snoc before s

    at_n : slice_get left (length before) ≡ Some s
    at_n = ap (λ (ss : List PostSeen). slice_get ss (length before)) t.popped ∙ at_end before s

    at_post : slice_get j.posts (length before) ≡ Some s
    at_post = t.meeting.some (length before) s at_n

    -- the line of the pass
    is_post_at : IsSomeAnd (slice_get lines place) (λ l. IsPost l j.actor s)
    is_post_at = subst (λ (i : ℕ). IsSomeAnd (slice_get lines i) (λ l. IsPost l j.actor s)) (sym t.place_is) (t.posted (length before) s at_post)

    pub in_lines : place < length lines
    in_lines = by_line (slice_get lines place) refl is_post_at
      where
        by_line : (o : Option LockSeen) → slice_get lines place ≡ o → IsSomeAnd o (λ l. IsPost l j.actor s) → place < length lines
        by_line None at is = absurd is
        by_line (Some l) at is = within lines place l at

    pub in_firsts : place < length mid
    in_firsts = let w = in_lines in let a = t.meeting.home.as_many in omega (arith, w, a)

    -- the line, and its first pass
    module _ {l : LockSeen} (is_line : l ≡ get_or lines place l) {p : PassSeen} (is_pass : p ≡ get_or mid place p) where
      line_here : slice_get lines place ≡ Some l
      line_here = there_or lines place l in_lines ∙ ap (λ (x : LockSeen). Some x) (sym is_line)

      pass_here : slice_get mid place ≡ Some p
      pass_here = there_or mid place p in_firsts ∙ ap (λ (x : PassSeen). Some x) (sym is_pass)

      pub home_here : IsHome l p
      home_here = subst (λ (o : Option LockSeen). IsSomeAnd o (λ l. IsHome l p)) line_here (t.meeting.home.each place p pass_here)

      pub post_here : IsPost l j.actor s
      post_here = subst (λ (o : Option LockSeen). IsSomeAnd o (λ l. IsPost l j.actor s)) line_here is_post_at

      one_on : (i : ℕ) → length before ≤ i → (i ≡ length before → ⊥) → length left ≤ i
      one_on i from apart = let b = longer in elim (either i from) [ inl same ↦ absurd (apart same) | inr more ↦ omega (arith, more, b) ]
        where
          either : (i : ℕ) → length before ≤ i → (i ≡ length before) ⊎ (length before < i)
          either i from = grind arith

      pub met_next : (new : PassSeen) → IsPassOf l new → new.turn ≡ false → Meets p.knows s.pass.knows new.knows
          → IsMeeting lines j old (set mid place new) before
      met_next new of_line idle met =
          record {
            home = record {
              as_many = length-set mid place new ∙ t.meeting.home.as_many;
              each = homes;
            };
            some = λ i post at. t.meeting.some i post (ap (λ (ss : List PostSeen). slice_get ss i) t.popped ∙ at_old before (s ∷ []) i post at);
            each = each;
          }
        where
          is_first : new.knows.actor ≡ None
          is_first = ap (λ (k : Known). k.actor) met.whole ∙ home_here.first

          homes : (k : ℕ) (q : PassSeen) → slice_get (set mid place new) k ≡ Some q → IsSomeAnd (slice_get lines k) (λ l. IsHome l q)
          homes k q at = elim (at_set mid place new k q at) [
            | inl here ↦
                subst (λ (o : Option LockSeen). IsSomeAnd o (λ l. IsHome l q)) (sym (ap (λ (i : ℕ). slice_get lines i) here.0 ∙ line_here))
                (subst (λ (r : PassSeen). IsHome l r) (sym here.1) (record { of_line = of_line; idle = idle; first = is_first }))
            | inr other ↦ t.meeting.home.each k q other.1
          ]

          each : (k : ℕ) (q : PassSeen) → slice_get (set mid place new) k ≡ Some q → (r : PassSeen) × (slice_get old k ≡ Some r)
              × (((length before ≤ length j.posts) × HasMetOne lines j k r q × (j.first + length before ≤ k))
              ⊎ (((i : ℕ) → length before ≤ i → i < length j.posts → k ≡ j.first + i → ⊥) × (q ≡ r)))
          each k q at = elim (at_set mid place new k q at) [
            | inl here ↦
                let was = t.meeting.each place p pass_here in
                let same : p ≡ was.0 = elim was.2 [
                  | inl one ↦ absurd (let a = one.2 in let b = longer in let c = t.place_is in omega (arith, a, b, c))
                  | inr none ↦ none.1
                ] in (
                  p,
                  ap (λ (i : ℕ). slice_get old i) here.0 ∙ (was.1 ∙ ap (λ (x : PassSeen). Some x) (sym same)),
                  inl (
                    (let w = within j.posts (length before) s at_post in omega (arith, w)),
                    record {
                      line = l;
                      place = length before;
                      post = s;
                      at_line = ap (λ (i : ℕ). slice_get lines i) here.0 ∙ line_here;
                      at_post = at_post;
                      is = here.0 ∙ t.place_is;
                      met = subst (λ (x : PassSeen). Meets p.knows s.pass.knows x.knows) (sym here.1) met;
                    },
                    (let e = here.0 in let c = t.place_is in omega (arith, e, c)),
                  ),
                )
            | inr other ↦
                let was = t.meeting.each k q other.1 in (
                  was.0,
                  was.1,
                  elim was.2 [
                    | inl one ↦ inl (let b = longer in (let a = one.0 in omega (arith, a, b), one.1, let c = one.2 in omega (arith, c, b)))
                    | inr none ↦
                        inr (
                          (λ i from less is.
                              none.0 i (one_on i from (λ same. other.0 (is ∙ (ap (λ (n : ℕ). j.first + n) same ∙ sym t.place_is)))) less is),
                          none.1,
                        )
                  ],
                )
          ]
