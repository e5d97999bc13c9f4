-- One try with a pass of a job.
use Rattle.std.proofs.Common.{◌≡◌, ℕ, ◌+◌, ◌<◌, inl, inr, true, false, IsSome, IsSomeAnd, Option, Some, None, Result, Ok, Err}
use Rattle.std.proofs.Common.{List, length, get_or, set, slice_get, slice_set, refl, sym, ap, ◌∙◌, subst, arith}
use Rattle.irq_base.specs.declared.entries.Actor.{Actor}
use Rattle.irq_base.specs.declared.entries.Entry.{Entry}
use Rattle.irq_base.specs.declared.lines.LineDef.{LineDef}
use Rattle.irq_laws.proofs.Chosen.{the_same}
use Rattle.irq_line.specs.declared.answers.StepRefused.{StepRefused}
use Rattle.line_lock.specs.Passes.{LockSeen, IsPassOf}
use Rattle.line_lock.specs.declared.view.Known.{Known}
use Rattle.workers.specs.Fit.{IsPost, ArePosted}
use Rattle.workers.specs.Seen.{PostSeen, JobSeen}
use Rattle.workers.specs.Tries.{IsIdle, Tries, rests_after}
use Rattle.workers.specs.Attempts.{StepsPost}
use Rattle.workers.proofs.Lists.{at_set, there, there_or, within}
use Rattle.workers.specs.Terms.{Terms}

-- the line of the pass at index `place`
pub record AtPlace (lines : List LockSeen) (j : JobSeen) (place : ℕ) : Type 0 where
  pub line : LockSeen
  pub post : PostSeen
  pub at_line : slice_get lines (j.first + place) ≡ Some line
  pub at_post : slice_get j.posts place ≡ Some post
  pub is_post : IsPost line j.actor post
  pub in_lines : j.first + place < length lines

pub at_place : (lines : List LockSeen) (j : JobSeen) (place : ℕ) → ArePosted lines j → place < length j.posts → AtPlace lines j place
at_place lines j place posted less =
    let s = there j.posts place less in by_line s.0 s.1 (slice_get lines (j.first + place)) refl (posted place s.0 s.1)
  where
    by_line : (s : PostSeen) → slice_get j.posts place ≡ Some s → (o : Option LockSeen)
        → slice_get lines (j.first + place) ≡ o → IsSomeAnd o (λ l. IsPost l j.actor s) → AtPlace lines j place
    by_line s at None at_line is = absurd is
    by_line s at (Some l) at_line is = record {
      line = l;
      post = s;
      at_line = at_line;
      at_post = at;
      is_post = is;
      in_lines
          = within lines (j.first + place) l at_line;
    }

-- when nothing was due, that is known
rests_idle : (terms : Terms) (def : LineDef) (who : Actor) (old new : Known)
    (tried : Result (Option Entry) StepRefused) → Tries terms def who old tried new → rests_after tried ≡ true → IsIdle def who new
rests_idle terms def who old new (Ok (Some e)) t is = cc
rests_idle terms def who old new (Ok None) t is = t.came.0
rests_idle terms def who old new (Err refused) t is = cc

-- what a step with a pass of the line asks for, and what it leaves: the contract of `Post::step`
pub record CanStep (line : LockSeen) (post : PostSeen) : Type 0 where
  pub of_line : IsPassOf line post.pass
  pub idle : post.pass.turn ≡ false
  pub actor : IsSome post.pass.knows.actor
  pub known : post.rests ≡ true → (who : Actor) → post.pass.knows.actor ≡ Some who → IsIdle line.def who post.pass.knows

pub record Stepped (terms : Terms) (line : LockSeen) (post : PostSeen)
    (tried : Result (Option Entry) StepRefused) (after : PostSeen) : Type 0 where
  pub of_line : IsPassOf line after.pass
  pub idle : after.pass.turn ≡ false
  pub actor : after.pass.knows.actor ≡ post.pass.knows.actor
  pub rests : after.rests ≡ rests_after tried
  pub tries : (who : Actor) → post.pass.knows.actor ≡ Some who → Tries terms line.def who post.pass.knows tried after.pass.knows

-- The code's own lines and its own job, where the job tries the pass at index `place`: they are those that contracts
-- see, and the line and the pass at that place are these.
pub record AtHand (lines : List LockSeen) (j : JobSeen) (place : ℕ) : Type 0 where
  pub here : List LockSeen
  pub inside : JobSeen
  pub lines_are : here ≡ lines
  pub job_is : inside ≡ j
  pub at : AtPlace lines j place

abbrev pub at_hand : {here lines : List LockSeen} {inside j : JobSeen} {place : ℕ} → here ≡ lines → inside ≡ j
    → ArePosted lines j → place < length j.posts → AtHand lines j place
at_hand {here} {lines} {inside} {j} {place} lines_are job_is posted less =
    record {
      here = here;
      inside = inside;
      lines_are = lines_are;
      job_is = job_is;
      at = at_place lines j place posted less;
    }

module _ {lines : List LockSeen} {j : JobSeen} {place : ℕ} (h : AtHand lines j place) where
  k_is : h.inside.first + place ≡ j.first + place
  k_is = ap (λ (x : JobSeen). x.first + place) h.job_is

  pub in_here : h.inside.first + place < length h.here
  in_here = let w = h.at.in_lines in let e = ap (λ (ls : List LockSeen). length ls) h.lines_are in let k = k_is in omega (arith, w, e, k)

  pub line_is : {l : LockSeen} → l ≡ get_or h.here (h.inside.first + place) l → l ≡ h.at.line
  line_is {l} is =
      the_same l h.at.line
      (ap (λ (x : LockSeen). Some x) is ∙ (sym (there_or h.here (h.inside.first + place) l in_here)
      ∙ (ap (λ (ls : List LockSeen). slice_get ls (h.inside.first + place)) h.lines_are
      ∙ (ap (λ (i : ℕ). slice_get lines i) k_is ∙ h.at.at_line))))

  pub post_is : {s : PostSeen} → s ≡ get_or h.inside.posts place s → s ≡ h.at.post
  post_is {s} is =
      let are = ap (λ (x : JobSeen). x.posts) h.job_is in
      let less : place < length h.inside.posts = let w = within j.posts place h.at.post h.at.at_post in
      let e = ap (λ (ss : List PostSeen). length ss) are in omega (arith, w, e) in
      the_same s h.at.post (ap (λ (x : PostSeen). Some x) is
      ∙ (sym (there_or h.inside.posts place s less) ∙ (ap (λ (ss : List PostSeen). slice_get ss place) are ∙ h.at.at_post)))

  -- the line and the pass, as the code has them
  module _ {line : LockSeen} (is_line : line ≡ get_or h.here (h.inside.first + place) line)
      {post : PostSeen} (is_post : post ≡ get_or h.inside.posts place post) where
    pub can_step : CanStep line post
    can_step =
        let p = h.at.is_post in
        subst (λ (l : LockSeen). CanStep l post) (sym (line_is is_line)) (subst (λ (s : PostSeen). CanStep h.at.line s) (sym (post_is is_post)) (record {
          of_line = p.of_line;
          idle = p.idle;
          actor = subst (λ (o : Option Actor). IsSome o) (sym p.actor) refl;
          known = λ still who is. subst (λ (b : Actor). IsIdle h.at.line.def b h.at.post.pass.knows) (the_same j.actor who (sym p.actor ∙ is)) (p.rests still);
        }))

    pub steps_post : (terms : Terms) {tried : Result (Option Entry) StepRefused} {after : PostSeen}
        → Stepped terms line post tried after
        → StepsPost terms lines place tried j (record h.inside { posts = slice_set h.inside.posts place after })
    steps_post terms {tried} {after} stepped =
        let a = h.at in
        let s : Stepped terms a.line a.post tried after = subst (λ (x : PostSeen). Stepped terms a.line x tried after) (post_is is_post)
        (subst (λ (l : LockSeen). Stepped terms l post tried after) (line_is is_line) stepped) in
        let t = s.tries j.actor a.is_post.actor in
        record {
          line = a.line;
          post = a.post;
          after = after;
          at_line = a.at_line;
          at_post = a.at_post;
          is = ap (λ (x : JobSeen). record x { posts = slice_set x.posts place after }) h.job_is;
          is_post = record {
            of_line = s.of_line;
            idle = s.idle;
            actor = s.actor ∙ a.is_post.actor;
            legal = t.legal a.is_post.legal;
            own = t.own a.is_post.own;
            rests = λ r. rests_idle terms a.line.def j.actor a.post.pass.knows after.pass.knows tried t (sym s.rests ∙ r);
          };
          tries = t;
          rests = s.rests;
        }

-- ---- what a try keeps

module _ (terms : Terms) where
  pub still_posted : (lines : List LockSeen) (place : ℕ) (tried : Result (Option Entry) StepRefused) (old new : JobSeen) → ArePosted lines old
      → StepsPost terms lines place tried old new → ArePosted lines new
  still_posted lines place tried old new posted s =
      subst (λ (j : JobSeen). ArePosted lines j) (sym s.is) each
    where
      each : ArePosted lines (record old { posts = set old.posts place s.after })
      each i t at = elim (at_set old.posts place s.after i t at) [
        | inl here ↦
            subst (λ (o : Option LockSeen). IsSomeAnd o (λ l. IsPost l old.actor t))
            (sym (ap (λ (k : ℕ). slice_get lines (old.first + k)) here.0 ∙ s.at_line))
            (subst (λ (x : PostSeen). IsPost s.line old.actor x) (sym here.1) s.is_post)
        | inr other ↦ posted i t other.1
      ]
