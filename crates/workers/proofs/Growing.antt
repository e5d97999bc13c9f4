-- What passes have seen grows.
use Rattle.std.proofs.Common.{◌≡◌, ℕ, zero, suc, ◌<◌, IsSomeAnd, Option, Some, None, Result, Ok, Err, List, [], ◌∷◌, ◌++◌}
use Rattle.std.proofs.Common.{length, get_or, set, reverse, slice_get, refl, sym, ap, ◌∙◌, subst, arith, append_assoc, append-nil}
use Rattle.irq_base.specs.declared.devices.Answer.{Answer}
use Rattle.irq_base.specs.declared.devices.Run.{Run}
use Rattle.irq_base.specs.declared.entries.Actor.{Actor}
use Rattle.irq_base.specs.declared.entries.Entry.{Entry}
use Rattle.irq_base.specs.declared.lines.LineDef.{LineDef}
use Rattle.irq_laws.proofs.Chosen.{the_same}
use Rattle.irq_line.specs.declared.answers.StepRefused.{StepRefused}
use Rattle.irq_line.specs.declared.answers.StepRefused.TheVariants as refusals
use Rattle.line_lock.specs.Passes.{LockSeen}
use Rattle.line_lock.specs.declared.view.Known.{Known}
use Rattle.line_lock.specs.declared.view.Placed.{Placed}
use Rattle.line_lock.proofs.Placing.{begins_self, begins_more}
use Rattle.workers.specs.Attempts.{StepsPost}
use Rattle.workers.specs.Fit.{IsPost, ArePosted}
use Rattle.workers.specs.Given.{AreOwnGiven, IsPassGiven}
use Rattle.workers.specs.Grown.{Grows, PostsGrow, JobGrows, JobsGrow}
use Rattle.workers.specs.Seen.{PostSeen, JobSeen}
use Rattle.workers.specs.Tries.{Tries}
use Rattle.workers.proofs.Given.{tried_given}
use Rattle.workers.proofs.Lists.{there_or, within}
use Rattle.workers.specs.Terms.{Terms}

pub some_at : {A : Type 0} (o : Option A) (P : A → Type 0) → IsSomeAnd o P → (x : A) × (o ≡ Some x) × P x
some_at None P is = absurd is
some_at (Some x) P is = (x, refl, is)

-- ---- one pass

pub grows_self : {gave : Run → Answer → Type 0} (s : PostSeen) → Grows gave s s
grows_self {gave} s =
    record {
      table = refl;
      def = refl;
      actor = refl;
      seen = begins_self s.pass.knows.seen;
      mine = ([], sym (append-nil s.pass.knows.mine));
      given = λ given. given;
    }

pub grows_more : {gave : Run → Answer → Type 0} (a b c : PostSeen) → Grows gave a b → Grows gave b c → Grows gave a c
grows_more a b c v w =
    record {
      table = w.table ∙ v.table;
      def = w.def ∙ v.def;
      actor = w.actor ∙ v.actor;
      seen = begins_more c.pass.knows.seen b.pass.knows.seen a.pass.knows.seen w.seen v.seen;
      mine = (
        v.mine.0 ++ w.mine.0,
        w.mine.1 ∙ (ap (λ (ps : List Placed). ps ++ w.mine.0) v.mine.1 ∙ append_assoc a.pass.knows.mine v.mine.0 w.mine.0),
      );
      given = λ given. w.given (v.given given);
    }

-- ---- the passes of a job

pub posts_self : (gave : Run → Answer → Type 0) (xs : List PostSeen) → PostsGrow gave xs xs
posts_self gave xs i s at = subst (λ (o : Option PostSeen). IsSomeAnd o (λ t. Grows gave s t)) (sym at) (grows_self s)

pub posts_more : (gave : Run → Answer → Type 0) (a b c : List PostSeen) → PostsGrow gave a b → PostsGrow gave b c → PostsGrow gave a c
posts_more gave a b c v w i s at =
    let m = some_at (slice_get b i) (λ t. Grows gave s t) (v i s at) in
    let n = some_at (slice_get c i) (λ t. Grows gave m.0 t) (w i m.0 m.1) in
    subst (λ (o : Option PostSeen). IsSomeAnd o (λ t. Grows gave s t)) (sym n.1) (grows_more s m.0 n.0 m.2 n.2)

pub posts_set : (gave : Run → Answer → Type 0) (xs : List PostSeen) (k : ℕ) (y x : PostSeen) → slice_get xs k ≡ Some x
    → Grows gave x y → PostsGrow gave xs (set xs k y)
posts_set gave [] k y x at g i s is = cc
posts_set gave (z ∷ zs) zero y x at g zero s is = subst (λ (p : PostSeen). Grows gave p y) (sym (the_same z x at) ∙ the_same z s is) g
posts_set gave (z ∷ zs) zero y x at g (suc i) s is = posts_self gave zs i s is
posts_set gave (z ∷ zs) (suc k) y x at g zero s is = subst (λ (p : PostSeen). Grows gave p z) (the_same z s is) (grows_self z)
posts_set gave (z ∷ zs) (suc k) y x at g (suc i) s is = posts_set gave zs k y x at g i s is

-- ---- a try

module _ (terms : Terms) where
  own_grow : (def : LineDef) (who : Actor) (old new : Known) (tried : Result (Option Entry) StepRefused)
      → Tries terms def who old tried new → (rest : List Placed) × (new.mine ≡ old.mine ++ rest)
  own_grow def who old new (Ok (Some e)) t = (record { place = length t.came.history; entry = e } ∷ [], t.came.mine)
  own_grow def who old new (Ok None) t = ([], t.came.1 ∙ sym (append-nil old.mine))
  own_grow def who old new (Err (refusals.Full number len)) t = ([], t.came.3 ∙ sym (append-nil old.mine))
  own_grow def who old new (Err refusals.NoMemory) t = ([], t.came.1 ∙ sym (append-nil old.mine))

  pub posts_grew : (lines : List LockSeen) (place : ℕ) (tried : Result (Option Entry) StepRefused) (old new : JobSeen) → ArePosted lines old
      → StepsPost terms lines place tried old new → PostsGrow terms.gave old.posts new.posts
  posts_grew lines place tried old new posted s =
      subst (λ (ps : List PostSeen). PostsGrow terms.gave old.posts ps) (sym (ap (λ (j : JobSeen). j.posts) s.is))
      (posts_set terms.gave old.posts place s.after s.post s.at_post
      (record {
        table = s.is_post.of_line.0 ∙ sym was.of_line.0;
        def = s.is_post.of_line.1 ∙ sym was.of_line.1;
        actor = s.is_post.actor ∙ sym was.actor;
        seen = s.tries.begins;
        mine = own_grow s.line.def old.actor s.post.pass.knows s.after.pass.knows tried s.tries;
        given = given;
      }))
    where
      was : IsPost s.line old.actor s.post
      was = subst (λ (o : Option LockSeen). IsSomeAnd o (λ l. IsPost l old.actor s.post)) s.at_line (posted place s.post s.at_post)

      given : IsPassGiven terms.gave s.post.pass → IsPassGiven terms.gave s.after.pass
      given before who is =
          let same : who ≡ old.actor = the_same who old.actor (sym is ∙ s.is_post.actor) in
          let its : AreOwnGiven terms.gave s.line.def old.actor (reverse s.post.pass.knows.seen)
          = subst (λ (d : LineDef). AreOwnGiven terms.gave d old.actor (reverse s.post.pass.knows.seen)) was.of_line.1 (before old.actor was.actor) in
          subst (λ (d : LineDef). AreOwnGiven terms.gave d who (reverse s.after.pass.knows.seen)) (sym s.is_post.of_line.1)
          (subst (λ (a : Actor). AreOwnGiven terms.gave s.line.def a (reverse s.after.pass.knows.seen)) (sym same)
          (tried_given terms s.line.def old.actor s.post.pass.knows s.after.pass.knows tried s.tries was.own its))

-- ---- all jobs

pub jobs_self : {gave : Run → Answer → Type 0} (xs : List JobSeen) → JobsGrow gave xs xs
jobs_self {gave} xs = record {
  as_many = refl;
  each = λ i j at. subst (λ (o : Option JobSeen). IsSomeAnd o (λ k. JobGrows gave j k)) (sym at)
      (record { actor = refl; first = refl; as_many = refl; posts = posts_self gave j.posts });
}

pub jobs_more : {gave : Run → Answer → Type 0} (a b c : List JobSeen) → JobsGrow gave a b → JobsGrow gave b c → JobsGrow gave a c
jobs_more {gave} a b c v w = record { as_many = w.as_many ∙ v.as_many; each = each }
  where
    each : (i : ℕ) (j : JobSeen) → slice_get a i ≡ Some j → IsSomeAnd (slice_get c i) (λ k. JobGrows gave j k)
    each i j at =
        let m = some_at (slice_get b i) (λ k. JobGrows gave j k) (v.each i j at) in
        let n = some_at (slice_get c i) (λ k. JobGrows gave m.0 k) (w.each i m.0 m.1) in
        subst (λ (o : Option JobSeen). IsSomeAnd o (λ k. JobGrows gave j k)) (sym n.1)
        (record {
          actor = n.2.actor ∙ m.2.actor;
          first = n.2.first ∙ m.2.first;
          as_many = n.2.as_many ∙ m.2.as_many;
          posts = posts_more gave j.posts m.0.posts n.0.posts m.2.posts n.2.posts;
        })

pub jobs_grew : {gave : Run → Answer → Type 0} (old new : List JobSeen) → length new ≡ length old
    → ((k : ℕ) (d : JobSeen) → k < length old → JobGrows gave (get_or old k d) (get_or new k d)) → JobsGrow gave old new
jobs_grew {gave} old new long each = record { as_many = long; each = each_job }
  where
    each_job : (i : ℕ) (j : JobSeen) → slice_get old i ≡ Some j → IsSomeAnd (slice_get new i) (λ k. JobGrows gave j k)
    each_job i j at =
        let less : i < length old = within old i j at in
        let same : get_or old i j ≡ j = the_same (get_or old i j) j (sym (there_or old i j less) ∙ at) in
        subst (λ (o : Option JobSeen). IsSomeAnd o (λ k. JobGrows gave j k)) (sym (there_or new i j (omega (arith, less, long))))
        (subst (λ (x : JobSeen). JobGrows gave x (get_or new i j)) same (each i j less))
