-- What the handlers gave for an actor's runs, as what is seen grows, and in what is gathered.
use Rattle.std.proofs.Common.{◌≡◌, ℕ, suc, ◌+◌, arith, Bool, true, false, cond, inl, inr, IsSomeAnd, Option, Some, None, Result, Ok, Err, List, []}
use Rattle.std.proofs.Common.{◌∷◌, ◌++◌, length, reverse, slice_get, refl, sym, ap, subst, ◌∙◌, append-nil, append_assoc}
use Rattle.std.proofs.lemmas.List.{reverse-append}
use Rattle.irq_base.specs.Who.{actor_of}
use Rattle.irq_base.specs.declared.devices.Answer.{Answer}
use Rattle.irq_base.specs.declared.devices.Run.{Run}
use Rattle.irq_base.specs.declared.entries.Actor.{Actor}
use Rattle.irq_base.specs.declared.entries.Entry.{Entry}
use Rattle.irq_base.specs.declared.lines.LineDef.{LineDef}
use Rattle.irq_model.specs.Kinds.{is_by}
use Rattle.irq_model.proofs.Same.{same_self_actor}
use Rattle.irq_laws.proofs.Chosen.{the_same}
use Rattle.irq_line.specs.Given.{AreGiven}
use Rattle.irq_line.specs.Seen.{LineSeen}
use Rattle.irq_line.specs.declared.answers.StepRefused.{StepRefused}
use Rattle.irq_line.specs.declared.answers.StepRefused.TheVariants as refusals
use Rattle.line_lock.specs.Knows.{BeginsWith}
use Rattle.line_lock.specs.Passes.{LockSeen}
use Rattle.line_lock.specs.Placed.{placed, placed_from}
use Rattle.line_lock.specs.declared.view.Known.{Known}
use Rattle.line_lock.proofs.Placing.{no_tail, placed_begins}
use Rattle.workers.specs.Fit.{Fit, IsPost}
use Rattle.workers.specs.Gathers.{AreGathered, HasAllOf, HasPass}
use Rattle.workers.specs.Given.{AreJobsGiven, AreOwnGiven}
use Rattle.workers.specs.Grown.{AreNew, Grows, JobGrows, JobsGrow}
use Rattle.workers.specs.Seen.{JobSeen, JobsSeen, PostSeen}
use Rattle.workers.specs.Terms.{Terms}
use Rattle.workers.specs.Tries.{Gains, Tries}
use Rattle.workers.proofs.Lists.{there, within}

module _ (gave : Run → Answer → Type 0) (def : LineDef) (who : Actor) where
  -- others' entries end no run of one's own
  longer : (rest seen : List Entry) (n : ℕ) → placed_from who n rest ≡ [] → AreOwnGiven gave def who (reverse seen)
      → AreOwnGiven gave def who (reverse (seen ++ rest))
  longer [] seen n none given = subst (λ (h : List Entry). AreOwnGiven gave def who (reverse h)) (sym (append-nil seen)) given
  longer (e ∷ rest) seen n none given =
      let t = by_test (is_by who e) none in
      subst (λ (h : List Entry). AreOwnGiven gave def who (reverse h)) (append_assoc seen (e ∷ []) rest)
      (longer rest (seen ++ e ∷ []) (suc n) t.1
      (subst (AreOwnGiven gave def who) (sym (reverse-append seen (e ∷ []))) (given, λ own. absurd (t.0 own))))
    where
      by_test : (b : Bool) → cond b (record { place = n; entry = e } ∷ placed_from who (suc n) rest) (placed_from who (suc n) rest) ≡ []
          → (b ≡ true → ⊥) × (placed_from who (suc n) rest ≡ [])
      by_test true is = cc
      by_test false is = (λ own. cc, is)

  given_on : (h s : List Entry) → BeginsWith h s → placed who h ≡ placed who s → AreOwnGiven gave def who (reverse s)
      → AreOwnGiven gave def who (reverse h)
  given_on h s b same given =
      subst (λ (es : List Entry). AreOwnGiven gave def who (reverse es)) (sym b.1)
      (longer b.0 s (length s) (no_tail (placed who s) (placed_from who (length s) b.0) (sym (placed_begins who h s b) ∙ same)) given)

  -- who has no entry has ended no run
  none_given : (h : List Entry) → placed who h ≡ [] → AreOwnGiven gave def who (reverse h)
  none_given h none = longer h [] 0 none tt

-- ---- a try

module _ (terms : Terms) (def : LineDef) (who : Actor) (old new : Known) where
  gained : (e : Entry) → Gains terms.gave def who old e new → old.mine ≡ placed who old.seen
      → AreOwnGiven terms.gave def who (reverse old.seen) → AreOwnGiven terms.gave def who (reverse new.seen)
  gained e g own given =
      subst (AreOwnGiven terms.gave def who) (sym (ap reverse g.seen ∙ reverse-append g.history (e ∷ [])))
      (given_on terms.gave def who g.history old.seen g.onto (sym g.own ∙ own) given, λ is. g.given)

  pub tried_given : (tried : Result (Option Entry) StepRefused) → Tries terms def who old tried new → old.mine ≡ placed who old.seen
      → AreOwnGiven terms.gave def who (reverse old.seen) → AreOwnGiven terms.gave def who (reverse new.seen)
  tried_given (Ok (Some e)) t own given = gained e t.came own given
  tried_given (Ok None) t own given = given_on terms.gave def who new.seen old.seen t.begins (sym (t.own own) ∙ (t.came.1 ∙ own)) given
  tried_given (Err (refusals.Full line len)) t own given =
      given_on terms.gave def who new.seen old.seen t.begins (sym (t.own own) ∙ (t.came.3 ∙ own)) given
  tried_given (Err refusals.NoMemory) t own given =
      given_on terms.gave def who new.seen old.seen t.begins (sym (t.own own) ∙ (t.came.1 ∙ own)) given

-- ---- what is gathered

-- each actor's runs are all runs
all_given : (gave : Run → Answer → Type 0) (def : LineDef) (past : List Entry) → ((who : Actor) → AreOwnGiven gave def who past)
    → AreGiven gave def past
all_given gave def [] each = tt
all_given gave def (e ∷ past) each =
    (all_given gave def past (λ who. (each who).0), (each (actor_of e)).1 (same_self_actor (actor_of e)))

some_of : {A : Type 0} (o : Option A) (P : A → Type 0) → IsSomeAnd o P → (x : A) × (o ≡ Some x) × P x
some_of None P is = absurd is
some_of (Some x) P is = (x, refl, is)

one_there : {A : Type 0} (xs : List A) (i : ℕ) (x y : A) → slice_get xs i ≡ Some x → slice_get xs i ≡ Some y → x ≡ y
one_there xs i x y a b = the_same x y (sym a ∙ b)

-- passes that have seen nothing have ended no run, so that what they have seen since is given
module _ (gave : Run → Answer → Type 0) (first s : JobsSeen) (new : AreNew first) (grew : JobsGrow gave first.jobs s.jobs) where
  pub jobs_given : AreJobsGiven gave s
  jobs_given i place j t at_job at_post =
      let w = within s.jobs i j at_job in
      let a = grew.as_many in
      let k = there first.jobs i (omega (arith, w, a)) in
      let n = some_of (slice_get s.jobs i) (λ x. JobGrows gave k.0 x) (grew.each i k.0 k.1) in
      let grown : JobGrows gave k.0 j = subst (λ (x : JobSeen). JobGrows gave k.0 x) (one_there s.jobs i n.0 j n.1 at_job) n.2 in
      let v = within j.posts place t at_post in
      let b = grown.as_many in
      let p = there k.0.posts place (omega (arith, v, b)) in
      let m = some_of (slice_get j.posts place) (λ x. Grows gave p.0 x) (grown.posts place p.0 p.1) in
      let more : Grows gave p.0 t = subst (λ (x : PostSeen). Grows gave p.0 x) (one_there j.posts place m.0 t m.1 at_post) m.2 in
      more.given (λ who is. subst (λ (h : List Entry). AreOwnGiven gave p.0.pass.def who (reverse h))
      (sym ((new.jobs i k.0 k.1).posts place p.0 p.1).0) tt)

module _ (gave : Run → Answer → Type 0) (locks : List LockSeen) (s : JobsSeen) (lines : List LineSeen) (fit : Fit locks s)
    (jobs : AreJobsGiven gave s) (g : AreGathered s lines) where
  -- each actor's runs on a line
  own_given : (k : ℕ) (x : LineSeen) → slice_get lines k ≡ Some x → (who : Actor) → AreOwnGiven gave x.def who (reverse x.entries)
  own_given k x at who = elim (g.made k x who at) [
    | inl h ↦ by_pass h
    | inr none ↦ none_given gave x.def who x.entries none
  ]
    where
      by_pass : HasPass s.jobs k who → AreOwnGiven gave x.def who (reverse x.entries)
      by_pass h =
          let y = some_of (slice_get lines (h.job.first + h.place)) (λ x. HasAllOf x.def x.entries h.job.actor h.post.pass)
          (g.each h.number h.place h.job h.post h.at_job h.at_post) in
          let same : y.0 ≡ x = one_there lines (h.job.first + h.place) y.0 x y.1 (ap (λ (n : ℕ). slice_get lines n) (sym h.is) ∙ at) in
          let has : HasAllOf x.def x.entries who h.post.pass
          = subst (λ (a : Actor). HasAllOf x.def x.entries a h.post.pass) h.actor
          (subst (λ (z : LineSeen). HasAllOf z.def z.entries h.job.actor h.post.pass) same y.2) in
          let l = some_of (slice_get locks (h.job.first + h.place)) (λ l. IsPost l h.job.actor h.post)
          ((fit.each h.number h.job h.at_job).posted h.place h.post h.at_post) in
          let own : h.post.pass.knows.mine ≡ placed who h.post.pass.knows.seen
          = l.2.own ∙ ap (λ (a : Actor). placed a h.post.pass.knows.seen) h.actor in
          let its = jobs h.number h.place h.job h.post h.at_job h.at_post who (l.2.actor ∙ ap (λ (a : Actor). Some a) h.actor) in
          given_on gave x.def who x.entries h.post.pass.knows.seen has.begins (has.own ∙ own)
          (subst (λ (d : LineDef). AreOwnGiven gave d who (reverse h.post.pass.knows.seen)) has.of_line its)

  pub gathered_given : (k : ℕ) (x : LineSeen) → slice_get lines k ≡ Some x → AreGiven gave x.def (reverse x.entries)
  gathered_given k x at = all_given gave x.def (reverse x.entries) (own_given k x at)
