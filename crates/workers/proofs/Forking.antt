-- One more pass that an actor gets.
use Rattle.std.proofs.Common.{◌≡◌, ℕ, ◌+◌, ◌<◌, ◌≤◌, inl, inr, Bool, true, false, IsSomeAnd, Option, Some, List, []}
use Rattle.std.proofs.Common.{◌∷◌, ◌++◌, length, get_or, set, slice_get, refl, sym, ap, ◌∙◌, subst, arith}
use Rattle.std.proofs.Math.ListN.{length-set}
use Rattle.irq_base.specs.declared.entries.Actor.{Actor}
use Rattle.line_lock.specs.Passes.{LockSeen, PassSeen}
use Rattle.workers.specs.Forks.{CanFork, IsForkOf, Gave, IsLeft, is_within, Forks}
use Rattle.workers.specs.Seen.{PostSeen}
use Rattle.workers.proofs.Lists.{at_snoc, at_set, there_or, length_snoc}

pub before_first : (first k : ℕ) → is_within first first k ≡ false
before_first first k = grind arith

pub is_in : (first end k : ℕ) → first ≤ k → k < end → is_within first end k ≡ true
is_in first end k a b = grind arith

pub same_within : (first i k : ℕ) → (k ≡ i → ⊥) → is_within first (i + 1) k ≡ is_within first i k
same_within first i k other = grind arith

pub not_yet_in : (first i : ℕ) → is_within first i i ≡ false
not_yet_in first i = grind arith

pub none_forked : (lines : List LockSeen) (first : ℕ) (who : Actor) (old : List PassSeen) → Forks lines first first who old old []
none_forked lines first who old =
    record {
      as_many = refl;
      count = omega arith;
      each = λ i s at. cc;
      left = λ k p at. (p, at, subst (λ (b : Bool). IsLeft b who p p) (sym (before_first first k)) refl);
    }

-- What the loop has at hand at place i: the passes before it were made, and this is the line there, and its first pass.
pub record AtFork (lines : List LockSeen) (first i : ℕ) (who : Actor) (old mid : List PassSeen) (posts : List PostSeen)
    (l : LockSeen) (p : PassSeen) : Type 0 where
  pub forks : Forks lines first i who old mid posts
  pub from : first ≤ i
  pub at_line : slice_get lines i ≡ Some l
  pub at_pass : slice_get mid i ≡ Some p

pub at_fork : {lines : List LockSeen} {first end i : ℕ} {who : Actor} {old mid : List PassSeen} {posts : List PostSeen}
    {l : LockSeen} {p : PassSeen} → Forks lines first i who old mid posts → first ≤ i → i < end → end ≤ length lines
    → length old ≡ length lines → l ≡ get_or lines i l → p ≡ get_or mid i p → AtFork lines first i who old mid posts l p
at_fork {lines} {first} {end} {i} {who} {old} {mid} {posts} {l} {p} forks from less few as_many is_line is_pass =
    record {
      forks = forks;
      from = from;
      at_line = there_or lines i l (omega (arith, less, few)) ∙ ap (λ (x : LockSeen). Some x) (sym is_line);
      at_pass = there_or mid i p (let n = forks.as_many in omega (arith, less, few, as_many, n)) ∙ ap (λ (x : PassSeen). Some x) (sym is_pass);
    }

module _ {lines : List LockSeen} {first i : ℕ} {who : Actor} {old mid : List PassSeen} {posts : List PostSeen}
    {l : LockSeen} {p : PassSeen} (h : AtFork lines first i who old mid posts l p) where
  -- the first pass hasn't given a pass yet
  untouched : slice_get old i ≡ Some p
  untouched =
      let q = h.forks.left i p h.at_pass in
      let same : p ≡ q.0 = subst (λ (b : Bool). IsLeft b who q.0 p) (not_yet_in first i) q.2 in
      q.1 ∙ ap (λ (x : PassSeen). Some x) (sym same)

  pub can_here : ((k : ℕ) (p : PassSeen) → slice_get old k ≡ Some p → IsSomeAnd (slice_get lines k) (λ l. CanFork l who p)) → CanFork l who p
  can_here can = subst (λ (o : Option LockSeen). IsSomeAnd o (λ l. CanFork l who p)) h.at_line (can i p untouched)

  pub one_more : (more : List PostSeen) (s : PostSeen) → more ≡ posts ++ s ∷ [] → {after : PassSeen} → Gave who p after → IsForkOf l who p s
      → Forks lines first (i + 1) who old (set mid i after) more
  one_more more s pushed {after} gave fork =
      subst (λ (ss : List PostSeen). Forks lines first (i + 1) who old (set mid i after) ss) (sym pushed) (record {
        as_many = length-set mid i after ∙ h.forks.as_many;
        count = let n = h.forks.count in let m = length_snoc posts s in omega (arith, n, m);
        each = each;
        left = left;
      })
    where
      here : first + length posts ≡ i
      here = h.forks.count

      each : (j : ℕ) (t : PostSeen) → slice_get (posts ++ s ∷ []) j ≡ Some t
          → (l : LockSeen) × (p : PassSeen) × (slice_get lines (first + j) ≡ Some l)
          × (slice_get old (first + j) ≡ Some p) × IsForkOf l who p t
      each j t at = elim (at_snoc posts s j t at) [
        | inl before ↦ h.forks.each j t before
        | inr now ↦
            let place : i ≡ first + j = omega (arith, here, now.0) in (
              l,
              p,
              ap (λ (n : ℕ). slice_get lines n) (sym place) ∙ h.at_line,
              ap (λ (n : ℕ). slice_get old n) (sym place) ∙ untouched,
              subst (λ (x : PostSeen). IsForkOf l who p x) now.1 fork,
            )
      ]

      left : (k : ℕ) (q : PassSeen) → slice_get (set mid i after) k ≡ Some q
          → (r : PassSeen) × (slice_get old k ≡ Some r) × IsLeft (is_within first (i + 1) k) who r q
      left k q at = elim (at_set mid i after k q at) [
        | inl at_i ↦ (
          p,
          ap (λ (n : ℕ). slice_get old n) at_i.0 ∙ untouched,
          subst (λ (b : Bool). IsLeft b who p q) (sym (is_in first (i + 1) k (let f = h.from in omega (arith, f, at_i.0))
              (omega (arith, at_i.0)))) (subst (λ (x : PassSeen). Gave who p x) (sym at_i.1) gave),
        )
        | inr other ↦
            let r = h.forks.left k q other.1 in
            (r.0, r.1, subst (λ (b : Bool). IsLeft b who r.0 q) (sym (same_within first i k other.0)) r.2)
      ]
