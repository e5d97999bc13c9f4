-- Ways of waits, read off the state. One that doesn't come back to a thread within three waits never does: it goes between who frees a
-- device and that device's thread.
use Rattle.std.proofs.Common.{◌+◌, ◌-◌, ◌<◌, ◌≤◌, ◌≡◌, ◌⊎◌, inl, inr, ℕ, zero, suc, Bool, true, false, ◌||◌, cond, Option, Some, None, List, refl}
use Rattle.std.proofs.Common.{sym, ap, ◌∙◌, arith}
use Rattle.std.proofs.lemmas.Option.{same_Some, none-some}
use Rattle.std.specs.Option.{option_map_or}
use Rattle.irq_base.specs.declared.entries.Actor.{Actor}
use Rattle.irq_base.specs.declared.entries.Actor.TheVariants as actors
use Rattle.irq_base.specs.declared.lines.LineDef.{LineDef}
use Rattle.irq_base.specs.declared.numbers.DevNo.{DevNo}
use Rattle.irq_base.specs.declared.numbers.DriverNo.{DriverNo}
use Rattle.irq_base.specs.declared.waiting.WaitFor.{WaitFor}
use Rattle.irq_base.specs.declared.waiting.WaitFor.TheVariants as waits
use Rattle.act_thread.specs.Threads.{is_idle_at}
use Rattle.line_scripts.specs.Rows.{RowSeen}
use Rattle.line_marks.specs.State.{StateSeen}
use Rattle.line_core.specs.Hanging.{is_sync, is_thread_of, leads_to, wait_of_actor, way_from, way_through}

pub or_first : (a b : Bool) → (a || b) ≡ false → a ≡ false
or_first true b h = h
or_first false b h = refl

pub or_second : (a b : Bool) → (a || b) ≡ false → b ≡ false
or_second true b h = cc
or_second false b h = h

-- ---- who waits for nothing, or for the flow, leads nowhere

abbrev pub IsOnFlow : WaitFor → Type 0
IsOnFlow w = (w ≡ waits.Nothing) ⊎ (w ≡ waits.Flow)

pub no_way_through : (s : StateSeen) (o : Option (Actor × DevNo)) (w : WaitFor) → IsOnFlow w → way_through s o w ≡ None
no_way_through s None w h = refl
no_way_through s (Some free) w (inl h) = ap (way_through s (Some free)) h
no_way_through s (Some free) w (inr h) = ap (way_through s (Some free)) h

pub no_sync : (w : WaitFor) → IsOnFlow w → is_sync w ≡ false
no_sync w (inl h) = ap is_sync h
no_sync w (inr h) = ap is_sync h

-- ---- three waits

-- a way leads to who frees a device, or to that device's thread
way_in : (s : StateSeen) (free : Actor × DevNo) (w : WaitFor) (c : Actor) → way_through s (Some free) w ≡ Some c → (c ≡ free.0) ⊎ (c ≡ actors.Thread free.1)
way_in s free waits.Nothing c h = absurd (none-some c h)
way_in s free waits.Flow c h = absurd (none-some c h)
way_in s free waits.Threads c h = absurd (none-some c h)
way_in s free waits.Mutex c h = inl (sym (same_Some free.0 c h))
way_in s free waits.Freed c h = by_test (is_idle_at s.threads free.1) h
  where
    by_test : (b : Bool) → cond b None (Some (actors.Thread free.1)) ≡ Some c → (c ≡ free.0) ⊎ (c ≡ actors.Thread free.1)
    by_test true i = absurd (none-some c i)
    by_test false i = inr (sym (same_Some (actors.Thread free.1) c i))

module _ (def : LineDef) (s : StateSeen) (scripts : List (DriverNo × RowSeen)) (d : DevNo) where
  abbrev leads : ℕ → Actor → Bool
  leads n b = leads_to def s scripts n d b

  abbrev way : Actor → Option Actor
  way b = way_from s (wait_of_actor def s scripts b)

  abbrev syncs : Actor → Bool
  syncs b = is_sync (wait_of_actor def s scripts b)

  abbrev goes : ℕ → Option Actor → Bool
  goes n o = option_map_or (λ c. is_thread_of d c || leads n c) o false

  pub flow_leads : (n : ℕ) (b : Actor) → IsOnFlow (wait_of_actor def s scripts b) → leads n b ≡ false
  flow_leads zero b h = refl
  flow_leads (suc n) b h =
      ap (λ (x : Bool). x || goes n (way b)) (no_sync (wait_of_actor def s scripts b) h)
      ∙ ap (goes n) (no_way_through s s.freeing (wait_of_actor def s scripts b) h)

  -- an actor that doesn't sync, and whose way has no end
  no_way : (b : Actor) → syncs b ≡ false → way b ≡ None → (n : ℕ) → leads n b ≡ false
  no_way b quiet none zero = refl
  no_way b quiet none (suc n) = ap (λ x. x || goes n (way b)) quiet ∙ ap (goes n) none

  one_way : (b c : Actor) → syncs b ≡ false → way b ≡ Some c → is_thread_of d c ≡ false → (n : ℕ) → leads n c ≡ false → leads (suc n) b ≡ false
  one_way b c quiet is other n rest =
      ap (λ x. x || goes n (way b)) quiet ∙ (ap (goes n) is ∙ (ap (λ x. x || leads n c) other ∙ rest))

  -- what is known of an actor from where the way doesn't lead to d's thread
  syncs_not : (n : ℕ) (b : Actor) → leads (suc n) b ≡ false → syncs b ≡ false
  syncs_not n b h = or_first (syncs b) (goes n (way b)) h

  next_not : (n : ℕ) (b c : Actor) → leads (suc n) b ≡ false → way b ≡ Some c → (is_thread_of d c || leads n c) ≡ false
  next_not n b c h is = ap (goes n) (sym is) ∙ or_second (syncs b) (goes n (way b)) h

  -- two actors that lead to one another, or to themselves
  module _ (b c : Actor) (quiet : syncs b ≡ false) (quiet_next : syncs c ≡ false) (is : way b ≡ Some c)
      (other : is_thread_of d b ≡ false) (other_next : is_thread_of d c ≡ false) (turn : (x : Actor) → way c ≡ Some x → (x ≡ b) ⊎ (x ≡ c)) where
    both : (n : ℕ) → (leads n b ≡ false) × (leads n c ≡ false)
    both zero = (refl, refl)
    both (suc n) = let w = both n in (one_way b c quiet is other_next n w.1, by_way w (way c) refl)
      where
        by_end : (leads n b ≡ false) × (leads n c ≡ false) → (x : Actor) → way c ≡ Some x → (x ≡ b) ⊎ (x ≡ c) → leads (suc n) c ≡ false
        by_end w x so (inl back) = one_way c b quiet_next (so ∙ ap Some back) other n w.0
        by_end w x so (inr same) = one_way c c quiet_next (so ∙ ap Some same) other_next n w.1

        by_way : (leads n b ≡ false) × (leads n c ≡ false) → (o : Option Actor) → way c ≡ o → leads (suc n) c ≡ false
        by_way w None none = no_way c quiet_next none (suc n)
        by_way w (Some x) so = by_end w x so (turn x so)

  -- of three ends of ways one comes twice
  turns : (free : Option (Actor × DevNo)) → s.freeing ≡ free → (a b c : Actor) → way a ≡ Some b → way b ≡ Some c
      → (x : Actor) → way c ≡ Some x → (x ≡ b) ⊎ (x ≡ c)
  turns None f a b c first second x third =
      absurd (none-some b (ap (λ (o : Option (Actor × DevNo)). way_through s o (wait_of_actor def s scripts a)) (sym f) ∙ first))
  turns (Some free) f a b c first second x third = by_ends (ends a b first) (ends b c second) (ends c x third)
    where
      ends : (y z : Actor) → way y ≡ Some z → (z ≡ free.0) ⊎ (z ≡ actors.Thread free.1)
      ends y z h = way_in s free (wait_of_actor def s scripts y) z
          (ap (λ (o : Option (Actor × DevNo)). way_through s o (wait_of_actor def s scripts y)) (sym f) ∙ h)

      -- the first two are one: so the third is the second
      one : b ≡ c → x ≡ c
      one same = same_Some x c (sym third ∙ (ap way (sym same) ∙ second))

      by_ends : (b ≡ free.0) ⊎ (b ≡ actors.Thread free.1) → (c ≡ free.0) ⊎ (c ≡ actors.Thread free.1)
          → (x ≡ free.0) ⊎ (x ≡ actors.Thread free.1) → (x ≡ b) ⊎ (x ≡ c)
      by_ends (inl p) (inl q) r = inr (one (p ∙ sym q))
      by_ends (inr p) (inr q) r = inr (one (p ∙ sym q))
      by_ends (inl p) (inr q) (inl r) = inl (r ∙ sym p)
      by_ends (inl p) (inr q) (inr r) = inr (r ∙ sym q)
      by_ends (inr p) (inl q) (inl r) = inr (r ∙ sym q)
      by_ends (inr p) (inl q) (inr r) = inl (r ∙ sym p)

  -- from the end of a way
  from_second : (a b : Actor) → way a ≡ Some b → is_thread_of d b ≡ false → leads 2 b ≡ false → (n : ℕ) → leads n b ≡ false
  from_second a b first other h = by_way (way b) refl
    where
      by_way : (o : Option Actor) → way b ≡ o → (n : ℕ) → leads n b ≡ false
      by_way None none = no_way b (syncs_not 1 b h) none
      by_way (Some c) second =
          let w = next_not 1 b c h second in
          λ n. (both b c (syncs_not 1 b h) (syncs_not 0 c (or_second (is_thread_of d c) (leads 1 c) w)) second other
          (or_first (is_thread_of d c) (leads 1 c) w) (turns s.freeing refl a b c first second) n).0

  pub three_suffice : (a : Actor) → leads 3 a ≡ false → (n : ℕ) → leads n a ≡ false
  three_suffice a h = by_way (way a) refl
    where
      by_way : (o : Option Actor) → way a ≡ o → (n : ℕ) → leads n a ≡ false
      by_way None none n = no_way a (syncs_not 2 a h) none n
      by_way (Some b) first zero = refl
      by_way (Some b) first (suc n) =
          let w = next_not 2 a b h first in
          let other = or_first (is_thread_of d b) (leads 2 b) w in
          one_way a b (syncs_not 2 a h) first other n (from_second a b first other (or_second (is_thread_of d b) (leads 2 b) w) n)

  -- ---- a walk of at most three waits

  three_less : (n : ℕ) → n < 3 → 3 - n ≡ suc (3 - (n + 1))
  three_less n h = omega (arith, h)

  walk_is : (n : ℕ) (b : Actor) → n < 3 → leads (3 - n) b ≡ (syncs b || goes (3 - (n + 1)) (way b))
  walk_is n b h = ap (λ k. leads k b) (three_less n h)

  pub walk_syncs : (n : ℕ) (b : Actor) → n < 3 → syncs b ≡ true → leads (3 - n) b ≡ true
  walk_syncs n b h is = walk_is n b h ∙ ap (λ x. x || goes (3 - (n + 1)) (way b)) is

  walk_way : (n : ℕ) (b : Actor) (o : Option Actor) → n < 3 → syncs b ≡ false → way b ≡ o → leads (3 - n) b ≡ goes (3 - (n + 1)) o
  walk_way n b o h quiet is = walk_is n b h ∙ (ap (λ x. x || goes (3 - (n + 1)) (way b)) quiet ∙ ap (goes (3 - (n + 1))) is)

  pub walk_stops : (n : ℕ) (b : Actor) → n < 3 → syncs b ≡ false → way b ≡ None → leads (3 - n) b ≡ false
  walk_stops n b h quiet none = walk_way n b None h quiet none

  pub walk_comes_back : (n : ℕ) (b c : Actor) → n < 3 → syncs b ≡ false → way b ≡ Some c → is_thread_of d c ≡ true → leads (3 - n) b ≡ true
  walk_comes_back n b c h quiet is back = walk_way n b (Some c) h quiet is ∙ ap (λ x. x || leads (3 - (n + 1)) c) back

  pub walk_goes_on : (n : ℕ) (b c : Actor) → n < 3 → syncs b ≡ false → way b ≡ Some c → is_thread_of d c ≡ false
      → leads (3 - n) b ≡ leads (3 - (n + 1)) c
  walk_goes_on n b c h quiet is other = walk_way n b (Some c) h quiet is ∙ ap (λ x. x || leads (3 - (n + 1)) c) other

  pub walk_ends : (n : ℕ) (b : Actor) → 3 ≤ n → leads (3 - n) b ≡ false
  walk_ends n b h = ap (λ k. leads k b) (let none : 3 - n ≡ 0 = omega (arith, h) in none)
