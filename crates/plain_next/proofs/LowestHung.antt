-- The lowest of those that are hung.
use Rattle.std.proofs.Common.{◌≡◌, ◌↔◌, ℕ, zero, suc, ◌+◌, ◌<◌, Bool, true, false, ◌||◌, IsTrue, cond, nat_lt, Option, Some, None}
use Rattle.std.proofs.Common.{List, [], ◌∷◌, ◌++◌, length, take, get_or, refl, sym, ap, subst, ◌∙◌, arith}
use Rattle.std.proofs.lemmas.Bool.{ltb-true, lt-ltb, le-ltb, false≢true}
use Rattle.irq_base.specs.declared.entries.Actor.{Actor}
use Rattle.irq_base.specs.declared.entries.Actor.TheVariants as actors
use Rattle.irq_base.specs.declared.entries.Entry.{Entry}
use Rattle.irq_base.specs.declared.lines.LineDef.{LineDef}
use Rattle.irq_model.specs.Kinds.{same_actor}
use Rattle.irq_model.specs.Waits.{IsHungPast, IsLowestHungPast, is_before}
use Rattle.plain_next.specs.Hanging.{all_in_way, is_among, lower_of}
use Rattle.plain_next.proofs.Among.{actor_is, among_more}
use Rattle.plain_next.proofs.Reaching.{reached_listed}

-- the order of actors is one

less_trans : (a b c : ℕ) → nat_lt a b ≡ true → nat_lt b c ≡ true → nat_lt a c ≡ true
less_trans a b c e f = let x = ltb-true a b e in let y = ltb-true b c f in lt-ltb a c (omega (arith, x, y))

before_trans : (b x a : Actor) → is_before b x ≡ true → is_before x a ≡ true → is_before b a ≡ true
before_trans (actors.Thread d) (actors.Thread e) (actors.Thread f) p q = less_trans d.0 e.0 f.0 p q
before_trans (actors.Thread d) (actors.Cpu e) (actors.Thread f) p q = absurd (false≢true q)
before_trans (actors.Thread d) (actors.Driver e) (actors.Thread f) p q = absurd (false≢true q)
before_trans (actors.Thread d) x (actors.Cpu f) p q = refl
before_trans (actors.Thread d) x (actors.Driver f) p q = refl
before_trans (actors.Cpu d) (actors.Thread e) a p q = absurd (false≢true p)
before_trans (actors.Cpu d) (actors.Cpu e) (actors.Thread f) p q = absurd (false≢true q)
before_trans (actors.Cpu d) (actors.Driver e) (actors.Thread f) p q = absurd (false≢true q)
before_trans (actors.Cpu d) (actors.Cpu e) (actors.Cpu f) p q = less_trans d.0 e.0 f.0 p q
before_trans (actors.Cpu d) (actors.Driver e) (actors.Cpu f) p q = absurd (false≢true q)
before_trans (actors.Cpu d) x (actors.Driver f) p q = refl
before_trans (actors.Driver d) (actors.Thread e) a p q = absurd (false≢true p)
before_trans (actors.Driver d) (actors.Cpu e) a p q = absurd (false≢true p)
before_trans (actors.Driver d) (actors.Driver e) (actors.Thread f) p q = absurd (false≢true q)
before_trans (actors.Driver d) (actors.Driver e) (actors.Cpu f) p q = absurd (false≢true q)
before_trans (actors.Driver d) (actors.Driver e) (actors.Driver f) p q = less_trans d.0 e.0 f.0 p q

not_itself : (a : Actor) → is_before a a ≡ false
not_itself (actors.Thread d) = le-ltb d.0 d.0 (omega arith)
not_itself (actors.Cpu c) = le-ltb c.0 c.0 (omega arith)
not_itself (actors.Driver r) = le-ltb r.0 r.0 (omega arith)

-- what isn't before the higher one isn't before the lower one
still_not : (b x a : Actor) → is_before x a ≡ true → is_before b a ≡ false → is_before b x ≡ false
still_not b x a lower higher = by (is_before b x) refl
  where
    by : (t : Bool) → is_before b x ≡ t → t ≡ false
    by false is = refl
    by true is = absurd (false≢true (sym higher ∙ before_trans b x a is lower))

one_longer : (xs : List Actor) (i : ℕ) (d : Actor) → i < length xs → take (i + 1) xs ≡ take i xs ++ get_or xs i d ∷ []
one_longer [] i d within = absurd (omega (arith, within))
one_longer (x ∷ xs) zero d within = refl
one_longer (x ∷ xs) (suc i) d within = longer (omega arith) (one_longer xs i d (omega (arith, within)))
  where
    longer : suc i + 1 ≡ suc (i + 1) → take (i + 1) xs ≡ take i xs ++ get_or xs i d ∷ [] → take (suc i + 1) (x ∷ xs) ≡ x ∷ (take i xs ++ get_or xs i d ∷ [])
    longer same rest = ap (λ n. take n (x ∷ xs)) same ∙ ap (λ (ys : List Actor). x ∷ ys) rest

module _ (def : LineDef) (past : List Entry) where
  -- the lowest of these that is hung
  abbrev pub IsLowestOf : List Actor → Option Actor → Type 0
  IsLowestOf seen None = (b : Actor) → is_among seen b ≡ true → IsHungPast def past b → ⊥
  IsLowestOf seen (Some a) = IsHungPast def past a
      × ((b : Actor) → is_among seen b ≡ true → IsHungPast def past b → is_before b a ≡ false)

  pub lowest_of_none : IsLowestOf [] None
  lowest_of_none b there hung = absurd cc

  module _ (seen : List Actor) (x : Actor) where
    -- one of those before it, or the new one
    either_is : (Q : Actor → Type 0) → ((b : Actor) → is_among seen b ≡ true → Q b) → Q x → (b : Actor) → is_among (seen ++ x ∷ []) b ≡ true → Q b
    either_is Q old new b there = by (is_among seen b) refl (sym (among_more seen x b) ∙ there)
      where
        by : (t : Bool) → is_among seen b ≡ t → (t || same_actor x b) ≡ true → Q b
        by true is h = old b is
        by false is h = subst Q (actor_is x b h) new

    not_hung : (o : Option Actor) → IsLowestOf seen o → (IsHungPast def past x → ⊥) → IsLowestOf (seen ++ x ∷ []) o
    not_hung None low free = either_is (λ b. IsHungPast def past b → ⊥) low free
    not_hung (Some a) low free = (low.0, either_is (λ b. IsHungPast def past b → is_before b a ≡ false) low.1 (λ h. absurd (free h)))

    is_hung : (o : Option Actor) → IsLowestOf seen o → IsHungPast def past x → IsLowestOf (seen ++ x ∷ []) (lower_of o x true)
    is_hung None low hung = (hung, either_is (λ b. IsHungPast def past b → is_before b x ≡ false) (λ b there h. absurd (low b there h)) (λ h. not_itself x))
    is_hung (Some a) low hung = by (is_before x a) refl
      where
        by : (t : Bool) → is_before x a ≡ t → IsLowestOf (seen ++ x ∷ []) (cond t (Some x) (Some a))
        by true lower = (
          hung,
          either_is (λ b. IsHungPast def past b → is_before b x ≡ false)
              (λ b there h. still_not b x a lower (low.1 b there h)) (λ h. not_itself x),
        )
        by false higher = (low.0, either_is (λ b. IsHungPast def past b → is_before b a ≡ false) low.1 (λ h. higher))

    pub one_more : (o : Option Actor) (hung : Bool) → IsLowestOf seen o → IsTrue hung ↔ IsHungPast def past x
        → IsLowestOf (seen ++ x ∷ []) (lower_of o x hung)
    one_more o true low is = is_hung o low (is.0 refl)
    one_more o false low is = not_hung o low (λ h. false≢true (is.1 h))

  -- one more of the list
  pub next_seen : (items : List Actor) (i : ℕ) (d : Actor) (o new : Option Actor) (hung : Bool) → items ≡ all_in_way def past → i < length items
      → IsLowestOf (take i (all_in_way def past)) o → IsTrue hung ↔ IsHungPast def past (get_or items i d) → new ≡ lower_of o (get_or items i d) hung
      → IsLowestOf (take (i + 1) (all_in_way def past)) new
  next_seen items i d o new hung same within low is new_is =
      let longer : take (i + 1) items ≡ take i items ++ get_or items i d ∷ [] = one_longer items i d within in
      let old : IsLowestOf (take i items) o = subst (λ (xs : List Actor). IsLowestOf (take i xs) o) (sym same) low in
      let more : IsLowestOf (take i items ++ get_or items i d ∷ []) (lower_of o (get_or items i d) hung) =
      one_more (take i items) (get_or items i d) o hung old is in
      subst (λ (xs : List Actor). IsLowestOf (take (i + 1) xs) new) same
      (subst (λ (xs : List Actor). IsLowestOf xs new) (sym longer)
      (subst (λ (x : Option Actor). IsLowestOf (take i items ++ get_or items i d ∷ []) x) (sym new_is) more))

  -- all that are hung are listed
  pub lowest_is : (o : Option Actor) → IsLowestOf (all_in_way def past) o → IsLowestHungPast def past o
  lowest_is None low = λ a hung. low a (reached_listed def past hung.0 a a hung.1) hung
  lowest_is (Some a) low = (low.0, λ b hung. low.1 b (reached_listed def past hung.0 b b hung.1) hung)
