-- What a first pass knows of the actors that it met.
use Rattle.std.proofs.Common.{◌≡◌, ℕ, suc, ◌+◌, Bool, true, false, cond, IfSome, Option, Some, List, [], ◌∷◌, All}
use Rattle.std.proofs.Common.{Contains, length, nat_lt, slice_get, refl, sym, ap, subst, ◌∙◌, inl, inr, arith, ◌++◌, append-nil, length-append}
use Rattle.std.proofs.lemmas.Bool.{false≢true}
use Rattle.std.proofs.lemmas.List.Elements.{All-nil, All-cons, All-weaker, All-contains}
use Rattle.std.proofs.lemmas.Option.{same_Some}
use Rattle.irq_base.specs.Who.{actor_of}
use Rattle.irq_base.specs.declared.lines.LineDef.{LineDef}
use Rattle.irq_model.specs.Legal.{IsLegal}
use Rattle.irq_base.specs.declared.entries.Actor.{Actor}
use Rattle.irq_base.specs.declared.entries.Entry.{Entry}
use Rattle.line_lock.specs.Knows.{is_among, without_of, forked, IsCount, Meets, IsKnown}
use Rattle.irq_model.specs.Kinds.{same_actor, is_by}
use Rattle.irq_model.proofs.Same.{same_self_actor, actor_from_same}
use Rattle.line_lock.specs.Placed.{placed, placed_from, placed_of}
use Rattle.line_lock.specs.declared.view.Known.{Known}
use Rattle.line_lock.specs.declared.view.Placed.{Placed}
use Rattle.line_lock.proofs.Actors.{same_or_not, among_old, among_snoc, among_without}
use Rattle.line_shared.specs.Meeting.{HasMet, StandsIn}

module _ (k other new : Known) (who : Actor) (m : Meets k other new) where
  was_out : other.actor ≡ Some who → is_among who k.out ≡ true
  was_out is = subst (λ (o : Option Actor). IfSome o (λ a. is_among a k.out ≡ true)) is m.was_out

  given_same : (a : Actor) → is_among a k.given ≡ true → is_among a new.given ≡ true
  given_same a h = ap (λ (x : Known). is_among a x.given) m.whole ∙ h

  out_is : (a : Actor) → other.actor ≡ Some who → is_among a new.out ≡ cond (same_actor who a) false (is_among a k.out)
  out_is a is = ap (λ (x : Known). is_among a x.out) m.whole ∙ (ap (λ (o : Option Actor). is_among a (without_of o k.out)) is ∙ among_without a who k.out)

  pub after_meeting : IsKnown k → other.actor ≡ Some who → HasMet new who other
  after_meeting known is = record {
    actor = is;
    given = given_same who (known.given who (was_out is));
    back = out_is who is ∙ ap (λ t. cond t false (is_among who k.out)) (same_self_actor who);
    own = ap (λ (o : Option Actor). placed_of o new.seen) (sym is) ∙ m.own;
  }

  -- who was met before stays so
  pub stays_met : (a : Actor) (first : Known) → other.actor ≡ Some who → HasMet k a first → HasMet new a first
  stays_met a first is h = record {
    actor = h.actor;
    given = given_same a h.given;
    back = out_is a is ∙ by_test (same_actor who a);
    own = m.settled a h.given h.back ∙ h.own;
  }
    where
      by_test : (t : Bool) → cond t false (is_among a k.out) ≡ false
      by_test true = refl
      by_test false = h.back

  -- and is another
  pub others_met : (a : Actor) (first : Known) → other.actor ≡ Some who → HasMet k a first → a ≡ who → ⊥
  others_met a first is h same = false≢true (sym h.back ∙ (ap (λ x. is_among x k.out) same ∙ was_out is))

-- what is seen then was seen by one of the two
pub met_legal : (def : LineDef) (k other new : Known) → Meets k other new → IsLegal def k.seen → IsLegal def other.seen → IsLegal def new.seen
met_legal def k other new m one two =
    subst (λ (h : List Entry). IsLegal def h) (sym (ap (λ (x : Known). x.seen) m.whole)) (by_test (nat_lt (length k.seen) (length other.seen)))
  where
    by_test : (t : Bool) → IsLegal def (cond t other.seen k.seen)
    by_test true = two
    by_test false = one

other_than : (k : Known) (who a : Actor) → is_among who k.given ≡ false → is_among a k.given ≡ true → same_actor a who ≡ false
other_than k who a fresh given = elim (same_or_not a who) [
  | inl same ↦ absurd (false≢true (sym fresh ∙ (ap (λ x. is_among x k.given) (sym same) ∙ given)))
  | inr apart ↦ apart
]

pub stays_forked : (k other : Known) (who a : Actor) → is_among who k.given ≡ false → HasMet k a other → HasMet (forked k who) a other
stays_forked k other who a fresh h = record {
  actor = h.actor;
  given = among_old a who k.given h.given;
  back = among_snoc a who k.out ∙ (ap (λ t. cond t true (same_actor a who)) h.back ∙ other_than k who a fresh h.given);
  own = h.own;
}

-- ---- what stands at the places

-- the entry stands k places behind the first, whose place is `start`
record From (who : Actor) (start : ℕ) (h : List Entry) (p : Placed) : Type 0 where
  k : ℕ
  place : p.place ≡ start + k
  there : slice_get h k ≡ Some p.entry
  by : actor_of p.entry ≡ who

one_on : (who : Actor) (start : ℕ) (e : Entry) (h : List Entry) (p : Placed) → From who (suc start) h p → From who start (e ∷ h) p
one_on who start e h p f = record { k = suc f.k; place = f.place ∙ omega arith; there = f.there; by = f.by }

all_from : (who : Actor) (start : ℕ) (h : List Entry) → All (From who start h) (placed_from who start h)
all_from who start [] = All-nil (From who start [])
all_from who start (e ∷ h) = by_test (All-weaker (From who (suc start) h) (From who start (e ∷ h))
    (one_on who start e h) (placed_from who (suc start) h) (all_from who (suc start) h))
    (is_by who e) refl
  where
    by_test : All (From who start (e ∷ h)) (placed_from who (suc start) h) → (t : Bool) → is_by who e ≡ t
        → All (From who start (e ∷ h)) (cond t (record { place = start; entry = e }
        ∷ placed_from who (suc start) h) (placed_from who (suc start) h))
    by_test rest true is = All-cons (From who start (e ∷ h)) (record { place = start; entry = e })
        (placed_from who (suc start) h) (record {
          k = 0;
          place = omega arith;
          there = refl;
          by
              = sym (actor_from_same who (actor_of e) is);
        }) rest
    by_test rest false is = rest

stands_from : (who : Actor) (h : List Entry) (p : Placed) → From who 0 h p → StandsIn who h p
stands_from who h p f = record {
  there = ap (slice_get h) (f.place ∙ omega arith) ∙ f.there;
  by = f.by;
}

pub all_stand : (who : Actor) (h : List Entry) → All (StandsIn who h) (placed who h)
all_stand who h = All-weaker (From who 0 h) (StandsIn who h) (stands_from who h) (placed who h) (all_from who 0 h)

-- no place is two actors'
pub places_apart : (k first second : Known) (a b : Actor) (x y : Placed) → HasMet k a first → HasMet k b second → (a ≡ b → ⊥)
    → Contains first.mine x → Contains second.mine y → x.place ≡ y.place → ⊥
places_apart k first second a b x y m n apart in_first in_second same =
    let p = All-contains (StandsIn a k.seen) (placed a k.seen) x (all_stand a k.seen)
    (subst (λ (ps : List Placed). Contains ps x) (sym m.own) in_first) in
    let q = All-contains (StandsIn b k.seen) (placed b k.seen) y (all_stand b k.seen)
    (subst (λ (ps : List Placed). Contains ps y) (sym n.own) in_second) in
    let entries : x.entry ≡ y.entry = same_Some x.entry y.entry (sym p.there ∙ (ap (slice_get k.seen) same ∙ q.there)) in
    apart (sym p.by ∙ (ap (actor_of) entries ∙ q.by))

-- ---- a look at the count

pub all_is_seen : (k : Known) (found : ℕ) (c : IsCount k found) → found ≡ length k.seen → c.history ≡ k.seen
all_is_seen k found c as_many = c.begins.1 ∙ (ap (λ (es : List Entry). k.seen ++ es) (none c.begins.0 more) ∙ append-nil k.seen)
  where
    none : (rest : List Entry) → length rest ≡ 0 → rest ≡ []
    none [] is = refl
    none (e ∷ es) is = absurd (omega (arith, is))

    more : length c.begins.0 ≡ 0
    more = let l = length-append k.seen c.begins.0 in let e = ap (λ (es : List Entry). length es) c.begins.1 in let i = c.is in
        omega (arith, l, e, i, as_many)
