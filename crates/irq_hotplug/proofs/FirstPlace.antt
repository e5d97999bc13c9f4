-- A search from below finds the first place.
use Rattle.std.proofs.Common.{◌≡◌, ℕ, zero, suc, ◌<◌, Bool, true, false, not, cond, ◌⊎◌, inl, inr, Option, Some, None}
use Rattle.std.proofs.Common.{List, length, refl, ap, ◌∙◌, sym, subst, arith}
use Rattle.std.specs.Option.{option_or}
use Rattle.std.proofs.lemmas.Bool.{false≢true, and_parts, and_from}
use Rattle.irq_model.specs.Lines.{is_in_mask}
use Rattle.vector_matrix.specs.Vectors.{vector_of}
use Rattle.vector_matrix.specs.declared.view.Vector.{Vector}
use Rattle.irq_hotplug.specs.First.{IsFirst, IsFull, PlacesFirst}
use Rattle.irq_hotplug.specs.Placing.{lowest_free, first_free, is_asked, is_online, place_for}

below_or_at : (n m : ℕ) → n < suc m → (n < m) ⊎ (n ≡ m)
below_or_at n m lt = grind arith

some_none : (v : Vector) → Some v ≡ None → ⊥
some_none v is = cc

same_some : (v w : Vector) → Some v ≡ Some w → v ≡ w
same_some v w is = cc

-- ---- one processor

pub record Lowest (taken : Vector → Bool) (cpu n : ℕ) (v : Vector) : Type 0 where
  pub cpu_is : v.cpu.0 ≡ cpu
  pub number : v.number < n
  pub free : taken v ≡ false
  pub lower : (u : ℕ) → u < v.number → taken (vector_of (record { 0 = cpu }) u) ≡ true

more_full : (taken : Vector → Bool) (cpu n : ℕ) → IsFull taken n cpu → taken (vector_of (record { 0 = cpu }) n) ≡ true → IsFull taken (suc n) cpu
more_full taken cpu n full here u lt =
    elim (below_or_at u n lt) [ inl below ↦ full u below | inr same ↦ subst (λ k. taken (vector_of (record { 0 = cpu }) k) ≡ true) (sym same) here ]

-- what a search of one processor tells
abbrev Tells : (Vector → Bool) → ℕ → ℕ → Option Vector → Type 0
Tells taken cpu n None = IsFull taken n cpu
Tells taken cpu n (Some v) = Lowest taken cpu n v

lowest_tells : (taken : Vector → Bool) (cpu n : ℕ) → Tells taken cpu n (lowest_free taken cpu n)
lowest_tells taken cpu zero = λ u lt. absurd (omega (arith, lt))
lowest_tells taken cpu (suc n) = by (lowest_free taken cpu n) (lowest_tells taken cpu n) (taken (vector_of (record { 0 = cpu }) n)) refl
  where
    by : (p : Option Vector) → Tells taken cpu n p → (t : Bool) → taken (vector_of (record { 0 = cpu }) n) ≡ t
        → Tells taken cpu (suc n) (option_or p (cond t None (Some (vector_of (record { 0 = cpu }) n))))
    by (Some v) tells t is = record { cpu_is = tells.cpu_is; number = omega (arith, tells.number); free = tells.free; lower = tells.lower }
    by None full true is = more_full taken cpu n full is
    by None full false is = record { cpu_is = refl; number = omega arith; free = is; lower = full }

-- ---- the processors that are asked

pub record First (taken : Vector → Bool) (vectors : ℕ) (asked : ℕ → Bool) (n : ℕ) (v : Vector) : Type 0 where
  pub lowest : Lowest taken v.cpu.0 vectors v
  pub within : v.cpu.0 < n
  pub asked_it : asked v.cpu.0 ≡ true
  pub before : (c : ℕ) → c < v.cpu.0 → asked c ≡ true → IsFull taken vectors c

abbrev AllTell : (Vector → Bool) → ℕ → (ℕ → Bool) → ℕ → Option Vector → Type 0
AllTell taken vectors asked n None = (c : ℕ) → c < n → asked c ≡ true → IsFull taken vectors c
AllTell taken vectors asked n (Some v) = First taken vectors asked n v

here_first : (taken : Vector → Bool) (vectors : ℕ) (asked : ℕ → Bool) (n : ℕ) (v : Vector) → ((c : ℕ) → c < n → asked c ≡ true → IsFull taken vectors c)
    → asked n ≡ true → Lowest taken n vectors v → First taken vectors asked (suc n) v
here_first taken vectors asked n v earlier is low =
    record {
      lowest = record {
        cpu_is = refl;
        number = low.number;
        free = low.free;
        lower = subst (λ k. (u : ℕ) → u < v.number
            → taken (vector_of (record { 0 = k }) u) ≡ true) (sym low.cpu_is) low.lower;
      };
      within = omega (arith, low.cpu_is);
      asked_it = ap asked low.cpu_is ∙ is;
      before = λ c lt. earlier c (omega (arith, lt, low.cpu_is));
    }

full_more : (taken : Vector → Bool) (vectors : ℕ) (asked : ℕ → Bool) (n : ℕ) → ((c : ℕ) → c < n → asked c ≡ true → IsFull taken vectors c)
    → (asked n ≡ true → IsFull taken vectors n) → (c : ℕ) → c < suc n → asked c ≡ true → IsFull taken vectors c
full_more taken vectors asked n earlier here c lt is =
    elim (below_or_at c n lt) [
      | inl below ↦ earlier c below is
      | inr same ↦ subst (λ k. IsFull taken vectors k) (sym same) (here (ap asked (sym same) ∙ is))
    ]

first_tells : (taken : Vector → Bool) (vectors : ℕ) (asked : ℕ → Bool) (n : ℕ) → AllTell taken vectors asked n (first_free taken vectors asked n)
first_tells taken vectors asked zero = λ c lt is. absurd (omega (arith, lt))
first_tells taken vectors asked (suc n) =
    by (first_free taken vectors asked n) (first_tells taken vectors asked n) (asked n) refl (lowest_free taken n vectors) (lowest_tells taken n vectors)
  where
    by : (p : Option Vector) → AllTell taken vectors asked n p → (t : Bool) → asked n ≡ t → (q : Option Vector) → Tells taken n vectors q
        → AllTell taken vectors asked (suc n) (option_or p (cond t q None))
    by (Some v) tells t is q low = record { lowest = tells.lowest; within = omega (arith, tells.within); asked_it = tells.asked_it; before = tells.before }
    by None earlier true is (Some v) low = here_first taken vectors asked n v earlier is low
    by None earlier true is None low = full_more taken vectors asked n earlier (λ asked_it. low)
    by None earlier false is q low = full_more taken vectors asked n earlier (λ asked_it. absurd (false≢true (sym is ∙ asked_it)))

-- ---- those of the mask, and then the others

asks_mask : (online : List Bool) (mask c : ℕ) → is_online online c ≡ true → is_in_mask mask c ≡ true → is_asked online mask true c ≡ true
asks_mask online mask c on is = and_from (is_online online c) (is_in_mask mask c) on is

asks_other : (online : List Bool) (mask c : ℕ) → is_online online c ≡ true → is_in_mask mask c ≡ false → is_asked online mask false c ≡ true
asks_other online mask c on is = and_from (is_online online c) (not (is_in_mask mask c)) on (ap not is)

out_of_mask : (t : Bool) → not t ≡ true → t ≡ false
out_of_mask true is = absurd (false≢true is)
out_of_mask false is = refl

first_of_mask : (taken : Vector → Bool) (vectors : ℕ) (online : List Bool) (mask : ℕ) (v : Vector)
    → First taken vectors (is_asked online mask true) (length online) v → IsFirst taken vectors online mask v
first_of_mask taken vectors online mask v first =
    let both = and_parts (is_online online v.cpu.0) (is_in_mask mask v.cpu.0) first.asked_it in
    record {
      there = first.within;
      online_now = both.0;
      number = first.lowest.number;
      free = first.lowest.free;
      lower = first.lowest.lower;
      in_mask = λ is c lt on in_it. first.before c lt (asks_mask online mask c on in_it);
      of_mask = λ is. absurd (false≢true (sym is ∙ both.1));
      of_others = λ is. absurd (false≢true (sym is ∙ both.1));
    }

first_of_others : (taken : Vector → Bool) (vectors : ℕ) (online : List Bool) (mask : ℕ) (v : Vector)
    → ((c : ℕ) → c < length online → is_asked online mask true c ≡ true → IsFull taken vectors c)
    → First taken vectors (is_asked online mask false) (length online) v → IsFirst taken vectors online mask v
first_of_others taken vectors online mask v full first =
    let both = and_parts (is_online online v.cpu.0) (not (is_in_mask mask v.cpu.0)) first.asked_it in
    let out = out_of_mask (is_in_mask mask v.cpu.0) both.1 in
    record {
      there = first.within;
      online_now = both.0;
      number = first.lowest.number;
      free = first.lowest.free;
      lower = first.lowest.lower;
      in_mask = λ is. absurd (false≢true (sym out ∙ is));
      of_mask = λ is c lt on in_it. full c lt (asks_mask online mask c on in_it);
      of_others = λ is c lt on out_of_it. first.before c lt (asks_other online mask c on out_of_it);
    }

pub places_first : (taken : Vector → Bool) (vectors : ℕ) (online : List Bool) (mask : ℕ) → PlacesFirst taken vectors online mask
places_first taken vectors online mask =
    by (first_free taken vectors (is_asked online mask true) (length online)) (first_tells taken vectors (is_asked online mask true) (length online))
    (first_free taken vectors (is_asked online mask false) (length online)) (first_tells taken vectors (is_asked online mask false) (length online)) refl
  where
    in_either : (c : ℕ) (t : Bool) → is_in_mask mask c ≡ t → ((d : ℕ) → d < length online → is_asked online mask true d ≡ true → IsFull taken vectors d)
        → ((d : ℕ) → d < length online → is_asked online mask false d ≡ true → IsFull taken vectors d) → c < length online → is_online online c ≡ true
        → IsFull taken vectors c
    in_either c true is of_mask of_others lt on = of_mask c lt (asks_mask online mask c on is)
    in_either c false is of_mask of_others lt on = of_others c lt (asks_other online mask c on is)

    by : (p : Option Vector) → AllTell taken vectors (is_asked online mask true) (length online) p
        → (q : Option Vector) → AllTell taken vectors (is_asked online mask false) (length online) q
        → place_for taken vectors online mask ≡ option_or p q → PlacesFirst taken vectors online mask
    by (Some v) tells q others is = record {
      placed = λ w at. subst (IsFirst taken vectors online mask) (same_some v w (sym is ∙ at)) (first_of_mask taken vectors online mask v tells);
      unplaced = λ none. absurd (some_none v (sym is ∙ none));
    }
    by None full (Some v) tells is = record {
      placed = λ w at. subst (IsFirst taken vectors online mask) (same_some v w (sym is ∙ at)) (first_of_others taken vectors online mask v full tells);
      unplaced = λ none. absurd (some_none v (sym is ∙ none));
    }
    by None full None others is = record {
      placed = λ w at. absurd (some_none w (sym at ∙ is));
      unplaced = λ none c lt on. in_either c (is_in_mask mask c) refl full others lt on;
    }
