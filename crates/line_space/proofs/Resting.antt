-- Each legal history of a line that has a bound goes on until nothing more is due.
use Rattle.std.proofs.Common.{◌≡◌, ◌≤◌, ℕ, zero, suc, ◌+◌, Bool, true, false, Option, None, Some, List, [], ◌∷◌, ◌++◌, length, reverse}
use Rattle.std.proofs.Common.{refl, sym, ap, subst, ◌∙◌, ◌⊎◌, inl, inr, arith}
use Rattle.std.proofs.lemmas.Bool.{false≢true, false_from_ne_true}
use Rattle.std.proofs.lemmas.List.{append_assoc, length-reverse, reverse-reverse}
use Rattle.irq_base.specs.declared.entries.Actor.{Actor}
use Rattle.irq_base.specs.declared.entries.Entry.{Entry}
use Rattle.irq_base.specs.declared.lines.LineDef.{LineDef}
use Rattle.irq_laws.proofs.KeptAlways.{kept}
use Rattle.irq_laws.proofs.OwnLaws.{due_is_own_past}
use Rattle.irq_laws.proofs.Standstill.{no_standstill}
use Rattle.irq_model.specs.Legal.{IsLegal, IsLegalPast}
use Rattle.irq_model.specs.Next.{next_past}
use Rattle.irq_model.specs.Valid.{IsValid}
use Rattle.irq_model.specs.ValidRuns.{HasValidRuns, NeverWaits}
use Rattle.irq_model.specs.Waits.{IsAtRest, IsCaughtPast, IsHungPast, is_unfinished_actor}
use Rattle.irq_storms.proofs.Laws.{within_bound}
use Rattle.irq_storms.specs.Lengths.{IsBounded, history_bound}
use Rattle.line_space.specs.Found.{ComesToEnd, ComesToRest}
use Rattle.play_laws.proofs.Listed.{unfinished_listed}
use Rattle.play_laws.proofs.Rest.{nobody_moves, rest_is_still, unwaiting_rests}
use Rattle.play_laws.specs.Actors.{actors_of, IsOneOf}

module _ (def : LineDef) (valid : IsValid def) (runs : HasValidRuns def) where
  record Mover (g : List Entry) : Type 0 where
    actor : Actor
    entry : Entry
    due : next_past def g actor ≡ Some entry

  abbrev AllRest : List Entry → List Actor → Type 0
  AllRest g xs = (a : Actor) → IsOneOf a xs → next_past def g a ≡ None

  rest_more : (g : List Entry) (x : Actor) (xs : List Actor) → next_past def g x ≡ None → AllRest g xs → AllRest g (x ∷ xs)
  rest_more g x xs none rest a (inl same) = ap (next_past def g) same ∙ none
  rest_more g x xs none rest a (inr one) = rest a one

  -- somebody has an entry due, or nobody
  movers : (g : List Entry) (xs : List Actor) → Mover g ⊎ AllRest g xs
  movers g [] = inr (λ a one. absurd one)
  movers g (x ∷ xs) = by_due (next_past def g x) refl (movers g xs)
    where
      by_rest : next_past def g x ≡ None → Mover g ⊎ AllRest g xs → Mover g ⊎ AllRest g (x ∷ xs)
      by_rest none (inl m) = inl m
      by_rest none (inr rest) = inr (rest_more g x xs none rest)

      by_due : (o : Option Entry) → next_past def g x ≡ o → Mover g ⊎ AllRest g xs → Mover g ⊎ AllRest g (x ∷ xs)
      by_due None none others = by_rest none others
      by_due (Some e) due others = inl (record { actor = x; entry = e; due = due })

  as_legal : (g : List Entry) → IsLegalPast def g → IsLegal def (reverse g)
  as_legal g legal = subst (λ (x : List Entry). IsLegalPast def x) (sym (reverse-reverse g)) legal

  all_rest : (g : List Entry) → AllRest g (actors_of def) → (a : Actor) → IsOneOf a (actors_of def) → next_past def (reverse (reverse g)) a ≡ None
  all_rest g rest a one = ap (λ (x : List Entry). next_past def x a) (reverse-reverse g) ∙ rest a one

  -- a legal history goes on until something holds of it
  abbrev ComesTo : (List Entry → Type 0) → List Entry → Type 0
  ComesTo End g = (k : List Entry) × IsLegalPast def (k ++ g) × End (k ++ g)

  module _ (End : List Entry → Type 0) (ends : (g : List Entry) → IsLegalPast def g → AllRest g (actors_of def) → End g) where
    one_more : (g : List Entry) (e : Entry) → ComesTo End (e ∷ g) → ComesTo End g
    one_more g e later =
        let same : (later.0 ++ e ∷ []) ++ g ≡ later.0 ++ (e ∷ g) = append_assoc later.0 (e ∷ []) g in
        (later.0 ++ e ∷ [], subst (λ (x : List Entry). IsLegalPast def x) (sym same) later.1, subst End (sym same) later.2)

    step : (g : List Entry) → IsLegalPast def g → ((e : Entry) → IsLegalPast def (e ∷ g) → ComesTo End (e ∷ g)) → ComesTo End g
    step g legal on = by_mover (movers g (actors_of def))
      where
        by_mover : Mover g ⊎ AllRest g (actors_of def) → ComesTo End g
        by_mover (inl m) = one_more g m.entry (on m.entry (ap (next_past def g) (due_is_own_past def g m.actor m.entry m.due) ∙ m.due, legal))
        by_mover (inr rest) = ([], legal, ends g legal rest)

    -- no history is longer than the bound
    module _ (bound : ℕ) (within : (g : List Entry) → IsLegalPast def g → length g ≤ bound) where
      go : (n : ℕ) (g : List Entry) → IsLegalPast def g → bound ≤ length g + n → ComesTo End g
      go zero g legal few = step g legal (λ e more. absurd (omega (arith, within (e ∷ g) more, few)))
      go (suc n) g legal few = step g legal (λ e more. go n (e ∷ g) more (omega (arith, few)))

      by_bound : (g : List Entry) → IsLegalPast def g → ComesTo End g
      by_bound g legal = go bound g legal (omega arith)

    comes_to : IsBounded def → (g : List Entry) → IsLegalPast def g → ComesTo End g
    comes_to bounded = by_bound (history_bound def) within
      where
        within : (g : List Entry) → IsLegalPast def g → length g ≤ history_bound def
        within g legal =
            subst (λ n. n ≤ history_bound def) (length-reverse g) (within_bound def (reverse g) valid runs bounded (as_legal g legal))

  -- somebody has begun what he can't end, or nobody

  record Undone (g : List Entry) : Type 0 where
    actor : Actor
    undone : is_unfinished_actor def g actor ≡ true

  abbrev AllDone : List Entry → List Actor → Type 0
  AllDone g xs = (a : Actor) → IsOneOf a xs → is_unfinished_actor def g a ≡ false

  done_more : (g : List Entry) (x : Actor) (xs : List Actor) → is_unfinished_actor def g x ≡ false → AllDone g xs → AllDone g (x ∷ xs)
  done_more g x xs is done a (inl same) = ap (is_unfinished_actor def g) same ∙ is
  done_more g x xs is done a (inr one) = done a one

  undone_in : (g : List Entry) (xs : List Actor) → Undone g ⊎ AllDone g xs
  undone_in g [] = inr (λ a one. absurd one)
  undone_in g (x ∷ xs) = by_test (is_unfinished_actor def g x) refl (undone_in g xs)
    where
      by_test : (b : Bool) → is_unfinished_actor def g x ≡ b → Undone g ⊎ AllDone g xs → Undone g ⊎ AllDone g (x ∷ xs)
      by_test true is others = inl (record { actor = x; undone = is })
      by_test false is (inl u) = inl u
      by_test false is (inr done) = inr (done_more g x xs is done)

  abbrev RestsOrHangs : List Entry → Type 0
  RestsOrHangs g = IsAtRest def (reverse g) ⊎ ((a : Actor) × IsHungPast def g a)

  module _ (g : List Entry) (legal : IsLegalPast def g) (still : (a : Actor) → next_past def g a ≡ None) where
    by_caught : (a : Actor) → IsCaughtPast def g a → RestsOrHangs g
    by_caught a (inl hung) = inr (a, hung)
    by_caught a (inr (n, b, w, hung)) = inr (b, hung)

    all_done : AllDone g (actors_of def) → (a : Actor) → is_unfinished_actor def g a ≡ false
    all_done done a = false_from_ne_true (is_unfinished_actor def g a)
        (λ is. false≢true (sym (done a (unfinished_listed def g a legal (kept def g valid legal) is)) ∙ is))

    rests : AllDone g (actors_of def) → IsAtRest def (reverse g)
    rests done = record {
      still = λ a. ap (λ (x : List Entry). next_past def x a) (reverse-reverse g) ∙ still a;
      done = λ a. ap (λ (x : List Entry). is_unfinished_actor def x a) (reverse-reverse g) ∙ all_done done a;
    }

    rests_or_hangs : RestsOrHangs g
    rests_or_hangs = by_undone (undone_in g (actors_of def))
      where
        by_undone : Undone g ⊎ AllDone g (actors_of def) → RestsOrHangs g
        by_undone (inl u) =
            by_caught u.actor (no_standstill def g valid runs legal (nobody_moves def g still) u.actor u.undone (still u.actor))
        by_undone (inr done) = inl (rests done)

  abbrev IsEnd : List Entry → Type 0
  IsEnd g = ((a : Actor) → next_past def g a ≡ None) × RestsOrHangs g

  is_still : (g : List Entry) → IsLegalPast def g → AllRest g (actors_of def) → (a : Actor) → next_past def g a ≡ None
  is_still g legal rest a =
      ap (λ (x : List Entry). next_past def x a) (sym (reverse-reverse g))
      ∙ rest_is_still def (reverse g) valid (as_legal g legal) (all_rest g rest) a

  is_end : (g : List Entry) → IsLegalPast def g → AllRest g (actors_of def) → IsEnd g
  is_end g legal rest = let still = is_still g legal rest in (still, rests_or_hangs g legal still)

  pub comes_to_end : IsBounded def → (g : List Entry) → IsLegalPast def g → ComesToEnd def g
  comes_to_end bounded g legal = let there = comes_to IsEnd is_end bounded g legal in (there.0, there.1, there.2.0, there.2.1)

-- where no run waits the line is at rest there
pub comes_to_rest : (def : LineDef) → IsValid def → HasValidRuns def → NeverWaits def → IsBounded def → (g : List Entry) → IsLegalPast def g
    → ComesToRest def g
comes_to_rest def valid runs waits bounded = comes_to def valid runs (λ (g : List Entry). IsAtRest def (reverse g))
    (λ g legal rest. unwaiting_rests def (reverse g) valid runs waits (as_legal def valid runs g legal) (all_rest def valid runs g rest)) bounded
