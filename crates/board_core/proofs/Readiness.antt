-- The ready actors after a line and a driver were asked again.
use Rattle.std.proofs.Common.{◌≡◌, ℕ, ◌+◌, ◌<◌, ◌==◌, ◌⊎◌, inl, inr, Bool, true, false, IsSomeAnd, Option, Some, None}
use Rattle.std.proofs.Common.{List, map, length, get_or, replicate, slice_get, refl, sym, ap, ◌∙◌, subst, arith}
use Rattle.std.specs.List.{slice_set}
use Rattle.std.specs.Option.{option_map}
use Rattle.std.proofs.Math.ListN.{length-map}
use Rattle.std.proofs.lemmas.Bool.Decides.{nat_tests}
use Rattle.std.proofs.lemmas.List.{length-set, length-replicate}
use Rattle.std.proofs.lemmas.Option.{slice_get-map, slice_get_read, slice_get_within}
use Rattle.irq_line.specs.Seen.{LineSeen}
use Rattle.irq_laws.proofs.Chosen.{the_same}
use Rattle.board_ready.specs.Ready.{idle}
use Rattle.board_ready.specs.Seen.{ReadySeen}
use Rattle.board_ready.specs.declared.parts.CurrentCall.{CurrentCall}
use Rattle.board_ready.specs.declared.parts.LineReadiness.{LineReadiness}
use Rattle.board_core.specs.ReadyFor.{IsReadinessOf, IsReadyFor, call_of}
use Rattle.board_core.specs.Refreshed.{HasLines, HasDrivers, AsksScript, IsRefreshed}
use Rattle.board_core.specs.Scripts.{ScriptSeen}
use Rattle.board_core.proofs.Searches.{there}
use Rattle.board_core.proofs.InLists.{set_there, set_other}

pub same_or_other : (i k : ℕ) → (i ≡ k) ⊎ ((i ≡ k) → ⊥)
same_or_other i k = by_test (i == k) refl
  where
    by_test : (b : Bool) → (i == k) ≡ b → (i ≡ k) ⊎ ((i ≡ k) → ⊥)
    by_test true is = inl (grind (arith, nat_tests))
    by_test false is = inr (λ same. (let d : (i == k) ≡ false = is in grind (arith, nat_tests)))

-- what stands at a place that was set
set_within : {A : Type 0} (xs : List A) (k : ℕ) (y : A) → k < length xs → slice_get (slice_set xs k y) k ≡ Some y
set_within xs k y less = let x = there xs k less in set_there xs k x.0 y x.1

module _ (new : List LineSeen) (k : ℕ) (part : LineReadiness)
    (its : (x : LineSeen) → slice_get new k ≡ Some x → IsReadinessOf x part) (parts : List LineReadiness)
    (within : k < length parts) where
  pub part_set : (i : ℕ) (x : LineSeen) → slice_get new i ≡ Some x
      → (((i ≡ k) → ⊥) → IsSomeAnd (slice_get parts i) (IsReadinessOf x))
      → IsSomeAnd (slice_get (slice_set parts k part) i) (IsReadinessOf x)
  part_set i x at others = elim (same_or_other i k) [
    | inl same ↦
        subst (λ (n : ℕ). IsSomeAnd (slice_get (slice_set parts k part) n) (IsReadinessOf x)) (sym same)
        (subst (λ (o : Option LineReadiness). IsSomeAnd o (IsReadinessOf x)) (sym (set_within parts k part within))
        (its x (ap (λ (n : ℕ). slice_get new n) (sym same) ∙ at)))
    | inr other ↦ subst (λ (o : Option LineReadiness). IsSomeAnd o (IsReadinessOf x)) (sym (set_other parts k i part other)) (others other)
  ]

call_set : (news : List ScriptSeen) (script : Option ℕ) (old new : List (Option CurrentCall))
    → AsksScript news script old new → (j : ℕ) (s : ScriptSeen) → slice_get news j ≡ Some s → j < length old
    → ((script ≡ Some j → ⊥) → slice_get old j ≡ Some (call_of s)) → slice_get new j ≡ Some (call_of s)
call_set news None old new asks j s at within others = ap (λ (cs : List (Option CurrentCall)). slice_get cs j) asks ∙ others (λ h. cc)
call_set news (Some i) old new asks j s at within others = elim (same_or_other j i) [
  | inl same ↦
      let its = asks.is s (ap (λ (n : ℕ). slice_get news n) (sym same) ∙ at) in
      ap (λ (cs : List (Option CurrentCall)). slice_get cs j) asks.set
      ∙ (ap (λ (n : ℕ). slice_get (slice_set old i asks.call) n) same
      ∙ (set_within old i asks.call (subst (λ (n : ℕ). n < length old) same within)
      ∙ ap (λ (c : Option CurrentCall). Some c) its))
  | inr other ↦ ap (λ (cs : List (Option CurrentCall)). slice_get cs j) asks.set ∙ (set_other old i j asks.call other ∙ others (λ h. other (its_number i j h)))
]
  where
    its_number : (i j : ℕ) → Some i ≡ Some j → j ≡ i
    its_number i j h = cc

asked_many : (news : List ScriptSeen) (script : Option ℕ) (old new : List (Option CurrentCall)) → AsksScript news script old new → length new ≡ length old
asked_many news None old new asks = ap (λ (cs : List (Option CurrentCall)). length cs) asks
asked_many news (Some i) old new asks = ap (λ (cs : List (Option CurrentCall)). length cs) asks.set ∙ length-set old i asks.call

pub ready_after : (old new : List LineSeen) (olds news : List ScriptSeen) (k : ℕ) (script : Option ℕ)
    (ready after : ReadySeen) → k < length old → IsReadyFor old olds ready → length new ≡ length old
    → ((i : ℕ) → ((i ≡ k) → ⊥) → slice_get new i ≡ slice_get old i)
    → length news ≡ length olds → ((j : ℕ) → (script ≡ Some j → ⊥) → slice_get news j ≡ slice_get olds j)
    → IsRefreshed new news k script ready after → IsReadyFor new news after
ready_after old new olds news k script ready after within is many others many_scripts other_scripts r =
    let set : length after.lines ≡ length ready.lines = ap (λ (ps : List LineReadiness). length ps) r.of_lines ∙ length-set ready.lines k r.told in
    record {
      all_lines = set ∙ (is.all_lines ∙ sym many);
      each_line = λ i x at.
          subst (λ (ps : List LineReadiness). IsSomeAnd (slice_get ps i) (IsReadinessOf x)) (sym r.of_lines)
          (part_set new k r.told r.is ready.lines (let m = is.all_lines in omega (arith, within, m)) i x at
          (λ other. is.each_line i x (sym (others i other) ∙ at)));
      all_drivers = asked_many news script ready.drivers after.drivers r.of_drivers ∙ (is.all_drivers ∙ sym many_scripts);
      each_driver = λ j s at.
          call_set news script ready.drivers after.drivers r.of_drivers j s at
          (let l = slice_get_within news j s at in let m = many_scripts in let n = is.all_drivers in
          omega (arith, l, m, n)) (λ other. is.each_driver j s (sym (other_scripts j other) ∙ at));
    }

-- ---- all lines and all drivers, one after another

pub more_lines : (lines : List LineSeen) (i : ℕ) (x : LineSeen) (part : LineReadiness) (ready after : ReadySeen)
    → slice_get lines i ≡ Some x → i < length ready.lines → IsReadinessOf x part
    → after.lines ≡ slice_set ready.lines i part → HasLines lines i ready → HasLines lines (i + 1) after
more_lines lines i x part ready after at within its set old k y less at_y =
    subst (λ (ps : List LineReadiness). IsSomeAnd (slice_get ps k) (IsReadinessOf y)) (sym set)
    (part_set lines i part (λ z at_z. subst (λ (w : LineSeen). IsReadinessOf w part) (the_same x z (sym at ∙ at_z)) its)
    ready.lines within k y at_y (λ other. old k y (omega (arith, less, other)) at_y))

pub more_drivers : (scripts : List ScriptSeen) (i : ℕ) (s : ScriptSeen) (call : Option CurrentCall)
    (ready after : ReadySeen) → slice_get scripts i ≡ Some s → i < length ready.drivers → call ≡ call_of s
    → after.drivers ≡ slice_set ready.drivers i call
    → HasDrivers scripts i ready → HasDrivers scripts (i + 1) after
more_drivers scripts i s call ready after at within its set old j t less at_t = elim (same_or_other j i) [
  | inl same ↦
      let is_s : s ≡ t = the_same s t (sym at ∙ (ap (λ (n : ℕ). slice_get scripts n) (sym same) ∙ at_t)) in
      ap (λ (cs : List (Option CurrentCall)). slice_get cs j) set
      ∙ (ap (λ (n : ℕ). slice_get (slice_set ready.drivers i call) n) same
      ∙ (set_within ready.drivers i call within ∙ ap (λ (c : Option CurrentCall). Some c)
      (its ∙ ap (λ (u : ScriptSeen). call_of u) is_s)))
  | inr other ↦ ap (λ (cs : List (Option CurrentCall)). slice_get cs j) set
      ∙ (set_other ready.drivers i j call other ∙ old j t (omega (arith, less, other)) at_t)
]

pub all_asked : (lines : List LineSeen) (scripts : List ScriptSeen) (ready : ReadySeen)
    → length ready.lines ≡ length lines → length ready.drivers ≡ length scripts → HasLines lines (length lines) ready
    → HasDrivers scripts (length scripts) ready → IsReadyFor lines scripts ready
all_asked lines scripts ready many many_scripts of_lines of_scripts =
    record {
      all_lines = many;
      each_line = λ k x at. of_lines k x (slice_get_within lines k x at) at;
      all_drivers = many_scripts;
      each_driver = λ j s at. of_scripts j s (slice_get_within scripts j s at) at;
    }

pub seen_at : {X : Type 0} (f : X → LineSeen) (xs : List X) (k : ℕ) (x : X) → k < length xs → x ≡ get_or xs k x → slice_get (map f xs) k ≡ Some (f x)
seen_at f xs k x within is = slice_get-map f xs k ∙ ap (option_map f) (slice_get_read xs (length xs) k x refl within is)

pub all_ready : {X : Type 0} (f : X → LineSeen) (xs : List X) (scripts : List ScriptSeen)
    (fresh asked ready : ReadySeen) → fresh.lines ≡ replicate (length xs) idle
    → fresh.drivers ≡ replicate (length scripts) None
    → HasLines (map f xs) (length xs) asked → length asked.lines ≡ length fresh.lines → asked.drivers ≡ fresh.drivers
    → HasDrivers scripts (length scripts) ready → length ready.drivers ≡ length asked.drivers
    → ready.lines ≡ asked.lines
    → IsReadyFor (map f xs) scripts ready
all_ready f xs scripts fresh asked ready new_lines new_drivers of_lines many drivers of_drivers many_drivers lines =
    let n = length-map xs f in
    let a = ap (λ (ps : List LineReadiness). length ps) new_lines ∙ length-replicate (length xs) idle in
    let b = ap (λ (cs : List (Option CurrentCall)). length cs) new_drivers ∙ length-replicate (length scripts) None in
    all_asked (map f xs) scripts ready (ap (λ (ps : List LineReadiness). length ps) lines ∙ (many ∙ (a ∙ sym n)))
    (many_drivers ∙ (ap (λ (cs : List (Option CurrentCall)). length cs) drivers ∙ b))
    (λ k x less at. subst (λ (ps : List LineReadiness). IsSomeAnd (slice_get ps k) (IsReadinessOf x)) (sym lines)
    (of_lines k x (omega (arith, less, n)) at)) of_drivers
