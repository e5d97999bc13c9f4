-- The row at a driver's place.
use Rattle.std.proofs.Common.{◌≡◌, ℕ, zero, suc, ◌+◌, ◌<◌, Bool, true, false, cond, not, Option, Some, None, List, [], ◌∷◌, slice_get, position}
use Rattle.std.proofs.Common.{◌++◌, ◌&&◌, IsSome, unwrap_or, subst, length, refl, sym, ap, ◌∙◌, arith}
use Rattle.std.specs.List.{position_or_len}
use Rattle.std.specs.Map.{keys_of, values_of, lookup, set_value}
use Rattle.indexmap.specs.IndexMap.{set_value_at}
use Rattle.indexmap.proofs.MapLemmas.{Found-position, Missing-position}
use Rattle.irq_base.specs.declared.calls.Call.{Call}
use Rattle.irq_base.specs.declared.numbers.DriverNo.{DriverNo}
use Rattle.irq_model.specs.Bounds.{is_ask_call}
use Rattle.irq_model.specs.Kinds.{same_driver}
use Rattle.irq_model.proofs.Same.{driver_from_same}
use Rattle.line_scripts.specs.Rows.{RowSeen, unbegun, row_of, calls_of, place_of, call_in, call_of, asks_left, is_some_ask}
use Rattle.line_scripts.proofs.RowSteps.{other_both, row_found, asks_pushed, asks_advanced}

-- a row that changes, to the driver itself and to another
pub set_own : (test : DriverNo → Bool) (es : List (DriverNo × RowSeen)) (v w : RowSeen) → lookup test es ≡ Some v → lookup test (set_value test es w) ≡ Some w
set_own test [] v w h = cc
set_own test (e ∷ es) v w h = by_test (test e.0) refl h (set_own test es v w)
  where
    by_test : (b : Bool) → test e.0 ≡ b → cond b (Some e.1) (lookup test es) ≡ Some v → (lookup test es ≡ Some v → lookup test (set_value test es w) ≡ Some w)
        → lookup test (cond b ((e.0, w) ∷ es) (e ∷ set_value test es w)) ≡ Some w
    by_test true is h rest = ap (λ b. cond b (Some w) (lookup test es)) is
    by_test false is h rest = ap (λ b. cond b (Some e.1) (lookup test (set_value test es w))) is ∙ rest h

pub set_other : (es : List (DriverNo × RowSeen)) (who r : DriverNo) (w : RowSeen) → same_driver who r ≡ false
    → lookup (same_driver r) (set_value (same_driver who) es w) ≡ lookup (same_driver r) es
set_other [] who r w other = refl
set_other (e ∷ es) who r w other = by_test (same_driver who e.0) refl (set_other es who r w other)
  where
    by_test : (b : Bool) → same_driver who e.0 ≡ b → lookup (same_driver r) (set_value (same_driver who) es w) ≡ lookup (same_driver r) es
        → lookup (same_driver r) (cond b ((e.0, w) ∷ es) (e ∷ set_value (same_driver who) es w)) ≡ lookup (same_driver r) (e ∷ es)
    by_test true is rest =
        let apart : same_driver r e.0 ≡ false = ap (same_driver r) (sym (driver_from_same who e.0 is)) ∙ other_both who r other in
        ap (λ b. cond b (Some w) (lookup (same_driver r) es)) apart
        ∙ sym (ap (λ b. cond b (Some e.1) (lookup (same_driver r) es)) apart)
    by_test false is rest = ap (λ o. cond (same_driver r e.0) (Some e.1) o) rest

-- a value that is set at the driver's place is the driver's
set_at : (test : DriverNo → Bool) (es : List (DriverNo × RowSeen)) (i : ℕ) (w : RowSeen) → position_or_len test (keys_of es) ≡ i
    → set_value_at es i w ≡ set_value test es w
set_at test [] i w h = refl
set_at test (e ∷ es) i w h = by_test (test e.0) i h (set_at test es)
  where
    by_test : (b : Bool) (i : ℕ) → cond (not b) (1 + position_or_len test (keys_of es)) 0 ≡ i
        → ((j : ℕ) (w : RowSeen) → position_or_len test (keys_of es) ≡ j → set_value_at es j w ≡ set_value test es w)
        → set_value_at (e ∷ es) i w ≡ cond b ((e.0, w) ∷ es) (e ∷ set_value test es w)
    by_test true zero h rest = refl
    by_test true (suc i) h rest = cc
    by_test false zero h rest = absurd (omega (arith, h))
    by_test false (suc i) h rest = ap (λ (t : List (DriverNo × RowSeen)). e ∷ t) (rest i w (omega (arith, h)))

module _ (es s : List (DriverNo × RowSeen)) (seen : es ≡ s) (who : DriverNo) where
  at_fields : (o : Option ℕ) → o ≡ position (same_driver who) (keys_of s) → position (same_driver who) (keys_of es) ≡ o
  at_fields o at = ap (λ rows. position (same_driver who) (keys_of rows)) seen ∙ sym at

  pub none_found : None ≡ position (same_driver who) (keys_of s) → lookup (same_driver who) es ≡ None
  none_found at = (Missing-position (same_driver who) es (at_fields None at)).value

  pub was_none : None ≡ position (same_driver who) (keys_of s) → row_of s who ≡ unbegun []
  was_none at = ap (λ rows. row_of rows who) (sym seen) ∙ ap (λ o. unwrap_or o (unbegun [])) (none_found at)

  -- a driver without a row has no call due
  pub none_due : None ≡ position (same_driver who) (keys_of s) → IsSome (call_of s who) → ⊥
  none_due at due = let h : IsSome (call_in (unbegun [])) = subst (λ (x : RowSeen). IsSome (call_in x)) (was_none at) due in cc

  pub within : (i : ℕ) → Some i ≡ position (same_driver who) (keys_of s) → i < length es
  within i at = (Found-position (same_driver who) es i (at_fields (Some i) at)).within

  module _ (i : ℕ) (at : Some i ≡ position (same_driver who) (keys_of s)) (v : RowSeen) (value : slice_get (values_of es) i ≡ Some v) where
    found : lookup (same_driver who) es ≡ Some v
    found = (Found-position (same_driver who) es i (at_fields (Some i) at)).value ∙ value

    pub was : row_of s who ≡ v
    was = row_found es s who v seen found

    module _ (w : RowSeen) where
      set_is : set_value_at es i w ≡ set_value (same_driver who) es w
      set_is = set_at (same_driver who) es i w (Found-position (same_driver who) es i (at_fields (Some i) at)).or_len

      pub own : row_of (set_value_at es i w) who ≡ w
      own = ap (λ rows. row_of rows who) set_is ∙ ap (λ o. unwrap_or o (unbegun [])) (set_own (same_driver who) es v w found)

      pub others : (r : DriverNo) → same_driver r who ≡ false → row_of (set_value_at es i w) r ≡ row_of s r
      others r other =
          ap (λ rows. row_of rows r) set_is
          ∙ (ap (λ o. unwrap_or o (unbegun [])) (set_other es who r w (other_both r who other)) ∙ ap (λ rows. row_of rows r) seen)

      pub same_calls : w.calls ≡ v.calls → (r : DriverNo) → calls_of (set_value_at es i w) r ≡ calls_of s r
      same_calls same r = by_test (same_driver r who) refl
        where
          by_test : (b : Bool) → same_driver r who ≡ b → calls_of (set_value_at es i w) r ≡ calls_of s r
          by_test true mine =
              subst (λ (x : DriverNo). calls_of (set_value_at es i w) x ≡ calls_of s x) (sym (driver_from_same r who mine))
              (ap (λ (x : RowSeen). x.calls) own ∙ (same ∙ ap (λ (x : RowSeen). x.calls) (sym was)))
          by_test false other = ap (λ (x : RowSeen). x.calls) (others r other)

      pub pushed : (call : Call) → place_of s who ≡ 0 → w ≡ record v { calls = v.calls ++ call ∷ [] }
          → asks_left (set_value_at es i w) ≡ asks_left s + cond (is_ask_call call) 1 0
      pushed call start is =
          ap asks_left set_is
          ∙ (asks_pushed es who v w call found (ap (λ (x : RowSeen). x.place) (sym was) ∙ start) is
          ∙ ap (λ (rows : List (DriverNo × RowSeen)). asks_left rows + cond (is_ask_call call) 1 0) seen)

      pub advanced : (completes : Bool) → IsSome (call_of s who) → w.calls ≡ v.calls → w.place ≡ cond completes (v.place + 1) v.place
          → asks_left (set_value_at es i w) + cond (completes && is_some_ask (call_of s who)) 1 0 ≡ asks_left s
      advanced completes due same moved =
          let some = subst (λ (x : RowSeen). IsSome (call_in x)) was due in
          ap (λ (rows : List (DriverNo × RowSeen)). asks_left rows + cond (completes && is_some_ask (call_of s who)) 1 0) set_is
          ∙ (ap (λ (x : RowSeen). asks_left (set_value (same_driver who) es w) + cond (completes && is_some_ask (call_in x)) 1 0) was
          ∙ (asks_advanced es who v w completes found some same moved ∙ ap asks_left seen))
