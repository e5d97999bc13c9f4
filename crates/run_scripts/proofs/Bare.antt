-- Where nothing is called and nothing told, no run moves on.
use Rattle.std.proofs.Common.{◌≡◌, ℕ, zero, suc, Bool, true, false, cond, Option, Some, None, List, [], ◌∷◌, take, drop, length, refl, sym, ap, ◌∙◌}
use Rattle.irq_base.specs.declared.devices.DeviceDef.{DeviceDef}
use Rattle.irq_base.specs.declared.devices.Part.{Part}
use Rattle.irq_base.specs.declared.devices.Part.TheVariants as parts
use Rattle.irq_base.specs.declared.numbers.DevNo.{DevNo}
use Rattle.irq_model.specs.Kinds.{same_dev}
use Rattle.device_table.specs.Rows.{at, put, change, changed, all_with}
use Rattle.run_scripts.specs.Groups.{GroupsSeen, group_of, items_at, span_of}
use Rattle.run_scripts.specs.declared.groups.Span.{Span}
use Rattle.run_scripts.specs.Places.{PlacesSeen, first_place, first_row, handler_begun, thread_begun, placed, after_begin, after_return}
use Rattle.run_scripts.specs.Runs.{RunsSeen, IsBare, answers_of}
use Rattle.run_scripts.specs.declared.rows.RunRow.{RunRow}

-- ---- nothing stands in an empty list

none_dropped : {A : Type 0} (n : ℕ) → drop {A = A} n [] ≡ []
none_dropped zero = refl
none_dropped (suc n) = refl

none_taken : {A : Type 0} (n : ℕ) → take {A = A} n [] ≡ []
none_taken zero = refl
none_taken (suc n) = refl

pub none_of : {A : Type 0} (g : GroupsSeen A) (d : DevNo) (part : Part) → g.items ≡ [] → group_of g d part ≡ []
none_of g d part h = by (span_of g.spans d part)
  where
    by : (s : Span) → items_at g.items s ≡ []
    by s = ap (λ xs. take s.len (drop s.from xs)) h ∙ (ap (take s.len) (none_dropped s.from) ∙ none_taken s.len)

-- ---- a row that stays

same_row : (r s : RunRow) → Some r ≡ Some s → r ≡ s
same_row r s h = cc

put_stands : (t : List (DevNo × RunRow)) (d : DevNo) (r : RunRow) → at t d ≡ Some r → put t d r ≡ t
put_stands [] d r h = refl
put_stands (e ∷ es) d r h = by_test (same_dev d e.0) h (put_stands es d r)
  where
    by_test : (b : Bool) → cond b (Some e.1) (at es d) ≡ Some r → (at es d ≡ Some r → put es d r ≡ es)
        → cond b ((e.0, r) ∷ es) (e ∷ put es d r) ≡ e ∷ es
    by_test true i rest = ap (λ x. (e.0, x) ∷ es) (sym (same_row e.1 r i))
    by_test false i rest = ap (λ xs. e ∷ xs) (rest i)

change_stands : (t : List (DevNo × RunRow)) (d : DevNo) (f : RunRow → RunRow) → f first_row ≡ first_row
    → ((r : RunRow) → at t d ≡ Some r → r ≡ first_row) → change f t d ≡ t
change_stands t d f h first = by_row (at t d) refl
  where
    by_row : (o : Option RunRow) → at t d ≡ o → changed f t d o ≡ t
    by_row None is = refl
    by_row (Some r) is =
        let here : r ≡ first_row = first r is in
        ap (λ (x : RunRow). put t d (f x)) here ∙ (ap (put t d) h ∙ put_stands t d first_row (is ∙ ap Some here))

pub first_everywhere : (xs : List DeviceDef) (d : DevNo) (r : RunRow) → at (all_with first_row xs) d ≡ Some r → r ≡ first_row
first_everywhere [] d r h = cc
first_everywhere (x ∷ xs) d r h = by_test (same_dev d x.dev) h (first_everywhere xs d r)
  where
    by_test : (b : Bool) → cond b (Some first_row) (at (all_with first_row xs) d) ≡ Some r
        → (at (all_with first_row xs) d ≡ Some r → r ≡ first_row) → r ≡ first_row
    by_test true i rest = same_row r first_row (sym i)
    by_test false i rest = rest i

-- ---- no run moves on

module _ (s : RunsSeen) (bare : IsBare s.calls.items s.answers.items s.places.work s.places.rows) where
  begun : (d : DevNo) (part : Part) (n : ℕ) → n ≡ 0 → after_begin n d part s.places ≡ s.places
  begun d parts.Primary n h =
      ap (λ k. after_begin k d parts.Primary s.places) h
      ∙ (ap (λ t. record { work = first_place; rows = t }) (change_stands s.places.rows d (handler_begun 0) refl (bare.first d))
      ∙ ap (λ w. record { work = w; rows = s.places.rows }) (sym bare.idle))
  begun d parts.Thread n h =
      ap (λ k. after_begin k d parts.Thread s.places) h
      ∙ ap (λ t. record s.places { rows = t }) (change_stands s.places.rows d (thread_begun 0) refl (bare.first d))

  pub begin_stands : (d : DevNo) (part : Part) → s ≡ record s { places = after_begin (length (answers_of s d part)) d part s.places }
  begin_stands d part = ap (λ (p : PlacesSeen). record s { places = p })
      (sym (begun d part (length (answers_of s d part)) (ap length (none_of s.answers d part bare.untold))))

  returned_stands : (d : DevNo) (part : Part) → after_return d part s.places ≡ s.places
  returned_stands d parts.Primary = ap (λ w. record s.places { work = w }) (sym bare.idle)
  returned_stands d parts.Thread =
      ap (λ t. record s.places { rows = t }) (change_stands s.places.rows d (placed first_place) refl (bare.first d))

  pub return_stands : (d : DevNo) (part : Part) → s ≡ record s { places = after_return d part s.places }
  return_stands d part = ap (λ (p : PlacesSeen). record s { places = p }) (sym (returned_stands d part))
