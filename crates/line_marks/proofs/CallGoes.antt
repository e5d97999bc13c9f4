-- One more entry of the due call completes it, or the call goes on.
use Rattle.std.proofs.Common.{◌≡◌, ℕ, suc, ◌+◌, ◌<◌, ◌≤◌, Bool, true, false, cond, Some, None, List, [], ◌∷◌, ◌++◌}
use Rattle.std.proofs.Common.{length, nat_lt, refl, sym, ap, ◌∙◌, arith, length-append}
use Rattle.std.proofs.lemmas.Bool.{ltb-true, ltb-false, lt-ltb}
use Rattle.irq_base.specs.declared.calls.Call.{Call}
use Rattle.irq_base.specs.declared.entries.Entry.{Entry}
use Rattle.irq_model.specs.Due.{entries_of_call, due_of}
use Rattle.irq_model.proofs.DueSteps.{each_makes_some, makes_as_many}
use Rattle.line_scripts.proofs.LastEntry.{completes_at, goes_over, ends_over}
use Rattle.line_scripts.specs.Endings.{completes}

-- one more entry of a call that has made n entries completes the call, or doesn't
abbrev pub Goes : Bool → Call → List Entry → Entry → ℕ → Type 0
Goes true c es e n = n + 1 ≡ entries_of_call c (es ++ e ∷ [])
Goes false c es e n = n + 1 < entries_of_call c (es ++ e ∷ [])

abbrev pub GoesBy : Call → ℕ → Entry → Type 0
GoesBy c n e = (es : List Entry) → length es ≡ n → n < entries_of_call c es → Goes (completes c e) c es e n

due_alone : (c : Call) (es : List Entry) (b : Bool) → nat_lt (length es) (entries_of_call c es) ≡ b
    → due_of (c ∷ []) es ≡ cond b (Some (c, length es)) None
due_alone c es b h = ap (λ x. cond x (Some (c, length es)) None) h

is_below : (c : Call) (es : List Entry) (b : Bool) (x : Call × ℕ) → nat_lt (length es) (entries_of_call c es) ≡ b
    → due_of (c ∷ []) es ≡ Some x → b ≡ true
is_below c es true x h i = refl
is_below c es false x h i = let n = sym (due_alone c es false h) ∙ i in cc

-- with the entry the call isn't complete, unless it is its last
module _ (c : Call) (es : List Entry) (e : Entry) (n : ℕ) (long : length es ≡ n) (some : n < entries_of_call c es) where
  was : due_of (c ∷ []) es ≡ Some (c, n)
  was = due_alone c es true (lt-ltb (length es) (entries_of_call c es) (omega (arith, long, some)))
      ∙ ap (λ m. Some (c, m)) long

  longer : length (es ++ e ∷ []) ≡ n + 1
  longer = omega (arith, long, length-append es (e ∷ []))

  as_many : n + 1 ≤ entries_of_call c (es ++ e ∷ [])
  as_many = by_length es long some
    where
      by_length : (xs : List Entry) → length xs ≡ n → n < entries_of_call c xs → n + 1 ≤ entries_of_call c (xs ++ e ∷ [])
      by_length [] l s = let m = each_makes_some c (e ∷ []) in omega (arith, l, m)
      by_length (x ∷ xs) l s = omega (arith, s, makes_as_many c (x ∷ xs) e (omega arith))

  by_last : (b t : Bool) → completes_at c n e ≡ b → nat_lt (length (es ++ e ∷ [])) (entries_of_call c (es ++ e ∷ [])) ≡ t → Goes b c es e n
  by_last false t last test =
      let below = is_below c (es ++ e ∷ []) t (c, suc n) test (goes_over (c ∷ []) es e c n was last) in
      let less = ltb-true (length (es ++ e ∷ [])) (entries_of_call c (es ++ e ∷ [])) (test ∙ below) in
      omega (arith, less, longer)
  by_last true true last test =
      let due : due_of (c ∷ []) (es ++ e ∷ []) ≡ Some (c, suc n) =
      due_alone c (es ++ e ∷ []) true test ∙ ap (λ m. Some (c, m)) (let l : length (es ++ e ∷ []) ≡ suc n = omega (arith, longer) in l) in
      absurd (ends_over (c ∷ []) es e c n was last c n due)
  by_last true false last test =
      let most = ltb-false (length (es ++ e ∷ [])) (entries_of_call c (es ++ e ∷ [])) test in
      omega (arith, most, longer, as_many)

-- the entry tells whether it is its call's last
pub goes_by : (c : Call) (n : ℕ) (e : Entry) → completes c e ≡ completes_at c n e → GoesBy c n e
goes_by c n e last es long some = by_last c es e n long some (completes c e) _ (sym last) refl
