-- A history is tried entry by entry.
use Rattle.std.proofs.Common.{◌≡◌, ℕ, zero, suc, ◌+◌, ◌-◌, ◌≤◌, Bool, true, false, Option, Some, None, List, []}
use Rattle.std.proofs.Common.{◌∷◌, ◌++◌, length, take, reverse, refl, sym, ap, subst, ◌∙◌, arith}
use Rattle.std.specs.List.{slice_get}
use Rattle.std.specs.Option.{option_eq}
use Rattle.std.proofs.lemmas.Bool.{false≢true}
use Rattle.std.proofs.lemmas.Option.{same_Some}
use Rattle.std.proofs.lemmas.List.{reverse-append, take_all}
use Rattle.irq_base.specs.Who.{actor_of}
use Rattle.irq_base.specs.contracts.entries.EntryPartialEq.TheImpl as entry_eq
use Rattle.irq_base.specs.declared.entries.Actor.{Actor}
use Rattle.irq_base.specs.declared.entries.Entry.{Entry}
use Rattle.irq_base.specs.declared.lines.LineDef.{LineDef}
use Rattle.irq_base.proofs.SameEntries.{found_same}
use Rattle.irq_line.specs.Seen.{LineSeen}
use Rattle.irq_model.specs.Legal.{IsDue, IsLegal, IsLegalPast}
use Rattle.irq_model.specs.Next.{next}
use Rattle.log_check.specs.Judged.{AddsDue, Tried, IsFirstUndue}

heard_due : (old new : LineSeen) (a : Actor) (due : Option Entry) → AddsDue old a due new → due ≡ next old.def old.entries a
heard_due old new a None heard = sym heard.0
heard_due old new a (Some e) heard = sym heard.due

pub tried : (old new : LineSeen) (e : Entry) (due : Option Entry) (t : Bool) → AddsDue old (actor_of e) due new
    → t ≡ option_eq (entry_eq.eq-value).it due (Some e) → Tried old e t new
tried old new e due true heard h =
    let added = subst (λ (o : Option Entry). AddsDue old (actor_of e) o new)
    ((found_same due e true h).0 refl) heard in (added.due, added.entries)
tried old new e due false heard h = λ owed. false≢true ((found_same due e false h).1 (heard_due old new (actor_of e) due heard ∙ owed))

take_suc : {X : Type 0} (xs : List X) (n : ℕ) (x : X) → slice_get xs n ≡ Some x → take (suc n) xs ≡ take n xs ++ x ∷ []
take_suc [] n x at = cc
take_suc (y ∷ ys) zero x at = ap (λ z. z ∷ []) (same_Some y x at)
take_suc (y ∷ ys) (suc n) x at = ap (λ zs. y ∷ zs) (take_suc ys n x at)

pub take_next : {X : Type 0} (xs : List X) (n : ℕ) (x : X) → slice_get xs n ≡ Some x → take (n + 1) xs ≡ take n xs ++ x ∷ []
take_next xs n x at = let e : n + 1 ≡ suc n = omega arith in ap (λ m. take m xs) e ∙ take_suc xs n x at

-- one more entry that is due
pub legal_next : (def : LineDef) (h : List Entry) (n : ℕ) (e : Entry) → slice_get h n ≡ Some e → IsLegal def (take n h)
    → IsDue def e (reverse (take n h)) → IsLegal def (take (n + 1) h)
legal_next def h n e at legal due =
    let newest : reverse (take (n + 1) h) ≡ e ∷ reverse (take n h) = ap reverse (take_next h n e at) ∙ reverse-append (take n h) (e ∷ []) in
    subst (IsLegalPast def) (sym newest) (due, legal)

pub first_undue : (def : LineDef) (h : List Entry) (n : ℕ) (e : Entry) → slice_get h n ≡ Some e → IsLegal def (take n h)
    → (IsDue def e (reverse (take n h)) → ⊥) → IsFirstUndue def h (n + 1)
first_undue def h n e at legal undue =
    let back : n + 1 - 1 ≡ n = omega arith in
    record {
      counted = omega arith;
      before = subst (λ m. IsLegal def (take m h)) (sym back) legal;
      undue = (e, ap (λ m. slice_get h m) back ∙ at, subst (λ m. IsDue def e (reverse (take m h)) → ⊥) (sym back) undue);
    }

pub legal_whole : (def : LineDef) (h : List Entry) (n : ℕ) → length h ≤ n → IsLegal def (take n h) → IsLegal def h
legal_whole def h n all legal = subst (IsLegal def) (take_all n h all) legal

was_true : (old new : LineSeen) (e : Entry) (t : Bool) → t ≡ true → Tried old e t new → Tried old e true new
was_true old new e true h t = t
was_true old new e false h t = absurd (false≢true h)

module _ (def : LineDef) (h : List Entry) (n : ℕ) (e : Entry) (at : slice_get h n ≡ Some e) (old new : LineSeen) (t : Bool) (added : t ≡ true)
    (same : old.def ≡ def) (so_far : old.entries ≡ take n h) (tried_it : Tried old e t new) where
  pub goes : new.entries ≡ take (n + 1) h
  goes = (was_true old new e t added tried_it).1 ∙ (ap (λ es. es ++ e ∷ []) so_far ∙ sym (take_next h n e at))

  pub still_legal : IsLegal def (take n h) → IsLegal def (take (n + 1) h)
  still_legal legal =
      let due : IsDue def e (reverse old.entries) = subst (λ (d : LineDef). IsDue d e (reverse old.entries)) same (was_true old new e t added tried_it).0 in
      legal_next def h n e at legal (subst (λ (es : List Entry). IsDue def e (reverse es)) so_far due)
