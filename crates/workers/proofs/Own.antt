-- A driver's own entries, in what is seen and in what is its own.
use Rattle.std.proofs.Common.{◌≡◌, ℕ, suc, Bool, true, false, cond, IsSomeAnd, Some, List, [], ◌∷◌, ◌++◌, map, filter}
use Rattle.std.proofs.Common.{length, reverse, take, slice_get, refl, sym, ap, ◌∙◌, subst}
use Rattle.std.proofs.lemmas.List.{reverse-append, reverse-reverse}
use Rattle.irq_base.specs.Who.{actor_of}
use Rattle.irq_base.specs.declared.entries.Actor.{Actor}
use Rattle.irq_base.specs.declared.entries.Actor.TheVariants as actors
use Rattle.irq_base.specs.declared.entries.Entry.{Entry}
use Rattle.irq_base.specs.declared.lines.LineDef.{LineDef}
use Rattle.irq_base.specs.declared.numbers.DriverNo.{DriverNo}
use Rattle.irq_laws.specs.Kept.{complete}
use Rattle.irq_model.specs.Due.{calls_by, entries_by, due_of}
use Rattle.irq_model.specs.Kinds.{same_actor, is_by, is_driver, is_by_driver}
use Rattle.board_def.specs.declared.rows.ScriptCall.{ScriptCall}
use Rattle.board_play.specs.Current.{calls_on}
use Rattle.board_play.specs.Kept.{IsCallOn, IsUpTo}
use Rattle.board_play.specs.Lines.{BoardLine}
use Rattle.line_lock.specs.Placed.{placed, placed_from}
use Rattle.line_lock.specs.declared.view.Placed.{Placed}
use Rattle.workers.specs.Fit.{own_past}
use Rattle.workers.proofs.Manning.{filter_more}

reverse-cons : {A : Type 0} (x : A) (xs : List A) → reverse (x ∷ xs) ≡ reverse xs ++ x ∷ []
reverse-cons x xs = reverse-append (x ∷ []) xs

-- a list that is filtered is so in either order
pub filter-reverse : {A : Type 0} (p : A → Bool) (xs : List A) → filter p (reverse xs) ≡ reverse (filter p xs)
filter-reverse p [] = refl
filter-reverse p (x ∷ xs) = ap (filter p) (reverse-cons x xs) ∙ (filter_more p (reverse xs) x ∙ by_test (p x) (filter-reverse p xs))
  where
    by_test : (b : Bool) → filter p (reverse xs) ≡ reverse (filter p xs)
        → filter p (reverse xs) ++ cond b (x ∷ []) [] ≡ reverse (cond b (x ∷ filter p xs) (filter p xs))
    by_test true deeper = ap (λ ys. ys ++ x ∷ []) deeper ∙ sym (reverse-cons x (filter p xs))
    by_test false deeper = nothing_more (filter p (reverse xs)) ∙ deeper
      where
        nothing_more : {A : Type 0} (ys : List A) → ys ++ [] ≡ ys
        nothing_more [] = refl
        nothing_more (y ∷ ys) = ap (λ (zs : List _). y ∷ zs) (nothing_more ys)

filter_twice : {A : Type 0} (p : A → Bool) (xs : List A) → filter p (filter p xs) ≡ filter p xs
filter_twice p [] = refl
filter_twice p (x ∷ xs) = by_test (p x) refl (filter_twice p xs)
  where
    by_test : (b : Bool) → p x ≡ b → filter p (filter p xs) ≡ filter p xs
        → filter p (cond b (x ∷ filter p xs) (filter p xs)) ≡ cond b (x ∷ filter p xs) (filter p xs)
    by_test true is deeper = ap (λ (c : Bool). cond c (x ∷ filter p (filter p xs)) (filter p (filter p xs))) is ∙ ap (λ ys. x ∷ ys) deeper
    by_test false is deeper = deeper

same_driver_actor : (r : DriverNo) (a : Actor) → same_actor (actors.Driver r) a ≡ is_driver r a
same_driver_actor r (actors.Thread d) = refl
same_driver_actor r (actors.Cpu c) = refl
same_driver_actor r (actors.Driver s) = refl

-- the driver's entries, by their places
pub by_places : (r : DriverNo) (n : ℕ) (h : List Entry)
    → map (λ (x : Placed). x.entry) (placed_from (actors.Driver r) n h) ≡ filter (is_by_driver r) h
by_places r n [] = refl
by_places r n (e ∷ h) =
    by_test (is_by (actors.Driver r) e) (is_by_driver r e)
    (same_driver_actor r (actor_of e)) (by_places r (suc n) h)
  where
    by_test : (b d : Bool) → b ≡ d → map (λ (x : Placed). x.entry) (placed_from (actors.Driver r) (suc n) h) ≡ filter (is_by_driver r) h
        → map (λ (x : Placed). x.entry) (cond b (record { place = n; entry = e }
        ∷ placed_from (actors.Driver r) (suc n) h) (placed_from (actors.Driver r) (suc n) h))
        ≡ cond d (e ∷ filter (is_by_driver r) h) (filter (is_by_driver r) h)
    by_test true true is deeper = ap (λ (es : List Entry). e ∷ es) deeper
    by_test false false is deeper = deeper
    by_test true false is deeper = cc
    by_test false true is deeper = cc

pub entries_seen : (r : DriverNo) (h : List Entry) → entries_by r (reverse h) ≡ filter (is_by_driver r) h
entries_seen r h = ap reverse (filter-reverse (is_by_driver r) h) ∙ reverse-reverse (filter (is_by_driver r) h)

-- what is the driver's own are its entries in what is seen
pub own_are_seen : (r : DriverNo) (h : List Entry) (mine : List Placed)
    → mine ≡ placed (actors.Driver r) h → entries_by r (own_past mine) ≡ entries_by r (reverse h)
own_are_seen r h mine is =
    entries_seen r (map (λ (x : Placed). x.entry) mine)
    ∙ (ap (filter (is_by_driver r)) (ap (map (λ (x : Placed). x.entry)) is ∙ by_places r 0 h) ∙ (filter_twice (is_by_driver r) h ∙ sym (entries_seen r h)))

-- if its places are the same, so are its entries
pub same_places : (r : DriverNo) (h k : List Entry)
    → placed (actors.Driver r) h ≡ placed (actors.Driver r) k
    → entries_by r (reverse h) ≡ entries_by r (reverse k)
same_places r h k same =
    entries_seen r h ∙ (sym (by_places r 0 h) ∙ (ap (map (λ (x : Placed). x.entry)) same ∙ (by_places r 0 k ∙ sym (entries_seen r k))))

-- ---- scripts look at the driver's entries alone

-- at each place both lists have a line with the same definition and the same entries of the driver
abbrev pub AreAlike : DriverNo → List BoardLine → List BoardLine → Type 0
AreAlike r new old = (i : ℕ) (x : BoardLine) → slice_get new i ≡ Some x
    → (y : BoardLine) × (slice_get old i ≡ Some y) × (x.def ≡ y.def) × (entries_by r x.past ≡ entries_by r y.past)

pub same_script : (calls : List ScriptCall) (new old : List BoardLine) (r : DriverNo) (p : ℕ) → AreAlike r new old → IsUpTo calls old r p → IsUpTo calls new r p
same_script calls new old r p alike u =
    record {
      complete = λ i x at.
          let y = alike i x at in
          ap (λ (d : LineDef). length (complete [] (calls_by r d.calls) (entries_by r x.past))) y.2
          ∙ (ap (λ (es : List Entry). length (complete [] (calls_by r y.0.def.calls) es)) y.3
          ∙ (u.complete i y.0 y.1 ∙ ap (λ (d : LineDef). calls_on d.line r (take p calls)) (sym y.2)));
      begun = λ i x c n at due.
          let y = alike i x at in
          subst (λ (d : LineDef). IsSomeAnd (slice_get calls p) (IsCallOn d.line r)) (sym y.2)
          (u.begun i y.0 c n y.1 (ap (λ (es : List Entry). due_of (calls_by r y.0.def.calls) es) (sym y.3)
          ∙ (ap (λ (d : LineDef). due_of (calls_by r d.calls) (entries_by r x.past)) (sym y.2) ∙ due)));
    }
