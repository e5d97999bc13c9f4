-- Pieces of a row, put together.
use Rattle.std.proofs.Common.{◌≡◌, ℕ, Option, Some, None, List, [], ◌∷◌, ◌++◌, refl, sym, ap, ◌∙◌, append_assoc}
use Rattle.std.proofs.lemmas.List.{append-nil}
use Rattle.std.proofs.lemmas.Option.{none-some}
use Rattle.std.specs.Prelude.{MatchOption}
use Rattle.log_read.specs.Forms.{no_words}
use Rattle.log_read.specs.Left.{left_of}
use Rattle.log_read.specs.Takes.{TakesAs, EndsAs, Takes, Any, one, Both, then, Reads}
use Rattle.log_read.specs.declared.words.Words.{Words}

-- a value, made into another
pub made : {X Y Z : Type 0} {F : X → Type 0} {f : X → List (List ℕ)} {m : X → Y} {old new : Words} {y : Y} (k : Y → Z)
    → TakesAs F f m old new y → TakesAs F f (λ x. k (m x)) old new (k y)
made k t = record {
  sound = λ rest h. let s = t.sound rest h in (s.0, s.1, ap k s.2, s.3);
  complete = λ x rest fits h. let s = t.complete x rest fits h in (ap k s.0, s.1);
}

-- two values, one behind the other
pub both : {X Y A B : Type 0} {F : X → Type 0} {G : Y → Type 0} {f : X → List (List ℕ)} {g : Y → List (List ℕ)}
    {m : X → A} {n : Y → B} {old mid new : Words} {a : A} {b : B}
    → TakesAs F f m old mid a → TakesAs G g n mid new b → TakesAs {Y = A × B} (Both F G) (then f g) (λ p. (m p.0, n p.1)) old new (a, b)
both {f = f} {g = g} {m = m} {n = n} {a = a} {b = b} s t = record {
  sound = λ rest h.
      let second = t.sound rest h in
      let first = s.sound (g second.0 ++ rest) second.3 in (
        (first.0, second.0),
        (first.1, second.1),
        ap (λ x. (x, b)) first.2 ∙ ap (λ y. (m first.0, y)) second.2,
        first.3 ∙ ap (λ ws. Some ws) (sym (append_assoc (f first.0) (g second.0) rest)),
      );
  complete = λ p rest fits h.
      let first = s.complete p.0 (g p.1 ++ rest) fits.0 (h ∙ ap (λ ws. Some ws) (append_assoc (f p.0) (g p.1) rest)) in
      let second = t.complete p.1 rest fits.1 first.1 in
      (ap (λ x. (x, b)) first.0 ∙ ap (λ y. (m p.0, y)) second.0, second.1);
}

-- what was read of the next word
pub fitted : {X : Type 0} {F : X → Type 0} {write : X → List ℕ} {old mid new : Words} {word : List ℕ} {y : X}
    → (read : Option X) → ((a b : X) → F a → F b → write a ≡ write b → a ≡ b)
    → Takes (one (λ w. w)) old mid word → Reads F write word read → MatchOption read (left_of new ≡ None) (λ x. (y ≡ x) × (new ≡ mid))
    → TakesAs F (one write) (λ x. x) old new y
fitted {write = write} {old = old} {mid = mid} {new = new} {word = word} {y = y} (Some x) tell took reads fit = record {
  sound = λ rest h.
      let s = took.sound rest (sym (ap left_of fit.1) ∙ h) in
      (x, reads.0, fit.0, s.3 ∙ ap (λ w. Some (w ∷ rest)) (sym s.2 ∙ reads.1));
  complete = λ z rest fits h.
      let s = took.complete (write z) rest tt h in
      (fit.0 ∙ tell x z reads.0 fits (sym reads.1 ∙ s.0), ap left_of fit.1 ∙ s.1);
}
fitted {write = write} {word = word} None tell took reads fit = record {
  sound = λ rest h. absurd (none-some rest (sym fit ∙ h));
  complete = λ z rest fits h. let s = took.complete (write z) rest tt h in absurd (reads z fits s.0);
}

-- one word that is known, and what follows it
pub under : {V X Y : Type 0} {F : X → Type 0} {verb : V} {word : V → List ℕ} {f : X → List (List ℕ)} {m : X → Y} {old mid new : Words} {y : Y}
    → Takes (one word) old mid verb → TakesAs F f m mid new y → TakesAs F (λ x. word verb ∷ f x) m old new y
under {verb = verb} {word = word} {f = f} took t = record {
  sound = λ rest h.
      let s = t.sound rest h in
      let v = took.sound (f s.0 ++ rest) s.3 in
      (s.0, s.1, s.2, v.3 ∙ ap (λ w. Some (word w ∷ (f s.0 ++ rest))) (sym v.2));
  complete = λ x rest fits h. let v = took.complete verb (f x ++ rest) tt h in t.complete x rest fits v.1;
}

-- no word
pub nothing : {Y : Type 0} (words : Words) (y : Y) → TakesAs Any no_words (λ u. y) words words y
nothing words y = record {
  sound = λ rest h. (tt, tt, refl, h);
  complete = λ u rest fits h. (refl, h);
}

-- pieces that end a row

pub ends : {X Y : Type 0} {F : X → Type 0} {f : X → List (List ℕ)} {m : X → Y} {old new : Words} {y : Y}
    → TakesAs F f m old new y → EndsAs F f m old new y
ends {f = f} t = record {
  sound = λ h. let s = t.sound [] h in (s.0, s.1, s.2, s.3 ∙ ap (λ ws. Some ws) (append-nil (f s.0)));
  complete = λ x fits h. t.complete x [] fits (h ∙ ap (λ ws. Some ws) (sym (append-nil (f x))));
}

pub made_end : {X Y Z : Type 0} {F : X → Type 0} {f : X → List (List ℕ)} {m : X → Y} {old new : Words} {y : Y} (k : Y → Z)
    → EndsAs F f m old new y → EndsAs F f (λ x. k (m x)) old new (k y)
made_end k t = record {
  sound = λ h. let s = t.sound h in (s.0, s.1, ap k s.2, s.3);
  complete = λ x fits h. let s = t.complete x fits h in (ap k s.0, s.1);
}

-- two values, the second at the row's end; how it is written may go by the first
pub both_end : {X Y B : Type 0} {F : X → Type 0} {G : Y → Type 0} {f : X → List (List ℕ)}
    {n : Y → B} {old mid new : Words} {a : X} {b : B} (g : X → Y → List (List ℕ))
    → TakesAs F f (λ x. x) old mid a → EndsAs G (g a) n mid new b
    → EndsAs {Y = X × B} (Both F G) (λ p. f p.0 ++ g p.0 p.1) (λ p. (p.0, n p.1)) old new (a, b)
both_end {f = f} {n = n} {a = a} {b = b} g s t = record {
  sound = λ h.
      let second = t.sound h in
      let first = s.sound (g a second.0) second.3 in (
        (first.0, second.0),
        (first.1, second.1),
        ap (λ x. (x, b)) first.2 ∙ ap (λ y. (first.0, y)) second.2,
        first.3 ∙ ap (λ x. Some (f first.0 ++ g x second.0)) first.2,
      );
  complete = λ p fits h.
      let first = s.complete p.0 (g p.0 p.1) fits.0 h in
      let second = t.complete p.1 fits.1 (first.1 ∙ ap (λ x. Some (g x p.1)) (sym first.0)) in
      (ap (λ x. (x, b)) first.0 ∙ ap (λ y. (p.0, y)) second.0, second.1);
}

pub under_end : {V X Y : Type 0} {F : X → Type 0} {verb : V} {word : V → List ℕ} {f : X → List (List ℕ)} {m : X → Y} {old mid new : Words} {y : Y}
    → Takes (one word) old mid verb → EndsAs F f m mid new y → EndsAs F (λ x. word verb ∷ f x) m old new y
under_end {verb = verb} {word = word} {f = f} took t = record {
  sound = λ h.
      let s = t.sound h in
      let v = took.sound (f s.0) s.3 in
      (s.0, s.1, s.2, v.3 ∙ ap (λ w. Some (word w ∷ f s.0)) (sym v.2));
  complete = λ x fits h. let v = took.complete verb (f x) tt h in t.complete x fits v.1;
}

-- a word that is this verb's
pub known : {V : Type 0} {word_of : V → List ℕ} {old mid : Words} {word : List ℕ} {verb : V} → ((a b : V) → word_of a ≡ word_of b → a ≡ b)
    → Takes (one (λ w. w)) old mid word → word ≡ word_of verb → Takes (one word_of) old mid verb
known {word_of = word_of} {verb = verb} tell took is = record {
  sound = λ rest h. let s = took.sound rest h in (verb, tt, refl, s.3 ∙ ap (λ w. Some (w ∷ rest)) (sym s.2 ∙ is));
  complete = λ v rest fits h. let s = took.complete (word_of v) rest tt h in (tell verb v (sym is ∙ s.0), s.1);
}
