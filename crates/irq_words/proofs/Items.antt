-- Lists of words, read from the front: the first word is an item's, or the words are no items'.
use Rattle.std.proofs.Common.{◌≡◌, ℕ, List, [], ◌∷◌, ◌++◌, map, Option, Some, None, get_or, drop, sym, ap, ◌∙◌, append_assoc}
use Rattle.log_read.specs.Takes.{Reads}
use Rattle.irq_words.specs.Reading.{ReadsAfter, Spells}

first_is : (a b : List ℕ) (cs ds : List (List ℕ)) → a ∷ cs ≡ b ∷ ds → a ≡ b
first_is a b cs ds h = ap (λ (ws : List (List ℕ)). get_or ws 0 []) h

rest_is : (a b : List ℕ) (cs ds : List (List ℕ)) → a ∷ cs ≡ b ∷ ds → cs ≡ ds
rest_is a b cs ds h = ap (λ (ws : List (List ℕ)). drop 1 ws) h

some_words : (a : List ℕ) (cs : List (List ℕ)) → a ∷ cs ≡ [] → ⊥
some_words a cs h = cc

-- `One` says which items may come first, and `Rest` what may stand behind one. `same` says that the
-- latter goes by how the first is written.
module _ {X : Type 0} (One : X → Type 0) (Rest : X → List X → Type 0) (Fits : List X → Type 0) (write : X → List ℕ)
    (parts : (x : X) (xs : List X) → Fits (x ∷ xs) → One x × Rest x xs)
    (joins : (x : X) (xs : List X) → One x → Rest x xs → Fits (x ∷ xs))
    (same : (x y : X) (xs : List X) → One x → One y → write x ≡ write y → Rest x xs → Rest y xs)
    (word : List ℕ) (words : List (List ℕ)) where
  pub not_first : Reads One write word None → (items : List X) → Spells Fits write (word ∷ words) items → ⊥
  not_first none [] s = some_words word words s.words_are
  not_first none (x ∷ xs) s =
      none x (parts x xs s.fits).0 (first_is word (write x) words (map write xs) s.words_are)

  module _ (item : X) (is : Reads One write word (Some item)) where
    not_behind : ((items : List X) → Spells (Rest item) write words items → ⊥) → (items : List X) → Spells Fits write (word ∷ words) items → ⊥
    not_behind none [] s = some_words word words s.words_are
    not_behind none (x ∷ xs) s =
        let both = parts x xs s.fits in
        let first = first_is word (write x) words (map write xs) s.words_are in
        none xs (record {
          fits = same x item xs both.0 is.0 (sym first ∙ is.1) both.1;
          words_are = rest_is word (write x) words (map write xs) s.words_are;
        })

    pub with_first : (before : List X) (r : Option (List X)) → ReadsAfter (Rest item) write (before ++ item ∷ []) words r
        → ReadsAfter Fits write before (word ∷ words) r
    with_first before None none = not_behind none
    with_first before (Some all) h = (
      item ∷ h.0,
      h.1 ∙ append_assoc before (item ∷ []) h.0,
      record {
        fits = joins item h.0 is.0 h.2.fits;
        words_are = ap (λ (w : List ℕ). w ∷ words) is.1 ∙ ap (λ (ws : List (List ℕ)). write item ∷ ws) h.2.words_are;
      },
    )
