-- Places of a list of entries. The newest entry comes first here, so that "the last ..", "since
-- ..", "with no .. after it" are read off from the front, and one more entry is one more head.
use Rattle.std.specs.Prelude.{ℕ, ◌+◌, Bool, false, not, ◌||◌, ◌&&◌, if◌then◌else◌, Option, Some}
use Rattle.std.specs.Prelude.{None, List, [], ◌∷◌}

module _ {A : Type 0} where
  -- the entries after the last one that is p; all if none is
  abbrev pub since : (A → Bool) → List A → List A
  since p [] = []
  since p (e ∷ past) = if p e then [] else (e ∷ since p past)

  -- the entries before the last one that is p; none if none is
  abbrev pub before : (A → Bool) → List A → List A
  before p [] = []
  before p (e ∷ past) = if p e then past else before p past

  -- the last entry that is p
  abbrev pub last_of : (A → Bool) → List A → Option A
  last_of p [] = None
  last_of p (e ∷ past) = if p e then Some e else last_of p past

  -- some entry is p, and no entry after it is q
  abbrev pub stands : (A → Bool) → (A → Bool) → List A → Bool
  stands p q [] = false
  stands p q (e ∷ past) = p e || (not (q e) && stands p q past)

  -- how many entries are p
  abbrev pub count_of : (A → Bool) → List A → ℕ
  count_of p [] = 0
  count_of p (e ∷ past) = if p e then (count_of p past + 1) else count_of p past

  -- the entries after the last place that is p; the test looks at the list up to the place
  abbrev pub since_place : (List A → Bool) → List A → List A
  since_place p [] = []
  since_place p (e ∷ past) = if p (e ∷ past) then [] else (e ∷ since_place p past)

  -- the list up to the last place that is p; empty if none is
  abbrev pub upto_place : (List A → Bool) → List A → List A
  upto_place p [] = []
  upto_place p (e ∷ past) = if p (e ∷ past) then (e ∷ past) else upto_place p past

  -- at some place, P holds of the entries after the place and of the list up to it
  abbrev pub some_place : (List A → List A → Bool) → List A → Bool
  some_place P [] = false
  some_place P (e ∷ past) = P [] (e ∷ past) || some_place (λ after upto. P (e ∷ after) upto) past

  -- the list up to the last place at which P holds of both; empty if there is none
  abbrev pub last_place : (List A → List A → Bool) → List A → List A
  last_place P [] = []
  last_place P (e ∷ past) =
      if P [] (e ∷ past) then (e ∷ past) else last_place (λ after upto. P (e ∷ after) upto) past

  -- P holds of each entry and of the entries before it
  abbrev pub EachEntry : (A → List A → Type 0) → List A → Type 0
  EachEntry P [] = Unit {0}
  EachEntry P (e ∷ past) = P e past × EachEntry P past
