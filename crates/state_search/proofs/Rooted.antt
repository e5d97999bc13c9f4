-- The paths of states, each by how it came.
use Rattle.std.proofs.Common.{◌≡◌, ◌<◌, ◌+◌, ℕ, zero, suc, Option, Some, None, IfSome, List, [], ◌∷◌, ◌++◌, length, slice_get, refl, ap, sym, subst, ◌∙◌, arith}
use Rattle.std.proofs.lemmas.List.{length_push}
use Rattle.std.proofs.lemmas.Option.{get_or_from_slice_get, none-some}
use Rattle.state_search.specs.declared.states.Came.{Came}
use Rattle.state_search.specs.Growing.{AreRooted}
use Rattle.state_search.specs.Paths.{path_by, paths_from, paths_of}
use Rattle.state_search.proofs.Places.{same_some, at_old, at_seam, there}

pub if_some_from : {X : Type 0} (P : X → Type 0) (o : Option X) → ((x : X) → o ≡ Some x → P x) → IfSome o P
if_some_from P None h = tt
if_some_from P (Some x) h = h x refl

module _ {L : Type 0} where
  pub paths_push : (ps : List (List L)) (es : List (List ℕ × Option (Came L))) (e : List ℕ × Option (Came L))
      → paths_from ps (es ++ e ∷ []) ≡ paths_from ps es ++ path_by (paths_from ps es) e.1 ∷ []
  paths_push ps [] e = refl
  paths_push ps (x ∷ es) e = paths_push (ps ++ path_by ps x.1 ∷ []) es e

  pub paths_long : (ps : List (List L)) (es : List (List ℕ × Option (Came L))) → length (paths_from ps es) ≡ length ps + length es
  paths_long ps [] = omega arith
  paths_long ps (x ∷ es) =
      let p = path_by ps x.1 in
      let rest : length (paths_from (ps ++ p ∷ []) es) ≡ length (ps ++ p ∷ []) + length es = paths_long (ps ++ p ∷ []) es in
      let one : length (ps ++ p ∷ []) ≡ length ps + 1 = length_push ps p in
      omega (arith, rest, one)

  paths_keep : (ps : List (List L)) (es : List (List ℕ × Option (Came L))) (k : ℕ) (p : List L)
      → slice_get ps k ≡ Some p → slice_get (paths_from ps es) k ≡ Some p
  paths_keep ps [] k p e = e
  paths_keep ps (x ∷ es) k p e = paths_keep (ps ++ path_by ps x.1 ∷ []) es k p (at_old ps (path_by ps x.1 ∷ []) k p e)

  paths_append : (ps : List (List L)) (es fs : List (List ℕ × Option (Came L))) → paths_from ps (es ++ fs) ≡ paths_from (paths_from ps es) fs
  paths_append ps [] fs = refl
  paths_append ps (x ∷ es) fs = paths_append (ps ++ path_by ps x.1 ∷ []) es fs

  pub paths_stay : (es added : List (List ℕ × Option (Came L))) (k : ℕ) (p : List L)
      → slice_get (paths_of es) k ≡ Some p → slice_get (paths_of (es ++ added)) k ≡ Some p
  paths_stay es added k p at = ap (λ t. slice_get t k) (paths_append [] es added) ∙ paths_keep (paths_of es) added k p at

  -- a path by an earlier one stays, as more are added
  path_same : (ps qs : List (List L)) (came : Option (Came L)) → IfSome came (λ c. c.from < length ps)
      → ((k : ℕ) (p : List L) → slice_get ps k ≡ Some p → slice_get qs k ≡ Some p) → path_by qs came ≡ path_by ps came
  path_same ps qs None h keep = refl
  path_same ps qs (Some c) h keep =
      let t = there ps c.from h in
      ap (λ p. c.label ∷ p) (get_or_from_slice_get qs c.from t.0 [] (keep c.from t.0 t.1) ∙ sym (get_or_from_slice_get ps c.from t.0 [] t.1))

  paths_at : (ps : List (List L)) (es : List (List ℕ × Option (Came L))) (k : ℕ) (e : List ℕ × Option (Came L)) → slice_get es k ≡ Some e
      → ((j : ℕ) (words : List ℕ) (c : Came L) → slice_get es j ≡ Some (words, Some c) → c.from < length ps + j)
      → slice_get (paths_from ps es) (length ps + k) ≡ Some (path_by (paths_from ps es) e.1)
  paths_at ps [] k e at r = absurd (none-some e at)
  paths_at ps (x ∷ es) zero e at r =
      let y = path_by ps x.1 in
      let qs = paths_from (ps ++ y ∷ []) es in
      let here : length ps + 0 ≡ length ps = omega arith in
      let low : IfSome x.1 (λ c. c.from < length ps) = if_some_from (λ c. c.from < length ps) x.1
      (λ c is. subst (λ n. c.from < n) here (r 0 x.0 c (ap (λ t. Some (x.0, t)) is))) in
      ap (λ n. slice_get qs n) here
      ∙ (paths_keep (ps ++ y ∷ []) es (length ps) y (at_seam ps y [])
      ∙ (ap Some (sym (path_same ps qs x.1 low (λ k p a. paths_keep (ps ++ y ∷ []) es k p (at_old ps (y ∷ []) k p a))))
      ∙ ap (λ t. Some (path_by qs t.1)) (same_some x e at)))
  paths_at ps (x ∷ es) (suc k) e at r =
      let y = path_by ps x.1 in
      let one : length (ps ++ y ∷ []) ≡ length ps + 1 = length_push ps y in
      let on : length ps + suc k ≡ length (ps ++ y ∷ []) + k = omega (arith, one) in
      ap (λ n. slice_get (paths_from (ps ++ y ∷ []) es) n) on
      ∙ paths_at (ps ++ y ∷ []) es k e at (λ j words c a. let b : c.from < length ps + suc j = r (suc j) words c a in omega (arith, b, one))

  pub path_at : (es : List (List ℕ × Option (Came L))) (k : ℕ) (e : List ℕ × Option (Came L)) → slice_get es k ≡ Some e → AreRooted es
      → slice_get (paths_of es) k ≡ Some (path_by (paths_of es) e.1)
  path_at es k e at r =
      let from : 0 + k ≡ k = omega arith in
      ap (λ n. slice_get (paths_of es) n) (sym from) ∙ paths_at [] es k e at (λ j words c a. let b : c.from < j = r j words c a in omega (arith, b))
