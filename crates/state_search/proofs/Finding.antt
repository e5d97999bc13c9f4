-- Rows of numbers in one list.
use Rattle.std.proofs.Common.{◌≡◌, ◌≤◌, ◌+◌, ◌-◌, ℕ, List, [], ◌∷◌, ◌++◌, length, take, drop, slice_get, slice_range, Some}
use Rattle.std.proofs.Common.{refl, ap, ◌∙◌, arith, length-append, length-drop, append-nil}
use Rattle.std.proofs.lemmas.List.{drop-append-le, take-append-le, drop_at, take_all, length-map}
use Rattle.std.proofs.lemmas.Grind.{flat_map-append}
use Rattle.std.proofs.lemmas.List.Elements.{All-nil, All-cons, All-head, All-tail}
use Rattle.std.proofs.lemmas.Option.{slice_get-map}
use Rattle.std.specs.List.{flat_map}
use Rattle.std.specs.Option.{option_map}
use Rattle.state_search.specs.declared.found.Row.{Row}
use Rattle.state_search.specs.Rows.{found_in, AreWithin, AreOf}

-- more numbers behind the list leave a range within it
pub range_stays : (ws new : List ℕ) (a b : ℕ) → a ≤ b → b ≤ length ws → slice_range (ws ++ new) a b ≡ slice_range ws a b
range_stays ws new a b low high =
    let n : b - a ≤ length (drop a ws) = omega (arith, length-drop a ws) in
    ap (take (b - a)) (drop-append-le a ws new (omega arith)) ∙ take-append-le (b - a) (drop a ws) new n

-- the numbers behind the list are the range from its end
pub range_behind : (ws new : List ℕ) → slice_range (ws ++ new) (length ws) (length (ws ++ new)) ≡ new
range_behind ws new =
    ap (take (length (ws ++ new) - length ws)) (drop_at ws new (length ws) refl)
    ∙ take_all (length (ws ++ new) - length ws) new (omega (arith, length-append ws new))

module _ {L : Type 0} where
  -- one more row, whose numbers stand behind the others
  pub found_push : (rows : List (Row L)) (ws new : List ℕ) (row : Row L) → AreWithin rows ws → row.from ≡ length ws → row.to ≡ length (ws ++ new)
      → found_in (rows ++ row ∷ []) (ws ++ new) ≡ found_in rows ws ++ (row.label, new) ∷ []
  found_push [] ws new row in' from to = ap (λ x. (row.label, x) ∷ []) ((λ i. slice_range (ws ++ new) (from i) (to i)) ∙ range_behind ws new)
  found_push (r ∷ rows) ws new row in' from to =
      let W = λ (r : Row L). (r.from ≤ r.to) × (r.to ≤ length ws) in
      let h : (r.from ≤ r.to) × (r.to ≤ length ws) = All-head W r rows in' in
      let e : slice_range (ws ++ new) r.from r.to ≡ slice_range ws r.from r.to = range_stays ws new r.from r.to h.0 h.1 in
      let rest : found_in (rows ++ row ∷ []) (ws ++ new)
      ≡ found_in rows ws ++ (row.label, new) ∷ [] = found_push rows ws new row (All-tail W r rows in') from to in
      λ i. (r.label, e i) ∷ rest i

  pub found_at : (rows : List (Row L)) (ws : List ℕ) (k : ℕ) (r : Row L) → slice_get rows k ≡ Some r
      → slice_get (found_in rows ws) k ≡ Some (r.label, slice_range ws r.from r.to)
  found_at rows ws k r e =
      let f : Row L → (L × List ℕ) = λ r. (r.label, slice_range ws r.from r.to) in
      slice_get-map f rows k ∙ ap (option_map f) e

  pub found_long : (rows : List (Row L)) (ws : List ℕ) → length (found_in rows ws) ≡ length rows
  found_long rows ws =
      let f : Row L → (L × List ℕ) = λ r. (r.label, slice_range ws r.from r.to) in
      length-map rows f

  -- one more row lies within the list
  within_push : (rows : List (Row L)) (ws new : List ℕ) (row : Row L) → AreWithin rows ws → row.from ≡ length ws → row.to ≡ length (ws ++ new)
      → AreWithin (rows ++ row ∷ []) (ws ++ new)
  within_push [] ws new row in' from to =
      let W = λ (r : Row L). (r.from ≤ r.to) × (r.to ≤ length (ws ++ new)) in
      let long : length (ws ++ new) ≡ length ws + length new = length-append ws new in
      All-cons W row [] (omega (arith, from, to, long), omega (arith, to)) (All-nil W)
  within_push (r ∷ rows) ws new row in' from to =
      let O = λ (r : Row L). (r.from ≤ r.to) × (r.to ≤ length ws) in
      let W = λ (r : Row L). (r.from ≤ r.to) × (r.to ≤ length (ws ++ new)) in
      let h : (r.from ≤ r.to) × (r.to ≤ length ws) = All-head O r rows in' in
      let long : length (ws ++ new) ≡ length ws + length new = length-append ws new in
      All-cons W r (rows ++ row ∷ []) (h.0, omega (arith, h.1, long)) (within_push rows ws new row (All-tail O r rows in') from to)

  -- the list is that of the rows still
  pub of_push : (rows : List (Row L)) (ws new : List ℕ) (row : Row L) → AreOf rows ws → row.from ≡ length ws → row.to ≡ length (ws ++ new)
      → AreOf (rows ++ row ∷ []) (ws ++ new)
  of_push rows ws new row of from to =
      let F : L × List ℕ → List ℕ = λ f. f.1 in
      record {
        within = within_push rows ws new row of.within from to;
        all = ap (flat_map F) (found_push rows ws new row of.within from to)
            ∙ (flat_map-append F (found_in rows ws) ((row.label, new) ∷ [])
            ∙ (λ i. of.all i ++ append-nil new i));
      }
