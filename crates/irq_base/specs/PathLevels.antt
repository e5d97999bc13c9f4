-- A path is an array of eight pairs. The first `len` pairs are its levels; the others are (0, 0),
-- so that the list of the levels determines the array.
use Rattle.std.specs.Prelude.{◌≡◌, ℕ, ◌+◌, ◌-◌, ◌<◌, ◌≤◌, List, ◌++◌, length, take, drop, slice_set}
use Rattle.std.proofs.Math.ListN.{replicate}
use Rattle.std.proofs.Common.{sym, ap, ◌∙◌, arith}
use Rattle.std.proofs.lemmas.List.{take-append-drop, length-take-le, drop-set-lt, drop-drop}
use Rattle.std.proofs.lemmas.List.{drop-replicate, length-set}
use Rattle.irq_base.specs.declared.domains.Path.TheInside.{Inside}

abbrev pub levels_of : Inside → List (ℕ × ℕ)
levels_of p = take p.len p.levels

pub record IsPath (p : Inside) : Type 0 where
  pub within : p.len ≤ 8
  pub full : length p.levels ≡ 8
  pub rest : drop p.len p.levels ≡ replicate (8 - p.len) (0, 0)

abbrev pub made : List (ℕ × ℕ) → ℕ → Inside
made xs n = record { levels = xs; len = n }

abbrev pub of_levels : List (ℕ × ℕ) → Inside
of_levels l = made (l ++ replicate (8 - length l) (0, 0)) (length l)

same_parts : (xs ys : List (ℕ × ℕ)) (m n : ℕ) → xs ≡ ys → m ≡ n → made xs m ≡ made ys n
same_parts xs ys m n a b = ap (λ zs. made zs m) a ∙ ap (made ys) b

pub of_levels_back : (p : Inside) → IsPath p → of_levels (levels_of p) ≡ p
of_levels_back p h =
    let none : ℕ × ℕ = (0, 0) in
    let front : length (take p.len p.levels) ≡ p.len =
    length-take-le p.len p.levels (omega (arith, h.within, h.full)) in
    let back : take p.len p.levels ++ replicate (8 - length (take p.len p.levels)) none ≡ p.levels =
    ap (λ k. take p.len p.levels ++ replicate (8 - k) none) front
    ∙ (ap (λ xs. take p.len p.levels ++ xs) (sym h.rest) ∙ take-append-drop p.len p.levels) in
    same_parts (take p.len p.levels ++ replicate (8 - length (take p.len p.levels)) none) p.levels
    (length (take p.len p.levels)) p.len back front

-- one more level, at index `len`
pub IsPath-push : (p : Inside) (level : ℕ × ℕ) → IsPath p → p.len < 8
    → IsPath (made (slice_set p.levels p.len level) (p.len + 1))
IsPath-push p level h room =
    let none : ℕ × ℕ = (0, 0) in
    let left : 8 - p.len - 1 ≡ 8 - (p.len + 1) = omega arith in
    let kept : drop (p.len + 1) (slice_set p.levels p.len level) ≡ drop (p.len + 1) p.levels =
    drop-set-lt (p.len + 1) p.levels p.len level (omega arith) in
    let on : drop (p.len + 1) p.levels ≡ drop 1 (drop p.len p.levels) =
    sym (drop-drop 1 p.len p.levels) in
    let next : drop 1 (drop p.len p.levels) ≡ drop 1 (replicate (8 - p.len) none) =
    ap (λ (xs : List (ℕ × ℕ)). drop 1 xs) h.rest in
    let last : drop 1 (replicate (8 - p.len) none) ≡ replicate (8 - p.len - 1) none =
    drop-replicate 1 (8 - p.len) none in
    record {
      within = omega arith;
      full = length-set p.levels p.len level ∙ h.full;
      rest = kept ∙ (on ∙ (next ∙ (last ∙ ap (λ k. replicate k none) left)));
    }
