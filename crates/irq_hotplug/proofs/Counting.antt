-- How often vectors stand in lists.
use Rattle.std.proofs.Common.{◌≡◌, ℕ, zero, suc, ◌+◌, ◌<◌, ◌≤◌, Bool, true, false, cond, ◌||◌, nat_lt, Option, Some}
use Rattle.std.proofs.Common.{None, List, [], ◌∷◌, ◌++◌, count_by, refl, ap, ◌∙◌, sym, arith, zero-add, add-zero}
use Rattle.std.specs.Prelude.{option_to_list}
use Rattle.std.specs.List.{list_any}
use Rattle.std.proofs.lemmas.List.Sums.{sum_by-cons, sum_by_push}
use Rattle.std.proofs.lemmas.Bool.Decides.{nat_tests}
use Rattle.vector_matrix.specs.Vectors.{same_vector, is_in, count_of, without}
use Rattle.vector_matrix.specs.declared.view.Vector.{Vector}
use Rattle.vector_matrix.proofs.Listing.{count_without, count_others, from_same, count_both, apart_both, is_in_from, same_self}
use Rattle.irq_hotplug.specs.Berths.{IfThere, is_at, is_taken, stands_at}
use Rattle.irq_hotplug.specs.declared.berths.Berth.{Berth}

pub count_more : {A : Type 0} (p : A → Bool) (x : A) (xs : List A) → count_by p (x ∷ xs) ≡ cond (p x) 1 0 + count_by p xs
count_more p x xs = sum_by-cons (λ y. cond (p y) 1 0) x xs

pub count_put : {A : Type 0} (p : A → Bool) (xs : List A) (x : A) → count_by p (xs ++ x ∷ []) ≡ count_by p xs + cond (p x) 1 0
count_put p xs x = sum_by_push (λ y. cond (p y) 1 0) xs x

pub any_counts : {A : Type 0} (p : A → Bool) (xs : List A) → list_any p xs ≡ nat_lt 0 (count_by p xs)
any_counts p [] = refl
any_counts p (x ∷ xs) = any_more p x xs (any_counts p xs) (p x) refl
  where
    some_more : (n : ℕ) → nat_lt 0 (1 + n) ≡ true
    some_more n = grind (arith, nat_tests)

    any_more : {A : Type 0} (p : A → Bool) (x : A) (xs : List A) → list_any p xs ≡ nat_lt 0 (count_by p xs) → (t : Bool) → p x ≡ t
        → (p x || list_any p xs) ≡ nat_lt 0 (count_by p (x ∷ xs))
    any_more p x xs rest true is = ap (λ t. t || list_any p xs) is ∙ sym (ap (nat_lt 0) (count_more p x xs ∙ ap (λ t. cond t 1 0 + count_by p xs) is)
        ∙ some_more (count_by p xs))
    any_more p x xs rest false is =
        ap (λ t. t || list_any p xs) is ∙ rest ∙ ap (nat_lt 0) (sym (count_more p x xs ∙ ap (λ t. cond t 1 0 + count_by p xs) is ∙ zero-add (count_by p xs)))

some_above : (n m : ℕ) → suc n ≡ m → nat_lt 0 m ≡ true
some_above n m is = grind (arith, nat_tests)

some_of_both : (b c : ℕ) → nat_lt 0 (b + c) ≡ (nat_lt 0 b || nat_lt 0 c)
some_of_both zero c = ap (nat_lt 0) (zero-add c)
some_of_both (suc b) c = some_above (b + c) (suc b + c) (omega arith) ∙ sym (ap (λ t. t || nat_lt 0 c) (some_above b (suc b) refl))

-- what is held is what the lines have, and what was found
pub held_is_taken : (held : List Vector) (berths : List Berth) (found : List (Option Vector)) (v : Vector)
    → count_of v held ≡ count_by (stands_at v) berths + count_by (is_at v) found → is_in v held ≡ is_taken berths found v
held_is_taken held berths found v is =
    any_counts (same_vector v) held ∙ ap (nat_lt 0) is ∙ some_of_both (count_by (stands_at v) berths) (count_by (is_at v) found)
    ∙ ap (λ t. t || nat_lt 0 (count_by (is_at v) found)) (sym (any_counts (stands_at v) berths))
    ∙ ap (λ t. list_any (stands_at v) berths || t) (sym (any_counts (is_at v) found))

pub count_option : (v : Vector) (p : Option Vector) → count_of v (option_to_list p) ≡ cond (is_at v p) 1 0
count_option v None = refl
count_option v (Some w) = count_more (same_vector v) w [] ∙ add-zero (cond (same_vector v w) 1 0)

-- one more is held, and one more was found
pub one_more_found : (v : Vector) (held : List Vector) (n : ℕ) (found : List (Option Vector)) (p : Option Vector)
    → count_of v held ≡ n + count_by (is_at v) found → count_of v (held ++ option_to_list p) ≡ n + count_by (is_at v) (found ++ p ∷ [])
one_more_found v held n found p is =
    omega (arith, is, count_both v held (option_to_list p), count_option v p, count_put (is_at v) found p)

-- one less is held
pub one_less : (v w : Vector) (held : List Vector) → count_of w held ≤ 1 → 0 < count_of w held
    → count_of v (without w held) + cond (same_vector v w) 1 0 ≡ count_of v held
one_less v w held most some = by_test (same_vector v w) refl
  where
    by_test : (t : Bool) → same_vector v w ≡ t → count_of v (without w held) + cond (same_vector v w) 1 0 ≡ count_of v held
    by_test true is =
        let e : v ≡ w = from_same v w is in
        let none : count_of v (without w held) ≡ 0 = ap (λ x. count_of x (without w held)) e ∙ count_without w held in
        let all : count_of v held ≡ count_of w held = ap (λ x. count_of x held) e in
        ap (λ t. count_of v (without w held) + cond t 1 0) is ∙ omega (arith, none, all, most, some)
    by_test false is =
        ap (λ t. count_of v (without w held) + cond t 1 0) is ∙ omega (arith, count_others w v held (apart_both v w is))

-- ---- what a turn of a loop needs

-- what is to be given back is held
pub there_back : (held init : List Vector) (found : List (Option Vector)) (p : Option Vector) (rest : List (Option Vector))
    → ((v : Vector) → count_of v held + count_by (is_at v) found ≡ count_of v init + count_by (is_at v) (p ∷ rest))
    → ((v : Vector) → count_by (is_at v) found ≤ count_of v init) → IfThere (λ v. is_in v held ≡ true) p
there_back held init found None rest tie most = tt
there_back held init found (Some w) rest tie most =
    is_in_from w held (some (count_of w held) (count_by (is_at w) found) (count_of w init) (count_by (is_at w) (Some w ∷ rest)) (count_by (is_at w) rest)
    (tie w) (count_more (is_at w) (Some w) rest ∙ ap (λ t. cond t 1 0 + count_by (is_at w) rest) (same_self w)) (most w))
  where
    some : (h f i all rest : ℕ) → h + f ≡ i + all → all ≡ 1 + rest → f ≤ i → 0 < h
    some h f i all rest tie one most = omega (arith, tie, one, most)

-- a line's vector is held
pub there_now : (held : List Vector) (b : Berth) (bs : List Berth) (n m : Vector → ℕ)
    → ((v : Vector) → count_of v held ≡ n v + (count_by (stands_at v) (b ∷ bs) + m v)) → IfThere (λ v. is_in v held ≡ true) b.place
there_now held b bs n m tie = by b.place refl
  where
    some : (h n all m rest : ℕ) → h ≡ n + (all + m) → all ≡ 1 + rest → 0 < h
    some h n all m rest tie one = omega (arith, tie, one)

    by : (p : Option Vector) → b.place ≡ p → IfThere (λ v. is_in v held ≡ true) p
    by None is = tt
    by (Some w) is =
        is_in_from w held (some (count_of w held) (n w) (count_by (stands_at w) (b ∷ bs)) (m w) (count_by (stands_at w) bs) (tie w)
        (count_more (stands_at w) b bs ∙ ap (λ p. cond (is_at w p) 1 0 + count_by (stands_at w) bs) is
        ∙ ap (λ t. cond t 1 0 + count_by (stands_at w) bs) (same_self w)))

pub back_tie : (before after back found init all rest : ℕ) → after + back ≡ before → before + found ≡ init + all → all ≡ back + rest
    → after + found ≡ init + rest
back_tie before after back found init all rest gave tie more = omega (arith, gave, tie, more)

pub settle_tie : (before after next next_after old new settled all_bs bs all_ps ps : ℕ) → after + (old + new) ≡ before + settled
    → before ≡ next + (all_bs + all_ps) → all_bs ≡ old + bs → all_ps ≡ new + ps → next_after ≡ next + settled → after ≡ next_after + (bs + ps)
settle_tie before after next next_after old new settled all_bs bs all_ps ps left tie one two put = omega (arith, left, tie, one, two, put)
