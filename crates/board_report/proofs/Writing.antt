-- One writing after another.
use Rattle.std.proofs.Common.{◌≡◌, ℕ, ◌+◌, ◌<◌, ◌≤◌, Option, Some, None, List, [], ◌∷◌, ◌++◌, get_or, slice_get, take, Result, Ok, Err}
use Rattle.std.proofs.Common.{drop, length, sym, ap, subst, ◌∙◌, append_assoc, zero-add, arith}
use Rattle.std.specs.List.{flat_map, range_with_len}
use Rattle.std.proofs.lemmas.Grind.{flat_map-append}
use Rattle.std.proofs.lemmas.List.{take_more, take_all, flat_map_more, take-append-drop, append-nil}
use Rattle.std.proofs.lemmas.List.FromFn.{length-range_with_len, get_or-range_with_len}
use Rattle.std.proofs.lemmas.Option.{slice_get_within, get_or_from_slice_get, slice_get-get_or}
use Rattle.irq_io.specs.declared.whole.WriteFailed.{WriteFailed}
use Rattle.irq_io.specs.Told.{Stays}
use Rattle.irq_io.specs.Whole.{WritesAll}

-- nothing was written
pub nothing : (a : Option (List ℕ)) → WritesAll a a [] (Ok tt)
nothing None = tt
nothing (Some old) = ap Some (sym (append-nil old))

-- what was written, and what is written after it
pub and_then : (a b c : Option (List ℕ)) (xs ys : List ℕ) (end : Result Unit WriteFailed) → WritesAll a b xs (Ok tt)
    → WritesAll b c ys end → WritesAll a c (xs ++ ys) end
and_then None b c xs ys end h k = tt
and_then (Some old) b c xs ys (Ok _) h k =
    subst (λ (o : Option (List ℕ)). WritesAll o c ys (Ok tt)) h k ∙ ap Some (append_assoc old xs ys)
and_then (Some old) b c xs ys (Err failed) h k =
    let w = subst (λ (o : Option (List ℕ)). WritesAll o c ys (Err failed)) h k in
    (xs ++ w.0, (w.1.0, ap (λ zs. xs ++ zs) w.1.1 ∙ sym (append_assoc xs w.0 w.1.0)), w.2 ∙ ap Some (append_assoc old xs w.0))

-- what failed within a part failed within the whole
pub failed_within : (a b : Option (List ℕ)) (xs ys : List ℕ) (failed : WriteFailed) → WritesAll a b xs (Err failed) → WritesAll a b (xs ++ ys) (Err failed)
failed_within None b xs ys failed h = tt
failed_within (Some old) b xs ys failed h = (h.0, (h.1.0 ++ ys, ap (λ zs. zs ++ ys) h.1.1 ∙ append_assoc h.0 h.1.0 ys), h.2)

-- a fault after the last byte
pub failed_after : (a b : Option (List ℕ)) (xs : List ℕ) (failed : WriteFailed) → WritesAll a b xs (Ok tt) → WritesAll a b xs (Err failed)
failed_after None b xs failed h = tt
failed_after (Some old) b xs failed h = (xs, ([], sym (append-nil xs)), h)

-- what was written, and then stayed
pub then_stays : (a b c : Option (List ℕ)) (xs : List ℕ) (end : Result Unit WriteFailed) → WritesAll a b xs end → Stays b c → WritesAll a c xs end
then_stays None b c xs end h k = tt
then_stays (Some old) b c xs (Ok _) h k = subst (λ (o : Option (List ℕ)). Stays o c) h k
then_stays (Some old) b c xs (Err _) h k = (h.0, h.1, subst (λ (o : Option (List ℕ)). Stays o c) h.2 k)

-- one item more
items_more : {X : Type 0} (f : X → List ℕ) (xs : List X) (i : ℕ) (x : X) → slice_get xs i ≡ Some x
    → flat_map f (take (i + 1) xs) ≡ flat_map f (take i xs) ++ f x
items_more f xs i x at =
    let within : i < length xs = slice_get_within xs i x at in
    let is : get_or xs i x ≡ x = get_or_from_slice_get xs i x x at in
    ap (flat_map f) (take_more xs i x within ∙ ap (λ y. take i xs ++ y ∷ []) is) ∙ sym (flat_map_more f [] (take i xs) x)

-- the texts of the items after one more
pub items_done : {X : Type 0} (f : X → List ℕ) (a b c : Option (List ℕ)) (xs : List X) (i : ℕ) (x : X) (row : List ℕ)
    → slice_get xs i ≡ Some x → row ≡ f x → WritesAll a b (flat_map f (take i xs)) (Ok tt)
    → WritesAll b c row (Ok tt) → WritesAll a c (flat_map f (take (i + 1) xs)) (Ok tt)
items_done f a b c xs i x row at is so_far next =
    let now = and_then a b c (flat_map f (take i xs)) row (Ok tt) so_far next in
    subst (λ (text : List ℕ). WritesAll a c text (Ok tt)) (ap (λ zs. flat_map f (take i xs) ++ zs) is ∙ sym (items_more f xs i x at)) now

-- the texts of the items after one that failed
pub items_failed : {X : Type 0} (f : X → List ℕ) (a b c : Option (List ℕ)) (xs : List X) (i : ℕ) (x : X) (row : List ℕ) (failed : WriteFailed)
    → slice_get xs i ≡ Some x → row ≡ f x → WritesAll a b (flat_map f (take i xs)) (Ok tt)
    → WritesAll b c row (Err failed) → WritesAll a c (flat_map f xs) (Err failed)
items_failed f a b c xs i x row failed at is so_far next =
    let now = and_then a b c (flat_map f (take i xs)) row (Err failed) so_far next in
    let upto : flat_map f (take i xs) ++ row ≡ flat_map f (take (i + 1) xs) = ap (λ zs. flat_map f (take i xs) ++ zs) is ∙ sym (items_more f xs i x at) in
    let all : (flat_map f (take i xs) ++ row) ++ flat_map f (drop (i + 1) xs) ≡ flat_map f xs =
    ap (λ zs. zs ++ flat_map f (drop (i + 1) xs)) upto
    ∙ (sym (flat_map-append f (take (i + 1) xs) (drop (i + 1) xs)) ∙ ap (flat_map f) (take-append-drop (i + 1) xs)) in
    subst (λ (text : List ℕ). WritesAll a c text (Err failed)) all (failed_within a c (flat_map f (take i xs) ++ row) (flat_map f (drop (i + 1) xs)) failed now)

-- the number at a place of the numbers from 0 on
pub number_at : (n i : ℕ) → i < n → slice_get (range_with_len 0 n) i ≡ Some i
number_at n i within =
    slice_get-get_or (range_with_len 0 n) i 0 (subst (λ (k : ℕ). i < k) (sym (length-range_with_len 0 n)) within)
    ∙ ap Some (get_or-range_with_len 0 n i 0 within ∙ zero-add i)

-- all of the numbers
pub numbers_all : (n i : ℕ) → n ≤ i → take i (range_with_len 0 n) ≡ range_with_len 0 n
numbers_all n i many = take_all i (range_with_len 0 n) (omega (arith, length-range_with_len 0 n, many))

-- what was written, and then handed on, or not
pub then_handed_on : (a b c : Option (List ℕ)) (xs : List ℕ) (end : Result Unit WriteFailed) → WritesAll a b xs (Ok tt) → Stays b c → WritesAll a c xs end
then_handed_on a b c xs (Ok _) h k = then_stays a b c xs (Ok tt) h k
then_handed_on a b c xs (Err failed) h k = then_stays a b c xs (Err failed) (failed_after a b xs failed h) k
