-- Who has a worker: each actor once.
use Rattle.std.proofs.Common.{◌≡◌, ℕ, zero, suc, ◌+◌, ◌<◌, ◌≤◌, ◌||◌, inl, inr, Bool, true, false, cond, is_some, All}
use Rattle.std.proofs.Common.{IsPermutation, IsSomeAnd, Option, Some, None, List, [], ◌∷◌, ◌++◌, map, filter, take}
use Rattle.std.proofs.Common.{length, get_or, slice_get, refl, sym, ap, ◌∙◌, subst, arith, add-one, append_assoc}
use Rattle.std.proofs.Common.{append-nil}
use Rattle.std.specs.List.{list_any, IsDistinct, AllByRecursion}
use Rattle.std.proofs.lemmas.List.Sorted.{All-permutation}
use Rattle.std.proofs.lemmas.Map.Keys.{IsDistinct-IsPermutation}
use Rattle.std.proofs.lemmas.Bool.{or_cases, and_parts, false_from_ne_true}
use Rattle.irq_base.specs.Handlers.{has_thread}
use Rattle.irq_base.specs.declared.devices.DeviceDef.{DeviceDef}
use Rattle.irq_base.specs.declared.entries.Actor.{Actor}
use Rattle.irq_base.specs.declared.entries.Actor.TheVariants as actors
use Rattle.irq_base.specs.declared.numbers.DevNo.{DevNo}
use Rattle.irq_base.specs.declared.numbers.DriverNo.{DriverNo}
use Rattle.irq_base.specs.declared.numbers.LineNo.{LineNo}
use Rattle.irq_model.specs.Kinds.{same_line, same_actor}
use Rattle.irq_model.proofs.Same.{line_from_same, actor_from_same, same_self_actor}
use Rattle.irq_laws.proofs.Chosen.{the_same}
use Rattle.irq_laws.proofs.Lists.{both_ways}
use Rattle.play_laws.specs.Actors.{count_up}
use Rattle.board_def.proofs.Rising.{Rises, rises_on, head_of, device_at}
use Rattle.board_def.specs.Rules.{IsBoard, find_device}
use Rattle.board_def.specs.Seen.{BoardSeen}
use Rattle.board_def.specs.declared.rows.ScriptCall.{ScriptCall}
use Rattle.board_play.specs.Order.{cpus_of, drivers_of}
use Rattle.line_lock.specs.Knows.{is_among}
use Rattle.line_lock.specs.Passes.{LockSeen}
use Rattle.workers.specs.Fit.{IsPlaceOf, has_worker, workers_of}
use Rattle.workers.specs.Forks.{IsThere}
use Rattle.workers.proofs.Lists.{there_or, within}

-- ---- an order

abbrev rank : Actor → ℕ
rank (actors.Thread dev) = dev.0
rank (actors.Cpu cpu) = 70000 + cpu.0
rank (actors.Driver driver) = 80000 + driver.0

abbrev AreFrom : ℕ → List Actor → Type 0
AreFrom n [] = Unit {0}
AreFrom n (x ∷ xs) = (n ≤ rank x) × AreFrom n xs

abbrev AreUnder : ℕ → List Actor → Type 0
AreUnder n [] = Unit {0}
AreUnder n (x ∷ xs) = (rank x < n) × AreUnder n xs

abbrev AreRising : List Actor → Type 0
AreRising [] = Unit {0}
AreRising (x ∷ xs) = AreFrom (suc (rank x)) xs × AreRising xs

from_less : (m n : ℕ) (xs : List Actor) → m ≤ n → AreFrom n xs → AreFrom m xs
from_less m n [] le h = tt
from_less m n (x ∷ xs) le h = (omega (arith, le, h.0), from_less m n xs le h.1)

from_both : (n : ℕ) (xs ys : List Actor) → AreFrom n xs → AreFrom n ys → AreFrom n (xs ++ ys)
from_both n [] ys a b = b
from_both n (x ∷ xs) ys a b = (a.0, from_both n xs ys a.1 b)

rising_both : (n : ℕ) (xs ys : List Actor) → AreUnder n xs → AreFrom n ys → AreRising xs → AreRising ys → AreRising (xs ++ ys)
rising_both n [] ys under from a b = b
rising_both n (x ∷ xs) ys under from a b = (
  from_both (suc (rank x)) xs ys a.0
      (from_less (suc (rank x)) n ys (omega (arith, under.0)) from),
  rising_both n xs ys under.1 from a.1 b,
)

above : (n : ℕ) (xs : List Actor) (i : ℕ) (a : Actor) → AreFrom n xs → slice_get xs i ≡ Some a → n ≤ rank a
above n [] i a from at = cc
above n (x ∷ xs) zero a from at = subst (λ (y : Actor). n ≤ rank y) (the_same x a at) from.0
above n (x ∷ xs) (suc i) a from at = above n xs i a from.1 at

higher_differs : (a x : Actor) → rank x < rank a → same_actor a x ≡ false
higher_differs a x less = false_from_ne_true (same_actor a x) (λ same. let e = ap rank (actor_from_same a x same) in omega (arith, e, less))

flips : (a b : Actor) → same_actor a b ≡ same_actor b a
flips a b = by_tests (same_actor a b) (same_actor b a) refl refl
  where
    by_tests : (s t : Bool) → same_actor a b ≡ s → same_actor b a ≡ t → s ≡ t
    by_tests true true one other = refl
    by_tests false false one other = refl
    by_tests true false one other = absurd (both_ways (same_actor b a)
        (subst (λ (x : Actor). same_actor x a ≡ true) (actor_from_same a b one) (same_self_actor a)) other)
    by_tests false true one other = absurd (both_ways (same_actor a b)
        (subst (λ (x : Actor). same_actor x b ≡ true) (actor_from_same b a other) (same_self_actor b)) one)

distinct : (ws : List Actor) → AreRising ws → IsDistinct same_actor ws
unfolding IsDistinct
distinct [] rising = tt
distinct (x ∷ xs) rising = (others xs rising.0, distinct xs rising.1)
  where
    others : (ys : List Actor) → AreFrom (suc (rank x)) ys → AllByRecursion (λ (y : Actor). same_actor x y ≡ false) ys
    others [] from = tt
    others (y ∷ ys) from = (flips x y ∙ higher_differs y x (let f = from.0 in omega (arith, f)), others ys from.1)

-- of actors that differ from one another one isn't among those before it
not_before : (ws : List Actor) (i : ℕ) (a : Actor) → IsDistinct same_actor ws → slice_get ws i ≡ Some a → is_among a (take i ws) ≡ false
unfolding IsDistinct
not_before [] i a each at = cc
not_before (x ∷ xs) zero a each at = refl
not_before (x ∷ xs) (suc i) a each at = ap (λ (t : Bool). cond t true (is_among a (take i xs))) (flips a x ∙ other xs i each.0 at) ∙ not_before xs i a each.1 at
  where
    other : (ys : List Actor) (i : ℕ) → AllByRecursion (λ (y : Actor). same_actor x y ≡ false) ys → slice_get ys i ≡ Some a → same_actor x a ≡ false
    other [] i all at = cc
    other (y ∷ ys) zero all at = subst (λ (z : Actor). same_actor x z ≡ false) (the_same y a at) all.0
    other (y ∷ ys) (suc i) all at = other ys i all.1 at

-- ---- threads

abbrev thread_of : DeviceDef → Actor
thread_of x = actors.Thread x.dev

abbrev threads_on : List LockSeen → List DeviceDef → List Actor
threads_on lines xs = map thread_of (filter (has_worker lines) xs)

threads_from : (lines : List LockSeen) (n : ℕ) (xs : List DeviceDef)
    → ((i : ℕ) (y : DeviceDef) → slice_get xs i ≡ Some y → n ≤ y.dev.0) → AreFrom n (threads_on lines xs)
threads_from lines n [] all = tt
threads_from lines n (x ∷ xs) all = by_test (has_worker lines x) (threads_from lines n xs (λ i y at. all (suc i) y at))
  where
    by_test : (b : Bool) → AreFrom n (threads_on lines xs)
        → AreFrom n (map thread_of (cond b (x ∷ filter (has_worker lines) xs) (filter (has_worker lines) xs)))
    by_test true deeper = (all 0 x refl, deeper)
    by_test false deeper = deeper

threads_rise : (lines : List LockSeen) (xs : List DeviceDef) → Rises (λ (x : DeviceDef). x.dev.0) xs → AreRising (threads_on lines xs)
threads_rise lines [] rises = tt
threads_rise lines (x ∷ xs) rises = by_test (has_worker lines x) (threads_rise lines xs (rises_on (λ (x : DeviceDef). x.dev.0) x xs rises))
  where
    higher : (i : ℕ) (y : DeviceDef) → slice_get xs i ≡ Some y → suc x.dev.0 ≤ y.dev.0
    higher i y at = let less : x.dev.0 < y.dev.0 = head_of (λ (e : DeviceDef). e.dev.0 < y.dev.0) x (take i xs) (rises (suc i) y at) in omega (arith, less)

    by_test : (b : Bool) → AreRising (threads_on lines xs)
        → AreRising (map thread_of (cond b (x ∷ filter (has_worker lines) xs) (filter (has_worker lines) xs)))
    by_test true deeper = (threads_from lines (suc x.dev.0) xs higher, deeper)
    by_test false deeper = deeper

threads_under : (lines : List LockSeen) (n : ℕ) (xs : List DeviceDef)
    → ((i : ℕ) (y : DeviceDef) → slice_get xs i ≡ Some y → y.dev.0 < n) → AreUnder n (threads_on lines xs)
threads_under lines n [] all = tt
threads_under lines n (x ∷ xs) all = by_test (has_worker lines x) (threads_under lines n xs (λ i y at. all (suc i) y at))
  where
    by_test : (b : Bool) → AreUnder n (threads_on lines xs)
        → AreUnder n (map thread_of (cond b (x ∷ filter (has_worker lines) xs) (filter (has_worker lines) xs)))
    by_test true deeper = (all 0 x refl, deeper)
    by_test false deeper = deeper

-- ---- processors

abbrev cpu_of : ℕ → Actor
cpu_of n = actors.Cpu (record { 0 = n })

cpus_from : (c n : ℕ) → AreFrom (70000 + c) (map cpu_of (count_up c n))
cpus_from c zero = tt
cpus_from c (suc n) = (omega arith, from_less (70000 + c) (70000 + (c + 1)) (map cpu_of (count_up (c + 1) n)) (omega arith) (cpus_from (c + 1) n))

cpus_rise : (c n : ℕ) → AreRising (map cpu_of (count_up c n))
cpus_rise c zero = tt
cpus_rise c (suc n) = (
  subst (λ (m : ℕ). AreFrom m (map cpu_of (count_up (c + 1) n)))
      (let e : 70000 + (c + 1) ≡ suc (70000 + c) = omega arith in e) (cpus_from (c + 1) n),
  cpus_rise (c + 1) n,
)

cpus_under : (c n m : ℕ) → 70000 + (c + n) ≤ m → AreUnder m (map cpu_of (count_up c n))
cpus_under c zero m le = tt
cpus_under c (suc n) m le = (omega (arith, le), cpus_under (c + 1) n m (omega (arith, le)))

-- ---- drivers

abbrev driver_of : DriverNo → Actor
driver_of r = actors.Driver r

drivers_from : (n : ℕ) (rs : List DriverNo) → ((i : ℕ) (s : DriverNo) → slice_get rs i ≡ Some s → n ≤ s.0) → AreFrom (80000 + n) (map driver_of rs)
drivers_from n [] all = tt
drivers_from n (r ∷ rs) all = (let h = all 0 r refl in omega (arith, h), drivers_from n rs (λ i s at. all (suc i) s at))

drivers_rise : (rs : List DriverNo) → Rises (λ (r : DriverNo). r.0) rs → AreRising (map driver_of rs)
drivers_rise [] rises = tt
drivers_rise (r ∷ rs) rises = (
  subst (λ (m : ℕ). AreFrom m (map driver_of rs)) (let e : 80000 + suc r.0 ≡ suc (80000 + r.0) = omega arith in e) (drivers_from (suc r.0) rs higher),
  drivers_rise rs (rises_on (λ (r : DriverNo). r.0) r rs rises),
)
  where
    higher : (i : ℕ) (s : DriverNo) → slice_get rs i ≡ Some s → suc r.0 ≤ s.0
    higher i s at = let less : r.0 < s.0 = head_of (λ (e : DriverNo). e.0 < s.0) r (take i rs) (rises (suc i) s at) in omega (arith, less)

-- ---- all of them

crew_rises : (board : BoardSeen) (lines : List LockSeen) → IsBoard board → AreRising (workers_of board lines)
crew_rises board lines is =
    rising_both 70000 (threads_on lines board.devices) (cpus_of board ++ drivers_of board)
    (threads_under lines 70000 board.devices (λ i y at. let n = (is.devices i y at).number.1 in omega (arith, n)))
    (from_both 70000 (cpus_of board) (drivers_of board) cpus_high drivers_high)
    (threads_rise lines board.devices (λ i y at. (is.devices i y at).rises))
    (rising_both 80000 (cpus_of board) (drivers_of board)
    (cpus_under 0 board.cpus 80000 (let f = is.few_cpus in omega (arith, f))) drivers_higher
    (cpus_rise 0 board.cpus) (drivers_rise board.drivers (λ i r at. (is.drivers i r at).rises)))
  where
    cpus_high : AreFrom 70000 (cpus_of board)
    cpus_high = from_less 70000 (70000 + 0) (cpus_of board) (omega arith) (cpus_from 0 board.cpus)

    drivers_higher : AreFrom 80000 (drivers_of board)
    drivers_higher = from_less 80000 (80000 + 0) (drivers_of board) (omega arith) (drivers_from 0 board.drivers (λ i s at. omega arith))

    drivers_high : AreFrom 70000 (drivers_of board)
    drivers_high = from_less 70000 80000 (drivers_of board) (omega arith) drivers_higher

-- an actor of the crew differs from the actors before it
pub is_new : (board : BoardSeen) (lines : List LockSeen) → IsBoard board → (crew : List Actor)
    → IsPermutation (workers_of board lines) crew → (i : ℕ) (a : Actor) → slice_get crew i ≡ Some a
    → is_among a (take i crew) ≡ false
is_new board lines is crew dealt i a at =
    not_before crew i a (IsDistinct-IsPermutation same_actor flips (workers_of board lines) crew dealt
    (distinct (workers_of board lines) (crew_rises board lines is))) at

-- ---- their lines are there

line_there : (lines : List LockSeen) (number : LineNo)
    → list_any (λ (l : LockSeen). same_line number l.def.line) lines ≡ true → (k : ℕ) × IsPlaceOf lines number (Some k)
line_there [] number any = cc
line_there (l ∷ ls) number any = elim (or_cases (same_line number l.def.line) (list_any (λ (l : LockSeen). same_line number l.def.line) ls) any) [
  | inl here ↦ (0, sym (line_from_same number l.def.line here))
  | inr later ↦ let d = line_there ls number later in (suc d.0, d.1)
]

module _ (board : BoardSeen) (lines : List LockSeen) where
  abbrev EachThere : List Actor → Type 0
  EachThere xs = (i : ℕ) (a : Actor) → slice_get xs i ≡ Some a → IsThere board lines a

  first_there : (x : Actor) (xs : List Actor) → IsThere board lines x → EachThere xs → EachThere (x ∷ xs)
  first_there x xs first rest zero a at = subst (λ (b : Actor). IsThere board lines b) (the_same x a at) first
  first_there x xs first rest (suc i) a at = rest i a at

  both_there : (xs ys : List Actor) → EachThere xs → EachThere ys → EachThere (xs ++ ys)
  both_there [] ys a b = b
  both_there (x ∷ xs) ys a b = first_there x (xs ++ ys) (a 0 x refl) (both_there xs ys (λ i y at. a (suc i) y at) b)

  -- the board's devices are found by their numbers
  abbrev AreFound : List DeviceDef → Type 0
  AreFound xs = (i : ℕ) (x : DeviceDef) → slice_get xs i ≡ Some x → find_device board.devices x.dev ≡ Some x

  thread_there : (x : DeviceDef) → find_device board.devices x.dev ≡ Some x → has_worker lines x ≡ true → IsThere board lines (thread_of x)
  thread_there x found has =
      let d = line_there lines x.line (and_parts (has_thread x.kind) _ has).1 in
      (d.0, subst (λ (o : Option DeviceDef). IsSomeAnd o (λ y. IsPlaceOf lines y.line (Some d.0))) (sym found) d.1)

  threads_there : (xs : List DeviceDef) → AreFound xs → EachThere (threads_on lines xs)
  threads_there [] found = λ i a at. cc
  threads_there (x ∷ xs) found = by_test (has_worker lines x) refl (threads_there xs (λ i y at. found (suc i) y at))
    where
      by_test : (b : Bool) → has_worker lines x ≡ b → EachThere (threads_on lines xs)
          → EachThere (map thread_of (cond b (x ∷ filter (has_worker lines) xs) (filter (has_worker lines) xs)))
      by_test true has deeper = first_there (thread_of x) (threads_on lines xs) (thread_there x (found 0 x refl) has) deeper
      by_test false has deeper = deeper

  cpus_there : (ns : List ℕ) → EachThere (map cpu_of ns)
  cpus_there [] = λ i a at. cc
  cpus_there (n ∷ ns) = first_there (cpu_of n) (map cpu_of ns) tt (cpus_there ns)

  drivers_there : (rs : List DriverNo) → EachThere (map driver_of rs)
  drivers_there [] = λ i a at. cc
  drivers_there (r ∷ rs) = first_there (driver_of r) (map driver_of rs) tt (drivers_there rs)

  all_there : IsBoard board → EachThere (workers_of board lines)
  all_there is =
      both_there (threads_on lines board.devices) (cpus_of board ++ drivers_of board)
      (threads_there board.devices (λ i x at. device_at board.devices i x (λ k y at_y. (is.devices k y at_y).rises) at))
      (both_there (cpus_of board) (drivers_of board) (cpus_there (count_up 0 board.cpus)) (drivers_there board.drivers))

  pub is_there : IsBoard board → (crew : List Actor) → IsPermutation (workers_of board lines) crew → EachThere crew
  is_there is crew dealt i a at =
      let all : All (IsThere board lines) crew = All-permutation (IsThere board lines) (workers_of board lines) crew dealt
      (λ k d less. all_there is k (get_or (workers_of board lines) k d)
      (there_or (workers_of board lines) k d less)) in
      let less = within crew i a at in
      subst (λ (x : Actor). IsThere board lines x) (the_same (get_or crew i a) a (sym (there_or crew i a less) ∙ at)) (all i a less)

-- ---- how the crew is made

module _ {A : Type 0} where
  pub taken : (xs : List A) (i : ℕ) (x : A) → slice_get xs i ≡ Some x → take (i + 1) xs ≡ take i xs ++ x ∷ []
  taken xs i x at = ap (λ (n : ℕ). take n xs) (add-one i) ∙ go xs i x at
    where
      go : (xs : List A) (i : ℕ) (x : A) → slice_get xs i ≡ Some x → take (suc i) xs ≡ take i xs ++ x ∷ []
      go [] i x at = cc
      go (y ∷ ys) zero x at = ap (λ (z : A). z ∷ []) (the_same y x at)
      go (y ∷ ys) (suc i) x at = ap (λ (zs : List A). y ∷ zs) (go ys i x at)

  pub all_taken : (xs : List A) (i : ℕ) → length xs ≤ i → take i xs ≡ xs
  all_taken [] zero end = refl
  all_taken [] (suc i) end = refl
  all_taken (y ∷ ys) zero end = absurd (omega (arith, end))
  all_taken (y ∷ ys) (suc i) end = ap (λ (zs : List A). y ∷ zs) (all_taken ys i (omega (arith, end)))

  pub filter_more : (p : A → Bool) (xs : List A) (x : A) → filter p (xs ++ x ∷ []) ≡ filter p xs ++ cond (p x) (x ∷ []) []
  filter_more p [] x = refl
  filter_more p (y ∷ ys) x = by_test (p y) (filter_more p ys x)
    where
      by_test : (b : Bool) → filter p (ys ++ x ∷ []) ≡ filter p ys ++ cond (p x) (x ∷ []) []
          → cond b (y ∷ filter p (ys ++ x ∷ [])) (filter p (ys ++ x ∷ []))
          ≡ cond b (y ∷ filter p ys) (filter p ys) ++ cond (p x) (x ∷ []) []
      by_test true deeper = ap (λ (zs : List A). y ∷ zs) deeper
      by_test false deeper = deeper

pub map_more : {A B : Type 0} (f : A → B) (xs : List A) (x : A) → map f (xs ++ x ∷ []) ≡ map f xs ++ f x ∷ []
map_more f [] x = refl
map_more f (y ∷ ys) x = ap (λ (zs : List _). f y ∷ zs) (map_more f ys x)

-- one more actor behind the actors that were there
pub pushed : {A : Type 0} (f : A → Actor) (old now after : List Actor) (xs : List A) (i : ℕ) (x : A)
    → now ≡ old ++ map f (take i xs) → slice_get xs i ≡ Some x → after ≡ now ++ f x ∷ []
    → after ≡ old ++ map f (take (i + 1) xs)
pushed f old now after xs i x is at push =
    push ∙ (ap (λ (ps : List Actor). ps ++ f x ∷ []) is
    ∙ (append_assoc old (map f (take i xs)) (f x ∷ [])
    ∙ ap (λ (ps : List Actor). old ++ ps) (sym (ap (map f) (taken xs i x at) ∙ map_more f (take i xs) x))))

counted : (c n : ℕ) → count_up c (suc n) ≡ count_up c n ++ (c + n) ∷ []
counted c zero = ap (λ (m : ℕ). m ∷ []) (let e : c ≡ c + 0 = omega arith in e)
counted c (suc n) = ap (λ (ms : List ℕ). c ∷ ms) (counted (c + 1) n
    ∙ ap (λ (m : ℕ). count_up (c + 1) n ++ m ∷ []) (let e : (c + 1) + n ≡ c + suc n = omega arith in e))

pub cpu_pushed : (old now after : List Actor) (c : ℕ) → now
    ≡ old ++ map (λ n. actors.Cpu (record { 0 = n })) (count_up 0 c) → after ≡ now ++ actors.Cpu (record { 0 = c }) ∷ []
    → after ≡ old ++ map (λ n. actors.Cpu (record { 0 = n })) (count_up 0 (c + 1))
cpu_pushed old now after c is push =
    let more : map cpu_of (count_up 0 (c + 1)) ≡ map cpu_of (count_up 0 c) ++ cpu_of c ∷ [] =
    ap (λ (n : ℕ). map cpu_of (count_up 0 n)) (add-one c)
    ∙ (ap (map cpu_of) (counted 0 c ∙ ap (λ (m : ℕ). count_up 0 c ++ m ∷ []) (let e : 0 + c ≡ c = omega arith in e))
    ∙ map_more cpu_of (count_up 0 c) c) in
    push ∙ (ap (λ (ps : List Actor). ps ++ cpu_of c ∷ []) is
    ∙ (append_assoc old (map cpu_of (count_up 0 c)) (cpu_of c ∷ [])
    ∙ ap (λ (ps : List Actor). old ++ ps) (sym more)))

-- a device whose thread has a worker, and one that has none
threads_more : (lines : List LockSeen) (xs : List DeviceDef) (i : ℕ) (x : DeviceDef) → slice_get xs i ≡ Some x
    → (b : Bool) → has_worker lines x ≡ b → threads_on lines (take (i + 1) xs)
    ≡ threads_on lines (take i xs) ++ cond b (thread_of x ∷ []) []
threads_more lines xs i x at b is =
    ap (threads_on lines) (taken xs i x at)
    ∙ (ap (map thread_of) (filter_more (has_worker lines) (take i xs) x
    ∙ ap (λ (b : Bool). filter (has_worker lines) (take i xs) ++ cond b (x ∷ []) []) is) ∙ by_test b)
  where
    by_test : (b : Bool) → map thread_of (filter (has_worker lines) (take i xs) ++ cond b (x ∷ []) [])
        ≡ threads_on lines (take i xs) ++ cond b (thread_of x ∷ []) []
    by_test true = map_more thread_of (filter (has_worker lines) (take i xs)) x
    by_test false = ap (map thread_of) (append-nil (filter (has_worker lines) (take i xs))) ∙ sym (append-nil (threads_on lines (take i xs)))

pub thread_pushed : (lines : List LockSeen) (old now after : List Actor) (xs : List DeviceDef) (i : ℕ) (x : DeviceDef)
    → now ≡ old ++ threads_on lines (take i xs) → slice_get xs i ≡ Some x → has_worker lines x ≡ true
    → after ≡ now ++ thread_of x ∷ [] → after ≡ old ++ threads_on lines (take (i + 1) xs)
thread_pushed lines old now after xs i x is at has push =
    push ∙ (ap (λ (ps : List Actor). ps ++ thread_of x ∷ []) is
    ∙ (append_assoc old (threads_on lines (take i xs)) (thread_of x ∷ [])
    ∙ ap (λ (ps : List Actor). old ++ ps) (sym (threads_more lines xs i x at true has))))

pub thread_passed : (lines : List LockSeen) (old now : List Actor) (xs : List DeviceDef) (i : ℕ) (x : DeviceDef)
    → now ≡ old ++ threads_on lines (take i xs) → slice_get xs i ≡ Some x → has_worker lines x ≡ false
    → now ≡ old ++ threads_on lines (take (i + 1) xs)
thread_passed lines old now xs i x is at has = is ∙ ap (λ (ps : List Actor). old ++ ps)
    (sym (threads_more lines xs i x at false has ∙ append-nil (threads_on lines (take i xs))))

pub threads_all : (lines : List LockSeen) (old now : List Actor) (xs : List DeviceDef) (i : ℕ)
    → now ≡ old ++ threads_on lines (take i xs) → length xs ≤ i → now ≡ old ++ threads_on lines xs
threads_all lines old now xs i is end = is ∙ ap (λ (ys : List DeviceDef). old ++ threads_on lines ys) (all_taken xs i end)

-- what was found of a device's line says whether its thread has a worker
pub place_says : (lines : List LockSeen) (number : LineNo) (o : Option ℕ) → IsPlaceOf lines number o
    → list_any (λ (l : LockSeen). same_line number l.def.line) lines ≡ is_some o
place_says lines number None is = is
place_says lines number (Some k) is = any lines k is
  where
    any : (ls : List LockSeen) (k : ℕ) → IsSomeAnd (slice_get ls k) (λ l. l.def.line ≡ number)
        → list_any (λ (l : LockSeen). same_line number l.def.line) ls ≡ true
    any [] k is = absurd is
    any (l ∷ ls) zero is = ap (λ (b : Bool). b || list_any (λ (l : LockSeen). same_line number l.def.line) ls) (same_number number l.def.line is)
      where
        same_number : (a b : LineNo) → b ≡ a → same_line a b ≡ true
        same_number a b h = subst (λ (c : LineNo). same_line c b ≡ true) h (grind arith)
    any (l ∷ ls) (suc k) is = or_later (same_line number l.def.line) (list_any (λ (l : LockSeen). same_line number l.def.line) ls) (any ls k is)
      where
        or_later : (a b : Bool) → b ≡ true → (a || b) ≡ true
        or_later true b h = refl
        or_later false b h = h

-- a line that is there isn't nowhere
pub not_placed : (lines : List LockSeen) (number : LineNo) (k : ℕ) (l : LockSeen) → slice_get lines k ≡ Some l
    → l.def.line ≡ number → IsPlaceOf lines number None → ⊥
not_placed lines number k l at is none =
    both_ways (list_any (λ (l : LockSeen). same_line number l.def.line) lines)
    (place_says lines number (Some k) (subst (λ (o : Option LockSeen). IsSomeAnd o (λ l. l.def.line ≡ number))
    (sym at) is)) none

-- what is known of a call that was read
pub read_here : (calls : List ScriptCall) (k at : ℕ) (default d : ScriptCall) (P : ScriptCall → Type 0)
    → P (get_or calls at default) → at < length calls → k ≡ at → slice_get calls k ≡ Some d → P d
read_here calls k at default d P here less same is =
    subst P (the_same (get_or calls at default) d (sym (there_or calls at default less) ∙ (ap (λ (n : ℕ). slice_get calls n) (sym same) ∙ is))) here

pub not_nowhere : (lines : List LockSeen) (number : LineNo) (k : ℕ) → IsPlaceOf lines number (Some k) → IsPlaceOf lines number None → ⊥
not_nowhere lines number k is none = both_ways (list_any (λ (l : LockSeen). same_line number l.def.line) lines) (place_says lines number (Some k) is) none

-- the line of a device that is there isn't nowhere
pub not_there : (board : BoardSeen) (lines : List LockSeen) (dev : DevNo) (x : DeviceDef) → IsThere board lines (actors.Thread dev)
    → find_device board.devices dev ≡ Some x → IsPlaceOf lines x.line None → ⊥
not_there board lines dev x is found = not_nowhere lines x.line is.0
    (subst (λ (o : Option DeviceDef). IsSomeAnd o (λ y. IsPlaceOf lines y.line (Some is.0))) found is.1)

pub not_found : (board : BoardSeen) (lines : List LockSeen) (dev : DevNo) → IsThere board lines (actors.Thread dev)
    → find_device board.devices dev ≡ None → ⊥
not_found board lines dev is none = subst (λ (o : Option DeviceDef). IsSomeAnd o (λ y. IsPlaceOf lines y.line (Some is.0))) none is.1
