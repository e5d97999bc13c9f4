-- What the sets tell is what a search over the lists finds.
use Rattle.std.proofs.Common.{IfSome, ◌≡◌, ℕ, zero, suc, ◌+◌, ◌<◌, ◌≤◌, Bool, true, false, not, ◌||◌, ◌&&◌, cond, nat_lt, is_some}
use Rattle.std.proofs.Common.{unwrap_or, Option, Some, None, List, [], ◌∷◌, length, slice_get, bit_or, refl, sym, ap}
use Rattle.std.proofs.Common.{◌∙◌, subst, eqb, eqb-true, arith}
use Rattle.std.proofs.lemmas.Bool.{lt-ltb, le-ltb, ltb-true, ltb-false, eqb-false}
use Rattle.std.proofs.lemmas.Option.{slice_get_past}
use Rattle.board_ready.specs.First.{first_of}
use Rattle.board_ready.specs.Kept.{thread_of, AreThreads, AreFlows, AreSpinners, AreTakes, AreReady}
use Rattle.board_ready.specs.Ready.{lower_of, thread_on, lowest_from, lowest_thread, has_flow, has_take, flow_line}
use Rattle.board_ready.specs.Ready.{take_line, flow_or_take, cpu_line, is_cpu_ready, lowest_cpu, current_call}
use Rattle.board_ready.specs.Ready.{can_go_on, has_spinner, moves_on, moving_line}
use Rattle.board_ready.specs.Sets.{has, leaf, lowest_in, is_of}
use Rattle.board_ready.specs.declared.parts.CurrentCall.{CurrentCall}
use Rattle.board_ready.specs.declared.parts.LineReadiness.{LineReadiness}
use Rattle.board_ready.specs.declared.parts.ReadyThread.{ReadyThread}
use Rattle.board_ready.proofs.First.{first_within, found_below, from_is, from_none}
use Rattle.board_ready.proofs.Lowest.{first_none}
use Rattle.board_ready.proofs.Numbers.{either_has}
use Rattle.board_ready.proofs.Processors.{nothing_in}

-- a search over 64 places finds the first of the lines that there are
parts_first : (test : Option LineReadiness → Bool) (lines : List LineReadiness) (on : ℕ → Bool) → test None ≡ false
    → length lines ≤ 64 → ((k : ℕ) → k < 64 → on k ≡ test (slice_get lines k))
    → first_of on 64 ≡ first_of (λ k. test (slice_get lines k)) (length lines)
parts_first test lines on none few is =
    first_within (λ k. test (slice_get lines k)) on (length lines) 64 few
    (λ k inside. is k (omega (arith, inside, few)))
    (λ k past small. is k small ∙ (ap test (slice_get_past lines k past) ∙ none))

-- flows go before takes
pub chosen_line : (lines : List LineReadiness) (flows takes : List ℕ) (c : ℕ) → length lines ≤ 64 → c < 32 → AreFlows lines flows → AreTakes lines takes
    → flow_or_take (first_of (is_of flows c) 64) (first_of (is_of takes c) 64) ≡ cpu_line lines c
chosen_line lines flows takes c few small are_flows are_takes =
    ap (λ (o : Option ℕ). flow_or_take o (first_of (is_of takes c) 64))
    (parts_first (has_flow c) lines (is_of flows c) refl few (λ k less. are_flows c k small less))
    ∙ (ap (flow_or_take (flow_line lines c)) (parts_first (has_take c) lines (is_of takes c) refl few (λ k less. are_takes c k small less))
    ∙ sym (ap (λ b. cond b (flow_or_take (flow_line lines c) (take_line lines c)) None) (lt-ltb c 32 small)))

-- the first line with its flow
pub flow_found : (lines : List LineReadiness) (flows : List ℕ) (c : ℕ) → length lines ≤ 64 → c < 32
    → AreFlows lines flows → first_of (is_of flows c) 64 ≡ cond (nat_lt c 32) (flow_line lines c) None
flow_found lines flows c few small are =
    parts_first (has_flow c) lines (is_of flows c) refl few (λ k less. are c k small less) ∙ sym (ap (λ b. cond b (flow_line lines c) None) (lt-ltb c 32 small))

-- the lines with a take due of it
pub take_found : (lines : List LineReadiness) (takes : List ℕ) (c k : ℕ) → c < 32 → k < 64 → AreTakes lines takes
    → is_of takes c k ≡ (nat_lt c 32 && has_take c (slice_get lines k))
take_found lines takes c k small less are = are c k small less ∙ sym (ap (λ b. b && has_take c (slice_get lines k)) (lt-ltb c 32 small))

pub no_take_kept : (lines : List LineReadiness) (c k : ℕ) → 32 ≤ c → has 0 k ≡ (nat_lt c 32 && has_take c (slice_get lines k))
no_take_kept lines c k high = nothing_in 0 k refl ∙ sym (ap (λ b. b && has_take c (slice_get lines k)) (le-ltb c 32 high))

-- the processors that have a flow or a take, and so a line
pub cpus_waiting : (lines : List LineReadiness) (flows takes : List ℕ) (a b : ℕ) → length lines ≤ 64 → AreFlows lines flows → AreTakes lines takes
    → ((c : ℕ) → c < 32 → has a c ≡ is_some (first_of (is_of flows c) 64)) → ((c : ℕ) → c < 32 → has b c ≡ is_some (first_of (is_of takes c) 64))
    → ((c : ℕ) → 32 ≤ c → c < 64 → has a c ≡ false) → ((c : ℕ) → 32 ≤ c → c < 64 → has b c ≡ false)
    → (c : ℕ) → c < 64 → has (bit_or a b) c ≡ (nat_lt c 32 && is_some (cpu_line lines c))
cpus_waiting lines flows takes a b few are_flows are_takes of_a of_b past_a past_b c less = by_test (nat_lt c 32) refl
  where
    of_two : {x y : Bool} → has a c ≡ x → has b c ≡ y → has (bit_or a b) c ≡ (x || y)
    of_two {x} {y} p q = either_has a b c ∙ (ap (λ z. z || has b c) p ∙ ap (λ z. x || z) q)

    either_some : (x y : Option ℕ) → (is_some x || is_some y) ≡ is_some (flow_or_take x y)
    either_some None y = refl
    either_some (Some k) y = refl

    by_test : (t : Bool) → nat_lt c 32 ≡ t → has (bit_or a b) c ≡ (t && is_some (cpu_line lines c))
    by_test true is =
        let small = ltb-true c 32 is in
        of_two (of_a c small) (of_b c small)
        ∙ (either_some (first_of (is_of flows c) 64) (first_of (is_of takes c) 64)
        ∙ ap is_some (chosen_line lines flows takes c few small are_flows are_takes))
    by_test false is =
        let past = ltb-false c 32 is in
        of_two (past_a c past less) (past_b c past less)

-- a processor's line is one of 64, and the processor one of 32
pub line_below : (lines : List LineReadiness) (c k : ℕ) → length lines ≤ 64 → cpu_line lines c ≡ Some k → (c < 32) × (k < 64)
line_below lines c k few is = by_test (nat_lt c 32) refl is
  where
    of_one : (o : Option ℕ) → IfSome o (λ j. j < length lines) → o ≡ Some k → k < 64
    of_one None h e = absurd cc
    of_one (Some j) h e = let same : j ≡ k = cc in omega (arith, h, same, few)

    of_two : (f t : Option ℕ) → IfSome f (λ j. j < length lines) → IfSome t (λ j. j < length lines) → flow_or_take f t ≡ Some k → k < 64
    of_two None t h u e = of_one t u e
    of_two (Some j) t h u e = of_one (Some j) h e

    by_test : (b : Bool) → nat_lt c 32 ≡ b → cond b (flow_or_take (flow_line lines c) (take_line lines c)) None ≡ Some k → (c < 32) × (k < 64)
    by_test false big e = absurd cc
    by_test true small e = (
      ltb-true c 32 small,
      of_two (flow_line lines c) (take_line lines c)
          (found_below (λ j. has_flow c (slice_get lines j)) (length lines) (flow_line lines c) refl)
          (found_below (λ j. has_take c (slice_get lines j)) (length lines) (take_line lines c) refl) e,
    )

-- where nobody spins a processor with a line can move
pub moves_if_none : (lines : List LineReadiness) (spins : List ℕ) (some c : ℕ) → length lines ≤ 64 → AreSpinners lines spins → some ≡ 0
    → ((i : ℕ) → i < 32 → has some i ≡ is_some (first_of (is_of spins i) 64)) → is_cpu_ready lines c ≡ is_some (cpu_line lines c)
moves_if_none lines spins some c few are none of_some = by_line (cpu_line lines c) refl
  where
    no_some : (o : Option ℕ) → false ≡ is_some o → o ≡ None
    no_some None e = refl
    no_some (Some k) e = absurd cc

    by_line : (o : Option ℕ) → cpu_line lines c ≡ o → moves_on lines c o ≡ is_some o
    by_line None is = refl
    by_line (Some k) is =
        let known = line_below lines c k few is in
        let nobody : first_of (is_of spins c) 64 ≡ None = no_some (first_of (is_of spins c) 64) (sym (nothing_in some c none) ∙ of_some c known.0) in
        ap not (sym (are c k known.0 known.1) ∙ first_none (is_of spins c) 64 k nobody known.1)

-- the first of those that have a line, if all of them can move
pub first_moves : (lines : List LineReadiness) (waiting : ℕ) → ((c : ℕ) → c < 64 → has waiting c ≡ (nat_lt c 32 && is_some (cpu_line lines c)))
    → ((c : ℕ) → is_cpu_ready lines c ≡ is_some (cpu_line lines c)) → first_of (has waiting) 64 ≡ lowest_cpu lines
unfolding lowest_cpu
first_moves lines waiting wait moves =
    first_within (is_cpu_ready lines) (has waiting) 32 64 (omega arith)
    (λ c small. wait c (omega (arith, small)) ∙ (ap (λ b. b && is_some (cpu_line lines c)) (lt-ltb c 32 small) ∙ sym (moves c)))
    (λ c past less. wait c less ∙ ap (λ b. b && is_some (cpu_line lines c)) (le-ltb c 32 past))

-- one that doesn't wait can't move
pub stands_if_idle : (lines : List LineReadiness) (waiting c : ℕ) → c < 32
    → ((i : ℕ) → i < 64 → has waiting i ≡ (nat_lt i 32 && is_some (cpu_line lines i))) → has waiting c ≡ false → is_cpu_ready lines c ≡ false
stands_if_idle lines waiting c small wait idle = by_line (cpu_line lines c)
    (ap (λ b. b && is_some (cpu_line lines c)) (sym (lt-ltb c 32 small)) ∙ (sym (wait c (omega (arith, small))) ∙ idle))
  where
    by_line : (o : Option ℕ) → is_some o ≡ false → moves_on lines c o ≡ false
    by_line None is = refl
    by_line (Some k) is = absurd cc

-- by what is asked of its line
pub moving : (lines : List LineReadiness) (c k : ℕ) (spins : Bool) → Some k ≡ cpu_line lines c → spins ≡ has_spinner c (slice_get lines k)
    → cond spins None (Some k) ≡ moving_line lines c
moving lines c k spins at is =
    turned spins ∙ (ap (λ t. cond (not t) (Some k) None) is ∙ ap (λ (o : Option ℕ). cond (moves_on lines c o) o None) at)
  where
    turned : (t : Bool) → cond t None (Some k) ≡ cond (not t) (Some k) None
    turned true = refl
    turned false = refl

pub moving_nowhere : (lines : List LineReadiness) (c : ℕ) → None ≡ cpu_line lines c → None ≡ moving_line lines c
moving_nowhere lines c at = ap (λ (o : Option ℕ). cond (moves_on lines c o) o None) at

pub moving_is_ready : (lines : List LineReadiness) (c : ℕ) → is_some (moving_line lines c) ≡ is_cpu_ready lines c
moving_is_ready lines c = by_line (cpu_line lines c)
  where
    if_moves : (t : Bool) (k : ℕ) → is_some (cond t (Some k) None) ≡ t
    if_moves true k = refl
    if_moves false k = refl

    by_line : (o : Option ℕ) → is_some (cond (moves_on lines c o) o None) ≡ moves_on lines c o
    by_line None = refl
    by_line (Some k) = if_moves (moves_on lines c (Some k)) k

-- one more that can't move
pub more_stand : (lines : List LineReadiness) (c : ℕ) (moves : Bool) → ((i : ℕ) → i < c → is_cpu_ready lines i ≡ false)
    → moves ≡ is_cpu_ready lines c → moves ≡ false → (i : ℕ) → i < c + 1 → is_cpu_ready lines i ≡ false
more_stand lines c moves before is still i less = by_place (eqb i c) refl
  where
    by_place : (b : Bool) → eqb i c ≡ b → is_cpu_ready lines i ≡ false
    by_place true same = ap (is_cpu_ready lines) (eqb-true i c same) ∙ (sym is ∙ still)
    by_place false other = let ne : i ≡ c → ⊥ = eqb-false i c other in before i (omega (arith, less, ne))

-- the first that can move, found one after the other
pub moves_first : (lines : List LineReadiness) (c : ℕ) → c < 32 → is_cpu_ready lines c ≡ true → ((i : ℕ) → i < c → is_cpu_ready lines i ≡ false)
    → Some c ≡ lowest_cpu lines
unfolding lowest_cpu
moves_first lines c small moves before = sym (from_is (is_cpu_ready lines) 0 32 c (omega arith) (omega (arith, small)) moves before)

pub nobody_moves : (lines : List LineReadiness) → ((i : ℕ) → i < 32 → is_cpu_ready lines i ≡ false) → None ≡ lowest_cpu lines
unfolding lowest_cpu
nobody_moves lines none = sym (from_none (is_cpu_ready lines) 0 32 (λ i a b. none i (omega (arith, b))))

pub cpu_below : (lines : List LineReadiness) (o : Option ℕ) → o ≡ lowest_cpu lines → IfSome o (λ c. c < 32)
unfolding lowest_cpu
cpu_below lines o is = found_below (is_cpu_ready lines) 32 o is

-- the drivers that can go on
pub driver_found : (lines : List LineReadiness) (drivers : List (Option CurrentCall)) (word : ℕ) → length drivers ≤ 64 → AreReady lines drivers word
    → first_of (has word) 64 ≡ first_of (λ r. can_go_on lines (current_call drivers r)) (length drivers)
driver_found lines drivers word few is =
    first_within (λ r. can_go_on lines (current_call drivers r)) (has word) (length drivers) 64 few (λ r inside. is r (omega (arith, inside, few)))
    (λ r past small. is r small ∙ ap (λ (o : Option (Option CurrentCall)). can_go_on lines (unwrap_or o None)) (slice_get_past drivers r past))

-- the lowest of the threads
nobody : (f : ℕ → Option ReadyThread) (k n : ℕ) → ((j : ℕ) → j < n → f (k + j) ≡ None) → lowest_in f k n ≡ None
nobody f k zero none = refl
nobody f k (suc n) none =
    let e : k + 0 ≡ k = omega arith in
    let here : f k ≡ None = ap f (sym e) ∙ none 0 (omega arith) in
    let rest : (j : ℕ) → j < n → f (k + 1 + j) ≡ None = λ j less. ap f (next j) ∙ none (suc j) (omega (arith, less)) in
    ap (λ (o : Option ReadyThread). lower_of o (lowest_in f (k + 1) n)) here ∙ nobody f (k + 1) n rest
  where
    next : (j : ℕ) → k + 1 + j ≡ k + suc j
    next j = omega arith

listed : (lines : List LineReadiness) (f : ℕ → Option ReadyThread) (k n : ℕ) → length lines ≤ n
    → ((j : ℕ) → j < n → f (k + j) ≡ thread_on (k + j) (thread_of (slice_get lines j)))
    → lowest_in f k n ≡ lowest_from k lines
listed [] f k n few is = nobody f k n is
listed (x ∷ xs) f k zero few is = absurd (omega (arith, few))
listed (x ∷ xs) f k (suc n) few is =
    ap (λ (o : Option ReadyThread). lower_of o (lowest_in f (k + 1) n)) (subst (λ i. f i ≡ thread_on i x.thread) first (is 0 (omega arith)))
    ∙ ap (lower_of (thread_on k x.thread)) (listed xs f (k + 1) n (omega (arith, few))
    (λ j less. subst (λ i. f i ≡ thread_on i (thread_of (slice_get xs j))) (next j)
    (is (suc j) (omega (arith, less)))))
  where
    first : k + 0 ≡ k
    first = omega arith

    next : (j : ℕ) → k + suc j ≡ k + 1 + j
    next j = omega arith

pub thread_found : (lines : List LineReadiness) (nodes : List (Option ReadyThread)) → length lines ≤ 64
    → AreThreads lines nodes → lowest_in (leaf nodes) 0 64 ≡ lowest_thread lines
thread_found lines nodes few are = listed lines (leaf nodes) 0 64 few
    (λ j less. subst (λ i. leaf nodes i ≡ thread_on i (thread_of (slice_get lines j))) (from_zero j) (are j less))
  where
    from_zero : (j : ℕ) → j ≡ 0 + j
    from_zero j = omega arith
