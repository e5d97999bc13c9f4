-- The lowest of 64 threads is what stands at the root of their tree.
use Rattle.std.proofs.Common.{◌≡◌, ℕ, zero, suc, ◌+◌, ◌*◌, ◌/◌, ◌<◌, ◌≤◌, Bool, true, false, cond, eqb, nat_lt, Option}
use Rattle.std.proofs.Common.{Some, None, List, length, slice_set, get_or, refl, sym, ap, ◌∙◌, replicate, eqb-true}
use Rattle.std.proofs.Common.{subst, arith}
use Rattle.std.proofs.lemmas.Bool.{eqb-false, lt-ltb, le-ltb, ltb-true, ltb-false}
use Rattle.std.proofs.lemmas.List.{get_or-set_same, get_or-set_other}
use Rattle.board_ready.specs.declared.parts.ReadyThread.{ReadyThread}
use Rattle.board_ready.specs.Ready.{lower, lower_of}
use Rattle.board_ready.specs.Sets.{node, leaf, lowest_in, IsJoined, IsTree}

-- the lower of three, whichever two are compared first
lower_assoc : (a b c : ReadyThread) → lower (lower a b) c ≡ lower a (lower b c)
lower_assoc a b c = by_tests (nat_lt b.dev.0 a.dev.0) (nat_lt c.dev.0 b.dev.0) refl refl
  where
    by_tests : (x y : Bool) → nat_lt b.dev.0 a.dev.0 ≡ x → nat_lt c.dev.0 b.dev.0 ≡ y → lower (cond x b a) c ≡ lower a (cond y c b)
    by_tests true true p q =
        let less : c.dev.0 < a.dev.0 = omega (arith, ltb-true b.dev.0 a.dev.0 p, ltb-true c.dev.0 b.dev.0 q) in
        ap (λ t. cond t c b) q ∙ sym (ap (λ t. cond t c a) (lt-ltb c.dev.0 a.dev.0 less))
    by_tests true false p q = ap (λ t. cond t c b) q ∙ sym (ap (λ t. cond t b a) p)
    by_tests false true p q = refl
    by_tests false false p q =
        let more : a.dev.0 ≤ c.dev.0 = omega (arith, ltb-false b.dev.0 a.dev.0 p, ltb-false c.dev.0 b.dev.0 q) in
        ap (λ t. cond t c a) (le-ltb c.dev.0 a.dev.0 more) ∙ sym (ap (λ t. cond t b a) p)

pub joined_assoc : (a b c : Option ReadyThread) → lower_of (lower_of a b) c ≡ lower_of a (lower_of b c)
joined_assoc None b c = refl
joined_assoc (Some a) None c = refl
joined_assoc (Some a) (Some b) None = refl
joined_assoc (Some a) (Some b) (Some c) = ap Some (lower_assoc a b c)

pub joined_none : (a : Option ReadyThread) → lower_of a None ≡ a
joined_none None = refl
joined_none (Some a) = refl

-- the threads of m places and of n more
pub lowest_split : (f : ℕ → Option ReadyThread) (k m n : ℕ) → lower_of (lowest_in f k m) (lowest_in f (k + m) n) ≡ lowest_in f k (m + n)
lowest_split f k zero n =
    let e : k + 0 ≡ k = omega arith in
    let z : n ≡ 0 + n = omega arith in
    ap (λ j. lowest_in f j n) e ∙ ap (lowest_in f k) z
lowest_split f k (suc m) n =
    let e : k + suc m ≡ k + 1 + m = omega arith in
    let z : suc (m + n) ≡ suc m + n = omega arith in
    joined_assoc (f k) (lowest_in f (k + 1) m) (lowest_in f (k + suc m) n)
    ∙ (ap (lower_of (f k)) (ap (λ j. lower_of (lowest_in f (k + 1) m) (lowest_in f j n)) e ∙ lowest_split f (k + 1) m n) ∙ ap (lowest_in f k) z)

-- how many threads stand below a node h levels above them, and the node of the first of them
abbrev size : ℕ → ℕ
size zero = 1
size (suc h) = size h + size h

abbrev first_below : ℕ → ℕ → ℕ
first_below zero i = i
first_below (suc h) i = first_below h (2 * i)

next_below : (h i : ℕ) → first_below h (i + 1) ≡ first_below h i + size h
next_below zero i = refl
next_below (suc h) i =
    let e : 2 * (i + 1) ≡ 2 * i + 1 + 1 = omega arith in
    let once : first_below h (2 * i + 1) ≡ first_below h (2 * i) + size h = next_below h (2 * i) in
    let twice : first_below h (2 * i + 1 + 1) ≡ first_below h (2 * i + 1) + size h = next_below h (2 * i + 1) in
    ap (first_below h) e ∙ (omega (arith, once, twice))

not_above : (h i : ℕ) → i ≤ first_below h i
not_above zero i = omega arith
not_above (suc h) i = omega (arith, not_above h (2 * i))

some_below : (h : ℕ) → 0 < size h
some_below zero = omega arith
some_below (suc h) = omega (arith, some_below h)

-- a node is the lowest of the threads below it
node_is : (nodes : List (Option ReadyThread)) → IsTree nodes → (h i : ℕ) → 0 < i → first_below h i + size h ≤ 128
    → lowest_in (node nodes) (first_below h i) (size h) ≡ node nodes i
node_is nodes tree zero i some within = joined_none (node nodes i)
node_is nodes tree (suc h) i some within =
    let a : ℕ = first_below h (2 * i) in
    let half : ℕ = size h in
    let second : first_below h (2 * i + 1) ≡ first_below h (2 * i) + size h = next_below h (2 * i) in
    let few : i < 64 = omega (arith, not_above h (2 * i), some_below h, within) in
    let left : lowest_in (node nodes) (first_below h (2 * i)) (size h)
    ≡ node nodes (2 * i) = node_is nodes tree h (2 * i) (omega (arith, some)) (omega (arith, within)) in
    let right : lowest_in (node nodes) (first_below h (2 * i + 1)) (size h)
    ≡ node nodes (2 * i + 1) = node_is nodes tree h (2 * i + 1) (omega arith) (omega (arith, within, second)) in
    sym (lowest_split (node nodes) (first_below h (2 * i)) (size h) (size h))
    ∙ (ap (λ x. lower_of x (lowest_in (node nodes) (first_below h (2 * i) + size h) (size h))) left
    ∙ (ap (lower_of (node nodes (2 * i))) (ap (λ j. lowest_in (node nodes) j (size h)) (sym second) ∙ right) ∙ sym (tree i some few)))

shifted : (nodes : List (Option ReadyThread)) (k n : ℕ) → lowest_in (node nodes) (64 + k) n ≡ lowest_in (leaf nodes) k n
shifted nodes k zero = refl
shifted nodes k (suc n) = ap (lower_of (leaf nodes k))
    (ap (λ j. lowest_in (node nodes) j n) (let e : 64 + k + 1 ≡ 64 + (k + 1) = omega arith in e)
    ∙ shifted nodes (k + 1) n)

pub root_is : (nodes : List (Option ReadyThread)) → IsTree nodes → node nodes 1 ≡ lowest_in (leaf nodes) 0 64
root_is nodes tree = sym (sym (shifted nodes 0 64) ∙ node_is nodes tree 6 1 (omega arith) (omega arith))

-- a thread is put at its line's node: the nodes above it are to be joined again
pub leaf_set : (nodes : List (Option ReadyThread)) (line k : ℕ) (t : Option ReadyThread) → length nodes ≡ 128
    → line < 64 → leaf (slice_set nodes (64 + line) t) k ≡ cond (eqb k line) t (leaf nodes k)
leaf_set nodes line k t long few = by_test (eqb k line) refl
  where
    by_test : (b : Bool) → eqb k line ≡ b → leaf (slice_set nodes (64 + line) t) k ≡ cond b t (leaf nodes k)
    by_test true is = let e : k ≡ line = eqb-true k line is in
        ap (leaf (slice_set nodes (64 + line) t)) e ∙ get_or-set_same nodes (64 + line) t None
        (omega (arith, long, few))
    by_test false is = let ne : k ≡ line → ⊥ = eqb-false k line is in get_or-set_other nodes (64 + line) (64 + k) t None (λ e. ne (omega (arith, e)))

-- a line that has the thread already
pub leaf_stands : (nodes : List (Option ReadyThread)) (line k : ℕ) (t : Option ReadyThread) → leaf nodes line ≡ t
    → leaf nodes k ≡ cond (eqb k line) t (leaf nodes k)
leaf_stands nodes line k t is = by_test (eqb k line) refl
  where
    by_test : (b : Bool) → eqb k line ≡ b → leaf nodes k ≡ cond b t (leaf nodes k)
    by_test true same = ap (leaf nodes) (eqb-true k line same) ∙ is
    by_test false other = refl

-- all but the node above the one that was set
pub joined_but : (nodes : List (Option ReadyThread)) (place i : ℕ) (t : Option ReadyThread) → (i ≡ place → ⊥)
    → (i ≡ place / 2 → ⊥) → IsJoined nodes i → IsJoined (slice_set nodes place t) i
joined_but nodes place i t other above is =
    let here : node (slice_set nodes place t) i ≡ node nodes i = get_or-set_other nodes place i t None other in
    let left : node (slice_set nodes place t) (2 * i) ≡ node nodes (2 * i) = get_or-set_other nodes place (2 * i) t None (λ e. above (omega (arith, e))) in
    let right : node (slice_set nodes place t) (2 * i + 1)
    ≡ node nodes (2 * i + 1) = get_or-set_other nodes place (2 * i + 1) t None (λ e. above (omega (arith, e))) in
    here ∙ (is ∙ (ap (λ x. lower_of x (node nodes (2 * i + 1))) (sym left) ∙ ap (lower_of (node (slice_set nodes place t) (2 * i))) (sym right)))

-- a node that is set to what stands below it is joined
pub joined_here : (nodes : List (Option ReadyThread)) (i : ℕ) → 0 < i → i < length nodes
    → IsJoined (slice_set nodes i (lower_of (node nodes (2 * i)) (node nodes (2 * i + 1)))) i
joined_here nodes i some inside =
    let t : Option ReadyThread = lower_of (node nodes (2 * i)) (node nodes (2 * i + 1)) in
    let left : node (slice_set nodes i t) (2 * i) ≡ node nodes (2 * i) = get_or-set_other nodes i (2 * i) t None (λ e. omega (arith, some, e)) in
    let right : node (slice_set nodes i t) (2 * i + 1) ≡ node nodes (2 * i + 1) = get_or-set_other nodes i (2 * i + 1) t None (λ e. omega (arith, some, e)) in
    get_or-set_same nodes i t None inside ∙ (ap (λ x. lower_of x (node nodes (2 * i + 1))) (sym left)
    ∙ ap (lower_of (node (slice_set nodes i t) (2 * i))) (sym right))

-- while a line's thread is being put: all nodes are joined but one, and the threads are the new
-- ones
pub record IsUpTo (nodes old : List (Option ReadyThread)) (line n : ℕ) (t : Option ReadyThread) : Type 0 where
  pub few : n < 64
  pub joined : (i : ℕ) → 0 < i → i < 64 → (i ≡ n → ⊥) → IsJoined nodes i
  pub leaves : (k : ℕ) → k < 64 → leaf nodes k ≡ cond (eqb k line) t (leaf old k)

pub up_first : (nodes : List (Option ReadyThread)) (line : ℕ) (t : Option ReadyThread) → length nodes ≡ 128 → line < 64
    → IsTree nodes → IsUpTo (slice_set nodes (64 + line) t) nodes line ((64 + line) / 2) t
up_first nodes line t long few tree = record {
  few = omega (arith, few);
  joined = λ i some below other. joined_but nodes (64 + line) i t
      (λ e. omega (arith, e, below)) other (tree i some below);
  leaves = λ k small. leaf_set nodes line k t long few;
}

pub up_next : (nodes old : List (Option ReadyThread)) (line n : ℕ) (t x : Option ReadyThread) → length nodes ≡ 128
    → 0 < n → x ≡ lower_of (node nodes (2 * n)) (node nodes (2 * n + 1)) → IsUpTo nodes old line n t
    → IsUpTo (slice_set nodes n x) old line (n / 2) t
up_next nodes old line n t x long some is up = record {
  few = omega (arith, up.few);
  joined
      = λ i pos below other. by_test i pos below other (eqb i n) refl;
  leaves
      = λ k small. get_or-set_other nodes n (64 + k) x None (λ e. omega (arith, e, up.few)) ∙ up.leaves k small;
}
  where
    here : IsJoined (slice_set nodes n x) n
    here = subst (λ y. IsJoined (slice_set nodes n y) n) (sym is) (joined_here nodes n some (omega (arith, up.few, long)))

    by_test : (i : ℕ) → 0 < i → i < 64 → (i ≡ n / 2 → ⊥) → (b : Bool) → eqb i n ≡ b → IsJoined (slice_set nodes n x) i
    by_test i pos below other true e = subst (λ j. IsJoined (slice_set nodes n x) j) (sym (eqb-true i n e)) here
    by_test i pos below other false e = joined_but nodes n i x (eqb-false i n e) other (up.joined i pos below (eqb-false i n e))

-- at the end all nodes are joined
pub up_last : (nodes old : List (Option ReadyThread)) (line n : ℕ) (t : Option ReadyThread) → n ≡ 0 → IsUpTo nodes old line n t → IsTree nodes
up_last nodes old line n t none up = λ i some below. up.joined i some below (λ e. omega (arith, e, none, some))

-- without any thread
abbrev nobody : Option ReadyThread
nobody = None

fresh_node : (n i : ℕ) → get_or (replicate n nobody) i nobody ≡ nobody
fresh_node zero i = refl
fresh_node (suc n) zero = refl
fresh_node (suc n) (suc i) = fresh_node n i

pub fresh_leaf : (nodes : List (Option ReadyThread)) → nodes ≡ replicate 128 None → (k : ℕ) → k < 64 → leaf nodes k ≡ None
fresh_leaf nodes is k small = ap (λ (s : List (Option ReadyThread)). leaf s k) is ∙ fresh_node 128 (64 + k)

pub fresh_tree : (nodes : List (Option ReadyThread)) → nodes ≡ replicate 128 None → IsTree nodes
fresh_tree nodes is i some few =
    let at : (j : ℕ) → node nodes j ≡ None = λ j. ap (λ (s : List (Option ReadyThread)). node s j) is ∙ fresh_node 128 j in
    at i ∙ (sym (ap (lower_of None) (at (2 * i + 1))) ∙ sym (ap (λ x. lower_of x (node nodes (2 * i + 1))) (at (2 * i))))
