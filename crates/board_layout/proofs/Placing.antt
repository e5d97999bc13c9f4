-- An allocation after the allocations for the lines before it gives the line's placement in the
-- layout.
use Rattle.std.proofs.Common.{◌≡◌, ◌≢◌, ℕ, zero, suc, ◌+◌, ◌<◌, ◌≤◌, Bool, true, false, cond, ◌||◌, ◌==◌, is_none}
use Rattle.std.proofs.Common.{Option, Some, List, [], ◌∷◌, ◌++◌, append_assoc, drop, length, refl, sym, ap, subst, ◌∙◌}
use Rattle.std.proofs.Common.{eqb-true, arith}
use Rattle.std.specs.List.{slice_get, list_any}
use Rattle.std.proofs.lemmas.Bool.{false≢true, eqb-false}
use Rattle.irq_base.specs.declared.domains.DomainDef.{DomainDef}
use Rattle.domain_maps.specs.Numbers.{is_on}
use Rattle.domain_rules.specs.Domains.{EachAfter, IsDomainAfter}
use Rattle.domain_rules.specs.Layout.{placement_of, path_of, is_used, lowest_unused, unused_from, is_past_path, is_mapped, count_of_mapped, layout_after}
use Rattle.domain_maps.proofs.Levels.{drop_at}
use Rattle.domain_rules.specs.Levels.{masking_kind}
use Rattle.domain_rules.specs.Paths.{most_levels, way, parent_in, kinds_from}
use Rattle.domain_rules.specs.declared.layouts.Placement.{Placement}
use Rattle.domain_rules.specs.declared.layouts.Placement.TheVariants as placements
use Rattle.domain_rules.specs.declared.layouts.Unmapped.TheVariants as reasons
use Rattle.domain_hier.specs.Hierarchies.{HierarchySeen, alloc_answer, answer_by}
use Rattle.domain_hier.specs.PathsInUse.{path_in, placed, first_free, lowest_virq, in_use, in_use_from, lowest_levels}
use Rattle.domain_hier.specs.declared.answers.AllocAnswer.{AllocAnswer}
use Rattle.domain_hier.specs.declared.answers.AllocAnswer.TheVariants as allocs
use Rattle.domain_hier.proofs.Counting.{OneEach, lowest_is, lowest_is_unused}
use Rattle.domain_hier.proofs.Keeps.{places_of_path, virq_taken}
use Rattle.domain_hier.proofs.Ways.{Falls, places, one_number, way_falls}
use Rattle.board_layout.specs.Laid.{paths_of, AllFall}

-- ---- the paths in use are the paths of the layout

used_same : (n d k : ℕ) (earlier : List Placement) → is_used (in_use_from n (paths_of earlier)) d k ≡ is_used earlier d k
used_same n d k [] = refl
used_same n d k (placements.Mapped virq path ∷ earlier) = ap (λ b. is_on path d k || b) (used_same (n + 1) d k earlier)
used_same n d k (placements.Refused why ∷ earlier) = used_same n d k earlier

one_earlier : (d : ℕ) (earlier : List Placement) → AllFall earlier → OneEach d earlier
one_earlier d [] falls = tt
one_earlier d (placements.Mapped virq path ∷ earlier) falls = ((λ j k a b. one_number d j k path falls.0 a b), one_earlier d earlier falls.1)
one_earlier d (placements.Refused why ∷ earlier) falls = ((λ j k a b. absurd (false≢true a)), one_earlier d earlier falls)

one_in_use : (n d : ℕ) (earlier : List Placement) → AllFall earlier → OneEach d (in_use_from n (paths_of earlier))
one_in_use n d [] falls = tt
one_in_use n d (placements.Mapped virq path ∷ earlier) falls = ((λ j k a b. one_number d j k path falls.0 a b), one_in_use (n + 1) d earlier falls.1)
one_in_use n d (placements.Refused why ∷ earlier) falls = one_in_use n d earlier falls

passed_used : (left k d : ℕ) (earlier : List Placement) → ((j : ℕ) → j < k → is_used earlier d j ≡ true) → (j : ℕ)
    → j < unused_from left k earlier d → is_used earlier d j ≡ true
passed_used zero k d earlier all j below = all j below
passed_used (suc left) k d earlier all j below = by (is_used earlier d k) refl below (λ more. passed_used left (k + 1) d earlier more j)
  where
    up_to : is_used earlier d k ≡ true → (i : ℕ) → i < k + 1 → is_used earlier d i ≡ true
    up_to here i lower = at (i == k) refl
      where
        at : (t : Bool) → (i == k) ≡ t → is_used earlier d i ≡ true
        at true e = ap (is_used earlier d) (eqb-true i k e) ∙ here
        at false e = let other : i ≢ k = eqb-false i k e in all i (omega (arith, lower, other))

    by : (b : Bool) → is_used earlier d k ≡ b → j < cond b (unused_from left (k + 1) earlier d) k
        → (((i : ℕ) → i < k + 1 → is_used earlier d i ≡ true) → j < unused_from left (k + 1) earlier d
        → is_used earlier d j ≡ true) → is_used earlier d j ≡ true
    by true is lower rest = rest (up_to is) lower
    by false is lower rest = all j lower

lowest_same : (d : ℕ) (earlier : List Placement) → AllFall earlier → lowest_unused (in_use (paths_of earlier)) d ≡ lowest_unused earlier d
lowest_same d earlier falls =
    lowest_is (lowest_unused earlier d) d (in_use (paths_of earlier)) (one_in_use 1 d earlier falls)
    (λ j below. used_same 1 d j earlier ∙ passed_used (length earlier) 0 d earlier (λ i none. absurd (omega (arith, none))) j below)
    (used_same 1 d (lowest_unused earlier d) earlier ∙ lowest_is_unused d earlier (one_earlier d earlier falls))

levels_same : (earlier : List Placement) (ps : List ℕ) → AllFall earlier → lowest_levels (in_use (paths_of earlier)) ps ≡ lowest_levels earlier ps
levels_same earlier [] falls = refl
levels_same earlier (p ∷ ps) falls =
    ap (λ n. (p, n) ∷ lowest_levels (in_use (paths_of earlier)) ps) (lowest_same p earlier falls)
    ∙ ap (λ ls. (p, lowest_unused earlier p) ∷ ls) (levels_same earlier ps falls)

pub path_same : (domains : List DomainDef) (earlier : List Placement) (leaf : ℕ × ℕ) → AllFall earlier
    → path_of domains (in_use (paths_of earlier)) leaf ≡ path_of domains earlier leaf
path_same domains earlier leaf falls = ap (λ ls. leaf ∷ ls) (levels_same earlier (way 7 domains (parent_in (slice_get domains leaf.0))) falls)

-- ---- counts

count_same : (n : ℕ) (earlier : List Placement) → length (in_use_from n (paths_of earlier)) ≡ count_of_mapped earlier
count_same n [] = refl
count_same n (placements.Mapped virq path ∷ earlier) = omega (arith, count_same (n + 1) earlier)
count_same n (placements.Refused why ∷ earlier) = count_same n earlier

first_same : (earlier : List Placement) → first_free (paths_of earlier) ≡ count_of_mapped earlier
first_same [] = refl
first_same (placements.Mapped virq path ∷ earlier) = ap (λ n. n + 1) (first_same earlier)
first_same (placements.Refused why ∷ earlier) = first_same earlier

count_few : (earlier : List Placement) → count_of_mapped earlier ≤ length earlier
count_few [] = omega arith
count_few (placements.Mapped virq path ∷ earlier) = omega (arith, count_few earlier)
count_few (placements.Refused why ∷ earlier) = omega (arith, count_few earlier)

pub few_in_use : (earlier : List Placement) → length earlier ≤ 64 → length (in_use (paths_of earlier)) < 4294967295
few_in_use earlier few = omega (arith, few, count_same 1 earlier, count_few earlier)

-- ---- one more line

pub one_placed : (earlier : List Placement) (virq : ℕ) (path : List (ℕ × ℕ))
    → placed (paths_of earlier) path ≡ paths_of (earlier ++ placements.Mapped virq path ∷ [])
one_placed [] virq path = refl
one_placed (placements.Mapped v p ∷ earlier) virq path = ap (λ ps. Some p ∷ ps) (one_placed earlier virq path)
one_placed (placements.Refused why ∷ earlier) virq path = one_placed earlier virq path

pub one_refused : (earlier : List Placement) (p : Placement) → is_mapped p ≡ false → paths_of earlier ≡ paths_of (earlier ++ p ∷ [])
one_refused [] (placements.Refused why) e = refl
one_refused [] (placements.Mapped v path) e = absurd (false≢true (sym e))
one_refused (placements.Mapped v path ∷ earlier) p e = ap (λ ps. Some path ∷ ps) (one_refused earlier p e)
one_refused (placements.Refused why ∷ earlier) p e = one_refused earlier p e

pub falls_more : (earlier : List Placement) (p : Placement) → AllFall earlier → AllFall (p ∷ []) → AllFall (earlier ++ p ∷ [])
falls_more [] p falls last = last
falls_more (placements.Mapped v path ∷ earlier) p falls last = (falls.0, falls_more earlier p falls.1 last)
falls_more (placements.Refused why ∷ earlier) p falls last = falls_more earlier p falls last

abbrev pub place_by : Bool → Bool → Bool → ℕ → List (ℕ × ℕ) → Placement
place_by a b c n path = cond a (placements.Refused reasons.NoMask)
    (cond b (placements.Refused reasons.OutOfRange) (cond c (placements.Refused reasons.Taken)
    (placements.Mapped n path)))

falls_by : (a b c : Bool) (n : ℕ) (path : List (ℕ × ℕ)) → Falls (places path) → AllFall (place_by a b c n path ∷ [])
falls_by true b c n path falls = tt
falls_by false true c n path falls = tt
falls_by false false true n path falls = tt
falls_by false false false n path falls = (falls, tt)

-- a line's path has a domain once
pub placement_falls : (domains : List DomainDef) (earlier : List Placement) (leaf : ℕ × ℕ)
    → EachAfter IsDomainAfter domains → AllFall (placement_of domains earlier leaf ∷ [])
placement_falls domains earlier leaf each =
    falls_by (is_none (masking_kind (kinds_from domains (Some leaf.0))))
    (list_any (is_past_path domains) (path_of domains earlier leaf)) (is_used earlier leaf.0 leaf.1)
    (count_of_mapped earlier + 1) (path_of domains earlier leaf)
    (subst Falls (sym (places_of_path domains earlier leaf)) (way_falls domains each most_levels (Some leaf.0)))

-- ---- the answer

any_answer : (a b c : Bool) (m n v : ℕ) (p q : List (ℕ × ℕ)) → answer_by (place_by a b c m p) v ≡ answer_by (place_by a b c n q) v
any_answer true b c m n v p q = refl
any_answer false true c m n v p q = refl
any_answer false false true m n v p q = refl
any_answer false false false m n v p q = refl

pub answer_same : (domains : List DomainDef) (earlier : List Placement) (leaf : ℕ × ℕ) → AllFall earlier
    → alloc_answer (record { domains = domains; paths = paths_of earlier }) leaf ≡ answer_by (placement_of domains earlier leaf) (count_of_mapped earlier + 1)
answer_same domains earlier leaf falls =
    let own = paths_of earlier in
    let a = is_none (masking_kind (kinds_from domains (Some leaf.0))) in
    let same : path_of domains (in_use own) leaf ≡ path_of domains earlier leaf = path_same domains earlier leaf falls in
    let p = path_of domains (in_use own) leaf in
    let q = path_of domains earlier leaf in
    let m = count_of_mapped (in_use own) + 1 in
    let n = count_of_mapped earlier + 1 in
    ap (λ v. answer_by (place_by a (list_any (is_past_path domains) p) (is_used (in_use own) leaf.0 leaf.1) m p) v) (ap (λ x. x + 1) (first_same earlier))
    ∙ (any_answer a (list_any (is_past_path domains) p) (is_used (in_use own) leaf.0 leaf.1) m n n p q
    ∙ (ap (λ ls. answer_by (place_by a (list_any (is_past_path domains) ls) (is_used (in_use own) leaf.0 leaf.1) n q) n) same
    ∙ ap (λ b. answer_by (place_by a (list_any (is_past_path domains) q) b n q) n) (used_same 1 leaf.0 leaf.1 earlier)))

ok_by : (a b c : Bool) (n v w : ℕ) (p : List (ℕ × ℕ)) → allocs.Ok w ≡ answer_by (place_by a b c n p) v → (place_by a b c n p ≡ placements.Mapped n p) × (w ≡ v)
ok_by true b c n v w p e = absurd cc
ok_by false true c n v w p e = absurd cc
ok_by false false true n v w p e = absurd cc
ok_by false false false n v w p e = (refl, cc)

pub ok_is : (domains : List DomainDef) (earlier : List Placement) (leaf : ℕ × ℕ) (v w : ℕ) → allocs.Ok w ≡ answer_by (placement_of domains earlier leaf) v
    → (placement_of domains earlier leaf ≡ placements.Mapped (count_of_mapped earlier + 1) (path_of domains earlier leaf)) × (w ≡ v)
ok_is domains earlier leaf v w e =
    ok_by (is_none (masking_kind (kinds_from domains (Some leaf.0))))
    (list_any (is_past_path domains) (path_of domains earlier leaf)) (is_used earlier leaf.0 leaf.1)
    (count_of_mapped earlier + 1) v w (path_of domains earlier leaf) e

pub taken_is : (p : Placement) (v : ℕ) → allocs.Taken ≡ answer_by p v → placements.Refused reasons.Taken ≡ p
taken_is (placements.Refused reasons.Taken) v e = refl
taken_is (placements.Refused reasons.OutOfRange) v e = absurd cc
taken_is (placements.Refused reasons.NoMask) v e = absurd cc
taken_is (placements.Mapped n p) v e = absurd cc

pub out_is : (p : Placement) (v : ℕ) → allocs.OutOfRange ≡ answer_by p v → placements.Refused reasons.OutOfRange ≡ p
out_is (placements.Refused reasons.Taken) v e = absurd cc
out_is (placements.Refused reasons.OutOfRange) v e = refl
out_is (placements.Refused reasons.NoMask) v e = absurd cc
out_is (placements.Mapped n p) v e = absurd cc

pub mask_is : (p : Placement) (v : ℕ) → allocs.NoMask ≡ answer_by p v → placements.Refused reasons.NoMask ≡ p
mask_is (placements.Refused reasons.Taken) v e = absurd cc
mask_is (placements.Refused reasons.OutOfRange) v e = absurd cc
mask_is (placements.Refused reasons.NoMask) v e = refl
mask_is (placements.Mapped n p) v e = absurd cc

-- ---- one allocation

pub told : (h : HierarchySeen) (earlier : List Placement) (leaf : ℕ × ℕ) (answer : AllocAnswer)
    → h.paths ≡ paths_of earlier → AllFall earlier → answer ≡ alloc_answer h leaf
    → answer ≡ answer_by (placement_of h.domains earlier leaf) (count_of_mapped earlier + 1)
told h earlier leaf answer laid falls e = e ∙ (ap (λ ps. alloc_answer (record { domains = h.domains; paths = ps }) leaf)
    laid ∙ answer_same h.domains earlier leaf falls)

pub taken_path : (h : HierarchySeen) (earlier : List Placement) (leaf : ℕ × ℕ) (virq : ℕ)
    (after : List (Option (List (ℕ × ℕ)))) → h.paths ≡ paths_of earlier → AllFall earlier
    → allocs.Ok virq ≡ alloc_answer h leaf
    → after ≡ placed h.paths (path_of h.domains (in_use h.paths) leaf) → path_in after virq ≡ Some (path_of h.domains earlier leaf)
taken_path h earlier leaf virq after laid falls e is =
    let own = paths_of earlier in
    let due = ok_is h.domains earlier leaf (count_of_mapped earlier + 1) virq (told h earlier leaf (allocs.Ok virq) laid falls e) in
    let number : virq ≡ lowest_virq own = due.1 ∙ ap (λ n. n + 1) (sym (first_same earlier)) in
    let path : path_of h.domains (in_use h.paths) leaf
    ≡ path_of h.domains earlier leaf = ap (λ ps. path_of h.domains (in_use ps) leaf) laid
    ∙ path_same h.domains earlier leaf falls in
    ap (λ ps. path_in ps virq) (is ∙ (ap (λ ps. placed ps (path_of h.domains (in_use h.paths) leaf)) laid ∙ ap (placed own) path))
    ∙ (ap (path_in (placed own (path_of h.domains earlier leaf))) number ∙ virq_taken own (path_of h.domains earlier leaf))

pub taken_paths : (h : HierarchySeen) (earlier : List Placement) (leaf : ℕ × ℕ) (virq : ℕ)
    (after : List (Option (List (ℕ × ℕ)))) → h.paths ≡ paths_of earlier → AllFall earlier
    → after ≡ placed h.paths (path_of h.domains (in_use h.paths) leaf)
    → after ≡ paths_of (earlier ++ placements.Mapped virq (path_of h.domains earlier leaf) ∷ [])
taken_paths h earlier leaf virq after laid falls is =
    let path : path_of h.domains (in_use h.paths) leaf
    ≡ path_of h.domains earlier leaf = ap (λ ps. path_of h.domains (in_use ps) leaf) laid
    ∙ path_same h.domains earlier leaf falls in
    is ∙ (ap (λ ps. placed ps (path_of h.domains (in_use h.paths) leaf)) laid
    ∙ (ap (placed (paths_of earlier)) path ∙ one_placed earlier virq (path_of h.domains earlier leaf)))

pub mapped_is : (h : HierarchySeen) (earlier : List Placement) (leaf : ℕ × ℕ) (virq : ℕ) (path : List (ℕ × ℕ))
    → h.paths ≡ paths_of earlier → AllFall earlier → allocs.Ok virq ≡ alloc_answer h leaf
    → path ≡ path_of h.domains earlier leaf
    → placements.Mapped virq path ≡ placement_of h.domains earlier leaf
mapped_is h earlier leaf virq path laid falls e p =
    let due = ok_is h.domains earlier leaf (count_of_mapped earlier + 1) virq (told h earlier leaf (allocs.Ok virq) laid falls e) in
    ap (λ v. placements.Mapped v path) due.1 ∙ (ap (placements.Mapped (count_of_mapped earlier + 1)) p ∙ sym due.0)

pub is_the_path : (o : Option (List (ℕ × ℕ))) (p q : List (ℕ × ℕ)) → o ≡ Some p → o ≡ Some q → p ≡ q
is_the_path o p q a b = let both : Some p ≡ Some q = sym a ∙ b in cc

pub goes_on : (domains : List DomainDef) (earlier : List Placement) (leaves : List (ℕ × ℕ)) (i : ℕ) (leaf : ℕ × ℕ)
    (p : Placement) → p ≡ placement_of domains earlier leaf → slice_get leaves i ≡ Some leaf
    → (earlier ++ p ∷ []) ++ layout_after domains (earlier ++ p ∷ []) (drop (i + 1) leaves) ≡ earlier ++ layout_after domains earlier (drop i leaves)
goes_on domains earlier leaves i leaf p is at =
    ap (λ x. (earlier ++ x ∷ []) ++ layout_after domains (earlier ++ x ∷ []) (drop (i + 1) leaves)) is
    ∙ (append_assoc earlier (placement_of domains earlier leaf ∷ [])
    (layout_after domains (earlier ++ placement_of domains earlier leaf ∷ []) (drop (i + 1) leaves))
    ∙ ap (λ ls. earlier ++ layout_after domains earlier ls) (sym (drop_at leaves i leaf at)))
