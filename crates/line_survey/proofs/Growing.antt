-- The rows of the ways in which the line is left, state by state.
use Rattle.std.proofs.Common.{◌≡◌, ◌≤◌, ◌<◌, ◌+◌, ℕ, zero, suc, ◌⊎◌, inl, inr, Bool, true, false, Some, List, [], ◌∷◌, ◌++◌}
use Rattle.std.proofs.Common.{take, length, slice_get, slice_set, refl, ap, sym, subst, ◌∙◌, arith, ltb, nat_eq}
use Rattle.std.proofs.lemmas.Bool.Decides.{nat_tests}
use Rattle.std.proofs.lemmas.Option.{get_or_from_slice_get, slice_get_within}
use Rattle.irq_base.specs.declared.entries.Entry.{Entry}
use Rattle.irq_base.specs.declared.lines.LineDef.{LineDef}
use Rattle.device_table.proofs.Steps.{take_item}
use Rattle.line_wanted.specs.Left.{Leaves}
use Rattle.line_wanted.specs.declared.left.Left.{Left}
use Rattle.state_search.proofs.Places.{one_at, there, push_cases, at_old, at_seam}
use Rattle.line_survey.proofs.Lists.{set_cases, set_here, set_there, taken}
use Rattle.line_survey.proofs.OneLeft.{one_left}
use Rattle.line_survey.proofs.Counting.{one_more, no_more, none_pass, at_most}
use Rattle.line_survey.specs.Growing.{IsRowAt, IsNoted, AreRestsTo}
use Rattle.line_survey.specs.Rests.{IsStill, LeavesAt, RestsAt, MovesAt, IsFirstAt}
use Rattle.line_survey.specs.Seen.{depth_at}
use Rattle.line_survey.specs.Surveyed.{AreSoMany}
use Rattle.line_survey.specs.declared.survey.RestRow.{RestRow}

module _ (def : LineDef) (paths : List (List Entry)) (n : ℕ) (p : List Entry) (here : slice_get paths n ≡ Some p) where
  split : (j : ℕ) → j < n + 1 → (j < n) ⊎ (j ≡ n)
  split j lt = by_less (ltb j n) refl
    where
      by_less : (b : Bool) → ltb j n ≡ b → (j < n) ⊎ (j ≡ n)
      by_less true less = let l : j < n = grind (arith, nat_tests) in inl l
      by_less false more = let g : n ≤ j = grind (arith, nat_tests) in inr (omega (arith, g, lt))

  -- the past at this place leaves the line so
  leaves_here : (left : Left) (j : ℕ) → j ≡ n → LeavesAt def paths left j → Leaves def left p
  leaves_here left j same at =
      let there : slice_get paths n ≡ Some at.0 = subst (λ (k : ℕ). slice_get paths k ≡ Some at.0) same at.1 in
      subst (Leaves def left) (one_at paths n at.0 p there here) at.2

  one_longer : take (n + 1) paths ≡ take n paths ++ p ∷ []
  one_longer = take_item paths n p here

  -- a state in which something is due changes nothing
  module _ (moves : IsStill def p → ⊥) (rows : List RestRow) (before : AreRestsTo def paths n rows) where
    pub not_at_rest : AreRestsTo def paths (n + 1) rows
    not_at_rest = record {
      each = λ k r is. let x = before.each k r is in (x.0, omega (arith, x.1), x.2, x.3);
      states = λ k r is.
          subst
          (λ (ps : List (List Entry)). AreSoMany (Leaves def r.left) ps r.states)
          (sym one_longer)
          (no_more (Leaves def r.left) (take n paths) r.states p (λ leaves. moves leaves.still) (before.states k r is));
      all = λ j left lt at. old_place j left at (split j lt);
      once = before.once;
      rising = before.rising;
    }
      where
        old_place : (j : ℕ) (left : Left) → LeavesAt def paths left j → (j < n) ⊎ (j ≡ n) → (k : ℕ) × (r : RestRow) × IsRowAt rows left k r
        old_place j left at (inl lt) = before.all j left lt at
        old_place j left at (inr same) = absurd (moves (leaves_here left j same at).still)

  -- a state in which nothing is due is counted
  module _ (left : Left) (mine : Leaves def left p) (len : ℕ) (len_is : len ≡ depth_at paths n)
      (rows : List RestRow) (before : AreRestsTo def paths n rows) where
    mine_at : LeavesAt def paths left n
    mine_at = (p, here, mine)

    same_way : (other : Left) → Leaves def other p → left ≡ other
    same_way other leaves = one_left def p left other mine leaves

    counts : (other : Left) (m : ℕ) → AreSoMany (Leaves def other) (take n paths ++ p ∷ []) m → AreSoMany (Leaves def other) (take (n + 1) paths) m
    counts other m many = subst (λ (ps : List (List Entry)). AreSoMany (Leaves def other) ps m) (sym one_longer) many

    -- its way has a row, which counts it
    module _ (k : ℕ) (r : RestRow) (at : slice_get rows k ≡ Some r) (own : r.left ≡ left) where
      abbrev again : RestRow
      again = record r { states = r.states + 1 }

      abbrev counted : List RestRow
      counted = slice_set rows k again

      -- a row after it has the way and the length of the row before it
      record Was (j : ℕ) (a : RestRow) : Type 0 where
        old : RestRow
        there : slice_get rows j ≡ Some old
        left_same : old.left ≡ a.left
        len_same : old.len ≡ a.len
        many : AreSoMany (Leaves def a.left) (take (n + 1) paths) a.states

      was : (j : ℕ) (a : RestRow) → slice_get counted j ≡ Some a → Was j a
      was j a is = by_place (ltb j k) refl (ltb k j) refl
        where
          same_place : j ≡ k → Was j a
          same_place same =
              let here_is : again ≡ a = one_at counted k again a (set_here rows k r again at) (subst (λ (i : ℕ). slice_get counted i ≡ Some a) same is) in
              record {
                old = r;
                there = subst (λ (i : ℕ). slice_get rows i ≡ Some r) (sym same) at;
                left_same = ap (λ (x : RestRow). x.left) here_is;
                len_same = ap (λ (x : RestRow). x.len) here_is;
                many = subst (λ (x : RestRow). AreSoMany (Leaves def x.left) (take (n + 1) paths) x.states) here_is
                    (counts r.left (r.states + 1)
                    (one_more (Leaves def r.left) (take n paths) r.states p (subst (λ (x : Left). Leaves def x p) (sym own) mine) (before.states k r at)));
              }

          other_place : (j ≡ k → ⊥) → slice_get rows j ≡ Some a → Was j a
          other_place other there = record {
            old = a;
            there = there;
            left_same = refl;
            len_same = refl;
            many = counts a.left a.states (no_more (Leaves def a.left) (take n paths) a.states p
                (λ leaves. other (before.once j k a r there at (sym (own ∙ same_way a.left leaves)))) (before.states j a there));
          }

          not_there : (j ≡ k → ⊥) → ((j ≡ k) × (again ≡ a)) ⊎ (slice_get rows j ≡ Some a) → Was j a
          not_there other (inl same) = absurd (other same.0)
          not_there other (inr there) = other_place other there

          by_place : (b : Bool) → ltb j k ≡ b → (d : Bool) → ltb k j ≡ d → Was j a
          by_place true less d e = let l : j < k = grind (arith, nat_tests) in
              not_there (λ same. absurd (omega (arith, l, same))) (set_cases rows k again a j is)
          by_place false more true less = let l : k < j = grind (arith, nat_tests) in
              not_there (λ same. absurd (omega (arith, l, same))) (set_cases rows k again a j is)
          by_place false more false less = let same : j ≡ k = grind (arith, nat_tests) in same_place same

      -- each row is still there
      still : (j : ℕ) (a : RestRow) → slice_get rows j ≡ Some a → (x : RestRow) × (slice_get counted j ≡ Some x) × (x.left ≡ a.left)
      still j a is = by_place (nat_eq j k) refl
        where
          by_place : (b : Bool) → nat_eq j k ≡ b → (x : RestRow) × (slice_get counted j ≡ Some x) × (x.left ≡ a.left)
          by_place true same =
              let e : j ≡ k = grind (arith, nat_tests) in
              let one : r ≡ a = one_at rows k r a at (subst (λ (i : ℕ). slice_get rows i ≡ Some a) e is) in
              (again, subst (λ (i : ℕ). slice_get counted i ≡ Some again) (sym e) (set_here rows k r again at), ap (λ (x : RestRow). x.left) one)
          by_place false differ =
              let other : j ≡ k → ⊥ = λ same. grind (arith, nat_tests) in
              (a, set_there rows k j a again other is, refl)

      pub again_counted : AreRestsTo def paths (n + 1) counted
      again_counted = record {
        each = λ j a is.
            let w = was j a is in
            let x = before.each j w.old w.there in
            (x.0, omega (arith, x.1), subst (λ (l : Left). IsFirstAt def paths l x.0) w.left_same x.2, sym w.len_same ∙ x.3);
        states = λ j a is. (was j a is).many;
        all = λ j other lt leaves. has_row j other leaves (split j lt);
        once = λ i j a b ia jb same.
            let v = was i a ia in
            let w = was j b jb in
            before.once i j v.old w.old v.there w.there (v.left_same ∙ (same ∙ sym w.left_same));
        rising = λ i j a b le ia jb.
            let v = was i a ia in
            let w = was j b jb in
            omega (arith, before.rising i j v.old w.old le v.there w.there, v.len_same, w.len_same);
      }
        where
          has_row : (j : ℕ) (other : Left) → LeavesAt def paths other j → (j < n) ⊎ (j ≡ n) → (i : ℕ) × (a : RestRow) × IsRowAt counted other i a
          has_row j other leaves (inl lt) =
              let x = before.all j other lt leaves in
              let y = still x.0 x.1 x.2.0 in
              (x.0, y.0, (y.1, y.2 ∙ x.2.1))
          has_row j other leaves (inr same) =
              let y = still k r at in
              (k, y.0, (y.1, y.2 ∙ (own ∙ same_way other (leaves_here other j same leaves))))

    -- its way has no row yet
    module _ (new : (k : ℕ) (r : RestRow) → slice_get rows k ≡ Some r → r.left ≡ left → ⊥)
        (rises : (k : ℕ) (r : RestRow) → slice_get rows k ≡ Some r → r.len ≤ len) where
      abbrev first : RestRow
      first = record { left = left; len = len; states = 1 }

      abbrev more : List RestRow
      more = rows ++ first ∷ []

      none_before : (j : ℕ) → j < n → LeavesAt def paths left j → ⊥
      none_before j lt leaves = let x = before.all j left lt leaves in new x.0 x.1 x.2.0 x.2.1

      first_at : IsFirstAt def paths left n
      first_at = record { there = mine_at; first = none_before }

      one_state : AreSoMany (Leaves def left) (take (n + 1) paths) 1
      one_state = counts left 1 (one_more (Leaves def left) (take n paths) 0 p mine
          (none_pass (Leaves def left) (take n paths) (λ k q is leaves. let t = taken n paths k q is in none_before k t.0 (q, t.1, leaves))))

      differs : (a : RestRow) (k : ℕ) → slice_get rows k ≡ Some a → Leaves def a.left p → ⊥
      differs a k is leaves = new k a is (sym (same_way a.left leaves))

      pub first_counted : AreRestsTo def paths (n + 1) more
      first_counted = record {
        each = λ k a is. each_by k a (push_cases rows first a k is);
        states = λ k a is. states_by k a (push_cases rows first a k is);
        all = λ j other lt leaves. has_row j other leaves (split j lt);
        once = λ i j a b ia jb same. once_by i j a b same (push_cases rows first a i ia) (push_cases rows first b j jb);
        rising = λ i j a b le ia jb. rising_by i j a b le (push_cases rows first a i ia) (push_cases rows first b j jb);
      }
        where
          each_by : (k : ℕ) (a : RestRow) → (slice_get rows k ≡ Some a) ⊎ ((k ≡ length rows) × (first ≡ a))
              → (j : ℕ) × (j < n + 1) × IsFirstAt def paths a.left j × (a.len ≡ depth_at paths j)
          each_by k a (inl old) = let x = before.each k a old in (x.0, omega (arith, x.1), x.2, x.3)
          each_by k a (inr last) =
              subst (λ (x : RestRow). (j : ℕ) × (j < n + 1) × IsFirstAt def paths x.left j × (x.len ≡ depth_at paths j)) last.1
              (n, omega arith, first_at, len_is)

          states_by : (k : ℕ) (a : RestRow) → (slice_get rows k ≡ Some a) ⊎ ((k ≡ length rows) × (first ≡ a))
              → AreSoMany (Leaves def a.left) (take (n + 1) paths) a.states
          states_by k a (inl old) = counts a.left a.states (no_more (Leaves def a.left) (take n paths) a.states p (differs a k old) (before.states k a old))
          states_by k a (inr last) = subst (λ (x : RestRow). AreSoMany (Leaves def x.left) (take (n + 1) paths) x.states) last.1 one_state

          has_row : (j : ℕ) (other : Left) → LeavesAt def paths other j → (j < n) ⊎ (j ≡ n) → (i : ℕ) × (a : RestRow) × IsRowAt more other i a
          has_row j other leaves (inl lt) = let x = before.all j other lt leaves in (x.0, x.1, (at_old rows (first ∷ []) x.0 x.1 x.2.0, x.2.1))
          has_row j other leaves (inr same) = (length rows, first, (at_seam rows first [], same_way other (leaves_here other j same leaves)))

          once_by : (i j : ℕ) (a b : RestRow) → a.left ≡ b.left → (slice_get rows i ≡ Some a) ⊎ ((i ≡ length rows) × (first ≡ a))
              → (slice_get rows j ≡ Some b) ⊎ ((j ≡ length rows) × (first ≡ b)) → i ≡ j
          once_by i j a b same (inl x) (inl y) = before.once i j a b x y same
          once_by i j a b same (inl x) (inr y) = absurd (new i a x (same ∙ sym (ap (λ (r : RestRow). r.left) y.1)))
          once_by i j a b same (inr x) (inl y) = absurd (new j b y (sym same ∙ sym (ap (λ (r : RestRow). r.left) x.1)))
          once_by i j a b same (inr x) (inr y) = x.0 ∙ sym y.0

          rising_by : (i j : ℕ) (a b : RestRow) → i ≤ j → (slice_get rows i ≡ Some a) ⊎ ((i ≡ length rows) × (first ≡ a))
              → (slice_get rows j ≡ Some b) ⊎ ((j ≡ length rows) × (first ≡ b)) → a.len ≤ b.len
          rising_by i j a b le (inl x) (inl y) = before.rising i j a b le x y
          rising_by i j a b le (inl x) (inr y) = let same = ap (λ (r : RestRow). r.len) y.1 in omega (arith, rises i a x, same)
          rising_by i j a b le (inr x) (inl y) = absurd (omega (arith, le, x.0, slice_get_within rows j b y))
          rising_by i j a b le (inr x) (inr y) =
              let s = ap (λ (r : RestRow). r.len) x.1 in
              let t = ap (λ (r : RestRow). r.len) y.1 in omega (arith, s, t)

-- ---- a state more

take_short : {X : Type 0} (n : ℕ) (xs : List X) → length (take n xs) ≤ n
take_short zero xs = omega arith
take_short (suc n) [] = omega arith
take_short (suc n) (x ∷ xs) = omega (arith, take_short n xs)

module _ (def : LineDef) (paths : List (List Entry)) (n : ℕ) (within : n < length paths) where
  -- of states in which nothing is due alone
  abbrev Rests : List Entry → Type 0
  Rests p = IsStill def p

  pub rest_next : (m : ℕ) → RestsAt def paths n → AreSoMany Rests (take n paths) m → AreSoMany Rests (take (n + 1) paths) (m + 1)
  rest_next m rests many =
      let x = there paths n within in
      subst (λ (ps : List (List Entry)). AreSoMany Rests ps (m + 1)) (sym (take_item paths n x.0 x.1))
      (one_more Rests (take n paths) m x.0 (rests x.0 x.1) many)

  pub move_next : (m : ℕ) → MovesAt def paths n → AreSoMany Rests (take n paths) m → AreSoMany Rests (take (n + 1) paths) m
  move_next m moves many =
      let x = there paths n within in
      subst (λ (ps : List (List Entry)). AreSoMany Rests ps m) (sym (take_item paths n x.0 x.1))
      (no_more Rests (take n paths) m x.0 (moves x.0 x.1) many)

  -- of rows
  pub row_small : (rows : List RestRow) → AreRestsTo def paths n rows → (k : ℕ) (r : RestRow) → slice_get rows k ≡ Some r → r.states ≤ n
  row_small rows are k r is =
      omega (arith, at_most (Leaves def r.left) (take n paths) r.states (are.states k r is), take_short n paths)

  pub rows_stay : (rows : List RestRow) → MovesAt def paths n → AreRestsTo def paths n rows → AreRestsTo def paths (n + 1) rows
  rows_stay rows moves are = let x = there paths n within in not_at_rest def paths n x.0 x.1 (moves x.0 x.1) rows are

  module _ (rising : (j k : ℕ) (p q : List Entry) → j ≤ k → slice_get paths j ≡ Some p → slice_get paths k ≡ Some q → length p ≤ length q) where
    pub rows_count : (rows new : List RestRow) (left : Left) (len : ℕ) → RestsAt def paths n
        → ((p : List Entry) → slice_get paths n ≡ Some p → IsStill def p → Leaves def left p) → len ≡ depth_at paths n
        → AreRestsTo def paths n rows → IsNoted left len rows new → AreRestsTo def paths (n + 1) new
    rows_count rows new left len rests leaves len_is are noted = by_case noted
      where
        p : List Entry
        p = (there paths n within).0

        here : slice_get paths n ≡ Some p
        here = (there paths n within).1

        long : len ≡ length p
        long = len_is ∙ ap length (get_or_from_slice_get paths n p [] here)

        rises : (k : ℕ) (r : RestRow) → slice_get rows k ≡ Some r → r.len ≤ len
        rises k r is =
            let x = are.each k r is in
            let q = x.2.there in
            let r_long : r.len ≡ length q.0 = x.3 ∙ ap length (get_or_from_slice_get paths x.0 q.0 [] q.1) in
            omega (arith, rising x.0 n q.0 p (omega (arith, x.1)) q.1 here, r_long, long)

        by_case : IsNoted left len rows new → AreRestsTo def paths (n + 1) new
        by_case (inl old) =
            subst (AreRestsTo def paths (n + 1)) (sym old.3)
            (again_counted def paths n p here left (leaves p here (rests p here)) len len_is rows are old.0 old.1 old.2.0 old.2.1)
        by_case (inr first) =
            subst (AreRestsTo def paths (n + 1)) (sym first.1)
            (first_counted def paths n p here left (leaves p here (rests p here)) len len_is rows are first.0 rises)
