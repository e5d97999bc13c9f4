-- The log, with its marks, when a move is added, when a mark is set, and when it is walked.
use Rattle.std.proofs.Common.{◌≡◌, ℕ, ◌+◌, ◌<◌, ◌≤◌, ◌==◌, Bool, true, false, cond, IfSome, Option, Some}
use Rattle.std.proofs.Common.{None, List, [], ◌∷◌, ◌++◌, length, drop, slice_get, refl, sym, ap, ap₂, ◌∙◌}
use Rattle.std.proofs.Common.{subst, arith}
use Rattle.std.proofs.lemmas.Bool.Decides.{nat_tests}
use Rattle.std.proofs.lemmas.List.{append-nil, append_assoc}
use Rattle.irq_laws.proofs.Chosen.{the_same}
use Rattle.board_play.specs.Lines.{Move}
use Rattle.irq_sleeper.specs.Seen.{asleep_at, wake_at, marks_at, marked}
use Rattle.irq_pm.specs.declared.entries.SleepEntry.{SleepEntry}
use Rattle.irq_pm.specs.declared.entries.SleepEntry.TheVariants as sleeps
use Rattle.irq_sleeper.specs.declared.marks.WakeMark.{WakeMark}
use Rattle.irq_pm.proofs.Order.{step_of}

abbrev pub IsWithin : Option ℕ → ℕ → Type 0
IsWithin asleep n = IfSome asleep (λ k. k ≤ n)

abbrev pub IsWakeWithin : Option WakeMark → ℕ → Type 0
IsWakeWithin wake n = IfSome wake (λ w. w.at ≤ n)

differ : (k n : ℕ) → k < n → (k == n) ≡ false
differ k n h = grind (arith, nat_tests)

equal : (n : ℕ) → (n == n) ≡ true
equal n = grind (arith, nat_tests)

same : (k n : ℕ) → (k == n) ≡ true → k ≡ n
same k n h = grind (arith, nat_tests)

-- no mark stands behind the end
none_asleep : (asleep : Option ℕ) (n m : ℕ) → IsWithin asleep n → n < m → asleep_at asleep m ≡ []
none_asleep None n m within less = refl
none_asleep (Some k) n m within less = let le : k ≤ n = within in ap (λ (b : Bool). cond b (sleeps.Asleep ∷ []) []) (differ k m (omega (arith, le, less)))

none_awake : (wake : Option WakeMark) (n m : ℕ) → IsWakeWithin wake n → n < m → wake_at wake m ≡ []
none_awake None n m within less = refl
none_awake (Some w) n m within less = let le : w.at ≤ n = within in
    ap (λ (b : Bool). cond b (sleeps.Wake w.line ∷ []) []) (differ w.at m (omega (arith, le, less)))

none_at : (asleep : Option ℕ) (wake : Option WakeMark) (n m : ℕ) → IsWithin asleep n → IsWakeWithin wake n → n < m → marks_at asleep wake m ≡ []
none_at asleep wake n m a w less = ap₂ (λ (x y : List SleepEntry). x ++ y) (none_asleep asleep n m a less) (none_awake wake n m w less)

-- one more move
pub marked_more : (asleep : Option ℕ) (wake : Option WakeMark) (n : ℕ) (g : List Move) (m : Move)
    → IsWithin asleep (n + length g) → IsWakeWithin wake (n + length g)
    → marked asleep wake n (g ++ m ∷ []) ≡ marked asleep wake n g ++ step_of m ∷ []
marked_more asleep wake n [] m a w =
    ap (λ (rest : List SleepEntry). marks_at asleep wake n ++ step_of m ∷ rest)
    (none_at asleep wake n (n + 1) (subst (λ (k : ℕ). IsWithin asleep k) (omega arith) a)
    (subst (λ (k : ℕ). IsWakeWithin wake k) (omega arith) w) (omega arith))
marked_more asleep wake n (x ∷ g) m a w =
    let longer : n + length (x ∷ g) ≡ n + 1 + length g = omega arith in
    ap (λ (rest : List SleepEntry). marks_at asleep wake n ++ step_of x ∷ rest)
    (marked_more asleep wake (n + 1) g m (subst (λ (k : ℕ). IsWithin asleep k) longer a) (subst (λ (k : ℕ). IsWakeWithin wake k) longer w))
    ∙ sym (append_assoc (marks_at asleep wake n) (step_of x ∷ marked asleep wake (n + 1) g) (step_of m ∷ []))

-- a mark at the end
pub asleep_set : (n k : ℕ) (g : List Move) → k ≡ n + length g → marked (Some k) None n g ≡ marked None None n g ++ sleeps.Asleep ∷ []
asleep_set n k [] is = ap (λ (b : Bool). cond b (sleeps.Asleep ∷ []) [] ++ []) (ap (λ (j : ℕ). j == n) (is ∙ omega arith) ∙ equal n)
asleep_set n k (m ∷ g) is =
    let later : (k == n) ≡ false = below k n (omega (arith, is)) in
    ap (λ (b : Bool). (cond b (sleeps.Asleep ∷ []) [] ++ []) ++ step_of m ∷ marked (Some k) None (n + 1) g) later
    ∙ ap (λ (rest : List SleepEntry). step_of m ∷ rest) (asleep_set (n + 1) k g (omega (arith, is)))
  where
    below : (k n : ℕ) → n < k → (k == n) ≡ false
    below k n h = grind (arith, nat_tests)

pub wake_set : (asleep : Option ℕ) (n : ℕ) (w : WakeMark) (g : List Move) → w.at ≡ n + length g
    → marked asleep (Some w) n g ≡ marked asleep None n g ++ sleeps.Wake w.line ∷ []
wake_set asleep n w [] is =
    ap (λ (b : Bool). asleep_at asleep n ++ cond b (sleeps.Wake w.line ∷ []) []) (ap (λ (j : ℕ). j == n) (is ∙ omega arith) ∙ equal n)
    ∙ ap (λ (x : List SleepEntry). x ++ sleeps.Wake w.line ∷ []) (sym (append-nil (asleep_at asleep n)))
wake_set asleep n w (m ∷ g) is =
    let later : (w.at == n) ≡ false = below w.at n (omega (arith, is)) in
    ap (λ (b : Bool). (asleep_at asleep n ++ cond b (sleeps.Wake w.line ∷ []) []) ++ step_of m ∷ marked asleep (Some w) (n + 1) g) later
    ∙ (ap (λ (rest : List SleepEntry). (asleep_at asleep n ++ []) ++ step_of m ∷ rest) (wake_set asleep (n + 1) w g (omega (arith, is)))
    ∙ sym (append_assoc (asleep_at asleep n ++ []) (step_of m ∷ marked asleep None (n + 1) g) (sleeps.Wake w.line ∷ [])))
  where
    below : (k n : ℕ) → n < k → (k == n) ≡ false
    below k n h = grind (arith, nat_tests)

-- ---- from the front

after_marks : (asleep asleep_left : Option ℕ) (wake wake_left : Option WakeMark) (n : ℕ) (g : List Move)
    (first : List SleepEntry) → marks_at asleep wake n ≡ first ++ marks_at asleep_left wake_left n
    → ((k : ℕ) → n < k → marks_at asleep wake k ≡ marks_at asleep_left wake_left k) → marked asleep wake n g ≡ first ++ marked asleep_left wake_left n g
after_marks asleep asleep_left wake wake_left n [] first here later = here
after_marks asleep asleep_left wake wake_left n (m ∷ g) first here later =
    ap₂ (λ (x y : List SleepEntry). x ++ step_of m ∷ y) here (same_from (n + 1) g (λ k le. later k (omega (arith, le))))
    ∙ append_assoc first (marks_at asleep_left wake_left n) (step_of m ∷ marked asleep_left wake_left (n + 1) g)
  where
    same_from : (j : ℕ) (g : List Move) → ((k : ℕ) → j ≤ k → marks_at asleep wake k ≡ marks_at asleep_left wake_left k)
        → marked asleep wake j g ≡ marked asleep_left wake_left j g
    same_from j [] later = later j (omega arith)
    same_from j (m ∷ g) later =
        ap₂ (λ (x y : List SleepEntry). x ++ step_of m ∷ y) (later j (omega arith)) (same_from (j + 1) g (λ k le. later k (omega (arith, le))))

pub asleep_first : (k n : ℕ) (wake : Option WakeMark) (g : List Move) → (k == n) ≡ true → marked (Some k) wake n g ≡ sleeps.Asleep ∷ marked None wake n g
asleep_first k n wake g here =
    after_marks (Some k) None wake wake n g (sleeps.Asleep ∷ []) (ap (λ (b : Bool). cond b (sleeps.Asleep ∷ []) [] ++ wake_at wake n) here)
    (λ j less. ap (λ (b : Bool). cond b (sleeps.Asleep ∷ []) [] ++ wake_at wake j) (differ k j (let e = same k n here in omega (arith, e, less))))

pub wake_first : (asleep : Option ℕ) (w : WakeMark) (n : ℕ) (g : List Move) → asleep_at asleep n ≡ []
    → (w.at == n) ≡ true → marked asleep (Some w) n g ≡ sleeps.Wake w.line ∷ marked asleep None n g
wake_first asleep w n g none here =
    after_marks asleep asleep (Some w) None n g (sleeps.Wake w.line ∷ [])
    (ap₂ (λ (x : List SleepEntry) (b : Bool). x ++ cond b (sleeps.Wake w.line ∷ []) []) none here
    ∙ ap (λ (x : List SleepEntry). sleeps.Wake w.line ∷ (x ++ [])) (sym none))
    (λ j less. ap (λ (b : Bool). asleep_at asleep j ++ cond b (sleeps.Wake w.line ∷ []) [])
    (differ w.at j (let e = same w.at n here in omega (arith, e, less))))

pub move_first : (asleep : Option ℕ) (wake : Option WakeMark) (n : ℕ) (g : List Move) → asleep_at asleep n ≡ []
    → wake_at wake n ≡ [] → (m : Move) → slice_get g 0 ≡ Some m
    → marked asleep wake n g ≡ step_of m ∷ marked asleep wake (n + 1) (drop 1 g)
move_first asleep wake n [] a w m at = cc
move_first asleep wake n (x ∷ g) a w m at =
    ap₂ (λ (x y : List SleepEntry). x ++ y) (ap₂ (λ (x y : List SleepEntry). x ++ y) a w)
    (ap (λ (x : Move). step_of x ∷ marked asleep wake (n + 1) g) (the_same x m at))

pub none_first : (asleep : Option ℕ) (wake : Option WakeMark) (n : ℕ) (g : List Move) → asleep_at asleep n ≡ []
    → wake_at wake n ≡ [] → slice_get g 0 ≡ None → marked asleep wake n g ≡ []
none_first asleep wake n [] a w at = ap₂ (λ (x y : List SleepEntry). x ++ y) a w
none_first asleep wake n (x ∷ g) a w at = cc

-- ---- what a walk finds

is_equal : (k n : ℕ) → k ≡ n → (k == n) ≡ true
is_equal k n h = ap (λ (j : ℕ). j == n) h ∙ equal n

pub found_asleep : (asleep : Option ℕ) (wake : Option WakeMark) (n k : ℕ) (g : List Move) (view : List SleepEntry)
    → asleep ≡ Some k → k ≡ n → marked asleep wake n g ≡ view → view ≡ sleeps.Asleep ∷ marked None wake n g
found_asleep asleep wake n k g view is here seen = sym seen ∙ (ap (λ (o : Option ℕ). marked o wake n g) is ∙ asleep_first k n wake g (is_equal k n here))

pub found_wake : (asleep : Option ℕ) (wake : Option WakeMark) (w : WakeMark) (n : ℕ) (g : List Move)
    (view : List SleepEntry) → wake ≡ Some w → asleep_at asleep n ≡ [] → w.at ≡ n → marked asleep wake n g ≡ view
    → view ≡ sleeps.Wake w.line ∷ marked asleep None n g
found_wake asleep wake w n g view is none here seen = sym seen
    ∙ (ap (λ (o : Option WakeMark). marked asleep o n g) is ∙ wake_first asleep w n g none (is_equal w.at n here))

pub not_here : (asleep : Option ℕ) (k n : ℕ) → asleep ≡ Some k → (k ≡ n → ⊥) → asleep_at asleep n ≡ []
not_here asleep k n is other = ap (λ (o : Option ℕ). asleep_at o n) is ∙ ap (λ (b : Bool). cond b (sleeps.Asleep ∷ []) []) (by_test (k == n) refl)
  where
    by_test : (b : Bool) → (k == n) ≡ b → (k == n) ≡ false
    by_test true same_number = absurd (other (same k n same_number))
    by_test false differs = differs

pub no_mark : (asleep : Option ℕ) (n : ℕ) → ((k : ℕ) → asleep ≡ Some k → ⊥) → asleep_at asleep n ≡ []
no_mark None n none = refl
no_mark (Some k) n none = absurd (none k refl)

pub first_of : (view rest : List SleepEntry) (e : SleepEntry) → view ≡ e ∷ rest → Some e ≡ slice_get view 0
first_of view rest e is = sym (ap (λ (v : List SleepEntry). slice_get v 0) is)

pub rest_of : (view rest : List SleepEntry) (e : SleepEntry) → view ≡ e ∷ rest → rest ≡ drop 1 view
rest_of view rest e is = sym (ap (λ (v : List SleepEntry). drop 1 v) is)
