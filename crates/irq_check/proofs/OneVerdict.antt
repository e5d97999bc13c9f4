-- One verdict holds of a board's histories, whatever room they have.
use Rattle.std.proofs.Common.{◌≡◌, ℕ, zero, suc, ◌+◌, ◌-◌, ◌<◌, ◌≤◌, Option, Some, None, List, [], ◌∷◌, ◌++◌, length}
use Rattle.std.proofs.Common.{take, drop, reverse, refl, sym, ap, subst, ◌∙◌, arith}
use Rattle.std.specs.List.{slice_get}
use Rattle.std.specs.Option.{option_map}
use Rattle.std.proofs.lemmas.List.{length-map, reverse-append, take-append-drop}
use Rattle.std.proofs.lemmas.Option.{same_Some, slice_get_within, slice_get-map}
use Rattle.irq_base.specs.Seen.{HistorySeen}
use Rattle.irq_base.specs.declared.domains.DomainDef.{DomainDef}
use Rattle.irq_base.specs.declared.entries.Entry.{Entry}
use Rattle.irq_base.specs.declared.lines.LineDef.{LineDef}
use Rattle.irq_base.specs.declared.numbers.LineNo.{LineNo}
use Rattle.irq_model.specs.Legal.{IsDue, IsLegal, IsLegalPast}
use Rattle.domain_rules.specs.Layout.{layout_after, placement_of}
use Rattle.domain_rules.specs.declared.layouts.Placement.{Placement}
use Rattle.domain_rules.specs.declared.layouts.Placement.TheVariants as placements
use Rattle.board_def.specs.Layout.{layout_of}
use Rattle.board_def.specs.Seen.{BoardSeen}
use Rattle.board_def.specs.Unnamed.{defs_of, leaf_of, leaves_of}
use Rattle.board_def.specs.declared.rows.LineRow.{LineRow}
use Rattle.log_check.specs.Judged.{IsFirstUndue}
use Rattle.log_check.specs.Verdicts.{IsVerdict, JudgedAt, JudgedLine}
use Rattle.log_check.specs.declared.verdict.Verdict.{Verdict}
use Rattle.log_check.specs.declared.verdict.Verdict.TheVariants as verdicts
use Rattle.log_read.specs.LogOf.{entries_of}
use Rattle.irq_check.proofs.OneLog.{get_take, neither_below}

-- ---- one line

take_suc : {X : Type 0} (xs : List X) (n : ℕ) (x : X) → slice_get xs n ≡ Some x → take (suc n) xs ≡ take n xs ++ x ∷ []
take_suc [] n x at = cc
take_suc (y ∷ ys) zero x at = ap (λ z. z ∷ []) (same_Some y x at)
take_suc (y ∷ ys) (suc n) x at = ap (λ zs. y ∷ zs) (take_suc ys n x at)

take_next : {X : Type 0} (xs : List X) (n : ℕ) (x : X) → slice_get xs n ≡ Some x → take (n + 1) xs ≡ take n xs ++ x ∷ []
take_next xs n x at = let e : n + 1 ≡ suc n = omega arith in ap (λ m. take m xs) e ∙ take_suc xs n x at

older : (def : LineDef) (newer past : List Entry) → IsLegalPast def (newer ++ past) → IsLegalPast def past
older def [] past legal = legal
older def (e ∷ newer) past legal = older def newer past legal.1

-- each entry of a legal history was due
was_due : (def : LineDef) (h : List Entry) (n : ℕ) (e : Entry) → IsLegal def h → slice_get h n ≡ Some e → IsDue def e (reverse (take n h))
was_due def h n e legal at =
    let cut : reverse h ≡ reverse (drop (n + 1) h) ++ reverse (take (n + 1) h) =
    ap reverse (sym (take-append-drop (n + 1) h)) ∙ reverse-append (take (n + 1) h) (drop (n + 1) h) in
    let newest : reverse (take (n + 1) h) ≡ e ∷ reverse (take n h) = ap reverse (take_next h n e at) ∙ reverse-append (take n h) (e ∷ []) in
    let so_far : IsLegalPast def (reverse (take (n + 1) h)) =
    older def (reverse (drop (n + 1) h)) (reverse (take (n + 1) h)) (subst (λ (past : List Entry). IsLegalPast def past) cut legal) in
    (subst (λ (past : List Entry). IsLegalPast def past) newest so_far).0

legal_or_not : (def : LineDef) (h : List Entry) (n : ℕ) → IsLegal def h → IsFirstUndue def h n → ⊥
legal_or_not def h n legal bad = bad.undue.2 (was_due def h (n - 1) bad.undue.0 legal bad.undue.1)

shorter : {X : Type 0} (xs : List X) (m n : ℕ) → m ≤ n → take m (take n xs) ≡ take m xs
shorter [] zero zero le = refl
shorter [] zero (suc n) le = refl
shorter [] (suc m) zero le = refl
shorter [] (suc m) (suc n) le = refl
shorter (x ∷ xs) zero zero le = refl
shorter (x ∷ xs) zero (suc n) le = refl
shorter (x ∷ xs) (suc m) zero le = absurd (omega (arith, le))
shorter (x ∷ xs) (suc m) (suc n) le = ap (λ (ys : List _). x ∷ ys) (shorter xs m n (omega (arith, le)))

earlier : (def : LineDef) (h : List Entry) (m n : ℕ) → IsFirstUndue def h m → IsFirstUndue def h n → m < n → ⊥
earlier def h m n x y less =
    let counted = x.counted in
    let below : m - 1 < n - 1 = omega (arith, counted, less) in
    let due = was_due def (take (n - 1) h) (m - 1) x.undue.0 y.before (get_take h (m - 1) (n - 1) below ∙ x.undue.1) in
    x.undue.2 (subst (λ (es : List Entry). IsDue def x.undue.0 (reverse es)) (shorter h (m - 1) (n - 1) (omega (arith, below))) due)

module _ (b : BoardSeen) (row : LineRow) (es : List Entry) where
  pub right_or_not : (p : Placement) (n : ℕ) → JudgedLine b row p es None → JudgedLine b row p es (Some n) → ⊥
  right_or_not (placements.Mapped virq path) n x y = legal_or_not _ es n x y
  right_or_not (placements.Refused why) n x y =
      let none = ap (λ (fs : List Entry). length fs) x in
      let some = y.0 in
      omega (arith, none, some)

  one_number : (p : Placement) (m n : ℕ) → JudgedLine b row p es (Some m) → JudgedLine b row p es (Some n) → m ≡ n
  one_number (placements.Mapped virq path) m n x y = neither_below m n (earlier _ es m n x y) (earlier _ es n m y x)
  one_number (placements.Refused why) m n x y = x.1 ∙ sym y.1

-- ---- the line at a place

pub there : {X : Type 0} (xs : List X) (i : ℕ) → i < length xs → (x : X) × (slice_get xs i ≡ Some x)
there [] i within = absurd (omega (arith, within))
there (x ∷ xs) zero within = (x, refl)
there (x ∷ xs) (suc i) within = there xs i (omega (arith, within))

as_many : (domains : List DomainDef) (before : List Placement) (leaves : List (ℕ × ℕ)) → length (layout_after domains before leaves) ≡ length leaves
as_many domains before [] = refl
as_many domains before (leaf ∷ leaves) = ap suc (as_many domains (before ++ placement_of domains before leaf ∷ []) leaves)

-- each line has a placement
pub each_placed : (b : BoardSeen) → length (layout_of b) ≡ length b.lines
each_placed b = as_many (defs_of b.domains) [] (leaves_of b.lines) ∙ length-map b.lines leaf_of

pub entries_at : (logs : List HistorySeen) (i : ℕ) (h : HistorySeen) → slice_get logs i ≡ Some h → slice_get (entries_of logs) i ≡ Some h.entries
entries_at logs i h at = slice_get-map (λ (x : HistorySeen). x.entries) logs i
    ∙ ap (λ (o : Option HistorySeen). option_map (λ (x : HistorySeen). x.entries) o) at

-- what two say of one line
pub record Both (b : BoardSeen) (first other : Option ℕ) : Type 0 where
  pub row : LineRow
  pub placement : Placement
  pub entries : List Entry
  pub says : JudgedLine b row placement entries first
  pub also : JudgedLine b row placement entries other

module _ (b : BoardSeen) (x y : List HistorySeen) (each : length x ≡ length b.lines) (same : entries_of x ≡ entries_of y) where
  each_too : length y ≡ length b.lines
  each_too =
      sym (length-map y (λ (h : HistorySeen). h.entries))
      ∙ (ap (λ (ess : List (List Entry)). length ess) (sym same)
      ∙ (length-map x (λ (h : HistorySeen). h.entries) ∙ each))

  both : (i : ℕ) (first other : Option ℕ) → i < length b.lines → JudgedAt b x i first → JudgedAt b y i other → Both b first other
  both i first other within of_x of_y =
      let placed = each_placed b in
      let too = each_too in
      let row = there b.lines i within in
      let place = there (layout_of b) i (omega (arith, placed, within)) in
      let h = there x i (omega (arith, each, within)) in
      let k = there y i (omega (arith, too, within)) in
      let is : h.0.entries ≡ k.0.entries = same_Some h.0.entries k.0.entries
      (sym (entries_at x i h.0 h.1) ∙ (ap (λ (ess : List (List Entry)). slice_get ess i) same
      ∙ entries_at y i k.0 k.1)) in
      record {
        row = row.0;
        placement = place.0;
        entries = h.0.entries;
        says = of_x row.0 place.0 h.0 row.1 place.1 h.1;
        also = subst (λ (es : List Entry). JudgedLine b row.0 place.0 es other) (sym is) (of_y row.0 place.0 k.0 row.1 place.1 k.1);
      }

  right_here : (i n : ℕ) → i < length b.lines → JudgedAt b x i None → JudgedAt b y i (Some n) → ⊥
  right_here i n within of_x of_y = let a = both i None (Some n) within of_x of_y in right_or_not b a.row a.entries a.placement n a.says a.also

  wrong_here : (i n : ℕ) → i < length b.lines → JudgedAt b x i (Some n) → JudgedAt b y i None → ⊥
  wrong_here i n within of_x of_y = let a = both i (Some n) None within of_x of_y in right_or_not b a.row a.entries a.placement n a.also a.says

  number_here : (i m n : ℕ) → i < length b.lines → JudgedAt b x i (Some m) → JudgedAt b y i (Some n) → m ≡ n
  number_here i m n within of_x of_y = let a = both i (Some m) (Some n) within of_x of_y in one_number b a.row a.entries a.placement m n a.says a.also

  -- ---- all lines

  same_unlawful : (l k : LineNo) (m n : ℕ) → l ≡ k → m ≡ n → verdicts.Unlawful l m ≡ verdicts.Unlawful k n
  same_unlawful l k m n same_line same_number = cc

  pub one_verdict : (v w : Verdict) → IsVerdict b x v → IsVerdict b y w → v ≡ w
  one_verdict verdicts.Lawful verdicts.Lawful p q = refl
  one_verdict verdicts.Lawful (verdicts.Unlawful k n) p q =
      let within = slice_get_within b.lines q.0 q.1 q.2 in absurd (right_here q.0 n within (p q.0 within) q.4)
  one_verdict verdicts.Lawful (verdicts.Malformed row) p q = absurd q
  one_verdict (verdicts.Unlawful l m) (verdicts.Malformed row) p q = absurd q
  one_verdict (verdicts.Malformed row) w p q = absurd p
  one_verdict (verdicts.Unlawful l m) verdicts.Lawful p q =
      let within = slice_get_within b.lines p.0 p.1 p.2 in absurd (wrong_here p.0 m within p.4 (q p.0 within))
  one_verdict (verdicts.Unlawful l m) (verdicts.Unlawful k n) p q =
      let in_p = slice_get_within b.lines p.0 p.1 p.2 in
      let in_q = slice_get_within b.lines q.0 q.1 q.2 in
      let place : p.0 ≡ q.0 =
      neither_below p.0 q.0 (λ less. wrong_here p.0 m in_p p.4 (q.5 p.0 less)) (λ more. right_here q.0 n in_q (p.5 q.0 more) q.4) in
      let row : p.1 ≡ q.1 = same_Some p.1 q.1 (sym p.2 ∙ (ap (λ i. slice_get b.lines i) place ∙ q.2)) in
      same_unlawful l k m n (sym p.3 ∙ (ap (λ (r : LineRow). r.line) row ∙ q.3))
      (number_here q.0 m n in_q (subst (λ i. JudgedAt b x i (Some m)) place p.4) q.4)
