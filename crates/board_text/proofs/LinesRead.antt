-- Reading text lines, one after another.
use Rattle.std.proofs.Common.{◌≡◌, ℕ, suc, ◌+◌, ◌<◌, ◌≤◌, Bool, true, false, cond, Some, None}
use Rattle.std.proofs.Common.{Ok, Err, List, [], ◌∷◌, length, drop, refl, sym, ap, ◌∙◌, subst, arith}
use Rattle.std.proofs.lemmas.List.{drop_all}
use Rattle.board_stated.specs.TextOf.{fault_of_line, with_line, fault_or, first_fault, with_lines}
use Rattle.board_words.specs.TextLines.{text_lines, is_line_feed, onto_first}
use Rattle.board_words.specs.declared.faults.FaultKind.{FaultKind}
use Rattle.board_words.specs.declared.statements.Statement.{Statement}
use Rattle.board_words.specs.declared.statements.StatementRefused.TheVariants as lines
use Rattle.board_text.specs.Given.{ReadsLine}
use Rattle.board_text.specs.Kept.{Keeps}
use Rattle.board_text.specs.declared.reader.Reader.{Reader}

-- the text lines before some place were read, and the others are left
pub record ReadSoFar (all left : List (List ℕ)) (at : ℕ) (r : Reader) : Type 0 where
  pub past : List Statement
  pub keeps : Keeps past r
  pub faults : first_fault 1 [] all ≡ first_fault at past left
  pub stated : with_lines [] all ≡ with_lines past left
  pub counted : at + length left ≡ length all + 1

pub none_read : (all : List (List ℕ)) (r : Reader) → Keeps [] r → ReadSoFar all all 1 r
none_read all r keeps = record { past = []; keeps = keeps; faults = refl; stated = refl; counted = omega arith }

-- one more line without a fault
pub one_read : (all left : List (List ℕ)) (line : List ℕ) (at : ℕ) (r q : Reader) (h : ReadSoFar all (line ∷ left) at r)
    → fault_of_line h.past line ≡ None → Keeps (with_line h.past line) q → ReadSoFar all left (at + 1) q
one_read all left line at r q h none keeps = record {
  past = with_line h.past line;
  keeps = keeps;
  faults = h.faults ∙ ap (λ o. fault_or at o (first_fault (at + 1) (with_line h.past line) left)) none;
  stated = h.stated;
  counted = let c = h.counted in omega arith;
}

-- a line with a fault
pub fault_read : (all left : List (List ℕ)) (line : List ℕ) (at : ℕ) (r : Reader) (kind : FaultKind)
    (h : ReadSoFar all (line ∷ left) at r) → fault_of_line h.past line ≡ Some kind
    → first_fault 1 [] all ≡ Some (record { at = at; kind = kind })
fault_read all left line at r kind h some = h.faults ∙ ap (λ o. fault_or at o (first_fault (at + 1) (with_line h.past line) left)) some

-- there are no more lines than bytes
onto_length : (b : ℕ) (texts : List (List ℕ)) → length (onto_first b texts) ≤ length texts + 1
onto_length b [] = omega arith
onto_length b (text ∷ texts) = omega arith

pub lines_within : (bytes : List ℕ) → length (text_lines bytes) ≤ length bytes
lines_within [] = omega arith
lines_within (b ∷ bs) = by (is_line_feed b) (lines_within bs) (onto_length b (text_lines bs))
  where
    by : (t : Bool) → length (text_lines bs) ≤ length bs
        → length (onto_first b (text_lines bs)) ≤ length (text_lines bs) + 1
        → length (cond t ([] ∷ text_lines bs) (onto_first b (text_lines bs))) ≤ length (b ∷ bs)
    by true h k = omega arith
    by false h k = omega arith

-- the first text line

a_line : (text : List ℕ) → 0 < length text → (line : List ℕ) × (left : List (List ℕ)) × (text_lines text ≡ line ∷ left)
a_line [] some = absurd (omega arith)
a_line (b ∷ bs) some = by (is_line_feed b) (text_lines bs)
  where
    by : (t : Bool) (texts : List (List ℕ))
        → (line : List ℕ) × (left : List (List ℕ)) × (cond t ([] ∷ texts) (onto_first b texts) ≡ line ∷ left)
    by true texts = ([], texts, refl)
    by false [] = (b ∷ [], [], refl)
    by false (text ∷ texts) = (b ∷ text, texts, refl)

-- a text without text lines is empty
no_lines : (text : List ℕ) → text_lines text ≡ [] → text ≡ []
no_lines [] none = refl
no_lines (b ∷ bs) none = absurd (by (is_line_feed b) (text_lines bs) none)
  where
    by : (t : Bool) (texts : List (List ℕ)) → cond t ([] ∷ texts) (onto_first b texts) ≡ [] → ⊥
    by true texts none = cc
    by false [] none = cc
    by false (text ∷ texts) none = cc

-- what follows it
pub after_line : (text line : List ℕ) (left : List (List ℕ)) → text_lines text ≡ line ∷ left → text_lines (drop (length line + 1) text) ≡ left
after_line [] line left is = cc
after_line (b ∷ bs) line left is = by (is_line_feed b) (text_lines bs) refl (after_line bs) is
  where
    by : (t : Bool) (texts : List (List ℕ)) → text_lines bs ≡ texts
        → ((l : List ℕ) (ls : List (List ℕ)) → text_lines bs ≡ l ∷ ls → text_lines (drop (length l + 1) bs) ≡ ls)
        → cond t ([] ∷ texts) (onto_first b texts) ≡ line ∷ left → text_lines (drop (length line + 1) (b ∷ bs)) ≡ left
    by true texts rest after is =
        let none : [] ≡ line = cc in
        let same : texts ≡ left = cc in
        ap (λ (l : List ℕ). text_lines (drop (length l + 1) (b ∷ bs))) (sym none) ∙ rest ∙ same
    by false [] rest after is =
        let one : b ∷ [] ≡ line = cc in
        let same : [] ≡ left = cc in
        ap (λ (l : List ℕ). text_lines (drop (length l + 1) (b ∷ bs))) (sym one)
        ∙ ap (λ (x : List ℕ). text_lines (drop 1 x)) (no_lines bs rest) ∙ same
    by false (text ∷ texts) rest after is =
        let first : b ∷ text ≡ line = cc in
        let same : texts ≡ left = cc in
        let longer : length (b ∷ text) + 1 ≡ suc (length text + 1) = omega arith in
        ap (λ (l : List ℕ). text_lines (drop (length l + 1) (b ∷ bs))) (sym first)
        ∙ ap (λ n. text_lines (drop n (b ∷ bs))) longer ∙ after text texts rest ∙ same

pub none_after : (text line : List ℕ) (left : List (List ℕ)) → text_lines text ≡ line ∷ left → length text ≤ length line + 1 → [] ≡ left
none_after text line left is past = ap text_lines (sym (drop_all (length line + 1) text past)) ∙ after_line text line left is

-- the first text line that is left was read

pub next_read : (all : List (List ℕ)) (text rest : List ℕ) (at : ℕ) (r q : Reader) → ReadSoFar all (text_lines text) at r → 0 < length text
    → ((past : List Statement) (line : List ℕ) (left : List (List ℕ)) → Keeps past r → text_lines text ≡ line ∷ left → ReadsLine past line q (Ok tt))
    → ((line : List ℕ) (left : List (List ℕ)) → text_lines text ≡ line ∷ left → text_lines rest ≡ left)
    → ReadSoFar all (text_lines rest) (at + 1) q
next_read all text rest at r q h some read left =
    let first = a_line text some in
    let h = subst (λ ls. ReadSoFar all ls at r) first.2 h in
    let told = read h.past first.0 first.1 h.keeps first.2 in
    subst (λ ls. ReadSoFar all ls (at + 1) q) (sym (left first.0 first.1 first.2)) (one_read all first.1 first.0 at r q h told.0 told.1)

pub next_fault : (all : List (List ℕ)) (text : List ℕ) (at : ℕ) (r q : Reader) (kind : FaultKind) → ReadSoFar all (text_lines text) at r
    → 0 < length text
    → ((past : List Statement) (line : List ℕ) (left : List (List ℕ)) → Keeps past r → text_lines text ≡ line ∷ left
    → ReadsLine past line q (Err (lines.Fault kind)))
    → first_fault 1 [] all ≡ Some (record { at = at; kind = kind })
next_fault all text at r q kind h some read =
    let first = a_line text some in
    let h = subst (λ ls. ReadSoFar all ls at r) first.2 h in
    fault_read all first.1 first.0 at r kind h (read h.past first.0 first.1 h.keeps first.2)

pub fewer_left : (text rest : List ℕ) → 0 < length text
    → ((line : List ℕ) (left : List (List ℕ)) → text_lines text ≡ line ∷ left → text_lines rest ≡ left)
    → length (text_lines rest) < length (text_lines text)
fewer_left text rest some left =
    let first = a_line text some in
    let is : length (text_lines text) ≡ length first.1 + 1 = ap length first.2 ∙ omega arith in
    let others : length (text_lines rest) ≡ length first.1 = ap length (left first.0 first.1 first.2) in
    omega (arith, is, others)

-- none is left
pub all_read : (all : List (List ℕ)) (text : List ℕ) (at : ℕ) (r : Reader) → ReadSoFar all (text_lines text) at r → length text ≡ 0
    → (first_fault 1 [] all ≡ None) × Keeps (with_lines [] all) r
all_read all [] at r h none = (h.faults, subst (λ (p : List Statement). Keeps p r) (sym h.stated) h.keeps)
all_read all (b ∷ bs) at r h none = absurd (omega (arith, none))
