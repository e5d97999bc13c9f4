-- A log has one judgement, and so has an input.
use Rattle.std.proofs.Common.{◌≡◌, ℕ, Bool, Result, Ok, Err, List, refl, sym, ap, subst, ◌∙◌}
use Rattle.board_def.specs.Seen.{BoardSeen}
use Rattle.board_words.specs.declared.faults.BoardFault.{BoardFault}
use Rattle.log_check.specs.Verdicts.{ChecksLog, HasVerdict}
use Rattle.log_check.specs.declared.verdict.Verdict.{Verdict}
use Rattle.log_check.specs.declared.verdict.Verdict.TheVariants as verdicts
use Rattle.log_read.specs.LogOf.{entries_of, rows_of}
use Rattle.log_read.proofs.Telling.{as_many}
use Rattle.irq_check.specs.Checked.{IsChecked, checked}
use Rattle.irq_check.specs.declared.answers.Judgement.{Judgement}
use Rattle.irq_check.proofs.OneLog.{not_malformed, one_history, one_row}
use Rattle.irq_check.proofs.OneVerdict.{one_verdict}

module _ (b : BoardSeen) (log : List ℕ) where
  same_verdict : (v w : Verdict) → HasVerdict b log v → HasVerdict b log w → v ≡ w
  same_verdict v w p q =
      one_verdict b p.0 q.0 (as_many b (rows_of log) p.0 p.1) (one_history b (rows_of log) (entries_of p.0) (entries_of q.0) p.1 q.1)
      v w p.2 q.2

  not_both : (v : Verdict) (row : ℕ) → HasVerdict b log v → ChecksLog b log (verdicts.Malformed row) → ⊥
  not_both v row p bad = not_malformed b (rows_of log) (entries_of p.0) row p.1 bad

  pub one_answer : (one other : Verdict) → ChecksLog b log one → ChecksLog b log other → one ≡ other
  one_answer verdicts.Lawful verdicts.Lawful p q = refl
  one_answer verdicts.Lawful (verdicts.Unlawful k n) p q = same_verdict verdicts.Lawful (verdicts.Unlawful k n) p q
  one_answer verdicts.Lawful (verdicts.Malformed row) p q = absurd (not_both verdicts.Lawful row p q)
  one_answer (verdicts.Unlawful l m) verdicts.Lawful p q = same_verdict (verdicts.Unlawful l m) verdicts.Lawful p q
  one_answer (verdicts.Unlawful l m) (verdicts.Unlawful k n) p q = same_verdict (verdicts.Unlawful l m) (verdicts.Unlawful k n) p q
  one_answer (verdicts.Unlawful l m) (verdicts.Malformed row) p q = absurd (not_both (verdicts.Unlawful l m) row p q)
  one_answer (verdicts.Malformed row) verdicts.Lawful p q = absurd (not_both verdicts.Lawful row q p)
  one_answer (verdicts.Malformed row) (verdicts.Unlawful k n) p q = absurd (not_both (verdicts.Unlawful k n) row q p)
  one_answer (verdicts.Malformed row) (verdicts.Malformed too) p q = ap (λ n. verdicts.Malformed n) (one_row b (rows_of log) row too p q)

same_ok : (p q : BoardSeen × List ℕ) → ◌≡◌ {A = Result (BoardSeen × List ℕ) BoardFault} (Ok p) (Ok q) → p ≡ q
same_ok p q is = cc

pub one_input : (why also : Bool) (input : List ℕ) (one other : Judgement) → IsChecked why input one → IsChecked also input other
    → one.verdict ≡ other.verdict
one_input why also input one other p q =
    let same : (p.board, p.log) ≡ (q.board, q.log) = same_ok (p.board, p.log) (q.board, q.log) (sym p.states ∙ q.states) in
    one_answer q.board q.log one.verdict other.verdict
    (subst (λ (pair : BoardSeen × List ℕ). ChecksLog pair.0 pair.1 one.verdict) same p.judged) q.judged

ok_or_not : (p : BoardSeen × List ℕ) (fault : BoardFault) → ◌≡◌ {A = Result (BoardSeen × List ℕ) BoardFault} (Ok p) (Err fault) → ⊥
ok_or_not p fault is = cc

pub no_fault : (why : Bool) (input : List ℕ) (answer : Judgement) (fault : BoardFault) → IsChecked why input answer → checked input ≡ Err fault → ⊥
no_fault why input answer fault p bad = ok_or_not (p.board, p.log) fault (sym p.states ∙ bad)
