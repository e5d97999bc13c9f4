-- One more line meets its rule after those before it.
use Rattle.std.proofs.Common.{◌≡◌, ℕ, zero, suc, ◌<◌, ◌≤◌, true, false, is_none, IsSome, Option, Some, None, refl, arith}
use Rattle.std.proofs.lemmas.Bool.{eq-eqb, not-false}
use Rattle.std.proofs.lemmas.Nat.Bits.{bit_at_ones}
use Rattle.irq_model.specs.Lines.{is_in_mask}
use Rattle.irq_model.specs.Signal.{lowest_in}
use Rattle.board_def.specs.Find.{last_item, last_line}
use Rattle.domain_rules.specs.Domains.{EachAfter}
use Rattle.board_def.specs.Rules.{has_name, IsNumber, IsLineAfter}
use Rattle.board_def.specs.Seen.{BoardSeen}
use Rattle.board_def.specs.declared.rows.LineRow.{LineRow}
use Rattle.board_def.proofs.Rising.{all_below, last_number}
use Rattle.board_words.specs.declared.statements.LineWords.{LineWords}
use Rattle.board_words.specs.declared.statements.Statement.TheVariants as statements
use Rattle.board_stated.specs.FaultsAfter.{is_misplaced, is_not_there, has_bad_unlazy, has_bad_mask, is_mask_empty}
use Rattle.board_stated.specs.Stated.{all_processors, mask_or_all, line_row}
use Rattle.board_stated.proofs.Ascending.{last_below}
use Rattle.board_stated.proofs.Domains.{named_place}

-- ---- the parts of a new line's rule

first_of_all : (cpus mask : ℕ) → 1 ≤ cpus → is_in_mask mask 0 ≡ true → IsSome (lowest_in cpus mask)
first_of_all zero mask some is = absurd (omega arith)
first_of_all (suc n) mask some is = rw is refl

-- processor 0 is one of all processors
all_have_first : (cpus : ℕ) → 1 ≤ cpus → is_in_mask (all_processors cpus) 0 ≡ true
all_have_first cpus some = eq-eqb _ 1 (bit_at_ones cpus 0 some)

is_there : {A : Type 0} (o : Option A) → is_none o ≡ false → IsSome o
is_there (Some x) h = refl
is_there None h = absurd cc

mask_has_one : (cpus : ℕ) (mask : Option ℕ) → 1 ≤ cpus → is_mask_empty cpus mask ≡ false → IsSome (lowest_in cpus (mask_or_all cpus mask))
mask_has_one cpus (Some mask) some h = is_there (lowest_in cpus mask) h
mask_has_one cpus None some h = first_of_all cpus (all_processors cpus) some (all_have_first cpus some)

-- ---- one more

pub line_after : (b : BoardSeen) (l : LineWords) → IsNumber l.line.0 → 1 ≤ b.cpus → EachAfter (IsLineAfter b) b.lines
    → is_misplaced b (statements.Line l) ≡ false
    → is_not_there b (statements.Line l) ≡ false → has_bad_unlazy b (statements.Line l) ≡ false
    → has_bad_mask b (statements.Line l) ≡ false → IsLineAfter b b.lines (line_row b l)
line_after b l number some each placed there unlazy mask = record {
  number = number;
  rises = all_below (λ r. r.line.0) b.lines l.line.0 (λ i row at. (each i row at).rises)
      (last_number (λ (r : LineRow). r.line) (λ line. line.0 < l.line.0) (last_item b.lines)
      (last_below (λ line. line.0) l.line.0 (last_line b.lines) placed));
  domain = named_place b.domains l.domain (not-false (has_name b.domains l.domain) there);
  unlazy = unlazy;
  mask = mask_has_one b.cpus l.mask some mask;
}
