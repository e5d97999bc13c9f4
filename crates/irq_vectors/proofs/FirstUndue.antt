-- The first entry that isn't due, from what a walk over the entries has found.
use Rattle.std.proofs.Common.{arith, ◌≡◌, ℕ, ◌+◌, ◌-◌, ◌<◌, List, length, take, reverse, get_or}
use Rattle.std.proofs.lemmas.Option.{slice_get-get_or}
use Rattle.irq_base.specs.declared.lines.LineDef.{LineDef}
use Rattle.irq_base.specs.declared.entries.Entry.{Entry}
use Rattle.irq_model.specs.Legal.{IsDue, IsLegal}
use Rattle.irq_vectors.specs.Verdict.{IsFirstUndue}

-- the entries up to a place are lawful, and the one there isn't due
pub first_undue :
    (def : LineDef) (entries past : List Entry) (i : ℕ) (d : Entry) → past ≡ take i entries → i < length entries → IsLegal def past
    → (IsDue def (get_or entries i d) (reverse past) → ⊥) → IsFirstUndue def entries (i + 1)
first_undue def entries past i d is within legal undue =
    let back : i + 1 - 1 ≡ i = omega arith in
    record {
      counted_from_one = omega arith;
      lawful_before = rw (back, ← is) legal;
      undue = (get_or entries i d, rw back (slice_get-get_or entries i d within), rw (back, ← is) undue);
    }
