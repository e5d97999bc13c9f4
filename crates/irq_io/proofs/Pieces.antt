-- One piece more, read or written.
use Rattle.std.proofs.Common.{◌≡◌, ℕ, ◌+◌, ◌≤◌, List, ◌++◌, Option, Some, None, length, take, drop, Ok, Err, sym, ap, subst, ◌∙◌, append_assoc, take-add}
use Rattle.std.proofs.lemmas.List.{append-nil, take-append-drop}
use Rattle.irq_io.specs.declared.sources.ReadAnswer.TheVariants as answers
use Rattle.irq_io.specs.declared.sinks.WriteAnswer.TheVariants as writes
use Rattle.irq_io.specs.Reads.{Reads}
use Rattle.irq_io.specs.Writes.{Writes}
use Rattle.irq_io.specs.Whole.{TakesAtMost, WritesAll}
use Rattle.irq_io.specs.declared.whole.WriteFailed.{WriteFailed}
use Rattle.irq_io.proofs.Beginning.{IsBeginning-take}

-- what was read so far, and what is left, are what was left at first
abbrev pub ReadSoFar : Option (List ℕ) → Option (List ℕ) → List ℕ → Type 0
ReadSoFar None now all = Unit {0}
ReadSoFar (Some before) now all = (rest : List ℕ) × (now ≡ Some rest) × (before ≡ all ++ rest)

pub ReadSoFar-more : (first mid now : Option (List ℕ)) (all buf : List ℕ) (n : ℕ)
    → ReadSoFar first mid all → Reads mid now buf (answers.Got n) → ReadSoFar first now (all ++ take n buf)
ReadSoFar-more None mid now all buf n h r = tt
ReadSoFar-more (Some xs) None now all buf n h r = absurd (cc)
ReadSoFar-more (Some xs) (Some m) now all buf n h r =
    let same : m ≡ h.0 = cc in (
      drop n m,
      r.0,
      h.2 ∙ (ap (λ ys. all ++ ys) (sym same ∙ sym (take-append-drop n m))
          ∙ (sym (append_assoc all (take n m) (drop n m)) ∙ ap (λ ys. (all ++ ys) ++ drop n m) (sym r.1))),
    )

pub TakesAtMost-so_far : (most : ℕ) (first now : Option (List ℕ)) (all : List ℕ)
    → ReadSoFar first now all → length all ≤ most → TakesAtMost most first now
TakesAtMost-so_far most None now all h l = tt
TakesAtMost-so_far most (Some xs) now all h l = (all, h.0, l, h.2, h.1)

pub WritesAll-none : (told : Option (List ℕ)) (bytes : List ℕ) → WritesAll told told (take 0 bytes) (Ok tt)
WritesAll-none None bytes = tt
WritesAll-none (Some xs) bytes = ap Some (sym (append-nil xs))

-- a write took n more of the bytes that were left after the first `done`
pub WritesAll-more : (told mid now : Option (List ℕ)) (bytes : List ℕ) (done n : ℕ)
    → WritesAll told mid (take done bytes) (Ok tt) → Writes mid now (drop done bytes) (writes.Took n)
    → WritesAll told now (take (done + n) bytes) (Ok tt)
WritesAll-more None mid now bytes done n h k = tt
WritesAll-more (Some xs) mid now bytes done n h k =
    let then : now ≡ Some ((xs ++ take done bytes) ++ take n (drop done bytes))
    = subst (λ (m : Option (List ℕ)). Writes m now (drop done bytes) (writes.Took n)) h k in
    then ∙ ap Some (append_assoc xs (take done bytes) (take n (drop done bytes)) ∙ ap (λ ys. xs ++ ys) (sym (take-add done n bytes)))

pub WritesAll-failed : (told mid now : Option (List ℕ)) (bytes left : List ℕ) (done : ℕ) (failed : WriteFailed)
    → WritesAll told mid (take done bytes) (Ok tt) → Writes mid now left writes.Failed → WritesAll told now bytes (Err failed)
WritesAll-failed None mid now bytes left done failed h k = tt
WritesAll-failed (Some xs) mid now bytes left done failed h k =
    (take done bytes, IsBeginning-take done bytes, subst (λ (m : Option (List ℕ)). Writes m now left writes.Failed) h k)
