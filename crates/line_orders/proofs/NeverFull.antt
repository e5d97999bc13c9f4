-- A sound line whose log limit is at least its bound isn't full.
use Rattle.std.proofs.Common.{◌≡◌, ℕ, ◌≤◌, true, false, is_some, sym, ap, ◌∙◌}
use Rattle.irq_base.specs.declared.entries.Actor.{Actor}
use Rattle.irq_base.specs.declared.numbers.LineNo.{LineNo}
use Rattle.irq_model.specs.Next.{next}
use Rattle.irq_line.specs.Answers.{IsFull}
use Rattle.irq_line.specs.Seen.{LineSeen, IsSound}
use Rattle.irq_storms.specs.Lengths.{history_bound, IsBounded}
use Rattle.irq_storms.proofs.Laws.{never_full}

pub not_full : (line : LineSeen) → IsSound line → IsBounded line.def → history_bound line.def ≤ line.def.log
    → (actor : Actor) (of : LineNo) (len : ℕ) → IsFull line actor of len → ⊥
not_full line sound bounded ample actor of len full =
    let none = never_full line.def line.entries actor sound.valid sound.runs bounded sound.legal ample full.log in
    let due : is_some (next line.def line.entries actor) ≡ true = full.due in
    let n : true ≡ false = sym due ∙ ap is_some none in cc
