-- What a driver's call waits for is what the line says of it.
use Rattle.std.proofs.Common.{◌≡◌, ◌↔◌, ℕ, Bool, true, false, not, Option, Some, None, is_some, List, reverse, refl, sym, ap, ◌∙◌}
use Rattle.std.specs.Prelude.{IsTrue}
use Rattle.std.proofs.lemmas.Bool.{false≢true}
use Rattle.std.proofs.lemmas.Option.{none-some}
use Rattle.irq_base.specs.declared.calls.Call.{Call}
use Rattle.irq_base.specs.declared.entries.Actor.TheVariants as actors
use Rattle.irq_base.specs.declared.entries.Entry.{Entry}
use Rattle.irq_base.specs.declared.lines.LineDef.{LineDef}
use Rattle.irq_base.specs.declared.numbers.DriverNo.{DriverNo}
use Rattle.irq_base.specs.declared.waiting.WaitFor.{WaitFor}
use Rattle.irq_base.specs.declared.waiting.WaitFor.TheVariants as waits
use Rattle.irq_model.specs.Due.{due_call}
use Rattle.irq_model.specs.Next.{next, next_of_driver}
use Rattle.irq_laws.specs.Blocks.{block_of, stands_in_way}
use Rattle.irq_laws.proofs.BlockLaws as blocked
use Rattle.irq_line.specs.Queries.{blocks_at, blocks_of, is_blocked}
use Rattle.irq_line.specs.Seen.{LineSeen, IsSound}

none_exactly : (o : Option Entry) (b : Bool) → is_some o ≡ not b → (o ≡ None) ↔ IsTrue b
none_exactly None true h = (λ i. refl, λ i. refl)
none_exactly None false h = cc
none_exactly (Some e) true h = cc
none_exactly (Some e) false h = (λ i. absurd (none-some e (sym i)), λ i. absurd (false≢true i))

is_told : (def : LineDef) (past : List Entry) (w : WaitFor) → stands_in_way def past w ≡ is_blocked w (blocks_at def past)
is_told def past waits.Nothing = refl
is_told def past waits.Flow = refl
is_told def past waits.Threads = refl
is_told def past waits.Mutex = refl
is_told def past waits.Freed = refl

pub call_waits : (line : LineSeen) (r : DriverNo) (c : Call) (n : ℕ) → IsSound line → due_call line.def r (reverse line.entries) ≡ Some (c, n)
    → (next line.def line.entries (actors.Driver r) ≡ None) ↔ IsTrue (is_blocked (block_of c n) (blocks_of line))
call_waits line r c n sound is =
    let past = reverse line.entries in
    none_exactly (next line.def line.entries (actors.Driver r)) (is_blocked (block_of c n) (blocks_of line))
    (blocked.call_waits line.def past sound.valid sound.legal r c n is ∙ ap not (is_told line.def past (block_of c n)))

-- a driver whose calls are all complete has none due
pub complete_rests : (line : LineSeen) (r : DriverNo) → due_call line.def r (reverse line.entries) ≡ None → next line.def line.entries (actors.Driver r) ≡ None
complete_rests line r none = ap (next_of_driver line.def r (reverse line.entries)) none
