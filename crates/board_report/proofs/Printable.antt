-- Each entry that is due has a row.
use Rattle.std.proofs.Common.{ℕ, Bool, true, false, cond, is_some, List, [], ◌∷◌, reverse, refl, sym, subst}
use Rattle.std.specs.List.{All}
use Rattle.std.proofs.lemmas.List.{reverse-append}
use Rattle.std.proofs.lemmas.List.Elements.{All-nil, All-push, All-head, All-tail}
use Rattle.irq_base.specs.declared.calls.Flags.{Flags}
use Rattle.irq_base.specs.declared.entries.AffinityAnswer.TheVariants as moves
use Rattle.irq_base.specs.declared.entries.Entry.{Entry}
use Rattle.irq_base.specs.declared.entries.Entry.TheVariants as by
use Rattle.irq_base.specs.declared.entries.DriverEntry.TheVariants as drivers
use Rattle.irq_base.specs.declared.entries.Errno.TheVariants as errors
use Rattle.irq_base.specs.declared.entries.LinkAnswer.{LinkAnswer}
use Rattle.irq_base.specs.declared.entries.LinkAnswer.TheVariants as links
use Rattle.irq_base.specs.declared.lines.LineDef.{LineDef}
use Rattle.irq_base.specs.declared.numbers.DevNo.{DevNo}
use Rattle.irq_base.specs.declared.numbers.DriverNo.{DriverNo}
use Rattle.irq_model.specs.Legal.{IsDue}
use Rattle.irq_model.specs.Next.{link_answer}
use Rattle.irq_model.specs.Signal.{lowest_in}
use Rattle.irq_laws.proofs.ImpliesDriver.{DriverRow, ask, request, affinity, moment, step, driver_row, opened_with}
use Rattle.log_text.specs.EntryWords.{IsPrintable}

-- a request that was refused opened nothing
request_printable : (def : LineDef) (r : DriverNo) (d : DevNo) (flags : Flags) (past : List Entry) (answer : LinkAnswer)
    → IsPrintable (by.Driver r (drivers.Request flags answer (opened_with def flags past answer) d))
request_printable def r d flags past links.Linked = tt
request_printable def r d flags past (links.Refused error) = refl

-- a mask is only refused as invalid
affinity_printable : (r : DriverNo) (mask : ℕ) (some later : Bool)
    → IsPrintable (by.Driver r (drivers.Affinity (cond some (cond later moves.Later moves.Now) (moves.Refused errors.Inval)) mask))
affinity_printable r mask true true = tt
affinity_printable r mask true false = tt
affinity_printable r mask false later = refl

row_printable : (def : LineDef) (r : DriverNo) (past : List Entry) (e : Entry) → DriverRow def r past e → IsPrintable e
row_printable def r past e (ask d n is same) = subst IsPrintable same tt
row_printable def r past e (request d flags n is free same) =
    subst IsPrintable same (request_printable def r d flags past (link_answer def d flags past))
row_printable def r past e (affinity mask n is same) =
    subst IsPrintable same (affinity_printable r mask (is_some (lowest_in def.cpus mask)) def.later)
row_printable def r past e (moment at n is same) = subst IsPrintable same tt
row_printable def r past e (step due call is h same) = subst IsPrintable same tt

pub printable : (def : LineDef) (past : List Entry) (e : Entry) → IsDue def e past → IsPrintable e
printable def past (by.Driver r e) due = row_printable def r past (by.Driver r e) (driver_row def r past (by.Driver r e) due)
printable def past e due = tt

-- what holds of each item holds of each of them the other way round
pub turned : {X : Type 0} (P : X → Type 0) (xs : List X) → All P xs → All P (reverse xs)
turned P [] all = All-nil P
turned P (x ∷ xs) all =
    subst (All P) (sym (reverse-append (x ∷ []) xs)) (All-push P (reverse xs) x (turned P xs (All-tail P x xs all)) (All-head P x xs all))
