-- An entry that is due has a row.
use Rattle.std.proofs.Common.{◌≡◌, ◌≢◌, Bor, ℕ, Bool, true, false, cond, is_some, Option, Some, None, List, [], ◌∷◌}
use Rattle.std.proofs.Common.{◌++◌, length, slice_get, reverse, refl, sym, ap, subst, ◌∙◌}
use Rattle.std.specs.Option.{option_map}
use Rattle.std.specs.Prelude.{MatchOption}
use Rattle.std.proofs.lemmas.Bool.{false≢true}
use Rattle.std.proofs.lemmas.Option.{same_Some}
use Rattle.board_def.specs.Seen.{BoardSeen}
use Rattle.irq_base.specs.declared.calls.Flags.{Flags}
use Rattle.irq_base.specs.declared.entries.Actor.{Actor}
use Rattle.irq_base.specs.declared.entries.AffinityAnswer.TheVariants as moves
use Rattle.irq_base.specs.declared.entries.Entry.{Entry}
use Rattle.irq_base.specs.declared.entries.Entry.TheVariants as by
use Rattle.irq_base.specs.declared.entries.DriverEntry.TheVariants as drivers
use Rattle.irq_base.specs.declared.entries.Errno.TheVariants as errors
use Rattle.irq_base.specs.declared.entries.LinkAnswer.{LinkAnswer}
use Rattle.irq_base.specs.declared.entries.LinkAnswer.TheVariants as links
use Rattle.irq_base.specs.declared.lines.LineDef.{LineDef}
use Rattle.irq_base.specs.declared.numbers.DevNo.{DevNo}
use Rattle.irq_base.specs.declared.numbers.DriverNo.{DriverNo}
use Rattle.irq_base.specs.declared.numbers.LineNo.{LineNo}
use Rattle.irq_laws.proofs.ImpliesDriver.{DriverRow, ask, request, affinity, moment, step, driver_row, opened_with}
use Rattle.irq_line.specs.Seen.{LineSeen}
use Rattle.irq_model.specs.Legal.{IsDue}
use Rattle.irq_model.specs.Next.{link_answer, next_past}
use Rattle.irq_model.specs.Signal.{lowest_in}
use Rattle.log_check.proofs.OneLine.{get_last}
use Rattle.log_check.specs.Judged.{AddsDue}
use Rattle.log_check.specs.Judging.{Adds, Follows}
use Rattle.log_read.specs.Versions.{may_have}
use Rattle.log_text.specs.EntryWords.{IsPrintable}
use Rattle.log_text.specs.Formed.{HasSmallNumbers, IsSmall}
use Rattle.log_text.specs.Rows.{entry_text}

-- a request that was refused opened nothing
request_printable : (def : LineDef) (r : DriverNo) (d : DevNo) (flags : Flags) (past : List Entry) (answer : LinkAnswer)
    → IsPrintable (by.Driver r (drivers.Request flags answer (opened_with def flags past answer) d))
request_printable def r d flags past links.Linked = tt
request_printable def r d flags past (links.Refused error) = refl

-- a mask is only refused as invalid
affinity_printable : (r : DriverNo) (mask : ℕ) (some later : Bool)
    → IsPrintable (by.Driver r (drivers.Affinity (cond some (cond later moves.Later moves.Now) (moves.Refused errors.Inval)) mask))
affinity_printable r mask true true = tt
affinity_printable r mask true false = tt
affinity_printable r mask false later = refl

row_printable : (def : LineDef) (r : DriverNo) (past : List Entry) (e : Entry) → DriverRow def r past e → IsPrintable e
row_printable def r past e (ask d n is same) = subst IsPrintable same tt
row_printable def r past e (request d flags n is free same) =
    subst IsPrintable same (request_printable def r d flags past (link_answer def d flags past))
row_printable def r past e (affinity mask n is same) =
    subst IsPrintable same (affinity_printable r mask (is_some (lowest_in def.cpus mask)) def.later)
row_printable def r past e (moment at n is same) = subst IsPrintable same tt
row_printable def r past e (step due call is h same) = subst IsPrintable same tt

pub printable : (def : LineDef) (past : List Entry) (e : Entry) → IsDue def e past → IsPrintable e
printable def past (by.Cpu c e) due = tt
printable def past (by.Thread d e) due = tt
printable def past (by.Driver r e) due = row_printable def r past (by.Driver r e) (driver_row def r past (by.Driver r e) due)
printable def past (by.CpuCall c call) due = tt
printable def past (by.ThreadCall d call) due = tt
printable def past (by.DriverCall r call) due = tt

-- what is due has a row that may follow in a text

heard_due : (old new : LineSeen) (a : Actor) (e : Entry) → AddsDue old a (Some e) new → IsDue old.def e (reverse old.entries)
heard_due old new a e heard = subst (λ (x : Actor). next_past old.def (reverse old.entries) x ≡ Some e) (sym heard.actor) heard.due

module _ (old new : LineSeen) (actor : Actor) (due : Option Entry) (e : Entry) (heard : AddsDue old actor due new) (is : due ≡ Some e) where
  was_heard : AddsDue old actor (Some e) new
  was_heard = subst (λ (o : Option Entry). AddsDue old actor o new) is heard

  pub heard_printable : IsPrintable e
  heard_printable = printable old.def (reverse old.entries) e (heard_due old new actor e was_heard)

  -- it stands at the end
  pub stands_last : (entries : List Entry) (place : ℕ) → entries ≡ new.entries → place ≡ length old.entries → slice_get entries place ≡ Some e
  stands_last entries place are here =
      ap (λ (es : List Entry). slice_get es place) (are ∙ was_heard.entries)
      ∙ (ap (λ (i : ℕ). slice_get (old.entries ++ e ∷ []) i) here ∙ get_last old.entries e)

  pub adds : (b : BoardSeen) (text : List ℕ) (number : LineNo) (after : Option (List ℕ)) → may_have b.version e ≡ true → IsSmall number.0
      → HasSmallNumbers e → Follows text number e after → Adds b text number actor after old new
  adds b text number (Some after) allowed small numbers follows =
      (e, small, record { printable = heard_printable; small = numbers }, allowed, follows, was_heard.due, was_heard.def, was_heard.entries)
  adds b text number None allowed small numbers missing = λ f after owed may follows.
      missing after (follows ∙ ap (λ (x : Entry). entry_text number x ++ after) (same_Some f e (sym owed ∙ was_heard.due)))

  -- the board's log may not have its row
  pub adds_no_row : (b : BoardSeen) (text : List ℕ) (number : LineNo) → may_have b.version e ≡ false → Adds b text number actor None old new
  adds_no_row b text number never = λ f after owed may follows.
      false≢true (sym never ∙ (ap (may_have b.version) (same_Some e f (sym was_heard.due ∙ owed)) ∙ may))

none_due : (e : Entry) → ◌≡◌ {A = Option Entry} None (Some e) → ⊥
none_due e same = cc

pub adds_none : (b : BoardSeen) (old new : LineSeen) (actor : Actor) (due : Option Entry) (text : List ℕ) (number : LineNo) → AddsDue old actor due new
    → due ≡ None → Adds b text number actor None old new
adds_none b old new actor due text number heard is f after owed may follows =
    let none : AddsDue old actor None new = subst (λ (o : Option Entry). AddsDue old actor o new) is heard in
    none_due f (sym none.0 ∙ owed)

-- what follows a row that the text begins with
pub follows : (text row : List ℕ) (number : LineNo) (e : Entry) (r : Option (Bor (List ℕ))) → row ≡ entry_text number e
    → MatchOption r ((rest : List ℕ) → text ≢ row ++ rest) (λ x. text ≡ row ++ x.now) → Follows text number e (option_map (λ (x : Bor (List ℕ)). x.now) r)
follows text row number e (Some after) is same = same ∙ ap (λ (xs : List ℕ). xs ++ after.now) is
follows text row number e None is differ = λ after same. differ after (same ∙ ap (λ (xs : List ℕ). xs ++ after) (sym is))
