-- The free under way follows the history, and holds the request mutex.
use Rattle.std.proofs.Common.{◌≡◌, Bool, true, false, is_some, Option, Some, None, List, ◌∷◌, refl, sym, ◌∙◌}
use Rattle.irq_base.specs.declared.entries.Actor.{Actor}
use Rattle.irq_base.specs.declared.entries.Actor.TheVariants as actors
use Rattle.irq_base.specs.declared.entries.CallEntry.{CallEntry}
use Rattle.irq_base.specs.declared.entries.Entry.{Entry}
use Rattle.irq_base.specs.declared.entries.Entry.TheVariants as by
use Rattle.irq_base.specs.declared.entries.CallEntry.TheVariants as called
use Rattle.irq_base.specs.declared.entries.UnlinkAnswer.TheVariants as unlinks
use Rattle.irq_base.specs.declared.lines.LineDef.{LineDef}
use Rattle.irq_base.specs.declared.numbers.DevNo.{DevNo}
use Rattle.irq_laws.proofs.KeptAlways.{kept}
use Rattle.irq_laws.proofs.Mutex.{freeing_holds}
use Rattle.irq_laws.proofs.ReasonLaws.{one_is_freed}
use Rattle.irq_laws.specs.Kept.{freeing, freed_on}
use Rattle.irq_model.specs.Due.{holds_mutex}
use Rattle.irq_model.specs.Legal.{IsLegalPast}
use Rattle.irq_model.specs.Valid.{IsValid}
use Rattle.line_marks.specs.Freeing.{freeing_after, freeing_by_call}

by_call : (a : Actor) (call : CallEntry) (f : Option (Actor × DevNo)) → freed_on a call f ≡ freeing_by_call a call f
by_call a (called.Unlink (unlinks.Unlinked last) d) f = refl
by_call a (called.Unlink unlinks.NotThere d) f = refl
by_call a (called.Freed d) f = refl
by_call a call f = refl

pub freeing_more : (e : Entry) (past : List Entry) → freeing (e ∷ past) ≡ freeing_after e (freeing past)
freeing_more (by.CpuCall c call) past = by_call (actors.Cpu c) call (freeing past)
freeing_more (by.ThreadCall d call) past = by_call (actors.Thread d) call (freeing past)
freeing_more (by.DriverCall r call) past = by_call (actors.Driver r) call (freeing past)
freeing_more _ past = refl

pub mutex_is : (def : LineDef) (past : List Entry) → IsValid def → IsLegalPast def past → holds_mutex past ≡ is_some (freeing past)
mutex_is def past valid legal = by_tests (holds_mutex past) (freeing past) refl refl
  where
    none : freeing past ≡ None → holds_mutex past ≡ true → ⊥
    none f on =
        let d = (one_is_freed def past valid legal).held on in
        let s = (kept def past valid legal).frees.one_device d.0 d.1 in
        let e : ◌≡◌ {A = Option (Actor × DevNo)} None (Some (s.0, d.0)) = sym f ∙ s.1 in cc

    by_tests : (b : Bool) (o : Option (Actor × DevNo)) → holds_mutex past ≡ b → freeing past ≡ o → holds_mutex past ≡ is_some o
    by_tests true None h f = absurd (none f h)
    by_tests false None h f = h
    by_tests b (Some x) h f = freeing_holds past x f
