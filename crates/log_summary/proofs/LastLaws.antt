-- A legal history says which of its unlinks are last ones.
use Rattle.std.proofs.Common.{◌≡◌, ◌+◌, ◌≤◌, Bool, true, false, not, ◌&&◌, cond, List, [], ◌∷◌, filter, reverse, refl, sym, ap, ◌∙◌, arith}
use Rattle.std.specs.List.{list_any}
use Rattle.std.proofs.lemmas.Bool.{false≢true}
use Rattle.irq_base.specs.declared.entries.Entry.{Entry}
use Rattle.irq_base.specs.declared.entries.Entry.TheVariants as by
use Rattle.irq_base.specs.declared.entries.Actor.{Actor}
use Rattle.irq_base.specs.declared.entries.Actor.TheVariants as actors
use Rattle.irq_base.specs.declared.entries.CallEntry.{CallEntry}
use Rattle.irq_base.specs.declared.entries.CallEntry.TheVariants as called
use Rattle.irq_base.specs.declared.entries.UnlinkAnswer.TheVariants as unlinks
use Rattle.irq_base.specs.declared.lines.LineDef.{LineDef}
use Rattle.irq_base.specs.declared.numbers.DevNo.{DevNo}
use Rattle.irq_model.specs.Kinds.{same_dev, made_by}
use Rattle.irq_model.specs.Legal.{IsDue, IsLegal, IsLegalPast}
use Rattle.irq_model.specs.Links.{is_none_linked, is_linked, requested, linked, is_empty}
use Rattle.irq_model.specs.Next.{is_only}
use Rattle.irq_model.specs.Places.{EachEntry, count_of}
use Rattle.irq_model.proofs.LinkSteps.{linked_unlink}
use Rattle.irq_model.proofs.ListSteps.{count_filter, requested_once}
use Rattle.irq_model.proofs.Same.{same_self, same_both}
use Rattle.irq_laws.proofs.ImpliesDriver.{unlink_due}
use Rattle.irq_laws.proofs.Requested.{of_linked}
use Rattle.log_summary.specs.Lasts.{TellsLast, TellsLasts}

abbrev others : DevNo → List DevNo → List DevNo
others d ds = filter (λ x. not (same_dev x d)) ds

-- none of these is d
without : (d : DevNo) (ds : List DevNo) → count_of (same_dev d) ds ≤ 0 → others d ds ≡ ds
without d [] none = refl
without d (x ∷ ds) none = by_test (same_dev d x) (same_both x d) none (without d ds)
  where
    by_test : (b : Bool) → same_dev x d ≡ b → cond b (count_of (same_dev d) ds + 1) (count_of (same_dev d) ds) ≤ 0
        → (count_of (same_dev d) ds ≤ 0 → others d ds ≡ ds) → others d (x ∷ ds) ≡ x ∷ ds
    by_test true is m rest = absurd (omega (arith, m))
    by_test false is m rest = rw is (ap (λ ys. x ∷ ys) (rest m))

-- nothing is left exactly if d is the only one
left_without : (d : DevNo) (ds : List DevNo) → list_any (same_dev d) ds ≡ true → count_of (same_dev d) ds ≤ 1 → is_empty (others d ds) ≡ is_only d ds
left_without d [] there once = cc
left_without d (x ∷ ds) there once = by_test (same_dev d x) (same_both x d) once
  where
    by_test : (b : Bool) → same_dev x d ≡ b → cond b (count_of (same_dev d) ds + 1) (count_of (same_dev d) ds) ≤ 1
        → is_empty (others d (x ∷ ds)) ≡ (b && is_empty ds)
    by_test true is m = rw is (ap is_empty (without d ds (omega (arith, m))))
    by_test false is m = rw is refl

-- what an unlink that is due answers
answer_of : (b last only : Bool) → unlinks.Unlinked last ≡ cond b (unlinks.Unlinked only) unlinks.NotThere → (last ≡ only) × (b ≡ true)
answer_of true last only h = (cc, refl)
answer_of false last only h = cc

last_told : (def : LineDef) (a : Actor) (d : DevNo) (last : Bool) (past : List Entry)
    → IsDue def (made_by a (called.Unlink (unlinks.Unlinked last) d)) past
    → is_none_linked (by.DriverCall (record { 0 = 0 }) (called.Unlink (unlinks.Unlinked last) d) ∷ past) ≡ last
last_told def a d last past due =
    let answer = answer_of (is_linked past d) last (is_only d (linked past)) (unlink_due def a d (unlinks.Unlinked last) past due).answer_is in
    let there : list_any (same_dev d) (linked past) ≡ true = of_linked (same_dev d) past d answer.1 (same_self d) in
    let once : count_of (same_dev d) (linked past) ≤ 1
    = (let n = count_filter (same_dev d) (is_linked past) (requested past) in let m = requested_once d past in
    omega (arith, n, m)) in
    ap is_empty (linked_unlink (record { 0 = 0 }) d last past) ∙ left_without d (linked past) there once ∙ sym answer.0

-- whoever makes the call
call_tells : (def : LineDef) (a : Actor) (call : CallEntry) (past : List Entry) → IsDue def (made_by a call) past
    → TellsLast (by.DriverCall (record { 0 = 0 }) call) past
call_tells def a (called.Unlink (unlinks.Unlinked last) d) past due = λ unlinks. last_told def a d last past due
call_tells def a call past due = λ unlinks. absurd (false≢true unlinks)

tells : (def : LineDef) (e : Entry) (past : List Entry) → IsDue def e past → TellsLast e past
tells def (by.CpuCall c call) past due = call_tells def (actors.Cpu c) call past due
tells def (by.ThreadCall d call) past due = call_tells def (actors.Thread d) call past due
tells def (by.DriverCall r call) past due = call_tells def (actors.Driver r) call past due
tells def e past due = λ unlinks. absurd (false≢true unlinks)

each_tells : (def : LineDef) (past : List Entry) → IsLegalPast def past → EachEntry TellsLast past
each_tells def [] legal = tt
each_tells def (e ∷ past) legal = (tells def e past legal.0, each_tells def past legal.1)

pub legal_tells : (def : LineDef) (h : List Entry) → IsLegal def h → TellsLasts h
legal_tells def h legal = each_tells def (reverse h) legal
