-- Why a line is masked, and the parts of the reasons that are read off what every entry keeps.
use Rattle.std.proofs.Common.{◌≡◌, ◌⊎◌, inl, inr, Bool, true, false, not, ◌||◌, ◌&&◌, Some, List, [], ◌∷◌, reverse, refl, sym, ap, ◌∙◌, subst, arith}
use Rattle.std.proofs.lemmas.Bool.{and_from, or_cases, or_left, or_right}
use Rattle.irq_base.specs.declared.numbers.DevNo.{DevNo}
use Rattle.irq_base.specs.declared.lines.FlowKind.{FlowKind}
use Rattle.irq_base.specs.declared.lines.FlowKind.TheVariants as flows
use Rattle.irq_base.specs.declared.lines.LineDef.{LineDef}
use Rattle.irq_base.specs.declared.entries.Actor.{Actor}
use Rattle.irq_base.specs.declared.entries.Actor.TheVariants as actors
use Rattle.irq_base.specs.declared.entries.Entry.{Entry}
use Rattle.irq_base.specs.declared.entries.Entry.TheVariants as by
use Rattle.irq_base.specs.declared.entries.CallEntry.{CallEntry}
use Rattle.irq_base.specs.declared.entries.CallEntry.TheVariants as called
use Rattle.irq_base.specs.declared.entries.UnlinkAnswer.TheVariants as unlinks
use Rattle.irq_model.specs.Kinds.{same_dev}
use Rattle.irq_model.specs.Lines.{is_edge_line, is_level_line, is_edge_flow, is_level_flow, is_eoi_flow}
use Rattle.irq_model.specs.Links.{depth, is_disabled}
use Rattle.irq_model.specs.Masks.{is_masked}
use Rattle.irq_model.specs.Rounds.{has_flow}
use Rattle.irq_model.specs.Threads.{is_some_unfinished}
use Rattle.irq_model.specs.Reason.{is_being_freed, HasReason, OneIsCalled, OneIsFreed}
use Rattle.irq_model.specs.Legal.{IsLegal, IsLegalPast}
use Rattle.irq_model.specs.Valid.{IsValid}
use Rattle.irq_model.proofs.Same.{same_self}
use Rattle.irq_laws.specs.Actors.{by_someone}
use Rattle.irq_laws.specs.Kept.{Kept, freeing, freed_on}
use Rattle.irq_laws.proofs.Chosen.{the_same}
use Rattle.irq_laws.proofs.Lists.{both_ways}
use Rattle.irq_laws.proofs.Mutex.{freeing_holds, holder}
use Rattle.irq_laws.proofs.FreesKept.{same_free}
use Rattle.irq_laws.proofs.Masking.{level_is_not, zero_depth}
use Rattle.irq_laws.proofs.KeptAlways.{kept}

-- ---- a masked line

-- an enabled edge line is masked within a flow
pub edge_reason : (def : LineDef) (f : FlowKind) (past : List Entry) → IsValid def → Kept def past
    → is_edge_line def ≡ true → def.flow ≡ f → is_masked def past ≡ true → depth past ≡ 0 → has_flow def past ≡ true
edge_reason def flows.Edge past valid k edge is m zero = (k.edges.edge_flow (ap is_edge_flow is) m zero).0
edge_reason def flows.Level past valid k edge is m zero = level_is_not (is_edge_line def) edge (valid.level_flow (ap is_level_flow is))
edge_reason def flows.Eoi past valid k edge is m zero = both_ways (is_masked def past) m (k.edges.eoi_edge edge (ap is_eoi_flow is) zero)

reason : (def : LineDef) (past : List Entry) → IsValid def → Kept def past → is_masked def past ≡ true
    → (is_disabled past || (has_flow def past || (is_level_line def && is_some_unfinished def past))) ≡ true
reason def past valid k m = by_disabled (is_disabled past) refl
  where
    by_held : is_edge_line def ≡ false → (has_flow def past ≡ true) ⊎ (is_some_unfinished def past ≡ true)
        → (is_disabled past || (has_flow def past || (is_level_line def && is_some_unfinished def past))) ≡ true
    by_held level (inl f) = or_right (is_disabled past) _ (or_left (has_flow def past) _ f)
    by_held level (inr u) = or_right (is_disabled past) _ (or_right (has_flow def past) _ (and_from _ _ (ap not level) u))

    by_line : (b : Bool) → is_edge_line def ≡ b → depth past ≡ 0
        → (is_disabled past || (has_flow def past || (is_level_line def && is_some_unfinished def past))) ≡ true
    by_line true edge zero = or_right (is_disabled past) _ (or_left (has_flow def past) _ (edge_reason def def.flow past valid k edge refl m zero))
    by_line false level zero = by_held level (or_cases _ _ (k.levels.level (ap not level) m zero))

    by_disabled : (b : Bool) → is_disabled past ≡ b → (is_disabled past || (has_flow def past || (is_level_line def && is_some_unfinished def past))) ≡ true
    by_disabled true is = or_left (is_disabled past) _ is
    by_disabled false is = by_line (is_edge_line def) refl (zero_depth past is)

pub has_reason : (def : LineDef) (h : List Entry) → IsValid def → IsLegal def h → HasReason def h
has_reason def h valid legal started masked linked = reason def (reverse h) valid (kept def (reverse h) valid legal) masked

-- ---- one handler, and one free

pub one_is_called : (def : LineDef) (past : List Entry) → IsValid def → IsLegalPast def past → OneIsCalled def past
one_is_called def past valid legal =
    let k = kept def past valid legal in
    record {
      one = λ d e a b. the_same d e (sym (k.runs.called d a) ∙ k.runs.called e b);
      in_round = λ d a. (let w = k.runs.working d (k.runs.called d a) in (w.1, w.2));
    }

none_here : (s f : Bool) → f ≡ true → ((s && false) || f) ≡ true
none_here s f h = grind arith

call_frees : (b : Actor) (call : CallEntry) (past : List Entry) (a : Actor) (d : DevNo) → (freeing past ≡ Some (a, d) → is_being_freed past d ≡ true)
    → freed_on b call (freeing past) ≡ Some (a, d) → is_being_freed (by_someone call ∷ past) d ≡ true
call_frees b (called.Unlink (unlinks.Unlinked last) x) past a d k h =
    let p : Actor × DevNo = (b, x) in
    let q : Actor × DevNo = (a, d) in
    let same : x ≡ d = ap (λ (y : Actor × DevNo). y.1) (the_same p q h) in
    or_left _ _ (and_from _ _ (subst (λ (y : DevNo). same_dev d y ≡ true) (sym same) (same_self d)) refl)
call_frees b (called.Unlink unlinks.NotThere x) past a d k h = none_here (same_dev d x) (is_being_freed past d) (k h)
call_frees b (called.Freed x) past a d k h = cc
call_frees b call past a d k h = k h

freed_device : (past : List Entry) (a : Actor) (d : DevNo) → freeing past ≡ Some (a, d) → is_being_freed past d ≡ true
freed_device [] a d h = cc
freed_device (by.CpuCall c call ∷ past) a d h = call_frees (actors.Cpu c) call past a d (freed_device past a d) h
freed_device (by.ThreadCall x call ∷ past) a d h = call_frees (actors.Thread x) call past a d (freed_device past a d) h
freed_device (by.DriverCall s call ∷ past) a d h = call_frees (actors.Driver s) call past a d (freed_device past a d) h
freed_device (e ∷ past) a d h = freed_device past a d h

pub one_is_freed : (def : LineDef) (past : List Entry) → IsValid def → IsLegalPast def past → OneIsFreed def past
one_is_freed def past valid legal =
    let k = kept def past valid legal in
    record {
      one = λ d e a b. (let f = k.frees.one_device d a in let g = k.frees.one_device e b in (same_free past f.0 g.0 d e f.1 g.1).1);
      held = λ h. (let o = holder past h in (o.dev, freed_device past o.maker o.dev (k.frees.one_maker o.maker o.dev o.stands_there)));
      free = λ d a. (let f = k.frees.one_device d a in freeing_holds past _ f.1);
    }
