-- Which processor may take.
use Rattle.std.proofs.Common.{◌≡◌, true, false, List, Option, Some, None, reverse, refl, sym, subst, ◌∙◌}
use Rattle.std.specs.Prelude.{IsTrue}
use Rattle.std.proofs.lemmas.Bool.{false≢true}
use Rattle.std.proofs.lemmas.List.{reverse-reverse}
use Rattle.std.proofs.lemmas.Option.{none-some}
use Rattle.irq_base.specs.declared.numbers.CpuNo.{CpuNo}
use Rattle.irq_base.specs.declared.entries.Actor.TheVariants as actors
use Rattle.irq_base.specs.declared.entries.Entry.{Entry}
use Rattle.irq_base.specs.declared.lines.LineDef.{LineDef}
use Rattle.irq_model.specs.Kinds.{is_take}
use Rattle.irq_model.specs.Next.{next_past}
use Rattle.irq_model.specs.Signal.{target}
use Rattle.irq_laws.proofs.OwnLaws.{takes_at_target}
use Rattle.irq_line.specs.Queries.{is_some_take}
use Rattle.plain_line.specs.Looked.{IsTakerAt}

module _ (def : LineDef) (past : List Entry) where
  take_there : (c : CpuNo) (e : Entry) → is_take e ≡ true → next_past def past (actors.Cpu c) ≡ Some e → target def past ≡ Some c
  take_there c e is due =
      let back : reverse (reverse past) ≡ past = reverse-reverse past in
      subst (λ (p : List Entry). target def p ≡ Some c) back
      (takes_at_target def (reverse past) c e is (subst (λ (p : List Entry). next_past def p (actors.Cpu c) ≡ Some e) (sym back) due))

  takes_there : (c : CpuNo) → IsTrue (is_some_take (next_past def past (actors.Cpu c))) → target def past ≡ Some c
  takes_there c = by_due (next_past def past (actors.Cpu c)) refl
    where
      by_due : (o : Option Entry) → next_past def past (actors.Cpu c) ≡ o → IsTrue (is_some_take o) → target def past ≡ Some c
      by_due None is h = absurd (false≢true h)
      by_due (Some e) is h = take_there c e h is

  pub untargeted : target def past ≡ None → IsTakerAt def past None
  untargeted none c = (λ h. absurd (none-some c h), λ h. absurd (none-some c (sym none ∙ takes_there c h)))

  pub taken : (cpu : CpuNo) → target def past ≡ Some cpu → is_some_take (next_past def past (actors.Cpu cpu)) ≡ true → IsTakerAt def past (Some cpu)
  taken cpu there is c = (λ h. subst (λ (o : Option CpuNo). by o) h is, λ h. sym there ∙ takes_there c h)
    where
      by : Option CpuNo → Type 0
      by None = ⊥
      by (Some x) = IsTrue (is_some_take (next_past def past (actors.Cpu x)))

  pub untaken : (cpu : CpuNo) → target def past ≡ Some cpu → is_some_take (next_past def past (actors.Cpu cpu)) ≡ false → IsTakerAt def past None
  untaken cpu there not_taken c = (λ h. absurd (none-some c h), λ h. absurd (by_same c (sym there ∙ takes_there c h) h))
    where
      by : Option CpuNo → Type 0
      by None = ⊥
      by (Some x) = is_some_take (next_past def past (actors.Cpu x)) ≡ false

      by_same : (c : CpuNo) → Some cpu ≡ Some c → IsTrue (is_some_take (next_past def past (actors.Cpu c))) → ⊥
      by_same c same h = false≢true (sym (subst (λ (o : Option CpuNo). by o) same not_taken) ∙ h)
