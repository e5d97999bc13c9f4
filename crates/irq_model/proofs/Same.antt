-- Numbers that are the same.
use Rattle.std.proofs.Common.{◌≡◌, ℕ, Bool, true, false, refl, sym, ap, ◌∙◌, eq-eqb, eqb-true}
use Rattle.irq_base.specs.declared.numbers.LineNo.{LineNo}
use Rattle.irq_base.specs.declared.numbers.CpuNo.{CpuNo}
use Rattle.irq_base.specs.declared.numbers.DevNo.{DevNo}
use Rattle.irq_base.specs.declared.numbers.DriverNo.{DriverNo}
use Rattle.irq_base.specs.declared.entries.Actor.{Actor}
use Rattle.irq_base.specs.declared.entries.Actor.TheVariants as actors
use Rattle.irq_model.specs.Kinds.{same_line, same_cpu, same_dev, same_driver, same_actor}

pub same_self : (d : DevNo) → same_dev d d ≡ true
same_self d = eq-eqb d.0 d.0 refl

pub same_self_driver : (r : DriverNo) → same_driver r r ≡ true
same_self_driver r = eq-eqb r.0 r.0 refl

pub same_self_cpu : (c : CpuNo) → same_cpu c c ≡ true
same_self_cpu c = eq-eqb c.0 c.0 refl

pub same_self_line : (l : LineNo) → same_line l l ≡ true
same_self_line l = eq-eqb l.0 l.0 refl

pub same_self_actor : (a : Actor) → same_actor a a ≡ true
same_self_actor (actors.Thread d) = same_self d
same_self_actor (actors.Cpu c) = same_self_cpu c
same_self_actor (actors.Driver r) = same_self_driver r

pub dev_from_same : (a b : DevNo) → same_dev a b ≡ true → a ≡ b
dev_from_same a b h = let named : ℕ → DevNo = λ n. record { 0 = n } in ap named (eqb-true a.0 b.0 h)

pub driver_from_same : (a b : DriverNo) → same_driver a b ≡ true → a ≡ b
driver_from_same a b h = let named : ℕ → DriverNo = λ n. record { 0 = n } in ap named (eqb-true a.0 b.0 h)

pub cpu_from_same : (a b : CpuNo) → same_cpu a b ≡ true → a ≡ b
cpu_from_same a b h = let named : ℕ → CpuNo = λ n. record { 0 = n } in ap named (eqb-true a.0 b.0 h)

pub line_from_same : (a b : LineNo) → same_line a b ≡ true → a ≡ b
line_from_same a b h = let named : ℕ → LineNo = λ n. record { 0 = n } in ap named (eqb-true a.0 b.0 h)

pub actor_from_same : (a b : Actor) → same_actor a b ≡ true → a ≡ b
actor_from_same (actors.Thread d) (actors.Thread e) h = ap actors.Thread (dev_from_same d e h)
actor_from_same (actors.Cpu c) (actors.Cpu e) h = ap actors.Cpu (cpu_from_same c e h)
actor_from_same (actors.Driver r) (actors.Driver s) h = ap actors.Driver (driver_from_same r s h)
actor_from_same (actors.Thread d) (actors.Cpu c) h = cc
actor_from_same (actors.Thread d) (actors.Driver r) h = cc
actor_from_same (actors.Cpu c) (actors.Thread d) h = cc
actor_from_same (actors.Cpu c) (actors.Driver r) h = cc
actor_from_same (actors.Driver r) (actors.Thread d) h = cc
actor_from_same (actors.Driver r) (actors.Cpu c) h = cc

-- the same either way round
pub same_both : (a b : DevNo) → same_dev a b ≡ same_dev b a
same_both a b = by_tests (same_dev a b) (same_dev b a) refl refl
  where
    by_tests : (x y : Bool) → same_dev a b ≡ x → same_dev b a ≡ y → x ≡ y
    by_tests true true p q = refl
    by_tests false false p q = refl
    by_tests true false p q = sym (eq-eqb b.0 a.0 (sym (eqb-true a.0 b.0 p))) ∙ q
    by_tests false true p q = sym p ∙ eq-eqb a.0 b.0 (sym (eqb-true b.0 a.0 q))
