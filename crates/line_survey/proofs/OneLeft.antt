-- A past leaves its line in one way.
use Rattle.std.proofs.Common.{◌≡◌, ℕ, true, false, nat_lt, Option, Some, None, List, refl, sym, ap, ◌∙◌, arith}
use Rattle.std.proofs.lemmas.Bool.{ltb-false, true≢false}
use Rattle.irq_base.specs.declared.entries.Actor.{Actor}
use Rattle.irq_base.specs.declared.entries.Actor.TheVariants as actors
use Rattle.irq_base.specs.declared.entries.Entry.{Entry}
use Rattle.irq_base.specs.declared.lines.LineDef.{LineDef}
use Rattle.irq_base.specs.declared.numbers.CpuNo.{CpuNo}
use Rattle.irq_base.specs.declared.numbers.DevNo.{DevNo}
use Rattle.irq_base.specs.declared.numbers.DriverNo.{DriverNo}
use Rattle.irq_model.specs.Waits.{IsLowestHungPast, is_before}
use Rattle.line_wanted.specs.Left.{Leaves, left_of}
use Rattle.line_wanted.specs.declared.left.Left.{Left}

-- actors of whom neither comes before the other are the same

abbrev dev_no : ℕ → DevNo
dev_no n = record { 0 = n }

abbrev cpu_no : ℕ → CpuNo
cpu_no n = record { 0 = n }

abbrev driver_no : ℕ → DriverNo
driver_no n = record { 0 = n }

same_number : (m n : ℕ) → nat_lt m n ≡ false → nat_lt n m ≡ false → m ≡ n
same_number m n p q = let x = ltb-false m n p in let y = ltb-false n m q in omega (arith, x, y)

neither : (a b : Actor) → is_before a b ≡ false → is_before b a ≡ false → a ≡ b
neither (actors.Thread d) (actors.Thread e) p q = ap (λ n. actors.Thread (dev_no n)) (same_number d.0 e.0 p q)
neither (actors.Thread d) (actors.Cpu c) p q = absurd (true≢false p)
neither (actors.Thread d) (actors.Driver r) p q = absurd (true≢false p)
neither (actors.Cpu c) (actors.Thread d) p q = absurd (true≢false q)
neither (actors.Cpu c) (actors.Cpu f) p q = ap (λ n. actors.Cpu (cpu_no n)) (same_number c.0 f.0 p q)
neither (actors.Cpu c) (actors.Driver r) p q = absurd (true≢false p)
neither (actors.Driver r) (actors.Thread d) p q = absurd (true≢false q)
neither (actors.Driver r) (actors.Cpu c) p q = absurd (true≢false q)
neither (actors.Driver r) (actors.Driver s) p q = ap (λ n. actors.Driver (driver_no n)) (same_number r.0 s.0 p q)

pub one_hung : (def : LineDef) (past : List Entry) (a b : Option Actor) → IsLowestHungPast def past a → IsLowestHungPast def past b → a ≡ b
one_hung def past None None p q = refl
one_hung def past None (Some b) p q = absurd (p b q.0)
one_hung def past (Some a) None p q = absurd (q a p.0)
one_hung def past (Some a) (Some b) p q = ap Some (neither a b (q.1 a p.0) (p.1 b q.0))

pub one_left : (def : LineDef) (past : List Entry) (x y : Left) → Leaves def x past → Leaves def y past → x ≡ y
one_left def past x y a b =
    sym a.left_is ∙ (ap (λ (o : Option Actor). left_of def o past) (one_hung def past x.hung y.hung a.hung b.hung) ∙ b.left_is)
