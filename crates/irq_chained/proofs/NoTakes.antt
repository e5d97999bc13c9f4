-- Which entries are no takes, and what is due in a flow.
use Rattle.std.proofs.Common.{◌≡◌, Bool, true, false, cond, Option, Some}
use Rattle.std.proofs.Common.{None, List, [], ◌∷◌, refl, sym, subst}
use Rattle.irq_base.specs.Who.{actor_of}
use Rattle.irq_base.specs.declared.entries.Actor.{Actor}
use Rattle.irq_base.specs.declared.entries.Actor.TheVariants as actors
use Rattle.irq_base.specs.declared.entries.Entry.{Entry}
use Rattle.irq_base.specs.declared.entries.Entry.TheVariants as by
use Rattle.irq_base.specs.declared.lines.LineDef.{LineDef}
use Rattle.irq_base.specs.declared.numbers.CpuNo.{CpuNo}
use Rattle.irq_model.specs.Kinds.{is_take}
use Rattle.irq_model.specs.Next.{next_past}
use Rattle.irq_model.specs.Rounds.{flow, is_cpu}
use Rattle.irq_laws.proofs.Chosen.{the_same}
use Rattle.irq_laws.proofs.ImpliesFlow.{CpuRow, calls, returns, begins, ends, takes, resent, cpu_row}
use Rattle.irq_laws.proofs.Lists.{both_ways}
use Rattle.board_play.specs.Lines.{BoardLine, Move}
use Rattle.board_play.specs.Order.{due_on, flow_line, move_on}
use Rattle.irq_chained.specs.Turned.{IsOther}

pub other_is_no_take : (e : Entry) (a : Actor) → actor_of e ≡ a → IsOther a → is_take e ≡ false
other_is_no_take (by.Cpu cpu e) a is other = absurd (subst (λ (x : Actor). IsOther x) (sym is) other)
other_is_no_take e a is other = refl

-- what is due in a flow of the processor is no take
row_is_no_take : (d : LineDef) (c : CpuNo) (past : List Entry) (e : Entry) → is_cpu c (flow d past) ≡ true → CpuRow d c past e → is_take e ≡ false
row_is_no_take d c past e on (calls call due is) = subst (λ (f : Entry). is_take f ≡ false) is refl
row_is_no_take d c past e on (returns dev f w none is) = subst (λ (f : Entry). is_take f ≡ false) is refl
row_is_no_take d c past e on (begins dev f w left is) = subst (λ (f : Entry). is_take f ≡ false) is refl
row_is_no_take d c past e on (ends f w left is) = subst (λ (f : Entry). is_take f ≡ false) is refl
row_is_no_take d c past e on (takes off aimed signal is) = both_ways (is_cpu c (flow d past)) on off
row_is_no_take d c past e on (resent off aimed signal soft is) = both_ways (is_cpu c (flow d past)) on off

pub in_flow_is_no_take : (x : BoardLine) (c : CpuNo) (m : Move) → is_cpu c (flow x.def x.past) ≡ true
    → due_on (Some x) (actors.Cpu c) ≡ Some m → is_take m.1 ≡ false
in_flow_is_no_take x c m on due = by_next (next_past x.def x.past (actors.Cpu c)) refl due
  where
    by_next : (o : Option Entry) → next_past x.def x.past (actors.Cpu c) ≡ o → move_on x.def.line o ≡ Some m → is_take m.1 ≡ false
    by_next None is due = cc
    by_next (Some e) is due =
        let made : Move = (x.def.line, e) in
        subst (λ (n : Move). is_take n.1 ≡ false) (the_same made m due) (row_is_no_take x.def c x.past e on (cpu_row x.def c x.past e is))

pub flow_line_on : (lines : List BoardLine) (c : CpuNo) (x : BoardLine) → flow_line lines c ≡ Some x → is_cpu c (flow x.def x.past) ≡ true
flow_line_on [] c x is = cc
flow_line_on (y ∷ ys) c x is = by_test (is_cpu c (flow y.def y.past)) refl is (λ h. flow_line_on ys c x h)
  where
    by_test : (b : Bool) → is_cpu c (flow y.def y.past) ≡ b → cond b (Some y) (flow_line ys c) ≡ Some x
        → (flow_line ys c ≡ Some x → is_cpu c (flow x.def x.past) ≡ true) → is_cpu c (flow x.def x.past) ≡ true
    by_test true on is rest = subst (λ (z : BoardLine). is_cpu c (flow z.def z.past) ≡ true) (the_same y x is) on
    by_test false off is rest = rest is
