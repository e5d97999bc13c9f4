-- The line of a processor's flow, and what a move makes of flows.
use Rattle.std.proofs.Common.{◌≡◌, ◌⊎◌, inl, inr, ℕ, zero, suc, Bool, true, false, ◌||◌, cond, is_some, Option, Some, None, List, [], ◌∷◌, slice_get}
use Rattle.std.proofs.Common.{refl, sym, ap, ◌∙◌, subst}
use Rattle.irq_base.specs.Who.{actor_of}
use Rattle.irq_base.specs.declared.entries.Actor.TheVariants as actors
use Rattle.irq_base.specs.declared.entries.CpuEntry.TheVariants as cpus
use Rattle.irq_base.specs.declared.entries.Entry.{Entry}
use Rattle.irq_base.specs.declared.entries.Entry.TheVariants as by
use Rattle.irq_base.specs.declared.lines.LineDef.{LineDef}
use Rattle.irq_base.specs.declared.numbers.CpuNo.{CpuNo}
use Rattle.irq_model.specs.Kinds.{is_handle, is_take}
use Rattle.irq_model.specs.Next.{next_past}
use Rattle.irq_model.specs.Places.{last_of}
use Rattle.irq_model.specs.Rounds.{closes, cpu_of_handle, flow, is_cpu}
use Rattle.irq_model.specs.Signal.{target}
use Rattle.irq_model.proofs.Same.{cpu_from_same}
use Rattle.irq_laws.proofs.Chosen.{the_same}
use Rattle.irq_laws.proofs.ImpliesFlow.{CpuRow, calls, returns, begins, ends, takes, resent, cpu_row}
use Rattle.irq_laws.proofs.Lists.{both_ways}
use Rattle.irq_laws.proofs.Standstill.{is_its_cpu}
use Rattle.board_play.specs.Kept.{HaveOneFlow}
use Rattle.board_play.specs.Lines.{BoardLine}
use Rattle.board_play.specs.Order.{flow_line, due_line}
use Rattle.board_play.proofs.Moves.{flow_stands}

pub has_the_flow : (lines : List BoardLine) (c : CpuNo) (x : BoardLine) → flow_line lines c ≡ Some x → is_cpu c (flow x.def x.past) ≡ true
has_the_flow [] c x is = cc
has_the_flow (y ∷ ys) c x is = by_test (is_cpu c (flow y.def y.past)) refl is (has_the_flow ys c x)
  where
    by_test : (b : Bool) → is_cpu c (flow y.def y.past) ≡ b → cond b (Some y) (flow_line ys c) ≡ Some x
        → (flow_line ys c ≡ Some x → is_cpu c (flow x.def x.past) ≡ true) → is_cpu c (flow x.def x.past) ≡ true
    by_test true test is deeper = subst (λ (z : BoardLine). is_cpu c (flow z.def z.past) ≡ true) (the_same y x is) test
    by_test false test is deeper = deeper is

pub line_due : (lines : List BoardLine) (c : CpuNo) (x : BoardLine) → due_line lines c ≡ Some x → is_some (next_past x.def x.past (actors.Cpu c)) ≡ true
line_due [] c x is = cc
line_due (y ∷ ys) c x is = by_test (is_some (next_past y.def y.past (actors.Cpu c))) refl is (line_due ys c x)
  where
    by_test : (b : Bool) → is_some (next_past y.def y.past (actors.Cpu c)) ≡ b
        → cond b (Some y) (due_line ys c) ≡ Some x → (due_line ys c ≡ Some x
        → is_some (next_past x.def x.past (actors.Cpu c)) ≡ true)
        → is_some (next_past x.def x.past (actors.Cpu c)) ≡ true
    by_test true test is deeper = subst (λ (z : BoardLine). is_some (next_past z.def z.past (actors.Cpu c)) ≡ true) (the_same y x is) test
    by_test false test is deeper = deeper is

none_is_due : (o : Option Entry) → is_some o ≡ false → o ≡ None
none_is_due None h = refl
none_is_due (Some e) h = cc

pub no_line_due : (lines : List BoardLine) (c : CpuNo) → due_line lines c ≡ None → (i : ℕ) (x : BoardLine)
    → slice_get lines i ≡ Some x → next_past x.def x.past (actors.Cpu c) ≡ None
no_line_due [] c none i x at = cc
no_line_due (y ∷ ys) c none i x at = by_test (is_some (next_past y.def y.past (actors.Cpu c))) refl none i at (λ none i at. no_line_due ys c none i x at)
  where
    by_test : (b : Bool) → is_some (next_past y.def y.past (actors.Cpu c)) ≡ b → cond b (Some y) (due_line ys c) ≡ None
        → (i : ℕ) → slice_get (y ∷ ys) i ≡ Some x
        → (due_line ys c ≡ None → (i : ℕ) → slice_get ys i ≡ Some x → next_past x.def x.past (actors.Cpu c) ≡ None)
        → next_past x.def x.past (actors.Cpu c) ≡ None
    by_test true test none i at deeper = cc
    by_test false test none zero at deeper = subst (λ (z : BoardLine). next_past z.def z.past (actors.Cpu c) ≡ None)
        (the_same y x at) (none_is_due (next_past y.def y.past (actors.Cpu c)) test)
    by_test false test none (suc i) at deeper = deeper none i at

no_line_flow : (lines : List BoardLine) (c : CpuNo) → flow_line lines c ≡ None → (i : ℕ) (x : BoardLine)
    → slice_get lines i ≡ Some x → is_cpu c (flow x.def x.past) ≡ false
no_line_flow [] c none i x at = cc
no_line_flow (y ∷ ys) c none i x at = by_test (is_cpu c (flow y.def y.past)) refl none i at (λ none i at. no_line_flow ys c none i x at)
  where
    by_test : (b : Bool) → is_cpu c (flow y.def y.past) ≡ b → cond b (Some y) (flow_line ys c) ≡ None
        → (i : ℕ) → slice_get (y ∷ ys) i ≡ Some x
        → (flow_line ys c ≡ None → (i : ℕ) → slice_get ys i ≡ Some x → is_cpu c (flow x.def x.past) ≡ false)
        → is_cpu c (flow x.def x.past) ≡ false
    by_test true test none i at deeper = cc
    by_test false test none zero at deeper = subst (λ (z : BoardLine). is_cpu c (flow z.def z.past) ≡ false) (the_same y x at) test
    by_test false test none (suc i) at deeper = deeper none i at

-- a line with the processor's flow is that line
pub flow_line_is : (lines : List BoardLine) → HaveOneFlow lines → (c : CpuNo) (i : ℕ) (x : BoardLine) → slice_get lines i ≡ Some x
    → is_cpu c (flow x.def x.past) ≡ true → flow_line lines c ≡ Some x
flow_line_is lines one c i x at its = by_line (flow_line lines c) refl
  where
    by_line : (o : Option BoardLine) → flow_line lines c ≡ o → flow_line lines c ≡ Some x
    by_line None none = both_ways (is_cpu c (flow x.def x.past)) its (no_line_flow lines c none i x at)
    by_line (Some y) is =
        let s = flow_stands lines c y is in
        let same = one c s.place i y x s.at at (has_the_flow lines c y is) its in
        is ∙ sym s.at ∙ ap (λ (j : ℕ). slice_get lines j) same ∙ at

-- ---- a processor's entry

-- it is made in its flow, or is a take of the target
pub in_flow_or_take : (def : LineDef) (past : List Entry) (c : CpuNo) (e : Entry) → next_past def past (actors.Cpu c) ≡ Some e
    → (is_cpu c (flow def past) ≡ true) ⊎ ((target def past ≡ Some c) × (is_take e ≡ true))
in_flow_or_take def past c e due = by_row (cpu_row def c past e due)
  where
    by_row : CpuRow def c past e → (is_cpu c (flow def past) ≡ true) ⊎ ((target def past ≡ Some c) × (is_take e ≡ true))
    by_row (calls call u same) = inl u.of_flow
    by_row (returns d f w n same) = inl f
    by_row (begins d f w l same) = inl f
    by_row (ends f w l same) = inl f
    by_row (takes f t s same) = inr (is_its_cpu c (target def past) t, ap is_take (sym same))
    by_row (resent f t s o same) = inr (is_its_cpu c (target def past) t, ap is_take (sym same))

-- ---- an entry gives a flow to its own processor alone

flow_given : (c : CpuNo) (e : Entry) → is_cpu c (cpu_of_handle (Some e)) ≡ true → actor_of e ≡ actors.Cpu c
flow_given c (by.Cpu cpu (cpus.Take way answer)) h = ap actors.Cpu (sym (cpu_from_same c cpu h))
flow_given c e h = cc

pub flow_after : (def : LineDef) (past : List Entry) (c : CpuNo) (e : Entry) → is_cpu c (flow def (e ∷ past)) ≡ true
    → (is_cpu c (flow def past) ≡ true) ⊎ (actor_of e ≡ actors.Cpu c)
flow_after def past c e = by_test (is_handle e || closes def e)
  where
    by_test : (b : Bool) → is_cpu c (cpu_of_handle (cond b (Some e) (last_of (λ e. is_handle e || closes def e) past))) ≡ true
        → (is_cpu c (flow def past) ≡ true) ⊎ (actor_of e ≡ actors.Cpu c)
    by_test true h = inr (flow_given c e h)
    by_test false h = inl h
