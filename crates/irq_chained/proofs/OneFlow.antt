-- At most one child has a flow of processor 0.
use Rattle.std.proofs.Common.{◌≡◌, ℕ, ◌==◌, Bool, true, false, ◌||◌, cond, Option, Some, None, List, [], ◌∷◌, map, slice_get, refl, sym, ap, ◌∙◌}
use Rattle.std.proofs.Common.{subst, eqb-true}
use Rattle.irq_base.specs.declared.entries.Actor.TheVariants as actors
use Rattle.irq_base.specs.declared.entries.CpuEntry.TheVariants as cpus
use Rattle.irq_base.specs.declared.entries.Entry.{Entry}
use Rattle.irq_base.specs.declared.entries.Entry.TheVariants as by
use Rattle.irq_base.specs.declared.lines.LineDef.{LineDef}
use Rattle.irq_base.specs.declared.numbers.CpuNo.{CpuNo}
use Rattle.irq_base.specs.declared.numbers.LineNo.{LineNo}
use Rattle.irq_model.specs.Kinds.{is_handle, is_take, same_line}
use Rattle.irq_model.specs.Places.{last_of}
use Rattle.irq_model.specs.Rounds.{closes, cpu_of_handle, flow, is_cpu}
use Rattle.irq_model.proofs.Same.{line_from_same}
use Rattle.irq_laws.proofs.Lists.{both_ways}
use Rattle.board_def.specs.Rules.{IsBoard}
use Rattle.board_def.specs.Seen.{BoardSeen}
use Rattle.board_play.specs.Lines.{BoardLine, Move, defs_of, lines_after, lines_of}
use Rattle.board_play.specs.Order.{due_on, flow_line}
use Rattle.board_play.proofs.Members.{AreApart, defs_at, past_at}
use Rattle.board_play.proofs.Moving.{lines_more, moved_at}
use Rattle.board_play.proofs.OfBoard.{apart_defs}
use Rattle.board_core.proofs.Searches.{no_flow_at}
use Rattle.irq_chained.specs.Chain.{IsChainLegal, chain_next, child, children, cpu_0}
use Rattle.irq_chained.specs.Chain.{in_chain, lines_in, of_cpu_0, open_status, status_of}
use Rattle.irq_chained.specs.Promise.{HasOneFlow}
use Rattle.irq_chained.specs.declared.chain.ChainEntry.{ChainEntry}
use Rattle.irq_chained.specs.declared.chain.ChainEntry.TheVariants as steps
use Rattle.irq_chained.proofs.NoTakes.{flow_line_on, in_flow_is_no_take}
use Rattle.irq_chained.proofs.Stepping.{places_apart}

-- an entry that is no take begins no flow
no_handle : (e : Entry) → is_take e ≡ false → cpu_of_handle (Some e) ≡ None
no_handle (by.Cpu cpu (cpus.Take way answer)) untaken = cc
no_handle (by.Cpu cpu (cpus.Begin dev)) untaken = refl
no_handle (by.Cpu cpu (cpus.Return answer dev served)) untaken = refl
no_handle (by.Cpu cpu (cpus.End again unmask note)) untaken = refl
no_handle (by.Thread dev e) untaken = refl
no_handle (by.Driver r e) untaken = refl
no_handle (by.CpuCall cpu e) untaken = refl
no_handle (by.ThreadCall dev e) untaken = refl
no_handle (by.DriverCall r e) untaken = refl

kept_flow : (c : CpuNo) (def : LineDef) (e : Entry) (past : List Entry) → is_take e ≡ false
    → is_cpu c (flow def (e ∷ past)) ≡ true → is_cpu c (flow def past) ≡ true
kept_flow c def e past untaken on = by_test (is_handle e || closes def e) on
  where
    by_test : (t : Bool) → is_cpu c (cpu_of_handle (cond t (Some e) (last_of (λ e. is_handle e || closes def e) past))) ≡ true
        → is_cpu c (flow def past) ≡ true
    by_test false on = on
    by_test true on = let bad = sym on ∙ ap (λ (o : Option CpuNo). is_cpu c o) (no_handle e untaken) in cc

-- the child's entry of a step
same_entry : (a b : LineNo) (e f : Entry) → Some (steps.Child a e) ≡ Some (steps.Child b f) → e ≡ f
same_entry a b e f is = cc

module _ (b : BoardSeen) (g : List ChainEntry) where
  abbrev lines : List BoardLine
  lines = lines_in b g

  -- a take of processor 0 is made where no child has a flow of it
  take_at_rest : (o : Option ℕ) (line : LineNo) (e : Entry) → is_take e ≡ true → of_cpu_0 g lines o ≡ Some (steps.Child line e)
      → flow_line lines cpu_0 ≡ None
  take_at_rest None line e takes is = by_status (status_of lines == 0) is
    where
      by_status : (t : Bool) → cond t None (Some (steps.Enter cpu_0 (status_of lines))) ≡ Some (steps.Child line e) → flow_line lines cpu_0 ≡ None
      by_status true is = cc
      by_status false is = cc
  take_at_rest (Some status) line e takes is = by_flow (flow_line lines cpu_0) refl is
    where
      by_flow : (x : Option BoardLine) → flow_line lines cpu_0 ≡ x → in_chain g lines status x ≡ Some (steps.Child line e)
          → flow_line lines cpu_0 ≡ None
      by_flow None rests is = rests
      by_flow (Some x) on is = by_move (due_on (Some x) (actors.Cpu cpu_0)) refl is
        where
          by_move : (m : Option Move) → due_on (Some x) (actors.Cpu cpu_0) ≡ m → child m ≡ Some (steps.Child line e) → flow_line lines cpu_0 ≡ None
          by_move None due is = cc
          by_move (Some m) due is =
              absurd (both_ways (is_take e) takes
              (subst (λ (f : Entry). is_take f ≡ false) (same_entry m.0 line m.1 e is) (in_flow_is_no_take x cpu_0 m (flow_line_on lines cpu_0 x on) due)))

  take_by_0 : (c : CpuNo) (line : LineNo) (e : Entry) → is_take e ≡ true → chain_next b g (actors.Cpu c) ≡ Some (steps.Child line e)
      → flow_line lines cpu_0 ≡ None
  take_by_0 c line e takes is = by_zero (c.0 == 0) is
    where
      by_zero : (t : Bool) → cond t (of_cpu_0 g lines (open_status g)) None ≡ Some (steps.Child line e) → flow_line lines cpu_0 ≡ None
      by_zero true is = take_at_rest (open_status g) line e takes is
      by_zero false is = cc

  rests_at_take : (line : LineNo) (e : Entry) → is_take e ≡ true
      → IsChainLegal b (steps.Child line e ∷ g) → flow_line lines cpu_0 ≡ None
  rests_at_take line (by.Cpu c (cpus.Take way answer)) takes legal = take_by_0 c line (by.Cpu c (cpus.Take way answer)) takes legal.0
  rests_at_take line (by.Cpu c (cpus.Begin dev)) takes legal = cc
  rests_at_take line (by.Cpu c (cpus.Return answer dev served)) takes legal = cc
  rests_at_take line (by.Cpu c (cpus.End again unmask note)) takes legal = cc
  rests_at_take line (by.Thread dev e) takes legal = cc
  rests_at_take line (by.Driver r e) takes legal = cc
  rests_at_take line (by.CpuCall cpu e) takes legal = cc
  rests_at_take line (by.ThreadCall dev e) takes legal = cc
  rests_at_take line (by.DriverCall r e) takes legal = cc

  module _ (isb : IsBoard b) (line : LineNo) (e : Entry) (legal : IsChainLegal b (steps.Child line e ∷ g)) where
    abbrev m : Move
    m = (line, e)

    -- after a step that is no take a child has the flow that it had
    had_flow : is_take e ≡ false → (i : ℕ) (y : BoardLine) → slice_get (lines_after m lines) i ≡ Some y
        → is_cpu cpu_0 (flow y.def y.past) ≡ true
        → (x : BoardLine) × (slice_get lines i ≡ Some x) × (is_cpu cpu_0 (flow x.def x.past) ≡ true)
    had_flow untaken i y at on =
        let was = moved_at lines m i y at in (
          was.line,
          was.at,
          by_line was.line (same_line was.line.def.line line)
              (subst (λ (z : BoardLine). is_cpu cpu_0 (flow z.def z.past) ≡ true) (sym was.is) on),
        )
      where
        by_line : (x : BoardLine) (t : Bool) → is_cpu cpu_0 (flow x.def (cond t (e ∷ x.past) x.past)) ≡ true → is_cpu cpu_0 (flow x.def x.past) ≡ true
        by_line x true on = kept_flow cpu_0 x.def e x.past untaken on
        by_line x false on = on

    -- after a take a child that has one is the one that was taken
    is_taken_one : is_take e ≡ true → (i : ℕ) (y : BoardLine) → slice_get (lines_after m lines) i ≡ Some y
        → is_cpu cpu_0 (flow y.def y.past) ≡ true
        → (x : BoardLine) × (slice_get lines i ≡ Some x) × (same_line x.def.line line ≡ true)
    is_taken_one takes i y at on =
        let was = moved_at lines m i y at in
        let rests = no_flow_at lines cpu_0 (rests_at_take line e takes legal) i was.line was.at in (
          was.line,
          was.at,
          by_line was.line (same_line was.line.def.line line) refl rests
              (subst (λ (z : BoardLine). is_cpu cpu_0 (flow z.def z.past) ≡ true) (sym was.is) on),
        )
      where
        by_line : (x : BoardLine) (t : Bool) → same_line x.def.line line ≡ t → is_cpu cpu_0 (flow x.def x.past) ≡ false
            → is_cpu cpu_0 (flow x.def (cond t (e ∷ x.past) x.past)) ≡ true → same_line x.def.line line ≡ true
        by_line x true same rests on = same
        by_line x false other rests on = absurd (both_ways (is_cpu cpu_0 (flow x.def x.past)) on rests)

    apart : AreApart (map (λ (x : BoardLine). x.def) lines)
    apart = subst (λ ds. AreApart ds) (sym (defs_at (defs_of b) (children g))) (apart_defs b isb)

    child_flow : HasOneFlow lines → HasOneFlow (lines_after m lines)
    child_flow one i j x y at_x at_y on_x on_y = by_take (is_take e) refl
      where
        same_place : (t : Bool) → (i == j) ≡ t → (v w : BoardLine) → slice_get lines i ≡ Some v → slice_get lines j ≡ Some w
            → same_line v.def.line line ≡ true → same_line w.def.line line ≡ true → i ≡ j
        same_place true is v w at_v at_w a z = eqb-true i j is
        same_place false is v w at_v at_w a z =
            absurd (both_ways (same_line v.def.line w.def.line)
            (ap (λ (l : LineNo). same_line v.def.line l) (line_from_same w.def.line line z) ∙ a)
            (places_apart lines apart i j v w at_v at_w is))

        by_take : (t : Bool) → is_take e ≡ t → i ≡ j
        by_take false untaken =
            let a = had_flow untaken i x at_x on_x in
            let z = had_flow untaken j y at_y on_y in
            one i j a.0 z.0 a.1 z.1 a.2 z.2
        by_take true takes =
            let a = is_taken_one takes i x at_x on_x in
            let z = is_taken_one takes j y at_y on_y in
            same_place (i == j) refl a.0 z.0 a.1 z.1 a.2 z.2

no_flow_yet : (b : BoardSeen) (i : ℕ) (x : BoardLine) → slice_get (lines_of b []) i ≡ Some x → is_cpu cpu_0 (flow x.def x.past) ≡ true → ⊥
no_flow_yet b i x at on =
    let none : false ≡ true = ap (λ (past : List Entry). is_cpu cpu_0 (flow x.def past)) (sym (past_at (defs_of b) [] i x at)) ∙ on in cc

pub one_flow : (b : BoardSeen) (g : List ChainEntry) → IsBoard b → IsChainLegal b g → HasOneFlow (lines_in b g)
one_flow b [] isb legal = λ i j x y at_x at_y on_x on_y. absurd (no_flow_yet b i x at_x on_x)
one_flow b (steps.Enter cpu status ∷ g) isb legal = one_flow b g isb legal.1
one_flow b (steps.Exit cpu ∷ g) isb legal = one_flow b g isb legal.1
one_flow b (steps.Child line e ∷ g) isb legal =
    subst (λ (ls : List BoardLine). HasOneFlow ls) (sym (lines_more (defs_of b) (line, e) (children g)))
    (child_flow b g isb line e legal (one_flow b g isb legal.1))
