-- The lines and the log after a move.
use Rattle.std.proofs.Common.{◌≡◌, ◌⊎◌, inl, inr, ℕ, zero, suc, Bool, true, false, cond, IfSome, Option}
use Rattle.std.proofs.Common.{Some, List, [], ◌∷◌, map, slice_get}
use Rattle.std.proofs.Common.{slice_set, refl, sym, ap, ◌∙◌, subst}
use Rattle.irq_base.specs.declared.entries.Actor.{Actor}
use Rattle.irq_base.specs.declared.entries.Actor.TheVariants as actors
use Rattle.irq_base.specs.declared.entries.Entry.{Entry}
use Rattle.irq_base.specs.declared.lines.LineDef.{LineDef}
use Rattle.irq_base.specs.declared.numbers.CpuNo.{CpuNo}
use Rattle.irq_base.specs.declared.numbers.DriverNo.{DriverNo}
use Rattle.irq_base.specs.declared.numbers.LineNo.{LineNo}
use Rattle.irq_model.specs.Kinds.{same_line, is_driver}
use Rattle.irq_model.specs.Next.{next_past}
use Rattle.irq_model.specs.Rounds.{flow, is_cpu}
use Rattle.irq_model.proofs.Same.{line_from_same, same_self_line}
use Rattle.irq_laws.proofs.Chosen.{the_same}
use Rattle.irq_laws.proofs.Lists.{both_ways}
use Rattle.irq_laws.proofs.OwnLaws.{due_is_own_past}
use Rattle.std.proofs.lemmas.Bool.{false_from_ne_true}
use Rattle.board_def.specs.Rules.{IsBoard}
use Rattle.board_def.specs.Seen.{BoardSeen}
use Rattle.board_play.specs.Kept.{AreKept, HaveOneFlow}
use Rattle.board_play.specs.Lines.{BoardLine, Move, lines_after}
use Rattle.board_play.specs.Order.{flow_line, line_for, move_on, due_on}
use Rattle.board_play.proofs.Flows.{flow_after, flow_line_is}
use Rattle.board_play.proofs.KeptAlways.{apart_kept, move_keeps}
use Rattle.board_play.proofs.Members.{AreApart, def_there}
use Rattle.board_play.proofs.Moving.{defs_moved, moved_at, not_own}
use Rattle.board_play.proofs.Parts.{the_line, the_place, due_of}
use Rattle.irq_model.specs.Legal.{IsLegalPast}
use Rattle.board_core.specs.Log.{without_newest, with_newest, merged}
use Rattle.board_core.proofs.InLists.{set_there, set_twice, set_same}

-- ---- the lines after a move

other_way : (a b : LineNo) → same_line a b ≡ false → same_line b a ≡ false
other_way a b h = false_from_ne_true (same_line b a) (λ same. both_ways (same_line a b)
    (ap (λ (l : LineNo). same_line a l) (line_from_same b a same) ∙ same_self_line a) h)

untouched : (m : Move) (lines : List BoardLine) → ((i : ℕ) (d : LineDef)
    → slice_get (map (λ (x : BoardLine). x.def) lines) i ≡ Some d → same_line d.line m.0 ≡ false)
    → lines_after m lines ≡ lines
untouched m [] other = refl
untouched m (x ∷ xs) other =
    ap (λ (b : Bool). (record { def = x.def; past = cond b (m.1 ∷ x.past) x.past }) ∷ lines_after m xs)
    (other zero x.def refl) ∙ ap (λ (ys : List BoardLine). x ∷ ys) (untouched m xs (λ i d at. other (suc i) d at))

pub set_is_after : (lines : List BoardLine) → AreApart (map (λ (x : BoardLine). x.def) lines) → (k : ℕ) (x : BoardLine) (e : Entry) → slice_get lines k ≡ Some x
    → lines_after (x.def.line, e) lines ≡ slice_set lines k (record { def = x.def; past = e ∷ x.past })
set_is_after [] apart k x e at = cc
set_is_after (y ∷ ys) apart zero x e at =
    let same : y ≡ x = the_same y x at in
    subst (λ (z : BoardLine). lines_after (z.def.line, e) (y ∷ ys) ≡ (record { def = z.def; past = e ∷ z.past }) ∷ ys) same
    (ap (λ (b : Bool). (record { def = y.def; past = cond b (e ∷ y.past) y.past }) ∷ lines_after (y.def.line, e) ys) (same_self_line y.def.line)
    ∙ ap (λ (zs : List BoardLine). (record { def = y.def; past = e ∷ y.past }) ∷ zs) (untouched (y.def.line, e) ys apart.0))
set_is_after (y ∷ ys) apart (suc k) x e at =
    ap (λ (b : Bool). (record { def = y.def; past = cond b (e ∷ y.past) y.past }) ∷ lines_after (x.def.line, e) ys)
    (other_way x.def.line y.def.line (apart.0 k x.def (def_there ys k x at)))
    ∙ ap (λ (zs : List BoardLine). y ∷ zs) (set_is_after ys apart.1 k x e at)

-- ---- the log after a move

pub merged_more : (lines : List BoardLine) (k : ℕ) (ks : List ℕ) (x : BoardLine) (e : Entry) → slice_get lines k ≡ Some x
    → merged (k ∷ ks) (slice_set lines k (record { def = x.def; past = e ∷ x.past }))
    ≡ (x.def.line, e) ∷ merged ks lines
merged_more lines k ks x e at =
    let more : BoardLine = record { def = x.def; past = e ∷ x.past } in
    ap (λ (o : Option BoardLine). with_newest o (merged ks (without_newest o k (slice_set lines k more)))) (set_there lines k x more at)
    ∙ ap (λ (ls : List BoardLine). (x.def.line, e) ∷ merged ks ls) (set_twice lines k x more x at ∙ set_same lines k x at)

-- ---- a step keeps what the lines keep

-- a driver's current call is on the line, and a processor that has a flow has it there
abbrev pub IsCurrentOf : BoardSeen → List BoardLine → Actor → BoardLine → Type 0
IsCurrentOf board lines (actors.Driver r) x = line_for board lines (actors.Driver r) ≡ Some x
IsCurrentOf board lines (actors.Cpu c) x = IfSome (flow_line lines c) (λ y. y ≡ x)
IsCurrentOf board lines (actors.Thread d) x = Unit {0}

module _ (board : BoardSeen) (isb : IsBoard board) (lines : List BoardLine) (k : AreKept board lines) where
  module _ (a : Actor) (i : ℕ) (x : BoardLine) (e : Entry) (at : slice_get lines i ≡ Some x)
      (due : next_past x.def x.past a ≡ Some e) (flows : (c : CpuNo) → a ≡ actors.Cpu c → IfSome (flow_line lines c) (λ y. y ≡ x)) where
    apart : AreApart (map (λ (x : BoardLine). x.def) lines)
    apart = apart_kept board isb lines k

    -- the processor that steps has no flow elsewhere
    on_its_flow : (c : CpuNo) → a ≡ actors.Cpu c → (j : ℕ) (y : BoardLine) → slice_get lines j ≡ Some y → is_cpu c (flow y.def y.past) ≡ true → i ≡ j
    on_its_flow c mine j y at_y its =
        let on : flow_line lines c ≡ Some y = flow_line_is lines k.one_flow c j y at_y its in
        let here : y ≡ x = subst (λ (o : Option BoardLine). IfSome o (λ z. z ≡ x)) on (flows c mine) in
        the_place lines apart i j x y at at_y (ap (λ (z : BoardLine). z.def.line) (sym here))

    -- who has a flow after the step had it before, or made the step
    had_flow : (y : BoardLine) (j : ℕ) (c : CpuNo) → slice_get lines j ≡ Some y → (b : Bool) → same_line y.def.line x.def.line ≡ b
        → is_cpu c (flow y.def (cond b (e ∷ y.past) y.past)) ≡ true → (is_cpu c (flow y.def y.past) ≡ true) ⊎ ((a ≡ actors.Cpu c) × (i ≡ j))
    had_flow y j c at_y false differs its = inl its
    had_flow y j c at_y true same its = elim (flow_after y.def y.past c e its) [
      | inl before ↦ inl before
      | inr own ↦ inr (
        sym (due_is_own_past x.def x.past a e due) ∙ own,
        the_place lines apart i j x y at at_y (sym (line_from_same y.def.line x.def.line same)),
      )
    ]

    one_place : (c : CpuNo) (j l : ℕ) (y z : BoardLine) → slice_get lines j ≡ Some y → slice_get lines l ≡ Some z
        → (is_cpu c (flow y.def y.past) ≡ true) ⊎ ((a ≡ actors.Cpu c) × (i ≡ j))
        → (is_cpu c (flow z.def z.past) ≡ true) ⊎ ((a ≡ actors.Cpu c) × (i ≡ l)) → j ≡ l
    one_place c j l y z at_y at_z (inl in_y) (inl in_z) = k.one_flow c j l y z at_y at_z in_y in_z
    one_place c j l y z at_y at_z (inl in_y) (inr to_z) = sym (on_its_flow c to_z.0 j y at_y in_y) ∙ to_z.1
    one_place c j l y z at_y at_z (inr to_y) (inl in_z) = sym to_y.1 ∙ on_its_flow c to_y.0 l z at_z in_z
    one_place c j l y z at_y at_z (inr to_y) (inr to_z) = sym to_y.1 ∙ to_z.1

    one_flow_after : HaveOneFlow (lines_after (x.def.line, e) lines)
    one_flow_after c j l y z at_y at_z in_y in_z =
        let s = moved_at lines (x.def.line, e) j y at_y in
        let t = moved_at lines (x.def.line, e) l z at_z in
        one_place c j l s.line t.line s.at t.at
        (had_flow s.line j c s.at (same_line s.line.def.line x.def.line) refl
        (subst (λ (w : BoardLine). is_cpu c (flow w.def w.past) ≡ true) (sym s.is) in_y))
        (had_flow t.line l c t.at (same_line t.line.def.line x.def.line) refl
        (subst (λ (w : BoardLine). is_cpu c (flow w.def w.past) ≡ true) (sym t.is) in_z))

  -- of one who is no driver
  other_keeps : (a : Actor) (i : ℕ) (x : BoardLine) (e : Entry) → slice_get lines i ≡ Some x
      → next_past x.def x.past a ≡ Some e → ((c : CpuNo) → a ≡ actors.Cpu c → IfSome (flow_line lines c) (λ y. y ≡ x))
      → ((r : DriverNo) → is_driver r a ≡ false) → AreKept board (lines_after (x.def.line, e) lines)
  other_keeps a i x e at due flows other =
      record {
        defs = defs_moved lines (x.def.line, e) ∙ k.defs;
        legal = λ j y at_y. (let s = moved_at lines (x.def.line, e) j y at_y in
            subst (λ (z : BoardLine). IsLegalPast z.def z.past) s.is
            (legal_after s.line j s.at (same_line s.line.def.line x.def.line) refl));
        in_order = λ r. (let o = k.in_order r in (
          o.0,
          not_own board.calls lines (x.def.line, e) r o.0
              (ap (is_driver r) (due_is_own_past x.def x.past a e due) ∙ other r) o.1,
        ));
        one_flow = one_flow_after a i x e at due flows;
      }
    where
      legal_after : (y : BoardLine) (j : ℕ) → slice_get lines j ≡ Some y → (b : Bool)
          → same_line y.def.line x.def.line ≡ b → IsLegalPast y.def (cond b (e ∷ y.past) y.past)
      legal_after y j at_y false differs = k.legal j y at_y
      legal_after y j at_y true same =
          let here : x ≡ y = the_line lines (apart_kept board isb lines k) i j x y at at_y (sym (line_from_same y.def.line x.def.line same)) in
          (due_of y.def y.past a e (subst (λ (z : BoardLine). next_past z.def z.past a ≡ Some e) here due), k.legal j y at_y)

  same_cpu_is : (c f : CpuNo) → actors.Cpu c ≡ actors.Cpu f → c ≡ f
  same_cpu_is c f same = cc

  pub step_keeps : (a : Actor) (i : ℕ) (x : BoardLine) (e : Entry) → slice_get lines i ≡ Some x
      → next_past x.def x.past a ≡ Some e → IsCurrentOf board lines a x
      → AreKept board (lines_after (x.def.line, e) lines)
  step_keeps (actors.Driver r) i x e at due cur =
      move_keeps board lines (actors.Driver r) (x.def.line, e) isb k
      (ap (λ (o : Option BoardLine). due_on o (actors.Driver r)) cur
      ∙ ap (λ (o : Option Entry). move_on x.def.line o) due)
  step_keeps (actors.Cpu c) i x e at due cur = other_keeps (actors.Cpu c) i x e at due
      (λ f same. subst (λ (g : CpuNo). IfSome (flow_line lines g) (λ y. y ≡ x)) (same_cpu_is c f same) cur) (λ r. refl)
  step_keeps (actors.Thread d) i x e at due cur = other_keeps (actors.Thread d) i x e at due (λ f same. absurd cc) (λ r. refl)
