-- How a past leaves the line is read off its state.
use Rattle.std.proofs.Common.{rules, ◌≡◌, ℕ, suc, ◌+◌, Bool, true, false, ◌&&◌, cond, nat_eq, Option, Some, None, List, [], ◌∷◌}
use Rattle.std.proofs.Common.{reverse, slice_get, refl, ap, sym, subst, ◌∙◌}
use Rattle.std.proofs.lemmas.Bool.{and_parts}
use Rattle.std.proofs.lemmas.List.{reverse-reverse}
use Rattle.std.proofs.lemmas.List.Sums.{sum_by-cons}
use Rattle.std.specs.Bool.{beq}
use Rattle.std.specs.List.{sum_by}
use Rattle.std.specs.Option.{option_eq}
use Rattle.irq_base.specs.contracts.entries.ActorPartialEq.TheImpl as actor_eq
use Rattle.irq_base.specs.Cell.{Cell}
use Rattle.irq_base.specs.declared.devices.DeviceDef.{DeviceDef}
use Rattle.irq_base.specs.declared.entries.Actor.{Actor}
use Rattle.irq_base.specs.declared.entries.Actor.TheVariants as actors
use Rattle.irq_base.specs.declared.entries.Entry.{Entry}
use Rattle.irq_base.specs.declared.lines.LineDef.{LineDef}
use Rattle.irq_base.specs.declared.numbers.DevNo.{DevNo}
use Rattle.irq_laws.proofs.CellKept.{is_driven_cell}
use Rattle.irq_laws.specs.Driven.{cell_after, cell_of}
use Rattle.irq_model.specs.Asks.{unserved_asks}
use Rattle.irq_model.specs.Edges.{is_stored}
use Rattle.irq_model.specs.Kinds.{same_dev}
use Rattle.irq_model.specs.Legal.{IsLegalPast, IsLegal}
use Rattle.irq_model.specs.Lines.{is_edge_line}
use Rattle.irq_model.specs.Links.{is_none_linked}
use Rattle.irq_model.specs.Valid.{IsValid}
use Rattle.irq_model.proofs.Same.{same_self}
use Rattle.device_table.proofs.Steps.{there_at}
use Rattle.device_table.proofs.Tables.{at_device}
use Rattle.device_table.specs.Rows.{at}
use Rattle.act_list.specs.Actions.{is_bare}
use Rattle.act_list.specs.Lists.{flags_of}
use Rattle.act_list.specs.declared.actions.Action.{Action}
use Rattle.ask_counts.specs.declared.rows.AskRow.{AskRow}
use Rattle.line_futures.specs.Canon.{canon, canon_asks, canon_row, without_bits, serves_at, is_working, is_thread_working}
use Rattle.line_marks.proofs.ActionsFollow.{bare_is}
use Rattle.line_marks.specs.Asks.{ask_row, asks_of}
use Rattle.line_marks.specs.State.{StateSeen, state_of}
use Rattle.line_wanted.specs.contracts.left.LeftPartialEq.TheImpl as left_eq
use Rattle.line_wanted.specs.contracts.left.StandingPartialEq.TheImpl as standing_eq
use Rattle.line_wanted.specs.Left.{left_of}
use Rattle.line_wanted.specs.declared.left.Left.{Left}
use Rattle.line_wanted.specs.declared.left.Standing.{Standing}
use Rattle.line_words.specs.Again.{unbitted}
use Rattle.line_survey.specs.LeftSeen.{standing_seen, unserved_seen, unserved_in}

-- how the state leaves the line, if this is the lowest actor that is hung
abbrev pub left_with : LineDef → Option Actor → StateSeen → Left
left_with def o s = record {
  hung = o;
  standing = standing_seen s;
  unserved = unserved_in s.asks def.devices;
  stored = is_edge_line def && s.cell.stored;
  pending = is_edge_line def && s.desc.pending;
}

-- thread bits don't tell whether something is linked
bare_bits : (t : List (DevNo × Action)) → is_bare (without_bits (flags_of t)) ≡ is_bare t
bare_bits [] = refl
bare_bits (e ∷ es) = refl

-- a canonical state has the same unserved asks
module _ (v h t : DevNo → Bool) (d : DevNo) where
  unserved_same : (a : List (DevNo × AskRow)) → unserved_seen (at (canon_asks v h t a) d) ≡ unserved_seen (at a d)
  unserved_same [] = refl
  unserved_same (e ∷ es) = by_test (same_dev d e.0) (unserved_same es)
    where
      by_test : (b : Bool) → unserved_seen (at (canon_asks v h t es) d) ≡ unserved_seen (at es d)
          → unserved_seen (cond b (Some (canon_row (v e.0) (h e.0) (t e.0) e.1)) (at (canon_asks v h t es) d))
          ≡ unserved_seen (cond b (Some e.1) (at es d))
      by_test true rest = refl
      by_test false rest = rest

module _ (def : LineDef) (past : List Entry) (valid : IsValid def) (legal : IsLegalPast def past) where
  -- of a device of the line they are those of its row
  row_of : (i : ℕ) (x : DeviceDef) → slice_get def.devices i ≡ Some x → unserved_seen (at (asks_of def past) x.dev) ≡ unserved_asks def x.dev past
  row_of i x is = ap unserved_seen (at_device (ask_row def past) def.devices x.dev (there_at def.devices i x (same_self x.dev) is))

  all_rows : (a : List (DevNo × AskRow)) → ((i : ℕ) (x : DeviceDef) → slice_get def.devices i ≡ Some x
      → unserved_seen (at a x.dev) ≡ unserved_asks def x.dev past)
      → unserved_in a def.devices ≡ sum_by (λ x. unserved_asks def x.dev past) def.devices
  all_rows a each = go def.devices each
    where
      go : (xs : List DeviceDef) → ((i : ℕ) (x : DeviceDef) → slice_get xs i ≡ Some x → unserved_seen (at a x.dev) ≡ unserved_asks def x.dev past)
          → unserved_in a xs ≡ sum_by (λ x. unserved_asks def x.dev past) xs
      go [] each = refl
      go (x ∷ xs) each =
          let f : DeviceDef → ℕ = λ x. unserved_seen (at a x.dev) in
          let g : DeviceDef → ℕ = λ x. unserved_asks def x.dev past in
          sum_by-cons f x xs ∙ (ap (λ n. n + sum_by f xs) (each 0 x refl)
          ∙ (ap (λ n. g x + n) (go xs (λ i y is. each (suc i) y is)) ∙ sym (sum_by-cons g x xs)))

  the_cell : cell_after def past ≡ cell_of def past
  the_cell =
      let legal_back : IsLegal def (reverse past) = subst (λ (p : List Entry). IsLegalPast def p) (sym (reverse-reverse past)) legal in
      subst (λ (p : List Entry). cell_after def p ≡ cell_of def p) (reverse-reverse past) (is_driven_cell def (reverse past) valid legal_back).keeps

  bare_canon : is_bare (canon (state_of def past)).list.actions ≡ is_none_linked past
  bare_canon = bare_bits (state_of def past).list.actions ∙ bare_is def past valid legal

  asks_canon : (i : ℕ) (x : DeviceDef) → slice_get def.devices i ≡ Some x
      → unserved_seen (at (canon (state_of def past)).asks x.dev) ≡ unserved_asks def x.dev past
  asks_canon i x is =
      let s = state_of def past in
      unserved_same (serves_at s) (is_working s.round.working) (is_thread_working s.threads) x.dev s.asks ∙ row_of i x is

  -- the canonical state tells how the past leaves the line, whoever is hung
  pub left_canon : (o : Option Actor) → left_with def o (canon (state_of def past)) ≡ left_of def o past
  left_canon o =
      let a = bare_canon in
      let b = all_rows (canon (state_of def past)).asks asks_canon in
      let c : (state_of def past).cell.stored ≡ is_stored def past = ap (λ (x : Cell). x.stored) the_cell in
      cc

-- thread bits don't matter
left_unbitted : (def : LineDef) (o : Option Actor) (s : StateSeen) → left_with def o (unbitted s) ≡ left_with def o s
left_unbitted def o s = let a = bare_bits s.list.actions in cc

-- the state that was read of a past tells how it leaves the line
pub left_is : (def : LineDef) (past : List Entry) → IsValid def → IsLegalPast def past → (o : Option Actor) (s : StateSeen)
    → unbitted s ≡ canon (state_of def past) → left_of def o past ≡ left_with def o s
left_is def past valid legal o s like =
    sym (left_canon def past valid legal o) ∙ (ap (left_with def o) (sym like) ∙ left_unbitted def o s)

-- pasts that are alike leave the line alike
pub left_alike : (def : LineDef) (g h : List Entry) → IsValid def → IsLegalPast def g → IsLegalPast def h
    → canon (state_of def g) ≡ canon (state_of def h) → (o : Option Actor) → left_of def o g ≡ left_of def o h
left_alike def g h valid legal other like o =
    sym (left_canon def g valid legal o) ∙ (ap (left_with def o) like ∙ left_canon def h valid other o)

-- ---- ways that `==` calls equal are the same

same_actor : (a b : Actor) → (actor_eq.eq-value).it a b ≡ true → a ≡ b
same_actor (actors.Thread d) (actors.Thread e) h = search rules
same_actor (actors.Thread d) b h = cc
same_actor (actors.Cpu c) (actors.Cpu e) h = search rules
same_actor (actors.Cpu c) b h = cc
same_actor (actors.Driver r) (actors.Driver s) h = search rules
same_actor (actors.Driver r) b h = cc

same_hung : (o p : Option Actor) → option_eq (actor_eq.eq-value).it o p ≡ true → o ≡ p
same_hung None None h = refl
same_hung None (Some b) h = cc
same_hung (Some a) None h = cc
same_hung (Some a) (Some b) h = ap Some (same_actor a b h)

same_standing : (p q : Standing) → (standing_eq.eq-value).it p q ≡ true → p ≡ q
same_standing p q h = search rules

abbrev pub left_of_parts : Option Actor → Standing → ℕ → Bool → Bool → Left
left_of_parts hung standing unserved stored pending =
    record { hung = hung; standing = standing; unserved = unserved; stored = stored; pending = pending }

pub same_left : (p q : Left) → (left_eq.eq-value).it p q ≡ true → p ≡ q
same_left p q h =
    let hung = option_eq (actor_eq.eq-value).it p.hung q.hung in
    let standing = (standing_eq.eq-value).it p.standing q.standing in
    let unserved = nat_eq p.unserved q.unserved in
    let stored = beq p.stored q.stored in
    let pending = beq p.pending q.pending in
    let a = and_parts hung (standing && (unserved && (stored && pending))) h in
    let b = and_parts standing (unserved && (stored && pending)) a.1 in
    let c = and_parts unserved (stored && pending) b.1 in
    let d = and_parts stored pending c.1 in
    let is_hung = same_hung p.hung q.hung a.0 in
    let stands = same_standing p.standing q.standing b.0 in
    let many : p.unserved ≡ q.unserved = (let n = c.0 in search rules) in
    let kept : p.stored ≡ q.stored = (let n = d.0 in search rules) in
    let waits : p.pending ≡ q.pending = (let n = d.1 in search rules) in
    ap (λ o. left_of_parts o p.standing p.unserved p.stored p.pending) is_hung
    ∙ (ap (λ s. left_of_parts q.hung s p.unserved p.stored p.pending) stands
    ∙ (ap (λ n. left_of_parts q.hung q.standing n p.stored p.pending) many
    ∙ (ap (λ b. left_of_parts q.hung q.standing q.unserved b p.pending) kept
    ∙ ap (λ b. left_of_parts q.hung q.standing q.unserved q.stored b) waits)))
