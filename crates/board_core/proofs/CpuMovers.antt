-- What the ready actors tell of a processor: the lines on which a take of it is due, its flow, and where it steps.
use Rattle.std.proofs.Common.{◌≡◌, ℕ, zero, suc, ◌+◌, ◌<◌, ◌==◌, ◌⊎◌, inl, inr, Bool, true, false, not, ◌&&◌, cond}
use Rattle.std.proofs.Common.{is_none, is_some, nat_lt, IsSome, Option, Some, None, List, [], ◌∷◌, ◌++◌}
use Rattle.std.proofs.Common.{map, length, reverse, slice_get, refl, sym, ap, ◌∙◌, subst, arith, eq-eqb}
use Rattle.std.specs.Option.{option_map}
use Rattle.std.proofs.Math.ListN.{length-map}
use Rattle.std.proofs.lemmas.Bool.{lt-ltb, ltb-false}
use Rattle.std.proofs.lemmas.Bool.Decides.{nat_tests}
use Rattle.std.proofs.lemmas.Option.{slice_get-map}
use Rattle.irq_base.specs.Who.{actor_of}
use Rattle.irq_base.specs.declared.entries.Actor.{Actor}
use Rattle.irq_base.specs.declared.entries.Actor.TheVariants as actors
use Rattle.irq_base.specs.declared.entries.Entry.{Entry}
use Rattle.irq_base.specs.declared.lines.LineDef.{LineDef}
use Rattle.irq_base.specs.declared.numbers.CpuNo.{CpuNo}
use Rattle.irq_base.specs.declared.numbers.LineNo.{LineNo}
use Rattle.irq_model.specs.Kinds.{same_cpu}
use Rattle.irq_model.specs.Legal.{IsLegalPast}
use Rattle.irq_model.specs.Next.{next, next_past}
use Rattle.irq_model.specs.Rounds.{flow, is_cpu}
use Rattle.irq_model.specs.Valid.{IsValid}
use Rattle.irq_model.proofs.Same.{cpu_from_same}
use Rattle.irq_laws.proofs.Chosen.{the_same}
use Rattle.irq_laws.proofs.Lists.{both_ways}
use Rattle.irq_line.specs.Queries.{IsTaker, flow_of, is_some_take, spins, spins_at}
use Rattle.irq_line.specs.Seen.{LineSeen}
use Rattle.play_laws.specs.Actors.{count_up, IsOneOf, threads_of as threads_of_line, cpus_of as cpus_of_line}
use Rattle.play_laws.specs.Actors.{drivers_of as drivers_of_line, actors_of as actors_of_line}
use Rattle.play_laws.proofs.Listed.{mover_listed}
use Rattle.board_play.specs.Lines.{BoardLine, Move}
use Rattle.board_play.specs.Order.{line_for, flow_line, due_line, or_line, move_on, due_on, due_move}
use Rattle.board_play.proofs.Moves.{flow_stands}
use Rattle.board_play.proofs.OfBoard.{def_of_row}
use Rattle.board_play.proofs.Flows.{flow_after, has_the_flow}
use Rattle.board_ready.specs.First.{first_of}
use Rattle.board_ready.specs.Ready.{has_flow, has_spinner, has_take, flow_line as flow_place, take_line, flow_or_take, cpu_line}
use Rattle.board_ready.specs.Ready.{is_cpu as is_number, is_cpu_ready, moves_on}
use Rattle.board_ready.specs.declared.parts.LineReadiness.{LineReadiness}
use Rattle.board_core.specs.Firsts.{is_take_due}
use Rattle.board_core.specs.Places.{IsPlace}
use Rattle.board_core.specs.ReadyFor.{IsReadinessOf}
use Rattle.board_core.specs.Seen.{board_line, board_lines}
use Rattle.board_core.proofs.Searches.{first_that, in_flow_of, due_of_cpu, flow_is, due_is, first_place, due_is_take, same_truth, no_flow_at}
use Rattle.board_core.proofs.InLists.{map_back}
use Rattle.board_core.specs.Seen.{SystemSeen}
use Rattle.board_core.proofs.Kept.{KeptSystem}
use Rattle.board_core.proofs.Movers.{some_of, not_both, valid, legal, definition, is_move, at_line, part_of, line_of}

-- ---- who is in a list

in_either : (a : Actor) (xs ys : List Actor) → IsOneOf a (xs ++ ys) → IsOneOf a xs ⊎ IsOneOf a ys
in_either a [] ys at = inr at
in_either a (x ∷ xs) ys at = elim at [
  | inl here ↦ inl (inl here)
  | inr there ↦ elim (in_either a xs ys there) [ inl first ↦ inl (inr first) | inr second ↦ inr second ]
]

not_of : (a : Actor) (f : ℕ → Actor) → ((n : ℕ) → a ≡ f n → ⊥) → (ns : List ℕ) → IsOneOf a (map f ns) → ⊥
not_of a f differs [] at = at
not_of a f differs (n ∷ ns) at = elim at [ inl here ↦ differs n here | inr there ↦ not_of a f differs ns there ]

in_count : (c : CpuNo) (k n : ℕ) → IsOneOf (actors.Cpu c) (map (λ n. actors.Cpu (record { 0 = n })) (count_up k n)) → c.0 < k + n
in_count c k zero at = absurd at
in_count c k (suc n) at = elim at [
  | inl here ↦ (let e : c.0 ≡ k = cpu_is here in omega (arith, e))
  | inr there ↦ (let l = in_count c (k + 1) n there in omega (arith, l))
]
  where
    cpu_is : actors.Cpu c ≡ actors.Cpu (record { 0 = k }) → c.0 ≡ k
    cpu_is h = cc

-- ---- a processor

module _ {view : SystemSeen} (system : KeptSystem view) where
  open system use {board, lines, parts.{ready}, is_board, kept}

  only_cpu : (c : CpuNo) (def : LineDef) → IsOneOf (actors.Cpu c) (actors_of_line def) → c.0 < def.cpus
  only_cpu c def at = elim (in_either (actors.Cpu c) (threads_of_line def) (cpus_of_line def ++ drivers_of_line def) at) [
    | inl thread ↦ absurd (not_of (actors.Cpu c) _ (λ n h. cc) _ thread)
    | inr rest ↦ elim (in_either (actors.Cpu c) (cpus_of_line def) (drivers_of_line def) rest) [
      | inl cpu ↦ let l = in_count c 0 def.cpus cpu in omega (arith, l)
      | inr driver ↦ absurd (not_of (actors.Cpu c) _ (λ n h. cc) _ driver)
    ]
  ]

  -- a processor with its flow on a line took there, so it is the line's
  flow_listed : (def : LineDef) (past : List Entry) (c : CpuNo) → IsValid def → IsLegalPast def past → is_cpu c (flow def past) ≡ true
      → IsOneOf (actors.Cpu c) (actors_of_line def)
  flow_listed def [] c valid legal its = absurd cc
  flow_listed def (e ∷ past) c valid legal its = elim (flow_after def past c e its) [
    | inl before ↦ flow_listed def past c valid legal.1 before
    | inr made ↦ subst (λ (a : Actor). IsOneOf a (actors_of_line def)) made (mover_listed def past (actor_of e) e valid legal.1 legal.0)
  ]

  -- a processor for which an entry is due is the board's, and so is one with its flow on a line
  due_below : (c : CpuNo) (k : ℕ) (x : LineSeen) (e : Entry) → slice_get lines k ≡ Some x → next x.def x.entries (actors.Cpu c) ≡ Some e → c.0 < board.cpus
  due_below c k x e at due =
      let l = only_cpu c x.def (mover_listed x.def (reverse x.entries) (actors.Cpu c) e (valid system k x at) (legal system k x at) due) in
      let o = def_of_row board k x.def (definition system k x at) in
      subst (λ (def : LineDef). c.0 < def.cpus) (sym o.is) l

  flow_below : (c : CpuNo) (k : ℕ) (x : LineSeen) → slice_get lines k ≡ Some x → in_flow_of c (board_line x) ≡ true → c.0 < board.cpus
  flow_below c k x at its =
      let l = only_cpu c x.def (flow_listed x.def (reverse x.entries) c (valid system k x at) (legal system k x at) its) in
      let o = def_of_row board k x.def (definition system k x at) in
      subst (λ (def : LineDef). c.0 < def.cpus) (sym o.is) l

  pub few_cpus : (c : CpuNo) (m : Move) → due_move board (board_lines lines) (actors.Cpu c) ≡ Some m → c.0 < board.cpus
  few_cpus c m due = let v = is_move system (actors.Cpu c) m due in due_below c v.place v.line m.1 v.at v.due

  flow_test : (c : CpuNo) (k : ℕ) (y : BoardLine) → slice_get (board_lines lines) k ≡ Some y → has_flow c.0 (slice_get ready.lines k) ≡ in_flow_of c y
  flow_test c k y at =
      let x = map_back board_line lines k y at in
      let p = part_of system k x.0 x.1 in
      ap (λ (o : Option LineReadiness). has_flow c.0 o) p.1
      ∙ (same_cpu p.0.flow ∙ (ap (λ (o : Option CpuNo). is_cpu c o) p.2.flow
      ∙ ap (λ (z : BoardLine). in_flow_of c z) x.2))
    where
      same_cpu : (o : Option CpuNo) → is_number c.0 o ≡ is_cpu c o
      same_cpu None = refl
      same_cpu (Some b) = equal_ways b.0 c.0
        where
          equal_ways : (m n : ℕ) → (m == n) ≡ (n == m)
          equal_ways m n = grind (arith, nat_tests)

  taker_is : (c : CpuNo) (x : LineSeen) (o : Option CpuNo) → IsTaker x o → is_number c.0 o ≡ is_some_take (next_past x.def (reverse x.entries) (actors.Cpu c))
  taker_is c x o taker = same_truth (is_number c.0 o) (is_some_take
      (next_past x.def (reverse x.entries) (actors.Cpu c))) (λ is. (taker c).0 (its o is)) (λ h. back o ((taker c).1 h))
    where
      its : (o : Option CpuNo) → is_number c.0 o ≡ true → o ≡ Some c
      its None is = cc
      its (Some b) is = ap (λ (z : CpuNo). Some z) (cpu_from_same b c is)

      back : (o : Option CpuNo) → o ≡ Some c → is_number c.0 o ≡ true
      back o is = ap (λ (z : Option CpuNo). is_number c.0 z) is ∙ eq-eqb c.0 c.0 refl

  take_test : (c : CpuNo) → flow_line (board_lines lines) c ≡ None → (k : ℕ) (y : BoardLine)
      → slice_get (board_lines lines) k ≡ Some y → has_take c.0 (slice_get ready.lines k) ≡ due_of_cpu c y
  take_test c none k y at =
      let x = map_back board_line lines k y at in
      let p = part_of system k x.0 x.1 in
      ap (λ (o : Option LineReadiness). has_take c.0 o) p.1 ∙ (taker_is c x.0 p.0.taker p.2.taker
      ∙ (sym (due_is_take x.0.def (reverse x.0.entries) c
      (no_flow_at (board_lines lines) c none k (board_line x.0) (at_line system k x.0 x.1)))
      ∙ ap (λ (z : BoardLine). due_of_cpu c z) x.2))

  -- the lines on which a take of it is due
  pub take_told : (c : CpuNo) (k : ℕ) (b : Bool) → b ≡ (nat_lt c.0 32 && has_take c.0 (slice_get ready.lines k))
      → b ≡ is_take_due c (slice_get (board_lines lines) k)
  take_told c k b is = is ∙ by_line (slice_get lines k) refl
    where
      and_false : (b : Bool) → (b && false) ≡ false
      and_false true = refl
      and_false false = refl

      some_take : (o : Option Entry) → is_some_take o ≡ true → (e : Entry) × (o ≡ Some e)
      some_take None h = cc
      some_take (Some e) h = (e, refl)

      low : (x : LineSeen) → slice_get lines k ≡ Some x → (t : Bool)
          → is_some_take (next_past x.def (reverse x.entries) (actors.Cpu c)) ≡ t → (nat_lt c.0 32 && t) ≡ t
      low x at false none = and_false (nat_lt c.0 32)
      low x at true some =
          let e = some_take (next_past x.def (reverse x.entries) (actors.Cpu c)) some in
          let l = due_below c k x e.0 at e.1 in
          let f = is_board.few_cpus in
          ap (λ (b : Bool). b && true) (lt-ltb c.0 32 (omega (arith, l, f)))

      no_part : slice_get lines k ≡ None → (o : Option LineReadiness) → slice_get ready.lines k ≡ o → slice_get ready.lines k ≡ None
      no_part none None is = is
      no_part none (Some p) is = let x = line_of system k p is in absurd (not_both (slice_get lines k) x.0 none x.1)

      by_line : (o : Option LineSeen) → slice_get lines k ≡ o
          → (nat_lt c.0 32 && has_take c.0 (slice_get ready.lines k)) ≡ is_take_due c (slice_get (board_lines lines) k)
      by_line None none =
          ap (λ (o : Option LineReadiness). nat_lt c.0 32 && has_take c.0 o) (no_part none (slice_get ready.lines k) refl)
          ∙ (and_false (nat_lt c.0 32) ∙ sym (ap (λ (o : Option BoardLine). is_take_due c o)
          (slice_get-map board_line lines k ∙ ap (option_map board_line) none)))
      by_line (Some x) at =
          let p = part_of system k x at in
          ap (λ (o : Option LineReadiness). nat_lt c.0 32 && has_take c.0 o) p.1
          ∙ (ap (λ (t : Bool). nat_lt c.0 32 && t) (taker_is c x p.0.taker p.2.taker)
          ∙ (low x at (is_some_take (next_past x.def (reverse x.entries) (actors.Cpu c))) refl
          ∙ ap (λ (o : Option BoardLine). is_take_due c o) (sym (at_line system k x at))))

  many : length (board_lines lines) ≡ length ready.lines
  many = let a = length-map lines board_line in let b = kept.ready.all_lines in omega (arith, a, b)

  flow_at : (c : CpuNo) (f : Option ℕ) → flow_place ready.lines c.0 ≡ f → IsPlace (board_lines lines) f (flow_line (board_lines lines) c)
  flow_at c f flows =
      subst (λ (o : Option BoardLine). IsPlace (board_lines lines) f o) (flow_is (board_lines lines) c)
      (first_place (in_flow_of c) (board_lines lines) (λ k. has_flow c.0 (slice_get ready.lines k)) (flow_test c) f
      (ap (λ (n : ℕ). first_of (λ k. has_flow c.0 (slice_get ready.lines k)) n) many ∙ flows))

  -- the processor's line
  cpu_place : (c : CpuNo) (f t : Option ℕ) → flow_place ready.lines c.0 ≡ f → take_line ready.lines c.0 ≡ t
      → IsPlace (board_lines lines) (flow_or_take f t) (line_for board (board_lines lines) (actors.Cpu c))
  cpu_place c f t flows takes = by_flow f (flow_line (board_lines lines) c) refl (flow_at c f flows)
    where
      taken : flow_line (board_lines lines) c ≡ None → IsPlace (board_lines lines) t (due_line (board_lines lines) c)
      taken none =
          subst (λ (o : Option BoardLine). IsPlace (board_lines lines) t o) (due_is (board_lines lines) c)
          (first_place (due_of_cpu c) (board_lines lines) (λ k. has_take c.0 (slice_get ready.lines k))
          (take_test c none) t (ap (λ (n : ℕ). first_of (λ k. has_take c.0 (slice_get ready.lines k)) n) many
          ∙ takes))

      by_flow : (f : Option ℕ) (o : Option BoardLine) → flow_line (board_lines lines) c ≡ o
          → IsPlace (board_lines lines) f (flow_line (board_lines lines) c)
          → IsPlace (board_lines lines) (flow_or_take f t)
          (or_line (flow_line (board_lines lines) c) (due_line (board_lines lines) c))
      by_flow None o is place = subst (λ (x : Option BoardLine). IsPlace (board_lines lines) t
          (or_line x (due_line (board_lines lines) c))) (sym place) (taken place)
      by_flow (Some k) None is place = absurd (no_some (flow_line (board_lines lines) c) is place.0)
        where
          no_some : (o : Option BoardLine) → o ≡ None → IsSome o → ⊥
          no_some None none some = cc
          no_some (Some x) none some = cc
      by_flow (Some k) (Some x) is place = (
        ap (λ (o : Option BoardLine). is_some
            (or_line o (due_line (board_lines lines) c))) is,
        place.1
            ∙ (is ∙ ap (λ (o : Option BoardLine). or_line o (due_line (board_lines lines) c)) (sym is)),
      )

  passes : (p : BoardLine → Bool) (ls : List BoardLine) (y : BoardLine) → first_that p ls ≡ Some y → p y ≡ true
  passes p [] y h = cc
  passes p (z ∷ zs) y h = by_test (p z) refl h (passes p zs y)
    where
      by_test : (b : Bool) → p z ≡ b → cond b (Some z) (first_that p zs) ≡ Some y → (first_that p zs ≡ Some y → p y ≡ true) → p y ≡ true
      by_test true is h deeper = ap p (sym (the_same z y h)) ∙ is
      by_test false is h deeper = deeper h

  -- on that line something is due of it, unless it has its flow there
  takes_there : (c : CpuNo) (y : BoardLine) → line_for board (board_lines lines) (actors.Cpu c) ≡ Some y → in_flow_of c y ≡ false → due_of_cpu c y ≡ true
  takes_there c y its off = by_flow (flow_line (board_lines lines) c) refl its
    where
      by_flow : (o : Option BoardLine) → flow_line (board_lines lines) c ≡ o
          → or_line o (due_line (board_lines lines) c) ≡ Some y → due_of_cpu c y ≡ true
      by_flow None none its = passes (due_of_cpu c) (board_lines lines) y (due_is (board_lines lines) c ∙ its)
      by_flow (Some z) is its =
          both_ways (in_flow_of c y) (passes (in_flow_of c) (board_lines lines) y (flow_is (board_lines lines) c ∙ (is ∙ its))) off

  -- it spins there, if it has its flow there and nothing is due of it
  spins_told : (c : CpuNo) (x : LineSeen) (told : LineReadiness) → IsReadinessOf x told
      → has_spinner c.0 (Some told) ≡ (in_flow_of c (board_line x) && not (due_of_cpu c (board_line x)))
  spins_told c x told is =
      ap (λ (b : Bool). is_number c.0 (cond b told.flow None)) is.spins
      ∙ (ap (λ (o : Option CpuNo). is_number c.0 (cond (spins x) o None)) is.flow ∙ by_flow (flow_of x))
    where
      next_is : CpuNo → Option Entry
      next_is g = next_past x.def (reverse x.entries) (actors.Cpu g)

      other_way : (m n : ℕ) → (m == n) ≡ (n == m)
      other_way m n = grind (arith, nat_tests)

      if_spins : (b : Bool) (g : CpuNo) → is_number c.0 (cond b (Some g) None) ≡ ((g.0 == c.0) && b)
      if_spins true g = by_same (g.0 == c.0)
        where
          by_same : (t : Bool) → t ≡ (t && true)
          by_same true = refl
          by_same false = refl
      if_spins false g = by_same (g.0 == c.0)
        where
          by_same : (t : Bool) → false ≡ (t && false)
          by_same true = refl
          by_same false = refl

      none_or_some : (o : Option Entry) → is_none o ≡ not (is_some o)
      none_or_some None = refl
      none_or_some (Some e) = refl

      its_own : (g : CpuNo) (t : Bool) → same_cpu c g ≡ t → (t && is_none (next_is g)) ≡ (t && not (is_some (next_is c)))
      its_own g true same = none_or_some (next_is g) ∙ ap (λ (z : CpuNo). not (is_some (next_is z))) (sym (cpu_from_same c g same))
      its_own g false other = refl

      by_flow : (o : Option CpuNo) → is_number c.0 (cond (spins_at x.def (reverse x.entries) o) o None)
          ≡ (is_cpu c o && not (due_of_cpu c (board_line x)))
      by_flow None = refl
      by_flow (Some g) =
          if_spins (is_none (next_is g)) g
          ∙ (ap (λ (b : Bool). b && is_none (next_is g)) (other_way g.0 c.0) ∙ its_own g (same_cpu c g) refl)

  -- so it moves there exactly if it doesn't spin
  moves_at : (c : CpuNo) (k : ℕ) → IsPlace (board_lines lines) (Some k) (line_for board (board_lines lines) (actors.Cpu c))
      → is_some (due_move board (board_lines lines) (actors.Cpu c)) ≡ not (has_spinner c.0 (slice_get ready.lines k))
  moves_at c k place =
      let y = some_of (line_for board (board_lines lines) (actors.Cpu c)) place.0 in
      let x = map_back board_line lines k y.0 (place.1 ∙ y.1) in
      let p = part_of system k x.0 x.1 in
      ap (λ (o : Option BoardLine). is_some (due_on o (actors.Cpu c))) y.1
      ∙ (moved y.0.def.line (next_past y.0.def y.0.past (actors.Cpu c))
      ∙ (by_flow (in_flow_of c y.0) (due_of_cpu c y.0) (takes_there c y.0 y.1)
      ∙ ap not (sym (ap (λ (o : Option LineReadiness). has_spinner c.0 o) p.1 ∙ (spins_told c x.0 p.0 p.2
      ∙ ap (λ (z : BoardLine). in_flow_of c z && not (due_of_cpu c z)) x.2)))))
    where
      moved : (line : LineNo) (o : Option Entry) → is_some (move_on line o) ≡ is_some o
      moved line None = refl
      moved line (Some e) = refl

      by_flow : (f d : Bool) → (f ≡ false → d ≡ true) → d ≡ not (f && not d)
      by_flow true true h = refl
      by_flow true false h = refl
      by_flow false d h = h refl

  -- the line of its flow
  pub flow_there : (c : CpuNo) (o : Option ℕ) → o ≡ cond (nat_lt c.0 32) (flow_place ready.lines c.0) None
      → IsPlace (board_lines lines) o (flow_line (board_lines lines) c)
  flow_there c o is = by_number (nat_lt c.0 32) refl is
    where
      no_flow : nat_lt c.0 32 ≡ false → (z : Option BoardLine) → flow_line (board_lines lines) c ≡ z → flow_line (board_lines lines) c ≡ None
      no_flow high None is = is
      no_flow high (Some y) is =
          let s = flow_stands (board_lines lines) c y is in
          let x = map_back board_line lines s.place y s.at in
          let its = ap (λ (z : BoardLine). in_flow_of c z) x.2 ∙ has_the_flow (board_lines lines) c y is in
          absurd (let l = flow_below c s.place x.0 x.1 its in let f = is_board.few_cpus in let h = ltb-false c.0 32 high in omega (arith, l, f, h))

      by_number : (b : Bool) → nat_lt c.0 32 ≡ b → o ≡ cond b (flow_place ready.lines c.0) None
          → IsPlace (board_lines lines) o (flow_line (board_lines lines) c)
      by_number true low is = flow_at c o (sym is)
      by_number false high is = subst (λ (x : Option ℕ). IsPlace (board_lines lines) x
          (flow_line (board_lines lines) c)) (sym is) (no_flow high (flow_line (board_lines lines) c) refl)

  -- what the ready actors answer for a processor
  abbrev CpuStands : CpuNo → Option ℕ → Type 0
  CpuStands c None = due_move board (board_lines lines) (actors.Cpu c) ≡ None
  CpuStands c (Some k) = IsPlace (board_lines lines) (Some k) (line_for board (board_lines lines) (actors.Cpu c))
      × (is_some (due_move board (board_lines lines) (actors.Cpu c)) ≡ not (has_spinner c.0 (slice_get ready.lines k)))

  pub cpu_stands : (c : CpuNo) (o : Option ℕ) → o ≡ cpu_line ready.lines c.0 → CpuStands c o
  cpu_stands c o is = subst (λ (x : Option ℕ). CpuStands c x) (sym is) (by_number (nat_lt c.0 32) refl)
    where
      of_place : (o : Option ℕ) → IsPlace (board_lines lines) o (line_for board (board_lines lines) (actors.Cpu c)) → CpuStands c o
      of_place None place = ap (λ (o : Option BoardLine). due_on o (actors.Cpu c)) place
      of_place (Some k) place = (place, moves_at c k place)

      too_high : nat_lt c.0 32 ≡ false → (o : Option Move) → due_move board (board_lines lines) (actors.Cpu c) ≡ o → o ≡ None
      too_high high None due = refl
      too_high high (Some m) due = absurd (let l = few_cpus c m due in let f = is_board.few_cpus in let h = ltb-false c.0 32 high in omega (arith, l, f, h))

      by_number : (b : Bool) → nat_lt c.0 32 ≡ b → CpuStands c (cond b (flow_or_take (flow_place ready.lines c.0) (take_line ready.lines c.0)) None)
      by_number true low = of_place (flow_or_take (flow_place ready.lines c.0) (take_line ready.lines c.0))
          (cpu_place c (flow_place ready.lines c.0) (take_line ready.lines c.0) refl refl)
      by_number false high = too_high high (due_move board (board_lines lines) (actors.Cpu c)) refl

  -- the ready actors tell whether it can move
  pub cpu_ready_is : (c : CpuNo) → is_cpu_ready ready.lines c.0 ≡ is_some (due_move board (board_lines lines) (actors.Cpu c))
  cpu_ready_is c = by_line (cpu_line ready.lines c.0) (cpu_stands c (cpu_line ready.lines c.0) refl)
    where
      by_line : (o : Option ℕ) → CpuStands c o → moves_on ready.lines c.0 o ≡ is_some (due_move board (board_lines lines) (actors.Cpu c))
      by_line None none = sym (ap (λ (m : Option Move). is_some m) none)
      by_line (Some k) stands = sym stands.1

  -- who can move has a line
  pub ready_line : (c : CpuNo) → is_cpu_ready ready.lines c.0 ≡ true → (k : ℕ) × (cpu_line ready.lines c.0 ≡ Some k)
  ready_line c is = by_line (cpu_line ready.lines c.0) refl is
    where
      by_line : (o : Option ℕ) → cpu_line ready.lines c.0 ≡ o → moves_on ready.lines c.0 o ≡ true → (k : ℕ) × (cpu_line ready.lines c.0 ≡ Some k)
      by_line None at is = absurd cc
      by_line (Some k) at is = (k, at)
