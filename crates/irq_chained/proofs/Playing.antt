-- A play of a demultiplexer, step by step, and that it ends.
use Rattle.std.proofs.Common.{◌≡◌, ℕ, ◌+◌, ◌*◌, ◌<◌, ◌≤◌, ◌==◌, Bool, true, false, cond, IfSome, IsSomeAnd, is_some, Option, Result, Ok, Err}
use Rattle.std.proofs.Common.{Some, None, List, [], ◌∷◌, length, reverse, get_or, drop, refl, sym, ap, ◌∙◌, subst}
use Rattle.std.proofs.Common.{arith, add-one}
use Rattle.std.proofs.Math.Seq.{drop-cons}
use Rattle.std.proofs.lemmas.List.{reverse-append}
use Rattle.irq_base.specs.declared.entries.Actor.{Actor}
use Rattle.irq_base.specs.declared.entries.Actor.TheVariants as actors
use Rattle.irq_base.specs.declared.entries.Entry.{Entry}
use Rattle.irq_base.specs.declared.numbers.CpuNo.{CpuNo}
use Rattle.irq_base.specs.declared.numbers.LineNo.{LineNo}
use Rattle.irq_line.specs.declared.answers.StepRefused.{StepRefused}
use Rattle.irq_line.specs.declared.answers.StepRefused.TheVariants as refusals
use Rattle.irq_laws.proofs.Chosen.{the_same}
use Rattle.board_def.specs.Seen.{BoardSeen}
use Rattle.board_play.specs.Lines.{BoardLine, Move, defs_of, find_line, lines_after, part}
use Rattle.board_play.specs.Order.{actors_of, due_on, flow_line}
use Rattle.board_play.proofs.Members.{found, past_at}
use Rattle.board_play.proofs.Moving.{lines_more}
use Rattle.board_ready.specs.Sets.{has}
use Rattle.board_core.specs.Firsts.{is_take_due}
use Rattle.board_play.specs.Orders.{IsMade, moves_in}
use Rattle.irq_chained.specs.Chain.{IsChainLegal, chain_next, chain_order, children, choice_by, cpu_0, first_left}
use Rattle.irq_chained.specs.Chain.{child, in_chain, lines_in, of_cpu_0, open_status, or_choice, or_exit, status_of}
use Rattle.irq_chained.specs.Chain.{stepper_of, told, with_left}
use Rattle.irq_chained.specs.Promise.{IsWalked}
use Rattle.irq_chained.specs.Seen.{DemuxSeen}
use Rattle.irq_chained.specs.Turned.{Goes, HasRoomFor, IsPlay, IsRefused, IsUnderway, TurnsBy, lines_now, lowest_of, next_of}
use Rattle.irq_chained.specs.declared.chain.ChainEntry.{ChainEntry}
use Rattle.irq_chained.specs.declared.chain.ChainEntry.TheVariants as steps
use Rattle.irq_chained.specs.declared.chain.ChainTurn.{ChainTurn}
use Rattle.irq_chained.specs.declared.chain.ChainTurn.TheVariants as turns
use Rattle.irq_chained.proofs.Chained.{first_is_some, own_step, same_children}
use Rattle.irq_chained.proofs.Further.{some_choice}
use Rattle.irq_chained.proofs.Resting.{exits_walked}
use Rattle.irq_chained.proofs.Room.{room, room_less}
use Rattle.irq_chained.proofs.StatusBits.{some_asks, status_has}

-- ---- steps of a play

pub fresh : (d : DemuxSeen) (picks : List Actor) → d.log ≡ [] → IsUnderway d picks picks
fresh d picks none =
    let g : reverse d.log ≡ [] = ap (λ (l : List ChainEntry). reverse l) none in
    record { left = picks; made = subst (λ (l : List ChainEntry). IsMade (chain_order d.board) picks l picks) (sym g) refl; next = refl }

-- a line's part of the steps is its history
part_is : (b : BoardSeen) (g : List ChainEntry) (line : LineNo) (P : List Entry → Type 0) (o : Option BoardLine)
    → find_line (lines_in b g) line ≡ o → IsSomeAnd o (λ x. P x.past) → P (part line (children g))
part_is b g line P None is h = absurd h
part_is b g line P (Some x) is h =
    let f = found (lines_in b g) line x is in
    subst (λ (past : List Entry). P past) (past_at (defs_of b) (children g) f.place x f.at ∙ ap (λ (l : LineNo). part l (children g)) (sym f.number)) h

has_room : (b : BoardSeen) (g : List ChainEntry) (o : Option Move)
    → IfSome o (λ m. IsSomeAnd (find_line (lines_in b g) m.0) (λ x. length x.past < b.log))
    → IfSome o (λ m. length (part m.0 (moves_in (chain_order b) g)) < b.log)
has_room b g None h = tt
has_room b g (Some m) h = subst (λ (l : List Move). length (part m.0 l) < b.log) (same_children b g)
    (part_is b g m.0 (λ past. length past < b.log) (find_line (lines_in b g) m.0) refl h)

abbrev pub choice_of : DemuxSeen → List Actor → Option (ChainEntry × List Actor)
choice_of d left = choice_by (chain_next d.board (reverse d.log)) (actors_of d.board) left

pub turned : (old new : DemuxSeen) (due : Option ChainEntry) (e : ChainEntry) → Goes old due e new → reverse new.log ≡ e ∷ reverse old.log
turned old new due e goes = ap (λ (l : List ChainEntry). reverse l) goes.log ∙ reverse-append old.log (e ∷ [])

more : (old new : DemuxSeen) (due : Option ChainEntry) (e : ChainEntry) (picks rest after : List Actor)
    → IsUnderway old picks rest → Goes old due e new → choice_of old rest ≡ Some (e, after) → IsUnderway new picks after
more old new due e picks rest after u goes is =
    let g : List ChainEntry = reverse old.log in
    let made : IsMade (chain_order old.board) picks (e ∷ g) after = (u.left, u.made, u.next ∙ is, has_room old.board g (told e) goes.room) in
    record {
      left = after;
      made = subst (λ (b : BoardSeen). IsMade (chain_order b) picks (reverse new.log) after) (sym goes.board)
          (subst (λ (l : List ChainEntry). IsMade (chain_order old.board) picks l after)
          (sym (turned old new due e goes)) made);
      next = refl;
    }

pub with_step : (d : DemuxSeen) (pick : Actor) (rest : List Actor) (e : ChainEntry) → next_of d pick ≡ Some e → choice_of d (pick ∷ rest) ≡ Some (e, rest)
with_step d pick rest e due = ap (λ (o : Option ChainEntry). or_choice (with_left rest o) (choice_of d rest)) due

passed_over : (d : DemuxSeen) (pick : Actor) (rest : List Actor) → next_of d pick ≡ None → choice_of d (pick ∷ rest) ≡ choice_of d rest
passed_over d pick rest due = ap (λ (o : Option ChainEntry). or_choice (with_left rest o) (choice_of d rest)) due

pub at_pick : (d : DemuxSeen) (picks : List Actor) (i : ℕ) (x : Actor) → i < length picks
    → IsUnderway d picks (drop i picks) → IsUnderway d picks (get_or picks i x ∷ drop (i + 1) picks)
at_pick d picks i x within u =
    let next : drop i picks ≡ get_or picks i x ∷ drop (i + 1) picks = drop-cons picks i x within
    ∙ ap (λ (n : ℕ). get_or picks i x ∷ drop n picks) (sym (add-one i)) in
    subst (λ (rest : List Actor). IsUnderway d picks rest) next u

-- a step that was refused ends the play
is_stopped : (d : DemuxSeen) (picks rest after : List Actor) (due : Option ChainEntry) (refused : StepRefused)
    → IsUnderway d picks rest → IsRefused d due refused
    → ((e : ChainEntry) → due ≡ Some e → choice_of d rest ≡ Some (e, after)) → IsPlay d picks (Err refused)
is_stopped d picks rest after due refusals.NoMemory u somebody next =
    let can = chain_next d.board (reverse d.log) in
    (u.left, u.made, ap (λ (o : Option (ChainEntry × List Actor)). is_some o) u.next ∙ some_choice can (actors_of d.board) rest somebody)
is_stopped d picks rest after due (refusals.Full line len) u full next = (
  (
    u.left,
    u.made,
    record {
      step = full.step;
      after = after;
      next_is = u.next ∙ next full.step full.is;
      move = full.move;
      tells = full.tells;
      of_line = full.of_line;
      is_long = ap (λ (l : List Move). length (part line l)) (sym (same_children d.board (reverse d.log))) ∙ (full.length ∙ full.log);
    },
  ),
  full.length,
)

-- a turn, where this step was due
pub record Turned (old new : DemuxSeen) (due : Option ChainEntry) : Type 0 where
  pub turn : Result ChainTurn StepRefused
  pub turns : TurnsBy old due turn new

abbrev pub a_turn : {old new : DemuxSeen} {due : Option ChainEntry} (turn : Result ChainTurn StepRefused) → TurnsBy old due turn new → Turned old new due
a_turn turn turns = record { turn = turn; turns = turns }

same_board : (old new : DemuxSeen) (due : Option ChainEntry) (turn : Result ChainTurn StepRefused) → TurnsBy old due turn new → new.board ≡ old.board
same_board old new due (Ok (turns.Moved e)) t = t.board
same_board old new due (Ok turns.NotYet) t = ap (λ (d : DemuxSeen). d.board) t.1
same_board old new due (Err refused) t = ap (λ (d : DemuxSeen). d.board) t.1

same_layout : (old new : DemuxSeen) (due : Option ChainEntry) (turn : Result ChainTurn StepRefused) → TurnsBy old due turn new → new.layout ≡ old.layout
same_layout old new due (Ok (turns.Moved e)) t = t.layout
same_layout old new due (Ok turns.NotYet) t = ap (λ (d : DemuxSeen). d.layout) t.1
same_layout old new due (Err refused) t = ap (λ (d : DemuxSeen). d.layout) t.1

module _ {old new : DemuxSeen} {due : Option ChainEntry} (t : Turned old new due) where
  -- what holds if that was answered
  pub answered : (turn : Result ChainTurn StepRefused) → t.turn ≡ turn → TurnsBy old due turn new
  answered turn same = subst (λ (x : Result ChainTurn StepRefused). TurnsBy old due x new) same t.turns

  pub keeps_board : new.board ≡ old.board
  keeps_board = same_board old new due t.turn t.turns

  pub keeps_layout : new.layout ≡ old.layout
  keeps_layout = same_layout old new due t.turn t.turns

  -- where the step is the play's next one
  goes_on : {picks rest : List Actor} (after : List Actor) {e : ChainEntry} → IsUnderway old picks rest
      → ((e : ChainEntry) → due ≡ Some e → choice_of old rest ≡ Some (e, after)) → t.turn ≡ Ok (turns.Moved e) → IsUnderway new picks after
  goes_on {picks} {rest} after {e} u next same =
      let goes : Goes old due e new = answered (Ok (turns.Moved e)) same in
      more old new due e picks rest after u goes (next e goes.is)

  stops : {picks rest : List Actor} (after : List Actor) {refused : StepRefused} → IsUnderway old picks rest
      → ((e : ChainEntry) → due ≡ Some e → choice_of old rest ≡ Some (e, after)) → t.turn ≡ Err refused → IsPlay new picks (Err refused)
  stops {picks} {rest} after {refused} u next same =
      let was : IsRefused old due refused × (new ≡ old) = answered (Err refused) same in
      subst (λ (d : DemuxSeen). IsPlay d picks (Err refused)) (sym was.1) (is_stopped old picks rest after due refused u was.0 next)

-- ---- the pick at a place

module _ {old new : DemuxSeen} {picks : List Actor} {i : ℕ} (x : Actor) (within : i < length picks)
    (u : IsUnderway old picks (drop i picks)) (t : Turned old new (next_of old (get_or picks i x))) where
  abbrev pick : Actor
  pick = get_or picks i x

  abbrev after : List Actor
  after = drop (i + 1) picks

  pub pick_done : {done : ChainTurn} → t.turn ≡ Ok done → IsUnderway new picks after
  pick_done {done} is = by_turn done is
    where
      by_turn : (done : ChainTurn) → t.turn ≡ Ok done → IsUnderway new picks after
      by_turn (turns.Moved e) same = goes_on t after (at_pick old picks i x within u) (λ e due. with_step old pick after e due) same
      by_turn turns.NotYet same =
          let rests : (next_of old pick ≡ None) × (new ≡ old) = answered t (Ok turns.NotYet) same in
          let v = at_pick old picks i x within u in
          subst (λ (d : DemuxSeen). IsUnderway d picks after) (sym rests.1)
          (record { left = v.left; made = v.made; next = v.next ∙ passed_over old pick after rests.0 })

  pub pick_stops : {refused : StepRefused} → t.turn ≡ Err refused → IsPlay new picks (Err refused)
  pick_stops same = stops t after (at_pick old picks i x within u) (λ e due. with_step old pick after e due) same

-- ---- the lowest

pub lowest_next : (d : DemuxSeen) (e : ChainEntry) → lowest_of d ≡ Some e → choice_of d [] ≡ Some (e, [])
lowest_next d e is = ap (λ (o : Option ChainEntry). with_left [] o) is

module _ {old new : DemuxSeen} (t : Turned old new (lowest_of old)) where
  pub lowest_moved : {picks : List Actor} {e : ChainEntry} → IsUnderway old picks [] → t.turn ≡ Ok (turns.Moved e) → IsUnderway new picks []
  lowest_moved u same = goes_on t [] u (lowest_next old) same

  pub lowest_done : {picks : List Actor} → IsUnderway old picks [] → t.turn ≡ Ok turns.NotYet → IsPlay new picks (Ok tt)
  lowest_done {picks} u same =
      let rests : (lowest_of old ≡ None) × (new ≡ old) = answered t (Ok turns.NotYet) same in
      subst (λ (d : DemuxSeen). IsPlay d picks (Ok tt)) (sym rests.1) (u.left, u.made, u.next ∙ ap (λ (o : Option ChainEntry). with_left [] o) rests.0)

  pub lowest_stops : {picks : List Actor} {refused : StepRefused} → IsUnderway old picks [] → t.turn ≡ Err refused → IsPlay new picks (Err refused)
  lowest_stops u same = stops t [] u (lowest_next old) same

-- ---- it ends: an enter and an exit use up no room, but never follow one another at once

pub rank_of : Option ℕ → ℕ
rank_of None = 1
rank_of (Some status) = 2

pub rank : List ChainEntry → ℕ
rank [] = 1
rank (steps.Enter cpu status ∷ g) = 0
rank (steps.Child line e ∷ g) = rank_of (open_status g)
rank (steps.Exit cpu ∷ g) = 1

pub measure : DemuxSeen → ℕ
measure d = 3 * room d.board.log (lines_now d) + rank (reverse d.log)

rank_below : (o : Option ℕ) → rank_of o ≤ 2
unfolding rank_of
rank_below None = omega arith
rank_below (Some s) = omega arith

rank_closed : (g : List ChainEntry) → open_status g ≡ None → rank g ≡ 1
unfolding rank rank_of
rank_closed [] closed = refl
rank_closed (steps.Enter cpu status ∷ g) closed = cc
rank_closed (steps.Child line e ∷ g) closed = ap (λ (o : Option ℕ). rank_of o) closed
rank_closed (steps.Exit cpu ∷ g) closed = refl

-- what an enter says of the steps before it
record Entered (b : BoardSeen) (g : List ChainEntry) (status : ℕ) : Type 0 where
  closed : open_status g ≡ None
  asks : (status_of (lines_in b g) == 0) ≡ false
  is : status ≡ status_of (lines_in b g)

entered : (b : BoardSeen) (g : List ChainEntry) (c cpu : CpuNo) (status : ℕ)
    → chain_next b g (actors.Cpu c) ≡ Some (steps.Enter cpu status) → Entered b g status
entered b g c cpu status is = by_zero (c.0 == 0) is
  where
    lines : List BoardLine
    lines = lines_in b g

    same_status : (x y : CpuNo) (m n : ℕ) → Some (steps.Enter x m) ≡ Some (steps.Enter y n) → n ≡ m
    same_status x y m n h = cc

    by_status : open_status g ≡ None → (t : Bool) → (status_of lines == 0) ≡ t
        → cond t None (Some (steps.Enter cpu_0 (status_of lines))) ≡ Some (steps.Enter cpu status) → Entered b g status
    by_status closed true is_zero h = cc
    by_status closed false is_zero h = record { closed = closed; asks = is_zero; is = same_status cpu_0 cpu (status_of lines) status h }

    by_move : (o : Option Move) → child o ≡ Some (steps.Enter cpu status) → Entered b g status
    by_move None h = cc
    by_move (Some m) h = cc

    by_exit : (o : Option Move) → or_exit (child o) ≡ Some (steps.Enter cpu status) → Entered b g status
    by_exit None h = cc
    by_exit (Some m) h = cc

    by_flow : (s : ℕ) (x : Option BoardLine) → in_chain g lines s x ≡ Some (steps.Enter cpu status) → Entered b g status
    by_flow s None h = by_exit (due_on (first_left g lines s) (actors.Cpu cpu_0)) h
    by_flow s (Some x) h = by_move (due_on (Some x) (actors.Cpu cpu_0)) h

    by_open : (o : Option ℕ) → open_status g ≡ o → of_cpu_0 g lines o ≡ Some (steps.Enter cpu status) → Entered b g status
    by_open None closed h = by_status closed (status_of lines == 0) refl h
    by_open (Some s) opens_at h = by_flow s (flow_line lines cpu_0) h

    by_zero : (z : Bool) → cond z (of_cpu_0 g lines (open_status g)) None ≡ Some (steps.Enter cpu status) → Entered b g status
    by_zero true h = by_open (open_status g) refl h
    by_zero false h = cc

-- an exit doesn't come right after an enter
rank_walked : (b : BoardSeen) (g : List ChainEntry) → IsChainLegal b g → IsWalked b g → rank g ≡ 2
unfolding rank rank_of
rank_walked b [] legal w = let bad : None ≡ Some w.status = w.is in cc
rank_walked b (steps.Exit cpu ∷ g) legal w = let bad : None ≡ Some w.status = w.is in cc
rank_walked b (steps.Child line e ∷ g) legal w = ap (λ (o : Option ℕ). rank_of o) w.is
rank_walked b (steps.Enter cpu status ∷ g) legal w =
    let x = entered b g cpu cpu status legal.0 in
    let a = some_asks (lines_in b g) x.asks in
    let same : w.status ≡ status = the_same w.status status (sym w.is) in
    let set : has w.status a.place ≡ true =
    ap (λ (n : ℕ). has n a.place) (same ∙ x.is) ∙ (status_has (lines_in b g) a.place ∙ (ap (λ (o : Option BoardLine). is_take_due cpu_0 o) a.at ∙ a.due)) in
    let bad : false ≡ true = w.each a.place a.line a.at set a.due in
    cc

pub measure_falls : (old new : DemuxSeen) (due : Option ChainEntry) (e : ChainEntry)
    → IsChainLegal old.board (reverse old.log) → (a : Actor) → next_of old a ≡ Some e → Goes old due e new
    → measure new < measure old
unfolding measure rank rank_of
measure_falls old new due e legal a next goes =
    subst (λ (b : BoardSeen). 3 * room b.log (lines_in b (reverse new.log)) + rank (reverse new.log) < measure old) (sym goes.board)
    (subst (λ (l : List ChainEntry). 3 * room old.board.log (lines_in old.board l) + rank l < measure old)
    (sym (turned old new due e goes)) (by_step e goes.room next))
  where
    b : BoardSeen
    b = old.board

    g : List ChainEntry
    g = reverse old.log

    by_cpu : (e : ChainEntry) (c : CpuNo) → stepper_of e ≡ actors.Cpu c → next_of old a ≡ Some e → chain_next b g (actors.Cpu c) ≡ Some e
    by_cpu e c is next = ap (λ (x : Actor). chain_next b g x) (sym is ∙ own_step b g a e next) ∙ next

    by_step : (e : ChainEntry) → HasRoomFor old e → next_of old a ≡ Some e
        → 3 * room b.log (lines_in b (e ∷ g)) + rank (e ∷ g) < 3 * room b.log (lines_in b g) + rank g
    by_step (steps.Enter cpu status) room_for next =
        let x = entered b g cpu cpu status (by_cpu (steps.Enter cpu status) cpu refl next) in
        let r = rank_closed g x.closed in
        omega (arith, r)
    by_step (steps.Exit cpu) room_for next =
        let r = rank_walked b g legal (exits_walked b g cpu cpu (by_cpu (steps.Exit cpu) cpu refl next)) in
        omega (arith, r)
    by_step (steps.Child line x) room_for next =
        let less = room_less b.log (line, x) (lines_in b g) room_for in
        let after : room b.log (lines_in b (steps.Child line x ∷ g))
        ≡ room b.log (lines_after (line, x) (lines_in b g))
        = ap (λ (ls : List BoardLine). room b.log ls) (lines_more (defs_of b) (line, x) (children g)) in
        let most = rank_below (open_status g) in
        omega (arith, less, after, most)

pub lowest_falls : {old new : DemuxSeen} (t : Turned old new (lowest_of old)) {e : ChainEntry} → IsChainLegal old.board (reverse old.log)
    → t.turn ≡ Ok (turns.Moved e) → measure new < measure old
lowest_falls {old} {new} t {e} legal same =
    let goes : Goes old (lowest_of old) e new = answered t (Ok (turns.Moved e)) same in
    let a = first_is_some (chain_next old.board (reverse old.log)) (actors_of old.board) e goes.is in
    measure_falls old new (lowest_of old) e legal a.0 a.1 goes
