-- For which step of a demultiplexer memory was refused.
use Rattle.std.proofs.Common.{◌≡◌, ℕ, ◌<◌, true, IsSome, IsTrue, is_some, Option, Some, None, List, [], ◌∷◌, length, reverse}
use Rattle.std.proofs.Common.{slice_get, drop, get_or, Result, Ok, Err}
use Rattle.std.proofs.Common.{refl, sym, ap, ◌∙◌, subst, ◌+◌}
use Rattle.std.proofs.lemmas.List.{length-reverse}
use Rattle.irq_base.specs.Cell.{Cell}
use Rattle.irq_base.specs.declared.entries.Actor.{Actor}
use Rattle.irq_base.specs.declared.entries.Actor.TheVariants as actors
use Rattle.irq_base.specs.declared.entries.Entry.{Entry}
use Rattle.irq_base.specs.declared.numbers.LineNo.{LineNo}
use Rattle.irq_line.specs.declared.answers.StepRefused.{StepRefused}
use Rattle.irq_line.specs.declared.answers.StepRefused.TheVariants as refusals
use Rattle.irq_laws.proofs.Chosen.{the_same}
use Rattle.board_def.specs.Rules.{IsBoard}
use Rattle.board_play.specs.Kept.{AreKept}
use Rattle.board_play.specs.Lines.{BoardLine, Move, find_line}
use Rattle.board_play.specs.Order.{actors_of, due_line, due_move, due_on, flow_line, line_for, or_line}
use Rattle.board_play.proofs.KeptAlways.{apart_kept}
use Rattle.board_play.proofs.Members.{find_there}
use Rattle.board_play.proofs.Moves.{line_stands}
use Rattle.board_core.specs.Firsts.{is_take_due, number_of}
use Rattle.board_core.specs.Seen.{SystemSeen, board_lines}
use Rattle.board_core.specs.Turns.{CanMove, Turns}
use Rattle.board_core.specs.Wanted.{HasSpare, WantedMemory, WantsOn, Wants as SystemWants}
use Rattle.board_core.specs.declared.turns.Turn.{Turn}
use Rattle.board_core.specs.declared.turns.Turn.TheVariants as moves
use Rattle.irq_chained.specs.Chain.{chain_next, child, children, cpu_0, first_left, lines_in, of_cpu_0, in_chain, open_status, or_step}
use Rattle.irq_chained.specs.Seen.{DemuxSeen, IsDemux, seen_of}
use Rattle.irq_chained.specs.Turned.{IsOther, IsUnderway, lowest_driver_of, lowest_of, next_of, turn_of}
use Rattle.irq_chained.specs.Wanted.{DueWants, PlayWants, Wants, WantsDue, WantsFor, WantsNext, WantsStep, child_for, line_in_chain}
use Rattle.irq_chained.specs.Walk.{mark_of}
use Rattle.irq_chained.specs.declared.chain.ChainEntry.{ChainEntry}
use Rattle.irq_chained.specs.declared.chain.ChainTurn.{ChainTurn}
use Rattle.irq_chained.specs.declared.marks.Mark.{Mark}
use Rattle.irq_chained.specs.declared.marks.Marked.{Marked}
use Rattle.irq_chained.specs.declared.marks.Marked.TheVariants as marks
use Rattle.irq_chained.specs.declared.marks.Walk.{Walk}
use Rattle.irq_chained.proofs.Chained.{take_is_due}
use Rattle.irq_chained.proofs.Further.{some_choice}
use Rattle.irq_chained.proofs.Playing.{Turned, answered, at_pick, choice_of, lowest_next, with_step}
use Rattle.irq_chained.proofs.Stepping.{lines_are, steps_of}
use Rattle.irq_chained.proofs.Turning.{some_of}

-- an entry of a child is no mark
wants_child : (o : Option Move) {C : Type 0} → C → WantsFor (child o) C
wants_child None c = c
wants_child (Some m) c = c

wants_mark : (what : Marked) (C : Type 0) → WantsFor (Some (mark_of what)) C
wants_mark (marks.Enter status) C = tt
wants_mark marks.Exit C = tt

some_child : (o : Option Move) → IsSome o → IsSome (child o)
some_child None some = cc
some_child (Some m) some = some

module _ (may_want : Option Entry → Type 0) where
  -- the mark of an enter or an exit
  pub mark_wants : (view : DemuxSeen) (what : Marked) → next_of view (actors.Cpu cpu_0) ≡ Some (mark_of what)
      → Wants may_want view (actors.Cpu cpu_0) (Err refusals.NoMemory)
  mark_wants view what next = record {
    can = ap (λ (o : Option ChainEntry). is_some o) next;
    step = subst (λ (o : Option ChainEntry). WantsFor o (WantedMemory may_want (HasSpare view.lines) (length (children (reverse view.log)))
        (child_for view.board (reverse view.log) (actors.Cpu cpu_0)) (actors.Cpu cpu_0))) (sym next) (wants_mark what _);
  }

  module _ {s : SystemSeen} {ms : List Mark} {walk : Option Walk} {parent : Cell} (d : IsDemux s ms walk parent) {view : DemuxSeen}
      (v : seen_of s ms parent ≡ view) where
    abbrev g : List ChainEntry
    g = steps_of s ms

    -- the moves of the system are those of the children
    as_moves : (on : Option BoardLine) (a : Actor) → WantedMemory may_want (HasSpare s.lines) (length s.log) on a
        → WantedMemory may_want (HasSpare s.lines) (length (children g)) on a
    as_moves on a wanted = subst (λ (n : ℕ). WantedMemory may_want (HasSpare s.lines) n on a)
        (sym (ap (λ (l : List Move). length l) d.moves ∙ length-reverse s.log)) wanted

    told : (a : Actor) (turn : Result Turn StepRefused) (answer : Result ChainTurn StepRefused) → answer ≡ turn_of turn
        → Wants may_want (seen_of s ms parent) a (turn_of turn)
        → Wants may_want view a answer
    told a turn answer same wants = subst (λ (x : DemuxSeen). Wants may_want x a answer) v
        (subst (λ (t : Result ChainTurn StepRefused). Wants may_want (seen_of s ms parent) a t) (sym same) wants)

    -- a thread or a driver
    pub other_wants : (t : SystemSeen) (a : Actor) (turn : Result Turn StepRefused) (answer : Result ChainTurn StepRefused) → answer ≡ turn_of turn → IsOther a
        → Turns s a turn t → SystemWants may_want s a turn → Wants may_want view a answer
    other_wants t a turn answer same other by wants = told a turn answer same (by_turn turn by wants)
      where
        by_actor : (a : Actor) → IsOther a → CanMove s.board (lines_in s.board g) a
            → WantedMemory may_want (HasSpare s.lines) (length (children g)) (line_for s.board (lines_in s.board g) a) a
            → WantsStep may_want (HasSpare s.lines) s.board g a
        by_actor (actors.Thread dev) other can wanted = record { can = can; step = wants_child _ wanted }
        by_actor (actors.Cpu c) other can wanted = absurd other
        by_actor (actors.Driver r) other can wanted = record { can = can; step = wants_child _ wanted }

        by_turn : (turn : Result Turn StepRefused) → Turns s a turn t → SystemWants may_want s a turn → Wants may_want (seen_of s ms parent) a (turn_of turn)
        by_turn (Ok (moves.Moved line e)) by wants = tt
        by_turn (Ok moves.NotYet) by wants = tt
        by_turn (Err (refusals.Full line len)) by wants = tt
        by_turn (Err refusals.NoMemory) by wants =
            by_actor a other (subst (λ (ls : List BoardLine). CanMove s.board ls a) (sym (lines_are d)) by.0.actor)
            (subst (λ (ls : List BoardLine). WantedMemory may_want (HasSpare s.lines) (length (children g)) (line_for s.board ls a) a)
            (sym (lines_are d)) (as_moves (line_for s.board (board_lines s.lines) a) a wants))

    -- processor 0, on a child
    cpu_0_wants : (on : Option BoardLine) → chain_next s.board g (actors.Cpu cpu_0) ≡ child (due_on on (actors.Cpu cpu_0))
        → IsSome (due_on on (actors.Cpu cpu_0)) → child_for s.board g (actors.Cpu cpu_0) ≡ on
        → (turn : Result Turn StepRefused) (answer : Result ChainTurn StepRefused)
        → answer ≡ turn_of turn → WantsOn may_want s on (actors.Cpu cpu_0) turn → Wants may_want view (actors.Cpu cpu_0) answer
    cpu_0_wants on next some its turn answer same wants = told (actors.Cpu cpu_0) turn answer same (by_turn turn wants)
      where
        by_turn : (turn : Result Turn StepRefused) → WantsOn may_want s on (actors.Cpu cpu_0) turn
            → Wants may_want (seen_of s ms parent) (actors.Cpu cpu_0) (turn_of turn)
        by_turn (Ok (moves.Moved line e)) wants = tt
        by_turn (Ok moves.NotYet) wants = tt
        by_turn (Err (refusals.Full line len)) wants = tt
        by_turn (Err refusals.NoMemory) wants =
            let C = WantedMemory may_want (HasSpare s.lines) (length (children g)) (child_for s.board g (actors.Cpu cpu_0)) (actors.Cpu cpu_0) in
            record {
              can = subst (λ (o : Option ChainEntry). IsSome o) (sym next) (some_child (due_on on (actors.Cpu cpu_0)) some);
              step = subst (λ (o : Option ChainEntry). WantsFor o C) (sym next)
                  (wants_child (due_on on (actors.Cpu cpu_0))
                  (subst (λ (o : Option BoardLine). WantedMemory may_want (HasSpare s.lines) (length (children g)) o (actors.Cpu cpu_0)) (sym its)
                  (as_moves on (actors.Cpu cpu_0) wants)));
            }

    module _ (isb : IsBoard view.board) (kept : AreKept view.board (board_lines view.lines)) where
      its_board : IsBoard s.board
      its_board = subst (λ (x : DemuxSeen). IsBoard x.board) (sym v) isb

      its_lines : AreKept s.board (board_lines s.lines)
      its_lines = subst (λ (x : DemuxSeen). AreKept x.board (board_lines x.lines)) (sym v) kept

      -- on the child that has its flow
      pub flow_wants : (line : LineNo) (turn : Result Turn StepRefused) (answer : Result ChainTurn StepRefused) → answer ≡ turn_of turn
          → IsSome (open_status (reverse view.log)) → number_of (flow_line (board_lines view.lines) cpu_0) ≡ Some line
          → is_some (due_move s.board (board_lines s.lines) (actors.Cpu cpu_0)) ≡ true
          → WantsOn may_want s (find_line (board_lines s.lines) line) (actors.Cpu cpu_0) turn → Wants may_want view (actors.Cpu cpu_0) answer
      flow_wants line turn answer same opens number some wants =
          by_line (flow_line lines cpu_0) refl (subst (λ (x : DemuxSeen). number_of (flow_line (board_lines x.lines) cpu_0) ≡ Some line) (sym v) number)
        where
          lines : List BoardLine
          lines = board_lines s.lines

          by_line : (o : Option BoardLine) → flow_line lines cpu_0 ≡ o → number_of o ≡ Some line → Wants may_want view (actors.Cpu cpu_0) answer
          by_line None is number = cc
          by_line (Some x) is number =
              let st = some_of (open_status g) (subst (λ (y : DemuxSeen). IsSome (open_status (reverse y.log))) (sym v) opens) in
              let on : line_for s.board lines (actors.Cpu cpu_0) ≡ Some x = ap (λ (o : Option BoardLine). or_line o (due_line lines cpu_0)) is in
              let stands = line_stands s.board lines (actors.Cpu cpu_0) x on in
              let found : find_line lines line ≡ Some x = ap (λ (l : LineNo). find_line lines l)
              (sym (the_same x.def.line line number)) ∙ find_there lines (apart_kept s.board its_board lines its_lines) stands.place x stands.at in
              let next : chain_next s.board g (actors.Cpu cpu_0) ≡ child (due_on (Some x) (actors.Cpu cpu_0)) =
              ap (λ (o : Option ℕ). of_cpu_0 g (lines_in s.board g) o) st.1
              ∙ (ap (λ (ls : List BoardLine). in_chain g ls st.0 (flow_line ls cpu_0)) (lines_are d)
              ∙ ap (λ (o : Option BoardLine). in_chain g lines st.0 o) is) in
              let its : child_for s.board g (actors.Cpu cpu_0) ≡ Some x =
              ap (λ (o : Option ℕ). line_in_chain g (lines_in s.board g) o) st.1
              ∙ (ap (λ (ls : List BoardLine). or_line (flow_line ls cpu_0) (first_left g ls st.0)) (lines_are d)
              ∙ ap (λ (o : Option BoardLine). or_line o (first_left g lines st.0)) is) in
              cpu_0_wants (Some x) next (ap (λ (o : Option BoardLine). is_some (due_on o (actors.Cpu cpu_0))) (sym on) ∙ some)
              its turn answer same (subst (λ (o : Option BoardLine). WantsOn may_want s o (actors.Cpu cpu_0) turn) found wants)

      -- on the child that is taken
      pub take_wants : (place : ℕ) (line : LineNo) (turn : Result Turn StepRefused) (answer : Result ChainTurn StepRefused) → answer ≡ turn_of turn
          → IsTrue (is_take_due cpu_0 (slice_get (board_lines view.lines) place))
          → next_of view (actors.Cpu cpu_0) ≡ child (due_on (slice_get (board_lines view.lines) place) (actors.Cpu cpu_0))
          → child_for view.board (reverse view.log) (actors.Cpu cpu_0) ≡ slice_get (board_lines view.lines) place
          → number_of (slice_get (board_lines s.lines) place) ≡ Some line
          → WantsOn may_want s (find_line (board_lines s.lines) line) (actors.Cpu cpu_0) turn → Wants may_want view (actors.Cpu cpu_0) answer
      take_wants place line turn answer same due next its number wants = by_line (slice_get lines place) refl number
        where
          lines : List BoardLine
          lines = board_lines s.lines

          on : Option BoardLine
          on = slice_get lines place

          by_line : (o : Option BoardLine) → slice_get lines place ≡ o → number_of o ≡ Some line → Wants may_want view (actors.Cpu cpu_0) answer
          by_line None at number = cc
          by_line (Some y) at number =
              let found : find_line lines line ≡ slice_get lines place = ap (λ (l : LineNo). find_line lines l)
              (sym (the_same y.def.line line number))
              ∙ (find_there lines (apart_kept s.board its_board lines its_lines) place y at ∙ sym at) in
              cpu_0_wants (slice_get lines place)
              (subst (λ (x : DemuxSeen). next_of x (actors.Cpu cpu_0) ≡ child (due_on (slice_get (board_lines x.lines) place) (actors.Cpu cpu_0))) (sym v) next)
              (ap (λ (o : Option Move). is_some o) (take_is_due (slice_get lines place)
              (subst (λ (x : DemuxSeen). IsTrue (is_take_due cpu_0 (slice_get (board_lines x.lines) place))) (sym v) due)).1)
              (subst (λ (x : DemuxSeen). child_for x.board (reverse x.log) (actors.Cpu cpu_0) ≡ slice_get (board_lines x.lines) place) (sym v) its)
              turn answer same (subst (λ (o : Option BoardLine). WantsOn may_want s o (actors.Cpu cpu_0) turn) found wants)

  -- ---- the lowest actor that has a step

  pub due_wants : (d : DemuxSeen) (due : Option ChainEntry) (a : Actor) (turn : Result ChainTurn StepRefused) → due ≡ next_of d a → Wants may_want d a turn
      → DueWants may_want d due turn
  due_wants d due a (Ok done) its wants = tt
  due_wants d due a (Err (refusals.Full line len)) its wants = tt
  due_wants d due a (Err refusals.NoMemory) its wants = record { actor = a; its = its; step = wants }

  -- that of processor 0, if it has one
  pub cpu_0_lowest : (d : DemuxSeen) (refused : StepRefused) → lowest_of d ≡ or_step (next_of d (actors.Cpu cpu_0)) (lowest_driver_of d)
      → Wants may_want d (actors.Cpu cpu_0) (Err refused) → DueWants may_want d (lowest_of d) (Err refused)
  cpu_0_lowest d (refusals.Full line len) is wants = tt
  cpu_0_lowest d refusals.NoMemory is wants =
      let e = some_of (next_of d (actors.Cpu cpu_0)) wants.can in
      record {
        actor = actors.Cpu cpu_0;
        its = is ∙ (ap (λ (o : Option ChainEntry). or_step o (lowest_driver_of d)) e.1 ∙ sym e.1);
        step = wants;
      }

  -- that of the lowest driver, where nobody before it has one
  pub driver_lowest : (old same : DemuxSeen) (turn : Result ChainTurn StepRefused)
      → lowest_of old ≡ or_step (next_of old (actors.Cpu cpu_0)) (lowest_driver_of old)
      → next_of old (actors.Cpu cpu_0) ≡ None → same ≡ old → DueWants may_want same (lowest_driver_of same) turn
      → DueWants may_want old (lowest_of old) turn
  driver_lowest old same turn is none still wants =
      subst (λ (o : Option ChainEntry). DueWants may_want old o turn)
      (sym (is ∙ ap (λ (o : Option ChainEntry). or_step o (lowest_driver_of old)) none))
      (subst (λ (d : DemuxSeen). DueWants may_want d (lowest_driver_of d) turn) still wants)

  -- ---- a play

  ends : (old new : DemuxSeen) (picks rest : List Actor) → IsUnderway old picks rest → IsSome (lowest_of old) → new ≡ old → (a : Actor)
      → ((e : ChainEntry) → next_of old a ≡ Some e → (after : List Actor) × (choice_of old rest ≡ Some (e, after)))
      → WantsStep may_want (HasSpare old.lines) old.board (reverse old.log) a → WantsNext may_want (HasSpare new.lines) new.board picks new.log
  ends old new picks rest u some is a next step =
      subst (λ (d : DemuxSeen). WantsNext may_want (HasSpare d.lines) d.board picks d.log) (sym is)
      (record {
        left = u.left;
        so_far = u.made;
        some = ap (λ (o : Option (ChainEntry × List Actor)). is_some o) u.next
            ∙ some_choice (chain_next old.board (reverse old.log)) (actors_of old.board) rest some;
        actor = a;
        next = λ e due. ((next e due).0, u.next ∙ (next e due).1);
        step = step;
      })

  -- the lowest actor's turn ends a play
  pub lowest_ends : {old new : DemuxSeen} (t : Turned old new (lowest_of old)) {picks : List Actor} → IsUnderway old picks []
      → {refused : StepRefused} → t.turn ≡ Err refused → DueWants may_want old (lowest_of old) t.turn → PlayWants may_want new picks (Err refused)
  lowest_ends {old} {new} t {picks} u {refused} is wants = by_refusal refused is
    where
      by_refusal : (refused : StepRefused) → t.turn ≡ Err refused → PlayWants may_want new picks (Err refused)
      by_refusal (refusals.Full line len) same = tt
      by_refusal refusals.NoMemory same =
          let by : IsSome (lowest_of old) × (new ≡ old) = answered t (Err refusals.NoMemory) same in
          let low : WantsDue may_want old (lowest_of old) = subst (λ (x : Result ChainTurn StepRefused). DueWants may_want old (lowest_of old) x) same wants in
          ends old new picks [] u by.0 by.1 low.actor (λ e due. ([], lowest_next old e (low.its ∙ due))) low.step

  -- a pick's turn ends a play
  pub pick_ends : {old new : DemuxSeen} {picks : List Actor} {i : ℕ} (x : Actor) → i < length picks → IsUnderway old picks (drop i picks)
      → (t : Turned old new (next_of old (get_or picks i x))) → {refused : StepRefused} → t.turn ≡ Err refused
      → Wants may_want old (get_or picks i x) t.turn → PlayWants may_want new picks (Err refused)
  pick_ends {old} {new} {picks} {i} x within u t {refused} is wants = by_refusal refused is
    where
      by_refusal : (refused : StepRefused) → t.turn ≡ Err refused → PlayWants may_want new picks (Err refused)
      by_refusal (refusals.Full line len) same = tt
      by_refusal refusals.NoMemory same =
          let pick = get_or picks i x in
          let after = drop (i + 1) picks in
          let by : IsSome (lowest_of old) × (new ≡ old) = answered t (Err refusals.NoMemory) same in
          ends old new picks (pick ∷ after) (at_pick old picks i x within u) by.0 by.1 pick (λ e due. (after, with_step old pick after e due))
          (subst (λ (y : Result ChainTurn StepRefused). Wants may_want old pick y) same wants)
