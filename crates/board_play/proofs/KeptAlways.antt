-- What every move keeps holds of every play.
use Rattle.std.proofs.Common.{◌≡◌, ◌⊎◌, inl, inr, ℕ, suc, Bool, true, false, cond, Option, Some, List, [], ◌∷◌, map, slice_get}
use Rattle.std.proofs.Common.{refl, sym, ap, ◌∙◌, subst, arith}
use Rattle.irq_base.specs.Who.{actor_of}
use Rattle.irq_base.specs.declared.calls.Call.{Call}
use Rattle.irq_base.specs.declared.entries.Actor.{Actor}
use Rattle.irq_base.specs.declared.entries.Actor.TheVariants as actors
use Rattle.irq_base.specs.declared.entries.Entry.{Entry}
use Rattle.irq_base.specs.declared.numbers.CpuNo.{CpuNo}
use Rattle.irq_base.specs.declared.numbers.DriverNo.{DriverNo}
use Rattle.irq_model.specs.Due.{calls_by, due_call}
use Rattle.irq_model.specs.Kinds.{same_line}
use Rattle.irq_model.specs.Legal.{IsLegalPast}
use Rattle.irq_model.specs.Next.{next_past}
use Rattle.irq_model.specs.Rounds.{flow, is_cpu}
use Rattle.irq_model.proofs.Same.{line_from_same}
use Rattle.irq_laws.proofs.Chosen.{the_same}
use Rattle.irq_laws.proofs.OwnLaws.{due_is_own_past}
use Rattle.irq_laws.proofs.Progress.{fresh}
use Rattle.board_def.specs.Rules.{IsBoard}
use Rattle.board_def.specs.Seen.{BoardSeen}
use Rattle.board_def.specs.declared.rows.ScriptCall.{ScriptCall}
use Rattle.board_play.specs.Kept.{HaveOneFlow, IsUpTo, AreKept}
use Rattle.board_play.specs.Lines.{BoardLine, Move, defs_of, lines_at, lines_of, lines_after}
use Rattle.board_play.specs.Order.{flow_line, due_line, or_line, line_for, due_move}
use Rattle.board_play.specs.Play.{End, IsChosen, Plays}
use Rattle.board_play.proofs.Counting.{none_complete}
use Rattle.board_play.proofs.Flows.{flow_line_is, flow_after}
use Rattle.board_play.proofs.Members.{AreApart, defs_at, past_at}
use Rattle.board_play.proofs.Moves.{MovesOn, moves_on, choice_is}
use Rattle.board_play.proofs.Moving.{defs_moved, moved_at, lines_more, up_to_more}
use Rattle.board_play.proofs.OfBoard.{apart_defs}
use Rattle.board_play.proofs.Parts.{the_line, the_place, due_of}
use Rattle.board_play.proofs.Script.{done}

pub apart_kept : (board : BoardSeen) → IsBoard board → (lines : List BoardLine) → AreKept board lines → AreApart (map (λ (x : BoardLine). x.def) lines)
apart_kept board is lines k = subst AreApart (sym k.defs) (apart_defs board is)

-- ---- a move

module _ (board : BoardSeen) (is : IsBoard board) (lines : List BoardLine) (k : AreKept board lines) (a : Actor)
    (m : Move) (moves : MovesOn board lines a m) where
  legal_after : (x : BoardLine) (i : ℕ) → slice_get lines i ≡ Some x → (b : Bool) → same_line x.def.line m.0 ≡ b
      → IsLegalPast x.def (cond b (m.1 ∷ x.past) x.past)
  legal_after x i at false differs = k.legal i x at
  legal_after x i at true same =
      let here : moves.line ≡ x = the_line lines (apart_kept board is lines k) moves.place i moves.line x moves.at at
      (sym moves.number ∙ sym (line_from_same x.def.line m.0 same)) in
      (due_of x.def x.past a m.1 (subst (λ (y : BoardLine). next_past y.def y.past a ≡ Some m.1) here moves.due), k.legal i x at)

  -- the processor that moved goes on with its flow, if it has one
  on_its_flow : (c : CpuNo) → a ≡ actors.Cpu c → (i : ℕ) (x : BoardLine) → slice_get lines i ≡ Some x
      → is_cpu c (flow x.def x.past) ≡ true → moves.place ≡ i
  on_its_flow c mine i x at its =
      let on : flow_line lines c ≡ Some x = flow_line_is lines k.one_flow c i x at its in
      let here : moves.line ≡ x = the_same moves.line x (sym moves.its ∙ (ap (λ (b : Actor). line_for board lines b) mine
      ∙ ap (λ (o : Option BoardLine). or_line o (due_line lines c)) on)) in
      the_place lines (apart_kept board is lines k) moves.place i moves.line x moves.at at (ap (λ (y : BoardLine). y.def.line) here)

  -- a processor that has a flow after the move had it before, or made the move
  had_flow : (x : BoardLine) (i : ℕ) (c : CpuNo) → slice_get lines i ≡ Some x → (b : Bool) → same_line x.def.line m.0 ≡ b
      → is_cpu c (flow x.def (cond b (m.1 ∷ x.past) x.past)) ≡ true
      → (is_cpu c (flow x.def x.past) ≡ true) ⊎ ((a ≡ actors.Cpu c) × (moves.place ≡ i))
  had_flow x i c at false differs its = inl its
  had_flow x i c at true same its = by_entry (flow_after x.def x.past c m.1 its)
    where
      by_entry : (is_cpu c (flow x.def x.past) ≡ true) ⊎ (actor_of m.1 ≡ actors.Cpu c)
          → (is_cpu c (flow x.def x.past) ≡ true) ⊎ ((a ≡ actors.Cpu c) × (moves.place ≡ i))
      by_entry (inl before) = inl before
      by_entry (inr own) = inr (
        sym (due_is_own_past moves.line.def moves.line.past a m.1 moves.due) ∙ own,
        the_place lines (apart_kept board is lines k) moves.place i moves.line x moves.at at
            (sym moves.number ∙ sym (line_from_same x.def.line m.0 same)),
      )

  one_place : (c : CpuNo) (i j : ℕ) (x y : BoardLine) → slice_get lines i ≡ Some x → slice_get lines j ≡ Some y
      → (is_cpu c (flow x.def x.past) ≡ true) ⊎ ((a ≡ actors.Cpu c) × (moves.place ≡ i))
      → (is_cpu c (flow y.def y.past) ≡ true) ⊎ ((a ≡ actors.Cpu c) × (moves.place ≡ j)) → i ≡ j
  one_place c i j x y at_x at_y (inl in_x) (inl in_y) = k.one_flow c i j x y at_x at_y in_x in_y
  one_place c i j x y at_x at_y (inl in_x) (inr to_y) = sym (on_its_flow c to_y.0 i x at_x in_x) ∙ to_y.1
  one_place c i j x y at_x at_y (inr to_x) (inl in_y) = sym to_x.1 ∙ on_its_flow c to_x.0 j y at_y in_y
  one_place c i j x y at_x at_y (inr to_x) (inr to_y) = sym to_x.1 ∙ to_y.1

  one_flow_after : HaveOneFlow (lines_after m lines)
  one_flow_after c i j x y at_x at_y in_x in_y =
      let s = moved_at lines m i x at_x in
      let t = moved_at lines m j y at_y in
      one_place c i j s.line t.line s.at t.at
      (had_flow s.line i c s.at (same_line s.line.def.line m.0) refl
      (subst (λ (z : BoardLine). is_cpu c (flow z.def z.past) ≡ true) (sym s.is) in_x))
      (had_flow t.line j c t.at (same_line t.line.def.line m.0) refl
      (subst (λ (z : BoardLine). is_cpu c (flow z.def z.past) ≡ true) (sym t.is) in_y))

  pub kept_after : AreKept board (lines_after m lines)
  kept_after =
      record {
        defs = defs_moved lines m ∙ k.defs;
        legal = λ i y at. let s = moved_at lines m i y at in
            subst (λ (z : BoardLine). IsLegalPast z.def z.past) s.is
            (legal_after s.line i s.at (same_line s.line.def.line m.0) refl);
        in_order = λ r. let o = k.in_order r in up_to_more board lines (apart_kept board is lines k) a m moves r o.0 o.1;
        one_flow = one_flow_after;
      }

pub move_keeps : (board : BoardSeen) (lines : List BoardLine) (a : Actor) (m : Move) → IsBoard board
    → AreKept board lines → due_move board lines a ≡ Some m → AreKept board (lines_after m lines)
move_keeps board lines a m is k due = kept_after board is lines k a m (moves_on board lines a m due)

-- ---- a play

pub nothing_yet : (board : BoardSeen) (calls : List ScriptCall) (r : DriverNo) → IsUpTo calls (lines_at (defs_of board) []) r 0
nothing_yet board calls r =
    record {
      complete = λ i x at. ap (λ (past : List Entry). done (record { def = x.def; past = past }) r) (past_at (defs_of board) [] i x at) ∙ none_complete x.def r;
      begun = λ i x c n at due. absurd (not_begun x c n (ap (λ (past : List Entry). due_call x.def r past) (sym (past_at (defs_of board) [] i x at)) ∙ due));
    }
  where
    not_begun : (x : BoardLine) (c : Call) (n : ℕ) → due_call x.def r [] ≡ Some (c, suc n) → ⊥
    not_begun x c n due = let zero = fresh (calls_by r x.def.calls) c (suc n) due in omega (arith, zero)

-- nothing has happened: all is kept
pub kept_fresh : (board : BoardSeen) → AreKept board (lines_of board [])
kept_fresh board =
    record {
      defs = defs_at (defs_of board) [];
      legal = λ i x at. subst (λ (past : List Entry). IsLegalPast x.def past) (sym (past_at (defs_of board) [] i x at)) tt;
      in_order = λ r. (0, nothing_yet board board.calls r);
      one_flow = λ c i j x y at_x at_y in_x in_y. no_flow_yet c i x at_x in_x;
    }
  where
    no_flow_yet : {P : Type 0} (c : CpuNo) (i : ℕ) (x : BoardLine) → slice_get (lines_of board []) i ≡ Some x
        → is_cpu c (flow x.def x.past) ≡ true → P
    no_flow_yet c i x at its =
        let n : false ≡ true = ap (λ (past : List Entry). is_cpu c (flow x.def past)) (sym (past_at (defs_of board) [] i x at)) ∙ its in cc

pub kept_play : (board : BoardSeen) (picks : List Actor) → IsBoard board → (g : List Move) (left : List Actor)
    → IsChosen board picks g left → AreKept board (lines_of board g)
kept_play board picks is [] left chosen = kept_fresh board
kept_play board picks is (m ∷ g) left chosen =
    let k : AreKept board (lines_of board g) = kept_play board picks is g chosen.0 chosen.1 in
    let who = choice_is board (lines_of board g) chosen.0 m left chosen.2 in
    subst (λ (lines : List BoardLine). AreKept board lines) (sym (lines_more (defs_of board) m g))
    (move_keeps board (lines_of board g) who.actor m is k who.moves)

pub play_keeps : (board : BoardSeen) (picks : List Actor) (g : List Move) (end : End) → IsBoard board
    → Plays board picks g end → AreKept board (lines_of board g)
play_keeps board picks g end is plays = kept_play board picks is g plays.0 plays.1

pub parts_are_legal : (board : BoardSeen) (picks : List Actor) (g : List Move) (end : End) → IsBoard board
    → Plays board picks g end → (i : ℕ) (x : BoardLine) → slice_get (lines_of board g) i ≡ Some x
    → IsLegalPast x.def x.past
parts_are_legal board picks g end is plays i x at = (play_keeps board picks g end is plays).legal i x at
