-- On a board of one line each legal history of the line is a play by itself: its entries' actors make it.
use Rattle.std.proofs.Common.{◌≡◌, ℕ, suc, ◌+◌, ◌<◌, ◌≤◌, Bool, true, false, ◌&&◌, cond, nat_le, leb-false, is_some, Option, Some, None, Result, Ok, Err}
use Rattle.std.proofs.Common.{List, [], ◌∷◌, ◌++◌, length, map, slice_get, take, drop, reverse, zero, refl, sym, ap, subst, ◌∙◌, arith, append_assoc}
use Rattle.std.specs.Prelude.{IsSome, IsSomeAnd}
use Rattle.std.proofs.lemmas.List.{reverse-append, length-reverse, length-take-le}
use Rattle.std.proofs.lemmas.Option.{none-some, same_Some, slice_get_within}
use Rattle.irq_base.specs.Who.{actor_of}
use Rattle.irq_base.specs.declared.calls.Call.{Call}
use Rattle.irq_base.specs.declared.entries.Actor.{Actor}
use Rattle.irq_base.specs.declared.entries.Actor.TheVariants as actors
use Rattle.irq_base.specs.declared.entries.Entry.{Entry}
use Rattle.irq_base.specs.declared.lines.LineDef.{LineDef}
use Rattle.irq_base.specs.declared.numbers.DriverNo.{DriverNo}
use Rattle.irq_base.specs.declared.numbers.LineNo.{LineNo}
use Rattle.irq_line.specs.declared.answers.StepRefused.{StepRefused}
use Rattle.irq_line.specs.declared.answers.StepRefused.TheVariants as refusals
use Rattle.irq_laws.specs.Kept.{complete_by}
use Rattle.irq_model.specs.Kinds.{same_line, same_driver}
use Rattle.irq_model.specs.Legal.{IsLegalPast}
use Rattle.irq_model.specs.Due.{due_call}
use Rattle.irq_model.specs.Lines.{has_device}
use Rattle.irq_model.specs.Next.{next_of_driver, next_of_thread, next_past}
use Rattle.irq_model.specs.Rounds.{flow, is_cpu}
use Rattle.irq_model.proofs.Same.{same_self_line, line_from_same}
use Rattle.board_def.specs.Rules.{IsBoard}
use Rattle.board_def.specs.Seen.{BoardSeen}
use Rattle.board_def.specs.declared.rows.ScriptCall.{ScriptCall}
use Rattle.board_play.specs.Current.{calls_on, current_from, is_open}
use Rattle.board_play.specs.Lines.{BoardLine, Move, defs_of, find_line, lines_at, lines_of, part}
use Rattle.board_play.specs.Order.{device_line, due_line, due_move, due_on, line_for, move_on, or_line}
use Rattle.board_play.proofs.Counting.{not_all_complete}
use Rattle.board_play.proofs.OfBoard.{calls_fit, device_found}
use Rattle.board_core.specs.Seen.{SystemSeen, board_lines}
use Rattle.board_core.specs.Turns.{Turns, move_of}
use Rattle.board_core.specs.declared.turns.Turn.{Turn}
use Rattle.board_core.specs.declared.turns.Turn.TheVariants as turns
use Rattle.explore_picks.specs.Made.{ArePicked, IsAlone, IsMade}

has_it : (b : Bool) (o : Option Entry) (e : Entry) → cond b o None ≡ Some e → b ≡ true
has_it true o e is = refl
has_it false o e is = cc

has_call : (def : LineDef) (r : DriverNo) (past : List Entry) (e : Entry) → next_past def past (actors.Driver r) ≡ Some e
    → (x : Call × ℕ) × (due_call def r past ≡ Some x)
has_call def r past e is = by_due (due_call def r past) refl is
  where
    by_due : (o : Option (Call × ℕ)) → due_call def r past ≡ o → next_of_driver def r past o ≡ Some e → (x : Call × ℕ) × (due_call def r past ≡ Some x)
    by_due None due is = cc
    by_due (Some x) due is = (x, due)

module _ (def : LineDef) where
  abbrev at : List Entry → BoardLine
  at past = record { def = def; past = past }

  abbrev lines : List Entry → List BoardLine
  lines past = at past ∷ []

  found : (past : List Entry) → find_line (lines past) def.line ≡ Some (at past)
  found past = ap (λ b. cond b (Some (at past)) None) (same_self_line def.line)

  -- the first call that isn't complete is the line's
  module _ (r : DriverNo) (past : List Entry) where
    abbrev made : ℕ
    made = length (complete_by def r past)

    abbrev on : List ScriptCall → ℕ
    on cs = calls_on def.line r cs

    abbrev from : List ScriptCall → List ScriptCall → Option BoardLine
    from before cs = current_from (lines past) r before cs

    -- a call, if the calls behind it come to the line
    module _ (c : ScriptCall) (before cs : List ScriptCall)
        (more : on (c ∷ before) ≤ made → made < on (c ∷ before) + on cs → from (c ∷ before) cs ≡ Some (at past)) where
      abbrev passing : Bool → Option BoardLine → Option BoardLine
      passing d o = cond (d && is_open o r (calls_on c.line r before)) o (from (c ∷ before) cs)

      count : (l d : Bool) → same_line c.line def.line ≡ l → same_driver r c.driver ≡ d → (n : ℕ)
          → cond (same_line c.line def.line && same_driver r c.driver) (n + 1) n ≡ cond (l && d) (n + 1) n
      count l d is mine n =
          ap (λ b. cond (b && same_driver r c.driver) (n + 1) n) is ∙ ap (λ b. cond (l && b) (n + 1) n) mine

      -- it isn't counted: it is another driver's, or of another line
      uncounted : on before ≤ made → made < on before + on (c ∷ cs) → on (c ∷ before) ≡ on before → on (c ∷ cs) ≡ on cs
          → from (c ∷ before) cs ≡ Some (at past)
      uncounted le lt same also = more (omega (arith, same, le)) (omega (arith, same, also, lt))

      open_or : on (c ∷ before) ≡ on before + 1 → on (c ∷ cs) ≡ on cs + 1 → made < on before + on (c ∷ cs) → (o : Bool) → nat_le made (on before) ≡ o
          → cond o (Some (at past)) (from (c ∷ before) cs) ≡ Some (at past)
      open_or one also lt true test = refl
      open_or one also lt false test = let less = leb-false made (on before) test in more (omega (arith, one, less)) (omega (arith, one, also, lt))

      pub next_call : on before ≤ made → made < on before + on (c ∷ cs) → from before (c ∷ cs) ≡ Some (at past)
      next_call le lt = by (same_line c.line def.line) (same_driver r c.driver) refl refl
        where
          rest : (l d : Bool) → same_line c.line def.line ≡ l → same_driver r c.driver ≡ d → (l && d) ≡ false → from (c ∷ before) cs ≡ Some (at past)
          rest l d is mine out =
              uncounted le lt (count l d is mine (on before) ∙ ap (λ b. cond b (on before + 1) (on before)) out)
              (count l d is mine (on cs) ∙ ap (λ b. cond b (on cs + 1) (on cs)) out)

          by : (l d : Bool) → same_line c.line def.line ≡ l → same_driver r c.driver ≡ d → from before (c ∷ cs) ≡ Some (at past)
          by true true is mine =
              ap (λ b. passing b (find_line (lines past) c.line)) mine
              ∙ (ap (λ (x : LineNo). cond (is_open (find_line (lines past) x) r (calls_on x r before)) (find_line (lines past) x) (from (c ∷ before) cs))
              (line_from_same c.line def.line is)
              ∙ (ap (λ o. cond (is_open o r (on before)) o (from (c ∷ before) cs)) (found past)
              ∙ open_or (count true true is mine (on before)) (count true true is mine (on cs)) lt (nat_le made (on before)) refl))
          by l false is mine = ap (λ b. passing b (find_line (lines past) c.line)) mine ∙ rest l false is mine (none_of l)
            where
              none_of : (b : Bool) → (b && false) ≡ false
              none_of true = refl
              none_of false = refl
          by false true is mine =
              ap (λ b. passing b (find_line (lines past) c.line)) mine
              ∙ (ap (λ b. passing true (cond b (Some (at past)) None)) is ∙ rest false true is mine refl)

    current : (before cs : List ScriptCall) → on before ≤ made → made < on before + on cs → from before cs ≡ Some (at past)
    current before [] le lt = absurd (omega (arith, le, lt))
    current before (c ∷ cs) le lt = next_call c before cs (current (c ∷ before) cs) le lt

  module _ (board : BoardSeen) (is_board : IsBoard board) (alone : defs_of board ≡ def ∷ []) where
    -- where the entry's actor may step
    its_line : (past : List Entry) (e : Entry) (a : Actor) → actor_of e ≡ a → next_past def past a ≡ Some e
        → line_for board (lines past) a ≡ Some (at past)
    its_line past e (actors.Thread dev) is due =
        let d = device_found board is_board 0 def (ap (λ ds. slice_get ds 0) alone) dev (has_it (has_device def dev) (next_of_thread def dev past) e due) in
        ap (device_line (lines past)) d.found ∙ (ap (find_line (lines past)) d.on_line ∙ found past)
    its_line past e (actors.Cpu c) is due = by (is_cpu c (flow def past))
      where
        taken : due_line (lines past) c ≡ Some (at past)
        taken = ap (λ o. cond (is_some o) (Some (at past)) None) due

        by : (b : Bool) → or_line (cond b (Some (at past)) None) (due_line (lines past) c) ≡ Some (at past)
        by true = refl
        by false = taken
    its_line past e (actors.Driver r) is due =
        let call = has_call def r past e due in
        let fit = calls_fit board 0 def (ap (λ ds. slice_get ds 0) alone) r in
        let few = not_all_complete def r past call.0 call.1 in
        current r past [] board.calls (omega arith) (omega (arith, fit, few))

    due_alone : (past : List Entry) (e : Entry) → next_past def past (actor_of e) ≡ Some e
        → due_move board (lines past) (actor_of e) ≡ Some (def.line, e)
    due_alone past e due =
        ap (λ o. due_on o (actor_of e)) (its_line past e (actor_of e) refl due) ∙ ap (move_on def.line) due

    abbrev moves : List Entry → List Move
    moves past = map (λ (e : Entry). (def.line, e)) past

    part_is : (past : List Entry) → part def.line (moves past) ≡ past
    part_is [] = refl
    part_is (e ∷ past) =
        ap (λ b. cond b (e ∷ part def.line (moves past)) (part def.line (moves past))) (same_self_line def.line)
        ∙ ap (λ (xs : List Entry). e ∷ xs) (part_is past)

    lines_are : (past : List Entry) → lines_of board (moves past) ≡ lines past
    lines_are past = ap (λ ds. lines_at ds (moves past)) alone ∙ ap lines (part_is past)

    pub is_play : (past : List Entry) → IsLegalPast def past → length past ≤ board.log
        → ArePicked board (map actor_of past) (moves past)
    is_play [] legal few = tt
    is_play (e ∷ past) legal few = (
      is_play past legal.1 (omega (arith, few)),
      ap (λ ls. due_move board ls (actor_of e)) (lines_are past) ∙ due_alone past e legal.0,
      subst (λ (xs : List Entry). length xs < board.log) (sym (part_is past)) (omega (arith, few)),
    )

-- ---- the next entry of a play that is made of a history that is alone

older_legal : (def : LineDef) (later past : List Entry) → IsLegalPast def (later ++ past) → IsLegalPast def past
older_legal def [] past legal = legal
older_legal def (e ∷ later) past legal = older_legal def later past legal.1

cut_at : (es : List Entry) (k : ℕ) (e : Entry) → slice_get es k ≡ Some e → es ≡ take k es ++ e ∷ drop (suc k) es
cut_at [] k e is = absurd (none-some e is)
cut_at (x ∷ es) zero e is = ap (λ (y : Entry). y ∷ es) (same_Some x e is)
cut_at (x ∷ es) (suc k) e is = ap (λ (l : List Entry). x ∷ l) (cut_at es k e is)

module _ (s : SystemSeen) (picks : List Actor) (line : LineNo) (es : List Entry) (k : ℕ) (made : IsMade s picks line (take k es))
    (is_board : IsBoard s.board) (alone : IsAlone s.board line es) where
  abbrev past : List Entry
  past = reverse (take k es)

  lines_now : board_lines s.lines ≡ lines alone.def past
  lines_now =
      made.lines ∙ (ap (λ ds. lines_at ds (reverse s.log)) alone.only
      ∙ ap (lines alone.def) (ap (λ (l : LineNo). part l (reverse s.log)) alone.number ∙ made.part))

  pub next_alone : (e : Entry) → slice_get es k ≡ Some e → move_of s (actor_of e) ≡ Some (line, e)
  next_alone e is =
      let all : reverse es ≡ reverse (drop (suc k) es) ++ e ∷ past =
      ap (λ (l : List Entry). reverse l) (cut_at es k e is) ∙ (reverse-append (take k es) (e ∷ drop (suc k) es) ∙ behind e (drop (suc k) es)) in
      let legal : IsLegalPast alone.def (e ∷ past) =
      older_legal alone.def (reverse (drop (suc k) es)) (e ∷ past) (subst (λ (l : List Entry). IsLegalPast alone.def l) all alone.legal) in
      ap (λ ls. due_move s.board ls (actor_of e)) lines_now
      ∙ (ap (λ (l : LineNo). due_move s.board (lines alone.def past) (actor_of e)) (sym alone.number)
      ∙ (due_alone alone.def s.board is_board alone.only past e legal.0 ∙ ap (λ (l : LineNo). Some (l, e)) alone.number))
    where
      behind : (e : Entry) (rest : List Entry) → reverse (e ∷ rest) ++ past ≡ reverse rest ++ e ∷ past
      behind e rest = ap (λ (l : List Entry). l ++ past) (reverse-append (e ∷ []) rest) ∙ append_assoc (reverse rest) (e ∷ []) past

  -- its line has room for it
  pub room_alone : (len : ℕ) → k < length es → IsSomeAnd (find_line (board_lines s.lines) line) (λ x. length x.past ≡ len) → len < s.board.log
  room_alone len lt has =
      let here : find_line (board_lines s.lines) line ≡ Some (at alone.def past) =
      ap (λ ls. find_line ls line) lines_now ∙ (ap (λ (l : LineNo). find_line (lines alone.def past) l) (sym alone.number) ∙ found alone.def past) in
      let is : length past ≡ len = subst (λ o. IsSomeAnd o (λ x. length x.past ≡ len)) here has in
      let many : length past ≡ k = length-reverse (take k es) ∙ length-take-le k es (omega (arith, lt)) in
      let room = alone.room in
      omega (arith, is, many, lt, room)

  -- a turn of its actor makes it, unless memory is refused
  abbrev pub IsNext : Entry → Result Turn StepRefused → Type 0
  IsNext e (Ok (turns.Moved of entry)) = (of ≡ line) × (entry ≡ e)
  IsNext e (Ok turns.NotYet) = ⊥
  IsNext e (Err (refusals.Full of len)) = ⊥
  IsNext e (Err refusals.NoMemory) = Unit {0}

  pub turns_next : (e : Entry) → slice_get es k ≡ Some e → (actor mover : Actor) → actor ≡ actor_of e → (IsSome (move_of s actor) → mover ≡ actor)
      → (t : Result Turn StepRefused) (new : SystemSeen) → Turns s mover t new → IsNext e t
  turns_next e is actor mover who first t new turn = by t turn
    where
      due : move_of s actor ≡ Some (line, e)
      due = ap (λ (a : Actor). move_of s a) who ∙ next_alone e is

      its : move_of s mover ≡ Some (line, e)
      its = ap (λ (a : Actor). move_of s a) (first (subst IsSome (sym due) refl)) ∙ due

      by : (t : Result Turn StepRefused) → Turns s mover t new → IsNext e t
      by (Ok (turns.Moved of entry)) m =
          let same : ◌≡◌ {A = Move} (of, entry) (line, e) = same_Some (of, entry) (line, e) (sym m.is ∙ its) in
          (ap (λ (x : Move). x.0) same, ap (λ (x : Move). x.1) same)
      by (Ok turns.NotYet) m = none-some (line, e) (sym m.0 ∙ its)
      by (Err (refusals.Full of len)) m =
          let same : m.0.move ≡ (line, e) = same_Some m.0.move (line, e) (sym m.0.is ∙ its) in
          let its_line : of ≡ line = sym m.0.of_line ∙ ap (λ (x : Move). x.0) same in
          let has = subst (λ (l : LineNo). IsSomeAnd (find_line (board_lines s.lines) l) (λ x. length x.past ≡ len)) its_line m.0.length in
          let room = room_alone len (slice_get_within es k e is) has in
          let full : len ≡ s.board.log = m.0.log in
          omega (arith, room, full)
      by (Err refusals.NoMemory) m = tt
