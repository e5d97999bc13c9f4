-- A play that is made pick by pick.
use Rattle.std.proofs.Common.{◌≡◌, ℕ, zero, suc, ◌+◌, ◌<◌, Bool, true, false, cond, Some, List, [], ◌∷◌, ◌++◌, length, Result, Ok, Err}
use Rattle.std.proofs.Common.{reverse, take, slice_get, add-one, refl, sym, ap, ◌∙◌, subst}
use Rattle.std.proofs.lemmas.Option.{none-some}
use Rattle.std.proofs.lemmas.List.{append_assoc, reverse-append}
use Rattle.irq_base.specs.declared.devices.Run.{Run}
use Rattle.irq_base.specs.declared.entries.Actor.{Actor}
use Rattle.irq_base.specs.declared.entries.Entry.{Entry}
use Rattle.irq_base.specs.declared.numbers.LineNo.{LineNo}
use Rattle.irq_line.specs.declared.answers.StepRefused.{StepRefused}
use Rattle.irq_line.specs.declared.answers.StepRefused.TheVariants as refusals
use Rattle.irq_model.specs.Kinds.{same_line}
use Rattle.board_def.specs.Seen.{BoardSeen}
use Rattle.board_play.specs.Lines.{BoardLine, Move, part, defs_of, lines_of, lines_after}
use Rattle.board_play.specs.Order.{due_move}
use Rattle.board_play.specs.Play.{IsChosen, choice, with_picks, or_choice}
use Rattle.board_play.proofs.Moving.{lines_more}
use Rattle.board_core.specs.Playing.{IsFresh}
use Rattle.board_core.specs.Seen.{SystemSeen, board_lines}
use Rattle.board_core.specs.Turns.{move_of, Moves, Turns}
use Rattle.board_core.specs.Runs.{runs_by_turn, runs_of}
use Rattle.board_core.specs.declared.turns.Turn.{Turn}
use Rattle.board_core.specs.declared.turns.Turn.TheVariants as turns
use Rattle.board_core.proofs.Underway.{part_in}
use Rattle.board_core.proofs.Hearing.{heard_turned, step_of_turn}
use Rattle.callbacks.specs.Heard.{Heard}
use Rattle.explore_picks.specs.Made.{ArePicked, IsHeardPlay, IsMade}

-- the entry at a place follows those before it
one_suc : (es : List Entry) (i : ℕ) (e : Entry) → slice_get es i ≡ Some e → take (suc i) es ≡ take i es ++ e ∷ []
one_suc [] i e is = absurd (none-some e is)
one_suc (x ∷ es) zero e is = let same : x ≡ e = cc in ap (λ (y : Entry). y ∷ []) same
one_suc (x ∷ es) (suc i) e is = ap (λ (l : List Entry). x ∷ l) (one_suc es i e is)

pub one_more : (es : List Entry) (i : ℕ) (e : Entry) → slice_get es i ≡ Some e → take (i + 1) es ≡ take i es ++ e ∷ []
one_more es i e is = ap (λ (n : ℕ). take n es) (add-one i) ∙ one_suc es i e is

-- nothing yet
pub none_made : (s : SystemSeen) (picks : List Actor) (line : LineNo) → IsFresh s → picks ≡ [] → IsMade s picks line []
none_made s picks line f none =
    let empty : reverse s.log ≡ [] = ap (λ (g : List Move). reverse g) f.log in
    let back : reverse picks ≡ [] = ap (λ (ps : List Actor). reverse ps) none in
    record {
      lines = f.lines ∙ ap (λ (g : List Move). lines_of s.board g) (sym empty);
      picked = subst (λ (ps : List Actor). ArePicked s.board ps (reverse s.log)) (sym back)
          (subst (λ (g : List Move). ArePicked s.board [] g) (sym empty) tt);
      part = ap (λ (g : List Move). part line g) empty;
    }

module _ (old new : SystemSeen) (picks : List Actor) (a : Actor) (line : LineNo) (es : List Entry) (of : LineNo) (e : Entry)
    (made : IsMade old picks line es) (moves : Moves old (move_of old a) (of, e) new) where
  log : reverse new.log ≡ (of, e) ∷ reverse old.log
  log = ap (λ (h : List Move). reverse h) moves.log ∙ reverse-append old.log ((of, e) ∷ [])

  lines : board_lines new.lines ≡ lines_of new.board (reverse new.log)
  lines =
      moves.lines ∙ (ap (λ (ls : List BoardLine). lines_after (of, e) ls) made.lines ∙ sym (lines_more (defs_of old.board) (of, e) (reverse old.log)))
      ∙ (ap (λ (h : List Move). lines_of old.board h) (sym log) ∙ ap (λ (b : BoardSeen). lines_of b (reverse new.log)) (sym moves.board))

  -- its pick is one more
  picked_more : ArePicked new.board (a ∷ reverse picks) (reverse new.log)
  picked_more =
      let due : due_move old.board (lines_of old.board (reverse old.log)) a ≡ Some (of, e)
      = ap (λ (ls : List BoardLine). due_move old.board ls a) (sym made.lines) ∙ moves.is in
      let room : length (part of (reverse old.log)) < old.board.log = part_in old of (λ past. length past < old.board.log) made.lines moves.room in
      let all : ArePicked old.board (a ∷ reverse picks) ((of, e) ∷ reverse old.log) = (made.picked, due, room) in
      subst (λ (b : BoardSeen). ArePicked b (a ∷ reverse picks) (reverse new.log)) (sym moves.board)
      (subst (λ (h : List Move). ArePicked old.board (a ∷ reverse picks) h) (sym log) all)

  module _ (after : List Actor) (pushed : after ≡ picks ++ a ∷ []) where
    picked : ArePicked new.board (reverse after) (reverse new.log)
    picked =
        let back : reverse after ≡ a ∷ reverse picks = ap (λ (ps : List Actor). reverse ps) pushed ∙ reverse-append picks (a ∷ []) in
        subst (λ (ps : List Actor). ArePicked new.board ps (reverse new.log)) (sym back) picked_more

    -- a move on another line
    pub made_elsewhere : same_line line of ≡ false → IsMade new after line es
    made_elsewhere other = record {
      lines = lines;
      picked = picked;
      part = ap (λ (h : List Move). part line h) log
          ∙ (ap (λ (b : Bool). cond b (e ∷ part line (reverse old.log)) (part line (reverse old.log))) other ∙ made.part);
    }

    -- the next entry of the line
    pub made_here : same_line line of ≡ true → (more : List Entry) → more ≡ es ++ e ∷ [] → IsMade new after line more
    made_here same more is = record {
      lines = lines;
      picked = picked;
      part = ap (λ (h : List Move). part line h) log
          ∙ (ap (λ (b : Bool). cond b (e ∷ part line (reverse old.log)) (part line (reverse old.log))) same
          ∙ (ap (λ (xs : List Entry). e ∷ xs) made.part
          ∙ sym (ap (λ (xs : List Entry). reverse xs) is ∙ reverse-append es (e ∷ []))));
    }

-- ---- the runs that the moves ended were heard

module _ {H : Type 0} (hears : H → Run → H → Type 0) (first before : H) (old : SystemSeen) (picks : List Actor) (line : LineNo) (es : List Entry)
    (made : IsMade old picks line es) (so_far : Heard hears (runs_of old.board (reverse old.log)) first before) where
  pub heard_now : IsHeardPlay old.board (λ (runs : List Run). Heard hears runs first before) (reverse old.log)
  heard_now = record { picks = reverse picks; picked = made.picked; runs = so_far }

  module _ (after : H) (new : SystemSeen) where
    abbrev IsHeardNow : Type 0
    IsHeardNow = IsHeardPlay new.board (λ (runs : List Run). Heard hears runs first after) (reverse new.log)

    still : Heard hears (runs_of new.board (reverse new.log)) first after → new ≡ old → IsHeardNow
    still runs same = record {
      picks = reverse picks;
      picked = subst (λ (s : SystemSeen). ArePicked s.board (reverse picks) (reverse s.log)) (sym same) made.picked;
      runs = runs;
    }

    by_turn : (a : Actor) (t : Result Turn StepRefused) → Turns old a t new → Heard hears (runs_of new.board (reverse new.log)) first after → IsHeardNow
    by_turn a (Ok (turns.Moved of e)) moves runs = record {
      picks = a ∷ reverse picks;
      picked = picked_more old new picks a line es of e made moves;
      runs = runs;
    }
    by_turn a (Ok turns.NotYet) turn runs = still runs turn.1
    by_turn a (Err (refusals.Full of len)) turn runs = still runs turn.1
    by_turn a (Err refusals.NoMemory) turn runs = still runs turn.1

    pub heard_after : (a : Actor) (t : Result Turn StepRefused) → Turns old a t new → Heard hears (runs_by_turn old t) before after → IsHeardNow
    heard_after a t turn heard =
        by_turn a t turn (heard_turned hears old new (move_of old a) t (step_of_turn old new a t turn) made.lines first before after so_far heard)

-- ---- put in place of the board's picks, they make each play begin with these moves

pub begins : (board : BoardSeen) (picks : List Actor) (g : List Move) (more : List Actor) → ArePicked board picks g
    → IsChosen board (reverse picks ++ more) g more
begins board [] [] more h = refl
begins board [] (m ∷ g) more h = absurd h
begins board (a ∷ picks) [] more h = absurd h
begins board (a ∷ picks) (m ∷ g) more h =
    let all : reverse picks ++ a ∷ more ≡ reverse (a ∷ picks) ++ more
    = sym (append_assoc (reverse picks) (a ∷ []) more) ∙ ap (λ (ps : List Actor). ps ++ more) (sym (reverse-append (a ∷ []) picks)) in
    let rest : IsChosen board (reverse (a ∷ picks) ++ more) g (a ∷ more)
    = subst (λ (ps : List Actor). IsChosen board ps g (a ∷ more)) all (begins board picks g (a ∷ more) h.0) in
    (a ∷ more, rest, ap (λ o. or_choice (with_picks more o) (choice board (lines_of board g) more)) h.1, h.2)
