-- One step of a demultiplexer: a move of a child, an enter, an exit.
use Rattle.std.proofs.Common.{◌≡◌, ℕ, zero, suc, ◌+◌, ◌<◌, ◌≤◌, ◌==◌, Bool, true, false, ◌&&◌, ◌||◌, cond, is_some, Result, Ok, Err}
use Rattle.std.proofs.Common.{IsSome, IsSomeAnd, Option, Some, None, List, [], ◌∷◌, ◌++◌, map, length, reverse, slice_get, refl}
use Rattle.std.proofs.Common.{sym, ap, ◌∙◌, subst, arith, eqb-true}
use Rattle.std.proofs.lemmas.Bool.Decides.{nat_tests}
use Rattle.std.proofs.lemmas.List.{reverse-append, length-append}
use Rattle.std.proofs.lemmas.Option.{slice_get_within}
use Rattle.irq_base.specs.Cell.{Cell, after_high}
use Rattle.irq_base.specs.declared.entries.Actor.{Actor}
use Rattle.irq_base.specs.declared.entries.Actor.TheVariants as actors
use Rattle.irq_base.specs.declared.entries.Entry.{Entry}
use Rattle.irq_base.specs.declared.numbers.LineNo.{LineNo}
use Rattle.irq_line.specs.declared.answers.StepRefused.{StepRefused}
use Rattle.irq_line.specs.declared.answers.StepRefused.TheVariants as refusals
use Rattle.irq_model.specs.Kinds.{is_take, same_line}
use Rattle.irq_model.proofs.Same.{line_from_same, same_self_line}
use Rattle.irq_laws.proofs.Chosen.{the_same}
use Rattle.irq_laws.proofs.Lists.{both_ways}
use Rattle.board_def.specs.Seen.{BoardSeen}
use Rattle.board_play.specs.Lines.{BoardLine, Move, defs_of, find_line, lines_after, lines_of, part}
use Rattle.board_play.specs.Order.{due_on}
use Rattle.board_play.proofs.Members.{AreApart, def_there}
use Rattle.board_play.proofs.Moving.{lines_more, moved_at}
use Rattle.board_ready.specs.Sets.{has}
use Rattle.board_core.specs.Seen.{SystemSeen, board_lines}
use Rattle.board_core.specs.Turned.{StepsBy}
use Rattle.board_core.specs.Turns.{IsFullFor as IsSystemFull, Moves}
use Rattle.board_core.specs.declared.turns.Turn.{Turn}
use Rattle.board_core.specs.declared.turns.Turn.TheVariants as moves
use Rattle.board_core.proofs.Underway.{part_in}
use Rattle.irq_chained.specs.Chain.{IsChainLegal, chain_next, child, children, cpu_0, is_taken, lines_in, open_status, stepper_of}
use Rattle.irq_chained.specs.Fits.{is_for_chain}
use Rattle.irq_chained.specs.Parent.{is_asked, parent_after, parent_cell}
use Rattle.irq_chained.specs.Seen.{DemuxSeen, IsDemux, seen_of}
use Rattle.irq_chained.specs.Turned.{Goes, HasRoomFor, IsFullFor, TurnsBy, lowest_of, turn_of}
use Rattle.irq_chained.specs.Walk.{AreWithin, IsWalkOf, IsWithTaken, mark_of, merged}
use Rattle.irq_chained.specs.declared.chain.ChainEntry.{ChainEntry}
use Rattle.irq_chained.specs.declared.chain.ChainEntry.TheVariants as steps
use Rattle.irq_chained.specs.declared.marks.Mark.{Mark}
use Rattle.irq_chained.specs.declared.marks.Marked.{Marked}
use Rattle.irq_chained.specs.declared.marks.Marked.TheVariants as marks
use Rattle.irq_chained.specs.declared.marks.Walk.{Walk}
use Rattle.irq_chained.proofs.Chained.{due_own, level, parent_is}
use Rattle.irq_chained.proofs.Merging.{with_mark, with_move, within_mark, within_more}

-- the steps so far, the newest first
abbrev pub steps_of : SystemSeen → List Mark → List ChainEntry
steps_of s ms = reverse (merged ms s.log 0)

pub lines_are : {s : SystemSeen} {ms : List Mark} {walk : Option Walk} {parent : Cell} → IsDemux s ms walk parent
    → lines_in s.board (steps_of s ms) ≡ board_lines s.lines
lines_are {s} {ms} d = ap (λ (g : List Move). lines_of s.board g) d.moves ∙ sym d.lines

pub parent_level : {s : SystemSeen} {ms : List Mark} {walk : Option Walk} {parent : Cell} → IsDemux s ms walk parent
    → parent ≡ level (is_some (open_status (steps_of s ms))) (is_asked (board_lines s.lines))
parent_level {s} {ms} d =
    d.parent ∙ (parent_is s.board (steps_of s ms) ∙ ap
    (λ (ls : List BoardLine). level (is_some (open_status (steps_of s ms))) (is_asked ls))
    (lines_are d))

-- the input shows already what it is to show
pub shown : {s : SystemSeen} {ms : List Mark} {walk : Option Walk} {parent : Cell} → IsDemux s ms walk parent
    → after_high (is_asked (board_lines s.lines)) parent ≡ parent
shown {s} {ms} d =
    let l = parent_level d in
    ap (λ (c : Cell). after_high (is_asked (board_lines s.lines)) c) l ∙ sym l

zero_add : (n : ℕ) → n ≡ 0 + n
zero_add n = omega arith

within_0 : (s : SystemSeen) (ms : List Mark) → AreWithin (length s.log) ms → AreWithin (0 + length s.log) ms
within_0 s ms w = subst (λ (n : ℕ). AreWithin n ms) (zero_add (length s.log)) w

-- ---- a move of a child

-- what is kept of the chain that is open after the step
abbrev pub WalkGoes : SystemSeen → List Mark → Result Turn StepRefused → SystemSeen → Option Walk → Type 0
WalkGoes s ms (Ok (moves.Moved line e)) t after = IsWalkOf (board_lines t.lines) (steps.Child line e ∷ steps_of s ms) after
WalkGoes s ms turn t after = IsWalkOf (board_lines s.lines) (steps_of s ms) after

module _ {s : SystemSeen} (t : SystemSeen) {ms : List Mark} {walk : Option Walk} (after : Option Walk) {parent now : Cell}
    (a : Actor) (o : Option BoardLine) (d : IsDemux s ms walk parent)
    (next : chain_next s.board (steps_of s ms) a ≡ child (due_on o a))
    (shows : now ≡ after_high (is_asked (board_lines t.lines)) parent) where
  abbrev g : List ChainEntry
  g = steps_of s ms

  module _ (line : LineNo) (e : Entry) (mv : Moves s (due_on o a) (line, e) t) where
    abbrev step : ChainEntry
    step = steps.Child line e

    due : chain_next s.board g a ≡ Some step
    due = next ∙ ap (λ (m : Option Move). child m) mv.is

    longer : merged ms t.log 0 ≡ merged ms s.log 0 ++ step ∷ []
    longer = ap (λ (l : List Move). merged ms l 0) mv.log ∙ with_move ms s.log 0 (line, e) (within_0 s ms d.within)

    turned : steps_of t ms ≡ step ∷ g
    turned = ap (λ (l : List ChainEntry). reverse l) longer ∙ reverse-append (merged ms s.log 0) (step ∷ [])

    moved : reverse t.log ≡ (line, e) ∷ reverse s.log
    moved = ap (λ (l : List Move). reverse l) mv.log ∙ reverse-append s.log ((line, e) ∷ [])

    legal : IsChainLegal s.board (step ∷ g)
    legal = (ap (λ (b : Actor). chain_next s.board g b) (due_own o a (line, e) mv.is) ∙ due, d.legal)

    lines_next : board_lines t.lines ≡ lines_of s.board ((line, e) ∷ reverse s.log)
    lines_next = mv.lines ∙ (ap (λ (ls : List BoardLine). lines_after (line, e) ls) d.lines ∙ sym (lines_more (defs_of s.board) (line, e) (reverse s.log)))

    children_next : children (step ∷ g) ≡ (line, e) ∷ reverse s.log
    children_next = ap (λ (l : List Move). (line, e) ∷ l) d.moves

    parent_next : now ≡ parent_cell s.board (step ∷ g)
    parent_next =
        shows
        ∙ (ap (λ (c : Cell). after_high (is_asked (board_lines t.lines)) c) d.parent
        ∙ ap (λ (ls : List BoardLine). after_high (is_asked ls) (parent_cell s.board g))
        (lines_next ∙ sym (ap (λ (l : List Move). lines_of s.board l) children_next)))

    grown : length s.log ≤ length t.log
    grown = let l : length t.log ≡ length s.log + 1 = ap (λ (l : List Move). length l) mv.log ∙ length-append s.log ((line, e) ∷ []) in omega (arith, l)

    child_kept : IsWalkOf (board_lines t.lines) (step ∷ g) after → IsDemux t ms after now
    child_kept walks =
        let back = sym mv.board in
        let turn = sym turned in
        record {
          fits = ap (λ (b : BoardSeen). is_for_chain b) mv.board ∙ d.fits;
          legal = subst (λ (b : BoardSeen). IsChainLegal b (steps_of t ms)) back (subst (λ (l : List ChainEntry). IsChainLegal s.board l) turn legal);
          moves = ap (λ (l : List ChainEntry). children l) turned ∙ (children_next ∙ sym moved);
          lines = lines_next ∙ (ap (λ (l : List Move). lines_of s.board l) (sym moved) ∙ ap (λ (b : BoardSeen). lines_of b (reverse t.log)) back);
          within = within_more ms (length s.log) (length t.log) grown d.within;
          walks = subst (λ (l : List ChainEntry). IsWalkOf (board_lines t.lines) l after) turn walks;
          parent = parent_next ∙ (ap (λ (l : List ChainEntry). parent_cell s.board l) turn ∙ ap (λ (b : BoardSeen). parent_cell b (steps_of t ms)) back);
        }

    child_goes : Goes (seen_of s ms parent) (chain_next s.board g a) step (seen_of t ms now)
    child_goes = record {
      is = due;
      room = subst (λ (ls : List BoardLine). IsSomeAnd (find_line ls line) (λ x. length x.past < s.board.log)) (sym (lines_are d)) mv.room;
      board = mv.board;
      layout = mv.layout;
      log = longer;
    }

  -- if nothing has changed
  same : t ≡ s → IsWalkOf (board_lines s.lines) (steps_of s ms) after → IsDemux t ms after now × (seen_of t ms now ≡ seen_of s ms parent)
  same is walks =
      let cell : now ≡ parent = shows ∙ (ap (λ (x : SystemSeen). after_high (is_asked (board_lines x.lines)) parent) is ∙ shown d) in (
        subst (λ (x : SystemSeen). IsDemux x ms after now) (sym is)
            (record {
              fits = d.fits;
              legal = d.legal;
              moves = d.moves;
              lines = d.lines;
              within = d.within;
              walks
                  = walks;
              parent = cell ∙ d.parent;
            }),
        ap (λ (x : SystemSeen). seen_of x ms now) is ∙ ap (λ (c : Cell). seen_of s ms c) cell,
      )

  full : (line : LineNo) (len : ℕ) → IsSystemFull s (due_on o a) line len → IsFullFor (seen_of s ms parent) (chain_next s.board g a) line len
  full line len f = record {
    step = steps.Child f.move.0 f.move.1;
    is = next ∙ ap (λ (m : Option Move). child m) f.is;
    move = f.move;
    tells = refl;
    of_line = f.of_line;
    length = ap (λ (l : List Move). length (part line l)) d.moves ∙ part_in s line (λ past. length past ≡ len) d.lines f.length;
    log = f.log;
  }

  -- a step that was asked of the system
  pub child_turn : (turn : Result Turn StepRefused) → (turn ≡ Err refusals.NoMemory → IsSome (lowest_of (seen_of s ms parent)))
      → StepsBy s (due_on o a) turn t → WalkGoes s ms turn t after
      → IsDemux t ms after now × TurnsBy (seen_of s ms parent) (chain_next s.board g a) (turn_of turn)
      (seen_of t ms now)
  child_turn (Ok (moves.Moved line e)) wanted by walks = (child_kept line e by walks, child_goes line e by)
  child_turn (Ok moves.NotYet) wanted by walks = let n = same by.1 walks in (n.0, (next ∙ ap (λ (m : Option Move). child m) by.0, n.1))
  child_turn (Err (refusals.Full line len)) wanted by walks = let n = same by.1 walks in (n.0, (full line len by.0, n.1))
  child_turn (Err refusals.NoMemory) wanted by walks = let n = same by walks in (n.0, (wanted refl, n.1))

-- ---- an enter, and an exit

marks_cpu_0 : (what : Marked) → stepper_of (mark_of what) ≡ actors.Cpu cpu_0
marks_cpu_0 (marks.Enter status) = refl
marks_cpu_0 marks.Exit = refl

mark_moves : (what : Marked) (g : List ChainEntry) → children (mark_of what ∷ g) ≡ children g
mark_moves (marks.Enter status) g = refl
mark_moves marks.Exit g = refl

mark_parent : (what : Marked) (b : BoardSeen) (g : List ChainEntry) → parent_cell b (mark_of what ∷ g) ≡ parent_after (mark_of what) (parent_cell b g)
mark_parent (marks.Enter status) b g = parent_is b (steps.Enter cpu_0 status ∷ g)
    ∙ sym (ap (λ (c : Cell). parent_after (steps.Enter cpu_0 status) c) (parent_is b g))
mark_parent marks.Exit b g = parent_is b (steps.Exit cpu_0 ∷ g) ∙ sym (ap (λ (c : Cell). parent_after (steps.Exit cpu_0) c) (parent_is b g))

mark_has_room : (d : DemuxSeen) (what : Marked) → HasRoomFor d (mark_of what)
mark_has_room d (marks.Enter status) = tt
mark_has_room d marks.Exit = tt

module _ {s : SystemSeen} {ms : List Mark} {walk : Option Walk} (after : Option Walk) {parent now : Cell} (m : Mark)
    (d : IsDemux s ms walk parent) (next : chain_next s.board (steps_of s ms) (actors.Cpu cpu_0)
    ≡ Some (mark_of m.what)) (before : m.before ≡ length s.log)
    (walks : IsWalkOf (board_lines s.lines) (mark_of m.what ∷ steps_of s ms) after)
    (shows : now ≡ parent_after (mark_of m.what) parent) where
  mark_longer : merged (ms ++ m ∷ []) s.log 0 ≡ merged ms s.log 0 ++ mark_of m.what ∷ []
  mark_longer = with_mark ms s.log 0 m (within_0 s ms d.within) (before ∙ zero_add (length s.log))

  mark_turned : steps_of s (ms ++ m ∷ []) ≡ mark_of m.what ∷ steps_of s ms
  mark_turned = ap (λ (l : List ChainEntry). reverse l) mark_longer ∙ reverse-append (merged ms s.log 0) (mark_of m.what ∷ [])

  pub mark_kept : IsDemux s (ms ++ m ∷ []) after now
  mark_kept =
      let turn = sym mark_turned in
      record {
        fits = d.fits;
        legal = subst (λ (l : List ChainEntry). IsChainLegal s.board l) turn
            (ap (λ (b : Actor). chain_next s.board (steps_of s ms) b) (marks_cpu_0 m.what) ∙ next, d.legal);
        moves = ap (λ (l : List ChainEntry). children l) mark_turned ∙ (mark_moves m.what (steps_of s ms) ∙ d.moves);
        lines = d.lines;
        within = within_mark ms (length s.log) m (omega (arith, before)) d.within;
        walks = subst (λ (l : List ChainEntry). IsWalkOf (board_lines s.lines) l after) turn walks;
        parent =
            shows
            ∙ (ap (λ (c : Cell). parent_after (mark_of m.what) c) d.parent
            ∙ (sym (mark_parent m.what s.board (steps_of s ms))
            ∙ ap (λ (l : List ChainEntry). parent_cell s.board l) turn));
      }

  pub mark_goes : Goes (seen_of s ms parent) (chain_next s.board (steps_of s ms) (actors.Cpu cpu_0)) (mark_of m.what) (seen_of s (ms ++ m ∷ []) now)
  mark_goes = record { is = next; room = mark_has_room (seen_of s ms parent) m.what; board = refl; layout = refl; log = mark_longer }

-- ---- what is kept of the open chain

-- a step that is no take
pub walk_stays : (lines now : List BoardLine) (g : List ChainEntry) (m : Move) (walk : Option Walk)
    → now ≡ lines_after m lines → is_take m.1 ≡ false → IsWalkOf lines g walk
    → IsWalkOf now (steps.Child m.0 m.1 ∷ g) walk
walk_stays lines now g m None is not_one walks = walks
walk_stays lines now g m (Some w) is not_one walks = (walks.0, λ k x at. each k x (ap (λ (ls : List BoardLine). slice_get ls k) (sym is) ∙ at))
  where
    not_taken : (b c : Bool) → ((b && false) || c) ≡ c
    not_taken true c = refl
    not_taken false c = refl

    each : (k : ℕ) (x : BoardLine) → slice_get (lines_after m lines) k ≡ Some x → has w.taken k ≡ is_taken (steps.Child m.0 m.1 ∷ g) x.def.line
    each k x at =
        let before = moved_at lines m k x at in
        walks.1 k before.line before.at
        ∙ (ap (λ (y : BoardLine). is_taken g y.def.line) before.is
        ∙ sym (ap (λ (b : Bool). (same_line x.def.line m.0 && b) || is_taken g x.def.line) not_one
        ∙ not_taken (same_line x.def.line m.0) (is_taken g x.def.line)))

less : (i j : ℕ) → (suc i == suc j) ≡ false → (i == j) ≡ false
less i j h = grind (arith, nat_tests)

-- lines that stand apart have different numbers
pub places_apart : (lines : List BoardLine) → AreApart (map (λ (x : BoardLine). x.def) lines) → (i j : ℕ) (x y : BoardLine)
    → slice_get lines i ≡ Some x → slice_get lines j ≡ Some y → (i == j) ≡ false
    → same_line x.def.line y.def.line ≡ false
places_apart [] apart i j x y at_x at_y other = cc
places_apart (z ∷ zs) apart zero zero x y at_x at_y other = cc
places_apart (z ∷ zs) apart zero (suc j) x y at_x at_y other =
    subst (λ (w : BoardLine). same_line w.def.line y.def.line ≡ false) (the_same z x at_x)
    (turned y.def.line z.def.line (apart.0 j y.def (def_there zs j y at_y)))
  where
    turned : (a b : LineNo) → same_line a b ≡ false → same_line b a ≡ false
    turned a b differs = by_test (same_line b a) refl
      where
        by_test : (t : Bool) → same_line b a ≡ t → t ≡ false
        by_test true is = both_ways (same_line a b) (ap (λ (l : LineNo). same_line a l) (line_from_same b a is) ∙ same_self_line a) differs
        by_test false is = refl
places_apart (z ∷ zs) apart (suc i) zero x y at_x at_y other =
    subst (λ (w : BoardLine). same_line x.def.line w.def.line ≡ false) (the_same z y at_y) (apart.0 i x.def (def_there zs i x at_x))
places_apart (z ∷ zs) apart (suc i) (suc j) x y at_x at_y other = places_apart zs apart.1 i j x y at_x at_y (less i j other)

-- a take of the line at a place
pub walk_takes : (lines now : List BoardLine) (g : List ChainEntry) (m : Move) (w next : Walk) (place : ℕ)
    (y : BoardLine) → AreApart (map (λ (x : BoardLine). x.def) lines) → length lines ≤ 32 → now ≡ lines_after m lines
    → is_take m.1 ≡ true → slice_get lines place ≡ Some y → y.def.line ≡ m.0 → IsWithTaken w place next
    → IsWalkOf lines g (Some w) → IsWalkOf now (steps.Child m.0 m.1 ∷ g) (Some next)
walk_takes lines now g m w next place y apart few is takes at_place number with walks =
    (walks.0 ∙ ap (λ (n : ℕ). Some n) (sym with.status), λ k x at. each k x (ap (λ (ls : List BoardLine). slice_get ls k) (sym is) ∙ at))
  where
    taken_there : (b c : Bool) → ((b && true) || c) ≡ (b || c)
    taken_there true c = refl
    taken_there false c = refl

    either : (b c : Bool) → cond b true c ≡ (b || c)
    either true c = refl
    either false c = refl

    by_place : (k : ℕ) (z : BoardLine) (t : Bool) → (k == place) ≡ t → slice_get lines k ≡ Some z → t ≡ same_line z.def.line m.0
    by_place k z true here at =
        let same : z ≡ y = the_same z y (sym at ∙ (ap (λ (i : ℕ). slice_get lines i) (eqb-true k place here) ∙ at_place)) in
        sym (ap (λ (x : BoardLine). same_line x.def.line m.0) same ∙ (ap (λ (l : LineNo). same_line l m.0) number ∙ same_self_line m.0))
    by_place k z false here at = sym (ap (λ (l : LineNo). same_line z.def.line l) (sym number) ∙ places_apart lines apart k place z y at at_place here)

    each : (k : ℕ) (x : BoardLine) → slice_get (lines_after m lines) k ≡ Some x → has next.taken k ≡ is_taken (steps.Child m.0 m.1 ∷ g) x.def.line
    each k x at =
        let before = moved_at lines m k x at in
        let z = before.line in
        let within : k < 64 = omega (arith, slice_get_within lines k z before.at, few) in
        with.taken k within
        ∙ (either (k == place) (has w.taken k) ∙ ap (λ (b : Bool). b || has w.taken k) (by_place k z (k == place) refl before.at)
        ∙ (ap (λ (b : Bool). same_line z.def.line m.0 || b) (walks.1 k z before.at)
        ∙ (ap (λ (v : BoardLine). same_line v.def.line m.0 || is_taken g v.def.line) before.is
        ∙ sym (ap (λ (b : Bool). (same_line x.def.line m.0 && b) || is_taken g x.def.line) takes
        ∙ taken_there (same_line x.def.line m.0) (is_taken g x.def.line)))))
