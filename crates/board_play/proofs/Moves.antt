-- What a move is: an entry that is due of an actor on one of the lines.
use Rattle.std.proofs.Common.{◌≡◌, ℕ, zero, suc, Bool, true, false, ◌&&◌, cond, is_some, Option, Some, None, List, [], ◌∷◌, slice_get, refl, sym, ap, ◌∙◌}
use Rattle.irq_base.specs.declared.devices.DeviceDef.{DeviceDef}
use Rattle.irq_base.specs.declared.entries.Actor.{Actor}
use Rattle.irq_base.specs.declared.entries.Actor.TheVariants as actors
use Rattle.irq_base.specs.declared.entries.Entry.{Entry}
use Rattle.irq_base.specs.declared.numbers.CpuNo.{CpuNo}
use Rattle.irq_base.specs.declared.numbers.DriverNo.{DriverNo}
use Rattle.irq_base.specs.declared.numbers.LineNo.{LineNo}
use Rattle.irq_model.specs.Kinds.{same_driver}
use Rattle.irq_model.specs.Next.{next_past}
use Rattle.irq_model.specs.Rounds.{flow, is_cpu}
use Rattle.irq_laws.proofs.Chosen.{the_same}
use Rattle.board_def.specs.Rules.{find_device}
use Rattle.board_def.specs.Seen.{BoardSeen}
use Rattle.board_def.specs.declared.rows.ScriptCall.{ScriptCall}
use Rattle.board_play.specs.Current.{calls_on, is_open, current_from}
use Rattle.board_play.specs.Lines.{BoardLine, Move, find_line}
use Rattle.board_play.specs.Order.{device_line, flow_line, due_line, or_line, line_for, move_on, due_on, due_move, actors_of}
use Rattle.board_play.specs.Play.{or_move, first_move, with_picks, or_choice, choice}
use Rattle.board_play.proofs.Members.{found}

-- it stands somewhere among the lines
pub record Stands (lines : List BoardLine) (x : BoardLine) : Type 0 where
  pub place : ℕ
  pub at : slice_get lines place ≡ Some x

further : (y : BoardLine) (ys : List BoardLine) (x : BoardLine) → Stands ys x → Stands (y ∷ ys) x
further y ys x s = record { place = suc s.place; at = s.at }

pub found_stands : (lines : List BoardLine) (line : LineNo) (x : BoardLine) → find_line lines line ≡ Some x → Stands lines x
found_stands lines line x is = let f = found lines line x is in record { place = f.place; at = f.at }

device_stands : (lines : List BoardLine) (device : Option DeviceDef) (x : BoardLine) → device_line lines device ≡ Some x → Stands lines x
device_stands lines None x is = cc
device_stands lines (Some d) x is = found_stands lines d.line x is

-- the first that passes a test
first_stands : (test : Bool) (y : BoardLine) (ys : List BoardLine) (other : Option BoardLine) (x : BoardLine)
    → cond test (Some y) other ≡ Some x → (other ≡ Some x → Stands ys x) → Stands (y ∷ ys) x
first_stands true y ys other x is deeper = record { place = zero; at = is }
first_stands false y ys other x is deeper = further y ys x (deeper is)

pub flow_stands : (lines : List BoardLine) (c : CpuNo) (x : BoardLine) → flow_line lines c ≡ Some x → Stands lines x
flow_stands [] c x is = cc
flow_stands (y ∷ ys) c x is = first_stands (is_cpu c (flow y.def y.past)) y ys (flow_line ys c) x is (flow_stands ys c x)

due_stands : (lines : List BoardLine) (c : CpuNo) (x : BoardLine) → due_line lines c ≡ Some x → Stands lines x
due_stands [] c x is = cc
due_stands (y ∷ ys) c x is = first_stands (is_some (next_past y.def y.past (actors.Cpu c))) y ys (due_line ys c) x is (due_stands ys c x)

either_stands : (lines : List BoardLine) (a b : Option BoardLine) (x : BoardLine) → or_line a b ≡ Some x
    → (a ≡ Some x → Stands lines x) → (b ≡ Some x → Stands lines x) → Stands lines x
either_stands lines None b x is first second = second is
either_stands lines (Some y) b x is first second = first is

current_stands : (lines : List BoardLine) (r : DriverNo) (before cs : List ScriptCall) (x : BoardLine)
    → current_from lines r before cs ≡ Some x → Stands lines x
current_stands lines r before [] x is = cc
current_stands lines r before (c ∷ cs) x is = by_test (same_driver r c.driver && is_open (find_line lines c.line) r
    (calls_on c.line r before)) is (current_stands lines r (c ∷ before) cs x)
  where
    by_test : (b : Bool) → cond b (find_line lines c.line) (current_from lines r (c ∷ before) cs) ≡ Some x
        → (current_from lines r (c ∷ before) cs ≡ Some x → Stands lines x) → Stands lines x
    by_test true is deeper = found_stands lines c.line x is
    by_test false is deeper = deeper is

pub line_stands : (board : BoardSeen) (lines : List BoardLine) (a : Actor) (x : BoardLine) → line_for board lines a ≡ Some x → Stands lines x
line_stands board lines (actors.Thread d) x is = device_stands lines (find_device board.devices d) x is
line_stands board lines (actors.Cpu c) x is = either_stands lines (flow_line lines c) (due_line lines c) x is (flow_stands lines c x) (due_stands lines c x)
line_stands board lines (actors.Driver r) x is = current_stands lines r [] board.calls x is

-- ---- an actor's move

pub record MovesOn (board : BoardSeen) (lines : List BoardLine) (a : Actor) (m : Move) : Type 0 where
  pub line : BoardLine
  pub its : line_for board lines a ≡ Some line
  pub place : ℕ
  pub at : slice_get lines place ≡ Some line
  pub number : m.0 ≡ line.def.line
  pub due : next_past line.def line.past a ≡ Some m.1

pub moves_on : (board : BoardSeen) (lines : List BoardLine) (a : Actor) (m : Move) → due_move board lines a ≡ Some m → MovesOn board lines a m
moves_on board lines a m is = by_line (line_for board lines a) refl is
  where
    by_entry : (x : BoardLine) (o : Option Entry) → line_for board lines a ≡ Some x → next_past x.def x.past a ≡ o
        → move_on x.def.line o ≡ Some m → MovesOn board lines a m
    by_entry x None its due is = cc
    by_entry x (Some e) its due is =
        let made : Move = (x.def.line, e) in
        let same : made ≡ m = the_same made m is in
        let s = line_stands board lines a x its in
        record {
          line = x;
          its = its;
          place = s.place;
          at = s.at;
          number = sym (ap (λ (m : Move). m.0) same);
          due = due ∙ ap (λ (m : Move). Some m.1) same;
        }

    by_line : (o : Option BoardLine) → line_for board lines a ≡ o → due_on o a ≡ Some m → MovesOn board lines a m
    by_line None its is = cc
    by_line (Some x) its is = by_entry x (next_past x.def x.past a) its refl is

-- ---- whose move the next is

pub record IsActors (board : BoardSeen) (lines : List BoardLine) (m : Move) : Type 0 where
  pub actor : Actor
  pub moves : due_move board lines actor ≡ Some m

first_is : (board : BoardSeen) (lines : List BoardLine) (all : List Actor) (m : Move) → first_move board lines all ≡ Some m → IsActors board lines m
first_is board lines [] m is = cc
first_is board lines (a ∷ rest) m is = by_first (due_move board lines a) refl is (first_is board lines rest m)
  where
    by_first : (o : Option Move) → due_move board lines a ≡ o → or_move o (first_move board lines rest) ≡ Some m
        → (first_move board lines rest ≡ Some m → IsActors board lines m) → IsActors board lines m
    by_first None of_a is deeper = deeper is
    by_first (Some n) of_a is deeper = record { actor = a; moves = of_a ∙ is }

same_pair : (n m : Move) (l k : List Actor) → ◌≡◌ {A = Option (Move × List Actor)} (Some (n, l)) (Some (m, k)) → n ≡ m
same_pair n m l k h =
    let p : Move × List Actor = (n, l) in
    let q : Move × List Actor = (m, k) in
    ap (λ (x : Move × List Actor). x.0) (the_same p q h)

pub choice_is : (board : BoardSeen) (lines : List BoardLine) (picks : List Actor) (m : Move) (left : List Actor)
    → choice board lines picks ≡ Some (m, left) → IsActors board lines m
choice_is board lines [] m left is = by_first (first_move board lines (actors_of board)) refl is
  where
    by_first : (o : Option Move) → first_move board lines (actors_of board) ≡ o → with_picks [] o ≡ Some (m, left) → IsActors board lines m
    by_first None first is = cc
    by_first (Some n) first is = first_is board lines (actors_of board) m (first ∙ ap (λ (m : Move). Some m) (same_pair n m [] left is))
choice_is board lines (pick ∷ picks) m left is = by_pick (due_move board lines pick) refl is (choice_is board lines picks m left)
  where
    by_pick : (o : Option Move) → due_move board lines pick ≡ o
        → or_choice (with_picks picks o) (choice board lines picks) ≡ Some (m, left)
        → (choice board lines picks ≡ Some (m, left) → IsActors board lines m) → IsActors board lines m
    by_pick None of_pick is deeper = deeper is
    by_pick (Some n) of_pick is deeper = record { actor = pick; moves = of_pick ∙ ap (λ (m : Move). Some m) (same_pair n m picks left is) }
