-- What the next step is, phase by phase.
use Rattle.std.proofs.Common.{◌≡◌, ◌⊎◌, inl, inr, Bool, true, false, cond, Option, Some, None, List, [], ◌∷◌, refl, sym, ap}
use Rattle.irq_base.specs.declared.entries.Actor.{Actor}
use Rattle.irq_base.specs.declared.entries.Actor.TheVariants as actors
use Rattle.irq_base.specs.declared.numbers.DriverNo.{DriverNo}
use Rattle.irq_laws.proofs.Chosen.{the_same}
use Rattle.play_laws.specs.Actors.{IsOneOf}
use Rattle.board_def.specs.Seen.{BoardSeen}
use Rattle.board_play.specs.Lines.{BoardLine, Move}
use Rattle.board_play.specs.Order.{due_move}
use Rattle.board_play.specs.Play.{first_move, or_move}
use Rattle.irq_pm.specs.Phases.{Phase, Picking, Next, or_next, step_in, picked, asks_next, first_asking, move_of_driver}
use Rattle.irq_pm.specs.declared.entries.SleepEntry.{SleepEntry}
use Rattle.irq_pm.specs.declared.entries.SleepEntry.TheVariants as sleeps

abbrev pub step_of : Move → SleepEntry
step_of m = sleeps.Step m.0 m.1

pub either_move : (a b : Option Move) (m : Move) → or_move a b ≡ Some m → (a ≡ Some m) ⊎ ((a ≡ None) × (b ≡ Some m))
either_move None b m is = inr (refl, is)
either_move (Some n) b m is = inl is

pub neither_move : (a b : Option Move) → or_move a b ≡ None → (a ≡ None) × (b ≡ None)
neither_move None b is = (refl, is)
neither_move (Some m) b is = cc

pub either_next : (a b : Option Next) (n : Next) → or_next a b ≡ Some n → (a ≡ Some n) ⊎ ((a ≡ None) × (b ≡ Some n))
either_next None b n is = inr (refl, is)
either_next (Some k) b n is = inl is

pub neither_next : (a b : Option Next) → or_next a b ≡ None → (a ≡ None) × (b ≡ None)
neither_next None b is = (refl, is)
neither_next (Some m) b is = cc

-- the step is this move, and the phase after it is this
pub record IsStep (o : Option Move) (e : SleepEntry) (after phase : Phase) : Type 0 where
  pub move : Move
  pub is : o ≡ Some move
  pub step : e ≡ step_of move
  pub goes_to : after ≡ phase

pub of_step : (phase : Phase) (o : Option Move) (e : SleepEntry) (after : Phase) → step_in phase o ≡ Some (e, after) → IsStep o e after phase
of_step phase None e after is = cc
of_step phase (Some m) e after is =
    let pair : ◌≡◌ {A = Next} (step_of m, phase) (e, after) = the_same (step_of m, phase) (e, after) is in
    record { move = m; is = refl; step = sym (ap (λ (n : Next). n.0) pair); goes_to = sym (ap (λ (n : Next). n.1) pair) }

pub no_step : (phase : Phase) (o : Option Move) → step_in phase o ≡ None → o ≡ None
no_step phase None is = refl
no_step phase (Some m) is = cc

-- a mark
pub of_mark : (mark : SleepEntry) (phase : Phase) (e : SleepEntry) (after : Phase)
    → ◌≡◌ {A = Option Next} (Some (mark, phase)) (Some (e, after)) → (e ≡ mark) × (after ≡ phase)
of_mark mark phase e after is =
    let pair : ◌≡◌ {A = Next} (mark, phase) (e, after) = the_same (mark, phase) (e, after) is in
    (sym (ap (λ (n : Next). n.0) pair), sym (ap (λ (n : Next). n.1) pair))

-- ---- who moves

pub record IsMover (b : BoardSeen) (lines : List BoardLine) (all : List Actor) (m : Move) : Type 0 where
  pub actor : Actor
  pub listed : IsOneOf actor all
  pub moves : due_move b lines actor ≡ Some m

pub first_is : (b : BoardSeen) (lines : List BoardLine) (all : List Actor) (m : Move) → first_move b lines all ≡ Some m → IsMover b lines all m
first_is b lines [] m is = cc
first_is b lines (a ∷ rest) m is = elim (either_move (due_move b lines a) (first_move b lines rest) m is) [
  | inl here ↦ record { actor = a; listed = inl refl; moves = here }
  | inr there ↦ let d = first_is b lines rest m there.1 in record { actor = d.actor; listed = inr d.listed; moves = d.moves }
]

pub record IsPicked (b : BoardSeen) (lines : List BoardLine) (picks : List Actor) (e : SleepEntry) (after : Phase) : Type 0 where
  pub move : Move
  pub step : e ≡ step_of move
  pub rest : List Actor
  pub goes_to : after ≡ Picking rest
  pub actor : Actor
  pub listed : IsOneOf actor picks
  pub moves : due_move b lines actor ≡ Some move
  pub fewer : (a : Actor) → IsOneOf a rest → IsOneOf a picks

pub pick_is : (b : BoardSeen) (lines : List BoardLine) (picks : List Actor) (e : SleepEntry) (after : Phase)
    → picked b lines picks ≡ Some (e, after) → IsPicked b lines picks e after
pick_is b lines [] e after is = cc
pick_is b lines (pick ∷ picks) e after is = elim (either_next (step_in (Picking picks) (due_move b lines pick)) (picked b lines picks) (e, after) is) [
  | inl here ↦
      let s = of_step (Picking picks) (due_move b lines pick) e after here in
      record {
        move = s.move;
        step = s.step;
        rest = picks;
        goes_to = s.goes_to;
        actor = pick;
        listed = inl refl;
        moves = s.is;
        fewer = λ a at. inr at;
      }
  | inr there ↦
      let d = pick_is b lines picks e after there.1 in
      record {
        move = d.move;
        step = d.step;
        rest = d.rest;
        goes_to = d.goes_to;
        actor = d.actor;
        listed = inr d.listed;
        moves = d.moves;
        fewer = λ a at. inr (d.fewer a at);
      }
]

-- the driver that asks
pub record IsAsking (b : BoardSeen) (lines : List BoardLine) (m : Move) : Type 0 where
  pub driver : DriverNo
  pub asks : asks_next b lines driver ≡ true
  pub moves : due_move b lines (actors.Driver driver) ≡ Some m

pub ask_is : (b : BoardSeen) (lines : List BoardLine) (rs : List DriverNo) (m : Move)
    → move_of_driver b lines (first_asking b lines rs) ≡ Some m → IsAsking b lines m
ask_is b lines [] m is = cc
ask_is b lines (r ∷ rs) m is = by_test (asks_next b lines r) refl is (ask_is b lines rs m)
  where
    by_test : (t : Bool) → asks_next b lines r ≡ t → move_of_driver b lines (cond t (Some r) (first_asking b lines rs))
        ≡ Some m → (move_of_driver b lines (first_asking b lines rs) ≡ Some m → IsAsking b lines m) → IsAsking b lines m
    by_test true test is deeper = record { driver = r; asks = test; moves = is }
    by_test false test is deeper = deeper is
