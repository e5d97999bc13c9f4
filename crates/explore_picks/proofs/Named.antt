-- Whoever made a move of a board can be named by a board.
use Rattle.std.proofs.Common.{◌≡◌, ℕ, zero, suc, ◌+◌, ◌<◌, ◌⊎◌, inl, inr, Bool, true, false, cond, Option, Some, None, List, [], ◌∷◌, ◌++◌}
use Rattle.std.proofs.Common.{eqb, map, reverse, slice_get, refl, sym, ap, subst, ◌∙◌, arith}
use Rattle.std.specs.Prelude.{All}
use Rattle.std.proofs.lemmas.Bool.{or_cases}
use Rattle.std.proofs.lemmas.List.Elements.{All-nil, All-cons}
use Rattle.irq_base.specs.declared.devices.DeviceDef.{DeviceDef}
use Rattle.irq_base.specs.declared.entries.Actor.{Actor}
use Rattle.irq_base.specs.declared.entries.Actor.TheVariants as actors
use Rattle.irq_base.specs.declared.entries.Entry.{Entry}
use Rattle.irq_base.specs.declared.lines.LineDef.{LineDef}
use Rattle.irq_base.specs.declared.numbers.CpuNo.{CpuNo}
use Rattle.irq_base.specs.declared.numbers.DevNo.{DevNo}
use Rattle.irq_base.specs.declared.numbers.DriverNo.{DriverNo}
use Rattle.irq_model.specs.Kinds.{same_dev}
use Rattle.irq_model.specs.Lines.{has_device}
use Rattle.irq_model.specs.Next.{next_of_thread}
use Rattle.irq_model.proofs.Same.{dev_from_same, driver_from_same}
use Rattle.play_laws.proofs.Listed.{mover_listed}
use Rattle.play_laws.specs.Actors.{IsOneOf, count_up, threads_of, cpus_of, drivers_of, actors_of}
use Rattle.board_def.specs.Rules.{IsBoard, IsNumber, find_device, has_driver}
use Rattle.board_def.specs.Seen.{BoardSeen}
use Rattle.board_play.specs.Kept.{AreKept}
use Rattle.board_play.specs.Lines.{BoardLine, Move, lines_of}
use Rattle.board_play.proofs.KeptAlways.{kept_play}
use Rattle.board_play.proofs.Listed.{def_at}
use Rattle.board_play.proofs.Moves.{MovesOn, moves_on}
use Rattle.board_play.proofs.OfBoard.{def_of_row, device_found, valid_defs}
use Rattle.board_play.proofs.Script.{current}
use Rattle.explore_picks.proofs.PickedMoves.{begins}
use Rattle.explore_picks.specs.Made.{ArePicked}
use Rattle.explore_picks.specs.Stated.{IsNameable}

-- the lines of a play that is made pick by pick
pub kept : (b : BoardSeen) → IsBoard b → (picks : List Actor) (g : List Move) → ArePicked b picks g → AreKept b (lines_of b g)
kept b board picks g picked = kept_play b (reverse picks ++ []) board g [] (begins b picks g [] picked)

-- ---- devices

has_it : (t : Bool) (o : Option Entry) (e : Entry) → cond t o None ≡ Some e → t ≡ true
has_it true o e is = refl
has_it false o e is = cc

record IsFound (xs : List DeviceDef) (dev : DevNo) : Type 0 where
  place : ℕ
  device : DeviceDef
  at : slice_get xs place ≡ Some device
  its : device.dev ≡ dev

found : (xs : List DeviceDef) (dev : DevNo) (x : DeviceDef) → find_device xs dev ≡ Some x → IsFound xs dev
found [] dev x is = cc
found (y ∷ ys) dev x is = by (same_dev dev y.dev) refl is (found ys dev x)
  where
    by : (t : Bool) → same_dev dev y.dev ≡ t → cond t (Some y) (find_device ys dev) ≡ Some x
        → (find_device ys dev ≡ Some x → IsFound ys dev) → IsFound (y ∷ ys) dev
    by true same is deeper = record { place = 0; device = y; at = refl; its = sym (dev_from_same dev y.dev same) }
    by false other is deeper = let f = deeper is in record { place = suc f.place; device = f.device; at = f.at; its = f.its }

-- ---- processors

in_either : (a : Actor) (xs ys : List Actor) → IsOneOf a (xs ++ ys) → IsOneOf a xs ⊎ IsOneOf a ys
in_either a [] ys at = inr at
in_either a (x ∷ xs) ys at = elim at [
  | inl here ↦ inl (inl here)
  | inr there ↦ elim (in_either a xs ys there) [ inl first ↦ inl (inr first) | inr second ↦ inr second ]
]

not_of : (a : Actor) (f : ℕ → Actor) → ((n : ℕ) → a ≡ f n → ⊥) → (ns : List ℕ) → IsOneOf a (map f ns) → ⊥
not_of a f differs [] at = at
not_of a f differs (n ∷ ns) at = elim at [ inl here ↦ differs n here | inr there ↦ not_of a f differs ns there ]

in_count : (c : CpuNo) (k n : ℕ) → IsOneOf (actors.Cpu c) (map (λ n. actors.Cpu (record { 0 = n })) (count_up k n)) → c.0 < k + n
in_count c k zero at = absurd at
in_count c k (suc n) at = elim at [
  | inl here ↦ (let e : c.0 ≡ k = cpu_is here in omega (arith, e))
  | inr there ↦ (let l = in_count c (k + 1) n there in omega (arith, l))
]
  where
    cpu_is : actors.Cpu c ≡ actors.Cpu (record { 0 = k }) → c.0 ≡ k
    cpu_is h = cc

of_machine : (c : CpuNo) (def : LineDef) → IsOneOf (actors.Cpu c) (actors_of def) → c.0 < def.cpus
of_machine c def at = elim (in_either (actors.Cpu c) (threads_of def) (cpus_of def ++ drivers_of def) at) [
  | inl thread ↦ absurd (not_of (actors.Cpu c) _ (λ n h. cc) _ thread)
  | inr rest ↦ elim (in_either (actors.Cpu c) (cpus_of def) (drivers_of def) rest) [
    | inl cpu ↦ let l = in_count c 0 def.cpus cpu in omega (arith, l)
    | inr driver ↦ absurd (not_of (actors.Cpu c) _ (λ n h. cc) _ driver)
  ]
]

-- ---- drivers

record IsDeclared (rs : List DriverNo) (r : DriverNo) : Type 0 where
  place : ℕ
  driver : DriverNo
  at : slice_get rs place ≡ Some driver
  its : driver ≡ r

declared : (rs : List DriverNo) (r : DriverNo) → has_driver rs r ≡ true → IsDeclared rs r
declared [] r h = cc
declared (s ∷ rs) r h = elim (or_cases (eqb s.0 r.0) (has_driver rs r) h) [
  | inl here ↦ record { place = 0; driver = s; at = refl; its = driver_from_same s r here }
  | inr there ↦ (let d = declared rs r there in record { place = suc d.place; driver = d.driver; at = d.at; its = d.its })
]

-- ---- all of them

module _ (b : BoardSeen) (board : IsBoard b) where
  mover_named : (lines : List BoardLine) → AreKept b lines → (a : Actor) (m : Move) → MovesOn b lines a m → IsNameable a
  mover_named lines k (actors.Thread dev) m moves =
      let at = def_at b lines k moves.place moves.line moves.at in
      let its = device_found b board moves.place moves.line.def at dev
      (has_it (has_device moves.line.def dev) (next_of_thread moves.line.def dev moves.line.past) m.1 moves.due) in
      let f = found b.devices dev its.device its.found in
      subst (λ (d : DevNo). IsNumber d.0) f.its (board.devices f.place f.device f.at).number
  mover_named lines k (actors.Cpu c) m moves =
      let at = def_at b lines k moves.place moves.line moves.at in
      let valid = valid_defs b board moves.place moves.line.def at in
      let own = of_machine c moves.line.def
      (mover_listed moves.line.def moves.line.past (actors.Cpu c) m.1 valid (k.legal moves.place moves.line moves.at) moves.due) in
      let o = def_of_row b moves.place moves.line.def at in
      let cpus : b.cpus ≡ moves.line.def.cpus = ap (λ (d : LineDef). d.cpus) o.is in
      let few = board.few_cpus in
      omega (arith, own, cpus, few)
  mover_named lines k (actors.Driver r) m moves =
      let c = current lines r [] b.calls moves.line moves.its in
      let same : r ≡ c.call.driver = driver_from_same r c.call.driver c.mine in
      let d = declared b.drivers c.call.driver (board.calls c.place c.call c.at).driver in
      subst (λ (x : DriverNo). IsNumber x.0) (d.its ∙ sym same) (board.drivers d.place d.driver d.at).number

  pub all_named : (picks : List Actor) (g : List Move) → ArePicked b picks g → All IsNameable picks
  all_named [] g picked = All-nil IsNameable
  all_named (a ∷ picks) [] picked = absurd picked
  all_named (a ∷ picks) (m ∷ g) picked =
      All-cons IsNameable a picks (mover_named (lines_of b g) (kept b board picks g picked.0) a m (moves_on b (lines_of b g) a m picked.1))
      (all_named picks g picked.0)
