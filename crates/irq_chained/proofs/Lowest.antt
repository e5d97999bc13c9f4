-- The lowest actor that has a step of the chain: the lowest thread that can move; else processor 0;
-- else the lowest driver that can move.
use Rattle.std.proofs.Common.{◌≡◌, ◌⊎◌, inl, inr, ℕ, zero, suc, ◌+◌, ◌<◌, ◌≤◌, ◌==◌, Bool, false, cond, IsSome, Option, Result, Ok, Err}
use Rattle.std.proofs.Common.{Some, None, List, [], ◌∷◌, ◌++◌, length, map, slice_get, refl, sym, ap, ◌∙◌, subst, arith}
use Rattle.std.proofs.lemmas.Bool.Decides.{nat_tests}
use Rattle.std.proofs.lemmas.Option.{slice_get_within}
use Rattle.irq_base.specs.Cell.{Cell}
use Rattle.irq_base.specs.declared.devices.DeviceDef.{DeviceDef}
use Rattle.irq_base.specs.declared.entries.Actor.{Actor}
use Rattle.irq_base.specs.declared.entries.Actor.TheVariants as actors
use Rattle.irq_base.specs.declared.numbers.CpuNo.{CpuNo}
use Rattle.irq_base.specs.declared.numbers.DevNo.{DevNo}
use Rattle.irq_base.specs.declared.numbers.DriverNo.{DriverNo}
use Rattle.irq_line.specs.declared.answers.StepRefused.{StepRefused}
use Rattle.irq_line.specs.declared.answers.StepRefused.TheVariants as refusals
use Rattle.irq_laws.proofs.Chosen.{the_same}
use Rattle.play_laws.specs.Actors.{count_up}
use Rattle.board_def.specs.Rules.{IsBoard}
use Rattle.board_def.specs.Seen.{BoardSeen}
use Rattle.board_play.specs.Lines.{BoardLine, Move}
use Rattle.board_play.specs.Order.{cpus_of, drivers_of, due_move, threads_of}
use Rattle.board_core.specs.Firsts.{IsFirst, IsFirstOf}
use Rattle.board_core.specs.Seen.{SystemSeen}
use Rattle.board_core.specs.Turns.{move_of}
use Rattle.board_core.proofs.LowestMover.{at_first, either_at}
use Rattle.irq_chained.specs.Chain.{chain_next, child, cpu_0, first_step, lines_in, of_cpu_0, open_status, or_step}
use Rattle.irq_chained.specs.Seen.{DemuxSeen, IsDemux, seen_of}
use Rattle.irq_chained.specs.Turned.{IsOther, IsRefused, TurnsBy, lowest_driver_of, lowest_of, next_of}
use Rattle.irq_chained.specs.declared.chain.ChainEntry.{ChainEntry}
use Rattle.irq_chained.specs.declared.chain.ChainTurn.{ChainTurn}
use Rattle.irq_chained.specs.declared.chain.ChainTurn.TheVariants as turns
use Rattle.irq_chained.specs.declared.marks.Mark.{Mark}
use Rattle.irq_chained.specs.declared.marks.Walk.{Walk}
use Rattle.irq_chained.proofs.Stepping.{lines_are, steps_of}

module _ {E : Type 0} (can : Actor → Option E) where
  or_none : (o : Option E) → or_step o None ≡ o
  or_none None = refl
  or_none (Some e) = refl

  or_some : (o other : Option E) → IsSome o → or_step o other ≡ o
  or_some None other h = cc
  or_some (Some e) other h = refl

  pub first_append : (xs ys : List Actor) → first_step can (xs ++ ys) ≡ or_step (first_step can xs) (first_step can ys)
  first_append [] ys = refl
  first_append (a ∷ xs) ys = by_first (can a) (first_append xs ys)
    where
      by_first : (o : Option E) → first_step can (xs ++ ys) ≡ or_step (first_step can xs) (first_step can ys)
          → or_step o (first_step can (xs ++ ys)) ≡ or_step (or_step o (first_step can xs)) (first_step can ys)
      by_first None deeper = deeper
      by_first (Some e) deeper = refl

  first_none : (all : List Actor) → ((j : ℕ) (b : Actor) → slice_get all j ≡ Some b → can b ≡ None) → first_step can all ≡ None
  first_none [] none = refl
  first_none (a ∷ rest) none = ap (λ (o : Option E). or_step o (first_step can rest)) (none 0 a refl) ∙ first_none rest (λ j b at. none (suc j) b at)

  first_at : (all : List Actor) (k : ℕ) (a : Actor) → slice_get all k ≡ Some a
      → ((j : ℕ) (b : Actor) → j < k → slice_get all j ≡ Some b → can b ≡ None) → IsSome (can a)
      → first_step can all ≡ can a
  first_at [] k a at before some = cc
  first_at (x ∷ rest) zero a at before some =
      let same : x ≡ a = the_same x a at in
      ap (λ (y : Actor). or_step (can y) (first_step can rest)) same ∙ or_some (can a) (first_step can rest) some
  first_at (x ∷ rest) (suc k) a at before some =
      ap (λ (o : Option E). or_step o (first_step can rest)) (before 0 x (omega arith) refl)
      ∙ first_at rest k a at (λ j b less there. before (suc j) b (omega (arith, less)) there) some

is_thread : (ds : List DeviceDef) (j : ℕ) (a : Actor) → slice_get
    (map (λ (x : DeviceDef). actors.Thread x.dev) ds) j ≡ Some a
    → (d : DevNo) × (a ≡ actors.Thread d)
is_thread [] j a at = cc
is_thread (x ∷ ds) zero a at = (x.dev, sym (the_same (actors.Thread x.dev) a at))
is_thread (x ∷ ds) (suc j) a at = is_thread ds j a at

is_a_cpu : (ns : List ℕ) (j : ℕ) (a : Actor) → slice_get (map (λ (n : ℕ). actors.Cpu (record { 0 = n })) ns) j ≡ Some a → (c : CpuNo) × (a ≡ actors.Cpu c)
is_a_cpu [] j a at = cc
is_a_cpu (x ∷ ns) zero a at = (record { 0 = x }, sym (the_same (actors.Cpu (record { 0 = x })) a at))
is_a_cpu (x ∷ ns) (suc j) a at = is_a_cpu ns j a at

is_a_driver : (rs : List DriverNo) (j : ℕ) (a : Actor)
    → slice_get (map (λ (r : DriverNo). actors.Driver r) rs) j ≡ Some a → (r : DriverNo) × (a ≡ actors.Driver r)
is_a_driver [] j a at = cc
is_a_driver (x ∷ rs) zero a at = (x, sym (the_same (actors.Driver x) a at))
is_a_driver (x ∷ rs) (suc j) a at = is_a_driver rs j a at

-- of the processors only the first has steps
no_others : (b : BoardSeen) (g : List ChainEntry) (c n : ℕ) → 1 ≤ c
    → first_step (chain_next b g) (map (λ (n : ℕ). actors.Cpu (record { 0 = n })) (count_up c n)) ≡ None
no_others b g c zero some = refl
no_others b g zero (suc n) some = absurd (omega (arith, some))
no_others b g (suc c) (suc n) some =
    ap (λ (t : Bool). or_step (cond t (of_cpu_0 g (lines_in b g) (open_status g)) None)
    (first_step (chain_next b g) (map (λ (n : ℕ). actors.Cpu (record { 0 = n })) (count_up (suc c + 1) n))))
    (not_zero c)
    ∙ no_others b g (suc c + 1) n (omega arith)
  where
    not_zero : (c : ℕ) → (suc c == 0) ≡ false
    not_zero c = grind (arith, nat_tests)

pub first_cpu : (b : BoardSeen) (g : List ChainEntry) → 1 ≤ b.cpus → first_step (chain_next b g) (cpus_of b) ≡ chain_next b g (actors.Cpu cpu_0)
first_cpu b g some = by_count b.cpus some
  where
    by_count : (n : ℕ) → 1 ≤ n → first_step (chain_next b g) (map (λ (n : ℕ). actors.Cpu (record { 0 = n })) (count_up 0 n)) ≡ chain_next b g (actors.Cpu cpu_0)
    by_count zero some = absurd (omega (arith, some))
    by_count (suc n) some =
        ap (λ (o : Option ChainEntry). or_step (chain_next b g (actors.Cpu cpu_0)) o) (no_others b g 1 n (omega arith))
        ∙ or_none (chain_next b g) (chain_next b g (actors.Cpu cpu_0))

module _ {s : SystemSeen} {ms : List Mark} {walk : Option Walk} {parent : Cell} (d : IsDemux s ms walk parent) where
  abbrev g : List ChainEntry
  g = steps_of s ms

  -- a thread and a driver step as on any board
  pub other_next : (a : Actor) → IsOther a → chain_next s.board g a ≡ child (move_of s a)
  other_next (actors.Thread dev) other = ap (λ (ls : List BoardLine). child (due_move s.board ls (actors.Thread dev))) (lines_are d)
  other_next (actors.Cpu c) other = absurd other
  other_next (actors.Driver r) other = ap (λ (ls : List BoardLine). child (due_move s.board ls (actors.Driver r))) (lines_are d)

  none_of_move : (a : Actor) → IsOther a → move_of s a ≡ None → chain_next s.board g a ≡ None
  none_of_move a other none = other_next a other ∙ ap (λ (o : Option Move). child o) none

  some_of_move : (a : Actor) → IsOther a → IsSome (move_of s a) → IsSome (chain_next s.board g a)
  some_of_move a other some = subst (λ (o : Option ChainEntry). IsSome o) (sym (other_next a other)) (by_move (move_of s a) some)
    where
      by_move : (o : Option Move) → IsSome o → IsSome (child o)
      by_move None h = cc
      by_move (Some m) h = refl

  thread_none : (j : ℕ) (b : Actor) → slice_get (threads_of s.board) j ≡ Some b → move_of s b ≡ None → chain_next s.board g b ≡ None
  thread_none j b at none =
      let t = is_thread s.board.devices j b at in
      none_of_move b (subst (λ (a : Actor). IsOther a) (sym t.1) tt) none

  driver_none : (j : ℕ) (b : Actor) → slice_get (drivers_of s.board) j ≡ Some b → move_of s b ≡ None → chain_next s.board g b ≡ None
  driver_none j b at none =
      let t = is_a_driver s.board.drivers j b at in
      none_of_move b (subst (λ (a : Actor). IsOther a) (sym t.1) tt) none

  abbrev both : List Actor
  both = threads_of s.board ++ cpus_of s.board

  pub thread_is_lowest : (dev : DevNo) → IsFirst s both (actors.Thread dev)
      → lowest_of (seen_of s ms parent) ≡ chain_next s.board g (actors.Thread dev)
  thread_is_lowest dev f = by_place (either_at (threads_of s.board) (cpus_of s.board) f.place (actors.Thread dev) f.at)
    where
      a : Actor
      a = actors.Thread dev

      by_place : (slice_get (threads_of s.board) f.place ≡ Some a)
          ⊎ ((i : ℕ) × (f.place ≡ length (threads_of s.board) + i) × (slice_get (cpus_of s.board) i ≡ Some a))
          → lowest_of (seen_of s ms parent) ≡ chain_next s.board g a
      by_place (inl at) =
          let some = some_of_move a tt f.moves in
          let here = first_at (chain_next s.board g) (threads_of s.board) f.place a at
          (λ j b less there. thread_none j b there
          (f.before j b less (at_first (threads_of s.board) (cpus_of s.board) j b there))) some in
          first_append (chain_next s.board g) (threads_of s.board) (cpus_of s.board ++ drivers_of s.board)
          ∙ (ap (λ (o : Option ChainEntry). or_step o (first_step (chain_next s.board g)
          (cpus_of s.board ++ drivers_of s.board))) here
          ∙ or_some (chain_next s.board g) (chain_next s.board g a) _ some)
      by_place (inr there) = let c = is_a_cpu (count_up 0 s.board.cpus) there.0 a there.2 in let bad : a ≡ actors.Cpu c.0 = c.1 in cc

  no_thread : (o : Option Actor) → IsFirstOf s both o →
      ((dev : DevNo) → o ≡ Some (actors.Thread dev) → ⊥) → (j : ℕ) (b : Actor)
      → slice_get (threads_of s.board) j ≡ Some b → chain_next s.board g b ≡ None
  no_thread None f not j b at = thread_none j b at (f j b (at_first (threads_of s.board) (cpus_of s.board) j b at))
  no_thread (Some a) f not j b at = by_place (either_at (threads_of s.board) (cpus_of s.board) f.place a f.at)
    where
      by_place : (slice_get (threads_of s.board) f.place ≡ Some a)
          ⊎ ((i : ℕ) × (f.place ≡ length (threads_of s.board) + i) × (slice_get (cpus_of s.board) i ≡ Some a))
          → chain_next s.board g b ≡ None
      by_place (inl there) = let t = is_thread s.board.devices f.place a there in absurd (not t.0 (ap (λ (x : Actor). Some x) t.1))
      by_place (inr there) =
          let within = slice_get_within (threads_of s.board) j b at in
          thread_none j b at (f.before j b (omega (arith, within, there.1)) (at_first (threads_of s.board) (cpus_of s.board) j b at))

  -- if no thread can move
  pub after_threads : IsBoard s.board → (o : Option Actor) → IsFirstOf s both o
      → ((dev : DevNo) → o ≡ Some (actors.Thread dev) → ⊥)
      → lowest_of (seen_of s ms parent) ≡ or_step (next_of (seen_of s ms parent) (actors.Cpu cpu_0))
      (lowest_driver_of (seen_of s ms parent))
  after_threads isb o f not =
      let can = chain_next s.board g in
      first_append can (threads_of s.board) (cpus_of s.board ++ drivers_of s.board)
      ∙ (ap (λ (x : Option ChainEntry). or_step x (first_step can (cpus_of s.board ++ drivers_of s.board)))
      (first_none can (threads_of s.board) (no_thread o f not))
      ∙ (first_append can (cpus_of s.board) (drivers_of s.board)
      ∙ ap (λ (x : Option ChainEntry). or_step x (first_step can (drivers_of s.board)))
      (first_cpu s.board g isb.some_cpu)))

  pub driver_is_lowest : (r : DriverNo) → IsFirst s (drivers_of s.board) (actors.Driver r)
      → lowest_driver_of (seen_of s ms parent) ≡ chain_next s.board g (actors.Driver r)
  driver_is_lowest r f = first_at (chain_next s.board g) (drivers_of s.board) f.place (actors.Driver r) f.at
      (λ j b less there. driver_none j b there (f.before j b less there)) (some_of_move (actors.Driver r) tt f.moves)

  pub no_driver : ((j : ℕ) (b : Actor) → slice_get (drivers_of s.board) j ≡ Some b → move_of s b ≡ None) → lowest_driver_of (seen_of s ms parent) ≡ None
  no_driver none = first_none (chain_next s.board g) (drivers_of s.board) (λ j b at. driver_none j b at (none j b at))

-- ---- what a turn of processor 0 says of the lowest

some_first : (o rest : Option ChainEntry) (e : ChainEntry) → o ≡ Some e → or_step o rest ≡ Some e
some_first None rest e is = cc
some_first (Some f) rest e is = is

pub lowest_turn : (old new : DemuxSeen) (due rest : Option ChainEntry) (turn : Result ChainTurn StepRefused) → TurnsBy old due turn new
    → (turn ≡ Ok turns.NotYet → ⊥) → TurnsBy old (or_step due rest) turn new
lowest_turn old new due rest (Ok (turns.Moved e)) t not =
    record { is = some_first due rest e t.is; room = t.room; board = t.board; layout = t.layout; log = t.log }
lowest_turn old new due rest (Ok turns.NotYet) t not = absurd (not refl)
lowest_turn old new due rest (Err refused) t not = (by_refusal refused t.0, t.1)
  where
    by_refusal : (refused : StepRefused) → IsRefused old due refused → IsRefused old (or_step due rest) refused
    by_refusal (refusals.Full line len) f =
        record { step = f.step; is = some_first due rest f.step f.is; move = f.move; tells = f.tells; of_line = f.of_line; length = f.length; log = f.log }
    by_refusal refusals.NoMemory somebody = somebody
