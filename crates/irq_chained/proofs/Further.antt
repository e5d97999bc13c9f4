-- Where memory is needed a further step is due.
use Rattle.std.proofs.Common.{◌≡◌, IsSome, Option, Some, None, List, [], ◌∷◌, ◌++◌, is_some, reverse, refl, sym, ap, ◌∙◌, subst}
use Rattle.irq_base.specs.Cell.{Cell}
use Rattle.irq_base.specs.declared.entries.Actor.{Actor}
use Rattle.irq_base.specs.declared.entries.Actor.TheVariants as actors
use Rattle.board_def.specs.Rules.{IsBoard}
use Rattle.board_def.specs.Seen.{BoardSeen}
use Rattle.board_play.specs.Kept.{AreKept}
use Rattle.board_play.specs.Lines.{BoardLine, Move}
use Rattle.board_play.specs.Order.{actors_of, cpus_of, drivers_of, due_move, threads_of}
use Rattle.board_play.specs.Play.{first_move, or_move}
use Rattle.board_core.specs.Seen.{SystemSeen, board_lines}
use Rattle.board_core.specs.Turns.{lowest_move}
use Rattle.irq_chained.specs.Chain.{chain_next, choice_by, cpu_0, first_step, lines_in, or_choice, or_step, with_left}
use Rattle.irq_chained.specs.Seen.{DemuxSeen, IsDemux, seen_of}
use Rattle.irq_chained.specs.Turned.{lowest_of, next_of}
use Rattle.irq_chained.specs.declared.chain.ChainEntry.{ChainEntry}
use Rattle.irq_chained.specs.declared.marks.Mark.{Mark}
use Rattle.irq_chained.specs.declared.marks.Walk.{Walk}
use Rattle.irq_chained.proofs.Lowest.{first_append, first_cpu}
use Rattle.irq_chained.proofs.Resting.{rests}
use Rattle.irq_chained.proofs.Stepping.{lines_are, steps_of}

module _ {E : Type 0} (can : Actor → Option E) where
  -- if somebody has a step one is due, whatever picks are left
  pub some_choice : (all left : List Actor) → IsSome (first_step can all) → IsSome (choice_by can all left)
  some_choice all [] some = by_first (first_step can all) some
    where
      by_first : (o : Option E) → IsSome o → IsSome (with_left [] o)
      by_first None some = cc
      by_first (Some e) some = refl
  some_choice all (pick ∷ picks) some = by_pick (can pick) (some_choice all picks some)
    where
      by_pick : (o : Option E) → IsSome (choice_by can all picks) → IsSome (or_choice (with_left picks o) (choice_by can all picks))
      by_pick None deeper = deeper
      by_pick (Some e) deeper = refl

  some_either : (x y z : Option E) → IsSome y → IsSome (or_step x (or_step y z))
  some_either None None z some = cc
  some_either None (Some e) z some = refl
  some_either (Some e) y z some = refl

-- processor 0 is one of the actors
pub some_of_0 : (d : DemuxSeen) → IsBoard d.board → IsSome (next_of d (actors.Cpu cpu_0)) → IsSome (lowest_of d)
some_of_0 d isb some =
    let b = d.board in
    let can = chain_next b (reverse d.log) in
    let is : lowest_of d ≡ or_step (first_step can (threads_of b)) (or_step (next_of d (actors.Cpu cpu_0)) (first_step can (drivers_of b)))
    = first_append can (threads_of b) (cpus_of b ++ drivers_of b)
    ∙ ap (λ (o : Option ChainEntry). or_step (first_step can (threads_of b)) o)
    (first_append can (cpus_of b) (drivers_of b)
    ∙ ap (λ (o : Option ChainEntry). or_step o (first_step can (drivers_of b))) (first_cpu b (reverse d.log) isb.some_cpu)) in
    ap (λ (o : Option ChainEntry). is_some o) is
    ∙ some_either can (first_step can (threads_of b)) (next_of d (actors.Cpu cpu_0)) (first_step can (drivers_of b)) some

-- where an actor can move on the lines, one of them has a step
first_moves : (b : BoardSeen) (lines : List BoardLine) (can : Actor → Option ChainEntry)
    → ((a : Actor) → can a ≡ None → due_move b lines a ≡ None) → (all : List Actor)
    → IsSome (first_move b lines all) → IsSome (first_step can all)
first_moves b lines can rests [] some = cc
first_moves b lines can rests (a ∷ rest) some = by_step (can a) refl (λ h. first_moves b lines can rests rest h)
  where
    by_step : (o : Option ChainEntry) → can a ≡ o → (IsSome (first_move b lines rest) → IsSome (first_step can rest))
        → IsSome (or_step o (first_step can rest))
    by_step (Some e) is deeper = refl
    by_step None is deeper = deeper (ap (λ (o : Option Move). is_some (or_move o (first_move b lines rest))) (sym (rests a is)) ∙ some)

module _ {s : SystemSeen} {ms : List Mark} {walk : Option Walk} {parent : Cell} (d : IsDemux s ms walk parent)
    (isb : IsBoard s.board) (kept : AreKept s.board (board_lines s.lines)) where
  abbrev g : List ChainEntry
  g = steps_of s ms

  pub somebody : IsSome (lowest_move s) → IsSome (lowest_of (seen_of s ms parent))
  somebody some =
      let are : board_lines s.lines ≡ lines_in s.board g = sym (lines_are d) in
      first_moves s.board (lines_in s.board g) (chain_next s.board g)
      (rests s.board isb d.fits g d.legal (subst (AreKept s.board) are kept)) (actors_of s.board)
      (subst (λ (ls : List BoardLine). IsSome (first_move s.board ls (actors_of s.board))) are some)
