-- More picks keep the rules of boards.
use Rattle.std.proofs.Common.{◌≡◌, ◌+◌, ◌≤◌, true, false, Option, Some, None, List, [], ◌∷◌, ◌++◌, length, refl, arith}
use Rattle.std.specs.List.{All, list_any, flat_map}
use Rattle.std.proofs.Math.ListN.{length-append, length-replicate}
use Rattle.std.proofs.lemmas.Bool.{ltb-false, leb-false, not-false, or_parts}
use Rattle.std.proofs.lemmas.List.Elements.{All-nil, All-append, All-replicate}
use Rattle.irq_base.specs.Handlers.{has_thread}
use Rattle.irq_base.specs.declared.devices.DeviceDef.{DeviceDef}
use Rattle.board_def.specs.Rules.{find_device, has_driver, is_threaded, IsActorOf, IsBoard}
use Rattle.board_def.specs.Seen.{BoardSeen}
use Rattle.board_def.proofs.Grows.{other_picks}
use Rattle.irq_base.specs.declared.entries.Actor.{Actor}
use Rattle.irq_base.specs.declared.entries.Actor.TheVariants as actors
use Rattle.board_words.specs.declared.statements.PickWord.{PickWord}
use Rattle.board_words.specs.declared.statements.Statement.TheVariants as statements
use Rattle.board_stated.specs.FaultsAfter.{has_no_thread, picks_nothing, is_not_there, count_of_picks, is_one_too_many}
use Rattle.board_stated.specs.Stated.{actors_picked, with_statement}
use Rattle.board_stated.specs.declared.writers.Writer.{Writer}

-- ---- each pick is of the board

threaded : (o : Option DeviceDef) → has_no_thread o ≡ false → is_threaded o ≡ true
threaded (Some x) h = not-false (has_thread x.kind) h
threaded None h = absurd cc

actor_there : (b : BoardSeen) (who : Actor) → picks_nothing b who ≡ false → IsActorOf b who
actor_there b (actors.Thread dev) h = threaded (find_device b.devices dev) h
actor_there b (actors.Cpu cpu) h = leb-false b.cpus cpu.0 h
actor_there b (actors.Driver driver) h = not-false (has_driver b.drivers driver) h

actors_there : (b : BoardSeen) (picks : List PickWord) → list_any (λ p. picks_nothing b p.who) picks ≡ false
    → All (IsActorOf b) (flat_map actors_picked picks)
actors_there b [] h = All-nil (IsActorOf b)
actors_there b (p ∷ ps) h =
    let parts = or_parts (picks_nothing b p.who) (list_any (λ q. picks_nothing b q.who) ps) h in
    All-append (IsActorOf b) (actors_picked p) (flat_map actors_picked ps)
    (All-replicate (IsActorOf b) p.times p.who (actor_there b p.who parts.0)) (actors_there b ps parts.1)

-- ---- the number of picks is what the words tell

count_told : (picks : List PickWord) → length (flat_map actors_picked picks) ≡ count_of_picks picks
count_told [] = refl
count_told (p ∷ ps) =
    let rest = count_told ps in
    let first = length-replicate p.times p.who in
    omega (arith, length-append (actors_picked p) (flat_map actors_picked ps))

few_after : (whose : Writer) (b : BoardSeen) (picks : List PickWord) → is_one_too_many whose b (statements.Picks picks) ≡ false
    → length (b.picks ++ flat_map actors_picked picks) ≤ 65536
few_after whose b picks h =
    let few = ltb-false 65536 (length b.picks + count_of_picks picks) h in
    let told = count_told picks in
    omega (arith, length-append b.picks (flat_map actors_picked picks))

-- ---- more

pub picks_kept : (whose : Writer) (b : BoardSeen) (picks : List PickWord) → IsBoard b → is_not_there b (statements.Picks picks) ≡ false
    → is_one_too_many whose b (statements.Picks picks) ≡ false
    → IsBoard (with_statement whose (statements.Picks picks) b)
picks_kept whose b picks board there room =
    let more = flat_map actors_picked picks in
    other_picks b (b.picks ++ more) board (few_after whose b picks room) (All-append (IsActorOf b) b.picks more board.picks (actors_there b picks there))
