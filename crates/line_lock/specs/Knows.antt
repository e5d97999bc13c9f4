-- What a pass knows, and how that changes when passes are forked and met.
use Rattle.std.specs.Prelude.{◌≡◌, ℕ, Bool, true, false, not, cond, nat_lt, IfSome, Option, Some}
use Rattle.std.specs.Prelude.{None, List, [], ◌∷◌, ◌++◌, length, filter}
use Rattle.irq_base.specs.declared.entries.Actor.{Actor}
use Rattle.irq_base.specs.declared.entries.Entry.{Entry}
use Rattle.irq_model.specs.Kinds.{same_actor}
use Rattle.line_lock.specs.Placed.{placed, placed_of}
use Rattle.line_lock.specs.declared.view.Known.{Known}

-- the first list begins with the second
abbrev pub BeginsWith : List Entry → List Entry → Type 0
BeginsWith more less = (rest : List Entry) × (more ≡ less ++ rest)

abbrev pub longer : List Entry → List Entry → List Entry
longer a b = cond (nat_lt (length a) (length b)) b a

abbrev pub is_among : Actor → List Actor → Bool
is_among who [] = false
is_among who (a ∷ rest) = cond (same_actor who a) true (is_among who rest)

-- the list without the actor
abbrev pub without : Actor → List Actor → List Actor
without who all = filter (λ a. not (same_actor who a)) all

-- the list without the actor, if there is one
abbrev pub without_of : Option Actor → List Actor → List Actor
without_of None all = all
without_of (Some who) all = without who all

-- a first pass that has seen nothing
abbrev pub nothing_known : Known
nothing_known = record { seen = []; mine = []; actor = None; given = []; out = []; looks = [] }

-- a first pass after it gave a pass to the actor
abbrev pub forked : Known → Actor → Known
forked k who = record k { given = k.given ++ who ∷ []; out = k.out ++ who ∷ [] }

-- the pass that was given: it has seen the same, and nothing of it is its own
abbrev pub newcomer : Known → Actor → Known
newcomer k who =
    record { seen = k.seen; mine = []; actor = Some who; given = []; out = []; looks = [] }

-- a first pass after it met another pass
abbrev pub met : Known → Known → Known
met k other = record k { seen = longer k.seen other.seen; out = without_of other.actor k.out }

-- a pass after it held the value, whose history is this one now
abbrev pub looked : Known → List Entry → Known
looked k history = record k {
  seen = history;
  mine = placed_of k.actor history;
  looks = length history ∷ k.looks;
}

-- a pass after a look at the count alone, which was this
abbrev pub glanced : Known → ℕ → Known
glanced k found = record k { looks = found ∷ k.looks }

-- What a look at the count alone tells: the count is the length of the history, which begins with
-- what the pass has seen, and in which the entries of its actor are those that it knows as its own.
pub record IsCount (k : Known) (found : ℕ) : Type 0 where
  pub history : List Entry
  pub begins : BeginsWith history k.seen
  pub mine : k.mine ≡ placed_of k.actor history
  pub is : found ≡ length history

-- What a first pass learns when it meets another pass; `new` is what it knows afterwards.
pub record Meets (old other new : Known) : Type 0 where
  pub whole : new ≡ met old other
  -- what either has seen is a beginning of what is seen now
  pub begins : BeginsWith new.seen old.seen
  pub begins_other : BeginsWith new.seen other.seen
  -- the other's actor was out: it was given a pass, and that pass wasn't met before
  pub was_out : IfSome other.actor (λ who. is_among who old.out ≡ true)
  -- the entries of the other's actor in what is seen now are what the other knew as its own
  pub own : placed_of other.actor new.seen ≡ other.mine
  -- of the actors that were met before, nothing new is seen
  pub settled : (who : Actor) → is_among who old.given ≡ true → is_among who old.out ≡ false
      → placed who new.seen ≡ placed who old.seen

-- What holds of all that a pass ever knows.
pub record IsKnown (k : Known) : Type 0 where
  -- its own entries are the entries of its actor in what it has seen; a first pass has none
  pub mine : k.mine ≡ placed_of k.actor k.seen
  -- a first pass has seen no entry of an actor to which it gave no pass
  pub strangers : (who : Actor) → k.actor ≡ None → is_among who k.given ≡ false
      → placed who k.seen ≡ []
  -- an actor that is out was given a pass
  pub given : (who : Actor) → is_among who k.out ≡ true → is_among who k.given ≡ true
