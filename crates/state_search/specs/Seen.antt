-- What is seen of a search's result.
use Rattle.std.specs.Prelude.{ℕ, Option, List, length, slice_get}
use Rattle.std.specs.Option.{option_map}
use Rattle.state_search.specs.declared.firsts.First.{First}
use Rattle.state_search.specs.declared.states.Came.{Came}
use Rattle.state_search.specs.Paths.{paths_of, states_of}

-- For each state, in the order in which it was met, its path and its numbers; the labels with their
-- first places; after how many states it was looked at what comes next; and for each of these, how
-- many labels may come next.
pub record SearchSeen (L : Type 0) : Type 0 where
  pub paths : List (List L)
  pub states : List (List ℕ)
  pub firsts : List (First L)
  pub looked : ℕ
  pub counts : List ℕ

module _ {L : Type 0} where
  abbrev pub search_seen : List (List ℕ × Option (Came L)) → List (First L) → List ℕ
      → SearchSeen L
  search_seen es fs counts = record {
    paths = paths_of es;
    states = states_of es;
    firsts = fs;
    looked = length counts;
    counts = counts;
  }

  -- the length of the path to the first state that wasn't looked at, if there is one
  abbrev pub cut_of : SearchSeen L → Option ℕ
  cut_of seen = option_map length (slice_get seen.paths seen.looked)
