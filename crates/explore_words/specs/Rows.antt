-- The rows that can be asked for: those of entries, and those that say how a line is left.
use Rattle.std.specs.Prelude.{◌≡◌, ℕ, Bool, true, false, Option, Some, None, IfSome, MatchOption}
use Rattle.std.specs.Prelude.{List, [], ◌∷◌, ◌++◌, codes, decimal}
use Rattle.std.specs.Borrow.{Bor}
use Rattle.std.specs.List.{join_with_byte}
use Rattle.irq_base.specs.declared.entries.Actor.{Actor}
use Rattle.irq_base.specs.declared.numbers.LineNo.{LineNo}
use Rattle.line_wanted.specs.declared.left.Left.{Left}
use Rattle.line_wanted.specs.declared.left.Standing.{Standing}
use Rattle.line_wanted.specs.declared.left.Standing.TheVariants as standings
use Rattle.line_wanted.specs.declared.wanted.Wanted.{Wanted}
use Rattle.line_wanted.specs.declared.wanted.Wanted.TheVariants as wants
use Rattle.log_text.specs.EntryWords.{actor_word, entry_words}
use Rattle.log_read.specs.Left.{words_of}
use Rattle.log_read.specs.Who.{HasSmallActor}
use Rattle.log_text.specs.Formed.{IsSmall, IsWritable}

abbrev pub standing_word : Standing → List ℕ
standing_word standings.Stopped = codes "stopped"
standing_word standings.Enabled = codes "enabled"
standing_word standings.Disabled = codes "disabled"
standing_word standings.Killed = codes "killed"

-- what of an edge line waits: an edge that the masked chip stores, an interrupt that is pending
abbrev pub waits_word : Bool × Bool → List ℕ
waits_word (false, false) = codes "-"
waits_word (true, false) = codes "stored"
waits_word (false, true) = codes "pending"
waits_word (true, true) = codes "both"

-- who is hung, if somebody is
abbrev pub hung_words : Option Actor → List (List ℕ)
hung_words None = []
hung_words (Some a) = codes "hung" ∷ actor_word a ∷ []

-- how a line is left: who is hung, how it stands, its unserved asks, and what waits
abbrev pub left_words : Left → List (List ℕ)
left_words left = hung_words left.hung
    ++ standing_word left.standing ∷ decimal left.unserved
    ∷ waits_word (left.stored, left.pending) ∷ []

-- the words of the row
abbrev pub wanted_words : LineNo → Wanted → List (List ℕ)
wanted_words line (wants.Row e) = decimal line.0 ∷ entry_words e
wanted_words line (wants.Rest left) = decimal line.0 ∷ codes "rest" ∷ left_words left

-- there is a row of it
abbrev pub HasRow : Wanted → Type 0
HasRow (wants.Row e) = IsWritable e
HasRow (wants.Rest left) = IsSmall left.unserved × IfSome left.hung HasSmallActor

-- words with one space between each two
abbrev pub joined : List (List ℕ) → List ℕ
joined words = join_with_byte 32 words

-- the bytes are the row, without a line feed
pub record Spells (bytes : List ℕ) (line : LineNo) (wanted : Wanted) : Type 0 where
  pub text : bytes ≡ joined (wanted_words line wanted)
  pub number : IsSmall line.0
  pub has_row : HasRow wanted

-- the line, and what is wanted of it, whose row the bytes are; none if they are no such row
abbrev pub ReadsWanted : List ℕ → Option (LineNo × Wanted) → Type 0
ReadsWanted bytes read = MatchOption read
    ((line : LineNo) (wanted : Wanted) → Spells bytes line wanted → ⊥)
    (λ r. Spells bytes r.0 r.1)

-- the words between the bytes' spaces say that a line is left so
pub record SaysLeft (bytes : List ℕ) (left : Left) : Type 0 where
  pub words : words_of bytes ≡ left_words left
  pub small : IsSmall left.unserved
  pub actor : IfSome left.hung HasSmallActor

-- the words between the bytes' spaces begin with who is hung, if they say it of somebody; behind
-- them stand the other bytes
pub record SaysHung (bytes : List ℕ) (hung : Option Actor) (behind : List ℕ) : Type 0 where
  pub words : words_of bytes ≡ hung_words hung ++ words_of behind
  pub actor : IfSome hung HasSmallActor

-- who is hung that the bytes say, and what stands behind it; none if they don't say how any line is
-- left
abbrev pub ReadsHung : List ℕ → Option (Option Actor × Bor (List ℕ)) → Type 0
ReadsHung bytes read = MatchOption read ((left : Left) → SaysLeft bytes left → ⊥)
    (λ r. SaysHung bytes r.0 r.1.now × ((left : Left) → SaysLeft bytes left → left.hung ≡ r.0))

-- how a line is left that the bytes say; none if they say it of no way
abbrev pub ReadsLeft : List ℕ → Option Left → Type 0
ReadsLeft bytes read = MatchOption read ((left : Left) → SaysLeft bytes left → ⊥) (SaysLeft bytes)

-- the words between the bytes' spaces say that this line is left so
pub record SaysRest (bytes : List ℕ) (line : LineNo) (left : Left) : Type 0 where
  pub words : words_of bytes ≡ decimal line.0 ∷ codes "rest" ∷ left_words left
  pub number : IsSmall line.0
  pub small : IsSmall left.unserved
  pub actor : IfSome left.hung HasSmallActor

-- the line, and how it is left, that the bytes say; none if they say nothing such
abbrev pub ReadsRest : List ℕ → Option (LineNo × Left) → Type 0
ReadsRest bytes read = MatchOption read ((line : LineNo) (left : Left) → SaysRest bytes line left
    → ⊥)
    (λ r. SaysRest bytes r.0 r.1)
