-- A row that says how a line is left, and its words.
use Rattle.std.proofs.Common.{◌≡◌, ℕ, Bool, true, false, ltb, Option, Some, None, IfSome, List, ◌∷◌, ◌++◌, codes, decimal, refl, sym, ap, ◌∙◌}
use Rattle.std.specs.List.{join_with_byte}
use Rattle.std.proofs.lemmas.Bool.{and_from}
use Rattle.std.proofs.lemmas.List.{append_cancel_right}
use Rattle.std.proofs.lemmas.List.Splits.{join_with_byte-slice_split}
use Rattle.irq_base.specs.declared.entries.Actor.{Actor}
use Rattle.irq_base.specs.declared.entries.Actor.TheVariants as actors
use Rattle.irq_base.specs.declared.entries.Entry.{Entry}
use Rattle.irq_base.specs.declared.numbers.LineNo.{LineNo}
use Rattle.line_wanted.specs.declared.left.Left.{Left}
use Rattle.line_wanted.specs.declared.left.Standing.{Standing}
use Rattle.line_wanted.specs.declared.left.Standing.TheVariants as standings
use Rattle.line_wanted.specs.declared.wanted.Wanted.{Wanted}
use Rattle.line_wanted.specs.declared.wanted.Wanted.TheVariants as wants
use Rattle.log_read.specs.Left.{words_of}
use Rattle.log_read.specs.Who.{HasSmallActor}
use Rattle.log_text.proofs.Splitting.{are_above, are_words, number_word, words_back}
use Rattle.log_text.specs.EntryWords.{actor_word}
use Rattle.log_text.specs.Formed.{IsRowOf, IsSmall}
use Rattle.explore_words.specs.Rows.{SaysRest, Spells, hung_words, left_words, standing_word, waits_word}
use Rattle.explore_words.proofs.Hung.{rest_of}

standing_is : (x : Standing) → are_above 32 (standing_word x) ≡ true
standing_is standings.Stopped = refl
standing_is standings.Enabled = refl
standing_is standings.Disabled = refl
standing_is standings.Killed = refl

waits_is : (stored pending : Bool) → are_above 32 (waits_word (stored, pending)) ≡ true
waits_is false false = refl
waits_is true false = refl
waits_is false true = refl
waits_is true true = refl

actor_is : (x : Actor) → HasSmallActor x → are_above 32 (actor_word x) ≡ true
actor_is (actors.Thread dev) small = and_from (ltb 32 116) (are_above 32 (decimal dev.0)) refl (number_word dev.0 small)
actor_is (actors.Cpu cpu) small = and_from (ltb 32 99) (are_above 32 (decimal cpu.0)) refl (number_word cpu.0 small)
actor_is (actors.Driver driver) small = and_from (ltb 32 100) (are_above 32 (decimal driver.0)) refl (number_word driver.0 small)

hung_is : (hung : Option Actor) (words : List (List ℕ)) → IfSome hung HasSmallActor → are_words words ≡ true → are_words (hung_words hung ++ words) ≡ true
hung_is None words small is = is
hung_is (Some x) words small is =
    and_from (are_above 32 (codes "hung")) _ refl (and_from (are_above 32 (actor_word x)) _ (actor_is x small) is)

left_is : (left : Left) → IsSmall left.unserved → IfSome left.hung HasSmallActor → are_words (left_words left) ≡ true
left_is left small low = hung_is left.hung (rest_of left) low
    (and_from (are_above 32 (standing_word left.standing)) _ (standing_is left.standing)
    (and_from (are_above 32 (decimal left.unserved)) _ (number_word left.unserved small)
    (and_from (are_above 32 (waits_word (left.stored, left.pending))) true (waits_is left.stored left.pending) refl)))

-- the words of the row
abbrev rest_words : LineNo → Left → List (List ℕ)
rest_words line left = decimal line.0 ∷ codes "rest" ∷ left_words left

rest_is : (line : LineNo) (left : Left) → IsSmall line.0 → IsSmall left.unserved → IfSome left.hung HasSmallActor
    → are_words (rest_words line left) ≡ true
rest_is line left number small low =
    and_from (are_above 32 (decimal line.0)) _ (number_word line.0 number) (and_from (are_above 32 (codes "rest")) _ refl (left_is left small low))

pub rest_back : (bytes : List ℕ) (line : LineNo) (left : Left) → Spells bytes line (wants.Rest left) → SaysRest bytes line left
rest_back bytes line left is = record {
  words = ap words_of is.text ∙ words_back (decimal line.0) (codes "rest" ∷ left_words left) (rest_is line left is.number is.has_row.0 is.has_row.1);
  number = is.number;
  small = is.has_row.0;
  actor = is.has_row.1;
}

pub rest_spelled : (bytes : List ℕ) (line : LineNo) (left : Left) → SaysRest bytes line left → Spells bytes line (wants.Rest left)
rest_spelled bytes line left says = record {
  text = sym (join_with_byte-slice_split 32 bytes) ∙ ap (join_with_byte 32) says.words;
  number = says.number;
  has_row = (says.small, says.actor);
}

-- the row of an entry

pub row_spelled : (bytes : List ℕ) (line : LineNo) (e : Entry) → IsRowOf (bytes ++ codes "\n") line e → Spells bytes line (wants.Row e)
row_spelled bytes line e is = record {
  text = append_cancel_right bytes _ (codes "\n") is.text;
  number = is.number;
  has_row = is.writable;
}

pub row_back : (bytes : List ℕ) (line : LineNo) (e : Entry) → Spells bytes line (wants.Row e) → IsRowOf (bytes ++ codes "\n") line e
row_back bytes line e is = record {
  text = ap (λ (xs : List ℕ). xs ++ codes "\n") is.text;
  number = is.number;
  writable = is.has_row;
}

-- a text that is neither is no row
pub unspelled : (bytes : List ℕ) → ((line : LineNo) (e : Entry) → IsRowOf (bytes ++ codes "\n") line e → ⊥)
    → ((line : LineNo) (left : Left) → SaysRest bytes line left → ⊥) → (line : LineNo) (wanted : Wanted) → Spells bytes line wanted → ⊥
unspelled bytes no_row no_rest line (wants.Row e) is = no_row line e (row_back bytes line e is)
unspelled bytes no_row no_rest line (wants.Rest left) is = no_rest line left (rest_back bytes line left is)
