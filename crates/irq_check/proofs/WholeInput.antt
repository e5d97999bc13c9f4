-- An input isn't longer than what is read, so reading it reaches the end of the source. And if the
-- bytes that were cut off there are too long, the whole is too.
use Rattle.std.proofs.Common.{◌≡◌, ℕ, ◌+◌, ◌<◌, ◌≤◌, Bool, true, false, cond, nat_lt, Option, Some, None, Result, Ok}
use Rattle.std.proofs.Common.{Err, List, take, length, refl, sym, ap, ◌∙◌, inl, inr, ◌⊎◌, arith, length-take}
use Rattle.std.proofs.lemmas.List.{take_all, drop_all}
use Rattle.std.proofs.lemmas.Bool.{ltb-true}
use Rattle.std.proofs.lemmas.Bool.Decides.{nat_tests}
use Rattle.irq_io.specs.Whole.{TakesUpTo, met_fault}
use Rattle.irq_io.specs.declared.whole.ReadRefused.{ReadRefused}
use Rattle.irq_io.specs.declared.whole.ReadRefused.TheVariants as reads
use Rattle.board_def.specs.Seen.{BoardSeen}
use Rattle.board_stated.specs.TextOf.{whole}
use Rattle.board_words.specs.declared.faults.BoardFault.{BoardFault}
use Rattle.board_words.specs.declared.faults.FaultKind.TheVariants as faults
use Rattle.board_text.specs.declared.reading.BoardRefused.{BoardRefused}
use Rattle.board_text.specs.declared.reading.BoardRefused.TheVariants as boards
use Rattle.irq_check.specs.Checked.{Checks, IsChecked, board_and_log, checked, longest_input}
use Rattle.irq_check.specs.Ends.{IsSaid, ReadsInput, is_read_fault}
use Rattle.irq_check.specs.Parts.{parts_of}
use Rattle.irq_check.specs.declared.answers.Judgement.{Judgement}
use Rattle.program_io.specs.Refusals.{refusal_of_board, refusal_of_read}
use Rattle.program_io.specs.declared.inputs.InputRefused.TheVariants as refusals

is_longer : (bytes : List ℕ) → longest_input < length bytes → nat_lt longest_input (length bytes) ≡ true
is_longer bytes h = grind (arith, nat_tests)

pub isnt_longer : (bytes : List ℕ) → length bytes ≤ longest_input → nat_lt longest_input (length bytes) ≡ false
isnt_longer bytes h = grind (arith, nat_tests)

pub too_long : (bytes : List ℕ) → longest_input < length bytes → checked bytes ≡ Err (whole faults.TooLong)
too_long bytes h = ap (λ t. cond t (Err (whole faults.TooLong)) (board_and_log (parts_of bytes))) (is_longer bytes h)

pub not_too_long : (bytes : List ℕ) → length bytes ≤ longest_input → checked bytes ≡ board_and_log (parts_of bytes)
not_too_long bytes h = ap (λ t. cond t (Err (whole faults.TooLong)) (board_and_log (parts_of bytes))) (isnt_longer bytes h)

within_or_not : (m n : ℕ) → (m ≤ n) ⊎ (n < m)
within_or_not m n = by_test (nat_lt n m) refl
  where
    by_test : (b : Bool) → nat_lt n m ≡ b → (m ≤ n) ⊎ (n < m)
    by_test true h = inr (ltb-true n m h)
    by_test false h = inl (grind (arith, nat_tests))

differ : (x : BoardSeen × List ℕ) (fault : BoardFault) → ◌≡◌ {A = Result (BoardSeen × List ℕ) BoardFault} (Ok x) (Err fault) → ⊥
differ x fault h = cc

-- an input that is judged isn't too long
short : (bytes : List ℕ) (x : BoardSeen × List ℕ) → checked bytes ≡ Ok x → length bytes ≤ longest_input
short bytes x states = by_size (within_or_not (length bytes) longest_input)
  where
    by_size : (length bytes ≤ longest_input) ⊎ (longest_input < length bytes) → length bytes ≤ longest_input
    by_size (inl few) = few
    by_size (inr many) = absurd (differ x (whole faults.TooLong) (sym states ∙ too_long bytes many))

-- what was cut one byte past the longest input comes to the same as the whole
cut_states : (bytes : List ℕ) → checked (take (longest_input + 1) bytes) ≡ checked bytes
cut_states bytes = by_size (within_or_not (length bytes) (longest_input + 1))
  where
    by_size : (length bytes ≤ longest_input + 1) ⊎ (longest_input + 1 < length bytes) → checked (take (longest_input + 1) bytes) ≡ checked bytes
    by_size (inl few) = ap checked (take_all (longest_input + 1) bytes few)
    by_size (inr many) =
        let cut : longest_input < length (take (longest_input + 1) bytes) = omega (arith, length-take (longest_input + 1) bytes, many) in
        let all : longest_input < length bytes = omega (arith, many) in
        too_long (take (longest_input + 1) bytes) cut ∙ sym (too_long bytes all)

of_all : (bytes text : List ℕ) (r : Result (BoardSeen × List ℕ) BoardFault) → text ≡ take (longest_input + 1) bytes → checked text ≡ r → checked bytes ≡ r
of_all bytes text r cut states = sym (cut_states bytes) ∙ (ap checked (sym cut) ∙ states)

-- the whole is judged as what was read of it
whole_is : (asked : Bool) (bytes text : List ℕ) (answer : Judgement) → text ≡ take (longest_input + 1) bytes → IsChecked asked text answer
    → IsChecked asked bytes answer
whole_is asked bytes text answer cut is = record {
  board = is.board;
  log = is.log;
  states
      = of_all bytes text (Ok (is.board, is.log)) cut is.states;
  judged = is.judged;
  explained = is.explained;
}

pub content : (asked : Bool) (before now : Option (List ℕ)) (text : List ℕ) (answer : Judgement)
    → TakesUpTo (longest_input + 1) before now text → IsChecked asked text answer → ReadsInput asked before now (Ok answer)
content asked None now text answer read is = tt
content asked (Some bytes) now text answer read is =
    let all = whole_is asked bytes text answer read.0 is in
    (all, read.1 ∙ ap Some (drop_all (longest_input + 1) bytes (omega (arith, short bytes (all.board, all.log) all.states))))

pub refused : (asked : Bool) (before now : Option (List ℕ)) (text : List ℕ) (fault : BoardFault)
    → TakesUpTo (longest_input + 1) before now text → length text ≤ longest_input + 1 → checked text ≡ Err fault
    → ReadsInput asked before now (Err (refusals.Fault fault))
refused asked None now text fault read few states = record { input = text; within = few; fails = states }
refused asked (Some bytes) now text fault read few states = (of_all bytes text (Err fault) read.0 states, read.1)

pub said : (asked : Bool) (before now : Option (List ℕ)) (text : List ℕ) (answer : Judgement)
    → TakesUpTo (longest_input + 1) before now text → IsChecked asked text answer → IsSaid asked before answer
said asked None now text answer read is = record { input = text; as_told = tt; checked = is }
said asked (Some bytes) now text answer read is =
    record { input = bytes; as_told = refl; checked = whole_is asked bytes text answer read.0 is }

-- ---- what was refused

-- the bytes were
pub unread : (asked : Bool) (before now : Option (List ℕ)) (refused : ReadRefused) → ReadsInput asked before now (Err (refusal_of_read refused))
unread asked None now reads.Fault = tt
unread asked None now reads.NoMemory = tt
unread asked (Some bytes) now reads.Fault = tt
unread asked (Some bytes) now reads.NoMemory = tt

pub unread_fault : (T : Type 0) (refused : ReadRefused) → met_fault {T = T} (Err refused) ≡ is_read_fault (Err (refusal_of_read refused))
unread_fault T reads.Fault = refl
unread_fault T reads.NoMemory = refl

-- the judging was
pub unjudged : (asked : Bool) (before now : Option (List ℕ)) (text : List ℕ) (refusal : BoardRefused)
    → TakesUpTo (longest_input + 1) before now text → length text ≤ longest_input + 1 → Checks asked text (Err refusal)
    → ReadsInput asked before now (Err (refusal_of_board refusal))
unjudged asked before now text (boards.Fault fault) read few checks = refused asked before now text fault read few checks
unjudged asked None now text boards.NoMemory read few checks = tt
unjudged asked (Some bytes) now text boards.NoMemory read few checks = tt

pub unjudged_fault : (refusal : BoardRefused) → is_read_fault (Err (refusal_of_board refusal)) ≡ false
unjudged_fault (boards.Fault fault) = refl
unjudged_fault boards.NoMemory = refl
