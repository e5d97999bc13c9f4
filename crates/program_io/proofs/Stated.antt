-- A board's text isn't longer than what is read, so reading it reaches the end of the source. And
-- if the bytes that were cut off there are too long, the whole text is too.
use Rattle.std.proofs.Common.{◌≡◌, ℕ, ◌+◌, ◌<◌, ◌≤◌, Bool, true, false, cond, nat_lt, Option, Some, None, Result, Ok}
use Rattle.std.proofs.Common.{Err, List, [], take, length, refl, sym, ap, ◌∙◌, inl, inr, ◌⊎◌, arith, length-take}
use Rattle.std.proofs.lemmas.List.{take_all, drop_all}
use Rattle.std.proofs.lemmas.Bool.{ltb-true}
use Rattle.std.proofs.lemmas.Bool.Decides.{nat_tests}
use Rattle.irq_io.specs.Whole.{TakesUpTo, met_fault}
use Rattle.irq_io.specs.declared.whole.ReadRefused.{ReadRefused}
use Rattle.irq_io.specs.declared.whole.ReadRefused.TheVariants as reads
use Rattle.board_def.specs.Seen.{BoardSeen}
use Rattle.board_words.specs.declared.faults.FaultKind.TheVariants as faults
use Rattle.board_words.specs.TextLines.{text_lines}
use Rattle.board_stated.specs.TextOf.{board_of_text, board_unless, fault_of_lines, with_lines, whole, longest_text}
use Rattle.board_words.specs.declared.faults.BoardFault.{BoardFault}
use Rattle.program_io.specs.declared.inputs.InputRefused.TheVariants as refusals
use Rattle.board_text.specs.Given.{Gives}
use Rattle.board_text.specs.declared.reading.BoardRefused.{BoardRefused}
use Rattle.board_text.specs.declared.reading.BoardRefused.TheVariants as boards
use Rattle.program_io.specs.Reading.{IsStated, ReadsBoard, is_read_fault}
use Rattle.program_io.specs.Refusals.{refusal_of_board, refusal_of_read}

first_of : {A : Type 0} (b : Bool) (x y : A) → b ≡ true → cond b x y ≡ x
first_of true x y h = refl
first_of false x y h = cc

is_longer : (bytes : List ℕ) → longest_text < length bytes → nat_lt longest_text (length bytes) ≡ true
is_longer bytes h = grind (arith, nat_tests)

too_long : (bytes : List ℕ) → longest_text < length bytes → board_of_text bytes ≡ Err (whole faults.TooLong)
too_long bytes h =
    first_of (nat_lt longest_text (length bytes)) (Err (whole faults.TooLong))
    (board_unless (fault_of_lines (text_lines bytes)) (with_lines [] (text_lines bytes))) (is_longer bytes h)

at_most : (m n : ℕ) → nat_lt n m ≡ false → m ≤ n
at_most m n h = grind (arith, nat_tests)

within_or_not : (m n : ℕ) → (m ≤ n) ⊎ (n < m)
within_or_not m n = by_test (nat_lt n m) refl
  where
    by_test : (b : Bool) → nat_lt n m ≡ b → (m ≤ n) ⊎ (n < m)
    by_test true h = inr (ltb-true n m h)
    by_test false h = inl (at_most m n h)

differ : (b : BoardSeen) (fault : BoardFault) → ◌≡◌ {A = Result BoardSeen BoardFault} (Ok b) (Err fault) → ⊥
differ b fault h = cc

-- the text of a board isn't too long
short : (bytes : List ℕ) (b : BoardSeen) → board_of_text bytes ≡ Ok b → length bytes ≤ longest_text
short bytes b states = by_size (within_or_not (length bytes) longest_text)
  where
    by_size : (length bytes ≤ longest_text) ⊎ (longest_text < length bytes) → length bytes ≤ longest_text
    by_size (inl few) = few
    by_size (inr many) = absurd (differ b (whole faults.TooLong) (sym states ∙ too_long bytes many))

-- what was cut one byte past the longest text states the same as the whole
pub cut_states : (bytes : List ℕ) → board_of_text (take (longest_text + 1) bytes) ≡ board_of_text bytes
cut_states bytes = by_size (within_or_not (length bytes) (longest_text + 1))
  where
    by_size : (length bytes ≤ longest_text + 1) ⊎ (longest_text + 1 < length bytes) → board_of_text (take (longest_text + 1) bytes) ≡ board_of_text bytes
    by_size (inl few) = ap board_of_text (take_all (longest_text + 1) bytes few)
    by_size (inr many) =
        let cut : longest_text < length (take (longest_text + 1) bytes) = omega (arith, length-take (longest_text + 1) bytes, many) in
        let all : longest_text < length bytes = omega (arith, many) in
        too_long (take (longest_text + 1) bytes) cut ∙ sym (too_long bytes all)

pub content : (before now : Option (List ℕ)) (text : List ℕ) (b : BoardSeen)
    → TakesUpTo (longest_text + 1) before now text → board_of_text text ≡ Ok b → ReadsBoard before now (Ok b)
content None now text b read states = tt
content (Some bytes) now text b read states =
    let of_all : board_of_text bytes ≡ Ok b = sym (cut_states bytes) ∙ (ap board_of_text (sym read.0) ∙ states) in
    (of_all, read.1 ∙ ap Some (drop_all (longest_text + 1) bytes (omega (arith, short bytes b of_all))))

pub refused : (before now : Option (List ℕ)) (text : List ℕ) (fault : BoardFault)
    → TakesUpTo (longest_text + 1) before now text → length text ≤ longest_text + 1 → board_of_text text ≡ Err fault
    → ReadsBoard before now (Err (refusals.Fault fault))
refused None now text fault read within states = record { text = text; within = within; fails = states }
refused (Some bytes) now text fault read within states = (sym (cut_states bytes) ∙ (ap board_of_text (sym read.0) ∙ states), read.1)

pub stated : (before now : Option (List ℕ)) (text : List ℕ) (b : BoardSeen)
    → TakesUpTo (longest_text + 1) before now text → board_of_text text ≡ Ok b → IsStated before b
stated None now text b read states = record { text = text; as_told = tt; states = states }
stated (Some bytes) now text b read states = record { text = bytes; as_told = refl; states = sym (cut_states bytes) ∙ (ap board_of_text (sym read.0) ∙ states) }

-- ---- what was refused

-- the bytes were
pub unread : (before now : Option (List ℕ)) (refused : ReadRefused) → ReadsBoard before now (Err (refusal_of_read refused))
unread None now reads.Fault = tt
unread None now reads.NoMemory = tt
unread (Some bytes) now reads.Fault = tt
unread (Some bytes) now reads.NoMemory = tt

pub unread_fault : (T : Type 0) (refused : ReadRefused) → met_fault {T = T} (Err refused) ≡ is_read_fault (Err (refusal_of_read refused))
unread_fault T reads.Fault = refl
unread_fault T reads.NoMemory = refl

-- the board was
pub unstated : (before now : Option (List ℕ)) (text : List ℕ) (refusal : BoardRefused)
    → TakesUpTo (longest_text + 1) before now text → length text ≤ longest_text + 1 → Gives (board_of_text text) (Err refusal)
    → ReadsBoard before now (Err (refusal_of_board refusal))
unstated before now text (boards.Fault fault) read within gives = refused before now text fault read within gives
unstated None now text boards.NoMemory read within gives = tt
unstated (Some bytes) now text boards.NoMemory read within gives = tt

pub unstated_fault : (refusal : BoardRefused) → is_read_fault (Err (refusal_of_board refusal)) ≡ false
unstated_fault (boards.Fault fault) = refl
unstated_fault boards.NoMemory = refl
