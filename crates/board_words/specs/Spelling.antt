-- How numbers, picks and answers are spelled.
use Rattle.std.specs.Prelude.{ℕ, ◌+◌, ◌-◌, ◌*◌, Bool, false, not, ◌&&◌, ◌==◌, nat_le, nat_lt}
use Rattle.std.specs.Prelude.{if◌then◌else◌, Option, Some, None, List, [], ◌∷◌, length, codes}
use Rattle.std.specs.List.{list_all}
use Rattle.std.specs.Str.{bytes_eq}
use Rattle.board_def.specs.Names.{is_digit}
use Rattle.irq_base.specs.declared.entries.Actor.{Actor}
use Rattle.irq_base.specs.declared.entries.Actor.TheVariants as actors
use Rattle.irq_base.specs.declared.devices.Part.{Part}
use Rattle.irq_base.specs.declared.devices.Part.TheVariants as parts
use Rattle.irq_base.specs.declared.devices.ToldAnswer.{ToldAnswer}
use Rattle.irq_base.specs.declared.devices.ToldAnswer.TheVariants as answers
use Rattle.board_words.specs.declared.statements.AnswerWord.{AnswerWord}
use Rattle.board_words.specs.declared.statements.PickWord.{PickWord}

-- the number whose digits are those of n, followed by these
abbrev pub value_after : ℕ → List ℕ → ℕ
value_after n [] = n
value_after n (b ∷ bs) = value_after (10 * n + (b - 48)) bs

abbrev pub value_of : List ℕ → ℕ
value_of word = value_after 0 word

abbrev pub begins_with_zero : List ℕ → Bool
begins_with_zero [] = false
begins_with_zero (b ∷ bs) = b == 48

-- 1 to 10 digits without a leading zero
abbrev pub is_decimal : List ℕ → Bool
is_decimal word =
    (list_all is_digit word && (nat_le 1 (length word) && nat_le (length word) 10))
    && not (begins_with_zero word && nat_lt 1 (length word))

-- the number from low to high that the word spells
abbrev pub number_between : ℕ → ℕ → List ℕ → Option ℕ
number_between low high word =
    if is_decimal word && (nat_le low (value_of word) && nat_le (value_of word) high)
    then Some (value_of word) else None

abbrev pub is_star : ℕ → Bool
is_star b = b == 42

-- the bytes before the first `*`
abbrev pub before_star : List ℕ → List ℕ
before_star [] = []
before_star (b ∷ bs) = if is_star b then [] else b ∷ before_star bs

-- the bytes after the first `*`
abbrev pub after_star : List ℕ → Option (List ℕ)
after_star [] = None
after_star (b ∷ bs) = if is_star b then Some bs else after_star bs

-- how many picks the word counts for: one if there is no number
abbrev pub times_of : Option (List ℕ) → Option ℕ
times_of None = Some 1
times_of (Some word) = number_between 1 65535 word

abbrev pub numbered : (ℕ → Actor) → Option ℕ → Option Actor
numbered which (Some n) = Some (which n)
numbered which None = None

-- `t` and a device's number, `c` and a processor's, `d` and a driver's
abbrev pub picked_of : List ℕ → Option Actor
picked_of [] = None
picked_of (b ∷ bs) =
    if b == 116 then numbered (λ n. actors.Thread (record { 0 = n })) (number_between 1 65535 bs)
    else if b == 99 then numbered (λ n. actors.Cpu (record { 0 = n })) (number_between 0 31 bs)
    else if b == 100
    then numbered (λ n. actors.Driver (record { 0 = n })) (number_between 1 65535 bs)
    else None

abbrev pub both_of : Option Actor → Option ℕ → Option PickWord
both_of (Some who) (Some times) = Some (record { who = who; times = times })
both_of _ _ = None

-- the pick that the word spells
abbrev pub pick_of : List ℕ → Option PickWord
pick_of word = both_of (picked_of (before_star word)) (times_of (after_star word))

-- a thread wakes nobody
abbrev pub wake_by : Part → Option ToldAnswer
wake_by parts.Primary = Some answers.Wake
wake_by parts.Thread = None

-- the answer of that part that the word names
abbrev pub answer_named : Part → List ℕ → Option ToldAnswer
answer_named part word =
    if bytes_eq word (codes "handled") then Some answers.Handled
    else if bytes_eq word (codes "nothing") then Some answers.Nothing
    else if bytes_eq word (codes "claims") then Some answers.Claims
    else if bytes_eq word (codes "wake") then wake_by part
    else None

abbrev pub answered : Option ToldAnswer → Option ℕ → Option AnswerWord
answered (Some answer) (Some times) = Some (record { answer = answer; times = times })
answered _ _ = None

-- the answer that the word spells, and in how many runs
abbrev pub answer_of : Part → List ℕ → Option AnswerWord
answer_of part word = answered (answer_named part (before_star word)) (times_of (after_star word))
