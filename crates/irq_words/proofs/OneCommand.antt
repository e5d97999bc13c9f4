-- Words ask for one command at most: the command can be read off them.
use Rattle.std.proofs.Common.{rules, ◌≡◌, ℕ, Bool, true, false, cond, List, [], ◌∷◌, map, take, drop, codes, get_or, refl, sym, ap, ◌∙◌, arith}
use Rattle.std.specs.List.{AllByRecursion, list_all}
use Rattle.std.specs.Str.{bytes_eq}
use Rattle.std.proofs.lemmas.Fmt.{digits_value-decimal}
use Rattle.std.proofs.lemmas.Str.Parse.{IsNumeralModel, numerals_by_fold}
use Rattle.board_def.specs.Names.{is_digit}
use Rattle.board_words.specs.Spelling.{value_of, value_after}
use Rattle.irq_base.specs.declared.numbers.CpuNo.{CpuNo}
use Rattle.irq_base.specs.declared.numbers.LineNo.{LineNo}
use Rattle.irq_hotplug.specs.declared.events.Event.{Event}
use Rattle.irq_hotplug.specs.declared.events.Event.TheVariants as events
use Rattle.irq_words.specs.Events.{IsEvent, event_word}
use Rattle.irq_words.specs.Lines.{RiseAfter, line_word}
use Rattle.irq_words.specs.Words.{Asks, IsInRange, words_of}
use Rattle.irq_words.specs.declared.Command.{Command}
use Rattle.irq_words.specs.declared.Command.TheVariants as commands

abbrev AreDigits : List ℕ → Type 0
AreDigits word = list_all is_digit word ≡ true

own : IsNumeralModel AreDigits value_of
own = numerals_by_fold AreDigits (search rules) value_after (search rules)

abbrev line_no : ℕ → LineNo
line_no n = record { 0 = n }

abbrev cpu_no : ℕ → CpuNo
cpu_no n = record { 0 = n }

abbrev line_of : List ℕ → LineNo
line_of word = line_no (value_of word)

abbrev event_of : List ℕ → Event
event_of word =
    cond (bytes_eq (take 4 word) (codes "off:")) (events.Off (cpu_no (value_of (drop 4 word))))
    (events.On (cpu_no (value_of (drop 3 word))))

lines_back : (last : ℕ) (lines : List LineNo) → RiseAfter last lines → map line_of (map line_word lines) ≡ lines
lines_back last [] h = refl
lines_back last (line ∷ lines) h =
    ap (λ n. line_no n ∷ map line_of (map line_word lines)) (digits_value-decimal own line.0 (omega (arith, h.0.1)))
    ∙ ap (λ ls. line ∷ ls) (lines_back line.0 lines h.1)

event_back : (event : Event) → IsEvent event → event_of (event_word event) ≡ event
event_back (events.Off cpu) h = ap (λ n. events.Off (cpu_no n)) (digits_value-decimal own cpu.0 (omega (arith, h)))
event_back (events.On cpu) h = ap (λ n. events.On (cpu_no n)) (digits_value-decimal own cpu.0 (omega (arith, h)))

events_back : (es : List Event) → AllByRecursion IsEvent es → map event_of (map event_word es) ≡ es
events_back [] h = refl
events_back (e ∷ es) h =
    ap (λ x. x ∷ map event_of (map event_word es)) (event_back e h.0) ∙ ap (λ xs. e ∷ xs) (events_back es h.1)

abbrev is_some : List (List ℕ) → Bool
is_some [] = false
is_some (word ∷ words) = true

abbrev number_of : List (List ℕ) → ℕ
number_of words = value_of (get_or words 0 [])

abbrev by_first : List ℕ → List (List ℕ) → Command
by_first first rest =
    cond (bytes_eq first (codes "run")) (commands.Run (is_some rest))
    (cond (bytes_eq first (codes "play")) (commands.Play (is_some rest))
    (cond (bytes_eq first (codes "check")) (commands.Check (is_some rest))
    (cond (bytes_eq first (codes "gen")) (commands.Gen (number_of rest))
    (cond (bytes_eq first (codes "chained")) commands.Chained
    (cond (bytes_eq first (codes "hotplug")) (commands.Hotplug (number_of rest) (map event_of (drop 1 rest)))
    (commands.Sleep (map line_of rest)))))))

-- the command that words have, if they are a command's
abbrev read : List (List ℕ) → Command
read [] = commands.Chained
read (first ∷ rest) = by_first first rest

read_back : (command : Command) → IsInRange command → read (words_of command) ≡ command
read_back (commands.Run false) h = refl
read_back (commands.Run true) h = refl
read_back (commands.Play false) h = refl
read_back (commands.Play true) h = refl
read_back (commands.Check false) h = refl
read_back (commands.Check true) h = refl
read_back (commands.Gen n) h = ap commands.Gen (digits_value-decimal own n (omega (arith, h)))
read_back commands.Chained h = refl
read_back (commands.Hotplug vectors es) h =
    ap (λ n. commands.Hotplug n (map event_of (map event_word es))) (digits_value-decimal own vectors (omega (arith, h.1)))
    ∙ ap (commands.Hotplug vectors) (events_back es h.2.each)
read_back (commands.Sleep lines) h = ap commands.Sleep (lines_back 0 lines h.rise)

pub one_command : (words : List (List ℕ)) (one other : Command) → Asks words one → Asks words other → one ≡ other
one_command words one other a b =
    sym (read_back one a.in_range) ∙ (ap read (sym a.words_are ∙ b.words_are) ∙ read_back other b.in_range)
