-- A row cut at its spaces gives its words back, and a text cut at line feeds gives back the rows
-- that were put together.
use Rattle.std.proofs.Common.{◌≡◌, ℕ, ◌+◌, ◌%◌, Bool, true, false, eqb, ltb, nat_lt}
use Rattle.std.proofs.Common.{List, [], ◌∷◌, ◌++◌, codes, decimal, refl, ap, ◌∙◌, arith}
use Rattle.std.specs.List.{join_with_byte, slice_split, onto_first, list_all}
use Rattle.std.proofs.lemmas.Bool.{and_from, and_parts, ltb-true, lt-ltb, ne_eqb}
use Rattle.std.proofs.lemmas.Fmt.{decimal_by_steps}
use Rattle.std.proofs.lemmas.List.Folds.{list_all-append}
use Rattle.std.proofs.lemmas.List.Splits.{slice_split-cons_yes, slice_split-cons_no}
use Rattle.irq_base.specs.declared.calls.Flags.{Flags}
use Rattle.irq_base.specs.declared.devices.Answer.{Answer}
use Rattle.irq_base.specs.declared.devices.Answer.TheVariants as answers
use Rattle.irq_base.specs.declared.entries.Entry.{Entry}
use Rattle.irq_base.specs.declared.entries.Entry.TheVariants as by
use Rattle.irq_base.specs.declared.entries.CpuEntry.TheVariants as cpus
use Rattle.irq_base.specs.declared.entries.ThreadEntry.TheVariants as threads
use Rattle.irq_base.specs.declared.entries.DriverEntry.TheVariants as drivers
use Rattle.irq_base.specs.declared.entries.CallEntry.{CallEntry}
use Rattle.irq_base.specs.declared.entries.CallEntry.TheVariants as called
use Rattle.irq_base.specs.declared.entries.Errno.{Errno}
use Rattle.irq_base.specs.declared.entries.Errno.TheVariants as errnos
use Rattle.irq_base.specs.declared.entries.Way.{Way}
use Rattle.irq_base.specs.declared.entries.Way.TheVariants as ways
use Rattle.irq_base.specs.declared.entries.TakeAnswer.{TakeAnswer}
use Rattle.irq_base.specs.declared.entries.TakeAnswer.TheVariants as takes
use Rattle.irq_base.specs.declared.entries.Note.{Note}
use Rattle.irq_base.specs.declared.entries.Note.TheVariants as notes
use Rattle.irq_base.specs.declared.entries.Resend.{Resend}
use Rattle.irq_base.specs.declared.entries.Resend.TheVariants as resends
use Rattle.irq_base.specs.declared.entries.EnableAnswer.{EnableAnswer}
use Rattle.irq_base.specs.declared.entries.EnableAnswer.TheVariants as enables
use Rattle.irq_base.specs.declared.entries.Opened.{Opened}
use Rattle.irq_base.specs.declared.entries.Opened.TheVariants as openings
use Rattle.irq_base.specs.declared.entries.LinkAnswer.{LinkAnswer}
use Rattle.irq_base.specs.declared.entries.LinkAnswer.TheVariants as links
use Rattle.irq_base.specs.declared.entries.UnlinkAnswer.{UnlinkAnswer}
use Rattle.irq_base.specs.declared.entries.UnlinkAnswer.TheVariants as unlinks
use Rattle.irq_base.specs.declared.entries.AffinityAnswer.{AffinityAnswer}
use Rattle.irq_base.specs.declared.entries.AffinityAnswer.TheVariants as affinities
use Rattle.irq_base.specs.declared.numbers.LineNo.{LineNo}
use Rattle.log_text.specs.EntryWords.{entry_words, call_words}
use Rattle.log_text.specs.Formed.{IsSmall, HasSmallCall, IsWritable}
use Rattle.log_text.specs.Words.{way_word, take_word, answer_word, loop_word}
use Rattle.log_text.specs.Words.{mask_word, note_word, bit_word, resend_word, error_word, flags_word, enable_words}
use Rattle.log_text.specs.Words.{opened_words, link_words, unlink_word, affinity_words, yes_word, edge_words, handled_words}

-- each byte is above n
abbrev pub are_above : ℕ → List ℕ → Bool
are_above n bytes = list_all (λ b. ltb n b) bytes

-- the byte is a space
abbrev pub is_space : ℕ → Bool
is_space b = eqb b 32

-- the words between the spaces
abbrev pub words_of : List ℕ → List (List ℕ)
words_of row = slice_split is_space row

apart : (n b : ℕ) → ltb n b ≡ true → eqb b n ≡ false
apart n b h = let less = ltb-true n b h in ne_eqb b n (λ same. omega (arith, less, same))

last_word : (word : List ℕ) → are_above 32 word ≡ true → words_of word ≡ word ∷ []
last_word [] h = refl
last_word (b ∷ bs) h =
    let both = and_parts (ltb 32 b) (are_above 32 bs) h in
    slice_split-cons_no is_space b bs (apart 32 b both.0) ∙ ap (onto_first b) (last_word bs both.1)

first_word : (word rest : List ℕ) → are_above 32 word ≡ true → words_of (word ++ 32 ∷ rest) ≡ word ∷ words_of rest
first_word [] rest h = slice_split-cons_yes is_space 32 rest refl
first_word (b ∷ bs) rest h =
    let both = and_parts (ltb 32 b) (are_above 32 bs) h in
    slice_split-cons_no is_space b (bs ++ 32 ∷ rest) (apart 32 b both.0) ∙ ap (onto_first b) (first_word bs rest both.1)

-- none of the words has a space or a line feed
abbrev pub are_words : List (List ℕ) → Bool
are_words words = list_all (are_above 32) words

pub words_back : (word : List ℕ) (words : List (List ℕ)) → are_words (word ∷ words) ≡ true → words_of (join_with_byte 32 (word ∷ words)) ≡ word ∷ words
words_back word [] h = last_word word (and_parts (are_above 32 word) true h).0
words_back word (next ∷ words) h =
    let both = and_parts (are_above 32 word) (are_words (next ∷ words)) h in
    first_word word (join_with_byte 32 (next ∷ words)) both.0 ∙ ap (λ ws. word ∷ ws) (words_back next words both.1)

-- the words of entries

digits_more : (n : ℕ) (ds : List ℕ) → are_above 32 ds ≡ true → are_above 32 (ds ++ (48 + n % 10) ∷ []) ≡ true
digits_more n ds h =
    list_all-append (λ b. ltb 32 b) ds ((48 + n % 10) ∷ [])
    ∙ and_from (are_above 32 ds) (are_above 32 ((48 + n % 10) ∷ [])) h (and_from (ltb 32 (48 + n % 10)) true (lt-ltb 32 (48 + n % 10) (omega arith)) refl)

pub number_word : (n : ℕ) → IsSmall n → are_above 32 (decimal n) ≡ true
number_word n small =
    decimal_by_steps (λ m ds. are_above 32 ds ≡ true)
    (λ m low. and_from (ltb 32 (48 + m)) true (lt-ltb 32 (48 + m) (omega arith)) refl)
    (λ m ds low h. digits_more m ds h) n (omega (arith, small))

way_is : (x : Way) → are_above 32 (way_word x) ≡ true
way_is ways.Line = refl
way_is ways.Resend = refl

take_is : (x : TakeAnswer) → are_above 32 (take_word x) ≡ true
take_is takes.Handle = refl
take_is takes.Busy = refl
take_is takes.Off = refl

answer_is : (x : Answer) → are_above 32 (answer_word x) ≡ true
answer_is answers.Nothing = refl
answer_is answers.Handled = refl
answer_is answers.Wake = refl

loop_is : (x : Bool) → are_above 32 (loop_word x) ≡ true
loop_is true = refl
loop_is false = refl

mask_is : (x : Bool) → are_above 32 (mask_word x) ≡ true
mask_is true = refl
mask_is false = refl

note_is : (x : Note) → are_above 32 (note_word x) ≡ true
note_is notes.Quiet = refl
note_is notes.Counted = refl
note_is notes.Killed = refl

bit_is : (x : Bool) → are_above 32 (bit_word x) ≡ true
bit_is true = refl
bit_is false = refl

flags_by : (s o n : Bool) → are_above 32 (flags_word (record { shared = s; oneshot = o; noauto = n })) ≡ true
flags_by true true true = refl
flags_by true true false = refl
flags_by true false true = refl
flags_by true false false = refl
flags_by false true true = refl
flags_by false true false = refl
flags_by false false true = refl
flags_by false false false = refl

flags_is : (x : Flags) → are_above 32 (flags_word x) ≡ true
flags_is x = flags_by x.shared x.oneshot x.noauto

unlink_is : (x : UnlinkAnswer) → are_above 32 (unlink_word x) ≡ true
unlink_is unlinks.NotThere = refl
unlink_is (unlinks.Unlinked true) = refl
unlink_is (unlinks.Unlinked false) = refl

yes_is : (x : Bool) → are_above 32 (yes_word x) ≡ true
yes_is true = refl
yes_is false = refl

edge_are : (x : Bool) → are_words (edge_words x) ≡ true
edge_are true = refl
edge_are false = refl

handled_are : (x served : Bool) → are_words (handled_words x served) ≡ true
handled_are true true = refl
handled_are true false = refl
handled_are false true = refl
handled_are false false = refl

resend_are : (x : Resend) → are_words (resend_word x ∷ []) ≡ true
resend_are resends.No = refl
resend_are resends.Chip = refl
resend_are resends.Soft = refl

error_are : (x : Errno) → are_words (error_word x ∷ []) ≡ true
error_are errnos.Inval = refl
error_are errnos.Busy = refl

enable_are : (x : EnableAnswer) → are_words (enable_words x) ≡ true
enable_are enables.Unbalanced = refl
enable_are enables.Lowered = refl
enable_are (enables.Started resend) = resend_are resend

opened_are : (x : Opened) → are_words (opened_words x) ≡ true
opened_are openings.No = refl
opened_are openings.Unbalanced = refl
opened_are openings.Lowered = refl
opened_are (openings.Started resend) = resend_are resend

link_are : (x : LinkAnswer) (o : Opened) → are_words (link_words x o) ≡ true
link_are links.Linked o = opened_are o
link_are (links.Refused errno) o = error_are errno

affinity_are : (x : AffinityAnswer) → are_words (affinity_words x) ≡ true
affinity_are affinities.Now = refl
affinity_are affinities.Later = refl
affinity_are (affinities.Refused errno) = error_are errno

-- the words are such
record AreWords (words : List (List ℕ)) : Type 0 where
  are : are_words words ≡ true

none : AreWords []
none = record { are = refl }

-- one word, and others
more : (word : List ℕ) (words : List (List ℕ)) → are_above 32 word ≡ true → AreWords words → AreWords (word ∷ words)
more word words h i = record { are = and_from (are_above 32 word) (are_words words) h i.are }

one : (word : List ℕ) → are_above 32 word ≡ true → AreWords (word ∷ [])
one word h = more word [] h none

number_is : (n : ℕ) (words : List (List ℕ)) → IsSmall n → AreWords words → AreWords (decimal n ∷ words)
number_is n words small i = more (decimal n) words (number_word n small) i

-- a letter and a number, and others
who_is : (n letter : ℕ) (words : List (List ℕ)) → IsSmall n → ltb 32 letter ≡ true → (verb : List ℕ)
    → are_above 32 verb ≡ true → AreWords words → AreWords ((letter ∷ decimal n) ∷ verb ∷ words)
who_is n letter words small h verb v i = more (letter ∷ decimal n) (verb ∷ words)
    (and_from (ltb 32 letter) (are_above 32 (decimal n)) h (number_word n small)) (more verb words v i)

-- a call, whoever makes it
call_is : (call : CallEntry) → HasSmallCall call → AreWords (call_words call)
call_is called.Disable s = one (codes "disable") refl
call_is called.HardClear s = one (codes "hardclear") refl
call_is called.Synced s = one (codes "synced") refl
call_is (called.Enable answer) s = more (codes "enable") _ refl (record { are = enable_are answer })
call_is (called.Unlink answer dev) s = more (codes "unlink") _ refl (number_is dev.0 _ s (one (unlink_word answer) (unlink_is answer)))
call_is (called.Freed dev) s = more (codes "freed") _ refl (number_is dev.0 [] s none)
call_is (called.Wake woken dev) s = more (codes "wake") _ refl (number_is dev.0 _ s (one (yes_word woken) (yes_is woken)))
call_is (called.Quiet dev) s = more (codes "quiet") _ refl (number_is dev.0 [] s none)
call_is (called.Arm edge dev) s = more (codes "arm") _ refl (number_is dev.0 _ s (one (yes_word edge) (yes_is edge)))
call_is (called.Serve dev served) s = more (codes "serve") _ refl (number_is dev.0 _ s.0 (number_is served [] s.1 none))

-- a letter and a number before a call
caller_is : (n letter : ℕ) (call : CallEntry) → IsSmall n → ltb 32 letter ≡ true → HasSmallCall call
    → AreWords ((letter ∷ decimal n) ∷ call_words call)
caller_is n letter call small h s = more (letter ∷ decimal n) (call_words call)
    (and_from (ltb 32 letter) (are_above 32 (decimal n)) h (number_word n small)) (call_is call s)

entry_is : (e : Entry) → IsWritable e → AreWords (entry_words e)
entry_is (by.Driver driver (drivers.Ask edge dev)) w = who_is driver.0 100 _ w.small.0 refl (codes "ask") refl
    (number_is dev.0 _ w.small.1 (record { are = edge_are edge }))
entry_is (by.Cpu cpu (cpus.Take way answer)) w = who_is cpu.0 99 _ w.small.0 refl (codes "take") refl
    (more (way_word way) _ (way_is way) (one (take_word answer) (take_is answer)))
entry_is (by.Cpu cpu (cpus.Begin dev)) w = who_is cpu.0 99 _ w.small.0 refl (codes "begin") refl (number_is dev.0 [] w.small.1 none)
entry_is (by.Cpu cpu (cpus.Return answer dev served)) w =
    who_is cpu.0 99 _ w.small.0 refl (codes "return") refl
    (number_is dev.0 _ w.small.1.0 (more (answer_word answer) _ (answer_is answer)
    (number_is served [] w.small.1.1 none)))
entry_is (by.Cpu cpu (cpus.End again unmask note)) w =
    who_is cpu.0 99 _ w.small.0 refl (codes "end") refl (more (loop_word again) _ (loop_is again)
    (more (mask_word unmask) _ (mask_is unmask) (one (note_word note) (note_is note))))
entry_is (by.Thread dev threads.Begin) w = who_is dev.0 116 _ w.small.0 refl (codes "begin") refl none
entry_is (by.Thread dev (threads.Return handled served)) w = who_is dev.0 116 _ w.small.0 refl (codes "return") refl
    (number_is served _ w.small.1 (record { are = handled_are handled (nat_lt 0 served) }))
entry_is (by.Thread dev (threads.Finish kept unmask)) w = who_is dev.0 116 _ w.small.0 refl (codes "finish") refl
    (more (bit_word kept) _ (bit_is kept) (one (mask_word unmask) (mask_is unmask)))
entry_is (by.Thread dev threads.Done) w = who_is dev.0 116 _ w.small.0 refl (codes "done") refl none
entry_is (by.Driver driver (drivers.Request flags answer opened dev)) w =
    who_is driver.0 100 _ w.small.0 refl (codes "request") refl
    (number_is dev.0 _ w.small.1 (more (flags_word flags) _ (flags_is flags)
    (record { are = link_are answer opened })))
entry_is (by.Driver driver (drivers.Affinity answer mask)) w = who_is driver.0 100 _ w.small.0 refl (codes "affinity") refl
    (number_is mask _ w.small.1 (record { are = affinity_are answer }))
entry_is (by.Driver driver (drivers.Moment moment)) w = who_is driver.0 100 _ w.small.0 refl (codes "moment") refl (number_is moment [] w.small.1 none)
entry_is (by.CpuCall cpu call) w = caller_is cpu.0 99 call w.small.0 refl w.small.1
entry_is (by.ThreadCall dev call) w = caller_is dev.0 116 call w.small.0 refl w.small.1
entry_is (by.DriverCall driver call) w = caller_is driver.0 100 call w.small.0 refl w.small.1

-- the words of a row, with the line's number
abbrev pub row_words : LineNo → Entry → List (List ℕ)
row_words line e = decimal line.0 ∷ entry_words e

row_is : (line : LineNo) (e : Entry) → IsSmall line.0 → IsWritable e → are_words (row_words line e) ≡ true
row_is line e small w = (number_is line.0 (entry_words e) small (entry_is e w)).are

-- a row without its line feed, cut at its spaces
pub row_back : (line : LineNo) (e : Entry) → IsSmall line.0 → IsWritable e → words_of (join_with_byte 32 (row_words line e)) ≡ row_words line e
row_back line e small w = words_back (decimal line.0) (entry_words e) (row_is line e small w)

-- cut at line feeds

up : (b : ℕ) → ltb 32 b ≡ true → ltb 10 b ≡ true
up b h = let less = ltb-true 32 b h in lt-ltb 10 b (omega (arith, less))

word_within : (word : List ℕ) → are_above 32 word ≡ true → are_above 10 word ≡ true
word_within [] h = refl
word_within (b ∷ bs) h = let both = and_parts (ltb 32 b) (are_above 32 bs) h in and_from (ltb 10 b) (are_above 10 bs) (up b both.0) (word_within bs both.1)

joined_within : (word : List ℕ) (words : List (List ℕ)) → are_words (word ∷ words) ≡ true → are_above 10 (join_with_byte 32 (word ∷ words)) ≡ true
joined_within word [] h = word_within word (and_parts (are_above 32 word) true h).0
joined_within word (next ∷ words) h =
    let both = and_parts (are_above 32 word) (are_words (next ∷ words)) h in
    list_all-append (λ b. ltb 10 b) word (32 ∷ join_with_byte 32 (next ∷ words))
    ∙ and_from (are_above 10 word) (are_above 10 (join_with_byte 32 (next ∷ words))) (word_within word both.0) (joined_within next words both.1)

-- a row has no line feed but its last byte
pub row_within : (line : LineNo) (e : Entry) → IsSmall line.0 → IsWritable e → are_above 10 (join_with_byte 32 (row_words line e)) ≡ true
row_within line e small w = joined_within (decimal line.0) (entry_words e) (row_is line e small w)

pub same_cut : (a b x y : List ℕ) → are_above 10 a ≡ true → are_above 10 b ≡ true → a ++ 10 ∷ x ≡ b ++ 10 ∷ y → (a ≡ b) × (x ≡ y)
same_cut [] [] x y h i same = (refl, cc)
same_cut [] (b ∷ bs) x y h i same =
    let less = ltb-true 10 b (and_parts (ltb 10 b) (are_above 10 bs) i).0 in let first : 10 ≡ b = cc in absurd (omega (arith, less, first))
same_cut (a ∷ xs) [] x y h i same =
    let less = ltb-true 10 a (and_parts (ltb 10 a) (are_above 10 xs) h).0 in let first : a ≡ 10 = cc in absurd (omega (arith, less, first))
same_cut (a ∷ xs) (b ∷ bs) x y h i same =
    let first : a ≡ b = cc in
    let rest : xs ++ 10 ∷ x ≡ bs ++ 10 ∷ y = cc in
    let cut = same_cut xs bs x y (and_parts (ltb 10 a) (are_above 10 xs) h).1 (and_parts (ltb 10 b) (are_above 10 bs) i).1 rest in
    (ap (λ c. c ∷ xs) first ∙ ap (λ cs. b ∷ cs) cut.0, cut.1)
