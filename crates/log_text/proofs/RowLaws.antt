-- Different entries have different rows, and different histories different texts.
use Rattle.std.proofs.Common.{◌≡◌, ℕ, cond, eqb, List, [], ◌∷◌, ◌++◌}
use Rattle.std.proofs.Common.{codes, decimal, drop, get_or, append_assoc, refl, ap, ◌∙◌, sym, arith, nat_lt}
use Rattle.std.specs.List.{All, join_with_byte, AllByRecursion}
use Rattle.std.proofs.lemmas.List.Elements.{recursion_from_All}
use Rattle.std.specs.Str.Parse.{digits_value}
use Rattle.std.proofs.lemmas.Fmt.{decimal_injective}
use Rattle.std.proofs.lemmas.List.{append_cancel_right}
use Rattle.irq_base.specs.declared.entries.Entry.{Entry}
use Rattle.irq_base.specs.declared.entries.Entry.TheVariants as by
use Rattle.irq_base.specs.declared.entries.CpuEntry.TheVariants as cpus
use Rattle.irq_base.specs.declared.entries.ThreadEntry.TheVariants as threads
use Rattle.irq_base.specs.declared.entries.DriverEntry.TheVariants as drivers
use Rattle.irq_base.specs.declared.entries.CallEntry.{CallEntry}
use Rattle.irq_base.specs.declared.entries.CallEntry.TheVariants as called
use Rattle.irq_base.specs.declared.entries.Opened.TheVariants as openings
use Rattle.irq_base.specs.declared.entries.LinkAnswer.TheVariants as links
use Rattle.irq_base.specs.declared.numbers.CpuNo.{CpuNo}
use Rattle.irq_base.specs.declared.numbers.DevNo.{DevNo}
use Rattle.irq_base.specs.declared.numbers.DriverNo.{DriverNo}
use Rattle.irq_base.specs.declared.numbers.LineNo.{LineNo}
use Rattle.log_text.proofs.Back.{is, at, way_at, take_at, answer_at, loop_at, mask_at, note_at, bit_at}
use Rattle.log_text.proofs.Back.{flags_at, unlink_at, enable_at, link_at, linked_at, affinity_at, way_back}
use Rattle.log_text.proofs.Back.{take_back, answer_back, loop_back, mask_back, note_back, bit_back, flags_back}
use Rattle.log_text.proofs.Back.{unlink_back, enable_back, opened_back, link_back, affinity_back, number_back}
use Rattle.log_text.proofs.Back.{yes_at, edge_at, handled_at, yes_back, edge_back, handled_back}
use Rattle.log_text.proofs.Splitting.{words_of, row_words, row_back, row_within, same_cut}
use Rattle.log_text.specs.EntryWords.{entry_words, call_words}
use Rattle.log_text.specs.Formed.{IsSmall, HasSmallCall, IsWritable, IsRowOf}
use Rattle.log_text.specs.Words.{handled_words}
use Rattle.log_text.specs.Rows.{entry_text, history_text}

abbrev number_at : List (List ℕ) → ℕ → ℕ
number_at words i = digits_value 10 (at words i)

abbrev dev_at : List (List ℕ) → ℕ → DevNo
dev_at words i = record { 0 = number_at words i }

abbrev call_at : List ℕ → List (List ℕ) → CallEntry
call_at verb args =
    cond (is verb (codes "disable")) called.Disable
    (cond (is verb (codes "hardclear")) called.HardClear
    (cond (is verb (codes "synced")) called.Synced
    (cond (is verb (codes "enable")) (called.Enable (enable_at args))
    (cond (is verb (codes "unlink")) (called.Unlink (unlink_at (at args 1)) (dev_at args 0))
    (cond (is verb (codes "freed")) (called.Freed (dev_at args 0))
    (cond (is verb (codes "wake")) (called.Wake (yes_at (at args 1)) (dev_at args 0))
    (cond (is verb (codes "quiet")) (called.Quiet (dev_at args 0))
    (cond (is verb (codes "arm")) (called.Arm (yes_at (at args 1)) (dev_at args 0))
    (called.Serve (dev_at args 0) (number_at args 1))))))))))

abbrev cpu_entry : CpuNo → List ℕ → List (List ℕ) → Entry
cpu_entry cpu verb args =
    cond (is verb (codes "take")) (by.Cpu cpu (cpus.Take (way_at (at args 0)) (take_at (at args 1))))
    (cond (is verb (codes "begin")) (by.Cpu cpu (cpus.Begin (dev_at args 0)))
    (cond (is verb (codes "return")) (by.Cpu cpu (cpus.Return (answer_at (at args 1)) (dev_at args 0) (number_at args 2)))
    (cond (is verb (codes "end")) (by.Cpu cpu (cpus.End (loop_at (at args 0)) (mask_at (at args 1)) (note_at (at args 2))))
    (by.CpuCall cpu (call_at verb args)))))

abbrev thread_entry : DevNo → List ℕ → List (List ℕ) → Entry
thread_entry dev verb args =
    cond (is verb (codes "begin")) (by.Thread dev threads.Begin)
    (cond (is verb (codes "return"))
    (by.Thread dev (threads.Return (handled_at (drop 1 args) (nat_lt 0 (number_at args 0))) (number_at args 0)))
    (cond (is verb (codes "finish")) (by.Thread dev (threads.Finish (bit_at (at args 0)) (mask_at (at args 1))))
    (cond (is verb (codes "done")) (by.Thread dev threads.Done)
    (by.ThreadCall dev (call_at verb args)))))

abbrev driver_entry : DriverNo → List ℕ → List (List ℕ) → Entry
driver_entry driver verb args =
    cond (is verb (codes "ask")) (by.Driver driver (drivers.Ask (edge_at (drop 1 args)) (dev_at args 0)))
    (cond (is verb (codes "request"))
    (by.Driver driver (drivers.Request (flags_at (at args 1)) (link_at (drop 2 args)) (linked_at (drop 2 args)) (dev_at args 0)))
    (cond (is verb (codes "affinity")) (by.Driver driver (drivers.Affinity (affinity_at (drop 1 args)) (number_at args 0)))
    (cond (is verb (codes "moment")) (by.Driver driver (drivers.Moment (number_at args 0)))
    (by.DriverCall driver (call_at verb args)))))

-- the entry that the words say
abbrev entry_at : List (List ℕ) → Entry
entry_at words =
    let who : ℕ = digits_value 10 (drop 1 (at words 0)) in
    let letter : ℕ = get_or (at words 0) 0 0 in
    cond (eqb letter 99) (cpu_entry (record { 0 = who }) (at words 1) (drop 2 words))
    (cond (eqb letter 116) (thread_entry (record { 0 = who }) (at words 1) (drop 2 words))
    (driver_entry (record { 0 = who }) (at words 1) (drop 2 words)))

ap2 : {A B C : Type 0} (f : A → B → C) {a a' : A} {b b' : B} → a ≡ a' → b ≡ b' → f a b ≡ f a' b'
ap2 f {a = a} {a' = a'} {b = b} {b' = b'} p q = ap (λ x. f x b) p ∙ ap (λ y. f a' y) q

ap3 : {A B C D : Type 0} (f : A → B → C → D) {a a' : A} {b b' : B} {c c' : C} → a ≡ a' → b ≡ b' → c ≡ c' → f a b c ≡ f a' b' c'
ap3 f {a = a} {a' = a'} {b = b} {b' = b'} {c = c} {c' = c'} p q r = ap2 (λ x y. f x y c) p q ∙ ap (λ z. f a' b' z) r

ap4 : {A B C D E : Type 0} (f : A → B → C → D → E) {a a' : A} {b b' : B} {c c' : C} {d d' : D} → a ≡ a' → b ≡ b' → c ≡ c' → d ≡ d' → f a b c d ≡ f a' b' c' d'
ap4 f {a = a} {a' = a'} {b = b} {b' = b'} {c = c} {c' = c'} {d = d} {d' = d'} p q r s = ap3 (λ x y z. f x y z d) p q r ∙ ap (λ w. f a' b' c' w) s

abbrev cpu_no : ℕ → CpuNo
cpu_no n = record { 0 = n }

abbrev dev_no : ℕ → DevNo
dev_no n = record { 0 = n }

abbrev driver_no : ℕ → DriverNo
driver_no n = record { 0 = n }

abbrev line_no : ℕ → LineNo
line_no n = record { 0 = n }

-- a call, whoever makes it: its first word, and the others
abbrev verb_of : CallEntry → List ℕ
verb_of call = at (call_words call) 0

abbrev args_of : CallEntry → List (List ℕ)
args_of call = drop 1 (call_words call)

call_back : (call : CallEntry) → HasSmallCall call → call_at (verb_of call) (args_of call) ≡ call
call_back called.Disable s = refl
call_back called.HardClear s = refl
call_back called.Synced s = refl
call_back (called.Enable answer) s = ap (λ a. called.Enable a) (enable_back answer)
call_back (called.Unlink answer dev) s = ap2 (λ a b. called.Unlink a (dev_no b)) (unlink_back answer) (number_back dev.0 s)
call_back (called.Freed dev) s = ap (λ b. called.Freed (dev_no b)) (number_back dev.0 s)
call_back (called.Wake woken dev) s = ap2 (λ a b. called.Wake a (dev_no b)) (yes_back woken) (number_back dev.0 s)
call_back (called.Quiet dev) s = ap (λ b. called.Quiet (dev_no b)) (number_back dev.0 s)
call_back (called.Arm edge dev) s = ap2 (λ a b. called.Arm a (dev_no b)) (yes_back edge) (number_back dev.0 s)
call_back (called.Serve dev served) s = ap2 (λ a b. called.Serve (dev_no a) b) (number_back dev.0 s.0) (number_back served s.1)

-- no word of a call is one of what its maker does besides
by_cpu : (cpu : CpuNo) (call : CallEntry)
    → cpu_entry cpu (verb_of call) (args_of call) ≡ by.CpuCall cpu (call_at (verb_of call) (args_of call))
by_cpu cpu called.Disable = refl
by_cpu cpu called.HardClear = refl
by_cpu cpu called.Synced = refl
by_cpu cpu (called.Enable answer) = refl
by_cpu cpu (called.Unlink answer dev) = refl
by_cpu cpu (called.Freed dev) = refl
by_cpu cpu (called.Wake woken dev) = refl
by_cpu cpu (called.Quiet dev) = refl
by_cpu cpu (called.Arm edge dev) = refl
by_cpu cpu (called.Serve dev served) = refl

by_thread : (d : DevNo) (call : CallEntry)
    → thread_entry d (verb_of call) (args_of call) ≡ by.ThreadCall d (call_at (verb_of call) (args_of call))
by_thread d called.Disable = refl
by_thread d called.HardClear = refl
by_thread d called.Synced = refl
by_thread d (called.Enable answer) = refl
by_thread d (called.Unlink answer dev) = refl
by_thread d (called.Freed dev) = refl
by_thread d (called.Wake woken dev) = refl
by_thread d (called.Quiet dev) = refl
by_thread d (called.Arm edge dev) = refl
by_thread d (called.Serve dev served) = refl

by_driver : (driver : DriverNo) (call : CallEntry)
    → driver_entry driver (verb_of call) (args_of call) ≡ by.DriverCall driver (call_at (verb_of call) (args_of call))
by_driver driver called.Disable = refl
by_driver driver called.HardClear = refl
by_driver driver called.Synced = refl
by_driver driver (called.Enable answer) = refl
by_driver driver (called.Unlink answer dev) = refl
by_driver driver (called.Freed dev) = refl
by_driver driver (called.Wake woken dev) = refl
by_driver driver (called.Quiet dev) = refl
by_driver driver (called.Arm edge dev) = refl
by_driver driver (called.Serve dev served) = refl

entry_back : (e : Entry) → IsWritable e → entry_at (entry_words e) ≡ e
entry_back (by.Driver driver (drivers.Ask edge dev)) w =
    ap3 (λ a b c. by.Driver (driver_no a) (drivers.Ask c (dev_no b))) (number_back driver.0 w.small.0)
    (number_back dev.0 w.small.1) (edge_back edge)
entry_back (by.Cpu cpu (cpus.Take way answer)) w =
    ap3 (λ a b c. by.Cpu (cpu_no a) (cpus.Take b c)) (number_back cpu.0 w.small.0) (way_back way) (take_back answer)
entry_back (by.Cpu cpu (cpus.Begin dev)) w = ap2 (λ a b. by.Cpu (cpu_no a) (cpus.Begin (dev_no b))) (number_back cpu.0 w.small.0) (number_back dev.0 w.small.1)
entry_back (by.Cpu cpu (cpus.Return answer dev served)) w =
    ap4 (λ a b c d. by.Cpu (cpu_no a) (cpus.Return c (dev_no b) d)) (number_back cpu.0 w.small.0)
    (number_back dev.0 w.small.1.0) (answer_back answer) (number_back served w.small.1.1)
entry_back (by.Cpu cpu (cpus.End again unmask note)) w =
    ap4 (λ a b c d. by.Cpu (cpu_no a) (cpus.End b c d)) (number_back cpu.0 w.small.0) (loop_back again) (mask_back unmask) (note_back note)
entry_back (by.Thread dev threads.Begin) w = ap (λ a. by.Thread (dev_no a) threads.Begin) (number_back dev.0 w.small.0)
entry_back (by.Thread dev (threads.Return handled served)) w =
    ap2 (λ a b. by.Thread (dev_no a) (threads.Return (handled_at (handled_words handled (nat_lt 0 served)) (nat_lt 0 b)) b))
    (number_back dev.0 w.small.0) (number_back served w.small.1)
    ∙ ap (λ x. by.Thread dev (threads.Return x served)) (handled_back handled (nat_lt 0 served))
entry_back (by.Thread dev (threads.Finish kept unmask)) w =
    ap3 (λ a b c. by.Thread (dev_no a) (threads.Finish b c)) (number_back dev.0 w.small.0) (bit_back kept) (mask_back unmask)
entry_back (by.Thread dev threads.Done) w = ap (λ a. by.Thread (dev_no a) threads.Done) (number_back dev.0 w.small.0)
entry_back (by.Driver driver (drivers.Request flags links.Linked opened dev)) w =
    ap4 (λ a b c d. by.Driver (driver_no a) (drivers.Request c links.Linked d (dev_no b))) (number_back driver.0 w.small.0)
    (number_back dev.0 w.small.1) (flags_back flags) (opened_back opened)
entry_back (by.Driver driver (drivers.Request flags (links.Refused errno) opened dev)) w =
    ap4 (λ a b c d. by.Driver (driver_no a) (drivers.Request c d openings.No (dev_no b))) (number_back driver.0 w.small.0)
    (number_back dev.0 w.small.1) (flags_back flags) (link_back (links.Refused errno) openings.No)
    ∙ ap (λ o. by.Driver driver (drivers.Request flags (links.Refused errno) o dev)) (sym w.printable)
entry_back (by.Driver driver (drivers.Affinity answer mask)) w =
    ap3 (λ a b c. by.Driver (driver_no a) (drivers.Affinity c b)) (number_back driver.0 w.small.0) (number_back mask w.small.1) (affinity_back answer)
entry_back (by.Driver driver (drivers.Moment moment)) w =
    ap2 (λ a b. by.Driver (driver_no a) (drivers.Moment b)) (number_back driver.0 w.small.0) (number_back moment w.small.1)
entry_back (by.CpuCall cpu call) w =
    ap (λ a. cpu_entry (cpu_no a) (verb_of call) (args_of call)) (number_back cpu.0 w.small.0)
    ∙ (by_cpu cpu call ∙ ap (λ c. by.CpuCall cpu c) (call_back call w.small.1))
entry_back (by.ThreadCall dev call) w =
    ap (λ a. thread_entry (dev_no a) (verb_of call) (args_of call)) (number_back dev.0 w.small.0)
    ∙ (by_thread dev call ∙ ap (λ c. by.ThreadCall dev c) (call_back call w.small.1))
entry_back (by.DriverCall driver call) w =
    ap (λ a. driver_entry (driver_no a) (verb_of call) (args_of call)) (number_back driver.0 w.small.0)
    ∙ (by_driver driver call ∙ ap (λ c. by.DriverCall driver c) (call_back call w.small.1))

-- entries of the same words are the same
pub same_words : (e f : Entry) → IsWritable e → IsWritable f → entry_words e ≡ entry_words f → e ≡ f
same_words e f we wf same = sym (entry_back e we) ∙ (ap entry_at same ∙ entry_back f wf)

-- the words of a row tell its line and its entry
same_row_words : (l m : LineNo) (e f : Entry) → IsSmall l.0 → IsSmall m.0 → IsWritable e → IsWritable f → row_words l e ≡ row_words m f → (l ≡ m) × (e ≡ f)
same_row_words l m e f small low we wf same =
    let numbers : decimal l.0 ≡ decimal m.0 = ap (λ (ws : List (List ℕ)). at ws 0) same in
    let line : l.0 ≡ m.0 = decimal_injective l.0 m.0 (omega (arith, small)) (omega (arith, low)) numbers in
    let words : entry_words e ≡ entry_words f = ap (λ (ws : List (List ℕ)). drop 1 ws) same in
    (ap (λ n. line_no n) line, same_words e f we wf words)

same_rows : (l m : LineNo) (e f : Entry) → IsSmall l.0 → IsSmall m.0 → IsWritable e → IsWritable f
    → join_with_byte 32 (row_words l e) ≡ join_with_byte 32 (row_words m f) → (l ≡ m) × (e ≡ f)
same_rows l m e f small low we wf same =
    same_row_words l m e f small low we wf (sym (row_back l e small we) ∙ (ap words_of same ∙ row_back m f low wf))

-- a row tells its line and its entry
pub rows_tell : (row : List ℕ) (l m : LineNo) (e f : Entry) → IsRowOf row l e → IsRowOf row m f → (l ≡ m) × (e ≡ f)
rows_tell row l m e f r s =
    same_rows l m e f r.number s.number r.writable s.writable
    (append_cancel_right (join_with_byte 32 (row_words l e)) (join_with_byte 32 (row_words m f)) (codes "\n") (sym r.text ∙ s.text))

-- texts of a line

some_row : (l : LineNo) (e : Entry) (text : List ℕ) → entry_text l e ++ text ≡ join_with_byte 32 (row_words l e) ++ 10 ∷ text
some_row l e text = append_assoc (join_with_byte 32 (row_words l e)) (codes "\n") text

no_row : (l : LineNo) (e : Entry) (text : List ℕ) → [] ≡ entry_text l e ++ text → ⊥
no_row l e text h = nothing (join_with_byte 32 (row_words l e)) text (h ∙ some_row l e text)
  where
    nothing : (a x : List ℕ) → [] ≡ a ++ 10 ∷ x → ⊥
    nothing [] x i = cc
    nothing (b ∷ bs) x i = cc

-- the text of a line tells its entries
pub texts_tell : (l : LineNo) (es fs : List Entry) → IsSmall l.0 → AllByRecursion IsWritable es
    → AllByRecursion IsWritable fs → history_text l es ≡ history_text l fs → es ≡ fs
texts_tell l [] [] small we wf same = refl
texts_tell l [] (f ∷ fs) small we wf same = absurd (no_row l f (history_text l fs) same)
texts_tell l (e ∷ es) [] small we wf same = absurd (no_row l e (history_text l es) (sym same))
texts_tell l (e ∷ es) (f ∷ fs) small we wf same =
    let whole = sym (some_row l e (history_text l es)) ∙ (same ∙ some_row l f (history_text l fs)) in
    let cut = same_cut _ _ _ _ (row_within l e small we.0) (row_within l f small wf.0) whole in
    let first = (same_rows l l e f small small we.0 wf.0 cut.0).1 in
    ap (λ x. x ∷ es) first ∙ ap (λ xs. f ∷ xs) (texts_tell l es fs small we.1 wf.1 cut.1)

pub all_texts_tell : (l : LineNo) (es fs : List Entry) → IsSmall l.0 → All IsWritable es → All IsWritable fs → history_text l es ≡ history_text l fs → es ≡ fs
all_texts_tell l es fs small we wf same = texts_tell l es fs small (recursion_from_All IsWritable es we) (recursion_from_All IsWritable fs wf) same
