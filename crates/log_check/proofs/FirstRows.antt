-- The head of a text's first row.
use Rattle.std.proofs.Common.{◌≡◌, ℕ, false, Option, Some, None, List, [], ◌∷◌, ◌++◌, decimal, length, refl, sym}
use Rattle.std.proofs.Common.{ap, subst, ◌∙◌, append_assoc, arith}
use Rattle.std.specs.List.{concat, join_with_byte}
use Rattle.std.proofs.lemmas.Bool.{false≢true}
use Rattle.std.proofs.lemmas.Option.{same_Some}
use Rattle.irq_base.specs.Who.{actor_of}
use Rattle.irq_base.specs.declared.entries.Actor.{Actor}
use Rattle.irq_base.specs.declared.entries.Entry.{Entry}
use Rattle.irq_base.specs.declared.entries.Entry.TheVariants as by
use Rattle.irq_base.specs.declared.entries.CpuEntry.{CpuEntry}
use Rattle.irq_base.specs.declared.entries.CpuEntry.TheVariants as cpus
use Rattle.irq_base.specs.declared.entries.ThreadEntry.{ThreadEntry}
use Rattle.irq_base.specs.declared.entries.ThreadEntry.TheVariants as threads
use Rattle.irq_base.specs.declared.entries.DriverEntry.{DriverEntry}
use Rattle.irq_base.specs.declared.entries.DriverEntry.TheVariants as drivers
use Rattle.irq_base.specs.declared.entries.CallEntry.{CallEntry}
use Rattle.irq_base.specs.declared.entries.CallEntry.TheVariants as called
use Rattle.irq_base.specs.declared.numbers.LineNo.{LineNo}
use Rattle.board_def.specs.Seen.{BoardSeen}
use Rattle.log_text.proofs.RowLaws.{rows_tell}
use Rattle.log_text.specs.EntryWords.{actor_word, entry_words, call_words, cpu_words, driver_words, said_words, thread_words}
use Rattle.log_text.specs.Formed.{IsRowOf, IsSmall, IsWritable}
use Rattle.log_text.specs.Rows.{entry_text}
use Rattle.log_read.specs.LogOf.{is_whole, rows_of}
use Rattle.log_read.proofs.RowCutting.{front_joined, whole_row}
use Rattle.log_read.specs.Versions.{may_have}
use Rattle.log_check.specs.Heads.{IsHead, IsNoEntry, IsNoEntryOn, ReadsNumber, actor_by}

abbrev line_no : ℕ → LineNo
line_no n = record { 0 = n }

-- the text begins with the line's number and who made the entry
record IsHeaded (text : List ℕ) (line : LineNo) (e : Entry) : Type 0 where
  letter : ℕ
  number : ℕ
  tail : List ℕ
  is : text ≡ decimal line.0 ++ 32 ∷ letter ∷ (decimal number ++ 32 ∷ tail)
  small : IsSmall number
  whose : actor_by letter number ≡ Some (actor_of e)

two_words : (a : List ℕ) (letter : ℕ) (w b after : List ℕ) (ws : List (List ℕ)) → (join_with_byte 32 (a ∷ (letter ∷ w) ∷ b ∷ ws) ++ 10 ∷ []) ++ after
    ≡ a ++ 32 ∷ letter ∷ (w ++ 32 ∷ ((join_with_byte 32 (b ∷ ws) ++ 10 ∷ []) ++ after))
two_words a letter w b after ws =
    let rest = join_with_byte 32 (b ∷ ws) in
    ap (λ (xs : List ℕ). xs ++ after) (append_assoc a (32 ∷ letter ∷ (w ++ 32 ∷ rest)) (10 ∷ []))
    ∙ (append_assoc a (32 ∷ letter ∷ ((w ++ 32 ∷ rest) ++ 10 ∷ [])) after
    ∙ ap (λ (xs : List ℕ). a ++ 32 ∷ letter ∷ xs)
    (ap (λ (xs : List ℕ). xs ++ after) (append_assoc w (32 ∷ rest) (10 ∷ [])) ∙ append_assoc w (32 ∷ (rest ++ 10 ∷ [])) after))

-- an entry says at least one word
abbrev IsSaid : List (List ℕ) → Type 0
IsSaid words = (first : List ℕ) × (others : List (List ℕ)) × (words ≡ first ∷ others)

cpu_said : (e : CpuEntry) → IsSaid (cpu_words e)
cpu_said (cpus.Take way answer) = (_, _, refl)
cpu_said (cpus.Begin dev) = (_, _, refl)
cpu_said (cpus.Return answer dev served) = (_, _, refl)
cpu_said (cpus.End again unmask note) = (_, _, refl)

thread_said : (e : ThreadEntry) → IsSaid (thread_words e)
thread_said threads.Begin = (_, _, refl)
thread_said (threads.Return handled served) = (_, _, refl)
thread_said (threads.Finish kept unmask) = (_, _, refl)
thread_said threads.Done = (_, _, refl)

driver_said : (e : DriverEntry) → IsSaid (driver_words e)
driver_said (drivers.Ask edge dev) = (_, _, refl)
driver_said (drivers.Request flags answer opened dev) = (_, _, refl)
driver_said (drivers.Affinity answer mask) = (_, _, refl)
driver_said (drivers.Moment at) = (_, _, refl)

call_said : (call : CallEntry) → IsSaid (call_words call)
call_said called.Disable = (_, _, refl)
call_said called.HardClear = (_, _, refl)
call_said called.Synced = (_, _, refl)
call_said (called.Enable answer) = (_, _, refl)
call_said (called.Unlink answer dev) = (_, _, refl)
call_said (called.Freed dev) = (_, _, refl)
call_said (called.Wake woken dev) = (_, _, refl)
call_said (called.Quiet dev) = (_, _, refl)
call_said (called.Arm edge dev) = (_, _, refl)
call_said (called.Serve dev served) = (_, _, refl)

headed_by : (line : LineNo) (e : Entry) (letter number : ℕ) (after : List ℕ) → IsSaid (said_words e) → actor_word (actor_of e) ≡ letter ∷ decimal number
    → IsSmall number → actor_by letter number ≡ Some (actor_of e) → IsHeaded (entry_text line e ++ after) line e
headed_by line e letter number after (b, ws, words) who small whose = record {
  letter = letter;
  number = number;
  tail = (join_with_byte 32 (b ∷ ws) ++ 10 ∷ []) ++ after;
  is = ap (λ (xs : List (List ℕ)). (join_with_byte 32 (decimal line.0 ∷ xs) ++ 10 ∷ []) ++ after)
      (ap (λ (w : List ℕ). w ∷ said_words e) who ∙ ap (λ (xs : List (List ℕ)). (letter ∷ decimal number) ∷ xs) words)
      ∙ two_words (decimal line.0) letter (decimal number) b after ws;
  small = small;
  whose = whose;
}

headed : (line : LineNo) (e : Entry) (after : List ℕ) → IsWritable e → IsHeaded (entry_text line e ++ after) line e
headed line (by.Cpu cpu e) after w = headed_by line (by.Cpu cpu e) 99 cpu.0 after (cpu_said e) refl w.small.0 refl
headed line (by.CpuCall cpu call) after w = headed_by line (by.CpuCall cpu call) 99 cpu.0 after (call_said call) refl w.small.0 refl
headed line (by.Thread dev e) after w = headed_by line (by.Thread dev e) 116 dev.0 after (thread_said e) refl w.small.0 refl
headed line (by.ThreadCall dev call) after w = headed_by line (by.ThreadCall dev call) 116 dev.0 after (call_said call) refl w.small.0 refl
headed line (by.Driver driver e) after w = headed_by line (by.Driver driver e) 100 driver.0 after (driver_said e) refl w.small.0 refl
headed line (by.DriverCall driver call) after w = headed_by line (by.DriverCall driver call) 100 driver.0 after (call_said call) refl w.small.0 refl

-- a text without a line feed
pub unfed : (text : List ℕ) → rows_of text ≡ text ∷ [] → is_whole text ≡ false → IsNoEntry text
unfed text alone bare row rows is (line, e, of) = by row (sym alone ∙ is) of.text
  where
    by : (r : List ℕ) → text ∷ [] ≡ r ∷ rows → r ≡ entry_text line e → ⊥
    by r same row_is =
        let first : text ≡ r = cc in
        false≢true (sym bare ∙ (ap is_whole (first ∙ row_is) ∙ whole_row (join_with_byte 32 (decimal line.0 ∷ entry_words e))))

-- the text of whose first row it is the head
text_headed : (text row : List ℕ) (rows : List (List ℕ)) (line : LineNo) (e : Entry) → rows_of text ≡ row ∷ rows → IsRowOf row line e
    → IsHeaded text line e
text_headed text row rows line e is of =
    let whole : text ≡ entry_text line e ++ concat rows = front_joined text row rows is ∙ ap (λ (xs : List ℕ). xs ++ concat rows) of.text in
    subst (λ (xs : List ℕ). IsHeaded xs line e) (sym whole) (headed line e (concat rows) of.writable)

same_pair : (m n : ℕ) (xs ys : List ℕ) → ◌≡◌ {A = Option (ℕ × List ℕ)} (Some (m, xs)) (Some (n, ys)) → (m ≡ n) × (xs ≡ ys)
same_pair m n xs ys same =
    let pairs : (m, xs) ≡ (n, ys) = same_Some (m, xs) (n, ys) same in
    (ap (λ (p : ℕ × List ℕ). p.0) pairs, ap (λ (p : ℕ × List ℕ). p.1) pairs)

no_pair : (n : ℕ) (ys : List ℕ) → ◌≡◌ {A = Option (ℕ × List ℕ)} None (Some (n, ys)) → ⊥
no_pair n ys same = cc

no_actor : (a : Actor) → ◌≡◌ {A = Option Actor} None (Some a) → ⊥
no_actor a same = cc

pub no_line : (text : List ℕ) → ReadsNumber text None → IsNoEntry text
no_line text read row rows is (line, e, of) =
    let h = text_headed text row rows line e is of in no_pair _ _ (read line.0 _ of.number h.is)

module _ (text : List ℕ) (n : ℕ) (rest : List ℕ) (line_read : ReadsNumber text (Some (n, rest))) where
  record IsBehind (line : LineNo) (e : Entry) : Type 0 where
    letter : ℕ
    number : ℕ
    tail : List ℕ
    same : line ≡ line_no n
    is : rest ≡ letter ∷ (decimal number ++ 32 ∷ tail)
    small : IsSmall number
    whose : actor_by letter number ≡ Some (actor_of e)

  behind : (row : List ℕ) (rows : List (List ℕ)) (line : LineNo) (e : Entry) → rows_of text ≡ row ∷ rows → IsRowOf row line e → IsBehind line e
  behind row rows line e is of =
      let h = text_headed text row rows line e is of in
      let read = same_pair n line.0 rest _ (line_read line.0 _ of.number h.is) in
      let same : line ≡ line_no n = ap (λ m. line_no m) (sym read.0) in
      record {
        letter = h.letter;
        number = h.number;
        tail = h.tail;
        same = same;
        is = read.1;
        small = h.small;
        whose = h.whose;
      }

  pub no_letter : length rest ≡ 0 → IsNoEntry text
  no_letter none row rows is (line, e, of) = let b = behind row rows line e is of in nothing _ _ b.is none
    where
      nothing : (x : ℕ) (xs : List ℕ) → rest ≡ x ∷ xs → length rest ≡ 0 → ⊥
      nothing x xs is none = absurd (omega (arith, ap length is, none))

  module _ (letter : ℕ) (next : List ℕ) (first : rest ≡ letter ∷ next) where
    same_head : (x y : ℕ) (xs ys : List ℕ) → x ∷ xs ≡ y ∷ ys → (x ≡ y) × (xs ≡ ys)
    same_head x y xs ys same = (cc, cc)

    pub no_number : ReadsNumber next None → IsNoEntry text
    no_number read row rows is (line, e, of) =
        let b = behind row rows line e is of in
        no_pair _ _ (read b.number b.tail b.small (same_head letter b.letter next _ (sym first ∙ b.is)).1)

    module _ (number : ℕ) (tail : List ℕ) (number_read : ReadsNumber next (Some (number, tail))) where
      who : (row : List ℕ) (rows : List (List ℕ)) (line : LineNo) (e : Entry) → rows_of text ≡ row ∷ rows → IsRowOf row line e
          → (line ≡ line_no n) × (actor_by letter number ≡ Some (actor_of e))
      who row rows line e is of =
          let b = behind row rows line e is of in
          let heads = same_head letter b.letter next _ (sym first ∙ b.is) in
          let read = same_pair number b.number tail b.tail (number_read b.number b.tail b.small heads.1) in
          (b.same, ap (λ x. actor_by x number) heads.0 ∙ (ap (λ m. actor_by b.letter m) read.0 ∙ b.whose))

      pub unknown_letter : None ≡ actor_by letter number → IsNoEntry text
      unknown_letter none row rows is (line, e, of) = no_actor _ (none ∙ (who row rows line e is of).1)

      pub head : (actor : Actor) → Some actor ≡ actor_by letter number → IsHead text (line_no n) actor
      head actor known row rows line e is of =
          let w = who row rows line e is of in (w.0, sym (same_Some actor (actor_of e) (known ∙ w.1)))

-- the first row is no entry's, or that of an entry that the board's log may not have

first_row : (text row : List ℕ) (rows : List (List ℕ)) (x : List ℕ) (xs : List (List ℕ)) → rows_of text ≡ row ∷ rows → rows_of text ≡ x ∷ xs → x ≡ row
first_row text row rows x xs is also = let same : x ∷ xs ≡ row ∷ rows = sym also ∙ is in cc

pub unread_first : (b : BoardSeen) (text row : List ℕ) (rows : List (List ℕ)) → rows_of text ≡ row ∷ rows
    → ((line : LineNo) (e : Entry) → IsRowOf row line e → ⊥) → IsNoEntryOn b text
unread_first b text row rows is none x xs also (line, e, of, may) =
    none line e (subst (λ (r : List ℕ). IsRowOf r line e) (first_row text row rows x xs is also) of)

pub unallowed_first : (b : BoardSeen) (text row : List ℕ) (rows : List (List ℕ)) (line : LineNo) (e : Entry) → rows_of text ≡ row ∷ rows
    → IsRowOf row line e → may_have b.version e ≡ false → IsNoEntryOn b text
unallowed_first b text row rows line e is of never x xs also (other, f, own, may) =
    let same = (rows_tell row line other e f of (subst (λ (r : List ℕ). IsRowOf r other f) (first_row text row rows x xs is also) own)).1 in
    false≢true (sym never ∙ (ap (may_have b.version) same ∙ may))

pub unfed_on : (b : BoardSeen) (text : List ℕ) → rows_of text ≡ text ∷ [] → is_whole text ≡ false → IsNoEntryOn b text
unfed_on b text alone bare row rows is (line, e, of, may) = unfed text alone bare row rows is (line, e, of)
