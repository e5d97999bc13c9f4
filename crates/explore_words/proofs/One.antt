-- Words ask for one thing at most.
use Rattle.std.proofs.Common.{◌≡◌, ℕ, inl, inr, Bool, true, false, cond, Option, None, IfSome, List, [], ◌∷◌, ◌++◌, codes, decimal}
use Rattle.std.proofs.Common.{get_or, drop, refl, sym, ap, subst, ◌∙◌, arith}
use Rattle.std.specs.Str.{bytes_eq}
use Rattle.irq_base.specs.declared.entries.Actor.{Actor}
use Rattle.irq_base.specs.declared.entries.Entry.{Entry}
use Rattle.irq_base.specs.declared.entries.Entry.TheVariants as by
use Rattle.irq_base.specs.declared.numbers.LineNo.{LineNo}
use Rattle.line_wanted.specs.declared.left.Left.{Left}
use Rattle.line_wanted.specs.declared.left.Standing.{Standing}
use Rattle.line_wanted.specs.declared.left.Standing.TheVariants as standings
use Rattle.line_wanted.specs.declared.wanted.Wanted.{Wanted}
use Rattle.line_wanted.specs.declared.wanted.Wanted.TheVariants as wants
use Rattle.log_read.specs.Left.{words_of}
use Rattle.log_read.specs.Who.{HasSmallActor}
use Rattle.log_text.proofs.RowLaws.{rows_tell}
use Rattle.log_text.proofs.Splitting.{row_back as entry_back}
use Rattle.log_text.specs.EntryWords.{entry_words}
use Rattle.log_text.specs.Formed.{IsSmall}
use Rattle.explore_words.specs.Rows.{Spells, joined, left_words, standing_word, waits_word}
use Rattle.log_read.specs.Takes.{Reads}
use Rattle.explore_words.specs.Words.{Asks, AsksNothing, AsksWhat, IsCount, SpellsPlay}
use Rattle.explore_words.specs.declared.Asked.{Asked}
use Rattle.explore_words.specs.declared.What.{What}
use Rattle.explore_words.specs.declared.What.TheVariants as whats
use Rattle.explore_words.proofs.Counting.{same_number}
use Rattle.explore_words.proofs.Dashes.{dashed, no_bytes}
use Rattle.explore_words.proofs.Hung.{hung_tells, rest_of}
use Rattle.explore_words.proofs.Spelled.{rest_back, row_back}

abbrev at : List (List ℕ) → ℕ → List ℕ
at words i = get_or words i []

-- words back

abbrev standing_at : List ℕ → Standing
standing_at word =
    cond (bytes_eq word (codes "stopped")) standings.Stopped
    (cond (bytes_eq word (codes "enabled")) standings.Enabled
    (cond (bytes_eq word (codes "disabled")) standings.Disabled standings.Killed))

standing_same : (x : Standing) → standing_at (standing_word x) ≡ x
standing_same standings.Stopped = refl
standing_same standings.Enabled = refl
standing_same standings.Disabled = refl
standing_same standings.Killed = refl

abbrev stored_at : List ℕ → Bool
stored_at word = cond (bytes_eq word (codes "stored")) true (bytes_eq word (codes "both"))

abbrev pending_at : List ℕ → Bool
pending_at word = cond (bytes_eq word (codes "pending")) true (bytes_eq word (codes "both"))

stored_same : (s p : Bool) → stored_at (waits_word (s, p)) ≡ s
stored_same false false = refl
stored_same true false = refl
stored_same false true = refl
stored_same true true = refl

pending_same : (s p : Bool) → pending_at (waits_word (s, p)) ≡ p
pending_same false false = refl
pending_same true false = refl
pending_same false true = refl
pending_same true true = refl

abbrev left_by : Option Actor → Standing → ℕ → Bool → Bool → Left
left_by hung standing unserved stored pending =
    record { hung = hung; standing = standing; unserved = unserved; stored = stored; pending = pending }

left_same : (a b : Left) → IsSmall a.unserved → IsSmall b.unserved → IfSome a.hung HasSmallActor → IfSome b.hung HasSmallActor
    → left_words a ≡ left_words b → a ≡ b
left_same a b small low x y said =
    let both = hung_tells a.hung b.hung a.standing b.standing _ _ x y said in
    let same : rest_of a ≡ rest_of b = both.1 in
    let standing : a.standing ≡ b.standing =
    sym (standing_same a.standing) ∙ (ap (λ ws. standing_at (at ws 0)) same ∙ standing_same b.standing) in
    let unserved : a.unserved ≡ b.unserved = same_number a.unserved b.unserved small low (ap (λ ws. at ws 1) same) in
    let stored : a.stored ≡ b.stored =
    sym (stored_same a.stored a.pending) ∙ (ap (λ ws. stored_at (at ws 2)) same ∙ stored_same b.stored b.pending) in
    let pending : a.pending ≡ b.pending =
    sym (pending_same a.stored a.pending) ∙ (ap (λ ws. pending_at (at ws 2)) same ∙ pending_same b.stored b.pending) in
    ap (λ h. left_by h a.standing a.unserved a.stored a.pending) both.0
    ∙ (ap (λ s. left_by b.hung s a.unserved a.stored a.pending) standing
    ∙ (ap (λ n. left_by b.hung b.standing n a.stored a.pending) unserved
    ∙ (ap (λ s. left_by b.hung b.standing b.unserved s a.pending) stored ∙ ap (λ p. left_by b.hung b.standing b.unserved b.stored p) pending)))

-- the first byte of the word that says who made an entry
apart : (m n : ℕ) (bs cs : List ℕ) → (m ≡ n → ⊥) → m ∷ bs ≡ n ∷ cs → ⊥
apart m n bs cs differ same = differ (ap (λ ds. get_or ds 0 0) same)

not_rest : (e : Entry) → at (entry_words e) 0 ≡ codes "rest" → ⊥
not_rest (by.Cpu cpu e) = apart 99 114 _ _ (λ i. omega (arith, i))
not_rest (by.CpuCall cpu call) = apart 99 114 _ _ (λ i. omega (arith, i))
not_rest (by.Thread dev e) = apart 116 114 _ _ (λ i. omega (arith, i))
not_rest (by.ThreadCall dev call) = apart 116 114 _ _ (λ i. omega (arith, i))
not_rest (by.Driver driver e) = apart 100 114 _ _ (λ i. omega (arith, i))
not_rest (by.DriverCall driver call) = apart 100 114 _ _ (λ i. omega (arith, i))

abbrev line_no : ℕ → LineNo
line_no n = record { 0 = n }

-- a row says one thing

abbrev row_of : LineNo → Wanted → LineNo × Wanted
row_of line wanted = (line, wanted)

module _ (bytes : List ℕ) where
  both_rows : (l m : LineNo) (e f : Entry) → Spells bytes l (wants.Row e) → Spells bytes m (wants.Row f) → row_of l (wants.Row e) ≡ row_of m (wants.Row f)
  both_rows l m e f a b =
      let same = rows_tell (bytes ++ codes "\n") l m e f (row_back bytes l e a) (row_back bytes m f b) in
      ap (λ x. row_of x (wants.Row e)) same.0 ∙ ap (λ x. row_of m (wants.Row x)) same.1

  both_rests : (l m : LineNo) (x y : Left) → Spells bytes l (wants.Rest x) → Spells bytes m (wants.Rest y) → row_of l (wants.Rest x) ≡ row_of m (wants.Rest y)
  both_rests l m x y a b =
      let s = rest_back bytes l x a in
      let t = rest_back bytes m y b in
      let same : decimal l.0 ∷ codes "rest" ∷ left_words x ≡ decimal m.0 ∷ codes "rest" ∷ left_words y = sym s.words ∙ t.words in
      let line : l.0 ≡ m.0 = same_number l.0 m.0 s.number t.number (ap (λ ws. at ws 0) same) in
      ap (λ n. row_of (line_no n) (wants.Rest x)) line
      ∙ ap (λ z. row_of m (wants.Rest z)) (left_same x y s.small t.small s.actor t.actor (ap (λ (ws : List (List ℕ)). drop 2 ws) same))

  row_and_rest : (l m : LineNo) (e : Entry) (y : Left) → Spells bytes l (wants.Row e) → Spells bytes m (wants.Rest y) → ⊥
  row_and_rest l m e y a b =
      let s : words_of bytes ≡ decimal l.0 ∷ entry_words e = ap words_of a.text ∙ entry_back l e a.number a.has_row in
      let t = rest_back bytes m y b in
      not_rest e (ap (λ ws. at ws 1) (sym s ∙ t.words))

  spells_one : (l m : LineNo) (v w : Wanted) → Spells bytes l v → Spells bytes m w → row_of l v ≡ row_of m w
  spells_one l m (wants.Row e) (wants.Row f) a b = both_rows l m e f a b
  spells_one l m (wants.Rest x) (wants.Rest y) a b = both_rests l m x y a b
  spells_one l m (wants.Row e) (wants.Rest y) a b = absurd (row_and_rest l m e y a b)
  spells_one l m (wants.Rest x) (wants.Row f) a b = absurd (row_and_rest m l f x b a)

-- what is asked

no_words_are_no_row : (words : List (List ℕ)) (l : LineNo) (v : Wanted) → words ≡ [] → Spells (joined words) l v → ⊥
no_words_are_no_row words l v none is = no_bytes l v (subst (λ bytes. Spells bytes l v) (ap joined none) is)

pub option_is_no_row : (first bs : List ℕ) (words rest : List (List ℕ)) (l : LineNo) (v : Wanted) → first ≡ 45 ∷ bs → words ≡ first ∷ rest
    → Spells (joined words) l v → ⊥
option_is_no_row first bs words rest l v dash are is = dashed first bs rest l v dash (subst (λ bytes. Spells bytes l v) (ap joined are) is)

-- words whose third bytes differ
not_word : (m n : ℕ) (a b : List ℕ) → get_or a 2 0 ≡ m → get_or b 2 0 ≡ n → (m ≡ n → ⊥) → a ≡ b → ⊥
not_word m n a b x y differ same = differ (sym x ∙ (ap (λ ds. get_or ds 2 0) same ∙ y))

play_or_line : codes "--play" ≡ codes "--line" → ⊥
play_or_line = not_word 112 108 (codes "--play") (codes "--line") refl refl (λ i. omega (arith, i))

play_or_states : codes "--play" ≡ codes "--states" → ⊥
play_or_states = not_word 112 115 (codes "--play") (codes "--states") refl refl (λ i. omega (arith, i))

play_is_no_line : (words : List (List ℕ)) (l : LineNo) (v : Wanted) (m : LineNo) → SpellsPlay words l v → AsksWhat words (whats.Line m) → ⊥
play_is_no_line words l v m a b = play_or_line (ap (λ ws. at ws 0) (sym a.words_are ∙ b.0))

what_one : (words : List (List ℕ)) (a b : What) → AsksWhat words a → AsksWhat words b → a ≡ b
what_one words whats.Survey whats.Survey a b = refl
what_one words whats.Survey (whats.Line m) a b = let same = sym a ∙ b.0 in cc
what_one words whats.Survey (whats.Row m w) a b = absurd (no_words_are_no_row words m w a b)
what_one words (whats.Line l) whats.Survey a b = let same = sym b ∙ a.0 in cc
what_one words (whats.Line l) (whats.Line m) a b =
    ap (λ n. whats.Line (line_no n)) (same_number l.0 m.0 a.1 b.1 (ap (λ ws. at ws 1) (sym a.0 ∙ b.0)))
what_one words (whats.Line l) (whats.Row m w) a b = absurd (option_is_no_row (codes "--line") _ words _ m w refl a.0 b)
what_one words (whats.Row l v) whats.Survey a b = absurd (no_words_are_no_row words l v b a)
what_one words (whats.Row l v) (whats.Line m) a b = absurd (option_is_no_row (codes "--line") _ words _ l v refl b.0 a)
what_one words (whats.Row l v) (whats.Row m w) a b = ap (λ (x : LineNo × Wanted). whats.Row x.0 x.1) (spells_one (joined words) l m v w a b)
what_one words (whats.Play l v) (whats.Play m w) a b =
    let same : a.rest ≡ b.rest = ap (λ (ws : List (List ℕ)). drop 1 ws) (sym a.words_are ∙ b.words_are) in
    ap (λ (x : LineNo × Wanted). whats.Play x.0 x.1)
    (spells_one (joined b.rest) l m v w (subst (λ ws. Spells (joined ws) l v) same a.row) b.row)
what_one words (whats.Play l v) whats.Survey a b = let same = sym b ∙ a.words_are in cc
what_one words whats.Survey (whats.Play m w) a b = let same = sym a ∙ b.words_are in cc
what_one words (whats.Play l v) (whats.Line m) a b = absurd (play_is_no_line words l v m a b)
what_one words (whats.Line l) (whats.Play m w) a b = absurd (play_is_no_line words m w l b a)
what_one words (whats.Play l v) (whats.Row m w) a b = absurd (option_is_no_row (codes "--play") _ words _ m w refl a.words_are b)
what_one words (whats.Row l v) (whats.Play m w) a b = absurd (option_is_no_row (codes "--play") _ words _ l v refl b.words_are a)

-- words that begin with the number of states ask for nothing without it
pub not_without : (words rest : List (List ℕ)) (number : List ℕ) (what : What) → words ≡ codes "--states" ∷ number ∷ rest → AsksWhat words what → ⊥
not_without words rest number whats.Survey are a = let same = sym a ∙ are in cc
not_without words rest number (whats.Line l) are a = let same : codes "--line" ≡ codes "--states" = ap (λ ws. at ws 0) (sym a.0 ∙ are) in cc
not_without words rest number (whats.Play l v) are a = play_or_states (ap (λ ws. at ws 0) (sym a.words_are ∙ are))
not_without words rest number (whats.Row l v) are a = option_is_no_row (codes "--states") _ words (number ∷ rest) l v refl are a

abbrev asked_by : ℕ → What → Asked
asked_by states what = record { states = states; what = what }

pub one_asked : (words : List (List ℕ)) (one other : Asked) → Asks words one → Asks words other → one ≡ other
one_asked words one other (inl a) (inl b) =
    ap (λ n. asked_by n one.what) (a.0 ∙ sym b.0) ∙ ap (λ w. asked_by other.states w) (what_one words one.what other.what a.1 b.1)
one_asked words one other (inl a) (inr b) = absurd (not_without words b.rest _ one.what b.words_are a.1)
one_asked words one other (inr a) (inl b) = absurd (not_without words a.rest _ other.what a.words_are b.1)
one_asked words one other (inr a) (inr b) =
    let same = sym a.words_are ∙ b.words_are in
    let m = a.count.1 in
    let n = b.count.1 in
    let states : one.states ≡ other.states =
    same_number one.states other.states (omega (arith, m)) (omega (arith, n)) (ap (λ ws. at ws 1) same) in
    let rest : a.rest ≡ b.rest = ap (λ (ws : List (List ℕ)). drop 2 ws) same in
    ap (λ s. asked_by s one.what) states
    ∙ ap (λ w. asked_by other.states w) (what_one b.rest one.what other.what (subst (λ ws. AsksWhat ws one.what) rest a.what) b.what)

-- what is no number of states, and what words behind it ask for nothing

pub no_states : (number : List ℕ) (rest : List (List ℕ)) → Reads IsCount decimal number None → AsksNothing (codes "--states" ∷ number ∷ rest)
no_states number rest none asked (inl a) = not_without (codes "--states" ∷ number ∷ rest) rest number asked.what refl a.1
no_states number rest none asked (inr a) = none asked.states a.count (ap (λ ws. at ws 1) a.words_are)

pub no_what : (number : List ℕ) (rest : List (List ℕ)) → ((what : What) → AsksWhat rest what → ⊥) → AsksNothing (codes "--states" ∷ number ∷ rest)
no_what number rest none asked (inl a) = not_without (codes "--states" ∷ number ∷ rest) rest number asked.what refl a.1
no_what number rest none asked (inr a) =
    let same : rest ≡ a.rest = ap (λ (ws : List (List ℕ)). drop 2 ws) a.words_are in
    none asked.what (subst (λ ws. AsksWhat ws asked.what) (sym same) a.what)

pub no_line : (number : List ℕ) → Reads IsSmall decimal number None → (what : What) → AsksWhat (codes "--line" ∷ number ∷ []) what → ⊥
no_line number none whats.Survey a = cc
no_line number none (whats.Line l) a = none l.0 a.1 (ap (λ ws. at ws 1) a.0)
no_line number none (whats.Row l v) a = option_is_no_row (codes "--line") _ (codes "--line" ∷ number ∷ []) _ l v refl refl a
no_line number none (whats.Play l v) a = play_or_line (ap (λ ws. at ws 0) (sym a.words_are))

pub no_play : (row : List (List ℕ)) → ((line : LineNo) (wanted : Wanted) → Spells (joined row) line wanted → ⊥) → (what : What)
    → AsksWhat (codes "--play" ∷ row) what → ⊥
no_play row none whats.Survey a = cc
no_play row none (whats.Line l) a = play_or_line (ap (λ ws. at ws 0) a.0)
no_play row none (whats.Row l v) a = option_is_no_row (codes "--play") _ (codes "--play" ∷ row) row l v refl refl a
no_play row none (whats.Play l v) a =
    let same : row ≡ a.rest = ap (λ (ws : List (List ℕ)). drop 1 ws) a.words_are in
    none l v (subst (λ ws. Spells (joined ws) l v) (sym same) a.row)
