-- Words that begin with who is hung, if they say it of somebody.
use Rattle.std.proofs.Common.{◌≡◌, ℕ, Option, Some, None, IfSome, List, [], ◌∷◌, ◌++◌, codes, decimal, get_or, drop, refl, sym, ap, ◌∙◌, arith}
use Rattle.irq_base.specs.declared.entries.Actor.{Actor}
use Rattle.irq_base.specs.declared.entries.Actor.TheVariants as actors
use Rattle.irq_base.specs.declared.numbers.CpuNo.{CpuNo}
use Rattle.irq_base.specs.declared.numbers.DevNo.{DevNo}
use Rattle.irq_base.specs.declared.numbers.DriverNo.{DriverNo}
use Rattle.line_wanted.specs.declared.left.Left.{Left}
use Rattle.line_wanted.specs.declared.left.Standing.{Standing}
use Rattle.line_wanted.specs.declared.left.Standing.TheVariants as standings
use Rattle.log_read.specs.Left.{words_of}
use Rattle.log_read.specs.Takes.{Reads}
use Rattle.log_read.specs.Who.{HasSmallActor}
use Rattle.log_text.specs.EntryWords.{actor_word}
use Rattle.log_text.specs.Formed.{IsSmall}
use Rattle.explore_words.proofs.Counting.{same_number}
use Rattle.explore_words.proofs.Cutting.{one_word as one_word_is}
use Rattle.explore_words.specs.Rows.{SaysHung, SaysLeft, hung_words, standing_word, waits_word}

-- the words behind that
abbrev pub rest_of : Left → List (List ℕ)
rest_of left = standing_word left.standing ∷ decimal left.unserved ∷ waits_word (left.stored, left.pending) ∷ []

abbrev at : List (List ℕ) → ℕ → List ℕ
at words i = get_or words i []

-- a word for how a line stands has another first byte
apart : (m n : ℕ) (bs cs : List ℕ) → (m ≡ n → ⊥) → m ∷ bs ≡ n ∷ cs → ⊥
apart m n bs cs differ same = differ (ap (λ ds. get_or ds 0 0) same)

not_hung : (x : Standing) → standing_word x ≡ codes "hung" → ⊥
not_hung standings.Stopped = apart 115 104 _ _ (λ i. omega (arith, i))
not_hung standings.Enabled = apart 101 104 _ _ (λ i. omega (arith, i))
not_hung standings.Disabled = apart 100 104 _ _ (λ i. omega (arith, i))
not_hung standings.Killed = apart 107 104 _ _ (λ i. omega (arith, i))

-- an actor's word tells it

abbrev dev_no : ℕ → DevNo
dev_no n = record { 0 = n }

abbrev cpu_no : ℕ → CpuNo
cpu_no n = record { 0 = n }

abbrev driver_no : ℕ → DriverNo
driver_no n = record { 0 = n }

digits_tell : (letter m n : ℕ) → IsSmall m → IsSmall n → letter ∷ decimal m ≡ letter ∷ decimal n → m ≡ n
digits_tell letter m n small low same = same_number m n small low (ap (λ (bs : List ℕ). drop 1 bs) same)

actor_tells : (a b : Actor) → HasSmallActor a → HasSmallActor b → actor_word a ≡ actor_word b → a ≡ b
actor_tells (actors.Thread d) (actors.Thread e) small low same = ap (λ n. actors.Thread (dev_no n)) (digits_tell 116 d.0 e.0 small low same)
actor_tells (actors.Cpu d) (actors.Cpu e) small low same = ap (λ n. actors.Cpu (cpu_no n)) (digits_tell 99 d.0 e.0 small low same)
actor_tells (actors.Driver d) (actors.Driver e) small low same = ap (λ n. actors.Driver (driver_no n)) (digits_tell 100 d.0 e.0 small low same)
actor_tells (actors.Thread d) (actors.Cpu e) small low same = absurd (apart 116 99 _ _ (λ i. omega (arith, i)) same)
actor_tells (actors.Thread d) (actors.Driver e) small low same = absurd (apart 116 100 _ _ (λ i. omega (arith, i)) same)
actor_tells (actors.Cpu d) (actors.Thread e) small low same = absurd (apart 99 116 _ _ (λ i. omega (arith, i)) same)
actor_tells (actors.Cpu d) (actors.Driver e) small low same = absurd (apart 99 100 _ _ (λ i. omega (arith, i)) same)
actor_tells (actors.Driver d) (actors.Thread e) small low same = absurd (apart 100 116 _ _ (λ i. omega (arith, i)) same)
actor_tells (actors.Driver d) (actors.Cpu e) small low same = absurd (apart 100 99 _ _ (λ i. omega (arith, i)) same)

-- the words tell both
pub hung_tells : (g h : Option Actor) (v w : Standing) (xs ys : List (List ℕ)) → IfSome g HasSmallActor → IfSome h HasSmallActor
    → hung_words g ++ standing_word v ∷ xs ≡ hung_words h ++ standing_word w ∷ ys
    → (g ≡ h) × (standing_word v ∷ xs ≡ standing_word w ∷ ys)
hung_tells None None v w xs ys a b same = (refl, same)
hung_tells (Some x) (Some y) v w xs ys a b same =
    (ap Some (actor_tells x y a b (ap (λ ws. at ws 1) same)), ap (λ (ws : List (List ℕ)). drop 2 ws) same)
hung_tells None (Some y) v w xs ys a b same = absurd (not_hung v (ap (λ ws. at ws 0) same))
hung_tells (Some x) None v w xs ys a b same = absurd (not_hung w (sym (ap (λ ws. at ws 0) same)))

-- one word is too few, and so are two
one_word : (h : Option Actor) (word a b : List ℕ) (xs : List (List ℕ)) → word ∷ [] ≡ hung_words h ++ a ∷ b ∷ xs → ⊥
one_word None word a b xs same = cc
one_word (Some x) word a b xs same = cc

two_words : (h : Option Actor) (u v a b c : List ℕ) (xs : List (List ℕ)) → u ∷ v ∷ [] ≡ hung_words h ++ a ∷ b ∷ c ∷ xs → ⊥
two_words None u v a b c xs same = cc
two_words (Some x) u v a b c xs same = cc

pub one_is_none : (bytes word : List ℕ) (left : Left) → words_of bytes ≡ word ∷ [] → SaysLeft bytes left → ⊥
one_is_none bytes word left is says = one_word left.hung word _ _ _ (sym is ∙ says.words)

pub two_are_none : (bytes u v : List ℕ) (left : Left) → words_of bytes ≡ u ∷ v ∷ [] → SaysLeft bytes left → ⊥
two_are_none bytes u v left is says = two_words left.hung u v _ _ _ _ (sym is ∙ says.words)

-- words that begin otherwise say it of nobody
nobody : (h : Option Actor) (first : List ℕ) (rest xs : List (List ℕ)) → (first ≡ codes "hung" → ⊥) → first ∷ rest ≡ hung_words h ++ xs → h ≡ None
nobody None first rest xs other same = refl
nobody (Some x) first rest xs other same = absurd (other (ap (λ ws. at ws 0) same))

pub says_nobody : (bytes first : List ℕ) (rest : List (List ℕ)) (left : Left) → (first ≡ codes "hung" → ⊥) → words_of bytes ≡ first ∷ rest
    → SaysLeft bytes left → left.hung ≡ None
says_nobody bytes first rest left other is says = nobody left.hung first rest (rest_of left) other (sym is ∙ says.words)

-- the word behind is of no actor
no_actor : (h : Option Actor) (v : Standing) (word : List ℕ) (rest xs : List (List ℕ)) → Reads HasSmallActor actor_word word None
    → IfSome h HasSmallActor → codes "hung" ∷ word ∷ rest ≡ hung_words h ++ standing_word v ∷ xs → ⊥
no_actor None v word rest xs none small same = not_hung v (sym (ap (λ ws. at ws 0) same))
no_actor (Some x) v word rest xs none small same = none x small (ap (λ ws. at ws 1) same)

pub names_nobody : (bytes word : List ℕ) (rest : List (List ℕ)) (left : Left) → Reads HasSmallActor actor_word word None
    → words_of bytes ≡ codes "hung" ∷ word ∷ rest → SaysLeft bytes left → ⊥
names_nobody bytes word rest left none is says =
    no_actor left.hung left.standing word rest _ none says.actor (sym is ∙ says.words)

-- it is of this one
somebody : (h : Option Actor) (v : Standing) (x : Actor) (rest xs : List (List ℕ)) → HasSmallActor x → IfSome h HasSmallActor
    → codes "hung" ∷ actor_word x ∷ rest ≡ hung_words h ++ standing_word v ∷ xs → h ≡ Some x
somebody None v x rest xs small low same = absurd (not_hung v (sym (ap (λ ws. at ws 0) same)))
somebody (Some y) v x rest xs small low same = ap Some (actor_tells y x low small (sym (ap (λ ws. at ws 1) same)))

pub says_somebody : (bytes : List ℕ) (x : Actor) (rest : List (List ℕ)) (left : Left) → HasSmallActor x
    → words_of bytes ≡ codes "hung" ∷ actor_word x ∷ rest → SaysLeft bytes left → left.hung ≡ Some x
says_somebody bytes x rest left small is says =
    somebody left.hung left.standing x rest _ small says.actor (sym is ∙ says.words)

-- what is left behind it
cut_off : (h : Option Actor) (xs ys : List (List ℕ)) → hung_words h ++ xs ≡ hung_words h ++ ys → xs ≡ ys
cut_off None xs ys same = same
cut_off (Some x) xs ys same = ap (λ (ws : List (List ℕ)). drop 2 ws) same

pub behind_is : (bytes behind : List ℕ) (hung : Option Actor) (left : Left) → SaysHung bytes hung behind → left.hung ≡ hung
    → SaysLeft bytes left → words_of behind ≡ rest_of left
behind_is bytes behind hung left cut same says = cut_off hung (words_of behind) (rest_of left)
    (sym cut.words ∙ (says.words ∙ ap (λ (h : Option Actor). hung_words h ++ rest_of left) same))

-- a word that is none for what waits
pub waits_for_none : (bytes behind rest waits : List ℕ) (hung : Option Actor) (a b : List ℕ) → SaysHung bytes hung behind
    → ((left : Left) → SaysLeft bytes left → left.hung ≡ hung) → words_of behind ≡ a ∷ words_of rest → words_of rest ≡ b ∷ words_of waits
    → ((left : Left) → waits ≡ waits_word (left.stored, left.pending) → ⊥) → (left : Left) → SaysLeft bytes left → ⊥
waits_for_none bytes behind rest waits hung a b cut tells first second none left says =
    let all : a ∷ b ∷ words_of waits ≡ rest_of left =
    sym (first ∙ ap (λ (ws : List (List ℕ)). a ∷ ws) second) ∙ behind_is bytes behind hung left cut (tells left says) says in
    none left (one_word_is waits (waits_word (left.stored, left.pending)) (ap (λ (ws : List (List ℕ)). drop 2 ws) all))
