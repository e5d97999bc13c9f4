-- Lines that found vectors of online processors are placed there.
use Rattle.std.proofs.Common.{◌≡◌, ◌≢◌, ℕ, zero, suc, ◌+◌, ◌<◌, ◌≤◌, ◌==◌, Bool, true, false, not, ◌&&◌, cond, Option}
use Rattle.std.proofs.Common.{Some, None, is_some, List, [], ◌∷◌, ◌++◌, length, All, refl, ap, ◌∙◌, sym, subst, arith}
use Rattle.std.proofs.Common.{add-zero, length-append, length-set, eqb-true, count_by}
use Rattle.std.specs.Prelude.{slice_set}
use Rattle.std.specs.Option.{option_or}
use Rattle.std.proofs.lemmas.Bool.{false≢true, and_parts}
use Rattle.std.proofs.lemmas.List.{get_or-set_other}
use Rattle.std.proofs.lemmas.Grind.{get_or-set_at}
use Rattle.std.proofs.lemmas.List.Elements.{All-weaker}
use Rattle.irq_base.specs.declared.numbers.CpuNo.{CpuNo}
use Rattle.irq_base.specs.declared.numbers.LineNo.{LineNo}
use Rattle.board_def.proofs.Rising.{head_of, tail_of, all_of, equals_itself}
use Rattle.vector_matrix.specs.Vectors.{vector_of}
use Rattle.vector_matrix.specs.declared.view.Vector.{Vector}
use Rattle.irq_hotplug.specs.Placing.{lowest_free, first_free, is_asked, is_online, place_for}
use Rattle.irq_hotplug.specs.Berths.{IfThere, IsOnline, IsPlaced, is_at, stands_at, all_found, all_settled, finds, is_moved, is_on, is_taken, left_out, settled}
use Rattle.irq_hotplug.specs.Fleet.{without_cpu}
use Rattle.irq_hotplug.specs.Kept.{HasQueue, IsBare}
use Rattle.irq_hotplug.proofs.Counting.{count_more}
use Rattle.irq_hotplug.specs.declared.berths.Berth.{Berth}
use Rattle.irq_hotplug.specs.declared.berths.Moving.{Moving}
use Rattle.irq_hotplug.specs.declared.berths.Moving.TheVariants as moving

-- ---- what is found is online

if_either : (P : Vector → Type 0) (p q : Option Vector) → IfThere P p → IfThere P q → IfThere P (option_or p q)
if_either P (Some v) q first second = first
if_either P None q first second = second

if_weaker : (P Q : Vector → Type 0) → ((v : Vector) → P v → Q v) → (p : Option Vector) → IfThere P p → IfThere Q p
if_weaker P Q weaker (Some v) is = weaker v is
if_weaker P Q weaker None is = tt

if_unless : (P : Vector → Type 0) (t : Bool) (v : Vector) → P v → IfThere P (cond t None (Some v))
if_unless P true v is = tt
if_unless P false v is = is

if_when : (P : Vector → Type 0) (t : Bool) (p : Option Vector) → (t ≡ true → IfThere P p) → IfThere P (cond t p None)
if_when P true p is = is refl
if_when P false p is = tt

lowest_below : (taken : Vector → Bool) (cpu n : ℕ) → IfThere (λ v. (v.cpu.0 ≡ cpu) × (v.number < n)) (lowest_free taken cpu n)
lowest_below taken cpu zero = tt
lowest_below taken cpu (suc n) =
    if_either (λ v. (v.cpu.0 ≡ cpu) × (v.number < suc n)) (lowest_free taken cpu n)
    (cond (taken (vector_of (record { 0 = cpu }) n)) None (Some (vector_of (record { 0 = cpu }) n)))
    (if_weaker (λ v. (v.cpu.0 ≡ cpu) × (v.number < n)) (λ v. (v.cpu.0 ≡ cpu) × (v.number < suc n)) (λ v is. (is.0, omega (arith, is.1)))
    (lowest_free taken cpu n) (lowest_below taken cpu n))
    (if_unless (λ v. (v.cpu.0 ≡ cpu) × (v.number < suc n)) (taken (vector_of (record { 0 = cpu }) n)) (vector_of (record { 0 = cpu }) n) (refl, omega arith))

asked_online : (online : List Bool) (mask : ℕ) (inside : Bool) (cpu : ℕ) → is_asked online mask inside cpu ≡ true → is_online online cpu ≡ true
asked_online online mask true cpu is = (and_parts (is_online online cpu) _ is).0
asked_online online mask false cpu is = (and_parts (is_online online cpu) _ is).0

first_online : (taken : Vector → Bool) (vectors : ℕ) (online : List Bool) (mask : ℕ) (inside : Bool) (n : ℕ) → n ≤ length online
    → IfThere (IsOnline vectors online) (first_free taken vectors (is_asked online mask inside) n)
first_online taken vectors online mask inside zero most = tt
first_online taken vectors online mask inside (suc n) most =
    if_either (IsOnline vectors online) (first_free taken vectors (is_asked online mask inside) n)
    (cond (is_asked online mask inside n) (lowest_free taken n vectors) None)
    (first_online taken vectors online mask inside n (omega (arith, most)))
    (if_when (IsOnline vectors online) (is_asked online mask inside n) (lowest_free taken n vectors) (λ asked.
    if_weaker (λ v. (v.cpu.0 ≡ n) × (v.number < vectors)) (IsOnline vectors online) (λ v is. record {
      there = omega (arith, is.0, most);
      online_now = ap (is_online online) is.0 ∙ asked_online online mask inside n asked;
      number = is.1;
    }) (lowest_free taken n vectors) (lowest_below taken n vectors)))

place_online : (taken : Vector → Bool) (vectors : ℕ) (online : List Bool) (mask : ℕ) → IfThere (IsOnline vectors online) (place_for taken vectors online mask)
place_online taken vectors online mask =
    if_either (IsOnline vectors online) (first_free taken vectors (is_asked online mask true) (length online))
    (first_free taken vectors (is_asked online mask false) (length online))
    (first_online taken vectors online mask true (length online) (omega arith))
    (first_online taken vectors online mask false (length online) (omega arith))

find_online : (m : Moving) (vectors : ℕ) (online : List Bool) (taken : Vector → Bool) (b : Berth)
    → IfThere (IsOnline vectors online) (finds m vectors online taken b)
find_online m vectors online taken b =
    if_when (IsOnline vectors online) (is_moved m b) (place_for taken vectors online b.mask) (λ moved. place_online taken vectors online b.mask)

put_all : {A : Type 0} (P : A → Type 0) (xs : List A) (x : A) → All P xs → P x → All P (xs ++ x ∷ [])
put_all P [] x all is = all_of P x [] is (λ k d h. absurd (omega arith))
put_all P (y ∷ ys) x all is = all_of P y (ys ++ x ∷ []) (head_of P y ys all) (put_all P ys x (tail_of P y ys all) is)

pub all_online : (m : Moving) (vectors : ℕ) (online : List Bool) (berths : List Berth) (before : List (Option Vector)) (bs : List Berth)
    → All (IfThere (IsOnline vectors online)) before → All (IfThere (IsOnline vectors online)) (all_found m vectors online berths before bs)
all_online m vectors online berths before [] all = all
all_online m vectors online berths before (b ∷ bs) all =
    let p = finds m vectors online (is_taken berths before) b in
    all_online m vectors online berths (before ++ p ∷ []) bs
    (put_all (IfThere (IsOnline vectors online)) before p all (find_online m vectors online (is_taken berths before) b))

pub found_length : (m : Moving) (vectors : ℕ) (online : List Bool) (berths : List Berth) (before : List (Option Vector)) (bs : List Berth)
    → length (all_found m vectors online berths before bs) ≡ length before + length bs
found_length m vectors online berths before [] = sym (add-zero (length before))
found_length m vectors online berths before (b ∷ bs) =
    let p = finds m vectors online (is_taken berths before) b in
    found_length m vectors online berths (before ++ p ∷ []) bs ∙ omega (arith, length-append before (p ∷ []))

-- ---- settled lines

settled_queue : (p : Option Vector) (b : Berth) → HasQueue b → HasQueue (settled p b)
settled_queue (Some v) b is = is
settled_queue None b is = is

pub settled_queues : (bs : List Berth) (ps : List (Option Vector)) → All HasQueue bs → All HasQueue (all_settled bs ps)
settled_queues [] ps all = all
settled_queues (b ∷ bs) [] all = λ k d h. absurd (omega arith)
settled_queues (b ∷ bs) (p ∷ ps) all =
    all_of HasQueue (settled p b) (all_settled bs ps) (settled_queue p b (head_of HasQueue b bs all)) (settled_queues bs ps (tail_of HasQueue b bs all))

pub settled_length : (bs : List Berth) (ps : List (Option Vector)) → length (all_settled bs ps) ≤ length bs
settled_length [] ps = omega arith
settled_length (b ∷ bs) [] = omega arith
settled_length (b ∷ bs) (p ∷ ps) = omega (arith, settled_length bs ps)

pub placed_first : (vectors : ℕ) (online : List Bool) (bs : List Berth) (ps : List (Option Vector))
    → All IsBare bs → All (IfThere (IsOnline vectors online)) ps → All (IsPlaced vectors online) (all_settled bs ps)
placed_first vectors online [] ps bare all = λ k d h. absurd (omega arith)
placed_first vectors online (b ∷ bs) [] bare all = λ k d h. absurd (omega arith)
placed_first vectors online (b ∷ bs) (p ∷ ps) bare all =
    all_of (IsPlaced vectors online) (settled p b) (all_settled bs ps)
    (here p (head_of (IfThere (IsOnline vectors online)) p ps all))
    (placed_first vectors online bs ps (tail_of IsBare b bs bare) (tail_of (IfThere (IsOnline vectors online)) p ps all))
  where
    here : (q : Option Vector) → IfThere (IsOnline vectors online) q → IsPlaced vectors online (settled q b)
    here (Some v) is = is
    here None is = subst (IfThere (IsOnline vectors online)) (sym (head_of IsBare b bs bare).place) tt

apart_from : (d c : ℕ) → (d == c) ≡ false → d ≢ c
apart_from d c apart = λ e. false≢true (sym apart ∙ (ap (λ x. x == c) e ∙ equals_itself c))

set_other : (online : List Bool) (c : ℕ) (to : Bool) (d : ℕ) → (d == c) ≡ false → is_online (slice_set online c to) d ≡ is_online online d
set_other online c to d apart = get_or-set_other online c d to false (apart_from d c apart)

stays_online : (vectors : ℕ) (online : List Bool) (cpu : CpuNo) (p : Option Vector) → IfThere (IsOnline vectors online) p → is_on cpu p ≡ false
    → IfThere (IsOnline vectors (without_cpu online cpu)) p
stays_online vectors online cpu None is apart = tt
stays_online vectors online cpu (Some v) is apart =
    record {
      there = omega (arith, is.there, length-set online cpu.0 false);
      online_now = set_other online cpu.0 false v.cpu.0 apart ∙ is.online_now;
      number = is.number;
    }

off_more : (vectors : ℕ) (online : List Bool) (cpu : CpuNo) (b : Berth) (p : Option Vector) (rest : List Berth) (left : Option LineNo)
    → IsPlaced vectors online b → IfThere (IsOnline vectors (without_cpu online cpu)) p → (left ≡ None → All (IsPlaced vectors (without_cpu online cpu)) rest)
    → (t : Bool) → is_on cpu b.place ≡ t → cond (t && not (is_some p)) (Some b.line) left ≡ None
    → All (IsPlaced vectors (without_cpu online cpu)) (settled p b ∷ rest)
off_more vectors online cpu b (Some v) rest left placed found later true is none =
    all_of (IsPlaced vectors (without_cpu online cpu)) (settled (Some v) b) rest found (later none)
off_more vectors online cpu b (Some v) rest left placed found later false is none =
    all_of (IsPlaced vectors (without_cpu online cpu)) (settled (Some v) b) rest found (later none)
off_more vectors online cpu b None rest left placed found later true is none = absurd cc
off_more vectors online cpu b None rest left placed found later false is none =
    all_of (IsPlaced vectors (without_cpu online cpu)) b rest (stays_online vectors online cpu b.place placed is) (later none)

pub placed_off : (vectors : ℕ) (online : List Bool) (cpu : CpuNo) (bs : List Berth) (ps : List (Option Vector))
    → All (IsPlaced vectors online) bs → All (IfThere (IsOnline vectors (without_cpu online cpu))) ps
    → left_out (moving.From cpu) bs ps ≡ None → All (IsPlaced vectors (without_cpu online cpu)) (all_settled bs ps)
placed_off vectors online cpu [] ps placed found none = λ k d h. absurd (omega arith)
placed_off vectors online cpu (b ∷ bs) [] placed found none = λ k d h. absurd (omega arith)
placed_off vectors online cpu (b ∷ bs) (p ∷ ps) placed found none =
    off_more vectors online cpu b p (all_settled bs ps) (left_out (moving.From cpu) bs ps)
    (head_of (IsPlaced vectors online) b bs placed)
    (head_of (IfThere (IsOnline vectors (without_cpu online cpu))) p ps found)
    (placed_off vectors online cpu bs ps (tail_of (IsPlaced vectors online) b bs placed)
    (tail_of (IfThere (IsOnline vectors (without_cpu online cpu))) p ps found))
    (is_on cpu b.place) refl none

-- ---- one more processor is online

with_online : (vectors : ℕ) (online : List Bool) (c : ℕ) (p : Option Vector) → IfThere (IsOnline vectors online) p
    → IfThere (IsOnline vectors (slice_set online c true)) p
with_online vectors online c None is = tt
with_online vectors online c (Some v) is =
    record {
      there = omega (arith, is.there, length-set online c true);
      online_now = by (v.cpu.0 == c) refl;
      number = is.number;
    }
  where
    by : (t : Bool) → (v.cpu.0 == c) ≡ t → is_online (slice_set online c true) v.cpu.0 ≡ true
    by true same = get_or-set_at online c v.cpu.0 true false (eqb-true v.cpu.0 c same) (omega (arith, is.there, eqb-true v.cpu.0 c same))
    by false apart = set_other online c true v.cpu.0 apart ∙ is.online_now

pub placed_on : (vectors : ℕ) (online : List Bool) (c : ℕ) (bs : List Berth) → All (IsPlaced vectors online) bs
    → All (IsPlaced vectors (slice_set online c true)) bs
placed_on vectors online c bs all =
    All-weaker (IsPlaced vectors online) (IsPlaced vectors (slice_set online c true)) (λ b is. with_online vectors online c b.place is) bs all

-- lines that have no vector have none of the vectors
pub bare_counts : (bs : List Berth) (v : Vector) → All IsBare bs → count_by (stands_at v) bs ≡ 0
bare_counts [] v bare = refl
bare_counts (b ∷ bs) v bare =
    count_more (stands_at v) b bs ∙ ap (λ p. cond (is_at v p) 1 0 + count_by (stands_at v) bs) (head_of IsBare b bs bare).place
    ∙ ap (λ n. 0 + n) (bare_counts bs v (tail_of IsBare b bs bare))

pub bare_queues : (bs : List Berth) → All IsBare bs → All HasQueue bs
bare_queues bs bare = All-weaker IsBare HasQueue (λ b is. is.queue) bs bare
