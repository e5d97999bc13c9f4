-- A line whose own driver makes all moves, each in force at once: the mask in force is that of the last of its calls.
use Rattle.std.proofs.Common.{◌≡◌, ℕ, zero, suc, Bool, true, false, cond, Option, Some, None, is_some, List, [], ◌∷◌, drop, filter, length, nat_lt}
use Rattle.std.proofs.Common.{reverse, All, inl, inr, refl, ap, ◌∙◌, sym, subst, arith}
use Rattle.std.proofs.lemmas.Bool.{le-ltb}
use Rattle.std.proofs.lemmas.List.{length-reverse, reverse-reverse}
use Rattle.std.proofs.lemmas.List.Elements.{All-drop}
use Rattle.board_def.proofs.Rising.{head_of, tail_of, all_of}
use Rattle.irq_base.specs.Who.{actor_of}
use Rattle.irq_base.specs.declared.calls.Call.{Call}
use Rattle.irq_base.specs.declared.calls.Call.TheVariants as calls
use Rattle.irq_base.specs.declared.entries.Actor.{Actor}
use Rattle.irq_base.specs.declared.entries.Actor.TheVariants as actors
use Rattle.irq_base.specs.declared.entries.AffinityAnswer.{AffinityAnswer}
use Rattle.irq_base.specs.declared.entries.AffinityAnswer.TheVariants as moves
use Rattle.irq_base.specs.declared.entries.Entry.{Entry}
use Rattle.irq_base.specs.declared.entries.Entry.TheVariants as by
use Rattle.irq_base.specs.declared.entries.CpuEntry.TheVariants as cpus
use Rattle.irq_base.specs.declared.entries.DriverEntry.TheVariants as drivers
use Rattle.irq_base.specs.declared.entries.Errno.TheVariants as errors
use Rattle.irq_base.specs.declared.lines.LineDef.{LineDef}
use Rattle.irq_base.specs.declared.numbers.CpuNo.{CpuNo}
use Rattle.irq_base.specs.declared.numbers.DriverNo.{DriverNo}
use Rattle.irq_model.specs.Due.{calls_by, due_call, due_of, entries_by, entries_of_call}
use Rattle.irq_model.specs.Kinds.{is_by_driver, is_driver, same_driver}
use Rattle.irq_model.specs.Legal.{IsDue, IsLegalPast}
use Rattle.irq_model.specs.Next.{affinity_answer, next_of_driver, next_past}
use Rattle.irq_model.specs.Places.{last_place, since}
use Rattle.irq_model.specs.Signal.{lowest_in, mask_of, puts_in_force, target}
use Rattle.irq_model.specs.Waits.{nothing_wanted, wanted_of, IsCaughtPast, StandsIn, WaitsFor, WaitsThrough}
use Rattle.irq_model.proofs.Same.{driver_from_same}
use Rattle.irq_laws.proofs.ImpliesDriver.{affinity_due}
use Rattle.irq_laws.proofs.OwnLaws.{takes_at_target}
use Rattle.hotplug_plan.specs.Planned.{is_affinity}
use Rattle.hotplug_play.specs.Aims.{IsTakenBy}

-- ---- the mask in force

abbrev IsNow : Entry → Type 0
IsNow (by.Driver driver (drivers.Affinity answer mask)) = answer ≡ moves.Now
IsNow _ = Unit {0}

abbrev AreNow : List Entry → Type 0
AreNow [] = Unit {0}
AreNow (e ∷ past) = IsNow e × AreNow past

-- the mask of the newest move
abbrev pub newest_mask : ℕ → List Entry → ℕ
newest_mask m [] = m
newest_mask m (by.Driver driver (drivers.Affinity answer mask) ∷ past) = mask
newest_mask m (_ ∷ past) = newest_mask m past

in_force : (pre : List Entry → List Entry) (m : ℕ) (past : List Entry) → AreNow past
    → mask_of m (last_place (λ a u. puts_in_force (pre a) u) past) ≡ newest_mask m past
in_force pre m [] now = refl
in_force pre m (by.Driver driver (drivers.Affinity moves.Now mask) ∷ past) now = refl
in_force pre m (by.Driver driver (drivers.Affinity moves.Later mask) ∷ past) now = let is = now.0 in absurd cc
in_force pre m (by.Driver driver (drivers.Affinity (moves.Refused error) mask) ∷ past) now = let is = now.0 in absurd cc
in_force pre m (e ∷ past) now = in_force (λ a. pre (e ∷ a)) m past now.1

-- ---- calls that are moves

-- the mask after the first n of the calls
abbrev mask_before : ℕ → ℕ → List Call → ℕ
mask_before zero m cs = m
mask_before (suc n) m [] = m
mask_before (suc n) m (calls.Affinity mask ∷ cs) = mask_before n mask cs
mask_before (suc n) m (_ ∷ cs) = mask_before n m cs

-- the mask after all of them
abbrev pub last_mask : ℕ → List Call → ℕ
last_mask m [] = m
last_mask m (calls.Affinity mask ∷ cs) = last_mask mask cs
last_mask m (_ ∷ cs) = last_mask m cs

abbrev first_due : List Call → Option (Call × ℕ)
first_due [] = None
first_due (c ∷ cs) = Some (c, 0)

mask_all : (n m : ℕ) (cs : List Call) → drop n cs ≡ [] → mask_before n m cs ≡ last_mask m cs
mask_all zero m cs none = sym (ap (last_mask m) none)
mask_all (suc n) m [] none = refl
mask_all (suc n) m (calls.Affinity mask ∷ cs) none = mask_all n mask cs none
mask_all (suc n) m (c ∷ cs) none = mask_all n m cs none

abbrev no_calls : List Call
no_calls = []

no_more : (n : ℕ) → drop n no_calls ≡ no_calls
no_more zero = refl
no_more (suc n) = refl

due_none : (cs : List Call) → first_due cs ≡ None → cs ≡ []
due_none [] none = refl
due_none (c ∷ cs) none = absurd cc

abbrev call_or : Call → Option (Call × ℕ) → Call
call_or d (Some x) = x.0
call_or d None = d

abbrev due_at : Call → ℕ → Option (Call × ℕ)
due_at c n = Some (c, n)

-- what is due is that call
same_call : (d c : Call) (m n : ℕ) → due_at d m ≡ due_at c n → d ≡ c
same_call d c m n is = ap (call_or d) is

due_some : (cs : List Call) (c : Call) (n : ℕ) → first_due cs ≡ Some (c, n) → (rest : List Call) × (cs ≡ c ∷ rest)
due_some [] c n is = absurd cc
due_some (d ∷ ds) c n is = (ds, ap (λ x. x ∷ ds) (same_call d c 0 n is))

-- the call moves a line to one of the machine's processors
abbrev pub Fits : ℕ → Call → Type 0
Fits cpus (calls.Affinity mask) = is_some (lowest_in cpus mask) ≡ true
Fits cpus _ = ⊥

abbrev pub IsNoMove : Call → Type 0
IsNoMove c = is_affinity c ≡ false

module _ (def : LineDef) (r : DriverNo) where
  -- the driver's calls are moves, the others' aren't, and each move is in force at once
  pub record IsMovedBy : Type 0 where
    pub own : All (Fits def.cpus) (calls_by r def.calls)
    pub others : (s : DriverNo) → same_driver r s ≡ false → All IsNoMove (calls_by s def.calls)
    pub at_once : def.later ≡ false

  mask_here : (n m mask : ℕ) (cs rest : List Call) → All (Fits def.cpus) cs → drop n cs ≡ calls.Affinity mask ∷ rest → mask_before (suc n) m cs ≡ mask
  mask_here n m mask [] rest fits at = let none = no_more n in absurd cc
  mask_here zero m mask (calls.Affinity k ∷ cs) rest fits at = let same : k ≡ mask = cc in same
  mask_here (suc n) m mask (calls.Affinity k ∷ cs) rest fits at = mask_here n k mask cs rest (tail_of (Fits def.cpus) (calls.Affinity k) cs fits) at
  mask_here n m mask (c ∷ cs) rest fits at = absurd (head_of (Fits def.cpus) c cs fits)

  due_is : (cs : List Call) (es : List Entry) → All (Fits def.cpus) cs → due_of cs es ≡ first_due (drop (length es) cs)
  due_is [] es fits = sym (ap first_due (no_more (length es)))
  due_is (calls.Affinity k ∷ cs) [] fits = refl
  due_is (calls.Affinity k ∷ cs) (e ∷ es) fits =
      ap (λ t. cond t (Some (calls.Affinity k, length (e ∷ es))) (due_of cs es)) (le-ltb (length (e ∷ es)) 1 (omega arith))
      ∙ due_is cs es (tail_of (Fits def.cpus) (calls.Affinity k) cs fits)
  due_is (c ∷ cs) es fits = absurd (head_of (Fits def.cpus) c cs fits)

  no_move_due : (cs : List Call) (es : List Entry) (mask n : ℕ) → All IsNoMove cs → due_of cs es ≡ Some (calls.Affinity mask, n) → ⊥
  no_move_due [] es mask n none due = cc
  no_move_due (c ∷ cs) es mask n none due = by_case (nat_lt (length es) (entries_of_call c es)) due (head_of IsNoMove c cs none)
      (λ d. no_move_due cs (drop (entries_of_call c es) es) mask n (tail_of IsNoMove c cs none) d)
    where
      by_case : (t : Bool) → cond t (Some (c, length es)) (due_of cs (drop (entries_of_call c es) es)) ≡ Some (calls.Affinity mask, n)
          → is_affinity c ≡ false → (due_of cs (drop (entries_of_call c es) es) ≡ Some (calls.Affinity mask, n) → ⊥) → ⊥
      by_case true due none deeper =
          let is : is_affinity c ≡ true = ap is_affinity (same_call c (calls.Affinity mask) (length es) n due) in absurd cc
      by_case false due none deeper = deeper due

  -- what the driver made
  abbrev own_entries : List Entry → List Entry
  own_entries past = filter (is_by_driver r) past

  -- what a past tells: each move is in force at once, and the newest is the last of the calls so far
  pub record Tells (past : List Entry) : Type 0 where
    pub now : AreNow past
    pub mask : newest_mask def.mask past ≡ mask_before (length (own_entries past)) def.mask (calls_by r def.calls)

  due_first : IsMovedBy → (past : List Entry) → due_call def r past ≡ first_due (drop (length (own_entries past)) (calls_by r def.calls))
  due_first moved past =
      due_is (calls_by r def.calls) (entries_by r past) moved.own
      ∙ ap (λ n. first_due (drop n (calls_by r def.calls))) (length-reverse (own_entries past))

  -- a move waits for nobody: the driver's call is due until all are made
  pub move_is_due : IsMovedBy → (past : List Entry) → next_past def past (actors.Driver r) ≡ None → due_call def r past ≡ None
  move_is_due moved past none =
      by_case (drop (length (own_entries past)) (calls_by r def.calls)) (All-drop (Fits def.cpus) (length (own_entries past)) (calls_by r def.calls) moved.own)
      (due_first moved past) (sym (ap (next_of_driver def r past) (due_first moved past)) ∙ none)
    where
      by_case : (cs : List Call) → All (Fits def.cpus) cs → due_call def r past ≡ first_due cs → next_of_driver def r past (first_due cs) ≡ None
          → due_call def r past ≡ None
      by_case [] fits due none = due
      by_case (calls.Affinity mask ∷ cs) fits due none = absurd cc
      by_case (c ∷ cs) fits due none = absurd (head_of (Fits def.cpus) c cs fits)

  waits_not : IsMovedBy → (past : List Entry) (b : Actor) → WaitsFor def past (actors.Driver r) b → ⊥
  waits_not moved past b w =
      nobody b (subst (λ (o : Option (Call × ℕ)). StandsIn def past (wanted_of o) b) (move_is_due moved past w.0) w.1)
    where
      nobody : (b : Actor) → StandsIn def past nothing_wanted b → ⊥
      nobody (actors.Thread d) s = s
      nobody (actors.Cpu c) s = s
      nobody (actors.Driver s) h = h

  pub never_caught : IsMovedBy → (past : List Entry) → IsCaughtPast def past (actors.Driver r) → ⊥
  never_caught moved past caught = elim caught [
    | inl hung ↦ never_through hung.0 (actors.Driver r) hung.1
    | inr held ↦ never_through held.0 held.1 held.2
  ]
    where
      never_through : (n : ℕ) (b : Actor) → WaitsThrough def past n (actors.Driver r) b → ⊥
      never_through zero b w = waits_not moved past b w
      never_through (suc n) b w = waits_not moved past w.0 w.1

  fits_now : IsMovedBy → (mask : ℕ) → Fits def.cpus (calls.Affinity mask) → affinity_answer def mask ≡ moves.Now
  fits_now moved mask fits =
      ap (λ t. cond t (cond def.later moves.Later moves.Now) (moves.Refused errors.Inval)) fits ∙ ap (λ t. cond t moves.Later moves.Now) moved.at_once

  one_more : (t : Bool) (e : Entry) (past : List Entry) → is_by_driver r e ≡ t → own_entries (e ∷ past) ≡ cond t (e ∷ own_entries past) (own_entries past)
  one_more t e past is = ap (λ u. cond u (e ∷ own_entries past) (own_entries past)) is

  -- ---- one more entry

  tells_move : IsMovedBy → (s : DriverNo) (mask : ℕ) (answer : AffinityAnswer) (past : List Entry) → IsDue def (by.Driver s (drivers.Affinity answer mask)) past
      → Tells past → Tells (by.Driver s (drivers.Affinity answer mask) ∷ past)
  tells_move moved s mask answer past due tells = by_case (same_driver r s) refl
    where
      count : ℕ
      count = (affinity_due def s mask answer past due).count

      call : due_call def s past ≡ Some (calls.Affinity mask, count)
      call = (affinity_due def s mask answer past due).call

      by_case : (t : Bool) → same_driver r s ≡ t → Tells (by.Driver s (drivers.Affinity answer mask) ∷ past)
      by_case true same =
          let n = length (own_entries past) in
          let mine : due_call def r past ≡ Some (calls.Affinity mask, count) =
          ap (λ x. due_call def x past) (driver_from_same r s same) ∙ call in
          let rest = due_some (drop n (calls_by r def.calls)) (calls.Affinity mask) count (sym (due_first moved past) ∙ mine) in
          let fits : Fits def.cpus (calls.Affinity mask) =
          head_of (Fits def.cpus) (calls.Affinity mask) rest.0
          (subst (All (Fits def.cpus)) rest.1 (All-drop (Fits def.cpus) n (calls_by r def.calls) moved.own)) in
          record {
            now = ((affinity_due def s mask answer past due).answer_is ∙ fits_now moved mask fits, tells.now);
            mask = sym (ap (λ es. mask_before (length es) def.mask (calls_by r def.calls))
                (one_more true (by.Driver s (drivers.Affinity answer mask)) past same)
                ∙ mask_here n def.mask mask (calls_by r def.calls) rest.0 moved.own rest.1);
          }
      by_case false other = absurd (no_move_due (calls_by s def.calls) (entries_by s past) mask count (moved.others s other) call)

  passes : (e : Entry) (past : List Entry) → IsNow e → newest_mask def.mask (e ∷ past) ≡ newest_mask def.mask past → is_by_driver r e ≡ false
      → Tells past → Tells (e ∷ past)
  passes e past now same other tells =
      record {
        now = (now, tells.now);
        mask = same ∙ tells.mask ∙ sym (ap (λ es. mask_before (length es) def.mask (calls_by r def.calls)) (one_more false e past other));
      }

  -- of the driver a move alone is due
  own_move : IsMovedBy → (e : Entry) (past : List Entry) → next_past def past (actors.Driver r) ≡ Some e
      → (mask : ℕ) × (answer : AffinityAnswer) × (e ≡ by.Driver r (drivers.Affinity answer mask))
  own_move moved e past due =
      by_case (drop (length (own_entries past)) (calls_by r def.calls)) (All-drop (Fits def.cpus) (length (own_entries past)) (calls_by r def.calls) moved.own)
      (sym (ap (next_of_driver def r past) (due_first moved past)) ∙ due)
    where
      by_case : (cs : List Call) → All (Fits def.cpus) cs → next_of_driver def r past (first_due cs) ≡ Some e
          → (mask : ℕ) × (answer : AffinityAnswer) × (e ≡ by.Driver r (drivers.Affinity answer mask))
      by_case [] fits due = absurd cc
      by_case (calls.Affinity mask ∷ cs) fits due =
          (mask, affinity_answer def mask, (let same : e ≡ by.Driver r (drivers.Affinity (affinity_answer def mask) mask) = cc in same))
      by_case (c ∷ cs) fits due = absurd (head_of (Fits def.cpus) c cs fits)

  is_that : (a : Actor) → is_driver r a ≡ true → a ≡ actors.Driver r
  is_that (actors.Driver s) is = ap (λ x. actors.Driver x) (sym (driver_from_same r s is))
  is_that a is = absurd cc

  tells_quiet : IsMovedBy → (e : Entry) (past : List Entry) → IsDue def e past → IsNow e
      → newest_mask def.mask (e ∷ past) ≡ newest_mask def.mask past
      → ((mask : ℕ) (answer : AffinityAnswer) → e ≡ by.Driver r (drivers.Affinity answer mask) → ⊥) → Tells past → Tells (e ∷ past)
  tells_quiet moved e past due now same differs tells = by_case (is_by_driver r e) refl
    where
      by_case : (t : Bool) → is_by_driver r e ≡ t → Tells (e ∷ past)
      by_case true own =
          let whom : actor_of e ≡ actors.Driver r = is_that (actor_of e) own in
          let move = own_move moved e past (ap (next_past def past) (sym whom) ∙ due) in
          absurd (differs move.0 move.1 move.2)
      by_case false other = passes e past now same other tells

  tells_more : IsMovedBy → (e : Entry) (past : List Entry) → IsDue def e past → Tells past → Tells (e ∷ past)
  tells_more moved (by.Driver s (drivers.Affinity answer mask)) past due tells = tells_move moved s mask answer past due tells
  tells_more moved e past due tells = tells_quiet moved e past due tt refl (λ mask answer is. cc) tells

  tells_all : IsMovedBy → (past : List Entry) → IsLegalPast def past → Tells past
  tells_all moved [] legal = record { now = tt; mask = refl }
  tells_all moved (e ∷ past) legal = tells_more moved e past legal.0 (tells_all moved past legal.1)

  -- ---- the target, and who takes

  target_is : IsMovedBy → (past : List Entry) → IsLegalPast def past → target def past ≡ lowest_in def.cpus (newest_mask def.mask past)
  target_is moved past legal = ap (lowest_in def.cpus) (in_force (λ a. a) def.mask past (tells_all moved past legal).now)

  mask_at_end : IsMovedBy → (past : List Entry) → IsLegalPast def past → due_call def r past ≡ None
      → newest_mask def.mask past ≡ last_mask def.mask (calls_by r def.calls)
  mask_at_end moved past legal none =
      let n = length (own_entries past) in
      (tells_all moved past legal).mask
      ∙ mask_all n def.mask (calls_by r def.calls) (due_none (drop n (calls_by r def.calls)) (sym (due_first moved past) ∙ none))

  mask_stays : IsMovedBy → (e : Entry) (past : List Entry) → IsDue def e past → is_by_driver r e ≡ false
      → newest_mask def.mask (e ∷ past) ≡ newest_mask def.mask past
  mask_stays moved (by.Driver s (drivers.Affinity answer mask)) past due other =
      let row = affinity_due def s mask answer past due in
      absurd (no_move_due (calls_by s def.calls) (entries_by s past) mask row.count (moved.others s other) row.call)
  mask_stays moved e past due other = refl

  some_cpu : (c d : CpuNo) → Some c ≡ Some d → c ≡ d
  some_cpu c d is = cc

  taken_by : (e : Entry) (past : List Entry) → IsDue def e past → (cpu : CpuNo) → target def past ≡ Some cpu → IsTakenBy cpu e
  taken_by (by.Cpu c (cpus.Take way answer)) past due cpu is =
      let there : target def (reverse (reverse past)) ≡ Some c =
      takes_at_target def (reverse past) c (by.Cpu c (cpus.Take way answer)) refl (ap (λ p. next_past def p (actors.Cpu c)) (reverse-reverse past) ∙ due) in
      some_cpu c cpu (sym there ∙ ap (target def) (reverse-reverse past) ∙ is)
  taken_by e past due cpu is = tt

  late_takes : IsMovedBy → (cpu : CpuNo) (past : List Entry) → IsLegalPast def past
      → lowest_in def.cpus (newest_mask def.mask past) ≡ Some cpu → All (IsTakenBy cpu) (since (is_by_driver r) past)
  late_takes moved cpu [] legal is = λ k d h. absurd (omega arith)
  late_takes moved cpu (e ∷ past) legal is = by_case (is_by_driver r e) refl (late_takes moved cpu past legal.1)
    where
      by_case : (t : Bool) → is_by_driver r e ≡ t
          → (lowest_in def.cpus (newest_mask def.mask past) ≡ Some cpu → All (IsTakenBy cpu) (since (is_by_driver r) past))
          → All (IsTakenBy cpu) (cond t [] (e ∷ since (is_by_driver r) past))
      by_case true own deeper = λ k d h. absurd (omega arith)
      by_case false other deeper =
          let before : lowest_in def.cpus (newest_mask def.mask past) ≡ Some cpu =
          ap (lowest_in def.cpus) (sym (mask_stays moved e past legal.0 other)) ∙ is in
          all_of (IsTakenBy cpu) e (since (is_by_driver r) past)
          (taken_by e past legal.0 cpu (target_is moved past legal.1 ∙ before)) (deeper before)

  -- the processor that the last call moves the line to takes its interrupts
  pub goes_there : IsMovedBy → (cpu : CpuNo) (past : List Entry) → IsLegalPast def past → due_call def r past ≡ None
      → lowest_in def.cpus (last_mask def.mask (calls_by r def.calls)) ≡ Some cpu
      → (target def past ≡ Some cpu) × All (IsTakenBy cpu) (since (is_by_driver r) past)
  goes_there moved cpu past legal none is =
      let last : lowest_in def.cpus (newest_mask def.mask past) ≡ Some cpu =
      ap (lowest_in def.cpus) (mask_at_end moved past legal none) ∙ is in
      (target_is moved past legal ∙ last, late_takes moved cpu past legal last)
