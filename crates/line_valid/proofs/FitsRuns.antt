-- What the tests ask for makes valid runs, and none that wait.
use Rattle.std.proofs.Common.{◌≡◌, ◌+◌, ◌≤◌, Bool, true, false, not, ◌&&◌, ◌||◌, nat_lt, List, [], ◌∷◌, cond, ◌⊎◌, inl, inr}
use Rattle.std.proofs.Common.{length, refl, sym, ap, subst, ◌∙◌, arith}
use Rattle.std.specs.List.{list_all, list_any}
use Rattle.std.proofs.lemmas.Bool.{ltb-true, false≢true, or_cases}
use Rattle.irq_base.specs.declared.calls.Call.{Call}
use Rattle.irq_base.specs.declared.devices.DeviceDef.{DeviceDef}
use Rattle.irq_base.specs.declared.devices.Kind.{Kind}
use Rattle.irq_base.specs.declared.devices.Kind.TheVariants as kinds
use Rattle.irq_base.specs.declared.devices.Part.{Part}
use Rattle.irq_base.specs.declared.devices.Part.TheVariants as parts
use Rattle.irq_base.specs.declared.devices.ToldAnswer.{ToldAnswer}
use Rattle.irq_base.specs.declared.devices.ToldAnswer.TheVariants as tolds
use Rattle.irq_base.specs.declared.lines.LineDef.{LineDef}
use Rattle.irq_base.specs.declared.numbers.DevNo.{DevNo}
use Rattle.irq_model.specs.Kinds.{same_dev}
use Rattle.irq_model.specs.Lines.{is_device, has_device, kind_in, kind_of, same_part}
use Rattle.irq_model.specs.Lines.{script_in, told_in, run_script, told_answers}
use Rattle.irq_model.specs.RunBounds.{arms_this, wakes_by_handler}
use Rattle.irq_model.specs.ValidRuns.{HasValidRuns, WakesWhatItHas, names_own_device, has_script}
use Rattle.irq_model.specs.ValidRuns.{may_stand, may_answer, is_told}
use Rattle.irq_model.proofs.Same.{dev_from_same}
use Rattle.line_valid.specs.DecidingRuns.{fits_run, fits_answer, fits_device, fits_runs, same_truth, wakes_what_it_has, arms_unless_told}
use Rattle.line_valid.proofs.FitsIsValid.{both, each}

-- ---- a device that the line lacks

none_of : (a b : Bool) → (a || b) ≡ false → (a ≡ false) × (b ≡ false)
none_of true b h = cc
none_of false b h = (refl, h)

absent_kind : (xs : List DeviceDef) (d : DevNo) → list_any (is_device d) xs ≡ false → kind_in xs d ≡ kinds.Stuck
absent_kind [] d h = refl
absent_kind (x ∷ xs) d h =
    let n = none_of (is_device d x) (list_any (is_device d) xs) h in
    ap (λ (b : Bool). cond b x.kind (kind_in xs d)) n.0 ∙ absent_kind xs d n.1

absent_is_stuck : (def : LineDef) (d : DevNo) → has_device def d ≡ false → kind_of def d ≡ kinds.Stuck
absent_is_stuck def d = absent_kind def.devices d

no_script : (def : LineDef) (d : DevNo) (part : Part) → has_device def d ≡ false → (cs : List (DevNo × Part × Call))
    → list_all (fits_run def) cs ≡ true → script_in cs d part ≡ []
no_script def d part none [] h = refl
no_script def d part none (c ∷ cs) h = by_same (same_dev d c.0) refl (no_script def d part none cs fits.1)
  where
    fits : (fits_run def c ≡ true) × (list_all (fits_run def) cs ≡ true)
    fits = both (fits_run def c) (list_all (fits_run def) cs) h

    by_same : (b : Bool) → same_dev d c.0 ≡ b → script_in cs d part ≡ [] → script_in (c ∷ cs) d part ≡ []
    by_same true is rest =
        let there = (both (has_device def c.0) _ fits.0).0 in
        absurd (false≢true (sym none ∙ (ap (has_device def) (dev_from_same d c.0 is) ∙ there)))
    by_same false is rest = subst (λ (b : Bool). cond (b && same_part part c.1) (c.2 ∷ script_in cs d part) (script_in cs d part) ≡ []) (sym is) rest

stuck_answers_nothing : (part : Part) (answer : ToldAnswer) → may_answer kinds.Stuck part answer ≡ false
stuck_answers_nothing parts.Primary answer = refl
stuck_answers_nothing parts.Thread tolds.Handled = refl
stuck_answers_nothing parts.Thread tolds.Wake = refl
stuck_answers_nothing parts.Thread tolds.Nothing = refl
stuck_answers_nothing parts.Thread tolds.Claims = refl

no_answers : (def : LineDef) (d : DevNo) (part : Part) → kind_of def d ≡ kinds.Stuck → (cs : List (DevNo × Part × ToldAnswer))
    → list_all (fits_answer def) cs ≡ true → told_in cs d part ≡ []
no_answers def d part stuck [] h = refl
no_answers def d part stuck (c ∷ cs) h = by_same (same_dev d c.0) refl (no_answers def d part stuck cs fits.1)
  where
    fits : (fits_answer def c ≡ true) × (list_all (fits_answer def) cs ≡ true)
    fits = both (fits_answer def c) (list_all (fits_answer def) cs) h

    by_same : (b : Bool) → same_dev d c.0 ≡ b → told_in cs d part ≡ [] → told_in (c ∷ cs) d part ≡ []
    by_same true is rest =
        let kind : kind_of def c.0 ≡ kinds.Stuck = ap (kind_of def) (sym (dev_from_same d c.0 is)) ∙ stuck in
        absurd (false≢true (sym (stuck_answers_nothing c.1 c.2) ∙ (ap (λ (k : Kind). may_answer k c.1 c.2) (sym kind) ∙ fits.0)))
    by_same false is rest = subst (λ (b : Bool). cond (b && same_part part c.1) (c.2 ∷ told_in cs d part) (told_in cs d part) ≡ []) (sym is) rest

-- ---- a device of the line

of_devices : (p : DevNo → Bool) (xs : List DeviceDef) → list_all (λ x. p x.dev) xs ≡ true → (d : DevNo)
    → list_any (is_device d) xs ≡ true → p d ≡ true
of_devices p [] h d there = absurd (false≢true there)
of_devices p (x ∷ xs) h d there =
    let fits = both (p x.dev) (list_all (λ y. p y.dev) xs) h in
    by_place fits.0 (of_devices p xs fits.1 d) (or_cases (is_device d x) (list_any (is_device d) xs) there)
  where
    by_place : p x.dev ≡ true → (list_any (is_device d) xs ≡ true → p d ≡ true)
        → (is_device d x ≡ true) ⊎ (list_any (is_device d) xs ≡ true) → p d ≡ true
    by_place fits deeper (inl here) = ap p (dev_from_same d x.dev here) ∙ fits
    by_place fits deeper (inr later) = deeper later

-- ---- the definition

not_all_three : (a b c : Bool) → not (a && (b && c)) ≡ true → a ≡ true → b ≡ true → c ≡ false
not_all_three a b true h is also = absurd (false≢true (sym (ap not (and_true a b is also)) ∙ h))
  where
    and_true : (x y : Bool) → x ≡ true → y ≡ true → (x && (y && true)) ≡ true
    and_true true true i j = refl
    and_true false y i j = absurd (false≢true i)
    and_true true false i j = absurd (false≢true j)
not_all_three a b false h is also = refl

same_if_true : (a b : Bool) → same_truth a b ≡ true → a ≡ b
same_if_true true true h = refl
same_if_true true false h = absurd (false≢true h)
same_if_true false true h = absurd (false≢true h)
same_if_true false false h = refl

wakes_it : (def : LineDef) (k : Kind) (d : DevNo) → wakes_what_it_has def k d ≡ true → WakesWhatItHas def k d
wakes_it def (kinds.Told threaded) d h = same_if_true _ threaded h
wakes_it def _ d h = tt

abbrev Six : Bool → Bool → Bool → Bool → Bool → Bool → Type 0
Six a b c d e f = (a ≡ true) × (b ≡ true) × (c ≡ true) × (d ≡ true) × (e ≡ true) × (f ≡ true)

six : (a b c d e f : Bool) → (a && (b && (c && (d && (e && f))))) ≡ true → Six a b c d e f
six a b c d e f h =
    let i = both a (b && (c && (d && (e && f)))) h in
    let j = both b (c && (d && (e && f))) i.1 in
    let k = both c (d && (e && f)) j.1 in
    let l = both d (e && f) k.1 in
    let m = both e f l.1 in
    (i.0, j.0, k.0, l.0, m.0, m.1)

abbrev Five : Bool → Bool → Bool → Bool → Bool → Type 0
Five a b c d e = (a ≡ true) × (b ≡ true) × (c ≡ true) × (d ≡ true) × (e ≡ true)

-- of one device: its scripts and answers are short, its thread arms only if it may, and wakes what it has
five : (a b c d e : Bool) → ((a && (b && c)) && (d && e)) ≡ true → Five a b c d e
five a b c d e h =
    let i = both (a && (b && c)) (d && e) h in
    let j = both a (b && c) i.0 in
    let k = both b c j.1 in
    let l = both d e i.1 in
    (j.0, k.0, k.1, l.0, l.1)

abbrev IsFit : LineDef → DevNo → Type 0
IsFit def d = Five (nat_lt (length (run_script def d parts.Primary)) 17) (nat_lt (length (run_script def d parts.Thread)) 17)
    (nat_lt (length (told_answers def d parts.Primary) + length (told_answers def d parts.Thread)) 4097)
    (arms_unless_told def d) (wakes_what_it_has def (kind_of def d) d)

-- of one call of a run
abbrev MayRun : LineDef → DevNo × Part × Call → Type 0
MayRun def c = (has_device def c.0 ≡ true) × (has_script (kind_of def c.0) c.1 ≡ true) × (may_stand (kind_of def c.0) c.1 c.0 c.2 ≡ true)
    × (names_own_device def c.2 ≡ true)

may_run : (def : LineDef) (c : DevNo × Part × Call) → fits_run def c ≡ true → MayRun def c
may_run def c h =
    let i = both (has_device def c.0) (has_script (kind_of def c.0) c.1
    && (may_stand (kind_of def c.0) c.1 c.0 c.2 && names_own_device def c.2)) h in
    let j = both (has_script (kind_of def c.0) c.1) (may_stand (kind_of def c.0) c.1 c.0 c.2 && names_own_device def c.2) i.1 in
    let k = both (may_stand (kind_of def c.0) c.1 c.0 c.2) (names_own_device def c.2) j.1 in
    (i.0, j.0, k.0, k.1)

module _ (def : LineDef) (h : fits_runs def ≡ true) where
  all : Six (nat_lt (length def.runs) 257) (nat_lt (length def.told) 65537) (list_all (fits_run def) def.runs)
      (list_all (fits_answer def) def.told) (list_all (λ c. names_own_device def c.1) def.calls)
      (list_all (λ x. fits_device def x.dev) def.devices)
  all = six _ _ _ _ _ _ h

  few : (length def.runs ≤ 256) × (length def.told ≤ 65536)
  few =
      let runs = ltb-true (length def.runs) 257 all.0 in
      let told = ltb-true (length def.told) 65537 all.1 in
      (omega (arith, runs), omega (arith, told))

  fits_one : (d : DevNo) → has_device def d ≡ true → IsFit def d
  fits_one d there = five _ _ _ _ _ (of_devices (fits_device def) def.devices all.5 d there)

  -- a fact of each device: of those of the line by the test, of others since nothing is theirs
  of_each : (P : DevNo → Type 0) → ((d : DevNo) → IsFit def d → P d)
      → ((d : DevNo) → has_device def d ≡ false → P d) → (d : DevNo) → P d
  of_each P there absent d = by_place (has_device def d) refl
    where
      by_place : (b : Bool) → has_device def d ≡ b → P d
      by_place true is = there d (fits_one d is)
      by_place false is = absent d is

  short_script : (part : Part) (d : DevNo) → IsFit def d → length (run_script def d part) ≤ 16
  short_script parts.Primary d fits = let few = ltb-true (length (run_script def d parts.Primary)) 17 fits.0 in omega (arith, few)
  short_script parts.Thread d fits = let few = ltb-true (length (run_script def d parts.Thread)) 17 fits.1 in omega (arith, few)

  short_answer : (d : DevNo) → IsFit def d
      → length (told_answers def d parts.Primary) + length (told_answers def d parts.Thread) ≤ 4096
  short_answer d fits =
      let few = ltb-true (length (told_answers def d parts.Primary) + length (told_answers def d parts.Thread)) 4097 fits.2 in
      omega (arith, few)

  none_long : (part : Part) (d : DevNo) → has_device def d ≡ false → length (run_script def d part) ≤ 16
  none_long part d none = let is = ap length (no_script def d part none def.runs all.2) in omega (arith, is)

  none_answer : (d : DevNo) → has_device def d ≡ false
      → length (told_answers def d parts.Primary) + length (told_answers def d parts.Thread) ≤ 4096
  none_answer d none =
      let stuck = absent_is_stuck def d none in
      let a = ap length (no_answers def d parts.Primary stuck def.told all.3) in
      let b = ap length (no_answers def d parts.Thread stuck def.told all.3) in
      omega (arith, a, b)

  abbrev TellsArms : DevNo → Type 0
  TellsArms d = is_told (kind_of def d) ≡ true → list_any (wakes_by_handler d) def.runs ≡ true
      → list_any (arms_this d) (run_script def d parts.Thread) ≡ false

  arms : (d : DevNo) → IsFit def d → TellsArms d
  arms d fits told woken =
      not_all_three (is_told (kind_of def d)) (list_any (wakes_by_handler d) def.runs)
      (list_any (arms_this d) (run_script def d parts.Thread)) fits.3 told woken

  none_told : (d : DevNo) → has_device def d ≡ false → TellsArms d
  none_told d none told woken = absurd (false≢true (sym (ap is_told (absent_is_stuck def d none)) ∙ told))

  threads : (d : DevNo) → IsFit def d → WakesWhatItHas def (kind_of def d) d
  threads d fits = wakes_it def (kind_of def d) d fits.4

  none_woken : (d : DevNo) → has_device def d ≡ false → WakesWhatItHas def (kind_of def d) d
  none_woken d none = subst (λ (k : Kind). WakesWhatItHas def k d) (sym (absent_is_stuck def d none)) tt

  pub fits_has_valid_runs : HasValidRuns def
  fits_has_valid_runs = record {
    few_calls = few.0;
    short_scripts = λ d part. of_each (λ x. length (run_script def x part) ≤ 16) (short_script part) (none_long part) d;
    few_answers = few.1;
    short_answers = of_each (λ x. length (told_answers def x parts.Primary) + length (told_answers def x parts.Thread) ≤ 4096) short_answer none_answer;
    devices = each (fits_run def) (λ c. has_device def c.0 ≡ true) (λ c k. (may_run def c k).0) def.runs all.2;
    scripts = each (fits_run def) (λ c. has_script (kind_of def c.0) c.1 ≡ true) (λ c k. (may_run def c k).1) def.runs all.2;
    stand = each (fits_run def) (λ c. may_stand (kind_of def c.0) c.1 c.0 c.2 ≡ true) (λ c k. (may_run def c k).2) def.runs all.2;
    named = each (fits_run def) (λ c. names_own_device def c.2 ≡ true) (λ c k. (may_run def c k).3) def.runs all.2;
    named_by_drivers = each (λ c. names_own_device def c.1) (λ c. names_own_device def c.1 ≡ true) (λ c k. k) def.calls all.4;
    told_arms = of_each TellsArms arms none_told;
    answers = each (fits_answer def) (λ c. may_answer (kind_of def c.0) c.1 c.2 ≡ true) (λ c k. k) def.told all.3;
    threads = of_each (λ d. WakesWhatItHas def (kind_of def d) d) threads none_woken;
  }
