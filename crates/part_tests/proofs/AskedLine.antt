-- The line of one ask is valid, and its log is as long as its bound.
use Rattle.std.proofs.Common.{◌≡◌, ℕ, zero, suc, ◌≤◌, true, false, cond, ◌||◌, Bool, Option, Some, None, [], ◌∷◌, refl, sym, ap, ◌∙◌, arith, All}
use Rattle.std.specs.List.{slice_get}
use Rattle.std.proofs.lemmas.List.Elements.{All-nil, All-cons}
use Rattle.irq_base.specs.declared.calls.Call.{Call}
use Rattle.irq_base.specs.declared.numbers.DevNo.{DevNo}
use Rattle.irq_base.specs.declared.numbers.DriverNo.{DriverNo}
use Rattle.irq_base.specs.declared.devices.Kind.TheVariants as kinds
use Rattle.irq_model.specs.Lines.{is_device}
use Rattle.irq_model.specs.Valid.{IsValid, requests_dev, frees_dev, names_one_of}
use Rattle.irq_model.specs.ValidRuns.{HasValidRuns, NeverWaits, WakesWhatItHas, names_own_device}
use Rattle.irq_storms.specs.Lengths.{history_bound, IsBounded}
use Rattle.part_tests.specs.AskedLine.{asked_line}

-- its one call is no request and no free
no_request : {P : Type 0} (d : DevNo) (i : ℕ) (a : DriverNo × Call) → slice_get asked_line.calls i ≡ Some a → (requests_dev d a.1 || frees_dev d a.1) ≡ true → P
no_request d zero a at is =
    let same : (requests_dev d a.1 || frees_dev d a.1) ≡ false = sym (ap (λ o. asks d o) at) in
    let n : true ≡ false = sym is ∙ same in cc
  where
    asks : DevNo → Option (DriverNo × Call) → Bool
    asks d (Some c) = requests_dev d c.1 || frees_dev d c.1
    asks d None = false
no_request d (suc i) a at is = cc

alone : {A : Type 0} (P : A → Type 0) (x : A) → P x → All P (x ∷ [])
alone P x h = All-cons P x [] h (All-nil P)

pub asked_is_valid : IsValid asked_line
asked_is_valid =
    record {
      some_cpu = omega arith;
      few_cpus = omega arith;
      some_window = omega arith;
      small_window = omega arith;
      limit = omega arith;
      some_log = omega arith;
      small_log = omega arith;
      few_devices = omega arith;
      few_calls = omega arith;
      mask = refl;
      edge_flow = λ h. refl;
      level_flow = λ h. cc;
      unlazy = λ h i. refl;
      eoi_keeps = λ h i. refl;
      eoi_retriggers = λ h i. refl;
      devices = alone (λ x. x.line ≡ asked_line.line) _ refl;
      distinct = (refl, tt);
      calls = alone (λ c. names_one_of asked_line.devices c.1 ≡ true) _ refl;
      owners = λ d i j a b at also is it. no_request d i a at is;
      freed = λ d i j a b lt at also is it. no_request d i a at (either (requests_dev d a.1) (frees_dev d a.1) is);
    }
  where
    either : (x y : Bool) → x ≡ true → (x || y) ≡ true
    either x y h = grind arith

-- it has no runs that call, and no device that is told

runs_nothing : (k : Bool) (d : DevNo) → WakesWhatItHas asked_line (cond k kinds.Direct kinds.Stuck) d
runs_nothing true d = tt
runs_nothing false d = tt

pub asked_has_valid_runs : HasValidRuns asked_line
asked_has_valid_runs =
    record {
      few_calls = omega arith;
      short_scripts = λ d part. omega arith;
      few_answers = omega arith;
      short_answers = λ d. omega arith;
      devices = All-nil _;
      scripts = All-nil _;
      stand = All-nil _;
      named = All-nil _;
      named_by_drivers = alone (λ c. names_own_device asked_line c.1 ≡ true) _ refl;
      told_arms = λ d told woken. refl;
      answers = All-nil _;
      threads = λ d. runs_nothing (is_device d (record
          { dev = record { 0 = 3 }; line = asked_line.line; kind = kinds.Direct; held = false; forgets = false })) d;
    }

pub asked_never_waits : NeverWaits asked_line
asked_never_waits = All-nil _

-- an edge line has a bound
pub asked_is_bounded : IsBounded asked_line
asked_is_bounded level = cc

pub asked_is_ample : history_bound asked_line ≤ asked_line.log
asked_is_ample = let n : history_bound asked_line ≡ 28 = refl in omega (arith, n)
