-- Which driver the devices of a script belong to.
use Rattle.std.proofs.Common.{◌≡◌, ℕ, ◌+◌, ◌<◌, ◌≤◌, ◌==◌, Bool, true, false, cond, not, ◌||◌, Option, Some, None, List}
use Rattle.std.proofs.Common.{[], ◌∷◌, ◌++◌, length, reverse, refl, sym, ap, ◌∙◌, arith}
use Rattle.std.specs.List.{list_any}
use Rattle.std.proofs.lemmas.Bool.Decides.{nat_tests}
use Rattle.std.proofs.lemmas.List.{append_assoc, reverse-append}
use Rattle.std.proofs.lemmas.List.Elements.{All-append}
use Rattle.irq_base.specs.declared.calls.Call.{Call}
use Rattle.irq_base.specs.declared.calls.Call.TheVariants as calls
use Rattle.irq_base.specs.declared.calls.Flags.{Flags}
use Rattle.irq_base.specs.declared.devices.DeviceDef.{DeviceDef}
use Rattle.irq_base.specs.declared.devices.Kind.{Kind}
use Rattle.irq_base.specs.declared.numbers.DevNo.{DevNo}
use Rattle.irq_base.specs.declared.numbers.DriverNo.{DriverNo}
use Rattle.irq_model.specs.Kinds.{same_dev}
use Rattle.board_def.specs.Rules.{IsCallAfter, find_device, fits_line, first_owning, is_bad_owner, is_owning, is_of_another, is_on_line, is_a_request}
use Rattle.board_def.specs.Seen.{BoardSeen}
use Rattle.board_def.specs.declared.rows.LineRow.{LineRow}
use Rattle.board_def.specs.declared.rows.ScriptCall.{ScriptCall}
use Rattle.board_def.proofs.Rising.{all_of, differ_back, equals_itself, no_device}
use Rattle.board_gen.specs.Generated.{driver_no, line_row, numbered, script_call}
use Rattle.board_gen.specs.Keeping.{IsScripted, IsUpTo, NamesNone}
use Rattle.board_gen.specs.declared.scripts.Script.{Script}

abbrev or_else : Option ScriptCall → Option ScriptCall → Option ScriptCall
or_else (Some x) r = Some x
or_else None r = r

first_of_two : (d : DevNo) (xs ys : List ScriptCall) → first_owning d (xs ++ ys) ≡ or_else (first_owning d xs) (first_owning d ys)
first_of_two d [] ys = refl
first_of_two d (c ∷ cs) ys = by (is_owning d c) (first_of_two d cs ys)
  where
    by : (b : Bool) → first_owning d (cs ++ ys) ≡ or_else (first_owning d cs) (first_owning d ys)
        → cond b (Some c) (first_owning d (cs ++ ys)) ≡ or_else (cond b (Some c) (first_owning d cs)) (first_owning d ys)
    by true rest = refl
    by false rest = rest

-- if nothing names the device, nothing does in reverse order either
none_back : (d : DevNo) (cs : List ScriptCall) → first_owning d cs ≡ None → first_owning d (reverse cs) ≡ None
none_back d [] none = refl
none_back d (c ∷ cs) none = by (is_owning d c) refl none (none_back d cs)
  where
    by : (b : Bool) → is_owning d c ≡ b → cond b (Some c) (first_owning d cs) ≡ None
        → (first_owning d cs ≡ None → first_owning d (reverse cs) ≡ None) → first_owning d (reverse (c ∷ cs)) ≡ None
    by true is h rest = absurd cc
    by false is h rest =
        ap (first_owning d) (reverse-append (c ∷ []) cs)
        ∙ (first_of_two d (reverse cs) (c ∷ []) ∙ (ap (λ r. or_else r (first_owning d (c ∷ []))) (rest h) ∙ ap (λ b. cond b (Some c) None) is))

-- nothing more names a device that the call doesn't name
pub names_no_more : (cs : List ScriptCall) (c : ScriptCall) (d : DevNo) → first_owning d cs ≡ None
    → is_owning d c ≡ false → first_owning d (cs ++ c ∷ []) ≡ None
names_no_more cs c d none is = first_of_two d cs (c ∷ []) ∙ (ap (λ r. or_else r (first_owning d (c ∷ []))) none ∙ ap (λ b. cond b (Some c) None) is)

same_owner : (n : DriverNo) (cs : List ScriptCall) (c : ScriptCall) (d : DevNo) → (c.driver.0 == n.0) ≡ true
    → is_of_another n (first_owning d cs) ≡ false → is_of_another n (first_owning d (cs ++ c ∷ [])) ≡ false
same_owner n cs c d same own = ap (is_of_another n) (first_of_two d cs (c ∷ [])) ∙ by (first_owning d cs) own
  where
    by_test : (b : Bool) → is_of_another n (cond b (Some c) None) ≡ false
    by_test true = ap not same
    by_test false = refl

    by : (r : Option ScriptCall) → is_of_another n r ≡ false → is_of_another n (or_else r (first_owning d (c ∷ []))) ≡ false
    by (Some x) h = h
    by None h = by_test (is_owning d c)

pub scripted_more : (s : Script) (b : BoardSeen) (call : Call) → IsScripted s b
    → ((d : DevNo) → s.first + s.devices ≤ d.0 → is_owning d (script_call s call) ≡ false)
    → IsScripted s (record b { calls = b.calls ++ script_call s call ∷ [] })
scripted_more s b call k own =
    record {
      driver = k.driver;
      line = k.line;
      devices = k.devices;
      callers = All-append (λ (c : ScriptCall). c.driver.0 ≤ s.number) b.calls (script_call s call ∷ []) k.callers
          (all_of (λ (c : ScriptCall). c.driver.0 ≤ s.number) (script_call s call) [] (omega arith)
          (λ i d h. absurd (omega arith)));
      own = λ d from. same_owner (record { 0 = s.number }) b.calls (script_call s call) d (equals_itself s.number) (k.own d from);
      unnamed = λ d from. names_no_more b.calls (script_call s call) d (k.unnamed d from) (own d from);
    }

-- the call meets the rule of calls
pub call_allowed : (s : Script) (b : BoardSeen) (call : Call) → IsScripted s b
    → fits_line b.devices (record { 0 = s.number }) call ≡ true
    → is_bad_owner b.calls (record { 0 = s.number }) call ≡ false
    → IsCallAfter b b.calls (script_call s call)
call_allowed s b call k fits owner = record { driver = k.driver; in_order = k.callers; line = k.line; device = fits; owner = owner }

-- ---- which devices a call names

other_device : (d e : DevNo) → e.0 < d.0 → same_dev d e ≡ false
other_device d e less = differ_back e.0 d.0 less

-- the request of a device names no later one
pub request_names : (s : Script) (flags : Flags) (e d : DevNo) → e.0 < d.0 → is_owning d (script_call s (calls.Request e flags)) ≡ false
request_names s flags e d less = ap (λ b. b || false) (other_device d e less)

pub free_names : (s : Script) (e d : DevNo) → e.0 < d.0 → is_owning d (script_call s (calls.Free e)) ≡ false
free_names s e d less = other_device d e less

-- nobody owns a device that nothing names
pub request_owner : (cs : List ScriptCall) (n : DriverNo) (flags : Flags) (e : DevNo) → first_owning e cs ≡ None
    → is_bad_owner cs n (calls.Request e flags) ≡ false
request_owner cs n flags e none =
    ap (λ r. is_of_another n r || is_a_request e (first_owning e (reverse cs))) none ∙ ap (is_a_request e) (none_back e cs none)

-- ---- calls that follow others

abbrev pub with_calls : BoardSeen → List ScriptCall → BoardSeen
with_calls b cs = record b { calls = b.calls ++ cs }

pub calls_next : (a b c : BoardSeen) (xs ys : List ScriptCall) (x : ScriptCall) → b ≡ with_calls a xs
    → c ≡ with_calls b (x ∷ []) → ys ≡ xs ++ x ∷ [] → c ≡ with_calls a ys
calls_next a b c xs ys x is next more =
    next ∙ (ap (λ (b : BoardSeen). with_calls b (x ∷ [])) is
    ∙ ap (λ (cs : List ScriptCall). record a { calls = cs })
    (append_assoc a.calls xs (x ∷ []) ∙ ap (λ cs. a.calls ++ cs) (sym more)))

pub named_next : (b c : BoardSeen) (s : Script) (flags : Flags) (n : ℕ) → NamesNone n b
    → c ≡ with_calls b (script_call s (calls.Request (record { 0 = n }) flags) ∷ []) → NamesNone (n + 1) c
named_next b c s flags n none next d from =
    let x = script_call s (calls.Request (record { 0 = n }) flags) in
    ap (λ (c : BoardSeen). first_owning d c.calls) next
    ∙ names_no_more b.calls x d (none d (omega arith)) (request_names s flags (record { 0 = n }) d (omega arith))

-- ---- the first call of a script

any_last : {A : Type 0} (p : A → Bool) (xs : List A) (x : A) → p x ≡ true → list_any p (xs ++ x ∷ []) ≡ true
any_last p [] x is = ap (λ b. b || false) is
any_last p (y ∷ ys) x is = by (p y) (any_last p ys x is)
  where
    by : (b : Bool) → list_any p (ys ++ x ∷ []) ≡ true → (b || list_any p (ys ++ x ∷ [])) ≡ true
    by true rest = refl
    by false rest = rest

found_later : (d : DevNo) (xs ys : List DeviceDef) → find_device xs d ≡ None → find_device (xs ++ ys) d ≡ find_device ys d
found_later d [] ys none = refl
found_later d (x ∷ xs) ys none = by (same_dev d x.dev) none (found_later d xs ys)
  where
    by : (b : Bool) → cond b (Some x) (find_device xs d) ≡ None
        → (find_device xs d ≡ None → find_device (xs ++ ys) d ≡ find_device ys d)
        → cond b (Some x) (find_device (xs ++ ys) d) ≡ find_device ys d
    by true h rest = absurd cc
    by false h rest = rest h

found_on_line : (line first : ℕ) (kinds : List Kind) (d : DevNo) → first ≤ d.0 → d.0 < first + length kinds
    → is_on_line (record { 0 = line }) (find_device (numbered line first kinds) d) ≡ true
found_on_line line first [] d from to = absurd (omega arith)
found_on_line line first (k ∷ ks) d from to = by (d.0 == first) refl (λ (more : first + 1 ≤ d.0). found_on_line line (first + 1) ks d more (omega arith))
  where
    by : (b : Bool) → (d.0 == first) ≡ b → (first + 1 ≤ d.0 → is_on_line (record { 0 = line }) (find_device (numbered line (first + 1) ks) d) ≡ true)
        → is_on_line (record { 0 = line }) (cond b (Some
        (record { dev = record { 0 = first }; line = record { 0 = line }; kind = k; held = false; forgets = false }))
        (find_device (numbered line (first + 1) ks) d)) ≡ true
    by true is rest = equals_itself line
    by false is rest = rest (grind (arith, nat_tests))

abbrev pub begun : BoardSeen → ℕ → ℕ → ℕ → List Kind → BoardSeen
begun b number domain first kinds =
    record b {
      lines = b.lines ++ line_row number domain ∷ [];
      devices = b.devices ++ numbered number first kinds;
      drivers = b.drivers ++ driver_no number ∷ [];
    }

-- a line with its devices and its driver may get the script
pub scripted_first : (b : BoardSeen) (domain : ℕ) (kinds : List Kind) (s : Script) → IsUpTo s.number s.first b
    → length kinds ≡ s.devices → IsScripted s (begun b s.number domain s.first kinds)
scripted_first b domain kinds s k count =
    record {
      driver = any_last (λ (d : DriverNo). d.0 == s.number) b.drivers (driver_no s.number) (equals_itself s.number);
      line = any_last (λ (row : LineRow). row.line.0 == s.number) b.lines (line_row s.number domain) (equals_itself s.number);
      devices = λ d from to.
          ap (is_on_line (record { 0 = s.number })) (found_later d b.devices (numbered s.number s.first kinds)
          (no_device d b.devices (λ i e h. (let l : _ < s.first = k.devices i e h in omega (arith, l)))))
          ∙ found_on_line s.number s.first kinds d from (omega (arith, count));
      callers = λ i e h. (let l : _ < s.number = k.callers i e h in omega (arith, l));
      own = λ d from. ap (is_of_another (record { 0 = s.number })) (k.unnamed d from);
      unnamed = λ d from. k.unnamed d (omega arith);
    }
