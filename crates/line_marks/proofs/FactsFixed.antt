-- What is fixed of a device is what the table has for it.
use Rattle.std.proofs.Common.{◌≡◌, Bool, true, false, ◌||◌, ◌&&◌, cond, Option, unwrap_or, List, [], ◌∷◌, refl, sym, ap, ◌∙◌}
use Rattle.std.specs.List.{list_any}
use Rattle.irq_base.specs.declared.devices.Kind.{Kind}
use Rattle.irq_base.specs.declared.devices.Kind.TheVariants as kinds
use Rattle.irq_base.specs.declared.devices.DeviceDef.{DeviceDef}
use Rattle.irq_base.specs.declared.lines.LineDef.{LineDef}
use Rattle.irq_base.specs.declared.numbers.DevNo.{DevNo}
use Rattle.irq_base.specs.Handlers.{serving_part}
use Rattle.irq_model.specs.Asks.{unless_by_script}
use Rattle.irq_model.specs.Lines.{is_device, kind_of, kind_in}
use Rattle.device_table.proofs.Tables.{at_device, at_none}
use Rattle.ask_counts.specs.Facts.{all_facts, facts_at, facts_of, no_facts}
use Rattle.ask_counts.specs.declared.facts.DeviceFacts.{DeviceFacts}
use Rattle.line_marks.specs.Facts.{kind_at}

-- a device that the line lacks is a stuck one, and has no options
stuck : (xs : List DeviceDef) (d : DevNo) → list_any (is_device d) xs ≡ false → kind_in xs d ≡ kinds.Stuck
stuck [] d h = refl
stuck (x ∷ xs) d h = by_test (is_device d x) h (stuck xs d)
  where
    by_test : (b : Bool) → (b || list_any (is_device d) xs) ≡ false
        → (list_any (is_device d) xs ≡ false → kind_in xs d ≡ kinds.Stuck) → cond b x.kind (kind_in xs d) ≡ kinds.Stuck
    by_test true i rest = cc
    by_test false i rest = rest i

none_has : (p : DeviceDef → Bool) (xs : List DeviceDef) (d : DevNo) → list_any (is_device d) xs ≡ false → list_any (λ x. is_device d x && p x) xs ≡ false
none_has p [] d h = refl
none_has p (x ∷ xs) d h = by_test (is_device d x) h (none_has p xs d)
  where
    by_test : (b : Bool) → (b || list_any (is_device d) xs) ≡ false
        → (list_any (is_device d) xs ≡ false → list_any (λ y. is_device d y && p y) xs ≡ false)
        → ((b && p x) || list_any (λ y. is_device d y && p y) xs) ≡ false
    by_test true i rest = cc
    by_test false i rest = rest i

same_facts : (a b : DeviceFacts) → a.kind ≡ b.kind → a.serving ≡ b.serving → a.held ≡ b.held → a.forgets ≡ b.forgets → a ≡ b
same_facts a b h i j k =
    (let e : ◌≡◌ {A = DeviceFacts} (record { kind = a.kind; serving = a.serving; held = a.held; forgets = a.forgets }) b = rw (h, i, j, k) refl in e)

nothing : (def : LineDef) (d : DevNo) → list_any (is_device d) def.devices ≡ false → facts_of def d ≡ no_facts
nothing def d h =
    let k : kind_of def d ≡ kinds.Stuck = stuck def.devices d h in
    same_facts (facts_of def d) no_facts k (ap (λ (x : Kind). unless_by_script def d (serving_part x)) k)
    (none_has (λ x. x.held) def.devices d h) (none_has (λ x. x.forgets) def.devices d h)

pub facts_are : (def : LineDef) (d : DevNo) → facts_at (all_facts def) d ≡ facts_of def d
facts_are def d = by_test (list_any (is_device d) def.devices) refl
  where
    by_test : (b : Bool) → list_any (is_device d) def.devices ≡ b → facts_at (all_facts def) d ≡ facts_of def d
    by_test true is = ap (λ (o : Option DeviceFacts). unwrap_or o no_facts) (at_device (facts_of def) def.devices d is)
    by_test false is = ap (λ (o : Option DeviceFacts). unwrap_or o no_facts) (at_none (facts_of def) def.devices d is) ∙ sym (nothing def d is)

pub kind_is : (def : LineDef) (d : DevNo) → kind_at (all_facts def) d ≡ kind_of def d
kind_is def d = ap (λ (f : DeviceFacts). f.kind) (facts_are def d)
