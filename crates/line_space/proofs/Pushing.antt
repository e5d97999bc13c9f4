-- Threads that are pushed one after another.
use Rattle.std.proofs.Common.{◌≡◌, ℕ, ◌+◌, Some, List, [], ◌∷◌, ◌++◌, drop, slice_get, sym, ap, ◌∙◌}
use Rattle.std.proofs.lemmas.List.{append_assoc}
use Rattle.irq_base.specs.declared.devices.DeviceDef.{DeviceDef}
use Rattle.irq_base.specs.declared.entries.Actor.{Actor}
use Rattle.irq_base.specs.declared.entries.Actor.TheVariants as actors
use Rattle.irq_model.proofs.Lists.{next_item}
use Rattle.irq_base.specs.declared.lines.LineDef.{LineDef}
use Rattle.irq_base.specs.declared.numbers.CpuNo.{CpuNo}
use Rattle.irq_base.specs.declared.numbers.DriverNo.{DriverNo}
use Rattle.std.proofs.Common.{Bool, true, false, cond, get_or, is_some, length, refl, Option, None, ◌<◌}
use Rattle.std.proofs.lemmas.List.{at_drop_more}
use Rattle.std.specs.List.{filter}
use Rattle.std.specs.Option.{option_map}
use Rattle.irq_base.specs.declared.entries.Entry.{Entry}
use Rattle.line_marks.specs.Next.{due_by}
use Rattle.line_marks.specs.State.{StateSeen}
use Rattle.line_scripts.specs.Rows.{RowSeen}
use Rattle.line_state.specs.Entries.{entry_by}
use Rattle.line_state.specs.declared.due.DueStep.{DueStep}
use Rattle.line_space.specs.Stepping.{threads_in, cpus_in, drivers_of, actors_by, is_due_in}

pub threads_next : (xs : List DeviceDef) (i : ℕ) (x : DeviceDef) → slice_get xs i ≡ Some x → (now after : List Actor)
    → after ≡ now ++ actors.Thread x.dev ∷ [] → after ++ threads_in (drop (i + 1) xs) ≡ now ++ threads_in (drop i xs)
threads_next xs i x is now after added =
    ap (λ (m : List Actor). m ++ threads_in (drop (i + 1) xs)) added
    ∙ (append_assoc now (actors.Thread x.dev ∷ []) (threads_in (drop (i + 1) xs))
    ∙ ap (λ (ys : List Actor). now ++ ys) (sym (ap threads_in (next_item xs i x is))))

-- whether something is due of an actor, by the step that is due of it
pub due_told : (def : LineDef) (s : StateSeen) (scripts : List (DriverNo × RowSeen)) (a : Actor) (step : Option DueStep)
    → option_map (entry_by def s) step ≡ due_by def s scripts a → is_some step ≡ is_due_in def s scripts a
due_told def s scripts a step told = same step ∙ ap (λ (o : Option Entry). is_some o) told
  where
    same : (o : Option DueStep) → is_some o ≡ is_some (option_map (entry_by def s) o)
    same None = refl
    same (Some x) = refl

-- the next actor is pushed, if it passes
pub passed_next : (p : Actor → Bool) (xs : List Actor) (i : ℕ) (d : Actor) → i < length xs → (t : Bool) → p (get_or xs i d) ≡ t
    → (now after : List Actor) → after ≡ now ++ cond t (get_or xs i d ∷ []) []
    → after ++ filter p (drop (i + 1) xs) ≡ now ++ filter p (drop i xs)
passed_next p xs i d less t test now after added =
    ap (λ (m : List Actor). m ++ filter p (drop (i + 1) xs)) added
    ∙ (append_assoc now (cond t (get_or xs i d ∷ []) []) (filter p (drop (i + 1) xs))
    ∙ ap (λ (ys : List Actor). now ++ ys) (by t test ∙ sym (at_drop_more (filter p) xs i d less)))
  where
    by : (t : Bool) → p (get_or xs i d) ≡ t
        → cond t (get_or xs i d ∷ []) [] ++ filter p (drop (i + 1) xs) ≡ filter p (get_or xs i d ∷ drop (i + 1) xs)
    by true test = ap (λ b. cond b (get_or xs i d ∷ filter p (drop (i + 1) xs)) (filter p (drop (i + 1) xs))) (sym test)
    by false test = ap (λ b. cond b (get_or xs i d ∷ filter p (drop (i + 1) xs)) (filter p (drop (i + 1) xs))) (sym test)

-- the four parts of the list of actors
pub four_parts : (def : LineDef) (a b c d e : List Actor) (flow taker : Option CpuNo) (rs : List DriverNo) → a ≡ [] → b ≡ a ++ threads_in def.devices
    → c ≡ b ++ cpus_in flow → d ≡ c ++ cpus_in taker → e ≡ d ++ drivers_of rs → e ≡ actors_by def flow taker rs
four_parts def a b c d e flow taker rs none threads flows takes drivers =
    let ts = threads_in def.devices in
    drivers ∙ (ap (λ (x : List Actor). x ++ drivers_of rs) (takes ∙ ap (λ (x : List Actor). x ++ cpus_in taker)
    (flows ∙ ap (λ (x : List Actor). x ++ cpus_in flow) (threads ∙ ap (λ (x : List Actor). x ++ ts) none)))
    ∙ (append_assoc (ts ++ cpus_in flow) (cpus_in taker) (drivers_of rs) ∙ append_assoc ts (cpus_in flow) (cpus_in taker ++ drivers_of rs)))
