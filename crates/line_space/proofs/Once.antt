-- No actor is asked twice.
use Rattle.std.proofs.Common.{Contains, ◌≡◌, ◌⊎◌, inl, inr, Bool, true, false, ◌||◌, cond, Option, Some, None}
use Rattle.std.proofs.Common.{List, [], ◌∷◌, ◌++◌, refl, sym, ap, subst, ◌∙◌, arith}
use Rattle.std.proofs.lemmas.List.Elements.{Contains-append_cases}
use Rattle.std.specs.List.{list_any}
use Rattle.irq_base.specs.Cell.{signals}
use Rattle.irq_base.specs.declared.calls.Call.{Call}
use Rattle.irq_base.specs.declared.devices.DeviceDef.{DeviceDef}
use Rattle.irq_base.specs.declared.entries.Actor.{Actor}
use Rattle.irq_base.specs.declared.entries.Actor.TheVariants as actors
use Rattle.irq_base.specs.declared.lines.LineDef.{LineDef}
use Rattle.irq_base.specs.declared.numbers.CpuNo.{CpuNo}
use Rattle.irq_base.specs.declared.numbers.DevNo.{DevNo}
use Rattle.irq_base.specs.declared.numbers.DriverNo.{DriverNo}
use Rattle.irq_model.specs.Kinds.{same_dev, same_driver}
use Rattle.irq_model.specs.Lines.{is_device}
use Rattle.irq_model.specs.Rounds.{is_cpu}
use Rattle.irq_model.specs.Signal.{lowest_in}
use Rattle.irq_model.specs.Valid.{IsValid, HasDistinctDevices}
use Rattle.irq_model.proofs.Same.{same_self, same_self_cpu, same_self_driver}
use Rattle.line_marks.specs.State.{StateSeen}
use Rattle.line_state.specs.Seen.{taker_of, unless_in_flow}
use Rattle.line_words.specs.Node.{drivers_in}
use Rattle.line_space.proofs.Actors.{here, later, one_is}
use Rattle.line_space.specs.Stepping.{actors_by, cpus_in, threads_in, drivers_of}

abbrev pub IsApart : List Actor → Type 0
IsApart [] = Unit {0}
IsApart (a ∷ xs) = (Contains xs a → ⊥) × IsApart xs

none_in : (a : Actor) → Contains [] a → ⊥
none_in a c = omega (arith, c.1)

apart_append : (xs ys : List Actor) → IsApart xs → IsApart ys → ((a : Actor) → Contains xs a → Contains ys a → ⊥) → IsApart (xs ++ ys)
apart_append [] ys h k other = k
apart_append (x ∷ xs) ys h k other =
    (λ c. by_place (Contains-append_cases xs ys x c), apart_append xs ys h.1 k (λ a p q. other a (later x a xs p) q))
  where
    by_place : Contains xs x ⊎ Contains ys x → ⊥
    by_place (inl p) = h.0 p
    by_place (inr q) = other x (here x xs) q

-- ---- the threads

thread_from : (xs : List DeviceDef) (a : Actor) → Contains (threads_in xs) a
    → (d : DevNo) × (a ≡ actors.Thread d) × (list_any (is_device d) xs ≡ true)
thread_from [] a c = absurd (none_in a c)
thread_from (x ∷ xs) a c = by_place (Contains-append_cases (actors.Thread x.dev ∷ []) (threads_in xs) a c) (thread_from xs a)
  where
    by_place : Contains (actors.Thread x.dev ∷ []) a ⊎ Contains (threads_in xs) a
        → (Contains (threads_in xs) a → (d : DevNo) × (a ≡ actors.Thread d) × (list_any (is_device d) xs ≡ true))
        → (d : DevNo) × (a ≡ actors.Thread d) × (list_any (is_device d) (x ∷ xs) ≡ true)
    by_place (inl p) rest = (x.dev, sym (one_is (actors.Thread x.dev) a p), ap (λ b. b || list_any (is_device x.dev) xs) (same_self x.dev))
    by_place (inr p) rest = let t = rest p in (t.0, t.1, ap (λ b. same_dev t.0 x.dev || b) t.2 ∙ last (same_dev t.0 x.dev))
      where
        last : (b : Bool) → (b || true) ≡ true
        last true = refl
        last false = refl

same_thread : (d e : DevNo) → ◌≡◌ {A = Actor} (actors.Thread d) (actors.Thread e) → d ≡ e
same_thread d e is = cc

threads_apart : (xs : List DeviceDef) → HasDistinctDevices xs → IsApart (threads_in xs)
threads_apart [] own = tt
threads_apart (x ∷ xs) own = (none, threads_apart xs own.1)
  where
    none : Contains (threads_in xs) (actors.Thread x.dev) → ⊥
    none c =
        let t = thread_from xs (actors.Thread x.dev) c in
        let P : DevNo → Type 0 = λ d. list_any (is_device d) xs ≡ true in
        let there : list_any (is_device x.dev) xs ≡ true = subst P (sym (same_thread x.dev t.0 t.1)) t.2 in
        let not_there : list_any (is_device x.dev) xs ≡ false = own.0 in
        cc

-- ---- the processors

cpu_from : (o : Option CpuNo) (a : Actor) → Contains (cpus_in o) a → (c : CpuNo) × (a ≡ actors.Cpu c) × (o ≡ Some c)
cpu_from None a c = absurd (none_in a c)
cpu_from (Some x) a c = (x, sym (one_is (actors.Cpu x) a c), refl)

cpus_apart : (o : Option CpuNo) → IsApart (cpus_in o)
cpus_apart None = tt
cpus_apart (Some c) = (none_in (actors.Cpu c), tt)

same_cpus : (c d : CpuNo) → ◌≡◌ {A = Actor} (actors.Cpu c) (actors.Cpu d) → c ≡ d
same_cpus c d is = cc

-- the one that takes isn't in the flow
taker_free : (s : StateSeen) (c : CpuNo) → taker_of s ≡ Some c → is_cpu c s.desc.flow ≡ false
taker_free s c takes = by_signal (signals s.cell || s.desc.soft) takes
  where
    by_flow : (b : Bool) (t : CpuNo) → is_cpu t s.desc.flow ≡ b → cond b None (Some t) ≡ Some c → is_cpu c s.desc.flow ≡ false
    by_flow true t is h = absurd (let x : ⊥ = cc h in x)
    by_flow false t is h = let same : t ≡ c = cc h in subst (λ u. is_cpu u s.desc.flow ≡ false) same is

    by_target : (o : Option CpuNo) → unless_in_flow s o ≡ Some c → is_cpu c s.desc.flow ≡ false
    by_target None h = absurd (let x : ⊥ = cc h in x)
    by_target (Some t) h = by_flow (is_cpu t s.desc.flow) t refl h

    by_signal : (b : Bool) → cond b (unless_in_flow s (lowest_in s.aim.cpus s.aim.mask)) None ≡ Some c → is_cpu c s.desc.flow ≡ false
    by_signal true h = by_target (lowest_in s.aim.cpus s.aim.mask) h
    by_signal false h = absurd (let x : ⊥ = cc h in x)

flow_not_taker : (s : StateSeen) (c : CpuNo) → s.desc.flow ≡ Some c → taker_of s ≡ Some c → ⊥
flow_not_taker s c flow takes =
    let busy : is_cpu c s.desc.flow ≡ true = ap (is_cpu c) flow ∙ same_self_cpu c in
    let free = taker_free s c takes in
    cc

-- ---- the drivers

driver_from : (rs : List DriverNo) (a : Actor) → Contains (drivers_of rs) a → (r : DriverNo) × (a ≡ actors.Driver r) × (list_any (same_driver r) rs ≡ true)
driver_from [] a c = absurd (none_in a c)
driver_from (w ∷ rs) a c = by_place (Contains-append_cases (actors.Driver w ∷ []) (drivers_of rs) a c) (driver_from rs a)
  where
    by_place : Contains (actors.Driver w ∷ []) a ⊎ Contains (drivers_of rs) a
        → (Contains (drivers_of rs) a → (r : DriverNo) × (a ≡ actors.Driver r) × (list_any (same_driver r) rs ≡ true))
        → (r : DriverNo) × (a ≡ actors.Driver r) × (list_any (same_driver r) (w ∷ rs) ≡ true)
    by_place (inl p) rest = (w, sym (one_is (actors.Driver w) a p), ap (λ b. b || list_any (same_driver w) rs) (same_self_driver w))
    by_place (inr p) rest = let t = rest p in (t.0, t.1, ap (λ b. same_driver t.0 w || b) t.2 ∙ last (same_driver t.0 w))
      where
        last : (b : Bool) → (b || true) ≡ true
        last true = refl
        last false = refl

same_drivers : (r w : DriverNo) → ◌≡◌ {A = Actor} (actors.Driver r) (actors.Driver w) → r ≡ w
same_drivers r w is = cc

drivers_apart : (cs : List (DriverNo × Call)) → IsApart (drivers_of (drivers_in cs))
drivers_apart [] = tt
drivers_apart (c ∷ cs) = by_there (list_any (same_driver c.0) (drivers_in cs)) refl (drivers_apart cs)
  where
    none : list_any (same_driver c.0) (drivers_in cs) ≡ false → Contains (drivers_of (drivers_in cs)) (actors.Driver c.0) → ⊥
    none lacks p =
        let t = driver_from (drivers_in cs) (actors.Driver c.0) p in
        let P : DriverNo → Type 0 = λ r. list_any (same_driver r) (drivers_in cs) ≡ true in
        let there : list_any (same_driver c.0) (drivers_in cs) ≡ true = subst P (sym (same_drivers c.0 t.0 t.1)) t.2 in
        cc

    by_there : (b : Bool) → list_any (same_driver c.0) (drivers_in cs) ≡ b → IsApart (drivers_of (drivers_in cs))
        → IsApart (drivers_of (cond b (drivers_in cs) (c.0 ∷ drivers_in cs)))
    by_there true is rest = rest
    by_there false is rest = (none is, rest)

-- ---- all

cpu_no_driver : (c : CpuNo) (r : DriverNo) (a : Actor) → a ≡ actors.Cpu c → a ≡ actors.Driver r → ⊥
cpu_no_driver c r a p q = let h : ◌≡◌ {A = Actor} (actors.Cpu c) (actors.Driver r) = sym p ∙ q in cc h

thread_no_cpu : (d : DevNo) (c : CpuNo) (a : Actor) → a ≡ actors.Thread d → a ≡ actors.Cpu c → ⊥
thread_no_cpu d c a p q = let h : ◌≡◌ {A = Actor} (actors.Thread d) (actors.Cpu c) = sym p ∙ q in cc h

thread_no_driver : (d : DevNo) (r : DriverNo) (a : Actor) → a ≡ actors.Thread d → a ≡ actors.Driver r → ⊥
thread_no_driver d r a p q = let h : ◌≡◌ {A = Actor} (actors.Thread d) (actors.Driver r) = sym p ∙ q in cc h

module _ (def : LineDef) (valid : IsValid def) (s : StateSeen) where
  abbrev behind_taker : List Actor
  behind_taker = drivers_of (drivers_in def.calls)

  abbrev behind_flow : List Actor
  behind_flow = cpus_in (taker_of s) ++ drivers_of (drivers_in def.calls)

  abbrev behind_threads : List Actor
  behind_threads = cpus_in s.desc.flow ++ (cpus_in (taker_of s) ++ drivers_of (drivers_in def.calls))

  taker_apart : IsApart (cpus_in (taker_of s) ++ drivers_of (drivers_in def.calls))
  taker_apart = apart_append (cpus_in (taker_of s)) (drivers_of (drivers_in def.calls)) (cpus_apart (taker_of s)) (drivers_apart def.calls) (λ a p q.
      let c = cpu_from (taker_of s) a p in
      let r = driver_from (drivers_in def.calls) a q in
      cpu_no_driver c.0 r.0 a c.1 r.1)

  flow_apart : IsApart (cpus_in s.desc.flow ++ (cpus_in (taker_of s) ++ drivers_of (drivers_in def.calls)))
  flow_apart = apart_append (cpus_in s.desc.flow) (cpus_in (taker_of s) ++ drivers_of (drivers_in def.calls)) (cpus_apart s.desc.flow) taker_apart
      (λ a p q. by_place a (cpu_from s.desc.flow a p) (Contains-append_cases (cpus_in (taker_of s)) (drivers_of (drivers_in def.calls)) a q))
    where
      by_place : (a : Actor) → (c : CpuNo) × (a ≡ actors.Cpu c) × (s.desc.flow ≡ Some c)
          → Contains (cpus_in (taker_of s)) a ⊎ Contains (drivers_of (drivers_in def.calls)) a → ⊥
      by_place a f (inl p) =
          let t = cpu_from (taker_of s) a p in
          flow_not_taker s f.0 f.2 (t.2 ∙ ap Some (same_cpus t.0 f.0 (sym t.1 ∙ f.1)))
      by_place a f (inr p) = let r = driver_from (drivers_in def.calls) a p in cpu_no_driver f.0 r.0 a f.1 r.1

  pub actors_apart : IsApart (actors_by def s.desc.flow (taker_of s) (drivers_in def.calls))
  actors_apart = apart_append (threads_in def.devices) (cpus_in s.desc.flow ++ (cpus_in (taker_of s) ++ drivers_of (drivers_in def.calls)))
      (threads_apart def.devices valid.distinct) flow_apart
      (λ a p q. by_place a (thread_from def.devices a p)
      (Contains-append_cases (cpus_in s.desc.flow) (cpus_in (taker_of s) ++ drivers_of (drivers_in def.calls)) a q))
    where
      by_last : (a : Actor) (d : DevNo) → a ≡ actors.Thread d
          → Contains (cpus_in (taker_of s)) a ⊎ Contains (drivers_of (drivers_in def.calls)) a → ⊥
      by_last a d is (inl p) = let t = cpu_from (taker_of s) a p in thread_no_cpu d t.0 a is t.1
      by_last a d is (inr p) = let r = driver_from (drivers_in def.calls) a p in thread_no_driver d r.0 a is r.1

      by_place : (a : Actor) → (d : DevNo) × (a ≡ actors.Thread d) × (list_any (is_device d) def.devices ≡ true)
          → Contains (cpus_in s.desc.flow) a ⊎ Contains (cpus_in (taker_of s) ++ drivers_of (drivers_in def.calls)) a → ⊥
      by_place a t (inl p) = let c = cpu_from s.desc.flow a p in thread_no_cpu t.0 c.0 a t.1 c.1
      by_place a t (inr p) = by_last a t.0 t.1 (Contains-append_cases (cpus_in (taker_of s)) (drivers_of (drivers_in def.calls)) a p)
