-- After legal pasts the numbers are equal exactly if the pasts are alike.
use Rattle.std.proofs.Common.{◌≡◌, ℕ, Bool, true, false, ◌||◌, ◌&&◌, cond, is_some, Option, List, [], ◌∷◌, length, refl, sym, ap, subst, ◌∙◌}
use Rattle.std.specs.List.{list_any}
use Rattle.irq_base.specs.Cell.{Cell}
use Rattle.irq_base.specs.declared.calls.Call.{Call}
use Rattle.irq_base.specs.declared.devices.DeviceDef.{DeviceDef}
use Rattle.irq_base.specs.declared.entries.Actor.{Actor}
use Rattle.irq_base.specs.declared.entries.Entry.{Entry}
use Rattle.irq_base.specs.declared.lines.LineDef.{LineDef}
use Rattle.irq_base.specs.declared.numbers.DevNo.{DevNo}
use Rattle.irq_base.specs.declared.numbers.DriverNo.{DriverNo}
use Rattle.irq_model.specs.Due.{entries_by, due_of}
use Rattle.irq_model.specs.Kinds.{same_driver}
use Rattle.irq_model.specs.Legal.{IsLegalPast}
use Rattle.irq_model.specs.Lines.{serves}
use Rattle.irq_model.specs.Rounds.{has_begun}
use Rattle.irq_model.specs.Spurious.{Counts}
use Rattle.irq_model.specs.Valid.{IsValid}
use Rattle.irq_laws.specs.Driven.{cell_after, cell_of, cell_with}
use Rattle.irq_laws.specs.Kept.{complete}
use Rattle.irq_model.proofs.Same.{driver_from_same}
use Rattle.device_table.specs.Rows.{table_by}
use Rattle.device_table.specs.Sums.{one_if}
use Rattle.act_list.specs.Lists.{ListSeen, flags_of, cleared}
use Rattle.act_thread.specs.declared.rows.ThreadRow.{ThreadRow}
use Rattle.ask_counts.specs.declared.rows.AskRow.{AskRow}
use Rattle.desc_state.specs.Desc.{DescSeen}
use Rattle.run_scripts.specs.Places.{PlacesSeen}
use Rattle.run_scripts.specs.declared.rows.RunRow.{RunRow}
use Rattle.line_marks.proofs.CellFollows.{cell_is}
use Rattle.line_marks.specs.Actions.{actions_of}
use Rattle.line_marks.specs.Rounds.{RoundSeen}
use Rattle.line_marks.specs.State.{StateSeen, state_of}
use Rattle.line_marks.specs.Threads.{thread_of, threads_of}
use Rattle.line_futures.proofs.Actions.{flags_same}
use Rattle.line_futures.specs.Canon.{without_bits, canon}
use Rattle.line_futures.specs.Futures.{AreAlike}
use Rattle.line_futures.specs.Places.{place_by, within_by, count_in, SamePlaces}
use Rattle.line_words.proofs.Placing.{none_called}
use Rattle.line_words.proofs.Past.{asks_of_dev, runs_of_dev, shaped}
use Rattle.line_words.proofs.Told.{one_told, cpu_told, dev_told, mask_told, freeing_told, begun_told, thread_told, keys_of, table_told, linked_told}
use Rattle.line_words.proofs.Told.{Counted, AreLoud, asks_told, quiet_told, loud_told, place_told, run_told}
use Rattle.line_words.specs.Node.{drivers_in, places_words, node}
use Rattle.line_marks.specs.Aim.{number_of}
use Rattle.line_words.specs.Words.{has_more, dev_number, mask_number, begun_words, thread_words, ask_words, run_words, table_words}
use Rattle.line_words.specs.Words.{linked_words, freeing_words, desc_words, round_words, more_words, state_words}

-- ---- the descriptor's words, and the round's

record SameDesc (s t : StateSeen) : Type 0 where
  depth : s.desc.depth ≡ t.desc.depth
  started : s.desc.started ≡ t.desc.started
  masked : s.desc.masked ≡ t.desc.masked
  pending : s.desc.pending ≡ t.desc.pending
  oneshot : s.desc.oneshot ≡ t.desc.oneshot
  spurious : s.desc.spurious ≡ t.desc.spurious
  soft : s.desc.soft ≡ t.desc.soft
  flow : s.desc.flow ≡ t.desc.flow
  stored : s.cell.stored ≡ t.cell.stored
  sent : s.cell.sent ≡ t.cell.sent
  high : s.cell.high ≡ t.cell.high

desc_told : (s t : StateSeen) (a b : List ℕ) → desc_words s a ≡ desc_words t b → SameDesc s t × (a ≡ b)
desc_told s t a b h = (
  record {
    depth = (let e : s.desc.depth ≡ t.desc.depth = cc in e);
    started = one_told _ _ (let e : one_if s.desc.started ≡ one_if t.desc.started = cc in e);
    masked = one_told _ _ (let e : one_if s.desc.masked ≡ one_if t.desc.masked = cc in e);
    pending = one_told _ _ (let e : one_if s.desc.pending ≡ one_if t.desc.pending = cc in e);
    oneshot = one_told _ _ (let e : one_if s.desc.oneshot ≡ one_if t.desc.oneshot = cc in e);
    spurious = one_told _ _ (let e : one_if s.desc.spurious ≡ one_if t.desc.spurious = cc in e);
    soft = one_told _ _ (let e : one_if s.desc.soft ≡ one_if t.desc.soft = cc in e);
    flow = cpu_told _ _ (let e : one_if (is_some s.desc.flow) ≡ one_if (is_some t.desc.flow) = cc in e)
        (let e : number_of s.desc.flow ≡ number_of t.desc.flow = cc in e);
    stored = one_told _ _ (let e : one_if s.cell.stored ≡ one_if t.cell.stored = cc in e);
    sent = one_told _ _ (let e : one_if s.cell.sent ≡ one_if t.cell.sent = cc in e);
    high = one_told _ _ (let e : one_if s.cell.high ≡ one_if t.cell.high = cc in e);
  },
  (let e : a ≡ b = cc in e),
)

record SameRound (s t : StateSeen) : Type 0 where
  mask : s.aim.mask ≡ t.aim.mask
  waiting : s.aim.waiting ≡ t.aim.waiting
  working : s.round.working ≡ t.round.working
  wakes : s.round.wakes ≡ t.round.wakes
  handles : s.round.handles ≡ t.round.handles
  moment : s.round.moment ≡ t.round.moment
  counted : s.counts.counts.irq_count ≡ t.counts.counts.irq_count
  unhandled : s.counts.counts.irqs_unhandled ≡ t.counts.counts.irqs_unhandled
  handled : s.counts.counts.threads_handled ≡ t.counts.counts.threads_handled
  deferred : s.counts.counts.deferred ≡ t.counts.counts.deferred
  last : s.counts.counts.last_unhandled ≡ t.counts.counts.last_unhandled

round_told : (s t : StateSeen) (a b : List ℕ) → round_words s a ≡ round_words t b → SameRound s t × (a ≡ b)
round_told s t a b h = (
  record {
    mask = (let e : s.aim.mask ≡ t.aim.mask = cc in e);
    waiting = mask_told _ _ (let e : one_if (is_some s.aim.waiting) ≡ one_if (is_some t.aim.waiting) = cc in e)
        (let e : mask_number s.aim.waiting ≡ mask_number t.aim.waiting = cc in e);
    working = dev_told _ _ (let e : one_if (is_some s.round.working) ≡ one_if (is_some t.round.working) = cc in e)
        (let e : dev_number s.round.working ≡ dev_number t.round.working = cc in e);
    wakes = one_told _ _ (let e : one_if s.round.wakes ≡ one_if t.round.wakes = cc in e);
    handles = one_told _ _ (let e : one_if s.round.handles ≡ one_if t.round.handles = cc in e);
    moment = (let e : s.round.moment ≡ t.round.moment = cc in e);
    counted = (let e : s.counts.counts.irq_count ≡ t.counts.counts.irq_count = cc in e);
    unhandled = (let e : s.counts.counts.irqs_unhandled ≡ t.counts.counts.irqs_unhandled = cc in e);
    handled = (let e : s.counts.counts.threads_handled ≡ t.counts.counts.threads_handled = cc in e);
    deferred = one_told _ _ (let e : one_if s.counts.counts.deferred ≡ one_if t.counts.counts.deferred = cc in e);
    last = (let e : s.counts.counts.last_unhandled ≡ t.counts.counts.last_unhandled = cc in e);
  },
  (let e : a ≡ b = cc in e),
)

-- ---- the devices of the tables

devs_of : List DeviceDef → List DevNo
devs_of [] = []
devs_of (x ∷ xs) = x.dev ∷ devs_of xs

module _ {R : Type 0} where
  keys_table : (f : DevNo → R) (xs : List DeviceDef) → keys_of (table_by f xs) ≡ devs_of xs
  unfolding devs_of
  keys_table f [] = refl
  keys_table f (x ∷ xs) = ap (λ (k : List DevNo). x.dev ∷ k) (keys_table f xs)

keys_cleared : (t : List (DevNo × Bool)) → keys_of (cleared t) ≡ keys_of t
keys_cleared [] = refl
keys_cleared (e ∷ es) = ap (λ (k : List DevNo). e.0 ∷ k) (keys_cleared es)

keys_begun : (b : Bool) (t : List (DevNo × Bool)) → keys_of (cond b t (cleared t)) ≡ keys_of t
keys_begun true t = refl
keys_begun false t = keys_cleared t

-- no device is quiet
loud_table : (f : DevNo → AskRow) → ((d : DevNo) → (f d).quiet ≡ false) → (xs : List DeviceDef) → AreLoud (table_by f xs)
loud_table f none [] = tt
loud_table f none (x ∷ xs) = (none x.dev, loud_table f none xs)

-- ---- places

module _ (def : LineDef) (g h : List Entry) where
  abbrev SamePlace : DriverNo → Type 0
  SamePlace r = (place_by def r g ≡ place_by def r h) × (within_by def r g ≡ within_by def r h)

  places_told : (rs : List DriverNo) (a b : List ℕ) → places_words def g rs a ≡ places_words def h rs b
      → ((r : DriverNo) → list_any (same_driver r) rs ≡ true → SamePlace r) × (a ≡ b)
  places_told [] a b e = ((λ r there. absurd (let x : ⊥ = cc there in x)), e)
  places_told (w ∷ rs) a b e =
      let p : place_by def w g ≡ place_by def w h = cc in
      let k : within_by def w g ≡ within_by def w h = cc in
      let i : places_words def g rs a ≡ places_words def h rs b = cc in
      let rest = places_told rs a b i in
      ((λ r there. by_test r (same_driver r w) refl there (rest.0 r) p k), rest.1)
    where
      by_test : (r : DriverNo) (c : Bool) → same_driver r w ≡ c → (c || list_any (same_driver r) rs) ≡ true
          → (list_any (same_driver r) rs ≡ true → SamePlace r) → place_by def w g ≡ place_by def w h
          → within_by def w g ≡ within_by def w h → SamePlace r
      by_test r true is there more p k =
          let e = driver_from_same r w is in (
            ap (λ (x : DriverNo). place_by def x g) e ∙ (p ∙ ap (λ (x : DriverNo). place_by def x h) (sym e)),
            ap
                (λ (x : DriverNo). within_by def x g) e ∙ (k ∙ ap (λ (x : DriverNo). within_by def x h) (sym e)),
          )
      by_test r false is there more p k = more there

  places_same : SamePlaces def g h → (rs : List DriverNo) (a : List ℕ) → places_words def g rs a ≡ places_words def h rs a
  places_same same [] a = refl
  places_same same (r ∷ rs) a =
      ap (λ n. n ∷ within_by def r g ∷ places_words def g rs a) (same r).0
      ∙ (ap (λ n. place_by def r h ∷ n ∷ places_words def g rs a) (same r).1
      ∙ ap (λ (x : List ℕ). place_by def r h ∷ within_by def r h ∷ x) (places_same same rs a))

-- ---- pasts

desc_by : (d e : DescSeen) → d.unlazy ≡ e.unlazy → d.depth ≡ e.depth → d.started ≡ e.started → d.masked ≡ e.masked
    → d.pending ≡ e.pending → d.oneshot ≡ e.oneshot → d.spurious ≡ e.spurious → d.soft ≡ e.soft → d.flow ≡ e.flow
    → d ≡ e
desc_by d e a b c f g h i j k =
    (let x : ◌≡◌ {A = DescSeen} (record {
      unlazy = d.unlazy;
      depth = d.depth;
      started = d.started;
      masked
          = d.masked;
      pending = d.pending;
      oneshot = d.oneshot;
      spurious = d.spurious;
      soft = d.soft;
      flow = d.flow;
    }) e
    = rw (a, b, c, f, g, h, i, j, k) refl in x)

module _ (def : LineDef) (valid : IsValid def) (g h : List Entry) (legal : IsLegalPast def g) (other : IsLegalPast def h) where
  abbrev s : StateSeen
  s = canon (state_of def g)

  abbrev t : StateSeen
  t = canon (state_of def h)

  cell_same : SameDesc (canon (state_of def g)) (canon (state_of def h)) → cell_after def g ≡ cell_after def h
  cell_same d =
      let p = cell_is def g valid legal in
      let q = cell_is def h valid other in
      let stored : (cell_of def g).stored ≡ (cell_of def h).stored = ap (λ (c : Cell). c.stored) (sym p) ∙ (d.stored ∙ ap (λ (c : Cell). c.stored) q) in
      let sent : (cell_of def g).sent ≡ (cell_of def h).sent = ap (λ (c : Cell). c.sent) (sym p) ∙ (d.sent ∙ ap (λ (c : Cell). c.sent) q) in
      let high : (cell_of def g).high ≡ (cell_of def h).high = ap (λ (c : Cell). c.high) (sym p) ∙ (d.high ∙ ap (λ (c : Cell). c.high) q) in
      p
      ∙ (ap (λ b. cell_with def b (cell_of def g).stored (cell_of def g).sent (cell_of def g).high (cell_of def g).in_service) d.masked
      ∙ (ap (λ b. cell_with def (cell_of def h).masked b (cell_of def g).sent (cell_of def g).high (cell_of def g).in_service) stored
      ∙ (ap (λ b. cell_with def (cell_of def h).masked (cell_of def h).stored b (cell_of def g).high (cell_of def g).in_service) sent
      ∙ (ap (λ b. cell_with def (cell_of def h).masked (cell_of def h).stored (cell_of def h).sent b (cell_of def g).in_service) high
      ∙ (ap (λ b. cell_with def (cell_of def h).masked (cell_of def h).stored (cell_of def h).sent (cell_of def h).high (serves def && b)) (ap is_some d.flow)
      ∙ sym q)))))

  begun_keys : keys_of (canon (state_of def g)).list.begun ≡ keys_of (canon (state_of def h)).list.begun
  begun_keys =
      keys_begun (is_some (state_of def g).desc.flow) (state_of def g).list.begun ∙ (keys_table (has_begun def g) def.devices
      ∙ sym (keys_begun (is_some (state_of def h).desc.flow) (state_of def h).list.begun ∙ keys_table (has_begun def h) def.devices))

  thread_keys : keys_of (threads_of def g) ≡ keys_of (threads_of def h)
  thread_keys = keys_table (thread_of g) def.devices ∙ sym (keys_table (thread_of h) def.devices)

  ask_keys : keys_of (canon (state_of def g)).asks ≡ keys_of (canon (state_of def h)).asks
  ask_keys =
      ap (λ (x : List (DevNo × AskRow)). keys_of x) (shaped def g valid legal).asks ∙ (keys_table (asks_of_dev def g) def.devices
      ∙ sym (ap (λ (x : List (DevNo × AskRow)). keys_of x) (shaped def h valid other).asks ∙ keys_table (asks_of_dev def h) def.devices))

  run_keys : keys_of (canon (state_of def g)).places.rows ≡ keys_of (canon (state_of def h)).places.rows
  run_keys =
      ap (λ (x : List (DevNo × RunRow)). keys_of x) (shaped def g valid legal).runs ∙ (keys_table (runs_of_dev def g) def.devices
      ∙ sym (ap (λ (x : List (DevNo × RunRow)). keys_of x) (shaped def h valid other).runs ∙ keys_table (runs_of_dev def h) def.devices))

  loud : has_more def ≡ false → AreLoud (canon (state_of def g)).asks × AreLoud (canon (state_of def h)).asks
  loud plain =
      let P : List (DevNo × AskRow) → Type 0 = λ x. AreLoud x in (
        subst P (sym (shaped def g valid legal).asks) (loud_table (asks_of_dev def g) ((shaped def g valid legal).loud plain) def.devices),
        subst P (sym (shaped def h valid other).asks) (loud_table (asks_of_dev def h) ((shaped def h valid other).loud plain) def.devices),
      )

  places_by : (p q : PlacesSeen) → p.work ≡ q.work → p.rows ≡ q.rows → p ≡ q
  places_by p q i j = (let x : ◌≡◌ {A = PlacesSeen} (record { work = p.work; rows = p.rows }) q = rw (i, j) refl in x)

  -- which devices are quiet, and how far the runs are
  more_tells : (more : Bool) → has_more def ≡ more → (x y : List ℕ) → Counted (canon (state_of def g)).asks (canon (state_of def h)).asks
      → more_words more (canon (state_of def g)) x ≡ more_words more (canon (state_of def h)) y
      → ((canon (state_of def g)).asks ≡ (canon (state_of def h)).asks) × ((canon (state_of def g)).places ≡ (canon (state_of def h)).places) × (x ≡ y)
  more_tells false plain x y same told = (
    loud_told _ _ same (loud plain).0 (loud plain).1,
    (shaped def g valid legal).unbegun plain ∙ sym ((shaped def h valid other).unbegun plain),
    told,
  )
  more_tells true is x y same told =
      let w = place_told _ _ _ _ told in
      let q = quiet_told _ _ _ _ same w.1 in
      let r = table_told run_words run_told _ _ x y run_keys q.1 in
      (q.0, places_by _ _ w.0 r.0, r.1)

  abbrev made_of : DescSeen → Cell → ℕ → Option ℕ → ListSeen → List (DevNo × ThreadRow) → List (DevNo × AskRow) → PlacesSeen
      → RoundSeen → Counts → Option (Actor × DevNo) → StateSeen
  made_of d c m w l r a p n k f = record {
    desc = d;
    cell = c;
    active = false;
    aimed = 0;
    aim
        = record { cpus = def.cpus; later = def.later; mask = m; waiting = w };
    list = l;
    threads = r;
    asks = a;
    facts
        = s.facts;
    places = p;
    round = n;
    counts = record { window = def.window; limit = def.limit; counts = k };
    freeing = f;
  }

  round_by : (a b : RoundSeen) → a.working ≡ b.working → a.wakes ≡ b.wakes → a.handles ≡ b.handles → a.moment ≡ b.moment → a ≡ b
  round_by a b i j k l = (let x : ◌≡◌ {A = RoundSeen} (record
      { working = a.working; wakes = a.wakes; handles = a.handles; moment = a.moment }) b = rw (i, j, k, l) refl in x)

  counts_by : (a b : Counts) → a.irq_count ≡ b.irq_count → a.irqs_unhandled ≡ b.irqs_unhandled
      → a.threads_handled ≡ b.threads_handled → a.deferred ≡ b.deferred → a.last ≡ b.last
      → a.last_unhandled ≡ b.last_unhandled → a ≡ b
  counts_by a b i j k l m n = (let x : ◌≡◌ {A = Counts}
      (record {
        irq_count = a.irq_count;
        irqs_unhandled = a.irqs_unhandled;
        threads_handled
            = a.threads_handled;
        deferred = a.deferred;
        last = a.last;
        last_unhandled = a.last_unhandled;
      }) b
      = rw (i, j, k, l, m, n) refl in x)

  list_by : (a b : ListSeen) → a.actions ≡ b.actions → a.begun ≡ b.begun → a.rounds ≡ b.rounds → a ≡ b
  list_by a b i j k = (let x : ◌≡◌ {A = ListSeen} (record { actions = a.actions; begun = a.begun; rounds = a.rounds }) b = rw (i, j, k) refl in x)

  pub node_tells : node def g ≡ node def h → AreAlike def g h
  node_tells same =
      let d = desc_told s t _ _ same in
      let r = round_told s t _ _ d.1 in
      let f = freeing_told s.freeing t.freeing _ _ r.1 in
      let b = table_told begun_words begun_told s.list.begun t.list.begun _ _ begun_keys f.1 in
      let w = table_told thread_words thread_told s.threads t.threads _ _ thread_keys b.1 in
      let a = asks_told s.asks t.asks _ _ ask_keys w.1 in
      let m = more_tells (has_more def) refl _ _ a.0 a.1 in
      let p = places_told def g h (drivers_in def.calls) _ _ m.2 in
      let flags : flags_of (actions_of g) ≡ flags_of (actions_of h) =
      sym (flags_same (actions_of g)) ∙ (linked_told (flags_of s.list.actions) (flags_of t.list.actions) p.1 ∙ flags_same (actions_of h)) in
      let desc : s.desc ≡ t.desc = desc_by s.desc t.desc refl d.0.depth d.0.started d.0.masked d.0.pending d.0.oneshot d.0.spurious d.0.soft d.0.flow in
      let list : s.list ≡ t.list = list_by s.list t.list (ap without_bits flags) b.0 refl in
      let round : s.round ≡ t.round = round_by s.round t.round r.0.working r.0.wakes r.0.handles r.0.moment in
      let counts : s.counts.counts ≡ t.counts.counts = counts_by s.counts.counts t.counts.counts r.0.counted
      r.0.unhandled r.0.handled r.0.deferred refl r.0.last in
      record {
        state =
            ap (λ (x : DescSeen). made_of x s.cell s.aim.mask s.aim.waiting s.list s.threads s.asks s.places s.round s.counts.counts s.freeing) desc
            ∙ (ap (λ (x : Cell). made_of t.desc x s.aim.mask s.aim.waiting s.list s.threads s.asks s.places s.round s.counts.counts s.freeing) (cell_same d.0)
            ∙ (ap (λ x. made_of t.desc t.cell x s.aim.waiting s.list s.threads s.asks s.places s.round s.counts.counts s.freeing) r.0.mask
            ∙ (ap (λ (x : Option ℕ). made_of t.desc t.cell t.aim.mask x s.list s.threads s.asks s.places s.round s.counts.counts s.freeing) r.0.waiting
            ∙ (ap (λ (x : ListSeen). made_of t.desc t.cell t.aim.mask t.aim.waiting x s.threads s.asks s.places s.round s.counts.counts s.freeing) list
            ∙ (ap (λ (x : List (DevNo × ThreadRow)). made_of t.desc t.cell t.aim.mask t.aim.waiting t.list x s.asks
            s.places s.round s.counts.counts s.freeing) w.0
            ∙ (ap (λ (x : List (DevNo × AskRow)). made_of t.desc t.cell t.aim.mask t.aim.waiting t.list t.threads x
            s.places s.round s.counts.counts s.freeing) m.0
            ∙ (ap (λ (x : PlacesSeen). made_of t.desc t.cell t.aim.mask t.aim.waiting t.list t.threads t.asks x s.round s.counts.counts s.freeing) m.1
            ∙ (ap (λ (x : RoundSeen). made_of t.desc t.cell t.aim.mask t.aim.waiting t.list t.threads t.asks t.places x s.counts.counts s.freeing) round
            ∙ (ap (λ (x : Counts). made_of t.desc t.cell t.aim.mask t.aim.waiting t.list t.threads t.asks t.places t.round x s.freeing) counts
            ∙ ap (made_of t.desc t.cell t.aim.mask t.aim.waiting t.list t.threads t.asks t.places t.round t.counts.counts) f.0)))))))));
        places = λ r. by_called r (list_any (same_driver r) (drivers_in def.calls)) refl p.0;
      }
    where
      by_called : (r : DriverNo) (c : Bool) → list_any (same_driver r) (drivers_in def.calls) ≡ c
          → ((x : DriverNo) → list_any (same_driver x) (drivers_in def.calls) ≡ true → SamePlace def g h x)
          → SamePlace def g h r
      by_called r true there told = told r there
      by_called r false none told =
          let no = none_called r def.calls none in (
            ap (λ (cs : List Call). length (complete [] cs (entries_by r g))) no ∙ sym (ap (λ (cs : List Call). length (complete [] cs (entries_by r h))) no),
            ap (λ (cs : List Call). count_in (due_of cs (entries_by r g))) no ∙ sym (ap (λ (cs : List Call). count_in (due_of cs (entries_by r h))) no),
          )

  pub node_same : AreAlike def g h → node def g ≡ node def h
  node_same like =
      ap (λ (x : StateSeen). state_words (has_more def) x (places_words def g (drivers_in def.calls))) like.state
      ∙ ap (λ (x : List ℕ). desc_words t (round_words t
      (freeing_words t.freeing (table_words begun_words t.list.begun
      (table_words thread_words t.threads (table_words ask_words t.asks (more_words (has_more def) t x)))))))
      (places_same def g h like.places (drivers_in def.calls) (linked_words (flags_of t.list.actions)))
