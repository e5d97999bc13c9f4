-- The lowest actor that can move, by what the ready actors are.
use Rattle.std.proofs.Common.{◌≡◌, ℕ, zero, suc, ◌+◌, ◌<◌, ◌==◌, ◌⊎◌, inl, inr, Bool, true, false, cond, is_some}
use Rattle.std.proofs.Common.{unwrap_or, Option, Some, None, List, [], ◌∷◌, ◌++◌, map, length, filter, take, slice_get}
use Rattle.std.proofs.Common.{refl, sym, ap, ◌∙◌, subst, arith}
use Rattle.std.specs.List.{list_any}
use Rattle.std.proofs.Math.ListN.{length-map}
use Rattle.std.proofs.lemmas.Bool.{or_cases}
use Rattle.std.proofs.lemmas.Option.{slice_get_within}
use Rattle.irq_base.specs.declared.devices.DeviceDef.{DeviceDef}
use Rattle.irq_base.specs.declared.entries.Actor.{Actor}
use Rattle.irq_base.specs.declared.entries.Actor.TheVariants as actors
use Rattle.irq_base.specs.declared.numbers.CpuNo.{CpuNo}
use Rattle.irq_base.specs.declared.numbers.DevNo.{DevNo}
use Rattle.irq_base.specs.declared.numbers.DriverNo.{DriverNo}
use Rattle.irq_base.specs.declared.numbers.LineNo.{LineNo}
use Rattle.irq_model.specs.Lines.{is_device}
use Rattle.irq_model.proofs.Same.{dev_from_same}
use Rattle.irq_laws.proofs.Chosen.{the_same}
use Rattle.irq_line.specs.Seen.{LineSeen}
use Rattle.play_laws.specs.Actors.{count_up}
use Rattle.board_def.proofs.Rising.{Rises, rises_on, head_of}
use Rattle.board_play.specs.Lines.{Move}
use Rattle.board_play.specs.Order.{due_move, threads_of, cpus_of, drivers_of, actors_of}
use Rattle.board_play.specs.Play.{or_move, first_move}
use Rattle.board_ready.specs.Kept.{thread_of}
use Rattle.board_ready.specs.Ready.{lowest_thread, lowest_cpu, is_cpu_ready, cpu_line, is_driver_ready, current_call}
use Rattle.board_ready.specs.Ready.{can_go_on, lowest_driver, thread_or, cpu_actor, driver_actor, or_driver, lowest}
use Rattle.board_ready.specs.Seen.{ReadySeen}
use Rattle.board_ready.specs.declared.parts.CurrentCall.{CurrentCall}
use Rattle.board_ready.specs.declared.parts.LineReadiness.{LineReadiness}
use Rattle.board_ready.specs.declared.parts.ReadyActor.{ReadyActor}
use Rattle.board_ready.specs.declared.parts.ReadyActor.TheVariants as readies
use Rattle.board_ready.specs.declared.parts.ReadyThread.{ReadyThread}
use Rattle.board_ready.proofs.Lowest.{first_some, first_none, thread_some, thread_least, thread_none}
use Rattle.board_core.specs.ReadyFor.{call_of}
use Rattle.board_core.specs.Scripts.{ScriptSeen}
use Rattle.board_core.specs.Seen.{board_lines}
use Rattle.board_core.proofs.Movers.{some_of, none_of, not_both, first_append, first_there, none_there, thread_ready}
use Rattle.board_core.proofs.Movers.{line_of, thread_device_of, driver_can}
use Rattle.board_core.proofs.CpuMovers.{few_cpus, cpu_ready_is, ready_line}
use Rattle.board_core.proofs.InLists.{map_there, map_back}
use Rattle.board_core.specs.Seen.{SystemSeen}
use Rattle.board_core.proofs.Kept.{KeptSystem}

-- ---- places in two lists

module _ {A : Type 0} where
  pub at_first : (xs ys : List A) (i : ℕ) (x : A) → slice_get xs i ≡ Some x → slice_get (xs ++ ys) i ≡ Some x
  at_first [] ys i x at = cc
  at_first (z ∷ zs) ys zero x at = at
  at_first (z ∷ zs) ys (suc i) x at = at_first zs ys i x at

  pub at_second : (xs ys : List A) (i : ℕ) (x : A) → slice_get ys i ≡ Some x → slice_get (xs ++ ys) (length xs + i) ≡ Some x
  at_second [] ys i x at = ap (λ (n : ℕ). slice_get ys n) (let e : 0 + i ≡ i = omega arith in e) ∙ at
  at_second (z ∷ zs) ys i x at = ap (λ (n : ℕ). slice_get (z ∷ (zs ++ ys)) n)
      (let e : suc (length zs) + i ≡ suc (length zs + i) = omega arith in e) ∙ at_second zs ys i x at

  pub either_at : (xs ys : List A) (j : ℕ) (x : A) → slice_get (xs ++ ys) j ≡ Some x
      → (slice_get xs j ≡ Some x) ⊎ ((i : ℕ) × (j ≡ length xs + i) × (slice_get ys i ≡ Some x))
  either_at [] ys j x at = inr (j, omega arith, at)
  either_at (z ∷ zs) ys zero x at = inl at
  either_at (z ∷ zs) ys (suc j) x at = elim (either_at zs ys j x at)
      [ inl first ↦ inl first | inr second ↦ inr (second.0, (let e = second.1 in omega (arith, e)), second.2) ]

-- ---- which it is

module _ (s : ReadySeen) where
  by_three : (a : Option ReadyThread) (b c : Option ℕ) → (lowest_thread s.lines ≡ a) → (lowest_cpu s.lines ≡ b)
      → (lowest_driver s ≡ c) → lowest s ≡ or_driver (thread_or a (cpu_actor b)) (driver_actor c)
  by_three a b c is_a is_b is_c =
      ap (λ (o : Option ReadyThread). or_driver (thread_or o (cpu_actor (lowest_cpu s.lines))) (driver_actor (lowest_driver s))) is_a
      ∙ (ap (λ (o : Option ℕ). or_driver (thread_or a (cpu_actor o)) (driver_actor (lowest_driver s))) is_b
      ∙ ap (λ (o : Option ℕ). or_driver (thread_or a (cpu_actor b)) (driver_actor o)) is_c)

  -- what each answer says
  abbrev Says : Option ReadyActor → Option ReadyThread → Option ℕ → Option ℕ → Type 0
  Says None a b c = (a ≡ None) × (b ≡ None) × (c ≡ None)
  Says (Some (readies.Thread t)) a b c = a ≡ Some t
  Says (Some (readies.Cpu cpu)) a b c = (a ≡ None) × (b ≡ Some cpu.0)
  Says (Some (readies.Driver j)) a b c = (a ≡ None) × (b ≡ None) × (c ≡ Some j)

  said : (a : Option ReadyThread) (b c : Option ℕ) → Says (or_driver (thread_or a (cpu_actor b)) (driver_actor c)) a b c
  said (Some t) b c = refl
  said None (Some n) c = (refl, refl)
  said None None (Some j) = (refl, refl, refl)
  said None None None = (refl, refl, refl)

  pub lowest_says : (o : Option ReadyActor) → o ≡ lowest s → Says o (lowest_thread s.lines) (lowest_cpu s.lines) (lowest_driver s)
  lowest_says o is =
      subst (λ (x : Option ReadyActor). Says x (lowest_thread s.lines) (lowest_cpu s.lines) (lowest_driver s))
      (sym (is ∙ by_three (lowest_thread s.lines) (lowest_cpu s.lines) (lowest_driver s) refl refl refl))
      (said (lowest_thread s.lines) (lowest_cpu s.lines) (lowest_driver s))

-- ---- lists of actors

rising_key : {A : Type 0} (key : A → ℕ) (xs : List A) → Rises key xs → (i j : ℕ) (x y : A) → slice_get xs i ≡ Some x
    → slice_get xs j ≡ Some y → i < j → key x < key y
rising_key key [] rises i j x y at_i at_j less = cc
rising_key key (z ∷ zs) rises i zero x y at_i at_j less = absurd (omega (arith, less))
rising_key key (z ∷ zs) rises zero (suc j) x y at_i at_j less
    = subst (λ (w : _). key w < key y) (the_same z x at_i)
    (head_of (λ (w : _). key w < key y) z (take j zs) (rises (suc j) y at_j))
rising_key key (z ∷ zs) rises (suc i) (suc j) x y at_i at_j less = rising_key key zs (rises_on key z zs rises) i j x y at_i at_j (omega (arith, less))

-- the device's place among all
record PlaceOf (xs : List DeviceDef) (d : DevNo) : Type 0 where
  pub place : ℕ
  pub device : DeviceDef
  pub at : slice_get xs place ≡ Some device
  pub dev_is : device.dev ≡ d

device_place : (xs : List DeviceDef) (line : LineNo) (d : DevNo) → list_any (is_device d) (filter (λ x. x.line.0 == line.0) xs) ≡ true → PlaceOf xs d
device_place [] line d h = cc
device_place (x ∷ xs) line d h = by_test (x.line.0 == line.0) refl h (device_place xs line d)
  where
    further : PlaceOf xs d → PlaceOf (x ∷ xs) d
    further p = record { place = suc p.place; device = p.device; at = p.at; dev_is = p.dev_is }

    by_test : (b : Bool) → (x.line.0 == line.0) ≡ b → list_any (is_device d)
        (cond b (x ∷ filter (λ x. x.line.0 == line.0) xs) (filter (λ x. x.line.0 == line.0) xs)) ≡ true
        → (list_any (is_device d) (filter (λ x. x.line.0 == line.0) xs) ≡ true → PlaceOf xs d)
        → PlaceOf (x ∷ xs) d
    by_test true of_line h deeper = elim (or_cases (is_device d x) (list_any (is_device d) (filter (λ x. x.line.0 == line.0) xs)) h) [
      | inl is ↦ record { place = zero; device = x; at = refl; dev_is = sym (dev_from_same d x.dev is) }
      | inr there ↦ further (deeper there)
    ]
    by_test false other h deeper = further (deeper h)

count_at : (k n i : ℕ) → i < n → slice_get (map (λ n. actors.Cpu (record { 0 = n })) (count_up k n)) i ≡ Some (actors.Cpu (record { 0 = k + i }))
count_at k zero i less = absurd (omega (arith, less))
count_at k (suc n) zero less = ap (λ (m : ℕ). Some (actors.Cpu (record { 0 = m }))) (let e : k ≡ k + 0 = omega arith in e)
count_at k (suc n) (suc i) less = count_at (k + 1) n i (omega (arith, less))
    ∙ ap (λ (m : ℕ). Some (actors.Cpu (record { 0 = m }))) (let e : k + 1 + i ≡ k + suc i = omega arith in e)

count_back : (k n i : ℕ) (a : Actor) → slice_get (map (λ n. actors.Cpu (record { 0 = n })) (count_up k n)) i ≡ Some a
    → (i < n) × (actors.Cpu (record { 0 = k + i }) ≡ a)
count_back k zero i a at = cc
count_back k (suc n) zero a at = (
  omega arith,
  ap (λ (m : ℕ). actors.Cpu (record { 0 = m }))
      (let e : k + 0 ≡ k = omega arith in e) ∙ the_same (actors.Cpu (record { 0 = k })) a at,
)
count_back k (suc n) (suc i) a at =
    let b = count_back (k + 1) n i a at in
    let less = b.0 in
    (omega (arith, less), ap (λ (m : ℕ). actors.Cpu (record { 0 = m })) (let e : k + suc i ≡ k + 1 + i = omega arith in e) ∙ b.1)

module _ {view : SystemSeen} (system : KeptSystem view) where
  open system use {board, lines, scripts, parts.{ready}, is_board, kept}

  abbrev due : Actor → Option Move
  due a = due_move board (board_lines lines) a

  abbrev first : List Actor → Option Move
  first all = first_move board (board_lines lines) all

  rests : (a : Actor) → ((m : Move) → due a ≡ Some m → ⊥) → due a ≡ None
  rests a never = by_move (due a) refl
    where
      by_move : (o : Option Move) → due a ≡ o → due a ≡ None
      by_move None is = is
      by_move (Some m) is = absurd (never m is)

  in_turn : first (actors_of board) ≡ or_move (first (threads_of board)) (or_move (first (cpus_of board)) (first (drivers_of board)))
  in_turn =
      first_append board (board_lines lines) (threads_of board) (cpus_of board ++ drivers_of board)
      ∙ ap (λ (o : Option Move). or_move (first (threads_of board)) o) (first_append board (board_lines lines) (cpus_of board) (drivers_of board))

  -- the first of a list that can move
  pub record At (all : List Actor) (a : Actor) : Type 0 where
    pub place : ℕ
    pub at : slice_get all place ≡ Some a
    pub move : Move
    pub due_is : due a ≡ Some move
    pub before : (j : ℕ) (b : Actor) → j < place → slice_get all j ≡ Some b → due b ≡ None

  abbrev None_of : List Actor → Type 0
  None_of all = (j : ℕ) (b : Actor) → slice_get all j ≡ Some b → due b ≡ None

  its_move : (all : List Actor) (a : Actor) (h : At all a) → first all ≡ Some h.move
  its_move all a h = first_there board (board_lines lines) all h.place a h.move h.at h.due_is h.before

  -- ---- threads

  pub no_thread : lowest_thread ready.lines ≡ None → None_of (threads_of board)
  no_thread none j a at = of_device (map_back (λ (x : DeviceDef). actors.Thread x.dev) board.devices j a at)
    where
      of_device : ((x : DeviceDef) × (slice_get board.devices j ≡ Some x) × (actors.Thread x.dev ≡ a)) → due a ≡ None
      of_device h = subst (λ (b : Actor). due b ≡ None) h.2 (rests (actors.Thread h.0.dev) (λ m is_due.
          (let t = thread_ready system h.0.dev m is_due in
          not_both (thread_of (slice_get ready.lines t.0)) t.3 (thread_none ready.lines t.0 none) (ap (λ (o : Option LineReadiness). thread_of o) t.5 ∙ t.6))))

  -- its line is there
  pub line_there : (t : ReadyThread) → lowest_thread ready.lines ≡ Some t → (x : LineSeen) × (slice_get lines t.line ≡ Some x)
  line_there t low = by_part (slice_get ready.lines t.line) refl (thread_some ready.lines t low)
    where
      by_part : (o : Option LineReadiness) → slice_get ready.lines t.line ≡ o → thread_of o ≡ Some t.dev → (x : LineSeen) × (slice_get lines t.line ≡ Some x)
      by_part None at its = cc
      by_part (Some p) at its = let x = line_of system t.line p at in (x.0, x.1)

  pub thread_first : (t : ReadyThread) → lowest_thread ready.lines ≡ Some t → At (threads_of board) (actors.Thread t.dev)
  thread_first t low =
      let x = line_there t low in
      let its = thread_some ready.lines t low in
      let v = thread_device_of system t.line x.0 t.dev x.1 its in
      let p = device_place board.devices x.0.def.line t.dev v.1 in
      let actor : slice_get (threads_of board) p.place ≡ Some (actors.Thread t.dev) =
      map_there (λ (y : DeviceDef). actors.Thread y.dev) board.devices p.place p.device p.at
      ∙ ap (λ (d : DevNo). Some (actors.Thread d)) p.dev_is in
      record {
        place = p.place;
        at = actor;
        move = v.0.0;
        due_is = v.0.1;
        before
            = λ j a less at_a. before p j a less (map_back (λ (y : DeviceDef). actors.Thread y.dev) board.devices j
            a at_a);
      }
    where
      rises : Rises (λ (y : DeviceDef). y.dev.0) board.devices
      rises i y at = (is_board.devices i y at).rises

      before : (p : PlaceOf board.devices t.dev) (j : ℕ) (a : Actor) → j < p.place
          → ((y : DeviceDef) × (slice_get board.devices j ≡ Some y) × (actors.Thread y.dev ≡ a)) → due a ≡ None
      before p j a less h = subst (λ (b : Actor). due b ≡ None) h.2 (rests (actors.Thread h.0.dev) (λ m is_due.
          (let u = thread_ready system h.0.dev m is_due in
          let below = rising_key (λ (y : DeviceDef). y.dev.0) board.devices rises j p.place h.0 p.device h.1 p.at less in
          let same = ap (λ (d : DevNo). d.0) p.dev_is in
          let least = thread_least ready.lines t u.0 u.3 low (ap (λ (o : Option LineReadiness). thread_of o) u.5 ∙ u.6) in
          let le = u.7 in
          omega (arith, below, same, least, le))))

  pub lowest_is_thread : (t : ReadyThread) → lowest_thread ready.lines ≡ Some t
      → (m : Move) × (due (actors.Thread t.dev) ≡ Some m) × (first (actors_of board) ≡ Some m)
  lowest_is_thread t low =
      let h = thread_first t low in (
        h.move,
        h.due_is,
        in_turn ∙ ap (λ (o : Option Move). or_move o
            (or_move (first (cpus_of board)) (first (drivers_of board))))
            (its_move (threads_of board) (actors.Thread t.dev) h),
      )

  -- ---- processors

  not_ready : (c : ℕ) → is_cpu_ready ready.lines c ≡ false → due (actors.Cpu (record { 0 = c })) ≡ None
  not_ready c none = none_of (due (actors.Cpu (record { 0 = c }))) (sym (cpu_ready_is system (record { 0 = c })) ∙ none)

  pub no_cpu : lowest_cpu ready.lines ≡ None → None_of (cpus_of board)
  unfolding lowest_cpu
  no_cpu none j a at =
      let b = count_back 0 board.cpus j a at in
      let less = b.0 in
      let few = is_board.few_cpus in
      subst (λ (x : Actor). due x ≡ None) b.1 (not_ready (0 + j) (first_none (is_cpu_ready ready.lines) 32 (0 + j) none (omega (arith, less, few))))

  pub cpu_first : (c : CpuNo) → lowest_cpu ready.lines ≡ Some c.0 → At (cpus_of board) (actors.Cpu c) × ((k : ℕ) × (cpu_line ready.lines c.0 ≡ Some k))
  unfolding lowest_cpu
  cpu_first c low =
      let f = first_some (is_cpu_ready ready.lines) 32 c.0 low in
      let h = some_of (due (actors.Cpu c)) (sym (cpu_ready_is system c) ∙ f.1) in
      let few = few_cpus system c h.0 h.1 in
      let at : slice_get (cpus_of board) c.0 ≡ Some (actors.Cpu c) = count_at 0 board.cpus c.0 few
      ∙ ap (λ (n : ℕ). Some (actors.Cpu (record { 0 = n }))) (let e : 0 + c.0 ≡ c.0 = omega arith in e) in (
        record {
          place = c.0;
          at = at;
          move = h.0;
          due_is = h.1;
          before = λ j a less at_a. (let b = count_back 0 board.cpus j a at_a in
              subst (λ (x : Actor). due x ≡ None) b.1 (not_ready (0 + j) (f.2 (0 + j) (omega (arith, less)))));
        },
        ready_line system c f.1,
      )

  pub lowest_is_cpu : (c : CpuNo) → lowest_thread ready.lines ≡ None → lowest_cpu ready.lines ≡ Some c.0
      → (m : Move) × (k : ℕ) × (cpu_line ready.lines c.0 ≡ Some k) × (due (actors.Cpu c) ≡ Some m)
      × (first (actors_of board) ≡ Some m)
  lowest_is_cpu c no_threads low =
      let h = cpu_first c low in (
        h.0.move,
        h.1.0,
        h.1.1,
        h.0.due_is,
        in_turn ∙ (ap (λ (o : Option Move). or_move o (or_move (first (cpus_of board)) (first (drivers_of board))))
            (none_there board (board_lines lines) (threads_of board) (no_thread no_threads))
            ∙ ap (λ (o : Option Move). or_move o (first (drivers_of board))) (its_move (cpus_of board) (actors.Cpu c) h.0)),
      )

  -- ---- drivers

  pub script_of : (j : ℕ) (d : DriverNo) → slice_get board.drivers j ≡ Some d → (s : ScriptSeen) × (slice_get scripts j ≡ Some s) × (s.driver ≡ d)
  script_of j d at = map_back (λ (s : ScriptSeen). s.driver) scripts j d (ap (λ (ds : List DriverNo). slice_get ds j) kept.system.drivers ∙ at)

  pub current_is : (j : ℕ) (s : ScriptSeen) → slice_get scripts j ≡ Some s → current_call ready.drivers j ≡ call_of s
  current_is j s at = ap (λ (o : Option (Option CurrentCall)). unwrap_or o None) (kept.ready.each_driver j s at)

  pub driver_ready_is : (j : ℕ) (s : ScriptSeen) → slice_get scripts j ≡ Some s → is_driver_ready ready j ≡ is_some (due (actors.Driver s.driver))
  driver_ready_is j s at = ap (λ (o : Option CurrentCall). can_go_on ready.lines o) (current_is j s at) ∙ driver_can system j s at

  driver_rests : (j : ℕ) (d : DriverNo) → slice_get board.drivers j ≡ Some d → is_driver_ready ready j ≡ false → due (actors.Driver d) ≡ None
  driver_rests j d at none =
      let s = script_of j d at in
      subst (λ (x : DriverNo). due (actors.Driver x) ≡ None) s.2 (none_of (due (actors.Driver s.0.driver)) (sym (driver_ready_is j s.0 s.1) ∙ none))

  many_drivers : length board.drivers ≡ length ready.drivers
  many_drivers = let a = ap (λ (ds : List DriverNo). length ds) kept.system.drivers in
      let b = length-map scripts (λ (s : ScriptSeen). s.driver) in let c = kept.ready.all_drivers in omega (arith, a, b, c)

  pub no_driver : lowest_driver ready ≡ None → None_of (drivers_of board)
  no_driver none j a at =
      let d = map_back (λ (x : DriverNo). actors.Driver x) board.drivers j a at in
      let less = slice_get_within board.drivers j d.0 d.1 in
      let many = many_drivers in
      subst (λ (x : Actor). due x ≡ None) d.2 (driver_rests j d.0 d.1
      (first_none (is_driver_ready ready) (length ready.drivers) j none (omega (arith, less, many))))

  pub driver_first : (j : ℕ) (d : DriverNo) → lowest_driver ready ≡ Some j → slice_get board.drivers j ≡ Some d → At (drivers_of board) (actors.Driver d)
  driver_first j d low at =
      let f = first_some (is_driver_ready ready) (length ready.drivers) j low in
      let s = script_of j d at in
      let m = some_of (due (actors.Driver s.0.driver)) (sym (driver_ready_is j s.0 s.1) ∙ f.1) in
      record {
        place = j;
        at = map_there (λ (x : DriverNo). actors.Driver x) board.drivers j d at;
        move = m.0;
        due_is = ap (λ (x : DriverNo). due (actors.Driver x)) (sym s.2) ∙ m.1;
        before = λ i a less at_a. (let e = map_back (λ (x : DriverNo). actors.Driver x) board.drivers i a at_a in
            subst (λ (x : Actor). due x ≡ None) e.2 (driver_rests i e.0 e.1 (f.2 i less)));
      }

  pub lowest_is_driver : (j : ℕ) (d : DriverNo) → lowest_thread ready.lines ≡ None → lowest_cpu ready.lines ≡ None
      → lowest_driver ready ≡ Some j → slice_get board.drivers j ≡ Some d
      → (m : Move) × (due (actors.Driver d) ≡ Some m) × (first (actors_of board) ≡ Some m)
  lowest_is_driver j d no_threads no_cpus low at =
      let h = driver_first j d low at in (
        h.move,
        h.due_is,
        in_turn ∙ (ap (λ (o : Option Move). or_move o (or_move (first (cpus_of board)) (first (drivers_of board))))
            (none_there board (board_lines lines) (threads_of board) (no_thread no_threads))
            ∙ (ap (λ (o : Option Move). or_move o (first (drivers_of board)))
            (none_there board (board_lines lines) (cpus_of board) (no_cpu no_cpus))
            ∙ its_move (drivers_of board) (actors.Driver d) h)),
      )

  pub nobody : lowest_thread ready.lines ≡ None → lowest_cpu ready.lines ≡ None → lowest_driver ready ≡ None → first (actors_of board) ≡ None
  nobody no_threads no_cpus no_drivers =
      in_turn ∙ (ap (λ (o : Option Move). or_move o (or_move (first (cpus_of board)) (first (drivers_of board))))
      (none_there board (board_lines lines) (threads_of board) (no_thread no_threads))
      ∙ (ap (λ (o : Option Move). or_move o (first (drivers_of board)))
      (none_there board (board_lines lines) (cpus_of board) (no_cpu no_cpus))
      ∙ none_there board (board_lines lines) (drivers_of board) (no_driver no_drivers)))
