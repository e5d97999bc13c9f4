-- What is read off the numbers of a canonical state is the state.
use Rattle.std.proofs.Common.{◌≡◌, ℕ, ◌*◌, ◌==◌, Bool, true, false, ◌&&◌, is_some, List, [], ◌∷◌, ◌++◌, drop, length, refl, sym, ap, subst, ◌∙◌, arith}
use Rattle.std.proofs.lemmas.List.{append_assoc, append-nil}
use Rattle.irq_base.specs.declared.calls.Flags.{Flags}
use Rattle.irq_base.specs.declared.lines.LineDef.{LineDef}
use Rattle.irq_base.specs.declared.numbers.DevNo.{DevNo}
use Rattle.irq_base.specs.declared.numbers.DriverNo.{DriverNo}
use Rattle.irq_model.specs.Lines.{serves}
use Rattle.irq_model.specs.Spurious.{Counts}
use Rattle.irq_model.specs.Valid.{IsValid}
use Rattle.irq_laws.specs.Driven.{cell_with}
use Rattle.device_table.specs.Rows.{table_by}
use Rattle.device_table.specs.Sums.{one_if}
use Rattle.act_list.specs.Lists.{ListSeen, cleared, flags_of, action_by}
use Rattle.act_list.specs.declared.actions.Action.{Action}
use Rattle.act_thread.specs.declared.rows.ThreadRow.{ThreadRow}
use Rattle.affinity.specs.Seen.{AimSeen}
use Rattle.ask_counts.specs.Facts.{all_facts}
use Rattle.ask_counts.specs.Rows.{turned_off}
use Rattle.ask_counts.specs.declared.rows.AskRow.{AskRow}
use Rattle.desc_state.specs.Desc.{DescSeen}
use Rattle.run_scripts.specs.Places.{PlacesSeen}
use Rattle.run_scripts.specs.declared.rows.RunPlace.{RunPlace}
use Rattle.run_scripts.specs.declared.rows.RunRow.{RunRow}
use Rattle.spurious.specs.Seen.{CountsSeen}
use Rattle.line_marks.specs.Rounds.{RoundSeen}
use Rattle.line_marks.specs.State.{StateSeen}
use Rattle.line_futures.specs.Canon.{without_bits}
use Rattle.line_words.proofs.Putting.{bit_is, cpu_is, dev_is, mask_is, freeing_is, thread_is, ask_is, run_is, linked_is, loud}
use Rattle.line_words.proofs.Putting.{behind_table, put_is, marks_are, quiet_are, loud_are, rows_are, cleared_is}
use Rattle.line_words.specs.Again.{unbitted}
use Rattle.line_words.specs.Reading.{with_fixed, with_rows, with_more, with_tables, with_linked, linked_from, linked_in, link_all}
use Rattle.line_words.specs.Reading.{marks_from, threads_from, asks_from, more_from, runs_in, behind_more, places_from}
use Rattle.line_words.specs.Reading.{desc_in, cell_in, aim_in, round_in, counts_in, mark_rows, put_rows, thread_in, ask_in, run_in, place_in}
use Rattle.line_words.specs.Tables.{HasTables, bare, first_places}
use Rattle.line_words.specs.Words.{has_more, state_words, more_words, table_words, begun_words, thread_words, ask_words, quiet_words, run_words, linked_words}

-- the state is a canonical one of the line: these are its tables, and these devices are linked
pub record IsShaped (def : LineDef) (f : DevNo → Bool) (g : DevNo → ThreadRow) (h : DevNo → AskRow) (k : DevNo → RunRow) (fl : List (DevNo × Flags))
    (s : StateSeen) : Type 0 where
  pub unlazy : s.desc.unlazy ≡ def.unlazy
  pub cell : s.cell ≡ cell_with def s.desc.masked s.cell.stored s.cell.sent s.cell.high (serves def && is_some s.desc.flow)
  pub active : s.active ≡ false
  pub aimed : s.aimed ≡ 0
  pub cpus : s.aim.cpus ≡ def.cpus
  pub later : s.aim.later ≡ def.later
  pub actions : s.list.actions ≡ without_bits fl
  pub begun : s.list.begun ≡ table_by f def.devices
  pub rounds : s.list.rounds ≡ 0
  pub threads : s.threads ≡ table_by g def.devices
  pub asks : s.asks ≡ table_by h def.devices
  pub facts : s.facts ≡ all_facts def
  pub runs : s.places.rows ≡ table_by k def.devices
  -- where the numbers have no words for it there is nothing to say
  pub loud : has_more def ≡ false → (d : DevNo) → (h d).quiet ≡ false
  pub unbegun : has_more def ≡ false → s.places ≡ first_places def
  pub window : s.counts.window ≡ def.window
  pub limit : s.counts.limit ≡ def.limit
  pub last : s.counts.counts.last ≡ 0

state_by : (a b : StateSeen) → a.desc ≡ b.desc → a.cell ≡ b.cell → a.active ≡ b.active → a.aimed ≡ b.aimed → a.aim ≡ b.aim → a.list ≡ b.list
    → a.threads ≡ b.threads → a.asks ≡ b.asks → a.facts ≡ b.facts → a.places ≡ b.places → a.round ≡ b.round → a.counts ≡ b.counts
    → a.freeing ≡ b.freeing → a ≡ b
state_by a b c d e f g h i j k o l m n =
    (let x : ◌≡◌ {A = StateSeen} (record {
      desc = a.desc;
      cell = a.cell;
      active = a.active;
      aimed = a.aimed;
      aim = a.aim;
      list = a.list;
      threads = a.threads;
      asks = a.asks;
      facts = a.facts;
      places = a.places;
      round = a.round;
      counts = a.counts;
      freeing = a.freeing;
    }) b = rw (c, d, e, f, g, h, i, j, k, o, l, m, n) refl in x)

desc_by : (d e : DescSeen) → d.unlazy ≡ e.unlazy → d.depth ≡ e.depth → d.started ≡ e.started → d.masked ≡ e.masked
    → d.pending ≡ e.pending → d.oneshot ≡ e.oneshot → d.spurious ≡ e.spurious → d.soft ≡ e.soft → d.flow ≡ e.flow → d ≡ e
desc_by d e a b c f g h i j k =
    (let x : ◌≡◌ {A = DescSeen} (record {
      unlazy = d.unlazy;
      depth = d.depth;
      started = d.started;
      masked = d.masked;
      pending = d.pending;
      oneshot = d.oneshot;
      spurious = d.spurious;
      soft = d.soft;
      flow = d.flow;
    }) e = rw (a, b, c, f, g, h, i, j, k) refl in x)

aim_by : (a b : AimSeen) → a.cpus ≡ b.cpus → a.later ≡ b.later → a.mask ≡ b.mask → a.waiting ≡ b.waiting → a ≡ b
aim_by a b c d e f = (let x : ◌≡◌ {A = AimSeen} (record { cpus = a.cpus; later = a.later; mask = a.mask; waiting = a.waiting }) b = rw (c, d, e, f) refl in x)

list_by : (a b : ListSeen) → a.actions ≡ b.actions → a.begun ≡ b.begun → a.rounds ≡ b.rounds → a ≡ b
list_by a b c d e = (let x : ◌≡◌ {A = ListSeen} (record { actions = a.actions; begun = a.begun; rounds = a.rounds }) b = rw (c, d, e) refl in x)

round_by : (a b : RoundSeen) → a.working ≡ b.working → a.wakes ≡ b.wakes → a.handles ≡ b.handles → a.moment ≡ b.moment → a ≡ b
round_by a b c d e f =
    (let x : ◌≡◌ {A = RoundSeen} (record { working = a.working; wakes = a.wakes; handles = a.handles; moment = a.moment }) b = rw (c, d, e, f) refl in x)

tally_by : (a b : Counts) → a.irq_count ≡ b.irq_count → a.irqs_unhandled ≡ b.irqs_unhandled → a.threads_handled ≡ b.threads_handled
    → a.deferred ≡ b.deferred → a.last ≡ b.last → a.last_unhandled ≡ b.last_unhandled → a ≡ b
tally_by a b c d e f g h =
    (let x : ◌≡◌ {A = Counts} (record {
      irq_count = a.irq_count;
      irqs_unhandled = a.irqs_unhandled;
      threads_handled = a.threads_handled;
      deferred = a.deferred;
      last = a.last;
      last_unhandled = a.last_unhandled;
    }) b = rw (c, d, e, f, g, h) refl in x)

counts_by : (a b : CountsSeen) → a.window ≡ b.window → a.limit ≡ b.limit → a.counts ≡ b.counts → a ≡ b
counts_by a b c d e = (let x : ◌≡◌ {A = CountsSeen} (record { window = a.window; limit = a.limit; counts = a.counts }) b = rw (c, d, e) refl in x)

-- the flags of what is linked, one after another
pub flags_more : (t : List (DevNo × Action)) (d : DevNo) (a : Action) → flags_of (t ++ (d, a) ∷ []) ≡ flags_of t ++ (d, a.flags) ∷ []
flags_more [] d a = refl
flags_more (e ∷ es) d a = ap (λ (l : List (DevNo × Flags)). (e.0, e.1.flags) ∷ l) (flags_more es d a)

pub flags_linked : (fl : List (DevNo × Flags)) (t : List (DevNo × Action)) → flags_of (link_all fl t) ≡ flags_of t ++ fl
flags_linked [] t = sym (append-nil (flags_of t))
flags_linked (e ∷ es) t =
    flags_linked es (t ++ (e.0, action_by e.1 t) ∷ [])
    ∙ (ap (λ (l : List (DevNo × Flags)). l ++ es) (flags_more t e.0 (action_by e.1 t)) ∙ append_assoc (flags_of t) (e ∷ []) es)

module _ (def : LineDef) (valid : IsValid def) (rs : List DriverNo) (f : DevNo → Bool) (g : DevNo → ThreadRow) (h : DevNo → AskRow)
    (k : DevNo → RunRow) (fl : List (DevNo × Flags)) (s : StateSeen) (shaped : IsShaped def f g h k fl s) (places : List ℕ → List ℕ)
    (behind : (rest : List ℕ) → drop (2 * length rs) (places rest) ≡ rest) where
  abbrev pub ws : List ℕ
  ws = state_words (has_more def) s places

  abbrev linked : List ℕ
  linked = linked_words (flags_of s.list.actions)

  abbrev own_words : List ℕ
  own_words = more_words (has_more def) s (places (linked_words (flags_of s.list.actions)))

  abbrev asks_words : List ℕ
  asks_words = table_words ask_words (table_by h def.devices) (more_words (has_more def) s (places (linked_words (flags_of s.list.actions))))

  abbrev threads_words : List ℕ
  threads_words = table_words thread_words (table_by g def.devices)
      (table_words ask_words (table_by h def.devices) (more_words (has_more def) s (places (linked_words (flags_of s.list.actions)))))

  -- the tables' numbers, where they are looked for
  marks_there : marks_from ws ≡ table_words begun_words (table_by f def.devices) threads_words
  marks_there = ap (λ (t : List (DevNo × Bool)). table_words begun_words t
      (table_words thread_words s.threads (table_words ask_words s.asks own_words))) shaped.begun
      ∙ (ap (λ (t : List (DevNo × ThreadRow)). table_words begun_words (table_by f def.devices)
      (table_words thread_words t (table_words ask_words s.asks own_words))) shaped.threads
      ∙ ap (λ (t : List (DevNo × AskRow)). table_words begun_words (table_by f def.devices)
      (table_words thread_words (table_by g def.devices) (table_words ask_words t own_words))) shaped.asks)

  threads_there : threads_from def ws ≡ threads_words
  threads_there =
      ap (λ (m : List ℕ). drop (length def.devices) m) marks_there
      ∙ (ap (λ n. drop n (table_words begun_words (table_by f def.devices) threads_words))
      (let e : length def.devices ≡ 1 * length def.devices = omega arith in e)
      ∙ behind_table begun_words 1 (λ r rest. refl) (λ n. omega arith) f def.devices threads_words)

  asks_there : asks_from def ws ≡ asks_words
  asks_there =
      ap (λ (m : List ℕ). drop (3 * length def.devices) m) threads_there
      ∙ behind_table thread_words 3 (λ r rest. refl) (λ n. omega arith) g def.devices asks_words

  more_there : more_from def ws ≡ own_words
  more_there =
      ap (λ (m : List ℕ). drop (4 * length def.devices) m) asks_there
      ∙ behind_table ask_words 4 (λ r rest. refl) (λ n. omega arith) h def.devices own_words

  -- the numbers of the runs, behind those of quiet devices
  runs_there : (rest : List ℕ) → runs_in def (more_words true s rest) ≡ table_words run_words (table_by k def.devices) rest
  runs_there rest =
      let left = table_words run_words s.places.rows rest in
      ap (λ (t : List (DevNo × AskRow)). drop (length def.devices) (table_words quiet_words t left)) shaped.asks
      ∙ (ap (λ n. drop n (table_words quiet_words (table_by h def.devices) left))
      (let e : length def.devices ≡ 1 * length def.devices = omega arith in e)
      ∙ (behind_table quiet_words 1 (λ r rest. refl) (λ n. omega arith) h def.devices left
      ∙ ap (λ (t : List (DevNo × RunRow)). table_words run_words t rest) shaped.runs))

  behind_all : (more : Bool) (rest : List ℕ) → behind_more more def (more_words more s rest) ≡ rest
  behind_all false rest = refl
  behind_all true rest =
      ap (λ (m : List ℕ). drop (6 * length def.devices) m) (runs_there rest)
      ∙ behind_table run_words 6 (λ r rest. refl) (λ n. omega arith) k def.devices rest

  pub places_there : places_from def ws ≡ places linked
  places_there = ap (λ (m : List ℕ). behind_more (has_more def) def m) more_there ∙ behind_all (has_more def) (places linked)

  pub linked_there : linked_in (linked_from def rs ws) ≡ fl
  linked_there =
      ap (λ (m : List ℕ). linked_in (drop (2 * length rs) m)) places_there
      ∙ (ap linked_in (behind linked) ∙ (linked_is (flags_of s.list.actions)
      ∙ (ap flags_of shaped.actions ∙ flags_bare fl)))
    where
      flags_bare : (xs : List (DevNo × Flags)) → flags_of (without_bits xs) ≡ xs
      flags_bare [] = refl
      flags_bare (e ∷ es) = ap (λ (l : List (DevNo × Flags)). e ∷ l) (flags_bare es)

  desc_is : desc_in def ws ≡ s.desc
  desc_is = desc_by (desc_in def ws) s.desc (sym shaped.unlazy) refl (bit_is s.desc.started) (bit_is s.desc.masked) (bit_is s.desc.pending)
      (bit_is s.desc.oneshot) (bit_is s.desc.spurious) (bit_is s.desc.soft) (cpu_is s.desc.flow)

  cell_is : cell_in def ws ≡ s.cell
  cell_is =
      ap (λ b. cell_with def b (one_if s.cell.stored == 1) (one_if s.cell.sent == 1) (one_if s.cell.high == 1)
      (serves def && (one_if (is_some s.desc.flow) == 1))) (bit_is s.desc.masked)
      ∙ (ap (λ b. cell_with def s.desc.masked b (one_if s.cell.sent == 1) (one_if s.cell.high == 1)
      (serves def && (one_if (is_some s.desc.flow) == 1))) (bit_is s.cell.stored)
      ∙ (ap (λ b. cell_with def s.desc.masked s.cell.stored b (one_if s.cell.high == 1)
      (serves def && (one_if (is_some s.desc.flow) == 1))) (bit_is s.cell.sent)
      ∙ (ap (λ b. cell_with def s.desc.masked s.cell.stored s.cell.sent b (serves def && (one_if (is_some s.desc.flow) == 1))) (bit_is s.cell.high)
      ∙ (ap (λ b. cell_with def s.desc.masked s.cell.stored s.cell.sent s.cell.high (serves def && b)) (bit_is (is_some s.desc.flow))
      ∙ sym shaped.cell))))

  pub aim_is : aim_in def ws ≡ s.aim
  aim_is = aim_by (aim_in def ws) s.aim (sym shaped.cpus) (sym shaped.later) refl (mask_is s.aim.waiting)

  round_is : round_in ws ≡ s.round
  round_is = round_by (round_in ws) s.round (dev_is s.round.working) (bit_is s.round.wakes) (bit_is s.round.handles) refl

  counts_are : ◌≡◌ {A = CountsSeen} (record { window = def.window; limit = def.limit; counts = counts_in ws }) s.counts
  counts_are = counts_by (record { window = def.window; limit = def.limit; counts = counts_in ws }) s.counts (sym shaped.window) (sym shaped.limit)
      (tally_by (counts_in ws) s.counts.counts refl refl refl (bit_is s.counts.counts.deferred) (sym shaped.last) refl)

  actions_are : without_bits (flags_of (link_all (linked_in (linked_from def rs ws)) [])) ≡ s.list.actions
  actions_are = ap (λ (l : List (DevNo × Flags)). without_bits (flags_of (link_all l []))) linked_there
      ∙ (ap without_bits (flags_linked fl []) ∙ sym shaped.actions)

  -- read into any state with the tables of the line
  module _ (b : StateSeen) (tables : HasTables def b) where
    begun_is : mark_rows (λ _. true) def.devices (marks_from ws) (cleared b.list.begun) ≡ s.list.begun
    begun_is = ap (λ (m : List ℕ). mark_rows (λ _. true) def.devices m (cleared b.list.begun)) marks_there
        ∙ (ap (λ (t : List (DevNo × Bool)). mark_rows (λ _. true) def.devices (table_words begun_words (table_by f def.devices) threads_words) t)
        (cleared_is def.devices b.list.begun tables.begun)
        ∙ (marks_are f def.devices threads_words valid.distinct ∙ sym shaped.begun))

    threads_are : put_rows thread_in 3 def.devices (threads_from def ws) b.threads ≡ s.threads
    threads_are = ap (λ (m : List ℕ). put_rows thread_in 3 def.devices m b.threads) threads_there
        ∙ (put_is thread_in 3 thread_words (λ r rest. refl) (λ r. r) thread_is g def.devices asks_words b.threads valid.distinct tables.threads
        ∙ sym shaped.threads)

    -- all of the asks but which devices are quiet
    asks_are : put_rows ask_in 4 def.devices (asks_from def ws) b.asks ≡ table_by (λ d. loud (h d)) def.devices
    asks_are = ap (λ (m : List ℕ). put_rows ask_in 4 def.devices m b.asks) asks_there
        ∙ put_is ask_in 4 ask_words (λ r rest. refl) loud ask_is h def.devices own_words b.asks valid.distinct tables.asks

    abbrev x : StateSeen
    x = with_rows def (state_words (has_more def) s places) (with_fixed def (state_words (has_more def) s places) (bare b))

    abbrev with_both : List (DevNo × AskRow) → PlacesSeen → StateSeen
    with_both a p = record (with_rows def (state_words (has_more def) s places) (with_fixed def (state_words (has_more def) s places) (bare b)))
        { asks = a; places = p }

    abbrev placed_by : RunPlace → List (DevNo × RunRow) → PlacesSeen
    placed_by w rows = record { work = w; rows = rows }

    -- and what only some lines need
    more_is : (more : Bool) → has_more def ≡ more → (rest : List ℕ)
        → with_more more def (more_words more s rest) (with_both (put_rows ask_in 4 def.devices (asks_from def ws) b.asks) b.places)
        ≡ with_both s.asks s.places
    more_is false is rest =
        ap (λ (a : List (DevNo × AskRow)). with_both a b.places) (asks_are ∙ (loud_are h def.devices (shaped.loud is) ∙ sym shaped.asks))
        ∙ ap (λ (p : PlacesSeen). with_both s.asks p) (tables.unbegun is ∙ sym (shaped.unbegun is))
    more_is true is rest =
        let left = table_words run_words s.places.rows rest in
        let words = more_words true s rest in
        let quiet : mark_rows turned_off def.devices (drop 2 words) (put_rows ask_in 4 def.devices (asks_from def ws) b.asks) ≡ s.asks =
        ap (λ (a : List (DevNo × AskRow)). mark_rows turned_off def.devices (drop 2 words) a) asks_are
        ∙ (ap (λ (a : List (DevNo × AskRow)). mark_rows turned_off def.devices (table_words quiet_words a left) (table_by (λ d. loud (h d)) def.devices))
        shaped.asks
        ∙ (quiet_are h def.devices left valid.distinct ∙ sym shaped.asks)) in
        let runs : put_rows run_in 6 def.devices (runs_in def words) b.places.rows ≡ s.places.rows =
        ap (λ (m : List ℕ). put_rows run_in 6 def.devices m b.places.rows) (runs_there rest)
        ∙ (put_is run_in 6 run_words (λ r rest. refl) (λ r. r) run_is k def.devices rest b.places.rows valid.distinct tables.runs
        ∙ sym shaped.runs) in
        ap (λ (a : List (DevNo × AskRow)). with_both a (placed_by (place_in words) (put_rows run_in 6 def.devices (runs_in def words) b.places.rows))) quiet
        ∙ ap (λ (r : List (DevNo × RunRow)). with_both s.asks (placed_by s.places.work r)) runs

    all_read : with_tables def ws (with_fixed def ws (bare b)) ≡ with_both s.asks s.places
    all_read =
        ap (λ (m : List ℕ). with_more (has_more def) def m (with_both (put_rows ask_in 4 def.devices (asks_from def ws) b.asks) b.places)) more_there
        ∙ more_is (has_more def) refl (places linked)

    tables_are : HasTables def (with_both s.asks s.places)
    tables_are = record {
      facts = tables.facts;
      begun = rows_are f def.devices (mark_rows (λ _. true) def.devices (marks_from ws) (cleared b.list.begun)) (begun_is ∙ shaped.begun);
      threads = rows_are g def.devices (put_rows thread_in 3 def.devices (threads_from def ws) b.threads) (threads_are ∙ shaped.threads);
      asks = rows_are h def.devices s.asks shaped.asks;
      runs = rows_are k def.devices s.places.rows shaped.runs;
      unbegun = shaped.unbegun;
    }

    pub tables_read : HasTables def (with_tables def ws (with_fixed def ws (bare b)))
    tables_read = let P : StateSeen → Type 0 = λ y. HasTables def y in subst P (sym all_read) tables_are

    pub read_is : unbitted (with_linked (linked_from def rs ws) (with_tables def ws (with_fixed def ws (bare b)))) ≡ s
    read_is =
        ap (λ (y : StateSeen). unbitted (with_linked (linked_from def rs ws) y)) all_read
        ∙ state_by (unbitted (with_linked (linked_from def rs ws) (with_both s.asks s.places))) s
        desc_is cell_is (sym shaped.active) (sym shaped.aimed) aim_is
        (list_by (record {
          actions = without_bits (flags_of (link_all (linked_in (linked_from def rs ws)) []));
          begun = mark_rows (λ _. true) def.devices (marks_from ws) (cleared b.list.begun);
          rounds = 0;
        }) s.list actions_are begun_is (sym shaped.rounds))
        threads_are refl (tables.facts ∙ sym shaped.facts) refl round_is counts_are (freeing_is s.freeing)

-- a state with a shape has the tables of the line
pub tables_shaped : (def : LineDef) (f : DevNo → Bool) (g : DevNo → ThreadRow) (h : DevNo → AskRow) (k : DevNo → RunRow) (fl : List (DevNo × Flags))
    (s : StateSeen) → IsShaped def f g h k fl s → HasTables def s
tables_shaped def f g h k fl s shaped = record {
  facts = shaped.facts;
  begun = rows_are f def.devices s.list.begun shaped.begun;
  threads = rows_are g def.devices s.threads shaped.threads;
  asks = rows_are h def.devices s.asks shaped.asks;
  runs = rows_are k def.devices s.places.rows shaped.runs;
  unbegun = shaped.unbegun;
}
