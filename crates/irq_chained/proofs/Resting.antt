-- If no actor has a step of the chain, none can move: every line takes its interrupts by processor
-- 0 alone, and has no flow unless a chain is opens_at.
use Rattle.std.proofs.Common.{◌≡◌, ℕ, suc, zero, ◌+◌, ◌==◌, ◌≤◌, Bool, true, false, not, ◌||◌, ◌&&◌, cond, is_some}
use Rattle.std.proofs.Common.{Option, Some, None, List, [], ◌∷◌, filter, map, length, slice_get, refl, sym, ap, ◌∙◌}
use Rattle.std.proofs.Common.{subst, arith, eqb-true}
use Rattle.std.proofs.lemmas.Bool.{leb-true}
use Rattle.std.proofs.lemmas.List.{length-map}
use Rattle.std.specs.List.{list_any}
use Rattle.irq_base.specs.Who.{actor_of}
use Rattle.irq_base.specs.declared.calls.Call.{Call}
use Rattle.irq_base.specs.declared.calls.Call.TheVariants as calls
use Rattle.irq_base.specs.declared.entries.Actor.{Actor}
use Rattle.irq_base.specs.declared.entries.Actor.TheVariants as actors
use Rattle.irq_base.specs.declared.entries.Entry.{Entry}
use Rattle.irq_base.specs.declared.entries.Entry.TheVariants as by
use Rattle.irq_base.specs.declared.entries.CpuEntry.TheVariants as cpus
use Rattle.irq_base.specs.declared.entries.DriverEntry.TheVariants as drivers
use Rattle.irq_base.specs.declared.lines.LineDef.{LineDef}
use Rattle.irq_base.specs.declared.numbers.CpuNo.{CpuNo}
use Rattle.irq_base.specs.declared.numbers.DriverNo.{DriverNo}
use Rattle.irq_base.specs.declared.numbers.LineNo.{LineNo}
use Rattle.irq_line.specs.Queries.{is_some_take}
use Rattle.irq_line.specs.Seen.{LineSeen}
use Rattle.irq_model.specs.Due.{entries_by}
use Rattle.irq_model.specs.Kinds.{is_handle, same_line}
use Rattle.irq_model.specs.Legal.{IsDue, IsLegalPast}
use Rattle.irq_model.specs.Lines.{is_in_mask}
use Rattle.irq_model.specs.Next.{next_past}
use Rattle.irq_model.specs.Places.{last_of}
use Rattle.irq_model.specs.Rounds.{closes, cpu_of_handle, flow, is_cpu}
use Rattle.irq_model.specs.Signal.{lowest_from, lowest_in, mask_in_force, target}
use Rattle.irq_model.proofs.RoundSteps.{flow_quiet}
use Rattle.irq_model.proofs.Same.{cpu_from_same}
use Rattle.irq_model.proofs.SignalSteps.{is_affinity, own_mask}
use Rattle.irq_laws.proofs.Chosen.{the_same}
use Rattle.irq_laws.proofs.ImpliesDriver.{affinity_due}
use Rattle.irq_laws.proofs.ImpliesFlow.{take_due}
use Rattle.irq_laws.proofs.Lists.{both_ways}
use Rattle.irq_laws.proofs.OwnLaws.{due_is_own_past}
use Rattle.irq_laws.proofs.Scripted.{place_of}
use Rattle.domain_rules.specs.Layout.{count_of_mapped, is_mapped}
use Rattle.domain_rules.specs.declared.layouts.Placement.{Placement}
use Rattle.board_def.specs.Layout.{layout_of}
use Rattle.board_def.specs.LineOf.{line_of_row, with_driver}
use Rattle.board_def.specs.Rules.{IsBoard}
use Rattle.board_def.specs.Seen.{BoardSeen}
use Rattle.board_def.specs.declared.rows.LineRow.{LineRow}
use Rattle.board_def.specs.declared.rows.ScriptCall.{ScriptCall}
use Rattle.board_play.specs.Kept.{AreKept}
use Rattle.board_play.specs.Lines.{BoardLine, Move, defs_of, mapped}
use Rattle.board_play.specs.Order.{due_line, due_move, due_on, flow_line, or_line}
use Rattle.board_play.proofs.Listed.{def_at}
use Rattle.board_play.proofs.Members.{past_at}
use Rattle.board_play.proofs.Moving.{lines_more, moved_at}
use Rattle.board_play.proofs.OfBoard.{def_of_row, has_calls}
use Rattle.board_ready.specs.First.{first_of}
use Rattle.board_ready.proofs.Lowest.{first_none}
use Rattle.board_core.specs.Seen.{board_lines}
use Rattle.board_core.proofs.Searches.{due_is, due_is_take, due_of_cpu, flow_is, in_flow_of, no_flow_at, none_at}
use Rattle.irq_chained.specs.Chain.{IsChainLegal, chain_next, child, children, cpu_0, has_take_due, in_chain, lines_in}
use Rattle.irq_chained.specs.Chain.{of_cpu_0, open_status, or_exit, status_of}
use Rattle.irq_chained.specs.Fits.{is_affinity_call, is_for_chain, leaves_out, moves_a_line}
use Rattle.irq_chained.specs.Promise.{IsWalked}
use Rattle.irq_chained.specs.declared.chain.ChainEntry.{ChainEntry}
use Rattle.irq_chained.specs.declared.chain.ChainEntry.TheVariants as steps
use Rattle.irq_chained.proofs.Chained.{exit_is_walked}
use Rattle.irq_chained.proofs.StatusBits.{asked_by}

-- ---- what the kind says

not_true : (a : Bool) → not a ≡ true → a ≡ false
not_true true h = cc
not_true false h = refl

both : (a b : Bool) → (a && b) ≡ true → (a ≡ true) × (b ≡ true)
both true b h = (refl, h)
both false b h = cc

pub record Fits (b : BoardSeen) : Type 0 where
  pub stays : list_any moves_a_line b.calls ≡ false
  pub masks : list_any (leaves_out b.cpus) b.lines ≡ false
  pub few : count_of_mapped (layout_of b) ≤ 32

pub fits_of : (b : BoardSeen) → is_for_chain b ≡ true → Fits b
fits_of b is =
    let x = both (not (list_any moves_a_line b.calls)) _ is in
    let y = both (not (list_any (leaves_out b.cpus) b.lines)) _ x.1 in
    record { stays = not_true _ x.0; masks = not_true _ y.0; few = leb-true (count_of_mapped (layout_of b)) 32 y.1 }

neither : (a b : Bool) → (a || b) ≡ false → (a ≡ false) × (b ≡ false)
neither true b h = cc
neither false b h = (refl, h)

none_passes : {A : Type 0} (p : A → Bool) (xs : List A) → list_any p xs ≡ false → (i : ℕ) (x : A) → slice_get xs i ≡ Some x → p x ≡ false
none_passes p [] none i x at = cc
none_passes p (y ∷ ys) none zero x at = ap p (sym (the_same y x at)) ∙ (neither (p y) (list_any p ys) none).0
none_passes p (y ∷ ys) none (suc i) x at = none_passes p ys (neither (p y) (list_any p ys) none).1 i x at

-- ---- few lines

mapped_few : (rows : List LineRow) (places : List Placement) → length (mapped rows places) ≤ count_of_mapped places
mapped_few [] places = omega arith
mapped_few (row ∷ rows) [] = omega arith
mapped_few (row ∷ rows) (p ∷ ps) = by_test (is_mapped p) (mapped_few rows ps)
  where
    by_test : (t : Bool) → length (mapped rows ps) ≤ count_of_mapped ps
        → length (cond t (row ∷ mapped rows ps) (mapped rows ps)) ≤ cond t (count_of_mapped ps + 1) (count_of_mapped ps)
    by_test true le = omega (arith, le)
    by_test false le = le

pub few_lines : (b : BoardSeen) (lines : List BoardLine) → is_for_chain b ≡ true → AreKept b lines → length lines ≤ 32
few_lines b lines fits kept =
    let m = mapped_few b.lines (layout_of b) in
    let a : length (map (line_of_row b) (mapped b.lines (layout_of b)))
    ≡ length (mapped b.lines (layout_of b)) = length-map (mapped b.lines (layout_of b)) (line_of_row b) in
    let d : length (map (λ (x : BoardLine). x.def) lines) ≡ length (defs_of b) = ap (λ (ds : List LineDef). length ds) kept.defs in
    let n : length (map (λ (x : BoardLine). x.def) lines) ≡ length lines = length-map lines (λ (x : BoardLine). x.def) in
    let f = (fits_of b fits).few in
    omega (arith, m, a, d, n, f)

pub few_seen : (b : BoardSeen) (lines : List LineSeen) → is_for_chain b ≡ true → AreKept b (board_lines lines) → length (board_lines lines) ≤ 32
few_seen b lines fits kept = few_lines b (board_lines lines) fits kept

-- ---- processor 0 is the target

none_kept : (q : ScriptCall → Bool) (cs : List ScriptCall) → list_any moves_a_line cs ≡ false
    → (i : ℕ) (x : DriverNo × Call) → slice_get (map with_driver (filter q cs)) i ≡ Some x
    → is_affinity_call x.1 ≡ false
none_kept q [] none i x at = cc
none_kept q (c ∷ cs) none i x at = by_test (q c) refl i at (λ i at. none_kept q cs (neither (moves_a_line c) (list_any moves_a_line cs) none).1 i x at)
  where
    n : (moves_a_line c ≡ false) × (list_any moves_a_line cs ≡ false)
    n = neither (moves_a_line c) (list_any moves_a_line cs) none

    by_test : (t : Bool) → q c ≡ t → (i : ℕ) → slice_get (map with_driver (cond t (c ∷ filter q cs) (filter q cs))) i
        ≡ Some x → ((i : ℕ) → slice_get (map with_driver (filter q cs)) i ≡ Some x → is_affinity_call x.1 ≡ false)
        → is_affinity_call x.1 ≡ false
    by_test true is zero at deeper = ap (λ (y : DriverNo × Call). is_affinity_call y.1) (sym (the_same (with_driver c) x at)) ∙ n.0
    by_test true is (suc i) at deeper = deeper i at
    by_test false is i at deeper = deeper i at

-- no entry of a line that no call moves is a change of its affinity
never_moved : (d : LineDef) → ((i : ℕ) (x : DriverNo × Call) → slice_get d.calls i ≡ Some x
    → is_affinity_call x.1 ≡ false) → (past : List Entry) → IsLegalPast d past → list_any is_affinity past ≡ false
never_moved d none [] legal = refl
never_moved d none (e ∷ past) legal = by_entry e legal.0 (never_moved d none past legal.1)
  where
    by_entry : (e : Entry) → IsDue d e past → list_any is_affinity past ≡ false → (is_affinity e || list_any is_affinity past) ≡ false
    by_entry (by.Driver s (drivers.Affinity answer mask)) due rest =
        let u = affinity_due d s mask answer past due in
        let p = place_of s d.calls (entries_by s past) (calls.Affinity mask) u.count u.call in
        both_ways (is_affinity_call p.call.1) (ap (λ (c : Call). is_affinity_call c) p.is) (none p.place p.call p.there)
    by_entry e due rest = rest

lowest_is_0 : (n mask : ℕ) → 1 ≤ n → is_in_mask mask 0 ≡ true → lowest_in n mask ≡ Some cpu_0
lowest_is_0 zero mask some in_mask = absurd (omega (arith, some))
lowest_is_0 (suc n) mask some in_mask = ap (λ (t : Bool). cond t (Some cpu_0) (lowest_from mask 1 n)) in_mask

no_last : (a : Option ℕ) → is_some a ≡ false → a ≡ None
no_last None h = refl
no_last (Some n) h = cc

module _ (b : BoardSeen) (is : IsBoard b) (fits : is_for_chain b ≡ true) where
  pub target_is_0 : (i : ℕ) (d : LineDef) → slice_get (defs_of b) i ≡ Some d → (past : List Entry) → IsLegalPast d past → target d past ≡ Some cpu_0
  target_is_0 i d at past legal =
      let f = fits_of b fits in
      let row = def_of_row b i d at in
      let none : first_of (λ c. not (is_in_mask row.row.mask c)) b.cpus
      ≡ None = no_last _ (none_passes (leaves_out b.cpus) b.lines f.masks row.place row.row row.at) in
      let in_mask : is_in_mask row.row.mask 0 ≡ true = turned (is_in_mask row.row.mask 0)
      (first_none (λ c. not (is_in_mask row.row.mask c)) b.cpus 0 none (omega (arith, is.some_cpu))) in
      let calls_of = has_calls b i d at in
      let still = never_moved d (λ j x there. none_kept _ b.calls f.stays j x
      (ap (λ (cs : List (DriverNo × Call)). slice_get cs j) (sym calls_of) ∙ there)) past legal in
      let own : mask_in_force d past ≡ d.mask = own_mask d past still in
      ap (λ (m : ℕ). lowest_in d.cpus m) own ∙ subst (λ (x : LineDef). lowest_in x.cpus x.mask ≡ Some cpu_0) row.is
      (lowest_is_0 b.cpus row.row.mask is.some_cpu in_mask)
    where
      turned : (t : Bool) → not t ≡ false → t ≡ true
      turned true h = refl
      turned false h = cc

  -- a flow is processor 0's
  pub flow_of_0 : (i : ℕ) (d : LineDef) → slice_get (defs_of b) i ≡ Some d → (past : List Entry) → IsLegalPast d past
      → (c : CpuNo) → is_cpu c (flow d past) ≡ true → c ≡ cpu_0
  flow_of_0 i d at [] legal c on = cc
  flow_of_0 i d at (e ∷ past) legal c on = by_test (is_handle e || closes d e) on (λ h. flow_of_0 i d at past legal.1 c h)
    where
      by_entry : (e : Entry) → IsDue d e past → is_cpu c (cpu_of_handle (Some e)) ≡ true → c ≡ cpu_0
      by_entry (by.Cpu cpu (cpus.Take way answer)) due on =
          let aimed = (take_due d cpu way answer past due).of_target in
          let t = target_is_0 i d at past legal.1 in
          let mine : is_cpu cpu (Some cpu_0) ≡ true = ap (λ (o : Option CpuNo). is_cpu cpu o) (sym t) ∙ aimed in
          cpu_from_same c cpu on ∙ cpu_from_same cpu cpu_0 mine
      by_entry e due on = cc

      by_test : (t : Bool) → is_cpu c (cpu_of_handle (cond t (Some e) (last_of (λ e. is_handle e || closes d e) past)))
          ≡ true → (is_cpu c (flow d past) ≡ true → c ≡ cpu_0) → c ≡ cpu_0
      by_test true on rest = by_entry e legal.0 on
      by_test false on rest = rest on

  -- a take is processor 0's
  pub take_of_0 : (i : ℕ) (d : LineDef) → slice_get (defs_of b) i ≡ Some d → (past : List Entry) → IsLegalPast d past
      → (c : CpuNo) → is_some_take (next_past d past (actors.Cpu c)) ≡ true → c ≡ cpu_0
  take_of_0 i d at past legal c takes = by_entry (next_past d past (actors.Cpu c)) refl takes
    where
      by_kind : (e : Entry) → next_past d past (actors.Cpu c) ≡ Some e → is_some_take (Some e) ≡ true → c ≡ cpu_0
      by_kind (by.Cpu cpu (cpus.Take way answer)) due takes =
          let own = due_is_own_past d past (actors.Cpu c) (by.Cpu cpu (cpus.Take way answer)) due in
          let same : cpu ≡ c = cc in
          let its : IsDue d (by.Cpu cpu (cpus.Take way answer)) past = ap (λ (x : CpuNo). next_past d past (actors.Cpu x)) same ∙ due in
          let aimed = (take_due d cpu way answer past its).of_target in
          sym same ∙ cpu_from_same cpu cpu_0 (ap (λ (o : Option CpuNo). is_cpu cpu o) (sym (target_is_0 i d at past legal)) ∙ aimed)
      by_kind e due takes = cc

      by_entry : (o : Option Entry) → next_past d past (actors.Cpu c) ≡ o → is_some_take o ≡ true → c ≡ cpu_0
      by_entry None due takes = cc
      by_entry (Some e) due takes = by_kind e due takes

-- ---- with no chain opens_at there is no flow

no_child : (b : BoardSeen) (g : List ChainEntry) (c : CpuNo) (line : LineNo) (e : Entry) → open_status g ≡ None
    → chain_next b g (actors.Cpu c) ≡ Some (steps.Child line e) → ⊥
no_child b g c line e closed is = by_zero (c.0 == 0) is
  where
    by_status : (t : Bool) → cond t None (Some (steps.Enter cpu_0 (status_of (lines_in b g)))) ≡ Some (steps.Child line e) → ⊥
    by_status true h = cc
    by_status false h = cc

    by_zero : (z : Bool) → cond z (of_cpu_0 g (lines_in b g) (open_status g)) None ≡ Some (steps.Child line e) → ⊥
    by_zero true h = by_status (status_of (lines_in b g) == 0) (ap (λ (o : Option ℕ). of_cpu_0 g (lines_in b g) o) (sym closed) ∙ h)
    by_zero false h = cc

pub exits_walked : (b : BoardSeen) (g : List ChainEntry) (a c : CpuNo) → chain_next b g (actors.Cpu a) ≡ Some (steps.Exit c) → IsWalked b g
exits_walked b g a c is = by_zero (a.0 == 0) is
  where
    by_zero : (z : Bool) → cond z (of_cpu_0 g (lines_in b g) (open_status g)) None ≡ Some (steps.Exit c) → IsWalked b g
    by_zero true h = exit_is_walked b g c h
    by_zero false h = cc

pub no_flow_closed : (b : BoardSeen) (g : List ChainEntry) → IsChainLegal b g → open_status g ≡ None
    → (i : ℕ) (x : BoardLine) → slice_get (lines_in b g) i ≡ Some x → is_cpu cpu_0 (flow x.def x.past) ≡ false
no_flow_closed b [] legal closed i x at = ap (λ (past : List Entry). is_cpu cpu_0 (flow x.def past)) (past_at (defs_of b) [] i x at)
no_flow_closed b (steps.Enter cpu status ∷ g) legal closed i x at = cc
no_flow_closed b (steps.Exit cpu ∷ g) legal closed i x at = no_flow_at (lines_in b g) cpu_0 (exits_walked b g cpu cpu legal.0).at_rest i x at
no_flow_closed b (steps.Child line e ∷ g) legal closed i x at =
    let m = moved_at (lines_in b g) (line, e) i x (ap (λ (ls : List BoardLine). slice_get ls i) (sym (lines_more (defs_of b) (line, e) (children g))) ∙ at) in
    let before = no_flow_closed b g legal.1 closed i m.line m.at in
    subst (λ (y : BoardLine). is_cpu cpu_0 (flow y.def y.past) ≡ false) m.is (by_test m.line (same_line m.line.def.line line) before)
  where
    quiet : (d : LineDef) (past : List Entry) (e : Entry) → chain_next b g (actor_of e) ≡ Some (steps.Child line e) → flow d (e ∷ past) ≡ flow d past
    quiet d past (by.Cpu cpu e) due = absurd (no_child b g cpu line (by.Cpu cpu e) closed due)
    quiet d past e due = flow_quiet d e past refl refl refl

    by_test : (y : BoardLine) (t : Bool) → is_cpu cpu_0 (flow y.def y.past) ≡ false → is_cpu cpu_0 (flow y.def (cond t (e ∷ y.past) y.past)) ≡ false
    by_test y true before = ap (λ (o : Option CpuNo). is_cpu cpu_0 o) (quiet y.def y.past e legal.0) ∙ before
    by_test y false before = before

-- ---- at rest

no_child_due : (o : Option Move) → child o ≡ None → o ≡ None
no_child_due None h = refl
no_child_due (Some m) h = cc

not_some : {A : Type 0} (o : Option A) → is_some o ≡ false → o ≡ None
not_some None h = refl
not_some (Some x) h = cc

-- none for a processor without a flow and without a take that is due
idle_cpu : (b : BoardSeen) (lines : List BoardLine) (c : CpuNo)
    → ((i : ℕ) (x : BoardLine) → slice_get lines i ≡ Some x
    → (is_cpu c (flow x.def x.past) ≡ false) × (is_some_take (next_past x.def x.past (actors.Cpu c)) ≡ false))
    → due_move b lines (actors.Cpu c) ≡ None
idle_cpu b lines c idle =
    let no_flow : flow_line lines c ≡ None = sym (flow_is lines c) ∙ none_at (in_flow_of c) lines (λ i x at. (idle i x at).0) in
    let no_due : due_line lines c ≡ None = sym (due_is lines c)
    ∙ none_at (due_of_cpu c) lines (λ i x at. due_is_take x.def x.past c (idle i x at).0 ∙ (idle i x at).1) in
    ap (λ (o : Option BoardLine). due_on (or_line o (due_line lines c)) (actors.Cpu c)) no_flow ∙ ap (λ (o : Option BoardLine). due_on o (actors.Cpu c)) no_due

module _ (b : BoardSeen) (is : IsBoard b) (fits : is_for_chain b ≡ true) (g : List ChainEntry)
    (legal : IsChainLegal b g) (kept : AreKept b (lines_in b g)) where
  abbrev lines : List BoardLine
  lines = lines_in b g

  other_rests : (c : CpuNo) → (c.0 == 0) ≡ false → due_move b lines (actors.Cpu c) ≡ None
  other_rests c other = idle_cpu b lines c idle
    where
      differs : c ≡ cpu_0 → ⊥
      differs same = both_ways (c.0 == 0) (ap (λ (x : CpuNo). x.0 == 0) same) other

      never : (t : Bool) → (t ≡ true → c ≡ cpu_0) → t ≡ false
      never true says = absurd (differs (says refl))
      never false says = refl

      idle : (i : ℕ) (x : BoardLine) → slice_get lines i ≡ Some x
          → (is_cpu c (flow x.def x.past) ≡ false) × (is_some_take (next_past x.def x.past (actors.Cpu c)) ≡ false)
      idle i x at =
          let d = def_at b lines kept i x at in
          let l = kept.legal i x at in
          (never _ (flow_of_0 b is fits i x.def d x.past l c), never _ (take_of_0 b is fits i x.def d x.past l c))

  rests_0 : of_cpu_0 g lines (open_status g) ≡ None → due_move b lines (actors.Cpu cpu_0) ≡ None
  rests_0 none = by_open (open_status g) refl none
    where
      by_take : (o : Option ChainEntry) → or_exit o ≡ None → ⊥
      by_take None h = cc
      by_take (Some e) h = cc

      by_flow : (s : ℕ) (x : Option BoardLine) → flow_line lines cpu_0 ≡ x → in_chain g lines s x ≡ None → due_move b lines (actors.Cpu cpu_0) ≡ None
      by_flow s None on h = absurd (by_take _ h)
      by_flow s (Some x) on h = ap (λ (o : Option BoardLine). due_on (or_line o (due_line lines cpu_0)) (actors.Cpu cpu_0)) on ∙ no_child_due _ h

      asks_none : (t : Bool) → cond t None (Some (steps.Enter cpu_0 (status_of lines))) ≡ None → t ≡ true
      asks_none true h = refl
      asks_none false h = cc

      no_take : (status_of lines == 0) ≡ true → (i : ℕ) (x : BoardLine) → slice_get lines i ≡ Some x → (t : Bool) → has_take_due x ≡ t → t ≡ false
      no_take is_zero i x at true due = both_ways (status_of lines == 0) is_zero (asked_by lines i x at due)
      no_take is_zero i x at false due = refl

      by_open : (o : Option ℕ) → open_status g ≡ o → of_cpu_0 g lines o ≡ None → due_move b lines (actors.Cpu cpu_0) ≡ None
      by_open None closed h =
          let is_zero = asks_none (status_of lines == 0) h in
          idle_cpu b lines cpu_0 (λ i x at. (no_flow_closed b g legal closed i x at, no_take is_zero i x at (has_take_due x) refl))
      by_open (Some s) opens_at h = by_flow s (flow_line lines cpu_0) refl h

  -- an actor that has no step of the chain can't move
  pub rests : (a : Actor) → chain_next b g a ≡ None → due_move b lines a ≡ None
  rests (actors.Thread d) none = no_child_due _ none
  rests (actors.Driver r) none = no_child_due _ none
  rests (actors.Cpu c) none = by_zero (c.0 == 0) refl none
    where
      by_zero : (z : Bool) → (c.0 == 0) ≡ z → cond z (of_cpu_0 g lines (open_status g)) None ≡ None → due_move b lines (actors.Cpu c) ≡ None
      by_zero true same h = ap (λ (n : ℕ). due_move b lines (actors.Cpu (record { 0 = n }))) (eqb-true c.0 0 same) ∙ rests_0 h
      by_zero false same h = other_rests c same
