-- What an entry that is due makes of the canonical state is, again canonical, what it makes of the
-- state.
use Rattle.std.proofs.Common.{◌≡◌, ℕ, ◌+◌, ◌≤◌, Bool, true, false, not, ◌||◌, ◌&&◌, cond, ◌==◌, is_some, Option, None, List, [], ◌∷◌, refl, ap, ◌∙◌}
use Rattle.irq_base.specs.declared.calls.Flags.{Flags}
use Rattle.irq_base.specs.declared.entries.Entry.{Entry}
use Rattle.irq_base.specs.declared.entries.Entry.TheVariants as by
use Rattle.irq_base.specs.declared.entries.CpuEntry.TheVariants as cpus
use Rattle.irq_base.specs.declared.entries.DriverEntry.TheVariants as drivers
use Rattle.irq_base.specs.declared.entries.LinkAnswer.{LinkAnswer}
use Rattle.irq_base.specs.declared.entries.LinkAnswer.TheVariants as links
use Rattle.irq_base.specs.declared.entries.TakeAnswer.TheVariants as takes
use Rattle.irq_base.specs.declared.lines.LineDef.{LineDef}
use Rattle.irq_base.specs.declared.numbers.DevNo.{DevNo}
use Rattle.irq_base.specs.declared.numbers.DriverNo.{DriverNo}
use Rattle.irq_model.specs.Kinds.{returns_wake, returns_handled}
use Rattle.irq_model.specs.Rounds.{begins_round}
use Rattle.irq_model.specs.Spurious.{Counts, noted}
use Rattle.device_table.specs.Rows.{change}
use Rattle.device_table.specs.Sums.{one_if}
use Rattle.act_list.specs.Lists.{ListSeen, cleared, action_by, after_link, after_begin_round}
use Rattle.desc_state.specs.Desc.{DescSeen}
use Rattle.spurious.specs.Seen.{CountsSeen}
use Rattle.line_marks.specs.Counts.{tally_after}
use Rattle.line_marks.specs.Desc.{desc_after}
use Rattle.line_marks.specs.Rounds.{RoundSeen, round_after}
use Rattle.line_futures.specs.Canon.{without_bits, canon_list, canon_round, canon_counts}
use Rattle.line_futures.proofs.Actions.{Actions, bare, flags_same, more_same}
use Rattle.line_futures.proofs.AsksAfter.{Lower}
use Rattle.line_futures.proofs.Counting.{again_same, noted_same, thread_same}

-- ---- the flow

abbrev pub flow_after : LineDef → Bool → Entry → DescSeen → Bool
flow_after def first e d = is_some (desc_after def first e d).flow

-- a flow begins only where a round begins
pub flow_stays : (def : LineDef) (first : Bool) (d : DescSeen) (e : Entry) → begins_round def e ≡ false → Lower (flow_after def first e d) (is_some d.flow)
flow_stays def first d (by.Cpu cpu (cpus.Take way takes.Handle)) none = cc
flow_stays def first d (by.Cpu cpu (cpus.Take way takes.Busy)) none = λ i. i
flow_stays def first d (by.Cpu cpu (cpus.Take way takes.Off)) none = λ i. i
flow_stays def first d (by.Cpu cpu (cpus.End true unmask note)) none = by_eoi _ none
  where
    by_eoi : (b : Bool) → (false || (true && not b)) ≡ false → Lower (is_some (cond (false || (false || (true && b))) None d.flow)) (is_some d.flow)
    by_eoi true h = λ i. absurd (let x : ⊥ = cc i in x)
    by_eoi false h = cc
flow_stays def first d (by.Cpu cpu (cpus.End false unmask note)) none = λ i. absurd (let x : ⊥ = cc i in x)
flow_stays def first d e none = λ i. i

-- ---- the list

cleared_again : (b : List (DevNo × Bool)) → cleared (cleared b) ≡ cleared b
cleared_again [] = refl
cleared_again (e ∷ es) = ap (λ (x : List (DevNo × Bool)). (e.0, false) ∷ x) (cleared_again es)

abbrev pub begun_if : Bool → List (DevNo × Bool) → List (DevNo × Bool)
begun_if f b = cond f b (cleared b)

pub begun_lower : (new old : Bool) (b : List (DevNo × Bool)) → Lower new old → begun_if new (begun_if old b) ≡ begun_if new b
begun_lower true true b h = refl
begun_lower true false b h = absurd (let x : ⊥ = cc (h refl) in x)
begun_lower false true b h = refl
begun_lower false false b h = cleared_again b

begun_cleared : (new old : Bool) (b : List (DevNo × Bool)) → begun_if new (cleared (begun_if old b)) ≡ begun_if new (cleared b)
begun_cleared new true b = refl
begun_cleared true false b = cleared_again b
begun_cleared false false b = ap cleared (cleared_again b)

abbrev pub made_list : Actions → List (DevNo × Bool) → ListSeen
made_list a b = record { actions = a; begun = b; rounds = 0 }

pub list_by : (a c : Actions) (b d : List (DevNo × Bool)) → a ≡ c → b ≡ d → made_list a b ≡ made_list c d
list_by a c b d p q = ap (λ (x : Actions). made_list x b) p ∙ ap (made_list c) q

bare_again : (t : Actions) → bare (bare t) ≡ bare t
bare_again t = ap without_bits (flags_same t)

module _ (def : LineDef) (new old : Bool) (l : ListSeen) where
  abbrev pub SameList : (ListSeen → ListSeen) → Type 0
  SameList f = canon_list new (f (canon_list old l)) ≡ canon_list new (f l)

  pub by_round : (b : Bool) → (b ≡ false → Lower new old)
      → canon_list new (cond b (after_begin_round (canon_list old l)) (canon_list old l))
      ≡ canon_list new (cond b (after_begin_round l) l)
  by_round true low = list_by _ _ _ _ (bare_again l.actions) (begun_cleared new old l.begun)
  by_round false low = list_by _ _ _ _ (bare_again l.actions) (begun_lower new old l.begun (low refl))

  pub linked : (answer : LinkAnswer) (d : DevNo) (flags : Flags) → Lower new old → SameList (after_link answer d flags)
  linked links.Linked d flags low =
      list_by _ _ _ _ (more_same l.actions d (action_by flags (bare l.actions)) (action_by flags l.actions) refl) (begun_lower new old l.begun low)
  linked (links.Refused error) d flags low = list_by _ _ _ _ (bare_again l.actions) (begun_lower new old l.begun low)

  pub in_flow_begins : (d : DevNo) → old ≡ true → canon_list new
      (record (canon_list old l) { begun = change (λ b. true) (begun_if old l.begun) d })
      ≡ canon_list new (record l { begun = change (λ b. true) l.begun d })
  in_flow_begins d flows =
      ap (λ f. made_list (bare (bare l.actions)) (begun_if new (change (λ b. true) (begun_if f l.begun) d))) flows
      ∙ ap (λ (a : Actions). made_list a (begun_if new (change (λ b. true) l.begun d))) (bare_again l.actions)

-- ---- the round

round_wakes : (br f g r w : Bool) → (br ≡ false → Lower g f) → (g && cond br false (r || (f && w))) ≡ (g && cond br false (r || w))
round_wakes br f false r w low = refl
round_wakes true f true r w low = refl
round_wakes false true true r w low = refl
round_wakes false false true r w low = absurd (let x : ⊥ = cc (low refl refl) in x)

abbrev made_round : Option DevNo → Bool → Bool → ℕ → RoundSeen
made_round d w h m = record { working = d; wakes = w; handles = h; moment = m }

pub round_same : (def : LineDef) (e : Entry) (new old : Bool) (r : RoundSeen)
    → (begins_round def e ≡ false → Lower new old) → canon_round new (round_after def e (canon_round old r))
    ≡ canon_round new (round_after def e r)
round_same def e new old r low =
    let a = round_after def e r in
    ap (λ b. made_round a.working b (new && cond (begins_round def e) false (returns_handled e || (old && r.handles)))
    a.moment) (round_wakes (begins_round def e) old new (returns_wake e) r.wakes low)
    ∙ ap (λ b. made_round a.working (new && a.wakes) b a.moment) (round_wakes (begins_round def e) old new (returns_handled e) r.handles low)

-- ---- the counts

abbrev pub canon_tally : CountsSeen → CountsSeen
canon_tally c = record c { counts = canon_counts c.counts }

module _ (f : Bool) (r : RoundSeen) (c : CountsSeen) where
  abbrev pub SameTally : Entry → Type 0
  SameTally e = canon_tally (tally_after e (canon_round f r) (canon_tally c)) ≡ canon_tally (tally_after e r c)

  abbrev pub with_counts : Counts → CountsSeen
  with_counts x = record c { counts = x }

  pub as_before : canon_tally (canon_tally c) ≡ canon_tally c
  as_before = ap with_counts (again_same c.counts)

  pub served_same : (b : Bool) → c.counts.last ≤ c.counts.threads_handled
      → canon_tally (cond b (record c {
        counts = record (canon_counts c.counts)
            { threads_handled = one_if (not (c.counts.threads_handled == c.counts.last)) + 1 };
      }) (canon_tally c))
      ≡ canon_tally (cond b (record c {
        counts = record c.counts { threads_handled = c.counts.threads_handled + 1 };
      }) c)
  served_same true le = ap with_counts (thread_same c.counts le)
  served_same false le = as_before

  pub linked_tally : (d : DriverNo) (dev : DevNo) (flags : Flags) (answer : LinkAnswer) (opened : _)
      → SameTally (by.Driver d (drivers.Request flags answer opened dev))
  linked_tally d dev flags links.Linked opened = ap with_counts (ap (λ (x : Counts). record x { irq_count = 0; irqs_unhandled = 0 }) (again_same c.counts))
  linked_tally d dev flags (links.Refused error) opened = as_before

  pub ended_tally : f ≡ true → canon_tally (record c {
    counts
        = (noted c.window c.limit r.moment (f && r.wakes) (f && r.handles) (canon_counts c.counts)).counts;
  })
      ≡ canon_tally (record c { counts = (noted c.window c.limit r.moment r.wakes r.handles c.counts).counts })
  ended_tally flows =
      ap (λ g. with_counts (canon_counts (noted c.window c.limit r.moment (g && r.wakes) (g && r.handles) (canon_counts c.counts)).counts)) flows
      ∙ ap with_counts (noted_same c.window c.limit r.moment r.wakes r.handles c.counts).1
