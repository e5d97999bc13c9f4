-- What an entry makes of the asks: of what decides nothing any more nothing is read.
use Rattle.std.proofs.Common.{◌≡◌, ℕ, ◌+◌, Bool, true, false, ◌&&◌, cond, ltb, Option, Some, None, List, [], ◌∷◌, option_map, refl, sym, ap, ◌∙◌}
use Rattle.irq_base.specs.declared.devices.Part.{Part}
use Rattle.irq_base.specs.declared.devices.Part.TheVariants as parts
use Rattle.irq_base.specs.declared.numbers.DevNo.{DevNo}
use Rattle.irq_model.specs.Kinds.{same_dev}
use Rattle.irq_model.specs.Runs.{is_that_part}
use Rattle.irq_model.proofs.Same.{dev_from_same}
use Rattle.device_table.specs.Rows.{at, change}
use Rattle.device_table.specs.Sums.{one_if, how_many}
use Rattle.act_thread.specs.Steps.{may_return}
use Rattle.act_thread.specs.Threads.{row_passes}
use Rattle.act_thread.specs.declared.rows.ThreadRow.{ThreadRow}
use Rattle.ask_counts.specs.Rows.{is_waiting, asked, called, begun, served, emptied, turned_off, turned_on, unserved_in, unserved_at, is_quiet_in, is_quiet_at}
use Rattle.ask_counts.specs.declared.rows.AskRow.{AskRow}
use Rattle.line_marks.specs.Runs.{met_in, taken_in}
use Rattle.line_marks.specs.State.{high_in}
use Rattle.line_futures.specs.Canon.{is_serving, is_thread_working, kept_if, canon_row, canon_asks}
use Rattle.line_futures.proofs.EachRow.{walk, walk_is, each_at}

-- ---- the rows that an entry leaves alone

-- taken out first, what decides nothing later is taken out all the same
abbrev pub Lower : Bool → Bool → Type 0
Lower new old = new ≡ true → old ≡ true

pub kept_lower : (new old : Bool) (n : ℕ) → Lower new old → kept_if new (kept_if old n) ≡ kept_if new n
kept_lower false old n h = refl
kept_lower true true n h = refl
kept_lower true false n h = absurd (let x : ⊥ = cc (h refl) in x)

pub row_by : (q r : AskRow) → q.unserved ≡ r.unserved → q.fresh ≡ r.fresh → q.met_by_handler ≡ r.met_by_handler → q.met_by_thread ≡ r.met_by_thread
    → q.quiet ≡ r.quiet → q ≡ r
row_by q r a b c d f =
    (let e : ◌≡◌ {A = AskRow} (record {
      unserved = q.unserved;
      fresh = q.fresh;
      met_by_handler = q.met_by_handler;
      met_by_thread = q.met_by_thread;
      quiet = q.quiet;
    }) r = rw (a, b, c, d, f) refl in e)

pub row_lower : (v h t v' h' t' : Bool) (r : AskRow) → Lower v' v → Lower h' h → Lower t' t → canon_row v' h' t' (canon_row v h t r) ≡ canon_row v' h' t' r
row_lower v h t v' h' t' r lv lh lt =
    row_by _ _ refl (kept_lower v' v r.fresh lv) (kept_lower h' h r.met_by_handler lh) (kept_lower t' t r.met_by_thread lt) refl

pub serving_lower : (o : Option Part) (h t h' t' : Bool) → Lower h' h → Lower t' t → Lower (is_serving o h' t') (is_serving o h t)
serving_lower None h t h' t' lh lt = λ i. i
serving_lower (Some parts.Primary) h t h' t' lh lt = lh
serving_lower (Some parts.Thread) h t h' t' lh lt = lt

-- ---- what is read off the asks

-- of a device's row, if it has one
abbrev pub lowered : Bool → Bool → Bool → Option AskRow → Option AskRow
lowered v h t o = option_map (canon_row v h t) o

pub met_same : (v h t : Bool) (o : Option AskRow) → (h ≡ true → met_in parts.Primary (lowered v h t o) ≡ met_in parts.Primary o)
    × (t ≡ true → met_in parts.Thread (lowered v h t o) ≡ met_in parts.Thread o)
met_same v h t None = (λ i. refl, λ i. refl)
met_same v h t (Some r) = (λ i. ap (λ b. kept_if b r.met_by_handler) i, λ i. ap (λ b. kept_if b r.met_by_thread) i)

pub taken_same : (v h t : Bool) (o : Option AskRow) → v ≡ true → taken_in (lowered v h t o) ≡ taken_in o
taken_same v h t None i = refl
taken_same v h t (Some r) i = ap (λ b. taken_in (Some (canon_row b h t r))) i

unserved_same_in : (v h t : Bool) (o : Option AskRow) → unserved_in (lowered v h t o) ≡ unserved_in o
unserved_same_in v h t None = refl
unserved_same_in v h t (Some r) = refl

quiet_same_in : (v h t : Bool) (o : Option AskRow) → is_quiet_in (lowered v h t o) ≡ is_quiet_in o
quiet_same_in v h t None = refl
quiet_same_in v h t (Some r) = refl

module _ (v h t : DevNo → Bool) where
  waiting_same : (a : List (DevNo × AskRow)) → how_many is_waiting (canon_asks v h t a) ≡ how_many is_waiting a
  waiting_same [] = refl
  waiting_same (e ∷ es) = ap (λ n. one_if (is_waiting e.1) + n) (waiting_same es)

  pub high_same : (a : List (DevNo × AskRow)) → high_in (canon_asks v h t a) ≡ high_in a
  high_same a = ap (λ n. ltb 0 n) (waiting_same a)

  pub asks_at : (a : List (DevNo × AskRow)) (d : DevNo) → at (canon_asks v h t a) d ≡ lowered (v d) (h d) (t d) (at a d)
  asks_at a d = each_at (λ x. canon_row (v x) (h x) (t x)) a d

  pub unserved_same : (a : List (DevNo × AskRow)) (d : DevNo) → unserved_at (canon_asks v h t a) d ≡ unserved_at a d
  unserved_same a d = ap unserved_in (asks_at a d) ∙ unserved_same_in (v d) (h d) (t d) (at a d)

  pub quiet_same : (a : List (DevNo × AskRow)) (d : DevNo) → is_quiet_at (canon_asks v h t a) d ≡ is_quiet_at a d
  quiet_same a d = ap is_quiet_in (asks_at a d) ∙ quiet_same_in (v d) (h d) (t d) (at a d)

-- ---- whose thread is at work, after a change of one row

module _ (g : ThreadRow → ThreadRow) (d : DevNo) where
  walk_lower : (x : DevNo) (a : List (DevNo × ThreadRow)) → ((r : ThreadRow) → Lower (may_return (g r)) (may_return r))
      → Lower (is_thread_working (walk g d a) x) (is_thread_working a x)
  unfolding walk
  walk_lower x [] low = λ i. i
  walk_lower x (e ∷ es) low = by_tests (same_dev d e.0) (same_dev x e.0) refl (walk_lower x es low)
    where
      by_tests : (b c : Bool) → same_dev x e.0 ≡ c → Lower (is_thread_working (walk g d es) x) (is_thread_working es x)
          → Lower (row_passes may_return false (at (cond b ((e.0, g e.1) ∷ es) (e ∷ walk g d es)) x))
          (row_passes may_return false (cond c (Some e.1) (at es x)))
      by_tests true true is rest = λ i. low e.1 (ap (λ y. row_passes may_return false (cond y (Some (g e.1)) (at es x))) (sym is) ∙ i)
      by_tests true false is rest = λ i. ap (λ y. row_passes may_return false (cond y (Some (g e.1)) (at es x))) (sym is) ∙ i
      by_tests false true is rest = λ i. ap (λ y. row_passes may_return false (cond y (Some e.1) (at (walk g d es) x))) (sym is) ∙ i
      by_tests false false is rest = λ i. rest (ap (λ y. row_passes may_return false (cond y (Some e.1) (at (walk g d es) x))) (sym is) ∙ i)

  pub working_lower : (x : DevNo) (a : List (DevNo × ThreadRow))
      → ((r : ThreadRow) → Lower (may_return (g r)) (may_return r))
      → Lower (is_thread_working (change g a d) x) (is_thread_working a x)
  working_lower x a low = λ i. walk_lower x a low (ap (λ (y : List (DevNo × ThreadRow)). is_thread_working y x) (sym (walk_is g d a)) ∙ i)

  both : (x y : DevNo) → same_dev d y ≡ true → same_dev x y ≡ true → same_dev d x ≡ true
  both x y p q = ap (λ (z : DevNo). same_dev d z) (dev_from_same x y q) ∙ p

  walk_other : (x : DevNo) (a : List (DevNo × ThreadRow)) → same_dev d x ≡ false → Lower (is_thread_working (walk g d a) x) (is_thread_working a x)
  unfolding walk
  walk_other x [] ne = λ i. i
  walk_other x (e ∷ es) ne = by_tests (same_dev d e.0) (same_dev x e.0) refl refl (walk_other x es ne)
    where
      by_tests : (b c : Bool) → same_dev d e.0 ≡ b → same_dev x e.0 ≡ c → Lower (is_thread_working (walk g d es) x) (is_thread_working es x)
          → Lower (row_passes may_return false (at (cond b ((e.0, g e.1) ∷ es) (e ∷ walk g d es)) x))
          (row_passes may_return false (cond c (Some e.1) (at es x)))
      by_tests true true p q rest = absurd (let x : ⊥ = cc (sym ne ∙ both x e.0 p q) in x)
      by_tests true false p q rest = λ i. ap (λ y. row_passes may_return false (cond y (Some (g e.1)) (at es x))) (sym q) ∙ i
      by_tests false true p q rest = λ i. ap (λ y. row_passes may_return false (cond y (Some e.1) (at (walk g d es) x))) (sym q) ∙ i
      by_tests false false p q rest = λ i. rest (ap (λ y. row_passes may_return false (cond y (Some e.1) (at (walk g d es) x))) (sym q) ∙ i)

  pub other_lower : (x : DevNo) (a : List (DevNo × ThreadRow)) → same_dev d x ≡ false → Lower (is_thread_working (change g a d) x) (is_thread_working a x)
  other_lower x a ne = λ i. walk_other x a ne (ap (λ (y : List (DevNo × ThreadRow)). is_thread_working y x) (sym (walk_is g d a)) ∙ i)

-- ---- a row after each kind of entry; h, t: its runs at work before, h', t' after; o: the part that
-- serves

module _ (o : Option Part) (h t h' t' : Bool) (r : AskRow) where
  abbrev pub AfterSame : (AskRow → AskRow) → Type 0
  AfterSame f = canon_row (is_serving o h' t') h' t' (f (canon_row (is_serving o h t) h t r)) ≡ canon_row (is_serving o h' t') h' t' (f r)

module _ (o : Option Part) (h t h' t' : Bool) (r : AskRow) (lh : Lower h' h) (lt : Lower t' t) where
  lv : Lower (is_serving o h' t') (is_serving o h t)
  lv = serving_lower o h t h' t' lh lt

  kept_more : (new old : Bool) (n : ℕ) → Lower new old → kept_if new (kept_if old n + 1) ≡ kept_if new (n + 1)
  kept_more false old n low = refl
  kept_more true true n low = refl
  kept_more true false n low = absurd (let x : ⊥ = cc (low refl) in x)

  pub row_asked : AfterSame o h t h' t' r asked
  row_asked = row_by _ _ refl (kept_more (is_serving o h' t') (is_serving o h t) r.fresh lv) (kept_lower h' h r.met_by_handler lh)
      (kept_lower t' t r.met_by_thread lt) refl

  pub row_emptied : AfterSame o h t h' t' r emptied
  row_emptied = row_by _ _ refl refl (kept_lower h' h r.met_by_handler lh) (kept_lower t' t r.met_by_thread lt) refl

  pub row_off : AfterSame o h t h' t' r turned_off
  row_off = row_by _ _ refl (kept_lower (is_serving o h' t') (is_serving o h t) r.fresh lv) (kept_lower h' h r.met_by_handler lh)
      (kept_lower t' t r.met_by_thread lt) refl

  pub row_on : AfterSame o h t h' t' r turned_on
  row_on = row_by _ _ refl (kept_lower (is_serving o h' t') (is_serving o h t) r.fresh lv) (kept_lower h' h r.met_by_handler lh)
      (kept_lower t' t r.met_by_thread lt) refl

-- the handler is called; the thread's run stays
pub row_called : (o : Option Part) (h t t' : Bool) (r : AskRow) → Lower t' t → AfterSame o h t true t' r (called (is_that_part parts.Primary o))
row_called None h t t' r low = row_by _ _ refl refl refl (kept_lower t' t r.met_by_thread low) refl
row_called (Some parts.Primary) h t t' r low = row_by _ _ refl refl refl (kept_lower t' t r.met_by_thread low) refl
row_called (Some parts.Thread) h t t' r low = row_by _ _ refl (kept_lower t' t r.fresh low) refl (kept_lower t' t r.met_by_thread low) refl

-- it returns; `some`: it had something to serve
pub row_returned : (o : Option Part) (t t' some : Bool) (r : AskRow) → Lower t' t
    → AfterSame o true t false t' r (served (is_that_part parts.Primary o && some))
row_returned None t t' some r low = row_by _ _ refl refl refl (kept_lower t' t r.met_by_thread low) refl
row_returned (Some parts.Primary) t t' some r low = row_by _ _ refl refl refl (kept_lower t' t r.met_by_thread low) refl
row_returned (Some parts.Thread) t t' some r low = row_by _ _ refl (kept_lower t' t r.fresh low) refl (kept_lower t' t r.met_by_thread low) refl

-- the thread's run begins
pub row_begun : (o : Option Part) (h t t' : Bool) (r : AskRow) → AfterSame o h t h t' r (begun (is_that_part parts.Thread o))
row_begun None h t t' r = row_by _ _ refl refl (kept_lower h h r.met_by_handler (λ i. i)) refl refl
row_begun (Some parts.Primary) h t t' r =
    row_by _ _ refl (kept_lower h h r.fresh (λ i. i)) (kept_lower h h r.met_by_handler (λ i. i)) refl refl
row_begun (Some parts.Thread) h t t' r = row_by _ _ refl refl (kept_lower h h r.met_by_handler (λ i. i)) refl refl

-- its handler returns
pub row_thread_returned : (o : Option Part) (h t' some : Bool) (r : AskRow)
    → AfterSame o h true h t' r (served (is_that_part parts.Thread o && some))
row_thread_returned None h t' some r = row_by _ _ refl refl (kept_lower h h r.met_by_handler (λ i. i)) (kept_lower t' true r.met_by_thread (λ i. refl)) refl
row_thread_returned (Some parts.Primary) h t' some r =
    row_by _ _ refl (kept_lower h h r.fresh (λ i. i)) (kept_lower h h r.met_by_handler (λ i. i)) (kept_lower t' true r.met_by_thread (λ i. refl)) refl
row_thread_returned (Some parts.Thread) h t' some r =
    row_by _ _ refl (kept_lower t' true r.fresh (λ i. refl)) (kept_lower h h r.met_by_handler (λ i. i)) (kept_lower t' true r.met_by_thread (λ i. refl)) refl
