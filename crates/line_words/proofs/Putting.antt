-- Rows that are put by the numbers of a table make that table.
use Rattle.std.proofs.Common.{◌≡◌, ℕ, suc, ◌+◌, ◌*◌, ◌==◌, Bool, true, false, ◌||◌, cond, is_some, Option, Some, None, List, []}
use Rattle.std.proofs.Common.{◌∷◌, drop, length, refl, sym, ap, subst, ◌∙◌, arith}
use Rattle.std.proofs.lemmas.List.{drop-drop}
use Rattle.std.specs.List.{list_any}
use Rattle.irq_base.specs.declared.calls.Flags.{Flags}
use Rattle.irq_base.specs.declared.devices.DeviceDef.{DeviceDef}
use Rattle.irq_base.specs.declared.entries.Actor.{Actor}
use Rattle.irq_base.specs.declared.entries.Actor.TheVariants as actors
use Rattle.irq_base.specs.declared.numbers.CpuNo.{CpuNo}
use Rattle.irq_base.specs.declared.numbers.DevNo.{DevNo}
use Rattle.irq_model.specs.Kinds.{same_dev}
use Rattle.irq_model.specs.Lines.{is_device}
use Rattle.irq_model.specs.Valid.{HasDistinctDevices}
use Rattle.irq_model.proofs.Same.{same_self, same_both}
use Rattle.device_table.specs.Rows.{at, change, changed, table_by}
use Rattle.device_table.specs.Sums.{one_if}
use Rattle.act_list.specs.Lists.{cleared}
use Rattle.act_thread.specs.declared.rows.Stage.{Stage}
use Rattle.act_thread.specs.declared.rows.Stage.TheVariants as stages
use Rattle.act_thread.specs.declared.rows.ThreadRow.{ThreadRow}
use Rattle.ask_counts.specs.Rows.{turned_off}
use Rattle.ask_counts.specs.declared.rows.AskRow.{AskRow}
use Rattle.run_scripts.specs.declared.rows.RunRow.{RunRow}
use Rattle.line_marks.specs.Aim.{number_of}
use Rattle.line_futures.specs.Canon.{each_row}
use Rattle.line_words.specs.Reading.{stage_in, thread_in, ask_in, run_in, put_rows, mark_if, mark_rows, linked_in, bit_at, actor_in}
use Rattle.line_words.specs.Tables.{HasRows}
use Rattle.line_words.specs.Words.{stage_word, thread_words, ask_words, quiet_words, run_words, begun_words, table_words, linked_words, dev_number, mask_number}
use Rattle.line_words.specs.Words.{freer_word, freer_number, freed_number}

-- ---- single numbers

pub bit_is : (b : Bool) → (one_if b == 1) ≡ b
bit_is true = refl
bit_is false = refl

pub cpu_is : (o : Option CpuNo) → cond (one_if (is_some o) == 1) (Some (record { 0 = number_of o })) None ≡ o
cpu_is None = refl
cpu_is (Some c) = refl

pub dev_is : (o : Option DevNo) → cond (one_if (is_some o) == 1) (Some (record { 0 = dev_number o })) None ≡ o
dev_is None = refl
dev_is (Some d) = refl

pub mask_is : (o : Option ℕ) → cond (one_if (is_some o) == 1) (Some (mask_number o)) None ≡ o
mask_is None = refl
mask_is (Some m) = refl

pub freeing_is : (o : Option (Actor × DevNo))
    → cond (freer_word o == 0) None (Some (actor_in (freer_word o) (freer_number o), record { 0 = freed_number o })) ≡ o
freeing_is None = refl
freeing_is (Some (actors.Driver r, d)) = refl
freeing_is (Some (actors.Cpu c, d)) = refl
freeing_is (Some (actors.Thread x, d)) = refl

stage_is : (s : Stage) → stage_in (stage_word s) ≡ s
stage_is stages.Idle = refl
stage_is stages.Begun = refl
stage_is stages.Returned = refl
stage_is stages.Finished = refl

pub thread_is : (r : ThreadRow) (rest : List ℕ) → thread_in (thread_words r rest) ≡ r
thread_is r rest =
    (let e : ◌≡◌ {A = ThreadRow} (record { woken = one_if r.woken == 1; stage = stage_in (stage_word r.stage); held = one_if r.held == 1 }) r
    = rw (bit_is r.woken, stage_is r.stage, bit_is r.held) refl in e)

-- of a row of asks, all but whether the device is quiet
abbrev pub loud : AskRow → AskRow
loud r = record r { quiet = false }

pub ask_is : (r : AskRow) (rest : List ℕ) → ask_in (ask_words r rest) ≡ loud r
ask_is r rest = refl

pub run_is : (r : RunRow) (rest : List ℕ) → run_in (run_words r rest) ≡ r
run_is r rest = refl

flags_by : (f : Flags) → ◌≡◌ {A = Flags} (record { shared = one_if f.shared == 1; oneshot = one_if f.oneshot == 1; noauto = one_if f.noauto == 1 }) f
flags_by f = rw (bit_is f.shared, bit_is f.oneshot, bit_is f.noauto) refl

pub linked_is : (t : List (DevNo × Flags)) → linked_in (linked_words t) ≡ t
linked_is [] = refl
linked_is (e ∷ es) =
    ap (λ (f : Flags). (e.0, f) ∷ linked_in (linked_words es)) (flags_by e.1) ∙ ap (λ (l : List (DevNo × Flags)). e ∷ l) (linked_is es)

-- ---- what stands behind a table

module _ {R : Type 0} (words : R → List ℕ → List ℕ) (width : ℕ) (wide : (r : R) (rest : List ℕ) → drop width (words r rest) ≡ rest)
    (times : (n : ℕ) → width * suc n ≡ width + width * n) (f : DevNo → R) where
  pub behind_table : (xs : List DeviceDef) (rest : List ℕ) → drop (width * length xs) (table_words words (table_by f xs) rest) ≡ rest
  behind_table [] rest = ap (λ n. drop n rest) (let e : width * 0 ≡ 0 = omega arith in e)
  behind_table (x ∷ xs) rest =
      ap (λ n. drop n (words (f x.dev) (table_words words (table_by f xs) rest))) (times (length xs))
      ∙ (sym (drop-drop (width * length xs) width (words (f x.dev) (table_words words (table_by f xs) rest)))
      ∙ (ap (λ (m : List ℕ). drop (width * length xs) m) (wide (f x.dev) (table_words words (table_by f xs) rest))
      ∙ behind_table xs rest))

-- ---- rows that are put

module _ {R : Type 0} where
  -- the first row is another device's
  change_behind : (h : R → R) (e : DevNo × R) (t : List (DevNo × R)) (d : DevNo) → same_dev d e.0 ≡ false → change h (e ∷ t) d ≡ e ∷ change h t d
  change_behind h e t d other = rw other (by_found (at t d))
    where
      by_found : (o : Option R) → changed h (e ∷ t) d o ≡ e ∷ changed h t d o
      by_found None = refl
      by_found (Some r) = rw other refl

  change_first : (h : R → R) (d : DevNo) (r : R) (t : List (DevNo × R)) → change h ((d, r) ∷ t) d ≡ (d, h r) ∷ t
  change_first h d r t = rw (same_self d) (rw (same_self d) refl)

  module _ (row : List ℕ → R) (width : ℕ) where
    put_behind : (xs : List DeviceDef) (ws : List ℕ) (d : DevNo) (r : R) (t : List (DevNo × R)) → list_any (is_device d) xs ≡ false
        → put_rows row width xs ws ((d, r) ∷ t) ≡ (d, r) ∷ put_rows row width xs ws t
    put_behind [] ws d r t none = refl
    put_behind (x ∷ xs) ws d r t none =
        by_test (same_dev d x.dev) refl none (λ n. put_behind xs (drop width ws) d r (change (λ _. row ws) t x.dev) n)
      where
        by_test : (b : Bool) → same_dev d x.dev ≡ b → (b || list_any (is_device d) xs) ≡ false
            → (list_any (is_device d) xs ≡ false → put_rows row width xs (drop width ws) ((d, r) ∷ change (λ _. row ws) t x.dev)
            ≡ (d, r) ∷ put_rows row width xs (drop width ws) (change (λ _. row ws) t x.dev))
            → put_rows row width (x ∷ xs) ws ((d, r) ∷ t) ≡ (d, r) ∷ put_rows row width (x ∷ xs) ws t
        by_test true is n rest = cc
        by_test false is n rest =
            ap (λ (u : List (DevNo × R)). put_rows row width xs (drop width ws) u)
            (change_behind (λ _. row ws) (d, r) t x.dev (same_both x.dev d ∙ is))
            ∙ rest n

    -- `low`: what of a row its words tell
    module _ (words : R → List ℕ → List ℕ) (wide : (r : R) (rest : List ℕ) → drop width (words r rest) ≡ rest) (low : R → R)
        (reads : (r : R) (rest : List ℕ) → row (words r rest) ≡ low r) (f : DevNo → R) where
      pub put_is : (xs : List DeviceDef) (rest : List ℕ) (t : List (DevNo × R)) → HasDistinctDevices xs → HasRows xs t
          → put_rows row width xs (table_words words (table_by f xs) rest) t ≡ table_by (λ d. low (f d)) xs
      put_is [] rest [] own rows = refl
      put_is [] rest (e ∷ es) own rows = absurd rows
      put_is (x ∷ xs) rest [] own rows = absurd rows
      put_is (x ∷ xs) rest (e ∷ es) own rows =
          let left = table_words words (table_by f xs) rest in
          ap (λ (d : DevNo). put_rows row width (x ∷ xs) (words (f x.dev) left) ((d, e.1) ∷ es)) rows.0
          ∙ (ap (λ (u : List (DevNo × R)). put_rows row width xs (drop width (words (f x.dev) left)) u)
          (change_first (λ _. row (words (f x.dev) left)) x.dev e.1 es)
          ∙ (ap (λ (m : List ℕ). put_rows row width xs m ((x.dev, row (words (f x.dev) left)) ∷ es)) (wide (f x.dev) left)
          ∙ (ap (λ (r : R). put_rows row width xs left ((x.dev, r) ∷ es)) (reads (f x.dev) left)
          ∙ (put_behind xs left x.dev (low (f x.dev)) es own.0
          ∙ ap (λ (t : List (DevNo × R)). (x.dev, low (f x.dev)) ∷ t) (put_is xs rest es own.1 rows.1)))))

  -- ---- the rows of each device

  pub rows_by : (f : DevNo → R) (xs : List DeviceDef) → HasRows xs (table_by f xs)
  rows_by f [] = tt
  rows_by f (x ∷ xs) = (refl, rows_by f xs)

  pub rows_are : (f : DevNo → R) (xs : List DeviceDef) (t : List (DevNo × R)) → t ≡ table_by f xs → HasRows xs t
  rows_are f xs t is = let P : List (DevNo × R) → Type 0 = λ u. HasRows xs u in subst P (sym is) (rows_by f xs)

pub cleared_is : (xs : List DeviceDef) (t : List (DevNo × Bool)) → HasRows xs t → cleared t ≡ table_by (λ _. false) xs
cleared_is [] [] rows = refl
cleared_is [] (e ∷ es) rows = absurd rows
cleared_is (x ∷ xs) [] rows = absurd rows
cleared_is (x ∷ xs) (e ∷ es) rows =
    ap (λ (d : DevNo). (d, false) ∷ cleared es) rows.0 ∙ ap (λ (u : List (DevNo × Bool)). (x.dev, false) ∷ u) (cleared_is xs es rows.1)

-- canonical tables have the same rows

pub rows_of_cleared : (xs : List DeviceDef) (t : List (DevNo × Bool)) → HasRows xs (cleared t) → HasRows xs t
rows_of_cleared [] [] rows = tt
rows_of_cleared [] (e ∷ es) rows = absurd rows
rows_of_cleared (x ∷ xs) [] rows = absurd rows
rows_of_cleared (x ∷ xs) (e ∷ es) rows = (rows.0, rows_of_cleared xs es rows.1)

pub rows_of_each : {R : Type 0} (f : DevNo → R → R) (xs : List DeviceDef) (a : List (DevNo × R)) → HasRows xs (each_row f a) → HasRows xs a
rows_of_each f [] [] rows = tt
rows_of_each f [] (e ∷ es) rows = absurd rows
rows_of_each f (x ∷ xs) [] rows = absurd rows
rows_of_each f (x ∷ xs) (e ∷ es) rows = (rows.0, rows_of_each f xs es rows.1)

-- ---- marks

module _ {R : Type 0} (mark : R → R) where
  mark_behind : (xs : List DeviceDef) (ws : List ℕ) (d : DevNo) (r : R) (t : List (DevNo × R)) → list_any (is_device d) xs ≡ false
      → mark_rows mark xs ws ((d, r) ∷ t) ≡ (d, r) ∷ mark_rows mark xs ws t
  mark_behind [] ws d r t none = refl
  mark_behind (x ∷ xs) ws d r t none =
      by_test (same_dev d x.dev) refl none (λ n. mark_behind xs (drop 1 ws) d r (mark_if mark (bit_at ws 0) t x.dev) n)
    where
      by_bit : (b : Bool) → same_dev x.dev d ≡ false → mark_if mark b ((d, r) ∷ t) x.dev ≡ (d, r) ∷ mark_if mark b t x.dev
      by_bit true other = change_behind mark (d, r) t x.dev other
      by_bit false other = refl

      by_test : (b : Bool) → same_dev d x.dev ≡ b → (b || list_any (is_device d) xs) ≡ false
          → (list_any (is_device d) xs ≡ false → mark_rows mark xs (drop 1 ws) ((d, r) ∷ mark_if mark (bit_at ws 0) t x.dev)
          ≡ (d, r) ∷ mark_rows mark xs (drop 1 ws) (mark_if mark (bit_at ws 0) t x.dev))
          → mark_rows mark (x ∷ xs) ws ((d, r) ∷ t) ≡ (d, r) ∷ mark_rows mark (x ∷ xs) ws t
      by_test true is n rest = cc
      by_test false is n rest =
          ap (λ (u : List (DevNo × R)). mark_rows mark xs (drop 1 ws) u) (by_bit (bit_at ws 0) (same_both x.dev d ∙ is))
          ∙ rest n

  mark_first : (b : Bool) (d : DevNo) (r : R) (t : List (DevNo × R)) → mark_if mark (one_if b == 1) ((d, r) ∷ t) d ≡ (d, cond b (mark r) r) ∷ t
  mark_first true d r t = change_first mark d r t
  mark_first false d r t = refl

  -- the rows of those that are marked are changed
  marked : (p : DevNo → Bool) (g : DevNo → R) (xs : List DeviceDef) (rest : List ℕ) → HasDistinctDevices xs
      → mark_rows mark xs (table_words begun_words (table_by p xs) rest) (table_by g xs) ≡ table_by (λ d. cond (p d) (mark (g d)) (g d)) xs
  marked p g [] rest own = refl
  marked p g (x ∷ xs) rest own =
      let left = table_words begun_words (table_by p xs) rest in
      let now : R = cond (p x.dev) (mark (g x.dev)) (g x.dev) in
      ap (λ (u : List (DevNo × R)). mark_rows mark xs left u) (mark_first (p x.dev) x.dev (g x.dev) (table_by g xs))
      ∙ (mark_behind xs left x.dev now (table_by g xs) own.0
      ∙ ap (λ (t : List (DevNo × R)). (x.dev, now) ∷ t) (marked p g xs rest own.1))

  table_same : (f g : DevNo → R) → ((d : DevNo) → f d ≡ g d) → (xs : List DeviceDef) → table_by f xs ≡ table_by g xs
  table_same f g same [] = refl
  table_same f g same (x ∷ xs) =
      ap (λ (r : R). (x.dev, r) ∷ table_by f xs) (same x.dev) ∙ ap (λ (t : List (DevNo × R)). (x.dev, g x.dev) ∷ t) (table_same f g same xs)

pub marks_are : (f : DevNo → Bool) (xs : List DeviceDef) (rest : List ℕ) → HasDistinctDevices xs
    → mark_rows (λ _. true) xs (table_words begun_words (table_by f xs) rest) (table_by (λ _. false) xs) ≡ table_by f xs
marks_are f xs rest own =
    marked (λ _. true) f (λ _. false) xs rest own ∙ table_same (λ _. true) (λ d. cond (f d) true false) f (λ d. itself (f d)) xs
  where
    itself : (b : Bool) → cond b true false ≡ b
    itself true = refl
    itself false = refl

-- the words of quiet devices are those of marks
quiet_marks : (h : DevNo → AskRow) (xs : List DeviceDef) (rest : List ℕ)
    → table_words quiet_words (table_by h xs) rest ≡ table_words begun_words (table_by (λ d. (h d).quiet) xs) rest
quiet_marks h [] rest = refl
quiet_marks h (x ∷ xs) rest = ap (λ (m : List ℕ). one_if (h x.dev).quiet ∷ m) (quiet_marks h xs rest)

pub quiet_are : (h : DevNo → AskRow) (xs : List DeviceDef) (rest : List ℕ) → HasDistinctDevices xs
    → mark_rows turned_off xs (table_words quiet_words (table_by h xs) rest) (table_by (λ d. loud (h d)) xs) ≡ table_by h xs
quiet_are h xs rest own =
    ap (λ (m : List ℕ). mark_rows turned_off xs m (table_by (λ d. loud (h d)) xs)) (quiet_marks h xs rest)
    ∙ (marked turned_off (λ d. (h d).quiet) (λ d. loud (h d)) xs rest own
    ∙ table_same turned_off (λ d. cond (h d).quiet (turned_off (loud (h d))) (loud (h d))) h (λ d. itself (h d) (h d).quiet refl) xs)
  where
    itself : (r : AskRow) (b : Bool) → r.quiet ≡ b → cond b (turned_off (loud r)) (loud r) ≡ r
    itself r true is = ap (λ q. record r { quiet = q }) (sym is)
    itself r false is = ap (λ q. record r { quiet = q }) (sym is)

-- no device is quiet
pub loud_are : (h : DevNo → AskRow) (xs : List DeviceDef) → ((d : DevNo) → (h d).quiet ≡ false) → table_by (λ d. loud (h d)) xs ≡ table_by h xs
loud_are h xs none = table_same turned_off (λ d. loud (h d)) h (λ d. ap (λ q. record (h d) { quiet = q }) (sym (none d))) xs
