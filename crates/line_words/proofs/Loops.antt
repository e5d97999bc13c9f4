-- What is left to be written or put from a place on.
use Rattle.std.proofs.Common.{◌≡◌, ℕ, ◌+◌, zero, suc, Bool, true, List, [], ◌∷◌, ◌++◌, Some, None, drop, slice_get, refl, sym, ap, ◌∙◌}
use Rattle.std.proofs.lemmas.List.{append_assoc}
use Rattle.irq_base.specs.declared.devices.DeviceDef.{DeviceDef}
use Rattle.irq_base.specs.declared.numbers.DevNo.{DevNo}
use Rattle.irq_model.proofs.Lists.{next_item}
use Rattle.act_list.specs.declared.actions.Action.{Action}
use Rattle.act_thread.specs.declared.rows.ThreadRow.{ThreadRow}
use Rattle.ask_counts.specs.Rows.{turned_off}
use Rattle.ask_counts.specs.declared.rows.AskRow.{AskRow}
use Rattle.device_table.specs.Rows.{change}
use Rattle.device_table.specs.Sums.{one_if}
use Rattle.run_scripts.specs.declared.rows.RunRow.{RunRow}
use Rattle.line_state.specs.Seen.{LineStateSeen}
use Rattle.line_words.specs.Reading.{mark_if, mark_rows, put_rows, bit_at, thread_in, ask_in, run_in}
use Rattle.line_words.specs.Told.{rows_words}

module _ {X : Type 0} (more : List X → List ℕ) (own : X → List ℕ) (next : (x : X) (xs : List X) → more (x ∷ xs) ≡ own x ++ more xs) where
  -- the item's own numbers were added
  pub written_next : (xs : List X) (i : ℕ) (x : X) → slice_get xs i ≡ Some x → (now after : List ℕ) → after ≡ now ++ own x
      → after ++ more (drop (i + 1) xs) ≡ now ++ more (drop i xs)
  written_next xs i x is now after added =
      ap (λ (m : List ℕ). m ++ more (drop (i + 1) xs)) added
      ∙ (append_assoc now (own x) (more (drop (i + 1) xs))
      ∙ ap (λ (k : List ℕ). now ++ k) (sym (ap more (next_item xs i x is) ∙ next x (drop (i + 1) xs))))

pub rows_next : (words : DevNo → List ℕ → List ℕ) → ((d : DevNo) (rest : List ℕ) → words d rest ≡ words d [] ++ rest) → (xs : List DeviceDef) (i : ℕ)
    (x : DeviceDef) → slice_get xs i ≡ Some x → (now after : List ℕ) → after ≡ now ++ words x.dev []
    → after ++ rows_words words (drop (i + 1) xs) [] ≡ now ++ rows_words words (drop i xs) []
rows_next words flat xs i x is now after added =
    written_next (λ ys. rows_words words ys []) (λ y. words y.dev []) (λ y ys. flat y.dev (rows_words words ys [])) xs i x is now after added

abbrev pub action_words : DevNo × Action → List ℕ
action_words e = e.0.0 ∷ one_if e.1.flags.shared ∷ one_if e.1.flags.oneshot ∷ one_if e.1.flags.noauto ∷ []

pub none_behind : {X : Type 0} (xs : List X) (i : ℕ) → slice_get xs i ≡ None → drop i xs ≡ []
none_behind [] zero h = refl
none_behind [] (suc i) h = refl
none_behind (x ∷ xs) zero h = cc
none_behind (x ∷ xs) (suc i) h = none_behind xs i h

-- ---- rows that are put

abbrev pub with_begun : List (DevNo × Bool) → LineStateSeen → LineStateSeen
with_begun t l = record l { state = record l.state { list = record l.state.list { begun = t } } }

abbrev pub with_threads : List (DevNo × ThreadRow) → LineStateSeen → LineStateSeen
with_threads t l = record l { state = record l.state { threads = t } }

abbrev pub with_asks : List (DevNo × AskRow) → LineStateSeen → LineStateSeen
with_asks t l = record l { state = record l.state { asks = t } }

abbrev pub with_run_rows : List (DevNo × RunRow) → LineStateSeen → LineStateSeen
with_run_rows t l = record l { state = record l.state { places = record l.state.places { rows = t } } }

abbrev pub marks_put : List DeviceDef → List ℕ → LineStateSeen → LineStateSeen
marks_put xs ws l = with_begun (mark_rows (λ _. true) xs ws l.state.list.begun) l

abbrev pub threads_put : List DeviceDef → List ℕ → LineStateSeen → LineStateSeen
threads_put xs ws l = with_threads (put_rows thread_in 3 xs ws l.state.threads) l

abbrev pub asks_put : List DeviceDef → List ℕ → LineStateSeen → LineStateSeen
asks_put xs ws l = with_asks (put_rows ask_in 4 xs ws l.state.asks) l

abbrev pub quiets_put : List DeviceDef → List ℕ → LineStateSeen → LineStateSeen
quiets_put xs ws l = with_asks (mark_rows turned_off xs ws l.state.asks) l

abbrev pub runs_put : List DeviceDef → List ℕ → LineStateSeen → LineStateSeen
runs_put xs ws l = with_run_rows (put_rows run_in 6 xs ws l.state.places.rows) l

module _ (with : List DeviceDef → List ℕ → LineStateSeen → LineStateSeen) (one : DeviceDef → List ℕ → LineStateSeen → LineStateSeen) (width : ℕ)
    (next : (x : DeviceDef) (xs : List DeviceDef) (ws : List ℕ) (l : LineStateSeen) → with (x ∷ xs) ws l ≡ with xs (drop width ws) (one x ws l)) where
  put_next : (xs : List DeviceDef) (i : ℕ) (x : DeviceDef) → slice_get xs i ≡ Some x → (l after : LineStateSeen) (left more : List ℕ)
      → more ≡ drop width left → after ≡ one x left l → with (drop (i + 1) xs) more after ≡ with (drop i xs) left l
  put_next xs i x is l after left more behind put =
      ap (λ (m : List ℕ). with (drop (i + 1) xs) m after) behind
      ∙ (ap (λ (a : LineStateSeen). with (drop (i + 1) xs) (drop width left) a) put
      ∙ sym (ap (λ (ys : List DeviceDef). with ys left l) (next_item xs i x is) ∙ next x (drop (i + 1) xs) left l))

module _ (xs : List DeviceDef) (i : ℕ) (x : DeviceDef) (is : slice_get xs i ≡ Some x) (l after : LineStateSeen) (left more : List ℕ) where
  pub marks_next : more ≡ drop 1 left → after ≡ with_begun (mark_if (λ _. true) (bit_at left 0) l.state.list.begun x.dev) l
      → marks_put (drop (i + 1) xs) more after ≡ marks_put (drop i xs) left l
  marks_next = put_next marks_put (λ y ws k. with_begun (mark_if (λ _. true) (bit_at ws 0) k.state.list.begun y.dev) k) 1
      (λ y ys ws k. refl) xs i x is l after left more

  pub threads_next : more ≡ drop 3 left → after ≡ with_threads (change (λ _. thread_in left) l.state.threads x.dev) l
      → threads_put (drop (i + 1) xs) more after ≡ threads_put (drop i xs) left l
  threads_next = put_next threads_put (λ y ws k. with_threads (change (λ _. thread_in ws) k.state.threads y.dev) k) 3
      (λ y ys ws k. refl) xs i x is l after left more

  pub asks_next : more ≡ drop 4 left → after ≡ with_asks (change (λ _. ask_in left) l.state.asks x.dev) l
      → asks_put (drop (i + 1) xs) more after ≡ asks_put (drop i xs) left l
  asks_next = put_next asks_put (λ y ws k. with_asks (change (λ _. ask_in ws) k.state.asks y.dev) k) 4
      (λ y ys ws k. refl) xs i x is l after left more

  pub quiets_next : more ≡ drop 1 left → after ≡ with_asks (mark_if turned_off (bit_at left 0) l.state.asks x.dev) l
      → quiets_put (drop (i + 1) xs) more after ≡ quiets_put (drop i xs) left l
  quiets_next = put_next quiets_put (λ y ws k. with_asks (mark_if turned_off (bit_at ws 0) k.state.asks y.dev) k) 1
      (λ y ys ws k. refl) xs i x is l after left more

  pub runs_next : more ≡ drop 6 left → after ≡ with_run_rows (change (λ _. run_in left) l.state.places.rows x.dev) l
      → runs_put (drop (i + 1) xs) more after ≡ runs_put (drop i xs) left l
  runs_next = put_next runs_put (λ y ws k. with_run_rows (change (λ _. run_in ws) k.state.places.rows y.dev) k) 6
      (λ y ys ws k. refl) xs i x is l after left more
