-- All numbers of a state, one part after another.
use Rattle.std.proofs.Common.{◌≡◌, ℕ, Bool, true, false, List, [], ◌∷◌, ◌++◌, Result, Ok, Err, refl, sym, ap, ◌∙◌}
use Rattle.std.specs.Prelude.{IfOk, OnOk}
use Rattle.std.proofs.lemmas.List.{append_assoc}
use Rattle.irq_base.specs.declared.devices.DeviceDef.{DeviceDef}
use Rattle.irq_base.specs.declared.lines.LineDef.{LineDef}
use Rattle.irq_base.specs.declared.numbers.DevNo.{DevNo}
use Rattle.irq_base.specs.declared.numbers.DriverNo.{DriverNo}
use Rattle.act_list.specs.Lists.{flags_of}
use Rattle.line_scripts.specs.Rows.{RowSeen, place_of}
use Rattle.line_marks.specs.Next.{due_call_in}
use Rattle.line_marks.specs.State.{StateSeen}
use Rattle.line_futures.proofs.Actions.{flags_same}
use Rattle.line_futures.specs.Canon.{canon}
use Rattle.line_futures.specs.Places.{count_in}
use Rattle.line_words.specs.Told.{rows_words, begun_told, thread_told, ask_told, quiet_told, run_told, more_told, places_told, state_told}
use Rattle.line_words.specs.Words.{place_words, desc_words, round_words, freeing_words, linked_words}

pub if_ok : {A E P Q : Type 0} (r : Result A E) → (P → Q) → OnOk r P → OnOk r Q
if_ok (Ok a) f h = f h
if_ok (Err e) f h = tt

pub if_result : {A E : Type 0} {P Q : A → Type 0} (r : Result A E) → ((a : A) → P a → Q a) → IfOk r P → IfOk r Q
if_result (Ok a) f h = f a h
if_result (Err e) f h = tt

rows_flat : (words : DevNo → List ℕ → List ℕ) → ((d : DevNo) (rest : List ℕ) → words d rest ≡ words d [] ++ rest) → (xs : List DeviceDef) (rest : List ℕ)
    → rows_words words xs rest ≡ rows_words words xs [] ++ rest
rows_flat words flat [] rest = refl
rows_flat words flat (x ∷ xs) rest =
    flat x.dev (rows_words words xs rest)
    ∙ (ap (λ (m : List ℕ). words x.dev [] ++ m) (rows_flat words flat xs rest)
    ∙ (sym (append_assoc (words x.dev []) (rows_words words xs []) rest)
    ∙ ap (λ (m : List ℕ). m ++ rest) (sym (flat x.dev (rows_words words xs [])))))

places_flat : (scripts : List (DriverNo × RowSeen)) (rs : List DriverNo) (rest : List ℕ) → places_told scripts rs rest ≡ places_told scripts rs [] ++ rest
places_flat scripts [] rest = refl
places_flat scripts (r ∷ rs) rest =
    ap (λ (m : List ℕ). place_of scripts r ∷ count_in (due_call_in scripts r) ∷ m) (places_flat scripts rs rest)

-- one more part
then : (old new part rest all : List ℕ) → new ≡ old ++ part → all ≡ part ++ rest → new ++ rest ≡ old ++ all
then old new part rest all added is = ap (λ (m : List ℕ). m ++ rest) added ∙ (append_assoc old part rest ∙ ap (λ (m : List ℕ). old ++ m) (sym is))

more_flat : (more : Bool) (def : LineDef) (s : StateSeen) (rest : List ℕ) → more_told more def s rest ≡ more_told more def s [] ++ rest
more_flat false def s rest = refl
more_flat true def s rest =
    let runs : List ℕ = rows_words (run_told s) def.devices [] in
    ap (λ (m : List ℕ). place_words s.places.work m)
    (ap (λ (m : List ℕ). rows_words (quiet_told s) def.devices m) (rows_flat (run_told s) (λ d rest. refl) def.devices rest)
    ∙ (rows_flat (quiet_told s) (λ d rest. refl) def.devices (runs ++ rest)
    ∙ (sym (append_assoc (rows_words (quiet_told s) def.devices []) runs rest)
    ∙ ap (λ (m : List ℕ). m ++ rest) (sym (rows_flat (quiet_told s) (λ d rest. refl) def.devices runs)))))

-- how far the handler is, which devices are quiet, and the runs, one after another
pub more_written : (def : LineDef) (s : StateSeen) (w0 w1 w2 w3 : List ℕ) → w1 ≡ w0 ++ place_words s.places.work []
    → w2 ≡ w1 ++ rows_words (quiet_told s) def.devices [] → w3 ≡ w2 ++ rows_words (run_told s) def.devices [] → w3 ≡ w0 ++ more_told true def s []
more_written def s w0 w1 w2 w3 a b c =
    let runs : List ℕ = rows_words (run_told s) def.devices [] in
    let quiets : List ℕ = rows_words (quiet_told s) def.devices runs in
    c ∙ (then w1 w2 (rows_words (quiet_told s) def.devices []) runs quiets b (rows_flat (quiet_told s) (λ d rest. refl) def.devices runs)
    ∙ then w0 w1 (place_words s.places.work []) quiets (place_words s.places.work quiets) a refl)

module _ (def : LineDef) (more : Bool) (state : StateSeen) (scripts : List (DriverNo × RowSeen)) (rs : List DriverNo) where
  abbrev s : StateSeen
  s = canon state

  abbrev linked : List ℕ
  linked = linked_words (flags_of (canon state).list.actions)

  abbrev from_places : List ℕ
  from_places = places_told scripts rs linked

  abbrev from_more : List ℕ
  from_more = more_told more def (canon state) from_places

  abbrev from_asks : List ℕ
  from_asks = rows_words (ask_told (canon state)) def.devices from_more

  abbrev from_threads : List ℕ
  from_threads = rows_words (thread_told (canon state)) def.devices from_asks

  abbrev from_begun : List ℕ
  from_begun = rows_words (begun_told (canon state)) def.devices from_threads

  pub all_written : (w0 w1 w2 w3 w4 w5 w6 wm w7 w8 : List ℕ) → w1 ≡ w0 ++ desc_words (canon state) [] → w2 ≡ w1 ++ round_words (canon state) []
      → w3 ≡ w2 ++ freeing_words (canon state).freeing [] → w4 ≡ w3 ++ rows_words (begun_told (canon state)) def.devices []
      → w5 ≡ w4 ++ rows_words (thread_told (canon state)) def.devices [] → w6 ≡ w5 ++ rows_words (ask_told (canon state)) def.devices []
      → wm ≡ w6 ++ more_told more def (canon state) []
      → w7 ≡ wm ++ places_told scripts rs [] → w8 ≡ w7 ++ linked_words (flags_of state.list.actions)
      → w8 ≡ w0 ++ state_told more def (canon state) (places_told scripts rs)
  all_written w0 w1 w2 w3 w4 w5 w6 wm w7 w8 d r f b t a m p l =
      (l ∙ ap (λ fl. w7 ++ linked_words fl) (sym (flags_same state.list.actions)))
      ∙ (then wm w7 (places_told scripts rs []) linked from_places p (places_flat scripts rs linked)
      ∙ (then w6 wm (more_told more def (canon state) []) from_places from_more m (more_flat more def (canon state) from_places)
      ∙ (then w5 w6 (rows_words (ask_told (canon state)) def.devices []) from_more from_asks a
      (rows_flat (ask_told (canon state)) (λ x rest. refl) def.devices from_more)
      ∙ (then w4 w5 (rows_words (thread_told (canon state)) def.devices []) from_asks from_threads t
      (rows_flat (thread_told (canon state)) (λ x rest. refl) def.devices from_asks)
      ∙ (then w3 w4 (rows_words (begun_told (canon state)) def.devices []) from_threads from_begun b
      (rows_flat (begun_told (canon state)) (λ x rest. refl) def.devices from_threads)
      ∙ (then w2 w3 (freeing_words (canon state).freeing []) from_begun (freeing_words (canon state).freeing from_begun) f refl
      ∙ (then w1 w2 (round_words (canon state) []) (freeing_words (canon state).freeing from_begun)
      (round_words (canon state) (freeing_words (canon state).freeing from_begun)) r refl
      ∙ then w0 w1 (desc_words (canon state) []) (round_words (canon state) (freeing_words (canon state).freeing from_begun))
      (desc_words (canon state) (round_words (canon state) (freeing_words (canon state).freeing from_begun))) d refl)))))))
