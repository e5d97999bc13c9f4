-- What a told device's part answers stands among its words, each used once.
use Rattle.std.proofs.Common.{◌≡◌, ℕ, zero, suc, ◌+◌, ◌-◌, ◌≤◌, min, Bool, true, false, not, ◌||◌, ◌&&◌, cond, Option}
use Rattle.std.proofs.Common.{Some, List, [], ◌∷◌, length, take, slice_get, refl, sym, ap, ◌∙◌, arith}
use Rattle.std.proofs.lemmas.Option.{slice_get_within}
use Rattle.std.specs.List.{list_any}
use Rattle.irq_base.specs.declared.numbers.DevNo.{DevNo}
use Rattle.irq_base.specs.declared.devices.Part.{Part}
use Rattle.irq_base.specs.declared.devices.Part.TheVariants as parts
use Rattle.irq_base.specs.declared.devices.ToldAnswer.{ToldAnswer}
use Rattle.irq_base.specs.declared.lines.LineDef.{LineDef}
use Rattle.irq_base.specs.declared.entries.Entry.{Entry}
use Rattle.irq_base.specs.declared.entries.Entry.TheVariants as by
use Rattle.irq_base.specs.declared.entries.CpuEntry.TheVariants as cpus
use Rattle.irq_base.specs.declared.entries.ThreadEntry.TheVariants as threads
use Rattle.irq_model.specs.Places.{before, count_of}
use Rattle.irq_model.specs.Kinds.{is_begin, is_return, same_dev}
use Rattle.irq_model.specs.Threads.{is_running}
use Rattle.irq_model.specs.Lines.{told_answers}
use Rattle.irq_model.specs.Asks.{begins_run}
use Rattle.irq_model.specs.Reason.{is_called}
use Rattle.irq_model.specs.Runs.{runs_before, told_of}
use Rattle.irq_model.specs.Legal.{IsLegalPast}
use Rattle.irq_laws.proofs.ScriptLaws.{runs_past}
use Rattle.irq_laws.proofs.ImpliesThread.{has_returned}
use Rattle.irq_storms.specs.Judged.{one_if}
use Rattle.irq_storms.proofs.Counting.{count_more}
use Rattle.irq_storms.proofs.ThreadCounts.{returned_since}
use Rattle.irq_storms.proofs.ThreadRuns.{in_run_before}
use Rattle.irq_storms.proofs.Meeting.{is_in, returns_run, not_in_before, has_begun_run, begun_in}

-- ---- counts of a list's beginning

module _ {A : Type 0} (q : A → Bool) where
  count_longer : (m : ℕ) (ws : List A) → count_of q (take m ws) ≤ count_of q (take (suc m) ws)
  count_longer zero ws = omega arith
  count_longer (suc m) [] = omega arith
  count_longer (suc m) (w ∷ ws) = by_test (q w) (count_longer m ws)
    where
      by_test : (b : Bool) → count_of q (take m ws) ≤ count_of q (take (suc m) ws)
          → cond b (count_of q (take m ws) + 1) (count_of q (take m ws)) ≤ cond b (count_of q (take (suc m) ws) + 1) (count_of q (take (suc m) ws))
      by_test true h = omega (arith, h)
      by_test false h = h

  count_one : (m : ℕ) (ws : List A) (w : A) → slice_get ws m ≡ Some w → q w ≡ true → count_of q (take (suc m) ws) ≡ count_of q (take m ws) + 1
  count_one m [] w at is = cc
  count_one zero (x ∷ ws) w at is =
      let same : x ≡ w = the_one x w at in
      ap (λ (b : Bool). cond b (0 + 1) 0) (ap q same ∙ is)
    where
      the_one : (x w : A) → ◌≡◌ {A = Option A} (Some x) (Some w) → x ≡ w
      the_one x w h = cc
  count_one (suc m) (x ∷ ws) w at is = by_test (q x) (count_one m ws w at is)
    where
      by_test : (b : Bool) → count_of q (take (suc m) ws) ≡ count_of q (take m ws) + 1
          → cond b (count_of q (take (suc m) ws) + 1) (count_of q (take (suc m) ws)) ≡ cond b (count_of q (take m ws) + 1) (count_of q (take m ws)) + 1
      by_test true h = omega (arith, h)
      by_test false h = h

  count_taken : (m : ℕ) (ws : List A) → count_of q (take m ws) ≤ count_of q ws
  count_taken zero ws = omega arith
  count_taken (suc m) [] = omega arith
  count_taken (suc m) (w ∷ ws) = by_test (q w) (count_taken m ws)
    where
      by_test : (b : Bool) → count_of q (take m ws) ≤ count_of q ws
          → cond b (count_of q (take m ws) + 1) (count_of q (take m ws)) ≤ cond b (count_of q ws + 1) (count_of q ws)
      by_test true h = omega (arith, h)
      by_test false h = h

at_least : {A : Type 0} (ws : List A) (m : ℕ) (w : A) → slice_get ws (min m (length ws)) ≡ Some w → slice_get ws m ≡ Some w
at_least ws m w h =
    let within = slice_get_within ws (min m (length ws)) w h in
    let same : m ≡ min m (length ws) = omega (arith, within) in
    ap (slice_get ws) same ∙ h

-- ---- runs

begun_before : (b : Entry → Bool) (past : List Entry) → list_any b past ≡ true → count_of b past ≡ count_of b (before b past) + 1
begun_before b [] h = cc
begun_before b (e ∷ past) h = by_test (b e) h (begun_before b past)
  where
    by_test : (c : Bool) → (c || list_any b past) ≡ true → (list_any b past ≡ true → count_of b past ≡ count_of b (before b past) + 1)
        → cond c (count_of b past + 1) (count_of b past) ≡ count_of b (cond c past (before b past)) + 1
    by_test true h deeper = refl
    by_test false h deeper = deeper h

-- a run that returns isn't there any more
pub not_in_after : (p : Part) (d : DevNo) (e : Entry) (past : List Entry) → returns_run p d e ≡ true → is_in p d (e ∷ past) ≡ false
not_in_after parts.Primary d (by.Cpu c (cpus.Return answer x n)) past h = ap (λ (s : Bool). false || (not s && is_called past d)) h
not_in_after parts.Primary d e past h = cc
not_in_after parts.Thread d (by.Thread x (threads.Return handled n)) past h =
    ap (λ (u : Bool). is_running (by.Thread x (threads.Return handled n) ∷ past) d && not u) (returned_since d (by.Thread x (threads.Return handled n)) past)
    ∙ none (is_running (by.Thread x (threads.Return handled n) ∷ past) d) (same_dev d x) (has_returned past d) h
  where
    none : (r t u : Bool) → t ≡ true → (r && not (cond false false (t || u))) ≡ false
    none r t u i = grind arith
not_in_after parts.Thread d e past h = cc

pub in_before : (p : Part) (d : DevNo) (e : Entry) (past : List Entry) → begins_run p d e ≡ false → is_in p d (e ∷ past) ≡ true → is_in p d past ≡ true
in_before parts.Primary d e past other h = by_tests (is_begin d e) (is_return d e) (is_called past d) other h
  where
    by_tests : (b r k : Bool) → b ≡ false → (b || (not r && k)) ≡ true → k ≡ true
    by_tests b r k i h = grind arith
in_before parts.Thread d e past other h = in_run_before d e past other h

-- a test that tells of a return what the board's word was
module _ (def : LineDef) (p : Part) (d : DevNo) (q : ToldAnswer → Bool) (tells : Entry → Bool)
    (returns : (e : Entry) → tells e ≡ true → returns_run p d e ≡ true) (begins : (e : Entry) → begins_run p d e ≡ true → tells e ≡ false)
    (there : (e : Entry) (past : List Entry) → IsLegalPast def (e ∷ past) → tells e ≡ true
    → (is_in p d past ≡ true) × (w : ToldAnswer) × (told_of def p d past ≡ Some w) × (q w ≡ true)) where
  abbrev words : List ToldAnswer
  words = told_answers def d p

  abbrev over : List Entry → ℕ
  over past = count_of (begins_run p d) past - one_if (is_in p d past)

  abbrev used : List Entry → ℕ
  used past = count_of q (take (over past) words)

  -- the word of a run that returns is the next one
  next_word : (e : Entry) (past : List Entry) → IsLegalPast def (e ∷ past) → begins_run p d e ≡ false → tells e ≡ true → used (e ∷ past) ≡ used past + 1
  next_word e past legal other tell =
      let t = there e past legal tell in
      let begun = begun_before (begins_run p d) past (has_begun_run p d past t.0) in
      let is : one_if (is_in p d past) ≡ 1 = ap one_if t.0 in
      let after : one_if (is_in p d (e ∷ past)) ≡ 0 = ap one_if (not_in_after p d e past (returns e tell)) in
      let same : count_of (begins_run p d) (e ∷ past) ≡ count_of (begins_run p d) past =
      ap (λ (b : Bool). cond b (count_of (begins_run p d) past + 1) (count_of (begins_run p d) past)) other in
      let now : over (e ∷ past) ≡ suc (runs_before p d past) = omega (arith, same, after, begun) in
      let was : over past ≡ runs_before p d past = omega (arith, is, begun) in
      ap (λ (n : ℕ). count_of q (take n words)) now
      ∙ count_one q (runs_before p d past) words t.1 (at_least words (runs_before p d past) t.1 t.2) t.3
      ∙ ap (λ (n : ℕ). count_of q (take n words) + 1) (sym was)

  longer : (m n : ℕ) → m ≡ n → count_of q (take m words) ≤ count_of q (take n words)
  longer m n same = let s : count_of q (take m words) ≡ count_of q (take n words) = ap (λ (k : ℕ). count_of q (take k words)) same in omega (arith, s)

  one_longer : (m n : ℕ) → n ≡ suc m → count_of q (take m words) ≤ count_of q (take n words)
  one_longer m n same =
      let s : count_of q (take n words) ≡ count_of q (take (suc m) words) = ap (λ (k : ℕ). count_of q (take k words)) same in
      let l = count_longer q m words in
      omega (arith, s, l)

  told_more : (e : Entry) (past : List Entry) → IsLegalPast def (e ∷ past) → one_if (tells e) + used past ≤ used (e ∷ past)
  told_more e past legal = by_tests (begins_run p d e) (tells e) refl refl
    where
      later : (g : Bool) → begins_run p d e ≡ g → (a b : Bool) → is_in p d (e ∷ past) ≡ a → is_in p d past ≡ b → (g ≡ false → a ≡ true → b ≡ true)
          → (g ≡ true → a ≡ true) → (g ≡ true → b ≡ false)
          → count_of q (take (count_of (begins_run p d) past - one_if b) words)
          ≤ count_of q (take (cond g (count_of (begins_run p d) past + 1) (count_of (begins_run p d) past) - one_if a) words)
      later true ig true false ia ib i j k = longer _ _ (omega arith)
      later true ig true true ia ib i j k = let n = k refl in cc
      later true ig false b ia ib i j k = let n = j refl in cc
      later false ig true true ia ib i j k = omega arith
      later false ig false false ia ib i j k = omega arith
      later false ig true false ia ib i j k = let n = i refl refl in cc
      later false ig false true ia ib i j k =
          let begun = begun_before (begins_run p d) past (has_begun_run p d past ib) in
          one_longer _ _ (omega (arith, begun))

      by_tests : (g t : Bool) → begins_run p d e ≡ g → tells e ≡ t → one_if (tells e) + used past ≤ used (e ∷ past)
      by_tests false true ig it = let n = next_word e past legal ig it in let o : one_if (tells e) ≡ 1 = ap one_if it in omega (arith, n, o)
      by_tests g false ig it =
          let o : one_if (tells e) ≡ 0 = ap one_if it in
          let l = later (begins_run p d e) refl (is_in p d (e ∷ past)) (is_in p d past) refl refl (in_before p d e past) (begun_in p d e past)
          (not_in_before def p d e past (runs_past def past legal.1) legal.0) in
          omega (arith, o, l)
      by_tests true true ig it = let n = begins e ig in let z = sym it ∙ n in cc

  used_all : (past : List Entry) → IsLegalPast def past → count_of tells past ≤ used past
  used_all [] legal = omega arith
  used_all (e ∷ past) legal =
      let r = used_all past legal.1 in
      let m = count_more tells e past in
      let t = told_more e past legal in
      omega (arith, r, m, t)

  pub told_counted : (past : List Entry) → IsLegalPast def past → count_of tells past ≤ count_of q words
  told_counted past legal = let u = used_all past legal in let t = count_taken q (over past) words in omega (arith, u, t)
