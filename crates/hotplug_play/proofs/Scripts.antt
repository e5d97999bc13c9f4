-- The scripts of a planned board: driver 65535's calls on a line are its moves, and no other call moves it.
use Rattle.std.proofs.Common.{◌≡◌, ◌≢◌, ℕ, zero, suc, ◌+◌, ◌-◌, ◌<◌, ◌≤◌, ◌==◌, ◌^◌, ◌⊎◌, inl, inr, Bool, true, false, cond, Some, is_some}
use Rattle.std.proofs.Common.{List, [], ◌∷◌, ◌++◌, map, filter, length, get_or, All, refl, ap, ◌∙◌, sym, subst, arith}
use Rattle.std.specs.List.{slice_get}
use Rattle.std.proofs.lemmas.Bool.{false≢true}
use Rattle.std.proofs.lemmas.List.Elements.{All-append, All-filter, All-map}
use Rattle.std.proofs.lemmas.List.Folds.{list_any_at}
use Rattle.std.proofs.lemmas.Nat.Bits.{bit_at-pow_same, bit_at-pow_other}
use Rattle.std.proofs.lemmas.Option.{get_or_from_slice_get, slice_get-get_or, slice_get_within}
use Rattle.board_def.proofs.Rising.{head_of, tail_of, all_of}
use Rattle.board_def.specs.LineOf.{line_of_row, with_driver}
use Rattle.board_def.specs.Rules.{IsBoard, has_driver}
use Rattle.board_def.specs.Seen.{BoardSeen}
use Rattle.board_def.specs.declared.rows.LineRow.{LineRow}
use Rattle.board_def.specs.declared.rows.ScriptCall.{ScriptCall}
use Rattle.board_driver.specs.Longer.{by_last, last_driver}
use Rattle.board_driver.specs.declared.adding.LineCall.{LineCall}
use Rattle.irq_base.specs.declared.calls.Call.{Call}
use Rattle.irq_base.specs.declared.calls.Call.TheVariants as calls
use Rattle.irq_base.specs.declared.numbers.DriverNo.{DriverNo}
use Rattle.irq_base.specs.declared.numbers.LineNo.{LineNo}
use Rattle.irq_model.specs.Due.{calls_by}
use Rattle.irq_model.specs.Kinds.{same_driver}
use Rattle.irq_model.specs.Lines.{is_in_mask}
use Rattle.irq_model.specs.Signal.{lowest_from, lowest_in}
use Rattle.irq_model.proofs.Lowest.{lowest_here, lowest_past}
use Rattle.irq_model.proofs.Same.{driver_from_same, same_self_driver}
use Rattle.irq_hotplug.specs.Fleet.{FleetSeen}
use Rattle.irq_hotplug.specs.declared.rows.FleetRow.{FleetRow}
use Rattle.irq_hotplug.specs.declared.rows.FleetRow.TheVariants as rows
use Rattle.hotplug_plan.specs.Planned.{IsForHotplug, is_affinity, move_of, moves_a_line, moves_later, moves_of, planned}
use Rattle.hotplug_play.specs.Moments.{IsPlacing}
use Rattle.hotplug_play.proofs.Aiming.{target_after}
use Rattle.hotplug_play.proofs.Moving.{Fits, IsMovedBy, IsNoMove, last_mask}

-- ---- the lowest processor of a mask with one

in_power : (c : ℕ) → is_in_mask (2 ^ c) c ≡ true
in_power c = ap (λ n. n == 1) (bit_at-pow_same c)

out_of_power : (c d : ℕ) → d ≢ c → is_in_mask (2 ^ c) d ≡ false
out_of_power c d other = ap (λ n. n == 1) (bit_at-pow_other c d other)

lowest_up : (k c n : ℕ) → k ≤ c → c < n → lowest_from (2 ^ c) (c - k) (n - (c - k)) ≡ Some (record { 0 = c })
lowest_up zero c n within lt =
    let none : c - 0 ≡ c = omega arith in ap (λ m. lowest_from (2 ^ c) m (n - m)) none ∙ lowest_here (2 ^ c) c n lt (in_power c)
lowest_up (suc k) c n within lt =
    let next : c - suc k + 1 ≡ c - k = omega (arith, within) in
    let other : c - suc k ≢ c = omega (arith, within) in
    lowest_past (2 ^ c) (c - suc k) n (omega (arith, lt)) (out_of_power c (c - suc k) other)
    ∙ ap (λ m. lowest_from (2 ^ c) m (n - m)) next ∙ lowest_up k c n (omega (arith, within)) lt

pub lowest_of_power : (cpus c : ℕ) → c < cpus → lowest_in cpus (2 ^ c) ≡ Some (record { 0 = c })
lowest_of_power cpus c lt =
    let none : c - c ≡ 0 = omega arith in
    let all : cpus ≡ cpus - 0 = omega arith in
    ap (lowest_from (2 ^ c) 0) all ∙ ap (λ m. lowest_from (2 ^ c) m (cpus - m)) (sym none) ∙ lowest_up c c cpus (omega arith) lt

-- ---- the calls of driver 65535 on a line

abbrev pub calls_on : LineNo → List LineCall → List Call
calls_on line [] = []
calls_on line (c ∷ cs) = cond (c.line.0 == line.0) (c.call ∷ calls_on line cs) (calls_on line cs)

abbrev IsOfAnother : ScriptCall → Type 0
IsOfAnother c = same_driver last_driver c.driver ≡ false

abbrev script : LineNo → List ScriptCall → List (DriverNo × Call)
script line cs = map with_driver (filter (λ c. c.line.0 == line.0) cs)

others_first : (line : LineNo) (xs ys : List ScriptCall) → All IsOfAnother xs
    → calls_by last_driver (script line (xs ++ ys)) ≡ calls_by last_driver (script line ys)
others_first line [] ys others = refl
others_first line (x ∷ xs) ys others = by (others_first line xs ys (tail_of IsOfAnother x xs others)) (x.line.0 == line.0)
  where
    by : calls_by last_driver (script line (xs ++ ys)) ≡ calls_by last_driver (script line ys) → (t : Bool)
        → calls_by last_driver (map with_driver (cond t (x ∷ filter (λ c. c.line.0 == line.0) (xs ++ ys)) (filter (λ c. c.line.0 == line.0) (xs ++ ys))))
        ≡ calls_by last_driver (script line ys)
    by rest true = ap (λ t. cond t (x.call ∷ calls_by last_driver (script line (xs ++ ys))) (calls_by last_driver (script line (xs ++ ys))))
        (head_of IsOfAnother x xs others) ∙ rest
    by rest false = rest

own_then : (line : LineNo) (ms : List LineCall) → calls_by last_driver (script line (map by_last ms)) ≡ calls_on line ms
own_then line [] = refl
own_then line (m ∷ ms) = by (own_then line ms) (m.line.0 == line.0)
  where
    left : List ScriptCall
    left = filter (λ c. c.line.0 == line.0) (map by_last ms)

    by : calls_by last_driver (map with_driver left) ≡ calls_on line ms → (t : Bool)
        → calls_by last_driver (map with_driver (cond t (by_last m ∷ left) left)) ≡ cond t (m.call ∷ calls_on line ms) (calls_on line ms)
    by rest true = ap (λ t. cond t (m.call ∷ calls_by last_driver (map with_driver left)) (calls_by last_driver (map with_driver left)))
        (same_self_driver last_driver) ∙ ap (λ cs. m.call ∷ cs) rest
    by rest false = rest

-- ---- what they put in force

-- the last mask is that of the processor that the rows name last
pub mask_aims : (b : BoardSeen) (line : LineNo) (m : ℕ) (said : List FleetRow) → All (IsPlacing b) said
    → lowest_in b.cpus (last_mask m (calls_on line (moves_of said))) ≡ target_after line (lowest_in b.cpus m) said
mask_aims b line m [] all = refl
mask_aims b line m (rows.Placed l v queues queue true ∷ said) all =
    by (λ n. mask_aims b line n said (tail_of (IsPlacing b) (rows.Placed l v queues queue true) said all)) (l.0 == line.0)
  where
    here : lowest_in b.cpus (2 ^ v.cpu.0) ≡ Some v.cpu
    here = lowest_of_power b.cpus v.cpu.0 (head_of (IsPlacing b) (rows.Placed l v queues queue true) said all).0

    by : ((n : ℕ) → lowest_in b.cpus (last_mask n (calls_on line (moves_of said))) ≡ target_after line (lowest_in b.cpus n) said) → (t : Bool)
        → lowest_in b.cpus (last_mask m (cond t (calls.Affinity (2 ^ v.cpu.0) ∷ calls_on line (moves_of said)) (calls_on line (moves_of said))))
        ≡ target_after line (cond t (Some v.cpu) (lowest_in b.cpus m)) said
    by rest true = rest (2 ^ v.cpu.0) ∙ ap (λ t. target_after line t said) here
    by rest false = rest m
mask_aims b line m (rows.Placed l v queues queue false ∷ said) all
    = mask_aims b line m said (tail_of (IsPlacing b) (rows.Placed l v queues queue false) said all)
mask_aims b line m (row ∷ said) all = mask_aims b line m said (tail_of (IsPlacing b) row said all)

-- ---- no other call moves a line

-- the call is a move of driver 65535, or no move of another
abbrev IsScripted : ℕ → DriverNo × Call → Type 0
IsScripted cpus p = ((same_driver last_driver p.0 ≡ true) × Fits cpus p.1) ⊎ ((same_driver last_driver p.0 ≡ false) × IsNoMove p.1)

own_calls : (cpus : ℕ) (cs : List (DriverNo × Call)) → All (IsScripted cpus) cs → All (Fits cpus) (calls_by last_driver cs)
own_calls cpus [] all = λ k d h. absurd (omega arith)
own_calls cpus (c ∷ cs) all = by (own_calls cpus cs (tail_of (IsScripted cpus) c cs all)) (head_of (IsScripted cpus) c cs all)
  where
    by : All (Fits cpus) (calls_by last_driver cs) → IsScripted cpus c
        → All (Fits cpus) (cond (same_driver last_driver c.0) (c.1 ∷ calls_by last_driver cs) (calls_by last_driver cs))
    by rest (inl own) =
        subst (λ t. All (Fits cpus) (cond t (c.1 ∷ calls_by last_driver cs) (calls_by last_driver cs))) (sym own.0)
        (all_of (Fits cpus) c.1 (calls_by last_driver cs) own.1 rest)
    by rest (inr other) = subst (λ t. All (Fits cpus) (cond t (c.1 ∷ calls_by last_driver cs) (calls_by last_driver cs))) (sym other.0) rest

other_calls : (cpus : ℕ) (s : DriverNo) → same_driver last_driver s ≡ false → (cs : List (DriverNo × Call)) → All (IsScripted cpus) cs
    → All IsNoMove (calls_by s cs)
other_calls cpus s other [] all = λ k d h. absurd (omega arith)
other_calls cpus s other (c ∷ cs) all =
    by (other_calls cpus s other cs (tail_of (IsScripted cpus) c cs all)) (same_driver s c.0) refl (head_of (IsScripted cpus) c cs all)
  where
    by : All IsNoMove (calls_by s cs) → (t : Bool) → same_driver s c.0 ≡ t → IsScripted cpus c → All IsNoMove (cond t (c.1 ∷ calls_by s cs) (calls_by s cs))
    by rest true same (inl own) = absurd (false≢true (sym other ∙ ap (same_driver last_driver) (driver_from_same s c.0 same) ∙ own.0))
    by rest true same (inr none) = all_of IsNoMove c.1 (calls_by s cs) none.1 rest
    by rest false same is = rest

module _ (b : BoardSeen) (isb : IsBoard b) (fits : IsForHotplug b) where
  not_last : (c : ScriptCall) → has_driver b.drivers c.driver ≡ true → IsOfAnother c
  not_last c declared = by (same_driver last_driver c.driver) refl
    where
      by : (t : Bool) → same_driver last_driver c.driver ≡ t → t ≡ false
      by true same =
          absurd (false≢true (sym fits.driver ∙ ap (has_driver b.drivers) (driver_from_same last_driver c.driver same) ∙ declared))
      by false other = refl

  no_move : (k : ℕ) (d : ScriptCall) → k < length b.calls → is_affinity (get_or b.calls k d).call ≡ false
  no_move k d h = by (moves_a_line (get_or b.calls k d)) refl
    where
      by : (t : Bool) → moves_a_line (get_or b.calls k d) ≡ t → t ≡ false
      by true is = absurd (false≢true (sym fits.stays ∙ list_any_at moves_a_line b.calls k d h is))
      by false is = refl

  others : All IsOfAnother b.calls
  others k d h = not_last (get_or b.calls k d) (isb.calls k (get_or b.calls k d) (slice_get-get_or b.calls k d h)).driver

  scripted_board : All (λ c. IsScripted b.cpus (with_driver c)) b.calls
  scripted_board k d h = inr (others k d h, no_move k d h)

  scripted_move : (row : FleetRow) → IsPlacing b row → All (λ c. IsScripted b.cpus (with_driver (by_last c))) (move_of row)
  scripted_move (rows.Placed line v queues queue true) is =
      all_of (λ c. IsScripted b.cpus (with_driver (by_last c))) (record { line = line; call = calls.Affinity (2 ^ v.cpu.0) }) []
      (inl (same_self_driver last_driver, ap is_some (lowest_of_power b.cpus v.cpu.0 is.0))) (λ k d h. absurd (omega arith))
  scripted_move (rows.Placed line v queues queue false) is = λ k d h. absurd (omega arith)
  scripted_move row is = λ k d h. absurd (omega arith)

  scripted_moves : (said : List FleetRow) → All (IsPlacing b) said → All (λ c. IsScripted b.cpus (with_driver (by_last c))) (moves_of said)
  scripted_moves [] all = λ k d h. absurd (omega arith)
  scripted_moves (row ∷ said) all =
      All-append (λ c. IsScripted b.cpus (with_driver (by_last c))) (move_of row) (moves_of said)
      (scripted_move row (head_of (IsPlacing b) row said all)) (scripted_moves said (tail_of (IsPlacing b) row said all))

  scripted : (f : FleetSeen) (row : LineRow) → All (IsPlacing b) f.said → All (IsScripted b.cpus) (line_of_row (planned b f) row).calls
  scripted f row all =
      All-map (IsScripted b.cpus) with_driver (filter (λ c. c.line.0 == row.line.0) (b.calls ++ map by_last (moves_of f.said)))
      (All-filter (λ c. c.line.0 == row.line.0) (λ c. IsScripted b.cpus (with_driver c)) (b.calls ++ map by_last (moves_of f.said))
      (All-append (λ c. IsScripted b.cpus (with_driver c)) b.calls (map by_last (moves_of f.said)) scripted_board
      (All-map (λ c. IsScripted b.cpus (with_driver c)) by_last (moves_of f.said) (scripted_moves f.said all))))

  at_once : (i : ℕ) (row : LineRow) → slice_get b.lines i ≡ Some row → row.later ≡ false
  at_once i row at = by row.later refl
    where
      lt : i < length b.lines
      lt = slice_get_within b.lines i row at

      by : (t : Bool) → row.later ≡ t → t ≡ false
      by true is =
          absurd (false≢true (sym fits.at_once
          ∙ list_any_at moves_later b.lines i row lt (ap moves_later (get_or_from_slice_get b.lines i row row at) ∙ is)))
      by false is = refl

  -- driver 65535 moves each line of the planned board, and no other driver does
  pub moved_by_last : (f : FleetSeen) (i : ℕ) (row : LineRow) → slice_get b.lines i ≡ Some row → All (IsPlacing b) f.said
      → IsMovedBy (line_of_row (planned b f) row) last_driver
  moved_by_last f i row at all =
      let calls = (line_of_row (planned b f) row).calls in
      record {
        own = own_calls b.cpus calls (scripted f row all);
        others = λ s other. other_calls b.cpus s other calls (scripted f row all);
        at_once = at_once i row at;
      }

  -- its calls on the line are the line's moves
  pub moves_by_last : (f : FleetSeen) (row : LineRow)
      → calls_by last_driver (line_of_row (planned b f) row).calls ≡ calls_on row.line (moves_of f.said)
  moves_by_last f row = others_first row.line b.calls (map by_last (moves_of f.said)) others ∙ own_then row.line (moves_of f.said)
