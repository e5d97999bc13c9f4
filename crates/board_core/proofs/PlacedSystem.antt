-- A system whose scripts are placed after what its lines tell.
use Rattle.std.proofs.Common.{◌≡◌, ℕ, zero, suc, ◌+◌, ◌≤◌, max, IsSomeAnd, Option, Some, None, List}
use Rattle.std.proofs.Common.{map, length, slice_get, refl, sym, ap}
use Rattle.std.proofs.Common.{◌∙◌, subst, arith}
use Rattle.std.specs.List.{sum_by}
use Rattle.std.proofs.Math.ListN.{length-map}
use Rattle.std.proofs.lemmas.Option.{slice_get_within}
use Rattle.irq_base.specs.declared.calls.Call.{Call}
use Rattle.irq_base.specs.declared.lines.LineDef.{LineDef}
use Rattle.irq_base.specs.declared.numbers.DriverNo.{DriverNo}
use Rattle.irq_line.specs.Seen.{LineSeen}
use Rattle.irq_model.specs.Due.{due_call}
use Rattle.irq_laws.proofs.Chosen.{the_same}
use Rattle.board_def.specs.Rules.{IsBoard}
use Rattle.board_def.specs.Seen.{BoardSeen}
use Rattle.board_def.specs.declared.rows.ScriptCall.{ScriptCall}
use Rattle.board_play.specs.Kept.{IsCallOn, IsUpTo, AreKept}
use Rattle.board_play.specs.Lines.{BoardLine, defs_of}
use Rattle.board_play.proofs.KeptAlways.{apart_kept}
use Rattle.board_play.proofs.Listed.{def_at}
use Rattle.board_play.proofs.Members.{AreApart}
use Rattle.board_play.proofs.OfBoard.{has_calls}
use Rattle.board_play.proofs.Parts.{the_line}
use Rattle.board_core.specs.Inside.{drivers_of, IsSystem}
use Rattle.board_core.specs.Making.{IsCut, AreNewScripts, AreSound}
use Rattle.board_core.specs.Numbers.{numbers_of_defs, numbers_of_lines}
use Rattle.board_core.specs.Placing.{completed_on, made_of, made_on, most_made, placed, ArePlaced, HaveRoom}
use Rattle.board_core.specs.Scripts.{ScriptSeen, cut, calls_of, IsScript}
use Rattle.board_core.specs.Seen.{board_lines}
use Rattle.board_core.specs.declared.scripts.PlacedCall.{PlacedCall}
use Rattle.board_core.proofs.CutCounts.{kept, kept_few, complete_all, cut_up_to}
use Rattle.board_core.proofs.Few.{few_lines}
use Rattle.board_core.proofs.InSystem.{numbers_are}
use Rattle.board_core.proofs.MadeOf.{all_taken, number_back}
use Rattle.board_core.proofs.ScriptLaws.{HaveCalls, call_there, due_there}
use Rattle.board_core.proofs.Searches.{there}
use Rattle.board_core.proofs.Placed.{most_at_most, at_most}

module _ {board : BoardSeen} (isb : IsBoard board) (lines : List LineSeen) (k : AreKept board (board_lines lines)) where
  apart : AreApart (map (λ (x : BoardLine). x.def) (board_lines lines))
  apart = apart_kept board isb (board_lines lines) k

  have : HaveCalls board.calls (board_lines lines)
  have i x at = has_calls board i x.def (def_at board (board_lines lines) k i x at)

  pub kept_numbers : numbers_of_lines lines ≡ numbers_of_defs (defs_of board)
  kept_numbers = numbers_are lines ∙ ap (λ (ds : List LineDef). numbers_of_defs ds) k.defs

  pub kept_few_lines : length lines ≤ 64
  kept_few_lines = few_lines board isb lines k.defs

  module _ (s : ScriptSeen) (is : IsCut board (length board.calls) s) where
    abbrev here : List LineDef
    here = map (λ (x : BoardLine). x.def) (board_lines lines)

    its_cut : calls_of s.calls ≡ cut here s.driver board.calls
    its_cut = is.cut ∙ (ap (λ (cs : List ScriptCall). cut (defs_of board) s.driver cs)
        (all_taken board.calls (length board.calls) (omega arith))
        ∙ ap (λ (ds : List LineDef). cut ds s.driver board.calls) (sym k.defs))

    -- the place up to which the driver's calls are complete, in the scripts and in its own
    whole : (place : ℕ) × IsUpTo board.calls (board_lines lines) s.driver place
    whole = k.in_order s.driver

    abbrev own_place : ℕ
    own_place = kept here s.driver whole.0 board.calls

    counted : sum_by (completed_on s.driver) (board_lines lines) ≡ own_place
    counted = complete_all (board_lines lines) apart s.driver board.calls whole.0 whole.1

    at_is : s.at + sum_by (completed_on s.driver) (board_lines lines) ≡ own_place
    at_is = let a = is.at in let c = counted in omega (arith, a, c)

    script_room : s.at + sum_by (completed_on s.driver) (board_lines lines) ≤ length s.calls
    script_room =
        let a = at_is in
        let le = kept_few here s.driver board.calls whole.0 in
        let many = length-map s.calls (λ (x : PlacedCall). x.call) in
        let same = ap (λ (cs : List ScriptCall). length cs) its_cut in
        omega (arith, a, le, many, same)

    up : IsUpTo (calls_of s.calls) (board_lines lines) s.driver (s.at + sum_by (completed_on s.driver) (board_lines lines))
    up =
        subst (λ (n : ℕ). IsUpTo (calls_of s.calls) (board_lines lines) s.driver n) (sym at_is)
        (subst (λ (cs : List ScriptCall). IsUpTo cs (board_lines lines) s.driver own_place) (sym its_cut)
        (cut_up_to (board_lines lines) apart s.driver board.calls whole.0 whole.1))

    line_is : (x : PlacedCall) (i : ℕ) → slice_get s.calls i ≡ Some x → IsSomeAnd (slice_get (board_lines lines) x.place) (λ y. y.def.line ≡ x.call.line)
    line_is x i at = number_back (board_lines lines) x.place x.call.line
        (ap (λ (ds : List LineDef). slice_get (numbers_of_defs ds) x.place) k.defs ∙ is.places i x at)

    module _ (x : PlacedCall) (y : BoardLine) (at : slice_get s.calls (placed (board_lines lines) s).at ≡ Some x)
        (there_y : slice_get (board_lines lines) x.place ≡ Some y) where
      of_line : y.def.line ≡ x.call.line
      of_line = subst (λ (o : Option BoardLine). IsSomeAnd o (λ z. z.def.line ≡ x.call.line)) there_y (line_is x (placed (board_lines lines) s).at at)

      due : (n : ℕ) × (due_call y.def s.driver y.past ≡ Some (x.call.call, n))
      due = due_there board.calls (board_lines lines) have apart s.driver s.calls its_cut (placed (board_lines lines) s).at up x y at there_y of_line

      -- only on this line has a call begun
      only : (i : ℕ) (z : BoardLine) → slice_get (board_lines lines) i ≡ Some z → made_on s.driver z ≤ made_on s.driver y
      only i z at_z = by_due (due_call z.def s.driver z.past) refl
        where
          by_due : (o : Option (Call × ℕ)) → due_call z.def s.driver z.past ≡ o → made_of o ≤ made_on s.driver y
          by_due None is_due = omega arith
          by_due (Some (c, zero)) is_due = omega arith
          by_due (Some (c, suc n)) is_due =
              let on : IsCallOn z.def.line s.driver x.call =
              subst (λ (o : Option ScriptCall). IsSomeAnd o (IsCallOn z.def.line s.driver))
              (call_there s.calls (placed (board_lines lines) s).at x at) (up.begun i z c n at_z is_due) in
              let same : z ≡ y = the_line (board_lines lines) apart i x.place z y at_z there_y (sym on.0 ∙ sym of_line) in
              let e : made_on s.driver z ≡ suc n = ap made_of is_due in
              let f : made_on s.driver z ≡ made_on s.driver y = ap (λ (w : BoardLine). made_on s.driver w) same in
              omega (arith, e, f)

      made_is : due.0 ≡ max s.made (most_made s.driver (board_lines lines))
      made_is =
          let a : made_on s.driver y ≡ due.0 = ap made_of due.1 in
          let b = most_at_most s.driver (made_on s.driver y) (board_lines lines) only in
          let c = at_most s.driver (board_lines lines) x.place y there_y in
          let d = is.made in
          omega (arith, a, b, c, d)

      due_is : due_call y.def s.driver y.past ≡ Some (x.call.call, (placed (board_lines lines) s).made)
      due_is = due.1 ∙ ap (λ (n : ℕ). Some (x.call.call, n)) made_is

    placed_script : IsScript board.calls (board_lines lines) (placed (board_lines lines) s)
    placed_script = record { cut = its_cut; places = λ i x at. line_is x i at; up_to = up; due = due_is }

  pub kept_room : {scripts : List ScriptSeen} → AreNewScripts board scripts → HaveRoom (board_lines lines) scripts
  kept_room are j s at = script_room s (are.each j s at)

  module _ {scripts new : List ScriptSeen} (are : AreNewScripts board scripts) (its : ArePlaced (board_lines lines) scripts new) where
    placed_drivers : drivers_of new ≡ board.drivers
    placed_drivers = its.drivers ∙ are.drivers

    pub placed_few : length new ≤ 64
    placed_few =
        let a = ap (λ (rs : List DriverNo). length rs) placed_drivers in
        let b = length-map new (λ (s : ScriptSeen). s.driver) in
        let f = isb.few_drivers in
        omega (arith, a, b, f)

    pub placed_system : AreSound lines → IsSystem board lines new
    placed_system sound = record { kept = k; sound = sound; drivers = placed_drivers; each = each }
      where
        each : (j : ℕ) (t : ScriptSeen) → slice_get new j ≡ Some t → IsScript board.calls (board_lines lines) t
        each j t at =
            let within = slice_get_within new j t at in
            let a = length-map new (λ (s : ScriptSeen). s.driver) in
            let b = length-map scripts (λ (s : ScriptSeen). s.driver) in
            let c = ap (λ (ds : List DriverNo). length ds) its.drivers in
            let s = there scripts j (omega (arith, within, a, b, c)) in
            subst (λ (u : ScriptSeen). IsScript board.calls (board_lines lines) u)
            (the_same (placed (board_lines lines) s.0) t (sym (its.each j s.0 s.1) ∙ at))
            (placed_script s.0 (are.each j s.0 s.1))
