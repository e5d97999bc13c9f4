-- What a system answers of a processor: the lines on which a take of it is due, and the line of its flow.
use Rattle.std.proofs.Common.{◌≡◌, ℕ, ◌<◌, ◌&&◌, cond, nat_lt, IsSome, Option, Some, None, List, length, slice_get, sym, ap, ◌∙◌, subst, arith}
use Rattle.std.proofs.Math.ListN.{length-map}
use Rattle.std.proofs.lemmas.Option.{slice_get_within}
use Rattle.irq_base.specs.declared.numbers.CpuNo.{CpuNo}
use Rattle.irq_base.specs.declared.numbers.LineNo.{LineNo}
use Rattle.irq_line.specs.Seen.{LineSeen}
use Rattle.board_play.specs.Lines.{BoardLine}
use Rattle.board_play.specs.Order.{flow_line}
use Rattle.board_ready.specs.Ready.{has_take, flow_line as flow_place}
use Rattle.board_ready.specs.Sets.{has}
use Rattle.board_core.specs.Firsts.{is_take_due, number_of}
use Rattle.board_core.specs.Places.{IsPlace}
use Rattle.board_core.specs.Seen.{SystemSeen, board_line, board_lines}
use Rattle.board_core.proofs.CpuMovers.{take_told, flow_there}
use Rattle.board_core.proofs.Standing.{line_at}
use Rattle.board_core.proofs.InLists.{map_there}
use Rattle.board_core.proofs.Kept.{KeptSystem}

module _ {view : SystemSeen} (system : KeptSystem view) where
  open system use {lines, parts, kept, view_is}

  pub takes_are : (c : CpuNo) (word k : ℕ) → has word k
      ≡ (nat_lt c.0 32 && has_take c.0 (slice_get parts.ready.lines k))
      → has word k ≡ is_take_due c (slice_get (board_lines view.lines) k)
  takes_are c word k its =
      subst (λ (s : SystemSeen). has word k ≡ is_take_due c (slice_get (board_lines s.lines) k)) view_is
      (take_told system c k (has word k) its)

  -- the place of the line of its flow
  place_of_flow : (c : CpuNo) (o : Option ℕ) → o ≡ cond (nat_lt c.0 32) (flow_place parts.ready.lines c.0) None
      → IsPlace (board_lines lines) o (flow_line (board_lines lines) c)
  place_of_flow c o its = flow_there system c o its

  pub flow_within : (c : CpuNo) (k : ℕ) → Some k ≡ cond (nat_lt c.0 32) (flow_place parts.ready.lines c.0) None → k < length parts.line_numbers
  flow_within c k its =
      let p = place_of_flow c (Some k) its in
      let within = by_line (flow_line (board_lines lines) c) p.0 p.1 in
      let a = length-map lines board_line in
      let b = ap (λ (ns : List ℕ). length ns) kept.line_numbers in
      let d = length-map lines (λ (x : LineSeen). x.def.line.0) in
      omega (arith, within, a, b, d)
    where
      by_line : (o : Option BoardLine) → IsSome o → slice_get (board_lines lines) k ≡ o → k < length (board_lines lines)
      by_line None some at = cc
      by_line (Some x) some at = slice_get_within (board_lines lines) k x at

  pub flow_number : (c : CpuNo) (k : ℕ) (line : LineNo)
      → Some k ≡ cond (nat_lt c.0 32) (flow_place parts.ready.lines c.0) None
      → slice_get parts.line_numbers k ≡ Some line.0 → Some line ≡ number_of (flow_line (board_lines view.lines) c)
  flow_number c k line its at =
      let p = place_of_flow c (Some k) its in
      let x = line_at system k line at in
      subst (λ (s : SystemSeen). Some line ≡ number_of (flow_line (board_lines s.lines) c)) view_is
      (sym (ap (λ (o : Option BoardLine). number_of o) (sym p.1 ∙ map_there board_line lines k x.0 x.1) ∙ ap (λ (l : LineNo). Some l) x.2))

  pub no_flow_number : (c : CpuNo) → None ≡ cond (nat_lt c.0 32) (flow_place parts.ready.lines c.0) None
      → None ≡ number_of (flow_line (board_lines view.lines) c)
  no_flow_number c its =
      subst (λ (s : SystemSeen). None ≡ number_of (flow_line (board_lines s.lines) c)) view_is
      (sym (ap (λ (o : Option BoardLine). number_of o) (place_of_flow c None its)))
