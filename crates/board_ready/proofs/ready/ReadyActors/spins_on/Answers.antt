use Rattle.std.proofs.Common.{◌≤◌, length, slice_get, eqb, ap, ◌∙◌, arith}
use Rattle.std.proofs.lemmas.Nat.Bits.{shr_and_one}
use Rattle.board_ready.specs.Ready.{has_spinner}
use Rattle.board_ready.specs.Seen.{ReadySeen}
use Rattle.board_ready.proofs.Searching.{line_below}
use Rattle.board_ready.proofs.ready.ReadyActors.spins_on.Goals as goal

pub lines-requires : goal.lines-requires
lines-requires c =
    let few : length c.args.self.now.lines ≤ 64 = omega (arith, c.self.invariant.few_lines, ap (λ (s : ReadySeen). length s.lines) c.self.view_is) in
    (line_below c.args.self.now.lines c.args.cpu.0 c.args.line few c.requires).0

pub returns : goal.returns
returns c =
    let few : length c.args.self.now.lines ≤ 64 = omega (arith, c.self.invariant.few_lines, ap (λ (s : ReadySeen). length s.lines) c.self.view_is) in
    let below = line_below c.args.self.now.lines c.args.cpu.0 c.args.line few c.requires in
    ap (λ n. eqb n 1) (shr_and_one c.lines.result c.args.line)
    ∙ (c.lines.ensures c.args.line below.1 ∙ (c.self.invariant.spins c.args.cpu.0 c.args.line below.0 below.1
    ∙ ap (λ (s : ReadySeen). has_spinner c.args.cpu.0 (slice_get s.lines c.args.line)) c.self.view_is))

pub overflow_shr-result : goal.overflow_shr-result
overflow_shr-result c =
    let few : length c.args.self.now.lines ≤ 64 = omega (arith, c.self.invariant.few_lines, ap (λ (s : ReadySeen). length s.lines) c.self.view_is) in
    (line_below c.args.self.now.lines c.args.cpu.0 c.args.line few c.requires).1
