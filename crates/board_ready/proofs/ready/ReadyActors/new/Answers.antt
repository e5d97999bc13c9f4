use Rattle.std.proofs.Common.{rules, ◌≡◌, false, Option, None, List, length, replicate, refl, ap, ◌∙◌, arith}
use Rattle.std.proofs.lemmas.List.{length-replicate}
use Rattle.board_ready.specs.Kept.{thread_of}
use Rattle.board_ready.specs.Ready.{idle, thread_on, has_flow, has_spinner, has_take, can_go_on}
use Rattle.board_ready.specs.Sets.{is_on, is_waiting}
use Rattle.board_ready.specs.declared.parts.CurrentCall.{CurrentCall}
use Rattle.board_ready.specs.declared.parts.LineReadiness.{LineReadiness}
use Rattle.board_ready.proofs.Keeping.{fresh_readiness, fresh_call}
use Rattle.board_ready.proofs.Processors.{nothing_in}
use Rattle.board_ready.proofs.ready.ReadyActors.new.Goals as goal

abbrev no_call : Option CurrentCall
no_call = None

pub invariant_of-result : goal.invariant_of-result
invariant_of-result c =
    let lines : c.in_ok-lines.lines.items ≡ replicate c.args.lines idle
    = c.in_ok-lines.ensures.items_if_clones_equal (λ y e. e) ∙ ap (replicate c.args.lines) c.idle.ensures in
    let drivers : c.in_ok-drivers.drivers.items ≡ replicate c.args.drivers no_call = c.in_ok-drivers.ensures.items_if_clones_equal (λ y e. search rules) in
    record {
      few_lines = omega (arith, ap (λ (s : List LineReadiness). length s) lines ∙ length-replicate c.args.lines idle, c.requires.few_lines);
      few_drivers = omega (arith, ap (λ (s : List (Option CurrentCall)). length s) drivers ∙ length-replicate c.args.drivers no_call, c.requires.few_drivers);
      threads = λ k small. c.new.ensures k small ∙ fresh_readiness (λ o. thread_on k (thread_of o))
          c.in_ok-lines.lines.items c.args.lines k None lines refl refl;
      flows = λ n k few small. c.new-2.ensures n k ∙ fresh_readiness (has_flow n) c.in_ok-lines.lines.items c.args.lines k false lines refl refl;
      spins = λ n k few small. c.new-3.ensures n k ∙ fresh_readiness (has_spinner n) c.in_ok-lines.lines.items c.args.lines k false lines refl refl;
      takes = λ n k few small. c.new-4.ensures n k ∙ fresh_readiness (has_take n) c.in_ok-lines.lines.items c.args.lines k false lines refl refl;
      on_lines = λ k r few small. c.new-5.ensures.lines k r ∙ fresh_call (is_on k) c.in_ok-drivers.drivers.items c.args.drivers r drivers;
      waiting = λ w r small. c.new-5.ensures.waiting w r ∙ fresh_call (is_waiting w) c.in_ok-drivers.drivers.items c.args.drivers r drivers;
      ready = λ r small. nothing_in 0 r refl ∙ fresh_call (can_go_on c.in_ok-lines.lines.items) c.in_ok-drivers.drivers.items c.args.drivers r drivers;
    }
