use Rattle.std.proofs.Common.{◌≡◌, ℕ, ◌<◌, ◌&&◌, true, Option, Some, None, List, length, unwrap_or, slice_get, cond, eqb, refl, ap, ◌∙◌, arith}
use Rattle.std.proofs.lemmas.List.{length-set}
use Rattle.std.proofs.lemmas.Option.{slice_get_read}
use Rattle.board_ready.specs.Ready.{current_call, can_go_on}
use Rattle.board_ready.specs.Seen.{ReadySeen}
use Rattle.board_ready.specs.Sets.{has, on_line, word_for, is_on, is_waiting}
use Rattle.board_ready.specs.declared.parts.CurrentCall.{CurrentCall}
use Rattle.board_ready.specs.declared.parts.LineReadiness.{LineReadiness}
use Rattle.board_ready.proofs.Keeping.{drivers_set, ready_driver}
use Rattle.board_ready.proofs.ready.ReadyActors.put_driver.Goals as goal

pub invariant_of-self : goal.invariant_of-self
invariant_of-self c =
    let drivers : List (Option CurrentCall) = c.self.inside.drivers.items in
    let d : ℕ = c.args.driver in
    let before : Option CurrentCall = c.index-old.result.now in
    let inside : c.args.driver < length c.self.inside.drivers.items = omega (arith, c.requires, ap (λ (s : ReadySeen). length s.drivers) c.self.view_is) in
    let read : slice_get c.self.inside.drivers.items c.args.driver ≡ Some c.index-old.result.now =
    slice_get_read c.self.inside.drivers.items (length c.self.inside.drivers.items) c.args.driver c.index-old.result.now refl inside c.index-old.ensures in
    let at_d : current_call c.self.inside.drivers.items c.args.driver
    ≡ c.index-old.result.now = ap (λ (o : Option (Option CurrentCall)). unwrap_or o None) read in
    record {
      few_lines = c.self.invariant.few_lines;
      few_drivers = omega (arith, length-set drivers d c.args.call, c.self.invariant.few_drivers);
      threads = c.self.invariant.threads;
      flows = c.self.invariant.flows;
      spins = c.self.invariant.spins;
      takes = c.self.invariant.takes;
      on_lines = λ k r few small. drivers_set (is_on k) drivers d before c.args.call
          (has (on_line c.self.inside.calls k)) (has (on_line c.put-2.new.self k)) inside at_d
          (λ j less. c.self.invariant.on_lines k j few less) (λ j less. c.put-2.ensures.lines k j few less
          ∙ ap (cond (is_on k c.args.call && eqb j d) true) (c.put.ensures.lines k j few less)) r small;
      waiting = λ w r small. drivers_set (is_waiting w) drivers d before c.args.call
          (has (word_for w c.self.inside.calls.waiting)) (has (word_for w c.put-2.new.self.waiting)) inside at_d
          (c.self.invariant.waiting w) (λ j less. c.put-2.ensures.waiting w j less
          ∙ ap (cond (is_waiting w c.args.call && eqb j d) true) (c.put.ensures.waiting w j less)) r small;
      ready = ready_driver c.self.inside.lines.items drivers d c.self.inside.ready c.with_bit-self-inside.result
          c.args.call inside c.self.invariant.ready (λ r small. c.with_bit-self-inside.ensures r small
          ∙ ap (λ b. cond (eqb r d) b (has c.self.inside.ready r))
          (c.can_go_on.ensures ∙ ap (λ (s : List LineReadiness). can_go_on s c.args.call) c.deref.ensures.value));
    }
