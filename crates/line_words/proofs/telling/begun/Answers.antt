use Rattle.std.proofs.Common.{◌≡◌, ℕ, ◌&&◌, is_some, [], ◌∷◌, ap, sym, ◌∙◌}
use Rattle.device_table.specs.Sums.{one_if}
use Rattle.act_list.specs.Lists.{ListSeen, begun_at}
use Rattle.line_words.proofs.Looking.{begun_if}
use Rattle.line_words.proofs.telling.begun.Goals as goal
use Rattle.line_words.proofs.telling.begun.Goals.{then-is_some, else-is_some}

pub returns : goal.returns
returns c =
    let s = c.args.state.now.state in
    let flow : c.is_some.result ≡ is_some s.desc.flow = c.is_some.ensures ∙ ap is_some c.in_flow.ensures in
    let own : c.if-is_some.flag ≡ (is_some s.desc.flow && begun_at s.list.begun c.args.dev) =
    elim c.if-is_some.branch [
      | then-is_some w ↦
          w.flag-is ∙ (w.has_begun.ensures ∙ (ap (λ (l : ListSeen). begun_at l.begun c.args.dev) w.actions.ensures
          ∙ ap (λ b. b && begun_at s.list.begun c.args.dev) (sym w.if-is_some.true ∙ flow)))
      | else-is_some w ↦ w.flag-is ∙ (w.if-is_some.false ∙ ap (λ b. b && begun_at s.list.begun c.args.dev) (sym w.if-is_some.false ∙ flow))
    ] in
    ap (λ (n : ℕ). n ∷ []) c.flag.ensures ∙ ap (λ b. one_if b ∷ []) (own ∙ begun_if (is_some s.desc.flow) s.list.begun c.args.dev)
