use Rattle.std.proofs.Common.{◌++◌, ◌∷◌, [], ◌∙◌, ap, sym, take, map, append_assoc, arith}
use Rattle.log_text.proofs.Spacing.{spaced_more}
use Rattle.log_text.specs.LayoutRows.{level_word}
use Rattle.log_text.specs.Spaced.{spaced}
use Rattle.log_text.proofs.layouts.push_levels.Goals as goal

pub loop-i-preserved : goal.loop-i-preserved
loop-i-preserved c =
    let f = level_word c.args.board.now.domains in
    let so_far = spaced (map f (take c.loop-i.i c.args.path.now)) in
    record {
      text =
          c.push_level.ensures.text
          ∙ (ap (λ xs. xs ++ spaced (f c.in-Some.level ∷ [])) c.loop-i.invariant.text
          ∙ (append_assoc c.args.row.now so_far (spaced (f c.in-Some.level ∷ []))
          ∙ ap (λ xs. c.args.row.now ++ xs) (sym (spaced_more f c.args.path.now c.loop-i.i c.in-Some.level (sym c.in-Some.ensures)))));
      short = omega (arith, c.push_level.ensures.grows, c.loop-i.invariant.short);
    }
