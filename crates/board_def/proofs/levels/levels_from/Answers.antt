use Rattle.std.proofs.Common.{◌≡◌, ◌-◌, ◌+◌, ap, ◌∙◌, arith}
use Rattle.std.proofs.Math.ListN.{length-map}
use Rattle.std.specs.List.{slice_get}
use Rattle.domain_rules.specs.Paths.{kinds_from, way, most_levels, kind_in, parent_in}
use Rattle.board_def.specs.Unnamed.{defs_of}
use Rattle.board_def.proofs.Walks.{passed, none_passed, one_passed, left_of_way, way_goes_on, way_ends, way_full, ended}
use Rattle.board_def.proofs.Walks.{root_of_all, masking_of_all, count_of_all}
use Rattle.board_def.proofs.levels.levels_from.Goals as goal

early : (c : goal.In_default) → c.loop-levels.levels ≡ passed none_passed (kinds_from (defs_of c.args.board.now.domains) c.args.from)
early c =
    let b = c.args.board.now in
    let l = c.loop-levels in
    let left = left_of_way (8 - l.levels.count) (defs_of b.domains) in
    ended l.levels (left l.at) (kinds_from (defs_of b.domains) c.args.from) l.invariant.passed
    (ap left c.in_default.is ∙ way_ends (8 - l.levels.count) (defs_of b.domains))

pub returns-in_default-clause-root : goal.returns-in_default-clause-root
returns-in_default-clause-root c = ap (λ p. p.root) (early c) ∙ root_of_all (kinds_from (defs_of c.args.board.now.domains) c.args.from)

pub returns-in_default-clause-masking : goal.returns-in_default-clause-masking
returns-in_default-clause-masking c = ap (λ p. p.masking) (early c) ∙ masking_of_all (kinds_from (defs_of c.args.board.now.domains) c.args.from)

pub returns-in_default-clause-count : goal.returns-in_default-clause-count
returns-in_default-clause-count c =
    let domains = defs_of c.args.board.now.domains in
    ap (λ p. p.count) (early c) ∙ (count_of_all (kinds_from domains c.args.from)
    ∙ length-map (way most_levels domains c.args.from) (λ place. kind_in (slice_get domains place)))

pub loop-levels-preserved : goal.loop-levels-preserved
loop-levels-preserved c =
    let domains = defs_of c.args.board.now.domains in
    let l = c.loop-levels in
    let next : c.pass.new.self ≡ one_passed l.levels (kind_in (slice_get domains c.in-Some.place)) =
    c.pass.ensures ∙ ap (one_passed l.levels) (c.kind_of.ensures ∙ ap kind_in c.def_at-def.ensures) in
    let counted : c.pass.new.self.count ≡ l.levels.count + 1 = ap (λ p. p.count) next in
    record {
      few = omega arith;
      passed = way_goes_on domains (kinds_from domains c.args.from) l.levels c.pass.new.self l.at c.parent_of-at.result
          c.in-Some.place (omega arith) c.in-Some.is next
          (c.parent_of-at.ensures ∙ ap parent_in c.def_at-def.ensures) l.invariant.passed;
    }

late : (c : goal.After-loop-levels) → c.loop-levels.levels ≡ passed none_passed (kinds_from (defs_of c.args.board.now.domains) c.args.from)
late c =
    let b = c.args.board.now in
    let l = c.loop-levels in
    let full : 8 - l.levels.count ≡ 0 = omega arith in
    ended l.levels (left_of_way (8 - l.levels.count) (defs_of b.domains) l.at)
    (kinds_from (defs_of b.domains) c.args.from) l.invariant.passed
    (way_full (8 - l.levels.count) (defs_of b.domains) l.at full)

pub returns-clause-root : goal.returns-clause-root
returns-clause-root c = ap (λ p. p.root) (late c) ∙ root_of_all (kinds_from (defs_of c.args.board.now.domains) c.args.from)

pub returns-clause-masking : goal.returns-clause-masking
returns-clause-masking c = ap (λ p. p.masking) (late c) ∙ masking_of_all (kinds_from (defs_of c.args.board.now.domains) c.args.from)

pub returns-clause-count : goal.returns-clause-count
returns-clause-count c =
    let domains = defs_of c.args.board.now.domains in
    ap (λ p. p.count) (late c) ∙ (count_of_all (kinds_from domains c.args.from)
    ∙ length-map (way most_levels domains c.args.from) (λ place. kind_in (slice_get domains place)))
