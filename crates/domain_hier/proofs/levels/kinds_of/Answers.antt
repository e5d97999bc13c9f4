use Rattle.std.proofs.Common.{◌<◌, length, take, sym, ap, ◌∙◌, arith}
use Rattle.std.proofs.lemmas.List.{length-set}
use Rattle.std.proofs.lemmas.Option.{slice_get_within}
use Rattle.domain_rules.specs.Paths.{kind_in, kinds_on}
use Rattle.domain_hier.proofs.PathKinds.{kinds_go_on, take_end}
use Rattle.domain_hier.proofs.levels.kinds_of.Goals as goal

pub loop-place-preserved : goal.loop-place-preserved
loop-place-preserved c =
    let l = c.loop-place in
    let within : l.i < length c.args.path.now = slice_get_within c.args.path.now l.i (c.in-Some.place, c.in-Some.field-0-1) (sym c.in-Some.ensures) in
    record {
      few = omega (arith, within);
      long = length-set l.kinds l.i c.kind_of.result ∙ l.invariant.long;
      kinds = kinds_go_on c.args.domains.now c.args.path.now l.kinds l.i (c.in-Some.place, c.in-Some.field-0-1)
          c.kind_of.result (sym c.in-Some.ensures) (c.kind_of.ensures ∙ ap kind_in c.domain_at.ensures)
          (omega (arith, within, l.invariant.long, c.requires)) l.invariant.kinds;
    }

pub returns : goal.returns
returns c =
    let l = c.loop-place in
    let end = take_end c.args.path.now l.i (sym c.in_default.ensures) l.invariant.few in
    ap (λ n. take n l.kinds) (sym end.0) ∙ (l.invariant.kinds ∙ ap (kinds_on c.args.domains.now) end.1)
