use Rattle.std.proofs.Common.{ℕ, List, Bor, ap, map, subst}
use Rattle.explore_words.specs.Joining.{Joins}
use Rattle.explore_words.proofs.Joined.{joins_all}
use Rattle.explore_words.proofs.joining.join.Goals as goal

pub returns : goal.returns
returns c = rw (ap (map (λ (w : Bor (List ℕ)). w.now)) c.in-Some.ensures.cases.0)
    (joins_all c.in-Some.first.now.now (map (λ (w : Bor (List ℕ)). w.now) c.in-Some.rest.now) c.args.row.now c.push_fitting.new.row
    c.push_others.new.row c.push_fitting.result c.push_others.result c.requires c.if-not-push_fitting.false
    (subst (λ (w : List ℕ). Joins c.args.row.now w c.push_fitting.result c.push_fitting.new.row) c.as_bytes.ensures.value c.push_fitting.ensures)
    c.push_others.ensures)
