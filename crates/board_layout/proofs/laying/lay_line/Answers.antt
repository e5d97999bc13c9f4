use Rattle.std.proofs.Common.{◌≡◌, ◌<◌, ◌+◌, ◌++◌, ◌∷◌, [], Some, List, length, drop, sym, subst, ap, ◌∙◌, arith}
use Rattle.std.specs.List.{slice_get}
use Rattle.std.specs.Option.{option_map}
use Rattle.std.proofs.Math.ListN.{length-map}
use Rattle.std.proofs.lemmas.List.{length_push}
use Rattle.std.proofs.lemmas.Option.{slice_get-map}
use Rattle.board_def.specs.Unnamed.{def_of, defs_of, leaf_of, leaves_of}
use Rattle.board_def.proofs.Unnaming.{defs_allowed}
use Rattle.domain_rules.specs.Layout.{layout_after, placement_of}
use Rattle.domain_rules.specs.declared.layouts.Placement.{Placement}
use Rattle.board_layout.specs.Laid.{AllFall, paths_of}
use Rattle.board_layout.proofs.Placing.{falls_more, placement_falls, goes_on}
use Rattle.board_layout.proofs.laying.lay_line.Goals as goal

pub place_line-requires-clause-there : goal.place_line-requires-clause-there
place_line-requires-clause-there c =
    let b = c.args.board.now in
    let there : c.in-Some.row.domain < length b.domains = (c.is_board.ensures.board.lines c.args.place c.in-Some.row (sym c.in-Some.ensures)).domain in
    let as_many : length (defs_of b.domains) ≡ length b.domains = length-map b.domains def_of in
    omega (arith, there, as_many, ap length c.requires.before.domains)

pub returns : goal.returns
returns c =
    let b = c.args.board.now in
    let before = c.requires.before in
    let earlier = c.args.layout.now in
    let leaf = leaf_of c.in-Some.row in
    let p = c.in_ok-placement.placement in
    let is : p ≡ placement_of (defs_of b.domains) earlier leaf = c.in_ok-placement.ensures.placement ∙ ap (λ ds. placement_of ds earlier leaf) before.domains in
    let now : c.push.new.self ≡ earlier ++ p ∷ [] = c.in_ok-push.ensures.ok in
    let at : slice_get (leaves_of b.lines) c.args.place ≡ Some leaf = slice_get-map leaf_of b.lines c.args.place
    ∙ ap (option_map leaf_of) (sym c.in-Some.ensures) in
    let last : AllFall (p ∷ []) = subst (λ (x : Placement). AllFall (x ∷ [])) (sym is)
    (placement_falls (defs_of b.domains) earlier leaf (defs_allowed b.domains c.is_board.ensures.board.domains)) in
    let long : length c.push.new.self ≡ length earlier + 1 = ap length now ∙ length_push earlier p in
    record {
      domains = c.in_ok-placement.ensures.domains ∙ before.domains;
      paths = c.in_ok-placement.ensures.paths ∙ ap paths_of (sym now);
      falls = subst (λ (ps : List Placement). AllFall ps) (sym now) (falls_more earlier p before.falls last);
      count = long ∙ ap (λ n. n + 1) before.count;
      rest = ap (λ ps. ps ++ layout_after (defs_of b.domains) ps (drop (c.args.place + 1) (leaves_of b.lines))) now
          ∙ (goes_on (defs_of b.domains) earlier (leaves_of b.lines) c.args.place leaf p is at ∙ before.rest);
    }
