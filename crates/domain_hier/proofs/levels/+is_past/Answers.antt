use Rattle.std.proofs.Common.{◌≡◌, ◌+◌, ◌<◌, ◌||◌, length, drop, sym, ap, ◌∙◌, arith}
use Rattle.std.specs.List.{list_any}
use Rattle.std.proofs.lemmas.Option.{slice_get_within}
use Rattle.domain_maps.proofs.Levels.{drop_at, drop_end}
use Rattle.domain_rules.specs.Layout.{is_past_domain, is_past_path}
use Rattle.domain_hier.proofs.levels.+is_past.Goals as goal

pub returns-in_default : goal.returns-in_default
returns-in_default t c = sym (ap (list_any (is_past_path c.args.domains.now)) (drop_end c.args.path.now c.args.from (sym c.in_default.ensures)))

pub overflow_add-from : goal.overflow_add-from
overflow_add-from t c =
    let within : c.args.from < length c.args.path.now = slice_get_within c.args.path.now c.args.from
    (c.in-Some.place, c.in-Some.number) (sym c.in-Some.ensures) in
    omega (arith, within, c.requires.few)

pub is_past-requires : goal.is_past-requires
is_past-requires t c =
    let within : c.args.from < length c.args.path.now = slice_get_within c.args.path.now c.args.from
    (c.in-Some.place, c.in-Some.number) (sym c.in-Some.ensures) in
    (omega (arith, within, c.decreases), c.requires.few)

pub returns-then-is_past_map : goal.returns-then-is_past_map
returns-then-is_past_map t c =
    let rest = list_any (is_past_path c.args.domains.now) (drop (c.args.from + 1) c.args.path.now) in
    let this : is_past_path c.args.domains.now (c.in-Some.place, c.in-Some.number)
    ≡ c.is_past_map.result = sym (c.is_past_map.ensures
    ∙ ap (λ d. is_past_domain d c.in-Some.number) c.domain_at.ensures) in
    sym (ap (list_any (is_past_path c.args.domains.now)) (drop_at c.args.path.now c.args.from (c.in-Some.place, c.in-Some.number) (sym c.in-Some.ensures))
    ∙ (ap (λ b. b || rest) (this ∙ c.if-is_past_map.true) ∙ sym c.if-is_past_map.true))

pub returns-else-is_past_map : goal.returns-else-is_past_map
returns-else-is_past_map t c =
    let rest = list_any (is_past_path c.args.domains.now) (drop (c.args.from + 1) c.args.path.now) in
    let this : is_past_path c.args.domains.now (c.in-Some.place, c.in-Some.number)
    ≡ c.is_past_map.result = sym (c.is_past_map.ensures
    ∙ ap (λ d. is_past_domain d c.in-Some.number) c.domain_at.ensures) in
    c.is_past.ensures ∙ sym (ap (list_any (is_past_path c.args.domains.now))
    (drop_at c.args.path.now c.args.from (c.in-Some.place, c.in-Some.number) (sym c.in-Some.ensures))
    ∙ ap (λ b. b || rest) (this ∙ c.if-is_past_map.false))
