use Rattle.std.proofs.Common.{◌≡◌, ◌+◌, ◌<◌, Some, ◌∷◌, length, drop, refl, sym, ap, subst, ◌∙◌, cond, ◌&&◌, arith}
use Rattle.std.proofs.lemmas.Option.{slice_get_within}
use Rattle.domain_maps.specs.Numbers.{virq_at, HasRoom, is_within, is_level}
use Rattle.revmap.specs.Answers.{is_associated}
use Rattle.domain_maps.proofs.Levels.{drop_at, drop_end, writes_more, gives_back, not_mapped}
use Rattle.domain_maps.proofs.maps.DomainMaps.+write_from.Goals as goal

pub returns-in_default-clause-ok : goal.returns-in_default-clause-ok
returns-in_default-clause-ok t c d k = rw (drop_end c.args.path.now c.args.from (sym c.in_default.ensures)) refl

pub overflow_add-from : goal.overflow_add-from
overflow_add-from t c =
    let within : c.args.from < length c.args.path.now = slice_get_within c.args.path.now c.args.from (c.in-Some.domain, c.in-Some.hw) (sym c.in-Some.ensures) in
    omega (arith, within, c.requires.few)

pub write_from-requires : goal.write_from-requires
write_from-requires t c =
    let within : c.args.from < length c.args.path.now = slice_get_within c.args.path.now c.args.from (c.in-Some.domain, c.in-Some.hw) (sym c.in-Some.ensures) in
    let room : HasRoom c.args.self.now ((c.in-Some.domain, c.in-Some.hw) ∷ drop (c.args.from + 1) c.args.path.now)
    = subst (HasRoom c.args.self.now) (drop_at c.args.path.now c.args.from (c.in-Some.domain, c.in-Some.hw)
    (sym c.in-Some.ensures)) c.requires.room in
    (omega (arith, within, c.decreases), (c.requires.few, (c.requires.virq, room.3)))

pub associate-requires-clause-within : goal.associate-requires-clause-within
associate-requires-clause-within t c =
    let room : HasRoom c.args.self.now ((c.in-Some.domain, c.in-Some.hw) ∷ drop (c.args.from + 1) c.args.path.now)
    = subst (HasRoom c.args.self.now) (drop_at c.args.path.now c.args.from (c.in-Some.domain, c.in-Some.hw)
    (sym c.in-Some.ensures)) c.requires.room in
    ap (λ s. is_within s (c.in-Some.domain, c.in-Some.hw)) c.in_ok-write_from.ensures.sizes ∙ room.0

pub associate-requires-clause-free : goal.associate-requires-clause-free
associate-requires-clause-free t c =
    let room : HasRoom c.args.self.now ((c.in-Some.domain, c.in-Some.hw) ∷ drop (c.args.from + 1) c.args.path.now)
    = subst (HasRoom c.args.self.now) (drop_at c.args.path.now c.args.from (c.in-Some.domain, c.in-Some.hw)
    (sym c.in-Some.ensures)) c.requires.room in
    c.in_ok-write_from.ensures.ok c.in-Some.domain c.in-Some.hw
    ∙ (ap (λ b. cond b (Some c.args.virq) (virq_at c.args.self.now c.in-Some.domain c.in-Some.hw)) room.2 ∙ room.1)

pub overflow_add-from-in_default-associate : goal.overflow_add-from-in_default-associate
overflow_add-from-in_default-associate t c =
    let within : c.args.from < length c.args.path.now = slice_get_within c.args.path.now c.args.from (c.in-Some.domain, c.in-Some.hw) (sym c.in-Some.ensures) in
    omega (arith, within, c.requires.few)

pub returns-in-Ok-clause-ok : goal.returns-in-Ok-clause-ok
returns-in-Ok-clause-ok t c d k =
    rw (drop_at c.args.path.now c.args.from (c.in-Some.domain, c.in-Some.hw) (sym c.in-Some.ensures))
    (writes_more (c.in-Some.domain, c.in-Some.hw) (drop (c.args.from + 1) c.args.path.now) d k (Some c.args.virq) _ _ _ (c.in_ok-write_from.ensures.ok d k)
    (c.associate.ensures.numbers d k ∙ ap (λ a. cond (is_associated a && is_level d k (c.in-Some.domain, c.in-Some.hw))
    (Some c.args.virq) (virq_at c.write_from.new.self d k)) c.in-Ok.is))

pub returns-in_default-associate-clause-err : goal.returns-in_default-associate-clause-err
returns-in_default-associate-clause-err t c d k =
    let room : HasRoom c.args.self.now ((c.in-Some.domain, c.in-Some.hw) ∷ drop (c.args.from + 1) c.args.path.now)
    = subst (HasRoom c.args.self.now) (drop_at c.args.path.now c.args.from (c.in-Some.domain, c.in-Some.hw)
    (sym c.in-Some.ensures)) c.requires.room in
    let same : virq_at c.associate.new.self d k ≡ virq_at c.write_from.new.self d k = c.associate.ensures.numbers d k
    ∙ ap (λ b. cond (b && is_level d k (c.in-Some.domain, c.in-Some.hw)) (Some c.args.virq)
    (virq_at c.write_from.new.self d k)) (not_mapped c.associate.result c.in_default-associate.not-Ok) in
    gives_back c.args.self.now (drop (c.args.from + 1) c.args.path.now) d k (Some c.args.virq) _ _ room.3
    (same ∙ c.in_ok-write_from.ensures.ok d k) (c.give_up_from.ensures.numbers d k)
