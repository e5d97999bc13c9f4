use Rattle.std.proofs.Common.{rules, bit_and, ◌≡◌, ◌++◌, [], ◌∷◌, ap, ◌∙◌, arith}
use Rattle.std.proofs.lemmas.Grind.{common_steps}
use Rattle.indexmap.specs.IndexMap.{insert_entry}
use Rattle.irq_model.specs.Kinds.{same_dev}
use Rattle.act_list.specs.Actions.{ActionsSeen, has, is_mismatch, bits_of}
use Rattle.act_list.proofs.Alike.{adds_last}
use Rattle.act_list.proofs.Bits.{kept_more}
use Rattle.act_list.proofs.actions.Actions.add.Goals as goal

pub invariant_of-self-2 : goal.invariant_of-self-2
invariant_of-self-2 c =
    let t = c.self.inside.map.entries in
    let e : c.insert.new.self.entries ≡ insert_entry same_dev t c.args.dev c.args.action = grind (arith, common_steps) in
    let more = adds_last c.args.dev c.args.action t (ap (λ (s : ActionsSeen). has c.args.dev s.actions) c.self.view_is ∙ c.requires.absent) in
    rw (e, more) (kept_more c.args.dev c.args.action t c.self.invariant
    (ap (λ (s : ActionsSeen). is_mismatch c.args.action.flags s.actions) c.self.view_is ∙ c.requires.goes)
    c.requires.due (search rules) (ap (λ (s : ActionsSeen). bit_and (bits_of s.actions) c.args.action.bit)
    c.self.view_is ∙ c.requires.apart))

pub returns-clause-ok : goal.returns-clause-ok
returns-clause-ok c =
    let t = c.self.inside.map.entries in
    let e : c.insert.new.self.entries ≡ insert_entry same_dev t c.args.dev c.args.action = grind (arith, common_steps) in
    e
    ∙ (adds_last c.args.dev c.args.action t (ap (λ (s : ActionsSeen). has c.args.dev s.actions) c.self.view_is
    ∙ c.requires.absent) ∙ ap (λ (s : ActionsSeen). s.actions ++ (c.args.dev, c.args.action) ∷ []) c.self.view_is)
