use Rattle.std.proofs.Common.{◌≡◌, ◌+◌, true, refl, ap, sym, subst, ◌∙◌}
use Rattle.state_search.specs.declared.firsts.First.{First}
use Rattle.state_search.specs.Firsts.{IsNoted}
use Rattle.state_search.specs.Growing.{AreNoted}
use Rattle.state_search.proofs.Labels.{note_none, note_known, note_new}
use Rattle.state_search.proofs.firsts.note.Goals as goal
use Rattle.state_search.proofs.firsts.note.Goals.{then-not-is_noted+in_ok-push, else-not-is_noted}

pub loop-i-init : goal.loop-i-init
loop-i-init g c = note_none g.L.PartialEq.eq c.args.place c.args.found.now c.args.firsts.now.items

pub loop-i-preserved : goal.loop-i-preserved
loop-i-preserved g c =
    let eq = g.L.PartialEq.eq in
    let found = c.args.found.now in
    let i = c.loop-i.i in
    let old = c.args.firsts.now.items in
    let mid = c.loop-i.firsts.items in
    let l = c.get-label.result.0 in
    let ws = c.get-label.result.1.now in
    elim c.if-not-is_noted.branch [
      | then-not-is_noted+in_ok-push w ↦
          let f : First g.row.L.Denot = record { label = l; place = c.args.place } in
          let unseen : IsNoted eq mid l → ⊥ = λ x.
          let yes : c.is_noted.result ≡ true = c.is_noted.ensures.1 (subst (λ t. IsNoted eq t l) (sym c.deref.ensures.value) x) in
          let nope = w.if-not-is_noted.true in
          cc in
          subst (AreNoted eq c.args.place found (i + 1) old) (sym (ap (λ v. v.items) w.firsts-is ∙ w.in_ok-push.ensures.items))
          (note_new eq c.args.place found i old mid c.loop-i.invariant l ws c.get-label.ensures g.met.L.Eq.laws f refl refl unseen)
      | else-not-is_noted w ↦
          let yes : c.is_noted.result ≡ true = w.if-not-is_noted.false in
          subst (AreNoted eq c.args.place found (i + 1) old) (sym (ap (λ v. v.items) w.firsts-is))
          (note_known eq c.args.place found i old mid c.loop-i.invariant l ws c.get-label.ensures
          (subst (λ t. IsNoted eq t l) c.deref.ensures.value (c.is_noted.ensures.0 yes)))
    ]
