use Rattle.std.proofs.Common.{◌++◌, [], ◌∷◌, sym, ap, ◌∙◌, arith, refl}
use Rattle.device_table.specs.Rows.{at}
use Rattle.device_table.proofs.Steps.{table_next, absent_next, none_left}
use Rattle.ask_counts.specs.Facts.{facts_of}
use Rattle.ask_counts.proofs.FactRows.{facts_there, kind_is}
use Rattle.ask_counts.proofs.facts.FactTable.new.Goals as goal
use Rattle.ask_counts.proofs.facts.FactTable.new.Goals.{in-Some+in_ok-add, in_default}

pub add-requires : goal.add-requires
add-requires c =
    ap (λ t. at t c.in-Some.device.dev) c.loop-i.invariant
    ∙ absent_next (facts_of c.args.def.now) c.args.def.now.devices c.loop-i.i c.in-Some.device c.requires
    (sym c.in-Some.ensures)

pub loop-i-preserved : goal.loop-i-preserved
loop-i-preserved c =
    let def = c.args.def.now in
    let xs = def.devices in
    elim c.match-get.branch [
      | in-Some+in_ok-add w ↦
          let x = w.in-Some.device in
          let found = sym w.in-Some.ensures in
          let serves = w.serving-serving.ensures def refl (kind_is def c.loop-i.i x c.requires found) in
          w.facts-is
          ∙ (w.in_ok-add.ensures
          ∙ (ap (λ k. c.loop-i.facts ++ (x.dev, k) ∷ []) (facts_there def c.loop-i.i x _ c.requires found serves)
          ∙ (ap (λ t. t ++ (x.dev, facts_of def x.dev) ∷ []) c.loop-i.invariant ∙ table_next (facts_of def) xs c.loop-i.i x found)))
      | in_default w ↦ none_left xs c.loop-i.i (omega (arith, c.loop-i-test.true, c.len-i-end.ensures)) (sym w.in_default.ensures)
    ]
