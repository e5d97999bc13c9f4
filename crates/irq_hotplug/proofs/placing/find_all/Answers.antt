use Rattle.std.proofs.Common.{◌≡◌, ◌+◌, ◌++◌, [], ◌∷◌, Option, List, count_by, drop, ap, ◌∙◌, sym, arith, refl, add-zero}
use Rattle.vector_matrix.specs.Vectors.{count_of}
use Rattle.vector_matrix.specs.declared.view.Vector.{Vector}
use Rattle.irq_hotplug.specs.Berths.{all_found, finds, is_at, is_taken, stands_at}
use Rattle.irq_hotplug.specs.Held.{HeldSeen, held_in}
use Rattle.irq_hotplug.specs.declared.berths.Berth.{Berth}
use Rattle.irq_hotplug.proofs.Counting.{held_is_taken, one_more_found}
use Rattle.irq_hotplug.proofs.Finding.{same_find}
use Rattle.irq_hotplug.proofs.placing.find_all.Goals as goal

pub find_one-vector-requires : goal.find_one-vector-requires
find_one-vector-requires c = record {
  each = c.requires.sized.each ∙ sym c.loop-i.invariant.cpus;
  most = c.requires.sized.most;
}

pub loop-i-preserved : goal.loop-i-preserved
loop-i-preserved c =
    let m = c.args.moving in
    let vectors = c.args.held.now.vectors in
    let online = c.args.online.now in
    let berths = c.args.berths.now in
    let before = c.loop-i.found.items in
    let held = c.loop-i.held in
    let b = c.at-berth.result in
    let bs = drop (c.loop-i.i + 1) berths in
    let found : c.find_one-vector.result ≡ finds m vectors online (is_taken berths before) b =
    c.find_one-vector.ensures.found
    ∙ ap (λ n. finds m n online (held_in held) b) c.loop-i.invariant.vectors
    ∙ same_find (held_in held) (is_taken berths before) (λ v. held_is_taken held.held berths before v (c.loop-i.invariant.tie v)) m vectors online b in
    record {
      cpus = ap (λ (h : HeldSeen). h.cpus) c.find_one-vector.ensures.held ∙ c.loop-i.invariant.cpus;
      vectors = ap (λ (h : HeldSeen). h.vectors) c.find_one-vector.ensures.held ∙ c.loop-i.invariant.vectors;
      spare = omega (arith, c.put.ensures.spare, c.loop-i.invariant.spare);
      all =
          ap (λ (xs : List (Option Vector)). all_found m vectors online berths xs bs) c.put.ensures.items
          ∙ ap (λ (p : Option Vector). all_found m vectors online berths (before ++ p ∷ []) bs) found
          ∙ sym (ap (λ (xs : List Berth). all_found m vectors online berths before xs) c.at-berth.ensures.left)
          ∙ c.loop-i.invariant.all;
      tie = λ v.
          ap (λ (h : HeldSeen). count_of v h.held) c.find_one-vector.ensures.held
          ∙ one_more_found v held.held (count_by (stands_at v) berths) before c.find_one-vector.result (c.loop-i.invariant.tie v)
          ∙ ap (λ (xs : List (Option Vector)). count_by (stands_at v) berths + count_by (is_at v) xs) (sym c.put.ensures.items);
    }

pub loop-i-init : goal.loop-i-init
loop-i-init c = record {
  cpus = refl;
  vectors = refl;
  spare = omega (arith, c.requires.room);
  all = ap (λ (xs : List (Option Vector)). all_found c.args.moving c.args.held.now.vectors c.args.online.now c.args.berths.now xs c.args.berths.now)
      c.requires.empty;
  tie = λ v.
      c.requires.held v
      ∙ sym (ap (λ (xs : List (Option Vector)). count_by (stands_at v) c.args.berths.now + count_by (is_at v) xs) c.requires.empty
      ∙ add-zero (count_by (stands_at v) c.args.berths.now));
}
