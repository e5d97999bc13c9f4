use Rattle.std.proofs.Common.{◌≡◌, ◌<◌, MatchBool, not, sym, ap, subst, ◌∙◌, arith}
use Rattle.atomic_table.specs.Seated.{TableId}
use Rattle.vector_matrix.specs.Claims.{ClaimSeen, MatrixSeen, IsClaim, claim_seen, Gains, FindsTaken}
use Rattle.vector_matrix.proofs.Claiming.{claimed, shown}
use Rattle.vector_matrix.proofs.matrix.Matrix.claim_one.Goals as goal

pub invariant_of-claim : goal.invariant_of-claim
invariant_of-claim c =
    let cpus : c.self.inside.cpus ≡ c.args.self.now.cpus = ap (λ (m : MatrixSeen). m.cpus) c.self.view_is in
    let vectors : c.self.inside.vectors ≡ c.args.self.now.vectors = ap (λ (m : MatrixSeen). m.vectors) c.self.view_is in
    let table : c.claim.inside.seat.table_id ≡ c.self.inside.table.shared.table_id =
    ap (λ (m : ClaimSeen). m.table) c.claim.view_is ∙ (c.requires.claim ∙ sym (ap (λ (m : MatrixSeen). m.table) c.self.view_is)) in
    let words = ap (λ (t : TableId). t.words) table in
    let cpu : c.args.vector.cpu.0 < c.claim.inside.seat.table_id.words = omega (arith, words, cpus, c.self.invariant.each, c.requires.cpu) in
    let number : c.args.vector.number < 64 = omega (arith, vectors, c.self.invariant.small, c.requires.number) in
    subst (λ (t : TableId). IsClaim t.words c.set.new.seat.me) (sym c.set.ensures.table)
    (claimed c.claim.inside.seat.table_id.words c.claim.inside.seat.me c.set.new.seat.me c.args.vector c.set.result
    c.claim.invariant cpu number c.set.ensures.claims)

pub returns : goal.returns
returns c =
    let P : ClaimSeen → ClaimSeen → Type 0 = λ old new. MatchBool (not c.set.result) (Gains c.args.vector old new) (FindsTaken c.args.vector old new) in
    let told = shown c.claim.inside.seat.table_id c.claim.inside.seat.me c.set.new.seat.me c.args.vector c.set.result c.set.ensures.claims in
    subst (λ (t : TableId). P c.args.claim.now (claim_seen t c.set.new.seat.me.0)) (sym c.set.ensures.table)
    (subst (λ (m : ClaimSeen). P m (claim_seen c.claim.inside.seat.table_id c.set.new.seat.me.0)) c.claim.view_is told)
