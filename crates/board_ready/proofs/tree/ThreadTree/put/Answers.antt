use Rattle.std.proofs.Common.{◌+◌, ◌/◌, List, Option, subst, slice_set, arith}
use Rattle.board_ready.specs.declared.parts.ReadyThread.{ReadyThread}
use Rattle.board_ready.proofs.Trees.{IsUpTo, up_first, up_next, up_last}
use Rattle.board_ready.proofs.tree.ThreadTree.put.Goals as goal

pub loop-node-init : goal.loop-node-init
loop-node-init c =
    let made = up_first c.self.inside.nodes c.args.line c.args.thread (omega arith) c.requires c.self.invariant in
    subst (λ (old : List (Option ReadyThread)). IsUpTo (slice_set c.self.inside.nodes (64 + c.args.line) c.args.thread)
    old c.args.line ((64 + c.args.line) / 2) c.args.thread) c.self.view_is made

pub invariant_of-self : goal.invariant_of-self
invariant_of-self c = up_last c.loop-node.self-inside.nodes c.args.self.now c.args.line c.loop-node.node c.args.thread
    (omega (arith, c.loop-node-test.false)) c.loop-node.invariant

pub loop-node-preserved : goal.loop-node-preserved
loop-node-preserved c = up_next c.loop-node.self-inside.nodes c.args.self.now c.args.line c.loop-node.node c.args.thread
    c.lower.result (omega arith) (omega (arith, c.loop-node-test.true)) c.lower.ensures c.loop-node.invariant

pub returns : goal.returns
returns c = λ k small. c.loop-node.invariant.leaves k small
