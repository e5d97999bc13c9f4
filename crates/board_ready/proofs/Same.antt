-- Two parts that agree in each field are the same; and putting a readiness where it already stands
-- changes nothing.
use Rattle.std.proofs.Common.{◌≡◌, ℕ, Bool, Option, Some, List, set, get_or, sym, ap, ◌∙◌}
use Rattle.std.proofs.lemmas.List.{set-get_or}
use Rattle.irq_base.specs.declared.numbers.CpuNo.{CpuNo}
use Rattle.irq_base.specs.declared.numbers.DevNo.{DevNo}
use Rattle.irq_base.specs.declared.waiting.Blocks.{Blocks}
use Rattle.irq_base.specs.declared.waiting.WaitFor.{WaitFor}
use Rattle.board_ready.specs.declared.parts.CurrentCall.{CurrentCall}
use Rattle.board_ready.specs.declared.parts.LineReadiness.{LineReadiness}
use Rattle.board_ready.specs.declared.parts.ReadyThread.{ReadyThread}

same_parts : (a b : LineReadiness) → a.thread ≡ b.thread → a.flow ≡ b.flow → a.spins ≡ b.spins → a.taker ≡ b.taker
    → a.blocks ≡ b.blocks → a ≡ b
same_parts a b t f s k x =
    ap (λ (z : Option DevNo). record a { thread = z }) t
    ∙ (ap (λ (z : Option CpuNo). record a { thread = b.thread; flow = z }) f
    ∙ (ap (λ (z : Bool). record a { thread = b.thread; flow = b.flow; spins = z }) s
    ∙ (ap (λ (z : Option CpuNo). record b { taker = z; blocks = a.blocks }) k ∙ ap (λ (z : Blocks). record b { blocks = z }) x)))

pub same_thread : (a b : ReadyThread) → a.line ≡ b.line → a.dev ≡ b.dev → Some a ≡ Some b
same_thread a b l d = ap (λ (z : ℕ). Some (record a { line = z })) l ∙ ap (λ (z : DevNo). Some (record b { dev = z })) d

pub same_call : (a b : CurrentCall) → a.line ≡ b.line → a.wait ≡ b.wait → Some a ≡ Some b
same_call a b l w = ap (λ (z : ℕ). Some (record a { line = z })) l ∙ ap (λ (z : WaitFor). Some (record b { wait = z })) w

same_blocks : (a b : Blocks) → a.flow ≡ b.flow → a.threads ≡ b.threads → a.mutex ≡ b.mutex → a.freed ≡ b.freed → a ≡ b
same_blocks a b f t m d =
    ap (λ (z : Bool). record a { flow = z }) f
    ∙ (ap (λ (z : Bool). record a { flow = b.flow; threads = z }) t
    ∙ (ap (λ (z : Bool). record b { mutex = z; freed = a.freed }) m ∙ ap (λ (z : Bool). record b { freed = z }) d))

pub same_readiness : (a b : LineReadiness) → a.thread ≡ b.thread → a.flow ≡ b.flow → a.spins ≡ b.spins → a.taker ≡ b.taker
    → a.blocks.flow ≡ b.blocks.flow → a.blocks.threads ≡ b.blocks.threads → a.blocks.mutex ≡ b.blocks.mutex
    → a.blocks.freed ≡ b.blocks.freed → a ≡ b
same_readiness a b t f s k xf xt xm xd = same_parts a b t f s k (same_blocks a.blocks b.blocks xf xt xm xd)

-- the readiness is put in its own place
pub readiness_stands : (lines : List LineReadiness) (k : ℕ) (was readiness : LineReadiness) → was ≡ get_or lines k was
    → was ≡ readiness → lines ≡ set lines k readiness
readiness_stands lines k was readiness read same = sym (ap (set lines k) (sym same ∙ read) ∙ set-get_or lines k was)

-- the call is put in its own place
pub call_stands : (drivers : List (Option CurrentCall)) (j : ℕ) (was call : Option CurrentCall)
    → was ≡ get_or drivers j was → was ≡ call → drivers ≡ set drivers j call
call_stands drivers j was call read same = sym (ap (set drivers j) (sym same ∙ read) ∙ set-get_or drivers j was)
