use Rattle.std.proofs.Common.{◌≡◌, drop}
use Rattle.domain_rules.specs.Domains.{is_msi}
use Rattle.domain_rules.specs.Levels.{is_some_kind, masking_kind}
use Rattle.domain_chain.proofs.roots.masks_by_message.Given as goal

-- the levels that are left mask as all do
abbrev pub invariant-loop-kind : goal.invariant-loop-kind
invariant-loop-kind l = is_some_kind is_msi (masking_kind (drop l.kind-index l.kinds)) ≡ is_some_kind is_msi (masking_kind l.kinds)
