-- Which level of a path masks, and what that makes of the cell of all.
use Rattle.std.proofs.Common.{◌≡◌, ℕ, ◌+◌, ◌-◌, ◌<◌, Bool, true, false, ◌&&◌, is_some, Option, Some, None, List, []}
use Rattle.std.proofs.Common.{◌∷◌, length, refl, sym, ap, ◌∙◌, arith, zero, suc, subst}
use Rattle.std.specs.Prelude.{slice_index_or}
use Rattle.std.proofs.lemmas.Bool.{false≢true}
use Rattle.chip_msi.specs.Messages.{LevelSeen}
use Rattle.irq_base.specs.Cell.{Cell, fresh_cell}
use Rattle.irq_base.specs.declared.domains.ControllerKind.{ControllerKind}
use Rattle.irq_base.specs.declared.domains.ControllerKind.TheVariants as levels
use Rattle.domain_rules.specs.Domains.{is_msi}
use Rattle.domain_rules.specs.Levels.{masking_kind, root_kind, is_root_kind, presents_level_kind, is_some_kind}
use Rattle.domain_rules.specs.Levels.{trigger_of_root, keeps_kind, stores_at_root, retriggers_kind, serves_kind}
use Rattle.domain_rules.specs.Levels.{cell_of}
use Rattle.domain_chain.specs.Chains.{is_path_of_kinds, has_messages, root_cell, chain_cell, IsOpenBehind, fresh_chain, some_if}

-- the root masks, or a level of messages does; and that is so exactly if a level sends messages
pub data Masking (kinds : List ControllerKind) : Type 0 where
  by_root : masking_kind kinds ≡ Some (root_kind kinds) → has_messages kinds ≡ false → is_msi (root_kind kinds) ≡ false → Masking kinds
  by_message : masking_kind kinds ≡ Some levels.Msi → has_messages kinds ≡ true → Masking kinds

goes_on : (x : ControllerKind) (xs : List ControllerKind) → Masking (x ∷ xs) → Masking (levels.Remap ∷ (x ∷ xs))
goes_on x xs (by_root m h r) = by_root m h r
goes_on x xs (by_message m h) = by_message m h

pub masking_of : (kinds : List ControllerKind) → is_path_of_kinds kinds ≡ true → is_some (masking_kind kinds) ≡ true → Masking kinds
masking_of [] p m = absurd (false≢true p)
masking_of (levels.Latch ∷ []) p m = by_root refl refl refl
masking_of (levels.Plain ∷ []) p m = by_root refl refl refl
masking_of (levels.Level ∷ []) p m = by_root refl refl refl
masking_of (levels.Eoi ∷ []) p m = by_root refl refl refl
masking_of (levels.Lpi ∷ []) p m = by_root refl refl refl
masking_of (levels.Pin ∷ []) p m = by_root refl refl refl
masking_of (levels.Vector ∷ []) p m = absurd (false≢true m)
masking_of (levels.Msi ∷ []) p m = absurd (false≢true p)
masking_of (levels.Remap ∷ []) p m = absurd (false≢true p)
masking_of (levels.Msi ∷ (x ∷ xs)) p m = by_message refl refl
masking_of (levels.Remap ∷ (x ∷ xs)) p m = goes_on x xs (masking_of (x ∷ xs) p m)
masking_of (levels.Latch ∷ (x ∷ xs)) p m = absurd (false≢true p)
masking_of (levels.Plain ∷ (x ∷ xs)) p m = absurd (false≢true p)
masking_of (levels.Level ∷ (x ∷ xs)) p m = absurd (false≢true p)
masking_of (levels.Eoi ∷ (x ∷ xs)) p m = absurd (false≢true p)
masking_of (levels.Vector ∷ (x ∷ xs)) p m = absurd (false≢true p)
masking_of (levels.Lpi ∷ (x ∷ xs)) p m = absurd (false≢true p)
masking_of (levels.Pin ∷ (x ∷ xs)) p m = absurd (false≢true p)

pub root_is_root : (kinds : List ControllerKind) → is_path_of_kinds kinds ≡ true → is_root_kind (root_kind kinds) ≡ true
root_is_root [] p = absurd (false≢true p)
root_is_root (k ∷ []) p = p
root_is_root (levels.Latch ∷ (x ∷ xs)) p = absurd (false≢true p)
root_is_root (levels.Plain ∷ (x ∷ xs)) p = absurd (false≢true p)
root_is_root (levels.Level ∷ (x ∷ xs)) p = absurd (false≢true p)
root_is_root (levels.Eoi ∷ (x ∷ xs)) p = absurd (false≢true p)
root_is_root (levels.Vector ∷ (x ∷ xs)) p = absurd (false≢true p)
root_is_root (levels.Lpi ∷ (x ∷ xs)) p = absurd (false≢true p)
root_is_root (levels.Pin ∷ (x ∷ xs)) p = absurd (false≢true p)
root_is_root (levels.Msi ∷ (x ∷ xs)) p = root_is_root (x ∷ xs) p
root_is_root (levels.Remap ∷ (x ∷ xs)) p = root_is_root (x ∷ xs) p

-- a path has a level, and the last is its root
pub has_level : (kinds : List ControllerKind) → is_path_of_kinds kinds ≡ true → 0 < length kinds
has_level [] p = absurd (false≢true p)
has_level (k ∷ ks) p = omega arith

pub root_is_last : (kinds : List ControllerKind) (n : ℕ) → is_path_of_kinds kinds ≡ true → n + 1 ≡ length kinds
    → slice_index_or kinds n levels.Latch ≡ root_kind kinds
root_is_last [] n p e = absurd (false≢true p)
root_is_last (k ∷ []) zero p e = refl
root_is_last (k ∷ []) (suc n) p e = absurd (omega (arith, e))
root_is_last (k ∷ (x ∷ xs)) zero p e = absurd (omega (arith, e))
root_is_last (levels.Msi ∷ (x ∷ xs)) (suc n) p e = root_is_last (x ∷ xs) n p (omega (arith, e))
root_is_last (levels.Remap ∷ (x ∷ xs)) (suc n) p e = root_is_last (x ∷ xs) n p (omega (arith, e))
root_is_last (levels.Latch ∷ (x ∷ xs)) (suc n) p e = absurd (false≢true p)
root_is_last (levels.Plain ∷ (x ∷ xs)) (suc n) p e = absurd (false≢true p)
root_is_last (levels.Level ∷ (x ∷ xs)) (suc n) p e = absurd (false≢true p)
root_is_last (levels.Eoi ∷ (x ∷ xs)) (suc n) p e = absurd (false≢true p)
root_is_last (levels.Vector ∷ (x ∷ xs)) (suc n) p e = absurd (false≢true p)
root_is_last (levels.Lpi ∷ (x ∷ xs)) (suc n) p e = absurd (false≢true p)
root_is_last (levels.Pin ∷ (x ∷ xs)) (suc n) p e = absurd (false≢true p)

-- which of the two it is, by whether the masking level is one of messages
pub by_messages : (kinds : List ControllerKind) → is_path_of_kinds kinds ≡ true → is_some (masking_kind kinds) ≡ true
    → is_some_kind is_msi (masking_kind kinds) ≡ true
    → (masking_kind kinds ≡ Some levels.Msi) × (has_messages kinds ≡ true)
by_messages kinds p m t =
    let by : Masking kinds → (masking_kind kinds ≡ Some levels.Msi) × (has_messages kinds ≡ true) = λ (w : Masking kinds). elim w [
      | by_root a h r ↦ absurd (false≢true (sym r ∙ (sym (ap (is_some_kind is_msi) a) ∙ t)))
      | by_message a h ↦ (a, h)
    ] in by (masking_of kinds p m)

pub by_its_root : (kinds : List ControllerKind) → is_path_of_kinds kinds ≡ true → is_some (masking_kind kinds) ≡ true
    → is_some_kind is_msi (masking_kind kinds) ≡ false
    → (masking_kind kinds ≡ Some (root_kind kinds)) × (has_messages kinds ≡ false)
by_its_root kinds p m t =
    let by : Masking kinds → (masking_kind kinds ≡ Some (root_kind kinds)) × (has_messages kinds ≡ false) = λ (w : Masking kinds). elim w [
      | by_root a h r ↦ (a, h)
      | by_message a h ↦ absurd (false≢true (sym t ∙ ap (is_some_kind is_msi) a))
    ] in by (masking_of kinds p m)

-- ---- the cell

abbrev opened_cell : Cell → Cell
opened_cell root = record root { masked = false }

abbrev cell_by : ControllerKind → Option ControllerKind → Cell
cell_by k m = fresh_cell (trigger_of_root k) (is_some_kind keeps_kind m) (is_some_kind stores_at_root m) (retriggers_kind k) (serves_kind k)

abbrev pub fresh_level : LevelSeen
fresh_level = record { masked = true; pending = false }

behind_kind : (k : ControllerKind) → presents_level_kind k ≡ false → chain_cell (Some fresh_level) (opened_cell (root_cell k)) ≡ cell_by k (Some levels.Msi)
behind_kind levels.Latch p = refl
behind_kind levels.Plain p = refl
behind_kind levels.Level p = absurd (false≢true (sym p))
behind_kind levels.Eoi p = absurd (false≢true (sym p))
behind_kind levels.Vector p = refl
behind_kind levels.Lpi p = refl
behind_kind levels.Pin p = refl
behind_kind levels.Msi p = refl
behind_kind levels.Remap p = refl

open_kind : (k : ControllerKind) → presents_level_kind k ≡ false → IsOpenBehind (Some fresh_level) (opened_cell (root_cell k))
open_kind levels.Latch p = (refl, refl)
open_kind levels.Plain p = (refl, refl)
open_kind levels.Level p = absurd (false≢true (sym p))
open_kind levels.Eoi p = absurd (false≢true (sym p))
open_kind levels.Vector p = (refl, refl)
open_kind levels.Lpi p = (refl, refl)
open_kind levels.Pin p = (refl, refl)
open_kind levels.Msi p = (refl, refl)
open_kind levels.Remap p = (refl, refl)

-- a root behind messages presents edges
pub edges_only : (has presents : Bool) → (has && presents) ≡ false → has ≡ true → presents ≡ false
edges_only true presents e h = e
edges_only false presents e h = absurd (false≢true h)

pub edges_of : (kinds : List ControllerKind) → (has_messages kinds && presents_level_kind (root_kind kinds)) ≡ false
    → has_messages kinds ≡ true → presents_level_kind (root_kind kinds) ≡ false
edges_of kinds e h = edges_only (has_messages kinds) (presents_level_kind (root_kind kinds)) e h

pub root_after : (kinds : List ControllerKind) (root : Cell) → is_path_of_kinds kinds ≡ true
    → root ≡ root_cell (slice_index_or kinds (length kinds - 1) levels.Latch) → root ≡ root_cell (root_kind kinds)
root_after kinds root p e = e ∙ ap root_cell (root_is_last kinds (length kinds - 1) p (omega (arith, has_level kinds p)))

-- behind a level of messages the root is open
pub open_behind : (kind : ControllerKind) (root after : Cell) → root ≡ root_cell kind → after ≡ opened_cell root
    → presents_level_kind kind ≡ false → IsOpenBehind (Some fresh_level) after
open_behind kind root after e o p = subst (IsOpenBehind (Some fresh_level)) (sym (o ∙ ap opened_cell e)) (open_kind kind p)

-- and the cell of both is the path's
pub behind_messages : (kinds : List ControllerKind) (root after : Cell) → root ≡ root_cell (root_kind kinds)
    → after ≡ opened_cell root → masking_kind kinds ≡ Some levels.Msi → presents_level_kind (root_kind kinds) ≡ false
    → chain_cell (Some fresh_level) after ≡ cell_of kinds
behind_messages kinds root after e o m p = ap (chain_cell (Some fresh_level)) (o ∙ ap opened_cell e)
    ∙ (behind_kind (root_kind kinds) p ∙ ap (cell_by (root_kind kinds)) (sym m))

-- if the root masks, the path's cell is the root's
pub at_root : (kinds : List ControllerKind) → masking_kind kinds ≡ Some (root_kind kinds) → root_cell (root_kind kinds) ≡ cell_of kinds
at_root kinds m = ap (cell_by (root_kind kinds)) (sym m)

-- ---- the chain

same_chain : (a b : Cell) (n : ℕ) (s t : Option ℕ) → a ≡ b → s ≡ t → fresh_chain a n s ≡ fresh_chain b n t
same_chain a b n s t x y = ap (λ c. fresh_chain c n s) x ∙ ap (fresh_chain b n) y

pub message_chain : (kinds : List ControllerKind) (root after : Cell) (level : LevelSeen) (number : ℕ)
    → level ≡ fresh_level → root ≡ root_cell (root_kind kinds) → after ≡ opened_cell root
    → masking_kind kinds ≡ Some levels.Msi → has_messages kinds ≡ true → presents_level_kind (root_kind kinds) ≡ false
    → fresh_chain (chain_cell (Some level) after) (length kinds) (Some number)
    ≡ fresh_chain (cell_of kinds) (length kinds) (some_if (has_messages kinds) number)
message_chain kinds root after level number l e o m h p =
    same_chain (chain_cell (Some level) after) (cell_of kinds) (length kinds) (Some number)
    (some_if (has_messages kinds) number) (ap (λ x. chain_cell (Some x) after) l
    ∙ behind_messages kinds root after e o m p) (ap (λ b. some_if b number) (sym h))

pub root_chain : (kinds : List ControllerKind) (root : Cell) (number : ℕ) → root ≡ root_cell (root_kind kinds)
    → masking_kind kinds ≡ Some (root_kind kinds) → has_messages kinds ≡ false
    → fresh_chain root (length kinds) None ≡ fresh_chain (cell_of kinds) (length kinds) (some_if (has_messages kinds) number)
root_chain kinds root number e m h =
    same_chain root (cell_of kinds) (length kinds) None (some_if (has_messages kinds) number) (e ∙ at_root kinds m) (ap (λ b. some_if b number) (sym h))
