-- What one more entry makes of the devices that an edge is owed to: laws of any past.
use Rattle.std.proofs.Common.{◌≡◌, ◌⊎◌, inl, inr, Bool, true, false, not, ◌||◌, ◌&&◌, List, [], ◌∷◌, refl, arith}
use Rattle.std.proofs.lemmas.Bool.{and_parts, or_cases, or_right}
use Rattle.std.specs.List.{list_any}
use Rattle.irq_base.specs.declared.numbers.DevNo.{DevNo}
use Rattle.irq_base.specs.declared.entries.Entry.{Entry}
use Rattle.irq_base.specs.declared.entries.Entry.TheVariants as by
use Rattle.irq_base.specs.declared.entries.DriverEntry.TheVariants as drivers
use Rattle.irq_base.specs.declared.entries.CallEntry.{CallEntry}
use Rattle.irq_base.specs.declared.entries.CallEntry.TheVariants as called
use Rattle.irq_model.specs.Places.{some_place}
use Rattle.irq_model.specs.Kinds.{is_device_edge, arms_with_edge, is_begin, unlinks_dev, unlinks_this, links_dev}
use Rattle.irq_model.specs.Links.{is_linked, is_started}
use Rattle.irq_model.specs.Owed.{comes_to}
use Rattle.irq_model.proofs.Somewhere.{some_none}
use Rattle.irq_laws.proofs.Lists.{place_imply, both_ways}

-- an ask came to d, and d was neither unlinked nor called since
abbrev pub owes : DevNo → List Entry → List Entry → Bool
owes d after upto = comes_to d upto && (not (list_any (unlinks_dev d) after) && not (list_any (is_begin d) after))

still_owes : (c u b x y : Bool) → (c && (not (u || x) && not (b || y))) ≡ true → (c && (not x && not y)) ≡ true
still_owes c u b x y h = grind arith

never_owes : (c u b x y : Bool) → (u || b) ≡ true → (c && (not (u || x) && not (b || y))) ≡ true → false ≡ true
never_owes c u b x y is h = grind arith

-- what an entry that unlinks d or calls its handler leaves: nothing
owed_before : (d : DevNo) (e : Entry) (past : List Entry) → some_place (λ a u. owes d (e ∷ a) u) past ≡ true
    → (some_place (owes d) past ≡ true) × (unlinks_dev d e ≡ false) × (is_begin d e ≡ false)
owed_before d e past h = by_test (unlinks_dev d e) (is_begin d e) refl refl
  where
    was : some_place (owes d) past ≡ true
    was = place_imply (λ a u. owes d (e ∷ a) u) (owes d) past
        (λ a u. still_owes (comes_to d u) (unlinks_dev d e) (is_begin d e) (list_any (unlinks_dev d) a)
        (list_any (is_begin d) a)) h

    none : (unlinks_dev d e || is_begin d e) ≡ true → ⊥
    none is =
        let n = place_imply (λ a u. owes d (e ∷ a) u) (λ a u. false) past
        (λ a u. never_owes (comes_to d u) (unlinks_dev d e) (is_begin d e) (list_any (unlinks_dev d) a)
        (list_any (is_begin d) a) is) h in
        both_ways (some_place (λ a u. false) past) n (some_none past)

    by_test : (p q : Bool) → unlinks_dev d e ≡ p → is_begin d e ≡ q → (some_place (owes d) past ≡ true) × (unlinks_dev d e ≡ false) × (is_begin d e ≡ false)
    by_test false false p q = (was, p, q)
    by_test true y p q = absurd (none (or_left_of (unlinks_dev d e) (is_begin d e) p))
      where
        or_left_of : (a b : Bool) → a ≡ true → (a || b) ≡ true
        or_left_of a b h = grind arith
    by_test false true p q = absurd (none (or_right (unlinks_dev d e) (is_begin d e) q))

at_once : (c : Bool) → (c && (not false && not false)) ≡ true → c ≡ true
at_once true h = refl
at_once false h = h

pub owed_cases : (d : DevNo) (e : Entry) (past : List Entry) → some_place (owes d) (e ∷ past) ≡ true
    → (comes_to d (e ∷ past) ≡ true) ⊎ ((some_place (owes d) past ≡ true) × (unlinks_dev d e ≡ false) × (is_begin d e ≡ false))
owed_cases d e past h = by_case (or_cases _ _ h)
  where
    by_case : (owes d [] (e ∷ past) ≡ true) ⊎ (some_place (λ a u. owes d (e ∷ a) u) past ≡ true)
        → (comes_to d (e ∷ past) ≡ true) ⊎ ((some_place (owes d) past ≡ true) × (unlinks_dev d e ≡ false)
        × (is_begin d e ≡ false))
    by_case (inl now) = inl (at_once (comes_to d (e ∷ past)) now)
    by_case (inr later) = inr (owed_before d e past later)

asked_stays : (k u l : Bool) → u ≡ false → l ≡ true → (k || (not u && l)) ≡ true
asked_stays k u l a b = grind arith

arms_unlink_not : (d : DevNo) (call : CallEntry) → arms_with_edge call ≡ true → unlinks_this d call ≡ false
arms_unlink_not d (called.Arm makes x) h = refl
arms_unlink_not d call h = cc

asks_unlink_not : (d : DevNo) (e : Entry) → is_device_edge e ≡ true → unlinks_dev d e ≡ false
asks_unlink_not d (by.Driver r (drivers.Ask makes x)) h = refl
asks_unlink_not d (by.CpuCall c call) h = arms_unlink_not d call h
asks_unlink_not d (by.ThreadCall x call) h = arms_unlink_not d call h
asks_unlink_not d (by.DriverCall s call) h = arms_unlink_not d call h
asks_unlink_not d e h = cc

-- an edge is owed to linked devices alone
pub owed_linked : (d : DevNo) (past : List Entry) → some_place (owes d) past ≡ true → is_linked past d ≡ true
owed_linked d [] h = cc
owed_linked d (e ∷ past) h = by_case (owed_cases d e past h) (owed_linked d past)
  where
    by_case : (comes_to d (e ∷ past) ≡ true) ⊎ ((some_place (owes d) past ≡ true) × (unlinks_dev d e ≡ false)
        × (is_begin d e ≡ false)) → (some_place (owes d) past ≡ true → is_linked past d ≡ true)
        → is_linked (e ∷ past) d ≡ true
    by_case (inl now) deeper =
        let p = and_parts (is_device_edge e) (is_started past && is_linked past d) now in
        let q = and_parts (is_started past) (is_linked past d) p.1 in
        asked_stays (links_dev d e) (unlinks_dev d e) (is_linked past d) (asks_unlink_not d e p.0) q.1
    by_case (inr was) deeper = asked_stays (links_dev d e) (unlinks_dev d e) (is_linked past d) was.1 (deeper was.0)
