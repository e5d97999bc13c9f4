-- The step of a call, by its maker: what an entry of it tells of the line doesn't depend on who made it.
use Rattle.std.proofs.Common.{◌≡◌, Bool, true, false, List, ◌∷◌, refl, ap, ◌∙◌}
use Rattle.irq_base.specs.declared.entries.Actor.{Actor}
use Rattle.irq_base.specs.declared.entries.Actor.TheVariants as actors
use Rattle.irq_base.specs.declared.entries.CallEntry.{CallEntry}
use Rattle.irq_base.specs.declared.entries.Entry.{Entry}
use Rattle.irq_base.specs.Who.{actor_of}
use Rattle.irq_model.specs.Kinds.{is_call, made_by, is_by, same_actor}
use Rattle.irq_model.specs.Links.{linked, is_first_request}
use Rattle.irq_model.proofs.Same.{same_self_actor}
use Rattle.irq_laws.specs.Actors.{by_someone}

pub is_made : (a : Actor) (call : CallEntry) (t : CallEntry → Bool) → is_call t (made_by a call) ≡ t call
is_made (actors.Cpu c) call t = refl
is_made (actors.Thread d) call t = refl
is_made (actors.Driver r) call t = refl

pub maker_is : (a : Actor) (call : CallEntry) → actor_of (made_by a call) ≡ a
maker_is (actors.Cpu c) call = refl
maker_is (actors.Thread d) call = refl
maker_is (actors.Driver r) call = refl

pub by_maker : (a : Actor) (call : CallEntry) → is_by a (made_by a call) ≡ true
by_maker a call = ap (same_actor a) (maker_is a call) ∙ same_self_actor a

pub no_first : (a : Actor) (call : CallEntry) (past : List Entry) → is_first_request (made_by a call ∷ past) ≡ false
no_first (actors.Cpu c) call past = refl
no_first (actors.Thread d) call past = refl
no_first (actors.Driver r) call past = refl

pub linked_made : (a : Actor) (call : CallEntry) (past : List Entry) → linked (made_by a call ∷ past) ≡ linked (by_someone call ∷ past)
linked_made (actors.Cpu c) call past = refl
linked_made (actors.Thread d) call past = refl
linked_made (actors.Driver r) call past = refl
