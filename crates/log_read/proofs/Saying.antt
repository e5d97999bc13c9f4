-- Answers of more than one word.
use Rattle.std.proofs.Common.{◌≡◌, ℕ, Bool, true, false, Option, Some, List, [], ◌∷◌, ◌++◌, refl, sym, codes, ap, subst, ◌∙◌}
use Rattle.std.proofs.lemmas.Option.{none-some}
use Rattle.irq_base.specs.declared.entries.AffinityAnswer.{AffinityAnswer}
use Rattle.irq_base.specs.declared.entries.AffinityAnswer.TheVariants as affinities
use Rattle.irq_base.specs.declared.entries.EnableAnswer.{EnableAnswer}
use Rattle.irq_base.specs.declared.entries.EnableAnswer.TheVariants as enables
use Rattle.irq_base.specs.declared.entries.Errno.TheVariants as errnos
use Rattle.irq_base.specs.declared.entries.LinkAnswer.{LinkAnswer}
use Rattle.irq_base.specs.declared.entries.LinkAnswer.TheVariants as links
use Rattle.irq_base.specs.declared.entries.Opened.{Opened}
use Rattle.irq_base.specs.declared.entries.Opened.TheVariants as opens
use Rattle.log_text.specs.Words.{resend_word, error_word, opened_words, enable_words, affinity_words, edge_words, handled_words}
use Rattle.log_read.proofs.Taking.{under}
use Rattle.log_read.specs.Forms.{TakesOpening, TakesEnabling, TakesLinking, TakesMoving, IsLink, IsMoved, link_said}
use Rattle.log_read.specs.Kinds.{opening_word, linking_word, moving_word}
use Rattle.log_read.specs.Left.{left_of}
use Rattle.log_read.specs.Takes.{TakesAs, Takes, Ends, Any, one, text_words}
use Rattle.log_read.specs.declared.kinds.Opening.{Opening}
use Rattle.log_read.specs.declared.kinds.Opening.TheVariants as openings
use Rattle.log_read.specs.declared.kinds.Linking.{Linking}
use Rattle.log_read.specs.declared.kinds.Linking.TheVariants as linkings
use Rattle.log_read.specs.declared.kinds.Moving.{Moving}
use Rattle.log_read.specs.declared.kinds.Moving.TheVariants as movings
use Rattle.log_read.specs.declared.words.Words.{Words}

-- what is read of an answer
abbrev pub Sound : {X : Type 0} → (X → Type 0) → (X → List (List ℕ)) → Words → Words → X → Type 0
Sound {X} Fits write old new y = (rest : List (List ℕ)) → left_of new ≡ Some rest → (x : X) × Fits x × (y ≡ x) × (left_of old ≡ Some (write x ++ rest))

abbrev pub Complete : {X : Type 0} → (X → Type 0) → (X → List (List ℕ)) → Words → Words → X → Type 0
Complete {X} Fits write old new y = (x : X) (rest : List (List ℕ)) → Fits x → left_of old ≡ Some (write x ++ rest) → (y ≡ x) × (left_of new ≡ Some rest)

abbrev pub EndSound : {X : Type 0} → (X → Type 0) → (X → List (List ℕ)) → Words → Words → X → Type 0
EndSound {X} Fits write old new y = left_of new ≡ Some [] → (x : X) × Fits x × (y ≡ x) × (left_of old ≡ Some (write x))

abbrev pub EndComplete : {X : Type 0} → (X → Type 0) → (X → List (List ℕ)) → Words → Words → X → Type 0
EndComplete {X} Fits write old new y = (x : X) → Fits x → left_of old ≡ Some (write x) → (y ≡ x) × (left_of new ≡ Some [])

module _ (old mid new : Words) where
  opened_sound : (opening : Opening) (y : Opened) → Takes (one opening_word) old mid opening → TakesOpening opening mid new y → Sound Any opened_words old new y
  opened_sound openings.No y took t rest h = let s = (under took t).sound rest h in (opens.No, tt, s.2, s.3)
  opened_sound openings.Unbalanced y took t rest h = let s = (under took t).sound rest h in (opens.Unbalanced, tt, s.2, s.3)
  opened_sound openings.Lowered y took t rest h = let s = (under took t).sound rest h in (opens.Lowered, tt, s.2, s.3)
  opened_sound openings.Started y took t rest h = let s = (under took t).sound rest h in (opens.Started s.0, tt, s.2, s.3)

  opened_complete : (opening : Opening) (y : Opened) → Takes (one opening_word) old mid opening
      → TakesOpening opening mid new y → Complete Any opened_words old new y
  opened_complete opening y took t opens.No rest fits h =
      let v = took.complete openings.No rest tt h in (subst (λ v. TakesOpening v mid new y) v.0 t).complete tt rest tt v.1
  opened_complete opening y took t opens.Unbalanced rest fits h =
      let v = took.complete openings.Unbalanced rest tt h in (subst (λ v. TakesOpening v mid new y) v.0 t).complete tt rest tt v.1
  opened_complete opening y took t opens.Lowered rest fits h =
      let v = took.complete openings.Lowered rest tt h in (subst (λ v. TakesOpening v mid new y) v.0 t).complete tt rest tt v.1
  opened_complete opening y took t (opens.Started resend) rest fits h =
      let v = took.complete openings.Started (resend_word resend ∷ rest) tt h in (subst (λ v. TakesOpening v mid new y) v.0 t).complete resend rest tt v.1

  pub opened_takes : (opening : Opening) (y : Opened) → Takes (one opening_word) old mid opening → TakesOpening opening mid new y → Takes opened_words old new y
  opened_takes opening y took t = record { sound = opened_sound opening y took t; complete = opened_complete opening y took t }

  enabled_sound : (opening : Opening) (y : EnableAnswer) → Takes (one opening_word) old mid opening
      → TakesEnabling opening mid new y → Sound Any enable_words old new y
  enabled_sound openings.No y took t rest h = absurd (none-some rest (sym t ∙ h))
  enabled_sound openings.Unbalanced y took t rest h = let s = (under took t).sound rest h in (enables.Unbalanced, tt, s.2, s.3)
  enabled_sound openings.Lowered y took t rest h = let s = (under took t).sound rest h in (enables.Lowered, tt, s.2, s.3)
  enabled_sound openings.Started y took t rest h = let s = (under took t).sound rest h in (enables.Started s.0, tt, s.2, s.3)

  enabled_complete : (opening : Opening) (y : EnableAnswer) → Takes (one opening_word) old mid opening
      → TakesEnabling opening mid new y → Complete Any enable_words old new y
  enabled_complete opening y took t enables.Unbalanced rest fits h =
      let v = took.complete openings.Unbalanced rest tt h in (subst (λ v. TakesEnabling v mid new y) v.0 t).complete tt rest tt v.1
  enabled_complete opening y took t enables.Lowered rest fits h =
      let v = took.complete openings.Lowered rest tt h in (subst (λ v. TakesEnabling v mid new y) v.0 t).complete tt rest tt v.1
  enabled_complete opening y took t (enables.Started resend) rest fits h =
      let v = took.complete openings.Started (resend_word resend ∷ rest) tt h in (subst (λ v. TakesEnabling v mid new y) v.0 t).complete resend rest tt v.1

  pub enabled_takes : (opening : Opening) (y : EnableAnswer) → Takes (one opening_word) old mid opening
      → TakesEnabling opening mid new y → Takes enable_words old new y
  enabled_takes opening y took t = record { sound = enabled_sound opening y took t; complete = enabled_complete opening y took t }

  linked_sound : (linking : Linking) (y : LinkAnswer × Opened) → Takes (one linking_word) old mid linking
      → TakesLinking linking mid new y → Sound IsLink link_said old new y
  linked_sound linkings.Linked y took t rest h = let s = (under took t).sound rest h in ((links.Linked, s.0), tt, s.2, s.3)
  linked_sound linkings.Refused y took t rest h = let s = (under took t).sound rest h in ((links.Refused s.0, opens.No), refl, s.2, s.3)

  linked_complete : (linking : Linking) (y : LinkAnswer × Opened) → Takes (one linking_word) old mid linking
      → TakesLinking linking mid new y → Complete IsLink link_said old new y
  linked_complete linking y took t (links.Linked, opened) rest fits h =
      let v = took.complete linkings.Linked (opened_words opened ++ rest) tt h in (subst (λ v. TakesLinking v mid new y) v.0 t).complete opened rest tt v.1
  linked_complete linking y took t (links.Refused errno, opened) rest fits h =
      let v = took.complete linkings.Refused (error_word errno ∷ rest) tt h in
      let s = (subst (λ v. TakesLinking v mid new y) v.0 t).complete errno rest tt v.1 in
      (s.0 ∙ ap (λ (o : Opened). (links.Refused errno, o)) (sym fits), s.1)

  pub linked_takes : (linking : Linking) (y : LinkAnswer × Opened) → Takes (one linking_word) old mid linking
      → TakesLinking linking mid new y → TakesAs IsLink link_said (λ link. link) old new y
  linked_takes linking y took t = record { sound = linked_sound linking y took t; complete = linked_complete linking y took t }

  moved_sound : (moving : Moving) (y : AffinityAnswer) → Takes (one moving_word) old mid moving
      → TakesMoving moving mid new y → Sound IsMoved affinity_words old new y
  moved_sound movings.Now y took t rest h = let s = (under took t).sound rest h in (affinities.Now, tt, s.2, s.3)
  moved_sound movings.Later y took t rest h = let s = (under took t).sound rest h in (affinities.Later, tt, s.2, s.3)
  moved_sound movings.Refused y took t rest h = let s = (under took t).sound rest h in (affinities.Refused errnos.Inval, refl, s.2, s.3)

  moved_complete : (moving : Moving) (y : AffinityAnswer) → Takes (one moving_word) old mid moving
      → TakesMoving moving mid new y → Complete IsMoved affinity_words old new y
  moved_complete moving y took t affinities.Now rest fits h =
      let v = took.complete movings.Now rest tt h in (subst (λ v. TakesMoving v mid new y) v.0 t).complete tt rest tt v.1
  moved_complete moving y took t affinities.Later rest fits h =
      let v = took.complete movings.Later rest tt h in (subst (λ v. TakesMoving v mid new y) v.0 t).complete tt rest tt v.1
  moved_complete moving y took t (affinities.Refused errno) rest fits h =
      let v = took.complete movings.Refused (codes "22" ∷ rest) tt (h ∙ ap (λ e. Some (codes "refused" ∷ error_word e ∷ rest)) fits) in
      let s = (subst (λ v. TakesMoving v mid new y) v.0 t).complete tt rest tt v.1 in
      (s.0 ∙ ap (λ e. affinities.Refused e) (sym fits), s.1)

  pub moved_takes : (moving : Moving) (y : AffinityAnswer) → Takes (one moving_word) old mid moving
      → TakesMoving moving mid new y → TakesAs IsMoved affinity_words (λ answer. answer) old new y
  moved_takes moving y took t = record { sound = moved_sound moving y took t; complete = moved_complete moving y took t }

-- last words that some rows lack

pub edge_ended : (words : Words) → left_of words ≡ Some [] → Ends edge_words words words true
edge_ended words none = record { sound = λ h. (true, tt, refl, none); complete = λ x fits h. (by x (sym none ∙ h), none) }
  where
    by : (x : Bool) → ◌≡◌ {A = Option (List (List ℕ))} (Some []) (Some (edge_words x)) → true ≡ x
    by true h = refl
    by false h = cc

pub edge_said : (old new : Words) → (left_of old ≡ Some [] → ⊥) → TakesAs Any (text_words (codes "no")) (λ u. u) old new tt → Ends edge_words old new false
edge_said old new some t = record { sound = λ h. let s = t.sound [] h in (false, tt, refl, s.3); complete = λ x fits h. by x h }
  where
    by : (x : Bool) → left_of old ≡ Some (edge_words x) → (false ≡ x) × (left_of new ≡ Some [])
    by true h = absurd (some h)
    by false h = (refl, (t.complete tt [] tt h).1)

abbrev pub HandledEnds : Bool → Words → Words → Bool → Type 0
HandledEnds served old new x = Ends (λ handled. handled_words handled served) old new x

pub handled_ended : (words : Words) (served : Bool) → left_of words ≡ Some [] → HandledEnds served words words served
handled_ended words served none = record {
  sound = λ h. (served, tt, refl, none ∙ ap (λ ws. Some ws) (sym (told served)));
  complete = λ x fits h. (by x served (sym none ∙ h), none);
}
  where
    told : (x : Bool) → handled_words x x ≡ []
    told true = refl
    told false = refl

    by : (x s : Bool) → ◌≡◌ {A = Option (List (List ℕ))} (Some []) (Some (handled_words x s)) → s ≡ x
    by true true h = refl
    by true false h = cc
    by false true h = cc
    by false false h = refl

pub handled_nothing : (old new : Words) (served : Bool) → served ≡ true → (left_of old ≡ Some [] → ⊥)
    → TakesAs Any (text_words (codes "nothing")) (λ u. u) old new tt → HandledEnds served old new false
handled_nothing old new served is some t = rw is (record { sound = λ h. let s = t.sound [] h in (false, tt, refl, s.3); complete = λ x fits h. by x h })
  where
    by : (x : Bool) → left_of old ≡ Some (handled_words x true) → (false ≡ x) × (left_of new ≡ Some [])
    by true h = absurd (some h)
    by false h = (refl, (t.complete tt [] tt h).1)

pub handled_handled : (old new : Words) (served : Bool) → served ≡ false → (left_of old ≡ Some [] → ⊥)
    → TakesAs Any (text_words (codes "handled")) (λ u. u) old new tt → HandledEnds served old new true
handled_handled old new served is some t = rw is (record { sound = λ h. let s = t.sound [] h in (true, tt, refl, s.3); complete = λ x fits h. by x h })
  where
    by : (x : Bool) → left_of old ≡ Some (handled_words x false) → (true ≡ x) × (left_of new ≡ Some [])
    by true h = (refl, (t.complete tt [] tt h).1)
    by false h = absurd (some h)
