-- Calls, kind by kind: each is read exactly as it is written.
use Rattle.std.proofs.Common.{◌≡◌, ℕ, Bool, true, false, Option, Some, None, List, [], ◌∷◌, ◌++◌, codes, decimal, cond, refl, sym, ap, subst, ◌∙◌}
use Rattle.std.proofs.lemmas.Bool.{false≢true}
use Rattle.std.proofs.lemmas.Option.{none-some}
use Rattle.std.proofs.lemmas.List.{append-nil}
use Rattle.std.specs.Prelude.{MatchOption}
use Rattle.std.specs.Str.{bytes_eq}
use Rattle.irq_base.specs.declared.entries.CallEntry.{CallEntry}
use Rattle.irq_base.specs.declared.entries.CallEntry.TheVariants as called
use Rattle.log_text.specs.EntryWords.{call_words}
use Rattle.log_text.specs.Formed.{HasSmallCall}
use Rattle.log_text.specs.Words.{enable_words, unlink_word, yes_word}
use Rattle.log_read.specs.Forms.{dev_no, TakesCall, TakesCallFrom}
use Rattle.log_read.specs.Kinds.{call_verb_word}
use Rattle.log_read.specs.Left.{left_of}
use Rattle.log_read.specs.Takes.{Takes, Any, Reads, one}
use Rattle.log_read.specs.declared.calls.CallVerb.{CallVerb}
use Rattle.log_read.specs.declared.calls.CallVerb.TheVariants as call_verbs
use Rattle.log_read.specs.declared.words.Words.{Words}

-- the first word of a call, and the others

abbrev pub verb_of : CallEntry → CallVerb
verb_of called.Disable = call_verbs.Disable
verb_of called.HardClear = call_verbs.HardClear
verb_of called.Synced = call_verbs.Synced
verb_of (called.Enable answer) = call_verbs.Enable
verb_of (called.Unlink answer dev) = call_verbs.Unlink
verb_of (called.Freed dev) = call_verbs.Freed
verb_of (called.Wake woken dev) = call_verbs.Wake
verb_of (called.Quiet dev) = call_verbs.Quiet
verb_of (called.Arm edge dev) = call_verbs.Arm
verb_of (called.Serve dev served) = call_verbs.Serve

abbrev pub tail_of : CallEntry → List (List ℕ)
tail_of called.Disable = []
tail_of called.HardClear = []
tail_of called.Synced = []
tail_of (called.Enable answer) = enable_words answer
tail_of (called.Unlink answer dev) = decimal dev.0 ∷ unlink_word answer ∷ []
tail_of (called.Freed dev) = decimal dev.0 ∷ []
tail_of (called.Wake woken dev) = decimal dev.0 ∷ yes_word woken ∷ []
tail_of (called.Quiet dev) = decimal dev.0 ∷ []
tail_of (called.Arm edge dev) = decimal dev.0 ∷ yes_word edge ∷ []
tail_of (called.Serve dev served) = decimal dev.0 ∷ decimal served ∷ []

pub call_parts : (x : CallEntry) → call_words x ≡ call_verb_word (verb_of x) ∷ tail_of x
call_parts called.Disable = refl
call_parts called.HardClear = refl
call_parts called.Synced = refl
call_parts (called.Enable answer) = refl
call_parts (called.Unlink answer dev) = refl
call_parts (called.Freed dev) = refl
call_parts (called.Wake woken dev) = refl
call_parts (called.Quiet dev) = refl
call_parts (called.Arm edge dev) = refl
call_parts (called.Serve dev served) = refl

abbrev is : List ℕ → List ℕ → Bool
is word text = bytes_eq word text

-- the verb that the word says
abbrev call_at : List ℕ → CallVerb
call_at word =
    cond (is word (codes "disable")) call_verbs.Disable
    (cond (is word (codes "hardclear")) call_verbs.HardClear
    (cond (is word (codes "synced")) call_verbs.Synced
    (cond (is word (codes "enable")) call_verbs.Enable
    (cond (is word (codes "unlink")) call_verbs.Unlink
    (cond (is word (codes "freed")) call_verbs.Freed
    (cond (is word (codes "wake")) call_verbs.Wake
    (cond (is word (codes "quiet")) call_verbs.Quiet
    (cond (is word (codes "arm")) call_verbs.Arm call_verbs.Serve))))))))

call_back : (v : CallVerb) → call_at (call_verb_word v) ≡ v
call_back call_verbs.Disable = refl
call_back call_verbs.HardClear = refl
call_back call_verbs.Synced = refl
call_back call_verbs.Enable = refl
call_back call_verbs.Unlink = refl
call_back call_verbs.Freed = refl
call_back call_verbs.Wake = refl
call_back call_verbs.Quiet = refl
call_back call_verbs.Arm = refl
call_back call_verbs.Serve = refl

call_tells : (a b : CallVerb) → call_verb_word a ≡ call_verb_word b → a ≡ b
call_tells a b same = sym (call_back a) ∙ (ap call_at same ∙ call_back b)

-- the word is a call's
abbrev pub is_call_word : List ℕ → Bool
is_call_word word = is (call_verb_word (call_at word)) word

call_is : (v : CallVerb) → is_call_word (call_verb_word v) ≡ true
call_is call_verbs.Disable = refl
call_is call_verbs.HardClear = refl
call_is call_verbs.Synced = refl
call_is call_verbs.Enable = refl
call_is call_verbs.Unlink = refl
call_is call_verbs.Freed = refl
call_is call_verbs.Wake = refl
call_is call_verbs.Quiet = refl
call_is call_verbs.Arm = refl
call_is call_verbs.Serve = refl

-- what follows the verb

module _ (old new : Words) where
  behind_sound : (verb : CallVerb) (e : CallEntry) → TakesCall verb old new e → (rest : List (List ℕ)) → left_of new ≡ Some rest
      → (x : CallEntry) × HasSmallCall x × (e ≡ x) × (verb_of x ≡ verb) × (left_of old ≡ Some (tail_of x ++ rest))
  behind_sound call_verbs.Disable e t rest h = let s = t.sound rest h in (called.Disable, tt, s.2, refl, s.3)
  behind_sound call_verbs.HardClear e t rest h = let s = t.sound rest h in (called.HardClear, tt, s.2, refl, s.3)
  behind_sound call_verbs.Synced e t rest h = let s = t.sound rest h in (called.Synced, tt, s.2, refl, s.3)
  behind_sound call_verbs.Enable e t rest h = let s = t.sound rest h in (called.Enable s.0, tt, s.2, refl, s.3)
  behind_sound call_verbs.Unlink e t rest h = let s = t.sound rest h in (called.Unlink s.0.1 (dev_no s.0.0), s.1.0, s.2, refl, s.3)
  behind_sound call_verbs.Freed e t rest h = let s = t.sound rest h in (called.Freed (dev_no s.0), s.1, s.2, refl, s.3)
  behind_sound call_verbs.Wake e t rest h = let s = t.sound rest h in (called.Wake s.0.1 (dev_no s.0.0), s.1.0, s.2, refl, s.3)
  behind_sound call_verbs.Quiet e t rest h = let s = t.sound rest h in (called.Quiet (dev_no s.0), s.1, s.2, refl, s.3)
  behind_sound call_verbs.Arm e t rest h = let s = t.sound rest h in (called.Arm s.0.1 (dev_no s.0.0), s.1.0, s.2, refl, s.3)
  behind_sound call_verbs.Serve e t rest h = let s = t.sound rest h in (called.Serve (dev_no s.0.0) s.0.1, s.1, s.2, refl, s.3)

  behind_complete : (x e : CallEntry) → TakesCall (verb_of x) old new e → (rest : List (List ℕ)) → HasSmallCall x
      → left_of old ≡ Some (tail_of x ++ rest) → (e ≡ x) × (left_of new ≡ Some rest)
  behind_complete called.Disable e t rest small h = t.complete tt rest tt h
  behind_complete called.HardClear e t rest small h = t.complete tt rest tt h
  behind_complete called.Synced e t rest small h = t.complete tt rest tt h
  behind_complete (called.Enable answer) e t rest small h = t.complete answer rest tt h
  behind_complete (called.Unlink answer dev) e t rest small h = t.complete (dev.0, answer) rest (small, tt) h
  behind_complete (called.Freed dev) e t rest small h = t.complete dev.0 rest small h
  behind_complete (called.Wake woken dev) e t rest small h = t.complete (dev.0, woken) rest (small, tt) h
  behind_complete (called.Quiet dev) e t rest small h = t.complete dev.0 rest small h
  behind_complete (called.Arm edge dev) e t rest small h = t.complete (dev.0, edge) rest (small, tt) h
  behind_complete (called.Serve dev served) e t rest small h = t.complete (dev.0, served) rest small h

-- the verb that a word was read as, and what follows it
pub call_from : (word : List ℕ) (old mid new : Words) (read : Option CallVerb) (verb : CallVerb) (e : CallEntry) → Reads Any call_verb_word word read
    → MatchOption read (left_of mid ≡ None) (λ x. (verb ≡ x) × (mid ≡ old)) → TakesCall verb mid new e → TakesCallFrom word old new e
call_from word old mid new (Some v) verb e reads fit t = record {
  sound = λ rest h.
      let s = behind_sound mid new verb e t rest h in (
        s.0,
        s.1,
        s.2,
        tail_of s.0 ++ rest,
        sym (ap left_of fit.1) ∙ s.4,
        ap (λ w. w ∷ (tail_of s.0 ++ rest)) (reads.1 ∙ ap call_verb_word (sym fit.0 ∙ sym s.3)) ∙ ap (λ ws. ws ++ rest) (sym (call_parts s.0)),
      );
  complete = λ x rest words small h same.
      let whole : word ∷ words ≡ call_verb_word (verb_of x) ∷ (tail_of x ++ rest) = same ∙ ap (λ ws. ws ++ rest) (call_parts x) in
      let first : word ≡ call_verb_word (verb_of x) = cc in
      let others : words ≡ tail_of x ++ rest = cc in
      let its : verb ≡ verb_of x = fit.0 ∙ call_tells v (verb_of x) (sym reads.1 ∙ first) in
      behind_complete mid new x e (subst (λ (v : CallVerb). TakesCall v mid new e) its t) rest small (ap left_of fit.1 ∙ (h ∙ ap (λ ws. Some ws) others));
}
call_from word old mid new None verb e reads fit t = record {
  sound = λ rest h. let s = behind_sound mid new verb e t rest h in absurd (none-some (tail_of s.0 ++ rest) (sym fit ∙ s.4));
  complete = λ x rest words small h same.
      let whole : word ∷ words ≡ call_verb_word (verb_of x) ∷ (tail_of x ++ rest) = same ∙ ap (λ ws. ws ++ rest) (call_parts x) in
      let first : word ≡ call_verb_word (verb_of x) = cc in
      absurd (reads (verb_of x) tt first);
}

module _ (old mid : Words) (word : List ℕ) (took : Takes (one (λ w. w)) old mid word) where
  -- a call whose first word it is
  pub first_is : (x : CallEntry) → left_of old ≡ Some (call_words x) → (word ≡ call_verb_word (verb_of x)) × (left_of mid ≡ Some (tail_of x))
  first_is x h = took.complete (call_verb_word (verb_of x)) (tail_of x) tt (h ∙ ap (λ ws. Some ws) (call_parts x))

  pub no_call : is_call_word word ≡ false → (x : CallEntry) → left_of old ≡ Some (call_words x) → ⊥
  no_call other x h = false≢true (sym other ∙ (ap is_call_word (first_is x h).0 ∙ call_is (verb_of x)))

  -- the call is all that was left
  pub call_whole : (new : Words) (e : CallEntry) → TakesCallFrom word mid new e → left_of new ≡ Some []
      → (x : CallEntry) × HasSmallCall x × (e ≡ x) × (left_of old ≡ Some (call_words x))
  call_whole new e t h =
      let s = t.sound [] h in
      let w = took.sound s.3 s.4 in
      (s.0, s.1, s.2, w.3 ∙ ap (λ ws. Some ws) (ap (λ v. v ∷ s.3) (sym w.2) ∙ (s.5 ∙ append-nil (call_words s.0))))

  pub call_read : (new : Words) (e : CallEntry) → TakesCallFrom word mid new e → (x : CallEntry) → HasSmallCall x → left_of old ≡ Some (call_words x)
      → (e ≡ x) × (left_of new ≡ Some [])
  call_read new e t x small h =
      let f = first_is x h in
      t.complete x [] (tail_of x) small f.1 (ap (λ w. w ∷ tail_of x) f.0 ∙ (sym (call_parts x) ∙ sym (append-nil (call_words x))))
