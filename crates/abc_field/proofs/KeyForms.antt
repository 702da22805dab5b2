-- A text reads as a key exactly when a good form of it spells the words of the text.
use Rattle.std.proofs.Common.{◌≡◌, refl, sym, ap, ◌∙◌, subst, ℕ, List, [], ◌∷◌, false, map, ◌==◌, Option, Some, None}
use Rattle.std.proofs.Common.{codes}
use Rattle.std.proofs.lemmas.Bool.{eqb-false, ne_eqb}
use Rattle.std.proofs.lemmas.Option.{none-some}
use Rattle.std.proofs.Math.Bool.{and-false}
use Rattle.std.specs.Char.{to_ascii_lowercase}
use Rattle.std.specs.{Option.option_and_then, Prelude.⊤}
use Rattle.{mus_units.specs.declared.pitch.Letter.Letter, mus_pitch.specs.declared.circle.Mode.Mode}
use Rattle.abc_field.specs.Keys.{natural_letter, key_words, major_like, minor_like, mode_named, mode_by_three, mode_of}
use Rattle.abc_field.specs.Keys.{key_start, start_with}
use Rattle.abc_field.specs.Keys.{without_mode, mode_on, altered, tonic_of, fixed_start, first_words, key_by, key_from}
use Rattle.abc_field.specs.Keys.{key_of}
use Rattle.abc_field.specs.KeySpelling.{tonic_byte, word_spelled, word_meant, AreGoodWords, KeyWordForm, ModeName}
use Rattle.abc_field.specs.KeySpelling.{maj_name, ion_name, mix_name}
use Rattle.abc_field.specs.KeySpelling.{lyd_name, min_name, aeo_name, dor_name, phr_name, loc_name, three_letters}
use Rattle.abc_field.specs.KeySpelling.{mode_of_name, ModeForm}
use Rattle.abc_field.specs.KeySpelling.{minor_form, named_form, mode_spelled, IsGoodMode, mode_meant, Accident}
use Rattle.abc_field.specs.KeySpelling.{plain_tonic, sharp_tonic, flat_tonic}
use Rattle.abc_field.specs.KeySpelling.{accident_spelled, accident_meant, tonic_spelled, KeyHead, empty_head, none_head}
use Rattle.abc_field.specs.KeySpelling.{bagpipe_head}
use Rattle.abc_field.specs.KeySpelling.{signed_bagpipe_head, tonic_head, written_head, parted_head, kept_head}
use Rattle.abc_field.specs.KeySpelling.{head_spelled, NoMode, BeginsNoKey}
use Rattle.abc_field.specs.KeySpelling.{IsGoodHead, head_meant, SaysKey}
use Rattle.abc_field.specs.declared.key.KeyText.{KeyText}
use Rattle.abc_field.specs.declared.key.Tonic.{Tonic}
use Rattle.abc_field.specs.WordSpelling.{HasWords}
use Rattle.abc_field.specs.Words.{words_of}
use Rattle.abc_field.proofs.WordForms.{words-spelled, words-of-spelled}
use Rattle.abc_field.proofs.KeyWordForms.{Spells, natural-takes, words-take, words-read}
use Rattle.abc_field.proofs.ReadLaws.{Where, where_read, where_then, where_or, where_map, option_case, byte_case}
use Rattle.abc_field.proofs.ReadLaws.{word_case, HasForm, formed, unread}
use Rattle.abc_field.proofs.ReadLaws.{none_read}

-- Modes.
three-read : (name : ModeName) → mode_named (three_letters name) ≡ Some (mode_of_name name)
three-read maj_name = refl
three-read _ = refl

mode-read : (form : ModeForm) → IsGoodMode form → mode_of (mode_spelled form) ≡ Some (mode_meant form)
unfolding mode_of
mode-read minor_form good = refl
mode-read (named_form name a b c more) good = rw (and-false (a == 109)) (ap mode_named good ∙ three-read name)

abbrev IsThree : List ℕ → Type 0
IsThree s = HasForm three_letters (λ _. ⊤) s

three-takes : (s : List ℕ) → Where (IsThree s) (mode_named s)
three-takes s =
    where_or (IsThree s) (major_like s) (minor_like s)
    (word_case (Where (IsThree s)) s (codes "maj") _ _ (formed maj_name tt)
    (λ _. word_case (Where (IsThree s)) s (codes "ion") _ _ (formed ion_name tt)
    (λ _. word_case (Where (IsThree s)) s (codes "mix") _ _ (formed mix_name tt)
    (λ _. word_case (Where (IsThree s)) s (codes "lyd") _ _ (formed lyd_name tt) (λ _. tt)))))
    (word_case (Where (IsThree s)) s (codes "min") _ _ (formed min_name tt)
    (λ _. word_case (Where (IsThree s)) s (codes "aeo") _ _ (formed aeo_name tt)
    (λ _. word_case (Where (IsThree s)) s (codes "dor") _ _ (formed dor_name tt)
    (λ _. word_case (Where (IsThree s)) s (codes "phr") _ _ (formed phr_name tt)
    (λ _. word_case (Where (IsThree s)) s (codes "loc") _ _ (formed loc_name tt) (λ _. tt))))))

abbrev IsMode : List ℕ → Type 0
IsMode s = HasForm mode_spelled IsGoodMode s

by_three-takes : (s : List ℕ) → Where (IsMode s) (mode_by_three s)
by_three-takes (a ∷ b ∷ c ∷ s) =
    let low : List ℕ = to_ascii_lowercase a ∷ to_ascii_lowercase b ∷ to_ascii_lowercase c ∷ [] in
    where_then (mode_named low) (three-takes low) (λ three. formed (named_form three.form a b c s) three.spelled refl)
by_three-takes _ = tt

mode-takes : (s : List ℕ) → Where (IsMode s) (mode_of s)
unfolding mode_of
mode-takes s = word_case (Where (IsMode s)) s (codes "m") _ _ (formed minor_form tt) (λ _. by_three-takes s)

-- Tonics.
abbrev with_mode : Letter → Accident → Option Mode → Tonic
with_mode letter accident mode = record { letter = letter; alter = accident_meant accident; mode = mode }

tonic-at : (letter : Letter) (s : List ℕ) → tonic_of (tonic_byte letter ∷ s) ≡ altered letter s
unfolding tonic_of
tonic-at Letter.C s = refl
tonic-at _ s = refl

tonic-plain : (letter : Letter) (accident : Accident)
    → tonic_of (tonic_spelled letter accident []) ≡ Some (with_mode letter accident None)
tonic-plain letter plain_tonic = tonic-at letter []
tonic-plain letter sharp_tonic = tonic-at letter (35 ∷ [])
tonic-plain letter flat_tonic = tonic-at letter (98 ∷ [])

altered-read : (letter : Letter) (accident : Accident) (b : ℕ) (s : List ℕ) (mode : Mode)
    → (b == 35) ≡ false → (b == 98) ≡ false → mode_of (b ∷ s) ≡ Some mode
    → altered letter (accident_spelled accident (b ∷ s)) ≡ Some (with_mode letter accident (Some mode))
altered-read letter plain_tonic b s mode e f h = rw (e, f, h) refl
altered-read letter _ b s mode e f h = rw h refl

abbrev first_of : List ℕ → ℕ
first_of [] = 0
first_of (b ∷ s) = b

abbrev no_accident : ModeName → ℕ → Type 0
no_accident name k = (first_of (three_letters name) == k) ≡ false

no_sharp : (name : ModeName) → no_accident name 35
no_sharp maj_name = refl
no_sharp _ = refl

no_flat : (name : ModeName) → no_accident name 98
no_flat maj_name = refl
no_flat _ = refl

-- a mode written directly after a tonic begins with neither a sharp nor a flat
begins_other : (name : ModeName) (k a : ℕ) → no_accident name k → to_ascii_lowercase k ≡ k
    → to_ascii_lowercase a ≡ first_of (three_letters name) → (a == k) ≡ false
begins_other name k a other low good =
    ne_eqb a k (λ is. eqb-false _ k other (sym good ∙ ap to_ascii_lowercase is ∙ low))

tonic-written : (letter : Letter) (accident : Accident) (mode : ModeForm) → IsGoodMode mode
    → tonic_of (tonic_spelled letter accident (mode_spelled mode))
    ≡ Some (with_mode letter accident (Some (mode_meant mode)))
tonic-written letter accident minor_form good =
    tonic-at letter (accident_spelled accident (codes "m"))
    ∙ altered-read letter accident 109 [] Mode.Min refl refl (mode-read minor_form tt)
tonic-written letter accident (named_form name a b c more) good =
    let other = λ (k : ℕ) (no : no_accident name k) (low : to_ascii_lowercase k ≡ k).
    begins_other name k a no low (ap first_of good) in
    tonic-at letter (accident_spelled accident (a ∷ b ∷ c ∷ more))
    ∙ altered-read letter accident a (b ∷ c ∷ more) (mode_of_name name) (other 35 (no_sharp name) refl)
    (other 98 (no_flat name) refl)
    (mode-read (named_form name a b c more) good)

data IsTonic (w : List ℕ) : Type 0 where
  bare : (letter : Letter) (accident : Accident) → w ≡ tonic_spelled letter accident [] → IsTonic w
  moded : (letter : Letter) (accident : Accident) (mode : ModeForm) → IsGoodMode mode
      → w ≡ tonic_spelled letter accident (mode_spelled mode) → IsTonic w

module _ (w : List ℕ) (letter : Letter) where
  on-takes : (accident : Accident) (s : List ℕ)
      → w ≡ tonic_spelled letter accident s → Where (IsTonic w) (mode_on letter (accident_meant accident) s)
  on-takes accident [] is = bare letter accident is
  on-takes accident (b ∷ s) is =
      where_map _ (mode_of (b ∷ s)) (mode-takes (b ∷ s))
      (λ mode. moded letter accident mode.form mode.good (is ∙ ap (tonic_spelled letter accident) mode.spelled))

  altered-takes : (s : List ℕ) → w ≡ tonic_byte letter ∷ s → Where (IsTonic w) (altered letter s)
  altered-takes [] is = bare letter plain_tonic is
  altered-takes (b ∷ s) is =
      byte_case (Where (IsTonic w)) b 35 _ _ (λ e. on-takes sharp_tonic s (is ∙ ap (λ c. tonic_byte letter ∷ c ∷ s) e))
      (λ _.
      byte_case (Where (IsTonic w)) b 98 _ _ (λ e. on-takes flat_tonic s (is ∙ ap (λ c. tonic_byte letter ∷ c ∷ s) e))
      (λ _. on-takes plain_tonic (b ∷ s) is))

tonic-takes : (w : List ℕ) → Where (IsTonic w) (tonic_of w)
unfolding tonic_of
tonic-takes [] = tt
tonic-takes (b ∷ s) = by_letter (natural_letter b) (natural-takes b)
  where
    by_letter : (o : Option Letter)
        → Spells b o → Where (IsTonic (b ∷ s)) (option_and_then (λ letter. altered letter s) o)
    by_letter None is = tt
    by_letter (Some letter) is = altered-takes (b ∷ s) letter s (ap (λ c. c ∷ s) is)

-- Beginnings.
tonic-fixed : (letter : Letter) (s : List ℕ) → fixed_start (tonic_byte letter ∷ s) ≡ None
tonic-fixed Letter.C s = refl
tonic-fixed _ s = refl

unmoded : (letter : Letter) (accident : Accident) (more : List (List ℕ)) → NoMode more
    → without_mode letter (accident_meant accident) more ≡ (key_start letter (accident_meant accident) Mode.Maj, more)
unmoded letter accident [] none = refl
unmoded letter accident (w ∷ more) none =
    rw (none_read (mode_of w) (mode-takes w) (λ mode. none mode.form mode.good mode.spelled)) refl

not_fixed : (w : List ℕ) → BeginsNoKey w → fixed_start w ≡ None
not_fixed w no_key =
    word_case (λ o. o ≡ None) w (codes "none") _ _ (λ is. absurd (no_key.no_none is))
    (λ _. word_case (λ o. o ≡ None) w (codes "HP") _ _ (λ is. absurd (no_key.no_bagpipe is))
    (λ _. word_case (λ o. o ≡ None) w (codes "Hp") _ _ (λ is. absurd (no_key.no_signed_bagpipe is)) (λ _. refl)))

no_tonic : (w : List ℕ) → BeginsNoKey w → IsTonic w → ⊥
no_tonic w no_key (bare letter accident is) = no_key.no_tonic letter accident is
no_tonic w no_key (moded letter accident mode good is) = no_key.no_written letter accident mode good is

-- a good beginning is read
head-read : (head : KeyHead) (more : List (List ℕ))
    → IsGoodHead head more → first_words (head_spelled head more) ≡ (head_meant head, more)
unfolding first_words
head-read empty_head more good = rw good refl
head-read none_head more good = refl
head-read bagpipe_head more good = refl
head-read signed_bagpipe_head more good = refl
head-read (tonic_head letter accident) more good =
    rw (tonic-fixed letter (accident_spelled accident []), tonic-plain letter accident)
    (unmoded letter accident more good)
head-read (written_head letter accident mode) more good =
    rw (tonic-fixed letter (accident_spelled accident (mode_spelled mode)), tonic-written letter accident mode good)
    refl
head-read (parted_head letter accident mode) more good =
    rw (tonic-fixed letter (accident_spelled accident []), tonic-plain letter accident, mode-read mode good) refl
head-read kept_head [] good = absurd good
head-read kept_head (w ∷ more) good =
    rw (not_fixed w good, none_read (tonic_of w) (tonic-takes w) (no_tonic w good)) refl

-- and each list of words has a good beginning
record HasHead (ws : List (List ℕ)) : Type 0 where
  head : KeyHead
  more : List (List ℕ)
  good : IsGoodHead head more
  spelled : ws ≡ head_spelled head more

headed : {ws : List (List ℕ)} (head : KeyHead) (more : List (List ℕ))
    → IsGoodHead head more → ws ≡ head_spelled head more → HasHead ws
headed head more good is = record { head = head; more = more; good = good; spelled = is }

tonic_begun : (w : List ℕ) (more : List (List ℕ)) → IsTonic w → HasHead (w ∷ more)
tonic_begun w [] (bare letter accident is) = headed (tonic_head letter accident) [] tt (ap (λ t. t ∷ []) is)
tonic_begun w (v ∷ more) (bare letter accident is) =
    option_case (λ _. HasHead (w ∷ v ∷ more)) (mode_of v)
    (λ _ e. let mode = where_read e (mode-takes v) in
    headed (parted_head letter accident mode.form) more mode.good
    (ap (λ t. t ∷ v ∷ more) is ∙ ap (λ t. tonic_spelled letter accident [] ∷ t ∷ more) mode.spelled))
    (λ none.
    headed (tonic_head letter accident) (v ∷ more) (λ mode good. unread mode_of none (mode-read mode good))
    (ap (λ t. t ∷ v ∷ more) is))
tonic_begun w more (moded letter accident mode good is) =
    headed (written_head letter accident mode) more good (ap (λ t. t ∷ more) is)

fixed_begun : (w : List ℕ) (more : List (List ℕ)) → Where (HasHead (w ∷ more)) (fixed_start w)
fixed_begun w more =
    word_case (Where (HasHead (w ∷ more))) w (codes "none") _ _ (λ is. headed none_head more tt (ap (λ t. t ∷ more) is))
    (λ _.
    word_case (Where (HasHead (w ∷ more))) w (codes "HP") _ _
    (λ is. headed bagpipe_head more tt (ap (λ t. t ∷ more) is))
    (λ _.
    word_case (Where (HasHead (w ∷ more))) w (codes "Hp") _ _
    (λ is. headed signed_bagpipe_head more tt (ap (λ t. t ∷ more) is)) (λ _. tt)))

has_head : (ws : List (List ℕ)) → HasHead ws
has_head [] = headed empty_head [] refl refl
has_head (w ∷ more) =
    option_case (λ _. HasHead (w ∷ more)) (fixed_start w) (λ _ e. where_read e (fixed_begun w more))
    (λ free.
    option_case (λ _. HasHead (w ∷ more)) (tonic_of w) (λ _ e. tonic_begun w more (where_read e (tonic-takes w)))
    (λ none. headed kept_head (w ∷ more) (record {
      no_none = unread fixed_start free refl;
      no_bagpipe = unread fixed_start free refl;
      no_signed_bagpipe = unread fixed_start free refl;
      no_tonic = λ letter accident. unread tonic_of none (tonic-plain letter accident);
      no_written = λ letter accident mode good. unread tonic_of none (tonic-written letter accident mode good);
    }) refl))

-- Keys.
key-at : (text : List ℕ) (head : KeyHead) (forms : List KeyWordForm)
    → IsGoodHead head (map word_spelled forms) → AreGoodWords forms
    → HasWords text (head_spelled head (map word_spelled forms))
    → key_of text ≡ key_by (start_with (head_meant head) (map word_meant forms)) (map word_meant forms)
unfolding key_of
key-at text head forms good_head good spelled =
    let words = map word_spelled forms in
    rw (words-of-spelled (head_spelled head words) text spelled, head-read head words good_head, words-read forms good)
    refl

key-from : (text : List ℕ) (head : HasHead (words_of text))
    → key_of text ≡ key_from (head_meant head.head) (key_words head.more)
unfolding key_of
key-from text head = rw (head.spelled, head-read head.head head.more head.good) refl

-- a text reads as a key only if a good form of it spells the text
pub key-says : (text : List ℕ) (key : KeyText) → key_of text ≡ Some key → SaysKey text key
key-says text key h =
    let begun = has_head (words_of text) in
    option_case (λ _. SaysKey text key) (key_words begun.more)
    (λ _ e.
    let all = where_read e (words-take begun.more) in
    let good = subst (λ ws. IsGoodHead begun.head ws) all.spelled begun.good in
    let words = begun.spelled ∙ ap (head_spelled begun.head) all.spelled in
    let spelled = words-spelled (head_spelled begun.head (map word_spelled all.forms)) text words in
    record {
      head = begun.head;
      forms = all.forms;
      good_head = good;
      good = all.good;
      spelled = spelled;
      meant = sym (key-at text begun.head all.forms good all.good spelled) ∙ h;
    })
    (λ none. absurd (none-some key (sym (key-from text begun ∙ ap (key_from (head_meant begun.head)) none) ∙ h)))

-- and it does whenever one spells it
pub key-read : (text : List ℕ) (key : KeyText) → SaysKey text key → key_of text ≡ Some key
key-read text key says = key-at text says.head says.forms says.good_head says.good says.spelled ∙ says.meant
