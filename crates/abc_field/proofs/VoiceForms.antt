-- A text reads as a clef, or as a voice, exactly when a good form of it spells the text.
use Rattle.std.proofs.Common.{◌≡◌, refl, sym, ap, ◌∙◌, ℕ, ◌-◌, List, [], ◌∷◌, ◌++◌, Bool, true, false, length, take}
use Rattle.std.proofs.Common.{drop, map, not, nat_eq, nat_le, find}
use Rattle.std.proofs.Common.{◌||◌, Some, None, codes, cond, take-append-drop}
use Rattle.std.proofs.lemmas.Bool.{and_parts, cond_both, leb-true, le-leb}
use Rattle.std.proofs.lemmas.Option.{same_Some}
use Rattle.std.proofs.lemmas.Slice.Eq.{bytes_eq-Decides}
use Rattle.std.specs.Prelude.{⊤}
use Rattle.std.specs.List.{ends_with}
use Rattle.std.specs.{Option.option_map, Str.bytes_eq}
use Rattle.mus_units.specs.{declared.{pitch.Clef.Clef, note.Wish.Wish}, Pitch.{clef_row, clef_named, all_clefs}}
use Rattle.abc_field.specs.VoiceSpelling.{ClefForm, plain_clef, above_clef, below_clef, clef_spelled}
use Rattle.abc_field.specs.VoiceSpelling.{clef_meant, wish_name, SaysVoice}
use Rattle.abc_field.specs.VoiceSpelling.{PropertyForm, clef_property, name_property, stem_property, other_property}
use Rattle.abc_field.specs.VoiceSpelling.{property_spelled}
use Rattle.abc_field.specs.VoiceSpelling.{IsGoodProperty, AreGoodProperties, property_meant}
use Rattle.abc_field.specs.declared.voice.VoiceDef.{VoiceDef}
use Rattle.abc_field.specs.declared.voice.VoiceWord.{VoiceWord}
use Rattle.abc_field.specs.Keys.{clef_of}
use Rattle.abc_field.specs.Words.{next_word, properties_of, ends_quoted, after_prefix}
use Rattle.abc_field.specs.WordSpelling.{IsFirstWord}
use Rattle.abc_field.specs.Voices.{wish_of, by_stem, by_clef, voice_word, voice_words, voice_def, is_good_voice}
use Rattle.abc_field.specs.Voices.{voice_by_id, voice_of}
use Rattle.abc_field.proofs.{MeterForms.{following-takes, following-leading}, WordForms.{first-takes, first-read}}
use Rattle.abc_field.proofs.ReadLaws.{Where, where_read, where_then, where_map, option_case, word_case, HasForm, formed}
use Rattle.abc_field.proofs.ReadLaws.{unread, none_read, nothing}
use Rattle.abc_field.proofs.ReadLaws.{HaveForms, more_forms}

-- Clefs.
pub clef-read : (form : ClefForm) → clef_of (clef_spelled form) ≡ Some (clef_meant form)
unfolding clef_of
clef-read (plain_clef Clef.Treble) = refl
clef-read (above_clef Clef.Treble) = refl
clef-read (below_clef Clef.Treble) = refl
clef-read _ = refl

abbrev IsName : List ℕ → Type 0
IsName w = HasForm (λ clef. (clef_row clef).name) (λ _. ⊤) w

found-takes : (w : List ℕ) (clefs : List Clef)
    → Where (IsName w) (find (λ clef. bytes_eq (clef_row clef).name w) clefs)
found-takes w [] = tt
found-takes w (clef ∷ clefs) =
    cond_both (bytes_eq (clef_row clef).name w) (Some clef) _ (Where (IsName w))
    (λ e. formed clef tt (sym ((bytes_eq-Decides (clef_row clef).name w).0 e)))
    (λ _. found-takes w clefs)

named-takes : (w : List ℕ) → Where (IsName w) (clef_named w)
named-takes w = found-takes w all_clefs

-- a text that ends with these two bytes is what precedes them, followed by them
ends-cut : (w end : List ℕ) → ends_with nat_eq w end ≡ true → w ≡ take (length w - length end) w ++ end
ends-cut w end e =
    let same : end ≡ drop (length w - length end) w = (bytes_eq-Decides end (drop (length w - length end) w)).0 e in
    sym (take-append-drop (length w - length end) w) ∙ ap (λ t. take (length w - length end) w ++ t) (sym same)

abbrev pub IsClef : List ℕ → Type 0
IsClef w = HasForm clef_spelled (λ _. ⊤) w

pub clef-takes : (w : List ℕ) → Where (IsClef w) (clef_of w)
unfolding clef_of
clef-takes w = by_end _ _ refl refl
  where
    by_end : (above below : Bool) → ends_with nat_eq w (codes "+8") ≡ above → ends_with nat_eq w (codes "-8") ≡ below
        → Where (IsClef w) (clef_named (cond (above || below) (take (length w - 2) w) w))
    by_end true below e f =
        where_then (clef_named (take (length w - 2) w)) (named-takes (take (length w - 2) w))
        (λ name. formed (above_clef name.form) tt (ends-cut w (codes "+8") e ∙ ap (λ t. t ++ codes "+8") name.spelled))
    by_end false true e f =
        where_then (clef_named (take (length w - 2) w)) (named-takes (take (length w - 2) w))
        (λ name. formed (below_clef name.form) tt (ends-cut w (codes "-8") f ∙ ap (λ t. t ++ codes "-8") name.spelled))
    by_end false false e f =
        where_then (clef_named w) (named-takes w) (λ name. formed (plain_clef name.form) tt name.spelled)

-- if no form of a clef spells it, none is read
pub no_clef_read : (w : List ℕ) → ((form : ClefForm) → w ≡ clef_spelled form → ⊥) → clef_of w ≡ None
no_clef_read w none = none_read (clef_of w) (clef-takes w) (λ clef. none clef.form clef.spelled)

pub no_prefix : (leading w : List ℕ) → ((rest : List ℕ) → w ≡ leading ++ rest → ⊥) → after_prefix leading w ≡ None
no_prefix leading w none = nothing (after_prefix leading w) (following-takes leading w) none

pub clef_after : (w name : List ℕ) → after_prefix (codes "clef=") w ≡ Some name
    → Where (HasForm (λ clef. codes "clef=" ++ clef_spelled clef) (λ _. ⊤) w) (clef_of name)
clef_after w name e =
    where_then (clef_of name) (clef-takes name)
    (λ clef. formed clef.form tt (following-takes (codes "clef=") w name e ∙ ap (λ t. codes "clef=" ++ t) clef.spelled))

-- Properties.
property-read : (form : PropertyForm)
    → IsGoodProperty form → voice_word (property_spelled form) ≡ Some (property_meant form)
unfolding voice_word after_prefix clef_of
property-read (clef_property clef) good = ap (λ o. option_map (λ c. VoiceWord.Names c) o) (clef-read clef)
property-read (other_property word) good =
    rw (
      no_prefix (codes "clef=") word good.no_clef,
      no_prefix (codes "stem=") word good.no_stem,
      no_clef_read word good.no_name,
    ) refl
property-read (stem_property Wish.Up) good = refl
property-read (name_property (plain_clef Clef.Treble)) good = refl
property-read (name_property (above_clef Clef.Treble)) good = refl
property-read (name_property (below_clef Clef.Treble)) good = refl
property-read _ good = refl

abbrev IsWay : List ℕ → Type 0
IsWay way = HasForm wish_name (λ _. ⊤) way

way-takes : (way : List ℕ) → Where (IsWay way) (wish_of way)
way-takes way =
    word_case (Where (IsWay way)) way (codes "up") _ _ (formed Wish.Up tt)
    (λ _. word_case (Where (IsWay way)) way (codes "down") _ _ (formed Wish.Down tt)
    (λ _. word_case (Where (IsWay way)) way (codes "auto") _ _ (formed Wish.Auto tt) (λ _. tt)))

abbrev IsProperty : List ℕ → Type 0
IsProperty w = HasForm property_spelled IsGoodProperty w

property-takes : (w : List ℕ) → Where (IsProperty w) (voice_word w)
unfolding voice_word
property-takes w =
    option_case (λ o. Where (IsProperty w) (by_clef w o)) (after_prefix (codes "clef=") w)
    (λ name e.
    where_map _ (clef_of name) (clef_after w name e) (λ clef. formed (clef_property clef.form) tt clef.spelled))
    (λ no_clef. option_case (λ o. Where (IsProperty w) (by_stem w o)) (after_prefix (codes "stem=") w)
    (λ way e. where_map _ (wish_of way) (way-takes way)
    (λ wish.
    formed (stem_property wish.form) tt
    (following-takes (codes "stem=") w way e ∙ ap (λ t. codes "stem=" ++ t) wish.spelled)))
    (λ no_stem. option_case (λ o. IsProperty w) (clef_of w)
    (λ clef e. let found = where_read e (clef-takes w) in formed (name_property found.form) tt found.spelled)
    (λ no_name. formed (other_property w) (record {
      no_clef = λ name. unread (after_prefix (codes "clef=")) no_clef (following-leading (codes "clef=") name);
      no_stem = λ way. unread (after_prefix (codes "stem=")) no_stem (following-leading (codes "stem=") way);
      no_name = λ clef. unread clef_of no_name (clef-read clef);
    }) refl)))

-- All properties.
properties-take : (ws : List (List ℕ)) → Where (HaveForms property_spelled AreGoodProperties ws) (voice_words ws)
properties-take [] = record { forms = []; good = tt; spelled = refl }
properties-take (w ∷ ws) =
    more_forms property_spelled IsGoodProperty AreGoodProperties w ws (voice_word w) (voice_words ws)
    (λ _ _ one more. (one, more)) (property-takes w)
    (properties-take ws)

properties-read : (forms : List PropertyForm)
    → AreGoodProperties forms → voice_words (map property_spelled forms) ≡ Some (map property_meant forms)
properties-read [] good = refl
properties-read (form ∷ forms) good = rw (property-read form good.0, properties-read forms good.1) refl

-- Voices.
voice-at : (text id rest : List ℕ) (forms : List PropertyForm)
    → IsFirstWord text id rest → is_good_voice id rest ≡ true → AreGoodProperties forms
    → properties_of rest ≡ map property_spelled forms → voice_of text ≡ Some (voice_def id (map property_meant forms))
unfolding voice_of
voice-at text id rest forms first fine good spelled =
    rw (first-read text id rest first, fine, spelled, properties-read forms good) refl

-- a text reads as a voice only if a good form of it spells the text
pub voice-says : (text : List ℕ) (voice : VoiceDef) → voice_of text ≡ Some voice → SaysVoice text voice
unfolding voice_of
voice-says text voice h =
    where_read h
    (option_case (λ o. Where (SaysVoice text voice) (voice_by_id o)) (next_word false text)
    (λ next e. cond_both (is_good_voice next.0 next.1) _ _ (Where (SaysVoice text voice))
    (λ fine. where_map _ (voice_words (properties_of next.1)) (properties-take (properties_of next.1))
    (λ all.
    let first = first-takes text next e in
    let tests = and_parts (nat_le (length next.0) 20) (not (ends_quoted false next.1)) fine in
    record {
      id = next.0;
      rest = next.1;
      forms = all.forms;
      first = first;
      short = leb-true _ _ tests.0;
      closed = tests.1;
      good = all.good;
      spelled = all.spelled;
      meant = same_Some _ voice (sym (voice-at text next.0 next.1 all.forms first fine all.good all.spelled) ∙ h);
    }))
    (λ bad. tt))
    (λ none. tt))

-- and it does whenever one spells it
pub voice-read : (text : List ℕ) (voice : VoiceDef) → SaysVoice text voice → voice_of text ≡ Some voice
voice-read text voice says =
    let short : nat_le (length says.id) 20 ≡ true = le-leb _ _ says.short in
    let closed : not (ends_quoted false says.rest) ≡ true = says.closed in
    voice-at text says.id says.rest says.forms says.first (rw (short, closed) refl) says.good says.spelled
    ∙ ap Some says.meant
