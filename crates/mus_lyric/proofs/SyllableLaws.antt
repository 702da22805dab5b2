-- Characters spell exactly one list of syllables: the list that a walk finds.
use Rattle.std.proofs.Common.{◌≡◌, ℕ, List, [], ◌∷◌, ◌++◌, refl, sym, ◌∙◌, ap, subst, append_assoc, append-nil}
use Rattle.std.proofs.lemmas.List.{map-append}
use Rattle.mus_lyric.specs.declared.character.Character.{Character}
use Rattle.mus_lyric.specs.declared.character.Character.TheVariants.{Printed, Blank, Hyphen, Underscore, Star, BarLine}
use Rattle.mus_lyric.specs.declared.syllable.Syl.{Syl}
use Rattle.mus_lyric.specs.Characters.{characters}
use Rattle.mus_lyric.specs.Syllables.{AreSyllablesOf, EndsRun, SpellsSyllables, nothing, blank, word, hyphened, hyphen}
use Rattle.mus_lyric.specs.Syllables.{underscore, star, bar, printed_run, after_run, syllables_of}
use Rattle.mus_lyric.specs.declared.syllable.Syl.TheVariants as syl

after_run-printed : (before run : List ℕ) (more : List Character)
    → after_run before (printed_run run ++ more) ≡ after_run (before ++ run) more
after_run-printed before [] more = rw append-nil refl
after_run-printed before (byte ∷ run) more =
    after_run-printed (before ++ byte ∷ []) run more
    ∙ ap (λ x. after_run x more) (append_assoc before (byte ∷ []) run)

after_run-ended : (first : ℕ) (run : List ℕ) (more : List Character)
    → EndsRun more → after_run (first ∷ run) more ≡ syl.Print (first ∷ run) ∷ after_run [] more
after_run-ended first run [] e = refl
after_run-ended first run (Printed byte ∷ more) e = absurd e
after_run-ended first run (Blank ∷ more) e = refl
after_run-ended first run (Hyphen ∷ more) e = absurd e
after_run-ended first run (Underscore ∷ more) e = refl
after_run-ended first run (Star ∷ more) e = refl
after_run-ended first run (BarLine ∷ more) e = refl

one_spelt : (characters : List Character) (syls : List Syl)
    → SpellsSyllables characters syls → syls ≡ after_run [] characters
one_spelt _ _ nothing = refl
one_spelt _ _ (blank more syls s) = one_spelt more syls s
one_spelt _ _ (word first run more syls e s) =
    ap (λ x. syl.Print (first ∷ run) ∷ x) (one_spelt more syls s)
    ∙ sym (after_run-printed (first ∷ []) run more ∙ after_run-ended first run more e)
one_spelt _ _ (hyphened first run more syls s) =
    ap (λ x. syl.Print (first ∷ run ++ 45 ∷ []) ∷ x) (one_spelt more syls s)
    ∙ sym (after_run-printed (first ∷ []) run (Hyphen ∷ more))
one_spelt _ _ (hyphen more syls s) = ap (λ x. syl.Print (45 ∷ []) ∷ x) (one_spelt more syls s)
one_spelt _ _ (underscore more syls s) = ap (λ x. syl.Print (95 ∷ []) ∷ x) (one_spelt more syls s)
one_spelt _ _ (star more syls s) = ap (λ x. syl.Skip ∷ x) (one_spelt more syls s)
one_spelt _ _ (bar more syls s) = ap (λ x. syl.Bar ∷ x) (one_spelt more syls s)

printed-more : (run : List ℕ) (byte : ℕ) (more : List Character)
    → printed_run (run ++ byte ∷ []) ++ more ≡ printed_run run ++ Printed byte ∷ more
printed-more run byte more =
    ap (λ x. x ++ more) (map-append Printed run (byte ∷ [])) ∙ append_assoc (printed_run run) (Printed byte ∷ []) more

spelt : (characters : List Character) (run : List ℕ)
    → SpellsSyllables (printed_run run ++ characters) (after_run run characters)
spelt [] [] = nothing
spelt [] (first ∷ run) = word first run [] [] tt nothing
spelt (Printed byte ∷ more) run =
    subst (λ x. SpellsSyllables x (after_run (run ++ byte ∷ []) more)) (printed-more run byte more)
    (spelt more (run ++ byte ∷ []))
spelt (Blank ∷ more) [] = blank more _ (spelt more [])
spelt (Blank ∷ more) (first ∷ run) = word first run (Blank ∷ more) _ tt (blank more _ (spelt more []))
spelt (Hyphen ∷ more) [] = hyphen more _ (spelt more [])
spelt (Hyphen ∷ more) (first ∷ run) = hyphened first run more _ (spelt more [])
spelt (Underscore ∷ more) [] = underscore more _ (spelt more [])
spelt (Underscore ∷ more) (first ∷ run) = word first run (Underscore ∷ more) _ tt (underscore more _ (spelt more []))
spelt (Star ∷ more) [] = star more _ (spelt more [])
spelt (Star ∷ more) (first ∷ run) = word first run (Star ∷ more) _ tt (star more _ (spelt more []))
spelt (BarLine ∷ more) [] = bar more _ (spelt more [])
spelt (BarLine ∷ more) (first ∷ run) = word first run (BarLine ∷ more) _ tt (bar more _ (spelt more []))

pub is_spelt : (words : List ℕ) (syls : List Syl) → syls ≡ after_run [] (characters words) → AreSyllablesOf words syls
is_spelt words syls e = subst (λ x. AreSyllablesOf words x) (sym e) (spelt (characters words) [])

pub is_one : (words : List ℕ) (syls : List Syl)
    → syls ≡ after_run [] (characters words) → (other : List Syl) → AreSyllablesOf words other → other ≡ syls
is_one words syls e other s = one_spelt (characters words) other s ∙ sym e

pub is_value : (words : List ℕ) (syls : List Syl) → syls ≡ after_run [] (characters words) → syls ≡ syllables_of words
unfolding syllables_of
is_value words syls e = e
