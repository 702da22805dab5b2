-- The syllables of a line of words. A syllable is a longest run of printed characters, and a hyphen directly after it
-- is printed with it and ends it.
use Rattle.std.specs.Prelude.{codes}
use Rattle.std.specs.Prelude.{ℕ, List, [], ◌∷◌, ◌++◌, map}
use Rattle.mus_lyric.specs.declared.character.Character.{Character}
use Rattle.mus_lyric.specs.declared.character.Character.TheVariants.{Printed, Blank, Hyphen, Underscore, Star, BarLine}
use Rattle.mus_lyric.specs.declared.syllable.Syl.{Syl}
use Rattle.mus_lyric.specs.Characters.{characters}
use Rattle.mus_lyric.specs.declared.syllable.Syl.TheVariants as syl

-- does not begin with a printed character or a hyphen
abbrev pub EndsRun : List Character → Type 0
EndsRun [] = Unit {0}
EndsRun (Printed byte ∷ more) = ⊥
EndsRun (Blank ∷ more) = Unit {0}
EndsRun (Hyphen ∷ more) = ⊥
EndsRun (Underscore ∷ more) = Unit {0}
EndsRun (Star ∷ more) = Unit {0}
EndsRun (BarLine ∷ more) = Unit {0}

-- the characters of a run of printed bytes
abbrev pub printed_run : List ℕ → List Character
printed_run run = map Printed run

-- the syllables that characters spell; a run has at least one byte
pub data SpellsSyllables : List Character → List Syl → Type 0 where
  nothing : SpellsSyllables [] []
  blank : (more : List Character) (syls : List Syl) → SpellsSyllables more syls → SpellsSyllables (Blank ∷ more) syls
  word : (first : ℕ) (run : List ℕ) (more : List Character) (syls : List Syl)
      → EndsRun more → SpellsSyllables more syls
      → SpellsSyllables (Printed first ∷ printed_run run ++ more) (syl.Print (first ∷ run) ∷ syls)
  hyphened : (first : ℕ) (run : List ℕ) (more : List Character) (syls : List Syl)
      → SpellsSyllables more syls
      → SpellsSyllables (Printed first ∷ printed_run run ++ Hyphen ∷ more) (syl.Print (first ∷ run ++ codes "-") ∷ syls)
  hyphen : (more : List Character) (syls : List Syl)
      → SpellsSyllables more syls → SpellsSyllables (Hyphen ∷ more) (syl.Print (codes "-") ∷ syls)
  underscore : (more : List Character) (syls : List Syl)
      → SpellsSyllables more syls → SpellsSyllables (Underscore ∷ more) (syl.Print (codes "_") ∷ syls)
  star : (more : List Character) (syls : List Syl)
      → SpellsSyllables more syls → SpellsSyllables (Star ∷ more) (syl.Skip ∷ syls)
  bar : (more : List Character) (syls : List Syl)
      → SpellsSyllables more syls → SpellsSyllables (BarLine ∷ more) (syl.Bar ∷ syls)

-- the syllables of a line of words
abbrev pub AreSyllablesOf : List ℕ → List Syl → Type 0
AreSyllablesOf words syls = SpellsSyllables (characters words) syls

-- ---- one list of syllables, between their definition and the code

-- a run that ends here, if there is one
abbrev pub run_ended : List ℕ → List Syl → List Syl
run_ended [] syls = syls
run_ended (first ∷ run) syls = syl.Print (first ∷ run) ∷ syls

-- the syllables of characters after a run
abbrev pub after_run : List ℕ → List Character → List Syl
after_run run [] = run_ended run []
after_run run (Printed byte ∷ more) = after_run (run ++ byte ∷ []) more
after_run run (Blank ∷ more) = run_ended run (after_run [] more)
after_run run (Hyphen ∷ more) = syl.Print (run ++ codes "-") ∷ after_run [] more
after_run run (Underscore ∷ more) = run_ended run (syl.Print (codes "_") ∷ after_run [] more)
after_run run (Star ∷ more) = run_ended run (syl.Skip ∷ after_run [] more)
after_run run (BarLine ∷ more) = run_ended run (syl.Bar ∷ after_run [] more)

unfoldable pub syllables_of : List ℕ → List Syl
syllables_of words = after_run [] (characters words)
