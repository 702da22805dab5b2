-- The lines of words in a body, and those of the verses of a voice: no line is before an earlier one.
use Rattle.std.specs.Prelude.{ℕ, ◌≤◌, List, [], ◌∷◌, ⊤}
use Rattle.abc_steps.specs.declared.step.BodyItem.{BodyItem}
use Rattle.abc_words.specs.declared.verses.Verse.{Verse}
use Rattle.abc_words.specs.declared.verses.Verses.{Verses}

abbrev pub DoWordsRiseFrom : ℕ → List BodyItem → Type 0
DoWordsRiseFrom low [] = ⊤
DoWordsRiseFrom low (BodyItem.Words text line ∷ items) = (low ≤ line) × DoWordsRiseFrom line items
DoWordsRiseFrom low (i ∷ items) = DoWordsRiseFrom low items

abbrev pub DoWordsRise : List BodyItem → Type 0
DoWordsRise items = DoWordsRiseFrom 0 items

abbrev pub DoVersesRiseFrom : ℕ → List Verse → Type 0
DoVersesRiseFrom low [] = ⊤
DoVersesRiseFrom low (v ∷ vs) = (low ≤ v.line) × DoVersesRiseFrom v.line vs

abbrev pub DoVersesRise : Verses → Type 0
DoVersesRise v = DoVersesRiseFrom 0 v.list
