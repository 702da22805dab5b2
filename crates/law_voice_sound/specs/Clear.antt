-- A clear voice: no chord, including those of graces, has two heads of one letter and octave, and no note follows an
-- unseen bar after a measure. There is no condition on the bar before the first measure: no note was heard before it.
use Rattle.std.specs.{Prelude.{⊤, ◌≡◌, ◌⊎◌, false, List, [], ◌∷◌, All}, List.list_any}
use Rattle.mus_units.specs.declared.glyph.Glyph.{Glyph}
use Rattle.mus_units.specs.declared.note.Head.{Head}
use Rattle.mus_arcs.specs.Arcs.{has_pitch}
use Rattle.mus_ink.specs.Bars.{bar_glyph}
use Rattle.mus_score.specs.declared.score.Flat.{Flat}
use Rattle.mus_score.specs.declared.score.Measure.{Measure}
use Rattle.mus_score.specs.declared.score.Score.{Score}
use Rattle.mus_score.specs.declared.score.Voice.{Voice}
use Rattle.mus_score.specs.Times.{flats_of}

abbrev pub DistinctPitches : List Head → Type 0
DistinctPitches [] = ⊤
DistinctPitches (h ∷ hs) = (list_any (has_pitch h.pitch) hs ≡ false) × DistinctPitches hs

pub record IsClearFlat (f : Flat) : Type 0 where
  pub chord : DistinctPitches f.event.heads
  pub graces : All (λ g. DistinctPitches g.heads) f.graces

-- no event of a list has a head, and none in some measures; graces are not listed, so they do not count
abbrev pub HaveNoHeads : List Flat → Type 0
HaveNoHeads [] = ⊤
HaveNoHeads (f ∷ fs) = (f.event.heads ≡ []) × HaveNoHeads fs

abbrev pub AreSilentMeasures : List Measure → Type 0
AreSilentMeasures [] = ⊤
AreSilentMeasures (m ∷ ms) = HaveNoHeads (flats_of m.body) × AreSilentMeasures ms

abbrev pub AreSeenBars : List Measure → Type 0
AreSeenBars [] = ⊤
AreSeenBars (m ∷ ms) = ((bar_glyph m.bar ≡ Glyph.Nn → ⊥) ⊎ AreSilentMeasures ms) × AreSeenBars ms

pub record IsClearVoice (v : Voice) : Type 0 where
  pub chords : All (λ m. All IsClearFlat (flats_of m.body)) v.measures
  pub bars : AreSeenBars v.measures

abbrev pub IsClearScore : Score → Type 0
IsClearScore s = All IsClearVoice s.voices
