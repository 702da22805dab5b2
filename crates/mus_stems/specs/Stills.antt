-- What a stem plan needs of an event: its value, whether a space or a line end separates it from the event before it,
-- and where its heads are in its clef.
use Rattle.mus_score.specs.Limits.{head_limit}
use Rattle.std.specs.{Prelude.{ℕ, ◌≤◌, Bool, true, false, ⊤, List, [], ◌∷◌, length, map}, List.AllByRecursion}
use Rattle.mus_units.specs.declared.value.Base.{Base}
use Rattle.mus_units.specs.declared.pitch.Clef.{Clef}
use Rattle.mus_score.specs.declared.score.Flat.{Flat}
use Rattle.mus_score.specs.GoodScore.{clef_at}
use Rattle.mus_stems.specs.declared.stills.StemInput.{StemInput}
use Rattle.mus_stems.specs.Heads.{AllNear, stand_of}

-- the flags of a base: one for 1/8, one more for each halving
abbrev pub flags_of : Base → ℕ
flags_of Base.Eighth = 1
flags_of Base.N16 = 2
flags_of Base.N32 = 3
flags_of Base.N64 = 4
flags_of _ = 0

-- 1/2 and less have a stem
abbrev pub is_short : Base → Bool
is_short Base.Breve = false
is_short Base.Whole = false
is_short _ = true

unfoldable pub still_of : Flat → Clef → StemInput
still_of f c = record {
  id = f.event.id;
  base = f.event.value.base;
  dots = f.event.value.dots;
  parted = f.event.parted;
  stands = map (stand_of c) f.event.heads;
}

-- the clef at each event
abbrev pub clefs_from : Clef → List Flat → List Clef
clefs_from clef [] = []
clefs_from clef (f ∷ fs) = clef_at clef f.event ∷ clefs_from (clef_at clef f.event) fs

-- events, each in its own clef
abbrev pub stills : List Flat → List Clef → List StemInput
stills [] cs = []
stills (f ∷ fs) [] = []
stills (f ∷ fs) (c ∷ cs) = still_of f c ∷ stills fs cs

-- an event that can be drawn in a clef: at most 50,000 heads, each at height -14 to 22, and at most 3 dots
pub record CanDrawEvent (f : Flat) (c : Clef) : Type 0 where
  pub near : AllNear (map (stand_of c) f.event.heads)
  pub few : length f.event.heads ≤ head_limit
  pub dots : f.event.value.dots ≤ 3

-- each event can be drawn in its own clef
abbrev pub AllCanStand : List Flat → List Clef → Type 0
AllCanStand [] cs = ⊤
AllCanStand (f ∷ fs) [] = ⊤
AllCanStand (f ∷ fs) (c ∷ cs) = CanDrawEvent f c × AllCanStand fs cs

-- the same for stem inputs
abbrev pub IsGoodStill : StemInput → Type 0
IsGoodStill e = AllNear e.stands × (length e.stands ≤ head_limit) × (e.dots ≤ 3)

abbrev pub AllGood : List StemInput → Type 0
AllGood es = AllByRecursion IsGoodStill es
