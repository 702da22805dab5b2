-- Good drawn voices: signatures have at most one sign for a letter, and heads, those of graces too, are near the
-- staff, and so are the ends of stems.
use Rattle.mus_score.specs.Limits.{head_limit}
use Rattle.std.specs.Prelude.{◌≤◌, ⊤, List, [], ◌∷◌, length, map, IfSome}
use Rattle.std.specs.List.{AllByRecursion}
use Rattle.mus_units.specs.declared.pitch.Clef.{Clef}
use Rattle.mus_units.specs.Good.{AreGoodSigns, IsGoodKey}
use Rattle.mus_score.specs.declared.score.Event.{Event}
use Rattle.mus_score.specs.declared.score.Flat.{Flat}
use Rattle.mus_stems.specs.Heads.{AllNear, stand_of}
use Rattle.mus_stems.specs.Plans.{IsEndNear}
use Rattle.mus_drawn.specs.declared.drawn.DrawnEvent.{DrawnEvent}
use Rattle.mus_drawn.specs.declared.drawn.DrawnMeasure.{DrawnMeasure}

-- an event whose change of key is good and which has few verses
pub record CanDraw (f : Flat) : Type 0 where
  pub key : IfSome f.event.changes.key IsGoodKey
  pub words : length f.event.words ≤ 8

abbrev pub AllCanDraw : List Flat → Type 0
AllCanDraw [] = ⊤
AllCanDraw (f ∷ fs) = CanDraw f × AllCanDraw fs

-- a grace can be drawn in a clef
pub record CanGrace (clef : Clef) (grace : Event) : Type 0 where
  pub near : AllNear (map (stand_of clef) grace.heads)
  pub few : length grace.heads ≤ head_limit

abbrev pub AllCanGrace : Clef → List Event → Type 0
AllCanGrace clef [] = ⊤
AllCanGrace clef (g ∷ gs) = CanGrace clef g × AllCanGrace clef gs

pub record IsGoodDrawn (e : DrawnEvent) : Type 0 where
  pub old : AreGoodSigns e.old
  pub key : IfSome e.flat.event.changes.key IsGoodKey
  pub graces : AllCanGrace e.clef e.flat.graces
  pub few_graces : length e.flat.graces ≤ head_limit
  pub words : length e.flat.event.words ≤ 8
  pub end : IsEndNear e.plan

abbrev pub AreGoodDrawn : List DrawnEvent → Type 0
AreGoodDrawn es = AllByRecursion IsGoodDrawn es

pub record IsGoodMeasure (m : DrawnMeasure) : Type 0 where
  pub opening : IsGoodKey m.opening.key
  pub events : AreGoodDrawn m.events

abbrev pub AreGoodMeasures : List DrawnMeasure → Type 0
AreGoodMeasures ms = AllByRecursion IsGoodMeasure ms
