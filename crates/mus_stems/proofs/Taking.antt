-- The stem inputs of events that can be drawn are good.
use Rattle.mus_score.specs.Limits.{head_limit}
use Rattle.std.proofs.Common.{◌≡◌, ◌≤◌, List, [], ◌∷◌, length, map, refl, subst, sym, ap, suc}
use Rattle.mus_units.specs.declared.pitch.Clef.{Clef}
use Rattle.mus_units.specs.declared.note.Head.{Head}
use Rattle.mus_score.specs.declared.score.Flat.{Flat}
use Rattle.mus_score.specs.GoodScore.{clef_at}
use Rattle.mus_stems.specs.declared.stills.StemInput.{StemInput}
use Rattle.mus_stems.specs.Heads.{stand_of}
use Rattle.mus_stems.specs.Stills.{still_of, clefs_from, stills, CanDrawEvent, AllCanStand, IsGoodStill, AllGood}

length-stands : (c : Clef) (hs : List Head) → length (map (stand_of c) hs) ≡ length hs
length-stands c [] = refl
length-stands c (h ∷ hs) = ap (λ n. suc n) (length-stands c hs)

still_is_good : (f : Flat) (c : Clef) → CanDrawEvent f c → IsGoodStill (still_of f c)
unfolding still_of
still_is_good f c can = (can.near, subst (λ n. n ≤ head_limit) (sym (length-stands c f.event.heads)) can.few, can.dots)

all_good : (fs : List Flat) (cs : List Clef) → AllCanStand fs cs → AllGood (stills fs cs)
all_good [] cs can = tt {0}
all_good (f ∷ fs) [] can = tt {0}
all_good (f ∷ fs) (c ∷ cs) can = (still_is_good f c can.0, all_good fs cs can.1)

pub stills_are_good : (es : List StemInput) (fs : List Flat) (cs : List Clef)
    → es ≡ stills fs cs → AllCanStand fs cs → AllGood es
stills_are_good es fs cs e can = subst AllGood (sym e) (all_good fs cs can)

pub stills_length : (clef : Clef) (fs : List Flat) → length (stills fs (clefs_from clef fs)) ≡ length fs
stills_length clef [] = refl
stills_length clef (f ∷ fs) = ap suc (stills_length (clef_at clef f.event) fs)
