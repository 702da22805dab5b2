-- How further accidentals are added to those of a key.
use Rattle.std.specs.Prelude.{◌++◌, not, List, [], ◌∷◌, filter}
use Rattle.mus_units.specs.{Good.same_letter, declared.key.Sign.Sign}

-- an added accidental replaces the entry of its letter and goes last
abbrev pub with_sign : List Sign → Sign → List Sign
with_sign signs add = filter (λ s. not (same_letter s.letter add.letter)) signs ++ add ∷ []

-- accidentals added to others, one by one
abbrev pub laid : List Sign → List Sign → List Sign
laid signs [] = signs
laid signs (add ∷ adds) = laid (with_sign signs add) adds
