use Rattle.std.proofs.Common.{◌≡◌, ◌++◌, drop, flat_map}
use Rattle.lay_shared.specs.Drawn.{seated_voice}
use Rattle.lay_shared.proofs.drawing.drawn_voices.Given as goal

abbrev pub invariant-loop-sit : goal.invariant-loop-sit
invariant-loop-sit l =
    l.drawn ++ flat_map (seated_voice l.voices) (drop l.sit-index l.sits) ≡ flat_map (seated_voice l.voices) l.sits
