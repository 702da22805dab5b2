use Rattle.std.proofs.Common.{◌≡◌, ◌++◌, drop, flat_map}
use Rattle.mus_words.specs.Texts.{shown_deco}
use Rattle.mus_words.proofs.texts.add_decos.Given as goal

abbrev pub invariant-loop-deco : goal.invariant-loop-deco
invariant-loop-deco l =
    l.out ++ flat_map (shown_deco l.below) (drop l.deco-index l.decos)
    ≡ l.fn.out ++ flat_map (shown_deco l.below) l.decos
