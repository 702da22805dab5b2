use Rattle.std.proofs.Common.{◌≡◌, ◌++◌, drop, flat_map}
use Rattle.mus_words.specs.Texts.{shown_mention}
use Rattle.mus_words.proofs.texts.add_mentions.Given as goal

abbrev pub invariant-loop-mention : goal.invariant-loop-mention
invariant-loop-mention l =
    l.out ++ flat_map (shown_mention l.below) (drop l.mention-index l.mentions)
    ≡ l.fn.out ++ flat_map (shown_mention l.below) l.mentions
