use Rattle.std.proofs.Common.{◌≡◌, arith, subst, sym}
use Rattle.std.proofs.lemmas.Grind.{common_steps}
use Rattle.abc_words.specs.declared.verses.Verses.{Verses}
use Rattle.abc_words.{specs.Verses.{AreOnRows, verses_of_voice}, proofs.VerseLaws.verses_within}
use Rattle.abc_words.proofs.verses.verses_of_voice.Goals as goal

pub returns-clause-within : goal.returns-clause-within
returns-clause-within c =
    let found : Verses = record { ends = c.loop-item.ends; list = c.loop-item.list } in
    let are : found ≡ verses_of_voice c.args.id.now c.args.unnamed.now c.args.items.now = grind (arith, common_steps) in
    subst AreOnRows (sym are) (verses_within c.args.id.now c.args.unnamed.now c.args.items.now)
