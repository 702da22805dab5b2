use Rattle.std.proofs.{Common.◌≡◌, Common.arith, lemmas.Grind.common_steps}
use Rattle.mus_lyric.{specs.Singing.{first_measure, sung_from}, proofs.SingingLaws.{is_sung, is_one, is_value}}
use Rattle.mus_lyric.proofs.singing.align.Goals as goal

walked : (c : goal.Left-syllables)
    → c.syllables.sung ≡ sung_from c.args.syls.now (first_measure c.args.notes.now) c.args.notes.now
walked c = grind (arith, common_steps)

pub returns-clause-sung : goal.returns-clause-sung
returns-clause-sung c = is_sung c.args.notes.now c.args.syls.now c.syllables.sung (walked c)

pub returns-clause-one_list : goal.returns-clause-one_list
returns-clause-one_list c = is_one c.args.notes.now c.args.syls.now c.syllables.sung (walked c)

pub returns-clause-value : goal.returns-clause-value
returns-clause-value c = is_value c.args.notes.now c.args.syls.now c.syllables.sung (walked c)
