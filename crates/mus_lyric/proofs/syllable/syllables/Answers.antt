use Rattle.{std.proofs.Common.{rules}, mus_lyric.proofs.SyllableLaws.{is_spelt, is_one, is_value}}
use Rattle.mus_lyric.proofs.syllable.syllables.Goals as goal

pub returns-clause-spelt : goal.returns-clause-spelt
returns-clause-spelt c = is_spelt c.args.words.now c.end_run.new.syls (search rules)

pub returns-clause-one_list : goal.returns-clause-one_list
returns-clause-one_list c = is_one c.args.words.now c.end_run.new.syls (search rules)

pub returns-clause-value : goal.returns-clause-value
returns-clause-value c = is_value c.args.words.now c.end_run.new.syls (search rules)
