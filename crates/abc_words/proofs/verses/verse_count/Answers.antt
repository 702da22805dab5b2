use Rattle.std.proofs.Common.{◌≡◌, arith, rules}
use Rattle.abc_words.{specs.Verses.{rows_in, verse_count}, proofs.FaultLaws.few_verses}
use Rattle.abc_words.proofs.verses.verse_count.Goals as goal

pub returns-clause-few : goal.returns-clause-few
returns-clause-few c none =
    let verses = c.args.verses.now in
    let is : c.greatest.result ≡ verse_count verses = search rules in
    omega (arith, is, few_verses verses.list (rows_in verses) none)
