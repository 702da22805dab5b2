use Rattle.std.proofs.Common.{refl}
use Rattle.ps_steps.specs.Tokens.{string_front, open_string, no_string}
use Rattle.ps_tokens.proofs.Spellings.{byte_shorter}
use Rattle.ps_tokens.proofs.Words.{words_string, words_open, words_no_string, words_no_open}
use Rattle.ps_tokens.proofs.string.string.Goals as goal

pub loop-b-smaller : goal.loop-b-smaller
loop-b-smaller c = byte_shorter c.loop-b.rest.now c.in-Byte.b c.in-Byte.after.now c.in-Byte.ensures

pub returns-in-Close : goal.returns-in-Close
returns-in-Close c =
    string_front c.args.bytes.now c.loop-b.words c.in-Close.after.now refl
    (words_string c.args.bytes.now c.loop-b.words c.loop-b.rest.now c.in-Close.after.now c.loop-b.invariant
    c.in-Close.ensures)

pub returns-in-Cut : goal.returns-in-Cut
returns-in-Cut c =
    open_string c.args.bytes.now refl
    (words_open c.args.bytes.now c.loop-b.words c.loop-b.rest.now c.loop-b.invariant c.in-Cut.ensures)

pub returns-in-Broken : goal.returns-in-Broken
returns-in-Broken c =
    no_string c.args.bytes.now refl
    (words_no_string c.args.bytes.now c.loop-b.words c.loop-b.rest.now c.loop-b.invariant c.in-Broken.ensures)
    (words_no_open c.args.bytes.now c.loop-b.words c.loop-b.rest.now c.loop-b.invariant c.in-Broken.ensures)
