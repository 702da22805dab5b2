use Rattle.{std.proofs.Common.{string_bytes, map}, abcps_words.proofs.Alone.{asks_by, none_by, good_of}}
use Rattle.abcps_words.proofs.command.command_of.Goals as goal

pub returns-clause-asks : goal.returns-clause-asks
returns-clause-asks c =
    let read = c.in_ok-options_of.ensures in
    asks_by (map string_bytes c.args.words.now) (map string_bytes c.in_ok-command.rest.now) c.in_ok-command.command
    c.in_ok-options_of.field-0 read.0 c.in_ok-command.ensures.1 read.1 read.2
    c.with_options.result c.with_options.ensures

pub returns-clause-ranges : goal.returns-clause-ranges
returns-clause-ranges c =
    let read = c.in_ok-options_of.ensures in
    good_of (map string_bytes c.args.words.now) c.with_options.result
    (asks_by (map string_bytes c.args.words.now) (map string_bytes c.in_ok-command.rest.now) c.in_ok-command.command
    c.in_ok-options_of.field-0 read.0 c.in_ok-command.ensures.1 read.1 read.2
    c.with_options.result c.with_options.ensures)

pub returns-clause-none : goal.returns-clause-none
returns-clause-none c =
    let read = c.in_ok-options_of.ensures in
    none_by (map string_bytes c.args.words.now) (map string_bytes c.in_ok-command.rest.now) c.in_ok-command.command
    c.in_ok-options_of.field-0 read.0 c.in_ok-command.ensures.1 read.1 read.2
    c.with_options.result c.with_options.ensures
